-- THE READING: a call's answer and every word of both buffers, from the edition, the source, the word table and the
-- lengths of the buffers.
-- Assumes nothing.
use Rattle.std.specs.Prelude.{◌≡◌, Bool, true, false, List, [], ◌∷◌, ◌++◌, ℕ, ◌-◌, ◌*◌, ◌/◌, ltb, length, replicate, Result, Ok, Err}
use Rattle.quanta_token.specs.declared.edition.Edition.{Edition}
use Rattle.grammar.specs.Records.{Rec}
use Rattle.quanta_lexer.specs.Tokens.{lex_all}
use Rattle.quanta_lexer.specs.Tokenizing.{tokenizing, token_words}
use Rattle.quanta_lexer.specs.Tokenizing.{Answer as OfBytes}
use Rattle.quanta_lexer.specs.declared.refusal.Failure.{Failure as NoTokens}
use Rattle.quanta_lexer.specs.declared.refusal.Failure.TheVariants.{Refused, Short}
use Rattle.quanta_grammar.specs.Productions.{Symbol}
use Rattle.quanta_grammar.specs.Refine.{text, Answer as OfTokens, accept, reject, answer}
use Rattle.quanta_reading.specs.declared.answer.Counts.{Counts}
use Rattle.quanta_reading.specs.declared.answer.Failure.{Failure}
use Rattle.quanta_reading.specs.declared.answer.Failure.TheVariants.{Lexical, NoTokenRoom, Syntax, NoTreeRoom}

-- the counts of records, or why there are none
abbrev pub Answer : Type 0
Answer = Result Counts Failure

-- accepted, with so many token and so many tree records
abbrev pub counted : ℕ → ℕ → Answer
counted n m = Ok (record { tokens = n; records = m })

-- 23 with the need if there are more records than room
abbrev pub in_room : Bool → ℕ → ℕ → Answer
in_room true n m = Err (NoTreeRoom m)
in_room false n m = counted n m

-- what the grammar answers of n tokens, with room for so many tree records
abbrev pub parsed : ℕ → ℕ → OfTokens → Answer
parsed room n (accept rs) = in_room (ltb room (length rs)) n (length rs)
parsed room n (reject k a e w f) = Err (Syntax (record { number = k; span = record { start = a; end = e }; wanted = w; found = f }))

-- the lexer's failures, as a call's
abbrev pub failure_of : NoTokens → Failure
failure_of (Refused r) = Lexical r
failure_of (Short n) = NoTokenRoom n

-- .. which come first
abbrev pub lexed : OfBytes → (ℕ → Answer) → Answer
lexed (Err f) later = Err (failure_of f)
lexed (Ok n) later = later n

-- the tree records of what is accepted
abbrev pub records_of : OfTokens → List Rec
records_of (accept rs) = rs
records_of (reject k a e w f) = []

-- .. as words, six each
abbrev pub record_words : List Rec → List ℕ
record_words [] = []
record_words (r ∷ rs) = r.kind ∷ r.flag ∷ r.own ∷ r.start ∷ r.stop ∷ r.count ∷ record_words rs

-- accepted: records at the front, zeros behind; after a refusal all zero
abbrev pub tree_words : ℕ → List Rec → Answer → List ℕ
tree_words words rs (Ok c) = record_words rs ++ replicate (words - 6 * c.records) 0
tree_words words rs (Err f) = replicate words 0

-- an answer, and the words of the token and the tree buffer
pub record Reading : Type 0 where
  pub answer : Answer
  pub tokens : List ℕ
  pub tree : List ℕ

-- the answer of the call s; room is the tree buffer's length divided by 6, rounded down
unfoldable pub answering : Edition → Symbol → List ℕ → List ℕ → ℕ → ℕ → Answer
answering ed s source table tokens tree =
    lexed (tokenizing ed source table tokens) (λ n. parsed (tree / 6) n (answer s (text ed source) (lex_all ed source table).toks))

-- the call s on a source and a word table, with token and tree buffers of so many words
unfoldable pub reading : Edition → Symbol → List ℕ → List ℕ → ℕ → ℕ → Reading
reading ed s source table tokens tree =
    record {
      answer = answering ed s source table tokens tree;
      tokens = token_words ed source table tokens;
      tree = tree_words tree (records_of (answer s (text ed source) (lex_all ed source table).toks)) (answering ed s source table tokens tree);
    }

-- THE CONTRACT of the call s: its answer and the words that it leaves in both buffers are the reading's
pub record Conforms (ed : Edition) (s : Symbol) (source table : List ℕ) (tokens tree : ℕ) (r : Answer) (tokens' tree' : List ℕ) : Type 0 where
  pub answers : r ≡ (reading ed s source table tokens tree).answer
  pub tokened : tokens' ≡ (reading ed s source table tokens tree).tokens
  pub treed : tree' ≡ (reading ed s source table tokens tree).tree
