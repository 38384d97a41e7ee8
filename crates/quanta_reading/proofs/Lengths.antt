-- The words of a reading are as many as the buffers have.
-- Assumes nothing.
use Rattle.std.specs.Prelude.{Ok, Err}
use mathlib.Core.Path.{◌≡◌, refl, ap, ◌∙◌}
use mathlib.Core.Bool.{Bool, true, false}
use mathlib.Core.List.{List, [], ◌∷◌}
use Prim.Native.Nat.{ℕ, ◌-◌, ◌*◌, ◌/◌}
use native.Mathlib.Omega.{arith}
use borrow.Author.Tests.{ltb-false}
use lib.Dec.{ltb}
use lib.ListN.{length, replicate, length-append, length-replicate}
use Rattle.quanta_token.specs.declared.edition.Edition.{Edition}
use Rattle.grammar.specs.Records.{Rec}
use Rattle.quanta_lexer.specs.Tokens.{records, lex_all}
use Rattle.quanta_lexer.specs.Tokenizing.{tokenizing, token_words}
use Rattle.quanta_lexer.specs.Tokenizing.{Answer as OfBytes}
use Rattle.quanta_lexer.specs.declared.refusal.Failure.TheVariants.{Refused, Short}
use Rattle.quanta_lexer.proofs.Theorems.{accepted, records_then_zeros, zeros_after_refusal, zeros_after_short}
use Rattle.quanta_grammar.specs.Productions.{Symbol}
use Rattle.quanta_grammar.specs.Refine.{text, Answer as OfTokens, accept, reject, answer}
use Rattle.quanta_reading.specs.Reading.{in_room, parsed, lexed, records_of, record_words, tree_words, answering, reading}
use Rattle.quanta_reading.proofs.TokenWords.{length_records}

zeros : (n : ℕ) → length {A = ℕ} (replicate n 0) ≡ n
zeros n = length-replicate n 0

token_words_lem : (ed : Edition) (s t : List ℕ) (words : ℕ) → length (token_words ed s t words) ≡ words
token_words_lem ed s t words = by (tokenizing ed s t words) refl
  where
    by : (x : OfBytes) → tokenizing ed s t words ≡ x → length (token_words ed s t words) ≡ words
    by (Ok n) e =
        let p = accepted ed s t words n e in
        let ts = (lex_all ed s t).toks in
        omega (arith, ap length (records_then_zeros ed s t words n e), length-append (records ts) (replicate (words - 3 * n) 0), length_records ts, zeros (words - 3 * n), p.0.counted, p.1)
    by (Err (Refused r)) e = ap length (zeros_after_refusal ed s t words r.number r.start r.end e) ∙ zeros words
    by (Err (Short n)) e = ap length (zeros_after_short ed s t words n e) ∙ zeros words

length_words : (rs : List Rec) → length (record_words rs) ≡ 6 * length rs
length_words [] = refl
length_words (r ∷ rs) = omega (arith, length_words rs)

by_room : (tree n : ℕ) (rs : List Rec) (b : Bool) → ltb (tree / 6) (length rs) ≡ b → length (tree_words tree rs (in_room b n (length rs))) ≡ tree
by_room tree n rs true e = zeros tree
by_room tree n rs false e =
    let h = ltb-false (tree / 6) (length rs) e in
    omega (arith, length-append (record_words rs) (replicate (tree - 6 * length rs) 0), length_words rs, zeros (tree - 6 * length rs))

by_tokens : (tree n : ℕ) (o : OfTokens) → length (tree_words tree (records_of o) (parsed (tree / 6) n o)) ≡ tree
by_tokens tree n (accept rs) = by_room tree n rs (ltb (tree / 6) (length rs)) refl
by_tokens tree n (reject k a b w f) = zeros tree

by_lexer : (tree : ℕ) (o : OfTokens) (x : OfBytes) → length (tree_words tree (records_of o) (lexed x (λ n. parsed (tree / 6) n o))) ≡ tree
by_lexer tree o (Ok n) = by_tokens tree n o
by_lexer tree o (Err (Refused r)) = zeros tree
by_lexer tree o (Err (Short n)) = zeros tree

pub every_word : (ed : Edition) (s : Symbol) (source table : List ℕ) (tokens tree : ℕ) → (length (reading ed s source table tokens tree).tokens ≡ tokens) × (length (reading ed s source table tokens tree).tree ≡ tree)
unfolding reading answering
every_word ed s source table tokens tree = (token_words_lem ed source table tokens, by_lexer tree (answer s (text ed source) (lex_all ed source table).toks) (tokenizing ed source table tokens))
