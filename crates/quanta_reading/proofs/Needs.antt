-- The counts and the needs of an answer are those of the defined lists.
-- Assumes nothing.
use Rattle.std.specs.Prelude.{Ok, Err}
use mathlib.Core.Path.{◌≡◌, refl, subst}
use mathlib.Core.Bool.{Bool, true, false}
use mathlib.Core.List.{List}
use Prim.Native.Nat.{ℕ, ◌/◌, ◌≤◌, ◌<◌}
use borrow.Author.Tests.{ltb-true, ltb-false}
use lib.Dec.{ltb}
use lib.ListN.{length}
use Rattle.quanta_token.specs.declared.edition.Edition.{Edition}
use Rattle.grammar.specs.Records.{Rec}
use Rattle.quanta_lexer.specs.Tokens.{lex_all}
use Rattle.quanta_lexer.specs.Tokenizing.{tokenizing}
use Rattle.quanta_lexer.specs.Tokenizing.{Answer as OfBytes}
use Rattle.quanta_lexer.specs.declared.refusal.Failure.TheVariants.{Refused, Short}
use Rattle.quanta_lexer.proofs.Theorems.{accepted, short}
use Rattle.quanta_grammar.specs.Productions.{Symbol}
use Rattle.quanta_grammar.specs.Refine.{text, Answer as OfTokens, accept, reject, answer}
use Rattle.quanta_reading.specs.declared.answer.Failure.TheVariants.{Lexical, NoTokenRoom, Syntax, NoTreeRoom}
use Rattle.quanta_reading.specs.Reading.{Answer, counted, in_room, parsed, lexed, answering, reading}

module _ (ed : Edition) (s : Symbol) (source table : List ℕ) (tokens tree : ℕ) where
  -- the m records that the grammar answers
  abbrev pub Records : ℕ → Type 0
  Records m = (rs : List Rec) × (answer s (text ed source) (lex_all ed source table).toks ≡ accept rs) × (length rs ≡ m)

  abbrev pub Counted : Answer → Type 0
  Counted (Ok c) = (length (lex_all ed source table).toks ≡ c.tokens) × Records c.records × (c.records ≤ tree / 6)
  Counted (Err (Lexical r)) = Unit {0}
  Counted (Err (NoTokenRoom n)) = (length (lex_all ed source table).toks ≡ n) × (tokens / 3 < n)
  Counted (Err (Syntax e)) = Unit {0}
  Counted (Err (NoTreeRoom m)) = Records m × (tree / 6 < m)

  by_room : (n : ℕ) (rs : List Rec) (b : Bool) → length (lex_all ed source table).toks ≡ n → answer s (text ed source) (lex_all ed source table).toks ≡ accept rs → ltb (tree / 6) (length rs) ≡ b → Counted (in_room b n (length rs))
  by_room n rs true c e h = ((rs, e, refl), ltb-true (tree / 6) (length rs) h)
  by_room n rs false c e h = (c, (rs, e, refl), ltb-false (tree / 6) (length rs) h)

  by_tokens : (n : ℕ) (o : OfTokens) → length (lex_all ed source table).toks ≡ n → answer s (text ed source) (lex_all ed source table).toks ≡ o → Counted (parsed (tree / 6) n o)
  by_tokens n (accept rs) c e = by_room n rs (ltb (tree / 6) (length rs)) c e refl
  by_tokens n (reject k a b w f) c e = tt

  by_lexer : (x : OfBytes) → tokenizing ed source table tokens ≡ x → Counted (lexed x (λ n. parsed (tree / 6) n (answer s (text ed source) (lex_all ed source table).toks)))
  by_lexer (Ok n) e = by_tokens n (answer s (text ed source) (lex_all ed source table).toks) (accepted ed source table tokens n e).0.counted refl
  by_lexer (Err (Refused r)) e = tt
  by_lexer (Err (Short n)) e = let p = short ed source table tokens n e in (p.0.counted, p.1)

  counts : Counted (reading ed s source table tokens tree).answer
  unfolding reading answering
  counts = by_lexer (tokenizing ed source table tokens) refl

  pub accepted_counts : (n m : ℕ) → (reading ed s source table tokens tree).answer ≡ counted n m → (length (lex_all ed source table).toks ≡ n) × Records m × (m ≤ tree / 6)
  accepted_counts n m e = subst Counted e counts

  pub token_need : (n : ℕ) → (reading ed s source table tokens tree).answer ≡ Err (NoTokenRoom n) → (length (lex_all ed source table).toks ≡ n) × (tokens / 3 < n)
  token_need n e = subst Counted e counts

  pub tree_need : (m : ℕ) → (reading ed s source table tokens tree).answer ≡ Err (NoTreeRoom m) → Records m × (tree / 6 < m)
  tree_need m e = subst Counted e counts
