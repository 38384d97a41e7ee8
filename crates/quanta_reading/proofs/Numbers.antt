-- The numbers of a call's answer fit a word.
-- Assumes nothing.
use Rattle.std.specs.Prelude.{Ok, Err}
use mathlib.Core.Path.{◌≡◌, refl, ap, sym, subst}
use mathlib.Core.Bool.{Bool, true, false}
use mathlib.Core.List.{List}
use Prim.Native.Nat.{ℕ, ◌/◌, ◌<◌}
use native.Mathlib.Omega.{arith}
use lib.Dec.{ltb}
use lib.ListN.{length}
use Rattle.quanta_token.specs.declared.edition.Edition.{Edition}
use Rattle.quanta_lexer.specs.Promise.{Promised}
use Rattle.quanta_lexer.specs.Tokens.{Tok, lex_all}
use Rattle.quanta_lexer.specs.Tokenizing.{tokenizing}
use Rattle.quanta_lexer.specs.Tokenizing.{Answer as OfBytes}
use Rattle.quanta_lexer.specs.declared.refusal.Failure.TheVariants.{Refused, Short}
use Rattle.quanta_lexer.proofs.Theorems.{accepted, short_small, refusals_small}
use Rattle.quanta_grammar.specs.Productions.{Symbol}
use Rattle.quanta_grammar.specs.Reading.{Call}
use Rattle.quanta_grammar.specs.Refine.{text, Answer as OfTokens, accept, reject, answer}
use Rattle.quanta_grammar.proofs.Theorems.{fewer, answered}
use Rattle.quanta_reading.specs.declared.answer.Failure.{Failure}
use Rattle.quanta_reading.specs.Reading.{Answer, in_room, parsed, lexed, answering, reading, Conforms}
use Rattle.quanta_reading.specs.Values.{FailureFits, FitsFailure, FitsWord, Fits}
use Rattle.quanta_reading.proofs.TokenWords.{closes, length_refine}

-- an answer, or a failure, that is taken apart
pub fits_of : {r x : Answer} → r ≡ x → Fits r → FitsWord x
fits_of z f = subst FitsWord z f.by

pub failure_fits_of : {r x : Failure} → r ≡ x → FitsFailure r → FailureFits x
failure_fits_of z f = subst FailureFits z f.by

module _ (ed : Edition) {s : Symbol} (c : Call s) (source table : List ℕ) (words tree : ℕ) where
  abbrev toks : List Tok
  toks = (lex_all ed source table).toks

  by_room : (b : Bool) (n m : ℕ) → n < 4294967296 → m < 4294967296 → FitsWord (in_room b n m)
  by_room true n m h k = k
  by_room false n m h k = (h, k)

  -- records never outnumber tokens
  by_tokens : (n : ℕ) (o : OfTokens) → Promised source toks n → answer s (text ed source) toks ≡ o → FitsWord (parsed (tree / 6) n o)
  by_tokens n (accept rs) p e =
      let d = answered c (text ed source) toks (closes (length source) 0 toks p.ordered) rs e in
      let a = fewer d.tree d.derives.spells in
      let b = length_refine (text ed source) 0 toks in
      let m = ap length d.same in
      by_room (ltb (tree / 6) (length rs)) n (length rs) (omega (arith, p.few, p.limited)) (omega (arith, a, b, m, p.counted, p.few, p.limited))
  by_tokens n (reject k a b w f) p e = tt

  by_lexer : (x : OfBytes) → tokenizing ed source table words ≡ x → FitsWord (lexed x (λ n. parsed (tree / 6) n (answer s (text ed source) toks)))
  by_lexer (Ok n) e = by_tokens n (answer s (text ed source) toks) (accepted ed source table words n e).0 refl
  by_lexer (Err (Refused r)) e = let h = refusals_small ed source table words r.number r.start r.end e in (omega (arith, h.0), omega (arith, h.1))
  by_lexer (Err (Short n)) e = omega (arith, short_small ed source table words n e)

  by_answering : FitsWord (answering ed s source table words tree)
  unfolding answering
  by_answering = by_lexer (tokenizing ed source table words) refl

-- THE NUMBERS OF A CALL THAT CONFORMS FIT
pub fits : {s : Symbol} → Call s → {ed : Edition} {source table : List ℕ} {words tree : ℕ} {r : Answer} {tokens' tree' : List ℕ} → Conforms ed s source table words tree r tokens' tree' → Fits r
unfolding reading
fits c {ed} {source} {table} {words} {tree} f = record { by = subst FitsWord (sym f.answers) (by_answering ed c source table words tree) }
