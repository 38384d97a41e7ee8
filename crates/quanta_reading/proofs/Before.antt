-- Edition 1 reads as before there were editions.
-- Assumes nothing.
use Rattle.std.specs.Prelude.{Ok, Err}
use mathlib.Core.Path.{◌≡◌, refl, ap, sym, subst, ◌∙◌}
use mathlib.Core.List.{List, [], append-nil}
use mathlib.Core.Logic.{◌↔◌}
use Prim.Native.Nat.{ℕ, ◌/◌}
use lib.Dec.{T}
use lib.ListN.{length}
use Rattle.grammar.specs.Grammar.{Tok as GTok, yield, Spells}
use Rattle.grammar.proofs.Halves.{spells_self, spells_single}
use Rattle.quanta_token.specs.declared.edition.Edition.TheVariants.{One}
use Rattle.quanta_lexer.specs.Tokens.{Tok, lex_all}
use Rattle.quanta_lexer.specs.Tokenizing.{tokenizing, token_words}
use Rattle.quanta_lexer.specs.Tokenizing.{Answer as OfBytes}
use Rattle.quanta_lexer.specs.declared.refusal.Failure.TheVariants.{Refused, Short}
use Rattle.quanta_lexer.proofs.PromiseLaws.{in_order}
use Rattle.quanta_lexer.proofs.Theorems.{accepted}
use Rattle.quanta_grammar.specs.Productions.{Symbol, grammar, Derivation}
use Rattle.quanta_grammar.specs.Refine.{Answer as OfTokens, text, kinds, answer}
use Rattle.quanta_grammar.specs.Before.{refine_before}
use Rattle.quanta_grammar.proofs.Theorems.{edition_one_tokens, edition_one_answers}
use Rattle.quanta_grammar.proofs.Refined.{single_text}
use Rattle.quanta_reading.specs.Reading.{Answer, Reading, parsed, lexed, records_of, tree_words, answering, reading, Conforms}
use Rattle.quanta_reading.specs.Before.{grammar_before, reading_before, ConformsBefore}
use Rattle.quanta_reading.specs.Demand3.{Valid, Spelled}
use Rattle.quanta_reading.proofs.Editions.{in_range}

module _ (s : Symbol) (source table : List ℕ) (tokens tree : ℕ) where
  abbrev toks : List Tok
  toks = (lex_all One source table).toks

  -- a reading by what the lexer and the grammar answer
  abbrev made : OfBytes → OfTokens → Reading
  made x o =
      let a = lexed x (λ n. parsed (tree / 6) n o) in
      record { answer = a; tokens = token_words One source table tokens; tree = tree_words tree (records_of o) a }

  by : (x : OfBytes) → tokenizing One source table tokens ≡ x
      → made x (answer s (text One source) toks) ≡ made x (grammar_before s source table)
  by (Ok n) e =
      let p = (accepted One source table tokens n e).0.ordered in
      ap (made (Ok n)) (edition_one_answers s source toks (in_range (length source) 0 toks p))
  by (Err (Refused r)) e = refl
  by (Err (Short n)) e = refl

  pub before : reading One s source table tokens tree ≡ reading_before s source table tokens tree
  unfolding reading answering reading_before
  before = by (tokenizing One source table tokens) refl

  pub conforms_before : {r : Answer} {tokens' tree' : List ℕ} → Conforms One s source table tokens tree r tokens' tree'
      → ConformsBefore s source table tokens tree r tokens' tree'
  conforms_before f =
      record {
        answers = f.answers ∙ ap (λ (x : Reading). x.answer) before;
        tokened = f.tokened ∙ ap (λ (x : Reading). x.tokens) before;
        treed = f.treed ∙ ap (λ (x : Reading). x.tree) before;
      }

-- a derivation spells the tokens of edition 1 when its tokens are those
pub spelled_before : {s : Symbol} (source table : List ℕ) → Valid One source table → (d : Derivation s)
    → Spelled One source table d ↔ (yield d ≡ refine_before source (lex_all One source table).toks)
spelled_before source table v d =
    let ts = (lex_all One source table).toks in
    let h : T (kinds ts) = in_range (length source) 0 ts (in_order One source table v.scanned) in
    let e = edition_one_tokens source ts in (
      λ x. sym (append-nil (yield d)) ∙ spells_single x (single_text source 0 ts h) ∙ e,
      λ x. subst (λ (l : List GTok). Spells grammar l (yield d) []) (append-nil (yield d) ∙ x ∙ sym e)
          (spells_self (yield d) []),
    )
