-- What an exported call says, by the number of the edition.
-- Assumes nothing.
use Rattle.std.specs.Prelude.{Result, Ok, Err}
use mathlib.Core.Path.{◌≡◌, refl, ap, sym, subst, ◌∙◌}
use mathlib.Core.List.{List}
use Prim.Native.Nat.{ℕ}
use lib.ListN.{replicate}
use borrow.Author.Tests.{ne_eqb}
use Rattle.quanta_token.specs.Editions.{edition_of}
use Rattle.quanta_token.specs.declared.edition.Edition.{Edition}
use Rattle.quanta_token.specs.declared.edition.UnknownEdition.{UnknownEdition}
use Rattle.quanta_grammar.specs.Productions.{Symbol}
use Rattle.quanta_reading.specs.declared.outcome.Outcome.{Outcome}
use Rattle.quanta_reading.specs.Values.{refused, unknown_edition, values, ExportedIn, ExportedBy, Exported}

none : (n : ℕ) → (n ≡ 1 → ⊥) → (n ≡ 2 → ⊥) → edition_of n ≡ Err (record {})
unfolding edition_of
none n a b = rw (ne_eqb n 1 a, ne_eqb n 2 b) refl

module _ {s : Symbol} {source table : List ℕ} {tokens tree : ℕ} {r : Outcome} {tokens' tree' : List ℕ} where
  -- what the code answers, where it was told what the number says
  told : {edition : ℕ} {n m : Result Edition UnknownEdition} → n ≡ m → n ≡ edition_of edition
      → ExportedBy m s source table tokens tree r tokens' tree' → Exported edition s source table tokens tree r tokens' tree'
  told e f x =
      record { by = subst (λ (n : Result Edition UnknownEdition). ExportedBy n s source table tokens tree r tokens' tree') (sym e ∙ f) x }

  pub known : {edition : ℕ} {n : Result Edition UnknownEdition} {ed : Edition} → n ≡ Ok ed → n ≡ edition_of edition
      → ExportedIn ed s source table tokens tree r tokens' tree' → Exported edition s source table tokens tree r tokens' tree'
  known e f x = told e f x

  pub no_such : {edition : ℕ} {n : Result Edition UnknownEdition} {u : UnknownEdition} → n ≡ Err u → n ≡ edition_of edition
      → (r ≡ refused unknown_edition 0 0 0 0 0) × (tokens' ≡ replicate tokens 0) × (tree' ≡ replicate tree 0)
      → Exported edition s source table tokens tree r tokens' tree'
  no_such e f x = told e f x

  pub unknown : (edition : ℕ) → (edition ≡ 1 → ⊥) → (edition ≡ 2 → ⊥)
      → Exported edition s source table tokens tree r tokens' tree'
      → (r ≡ refused unknown_edition 0 0 0 0 0) × (tokens' ≡ replicate tokens 0) × (tree' ≡ replicate tree 0)
  unknown edition a b x =
      subst (λ (n : Result Edition UnknownEdition). ExportedBy n s source table tokens tree r tokens' tree') (none edition a b) x.by

-- two outcomes that say so are the same
pub coincide : {edition : ℕ} {s : Symbol} {source table : List ℕ} {tokens tree : ℕ} {r r₂ : Outcome}
    {tokens' tokens₂ tree' tree₂ : List ℕ} → Exported edition s source table tokens tree r tokens' tree'
    → Exported edition s source table tokens tree r₂ tokens₂ tree₂ → (r ≡ r₂) × (tokens' ≡ tokens₂) × (tree' ≡ tree₂)
coincide {edition} {s} {source} {table} {tokens} {tree} {r} {r₂} {tokens'} {tokens₂} {tree'} {tree₂} x y =
    by (edition_of edition) x.by y.by
  where
    by : (n : Result Edition UnknownEdition) → ExportedBy n s source table tokens tree r tokens' tree'
        → ExportedBy n s source table tokens tree r₂ tokens₂ tree₂ → (r ≡ r₂) × (tokens' ≡ tokens₂) × (tree' ≡ tree₂)
    by (Ok ed) x y =
        let a = x.2 in
        let b = y.2 in (
          x.1 ∙ ap values (a.answers ∙ sym b.answers) ∙ sym y.1,
          a.tokened ∙ sym b.tokened,
          a.treed ∙ sym b.treed,
        )
    by (Err u) x y = (x.0 ∙ sym y.0, x.1 ∙ sym y.1, x.2 ∙ sym y.2)
