-- A test of a token list: what it finds to be closed is, and what it refuses is not.
-- Assumes nothing.
use Rattle.std.proofs.Common.{◌≡◌, ℕ, ◌+◌, ◌-◌, ◌*◌, ◌<◌, ◌≤◌, true, false, eqb, ◌⊎◌, List, length, sym, ap, ◌∙◌, inl, inr, eq-or-lt_of_le, arith, eqb-true}
use borrow.Author.Tests.{eqb-false}
use Rattle.quanta_token.specs.TokenKind.{code, Eof}
use Rattle.quanta_cursor.specs.Tokens.{size, kind_at, Closed}

-- the tokens before i are of known kinds, and none is Eof
abbrev pub Before : List ℕ → ℕ → Type 0
Before ws i = (k : ℕ) → k < i → (0 < kind_at ws k) × (kind_at ws k < code Eof)

module _ (ws : List ℕ) (i : ℕ) where
  -- what a token before the last cannot be
  pub not_zero : i + 1 < size ws → kind_at ws i ≡ 0 → Closed ws → ⊥
  not_zero h z k = omega (arith, (k.known i (omega arith)).0)

  pub not_eof : i + 1 < size ws → code Eof ≤ kind_at ws i → Closed ws → ⊥
  not_eof h z k =
      let e : kind_at ws i ≡ code Eof = omega (arith, (k.known i (omega arith)).1) in
      omega (arith, k.only i (omega arith) e)

  module _
      (whole : length ws ≡ size ws * 3)
      (few : size ws < 4294967296)
      (end : i + 1 ≡ size ws)
      (before : Before ws i)
    where
      known : kind_at ws i ≡ code Eof → (k : ℕ) → (k ≡ i) ⊎ (k < i) → (0 < kind_at ws k) × (kind_at ws k ≤ code Eof)
      known e k (inl q) = let b : kind_at ws k ≡ code Eof = ap (kind_at ws) q ∙ e in (omega arith, omega arith)
      known e k (inr l) = let b = before k l in (b.0, omega arith)

      only : (k : ℕ) → (k ≡ i) ⊎ (k < i) → kind_at ws k ≡ code Eof → k + 1 ≡ size ws
      only k (inl q) e = omega arith
      only k (inr l) e = let b = before k l in absurd (omega arith)

      at_end : size ws - 1 ≡ i
      at_end = omega arith

      closed : kind_at ws i ≡ code Eof → Closed ws
      closed e =
          record {
            whole = whole;
            some = omega arith;
            few = few;
            known = λ k h. known e k (eq-or-lt_of_le (omega arith));
            last = ap (kind_at ws) at_end ∙ e;
            only = λ k h. only k (eq-or-lt_of_le (omega arith));
          }

      -- at the last token its kind decides
      pub told_closed : eqb (kind_at ws i) (code Eof) ≡ true → Closed ws
      told_closed e = closed (eqb-true _ _ e)

      pub told_open : eqb (kind_at ws i) (code Eof) ≡ false → Closed ws → ⊥
      told_open e k = eqb-false _ _ e (ap (kind_at ws) (sym at_end) ∙ k.last)

pub ruleset closing = (not_zero, not_eof, told_closed, told_open)
