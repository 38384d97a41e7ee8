-- The reader as it was before there were pairs and halves: each token is taken whole.
-- Assumes nothing.
use Rattle.std.specs.Prelude.{List, [], ◌∷◌, ℕ, zero, suc, ◌+◌, ◌-◌, ◌*◌, leb, length}
use Rattle.grammar.specs.Grammar.{Tok, next, one, sub, Items, Grammar, Tree, Forest, end, Tolls, fare, Terms}
use Rattle.grammar.specs.Reader.{Res, got, bad, Choice, use', refuse, Plan, pick, refusal, Reads}
use Rattle.grammar.specs.Reader.{on_head, on_tree, paid}

module _ {G : Grammar} (W : Tolls G) (C : Terms G) (P : Plan G) where
  -- the parts of a production, one after the other
  abbrev pub parts_before : Reads G → (is : Items G) → ℕ → List Tok → Res (Forest G is)
  parts_before rec [] a ts = got end ts
  parts_before rec (one c ∷ is) a ts = on_head P ts (parts_before rec is a)
  parts_before rec (sub s ∷ is) a ts = on_tree C P (rec s a ts) (parts_before rec is a)

  -- a production that is picked, or a refusal
  abbrev pub act_before : Reads G → (s : G.Symbol) → Choice (G.Rule s) → ℕ → List Tok → Res (Tree G s)
  act_before rec s (use' p) a ts =
      let r = parts_before rec (G.parts s p) (a - fare (W s p)) ts in
      paid P p (W s p) (leb (fare (W s p)) a) r ts
  act_before rec s (refuse n) a ts = bad (refusal n ts)

-- reading, at most n productions deep
unfoldable pub deep_before : (G : Grammar) (W : Tolls G) (C : Terms G) (P : Plan G) → ℕ → Reads G
deep_before G W C P zero s a ts = bad (refusal P.limit ts)
deep_before G W C P (suc n) s a ts = act_before W C P (deep_before G W C P n) s (pick (P.guides s) (next ts)) a ts

-- reading, with a depth that is always enough
unfoldable pub read_before : (G : Grammar) (W : Tolls G) (C : Terms G) (P : Plan G) → Reads G
read_before G W C P s a ts = deep_before G W C P (64 + 64 * length ts) s a ts
