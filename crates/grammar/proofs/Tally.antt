-- Each record's count is the number of its children.
-- Assumes nothing.
use mathlib.Core.Path.{refl}
use mathlib.Core.List.{List, [], ◌∷◌}
use Rattle.grammar.specs.Grammar.{Tok, head, Items, Grammar, Tree, node, Forest, end, leaf, down, yields}
use Rattle.grammar.specs.Records.{Row, none, put, glue, Leaf, nothing, own, word, Way, pass, fold, Reach, Step, make, plus, start, Mark, Outs, Acc, fresh, leave, bring, finish, first_mark, rest, walk, walks}
use Rattle.grammar.specs.Facts.{Tallied}

tally_glue : (x y : Row) → Tallied x → Tallied y → Tallied (glue x y)
tally_glue x none h k = h
tally_glue x (put b r ks) h k = (tally_glue x b h k.0, k.1, k.2)

module _ {G : Grammar} (O : Outs G) where
  tally_leave : (l : Leaf) (r : Reach) (t : Tok) (c : Acc) → Tallied c.row → Tallied (leave O l r t c).row
  tally_leave nothing r t c h = h
  tally_leave own r t c h = h
  tally_leave word r t c h = (h, refl, tt)

  tally_finish : (t : Tok) (ss : List Step) (c : Acc) → Tallied c.row → Tallied (finish O t ss c).row
  tally_finish t [] c h = h
  tally_finish t (make k ∷ ss) c h = tally_finish t ss _ (tt, refl, h)
  tally_finish t (plus n ∷ ss) c h = tally_finish t ss _ h
  tally_finish t (start ∷ ss) c h = tally_finish t ss _ h

  tally_bring : (w : Way) (r : Reach) (g : Acc → Acc) → ((c : Acc) → Tallied c.row → Tallied (g c).row) → (c : Acc) → Tallied c.row → Tallied (bring w r g c).row
  tally_bring pass r g k c h = tally_glue c.row (g fresh).row h (k fresh tt)
  tally_bring fold r g k c h = k c h

  mutual
    unfolding walk

    tally_walk : {s : G.Symbol} (d : Tree G s) (c : Acc) → Tallied c.row → Tallied (walk O d c).row
    tally_walk (node {s = s} p f) c h = tally_walks (head (yields f)) (O.marks s p) f c h

    tally_walks : {is : Items G} (t₀ : Tok) (ms : List Mark) (f : Forest G is) (c : Acc) → Tallied c.row → Tallied (walks O t₀ ms f c).row
    tally_walks t₀ ms end c h = h
    tally_walks t₀ ms (leaf t k f) c h =
        let m = first_mark ms in
        tally_walks t₀ (rest ms) f _ (tally_finish t₀ m.steps (leave O m.token m.reach t c) (tally_leave m.token m.reach t c h))
    tally_walks t₀ ms (down d f) c h =
        let m = first_mark ms in
        tally_walks t₀ (rest ms) f _ (tally_finish t₀ m.steps (bring m.phrase m.reach (λ x. walk O d x) c) (tally_bring m.phrase m.reach (λ x. walk O d x) (λ x k. tally_walk d x k) c h))

  pub tallied : {s : G.Symbol} (d : Tree G s) → Tallied (walk O d fresh).row
  tallied d = tally_walk d fresh tt
