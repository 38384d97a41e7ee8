-- A LIST BEHIND COMMAS THAT ONE CALL IN ONE LOOP READS: at the head of the loop an element is to come, the first or one
-- behind a comma. Stated for elements s and the rest l of their list.
-- Assumes nothing.
use Rattle.std.specs.Prelude.{Err, Ok, Result}
use mathlib.Core.Path.{◌≡◌, refl, sym, subst, ◌∙◌}
use Rattle.quanta_cursor.specs.declared.parser.Nodes.{Nodes}
use mathlib.Core.List.{List}
use Prim.Native.Nat.{ℕ, ◌+◌, ◌<◌, ◌≤◌, zero-le}
use native.Mathlib.Omega.{arith}
use lib.ListN.{length}
use Rattle.grammar.specs.Grammar.{Tok}
use Rattle.grammar.specs.Records.{Acc, apart, fresh, beside}
use Rattle.grammar.specs.Fused.{Outcome}
use Rattle.grammar.proofs.Fuse.{onward}
use Rattle.quanta_token.specs.TokenKind.{code, Comma}
use Rattle.quanta_grammar.specs.Productions.{Symbol}
use Rattle.quanta_grammar.specs.Reading.{reads}
use Rattle.quanta_grammar.specs.Refine.{Text}
use Rattle.quanta_cursor.specs.declared.parser.Node.{Node}
use Rattle.quanta_cursor.specs.declared.parser.Refusal.{Refusal}
use Rattle.quanta_cursor.specs.Tokens.{kind_at, from, Ready}
use Rattle.quanta_cursor.specs.Answers.{Failed, Took}
use Rattle.quanta_cursor.proofs.Places.{took_onward, took_ready, ready_behind}
use Rattle.quanta_cursor.proofs.Lists.{Commas, Rolls, roll_first, comma_on, comma_bad, comma_stop, took_more}
use Rattle.quanta_cursor.proofs.Listing.{list_none}
use Rattle.quanta_type.specs.Halves.{TookHalf, Types, TookOnHalf, ListsTypes}
use Rattle.quanta_type.proofs.Halves.{half_ready, half_first, half_more}
use Rattle.quanta_type.proofs.Types.{typed_of, half_of, untyped_of}
use Rattle.quanta_type.specs.declared.half.Typed.TheVariants.{Whole, Half}
use Rattle.quanta_type.specs.declared.half.Typed.{Typed}

-- what comes of the list on top of x
abbrev pub whole : Symbol → Symbol → ℕ → List Tok → Acc → Outcome
whole s l a ts x = onward (reads s a ts fresh) (λ y r. reads l a r (beside apart x y))

-- THE INVARIANT: the list began at the token i over the words t with n records before it; c elements are read, and one
-- is to come at p. Its refusal is the list's, behind it the list is under way, and behind one that the first closer of
-- a `>>` closed the list ends.
pub record Awaits (s l : Symbol) (src : Text) (ws : List ℕ) (a i : ℕ) (t : List ℕ) (n p q c : ℕ) (tree : List ℕ)
    : Type 0 where
  pub bad : (x : Acc) {u : Refusal} → Failed (reads s a (from src ws p) fresh) u
      → Failed (whole s l a (from src ws i) x) u
  pub on : (x : Acc) {m : Node} {tree' : List ℕ} → Took (reads s a (from src ws p) fresh) src ws tree q m tree'
      → Rolls l (whole s l a (from src ws i) x) src ws t n x a m.at.0 m.no.0 (c + 1) tree'
  pub half : (x : Acc) {m : Node} {tree' : List ℕ} → TookHalf (reads s a (from src ws p) fresh) src ws tree q m tree'
      → TookOnHalf (whole s l a (from src ws i) x) x src ws t n (record { at = m.at; no = m.no; count = c + 1 }) tree'
  pub ready : Ready ws p q
  pub few : c ≤ q
  pub long : length tree ≡ length t

pub begun : {s l : Symbol} {src : Text} {ws : List ℕ} → Commas l s → (a : ℕ) {i : ℕ} (t : List ℕ) {n : ℕ} → Ready ws i n
    → Awaits s l src ws a i t n i n 0 t
begun {l = l} law a t g =
    record {
      bad = λ x f. list_none l a x f;
      on = λ x k. roll_first x a refl k;
      half = λ x k. half_first law a g k x refl refl refl;
      ready = g;
      few = zero-le;
      long = refl;
    }

-- AN ELEMENT IS READ at p: its node m, and the words behind it
pub record Element (s l : Symbol) : Type 0 where
  pub src : Text
  pub ws : List ℕ
  pub a : ℕ
  pub i : ℕ
  pub t : List ℕ
  pub n : ℕ
  pub p : ℕ
  pub q : ℕ
  pub c : ℕ
  pub tree : List ℕ
  pub awaited : Awaits s l src ws a i t n p q c tree
  pub m : Node
  pub tree' : List ℕ
  pub took : Took (reads s a (from src ws p) fresh) src ws tree q m tree'
  pub kept : length tree' ≡ length tree

module _ {s l : Symbol} {src : Text} {ws : List ℕ} {a i : ℕ} {t : List ℕ} {n p q c : ℕ} {tree : List ℕ}
    (v : Awaits s l src ws a i t n p q c tree) {r : Result (Typed Node) Refusal} {tree' : List ℕ}
    (k : Types src s ws p q a tree r tree') where
  -- or it is refused; or the first closer of a `>>` closed it
  pub no_element : {u : Refusal} {y : Result (Typed Nodes) Refusal} → r ≡ Err u → y ≡ Err u → {t' : List ℕ} (x : Acc)
      → ListsTypes (whole s l a (from src ws i) x) x src ws t n y t'
  no_element z e {t'} x =
      subst (λ (y : Result (Typed Nodes) Refusal). ListsTypes (whole s l a (from src ws i) x) x src ws t n y t') (sym e)
      (record { by = v.bad x (untyped_of z k) })

  pub half_element : {m : Node} → r ≡ Ok (Half m) → (x : Acc)
      → ListsTypes (whole s l a (from src ws i) x) x src ws t n
      (Ok (Half (record { at = m.at; no = m.no; count = c + 1 }))) tree'
  half_element z x = record { by = v.half x (half_of z k) }

  -- so many elements fit a word
  pub half_few : {m : Node} → r ≡ Ok (Half m) → c + 1 < 4294967296
  half_few z =
      let g = half_ready s a (half_of z k) v.ready in
      let l = (v.half fresh (half_of z k)).laid.next in
      omega (arith, v.few, g.fits, g.inside, g.closed.few, v.ready.fits)

  abbrev pub element : {m : Node} → r ≡ Ok (Whole m) → length tree' ≡ length tree → Element s l
  element {m} z h =
      record {
        src = src;
        ws = ws;
        a = a;
        i = i;
        t = t;
        n = n;
        p = p;
        q = q;
        c = c;
        tree = tree;
        awaited = v;
        m = m;
        tree' = tree';
        took = typed_of z k;
        kept = h;
      }

module _ {s l : Symbol} (e : Element s l) where
  pub behind : Ready e.ws e.m.at.0 e.m.no.0
  behind = took_ready e.src s e.a e.awaited.ready e.took

  pub same_long : length e.tree' ≡ length e.t
  same_long = e.kept ∙ e.awaited.long

  pub one_more : e.c + 1 ≤ e.m.no.0
  one_more = let z = took_more e.took in omega (arith, e.awaited.few)

  rolls : (x : Acc) → Rolls l (whole s l e.a (from e.src e.ws e.i) x) e.src e.ws e.t e.n x
      e.a e.m.at.0 e.m.no.0 (e.c + 1) e.tree'
  rolls x = e.awaited.on x e.took

  -- the kind k of the token behind it
  module _ (law : Commas l s) {k : ℕ} (f : k ≡ kind_at e.ws e.m.at.0) where
    -- .. is no comma: the list ends
    pub list_over : (k ≡ code Comma → ⊥) → (x : Acc)
        → ListsTypes (whole s l e.a (from e.src e.ws e.i) x) x e.src e.ws e.t e.n
        (Ok (Whole (record { at = e.m.at; no = e.m.no; count = e.c + 1 }))) e.tree'
    list_over z x =
        record {
          by = record {
            row = (rolls x).row;
            gave = comma_stop (rolls x) law behind.inside (λ h. z (f ∙ h));
            many = (rolls x).many;
            laid = (rolls x).laid;
            ready = behind;
          };
        }

    -- .. is a comma: the next element is to come at p'
    module _ (z : k ≡ code Comma) {p' : ℕ} (h : p' ≡ e.m.at.0 + 1) where
      pub next_awaits : Awaits s l e.src e.ws e.a e.i e.t e.n p' e.m.no.0 (e.c + 1) e.tree'
      next_awaits =
          let w = sym f ∙ z in
          record {
            bad = λ x b. comma_bad (rolls x) law behind.inside w h b;
            on = λ x b. comma_on (rolls x) law behind.inside w h b refl;
            half = λ x b. half_more law (rolls x) behind w h b refl refl refl;
            ready = ready_behind (code Comma) (λ u. u) behind w h;
            few = one_more;
            long = same_long;
          }

      pub next_further : e.p < p'
      next_further = let y = took_onward e.src s e.a e.awaited.ready.inside e.took in omega arith
