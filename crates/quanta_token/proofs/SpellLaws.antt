-- A word spells only what begins as it does: by its first byte it can be few of the keywords.
use Prim.Native.Nat.{ℕ}
use mathlib.Core.Path.{◌≡◌, refl, ap, sym, ◌∙◌}
use mathlib.Core.Bool.{Bool, true, false, ◌&&◌, ◌||◌, false≢true}
use mathlib.Core.List.{List, [], ◌∷◌}
use lib.ListN.{get_or}
use lib.Dec.{eqb}
use borrow.Author.Tests.{ne_eqb, eqb-true, eqb-false}
use Rattle.quanta_token.proofs.BoolLaws.{both}
use Rattle.quanta_token.specs.TokenKind.{code, Ident}
use Rattle.quanta_token.specs.Text.{Spelled, same, kind_if, kind_in}
use Rattle.quanta_token.specs.Keywords.{word_kind, keywords}

same_is : (w t : List ℕ) → same w t ≡ true → w ≡ t
unfolding same
same_is [] [] h = refl
same_is [] (y ∷ ys) h = absurd (false≢true h)
same_is (x ∷ xs) [] h = absurd (false≢true h)
same_is (x ∷ xs) (y ∷ ys) h =
    let p = both (eqb x y) (same xs ys) h in
    rw (eqb-true x y p.0, same_is xs ys p.1)

-- a word that is a text has the text's kind
pub kind_of : (w t : List ℕ) → true ≡ same w t → word_kind t ≡ word_kind w
kind_of w t h = ap word_kind (sym (same_is w t (sym h)))

-- words with other first bytes are not the same
head_differs : (w t : List ℕ) → (get_or w 0 0 ≡ get_or t 0 0 → ⊥) → same w t ≡ false
unfolding same
head_differs [] [] h = absurd (h refl)
head_differs [] (y ∷ ys) h = refl
head_differs (x ∷ xs) [] h = refl
head_differs (x ∷ xs) (y ∷ ys) h = rw (ne_eqb x y h)

-- the entries that begin with c
unfoldable pub begins : ℕ → List Spelled → List Spelled
begins c [] = []
begins c (e ∷ es) = elim (eqb c (get_or e.text 0 0)) [ true ↦ e ∷ begins c es | false ↦ begins c es ]

kept : (c : ℕ) (es : List Spelled) (w : List ℕ) (other : ℕ) → get_or w 0 0 ≡ c → kind_in es w other ≡ kind_in (begins c es) w other
unfolding begins kind_if
kept c [] w other h = refl
kept c (e ∷ es) w other h = at (eqb c (get_or e.text 0 0)) refl (kept c es w other h)
  where
    at :
        (b : Bool) →
        eqb c (get_or e.text 0 0) ≡ b →
        kind_in es w other ≡ kind_in (begins c es) w other →
        kind_in (e ∷ es) w other ≡ kind_in (begins c (e ∷ es)) w other
    at true k ih = rw (k, begins) (ap (kind_if w e.text e.kind) ih)
    at false k ih = rw (k, begins, head_differs w e.text (λ z. eqb-false _ _ k (sym h ∙ z))) ih

-- c is none of these
abbrev pub NoneOf : ℕ → List ℕ → Type 0
NoneOf c [] = Unit
NoneOf c (k ∷ ks) = NoneOf c ks × (c ≡ k → ⊥)

abbrev pub has : List ℕ → ℕ → Bool
has [] x = false
has (k ∷ ks) x = eqb x k || has ks x

-- each entry begins with one of these
unfoldable pub begin_in : List ℕ → List Spelled → Bool
begin_in ks [] = true
begin_in ks (e ∷ es) = has ks (get_or e.text 0 0) && begin_in ks es

apart : (c : ℕ) (ks : List ℕ) (x : ℕ) → NoneOf c ks → has ks x ≡ true → eqb c x ≡ false
apart c [] x n h = absurd (false≢true h)
apart c (k ∷ ks) x n h = at (eqb x k) refl h (apart c ks x n.0)
  where
    at : (b : Bool) → eqb x k ≡ b → (b || has ks x) ≡ true → (has ks x ≡ true → eqb c x ≡ false) → eqb c x ≡ false
    at true e q ih = ne_eqb c x (λ z. n.1 (z ∙ eqb-true x k e))
    at false e q ih = ih q

none_begins : (c : ℕ) (ks : List ℕ) (es : List Spelled) → NoneOf c ks → begin_in ks es ≡ true → begins c es ≡ []
unfolding begins begin_in
none_begins c ks [] n h = refl
none_begins c ks (e ∷ es) n h =
    let p = both (has ks (get_or e.text 0 0)) (begin_in ks es) h in
    rw (apart c ks (get_or e.text 0 0) n p.0, begins) (none_begins c ks es n p.1)

-- a word that begins as no entry does spells none
unspelled :
    (ks : List ℕ) (es : List Spelled) (c : ℕ) (w : List ℕ) (other : ℕ) →
    begin_in ks es ≡ true →
    get_or w 0 0 ≡ c →
    NoneOf c ks →
    kind_in es w other ≡ other
unspelled ks es c w other t h n = kept c es w other h ∙ rw (none_begins c ks es n t)

-- a word is none of these texts
abbrev pub NoneSpells : List ℕ → List Spelled → Type 0
NoneSpells w [] = Unit
NoneSpells w (e ∷ es) = NoneSpells w es × (false ≡ same w e.text)

none_spells : (w : List ℕ) (es : List Spelled) (other : ℕ) → NoneSpells w es → kind_in es w other ≡ other
unfolding kind_if
none_spells w [] other n = refl
none_spells w (e ∷ es) other n = rw (sym n.1) (none_spells w es other n.0)

-- a word's kind, by its first byte
which : (c : ℕ) (w : List ℕ) → get_or w 0 0 ≡ c → word_kind w ≡ kind_in (begins c keywords) w (code Ident)
unfolding word_kind
which c w h = kept c keywords w (code Ident) h

pub no_kind : (c : ℕ) (w : List ℕ) → get_or w 0 0 ≡ c → NoneSpells w (begins c keywords) → word_kind w ≡ code Ident
no_kind c w h n = which c w h ∙ none_spells w (begins c keywords) (code Ident) n

-- the first bytes of the keywords: w s r n m l i g f e d c b a Q
abbrev pub keyword_bytes : List ℕ
keyword_bytes = 0x77 ∷ 0x73 ∷ 0x72 ∷ 0x6E ∷ 0x6D ∷ 0x6C ∷ 0x69 ∷ 0x67 ∷ 0x66 ∷ 0x65 ∷ 0x64 ∷ 0x63 ∷ 0x62 ∷ 0x61 ∷ 0x51 ∷ []

pub no_keyword : (c : ℕ) (w : List ℕ) → get_or w 0 0 ≡ c → NoneOf c keyword_bytes → word_kind w ≡ code Ident
unfolding word_kind begin_in
no_keyword c w h n = unspelled keyword_bytes keywords c w (code Ident) refl h n
