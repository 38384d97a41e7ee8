-- The words of the lexer's tokens: the parser may stand at their front, and reads them as the tokens that they came from.
-- Assumes nothing.
use Rattle.std.specs.Prelude.{Ok}
use mathlib.Core.Path.{◌≡◌, refl, ap, sym, ◌∙◌}
use mathlib.Core.List.{List, [], ◌∷◌}
use Prim.Native.Nat.{ℕ, zero, suc, ◌+◌, ◌-◌, ◌*◌, ◌≤◌, ◌<◌}
use native.Mathlib.Omega.{arith}
use borrow.Author.Tests.{ne_eqb}
use lib.Dec.{T}
use lib.ListN.{length, get_or, take, replicate}
use lib.Seq.{take_at}
use Rattle.quanta_token.specs.declared.edition.Edition.{Edition}
use Rattle.quanta_token.specs.TokenKind.{code, Eof}
use Rattle.quanta_lexer.specs.Promise.{InOrder, eof, more, Promised}
use Rattle.quanta_lexer.specs.Tokens.{Tok, records, lex_all}
use Rattle.quanta_lexer.specs.Tokenizing.{tokenizing, token_words}
use Rattle.quanta_lexer.proofs.Theorems.{accepted, records_then_zeros}
use Rattle.quanta_grammar.specs.Refine.{Plain, Text, classify, ahead, refine, closed, Ordered}
use Rattle.quanta_cursor.specs.Tokens.{size, kind_at, plain_at, run, plain_from, from, Ready}

-- what stands behind the first token
get_past : (k a e : ℕ) (ws : List ℕ) (i j : ℕ) → j ≡ suc (suc (suc i)) → get_or (k ∷ a ∷ e ∷ ws) j 0 ≡ get_or ws i 0
get_past k a e ws i j q = rw q

kind_past : (k a e : ℕ) (ws : List ℕ) (i : ℕ) → kind_at (k ∷ a ∷ e ∷ ws) (suc i) ≡ kind_at ws i
kind_past k a e ws i = get_past k a e ws (i * 3) (suc i * 3) (omega arith)

plain_past : (k a e : ℕ) (ws : List ℕ) (i : ℕ) → plain_at (k ∷ a ∷ e ∷ ws) (suc i) ≡ plain_at ws i
plain_past k a e ws i =
    let x = get_past k a e ws (i * 3) (suc i * 3) (omega arith) in
    let y = get_past k a e ws (i * 3 + 1) (suc i * 3 + 1) (omega arith) in
    let z = get_past k a e ws (i * 3 + 2) (suc i * 3 + 2) (omega arith) in
    cc

run_past : (k a e : ℕ) (ws : List ℕ) (i n : ℕ) → run (k ∷ a ∷ e ∷ ws) (suc i) n ≡ run ws i n
unfolding run
run_past k a e ws i zero = refl
run_past k a e ws i (suc n) = let x = plain_past k a e ws i in let y = run_past k a e ws (suc i) n in cc

run_all : (ts : List Tok) → run (records ts) 0 (length ts) ≡ ts
unfolding run
run_all [] = refl
run_all (t ∷ ts) = ap (λ (l : List Tok). t ∷ l) (run_past t.kind t.start t.stop (records ts) 0 (length ts) ∙ run_all ts)

pub length_records : (ts : List Tok) → length (records ts) ≡ 3 * length ts
length_records [] = refl
length_records (t ∷ ts) = omega (arith, length_records ts)

size_records : (ts : List Tok) → size (records ts) ≡ length ts
size_records ts = omega (arith, length_records ts)

-- THE TOKENS COME BACK, as the grammar has them
pub from_all : (src : Text) (ts : List Tok) → from src (records ts) 0 ≡ refine src ts
unfolding from plain_from
from_all src ts = ap (λ (l : List Plain). ahead (classify src 0 l)) (ap (λ (n : ℕ). run (records ts) 0 n) (omega (arith, size_records ts)) ∙ run_all ts)

-- kinds in range; Eof at the end, and only there
ranged : (b i : ℕ) (ts : List Tok) → InOrder b i ts → (j : ℕ) → j < length ts
    → (0 < kind_at (records ts) j) × (kind_at (records ts) j ≤ code Eof) × (kind_at (records ts) j ≡ code Eof → j + 1 ≡ length ts)
ranged b i ts (eof a p q) zero h = (omega arith, omega arith, λ z. refl)
ranged b i ts (eof a p q) (suc j) h = absurd (omega arith)
ranged b i ts (more k a e lo hi p q r o) zero h = (omega arith, omega arith, λ z. absurd (omega arith))
ranged b i ts (more k a e {ts = us} lo hi p q r o) (suc j) h =
    let x = kind_past k a e (records us) j in
    let y = ranged b e us o j (omega arith) in
    (omega (arith, x, y.0), omega (arith, x, y.1), λ z. omega (arith, y.2 (sym x ∙ z)))

some : (b i : ℕ) (ts : List Tok) → InOrder b i ts → 0 < length ts
some b i ts (eof a p q) = omega arith
some b i ts (more k a e lo hi p q r o) = omega arith

last : (b i : ℕ) (ts : List Tok) (j : ℕ) → InOrder b i ts → j + 1 ≡ length ts → kind_at (records ts) j ≡ code Eof
last b i ts zero (eof a p q) h = refl
last b i ts (suc j) (eof a p q) h = absurd (omega arith)
last b i ts zero (more k a e {ts = us} lo hi p q r o) h = absurd (omega (arith, some b e us o))
last b i ts (suc j) (more k a e {ts = us} lo hi p q r o) h = kind_past k a e (records us) j ∙ last b e us j o (omega arith)

-- THE PARSER MAY STAND at the front
pub ready : (s : List ℕ) (ts : List Tok) (n : ℕ) → Promised s ts n → Ready (records ts) 0 0
ready s ts n p =
    let z = size_records ts in
    let o = some (length s) 0 ts p.ordered in
    record {
      closed =
          record {
            whole = omega (arith, z, length_records ts);
            some = omega (arith, z, o);
            few = omega (arith, z, p.counted, p.few, p.limited);
            known = λ i h. let k = ranged (length s) 0 ts p.ordered i (omega (arith, z)) in (k.0, k.1);
            last = last (length s) 0 ts (size (records ts) - 1) p.ordered (omega (arith, z, o));
            only = λ i h e. omega (arith, z, (ranged (length s) 0 ts p.ordered i (omega (arith, z))).2 e);
          };
      inside = omega (arith, z, o);
      fits = omega arith;
    }

-- the front of the token buffer is these words
pub fronts : (ed : Edition) (s t : List ℕ) (words n : ℕ) → tokenizing ed s t words ≡ Ok n → take (3 * n) (token_words ed s t words) ≡ records (lex_all ed s t).toks
fronts ed s t words n e =
    let p = (accepted ed s t words n e).0 in
    ap (λ (l : List ℕ). take (3 * n) l) (records_then_zeros ed s t words n e)
    ∙ take_at (records (lex_all ed s t).toks) (replicate (words - 3 * n) 0) (3 * n) (omega (arith, length_records (lex_all ed s t).toks, p.counted))

-- tokens in order: Eof at the end and only there, and their spans in order
pub closes : (b i : ℕ) (ts : List Tok) → InOrder b i ts → T (closed ts)
closes b i ts (eof a p q) = tt
closes b i ts (more k a e lo hi p q r (eof x y z)) = rw (ne_eqb k (code Eof) (λ e. omega arith)) tt
closes b i ts (more k a e lo hi p q r (more k' a' e' lo' hi' p' q' r' o)) = rw (ne_eqb k (code Eof) (λ e. omega arith)) (closes b e _ (more k' a' e' lo' hi' p' q' r' o))

pub orders : (b i : ℕ) (ts : List Tok) → InOrder b i ts → Ordered i b ts
orders b i ts (eof a p q) = (p, omega arith, q)
orders b i ts (more k a e lo hi p q r o) = (p, omega arith, orders b e _ o)

pub length_refine : (src : Text) (n : ℕ) (ts : List Plain) → length (ahead (classify src n ts)) ≡ length ts
length_refine src n [] = refl
length_refine src n (t ∷ ts) = ap suc (length_refine src (suc n) ts)
