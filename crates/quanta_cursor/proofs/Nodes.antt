-- A node and its record, from the positions, the numbers and the span that the code computed.
-- Assumes nothing.
use mathlib.Core.Path.{◌≡◌, ◌∙◌, ap}
use mathlib.Core.List.{List}
use Prim.Native.Nat.{ℕ}
use Rattle.quanta_cursor.specs.declared.parser.TokenPos.{TokenPos}
use Rattle.quanta_cursor.specs.declared.parser.RecordNo.{RecordNo}
use Rattle.quanta_cursor.specs.declared.parser.Span.{Span}
use Rattle.quanta_cursor.specs.declared.parser.Node.{Node}
use Rattle.quanta_cursor.specs.Tree.{rec_of, put_rec}

abbrev pub node_of : TokenPos → RecordNo → Span → ℕ → Node
node_of p q s k = record { at = p; no = q; span = s; kind = k }

pub node_is : (k i n : ℕ) {p : TokenPos} {q : RecordNo} {s s' : Span} → p.0 ≡ i → q.0 ≡ n → s ≡ s' → node_of p q s k ≡ node_of (record { 0 = i }) (record { 0 = n }) s' k
node_is k i n {p} {q} {s} {s'} x y z =
    ap (λ (j : ℕ). node_of (record { 0 = j }) q s k) x ∙ ap (λ (j : ℕ). node_of (record { 0 = i }) (record { 0 = j }) s k) y ∙ ap (λ (s : Span). node_of (record { 0 = i }) (record { 0 = n }) s k) z

pub words_are : (k f o c n : ℕ) (t : List ℕ) {t' : List ℕ} {s s' : Span} → s ≡ s' → t' ≡ put_rec t n (rec_of k f o s.start s.end c) → t' ≡ put_rec t n (rec_of k f o s'.start s'.end c)
words_are k f o c n t z e = e ∙ ap (λ (s : Span). put_rec t n (rec_of k f o s.start s.end c)) z
