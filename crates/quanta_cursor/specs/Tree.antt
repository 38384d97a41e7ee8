-- The tree's words, six for each record, as far as there is room.
-- Assumes nothing.
use Rattle.std.specs.Prelude.{◌≡◌, cond, List, [], ◌∷◌, ℕ, ◌+◌, ◌*◌, ◌/◌, ltb, length, set}
use Rattle.grammar.specs.Records.{Rec, Row, records}
use Rattle.quanta_cursor.specs.declared.parser.Record.{Record}

abbrev pub rec_of : ℕ → ℕ → ℕ → ℕ → ℕ → ℕ → Rec
rec_of kind flag own start stop count = record { kind = kind; flag = flag; own = own; start = start; stop = stop; count = count }

-- what the code makes of a record's parts
abbrev pub written : Record → Rec
written r = rec_of r.kind r.flag r.own.0 r.span.start r.span.end r.children

-- the record n, where there is room for it
unfoldable pub put_rec : List ℕ → ℕ → Rec → List ℕ
put_rec t n r =
    cond (ltb n (length t / 6))
    (set (set (set (set (set (set t (n * 6) r.kind) (n * 6 + 1) r.flag) (n * 6 + 2) r.own) (n * 6 + 3) r.start) (n * 6 + 4) r.stop) (n * 6 + 5) r.count)
    t

-- records from n on: those past the room are counted, and not written
unfoldable pub lay : List ℕ → ℕ → List Rec → List ℕ
lay t n [] = t
lay t n (r ∷ rs) = lay (put_rec t n r) (n + 1) rs

-- t' is t with the row's records from n on, and n' is the next number
pub record Laid (t : List ℕ) (n : ℕ) (x : Row) (t' : List ℕ) (n' : ℕ) : Type 0 where
  pub words : t' ≡ lay t n (records x)
  pub next : n' ≡ n + length (records x)
