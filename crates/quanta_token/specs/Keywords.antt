-- The 31 keywords.
use Rattle.std.specs.Prelude.{ℕ, List, [], ◌∷◌}
use Rattle.quanta_token.specs.Text.{Spelled, spell, kind_in}
use Rattle.quanta_token.specs.TokenKind.{code, Ident, Contract, Entry, Guard, Genesis, Caller, InAsset, Native, Now, State, Invariant, Event, Emit, Asset, Let, Signed, By, Sealed, Meta, Quorum, After, From, Mints, Burns, Conserves, Writes, Reads, Limits, Denies, Import, Checked, Wrapping}

abbrev pub keywords : List Spelled
keywords =
    spell "contract" Contract ∷
    spell "entry" Entry ∷
    spell "guard" Guard ∷
    spell "genesis" Genesis ∷
    spell "caller" Caller ∷
    spell "in_asset" InAsset ∷
    spell "native" Native ∷
    spell "now" Now ∷
    spell "state" State ∷
    spell "invariant" Invariant ∷
    spell "event" Event ∷
    spell "emit" Emit ∷
    spell "asset" Asset ∷
    spell "let" Let ∷
    spell "signed" Signed ∷
    spell "by" By ∷
    spell "sealed" Sealed ∷
    spell "meta" Meta ∷
    spell "Quorum" Quorum ∷
    spell "after" After ∷
    spell "from" From ∷
    spell "mints" Mints ∷
    spell "burns" Burns ∷
    spell "conserves" Conserves ∷
    spell "writes" Writes ∷
    spell "reads" Reads ∷
    spell "limits" Limits ∷
    spell "denies" Denies ∷
    spell "import" Import ∷
    spell "checked" Checked ∷
    spell "wrapping" Wrapping ∷
    []

-- a keyword's kind, and that of an identifier for any other word
unfoldable pub word_kind : List ℕ → ℕ
word_kind w = kind_in keywords w (code Ident)
