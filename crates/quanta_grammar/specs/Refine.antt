-- From the lexer's tokens, the edition and the source to the grammar's tokens, and from an answer to the lexer's kinds.
-- Assumes nothing.
use Rattle.std.specs.Prelude.{◌≡◌, Bool, true, false, not, ◌&&◌, ◌||◌, List, [], ◌∷◌, ℕ, suc, ◌-◌, ◌≤◌, leb, eqb, take, drop}
use Prim.Native.String.{String}
use Rattle.grammar.specs.Grammar.{Tok, has}
use Rattle.grammar.specs.Records.{Rec, nodes}
use Rattle.grammar.specs.Facts.{Derives}
use Rattle.grammar.specs.Reader.{Refusal, Res, got, bad}
use Rattle.quanta_token.specs.Text.{bytes, same}
use Rattle.quanta_token.specs.Token.{Token}
use Rattle.quanta_token.specs.TokenKind.{code, Ident, Int, After, Gt, Shr, Eof}
use Rattle.quanta_token.specs.declared.edition.Edition.{Edition}
use Rattle.quanta_token.specs.declared.edition.Edition.TheVariants.{One, Two}
use Rattle.quanta_grammar.specs.FineKind.{fine, OfWord, UnitWord, AfterSpan, TwoClosers, OneCloser}
use Rattle.quanta_grammar.specs.RefusalKind.{refusal_code, expected_token, expected_contract_item, token_after_the_end}
use Rattle.quanta_grammar.specs.Productions.{Symbol, Derivation, outs}
use Rattle.quanta_grammar.specs.Reading.{toll, allowance, terms, parse}

-- a token as the lexer gives it
abbrev pub Plain : Type 0
Plain = Token

-- what tells the grammar's tokens apart beside the lexer's kinds: the edition of the reading rules, and the source
pub record Text : Type 0 where
  pub edition : Edition
  pub source : List ℕ

abbrev pub text : Edition → List ℕ → Text
text e s = record { edition = e; source = s }

-- one for laws that hold whatever the text is
abbrev pub blank : Text
blank = text One []

-- whether a list of bytes is one of these texts
abbrev pub spells : List String → List ℕ → Bool
spells [] w = false
spells (t ∷ ts) w = same w (bytes t) || spells ts w

abbrev pub of : List String
of = "of" ∷ []

abbrev pub units : List String
units = "seconds" ∷ "minutes" ∷ "hours" ∷ "days" ∷ "weeks" ∷ "months" ∷ "years" ∷ []

-- an identifier's kind by its text
abbrev pub word_kind : List ℕ → ℕ
word_kind w = elim (spells of w) [ true ↦ fine OfWord | false ↦ elim (spells units w) [ true ↦ fine UnitWord | false ↦ code Ident ] ]

-- a token's bytes
abbrev pub text_of : List ℕ → Plain → List ℕ
text_of src t = take (t.stop - t.start) (drop t.start src)

-- a kind in an edition: in edition 2 a `>>` counts as two closers where a type list must close
abbrev pub in_edition : Edition → ℕ → ℕ
in_edition One k = k
in_edition Two k = elim (eqb k (code Shr)) [ true ↦ fine TwoClosers | false ↦ k ]

-- a token's kind: an identifier's by its text, any other by the edition
abbrev pub text_kind : Text → Plain → ℕ
text_kind src t =
    elim (eqb t.kind (code Ident))
    [ true ↦ word_kind (text_of src.source t) | false ↦ in_edition src.edition t.kind ]

-- the tokens counted from n on, with their kinds by text
abbrev pub classify : Text → ℕ → List Plain → List Tok
classify src n [] = []
classify src n (t ∷ ts) = record { place = n; kind = text_kind src t; start = t.start; stop = t.stop } ∷ classify src (suc n) ts

-- an integer and a unit of time stand here
abbrev pub span_here : List Tok → Bool
span_here [] = false
span_here (i ∷ []) = false
span_here (i ∷ (u ∷ ts)) = eqb i.kind (code Int) && eqb u.kind (fine UnitWord)

-- the condition on `after`: before an integer and a unit it is of the finer kind
abbrev pub sharpen : Tok → List Tok → Tok
sharpen t ts = record { place = t.place; kind = elim (eqb t.kind (code After) && span_here ts) [ true ↦ fine AfterSpan | false ↦ t.kind ]; start = t.start; stop = t.stop }

abbrev pub ahead : List Tok → List Tok
ahead [] = []
ahead (t ∷ ts) = sharpen t ts ∷ ahead ts

-- the grammar's tokens
abbrev pub refine : Text → List Plain → List Tok
refine src ts = ahead (classify src 0 ts)

-- the lexer's promise that the reader relies on: its own kinds, Eof at the end and only there; in order
abbrev pub kinds : List Plain → Bool
kinds [] = true
kinds (t ∷ ts) = leb t.kind (code Eof) && kinds ts

abbrev pub closed : List Plain → Bool
closed [] = false
closed (t ∷ []) = eqb t.kind (code Eof)
closed (t ∷ (u ∷ ts)) = not (eqb t.kind (code Eof)) && closed (u ∷ ts)

abbrev pub Ordered : ℕ → ℕ → List Plain → Type 0
Ordered lo hi [] = lo ≤ hi
Ordered lo hi (t ∷ ts) = (lo ≤ t.start) × (t.start ≤ t.stop) × Ordered t.stop hi ts

-- a kind, and tokens, as the lexer has them
abbrev pub plain_kind : ℕ → ℕ
plain_kind k = elim (has (fine OfWord ∷ fine UnitWord ∷ []) k) [
  | true ↦ code Ident
  | false ↦ elim (eqb k (fine AfterSpan)) [
    | true ↦ code After
    | false ↦ elim (eqb k (fine TwoClosers)) [
      | true ↦ code Shr
      | false ↦ elim (eqb k (fine OneCloser)) [ true ↦ code Gt | false ↦ k ]
    ]
  ]
]

abbrev pub plains : List Tok → List Plain
plains [] = []
plains (t ∷ ts) = record { kind = plain_kind t.kind; start = t.start; stop = t.stop } ∷ plains ts

-- the refusals that mark a token that was found: 12 to 19, and 22
abbrev pub marking : ℕ → Bool
marking n = (leb (refusal_code expected_token) n && leb n (refusal_code expected_contract_item)) || eqb n (refusal_code token_after_the_end)

-- what a call answers of tokens: the records; or number, start, end, wanted, found
pub data Answer : Type 0 where
  accept : List Rec → Answer
  reject : ℕ → ℕ → ℕ → ℕ → ℕ → Answer

abbrev pub found : Refusal → ℕ
found e = elim (marking e.number) [ true ↦ plain_kind e.at.kind | false ↦ 0 ]

abbrev pub answer_of : {s : Symbol} → Res (Derivation s) → Answer
answer_of (got d r) = accept (nodes outs d)
answer_of (bad e) = reject e.number e.at.start e.at.stop (plain_kind e.wanted) (found e)

unfoldable pub answer : Symbol → Text → List Plain → Answer
answer s src ts = answer_of (parse s allowance (refine src ts))

-- the records of a derivation of all the tokens, within the allowance and with lawful targets
pub record Derived (s : Symbol) (src : Text) (ts : List Plain) (rs : List Rec) : Type 0 where
  pub tree : Derivation s
  pub derives : Derives toll terms allowance (refine src ts) tree
  pub same : nodes outs tree ≡ rs
