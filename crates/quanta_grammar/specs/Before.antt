-- Reading as it was before there were editions, over the one grammar: kinds by the source alone, and each token whole.
-- Assumes nothing.
use Rattle.std.specs.Prelude.{◌≡◌, true, false, List, [], ◌∷◌, ℕ, suc, ◌≤◌, eqb}
use Rattle.grammar.specs.Grammar.{Tok, yield, measure, Lawful}
use Rattle.grammar.specs.Reader.{Res}
use Rattle.grammar.specs.Before.{read_before}
use Rattle.quanta_token.specs.TokenKind.{code, Ident}
use Rattle.quanta_grammar.specs.Productions.{Symbol, grammar, Derivation}
use Rattle.quanta_grammar.specs.Reading.{toll, allowance, terms, plan}
use Rattle.quanta_grammar.specs.Refine.{Plain, word_kind, text_of, ahead, Answer, answer_of}

-- the grammar's tokens by the source
abbrev pub kind_before : List ℕ → Plain → ℕ
kind_before src t = elim (eqb t.kind (code Ident)) [ true ↦ word_kind (text_of src t) | false ↦ t.kind ]

abbrev pub classify_before : List ℕ → ℕ → List Plain → List Tok
classify_before src n [] = []
classify_before src n (t ∷ ts) =
    record { place = n; kind = kind_before src t; start = t.start; stop = t.stop } ∷ classify_before src (suc n) ts

abbrev pub refine_before : List ℕ → List Plain → List Tok
refine_before src ts = ahead (classify_before src 0 ts)

-- a phrase of s, with the allowance a, from the front of the tokens; and a call's answer
abbrev pub parse_before : (s : Symbol) → ℕ → List Tok → Res (Derivation s)
parse_before = read_before grammar toll terms plan

unfoldable pub answer_before : Symbol → List ℕ → List Plain → Answer
answer_before s src ts = answer_of (parse_before s allowance (refine_before src ts))

-- d derives all the tokens, within the allowance a: it spells them one by one
pub record DerivesBefore {s : Symbol} (a : ℕ) (ts : List Tok) (d : Derivation s) : Type 0 where
  pub spells : yield d ≡ ts
  pub small : measure toll d ≤ a
  pub lawful : Lawful terms d []
