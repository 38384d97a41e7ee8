-- The place of a complaint (request R-14) in edition 1, over tokens whose kinds are told by text.
-- Assumes nothing.
use Rattle.std.specs.Prelude.{◌≡◌, Bool, true, false, not, ◌&&◌, List, [], ◌∷◌, ◌++◌, ℕ, T, eqb}
use Rattle.grammar.specs.Grammar.{Tok, head, has, yield}
use Rattle.grammar.specs.Facts.{Same}
use Rattle.grammar.specs.Reader.{Refusal}
use Rattle.quanta_token.specs.TokenKind.{code, After}
use Rattle.quanta_grammar.specs.FineKind.{fine, AfterSpan, TwoClosers, OneCloser}
use Rattle.quanta_grammar.specs.Productions.{Symbol, Derivation}
use Rattle.quanta_grammar.specs.Refine.{ahead}

-- the finer kinds that a token's text does not tell in edition 1
abbrev pub untold : List ℕ
untold = fine AfterSpan ∷ fine TwoClosers ∷ fine OneCloser ∷ []

-- tokens of edition 1 before `after` is told apart, and a token as it was then
abbrev pub plain : List Tok → Bool
plain [] = true
plain (t ∷ ts) = not (has untold t.kind) && plain ts

abbrev pub blunt : Tok → Tok
blunt t = record { place = t.place; kind = elim (eqb t.kind (fine AfterSpan)) [ true ↦ code After | false ↦ t.kind ]; start = t.start; stop = t.stop }

abbrev pub blunts : List Tok → List Tok
blunts [] = []
blunts (t ∷ ts) = blunt t ∷ blunts ts

-- a sentence of the grammar, with no limit and no target rule: tokens that, so told apart, a derivation spells
pub record Sentence (s : Symbol) (ts : List Tok) : Type 0 where
  pub tree : Derivation s
  pub spells : yield tree ≡ ahead ts

-- The tokens before the marked one begin a sentence; with it they begin none. Eof is a token too: where it is marked, those before it are no sentence.
pub record Complaint (s : Symbol) (ts : List Tok) (e : Refusal) : Type 0 where
  pub before : List Tok
  pub rest : List Tok
  pub cut : before ++ rest ≡ ts
  pub marked : blunt e.at ≡ head rest
  pub more : List Tok
  pub real : T (plain more)
  pub begins : Sentence s (before ++ more)
  pub stops : (others : List Tok) → T (plain others) → Same rest others → Sentence s (before ++ others) → ⊥
