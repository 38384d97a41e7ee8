-- DEMAND 3, over the edition: with room for all, a call accepts exactly the sentences, and leaves the records of the one
-- derivation.
-- Assumes nothing.
use Rattle.std.specs.Prelude.{◌≡◌, List, [], ◌++◌, ◌↔◌, ℕ, ◌+◌, ◌-◌, ◌*◌, ◌≤◌, length, replicate, None, Ok}
use Rattle.quanta_token.specs.declared.edition.Edition.{Edition}
use Rattle.grammar.specs.Grammar.{Tok, yield, Spells}
use Rattle.grammar.specs.Records.{tree_of, nodes}
use Rattle.grammar.specs.Facts.{Within, Tallied, OwnTokens, owning}
use Rattle.utf8.specs.Utf8.{first_bad}
use Rattle.quanta_source.specs.Source.{checked}
use Rattle.quanta_words.specs.Words.{bad_in}
use Rattle.quanta_lexer.specs.Refusals.{source_limit, table_limit}
use Rattle.quanta_lexer.specs.Tokens.{done, lex_all}
use Rattle.quanta_grammar.specs.Productions.{Symbol, grammar, Derivation, outs}
use Rattle.quanta_grammar.specs.Measuring.{size}
use Rattle.quanta_grammar.specs.OwnTokens.{own_kinds}
use Rattle.quanta_grammar.specs.Refine.{text, refine}
use Rattle.quanta_reading.specs.Reading.{Answer, counted, record_words}
use Rattle.quanta_reading.specs.Targets.{EveryTarget}

-- a well-formed table, a source within the limit, and room for one token record per byte plus one and for as many tree records
pub record Enough (source table : List ℕ) (tokens tree : ℕ) : Type 0 where
  pub short : length table ≤ table_limit
  pub formed : bad_in table ≡ length table
  pub limited : length source ≤ source_limit
  pub token_room : 3 * (length source + 1) ≤ tokens
  pub tree_room : 6 * (length source + 1) ≤ tree

-- lexically valid: none of 3 to 10 arises, nor 28
pub record Valid (ed : Edition) (source table : List ℕ) : Type 0 where
  -- 3: it is UTF-8
  pub utf8 : first_bad source ≡ None
  -- 4 and 5: no CR without LF, no barred character
  pub clean : checked source ≡ Ok tt
  -- 6 to 10, and 28 in edition 2: no failing token
  pub scanned : (lex_all ed source table).ending ≡ done

-- the tokens, as the grammar has them
abbrev pub tokens_of : Edition → List ℕ → List ℕ → List Tok
tokens_of ed source table = refine (text ed source) (lex_all ed source table).toks

-- the derivation spells the tokens: each whole, or a `>>` of edition 2 as its two closers
abbrev pub Spelled : {s : Symbol} → Edition → List ℕ → List ℕ → Derivation s → Type 0
Spelled ed source table d = Spells grammar (tokens_of ed source table) (yield d) []

-- a sentence of s
pub record Sentence (ed : Edition) (s : Symbol) (source table : List ℕ) : Type 0 where
  pub valid : Valid ed source table
  -- a derivation of its tokens
  pub derivation : Derivation s
  pub spells : Spelled ed source table derivation
  -- every assignment target is a name or a field once parentheses are removed
  pub targets : EveryTarget derivation
  -- the measure, which quanta_grammar's MeasureLaws say in document 01's words
  pub measured : size derivation ≤ 64

abbrev pub Accepts : Answer → Type 0
Accepts r = (n : ℕ) × (m : ℕ) × (r ≡ counted n m)

-- the call s answers r and leaves these words in a tree buffer of so many
pub record Exact (ed : Edition) (s : Symbol) (source table : List ℕ) (tree : ℕ) (r : Answer) (words : List ℕ) : Type 0 where
  -- it accepts exactly the sentences
  pub exactly : Accepts r ↔ Sentence ed s source table
  -- the derivation is the only one
  pub only : (d e : Derivation s) → Spelled ed source table d → Spelled ed source table e → d ≡ e
  -- it yields the counts and the tree words
  pub counts : (x : Sentence ed s source table) → r ≡ counted (length (lex_all ed source table).toks) (length (nodes outs x.derivation))
  pub yields : (x : Sentence ed s source table) → let rs = nodes outs x.derivation in words ≡ record_words rs ++ replicate (tree - 6 * length rs) 0
  -- children lie inside their parent, siblings in order without overlap, all inside the source
  pub nested : (x : Sentence ed s source table) → Within 0 (length source) (tree_of outs x.derivation)
  -- a record's last number is the number of its children
  pub tallied : (x : Sentence ed s source table) → Tallied (tree_of outs x.derivation)
  -- its own token is one of the tokens, of a kind that document 01 says, and no other record's
  pub owned : (x : Sentence ed s source table) → OwnTokens own_kinds (tokens_of ed source table) (tree_of outs x.derivation)
  pub distinct : (x : Sentence ed s source table) (n : ℕ) → owning n (nodes outs x.derivation) ≤ 1

abbrev pub Faithful : Edition → Symbol → List ℕ → List ℕ → ℕ → ℕ → Answer → List ℕ → Type 0
Faithful ed s source table tokens tree r words = Enough source table tokens tree → Exact ed s source table tree r words
