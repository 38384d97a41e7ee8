-- THE THEOREMS of the five calls: this page states and cites.
-- Assumes nothing.
use Rattle.std.specs.Prelude.{Err}
use mathlib.Core.Path.{◌≡◌, sym, ◌∙◌}
use mathlib.Core.List.{List}
use mathlib.Core.Logic.{◌↔◌, ◌⊎◌}
use Prim.Native.Nat.{ℕ, ◌/◌, ◌≤◌, ◌<◌}
use lib.ListN.{length, replicate}
use Rattle.quanta_token.specs.declared.edition.Edition.{Edition}
use Rattle.grammar.specs.Grammar.{Tok, yield, Lawful}
use Rattle.quanta_token.specs.declared.edition.Edition.TheVariants.{One, Two}
use Rattle.quanta_lexer.specs.FirstNoDay.{AllDays, FirstNoDay}
use Rattle.quanta_lexer.specs.Refusals.{no_day, refusal}
use Rattle.quanta_lexer.specs.Tokens.{lex_all}
use Rattle.quanta_grammar.specs.Productions.{Symbol, Derivation}
use Rattle.quanta_grammar.specs.Reading.{Call, terms}
use Rattle.quanta_grammar.specs.Before.{refine_before}
use Rattle.quanta_reading.specs.declared.answer.Failure.TheVariants.{Lexical, NoTokenRoom, NoTreeRoom}
use Rattle.quanta_reading.specs.declared.outcome.Outcome.{Outcome}
use Rattle.quanta_reading.specs.Reading.{Answer, counted, reading, Conforms}
use Rattle.quanta_reading.specs.Targets.{EveryTarget}
use Rattle.quanta_reading.specs.Demand3.{Enough, Valid, Spelled, Exact}
use Rattle.quanta_reading.specs.Before.{reading_before, ConformsBefore}
use Rattle.quanta_reading.specs.Values.{refused, unknown_edition, Fits, Exported}
use Rattle.quanta_reading.specs.Rows.{rows, rows2, refusals2, said, seen, said_of, seen_of}
use Rattle.quanta_reading.proofs.Lengths as Lengths
use Rattle.quanta_reading.proofs.Needs as goal
use Rattle.quanta_reading.proofs.Targets as Targets
use Rattle.quanta_reading.proofs.Faithful as Faithful
use Rattle.quanta_reading.proofs.Numbers as Numbers
use Rattle.quanta_reading.proofs.Exporting as Exporting
use Rattle.quanta_reading.proofs.Editions as Editions
use Rattle.quanta_reading.proofs.Before as Before
use Rattle.quanta_reading.proofs.Rows as Rows

module _ {ed : Edition} {s : Symbol} {source table : List ℕ} {tokens tree : ℕ} where
  -- DEMAND 1: TWO CONFORMING OUTCOMES COINCIDE, of each call, in the answer and in every word of both buffers.
  pub coincide : {r r₂ : Answer} {tokens' tokens₂ tree' tree₂ : List ℕ} → Conforms ed s source table tokens tree r tokens' tree' → Conforms ed s source table tokens tree r₂ tokens₂ tree₂
      → (r ≡ r₂) × (tokens' ≡ tokens₂) × (tree' ≡ tree₂)
  coincide a b = (a.answers ∙ sym b.answers, a.tokened ∙ sym b.tokened, a.treed ∙ sym b.treed)

-- and so by C calling convention, in the eight numbers, whatever number the edition has
pub coincide_exported : {edition : ℕ} {s : Symbol} {source table : List ℕ} {tokens tree : ℕ} {r r₂ : Outcome}
    {tokens' tokens₂ tree' tree₂ : List ℕ} → Exported edition s source table tokens tree r tokens' tree'
    → Exported edition s source table tokens tree r₂ tokens₂ tree₂ → (r ≡ r₂) × (tokens' ≡ tokens₂) × (tree' ≡ tree₂)
coincide_exported = Exporting.coincide

-- 29 for every number but 1 and 2
pub unknown : (edition : ℕ) → (edition ≡ 1 → ⊥) → (edition ≡ 2 → ⊥) → {s : Symbol} {source table : List ℕ}
    {tokens tree : ℕ} {r : Outcome} {tokens' tree' : List ℕ} → Exported edition s source table tokens tree r tokens' tree'
    → (r ≡ refused unknown_edition 0 0 0 0 0) × (tokens' ≡ replicate tokens 0) × (tree' ≡ replicate tree 0)
unknown edition a b x = Exporting.unknown edition a b x

-- THE WORDS ARE ALL of both buffers.
pub every_word : (ed : Edition) (s : Symbol) (source table : List ℕ) (tokens tree : ℕ) → (length (reading ed s source table tokens tree).tokens ≡ tokens) × (length (reading ed s source table tokens tree).tree ≡ tree)
every_word = Lengths.every_word

-- COUNTS AND NEEDS are those of the defined lists: the tokens, and the records that the grammar answers.
module _ (ed : Edition) (s : Symbol) (source table : List ℕ) (tokens tree : ℕ) where
  pub accepted_counts : (n m : ℕ) → (reading ed s source table tokens tree).answer ≡ counted n m → (length (lex_all ed source table).toks ≡ n) × goal.Records ed s source table tokens tree m × (m ≤ tree / 6)
  accepted_counts = goal.accepted_counts ed s source table tokens tree

  pub token_need : (n : ℕ) → (reading ed s source table tokens tree).answer ≡ Err (NoTokenRoom n) → (length (lex_all ed source table).toks ≡ n) × (tokens / 3 < n)
  token_need = goal.token_need ed s source table tokens tree

  pub tree_need : (m : ℕ) → (reading ed s source table tokens tree).answer ≡ Err (NoTreeRoom m) → goal.Records ed s source table tokens tree m × (tree / 6 < m)
  tree_need = goal.tree_need ed s source table tokens tree

-- DEMAND 3: with room for all, what conforms accepts exactly the sentences, and has the records of the one derivation.
pub exact : {s : Symbol} → Call s → (ed : Edition) (source table : List ℕ) (tokens tree : ℕ) → Enough source table tokens tree → {r : Answer} {tokens' tree' : List ℕ}
    → Conforms ed s source table tokens tree r tokens' tree' → Exact ed s source table tree r tree'
exact c ed = Faithful.exact ed c

-- THE TARGET RULE is the condition that the reader keeps, whatever tokens stand behind.
pub lawful_targets : {s : Symbol} (d : Derivation s) (r : List Tok) → Lawful terms d r ↔ EveryTarget d
lawful_targets = Targets.lawful_targets

-- The numbers of an answer fit a word.
pub fits : {s : Symbol} → Call s → {ed : Edition} {source table : List ℕ} {tokens tree : ℕ} {r : Answer} {tokens' tree' : List ℕ} → Conforms ed s source table tokens tree r tokens' tree' → Fits r
fits = Numbers.fits

-- EDITION 1 IS AS BEFORE there were editions: the same reading, so that what conforms meets the contract of before ..
pub edition_one : (s : Symbol) (source table : List ℕ) (tokens tree : ℕ)
    → reading One s source table tokens tree ≡ reading_before s source table tokens tree
edition_one = Before.before

pub conforms_before : (s : Symbol) (source table : List ℕ) (tokens tree : ℕ) {r : Answer} {tokens' tree' : List ℕ}
    → Conforms One s source table tokens tree r tokens' tree' → ConformsBefore s source table tokens tree r tokens' tree'
conforms_before = Before.conforms_before

-- .. and a derivation spells a valid text of edition 1 exactly when its tokens are the text's.
pub spelled_before : {s : Symbol} (source table : List ℕ) → Valid One source table → (d : Derivation s)
    → Spelled One source table d ↔ (yield d ≡ refine_before source (lex_all One source table).toks)
spelled_before = Before.spelled_before

-- THE EDITIONS: a source accepted in edition 1 is read the same in edition 2, answer and every word, unless some Date
-- isn't a day; then edition 2 refuses it by 28 at the first such Date, and both buffers are zero.
pub both_editions : {s : Symbol} → Call s → (source table : List ℕ) (tokens tree n m : ℕ)
    → (reading One s source table tokens tree).answer ≡ counted n m
    → (AllDays source (lex_all One source table).toks
    × (reading Two s source table tokens tree ≡ reading One s source table tokens tree))
    ⊎ ((x : FirstNoDay source (lex_all One source table) (lex_all Two source table))
    × (reading Two s source table tokens tree
    ≡ record { answer = Err (Lexical (refusal no_day x.start x.stop)); tokens = replicate tokens 0; tree = replicate tree 0 }))
both_editions = Editions.both

-- What both accept has the same tokens and records in both.
pub same_in_both : {s : Symbol} → Call s → (source table : List ℕ) (tokens tree n m n₂ m₂ : ℕ)
    → (reading One s source table tokens tree).answer ≡ counted n m
    → (reading Two s source table tokens tree).answer ≡ counted n₂ m₂
    → reading Two s source table tokens tree ≡ reading One s source table tokens tree
same_in_both c source table tokens tree n m n₂ m₂ e f = Editions.same c source table tokens tree n m e n₂ m₂ f

-- THE ROWS of document 01 that are marked P hold, in edition 1 ..
pub rows_hold : seen rows ≡ said rows
rows_hold = Rows.all_hold

-- .. and in edition 2 the smallest inputs of R-6.
pub rows_hold_2 : seen rows2 ≡ said rows2
rows_hold_2 = Rows.all_hold2

pub refusals_hold_2 : seen_of refusals2 ≡ said_of refusals2
refusals_hold_2 = Rows.refusals_hold2
