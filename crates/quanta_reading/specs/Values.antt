-- Answers in document 01's numbers, and what an exported call says.
-- Assumes nothing.
use Rattle.std.specs.Prelude.{◌≡◌, List, ℕ, ◌<◌, replicate, Result, Ok, Err}
use Rattle.quanta_token.specs.Editions.{edition_of}
use Rattle.quanta_token.specs.declared.edition.Edition.{Edition}
use Rattle.quanta_token.specs.declared.edition.UnknownEdition.{UnknownEdition}
use Rattle.quanta_lexer.specs.Refusals.{no_room}
use Rattle.quanta_grammar.specs.Productions.{Symbol}
use Rattle.quanta_reading.specs.declared.answer.Failure.{Failure}
use Rattle.quanta_reading.specs.declared.answer.Failure.TheVariants.{Lexical, NoTokenRoom, Syntax, NoTreeRoom}
use Rattle.quanta_reading.specs.declared.outcome.Outcome.{Outcome}
use Rattle.quanta_reading.specs.Reading.{Answer, Conforms}
use Rattle.quanta_reading.specs.Demand3.{Faithful}

-- 23: too few tree records
abbrev pub no_tree_room : ℕ
no_tree_room = 23

-- acceptance is 0 with token count and record count
abbrev pub accepted : ℕ → ℕ → Outcome
accepted n m = record { number = 0; start = 0; end = 0; wanted = 0; found = 0; need = 0; tokens = n; records = m }

-- a refusal is number, start, end, wanted, found, need
abbrev pub refused : ℕ → ℕ → ℕ → ℕ → ℕ → ℕ → Outcome
refused k a e w f n = record { number = k; start = a; end = e; wanted = w; found = f; need = n; tokens = 0; records = 0 }

-- the numbers of a failure; fields not named are 0
abbrev pub failed : Failure → Outcome
failed (Lexical e) = refused e.number e.start e.end 0 0 0
failed (NoTokenRoom n) = refused no_room 0 0 0 0 n
failed (Syntax e) = refused e.number e.span.start e.span.end e.wanted e.found 0
failed (NoTreeRoom m) = refused no_tree_room 0 0 0 0 m

-- .. and of an answer
abbrev pub values : Answer → Outcome
values (Ok c) = accepted c.tokens c.records
values (Err f) = failed f

-- each number fits a word
abbrev pub FailureFits : Failure → Type 0
FailureFits (Lexical e) = (e.start < 4294967296) × (e.end < 4294967296)
FailureFits (NoTokenRoom n) = n < 4294967296
FailureFits (Syntax e) = Unit {0}
FailureFits (NoTreeRoom m) = m < 4294967296

pub record FitsFailure (f : Failure) : Type 0 where
  pub by : FailureFits f

abbrev pub FitsWord : Answer → Type 0
FitsWord (Ok c) = (c.tokens < 4294967296) × (c.records < 4294967296)
FitsWord (Err f) = FailureFits f

pub record Fits (r : Answer) : Type 0 where
  pub by : FitsWord r

-- 29: an unknown edition
abbrev pub unknown_edition : ℕ
unknown_edition = 29

-- the numbers of an answer that meets the call's contract in an edition
abbrev pub ExportedIn : Edition → Symbol → List ℕ → List ℕ → ℕ → ℕ → Outcome → List ℕ → List ℕ → Type 0
ExportedIn ed s source table tokens tree r tokens' tree' =
    (a : Answer) × (r ≡ values a) × Conforms ed s source table tokens tree a tokens' tree'
    × Faithful ed s source table tokens tree a tree'

-- .. or 29, and both buffers zero
abbrev pub ExportedBy : Result Edition UnknownEdition → Symbol → List ℕ → List ℕ → ℕ → ℕ → Outcome → List ℕ → List ℕ → Type 0
ExportedBy (Ok ed) s source table tokens tree r tokens' tree' =
    ExportedIn ed s source table tokens tree r tokens' tree'
ExportedBy (Err u) s source table tokens tree r tokens' tree' =
    (r ≡ refused unknown_edition 0 0 0 0 0) × (tokens' ≡ replicate tokens 0) × (tree' ≡ replicate tree 0)

-- what an exported call says by the number of the edition
pub record Exported (edition : ℕ) (s : Symbol) (source table : List ℕ) (tokens tree : ℕ) (r : Outcome)
    (tokens' tree' : List ℕ) : Type 0 where
  pub by : ExportedBy (edition_of edition) s source table tokens tree r tokens' tree'
