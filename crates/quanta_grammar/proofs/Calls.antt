-- What the tables say of the five calls: each may stand before the end of all, its phrases end in Eof, and it is read by itself.
-- Assumes nothing.
use lib.Dec.{T}
use Rattle.grammar.specs.Grammar.{has}
use Rattle.grammar.proofs.Spans.{lone}
use Rattle.grammar.proofs.Whole.{closes}
use Rattle.quanta_token.specs.TokenKind.{code, Eof}
use Rattle.quanta_grammar.specs.Productions.{Symbol, grammar}
use Rattle.quanta_grammar.specs.Names.{names}
use Rattle.quanta_grammar.specs.Reading.{Call, program, item, stmt, expr, type}
use Rattle.quanta_grammar.proofs.Tables.{follows, shape}

pub ends : {s : Symbol} → Call s → T (has (follows s) 0)
unfolding follows
ends program = tt
ends item = tt
ends stmt = tt
ends expr = tt
ends type = tt

pub closed : {s : Symbol} → Call s → T (closes grammar names (code Eof) s)
closed program = tt
closed item = tt
closed stmt = tt
closed expr = tt
closed type = tt

pub by_itself : {s : Symbol} → Call s → T (lone (shape s))
unfolding shape
by_itself program = tt
by_itself item = tt
by_itself stmt = tt
by_itself expr = tt
by_itself type = tt
