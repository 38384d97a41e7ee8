-- `quanta_clause::decl::clauses` meets its contract: what is under way at the start of a loop is under way at each turn, of the clauses and of the names in one.
-- Assumes nothing.
use Prim.Native.Nat.{ℕ, ◌-◌}
use Rattle.quanta_token.specs.declared.edition.Edition.{Edition}
use Rattle.quanta_grammar.specs.Productions.{clauses, more_names}
use Rattle.quanta_grammar.specs.Refine.{text}
use Rattle.quanta_cursor.specs.Tokens.{size}
use Rattle.quanta_cursor.proofs.Lists.{Rolling as Names}
use Rattle.quanta_cursor.proofs.Listing.{Rolling}
use Rattle.quanta_clause.proofs.decl.clauses.Given as goal

abbrev pub invariant-names : goal.invariant-names
invariant-names l = (a : ℕ) → Names more_names l.tokens a l.initial.end.0 l.initial.last.0 l.initial.names l.initial.tree l.end.0 l.last.0 l.names l.tree

abbrev pub decreases-names : goal.decreases-names
decreases-names l = size l.tokens - l.end.0

abbrev pub invariant-clauses : goal.invariant-clauses
invariant-clauses l = (e : Edition) → Rolling clauses (text e l.src) l.tokens l.allowance l.initial.at.0 l.initial.no.0 l.initial.count l.initial.tree l.at.0 l.no.0 l.count l.tree

abbrev pub decreases-clauses : goal.decreases-clauses
decreases-clauses l = size l.tokens - l.at.0
