-- An answer in document 01's numbers.
use Rattle.std.specs.Prelude.{Ok, Err}
use Rattle.quanta_lexer.specs.Refusals.{no_room}
use Rattle.quanta_lexer.specs.Tokenizing.{Answer}
use Rattle.quanta_lexer.specs.declared.refusal.Failure.TheVariants.{Refused, Short}
use Rattle.quanta_lexer_c.specs.declared.Outcome.{Outcome}

-- 0 with the token count; a refusal with its span; 11 with the need; fields not named are 0
abbrev pub outcome_of : Answer → Outcome
outcome_of (Ok n) = record { number = 0; start = 0; end = 0; need = 0; tokens = n }
outcome_of (Err (Refused r)) = record { number = r.number; start = r.start; end = r.end; need = 0; tokens = 0 }
outcome_of (Err (Short n)) = record { number = no_room; start = 0; end = 0; need = n; tokens = 0 }
