use Rattle.cite_http.proofs.Steps.{stands_start, stands_fed, stands_given, stands_waits, stands_now, gives_unique, messages_unique}
use Rattle.cite_http.proofs.laws.messages_come_through_pieces.Goals as goal

pub returns-clause-steps : goal.returns-clause-steps
returns-clause-steps c = record { start = stands_start; feed = stands_fed; give = stands_given; wait = stands_waits }

pub returns-clause-first : goal.returns-clause-first
returns-clause-first c = stands_now

pub returns-clause-step : goal.returns-clause-step
returns-clause-step c = gives_unique

pub returns-clause-once : goal.returns-clause-once
returns-clause-once c = messages_unique
