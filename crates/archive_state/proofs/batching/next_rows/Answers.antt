use Rattle.archive_state.proofs.BatchRoom.{rows_ready}
use Rattle.archive_state.proofs.batching.next_rows.Goals as goal

pub apply-requires-clause-few : goal.apply-requires-clause-few
apply-requires-clause-few c = (rows_ready c.args.seen.now c.schema.result.now c.table.result.now c.in-Ok.lines c.args.body.now c.requires c.schema.ensures c.table.ensures c.in-Ok.ensures).few

pub apply-requires-clause-apart : goal.apply-requires-clause-apart
apply-requires-clause-apart c = (rows_ready c.args.seen.now c.schema.result.now c.table.result.now c.in-Ok.lines c.args.body.now c.requires c.schema.ensures c.table.ensures c.in-Ok.ensures).apart

pub apply-requires-clause-keys : goal.apply-requires-clause-keys
apply-requires-clause-keys c = (rows_ready c.args.seen.now c.schema.result.now c.table.result.now c.in-Ok.lines c.args.body.now c.requires c.schema.ensures c.table.ensures c.in-Ok.ensures).keys

pub apply-requires-clause-kept : goal.apply-requires-clause-kept
apply-requires-clause-kept c = (rows_ready c.args.seen.now c.schema.result.now c.table.result.now c.in-Ok.lines c.args.body.now c.requires c.schema.ensures c.table.ensures c.in-Ok.ensures).kept

pub apply-requires-clause-weight : goal.apply-requires-clause-weight
apply-requires-clause-weight c = (rows_ready c.args.seen.now c.schema.result.now c.table.result.now c.in-Ok.lines c.args.body.now c.requires c.schema.ensures c.table.ensures c.in-Ok.ensures).weight

pub apply-requires-clause-last : goal.apply-requires-clause-last
apply-requires-clause-last c = (rows_ready c.args.seen.now c.schema.result.now c.table.result.now c.in-Ok.lines c.args.body.now c.requires c.schema.ensures c.table.ensures c.in-Ok.ensures).last
