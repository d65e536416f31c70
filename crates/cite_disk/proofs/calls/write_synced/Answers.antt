use Rattle.std.proofs.Common.{length}
use Rattle.cite_disk.specs.Device.{TornFrom}
use Rattle.cite_disk.proofs.Moments.{torn_same, started, goes_on}
use Rattle.cite_disk.proofs.calls.write_synced.Goals as goal

pub returns-in_err-write_at-clause-moments : goal.returns-in_err-write_at-clause-moments
returns-in_err-write_at-clause-moments g c = λ honest.
    let d = g.D.Disk in
    let old = c.args.disk.now in
    let P = TornFrom c.args.at (length c.args.bytes.now) (d.images old) in
    let begun = started d.moment d.left_since old P (λ b left. (b, g.met.D.Disk.only_now honest old b left, torn_same _ _ b)) in
    goes_on d.moment d.left_since old old c.write_at.new.self P _ begun (c.write_at.ensures.time honest) (c.write_at.ensures.images honest)

pub returns-clause-moments : goal.returns-clause-moments
returns-clause-moments g c = λ honest.
    let d = g.D.Disk in
    let old = c.args.disk.now in
    let P = TornFrom c.args.at (length c.args.bytes.now) (d.images old) in
    let begun = started d.moment d.left_since old P (λ b left. (b, g.met.D.Disk.only_now honest old b left, torn_same _ _ b)) in
    let written = goes_on d.moment d.left_since old old c.write_at.new.self P _ begun (c.write_at.ensures.time honest) (c.write_at.ensures.images honest) in
    goes_on d.moment d.left_since old c.write_at.new.self c.sync.new.self P _ written (c.sync.ensures.time honest) (λ b now. c.write_at.ensures.images honest b (c.sync.ensures.images honest b now))
