use Rattle.std.proofs.Common.{◌≡◌, true}
use Rattle.csv.specs.Records.{fields_of}
use Rattle.csv_records.proofs.ReaderSteps.{read_found, read_either}
use Rattle.csv_records.proofs.records.read_next.Goals as goal

pub returns-clause-reading : goal.returns-clause-reading
returns-clause-reading c e =
    let is : c.in-Ok.found ≡ true = cc in
    (read_found c.args.reader.now c.read_byte_record.new.self (fields_of c.read_byte_record.new.row) c.requires (c.in-Ok.ensures.ready c.requires.plain) c.in-Ok.ensures.flexible
    (rw is at (c.in-Ok.ensures.reads c.requires.plain c.requires.ready))).reading

pub returns-clause-found : goal.returns-clause-found
returns-clause-found c =
    read_either c.in-Ok.found c.args.reader.now c.read_byte_record.new.self (fields_of c.read_byte_record.new.row) c.requires (c.in-Ok.ensures.ready c.requires.plain) c.in-Ok.ensures.flexible
    (c.in-Ok.ensures.reads c.requires.plain c.requires.ready)
