use Rattle.std.proofs.Common.{◌≡◌, ◌∙◌, ap, sym, subst, List, ℕ}
use Rattle.cite_schema.specs.declared.schema.Column.{Column}
use Rattle.cite_schema.specs.declared.dataset.Dataset.{Dataset}
use Rattle.entry_codec.specs.declared.entry.FoundEntry.{FoundEntry}
use Rattle.archive_model.specs.Histories.{found_fault}
use Rattle.cite_cli.specs.declared.ending.Ending.TheVariants as endings
use Rattle.cite_cli.specs.Init.{InitWrites, InitBreaks, InitLacks, IsFounded, IsRefused, founding_rule}
use Rattle.cite_cli.specs.Parts.{told_by, columns_by}
use Rattle.cite_cli.proofs.Delivering.{due_so}
use Rattle.cite_cli.proofs.Keeping.{disk_of, quiet_so, founded_so, broken_so}
use Rattle.cite_cli.proofs.init.founded.Goals as goal

abbrev founding : ℕ → Dataset → List Column → FoundEntry
founding stamp dataset columns = record { stamp = stamp; dataset = dataset; columns = columns }

same_founding : (stamp : ℕ) (d e : Dataset) (cs bs : List Column) → d ≡ e → cs ≡ bs → founding stamp d cs ≡ founding stamp e bs
same_founding stamp d e cs bs p q = ap (λ (x : Dataset). founding stamp x cs) p ∙ ap (λ (xs : List Column). founding stamp e xs) q

pub returns-in-Ok-found : goal.returns-in-Ok-found
returns-in-Ok-found g c =
    let disk = disk_of g.D.Disk c.args.disk.now c.found.new.disk in
    let told = c.in-Ok.told in
    let same = same_founding c.args.now told.dataset (told_by c.args.words.now) told.columns (columns_by c.args.words.now) c.in-Ok.ensures.dataset c.in-Ok.ensures.columns in
    let done = founded_so disk (founding c.args.now told.dataset told.columns) c.in-Ok-found._desk c.in-Ok-found.ensures.founds c.in-Ok-found.ensures.keeps c.in-Ok-found.ensures.empty
    (λ honest. g.met.D.Disk.reads honest c.found.new.disk) in
    (subst (λ (f : FoundEntry). IsFounded f disk) same done, c.in-Ok.ensures.name)

pub returns-in-Some : goal.returns-in-Some
returns-in-Some g c =
    let disk = disk_of g.D.Disk c.args.disk.now c.found.new.disk in
    let told = c.in-Ok.told in
    let same = same_founding c.args.now told.dataset (told_by c.args.words.now) told.columns (columns_by c.args.words.now) c.in-Ok.ensures.dataset c.in-Ok.ensures.columns in
    let f = founding c.args.now (told_by c.args.words.now) (columns_by c.args.words.now) in
    let rule = sym c.founding_rule.ensures ∙ c.in-Some.is in
    let broken = broken_so (founding c.args.now told.dataset told.columns) c.in-Err.fault c.in-Some.refusal c.in-Err.ensures.founds rule in
    let untouched = c.in-Err.ensures.broken (c.in-Err.fault, broken) in
    due_so (InitWrites f disk) (InitBreaks f disk) (InitLacks disk) endings.Refused _ c.refusal_line.result c.of.result c.of.ensures c.refusal_line.ensures
    (λ line is. subst (λ (f : FoundEntry). IsRefused f disk line) same (record {
      fault = c.in-Err.fault;
      refusal = c.in-Some.refusal;
      broken = broken;
      rule = rule;
      line_is = is;
      untouched = untouched;
    }))
    (λ honest. quiet_so g.D.Disk c.args.disk.now c.found.new.disk (g.met.D.Disk.only_now honest c.args.disk.now) untouched)
