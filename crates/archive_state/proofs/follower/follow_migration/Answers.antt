use Rattle.entry_codec.specs.declared.entry.Entry.TheVariants as entries
use Rattle.archive_model.specs.Migrating.{MigrateStep}
use Rattle.archive_state.proofs.Followers.{answers_over, migrate_decides}
use Rattle.archive_state.proofs.follower.follow_migration.Goals as goal

pub returns : goal.returns
returns c = λ history a stands.
    let e = c.args.migration in
    answers_over (MigrateStep a e.schema e.steps e.stamp) history a (entries.Migrate e) (migrate_decides a e) stands.leads c.args.payload.now c.requires.fits c.requires.payload c.plan_migrate.result c.kept_of.result
    (c.plan_migrate.ensures history a stands) c.kept_of.ensures
