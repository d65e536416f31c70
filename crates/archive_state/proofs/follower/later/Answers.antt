use Rattle.std.proofs.Common.{sym, subst}
use Rattle.entry_codec.specs.declared.entry.Entry.{Entry as Told}
use Rattle.archive_state.specs.Following.{NeverBehind}
use Rattle.archive_state.proofs.Followers.{never_founded}
use Rattle.archive_state.proofs.follower.later.Goals as goal

pub returns-in-Found : goal.returns-in-Found
returns-in-Found c = λ history a stands. subst (λ (e : Told). NeverBehind history e) (sym c.in-Found.is) (never_founded history a c.in-Found.field-0 stands.leads)
