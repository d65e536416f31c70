use Rattle.std.proofs.Common.{append_assoc}
use Rattle.landing_page.proofs.pages.put_names.Goals as goal

pub returns : goal.returns
returns c = rw (c.in_ok-put-3.ensures, c.in_ok-put_escaped-2.ensures, c.in_ok-put-2.ensures, c.in_ok-put_escaped.ensures, c.in_ok-put.ensures, c.in_ok-put_entry.ensures) (simp append_assoc)
