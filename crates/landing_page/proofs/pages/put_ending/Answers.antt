use Rattle.std.proofs.Common.{append_assoc}
use Rattle.landing_page.proofs.pages.put_ending.Goals as goal

pub returns : goal.returns
returns c =
    rw (c.in_ok-put-4.ensures, c.in_ok-put_escaped-3.ensures, c.in_ok-put-3.ensures, c.in_ok-put_escaped-2.ensures, c.in_ok-put-2.ensures, c.in_ok-put_escaped.ensures, c.without_last_feed.ensures, c.in_ok-put.ensures)
    (simp append_assoc)
