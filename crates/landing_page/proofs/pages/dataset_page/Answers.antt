use Rattle.std.proofs.Common.{append_assoc}
use Rattle.landing_page.proofs.pages.dataset_page.Goals as goal

pub returns : goal.returns
returns c =
    rw (
      c.from_vec.ensures,
      c.in_ok-put-3.ensures,
      c.in_ok-put_escaped.ensures,
      c.as_slice-6.ensures,
      c.in_ok-put-2.ensures,
      c.in_ok-put_number-2.ensures,
      c.in_ok-put_moment.ensures,
      c.in_ok-put_number.ensures,
      c.in_ok-put_entry-3.ensures,
      c.as_slice-5.ensures,
      c.in_ok-put_entry-2.ensures,
      c.as_slice-4.ensures,
      c.in_ok-put_entry.ensures,
      c.as_slice-3.ensures,
      c.in_ok-put.ensures,
      c.in_ok-put_heading.ensures,
      c.as_slice-2.ensures,
      c.new-text.ensures.items,
      c.in_ok-id.ensures,
      c.as_slice.ensures,
    )
    (simp append_assoc)
