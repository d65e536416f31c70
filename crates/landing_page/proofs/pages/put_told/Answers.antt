use Rattle.std.proofs.Common.{◌≡◌, ℕ, List, ◌++◌, append_assoc, codes, decimal, ap, ◌∙◌}
use Rattle.hex.specs.Hex.{encode_lower}
use Rattle.datacite_meta.specs.Stamps.{stamp_text}
use Rattle.landing_page.specs.Pages.{entry}
use Rattle.landing_page.proofs.pages.put_told.Goals as goal

-- six parts, one behind the other
six : (s t u v w x y a b d e f g : List ℕ) → t ≡ s ++ a → u ≡ t ++ b → v ≡ u ++ d → w ≡ v ++ e → x ≡ w ++ f → y ≡ x ++ g → y ≡ s ++ (a ++ b ++ d ++ e ++ f ++ g)
six s t u v w x y a b d e f g h i j k l m = rw (m, l, k, j, i, h) (simp append_assoc)

pub returns : goal.returns
returns c =
    let i = c.args.issue.now in
    let description = c.in_ok-put_entry.ensures ∙ ap (λ d. c.put_moment-2.new.text.items ++ entry (codes "Description") d) c.as_slice.ensures in
    six c.args.text.now.items c.put_number.new.text.items c.put_moment.new.text.items c.put_moment-2.new.text.items c.put_entry.new.text.items c.put_digest.new.text.items c.put_digest-2.new.text.items
    (entry (codes "Version") (decimal i.version)) (entry (codes "Data updated") (stamp_text i.updated)) (entry (codes "Cited") (stamp_text i.cited)) (entry (codes "Description") i.meta.description)
    (entry (codes "Result SHA-256") (encode_lower c.args.result_sha.now)) (entry (codes "Query SHA-256") (encode_lower c.args.query_sha.now))
    c.in_ok-put_number.ensures c.in_ok-put_moment.ensures c.in_ok-put_moment-2.ensures description c.in_ok-put_digest.ensures c.in_ok-put_digest-2.ensures
