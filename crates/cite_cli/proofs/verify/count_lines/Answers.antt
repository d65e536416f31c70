use Rattle.std.proofs.Common.{refl, ap, ◌∙◌, append_assoc, Vec, ℕ, Global}
use Rattle.cite_cli.proofs.verify.count_lines.Goals as goal

pub returns : goal.returns
returns c = ap (λ (v : Vec ℕ Global). v.items) c.into_bytes.ensures.value ∙ (c.in_ok-text.ensures.ok ∙ simp append_assoc refl)
