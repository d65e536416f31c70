use Rattle.std.proofs.Common.{◌≡◌, ℕ, suc, zero, true, ◌&&◌, nat_lt, get_or, Fits, w8, List, [], ◌∷◌, refl, ap, ◌∙◌, arith}
use Rattle.std.proofs.lemmas.Bool.Decides.{nat_tests}
use Rattle.cite_schema.specs.Values.{is_text}
use Rattle.cite_schema.proofs.text.known_bytes.Goals as goal

byte : (b : ℕ) → Fits w8 b → nat_lt b 256 ≡ true
byte b h = grind (arith, nat_tests)

fits_text : (t : List ℕ) → ((i : ℕ) → Fits w8 (get_or t i 0)) → is_text t ≡ true
fits_text [] h = refl
fits_text (b ∷ bs) h = ap (λ x. x && is_text bs) (byte b (h zero)) ∙ fits_text bs (λ i. h (suc i))

pub returns : goal.returns
returns c = fits_text c.args.bytes.now c.type_inv.bytes
