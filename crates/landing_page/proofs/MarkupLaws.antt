-- What stands in a page for a text has no markup.
use Rattle.std.proofs.Common.{◌≡◌, ℕ, ◌==◌, Bool, true, false, [], ◌∷◌, refl, ◌∙◌}
use Rattle.std.proofs.lemmas.Bool.{and_from}
use Rattle.std.proofs.lemmas.List.Folds.{list_all-append}
use Rattle.landing_page.specs.Pages.{escaped_byte, escaped, has_no_markup, NoMarkupEscapes}

byte_has_no_markup : (b : ℕ) → has_no_markup (escaped_byte b) ≡ true
byte_has_no_markup b = by (b == 38) (b == 60) (b == 62) (b == 34) refl refl refl refl
  where
    by : (ampersand less greater quote : Bool) → (b == 38) ≡ ampersand → (b == 60) ≡ less → (b == 62) ≡ greater → (b == 34) ≡ quote → has_no_markup (escaped_byte b) ≡ true
    by true less greater quote a l g q = rw a refl
    by false true greater quote a l g q = rw (a, l) refl
    by false false true quote a l g q = rw (a, l, g) refl
    by false false false true a l g q = rw (a, l, g, q) refl
    by false false false false a l g q = rw (a, l, g, q) (rw (l, g, q) refl)

pub text_has_no_markup : NoMarkupEscapes
text_has_no_markup [] = refl
text_has_no_markup (b ∷ bs) = list_all-append _ (escaped_byte b) (escaped bs) ∙ and_from _ _ (byte_has_no_markup b) (text_has_no_markup bs)
