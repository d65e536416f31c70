use Rattle.landing_page.proofs.MarkupLaws.{text_has_no_markup}
use Rattle.landing_page.proofs.laws.no_markup_escapes.Goals as goal

pub returns : goal.returns
returns c = text_has_no_markup
