use Rattle.cite_http.proofs.Searching.{searched_nothing}
use Rattle.cite_http.proofs.first.find_first.Goals as goal

pub find-requires-2 : goal.find-requires-2
find-requires-2 c = searched_nothing _
