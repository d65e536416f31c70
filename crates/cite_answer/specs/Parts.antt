-- What the parts of an answer hand on to each other. Clauses of private functions alone cite it.
use Rattle.std.specs.Prelude.{◌≡◌, ⊤}
use Rattle.archive_state.specs.Standing.{kept_of}
use Rattle.cite_answer.specs.declared.reading.Found.{Found}
use Rattle.cite_answer.specs.declared.reading.Found.TheVariants as found
use Rattle.cite_answer.specs.Reads.{Meaning, NotAName, NotIssued, DataSet, Citation}

-- what was found is what is meant: of a citation what is kept of it
abbrev pub IsFound : Meaning → Found → Type 0
IsFound NotAName found.NotAName = ⊤
IsFound NotIssued found.NotIssued = ⊤
IsFound DataSet found.DataSet = ⊤
IsFound (Citation m) (found.Citation c) = c.now ≡ kept_of m
IsFound meaning f = ⊥
