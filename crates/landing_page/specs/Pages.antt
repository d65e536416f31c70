-- Landing pages, byte for byte.
use Rattle.std.specs.Prelude.{◌≡◌, ℕ, ◌==◌, ◌||◌, Bool, not, true, List, [], ◌∷◌, ◌++◌, codes, decimal, if◌then◌else◌}
use Rattle.std.specs.List.{flat_map, list_all}
use Rattle.std.specs.Io.BufRead.{strip_last}
use Rattle.hex.specs.Hex.{encode_lower}
use Rattle.cite_schema.specs.declared.dataset.Dataset.{Dataset}
use Rattle.cite_schema.specs.declared.dataset.Issue.{Issue}
use Rattle.identifiers.specs.Names.{name_of}
use Rattle.identifiers.specs.declared.named.Named.TheVariants.{Superset, Subset}
use Rattle.datacite_meta.specs.Stamps.{stamp_text}
use Rattle.datacite_meta.specs.Metadata.{citation_text}

-- what stands in a page for a byte of a text: the four that could end one are escaped
abbrev pub escaped_byte : ℕ → List ℕ
escaped_byte b =
    if b == 38 then codes "&amp;" else
    if b == 60 then codes "&lt;" else
    if b == 62 then codes "&gt;" else
    if b == 34 then codes "&quot;" else b ∷ []

-- what stands in a page for a text
abbrev pub escaped : List ℕ → List ℕ
escaped = flat_map escaped_byte

-- no byte that begins or ends an element or an attribute's value: `<`, `>` or `"`
abbrev pub has_no_markup : List ℕ → Bool
has_no_markup t = list_all (λ b. not (b == 60 || b == 62 || b == 34)) t

-- no text brings markup into a page
abbrev pub NoMarkupEscapes : Type 0
NoMarkupEscapes = (t : List ℕ) → has_no_markup (escaped t) ≡ true

-- the lines down to the heading, of a page with this title
abbrev pub heading : List ℕ → List ℕ
heading title =
    codes "<!DOCTYPE html>\n<html lang=\"en\"><head><meta charset=\"utf-8\"><title>" ++ escaped title
    ++ codes "</title></head><body>\n<h1>" ++ escaped title ++ codes "</h1>\n"

-- the line of a term and its description
abbrev pub entry : (term description : List ℕ) → List ℕ
entry term description = codes "<dt>" ++ term ++ codes "</dt><dd>" ++ escaped description ++ codes "</dd>\n"

-- the citation text, and the line that the list of terms begins with
abbrev pub cited : List ℕ → List ℕ
cited citation = codes "<p>" ++ escaped citation ++ codes "</p>\n<dl>\n"

-- what a citation is: its identifier, and the data set of which it is a part, with a link to that page
abbrev pub names : (id whole : List ℕ) → List ℕ
names id whole =
    entry (codes "Identifier") id
    ++ codes "<dt>Superset</dt><dd><a href=\"/id/" ++ escaped whole ++ codes "\">" ++ escaped whole ++ codes "</a></dd>\n"

-- what is told of a citation: its version, the moments, its description, and the digests of its bytes and of its query
abbrev pub told : Issue → (query_sha result_sha : List ℕ) → List ℕ
told i query_sha result_sha =
    entry (codes "Version") (decimal i.version)
    ++ entry (codes "Data updated") (stamp_text i.updated)
    ++ entry (codes "Cited") (stamp_text i.cited)
    ++ entry (codes "Description") i.meta.description
    ++ entry (codes "Result SHA-256") (encode_lower result_sha)
    ++ entry (codes "Query SHA-256") (encode_lower query_sha)

-- the printed normal form without its last line feed, the links to the data and the metadata, and the end of the page
abbrev pub ending : (normal id : List ℕ) → List ℕ
ending normal id =
    codes "</dl>\n<pre>\n" ++ escaped (strip_last 10 normal)
    ++ codes "\n</pre>\n<p><a href=\"/id/" ++ escaped id ++ codes "/data\">data</a> <a href=\"/id/" ++ escaped id
    ++ codes "/meta\">metadata</a></p>\n</body></html>\n"

-- the page of a citation
abbrev pub page_of : Dataset → Issue → (normal query_sha result_sha : List ℕ) → List ℕ
page_of d i normal query_sha result_sha =
    heading i.meta.title
    ++ cited (citation_text d i)
    ++ names (name_of d.prefix (Subset i.number)) (name_of d.prefix Superset)
    ++ told i query_sha result_sha
    ++ ending normal (name_of d.prefix (Subset i.number))

-- the page of the data set, with its last version, the moment of that, and how many citations there are
abbrev pub dataset_page_of : Dataset → (version updated issued : ℕ) → List ℕ
dataset_page_of d version updated issued =
    heading d.title ++ codes "<dl>\n"
    ++ entry (codes "Identifier") (name_of d.prefix Superset)
    ++ entry (codes "Creator") d.creator
    ++ entry (codes "Publisher") d.publisher
    ++ entry (codes "Version") (decimal version)
    ++ entry (codes "Data updated") (stamp_text updated)
    ++ entry (codes "Citations") (decimal issued)
    ++ codes "</dl>\n<p><a href=\"/id/" ++ escaped (name_of d.prefix Superset) ++ codes "/meta\">metadata</a></p>\n</body></html>\n"
