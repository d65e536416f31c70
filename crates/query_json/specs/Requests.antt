-- What the body of a citation request asks.
use Rattle.std.specs.Prelude.{◌≡◌, ◌≢◌, ℕ, List, [], ◌∷◌, codes, Result, Ok, Err, Option, Some, None, if◌then◌else◌}
use Rattle.std.specs.Option.{option_and_then}
use Rattle.std.specs.Str.{is_utf8}
use Rattle.serde_json.specs.Data.{Data}
use Rattle.serde_json.specs.Find.{get, as_str}
use Rattle.serde_json.specs.Read.{read}
use Rattle.cite_schema.specs.declared.query.Query.{Query}
use Rattle.cite_schema.specs.declared.query.Meta.{Meta}
use Rattle.cite_schema.specs.declared.query.CiteAsk.{CiteAsk}
use Rattle.query_json.specs.declared.fault.JsonFault.{JsonFault}
use Rattle.query_json.specs.declared.fault.JsonFault.TheVariants.{NotJson, NotARequest, NotAMeta, NoMemory}
use Rattle.query_json.specs.Objects.{has_only, string_at}
use Rattle.query_json.specs.Values.{list_of}
use Rattle.query_json.specs.Queries.{query_of}

-- the answer is that one, unless memory was wanting
abbrev pub IsUnlessMemory : {A : Type 0} → Result A JsonFault → Result A JsonFault → Type 0
IsUnlessMemory answer meant = answer ≢ Err NoMemory → answer ≡ meant

-- what `description` says; without it it is empty
abbrev pub description_of : Option Data → Option (List ℕ)
description_of None = Some []
description_of (Some d) = as_str d

-- the metadata of their three parts, where each is of its form
abbrev pub meta_from : Option (List (List ℕ)) → Option (List ℕ) → Option (List ℕ) → Option Meta
meta_from None title description = None
meta_from (Some creators) None description = None
meta_from (Some creators) (Some title) None = None
meta_from (Some creators) (Some title) (Some description) =
    Some (record { creators = creators; title = title; description = description })

-- the metadata that a JSON value says: an object with `creators`, `title` and, where wanted, `description`
abbrev pub meta_of : Data → Option Meta
meta_of d =
    if has_only (codes "creators" ∷ codes "description" ∷ codes "title" ∷ []) d
    then meta_from (option_and_then (list_of as_str) (get (codes "creators") d)) (string_at (codes "title") d)
    (description_of (get (codes "description") d))
    else None

-- the request of a query and of metadata; the query's fault comes first
abbrev pub request_from : Result Query JsonFault → Option Meta → Result CiteAsk JsonFault
request_from (Err fault) meta = Err fault
request_from (Ok query) None = Err NotAMeta
request_from (Ok query) (Some meta) = Ok (record { query = query; meta = meta })

-- the request of an object in which `query` and `meta` are those, where they are there
abbrev pub request_with : Option Data → Option Data → Result CiteAsk JsonFault
request_with None meta = Err NotARequest
request_with (Some query) None = Err NotARequest
request_with (Some query) (Some meta) = request_from (query_of query) (meta_of meta)

-- the request that a JSON value says, or its fault: an object with exactly `query` and `meta`
abbrev pub request_of : Data → Result CiteAsk JsonFault
request_of d =
    if has_only (codes "meta" ∷ codes "query" ∷ []) d
    then request_with (get (codes "query") d) (get (codes "meta") d)
    else Err NotARequest

-- the JSON value that a body is read as: UTF-8, and a JSON text whose arrays and objects nest at most 127 deep
unfoldable pub json_of : List ℕ → Option Data
json_of body = if is_utf8 body then read body else None

-- the request of what was read
abbrev pub request_if : Option Data → Result CiteAsk JsonFault
request_if None = Err NotJson
request_if (Some d) = request_of d

-- the request that a body spells, or its fault
abbrev pub request_in : List ℕ → Result CiteAsk JsonFault
request_in body = request_if (json_of body)
