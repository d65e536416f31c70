-- The table of routes: which path leads where, and by which method it is served.
use Rattle.std.specs.Prelude.{ℕ, ◌==◌, ◌||◌, ◌&&◌, nat_lt, List, [], ◌∷◌, length, codes, Bool, true, false, Option, Some, None, if◌then◌else◌, bytes_eq}
use Rattle.std.specs.List.{before_first}
use Rattle.cite_http.specs.Parts.{parts}
use Rattle.cite_http.specs.declared.route.Route.{Route}
use Rattle.cite_http.specs.declared.route.Route.TheVariants.{State, Page, Bytes, Metadata, Batch, Cite, Migrate}

-- the path of a target: all in front of the first `?` or `#`
abbrev pub path_of : List ℕ → List ℕ
path_of target = before_first (λ b. b == 63 || b == 35) target

-- the text begins with a slash
abbrev pub begins_with_slash : List ℕ → Bool
begins_with_slash [] = false
begins_with_slash (b ∷ rest) = b == 47

-- the segments of a path: what stands between slashes behind its first one, or none where it begins with no slash
abbrev pub segments : List ℕ → List (List ℕ)
segments [] = []
segments (b ∷ rest) = if b == 47 then parts 47 rest else []

-- a segment fits a parameter: it is not empty
abbrev pub is_given : List ℕ → Bool
is_given s = nat_lt 0 (length s)

-- the table, by the segments of a path: `/state`, `/cite`, `/migrate/{schema}`, `/id/{prefix}/{suffix}` alone or with
-- `/data` or `/meta` behind it, and `/batch/{schema}/{curator}/{number}`
abbrev pub route_of : List (List ℕ) → Option Route
route_of [] = None
route_of (a ∷ []) = if bytes_eq a (codes "state") then Some State else if bytes_eq a (codes "cite") then Some Cite else None
route_of (a ∷ b ∷ []) = if bytes_eq a (codes "migrate") && is_given b then Some Migrate else None
route_of (a ∷ b ∷ c ∷ []) = if bytes_eq a (codes "id") && is_given b && is_given c then Some Page else None
route_of (a ∷ b ∷ c ∷ d ∷ []) =
    if bytes_eq a (codes "id") && is_given b && is_given c then
    (if bytes_eq d (codes "data") then Some Bytes else if bytes_eq d (codes "meta") then Some Metadata else None)
    else if bytes_eq a (codes "batch") && is_given b && is_given c && is_given d then Some Batch else None
route_of (a ∷ b ∷ c ∷ d ∷ e ∷ more) = None

-- the route is served by GET; the others are served by POST
abbrev pub is_read : Route → Bool
is_read State = true
is_read Page = true
is_read Bytes = true
is_read Metadata = true
is_read Batch = false
is_read Cite = false
is_read Migrate = false

-- the name of the method that serves what is read, or what is written
abbrev pub method_of : Bool → List ℕ
method_of true = codes "GET"
method_of false = codes "POST"
