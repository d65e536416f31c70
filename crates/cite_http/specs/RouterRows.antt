-- The rows that the router keeps of the table. Clauses of private functions alone cite it.
use Rattle.std.specs.Prelude.{ℕ, ◌==◌, List, [], ◌++◌, ◌∷◌, codes, Option, Some, None, Result, Ok, Err, if◌then◌else◌}
use Rattle.matchit.specs.Rows.{Rows, RowsOf, prepend, ends}
use Rattle.matchit.specs.Route.{Scan, parse_route}
use Rattle.matchit.specs.Router.{RouteOf, route_from, rename}
use Rattle.matchit.specs.declared.error.InsertError.{InsertError}
use Rattle.cite_http.specs.declared.route.Route.{Route}
use Rattle.cite_http.specs.declared.route.Route.TheVariants.{State, Page, Bytes, Metadata, Batch, Cite, Migrate}

-- a parameter, and behind it the end, or a slash and these rows
abbrev pub param : Rows → Option ℕ → Rows
param rows end = prepend (256 ∷ []) (prepend (47 ∷ []) rows ++ ends end)

-- the patterns of the seven routes, each with its number
abbrev pub numbered_patterns : Rows
numbered_patterns = prepend (codes "/")
    (prepend (codes "batch/") (param (param (param [] (Some 4)) None) None)
    ++ (prepend (codes "cite") (ends (Some 5))
    ++ (prepend (codes "id/") (param (param (prepend (codes "data") (ends (Some 2)) ++ prepend (codes "meta") (ends (Some 3))) (Some 1)) None)
    ++ (prepend (codes "migrate/") (param [] (Some 6))
    ++ prepend (codes "state") (ends (Some 0))))))

-- the route of a number
abbrev pub route_at : ℕ → Route
route_at k =
    if k == 0 then State else
    if k == 1 then Page else
    if k == 2 then Bytes else
    if k == 3 then Metadata else
    if k == 4 then Batch else
    if k == 5 then Cite else Migrate

-- how the route of a number is written for the router
abbrev pub text_at : ℕ → List ℕ
text_at k =
    if k == 0 then codes "/state" else
    if k == 1 then codes "/id/{prefix}/{suffix}" else
    if k == 2 then codes "/id/{prefix}/{suffix}/data" else
    if k == 3 then codes "/id/{prefix}/{suffix}/meta" else
    if k == 4 then codes "/batch/{schema}/{curator}/{number}" else
    if k == 5 then codes "/cite" else codes "/migrate/{schema}"

-- what the router keeps of a route, as it was read
abbrev pub kept_of : Result Scan InsertError → Route → RouteOf Route
kept_of (Ok scan) route = route_from scan route
kept_of (Err e) route = record { pattern = []; text = []; names = []; value = route }

-- what the router keeps of the route of a number
abbrev pub kept_at : ℕ → RouteOf Route
kept_at k = kept_of (parse_route (text_at k)) (route_at k)

-- the rows of a router that took the seven routes
unfoldable pub route_rows : RowsOf (RouteOf Route)
route_rows = rename kept_at numbered_patterns
