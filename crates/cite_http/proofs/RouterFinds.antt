-- What a router of the seven routes finds.
use Rattle.std.proofs.Common.{◌≡◌, ◌∙◌, ℕ, suc, List, [], ◌∷◌, get_or, Option, Some, None, option_map, Ok, Err, Result, refl, ap, arith, Fits, w8}
use Rattle.matchit.specs.Seek.{first}
use Rattle.matchit.specs.Level.{IsText}
use Rattle.matchit.specs.Route.{Scan, parse_route}
use Rattle.matchit.specs.Router.{RouteOf, map_key}
use Rattle.matchit.specs.declared.error.InsertError.{InsertError}
use Rattle.matchit.proofs.RenameLemmas.{first-rename}
use Rattle.cite_http.specs.Routes.{route_of, segments}
use Rattle.cite_http.specs.RouterRows.{numbered_patterns, route_rows, route_at, text_at, kept_of, kept_at}
use Rattle.cite_http.specs.declared.route.Route.{Route}
use Rattle.cite_http.specs.declared.route.Route.TheVariants.{State, Page, Bytes, Metadata, Batch, Cite, Migrate}
use Rattle.cite_http.proofs.RouterTable.{number_of, patterns_are_the_table}

-- what is kept of a route has that route as its value
kept_route : (r : Result Scan InsertError) (route : Route) → (kept_of r route).value ≡ route
kept_route (Ok s) route = refl
kept_route (Err e) route = refl

routes_back : (o : Option ℕ) → option_map (λ (row : RouteOf Route). row.value) (map_key kept_at o) ≡ option_map route_at o
routes_back None = refl
routes_back (Some k) = ap Some (kept_route (parse_route (text_at k)) (route_at k))

-- the number of a route leads back to it
number_back : (o : Option Route) → option_map route_at (option_map number_of o) ≡ o
number_back None = refl
number_back (Some State) = refl
number_back (Some Page) = refl
number_back (Some Bytes) = refl
number_back (Some Metadata) = refl
number_back (Some Batch) = refl
number_back (Some Cite) = refl
number_back (Some Migrate) = refl

-- the router finds the route of the table
pub router_finds : (path : List ℕ) → IsText path → option_map (λ (row : RouteOf Route). row.value) (first route_rows path) ≡ route_of (segments path)
unfolding route_rows
router_finds path h =
    ap (option_map (λ (row : RouteOf Route). row.value)) (first-rename kept_at numbered_patterns path)
    ∙ routes_back (first numbered_patterns path) ∙ ap (option_map route_at) (patterns_are_the_table path h) ∙ number_back (route_of (segments path))

-- bytes are a text
pub text_from : (xs : List ℕ) → ((i : ℕ) → Fits w8 (get_or xs i 0)) → IsText xs
text_from [] f = tt
text_from (x ∷ xs) f = (omega (arith, f 0), text_from xs (λ i. f (suc i)))
