-- What a message asks for, by its method, its target and its body.
use Rattle.std.specs.Prelude.{ℕ, zero, suc, ◌==◌, ◌&&◌, not, nat_le, nat_lt, List, [], ◌∷◌, ◌++◌, length, Bool, false, Option, Some, None, if◌then◌else◌, bytes_eq}
use Rattle.std.specs.List.{list_all}
use Rattle.std.specs.Char.{is_ascii_digit}
use Rattle.std.specs.Str.Parse.{digits_value}
use Rattle.batches.specs.Curators.{is_curator}
use Rattle.cite_http.specs.Routes.{path_of, begins_with_slash, segments, route_of, is_read, method_of}
use Rattle.cite_http.specs.declared.ask.Ask.{Ask}
use Rattle.cite_http.specs.declared.ask.Ask.TheVariants as ask
use Rattle.cite_http.specs.declared.route.Route.{Route}
use Rattle.cite_http.specs.declared.route.Route.TheVariants.{State, Page, Bytes, Metadata, Batch, Cite, Migrate}
use Rattle.cite_http.specs.declared.status.Status.TheVariants.{BadTarget, NoRoute, OtherMethod}

-- the segment of a number, counted from 0, or nothing where there are not so many
abbrev pub segment_at : List (List ℕ) → ℕ → List ℕ
segment_at [] n = []
segment_at (s ∷ ss) zero = s
segment_at (s ∷ ss) (suc n) = segment_at ss n

-- the text is not empty and begins with no zero
abbrev pub begins_without_zero : List ℕ → Bool
begins_without_zero [] = false
begins_without_zero (b ∷ rest) = not (b == 48)

-- a count in decimal: 1 to 4,294,967,295 without leading zeros
abbrev pub is_count : List ℕ → Bool
is_count s = begins_without_zero s && nat_le (length s) 10 && list_all is_ascii_digit s && nat_lt (digits_value 10 s) 4294967296

-- the number that a count spells
abbrev pub count_of : List ℕ → Option ℕ
count_of s = if is_count s then Some (digits_value 10 s) else None

-- the name that is asked for: prefix, slash, suffix
abbrev pub name_of : List (List ℕ) → List ℕ
name_of ss = segment_at ss 1 ++ 47 ∷ segment_at ss 2

-- a migration of a schema, if that is a count
abbrev pub migrate_of : Option ℕ → List ℕ → Ask
migrate_of None body = ask.Bad BadTarget
migrate_of (Some schema) body = ask.Migrate schema body

-- a batch for a schema, of a curator and with a number, if both numbers are counts and the curator has the form of one
abbrev pub batch_of : Option ℕ → List ℕ → Option ℕ → List ℕ → Ask
batch_of (Some schema) curator (Some number) body =
    if is_curator curator then ask.Batch (record { schema = schema; curator = curator; number = number; body = body }) else ask.Bad BadTarget
batch_of None curator number body = ask.Bad BadTarget
batch_of (Some schema) curator None body = ask.Bad BadTarget

-- what a route asks for, with the segments of the path and the body
abbrev pub ask_at : Route → List (List ℕ) → List ℕ → Ask
ask_at State ss body = ask.State
ask_at Page ss body = ask.Page (name_of ss)
ask_at Bytes ss body = ask.Bytes (name_of ss)
ask_at Metadata ss body = ask.Metadata (name_of ss)
ask_at Batch ss body = batch_of (count_of (segment_at ss 1)) (segment_at ss 2) (count_of (segment_at ss 3)) body
ask_at Cite ss body = ask.Cite body
ask_at Migrate ss body = migrate_of (count_of (segment_at ss 1)) body

-- no route of the table comes first, then another method than the route's, then what stands in the segments
abbrev pub routed : Option Route → List ℕ → List (List ℕ) → List ℕ → Ask
routed None method ss body = ask.Bad NoRoute
routed (Some route) method ss body =
    if bytes_eq method (method_of (is_read route)) then ask_at route ss body else ask.Bad (OtherMethod (is_read route))

-- what a message asks for
unfoldable pub asked : List ℕ → List ℕ → List ℕ → Ask
asked method target body =
    if begins_with_slash (path_of target) then routed (route_of (segments (path_of target))) method (segments (path_of target)) body
    else ask.Bad BadTarget
