-- Lists that are read item by item.
use Rattle.std.proofs.Common.{◌≡◌, List, ◌++◌, Option, option_map, refl, ap}
use Rattle.serde_json.specs.Data.{Data, Items, no_items, item, null, boolean, number, string, array, object}
use Rattle.serde_json.specs.View.{items_view}
use Rattle.serde_json.specs.declared.value.Value.{Value as Json}
use Rattle.cite_schema.specs.TableTexts.{before}
use Rattle.query_json.specs.Values.{all_of, list_of}
use Rattle.query_json.specs.Conditions.{condition_of, conditions_in, conditions_of}

-- what was read, and then what the rest says
abbrev pub reading : {A : Type 0} → (Data → Option A) → List A → List Json → Option (List A)
reading f out rest = option_map (λ more. out ++ more) (all_of f (items_view rest))

pub conditions_in-all_of : (ds : Items) → conditions_in ds ≡ all_of condition_of ds
conditions_in-all_of no_items = refl
conditions_in-all_of (item d ds) = ap (before (condition_of d)) (conditions_in-all_of ds)

-- the conditions of an array are those of its items
pub conditions_of-list_of : (d : Data) → conditions_of d ≡ list_of condition_of d
conditions_of-list_of null = refl
conditions_of-list_of (boolean b) = refl
conditions_of-list_of (number n) = refl
conditions_of-list_of (string s) = refl
conditions_of-list_of (array ds) = conditions_in-all_of ds
conditions_of-list_of (object ms) = refl
