-- The bodies of answers in JSON, compact, with members in byte order of their names.
use Rattle.std.specs.Prelude.{ℕ, Bool, List, codes, map}
use Rattle.serde_json.specs.Data.{Data, boolean, number, unsigned, string, array, object, no_members, member}
use Rattle.serde_json.specs.View.{items_of}
use Rattle.serde_json.specs.Written.{compact_text}
use Rattle.cite_schema.specs.Headings.{Heading}
use Rattle.cite_schema.specs.declared.schema.Column.{Column}
use Rattle.cite_schema.specs.declared.value.Kind.{Kind}
use Rattle.cite_schema.specs.declared.value.Kind.TheVariants.{Int, Text}
use Rattle.archive_model.specs.declared.answers.Stored.{Stored}
use Rattle.archive_model.specs.declared.answers.Moved.{Moved}

-- a stored batch: `{"new":true,"version":2}`
abbrev pub stored_value : Stored → Data
stored_value s =
    object (member (codes "new") (boolean s.new) (member (codes "version") (number (unsigned s.version)) no_members))

-- a citation, with its identifier and its citation text: `{"id":"10.5072/c1","new":true,"text":"Rey, A. (2024): .."}`
abbrev pub cited_value : (id : List ℕ) (new : Bool) (text : List ℕ) → Data
cited_value id new text =
    object (member (codes "id") (string id) (member (codes "new") (boolean new) (member (codes "text") (string text) no_members)))

-- a migration: `{"schema":2,"version":3}`
abbrev pub moved_value : Moved → Data
moved_value m =
    object (member (codes "schema") (number (unsigned m.schema)) (member (codes "version") (number (unsigned m.version)) no_members))

-- the word of a kind
abbrev pub kind_word : Kind → List ℕ
kind_word Int = codes "int"
kind_word Text = codes "text"

-- a column: `{"kind":"int","name":"sid"}`
abbrev pub column_value : Column → Data
column_value c =
    object (member (codes "kind") (string (kind_word c.kind)) (member (codes "name") (string c.name) no_members))

-- what an archive holds: `{"citations":1,"columns":[..],"schema":1,"version":2}`
abbrev pub state_value : (citations : ℕ) → Heading → (version : ℕ) → Data
state_value citations schema version =
    object (
    member (codes "citations") (number (unsigned citations)) (
    member (codes "columns") (array (items_of (map column_value schema.columns))) (
    member (codes "schema") (number (unsigned schema.number)) (
    member (codes "version") (number (unsigned version))
    no_members))))

-- the same as texts
abbrev pub stored_json : Stored → List ℕ
stored_json s = compact_text (stored_value s)

abbrev pub cited_json : (id : List ℕ) (new : Bool) (text : List ℕ) → List ℕ
cited_json id new text = compact_text (cited_value id new text)

abbrev pub moved_json : Moved → List ℕ
moved_json m = compact_text (moved_value m)

abbrev pub state_json : (citations : ℕ) → Heading → (version : ℕ) → List ℕ
state_json citations schema version = compact_text (state_value citations schema version)
