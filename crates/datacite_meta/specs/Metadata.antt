-- What is told of a citation and of the data set: the citation text, and the metadata of DataCite as JSON.
use Rattle.std.specs.Prelude.{◌≡◌, ℕ, ◌≤◌, true, List, [], ◌∷◌, ◌++◌, None, map, codes, decimal}
use Rattle.std.specs.List.{flat_map}
use Rattle.serde_json.specs.Data.{Data, Items, number, unsigned, string, array, object, no_items, item, no_members, member}
use Rattle.serde_json.specs.View.{items_of}
use Rattle.serde_json.specs.Written.{compact_text}
use Rattle.cite_schema.specs.declared.dataset.Dataset.{Dataset}
use Rattle.cite_schema.specs.declared.dataset.Issue.{Issue}
use Rattle.cite_schema.specs.Metadata.{is_plain_within, meta_fault}
use Rattle.identifiers.specs.Names.{name_of}
use Rattle.identifiers.specs.Prefixes.{is_prefix}
use Rattle.identifiers.specs.declared.named.Named.TheVariants.{Superset, Subset}
use Rattle.datacite_meta.specs.Stamps.{IsStamp, stamp_text, year_of}

-- the texts of a data set are those that it may be founded with
pub record IsDescribed (d : Dataset) : Type 0 where
  pub prefix : is_prefix d.prefix ≡ true
  pub publisher : is_plain_within 1 1024 d.publisher ≡ true
  pub creator : is_plain_within 1 1024 d.creator ≡ true
  pub title : is_plain_within 1 1024 d.title ≡ true

-- an issue is that of a citation: its number is from 1 on, its stamps have texts, and its metadata keep their rules
pub record IsIssued (i : Issue) : Type 0 where
  pub number : 1 ≤ i.number
  pub cited : IsStamp i.cited
  pub updated : IsStamp i.updated
  pub meta : meta_fault i.meta ≡ None

-- texts with a semicolon and a space between
abbrev pub joined : List (List ℕ) → List ℕ
joined [] = []
joined (t ∷ ts) = t ++ flat_map (λ u. codes "; " ++ u) ts

-- the citation text (RDA R10): `Rey, A. (2024): Mid depths. Version 2. Lab. Dataset. https://doi.org/10.5072/c1`
abbrev pub citation_text : Dataset → Issue → List ℕ
citation_text d i =
    joined i.meta.creators ++ codes " (" ++ decimal (year_of i.cited) ++ codes "): " ++ i.meta.title
    ++ codes ". Version " ++ decimal i.version ++ codes ". " ++ d.publisher
    ++ codes ". Dataset. https://doi.org/" ++ name_of d.prefix (Subset i.number)

-- a creator
abbrev pub creator : List ℕ → Data
creator name = object (member (codes "name") (string name) no_members)

-- the creators in order
abbrev pub creators : List (List ℕ) → Items
creators names = items_of (map creator names)

-- a date, and what happened on it: `Created` or `Updated`
abbrev pub dated : ℕ → List ℕ → Data
dated stamp what =
    object (member (codes "date") (string (stamp_text stamp)) (member (codes "dateType") (string what) no_members))

-- an identifier
abbrev pub identifier : List ℕ → Data
identifier id =
    object (member (codes "identifier") (string id) (member (codes "identifierType") (string (codes "DOI")) no_members))

-- what a citation is a part of
abbrev pub part_of : List ℕ → Data
part_of id =
    object (member (codes "relatedIdentifier") (string id)
    (member (codes "relatedIdentifierType") (string (codes "DOI"))
    (member (codes "relationType") (string (codes "IsPartOf")) no_members)))

-- a title
abbrev pub titled : List ℕ → Data
titled title = object (member (codes "title") (string title) no_members)

-- the type of every resource here
abbrev pub resource : Data
resource =
    object (member (codes "resourceType") (string (codes "Dataset"))
    (member (codes "resourceTypeGeneral") (string (codes "Dataset")) no_members))

-- the properties of a resource, with members in byte order of their names
abbrev pub properties : (creators dates identifiers : Data) (year : ℕ) (publisher : List ℕ) (related titles : Data) → Data
properties creators dates identifiers year publisher related titles =
    object (
    member (codes "creators") creators (
    member (codes "dates") dates (
    member (codes "identifiers") identifiers (
    member (codes "publicationYear") (number (unsigned year)) (
    member (codes "publisher") (string publisher) (
    member (codes "relatedIdentifiers") related (
    member (codes "schemaVersion") (string (codes "http://datacite.org/schema/kernel-4")) (
    member (codes "titles") titles (
    member (codes "types") resource
    no_members)))))))))

-- the metadata of a resource: who made it, when it was created and updated, its identifier, who publishes it, what it is a
-- part of, and its title
abbrev pub metadata : (names : List (List ℕ)) (created updated : ℕ) (id publisher : List ℕ) (related : Items) (title : List ℕ) → Data
metadata names created updated id publisher related title =
    properties (array (creators names))
    (array (item (dated created (codes "Created")) (item (dated updated (codes "Updated")) no_items)))
    (array (item (identifier id) no_items)) (year_of created) publisher (array related) (array (item (titled title) no_items))

-- the metadata of a citation, which is a part of the data set
abbrev pub meta_json : Dataset → Issue → List ℕ
meta_json d i = compact_text (metadata i.meta.creators i.cited i.updated (name_of d.prefix (Subset i.number))
    d.publisher (item (part_of (name_of d.prefix Superset)) no_items) i.meta.title)

-- the metadata of the data set, which is a part of nothing
abbrev pub dataset_json : (d : Dataset) (founded updated : ℕ) → List ℕ
dataset_json d founded updated = compact_text (metadata (d.creator ∷ []) founded updated (name_of d.prefix Superset)
    d.publisher no_items d.title)
