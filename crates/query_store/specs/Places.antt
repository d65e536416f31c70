-- The places of citations: by number, and by what they are found by.
use Rattle.std.specs.Prelude.{◌≡◌, ⊤, ℕ, ◌+◌, ◌^◌, ◌<◌, List, [], ◌∷◌, ◌++◌, Option, None, Some, length, map}
use Rattle.std.specs.Cmp.{IsTotalOrder}
use Rattle.std.specs.List.{AllByRecursion}
use Rattle.std.specs.Ordering.{nat_cmp, ordering_then}
use Rattle.std.specs.declared.cmp.Ordering.{Ordering}
use Rattle.std.proofs.lemmas.Cmp.{nat_cmp_total, on_total, then_total}
use Rattle.sha2.specs.Sha256.{sha256}
use Rattle.cite_schema.specs.Values.{text_cmp}
use Rattle.cite_schema.proofs.Orders.{text_total}
use Rattle.cite_schema.proofs.Rising.{In}
use Rattle.subset_query.specs.Printed.{printed_form}
use Rattle.query_store.specs.declared.citation.Citation.{Citation}
use Rattle.query_store.specs.declared.numbered.Numbered.{Numbered}
use Rattle.query_store.specs.declared.finding.Finding.{Finding}
use Rattle.query_store.specs.Citations.{numbered}

-- the order of numbers
abbrev pub number_cmp : Numbered → Numbered → Ordering
number_cmp a b = nat_cmp a.number b.number

-- it is total
pub number_total : IsTotalOrder number_cmp
number_total = on_total (λ (n : Numbered). n.number) nat_cmp_total

-- the order of findings by the digest of the form, and that of the bytes
abbrev pub digest_cmp : Finding → Finding → Ordering
digest_cmp a b = ordering_then (text_cmp a.query_sha b.query_sha) (text_cmp a.result_sha b.result_sha)

-- the order of findings: by both digests, and then by the number
abbrev pub finding_cmp : Finding → Finding → Ordering
finding_cmp a b = ordering_then (digest_cmp a b) (nat_cmp a.number b.number)

-- the order by digests is total
pub digest_total : IsTotalOrder digest_cmp
digest_total = then_total (on_total (λ (f : Finding). f.query_sha) text_total) (on_total (λ (f : Finding). f.result_sha) text_total)

-- the order of findings is total
pub finding_total : IsTotalOrder finding_cmp
finding_total = then_total digest_total (on_total (λ (f : Finding). f.number) nat_cmp_total)

-- what the citation with a number is found by
abbrev pub finding_of : ℕ → Citation → Finding
finding_of n c = record { query_sha = sha256 (printed_form c.normal); result_sha = c.result_sha; number = n }

-- the citations, without their numbers
abbrev pub citations_of : List Numbered → List Citation
citations_of entries = map (λ (n : Numbered). n.citation) entries

-- the newest citation, if there is one
abbrev pub listed : Option Citation → List Citation
listed None = []
listed (Some c) = c ∷ []

-- the newest citation, if there is one, with a number
abbrev pub entries : ℕ → Option Citation → List Numbered
entries n None = []
entries n (Some c) = record { number = n; citation = c } ∷ []

-- the older citations, and the newest
abbrev pub all_citations : List Numbered → Option Citation → List Citation
all_citations older newest = citations_of older ++ listed newest

-- they are numbered from a first number on
abbrev pub AreNumbered : ℕ → List Numbered → Type 0
AreNumbered first [] = ⊤
AreNumbered first (n ∷ ns) = (n.number ≡ first) × AreNumbered (first + 1) ns

-- a finding of one of the citations
pub record IsFound (citations : List Citation) (f : Finding) : Type 0 where
  pub citation : Citation
  pub is : numbered citations f.number ≡ Some citation
  pub found : f ≡ finding_of f.number citation

-- the index has what each of the citations is found by, and no more
pub record IsIndex (citations : List Citation) (index : List Finding) : Type 0 where
  pub sound : AllByRecursion (IsFound citations) index
  pub whole : (n : ℕ) (c : Citation) → numbered citations n ≡ Some c → In (finding_of n c) index

-- the older citations are numbered from 1 on, there are few enough for their numbers, and the index is theirs
pub record IsStore (older : List Numbered) (newest : Option Citation) (index : List Finding) : Type 0 where
  pub numbered : AreNumbered 1 older
  pub few : length (all_citations older newest) < 2 ^ 32
  pub indexed : IsIndex (all_citations older newest) index

-- what is made ready for a new citation: the others are older ones, and the index has the new one too
pub record IsRoom (citations : List Citation) (new : Citation) (older : List Numbered) (index : List Finding) : Type 0 where
  pub citations_are : citations_of older ≡ citations
  pub numbered : AreNumbered 1 older
  pub indexed : IsIndex (citations ++ new ∷ []) index
