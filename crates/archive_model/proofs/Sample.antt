-- A history of a founding and a batch, which leads to an archive.
use Rattle.std.proofs.Common.{◌≡◌, ◌≤◌, ◌<◌, ◌^◌, ℕ, ℤ, pos, Bool, true, false, List, [], ◌∷◌, ◌++◌, Option, Some, None, Result, IsTrue, length, refl, sym, ap, ◌∙◌, arith, zero, suc, ◌&&◌}
use Rattle.std.specs.Prelude.{Ok, Err, codes, nat_lt, nat_le, nat_eq, not, slice_index}
use Rattle.std.specs.List.{list_all}
use Rattle.std.proofs.lemmas.Str.{IsUtf8-from_ascii, is_utf8-from_IsUtf8}
use Rattle.std.proofs.lemmas.Bool.Decides.{nat_tests}
use Rattle.cite_schema.proofs.Rising.{and_first, and_second}
use Rattle.std.specs.Str.{is_utf8, IsAscii}
use Rattle.csv.specs.Reading.{records, default_config, strip_bom}
use Rattle.cite_schema.specs.Numbers.{number_of}
use Rattle.cite_schema.specs.declared.value.Kind.TheVariants as kinds
use Rattle.cite_schema.specs.declared.value.Value.{Value}
use Rattle.cite_schema.specs.declared.value.Value.TheVariants.{Int, Text}
use Rattle.cite_schema.specs.declared.schema.Column.{Column}
use Rattle.cite_schema.specs.declared.line.Line.{Line}
use Rattle.cite_schema.specs.declared.line.Line.TheVariants.{Put, Change, Remove}
use Rattle.entry_codec.specs.declared.entry.FoundEntry.{FoundEntry}
use Rattle.entry_codec.specs.declared.entry.BatchEntry.{BatchEntry}
use Rattle.entry_codec.specs.declared.entry.Entry.{Entry}
use Rattle.entry_codec.specs.declared.entry.Entry.TheVariants.{Found, Batch}
use Rattle.entry_codec.specs.Payloads.{big_endian}
use Rattle.batches.specs.Bodies.{lines_of, lines_of_records}
use Rattle.archive_model.specs.Archives.{Archive, now_table}
use Rattle.archive_model.specs.Outcomes.{Outcome}
use Rattle.archive_model.specs.Batching.{batch_entry, with_batch, new_batch, batch_step}
use Rattle.archive_model.specs.Histories.{MayBeAsked, MakesBy, LeadsTo, found_fault, founded, batch_ask}

abbrev sid : Column
sid = record { name = codes "sid"; kind = kinds.Int }

abbrev depth : Column
depth = record { name = codes "depth"; kind = kinds.Int }

abbrev founding : FoundEntry
founding = record { stamp = 1704067200; dataset = record { prefix = codes "10.5072"; publisher = codes "Lab"; creator = codes "Rey, A."; title = codes "Depths" }; columns = sid ∷ depth ∷ [] }

below : (n m : ℕ) → nat_lt n m ≡ true → n < m
below n m h = grind (arith, nat_tests)

ascii : (bs : List ℕ) → list_all (λ b. nat_lt b 128) bs ≡ true → IsAscii bs
ascii [] h i = omega arith
ascii (b ∷ bs) h zero = below b 128 (and_first _ _ h)
ascii (b ∷ bs) h (suc i) = ascii bs (and_second _ _ h) i

-- a text below 128 is UTF-8
utf8 : (bs : List ℕ) → list_all (λ b. nat_lt b 128) bs ≡ true → is_utf8 bs ≡ true
utf8 bs h = is_utf8-from_IsUtf8 bs (IsUtf8-from_ascii bs (ascii bs h))

founding_is_free : found_fault founding.dataset founding.columns founding.stamp ≡ None
founding_is_free = rw (utf8 (codes "Lab") refl, utf8 (codes "Rey, A.") refl, utf8 (codes "Depths") refl) refl

abbrev first_batch : BatchEntry
first_batch = record { stamp = 1704067200; schema = 1; curator = codes "ann"; number = 1; body = codes "op,sid,depth\n+,1,5\n+,2,12\n" }

abbrev lines : List Line
lines = Put (Int (pos 1) ∷ Int (pos 5) ∷ []) ∷ Put (Int (pos 2) ∷ Int (pos 12) ∷ []) ∷ []

abbrev table : List (List Value)
table = (Int (pos 1) ∷ Int (pos 5) ∷ []) ∷ (Int (pos 2) ∷ Int (pos 12) ∷ []) ∷ []

abbrev body_records : List (List (List ℕ))
body_records = (codes "op" ∷ codes "sid" ∷ codes "depth" ∷ []) ∷ (codes "+" ∷ codes "1" ∷ codes "5" ∷ []) ∷ (codes "+" ∷ codes "2" ∷ codes "12" ∷ []) ∷ []

read_lines : lines_of_records founding.columns body_records ≡ Ok lines
unfolding number_of
read_lines = refl

-- the archive after both
abbrev after : Archive
after = with_batch (founded founding) (batch_ask first_batch) first_batch.stamp lines table

-- csv's machine does not compute here, so what it reads is a premise; a test of the program meets it
module _ (read : records default_config (strip_bom first_batch.body) ≡ body_records) where
  body_lines : lines_of founding.columns first_batch.body ≡ Ok lines
  unfolding lines_of
  body_lines = ap (lines_of_records founding.columns) read ∙ read_lines

  made_new : new_batch (founded founding) (batch_ask first_batch) first_batch.stamp ≡ Ok after
  unfolding big_endian
  made_new = rw body_lines refl

  made_by : MakesBy (batch_step (founded founding) (batch_ask first_batch) first_batch.stamp) (Batch first_batch) after
  made_by = rw made_new (record { entry_is = refl; after_is = refl })

  may_be_asked : MayBeAsked (batch_ask first_batch)
  may_be_asked = record { curator = refl; least = omega arith; most = omega arith; body = omega arith }

  -- the premise of each law on histories can be met
  pub leads : LeadsTo (Found founding ∷ Batch first_batch ∷ []) after
  leads = (founding_is_free, (after, (may_be_asked, made_by), refl))

-- the present tables of its two versions
tables : (now_table after 1 ≡ Some []) × (now_table after 2 ≡ Some table)
tables = (refl, refl)
