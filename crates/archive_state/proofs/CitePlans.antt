-- The plan of a citation, from its parts.
use Rattle.std.proofs.Common.{◌≡◌, ◌≤◌, ◌+◌, ℕ, List, Some, None, length, refl, sym, ap, subst}
use Rattle.std.specs.Prelude.{true, false, Ok, Err}
use Rattle.std.specs.Arc.{arc_value}
use Rattle.cite_schema.specs.Answers.{Gives}
use Rattle.cite_schema.specs.Headings.{Heading}
use Rattle.cite_schema.specs.declared.query.CiteAsk.{CiteAsk}
use Rattle.cite_schema.specs.declared.schema.Column.{Column}
use Rattle.cite_schema.specs.declared.value.Value.{Value}
use Rattle.entry_codec.specs.declared.entry.Entry.{Entry}
use Rattle.subset_query.specs.Forms.{formed}
use Rattle.subset_query.specs.declared.form.Normal.{Normal}
use Rattle.versioned_rows.specs.Histories.{last_table}
use Rattle.archive_model.specs.declared.answers.Cited.{Cited}
use Rattle.archive_model.specs.declared.answers.Refused.{Refused}
use Rattle.archive_model.specs.declared.answers.Refused.TheVariants as refusals
use Rattle.archive_model.specs.Archives.{Archive, columns_of}
use Rattle.archive_model.specs.Citing.{cite_entry, new_citation, CiteStep}
use Rattle.archive_model.specs.Histories.{Makes}
use Rattle.archive_model.specs.Outcomes.{refuses, makes, stamped}
use Rattle.archive_model.proofs.Counted.{counts_keep_their_limits}
use Rattle.archive_model.proofs.Growing.{grow}
use Rattle.archive_model.proofs.InStep.{same_last}
use Rattle.archive_state.specs.declared.plan.Made.{Made}
use Rattle.archive_state.specs.declared.plan.Planned.TheVariants.{Repeat, New}
use Rattle.archive_state.specs.declared.present.Present.{Present}
use Rattle.archive_state.specs.declared.snapshot.Snapshot.{Snapshot}
use Rattle.archive_state.specs.Citations.{IsFormOf, TellsForm, TellsBytes, TellsFirst, PlansCitation}
use Rattle.archive_state.specs.Planning.{Plans}
use Rattle.archive_state.specs.Standing.{StandsFor}
use Rattle.archive_state.proofs.CiteSteps.{query_refused, meta_refused, size_refused, repeated, minted_anew, made_again, entry_again}

module _ (p : Present) (history : List Entry) (a : Archive) (stands : StandsFor p history a) (ask : CiteAsk) (now : ℕ) where
  abbrev seen : Snapshot
  seen = arc_value p.snapshot

  -- the columns and the last table are those of the archive
  columns_are : seen.schema.columns ≡ columns_of a
  columns_are = ap (λ (h : Heading). h.columns) stands.agrees.shows.schema_is

  table_is : last_table seen.rows ≡ a.last.table
  table_is = same_last a seen.rows stands.agrees.shows.parts.tables

  -- what the form's call refuses, the archive refuses
  refused_form : (r : Refused) → TellsForm (columns_of a) ask (Err r) → Plans {R = Cited} (CiteStep a ask now) history a (Err r)
  refused_form (refusals.Query fault) h = query_refused history a stands.leads ask now fault h
  refused_form (refusals.BadMeta part) h = meta_refused history a stands.leads ask now part h.0 h.1
  refused_form refusals.NoMemory h = tt
  refused_form r h = absurd h

  pub form_refused : (r : Refused) → TellsForm seen.schema.columns ask (Err r) → Plans {R = Cited} (CiteStep a ask now) history a (Err r)
  form_refused r h = refused_form r (subst (λ (columns : List Column). TellsForm columns ask (Err r)) columns_are h)

  module _ (form : Normal) (is : IsFormOf seen.schema.columns ask form) where
    is_form : IsFormOf (columns_of a) ask form
    is_form = subst (λ (columns : List Column). IsFormOf columns ask form) columns_are is

    -- what the bytes' call refuses, the archive refuses
    refused_bytes : (r : Refused) → TellsBytes form a.last.table (Err r) → Plans {R = Cited} (CiteStep a ask now) history a (Err r)
    refused_bytes (refusals.ResultTooLarge size) h = size_refused history a stands.leads ask form is_form now size h
    refused_bytes refusals.NoMemory h = tt
    refused_bytes r h = absurd h

    pub bytes_refused : (r : Refused) → TellsBytes form (last_table seen.rows) (Err r) → Plans {R = Cited} (CiteStep a ask now) history a (Err r)
    bytes_refused r h = refused_bytes r (subst (λ (table : List (List Value)). TellsBytes form table (Err r)) table_is h)

    module _ (bytes : List ℕ) (gives : Gives (formed form) (last_table seen.rows) bytes) (small : length bytes ≤ 67108864) where
      given_last : Gives (formed form) a.last.table bytes
      given_last = subst (λ (table : List (List Value)). Gives (formed form) table bytes) table_is gives

      -- a first citation that fits is the plan
      pub plans_repeat : (number : ℕ) → TellsFirst form bytes a.minted (Some number) → Plans {R = Cited} (CiteStep a ask now) history a (Ok (Repeat (record { number = number; new = false })))
      plans_repeat number first = repeated history a stands.leads ask form is_form now bytes given_last small number first

      module _ (none : TellsFirst form bytes a.minted None) where
        refused_new : (r : Refused) → new_citation a ask now bytes form ≡ Err r → CiteStep a ask now (refuses a r)
        refused_new r e = minted_anew history a stands.leads ask form is_form now bytes given_last small none (Err r) e

        -- where there is none, the refusal of a new one is the plan
        pub plans_refusal : (r : Refused) → PlansCitation a ask now bytes form history (Err r) → Plans {R = Cited} (CiteStep a ask now) history a (Err r)
        plans_refusal refusals.NoMemory h = tt
        plans_refusal r h = refused_new r h

        -- the entry is one that the archive makes
        made_so : (next : Archive) → new_citation a ask now bytes form ≡ Ok next → Makes a (cite_entry a ask now bytes) next
        made_so next e =
            let again = made_again a ask bytes form now next (counts_keep_their_limits history a stands.leads).clock e in (
              makes a (cite_entry a ask (stamped a now) bytes) (record { number = length a.minted + 1; new = true }) (Ok next),
              minted_anew history a stands.leads ask form is_form (stamped a now) bytes given_last small none (Ok next) again,
              record { entry_is = ap Some (entry_again a ask bytes form now); after_is = refl },
            )

        -- or the new one is
        pub plans_new : (made : Made Cited) → PlansCitation a ask now bytes form history (Ok made) → Plans {R = Cited} (CiteStep a ask now) history a (Ok (New made))
        plans_new made h = record {
          outcome = makes a (cite_entry a ask now bytes) (record { number = length a.minted + 1; new = true }) (Ok h.next);
          is = minted_anew history a stands.leads ask form is_form now bytes given_last small none (Ok h.next) h.makes;
          entry = cite_entry a ask now bytes;
          entry_is = refl;
          reply_is = ap Ok (sym h.reply_is);
          payload_is = h.payload_is;
          fits = h.fits;
          stands = record { leads = grow history a h.next (cite_entry a ask now bytes) stands.leads (made_so h.next h.makes); agrees = h.stands };
        }
