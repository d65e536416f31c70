-- How a command ends, by what was due.
use Rattle.std.proofs.Common.{◌≡◌, ℕ, List, inl, inr, subst, sym}
use Rattle.std.specs.Prelude.{Result, Ok, Err, IfOk, MatchResult}
use Rattle.cite_schema.specs.declared.memory.NoMemory.{NoMemory}
use Rattle.cite_cli.specs.declared.ending.Ending.{Ending}
use Rattle.cite_cli.specs.declared.ending.Ending.TheVariants as endings
use Rattle.cite_cli.specs.declared.output.Due.{Due}
use Rattle.cite_cli.specs.declared.output.Due.TheVariants as dues
use Rattle.cite_cli.specs.Seen.{Seen, OnDisk, Ends}
use Rattle.cite_cli.specs.Verify.{UnopenedWrites, VerifyWrites, VerifyBreaks, VerifyLacks, IsQuiet}
use Rattle.cite_cli.specs.Seen.Ends.{Whole, Cut, Fails, Wants}
use Rattle.cite_cli.specs.Parts.{MayBeDue, Delivers}

pub ends_so : (Writes : Ending → List ℕ → Type 0) (Breaks Lacks : Type 0) (seen : Seen) (due : Due) (ending : Ending) → MayBeDue Writes Breaks Lacks due
    → Delivers due seen.written_before seen.written_after seen.writes_before seen.writes_after ending → Ends Writes Breaks Lacks seen ending
ends_so Writes Breaks Lacks seen (dues.Writes due bytes) ending may (inl whole) = Whole bytes (subst (λ (e : Ending). Writes e bytes) (sym whole.0) may) whole.1
ends_so Writes Breaks Lacks seen (dues.Writes due bytes) ending may (inr cut) = Cut due bytes may cut.0 cut.1 cut.2
ends_so Writes Breaks Lacks seen dues.DiskFault ending may told = Fails told.0 may told.1
ends_so Writes Breaks Lacks seen dues.NoMemory ending may told = Wants told.0 may told.1

-- a text of which this is known is due, if there was memory for it
pub due_so : (Writes : Ending → List ℕ → Type 0) (Breaks Lacks : Type 0) (ending : Ending) (Q : List ℕ → Type 0) (text : Result (List ℕ) NoMemory) (due : Due)
    → MatchResult text (λ bytes. due ≡ dues.Writes ending bytes) (λ _. due ≡ dues.NoMemory) → IfOk text Q → ((bytes : List ℕ) → Q bytes → Writes ending bytes) → Lacks → MayBeDue Writes Breaks Lacks due
due_so Writes Breaks Lacks ending Q (Ok bytes) due is told may lacks = subst (λ (d : Due). MayBeDue Writes Breaks Lacks d) (sym is) (may bytes told)
due_so Writes Breaks Lacks ending Q (Err fault) due is told may lacks = subst (λ (d : Due). MayBeDue Writes Breaks Lacks d) (sym is) lacks

-- what is due of a disk that can't be opened is due of a `verify`
pub unopened_due : (disk : OnDisk) (due : Due) → MayBeDue (UnopenedWrites disk) (VerifyBreaks disk) (IsQuiet disk) due → MayBeDue (VerifyWrites disk) (VerifyBreaks disk) (VerifyLacks disk) due
unopened_due disk (dues.Writes endings.NotArchive bytes) may = may
unopened_due disk (dues.Writes endings.Done bytes) may = absurd may
unopened_due disk (dues.Writes endings.Usage bytes) may = absurd may
unopened_due disk (dues.Writes endings.ReadFault bytes) may = absurd may
unopened_due disk (dues.Writes endings.WriteFault bytes) may = absurd may
unopened_due disk (dues.Writes endings.DiskFault bytes) may = absurd may
unopened_due disk (dues.Writes endings.Occupied bytes) may = absurd may
unopened_due disk (dues.Writes endings.NoMemory bytes) may = absurd may
unopened_due disk (dues.Writes endings.TooLong bytes) may = absurd may
unopened_due disk (dues.Writes endings.Refused bytes) may = absurd may
unopened_due disk (dues.Writes endings.Cut bytes) may = absurd may
unopened_due disk (dues.Writes endings.Broken bytes) may = absurd may
unopened_due disk dues.DiskFault may = may
unopened_due disk dues.NoMemory may = λ honest. inl (may honest)
