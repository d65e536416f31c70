-- An entry that has a payload can be printed: what is asked of one in memory is less.
use Rattle.std.specs.Prelude.{ℕ, zero, suc, List, [], ◌∷◌}
use Rattle.std.specs.List.{AllByRecursion}
use Rattle.cite_schema.specs.declared.value.Value.{Value}
use Rattle.cite_schema.specs.declared.value.Value.TheVariants as values
use Rattle.cite_schema.specs.declared.condition.Cond.{Cond, out-Cond}
use Rattle.cite_schema.specs.declared.condition.Cond.TheOpen.{Cond-F, Lt, Le, Eq, Ne, Ge, Gt, Among, Prefix, AllOf, AnyOf, Not}
use Rattle.cite_schema.specs.declared.query.OnColumn.{OnColumn}
use Rattle.cite_schema.specs.declared.query.Query.{Query}
use Rattle.cite_schema.specs.declared.step.Step.{Step}
use Rattle.cite_schema.specs.declared.step.Step.TheVariants.{Rename, Add, DropColumn, Scale, Recode, RetypeToText}
use Rattle.entry_codec.specs.declared.entry.Entry.{Entry}
use Rattle.entry_codec.specs.declared.entry.Entry.TheVariants as entries
use Rattle.entry_codec.specs.Spellable.{told, held, FitsList, FitsValue, FitsLayer, FitsCond, FitsOn, FitsQuery, FitsStep, FitsEntry, IsPrintable}

all_held : {A : Type 0} (P Q : A → Type 0) → ((a : A) → P a → Q a) → (xs : List A) → AllByRecursion P xs → AllByRecursion Q xs
all_held P Q weaker [] all = tt
all_held P Q weaker (x ∷ xs) all = (weaker x all.0, all_held P Q weaker xs all.1)

list_held : {A : Type 0} (limit : ℕ) (P Q : A → Type 0) → ((a : A) → P a → Q a) → (xs : List A) → FitsList limit P xs → FitsList limit Q xs
list_held limit P Q weaker xs fits = (fits.0, all_held P Q weaker xs fits.1)

value_held : (v : Value) → FitsValue told v → FitsValue held v
value_held (values.Int z) fits = tt
value_held (values.Text t) fits = fits

layer_held : (P Q : Cond → Type 0) → ((c : Cond) → P c → Q c) → (l : Cond-F Cond) → FitsLayer told P l → FitsLayer held Q l
layer_held P Q weaker (Lt v) fits = value_held v fits
layer_held P Q weaker (Le v) fits = value_held v fits
layer_held P Q weaker (Eq v) fits = value_held v fits
layer_held P Q weaker (Ne v) fits = value_held v fits
layer_held P Q weaker (Ge v) fits = value_held v fits
layer_held P Q weaker (Gt v) fits = value_held v fits
layer_held P Q weaker (Among vs) fits = list_held _ (FitsValue told) (FitsValue held) value_held vs fits
layer_held P Q weaker (Prefix p) fits = fits
layer_held P Q weaker (AllOf cs) fits = list_held _ P Q weaker cs fits
layer_held P Q weaker (AnyOf cs) fits = list_held _ P Q weaker cs fits
layer_held P Q weaker (Not c) fits = weaker c fits

cond_held : (depth : ℕ) (c : Cond) → FitsCond told depth c → FitsCond held depth c
unfolding FitsCond
cond_held zero c fits = fits
cond_held (suc depth) c fits = layer_held (FitsCond told depth) (FitsCond held depth) (cond_held depth) (out-Cond c) fits

on_held : (o : OnColumn) → FitsOn told o → FitsOn held o
on_held o fits = (fits.0, cond_held 32 o.cond fits.1)

query_held : (q : Query) → FitsQuery told q → FitsQuery held q
query_held q fits = (list_held _ (FitsOn told) (FitsOn held) on_held q.conds fits.0, fits.1, fits.2)

step_held : (s : Step) → FitsStep told s → FitsStep held s
step_held (Rename column to) fits = fits
step_held (Add column value) fits = (fits.0, value_held value fits.1)
step_held (DropColumn column) fits = fits
step_held (Scale column by plus) fits = (fits.0, tt, tt)
step_held (Recode column old new) fits = (fits.0, value_held old fits.1, value_held new fits.2)
step_held (RetypeToText column) fits = fits

-- what has a payload can be printed
pub entry_held : (e : Entry) → FitsEntry e → IsPrintable e
entry_held (entries.Found e) fits = (tt, fits.1, fits.2)
entry_held (entries.Batch e) fits = (tt, tt, fits.2, tt, fits.4)
entry_held (entries.Cite e) fits = (tt, tt, tt, tt, query_held e.query fits.4, fits.5)
entry_held (entries.Migrate e) fits = (tt, tt, list_held _ (FitsStep told) (FitsStep held) step_held e.steps fits.2)
