-- The definitions on small cases.
use Rattle.std.proofs.Common.{◌≡◌, ◌≢◌, ℕ, pos, negsuc, true, false, ◌^◌, ◌-◌, List, [], ◌∷◌, refl, subst, ◌++◌, codes, ◌⊎◌, inl, inr}
use Rattle.cite_schema.specs.declared.value.Kind.TheVariants as kinds
use Rattle.cite_schema.specs.declared.value.Value.TheVariants.{Int, Text}
use Rattle.cite_schema.specs.declared.schema.Column as schema_column
use Rattle.cite_schema.specs.declared.item.Shown.TheVariants.{Column, Constant}
use Rattle.cite_schema.specs.Tables.{is_table}
use Rattle.cite_schema.specs.Layout.{laid_out}
use Rattle.std.specs.declared.option.Option.TheVariants as options
use Rattle.subset_query.specs.declared.form.Normal.{Normal}
use Rattle.subset_query.specs.declared.form.Normal.TheVariants.{Some}
use Rattle.subset_query.specs.declared.form.ColumnSet.TheVariants.{Ints}
use Rattle.subset_query.specs.Forms.{IsSettled, HasTwo, IsMany, IsNext}
use Rattle.subset_query.specs.declared.form.ColumnSet.{ColumnSet}
use Rattle.cite_schema.specs.declared.item.Dir.{Dir}

two_columns : List schema_column.Column
two_columns = record { name = codes "sid"; kind = kinds.Int } ∷ record { name = codes "x"; kind = kinds.Int } ∷ []

a_table : is_table two_columns ((Int (pos 1) ∷ Int (pos 12) ∷ []) ∷ (Int (pos 2) ∷ Int (negsuc 0) ∷ []) ∷ []) ≡ true
unfolding two_columns
a_table = refl

no_table : is_table two_columns ((Int (pos 2) ∷ Int (pos 12) ∷ []) ∷ (Int (pos 1) ∷ Int (negsuc 0) ∷ []) ∷ []) ≡ false
unfolding two_columns
no_table = refl

over : is_table two_columns ((Int (pos (2 ^ 63)) ∷ Int (pos 12) ∷ []) ∷ []) ≡ false
unfolding two_columns
over = refl

bytes : laid_out (record { label = codes "sid"; what = Column 0 } ∷ record { label = codes "a\"b"; what = Constant (codes "c") } ∷ []) ((Text (codes "1") ∷ Int (pos 12) ∷ []) ∷ []) ≡ codes "\"sid\",\"a\"\"b\"\n\"1\",\"c\"\n"
bytes = refl

-- 5 <= x < 6, item sid, by sid: settled
form : Normal
form = Some (Ints (record { low = negsuc (2 ^ 63 - 1); high = options.None } ∷ []) ∷ Ints (record { low = pos 5; high = options.Some (pos 6) } ∷ []) ∷ [])
    (record { label = codes "sid"; what = Column 0 } ∷ []) (record { column = 0; down = false } ∷ [])

back_some : {X : Type 0} (front : List X) (d : X) (back : List X) → [] ≡ front ++ (d ∷ back) → ⊥
back_some [] d back e = cc
back_some (p ∷ ps) d back e = cc

tail_of : {X : Type 0} (a b : X) (x y : List X) → a ∷ x ≡ b ∷ y → x ≡ y
tail_of a b x y e = cc

head_of : {X : Type 0} (a b : X) (x y : List X) → a ∷ x ≡ b ∷ y → a ≡ b
head_of a b x y e = cc

whole : ColumnSet
whole = Ints (record { low = negsuc (2 ^ 63 - 1); high = options.None } ∷ [])

two : HasTwo kinds.Int whole
unfolding whole
two = record { one = Int (pos 0); other = Int (pos 1); differ = λ e. cc; one_in = refl; other_in = refl }

many : IsMany two_columns (whole ∷ Ints (record { low = pos 5; high = options.Some (pos 6) } ∷ []) ∷ []) 0
unfolding two_columns
many = two

next : (front : List Dir) (d : Dir) (back : List Dir) → record { column = 0; down = false } ∷ [] ≡ front ++ (d ∷ back)
    → IsNext two_columns (whole ∷ Ints (record { low = pos 5; high = options.Some (pos 6) } ∷ []) ∷ []) (0 ∷ []) front d
next [] d back e = record { many = subst (λ (w : Dir). IsMany two_columns (whole ∷ Ints (record { low = pos 5; high = options.Some (pos 6) } ∷ []) ∷ []) w.column) (head_of _ _ _ _ e) many; new = tt; key_later = tt; wanted = refl }
next (p ∷ ps) d back e = absurd (back_some ps d back (tail_of _ _ _ _ e))

none_some : {X : Type 0} (a : X) (x : List X) → a ∷ x ≢ []
none_some a x e = cc

settled : IsSettled two_columns form
unfolding two_columns form whole
settled = record {
  sets_fit = ((record { low = refl; high = tt }, none_some _ _), ((record { low = refl; high = (refl, refl) }, none_some _ _), tt));
  some_item = none_some _ _;
  items_many = (many, tt);
  order_fits = record { each = next; none = λ h. absurd (possible h); enough = λ m p. refl };
}
  where
    possible : ((IsMany two_columns (whole ∷ Ints (record { low = pos 5; high = options.Some (pos 6) } ∷ []) ∷ []) 0 → ⊥) ⊎ (◌≡◌ {A = List ℕ} (0 ∷ []) [])) → ⊥
    possible (inl n) = n many
    possible (inr e) = none_some _ _ e
