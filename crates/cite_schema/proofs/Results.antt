-- What is known where a result came after tests.
use Rattle.std.proofs.Common.{◌≡◌, Bool, true, false, Option, Some, None, Result, refl}
use Rattle.std.specs.Prelude.{Ok, Err}
use Rattle.cite_schema.specs.Tests.{demand, unless, wanted, given}

-- where a value came, the test held, and the value is what followed
pub demanded : {A F : Type 0} (b : Bool) (fault : F) (rest : Result A F) (x : A) → demand b fault rest ≡ Ok x → (b ≡ true) × (rest ≡ Ok x)
demanded true fault rest x e = (refl, e)
demanded false fault rest x e = absurd (cc)

-- where a value came, there was no fault
pub unfaulted : {A F : Type 0} (o : Option F) (rest : Result A F) (x : A) → unless o rest ≡ Ok x → (o ≡ None) × (rest ≡ Ok x)
unfaulted None rest x e = (refl, e)
unfaulted (Some fault) rest x e = absurd (cc)

-- where a value came, there was a value before
pub had : {A B F : Type 0} (o : Option A) (fault : F) (rest : A → Result B F) (x : B) → wanted o fault rest ≡ Ok x → (y : A) × (o ≡ Some y) × (rest y ≡ Ok x)
had (Some y) fault rest x e = (y, refl, e)
had None fault rest x e = absurd (cc)

-- likewise of a result
pub gave : {A B F G : Type 0} (r : Result A F) (told : F → G) (rest : A → Result B G) (x : B) → given r told rest ≡ Ok x → (y : A) × (r ≡ Ok y) × (rest y ≡ Ok x)
gave (Ok y) told rest x e = (y, refl, e)
gave (Err fault) told rest x e = absurd (cc)
