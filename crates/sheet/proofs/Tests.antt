-- What a value says that is there where a test holds.
use Rattle.std.proofs.Common.{◌≡◌, Bool, true, false, cond, Some, None, refl}

pub tested : {A : Type 0} (b : Bool) (a x : A) → cond b (Some a) None ≡ Some x → (b ≡ true) × (a ≡ x)
tested true a x e = (refl, (cc))
tested false a x e = absurd (cc)
