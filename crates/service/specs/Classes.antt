-- The codes and words of service classes.
use Rattle.std.specs.Prelude.{ℕ, ◌+◌, ◌-◌, ◌*◌, ◌/◌, ◌%◌, Bool, true, false, cond, T, List, [], ◌∷◌, Some, None, Option, nat_le, slice_index}
use Rattle.std.proofs.Common.{leb→le}
use Rattle.std.specs.Str.{bytes_eq}
use Rattle.service.specs.declared.classes.ServiceClass.{ServiceClass}

-- The code is four times the queue and the level.
abbrev pub class_code : ServiceClass → ℕ
class_code class = 4 * class.queue + class.level

-- The word is `q`, the queue's digit, a dot and the level's digit.
abbrev pub class_word : ServiceClass → List ℕ
class_word class = 113 ∷ (48 + class.queue) ∷ 46 ∷ (48 + class.level) ∷ []

-- What there is where a test passes.
abbrev pub where_passed : {A : Type 0} (b : Bool) → (T b → Option A) → Option A
where_passed true f = f tt
where_passed false f = None

-- The class of a queue up to 7 and a level up to 3.
abbrev pub class_of : ℕ → ℕ → Option ServiceClass
class_of queue level =
    where_passed (nat_le queue 7) (λ few. where_passed (nat_le level 3) (λ low.
    Some (record { queue = queue; level = level; few = leb→le queue 7 few; low = leb→le level 3 low })))

-- The class that has this code.
unfoldable pub class_of_code : ℕ → Option ServiceClass
class_of_code code = class_of (code / 4) (code % 4)

-- The class, if this is its word.
abbrev pub spelt : List ℕ → Option ServiceClass → Option ServiceClass
spelt word None = None
spelt word (Some class) = cond (bytes_eq (class_word class) word) (Some class) None

-- The class that has this word: the one of the two digits, if the word is its word.
unfoldable pub class_of_word : List ℕ → Option ServiceClass
class_of_word word = spelt word (class_of (slice_index word 1 - 48) (slice_index word 3 - 48))
