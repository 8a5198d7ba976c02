-- The number of each refusal of a card.
use Rattle.std.specs.Prelude.{ℕ}
use Rattle.card.specs.declared.refusals.Refusal.{Refusal}
use Rattle.card.specs.declared.refusals.Refusal.TheVariants.{HeaderTooWide, StoreNotEmpty, OutOfRange, NotFree, NothingInForce, NotSetAside, LookupOpen}

abbrev pub number : Refusal → ℕ
number HeaderTooWide = 12
number StoreNotEmpty = 20
number OutOfRange = 21
number NotFree = 22
number NothingInForce = 24
number NotSetAside = 26
number LookupOpen = 27
