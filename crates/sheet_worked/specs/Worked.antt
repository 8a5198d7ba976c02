-- Worked examples.
use Rattle.std.specs.Prelude.{◌≡◌, ℕ, Ok, Err, Result}
use Rattle.faults.specs.declared.SheetFault.{SheetFault}
use Rattle.faults.specs.declared.Told.{Told}
use Rattle.faults.specs.Faults.{told}

-- A sheet is refused with a fault that tells this.
abbrev pub Refuses : Told → Result ℕ SheetFault → Type 0
Refuses tells (Ok count) = ⊥
Refuses tells (Err fault) = told fault ≡ tells
