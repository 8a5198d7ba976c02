-- What a computed fault tells.
use Rattle.std.proofs.Common.{◌≡◌, ℕ, List, Some, Ok, Err, Result, ap}
use Rattle.faults.specs.declared.SheetFault.{SheetFault}
use Rattle.faults.specs.Faults.{told}
use Rattle.sheet.specs.Sheets.{Answer, Answers, Stops}
use Rattle.sheet_worked.specs.Worked.{Refuses}

refused : {A : Type 0} (a : Answer A) (f : SheetFault) (r : Result ℕ SheetFault) → Stops a r → a.stop ≡ Some f → Refuses (told f) r
refused a f (Ok n) e h = absurd (cc (e.0, h))
refused a f (Err g) e h = let q : g ≡ f = cc in ap told q

-- The reading was refused with the fault at which the sheet stops.
pub refused_with : {A : Type 0} {a : Answer A} {was is : List A} {r : Result ℕ SheetFault} (f : SheetFault) → Answers a was is r → a.stop ≡ Some f → Refuses (told f) r
refused_with {a = a} {r = r} f answers h = refused a f r answers.stops h
