-- The fields of a line one after another.
use Rattle.std.proofs.Common.{◌≡◌, ℕ, List, Some, None, Option, Result, sym, refl, ap, ◌∙◌}
use Rattle.std.specs.Prelude.{ok_or}
use Rattle.faults.specs.declared.FieldFault.{FieldFault}
use Rattle.faults.specs.declared.FieldFault.TheVariants.{OutOfRange}
use Rattle.faults.specs.declared.Position.{Position}
use Rattle.faults.specs.declared.Spot.{Spot}
use Rattle.sheet.specs.declared.reader.Reader.{Reader}
use Rattle.sheet.specs.Calls.{answer, itself, in_field, Began, InField, InLine}
use Rattle.sheet.specs.Forms.{position, Read, got, fault}
use Rattle.sheet.specs.Lines.{spot, and_then}
use Rattle.sheet.specs.Readings.{meant, ranged}

-- What was read of a field that was begun is what the line says there.
pub whole : {A : Type 0} (says : List ℕ → Spot → ℕ → Read A) (field : ℕ) {was mid is : Reader} {x : Read A} → Began field was mid → InField says mid is x → InLine (in_field says field) was is x
whole says field {was} {mid} b f =
    record {
      sheet = f.sheet ∙ b.sheet;
      line = ap (λ (p : Spot). p.line) (f.spot ∙ b.spot);
      told =
          ap (λ (t : List ℕ). says t (spot was.spot.line field) was.at) (sym b.sheet)
          ∙ ap (λ (p : Spot). says mid.sheet.now p was.at) (sym b.spot)
          ∙ ap (λ (k : ℕ). says mid.sheet.now mid.spot k) (sym b.at)
          ∙ f.told;
    }

-- A field means what its numbers mean.
pub means : {A : Type 0} (of : List ℕ → Option A) (tokens : List ℕ → Spot → ℕ → Read (List ℕ)) {was is : Reader} {x : Read (List ℕ)} → InField tokens was is x →
    InField (λ s p at. meant of p at (tokens s p at)) was is (meant of was.spot was.at x)
means of tokens {was} f = record { sheet = f.sheet; spot = f.spot; told = ap (meant of was.spot was.at) f.told }

-- Where the numbers are out of range, the fault is at the field's first byte.
ranged_is : {A : Type 0} (p : Spot) (from to : ℕ) (o : Option A) → ranged p from to o ≡ answer itself (ok_or o (OutOfRange (position from p))) to
ranged_is p from to None = refl
ranged_is p from to (Some x) = refl

pub ranged_whole : {A : Type 0} (says : List ℕ → Spot → ℕ → Read A) (field : ℕ) {was mid is : Reader} {o found : Option A} {start : Position} {r : Result A FieldFault} →
    Began field was mid → InField says mid is (ranged mid.spot mid.at is.at o) → start ≡ position mid.at mid.spot → found ≡ o → r ≡ ok_or found (OutOfRange start) → InLine (in_field says field) was is (answer itself r is.at)
ranged_whole says field {was} {mid} {is} {o} {found} {start} {r} b f at e h =
    let same : r ≡ ok_or o (OutOfRange (position mid.at mid.spot)) = h ∙ ap (λ (x : Option _). ok_or x (OutOfRange start)) e ∙ ap (λ (q : Position). ok_or o (OutOfRange q)) at in
    rw (same, ← ranged_is mid.spot mid.at is.at o) (whole says field b f)

-- A field, and then the others.
pub next_field : {A B : Type 0} (first : List ℕ → ℕ → ℕ → Read A) (rest : A → List ℕ → ℕ → ℕ → Read B) {was mid is : Reader} {a : A} {x : Read B} →
    InLine first was mid (got a mid.at) → InLine (rest a) mid is x → InLine (λ s l at. and_then (first s l at) (λ b to. rest b s l to)) was is x
next_field first rest {was} {mid} {is} {a} f r =
    record {
      sheet = r.sheet ∙ f.sheet;
      line = r.line ∙ f.line;
      told =
          ap (λ (y : Read _). and_then y (λ b to. rest b was.sheet.now was.spot.line to)) f.told
          ∙ ap (λ (t : List ℕ). rest a t was.spot.line mid.at) (sym f.sheet)
          ∙ ap (λ (l : ℕ). rest a mid.sheet.now l mid.at) (sym f.line)
          ∙ r.told;
    }

pub field_fails : {A B : Type 0} (first : List ℕ → ℕ → ℕ → Read A) (rest : A → List ℕ → ℕ → ℕ → Read B) {was is : Reader} {e : FieldFault} →
    InLine first was is (fault e) → InLine (λ s l at. and_then (first s l at) (λ b to. rest b s l to)) was is (fault e)
field_fails first rest {was} f =
    record { sheet = f.sheet; line = f.line; told = ap (λ (y : Read _). and_then y (λ b to. rest b was.sheet.now was.spot.line to)) f.told }

pub no_more : {A : Type 0} (x : A) (is : Reader) → InLine (λ s l at. got x at) is is (got x is.at)
no_more x is = record { sheet = refl; line = refl; told = refl }
