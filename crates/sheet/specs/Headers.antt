-- What header lines say: the first five fields, each by its numbers alone.
use Rattle.std.specs.Prelude.{ℕ, cond, List, [], ◌∷◌, Some, None, Option, nat_le}
use Rattle.policy.specs.declared.fields.Header.{Header}
use Rattle.sheet.specs.declared.tokens.Mark.{Mark}
use Rattle.sheet.specs.declared.tokens.Mark.TheVariants.{Comma, LineFeed}
use Rattle.faults.specs.declared.Spot.{Spot}
use Rattle.faults.specs.declared.SheetFault.TheVariants.{Field}
use Rattle.sheet.specs.Forms.{Want, digits, the, Read, got, fault, walk}
use Rattle.sheet.specs.Lines.{spot, and_then}
use Rattle.sheet.specs.Readings.{dotted_of, dotted_rest, meant}
use Rattle.sheet.specs.Sheets.{Lined, good, bad}

-- Four numbers with dots, and the comma.
abbrev pub dotted_form : List (List Want)
dotted_form = (digits ∷ dotted_rest Comma) ∷ []

-- A number, and the mark that closes its field.
abbrev pub number_way : Mark → List Want
number_way close = digits ∷ the close ∷ []

abbrev pub number_form : Mark → List (List Want)
number_form close = number_way close ∷ []

-- A number up to the top.
abbrev pub up_to : ℕ → List ℕ → Option ℕ
up_to top [] = None
up_to top (n ∷ []) = cond (nat_le n top) (Some n) None
up_to top (n ∷ m ∷ ns) = None

abbrev pub dotted_at : List ℕ → Spot → ℕ → Read ℕ
dotted_at s p at = meant dotted_of p at (walk 8 dotted_form s p at)

abbrev pub number_at : ℕ → Mark → List ℕ → Spot → ℕ → Read ℕ
number_at top close s p at = meant (up_to top) p at (walk 2 (number_form close) s p at)

-- The five numbers of header line l, which begins at byte `at`; the line feed closes the last field.
abbrev pub numbers_at : List ℕ → ℕ → ℕ → Read (List ℕ)
numbers_at s l at =
    and_then (dotted_at s (spot l 1) at) (λ a b.
    and_then (dotted_at s (spot l 2) b) (λ c d.
    and_then (number_at 65535 Comma s (spot l 3) d) (λ e f.
    and_then (number_at 65535 Comma s (spot l 4) f) (λ g h.
    and_then (number_at 255 LineFeed s (spot l 5) h) (λ i j.
    got (a ∷ c ∷ e ∷ g ∷ i ∷ []) j)))))

abbrev pub header_of : Read (List ℕ) → Lined Header
header_of (got ns to) = good (record { numbers = ns }) to
header_of (fault e) = bad (Field e)

-- Header line l, which begins at byte `at`.
abbrev pub header_at : List ℕ → ℕ → ℕ → Lined Header
header_at s l at = header_of (numbers_at s l at)
