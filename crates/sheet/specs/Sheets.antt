-- What a whole sheet says.
use Rattle.std.specs.Prelude.{◌≡◌, ℕ, zero, suc, ◌+◌, ◌<◌, ◌≤◌, min, Bool, cond, not, List, [], ◌∷◌, ◌++◌, length, drop, Some, None, Ok, Err, Option, Result, ◌==◌, nat_le}
use Rattle.policy.specs.declared.rules.Range.{Range}
use Rattle.faults.specs.declared.Spot.{Spot}
use Rattle.policy.specs.declared.rules.Rule.{Rule}
use Rattle.faults.specs.declared.SheetFault.{SheetFault}
use Rattle.faults.specs.declared.SheetFault.TheVariants.{TooLong, NoPlace, NoLineFeed, Field, NoWord}
use Rattle.std.specs.List.{prefix_len, take_while}
use Rattle.sheet.specs.Forms.{position, Read, got, fault}
use Rattle.sheet.specs.Lines.{spot, ranges_at}

abbrev pub not_feed : ℕ → Bool
not_feed b = not (b == 10)

-- The bytes of a line from `at` on, without its line feed.
abbrev pub up_to_feed : List ℕ → ℕ → List ℕ
up_to_feed s at = take_while not_feed (drop at s)

-- Whether the line from `at` on has its line feed.
abbrev pub HasFeed : List ℕ → ℕ → Type 0
HasFeed s at = at + prefix_len not_feed (drop at s) < length s

abbrev pub LacksFeed : List ℕ → ℕ → Type 0
LacksFeed s at = length s ≤ at + prefix_len not_feed (drop at s)

-- The byte after the line feed, or the sheet's end.
abbrev pub after_feed : List ℕ → ℕ → ℕ
after_feed s at = min (at + prefix_len not_feed (drop at s) + 1) (length s)

-- What is read of a line and the byte after it, or the fault.
pub data Lined (A : Type 0) : Type 0 where
  good : A → ℕ → Lined A
  bad : SheetFault → Lined A

abbrev pub decided : List Range → Spot → ℕ → ℕ → Option ℕ → Lined Rule
decided r p at end None = bad (NoWord (position at p))
decided r p at end (Some c) = good (record { ranges = r; code = c }) end

abbrev pub with_decision : (List ℕ → Option ℕ) → List ℕ → ℕ → Read (List Range) → Lined Rule
with_decision code s l (fault e) = bad (Field e)
with_decision code s l (got r at) = decided r (spot l 6) at (after_feed s at) (code (up_to_feed s at))

-- Line l, which begins at byte `at`; `code` is the code of a word of the kind.
abbrev pub line_at : (List ℕ → Option ℕ) → List ℕ → ℕ → ℕ → Lined Rule
line_at code s l at = with_decision code s l (ranges_at s l at)

-- What the lines before the first fault say, and that fault if there is one.
pub record Answer (A : Type 0) : Type 0 where
  pub entries : List A
  pub stop : Option SheetFault

abbrev pub before : {A : Type 0} → A → Answer A → Answer A
before x a = record { entries = x ∷ a.entries; stop = a.stop }

abbrev pub stopped : {A : Type 0} → SheetFault → Answer A
stopped e = record { entries = []; stop = Some e }

abbrev pub next_line : {A : Type 0} → (ℕ → Answer A) → Lined A → Answer A
next_line rest (bad e) = stopped e
next_line rest (good x to) = before x (rest to)

-- `n` places are left; line l begins at byte `at`, and `line` says what is read of it. A line is there
-- where bytes remain.
abbrev pub lines_at : {A : Type 0} → (List ℕ → ℕ → ℕ → Lined A) → List ℕ → ℕ → ℕ → ℕ → Answer A
lines_at line s zero l at = cond (nat_le (length s) at) (record { entries = []; stop = None }) (stopped (NoPlace at l))
lines_at line s (suc n) l at =
    cond (nat_le (length s) at) (record { entries = []; stop = None })
    (cond (nat_le (length s) (at + prefix_len not_feed (drop at s))) (stopped (NoLineFeed (length s) l))
    (next_line (λ to. lines_at line s n (l + 1) to) (line s l at)))

-- The answer to a sheet where there are `n` places.
abbrev pub sheet_says : {A : Type 0} → (List ℕ → ℕ → ℕ → Lined A) → List ℕ → ℕ → Answer A
sheet_says line s n = cond (nat_le (length s) 8192) (lines_at line s (min n 64) 1 0) (stopped TooLong)

-- The code of a word of a kind.
abbrev pub number_of : {D : Type 0} → (D → ℕ) → Option D → Option ℕ
number_of f None = None
number_of f (Some d) = Some (f d)

abbrev pub coded : {D : Type 0} → (List ℕ → Option D) → (D → ℕ) → List ℕ → Option ℕ
coded named numbered w = number_of numbered (named w)

-- The count of entries, or the fault.
abbrev pub Stops : {A : Type 0} → Answer A → Result ℕ SheetFault → Type 0
Stops a (Ok n) = (a.stop ≡ None) × (n ≡ length a.entries)
Stops a (Err e) = a.stop ≡ Some e

-- A call gave this answer: the entries stand in the first places, and the other places are as before.
pub record Answers {A : Type 0} (a : Answer A) (was is : List A) (r : Result ℕ SheetFault) : Type 0 where
  pub stops : Stops a r
  pub places : is ≡ a.entries ++ drop (length a.entries) was
