-- What a token looks like as bytes.
use Rattle.std.specs.Prelude.{ℕ, Bool, cond, not, ◌&&◌, ◌||◌, List, length, Some, None, Option, ◌==◌, nat_le, slice_index}
use Rattle.std.specs.List.{take_while}
use Rattle.sheet.specs.declared.tokens.Mark.{Mark}
use Rattle.sheet.specs.declared.tokens.Mark.TheVariants.{Dot, Slash, Dash, Star, Comma, LineFeed}

abbrev pub is_digit : ℕ → Bool
is_digit b = nat_le 48 b && nat_le b 57

abbrev pub is_letter : ℕ → Bool
is_letter b = nat_le 97 b && nat_le b 122

-- The mark that a byte is, if it is one.
abbrev pub mark_of : ℕ → Option Mark
mark_of b =
    cond (b == 46) (Some Dot) (cond (b == 47) (Some Slash) (cond (b == 45) (Some Dash)
    (cond (b == 42) (Some Star) (cond (b == 44) (Some Comma) (cond (b == 10) (Some LineFeed) None)))))

pub data Tok : Type 0 where
  number : List ℕ → Tok
  word : List ℕ → Tok
  mark : Mark → Tok

-- At most five digits, and no zero before others.
abbrev pub well_made : List ℕ → Bool
well_made ds = nat_le (length ds) 5 && (length ds == 1 || not (slice_index ds 0 == 48))

abbrev pub digits_of : List ℕ → List ℕ
digits_of bs = take_while is_digit bs

abbrev pub letters_of : List ℕ → List ℕ
letters_of bs = take_while is_letter bs

abbrev pub number_if_made : List ℕ → Option Tok
number_if_made ds = cond (well_made ds) (Some (number ds)) None

abbrev pub as_mark : Option Mark → Option Tok
as_mark None = None
as_mark (Some m) = Some (mark m)

-- The token that begins the bytes, if it is well made.
unfoldable pub token : List ℕ → Option Tok
token bs =
    cond (is_digit (slice_index bs 0)) (number_if_made (digits_of bs))
    (cond (is_letter (slice_index bs 0)) (Some (word (letters_of bs)))
    (as_mark (mark_of (slice_index bs 0))))

-- How many bytes a token takes.
abbrev pub size : Tok → ℕ
size (number ds) = length ds
size (word ls) = length ls
size (mark m) = 1
