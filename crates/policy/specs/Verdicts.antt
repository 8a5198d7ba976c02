-- The codes and words of verdicts.
use Rattle.std.specs.Prelude.{ℕ, ◌+◌, T, List, [], ◌∷◌, ◌++◌, codes, decimal, Option, nat_eq, nat_le}
use Rattle.std.proofs.Common.{leb→le}
use Rattle.std.specs.Str.{bytes_eq}
use Rattle.policy.specs.declared.verdict.Verdict.{Verdict}
use Rattle.policy.specs.declared.verdict.Verdict.TheVariants.{Accept, Discard, Reject}
use Rattle.policy.specs.Picks.{pick}

-- `accept` is code 0, `discard` is 1, and `reject-n` is 16 + n.
abbrev pub verdict_code : Verdict → ℕ
verdict_code Accept = 0
verdict_code Discard = 1
verdict_code (Reject reason) = 16 + reason.n

-- The bytes of `accept`, of `discard`, and of `reject-` with the reason in decimal digits.
abbrev pub verdict_word : Verdict → List ℕ
verdict_word Accept = codes "accept"
verdict_word Discard = codes "discard"
verdict_word (Reject reason) = codes "reject-" ++ decimal reason.n

-- The rejection with reason n.
abbrev pub reject : (n : ℕ) → T (nat_le n 15) → Verdict
reject n small = Reject (record { n = n; small = leb→le n 15 small })

-- All verdicts.
abbrev pub verdicts : List Verdict
verdicts =
    Accept ∷ Discard
    ∷ reject 0 tt ∷ reject 1 tt ∷ reject 2 tt ∷ reject 3 tt ∷ reject 4 tt ∷ reject 5 tt ∷ reject 6 tt ∷ reject 7 tt
    ∷ reject 8 tt ∷ reject 9 tt ∷ reject 10 tt ∷ reject 11 tt ∷ reject 12 tt ∷ reject 13 tt ∷ reject 14 tt ∷ reject 15 tt
    ∷ []

-- The verdict that has this code.
unfoldable pub verdict_of_code : ℕ → Option Verdict
verdict_of_code code = pick (λ verdict. nat_eq (verdict_code verdict) code) verdicts

-- The verdict that has this word.
unfoldable pub verdict_of_word : List ℕ → Option Verdict
verdict_of_word word = pick (λ verdict. bytes_eq (verdict_word verdict) word) verdicts
