-- The law of verdicts.
use Rattle.std.specs.Prelude.{◌≡◌, ℕ, zero, suc, ◌^◌, ◌<◌, ◌≤◌, Bool, true, not, ◌&&◌, T, List, ◌++◌, length, Some, None, codes, decimal, Option, ◌==◌, ◌≢◌, nat_eq, nat_le, nat_lt, slice_index, refl}
use Rattle.std.proofs.Common.{sym, ap, subst, ◌∙◌, arith, leb→le, le→leb}
use Rattle.std.proofs.Math.Bridge.{le_prop}
use Rattle.std.specs.Fmt.{digits}
use Rattle.std.specs.Str.{bytes_eq}
use Rattle.std.proofs.lemmas.Slice.Eq.{bytes_eq-Decides}
use Rattle.std.proofs.lemmas.Bool.{and_parts, both_ways, eq-eqb, eqb-true, ltb-true, leb-true, not-true}
use Rattle.policy.specs.declared.reasons.Reason.{Reason}
use Rattle.policy.specs.declared.verdict.Verdict.{Verdict}
use Rattle.policy.specs.declared.verdict.Verdict.TheVariants.{Accept, Discard, Reject}
use Rattle.policy.specs.Letters.{Lacks, IsWord}
use Rattle.policy.specs.Verdicts.{reject, verdicts, verdict_code, verdict_word, verdict_of_code, verdict_of_word}
use Rattle.policy.specs.Picking.{picked_passes, each, each_at}

-- A fact of each verdict.
pub every : (P : Verdict → Type 0) → P Accept → P Discard → ((n : ℕ) (t : T (nat_le n 15)) → P (reject n t)) → (d : Verdict) → P d
every P a b c Accept = a
every P a b c Discard = b
every P a b c (Reject r) =
    let same : reject r.n (le→leb r.n 15 r.small) ≡ Reject r =
    ap (λ s. Reject (record { n = r.n; small = s })) (le_prop (leb→le r.n 15 (le→leb r.n 15 r.small)) r.small) in
    subst P same (c r.n (le→leb r.n 15 r.small))

-- The bytes are 1 to 16, below 256, and no comma or line feed is among them, computed.
abbrev fine : List ℕ → Bool
fine w = (nat_le 1 (length w) && nat_le (length w) 16) && (each (λ b. not (b == 44)) w && (each (λ b. not (b == 10)) w && each (λ b. nat_lt b 256) w))

-- Code and word lead back, and the word is fine.
pub record Lawful (d : Verdict) : Type 0 where
  pub code : verdict_of_code (verdict_code d) ≡ Some d
  pub word : verdict_of_word (verdict_word d) ≡ Some d
  pub letters : fine (verdict_word d) ≡ true

rejects : (n : ℕ) (t : T (nat_le n 15)) → Lawful (reject n t)
unfolding digits verdict_of_code verdict_of_word
rejects zero t = record { code = refl; word = refl; letters = refl }
rejects (suc zero) t = record { code = refl; word = refl; letters = refl }
rejects (suc (suc zero)) t = record { code = refl; word = refl; letters = refl }
rejects (suc (suc (suc zero))) t = record { code = refl; word = refl; letters = refl }
rejects (suc (suc (suc (suc zero)))) t = record { code = refl; word = refl; letters = refl }
rejects (suc (suc (suc (suc (suc zero))))) t = record { code = refl; word = refl; letters = refl }
rejects (suc (suc (suc (suc (suc (suc zero)))))) t = record { code = refl; word = refl; letters = refl }
rejects (suc (suc (suc (suc (suc (suc (suc zero))))))) t = record { code = refl; word = refl; letters = refl }
rejects (suc (suc (suc (suc (suc (suc (suc (suc zero)))))))) t = record { code = refl; word = refl; letters = refl }
rejects (suc (suc (suc (suc (suc (suc (suc (suc (suc zero))))))))) t = record { code = refl; word = refl; letters = refl }
rejects (suc (suc (suc (suc (suc (suc (suc (suc (suc (suc zero)))))))))) t = record { code = refl; word = refl; letters = refl }
rejects (suc (suc (suc (suc (suc (suc (suc (suc (suc (suc (suc zero))))))))))) t = record { code = refl; word = refl; letters = refl }
rejects (suc (suc (suc (suc (suc (suc (suc (suc (suc (suc (suc (suc zero)))))))))))) t = record { code = refl; word = refl; letters = refl }
rejects (suc (suc (suc (suc (suc (suc (suc (suc (suc (suc (suc (suc (suc zero))))))))))))) t = record { code = refl; word = refl; letters = refl }
rejects (suc (suc (suc (suc (suc (suc (suc (suc (suc (suc (suc (suc (suc (suc zero)))))))))))))) t = record { code = refl; word = refl; letters = refl }
rejects (suc (suc (suc (suc (suc (suc (suc (suc (suc (suc (suc (suc (suc (suc (suc zero))))))))))))))) t = record { code = refl; word = refl; letters = refl }
rejects (suc (suc (suc (suc (suc (suc (suc (suc (suc (suc (suc (suc (suc (suc (suc (suc n)))))))))))))))) t = let large = leb→le (suc (suc (suc (suc (suc (suc (suc (suc (suc (suc (suc (suc (suc (suc (suc (suc n)))))))))))))))) 15 t in absurd (omega arith)

pub lawful : (d : Verdict) → Lawful d
unfolding digits verdict_of_code verdict_of_word
lawful = every Lawful (record { code = refl; word = refl; letters = refl }) (record { code = refl; word = refl; letters = refl }) rejects

pub code_only : (c : ℕ) (d : Verdict) → verdict_of_code c ≡ Some d → verdict_code d ≡ c
unfolding verdict_of_code
code_only c d e = eqb-true (verdict_code d) c (picked_passes (λ v. nat_eq (verdict_code v) c) verdicts d e)

pub word_only : (w : List ℕ) (d : Verdict) → verdict_of_word w ≡ Some d → verdict_word d ≡ w
unfolding verdict_of_word
word_only w d e = (bytes_eq-Decides (verdict_word d) w).0 (picked_passes (λ v. bytes_eq (verdict_word v) w) verdicts d e)

-- What reading a code or a word answers.
pub code_found : (c : ℕ) (d : Verdict) → verdict_code d ≡ c → Some d ≡ verdict_of_code c
code_found c d e = sym (lawful d).code ∙ ap verdict_of_code e

pub word_found : (w : List ℕ) (d : Verdict) → verdict_word d ≡ w → Some d ≡ verdict_of_word w
word_found w d e = sym (lawful d).word ∙ ap verdict_of_word e

none_is : (o : Option Verdict) → ((d : Verdict) → o ≢ Some d) → None ≡ o
none_is None f = refl
none_is (Some d) f = absurd (f d refl)

pub code_missing : (c : ℕ) → ((d : Verdict) → verdict_code d ≢ c) → None ≡ verdict_of_code c
code_missing c f = none_is (verdict_of_code c) (λ d e. f d (code_only c d e))

pub word_missing : (w : List ℕ) → ((d : Verdict) → verdict_word d ≢ w) → None ≡ verdict_of_word w
word_missing w f = none_is (verdict_of_word w) (λ d e. f d (word_only w d e))

pub code_small : (d : Verdict) → verdict_code d < 2 ^ 16
code_small Accept = omega arith
code_small Discard = omega arith
code_small (Reject r) = omega (arith, r.small)

no_byte : (b : ℕ) (w : List ℕ) → each (λ x. not (x == b)) w ≡ true → Lacks b w
no_byte b w e k l is =
    both_ways (slice_index w k == b) (not-true (slice_index w k == b) (each_at (λ x. not (x == b)) w e k l)) (eq-eqb (slice_index w k) b is)

fine_proper : (w : List ℕ) → fine w ≡ true → IsWord w
fine_proper w e =
    let a = and_parts (nat_le 1 (length w) && nat_le (length w) 16) (each (λ b. not (b == 44)) w && (each (λ b. not (b == 10)) w && each (λ b. nat_lt b 256) w)) e in
    let sizes = and_parts (nat_le 1 (length w)) (nat_le (length w) 16) a.0 in
    let b = and_parts (each (λ b. not (b == 44)) w) (each (λ b. not (b == 10)) w && each (λ b. nat_lt b 256) w) a.1 in (
      leb-true 1 (length w) sizes.0,
      leb-true (length w) 16 sizes.1,
      no_byte 44 w b.0,
      no_byte 10 w (and_parts (each (λ b. not (b == 10)) w) (each (λ b. nat_lt b 256) w) b.1).0,
    )

fine_bytes : (w : List ℕ) → fine w ≡ true → (k : ℕ) → k < length w → slice_index w k < 256
fine_bytes w e k l =
    let a = and_parts (nat_le 1 (length w) && nat_le (length w) 16) (each (λ b. not (b == 44)) w && (each (λ b. not (b == 10)) w && each (λ b. nat_lt b 256) w)) e in
    let b = and_parts (each (λ b. not (b == 44)) w) (each (λ b. not (b == 10)) w && each (λ b. nat_lt b 256) w) a.1 in
    ltb-true (slice_index w k) 256 (each_at (λ b. nat_lt b 256) w (and_parts (each (λ b. not (b == 10)) w) (each (λ b. nat_lt b 256) w) b.1).1 k l)

pub proper : (d : Verdict) → IsWord (verdict_word d)
proper d = fine_proper (verdict_word d) (lawful d).letters

pub word_of_bytes : (d : Verdict) (k : ℕ) → k < length (verdict_word d) → slice_index (verdict_word d) k < 256
word_of_bytes d = fine_bytes (verdict_word d) (lawful d).letters

-- Bytes that are no verdict's word.
pub word_of_no_verdict : (w : List ℕ) → (w ≢ codes "accept") → (w ≢ codes "discard")
    → ((reason : Reason) → w ≢ codes "reject-" ++ decimal reason.n) → None ≡ verdict_of_word w
word_of_no_verdict w a b r = word_missing w no_verdict
  where
    no_verdict : (d : Verdict) → verdict_word d ≢ w
    no_verdict Accept e = a (sym e)
    no_verdict Discard e = b (sym e)
    no_verdict (Reject reason) e = r reason (sym e)

-- A code that is no verdict's.
pub code_of_no_verdict : (c : ℕ) → (c ≢ 0) → (c ≢ 1) → (16 ≤ c → 31 < c) → None ≡ verdict_of_code c
code_of_no_verdict c a b r = code_missing c no_verdict
  where
    no_verdict : (d : Verdict) → verdict_code d ≢ c
    no_verdict Accept e = a (sym e)
    no_verdict Discard e = b (sym e)
    no_verdict (Reject reason) e = let large = r (omega arith) in omega (arith, reason.small)
