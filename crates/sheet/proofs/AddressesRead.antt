-- An address as bytes, and what is read.
use Rattle.std.proofs.Common.{◌≡◌, ℕ, ◌+◌, ◌-◌, ◌%◌, ◌^◌, ◌≤◌, Bool, true, cond, ◌&&◌, eqb, leb, List, [], ◌∷◌, ◌++◌, Some, None, codes, decimal, sym, refl, ap, ◌∙◌, append_assoc, arith}
use Rattle.std.proofs.lemmas.Bool.{and_parts, and_from, leb-true, le-leb, eq-eqb, eqb-true}
use Rattle.policy.specs.declared.rules.Range.{Range}
use Rattle.sheet.specs.declared.tokens.Mark.TheVariants.{Slash, Star, Comma}
use Rattle.sheet.specs.Forms.{Want, digits, the, address_form}
use Rattle.sheet.specs.Headers.{number_way}
use Rattle.sheet.specs.Readings.{span, address_low, is_block, address_at, address_of, dotted_rest}
use Rattle.sheet.specs.Meaning.{Address, every, block}
use Rattle.sheet.proofs.Finding.{Found, found_among}
use Rattle.sheet.proofs.Sound.{Only, Written, only_among}
use Rattle.sheet.proofs.Spellings.{here, there}
use Rattle.sheet.proofs.Tests.{tested}

abbrev range_of : ℕ → ℕ → ℕ → ℕ → ℕ → Range
range_of a b c d n = span (address_low a b c d) (address_low a b c d + (2 ^ (32 - n) - 1))

-- What the test of a block asks.
pub record Block (a b c d n : ℕ) : Type 0 where
  pub one : a ≤ 255
  pub two : b ≤ 255
  pub three : c ≤ 255
  pub four : d ≤ 255
  pub long : n ≤ 32
  pub zeros : address_low a b c d % 2 ^ (32 - n) ≡ 0

block_is : (a b c d n : ℕ) → is_block a b c d n ≡ true → Block a b c d n
block_is a b c d n e =
    let p1 = and_parts (leb a 255) (leb b 255 && (leb c 255 && (leb d 255 && (leb n 32 && eqb (address_low a b c d % 2 ^ (32 - n)) 0)))) e in
    let p2 = and_parts (leb b 255) (leb c 255 && (leb d 255 && (leb n 32 && eqb (address_low a b c d % 2 ^ (32 - n)) 0))) p1.1 in
    let p3 = and_parts (leb c 255) (leb d 255 && (leb n 32 && eqb (address_low a b c d % 2 ^ (32 - n)) 0)) p2.1 in
    let p4 = and_parts (leb d 255) (leb n 32 && eqb (address_low a b c d % 2 ^ (32 - n)) 0) p3.1 in
    let p5 = and_parts (leb n 32) (eqb (address_low a b c d % 2 ^ (32 - n)) 0) p4.1 in
    record { one = leb-true a 255 p1.0; two = leb-true b 255 p2.0; three = leb-true c 255 p3.0; four = leb-true d 255 p4.0; long = leb-true n 32 p5.0; zeros = eqb-true (address_low a b c d % 2 ^ (32 - n)) 0 p5.1 }

is_block_from : (a b c d n : ℕ) → Block a b c d n → is_block a b c d n ≡ true
is_block_from a b c d n k =
    and_from (leb a 255) (leb b 255 && (leb c 255 && (leb d 255 && (leb n 32 && eqb (address_low a b c d % 2 ^ (32 - n)) 0)))) (le-leb a 255 k.one)
    (and_from (leb b 255) (leb c 255 && (leb d 255 && (leb n 32 && eqb (address_low a b c d % 2 ^ (32 - n)) 0))) (le-leb b 255 k.two)
    (and_from (leb c 255) (leb d 255 && (leb n 32 && eqb (address_low a b c d % 2 ^ (32 - n)) 0)) (le-leb c 255 k.three)
    (and_from (leb d 255) (leb n 32 && eqb (address_low a b c d % 2 ^ (32 - n)) 0) (le-leb d 255 k.four)
    (and_from (leb n 32) (eqb (address_low a b c d % 2 ^ (32 - n)) 0) (le-leb n 32 k.long) (eq-eqb (address_low a b c d % 2 ^ (32 - n)) 0 k.zeros)))))

-- A block, with the comma after it.
abbrev block_text : ℕ → ℕ → ℕ → ℕ → ℕ → List ℕ
block_text a b c d n = decimal a ++ (codes "." ++ (decimal b ++ (codes "." ++ (decimal c ++ (codes "." ++ (decimal d ++ (codes "/" ++ decimal n)))))))

abbrev block_way : List Want
block_way = digits ∷ (dotted_rest Slash ++ number_way Comma)

apart : (a b c d n : ℕ) → block_text a b c d n ++ (44 ∷ []) ≡ decimal a ++ (46 ∷ (decimal b ++ (46 ∷ (decimal c ++ (46 ∷ (decimal d ++ (47 ∷ (decimal n ++ (44 ∷ [])))))))))
apart a b c d n = simp append_assoc

pub address_found : Found Comma address_at Address
address_found s text rest p at x (every e ex) d =
    found_among Comma address_of s text rest p at x d (the Star ∷ the Comma ∷ []) [] tt (ap (λ (t : List ℕ). t ++ (44 ∷ [])) (sym e)) (ap Some (sym ex)) 10 address_form refl here (omega arith)
address_found s text rest p at x (block a b c d n ha hb hc hd hn z e ex) at_text =
    found_among Comma address_of s text rest p at x at_text block_way (a ∷ b ∷ c ∷ d ∷ n ∷ []) (omega arith, (omega arith, (omega arith, (omega arith, (omega arith, tt)))))
    (sym (ap (λ (t : List ℕ). t ++ (44 ∷ [])) e ∙ apart a b c d n))
    (ap (λ (v : Bool). cond v (Some (range_of a b c d n)) None) (is_block_from a b c d n (record { one = ha; two = hb; three = hc; four = hd; long = hn; zeros = z })) ∙ ap Some (sym ex))
    10 address_form refl (there here) (omega arith)

block_got : (a b c d n : ℕ) (x : Range) → address_of (a ∷ b ∷ c ∷ d ∷ n ∷ []) ≡ Some x → Block a b c d n × (x ≡ range_of a b c d n)
block_got a b c d n x e = let q = tested (is_block a b c d n) (range_of a b c d n) x e in (block_is a b c d n q.0, sym q.1)

written : Written Comma address_of Address address_form
written way [] x here suits e = let q : span 0 4294967295 ≡ x = cc in (codes "*", (every refl (sym q), refl))
written way (n ∷ ns) x here suits e = absurd suits
written way [] x (there here) suits e = absurd suits
written way (a ∷ []) x (there here) suits e = absurd suits.1
written way (a ∷ b ∷ []) x (there here) suits e = absurd suits.1.1
written way (a ∷ b ∷ c ∷ []) x (there here) suits e = absurd suits.1.1.1
written way (a ∷ b ∷ c ∷ d ∷ []) x (there here) suits e = absurd suits.1.1.1.1
written way (a ∷ b ∷ c ∷ d ∷ n ∷ []) x (there here) suits e =
    let q = block_got a b c d n x e in
    let k = q.0 in (block_text a b c d n, (block a b c d n k.one k.two k.three k.four k.long k.zeros refl q.1, sym (apart a b c d n)))
written way (a ∷ b ∷ c ∷ d ∷ n ∷ m ∷ ns) x (there here) suits e = absurd suits.1.1.1.1.1
written way ns x (there (there i)) suits e = elim i [ ]

pub address_only : Only Comma address_at Address
address_only s p at to x h = only_among Comma address_of Address address_form written s at to x 10 p h
