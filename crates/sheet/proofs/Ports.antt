-- A port as bytes, and what is read.
use Rattle.std.proofs.Common.{◌≡◌, ℕ, ◌≤◌, ◌&&◌, leb, [], ◌∷◌, ◌++◌, List, Some, codes, decimal, sym, refl, ap, ◌∙◌, append_assoc, arith}
use Rattle.std.proofs.lemmas.Bool.{and_parts, and_from, leb-true, le-leb}
use Rattle.policy.specs.declared.rules.Range.{Range}
use Rattle.sheet.specs.declared.tokens.Mark.TheVariants.{Dash, Star, Comma}
use Rattle.sheet.specs.Forms.{digits, the, port_form}
use Rattle.sheet.specs.Readings.{span, port_at, port_of}
use Rattle.sheet.specs.Meaning.{Port, every, single, between}
use Rattle.sheet.proofs.Finding.{Found, found_among}
use Rattle.sheet.proofs.Sound.{Only, Written, only_among}
use Rattle.sheet.proofs.Spellings.{here, there}
use Rattle.sheet.proofs.Tests.{tested}

in_range : (a b : ℕ) → b ≤ 65535 → a ≤ b → port_of (a ∷ b ∷ []) ≡ Some (span a b)
in_range a b h k = rw (and_from (leb b 65535) (leb a b) (le-leb b 65535 h) (le-leb a b k))

one_in_range : (a : ℕ) → a ≤ 65535 → port_of (a ∷ []) ≡ Some (span a a)
one_in_range a h = rw (le-leb a 65535 h)

pub port_found : Found Comma port_at Port
port_found s text rest p at x (every e ex) d =
    found_among Comma port_of s text rest p at x d (the Star ∷ the Comma ∷ []) [] tt (ap (λ (t : List ℕ). t ++ (44 ∷ [])) (sym e)) (ap Some (sym ex)) 4 port_form refl here (omega arith)
port_found s text rest p at x (single n h e ex) d =
    found_among Comma port_of s text rest p at x d (digits ∷ the Comma ∷ []) (n ∷ []) (omega arith, tt) (ap (λ (t : List ℕ). t ++ (44 ∷ [])) (sym e)) (one_in_range n h ∙ ap Some (sym ex)) 4 port_form refl (there here) (omega arith)
port_found s text rest p at x (between lo hi le h e ex) d =
    found_among Comma port_of s text rest p at x d (digits ∷ the Dash ∷ digits ∷ the Comma ∷ []) (lo ∷ hi ∷ []) (omega arith, (omega arith, tt))
    (sym (append_assoc (decimal lo) (45 ∷ decimal hi) (44 ∷ [])) ∙ ap (λ (t : List ℕ). t ++ (44 ∷ [])) (sym e)) (in_range lo hi h le ∙ ap Some (sym ex)) 4 port_form refl (there (there here)) (omega arith)

one_got : (a : ℕ) (x : Range) → port_of (a ∷ []) ≡ Some x → (a ≤ 65535) × (x ≡ span a a)
one_got a x e = let q = tested (leb a 65535) (span a a) x e in (leb-true a 65535 q.0, sym q.1)

two_got : (a b : ℕ) (x : Range) → port_of (a ∷ b ∷ []) ≡ Some x → (a ≤ b) × (b ≤ 65535) × (x ≡ span a b)
two_got a b x e =
    let q = tested (leb b 65535 && leb a b) (span a b) x e in
    let p = and_parts (leb b 65535) (leb a b) q.0 in (leb-true a b p.1, leb-true b 65535 p.0, sym q.1)

written : Written Comma port_of Port port_form
written way [] x here suits e = let q : span 0 65535 ≡ x = cc in (codes "*", (every refl (sym q), refl))
written way (n ∷ ns) x here suits e = absurd suits
written way [] x (there here) suits e = absurd suits
written way (n ∷ []) x (there here) suits e = let q = one_got n x e in (decimal n, (single n q.0 refl q.1, refl))
written way (n ∷ m ∷ ns) x (there here) suits e = absurd suits.1
written way [] x (there (there here)) suits e = absurd suits
written way (n ∷ []) x (there (there here)) suits e = absurd suits.1
written way (n ∷ m ∷ []) x (there (there here)) suits e =
    let q = two_got n m x e in (decimal n ++ (45 ∷ decimal m), (between n m q.0 q.1 refl q.2, sym (append_assoc (decimal n) (45 ∷ decimal m) (44 ∷ []))))
written way (n ∷ m ∷ k ∷ ns) x (there (there here)) suits e = absurd suits.1.1
written way ns x (there (there (there i))) suits e = elim i [ ]

pub port_only : Only Comma port_at Port
port_only s p at to x h = only_among Comma port_of Port port_form written s at to x 4 p h
