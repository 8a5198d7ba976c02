-- A protocol as bytes, and what is read.
use Rattle.std.proofs.Common.{◌≡◌, ℕ, ◌≤◌, leb, List, [], ◌∷◌, ◌++◌, Some, codes, decimal, sym, refl, ap, ◌∙◌, arith}
use Rattle.std.proofs.lemmas.Bool.{leb-true, le-leb}
use Rattle.policy.specs.declared.rules.Range.{Range}
use Rattle.sheet.specs.declared.tokens.Mark.TheVariants.{Star, Comma}
use Rattle.sheet.specs.Forms.{digits, the, name, protocol_form}
use Rattle.sheet.specs.Readings.{span, protocol_at, protocol_of}
use Rattle.sheet.specs.Meaning.{Protocol, every, single, tcp, udp, icmp}
use Rattle.sheet.proofs.Finding.{Found, found_among}
use Rattle.sheet.proofs.Sound.{Only, Written, only_among}
use Rattle.sheet.proofs.Spellings.{here, there}
use Rattle.sheet.proofs.Tests.{tested}

one_in_range : (a : ℕ) → a ≤ 255 → protocol_of (a ∷ []) ≡ Some (span a a)
one_in_range a h = rw (le-leb a 255 h)

pub protocol_found : Found Comma protocol_at Protocol
protocol_found s text rest p at x (every e ex) d =
    found_among Comma protocol_of s text rest p at x d (the Star ∷ the Comma ∷ []) [] tt (ap (λ (t : List ℕ). t ++ (44 ∷ [])) (sym e)) (ap Some (sym ex)) 2 protocol_form refl here (omega arith)
protocol_found s text rest p at x (single n h e ex) d =
    found_among Comma protocol_of s text rest p at x d (digits ∷ the Comma ∷ []) (n ∷ []) (omega arith, tt) (ap (λ (t : List ℕ). t ++ (44 ∷ [])) (sym e)) (one_in_range n h ∙ ap Some (sym ex)) 2 protocol_form refl (there here) (omega arith)
protocol_found s text rest p at x (tcp e ex) d =
    found_among Comma protocol_of s text rest p at x d (name (codes "tcp") ∷ the Comma ∷ []) (6 ∷ []) (refl, tt) (ap (λ (t : List ℕ). t ++ (44 ∷ [])) (sym e)) (ap Some (sym ex)) 2 protocol_form refl (there (there here)) (omega arith)
protocol_found s text rest p at x (udp e ex) d =
    found_among Comma protocol_of s text rest p at x d (name (codes "udp") ∷ the Comma ∷ []) (17 ∷ []) (refl, tt) (ap (λ (t : List ℕ). t ++ (44 ∷ [])) (sym e)) (ap Some (sym ex)) 2 protocol_form refl (there (there (there here))) (omega arith)
protocol_found s text rest p at x (icmp e ex) d =
    found_among Comma protocol_of s text rest p at x d (name (codes "icmp") ∷ the Comma ∷ []) (1 ∷ []) (refl, tt) (ap (λ (t : List ℕ). t ++ (44 ∷ [])) (sym e)) (ap Some (sym ex)) 2 protocol_form refl (there (there (there (there here)))) (omega arith)

one_got : (a : ℕ) (x : Range) → protocol_of (a ∷ []) ≡ Some x → (a ≤ 255) × (x ≡ span a a)
one_got a x e = let q = tested (leb a 255) (span a a) x e in (leb-true a 255 q.0, sym q.1)

-- The number of a name is that of its protocol.
named_got : (a n : ℕ) (x : Range) → n ≡ a → protocol_of (n ∷ []) ≡ Some x → x ≡ span a a
named_got a n x is e = (one_got n x e).1 ∙ ap (λ (k : ℕ). span k k) is

written : Written Comma protocol_of Protocol protocol_form
written way [] x here suits e = let q : span 0 255 ≡ x = cc in (codes "*", (every refl (sym q), refl))
written way (n ∷ ns) x here suits e = absurd suits
written way [] x (there here) suits e = absurd suits
written way (n ∷ []) x (there here) suits e = let q = one_got n x e in (decimal n, (single n q.0 refl q.1, refl))
written way (n ∷ m ∷ ns) x (there here) suits e = absurd suits.1
written way [] x (there (there here)) suits e = absurd suits
written way (n ∷ []) x (there (there here)) suits e = (codes "tcp", (tcp refl (named_got 6 n x suits.0 e), refl))
written way (n ∷ m ∷ ns) x (there (there here)) suits e = absurd suits.1
written way [] x (there (there (there here))) suits e = absurd suits
written way (n ∷ []) x (there (there (there here))) suits e = (codes "udp", (udp refl (named_got 17 n x suits.0 e), refl))
written way (n ∷ m ∷ ns) x (there (there (there here))) suits e = absurd suits.1
written way [] x (there (there (there (there here)))) suits e = absurd suits
written way (n ∷ []) x (there (there (there (there here)))) suits e = (codes "icmp", (icmp refl (named_got 1 n x suits.0 e), refl))
written way (n ∷ m ∷ ns) x (there (there (there (there here)))) suits e = absurd suits.1
written way ns x (there (there (there (there (there i))))) suits e = elim i [ ]

pub protocol_only : Only Comma protocol_at Protocol
protocol_only s p at to x h = only_among Comma protocol_of Protocol protocol_form written s at to x 2 p h
