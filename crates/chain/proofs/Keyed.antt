-- Keys tell their parts.
use Rattle.std.proofs.Common.{◌≡◌, ℕ, ◌^◌, ◌<◌, ◌≤◌, cond, eqb, ◌≢◌, List, [], ◌∷◌, ◌++◌, Some, None, Option, refl, ap, arith}
use Rattle.std.proofs.lemmas.Bool.{ne_eqb}
use Rattle.store.specs.declared.row.Row.{Row}
use Rattle.store.specs.Rows.{find}
use Rattle.chain.specs.Finds.{Absent, Distinct, KeyInjective}

pub key_injective : KeyInjective
key_injective s t l m j k b c p q e =
    let a1 : s < 4 = p.side in
    let a2 : l < 8 = p.level in
    let a3 : j < 256 = p.node in
    let a4 : b.len ≤ 32 = p.len in
    let a5 : b.value < 2 ^ 32 = p.value in
    let b1 : t < 4 = q.side in
    let b2 : m < 8 = q.level in
    let b3 : k < 256 = q.node in
    let b4 : c.len ≤ 32 = q.len in
    let b5 : c.value < 2 ^ 32 = q.value in
    let s1 : s ≡ t = omega arith in
    let s2 : l ≡ m = omega arith in
    let s3 : j ≡ k = omega arith in
    let s4 : b.len ≡ c.len = omega arith in
    (s1, s2, s3, s4, omega arith)

-- rows of two lists one after the other

pub find_left : (xs ys : List Row) (q : ℕ) → Absent ys q → find (xs ++ ys) q ≡ find xs q
find_left [] [] q a = refl
find_left [] (y ∷ ys) q a = rw (ne_eqb q y.key a.0) (find_left [] ys q a.1)
find_left (x ∷ xs) ys q a = ap (λ (o : Option ℕ). cond (eqb q x.key) (Some x.result) o) (find_left xs ys q a)

pub find_right : (xs ys : List Row) (q : ℕ) → Absent xs q → find (xs ++ ys) q ≡ find ys q
find_right [] ys q a = refl
find_right (x ∷ xs) ys q a = rw (ne_eqb q x.key a.0) (find_right xs ys q a.1)

pub find_absent : (xs : List Row) (q : ℕ) → Absent xs q → find xs q ≡ None
find_absent [] q a = refl
find_absent (x ∷ xs) q a = rw (ne_eqb q x.key a.0) (find_absent xs q a.1)

pub absent_both : (xs ys : List Row) (q : ℕ) → Absent xs q → Absent ys q → Absent (xs ++ ys) q
absent_both [] ys q a b = b
absent_both (x ∷ xs) ys q a b = (a.0, absent_both xs ys q a.1 b)

-- what holds of each key
abbrev pub Every : (ℕ → Type 0) → List Row → Type 0
Every P [] = Unit {0}
Every P (x ∷ xs) = P x.key × Every P xs

pub every_both : (P : ℕ → Type 0) (xs ys : List Row) → Every P xs → Every P ys → Every P (xs ++ ys)
every_both P [] ys a b = b
every_both P (x ∷ xs) ys a b = (a.0, every_both P xs ys a.1 b)

pub every_absent : (q : ℕ) (xs : List Row) → Every (λ k. q ≢ k) xs → Absent xs q
every_absent q [] a = tt
every_absent q (x ∷ xs) a = (a.0, every_absent q xs a.1)

pub distinct_both : (xs ys : List Row) → Distinct xs → Distinct ys → Every (λ k. Absent ys k) xs → Distinct (xs ++ ys)
distinct_both [] ys a b c = b
distinct_both (x ∷ xs) ys a b c = (absent_both xs ys x.key a.0 c.0, distinct_both xs ys a.1 b c.1)
