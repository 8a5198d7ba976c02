-- The law of service classes.
use Rattle.std.specs.Prelude.{◌≡◌, ℕ, zero, suc, ◌+◌, ◌-◌, ◌*◌, ◌/◌, ◌%◌, ◌^◌, ◌<◌, ◌≤◌, Bool, true, false, T, ◌⊎◌, List, [], ◌∷◌, length, Some, None, Option, MatchOption, ◌≢◌, nat_le, slice_index, slice_index_or, refl}
use Rattle.std.proofs.Common.{sym, ap, subst, ◌∙◌, inl, inr, arith, leb→le, le→leb}
use Rattle.std.proofs.Math.Bridge.{le_prop}
use Rattle.std.specs.Str.{bytes_eq}
use Rattle.std.proofs.lemmas.Slice.Eq.{bytes_eq-Decides}
use Rattle.std.proofs.lemmas.Bool.{cases_Bool, cond-true, cond-false}
use Rattle.policy.specs.Letters.{Lacks, IsWord}
use Rattle.service.specs.declared.classes.ServiceClass.{ServiceClass}
use Rattle.service.specs.Classes.{class_code, class_word, where_passed, class_of, class_of_code, spelt, class_of_word}

abbrev class : (n d : ℕ) → n ≤ 7 → d ≤ 3 → ServiceClass
class n d few low = record { queue = n; level = d; few = few; low = low }

passed : {A : Type 0} (b : Bool) (f : T b → Option A) (t : T b) → where_passed b f ≡ f t
passed true f t = refl
passed false f t = absurd t

pub class_found : (x : ServiceClass) → class_of x.queue x.level ≡ Some x
class_found x =
    let n = x.queue in
    let d = x.level in
    let a = le→leb n 7 x.few in
    let b = le→leb d 3 x.low in
    passed (nat_le n 7) (λ few. where_passed (nat_le d 3) (λ low. Some (class n d (leb→le n 7 few) (leb→le d 3 low)))) a
    ∙ passed (nat_le d 3) (λ low. Some (class n d (leb→le n 7 a) (leb→le d 3 low))) b
    ∙ ap (λ (few : n ≤ 7). Some (class n d few (leb→le d 3 b))) (le_prop (leb→le n 7 a) x.few)
    ∙ ap (λ (low : d ≤ 3). Some (class n d x.few low)) (le_prop (leb→le d 3 b) x.low)

level_only : (n d : ℕ) (few : n ≤ 7) (b : Bool) (low : T b → d ≤ 3) (x : ServiceClass) →
    where_passed b (λ t. Some (class n d few (low t))) ≡ Some x → (x.queue ≡ n) × (x.level ≡ d)
level_only n d few true low x e = let q : class n d few (low tt) ≡ x = cc in (ap (λ (y : ServiceClass). y.queue) (sym q), ap (λ (y : ServiceClass). y.level) (sym q))
level_only n d few false low x e = let z : ◌≡◌ {A = ℕ} 0 1 = cc in absurd (omega arith)

queue_only : (n d : ℕ) (a b : Bool) (few : T a → n ≤ 7) (low : T b → d ≤ 3) (x : ServiceClass) →
    where_passed a (λ s. where_passed b (λ t. Some (class n d (few s) (low t)))) ≡ Some x → (x.queue ≡ n) × (x.level ≡ d)
queue_only n d true b few low x e = level_only n d (few tt) b low x e
queue_only n d false b few low x e = let z : ◌≡◌ {A = ℕ} 0 1 = cc in absurd (omega arith)

pub class_only : (n d : ℕ) (x : ServiceClass) → class_of n d ≡ Some x → (x.queue ≡ n) × (x.level ≡ d)
class_only n d x e = queue_only n d (nat_le n 7) (nat_le d 3) (leb→le n 7) (leb→le d 3) x e

class_is : (x : ServiceClass) (n d : ℕ) → x.queue ≡ n → x.level ≡ d → class_of n d ≡ Some x
class_is x n d e f = ap (λ (k : ℕ). class_of k d) (sym e) ∙ ap (class_of x.queue) (sym f) ∙ class_found x

pub code_back : (x : ServiceClass) → class_of_code (class_code x) ≡ Some x
unfolding class_of_code
code_back x = class_is x (class_code x / 4) (class_code x % 4) (omega (arith, x.low)) (omega (arith, x.low))

pub code_only : (c : ℕ) (x : ServiceClass) → class_of_code c ≡ Some x → class_code x ≡ c
unfolding class_of_code
code_only c x e = let q = class_only (c / 4) (c % 4) x e in omega (arith, q.0, q.1)

pub word_back : (x : ServiceClass) → class_of_word (class_word x) ≡ Some x
unfolding class_of_word
word_back x =
    ap (spelt (class_word x)) (class_is x (48 + x.queue - 48) (48 + x.level - 48) (omega arith) (omega arith))
    ∙ cond-true (bytes_eq (class_word x) (class_word x)) (Some x) None ((bytes_eq-Decides (class_word x) (class_word x)).1 refl)

spelt_only : (w : List ℕ) (o : Option ServiceClass) (x : ServiceClass) → spelt w o ≡ Some x → class_word x ≡ w
spelt_only w None x e = let z : ◌≡◌ {A = ℕ} 0 1 = cc in absurd (omega arith)
spelt_only w (Some y) x e =
    elim (cases_Bool (bytes_eq (class_word y) w)) [
      | inl same ↦
          let f = sym (cond-true (bytes_eq (class_word y) w) (Some y) None same) ∙ e in
          let q : y ≡ x = cc in
          ap class_word (sym q) ∙ (bytes_eq-Decides (class_word y) w).0 same
      | inr other ↦
          let f = sym (cond-false (bytes_eq (class_word y) w) (Some y) None other) ∙ e in
          let z : ◌≡◌ {A = ℕ} 0 1 = cc in absurd (omega arith)
    ]

pub word_only : (w : List ℕ) (x : ServiceClass) → class_of_word w ≡ Some x → class_word x ≡ w
unfolding class_of_word
word_only w x e = spelt_only w (class_of (slice_index w 1 - 48) (slice_index w 3 - 48)) x e

none_is : (o : Option ServiceClass) → ((x : ServiceClass) → o ≢ Some x) → None ≡ o
none_is None f = refl
none_is (Some x) f = absurd (f x refl)

-- What reading a code or a word answers.
pub code_found : (c : ℕ) (x : ServiceClass) → class_code x ≡ c → Some x ≡ class_of_code c
code_found c x e = sym (code_back x) ∙ ap class_of_code e

pub code_missing : (c : ℕ) → ((x : ServiceClass) → class_code x ≢ c) → None ≡ class_of_code c
code_missing c f = none_is (class_of_code c) (λ x e. f x (code_only c x e))

pub word_found : (w : List ℕ) (x : ServiceClass) → class_word x ≡ w → Some x ≡ class_of_word w
word_found w x e = sym (word_back x) ∙ ap class_of_word e

pub word_missing : (w : List ℕ) → ((x : ServiceClass) → class_word x ≢ w) → None ≡ class_of_word w
word_missing w f = none_is (class_of_word w) (λ x e. f x (word_only w x e))

lacks : (x : ServiceClass) (b : ℕ) → b < 46 → Lacks b (class_word x)
lacks x b h zero l e = omega arith
lacks x b h (suc zero) l e = omega arith
lacks x b h (suc (suc zero)) l e = omega arith
lacks x b h (suc (suc (suc zero))) l e = omega arith
lacks x b h (suc (suc (suc (suc k)))) l e = omega arith

pub proper : (x : ServiceClass) → IsWord (class_word x)
proper x = (omega arith, omega arith, lacks x 44 (omega arith), lacks x 10 (omega arith))

pub word_of_bytes : (x : ServiceClass) (k : ℕ) → k < length (class_word x) → slice_index (class_word x) k < 256
word_of_bytes x zero l = omega arith
word_of_bytes x (suc zero) l = omega (arith, x.few)
word_of_bytes x (suc (suc zero)) l = omega arith
word_of_bytes x (suc (suc (suc zero))) l = omega (arith, x.low)
word_of_bytes x (suc (suc (suc (suc k)))) l = absurd (omega arith)

pub code_small : (x : ServiceClass) → class_code x < 2 ^ 16
code_small x = omega (arith, x.few, x.low)

-- A class that was asked for by its numbers, read as a code or as a word.
abbrev New : ℕ → ℕ → Option ServiceClass → Type 0
New n d o = MatchOption o ((7 < n) ⊎ (3 < d)) (λ x. (x.queue ≡ n) × (x.level ≡ d))

outside : (n d : ℕ) → n ≤ 7 → d ≤ 3 → (7 < n) ⊎ (3 < d) → ⊥
outside n d a b (inl l) = omega arith
outside n d a b (inr l) = omega arith

pub new_of_code : (n d c : ℕ) (o : Option ServiceClass) → New n d o → n ≤ 7 → d ≤ 3 → 4 * n + d ≡ c → o ≡ class_of_code c
new_of_code n d c None new a b e = absurd (outside n d a b new)
new_of_code n d c (Some x) new a b e = code_found c x (omega (arith, new.0, new.1))

four : (w : List ℕ) → length w ≡ 4 → w ≡ slice_index w 0 ∷ slice_index w 1 ∷ slice_index w 2 ∷ slice_index w 3 ∷ []
four [] l = absurd (omega arith)
four (a ∷ []) l = absurd (omega arith)
four (a ∷ b ∷ []) l = absurd (omega arith)
four (a ∷ b ∷ c ∷ []) l = absurd (omega arith)
four (a ∷ b ∷ c ∷ d ∷ []) l = refl
four (a ∷ b ∷ c ∷ d ∷ e ∷ w) l = absurd (omega arith)

pub new_of_word : (n d : ℕ) (w : List ℕ) (o : Option ServiceClass) → New n d o → n ≤ 7 → d ≤ 3 → length w ≡ 4 → slice_index w 0 ≡ 113 → slice_index w 1 ≡ 48 + n → slice_index w 2 ≡ 46 → slice_index w 3 ≡ 48 + d → o ≡ class_of_word w
new_of_word n d w None new a b l e f g h = absurd (outside n d a b new)
new_of_word n d w (Some x) new a b l e f g h =
    let q = new.0 in
    let r = new.1 in
    word_found w x (let s = four w l in cc)

-- What a word of a class has at each place.
pub record Spelt (w : List ℕ) : Type 0 where
  pub four : length w ≡ 4
  pub at_0 : slice_index_or w 0 0 ≡ 113
  pub at_1 : (48 ≤ slice_index w 1) × (slice_index w 1 ≤ 55)
  pub at_2 : slice_index_or w 2 0 ≡ 46
  pub at_3 : (48 ≤ slice_index w 3) × (slice_index w 3 ≤ 51)

pub places : (x : ServiceClass) (w : List ℕ) → class_word x ≡ w → Spelt w
places x w e =
    subst Spelt e (record { four = refl; at_0 = refl; at_1 = (omega arith, omega (arith, x.few)); at_2 = refl; at_3 = (omega arith, omega (arith, x.low)) })
