-- Numbers in a row: how many they are, which, and where the row comes apart.
-- Assumes nothing.
use Rattle.std.proofs.Common.{◌≡◌, ℕ, zero, suc, ◌+◌, ◌-◌, ◌<◌, ◌≤◌, [], ◌∷◌, ◌++◌, length, Some, refl, ap, ◌∙◌, arith}
use Rattle.std.proofs.lemmas.List.FromFn.{length-range_with_len}
use Rattle.std.specs.List.{AllByRecursion, slice_get}
use Rattle.classes.specs.Rising.{rising}

pub rising_zero : (p : ℕ) → rising p 0 ≡ []
unfolding rising
rising_zero p = refl

pub rising_suc : (p n : ℕ) → rising p (suc n) ≡ p ∷ rising (p + 1) n
unfolding rising
rising_suc p n = refl

pub length_rising : (p n : ℕ) → length (rising p n) ≡ n
unfolding rising
length_rising p n = length-range_with_len p n

pub rising_append : (p m n : ℕ) → rising p (m + n) ≡ rising p m ++ rising (p + m) n
unfolding rising
rising_append p zero n =
    let long : 0 + n ≡ n = omega arith in
    let on : p ≡ p + 0 = omega arith in
    ap (rising p) long ∙ ap (λ q. rising q n) on
rising_append p (suc m) n =
    let long : suc m + n ≡ suc (m + n) = omega arith in
    let on : p + 1 + m ≡ p + suc m = omega arith in
    ap (rising p) long ∙ ap (λ ks. p ∷ ks) (rising_append (p + 1) m n ∙ ap (λ q. rising (p + 1) m ++ rising q n) on)

pub rising_push : (p n j : ℕ) → p + n ≡ j → rising p (n + 1) ≡ rising p n ++ (j ∷ [])
unfolding rising
rising_push p n j is = rising_append p n 1 ∙ ap (λ q. rising p n ++ (q ∷ [])) is

-- A number of the row comes behind those that are less, and before those that are more.
pub rising_at : (p n b : ℕ) → p ≤ b → b < p + n → rising p n ≡ rising p (b - p) ++ (b ∷ rising (b + 1) (p + n - (b + 1)))
rising_at p n b low high =
    let parts : n ≡ (b - p) + suc (p + n - (b + 1)) = omega arith in
    let here : p + (b - p) ≡ b = omega arith in
    let rest = p + n - (b + 1) in
    ap (rising p) parts
    ∙ rising_append p (b - p) (suc rest)
    ∙ ap (λ q. rising p (b - p) ++ rising q (suc rest)) here
    ∙ ap (λ ks. rising p (b - p) ++ ks) (rising_suc b rest)

pub get_rising : (p n i : ℕ) → i < n → slice_get (rising p n) i ≡ Some (p + i)
unfolding rising
get_rising p zero i h = absurd (omega arith)
get_rising p (suc n) zero h = let e : p ≡ p + 0 = omega arith in ap Some e
get_rising p (suc n) (suc i) h =
    let on : p + 1 + i ≡ p + suc i = omega arith in
    get_rising (p + 1) n i (omega arith) ∙ ap Some on

-- What holds of each number from p on and below p + n holds of each of the row.
pub all_rising : (P : ℕ → Type 0) (p n : ℕ) → ((b : ℕ) → p ≤ b → b < p + n → P b) → AllByRecursion P (rising p n)
unfolding rising
all_rising P p zero h = tt
all_rising P p (suc n) h = (h p (omega arith) (omega arith), all_rising P (p + 1) n (λ b low high. h b (omega arith) (omega arith)))
