-- The pigeonhole: different numbers below n, as many as n, are all of them.
-- Assumes nothing.
use Rattle.std.proofs.Common.{◌≡◌, ℕ, ◌<◌, Bool, true, false, ◌==◌, List, [], ◌∷◌, length, refl, arith}
use Rattle.std.proofs.lemmas.Bool.Decides.{nat_tests}
use Rattle.std.proofs.lemmas.Map.Steps.{length-le_from_distinct_below}
use Rattle.std.specs.List.{AllByRecursion, IsDistinct, list_any}
use Rattle.stations.specs.Orders.{among, no_repeat}

none_is : (ns : List ℕ) (n : ℕ) → among ns n ≡ false → AllByRecursion (λ m. (n == m) ≡ false) ns
none_is [] n h = tt
none_is (m ∷ ns) n h = (grind (arith, nat_tests), none_is ns n (grind (arith, nat_tests)))

pub distinct : (ns : List ℕ) → no_repeat ns ≡ true → IsDistinct (λ m n. m == n) ns
unfolding IsDistinct
distinct [] h = tt
distinct (n ∷ ns) h = (none_is ns n (grind (arith, nat_tests)), distinct ns (grind (arith, nat_tests)))

below_each : (ns : List ℕ) (n : ℕ) → AllByRecursion (λ m. m < n) ns → (q : ℕ) → list_any (λ m. q == m) ns ≡ true → q < n
below_each [] n below q e = grind (arith, nat_tests)
below_each (m ∷ ns) n below q e = go (q == m) refl (below_each ns n below.1 q)
  where
    go : (b : Bool) → (q == m) ≡ b → (list_any (λ k. q == k) ns ≡ true → q < n) → q < n
    go true same rest = let is : q ≡ m = grind (arith, nat_tests) in let h : m < n = below.0 in omega arith
    go false differs rest = rest (rw differs at e)

pub all_stand : (ns : List ℕ) (n : ℕ) → no_repeat ns ≡ true → AllByRecursion (λ m. m < n) ns → length ns ≡ n → (m : ℕ) → m < n → among ns m ≡ true
all_stand ns n apart below many m h = go (among ns m) refl
  where
    go : (b : Bool) → among ns m ≡ b → among ns m ≡ true
    go true e = e
    go false e =
        let d : no_repeat (m ∷ ns) ≡ true = grind (arith, nat_tests) in
        absurd (omega (arith, length-le_from_distinct_below (m ∷ ns) n (distinct (m ∷ ns) d) (below_each (m ∷ ns) n (h, below))))
