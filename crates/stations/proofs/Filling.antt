-- Filling an order, entry by entry.
-- Assumes nothing.
use Rattle.std.proofs.Common.{◌≡◌, ℕ, ◌+◌, ◌<◌, true, false, ◌||◌, ◌==◌, List, [], ◌∷◌, ◌++◌, length, take, drop, get_or, Some, sym, refl, ap, ◌∙◌, arith, add-one, drop-cons, cond, length-take}
use Rattle.std.proofs.lemmas.List.{map-append, take_more, take_more_set}
use Rattle.std.proofs.lemmas.List.Folds.{list_any-append}
use Rattle.std.proofs.lemmas.Grind.{common_steps}
use Rattle.std.proofs.lemmas.Bool.Decides.{nat_tests}
use Rattle.std.proofs.Math.ListN.{set}
use Rattle.bench.specs.declared.station.Station.{Station}
use Rattle.bench.specs.Events.{station_number}
use Rattle.stations.specs.Orders.{among, first_bad, good, no_repeat, numbers}

-- Another number at the end that is none of those before.
among_append : (ns ms : List ℕ) (n : ℕ) → among (ns ++ ms) n ≡ (among ns n || among ms n)
among_append ns ms n = list_any-append (λ m. m == n) ns ms

apart_behind : (ns : List ℕ) (n : ℕ) → no_repeat ns ≡ true → among ns n ≡ false → no_repeat (ns ++ (n ∷ [])) ≡ true
apart_behind [] n h e = refl
apart_behind (m ∷ ns) n h e =
    let rest : no_repeat (ns ++ (n ∷ [])) ≡ true = apart_behind ns n (grind (arith, nat_tests)) (grind (arith, nat_tests)) in
    let new : among (ns ++ (n ∷ [])) m ≡ (among ns m || among (n ∷ []) m) = among_append ns (n ∷ []) m in
    grind (arith, nat_tests)

-- What the entry at i asks.
pub asks_next : (ms : List ℕ) (i : ℕ) → i < length ms → first_bad (take i ms) (drop i ms) ≡ cond (good (take i ms) (get_or ms i 0)) (first_bad (take (i + 1) ms) (drop (i + 1) ms)) (Some i)
asks_next ms i within =
    let d : drop i ms ≡ get_or ms i 0 ∷ drop (i + 1) ms = rw (add-one, drop-cons ms i 0) refl in
    let t : take (i + 1) ms ≡ take i ms ++ (get_or ms i 0 ∷ []) = take_more ms i 0 within in
    let l : length (take i ms) ≡ i = omega (arith, length-take i ms) in
    rw (d, t, l) refl

pub apart_more : (ms : List ℕ) (i : ℕ) → i < length ms → no_repeat (take i ms) ≡ true → good (take i ms) (get_or ms i 0) ≡ true → no_repeat (take (i + 1) ms) ≡ true
apart_more ms i within apart fits = rw (take_more ms i 0 within) (apart_behind (take i ms) (get_or ms i 0) apart (grind (arith, nat_tests)))

pub same_more : (o : List Station) (ms : List ℕ) (i : ℕ) (s : Station) → i < length o → i < length ms → numbers (take i o) ≡ take i ms → station_number s ≡ get_or ms i 0 → numbers (take (i + 1) (set o i s)) ≡ take (i + 1) ms
same_more o ms i s room within same is =
    ap numbers (take_more_set o i s room)
    ∙ map-append station_number (take i o) (s ∷ [])
    ∙ ap (λ ns. ns ++ (station_number s ∷ [])) same
    ∙ ap (λ n. take i ms ++ (n ∷ [])) is
    ∙ sym (take_more ms i 0 within)

pub ruleset next_entry = (common_steps, asks_next, apart_more, same_more)
