-- Orders undone.
-- Assumes nothing.
use Rattle.std.proofs.Common.{Some, Option, ◌≡◌, ℕ, zero, suc, ◌<◌, Bool, true, false, ◌==◌, List, [], ◌∷◌, length, map, get_or, sym, refl, ap, ◌∙◌, arith}
use Rattle.std.proofs.lemmas.Bool.Decides.{nat_tests}
use Rattle.std.proofs.lemmas.List.{length-map}
use Rattle.std.proofs.lemmas.Map.Keys.{apart_from_distinct}
use Rattle.std.specs.Prelude.{unwrap_or, slice_get}
use Rattle.std.specs.List.{AllByRecursion, find, list_any}
use Rattle.bench.specs.declared.station.Station.{Station}
use Rattle.bench.specs.declared.station.Station.TheVariants.{S0, S1, S2, S3, S4, S5, S6, S7}
use Rattle.bench.specs.Events.{all_stations, station_number}
use Rattle.stations.specs.Orders.{among, asked, back, asking_for, no_repeat, numbers, straight}
use Rattle.stations.proofs.Pigeonhole.{all_stand, distinct}

-- Stations and their numbers.
pub itself : (s : Station) → asked straight s ≡ s
itself S0 = refl
itself S1 = refl
itself S2 = refl
itself S3 = refl
itself S4 = refl
itself S5 = refl
itself S6 = refl
itself S7 = refl

same_station : (s t : Station) → station_number s ≡ station_number t → s ≡ t
same_station s t h = sym (itself s) ∙ ap (λ n. unwrap_or (slice_get all_stations n) S0) h ∙ itself t

few : (s : Station) → station_number s < 8
few S0 = omega arith
few S1 = omega arith
few S2 = omega arith
few S3 = omega arith
few S4 = omega arith
few S5 = omega arith
few S6 = omega arith
few S7 = omega arith

all_few : (o : List Station) → AllByRecursion (λ n. n < 8) (numbers o)
all_few [] = tt
all_few (s ∷ o) = (few s, all_few o)

-- What is asked about for the stations in turn is the order itself.
turns : (o : List Station) → length o ≡ 8 → map (asked o) all_stations ≡ o
turns (a ∷ b ∷ c ∷ d ∷ e ∷ f ∷ g ∷ h ∷ []) many = refl
turns _ many = absurd (omega arith)

-- What is found passes the test, where any does.
abbrev Passes : (Station → Bool) → Option Station → Type 0
Passes p o = (o ≡ Some (unwrap_or o S0)) × (p (unwrap_or o S0) ≡ true)

found_passes : (p : Station → Bool) (xs : List Station) → list_any p xs ≡ true → Passes p (find p xs)
found_passes p [] h = cc
found_passes p (x ∷ xs) h = go (p x) refl (found_passes p xs)
  where
    go : (b : Bool) → p x ≡ b → (list_any p xs ≡ true → Passes p (find p xs)) → Passes p (find p (x ∷ xs))
    go true e rest = rw e (refl, e)
    go false e rest = rw e (rest (rw e at h))

any_map : (p : ℕ → Bool) (f : Station → Station) (xs : List Station) → list_any (λ s. p (station_number (f s))) xs ≡ list_any p (numbers (map f xs))
any_map p f [] = refl
any_map p f (x ∷ xs) = rw (any_map p f xs) refl

number_at : (o : List Station) (n : ℕ) → station_number (unwrap_or (slice_get o n) S0) ≡ get_or (numbers o) n 0
number_at [] n = refl
number_at (s ∷ o) zero = refl
number_at (s ∷ o) (suc n) = number_at o n

module _ (o : List Station) (many : length o ≡ 8) (apart : no_repeat (numbers o) ≡ true) where
  stands : (s : Station) → among (numbers o) (station_number s) ≡ true
  stands s = all_stand (numbers o) 8 apart (all_few o) (length-map o station_number ∙ many) (station_number s) (few s)

  found : (s : Station) → Passes (λ from. station_number (asked o from) == station_number s) (asking_for o all_stations s)
  found s =
      let n = station_number s in
      found_passes (λ from. station_number (asked o from) == n) all_stations
      (any_map (λ m. m == n) (asked o) all_stations ∙ ap (λ xs. among (numbers xs) n) (turns o many) ∙ stands s)

  pub some_asks : (s : Station) → asking_for o all_stations s ≡ Some (back o s)
  unfolding back
  some_asks s = (found s).0

  pub forth_and_back : (s : Station) → asked o (back o s) ≡ s
  unfolding back
  forth_and_back s = let passes = (found s).1 in same_station (asked o (back o s)) s (grind (arith, nat_tests))

  -- Of two stations the one with the smaller number is asked about as another.
  smaller : (s t : Station) → station_number s < station_number t → station_number (asked o s) ≡ station_number (asked o t) → ⊥
  smaller s t h e =
      let i = station_number s in
      let j = station_number t in
      let within : j < length (numbers o) = let f = few t in omega (arith, length-map o station_number) in
      let differs = apart_from_distinct (λ m n. m == n) (numbers o) i j 0 (distinct (numbers o) apart) h within in
      let same : get_or (numbers o) i 0 ≡ get_or (numbers o) j 0 = sym (number_at o i) ∙ e ∙ number_at o j in
      grind (arith, nat_tests)

  asked_once : (s t : Station) → asked o s ≡ asked o t → s ≡ t
  asked_once s t e =
      let same : station_number (asked o s) ≡ station_number (asked o t) = ap station_number e in
      same_station s t (grind (arith, smaller s t, smaller t s))

  pub back_and_forth : (s : Station) → back o (asked o s) ≡ s
  back_and_forth s = asked_once (back o (asked o s)) s (forth_and_back (asked o s))
