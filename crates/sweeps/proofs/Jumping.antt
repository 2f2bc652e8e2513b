-- Jumping from one pressure to the next meets the same as walking.
-- Assumes nothing.
use Rattle.std.proofs.Common.{◌≡◌, ℕ, suc, ◌+◌, ◌-◌, ◌<◌, ◌≤◌, List, ◌∷◌, ◌++◌, map, refl, ap, ◌∙◌, arith}
use Rattle.std.specs.List.{AllByRecursion}
use Rattle.std.proofs.lemmas.List.{map-append}
use Rattle.bench.specs.declared.code.Code.{Code}
use Rattle.bench.specs.declared.event.Event.{Event}
use Rattle.bench.specs.declared.station.Station.{Station}
use Rattle.classes.specs.Rising.{rising}
use Rattle.classes.specs.Meeting.{meet, meets}
use Rattle.classes.proofs.Meeting.{meets_append, met_there, nothing_new}
use Rattle.classes.proofs.Rising.{rising_append, rising_suc, all_rising}
use Rattle.sweeps.specs.Letters.{event_at, at_station}
use Rattle.sweeps.proofs.Letters.{all_of_map}

pub meets_step : {L : Type 0} (key : L → ℕ) (found : List L) (l : L) (ls : List L) → meets key found (l ∷ ls) ≡ meets key (meet key found l) ls
unfolding meets
meets_step key found l ls = refl

module _ (c : Code) (s : Station) where
  -- The events below a pressure, the one at it, and the others.
  pub parted : (p q : ℕ) → p < q → at_station q c s ≡ at_station p c s ++ (event_at c s p ∷ map (event_at c s) (rising (p + 1) (q - (p + 1))))
  parted p q h =
      let n = q - (p + 1) in
      let long : q ≡ p + suc n = omega arith in
      let from_zero : 0 + p ≡ p = omega arith in
      let row : rising 0 q ≡ rising 0 p ++ (p ∷ rising (p + 1) n) =
      ap (rising 0) long
      ∙ rising_append 0 p (suc n)
      ∙ ap (λ r. rising 0 p ++ rising r (suc n)) from_zero
      ∙ ap (λ ks. rising 0 p ++ ks) (rising_suc p n)
      in
      ap (map (event_at c s)) row ∙ map-append (event_at c s) (rising 0 p) (p ∷ rising (p + 1) n)

  -- Where a stretch of pressures has one key, its first event stands for all of them.
  pub jump : (key : Event → ℕ) (found : List Event) (p q : ℕ) → p < q → ((r : ℕ) → p ≤ r → r < q → key (event_at c s r) ≡ key (event_at c s p)) → meets key found (at_station q c s) ≡ meet key (meets key found (at_station p c s)) (event_at c s p)
  jump key found p q h steady =
      let before = meets key found (at_station p c s) in
      let here = event_at c s p in
      let n = q - (p + 1) in
      let rest = map (event_at c s) (rising (p + 1) n) in
      let met = met_there key before here in
      let same : AllByRecursion (λ l. key l ≡ key here) rest =
      all_of_map (λ l. key l ≡ key here) (event_at c s) (rising (p + 1) n)
      (all_rising (λ r. key (event_at c s r) ≡ key here) (p + 1) n (λ r low high. steady r (omega arith) (omega arith)))
      in
      ap (meets key found) (parted p q h)
      ∙ meets_append key found (at_station p c s) (here ∷ rest)
      ∙ meets_step key before here rest
      ∙ nothing_new key (meet key before here) rest (key here) met.class met.is same
