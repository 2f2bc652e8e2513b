-- All events: what holds of each of them, and the laws of their classes by any key.
-- Assumes nothing.
use Rattle.std.proofs.Common.{◌≡◌, ℕ, suc, ◌+◌, ◌-◌, ◌<◌, ◌≤◌, List, [], ◌∷◌, ◌++◌, length, drop, map, append_assoc, subst, refl, ap, ◌∙◌, arith}
use Rattle.std.specs.List.{AllByRecursion, flat_map, slice_get}
use Rattle.alphabets.specs.declared.kind.Kind.{Kind}
use Rattle.alphabets.specs.Laws.{Counted, Classed, Sampled, Bounded}
use Rattle.bench.specs.Events.{all_codes, all_stations}
use Rattle.bench.specs.declared.code.Code.{Code}
use Rattle.bench.specs.declared.code.Code.TheVariants.{C0, C1, C2, C3, C4, C5, C6, C7, C8, C9, C10, C11, C12, C13, C14, C15}
use Rattle.bench.specs.declared.event.Event.{Event}
use Rattle.bench.specs.declared.station.Station.{Station}
use Rattle.bench.specs.declared.station.Station.TheVariants.{S0, S1, S2, S3, S4, S5, S6, S7}
use Rattle.classes.specs.Rising.{rising}
use Rattle.classes.specs.Meeting.{number_in, meets, firsts, keys_of, class_in}
use Rattle.classes.proofs.Meeting.{at, nothing_new}
use Rattle.classes.proofs.Rising.{rising_at, rising_suc, all_rising}
use Rattle.classes.proofs.Laws.{Lists, Placed}
use Rattle.classes.proofs.Laws.{counted as counted_by, classed as classed_by, sampled as sampled_by, bounded as bounded_by}
use Rattle.sweeps.specs.Letters.{event_at, at_station, at_code, events_below, all_events}

module _ {X : Type 0} (P : X → Type 0) where
  both : (xs ys : List X) → AllByRecursion P xs → AllByRecursion P ys → AllByRecursion P (xs ++ ys)
  both [] ys h k = k
  both (x ∷ xs) ys h k = (h.0, both xs ys h.1 k)

  front : (xs ys : List X) → AllByRecursion P (xs ++ ys) → AllByRecursion P xs
  front [] ys h = tt
  front (x ∷ xs) ys h = (h.0, front xs ys h.1)

  back : (xs ys : List X) → AllByRecursion P (xs ++ ys) → AllByRecursion P ys
  back [] ys h = h
  back (x ∷ xs) ys h = back xs ys h.1

  each : (xs : List X) → ((x : X) → P x) → AllByRecursion P xs
  each [] h = tt
  each (x ∷ xs) h = (h x, each xs h)

  pub all_of_map : {Y : Type 0} (f : Y → X) (ys : List Y) → AllByRecursion (λ y. P (f y)) ys → AllByRecursion P (map f ys)
  all_of_map f [] h = tt
  all_of_map f (y ∷ ys) h = (h.0, all_of_map f ys h.1)

  each_of_map : {Y : Type 0} (f : Y → X) (ys : List Y) → AllByRecursion P (map f ys) → AllByRecursion (λ y. P (f y)) ys
  each_of_map f [] h = tt
  each_of_map f (y ∷ ys) h = (h.0, each_of_map f ys h.1)

  all_of_lists : {Y : Type 0} (f : Y → List X) (ys : List Y) → AllByRecursion (λ y. AllByRecursion P (f y)) ys → AllByRecursion P (flat_map f ys)
  all_of_lists f [] h = tt
  all_of_lists f (y ∷ ys) h = both (f y) (flat_map f ys) h.0 (all_of_lists f ys h.1)

  each_of_lists : {Y : Type 0} (f : Y → List X) (ys : List Y) → AllByRecursion P (flat_map f ys) → AllByRecursion (λ y. AllByRecursion P (f y)) ys
  each_of_lists f [] h = tt
  each_of_lists f (y ∷ ys) h = (front (f y) (flat_map f ys) h, each_of_lists f ys (back (f y) (flat_map f ys) h))

-- Every code, and every station, is one of the list.
of_code : (P : Code → Type 0) → AllByRecursion P all_codes → (c : Code) → P c
of_code P h C0 = h.0
of_code P h C1 = h.1.0
of_code P h C2 = h.1.1.0
of_code P h C3 = h.1.1.1.0
of_code P h C4 = h.1.1.1.1.0
of_code P h C5 = h.1.1.1.1.1.0
of_code P h C6 = h.1.1.1.1.1.1.0
of_code P h C7 = h.1.1.1.1.1.1.1.0
of_code P h C8 = h.1.1.1.1.1.1.1.1.0
of_code P h C9 = h.1.1.1.1.1.1.1.1.1.0
of_code P h C10 = h.1.1.1.1.1.1.1.1.1.1.0
of_code P h C11 = h.1.1.1.1.1.1.1.1.1.1.1.0
of_code P h C12 = h.1.1.1.1.1.1.1.1.1.1.1.1.0
of_code P h C13 = h.1.1.1.1.1.1.1.1.1.1.1.1.1.0
of_code P h C14 = h.1.1.1.1.1.1.1.1.1.1.1.1.1.1.0
of_code P h C15 = h.1.1.1.1.1.1.1.1.1.1.1.1.1.1.1.0

of_station : (P : Station → Type 0) → AllByRecursion P all_stations → (s : Station) → P s
of_station P h S0 = h.0
of_station P h S1 = h.1.0
of_station P h S2 = h.1.1.0
of_station P h S3 = h.1.1.1.0
of_station P h S4 = h.1.1.1.1.0
of_station P h S5 = h.1.1.1.1.1.0
of_station P h S6 = h.1.1.1.1.1.1.0
of_station P h S7 = h.1.1.1.1.1.1.1.0

module _ (P : Event → Type 0) (n : ℕ) where
  -- What holds of the events with a pressure below n holds of each of the list, and the other way round.
  all_below : ((c : Code) (s : Station) (p : ℕ) → p < n → P (event_at c s p)) → AllByRecursion P (events_below n)
  unfolding events_below at_code
  all_below h =
      all_of_lists P (at_code n) all_codes
      (each (λ c. AllByRecursion P (at_code n c)) all_codes
      (λ c. all_of_lists P (at_station n c) all_stations
      (each (λ s. AllByRecursion P (at_station n c s)) all_stations
      (λ s. all_of_map P (event_at c s) (rising 0 n) (all_rising (λ p. P (event_at c s p)) 0 n (λ p low high. h c s p (omega arith)))))))

  of_rising : (Q : ℕ → Type 0) → AllByRecursion Q (rising 0 n) → (p : ℕ) → p < n → Q p
  of_rising Q h p below =
      let parts = rising_at 0 n p (omega arith) (omega arith) in
      let here = rw parts at h in
      (back Q (rising 0 (p - 0)) (p ∷ rising (p + 1) (0 + n - (p + 1))) here).0

  of_below : AllByRecursion P (events_below n) → (c : Code) (s : Station) (p : ℕ) → p < n → P (event_at c s p)
  unfolding events_below at_code
  of_below h c s p below =
      let at_c = of_code (λ c. AllByRecursion P (at_code n c)) (each_of_lists P (at_code n) all_codes h) c in
      let at_s = of_station (λ s. AllByRecursion P (at_station n c s)) (each_of_lists P (at_station n c) all_stations at_c) s in
      of_rising (λ p. P (event_at c s p)) (each_of_map P (event_at c s) (rising 0 n) at_s) p below

module _ (P : Event → Type 0) where
  pub of_every_event : ((c : Code) (s : Station) (p : ℕ) → p < 65536 → P (event_at c s p)) → AllByRecursion P all_events
  unfolding all_events
  of_every_event h = all_below P 65536 h

  pub every_event : AllByRecursion P all_events → (e : Event) → e.pressure < 65536 → P e
  unfolding all_events
  every_event h e below = of_below P 65536 h e.code e.station e.pressure below

placed_behind : {L : Type 0} (us ws : List L) → AllByRecursion (Placed (us ++ ws)) ws
placed_behind us [] = tt
placed_behind us (w ∷ ws) =
    let on : (us ++ (w ∷ [])) ++ ws ≡ us ++ (w ∷ ws) = append_assoc us (w ∷ []) ws in
    (record { before = us; behind = ws; parts = refl }, subst (λ ls. AllByRecursion (Placed ls) ws) on (placed_behind (us ++ (w ∷ [])) ws))

-- The list has the events that can exist, and no others.
pub events_listed : Lists (λ e. e.pressure < 65536) all_events
events_listed = record {
  each = of_every_event (λ e. e.pressure < 65536) (λ c s p h. h);
  every = λ e h. every_event (Placed all_events) (placed_behind [] all_events) e h;
}

module _ (key : Event → ℕ) where
  pub counted : (k : Kind) → length (firsts key all_events) ≤ 255 → Counted k (length (firsts key all_events))
  counted k most = counted_by (λ e. e.pressure < 65536) key all_events events_listed k (event_at C0 S0 0) (omega arith) most

  pub classed : Classed (λ e. e.pressure < 65536) (length (firsts key all_events)) (class_in key all_events) (λ k. slice_get (keys_of key all_events) k) key
  classed = classed_by (λ e. e.pressure < 65536) key all_events events_listed

  pub sampled : Sampled (λ e. e.pressure < 65536) (length (firsts key all_events)) (class_in key all_events) (λ k. slice_get (firsts key all_events) k)
  sampled = sampled_by (λ e. e.pressure < 65536) key all_events events_listed

  pub bounded : Bounded (length (firsts key all_events)) (λ k. slice_get (keys_of key all_events) k) (λ k. slice_get (firsts key all_events) k)
  bounded = bounded_by (λ e. e.pressure < 65536) key all_events events_listed

-- Where every event has the same key, there is one class, with the first event as its sample.
begins : {X Y : Type 0} (f : X → List Y) (x : X) (xs : List X) (y : Y) (ys : List Y) → f x ≡ y ∷ ys → flat_map f (x ∷ xs) ≡ y ∷ (ys ++ flat_map f xs)
begins f x xs y ys h = ap (λ zs. zs ++ flat_map f xs) h

first_below : (m : ℕ) → (rest : List Event) × (events_below (suc m) ≡ event_at C0 S0 0 ∷ rest)
unfolding events_below at_code
first_below m =
    let first = event_at C0 S0 0 in
    let row = map (event_at C0 S0) (rising (0 + 1) m) in
    let others = flat_map (at_station (suc m) C0) (drop 1 all_stations) in
    let there : at_station (suc m) C0 S0 ≡ first ∷ row = ap (map (event_at C0 S0)) (rising_suc 0 m) in
    let at_first : at_code (suc m) C0 ≡ first ∷ (row ++ others) = begins (at_station (suc m) C0) S0 (drop 1 all_stations) first row there in
    ((row ++ others) ++ flat_map (at_code (suc m)) (drop 1 all_codes), begins (at_code (suc m)) C0 (drop 1 all_codes) first (row ++ others) at_first)

pub one_class : (key : Event → ℕ) (k : ℕ) → ((e : Event) → key e ≡ k) → firsts key all_events ≡ event_at C0 S0 0 ∷ []
unfolding meets all_events
one_class key k same =
    let f = first_below 65535 in
    let first = event_at C0 S0 0 in
    ap (firsts key) f.1
    ∙ nothing_new key (first ∷ []) f.0 k 0 (ap (λ n. number_in (n ∷ []) k) (same first) ∙ at [] [] k tt) (each (λ e. key e ≡ k) f.0 same)
