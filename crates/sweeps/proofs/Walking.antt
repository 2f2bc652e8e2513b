-- Meeting letters in turn comes to meeting the whole list of them.
-- Assumes nothing.
use Rattle.std.proofs.Common.{◌≡◌, ℕ, suc, ◌+◌, ◌-◌, ◌<◌, ◌≤◌, Bool, true, false, cond, List, [], ◌∷◌, ◌++◌, length, take, drop, map, Some, None, Option, nat_lt, get_or, append_assoc, sym, subst, refl, ap, ◌∙◌, arith}
use Rattle.std.proofs.lemmas.List.{length-append, length-map, take_more, take-append-drop, flat_map_more}
use Rattle.std.proofs.lemmas.Grind.{flat_map-append}
use Rattle.std.proofs.lemmas.Bool.{ltb-true}
use Rattle.std.proofs.Math.Seq.{drop-cons}
use Rattle.std.specs.List.{flat_map}
use Rattle.std.specs.Option.{is_some}
use Rattle.bench.specs.declared.code.Code.{Code}
use Rattle.bench.specs.declared.event.Event.{Event}
use Rattle.bench.specs.declared.station.Station.{Station}
use Rattle.bands.specs.declared.atom.EventAtom.{EventAtom}
use Rattle.classes.specs.Found.{Found, Out, samples_in, keys_in, found, made, met, class_or_next, next}
use Rattle.classes.specs.Meeting.{number_in, joined, meet, meets}
use Rattle.classes.specs.Rising.{rising}
use Rattle.classes.specs.declared.found.Classes.{Classes}
use Rattle.classes.proofs.Filling.{a_step}
use Rattle.classes.proofs.Meeting.{grows, meets_append}
use Rattle.classes.proofs.Rising.{rising_zero}
use Rattle.classes.proofs.Steps.{no_step}
use Rattle.sweeps.specs.Letters.{event_at, at_station}
use Rattle.sweeps.specs.Classes.{set_of}
use Rattle.sweeps.specs.Changes.{next_change}
use Rattle.sweeps.specs.Walking.{Tied, Have, Met}
use Rattle.sweeps.proofs.Jumping.{parted, jump}
use Rattle.sweeps.proofs.Steady.{steady, change_later}

-- The classes of c before are d after the letters ls were met.
abbrev pub So : (Event → ℕ) → Classes Event → List Event → Classes Event → Type 0
So key c ls d = Have key c (meets key (samples_in c) ls) d

module _ (key : Event → ℕ) where
  have_samples : (c : Classes Event) (ls : List Event) (d : Classes Event) → Have key c ls d → samples_in d ≡ ls
  have_samples c ls d have = ap (λ (f : Found Event). f.samples) have.are

  pub tied : (c : Classes Event) (ls : List Event) (d : Classes Event) → So key c ls d → Tied key d
  tied c ls d so =
      let keys : keys_in d ≡ map key (meets key (samples_in c) ls) = ap (λ (f : Found Event). f.keys) so.are in
      keys ∙ ap (map key) (sym (have_samples c (meets key (samples_in c) ls) d so))

  pub none_yet : (c : Classes Event) → Tied key c → So key c [] c
  unfolding meets
  none_yet c h = record { are = ap (λ (ks : List ℕ). record { samples = samples_in c; keys = ks }) h; few = λ few. few }

  samples_so : (c : Classes Event) (ls : List Event) (d : Classes Event) → So key c ls d → (ms : List Event) → meets key (samples_in d) ms ≡ meets key (samples_in c) (ls ++ ms)
  samples_so c ls d so ms =
      ap (λ xs. meets key xs ms) (have_samples c (meets key (samples_in c) ls) d so) ∙ sym (meets_append key (samples_in c) ls ms)

  pub so_more : (c : Classes Event) (ls : List Event) (d : Classes Event) → So key c ls d → (ms : List Event) (e : Classes Event) → Met key ms d true e → So key c (ls ++ ms) e
  so_more c ls d so ms e m =
      let have = m.all_met refl in
      let same = samples_so c ls d so ms in
      let before = ap length (have_samples c (meets key (samples_in c) ls) d so) in
      record {
        are = have.are ∙ ap (made key) same;
        few = λ few. let at_d : length (samples_in d) ≤ 255 = omega (arith, before, so.few few) in omega (arith, have.few at_d, ap length same);
      }

  -- Too many classes stay too many.
  pub no_more : (c : Classes Event) (ls : List Event) (d : Classes Event) → So key c ls d → (ms : List Event) (e : Classes Event) → Met key ms d false e → (rest : List Event) → 255 < length (meets key (samples_in c) ((ls ++ ms) ++ rest))
  no_more c ls d so ms e m rest =
      let many = m.too_many refl in
      let here = ap length (samples_so c ls d so ms) in
      let all = ap length (meets_append key (samples_in c) (ls ++ ms) rest) in
      let g = grows key (meets key (samples_in c) (ls ++ ms)) rest in
      let long = ap length g.is in
      omega (arith, many, here, all, long, length-append (meets key (samples_in c) (ls ++ ms)) g.more)

  -- One letter.
  room_left : (ls : List Event) (l : Event) (i : ℕ) (after : Found Event) → ◌≡◌ {A = Out Event} (Some i, after) (met (made key ls) l (key l)) → length ls ≤ 255 → length (meet key ls l) ≤ 255
  room_left ls l i after h few = go (number_in (map key ls) (key l)) refl (nat_lt (length (map key ls)) 255) refl
    where
      go : (o : Option ℕ) → number_in (map key ls) (key l) ≡ o → (b : Bool) → nat_lt (length (map key ls)) 255 ≡ b → length (joined o ls l) ≤ 255
      go (Some j) e b room = few
      go None e true room = let less = ltb-true (length (map key ls)) 255 room in omega (arith, less, length-map ls key, length-append ls (l ∷ []))
      go None e false room =
          let t : ◌≡◌ {A = Out Event} (Some i, after) (None, made key ls) = h ∙ ap (λ o. class_or_next o (made key ls) l (key l)) e ∙ ap (λ b. cond b (next (made key ls) l (key l)) (None, made key ls)) room in
          let n : ◌≡◌ {A = Option ℕ} (Some i) None = ap (λ (t : Out Event). t.0) t in
          absurd (let z : ◌≡◌ {A = ℕ} 0 1 = cc in omega arith)

  pub meets_one : (c : Classes Event) (l : Event) (o : Option ℕ) (d : Classes Event) → Tied key c → ◌≡◌ {A = Out Event} (o, found d) (met (found c) l (key l)) → Met key (l ∷ []) c (is_some o) d
  unfolding meets
  meets_one c l o d h is = go o (is ∙ ap (λ (ks : List ℕ). met (record { samples = samples_in c; keys = ks }) l (key l)) h)
    where
      go : (o : Option ℕ) → ◌≡◌ {A = Out Event} (o, found d) (met (made key (samples_in c)) l (key l)) → Met key (l ∷ []) c (is_some o) d
      go (Some i) is = record { all_met = λ yes. record { are = (a_step key (samples_in c) l i (found d) is).on; few = room_left (samples_in c) l i (found d) is }; too_many = λ no. absurd (let z : ◌≡◌ {A = ℕ} 0 1 = cc in omega arith) }
      go None is = record { all_met = λ yes. absurd (let z : ◌≡◌ {A = ℕ} 0 1 = cc in omega arith); too_many = λ no. (no_step key (samples_in c) l (found d) is).too_many }

module _ (atoms : List EventAtom) (code : Code) (station : Station) (c d e : Classes Event) (p : ℕ) (h : p < 65536) where
  abbrev here : Event
  here = event_at code station p

  -- Where the event at a pressure is met, all up to the next change are.
  pub jumped : So (set_of atoms) c (at_station p code station) d → Met (set_of atoms) (here ∷ []) d true e → So (set_of atoms) c (at_station (next_change code station p atoms) code station) e
  unfolding meets
  jumped so m =
      let q = next_change code station p atoms in
      let key : Event → ℕ = set_of atoms in
      let far = jump code station key (samples_in c) p q (change_later code station p atoms h) (λ r low high. steady code station p atoms r low high) in
      let same = meets_append key (samples_in c) (at_station p code station) (here ∷ []) ∙ sym far in
      subst (λ xs. Have key c xs e) same (so_more key c (at_station p code station) d so (here ∷ []) e m)

  pub full_there : So (set_of atoms) c (at_station p code station) d → Met (set_of atoms) (here ∷ []) d false e → Met (set_of atoms) (at_station 65536 code station) c false e
  full_there so m =
      let key : Event → ℕ = set_of atoms in
      let rest = map (event_at code station) (rising (p + 1) (65536 - (p + 1))) in
      let all : at_station 65536 code station ≡ (at_station p code station ++ (here ∷ [])) ++ rest = parted code station p 65536 h ∙ sym (append_assoc (at_station p code station) (here ∷ []) rest) in
      let many = no_more key c (at_station p code station) d so (here ∷ []) e m rest in
      record { all_met = λ yes. absurd (let z : ◌≡◌ {A = ℕ} 0 1 = cc in omega arith); too_many = λ no. subst (λ ls. 255 < length (meets key (samples_in c) ls)) (sym all) many }

pub none_there : (key : Event → ℕ) (code : Code) (station : Station) (c : Classes Event) → Tied key c → So key c (at_station 0 code station) c
none_there key code station c h = subst (λ ps. So key c (map (event_at code station) ps) c) (sym (rising_zero 0)) (none_yet key c h)

pub all_there : (atoms : List EventAtom) (code : Code) (station : Station) (c d : Classes Event) (q : ℕ) → 65536 ≤ q → q ≤ 65536 → So (set_of atoms) c (at_station q code station) d → Met (set_of atoms) (at_station 65536 code station) c true d
all_there atoms code station c d q low high so =
    let end : q ≡ 65536 = omega arith in
    record { all_met = λ yes. subst (λ n. So (set_of atoms) c (at_station n code station) d) end so; too_many = λ no. absurd (let z : ◌≡◌ {A = ℕ} 0 1 = cc in omega arith) }

-- The letters of a list of lists.
module _ {X : Type 0} (key : Event → ℕ) (f : X → List Event) (xs : List X) (c d e : Classes Event) (i : ℕ) (x : X) where
  parts : i < length xs → flat_map f xs ≡ (flat_map f (take i xs) ++ f (get_or xs i x)) ++ flat_map f (drop (suc i) xs)
  parts h =
      let y = get_or xs i x in
      let cut : xs ≡ take i xs ++ (y ∷ drop (suc i) xs) = sym (take-append-drop i xs) ∙ ap (λ ys. take i xs ++ ys) (drop-cons xs i x h) in
      ap (flat_map f) cut
      ∙ flat_map-append f (take i xs) (y ∷ drop (suc i) xs)
      ∙ sym (append_assoc (flat_map f (take i xs)) (f y) (flat_map f (drop (suc i) xs)))

  pub list_more : i < length xs → So key c (flat_map f (take i xs)) d → Met key (f (get_or xs i x)) d true e → So key c (flat_map f (take (i + 1) xs)) e
  list_more h so m =
      let one : flat_map f (take (i + 1) xs) ≡ flat_map f (take i xs) ++ f (get_or xs i x) =
      ap (flat_map f) (take_more xs i x h) ∙ sym (flat_map_more f [] (take i xs) (get_or xs i x))
      in
      subst (λ ls. So key c ls e) (sym one) (so_more key c (flat_map f (take i xs)) d so (f (get_or xs i x)) e m)

  pub list_full : i < length xs → So key c (flat_map f (take i xs)) d → Met key (f (get_or xs i x)) d false e → Met key (flat_map f xs) c false e
  list_full h so m =
      let many = no_more key c (flat_map f (take i xs)) d so (f (get_or xs i x)) e m (flat_map f (drop (suc i) xs)) in
      record { all_met = λ yes. absurd (let z : ◌≡◌ {A = ℕ} 0 1 = cc in omega arith); too_many = λ no. subst (λ ls. 255 < length (meets key (samples_in c) ls)) (sym (parts h)) many }

pub list_all : {X : Type 0} (key : Event → ℕ) (f : X → List Event) (xs : List X) (c d : Classes Event) → So key c (flat_map f xs) d → Met key (flat_map f xs) c true d
list_all key f xs c d so = record { all_met = λ yes. so; too_many = λ no. absurd (let z : ◌≡◌ {A = ℕ} 0 1 = cc in omega arith) }
