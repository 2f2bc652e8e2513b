-- A step of finding classes is a letter met.
-- Assumes nothing.
use Rattle.std.proofs.Common.{◌≡◌, ℕ, ◌<◌, ◌≤◌, Bool, true, false, cond, List, [], ◌∷◌, ◌++◌, length, map, Some, None, Option, nat_lt, sym, subst, refl, ap, ◌∙◌, arith}
use Rattle.std.proofs.lemmas.List.{map-append, length-map, length-append}
use Rattle.std.proofs.lemmas.Bool.{lt-ltb, ltb-false}
use Rattle.classes.specs.Meeting.{number_in, joined, meet}
use Rattle.classes.specs.Found.{Found, Out, made, met, class_or_next, next}
use Rattle.classes.proofs.Meeting.{at, not_there}

module _ {L : Type 0} (key : L → ℕ) (found : List L) (l : L) where
  -- The class that it gives, and the classes afterwards.
  abbrev Stepped : List L → Type 0
  Stepped after = ◌≡◌ {A = Out L} (met (made key found) l (key l)) (number_in (map key after) (key l), made key after)

  new_class : number_in (map key found) (key l) ≡ None → length found < 255 → Stepped (found ++ (l ∷ []))
  new_class e room =
      let keys : map key (found ++ (l ∷ [])) ≡ map key found ++ (key l ∷ []) = map-append key found (l ∷ []) in
      let number : number_in (map key found ++ (key l ∷ [])) (key l) ≡ Some (length (map key found)) = at (map key found) [] (key l) (not_there (map key found) (key l) e) in
      let long : length (map key found) ≡ length found = length-map found key in
      let fits : nat_lt (length found) 255 ≡ true = lt-ltb (length found) 255 room in
      rw (e, keys, number, long, fits) refl

  pub step : length (meet key found l) ≤ 255 → Stepped (meet key found l)
  step room = go (number_in (map key found) (key l)) refl room
    where
      go : (o : Option ℕ) → number_in (map key found) (key l) ≡ o → length (joined o found l) ≤ 255 → Stepped (joined o found l)
      go (Some i) e room = rw e refl
      go None e room = new_class e (omega (arith, length-append found (l ∷ [])))

  -- Without a class there is one class too many.
  pub record NoStep (after : Found L) : Type 0 where
    pub too_many : 255 < length (meet key found l)
    pub kept : after ≡ made key found

  pub no_step : (after : Found L) → ◌≡◌ {A = Out L} (None, after) (met (made key found) l (key l)) → NoStep after
  no_step after h = go (number_in (map key found) (key l)) refl (nat_lt (length (map key found)) 255) refl
    where
      go : (o : Option ℕ) → number_in (map key found) (key l) ≡ o → (b : Bool) → nat_lt (length (map key found)) 255 ≡ b → NoStep after
      go (Some i) e b room =
          let t : ◌≡◌ {A = Out L} (None, after) (Some i, made key found) = h ∙ ap (λ o. class_or_next o (made key found) l (key l)) e in
          let n : ◌≡◌ {A = Option ℕ} None (Some i) = ap (λ (t : Out L). t.0) t in
          absurd (let z : ◌≡◌ {A = ℕ} 0 1 = cc in omega arith)
      go None e true room =
          let t : ◌≡◌ {A = Out L} (None, after) (next (made key found) l (key l)) = h ∙ ap (λ o. class_or_next o (made key found) l (key l)) e ∙ ap (λ b. cond b (next (made key found) l (key l)) (None, made key found)) room in
          let n : ◌≡◌ {A = Option ℕ} None (Some (length (map key found))) = ap (λ (t : Out L). t.0) t in
          absurd (let z : ◌≡◌ {A = ℕ} 0 1 = cc in omega arith)
      go None e false room =
          let t : ◌≡◌ {A = Out L} (None, after) (None, made key found) = h ∙ ap (λ o. class_or_next o (made key found) l (key l)) e ∙ ap (λ b. cond b (next (made key found) l (key l)) (None, made key found)) room in
          let one : meet key found l ≡ found ++ (l ∷ []) = ap (λ o. joined o found l) e in
          let full : 255 ≤ length (map key found) = ltb-false (length (map key found)) 255 room in
          record { too_many = subst (λ xs. 255 < length xs) (sym one) (omega (arith, full, length-map found key, length-append found (l ∷ []))); kept = ap (λ (t : Out L). t.1) t }
