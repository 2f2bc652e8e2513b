-- Meeting the letters of a list one after the other, as a loop does.
-- Assumes nothing.
use Rattle.std.proofs.Common.{◌≡◌, ℕ, ◌<◌, ◌≤◌, Bool, true, false, cond, List, [], ◌∷◌, ◌++◌, length, map, Some, None, Option, nat_lt, sym, subst, refl, ap, ◌∙◌, arith}
use Rattle.std.proofs.lemmas.List.{map-append, length-map, length-append}
use Rattle.std.proofs.lemmas.Bool.{ltb-true}
use Rattle.classes.specs.Meeting.{number_in, joined, meet, meets, firsts, keys_of, class_in}
use Rattle.classes.specs.Found.{Found, Out, made, met, class_or_next, next}
use Rattle.classes.proofs.Meeting.{stays, Grown, grows, meets_append}
use Rattle.classes.proofs.FirstMet.{class_is}
use Rattle.classes.proofs.Steps.{step, no_step}

module _ {L : Type 0} (key : L → ℕ) (found : List L) (l : L) where
  -- Where a step gives a class, the classes afterwards are those with the letter met.
  pub record Step (i : ℕ) (after : Found L) : Type 0 where
    pub number : number_in (map key (meet key found l)) (key l) ≡ Some i
    pub on : after ≡ made key (meet key found l)
    pub few : length found ≤ 255 → length (meet key found l) ≤ 255

  pub a_step : (i : ℕ) (after : Found L) → ◌≡◌ {A = Out L} (Some i, after) (met (made key found) l (key l)) → Step i after
  a_step i after h = go (number_in (map key found) (key l)) refl (nat_lt (length (map key found)) 255) refl
    where
      by_step : length (meet key found l) ≤ 255 → Step i after
      by_step room =
          let e : ◌≡◌ {A = Out L} (Some i, after) (number_in (map key (meet key found l)) (key l), made key (meet key found l)) = h ∙ step key found l room in
          record { number = sym (ap (λ (t : Out L). t.0) e); on = ap (λ (t : Out L). t.1) e; few = λ h. room }

      go : (o : Option ℕ) → number_in (map key found) (key l) ≡ o → (b : Bool) → nat_lt (length (map key found)) 255 ≡ b → Step i after
      go (Some j) e b room =
          let same : meet key found l ≡ found = ap (λ o. joined o found l) e in
          let t : ◌≡◌ {A = Out L} (Some i, after) (Some j, made key found) = h ∙ ap (λ o. class_or_next o (made key found) l (key l)) e in
          let n : ◌≡◌ {A = Option ℕ} (Some j) (Some i) = sym (ap (λ (t : Out L). t.0) t) in
          record { number = ap (λ xs. number_in (map key xs) (key l)) same ∙ e ∙ n; on = ap (λ (t : Out L). t.1) t ∙ ap (made key) (sym same); few = λ h. subst (λ xs. length xs ≤ 255) (sym same) h }
      go None e true room =
          let one : meet key found l ≡ found ++ (l ∷ []) = ap (λ o. joined o found l) e in
          let less = ltb-true (length (map key found)) 255 room in
          by_step (subst (λ xs. length xs ≤ 255) (sym one) (omega (arith, less, length-map found key, length-append found (l ∷ []))))
      go None e false room =
          let t : ◌≡◌ {A = Out L} (Some i, after) (None, made key found) = h ∙ ap (λ o. class_or_next o (made key found) l (key l)) e ∙ ap (λ b. cond b (next (made key found) l (key l)) (None, made key found)) room in
          let n : ◌≡◌ {A = Option ℕ} (Some i) None = ap (λ (t : Out L). t.0) t in
          absurd (let z : ◌≡◌ {A = ℕ} 0 1 = cc in omega arith)

module _ {L : Type 0} (key : L → ℕ) (seen behind : List L) (l : L) where
  one_more : firsts key (seen ++ (l ∷ [])) ≡ meet key (firsts key seen) l
  unfolding meets
  one_more = meets_append key [] seen (l ∷ [])

  grown : Grown key (meet key (firsts key seen) l) (firsts key (seen ++ (l ∷ behind)))
  unfolding meets
  grown =
      let g = grows key (meet key (firsts key seen) l) behind in
      record { more = g.more; is = meets_append key [] seen (l ∷ behind) ∙ g.is }

  -- The letter behind those that were seen got a class: it is the letter's class among all letters.
  pub record Got (i : ℕ) (after : Found L) : Type 0 where
    pub on : after ≡ made key (firsts key (seen ++ (l ∷ [])))
    pub class : class_in key (seen ++ (l ∷ behind)) l ≡ i
    pub few : length (firsts key seen) ≤ 255 → length (firsts key (seen ++ (l ∷ []))) ≤ 255

  pub got : (i : ℕ) (after : Found L) → ◌≡◌ {A = Out L} (Some i, after) (met (made key (firsts key seen)) l (key l)) → Got i after
  got i after h =
      let s = a_step key (firsts key seen) l i after h in
      let g = grown in
      let all : keys_of key (seen ++ (l ∷ behind)) ≡ map key (meet key (firsts key seen) l) ++ map key g.more = ap (map key) g.is ∙ map-append key (meet key (firsts key seen) l) g.more in
      let number : number_in (keys_of key (seen ++ (l ∷ behind))) (key l) ≡ Some i = ap (λ ks. number_in ks (key l)) all ∙ stays (map key (meet key (firsts key seen) l)) (map key g.more) (key l) i s.number in
      record { on = s.on ∙ ap (made key) (sym one_more); class = class_is key (seen ++ (l ∷ behind)) l i number; few = λ h. subst (λ xs. length xs ≤ 255) (sym one_more) (s.few h) }

  -- It got none: there are too many classes.
  pub got_none : (after : Found L) → ◌≡◌ {A = Out L} (None, after) (met (made key (firsts key seen)) l (key l)) → 255 < length (firsts key (seen ++ (l ∷ behind)))
  got_none after h =
      let n = no_step key (firsts key seen) l after h in
      let g = grown in
      subst (λ xs. 255 < length xs) (sym g.is) (omega (arith, n.too_many, length-append (meet key (firsts key seen) l) g.more))
