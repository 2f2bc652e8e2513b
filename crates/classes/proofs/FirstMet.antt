-- The classes of letters: each has a sample, the first of its letters, and each letter has a class.
-- Assumes nothing.
use Rattle.std.proofs.Common.{◌≡◌, ℕ, ◌<◌, ◌⊎◌, inl, inr, List, [], ◌∷◌, ◌++◌, length, take, map, Some, None, Option, unwrap_or, append_assoc, sym, subst, refl, ap, ◌∙◌, arith}
use Rattle.std.proofs.Math.Seq.{take-append_seam}
use Rattle.std.proofs.lemmas.List.{map-append, length-map}
use Rattle.std.specs.List.{slice_get, AllByRecursion}
use Rattle.classes.specs.Meeting.{number_in, joined, meet, meets, firsts, keys_of, class_in, HasClass, FirstMet}
use Rattle.classes.proofs.Meeting.{there, not_there, at, Grown, grows, Numbered, all_there, meets_append, FirstFrom, first_from}

pub one_of_all : {X : Type 0} (P : X → Type 0) (before behind : List X) (x : X) → AllByRecursion P (before ++ (x ∷ behind)) → P x
one_of_all P [] behind x h = h.0
one_of_all P (y ∷ before) behind x h = one_of_all P before behind x h.1

all_weaker : {X : Type 0} (P Q : X → Type 0) → ((x : X) → P x → Q x) → (xs : List X) → AllByRecursion P xs → AllByRecursion Q xs
all_weaker P Q f [] h = tt
all_weaker P Q f (x ∷ xs) h = (f x h.0, all_weaker P Q f xs h.1)

-- What a place has behind a beginning of a list.
placed_behind : {X : Type 0} (us ws : List X) (x : X) → slice_get (us ++ (x ∷ ws)) (length us) ≡ Some x
placed_behind [] ws x = refl
placed_behind (u ∷ us) ws x = placed_behind us ws x

within : {X : Type 0} (us ws : List X) (x : X) → length us < length (us ++ (x ∷ ws))
within [] ws x = omega arith
within (u ∷ us) ws x = let h = within us ws x in omega (arith, h)

module _ {L : Type 0} (key : L → ℕ) where
  -- What the class of a letter is.
  pub record ClassOf (found : List L) (l : L) (k : ℕ) : Type 0 where
    pub below : k < length found
    pub key_is : slice_get (map key found) k ≡ Some (key l)

  pub class_of : (found : List L) (l : L) (k : ℕ) → number_in (map key found) (key l) ≡ Some k → ClassOf found l k
  class_of found l k h =
      let f = there (map key found) (key l) k h in
      let inside = subst (λ ks. length f.before < length ks) (sym f.parts) (within f.before f.behind (key l)) in
      let has : slice_get (map key found) (length f.before) ≡ Some (key l) = ap (λ ks. slice_get ks (length f.before)) f.parts ∙ placed_behind f.before f.behind (key l) in
      record { below = omega (arith, inside, f.place, length-map found key); key_is = ap (slice_get (map key found)) (sym f.place) ∙ has }

  -- A letter of the list has a class.
  pub classed : (before behind : List L) (l : L) → Numbered key (firsts key (before ++ (l ∷ behind))) l
  classed before behind l = one_of_all (Numbered key (firsts key (before ++ (l ∷ behind)))) before behind l (all_there key [] (before ++ (l ∷ behind)))

  pub class_is : (ls : List L) (l : L) (k : ℕ) → number_in (keys_of key ls) (key l) ≡ Some k → class_in key ls l ≡ k
  class_is ls l k h = ap (λ o. unwrap_or o 0) h

  pub has_class : (ls : List L) (l : L) → Numbered key (firsts key ls) l → HasClass key ls l
  has_class ls l n =
      let c = class_of (firsts key ls) l n.class n.is in
      let same = sym (class_is ls l n.class n.is) in
      record { below = subst (λ k. k < length (firsts key ls)) same c.below; key_is = subst (λ k. slice_get (keys_of key ls) k ≡ Some (key l)) same c.key_is }

  pub all_classed : (ls : List L) → AllByRecursion (HasClass key ls) ls
  all_classed ls = all_weaker (Numbered key (firsts key ls)) (HasClass key ls) (has_class ls) ls (all_there key [] ls)

  module _ (ls : List L) (k : ℕ) (s : L) where
    from : slice_get (firsts key ls) k ≡ Some s → FirstFrom key [] ls k s
    from h = go (first_from key ls [] k s h)
      where
        go : (slice_get [] k ≡ Some s) ⊎ FirstFrom key [] ls k s → FirstFrom key [] ls k s
        go (inl a) = absurd (let z : ◌≡◌ {A = ℕ} 0 1 = cc in omega arith)
        go (inr f) = f

    -- The samples are those of the letters before, the sample, and more.
    samples_are : (f : FirstFrom key [] ls k s) → Grown key (firsts key f.before ++ (s ∷ [])) (firsts key ls)
    unfolding meets
    samples_are f =
        let g = grows key (meet key (firsts key f.before) s) f.behind in
        let one : meet key (firsts key f.before) s ≡ firsts key f.before ++ (s ∷ []) = ap (λ o. joined o (firsts key f.before) s) f.new in
        record { more = g.more; is = ap (firsts key) f.parts ∙ meets_append key [] f.before (s ∷ f.behind) ∙ g.is ∙ ap (λ xs. xs ++ g.more) one }

    -- The class of the sample.
    pub sample_class : slice_get (firsts key ls) k ≡ Some s → number_in (keys_of key ls) (key s) ≡ Some k
    sample_class h =
        let f = from h in
        let g = samples_are f in
        let us = firsts key f.before in
        let keys : keys_of key ls ≡ map key us ++ (key s ∷ map key g.more) = ap (map key) (g.is ∙ append_assoc us (s ∷ []) g.more) ∙ map-append key us (s ∷ g.more) in
        let place : length (map key us) ≡ k = length-map us key ∙ f.as_many in
        ap (λ ks. number_in ks (key s)) keys ∙ at (map key us) (map key g.more) (key s) (not_there (map key us) (key s) f.new) ∙ ap Some place

    other_key : (f : FirstFrom key [] ls k s) (l : L) → Numbered key (firsts key f.before) l → ¬ (key l ≡ key s)
    other_key f l c same =
        let e : ◌≡◌ {A = Option ℕ} None (Some c.class) = sym f.new ∙ ap (number_in (map key (firsts key f.before))) (sym same) ∙ c.is in
        let z : ◌≡◌ {A = ℕ} 0 1 = cc in
        omega arith

    pub first_met : slice_get (firsts key ls) k ≡ Some s → FirstMet key ls k s
    first_met h =
        let f = from h in
        let g = samples_are f in
        let us = firsts key f.before in
        let all : firsts key ls ≡ us ++ (s ∷ g.more) = g.is ∙ append_assoc us (s ∷ []) g.more in
        record {
          before = f.before;
          behind = f.behind;
          parts = f.parts;
          not_before = all_weaker (Numbered key us) (λ l. ¬ (key l ≡ key s)) (other_key f) f.before (all_there key [] f.before);
          classes_before = sym (take-append_seam us (s ∷ g.more)) ∙ ap (λ n. take n (us ++ (s ∷ g.more))) f.as_many ∙ ap (take k) (sym all);
          as_many = f.as_many;
        }

    -- What holds of all letters holds of the sample.
    pub sample_has : (P : L → Type 0) → AllByRecursion P ls → slice_get (firsts key ls) k ≡ Some s → P s
    sample_has P all h =
        let f = from h in
        one_of_all P f.before f.behind s (subst (AllByRecursion P) f.parts all)
