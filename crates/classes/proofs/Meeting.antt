-- What meeting letters comes to.
-- Assumes nothing.
use Rattle.std.proofs.Common.{◌≡◌, ℕ, zero, suc, ◌==◌, ◌⊎◌, inl, inr, List, [], ◌∷◌, ◌++◌, length, map, Some, None, Option, append-nil, append_assoc, sym, refl, ap, ◌∙◌, arith}
use Rattle.std.proofs.lemmas.List.{map-append}
use Rattle.std.specs.List.{slice_get, AllByRecursion}
use Rattle.std.specs.Cmp.{unsigned_Decides}
use Rattle.numbering.specs.Finding.{Absent, First}
use Rattle.numbering.proofs.Finding.{first, absent, found_there}
use Rattle.classes.specs.Meeting.{number_in, joined, meet, meets}

-- Lists of keys.
pub there : (ks : List ℕ) (k i : ℕ) → number_in ks k ≡ Some i → First k ks i
there ks k i h = first (λ a b. a == b) (λ a b. unsigned_Decides a b) k ks i h

pub not_there : (ks : List ℕ) (k : ℕ) → number_in ks k ≡ None → Absent k ks
not_there ks k h = absent (λ a b. a == b) (λ a b. unsigned_Decides a b) k ks h

pub at : (us ws : List ℕ) (k : ℕ) → Absent k us → number_in (us ++ (k ∷ ws)) k ≡ Some (length us)
at us ws k h = found_there (λ a b. a == b) (λ a b. unsigned_Decides a b) k us ws h

-- A key that has a number keeps it when more keys come behind.
pub stays : (ks more : List ℕ) (k i : ℕ) → number_in ks k ≡ Some i → number_in (ks ++ more) k ≡ Some i
stays ks more k i h =
    let f = there ks k i h in
    let parts : ks ++ more ≡ f.before ++ (k ∷ (f.behind ++ more)) = ap (λ xs. xs ++ more) f.parts ∙ append_assoc f.before (k ∷ f.behind) more in
    let e : number_in (f.before ++ (k ∷ (f.behind ++ more))) k ≡ Some (length f.before) = at f.before (f.behind ++ more) k f.not_before in
    ap (λ xs. number_in xs k) parts ∙ e ∙ ap Some f.place

-- One thing more: a place has what it had, or it is the last one.
pub last_place : {X : Type 0} (xs : List X) (y : X) (k : ℕ) (s : X) → slice_get (xs ++ (y ∷ [])) k ≡ Some s → (slice_get xs k ≡ Some s) ⊎ ((length xs ≡ k) × (y ≡ s))
last_place [] y zero s h = inr (refl, cc)
last_place [] y (suc k) s h = absurd (let z : ◌≡◌ {A = ℕ} 0 1 = cc in omega arith)
last_place (x ∷ xs) y zero s h = inl h
last_place (x ∷ xs) y (suc k) s h = go (last_place xs y k s h)
  where
    go : (slice_get xs k ≡ Some s) ⊎ ((length xs ≡ k) × (y ≡ s)) → (slice_get (x ∷ xs) (suc k) ≡ Some s) ⊎ ((length (x ∷ xs) ≡ suc k) × (y ≡ s))
    go (inl a) = inl a
    go (inr p) = inr (ap suc p.0, p.1)

-- A letter that follows what was found, for the class of l and behind it.
module _ {L : Type 0} (key : L → ℕ) where
  pub meets_append : (found xs ys : List L) → meets key found (xs ++ ys) ≡ meets key (meets key found xs) ys
  unfolding meets
  meets_append found [] ys = refl
  meets_append found (x ∷ xs) ys = meets_append (meet key found x) xs ys

  -- What was found stays in front.
  pub record Grown (found after : List L) : Type 0 where
    pub more : List L
    pub is : after ≡ found ++ more

  meet_grows : (found : List L) (l : L) → Grown found (meet key found l)
  meet_grows found l = go (number_in (map key found) (key l)) refl
    where
      go : (o : Option ℕ) → number_in (map key found) (key l) ≡ o → Grown found (joined o found l)
      go (Some i) e = record { more = []; is = sym (append-nil found) }
      go None e = record { more = l ∷ []; is = refl }

  pub grows : (found ls : List L) → Grown found (meets key found ls)
  unfolding meets
  grows found [] = record { more = []; is = sym (append-nil found) }
  grows found (l ∷ ls) =
      let one = meet_grows found l in
      let rest = grows (meet key found l) ls in
      record { more = one.more ++ rest.more; is = rest.is ∙ ap (λ xs. xs ++ rest.more) one.is ∙ append_assoc found one.more rest.more }

  -- The class of a letter that was met.
  pub record Numbered (found : List L) (l : L) : Type 0 where
    pub class : ℕ
    pub is : number_in (map key found) (key l) ≡ Some class

  pub met_there : (found : List L) (l : L) → Numbered (meet key found l) l
  met_there found l = go (number_in (map key found) (key l)) refl
    where
      go : (o : Option ℕ) → number_in (map key found) (key l) ≡ o → Numbered (joined o found l) l
      go (Some i) e = record { class = i; is = e }
      go None e =
          let keys : map key (found ++ (l ∷ [])) ≡ map key found ++ (key l ∷ []) = map-append key found (l ∷ []) in
          record { class = length (map key found); is = ap (λ ks. number_in ks (key l)) keys ∙ at (map key found) [] (key l) (not_there (map key found) (key l) e) }

  keeps : (found after : List L) (l : L) → Grown found after → Numbered found l → Numbered after l
  keeps found after l g c =
      let keys : map key after ≡ map key found ++ map key g.more = ap (map key) g.is ∙ map-append key found g.more in
      record { class = c.class; is = ap (λ ks. number_in ks (key l)) keys ∙ stays (map key found) (map key g.more) (key l) c.class c.is }

  pub all_there : (found ls : List L) → AllByRecursion (Numbered (meets key found ls)) ls
  unfolding meets
  all_there found [] = tt
  all_there found (l ∷ ls) = (keeps (meet key found l) (meets key (meet key found l) ls) l (grows (meet key found l) ls) (met_there found l), all_there (meet key found l) ls)

  -- Letters whose key is there already change nothing.
  pub nothing_new : (found ls : List L) (c i : ℕ) → number_in (map key found) c ≡ Some i → AllByRecursion (λ l. key l ≡ c) ls → meets key found ls ≡ found
  unfolding meets
  nothing_new found [] c i h all = refl
  nothing_new found (l ∷ ls) c i h all =
      let e : number_in (map key found) (key l) ≡ Some i = ap (number_in (map key found)) all.0 ∙ h in
      let same : meet key found l ≡ found = ap (λ o. joined o found l) e in
      ap (λ xs. meets key xs ls) same ∙ nothing_new found ls c i h all.1

  -- The sample of a class is the first of its letters.
  pub record FirstFrom (found ls : List L) (k : ℕ) (s : L) : Type 0 where
    pub before : List L
    pub behind : List L
    pub parts : ls ≡ before ++ (s ∷ behind)
    pub new : number_in (map key (meets key found before)) (key s) ≡ None
    pub as_many : length (meets key found before) ≡ k

  one_before : (found ls : List L) (l : L) (k : ℕ) (s : L) → FirstFrom (meet key found l) ls k s → FirstFrom found (l ∷ ls) k s
  unfolding meets
  one_before found ls l k s f = record { before = l ∷ f.before; behind = f.behind; parts = ap (λ xs. l ∷ xs) f.parts; new = f.new; as_many = f.as_many }

  -- In what one letter more leaves, a place has what it had, or it is the last one.
  met_place : (found : List L) (l : L) (k : ℕ) (s : L) → slice_get (meet key found l) k ≡ Some s → (slice_get found k ≡ Some s) ⊎ ((number_in (map key found) (key l) ≡ None) × (length found ≡ k) × (l ≡ s))
  met_place found l k s h = go (number_in (map key found) (key l)) refl h
    where
      go : (o : Option ℕ) → number_in (map key found) (key l) ≡ o → slice_get (joined o found l) k ≡ Some s → (slice_get found k ≡ Some s) ⊎ ((number_in (map key found) (key l) ≡ None) × (length found ≡ k) × (l ≡ s))
      go (Some i) e h = inl h
      go None e h = elim (last_place found l k s h) [ inl a ↦ inl a | inr b ↦ inr (e, b.0, b.1) ]

  pub first_from : (ls found : List L) (k : ℕ) (s : L) → slice_get (meets key found ls) k ≡ Some s → (slice_get found k ≡ Some s) ⊎ FirstFrom found ls k s
  unfolding meets
  first_from [] found k s h = inl h
  first_from (l ∷ ls) found k s h = go (first_from ls (meet key found l) k s h)
    where
      new : (number_in (map key found) (key l) ≡ None) × (length found ≡ k) × (l ≡ s) → FirstFrom found (l ∷ ls) k s
      new p = record { before = []; behind = ls; parts = ap (λ x. x ∷ ls) p.2; new = ap (λ x. number_in (map key found) (key x)) (sym p.2) ∙ p.0; as_many = p.1 }

      old : (slice_get found k ≡ Some s) ⊎ ((number_in (map key found) (key l) ≡ None) × (length found ≡ k) × (l ≡ s)) → (slice_get found k ≡ Some s) ⊎ FirstFrom found (l ∷ ls) k s
      old (inl a) = inl a
      old (inr p) = inr (new p)

      go : (slice_get (meet key found l) k ≡ Some s) ⊎ FirstFrom (meet key found l) ls k s → (slice_get found k ≡ Some s) ⊎ FirstFrom found (l ∷ ls) k s
      go (inl a) = old (met_place found l k s a)
      go (inr f) = inr (one_before found ls l k s f)
