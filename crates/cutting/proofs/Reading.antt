-- Reading atoms in turn.
-- Assumes nothing.
use Rattle.std.proofs.Common.{◌≡◌, ℕ, zero, suc, ◌+◌, ◌-◌, ◌<◌, ◌≤◌, Bool, true, ltb, ◌⊎◌, List, [], ◌∷◌, ◌++◌, length, take, set, inl, inr, length-append, Some, None, Ok, Err, Option, Result, add-one, sym, refl, ap, ◌∙◌, subst, arith}
use Rattle.std.specs.List.{slice_get}
use Rattle.std.proofs.lemmas.Bool.{cond_both, ltb-true}
use Rattle.std.proofs.lemmas.List.{take_more_set}
use Rattle.refusals.specs.declared.Refusal.{Refusal}
use Rattle.surveys.specs.declared.entry.Entry.{Entry}
use Rattle.surveys.specs.Entries.{text_at}
use Rattle.cutting.specs.Reading.{atom_of, atoms_of, formed, inside, lying, spelled, then_atom, IsAtom, AreAtoms, MeansAtoms}

module _ {A : Type 0} (read_as : List ℕ → Option A) (ordered : A → Bool) (text : List ℕ) (es : List Entry) where
  abbrev atom : ℕ → Result A Refusal
  atom k = atom_of read_as ordered text es k

  abbrev atoms : ℕ → Result (List A) Refusal
  atoms n = atoms_of read_as ordered text es n

  abbrev Is : ℕ → A → Type 0
  Is k a = IsAtom read_as ordered text es k a

  -- What atom_of gives is the atom.
  from_formed : (k : ℕ) (a : A) (e : Entry) (o : Option A) → k < 32 → slice_get es k ≡ Some e → e.place + e.length ≤ length text → read_as (text_at text e) ≡ o → formed ordered e.place o ≡ Ok a → Is k a
  from_formed k a e None few at lies spells h = cc
  from_formed k a e (Some b) few at lies spells h =
      cond_both (ordered b) (Ok b) (Err _) (λ (r : Result A Refusal). r ≡ Ok a → Is k a)
      (λ t is. let same : b ≡ a = cc in record { few = few; entry = e; listed = at; lies = lies; spells = spells ∙ ap Some same; in_order = subst (λ (z : A). ordered z ≡ true) same t })
      (λ f is. cc)
      h

  from_entry : (k : ℕ) (a : A) (o : Option Entry) → slice_get es k ≡ o → k < 32 → spelled read_as ordered text k (lying text o) ≡ Ok a → Is k a
  from_entry k a None at few h = cc
  from_entry k a (Some e) at few h =
      cond_both (inside text e) (Some e) None (λ (o : Option Entry). spelled read_as ordered text k o ≡ Ok a → Is k a)
      (λ t is. from_formed k a e (read_as (text_at text e)) few at (grind arith) refl is)
      (λ f is. cc)
      h

  is_atom : (k : ℕ) (a : A) → atom k ≡ Ok a → Is k a
  is_atom k a h =
      cond_both (ltb k 32) (lying text (slice_get es k)) None (λ (o : Option Entry). spelled read_as ordered text k o ≡ Ok a → Is k a)
      (λ t is. from_entry k a (slice_get es k) refl (ltb-true k 32 t) is)
      (λ f is. cc)
      h

  -- One more, and none more.
  one_more : (k : ℕ) (before : List A) (a : A) → atoms k ≡ Ok before → atom k ≡ Ok a → atoms (suc k) ≡ Ok (before ++ (a ∷ []))
  unfolding atoms_of
  one_more k before a b h = rw (b, h) refl

  pub atoms_more : (k : ℕ) (xs : List A) (a : A) → length xs ≡ 32 → atoms k ≡ Ok (take k xs) → atom k ≡ Ok a → atoms (k + 1) ≡ Ok (take (k + 1) (set xs k a))
  atoms_more k xs a long b h =
      let few = (is_atom k a h).few in
      let l : k < length xs = omega arith in
      rw (take_more_set xs k a l) (ap atoms (add-one k) ∙ one_more k (take k xs) a b h)

  none_more : (k : ℕ) (r : Refusal) → atoms k ≡ Err r → atoms (suc k) ≡ Err r
  unfolding atoms_of
  none_more k r h = rw h refl

  none_later : (d k n : ℕ) (r : Refusal) → n ≡ k + d → atoms k ≡ Err r → atoms n ≡ Err r
  none_later zero k n r e h = let same : n ≡ k = omega arith in rw same h
  none_later (suc d) k n r e h = none_later d (suc k) n r (omega arith) (none_more k r h)

  stops_here : (k : ℕ) (before : List A) (r : Refusal) → atoms k ≡ Ok before → atom k ≡ Err r → atoms (suc k) ≡ Err r
  unfolding atoms_of
  stops_here k before r b h = rw (b, h) refl

  pub atoms_refused : (n k : ℕ) (before : List A) (r : Refusal) → k < n → atoms k ≡ Ok before → atom k ≡ Err r → atoms n ≡ Err r
  atoms_refused n k before r l b h = none_later (n - suc k) (suc k) n r (omega arith) (stops_here k before r b h)

  -- What the answers mean.
  last_or_before : (xs : List A) (z a : A) (k : ℕ) → slice_get (xs ++ (z ∷ [])) k ≡ Some a → (slice_get xs k ≡ Some a) ⊎ ((k ≡ length xs) × (z ≡ a))
  last_or_before [] z a zero h = inr (refl, cc)
  last_or_before [] z a (suc k) h = cc
  last_or_before (x ∷ xs) z a zero h = inl h
  last_or_before (x ∷ xs) z a (suc k) h =
      elim (last_or_before xs z a k h) [ inl e ↦ inl e | inr e ↦ inr (ap suc e.0, e.1) ]

  are_more : (k : ℕ) (xs : List A) (a : A) → AreAtoms read_as ordered text es k xs → Is k a → AreAtoms read_as ordered text es (suc k) (xs ++ (a ∷ []))
  are_more k xs a are is =
      record {
        few = let few = is.few in omega arith;
        many = length-append xs (a ∷ []) ∙ (let many = are.many in omega arith);
        each = λ j b at. elim (last_or_before xs a b j at) [ inl e ↦ are.each j b e | inr e ↦ (let p : j ≡ k = e.0 ∙ are.many in subst (λ (i : ℕ). Is i b) (sym p) (subst (λ (z : A). Is k z) e.1 is)) ];
      }

  abbrev MeansFor : ℕ → Result (List A) Refusal → Type 0
  MeansFor n o = MeansAtoms read_as ordered text es n o

  means_more : (k : ℕ) (o : Result (List A) Refusal) (p : Result A Refusal) → MeansFor k o → atom k ≡ p → MeansFor (suc k) (then_atom o p)
  means_more k (Err r) p m h = record { number = m.number; below = (let b = m.below in omega arith); atoms = m.atoms; before = m.before; refused = m.refused }
  means_more k (Ok xs) (Err r) m h = record { number = k; below = omega arith; atoms = xs; before = m; refused = h }
  means_more k (Ok xs) (Ok a) m h = are_more k xs a m (is_atom k a h)

  means_all : (n : ℕ) → MeansFor n (atoms n)
  unfolding atoms_of
  means_all zero = record { few = omega arith; many = refl; each = λ k a h. absurd (cc) }
  means_all (suc k) = means_more k (atoms k) (atom k) (means_all k) refl

  pub atoms_mean : (n : ℕ) (o : Result (List A) Refusal) → o ≡ atoms n → MeansAtoms read_as ordered text es n o
  atoms_mean n o e = subst (λ (r : Result (List A) Refusal). MeansFor n r) (sym e) (means_all n)
