-- What `first_below` finds. Assumes nothing.
use Rattle.std.proofs.Common.{◌≡◌, ℕ, zero, suc, ◌+◌, ◌<◌, true, false, is_some, Some, None, Option, refl, inl, inr, add-one, arith}
use Rattle.std.proofs.lemmas.Bool.{cases_eq}
use Rattle.std.specs.Option.{option_map, option_or}
use Rattle.stepfiles.specs.Opening.{first_below}

pub is_none : {X : Type 0} (o : Option X) → is_some o ≡ false → o ≡ None
is_none (Some x) e = cc
is_none None e = refl

pub none_mapped : {X Y : Type 0} (f : X → Y) (o : Option X) → option_map f o ≡ None → o ≡ None
none_mapped f (Some x) e = cc
none_mapped f None e = refl

either_first : {X : Type 0} (o p : Option X) → is_some o ≡ true → option_or o p ≡ o
either_first (Some x) p e = refl
either_first None p e = cc

both_none : {X : Type 0} (o p : Option X) → option_or o p ≡ None → (o ≡ None) × (p ≡ None)
both_none (Some x) p e = (e, cc)
both_none None p e = (refl, e)

module _ {X : Type 0} (f : ℕ → Option X) where
  pub none_none : first_below f 0 ≡ None
  unfolding first_below
  none_none = refl

  pub none_more : (i : ℕ) → first_below f i ≡ None → f i ≡ None → first_below f (i + 1) ≡ None
  unfolding first_below
  none_more i before here = rw (add-one, before) here

  -- what is found first is what is found below any higher number
  pub found : (n i : ℕ) → i < n → first_below f i ≡ None → is_some (f i) ≡ true → first_below f n ≡ f i
  unfolding first_below
  found zero i within before here = absurd (omega arith)
  found (suc n) i within before here = elim (cases_eq i n) [
    | inl same ↦ let at : first_below f n ≡ None = rw same at before in rw (at, same)
    | inr other ↦ rw (found n i (omega arith) before here) (either_first (f i) (f n) here)
  ]

  -- where nothing is found, there is nothing at any number
  pub nowhere : (n : ℕ) → first_below f n ≡ None → (i : ℕ) → i < n → f i ≡ None
  unfolding first_below
  nowhere zero none i within = absurd (omega arith)
  nowhere (suc n) none i within =
      let parts = both_none (first_below f n) (f n) none in
      elim (cases_eq i n) [ inl same ↦ rw same parts.1 | inr other ↦ nowhere n parts.0 i (omega arith) ]

  pub nothing : (n : ℕ) → ((i : ℕ) → i < n → f i ≡ None) → first_below f n ≡ None
  unfolding first_below
  nothing zero each = refl
  nothing (suc n) each = rw (nothing n (λ i h. each i (omega arith))) (each n (omega arith))
