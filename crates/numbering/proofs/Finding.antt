-- What is found, and what is absent.
-- Assumes nothing.
use Rattle.std.proofs.Common.{◌≡◌, ℕ, zero, suc, ◌+◌, ◌<◌, Bool, true, false, List, [], ◌∷◌, ◌++◌, length, take, Some, None, Decides, Option, sym, refl, ap, ◌∙◌, arith}
use Rattle.std.proofs.lemmas.Bool.Decides.{not_from_Decides}
use Rattle.std.proofs.lemmas.Iterator.Adapters.{position_from-zero}
use Rattle.std.specs.List.{slice_get, position_from}
use Rattle.numbering.specs.Finding.{first_equal, Absent, First}

pub nth_take : {T : Type 0} (xs : List T) (n i : ℕ) → i < n → slice_get (take n xs) i ≡ slice_get xs i
nth_take [] zero i h = refl
nth_take [] (suc n) i h = refl
nth_take (x ∷ xs) zero i h = absurd (omega arith)
nth_take (x ∷ xs) (suc n) zero h = refl
nth_take (x ∷ xs) (suc n) (suc i) h = nth_take xs n i (omega arith)

-- A first place, counted from k.
record FirstFrom {T : Type 0} (k : ℕ) (x : T) (xs : List T) (i : ℕ) : Type 0 where
  pub before : List T
  pub behind : List T
  pub parts : xs ≡ before ++ (x ∷ behind)
  pub place : k + length before ≡ i
  pub not_before : Absent x before

module _ {T : Type 0} (eq : T → T → Bool) (exact : (x y : T) → Decides (eq x y) (x ≡ y)) (x : T) where
  abbrev from : ℕ → List T → Option ℕ
  from k xs = position_from (λ y. eq y x) k xs

  from_zero : (xs : List T) → first_equal eq xs x ≡ from 0 xs
  from_zero xs = position_from-zero (λ y. eq y x) xs

  first-from : (xs : List T) (k i : ℕ) → from k xs ≡ Some i → FirstFrom k x xs i
  first-from [] k i e = absurd (let z : ◌≡◌ {A = ℕ} 0 1 = cc in omega arith)
  first-from (y ∷ ys) k i e = go (eq y x) refl (first-from ys (k + 1) i)
    where
      go : (b : Bool) → eq y x ≡ b → (from (k + 1) ys ≡ Some i → FirstFrom (k + 1) x ys i) → FirstFrom k x (y ∷ ys) i
      go true yes-same later =
          let at : ◌≡◌ {A = Option ℕ} (Some k) (Some i) = rw yes-same at e in
          let same : k ≡ i = cc in
          record { before = []; behind = ys; parts = ap (λ z. z ∷ ys) ((exact y x).0 yes-same); place = omega arith; not_before = tt }
      go false differs later =
          let f = later (rw differs at e) in
          record {
            before = y ∷ f.before;
            behind = f.behind;
            parts = ap (λ zs. y ∷ zs) f.parts;
            place = omega (arith, f.place);
            not_before = (not_from_Decides (eq y x) (exact y x) differs, f.not_before);
          }

  pub first : (xs : List T) (i : ℕ) → first_equal eq xs x ≡ Some i → First x xs i
  first xs i e =
      let f = first-from xs 0 i (sym (from_zero xs) ∙ e) in
      record { before = f.before; behind = f.behind; parts = f.parts; place = omega (arith, f.place); not_before = f.not_before }

  absent-from : (xs : List T) (k : ℕ) → from k xs ≡ None → Absent x xs
  absent-from [] k e = tt
  absent-from (y ∷ ys) k e = go (eq y x) refl (absent-from ys (k + 1))
    where
      go : (b : Bool) → eq y x ≡ b → (from (k + 1) ys ≡ None → Absent x ys) → Absent x (y ∷ ys)
      go true yes-same later =
          let at : ◌≡◌ {A = Option ℕ} (Some k) None = rw yes-same at e in
          absurd (let z : ◌≡◌ {A = ℕ} 0 1 = cc in omega arith)
      go false differs later = (not_from_Decides (eq y x) (exact y x) differs, later (rw differs at e))

  pub absent : (xs : List T) → first_equal eq xs x ≡ None → Absent x xs
  absent xs e = absent-from xs 0 (sym (from_zero xs) ∙ e)

  -- What is absent is passed over, and what stands there is found.
  differs : (y : T) → ¬ (y ≡ x) → eq y x ≡ false
  differs y h = go (eq y x) refl
    where
      go : (b : Bool) → eq y x ≡ b → eq y x ≡ false
      go true e = absurd (h ((exact y x).0 e))
      go false e = e

  there-from : (us ws : List T) (k : ℕ) → Absent x us → from k (us ++ (x ∷ ws)) ≡ Some (k + length us)
  there-from [] ws k h = let e : k ≡ k + 0 = omega arith in rw ((exact x x).1 refl) (ap Some e)
  there-from (y ∷ us) ws k h =
      let e : k + 1 + length us ≡ k + suc (length us) = omega arith in
      rw (differs y h.0) (there-from us ws (k + 1) h.1 ∙ ap Some e)

  pub found_there : (us ws : List T) → Absent x us → first_equal eq (us ++ (x ∷ ws)) x ≡ Some (length us)
  found_there us ws h =
      let e : 0 + length us ≡ length us = omega arith in
      from_zero (us ++ (x ∷ ws)) ∙ there-from us ws 0 h ∙ ap Some e
