-- Answer sets.
--   answers_of admitting atoms l   the answer set of the letter l: bit 0 says whether the first of the atoms admits it, and
--                                  the bits behind it say so of the others
--   Admitted admitting atoms l k   there is an atom with the number k, and it admits l
-- Assumes nothing.
use Rattle.std.specs.Prelude.{◌≡◌, ℕ, ◌+◌, ◌*◌, Bool, true, cond, List, [], ◌∷◌, Some}
use Rattle.std.specs.List.{slice_get}

unfoldable pub answers_of : {A L : Type 0} → (A → L → Bool) → List A → L → ℕ
answers_of admitting [] l = 0
answers_of admitting (a ∷ atoms) l = cond (admitting a l) 1 0 + 2 * answers_of admitting atoms l

abbrev pub Admitted : {A L : Type 0} → (A → L → Bool) → List A → L → ℕ → Type 0
Admitted {A} admitting atoms l k = (a : A) × (slice_get atoms k ≡ Some a) × (admitting a l ≡ true)
