-- Finding a thing in a list by a test of sameness.
--   first_equal eq xs x    the place of the first of xs that eq says is x
--   Absent x xs            none of xs is x
--   First x xs i           x stands at place i of xs, and not before
-- Assumes nothing.
use Rattle.std.specs.Prelude.{◌≡◌, ℕ, Bool, List, ◌∷◌, ◌++◌, length, Option, position}
use Rattle.std.specs.List.{AllByRecursion}

abbrev pub first_equal : {T : Type 0} → (T → T → Bool) → List T → T → Option ℕ
first_equal eq xs x = position (λ y. eq y x) xs

abbrev pub Absent : {T : Type 0} → T → List T → Type 0
Absent x xs = AllByRecursion (λ y. ¬ (y ≡ x)) xs

pub record First {T : Type 0} (x : T) (xs : List T) (i : ℕ) : Type 0 where
  pub before : List T
  pub behind : List T
  pub parts : xs ≡ before ++ (x ∷ behind)
  pub place : length before ≡ i
  pub not_before : Absent x before
