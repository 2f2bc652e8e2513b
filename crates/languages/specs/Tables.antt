-- Tables over classes, and what their rows reach.
--   Table          rows and classes by number, the target of a row and a class, which rows accept
--   Closed t       every target is a row of t
--   led t r cs     the row to which the classes cs lead from row r
--   Reaches t r s  some list of classes leads from row r to row s
-- Assumes nothing.
use Rattle.std.specs.Prelude.{◌≡◌, ℕ, ◌<◌, Bool, List, [], ◌∷◌}
use Rattle.std.specs.List.{AllByRecursion}

pub record Table : Type 0 where
  pub rows : ℕ
  pub classes : ℕ
  pub next : ℕ → ℕ → ℕ
  pub accepts : ℕ → Bool

abbrev pub Closed : Table → Type 0
Closed t = (r c : ℕ) → r < t.rows → c < t.classes → t.next r c < t.rows

abbrev pub led : Table → ℕ → List ℕ → ℕ
led t r [] = r
led t r (c ∷ cs) = led t (t.next r c) cs

abbrev pub Reaches : Table → ℕ → ℕ → Type 0
Reaches t r s = (cs : List ℕ) × AllByRecursion (λ c. c < t.classes) cs × (led t r cs ≡ s)
