-- How a place in a text is shown.
--   in_line b        the byte b is no line feed
--   first_line bs    what stands before the first line feed of bs
--   last_line bs     what stands behind the last one
--   pointed b a      a line that is b and then a, and under it a caret at where a begins
--   excerpt bs p     the line in which the place p stands, escaped, and under it a caret at the place
-- Assumes nothing.
use Rattle.std.specs.Prelude.{ℕ, ◌-◌, Bool, not, List, ◌++◌, length, take, drop, replicate, codes, ◌==◌}
use Rattle.std.specs.List.{prefix_len, suffix_len}
use Rattle.wafulexi.specs.Escapes.{escaped}

abbrev pub in_line : ℕ → Bool
in_line b = not (b == 10)

unfoldable pub first_line : List ℕ → List ℕ
first_line bs = take (prefix_len in_line bs) bs

unfoldable pub last_line : List ℕ → List ℕ
last_line bs = drop (length bs - suffix_len in_line bs) bs

abbrev pub pointed : List ℕ → List ℕ → List ℕ
pointed b a = b ++ (a ++ (codes "\n" ++ (replicate (length b) 32 ++ codes "^")))

abbrev pub excerpt : List ℕ → ℕ → List ℕ
excerpt bs p = pointed (escaped (last_line (take p bs))) (escaped (first_line (drop p bs)))
