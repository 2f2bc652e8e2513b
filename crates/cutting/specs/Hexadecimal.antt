-- Numbers in lower-case hexadecimal digits.
--   digit_of b           the number of the digit b: 0 to 9, or a to f
--   read_on n ds         the number that the digits ds spell behind those of the number n
--   hexadecimal_of ds    the number that one to four digits spell
-- Assumes nothing.
use Rattle.std.specs.Prelude.{ℕ, ◌+◌, ◌-◌, ◌*◌, ◌&&◌, cond, List, [], ◌∷◌, length, Option, Some, None, nat_le}

abbrev pub digit_of : ℕ → Option ℕ
digit_of b = cond (nat_le 48 b && nat_le b 57) (Some (b - 48)) (cond (nat_le 97 b && nat_le b 102) (Some (b - 97 + 10)) None)

unfoldable pub read_on : ℕ → List ℕ → Option ℕ
read_on n [] = Some n
read_on n (d ∷ ds) = elim (digit_of d) [ None ↦ None | Some v ↦ read_on (n * 16 + v) ds ]

abbrev pub hexadecimal_of : List ℕ → Option ℕ
hexadecimal_of ds = cond (nat_le 1 (length ds) && nat_le (length ds) 4) (read_on 0 ds) None
