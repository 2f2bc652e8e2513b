-- Numbers in a row.
--   rising p n     n numbers, from p on
-- Assumes nothing.
use Rattle.std.specs.Prelude.{ℕ, List}
use Rattle.std.specs.List.{range_with_len}

unfoldable pub rising : ℕ → ℕ → List ℕ
rising p n = range_with_len p n
