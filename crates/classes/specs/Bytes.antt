-- Bytes as letters.
--   all_bytes    the bytes, from 0 up
-- Assumes nothing.
use Rattle.std.specs.Prelude.{ℕ, List}
use Rattle.classes.specs.Rising.{rising}

unfoldable pub all_bytes : List ℕ
all_bytes = rising 0 256
