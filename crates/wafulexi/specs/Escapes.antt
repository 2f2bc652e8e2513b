-- Bytes as text that prints.
--   escape b    what one byte is written as: itself if it prints, or \x and its two hexadecimal digits
--   escaped bs  what bytes are written as
-- Assumes nothing.
use Rattle.std.specs.Prelude.{ℕ, ◌/◌, ◌%◌, cond, List, [], ◌∷◌, ◌++◌, codes}
use Rattle.std.specs.Char.{digit_char}
use Rattle.wording.specs.Wording.{prints}

abbrev pub escape : ℕ → List ℕ
escape b = cond (prints b) (b ∷ []) (codes "\\x" ++ digit_char (b / 16) ∷ digit_char (b % 16) ∷ [])

unfoldable pub escaped : List ℕ → List ℕ
escaped [] = []
escaped (b ∷ bs) = escape b ++ escaped bs
