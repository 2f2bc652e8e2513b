-- The lines that `inspect` prints. Below, b is the list of a step file's bytes.
--   heading b n       what the header says, and the file's whole length n
--   targets b r c     a blank and the target, for each class below c
--   row_head b r      row r: its number and its mark byte, which in a step file is a mark's number
--   row_line b r      all of row r: its number, its mark and its targets
-- Assumes nothing.
use Rattle.std.specs.Prelude.{ℕ, zero, suc, List, [], ◌++◌, length, codes, decimal}
use Rattle.stepfiles.specs.Layout.{byte_at, word_at, kind_in, rows_in, classes_in, text_in, row_at, target_at}

abbrev pub heading : List ℕ → ℕ → List ℕ
heading b n =
    codes "kind " ++ (decimal (kind_in b)
    ++ (codes " rows " ++ (decimal (rows_in b)
    ++ (codes " classes " ++ (decimal (classes_in b)
    ++ (codes " text " ++ (decimal (length (text_in b))
    ++ (codes " length " ++ decimal n))))))))

unfoldable pub targets : List ℕ → ℕ → ℕ → List ℕ
targets b r zero = []
targets b r (suc c) = targets b r c ++ (codes " " ++ decimal (word_at b (target_at b r c)))

abbrev pub row_head : List ℕ → ℕ → List ℕ
row_head b r = decimal r ++ (codes " " ++ decimal (byte_at b (row_at b r)))

abbrev pub row_line : List ℕ → ℕ → List ℕ
row_line b r = row_head b r ++ targets b r (classes_in b)
