-- What a view of a step file shows.
--   viewed f         the bytes that f views
--   mark_in b r      the mark of row r, if there is such a row
--   successor b r c   the target of row r by class c, if there are such a row and such a class
--   built_in         the file of the rule `0`: one row, one class, lost
-- Assumes nothing.
use Rattle.std.specs.Prelude.{ℕ, cond, ◌&&◌, List, [], ◌∷◌, Some, None, Option, nat_lt}
use Rattle.languages.specs.declared.marks.Mark.{Mark}
use Rattle.stepfiles.specs.declared.file.StepFile.{StepFile}
use Rattle.stepfiles.specs.Layout.{byte_at, word_at, rows_in, classes_in, row_at, target_at}
use Rattle.stepfiles.specs.Coding.{decoded}

abbrev pub viewed : StepFile → List ℕ
viewed f = f.table.bytes.now

abbrev pub mark_in : List ℕ → ℕ → Option Mark
mark_in b r = cond (nat_lt r (rows_in b)) (Some (decoded (byte_at b (row_at b r)))) None

abbrev pub successor : List ℕ → ℕ → ℕ → Option ℕ
successor b r c = cond (nat_lt r (rows_in b) && nat_lt c (classes_in b)) (Some (word_at b (target_at b r c))) None

abbrev pub built_in : List ℕ
built_in = 0 ∷ 0 ∷ 0 ∷ 15 ∷ 1 ∷ 1 ∷ 0 ∷ 1 ∷ 1 ∷ 0 ∷ 1 ∷ 48 ∷ 4 ∷ 0 ∷ 0 ∷ []
