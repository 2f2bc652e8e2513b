-- What open asks, in its order, and what it leaves.
--   first_below f n  the first thing that f finds at a number below n
--   header b         the questions about the header, each with its answer
--   bad_target b     the place of the first target that is no row: bad_target_of one row and class, bad_target_in one row
--   bad_mark b ms    the place of the first mark that is not the one in ms: bad_mark_of one row
--   worked_in b      the numbers of the marks worked out from bit 0 of all marks
--   Out              open's answer, what its place views afterwards, and its scratch afterwards
--   opened b s v     what open of b comes to, where s is the scratch before, and v what the place viewed before.
--                    after_header, after_targets and after_marks are its steps, each given what the step found
--   step_file b      open of b is refused for no reason but a short scratch
-- Assumes nothing.
use Rattle.std.specs.Option.{option_or}
use Rattle.std.specs.Prelude.{ℕ, zero, suc, ◌+◌, ◌*◌, Bool, cond, not, ◌&&◌, List, [], ◌∷◌, ◌++◌, map, length, drop, is_some, Some, None, Ok, Err, Option, Result, ◌==◌, nat_le, nat_lt, slice_index}
use Rattle.languages.specs.Marks.{number, worked}
use Rattle.refusals.specs.Questions.{refusing, first_no}
use Rattle.refusals.specs.declared.Question.TheVariants.{FileLength, FileVersion, FileFields, TableLength, ScratchRoom, TargetInTable, MarkWorkedOut}
use Rattle.refusals.specs.declared.Refusal.{Refusal}
use Rattle.stepfiles.specs.Layout.{byte_at, word_at, length_in, version_in, kind_in, rows_in, classes_in, text_length_in, table_at, row_at, target_at, table_in}

unfoldable pub first_below : {X : Type 0} → (ℕ → Option X) → ℕ → Option X
first_below f zero = None
first_below f (suc n) = option_or (first_below f n) (f n)

abbrev pub header : List ℕ → List (Bool × Refusal)
header b =
    (nat_le 11 (length b), refusing FileLength 0)
    ∷ ((length_in b == length b), refusing FileLength 0)
    ∷ ((version_in b == 1), refusing FileVersion 4)
    ∷ (nat_le 1 (kind_in b) && nat_le (kind_in b) 2, refusing FileFields 5)
    ∷ (nat_le 1 (rows_in b) && nat_le (rows_in b) 1024, refusing FileFields 6)
    ∷ (nat_le 1 (classes_in b), refusing FileFields 8)
    ∷ (nat_le 1 (text_length_in b) && nat_le (text_length_in b) 4096, refusing FileFields 9)
    ∷ ((length b == table_at b + rows_in b * (1 + 2 * classes_in b)), refusing TableLength 6)
    ∷ []

abbrev pub bad_target_of : List ℕ → ℕ → ℕ → Option ℕ
bad_target_of b r c = cond (nat_lt (word_at b (target_at b r c)) (rows_in b)) None (Some (target_at b r c))

abbrev pub bad_target_in : List ℕ → ℕ → Option ℕ
bad_target_in b r = first_below (bad_target_of b r) (classes_in b)

abbrev pub bad_target : List ℕ → Option ℕ
bad_target b = first_below (bad_target_in b) (rows_in b)

abbrev pub bad_mark_of : List ℕ → List ℕ → ℕ → Option ℕ
bad_mark_of b ms r = cond (byte_at b (row_at b r) == slice_index ms r) None (Some (row_at b r))

abbrev pub bad_mark : List ℕ → List ℕ → Option ℕ
bad_mark b ms = first_below (bad_mark_of b ms) (rows_in b)

unfoldable pub worked_in : List ℕ → List ℕ
worked_in b = map number (worked (table_in b))

abbrev pub Out : Type 0
Out = Result (Unit {0}) Refusal × List ℕ × List ℕ

abbrev pub after_marks : List ℕ → List ℕ → List ℕ → Option ℕ → Out
after_marks b s v (Some p) = (Err (refusing MarkWorkedOut p), v, worked_in b ++ drop (rows_in b) s)
after_marks b s v None = (Ok tt, b, worked_in b ++ drop (rows_in b) s)

abbrev pub after_targets : List ℕ → List ℕ → List ℕ → Option ℕ → Out
after_targets b s v (Some p) = (Err (refusing TargetInTable p), v, s)
after_targets b s v None = after_marks b s v (bad_mark b (worked_in b))

abbrev pub after_header : List ℕ → List ℕ → List ℕ → Option Refusal → Out
after_header b s v (Some f) = (Err f, v, s)
after_header b s v None = cond (nat_le (rows_in b) (length s)) (after_targets b s v (bad_target b)) (Err (refusing ScratchRoom 0), v, s)

abbrev pub opened : List ℕ → List ℕ → List ℕ → Out
opened b s v = after_header b s v (first_no (header b))

unfoldable pub step_file : List ℕ → Bool
step_file b = not (is_some (first_no (header b))) && (not (is_some (bad_target b)) && not (is_some (bad_mark b (worked_in b))))
