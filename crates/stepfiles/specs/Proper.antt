-- What a step file is, in words that do not follow open's steps. Below, b is the list of its bytes.
--   RightHeader b        every field of the header is in its range, and b are just the bytes that it speaks of
--   IsMarkOf b r n       n is the number of the mark that reachability gives row r
--   StepFileBytes b      b is a step file
--   MarksStand b xs      xs begins with the numbers of the marks that reachability gives, row by row
--   CameToMarks r        open, which answered r, came as far as working out the marks
--   Means b s v r v' s'  what open's answer r means
--   MarkThere b r o      o, a view's answer about row r, is its mark if there is such a row
--   TargetThere b r c o  o, a view's answer about row r and class c, is a row if there are such a row and such a class
-- Assumes nothing.
use Rattle.std.specs.Prelude.{◌≡◌, ℕ, ◌+◌, ◌*◌, ◌<◌, ◌≤◌, List, length, is_ok, Some, Decides, Option, Result, IfErr, MatchResult, slice_index}
use Rattle.languages.specs.declared.marks.Mark.{Mark}
use Rattle.languages.specs.Tables.{Closed}
use Rattle.languages.specs.Marks.{number, Stands}
use Rattle.refusals.specs.declared.Question.TheVariants.{MarkWorkedOut}
use Rattle.refusals.specs.declared.Refusal.{Refusal}
use Rattle.stepfiles.specs.Layout.{byte_at, length_in, version_in, kind_in, rows_in, classes_in, text_length_in, table_at, row_at, table_in}

pub record RightHeader (b : List ℕ) : Type 0 where
  pub long : 11 ≤ length b
  pub length_true : length_in b ≡ length b
  pub version : version_in b ≡ 1
  pub kind : (1 ≤ kind_in b) × (kind_in b ≤ 2)
  pub rows : (1 ≤ rows_in b) × (rows_in b ≤ 1024)
  pub classes : 1 ≤ classes_in b
  pub text : (1 ≤ text_length_in b) × (text_length_in b ≤ 4096)
  pub whole : length b ≡ table_at b + rows_in b * (1 + 2 * classes_in b)

abbrev pub IsMarkOf : List ℕ → ℕ → ℕ → Type 0
IsMarkOf b r n = (m : Mark) × (n ≡ number m) × Stands (table_in b) r m

-- its header is right, its targets are rows, and every mark says what its row reaches
pub record StepFileBytes (b : List ℕ) : Type 0 where
  pub header : RightHeader b
  pub targets : Closed (table_in b)
  pub marks : (r : ℕ) → r < rows_in b → IsMarkOf b r (byte_at b (row_at b r))

abbrev pub MarksStand : List ℕ → List ℕ → Type 0
MarksStand b xs = (r : ℕ) → r < rows_in b → IsMarkOf b r (slice_index xs r)

-- it succeeded, or a mark was not the one worked out
abbrev pub CameToMarks : Result (Unit {0}) Refusal → Type 0
CameToMarks r = IfErr r (λ f. f.question ≡ MarkWorkedOut)

-- s is the scratch before and s' after; the place viewed v before and v' after
pub record Means (b s v : List ℕ) (r : Result (Unit {0}) Refusal) (v' s' : List ℕ) : Type 0 where
  -- it succeeds exactly for a step file and a scratch that is long enough,
  pub succeeds : Decides (is_ok r) (StepFileBytes b × (rows_in b ≤ length s))
  -- the place then views those bytes, and otherwise what it viewed before,
  pub views : MatchResult r (λ _. v' ≡ b) (λ _. v' ≡ v)
  -- and where the marks were worked out, the scratch has those that reachability gives
  pub marks : CameToMarks r → MarksStand b s'

abbrev pub MarkThere : List ℕ → ℕ → Option Mark → Type 0
MarkThere b r o = r < rows_in b → (m : Mark) × (o ≡ Some m) × (byte_at b (row_at b r) ≡ number m) × Stands (table_in b) r m

abbrev pub TargetThere : List ℕ → ℕ → ℕ → Option ℕ → Type 0
TargetThere b r c o = r < rows_in b → c < classes_in b → (s : ℕ) × (o ≡ Some s) × (s < rows_in b)
