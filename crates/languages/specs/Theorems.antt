-- What is proved of tables and marks.
--   WorkedOut t             the marks worked out for t are those that reachability gives; more passes change none
--   MarksSayWhatIsReached   that is so of every table whose targets are all rows
-- Assumes nothing.
use Rattle.std.specs.Prelude.{◌≡◌, ℕ, ◌<◌, ◌≤◌, length, slice_index_or}
use Rattle.languages.specs.declared.marks.Mark.{Mark}
use Rattle.languages.specs.declared.marks.Mark.TheVariants.{Lost}
use Rattle.languages.specs.Tables.{Table, Closed}
use Rattle.languages.specs.Marks.{Stands, passes, begun, worked}

-- The marks worked out for a table whose targets are all rows:
pub record WorkedOut (t : Table) : Type 0 where
  -- there is one for each row,
  pub whole : length (worked t) ≡ t.rows
  -- it is the one that reachability gives,
  pub stands : (r : ℕ) → r < t.rows → Stands t r (slice_index_or (worked t) r Lost)
  -- no other stands for that row,
  pub alone : (r : ℕ) (m : Mark) → r < t.rows → Stands t r m → m ≡ slice_index_or (worked t) r Lost
  -- and passing on, after as many passes as there are rows, changes nothing.
  pub enough : (n : ℕ) → t.rows ≤ n → passes t n (begun t) ≡ worked t

abbrev pub MarksSayWhatIsReached : Type 0
MarksSayWhatIsReached = (t : Table) → Closed t → WorkedOut t
