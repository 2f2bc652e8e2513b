-- Marks as bytes, and the tables whose rows have them.
--   table_of t    the rows, classes and targets of a table whose targets are all rows, and which rows accept
--   decoded n     the mark whose number is n; lost where there is none
--   marks_in xs   the marks whose numbers are xs
--   Coded xs      each of xs is the number of a mark
--   MarksOf t xs  xs are numbers of marks, one for each row of the table t
-- Assumes nothing.
use Rattle.std.specs.Prelude.{◌≡◌, ℕ, cond, List, map, length, ◌==◌}
use Rattle.languages.specs.declared.marks.Mark.{Mark}
use Rattle.languages.specs.declared.marks.Mark.TheVariants.{Settled, Holds, Open, Lost}
use Rattle.languages.specs.Tables.{Table}
use Rattle.languages.specs.Marks.{number}
use Rattle.stepfiles.specs.declared.targets.ClosedTable.{ClosedTable}
use Rattle.stepfiles.specs.Layout.{table_in}

abbrev pub table_of : ClosedTable → Table
table_of t = table_in t.table.bytes.now

abbrev pub decoded : ℕ → Mark
decoded n = cond (n == 3) Settled (cond (n == 7) Holds (cond (n == 6) Open Lost))

unfoldable pub marks_in : List ℕ → List Mark
marks_in xs = map decoded xs

abbrev pub Coded : List ℕ → Type 0
Coded xs = xs ≡ map number (marks_in xs)

pub record MarksOf (t : Table) (xs : List ℕ) : Type 0 where
  pub one_each : length xs ≡ t.rows
  pub coded : Coded xs
