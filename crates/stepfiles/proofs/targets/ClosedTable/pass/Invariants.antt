use Rattle.std.proofs.Common.{◌≡◌, false}
use Rattle.languages.specs.Marks.{passed_below}
use Rattle.stepfiles.specs.Coding.{marks_in, MarksOf, table_of}
use Rattle.stepfiles.proofs.targets.ClosedTable.pass.Given as goal

-- what is left of the pass gives what the whole pass gives, and without a change nothing was written
abbrev pub invariant-loop-row : goal.invariant-loop-row
invariant-loop-row l =
    MarksOf (table_of l.self) l.marks
    × (passed_below (table_of l.self) l.row (marks_in l.marks) ≡ passed_below (table_of l.self) (table_of l.self).rows (marks_in l.initial.marks))
    × (l.changed ≡ false → l.marks ≡ l.initial.marks)
