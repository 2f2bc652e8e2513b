use Rattle.std.proofs.Common.{◌≡◌, ◌-◌}
use Rattle.languages.specs.Marks.{passes, worked}
use Rattle.stepfiles.specs.Coding.{marks_in, MarksOf, table_of}
use Rattle.stepfiles.proofs.targets.ClosedTable.work_out.Given as goal

-- the passes that are left give the marks worked out
abbrev pub invariant-loop-pass : goal.invariant-loop-pass
invariant-loop-pass l =
    MarksOf (table_of l.self) l.marks
    × (passes (table_of l.self) (l.self.table.rows - l._pass) (marks_in l.marks) ≡ worked (table_of l.self))
