use Rattle.std.proofs.Common.{◌≡◌}
use Rattle.languages.specs.Marks.{number, gathered}
use Rattle.stepfiles.specs.Coding.{marks_in, table_of}
use Rattle.stepfiles.proofs.targets.ClosedTable.gather.Given as goal

-- the classes so far are gathered
abbrev pub invariant-loop-class : goal.invariant-loop-class
invariant-loop-class l = l.mark ≡ number (gathered (table_of l.self) (marks_in l.marks) l.row l.class)
