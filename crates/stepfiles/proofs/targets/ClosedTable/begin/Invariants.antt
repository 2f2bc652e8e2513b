use Rattle.std.proofs.Common.{◌≡◌, ℕ, ◌<◌, get_or}
use Rattle.languages.specs.Marks.{number, first}
use Rattle.stepfiles.specs.Coding.{table_of}
use Rattle.stepfiles.proofs.targets.ClosedTable.begin.Given as goal

-- the rows so far have their first marks
abbrev pub invariant-loop-row : goal.invariant-loop-row
invariant-loop-row l = (k : ℕ) → k < l.row → get_or l.marks k 0 ≡ number (first ((table_of l.self).accepts k))
