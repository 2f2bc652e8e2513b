use Rattle.std.proofs.Common.{◌≡◌, None}
use Rattle.stepfiles.specs.Opening.{first_below, bad_target_of}
use Rattle.stepfiles.proofs.table.Table.bad_target_in.Given as goal

-- no target so far is bad
abbrev pub invariant-loop-class : goal.invariant-loop-class
invariant-loop-class l = first_below (bad_target_of l.self.bytes.now l.row) l.class ≡ None
