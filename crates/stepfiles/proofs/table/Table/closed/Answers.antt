use Rattle.std.proofs.Common.{sym, ◌∙◌}
use Rattle.stepfiles.proofs.Checked.{closed}
use Rattle.stepfiles.proofs.table.Table.closed.Goals as goal

pub invariant_of-result : goal.invariant_of-result
invariant_of-result c = record { closed = closed c.args.self.now.bytes.now (sym c.bad_target.ensures ∙ c.in-None.is) }
