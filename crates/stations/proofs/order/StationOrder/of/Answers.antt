use Rattle.std.proofs.Common.{rules}
use Rattle.stations.proofs.Undoing.{forth_and_back}
use Rattle.stations.proofs.order.StationOrder.of.Goals as goal

pub invariant_of-result-clause-undone : goal.invariant_of-result-clause-undone
invariant_of-result-clause-undone c = forth_and_back c.args.stations (search rules) c.requires
