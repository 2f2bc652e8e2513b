use Rattle.std.proofs.Common.{ap}
use Rattle.stations.specs.Orders.{Out, numbers}
use Rattle.stations.proofs.Meaning.{means}
use Rattle.stations.proofs.order.StationOrder.fill.Goals as goal

pub returns-clause-means : goal.returns-clause-means
returns-clause-means c = means (numbers c.args.self.now.stations) c.args.entries.now c.told-entries c.enter.result (ap (λ (t : Out). t.0) c.enter.ensures)
