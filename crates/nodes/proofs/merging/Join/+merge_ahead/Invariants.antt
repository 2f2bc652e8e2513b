use Rattle.std.proofs.Common.{◌+◌}
use Rattle.nodes.specs.Merging.{ahead}
use Rattle.nodes.proofs.merging.Join.+merge_ahead.Given as goal

abbrev pub decreases-merge_ahead : goal.decreases-merge_ahead
decreases-merge_ahead l = ahead l.left + ahead l.right
