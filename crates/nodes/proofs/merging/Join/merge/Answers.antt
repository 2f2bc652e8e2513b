use Rattle.nodes.specs.Entering.{merged}
use Rattle.nodes.proofs.merging.Join.merge.Goals as goal

pub returns-clause-whole : goal.returns-clause-whole
unfolding merged
returns-clause-whole c = c.merge_ahead.ensures.whole
