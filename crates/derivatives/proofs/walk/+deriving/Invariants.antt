-- Parts are smaller than their node.
use Rattle.std.proofs.Common.{◌+◌, ◌*◌, max}
use Rattle.derivatives.proofs.walk.+deriving.Given as goal

abbrev pub decreases-derive_node : goal.decreases-derive_node
decreases-derive_node l = 2 * l.node

abbrev pub decreases-derive_sequence : goal.decreases-derive_sequence
decreases-derive_sequence l = 2 * max l.left l.right + 1

abbrev pub decreases-derive_both : goal.decreases-derive_both
decreases-derive_both l = 2 * max l.left l.right + 1

abbrev pub decreases-derive_star : goal.decreases-derive_star
decreases-derive_star l = 2 * l.part + 1

abbrev pub decreases-derive_not : goal.decreases-derive_not
decreases-derive_not l = 2 * l.part + 1
