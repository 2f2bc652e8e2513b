use Rattle.std.proofs.Common.{arith}
use Rattle.folds.proofs.Meeting.{all_met, byte_met, none_met}
use Rattle.folds.proofs.fold.Fold.classes.Goals as goal

pub loop-byte-init : goal.loop-byte-init
loop-byte-init g c = none_met _ c.none-classes.ensures.samples c.none-classes.ensures.keys

pub loop-byte-preserved : goal.loop-byte-preserved
loop-byte-preserved g c = byte_met _ (omega arith) c.loop-byte.invariant c.meet.ensures

pub returns-2-clause-samples : goal.returns-2-clause-samples
returns-2-clause-samples g c = (all_met _ (omega arith) c.loop-byte.invariant c.meet.ensures).samples

pub returns-2-clause-keys : goal.returns-2-clause-keys
returns-2-clause-keys g c = (all_met _ (omega arith) c.loop-byte.invariant c.meet.ensures).keys
