use Rattle.classes.specs.Found.{found}
use Rattle.classes.specs.Rising.{rising}
use Rattle.folds.proofs.Meeting.{Met}
use Rattle.folds.proofs.fold.Fold.classes.Given as goal

abbrev pub invariant-loop-byte : goal.invariant-loop-byte
invariant-loop-byte g l = Met (g.A.Alphabet.class_of l.self.below) (rising 0 l.byte) (found l.classes)
