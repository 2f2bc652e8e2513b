use Rattle.folds.proofs.Again.{same_class}
use Rattle.folds.proofs.theorems.folding_again_changes_nothing.Goals as goal

pub returns-clause-class : goal.returns-clause-class
returns-clause-class g c f = same_class (g.A.Alphabet.class_of f.below.below)
