use Rattle.grammar.proofs.FirstWrong.{first_wrong}
use Rattle.grammar.proofs.theorem.told.Goals as goal

pub returns : goal.returns
returns c = record { first = first_wrong }
