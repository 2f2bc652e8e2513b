use Rattle.grammar.proofs.OneTree.{text_sound, text_complete, one_tree}
use Rattle.grammar.proofs.theorem.proved.Goals as goal

pub returns : goal.returns
returns c = record { sound = text_sound; complete = text_complete; alone = one_tree }
