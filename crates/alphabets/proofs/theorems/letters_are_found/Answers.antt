use Rattle.alphabets.proofs.Following.{letters_of}
use Rattle.alphabets.proofs.theorems.letters_are_found.Goals as goal

pub returns : goal.returns
returns g c = record { found = λ a. letters_of g.A.Letter.Letter.proper (g.A.Alphabet.count_of a) (g.A.Alphabet.class_of a) (g.A.Alphabet.sample_of a) (g.met.A.Alphabet.sampled a) }
