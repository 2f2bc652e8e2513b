use Rattle.std.proofs.Common.{◌≡◌, take}
use Rattle.cutting.specs.Answers.{answers_of}
use Rattle.cutting.proofs.tests.join_answers.Given as goal

abbrev pub invariant-loop-number : goal.invariant-loop-number
invariant-loop-number g l = l.answers ≡ answers_of g.A.Atom.admitting (take l.number l.atoms) l.letter
