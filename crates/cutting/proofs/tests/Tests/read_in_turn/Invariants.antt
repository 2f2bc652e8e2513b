use Rattle.std.proofs.Common.{◌≡◌, Ok}
use Rattle.cutting.specs.Reading.{atoms_of}
use Rattle.cutting.specs.Tests.{in_use}
use Rattle.cutting.proofs.tests.Tests.read_in_turn.Given as goal

abbrev pub invariant-loop-number : goal.invariant-loop-number
invariant-loop-number g l = (l.tests.count ≡ l.number) × (atoms_of g.A.Atom.read_as g.A.Atom.ordered l.text l.entries l.number ≡ Ok (in_use l.tests))
