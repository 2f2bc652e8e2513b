use Rattle.std.proofs.Common.{sym}
use Rattle.std.proofs.lemmas.Simd.{map-map}
use Rattle.stations.specs.Asking.{asking}
use Rattle.stations.proofs.theorems.classes_are_those_below.Goals as goal

pub returns-clause-lists : goal.returns-clause-lists
returns-clause-lists g c s es = sym (map-map (g.A.Alphabet.class_of s.below) (asking s.order.stations) es)
