-- All events of the codes before this one are met.
use Rattle.std.proofs.Common.{take}
use Rattle.std.specs.List.{flat_map}
use Rattle.bench.specs.Events.{all_codes}
use Rattle.cutting.specs.Tests.{in_use}
use Rattle.sweeps.specs.Classes.{set_of}
use Rattle.sweeps.specs.Letters.{at_code}
use Rattle.sweeps.proofs.Walking.{So}
use Rattle.sweeps.proofs.walk.meet_all.Given as goal

abbrev pub invariant-loop-code : goal.invariant-loop-code
invariant-loop-code l = So (set_of (in_use l.tests)) l.fn.classes (flat_map (at_code 65536) (take l.code-index all_codes)) l.classes
