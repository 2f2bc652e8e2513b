-- All events at the stations before this one are met.
use Rattle.std.proofs.Common.{take}
use Rattle.std.specs.List.{flat_map}
use Rattle.bench.specs.Events.{all_stations}
use Rattle.cutting.specs.Tests.{in_use}
use Rattle.sweeps.specs.Classes.{set_of}
use Rattle.sweeps.specs.Letters.{at_station}
use Rattle.sweeps.proofs.Walking.{So}
use Rattle.sweeps.proofs.walk.meet_code.Given as goal

abbrev pub invariant-loop-station : goal.invariant-loop-station
invariant-loop-station l = So (set_of (in_use l.tests)) l.fn.classes (flat_map (at_station 65536 l.code) (take l.station-index all_stations)) l.classes
