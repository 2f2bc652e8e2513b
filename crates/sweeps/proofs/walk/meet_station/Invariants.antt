-- All events below the pressure are met.
use Rattle.std.proofs.Common.{◌-◌, ◌≤◌}
use Rattle.cutting.specs.Tests.{in_use}
use Rattle.sweeps.specs.Classes.{set_of}
use Rattle.sweeps.specs.Letters.{at_station}
use Rattle.sweeps.proofs.Walking.{So}
use Rattle.sweeps.proofs.walk.meet_station.Given as goal

abbrev pub invariant-loop-pressure : goal.invariant-loop-pressure
invariant-loop-pressure l = record {
  below : l.pressure ≤ 65536;
  met : So (set_of (in_use l.tests)) l.fn.classes (at_station l.pressure l.code l.station) l.classes;
}

abbrev pub decreases-loop-pressure : goal.decreases-loop-pressure
decreases-loop-pressure l = 65536 - l.pressure
