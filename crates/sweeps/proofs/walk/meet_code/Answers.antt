use Rattle.std.proofs.Common.{◌≡◌, take, arith, subst}
use Rattle.std.specs.List.{flat_map}
use Rattle.bench.specs.Events.{all_stations}
use Rattle.cutting.specs.Tests.{in_use}
use Rattle.sweeps.specs.Classes.{set_of}
use Rattle.sweeps.specs.Letters.{at_station, at_code}
use Rattle.sweeps.proofs.Walking.{So, tied, none_yet, list_more, list_full, list_all}
use Rattle.sweeps.proofs.walk.meet_code.Goals as goal

pub loop-station-init : goal.loop-station-init
loop-station-init c = none_yet (set_of (in_use c.args.tests.now)) c.args.classes.now c.requires

pub meet_station-requires : goal.meet_station-requires
meet_station-requires c =
    tied (set_of (in_use c.args.tests.now)) c.args.classes.now (flat_map (at_station 65536 c.args.code) (take c.loop-station.station-index all_stations)) c.loop-station.classes c.loop-station.invariant

pub returns-then-not-meet_station : goal.returns-then-not-meet_station
unfolding at_code
returns-then-not-meet_station c =
    list_full (set_of (in_use c.args.tests.now)) (at_station 65536 c.args.code) all_stations c.args.classes.now c.loop-station.classes c.meet_station.new.classes c.loop-station.station-index _ c.loop-station-test.true c.loop-station.invariant
    (rw c.if-not-meet_station.true at c.meet_station.ensures)

pub loop-station-preserved : goal.loop-station-preserved
loop-station-preserved c =
    list_more (set_of (in_use c.args.tests.now)) (at_station 65536 c.args.code) all_stations c.args.classes.now c.loop-station.classes c.meet_station.new.classes c.loop-station.station-index _ c.loop-station-test.true c.loop-station.invariant
    (rw c.if-not-meet_station.false at c.meet_station.ensures)

pub returns : goal.returns
unfolding at_code
returns c =
    let end : c.loop-station.station-index ≡ 8 = omega (arith, c.loop-station-test.false, c.loop-station.auto.station-index-end) in
    list_all (set_of (in_use c.args.tests.now)) (at_station 65536 c.args.code) all_stations c.args.classes.now c.loop-station.classes
    (subst (λ n. So (set_of (in_use c.args.tests.now)) c.args.classes.now (flat_map (at_station 65536 c.args.code) (take n all_stations)) c.loop-station.classes) end c.loop-station.invariant)
