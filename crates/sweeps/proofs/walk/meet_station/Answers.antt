use Rattle.std.proofs.Common.{◌≡◌, [], ◌∷◌, true, false, arith, subst, sym, ap, ◌∙◌}
use Rattle.cutting.specs.Tests.{in_use}
use Rattle.sweeps.specs.Classes.{set_of}
use Rattle.sweeps.specs.Letters.{event_at, at_station}
use Rattle.sweeps.specs.Walking.{Met}
use Rattle.sweeps.specs.Changes.{next_change}
use Rattle.sweeps.proofs.Steady.{change_later, change_by_the_end}
use Rattle.sweeps.proofs.Walking.{So, tied, none_there, jumped, full_there, all_there}
use Rattle.sweeps.proofs.walk.meet_station.Goals as goal

pub loop-pressure-init : goal.loop-pressure-init
loop-pressure-init c = record { below = omega arith; met = none_there (set_of (in_use c.args.tests.now)) c.args.code c.args.station c.args.classes.now c.requires }

pub meet-requires : goal.meet-requires
meet-requires c =
    let p = c.loop-pressure.pressure in
    tied (set_of (in_use c.args.tests.now)) c.args.classes.now (at_station p c.args.code c.args.station) c.loop-pressure.classes c.loop-pressure.invariant.met

pub returns-then-not-meet : goal.returns-then-not-meet
returns-then-not-meet c =
    let p = c.loop-pressure.pressure in
    let none : Met (set_of (in_use c.args.tests.now)) (event_at c.args.code c.args.station p ∷ []) c.loop-pressure.classes false c.meet.new.classes = rw (c.event_at.ensures, c.if-not-meet.true) at c.meet.ensures in
    full_there (in_use c.args.tests.now) c.args.code c.args.station c.args.classes.now c.loop-pressure.classes c.meet.new.classes p c.loop-pressure-test.true c.loop-pressure.invariant.met none

pub loop-pressure-smaller : goal.loop-pressure-smaller
loop-pressure-smaller c =
    let p = c.loop-pressure.pressure in
    let atoms = in_use c.args.tests.now in
    let is : c.next_change-pressure.result ≡ next_change c.args.code c.args.station p atoms = c.next_change-pressure.ensures ∙ ap (next_change c.args.code c.args.station p) c.as_slice.ensures.value in
    let later = change_later c.args.code c.args.station p atoms c.loop-pressure-test.true in
    omega (arith, is, later, c.loop-pressure-test.true)

pub loop-pressure-preserved : goal.loop-pressure-preserved
loop-pressure-preserved c =
    let p = c.loop-pressure.pressure in
    let atoms = in_use c.args.tests.now in
    let is : c.next_change-pressure.result ≡ next_change c.args.code c.args.station p atoms = c.next_change-pressure.ensures ∙ ap (next_change c.args.code c.args.station p) c.as_slice.ensures.value in
    let one : Met (set_of atoms) (event_at c.args.code c.args.station p ∷ []) c.loop-pressure.classes true c.meet.new.classes = rw (c.event_at.ensures, c.if-not-meet.false) at c.meet.ensures in
    let far = jumped atoms c.args.code c.args.station c.args.classes.now c.loop-pressure.classes c.meet.new.classes p c.loop-pressure-test.true c.loop-pressure.invariant.met one in
    let end = change_by_the_end c.args.code c.args.station p atoms in
    record { below = omega (arith, is, end); met = subst (λ q. So (set_of atoms) c.args.classes.now (at_station q c.args.code c.args.station) c.meet.new.classes) (sym is) far }

pub returns : goal.returns
returns c = all_there (in_use c.args.tests.now) c.args.code c.args.station c.args.classes.now c.loop-pressure.classes c.loop-pressure.pressure c.loop-pressure-test.false c.loop-pressure.invariant.below c.loop-pressure.invariant.met
