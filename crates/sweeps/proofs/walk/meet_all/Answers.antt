use Rattle.std.proofs.Common.{◌≡◌, take, arith, subst}
use Rattle.std.specs.List.{flat_map}
use Rattle.bench.specs.Events.{all_codes}
use Rattle.cutting.specs.Tests.{in_use}
use Rattle.sweeps.specs.Classes.{set_of}
use Rattle.sweeps.specs.Letters.{at_code, events_below, all_events}
use Rattle.sweeps.proofs.Walking.{So, tied, none_yet, list_more, list_full, list_all}
use Rattle.sweeps.proofs.walk.meet_all.Goals as goal

pub loop-code-init : goal.loop-code-init
loop-code-init c = none_yet (set_of (in_use c.args.tests.now)) c.args.classes.now c.requires

pub meet_code-requires : goal.meet_code-requires
meet_code-requires c =
    tied (set_of (in_use c.args.tests.now)) c.args.classes.now (flat_map (at_code 65536) (take c.loop-code.code-index all_codes)) c.loop-code.classes c.loop-code.invariant

pub returns-then-not-meet_code : goal.returns-then-not-meet_code
unfolding all_events events_below
returns-then-not-meet_code c =
    list_full (set_of (in_use c.args.tests.now)) (at_code 65536) all_codes c.args.classes.now c.loop-code.classes c.meet_code.new.classes c.loop-code.code-index _ c.loop-code-test.true c.loop-code.invariant
    (rw c.if-not-meet_code.true at c.meet_code.ensures)

pub loop-code-preserved : goal.loop-code-preserved
loop-code-preserved c =
    list_more (set_of (in_use c.args.tests.now)) (at_code 65536) all_codes c.args.classes.now c.loop-code.classes c.meet_code.new.classes c.loop-code.code-index _ c.loop-code-test.true c.loop-code.invariant
    (rw c.if-not-meet_code.false at c.meet_code.ensures)

pub returns : goal.returns
unfolding all_events events_below
returns c =
    let end : c.loop-code.code-index ≡ 16 = omega (arith, c.loop-code-test.false, c.loop-code.auto.code-index-end) in
    list_all (set_of (in_use c.args.tests.now)) (at_code 65536) all_codes c.args.classes.now c.loop-code.classes
    (subst (λ n. So (set_of (in_use c.args.tests.now)) c.args.classes.now (flat_map (at_code 65536) (take n all_codes)) c.loop-code.classes) end c.loop-code.invariant)
