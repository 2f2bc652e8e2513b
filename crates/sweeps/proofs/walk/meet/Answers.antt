use Rattle.cutting.specs.Tests.{in_use}
use Rattle.sweeps.specs.Classes.{set_of}
use Rattle.sweeps.proofs.Walking.{meets_one}
use Rattle.sweeps.proofs.walk.meet.Goals as goal

pub returns : goal.returns
returns c = rw c.is_some.ensures (meets_one (set_of (in_use c.args.tests.now)) c.args.classes.now c.args.event c.enter.result c.enter.new.classes c.requires c.enter.ensures)
