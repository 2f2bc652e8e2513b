use Rattle.std.proofs.Common.{rules}
use Rattle.classes.proofs.Room.{no_class}
use Rattle.classes.proofs.found.Classes.meet.Goals as goal

pub returns-in_err-class-clause-whole : goal.returns-in_err-class-clause-whole
returns-in_err-class-clause-whole g c =
    rw c.from_residual.ensures (no_class _ c.args.letter c.args.key c.args.self.now.count _ _ _ (search rules) c.in_err-class.ensures.whole)
