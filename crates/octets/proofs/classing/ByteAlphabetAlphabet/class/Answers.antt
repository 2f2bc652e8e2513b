-- The table has the class of each byte.
use Rattle.std.proofs.Common.{get_or, ap, ◌∙◌, arith}
use Rattle.cutting.specs.Tests.{in_use}
use Rattle.classes.proofs.Bytes.{table_at}
use Rattle.octets.specs.Classing.{class_of}
use Rattle.octets.proofs.classing.ByteAlphabetAlphabet.class.Goals as goal

pub returns : goal.returns
returns c =
    let a = c.args.self.now in
    c.from.ensures
    ∙ c.look_up.ensures
    ∙ ap (λ table. get_or table c.args.letter 0) a.table
    ∙ table_at (class_of (in_use a.tests)) c.args.letter (omega (arith, c.ranges.letter))
