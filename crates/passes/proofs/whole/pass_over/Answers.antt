use Rattle.std.proofs.Common.{refl}
use Rattle.passes.proofs.Exits.{err_is}
use Rattle.passes.proofs.Passages.{passed_bad}
use Rattle.passes.proofs.whole.pass_over.Goals as goal

pub returns-in_err-first : goal.returns-in_err-first
returns-in_err-first g c =
    rw (err_is c.from_residual.ensures.1) (record { whole = passed_bad g.S.Sink.step c.args.reader.now (g.S.Sink.pool c.args.sink.now) _ c.in_err-first.ensures.told; lent = refl })
