use Rattle.stepfiles.specs.Views.{viewed}
use Rattle.stepfiles.proofs.Promises.{means}
use Rattle.stepfiles.proofs.opening.open.Goals as goal

pub returns : goal.returns
returns c =
    let b = c.args.bytes.now in
    record { whole = c.fill.ensures; means = means b c.args.scratch.now (viewed c.args.place.now) _ c.fill.ensures }
