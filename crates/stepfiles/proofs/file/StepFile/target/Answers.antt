use Rattle.std.proofs.Common.{◌≡◌, Some, rules}
use Rattle.stepfiles.specs.Views.{successor}
use Rattle.stepfiles.proofs.Promises.{target_there}
use Rattle.stepfiles.proofs.file.StepFile.target.Goals as goal

pub returns : goal.returns
returns c =
    let f = c.args.self.now in
    let b = f.table.bytes.now in
    let to = c.target.result in
    let value : Some to ≡ successor b c.args.row c.args.class = search rules in
    record { value = value; there = target_there b f.checked c.args.row c.args.class (Some to) value }
