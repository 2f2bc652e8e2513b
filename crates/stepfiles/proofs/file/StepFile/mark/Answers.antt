use Rattle.std.proofs.Common.{◌≡◌, ◌∙◌, arith}
use Rattle.stepfiles.specs.Views.{mark_in}
use Rattle.stepfiles.proofs.Promises.{mark_there, mark_read}
use Rattle.stepfiles.proofs.file.StepFile.mark.Goals as goal

pub returns : goal.returns
returns c =
    let f = c.args.self.now in
    let b = f.table.bytes.now in
    let row = c.args.row in
    let read = mark_read b f.checked row (omega (arith, f.table.laid.rows)) c.try_from.result (rw (← c.mark.ensures) c.try_from.ensures) in
    let value : c.ok.result ≡ mark_in b row = c.ok.ensures.value ∙ read in
    record { value = value; there = mark_there b f.checked row c.ok.result value }
