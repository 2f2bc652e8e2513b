use Rattle.std.proofs.Common.{◌≡◌, sym, ap, ◌∙◌}
use Rattle.stepfiles.specs.Opening.{bad_mark}
use Rattle.stepfiles.proofs.Checked.{checked}
use Rattle.stepfiles.proofs.Finding.{none_mapped}
use Rattle.stepfiles.proofs.opening.fill.Goals as goal

pub invariant_of-place : goal.invariant_of-place
invariant_of-place c =
    let closed = c.in_ok-closed.closed.table.bytes.now in
    let same : closed ≡ c.in_ok-table.table.bytes.now = ap (λ t. t.bytes.now) c.in_ok-closed.ensures.same in
    record {
      checked = checked c.in_ok-table.table.bytes.now record {
        header_yes = rw c.in_ok-table.ensures.same (sym c.in_ok-table.ensures.first);
        targets_yes = none_mapped _ _ (sym c.in_ok-closed.ensures.first);
        marks_yes = rw (← same) (ap (bad_mark closed) (sym c.work_out.ensures) ∙ sym c.bad_mark.ensures ∙ c.in_default.is);
      };
    }
