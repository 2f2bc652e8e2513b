use Rattle.std.proofs.Common.{◌≡◌, sym, refl, ap, ◌∙◌, arith}
use Rattle.std.proofs.lemmas.Bool.{true≢false}
use Rattle.languages.specs.Marks.{passed_below}
use Rattle.languages.proofs.Passing.{passed_below_none}
use Rattle.stepfiles.specs.Coding.{marks_in, table_of}
use Rattle.stepfiles.proofs.Passes.{row_passed, row_marked, row_same}
use Rattle.stepfiles.proofs.targets.ClosedTable.pass.Goals as goal

pub loop-row-init : goal.loop-row-init
loop-row-init c =
    let closed = c.args.self.now in
    (c.requires, ap (λ n. passed_below (table_of closed) n (marks_in c.args.marks.now)) closed.table.laid.rows, λ _. refl)

pub loop-row-preserved-then-mark-marks : goal.loop-row-preserved-then-mark-marks
loop-row-preserved-then-mark-marks c =
    let t = table_of c.args.self.now in
    let next = c.loop-row.row in
    let some = c.loop-row-test.true in
    let is = c.gather-mark.ensures in (
      row_marked t c.loop-row.marks next c.gather-mark.result some is c.loop-row.invariant.0,
      row_passed t c.loop-row.marks next c.gather-mark.result some is ∙ c.loop-row.invariant.1,
      λ e. absurd (true≢false e),
    )

pub loop-row-preserved : goal.loop-row-preserved
loop-row-preserved c =
    let t = table_of c.args.self.now in (
      c.loop-row.invariant.0,
      row_same t c.loop-row.marks c.loop-row.row c.gather-mark.result c.loop-row-test.true c.gather-mark.ensures c.if-mark-marks.false ∙ c.loop-row.invariant.1,
      c.loop-row.invariant.2,
    )

pub returns : goal.returns
returns c =
    let t = table_of c.args.self.now in
    let ms = marks_in c.loop-row.marks in
    let none : c.loop-row.row ≡ 0 = omega arith in
    record {
      marks = c.loop-row.invariant.0;
      passed = sym (passed_below_none t ms) ∙ ap (λ n. passed_below t n ms) (sym none) ∙ c.loop-row.invariant.1;
      still = c.loop-row.invariant.2;
    }
