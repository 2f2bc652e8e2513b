use Rattle.std.proofs.Common.{◌≡◌, ◌+◌, ◌-◌, map, sym, ap, ◌∙◌, arith}
use Rattle.std.proofs.lemmas.List.{length-map}
use Rattle.languages.specs.Marks.{number, passes, worked, begun}
use Rattle.languages.proofs.Passing.{length-begun, passes_none, passes_more, passes_still}
use Rattle.stepfiles.specs.Coding.{marks_in, table_of}
use Rattle.stepfiles.specs.Opening.{worked_in}
use Rattle.stepfiles.proofs.Codes.{coded_numbers, marks_in_numbers}
use Rattle.stepfiles.proofs.targets.ClosedTable.work_out.Goals as goal

pub loop-pass-init : goal.loop-pass-init
unfolding worked
loop-pass-init c =
    let t = table_of c.args.self.now in
    let all : c.args.self.now.table.rows - 0 ≡ t.rows = omega arith in
    rw c.begin.ensures (record { one_each = length-map (begun t) number ∙ length-begun t; coded = coded_numbers (begun t) }, rw (marks_in_numbers, all))

pub loop-pass-preserved : goal.loop-pass-preserved
loop-pass-preserved c =
    let t = table_of c.args.self.now in
    let left = c.args.self.now.table.rows - (c.loop-pass._pass + 1) in
    let one_more : left + 1 ≡ c.args.self.now.table.rows - c.loop-pass._pass = omega arith in
    let ms = marks_in c.loop-pass.marks in (
      c.pass.ensures.marks,
      ap (passes t left) c.pass.ensures.passed ∙ sym (passes_more t left ms) ∙ ap (λ n. passes t n ms) one_more ∙ c.loop-pass.invariant.1,
    )

-- a pass that changed nothing: the marks are worked out
pub returns-then-not-pass : goal.returns-then-not-pass
unfolding worked_in
returns-then-not-pass c =
    let t = table_of c.args.self.now in
    let ms = marks_in c.loop-pass.marks in
    let same = c.pass.ensures.still c.if-not-pass.true in
    let still = sym c.pass.ensures.passed ∙ ap marks_in same in
    let done = sym (passes_still t ms still (c.args.self.now.table.rows - c.loop-pass._pass)) ∙ c.loop-pass.invariant.1 in
    same ∙ c.loop-pass.invariant.0.coded ∙ ap (map number) done

pub returns : goal.returns
unfolding worked_in
returns c =
    let t = table_of c.args.self.now in
    let ms = marks_in c.loop-pass.marks in
    let none : c.args.self.now.table.rows - c.loop-pass._pass ≡ 0 = omega arith in
    c.loop-pass.invariant.0.coded ∙ ap (map number) (sym (passes_none t ms) ∙ ap (λ n. passes t n ms) (sym none) ∙ c.loop-pass.invariant.1)
