use Rattle.std.proofs.Common.{is_some, sym, ap, ◌∙◌, arith}
use Rattle.stepfiles.specs.Layout.{classes_in}
use Rattle.stepfiles.specs.Opening.{bad_target_of}
use Rattle.stepfiles.proofs.Finding.{none_none, none_more, found}
use Rattle.stepfiles.proofs.table.Table.bad_target_in.Goals as goal

pub loop-class-init : goal.loop-class-init
loop-class-init c = none_none (bad_target_of c.args.self.now.bytes.now c.args.row)

pub returns-in-Some : goal.returns-in-Some
returns-in-Some c =
    let table = c.args.self.now in
    let f = bad_target_of table.bytes.now c.args.row in
    let class = c.loop-class.class in
    let here = sym c.bad_target_of.ensures ∙ c.in-Some.is in
    sym (found f (classes_in table.bytes.now) class (omega (arith, table.laid.classes)) c.loop-class.invariant (ap is_some here) ∙ here)

pub loop-class-preserved : goal.loop-class-preserved
loop-class-preserved c = none_more (bad_target_of c.args.self.now.bytes.now c.args.row) c.loop-class.class c.loop-class.invariant (sym c.bad_target_of.ensures ∙ c.in_default.is)
