use Rattle.std.proofs.Common.{◌≡◌, ◌+◌, ◌-◌, eqb, get_or, sym, ap, ◌∙◌, arith}
use lib.Bits.{bit_and}
use Rattle.languages.specs.declared.marks.Mark.TheVariants.{Lost}
use Rattle.languages.specs.Marks.{number, gathered}
use Rattle.languages.proofs.Passing.{gathered_none, gathered_more, gathered_full_more}
use Rattle.stepfiles.specs.Coding.{marks_in, table_of}
use Rattle.stepfiles.proofs.Codes.{number_at, number-join, number_full}
use Rattle.stepfiles.proofs.targets.ClosedTable.gather.Goals as goal

pub loop-class-init : goal.loop-class-init
loop-class-init c =
    let ms = c.args.marks.now in
    number_at ms c.args.row c.requires.marks.coded (omega arith) ∙ ap number (sym (gathered_none (table_of c.args.self.now) (marks_in ms) c.args.row))

pub loop-class-preserved : goal.loop-class-preserved
loop-class-preserved c =
    let t = table_of c.args.self.now in
    let ms = c.args.marks.now in
    let row = c.args.row in
    let class = c.loop-class.class in
    let target = c.target.result in
    let is : t.next row class ≡ target = cc in
    let below = c.args.self.now.closed row class (omega arith) (omega arith) in
    let seen = number_at ms target c.requires.marks.coded (omega arith) in
    let sum = number-join (gathered t (marks_in ms) row class) (get_or (marks_in ms) target Lost) in
    let more = gathered_more t (marks_in ms) row class in
    cc

-- a full mark stays as it is over the classes that are left
pub returns-then-is_full : goal.returns-then-is_full
returns-then-is_full c =
    let t = table_of c.args.self.now in
    let ms = marks_in c.args.marks.now in
    let row = c.args.row in
    let class = c.loop-class.class in
    let left = t.classes - class in
    let all : class + left ≡ t.classes = omega (arith, c.args.self.now.table.laid.classes) in
    let full = number_full (gathered t ms row class) (c.if-is_full.ensures ∙ ap (λ m. eqb (bit_and m 6) 6) c.loop-class.invariant) in
    c.loop-class.invariant ∙ ap number (sym (gathered_full_more t ms row class left full.0 full.1) ∙ ap (gathered t ms row) all)
