use Rattle.std.proofs.Common.{◌≡◌, sym, ◌∙◌, arith}
use mathlib.Core.List.{map-map}
use Rattle.std.specs.List.{range_with_len}
use Rattle.std.proofs.lemmas.List.FromFn.{fill_by_all}
use Rattle.std.proofs.lemmas.List.Edits.{fill_by_more}
use Rattle.languages.specs.Marks.{number, first, begun}
use Rattle.stepfiles.specs.Coding.{table_of}
use Rattle.stepfiles.proofs.targets.ClosedTable.begin.Goals as goal

pub loop-row-preserved : goal.loop-row-preserved
loop-row-preserved c =
    let t = table_of c.args.self.now in
    let value : c.number.result ≡ number (first (t.accepts c.loop-row.row)) = rw (← c.first_mark.ensures) c.number.ensures in
    rw value (fill_by_more (λ k. number (first (t.accepts k))) c.loop-row.marks c.loop-row.row 0 (omega arith) c.loop-row.invariant)

pub returns : goal.returns
unfolding begun
returns c =
    let t = table_of c.args.self.now in
    let all : c.loop-row.row ≡ t.rows = omega arith in
    fill_by_all (λ k. number (first (t.accepts k))) c.loop-row.marks t.rows 0 (omega arith) (rw (← all) c.loop-row.invariant)
    ∙ sym (map-map number (λ k. first (t.accepts k)) (range_with_len 0 t.rows))
