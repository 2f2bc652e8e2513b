use Rattle.std.proofs.Common.{rules, tests}
use Rattle.stepfiles.specs.Opening.{bad_mark_of}
use Rattle.stepfiles.proofs.Searching.{find_map_below}
use Rattle.stepfiles.proofs.targets.ClosedTable.bad_mark.Goals as goal

pub returns : goal.returns
returns c =
    let table = c.args.self.now.table in
    find_map_below (bad_mark_of table.bytes.now c.args.marks.now) c.find_map.ensures.runs table.laid.rows (λ x o q call. search (rules, tests))
