use Rattle.std.proofs.Common.{rules, tests}
use Rattle.stepfiles.specs.Opening.{bad_target_in}
use Rattle.stepfiles.proofs.Searching.{find_map_below}
use Rattle.stepfiles.proofs.table.Table.bad_target.Goals as goal

pub returns : goal.returns
returns c =
    let table = c.args.self.now in
    find_map_below (bad_target_in table.bytes.now) c.find_map.ensures.runs table.laid.rows (λ x o q call. search (rules, tests))
