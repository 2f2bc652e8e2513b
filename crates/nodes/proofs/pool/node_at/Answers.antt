use Rattle.std.proofs.Common.{inl, inr, arith}
use Rattle.nodes.proofs.Pools.{read_default, read_as}
use Rattle.nodes.proofs.pool.node_at.Goals as goal
use Rattle.nodes.proofs.pool.node_at.Goals.{in_default-via-then-from-lt1, in_default-via-else-from-lt1+else-this-lt4096}

pub returns-in-1-to-4095 : goal.returns-in-1-to-4095
returns-in-1-to-4095 c =
    let p = c.args.pool.now in
    read_as p.items.now p.count c.args.node c.unwrap_or_default.result (rw (c.get.ensures, c.from.ensures) at c.unwrap_or_default.ensures) (λ e. omega arith) (omega arith)

pub returns-in_default : goal.returns-in_default
returns-in_default c =
    let p = c.args.pool.now in
    read_default p.items.now p.count c.args.node c.default.result c.default.ensures (elim c.in_default.branch [
      | in_default-via-then-from-lt1 w ↦ inl (omega arith)
      | in_default-via-else-from-lt1+else-this-lt4096 w ↦ inr (omega arith)
    ])
