use Rattle.std.proofs.Common.{Ok, Err, ◌∙◌, arith}
use Rattle.std.proofs.lemmas.Result.{err_from_is_err_and}
use Rattle.nodes.specs.Pools.{pool_of}
use Rattle.nodes.proofs.Members.{picked_last, picked_more, ahead_falls}
use Rattle.nodes.proofs.merging.Join.+merge_ahead.Goals as goal

pub returns-then-is_last-clause-whole : goal.returns-then-is_last-clause-whole
returns-then-is_last-clause-whole t c =
    let h = pool_of c.args.pool.now in
    picked_last c.args.self h.used c.args.left c.args.right c.pick-next.result h c.pick-next.ensures c.if-is_last.ensures

pub merge_ahead-requires : goal.merge_ahead-requires
merge_ahead-requires t c =
    let h = pool_of c.args.pool.now in
    (omega (arith, c.decreases, ahead_falls c.args.self h.used c.args.left c.args.right c.pick-next.result c.pick-next.ensures c.if-is_last.ensures), tt)

pub returns-in_err-rest-clause-whole : goal.returns-in_err-rest-clause-whole
returns-in_err-rest-clause-whole t c =
    let p = err_from_is_err_and c.from_residual.result c.from_residual.ensures.1 in
    let h = pool_of c.args.pool.now in
    rw (p.1, p.2)
    (picked_more c.args.self h.used c.args.left c.args.right c.pick-next.result h c.pick-next.ensures c.if-is_last.ensures
    (Err c.in_err-rest.field-0.0, pool_of c.merge_ahead.new.pool) c.in_err-rest.ensures.whole)

pub returns-clause-whole : goal.returns-clause-whole
returns-clause-whole t c =
    let h = pool_of c.args.pool.now in
    c.keep.ensures.whole
    ∙ rw c.form.ensures
    (picked_more c.args.self h.used c.args.left c.args.right c.pick-next.result h c.pick-next.ensures c.if-is_last.ensures
    (Ok c.in_ok-rest.rest, pool_of c.merge_ahead.new.pool) c.in_ok-rest.ensures.whole)
