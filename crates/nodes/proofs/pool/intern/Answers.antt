use Rattle.std.proofs.Common.{◌≡◌, length, take, arith}
use Rattle.std.proofs.lemmas.List.{length-take}
use Rattle.nodes.proofs.Pools.{interned_found, interned_full, number_below}
use Rattle.nodes.proofs.pool.intern.Goals as goal

pub overflow_cast-result : goal.overflow_cast-result
overflow_cast-result c =
    let p = c.args.pool.now in
    let r = c.number_in-found in
    let size : c.min-size.result ≡ length (take 4096 p.items.now) = simp length-take (omega (arith, c.min-size.ensures)) in
    omega (arith, number_below p.items.now p.count c.args.node r.new.nodes r.result.1 c.min-size.result size r.auto.nodes r.result.0 r.ensures c.in-Some.number c.in-Some.is)

pub returns-in-Some-clause-whole : goal.returns-in-Some-clause-whole
returns-in-Some-clause-whole c =
    let p = c.args.pool.now in
    let r = c.number_in-found in
    let size : c.min-size.result ≡ length (take 4096 p.items.now) = simp length-take (omega (arith, c.min-size.ensures)) in
    interned_found p.items.now p.count c.args.node r.new.nodes r.result.1 c.min-size.result size r.auto.nodes r.result.0 r.ensures c.in-Some.number c.in-Some.is

pub returns-in-None-clause-whole : goal.returns-in-None-clause-whole
returns-in-None-clause-whole c =
    let p = c.args.pool.now in
    let r = c.number_in-found in
    let size : c.min-size.result ≡ length (take 4096 p.items.now) = simp length-take (omega (arith, c.min-size.ensures)) in
    rw c.at.ensures (interned_full p.items.now p.count c.args.node r.new.nodes r.result.1 c.min-size.result size r.auto.nodes r.result.0 r.ensures c.in-None.is)
