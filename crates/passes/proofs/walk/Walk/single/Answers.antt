use Rattle.std.proofs.Common.{Ok, Err, refl}
use Rattle.passes.proofs.Exits.{err_is}
use Rattle.passes.proofs.Leaves.{single_refused, single_done, single_onward}
use Rattle.passes.proofs.walk.Walk.single.Goals as goal

pub returns-in_err-next : goal.returns-in_err-next
returns-in_err-next g c =
    rw (err_is c.from_residual.ensures.1) (record {
      goes = record { answer = single_refused _ c.args.self.reader.now _ _ _ _ c.requires _ c.in_err-next.ensures.told; onward = tt };
      lent = refl;
    })

pub returns-in_err-node : goal.returns-in_err-node
returns-in_err-node g c =
    rw (err_is c.from_residual-in_err-node.ensures.1) (record {
      goes = record { answer = single_done _ c.args.self.reader.now _ _ _ _ c.requires c.in_ok-next.next (Err _, g.S.Sink.pool c.put.new.self) c.in_ok-next.ensures.told c.in_err-node.ensures.whole; onward = tt };
      lent = c.put.ensures.lent;
    })

pub returns : goal.returns
returns g c =
    record {
      goes = record { answer = single_done _ c.args.self.reader.now _ _ _ _ c.requires c.in_ok-next.next (Ok c.in_ok-node.node, g.S.Sink.pool c.put.new.self) c.in_ok-next.ensures.told c.in_ok-node.ensures.whole; onward = single_onward c.args.self.reader.now c.args.self.first c.in_ok-next.next c.args.form c.requires c.args.self.stands c.in_ok-next.ensures.lies };
      lent = c.put.ensures.lent;
    }
