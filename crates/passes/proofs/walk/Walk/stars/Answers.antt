use Rattle.std.proofs.Common.{Ok, Err, ap, ◌∙◌}
use Rattle.surveys.specs.Looking.{standing}
use Rattle.passes.proofs.Exits.{err_is}
use Rattle.passes.proofs.Signs.{sign_byte}
use Rattle.passes.proofs.Turning.{growing_exit, growing_more, on_by_sign, star_none, star_refused, star_one}
use Rattle.passes.proofs.walk.Walk.stars.Goals as goal

pub returns-in_err-next : goal.returns-in_err-next
returns-in_err-next g c =
    rw (err_is c.from_residual.ensures.1) (record {
      grown = record {
        answer = growing_exit _ _ _ _ _ _ _ _ c.loop-part.invariant.0 (Err _, g.S.Sink.pool c.loop-part.sink)
            (λ j m. star_refused _ c.args.self.reader.now _ _ _ c.in-Asterisk.is _ c.in_err-next.ensures.told j);
        onward = tt;
      };
      lent = c.loop-part.invariant.1;
    })

pub returns-in_err-node : goal.returns-in_err-node
returns-in_err-node g c =
    rw (err_is c.from_residual-in_err-node.ensures.1) (record {
      grown = record {
        answer = growing_exit _ _ _ _ _ _ _ _ c.loop-part.invariant.0 (Err _, g.S.Sink.pool c.put.new.self)
            (λ j m. star_one _ c.args.self.reader.now _ _ _ c.in-Asterisk.is c.in_ok-next.next (Err _, g.S.Sink.pool c.put.new.self) c.in_ok-next.ensures.told c.in_err-node.ensures.whole j);
        onward = tt;
      };
      lent = c.put.ensures.lent ∙ c.loop-part.invariant.1;
    })

pub loop-part-preserved : goal.loop-part-preserved
loop-part-preserved g c =
    let is = c.in-Asterisk.is in (
      growing_more _ _ _ _ _ _ _ _ c.loop-part.invariant.0 (record { node = c.in_ok-node.node; next = c.in_ok-next.next }) (g.S.Sink.pool c.put.new.self)
          c.in_ok-next.ensures.lies.0
          (on_by_sign c.args.self.reader.now c.loop-part.part.next c.in_ok-next.next 41 (ap sign_byte is) c.loop-part.invariant.0.stands c.in_ok-next.ensures.lies).0
          (λ j m. star_one _ c.args.self.reader.now _ _ _ is c.in_ok-next.next (Ok c.in_ok-node.node, g.S.Sink.pool c.put.new.self) c.in_ok-next.ensures.told c.in_ok-node.ensures.whole j),
      c.put.ensures.lent ∙ c.loop-part.invariant.1,
    )

pub returns : goal.returns
returns g c =
    record {
      grown = record {
        answer = growing_exit _ _ _ _ _ _ _ _ c.loop-part.invariant.0 (Ok (c.loop-part.part.node, standing c.args.self.reader.now c.loop-part.part.next), g.S.Sink.pool c.loop-part.sink)
            (λ j m. star_none _ c.args.self.reader.now _ _ _ c.in_default.not-Asterisk j);
        onward = (c.loop-part.invariant.0.stands, c.loop-part.invariant.0.far);
      };
      lent = c.loop-part.invariant.1;
    }
