use Rattle.std.proofs.Common.{Ok, Err, sym, ap, ◌∙◌, arith}
use Rattle.surveys.specs.Looking.{standing}
use Rattle.passes.proofs.Exits.{err_is}
use Rattle.passes.proofs.Leaves.{base_refused}
use Rattle.passes.proofs.Turning.{growing_exit, growing_more}
use Rattle.passes.proofs.Cycles.{goes_at, grown_at, group_refused, group_grown, repeated_refused, repeated_grown, turn_none, turn_refused, turn_operand, turn_put, prefix_plain, prefix_refused, prefix_stopped, prefix_full, prefix_done, enclosed_refused, enclosed_stopped, enclosed_open, enclosed_bad, enclosed_done}
use Rattle.passes.proofs.walk.Walk.+readers.Goals as goal

pub group-returns-in_err-left-clause-goes : goal.group-returns-in_err-left-clause-goes
group-returns-in_err-left-clause-goes g t c =
    rw (err_is c.from_residual.ensures.1) (group_refused _ _ _ _ _ c.args.binary _ _ c.in_err-left.ensures.goes)

pub group-returns-clause-goes : goal.group-returns-clause-goes
group-returns-clause-goes g t c =
    group_grown _ _ _ _ _ c.args.binary _ _ _ _ c.in_ok-left.ensures.goes (grown_at c.args.self c.at.result _ c.at.ensures c.grow.ensures.grown)

pub grow-returns-in_err-first-clause-grown : goal.grow-returns-in_err-first-clause-grown
grow-returns-in_err-first-clause-grown g t c =
    rw (err_is c.from_residual.ensures.1) (record { answer = growing_exit _ _ _ _ _ _ _ _ c.loop-binary.invariant.0 (Err _, g.S.Sink.pool c.loop-binary.sink) (λ j m. turn_refused _ _ _ c.args.binary _ _ (sym c.joins.ensures ∙ c.loop-binary-test.true) _ c.in_err-first.ensures.told j); onward = tt })

pub grow-returns-in_err-right-clause-grown : goal.grow-returns-in_err-right-clause-grown
grow-returns-in_err-right-clause-grown g t c =
    rw (err_is c.from_residual-in_err-right.ensures.1) (record { answer = growing_exit _ _ _ _ _ _ _ _ c.loop-binary.invariant.0 (Err _, g.S.Sink.pool c.operand.new.sink) (λ j m. turn_operand _ _ _ c.args.binary _ _ (sym c.joins.ensures ∙ c.loop-binary-test.true) _ c.in_ok-first.ensures.told c.in_ok-first.ensures.lies.1 (Err _) (g.S.Sink.pool c.operand.new.sink) (goes_at c.args.self c.at.result _ c.at.ensures c.in_err-right.ensures.goes) j m); onward = tt })

pub grow-returns-in_err-node-clause-grown : goal.grow-returns-in_err-node-clause-grown
grow-returns-in_err-node-clause-grown g t c =
    rw (err_is c.from_residual-in_err-node.ensures.1) (record { answer = growing_exit _ _ _ _ _ _ _ _ c.loop-binary.invariant.0 (Err _, g.S.Sink.pool c.put.new.self) (λ j m. turn_put _ _ _ c.args.binary _ _ (sym c.joins.ensures ∙ c.loop-binary-test.true) _ c.in_ok-first.ensures.told c.in_ok-first.ensures.lies.1 _ _ (goes_at c.args.self c.at.result _ c.at.ensures c.in_ok-right.ensures.goes) (Err _, g.S.Sink.pool c.put.new.self) (c.in_err-node.ensures.whole ∙ ap (λ f. g.S.Sink.step f (g.S.Sink.pool c.operand.new.sink)) c.form.ensures) j m); onward = tt })

pub grow-loop-binary-preserved : goal.grow-loop-binary-preserved
grow-loop-binary-preserved g t c =
    (growing_more _ _ _ _ _ _ _ _ c.loop-binary.invariant.0 (record { node = c.in_ok-node.node; next = c.in_ok-right.right.next }) (g.S.Sink.pool c.put.new.self) (goes_at c.args.self c.at.result _ c.at.ensures c.in_ok-right.ensures.goes).onward.0 (omega (arith, c.in_ok-first.ensures.lies.1, (goes_at c.args.self c.at.result _ c.at.ensures c.in_ok-right.ensures.goes).onward.1)) (λ j m. turn_put _ _ _ c.args.binary _ _ (sym c.joins.ensures ∙ c.loop-binary-test.true) _ c.in_ok-first.ensures.told c.in_ok-first.ensures.lies.1 _ _ (goes_at c.args.self c.at.result _ c.at.ensures c.in_ok-right.ensures.goes) (Ok c.in_ok-node.node, g.S.Sink.pool c.put.new.self) (c.in_ok-node.ensures.whole ∙ ap (λ f. g.S.Sink.step f (g.S.Sink.pool c.operand.new.sink)) c.form.ensures) j m), c.put.ensures.lent ∙ c.operand.ensures.lent ∙ c.loop-binary.invariant.1)

pub grow-returns-clause-grown : goal.grow-returns-clause-grown
grow-returns-clause-grown g t c =
    record { answer = growing_exit _ _ _ _ _ _ _ _ c.loop-binary.invariant.0 (Ok (c.loop-binary.part.node, standing c.args.self.reader.now c.loop-binary.part.next), g.S.Sink.pool c.loop-binary.sink) (λ j m. turn_none _ c.args.self.reader.now _ c.args.binary _ _ (sym c.joins.ensures ∙ c.loop-binary-test.false) j); onward = (c.loop-binary.invariant.0.stands, c.loop-binary.invariant.0.far) }

pub repeated-returns-in_err-part-clause-goes : goal.repeated-returns-in_err-part-clause-goes
repeated-returns-in_err-part-clause-goes g t c =
    rw (err_is c.from_residual.ensures.1) (repeated_refused _ _ _ _ _ _ _ c.in_err-part.ensures.goes)

pub repeated-returns-clause-goes : goal.repeated-returns-clause-goes
repeated-returns-clause-goes g t c =
    repeated_grown _ _ _ _ _ _ _ _ _ c.in_ok-part.ensures.goes (grown_at c.args.self c.at.result _ c.at.ensures c.stars.ensures.grown)

pub prefix-returns-in_default-clause-goes : goal.prefix-returns-in_default-clause-goes
prefix-returns-in_default-clause-goes g t c =
    prefix_plain _ c.args.self _ c.in_default.not-Bang _ _ c.repeated.ensures.goes

pub prefix-returns-in_err-inside-clause-goes : goal.prefix-returns-in_err-inside-clause-goes
prefix-returns-in_err-inside-clause-goes g t c =
    rw (err_is c.from_residual.ensures.1) (prefix_refused _ c.args.self _ c.in-Bang.is _ c.in_err-inside.ensures.told)

pub prefix-returns-in_err-part-clause-goes : goal.prefix-returns-in_err-part-clause-goes
prefix-returns-in_err-part-clause-goes g t c =
    rw (err_is c.from_residual-in_err-part.ensures.1) (prefix_stopped _ c.args.self _ c.in-Bang.is c.in_ok-inside.field-0 c.in_ok-inside.ensures.told c.in_ok-inside.ensures.lies _ _ c.in_err-part.ensures.goes)

pub prefix-returns-in_err-node-clause-goes : goal.prefix-returns-in_err-node-clause-goes
prefix-returns-in_err-node-clause-goes g t c =
    rw (err_is c.from_residual-in_err-node.ensures.1) (prefix_full _ c.args.self _ c.in-Bang.is c.in_ok-inside.field-0 c.in_ok-inside.ensures.told c.in_ok-inside.ensures.lies _ _ c.in_ok-part.ensures.goes _ _ c.in_err-node.ensures.whole)

pub prefix-returns-clause-goes : goal.prefix-returns-clause-goes
prefix-returns-clause-goes g t c =
    prefix_done _ c.args.self _ c.in-Bang.is c.in_ok-inside.field-0 c.in_ok-inside.ensures.told c.in_ok-inside.ensures.lies _ _ c.in_ok-part.ensures.goes _ _ c.in_ok-node.ensures.whole

pub base-returns-in-None-clause-goes : goal.base-returns-in-None-clause-goes
base-returns-in-None-clause-goes g t c =
    record { answer = λ k m. ap (λ r. (Err r, g.S.Sink.pool c.args.sink.now)) c.at.ensures ∙ base_refused g.S.Sink.step c.args.self.reader.now c.args.self.levels c.args.self.first (g.S.Sink.pool c.args.sink.now) c.in_default.not-Opening (sym c.in-None.ensures) k m; onward = tt }

pub enclosed-returns-in_err-inside-clause-goes : goal.enclosed-returns-in_err-inside-clause-goes
enclosed-returns-in_err-inside-clause-goes g t c =
    rw (err_is c.from_residual.ensures.1) (enclosed_refused _ c.args.self _ c.requires _ c.in_err-inside.ensures.told)

pub enclosed-returns-in_err-part-clause-goes : goal.enclosed-returns-in_err-part-clause-goes
enclosed-returns-in_err-part-clause-goes g t c =
    rw (err_is c.from_residual-in_err-part.ensures.1) (enclosed_stopped _ c.args.self _ c.requires c.in_ok-inside.field-0 c.in_ok-inside.ensures.told c.in_ok-inside.ensures.lies _ _ c.in_err-part.ensures.goes)

pub enclosed-returns-in_default-clause-goes : goal.enclosed-returns-in_default-clause-goes
enclosed-returns-in_default-clause-goes g t c =
    rw c.at.ensures (enclosed_open _ c.args.self _ c.requires c.in_ok-inside.field-0 c.in_ok-inside.ensures.told c.in_ok-inside.ensures.lies _ _ c.in_ok-part.ensures.goes c.in_default.not-Closing)

pub enclosed-returns-in_err-next-clause-goes : goal.enclosed-returns-in_err-next-clause-goes
enclosed-returns-in_err-next-clause-goes g t c =
    rw (err_is c.from_residual-in_err-next.ensures.1) (enclosed_bad _ c.args.self _ c.requires c.in_ok-inside.field-0 c.in_ok-inside.ensures.told c.in_ok-inside.ensures.lies _ _ c.in_ok-part.ensures.goes c.in-Closing.is _ c.in_err-next.ensures.told)

pub enclosed-returns-clause-goes : goal.enclosed-returns-clause-goes
enclosed-returns-clause-goes g t c =
    enclosed_done _ c.args.self _ c.requires c.in_ok-inside.field-0 c.in_ok-inside.ensures.told c.in_ok-inside.ensures.lies _ _ c.in_ok-part.ensures.goes c.in-Closing.is _ c.in_ok-next.ensures.told c.in_ok-next.ensures.lies
