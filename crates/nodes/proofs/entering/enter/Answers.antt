use Rattle.std.proofs.Common.{sym, subst}
use Rattle.nodes.specs.Meaning.{means}
use Rattle.nodes.specs.Pools.{pool_of}
use Rattle.nodes.specs.Promises.{Comes}
use Rattle.nodes.proofs.Entered.{comes_entered}
use Rattle.nodes.proofs.entering.enter.Goals as goal

pub returns : goal.returns
returns c =
    let before = pool_of c.args.pool.now in
    record {
      whole = c.enter_form.ensures.whole;
      means = λ sound parts.
          subst (Comes before (means before.used c.args.form)) (sym c.enter_form.ensures.whole) (comes_entered before sound c.args.form parts);
      lent = c.enter_form.ensures.lent;
    }
