use Rattle.std.proofs.Common.{suc, sym, subst, arith}
use Rattle.languages.specs.Rules.{derivative}
use Rattle.nodes.specs.Meaning.{meaning}
use Rattle.nodes.specs.Pools.{pool_of}
use Rattle.nodes.specs.Promises.{Comes}
use Rattle.nodes.proofs.Deriving.{comes_derived}
use Rattle.derivatives.proofs.walk.derive.Goals as goal

pub returns : goal.returns
returns c =
    let before = pool_of c.args.pool.now in
    let node = c.args.node in
    let answers = c.args.answers in
    let whole = c.derive_node.ensures.whole (suc node) (omega arith) in
    record {
      whole = whole;
      means = λ sound there.
          subst (Comes before (derivative answers (meaning before.used node))) (sym whole) (comes_derived (suc node) answers node before sound there (omega arith));
      lent = c.derive_node.ensures.lent;
    }
