use Rattle.std.proofs.Common.{sym, refl, ◌∙◌, inl, inr}
use Rattle.nodes.specs.Pools.{pool_of}
use Rattle.derivatives.proofs.Steps.{step, joins}
use Rattle.derivatives.proofs.walk.+deriving.Goals as goal

pub derive_node-returns-in-None-clause-whole : goal.derive_node-returns-in-None-clause-whole
derive_node-returns-in-None-clause-whole t c k below =
    elim c.in-None.is [
      | inl e ↦ step c.args.answers c.args.node (pool_of c.args.pool.now) (sym e ∙ c.form_at-form.ensures) (λ m w. refl) k below
      | inr e ↦ step c.args.answers c.args.node (pool_of c.args.pool.now) (sym e ∙ c.form_at-form.ensures) (λ m w. refl) k below
    ]

pub derive_node-returns-in-Any-clause-whole : goal.derive_node-returns-in-Any-clause-whole
derive_node-returns-in-Any-clause-whole t c k below =
    step c.args.answers c.args.node (pool_of c.args.pool.now) c.in-Any.ensures (λ m w. refl) k below

pub derive_node-returns-then-has_atom-clause-whole : goal.derive_node-returns-then-has_atom-clause-whole
derive_node-returns-then-has_atom-clause-whole t c k below =
    step c.args.answers c.args.node (pool_of c.args.pool.now) c.in-Atom.ensures (λ m w. rw (← c.if-has_atom.ensures) refl) k below

pub derive_node-returns-else-has_atom-clause-whole : goal.derive_node-returns-else-has_atom-clause-whole
derive_node-returns-else-has_atom-clause-whole t c k below =
    step c.args.answers c.args.node (pool_of c.args.pool.now) c.in-Atom.ensures (λ m w. rw (← c.if-has_atom.ensures) refl) k below

pub derive_node-returns-in-Sequence-clause-whole : goal.derive_node-returns-in-Sequence-clause-whole
derive_node-returns-in-Sequence-clause-whole t c k below =
    step c.args.answers c.args.node (pool_of c.args.pool.now) c.in-Sequence.ensures (λ m w. c.derive_sequence.ensures.whole m w.0 w.1) k below

pub derive_node-returns-in-Star-clause-whole : goal.derive_node-returns-in-Star-clause-whole
derive_node-returns-in-Star-clause-whole t c k below =
    step c.args.answers c.args.node (pool_of c.args.pool.now) c.in-Star.ensures (λ m w. c.derive_star.ensures.whole m w) k below

pub derive_node-returns-in-Not-clause-whole : goal.derive_node-returns-in-Not-clause-whole
derive_node-returns-in-Not-clause-whole t c k below =
    step c.args.answers c.args.node (pool_of c.args.pool.now) c.in-Not.ensures (λ m w. c.derive_not.ensures.whole m w) k below

pub derive_node-returns-in-Or-clause-whole : goal.derive_node-returns-in-Or-clause-whole
derive_node-returns-in-Or-clause-whole t c k below =
    joins c.args.answers c.args.node (pool_of c.args.pool.now) c.in-Or.left c.in-Or.right c.form_at-form.ensures c.in-Or.is (λ m lo hi. rw c.in-Or.form-is at (c.derive_both.ensures.whole m lo hi)) k below
