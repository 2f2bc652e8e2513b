-- Entering a whole rule: the left part, the right part, then the node.
--   entered_tree r h   the rule r, entered into the pool h
--   Few r              every atom of r is below 32
-- Assumes nothing.
use Rattle.std.specs.Prelude.{◌<◌}
use Rattle.languages.specs.Rules.{Rule, none, empty, any, atom, sequence, or, and, star, not}
use Rattle.nodes.specs.declared.form.Form.TheVariants as Form
use Rattle.nodes.specs.Entering.{Held, Out, bind, entered}

abbrev pub entered_tree : Rule → Held → Out
entered_tree none h = entered Form.None h
entered_tree empty h = entered Form.Empty h
entered_tree any h = entered Form.Any h
entered_tree (atom k) h = entered (Form.Atom k) h
entered_tree (sequence r q) h = bind (entered_tree r h) (λ l g. bind (entered_tree q g) (λ m i. entered (Form.Sequence l m) i))
entered_tree (or r q) h = bind (entered_tree r h) (λ l g. bind (entered_tree q g) (λ m i. entered (Form.Or l m) i))
entered_tree (and r q) h = bind (entered_tree r h) (λ l g. bind (entered_tree q g) (λ m i. entered (Form.And l m) i))
entered_tree (star r) h = bind (entered_tree r h) (λ l g. entered (Form.Star l) g)
entered_tree (not r) h = bind (entered_tree r h) (λ l g. entered (Form.Not l) g)

abbrev pub Few : Rule → Type 0
Few none = Unit {0}
Few empty = Unit {0}
Few any = Unit {0}
Few (atom k) = k < 32
Few (sequence r q) = Few r × Few q
Few (or r q) = Few r × Few q
Few (and r q) = Few r × Few q
Few (star r) = Few r
Few (not r) = Few r
