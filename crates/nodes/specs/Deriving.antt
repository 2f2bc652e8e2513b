-- The derivative of a node by an answer set: what is answered, and the pool afterwards.
--   or_right rec e r q h      q, and by an or the derivative of the right part r, if the left part's flag e is set
--   derived_by rec s n p f h  one step, for the node n that the nodes p read as f; rec derives a smaller node
--   derived k s n h           the derivative, going down at most k nodes
--   derivation s n h          the derivative of node n: no part of it is deeper than its number
-- Assumes nothing.
use Rattle.std.specs.Prelude.{ℕ, zero, suc, Bool, true, false, cond, List, Ok}
use Rattle.languages.specs.Rules.{has}
use Rattle.nodes.specs.declared.node.Node.{Node}
use Rattle.nodes.specs.declared.form.Form.{Form}
use Rattle.nodes.specs.Reading.{form_at, nullable_at}
use Rattle.nodes.specs.Entering.{Held, Out, bind, entered}

-- What a sequence adds where the empty list is in its left part: the right part's derivative.
abbrev pub or_right : (ℕ → Held → Out) → Bool → ℕ → ℕ → Held → Out
or_right rec false r q h = (Ok q, h)
or_right rec true r q h = bind (rec r h) (λ e g. entered (Form.Or q e) g)

abbrev pub derived_by : (ℕ → Held → Out) → ℕ → ℕ → List Node → Form → Held → Out
derived_by rec s n p Form.None h = (Ok 0, h)
derived_by rec s n p Form.Empty h = (Ok 0, h)
derived_by rec s n p Form.Any h = (Ok 1, h)
derived_by rec s n p (Form.Atom k) h = (Ok (cond (has k s) 1 0), h)
derived_by rec s n p (Form.Sequence l r) h =
    bind (rec l h) (λ d g. bind (entered (Form.Sequence d r) g) (λ q i. or_right rec (nullable_at p l) r q i))
derived_by rec s n p (Form.Or l r) h = bind (rec l h) (λ d g. bind (rec r g) (λ e i. entered (Form.Or d e) i))
derived_by rec s n p (Form.And l r) h = bind (rec l h) (λ d g. bind (rec r g) (λ e i. entered (Form.And d e) i))
derived_by rec s n p (Form.Star l) h = bind (rec l h) (λ d g. entered (Form.Sequence d n) g)
derived_by rec s n p (Form.Not l) h = bind (rec l h) (λ d g. entered (Form.Not d) g)

unfoldable pub derived : ℕ → ℕ → ℕ → Held → Out
derived zero s n h = (Ok 0, h)
derived (suc k) s n h = derived_by (derived k s) s n h.used (form_at h.used n) h

abbrev pub derivation : ℕ → ℕ → Held → Out
derivation s n h = derived (suc n) s n h
