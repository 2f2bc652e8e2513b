-- How a node is read: totally, so that every number in every pool is read as some form whose parts are smaller.
--   at p n           the record of node n in the nodes p; node 0, and whatever is not there, is none
--   part n m         the part m of node n: itself if it is smaller than n, else node 0
--   form_by k n l r  the form of node n with the kind k and the fields l and r
--   form_at p n      the form that node n is read as
--   nullable_at p n  the flag of node n
-- Assumes nothing.
use Rattle.std.specs.Prelude.{ℕ, Bool, cond, List, ◌==◌, nat_lt, slice_index_or}
use Rattle.nodes.specs.declared.node.Node.{Node}
use Rattle.nodes.specs.declared.node.NodeKind.{NodeKind}
use Rattle.nodes.specs.declared.node.NodeKind.TheVariants as Kind
use Rattle.nodes.specs.declared.form.Form.{Form}
use Rattle.nodes.specs.Records.{none_node}

abbrev pub at : List Node → ℕ → Node
at p n = cond (n == 0) none_node (slice_index_or p n none_node)

abbrev pub part : ℕ → ℕ → ℕ
part n m = cond (nat_lt m n) m 0

abbrev pub form_by : NodeKind → ℕ → ℕ → ℕ → Form
form_by Kind.None n l r = Form.None
form_by Kind.Empty n l r = Form.Empty
form_by Kind.Any n l r = Form.Any
form_by Kind.Atom n l r = Form.Atom l
form_by Kind.Sequence n l r = Form.Sequence (part n l) (part n r)
form_by Kind.Or n l r = Form.Or (part n l) (part n r)
form_by Kind.And n l r = Form.And (part n l) (part n r)
form_by Kind.Star n l r = Form.Star (part n l)
form_by Kind.Not n l r = Form.Not (part n l)

abbrev pub form_at : List Node → ℕ → Form
form_at p n = form_by (at p n).kind n (at p n).left (at p n).right

abbrev pub nullable_at : List Node → ℕ → Bool
nullable_at p n = (at p n).nullable
