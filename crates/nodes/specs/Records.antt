-- The records of nodes.
--   kind_number k    the number of a kind
--   kind_word k      the word for a kind
--   KindNumbered n r   r is the kind with the number n, or says that no kind has it
--   same_kind k l    k and l have the same number
--   same_flag a b    a and b are the same
--   same_node x y    x and y agree in every field
--   node_text x      x in text: the numbers of its kind and of its parts, and 1 for the flag yes or 0 for no
--   unknown_kind_text e   what is said of a number that no kind has
--   none_node, empty_node, any_node, all_node   the records of the nodes 0 to 3: none, empty, any, and not of 0
--   first_nodes      these four, in their order
-- Assumes nothing.
use Rattle.std.specs.Prelude.{◌≡◌, ℕ, ◌<◌, Result, MatchResult, Bool, true, false, cond, ◌&&◌, List, [], ◌∷◌, ◌++◌, ◌==◌, codes, decimal}
use Rattle.std.specs.Bool.{beq}
use Rattle.nodes.specs.declared.node.Node.{Node}
use Rattle.nodes.specs.declared.node.NodeKind.{NodeKind}
use Rattle.nodes.specs.declared.node.UnknownKind.{UnknownKind}
use Rattle.nodes.specs.declared.node.NodeKind.TheVariants.{None, Empty, Any, Atom, Sequence, Or, And, Star, Not}

abbrev pub kind_number : NodeKind → ℕ
kind_number None = 0
kind_number Empty = 1
kind_number Any = 2
kind_number Atom = 3
kind_number Sequence = 4
kind_number Or = 5
kind_number And = 6
kind_number Star = 7
kind_number Not = 8

abbrev pub kind_word : NodeKind → List ℕ
kind_word None = codes "none"
kind_word Empty = codes "empty"
kind_word Any = codes "any"
kind_word Atom = codes "atom"
kind_word Sequence = codes "sequence"
kind_word Or = codes "or"
kind_word And = codes "and"
kind_word Star = codes "star"
kind_word Not = codes "not"

abbrev pub unknown_kind_text : UnknownKind → List ℕ
unknown_kind_text e = codes "no kind of node has the number " ++ decimal e.0

abbrev pub KindNumbered : ℕ → Result NodeKind UnknownKind → Type 0
KindNumbered n r = MatchResult r (λ k. kind_number k ≡ n) (λ e. (e.0 ≡ n) × (8 < n))

abbrev pub same_kind : NodeKind → NodeKind → Bool
same_kind k l = kind_number k == kind_number l

abbrev pub same_flag : Bool → Bool → Bool
same_flag a b = beq a b

abbrev pub same_node : Node → Node → Bool
same_node x y = same_kind x.kind y.kind && (x.left == y.left && (x.right == y.right && same_flag x.nullable y.nullable))

abbrev pub node_text : Node → List ℕ
node_text x =
    decimal (kind_number x.kind) ++ (codes " " ++ (decimal x.left
    ++ (codes " " ++ (decimal x.right
    ++ (codes " " ++ decimal (cond x.nullable 1 0))))))

abbrev pub none_node : Node
none_node = record { kind = None; left = 0; right = 0; nullable = false }

abbrev pub empty_node : Node
empty_node = record { kind = Empty; left = 0; right = 0; nullable = true }

abbrev pub any_node : Node
any_node = record { kind = Any; left = 0; right = 0; nullable = false }

abbrev pub all_node : Node
all_node = record { kind = Not; left = 0; right = 0; nullable = true }

abbrev pub first_nodes : List Node
first_nodes = none_node ∷ empty_node ∷ any_node ∷ all_node ∷ []
