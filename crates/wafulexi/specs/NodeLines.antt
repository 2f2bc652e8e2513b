-- The lines that `nodes` prints.
--   summed r n a      what a reading gave: the root r, n nodes and a atoms
--   node_line n x     node n with the record x: its number, its kind, its parts, and 1 for the flag yes or 0 for no
--   atom_line b n p l atom n, which is the l bytes at the place p of the text b: its number, its place and these bytes
-- Assumes nothing.
use Rattle.std.specs.Prelude.{ℕ, cond, List, ◌++◌, take, drop, codes, decimal}
use Rattle.nodes.specs.declared.node.Node.{Node}
use Rattle.nodes.specs.Records.{kind_word}
use Rattle.wafulexi.specs.Escapes.{escaped}

abbrev pub summed : ℕ → ℕ → ℕ → List ℕ
summed r n a = codes "root " ++ (decimal r ++ (codes " nodes " ++ (decimal n ++ (codes " atoms " ++ decimal a))))

abbrev pub node_line : ℕ → Node → List ℕ
node_line n x =
    decimal n ++ (codes " " ++ (kind_word x.kind
    ++ (codes " " ++ (decimal x.left
    ++ (codes " " ++ (decimal x.right
    ++ (codes " " ++ decimal (cond x.nullable 1 0))))))))

abbrev pub atom_line : List ℕ → ℕ → ℕ → ℕ → List ℕ
atom_line b n p l = codes "atom " ++ (decimal n ++ (codes " " ++ (decimal p ++ (codes " " ++ escaped (take l (drop p b))))))
