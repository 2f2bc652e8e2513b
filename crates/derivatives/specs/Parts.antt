-- What is made of the parts of a form and of their derivatives.
--   second_part p l r    the part of the sequence of l and r that is derived second: the right one, if the left one's
--                        flag is set
--   rejoined f d e       the derivatives d and e of the parts of the form f, an or or an and, as f joins its parts
-- Assumes nothing.
use Rattle.std.specs.Prelude.{ℕ, List, Option}
use Rattle.std.specs.Bool.{then_some}
use Rattle.nodes.specs.declared.node.Node.{Node}
use Rattle.nodes.specs.declared.form.Form.{Form}
use Rattle.nodes.specs.Reading.{nullable_at}

abbrev pub second_part : List Node → ℕ → ℕ → Option ℕ
second_part p l r = then_some (nullable_at p l) r

abbrev pub rejoined : Form → ℕ → ℕ → Form
rejoined (Form.And l r) d e = Form.And d e
rejoined f d e = Form.Or d e
