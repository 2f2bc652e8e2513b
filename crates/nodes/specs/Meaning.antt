-- What a node means: a rule.
--   rule_of known f   the rule of a form over rules that are known by their numbers
--   meanings known p  the known rules, and then those of the nodes p, each over the ones before it
--   meaning p n       the rule that node n of p means
--   means p f         the rule of a form over the nodes p
-- Assumes nothing.
use Rattle.std.specs.Prelude.{ℕ, List, [], ◌∷◌, ◌++◌, length, slice_index_or}
use Rattle.languages.specs.Rules.{Rule}
use Rattle.nodes.specs.declared.node.Node.{Node}
use Rattle.nodes.specs.declared.form.Form.{Form}
use Rattle.nodes.specs.Reading.{form_by}

abbrev pub rule_of : List Rule → Form → Rule
rule_of known Form.None = Rule.none
rule_of known Form.Empty = Rule.empty
rule_of known Form.Any = Rule.any
rule_of known (Form.Atom k) = Rule.atom k
rule_of known (Form.Sequence l r) = Rule.sequence (slice_index_or known l Rule.none) (slice_index_or known r Rule.none)
rule_of known (Form.Or l r) = Rule.or (slice_index_or known l Rule.none) (slice_index_or known r Rule.none)
rule_of known (Form.And l r) = Rule.and (slice_index_or known l Rule.none) (slice_index_or known r Rule.none)
rule_of known (Form.Star l) = Rule.star (slice_index_or known l Rule.none)
rule_of known (Form.Not l) = Rule.not (slice_index_or known l Rule.none)

abbrev pub meanings : List Rule → List Node → List Rule
meanings known [] = known
meanings known (x ∷ xs) = meanings (known ++ (rule_of known (form_by x.kind (length known) x.left x.right) ∷ [])) xs

abbrev pub meaning : List Node → ℕ → Rule
meaning p n = slice_index_or (meanings [] p) n Rule.none

abbrev pub means : List Node → Form → Rule
means p f = rule_of (meanings [] p) f
