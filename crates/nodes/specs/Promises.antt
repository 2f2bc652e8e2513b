-- What entering and deriving mean, for sound pools.
--   Parts n f       f can be entered over n nodes: its parts are below n, its atom is below 32
--   Grown p q       q is p and more behind it: what stood in p keeps its number
--   Comes h r o     the outcome o, from the pool h, comes to the rule r: the pool is sound still, every node of before
--                   keeps its place and meaning, and a node answered is there and has the language of r
--   EnteringMeans f h o      entering the form f comes to f over the rules of its parts
--   DerivingMeans s n h o    deriving the node n by the answer set s comes to the derivative of its rule
-- Assumes nothing.
use Rattle.std.specs.Prelude.{◌≡◌, ℕ, ◌<◌, List, ◌++◌, length, IfOk}
use Rattle.languages.specs.Rules.{Rule, Same, derivative}
use Rattle.nodes.specs.declared.node.Node.{Node}
use Rattle.nodes.specs.declared.form.Form.{Form}
use Rattle.nodes.specs.Entering.{Held, Out}
use Rattle.nodes.specs.Soundness.{Sound}
use Rattle.nodes.specs.Meaning.{meaning, means}

abbrev pub Parts : ℕ → Form → Type 0
Parts n Form.None = Unit {0}
Parts n Form.Empty = Unit {0}
Parts n Form.Any = Unit {0}
Parts n (Form.Atom k) = k < 32
Parts n (Form.Sequence l r) = (l < n) × (r < n)
Parts n (Form.Or l r) = (l < n) × (r < n)
Parts n (Form.And l r) = (l < n) × (r < n)
Parts n (Form.Star l) = l < n
Parts n (Form.Not l) = l < n

abbrev pub Grown : List Node → List Node → Type 0
Grown p q = (new : List Node) × (q ≡ p ++ new)

pub record Comes (h : Held) (r : Rule) (o : Out) : Type 0 where
  pub sound : Sound o.1.used
  pub grown : Grown h.used o.1.used
  pub keeps : (n : ℕ) → n < length h.used → meaning o.1.used n ≡ meaning h.used n
  pub answer : IfOk o.0 (λ n. (n < length o.1.used) × Same (meaning o.1.used n) r)

abbrev pub EnteringMeans : Form → Held → Out → Type 0
EnteringMeans f h o = Sound h.used → Parts (length h.used) f → Comes h (means h.used f) o

abbrev pub DerivingMeans : ℕ → ℕ → Held → Out → Type 0
DerivingMeans s n h o = Sound h.used → n < length h.used → Comes h (derivative s (meaning h.used n)) o
