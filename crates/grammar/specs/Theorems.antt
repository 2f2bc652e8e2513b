-- What is proved of the grammar. Reading a text in order and the grammar, which knows no order, say one thing of it.
--   ReadIsWritten, WrittenIsRead   a rule that is read is written, and one that is written is read
--   OneTree                        a text writes one rule at most
-- Assumes nothing.
use Rattle.std.specs.Prelude.{◌≡◌, ℕ, List, Ok}
use Rattle.languages.specs.Rules.{Rule}
use Rattle.grammar.specs.Grammar.{Written}
use Rattle.grammar.specs.Parsing.{parsed_text}

-- The rule that is read is the one that the text writes.
abbrev pub ReadIsWritten : Type 0
ReadIsWritten = (text : List ℕ) (r : Rule) → parsed_text text ≡ Ok r → Written text r

-- A rule that a text writes is read, so a refusal comes only where nothing is written within the limits.
abbrev pub WrittenIsRead : Type 0
WrittenIsRead = (text : List ℕ) (r : Rule) → Written text r → parsed_text text ≡ Ok r

-- A text writes at most one rule.
abbrev pub OneTree : Type 0
OneTree = (text : List ℕ) (r q : Rule) → Written text r → Written text q → r ≡ q
