-- The atoms before the place of the iterator are found, and the others lie behind it.
use Rattle.std.proofs.Common.{◌≡◌}
use Rattle.surveys.specs.Entries.{listed}
use Rattle.surveys.specs.Padding.{IsPadded}
use Rattle.surveys.proofs.Scanning.{Found}
use Rattle.surveys.proofs.scan.survey.Given as goal

abbrev pub invariant-loop-lexeme : goal.invariant-loop-lexeme
invariant-loop-lexeme l = Found l.text (listed l.atoms) l.lexeme-iterator.at × (l.lexeme-iterator.text.now ≡ l.text) × IsPadded l.atoms.count l.atoms.entries
