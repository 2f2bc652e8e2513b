-- Making alphabets of bytes.
--   Given             a class or a refusal, and the classes afterwards
--   given o           the class that meeting a byte gave, or the refusal 13 where it gave none, and the classes afterwards
--   atoms_in r        the atoms of an alphabet, where there is one
-- Assumes nothing.
use Rattle.std.specs.Prelude.{ℕ, List, Some, None, Result, Ok, Err}
use Rattle.refusals.specs.declared.Refusal.{Refusal}
use Rattle.refusals.specs.declared.Question.TheVariants.{ClassCount}
use Rattle.refusals.specs.Questions.{refusing}
use Rattle.classes.specs.Found.{Found, Out}
use Rattle.cutting.specs.Tests.{in_use}
use Rattle.octets.specs.declared.range.ByteRange.{ByteRange}
use Rattle.octets.specs.declared.alphabet.ByteAlphabet.{ByteAlphabet}

abbrev pub Given : Type 0
Given = Result ℕ Refusal × Found ℕ

abbrev pub given : Out ℕ → Given
given (Some i, f) = (Ok i, f)
given (None, f) = (Err (refusing ClassCount 255), f)

abbrev pub atoms_in : Result ByteAlphabet Refusal → Result (List ByteRange) Refusal
atoms_in (Ok a) = Ok (in_use a.tests)
atoms_in (Err r) = Err r
