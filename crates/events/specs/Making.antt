-- Making alphabets of bench events.
--   atoms_in r          the atoms of an alphabet, where there is one
-- Assumes nothing.
use Rattle.std.specs.Prelude.{List, Result, Ok, Err}
use Rattle.refusals.specs.declared.Refusal.{Refusal}
use Rattle.cutting.specs.Tests.{in_use}
use Rattle.bands.specs.declared.atom.EventAtom.{EventAtom}
use Rattle.events.specs.declared.alphabet.EventAlphabet.{EventAlphabet}

abbrev pub atoms_in : Result EventAlphabet Refusal → Result (List EventAtom) Refusal
atoms_in (Ok a) = Ok (in_use a.tests)
atoms_in (Err r) = Err r
