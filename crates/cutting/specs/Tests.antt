-- The atoms of a rule.
--   in_use t    the atoms of t, by number
-- Assumes nothing.
use Rattle.std.specs.Prelude.{List, take}
use Rattle.cutting.specs.declared.tests.Tests.{Tests}

abbrev pub in_use : {A : Type 0} → Tests A → List A
in_use t = take t.count t.atoms
