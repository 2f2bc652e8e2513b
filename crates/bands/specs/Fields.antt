-- The fields of an atom's text.
--   one_or_every all b    what the character b stands for: a digit for the thing of all with this number, a dot for every one
--   pressure_at text p    the pressure that four digits spell at the place p of the text
-- Assumes nothing.
use Rattle.std.specs.Prelude.{ℕ, ◌+◌, ◌==◌, cond, List, [], ◌∷◌, Option, Some, None, option_and_then}
use Rattle.std.specs.Option.{option_map}
use Rattle.std.specs.List.{slice_get, slice_range}
use Rattle.cutting.specs.Hexadecimal.{hexadecimal_of}

abbrev pub one_or_every : {T : Type 0} → List T → ℕ → Option (Option T)
one_or_every all b = cond (b == 46) (Some None) (option_map Some (option_and_then (slice_get all) (hexadecimal_of (b ∷ []))))

abbrev pub pressure_at : List ℕ → ℕ → Option ℕ
pressure_at text p = hexadecimal_of (slice_range text p (p + 4))
