-- The lines that `classes` prints.
--   hexadecimal k n    the last k hexadecimal digits of n
--   byte_text b        a byte as a sample: its two digits
--   event_text e       an event as a sample: its code and its station, a digit each, and its pressure, four
--   counted n          that there are n classes
--   class_line text k l a   class k, with its sample l as text writes it, and its answer set a, where there are these
-- Assumes nothing.
use Rattle.std.specs.Prelude.{ℕ, zero, suc, ◌/◌, ◌%◌, List, [], ◌∷◌, ◌++◌, codes, decimal, Option, Some, None}
use Rattle.std.specs.Char.{digit_char}
use Rattle.bench.specs.declared.event.Event.{Event}
use Rattle.bench.specs.Events.{code_number, station_number}

unfoldable pub hexadecimal : ℕ → ℕ → List ℕ
hexadecimal zero n = []
hexadecimal (suc k) n = hexadecimal k (n / 16) ++ (digit_char (n % 16) ∷ [])

abbrev pub byte_text : ℕ → List ℕ
byte_text b = hexadecimal 2 b

abbrev pub event_text : Event → List ℕ
event_text e = hexadecimal 1 (code_number e.code) ++ (codes " " ++ (hexadecimal 1 (station_number e.station) ++ (codes " " ++ hexadecimal 4 e.pressure)))

abbrev pub counted : ℕ → List ℕ
counted n = codes "classes " ++ decimal n

abbrev pub class_line : {L : Type 0} → (L → List ℕ) → ℕ → Option L → Option ℕ → Option (List ℕ)
class_line text k (Some l) (Some a) = Some (decimal k ++ (codes " " ++ (text l ++ (codes " " ++ hexadecimal 8 a))))
class_line text k (Some l) None = None
class_line text k None a = None
