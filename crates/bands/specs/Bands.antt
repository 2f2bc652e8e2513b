-- The atoms of bench events.
--   has_form text        the text has twelve characters, a colon behind the code and the station, a dash between the pressures
--   spelled c s p q      the atom whose fields stand for c, s, p and q, if each of them stands for something
--   event_atom text      the atom that the text spells, if it has the form of one
--   in_order a           its first pressure is at most its last
--   wanted o n k         the number n of what is asked for is k, or nothing is asked for
--   stands_at a c s      it is about the code c and the station s
--   in_range a p         the pressure p is from its first to its last
--   admitted a e         it admits the event e
-- Assumes nothing.
use Rattle.std.specs.Prelude.{ℕ, Bool, true, ◌==◌, ◌&&◌, cond, List, length, Option, Some, None, nat_le, slice_index}
use Rattle.bench.specs.Events.{all_codes, all_stations, code_number, station_number}
use Rattle.bench.specs.declared.code.Code.{Code}
use Rattle.bench.specs.declared.event.Event.{Event}
use Rattle.bench.specs.declared.station.Station.{Station}
use Rattle.bands.specs.Fields.{one_or_every, pressure_at}
use Rattle.bands.specs.declared.atom.EventAtom.{EventAtom}

abbrev pub has_form : List ℕ → Bool
has_form text = (length text == 12) && (slice_index text 2 == 58) && (slice_index text 7 == 45)

abbrev pub spelled : Option (Option Code) → Option (Option Station) → Option ℕ → Option ℕ → Option EventAtom
spelled None s p q = None
spelled (Some c) None p q = None
spelled (Some c) (Some s) None q = None
spelled (Some c) (Some s) (Some p) None = None
spelled (Some c) (Some s) (Some p) (Some q) = Some (record { code = c; station = s; first = p; last = q })

abbrev pub event_atom : List ℕ → Option EventAtom
event_atom text = cond (has_form text) (spelled (one_or_every all_codes (slice_index text 0)) (one_or_every all_stations (slice_index text 1)) (pressure_at text 3) (pressure_at text 8)) None

abbrev pub in_order : EventAtom → Bool
in_order a = nat_le a.first a.last

abbrev pub wanted : {T : Type 0} → (T → ℕ) → Option T → T → Bool
wanted number None x = true
wanted number (Some y) x = number y == number x

abbrev pub stands_at : EventAtom → Code → Station → Bool
stands_at a c s = wanted code_number a.code c && wanted station_number a.station s

abbrev pub in_range : EventAtom → ℕ → Bool
in_range a p = nat_le a.first p && nat_le p a.last

abbrev pub admitted : EventAtom → Event → Bool
admitted a e = stands_at a e.code e.station && in_range a e.pressure
