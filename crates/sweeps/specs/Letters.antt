-- The letters of the alphabet, in their order.
--   event_at c s p      the event of the code c at the station s with the pressure p
--   at_station n c s    the events of the code c at the station s whose pressures are below n, by rising pressure
--   at_code n c         the events of the code c whose pressures are below n, by rising station, then pressure
--   events_below n      the events whose pressures are below n, by rising code, then station, then pressure
--   all_events          every event that there is, in this order
-- Assumes nothing.
use Rattle.std.specs.Prelude.{ℕ, List, map}
use Rattle.std.specs.List.{flat_map}
use Rattle.bench.specs.Events.{all_codes, all_stations}
use Rattle.bench.specs.declared.code.Code.{Code}
use Rattle.bench.specs.declared.event.Event.{Event}
use Rattle.bench.specs.declared.station.Station.{Station}
use Rattle.classes.specs.Rising.{rising}

abbrev pub event_at : Code → Station → ℕ → Event
event_at c s p = record { code = c; station = s; pressure = p }

abbrev pub at_station : ℕ → Code → Station → List Event
at_station n c s = map (event_at c s) (rising 0 n)

unfoldable pub at_code : ℕ → Code → List Event
at_code n c = flat_map (at_station n c) all_stations

unfoldable pub events_below : ℕ → List Event
events_below n = flat_map (at_code n) all_codes

unfoldable pub all_events : List Event
all_events = events_below 65536
