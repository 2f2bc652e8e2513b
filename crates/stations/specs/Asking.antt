-- Asking about events of a bench whose hoses are crossed.
--   asking o e        the event that is asked about in place of e: the same at the station that o has in place of e's
--   turned_back o e   the event in whose place e is asked about
-- Assumes nothing.
use Rattle.std.specs.Prelude.{List}
use Rattle.bench.specs.declared.station.Station.{Station}
use Rattle.bench.specs.declared.event.Event.{Event}
use Rattle.stations.specs.Orders.{asked, back}

abbrev pub asking : List Station → Event → Event
asking o e = record e { station = asked o e.station }

abbrev pub turned_back : List Station → Event → Event
turned_back o e = record e { station = back o e.station }
