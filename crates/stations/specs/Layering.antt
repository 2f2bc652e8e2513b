-- The laws of the layer: what holds of the alphabet below holds of the layer too.
--   asks_below        an event turned back is asked about as itself
--   sampled_above, bounded_above   the law of samples, and that of classes that are not there
-- Assumes nothing.
use Rattle.std.specs.Prelude.{◌≡◌, ℕ, ◌<◌, List, Option}
use Rattle.std.proofs.Common.{ap, ◌∙◌}
use Rattle.std.specs.Option.{option_map}
use Rattle.alphabets.specs.Laws.{Sampled, Bounded}
use Rattle.bench.specs.declared.station.Station.{Station}
use Rattle.bench.specs.declared.event.Event.{Event}
use Rattle.stations.specs.Asking.{asking, turned_back}
use Rattle.stations.specs.Orders.{Undone}

pub asks_below : (o : List Station) → Undone o → (e : Event) → asking o (turned_back o e) ≡ e
asks_below o undone e = ap (λ s. record e { station = s }) (undone e.station)

pub sampled_above : (o : List Station) → Undone o → (n : ℕ) (class : Event → ℕ) (sample : ℕ → Option Event) → Sampled (λ (e : Event). e.pressure < 65536) n class sample → Sampled (λ (e : Event). e.pressure < 65536) n (λ e. class (asking o e)) (λ k. option_map (turned_back o) (sample k))
sampled_above o undone n class sample h k below =
    let s = h k below in
    (turned_back o s.0, ap (option_map (turned_back o)) s.1, s.2, ap class (asks_below o undone s.0) ∙ s.3)

pub bounded_above : (n : ℕ) (answers : ℕ → Option ℕ) (sample : ℕ → Option Event) (turn : Event → Event) → Bounded n answers sample → Bounded n answers (λ k. option_map turn (sample k))
bounded_above n answers sample turn h k past = ((h k past).0, ap (option_map turn) (h k past).1)
