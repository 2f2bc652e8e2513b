-- Bench events, their codes and stations.
--   all_codes, all_stations   each of them, by number
--   code_number c, station_number s   their numbers
--   NamesCode n r, NamesStation n r   r is the code, or the station, whose number is n, or the error that none has it
--   unknown_code e, unknown_station e   what that error says
--   event_of c s p   the event of a code, a station and a pressure, or the refusal where one of the first two is missing
-- Assumes nothing.
use Rattle.std.specs.Prelude.{◌≡◌, ℕ, ◌<◌, List, [], ◌∷◌, Option, Some, Result, Ok, Err, MatchResult, ◌++◌, codes, decimal}
use Rattle.refusals.specs.declared.Refusal.{Refusal}
use Rattle.refusals.specs.declared.Question.TheVariants.{EventRange}
use Rattle.refusals.specs.Questions.{refusing}
use Rattle.bench.specs.declared.code.Code.{Code}
use Rattle.bench.specs.declared.code.Code.TheVariants.{C0, C1, C2, C3, C4, C5, C6, C7, C8, C9, C10, C11, C12, C13, C14, C15}
use Rattle.bench.specs.declared.station.Station.{Station}
use Rattle.bench.specs.declared.station.Station.TheVariants.{S0, S1, S2, S3, S4, S5, S6, S7}
use Rattle.bench.specs.declared.code.UnknownCode.{UnknownCode}
use Rattle.bench.specs.declared.station.UnknownStation.{UnknownStation}
use Rattle.bench.specs.declared.event.Event.{Event}

abbrev pub all_codes : List Code
all_codes = C0 ∷ C1 ∷ C2 ∷ C3 ∷ C4 ∷ C5 ∷ C6 ∷ C7 ∷ C8 ∷ C9 ∷ C10 ∷ C11 ∷ C12 ∷ C13 ∷ C14 ∷ C15 ∷ []

abbrev pub all_stations : List Station
all_stations = S0 ∷ S1 ∷ S2 ∷ S3 ∷ S4 ∷ S5 ∷ S6 ∷ S7 ∷ []

abbrev pub code_number : Code → ℕ
code_number C0 = 0
code_number C1 = 1
code_number C2 = 2
code_number C3 = 3
code_number C4 = 4
code_number C5 = 5
code_number C6 = 6
code_number C7 = 7
code_number C8 = 8
code_number C9 = 9
code_number C10 = 10
code_number C11 = 11
code_number C12 = 12
code_number C13 = 13
code_number C14 = 14
code_number C15 = 15

abbrev pub station_number : Station → ℕ
station_number S0 = 0
station_number S1 = 1
station_number S2 = 2
station_number S3 = 3
station_number S4 = 4
station_number S5 = 5
station_number S6 = 6
station_number S7 = 7

abbrev pub NamesCode : ℕ → Result Code UnknownCode → Type 0
NamesCode n r = MatchResult r (λ c. code_number c ≡ n) (λ e. (e.0 ≡ n) × (15 < n))

abbrev pub NamesStation : ℕ → Result Station UnknownStation → Type 0
NamesStation n r = MatchResult r (λ s. station_number s ≡ n) (λ e. (e.0 ≡ n) × (7 < n))

abbrev pub unknown_code : UnknownCode → List ℕ
unknown_code e = codes "no code has the number " ++ decimal e.0

abbrev pub unknown_station : UnknownStation → List ℕ
unknown_station e = codes "no station has the number " ++ decimal e.0

abbrev pub event_of : Option Code → Option Station → ℕ → Result Event Refusal
event_of (Some c) (Some s) p = Ok (record { code = c; station = s; pressure = p })
event_of _ _ p = Err (refusing EventRange 0)
