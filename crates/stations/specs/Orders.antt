-- Orders of stations: for each station the one that is asked about in its place. An order has eight entries, by the number
-- of the station.
--   straight          the order in which each station stands in its own place
--   numbers o         the numbers of the entries of o
--   among ns n        whether n is one of the numbers ns
--   no_repeat ns      whether each of ns stands there once
--   good ns n         whether the entry n can follow the entries ns: it is the number of a station, and none of them
--   first_bad ns ms   the place of the first of the entries ms that cannot follow those before it, where ns stand before ms
--   accepted ms       the entries ms, or the refusal of the first bad one
--   Out               what filling answers, and the numbers of the order afterwards
--   filled ns ms      the outcome of filling an order of the numbers ns with the entries ms: these, if they are accepted; a
--                     refusal leaves the order as it was. accepted_by and filled_with are steps
--   numbered r        the numbers of the stations that r has, if it is no refusal
--   asked o s         the station that is asked about in place of s
--   asking_for o ss s    the first of the stations ss in whose place s is asked about, if there is one
--   back o s          the station in whose place s is asked about: where no station repeats there is exactly one
--   Undone o          back undoes asked: what is asked about in place of back o s is s
-- Assumes nothing.
use Rattle.std.specs.Prelude.{◌≡◌, ℕ, Bool, true, not, ◌&&◌, ◌==◌, nat_lt, cond, List, [], ◌∷◌, ◌++◌, length, map, Option, Some, None, Result, Ok, Err, unwrap_or, slice_get}
use Rattle.std.specs.List.{find, list_any}
use Rattle.refusals.specs.declared.Refusal.{Refusal}
use Rattle.refusals.specs.declared.Question.TheVariants.{StationOrder}
use Rattle.refusals.specs.Questions.{refusing}
use Rattle.bench.specs.declared.station.Station.{Station}
use Rattle.bench.specs.declared.station.Station.TheVariants.{S0}
use Rattle.bench.specs.Events.{all_stations, station_number}

abbrev pub straight : List Station
straight = all_stations

abbrev pub numbers : List Station → List ℕ
numbers o = map station_number o

abbrev pub among : List ℕ → ℕ → Bool
among ns n = list_any (λ m. m == n) ns

abbrev pub no_repeat : List ℕ → Bool
no_repeat [] = true
no_repeat (n ∷ ns) = not (among ns n) && no_repeat ns

abbrev pub good : List ℕ → ℕ → Bool
good ns n = nat_lt n 8 && not (among ns n)

abbrev pub first_bad : List ℕ → List ℕ → Option ℕ
first_bad ns [] = None
first_bad ns (m ∷ ms) = cond (good ns m) (first_bad (ns ++ (m ∷ [])) ms) (Some (length ns))

abbrev pub accepted_by : Option ℕ → List ℕ → Result (List ℕ) Refusal
accepted_by None ms = Ok ms
accepted_by (Some place) ms = Err (refusing StationOrder place)

abbrev pub accepted : List ℕ → Result (List ℕ) Refusal
accepted ms = accepted_by (first_bad [] ms) ms

abbrev pub Out : Type 0
Out = Result (Unit {0}) Refusal × List ℕ

abbrev pub filled_with : Result (List ℕ) Refusal → List ℕ → Out
filled_with (Ok ms) ns = (Ok tt, ms)
filled_with (Err r) ns = (Err r, ns)

abbrev pub filled : List ℕ → List ℕ → Out
filled ns ms = filled_with (accepted ms) ns

abbrev pub numbered : Result (List Station) Refusal → Result (List ℕ) Refusal
numbered (Ok o) = Ok (numbers o)
numbered (Err r) = Err r

abbrev pub asked : List Station → Station → Station
asked o s = unwrap_or (slice_get o (station_number s)) S0

abbrev pub asking_for : List Station → List Station → Station → Option Station
asking_for o ss s = find (λ from. station_number (asked o from) == station_number s) ss

unfoldable pub back : List Station → Station → Station
back o s = unwrap_or (asking_for o all_stations s) S0

abbrev pub Undone : List Station → Type 0
Undone o = (s : Station) → asked o (back o s) ≡ s
