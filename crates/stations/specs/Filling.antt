-- What filling an order says.
--   GoodAt ms i     the entry at i is the number of a station, and none of the entries before it is the same
--   FirstBad ms r   the refusal r tells the place of the first entry that is not good
--   Means ms r      what the answer r says of eight entries ms: all are good, or r tells the first that is not
-- Assumes nothing.
use Rattle.std.specs.Prelude.{◌≡◌, ◌≢◌, ℕ, ◌<◌, List, Result, MatchResult, slice_index}
use Rattle.refusals.specs.declared.Refusal.{Refusal}
use Rattle.refusals.specs.declared.Question.TheVariants.{StationOrder}

abbrev pub GoodAt : List ℕ → ℕ → Type 0
GoodAt ms i = (slice_index ms i < 8) × ((j : ℕ) → j < i → slice_index ms j ≢ slice_index ms i)

pub record FirstBad (ms : List ℕ) (r : Refusal) : Type 0 where
  pub question : r.question ≡ StationOrder
  pub place : r.place < 8
  pub bad : ¬ (GoodAt ms r.place)
  pub not_before : (i : ℕ) → i < r.place → GoodAt ms i

abbrev pub Means : List ℕ → Result (Unit {0}) Refusal → Type 0
Means ms r = MatchResult r (λ u. (i : ℕ) → i < 8 → GoodAt ms i) (FirstBad ms)
