-- Where answers change.
--   nearer p stop next     the nearer of stop and next, if stop is above the pressure p
--   change_by c s p next a   the nearer of next and the first pressure above p at which the answer of the atom a to events of
--                          the code c at the station s may change: its first one, or the one behind its last
--   next_change c s p atoms   the first pressure above p at which the answer of some of the atoms may change, or 65536
-- Assumes nothing.
use Rattle.std.specs.Prelude.{ℕ, ◌+◌, ◌&&◌, cond, List, fold, nat_lt}
use Rattle.bench.specs.declared.code.Code.{Code}
use Rattle.bench.specs.declared.station.Station.{Station}
use Rattle.bands.specs.Bands.{stands_at}
use Rattle.bands.specs.declared.atom.EventAtom.{EventAtom}

abbrev pub nearer : ℕ → ℕ → ℕ → ℕ
nearer p stop next = cond (nat_lt p stop && nat_lt stop next) stop next

abbrev pub change_by : Code → Station → ℕ → ℕ → EventAtom → ℕ
change_by c s p next a = cond (stands_at a c s) (nearer p a.first (nearer p (a.last + 1) next)) next

unfoldable pub next_change : Code → Station → ℕ → List EventAtom → ℕ
next_change c s p atoms = fold (change_by c s p) 65536 atoms
