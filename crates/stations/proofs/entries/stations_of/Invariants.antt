use Rattle.std.proofs.Common.{◌≡◌, true, length, take, drop, []}
use Rattle.stations.specs.Orders.{first_bad, no_repeat, numbers}
use Rattle.stations.proofs.entries.stations_of.Given as goal

abbrev pub invariant-loop-place : goal.invariant-loop-place
invariant-loop-place l = record {
  eight : length l.stations ≡ 8;
  good_so_far : first_bad [] l.entries ≡ first_bad (take l.place l.entries) (drop l.place l.entries);
  apart : no_repeat (take l.place l.entries) ≡ true;
  same : numbers (take l.place l.stations) ≡ take l.place l.entries;
}
