use Rattle.std.proofs.Common.{◌≡◌, ◌≤◌, length, take}
use Rattle.cutting.specs.Tests.{in_use}
use Rattle.classes.specs.Found.{found}
use Rattle.octets.proofs.Tabling.{so_far, filled}
use Rattle.octets.proofs.making.alphabet.Given as goal

abbrev pub invariant-loop-byte : goal.invariant-loop-byte
invariant-loop-byte l = record {
  met : found l.found ≡ so_far (in_use l.tests) l.byte;
  few : length (so_far (in_use l.tests) l.byte).samples ≤ 255;
  table : take l.byte l.class-items ≡ filled (in_use l.tests) l.byte;
}
