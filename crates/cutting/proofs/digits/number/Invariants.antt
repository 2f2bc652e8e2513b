use Rattle.std.proofs.Common.{◌≡◌, ◌<◌, ◌^◌, drop}
use Rattle.cutting.specs.Hexadecimal.{read_on}
use Rattle.cutting.proofs.digits.number.Given as goal

abbrev pub invariant-loop-byte : goal.invariant-loop-byte
invariant-loop-byte l = (read_on 0 l.digits ≡ read_on l.number (drop l.byte-index l.digits)) × (l.number < 16 ^ l.byte-index)
