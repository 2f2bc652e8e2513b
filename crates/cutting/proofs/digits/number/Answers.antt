use Rattle.std.proofs.Common.{arith}
use Rattle.cutting.proofs.Numbers.{room}
use Rattle.cutting.proofs.digits.number.Goals as goal

pub overflow_mul-number : goal.overflow_mul-number
overflow_mul-number c = let r = room c.loop-byte.number c.loop-byte.byte-index c.loop-byte.invariant.1 (omega arith) in omega arith

pub overflow_add-number : goal.overflow_add-number
overflow_add-number c =
    let r = room c.loop-byte.number c.loop-byte.byte-index c.loop-byte.invariant.1 (omega arith) in omega (arith, c.in_ok-number.ensures.below)
