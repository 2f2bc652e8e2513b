use Rattle.std.proofs.Common.{◌≡◌, ◌/◌, ◌^◌, ◌<◌, ◌≤◌, lt_of_lt_of_le, arith, pow_mono}
use Rattle.std.proofs.lemmas.Bool.{le-ltb}
use native.Mathlib.Nat.{div-eq_of_lt}
use Rattle.derivatives.proofs.answer.has_atom.Goals as goal

pub returns-else-from-lt-MOST_ATOMS : goal.returns-else-from-lt-MOST_ATOMS
returns-else-from-lt-MOST_ATOMS c =
    let small : c.args.answers < 2 ^ 32 = omega arith in
    let past : 32 ≤ c.args.atom = rw c.from.ensures at c.if-from-lt-MOST_ATOMS.false in
    let none : c.args.answers / 2 ^ c.args.atom ≡ 0 = div-eq_of_lt (lt_of_lt_of_le small (pow_mono past)) in
    rw (c.from.ensures, le-ltb c.args.atom 32 past, none)
