-- What the exit of a `?` answers.
-- Assumes nothing.
use Rattle.std.proofs.Common.{◌≡◌, Ok, Err, Result, ap}
use Rattle.std.specs.Result.{IsErrAnd}

pub err_is : {T E : Type 0} {e : E} {r : Result T E} → IsErrAnd r (λ y. y ≡ e) → r ≡ Err e
err_is {r = Ok x} same = absurd same
err_is {r = Err y} same = ap (λ y. Err y) same
