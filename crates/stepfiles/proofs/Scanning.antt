-- What a scan meets at one target and at one mark. Assumes nothing.
use Rattle.std.proofs.Common.{◌≡◌, ℕ, ◌<◌, List, get_or, None, arith}
use Rattle.std.proofs.lemmas.Bool.Decides.{nat_tests}
use Rattle.stepfiles.specs.Layout.{byte_at, word_at, rows_in, row_at, target_at}
use Rattle.stepfiles.specs.Opening.{bad_target_of, bad_mark_of}

-- a target is bad exactly where it is no row
pub target_good : (b : List ℕ) (r c : ℕ) → word_at b (target_at b r c) < rows_in b → bad_target_of b r c ≡ None
target_good b r c below = grind (arith, nat_tests)

pub target_below : (b : List ℕ) (r c : ℕ) → bad_target_of b r c ≡ None → word_at b (target_at b r c) < rows_in b
target_below b r c none = grind (arith, nat_tests)

-- a mark is bad exactly where it is not the one it was held against
pub mark_good : (b ms : List ℕ) (r : ℕ) → byte_at b (row_at b r) ≡ get_or ms r 0 → bad_mark_of b ms r ≡ None
mark_good b ms r same = grind (arith, nat_tests)

pub mark_same : (b ms : List ℕ) (r : ℕ) → bad_mark_of b ms r ≡ None → byte_at b (row_at b r) ≡ get_or ms r 0
mark_same b ms r none = grind (arith, nat_tests)
