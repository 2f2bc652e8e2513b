-- Numbers in digits, one digit after the other.
-- Assumes nothing.
use Rattle.std.proofs.Common.{◌≡◌, ℕ, suc, ◌+◌, ◌*◌, ◌^◌, ◌<◌, ◌≤◌, List, ◌∷◌, length, get_or, drop, Some, None, Option, add-one, ap, arith, drop-cons}
use Rattle.std.proofs.Math.Nat.{pow-le-pow_right}
use Rattle.cutting.specs.Hexadecimal.{digit_of, read_on}

digit_first : (n d : ℕ) (ds : List ℕ) (o : Option ℕ) → digit_of d ≡ o → read_on n (d ∷ ds) ≡ elim o as (λ z. Option ℕ) [ None ↦ None | Some v ↦ read_on (n * 16 + v) ds ]
unfolding read_on
digit_first n d ds o h = ap (λ (o : Option ℕ). elim o as (λ z. Option ℕ) [ None ↦ None | Some v ↦ read_on (n * 16 + v) ds ]) h

pub digit_read : (n : ℕ) (ds : List ℕ) (i v : ℕ) → i < length ds → digit_of (get_or ds i 0) ≡ Some v → read_on n (drop i ds) ≡ read_on (n * 16 + v) (drop (i + 1) ds)
digit_read n ds i v l h = rw (add-one, drop-cons ds i 0) (digit_first n (get_or ds i 0) (drop (suc i) ds) (Some v) h)

pub no_digit : (n : ℕ) (ds : List ℕ) (i : ℕ) → i < length ds → digit_of (get_or ds i 0) ≡ None → read_on n (drop i ds) ≡ None
no_digit n ds i l h = rw (drop-cons ds i 0) (digit_first n (get_or ds i 0) (drop (suc i) ds) None h)

pub room : (n i : ℕ) → n < 16 ^ i → i < 4 → n < 4096
room n i h l = let one : 0 < 16 = omega arith in let few : i ≤ 3 = omega arith in let most = pow-le-pow_right {n = 16} one few in omega arith
