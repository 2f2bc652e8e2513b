-- What is written of a number in hexadecimal digits. Assumes nothing.
use Rattle.std.proofs.Common.{◌≡◌, ℕ, zero, suc, ◌-◌, ◌/◌, ◌%◌, ◌^◌, ◌<◌, true, false, nat_lt, List, [], ◌∷◌, ◌++◌, length, replicate, sym, refl, ap, ◌∙◌, append_assoc, append-nil, length-append, arith, ltb-true, ltb-false}
use Rattle.std.proofs.lemmas.List.{length-replicate}
use Rattle.std.specs.Fmt.{digits, digits_onto, format_spec, padded_integral, char_count}
use Rattle.std.specs.Char.{digit_char}
use Rattle.std.proofs.lemmas.Bool.{eq-eqb, ne_eqb}
use Rattle.bench.specs.declared.code.Code.{Code}
use Rattle.bench.specs.declared.code.Code.TheVariants.{C0, C1, C2, C3, C4, C5, C6, C7, C8, C9, C10, C11, C12, C13, C14, C15}
use Rattle.bench.specs.declared.station.Station.{Station}
use Rattle.bench.specs.declared.station.Station.TheVariants.{S0, S1, S2, S3, S4, S5, S6, S7}
use Rattle.bench.specs.Events.{code_number, station_number}
use Rattle.wafulexi.specs.ClassLines.{hexadecimal}

one_more : (k x : ℕ) → replicate k x ++ (x ∷ []) ≡ replicate (suc k) x
one_more zero x = refl
one_more (suc k) x = ap (λ xs. x ∷ xs) (one_more k x)

zeros : (k : ℕ) → hexadecimal k 0 ≡ replicate k 48
unfolding hexadecimal
zeros zero = refl
zeros (suc k) = ap (λ ds. ds ++ (48 ∷ [])) (zeros k) ∙ one_more k 48

size : (k n : ℕ) → length (hexadecimal k n) ≡ k
unfolding hexadecimal
size zero n = refl
size (suc k) n = omega (arith, length-append (hexadecimal k (n / 16)) (digit_char (n % 16) ∷ []), size k (n / 16))

last_digit : (i n : ℕ) (acc : List ℕ) → n < 16 → digits_onto (suc i) 16 false n acc ≡ digit_char (n % 16) ∷ acc
last_digit i n acc one = rw (eq-eqb (n / 16) 0 (omega arith)) refl

more_digits : (i n : ℕ) (acc : List ℕ) → (n < 16 → ⊥) → digits_onto (suc i) 16 false n acc ≡ digits_onto i 16 false (n / 16) (digit_char (n % 16) ∷ acc)
more_digits i n acc more = rw (ne_eqb (n / 16) 0 (λ e. more (omega (arith, e)))) refl

grown : (k n : ℕ) (acc : List ℕ) → hexadecimal (suc k) n ++ acc ≡ hexadecimal k (n / 16) ++ (digit_char (n % 16) ∷ acc)
unfolding hexadecimal
grown k n acc = append_assoc (hexadecimal k (n / 16)) (digit_char (n % 16) ∷ []) acc

by_zeros : (k n : ℕ) (acc : List ℕ) → n < 16 → hexadecimal (suc k) n ++ acc ≡ replicate k 48 ++ (digit_char (n % 16) ∷ acc)
by_zeros k n acc one =
    let none : n / 16 ≡ 0 = omega arith in
    grown k n acc ∙ ap (λ ds. ds ++ (digit_char (n % 16) ∷ acc)) (ap (hexadecimal k) none ∙ zeros k)

-- the digits that are written, behind zeros that fill them up
abbrev Filled : ℕ → ℕ → ℕ → List ℕ → Type 0
Filled k i n acc = (p : ℕ) × (replicate p 48 ++ digits_onto i 16 false n acc ≡ hexadecimal (suc k) n ++ acc)

filled_by_one : (k i n : ℕ) (acc : List ℕ) → n < 16 → Filled k (suc i) n acc
filled_by_one k i n acc one = (k, ap (λ ds. replicate k 48 ++ ds) (last_digit i n acc one) ∙ sym (by_zeros k n acc one))

filled : (k i n : ℕ) (acc : List ℕ) → n < 16 ^ suc k → k < i → Filled k i n acc
filled k zero n acc fits turns = absurd (omega arith)
filled zero (suc i) n acc fits turns = filled_by_one 0 i n acc (omega arith)
filled (suc j) (suc i) n acc fits turns =
    elim (nat_lt n 16) as (λ b. nat_lt n 16 ≡ b → Filled (suc j) (suc i) n acc) [
      | true ↦ λ e. filled_by_one (suc j) i n acc (ltb-true n 16 e)
      | false ↦ λ e.
          let rest = filled j i (n / 16) (digit_char (n % 16) ∷ acc) (omega arith) (omega arith) in
          (rest.0, ap (λ ds. replicate rest.0 48 ++ ds) (more_digits i n acc (λ h. omega (arith, ltb-false n 16 e, h))) ∙ rest.1 ∙ sym (grown (suc j) n acc))
    ] refl

written : (n : ℕ) → digits 16 false n ≡ digits_onto 64 16 false n []
unfolding digits
written n = refl

by_gap : (k n : ℕ) → Filled k 64 n [] → padded_integral (format_spec 32 0 4 (suc k) (2 ^ 64 - 1)) false [] (digits 16 false n) ≡ hexadecimal (suc k) n
unfolding padded_integral char_count
by_gap k n (p, e) =
    let whole : replicate p 48 ++ digits 16 false n ≡ hexadecimal (suc k) n = ap (λ ds. replicate p 48 ++ ds) (written n) ∙ e ∙ append-nil (hexadecimal (suc k) n) in
    let gap : suc k - length (digits 16 false n) - 0 - 0 ≡ p = omega (arith, ap length whole, size (suc k) n, length-append (replicate p 48) (digits 16 false n), length-replicate {A = ℕ} p 48) in
    ap (λ m. replicate m 48 ++ (digits 16 false n ++ [])) gap ∙ ap (λ ds. replicate p 48 ++ ds) (append-nil (digits 16 false n)) ∙ whole

padded : (k n : ℕ) → k < 64 → n < 16 ^ suc k → padded_integral (format_spec 32 0 4 (suc k) (2 ^ 64 - 1)) false [] (digits 16 false n) ≡ hexadecimal (suc k) n
padded k n few fits = by_gap k n (filled k 64 n [] fits (omega arith))

one_digit : (n : ℕ) → n < 16 → digits 16 false n ≡ hexadecimal 1 n
one_digit n small = written n ∙ last_digit 63 n [] small ∙ sym (by_zeros 0 n [] small) ∙ append-nil (hexadecimal 1 n)

pub two_digits : (n : ℕ) → n < 256 → padded_integral (format_spec 32 0 4 2 (2 ^ 64 - 1)) false [] (digits 16 false n) ≡ hexadecimal 2 n
two_digits n small = padded 1 n (omega arith) (omega arith)

pub four_digits : (n : ℕ) → n < 65536 → padded_integral (format_spec 32 0 4 4 (2 ^ 64 - 1)) false [] (digits 16 false n) ≡ hexadecimal 4 n
four_digits n small = padded 3 n (omega arith) (omega arith)

pub eight_digits : (n : ℕ) → n < 2 ^ 32 → padded_integral (format_spec 32 0 4 8 (2 ^ 64 - 1)) false [] (digits 16 false n) ≡ hexadecimal 8 n
eight_digits n small = padded 7 n (omega arith) (omega arith)

code_below : (c : Code) → code_number c < 16
code_below C0 = omega arith
code_below C1 = omega arith
code_below C2 = omega arith
code_below C3 = omega arith
code_below C4 = omega arith
code_below C5 = omega arith
code_below C6 = omega arith
code_below C7 = omega arith
code_below C8 = omega arith
code_below C9 = omega arith
code_below C10 = omega arith
code_below C11 = omega arith
code_below C12 = omega arith
code_below C13 = omega arith
code_below C14 = omega arith
code_below C15 = omega arith

station_below : (s : Station) → station_number s < 16
station_below S0 = omega arith
station_below S1 = omega arith
station_below S2 = omega arith
station_below S3 = omega arith
station_below S4 = omega arith
station_below S5 = omega arith
station_below S6 = omega arith
station_below S7 = omega arith

pub code_digit : (c : Code) → digits 16 false (code_number c) ≡ hexadecimal 1 (code_number c)
code_digit c = one_digit (code_number c) (code_below c)

pub station_digit : (s : Station) → digits 16 false (station_number s) ≡ hexadecimal 1 (station_number s)
station_digit s = one_digit (station_number s) (station_below s)
