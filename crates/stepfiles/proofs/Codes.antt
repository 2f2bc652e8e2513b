-- Marks and their numbers. Assumes nothing.
use Rattle.std.proofs.Common.{◌≡◌, ℕ, ◌<◌, true, eqb, List, [], ◌∷◌, map, length, get_or, set, sym, refl, ap, ◌∙◌}
use lib.Bits.{bit_and, bit_or}
use lib.ListN.{length-map}
use Rattle.std.proofs.lemmas.List.{map-set, get_or-map}
use Rattle.languages.specs.declared.marks.Mark.{Mark}
use Rattle.languages.specs.declared.marks.Mark.TheVariants.{Settled, Holds, Open, Lost}
use Rattle.languages.specs.Marks.{number, join}
use Rattle.languages.proofs.Marking.{sees_yes, sees_no}
use Rattle.stepfiles.specs.Coding.{decoded, marks_in, Coded}

pub decoded-number : (m : Mark) → decoded (number m) ≡ m
decoded-number Settled = refl
decoded-number Holds = refl
decoded-number Open = refl
decoded-number Lost = refl

-- joining marks is carrying bits 1 and 2 over
pub number-join : (m n : Mark) → bit_or (number m) (bit_and (number n) 6) ≡ number (join m n)
number-join Settled Settled = refl
number-join Settled Holds = refl
number-join Settled Open = refl
number-join Settled Lost = refl
number-join Holds Settled = refl
number-join Holds Holds = refl
number-join Holds Open = refl
number-join Holds Lost = refl
number-join Open Settled = refl
number-join Open Holds = refl
number-join Open Open = refl
number-join Open Lost = refl
number-join Lost Settled = refl
number-join Lost Holds = refl
number-join Lost Open = refl
number-join Lost Lost = refl

pub marks_in_numbers : (ms : List Mark) → marks_in (map number ms) ≡ ms
unfolding marks_in
marks_in_numbers [] = refl
marks_in_numbers (m ∷ ms) = rw decoded-number (ap (λ xs. m ∷ xs) (marks_in_numbers ms))

pub coded_numbers : (ms : List Mark) → Coded (map number ms)
coded_numbers ms = rw marks_in_numbers

pub length-marks_in : (xs : List ℕ) → length (marks_in xs) ≡ length xs
unfolding marks_in
length-marks_in xs = length-map xs decoded

pub number_at : (xs : List ℕ) (i : ℕ) → Coded xs → i < length xs → get_or xs i 0 ≡ number (get_or (marks_in xs) i Lost)
number_at xs i coded within = ap (λ ys. get_or ys i 0) coded ∙ get_or-map number (marks_in xs) i Lost 0 (rw length-marks_in within)

pub marks_in-set : (xs : List ℕ) (i : ℕ) (m : Mark) → marks_in (set xs i (number m)) ≡ set (marks_in xs) i m
unfolding marks_in
marks_in-set xs i m = map-set decoded xs i (number m) ∙ ap (set (map decoded xs) i) (decoded-number m)

pub coded_set : (xs : List ℕ) (i : ℕ) (m : Mark) → Coded xs → Coded (set xs i (number m))
coded_set xs i m coded = ap (λ ys. set ys i (number m)) coded ∙ sym (map-set number (marks_in xs) i m) ∙ ap (map number) (sym (marks_in-set xs i m))

-- a mark whose number has bits 1 and 2 sees rows of both sorts
pub number_full : (m : Mark) → true ≡ eqb (bit_and (number m) 6) 6 → (sees_yes m ≡ true) × (sees_no m ≡ true)
number_full Settled e = (cc, cc)
number_full Holds e = (refl, refl)
number_full Open e = (refl, refl)
number_full Lost e = (cc, cc)
