-- Why as many passes as rows are enough: a pass that changes any mark makes one more of them full.
--   rank ms       how many of ms are full
--   Still t ms k  the rows below k gather what ms has
-- Assumes nothing.
use Rattle.std.proofs.Common.{◌≡◌, ℕ, zero, suc, ◌+◌, ◌-◌, ◌<◌, ◌≤◌, Bool, true, false, cond, ◌⊎◌, List, length, get_or, set, sum_by, sym, refl, ap, ◌∙◌, inl, inr, not-suc-le-zero, arith, below_more}
use Rattle.std.proofs.lemmas.List.{length-set, set-get_or}
use Rattle.std.proofs.ByRecursion.{All-from_get_or, sum_by_le}
use Rattle.std.proofs.lemmas.List.Sums.{sum_by-set}
use Rattle.std.proofs.lemmas.Bool.{and_parts, cond_both, cond-true, cond-false}
use Rattle.languages.specs.declared.marks.Mark.{Mark}
use Rattle.languages.specs.declared.marks.Mark.TheVariants.{Lost}
use Rattle.languages.specs.Tables.{Table}
use Rattle.languages.specs.Marks.{gathered, passed_below, passes, begun, worked}
use Rattle.languages.proofs.Marking.{sees_yes, sees_no, full, same_mark}
use Rattle.languages.proofs.Passing.{accepted_gathered, gathered_full, passes_add, passes_still, length-passed_below, length-begun, length-worked}

weight : Mark → ℕ
weight m = cond (full m) 1 0

weight_le : (m : Mark) → weight m ≤ 1
unfolding weight
weight_le m = cond_both (full m) 1 0 (λ x. x ≤ 1) (λ e. omega arith) (λ e. omega arith)

rank : List Mark → ℕ
rank ms = sum_by weight ms

rank_le : (ms : List Mark) → rank ms ≤ length ms
unfolding rank
rank_le ms = omega (arith, sum_by_le weight 1 ms (All-from_get_or (λ m. weight m ≤ 1) ms Lost (λ i h. weight_le (get_or ms i Lost))))

rank_gains : (ms : List Mark) (r : ℕ) (m : Mark) → r < length ms → full (get_or ms r Lost) ≡ false → full m ≡ true → rank ms < rank (set ms r m)
unfolding rank weight
rank_gains ms r m h e f =
    omega (arith, sum_by-set weight ms r m Lost h, cond-false {A = ℕ} (full (get_or ms r Lost)) 1 0 e, cond-true {A = ℕ} (full m) 1 0 f)

abbrev pub Still : Table → List Mark → ℕ → Type 0
Still t ms k = (r : ℕ) → r < k → gathered t ms r t.classes ≡ get_or ms r Lost

module _ (t : Table) where
  still_passed_below : (k : ℕ) (ms : List Mark) → Still t ms k → passed_below t k ms ≡ ms
  unfolding passed_below
  still_passed_below zero ms still = refl
  still_passed_below (suc k) ms still =
      ap (passed_below t k) (ap (set ms k) (still k (omega arith)) ∙ set-get_or ms k Lost) ∙ still_passed_below k ms (λ r h. still r (omega arith))

  -- A row gathers what it has, or gains.
  row_gains : (ms : List Mark) (r : ℕ) → r < length ms →
      (gathered t ms r t.classes ≡ get_or ms r Lost) ⊎ (rank ms < rank (set ms r (gathered t ms r t.classes)))
  row_gains ms r h = go (full (get_or ms r Lost)) (full new) refl refl
    where
      new : Mark
      new = gathered t ms r t.classes

      go : (was is : Bool) → full (get_or ms r Lost) ≡ was → full new ≡ is → (new ≡ get_or ms r Lost) ⊎ (rank ms < rank (set ms r new))
      go true is e f = let seen = and_parts (sees_yes (get_or ms r Lost)) (sees_no (get_or ms r Lost)) e in
          inl (gathered_full t ms r t.classes seen.0 seen.1)
      go false false e f = inl (same_mark new (get_or ms r Lost) (accepted_gathered t ms r t.classes) (f ∙ sym e))
      go false true e f = inr (rank_gains ms r new h e f)

  -- So do the rows below k together.
  rows_gain : (k : ℕ) (ms : List Mark) → k ≤ length ms → Still t ms k ⊎ (rank ms < rank (passed_below t k ms))
  unfolding passed_below
  rows_gain zero ms h = inl (λ r l. absurd (not-suc-le-zero l))
  rows_gain (suc k) ms h =
      let next = set ms k (gathered t ms k t.classes) in
      elim (row_gains ms k h) [
        | inl e ↦ elim (rows_gain k ms (omega arith)) [
          | inl still ↦ inl (λ r l. below_more (λ r. gathered t ms r t.classes ≡ get_or ms r Lost) k still e r (omega arith))
          | inr gain ↦ inr (rw (e, set-get_or) gain)
        ]
        | inr gain ↦ inr (elim (rows_gain k next (simp length-set (omega arith))) [
          | inl still ↦ rw (still_passed_below k next still) gain
          | inr more ↦ omega arith
        ])
      ]

  -- So each pass comes to rest or gains, and nothing gains beyond the length.
  passes_gain : (n : ℕ) (ms : List Mark) → length ms ≡ t.rows → Still t (passes t n ms) t.rows ⊎ (n + rank ms ≤ rank (passes t n ms))
  unfolding passes
  passes_gain zero ms h = inr (omega arith)
  passes_gain (suc n) ms h = elim (rows_gain t.rows ms (omega arith)) [
    | inl still ↦ let e = still_passed_below t.rows ms still in inl (rw (e, passes_still t ms e n) still)
    | inr gain ↦ elim (passes_gain n (passed_below t t.rows ms) (length-passed_below t t.rows ms ∙ h)) [
      | inl still ↦ inl still
      | inr more ↦ inr (omega arith)
    ]
  ]

  pub worked_still : Still t (worked t) t.rows
  unfolding worked
  worked_still = elim (passes_gain t.rows (begun t) (length-begun t)) [
    | inl still ↦ still
    | inr gained ↦
        let whole = length-worked t in
        elim (rows_gain t.rows (worked t) (omega arith)) [
          | inl still ↦ still
          | inr gain ↦ absurd (omega (arith, rank_le (passed_below t t.rows (worked t)), length-passed_below t t.rows (worked t)))
        ]
  ]

  pub worked_enough : (n : ℕ) → t.rows ≤ n → passes t n (begun t) ≡ worked t
  unfolding worked
  worked_enough n h =
      let split : n ≡ t.rows + (n - t.rows) = omega arith in
      ap (λ k. passes t k (begun t)) split ∙ (passes_add t t.rows (n - t.rows) (begun t) ∙
      passes_still t (worked t) (still_passed_below t.rows (worked t) worked_still) (n - t.rows))
