-- What gathering and passing over a table do, a step at a time, and what they keep.
-- Assumes nothing.
use Rattle.std.proofs.Common.{◌≡◌, ℕ, zero, suc, ◌+◌, ◌<◌, true, List, length, get_or, set, refl, ap, ◌∙◌, add-zero, add-suc, suc-add, zero-add, add-one, arith}
use Rattle.std.proofs.lemmas.List.{length-set}
use Rattle.std.proofs.lemmas.List.FromFn.{length-map-range_with_len}
use Rattle.std.proofs.lemmas.Bool.{and_from}
use Rattle.languages.specs.declared.marks.Mark.{Mark}
use Rattle.languages.specs.declared.marks.Mark.TheVariants.{Lost}
use Rattle.languages.specs.Tables.{Table}
use Rattle.languages.specs.Marks.{first, join, gathered, passed_below, passes, begun, worked}
use Rattle.languages.proofs.Marking.{accepted, sees_yes, sees_no, accepted_join, join_full}

module _ (t : Table) (ms : List Mark) (r : ℕ) where
  pub gathered_none : gathered t ms r 0 ≡ get_or ms r Lost
  unfolding gathered
  gathered_none = refl

  pub gathered_more : (k : ℕ) → gathered t ms r (k + 1) ≡ join (gathered t ms r k) (get_or ms (t.next r k) Lost)
  unfolding gathered
  gathered_more k = rw add-one

  pub accepted_gathered : (k : ℕ) → accepted (gathered t ms r k) ≡ accepted (get_or ms r Lost)
  unfolding gathered
  accepted_gathered zero = refl
  accepted_gathered (suc k) = accepted_join (gathered t ms r k) (get_or ms (t.next r k) Lost) ∙ accepted_gathered k

  -- Once the mark gathered is full, the classes that are left change nothing.
  pub gathered_full_more : (k n : ℕ) → sees_yes (gathered t ms r k) ≡ true → sees_no (gathered t ms r k) ≡ true →
      gathered t ms r (k + n) ≡ gathered t ms r k
  unfolding gathered
  gathered_full_more k zero yes-seen no-seen = rw add-zero
  gathered_full_more k (suc n) yes-seen no-seen =
      let e = gathered_full_more k n yes-seen no-seen in
      rw (add-suc, gathered, e) (join_full (gathered t ms r k) _ (and_from (sees_yes (gathered t ms r k)) (sees_no (gathered t ms r k)) yes-seen no-seen))

  pub gathered_full : (k : ℕ) → sees_yes (get_or ms r Lost) ≡ true → sees_no (get_or ms r Lost) ≡ true → gathered t ms r k ≡ get_or ms r Lost
  unfolding gathered
  gathered_full k yes-seen no-seen = rw zero-add at (gathered_full_more 0 k yes-seen no-seen)

module _ (t : Table) where
  pub passed_below_none : (ms : List Mark) → passed_below t 0 ms ≡ ms
  unfolding passed_below
  passed_below_none ms = refl

  pub passed_below_more : (k : ℕ) (ms : List Mark) → passed_below t (k + 1) ms ≡ passed_below t k (set ms k (gathered t ms k t.classes))
  unfolding passed_below
  passed_below_more k ms = rw add-one

  pub passes_none : (ms : List Mark) → passes t 0 ms ≡ ms
  unfolding passes
  passes_none ms = refl

  pub passes_more : (n : ℕ) (ms : List Mark) → passes t (n + 1) ms ≡ passes t n (passed_below t t.rows ms)
  unfolding passes
  passes_more n ms = rw add-one

  pub passes_add : (m n : ℕ) (ms : List Mark) → passes t (m + n) ms ≡ passes t n (passes t m ms)
  unfolding passes
  passes_add zero n ms = rw zero-add
  passes_add (suc m) n ms = rw suc-add (passes_add m n (passed_below t t.rows ms))

  pub passes_still : (ms : List Mark) → passed_below t t.rows ms ≡ ms → (n : ℕ) → passes t n ms ≡ ms
  unfolding passes
  passes_still ms still zero = refl
  passes_still ms still (suc n) = ap (passes t n) still ∙ passes_still ms still n

  -- What each row's gathering keeps, going over the rows and passing keep.
  pub kept_below : (P : List Mark → Type 0) (k : ℕ) → ((ms : List Mark) (r : ℕ) → r < k → P ms → P (set ms r (gathered t ms r t.classes))) →
      (ms : List Mark) → P ms → P (passed_below t k ms)
  unfolding passed_below
  kept_below P zero step ms p = p
  kept_below P (suc k) step ms p = kept_below P k (λ ns r h. step ns r (omega arith)) _ (step ms k (omega arith) p)

  pub kept : (P : List Mark → Type 0) → ((ms : List Mark) (r : ℕ) → r < t.rows → P ms → P (set ms r (gathered t ms r t.classes))) →
      (n : ℕ) (ms : List Mark) → P ms → P (passes t n ms)
  unfolding passes
  kept P step zero ms p = p
  kept P step (suc n) ms p = kept P step n (passed_below t t.rows ms) (kept_below P t.rows step ms p)

  pub length-passed_below : (k : ℕ) (ms : List Mark) → length (passed_below t k ms) ≡ length ms
  length-passed_below k ms = kept_below (λ ns. length ns ≡ length ms) k (λ ns r h e. length-set ns r _ ∙ e) ms refl

  pub length-passes : (n : ℕ) (ms : List Mark) → length (passes t n ms) ≡ length ms
  length-passes n ms = kept (λ ns. length ns ≡ length ms) (λ ns r h e. length-set ns r _ ∙ e) n ms refl

  pub length-begun : length (begun t) ≡ t.rows
  unfolding begun
  length-begun = length-map-range_with_len (λ r. first (t.accepts r)) 0 t.rows

  pub length-worked : length (worked t) ≡ t.rows
  unfolding worked
  length-worked = length-passes t.rows (begun t) ∙ length-begun
