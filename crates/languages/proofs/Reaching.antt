-- Marks at rest are full exactly at the rows that reach others that do not accept as they do.
--   Mixed t r    row r reaches one that accepts where r does not, or the other way round
--   Told t r m   m says whether row r accepts, and is full only if it is mixed
--   Known t ms   ms says so of every row
-- Assumes nothing.
use Rattle.std.proofs.Common.{◌≡◌, ℕ, zero, suc, ◌<◌, ◌≤◌, Bool, true, false, List, [], ◌∷◌, get_or, set, Decides, sym, refl, ap, ◌∙◌, inl, inr, not-suc-le-zero, zero-add, arith}
use Rattle.std.specs.List.{AllByRecursion}
use Rattle.std.proofs.lemmas.List.FromFn.{get_or-map-range_with_len}
use Rattle.std.proofs.lemmas.Bool.{false≢true, cases_eq, cases_Bool, or_cases, or_parts}
use Rattle.languages.specs.declared.marks.Mark.{Mark}
use Rattle.languages.specs.declared.marks.Mark.TheVariants.{Lost}
use Rattle.languages.specs.Tables.{Table, Closed, led, Reaches}
use Rattle.languages.specs.Marks.{first, join, gathered, passes, begun}
use Rattle.languages.proofs.Marking.{accepted, full, differ, differ_itself, same_unless_differ, accepted_join, full_join}
use Rattle.languages.proofs.Passing.{accepted_gathered, kept}
use Rattle.languages.proofs.Ranking.{Still}

abbrev pub Mixed : Table → ℕ → Type 0
Mixed t r = (s : ℕ) × Reaches t r s × (differ (t.accepts r) (t.accepts s) ≡ true)

abbrev pub Told : Table → ℕ → Mark → Type 0
Told t r m = (accepted m ≡ t.accepts r) × (full m ≡ true → Mixed t r)

abbrev pub Known : Table → List Mark → Type 0
Known t ms = (r : ℕ) → r < t.rows → Told t r (get_or ms r Lost)

-- What holds at each place holds there after a place is set to what may stand there.
each_set : (P : ℕ → Mark → Type 0) (ms : List Mark) (k : ℕ) (m : Mark) → P k m → ((r : ℕ) → P r (get_or ms r Lost)) →
    (r : ℕ) → P r (get_or (set ms k m) r Lost)
each_set P [] k m here all r = all r
each_set P (x ∷ ms) zero m here all zero = here
each_set P (x ∷ ms) zero m here all (suc r) = all (suc r)
each_set P (x ∷ ms) (suc k) m here all zero = all zero
each_set P (x ∷ ms) (suc k) m here all (suc r) = each_set (λ i. P (suc i)) ms k m here (λ i. all (suc i)) r

module _ (t : Table) where
  pub reaches_itself : (r : ℕ) → Reaches t r r
  reaches_itself r = ([], tt, refl)

  reaches_by : (r c s : ℕ) → c < t.classes → Reaches t (t.next r c) s → Reaches t r s
  reaches_by r c s h w = (c ∷ w.0, (h, w.1), w.2)

  -- A row is mixed if a target of it does not accept as it does, or else is mixed.
  mixed_by : (r c : ℕ) → c < t.classes → (d : Bool) → differ (t.accepts r) (t.accepts (t.next r c)) ≡ d →
      (d ≡ false → Mixed t (t.next r c)) → Mixed t r
  mixed_by r c h true e more = (t.next r c, reaches_by r c (t.next r c) h (reaches_itself (t.next r c)), e)
  mixed_by r c h false e more =
      let w = more refl in (w.0, reaches_by r c w.0 h w.1, rw (same_unless_differ (t.accepts r) (t.accepts (t.next r c)) e) w.2)

  told-first : (r : ℕ) (a : Bool) → a ≡ t.accepts r → Told t r (first a)
  told-first r true e = (e, λ f. absurd (false≢true f))
  told-first r false e = (e, λ f. absurd (false≢true f))

  told-join : (r c : ℕ) (m n : Mark) → c < t.classes → Told t r m → Told t (t.next r c) n → Told t r (join m n)
  told-join r c m n h here there = (
    accepted_join m n ∙ here.0,
    λ f. elim (or_cases (full m) _ (sym (full_join m n) ∙ f)) [
      | inl now ↦ here.1 now
      | inr then ↦ mixed_by r c h _ refl (λ same. there.1 (rw (here.0, there.0, same) at then))
    ],
  )

  -- If what a row gathers is not full, then no target's mark is, and all accept as it does.
  same_target : (ms : List Mark) (r c k : ℕ) → c < k → full (gathered t ms r k) ≡ false →
      (full (get_or ms (t.next r c) Lost) ≡ false) × (accepted (get_or ms r Lost) ≡ accepted (get_or ms (t.next r c) Lost))
  unfolding gathered
  same_target ms r c zero l f = absurd (not-suc-le-zero l)
  same_target ms r c (suc k) l f =
      let p = or_parts (full (gathered t ms r k)) _ (sym (full_join (gathered t ms r k) (get_or ms (t.next r k) Lost)) ∙ f) in
      elim (cases_eq c k) [
        | inl e ↦ let q = or_parts (differ (accepted (gathered t ms r k)) (accepted (get_or ms (t.next r k) Lost))) _ p.1 in
            rw e (q.1, sym (accepted_gathered t ms r k) ∙ same_unless_differ _ _ q.0)
        | inr n ↦ same_target ms r c k (omega arith) p.0
      ]

  module _ (closed : Closed t) where
    told-gathered : (ms : List Mark) → Known t ms → (r : ℕ) → r < t.rows → (k : ℕ) → k ≤ t.classes → Told t r (gathered t ms r k)
    unfolding gathered
    told-gathered ms known r h zero l = known r h
    told-gathered ms known r h (suc k) l =
        told-join r k (gathered t ms r k) (get_or ms (t.next r k) Lost) l
        (told-gathered ms known r h k (omega arith)) (known (t.next r k) (closed r k h l))

    pub known_passes : (n : ℕ) → Known t (passes t n (begun t))
    unfolding begun
    known_passes n = kept t (Known t)
        (λ ms k h known. each_set (λ r m. r < t.rows → Told t r m) ms k (gathered t ms k t.classes)
        (λ l. told-gathered ms known k l t.classes (omega arith)) known)
        n (begun t)
        (λ r h. rw (get_or-map-range_with_len (λ i. first (t.accepts i)) 0 t.rows r r Lost h (zero-add r)) (told-first r (t.accepts r) refl))

    module _ (ms : List Mark) (known : Known t ms) (still : Still t ms t.rows) where
      same_led : (cs : List ℕ) (r : ℕ) → r < t.rows → full (get_or ms r Lost) ≡ false → AllByRecursion (λ c. c < t.classes) cs →
          t.accepts r ≡ t.accepts (led t r cs)
      same_led [] r h f below = refl
      same_led (c ∷ cs) r h f below =
          let q = same_target ms r c t.classes below.0 (ap full (still r h) ∙ f) in
          let l = closed r c h below.0 in
          sym (known r h).0 ∙ (q.1 ∙ ((known (t.next r c) l).0 ∙ same_led cs (t.next r c) l q.0 below.1))

      pub full_decides_mixed : (r : ℕ) → r < t.rows → Decides (full (get_or ms r Lost)) (Mixed t r)
      full_decides_mixed r h = (
        (known r h).1,
        λ mixed. elim (cases_Bool (full (get_or ms r Lost))) [
          | inl f ↦ f
          | inr f ↦
              let same = same_led mixed.1.0 r h f mixed.1.1 ∙ ap t.accepts mixed.1.2 in
              absurd (false≢true (rw (← same, differ_itself) at mixed.2))
        ],
      )
