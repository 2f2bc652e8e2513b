-- What filling an order says: which entries are good.
-- Assumes nothing.
use Rattle.std.proofs.Common.{◌≡◌, ◌≢◌, ℕ, zero, suc, ◌<◌, Bool, true, false, ◌||◌, ◌==◌, cond, List, [], ◌∷◌, ◌++◌, length, get_or, Option, Some, None, Result, MatchOption, sym, refl, ◌∙◌, arith, append_assoc, length-append, below_more}
use Rattle.std.proofs.Math.Seq.{get_or-append_seam}
use Rattle.std.proofs.lemmas.List.{get_or_append_left}
use mathlib.Core.Bool.{true≢false}
use Rattle.std.proofs.lemmas.Bool.Decides.{nat_tests}
use Rattle.stations.specs.Orders.{accepted_by, among, filled, filled_with, first_bad, good}
use Rattle.refusals.specs.declared.Refusal.{Refusal}
use Rattle.stations.specs.Filling.{GoodAt, Means}

-- Which numbers are among others.
eqb-refl_of : (m n : ℕ) → m ≡ n → (m == n) ≡ true
eqb-refl_of m n e = grind (arith, nat_tests)

or_none : (a b : Bool) → (a || b) ≡ false → (a ≡ false) × (b ≡ false)
or_none true b h = absurd (true≢false h)
or_none false b h = (refl, h)

nowhere : (ns : List ℕ) (n : ℕ) → among ns n ≡ false → (j : ℕ) → j < length ns → get_or ns j 0 ≢ n
nowhere [] n h j within e = absurd (omega arith)
nowhere (m ∷ ns) n h zero within e = absurd (true≢false (sym (eqb-refl_of m n e) ∙ (or_none (m == n) (among ns n) h).0))
nowhere (m ∷ ns) n h (suc j) within e = nowhere ns n (or_none (m == n) (among ns n) h).1 j (omega arith) e

somewhere : (ns : List ℕ) (n : ℕ) → among ns n ≡ true → (j : ℕ) × (j < length ns) × (get_or ns j 0 ≡ n)
somewhere [] n h = absurd (true≢false (sym h))
somewhere (m ∷ ns) n h = go (m == n) refl (somewhere ns n)
  where
    go : (b : Bool) → (m == n) ≡ b → (among ns n ≡ true → (j : ℕ) × (j < length ns) × (get_or ns j 0 ≡ n)) → (j : ℕ) × (j < length (m ∷ ns)) × (get_or (m ∷ ns) j 0 ≡ n)
    go true same rest = (0, omega arith, grind (arith, nat_tests))
    go false differs rest = let r = rest (rw differs at h) in (suc r.0, (let w = r.1 in omega arith), r.2)

module _ (ns : List ℕ) (m : ℕ) (ms : List ℕ) where
  here : get_or (ns ++ (m ∷ ms)) (length ns) 0 ≡ m
  here = get_or-append_seam ns m ms 0

  before : (j : ℕ) → j < length ns → get_or (ns ++ (m ∷ ms)) j 0 ≡ get_or ns j 0
  before j within = get_or_append_left ns (m ∷ ms) 0 j within

  good_there : good ns m ≡ true → GoodAt (ns ++ (m ∷ ms)) (length ns)
  good_there h =
      let low : m < 8 = grind (arith, nat_tests) in
      let new : among ns m ≡ false = grind (arith, nat_tests) in
      (omega (arith, here), λ j within same. nowhere ns m new j within (sym (before j within) ∙ same ∙ here))

  bad_there : good ns m ≡ false → ¬ (GoodAt (ns ++ (m ∷ ms)) (length ns))
  bad_there h at = go (among ns m) refl
    where
      go : (b : Bool) → among ns m ≡ b → ⊥
      go true e = let s = somewhere ns m e in at.1 s.0 s.1 (before s.0 s.1 ∙ s.2 ∙ sym here)
      go false e = let low : m < 8 = let l = at.0 in omega (arith, here) in grind (arith, nat_tests)

-- What the first bad place says, where the entries before are good.
abbrev Told : List ℕ → Option ℕ → Type 0
Told all o = MatchOption o ((i : ℕ) → i < length all → GoodAt all i) (λ p. (p < length all) × ¬ (GoodAt all p) × ((i : ℕ) → i < p → GoodAt all i))

told : (ns ms : List ℕ) → ((i : ℕ) → i < length ns → GoodAt (ns ++ ms) i) → Told (ns ++ ms) (first_bad ns ms)
told ns [] so_far = λ i within. so_far i (omega (arith, length-append ns []))
told ns (m ∷ ms) so_far = go (good ns m) refl (told (ns ++ (m ∷ [])) ms)
  where
    go : (b : Bool) → good ns m ≡ b → (((i : ℕ) → i < length (ns ++ (m ∷ [])) → GoodAt ((ns ++ (m ∷ [])) ++ ms) i) → Told ((ns ++ (m ∷ [])) ++ ms) (first_bad (ns ++ (m ∷ [])) ms)) → Told (ns ++ (m ∷ ms)) (cond b (first_bad (ns ++ (m ∷ [])) ms) (Some (length ns)))
    go true fits rest = rw (← append_assoc ns (m ∷ []) ms) (rest (λ i within. rw (append_assoc ns (m ∷ []) ms) (below_more (GoodAt (ns ++ (m ∷ ms))) (length ns) so_far (good_there ns m ms fits) i (omega (arith, length-append ns (m ∷ []))))))
    go false fails rest = (omega (arith, length-append ns (m ∷ ms)), bad_there ns m ms fails, so_far)

pub means : (ns ms : List ℕ) → length ms ≡ 8 → (r : Result (Unit {0}) Refusal) → r ≡ (filled ns ms).0 → Means ms r
means ns ms eight r is = rw is (go (first_bad [] ms) (told [] ms (λ i within. absurd (omega arith))))
  where
    go : (o : Option ℕ) → Told ms o → Means ms (filled_with (accepted_by o ms) ns).0
    go None t = λ i within. t i (omega arith)
    go (Some p) t = record { question = refl; place = (let w = t.0 in omega arith); bad = t.1; not_before = t.2 }
