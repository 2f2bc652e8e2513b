-- How many classes letters make at most.
--   length_meet, length_meets   a letter makes one class at most
--   one_less             a letter that has the key of one before it makes none
-- Assumes nothing.
use Rattle.std.proofs.Common.{◌≡◌, ℕ, ◌+◌, ◌≤◌, List, [], ◌∷◌, ◌++◌, length, map, Some, None, Option, sym, ap, ◌∙◌, arith, length-append}
use Rattle.classes.specs.Meeting.{number_in, joined, meet, meets, firsts}
use Rattle.classes.proofs.FirstMet.{classed}
use Rattle.classes.proofs.Meeting.{meets_append}

module _ {L : Type 0} (key : L → ℕ) where
  length_meet : (found : List L) (l : L) → length (meet key found l) ≤ length found + 1
  length_meet found l = go (number_in (map key found) (key l))
    where
      go : (o : Option ℕ) → length (joined o found l) ≤ length found + 1
      go (Some i) = omega arith
      go None = omega (arith, length-append found (l ∷ []))

  pub length_meets : (found ls : List L) → length (meets key found ls) ≤ length found + length ls
  unfolding meets
  length_meets found [] = omega arith
  length_meets found (l ∷ ls) = omega (arith, length_meet found l, length_meets (meet key found l) ls)

  pub one_less : (us vs ws : List L) (x y : L) → key x ≡ key y → length (firsts key ((us ++ (x ∷ vs)) ++ (y ∷ ws))) ≤ length (us ++ (x ∷ vs)) + length ws
  unfolding meets
  one_less us vs ws x y same =
      let before = us ++ (x ∷ vs) in
      let c = classed key us vs x in
      let known : number_in (map key (firsts key before)) (key y) ≡ Some c.class = ap (number_in (map key (firsts key before))) (sym same) ∙ c.is in
      let stays : meet key (firsts key before) y ≡ firsts key before = ap (λ o. joined o (firsts key before) y) known in
      let parts : firsts key (before ++ (y ∷ ws)) ≡ meets key (firsts key before) ws = meets_append key [] before (y ∷ ws) ∙ ap (λ f. meets key f ws) stays in
      let first : length (firsts key before) ≤ length before = omega (arith, length_meets [] before) in
      let both : length (meets key (firsts key before) ws) ≤ length (firsts key before) + length ws = length_meets (firsts key before) ws in
      rw parts (omega arith)
