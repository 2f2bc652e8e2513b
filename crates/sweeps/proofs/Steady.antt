-- Up to the next change all answers stay.
-- Assumes nothing.
use Rattle.std.proofs.Common.{◌≡◌, ℕ, ◌+◌, ◌<◌, ◌≤◌, Bool, true, false, cond, ◌&&◌, List, [], ◌∷◌, fold, refl, arith}
use Rattle.std.proofs.lemmas.Bool.Decides.{nat_tests}
use Rattle.bench.specs.declared.code.Code.{Code}
use Rattle.bench.specs.declared.station.Station.{Station}
use Rattle.bands.specs.Bands.{stands_at, in_range, admitted}
use Rattle.bands.specs.declared.atom.EventAtom.{EventAtom}
use Rattle.cutting.specs.Answers.{answers_of}
use Rattle.sweeps.specs.Letters.{event_at}
use Rattle.sweeps.specs.Classes.{set_of}
use Rattle.sweeps.specs.Changes.{nearer, change_by, next_change}

nearer_below : (p stop next : ℕ) → nearer p stop next ≤ next
nearer_below p stop next = grind (arith, nat_tests)

-- A pressure that is reached before the nearer one is not past the stop, if p was not.
nearer_before : (p stop next r : ℕ) → r < nearer p stop next → p < stop → r < stop
nearer_before p stop next r h k = grind (arith, nat_tests)

nearer_above : (p stop next : ℕ) → p < next → p < nearer p stop next
nearer_above p stop next h = grind (arith, nat_tests)

-- Nothing changes up to there.
range_same : (a : EventAtom) (p r : ℕ) → p ≤ r → (p < a.first → r < a.first) → (p < a.last + 1 → r < a.last + 1) → in_range a r ≡ in_range a p
range_same a p r h low high = grind (arith, nat_tests)

module _ (c : Code) (s : Station) (p : ℕ) where
  change_below : (next : ℕ) (a : EventAtom) → change_by c s p next a ≤ next
  change_below next a = go (stands_at a c s)
    where
      go : (b : Bool) → cond b (nearer p a.first (nearer p (a.last + 1) next)) next ≤ next
      go true = let one = nearer_below p a.first (nearer p (a.last + 1) next) in let other = nearer_below p (a.last + 1) next in omega (arith, one, other)
      go false = omega arith

  change_above : (next : ℕ) (a : EventAtom) → p < next → p < change_by c s p next a
  change_above next a h = go (stands_at a c s)
    where
      go : (b : Bool) → p < cond b (nearer p a.first (nearer p (a.last + 1) next)) next
      go true = nearer_above p a.first (nearer p (a.last + 1) next) (nearer_above p (a.last + 1) next h)
      go false = h

  fold_below : (next : ℕ) (atoms : List EventAtom) → fold (change_by c s p) next atoms ≤ next
  fold_below next [] = omega arith
  fold_below next (a ∷ atoms) =
      let rest = fold_below (change_by c s p next a) atoms in
      let one = change_below next a in
      omega (arith, rest, one)

  fold_above : (next : ℕ) (atoms : List EventAtom) → p < next → p < fold (change_by c s p) next atoms
  fold_above next [] h = h
  fold_above next (a ∷ atoms) h = fold_above (change_by c s p next a) atoms (change_above next a h)

  module _ (r : ℕ) (low : p ≤ r) where
    admitted_same : (next : ℕ) (a : EventAtom) → r < change_by c s p next a → admitted a (event_at c s r) ≡ admitted a (event_at c s p)
    admitted_same next a h = go (stands_at a c s) h
      where
        go : (b : Bool) → r < cond b (nearer p a.first (nearer p (a.last + 1) next)) next → (b && in_range a r) ≡ (b && in_range a p)
        go false h = refl
        go true h =
            let later = nearer p (a.last + 1) next in
            let before = nearer_below p a.first later in
            range_same a p r low (λ k. nearer_before p a.first later r h k) (λ k. nearer_before p (a.last + 1) next r (omega (arith, h, before)) k)

    set_same : (next : ℕ) (atoms : List EventAtom) → r < fold (change_by c s p) next atoms → set_of atoms (event_at c s r) ≡ set_of atoms (event_at c s p)
    unfolding answers_of
    set_same next [] h = refl
    set_same next (a ∷ atoms) h =
        let rest = set_same (change_by c s p next a) atoms h in
        let before = fold_below (change_by c s p next a) atoms in
        let one = admitted_same next a (omega (arith, h, before)) in
        rw (rest, one) refl

  pub change_later : (atoms : List EventAtom) → p < 65536 → p < next_change c s p atoms
  unfolding next_change
  change_later atoms h = fold_above 65536 atoms h

  pub change_by_the_end : (atoms : List EventAtom) → next_change c s p atoms ≤ 65536
  unfolding next_change
  change_by_the_end atoms = fold_below 65536 atoms

  -- Up to the next change every event has the answer set of the first.
  pub steady : (atoms : List EventAtom) (r : ℕ) → p ≤ r → r < next_change c s p atoms → set_of atoms (event_at c s r) ≡ set_of atoms (event_at c s p)
  unfolding next_change
  steady atoms r low h = set_same r low 65536 atoms h
