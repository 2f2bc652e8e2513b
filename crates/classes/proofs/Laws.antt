-- Letters in classes, as they are first met, keep the laws of alphabets, and their own.
--   Placed ls l        l is one of ls
--   Lists proper ls    ls are the letters that can exist: all of them, and no others
-- Assumes nothing.
use Rattle.std.proofs.Common.{◌≡◌, ℕ, ◌<◌, ◌≤◌, ◌⊎◌, inl, inr, List, [], ◌∷◌, ◌++◌, length, zero, suc, Some, unwrap_or, refl, ap, subst, arith}
use Rattle.std.proofs.lemmas.List.{length-map}
use Rattle.std.proofs.lemmas.Option.{slice_get_past}
use Rattle.std.specs.List.{slice_get, AllByRecursion}
use Rattle.alphabets.specs.declared.kind.Kind.{Kind}
use Rattle.alphabets.specs.declared.kind.Kind.TheVariants.{Bytes, Events}
use Rattle.alphabets.specs.Kinds.{kind_number}
use Rattle.alphabets.specs.Laws.{Counted, Classed, Sampled, Bounded}
use Rattle.classes.specs.Meeting.{firsts, keys_of, class_in, number_in, HasClass}
use Rattle.classes.proofs.FirstMet.{one_of_all, all_classed, sample_class, sample_has, class_is, first_met}
use Rattle.classes.specs.FirstMet.{ClassesFirstMet, AsFirstMet}

pub record Placed {L : Type 0} (ls : List L) (l : L) : Type 0 where
  pub before : List L
  pub behind : List L
  pub parts : ls ≡ before ++ (l ∷ behind)

pub record Lists {L : Type 0} (proper : L → Type 0) (ls : List L) : Type 0 where
  pub each : AllByRecursion proper ls
  pub every : (l : L) → proper l → Placed ls l

pub filled : {X : Type 0} (xs : List X) (k : ℕ) → k < length xs → (x : X) × (slice_get xs k ≡ Some x)
filled [] k h = absurd (omega arith)
filled (x ∷ xs) zero h = (x, refl)
filled (x ∷ xs) (suc k) h = filled xs k (omega arith)

pub classes_first_met : {L : Type 0} (key : L → ℕ) (ls : List L) → ClassesFirstMet key ls
classes_first_met key ls k h =
    let s = filled (firsts key ls) k h in
    (s.0, s.1, first_met key ls k s.0 s.1)

numbered : (k : Kind) → (kind_number k ≡ 1) ⊎ (kind_number k ≡ 2)
numbered Bytes = inl refl
numbered Events = inr refl

pub as_first_met : {L : Type 0} (key : L → ℕ) (ls : List L) → AsFirstMet key ls (length (firsts key ls)) (class_in key ls) (λ k. slice_get (keys_of key ls) k) (λ k. slice_get (firsts key ls) k)
as_first_met key ls =
    record {
      count = refl;
      classes = λ l. refl;
      one_class = λ l m same. ap (λ k. unwrap_or (number_in (keys_of key ls) k) 0) same;
      keys = λ k. refl;
      samples = λ k. refl;
      first_met = classes_first_met key ls;
    }

module _ {L : Type 0} (proper : L → Type 0) (key : L → ℕ) (ls : List L) (all : Lists proper ls) where
  pub has_class : (l : L) → proper l → HasClass key ls l
  has_class l h =
      let p = all.every l h in
      one_of_all (HasClass key ls) p.before p.behind l (subst (AllByRecursion (HasClass key ls)) p.parts (all_classed key ls))

  pub classed : Classed proper (length (firsts key ls)) (class_in key ls) (λ k. slice_get (keys_of key ls) k) key
  classed l h = let c = has_class l h in (c.below, c.key_is)

  pub sampled : Sampled proper (length (firsts key ls)) (class_in key ls) (λ k. slice_get (firsts key ls) k)
  sampled k h =
      let s = filled (firsts key ls) k h in
      (s.0, s.1, sample_has key ls k s.0 proper all.each s.1, class_is key ls s.0 k (sample_class key ls k s.0 s.1))

  pub bounded : Bounded (length (firsts key ls)) (λ k. slice_get (keys_of key ls) k) (λ k. slice_get (firsts key ls) k)
  bounded k h =
      let far : length (keys_of key ls) ≤ k = omega (arith, length-map (firsts key ls) key) in
      (slice_get_past (keys_of key ls) k far, slice_get_past (firsts key ls) k h)

  -- Where there is a letter, there is a class.
  pub counted : (k : Kind) (l : L) → proper l → length (firsts key ls) ≤ 255 → Counted k (length (firsts key ls))
  counted k l h most = let c = has_class l h in (omega (arith, c.below), most, numbered k)
