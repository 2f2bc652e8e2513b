-- The laws of alphabets, over what an alphabet tells: how many classes there are, the class of a letter, the answer set
-- and a sample of a class; and over the answer set that each letter has.
--   Counted k n                  there are 1 to 255 classes, and the number of the kind is 1 or 2
--   Classed proper n class answers meaning   every letter's class is below the count, and that class has the letter's
--                                answer set
--   Sampled proper n class sample   every class below the count has a sample, which is a letter of that class
--   Bounded n answers sample     a class that is not below the count has neither answer set nor sample
--   ClassesHaveLetters proper n class   every list of classes below the count is the class list of some list of letters
--   OneClassOneSet proper class meaning   letters of one class have one answer set
-- Assumes nothing.
use Rattle.std.specs.Prelude.{◌≡◌, ℕ, ◌<◌, ◌≤◌, ◌⊎◌, List, Option, Some, None, map}
use Rattle.std.specs.List.{AllByRecursion}
use Rattle.alphabets.specs.declared.kind.Kind.{Kind}
use Rattle.alphabets.specs.Kinds.{kind_number}

abbrev pub Counted : Kind → ℕ → Type 0
Counted k n = (1 ≤ n) × (n ≤ 255) × ((kind_number k ≡ 1) ⊎ (kind_number k ≡ 2))

abbrev pub Classed : {L : Type 0} → (L → Type 0) → ℕ → (L → ℕ) → (ℕ → Option ℕ) → (L → ℕ) → Type 0
Classed {L} proper n class answers meaning = (l : L) → proper l → (class l < n) × (answers (class l) ≡ Some (meaning l))

abbrev pub Sampled : {L : Type 0} → (L → Type 0) → ℕ → (L → ℕ) → (ℕ → Option L) → Type 0
Sampled {L} proper n class sample = (k : ℕ) → k < n → (l : L) × (sample k ≡ Some l) × proper l × (class l ≡ k)

abbrev pub Bounded : {L : Type 0} → ℕ → (ℕ → Option ℕ) → (ℕ → Option L) → Type 0
Bounded n answers sample = (k : ℕ) → n ≤ k → (answers k ≡ None) × (sample k ≡ None)

abbrev pub ClassesHaveLetters : {L : Type 0} → (L → Type 0) → ℕ → (L → ℕ) → Type 0
ClassesHaveLetters {L} proper n class = (ks : List ℕ) → AllByRecursion (λ k. k < n) ks → (ls : List L) × AllByRecursion proper ls × (map class ls ≡ ks)

abbrev pub OneClassOneSet : {L : Type 0} → (L → Type 0) → (L → ℕ) → (L → ℕ) → Type 0
OneClassOneSet {L} proper class meaning = (l m : L) → proper l → proper m → class l ≡ class m → meaning l ≡ meaning m
