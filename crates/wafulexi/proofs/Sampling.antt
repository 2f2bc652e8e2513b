-- A class below the count has a sample and an answer set. Assumes nothing.
use Rattle.std.proofs.Common.{◌≡◌, ℕ, ◌<◌, Option, Some, ap, sym, refl, ◌∙◌}
use Rattle.std.specs.Option.{IsSome}
use Rattle.alphabets.specs.Laws.{Classed, Sampled}

some_there : {X : Type 0} (x : X) (o : Option X) → o ≡ Some x → IsSome o
some_there x o e = rw e refl

module _ {L : Type 0} (proper : L → Type 0) (n : ℕ) (class : L → ℕ) (sample : ℕ → Option L) (sampled : Sampled proper n class sample) (k : ℕ) (below : k < n) where
  pub has_sample : IsSome (sample k)
  has_sample = let s = sampled k below in some_there s.0 (sample k) s.1

  pub has_answers : (answers : ℕ → Option ℕ) (meaning : L → ℕ) → Classed proper n class answers meaning → IsSome (answers k)
  has_answers answers meaning classed =
      let s = sampled k below in
      some_there (meaning s.0) (answers k) (ap answers (sym s.3) ∙ (classed s.0 s.2).1)
