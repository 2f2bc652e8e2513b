-- What follows from the laws.
-- Assumes nothing.
use Rattle.std.proofs.Common.{◌≡◌, ℕ, [], ◌∷◌, Option, Some, sym, refl, ap, ◌∙◌}
use Rattle.alphabets.specs.Laws.{Classed, Sampled, ClassesHaveLetters, OneClassOneSet}

module _ {L : Type 0} (proper : L → Type 0) (n : ℕ) (class : L → ℕ) where
  pub letters_of : (sample : ℕ → Option L) → Sampled proper n class sample → ClassesHaveLetters proper n class
  letters_of sample h [] below = ([], tt, refl)
  letters_of sample h (k ∷ ks) below =
      let s = h k below.0 in
      let rest = letters_of sample h ks below.1 in
      (s.0 ∷ rest.0, (s.2, rest.1), rw (s.3, rest.2) refl)

  pub alike : (answers : ℕ → Option ℕ) (meaning : L → ℕ) → Classed proper n class answers meaning → OneClassOneSet proper class meaning
  alike answers meaning h l m pl pm same =
      let sets : Some (meaning l) ≡ Some (meaning m) = sym (h l pl).1 ∙ ap answers same ∙ (h m pm).1 in
      cc
