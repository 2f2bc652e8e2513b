-- A fold keeps the laws of alphabets where the alphabet below keeps them.
--   IsByte b             b is a byte
--   folded_byte          a byte is asked about as a byte
--   few                  there are at most 255 classes
--   counted, classed, sampled, bounded   the laws
-- Assumes nothing.
use Rattle.std.proofs.Common.{◌≡◌, ℕ, ◌<◌, ◌≤◌, ◌∷◌, ◌++◌, length, Option, refl, sym, ap, ◌∙◌, arith}
use Rattle.std.proofs.lemmas.Bool.Decides.{nat_tests}
use Rattle.std.specs.Option.{option_and_then}
use Rattle.alphabets.specs.Laws.{Bounded, Classed, Counted, Sampled}
use Rattle.alphabets.specs.declared.kind.Kind.{Kind}
use Rattle.classes.specs.Bytes.{all_bytes}
use Rattle.classes.specs.Rising.{rising}
use Rattle.classes.proofs.Bytes as bytes
use Rattle.classes.proofs.Rising.{length_rising, rising_at}
use Rattle.folds.specs.Folding.{asked, fold_answers, fold_class, fold_count, fold_sample, fold_samples, folded}
use Rattle.classes.proofs.Counting.{one_less}

abbrev pub IsByte : ℕ → Type 0
IsByte b = b < 256

folded_byte : (b : ℕ) → b < 256 → folded b < 256
folded_byte b h = grind (arith, nat_tests)

module _ (below : ℕ → ℕ) where
  -- 256 bytes make less than 256 classes: `a` comes behind `A`, and has its class.
  pub few : length (fold_samples below) ≤ 255
  unfolding all_bytes
  few =
      let inner : rising 0 97 ≡ rising 0 65 ++ (65 ∷ rising 66 31) = rising_at 0 97 65 (omega arith) (omega arith) in
      let parts : all_bytes ≡ (rising 0 65 ++ (65 ∷ rising 66 31)) ++ (97 ∷ rising 98 158) = rising_at 0 256 97 (omega arith) (omega arith) ∙ ap (λ us. us ++ (97 ∷ rising 98 158)) inner in
      let long : length (rising 0 65 ++ (65 ∷ rising 66 31)) ≡ 97 = ap length (sym inner) ∙ length_rising 0 97 in
      let rest = length_rising 98 158 in
      let most = one_less (asked below) (rising 0 65) (rising 66 31) (rising 98 158) 65 97 refl in
      rw parts (omega arith)

  pub counted : (k : Kind) → Counted k (fold_count below)
  counted k = bytes.counted (asked below) k few

  pub classed : (n : ℕ) (answers : ℕ → Option ℕ) (meaning : ℕ → ℕ) → Classed IsByte n below answers meaning → Classed IsByte (fold_count below) (fold_class below) (fold_answers below answers) (λ b. meaning (folded b))
  classed n answers meaning law b h =
      let c = bytes.classed (asked below) b h in
      (c.0, ap (option_and_then answers) c.1 ∙ (law (folded b) (folded_byte b h)).1)

  pub sampled : Sampled IsByte (fold_count below) (fold_class below) (fold_sample below)
  sampled = bytes.sampled (asked below)

  pub bounded : (answers : ℕ → Option ℕ) → Bounded (fold_count below) (fold_answers below answers) (fold_sample below)
  bounded answers k h =
      let none = bytes.bounded (asked below) k h in
      (ap (option_and_then answers) none.0, none.1)
