-- A fold of a fold tells what the fold tells: two bytes are alike for both, or for none.
-- Assumes nothing.
use Rattle.std.proofs.Common.{◌≡◌, ℕ, ◌+◌, ◌<◌, ◌==◌, ◌↔◌, List, [], ◌∷◌, ◌++◌, length, map, Option, Some, None, unwrap_or, refl, sym, ap, ◌∙◌, arith}
use Rattle.std.proofs.lemmas.Bool.Decides.{nat_tests, same_from_decides}
use Rattle.std.proofs.lemmas.Iterator.Adapters.{position_from-zero}
use Rattle.std.proofs.lemmas.Option.{slice_get-map}
use Rattle.std.specs.Cmp.{unsigned_Decides}
use Rattle.std.specs.List.{AllByRecursion, position_from, slice_get}
use Rattle.std.specs.Option.{option_and_then, option_map}
use Rattle.classes.specs.Bytes.{all_bytes}
use Rattle.classes.specs.Meeting.{class_in, firsts, joined, meet, meets, number_in}
use Rattle.classes.proofs.Bytes.{bytes_listed}
use Rattle.classes.proofs.FirstMet.{class_is, sample_class}
use Rattle.folds.specs.Folding.{asked, fold_answers, fold_class, fold_count, fold_keys, fold_sample, fold_samples, folded}
use Rattle.folds.specs.Laws.{IsByte}
use Rattle.folds.proofs.Samples.{shares}

all_push : (bytes : List ℕ) (b : ℕ) → AllByRecursion IsByte bytes → b < 256 → AllByRecursion IsByte (bytes ++ (b ∷ []))
all_push [] b all h = (h, tt)
all_push (c ∷ bytes) b all h = (all.0, all_push bytes b all.1 h)

module _ (key again : ℕ → ℕ) (alike : (b c : ℕ) → b < 256 → c < 256 → (key b ≡ key c) ↔ (again b ≡ again c)) where
  same_test : (b c : ℕ) → (key b ≡ key c) ↔ (again b ≡ again c) → (key b == key c) ≡ (again b == again c)
  same_test b c both =
      let one = unsigned_Decides (key b) (key c) in
      let two = unsigned_Decides (again b) (again c) in
      same_from_decides (key b == key c) (again b == again c) one (λ e. both.1 (two.0 e), λ e. two.1 (both.0 e))

  number_from : (found : List ℕ) (b k : ℕ) → AllByRecursion IsByte found → b < 256 → position_from (λ y. y == key b) k (map key found) ≡ position_from (λ y. y == again b) k (map again found)
  number_from [] b k all h = refl
  number_from (c ∷ found) b k all h = rw (same_test c b (alike c b all.0 h), number_from found b (k + 1) all.1 h) refl

  number_alike : (found : List ℕ) (b : ℕ) → AllByRecursion IsByte found → b < 256 → number_in (map key found) (key b) ≡ number_in (map again found) (again b)
  number_alike found b all h =
      position_from-zero (λ y. y == key b) (map key found) ∙ number_from found b 0 all h ∙ sym (position_from-zero (λ y. y == again b) (map again found))

  bytes_meet : (found : List ℕ) (b : ℕ) → AllByRecursion IsByte found → b < 256 → AllByRecursion IsByte (meet key found b)
  bytes_meet found b all h = go (number_in (map key found) (key b))
    where
      go : (o : Option ℕ) → AllByRecursion IsByte (joined o found b)
      go (Some i) = all
      go None = all_push found b all h

  -- What is found is the same, and bytes.
  meets_alike : (found bytes : List ℕ) → AllByRecursion IsByte found → AllByRecursion IsByte bytes → (meets again found bytes ≡ meets key found bytes) × AllByRecursion IsByte (meets key found bytes)
  unfolding meets
  meets_alike found [] all each = (refl, all)
  meets_alike found (b ∷ bytes) all each =
      let one : meet again found b ≡ meet key found b = ap (λ o. joined o found b) (sym (number_alike found b all each.0)) in
      let rest = meets_alike (meet key found b) bytes (bytes_meet found b all each.0) each.1 in
      (ap (λ xs. meets again xs bytes) one ∙ rest.0, rest.1)

  samples_alike : firsts again all_bytes ≡ firsts key all_bytes
  samples_alike = (meets_alike [] all_bytes tt bytes_listed.each).0

  class_alike : (b : ℕ) → b < 256 → class_in again all_bytes b ≡ class_in key all_bytes b
  class_alike b h =
      let all = (meets_alike [] all_bytes tt bytes_listed.each).1 in
      let number = ap (λ xs. number_in (map again xs) (again b)) samples_alike ∙ sym (number_alike (firsts key all_bytes) b all h) in
      ap (λ o. unwrap_or o 0) number

folded_folded : (b : ℕ) → folded (folded b) ≡ folded b
folded_folded b = grind (arith, nat_tests)

module _ (below : ℕ → ℕ) where
  abbrev once : ℕ → ℕ
  once = fold_class below

  asked_again : (b : ℕ) → asked once b ≡ once b
  asked_again b = ap (λ c. unwrap_or (number_in (fold_keys below) (below c)) 0) (folded_folded b)

  alike : (b c : ℕ) → b < 256 → c < 256 → (asked below b ≡ asked below c) ↔ (asked once b ≡ asked once c)
  alike b c hb hc =
      let both = shares below b c hb hc in
      (λ e. asked_again b ∙ both.1 e ∙ sym (asked_again c), λ e. both.0 (sym (asked_again b) ∙ e ∙ asked_again c))

  pub same_samples : fold_samples once ≡ fold_samples below
  same_samples = samples_alike (asked below) (asked once) alike

  pub same_class : (b : ℕ) → b < 256 → fold_class once b ≡ fold_class below b
  same_class b h = class_alike (asked below) (asked once) alike b h

  pub same_answers : (answers : ℕ → Option ℕ) (k : ℕ) → fold_answers once (fold_answers below answers) k ≡ fold_answers below answers k
  same_answers answers k = go (slice_get (fold_samples below) k) refl
    where
      key : slice_get (fold_keys once) k ≡ option_map (asked once) (slice_get (fold_samples below) k)
      key = slice_get-map (asked once) (fold_samples once) k ∙ ap (λ xs. option_map (asked once) (slice_get xs k)) same_samples

      go : (o : Option ℕ) → slice_get (fold_samples below) k ≡ o → fold_answers once (fold_answers below answers) k ≡ fold_answers below answers k
      go (Some s) e =
          let number : asked once s ≡ k = asked_again s ∙ class_is (asked below) all_bytes s k (sample_class (asked below) all_bytes k s e) in
          ap (option_and_then (fold_answers below answers)) (key ∙ ap (option_map (asked once)) e ∙ ap Some number)
      go None e =
          ap (option_and_then (fold_answers below answers)) (key ∙ ap (option_map (asked once)) e)
          ∙ sym (ap (option_and_then answers) (slice_get-map (asked below) (fold_samples below) k ∙ ap (option_map (asked below)) e))

  pub same_count : fold_count once ≡ fold_count below
  same_count = ap length same_samples

  pub same_sample : (k : ℕ) → fold_sample once k ≡ fold_sample below k
  same_sample k = ap (λ xs. slice_get xs k) same_samples
