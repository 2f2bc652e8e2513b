-- Answer sets.
-- Assumes nothing.
use Rattle.std.proofs.Common.{◌≡◌, ℕ, zero, suc, ◌+◌, ◌*◌, ◌%◌, ◌^◌, ◌<◌, ◌≤◌, Bool, cond, List, [], ◌∷◌, ◌++◌, length, get_or, take, Some, None, Option, Decides, bit_or, eqb, add_comm, pow-suc, sym, refl, ap, ◌∙◌, subst, arith}
use Rattle.std.specs.List.{slice_get}
use Rattle.std.specs.Int.{bit_at}
use Rattle.std.proofs.lemmas.Bool.{cond_both}
use Rattle.std.proofs.lemmas.Nat.{shl_whole}
use Rattle.std.specs.Int.Bits.{or_shifted_r}
use Rattle.std.proofs.lemmas.List.{length-take-le, take_more}
use Rattle.std.proofs.lemmas.Nat.Bits.{bit_at_lowest, bit_at-suc, bit_at-zero}
use Rattle.languages.specs.Rules.{has}
use Rattle.cutting.specs.Answers.{Admitted, answers_of}

below_more : (b s k : ℕ) → b < 2 → s < 2 ^ k → b + 2 * s < 2 ^ suc k
below_more b s k l h = rw (pow-suc 2 k) (omega arith)

append_more : (b s c k : ℕ) → b + 2 * (s + c * 2 ^ k) ≡ b + 2 * s + c * 2 ^ suc k
append_more b s c k = rw (pow-suc 2 k) (omega arith)

-- A bit that is not set yet is joined by adding it.
bit_joined : (s k b : ℕ) → s < 2 ^ k → b < 2 → k < 32 → bit_or s (b * 2 ^ k % 2 ^ 32) ≡ s + b * 2 ^ k
bit_joined s k b h l few =
    ap (bit_or s) (shl_whole b 1 k 32 (omega arith) (omega arith))
    ∙ or_shifted_r b k s h
    ∙ add_comm (b * 2 ^ k) s

lowest : (b s : ℕ) → b < 2 → bit_at (b + 2 * s) 0 ≡ b
lowest b s l = bit_at_lowest (b + 2 * s) ∙ omega arith

above_lowest : (b s k : ℕ) → b < 2 → bit_at (b + 2 * s) (suc k) ≡ bit_at s k
above_lowest b s k l = bit_at-suc (b + 2 * s) k ∙ ap (λ n. bit_at n k) (omega arith)

module _ {A L : Type 0} (admitting : A → L → Bool) (l : L) where
  abbrev answers : List A → ℕ
  answers atoms = answers_of admitting atoms l

  abbrev bit : A → ℕ
  bit a = cond (admitting a l) 1 0

  bit_below : (a : A) → bit a < 2
  bit_below a = cond_both (admitting a l) 1 0 (λ n. n < 2) (λ t. omega arith) (λ f. omega arith)

  pub answers_below : (atoms : List A) → answers atoms < 2 ^ length atoms
  unfolding answers_of
  answers_below [] = omega arith
  answers_below (a ∷ atoms) = below_more (bit a) (answers atoms) (length atoms) (bit_below a) (answers_below atoms)

  answers_append : (atoms : List A) (a : A) → answers (atoms ++ (a ∷ [])) ≡ answers atoms + bit a * 2 ^ length atoms
  unfolding answers_of
  answers_append [] a = omega arith
  answers_append (x ∷ atoms) a = rw (answers_append atoms a) (append_more (bit x) (answers atoms) (bit a) (length atoms))

  pub answer_joined : (atoms : List A) (s k b : ℕ) (a : A) → k < length atoms → length atoms ≤ 32 → s ≡ answers (take k atoms) → a ≡ get_or atoms k a → b ≡ bit a → bit_or s (b * 2 ^ k % 2 ^ 32) ≡ answers (take (k + 1) atoms)
  answer_joined atoms s k b a h most is at bit_is =
      let long : length (take k atoms) ≡ k = length-take-le k atoms (omega arith) in
      let low : s < 2 ^ k = rw is (subst (λ n. answers (take k atoms) < 2 ^ n) long (answers_below (take k atoms))) in
      let one : b < 2 = rw bit_is (bit_below a) in
      let more : take (k + 1) atoms ≡ take k atoms ++ (a ∷ []) = take_more atoms k a h ∙ ap (λ (z : A). take k atoms ++ (z ∷ [])) (sym at) in
      bit_joined s k b low one (omega arith)
      ∙ rw (is, bit_is) (sym (ap answers more ∙ answers_append (take k atoms) a ∙ ap (λ n. answers (take k atoms) + bit a * 2 ^ n) long))

  -- Bit k says what the atom k says.
  abbrev said : Option A → ℕ
  said None = 0
  said (Some a) = bit a

  bit_said : (atoms : List A) (k : ℕ) → bit_at (answers atoms) k ≡ said (slice_get atoms k)
  unfolding answers_of
  bit_said [] zero = refl
  bit_said [] (suc k) = bit_at-zero (suc k)
  bit_said (a ∷ atoms) zero = lowest (bit a) (answers atoms) (bit_below a)
  bit_said (a ∷ atoms) (suc k) = above_lowest (bit a) (answers atoms) k (bit_below a) ∙ bit_said atoms k

  bit_says : (atoms : List A) (k : ℕ) (o : Option A) → slice_get atoms k ≡ o → Decides (eqb (said o) 1) (Admitted admitting atoms l k)
  bit_says atoms k None e = (λ h. cc, λ h. let at = h.1 in cc)
  bit_says atoms k (Some a) e =
      cond_both (admitting a l) 1 0 (λ n. Decides (eqb n 1) (Admitted admitting atoms l k))
      (λ t. (λ h. (a, e, t), λ h. refl))
      (λ f. (λ h. cc, λ h. let at = h.1 in let yes = h.2 in let same : h.0 ≡ a = cc in cc))

  pub bits_say : (atoms : List A) (s : ℕ) → s ≡ answers atoms → (k : ℕ) → Decides (has k s) (Admitted admitting atoms l k)
  bits_say atoms s is k =
      let b : bit_at s k ≡ said (slice_get atoms k) = rw is (bit_said atoms k) in
      subst (λ n. Decides (eqb n 1) (Admitted admitting atoms l k)) (sym b) (bit_says atoms k (slice_get atoms k) refl)
