-- The alphabet without atoms.
-- Assumes nothing.
use Rattle.std.proofs.Common.{◌≡◌, ℕ, suc, [], ◌∷◌, map, replicate, unwrap_or, sym, refl, ap, ◌∙◌}
use Rattle.std.proofs.lemmas.List.{get_or-replicate, length-replicate}
use Rattle.cutting.specs.Answers.{answers_of}
use Rattle.classes.specs.Rising.{rising}
use Rattle.classes.specs.Bytes.{all_bytes}
use Rattle.classes.specs.Meeting.{firsts, meets, number_in}
use Rattle.classes.proofs.Rising.{rising_suc, all_rising}
use Rattle.classes.proofs.Meeting.{nothing_new}
use Rattle.classes.proofs.Bytes.{table_is}
use Rattle.octets.specs.Classing.{set_of, samples, sets, class_of, table_of}

-- Where each letter has the key 0, there is one class.
one_class : (key : ℕ → ℕ) (n : ℕ) → ((b : ℕ) → key b ≡ 0) → firsts key (rising 0 (suc n)) ≡ 0 ∷ []
unfolding meets
one_class key n same =
    ap (firsts key) (rising_suc 0 n)
    ∙ nothing_new key (0 ∷ []) (rising 1 n) 0 0 (ap (λ k. number_in (k ∷ []) 0) (same 0)) (all_rising (λ b. key b ≡ 0) 1 n (λ b low high. same b))

no_answers : (b : ℕ) → set_of [] b ≡ 0
unfolding answers_of
no_answers b = refl

pub one_sample : samples [] ≡ 0 ∷ []
unfolding all_bytes
one_sample = one_class (set_of []) 255 no_answers

pub one_set : sets [] ≡ 0 ∷ []
one_set = ap (map (set_of [])) one_sample ∙ ap (λ s. s ∷ []) (no_answers 0)

class_nought : (b : ℕ) → class_of [] b ≡ 0
class_nought b =
    ap (λ ks. unwrap_or (number_in ks (set_of [] b)) 0) one_set
    ∙ ap (λ s. unwrap_or (number_in (0 ∷ []) s) 0) (no_answers b)

pub table_nought : replicate 256 0 ≡ table_of []
table_nought = table_is (class_of []) (replicate 256 0) (length-replicate {A = ℕ} 256 0) (λ b h. get_or-replicate {A = ℕ} 256 b 0 0 h ∙ sym (class_nought b))
