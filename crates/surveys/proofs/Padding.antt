-- The places of the atoms where one more is in use.
-- Assumes nothing.
use Rattle.std.proofs.Common.{◌≡◌, ℕ, ◌+◌, ◌-◌, ◌<◌, List, drop, length, length-take, set, replicate, subst, sym, take, ap, ◌∙◌, arith}
use Rattle.std.proofs.lemmas.List.{drop-drop, drop-replicate, drop-set-lt, length-set}
use Rattle.surveys.specs.declared.entry.Entry.{Entry}
use Rattle.surveys.specs.Padding.{IsPadded, unused}

pub padded_more : (n : ℕ) (xs : List Entry) (e : Entry) → IsPadded n xs → n < 32 → IsPadded (n + 1) (set xs n e)
padded_more n xs e is room =
    let one : (32 - n) - 1 ≡ 32 - (n + 1) = omega arith in
    record {
      few = omega arith;
      all = length-set xs n e ∙ is.all;
      rest = drop-set-lt (n + 1) xs n e (omega arith) ∙ sym (drop-drop 1 n xs) ∙ ap (drop 1) is.rest ∙ drop-replicate 1 (32 - n) unused ∙ ap (λ k. replicate k unused) one;
    }

-- The same by the length of the list of those in use.
pub padded_next : (n u : ℕ) (xs : List Entry) (e : Entry) → u ≡ length (take n xs) → (u ≡ 32 → ⊥) → IsPadded n xs → IsPadded (u + 1) (set xs u e)
padded_next n u xs e used room is =
    let few = is.few in
    let all = is.all in
    let k = length-take n xs in
    let same : n ≡ u = omega arith in
    subst (λ v. IsPadded (v + 1) (set xs v e)) same (padded_more n xs e is (omega arith))
