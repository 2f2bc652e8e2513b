-- Which rules have the same language: that it is kept by every way to build rules, and the laws by which rules are made
-- simpler.
-- Assumes nothing.
use Rattle.std.proofs.Common.{ℕ, Bool, true, false, List, [], ◌++◌, map, Decides, sym, refl, ap, ◌∙◌, inl, inr, ⊎_elim, append-nil}
use mathlib.Core.Logic.Iff
use mathlib.Core.Logic.{⊎_swap}
use Rattle.std.proofs.lemmas.Bool.Decides.{not_from_Decides}
use Rattle.languages.specs.Rules.{Rule, none, empty, sequence, or, and, star, not, Star, stop, Lang, nullable, after, Same}
use Rattle.languages.proofs.Parting.{joined-map, star_map, star_once, star_flat, star_empty_only}
use Rattle.languages.proofs.Deriving.{either_iff, after_decides}
pub use Rattle.languages.proofs.Joining.{same_refl, same_sym, same_trans}

abbrev In : Rule → List ℕ → Type 0
In r w = Lang (λ s. s) r w

all_in : (w : List ℕ) → In (not none) w
all_in w = λ h. h

-- What is kept.

pub same_sequence : (r r' q q' : Rule) → Same r r' → Same q q' → Same (sequence r q) (sequence r' q')
same_sequence r r' q q' h k w = (
  joined-map (In r) (In q) (In r') (In q') (λ u. (h u).0) (λ v. (k v).0) w,
  joined-map (In r') (In q') (In r) (In q) (λ u. (h u).1) (λ v. (k v).1) w,
)

pub same_or : (r r' q q' : Rule) → Same r r' → Same q q' → Same (or r q) (or r' q')
same_or r r' q q' h k w = either_iff (h w) (k w)

pub same_and : (r r' q q' : Rule) → Same r r' → Same q q' → Same (and r q) (and r' q')
same_and r r' q q' h k w = Iff.and (h w) (k w)

pub same_star : (r q : Rule) → Same r q → Same (star r) (star q)
same_star r q h w = (star_map (In r) (In q) (λ u. (h u).0) w, star_map (In q) (In r) (λ u. (h u).1) w)

pub same_not : (r q : Rule) → Same r q → Same (not r) (not q)
same_not r q h w = Iff.not (h w)

-- Sequence, star and not.

pub none_sequence : (r : Rule) → Same (sequence none r) none
none_sequence r w = (λ j. j.3, λ h. absurd h)

pub sequence_none : (r : Rule) → Same (sequence r none) none
sequence_none r w = (λ j. j.4, λ h. absurd h)

pub empty_sequence : (r : Rule) → Same (sequence empty r) r
empty_sequence r w = (λ j. rw (j.2 ∙ ap (λ u. u ++ j.1) j.3) j.4, λ h. ([], w, refl, refl, h))

pub sequence_empty : (r : Rule) → Same (sequence r empty) r
sequence_empty r w = (λ j. rw (j.2 ∙ (ap (λ v. j.0 ++ v) j.4 ∙ append-nil j.0)) j.3, λ h. (w, [], sym (append-nil w), h, refl))

pub star_none : Same (star none) empty
star_none w = (star_empty_only (In none) (λ u h. absurd h) w, λ e. stop e)

pub star_empty : Same (star empty) empty
star_empty w = (star_empty_only (In empty) (λ u e. e) w, λ e. stop e)

pub star_star : (r : Rule) → Same (star (star r)) (star r)
star_star r w = (star_flat (In r) w, star_once (Star (In r)) w)

-- By deciding: what is not outside of a language is in it.
in_unless_not : (b : Bool) (P : Type 0) → Decides b P → ¬ (¬ P) → P
in_unless_not true P d h = d.0 refl
in_unless_not false P d h = absurd (h (not_from_Decides false d refl))

pub not_not : (r : Rule) → Same (not (not r)) r
not_not r w = (in_unless_not (nullable (after (map (λ s. s) w) r)) (In r w) (after_decides (λ s. s) w r), λ h never. never h)

-- None and all beside or and and.

pub none_or : (r : Rule) → Same (or none r) r
none_or r w = (⊎_elim (λ h. absurd h) (λ h. h), λ h. inr h)

pub or_none : (r : Rule) → Same (or r none) r
or_none r w = (⊎_elim (λ h. h) (λ h. absurd h), λ h. inl h)

pub all_or : (r : Rule) → Same (or (not none) r) (not none)
all_or r w = (λ _. all_in w, λ h. inl h)

pub or_all : (r : Rule) → Same (or r (not none)) (not none)
or_all r w = (λ _. all_in w, λ h. inr h)

pub all_and : (r : Rule) → Same (and (not none) r) r
all_and r w = (λ h. h.1, λ h. (all_in w, h))

pub and_all : (r : Rule) → Same (and r (not none)) r
and_all r w = (λ h. h.0, λ h. (h, all_in w))

pub none_and : (r : Rule) → Same (and none r) none
none_and r w = (λ h. h.0, λ h. absurd h)

pub and_none : (r : Rule) → Same (and r none) none
and_none r w = (λ h. h.1, λ h. absurd h)

-- Or takes its parts in any order and grouping, and one twice as once.

pub or_twice : (r : Rule) → Same (or r r) r
or_twice r w = (⊎_elim (λ h. h) (λ h. h), λ h. inl h)

pub or_turned : (r q : Rule) → Same (or r q) (or q r)
or_turned r q w = (⊎_swap, ⊎_swap)

pub or_grouped : (x a b : Rule) → Same (or (or x a) b) (or x (or a b))
or_grouped x a b w = (
  ⊎_elim (⊎_elim (λ h. inl h) (λ h. inr (inl h))) (λ h. inr (inr h)),
  ⊎_elim (λ h. inl (inl h)) (⊎_elim (λ h. inl (inr h)) (λ h. inr h)),
)

-- And, alike.

pub and_twice : (r : Rule) → Same (and r r) r
and_twice r w = (λ h. h.0, λ h. (h, h))

pub and_turned : (r q : Rule) → Same (and r q) (and q r)
and_turned r q w = (λ h. (h.1, h.0), λ h. (h.1, h.0))

pub and_grouped : (x a b : Rule) → Same (and (and x a) b) (and x (and a b))
and_grouped x a b w = (λ h. (h.0.0, (h.0.1, h.1)), λ h. ((h.0, h.1.0), h.1.1))
