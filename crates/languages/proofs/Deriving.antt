-- Derivatives and nullability say what the language of a rule says, so every language is decidable and depends on answer sets alone.
-- Assumes nothing.
use Rattle.std.proofs.Common.{◌≡◌, ℕ, Bool, true, false, cond, ◌⊎◌, ◌↔◌, List, [], ◌∷◌, map, Decides, sym, refl, ap, ◌∙◌, inl, inr, map-id}
use mathlib.Core.List.{cons-ne-nil, head-eq_of_cons-eq, tail-eq_of_cons-eq}
use mathlib.Core.Logic.Iff
use mathlib.Core.Logic.{⊎_map}
use Rattle.std.proofs.lemmas.Bool.{false≢true}
use Rattle.std.proofs.lemmas.Bool.Decides.{Decides-like, Decides-and, Decides-or}
use Rattle.languages.specs.Rules.{Rule, none, empty, any, atom, sequence, or, and, star, not, has, stop, Lang, nullable, derivative, after, Same}
use Rattle.languages.proofs.Parting.{Joined, no_first, joined_nothing, joined-first, first-joined, joined-map, star_first, first_star}

decides_never : {P : Type 0} → (P → ⊥) → Decides false P
decides_never never = (λ e. absurd (false≢true e), λ p. absurd (never p))

decides_opposite : {P : Type 0} (b : Bool) → Decides b P → Decides (cond b false true) (¬ P)
decides_opposite true d = (λ e. absurd (false≢true e), λ never. absurd (never (d.0 refl)))
decides_opposite false d = (λ _ p. false≢true (d.1 p), λ _. refl)

iff_from_decides : {P Q : Type 0} (b : Bool) → Decides b P → Decides b Q → P ↔ Q
iff_from_decides b d e = (λ p. e.0 (d.1 p), λ q. d.0 (e.1 q))

pub either_iff : {A B C D : Type 0} → A ↔ C → B ↔ D → (A ⊎ B) ↔ (C ⊎ D)
either_iff h k = (⊎_map h.0 k.0, ⊎_map h.1 k.1)

module _ {L : Type 0} (f : L → ℕ) where
  pub nullable_decides : (r : Rule) → Decides (nullable r) (Lang f r [])
  nullable_decides none = decides_never (λ h. h)
  nullable_decides empty = (λ _. refl, λ _. refl)
  nullable_decides any = decides_never (λ h. no_first h.0 [] h.1)
  nullable_decides (atom k) = decides_never (λ h. no_first h.0 [] h.1)
  nullable_decides (sequence r q) = Decides-like (nullable (sequence r q))
      (λ h. ([], [], refl, h.0, h.1)) (joined_nothing (Lang f r) (Lang f q))
      (Decides-and (nullable r) (nullable q) (nullable_decides r) (nullable_decides q))
  nullable_decides (or r q) = Decides-or (nullable r) (nullable q) (nullable_decides r) (nullable_decides q)
  nullable_decides (and r q) = Decides-and (nullable r) (nullable q) (nullable_decides r) (nullable_decides q)
  nullable_decides (star r) = (λ _. stop refl, λ _. refl)
  nullable_decides (not r) = decides_opposite (nullable r) (nullable_decides r)

  module _ (l : L) where
    atom_derived : (k : ℕ) (b : Bool) → has k (f l) ≡ b → (w : List L) → Lang f (cond b empty none) w ↔ Lang f (atom k) (l ∷ w)
    atom_derived k true e w = (λ h. (l, ap (λ t. l ∷ t) h, e), λ h. tail-eq_of_cons-eq h.1)
    atom_derived k false e w = (λ h. absurd h, λ h. absurd (false≢true (sym e ∙ (ap (λ x. has k (f x)) (head-eq_of_cons-eq h.1) ∙ h.2))))

    -- What follows l in two parts, by what follows it in the first, R.
    module _ (P Q R : List L → Type 0) (first : (w : List L) → R w ↔ P (l ∷ w)) where
      into_first : (w : List L) → Joined R Q w → Joined P Q (l ∷ w)
      into_first w j = first-joined P Q l w (joined-map R Q (λ t. P (l ∷ t)) Q (λ t. (first t).0) (λ _ q. q) w j)

      from_first : (w : List L) → Joined (λ t. P (l ∷ t)) Q w → Joined R Q w
      from_first w j = joined-map (λ t. P (l ∷ t)) Q R Q (λ t. (first t).1) (λ _ q. q) w j

      unless_empty : (w : List L) → (P [] → ⊥) → Joined R Q w ↔ Joined P Q (l ∷ w)
      unless_empty w never = (
        into_first w,
        λ j. elim (joined-first P Q l w j) [
          | inl h ↦ absurd (never h.0)
          | inr k ↦ from_first w k
        ],
      )

      if_empty : (S : Type 0) (w : List L) → S ↔ Q (l ∷ w) → P [] → (Joined R Q w ⊎ S) ↔ Joined P Q (l ∷ w)
      if_empty S w second here = (
        elim [
          | inl j ↦ into_first w j
          | inr s ↦ ([], l ∷ w, refl, here, second.0 s)
        ],
        λ j. elim (joined-first P Q l w j) [
          | inl h ↦ inr (second.1 h.1)
          | inr k ↦ inl (from_first w k)
        ],
      )

    sequence_derived : (r q : Rule) (b : Bool) → Decides b (Lang f r []) →
        ((w : List L) → Lang f (derivative (f l) r) w ↔ Lang f r (l ∷ w)) → (w : List L) → Lang f (derivative (f l) q) w ↔ Lang f q (l ∷ w) →
        Lang f (cond b (or (sequence (derivative (f l) r) q) (derivative (f l) q)) (sequence (derivative (f l) r) q)) w ↔ Lang f (sequence r q) (l ∷ w)
    sequence_derived r q true d first w second =
        if_empty (Lang f r) (Lang f q) (Lang f (derivative (f l) r)) first (Lang f (derivative (f l) q) w) w second (d.0 refl)
    sequence_derived r q false d first w second =
        unless_empty (Lang f r) (Lang f q) (Lang f (derivative (f l) r)) first w (λ h. false≢true (d.1 h))

    pub derived_iff : (r : Rule) (w : List L) → Lang f (derivative (f l) r) w ↔ Lang f r (l ∷ w)
    derived_iff none w = Iff.rfl
    derived_iff empty w = (λ h. absurd h, λ e. absurd (cons-ne-nil l w e))
    derived_iff any w = (λ e. (l, ap (λ t. l ∷ t) e), λ h. tail-eq_of_cons-eq h.1)
    derived_iff (atom k) w = atom_derived k (has k (f l)) refl w
    derived_iff (sequence r q) w = sequence_derived r q (nullable r) (nullable_decides r) (derived_iff r) w (derived_iff q w)
    derived_iff (or r q) w = either_iff (derived_iff r w) (derived_iff q w)
    derived_iff (and r q) w = Iff.and (derived_iff r w) (derived_iff q w)
    derived_iff (star r) w = (
      λ j. first_star (Lang f r) l w
          (joined-map (Lang f (derivative (f l) r)) (Lang f (star r)) (λ t. Lang f r (l ∷ t)) (Lang f (star r)) (λ t. (derived_iff r t).0) (λ _ s. s) w j),
      λ s. from_first (Lang f r) (Lang f (star r)) (Lang f (derivative (f l) r)) (derived_iff r) w (star_first (Lang f r) l w (l ∷ w) refl s),
    )
    derived_iff (not r) w = Iff.not (derived_iff r w)

  pub after_decides : (w : List L) (r : Rule) → Decides (nullable (after (map f w) r)) (Lang f r w)
  after_decides [] r = nullable_decides r
  after_decides (l ∷ w) r = let d = derived_iff l r w in
      Decides-like (nullable (after (map f (l ∷ w)) r)) d.0 d.1 (after_decides w (derivative (f l) r))

-- The answer sets of a list's letters say whether it is in a language, and so does the rule of what follows them.
pub lang_map : {L : Type 0} (f : L → ℕ) (r : Rule) (w : List L) → Lang f r w ↔ Lang (λ s. s) r (map f w)
lang_map f r w = iff_from_decides (nullable (after (map f w) r)) (after_decides f w r)
    (rw (map-id (map f w)) at (after_decides (λ s. s) (map f w) r))

pub same_lang : {L : Type 0} (f : L → ℕ) (r q : Rule) → Same r q → (w : List L) → Lang f r w ↔ Lang f q w
same_lang f r q same w = Iff.trans (lang_map f r w) (Iff.trans (same (map f w)) (Iff.symm (lang_map f q w)))
