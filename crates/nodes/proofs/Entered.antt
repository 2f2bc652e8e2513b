-- Entering a form comes to that form over the rules of its parts, whichever of its rules applies.
-- Assumes nothing.
use Rattle.std.proofs.Common.{◌≡◌, ℕ, zero, suc, ◌<◌, true, ◌||◌, eqb, ltb, length, Ok, refl, ap, ◌∙◌, inl, inr, arith}
use Rattle.std.proofs.lemmas.Bool.{cond_both, eqb-true, ltb-true, or_cases, false≢true}
use Rattle.languages.specs.Rules.{Rule, Same}
use Rattle.languages.proofs.Laws.{same_sym, none_sequence, sequence_none, empty_sequence, sequence_empty, star_none, star_empty, star_star, not_not, none_or, or_none, all_or, or_all, all_and, and_all, none_and, and_none}
use Rattle.nodes.specs.declared.form.Form.{Form}
use Rattle.nodes.specs.declared.merging.Join.TheVariants as Join
use Rattle.nodes.specs.Reading.{form_at}
use Rattle.nodes.specs.Entering.{Held, kept, is_star, negated, entered}
use Rattle.nodes.specs.Soundness.{Sound}
use Rattle.nodes.specs.Meaning.{meaning, means}
use Rattle.nodes.specs.Promises.{Parts, Comes}
use Rattle.nodes.proofs.Sounding.{four, form_at_lem, meaning_form, means_none, means_empty, means_any, means_all}
use Rattle.nodes.proofs.Coming.{same_path, comes_here, comes_kept}
use Rattle.nodes.proofs.Merged.{comes_merged}

module _ (h : Held) (sound : Sound h.used) where
  -- What node n means, in the pool before.
  abbrev m : ℕ → Rule
  m n = meaning h.used n

  here : (r : Rule) (n : ℕ) → n < length h.used → Same (m n) r → Comes h r (Ok n, h)
  here r n there same = comes_here h r n sound there same

  first : (r : Rule) (n : ℕ) → n < 4 → Same (m n) r → Comes h r (Ok n, h)
  first r n below same = here r n (omega (arith, four h.used sound, below)) same

  is : (n k : ℕ) (r : Rule) → eqb n k ≡ true → m k ≡ r → m n ≡ r
  is n k r e means = ap m (eqb-true n k e) ∙ means

  comes_sequence : (l r : ℕ) → l < length h.used → r < length h.used → Comes h (Rule.sequence (m l) (m r)) (entered (Form.Sequence l r) h)
  comes_sequence l r below under = cond_both (eqb l 0 || eqb r 0) _ _ (Comes h goal)
      (λ e. first goal 0 (omega arith) (rw (means_none h.used sound) (same_sym goal Rule.none (elim (or_cases (eqb l 0) (eqb r 0) e) [
        | inl f ↦ rw (is l 0 Rule.none f (means_none h.used sound)) (none_sequence (m r))
        | inr f ↦ rw (is r 0 Rule.none f (means_none h.used sound)) (sequence_none (m l))
      ]))))
      (λ e. cond_both (eqb l 1) _ _ (Comes h goal)
      (λ f. here goal r under (same_sym goal (m r) (rw (is l 1 Rule.empty f (means_empty h.used sound)) (empty_sequence (m r)))))
      (λ f. cond_both (eqb r 1) _ _ (Comes h goal)
      (λ g. here goal l below (same_sym goal (m l) (rw (is r 1 Rule.empty g (means_empty h.used sound)) (sequence_empty (m l)))))
      (λ g. comes_kept h (Form.Sequence l r) sound (below, under))))
    where
      goal : Rule
      goal = Rule.sequence (m l) (m r)

  comes_or : (l r : ℕ) → l < length h.used → r < length h.used → Comes h (Rule.or (m l) (m r)) (entered (Form.Or l r) h)
  comes_or l r below under = cond_both (eqb l 0) _ _ (Comes h goal)
      (λ e. here goal r under (same_sym goal (m r) (rw (is l 0 Rule.none e (means_none h.used sound)) (none_or (m r)))))
      (λ e. cond_both (eqb r 0) _ _ (Comes h goal)
      (λ f. here goal l below (same_sym goal (m l) (rw (is r 0 Rule.none f (means_none h.used sound)) (or_none (m l)))))
      (λ f. cond_both (eqb l 3 || eqb r 3) _ _ (Comes h goal)
      (λ g. first goal 3 (omega arith) (rw (means_all h.used sound) (same_sym goal all (elim (or_cases (eqb l 3) (eqb r 3) g) [
        | inl i ↦ rw (is l 3 all i (means_all h.used sound)) (all_or (m r))
        | inr i ↦ rw (is r 3 all i (means_all h.used sound)) (or_all (m l))
      ]))))
      (λ g. comes_merged Join.Or l r h sound below under)))
    where
      all : Rule
      all = Rule.not Rule.none

      goal : Rule
      goal = Rule.or (m l) (m r)

  comes_and : (l r : ℕ) → l < length h.used → r < length h.used → Comes h (Rule.and (m l) (m r)) (entered (Form.And l r) h)
  comes_and l r below under = cond_both (eqb l 3) _ _ (Comes h goal)
      (λ e. here goal r under (same_sym goal (m r) (rw (is l 3 all e (means_all h.used sound)) (all_and (m r)))))
      (λ e. cond_both (eqb r 3) _ _ (Comes h goal)
      (λ f. here goal l below (same_sym goal (m l) (rw (is r 3 all f (means_all h.used sound)) (and_all (m l)))))
      (λ f. cond_both (eqb l 0 || eqb r 0) _ _ (Comes h goal)
      (λ g. first goal 0 (omega arith) (rw (means_none h.used sound) (same_sym goal Rule.none (elim (or_cases (eqb l 0) (eqb r 0) g) [
        | inl i ↦ rw (is l 0 Rule.none i (means_none h.used sound)) (none_and (m r))
        | inr i ↦ rw (is r 0 Rule.none i (means_none h.used sound)) (and_none (m l))
      ]))))
      (λ g. comes_merged Join.And l r h sound below under)))
    where
      all : Rule
      all = Rule.not Rule.none

      goal : Rule
      goal = Rule.and (m l) (m r)

  -- Below 2 there are none and empty.
  star_small : (l : ℕ) → l < 2 → Same Rule.empty (Rule.star (m l))
  star_small zero below = rw (means_none h.used sound) (same_sym (Rule.star Rule.none) Rule.empty star_none)
  star_small (suc zero) below = rw (means_empty h.used sound) (same_sym (Rule.star Rule.empty) Rule.empty star_empty)
  star_small (suc (suc l)) below = absurd (omega (arith, below))

  is_star_lem : (f : Form) → is_star f ≡ true → (k : ℕ) × (f ≡ Form.Star k)
  is_star_lem Form.None e = absurd (false≢true e)
  is_star_lem Form.Empty e = absurd (false≢true e)
  is_star_lem Form.Any e = absurd (false≢true e)
  is_star_lem (Form.Atom k) e = absurd (false≢true e)
  is_star_lem (Form.Sequence l r) e = absurd (false≢true e)
  is_star_lem (Form.Or l r) e = absurd (false≢true e)
  is_star_lem (Form.And l r) e = absurd (false≢true e)
  is_star_lem (Form.Star l) e = (l, refl)
  is_star_lem (Form.Not l) e = absurd (false≢true e)

  comes_star : (l : ℕ) → l < length h.used → Comes h (Rule.star (m l)) (entered (Form.Star l) h)
  comes_star l below = cond_both (ltb l 2) _ _ (Comes h goal)
      (λ e. first goal 1 (omega arith) (rw (means_empty h.used sound) (star_small l (ltb-true l 2 e))))
      (λ e. cond_both (is_star (form_at h.used l)) _ _ (Comes h goal)
      (λ f.
      let w = is_star_lem (form_at h.used l) f in
      let star = meaning_form h.used sound l below ∙ ap (means h.used) w.1 in
      here goal l below (rw star (same_sym (Rule.star (Rule.star (m w.0))) (Rule.star (m w.0)) (star_star (m w.0)))))
      (λ f. comes_kept h (Form.Star l) sound below))
    where
      goal : Rule
      goal = Rule.star (m l)

  comes_not : (l : ℕ) → l < length h.used → Comes h (Rule.not (m l)) (entered (Form.Not l) h)
  comes_not l below = read (form_at h.used l) refl
    where
      goal : Rule
      goal = Rule.not (m l)

      new : Comes h goal (kept (Form.Not l) h)
      new = comes_kept h (Form.Not l) sound below

      read : (f : Form) → form_at h.used l ≡ f → Comes h goal (negated l f h)
      read Form.None e = new
      read Form.Empty e = new
      read Form.Any e = new
      read (Form.Atom k) e = new
      read (Form.Sequence a b) e = new
      read (Form.Or a b) e = new
      read (Form.And a b) e = new
      read (Form.Star a) e = new
      read (Form.Not a) e =
          let parts = rw e at (form_at_lem h.used sound l below).0 in
          let means = meaning_form h.used sound l below ∙ ap (means h.used) e in
          here goal a (omega (arith, parts, below)) (rw means (same_sym (Rule.not (Rule.not (m a))) (m a) (not_not (m a))))

  pub comes_entered : (f : Form) → Parts (length h.used) f → Comes h (means h.used f) (entered f h)
  comes_entered Form.None there = first Rule.none 0 (omega arith) (same_path _ _ (means_none h.used sound))
  comes_entered Form.Empty there = first Rule.empty 1 (omega arith) (same_path _ _ (means_empty h.used sound))
  comes_entered Form.Any there = first Rule.any 2 (omega arith) (same_path _ _ (means_any h.used sound))
  comes_entered (Form.Atom k) there = comes_kept h (Form.Atom k) sound there
  comes_entered (Form.Sequence l r) there = comes_sequence l r there.0 there.1
  comes_entered (Form.Or l r) there = comes_or l r there.0 there.1
  comes_entered (Form.And l r) there = comes_and l r there.0 there.1
  comes_entered (Form.Star l) there = comes_star l there
  comes_entered (Form.Not l) there = comes_not l there
