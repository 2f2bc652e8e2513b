-- Lists taken apart: two properties one after the other, runs of one property, and what is left of either after a first letter.
--   Joined P Q w   w is a list that has P, and one that has Q after it
-- Assumes nothing.
use Rattle.std.proofs.Common.{◌≡◌, ◌⊎◌, List, [], ◌∷◌, ◌++◌, sym, refl, ap, ◌∙◌, inl, inr, append_assoc, append-nil}
use mathlib.Core.List.{cons-ne-nil, head-eq_of_cons-eq, tail-eq_of_cons-eq}
use Rattle.languages.specs.Rules.{Star, stop, more}

module _ {L : Type 0} where
  abbrev pub Joined : (List L → Type 0) → (List L → Type 0) → List L → Type 0
  Joined P Q w = (u : List L) × (v : List L) × (w ≡ u ++ v) × P u × Q v

  pub no_first : {A : Type 0} (l : L) (w : List L) → [] ≡ l ∷ w → A
  no_first l w e = absurd (cons-ne-nil l w (sym e))

  nothing_apart : (u v : List L) → [] ≡ u ++ v → (u ≡ []) × (v ≡ [])
  nothing_apart [] v e = (refl, sym e)
  nothing_apart (x ∷ u) v e = no_first x (u ++ v) e

  module _ (P Q : List L → Type 0) where
    pub joined_nothing : Joined P Q [] → P [] × Q []
    joined_nothing j = let e = nothing_apart j.0 j.1 j.2 in (rw e.0 at j.3, rw e.1 at j.4)

    first_apart : (l : L) (w u v : List L) → l ∷ w ≡ u ++ v → P u → Q v → (P [] × Q (l ∷ w)) ⊎ Joined (λ t. P (l ∷ t)) Q w
    first_apart l w [] v e p q = inl (p, rw e q)
    first_apart l w (x ∷ u) v e p q = inr (u, v, tail-eq_of_cons-eq e, rw (head-eq_of_cons-eq e) p, q)

    -- The first letter of a joined list belongs to the second part, after an empty first one, or to the first.
    pub joined-first : (l : L) (w : List L) → Joined P Q (l ∷ w) → (P [] × Q (l ∷ w)) ⊎ Joined (λ t. P (l ∷ t)) Q w
    joined-first l w j = first_apart l w j.0 j.1 j.2 j.3 j.4

    pub first-joined : (l : L) (w : List L) → Joined (λ t. P (l ∷ t)) Q w → Joined P Q (l ∷ w)
    first-joined l w j = (l ∷ j.0, j.1, ap (λ t. l ∷ t) j.2, j.3, j.4)

  pub joined-map : (P Q P' Q' : List L → Type 0) → ((w : List L) → P w → P' w) → ((w : List L) → Q w → Q' w) →
      (w : List L) → Joined P Q w → Joined P' Q' w
  joined-map P Q P' Q' p q w j = (j.0, j.1, j.2, p j.0 j.3, q j.1 j.4)

  pub star_map : (P Q : List L → Type 0) → ((w : List L) → P w → Q w) → (w : List L) → Star P w → Star Q w
  star_map P Q h w (stop e) = stop e
  star_map P Q h w (more u v e p s) = more u v e (h u p) (star_map P Q h v s)

  module _ (P : List L → Type 0) where
    -- A run that begins with a letter has it in its first part that is not empty.
    pub star_first : (l : L) (w x : List L) → x ≡ l ∷ w → Star P x → Joined (λ t. P (l ∷ t)) (Star P) w
    star_first l w x h (stop e) = no_first l w (sym e ∙ h)
    star_first l w x h (more [] v e p s) = star_first l w v (sym e ∙ h) s
    star_first l w x h (more (y ∷ u) v e p s) =
        let same = sym h ∙ e in (u, v, tail-eq_of_cons-eq same, rw (head-eq_of_cons-eq same) p, s)

    pub first_star : (l : L) (w : List L) → Joined (λ t. P (l ∷ t)) (Star P) w → Star P (l ∷ w)
    first_star l w j = more (l ∷ j.0) j.1 (ap (λ t. l ∷ t) j.2) j.3 j.4

    pub star_once : (w : List L) → P w → Star P w
    star_once w p = more w [] (sym (append-nil w)) p (stop refl)

    star_append : (u v x : List L) → x ≡ u ++ v → Star P u → Star P v → Star P x
    star_append u v x h (stop e) t = rw (h ∙ ap (λ y. y ++ v) e) t
    star_append u v x h (more a b e p s) t =
        more a (b ++ v) (h ∙ (ap (λ y. y ++ v) e ∙ append_assoc a b v)) p (star_append b v (b ++ v) refl s t)

    -- A run of runs is a run.
    pub star_flat : (w : List L) → Star (Star P) w → Star P w
    star_flat w (stop e) = stop e
    star_flat w (more u v e s t) = star_append u v w e s (star_flat v t)

    -- A run of what only the empty list has is empty.
    pub star_empty_only : ((w : List L) → P w → w ≡ []) → (w : List L) → Star P w → w ≡ []
    star_empty_only h w (stop e) = e
    star_empty_only h w (more u v e p s) = e ∙ (ap (λ t. t ++ v) (h u p) ∙ star_empty_only h v s)
