-- What numbering means.
-- Assumes nothing.
use Rattle.std.proofs.Common.{◌≡◌, ℕ, Bool, List, [], ◌∷◌, ◌++◌, length, Some, None, Decides, Option, refl, ap, ◌∙◌, inl, inr}
use Rattle.numbering.specs.Finding.{first_equal}
use Rattle.numbering.specs.Numbering.{Pages, Out, placed, unless_found, numbered, Means}
use Rattle.numbering.proofs.Finding.{absent, found_there, first}

module _ {T : Type 0} (eq : T → T → Bool) (exact : (x y : T) → Decides (eq x y) (x ≡ y)) (x : T) where
  placed-means : (pg : Pages T) (past : List T) → pg.past ≡ past → first_equal eq pg.used x ≡ None → Means eq x pg (placed x pg past).0 (placed x pg past).1
  placed-means pg [] is e =
      let again : ◌≡◌ {A = Out T} (numbered eq pg x) (placed x pg []) = ap (unless_found x pg) e ∙ ap (placed x pg) is in
      record { kept = inl refl; answer = (absent eq exact x pg.used e, is, refl); again = again }
  placed-means pg (y ∷ ys) is e =
      let there : first_equal eq (pg.used ++ (x ∷ [])) x ≡ Some (length pg.used) = found_there eq exact x pg.used [] (absent eq exact x pg.used e) in
      record {
        kept = inr refl;
        answer = first eq exact x (pg.used ++ (x ∷ [])) (length pg.used) there;
        again = rw there;
      }

  found_means : (pg : Pages T) (o : Option ℕ) → first_equal eq pg.used x ≡ o → Means eq x pg (unless_found x pg o).0 (unless_found x pg o).1
  found_means pg (Some i) e = record { kept = inl refl; answer = first eq exact x pg.used i e; again = rw e }
  found_means pg None e = placed-means pg pg.past refl e

  pub numbered-means : (pg : Pages T) (o : Option ℕ) (after : Pages T) → ◌≡◌ {A = Out T} (o, after) (numbered eq pg x) → Means eq x pg o after
  numbered-means pg o after is =
      let a : o ≡ (numbered eq pg x).0 = ap (λ (t : Out T). t.0) is in
      let b : after ≡ (numbered eq pg x).1 = ap (λ (t : Out T). t.1) is in
      rw (a, b) (found_means pg (first_equal eq pg.used x) refl)
