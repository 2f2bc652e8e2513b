-- Filling the table of classes, from byte 0 up.
--   so_far atoms n    the classes after the bytes below n were met
--   filled atoms n    the table as far as it is filled then
-- Assumes nothing.
use Rattle.std.proofs.Common.{◌≡◌, ℕ, ◌+◌, ◌<◌, ◌≤◌, List, ◌∷◌, ◌++◌, [], length, set, map, take, Some, None, Ok, Err, leb, sym, subst, refl, ap, ◌∙◌, arith}
use Rattle.std.proofs.lemmas.List.{take_more_set, take_all}
use Rattle.std.proofs.lemmas.List.FromFn.{map-range_with_len_more}
use Rattle.std.proofs.lemmas.Bool.{cond-false, lt-leb}
use Rattle.refusals.specs.declared.Refusal.{Refusal}
use Rattle.refusals.specs.declared.Question.TheVariants.{ClassCount}
use Rattle.refusals.specs.Questions.{refusing}
use Rattle.cutting.specs.Cutting.{limited}
use Rattle.classes.specs.Rising.{rising}
use Rattle.classes.specs.Bytes.{all_bytes}
use Rattle.classes.specs.Meeting.{firsts, meets}
use Rattle.classes.specs.Found.{Found, Out, made, met}
use Rattle.classes.proofs.Bytes.{ByteGot, byte_got, byte_got_none}
use Rattle.octets.specs.declared.range.ByteRange.{ByteRange}
use Rattle.octets.specs.Classing.{set_of, class_of, count_of, samples, sets, table_of}
use Rattle.octets.specs.Making.{Given, given}

-- What was given for a byte.
given_some : (t : Out ℕ) (i : ℕ) (after : Found ℕ) → ◌≡◌ {A = Given} (Ok i, after) (given t) → ◌≡◌ {A = Out ℕ} (Some i, after) t
given_some (Some j, f) i after h = let a = ap (λ (g : Given). g.0) h in let b = ap (λ (g : Given). g.1) h in cc
given_some (None, f) i after h = let a = ap (λ (g : Given). g.0) h in cc

given_none : (t : Out ℕ) (r : Refusal) (after : Found ℕ) → ◌≡◌ {A = Given} (Err r, after) (given t) → (◌≡◌ {A = Out ℕ} (None, after) t) × (r ≡ refusing ClassCount 255)
given_none (Some j, f) r after h = let a = ap (λ (g : Given). g.0) h in cc
given_none (None, f) r after h = let a = ap (λ (g : Given). g.0) h in let b = ap (λ (g : Given). g.1) h in (cc, cc)

module _ (atoms : List ByteRange) where
  abbrev pub so_far : ℕ → Found ℕ
  so_far n = made (set_of atoms) (firsts (set_of atoms) (rising 0 n))

  abbrev pub filled : ℕ → List ℕ
  filled n = map (class_of atoms) (rising 0 n)

  filled_more : (n : ℕ) → filled (n + 1) ≡ filled n ++ (class_of atoms n ∷ [])
  unfolding rising
  filled_more n = map-range_with_len_more (class_of atoms) 0 n n (omega arith)

  pub met_none : (f : Found ℕ) → f.samples ≡ [] → f.keys ≡ [] → f ≡ so_far 0
  unfolding meets rising
  met_none f s k =
      let e : ◌≡◌ {A = Found ℕ} (record { samples = f.samples; keys = f.keys }) (record { samples = []; keys = [] }) = rw (s, k) refl in
      e

  pub few_none : length (so_far 0).samples ≤ 255
  unfolding meets rising
  few_none = omega arith

  pub table_none : filled 0 ≡ []
  unfolding rising
  table_none = refl

  module _ (n : ℕ) (f after : Found ℕ) (inside : n < 256) (met_so_far : f ≡ so_far n) where
    byte_given : (i : ℕ) → ◌≡◌ {A = Given} (Ok i, after) (given (met f n (set_of atoms n))) → ByteGot (set_of atoms) n i after
    byte_given i h = byte_got (set_of atoms) n inside i after (given_some (met f n (set_of atoms n)) i after h ∙ ap (λ f. met f n (set_of atoms n)) met_so_far)

    pub met_more : (i : ℕ) → ◌≡◌ {A = Given} (Ok i, after) (given (met f n (set_of atoms n))) → after ≡ so_far (n + 1)
    met_more i h = (byte_given i h).on

    pub few_more : (i : ℕ) → ◌≡◌ {A = Given} (Ok i, after) (given (met f n (set_of atoms n))) → length (so_far n).samples ≤ 255 → length (so_far (n + 1)).samples ≤ 255
    few_more i h few = (byte_given i h).few few

    pub table_more : (i : ℕ) (classes : List ℕ) → length classes ≡ 256 → ◌≡◌ {A = Given} (Ok i, after) (given (met f n (set_of atoms n))) → take n classes ≡ filled n → take (n + 1) (set classes n i) ≡ filled (n + 1)
    table_more i classes long h t =
        take_more_set classes n i (omega arith)
        ∙ ap (λ xs. xs ++ (i ∷ [])) t
        ∙ ap (λ k. filled n ++ (k ∷ [])) (sym (byte_given i h).class)
        ∙ sym (filled_more n)

    pub refused : (r : Refusal) → ◌≡◌ {A = Given} (Err r, after) (given (met f n (set_of atoms n))) → limited count_of atoms ≡ Err r
    refused r h =
        let g = given_none (met f n (set_of atoms n)) r after h in
        let many = byte_got_none (set_of atoms) n inside after (g.0 ∙ ap (λ f. met f n (set_of atoms n)) met_so_far) in
        cond-false (leb (count_of atoms) 255) (Ok atoms) (Err (refusing ClassCount 255)) (lt-leb (count_of atoms) 255 many) ∙ ap Err (sym g.1)

  -- All bytes were met.
  pub samples_met : (n : ℕ) (f : Found ℕ) → n ≡ 256 → f ≡ so_far n → f.samples ≡ samples atoms
  unfolding all_bytes
  samples_met n f all h = ap (λ (f : Found ℕ). f.samples) h ∙ ap (λ k. firsts (set_of atoms) (rising 0 k)) all

  pub few_met : (n : ℕ) → n ≡ 256 → length (so_far n).samples ≤ 255 → count_of atoms ≤ 255
  unfolding all_bytes
  few_met n all h = subst (λ k. length (so_far k).samples ≤ 255) all h

  pub sets_met : (n : ℕ) (f : Found ℕ) → n ≡ 256 → f ≡ so_far n → f.keys ≡ sets atoms
  unfolding all_bytes
  sets_met n f all h = ap (λ (f : Found ℕ). f.keys) h ∙ ap (λ k. map (set_of atoms) (firsts (set_of atoms) (rising 0 k))) all

  pub table_filled : (n : ℕ) (classes : List ℕ) → n ≡ 256 → length classes ≡ 256 → take n classes ≡ filled n → classes ≡ table_of atoms
  unfolding all_bytes
  table_filled n classes all long h = sym (take_all n classes (omega arith)) ∙ h ∙ ap filled all
