-- The bits of answer sets say what the texts of atoms say.
-- Assumes nothing.
use Rattle.std.proofs.Common.{◌≡◌, ℕ, ◌<◌, Bool, List, length, get_or, refl, Option, Some, Result, Ok, Err, leb, sym, subst, ap, ◌∙◌, arith}
use Rattle.std.specs.List.{slice_get}
use Rattle.std.proofs.lemmas.Option.{slice_get_within, slice_get-get_or}
use Rattle.surveys.specs.declared.entry.Entry.{Entry}
use Rattle.surveys.specs.Entries.{text_at}
use Rattle.cutting.specs.Answers.{Admitted, answers_of}
use Rattle.cutting.specs.Bits.{TextAdmits, BitsSay}
use Rattle.cutting.specs.Reading.{AreAtoms, atoms_of}
use Rattle.cutting.specs.Cutting.{put, Out, cut}
use Rattle.refusals.specs.declared.Refusal.{Refusal}
use Rattle.refusals.specs.declared.Question.TheVariants.{ClassCount}
use Rattle.refusals.specs.Questions.{refusing}
use Rattle.cutting.proofs.Reading.{atoms_mean}
use Rattle.std.proofs.lemmas.Bool.{cond_both}
use Rattle.std.specs.Result.{IfOk}
use Rattle.cutting.proofs.Answers.{bits_say}

module _ {A L : Type 0} (read_as : List ℕ → Option A) (ordered : A → Bool) (admitting : A → L → Bool) (text : List ℕ) (es : List Entry) (n : ℕ) (atoms : List A) (are : AreAtoms read_as ordered text es n atoms) where
  by_text : (l : L) (k : ℕ) → Admitted admitting atoms l k → TextAdmits read_as admitting text es n l k
  by_text l k p =
      let is = are.each k p.0 p.1 in
      record { below = (let h = slice_get_within atoms k p.0 p.1 in let many = are.many in omega arith); entry = is.entry; listed = is.listed; atom = p.0; spells = is.spells; admits = p.2 }

  by_atom : (l : L) (k : ℕ) → TextAdmits read_as admitting text es n l k → Admitted admitting atoms l k
  by_atom l k t =
      let inside : k < length atoms = (let many = are.many in let h = t.below in omega arith) in
      let b = get_or atoms k t.atom in
      let at : slice_get atoms k ≡ Some b = slice_get-get_or atoms k t.atom inside in
      let is = are.each k b at in
      let one : is.entry ≡ t.entry = (let x = is.listed in let y = t.listed in cc) in
      let spells : read_as (text_at text t.entry) ≡ Some b = ap (λ e. read_as (text_at text e)) (sym one) ∙ is.spells in
      let same : t.atom ≡ b = (let y = t.spells in cc) in
      (b, at, ap (λ a. admitting a l) (sym same) ∙ t.admits)

  pub bits_of_texts : BitsSay read_as admitting text es n (answers_of admitting atoms)
  bits_of_texts l k =
      let d = bits_say admitting l atoms (answers_of admitting atoms l) refl k in
      (λ h. by_text l k (d.0 h), λ t. d.1 (by_atom l k t))

-- So they do after cutting.
module _ {A L : Type 0} (read_as : List ℕ → Option A) (ordered : A → Bool) (admitting : A → L → Bool) (text : List ℕ) (es : List Entry) (n : ℕ) (classes : List A → ℕ) where
  abbrev Said : Result (Unit {0}) Refusal → List A → Type 0
  Said r atoms = IfOk r (λ _. BitsSay read_as admitting text es n (answers_of admitting atoms))

  said : (o : Result (List A) Refusal) (r : Result (Unit {0}) Refusal) (atoms old : List A) → o ≡ atoms_of read_as ordered text es n → ◌≡◌ {A = Out A} (r, atoms) (cut classes o old) → Said r atoms
  said (Err e) r atoms old is h = let no : r ≡ Err e = ap (λ (t : Out A). t.0) h in subst (λ r. Said r atoms) (sym no) tt
  said (Ok read) r atoms old is h =
      cond_both (leb (classes read) 255) (Ok read) (Err (refusing ClassCount 255)) (λ (t : Result (List A) Refusal). ◌≡◌ {A = Out A} (r, atoms) (put t old) → Said r atoms)
      (λ few e.
      let yes : r ≡ Ok tt = ap (λ (t : Out A). t.0) e in
      let same : atoms ≡ read = ap (λ (t : Out A). t.1) e in
      let bits = bits_of_texts read_as ordered admitting text es n read (atoms_mean read_as ordered text es n (Ok read) is) in
      subst (λ r. Said r atoms) (sym yes) (subst (λ xs. BitsSay read_as admitting text es n (answers_of admitting xs)) (sym same) bits))
      (λ many e. let no : r ≡ Err (refusing ClassCount 255) = ap (λ (t : Out A). t.0) e in subst (λ r. Said r atoms) (sym no) tt)
      h

  pub bits_cut : (r : Result (Unit {0}) Refusal) (atoms old : List A) → ◌≡◌ {A = Out A} (r, atoms) (cut classes (atoms_of read_as ordered text es n) old) → IfOk r (λ _. BitsSay read_as admitting text es n (answers_of admitting atoms))
  bits_cut r atoms old h = said (atoms_of read_as ordered text es n) r atoms old refl h
