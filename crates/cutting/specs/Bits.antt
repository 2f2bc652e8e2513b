-- What the bits of answer sets say of the texts of atoms.
--   TextAdmits read_as admitting text es n l k   there is an atom with the number k, below n, and its text admits the letter l
--   BitsSay read_as admitting text es n answers  bit k of the answer set of a letter is set exactly when that is so
-- Assumes nothing.
use Rattle.std.specs.Prelude.{◌≡◌, ℕ, ◌<◌, Bool, true, List, Option, Some, Decides}
use Rattle.std.specs.List.{slice_get}
use Rattle.languages.specs.Rules.{has}
use Rattle.surveys.specs.declared.entry.Entry.{Entry}
use Rattle.surveys.specs.Entries.{text_at}

pub record TextAdmits {A L : Type 0} (read_as : List ℕ → Option A) (admitting : A → L → Bool) (text : List ℕ) (es : List Entry) (n : ℕ) (l : L) (k : ℕ) : Type 0 where
  pub below : k < n
  pub entry : Entry
  pub listed : slice_get es k ≡ Some entry
  pub atom : A
  pub spells : read_as (text_at text entry) ≡ Some atom
  pub admits : admitting atom l ≡ true

abbrev pub BitsSay : {A L : Type 0} → (List ℕ → Option A) → (A → L → Bool) → List ℕ → List Entry → ℕ → (L → ℕ) → Type 0
BitsSay {L = L} read_as admitting text es n answers = (l : L) (k : ℕ) → Decides (has k (answers l)) (TextAdmits read_as admitting text es n l k)
