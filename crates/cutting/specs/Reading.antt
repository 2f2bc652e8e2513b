-- Reading the atoms of a rule.
--   inside text e        the part that the entry e speaks of lies in the text
--   entry_for text es k  the entry of the atom with the number k: the number is below 32, the entry is one of es, and its
--                        part lies in the text. lying is its step
--   atom_of read_as ordered text es k   the atom with the number k, or why there is none: 10 asks for its entry (at the
--                        number), 11 for its form and 12 for its order (both at the place of its text). spelled and formed
--                        are its steps
--   atoms_of read_as ordered text es n  the atoms with the numbers below n in turn, or why there are none. joined and
--                        then_atom are its steps
--   read_out r           the atoms in use, where reading gave some
--   IsAtom read_as ordered text es k a  a is the atom with the number k: its entry's part of the text spells it, and it is in
--                        order
--   AreAtoms, IsFirstNo  what reading gives, and what it refuses
--   MeansAtoms read_as ordered text es n r   what the answer r of reading n atoms means
-- Assumes nothing.
use Rattle.std.specs.Prelude.{◌≡◌, ℕ, zero, suc, ◌+◌, ◌<◌, ◌≤◌, Bool, true, cond, List, [], ◌∷◌, ◌++◌, length, Option, Some, None, Result, Ok, Err, MatchResult, nat_lt, nat_le}
use Rattle.std.specs.List.{slice_get}
use Rattle.refusals.specs.declared.Refusal.{Refusal}
use Rattle.refusals.specs.declared.Question.TheVariants.{AtomEntry, AtomForm, AtomOrder}
use Rattle.refusals.specs.Questions.{refusing}
use Rattle.surveys.specs.declared.entry.Entry.{Entry}
use Rattle.surveys.specs.Entries.{text_at}
use Rattle.cutting.specs.declared.tests.Tests.{Tests}
use Rattle.cutting.specs.Tests.{in_use}

abbrev pub inside : List ℕ → Entry → Bool
inside text e = nat_le (e.place + e.length) (length text)

abbrev pub lying : List ℕ → Option Entry → Option Entry
lying text None = None
lying text (Some e) = cond (inside text e) (Some e) None

abbrev pub entry_for : List ℕ → List Entry → ℕ → Option Entry
entry_for text es k = cond (nat_lt k 32) (lying text (slice_get es k)) None

abbrev pub formed : {A : Type 0} → (A → Bool) → ℕ → Option A → Result A Refusal
formed ordered p None = Err (refusing AtomForm p)
formed ordered p (Some a) = cond (ordered a) (Ok a) (Err (refusing AtomOrder p))

abbrev pub spelled : {A : Type 0} → (List ℕ → Option A) → (A → Bool) → List ℕ → ℕ → Option Entry → Result A Refusal
spelled read_as ordered text k None = Err (refusing AtomEntry k)
spelled read_as ordered text k (Some e) = formed ordered e.place (read_as (text_at text e))

abbrev pub atom_of : {A : Type 0} → (List ℕ → Option A) → (A → Bool) → List ℕ → List Entry → ℕ → Result A Refusal
atom_of read_as ordered text es k = spelled read_as ordered text k (entry_for text es k)

abbrev pub joined : {A : Type 0} → List A → Result A Refusal → Result (List A) Refusal
joined atoms (Err r) = Err r
joined atoms (Ok a) = Ok (atoms ++ (a ∷ []))

abbrev pub then_atom : {A : Type 0} → Result (List A) Refusal → Result A Refusal → Result (List A) Refusal
then_atom (Err r) next = Err r
then_atom (Ok atoms) next = joined atoms next

unfoldable pub atoms_of : {A : Type 0} → (List ℕ → Option A) → (A → Bool) → List ℕ → List Entry → ℕ → Result (List A) Refusal
atoms_of read_as ordered text es zero = Ok []
atoms_of read_as ordered text es (suc k) = then_atom (atoms_of read_as ordered text es k) (atom_of read_as ordered text es k)

abbrev pub read_out : {A : Type 0} → Result (Tests A) Refusal → Result (List A) Refusal
read_out (Ok t) = Ok (in_use t)
read_out (Err r) = Err r

pub record IsAtom {A : Type 0} (read_as : List ℕ → Option A) (ordered : A → Bool) (text : List ℕ) (es : List Entry) (k : ℕ) (a : A) : Type 0 where
  pub few : k < 32
  pub entry : Entry
  pub listed : slice_get es k ≡ Some entry
  pub lies : entry.place + entry.length ≤ length text
  pub spells : read_as (text_at text entry) ≡ Some a
  pub in_order : ordered a ≡ true

pub record AreAtoms {A : Type 0} (read_as : List ℕ → Option A) (ordered : A → Bool) (text : List ℕ) (es : List Entry) (n : ℕ) (atoms : List A) : Type 0 where
  pub few : n ≤ 32
  pub many : length atoms ≡ n
  pub each : (k : ℕ) (a : A) → slice_get atoms k ≡ Some a → IsAtom read_as ordered text es k a

-- All before number are atoms, and number is refused.
pub record IsFirstNo {A : Type 0} (read_as : List ℕ → Option A) (ordered : A → Bool) (text : List ℕ) (es : List Entry) (n : ℕ) (r : Refusal) : Type 0 where
  pub number : ℕ
  pub below : number < n
  pub atoms : List A
  pub before : AreAtoms read_as ordered text es number atoms
  pub refused : atom_of read_as ordered text es number ≡ Err r

abbrev pub MeansAtoms : {A : Type 0} → (List ℕ → Option A) → (A → Bool) → List ℕ → List Entry → ℕ → Result (List A) Refusal → Type 0
MeansAtoms read_as ordered text es n r = MatchResult r (AreAtoms read_as ordered text es n) (IsFirstNo read_as ordered text es n)
