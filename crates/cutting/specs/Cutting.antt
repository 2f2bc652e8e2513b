-- Cutting an alphabet.
--   limited classes atoms  the atoms, if the letters have at most 255 classes with them, or the refusal 13, at the place 255
--   Out A                  whether all is well, and the atoms that the alphabet has afterwards
--   put r old              the atoms of r, or the refusal and the atoms from before
--   cut classes read old   what cutting gives, where read is what reading the atoms gave, old are the atoms from before, and
--                          classes tells how many classes the letters have with some atoms: a refusal leaves the atoms
--                          from before, and 13 asks for at most 255 classes, at the place 255
-- Assumes nothing.
use Rattle.std.specs.Prelude.{ℕ, cond, List, Result, Ok, Err, nat_le}
use Rattle.refusals.specs.declared.Refusal.{Refusal}
use Rattle.refusals.specs.declared.Question.TheVariants.{ClassCount}
use Rattle.refusals.specs.Questions.{refusing}

abbrev pub limited : {A : Type 0} → (List A → ℕ) → List A → Result (List A) Refusal
limited classes atoms = cond (nat_le (classes atoms) 255) (Ok atoms) (Err (refusing ClassCount 255))

abbrev pub Out : Type 0 → Type 0
Out A = Result (Unit {0}) Refusal × List A

abbrev pub put : {A : Type 0} → Result (List A) Refusal → List A → Out A
put (Err r) old = (Err r, old)
put (Ok atoms) old = (Ok tt, atoms)

abbrev pub cut : {A : Type 0} → (List A → ℕ) → Result (List A) Refusal → List A → Out A
cut classes (Err r) old = (Err r, old)
cut classes (Ok atoms) old = put (limited classes atoms) old
