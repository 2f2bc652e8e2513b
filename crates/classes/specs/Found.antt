-- Classes that are being found.
--   Found           the samples and the keys of the classes so far
--   samples_in c, keys_in c   those that c holds; found c has both
--   made key ls     the classes whose samples are ls
--   Out             a class, or none, and the classes afterwards
--   met f l k       the class of the letter l with the key k, and the classes afterwards; class_or_next and next are its steps
-- Assumes nothing.
use Rattle.std.specs.Prelude.{ℕ, cond, List, [], ◌∷◌, ◌++◌, length, take, Option, Some, None, map, nat_lt}
use Rattle.classes.specs.declared.found.Classes.{Classes}
use Rattle.classes.specs.Meeting.{number_in}

pub record Found (L : Type 0) : Type 0 where
  pub samples : List L
  pub keys : List ℕ

abbrev pub samples_in : {L : Type 0} → Classes L → List L
samples_in c = take c.count c.samples

abbrev pub keys_in : {L : Type 0} → Classes L → List ℕ
keys_in c = take c.count c.keys

abbrev pub found : {L : Type 0} → Classes L → Found L
found c = record { samples = samples_in c; keys = keys_in c }

abbrev pub made : {L : Type 0} → (L → ℕ) → List L → Found L
made key ls = record { samples = ls; keys = map key ls }

abbrev pub Out : Type 0 → Type 0
Out L = Option ℕ × Found L

abbrev pub next : {L : Type 0} → Found L → L → ℕ → Out L
next f l k = (Some (length f.keys), record { samples = f.samples ++ (l ∷ []); keys = f.keys ++ (k ∷ []) })

abbrev pub class_or_next : {L : Type 0} → Option ℕ → Found L → L → ℕ → Out L
class_or_next (Some i) f l k = (Some i, f)
class_or_next None f l k = cond (nat_lt (length f.keys) 255) (next f l k) (None, f)

abbrev pub met : {L : Type 0} → Found L → L → ℕ → Out L
met f l k = class_or_next (number_in f.keys k) f l k
