-- The law of first-met classes.
--   ClassesFirstMet key ls   each class that the letters ls make has a sample: the first of ls with the key of the class,
--                            before which ls make just the classes below it
--   AsFirstMet key ls n class key_of sample   what is told of n classes, of the class of each letter, and of the key and the
--                            sample of each class is what the letters ls make as they are first met; and letters with one
--                            key have one class
-- Assumes nothing.
use Rattle.std.specs.Prelude.{◌≡◌, ℕ, ◌<◌, List, length, Option, Some}
use Rattle.std.specs.List.{slice_get}
use Rattle.classes.specs.Meeting.{firsts, keys_of, class_in, FirstMet}

abbrev pub ClassesFirstMet : {L : Type 0} → (L → ℕ) → List L → Type 0
ClassesFirstMet {L} key ls = (k : ℕ) → k < length (firsts key ls) → (s : L) × (slice_get (firsts key ls) k ≡ Some s) × FirstMet key ls k s

pub record AsFirstMet {L : Type 0} (key : L → ℕ) (ls : List L) (n : ℕ) (class : L → ℕ) (key_of : ℕ → Option ℕ) (sample : ℕ → Option L) : Type 0 where
  pub count : n ≡ length (firsts key ls)
  pub classes : (l : L) → class l ≡ class_in key ls l
  pub one_class : (l m : L) → key l ≡ key m → class l ≡ class m
  pub keys : (k : ℕ) → key_of k ≡ slice_get (keys_of key ls) k
  pub samples : (k : ℕ) → sample k ≡ slice_get (firsts key ls) k
  pub first_met : ClassesFirstMet key ls
