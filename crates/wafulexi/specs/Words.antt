-- The words of the command line.
--   Word             a word as the system hands it over
--   spelled w        its bytes
--   is w s           w is the word s
--   is_option s      the word with the bytes s begins with a dash
--   ended ws x       x, if no word is left
--   unknown w        what is wrong with w, which should be a command
--   named w          the source that w names: standard input by a lone dash, a file unless w is an option
--   then r f         go on from r with f, if r is no misuse
--   sourced ws       the source that a command's own words ws name; with none, standard input
-- Assumes nothing.
use Rattle.std.specs.Prelude.{ℕ, Bool, cond, List, [], ◌∷◌, Ok, Err, string_bytes, codes, Result, String, ◌==◌, slice_index}
use Prim.Native.String.{String as Text}
use Rattle.std.specs.Str.{bytes_eq}
use Rattle.std.specs.declared.alloc.Global.{Global}
use Rattle.wafulexi.specs.declared.words.Misuse.{Misuse}
use Rattle.wafulexi.specs.declared.words.Misuse.TheVariants.{UnknownCommand, UnknownOption, OneTooMany}
use Rattle.wafulexi.specs.declared.words.Source.{Source}
use Rattle.wafulexi.specs.declared.words.Source.TheVariants.{Input, File}

abbrev pub Word : Type 0
Word = String Global

abbrev pub spelled : Word → List ℕ
spelled w = string_bytes w

abbrev pub is : Word → Text → Bool
is w s = bytes_eq (spelled w) (codes s)

abbrev pub is_option : List ℕ → Bool
is_option s = slice_index s 0 == 45

abbrev pub ended : {X : Type 0} → List Word → X → Result X Misuse
ended [] x = Ok x
ended (w ∷ ws) x = Err (OneTooMany w)

abbrev pub unknown : Word → Misuse
unknown w = cond (is_option (spelled w)) (UnknownOption w) (UnknownCommand w)

abbrev pub named : Word → Result Source Misuse
named w = cond (is w "-") (Ok Input) (cond (is_option (spelled w)) (Err (UnknownOption w)) (Ok (File w)))

abbrev pub then : {X Y : Type 0} → Result X Misuse → (X → Result Y Misuse) → Result Y Misuse
then (Ok x) f = f x
then (Err m) f = Err m

abbrev pub sourced : List Word → Result Source Misuse
sourced [] = Ok Input
sourced (w ∷ ws) = then (named w) (ended ws)
