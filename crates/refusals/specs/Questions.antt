-- The questions, each with its number and its layer: the one definition of both. And how they are printed.
--   listed q        the number and the layer of q
--   numbered q      the number that a technician sees
--   layered q       the part of the work that asks q
--   refusing q p    a no to q at the place p
--   first_no qs     the refusal of the first question of a list whose answer is no
--   worded l        the word for a layer
--   shown_number q  the number of q in decimal digits
--   shown r         the number, and the place: "32 at 6"
-- Assumes nothing.
use Rattle.std.specs.Prelude.{ℕ, Bool, cond, List, [], ◌∷◌, ◌++◌, Some, None, Option, codes, decimal}
use Rattle.refusals.specs.declared.Layer.{Layer}
use Rattle.refusals.specs.declared.Layer.TheVariants.{Text, Pool, Alphabet, Build, File, Run}
use Rattle.refusals.specs.declared.Question.{Question}
use Rattle.refusals.specs.declared.Refusal.{Refusal}
use Rattle.refusals.specs.declared.Question.TheVariants.{TextLength, ReadingRoom, TokenStart, BracketClosed, GrammarAllows, LevelsOpen, AtomCount, NodeRoom, EventRange, AtomEntry, AtomForm, AtomOrder, ClassCount, StationOrder, PoolSound, BuildRoom, RowRoom, FileLength, FileVersion, FileFields, TableLength, ScratchRoom, TargetInTable, MarkWorkedOut, RunAlphabet, ClassInFile, RunLength}

abbrev pub listed : Question → ℕ × Layer
listed TextLength = (1, Text)
listed ReadingRoom = (2, Text)
listed TokenStart = (3, Text)
listed BracketClosed = (4, Text)
listed GrammarAllows = (5, Text)
listed LevelsOpen = (6, Text)
listed AtomCount = (7, Text)
listed NodeRoom = (8, Pool)
listed EventRange = (9, Alphabet)
listed AtomEntry = (10, Alphabet)
listed AtomForm = (11, Alphabet)
listed AtomOrder = (12, Alphabet)
listed ClassCount = (13, Alphabet)
listed StationOrder = (14, Alphabet)
listed PoolSound = (20, Build)
listed BuildRoom = (21, Build)
listed RowRoom = (22, Build)
listed FileLength = (30, File)
listed FileVersion = (31, File)
listed FileFields = (32, File)
listed TableLength = (33, File)
listed ScratchRoom = (34, File)
listed TargetInTable = (35, File)
listed MarkWorkedOut = (36, File)
listed RunAlphabet = (40, Run)
listed ClassInFile = (41, Run)
listed RunLength = (42, Run)

abbrev pub numbered : Question → ℕ
numbered q = (listed q).0

abbrev pub layered : Question → Layer
layered q = (listed q).1

abbrev pub refusing : Question → ℕ → Refusal
refusing q p = record { question = q; place = p }

abbrev pub first_no : List (Bool × Refusal) → Option Refusal
first_no [] = None
first_no (q ∷ qs) = cond q.0 (first_no qs) (Some q.1)

abbrev pub worded : Layer → List ℕ
worded Text = codes "text"
worded Pool = codes "pool"
worded Alphabet = codes "alphabet"
worded Build = codes "build"
worded File = codes "file"
worded Run = codes "run"

abbrev pub shown_number : Question → List ℕ
shown_number q = decimal (numbered q)

abbrev pub shown : Refusal → List ℕ
shown r = shown_number r.question ++ (codes " at " ++ decimal r.place)
