-- What a refusal says to a technician.
--   field_sentences p  what is wrong with the header's field at byte p of a file, and what was expected
--   sentences q p      what is wrong where the question q is answered with no at the place p, and what was expected
--   line r             the whole line: the number and the place, the layer, and both sentences
--   prints b           the byte b prints: it is a blank, a tilde, or between them
--   Sentence s         s is something to read on one line: it is not empty, and all of it prints
-- Assumes nothing.
use Rattle.std.specs.Prelude.{◌≡◌, ℕ, ◌<◌, Bool, true, cond, ◌&&◌, ◌==◌, List, ◌++◌, length, codes, nat_le}
use Rattle.std.specs.List.{list_all}
use Rattle.refusals.specs.Questions.{layered, worded, shown}
use Rattle.refusals.specs.declared.Question.{Question}
use Rattle.refusals.specs.declared.Question.TheVariants.{TextLength, ReadingRoom, TokenStart, BracketClosed, GrammarAllows, LevelsOpen, AtomCount, NodeRoom, EventRange, AtomEntry, AtomForm, AtomOrder, ClassCount, StationOrder, PoolSound, BuildRoom, RowRoom, FileLength, FileVersion, FileFields, TableLength, ScratchRoom, TargetInTable, MarkWorkedOut, RunAlphabet, ClassInFile, RunLength}
use Rattle.refusals.specs.declared.Refusal.{Refusal}

abbrev pub field_sentences : ℕ → List ℕ × List ℕ
field_sentences p =
    cond (p == 5) (codes "the kind is unknown", codes "kind 1, bytes, or kind 2, bench events")
    (cond (p == 6) (codes "the row count is out of range", codes "1 to 1024 rows")
    (cond (p == 8) (codes "there are no classes", codes "1 to 255 classes")
    (codes "the text length is out of range", codes "1 to 4096 bytes")))

abbrev pub sentences : Question → ℕ → List ℕ × List ℕ
sentences TextLength _ = (codes "the rule text is empty or too long", codes "1 to 4096 bytes")
sentences ReadingRoom _ =
    (codes "the pool or the atom list has the wrong size", codes "a pool of 4 to 4096 nodes and room for 32 atoms")
sentences TokenStart _ = (codes "no token begins with this byte", codes "a byte that can begin a token")
sentences BracketClosed _ = (codes "this bracket is not closed", codes "its closing bracket")
sentences GrammarAllows _ =
    (codes "the rule cannot go on like this, or end here", codes "a token, or the end, that the grammar allows here")
sentences LevelsOpen _ = (codes "too many levels are open here", codes "at most 32 levels")
sentences AtomCount _ = (codes "the rule has too many atoms", codes "at most 32 atoms")
sentences NodeRoom _ =
    (codes "the rule needs more nodes than there is room for", codes "a node of the pool, or room for one more")
sentences EventRange _ =
    (codes "the event's code or station is out of range", codes "a code from 0 to 15 and a station from 0 to 7")
sentences AtomEntry _ = (
  codes "the atom is not in the list, or its part is not in the text",
  codes "a number below 32, with an entry whose part lies in the text",
)
sentences AtomForm _ = (codes "the atom does not have its form", codes "the form that the alphabet gives its atoms")
sentences AtomOrder _ = (codes "the atom's first is above its last", codes "a first that is at most the last")
sentences ClassCount _ = (codes "the atoms make too many classes", codes "at most 255 classes")
sentences StationOrder _ =
    (codes "a station is out of range, or stands in the order twice", codes "entries below 8, none of them twice")
sentences PoolSound _ = (
  codes "the pool, its count, its root or a node is not sound",
  codes "4 to 4096 nodes, a count of 4 to all, a root below it, sound nodes",
)
sentences BuildRoom _ = (
  codes "the text, the row limit or a buffer has the wrong size",
  codes "1 to 4096 bytes, 1 to 1024 rows, and buffers that are long enough",
)
sentences RowRoom _ =
    (codes "the rule needs more rows than the limit allows", codes "a row of the table, or room for one more")
sentences FileLength _ = (
  codes "the file is too short, or does not have the length that it says",
  codes "11 bytes or more, and their number in bytes 0 to 3",
)
sentences FileVersion _ = (codes "the file's version is unknown", codes "version 1")
sentences FileFields p = field_sentences p
sentences TableLength _ =
    (codes "the table is not as long as the header says", codes "11 + text + rows x (1 + 2 x classes) bytes in all")
sentences ScratchRoom _ = (codes "the scratch is too short", codes "a byte for each row")
sentences TargetInTable _ = (codes "this target is not a row", codes "a number below the row count")
sentences MarkWorkedOut _ =
    (codes "this mark is not the one worked out", codes "the mark that follows from which rows accept")
sentences RunAlphabet _ = (codes "the alphabet is not the file's", codes "the kind and the class count of the file")
sentences ClassInFile _ = (codes "the file does not have this class", codes "a class below the file's class count")
sentences RunLength _ = (codes "the run is too long", codes "at most 1000000 letters")

abbrev pub line : Refusal → List ℕ
line r =
    codes "refused " ++ (shown r
    ++ (codes " (" ++ (worded (layered r.question)
    ++ (codes "): " ++ ((sentences r.question r.place).0
    ++ (codes "; expected " ++ (sentences r.question r.place).1))))))

abbrev pub prints : ℕ → Bool
prints b = nat_le 32 b && nat_le b 126

abbrev pub Sentence : List ℕ → Type 0
Sentence s = (0 < length s) × (list_all prints s ≡ true)
