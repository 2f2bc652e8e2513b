-- What the alphabet of some atoms is, over all bytes.
--   set_of atoms b       the answer set of the byte b
--   samples atoms        the bytes that are the first with their answer sets, in order: the samples of the classes
--   count_of atoms       how many classes there are
--   sets atoms           the answer sets of the classes
--   class_of atoms b     the class of the byte b
--   table_of atoms       the class of every byte
-- Assumes nothing.
use Rattle.std.specs.Prelude.{ℕ, List, length, map}
use Rattle.octets.specs.declared.range.ByteRange.{ByteRange}
use Rattle.cutting.specs.Answers.{answers_of}
use Rattle.classes.specs.Bytes.{all_bytes}
use Rattle.classes.specs.Meeting.{firsts, keys_of, class_in}
use Rattle.octets.specs.Ranges.{admitting}

abbrev pub set_of : List ByteRange → ℕ → ℕ
set_of atoms b = answers_of admitting atoms b

abbrev pub samples : List ByteRange → List ℕ
samples atoms = firsts (set_of atoms) all_bytes

abbrev pub count_of : List ByteRange → ℕ
count_of atoms = length (samples atoms)

abbrev pub sets : List ByteRange → List ℕ
sets atoms = keys_of (set_of atoms) all_bytes

abbrev pub class_of : List ByteRange → ℕ → ℕ
class_of atoms b = class_in (set_of atoms) all_bytes b

abbrev pub table_of : List ByteRange → List ℕ
table_of atoms = map (class_of atoms) all_bytes
