-- Where things stand in a step file. Below, b is the list of its bytes; a byte that is not there reads as 0.
--   byte_at b p, word_at b p      the byte at a place, the two-byte number there
--   length_in, version_in, kind_in, rows_in, classes_in, text_length_in   the header's fields
--   table_at b                    the place of row 0
--   row_at b r, target_at b r c   the place of row r, which begins with its mark, and of its target by class c
--   text_in b                     the stored text
--   table_in b                    the table: a row accepts where bit 0 of its mark is 1
--   Laid b k r c p                k, r, c and p are the kind, the rows, the classes and the place of row 0 in b, all of b's
--                                 bytes have a place in that layout, and its numbers are small
-- Assumes nothing.
use Rattle.std.specs.Prelude.{◌≡◌, ℕ, ◌+◌, ◌*◌, ◌≤◌, List, length, take, drop, ◌==◌, bit_and, slice_index}
use Rattle.alphabets.specs.declared.kind.Kind.{Kind}
use Rattle.alphabets.specs.Kinds.{kind_number}
use Rattle.languages.specs.Tables.{Table}

abbrev pub byte_at : List ℕ → ℕ → ℕ
byte_at b p = slice_index b p

abbrev pub word_at : List ℕ → ℕ → ℕ
word_at b p = byte_at b p * 256 + byte_at b (p + 1)

abbrev pub length_in : List ℕ → ℕ
length_in b = byte_at b 0 * 16777216 + byte_at b 1 * 65536 + byte_at b 2 * 256 + byte_at b 3

abbrev pub version_in : List ℕ → ℕ
version_in b = byte_at b 4

abbrev pub kind_in : List ℕ → ℕ
kind_in b = byte_at b 5

abbrev pub rows_in : List ℕ → ℕ
rows_in b = word_at b 6

abbrev pub classes_in : List ℕ → ℕ
classes_in b = byte_at b 8

abbrev pub text_length_in : List ℕ → ℕ
text_length_in b = word_at b 9

abbrev pub table_at : List ℕ → ℕ
table_at b = 11 + text_length_in b

abbrev pub row_at : List ℕ → ℕ → ℕ
row_at b r = table_at b + r * (1 + 2 * classes_in b)

abbrev pub target_at : List ℕ → ℕ → ℕ → ℕ
target_at b r c = row_at b r + 1 + 2 * c

abbrev pub text_in : List ℕ → List ℕ
text_in b = take (text_length_in b) (drop 11 b)

abbrev pub table_in : List ℕ → Table
table_in b = record {
  rows = rows_in b;
  classes = classes_in b;
  next = λ r c. word_at b (target_at b r c);
  accepts = λ r. (bit_and (byte_at b (row_at b r)) 1 == 1);
}

pub record Laid (b : List ℕ) (k : Kind) (r c p : ℕ) : Type 0 where
  pub kind : kind_number k ≡ kind_in b
  pub rows : r ≡ rows_in b
  pub classes : c ≡ classes_in b
  pub table : p ≡ table_at b
  pub whole : length b ≡ p + r * (1 + 2 * c)
  pub few_rows : r ≤ 1024
  pub few_classes : c ≤ 255
  pub near : p ≤ 4107
