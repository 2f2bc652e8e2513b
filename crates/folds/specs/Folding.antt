-- The fold layer: an alphabet of bytes that asks another one about small letters in place of capital ones. What it tells
-- comes from what is below: the class of each byte there, and the answer set of each class.
--   folded b             the byte that is asked about in place of b: `a` to `z` for `A` to `Z`, and b itself otherwise
--   asked below b        the class below of the byte that is asked about in place of b (below: the class there of a byte)
--   found_next below f b    the classes after the byte b was met, where f were those before
--   fold_samples below   the samples of the classes by number: the first byte that is asked about in each class below
--   fold_keys below      the class below that each class numbers; one below that no byte is asked about in has no number
--   fold_count, fold_class, fold_answers, fold_sample   how many classes a fold has, the class of a byte, the answer set and
--                        the sample of a class
--   SharesBelow below class   two bytes have one class exactly where those that are asked about have one class below
--   SamplesComeFirst class sample   a byte before the sample of a class has a class before this one. So a class is
--                        numbered as it is first met, by its sample
-- Assumes nothing.
use Rattle.std.specs.Prelude.{◌≡◌, ℕ, ◌+◌, ◌<◌, ◌↔◌, if◌then◌else◌, List, length, Option, Some}
use Rattle.std.specs.Int.{is_in_range}
use Rattle.std.specs.List.{slice_get}
use Rattle.std.specs.Option.{option_and_then}
use Rattle.classes.specs.Bytes.{all_bytes}
use Rattle.classes.specs.Found.{Found, met}
use Rattle.classes.specs.Meeting.{class_in, firsts, keys_of}

abbrev pub folded : ℕ → ℕ
folded b = if is_in_range 65 90 b then b + 32 else b

abbrev pub asked : (ℕ → ℕ) → ℕ → ℕ
asked below b = below (folded b)

abbrev pub found_next : (ℕ → ℕ) → Found ℕ → ℕ → Found ℕ
found_next below f b = (met f b (asked below b)).1

abbrev pub fold_samples : (ℕ → ℕ) → List ℕ
fold_samples below = firsts (asked below) all_bytes

abbrev pub fold_keys : (ℕ → ℕ) → List ℕ
fold_keys below = keys_of (asked below) all_bytes

abbrev pub fold_count : (ℕ → ℕ) → ℕ
fold_count below = length (fold_samples below)

abbrev pub fold_class : (ℕ → ℕ) → ℕ → ℕ
fold_class below b = class_in (asked below) all_bytes b

abbrev pub fold_answers : (ℕ → ℕ) → (ℕ → Option ℕ) → ℕ → Option ℕ
fold_answers below answers k = option_and_then answers (slice_get (fold_keys below) k)

abbrev pub fold_sample : (ℕ → ℕ) → ℕ → Option ℕ
fold_sample below k = slice_get (fold_samples below) k

abbrev pub SharesBelow : (ℕ → ℕ) → (ℕ → ℕ) → Type 0
SharesBelow below class = (b c : ℕ) → b < 256 → c < 256 → (class b ≡ class c) ↔ (below (folded b) ≡ below (folded c))

pub record SamplesComeFirst (class : ℕ → ℕ) (sample : ℕ → Option ℕ) : Type 0 where
  pub before : (k s b : ℕ) → sample k ≡ Some s → b < s → class b < k
