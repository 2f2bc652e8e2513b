-- Ranges of bytes, and how atoms write them.
--   ordered r           the first byte is at most the last
--   admitting r b       the range has the byte b: it is one of those from the first to the last
--   fitting o           the number, if it is one of a byte
--   byte_of ds          the byte that hexadecimal digits write
--   range_of f l        the range from f to l, if there are both
--   read_as t           the range that the text t writes: one byte in two digits, or the first and the last, in two digits
--                       each, with a hyphen between them
-- Assumes nothing.
use Rattle.std.specs.Prelude.{ℕ, Bool, cond, ◌&&◌, ◌==◌, nat_le, nat_lt, List, length, take, drop, Option, Some, None, slice_index}
use Rattle.octets.specs.declared.range.ByteRange.{ByteRange}
use Rattle.cutting.specs.Hexadecimal.{hexadecimal_of}

abbrev pub ordered : ByteRange → Bool
ordered r = nat_le r.first r.last

abbrev pub admitting : ByteRange → ℕ → Bool
admitting r b = nat_le r.first b && nat_le b r.last

abbrev pub fitting : Option ℕ → Option ℕ
fitting None = None
fitting (Some n) = cond (nat_lt n 256) (Some n) None

abbrev pub byte_of : List ℕ → Option ℕ
byte_of ds = fitting (hexadecimal_of ds)

abbrev pub range_of : Option ℕ → Option ℕ → Option ByteRange
range_of (Some f) (Some l) = Some (record { first = f; last = l })
range_of (Some f) None = None
range_of None l = None

abbrev pub read_as : List ℕ → Option ByteRange
read_as t = cond (length t == 2) (range_of (byte_of t) (byte_of t)) (cond (length t == 5 && slice_index t 2 == 45) (range_of (byte_of (take 2 t)) (byte_of (drop 3 t))) None)
