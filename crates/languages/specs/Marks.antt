-- Marks: what each says by what a row reaches, and how they are worked out by passes over the table.
--   number m         the number of a mark: bit 0 the row accepts, bit 1 it reaches a row that accepts, bit 2 one that
--                    doesn't
--   NamesMark n r    r is the mark whose number is n, or the error that no mark has the number n
--   unknown_mark e   what that error says
--   Stands t r m     m is the mark that reachability gives row r
--   first a          the mark of a row of which only is known whether it accepts
--   join m n         m, once its row is known to reach what a row with the mark n reaches
--   gathered t ms r k  the mark of row r in ms, joined with those of its targets by the classes below k
--   passed_below t k ms  ms after the rows below k gathered, the last of them first
--   passes t n ms    ms after n passes over all rows
--   begun t          the first marks, one for each row
--   worked t         the marks worked out: as many passes as rows, from the first marks
-- Assumes nothing.
use Rattle.std.specs.Prelude.{◌≡◌, ℕ, zero, suc, Bool, true, false, List, ◌++◌, codes, decimal, map, Result, MatchResult, slice_index_or, slice_set}
use Rattle.std.specs.List.{range_with_len}
use Rattle.languages.specs.declared.marks.Mark.{Mark}
use Rattle.languages.specs.declared.marks.UnknownMark.{UnknownMark}
use Rattle.languages.specs.declared.marks.Mark.TheVariants.{Settled, Holds, Open, Lost}
use Rattle.languages.specs.Tables.{Table, Reaches}

abbrev pub number : Mark → ℕ
number Settled = 3
number Holds = 7
number Open = 6
number Lost = 4

abbrev pub NamesMark : ℕ → Result Mark UnknownMark → Type 0
NamesMark n r = MatchResult r (λ m. number m ≡ n) (λ e. (e.0 ≡ n) × ((m : Mark) → ¬ (number m ≡ n)))

abbrev pub unknown_mark : UnknownMark → List ℕ
unknown_mark e = codes "no mark has the number " ++ decimal e.0

abbrev pub Stands : Table → ℕ → Mark → Type 0
Stands t r Settled = (s : ℕ) → Reaches t r s → t.accepts s ≡ true
Stands t r Holds = (t.accepts r ≡ true) × ((s : ℕ) × Reaches t r s × (t.accepts s ≡ false))
Stands t r Open = (t.accepts r ≡ false) × ((s : ℕ) × Reaches t r s × (t.accepts s ≡ true))
Stands t r Lost = (s : ℕ) → Reaches t r s → t.accepts s ≡ false

abbrev pub first : Bool → Mark
first true = Settled
first false = Lost

abbrev pub join : Mark → Mark → Mark
join Settled Settled = Settled
join Settled Holds = Holds
join Settled Open = Holds
join Settled Lost = Holds
join Holds n = Holds
join Open n = Open
join Lost Settled = Open
join Lost Holds = Open
join Lost Open = Open
join Lost Lost = Lost

unfoldable pub gathered : Table → List Mark → ℕ → ℕ → Mark
gathered t ms r zero = slice_index_or ms r Lost
gathered t ms r (suc k) = join (gathered t ms r k) (slice_index_or ms (t.next r k) Lost)

unfoldable pub passed_below : Table → ℕ → List Mark → List Mark
passed_below t zero ms = ms
passed_below t (suc r) ms = passed_below t r (slice_set ms r (gathered t ms r t.classes))

unfoldable pub passes : Table → ℕ → List Mark → List Mark
passes t zero ms = ms
passes t (suc n) ms = passes t n (passed_below t t.rows ms)

unfoldable pub begun : Table → List Mark
begun t = map (λ r. first (t.accepts r)) (range_with_len 0 t.rows)

unfoldable pub worked : Table → List Mark
worked t = passes t t.rows (begun t)
