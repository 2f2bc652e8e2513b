-- The kinds of alphabets.
--   kind_number k   the number of a kind, as a step file has it
--   NamesKind n r   r is the kind whose number is n, or the error that no kind has the number n
--   unknown_kind e  what that error says
-- Assumes nothing.
use Rattle.std.specs.Prelude.{◌≡◌, ℕ, ◌<◌, ◌⊎◌, List, ◌++◌, codes, decimal, Result, MatchResult}
use Rattle.alphabets.specs.declared.kind.Kind.{Kind}
use Rattle.alphabets.specs.declared.kind.Kind.TheVariants.{Bytes, Events}
use Rattle.alphabets.specs.declared.kind.UnknownKind.{UnknownKind}

abbrev pub kind_number : Kind → ℕ
kind_number Bytes = 1
kind_number Events = 2

abbrev pub NamesKind : ℕ → Result Kind UnknownKind → Type 0
NamesKind n r = MatchResult r (λ k. kind_number k ≡ n) (λ e. (e.0 ≡ n) × ((n < 1) ⊎ (2 < n)))

abbrev pub unknown_kind : UnknownKind → List ℕ
unknown_kind e = codes "no kind of alphabet has the number " ++ decimal e.0
