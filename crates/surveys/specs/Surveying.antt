-- What is known of a text before it is read.
--   Surveyed text s    s is the text with its first 32 atoms, and where the next one would stand
-- Assumes nothing.
use Rattle.std.specs.Prelude.{◌≡◌, ℕ, List, take}
use Rattle.grammar.specs.Atoms.{horizon_in}
use Rattle.grammar.specs.Lexing.{lexed}
use Rattle.surveys.specs.declared.reader.Reader.{Reader}
use Rattle.surveys.specs.Entries.{entries, listed}
use Rattle.surveys.specs.Padding.{IsPadded}

pub record Surveyed (text : List ℕ) (s : Reader) : Type 0 where
  pub text_is : s.text.now ≡ text
  pub atoms_are : listed s.atoms ≡ take 32 (entries (lexed text))
  pub horizon-is : s.horizon ≡ horizon_in text
  pub padded : IsPadded s.atoms.count s.atoms.entries
