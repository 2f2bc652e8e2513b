-- The worked readings, computed.
-- Assumes nothing.
use Rattle.std.proofs.Common.{refl}
use Rattle.grammar.specs.Lexing.{lex_from}
use Rattle.grammar.specs.Atoms.{atoms_from, horizon_from, within}
use Rattle.grammar.specs.Parsing.{read, more}
use Rattle.nodes.specs.Entering.{held, interned, members, merged}
use Rattle.surveys.specs.Entries.{entries_from}
use Rattle.reader.specs.Worked.{WorkedTexts}

pub all_worked : WorkedTexts
unfolding lex_from atoms_from horizon_from within read more held interned members merged entries_from
all_worked = record {
  no_text = refl;
  open_bracket = refl;
  nothing_behind = refl;
  nothing_inside = refl;
  just_fits = refl;
  one_too_few = refl;
}
