use Rattle.std.proofs.Common.{sym, subst}
use Rattle.reader.specs.Means.{ReadingMeans}
use Rattle.reader.proofs.Means.{text_means}
use Rattle.reader.proofs.source.read.Goals as goal

pub returns : goal.returns
returns c =
    let text = c.args.text.now in
    let pool = c.args.pool.now in
    let atoms = c.args.atoms.now in
    record {
      whole = c.read_text.ensures;
      means = subst (ReadingMeans text pool atoms) (sym c.read_text.ensures) (text_means text pool atoms);
    }
