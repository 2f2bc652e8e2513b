use Rattle.std.proofs.Common.{sym, subst}
use Rattle.nodes.specs.Soundness.{Told}
use Rattle.nodes.proofs.Telling.{tells_first_unsound}
use Rattle.nodes.proofs.sound.first_unsound.Goals as goal

pub returns : goal.returns
returns c = record {
  whole = c.find_unsound.ensures;
  means = subst (Told c.args.nodes.now) (sym c.find_unsound.ensures) (tells_first_unsound c.args.nodes.now);
}
