use Rattle.cutting.proofs.Bits.{bits_cut}
use Rattle.bands.specs.Bands.{event_atom, in_order, admitted}
use Rattle.sweeps.specs.Classes.{count_of}
use Rattle.events.proofs.making.cut.Goals as goal

pub returns-clause-bits : goal.returns-clause-bits
returns-clause-bits c = bits_cut event_atom in_order admitted _ _ _ count_of _ _ _ c.put.ensures.whole
