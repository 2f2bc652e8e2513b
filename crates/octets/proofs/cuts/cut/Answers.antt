use Rattle.cutting.proofs.Bits.{bits_cut}
use Rattle.octets.specs.Ranges.{admitting, ordered, read_as}
use Rattle.octets.specs.Classing.{count_of}
use Rattle.octets.proofs.cuts.cut.Goals as goal

pub returns-clause-bits : goal.returns-clause-bits
returns-clause-bits c = bits_cut read_as ordered admitting _ _ _ count_of _ _ _ c.put_alphabet.ensures.whole
