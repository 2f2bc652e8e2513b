-- Without atoms all bytes are of one class.
use Rattle.std.proofs.Common.{length, sym, ap, ◌∙◌, arith, List, ℕ}
use Rattle.octets.specs.Classing.{samples, sets, table_of}
use Rattle.octets.proofs.NoAtoms.{one_sample, one_set, table_nought}
use Rattle.octets.proofs.alphabet.ByteAlphabet.new.Goals as goal

pub invariant_of-result : goal.invariant_of-result
invariant_of-result c =
    let samples = ap samples c.none.ensures ∙ one_sample in
    let sets = ap sets c.none.ensures ∙ one_set in
    record {
      samples = c.only_class.ensures.samples ∙ sym samples;
      sets = c.only_class.ensures.keys ∙ sym sets;
      table = table_nought ∙ sym (ap table_of c.none.ensures);
      most = let one = ap (λ (xs : List ℕ). length xs) samples in omega (arith, one);
    }
