-- Without atoms all events are of one class.
use Rattle.std.proofs.Common.{List, length, sym, ap, ◌∙◌, arith}
use Rattle.bench.specs.declared.event.Event.{Event}
use Rattle.sweeps.specs.Classes.{samples, sets}
use Rattle.events.proofs.NoAtoms.{one_sample, one_set}
use Rattle.events.proofs.alphabet.EventAlphabet.new.Goals as goal

pub invariant_of-result : goal.invariant_of-result
invariant_of-result c =
    let one = ap samples c.none.ensures ∙ one_sample in
    let set = ap sets c.none.ensures ∙ one_set in
    record {
      samples = c.one_class.ensures.samples ∙ sym one;
      sets = c.one_class.ensures.keys ∙ sym set;
      most = let many = ap (λ (es : List Event). length es) one in omega (arith, many);
    }
