use Rattle.std.proofs.Common.{rules, sym, arith}
use Rattle.std.proofs.lemmas.Result.{err_from_is_err_and}
use Rattle.cutting.specs.Tests.{in_use}
use Rattle.classes.specs.Found.{found}
use Rattle.octets.proofs.Tabling.{met_none, few_none, few_more, few_met, table_none, met_more, table_more, refused, samples_met, sets_met, table_filled}
use Rattle.octets.proofs.making.alphabet.Goals as goal

pub loop-byte-init : goal.loop-byte-init
loop-byte-init c = record {
  met = met_none (in_use c.args.tests) (found c.none-found.result) c.none-found.ensures.samples c.none-found.ensures.keys;
  few = few_none (in_use c.args.tests);
  table = sym (table_none (in_use c.args.tests));
}

pub returns-in_err-class : goal.returns-in_err-class
returns-in_err-class c =
    let p = err_from_is_err_and c.from_residual.result c.from_residual.ensures.1 in
    let h = refused (in_use c.args.tests) c.loop-byte.byte (found c.loop-byte.found) (found c.meet.new.found) (omega arith) c.loop-byte.invariant.met c.in_err-class.field-0.0 c.in_err-class.ensures in
    rw (p.1, p.2) (sym h)

pub loop-byte-preserved : goal.loop-byte-preserved
loop-byte-preserved c =
    let atoms = in_use c.args.tests in
    let f = found c.loop-byte.found in
    let after = found c.meet.new.found in
    record {
      met = met_more atoms c.loop-byte.byte f after (omega arith) c.loop-byte.invariant.met c.in_ok-class.field-0 c.in_ok-class.ensures;
      few = few_more atoms c.loop-byte.byte f after (omega arith) c.loop-byte.invariant.met c.in_ok-class.field-0 c.in_ok-class.ensures c.loop-byte.invariant.few;
      table = table_more atoms c.loop-byte.byte f after (omega arith) c.loop-byte.invariant.met c.in_ok-class.field-0 c.loop-byte.class-items (search rules) c.in_ok-class.ensures c.loop-byte.invariant.table;
    }

pub invariant_of-result : goal.invariant_of-result
invariant_of-result c =
    let atoms = in_use c.args.tests in
    let f = found c.loop-byte.found in
    record {
      samples = samples_met atoms c.loop-byte.byte f (omega arith) c.loop-byte.invariant.met;
      sets = sets_met atoms c.loop-byte.byte f (omega arith) c.loop-byte.invariant.met;
      table = table_filled atoms c.loop-byte.byte c.loop-byte.class-items (omega arith) c.loop-byte-test.array_long c.loop-byte.invariant.table;
      most = few_met atoms c.loop-byte.byte (omega arith) c.loop-byte.invariant.few;
    }
