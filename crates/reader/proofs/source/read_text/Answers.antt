use Rattle.std.proofs.Common.{length, rules, ap, ◌∙◌}
use Rattle.std.proofs.lemmas.Result.{err_from_is_err_and}
use Rattle.nodes.specs.Entering.{entered}
use Rattle.passes.specs.Passing.{passed_into}
use Rattle.reader.specs.Reading.{filled}
use Rattle.reader.proofs.Outcomes.{outcome_asked, outcome_refused, outcome_full, outcome_done}
use Rattle.reader.proofs.source.read_text.Goals as goal

pub returns-in_err-ask : goal.returns-in_err-ask
returns-in_err-ask c =
    let p = err_from_is_err_and c.from_residual.result c.from_residual.ensures.1 in
    rw (p.1, p.2) (outcome_asked c.args.text.now c.args.pool.now c.args.atoms.now _ c.in_err-ask.ensures)

pub returns-in_err-check : goal.returns-in_err-check
returns-in_err-check c =
    let p = err_from_is_err_and c.from_residual-in_err-check.result c.from_residual-in_err-check.ensures.1 in
    rw (p.1, p.2) (outcome_refused c.args.text.now c.args.pool.now c.args.atoms.now c.in_ok-ask.ensures c.survey-reader.result c.survey-reader.ensures _ c.in_err-check.ensures)

pub returns-in_err-root : goal.returns-in_err-root
returns-in_err-root c =
    let p = err_from_is_err_and c.from_residual-in_err-root.result c.from_residual-in_err-root.ensures.1 in
    rw (p.1, p.2) (outcome_full c.args.text.now c.args.pool.now c.args.atoms.now c.in_ok-ask.ensures c.survey-reader.result c.survey-reader.ensures c.in_ok-check.ensures
    c.enter_rule.new.pool.items.now _ c.enter_rule.new.pool.count (search rules) c.write_atoms.new.places (c.write_atoms.ensures ∙ ap (λ new. filled new c.args.atoms.now) c.as_slice-found.ensures.value)
    _ (c.in_err-root.ensures.whole ∙ ap (passed_into entered c.survey-reader.result) c.begin-pool.ensures.begun))

pub returns : goal.returns
returns c =
    outcome_done c.args.text.now c.args.pool.now c.args.atoms.now c.in_ok-ask.ensures c.survey-reader.result c.survey-reader.ensures c.in_ok-check.ensures
    c.enter_rule.new.pool.items.now _ c.enter_rule.new.pool.count (search rules) c.write_atoms.new.places (c.write_atoms.ensures ∙ ap (λ new. filled new c.args.atoms.now) c.as_slice-found.ensures.value)
    c.in_ok-root.root (length c.as_slice-found.result.now) (ap length c.as_slice-found.ensures.value) (c.in_ok-root.ensures.whole ∙ ap (passed_into entered c.survey-reader.result) c.begin-pool.ensures.begun)
