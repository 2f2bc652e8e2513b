use Rattle.std.proofs.Common.{sym, ap, ◌∙◌}
use Rattle.std.specs.Option.{is_some}
use Rattle.surveys.proofs.Known.{met_full, met_new}
use Rattle.surveys.proofs.Padding.{padded_next}
use Rattle.surveys.proofs.atoms.Atoms.meet.Goals as goal

pub returns-then-used-eq-MOST_ATOMS-clause-met : goal.returns-then-used-eq-MOST_ATOMS-clause-met
returns-then-used-eq-MOST_ATOMS-clause-met c =
    let is = sym (c.if-is_some.ensures) in
    met_full c.args.text.now c.args.place c.args.inside.now c.args.self.now.entries c.args.self.now.count c.used-used.result c.used-used.ensures.value c.args.self.now.places (ap is_some (sym c.find.ensures.value) ∙ is) c.if-used-eq-MOST_ATOMS.true

pub returns-clause-met : goal.returns-clause-met
returns-clause-met c =
    let is = sym (c.if-is_some.ensures) in
    met_new c.args.text.now c.args.place c.args.inside.now c.args.self.now.entries c.args.self.now.count c.used-used.result c.used-used.ensures.value c.args.self.now.places (ap is_some (sym c.find.ensures.value) ∙ is) c.if-used-eq-MOST_ATOMS.false

pub returns-clause-padded : goal.returns-clause-padded
returns-clause-padded c = padded_next c.args.self.now.count c.used-used.result c.args.self.now.entries _ c.used-used.ensures.value c.if-used-eq-MOST_ATOMS.false
