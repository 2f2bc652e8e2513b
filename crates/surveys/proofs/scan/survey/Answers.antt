use Rattle.std.proofs.Common.{true, false, sym, ap, subst, ◌∙◌}
use Rattle.surveys.specs.declared.atoms.Atoms.{Atoms}
use Rattle.surveys.specs.Entries.{listed}
use Rattle.surveys.specs.Padding.{IsPadded}
use Rattle.surveys.proofs.Scanning.{found_moved, found_all}
use Rattle.surveys.proofs.scan.survey.Goals as goal

pub returns-then-not-take : goal.returns-then-not-take
returns-then-not-take c =
    let found = c.loop-lexeme.invariant in
    let last = found_moved c.args.text.now (listed c.loop-lexeme.atoms) c.loop-lexeme.lexeme-iterator found.1 found.0 c.in-Some.lexeme c.next.new.self false (listed c.take.new.atoms) c.in-Some.ensures.steps c.if-not-take.ensures.taken in
    let is = c.reader.ensures in
    let kept : IsPadded c.take.new.atoms.count c.take.new.atoms.entries = c.take.ensures.padded found.2 in
    record {
      text_is = is.text;
      atoms_are = ap listed is.atoms ∙ sym last.all;
      horizon-is = is.horizon ∙ sym last.horizon;
      padded = subst (λ (a : Atoms). IsPadded a.count a.entries) (sym is.atoms) kept;
    }

pub loop-lexeme-preserved : goal.loop-lexeme-preserved
loop-lexeme-preserved c =
    let found = c.loop-lexeme.invariant in
    let steps = c.in-Some.ensures.steps in
    let taken = found_moved c.args.text.now (listed c.loop-lexeme.atoms) c.loop-lexeme.lexeme-iterator found.1 found.0 c.in-Some.lexeme c.next.new.self true (listed c.take.new.atoms) steps c.if-not-take.ensures.taken in
    (rw steps.4 taken, steps.3 ∙ found.1, c.take.ensures.padded found.2)

pub returns : goal.returns
returns c =
    let found = c.loop-lexeme.invariant in
    let last = found_all c.args.text.now (listed c.loop-lexeme.atoms) c.loop-lexeme.lexeme-iterator found.1 found.0 c.in-None.ensures.steps.0 in
    let is = c.reader-2.ensures in
    record {
      text_is = is.text;
      atoms_are = ap listed is.atoms ∙ sym last.all;
      horizon-is = is.horizon ∙ sym last.horizon;
      padded = subst (λ (a : Atoms). IsPadded a.count a.entries) (sym is.atoms) found.2;
    }
