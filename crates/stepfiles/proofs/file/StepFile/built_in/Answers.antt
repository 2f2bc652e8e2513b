use Rattle.std.proofs.Common.{refl}
use Rattle.languages.specs.Marks.{worked, begun, passes, passed_below, gathered}
use Rattle.stepfiles.specs.Opening.{step_file, first_below, worked_in}
use Rattle.stepfiles.proofs.file.StepFile.built_in.Goals as goal

pub invariant_of-result-2 : goal.invariant_of-result-2
unfolding step_file first_below worked_in worked begun passes passed_below gathered
invariant_of-result-2 c = record { checked = refl }
