use Rattle.languages.proofs.proved.Goals as goal
use Rattle.languages.proofs.Standing.{marks_say_what_is_reached}

pub returns : goal.returns
returns c = marks_say_what_is_reached
