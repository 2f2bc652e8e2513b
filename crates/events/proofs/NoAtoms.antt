-- The alphabet without atoms.
-- Assumes nothing.
use Rattle.std.proofs.Common.{◌≡◌, [], ◌∷◌, map, refl, ap, ◌∙◌}
use Rattle.bench.specs.declared.code.Code.TheVariants.{C0}
use Rattle.bench.specs.declared.event.Event.{Event}
use Rattle.bench.specs.declared.station.Station.TheVariants.{S0}
use Rattle.cutting.specs.Answers.{answers_of}
use Rattle.sweeps.specs.Classes.{set_of, samples, sets}
use Rattle.sweeps.specs.Letters.{event_at}
use Rattle.sweeps.proofs.Letters.{one_class}

no_answers : (e : Event) → set_of [] e ≡ 0
unfolding answers_of
no_answers e = refl

pub one_sample : samples [] ≡ event_at C0 S0 0 ∷ []
one_sample = one_class (set_of []) 0 no_answers

pub one_set : sets [] ≡ 0 ∷ []
one_set = ap (map (set_of [])) one_sample ∙ ap (λ s. s ∷ []) (no_answers (event_at C0 S0 0))
