-- Meeting letters in turn.
--   Tied key c          the keys of the classes c are those of their samples
--   Have key c letters d   the classes d have these letters as samples: at most 255, if those of c before were
--   Met key ls c all d  what it means to have met the letters ls, where the classes were c before and are d now: all says
--                       whether there was a class for each of them
--   swept atoms         the classes of all events, if they are at most 255
-- Assumes nothing.
use Rattle.std.specs.Prelude.{◌≡◌, ℕ, ◌<◌, ◌≤◌, Bool, true, false, cond, List, length, map, Option, Some, None, nat_le}
use Rattle.bench.specs.declared.event.Event.{Event}
use Rattle.bands.specs.declared.atom.EventAtom.{EventAtom}
use Rattle.classes.specs.Found.{Found, samples_in, keys_in, found, made}
use Rattle.classes.specs.Meeting.{meets}
use Rattle.classes.specs.declared.found.Classes.{Classes}
use Rattle.sweeps.specs.Classes.{set_of, samples, count_of}

abbrev pub Tied : (Event → ℕ) → Classes Event → Type 0
Tied key c = keys_in c ≡ map key (samples_in c)

pub record Have (key : Event → ℕ) (c : Classes Event) (letters : List Event) (d : Classes Event) : Type 0 where
  pub are : found d ≡ made key letters
  pub few : length (samples_in c) ≤ 255 → length letters ≤ 255

pub record Met (key : Event → ℕ) (ls : List Event) (c : Classes Event) (all : Bool) (d : Classes Event) : Type 0 where
  pub all_met : all ≡ true → Have key c (meets key (samples_in c) ls) d
  pub too_many : all ≡ false → 255 < length (meets key (samples_in c) ls)

abbrev pub swept : List EventAtom → Option (Found Event)
swept atoms = cond (nat_le (count_of atoms) 255) (Some (made (set_of atoms) (samples atoms))) None
