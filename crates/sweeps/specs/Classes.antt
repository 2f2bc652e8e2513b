-- The classes of the alphabet of a list of atoms. Everything about an alphabet follows from its atoms.
--   set_of atoms e     the answer set of the event e
--   samples atoms      the samples of the classes: the events whose answer sets no event before them has
--   count_of atoms     how many classes there are
--   sets atoms         the answer sets of the classes
--   class_of atoms e   the class of the event e
-- Assumes nothing.
use Rattle.std.specs.Prelude.{ℕ, List, length}
use Rattle.bench.specs.declared.event.Event.{Event}
use Rattle.classes.specs.Meeting.{firsts, keys_of, class_in}
use Rattle.cutting.specs.Answers.{answers_of}
use Rattle.bands.specs.Bands.{admitted}
use Rattle.bands.specs.declared.atom.EventAtom.{EventAtom}
use Rattle.sweeps.specs.Letters.{all_events}

abbrev pub set_of : List EventAtom → Event → ℕ
set_of atoms e = answers_of admitted atoms e

abbrev pub samples : List EventAtom → List Event
samples atoms = firsts (set_of atoms) all_events

abbrev pub count_of : List EventAtom → ℕ
count_of atoms = length (samples atoms)

abbrev pub sets : List EventAtom → List ℕ
sets atoms = keys_of (set_of atoms) all_events

abbrev pub class_of : List EventAtom → Event → ℕ
class_of atoms e = class_in (set_of atoms) all_events e
