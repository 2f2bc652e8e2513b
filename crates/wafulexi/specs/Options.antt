-- The options of `classes`.
--   no_options         none was given, and no source
--   order_in s         the order that the bytes s write, if they are eight digits
--   with_order o d r   o with the order r, if the word d writes one
--   ordered o w d      o with the order that d writes; d is the word behind the option w, if there is one
--   taken_with o w     o with w, which is any other option, or the source
--   taken o p ws       what the words ws make of o. Where p is an option, its own word is the next of them
--   lettered e f s     the letters that were asked for: events or not, folded or not, with an order or without
--   cutting_of o l     what was asked for, where l are the letters; without a source, it is standard input
--   asked o            what the options o ask for
--   cutting ws         what the words ws behind `classes` ask for
-- Assumes nothing.
use Rattle.std.specs.Prelude.{ℕ, ◌-◌, Bool, true, false, cond, ◌&&◌, List, [], ◌∷◌, length, map, Option, Some, None, Result, Ok, Err, is_some, ◌==◌, unwrap_or}
use Rattle.std.specs.Char.{is_ascii_digit}
use Rattle.std.specs.List.{list_all}
use Rattle.wafulexi.specs.declared.options.Cutting.{Cutting}
use Rattle.wafulexi.specs.declared.options.Letters.{Letters}
use Rattle.wafulexi.specs.declared.options.Letters.TheVariants.{Bytes, FoldedBytes, Events, CrossedEvents}
use Rattle.wafulexi.specs.declared.options.Options.{Options}
use Rattle.wafulexi.specs.declared.words.Misuse.{Misuse}
use Rattle.wafulexi.specs.declared.words.Misuse.TheVariants.{OneTooMany, Twice, Unfinished, NotEightDigits, FoldOfEvents, StationsOfBytes}
use Rattle.wafulexi.specs.declared.words.Source.TheVariants.{Input}
use Rattle.wafulexi.specs.Words.{Word, spelled, is, named, then}

abbrev pub no_options : Options
no_options = record { events = false; fold = false; stations = None; source = None }

abbrev pub order_in : List ℕ → Option (List ℕ)
order_in s = cond ((length s == 8) && list_all is_ascii_digit s) (Some (map (λ b. b - 48) s)) None

abbrev pub with_order : Options → Word → Option (List ℕ) → Result Options Misuse
with_order o d (Some order) = Ok (record o { stations = Some order })
with_order o d None = Err (NotEightDigits d)

abbrev pub ordered : Options → Word → Option Word → Result Options Misuse
ordered o w (Some d) = cond (is_some o.stations) (Err (Twice w)) (with_order o d (order_in (spelled d)))
ordered o w None = cond (is_some o.stations) (Err (Twice w)) (Err (Unfinished w))

abbrev pub taken_with : Options → Word → Result Options Misuse
taken_with o w =
    cond (is w "--events") (cond o.events (Err (Twice w)) (Ok (record o { events = true })))
    (cond (is w "--fold") (cond o.fold (Err (Twice w)) (Ok (record o { fold = true })))
    (cond (is_some o.source) (Err (OneTooMany w)) (then (named w) (λ s. Ok (record o { source = Some s })))))

abbrev pub taken : Options → Option Word → List Word → Result Options Misuse
taken o None [] = Ok o
taken o (Some w) [] = ordered o w None
taken o None (w ∷ ws) = cond (is w "--stations") (taken o (Some w) ws) (then (taken_with o w) (λ p. taken p None ws))
taken o (Some w) (d ∷ ws) = then (ordered o w (Some d)) (λ p. taken p None ws)

abbrev pub lettered : Bool → Bool → Option (List ℕ) → Result Letters Misuse
lettered false false None = Ok Bytes
lettered false true None = Ok FoldedBytes
lettered true false None = Ok Events
lettered true false (Some order) = Ok (CrossedEvents order)
lettered true true s = Err FoldOfEvents
lettered false f (Some order) = Err StationsOfBytes

abbrev pub cutting_of : Options → Letters → Cutting
cutting_of o letters = record { letters = letters; source = unwrap_or o.source Input }

abbrev pub asked : Options → Result Cutting Misuse
asked o = then (lettered o.events o.fold o.stations) (λ letters. Ok (cutting_of o letters))

abbrev pub cutting : List Word → Result Cutting Misuse
cutting ws = then (taken no_options None ws) asked
