-- The command that the words ask for.
--   asking c r    the command c of r, if r is no misuse
--   parsed ws     the command that the words ws ask for
-- Assumes nothing.
use Rattle.std.specs.Prelude.{cond, ◌||◌, List, [], ◌∷◌, Ok, Err, Result}
use Rattle.wafulexi.specs.declared.words.Command.{Command}
use Rattle.wafulexi.specs.declared.words.Command.TheVariants.{Help, Inspect, Nodes, Classes}
use Rattle.wafulexi.specs.declared.words.Misuse.{Misuse}
use Rattle.wafulexi.specs.declared.words.Misuse.TheVariants.{NoCommand}
use Rattle.wafulexi.specs.Words.{Word, is, ended, then, unknown, sourced}
use Rattle.wafulexi.specs.Options.{cutting}

abbrev pub asking : {X : Type 0} → (X → Command) → Result X Misuse → Result Command Misuse
asking command r = then r (λ x. Ok (command x))

abbrev pub parsed : List Word → Result Command Misuse
parsed [] = Err NoCommand
parsed (w ∷ ws) =
    cond (is w "help" || (is w "--help" || is w "-h")) (ended ws Help)
    (cond (is w "inspect") (asking Inspect (sourced ws))
    (cond (is w "nodes") (asking Nodes (sourced ws))
    (cond (is w "classes") (asking Classes (cutting ws))
    (Err (unknown w)))))
