-- Words that are none of the program's own. Assumes nothing.
use Prim.Native.String.{String as Text}
use Rattle.std.proofs.Common.{◌≡◌, true, false, List, ◌∷◌, Err, codes, refl}
use Rattle.std.proofs.lemmas.Slice.Eq.{bytes_eq-Decides}
use Rattle.wafulexi.specs.Commands.{parsed}
use Rattle.wafulexi.specs.Words.{Word, spelled, is, unknown}

other : (w : Word) (s : Text) → (spelled w ≡ codes s → ⊥) → is w s ≡ false
other w s differs =
    elim (is w s) as (λ b. is w s ≡ b → b ≡ false) [
      | true ↦ λ e. absurd (differs ((bytes_eq-Decides (spelled w) (codes s)).0 e))
      | false ↦ λ e. refl
    ] refl

pub no_command : (w : Word) (ws : List Word) → (spelled w ≡ codes "help" → ⊥) → (spelled w ≡ codes "--help" → ⊥) → (spelled w ≡ codes "-h" → ⊥) → (spelled w ≡ codes "inspect" → ⊥) → (spelled w ≡ codes "nodes" → ⊥) → (spelled w ≡ codes "classes" → ⊥) → parsed (w ∷ ws) ≡ Err (unknown w)
no_command w ws help long short inspect nodes classes =
    rw (other w "help" help, other w "--help" long, other w "-h" short, other w "inspect" inspect, other w "nodes" nodes, other w "classes" classes)
