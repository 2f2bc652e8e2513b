-- A pass over a whole text.
-- Assumes nothing.
use Rattle.std.proofs.Common.{◌≡◌, ℕ, suc, ◌+◌, ◌*◌, List, length, Err, sym, refl, ap, ◌∙◌, arith}
use Rattle.refusals.specs.declared.Refusal.{Refusal}
use Rattle.grammar.specs.Grammar.{alternatives}
use Rattle.grammar.specs.Tokens.{bad}
use Rattle.nodes.specs.Entering.{Held, Out}
use Rattle.surveys.specs.declared.reader.Reader.{Reader}
use Rattle.surveys.specs.Looking.{after, told}
use Rattle.passes.specs.Passing.{Step, ended, grow_into, names_of, passed_into, read_into}

-- Where no token can be told, nothing is read.
read_bad : (k : ℕ) (step : Step) (names : List ℕ → ℕ) (n : ℕ) (e : Refusal) (h : Held) → read_into (suc (suc (suc (suc (suc (suc k)))))) step names n alternatives (bad e) h ≡ (Err e, h)
unfolding read_into grow_into
read_bad k step names n e h = refl

pub passed_bad : (step : Step) (s : Reader) (h : Held) (e : Refusal) → told s (Err e) ≡ after s 0 → ◌≡◌ {A = Out} (Err e, h) (passed_into step s h)
passed_bad step s h e t =
    let L = length s.text.now in
    let enough : 8 * suc L ≡ suc (suc (suc (suc (suc (suc (8 * L + 2)))))) = omega arith in
    sym (ap (λ ts. ended (read_into (8 * suc L) step (names_of s) 32 alternatives ts h)) (sym t) ∙ ap (λ k. ended (read_into k step (names_of s) 32 alternatives (bad e) h)) enough ∙ ap ended (read_bad (8 * L + 2) step (names_of s) 32 e h))
