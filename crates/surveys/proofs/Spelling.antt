-- A bracket that is told stands in the text, where its entry says.
--   Spelled text x   a bracket told by x is what its entry speaks of
-- Assumes nothing.
use Rattle.std.proofs.Common.{◌≡◌, ℕ, ◌+◌, ◌-◌, ◌<◌, eqb, ltb, List, length, get_or, take, drop, Some, None, Ok, Err, Option, Result, ap, arith, length-drop}
use Rattle.std.proofs.lemmas.List.{length-take-le}
use Rattle.std.proofs.lemmas.Bool.{cond_both, ltb-true}
use Rattle.refusals.specs.declared.Refusal.{Refusal}
use Rattle.grammar.specs.Tokens.{Token, bar, ampersand, bang, asterisk, opening, closing, nought, one, dot, bracket}
use Rattle.grammar.specs.Lexing.{Piece, bare, bare_at, begun, bracket_to, closing_at, lexed_at, start_at}
use Rattle.surveys.specs.Entries.{entry_at, text_at}

abbrev pub SpelledBy : List ℕ → Option Token → ℕ → Type 0
SpelledBy text None p = Unit {0}
SpelledBy text (Some bar) p = Unit {0}
SpelledBy text (Some ampersand) p = Unit {0}
SpelledBy text (Some bang) p = Unit {0}
SpelledBy text (Some asterisk) p = Unit {0}
SpelledBy text (Some opening) p = Unit {0}
SpelledBy text (Some closing) p = Unit {0}
SpelledBy text (Some nought) p = Unit {0}
SpelledBy text (Some one) p = Unit {0}
SpelledBy text (Some dot) p = Unit {0}
SpelledBy text (Some (bracket s)) p = text_at text (entry_at p s) ≡ s

abbrev pub Spelled : List ℕ → Result Piece Refusal → Type 0
Spelled text (Ok x) = SpelledBy text x.0 x.1
Spelled text (Err r) = Unit {0}

spelled-bare : (text : List ℕ) (start b : ℕ) → Spelled text (bare_at start (bare b))
spelled-bare text start b =
    cond_both (eqb b 124) _ _ P (λ e. tt) (λ e.
    cond_both (eqb b 38) _ _ P (λ e. tt) (λ e.
    cond_both (eqb b 33) _ _ P (λ e. tt) (λ e.
    cond_both (eqb b 42) _ _ P (λ e. tt) (λ e.
    cond_both (eqb b 40) _ _ P (λ e. tt) (λ e.
    cond_both (eqb b 41) _ _ P (λ e. tt) (λ e.
    cond_both (eqb b 48) _ _ P (λ e. tt) (λ e.
    cond_both (eqb b 49) _ _ P (λ e. tt) (λ e.
    cond_both (eqb b 46) _ _ P (λ e. tt) (λ e. tt)))))))))
  where
    P : Option Token → Type 0
    P o = Spelled text (bare_at start o)

spelled_bracket : (text : List ℕ) (start to : ℕ) → start < to → Spelled text (bracket_to text start to)
spelled_bracket text start to h =
    cond_both (ltb to (length text)) _ _ (Spelled text)
    (λ e.
    let k = ltb-true to (length text) e in
    let d = length-drop (start + 1) text in
    ap (λ n. take n (drop (start + 1) text)) (length-take-le (to - (start + 1)) (drop (start + 1) text) (omega arith)))
    (λ e. tt)

spelled-begun : (text : List ℕ) (start : ℕ) → Spelled text (begun text start)
spelled-begun text start =
    cond_both (ltb start (length text)) _ _ (Spelled text)
    (λ e. cond_both (eqb (get_or text start 0) 91) _ _ (Spelled text) (λ is. spelled_bracket text start (closing_at text (start + 1)) (omega arith)) (λ is. spelled-bare text start (get_or text start 0)))
    (λ e. tt)

pub spelled : (text : List ℕ) (at : ℕ) → Spelled text (lexed_at text at)
spelled text at = spelled-begun text (start_at text at)
