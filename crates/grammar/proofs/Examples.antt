-- Texts of each kind with what reading them answers, held against the definitions by computing.
-- Assumes nothing.
use Rattle.std.proofs.Common.{◌≡◌, ℕ, ◌+◌, true, List, [], ◌∷◌, ◌++◌, map, replicate, is_ok, Ok, Err, codes, Result, refl}
use Rattle.languages.specs.Rules.{Rule, none, empty, any, atom, sequence, or, and, star, not}
use Rattle.refusals.specs.Questions.{refusing}
use Rattle.refusals.specs.declared.Question.TheVariants.{GrammarAllows, LevelsOpen, TokenStart, BracketClosed, AtomCount}
use Rattle.refusals.specs.declared.Refusal.{Refusal}
use Rattle.grammar.specs.Lexing.{lex_from}
use Rattle.grammar.specs.Atoms.{atoms_from, horizon_from, within}
use Rattle.grammar.specs.Parsing.{parsed_text, read, more}

abbrev Answer : Type 0
Answer = Result Rule Refusal

-- A bracket around one byte; eight of them; as many different ones as there may be.
abbrev boxed : ℕ → List ℕ
boxed b = 91 ∷ (b ∷ (93 ∷ []))

abbrev eight : ℕ → List ℕ
eight b = boxed b ++ boxed (b + 1) ++ boxed (b + 2) ++ boxed (b + 3) ++ boxed (b + 4) ++ boxed (b + 5) ++ boxed (b + 6) ++ boxed (b + 7)

abbrev most : List ℕ
most = eight 100 ++ eight 108 ++ eight 116 ++ eight 124

abbrev examples : List (List ℕ × Answer)
examples =
    (codes ".!1", Ok (sequence any (not empty)))
    ∷ (codes "!.1", Ok (sequence (not any) empty))
    ∷ (codes "!.*", Ok (not (star any)))
    ∷ (codes ".**", Ok (star (star any)))
    ∷ (codes "(.|0)1", Ok (sequence (or any none) empty))
    ∷ (codes "[b][a]|[]&[b] [a]|.", Ok (or (or (sequence (atom 0) (atom 1)) (and (atom 2) (sequence (atom 0) (atom 1)))) any))
    ∷ (codes "[ [\n]\n[ [\n]", Ok (sequence (atom 0) (atom 0)))
    ∷ (codes "]", Err (refusing TokenStart 0))
    ∷ (codes ".x)", Err (refusing TokenStart 1))
    ∷ (codes "(.x", Err (refusing TokenStart 2))
    ∷ (codes "[61", Err (refusing BracketClosed 0))
    ∷ (codes "", Err (refusing GrammarAllows 0))
    ∷ (codes "   ", Err (refusing GrammarAllows 3))
    ∷ (codes ")x", Err (refusing GrammarAllows 0))
    ∷ (codes "|[", Err (refusing GrammarAllows 0))
    ∷ (codes "()", Err (refusing GrammarAllows 1))
    ∷ (codes ".)x", Err (refusing GrammarAllows 1))
    ∷ (codes "[61]|", Err (refusing GrammarAllows 5))
    ∷ (replicate 33 40 ++ codes "x", Err (refusing LevelsOpen 32))
    ∷ (replicate 33 33, Err (refusing LevelsOpen 32))
    ∷ (replicate 16 40 ++ replicate 16 33 ++ codes "(", Err (refusing LevelsOpen 32))
    ∷ (most ++ boxed 131 ++ boxed 132 ++ boxed 133, Err (refusing AtomCount 99))
    ∷ (most ++ codes "|)" ++ boxed 132, Err (refusing GrammarAllows 97))
    ∷ []

answered : map (λ e. parsed_text e.0) examples ≡ map (λ e. e.1) examples
unfolding lex_from atoms_from horizon_from within read more
answered = refl

-- 32 levels open are not too many, and a `!` closes its own with its operand.
deep : is_ok (parsed_text (replicate 32 33 ++ codes "." ++ replicate 32 33 ++ codes ".")) ≡ true
unfolding lex_from atoms_from horizon_from within read more
deep = refl
