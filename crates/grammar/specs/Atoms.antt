-- The atoms of a text: its brackets, equal texts being one atom, by number in the order first met; 32 at the most.
--   among known s         s is one of the known texts
--   met known s           the known texts with s; met_in known t: with the text of t, if t is a bracket
--   atoms_from known ts   the known texts with those of the brackets of ts
--   atoms ts              the different bracket texts of ts, in the order first met
--   number_of known s     the number of s among the known texts; how many they are where it is none of them
--   horizon_from known e ts, horizon e ts   the place of the first bracket that would be the 33rd atom, or else e
--   beyond h t p          t is a bracket, and its place p is h
--   within h ts           ts, with a bracket at the place h refused: it would be one atom too many
--   counted h x           the same for one token: x, unless it tells a bracket at the place h. counted_by is its step
--   horizon_in text       the place of the first bracket of a text that would be its 33rd atom, or else its length
--   tokens_from text at   the tokens of a text from the place at on, the atoms counted from its beginning
--   tokens text           the tokens of a text, the atoms counted
-- Assumes nothing.
use Rattle.std.specs.Prelude.{ℕ, Bool, cond, not, ◌&&◌, List, [], ◌∷◌, ◌++◌, length, Some, None, Ok, Err, Option, Result, ◌==◌, nat_lt}
use Rattle.std.specs.List.{prefix_len, list_any}
use Rattle.std.specs.Str.{bytes_eq}
use Rattle.refusals.specs.Questions.{refusing}
use Rattle.refusals.specs.declared.Question.TheVariants.{AtomCount}
use Rattle.refusals.specs.declared.Refusal.{Refusal}
use Rattle.grammar.specs.Tokens.{Token, bracket, Lexed, end, bad, token, sign}
use Rattle.grammar.specs.Lexing.{Piece, lexed_from, lexed}

abbrev pub among : List (List ℕ) → List ℕ → Bool
among known s = list_any (λ a. bytes_eq a s) known

abbrev pub met : List (List ℕ) → List ℕ → List (List ℕ)
met known s = cond (among known s) known (known ++ (s ∷ []))

abbrev pub met_in : List (List ℕ) → Token → List (List ℕ)
met_in known (bracket s) = met known s
met_in known t = known

unfoldable pub atoms_from : List (List ℕ) → Lexed → List (List ℕ)
atoms_from known (end p) = known
atoms_from known (bad r) = known
atoms_from known (token t p ts) = atoms_from (met_in known t) ts

abbrev pub atoms : Lexed → List (List ℕ)
atoms ts = atoms_from [] ts

abbrev pub number_of : List (List ℕ) → List ℕ → ℕ
number_of known s = prefix_len (λ a. not (bytes_eq a s)) known

unfoldable pub horizon_from : List (List ℕ) → ℕ → Lexed → ℕ
horizon_from known e (end p) = e
horizon_from known e (bad r) = e
horizon_from known e (token t p ts) = cond (nat_lt 32 (length (met_in known t))) p (horizon_from (met_in known t) e ts)

abbrev pub horizon : ℕ → Lexed → ℕ
horizon e ts = horizon_from [] e ts

abbrev pub beyond : ℕ → Token → ℕ → Bool
beyond h t p = sign t == 91 && p == h

unfoldable pub within : ℕ → Lexed → Lexed
within h (end p) = end p
within h (bad r) = bad r
within h (token t p ts) = cond (beyond h t p) (bad (refusing AtomCount p)) (token t p (within h ts))

abbrev pub counted_by : ℕ → Option Token → ℕ → ℕ → Result Piece Refusal
counted_by h None p q = Ok (None, p, q)
counted_by h (Some t) p q = cond (beyond h t p) (Err (refusing AtomCount p)) (Ok (Some t, p, q))

abbrev pub counted : ℕ → Result Piece Refusal → Result Piece Refusal
counted h (Ok x) = counted_by h x.0 x.1 x.2
counted h (Err r) = Err r

abbrev pub horizon_in : List ℕ → ℕ
horizon_in text = horizon (length text) (lexed text)

abbrev pub tokens_from : List ℕ → ℕ → Lexed
tokens_from text at = within (horizon_in text) (lexed_from text at)

abbrev pub tokens : List ℕ → Lexed
tokens text = tokens_from text 0
