-- How a text is cut into tokens, each by the bytes from its place on.
--   blank b             b may stand between tokens: a blank or a line feed
--   bare b              the token that the byte b is, if it is one of the nine signs
--   Piece               a token (none at the end), its place, and the place behind it
--   start_at text at    the first place from at on where no blank stands
--   closing_at text at  the first place from at on where a `]` stands; the text's length if there is none
--   lexed_at text at    the first token from the place at on, or why none can be told. begun, piece_at, bare_at and
--                       bracket_to are its steps: at a place, by the byte there, for a sign, for a bracket up to its `]`
--   onward f x          the tokens that begin with what x tells, where f tells those from a place on. onward_by is its
--                       step, for a token, or none, its place and the place behind it
--   lex_from k text at  the tokens from the place at on, at most k of them
--   lexed_from text at  the tokens from the place at on
--   lexed text          the tokens of a text
-- Assumes nothing.
use Rattle.std.specs.Prelude.{ℕ, zero, suc, ◌+◌, ◌-◌, Bool, cond, not, ◌||◌, List, length, take, drop, Some, None, Ok, Err, Option, Result, ◌==◌, nat_lt, slice_index}
use Rattle.std.specs.List.{position_or_len}
use Rattle.refusals.specs.Questions.{refusing}
use Rattle.refusals.specs.declared.Question.TheVariants.{TokenStart, BracketClosed}
use Rattle.refusals.specs.declared.Refusal.{Refusal}
use Rattle.grammar.specs.Tokens.{Token, bar, ampersand, bang, asterisk, opening, closing, nought, one, dot, bracket, Lexed, end, bad, token}

abbrev pub blank : ℕ → Bool
blank b = b == 32 || b == 10

abbrev pub bare : ℕ → Option Token
bare b =
    cond (b == 124) (Some bar)
    (cond (b == 38) (Some ampersand)
    (cond (b == 33) (Some bang)
    (cond (b == 42) (Some asterisk)
    (cond (b == 40) (Some opening)
    (cond (b == 41) (Some closing)
    (cond (b == 48) (Some nought)
    (cond (b == 49) (Some one)
    (cond (b == 46) (Some dot)
    None))))))))

abbrev pub Piece : Type 0
Piece = Option Token × ℕ × ℕ

abbrev pub closing_at : List ℕ → ℕ → ℕ
closing_at text at = at + position_or_len (λ b. b == 93) (drop at text)

abbrev pub bracket_to : List ℕ → ℕ → ℕ → Result Piece Refusal
bracket_to text start to =
    cond (nat_lt to (length text))
    (Ok (Some (bracket (take (to - (start + 1)) (drop (start + 1) text))), start, to + 1))
    (Err (refusing BracketClosed start))

abbrev pub bare_at : ℕ → Option Token → Result Piece Refusal
bare_at start (Some t) = Ok (Some t, start, start + 1)
bare_at start None = Err (refusing TokenStart start)

abbrev pub piece_at : List ℕ → ℕ → ℕ → Result Piece Refusal
piece_at text start b = cond (b == 91) (bracket_to text start (closing_at text (start + 1))) (bare_at start (bare b))

abbrev pub begun : List ℕ → ℕ → Result Piece Refusal
begun text start = cond (nat_lt start (length text)) (piece_at text start (slice_index text start)) (Ok (None, length text, length text))

abbrev pub start_at : List ℕ → ℕ → ℕ
start_at text at = at + position_or_len (λ b. not (blank b)) (drop at text)

abbrev pub lexed_at : List ℕ → ℕ → Result Piece Refusal
lexed_at text at = begun text (start_at text at)

abbrev pub onward_by : (ℕ → Lexed) → Option Token → ℕ → ℕ → Lexed
onward_by f None p q = end p
onward_by f (Some t) p q = token t p (f q)

abbrev pub onward : (ℕ → Lexed) → Result Piece Refusal → Lexed
onward f (Err r) = bad r
onward f (Ok x) = onward_by f x.0 x.1 x.2

unfoldable pub lex_from : ℕ → List ℕ → ℕ → Lexed
lex_from zero text at = end (length text)
lex_from (suc k) text at = onward (lex_from k text) (lexed_at text at)

abbrev pub lexed_from : List ℕ → ℕ → Lexed
lexed_from text at = lex_from (suc (length text)) text at

abbrev pub lexed : List ℕ → Lexed
lexed text = lexed_from text 0
