-- A text is cut in order: each token begins where the one before it ends or behind that, and takes a byte at least, so
-- that cutting comes to an end and does not depend on how often it may go on.
--   Proper text at x   x tells a token of the text from the place at on, or its end
--   Placed e ts        the tokens of ts are at places below e, which is where they end
--   size ts            how many tokens ts has
-- Assumes nothing.
use Rattle.std.proofs.Common.{◌≡◌, ℕ, zero, suc, ◌+◌, ◌-◌, ◌<◌, ◌≤◌, eqb, ltb, List, [], ◌∷◌, length, get_or, Some, None, Ok, Err, Option, Result, refl, ap, arith}
use Rattle.std.proofs.lemmas.Bool.{cond_both, ltb-true}
use Rattle.refusals.specs.declared.Refusal.{Refusal}
use Rattle.grammar.specs.Tokens.{Token, Spot, Lexed, end, bad, token, before}
use Rattle.grammar.specs.Lexing.{Piece, bare, closing_at, bracket_to, bare_at, piece_at, begun, start_at, lexed_at, onward, onward_by, lex_from, lexed_from}

abbrev pub ProperBy : List ℕ → ℕ → Option Token → ℕ → ℕ → Type 0
ProperBy text at None p q = (p ≡ length text) × (q ≡ length text)
ProperBy text at (Some t) p q = (at ≤ p) × (p < q) × (q ≤ length text)

abbrev pub Proper : List ℕ → ℕ → Result Piece Refusal → Type 0
Proper text at (Ok x) = ProperBy text at x.0 x.1 x.2
Proper text at (Err r) = Unit {0}

proper-bare : (text : List ℕ) (at start : ℕ) (t : Option Token) → at ≤ start → start < length text → Proper text at (bare_at start t)
proper-bare text at start (Some t) h l = omega arith
proper-bare text at start None h l = tt

proper_bracket : (text : List ℕ) (at start to : ℕ) → at ≤ start → start < to → Proper text at (bracket_to text start to)
proper_bracket text at start to h l = cond_both (ltb to (length text)) _ _ (Proper text at) (λ e. let k = ltb-true to (length text) e in (h, omega arith, omega arith)) (λ e. tt)

proper_piece : (text : List ℕ) (at start b : ℕ) → at ≤ start → start < length text → Proper text at (piece_at text start b)
proper_piece text at start b h l =
    cond_both (eqb b 91) _ _ (Proper text at)
    (λ e. proper_bracket text at start (closing_at text (start + 1)) h (omega arith))
    (λ e. proper-bare text at start (bare b) h l)

proper-begun : (text : List ℕ) (at start : ℕ) → at ≤ start → Proper text at (begun text start)
proper-begun text at start h =
    cond_both (ltb start (length text)) _ _ (Proper text at)
    (λ e. proper_piece text at start (get_or text start 0) h (ltb-true start (length text) e))
    (λ e. (refl, refl))

pub proper : (text : List ℕ) (at : ℕ) → Proper text at (lexed_at text at)
proper text at = proper-begun text at (start_at text at) (omega arith)

onward_by_same : (text : List ℕ) (at : ℕ) (f g : ℕ → Lexed) (t : Option Token) (p q : ℕ) → ProperBy text at t p q → ((to : ℕ) → at < to → to ≤ length text → f to ≡ g to) → onward_by f t p q ≡ onward_by g t p q
onward_by_same text at f g (Some t) p q h same = ap (token t p) (same q (omega arith) h.2)
onward_by_same text at f g None p q h same = refl

pub onward_same : (text : List ℕ) (at : ℕ) (f g : ℕ → Lexed) (x : Result Piece Refusal) → Proper text at x → ((to : ℕ) → at < to → to ≤ length text → f to ≡ g to) → onward f x ≡ onward g x
onward_same text at f g (Ok x) h same = onward_by_same text at f g x.0 x.1 x.2 h same
onward_same text at f g (Err r) h same = refl

-- More turns than bytes are left make no difference.
pub lex_from_enough : (k j : ℕ) (text : List ℕ) (at : ℕ) → length text - at < k → length text - at < j → lex_from k text at ≡ lex_from j text at
unfolding lex_from
lex_from_enough zero j text at h l = absurd (omega arith)
lex_from_enough (suc k) zero text at h l = absurd (omega arith)
lex_from_enough (suc k) (suc j) text at h l =
    onward_same text at (lex_from k text) (lex_from j text) (lexed_at text at) (proper text at) (λ to more most. lex_from_enough k j text to (omega arith) (omega arith))

pub lexed_from_step : (text : List ℕ) (at : ℕ) → lexed_from text at ≡ onward (lexed_from text) (lexed_at text at)
unfolding lex_from
lexed_from_step text at =
    onward_same text at (lex_from (length text) text) (lexed_from text) (lexed_at text at) (proper text at) (λ to more most. lex_from_enough (length text) (suc (length text)) text to (omega arith) (omega arith))

abbrev pub Placed : ℕ → Lexed → Type 0
Placed e (end p) = p ≡ e
Placed e (bad r) = Unit {0}
Placed e (token t p ts) = (p < e) × Placed e ts

placed-onward_by : (text : List ℕ) (at : ℕ) (f : ℕ → Lexed) (t : Option Token) (p q : ℕ) → ProperBy text at t p q → ((to : ℕ) → Placed (length text) (f to)) → Placed (length text) (onward_by f t p q)
placed-onward_by text at f (Some t) p q h each = (omega arith, each q)
placed-onward_by text at f None p q h each = h.0

placed-onward : (text : List ℕ) (at : ℕ) (f : ℕ → Lexed) (x : Result Piece Refusal) → Proper text at x → ((to : ℕ) → Placed (length text) (f to)) → Placed (length text) (onward f x)
placed-onward text at f (Ok x) h each = placed-onward_by text at f x.0 x.1 x.2 h each
placed-onward text at f (Err r) h each = tt

pub placed-lex_from : (k : ℕ) (text : List ℕ) (at : ℕ) → Placed (length text) (lex_from k text at)
unfolding lex_from
placed-lex_from zero text at = refl
placed-lex_from (suc k) text at = placed-onward text at (lex_from k text) (lexed_at text at) (proper text at) (placed-lex_from k text)

abbrev pub size : Lexed → ℕ
size (end p) = 0
size (bad r) = 0
size (token t p ts) = suc (size ts)

size-onward_by : (text : List ℕ) (at : ℕ) (f : ℕ → Lexed) (t : Option Token) (p q : ℕ) → ProperBy text at t p q → ((to : ℕ) → size (f to) ≤ length text - to) → size (onward_by f t p q) ≤ length text - at
size-onward_by text at f (Some t) p q h each = omega (arith, each q)
size-onward_by text at f None p q h each = omega arith

size-onward : (text : List ℕ) (at : ℕ) (f : ℕ → Lexed) (x : Result Piece Refusal) → Proper text at x → ((to : ℕ) → size (f to) ≤ length text - to) → size (onward f x) ≤ length text - at
size-onward text at f (Ok x) h each = size-onward_by text at f x.0 x.1 x.2 h each
size-onward text at f (Err r) h each = omega arith

pub size-lex_from : (k : ℕ) (text : List ℕ) (at : ℕ) → size (lex_from k text at) ≤ length text - at
unfolding lex_from
size-lex_from zero text at = omega arith
size-lex_from (suc k) text at = size-onward text at (lex_from k text) (lexed_at text at) (proper text at) (size-lex_from k text)

-- The same of tokens that come to the end.
pub size-before : (spots : List Spot) (p : ℕ) → size (before spots (end p)) ≡ length spots
size-before [] p = refl
size-before (s ∷ spots) p = ap suc (size-before spots p)

pub placed-before : (spots : List Spot) (e p : ℕ) → Placed e (before spots (end p)) → p ≡ e
placed-before [] e p h = h
placed-before (s ∷ spots) e p h = placed-before spots e p h.1
