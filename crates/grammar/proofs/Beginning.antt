-- What a written form begins with, and what cannot go on behind it.
--   starts_as X t   t can begin a form of the level X
--   Begun X us      the tokens us begin with such a token
--   Stops X ts      the first token of ts goes on no form of the level X or tighter
-- Assumes nothing.
use Rattle.std.proofs.Common.{◌≡◌, ℕ, ◌≤◌, Bool, true, false, not, ◌&&◌, eqb, List, [], ◌∷◌, ◌++◌, length, sym, refl, ap, ◌∙◌, arith}
use Rattle.std.proofs.lemmas.Bool.{and_parts}
use Rattle.languages.specs.Rules.{Rule}
use Rattle.grammar.specs.Tokens.{Token, bar, ampersand, bang, asterisk, opening, closing, nought, one, dot, bracket, Spot, Lexed, tokens_in, sign, begins}
use Rattle.grammar.specs.Grammar.{Level, alternatives, conjunctions, sequences, prefixes, starred, bases, Writes, either, conjunction, both, sequenced, followed, prefixed, negated, plain, repeated, base, enclosed, no_list, empty_list, any_letter, named}
use Rattle.grammar.specs.Parsing.{joins}

abbrev pub starts_as : Level → Token → Bool
starts_as alternatives t = begins t
starts_as conjunctions t = begins t
starts_as sequences t = begins t
starts_as prefixes t = begins t
starts_as starred t = begins t && not (eqb (sign t) 33)
starts_as bases t = begins t && not (eqb (sign t) 33)

abbrev pub Begun : Level → List Token → Type 0
Begun X us = (t : Token) × (vs : List Token) × (us ≡ t ∷ vs) × (starts_as X t ≡ true)

begun_first : (X : Level) (ts us vs : List Token) → ts ≡ us ++ vs → Begun X us → Begun X ts
begun_first X ts us vs e b = (b.0, b.1 ++ vs, e ∙ ap (λ ws. ws ++ vs) b.2, b.3)

pub begun : (names : List ℕ → ℕ) {n : ℕ} {X : Level} {ts : List Token} {r : Rule} → Writes names n X ts r → Begun X ts
begun names {ts = ts} (either us vs e v w) = begun_first alternatives ts us (bar ∷ vs) e (begun names v)
begun names (conjunction w) = begun names w
begun names {ts = ts} (both us vs e v w) = begun_first conjunctions ts us (ampersand ∷ vs) e (begun names v)
begun names (sequenced w) = begun names w
begun names {ts = ts} (followed us vs e v w) = begun_first sequences ts us vs e (begun names v)
begun names (prefixed w) = begun names w
begun names (negated us e w) = (bang, us, e, refl)
begun names (plain w) = let b = begun names w in (b.0, b.1, b.2, (and_parts (begins b.0) _ b.3).0)
begun names {ts = ts} (repeated us e w) = begun_first starred ts us (asterisk ∷ []) e (begun names w)
begun names (base w) = begun names w
begun names (enclosed us e w) = (opening, us ++ (closing ∷ []), e, refl)
begun names (no_list e) = (nought, [], e, refl)
begun names (empty_list e) = (one, [], e, refl)
begun names (any_letter e) = (dot, [], e, refl)
begun names (named s e) = (bracket s, [], e, refl)

pub begun_some : (X : Level) (us : List Token) → Begun X us → 1 ≤ length us
begun_some X us b = omega (arith, ap length b.2)

abbrev pub tighter : Level → Level
tighter alternatives = conjunctions
tighter conjunctions = sequences
tighter sequences = prefixes
tighter prefixes = starred
tighter starred = bases
tighter bases = bases

abbrev pub Stops : Level → Lexed → Type 0
Stops bases ts = Unit {0}
Stops starred ts = joins starred ts ≡ false
Stops prefixes ts = joins starred ts ≡ false
Stops sequences ts = (joins sequences ts ≡ false) × (joins starred ts ≡ false)
Stops conjunctions ts = (joins conjunctions ts ≡ false) × ((joins sequences ts ≡ false) × (joins starred ts ≡ false))
Stops alternatives ts = (joins alternatives ts ≡ false) × ((joins conjunctions ts ≡ false) × ((joins sequences ts ≡ false) × (joins starred ts ≡ false)))

pub stops_here : (X : Level) (ts : Lexed) → Stops X ts → joins X ts ≡ false
stops_here alternatives ts h = h.0
stops_here conjunctions ts h = h.0
stops_here sequences ts h = h.0
stops_here prefixes ts h = refl
stops_here starred ts h = h
stops_here bases ts h = refl

pub stops_tighter : (X : Level) (ts : Lexed) → Stops X ts → Stops (tighter X) ts
stops_tighter alternatives ts h = h.1
stops_tighter conjunctions ts h = h.1
stops_tighter sequences ts h = h.1
stops_tighter prefixes ts h = h
stops_tighter starred ts h = tt
stops_tighter bases ts h = tt

pub begins_no_star : (t : Token) → begins t ≡ true → eqb (sign t) 42 ≡ false
begins_no_star bar h = refl
begins_no_star ampersand h = refl
begins_no_star bang h = refl
begins_no_star asterisk h = sym h
begins_no_star opening h = refl
begins_no_star closing h = refl
begins_no_star nought h = refl
begins_no_star one h = refl
begins_no_star dot h = refl
begins_no_star (bracket s) h = refl

-- Spots by the tokens at them.
pub first_spot : (t : Token) (us : List Token) (spots : List Spot) → tokens_in spots ≡ t ∷ us → (p : ℕ) × (s : List Spot) × (spots ≡ (t, p) ∷ s) × (tokens_in s ≡ us)
first_spot t us [] h = absurd (grind arith)
first_spot t us (x ∷ s) h =
    let a : x.0 ≡ t = cc in
    (x.1, s, λ i. (a i, x.1) ∷ s, cc)

pub split_spots : (us vs : List Token) (spots : List Spot) → tokens_in spots ≡ us ++ vs → (s : List Spot) × (u : List Spot) × (spots ≡ s ++ u) × (tokens_in s ≡ us) × (tokens_in u ≡ vs)
split_spots [] vs spots h = ([], spots, refl, refl, h)
split_spots (t ∷ us) vs spots h =
    let first = first_spot t (us ++ vs) spots h in
    let others = split_spots us vs first.1 first.3 in
    ((t, first.0) ∷ others.0, others.1, first.2 ∙ ap (λ s. (t, first.0) ∷ s) others.2, ap (λ ws. t ∷ ws) others.3, others.4)
