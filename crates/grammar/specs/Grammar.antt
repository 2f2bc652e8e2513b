-- Which tokens write which rule: the grammar, apart from any order of reading.
--   Level           how tightly a form binds, from the loosest on
--   Writes names n X ts r   the tokens ts write the rule r as a form that binds at least as tightly as X, with at most
--                   n levels open at once; names gives each bracket its atom. `!` and `(` open a level each.
--                   Equal binary forms group to the left: the right side of one is of the next tighter level
--   Written text r  the text is a rule text, and r is its rule
-- Assumes nothing.
use Rattle.std.specs.Prelude.{◌≡◌, ℕ, suc, ◌≤◌, List, [], ◌∷◌, ◌++◌, length}
use Rattle.languages.specs.Rules.{Rule, none, empty, any, atom, sequence, or, and, star, not}
use Rattle.grammar.specs.Tokens.{Token, bar, ampersand, bang, asterisk, opening, closing, nought, one, dot, bracket, Spot, end, before, tokens_in}
use Rattle.grammar.specs.Lexing.{lexed}
use Rattle.grammar.specs.Atoms.{atoms, number_of}

pub data Level : Type 0 where
  alternatives conjunctions sequences prefixes starred bases : Level

pub data Writes (names : List ℕ → ℕ) : ℕ → Level → List Token → Rule → Type 0 where
  either : {n : ℕ} {ts : List Token} {r q : Rule} (us vs : List Token) → ts ≡ us ++ (bar ∷ vs) → Writes names n alternatives us r → Writes names n conjunctions vs q → Writes names n alternatives ts (or r q)
  conjunction : {n : ℕ} {ts : List Token} {r : Rule} → Writes names n conjunctions ts r → Writes names n alternatives ts r
  both : {n : ℕ} {ts : List Token} {r q : Rule} (us vs : List Token) → ts ≡ us ++ (ampersand ∷ vs) → Writes names n conjunctions us r → Writes names n sequences vs q → Writes names n conjunctions ts (and r q)
  sequenced : {n : ℕ} {ts : List Token} {r : Rule} → Writes names n sequences ts r → Writes names n conjunctions ts r
  followed : {n : ℕ} {ts : List Token} {r q : Rule} (us vs : List Token) → ts ≡ us ++ vs → Writes names n sequences us r → Writes names n prefixes vs q → Writes names n sequences ts (sequence r q)
  prefixed : {n : ℕ} {ts : List Token} {r : Rule} → Writes names n prefixes ts r → Writes names n sequences ts r
  negated : {n : ℕ} {ts : List Token} {r : Rule} (us : List Token) → ts ≡ bang ∷ us → Writes names n prefixes us r → Writes names (suc n) prefixes ts (not r)
  plain : {n : ℕ} {ts : List Token} {r : Rule} → Writes names n starred ts r → Writes names n prefixes ts r
  repeated : {n : ℕ} {ts : List Token} {r : Rule} (us : List Token) → ts ≡ us ++ (asterisk ∷ []) → Writes names n starred us r → Writes names n starred ts (star r)
  base : {n : ℕ} {ts : List Token} {r : Rule} → Writes names n bases ts r → Writes names n starred ts r
  enclosed : {n : ℕ} {ts : List Token} {r : Rule} (us : List Token) → ts ≡ opening ∷ (us ++ (closing ∷ [])) → Writes names n alternatives us r → Writes names (suc n) bases ts r
  no_list : {n : ℕ} {ts : List Token} → ts ≡ nought ∷ [] → Writes names n bases ts none
  empty_list : {n : ℕ} {ts : List Token} → ts ≡ one ∷ [] → Writes names n bases ts empty
  any_letter : {n : ℕ} {ts : List Token} → ts ≡ dot ∷ [] → Writes names n bases ts any
  named : {n : ℕ} {ts : List Token} (s : List ℕ) → ts ≡ bracket s ∷ [] → Writes names n bases ts (atom (names s))

pub record Written (text : List ℕ) (r : Rule) : Type 0 where
  -- the text is cut into tokens to its end,
  pub spots : List Spot
  pub lexes : lexed text ≡ before spots (end (length text))
  -- which write the rule with at most 32 levels open,
  pub writes : Writes (number_of (atoms (lexed text))) 32 alternatives (tokens_in spots) r
  -- and at most 32 different brackets.
  pub few : length (atoms (lexed text)) ≤ 32
