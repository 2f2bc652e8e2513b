-- The atoms of the rule that a text writes are numbers of its atoms, so they are below 32.
--   Below names t   if the token t is a bracket, its number is below 32
-- Assumes nothing.
use Rattle.std.proofs.Common.{◌≡◌, ℕ, ◌<◌, ◌≤◌, Bool, true, false, ◌||◌, List, [], ◌∷◌, ◌++◌, length, sym, refl, subst, arith}
use Rattle.std.specs.List.{AllByRecursion}
use Rattle.std.specs.Str.{bytes_eq}
use Rattle.std.proofs.lemmas.Slice.Eq.{bytes_eq-Decides}
use Rattle.std.proofs.lemmas.Bool.{cond_both, or_left, or_right, false≢true}
use Rattle.languages.specs.Rules.{Rule}
use Rattle.grammar.specs.Tokens.{Token, bar, ampersand, bang, asterisk, opening, closing, nought, one, dot, bracket, Spot, Lexed, end, bad, token, before, tokens_in}
use Rattle.grammar.specs.Lexing.{lexed}
use Rattle.grammar.specs.Atoms.{among, met, met_in, atoms_from, atoms, number_of}
use Rattle.grammar.specs.Grammar.{Level, Writes, Written, either, conjunction, both, sequenced, followed, prefixed, negated, plain, repeated, base, enclosed, no_list, empty_list, any_letter, named}
use Rattle.nodes.specs.Trees.{Few}

-- The number of a known text is below their count.
number_below : (known : List (List ℕ)) (s : List ℕ) → among known s ≡ true → number_of known s < length known
number_below [] s h = absurd (false≢true h)
number_below (a ∷ known) s h = go (bytes_eq a s) refl (number_below known s)
  where
    go : (b : Bool) → bytes_eq a s ≡ b → (among known s ≡ true → number_of known s < length known) → number_of (a ∷ known) s < length (a ∷ known)
    go true e later = rw e (omega arith)
    go false e later = rw e (let l = later (rw e at h) in omega (arith, l))

among_push : (known : List (List ℕ)) (s t : List ℕ) → among known s ≡ true → among (known ++ (t ∷ [])) s ≡ true
among_push [] s t h = absurd (false≢true h)
among_push (a ∷ known) s t h = go (bytes_eq a s) refl (among_push known s t)
  where
    go : (b : Bool) → bytes_eq a s ≡ b → (among known s ≡ true → among (known ++ (t ∷ [])) s ≡ true) → (bytes_eq a s || among (known ++ (t ∷ [])) s) ≡ true
    go true e later = rw e refl
    go false e later = rw e (later (rw e at h))

among_itself : (known : List (List ℕ)) (s : List ℕ) → among (known ++ (s ∷ [])) s ≡ true
among_itself [] s = or_left _ _ ((bytes_eq-Decides s s).1 refl)
among_itself (a ∷ known) s = or_right (bytes_eq a s) _ (among_itself known s)

met_has : (known : List (List ℕ)) (s : List ℕ) → among (met known s) s ≡ true
met_has known s = cond_both (among known s) known (known ++ (s ∷ [])) (λ ks. among ks s ≡ true) (λ e. e) (λ e. among_itself known s)

met_in_keeps : (known : List (List ℕ)) (s : List ℕ) (t : Token) → among known s ≡ true → among (met_in known t) s ≡ true
met_in_keeps known s bar h = h
met_in_keeps known s ampersand h = h
met_in_keeps known s bang h = h
met_in_keeps known s asterisk h = h
met_in_keeps known s opening h = h
met_in_keeps known s closing h = h
met_in_keeps known s nought h = h
met_in_keeps known s one h = h
met_in_keeps known s dot h = h
met_in_keeps known s (bracket t) h = cond_both (among known t) known (known ++ (t ∷ [])) (λ ks. among ks s ≡ true) (λ e. h) (λ e. among_push known s t h)

atoms_keep : (ts : Lexed) (known : List (List ℕ)) (s : List ℕ) → among known s ≡ true → among (atoms_from known ts) s ≡ true
unfolding atoms_from
atoms_keep (end p) known s h = h
atoms_keep (bad f) known s h = h
atoms_keep (token t p ts) known s h = atoms_keep ts (met_in known t) s (met_in_keeps known s t h)

abbrev Below : (List ℕ → ℕ) → Token → Type 0
Below names bar = Unit {0}
Below names ampersand = Unit {0}
Below names bang = Unit {0}
Below names asterisk = Unit {0}
Below names opening = Unit {0}
Below names closing = Unit {0}
Below names nought = Unit {0}
Below names one = Unit {0}
Below names dot = Unit {0}
Below names (bracket s) = names s < 32

-- The brackets of a text whose atoms are at most 32.
head_below : (all known : List (List ℕ)) (t : Token) → length all ≤ 32 → ((s : List ℕ) → among (met_in known t) s ≡ true → among all s ≡ true) → Below (number_of all) t
head_below all known bar few kept = tt
head_below all known ampersand few kept = tt
head_below all known bang few kept = tt
head_below all known asterisk few kept = tt
head_below all known opening few kept = tt
head_below all known closing few kept = tt
head_below all known nought few kept = tt
head_below all known one few kept = tt
head_below all known dot few kept = tt
head_below all known (bracket s) few kept = let l = number_below all s (kept s (met_has known s)) in omega (arith, l, few)

all_below : (all : List (List ℕ)) → length all ≤ 32 → (spots : List Spot) (p : ℕ) (known : List (List ℕ)) →
    ((s : List ℕ) → among (atoms_from known (before spots (end p))) s ≡ true → among all s ≡ true) → AllByRecursion (Below (number_of all)) (tokens_in spots)
unfolding atoms_from
all_below all few [] p known kept = tt
all_below all few (x ∷ spots) p known kept = (
  head_below all known x.0 few (λ s h. kept s (atoms_keep (before spots (end p)) (met_in known x.0) s h)),
  all_below all few spots p (met_in known x.0) kept,
)

-- The two parts of what holds throughout a list.
all_front : (P : Token → Type 0) (us vs : List Token) → AllByRecursion P (us ++ vs) → AllByRecursion P us
all_front P [] vs h = tt
all_front P (u ∷ us) vs h = (h.0, all_front P us vs h.1)

all_back : (P : Token → Type 0) (us vs : List Token) → AllByRecursion P (us ++ vs) → AllByRecursion P vs
all_back P [] vs h = h
all_back P (u ∷ us) vs h = all_back P us vs h.1

few_atoms : (names : List ℕ → ℕ) {n : ℕ} {X : Level} {ts : List Token} {r : Rule} → Writes names n X ts r → AllByRecursion (Below names) ts → Few r
few_atoms names (either us vs e w x) h =
    let g = subst (AllByRecursion (Below names)) e h in (few_atoms names w (all_front _ us (bar ∷ vs) g), few_atoms names x (all_back _ us (bar ∷ vs) g).1)
few_atoms names (conjunction w) h = few_atoms names w h
few_atoms names (both us vs e w x) h =
    let g = subst (AllByRecursion (Below names)) e h in (few_atoms names w (all_front _ us (ampersand ∷ vs) g), few_atoms names x (all_back _ us (ampersand ∷ vs) g).1)
few_atoms names (sequenced w) h = few_atoms names w h
few_atoms names (followed us vs e w x) h =
    let g = subst (AllByRecursion (Below names)) e h in (few_atoms names w (all_front _ us vs g), few_atoms names x (all_back _ us vs g))
few_atoms names (prefixed w) h = few_atoms names w h
few_atoms names (negated us e w) h = let g = subst (AllByRecursion (Below names)) e h in few_atoms names w g.1
few_atoms names (plain w) h = few_atoms names w h
few_atoms names (repeated us e w) h = let g = subst (AllByRecursion (Below names)) e h in few_atoms names w (all_front _ us (asterisk ∷ []) g)
few_atoms names (base w) h = few_atoms names w h
few_atoms names (enclosed us e w) h = let g = subst (AllByRecursion (Below names)) e h in few_atoms names w (all_front _ us (closing ∷ []) g.1)
few_atoms names (no_list e) h = tt
few_atoms names (empty_list e) h = tt
few_atoms names (any_letter e) h = tt
few_atoms names (named s e) h = let g = subst (AllByRecursion (Below names)) e h in g.0

pub few_written : (text : List ℕ) (r : Rule) → Written text r → Few r
few_written text r w = few_atoms (number_of (atoms (lexed text))) w.writes
    (all_below (atoms (lexed text)) w.few w.spots (length text) [] (λ s h. subst (λ ts. among (atoms ts) s ≡ true) (sym w.lexes) h))
