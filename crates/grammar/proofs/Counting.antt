-- Counting atoms refuses a bracket exactly where a text has more than 32 of them.
--   Headed h t p ts spots e   spots begin with t at the place p, which is not refused, and those of ts follow up to e
-- Assumes nothing.
use Rattle.std.proofs.Common.{◌≡◌, ℕ, ◌<◌, ◌≤◌, Bool, true, false, cond, eqb, ltb, List, [], ◌∷◌, ◌++◌, length, refl, ap, ◌∙◌, arith}
use Rattle.std.proofs.lemmas.List.{length_push}
use Rattle.std.proofs.lemmas.Bool.{cond_both, cond-false, ltb-true, ltb-false, le-ltb, ne_eqb, eq-eqb, and_right, and_from, both_ways}
use Rattle.refusals.specs.Questions.{refusing}
use Rattle.refusals.specs.declared.Question.TheVariants.{AtomCount}
use Rattle.refusals.specs.declared.Refusal.{Refusal}
use Rattle.grammar.specs.Tokens.{Token, bar, ampersand, bang, asterisk, opening, closing, nought, one, dot, bracket, Spot, Lexed, end, bad, token, before, sign}
use Rattle.grammar.specs.Atoms.{among, met, met_in, atoms_from, horizon_from, beyond, within}
use Rattle.grammar.proofs.Cutting.{Placed}

met_longer : (known : List (List ℕ)) (s : List ℕ) → length known ≤ length (met known s)
met_longer known s = cond_both (among known s) known (known ++ (s ∷ [])) (λ x. length known ≤ length x) (λ e. omega arith) (λ e. omega (arith, length_push known s))

met_in_longer : (known : List (List ℕ)) (t : Token) → length known ≤ length (met_in known t)
met_in_longer known bar = omega arith
met_in_longer known ampersand = omega arith
met_in_longer known bang = omega arith
met_in_longer known asterisk = omega arith
met_in_longer known opening = omega arith
met_in_longer known closing = omega arith
met_in_longer known nought = omega arith
met_in_longer known one = omega arith
met_in_longer known dot = omega arith
met_in_longer known (bracket s) = met_longer known s

-- Only a bracket is counted.
sign_if_longer : (known : List (List ℕ)) (t : Token) → length known < length (met_in known t) → sign t ≡ 91
sign_if_longer known bar h = absurd (omega arith)
sign_if_longer known ampersand h = absurd (omega arith)
sign_if_longer known bang h = absurd (omega arith)
sign_if_longer known asterisk h = absurd (omega arith)
sign_if_longer known opening h = absurd (omega arith)
sign_if_longer known closing h = absurd (omega arith)
sign_if_longer known nought h = absurd (omega arith)
sign_if_longer known one h = absurd (omega arith)
sign_if_longer known dot h = absurd (omega arith)
sign_if_longer known (bracket s) h = refl

atoms_from_longer : (known : List (List ℕ)) (ts : Lexed) → length known ≤ length (atoms_from known ts)
unfolding atoms_from
atoms_from_longer known (end p) = omega arith
atoms_from_longer known (bad r) = omega arith
atoms_from_longer known (token t p ts) = let h = met_in_longer known t in let l = atoms_from_longer (met_in known t) ts in omega arith

pub horizon_far : (known : List (List ℕ)) (e : ℕ) (ts : Lexed) → length (atoms_from known ts) ≤ 32 → horizon_from known e ts ≡ e
unfolding atoms_from horizon_from
horizon_far known e (end p) h = refl
horizon_far known e (bad r) h = refl
horizon_far known e (token t p ts) h =
    let l = atoms_from_longer (met_in known t) ts in
    cond-false _ _ _ (le-ltb 32 (length (met_in known t)) (omega arith)) ∙ horizon_far (met_in known t) e ts h

pub within_far : (e : ℕ) (ts : Lexed) → Placed e ts → within e ts ≡ ts
unfolding within
within_far e (end p) h = refl
within_far e (bad r) h = refl
within_far e (token t p ts) h =
    cond-false _ _ _ (and_right (eqb (sign t) 91) _ (ne_eqb p e (λ same. omega arith))) ∙ ap (token t p) (within_far e ts h.1)

-- What tokens that come to the end begin with.
bad_never : (r : Refusal) (spots : List Spot) (e : ℕ) → bad r ≡ before spots (end e) → ⊥
bad_never r [] e h = grind arith
bad_never r (s ∷ spots) e h = grind arith

token_first : (t : Token) (p : ℕ) (ts : Lexed) (spots : List Spot) (e : ℕ) → token t p ts ≡ before spots (end e) → (later : List Spot) × (spots ≡ (t, p) ∷ later) × (ts ≡ before later (end e))
token_first t p ts [] e h = absurd (grind arith)
token_first t p ts (s ∷ later) e h =
    let a : s.0 ≡ t = cc in
    let b : s.1 ≡ p = cc in
    (later, λ i. (a i, b i) ∷ later, cc)

abbrev Headed : ℕ → Token → ℕ → Lexed → List Spot → ℕ → Type 0
Headed h t p ts spots e = (beyond h t p ≡ false) × ((later : List Spot) × (spots ≡ (t, p) ∷ later) × (within h ts ≡ before later (end e)))

headed_by : (h : ℕ) (t : Token) (p : ℕ) (ts : Lexed) (spots : List Spot) (e : ℕ) (b : Bool) → beyond h t p ≡ b → cond b (bad (refusing AtomCount p)) (token t p (within h ts)) ≡ before spots (end e) → Headed h t p ts spots e
headed_by h t p ts spots e true is whole = absurd (bad_never _ spots e whole)
headed_by h t p ts spots e false is whole = (is, token_first t p (within h ts) spots e whole)

headed : (h : ℕ) (t : Token) (p : ℕ) (ts : Lexed) (spots : List Spot) (e : ℕ) → within h (token t p ts) ≡ before spots (end e) → Headed h t p ts spots e
unfolding within
headed h t p ts spots e whole = headed_by h t p ts spots e (beyond h t p) refl whole

pub within_spots : (h : ℕ) (ts : Lexed) (spots : List Spot) (e : ℕ) → within h ts ≡ before spots (end e) → ts ≡ before spots (end e)
unfolding within
within_spots h (end p) spots e whole = whole
within_spots h (bad r) spots e whole = whole
within_spots h (token t p ts) spots e whole =
    let first = (headed h t p ts spots e whole).1 in
    rw first.1 (ap (token t p) (within_spots h ts first.0 e first.2))

few_by : (known : List (List ℕ)) (f : ℕ) (t : Token) (p : ℕ) (ts : Lexed) (spots : List Spot) (e : ℕ) (b : Bool) → length known ≤ 32 → ltb 32 (length (met_in known t)) ≡ b → within (cond b p (horizon_from (met_in known t) f ts)) (token t p ts) ≡ before spots (end e) → (later : List Spot) × (length (met_in known t) ≤ 32) × (within (horizon_from (met_in known t) f ts) ts ≡ before later (end e))
few_by known f t p ts spots e true few is whole =
    let more = ltb-true 32 (length (met_in known t)) is in
    let refused = and_from (eqb (sign t) 91) (eqb p p) (eq-eqb _ 91 (sign_if_longer known t (omega arith))) (eq-eqb p p refl) in
    absurd (both_ways (beyond p t p) (headed p t p ts spots e whole).0 refused)
few_by known f t p ts spots e false few is whole =
    let first = (headed (horizon_from (met_in known t) f ts) t p ts spots e whole).1 in
    (first.0, ltb-false 32 (length (met_in known t)) is, first.2)

pub within_few : (known : List (List ℕ)) (f : ℕ) (ts : Lexed) (spots : List Spot) (e : ℕ) → length known ≤ 32 → within (horizon_from known f ts) ts ≡ before spots (end e) → length (atoms_from known ts) ≤ 32
unfolding atoms_from horizon_from
within_few known f (end p) spots e few whole = few
within_few known f (bad r) spots e few whole = few
within_few known f (token t p ts) spots e few whole =
    let go = few_by known f t p ts spots e (ltb 32 (length (met_in known t))) few refl whole in
    within_few (met_in known t) f ts go.0 e go.1 go.2
