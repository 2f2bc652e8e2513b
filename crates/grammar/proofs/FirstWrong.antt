-- The theorem: a text that the grammar does not allow is refused at its first token that nothing written goes on with.
--   Elsewhere f     f refuses another question than what the grammar allows
--   Cut ts, Piecewise x  so does what is told where no token can be told
--   Spotted s p ts  the machine goes over ts from the state s up to the place p, and no further
-- Assumes nothing.
use Rattle.std.proofs.Common.{◌≡◌, ℕ, zero, suc, ◌+◌, ◌*◌, ◌<◌, ◌≤◌, true, false, eqb, ltb, List, [], ◌∷◌, ◌++◌, length, get_or, Some, None, Ok, Err, Option, Result, sym, refl, ap, ◌∙◌, subst, true≢false, arith}
use Rattle.std.proofs.lemmas.Bool.{cond_both}
use Rattle.refusals.specs.Questions.{numbered, refusing}
use Rattle.refusals.specs.declared.Question.TheVariants.{GrammarAllows}
use Rattle.refusals.specs.declared.Refusal.{Refusal}
use Rattle.grammar.specs.Tokens.{Token, Spot, Lexed, end, bad, token, before, tokens_in}
use Rattle.grammar.specs.Lexing.{Piece, bare, bare_at, closing_at, start_at, lexed_at, onward_by, onward, lex_from, lexed}
use Rattle.grammar.specs.Atoms.{atoms, number_of, horizon_in, beyond, within, tokens}
use Rattle.grammar.specs.FirstWrong.{FirstWrong, at_token, at_end, FirstWrongIsTold}
use Rattle.grammar.proofs.Cutting.{size, size-lex_from}
use Rattle.grammar.proofs.Scanning.{State, failed, wants, has, step, scan, alive, ended, scan_append, written_scans}
use Rattle.grammar.proofs.Faults.{FaultBy, Fault, rule_fault}
use Rattle.grammar.proofs.Filling.{alive_begins, failed_begins}

abbrev Elsewhere : Refusal → Type 0
Elsewhere f = numbered f.question ≡ 5 → ⊥

abbrev Cut : Lexed → Type 0
Cut (end p) = Unit {0}
Cut (bad f) = Elsewhere f
Cut (token t p ts) = Cut ts

abbrev Piecewise : Result Piece Refusal → Type 0
Piecewise (Ok x) = Unit {0}
Piecewise (Err f) = Elsewhere f

bare_piece : (start : ℕ) (o : Option Token) → Piecewise (bare_at start o)
bare_piece start (Some t) = tt
bare_piece start None = λ z. omega arith

piece : (text : List ℕ) (at : ℕ) → Piecewise (lexed_at text at)
piece text at = cond_both (ltb (start_at text at) (length text)) _ _ Piecewise
    (λ e. cond_both (eqb (get_or text (start_at text at) 0) 91) _ _ Piecewise
    (λ f. cond_both (ltb (closing_at text (start_at text at + 1)) (length text)) _ _ Piecewise (λ g. tt) (λ g z. omega arith))
    (λ f. bare_piece (start_at text at) (bare (get_or text (start_at text at) 0))))
    (λ e. tt)

onward_by_cut : (f : ℕ → Lexed) → ((q : ℕ) → Cut (f q)) → (o : Option Token) (p q : ℕ) → Cut (onward_by f o p q)
onward_by_cut f later None p q = tt
onward_by_cut f later (Some t) p q = later q

onward_cut : (f : ℕ → Lexed) → ((q : ℕ) → Cut (f q)) → (x : Result Piece Refusal) → Piecewise x → Cut (onward f x)
onward_cut f later (Err e) h = h
onward_cut f later (Ok x) h = onward_by_cut f later x.0 x.1 x.2

lexed_cut : (k : ℕ) (text : List ℕ) (at : ℕ) → Cut (lex_from k text at)
unfolding lex_from
lexed_cut zero text at = tt
lexed_cut (suc k) text at = onward_cut (lex_from k text) (lexed_cut k text) (lexed_at text at) (piece text at)

within_cut : (h : ℕ) (ts : Lexed) → Cut ts → Cut (within h ts)
unfolding within
within_cut h (end p) c = tt
within_cut h (bad f) c = c
within_cut h (token t p ts) c = cond_both (beyond h t p) _ _ Cut (λ e z. omega arith) (λ e. within_cut h ts c)

within_shorter : (h : ℕ) (ts : Lexed) → size (within h ts) ≤ size ts
unfolding within
within_shorter h (end p) = omega arith
within_shorter h (bad f) = omega arith
within_shorter h (token t p ts) = cond_both (beyond h t p) _ _ (λ us. size us ≤ suc (size ts)) (λ e. omega arith) (λ e. omega (arith, within_shorter h ts))

data Spotted (s : State) (p : ℕ) (ts : Lexed) : Type 0 where
  wrong : (spots : List Spot) (t : Token) (rest : Lexed) → ts ≡ before spots (token t p rest) → alive (scan s (tokens_in spots)) ≡ true → step (scan s (tokens_in spots)) t ≡ failed → Spotted s p ts
  short : (spots : List Spot) → ts ≡ before spots (end p) → alive (scan s (tokens_in spots)) ≡ true → ended (scan s (tokens_in spots)) ≡ false → Spotted s p ts

spotted_later : (s : State) (p : ℕ) (t : Token) (q : ℕ) (ts : Lexed) → Spotted (step s t) p ts → Spotted s p (token t q ts)
spotted_later s p t q ts (wrong spots u rest is a h) = wrong ((t, q) ∷ spots) u rest (ap (token t q) is) a h
spotted_later s p t q ts (short spots is a h) = short ((t, q) ∷ spots) (ap (token t q) is) a h

same_place : (p q : ℕ) → refusing GrammarAllows p ≡ refusing GrammarAllows q → q ≡ p
same_place p q h = sym (ap (λ f. f.place) h)

spotted_by : (s : State) (p : ℕ) (t : Token) (q : ℕ) (ts : Lexed) (u : State) → step s t ≡ u → alive s ≡ true → (alive u ≡ true → Fault (refusing GrammarAllows p) u ts → Spotted u p ts) → FaultBy (refusing GrammarAllows p) u q (Fault (refusing GrammarAllows p) u ts) → Spotted s p (token t q ts)
spotted_by s p t q ts failed is a go h = wrong [] t ts (ap (λ x. token t x ts) (same_place p q h)) a is
spotted_by s p t q ts (wants d) is a go h = spotted_later s p t q ts (subst (λ u. Spotted u p ts) (sym is) (go refl h))
spotted_by s p t q ts (has d) is a go h = spotted_later s p t q ts (subst (λ u. Spotted u p ts) (sym is) (go refl h))

spotted : (s : State) (p : ℕ) (ts : Lexed) → Cut ts → alive s ≡ true → Fault (refusing GrammarAllows p) s ts → Spotted s p ts
spotted s p (end q) c a h = short [] (ap end (same_place p q h.1)) a h.0
spotted s p (bad f) c a h = absurd (c (sym (ap (λ e. numbered e.question) h)))
spotted s p (token t q ts) c a h = spotted_by s p t q ts (step s t) refl a (spotted (step s t) p ts c) h

first_wrong_by : (names : List ℕ → ℕ) (p : ℕ) (ts : Lexed) → Spotted (wants 0) p ts → FirstWrong names p ts
first_wrong_by names p ts (wrong spots t rest is a h) =
    at_token spots t rest is (alive_begins names (tokens_in spots) a) (failed_begins names (tokens_in spots ++ (t ∷ [])) (scan_append (wants 0) (tokens_in spots) (t ∷ []) ∙ h))
first_wrong_by names p ts (short spots is a h) =
    at_end spots is (alive_begins names (tokens_in spots) a) (λ n r w. true≢false (sym (ap ended (written_scans names w 0)) ∙ h))

pub first_wrong : FirstWrongIsTold
first_wrong text p h =
    let names = number_of (atoms (lexed text)) in
    let small : 8 * size (tokens text) + 5 < 8 * suc (length text) = omega (arith, within_shorter (horizon_in text) (lexed text), size-lex_from (suc (length text)) text 0) in
    let cut = within_cut (horizon_in text) (lexed text) (lexed_cut (suc (length text)) text 0) in
    let fault = rule_fault (refusing GrammarAllows p) names (8 * suc (length text)) 32 (tokens text) small (λ z. absurd (omega arith)) h in
    first_wrong_by names p (tokens text) (spotted (wants 0) p (tokens text) cut refl fault)
