-- A machine that goes over tokens and knows only how many parentheses are open and whether an operand is due.
--   State           wants d: an operand is due, with d parentheses open; has d: none is due; failed: nothing written goes on
--   due d t, done d t     the state behind t where an operand is due, and where none is; left d is that behind a `)`
--   step s t, scan s ts   the state behind one token, and behind some
--   alive s         s is not failed
--   ended s         the tokens may end in s
--   shut d, fill s  d closing parentheses; tokens that lead from s to where tokens may end
-- Assumes nothing.
use Rattle.std.proofs.Common.{◌≡◌, ℕ, zero, suc, Bool, true, false, List, [], ◌∷◌, ◌++◌, sym, refl, ap, ◌∙◌}
use mathlib.Core.Bool.{false≢true}
use Rattle.languages.specs.Rules.{Rule}
use Rattle.grammar.specs.Tokens.{Token, bar, ampersand, bang, asterisk, opening, closing, nought, one, dot, bracket, begins}
use Rattle.grammar.specs.Grammar.{Level, prefixes, Writes, either, conjunction, both, sequenced, followed, prefixed, negated, plain, repeated, base, enclosed, no_list, empty_list, any_letter, named}
use Rattle.grammar.proofs.Beginning.{Begun, begun}

pub data State : Type 0 where
  failed : State
  wants has : ℕ → State

abbrev pub due : ℕ → Token → State
due d bar = failed
due d ampersand = failed
due d bang = wants d
due d asterisk = failed
due d opening = wants (suc d)
due d closing = failed
due d nought = has d
due d one = has d
due d dot = has d
due d (bracket s) = has d

abbrev pub left : ℕ → State
left zero = failed
left (suc d) = has d

abbrev pub done : ℕ → Token → State
done d bar = wants d
done d ampersand = wants d
done d bang = wants d
done d asterisk = has d
done d opening = wants (suc d)
done d closing = left d
done d nought = has d
done d one = has d
done d dot = has d
done d (bracket s) = has d

abbrev pub step : State → Token → State
step failed t = failed
step (wants d) t = due d t
step (has d) t = done d t

abbrev pub scan : State → List Token → State
scan s [] = s
scan s (t ∷ ts) = scan (step s t) ts

abbrev pub alive : State → Bool
alive failed = false
alive (wants d) = true
alive (has d) = true

abbrev pub ended : State → Bool
ended failed = false
ended (wants d) = false
ended (has zero) = true
ended (has (suc d)) = false

pub scan_append : (s : State) (us vs : List Token) → scan s (us ++ vs) ≡ scan (scan s us) vs
scan_append s [] vs = refl
scan_append s (t ∷ us) vs = scan_append (step s t) us vs

pub scan_failed : (ts : List Token) → scan failed ts ≡ failed
scan_failed [] = refl
scan_failed (t ∷ ts) = scan_failed ts

-- What is alive was so before.
pub alive_back : (s : State) (ts : List Token) → alive (scan s ts) ≡ true → alive s ≡ true
alive_back failed ts h = sym (ap alive (scan_failed ts)) ∙ h
alive_back (wants d) ts h = refl
alive_back (has d) ts h = refl

-- A token that can begin an operand does so wherever it stands.
pub due_done : (d : ℕ) (t : Token) → begins t ≡ true → done d t ≡ due d t
due_done d bar h = absurd (false≢true h)
due_done d ampersand h = absurd (false≢true h)
due_done d bang h = refl
due_done d asterisk h = absurd (false≢true h)
due_done d opening h = refl
due_done d closing h = absurd (false≢true h)
due_done d nought h = refl
due_done d one h = refl
due_done d dot h = refl
due_done d (bracket s) h = refl

scan_operand : (d : ℕ) (vs : List Token) → Begun prefixes vs → scan (wants d) vs ≡ has d → scan (has d) vs ≡ has d
scan_operand d vs b h = ap (scan (has d)) b.2 ∙ ap (λ s. scan s b.1) (due_done d b.0 b.3) ∙ ap (scan (wants d)) (sym b.2) ∙ h

-- Over tokens in two parts, the second from the state that the first leaves.
scan_parts : (s m e : State) (ts us vs : List Token) → ts ≡ us ++ vs → scan s us ≡ m → scan m vs ≡ e → scan s ts ≡ e
scan_parts s m e ts us vs is h l = ap (scan s) is ∙ scan_append s us vs ∙ ap (λ x. scan x vs) h ∙ l

-- Whatever is written is one operand.
pub written_scans : (names : List ℕ → ℕ) {n : ℕ} {X : Level} {ts : List Token} {r : Rule} → Writes names n X ts r → (d : ℕ) → scan (wants d) ts ≡ has d
written_scans names {ts = ts} (either us vs e v w) d = scan_parts (wants d) (has d) (has d) ts us (bar ∷ vs) e (written_scans names v d) (written_scans names w d)
written_scans names (conjunction w) d = written_scans names w d
written_scans names {ts = ts} (both us vs e v w) d = scan_parts (wants d) (has d) (has d) ts us (ampersand ∷ vs) e (written_scans names v d) (written_scans names w d)
written_scans names (sequenced w) d = written_scans names w d
written_scans names {ts = ts} (followed us vs e v w) d = scan_parts (wants d) (has d) (has d) ts us vs e (written_scans names v d) (scan_operand d vs (begun names w) (written_scans names w d))
written_scans names (prefixed w) d = written_scans names w d
written_scans names (negated us e w) d = ap (scan (wants d)) e ∙ written_scans names w d
written_scans names (plain w) d = written_scans names w d
written_scans names {ts = ts} (repeated us e w) d = scan_parts (wants d) (has d) (has d) ts us (asterisk ∷ []) e (written_scans names w d) refl
written_scans names (base w) d = written_scans names w d
written_scans names (enclosed us e w) d = ap (scan (wants d)) e ∙ scan_parts (wants (suc d)) (has (suc d)) (has d) _ us (closing ∷ []) refl (written_scans names w (suc d)) refl
written_scans names (no_list e) d = ap (scan (wants d)) e
written_scans names (empty_list e) d = ap (scan (wants d)) e
written_scans names (any_letter e) d = ap (scan (wants d)) e
written_scans names (named s e) d = ap (scan (wants d)) e

abbrev pub shut : ℕ → List Token
shut zero = []
shut (suc d) = closing ∷ shut d

abbrev pub fill : State → List Token
fill failed = []
fill (wants d) = nought ∷ shut d
fill (has d) = shut d

shut_ends : (d : ℕ) → scan (has d) (shut d) ≡ has 0
shut_ends zero = refl
shut_ends (suc d) = shut_ends d

pub fill_ends : (s : State) → alive s ≡ true → scan s (fill s) ≡ has 0
fill_ends failed h = absurd (false≢true h)
fill_ends (wants d) h = shut_ends d
fill_ends (has d) h = shut_ends d
