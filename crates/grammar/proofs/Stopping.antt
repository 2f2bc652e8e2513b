-- Reading goes as far as it can: what is left behind a form goes on no form of its level or tighter.
-- Assumes nothing.
use Rattle.std.proofs.Common.{◌≡◌, ℕ, zero, suc, Bool, true, false, List, Ok, refl}
use Rattle.languages.specs.Rules.{Rule, sequence, or, and, star, not}
use Rattle.grammar.specs.Tokens.{Lexed, rest, leads}
use Rattle.grammar.specs.Grammar.{Level, alternatives, conjunctions, sequences, prefixes, starred, bases}
use Rattle.grammar.specs.Parsing.{Read, Reads, Grows, then, joins, grown_by, not_by, read_by, read, more}
use Rattle.grammar.proofs.Steps.{err_never, ok_parts, then_ok, past_ok}
use Rattle.grammar.proofs.Beginning.{tighter, Stops}

module _ (names : List ℕ → ℕ) where
  module _ (rd : Reads) (mr : Grows)
      (rd-stops : (n : ℕ) (X : Level) (ts : Lexed) (r : Rule) (us : Lexed) → rd n X ts ≡ Ok (r, us) → Stops X us)
      (mr-stops : (n : ℕ) (X : Level) (l : Rule) (ts : Lexed) (r : Rule) (us : Lexed) → Stops (tighter X) ts → mr n X l ts ≡ Ok (r, us) → Stops X us) where
    operand_stops : (n : ℕ) (X : Level) (make : Rule → Rule) (ts : Lexed) (r : Rule) (us : Lexed) → then (rd n (tighter X) ts) (λ q vs. mr n X (make q) vs) ≡ Ok (r, us) → Stops X us
    operand_stops n X make ts r us h =
        let first = then_ok (rd n (tighter X) ts) (λ q vs. mr n X (make q) vs) (r, us) h in
        let m = first.0 in
        mr-stops n X (make m.0) m.1 r us (rd-stops n (tighter X) ts m.0 m.1 first.1) first.2

    same_stops : (X : Level) (l r : Rule) (ts us : Lexed) → Stops X ts → ◌≡◌ {A = Read} (Ok (l, ts)) (Ok (r, us)) → Stops X us
    same_stops X l r ts us s h = rw (← (ok_parts l r ts us h).1) s

    all_stops : (X : Level) (ts : Lexed) → joins X ts ≡ false → Stops (tighter X) ts → Stops X ts
    all_stops alternatives ts is s = (is, s)
    all_stops conjunctions ts is s = (is, s)
    all_stops sequences ts is s = (is, s)
    all_stops prefixes ts is s = s
    all_stops starred ts is s = is
    all_stops bases ts is s = tt

    grown_stops : (n : ℕ) (X : Level) (l : Rule) (ts : Lexed) (r : Rule) (us : Lexed) (b : Bool) → joins X ts ≡ b → Stops (tighter X) ts → grown_by rd mr n X l ts b ≡ Ok (r, us) → Stops X us
    grown_stops n X l ts r us false is s h = same_stops X l r ts us (all_stops X ts is s) h
    grown_stops n alternatives l ts r us true is s h = operand_stops n alternatives (or l) (rest ts) r us (past_ok (rest ts) _ (r, us) h)
    grown_stops n conjunctions l ts r us true is s h = operand_stops n conjunctions (and l) (rest ts) r us (past_ok (rest ts) _ (r, us) h)
    grown_stops n sequences l ts r us true is s h = operand_stops n sequences (sequence l) ts r us h
    grown_stops n prefixes l ts r us true is s h = same_stops prefixes l r ts us s h
    grown_stops n starred l ts r us true is s h = mr-stops n starred (star l) (rest ts) r us tt (past_ok (rest ts) _ (r, us) h)
    grown_stops n bases l ts r us true is s h = tt

    not_stops : (n : ℕ) (ts : Lexed) (r : Rule) (us : Lexed) (b : Bool) → not_by rd n ts b ≡ Ok (r, us) → Stops prefixes us
    not_stops n ts r us false h = rd-stops n starred ts r us h
    not_stops zero ts r us true h = absurd (err_never _ (r, us) h)
    not_stops (suc n) ts r us true h =
        let first = then_ok (rd n prefixes (rest ts)) (λ q vs. Ok (not q, vs)) (r, us) (past_ok (rest ts) _ (r, us) h) in
        let m = first.0 in
        same_stops prefixes (not m.0) r m.1 us (rd-stops n prefixes (rest ts) m.0 m.1 first.1) first.2

    step_stops : (n : ℕ) (X : Level) (ts : Lexed) (r : Rule) (us : Lexed) → read_by rd mr names n X ts ≡ Ok (r, us) → Stops X us
    step_stops n alternatives ts r us h = operand_stops n alternatives (λ q. q) ts r us h
    step_stops n conjunctions ts r us h = operand_stops n conjunctions (λ q. q) ts r us h
    step_stops n sequences ts r us h = operand_stops n sequences (λ q. q) ts r us h
    step_stops n prefixes ts r us h = not_stops n ts r us (leads 33 ts) h
    step_stops n starred ts r us h = operand_stops n starred (λ q. q) ts r us h
    step_stops n bases ts r us h = tt

  mutual
    unfolding read more

    pub read_stops : (k n : ℕ) (X : Level) (ts : Lexed) (r : Rule) (us : Lexed) → read k names n X ts ≡ Ok (r, us) → Stops X us
    read_stops zero n X ts r us h = absurd (err_never _ (r, us) h)
    read_stops (suc k) n X ts r us h = step_stops (read k names) (more k names) (read_stops k) (more_stops k) n X ts r us h

    more_stops : (k n : ℕ) (X : Level) (l : Rule) (ts : Lexed) (r : Rule) (us : Lexed) → Stops (tighter X) ts → more k names n X l ts ≡ Ok (r, us) → Stops X us
    more_stops zero n X l ts r us s h = absurd (err_never _ (r, us) h)
    more_stops (suc k) n X l ts r us s h = grown_stops (read k names) (more k names) (read_stops k) (more_stops k) n X l ts r us (joins X ts) refl s h
