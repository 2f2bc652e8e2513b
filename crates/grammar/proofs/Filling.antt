-- What the machine goes over can be filled up to something written, and what it fails at cannot.
--   unplaced ts     the tokens ts, each at the place 0
--   held ts         the tokens of ts without their places
-- Assumes nothing.
use Rattle.std.proofs.Common.{◌≡◌, ℕ, ◌+◌, ◌*◌, true, List, [], ◌∷◌, ◌++◌, map, Ok, Err, sym, refl, ap, ◌∙◌, subst, true≢false, arith}
use Rattle.languages.specs.Rules.{Rule}
use Rattle.refusals.specs.Questions.{refusing}
use Rattle.refusals.specs.declared.Question.TheVariants.{GrammarAllows}
use Rattle.refusals.specs.declared.Refusal.{Refusal}
use Rattle.grammar.specs.Tokens.{Token, Spot, Lexed, end, bad, token, before, tokens_in}
use Rattle.grammar.specs.Grammar.{alternatives, Writes}
use Rattle.grammar.specs.Parsing.{Read, read, wholly}
use Rattle.grammar.specs.FirstWrong.{Begins}
use Rattle.grammar.proofs.Cutting.{size}
use Rattle.grammar.proofs.Sound.{read_sound}
use Rattle.grammar.proofs.Scanning.{State, failed, wants, has, step, scan, alive, ended, scan_append, scan_failed, written_scans, fill, fill_ends}
use Rattle.grammar.proofs.Faults.{FaultBy, Fault, rule_fault}

failed_never : (ts : List Token) → scan failed ts ≡ has 0 → ⊥
failed_never ts h = true≢false (ap alive (sym h ∙ scan_failed ts))

never_by : (f : Refusal) (s : State) (ts : List Token) (p : ℕ) (later : Type 0) → scan s ts ≡ has 0 → (later → ⊥) → FaultBy f s p later → ⊥
never_by f failed ts p later h go fault = failed_never ts h
never_by f (wants d) ts p later h go fault = go fault
never_by f (has d) ts p later h go fault = go fault

-- Nothing is wrong with tokens over which the machine comes to an end.
fault_never : (f : Refusal) (s : State) (spots : List Spot) (p : ℕ) → scan s (tokens_in spots) ≡ has 0 → Fault f s (before spots (end p)) → ⊥
fault_never f s [] p h fault = true≢false (sym (ap ended h) ∙ fault.0)
fault_never f s (x ∷ spots) p h fault = never_by f (step s x.0) (tokens_in spots) x.1 _ h (fault_never f (step s x.0) spots p h) fault

abbrev unplaced : List Token → List Spot
unplaced ts = map (λ t. (t, 0)) ts

unplaced_tokens : (ts : List Token) → tokens_in (unplaced ts) ≡ ts
unplaced_tokens [] = refl
unplaced_tokens (t ∷ ts) = ap (λ us. t ∷ us) (unplaced_tokens ts)

abbrev held : Lexed → List Token
held (end p) = []
held (bad f) = []
held (token t p ts) = t ∷ held ts

held-before : (spots : List Spot) (p : ℕ) → held (before spots (end p)) ≡ tokens_in spots
held-before [] p = refl
held-before (s ∷ spots) p = ap (λ us. s.0 ∷ us) (held-before spots p)

module _ (names : List ℕ → ℕ) where
  abbrev Written : List Token → Type 0
  Written ts = (n : ℕ) × (r : Rule) × Writes names n alternatives ts r

  -- Reading with a level and fuel enough for every token has nothing to refuse.
  module _ (ts : List Token) (passes : scan (wants 0) ts ≡ has 0) where
    abbrev all : Lexed
    all = before (unplaced ts) (end 0)

    abbrev reading : Read
    reading = read (8 * size all + 6) names (size all) alternatives all

    refused_never : (f : Refusal) → wholly reading ≡ Err f → ⊥
    refused_never f h =
        fault_never f (wants 0) (unplaced ts) 0 (ap (scan (wants 0)) (unplaced_tokens ts) ∙ passes) (rule_fault f names (8 * size all + 6) (size all) all (omega arith) (λ z. omega arith) h)

    written_ok : (r : Rule) (us : Lexed) → reading ≡ Ok (r, us) → Written ts
    written_ok r (end p) is =
        let taken = read_sound names (8 * size all + 6) (size all) alternatives all r (end p) is in
        let same : tokens_in taken.0 ≡ ts = sym (held-before taken.0 p) ∙ sym (ap held taken.1) ∙ held-before (unplaced ts) 0 ∙ unplaced_tokens ts in
        (size all, r, subst (λ us. Writes names (size all) alternatives us r) same taken.2)
    written_ok r (bad f) is = absurd (refused_never f (ap wholly is))
    written_ok r (token t p us) is = absurd (refused_never (refusing GrammarAllows p) (ap wholly is))

    written_by : (m : Read) → reading ≡ m → Written ts
    written_by (Ok x) is = written_ok x.0 x.1 is
    written_by (Err f) is = absurd (refused_never f (ap wholly is))

    written : Written ts
    written = written_by reading refl

  pub alive_begins : (us : List Token) → alive (scan (wants 0) us) ≡ true → Begins names us
  alive_begins us a =
      let s = scan (wants 0) us in
      let whole = written (us ++ fill s) (scan_append (wants 0) us (fill s) ∙ fill_ends s a) in
      (whole.0, fill s, whole.1, whole.2)

  pub failed_begins : (us : List Token) → scan (wants 0) us ≡ failed → Begins names us → ⊥
  failed_begins us h b = failed_never b.1 (sym (ap (λ s. scan s b.1) h) ∙ sym (scan_append (wants 0) us b.1) ∙ written_scans names b.3 0)
