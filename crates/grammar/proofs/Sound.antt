-- What is read is written.
--   Taken n X ts r us         the tokens of ts up to us write r, a form of the level X
--   Grown n X ws ts r us      the tokens ws and those of ts up to us write r
-- Assumes nothing.
use Rattle.std.proofs.Common.{◌≡◌, ℕ, zero, suc, Bool, true, false, List, [], ◌∷◌, ◌++◌, Ok, sym, refl, ap, ◌∙◌, append_assoc, append-nil}
use Rattle.languages.specs.Rules.{Rule, none, empty, any, atom, sequence, or, and, star, not}
use Rattle.grammar.specs.Tokens.{Token, bar, ampersand, bang, asterisk, opening, closing, nought, one, dot, bracket, Spot, Lexed, end, bad, token, before, tokens_in, rest, place, leads}
use Rattle.grammar.specs.Grammar.{Level, alternatives, conjunctions, sequences, prefixes, starred, bases, Writes, either, conjunction, both, sequenced, followed, prefixed, negated, plain, repeated, base, enclosed, no_list, empty_list, any_letter, named}
use Rattle.grammar.specs.Parsing.{Read, Reads, Grows, then, ahead, entered, joins, grown_by, not_by, closed_by, closed, base_by, bases_by, read_by, read, more}
use Rattle.grammar.proofs.Steps.{err_never, ok_parts, then_ok, past_ok, leads-is, before-append, tokens_in-append}

module _ (names : List ℕ → ℕ) where
  abbrev pub Taken : ℕ → Level → Lexed → Rule → Lexed → Type 0
  Taken n X ts r us = (spots : List Spot) × (ts ≡ before spots us) × Writes names n X (tokens_in spots) r

  abbrev pub Grown : ℕ → Level → List Token → Lexed → Rule → Lexed → Type 0
  Grown n X ws ts r us = (spots : List Spot) × (ts ≡ before spots us) × Writes names n X (ws ++ tokens_in spots) r

  writes_as : (n : ℕ) (X : Level) (us vs : List Token) (q r : Rule) → us ≡ vs → q ≡ r → Writes names n X us q → Writes names n X vs r
  writes_as n X us vs q r e f w = rw (← e, ← f) w

  taken_on : (n : ℕ) (X : Level) (s : List Spot) (ts ms us : Lexed) (r : Rule) → ts ≡ before s ms → Grown n X (tokens_in s) ms r us → Taken n X ts r us
  taken_on n X s ts ms us r is on =
      (s ++ on.0, is ∙ ap (before s) on.1 ∙ sym (before-append s on.0 us), rw (tokens_in-append s on.0) on.2)

  grown_on : (n : ℕ) (X : Level) (ws : List Token) (s : List Spot) (ts ms us : Lexed) (r : Rule) → ts ≡ before s ms → Grown n X (ws ++ tokens_in s) ms r us → Grown n X ws ts r us
  grown_on n X ws s ts ms us r is on =
      (s ++ on.0, is ∙ ap (before s) on.1 ∙ sym (before-append s on.0 us), rw (tokens_in-append s on.0, ← append_assoc) on.2)

  grown_none : (n : ℕ) (X : Level) (ws : List Token) (ts us : Lexed) (l r : Rule) → Writes names n X ws l → ◌≡◌ {A = Read} (Ok (l, ts)) (Ok (r, us)) → Grown n X ws ts r us
  grown_none n X ws ts us l r w h =
      let same = ok_parts l r ts us h in
      ([], same.1, rw (append-nil, ← same.0) w)

  module _ (rd : Reads) (mr : Grows)
      (rd-sound : (n : ℕ) (X : Level) (ts : Lexed) (r : Rule) (us : Lexed) → rd n X ts ≡ Ok (r, us) → Taken n X ts r us)
      (mr-sound : (n : ℕ) (X : Level) (ws : List Token) (l : Rule) (ts : Lexed) (r : Rule) (us : Lexed) → Writes names n X ws l → mr n X l ts ≡ Ok (r, us) → Grown n X ws ts r us) where
    -- A form that begins with one of the next tighter level.
    begun : (n : ℕ) (X Y : Level) (ts : Lexed) (r : Rule) (us : Lexed) → ((ws : List Token) (l : Rule) → Writes names n Y ws l → Writes names n X ws l) → then (rd n Y ts) (mr n X) ≡ Ok (r, us) → Taken n X ts r us
    begun n X Y ts r us as-looser h =
        let first = then_ok (rd n Y ts) (mr n X) (r, us) h in
        let m = first.0 in
        let taken = rd-sound n Y ts m.0 m.1 first.1 in
        taken_on n X taken.0 ts m.1 us r taken.1 (mr-sound n X (tokens_in taken.0) m.0 m.1 r us (as-looser _ _ taken.2) first.2)

    -- One operand more, and then as many as there are.
    operand : (n : ℕ) (X Y : Level) (make : Rule → Rule → Rule) (ws : List Token) (l : Rule) (s : List Spot) (ts ms : Lexed) (r : Rule) (us : Lexed) → ((vs : List Token) (q : Rule) → Writes names n Y vs q → Writes names n X (ws ++ (tokens_in s ++ vs)) (make l q)) → ts ≡ before s ms → then (rd n Y ms) (λ q vs. mr n X (make l q) vs) ≡ Ok (r, us) → Grown n X ws ts r us
    operand n X Y make ws l s ts ms r us as_one is h =
        let first = then_ok (rd n Y ms) (λ q vs. mr n X (make l q) vs) (r, us) h in
        let m = first.0 in
        let taken = rd-sound n Y ms m.0 m.1 first.1 in
        let w = as_one (tokens_in taken.0) m.0 taken.2 in
        grown_on n X ws s ts ms us r is (grown_on n X (ws ++ tokens_in s) taken.0 ms m.1 us r taken.1 (mr-sound n X _ (make l m.0) m.1 r us (rw append_assoc w) first.2))

    grown_sound : (n : ℕ) (X : Level) (ws : List Token) (l : Rule) (ts : Lexed) (r : Rule) (us : Lexed) (b : Bool) → joins X ts ≡ b → Writes names n X ws l → grown_by rd mr n X l ts b ≡ Ok (r, us) → Grown n X ws ts r us
    grown_sound n X ws l ts r us false is w h = grown_none n X ws ts us l r w h
    grown_sound n alternatives ws l ts r us true is w h =
        operand n alternatives conjunctions or ws l ((bar, place ts) ∷ []) ts (rest ts) r us (λ vs q v. either ws vs refl w v) (leads-is 124 bar ts refl is) (past_ok (rest ts) _ (r, us) h)
    grown_sound n conjunctions ws l ts r us true is w h =
        operand n conjunctions sequences and ws l ((ampersand, place ts) ∷ []) ts (rest ts) r us (λ vs q v. both ws vs refl w v) (leads-is 38 ampersand ts refl is) (past_ok (rest ts) _ (r, us) h)
    grown_sound n sequences ws l ts r us true is w h =
        operand n sequences prefixes sequence ws l [] ts ts r us (λ vs q v. followed ws vs refl w v) refl h
    grown_sound n prefixes ws l ts r us true is w h = grown_none n prefixes ws ts us l r w h
    grown_sound n starred ws l ts r us true is w h =
        grown_on n starred ws ((asterisk, place ts) ∷ []) ts (rest ts) us r (leads-is 42 asterisk ts refl is) (mr-sound n starred _ (star l) (rest ts) r us (repeated ws refl w) (past_ok (rest ts) _ (r, us) h))
    grown_sound n bases ws l ts r us true is w h = grown_none n bases ws ts us l r w h

    not_sound : (n : ℕ) (ts : Lexed) (r : Rule) (us : Lexed) (b : Bool) → leads 33 ts ≡ b → not_by rd n ts b ≡ Ok (r, us) → Taken n prefixes ts r us
    not_sound n ts r us false is h =
        let taken = rd-sound n starred ts r us h in
        (taken.0, taken.1, plain taken.2)
    not_sound zero ts r us true is h = absurd (err_never _ (r, us) h)
    not_sound (suc n) ts r us true is h =
        let first = then_ok (rd n prefixes (rest ts)) (λ q vs. Ok (not q, vs)) (r, us) (past_ok (rest ts) _ (r, us) h) in
        let m = first.0 in
        let taken = rd-sound n prefixes (rest ts) m.0 m.1 first.1 in
        let same = ok_parts (not m.0) r m.1 us first.2 in
        ((bang, place ts) ∷ taken.0, leads-is 33 bang ts refl is ∙ ap (token bang (place ts)) (taken.1 ∙ ap (before taken.0) same.1), writes_as (suc n) prefixes _ _ _ r refl same.0 (negated (tokens_in taken.0) refl taken.2))

    leaf : (n : ℕ) (t : Token) (l : Rule) (p : ℕ) (ts : Lexed) (r : Rule) (us : Lexed) → Writes names n bases (t ∷ []) l → ahead l ts ≡ Ok (r, us) → Taken n bases (token t p ts) r us
    leaf n t l p ts r us w h =
        let same = ok_parts l r ts us (past_ok ts _ (r, us) h) in
        ((t, p) ∷ [], ap (token t p) same.1, rw (← same.0) w)

    closed_sound : (q : Rule) (ms : Lexed) (r : Rule) (us : Lexed) (b : Bool) → leads 41 ms ≡ b → closed_by q ms b ≡ Ok (r, us) → (q ≡ r) × (ms ≡ token closing (place ms) us)
    closed_sound q ms r us true is h =
        let same = ok_parts q r (rest ms) us (past_ok (rest ms) _ (r, us) h) in
        (same.0, leads-is 41 closing ms refl is ∙ ap (token closing (place ms)) same.1)
    closed_sound q ms r us false is h = absurd (err_never _ (r, us) h)

    enclosed_sound : (n p : ℕ) (ts : Lexed) (r : Rule) (us : Lexed) → entered n (token opening p ts) (λ m vs. then (rd m alternatives vs) closed) ≡ Ok (r, us) → Taken n bases (token opening p ts) r us
    enclosed_sound zero p ts r us h = absurd (err_never _ (r, us) h)
    enclosed_sound (suc n) p ts r us h =
        let first = then_ok (rd n alternatives ts) closed (r, us) (past_ok ts _ (r, us) h) in
        let m = first.0 in
        let taken = rd-sound n alternatives ts m.0 m.1 first.1 in
        let shut = closed_sound m.0 m.1 r us (leads 41 m.1) refl first.2 in
        let last = (closing, place m.1) ∷ [] in
        ((opening, p) ∷ (taken.0 ++ last), ap (token opening p) (taken.1 ∙ ap (before taken.0) shut.1 ∙ sym (before-append taken.0 last us)), writes_as (suc n) bases _ _ _ r (ap (λ vs. opening ∷ vs) (sym (tokens_in-append taken.0 last))) shut.0 (enclosed (tokens_in taken.0) refl taken.2))

    base_sound : (n : ℕ) (t : Token) (p : ℕ) (ts : Lexed) (r : Rule) (us : Lexed) → base_by rd names n t p ts ≡ Ok (r, us) → Taken n bases (token t p ts) r us
    base_sound n bar p ts r us h = absurd (err_never _ (r, us) h)
    base_sound n ampersand p ts r us h = absurd (err_never _ (r, us) h)
    base_sound n bang p ts r us h = absurd (err_never _ (r, us) h)
    base_sound n asterisk p ts r us h = absurd (err_never _ (r, us) h)
    base_sound n opening p ts r us h = enclosed_sound n p ts r us h
    base_sound n closing p ts r us h = absurd (err_never _ (r, us) h)
    base_sound n nought p ts r us h = leaf n nought none p ts r us (no_list refl) h
    base_sound n one p ts r us h = leaf n one empty p ts r us (empty_list refl) h
    base_sound n dot p ts r us h = leaf n dot any p ts r us (any_letter refl) h
    base_sound n (bracket s) p ts r us h = leaf n (bracket s) (atom (names s)) p ts r us (named s refl) h

    bases_sound : (n : ℕ) (ts : Lexed) (r : Rule) (us : Lexed) → bases_by rd names n ts ≡ Ok (r, us) → Taken n bases ts r us
    bases_sound n (end p) r us h = absurd (err_never _ (r, us) h)
    bases_sound n (bad f) r us h = absurd (err_never _ (r, us) h)
    bases_sound n (token t p ts) r us h = base_sound n t p ts r us h

    step_sound : (n : ℕ) (X : Level) (ts : Lexed) (r : Rule) (us : Lexed) → read_by rd mr names n X ts ≡ Ok (r, us) → Taken n X ts r us
    step_sound n alternatives ts r us h = begun n alternatives conjunctions ts r us (λ ws l w. conjunction w) h
    step_sound n conjunctions ts r us h = begun n conjunctions sequences ts r us (λ ws l w. sequenced w) h
    step_sound n sequences ts r us h = begun n sequences prefixes ts r us (λ ws l w. prefixed w) h
    step_sound n prefixes ts r us h = not_sound n ts r us (leads 33 ts) refl h
    step_sound n starred ts r us h = begun n starred bases ts r us (λ ws l w. base w) h
    step_sound n bases ts r us h = bases_sound n ts r us h

  mutual
    unfolding read more

    pub read_sound : (k n : ℕ) (X : Level) (ts : Lexed) (r : Rule) (us : Lexed) → read k names n X ts ≡ Ok (r, us) → Taken n X ts r us
    read_sound zero n X ts r us h = absurd (err_never _ (r, us) h)
    read_sound (suc k) n X ts r us h = step_sound (read k names) (more k names) (read_sound k) (more_sound k) n X ts r us h

    pub more_sound : (k n : ℕ) (X : Level) (ws : List Token) (l : Rule) (ts : Lexed) (r : Rule) (us : Lexed) → Writes names n X ws l → more k names n X l ts ≡ Ok (r, us) → Grown n X ws ts r us
    more_sound zero n X ws l ts r us w h = absurd (err_never _ (r, us) h)
    more_sound (suc k) n X ws l ts r us w h = grown_sound (read k names) (more k names) (read_sound k) (more_sound k) n X ws l ts r us (joins X ts) refl w h
