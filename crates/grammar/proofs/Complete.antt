-- What is written is read: from the first token of a form on, reading comes to its rule and stands behind its last.
--   rank X              how many calls stand between a form of the level X and a base
--   Fair ts             ts does not begin with what is no token
--   Come n X k c ts r us  reading ts as a form of the level X with the fuel k is going on from r at us, with at most c
--                       of the fuel spent
--   Reach n X us r      that is so for tokens us with anything behind them that goes on no form tighter than X
--   Whole n X us r      reading them ends with r, with anything behind them that goes on no form of the level X
-- Assumes nothing.
use Rattle.std.proofs.Common.{◌≡◌, ℕ, zero, suc, ◌+◌, ◌*◌, ◌<◌, ◌≤◌, true, false, eqb, List, [], ◌∷◌, ◌++◌, length, Ok, refl, ap, ◌∙◌, arith, length-append}
use Rattle.std.proofs.lemmas.Bool.{and_parts, not-true}
use Rattle.languages.specs.Rules.{Rule, none, empty, any, atom, sequence, or, and, star, not as opposite}
use Rattle.grammar.specs.Tokens.{Token, bar, ampersand, bang, asterisk, opening, closing, nought, one, dot, bracket, Spot, Lexed, token, before, tokens_in, sign, begins, leads, opens}
use Rattle.grammar.specs.Grammar.{Level, alternatives, conjunctions, sequences, prefixes, starred, bases, Writes, either, conjunction, both, sequenced, followed, prefixed, negated, plain, repeated, base, enclosed, no_list, empty_list, any_letter, named}
use Rattle.grammar.specs.Parsing.{Read, then, past, ahead, joins, closed, read, more}
use Rattle.grammar.proofs.Steps.{before-append}
use Rattle.grammar.proofs.Beginning.{Begun, begun, begun_some, tighter, Stops, stops_here, stops_tighter, begins_no_star, first_spot, split_spots}

abbrev pub rank : Level → ℕ
rank alternatives = 5
rank conjunctions = 4
rank sequences = 3
rank prefixes = 2
rank starred = 1
rank bases = 0

abbrev pub Fair : Lexed → Type 0
Fair ts = (f : Lexed → Read) → past ts f ≡ f ts

fair_before : (s : List Spot) (ts : Lexed) → Fair ts → Fair (before s ts)
fair_before [] ts fair = fair
fair_before (x ∷ s) ts fair = λ f. refl

none_spotted : (s : List Spot) → tokens_in s ≡ [] → s ≡ []
none_spotted [] h = refl
none_spotted (x ∷ s) h = cc

before_split : (s u v : List Spot) (ts : Lexed) → s ≡ u ++ v → before s ts ≡ before u (before v ts)
before_split s u v ts e = ap (λ x. before x ts) e ∙ before-append u v ts

-- A token among spots, with its place.
before_token : (spots s u v : List Spot) (t : Token) (p : ℕ) (ts : Lexed) → spots ≡ s ++ u → u ≡ (t, p) ∷ v → before spots ts ≡ before s (token t p (before v ts))
before_token spots s u v t p ts e f = before_split spots s u ts e ∙ ap (λ x. before s (before x ts)) f

last_token : (spots s u v : List Spot) (t : Token) (p : ℕ) (ts : Lexed) → spots ≡ s ++ u → u ≡ (t, p) ∷ v → tokens_in v ≡ [] → before spots ts ≡ before s (token t p ts)
last_token spots s u v t p ts e f none_left = before_token spots s u [] t p ts e (f ∙ ap (λ x. (t, p) ∷ x) (none_spotted v none_left))

-- A form that is not negated does not begin with `!`.
begun_plain : (us : List Token) (spots : List Spot) (ts : Lexed) → tokens_in spots ≡ us → Begun starred us → leads 33 (before spots ts) ≡ false
begun_plain us spots ts is b =
    let first = first_spot b.0 b.1 spots (is ∙ b.2) in
    ap (λ s. leads 33 (before s ts)) first.2 ∙ not-true (eqb (sign b.0) 33) (and_parts (begins b.0) _ b.3).1

-- An operand goes on a sequence, and no star.
begun_operand : (us : List Token) (spots : List Spot) (ts : Lexed) → tokens_in spots ≡ us → Begun prefixes us → (opens (before spots ts) ≡ true) × (leads 42 (before spots ts) ≡ false)
begun_operand us spots ts is b =
    let first = first_spot b.0 b.1 spots (is ∙ b.2) in
    (ap (λ s. opens (before s ts)) first.2 ∙ b.3, ap (λ s. leads 42 (before s ts)) first.2 ∙ begins_no_star b.0 b.3)

module _ (names : List ℕ → ℕ) where
  abbrev pub Come : ℕ → Level → ℕ → ℕ → Lexed → Rule → Lexed → Type 0
  Come n X k c ts r us = (j : ℕ) × (k ≤ j + c) × (read k names n X ts ≡ more j names n X r us)

  abbrev pub Reach : ℕ → Level → List Token → Rule → Type 0
  Reach n X us r = (spots : List Spot) (rest : Lexed) (k : ℕ) → tokens_in spots ≡ us → Fair rest → Stops (tighter X) rest → 8 * length us + rank X < k → Come n X k (length us) (before spots rest) r rest

  abbrev pub Whole : ℕ → Level → List Token → Rule → Type 0
  Whole n X us r = (spots : List Spot) (rest : Lexed) (k : ℕ) → tokens_in spots ≡ us → Fair rest → Stops X rest → 8 * length us + rank X < k → read k names n X (before spots rest) ≡ Ok (r, rest)

  more_stops : (j n : ℕ) (X : Level) (r : Rule) (ts : Lexed) → 0 < j → joins X ts ≡ false → more j names n X r ts ≡ Ok (r, ts)
  unfolding read more
  more_stops zero n X r ts h is = absurd (omega arith)
  more_stops (suc j) n X r ts h is = rw is refl

  ends : (n : ℕ) (X : Level) (us : List Token) (r : Rule) → Reach n X us r → Whole n X us r
  ends n X us r reach spots rest k is fair stops enough =
      let come = reach spots rest k is fair (stops_tighter X rest stops) enough in
      come.2 ∙ more_stops come.0 n X r rest (omega arith) (stops_here X rest stops)

  -- A form of the next tighter level.
  widen : (n : ℕ) (X Y : Level) (us : List Token) (r : Rule) → ((k : ℕ) (ts : Lexed) → read (suc k) names n X ts ≡ then (read k names n Y ts) (more k names n X)) → rank Y < rank X → 1 ≤ length us → Whole n Y us r → (spots : List Spot) (rest : Lexed) (k : ℕ) → tokens_in spots ≡ us → Fair rest → Stops Y rest → 8 * length us + rank X < k → Come n X k (length us) (before spots rest) r rest
  widen n X Y us r step less some inner spots rest zero is fair stops enough = absurd (omega arith)
  widen n X Y us r step less some inner spots rest (suc k) is fair stops enough =
      (k, omega arith, step k (before spots rest) ∙ ap (λ m. then m (more k names n X)) (inner spots rest k is fair stops (omega arith)))

  -- One turn of going on, over c tokens.
  turn_by : (n : ℕ) (X : Level) (k a c j : ℕ) (l t : Rule) (ts ms us : Lexed) → 1 ≤ c → 8 * (a + c) + rank X < k → k ≤ j + a → read k names n X ts ≡ more j names n X l ms → ((i : ℕ) → 8 * c + rank X ≤ i → more (suc i) names n X l ms ≡ more i names n X t us) → Come n X k (a + c) ts t us
  turn_by n X k a c zero l t ts ms us some enough bound e step = absurd (omega arith)
  turn_by n X k a c (suc j) l t ts ms us some enough bound e step = (j, omega arith, e ∙ step j (omega arith))

  turn : (n : ℕ) (X : Level) (k a c : ℕ) (l t : Rule) (ts ms us : Lexed) → 1 ≤ c → 8 * (a + c) + rank X < k → Come n X k a ts l ms → ((i : ℕ) → 8 * c + rank X ≤ i → more (suc i) names n X l ms ≡ more i names n X t us) → Come n X k (a + c) ts t us
  turn n X k a c l t ts ms us some enough come step = turn_by n X k a c come.0 l t ts ms us some enough come.1 come.2 step

  come_as : (n : ℕ) (X : Level) (k c d : ℕ) (ts us ms : Lexed) (r : Rule) → ts ≡ us → d ≡ c → Come n X k c us r ms → Come n X k d ts r ms
  come_as n X k c d ts us ms r e size come = (come.0, omega (arith, come.1), ap (λ x. read k names n X x) e ∙ come.2)

  more_or : (j n p : ℕ) (l q : Rule) (ms us : Lexed) → Fair ms → read j names n conjunctions ms ≡ Ok (q, us) → more (suc j) names n alternatives l (token bar p ms) ≡ more j names n alternatives (or l q) us
  unfolding read more
  more_or j n p l q ms us fair e = fair _ ∙ ap (λ m. then m (λ x vs. more j names n alternatives (or l x) vs)) e

  more_and : (j n p : ℕ) (l q : Rule) (ms us : Lexed) → Fair ms → read j names n sequences ms ≡ Ok (q, us) → more (suc j) names n conjunctions l (token ampersand p ms) ≡ more j names n conjunctions (and l q) us
  unfolding read more
  more_and j n p l q ms us fair e = fair _ ∙ ap (λ m. then m (λ x vs. more j names n conjunctions (and l x) vs)) e

  more_sequence : (j n : ℕ) (l q : Rule) (ms us : Lexed) → opens ms ≡ true → read j names n prefixes ms ≡ Ok (q, us) → more (suc j) names n sequences l ms ≡ more j names n sequences (sequence l q) us
  unfolding read more
  more_sequence j n l q ms us is e = rw is (ap (λ m. then m (λ x vs. more j names n sequences (sequence l x) vs)) e)

  more_star : (j n p : ℕ) (l : Rule) (us : Lexed) → Fair us → more (suc j) names n starred l (token asterisk p us) ≡ more j names n starred (star l) us
  unfolding read more
  more_star j n p l us fair = fair _

  -- Two operands with a sign between them.
  signed : (n : ℕ) (X Y : Level) (t : Token) (make : Rule → Rule → Rule) (ts us vs : List Token) (l q : Rule) → ((j p : ℕ) (ms us : Lexed) → Fair ms → read j names n Y ms ≡ Ok (q, us) → more (suc j) names n X l (token t p ms) ≡ more j names n X (make l q) us) → rank Y < rank X → ((p : ℕ) (ms : Lexed) → Stops (tighter X) (token t p ms)) → ts ≡ us ++ (t ∷ vs) → Reach n X us l → Whole n Y vs q → (spots : List Spot) (rest : Lexed) (k : ℕ) → tokens_in spots ≡ ts → Fair rest → Stops Y rest → 8 * length ts + rank X < k → Come n X k (length ts) (before spots rest) (make l q) rest
  signed n X Y t make ts us vs l q step less stop e first second spots rest k is fair stops enough =
      let parts = split_spots us (t ∷ vs) spots (is ∙ e) in
      let later = first_spot t vs parts.1 parts.4 in
      let p = later.0 in
      let ms = before later.1 rest in
      let cut = before_token spots parts.0 parts.1 later.1 t p rest parts.2 later.2 in
      let size : length ts ≡ length us + suc (length vs) = ap length e ∙ length-append us (t ∷ vs) in
      let come = first parts.0 (token t p ms) k parts.3 (λ f. refl) (stop p ms) (omega arith) in
      come_as n X k (length us + suc (length vs)) (length ts) (before spots rest) (before parts.0 (token t p ms)) rest (make l q) cut size
      (turn n X k (length us) (suc (length vs)) l (make l q) _ (token t p ms) rest (omega arith) (omega arith) come
      (λ i room. step i p ms rest (fair_before later.1 rest fair) (second later.1 rest i later.3 fair stops (omega arith))))

  -- Two operands with nothing between them.
  following : (n : ℕ) (ts us vs : List Token) (l q : Rule) → ts ≡ us ++ vs → Reach n sequences us l → Begun prefixes vs → Whole n prefixes vs q → Reach n sequences ts (sequence l q)
  following n ts us vs l q e first b second spots rest k is fair stops enough =
      let parts = split_spots us vs spots (is ∙ e) in
      let ms = before parts.1 rest in
      let head = begun_operand vs parts.1 rest parts.4 b in
      let size : length ts ≡ length us + length vs = ap length e ∙ length-append us vs in
      let come = first parts.0 ms k parts.3 (fair_before parts.1 rest fair) head.1 (omega arith) in
      let cut = before_split spots parts.0 parts.1 rest parts.2 in
      come_as n sequences k (length us + length vs) (length ts) (before spots rest) (before parts.0 ms) rest (sequence l q) cut size
      (turn n sequences k (length us) (length vs) l (sequence l q) _ ms rest (begun_some prefixes vs b) (omega arith) come
      (λ i room. more_sequence i n l q ms rest head.0 (second parts.1 rest i parts.4 fair stops (omega arith))))

  repeating : (n : ℕ) (ts us : List Token) (l : Rule) → ts ≡ us ++ (asterisk ∷ []) → Reach n starred us l → Reach n starred ts (star l)
  repeating n ts us l e first spots rest k is fair stops enough =
      let parts = split_spots us (asterisk ∷ []) spots (is ∙ e) in
      let later = first_spot asterisk [] parts.1 parts.4 in
      let p = later.0 in
      let cut = last_token spots parts.0 parts.1 later.1 asterisk p rest parts.2 later.2 later.3 in
      let size : length ts ≡ length us + 1 = ap length e ∙ length-append us (asterisk ∷ []) in
      let come = first parts.0 (token asterisk p rest) k parts.3 (λ f. refl) tt (omega arith) in
      come_as n starred k (length us + 1) (length ts) (before spots rest) (before parts.0 (token asterisk p rest)) rest (star l) cut size
      (turn n starred k (length us) 1 l (star l) _ (token asterisk p rest) rest (omega arith) (omega arith) come (λ i room. more_star i n p l rest fair))

  unnegated : (n : ℕ) (us : List Token) (r : Rule) → Begun starred us → Whole n starred us r → Reach n prefixes us r
  unfolding read more
  unnegated n us r b inner spots rest zero is fair stops enough = absurd (omega arith)
  unnegated n us r b inner spots rest (suc k) is fair stops enough =
      (suc k, omega arith, rw (begun_plain us spots rest is b) (inner spots rest k is fair stops (omega arith)))

  negating : (n : ℕ) (ts us : List Token) (r : Rule) → ts ≡ bang ∷ us → Whole n prefixes us r → Reach (suc n) prefixes ts (opposite r)
  unfolding read more
  negating n ts us r e inner spots rest zero is fair stops enough = absurd (omega arith)
  negating n ts us r e inner spots rest (suc k) is fair stops enough =
      let first = first_spot bang us spots (is ∙ e) in
      let ms = before first.1 rest in
      let size : length ts ≡ suc (length us) = ap length e in
      let cut : before spots rest ≡ token bang first.0 ms = ap (λ s. before s rest) first.2 in
      let enters : read (suc k) names (suc n) prefixes (token bang first.0 ms) ≡ then (read k names n prefixes ms) (λ q vs. Ok (opposite q, vs)) = fair_before first.1 rest fair _ in
      (suc k, omega arith, ap (λ x. read (suc k) names (suc n) prefixes x) cut ∙ enters ∙ ap (λ m. then m (λ q vs. Ok (opposite q, vs))) (inner first.1 rest k first.3 fair stops (omega arith)))

  enclosing : (n : ℕ) (ts us : List Token) (r : Rule) → ts ≡ opening ∷ (us ++ (closing ∷ [])) → Whole n alternatives us r → Reach (suc n) bases ts r
  unfolding read more
  enclosing n ts us r e inner spots rest zero is fair stops enough = absurd (omega arith)
  enclosing n ts us r e inner spots rest (suc k) is fair stops enough =
      let first = first_spot opening (us ++ (closing ∷ [])) spots (is ∙ e) in
      let parts = split_spots us (closing ∷ []) first.1 first.3 in
      let last = first_spot closing [] parts.1 parts.4 in
      let shut = token closing last.0 rest in
      let ms = before parts.0 shut in
      let size : length ts ≡ suc (length us + 1) = ap length e ∙ ap suc (length-append us (closing ∷ [])) in
      let inside = last_token first.1 parts.0 parts.1 last.1 closing last.0 rest parts.2 last.2 last.3 in
      let cut : before spots rest ≡ token opening first.0 ms = ap (λ s. before s rest) first.2 ∙ ap (token opening first.0) inside in
      let enters : read (suc k) names (suc n) bases (token opening first.0 ms) ≡ then (read k names n alternatives ms) closed = fair_before parts.0 shut (λ f. refl) _ in
      let within = inner parts.0 shut k parts.3 (λ f. refl) (refl, (refl, (refl, refl))) (omega arith) in
      (suc k, omega arith, ap (λ x. read (suc k) names (suc n) bases x) cut ∙ enters ∙ ap (λ m. then m closed) within ∙ fair _)

  leaf : (n : ℕ) (t : Token) (ts : List Token) (r : Rule) → ((k p : ℕ) (us : Lexed) → read (suc k) names n bases (token t p us) ≡ ahead r us) → ts ≡ t ∷ [] → Reach n bases ts r
  unfolding read more
  leaf n t ts r step e spots rest zero is fair stops enough = absurd (omega arith)
  leaf n t ts r step e spots rest (suc k) is fair stops enough =
      let first = first_spot t [] spots (is ∙ e) in
      let cut = last_token spots [] spots first.1 t first.0 rest refl first.2 first.3 in
      (suc k, omega arith, ap (λ x. read (suc k) names n bases x) cut ∙ step k first.0 rest ∙ fair _)

  pub reach : {n : ℕ} {X : Level} {ts : List Token} {r : Rule} → Writes names n X ts r → Reach n X ts r
  unfolding read more
  reach {n} {ts = ts} (either {r = l} {q = q} us vs e v w) =
      signed n alternatives conjunctions bar or ts us vs l q (λ j p ms rest. more_or j n p l q ms rest) (omega arith) (λ p ms. (refl, (refl, refl))) e (reach v) (ends n conjunctions vs q (reach w))
  reach {n} {ts = ts} {r} (conjunction w) = widen n alternatives conjunctions ts r (λ k us. refl) (omega arith) (begun_some conjunctions ts (begun names w)) (ends n conjunctions ts r (reach w))
  reach {n} {ts = ts} (both {r = l} {q = q} us vs e v w) =
      signed n conjunctions sequences ampersand and ts us vs l q (λ j p ms rest. more_and j n p l q ms rest) (omega arith) (λ p ms. (refl, refl)) e (reach v) (ends n sequences vs q (reach w))
  reach {n} {ts = ts} {r} (sequenced w) = widen n conjunctions sequences ts r (λ k us. refl) (omega arith) (begun_some sequences ts (begun names w)) (ends n sequences ts r (reach w))
  reach {n} {ts = ts} (followed {r = l} {q = q} us vs e v w) = following n ts us vs l q e (reach v) (begun names w) (ends n prefixes vs q (reach w))
  reach {n} {ts = ts} {r} (prefixed w) = widen n sequences prefixes ts r (λ k us. refl) (omega arith) (begun_some prefixes ts (begun names w)) (ends n prefixes ts r (reach w))
  reach {ts = ts} (negated {n = m} {r = l} us e w) = negating m ts us l e (ends m prefixes us l (reach w))
  reach {n} {ts = ts} {r} (plain w) = unnegated n ts r (begun names w) (ends n starred ts r (reach w))
  reach {n} {ts = ts} (repeated {r = l} us e w) = repeating n ts us l e (reach w)
  reach {n} {ts = ts} {r} (base w) = widen n starred bases ts r (λ k us. refl) (omega arith) (begun_some bases ts (begun names w)) (ends n bases ts r (reach w))
  reach {ts = ts} {r} (enclosed {n = m} us e w) = enclosing m ts us r e (ends m alternatives us r (reach w))
  reach {n} {ts = ts} (no_list e) = leaf n nought ts none (λ k p us. refl) e
  reach {n} {ts = ts} (empty_list e) = leaf n one ts empty (λ k p us. refl) e
  reach {n} {ts = ts} (any_letter e) = leaf n dot ts any (λ k p us. refl) e
  reach {n} {ts = ts} (named s e) = leaf n (bracket s) ts (atom (names s)) (λ k p us. refl) e

  pub read_complete : (n : ℕ) (X : Level) (us : List Token) (r : Rule) → Writes names n X us r → Whole n X us r
  read_complete n X us r w = ends n X us r (reach w)
