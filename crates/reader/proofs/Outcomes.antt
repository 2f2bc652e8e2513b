-- What reading comes to, from what its steps come to.
-- Assumes nothing.
use Rattle.std.proofs.Common.{◌≡◌, ℕ, suc, ◌*◌, List, [], ◌++◌, length, take, drop, Some, None, Ok, Err, Option, Result, sym, refl, ap, ◌∙◌, append_assoc, arith}
use Rattle.std.proofs.lemmas.List.{take_all, take-append-drop}
use Rattle.languages.specs.Rules.{Rule}
use Rattle.refusals.specs.Questions.{first_no}
use Rattle.refusals.specs.declared.Refusal.{Refusal}
use Rattle.grammar.specs.Atoms.{atoms, horizon_in, number_of, tokens, within}
use Rattle.grammar.specs.Grammar.{alternatives}
use Rattle.grammar.specs.Lexing.{lexed, lexed_from}
use Rattle.grammar.specs.Parsing.{Read, parsed_text, read, whole, wholly}
use Rattle.grammar.specs.Tokens.{Lexed, end, bad, token}
use Rattle.grammar.proofs.OneTree.{text_sound}
use Rattle.nodes.specs.declared.node.Node.{Node}
use Rattle.nodes.specs.Entering.{Held, Out, entered, held, bind_by}
use Rattle.nodes.specs.Trees.{entered_tree}
use Rattle.surveys.specs.declared.entry.Entry.{Entry}
use Rattle.surveys.specs.declared.reader.Reader.{Reader}
use Rattle.surveys.specs.Entries.{entries, listed, texts_in}
use Rattle.passes.specs.Passing.{Step, checked, ended, ended_by, ended_of, names_of, passed_into, read_into, settled}
use Rattle.reader.specs.Reading.{Outcome, after_asking, after_entering, after_parsing, filled, first_held, passing, read_text, room_asked, rooted, slice}
use Rattle.surveys.specs.Surveying.{Surveyed}
use Rattle.reader.proofs.Checking.{checks, numbered}
use Rattle.reader.proofs.Filling.{enters, placed}
use Rattle.reader.proofs.Numbered.{entries_are, entries_few}

-- A pass in the words of the text alone, but for the numbers of its atoms.
passed_as : (step : Step) (s : Reader) (text : List ℕ) (h : Held) → s.text.now ≡ text → s.horizon ≡ horizon_in text → passed_into step s h ≡ ended (read_into (8 * suc (length text)) step (names_of s) 32 alternatives (tokens text) h)
passed_as step s text h e f =
    ap (λ x. ended (read_into (8 * suc (length x)) step (names_of s) 32 alternatives (within s.horizon (lexed_from x 0)) h)) e
    ∙ ap (λ p. ended (read_into (8 * suc (length text)) step (names_of s) 32 alternatives (within p (lexed text)) h)) f

-- Checking.
abbrev pub checked_of : Result Rule Refusal → Result ℕ Refusal
checked_of (Ok r) = Ok 0
checked_of (Err f) = Err f

ended-whole : (r : Rule) (ts : Lexed) → ended_by 0 ts ≡ checked_of (whole r ts)
ended-whole r (end p) = refl
ended-whole r (bad f) = refl
ended-whole r (token t p ts) = refl

ended_checked : (m : Read) → ended_of (numbered m) ≡ checked_of (wholly m)
ended_checked (Ok x) = ended-whole x.0 x.1
ended_checked (Err f) = refl

pub passed_check : (s : Reader) (text : List ℕ) (h : Held) → Surveyed text s → (passed_into checked s h).0 ≡ checked_of (parsed_text text)
passed_check s text h known =
    let others = number_of (atoms (lexed text)) in
    let k = 8 * suc (length text) in
    ap (λ o. o.0) (passed_as checked s text h known.text_is known.horizon-is)
    ∙ ap (λ a. ended_of a.0) (checks k (names_of s) others 32 alternatives (tokens text) h)
    ∙ ended_checked (read k others 32 alternatives (tokens text))

-- Entering.
wholly_end : (m : Read) (r : Rule) → wholly m ≡ Ok r → (p : ℕ) × (m ≡ Ok (r, end p))
wholly_end (Err f) r e = absurd (grind arith)
wholly_end (Ok x) r e = by x.1 refl e
  where
    by : (ts : Lexed) → x.1 ≡ ts → whole x.0 ts ≡ Ok r → (p : ℕ) × (◌≡◌ {A = Read} (Ok x) (Ok (r, end p)))
    by (end p) is h = let same : x.0 ≡ r = cc in (p, λ i. Ok (same i, is i))
    by (bad f) is h = absurd (grind arith)
    by (token t p ts) is h = absurd (grind arith)

ended-placed : (o : Out) (p : ℕ) → ended (placed o (end p)) ≡ o
ended-placed o p = by o.0 o.1
  where
    by : (a : Result ℕ Refusal) (h : Held) → ◌≡◌ {A = Out} (ended (bind_by a h (λ n g. (Ok (n, end p), g)))) (a, h)
    by (Ok n) h = refl
    by (Err e) h = refl

module _ (s : Reader) (text : List ℕ) (known : Surveyed text s) (r : Rule) (is : parsed_text text ≡ Ok r) where
  listed_are : listed s.atoms ≡ entries (lexed text)
  listed_are = known.atoms_are ∙ take_all 32 (entries (lexed text)) (entries_few text (text_sound text r is).few)

  names_are : names_of s ≡ number_of (atoms (lexed text))
  names_are =
      ap (λ es. number_of (texts_in s.text.now es)) listed_are
      ∙ ap (λ x. number_of (texts_in x (entries (lexed text)))) known.text_is
      ∙ ap (λ known. number_of known) (entries_are text)

  passed_enter : (h : Held) → passed_into entered s h ≡ entered_tree r h
  passed_enter h =
      let k = 8 * suc (length text) in
      let names = number_of (atoms (lexed text)) in
      let came = wholly_end (read k names 32 alternatives (tokens text)) r is in
      passed_as entered s text h known.text_is known.horizon-is
      ∙ ap (λ f. ended (read_into k entered f 32 alternatives (tokens text) h)) names_are
      ∙ ap ended (enters k names 32 alternatives (tokens text) r (end came.0) h came.1)
      ∙ ended-placed (entered_tree r h) came.0

-- The whole.
slice-held : (items : List Node) (n : ℕ) → slice (held items n) ≡ items
unfolding held
slice-held items n =
    sym (append_assoc (take n (take 4096 items)) (drop n (take 4096 items)) (drop 4096 items))
    ∙ ap (λ xs. xs ++ drop 4096 items) (take-append-drop n (take 4096 items)) ∙ take-append-drop 4096 items

count_held : (items : List Node) (n : ℕ) → (held items n).count ≡ n
unfolding held
count_held items n = refl

asked_no : (o : Option Refusal) (f : Refusal) → Err f ≡ passing o → o ≡ Some f
asked_no None f e = cc
asked_no (Some g) f e = cc

asked_yes : (o : Option Refusal) → Ok tt ≡ passing o → o ≡ None
asked_yes None e = refl
asked_yes (Some g) e = cc

refused_is : (m : Result Rule Refusal) (f : Refusal) → Err f ≡ settled (checked_of m) → m ≡ Err f
refused_is (Ok r) f e = cc
refused_is (Err g) f e = cc

read_is : (m : Result Rule Refusal) → Ok tt ≡ settled (checked_of m) → (r : Rule) × (m ≡ Ok r)
read_is (Ok r) e = (r, refl)
read_is (Err g) e = absurd (grind arith)

module _ (text : List ℕ) (items : List Node) (es : List Entry) where
  pub outcome_asked : (f : Refusal) → Err f ≡ passing (first_no (room_asked (length text) (length items) (length es))) → ◌≡◌ {A = Outcome} (Err f, items, es) (read_text text items es)
  outcome_asked f e = sym (ap (after_asking text items es) (asked_no _ f e))

  module _ (room : Ok tt ≡ passing (first_no (room_asked (length text) (length items) (length es)))) (s : Reader) (known : Surveyed text s) where
    passed_room : read_text text items es ≡ after_parsing text items es (parsed_text text)
    passed_room = ap (after_asking text items es) (asked_yes _ room)

    pub outcome_refused : (f : Refusal) → Err f ≡ settled (passed_into checked s (held [] 0)).0 → ◌≡◌ {A = Outcome} (Err f, items, es) (read_text text items es)
    outcome_refused f e = sym (passed_room ∙ ap (after_parsing text items es) (refused_is (parsed_text text) f (e ∙ ap settled (passed_check s text (held [] 0) known))))

    module _ (yes-all : Ok tt ≡ settled (passed_into checked s (held [] 0)).0) (more left : List Node) (n : ℕ) (lent : left ≡ more) (places : List Entry) (wrote : places ≡ filled (listed s.atoms) es) where
      entered_as : (a : Result ℕ Refusal) → ◌≡◌ {A = Out} (a, held more n) (passed_into entered s (first_held items)) → rooted (listed s.atoms) es a (held more n) ≡ read_text text items es
      entered_as a whole =
          let came = read_is (parsed_text text) (yes-all ∙ ap settled (passed_check s text (held [] 0) known)) in
          sym (passed_room ∙ ap (after_parsing text items es) came.1
          ∙ ap (λ o. after_entering (entries (lexed text)) es o) (sym (whole ∙ passed_enter s text known came.0 came.1 (first_held items)))
          ∙ ap (λ new. after_entering new es (a, held more n)) (sym (listed_are s text known came.0 came.1)))

      pub outcome_full : (f : Refusal) → ◌≡◌ {A = Out} (Err f, held more n) (passed_into entered s (first_held items)) → ◌≡◌ {A = Outcome} (Err f, left, places) (read_text text items es)
      outcome_full f whole =
          let as-left : ◌≡◌ {A = Outcome} (Err f, left, places) (rooted (listed s.atoms) es (Err f) (held more n)) = λ i. (Err f, (lent ∙ sym (slice-held more n)) i, wrote i) in
          as-left ∙ entered_as (Err f) whole

      pub outcome_done : (q found : ℕ) → found ≡ length (listed s.atoms) → ◌≡◌ {A = Out} (Ok q, held more n) (passed_into entered s (first_held items)) → ◌≡◌ {A = Outcome} (Ok (record { root = q; nodes = n; atoms = found }), left, places) (read_text text items es)
      outcome_done q found number whole =
          let as-left : ◌≡◌ {A = Outcome} (Ok (record { root = q; nodes = n; atoms = found }), left, places) (rooted (listed s.atoms) es (Ok q) (held more n)) = λ i. (Ok (record { root = q; nodes = sym (count_held more n) i; atoms = number i }), (lent ∙ sym (slice-held more n)) i, wrote i) in
          as-left ∙ entered_as (Ok q) whole
