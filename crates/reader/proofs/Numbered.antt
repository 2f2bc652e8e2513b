-- The entries of a text's atoms speak of the atoms.
-- Assumes nothing.
use Rattle.std.proofs.Common.{◌≡◌, ℕ, zero, suc, ◌≤◌, Bool, true, false, cond, List, [], ◌∷◌, ◌++◌, length, Some, None, Ok, Err, Option, Result, sym, ap, ◌∙◌, append_assoc, append-nil, arith}
use lib.ListN.{length-map}
use Rattle.std.proofs.lemmas.List.{map-append}
use Rattle.refusals.specs.declared.Refusal.{Refusal}
use Rattle.grammar.specs.Atoms.{among, atoms, atoms_from, met_in}
use Rattle.grammar.specs.Lexing.{Piece, lex_from, lexed, lexed_at, onward, onward_by}
use Rattle.grammar.specs.Tokens.{Token, bar, ampersand, bang, asterisk, opening, closing, nought, one, dot, bracket, Lexed}
use Rattle.surveys.specs.Entries.{entries, entries_from, entries_in, entry_at, text_at, texts_in}
use Rattle.surveys.proofs.Spelling.{Spelled, SpelledBy, spelled}

met_by : (text : List ℕ) (known : List (List ℕ)) (s : List ℕ) (p : ℕ) (b : Bool) → text_at text (entry_at p s) ≡ s → known ++ texts_in text (cond b [] (entry_at p s ∷ [])) ≡ cond b known (known ++ (s ∷ []))
met_by text known s p true is = append-nil known
met_by text known s p false is = ap (λ a. known ++ (a ∷ [])) is

met_one : (text : List ℕ) (known : List (List ℕ)) (t : Token) (p : ℕ) → SpelledBy text (Some t) p → known ++ texts_in text (entries_in known t p) ≡ met_in known t
met_one text known bar p is = append-nil known
met_one text known ampersand p is = append-nil known
met_one text known bang p is = append-nil known
met_one text known asterisk p is = append-nil known
met_one text known opening p is = append-nil known
met_one text known closing p is = append-nil known
met_one text known nought p is = append-nil known
met_one text known one p is = append-nil known
met_one text known dot p is = append-nil known
met_one text known (bracket s) p is = met_by text known s p (among known s) is

module _ (text : List ℕ) (f : ℕ → Lexed) (below : (known : List (List ℕ)) (q : ℕ) → known ++ texts_in text (entries_from known (f q)) ≡ atoms_from known (f q)) where
  onward_by-met : (known : List (List ℕ)) (o : Option Token) (p q : ℕ) → SpelledBy text o p → known ++ texts_in text (entries_from known (onward_by f o p q)) ≡ atoms_from known (onward_by f o p q)
  unfolding entries_from atoms_from
  onward_by-met known None p q is = append-nil known
  onward_by-met known (Some t) p q is =
      ap (λ ys. known ++ ys) (map-append (text_at text) (entries_in known t p) (entries_from (met_in known t) (f q)))
      ∙ sym (append_assoc known (texts_in text (entries_in known t p)) (texts_in text (entries_from (met_in known t) (f q))))
      ∙ ap (λ ys. ys ++ texts_in text (entries_from (met_in known t) (f q))) (met_one text known t p is)
      ∙ below (met_in known t) q

  onward-met : (known : List (List ℕ)) (x : Result Piece Refusal) → Spelled text x → known ++ texts_in text (entries_from known (onward f x)) ≡ atoms_from known (onward f x)
  unfolding entries_from atoms_from
  onward-met known (Ok x) is = onward_by-met known x.0 x.1 x.2 is
  onward-met known (Err r) is = append-nil known

entries-met : (k : ℕ) (text : List ℕ) (known : List (List ℕ)) (at : ℕ) → known ++ texts_in text (entries_from known (lex_from k text at)) ≡ atoms_from known (lex_from k text at)
unfolding lex_from entries_from atoms_from
entries-met zero text known at = append-nil known
entries-met (suc k) text known at = onward-met text (lex_from k text) (entries-met k text) known (lexed_at text at) (spelled text at)

pub entries_are : (text : List ℕ) → texts_in text (entries (lexed text)) ≡ atoms (lexed text)
entries_are text = entries-met (suc (length text)) text [] 0

pub entries_few : (text : List ℕ) → length (atoms (lexed text)) ≤ 32 → length (entries (lexed text)) ≤ 32
entries_few text few =
    let same = ap length (entries_are text) in
    let long = length-map (entries (lexed text)) (text_at text) in
    omega arith
