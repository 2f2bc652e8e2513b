-- The entries of a text's atoms.
--   text_at text e      the bytes that the entry e speaks of
--   texts_in text es    those of each entry
--   numbered text es s  the number of the first of the entries es that speaks of s, if there is one
--   entry_at p s        the entry of a bracket at the place p with the bytes s inside
--   entries_in known t p    the entry of the token t at the place p, if it is a bracket that is none of the known texts
--   entries_from known ts   the entries of the brackets of ts that are none of the known texts, each where it is first
--                       met
--   entries ts          the entry of each atom of ts, in the order of their numbers
--   listed a            the entries of the atoms in use
--   Meeting             whether to go on, and the entries afterwards
--   meeting text es p s    meeting a bracket at the place p with the bytes s, where es are known: no if it would be the
--                       33rd atom
--   taking text es p t     meeting the token t at the place p: only a bracket is an atom. No at the end too
-- Assumes nothing.
use Rattle.std.specs.Prelude.{ℕ, ◌+◌, Bool, true, false, cond, List, [], ◌∷◌, ◌++◌, map, length, take, drop, Some, None, Option, nat_lt, position}
use Rattle.std.specs.Str.{bytes_eq}
use Rattle.grammar.specs.Atoms.{among, met_in}
use Rattle.grammar.specs.Tokens.{Token, bar, ampersand, bang, asterisk, opening, closing, nought, one, dot, bracket, Lexed, end, bad, token}
use Rattle.surveys.specs.declared.entry.Entry.{Entry}
use Rattle.surveys.specs.declared.atoms.Atoms.{Atoms}

abbrev pub text_at : List ℕ → Entry → List ℕ
text_at text e = take e.length (drop e.place text)

abbrev pub texts_in : List ℕ → List Entry → List (List ℕ)
texts_in text es = map (text_at text) es

abbrev pub numbered : List ℕ → List Entry → List ℕ → Option ℕ
numbered text es s = position (λ e. bytes_eq (text_at text e) s) es

abbrev pub entry_at : ℕ → List ℕ → Entry
entry_at p s = record { place = p + 1; length = length s }

abbrev pub entries_in : List (List ℕ) → Token → ℕ → List Entry
entries_in known bar p = []
entries_in known ampersand p = []
entries_in known bang p = []
entries_in known asterisk p = []
entries_in known opening p = []
entries_in known closing p = []
entries_in known nought p = []
entries_in known one p = []
entries_in known dot p = []
entries_in known (bracket s) p = cond (among known s) [] (entry_at p s ∷ [])

unfoldable pub entries_from : List (List ℕ) → Lexed → List Entry
entries_from known (end p) = []
entries_from known (bad r) = []
entries_from known (token t p ts) = entries_in known t p ++ entries_from (met_in known t) ts

abbrev pub entries : Lexed → List Entry
entries ts = entries_from [] ts

abbrev pub listed : Atoms → List Entry
listed a = take a.count a.entries

abbrev pub Meeting : Type 0
Meeting = Bool × List Entry

abbrev pub meeting : List ℕ → List Entry → ℕ → List ℕ → Meeting
meeting text es p s =
    cond (among (texts_in text es) s) (true, es)
    (cond (nat_lt (length es) 32) (true, es ++ (entry_at p s ∷ [])) (false, es))

abbrev pub taking : List ℕ → List Entry → ℕ → Option Token → Meeting
taking text es p None = (false, es)
taking text es p (Some bar) = (true, es)
taking text es p (Some ampersand) = (true, es)
taking text es p (Some bang) = (true, es)
taking text es p (Some asterisk) = (true, es)
taking text es p (Some opening) = (true, es)
taking text es p (Some closing) = (true, es)
taking text es p (Some nought) = (true, es)
taking text es p (Some one) = (true, es)
taking text es p (Some dot) = (true, es)
taking text es p (Some (bracket s)) = meeting text es p s
