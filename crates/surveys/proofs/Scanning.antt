-- Finding the atoms of a text, token by token.
--   Found text es at   with the entries es found in the text before the place at, the rest of it has the others
--   Last text es p     the entries es are the first 32 of the text, and its horizon is p
-- Assumes nothing.
use Rattle.std.proofs.Common.{◌≡◌, ℕ, ◌<◌, ◌≤◌, Bool, true, false, cond, ltb, List, [], ◌∷◌, ◌++◌, length, take, Some, None, Ok, Err, Option, Result, sym, refl, ap, ◌∙◌, subst, append_assoc, append-nil, arith}
use lib.ListN.{length-map}
use Rattle.std.proofs.lemmas.List.{length_push, map_push, take_all, take-append-le}
use Rattle.std.proofs.lemmas.Bool.{cond-true, cond-false, le-ltb, lt-ltb, ltb-true, ltb-false}
use Rattle.refusals.specs.declared.Refusal.{Refusal}
use Rattle.grammar.specs.Atoms.{among, horizon_from, horizon_in, met, met_in}
use Rattle.grammar.specs.Lexing.{Piece, lexed, lexed_at, lexed_from, onward, onward_by}
use Rattle.grammar.proofs.Cutting.{lexed_from_step}
use Rattle.surveys.specs.declared.lexemes.Lexemes.{Lexemes}
use Rattle.surveys.specs.Lexemes.{Moves, Over}
use Rattle.grammar.specs.Sighting.{sighted, token_of}
use Rattle.grammar.specs.declared.token.Lexeme.{Lexeme}
use Rattle.grammar.specs.Tokens.{Token, bar, ampersand, bang, asterisk, opening, closing, nought, one, dot, bracket, Lexed, end, bad, token}
use Rattle.surveys.specs.declared.entry.Entry.{Entry}
use Rattle.surveys.specs.Entries.{Meeting, entries, entries_from, entries_in, entry_at, taking, text_at, texts_in}
use Rattle.surveys.specs.Looking.{Stands, StandsBy}
use Rattle.surveys.proofs.Advancing.{sighted_on}
use Rattle.surveys.proofs.Spelling.{Spelled, SpelledBy, spelled}

-- The same over tokens, where known are the texts of the entries.
pub record FoundBy (text : List ℕ) (es : List Entry) (ts : Lexed) : Type 0 where
  pub horizon : horizon_in text ≡ horizon_from (texts_in text es) (length text) ts
  pub all : take 32 (entries (lexed text)) ≡ take 32 (es ++ entries_from (texts_in text es) ts)
  pub few : length es ≤ 32

abbrev pub Found : List ℕ → List Entry → ℕ → Type 0
Found text es at = FoundBy text es (lexed_from text at)

pub record Last (text : List ℕ) (es : List Entry) (p : ℕ) : Type 0 where
  pub horizon : horizon_in text ≡ p
  pub all : take 32 (entries (lexed text)) ≡ es

-- What becomes of it at a token: it goes on behind a token taken, and is the last where none is.
abbrev pub Taken : List ℕ → ℕ → Lexed → Meeting → Type 0
Taken text p ts (true, es) = FoundBy text es ts
Taken text p ts (false, es) = Last text es p

pub found_end : (text : List ℕ) (es : List Entry) (p : ℕ) → FoundBy text es (end p) → Last text es (length text)
unfolding horizon_from entries_from
found_end text es p f = record { horizon = f.horizon; all = f.all ∙ ap (take 32) (append-nil es) ∙ take_all 32 es f.few }

pub found_bad : (text : List ℕ) (es : List Entry) (r : Refusal) → FoundBy text es (bad r) → Last text es (length text)
unfolding horizon_from entries_from
found_bad text es r f = record { horizon = f.horizon; all = f.all ∙ ap (take 32) (append-nil es) ∙ take_all 32 es f.few }

-- A token that is no new atom.
passed : (text : List ℕ) (es : List Entry) (t : Token) (p : ℕ) (ts : Lexed) → met_in (texts_in text es) t ≡ texts_in text es → entries_in (texts_in text es) t p ≡ [] → FoundBy text es (token t p ts) → FoundBy text es ts
unfolding horizon_from entries_from
passed text es t p ts same none f =
    let known = texts_in text es in
    let l = length-map es (text_at text) in
    let few = f.few in
    record {
      horizon = f.horizon ∙ ap (λ k. cond (ltb 32 (length k)) p (horizon_from k (length text) ts)) same ∙ cond-false _ _ _ (le-ltb 32 (length known) (omega arith));
      all = f.all ∙ ap (λ x. take 32 (es ++ (x ++ entries_from (met_in known t) ts))) none ∙ ap (λ k. take 32 (es ++ entries_from k ts)) same;
      few = f.few;
    }

module _ (text : List ℕ) (es : List Entry) (s : List ℕ) (p : ℕ) (ts : Lexed) (f : FoundBy text es (token (bracket s) p ts)) where
  known : among (texts_in text es) s ≡ true → FoundBy text es ts
  known is = passed text es (bracket s) p ts (cond-true _ _ _ is) (cond-true _ _ _ is) f

  new : text_at text (entry_at p s) ≡ s → among (texts_in text es) s ≡ false → length es < 32 → FoundBy text (es ++ (entry_at p s ∷ [])) ts
  unfolding horizon_from entries_from
  new spelled is room =
      let more = es ++ (entry_at p s ∷ []) in
      let l = length_push es (entry_at p s) in
      let m = length-map more (text_at text) in
      let same : met (texts_in text es) s ≡ texts_in text more = cond-false _ _ _ is ∙ ap (λ a. texts_in text es ++ (a ∷ [])) (sym spelled) ∙ sym (map_push (text_at text) es (entry_at p s)) in
      record {
        horizon = f.horizon ∙ ap (λ k. cond (ltb 32 (length k)) p (horizon_from k (length text) ts)) same ∙ cond-false _ _ _ (le-ltb 32 (length (texts_in text more)) (omega arith));
        all = f.all ∙ ap (λ x. take 32 (es ++ (x ++ entries_from (met (texts_in text es) s) ts))) (cond-false _ _ _ is) ∙ ap (λ k. take 32 (es ++ ((entry_at p s ∷ []) ++ entries_from k ts))) same ∙ ap (take 32) (sym (append_assoc es (entry_at p s ∷ []) (entries_from (texts_in text more) ts)));
        few = omega arith;
      }

  full : among (texts_in text es) s ≡ false → 32 ≤ length es → Last text es p
  unfolding horizon_from
  full is most =
      let l = length_push (texts_in text es) s in
      let m = length-map es (text_at text) in
      let few = f.few in
      let more : met_in (texts_in text es) (bracket s) ≡ texts_in text es ++ (s ∷ []) = cond-false _ _ _ is in
      record {
        horizon = f.horizon ∙ ap (λ k. cond (ltb 32 (length k)) p (horizon_from k (length text) ts)) more ∙ cond-true _ _ _ (lt-ltb 32 (length (texts_in text es ++ (s ∷ []))) (omega arith));
        all = f.all ∙ take-append-le 32 es _ most ∙ take_all 32 es few;
      }

  met_room : text_at text (entry_at p s) ≡ s → among (texts_in text es) s ≡ false → (b : Bool) → ltb (length es) 32 ≡ b → Taken text p ts (cond b (true, es ++ (entry_at p s ∷ [])) (false, es))
  met_room spelled is true room = new spelled is (ltb-true (length es) 32 room)
  met_room spelled is false room = full is (ltb-false (length es) 32 room)

  met-among : text_at text (entry_at p s) ≡ s → (b : Bool) → among (texts_in text es) s ≡ b → Taken text p ts (cond b (true, es) (cond (ltb (length es) 32) (true, es ++ (entry_at p s ∷ [])) (false, es)))
  met-among spelled true is = known is
  met-among spelled false is = met_room spelled is (ltb (length es) 32) refl

pub found_more : (text : List ℕ) (es : List Entry) (o : Option Token) (p q : ℕ) → SpelledBy text o p → (o ≡ None → p ≡ length text) → FoundBy text es (onward_by (lexed_from text) o p q) → Taken text p (lexed_from text q) (taking text es p o)
found_more text es None p q spelled last f = let e = last refl in rw e (found_end text es p f)
found_more text es (Some bar) p q spelled last f = passed text es bar p (lexed_from text q) refl refl f
found_more text es (Some ampersand) p q spelled last f = passed text es ampersand p (lexed_from text q) refl refl f
found_more text es (Some bang) p q spelled last f = passed text es bang p (lexed_from text q) refl refl f
found_more text es (Some asterisk) p q spelled last f = passed text es asterisk p (lexed_from text q) refl refl f
found_more text es (Some opening) p q spelled last f = passed text es opening p (lexed_from text q) refl refl f
found_more text es (Some closing) p q spelled last f = passed text es closing p (lexed_from text q) refl refl f
found_more text es (Some nought) p q spelled last f = passed text es nought p (lexed_from text q) refl refl f
found_more text es (Some one) p q spelled last f = passed text es one p (lexed_from text q) refl refl f
found_more text es (Some dot) p q spelled last f = passed text es dot p (lexed_from text q) refl refl f
found_more text es (Some (bracket s)) p q spelled last f = met-among text es s p (lexed_from text q) f spelled (among (texts_in text es) s) refl

end_place : (text : List ℕ) (o : Option Token) (p q : ℕ) → StandsBy text o p q → o ≡ None → p ≡ length text
end_place text None p q h e = h.0
end_place text (Some t) p q h e = let z : ◌≡◌ {A = ℕ} 0 1 = cc in absurd (omega arith)

found_over_by : (text : List ℕ) (es : List Entry) (o : Option Token) (p q : ℕ) → o ≡ None → FoundBy text es (onward_by (lexed_from text) o p q) → Last text es (length text)
found_over_by text es None p q over f = found_end text es p f
found_over_by text es (Some t) p q over f = absurd (grind arith)

found_over : (text : List ℕ) (es : List Entry) (x : Result Piece Refusal) → Over x → FoundBy text es (onward (lexed_from text) x) → Last text es (length text)
found_over text es (Ok x) over f = found_over_by text es x.0 x.1 x.2 over f
found_over text es (Err r) over f = found_bad text es r f

-- The same for the code's lexemes.
module _ (text : List ℕ) (es : List Entry) (at : ℕ) (f : Found text es at) where
  pub found_taken : (l : Lexeme) (b : Bool) (more : List Entry) → sighted (Ok l) ≡ lexed_at text at → Stands text l → ◌≡◌ {A = Meeting} (b, more) (taking text es l.place (token_of l.token)) → Taken text l.place (lexed_from text l.after) (b, more)
  found_taken l b more seen stands is =
      let P : Result Piece Refusal → Type 0 = Spelled text in
      let Q : Meeting → Type 0 = Taken text l.place (lexed_from text l.after) in
      let R : Lexed → Type 0 = FoundBy text es in
      subst Q (sym is) (found_more text es (token_of l.token) l.place l.after (subst P (sym seen) (spelled text at)) (end_place text (token_of l.token) l.place l.after stands) (subst R (sighted_on text at (Ok l) seen) f))

-- The same for the steps of the code.
module _ (text : List ℕ) (es : List Entry) (s : Lexemes) (row : s.text.now ≡ text) (f : Found text es s.at) where
  pub found_moved : (l : Lexeme) (t : Lexemes) (b : Bool) (more : List Entry) → Moves s (Some l) t → ◌≡◌ {A = Meeting} (b, more) (taking text es l.place (token_of l.token)) → Taken text l.place (lexed_from text l.after) (b, more)
  found_moved l t b more moves is =
      found_taken text es s.at f l b more (moves.0 ∙ ap (λ u. lexed_at u s.at) row) (subst (λ u. Stands u l) row moves.1) is

  pub found_all : Over (lexed_at s.text.now s.at) → Last text es (length text)
  found_all over =
      let R : Lexed → Type 0 = FoundBy text es in
      found_over text es (lexed_at text s.at) (subst (λ u. Over (lexed_at u s.at)) row over) (subst R (lexed_from_step text s.at) f)
