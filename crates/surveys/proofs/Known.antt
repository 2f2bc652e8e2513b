-- Looking an atom up among those that are known.
-- Assumes nothing.
use Rattle.std.proofs.Common.{◌≡◌, ℕ, suc, ◌+◌, Bool, true, false, cond, not, ltb, ◌||◌, List, [], ◌∷◌, ◌++◌, length, take, set, unwrap_or, sym, refl, ap, ◌∙◌, arith, length-take}
use Rattle.std.specs.List.{position_or_len}
use Rattle.std.specs.Option.{is_some}
use Rattle.std.specs.Str.{bytes_eq}
use Rattle.std.proofs.lemmas.List.{take_more_set}
use Rattle.std.proofs.lemmas.List.Sums.{prefix_len-le-length}
use Rattle.std.proofs.lemmas.Bool.{cond_both, cond-true, cond-false, lt-ltb, le-ltb, ltb-false}
use Rattle.std.proofs.lemmas.Grind.{common_steps}
use Rattle.grammar.specs.Atoms.{among, number_of}
use Rattle.surveys.specs.declared.entry.Entry.{Entry}
use Rattle.surveys.specs.Entries.{Meeting, entry_at, meeting, numbered, text_at, texts_in}

ltb_suc : (n k : ℕ) → ltb n k ≡ ltb (1 + n) (suc k)
ltb_suc n k = grind (arith, common_steps)

among_by : (b a : Bool) (n k : ℕ) → a ≡ ltb n k → (b || a) ≡ ltb (cond (not b) (1 + n) 0) (suc k)
among_by true a n k h = sym (lt-ltb 0 (suc k) (omega arith))
among_by false a n k h = h ∙ ltb_suc n k

-- Where a text is found first is where its entry is, and it is found where it is an atom.
module _ (text : List ℕ) (s : List ℕ) where
  abbrev first_of : List Entry → ℕ
  first_of es = position_or_len (λ e. bytes_eq (text_at text e) s) es

  first_is : (es : List Entry) → first_of es ≡ number_of (texts_in text es) s
  first_is [] = refl
  first_is (e ∷ es) = ap (λ n. cond (not (bytes_eq (text_at text e) s)) (1 + n) 0) (first_is es)

  among_is : (es : List Entry) → among (texts_in text es) s ≡ ltb (first_of es) (length es)
  among_is [] = refl
  among_is (e ∷ es) = among_by (bytes_eq (text_at text e) s) (among (texts_in text es) s) (first_of es) (length es) (among_is es)

  -- The number of an atom, or how many there are where it is none of them.
  pub number_is : (es : List Entry) → unwrap_or (numbered text es s) (length es) ≡ number_of (texts_in text es) s
  number_is es =
      let most = prefix_len-le-length (λ e. not (bytes_eq (text_at text e) s)) es in
      cond_both (ltb (first_of es) (length es)) _ _ (λ o. unwrap_or o (length es) ≡ number_of (texts_in text es) s)
      (λ e. first_is es)
      (λ e. let past = ltb-false _ _ e in omega (arith, past, most, first_is es))

  among_numbered : (es : List Entry) → among (texts_in text es) s ≡ is_some (numbered text es s)
  among_numbered es =
      cond_both (ltb (first_of es) (length es)) _ _ (λ o. among (texts_in text es) s ≡ is_some o)
      (λ e. among_is es ∙ e)
      (λ e. among_is es ∙ e)

-- Meeting a bracket: one that is known, one too many, a new one.
module _ (text : List ℕ) (p : ℕ) (s : List ℕ) where
  pub met_known : (es : List Entry) → is_some (numbered text es s) ≡ true → ◌≡◌ {A = Meeting} (true, es) (meeting text es p s)
  met_known es is = sym (cond-true _ _ _ (among_numbered text s es ∙ is))

  module _ (xs : List Entry) (n u : ℕ) (used : u ≡ length (take n xs)) (long : length xs ≡ 32) (is : is_some (numbered text (take n xs) s) ≡ false) where
    pub met_full : u ≡ 32 → ◌≡◌ {A = Meeting} (false, take n xs) (meeting text (take n xs) p s)
    met_full full = sym (cond-false _ _ _ (among_numbered text s (take n xs) ∙ is) ∙ cond-false _ _ _ (le-ltb (length (take n xs)) 32 (omega arith)))

    pub met_new : (u ≡ 32 → ⊥) → ◌≡◌ {A = Meeting} (true, take (u + 1) (set xs u (entry_at p s))) (meeting text (take n xs) p s)
    met_new room =
        let k = length-take n xs in
        let same : n ≡ u = omega arith in
        ap {B = Meeting} (λ more. (true, more)) (take_more_set xs u (entry_at p s) (omega arith) ∙ ap (λ v. take v xs ++ (entry_at p s ∷ [])) (sym same))
        ∙ sym (cond-false _ _ _ (among_numbered text s (take n xs) ∙ is) ∙ cond-true _ _ _ (lt-ltb (length (take n xs)) 32 (omega arith)))
