-- The classes of a fold: what their bytes have in common, and that their samples come first.
-- Assumes nothing.
use Rattle.std.proofs.Common.{◌≡◌, ℕ, zero, suc, ◌+◌, ◌-◌, ◌<◌, List, [], ◌∷◌, ◌++◌, length, map, Some, unwrap_or, length-append, sym, subst, ap, ◌∙◌, arith}
use Rattle.std.proofs.lemmas.List.{map-append}
use Rattle.std.specs.List.{slice_get}
use Rattle.classes.specs.Bytes.{all_bytes}
use Rattle.classes.specs.Meeting.{class_in, firsts, keys_of, number_in}
use Rattle.classes.specs.Rising.{rising}
use Rattle.classes.proofs.Bytes.{classed}
use Rattle.classes.proofs.FirstMet.{class_is, class_of, first_met}
use Rattle.classes.proofs.FirstMet.{classed as numbered}
use Rattle.classes.proofs.Meeting.{Numbered, grows, meets_append, stays}
use Rattle.classes.proofs.Rising.{rising_at, rising_suc, rising_zero}
use Rattle.folds.specs.Folding.{SamplesComeFirst, SharesBelow, asked, fold_class, fold_sample, fold_keys}

-- What comes before a number of a row is a row, and the number is next.
before_row : (p n : ℕ) (us ws : List ℕ) (s : ℕ) → rising p n ≡ us ++ (s ∷ ws) → (us ≡ rising p (length us)) × (p + length us ≡ s)
before_row p zero us ws s parts =
    let long : 0 ≡ length us + suc (length ws) = ap length (sym (rising_zero p) ∙ parts) ∙ length-append us (s ∷ ws) in
    absurd (omega arith)
before_row p (suc n) [] ws s parts =
    let row : ◌≡◌ {A = List ℕ} (p ∷ rising (p + 1) n) (s ∷ ws) = sym (rising_suc p n) ∙ parts in
    let here : p ≡ s = cc in
    (sym (rising_zero p), omega arith)
before_row p (suc n) (u ∷ us) ws s parts =
    let row : ◌≡◌ {A = List ℕ} (p ∷ rising (p + 1) n) (u ∷ (us ++ (s ∷ ws))) = sym (rising_suc p n) ∙ parts in
    let here : u ≡ p = cc in
    let tail : rising (p + 1) n ≡ us ++ (s ∷ ws) = cc in
    let rest = before_row (p + 1) n us ws s tail in
    let next = rest.1 in
    (ap (λ v. v ∷ us) here ∙ ap (λ vs. p ∷ vs) rest.0 ∙ sym (rising_suc p (length us)), omega arith)

-- A letter that was met keeps its class when more are met.
class_stays : {L : Type 0} (key : L → ℕ) (before more : List L) (l : L) → Numbered key (firsts key before) l → class_in key (before ++ more) l < length (firsts key before)
class_stays key before more l n =
    let start = firsts key before in
    let g = grows key start more in
    let keys : keys_of key (before ++ more) ≡ map key start ++ map key g.more = ap (map key) (meets_append key [] before more ∙ g.is) ∙ map-append key start g.more in
    let number : number_in (keys_of key (before ++ more)) (key l) ≡ Some n.class = ap (λ ks. number_in ks (key l)) keys ∙ stays (map key start) (map key g.more) (key l) n.class n.is in
    subst (λ k. k < length start) (sym (class_is key (before ++ more) l n.class number)) (class_of key start l n.class n.is).below

module _ (below : ℕ → ℕ) where
  pub shares : SharesBelow below (fold_class below)
  shares b c hb hc =
      let one = classed (asked below) b hb in
      let two = classed (asked below) c hc in
      let keys = λ (same : fold_class below b ≡ fold_class below c). sym one.1 ∙ ap (slice_get (fold_keys below)) same ∙ two.1 in
      (λ same. (let e = keys same in cc), λ same. ap (λ k. unwrap_or (number_in (fold_keys below) k) 0) same)

  earlier : (k s b : ℕ) → fold_sample below k ≡ Some s → b < s → fold_class below b < k
  unfolding all_bytes
  earlier k s b there h =
      let key = asked below in
      let f = first_met key all_bytes k s there in
      let row = before_row 0 256 f.before f.behind s f.parts in
      let many = length f.before in
      let next = row.1 in
      let us = rising 0 (b - 0) in
      let vs = rising (b + 1) (0 + many - (b + 1)) in
      let before : us ++ (b ∷ vs) ≡ f.before = sym (rising_at 0 many b (omega arith) (omega arith)) ∙ sym row.0 in
      let n = subst (λ ls. Numbered key (firsts key ls) b) before (numbered key us vs b) in
      let less = subst (λ ls. class_in key ls b < length (firsts key f.before)) (sym f.parts) (class_stays key f.before (s ∷ f.behind) b n) in
      subst (λ i. fold_class below b < i) f.as_many less

  pub samples_first : SamplesComeFirst (fold_class below) (fold_sample below)
  samples_first = record { before = earlier }
