-- The questions about the header are answered with yes exactly where the header is right. Assumes nothing.
use Rattle.std.proofs.Common.{◌≡◌, ℕ, ◌≤◌, Bool, true, false, cond, ◌&&◌, leb, List, Some, None, Option, refl}
use Rattle.std.proofs.lemmas.Bool.{leb-true, eqb-true, and_parts, and_from, le-leb, eq-eqb}
use Rattle.refusals.specs.declared.Refusal.{Refusal}
use Rattle.refusals.specs.Questions.{first_no}
use Rattle.stepfiles.specs.Opening.{header}
use Rattle.stepfiles.specs.Proper.{RightHeader}

yes_first : (y : Bool) (f : Refusal) (rest : Option Refusal) → cond y rest (Some f) ≡ None → (y ≡ true) × (rest ≡ None)
yes_first true f rest e = (refl, e)
yes_first false f rest e = (cc, cc)

within : (a b c : ℕ) → (leb a b && leb b c) ≡ true → (a ≤ b) × (b ≤ c)
within a b c e = let p = and_parts (leb a b) (leb b c) e in (leb-true a b p.0, leb-true b c p.1)

pub right_header : (b : List ℕ) → first_no (header b) ≡ None → RightHeader b
right_header b e0 =
    let a0 = yes_first _ _ _ e0 in
    let a1 = yes_first _ _ _ a0.1 in
    let a2 = yes_first _ _ _ a1.1 in
    let a3 = yes_first _ _ _ a2.1 in
    let a4 = yes_first _ _ _ a3.1 in
    let a5 = yes_first _ _ _ a4.1 in
    let a6 = yes_first _ _ _ a5.1 in
    let a7 = yes_first _ _ _ a6.1 in
    record {
      long = leb-true _ _ a0.0;
      length_true = eqb-true _ _ a1.0;
      version = eqb-true _ _ a2.0;
      kind = within _ _ _ a3.0;
      rows = within _ _ _ a4.0;
      classes = leb-true _ _ a5.0;
      text = within _ _ _ a6.0;
      whole = eqb-true _ _ a7.0;
    }

between : {a b c : ℕ} → (a ≤ b) × (b ≤ c) → (leb a b && leb b c) ≡ true
between p = and_from _ _ (le-leb _ _ p.0) (le-leb _ _ p.1)

pub no_refusal : (b : List ℕ) → RightHeader b → first_no (header b) ≡ None
no_refusal b h = rw (le-leb _ _ h.long, eq-eqb _ _ h.length_true, eq-eqb _ _ h.version, between h.kind, between h.rows, le-leb _ _ h.classes, between h.text, eq-eqb _ _ h.whole)
