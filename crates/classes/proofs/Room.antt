-- What a book without room means for the classes.
-- Assumes nothing.
use Rattle.std.proofs.Common.{◌≡◌, ℕ, Bool, ◌==◌, List, [], ◌∷◌, ◌++◌, length, take, Some, None, Option, append-nil, sym, refl, ap, ◌∙◌, arith}
use Rattle.std.proofs.lemmas.List.{take-append-drop}
use Rattle.numbering.specs.Finding.{first_equal}
use Rattle.numbering.specs.Numbering.{Pages, placed, unless_found, numbered, pages}
use Rattle.numbering.specs.Numbering.{Out as Answer}
use Rattle.classes.specs.Meeting.{number_in}
use Rattle.classes.specs.Found.{Out, met}

-- A book that gives no number has not met the thing, has no room, and stays as it was.
pub record Refused {T : Type 0} (eq : T → T → Bool) (x : T) (p q : Pages T) : Type 0 where
  pub absent : first_equal eq p.used x ≡ None
  pub no_room : p.past ≡ []
  pub kept : q ≡ p

module _ {T : Type 0} (eq : T → T → Bool) (x : T) (p q : Pages T) where
  pub refused : ◌≡◌ {A = Answer T} (None, q) (numbered eq p x) → Refused eq x p q
  refused h = go (first_equal eq p.used x) refl p.past refl
    where
      go : (o : Option ℕ) → first_equal eq p.used x ≡ o → (past : List T) → p.past ≡ past → Refused eq x p q
      go (Some i) e past is =
          let a : ◌≡◌ {A = Answer T} (None, q) (Some i, p) = h ∙ ap (unless_found x p) e in
          let b : ◌≡◌ {A = Option ℕ} None (Some i) = ap (λ (t : Answer T). t.0) a in
          absurd (let z : ◌≡◌ {A = ℕ} 0 1 = cc in omega arith)
      go None e [] is =
          let a : ◌≡◌ {A = Answer T} (None, q) (None, p) = h ∙ ap (unless_found x p) e ∙ ap (placed x p) is in
          record { absent = e; no_room = is; kept = ap (λ (t : Answer T). t.1) a }
      go None e (y ∷ ys) is =
          let a : ◌≡◌ {A = Answer T} (None, q) (placed x p (y ∷ ys)) = h ∙ ap (unless_found x p) e ∙ ap (placed x p) is in
          let b : ◌≡◌ {A = Option ℕ} None (Some (length p.used)) = ap (λ (t : Answer T). t.0) a in
          absurd (let z : ◌≡◌ {A = ℕ} 0 1 = cc in omega arith)

-- Where all places of the keys are taken, a key that is not there gets no class.
pub no_class : {L : Type 0} (samples : List L) (l : L) (k n m : ℕ) (keys after : List ℕ) → length keys ≡ 255 → ◌≡◌ {A = Answer ℕ} (None, pages after m) (numbered (λ a b. a == b) (pages keys n) k) → ◌≡◌ {A = Out L} (None, record { samples = samples; keys = take n after }) (met (record { samples = samples; keys = take n keys }) l k)
no_class samples l k n m keys after long h =
    let r = refused (λ a b. a == b) k (pages keys n) (pages after m) h in
    let count : m ≡ n = ap (λ (p : Pages ℕ). p.count) r.kept in
    let same : take n after ≡ take n keys = ap (λ j. take j after) (sym count) ∙ ap (λ (p : Pages ℕ). p.used) r.kept in
    let whole : take n keys ≡ keys = sym (append-nil (take n keys)) ∙ ap (λ zs. take n keys ++ zs) (sym r.no_room) ∙ take-append-drop n keys in
    let absent : number_in (take n keys) k ≡ None = r.absent in
    rw (same, absent, whole, long) refl
