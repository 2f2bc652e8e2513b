-- Deriving a node by the derivatives of its parts, which are smaller nodes.
--   Smaller n f      the parts of f are smaller than n
--   step             what is one step of the derivative by enough depth is the derivative
--   on               what goes on from an outcome goes on from what it comes to
--   ends, goes_on    where a sequence ends with its left part, and where its right part is derived too
--   joins            the step of an or or an and
-- Assumes nothing.
use Rattle.std.proofs.Common.{◌≡◌, ℕ, zero, suc, ◌<◌, ◌≤◌, Bool, true, false, List, Some, None, Ok, sym, refl, ap, ◌⊎◌, inl, inr, ◌∙◌, subst, arith}
use Rattle.std.specs.Bool.{then_some}
use Rattle.nodes.specs.declared.node.Node.{Node}
use Rattle.nodes.specs.declared.node.NodeKind.{NodeKind}
use Rattle.nodes.specs.declared.node.NodeKind.TheVariants as Kind
use Rattle.nodes.specs.declared.form.Form.{Form}
use Rattle.nodes.specs.Reading.{at, form_by, form_at}
use Rattle.nodes.specs.Entering.{Held, Out, bind, entered}
use Rattle.nodes.specs.Deriving.{or_right, derived_by, derived}
use Rattle.nodes.proofs.Members.{part_below}
use Rattle.derivatives.specs.Parts.{rejoined}

abbrev pub Smaller : ℕ → Form → Type 0
Smaller n Form.None = Unit {0}
Smaller n Form.Empty = Unit {0}
Smaller n Form.Any = Unit {0}
Smaller n (Form.Atom k) = Unit {0}
Smaller n (Form.Sequence l r) = (l < n) × (r < n)
Smaller n (Form.Or l r) = (l < n) × (r < n)
Smaller n (Form.And l r) = (l < n) × (r < n)
Smaller n (Form.Star l) = l < n
Smaller n (Form.Not l) = l < n

smaller_by : (k : NodeKind) (n l r : ℕ) → 0 < n → Smaller n (form_by k n l r)
smaller_by Kind.None n l r h = tt
smaller_by Kind.Empty n l r h = tt
smaller_by Kind.Any n l r h = tt
smaller_by Kind.Atom n l r h = tt
smaller_by Kind.Sequence n l r h = (part_below n l h, part_below n r h)
smaller_by Kind.Or n l r h = (part_below n l h, part_below n r h)
smaller_by Kind.And n l r h = (part_below n l h, part_below n r h)
smaller_by Kind.Star n l r h = part_below n l h
smaller_by Kind.Not n l r h = part_below n l h

pub smaller : (p : List Node) (n : ℕ) → Smaller n (form_at p n)
smaller p zero = tt
smaller p (suc n) = let x = at p (suc n) in smaller_by x.kind (suc n) x.left x.right (omega arith)

smaller_still : (n m : ℕ) (f : Form) → n ≤ m → Smaller n f → Smaller m f
smaller_still n m Form.None h w = tt
smaller_still n m Form.Empty h w = tt
smaller_still n m Form.Any h w = tt
smaller_still n m (Form.Atom k) h w = tt
smaller_still n m (Form.Sequence l r) h w = (omega (arith, h, w.0), omega (arith, h, w.1))
smaller_still n m (Form.Or l r) h w = (omega (arith, h, w.0), omega (arith, h, w.1))
smaller_still n m (Form.And l r) h w = (omega (arith, h, w.0), omega (arith, h, w.1))
smaller_still n m (Form.Star l) h w = omega (arith, h, w)
smaller_still n m (Form.Not l) h w = omega (arith, h, w)

none≢some : {X : Type 0} {x : X} → None ≡ Some x → ⊥
none≢some e = let z : ◌≡◌ {A = ℕ} 0 1 = cc in omega arith

pub step : (s n : ℕ) (h : Held) {f : Form} {o : Out} → f ≡ form_at h.used n →
    ((k : ℕ) → Smaller k f → o ≡ derived_by (derived k s) s n h.used f h) → (k : ℕ) → n < k → o ≡ derived k s n h
unfolding derived
step s n h is goes zero below = absurd (omega arith)
step s n h {f} is goes (suc k) below =
    let parts : Smaller n f = subst (Smaller n) (sym is) (smaller h.used n) in
    goes k (smaller_still n k f (omega arith) parts) ∙ ap (λ g. derived_by (derived k s) s n h.used g h) is

pub on : (F : ℕ → Held → Out) {o a x : Out} → o ≡ a → x ≡ bind o F → x ≡ bind a F
on F e done = done ∙ ap (λ t. bind t F) e

-- The right part of a sequence, whose left part's flag is b: not derived, or the part m that is.
module _ (rec : ℕ → Held → Out) (r q : ℕ) (h : Held) where
  pub ends : (b : Bool) → None ≡ then_some b r → ◌≡◌ {A = Out} (Ok q, h) (or_right rec b r q h)
  ends true e = absurd (none≢some e)
  ends false e = refl

  pub goes_on : (m : ℕ) (b : Bool) {x : Out} → Some m ≡ then_some b r → (m ≡ r → x ≡ bind (rec m h) (λ d g. entered (Form.Or q d) g)) → x ≡ or_right rec b r q h
  goes_on m true e done = let same : m ≡ r = cc in done same ∙ ap (λ n. bind (rec n h) (λ d g. entered (Form.Or q d) g)) same
  goes_on m false e done = absurd (none≢some (sym e))

-- An or or an and.
pub joins : (s n : ℕ) (h : Held) (l r : ℕ) {f : Form} {x : Out} → f ≡ form_at h.used n → (f ≡ Form.Or l r) ⊎ (f ≡ Form.And l r) →
    ((k : ℕ) → l < k → r < k → x ≡ bind (derived k s l h) (λ d g. bind (derived k s r g) (λ e i. entered (rejoined f d e) i))) → (k : ℕ) → n < k → x ≡ derived k s n h
joins s n h l r is (inl e) both = step s n h (sym e ∙ is) (λ m w. rw e at (both m w.0 w.1))
joins s n h l r is (inr e) both = step s n h (sym e ∙ is) (λ m w. rw e at (both m w.0 w.1))
