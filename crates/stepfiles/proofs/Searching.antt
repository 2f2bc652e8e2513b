-- What `find_map` finds over a range from 0. Assumes nothing.
use Rattle.std.proofs.Common.{◌≡◌, ℕ, ◌+◌, ◌<◌, ◌≤◌, true, is_some, Some, None, Option, sym, ap, ◌∙◌, subst, arith, MatchOption, IsTrue}
use Rattle.std.specs.Fn.{Called}
use Rattle.std.specs.Iterator.Runs.{Run, SomeRun, CallKeepsClosure, AllItemsGive, IsFirstToGive}
use Rattle.std.specs.Option.{IsSomeAnd, IfSome, option_map}
use Rattle.std.specs.declared.ops.Range.{Range}
use Rattle.std.proofs.iter.Yields.{nat_range_steps}
use Rattle.std.proofs.iter.runs.Sources.{range_runs}
use denote.Param.Members.{Mut}
use Rattle.stepfiles.specs.Opening.{first_below}
use Rattle.stepfiles.proofs.Finding.{found, nothing}

same_some : {A : Type 0} (o : Option A) (x : A) → option_map (λ y. y) o ≡ Some x → o ≡ Some x
same_some None x e = cc
same_some (Some y) x e = e

-- the run of calls that `find_map` made, with its answer o
abbrev pub FindsOver : {F B : Type 0} → Mut F (ℕ × Unit {0}) (Option B) → Range ℕ → F → Option B → Type 0
FindsOver g s f o = SomeRun nat_range_steps s (λ p. MatchOption o (IsTrue p.whole × AllItemsGive p g f None) (λ y. (i : ℕ) × (i < p.len) × (p.len ≡ i + 1) × IsFirstToGive p g f (Some y) None i))

module _ {F B : Type 0} {g : Mut F (ℕ × Unit {0}) (Option B)} (f : F) (n : ℕ) (h : ℕ → Option B)
    (answers : (x : ℕ) (o : Option B) (q : F) → Called g f (x, tt) o q → (q ≡ f) × (o ≡ h x)) where
  keeps : CallKeepsClosure g f
  keeps a o q call = (answers a.0 o q call).0

  said : (x : ℕ) (o : Option B) → Called g f (x, tt) o f → h x ≡ o
  said x o call = sym (answers x o f call).1

  module _ (p : Run nat_range_steps) (from : p.from ≡ record { start = 0; end = n }) where
    counts : (k : ℕ) → k < p.len → p.at k ≡ Some k
    counts k below =
        let zero : p.from.start + k ≡ k = omega (arith, ap (λ (s : Range ℕ). s.start) from) in
        same_some (p.at k) k ((range_runs p p.seen).3 k below ∙ ap Some zero)

    few : p.len ≤ n
    few = omega (arith, (range_runs p p.seen).0, ap (λ (s : Range ℕ). s.start) from, ap (λ (s : Range ℕ). s.end) from)

    all : p.whole ≡ true → p.len ≡ n
    all whole = omega (arith, (range_runs p p.seen).1 whole, ap (λ (s : Range ℕ). s.start) from, ap (λ (s : Range ℕ). s.end) from)

    below : (o : Option B) → MatchOption o (IsTrue p.whole × AllItemsGive p g f None) (λ y. (i : ℕ) × (i < p.len) × (p.len ≡ i + 1) × IsFirstToGive p g f (Some y) None i) → o ≡ first_below h n
    below None run = sym (nothing h n (λ k less. said k None (subst (λ o. IfSome o (λ x. Called g f (x, tt) None f)) (counts k (omega (arith, all run.0))) (run.1 keeps k))))
    below (Some y) run =
        let i = run.0 in
        let first = run.3 keeps in
        let hit = said i (Some y) (subst (λ o. IsSomeAnd o (λ x. Called g f (x, tt) (Some y) f)) (counts i run.1) first.0) in
        let before = nothing h i (λ k less. said k None (subst (λ o. IsSomeAnd o (λ x. Called g f (x, tt) None f)) (counts k (omega (arith, run.1))) (first.1 k less))) in
        sym (found h n i (omega (arith, run.1, few)) before (ap is_some hit) ∙ hit)

-- a closure that answers as h does, called at the numbers below `end`
pub find_map_below : {F B : Type 0} {g : Mut F (ℕ × Unit {0}) (Option B)} {f : F} {end n : ℕ} {o : Option B} (h : ℕ → Option B)
    → FindsOver g record { start = 0; end = end } f o → end ≡ n
    → ((x : ℕ) (o : Option B) (q : F) → Called g f (x, tt) o q → (q ≡ f) × (o ≡ h x)) → o ≡ first_below h n
find_map_below {f = f} {end = end} {o = o} h run all answers = below f end h answers run.0 run.1 o run.2 ∙ ap (first_below h) all
