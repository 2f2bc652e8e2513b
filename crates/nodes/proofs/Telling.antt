-- The soundness test tells the first unsound node, and none exactly for sound pools.
-- Assumes nothing.
use Rattle.std.proofs.Common.{◌≡◌, ℕ, zero, suc, ◌+◌, ◌<◌, ◌≤◌, Bool, true, false, not, ◌&&◌, ◌||◌, eqb, ltb, List, ◌∷◌, ◌++◌, length, get_or, drop, Some, None, Option, sym, refl, ap, ◌∙◌, inl, inr, arith}
use Rattle.std.proofs.lemmas.List.{drop_more, length-append, get_or_append_left}
use Rattle.std.proofs.lemmas.Bool.{cases_lt, ltb-true, ltb-false, lt-ltb, le-ltb, eqb-true, and_parts, and_from, not-true, false≢true, cond-true, cond-false, cond_both, ne_eqb}
use Rattle.std.specs.Cmp.{booleans_Decides}
use Rattle.std.specs.List.{find, range_with_len}
use Rattle.nodes.specs.declared.node.Node.{Node}
use Rattle.nodes.specs.declared.node.NodeKind.{NodeKind}
use Rattle.nodes.specs.declared.node.NodeKind.TheVariants as Kind
use Rattle.nodes.specs.declared.form.Form.{Form}
use Rattle.nodes.specs.Records.{none_node, first_nodes}
use Rattle.nodes.specs.Reading.{at, nullable_at}
use Rattle.nodes.specs.Entering.{recorded}
use Rattle.nodes.specs.Soundness.{flag_at, sound_by, sound_as, proper, asked, first_unsound, Below, SoundAt, Sound, Told}
use Rattle.nodes.specs.Sameness.{node_from, same_exact}

abbrev Stands : List Node → ℕ → Node → Type 0
Stands p n x = (f : Form) × Below n f × (x ≡ recorded p f)

module _ (p : List Node) (begins : get_or p 0 none_node ≡ none_node) where
  -- Once node 0 is none, the flags as they stand are those that entering reads.
  flag_is : (n : ℕ) → flag_at p n ≡ nullable_at p n
  flag_is zero = ap (λ x. x.nullable) begins
  flag_is (suc n) = ap (λ x. x.nullable) (sym (cond-false (eqb (suc n) 0) none_node (get_or p (suc n) none_node) (ne_eqb (suc n) 0 (λ e. omega (arith, e)))))

  sound_by_lem : (n : ℕ) (k : NodeKind) (l r : ℕ) (e : Bool) → sound_by p n k l r e ≡ true → Stands p n (record { kind = k; left = l; right = r; nullable = e })
  sound_by_lem n Kind.None l r e h = absurd (false≢true h)
  sound_by_lem n Kind.Empty l r e h = absurd (false≢true h)
  sound_by_lem n Kind.Any l r e h = absurd (false≢true h)
  sound_by_lem n Kind.Atom l r e h =
      let a = and_parts (ltb l 32) _ h in
      let b = and_parts (eqb r 0) _ a.1 in
      (Form.Atom l, ltb-true l 32 a.0, node_from _ _ refl refl (eqb-true r 0 b.0) (not-true e b.1))
  sound_by_lem n Kind.Sequence l r e h =
      let a = and_parts (ltb l n) _ h in
      let b = and_parts (ltb r n) _ a.1 in
      (Form.Sequence l r, (ltb-true l n a.0, ltb-true r n b.0), node_from _ _ refl refl refl (rw (flag_is l, flag_is r) at ((booleans_Decides e (flag_at p l && flag_at p r)).0 b.1)))
  sound_by_lem n Kind.Or l r e h =
      let a = and_parts (ltb l n) _ h in
      let b = and_parts (ltb r n) _ a.1 in
      (Form.Or l r, (ltb-true l n a.0, ltb-true r n b.0), node_from _ _ refl refl refl (rw (flag_is l, flag_is r) at ((booleans_Decides e (flag_at p l || flag_at p r)).0 b.1)))
  sound_by_lem n Kind.And l r e h =
      let a = and_parts (ltb l n) _ h in
      let b = and_parts (ltb r n) _ a.1 in
      (Form.And l r, (ltb-true l n a.0, ltb-true r n b.0), node_from _ _ refl refl refl (rw (flag_is l, flag_is r) at ((booleans_Decides e (flag_at p l && flag_at p r)).0 b.1)))
  sound_by_lem n Kind.Star l r e h =
      let a = and_parts (ltb l n) _ h in
      let b = and_parts (eqb r 0) _ a.1 in
      (Form.Star l, ltb-true l n a.0, node_from _ _ refl refl (eqb-true r 0 b.0) b.1)
  sound_by_lem n Kind.Not l r e h =
      let a = and_parts (ltb l n) _ h in
      let b = and_parts (eqb r 0) _ a.1 in
      (Form.Not l, ltb-true l n a.0, node_from _ _ refl refl (eqb-true r 0 b.0) (rw (flag_is l) at ((booleans_Decides e (not (flag_at p l))).0 b.1)))

  pair_by : (n l r : ℕ) (b : Bool) → l < n → r < n → b ≡ true → (ltb l n && (ltb r n && b)) ≡ true
  pair_by n l r b h g e = and_from _ _ (lt-ltb l n h) (and_from _ _ (lt-ltb r n g) e)

  by_sound : (n : ℕ) (f : Form) → Below n f → sound_by p n (recorded p f).kind (recorded p f).left (recorded p f).right (recorded p f).nullable ≡ true
  by_sound n Form.None h = absurd h
  by_sound n Form.Empty h = absurd h
  by_sound n Form.Any h = absurd h
  by_sound n (Form.Atom k) h = and_from _ _ (lt-ltb k 32 h) refl
  by_sound n (Form.Sequence l r) h = pair_by n l r _ h.0 h.1 (rw (flag_is l, flag_is r) ((booleans_Decides (nullable_at p l && nullable_at p r) (nullable_at p l && nullable_at p r)).1 refl))
  by_sound n (Form.Or l r) h = pair_by n l r _ h.0 h.1 (rw (flag_is l, flag_is r) ((booleans_Decides (nullable_at p l || nullable_at p r) (nullable_at p l || nullable_at p r)).1 refl))
  by_sound n (Form.And l r) h = pair_by n l r _ h.0 h.1 (rw (flag_is l, flag_is r) ((booleans_Decides (nullable_at p l && nullable_at p r) (nullable_at p l && nullable_at p r)).1 refl))
  by_sound n (Form.Star l) h = and_from _ _ (lt-ltb l n h) refl
  by_sound n (Form.Not l) h = and_from _ _ (lt-ltb l n h) (rw (flag_is l) ((booleans_Decides (not (nullable_at p l)) (not (nullable_at p l))).1 refl))

  later_is : (n : ℕ) → 4 ≤ n → sound_as p n (get_or p n none_node) ≡ sound_by p n (get_or p n none_node).kind (get_or p n none_node).left (get_or p n none_node).right (get_or p n none_node).nullable
  later_is n h = cond-false (ltb n 4) _ _ (le-ltb n 4 h)

  proper-at : (n : ℕ) → proper p n ≡ true → SoundAt p n
  proper-at n e =
      let a = and_parts (ltb n (length p)) _ e in (
        ltb-true n (length p) a.0,
        λ h. (same_exact _ _).0 (sym (cond-true (ltb n 4) _ _ (lt-ltb n 4 h)) ∙ a.1),
        λ h. sound_by_lem n _ _ _ _ (sym (later_is n h) ∙ a.1),
      )

  at-proper : (n : ℕ) → SoundAt p n → proper p n ≡ true
  at-proper n s = and_from _ _ (lt-ltb n (length p) s.0) (elim (cases_lt n 4) [
    | inl h ↦ cond-true (ltb n 4) _ _ (lt-ltb n 4 h) ∙ (same_exact _ _).1 (s.1 h)
    | inr h ↦
        let w = s.2 h in
        later_is n h ∙ (ap (λ x. sound_by p n x.kind x.left x.right x.nullable) w.2 ∙ by_sound n w.0 w.1)
  ])

-- What a scan for the first failure finds.
module _ (f : ℕ → Bool) where
  abbrev first_failing : ℕ → ℕ → Option ℕ
  first_failing n k = find (λ m. not (f m)) (range_with_len n k)

  none_fails : (k n : ℕ) → first_failing n k ≡ None → (m : ℕ) → n ≤ m → m < n + k → f m ≡ true
  none_fails zero n e m low high = absurd (omega (arith, low, high))
  none_fails (suc k) n e m low high = go (f n) refl (none_fails k (n + 1))
    where
      go : (b : Bool) → f n ≡ b → (first_failing (n + 1) k ≡ None → (i : ℕ) → n + 1 ≤ i → i < n + 1 + k → f i ≡ true) → f m ≡ true
      go true yes-here later = elim (cases_lt n m) [
        | inl more ↦ later (rw yes-here at e) m (omega (arith, more)) (omega (arith, high))
        | inr same ↦ let here : m ≡ n = omega (arith, low, same) in rw here yes-here
      ]
      go false no-here later =
          let z : ◌≡◌ {A = Option ℕ} (Some n) None = rw no-here at e in
          absurd (let y : ◌≡◌ {A = ℕ} 0 1 = cc in omega arith)

  first_fails : (k n i : ℕ) → first_failing n k ≡ Some i → ((m : ℕ) → n ≤ m → m < i → f m ≡ true) × (f i ≡ false) × (i < n + k)
  first_fails zero n i e = absurd (let y : ◌≡◌ {A = ℕ} 0 1 = cc in omega arith)
  first_fails (suc k) n i e = go (f n) refl (first_fails k (n + 1) i)
    where
      go : (b : Bool) → f n ≡ b → (first_failing (n + 1) k ≡ Some i → ((m : ℕ) → n + 1 ≤ m → m < i → f m ≡ true) × (f i ≡ false) × (i < n + 1 + k)) →
          ((m : ℕ) → n ≤ m → m < i → f m ≡ true) × (f i ≡ false) × (i < n + suc k)
      go true yes-here later =
          let w = later (rw yes-here at e) in (
            λ m low high. elim (cases_lt n m) [
              | inl more ↦ w.0 m (omega (arith, more)) high
              | inr same ↦ let here : m ≡ n = omega (arith, low, same) in rw here yes-here
            ],
            w.1,
            omega (arith, w.2),
          )
      go false no-here later =
          let at : ◌≡◌ {A = Option ℕ} (Some n) (Some i) = rw no-here at e in
          let here : n ≡ i = cc in
          (λ m low high. absurd (omega (arith, here, low, high)), rw (← here) no-here, omega (arith, here))

module _ (p : List Node) where
  begins-proper : proper p 0 ≡ true → get_or p 0 none_node ≡ none_node
  begins-proper e = (same_exact (get_or p 0 none_node) none_node).0 (and_parts (ltb 0 (length p)) _ e).1

  asked_all : (length p ≤ asked p) × (4 ≤ asked p)
  asked_all = cond_both (ltb (length p) 4) 4 (length p) (λ k. (length p ≤ k) × (4 ≤ k))
      (λ e. (omega (arith, ltb-true (length p) 4 e), omega arith)) (λ e. (omega arith, omega (arith, ltb-false (length p) 4 e)))

  asked_which : (n : ℕ) → n < asked p → 4 ≤ length p → n < length p
  asked_which n = cond_both (ltb (length p) 4) 4 (length p) (λ k. n < k → 4 ≤ length p → n < length p)
      (λ e h four. omega (arith, ltb-true (length p) 4 e, four)) (λ e h four. h)

  four_first : 4 ≤ length p → ((n : ℕ) → n < 4 → get_or p n none_node ≡ get_or first_nodes n none_node) → p ≡ first_nodes ++ drop 4 p
  four_first long firsts =
      drop_more p 0 none_node (omega (arith, long)) ∙ (ap (λ x. x ∷ drop 1 p) (firsts 0 (omega arith)) ∙ ap (λ q. none_node ∷ q)
      (drop_more p 1 none_node (omega (arith, long)) ∙ (ap (λ x. x ∷ drop 2 p) (firsts 1 (omega arith)) ∙ ap (λ q. get_or first_nodes 1 none_node ∷ q)
      (drop_more p 2 none_node (omega (arith, long)) ∙ (ap (λ x. x ∷ drop 3 p) (firsts 2 (omega arith)) ∙ ap (λ q. get_or first_nodes 2 none_node ∷ q)
      (drop_more p 3 none_node (omega (arith, long)) ∙ ap (λ x. x ∷ drop 4 p) (firsts 3 (omega arith))))))))

  sound_from : ((n : ℕ) → n < asked p → SoundAt p n) → Sound p
  sound_from at =
      let long : 4 ≤ length p = (at 3 (omega (arith, asked_all.1))).0 in
      record {
        begins = (drop 4 p, four_first long (λ n h. (at n (omega (arith, h, asked_all.1))).1 h));
        later = λ n low there. (at n (omega (arith, there, asked_all.0))).2 low;
      }

  sound_at : Sound p → (n : ℕ) → n < length p → SoundAt p n
  sound_at sound n there = (
    there,
    λ h. ap (λ q. get_or q n none_node) sound.begins.1 ∙ get_or_append_left first_nodes sound.begins.0 none_node n h,
    λ h. sound.later n h there,
  )

  sound_long : Sound p → 4 ≤ length p
  sound_long sound = let e = ap length sound.begins.1 ∙ length-append first_nodes sound.begins.0 in omega (arith, e)

  pub tells_first_unsound : Told p (first_unsound p)
  tells_first_unsound = go (first_unsound p) refl
    where
      first : (i : ℕ) → first_unsound p ≡ Some i → Told p (Some i)
      first zero e =
          let w = first_fails (proper p) (asked p) 0 0 e in
          let bad : ¬ (SoundAt p 0) = λ s. false≢true (sym w.1 ∙ at-proper p (s.1 (omega arith)) 0 s) in
          (λ m h. absurd (omega (arith, h)), bad, λ sound. bad (sound_at sound 0 (asked_which 0 (omega (arith, w.2)) (sound_long sound))))
      first (suc i) e =
          let w = first_fails (proper p) (asked p) 0 (suc i) e in
          let zeroth = begins-proper (w.0 0 (omega arith) (omega arith)) in
          let bad : ¬ (SoundAt p (suc i)) = λ s. false≢true (sym w.1 ∙ at-proper p zeroth (suc i) s) in
          (λ m h. proper-at p zeroth m (w.0 m (omega arith) h), bad, λ sound. bad (sound_at sound (suc i) (asked_which (suc i) (omega (arith, w.2)) (sound_long sound))))

      none : first_unsound p ≡ None → Sound p
      none e =
          let w = none_fails (proper p) (asked p) 0 e in
          let zeroth = begins-proper (w 0 (omega arith) (omega (arith, asked_all.1))) in
          sound_from (λ n h. proper-at p zeroth n (w n (omega arith) (omega (arith, h))))

      go : (o : Option ℕ) → first_unsound p ≡ o → Told p o
      go (Some i) e = first i e
      go None e = none e
