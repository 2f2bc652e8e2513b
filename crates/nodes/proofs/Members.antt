-- Merging a member at a time comes to merging the lists of members.
-- Assumes nothing.
use Rattle.std.proofs.Common.{◌≡◌, ℕ, zero, suc, ◌+◌, ◌<◌, ◌≤◌, Bool, true, false, eqb, ltb, List, ◌∷◌, Some, None, Ok, Option, sym, refl, ap, ◌∙◌, arith}
use Rattle.std.proofs.lemmas.Bool.{ltb-true, true≢false}
use Rattle.nodes.specs.declared.node.Node.{Node}
use Rattle.nodes.specs.declared.node.NodeKind.{NodeKind}
use Rattle.nodes.specs.declared.node.NodeKind.TheVariants as Kind
use Rattle.nodes.specs.declared.merging.Join.{Join}
use Rattle.nodes.specs.declared.merging.Members.{Members}
use Rattle.nodes.specs.declared.merging.Next.{Next}
use Rattle.nodes.specs.Reading.{part, form_by, form_at, at}
use Rattle.nodes.specs.Entering.{Held, Out, bind, kept, joined, joints, members, members_by, merge, chained}
use Rattle.nodes.specs.Merging.{members_of, split_of, first_of, picked_of, is_last, ahead}

none≢some : {X : Type 0} {x : X} → None ≡ Some x → ⊥
none≢some e = let z : ◌≡◌ {A = ℕ} 0 1 = cc in omega arith

joints_parts : (j : Join) (k : NodeKind) (n l r : ℕ) (lr : ℕ × ℕ) → joints j (form_by k n l r) ≡ Some lr → lr ≡ (part n l, part n r)
joints_parts Join.Or Kind.None n l r lr e = absurd (none≢some e)
joints_parts Join.Or Kind.Empty n l r lr e = absurd (none≢some e)
joints_parts Join.Or Kind.Any n l r lr e = absurd (none≢some e)
joints_parts Join.Or Kind.Atom n l r lr e = absurd (none≢some e)
joints_parts Join.Or Kind.Sequence n l r lr e = absurd (none≢some e)
joints_parts Join.Or Kind.Or n l r lr e = cc
joints_parts Join.Or Kind.And n l r lr e = absurd (none≢some e)
joints_parts Join.Or Kind.Star n l r lr e = absurd (none≢some e)
joints_parts Join.Or Kind.Not n l r lr e = absurd (none≢some e)
joints_parts Join.And Kind.None n l r lr e = absurd (none≢some e)
joints_parts Join.And Kind.Empty n l r lr e = absurd (none≢some e)
joints_parts Join.And Kind.Any n l r lr e = absurd (none≢some e)
joints_parts Join.And Kind.Atom n l r lr e = absurd (none≢some e)
joints_parts Join.And Kind.Sequence n l r lr e = absurd (none≢some e)
joints_parts Join.And Kind.Or n l r lr e = absurd (none≢some e)
joints_parts Join.And Kind.And n l r lr e = cc
joints_parts Join.And Kind.Star n l r lr e = absurd (none≢some e)
joints_parts Join.And Kind.Not n l r lr e = absurd (none≢some e)

pub part_below : (n m : ℕ) → 0 < n → part n m < n
part_below n m h = go (ltb m n) refl
  where
    go : (b : Bool) → ltb m n ≡ b → part n m < n
    go true e = rw e (ltb-true m n e)
    go false e = rw e h

-- What the rest of a node's members go by is smaller than the node.
rest_below : (j : Join) (p : List Node) (n : ℕ) (lr : ℕ × ℕ) → joints j (form_at p n) ≡ Some lr → lr.1 < n
rest_below Join.Or p zero lr e = absurd (none≢some e)
rest_below Join.And p zero lr e = absurd (none≢some e)
rest_below j p (suc n) lr e =
    let is = joints_parts j (at p (suc n)).kind (suc n) (at p (suc n)).left (at p (suc n)).right lr e in
    rw (ap (λ t. t.1) is) (part_below (suc n) (at p (suc n)).right (omega arith))

module _ (j : Join) (p : List Node) where
  -- As long as it is above the node, the depth does not matter.
  members_deep : (k m n : ℕ) → n < k → n < m → members j p k n ≡ members j p m n
  unfolding members
  members_deep zero m n h i = absurd (omega arith)
  members_deep (suc k) zero n h i = absurd (omega arith)
  members_deep (suc k) (suc m) n h i = go (joints j (form_at p n)) refl (members_deep k m)
    where
      go : (o : Option (ℕ × ℕ)) → joints j (form_at p n) ≡ o → ((q : ℕ) → q < k → q < m → members j p k q ≡ members j p m q) →
          members_by (members j p k) n (joints j (form_at p n)) ≡ members_by (members j p m) n (joints j (form_at p n))
      go None e deep = rw e
      go (Some lr) e deep =
          let below = rest_below j p n lr e in
          rw e (ap (λ ms. lr.0 ∷ ms) (deep lr.1 (omega arith) (omega arith)))

  split_members : (n : ℕ) → members_of j p (Some n) ≡ (split_of j p n).first ∷ members_of j p (split_of j p n).rest
  unfolding members
  split_members n = go (joints j (form_at p n)) refl
    where
      go : (o : Option (ℕ × ℕ)) → joints j (form_at p n) ≡ o →
          members_by (members j p n) n (joints j (form_at p n)) ≡ (split_of j p n).first ∷ members_of j p (split_of j p n).rest
      go None e = rw e
      go (Some lr) e =
          let below = rest_below j p n lr e in
          rw e (ap (λ ms. lr.0 ∷ ms) (members_deep n (suc lr.1) lr.1 below (omega arith)))

  -- The members merged, where the first of them and what is left are given.
  abbrev pub following : Next → List ℕ
  following n = merge (members_of j p n.left) (members_of j p n.right)

  abbrev listed : Next → List ℕ
  listed n = n.member ∷ following n

  -- All members are the first and then the rest.
  abbrev IsSplit : Members → Type 0
  IsSplit m = members_of j p (Some m.all) ≡ m.first ∷ members_of j p m.rest

  first-listed : (l r : Members) → IsSplit l → IsSplit r → merge (l.first ∷ members_of j p l.rest) (r.first ∷ members_of j p r.rest) ≡ listed (first_of l r)
  first-listed l r of-l of-r = go (ltb l.first r.first) (eqb l.first r.first) refl refl
    where
      go : (b c : Bool) → ltb l.first r.first ≡ b → eqb l.first r.first ≡ c →
          merge (l.first ∷ members_of j p l.rest) (r.first ∷ members_of j p r.rest) ≡ listed (first_of l r)
      go true c e f = rw e (ap (λ zs. l.first ∷ merge (members_of j p l.rest) zs) (sym of-r))
      go false true e f = rw (e, f)
      go false false e f = rw (e, f) (ap (λ zs. r.first ∷ merge zs (members_of j p r.rest)) (sym of-l))

  first_falls : (l r : Members) → ahead l.rest ≤ l.all → ahead r.rest ≤ r.all → ahead (first_of l r).left + ahead (first_of l r).right < (l.all + 1) + (r.all + 1)
  first_falls l r of-l of-r = go (ltb l.first r.first) (eqb l.first r.first) refl refl
    where
      go : (b c : Bool) → ltb l.first r.first ≡ b → eqb l.first r.first ≡ c → ahead (first_of l r).left + ahead (first_of l r).right < (l.all + 1) + (r.all + 1)
      go true c e f = rw e (omega arith)
      go false true e f = rw (e, f) (omega arith)
      go false false e f = rw (e, f) (omega arith)

  split_falls : (n : ℕ) → ahead (split_of j p n).rest ≤ n
  split_falls n = go (joints j (form_at p n)) refl
    where
      go : (o : Option (ℕ × ℕ)) → joints j (form_at p n) ≡ o → ahead (split_of j p n).rest ≤ n
      go None e = rw e (omega arith)
      go (Some lr) e = rw e (omega (arith, rest_below j p n lr e))

  picked_falls : (l r : Option ℕ) → is_last (picked_of j p l r) ≡ false → ahead (picked_of j p l r).left + ahead (picked_of j p l r).right < ahead l + ahead r
  picked_falls None None e = absurd (true≢false e)
  picked_falls (Some l) None e = omega (arith, split_falls l)
  picked_falls None (Some r) e = omega (arith, split_falls r)
  picked_falls (Some l) (Some r) e = first_falls (split_of j p l) (split_of j p r) (split_falls l) (split_falls r)

  abbrev pub both : Option ℕ → Option ℕ → List ℕ
  both l r = merge (members_of j p l) (members_of j p r)

  -- What is not empty begins with what is picked.
  left_listed : (l : ℕ) (r : Option ℕ) → both (Some l) r ≡ listed (picked_of j p (Some l) r)
  left_listed l None = rw (split_members l)
  left_listed l (Some r) = rw (split_members l, split_members r) (first-listed (split_of j p l) (split_of j p r) (split_members l) (split_members r))

  right_listed : (l : Option ℕ) (r : ℕ) → both l (Some r) ≡ listed (picked_of j p l (Some r))
  right_listed None r = split_members r
  right_listed (Some l) r = left_listed l (Some r)

  chained_two : (x : ℕ) (n : Next) (zs : List ℕ) (h : Held) → zs ≡ listed n → chained j (x ∷ zs) h ≡ bind (chained j zs h) (λ r g. kept (joined j x r) g)
  chained_two x n zs h e = rw e

  -- A member with nothing left, and one with more.
  chained_last : (x : ℕ) (l r : Option ℕ) (h : Held) → is_last record { member = x; left = l; right = r } ≡ true → chained j (x ∷ both l r) h ≡ (Ok x, h)
  chained_last x None None h e = refl
  chained_last x None (Some r) h e = absurd (true≢false (sym e))
  chained_last x (Some l) r h e = absurd (true≢false (sym e))

  chained_more : (x : ℕ) (l r : Option ℕ) (h : Held) → is_last record { member = x; left = l; right = r } ≡ false →
      chained j (x ∷ both l r) h ≡ bind (chained j (both l r) h) (λ q g. kept (joined j x q) g)
  chained_more x None None h e = absurd (true≢false e)
  chained_more x None (Some r) h e = chained_two x (picked_of j p None (Some r)) (both None (Some r)) h (right_listed None r)
  chained_more x (Some l) r h e = chained_two x (picked_of j p (Some l) r) (both (Some l) r) h (left_listed l r)

  -- Merging by the member that is picked next.
  merge_last : (l r : Option ℕ) (h : Held) → is_last (picked_of j p l r) ≡ true → chained j (both l r) h ≡ (Ok (picked_of j p l r).member, h)
  merge_last None None h e = refl
  merge_last None (Some r) h e = let n = picked_of j p None (Some r) in rw (right_listed None r) (chained_last n.member n.left n.right h e)
  merge_last (Some l) r h e = let n = picked_of j p (Some l) r in rw (left_listed l r) (chained_last n.member n.left n.right h e)

  merge_more : (l r : Option ℕ) (h : Held) → is_last (picked_of j p l r) ≡ false →
      chained j (both l r) h ≡ bind (chained j (following (picked_of j p l r)) h) (λ q g. kept (joined j (picked_of j p l r).member q) g)
  merge_more None None h e = absurd (true≢false e)
  merge_more None (Some r) h e = let n = picked_of j p None (Some r) in rw (right_listed None r) (chained_more n.member n.left n.right h e)
  merge_more (Some l) r h e = let n = picked_of j p (Some l) r in rw (left_listed l r) (chained_more n.member n.left n.right h e)

  -- The same where n is what was picked.
  pub picked_last : (l r : Option ℕ) (n : Next) (h : Held) → n ≡ picked_of j p l r → true ≡ is_last n → ◌≡◌ {A = Out} (Ok n.member, h) (chained j (both l r) h)
  picked_last l r n h is e = rw is (sym (merge_last l r h (sym (e ∙ ap is_last is))))

  pub picked_more : (l r : Option ℕ) (n : Next) (h : Held) → n ≡ picked_of j p l r → false ≡ is_last n →
      (o : Out) → o ≡ chained j (following n) h → bind o (λ q g. kept (joined j n.member q) g) ≡ chained j (both l r) h
  picked_more l r n h is e o comes = rw (comes, is) (sym (merge_more l r h (sym (e ∙ ap is_last is))))

  pub ahead_falls : (l r : Option ℕ) (n : Next) → n ≡ picked_of j p l r → false ≡ is_last n → ahead n.left + ahead n.right < ahead l + ahead r
  ahead_falls l r n is e = rw is (picked_falls l r (sym (e ∙ ap is_last is)))
