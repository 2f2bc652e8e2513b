-- Which pools are sound, and the first node that is not. The records are looked at as they stand.
--   flag_at p n      the flag of the record n
--   sound_by p n k l r e   a later node n with the kind k, the fields l and r and the flag e is sound
--   sound_as p n x   the record x is sound as node n: it is the one of the nodes 0 to 3, or a sound later one
--   proper p n       node n is there and sound
--   asked p          how many nodes are asked about: those there are, and at least the nodes 0 to 3
--   first_unsound p  the first of these that is not proper
--   Below n f        f is a form of a later node n: its parts are smaller than n, its atom is below 32
--   SoundAt p n      node n is there, and is the one of the nodes 0 to 3, or later the record of a form below it
--   Sound p          the nodes 0 to 3 stand first, and each later record is that of a form below it
--   Told p o         what o says of p: nothing unsound, or the first unsound node
-- Assumes nothing.
use Rattle.std.specs.Prelude.{◌≡◌, ℕ, ◌<◌, ◌≤◌, Bool, false, cond, not, ◌&&◌, ◌||◌, List, ◌++◌, length, get_or, Some, None, Option, ◌==◌, nat_lt, slice_index_or}
use Rattle.std.specs.List.{find, range_with_len}
use Rattle.nodes.specs.declared.node.Node.{Node}
use Rattle.nodes.specs.declared.node.NodeKind.{NodeKind}
use Rattle.nodes.specs.declared.node.NodeKind.TheVariants as Kind
use Rattle.nodes.specs.declared.form.Form.{Form}
use Rattle.nodes.specs.Records.{none_node, same_flag, same_node, first_nodes}
use Rattle.nodes.specs.Entering.{recorded}

abbrev pub flag_at : List Node → ℕ → Bool
flag_at p n = (get_or p n none_node).nullable

abbrev pub sound_by : List Node → ℕ → NodeKind → ℕ → ℕ → Bool → Bool
sound_by p n Kind.None l r e = false
sound_by p n Kind.Empty l r e = false
sound_by p n Kind.Any l r e = false
sound_by p n Kind.Atom l r e = nat_lt l 32 && (r == 0 && not e)
sound_by p n Kind.Sequence l r e = nat_lt l n && (nat_lt r n && same_flag e (flag_at p l && flag_at p r))
sound_by p n Kind.Or l r e = nat_lt l n && (nat_lt r n && same_flag e (flag_at p l || flag_at p r))
sound_by p n Kind.And l r e = nat_lt l n && (nat_lt r n && same_flag e (flag_at p l && flag_at p r))
sound_by p n Kind.Star l r e = nat_lt l n && (r == 0 && e)
sound_by p n Kind.Not l r e = nat_lt l n && (r == 0 && same_flag e (not (flag_at p l)))

abbrev pub sound_as : List Node → ℕ → Node → Bool
sound_as p n x = cond (nat_lt n 4) (same_node x (slice_index_or first_nodes n none_node)) (sound_by p n x.kind x.left x.right x.nullable)

abbrev pub proper : List Node → ℕ → Bool
proper p n = nat_lt n (length p) && sound_as p n (slice_index_or p n none_node)

abbrev pub asked : List Node → ℕ
asked p = cond (nat_lt (length p) 4) 4 (length p)

abbrev pub first_unsound : List Node → Option ℕ
first_unsound p = find (λ n. not (proper p n)) (range_with_len 0 (asked p))

abbrev pub Below : ℕ → Form → Type 0
Below n Form.None = ⊥
Below n Form.Empty = ⊥
Below n Form.Any = ⊥
Below n (Form.Atom k) = k < 32
Below n (Form.Sequence l r) = (l < n) × (r < n)
Below n (Form.Or l r) = (l < n) × (r < n)
Below n (Form.And l r) = (l < n) × (r < n)
Below n (Form.Star l) = l < n
Below n (Form.Not l) = l < n

abbrev pub SoundAt : List Node → ℕ → Type 0
SoundAt p n =
    (n < length p)
    × (n < 4 → slice_index_or p n none_node ≡ slice_index_or first_nodes n none_node)
    × (4 ≤ n → (f : Form) × Below n f × (slice_index_or p n none_node ≡ recorded p f))

pub record Sound (p : List Node) : Type 0 where
  pub begins : (later : List Node) × (p ≡ first_nodes ++ later)
  pub later : (n : ℕ) → 4 ≤ n → n < length p → (f : Form) × Below n f × (slice_index_or p n none_node ≡ recorded p f)

abbrev pub Told : List Node → Option ℕ → Type 0
Told p None = Sound p
Told p (Some n) = ((m : ℕ) → m < n → SoundAt p m) × ¬ (SoundAt p n) × ¬ (Sound p)
