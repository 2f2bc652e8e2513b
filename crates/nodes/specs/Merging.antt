-- Merging, a member at a time. A list of members goes by the node whose members it is, or by no node if it is empty.
--   members_of j p o    the members that o goes for
--   split_of j p n      the members of node n of p, the first apart from the rest
--   first_of l r        the next member of l and r merged, and what is left of either
--   picked_of j p l r   the same for what may be empty
--   is_last n           nothing is left behind that member
--   ahead o             how much o may still go for
-- Assumes nothing.
use Rattle.std.specs.Prelude.{ℕ, suc, ◌+◌, Bool, cond, not, ◌&&◌, List, [], is_some, Some, None, Option, ◌==◌, nat_lt}
use Rattle.std.specs.Option.{option_map, option_map_or}
use Rattle.nodes.specs.declared.node.Node.{Node}
use Rattle.nodes.specs.declared.merging.Join.{Join}
use Rattle.nodes.specs.declared.merging.Members.{Members}
use Rattle.nodes.specs.declared.merging.Next.{Next}
use Rattle.nodes.specs.Reading.{form_at}
use Rattle.nodes.specs.Entering.{joints, members}

abbrev pub members_of : Join → List Node → Option ℕ → List ℕ
members_of j p None = []
members_of j p (Some n) = members j p (suc n) n

abbrev pub split_of : Join → List Node → ℕ → Members
split_of j p n =
    let parts = joints j (form_at p n) in
    record { all = n; first = option_map_or (λ lr. lr.0) parts n; rest = option_map (λ lr. lr.1) parts }

abbrev pub first_of : Members → Members → Next
first_of l r =
    cond (nat_lt l.first r.first) record { member = l.first; left = l.rest; right = Some r.all }
    (cond (l.first == r.first) record { member = l.first; left = l.rest; right = r.rest } record { member = r.first; left = Some l.all; right = r.rest })

abbrev pub picked_of : Join → List Node → Option ℕ → Option ℕ → Next
picked_of j p None None = record { member = 0; left = None; right = None }
picked_of j p (Some l) None = record { member = (split_of j p l).first; left = (split_of j p l).rest; right = None }
picked_of j p None (Some r) = record { member = (split_of j p r).first; left = None; right = (split_of j p r).rest }
picked_of j p (Some l) (Some r) = first_of (split_of j p l) (split_of j p r)

abbrev pub is_last : Next → Bool
is_last n = not (is_some n.left) && not (is_some n.right)

abbrev pub ahead : Option ℕ → ℕ
ahead None = 0
ahead (Some n) = n + 1
