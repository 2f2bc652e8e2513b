-- Rules as trees, and their languages over any letters that have an answer set each.
--   Rule            a sequence rule: an extended regular expression over atoms, which go by their numbers
--   has k s         the answer set s has bit k: atom k exists and admits the letter
--   Star P w        w is a run of zero or more lists that have P, one after the other
--   Lang f r w      the list w is in the language of the rule r, where f gives each letter its answer set
--   nullable r      the empty list is in the language of r
--   derivative s r  the rule of what may follow a letter with the answer set s
--   after ss r      the derivative by one answer set after the other
--   Same r s        r and s have one language, over answer sets themselves as letters
-- Assumes nothing.
use Rattle.std.specs.Prelude.{◌≡◌, ℕ, ◌/◌, ◌%◌, ◌^◌, Bool, true, false, cond, ◌&&◌, ◌||◌, ◌⊎◌, List, [], ◌∷◌, ◌++◌, ◌==◌}

pub data Rule : Type 0 where
  none : Rule
  empty : Rule
  any : Rule
  atom : ℕ → Rule
  sequence : Rule → Rule → Rule
  or : Rule → Rule → Rule
  and : Rule → Rule → Rule
  star : Rule → Rule
  not : Rule → Rule

abbrev pub has : ℕ → ℕ → Bool
has k s = s / 2 ^ k % 2 == 1

pub data Star {L : Type 0} (P : List L → Type 0) : List L → Type 0 where
  stop : {w : List L} → w ≡ [] → Star P w
  more : {w : List L} (u v : List L) → w ≡ u ++ v → P u → Star P v → Star P w

abbrev pub Lang : {L : Type 0} → (L → ℕ) → Rule → List L → Type 0
Lang f none w = ⊥
Lang f empty w = w ≡ []
Lang {L} f any w = (l : L) × (w ≡ l ∷ [])
Lang {L} f (atom k) w = (l : L) × (w ≡ l ∷ []) × (has k (f l) ≡ true)
Lang {L} f (sequence r s) w = (u : List L) × (v : List L) × (w ≡ u ++ v) × Lang f r u × Lang f s v
Lang f (or r s) w = Lang f r w ⊎ Lang f s w
Lang f (and r s) w = Lang f r w × Lang f s w
Lang f (star r) w = Star (Lang f r) w
Lang f (not r) w = ¬ (Lang f r w)

abbrev pub nullable : Rule → Bool
nullable none = false
nullable empty = true
nullable any = false
nullable (atom k) = false
nullable (sequence r s) = nullable r && nullable s
nullable (or r s) = nullable r || nullable s
nullable (and r s) = nullable r && nullable s
nullable (star r) = true
nullable (not r) = cond (nullable r) false true

abbrev pub derivative : ℕ → Rule → Rule
derivative s none = none
derivative s empty = none
derivative s any = empty
derivative s (atom k) = cond (has k s) empty none
derivative s (sequence r q) = cond (nullable r) (or (sequence (derivative s r) q) (derivative s q)) (sequence (derivative s r) q)
derivative s (or r q) = or (derivative s r) (derivative s q)
derivative s (and r q) = and (derivative s r) (derivative s q)
derivative s (star r) = sequence (derivative s r) (star r)
derivative s (not r) = not (derivative s r)

abbrev pub after : List ℕ → Rule → Rule
after [] r = r
after (s ∷ ss) r = after ss (derivative s r)

abbrev pub Same : Rule → Rule → Type 0
Same r q = (w : List ℕ) → (Lang (λ s. s) r w → Lang (λ s. s) q w) × (Lang (λ s. s) q w → Lang (λ s. s) r w)
