-- A book in which things are numbered in the order in which they are first met.
--   Pages           what a book holds: the things in use, what stands past them, and the count that it shows
--   pages items n   the pages of a book over items that shows the count n; one that shows too many is full
--   Out             a number, or none, and the pages afterwards
--   numbered eq pg x   the number of x and the pages afterwards: a thing in use keeps its number, a new one gets the
--                   next number if there is a place for it. placed and unless_found are its steps
--   Means eq x p o q   what the answer o says, where p were the pages before numbering x and q are those after
-- Assumes nothing.
use Rattle.std.specs.Prelude.{◌≡◌, ℕ, ◌+◌, Bool, ◌⊎◌, List, [], ◌∷◌, ◌++◌, length, take, drop, Some, None, Option, MatchOption}
use Rattle.numbering.specs.Finding.{first_equal, Absent, First}

pub record Pages (T : Type 0) : Type 0 where
  pub used : List T
  pub past : List T
  pub count : ℕ

abbrev pub pages : {T : Type 0} → List T → ℕ → Pages T
pages items n = record { used = take n items; past = drop n items; count = n }

abbrev pub Out : Type 0 → Type 0
Out T = Option ℕ × Pages T

abbrev pub placed : {T : Type 0} → T → Pages T → List T → Out T
placed x pg [] = (None, pg)
placed x pg (y ∷ ys) = (Some (length pg.used), record { used = pg.used ++ (x ∷ []); past = ys; count = pg.count + 1 })

abbrev pub unless_found : {T : Type 0} → T → Pages T → Option ℕ → Out T
unless_found x pg (Some i) = (Some i, pg)
unless_found x pg None = placed x pg pg.past

abbrev pub numbered : {T : Type 0} → (T → T → Bool) → Pages T → T → Out T
numbered eq pg x = unless_found x pg (first_equal eq pg.used x)

pub record Means {T : Type 0} (eq : T → T → Bool) (x : T) (p : Pages T) (o : Option ℕ) (q : Pages T) : Type 0 where
  -- What was in use keeps its place, and nothing but x comes new.
  pub kept : (q.used ≡ p.used) ⊎ (q.used ≡ p.used ++ (x ∷ []))
  -- An answer is the place of x, which stands nowhere before it. Without one x is not in use, all places are
  -- taken, and all is as it was.
  pub answer : MatchOption o (Absent x p.used × (p.past ≡ []) × (q ≡ p)) (First x q.used)
  -- Met again, x gets the same answer, and nothing changes.
  pub again : ◌≡◌ {A = Out T} (numbered eq q x) (o, q)
