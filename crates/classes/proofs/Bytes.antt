-- All bytes, and the laws of their classes by any key.
-- Assumes nothing.
use Rattle.std.proofs.Common.{◌≡◌, ℕ, ◌+◌, ◌-◌, ◌<◌, ◌≤◌, List, ◌∷◌, ◌++◌, length, map, get_or, Some, None, sym, subst, ap, ◌∙◌, arith}
use Rattle.std.proofs.lemmas.List.FromFn.{get_or-map-range_with_len, fill_by_all}
use Rattle.std.specs.List.{slice_get}
use Rattle.alphabets.specs.declared.kind.Kind.{Kind}
use Rattle.alphabets.specs.Laws.{Counted, Classed, Sampled, Bounded}
use Rattle.classes.specs.Rising.{rising}
use Rattle.classes.specs.Bytes.{all_bytes}
use Rattle.classes.specs.Meeting.{firsts, keys_of, class_in}
use Rattle.classes.specs.Found.{Found, Out, made, met}
use Rattle.classes.proofs.Rising.{rising_at, rising_push, all_rising}
use Rattle.classes.proofs.Filling.{got, got_none}
use Rattle.classes.proofs.Laws.{Lists}
use Rattle.classes.proofs.Laws.{counted as counted_by, classed as classed_by, sampled as sampled_by, bounded as bounded_by}

-- The first n numbers are the numbers below n.
below : (n : ℕ) → Lists (λ b. b < n) (rising 0 n)
below n = record {
  each = all_rising (λ b. b < n) 0 n (λ b low high. omega arith);
  every = λ b h. record { before = rising 0 (b - 0); behind = rising (b + 1) (0 + n - (b + 1)); parts = rising_at 0 n b (omega arith) (omega arith) };
}

pub bytes_listed : Lists (λ b. b < 256) all_bytes
unfolding all_bytes
bytes_listed = below 256

-- A table of all bytes by some function has, at each byte, what the function gives.
table : (f : ℕ → ℕ) (n b : ℕ) → b < n → get_or (map f (rising 0 n)) b 0 ≡ f b
unfolding rising
table f n b h = get_or-map-range_with_len f 0 n b b 0 h (omega arith)

pub table_at : (f : ℕ → ℕ) (b : ℕ) → b < 256 → get_or (map f all_bytes) b 0 ≡ f b
unfolding all_bytes
table_at f b h = table f 256 b h

-- And what does so is that table.
table_of : (f : ℕ → ℕ) (xs : List ℕ) (n : ℕ) → length xs ≡ n → ((b : ℕ) → b < n → get_or xs b 0 ≡ f b) → xs ≡ map f (rising 0 n)
unfolding rising
table_of f xs n long at = fill_by_all f xs n 0 long at

pub table_is : (f : ℕ → ℕ) (xs : List ℕ) → length xs ≡ 256 → ((b : ℕ) → b < 256 → get_or xs b 0 ≡ f b) → xs ≡ map f all_bytes
unfolding all_bytes
table_is f xs long at = table_of f xs 256 long at

-- A byte with the bytes before it and those behind it.
bytes_behind : ℕ → List ℕ
bytes_behind n = rising (n + 1) (256 - (n + 1))

before_and_behind : (n b : ℕ) → b < n → rising 0 n ≡ rising 0 b ++ (b ∷ rising (b + 1) (n - (b + 1)))
before_and_behind n b h =
    let low : b - 0 ≡ b = omega arith in
    let high : 0 + n - (b + 1) ≡ n - (b + 1) = omega arith in
    rising_at 0 n b (omega arith) (omega arith)
    ∙ ap (λ k. rising 0 k ++ (b ∷ rising (b + 1) (0 + n - (b + 1)))) low
    ∙ ap (λ k. rising 0 b ++ (b ∷ rising (b + 1) k)) high

bytes_apart : (b : ℕ) → b < 256 → all_bytes ≡ rising 0 b ++ (b ∷ bytes_behind b)
unfolding all_bytes bytes_behind
bytes_apart b h = before_and_behind 256 b h

-- A byte that is met behind those below it got the class that it has among all bytes.
pub record ByteGot (key : ℕ → ℕ) (b i : ℕ) (after : Found ℕ) : Type 0 where
  pub on : after ≡ made key (firsts key (rising 0 (b + 1)))
  pub class : class_in key all_bytes b ≡ i
  pub few : length (firsts key (rising 0 b)) ≤ 255 → length (firsts key (rising 0 (b + 1))) ≤ 255

module _ (key : ℕ → ℕ) (b : ℕ) (inside : b < 256) where
  pub byte_got : (i : ℕ) (after : Found ℕ) → ◌≡◌ {A = Out ℕ} (Some i, after) (met (made key (firsts key (rising 0 b))) b (key b)) → ByteGot key b i after
  byte_got i after h =
      let g = got key (rising 0 b) (bytes_behind b) b i after h in
      let more = sym (rising_push 0 b b (omega arith)) in
      record {
        on = g.on ∙ ap (λ bs. made key (firsts key bs)) more;
        few = λ h. subst (λ bs. length (firsts key bs) ≤ 255) more (g.few h);
        class = ap (λ bs. class_in key bs b) (bytes_apart b inside) ∙ g.class;
      }

  pub byte_got_none : (after : Found ℕ) → ◌≡◌ {A = Out ℕ} (None, after) (met (made key (firsts key (rising 0 b))) b (key b)) → 255 < length (firsts key all_bytes)
  byte_got_none after h = subst (λ bs. 255 < length (firsts key bs)) (sym (bytes_apart b inside)) (got_none key (rising 0 b) (bytes_behind b) b after h)

module _ (key : ℕ → ℕ) where
  pub counted : (k : Kind) → length (firsts key all_bytes) ≤ 255 → Counted k (length (firsts key all_bytes))
  counted k most = counted_by (λ b. b < 256) key all_bytes bytes_listed k 0 (omega arith) most

  pub classed : Classed (λ b. b < 256) (length (firsts key all_bytes)) (class_in key all_bytes) (λ k. slice_get (keys_of key all_bytes) k) key
  classed = classed_by (λ b. b < 256) key all_bytes bytes_listed

  pub sampled : Sampled (λ b. b < 256) (length (firsts key all_bytes)) (class_in key all_bytes) (λ k. slice_get (firsts key all_bytes) k)
  sampled = sampled_by (λ b. b < 256) key all_bytes bytes_listed

  pub bounded : Bounded (length (firsts key all_bytes)) (λ k. slice_get (keys_of key all_bytes) k) (λ k. slice_get (firsts key all_bytes) k)
  bounded = bounded_by (λ b. b < 256) key all_bytes bytes_listed
