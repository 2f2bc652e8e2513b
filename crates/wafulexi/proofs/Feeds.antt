-- Where the first and the last line of some bytes end and begin. Assumes nothing.
use Rattle.std.proofs.Common.{◌≡◌, ◌≢◌, ℕ, ◌+◌, ◌-◌, ◌<◌, ◌≤◌, true, false, eqb, List, length, get_or, take, drop, All, sym, ap, ◌∙◌, arith, take_all}
use Rattle.std.proofs.lemmas.List.{take_rest}
use Rattle.std.proofs.lemmas.List.Elements.{All-get_or}
use Rattle.std.proofs.lemmas.List.Sums.{prefix_len_is, suffix_len_is}
use Rattle.std.proofs.lemmas.Bool.{eq-eqb, ne_eqb, not_from_true, not_from_false}
use Rattle.std.specs.List.{prefix_len, suffix_len}
use Rattle.wafulexi.specs.Excerpts.{in_line, first_line, last_line}

goes_on : (b : ℕ) → b ≢ 10 → in_line b ≡ true
goes_on b other = not_from_false (eqb b 10) (ne_eqb b 10 other)

stops : (b : ℕ) → b ≡ 10 → in_line b ≡ false
stops b feed = not_from_true (eqb b 10) (eq-eqb b 10 feed)

-- the first line ends at the first line feed, or where the bytes end
pub first_feed : (bs : List ℕ) (i : ℕ) → i < length bs → get_or bs i 0 ≡ 10 → ((k : ℕ) → k < i → get_or bs k 0 ≢ 10) → take i bs ≡ first_line bs
unfolding first_line
first_feed bs i inside here before =
    ap (λ k. take k bs) (sym (prefix_len_is in_line bs i 0 (omega arith) (λ k h. goes_on (get_or bs k 0) (before k h)) (λ _. stops (get_or bs i 0) here)))

pub first_whole : (bs : List ℕ) → All (λ b. b ≢ 10) bs → bs ≡ first_line bs
unfolding first_line
first_whole bs none =
    let size = prefix_len_is in_line bs (length bs) 0 (omega arith) (λ k h. goes_on (get_or bs k 0) (All-get_or (λ b. b ≢ 10) bs k 0 h none)) (λ h. absurd (omega (arith, h))) in
    sym (take_all (prefix_len in_line bs) bs (omega (arith, size)))

-- the last line begins behind the last line feed, or where the bytes begin
pub last_feed : (bs : List ℕ) (i : ℕ) → i < length bs → get_or bs i 0 ≡ 10 → ((k : ℕ) → i + 1 ≤ k → k < length bs → get_or bs k 0 ≢ 10) → take (length bs - (i + 1)) (drop (i + 1) bs) ≡ last_line bs
unfolding last_line
last_feed bs i inside here after =
    let size = suffix_len_is in_line bs (i + 1) 0 (omega arith) (λ k h l. goes_on (get_or bs k 0) (after k h l)) (λ _. stops (get_or bs (i + 1 - 1) 0) (ap (λ k. get_or bs k 0) (omega arith) ∙ here)) in
    take_rest bs (i + 1) ∙ ap (λ k. drop k bs) (omega (arith, size))

pub last_whole : (bs : List ℕ) → All (λ b. b ≢ 10) bs → bs ≡ last_line bs
unfolding last_line
last_whole bs none =
    let size = suffix_len_is in_line bs 0 0 (omega arith) (λ k _ h. goes_on (get_or bs k 0) (All-get_or (λ b. b ≢ 10) bs k 0 h none)) (λ h. absurd (omega (arith, h))) in
    let at : 0 ≡ length bs - suffix_len in_line bs = omega (arith, size) in
    ap (λ k. drop k bs) at
