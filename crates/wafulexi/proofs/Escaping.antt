-- How an escaped text grows, byte by byte. Below, s is the text before a push, and t the text after it. Assumes nothing.
use Rattle.std.proofs.Common.{◌≡◌, ℕ, ◌+◌, ◌/◌, ◌%◌, ◌<◌, false, List, [], ◌∷◌, ◌++◌, length, get_or, take, codes, sym, refl, ap, ◌∙◌, append_assoc, append-nil, arith}
use lib.Utf8.{encode}
use Rattle.std.proofs.lemmas.List.{take_more}
use Rattle.std.proofs.lemmas.Bool.Decides.{nat_tests}
use Rattle.std.specs.Char.{digit_char}
use Rattle.wafulexi.specs.Escapes.{escape, escaped}
use Rattle.wording.specs.Wording.{prints}

pub escaped_nil : escaped [] ≡ []
unfolding escaped
escaped_nil = refl

escaped_push : (bs : List ℕ) (b : ℕ) → escaped (bs ++ b ∷ []) ≡ escaped bs ++ escape b
unfolding escaped
escaped_push [] b = append-nil (escape b)
escaped_push (x ∷ bs) b = ap (λ t. escape x ++ t) (escaped_push bs b) ∙ sym (append_assoc (escape x) (escaped bs) (escape b))

pub one_more : (bs : List ℕ) (i : ℕ) (s t : List ℕ) → i < length bs → s ≡ escaped (take i bs) → t ≡ s ++ escape (get_or bs i 0) → t ≡ escaped (take (i + 1) bs)
one_more bs i s t within before after = rw (take_more bs i 0 within, escaped_push, ← before) after

-- a byte that does not print is pushed in three parts, the last two of which are digits
pub in_hex : (s t u v : List ℕ) (b : ℕ) → prints b ≡ false → t ≡ s ++ codes "\\x" → u ≡ t ++ digit_char (b / 16) ∷ [] → v ≡ u ++ digit_char (b % 16) ∷ [] → v ≡ s ++ escape b
in_hex s t u v b e first second third = rw (e, third, second, first) (simp append_assoc)

pub digit : (s t : List ℕ) (d c : ℕ) → d < 16 → c ≡ digit_char d → (c < 128 → encode c ≡ c ∷ []) → t ≡ s ++ encode c → t ≡ s ++ digit_char d ∷ []
digit s t d c small is ascii after = after ∙ rw (ascii (grind (arith, nat_tests)), is)
