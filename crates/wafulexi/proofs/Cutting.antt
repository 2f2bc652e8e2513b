-- What an excerpt is put together from. Assumes nothing.
use Rattle.std.proofs.Common.{◌≡◌, ℕ, zero, suc, List, [], ◌∷◌, ◌++◌, length, replicate, codes, refl, ap}
use Rattle.std.specs.List.{repeat}
use Rattle.wafulexi.specs.Excerpts.{pointed}

-- by the texts of its parts
pub pointed-is : (b a i x y : List ℕ) → b ≡ x → a ≡ y → i ≡ replicate (length b) 32 → b ++ (a ++ (codes "\n" ++ (i ++ codes "^"))) ≡ pointed x y
pointed-is b a i x y before after indent = rw (indent, before, after)

pub repeat_one : (n x : ℕ) → repeat n (x ∷ []) ≡ replicate n x
repeat_one zero x = refl
repeat_one (suc n) x = ap (λ xs. x ∷ xs) (repeat_one n x)
