-- The places of the atoms, those in use and those behind them.
--   unused         the entry at a place that is not in use
--   padded es      the entries es, and unused ones behind them up to 32
--   IsPadded n xs  xs are 32 entries, the first n of them in use and the others unused
--   used_is, padded_is    the entries in use tell how many they are, and all 32
-- Assumes nothing.
use Rattle.std.specs.Prelude.{◌≡◌, ℕ, ◌-◌, ◌≤◌, List, ◌++◌, drop, length, take, replicate}
use Rattle.std.proofs.Common.{sym, ap, ◌∙◌, arith}
use Rattle.std.proofs.lemmas.List.{length-take-le, take-append-drop}
use Rattle.surveys.specs.declared.entry.Entry.{Entry}

abbrev pub unused : Entry
unused = record { place = 0; length = 0 }

abbrev pub padded : List Entry → List Entry
padded es = es ++ replicate (32 - length es) unused

pub record IsPadded (n : ℕ) (xs : List Entry) : Type 0 where
  pub few : n ≤ 32
  pub all : length xs ≡ 32
  pub rest : drop n xs ≡ replicate (32 - n) unused

pub used_is : (n : ℕ) (xs : List Entry) → IsPadded n xs → length (take n xs) ≡ n
used_is n xs is = let few = is.few in let all = is.all in length-take-le n xs (omega arith)

pub padded_is : (n : ℕ) (xs : List Entry) → IsPadded n xs → padded (take n xs) ≡ xs
padded_is n xs is =
    ap (λ k. take n xs ++ replicate (32 - k) unused) (used_is n xs is)
    ∙ ap (λ rest. take n xs ++ rest) (sym is.rest)
    ∙ take-append-drop n xs
