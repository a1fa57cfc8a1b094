-- How a list lies in an array that it need not fill: from its beginning on, with blanks behind it. Assumes nothing.
use Rattle.std.specs.Prelude.{◌≡◌, ℕ, ◌-◌, ◌≤◌, List, ◌++◌, length, take, drop, replicate}
use Rattle.std.proofs.Common.{take-append-drop, length-take-le, arith, ap, sym, ◌∙◌}

-- so many places of an array of this size are taken, and behind them it is blank
pub record HasRoom {A : Type 0} (size : ℕ) (empty : A) (count : ℕ) (room : List A) : Type 0 where
  pub fits : count ≤ size
  pub whole : length room ≡ size
  pub blank : drop count room ≡ replicate (size - count) empty

-- a list laid out so
abbrev pub laid : {A : Type 0} → ℕ → A → List A → List A
laid size empty xs = xs ++ replicate (size - length xs) empty

-- the list that an array is read as, laid out again, is that array
pub same_len : {A : Type 0} {size : ℕ} {empty : A} (count : ℕ) (room : List A) → HasRoom size empty count room → length (take count room) ≡ count
same_len count room h = length-take-le count room (omega (arith, h.fits, h.whole))

pub same_room : {A : Type 0} (size : ℕ) (empty : A) (count : ℕ) (room : List A) → HasRoom size empty count room → laid size empty (take count room) ≡ room
same_room size empty count room h =
    ap (λ n. take count room ++ replicate (size - n) empty) (same_len count room h) ∙
    ap (λ ys. take count room ++ ys) (sym h.blank) ∙
    take-append-drop count room

-- so what is read out of two arrays alike tells that they are alike
pub same_laid : {A : Type 0} (size : ℕ) (empty : A) (m n : ℕ) (xs ys : List A) → HasRoom size empty m xs → HasRoom size empty n ys → take m xs ≡ take n ys → (m ≡ n) × (xs ≡ ys)
same_laid size empty m n xs ys g h e =
    (sym (same_len m xs g) ∙ ap length e ∙ same_len n ys h, sym (same_room size empty m xs g) ∙ ap (laid size empty) e ∙ same_room size empty n ys h)
