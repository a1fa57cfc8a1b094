-- Bits that stand. Assumes nothing.
use Rattle.std.proofs.Common.{◌≡◌, ℕ, ap, arith}
use Rattle.std.proofs.lemmas.Nat.Bits.{same_from_bits, bit_at_and, bit_at_or}
use Rattle.std.specs.Int.{bit_at}
use lib.Bits.{bit_and, bit_or}

-- a number has every bit of its own
pub own_bits : (a m : ℕ) → bit_or a (bit_and a m) ≡ a
own_bits a m = same_from_bits _ _ (λ i. omega (arith, bit_at_or a (bit_and a m) i, bit_at_and a m i))

-- bits that stand stand with more
pub with_more : (x y z : ℕ) → bit_or x y ≡ x → bit_or (bit_or x z) y ≡ bit_or x z
with_more x y z h =
    same_from_bits _ _ (λ i. omega (arith, bit_at_or (bit_or x z) y i, bit_at_or x z i, bit_at_or x y i, ap (λ n. bit_at n i) h))
