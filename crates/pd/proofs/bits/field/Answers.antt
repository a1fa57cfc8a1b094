use Rattle.std.proofs.Common.{◌≡◌, ℕ, ◌-◌, ◌*◌, ◌%◌, ◌^◌, ◌<◌, ap, ◌∙◌}
use lib.Bits.{bit_and, and_mask}
use Rattle.std.proofs.lemmas.Nat.{one_shl}
use Rattle.pd.proofs.bits.field.Goals as goal

-- a mask made by a shift keeps the low bits
masked : (n width : ℕ) → width < 8 → bit_and n (1 * 2 ^ width % 2 ^ 8 - 1) ≡ n % 2 ^ width
masked n width h = ap (λ m. bit_and n (m - 1)) (one_shl width 8 h) ∙ and_mask n width

pub returns : goal.returns
returns c = masked _ c.args.width c.requires.narrow
