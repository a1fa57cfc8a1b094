use Rattle.std.proofs.Common.{◌≡◌, ℕ, ◌+◌, ◌*◌, ◌%◌, ◌^◌, ◌<◌, ap, ◌∙◌, mod-eq_of_lt}
use lib.Bits.{bit_or, or_shifted}
use Rattle.pd.proofs.bits.above.Goals as goal

-- a field that fits stands above what is below it
stands : (field low below : ℕ) → below < 2 ^ low → field * 2 ^ low < 256 → bit_or (field * 2 ^ low % 256) below ≡ field * 2 ^ low + below
stands field low below b f = ap (λ m. bit_or m below) (mod-eq_of_lt f) ∙ or_shifted field low below b

pub returns : goal.returns
returns c = stands c.args.field c.args.low c.args.below c.requires.under c.requires.fits
