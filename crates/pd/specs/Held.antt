-- The bytes that are held, as a list. Assumes nothing.
use Rattle.std.specs.Prelude.{◌≡◌, ℕ, List, take, replicate}
use Rattle.std.proofs.Common.{refl, arith}
use Rattle.std.proofs.Props.{props}
use mathlib.Core.HLevel.{is_prop→PathP}
use Rattle.pd.specs.Lengths.{longest}
use Rattle.pd.specs.Room.{HasRoom, same_laid}
use Rattle.pd.specs.declared.bytes.Bytes.{Bytes}

abbrev pub held : Bytes → List ℕ
held b = take b.len b.room

-- they are held in one way alone, so that equal lists are equal values
pub same_bytes : (a b : Bytes) → held a ≡ held b → a ≡ b
same_bytes a b h =
    let p = same_laid longest 0 a.len b.len a.room b.room a.laid_out b.laid_out h in
    λ i. record {
      len = p.0 i;
      room = p.1 i;
      laid_out = is_prop→PathP (λ j. HasRoom longest 0 (p.0 j) (p.1 j)) (λ j. hlevel props) a.laid_out b.laid_out i;
    }

-- none is held
pub no_bytes_laid_out : HasRoom {A = ℕ} longest 0 0 (replicate longest 0)
no_bytes_laid_out = record { fits = omega arith; whole = refl; blank = refl }

abbrev pub no_bytes : Bytes
no_bytes = record { len = 0; room = replicate longest 0; laid_out = no_bytes_laid_out }
