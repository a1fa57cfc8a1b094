-- What a read of the register file gives. Assumes nothing.
use Rattle.std.specs.Prelude.{ℕ, ◌+◌, ◌*◌, cond, List, [], ◌∷◌, ◌==◌}
use Rattle.front_end.specs.declared.parts.Capabilities.{Capabilities}
use Rattle.registers.specs.Bits.{bit}
use Rattle.registers.specs.Status.{cc_status, power_status}
use Rattle.registers.specs.declared.file.Registers.{Registers}
use Rattle.registers.specs.declared.front.Front.{Front}

-- bits 0 to 3 the capabilities; with default source bits 9..8 are 10b, else bits 7..5 are 010b
abbrev pub capability_word : Capabilities → ℕ
capability_word has =
    bit has.default_source + 2 * bit has.nondefault_source + 4 * bit has.sink + 8 * bit has.vconn
    + cond has.default_source 0x0200 0x0040

-- a register that can be read, and its value
pub record Content : Type 0 where
  pub address : ℕ
  pub value : ℕ

infixl 20 ◌reads◌
abbrev pub ◌reads◌ : ℕ → ℕ → Content
a reads v = record { address = a; value = v }

abbrev pub contents : Front → Registers → List Content
contents front s =
    (0x00 reads s.identifiers.vendor) ∷
    (0x02 reads s.identifiers.product) ∷
    (0x04 reads s.identifiers.device) ∷
    (0x0A reads 0x2013) ∷
    (0x10 reads s.alert) ∷
    (0x12 reads s.alert_mask) ∷
    (0x14 reads s.power_status_mask) ∷
    (0x15 reads s.fault_status_mask) ∷
    (0x19 reads s.tcpc_control) ∷
    (0x1A reads s.role_control) ∷
    (0x1C reads s.power_control) ∷
    (0x1D reads cc_status s) ∷
    (0x1E reads power_status s front.path) ∷
    (0x1F reads s.fault_status) ∷
    (0x24 reads capability_word front.has) ∷ []

-- the value at an address, 0 where there is none
abbrev pub content_at : ℕ → List Content → ℕ
content_at a [] = 0
content_at a (c ∷ cs) = cond (a == c.address) c.value (content_at a cs)
