-- The two bytes that begin a message, field by field, and the GoodCRC. Assumes nothing.
use Rattle.std.specs.Prelude.{ℕ, ◌+◌, ◌*◌, ◌/◌, ◌%◌, Bool, ◌&&◌, ◌==◌}
use Rattle.pd.specs.declared.header.Header.{Header}
use Rattle.pd.specs.declared.kind.Kind.{Kind}
use Rattle.pd.specs.declared.kind.Kind.TheVariants.{Sop, SopPrime, SopDoublePrime, SopDebugPrime, SopDebugDoublePrime, HardReset, CableReset}

-- bits 3..1 of byte 1
abbrev pub message_id : Header → ℕ
message_id h = h.high / 2 % 8

-- message type 1 in the low five bits of byte 0; no data objects and not extended, the high four bits of byte 1
abbrev pub is_good_crc : Header → Bool
is_good_crc h = h.low % 32 == 1 && h.high / 16 == 0

-- the fields of MESSAGE_HEADER_INFO
abbrev pub power_role : ℕ → ℕ
power_role info = info % 2

abbrev pub revision : ℕ → ℕ
revision info = info / 2 % 4

abbrev pub data_role : ℕ → ℕ
data_role info = info / 8 % 2

abbrev pub cable_plug : ℕ → ℕ
cable_plug info = info / 16 % 2

-- bit 5 of the GoodCRC's byte 0: to SOP the data role, to a cable plug nothing
abbrev pub role_bit : ℕ → Kind → ℕ
role_bit info Sop = data_role info
role_bit info SopPrime = 0
role_bit info SopDoublePrime = 0
role_bit info SopDebugPrime = 0
role_bit info SopDebugDoublePrime = 0
role_bit info HardReset = 0
role_bit info CableReset = 0

-- bit 0 of the GoodCRC's byte 1: to SOP the power role, to a cable plug whether we are one
abbrev pub plug_bit : ℕ → Kind → ℕ
plug_bit info Sop = power_role info
plug_bit info SopPrime = cable_plug info
plug_bit info SopDoublePrime = cable_plug info
plug_bit info SopDebugPrime = cable_plug info
plug_bit info SopDebugDoublePrime = cable_plug info
plug_bit info HardReset = cable_plug info
plug_bit info CableReset = cable_plug info

-- the GoodCRC that acknowledges a frame of this kind and header
abbrev pub good_crc : ℕ → Kind → Header → Header
good_crc info k received = record {
  low = 1 + 64 * revision info + 32 * role_bit info k;
  high = 2 * message_id received + plug_bit info k;
}
