-- FAULT_STATUS and ALERT: what is raised, and what rises by a change. Assumes nothing.
use Rattle.std.specs.Prelude.{ℕ, ◌+◌, ◌-◌, ◌*◌, Bool, not, ◌==◌, bit_and, bit_or, bit_xor}
use Rattle.front_end.specs.declared.parts.Path.{Path}
use Rattle.registers.specs.Bits.{bit, any_of, word_without}
use Rattle.registers.specs.File.{with_alert, with_fault_status}
use Rattle.registers.specs.Status.{cc_status, power_status}
use Rattle.registers.specs.declared.file.Registers.{Registers}

-- FAULT_STATUS bits set
abbrev pub faulted : ℕ → Registers → Registers
faulted bits s = with_fault_status (bit_or s.fault_status bits) s

-- ALERT bits set, and cleared
abbrev pub marked : ℕ → Registers → Registers
marked bits s = with_alert (bit_or s.alert bits) s

abbrev pub unmarked : ℕ → Registers → Registers
unmarked bits s = with_alert (word_without bits s.alert) s

-- ALERT bit 2 or 3: a frame waits, or a Hard Reset was heard
abbrev pub holds_back : Registers → Bool
holds_back s = any_of 0x000C s.alert

-- the ALERT bits that rise by what changed in a call, masks as after it:
-- 0 CC_STATUS changed, 1 an unmasked POWER_STATUS bit changed, 9 an unmasked FAULT_STATUS bit rose
unfoldable pub risen : Registers → Path → Registers → Path → ℕ
risen before path_before after path =
    bit (not (cc_status before == cc_status after))
    + 2 * bit (any_of after.power_status_mask (bit_xor (power_status before path_before) (power_status after path)))
    + 512 * bit (any_of after.fault_status_mask (bit_and after.fault_status (255 - before.fault_status)))

-- with those bits
abbrev pub settled : Registers → Path → Registers → Path → Registers
settled before path_before after path = with_alert (bit_or after.alert (risen before path_before after path)) after
