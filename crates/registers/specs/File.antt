-- The register file at power on, and with one register anew. Assumes nothing.
use Rattle.std.specs.Prelude.{ℕ, Bool, true, false}
use Rattle.registers.specs.declared.file.Identifiers.{Identifiers}
use Rattle.registers.specs.declared.file.Level.TheVariants.{Zero}
use Rattle.registers.specs.declared.file.Registers.{Registers}

abbrev pub powered_on : Identifiers → Registers
powered_on ids = record {
  identifiers = ids;
  alert = 0x0200;
  alert_mask = 0xFFFF;
  power_status_mask = 0xFF;
  fault_status_mask = 0xFF;
  tcpc_control = 0x00;
  role_control = 0x0A;
  power_control = 0x60;
  fault_status = 0x80;
  detection = true;
  vbus = false;
  cc1_level = Zero;
  cc2_level = Zero;
}

-- ALERT anew, the rest kept
abbrev pub with_alert : ℕ → Registers → Registers
with_alert a s = record s { alert = a }

-- FAULT_STATUS anew, the rest kept
abbrev pub with_fault_status : ℕ → Registers → Registers
with_fault_status f s = record s { fault_status = f }

-- VBUS detection anew, the rest kept
abbrev pub with_detection : Bool → Registers → Registers
with_detection on s = record s { detection = on }
