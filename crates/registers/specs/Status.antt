-- What follows from the register file. Assumes nothing.
use Rattle.std.specs.Prelude.{ℕ, ◌+◌, ◌*◌, Bool, true, false, cond, ◌&&◌}
use Rattle.front_end.specs.Codes.{terminations_of}
use Rattle.front_end.specs.Meaning.{sinking, sourcing}
use Rattle.front_end.specs.declared.parts.Path.{Path}
use Rattle.front_end.specs.declared.parts.Path.TheVariants as path
use Rattle.front_end.specs.declared.parts.Termination.{Termination}
use Rattle.front_end.specs.declared.parts.Termination.TheVariants.{Ra, Rp, Rd, Open}
use Rattle.front_end.specs.declared.parts.Vconn.{Vconn}
use Rattle.front_end.specs.declared.parts.Vconn.TheVariants.{Off, Cc1, Cc2}
use Rattle.registers.specs.Bits.{bit, any_of}
use Rattle.registers.specs.declared.file.Level.{Level}
use Rattle.registers.specs.declared.file.Level.TheVariants.{Zero, One, Two, Three}
use Rattle.registers.specs.declared.file.Registers.{Registers}

-- bit 0 of POWER_CONTROL
abbrev pub enable_vconn : Registers → Bool
enable_vconn s = any_of 1 s.power_control

-- bit 0 of TCPC_CONTROL
abbrev pub plug_orientation : Registers → Bool
plug_orientation s = any_of 1 s.tcpc_control

-- off unless EnableVconn, then on CC2 at PlugOrientation 0 and on CC1 at 1
abbrev pub vconn_of : Registers → Vconn
vconn_of s = cond (enable_vconn s) (cond (plug_orientation s) Cc1 Cc2) Off

abbrev pub on_cc1 : Vconn → Bool
on_cc1 Off = false
on_cc1 Cc1 = true
on_cc1 Cc2 = false

abbrev pub on_cc2 : Vconn → Bool
on_cc2 Off = false
on_cc2 Cc1 = false
on_cc2 Cc2 = true

abbrev pub level_code : Level → ℕ
level_code Zero = 0
level_code One = 1
level_code Two = 2
level_code Three = 3

-- what CC_STATUS shows of a pin: nothing where it is Ra or Open or carries VCONN, else the level
abbrev pub shown : Termination → Bool → Level → ℕ
shown Ra vconn level = 0
shown Rp vconn level = cond vconn 0 (level_code level)
shown Rd vconn level = cond vconn 0 (level_code level)
shown Open vconn level = 0

-- CC1 in bits 1..0, CC2 in bits 3..2
unfoldable pub cc_status : Registers → ℕ
cc_status s =
    shown (terminations_of s.role_control).cc1 (on_cc1 (vconn_of s)) s.cc1_level
    + 4 * shown (terminations_of s.role_control).cc2 (on_cc2 (vconn_of s)) s.cc2_level

abbrev pub nondefault : Path → Bool
nondefault path.Off = false
nondefault path.Sink = false
nondefault path.DefaultSource = false
nondefault path.NondefaultSource = true

-- 0 sinking, 1 VCONN on, 2 VBUS reported present and detection on, 3 detection on, 4 sourcing, 5 sourcing nondefault
unfoldable pub power_status : Registers → Path → ℕ
power_status s p =
    bit (sinking p) + 2 * bit (enable_vconn s) + 4 * bit (s.vbus && s.detection) + 8 * bit s.detection + 16 * bit (sourcing p) + 32 * bit (nondefault p)

-- Alert#: ALERT and ALERT_MASK share a one
abbrev pub asserted : Registers → Bool
asserted s = any_of s.alert_mask s.alert
