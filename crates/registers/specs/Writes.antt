-- What a write does to the register file, and when its value is refused. Assumes nothing.
use Rattle.std.specs.Prelude.{ℕ, Bool, true, false, cond, not, ◌&&◌, ◌||◌, List, [], ◌∷◌, None, Option, ◌==◌}
use Rattle.front_end.specs.Codes.{rp_code, terminations_of}
use Rattle.front_end.specs.declared.parts.Capabilities.{Capabilities}
use Rattle.front_end.specs.declared.parts.Path.{Path}
use Rattle.front_end.specs.declared.parts.Termination.{Termination}
use Rattle.front_end.specs.declared.parts.Termination.TheVariants.{Ra, Rp, Rd, Open}
use Rattle.transfer.specs.Decode.{Asked, byte, word, append}
use Rattle.transfer.specs.Refusals.{Row, ◌when◌}
use Rattle.transfer.specs.declared.refusal.Refusal.TheVariants.{UnknownCommand, LacksCapability, NeedNotMet}
use Rattle.registers.specs.Bits.{any_of, set_if, byte_without, word_without}
use Rattle.registers.specs.Commands.{commands, among, sets, unmet, lacks_path, effect, detects}
use Rattle.registers.specs.File.{with_detection}
use Rattle.registers.specs.declared.command.Effect.{Effect}
use Rattle.registers.specs.declared.file.Level.TheVariants.{Zero}
use Rattle.registers.specs.declared.file.Registers.{Registers}
use Rattle.registers.specs.declared.front.Front.{Front}

-- whether a byte, or a word, is written at an address
abbrev pub byte_at : ℕ → Asked → Bool
byte_at a (byte register v stray) = register == a
byte_at a (word register v) = false
byte_at a (append bytes) = false

abbrev pub word_at : ℕ → Asked → Bool
word_at a (byte register v stray) = false
word_at a (word register v) = register == a
word_at a (append bytes) = false

abbrev pub value : Asked → ℕ
value (byte register v stray) = v
value (word register v) = v
value (append bytes) = 0

-- a one was written to an undefined bit
abbrev pub strays : Asked → Bool
strays (byte register v stray) = stray
strays (word register v) = false
strays (append bytes) = false

abbrev pub is_rp : Termination → Bool
is_rp Ra = false
is_rp Rp = true
is_rp Rd = false
is_rp Open = false

-- Rp value 3, or Rp on a pin without default source
abbrev pub bad_role : Capabilities → ℕ → Bool
bad_role has role =
    (rp_code (terminations_of role).rp == 3)
    || (not has.default_source && (is_rp (terminations_of role).cc1 || is_rp (terminations_of role).cc2))

-- a value to store needs what the front end lacks: ROLE_CONTROL as above, EnableVconn needs VCONN
abbrev pub setting_lacks : Capabilities → Asked → Bool
setting_lacks has w = (byte_at 0x1A w && bad_role has (value w)) || (byte_at 0x1C w && any_of 1 (value w) && not has.vconn)

-- the write needs what the front end lacks: such a value, or the path that a COMMAND sets
abbrev pub lacking : Capabilities → Asked → Bool
lacking has w = setting_lacks has w || (byte_at 0x23 w && lacks_path has (sets (value w)))

-- when the value of a write is refused
abbrev pub value_rows : Front → Asked → List Row
value_rows front w =
    (UnknownCommand when byte_at 0x23 w && not (among (value w) commands)) ∷
    (LacksCapability when lacking front.has w) ∷
    (NeedNotMet when byte_at 0x23 w && unmet (value w) front.path) ∷ []

-- what a COMMAND does, if anything; another write does nothing of that kind
abbrev pub effect_of : Asked → Path → Option Effect
effect_of w p = cond (byte_at 0x23 w) (effect (value w) p) None

-- each register after a write that is taken
abbrev pub stored : Asked → Registers → Registers
stored w s = record s {
  alert = cond (word_at 0x10 w) (word_without (value w) s.alert) s.alert;
  alert_mask = cond (word_at 0x12 w) (value w) s.alert_mask;
  power_status_mask = cond (byte_at 0x14 w) (value w) s.power_status_mask;
  fault_status_mask = cond (byte_at 0x15 w) (value w) s.fault_status_mask;
  tcpc_control = cond (byte_at 0x19 w) (value w) s.tcpc_control;
  role_control = cond (byte_at 0x1A w) (value w) s.role_control;
  power_control = cond (byte_at 0x1C w) (value w) s.power_control;
  fault_status = set_if (strays w) 1 (cond (byte_at 0x1F w) (byte_without (value w) s.fault_status) s.fault_status);
  cc1_level = cond (byte_at 0x1A w) Zero s.cc1_level;
  cc2_level = cond (byte_at 0x1A w) Zero s.cc2_level;
}

-- VBUS detection after an effect, the rest kept
abbrev pub detecting : Option Effect → Registers → Registers
detecting e s = with_detection (detects e s.detection) s
