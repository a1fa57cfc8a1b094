-- What a port holds, its front end by its meaning, and where every run starts. Assumes nothing.
use Rattle.front_end.specs.Codes.{terminations_of}
use Rattle.front_end.specs.Meaning.{Meaning, at_rest}
use Rattle.receiver.specs.Receiving as receiver
use Rattle.receiver.specs.Receiving.{Receiving, receiving}
use Rattle.registers.specs.File as file
use Rattle.registers.specs.declared.file.Identifiers.{Identifiers}
use Rattle.registers.specs.declared.file.Registers.{Registers}
use Rattle.sender.specs.Sendings as sender
use Rattle.sender.specs.Sendings.{Sending, sending_of}
use Rattle.port.specs.declared.port.Port.{Port}

-- all that a port holds
pub record View : Type 0 where
  pub registers : Registers
  pub receiving : Receiving
  pub sending : Sending
  pub meaning : Meaning

abbrev pub view : {F : Type 0} → (F → Meaning) → Port F → View
view meaning p = record { registers = p.registers; receiving = receiving p.receiver; sending = sending_of p.sender; meaning = meaning p.front }

-- every register at its power-on value, no frame, no sending, empty buffers, everything off
abbrev pub powered_on : Identifiers → View
powered_on ids = record {
  registers = file.powered_on ids;
  receiving = receiver.at_power_on;
  sending = sender.at_power_on;
  meaning = at_rest (terminations_of 0x0A);
}

abbrev pub with_registers : Registers → View → View
with_registers s v = record v { registers = s }

abbrev pub with_receiving : Receiving → View → View
with_receiving r v = record v { receiving = r }

abbrev pub with_sending : Sending → View → View
with_sending s v = record v { sending = s }

abbrev pub with_meaning : Meaning → View → View
with_meaning m v = record v { meaning = m }
