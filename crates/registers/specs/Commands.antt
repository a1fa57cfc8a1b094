-- COMMAND. Assumes nothing.
use Rattle.std.specs.Prelude.{ℕ, Bool, true, false, cond, not, ◌&&◌, ◌||◌, List, [], ◌∷◌, Some, None, Option, ◌==◌}
use Rattle.std.specs.Option.{option_map}
use Rattle.front_end.specs.Meaning.{has_path, sinking, sourcing}
use Rattle.front_end.specs.declared.parts.Capabilities.{Capabilities}
use Rattle.front_end.specs.declared.parts.Path.{Path}
use Rattle.front_end.specs.declared.parts.Path.TheVariants as path
use Rattle.registers.specs.declared.command.Effect.{Effect}
use Rattle.registers.specs.declared.command.Effect.TheVariants.{Detect, Switch, Arm, Empty}

abbrev pub commands : List ℕ
commands = 0x11 ∷ 0x22 ∷ 0x33 ∷ 0x44 ∷ 0x55 ∷ 0x66 ∷ 0x77 ∷ 0x88 ∷ 0xAA ∷ 0xDD ∷ 0xFF ∷ []

abbrev pub among : ℕ → List ℕ → Bool
among v [] = false
among v (x ∷ xs) = v == x || among v xs

-- the path that a command sets
abbrev pub sets : ℕ → Option Path
sets v = cond (v == 0x55) (Some path.Sink) (cond (v == 0x77) (Some path.DefaultSource) (cond (v == 0x88) (Some path.NondefaultSource) None))

-- whether a command ends the path that is on
abbrev pub ends : ℕ → Path → Bool
ends v p = (v == 0x44 && sinking p) || (v == 0x66 && sourcing p)

abbrev pub off : Path → Bool
off p = not (sinking p || sourcing p)

-- what a command needs of the present path is not so: 22h off, 55h not sourcing, 77h not sinking, 88h sourcing
abbrev pub unmet : ℕ → Path → Bool
unmet v p = (v == 0x22 && not (off p)) || (v == 0x55 && sourcing p) || (v == 0x77 && sinking p) || (v == 0x88 && not (sourcing p))

-- the path to set is one that the front end lacks
abbrev pub lacks_path : Capabilities → Option Path → Bool
lacks_path has None = false
lacks_path has (Some p) = not (has_path has p)

-- what a command does, if anything: 22h and 33h to detection, AAh arms, DDh empties, the others set or end a path
abbrev pub effect : ℕ → Path → Option Effect
effect v p =
    cond (v == 0x22) (Some (Detect false)) (cond (v == 0x33) (Some (Detect true)) (cond (v == 0xAA) (Some Arm) (cond (v == 0xDD) (Some Empty)
    (cond (ends v p) (Some (Switch path.Off)) (option_map Switch (sets v))))))

-- detection after an effect
abbrev pub detects : Option Effect → Bool → Bool
detects None on = on
detects (Some (Detect b)) on = b
detects (Some (Switch p)) on = on
detects (Some Arm) on = on
detects (Some Empty) on = on

-- the path that an effect switches to
abbrev pub switches : Option Effect → Option Path
switches None = None
switches (Some (Detect b)) = None
switches (Some (Switch p)) = Some p
switches (Some Arm) = None
switches (Some Empty) = None
