-- What the laws on readings speak of.
use Rattle.std.specs.Prelude.{◌≡◌, ℕ, ◌+◌, List, [], ◌∷◌, Result, Ok, Err}
use Rattle.annex_base.specs.ResultSteps.{◌>>=◌}
use Rattle.script_commands.specs.declared.command.Command.{Command}
use Rattle.script_forms.specs.declared.fault.LineFault.{LineFault}
use Rattle.script_forms.specs.declared.fault.Quantity.{Quantity}
use Rattle.script_lang.specs.Script.{State, line_step, reading, Commands, BadLine, PastLimit}

-- the state behind lines, the first of them being the line of this number, if none of them is wrong or passes a limit
abbrev pub behind_lines : State → ℕ → List (List ℕ) → Result State LineFault
behind_lines state number [] = Ok state
behind_lines state number (line ∷ lines) = line_step state number line >>= λ next. behind_lines next (number + 1) lines

-- ---- what a text may be

-- the text is a script of commands
pub record HasCommands (text : List ℕ) : Type 0 where
  pub commands : List Command
  pub says : reading text ≡ Commands commands

-- the text has a first line that is wrong, or no line that ends its last block
pub record HasBadLine (text : List ℕ) : Type 0 where
  pub line : ℕ
  pub byte : ℕ
  pub says : reading text ≡ BadLine line byte

-- the text passes a limit, and no line before is wrong
pub record PassesLimit (text : List ℕ) : Type 0 where
  pub quantity : Quantity
  pub says : reading text ≡ PastLimit quantity

-- no two of the three hold
abbrev pub AtMostOne : Type 0 → Type 0 → Type 0 → Type 0
AtMostOne A B C = (A → B → ⊥) × (A → C → ⊥) × (B → C → ⊥)
