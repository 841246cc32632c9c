-- Scripts that can be driven (own).
use Rattle.std.specs.Prelude.{◌≡◌, ℕ, List, Some, None, slice_get}
use Rattle.script_commands.specs.declared.command.Command.{Command}
use Rattle.script_lang.specs.Script.{reading, Commands}
use Rattle.script_lang.specs.Numbering.{line_numbers}
use Rattle.driver_script.specs.Lines.{first_unbuilt}

-- the text is a script of these commands, and no part is missing for one of them
pub record IsScript (text : List ℕ) (all : List Command) : Type 0 where
  pub says : reading text ≡ Commands all
  pub built : first_unbuilt all ≡ None

-- the text is a script, and the line of this number has its first command for which a part is missing
pub record IsUnbuilt (text : List ℕ) (line : ℕ) : Type 0 where
  pub all : List Command
  pub says : reading text ≡ Commands all
  pub place : ℕ
  pub first : first_unbuilt all ≡ Some place
  pub line_is : slice_get (line_numbers text) place ≡ Some line
