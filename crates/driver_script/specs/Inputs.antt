-- What the driver is given of a script (own).
use Rattle.std.specs.Prelude.{ℕ, Bool, List}
use Rattle.key_verify.specs.Matching.{verdict_of}
use Rattle.key_verify.specs.Sums.{sum_of}
use Rattle.script_commands.specs.declared.command.Command.{Command}
use Rattle.script_lang.specs.Verify.{is_right}
use Rattle.driver_model.specs.Driver.{DriverInput}
use Rattle.driver_script.specs.Lines.{repos_of}

-- whether the bytes are the key's: they have its size and its digest, as far as the key tells these
abbrev pub matches : List ℕ → List ℕ → Bool
matches key bytes = is_right (verdict_of key (sum_of key bytes))

-- the repositories that the commands declare
abbrev pub driver_input_of : List Command → DriverInput
driver_input_of commands = record { repos = repos_of commands; matches = matches }
