-- The exit statuses (own).
use Rattle.std.specs.Prelude.{ℕ}
use Rattle.script_answers.specs.declared.status.Status.{Status}
use Rattle.script_answers.specs.declared.status.Status.TheVariants.{Done, Usage, Script, ReadFault, WriteFault, NoMemory, Limit, NotARun, Input}

abbrev pub exit_code : Status → ℕ
exit_code Done = 0
exit_code Usage = 1
exit_code Script = 2
exit_code ReadFault = 3
exit_code WriteFault = 4
exit_code NoMemory = 5
exit_code Limit = 6
exit_code NotARun = 7
exit_code Input = 8
