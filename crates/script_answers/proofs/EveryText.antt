-- Something is due for every text.
use Rattle.std.proofs.Common.{◌≡◌, ◌⊎◌, inl, inr, ℕ, ◌<◌, ◌≤◌, true, false, List, length, refl}
use Rattle.std.proofs.lemmas.Bool.{cases_Bool, cases_lt}
use Rattle.std.specs.Prelude.{codes}
use Rattle.script_commands.specs.declared.command.Command.{Command}
use Rattle.script_lang.specs.Script.{Reading, Commands, BadLine, PastLimit, reading}
use Rattle.driver_model.specs.Limits.{limited_run}
use Rattle.driver_script.specs.Inputs.{driver_input_of}
use Rattle.driver_script.specs.Script.{IsScript, IsUnbuilt}
use Rattle.script_answers.specs.declared.status.Status.{Status}
use Rattle.script_answers.specs.declared.status.Status.TheVariants.{Done, Script, Limit}
use Rattle.script_answers.specs.Whole.{script_limit}
use Rattle.script_answers.specs.Top.{IsDue, limit_text, place_text}
use Rattle.script_answers.proofs.DueLemmas.{FullLaw, complaint_is_due, due_cut, due_report, missing_is_due, past_is_due}

-- all commands of a text can be driven, or a part is missing for one
abbrev pub RunLaw : Type 0
RunLaw = (bytes : List ℕ) (script : List Command) → reading bytes ≡ Commands script → IsScript bytes script ⊎ ((line : ℕ) × IsUnbuilt bytes line)

abbrev pub SomeDue : List ℕ → Type 0
SomeDue bytes = (status : Status) × (text : List ℕ) × IsDue bytes status text

module _ (full : FullLaw) (runs : RunLaw) (bytes : List ℕ) where
  run_due : length bytes ≤ script_limit → (script : List Command) → IsScript bytes script
      → ((limited_run (driver_input_of script) script).is_cut ≡ true) ⊎ ((limited_run (driver_input_of script) script).is_cut ≡ false) → SomeDue bytes
  run_due short script is (inl cut) = (Limit, _, due_cut full bytes script short is cut)
  run_due short script is (inr whole) = (Done, _, due_report bytes script short is whole)

  commands_due : length bytes ≤ script_limit → (script : List Command) → IsScript bytes script ⊎ ((line : ℕ) × IsUnbuilt bytes line) → SomeDue bytes
  commands_due short script (inl x) = run_due short script x (cases_Bool (limited_run (driver_input_of script) script).is_cut)
  commands_due short script (inr x) = (Script, place_text x.0 0, missing_is_due bytes x.0 short x.1)

  reading_due : length bytes ≤ script_limit → (says : Reading) → reading bytes ≡ says → SomeDue bytes
  reading_due short (Commands script) is = commands_due short script (runs bytes script is)
  reading_due short (BadLine line byte) is = (Script, place_text line byte, complaint_is_due bytes line byte short is)
  reading_due short (PastLimit quantity) is = (Limit, _, past_is_due bytes quantity short is)

  long_or_read : (script_limit < length bytes) ⊎ (length bytes ≤ script_limit) → SomeDue bytes
  long_or_read (inl long) = (Limit, limit_text (codes "script") script_limit, inl (record { long = long; text_is = refl }))
  long_or_read (inr short) = reading_due short (reading bytes) refl

  pub some_due : SomeDue bytes
  some_due = long_or_read (cases_lt script_limit (length bytes))
