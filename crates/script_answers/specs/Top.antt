-- What the program answers: its status, and the text that it writes (own).
use Rattle.std.specs.Prelude.{◌≡◌, ◌⊎◌, ℕ, ◌<◌, ◌≤◌, true, false, List, [], ◌∷◌, ◌++◌, length, reverse, codes}
use Rattle.std.specs.declared.option.Option.{Option}
use Rattle.std.specs.Io.KnownBytes.{append_known}
use Rattle.std.specs.Fmt.{decimal}
use Rattle.run_data.specs.Histories.{most_entries}
use Rattle.run_data.specs.declared.run.Run.{Run}
use Rattle.run_model.specs.Causes.{HasCauses}
use Rattle.run_model.specs.Run as runs
use Rattle.run_model.specs.Safety.{IsSafe}
use Rattle.script_commands.specs.declared.command.Command.{Command}
use Rattle.script_forms.specs.declared.fault.Quantity.{Quantity}
use Rattle.script_lang.specs.Limits.{quantity_name, limit_of}
use Rattle.script_lang.specs.Script.{reading, BadLine, PastLimit}
use Rattle.race_core.specs.Copies.{KeepsCopies}
use Rattle.driver_model.specs.Limits.{LacksPlaces, count_of, limited_run}
use Rattle.driver_script.specs.Inputs.{driver_input_of}
use Rattle.driver_script.specs.Script.{IsScript, IsUnbuilt}
use Rattle.report_text.specs.Report.{report}
use Rattle.script_answers.specs.declared.status.Status.{Status}
use Rattle.script_answers.specs.declared.status.Status.TheVariants.{Done, Usage, Script, ReadFault, WriteFault, NoMemory, Limit, NotARun, Input}
use Rattle.script_answers.specs.Whole.{IsRead, TakesFront, script_limit}

-- the words are `run` alone
abbrev pub IsRunCommand : List (List ℕ) → Type 0
IsRunCommand words = words ≡ codes "run" ∷ []

-- the words are `audit` alone
abbrev pub IsAuditCommand : List (List ℕ) → Type 0
IsAuditCommand words = words ≡ codes "audit" ∷ []

abbrev pub usage_text : List ℕ
usage_text = codes "usage: annex run | threads | storm NUMBER JOBS\n"

-- what is promised of a run: it is one that repositories may make, it keeps the last copies by what its drops read, it is safe, and
-- each refused job has its cause
pub record IsGood (run : Run) : Type 0 where
  pub is_run : runs.IsRun run
  pub copies : KeepsCopies run
  pub safe : IsSafe run
  pub causes : HasCauses run

-- the run of the script that the bytes are is good, up to where a line meets a full history or lacks places, if one does
abbrev pub HasGoodRun : List ℕ → Type 0
HasGoodRun bytes = (script : List Command) → IsScript bytes script → IsGood (limited_run (driver_input_of script) script).run

-- The bytes are a script whose forms are all built; no line meets a full history or lacks places, and the text is the report of its run. A run that
-- isn't cut is the whole one, `run_of` (law `whole` of `driver_model::runs_are_cut_where_histories_are_full`).
pub record IsReport (bytes text : List ℕ) : Type 0 where
  pub short : length bytes ≤ script_limit
  pub script : List Command
  pub is_script : IsScript bytes script
  pub whole : (limited_run (driver_input_of script) script).is_cut ≡ false
  pub text_is : text ≡ report script (limited_run (driver_input_of script) script).run

-- the line that names a place of a script
abbrev pub place_text : ℕ → ℕ → List ℕ
place_text line byte = codes "script line " ++ decimal line ++ codes " byte " ++ decimal byte ++ codes "\n"

-- the text names the line and the byte of the first fault
pub record IsComplaint (bytes text : List ℕ) : Type 0 where
  pub short : length bytes ≤ script_limit
  pub line : ℕ
  pub byte : ℕ
  pub bad : reading bytes ≡ BadLine line byte
  pub text_is : text ≡ place_text line byte

-- the bytes are a script, and the text names its first line with a form that no part has built yet
pub record IsMissing (bytes text : List ℕ) : Type 0 where
  pub short : length bytes ≤ script_limit
  pub line : ℕ
  pub unbuilt : IsUnbuilt bytes line
  pub text_is : text ≡ place_text line 0

-- the line that names a limit
abbrev pub limit_text : List ℕ → ℕ → List ℕ
limit_text name number = codes "limit " ++ name ++ codes " " ++ decimal number ++ codes "\n"

-- there are more bytes than a script may have
pub record IsLong (bytes text : List ℕ) : Type 0 where
  pub long : script_limit < length bytes
  pub text_is : text ≡ limit_text (codes "script") script_limit

-- the text names the first limit that a script passes
pub record IsPast (bytes text : List ℕ) : Type 0 where
  pub short : length bytes ≤ script_limit
  pub quantity : Quantity
  pub past : reading bytes ≡ PastLimit quantity
  pub text_is : text ≡ limit_text (quantity_name quantity) (limit_of quantity)

-- the name of the limit on histories
abbrev pub entries_name : List ℕ
entries_name = codes "entries"

-- some repository of the run has made as many entries as it may
abbrev pub HasFullHistory : Run → Type 0
HasFullHistory run = (r : ℕ) × (r < length run.repos) × (count_of run.entries r ≡ most_entries)

-- a run of the script that has these entries meets the limit: it has a full history, or one of the lines comes to a close of more ends than
-- there are places left in the history of its repository
abbrev pub MeetsEntries : List Command → Run → Type 0
MeetsEntries script run = HasFullHistory run ⊎ LacksPlaces (driver_input_of script) script (reverse run.entries)

-- The bytes are such a script, of which a line meets a full history or is a close that lacks places: the text is the report of its run up
-- to there, and names the limit. That the run meets it follows from the other fields (law `cut_script_runs_have_a_full_history`).
pub record IsCutReport (bytes text : List ℕ) : Type 0 where
  pub short : length bytes ≤ script_limit
  pub script : List Command
  pub is_script : IsScript bytes script
  pub cut : (limited_run (driver_input_of script) script).is_cut ≡ true
  pub full : MeetsEntries script (limited_run (driver_input_of script) script).run
  pub text_is : text ≡ report script (limited_run (driver_input_of script) script).run ++ limit_text entries_name most_entries

-- what is due for a source of these bytes
abbrev pub IsDue : List ℕ → Status → List ℕ → Type 0
IsDue bytes Done text = IsReport bytes text
IsDue bytes Script text = IsComplaint bytes text ⊎ IsMissing bytes text
IsDue bytes Limit text = IsLong bytes text ⊎ (IsPast bytes text ⊎ IsCutReport bytes text)
IsDue bytes _ text = ⊥

-- the text that is due for what was read; where it is the report of a run, whole or not, that run is good
pub record IsDueRead (old new : Option (List ℕ)) (status : Status) (text : List ℕ) : Type 0 where
  pub bytes : List ℕ
  pub read : IsRead script_limit old new bytes
  pub due : IsDue bytes status text
  pub good : status ≡ Done → HasGoodRun bytes
  pub good_start : IsCutReport bytes text → HasGoodRun bytes

-- the sink has taken the whole text that is due
pub record Writes (left left' taken taken' : Option (List ℕ)) (status : Status) : Type 0 where
  pub text : List ℕ
  pub due : IsDueRead left left' status text
  pub whole : taken' ≡ append_known taken text

-- the sink has taken a front of the text that is due
pub record WritesFront (left left' taken taken' : Option (List ℕ)) : Type 0 where
  pub status : Status
  pub text : List ℕ
  pub due : IsDueRead left left' status text
  pub front : TakesFront taken taken' text

-- what the sink has taken when a script was to be run
abbrev pub AnswersRun : Option (List ℕ) → Option (List ℕ) → Option (List ℕ) → Option (List ℕ) → Status → Type 0
AnswersRun left left' taken taken' Done = Writes left left' taken taken' Done
AnswersRun left left' taken taken' Script = Writes left left' taken taken' Script
AnswersRun left left' taken taken' Limit = Writes left left' taken taken' Limit
AnswersRun left left' taken taken' WriteFault = WritesFront left left' taken taken'
AnswersRun left left' taken taken' ReadFault = taken' ≡ taken
AnswersRun left left' taken taken' NoMemory = taken' ≡ taken
AnswersRun left left' taken taken' Usage = ⊥
AnswersRun left left' taken taken' NotARun = ⊥
AnswersRun left left' taken taken' Input = ⊥

-- what the sink has taken of the usage line
abbrev pub AnswersOther : Option (List ℕ) → Option (List ℕ) → Status → Type 0
AnswersOther taken taken' Usage = taken' ≡ append_known taken usage_text
AnswersOther taken taken' WriteFault = TakesFront taken taken' usage_text
AnswersOther taken taken' _ = ⊥

-- the call ended with this status, and the sink has taken this text; or memory ran out, and it has taken nothing
abbrev pub EndsWith : Status → List ℕ → Option (List ℕ) → Option (List ℕ) → Status → Type 0
EndsWith status text taken taken' result =
    ((result ≡ status) × (taken' ≡ append_known taken text)) ⊎ ((result ≡ NoMemory) × (taken' ≡ taken))
