-- What the program answers to a storm: its status, and the line that it writes (own).
use Rattle.std.specs.Prelude.{◌≡◌, ◌⊎◌, ℕ, ◌<◌, ◌≤◌, ◌^◌, true, false, List, [], ◌∷◌, codes}
use Rattle.std.specs.declared.option.Option.{Option}
use Rattle.std.specs.Io.KnownBytes.{append_known}
use Rattle.std.specs.Fmt.{decimal}
use Rattle.run_data.specs.Histories.{most_entries}
use Rattle.driver_model.specs.Limits.{LimitedRun, limited_run}
use Rattle.driver_script.specs.Inputs.{driver_input_of}
use Rattle.driver_script.specs.Script.{IsScript}
use Rattle.storm_script.specs.Storm.{storm_text}
use Rattle.kept_copies.specs.Scripts.{kept_of}
use Rattle.kept_copies.specs.Storms.{storm_commands, storm_keys}
use Rattle.storm_line.specs.Line.{storm_line}
use Rattle.script_answers.specs.declared.status.Status.{Status}
use Rattle.script_answers.specs.declared.status.Status.TheVariants.{Done, Usage, Script, ReadFault, WriteFault, NoMemory, Limit, NotARun, Input}
use Rattle.script_answers.specs.Whole.{TakesFront}
use Rattle.script_answers.specs.Top.{AnswersOther, AnswersRun, HasGoodRun, IsComplaint, IsLong, IsMissing, IsPast, IsRunCommand, entries_name, limit_text}

-- the greatest number of jobs of a storm
abbrev pub most_jobs : ℕ
most_jobs = 2000

-- the words are a number below 2 ^ 64 and a number of jobs, both in decimal without leading zeros
pub record AreNumbers (word other : List ℕ) (number jobs : ℕ) : Type 0 where
  pub word_is : word ≡ decimal number
  pub other_is : other ≡ decimal jobs
  pub small : number < 2 ^ 64
  pub few : jobs ≤ most_jobs

-- the words are `storm` and two such words
pub record IsStormCommand (words : List (List ℕ)) (number jobs : ℕ) : Type 0 where
  pub words_are : words ≡ codes "storm" ∷ decimal number ∷ decimal jobs ∷ []
  pub small : number < 2 ^ 64
  pub few : jobs ≤ most_jobs

-- the words ask for some storm
abbrev pub AsksStorm : List (List ℕ) → Type 0
AsksStorm words = (number : ℕ) × (jobs : ℕ) × IsStormCommand words number jobs

-- the run of a storm's commands, up to where a line meets a full history or lacks places, if one does
abbrev pub storm_run : ℕ → ℕ → LimitedRun
storm_run number jobs = limited_run (driver_input_of (storm_commands number jobs)) (storm_commands number jobs)

-- The text of the storm is a script of its commands; no line meets a full history or lacks places, and the line is that of their run.
pub record IsStormLine (number jobs : ℕ) (text : List ℕ) : Type 0 where
  pub is_script : IsScript (storm_text number jobs) (storm_commands number jobs)
  pub whole : (storm_run number jobs).is_cut ≡ false
  pub text_is : text ≡ storm_line number jobs (storm_commands number jobs) (storm_run number jobs).run

-- it is such a script, of which a line meets a full history or lacks places: the line names the limit alone
pub record IsStormCut (number jobs : ℕ) (text : List ℕ) : Type 0 where
  pub is_script : IsScript (storm_text number jobs) (storm_commands number jobs)
  pub cut : (storm_run number jobs).is_cut ≡ true
  pub text_is : text ≡ limit_text entries_name most_entries

-- what is due for a storm
abbrev pub IsStormDue : ℕ → ℕ → Status → List ℕ → Type 0
IsStormDue number jobs Done text = IsStormLine number jobs text
IsStormDue number jobs Script text = IsComplaint (storm_text number jobs) text ⊎ IsMissing (storm_text number jobs) text
IsStormDue number jobs Limit text = IsLong (storm_text number jobs) text ⊎ (IsPast (storm_text number jobs) text ⊎ IsStormCut number jobs text)
IsStormDue number jobs _ text = ⊥

-- some repository has each of the storm's keys at the end of the run of its commands
abbrev pub KeepsStormKeys : ℕ → ℕ → Type 0
KeepsStormKeys number jobs = kept_of (storm_run number jobs).run storm_keys ≡ 16

-- the line that is due for the storm; where it is that of a run, the run is good and keeps its keys
pub record IsStormAnswer (number jobs : ℕ) (status : Status) (text : List ℕ) : Type 0 where
  pub due : IsStormDue number jobs status text
  pub good : status ≡ Done → HasGoodRun (storm_text number jobs)
  pub kept : status ≡ Done → KeepsStormKeys number jobs

-- the sink has taken the whole line, or a front of it
abbrev pub WritesStorm : ℕ → ℕ → Option (List ℕ) → Option (List ℕ) → Status → Type 0
WritesStorm number jobs taken taken' status = (text : List ℕ) × IsStormAnswer number jobs status text × (taken' ≡ append_known taken text)

abbrev pub WritesStormFront : ℕ → ℕ → Option (List ℕ) → Option (List ℕ) → Type 0
WritesStormFront number jobs taken taken' = (status : Status) × (text : List ℕ) × IsStormAnswer number jobs status text × TakesFront taken taken' text

-- what the sink has taken when a storm was to be run
abbrev pub AnswersStorm : ℕ → ℕ → Option (List ℕ) → Option (List ℕ) → Status → Type 0
AnswersStorm number jobs taken taken' Done = WritesStorm number jobs taken taken' Done
AnswersStorm number jobs taken taken' Script = WritesStorm number jobs taken taken' Script
AnswersStorm number jobs taken taken' Limit = WritesStorm number jobs taken taken' Limit
AnswersStorm number jobs taken taken' WriteFault = WritesStormFront number jobs taken taken'
AnswersStorm number jobs taken taken' NoMemory = taken' ≡ taken
AnswersStorm number jobs taken taken' ReadFault = ⊥
AnswersStorm number jobs taken taken' Usage = ⊥
AnswersStorm number jobs taken taken' NotARun = ⊥
AnswersStorm number jobs taken taken' Input = ⊥

-- what the sink has taken with each status
pub record Answers (words : List (List ℕ)) (left left' taken taken' : Option (List ℕ)) (status : Status) : Type 0 where
  pub run : IsRunCommand words → AnswersRun left left' taken taken' status
  pub storm : (number jobs : ℕ) → IsStormCommand words number jobs → AnswersStorm number jobs taken taken' status
  pub other : (IsRunCommand words → ⊥) → (AsksStorm words → ⊥) → AnswersOther taken taken' status
