-- What the program answers to a journal that is audited: its status, and the text that it writes (own).
use Rattle.std.specs.Prelude.{◌≡◌, ℕ, ◌+◌, ◌<◌, ◌≤◌, List, length, reverse, slice_get, None, Some, codes}
use Rattle.std.specs.declared.option.Option.{Option}
use Rattle.std.specs.Io.KnownBytes.{append_known}
use Rattle.annex_base.specs.Lists.{Each}
use Rattle.run_data.specs.declared.entry.Entry.{Entry}
use Rattle.run_data.specs.declared.run.Run.{Run}
use Rattle.run_model.specs.Run as runs
use Rattle.run_model.specs.Run.{set_up}
use Rattle.journal_reading.specs.Reading.{journal_in}
use Rattle.journal_reading.specs.Reading.Reading.{BadJournal}
use Rattle.journal_reading.specs.WellFormed.{IsJournal}
use Rattle.step_judging.specs.Verdicts.{Broken, verdict}
use Rattle.step_rules.specs.Runs.{start_of, with_entry}
use Rattle.run_audit.specs.Audited.{AreKeysOf, IsAuditorOf}
use Rattle.run_audit.specs.declared.auditor.Auditor.{Auditor}
use Rattle.run_audit.specs.declared.key_audit.KeyAudit.{KeyAudit}
use Rattle.script_answers.specs.Top.{IsGood, limit_text}
use Rattle.script_answers.specs.Whole.{IsRead, TakesFront}
use Rattle.script_answers.specs.declared.status.Status.{Status}
use Rattle.script_answers.specs.declared.status.Status.TheVariants.{Done, Usage, Script, ReadFault, WriteFault, NoMemory, Limit, NotARun, Input}
use Rattle.audit_answers.specs.declared.due.Refusal.{Refusal}
use Rattle.audit_answers.specs.Texts.{audit_text, outside_text, refusal_text}

-- the greatest number of bytes of a journal
abbrev pub input_limit : ℕ
input_limit = 67108864

-- the bytes are the journal of a run that repositories can make, and the text tells of its keys
pub record IsAudited (bytes text : List ℕ) : Type 0 where
  pub short : length bytes ≤ input_limit
  pub run : Run
  pub journal : IsJournal bytes run
  pub lawful : runs.IsRun run
  pub keys : List KeyAudit
  pub keys_are : AreKeysOf run keys
  pub text_is : text ≡ audit_text keys (length run.entries)

-- The bytes are a journal, and the text tells of its first entry that isn't permitted: those before it are a run, and it breaks this
-- rule. So the whole isn't a run (law `runs_end_where_a_rule_is_broken` of `step_rules`).
pub record IsRefused (bytes text : List ℕ) : Type 0 where
  pub short : length bytes ≤ input_limit
  pub run : Run
  pub journal : IsJournal bytes run
  pub place : ℕ
  pub entry : Entry
  pub at : slice_get run.entries place ≡ Some entry
  pub before : runs.IsRun (start_of run place)
  pub broken : Broken
  pub breaks : verdict (set_up (start_of run place)) (reverse (start_of run place).entries) entry ≡ Some broken
  pub text_is : text ≡ refusal_text (place + 1) broken.rule broken.found

-- the bytes aren't a journal, and the text names the first line outside the format
pub record IsOutside (bytes text : List ℕ) : Type 0 where
  pub short : length bytes ≤ input_limit
  pub line : ℕ
  pub bad : journal_in bytes ≡ BadJournal line
  pub text_is : text ≡ outside_text line

-- there are more bytes than a journal may have
pub record IsLong (bytes text : List ℕ) : Type 0 where
  pub long : input_limit < length bytes
  pub text_is : text ≡ limit_text (codes "input") input_limit

-- what is due for a source of these bytes
abbrev pub IsAuditDue : List ℕ → Status → List ℕ → Type 0
IsAuditDue bytes Done text = IsAudited bytes text
IsAuditDue bytes Limit text = IsLong bytes text
IsAuditDue bytes NotARun text = IsRefused bytes text
IsAuditDue bytes Input text = IsOutside bytes text
IsAuditDue bytes _ text = ⊥

-- the run that the bytes are the journal of is good, and no key has fewer copies and claims than mincopies
pub record KeepsItsKeys (run : Run) : Type 0 where
  pub good : IsGood run
  pub keys : (xs : List KeyAudit) → AreKeysOf run xs → Each (λ x. x.mincopies ≤ x.least) xs

abbrev pub HasGoodJournal : List ℕ → Type 0
HasGoodJournal bytes = (run : Run) → IsJournal bytes run → KeepsItsKeys run

-- the text that is due for what was read; where it tells of keys, the run is good
pub record IsAuditDueRead (old new : Option (List ℕ)) (status : Status) (text : List ℕ) : Type 0 where
  pub bytes : List ℕ
  pub read : IsRead input_limit old new bytes
  pub due : IsAuditDue bytes status text
  pub good : status ≡ Done → HasGoodJournal bytes

-- the sink has taken the whole text that is due
pub record WritesAudit (left left' taken taken' : Option (List ℕ)) (status : Status) : Type 0 where
  pub text : List ℕ
  pub due : IsAuditDueRead left left' status text
  pub whole : taken' ≡ append_known taken text

-- the sink has taken a front of the text that is due
pub record WritesAuditFront (left left' taken taken' : Option (List ℕ)) : Type 0 where
  pub status : Status
  pub text : List ℕ
  pub due : IsAuditDueRead left left' status text
  pub front : TakesFront taken taken' text

-- what the sink has taken when a journal was to be audited
abbrev pub AnswersAudit : Option (List ℕ) → Option (List ℕ) → Option (List ℕ) → Option (List ℕ) → Status → Type 0
AnswersAudit left left' taken taken' Done = WritesAudit left left' taken taken' Done
AnswersAudit left left' taken taken' Limit = WritesAudit left left' taken taken' Limit
AnswersAudit left left' taken taken' NotARun = WritesAudit left left' taken taken' NotARun
AnswersAudit left left' taken taken' Input = WritesAudit left left' taken taken' Input
AnswersAudit left left' taken taken' WriteFault = WritesAuditFront left left' taken taken'
AnswersAudit left left' taken taken' ReadFault = taken' ≡ taken
AnswersAudit left left' taken taken' NoMemory = taken' ≡ taken
AnswersAudit left left' taken taken' Usage = ⊥
AnswersAudit left left' taken taken' Script = ⊥

-- ---- for private contracts

-- at this place stands the first entry that isn't permitted
pub record IsRefusalOf (run : Run) (x : Refusal) : Type 0 where
  pub entry : Entry
  pub at : slice_get run.entries x.place ≡ Some entry
  pub before : runs.IsRun (start_of run x.place)
  pub breaks : verdict (set_up (start_of run x.place)) (reverse (start_of run x.place).entries) entry ≡ Some (record { rule = x.rule; found = x.found })

-- all entries were taken, or this is the first that wasn't
abbrev pub HasTaken : Run → Auditor → Option Refusal → Type 0
HasTaken run x None = IsAuditorOf x (start_of run (length run.entries))
HasTaken run x (Some refusal) = IsRefusalOf run refusal

-- the entry was taken after the run, or this is why it wasn't
abbrev pub TakesOne : Run → Entry → ℕ → Auditor → Option Refusal → Type 0
TakesOne run e place x None = IsAuditorOf x (with_entry run e)
TakesOne run e place x (Some refusal) = (refusal.place ≡ place) × (verdict (set_up run) (reverse run.entries) e ≡ Some (record { rule = refusal.rule; found = refusal.found }))

-- the text tells of the keys of the run
pub record TellsKeys (run : Run) (entries : ℕ) (text : List ℕ) : Type 0 where
  pub keys : List KeyAudit
  pub keys_are : AreKeysOf run keys
  pub text_is : text ≡ audit_text keys entries
