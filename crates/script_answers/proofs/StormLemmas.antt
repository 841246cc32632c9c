-- What is answered to a storm.
use Rattle.std.proofs.Common.{◌≡◌, ◌≤◌, ◌⊎◌, ℕ, Bool, true, false, List, length, Option, Result, Ok, Err, IfOk, inl, inr, refl, sym, ap, ◌∙◌, subst}
use Rattle.std.specs.Io.KnownBytes.{append_known}
use Rattle.run_data.specs.Histories.{most_entries}
use Rattle.run_data.specs.declared.run.Run.{Run}
use Rattle.script_commands.specs.declared.command.Command.{Command}
use Rattle.script_forms.specs.declared.fault.Quantity.{Quantity}
use Rattle.script_lang.specs.Limits.{limit_of, quantity_name}
use Rattle.script_lang.specs.Script.{reading, Commands, BadLine, PastLimit}
use Rattle.driver_model.specs.Limits.{limited_run}
use Rattle.driver_script.specs.Inputs.{driver_input_of}
use Rattle.driver_script.specs.Script.{IsScript}
use Rattle.kept_copies.specs.Storms.{storm_commands}
use Rattle.storm_script.specs.Storm.{storm_text}
use Rattle.storm_line.specs.Line.{storm_line}
use Rattle.script_answers.specs.declared.due.Due.{Due}
use Rattle.script_answers.specs.declared.status.Status.{Status}
use Rattle.script_answers.specs.declared.status.Status.TheVariants.{Done, Usage, Script, ReadFault, WriteFault, NoMemory, Limit, NotARun, Input}
use Rattle.script_answers.specs.Runs.{IsRunOf}
use Rattle.script_answers.specs.Storms.{AnswersStorm, IsStormAnswer, IsStormDue, KeepsStormKeys, storm_run}
use Rattle.script_answers.specs.Top.{HasGoodRun, IsComplaint, IsDue, IsMissing, IsPast, entries_name, limit_text, place_text}
use Rattle.script_answers.specs.Whole.{script_limit}
use Rattle.script_answers.proofs.DueLemmas.{HaveOneReading}
use Rattle.script_answers.proofs.GoodLemmas.{Laws, cut_is, good_run, run_is, script_is}

-- what has one status and one text
pub answered_by : {E : Type 0} (r : Result Due E) (number jobs : ℕ) (status : Status) (text : List ℕ) → IfOk r (λ d. (d.status ≡ status) × (d.text.items ≡ text))
    → IsStormAnswer number jobs status text → IfOk r (λ d. IsStormAnswer number jobs d.status d.text.items)
answered_by (Ok d) number jobs status text is answer =
    subst (λ (s : Status). IsStormAnswer number jobs s d.text.items) (sym is.0) (subst (IsStormAnswer number jobs status) (sym is.1) answer)
answered_by (Err e) number jobs status text is answer = tt

-- what is no line of a run has no run
pub limit_answers : (number jobs : ℕ) (text : List ℕ) → IsStormDue number jobs Limit text → IsStormAnswer number jobs Limit text
limit_answers number jobs text due = record { due = due; good = λ e. absurd cc; kept = λ e. absurd cc }

pub place_answers : (number jobs : ℕ) (text : List ℕ) → IsStormDue number jobs Script text → IsStormAnswer number jobs Script text
place_answers number jobs text due = record { due = due; good = λ e. absurd cc; kept = λ e. absurd cc }

-- a bad line
pub complaint_answers : (number jobs : ℕ) (bytes : List ℕ) (line byte : ℕ) → bytes ≡ storm_text number jobs → length bytes ≤ script_limit → reading bytes ≡ BadLine line byte → IsStormAnswer number jobs Script (place_text line byte)
complaint_answers number jobs bytes line byte text short bad =
    place_answers number jobs (place_text line byte)
    (inl (subst (λ (b : List ℕ). IsComplaint b (place_text line byte)) text (record { short = short; line = line; byte = byte; bad = bad; text_is = refl })))

-- a limit that is passed
pub past_answers : (number jobs : ℕ) (bytes : List ℕ) (quantity : Quantity) → bytes ≡ storm_text number jobs → length bytes ≤ script_limit → reading bytes ≡ PastLimit quantity → IsStormAnswer number jobs Limit (limit_text (quantity_name quantity) (limit_of quantity))
past_answers number jobs bytes quantity text short past =
    limit_answers number jobs (limit_text (quantity_name quantity) (limit_of quantity))
    (inr (inl (subst (λ (b : List ℕ). IsPast b (limit_text (quantity_name quantity) (limit_of quantity))) text (record { short = short; quantity = quantity; past = past; text_is = refl }))))

-- what is due was written whole
pub answers_written : (number jobs : ℕ) (taken taken' : Option (List ℕ)) (status : Status) (text : List ℕ) → IsStormAnswer number jobs status text → taken' ≡ append_known taken text → AnswersStorm number jobs taken taken' status
answers_written number jobs taken taken' Done text answer wrote = (text, answer, wrote)
answers_written number jobs taken taken' Script text answer wrote = (text, answer, wrote)
answers_written number jobs taken taken' Limit text answer wrote = (text, answer, wrote)
answers_written number jobs taken taken' Usage text answer wrote = absurd answer.due
answers_written number jobs taken taken' ReadFault text answer wrote = absurd answer.due
answers_written number jobs taken taken' WriteFault text answer wrote = absurd answer.due
answers_written number jobs taken taken' NoMemory text answer wrote = absurd answer.due
answers_written number jobs taken taken' NotARun text answer wrote = absurd answer.due
answers_written number jobs taken taken' Input text answer wrote = absurd answer.due

-- what misses a part
pub missing_answers : {E : Type 0} (r : Result Due E) (number jobs : ℕ) (bytes : List ℕ) → bytes ≡ storm_text number jobs → IfOk r (λ d. IsDue bytes d.status d.text.items)
    → IfOk r (λ d. d.status ≡ Script) → IfOk r (λ d. IsStormAnswer number jobs d.status d.text.items)
missing_answers (Ok d) number jobs bytes text due is =
    let here : IsComplaint bytes d.text.items ⊎ IsMissing bytes d.text.items = subst (λ (s : Status). IsDue bytes s d.text.items) is due in
    subst (λ (s : Status). IsStormAnswer number jobs s d.text.items) (sym is)
    (place_answers number jobs d.text.items (subst (λ (b : List ℕ). IsComplaint b d.text.items ⊎ IsMissing b d.text.items) text here))
missing_answers (Err e) number jobs bytes text due is = tt

-- the law of the texts of storms
abbrev pub StormsSayCommands : Type 0
StormsSayCommands = (number jobs : ℕ) → IsScript (storm_text number jobs) (storm_commands number jobs)

module _ (number jobs : ℕ) (bytes : List ℕ) (script : List Command) (is_cut : Bool) (run : Run) (text : bytes ≡ storm_text number jobs) (says : reading bytes ≡ Commands script) (r : IsRunOf script is_cut run) where
  storm_is : IsScript (storm_text number jobs) script
  storm_is = subst (λ (b : List ℕ). IsScript b script) text (script_is bytes script is_cut run says r)

  commands_are : HaveOneReading → StormsSayCommands → script ≡ storm_commands number jobs
  commands_are one law = one.script (storm_text number jobs) script (storm_commands number jobs) storm_is (law number jobs)

  cut_same : HaveOneReading → StormsSayCommands → (storm_run number jobs).is_cut ≡ is_cut
  cut_same one law = ap (λ (cs : List Command). (limited_run (driver_input_of cs) cs).is_cut) (sym (commands_are one law)) ∙ cut_is bytes script is_cut run says r

  -- where a line met a full history
  pub cut_answers : HaveOneReading → StormsSayCommands → is_cut ≡ true → IsStormAnswer number jobs Limit (limit_text entries_name most_entries)
  cut_answers one law cuts = limit_answers number jobs _ (inr (inr (record {
    is_script = law number jobs;
    cut = cut_same one law ∙ cuts;
    text_is = refl;
  })))

  -- and where none did
  pub line_answers : (line : List ℕ) → HaveOneReading → StormsSayCommands → Laws → ((n m : ℕ) → HasGoodRun (storm_text n m) → KeepsStormKeys n m) → is_cut ≡ false → line ≡ storm_line number jobs script run
      → IsStormAnswer number jobs Done line
  line_answers line one law laws keeps whole line_is =
      let good : HasGoodRun (storm_text number jobs) = subst HasGoodRun text (good_run bytes script is_cut run says r one laws) in
      record {
        due = record {
          is_script = law number jobs;
          whole = cut_same one law ∙ whole;
          text_is = subst (λ (cs : List Command). line ≡ storm_line number jobs cs (limited_run (driver_input_of cs) cs).run) (commands_are one law)
              (line_is ∙ ap (storm_line number jobs script) (sym (run_is bytes script is_cut run says r)));
        };
        good = λ e. good;
        kept = λ e. keeps number jobs good;
      }
