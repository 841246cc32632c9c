-- What is answered is the one thing that is due.
use Rattle.std.proofs.Common.{◌++◌, sym, ◌∙◌}
use Rattle.std.proofs.lemmas.Bool.{true≢false}
use Rattle.run_data.specs.Histories.{most_entries}
use Rattle.driver_model.specs.Limits.{limited_run}
use Rattle.driver_script.specs.Inputs.{driver_input_of}
use Rattle.report_text.specs.Report.{report}
use Rattle.script_answers.specs.Top.{entries_name, limit_text}
use Rattle.script_answers.proofs.DueLemmas.{HaveOneReading, due_answered, due_cut, due_report}
use Rattle.script_answers.proofs.StormWords.{run_is_no_storm, usage_only}
use Rattle.annex_cli.proofs.annex.Goals as goal

pub returns-then-not-is_run-clause-answers : goal.returns-then-not-is_run-clause-answers
returns-then-not-is_run-clause-answers g c = record {
  run = λ is. absurd (true≢false (sym (c.is_run.ensures.1 is) ∙ c.if-not-is_run.true));
  storm = c.answer_other.ensures.storm;
  other = λ no none. c.answer_other.ensures.other none;
}

pub returns-then-not-is_run-clause-usage : goal.returns-then-not-is_run-clause-usage
returns-then-not-is_run-clause-usage g c = λ no none calm.
    usage_only _ _ c.answer_other.result (c.answer_other.ensures.other none) (λ fault. calm (c.answer_other.ensures.write fault))

pub returns-clause-answers : goal.returns-clause-answers
returns-clause-answers g c =
    let is = c.is_run.ensures.0 c.if-not-is_run.false in
    record {
      run = λ same. c.run.ensures.answers;
      storm = λ number jobs asks. absurd (run_is_no_storm _ number jobs is asks);
      other = λ no none. absurd (no is);
    }

pub returns-clause-due : goal.returns-clause-due
returns-clause-due g c = λ bytes text status words left due read write.
    let law = c.scripts_are_built_or_not.ensures in
    let one : HaveOneReading = record { script = law.script; line = law.line; one = law.one } in
    due_answered one bytes text status _ _ _ _ left due c.run.result c.run.ensures.answers
    (λ fault. read (c.run.ensures.read fault)) (λ fault. write (c.run.ensures.write fault))

pub returns-clause-reported : goal.returns-clause-reported
returns-clause-reported g c = λ bytes script words left short says built whole read write.
    returns-clause-due g c bytes (report script (limited_run (driver_input_of script) script).run) _ words left
    (due_report bytes script short (record { says = says; built = built }) whole) read write

pub returns-clause-cut : goal.returns-clause-cut
returns-clause-cut g c = λ bytes script words left short says built cut read write.
    returns-clause-due g c bytes (report script (limited_run (driver_input_of script) script).run ++ limit_text entries_name most_entries) _ words left
    (due_cut c.cut_script_runs_have_a_full_history.ensures bytes script short (record { says = says; built = built }) cut) read write
