-- What the proof of `reading::read_for` needs beside the tactics.
use Rattle.std.proofs.Common.{◌≡◌, Result, Ok, Err, IfOk, ap, ◌∙◌}
use Rattle.trust_groups.specs.Settings.{Lines, settings}
use Rattle.trust_groups.specs.View.{settings_of}
use Rattle.union_merge.specs.Branch.{Files as BranchFiles, lines_at}
use Rattle.annex_base.specs.Settings.{Settings}
use Rattle.state_files.specs.Files.{branch_of}
use Rattle.state_jobs.specs.Works.{work_of}
use Rattle.state_reads.specs.Reads.{IsKeptFor}
use Rattle.state_reads.proofs.reading.read_for.Goals as goal

-- what is told for any lines is told for these
at_lines : {A E : Type 0} (P : Lines → A → Type 0) (r : Settings) (lines : Lines) (result : Result A E) → r ≡ settings lines → IfOk result (λ x. (ls : Lines) → r ≡ settings ls → P ls x) → IfOk result (P lines)
at_lines P r lines (Ok x) same told = told lines same
at_lines P r lines (Err e) same told = tt

pub returns-clause-kept : goal.returns-clause-kept
returns-clause-kept c =
    let was = branch_of c.args.files.now in
    at_lines (λ (lines : Lines). IsKeptFor lines c.args.repo c.args.ids.now c.args.paths.now (work_of c.args.work.now)) (settings_of c.settings.result.now) (lines_at was) c.read_settings.result
    (c.settings.ensures ∙ ap (λ (files : BranchFiles). settings (lines_at files)) c.read.ensures.same) c.read_settings.ensures
