-- What the proof of `state::RepoState::logs_now` needs beside the tactics.
use Rattle.std.proofs.Common.{ap, sym, subst, ◌∙◌}
use Rattle.annex_base.specs.Settings.{Settings}
use Rattle.state_jobs.specs.Works.{work_of}
use Rattle.state_reads.specs.Known.{AreLogsRead}
use Rattle.trust_groups.specs.Settings.{settings}
use Rattle.union_merge.specs.Branch.{Files as BranchFiles, lines_at}
use Rattle.step_state.proofs.state.RepoState.logs_now.Goals as goal

pub returns : goal.returns
returns c = λ s st is had.
    let kept = c.in_ok-known.ensures (lines_at c.branch-self.result.now) c.in_ok-logs.ensures.exact in
    let read = kept.1 s (is.parts.place.number ∙ sym c.number-number.ensures.value) (is.parts.place.ids ∙ sym c.ids-ids.ensures) had in
    let same = ap (λ (b : BranchFiles). settings (lines_at b)) c.branch-self.ensures ∙ sym is.files.logs in
    subst (λ (logs : Settings). AreLogsRead logs s (work_of c.args.work.now) c.in_ok-known.field-0.known) same read
