-- What the frames at an end are.
use Rattle.std.proofs.Common.{◌≡◌, ℕ, Bool, List, ◌∙◌}
use Rattle.run_data.specs.declared.entry.FrameText.{FrameText}
use Rattle.run_data.specs.declared.entry.FrameView.{FrameView}
use Rattle.node_model.specs.Ends.{frames}
use Rattle.node_model.specs.Jobs.{job_end}
use Rattle.state_ends.specs.Ends.{end_of}
use Rattle.state_jobs.specs.Works.{work_of}
use Rattle.step_effects.specs.Sendings.{name_of}
use Rattle.step_effects.specs.declared.sending.EndAt.{EndAt}
use Rattle.step_judging.specs.Same.{same_frames}
use Rattle.job_makes.specs.declared.turn.Turn.{Turn}

-- those of the job's end with a peer
pub said : (x : Turn) (at : EndAt) (peer : ℕ) (bodies : List FrameText) (sent : List FrameView) (b : Bool) → b ≡ same_frames (frames (name_of at) at.was bodies) sent
    → name_of at ≡ job_end (work_of x.work.now) peer → at.was ≡ end_of x.ends.now (job_end (work_of x.work.now) peer) → sent ≡ x.told.now.sent
    → b ≡ same_frames (frames (job_end (work_of x.work.now) peer) (end_of x.ends.now (job_end (work_of x.work.now) peer)) bodies) x.told.now.sent
said x at peer bodies sent b is name was same = is ∙ (λ i. same_frames (frames (name i) (was i) bodies) (same i))
