-- What the proof of `turn::Turn::past_parting` needs beside the tactics.
use Rattle.std.proofs.Common.{Bool, ◌&&◌, not, List, ◌++◌, sym, ap, ◌∙◌}
use Rattle.run_data.specs.declared.entry.FrameView.{FrameView}
use Rattle.node_model.specs.Ends.{frames}
use Rattle.node_model.specs.Jobs.{job_end}
use Rattle.node_model.specs.JobStep.{end_with, key_of}
use Rattle.step_judging.specs.Same.{same_frames}
use Rattle.job_makes.specs.Partings.{closing}
use Rattle.job_makes.specs.Turns.{turn_in}
use Rattle.job_makes.proofs.PartingLemmas.{parting_open, parting_shut}
use Rattle.job_makes.proofs.turn.Turn.past_parting.Goals as goal

pub returns-then-not-is_open : goal.returns-then-not-is_open
returns-then-not-is_open c = λ s st more.
    let t = turn_in c.args.self.now s st in
    ap (λ (fs : List FrameView). same_frames (fs ++ more) c.args.sent.now) (parting_shut t c.args.lost c.args.peer (sym (c.is_open.ensures s st) ∙ c.if-not-is_open.true))

pub returns : goal.returns
returns c = λ s st more.
    let t = turn_in c.args.self.now s st in
    let a = job_end t.w c.args.peer in
    let end = end_with t c.args.peer in
    ap (λ (fs : List FrameView). same_frames (fs ++ more) c.args.sent.now)
    (parting_open t c.args.lost c.args.peer c.if-peer-self.false (sym (c.is_open.ensures s st) ∙ c.if-not-is_open.false)
    ∙ ap (λ (b : Bool). frames a end (closing (b && not c.args.lost) (key_of t))) (sym c.has_lock-locked.ensures))
    ∙ c.past_closing.ensures more
