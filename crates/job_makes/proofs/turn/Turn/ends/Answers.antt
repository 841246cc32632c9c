-- What the proof of `turn::Turn::ends` needs beside the tactics.
use Rattle.std.proofs.Common.{Bool, ◌&&◌, not, [], ap, ◌∙◌}
use Rattle.std.specs.Option.{option_copied}
use Rattle.run_data.specs.declared.entry.EntryKind.TheVariants.{End}
use Rattle.node_model.specs.Calls.{to_release}
use Rattle.node_model.specs.JobStep.{farewells, owns_share}
use Rattle.node_model.specs.Look.{Effect, failing_call}
use Rattle.node_model.specs.Rows.{is_lost_ordered}
use Rattle.step_judging.specs.Same.{same_frames}
use Rattle.job_makes.specs.Turns.{turn_in}
use Rattle.job_makes.proofs.turn.Turn.ends.Goals as goal

pub returns : goal.returns
returns c = λ s st outcome is lost.
    let t = turn_in c.args.self.now s st in
    let sent = farewells t (is_lost_ordered outcome) in
    let last : Effect = record { kind = End t.w.number outcome; taken = option_copied c.args.taken; sent = sent; lines = []; calls = [] } in
    c.attempts.ensures s st (to_release (owns_share t && not (is_lost_ordered outcome))) last
    (c.unreleased.ensures s st ∙ ap (λ (b : Bool). failing_call t.look.fails (to_release (owns_share t && not b))) lost)
    (c.sends-last.ensures (End t.w.number outcome) sent is (c.parts.ensures s st ∙ ap (λ (b : Bool). same_frames (farewells t b) c.args.self.now.told.now.sent) lost))
