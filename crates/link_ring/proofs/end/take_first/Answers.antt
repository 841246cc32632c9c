-- What the proof of `end::take_first` needs beside the tactics.
use Rattle.std.proofs.Common.{◌≡◌, ◌<◌, ◌∙◌, length, not, false, rules}
use Rattle.link_ring.specs.Frames.{is_old}
use Rattle.link_ring.proofs.Taking.{passed_over}
use Rattle.link_ring.proofs.end.take_first.Goals as goal

-- the same at each of the places where a frame that is passed over is dropped
pub loop-phase-preserved-else-not-is_old : goal.loop-phase-preserved-else-not-is_old
loop-phase-preserved-else-not-is_old c =
    let some : 0 < length c.loop-phase.frames.items = search rules in
    let fails : not (is_old c.args.epoch c.args.phase c.remove-frame.result) ≡ false = search rules in
    let step = passed_over (λ f. not (is_old c.args.epoch c.args.phase f)) c.loop-phase.frames.items c.remove-frame.new.self.items c.remove-frame.result some c.remove-frame.ensures.value c.remove-frame.ensures.items fails in
    record {
      frame = c.loop-phase.invariant.frame ∙ step.0;
      rest = c.loop-phase.invariant.rest ∙ step.1;
      room = c.remove-frame.ensures.capacity ∙ c.loop-phase.invariant.room;
    }

pub loop-phase-preserved-else-not-is_old-2 : goal.loop-phase-preserved-else-not-is_old-2
loop-phase-preserved-else-not-is_old-2 c =
    let some : 0 < length c.loop-phase.frames.items = search rules in
    let fails : not (is_old c.args.epoch c.args.phase c.remove-frame.result) ≡ false = search rules in
    let step = passed_over (λ f. not (is_old c.args.epoch c.args.phase f)) c.loop-phase.frames.items c.remove-frame.new.self.items c.remove-frame.result some c.remove-frame.ensures.value c.remove-frame.ensures.items fails in
    record {
      frame = c.loop-phase.invariant.frame ∙ step.0;
      rest = c.loop-phase.invariant.rest ∙ step.1;
      room = c.remove-frame.ensures.capacity ∙ c.loop-phase.invariant.room;
    }

pub loop-phase-preserved : goal.loop-phase-preserved
loop-phase-preserved c =
    let some : 0 < length c.loop-phase.frames.items = search rules in
    let fails : not (is_old c.args.epoch c.args.phase c.remove-frame.result) ≡ false = search rules in
    let step = passed_over (λ f. not (is_old c.args.epoch c.args.phase f)) c.loop-phase.frames.items c.remove-frame.new.self.items c.remove-frame.result some c.remove-frame.ensures.value c.remove-frame.ensures.items fails in
    record {
      frame = c.loop-phase.invariant.frame ∙ step.0;
      rest = c.loop-phase.invariant.rest ∙ step.1;
      room = c.remove-frame.ensures.capacity ∙ c.loop-phase.invariant.room;
    }
