-- What the proof of `closing::closes_each` needs beside the tactics.
use Rattle.std.proofs.Common.{List, ap, arith, sym, ◌+◌, ◌-◌, ◌<◌, ◌∙◌}
use Rattle.std.specs.Prelude.{flat_map, option_copied}
use Rattle.std.specs.List.{range_with_len}
use Rattle.run_data.specs.declared.entry.FrameView.{FrameView}
use Rattle.node_model.specs.Evidence.{but}
use Rattle.step_judging.specs.Same.{same_frames}
use Rattle.step_effects.specs.Sendings.{rest_told}
use Rattle.any_time_checks.specs.Coming.{closes_with}
use Rattle.any_time_checks.proofs.CloseLemmas.{closes_first}
use Rattle.any_time_checks.proofs.closing.closes_each.Goals as goal

pub returns-in_default : goal.returns-in_default
returns-in_default c =
    let x = c.args.ends.now in
    let peer = c.loop-peer.peer in
    let rest = c.loop-peer.rest.now in
    let test = c.loop-peer-test.true in
    let below : peer < c.args.count = omega (arith, test) in
    let more : List FrameView = flat_map (closes_with x) (but c.args.number (range_with_len (peer + 1) (c.args.count - (peer + 1)))) in
    sym (sym c.loop-peer.invariant ∙ ap (λ fs. same_frames fs rest) (closes_first x c.args.number peer c.args.count below) ∙ c.past_other.ensures more
    ∙ ap (λ o. rest_told more (option_copied o)) c.in_default.is)

pub loop-peer-preserved : goal.loop-peer-preserved
loop-peer-preserved c =
    let x = c.args.ends.now in
    let peer = c.loop-peer.peer in
    let rest = c.loop-peer.rest.now in
    let test = c.loop-peer-test.true in
    let below : peer < c.args.count = omega (arith, test) in
    let more : List FrameView = flat_map (closes_with x) (but c.args.number (range_with_len (peer + 1) (c.args.count - (peer + 1)))) in
    sym (c.past_other.ensures more ∙ ap (λ o. rest_told more (option_copied o)) c.in-Some.is)
    ∙ sym (ap (λ fs. same_frames fs rest) (closes_first x c.args.number peer c.args.count below))
    ∙ c.loop-peer.invariant
