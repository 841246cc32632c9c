-- What the proof of `whole::write_whole` needs beside the tactics.
use Rattle.std.proofs.Common.{◌∙◌, ap, arith, take, List, ℕ}
use Rattle.std.specs.Io.KnownBytes.{append_known}
use Rattle.annex_base.proofs.KnownLemmas.{append_known-front}
use Rattle.script_answers.proofs.whole.write_whole.Goals as goal

pub loop-at-preserved : goal.loop-at-preserved
loop-at-preserved g c = record {
  within = omega (arith, c.in_ok-at.ensures.bound);
  taken = c.in_ok-at.ensures.bytes
      ∙ ap (λ o. append_known o (take c.in_ok-at.field-0 c.split_at.result.1.now)) c.loop-at.invariant.taken
      ∙ ap (λ (rest : List ℕ). append_known (append_known (g.K.Sink.taken c.args.sink.now) (take c.loop-at.at c.args.text.now)) (take c.in_ok-at.field-0 rest)) c.split_at.ensures.back
      ∙ append_known-front (g.K.Sink.taken c.args.sink.now) c.args.text.now c.loop-at.at c.in_ok-at.field-0;
  kept = c.in_ok-at.ensures.cause.kept ∙ c.loop-at.invariant.kept;
}
