-- What is told, and what follows.
use Rattle.std.proofs.Common.{ℕ, Some, false, ap, subst, ◌∙◌}
use Rattle.std.specs.Prelude.{is_some}
use Rattle.run_data.specs.declared.job.SourceCause.{SourceCause}
use Rattle.p2p_wire.specs.declared.message.Message.TheVariants.{Failure, Invalid}
use Rattle.node_model.specs.Jobs.{source_cause}
use Rattle.transfer_turns.specs.Turns.{output_of}
use Rattle.get_phases.specs.declared.getting.Phase.{Phase}
use Rattle.get_phases.specs.Gets.{fill_in}
use Rattle.get_phases.specs.Losing.{FailsWith}
use Rattle.get_phases.proofs.Losses.{message_to}
use Rattle.get_phases.proofs.Losses.{word_there}
use Rattle.get_answers.proofs.Refusals.{rejected_does}
use Rattle.get_answers.proofs.rejecting.reject.Goals as goal

pub fail_with-requires : goal.fail_with-requires
fail_with-requires c = record { fills = ap (λ (ph : Phase). is_some (fill_in ph)) c.requires.served.at }

pub returns : goal.returns
returns c = record {
  does = λ x rows k has.
      let w = c.args.getting.now in
      let s = c.requires.served in
      let w' = c.fail_with.new.getting in
      rejected_does x rows k w w' c.args.peer s.start s.taken c.in_ok-output.output s.at
      (subst (λ (cause : SourceCause). FailsWith c.args.peer cause w.version w w') (c.refused.ensures ∙ ap (λ (n : ℕ). source_cause n (Some Invalid)) (word_there c.args.peer _ _ _ _ _ _ s.at c.in-Word.is).1) c.in_ok-fail_with.ensures.ok)
      (c.in_ok-output.ensures.made ∙ ap (λ kind. output_of kind (message_to c.args.peer Failure) false) c.talk.ensures) c.say.ensures.line has;
}
