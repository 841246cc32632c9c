-- By the message.
use Rattle.std.proofs.Common.{refl, ap, ◌∙◌}
use Rattle.std.specs.Prelude.{false, is_some}
use Rattle.transfer_turns.specs.Turns.{output_of}
use Rattle.get_phases.specs.declared.getting.Phase.{Phase}
use Rattle.get_phases.specs.declared.getting.Phase.TheVariants as phases
use Rattle.get_phases.specs.Gets.{fill_in}
use Rattle.p2p_wire.specs.declared.message.Message.TheVariants.{Version}
use Rattle.get_answers.proofs.Greeting.{opened_does}
use Rattle.get_phases.proofs.Losses.{message_to}
use Rattle.get_answers.proofs.Losses.{else_does}
use Rattle.get_answers.proofs.Unexpected.{opens_else}
use Rattle.get_answers.proofs.hearing.take_opened.Goals as goal

pub shut-requires : goal.shut-requires
shut-requires c = record { fills = ap (λ (ph : Phase). is_some (fill_in ph)) c.requires.opens.at }

pub take_fill-fill-requires : goal.take_fill-fill-requires
take_fill-fill-requires c = record { fills = ap (λ (ph : Phase). is_some (fill_in ph)) c.requires.opens.at }

pub returns-in_ok-output-in-AuthSuccess : goal.returns-in_ok-output-in-AuthSuccess
returns-in_ok-output-in-AuthSuccess c = record {
  does = λ x rows k has.
      rw c.in-AuthSuccess.is (
      opened_does x rows k c.args.getting.now c.take_fill-fill.new.self c.go_to.new.self c.args.peer c.requires.opens.fill c.take_fill-fill.result _ c.in_ok-output-in-AuthSuccess.output c.requires.opens.at c.take_fill-fill.ensures.fill c.take_fill-fill.ensures.bare c.go_to.ensures
      (c.in_ok-output-in-AuthSuccess.ensures.made ∙ ap (λ kind. output_of kind (message_to c.args.peer (Version 3)) false) c.talk.ensures) c.say.ensures.line has);
}

pub returns-in_default : goal.returns-in_default
returns-in_default c = record {
  does = λ x rows k has.
      else_does x rows k c.args.getting.now c.shut.new.getting c.args.peer c.shut.result c.args.message.now c.args.getting.now.version (phases.Opens c.args.peer c.requires.opens.fill) has c.shut.ensures.err c.requires.opens.at refl refl (λ f line. refl)
      (λ t f gets. opens_else t f c.args.peer c.args.peer c.args.message.now gets c.in_default.not-AuthSuccess) c.shut.ensures.ok;
}
