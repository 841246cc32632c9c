-- By the message.
use Rattle.std.proofs.Common.{refl, sym, ap, subst, ◌∙◌}
use Rattle.std.specs.Prelude.{false, [], is_some}
use Rattle.transfer_turns.specs.Turns.{output_of}
use Rattle.get_phases.specs.declared.getting.Phase.{Phase}
use Rattle.get_phases.specs.declared.getting.Phase.TheVariants as phases
use Rattle.get_phases.specs.Gets.{fill_in}
use Rattle.get_answers.specs.Taking.{IsData}
use Rattle.get_answers.proofs.Filling.{announced_does}
use Rattle.get_answers.proofs.Losses.{else_does}
use Rattle.get_answers.proofs.Unexpected.{data_else}
use Rattle.get_answers.proofs.hearing.take_data.Goals as goal

pub announce-requires : goal.announce-requires
announce-requires c = record { phase = subst (λ (ph : Phase). IsData ph) (sym c.requires.asks.at) tt }

pub shut-requires : goal.shut-requires
shut-requires c = record { fills = ap (λ (ph : Phase). is_some (fill_in ph)) c.requires.asks.at }

pub returns-in-Data : goal.returns-in-Data
returns-in-Data c = record {
  does = λ x rows k has.
      rw c.in-Data.is (
      announced_does x rows k c.args.getting.now c.announce.new.getting c.args.peer c.requires.asks.wanting _ c.quietly.result c.requires.asks.at c.announce.ensures.goes c.announce.ensures.fed
      (c.quietly.ensures ∙ ap (λ kind. output_of kind [] false) c.talk.ensures) has);
}

pub returns-in_default : goal.returns-in_default
returns-in_default c = record {
  does = λ x rows k has.
      else_does x rows k c.args.getting.now c.shut.new.getting c.args.peer c.shut.result c.args.message.now c.args.getting.now.version (phases.Data c.args.peer c.requires.asks.wanting) has c.shut.ensures.err c.requires.asks.at refl refl (λ f line. refl)
      (λ t f gets. data_else t f c.args.peer c.args.peer c.requires.asks.wanting.size c.args.message.now gets c.in_default.not-Data) c.shut.ensures.ok;
}
