-- By the message.
use Rattle.std.proofs.Common.{refl, ap}
use Rattle.std.specs.Prelude.{is_some}
use Rattle.transfer_turns.specs.Steps.{seen}
use Rattle.get_phases.specs.declared.getting.Phase.{Phase}
use Rattle.get_phases.specs.declared.getting.Phase.TheVariants as phases
use Rattle.get_phases.specs.Gets.{fill_in, work_of}
use Rattle.drop_phases.proofs.Greetings.{learns_else}
use Rattle.get_answers.proofs.Losses.{else_does}
use Rattle.get_answers.proofs.Unexpected.{greets_else}
use Rattle.get_answers.proofs.hearing.take_version.Goals as goal

pub shut-requires : goal.shut-requires
shut-requires g c = record { fills = ap (λ (ph : Phase). is_some (fill_in ph)) c.requires.greets.at }

pub returns-in-Version : goal.returns-in-Version
returns-in-Version g c = record {
  does = λ x rows has. rw c.in-Version.is (c.greet.ensures.does x rows has);
}

pub returns-in_default : goal.returns-in_default
returns-in_default g c = record {
  does = λ x rows has.
      let w = c.args.getting.now in
      else_does x rows (seen (g.K.Keeper.contents c.args.keeper.now) (g.K.Keeper.parts c.args.keeper.now) (g.K.Keeper.records c.args.keeper.now) (g.K.Keeper.files c.args.keeper.now) (g.K.Keeper.faults c.args.keeper.now) (g.K.Keeper.failing c.args.keeper.now)) w c.shut.new.getting c.args.peer c.shut.result c.args.message.now w.version (phases.Greets c.args.peer c.requires.greets.fill) has c.shut.ensures.err c.requires.greets.at refl refl
      (λ f line. learns_else (work_of w) f c.args.peer c.args.message.now line c.in_default.not-Version)
      (λ t f gets. greets_else t f c.args.peer c.args.peer c.args.message.now gets c.in_default.not-Version) c.shut.ensures.ok;
}
