-- By the version.
use Rattle.std.proofs.Common.{refl, sym, ap}
use Rattle.std.specs.Prelude.{is_some}
use Rattle.transfer_turns.specs.Steps.{seen}
use Rattle.p2p_wire.specs.declared.message.Message.TheVariants.{Version}
use Rattle.drop_phases.proofs.Greetings.{greets_high}
use Rattle.transfer_turns.proofs.Frames.{line_is}
use Rattle.transfer_turns.proofs.Works.{learns_version}
use Rattle.get_phases.specs.declared.getting.Phase.{Phase}
use Rattle.get_phases.specs.declared.getting.Phase.TheVariants as phases
use Rattle.get_phases.specs.Gets.{fill_in, work_of}
use Rattle.get_answers.proofs.Greeting.{knows}
use Rattle.get_answers.proofs.Losses.{else_does}
use Rattle.get_answers.proofs.hearing.greet.Goals as goal

pub shut_unknown-requires : goal.shut_unknown-requires
shut_unknown-requires g c = record { fills = ap (λ (ph : Phase). is_some (fill_in ph)) c.requires.greets.at }

pub returns-then-version-gt3 : goal.returns-then-version-gt3
returns-then-version-gt3 g c = record {
  does = λ x rows has.
      let w = c.args.getting.now in
      else_does x rows (seen (g.K.Keeper.contents c.args.keeper.now) (g.K.Keeper.parts c.args.keeper.now) (g.K.Keeper.records c.args.keeper.now) (g.K.Keeper.files c.args.keeper.now) (g.K.Keeper.faults c.args.keeper.now) (g.K.Keeper.failing c.args.keeper.now)) w c.shut_unknown.new.getting c.args.peer c.shut_unknown.result (Version c.args.version) (knows w c.args.peer c.args.version) (phases.Greets c.args.peer c.requires.greets.fill) has c.shut_unknown.ensures.err c.requires.greets.at refl refl
      (λ f line. learns_version (work_of w) c.args.peer c.args.version f (line_is f.body (Version c.args.version) line))
      (λ t f gets. sym (greets_high t f c.args.peer c.args.version c.if-version-gt3.true)) c.shut_unknown.ensures.ok;
}
