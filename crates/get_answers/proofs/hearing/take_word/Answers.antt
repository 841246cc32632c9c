-- By the word.
use Rattle.std.proofs.Common.{refl, ap, Some}
use Rattle.std.specs.Prelude.{is_some}
use Rattle.transfer_turns.specs.Steps.{seen}
use Rattle.run_data.specs.declared.entry.EntryKind.TheVariants.{Talk}
use Rattle.get_phases.specs.declared.getting.Phase.{Phase}
use Rattle.get_phases.specs.declared.getting.Phase.TheVariants as phases
use Rattle.get_phases.specs.Gets.{fill_in}
use Rattle.get_answers.proofs.Losses.{else_does}
use Rattle.get_answers.proofs.Unexpected.{word_else}
use Rattle.get_answers.proofs.Refusals.{still_word}
use Rattle.get_answers.proofs.hearing.take_word.Goals as goal

pub shut-requires : goal.shut-requires
shut-requires g c = record { fills = ap (λ (ph : Phase). is_some (fill_in ph)) c.requires.served.at }

pub returns-in-Valid : goal.returns-in-Valid
returns-in-Valid g c = record {
  does = λ x. rw c.in-Valid.is (c.verify.ensures.does x);
}

pub returns-in-Invalid : goal.returns-in-Invalid
returns-in-Invalid g c = record {
  does = λ x. rw c.in-Invalid.is (c.reject.ensures.does x c.args.table.now (seen (g.K.Keeper.contents c.args.keeper.now) (g.K.Keeper.parts c.args.keeper.now) (g.K.Keeper.records c.args.keeper.now) (g.K.Keeper.files c.args.keeper.now) (g.K.Keeper.faults c.args.keeper.now) (g.K.Keeper.failing c.args.keeper.now)) c.requires.has);
}

pub returns-in_default : goal.returns-in_default
returns-in_default g c = record {
  does = λ x.
      let w = c.args.getting.now in
      let s = c.requires.served in
      else_does x c.args.table.now (seen (g.K.Keeper.contents c.args.keeper.now) (g.K.Keeper.parts c.args.keeper.now) (g.K.Keeper.records c.args.keeper.now) (g.K.Keeper.files c.args.keeper.now) (g.K.Keeper.faults c.args.keeper.now) (g.K.Keeper.failing c.args.keeper.now)) w c.shut.new.getting c.args.peer c.shut.result c.args.message.now w.version (phases.Word c.args.peer s.start s.taken) c.requires.has c.shut.ensures.err s.at refl
      (still_word c.args.peer s.start s.taken c.args.message.now (Talk (Some w.number)) (g.K.Keeper.parts c.args.keeper.now) c.in_default.not-Valid) (λ f line. refl)
      (λ t f gets. word_else t f c.args.peer c.args.peer s.start s.taken.size c.args.message.now gets c.in_default.not-Valid c.in_default.not-Invalid) c.shut.ensures.ok;
}
