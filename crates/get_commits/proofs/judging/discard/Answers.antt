-- By what the store answers.
use Rattle.std.proofs.Common.{ℕ, ◌++◌, List, [], ◌∷◌, None, true, false, refl, ap, ◌∙◌}
use Rattle.std.specs.Prelude.{is_some}
use Rattle.std.specs.Option.{option_map}
use Rattle.annex_base.specs.declared.kinds.Call.TheVariants as calls
use Rattle.object_store.specs.Stores.{Parts, with_at}
use Rattle.run_data.specs.declared.job.SourceCause.TheVariants.{Wrong}
use Rattle.run_data.specs.declared.job.SourceFailure.{SourceFailure}
use Rattle.p2p_wire.specs.declared.message.Message.TheVariants.{Failure}
use Rattle.session_state.proofs.Calling.{makes_one}
use Rattle.transfer_turns.specs.Steps.{seen}
use Rattle.transfer_turns.specs.Turns.{output_of}
use Rattle.get_phases.specs.declared.getting.Phase.{Phase}
use Rattle.get_phases.specs.Gets.{fill_in}
use Rattle.get_phases.proofs.Losses.{message_to}
use Rattle.get_commits.proofs.Verdicts.{dropped_does, fault_does}
use Rattle.get_commits.proofs.judging.discard.Goals as goal

pub go_on-requires : goal.go_on-requires
go_on-requires g c = record { fills = ap (λ (ph : Phase). is_some (fill_in ph)) c.requires.judged.at }

pub give_up-requires : goal.give_up-requires
give_up-requires g c = record { fills = ap (λ (ph : Phase). is_some (fill_in ph)) c.requires.judged.at }

pub returns-in-Ok : goal.returns-in-Ok
returns-in-Ok g c = record {
  does = λ x.
      let w = c.args.getting.now in
      let j = c.requires.judged in
      let made = makes_one calls.DropPart false _ _ c.in-Ok.ensures.failing in
      dropped_does x c.args.table.now (seen (g.K.Keeper.contents c.args.keeper.now) (g.K.Keeper.parts c.args.keeper.now) (g.K.Keeper.records c.args.keeper.now) (g.K.Keeper.files c.args.keeper.now) (g.K.Keeper.faults c.args.keeper.now) (g.K.Keeper.failing c.args.keeper.now)) (seen (g.K.Keeper.contents c.drop_part.new.self) (g.K.Keeper.parts c.drop_part.new.self) (g.K.Keeper.records c.drop_part.new.self) (g.K.Keeper.files c.drop_part.new.self) (g.K.Keeper.faults c.drop_part.new.self) (g.K.Keeper.failing c.drop_part.new.self)) w c.go_on.new.getting c.args.peer c.args.start j.taken c.in_ok-output.output j.at j.verdict
      (record {
        number = c.go_on.ensures.number;
        slot = c.go_on.ensures.slot;
        job = c.go_on.ensures.job;
        knows = c.go_on.ensures.version;
        causes = c.go_on.ensures.causes ∙ (c.in_ok-causes.ensures ∙ ap (λ (l : List SourceFailure). l ++ record { repo = c.args.peer; cause = Wrong } ∷ []) c.deref.ensures.value);
        phase = c.go_on.ensures.phase;
      })
      (c.in_ok-output.ensures.made ∙ ap (λ kind. output_of kind (message_to c.args.peer Failure) false) c.talk.ensures) c.say.ensures.line c.drop_part.ensures.contents
      (c.in-Ok.ensures.ok ∙ ap (λ (key : List ℕ). option_map (λ (p : Parts). with_at p key []) (g.K.Keeper.parts c.args.keeper.now)) c.key-2.ensures)
      (record { records = c.drop_part.ensures.records; files = c.drop_part.ensures.files; later = c.drop_part.ensures.later; cause = tt; left = made.left }) made c.requires.has;
}

pub returns-in-Err : goal.returns-in-Err
returns-in-Err g c = record {
  does = λ x.
      let w = c.args.getting.now in
      let j = c.requires.judged in
      let made = makes_one calls.DropPart true _ _ c.in-Err.ensures.failing in
      fault_does x c.args.table.now (seen (g.K.Keeper.contents c.args.keeper.now) (g.K.Keeper.parts c.args.keeper.now) (g.K.Keeper.records c.args.keeper.now) (g.K.Keeper.files c.args.keeper.now) (g.K.Keeper.faults c.args.keeper.now) (g.K.Keeper.failing c.args.keeper.now)) (seen (g.K.Keeper.contents c.drop_part.new.self) (g.K.Keeper.parts c.drop_part.new.self) (g.K.Keeper.records c.drop_part.new.self) (g.K.Keeper.files c.drop_part.new.self) (g.K.Keeper.faults c.drop_part.new.self) (g.K.Keeper.failing c.drop_part.new.self)) w c.give_up.new.getting c.args.peer c.args.start j.taken None calls.DropPart c.failing.result j.at j.verdict refl c.give_up.ensures c.failing.ensures
      (record {
        contents = c.drop_part.ensures.contents;
        parts = c.in-Err.ensures.err_parts;
        records = c.drop_part.ensures.records;
        files = c.drop_part.ensures.files;
        later = c.drop_part.ensures.later;
        cause = c.in-Err.ensures.cause;
        left = made.left;
      }) made c.requires.has;
}
