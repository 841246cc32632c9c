-- By what the store answers.
use Rattle.std.proofs.Common.{ℕ, List, Some, true, false, refl, ap, ◌∙◌}
use Rattle.std.specs.Prelude.{Err, [], is_some}
use Rattle.std.specs.Option.{option_map}
use Rattle.annex_base.specs.declared.kinds.Call.TheVariants as calls
use Rattle.object_store.specs.Stores.{Parts, contents_after_commit, with_at}
use Rattle.p2p_wire.specs.declared.message.Message.TheVariants.{Success}
use Rattle.run_data.specs.declared.entry.By.TheVariants.{Job as by_job}
use Rattle.run_data.specs.declared.entry.EntryKind.TheVariants.{Gain}
use Rattle.node_model.specs.Jobs.{is_move}
use Rattle.session_state.proofs.Calling.{makes_one, memory_left}
use Rattle.transfer_turns.specs.Steps.{seen}
use Rattle.transfer_turns.specs.declared.parcels.Output.{Output}
use Rattle.transfer_turns.specs.Turns.{output_of}
use Rattle.get_phases.specs.declared.getting.Phase.{Phase}
use Rattle.get_phases.specs.Gets.{fill_in}
use Rattle.get_phases.proofs.Losses.{message_to}
use Rattle.get_commits.proofs.Verdicts.{fault_does, gained_does}
use Rattle.get_commits.proofs.judging.commit.Goals as goal

pub gain_content-requires : goal.gain_content-requires
gain_content-requires g c = record { fills = ap (λ (ph : Phase). is_some (fill_in ph)) c.requires.judged.at; has = c.requires.has; going = ap (λ (o : Output). o.ended) c.in_ok-output.ensures.made }

pub give_up-requires : goal.give_up-requires
give_up-requires g c = record { fills = ap (λ (ph : Phase). is_some (fill_in ph)) c.requires.judged.at }

pub returns-in-Ok : goal.returns-in-Ok
returns-in-Ok g c = record {
  does = λ x.
      let w = c.args.getting.now in
      let j = c.requires.judged in
      let made = makes_one calls.Commit false _ _ c.in-Ok.ensures.failing in
      gained_does x c.args.table.now c.gain_content.new.table (seen (g.K.Keeper.contents c.args.keeper.now) (g.K.Keeper.parts c.args.keeper.now) (g.K.Keeper.records c.args.keeper.now) (g.K.Keeper.files c.args.keeper.now) (g.K.Keeper.faults c.args.keeper.now) (g.K.Keeper.failing c.args.keeper.now)) (seen (g.K.Keeper.contents c.commit.new.self) (g.K.Keeper.parts c.commit.new.self) (g.K.Keeper.records c.commit.new.self) (g.K.Keeper.files c.commit.new.self) (g.K.Keeper.faults c.commit.new.self) (g.K.Keeper.failing c.commit.new.self)) w c.gain_content.new.getting c.args.peer c.args.start c.args.size j.taken c.gain_content.result j.at j.verdict c.gain_content.ensures.next
      (c.gain_content.ensures.output
      ∙ ((λ i. record (c.in_ok-output.ensures.made i) { ended = is_move w.job.kind }) ∙ (λ i. output_of (Gain (by_job w.number) c.args.size ((c.in_ok-copy.ensures ∙ c.key.ensures) i)) (message_to c.args.peer Success) (is_move w.job.kind))))
      c.gain_content.ensures.holds c.gain_content.ensures.bars c.gain_content.ensures.filled
      (c.in-Ok.ensures.content ∙ ap (λ (key : List ℕ). contents_after_commit (g.K.Keeper.contents c.args.keeper.now) (g.K.Keeper.parts c.args.keeper.now) key) c.key-3.ensures)
      (c.in-Ok.ensures.part ∙ ap (λ (key : List ℕ). option_map (λ (p : Parts). with_at p key []) (g.K.Keeper.parts c.args.keeper.now)) c.key-3.ensures)
      (record { records = c.commit.ensures.records; files = c.commit.ensures.files; later = c.commit.ensures.later; cause = tt; left = made.left }) made c.requires.has;
}

pub returns-in-Err-Failed : goal.returns-in-Err-Failed
returns-in-Err-Failed g c = record {
  does = λ x.
      let w = c.args.getting.now in
      let j = c.requires.judged in
      let made = makes_one calls.Commit true _ _ (rw c.in-Err-Failed.field-0-is at c.in-Err-Failed.ensures.failing) in
      fault_does x c.args.table.now (seen (g.K.Keeper.contents c.args.keeper.now) (g.K.Keeper.parts c.args.keeper.now) (g.K.Keeper.records c.args.keeper.now) (g.K.Keeper.files c.args.keeper.now) (g.K.Keeper.faults c.args.keeper.now) (g.K.Keeper.failing c.args.keeper.now)) (seen (g.K.Keeper.contents c.commit.new.self) (g.K.Keeper.parts c.commit.new.self) (g.K.Keeper.records c.commit.new.self) (g.K.Keeper.files c.commit.new.self) (g.K.Keeper.faults c.commit.new.self) (g.K.Keeper.failing c.commit.new.self)) w c.give_up.new.getting c.args.peer c.args.start j.taken (Some c.args.size) calls.Commit c.failing.result j.at j.verdict refl c.give_up.ensures c.failing.ensures
      (record {
        contents = c.in-Err-Failed.ensures.err_contents;
        parts = c.in-Err-Failed.ensures.err_parts;
        records = c.commit.ensures.records;
        files = c.commit.ensures.files;
        later = c.commit.ensures.later;
        cause = c.in-Err-Failed.ensures.cause (ap Err c.in-Err-Failed.field-0-is);
        left = made.left;
      }) made c.requires.has;
}

pub returns : goal.returns
returns g c = record {
  does = λ x. record {
    worker = refl;
    table = refl;
    store = record {
      contents = c.in-Err-NoMemory.ensures.err_contents;
      parts = c.in-Err-NoMemory.ensures.err_parts;
      records = c.commit.ensures.records;
      files = c.commit.ensures.files;
      later = c.commit.ensures.later;
      failing = memory_left (Unit {0}) calls.Commit _ _ _ c.in-Err-NoMemory.field-0-is c.in-Err-NoMemory.ensures.failing;
    };
  };
}
