-- What the proof of `state::RepoState::after` needs beside the tactics.
use Rattle.std.proofs.Common.{length, sym, subst}
use Rattle.annex_base.proofs.Results.{OnErr-always}
use Rattle.node_model.specs.After.{state_after}
use Rattle.node_model.specs.SetUp.{SetUp}
use Rattle.node_model.specs.State.{State}
use Rattle.state_files.specs.Files.{AreFilesOf}
use Rattle.state_files.specs.declared.files.Files.{Files}
use Rattle.step_state.specs.States.{IsStateOf}
use Rattle.step_state.proofs.StayLemmas.{change_beside, change_stays, files_stay, parts_beside, room_beside, state_stays, with_files}
use Rattle.step_state.proofs.state.RepoState.after.Goals as goal

pub note-requires-2-clause-room : goal.note-requires-2-clause-room
note-requires-2-clause-room c = room_beside c.ready.new.self c.note.new.self (length c.args.entry.now.sent) c.in_ok-change.ensures.room

pub note-requires-2-clause-change : goal.note-requires-2-clause-change
note-requires-2-clause-change c =
    change_beside c.ready.new.self c.note.new.self c.args.entry.now c.in_ok-change.change
    (change_stays c.args.self.now c.ready.new.self c.args.entry.now c.in_ok-change.change c.ready.ensures.same c.in_ok-change.ensures.change.change_is)

pub returns-clause-ok : goal.returns-clause-ok
returns-clause-ok c = λ s st had is.
    let e = c.args.entry.now in
    let kept = state_stays c.args.self.now c.ready.new.self s st c.ready.ensures.same is in
    record {
      parts = c.note-2.ensures.parts s st (c.in_ok-change.ensures.change.so s st had is) (parts_beside c.ready.new.self c.note.new.self s st kept.parts);
      files = subst (λ (f : Files). AreFilesOf f (state_after s st e)) (sym c.note-2.ensures.files) (c.in_ok-note.ensures.ok s st kept.files);
    }

pub returns-in_err-change-clause-err : goal.returns-in_err-change-clause-err
returns-in_err-change-clause-err c =
    let was = c.args.self.now in
    let now = c.ready.new.self in
    let stays : (s : SetUp) (st : State) → IsStateOf was s st → IsStateOf now s st = λ s st is. state_stays was now s st c.ready.ensures.same is in
    OnErr-always _ c.from_residual.result stays

pub returns-in_err-note-clause-err : goal.returns-in_err-note-clause-err
returns-in_err-note-clause-err c =
    let was = c.args.self.now in
    let now = c.ready.new.self in
    let stays : (s : SetUp) (st : State) → IsStateOf was s st → IsStateOf (with_files now c.note.new.self) s st = λ s st is.
    let kept = state_stays was now s st c.ready.ensures.same is in
    record { parts = parts_beside now c.note.new.self s st kept.parts; files = files_stay now.files c.note.new.self st c.in_err-note.ensures.err kept.files } in
    OnErr-always _ c.from_residual-in_err-note.result stays
