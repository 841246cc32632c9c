-- What the proof of `run_state::RunState::accept_of` needs beside the tactics.
use Rattle.std.proofs.Common.{length, refl, subst, sym}
use Rattle.step_rules.specs.Runs.{with_entry}
use Rattle.step_rules.specs.States.{IsAfter, IsCarried}
use Rattle.step_rules.specs.declared.run_state.RunState.{RunState}
use Rattle.step_rules.proofs.Accepted.{begun_bounded, begun_carried, begun_same, counted, has_same, member_here, own_after, own_carried, room_carried, room_same, same_after, same_carried, with_stay}
use Rattle.step_rules.proofs.Accepting.{logs_lines, peers_here, takes_here}
use Rattle.step_rules.proofs.Changing.{on_err_always}
use Rattle.step_rules.proofs.run_state.RunState.accept_of.Goals as goal

pub returns-in_err-begun-clause-same : goal.returns-in_err-begun-clause-same
returns-in_err-begun-clause-same c =
    let x = c.args.self.now in
    let y = c.begun.new.self in
    on_err_always c.from_residual.result (same_after x y (begun_same x y c.in_err-begun.ensures.rest c.in_err-begun.ensures.marks))

pub returns-in_err-begun-clause-carried : goal.returns-in_err-begun-clause-carried
returns-in_err-begun-clause-carried c = begun_carried c.args.self.now c.begun.new.self c.in_err-begun.ensures.rest c.in_err-begun.ensures.marks c.requires.carried c.in_err-begun.ensures.tree

pub returns-in_err-bodies-clause-same : goal.returns-in_err-bodies-clause-same
returns-in_err-bodies-clause-same c =
    let x = c.args.self.now in
    let y = c.begun.new.self in
    on_err_always c.from_residual-in_err-bodies.result (same_after x y (begun_same x y c.in_ok-begun.ensures.rest c.in_ok-begun.ensures.marks))

pub returns-in_err-bodies-clause-carried : goal.returns-in_err-bodies-clause-carried
returns-in_err-bodies-clause-carried c = begun_carried c.args.self.now c.begun.new.self c.in_ok-begun.ensures.rest c.in_ok-begun.ensures.marks c.requires.carried c.in_ok-begun.ensures.tree

pub returns-in_err-ready-clause-same : goal.returns-in_err-ready-clause-same
returns-in_err-ready-clause-same c =
    let x = c.args.self.now in
    let y = c.begun.new.self in
    let f = c.ready.new.self in
    on_err_always c.from_residual-in_err-ready.result (same_after x (record y { flights = f }) (room_same x y c.in_ok-begun.ensures.rest c.in_ok-begun.ensures.marks f c.in_err-ready.ensures.same))

pub returns-in_err-ready-clause-carried : goal.returns-in_err-ready-clause-carried
returns-in_err-ready-clause-carried c =
    room_carried c.args.self.now c.begun.new.self c.in_ok-begun.ensures.rest c.in_ok-begun.ensures.marks c.ready.new.self c.in_err-ready.ensures.same c.requires.carried c.in_ok-begun.ensures.tree

pub hears-hears-requires : goal.hears-hears-requires
hears-hears-requires c =
    let x = c.args.self.now in
    let y = c.begun.new.self in
    let carried = c.requires.carried in
    let here = begun_carried x y c.in_ok-begun.ensures.rest c.in_ok-begun.ensures.marks carried c.in_ok-begun.ensures.tree in
    member_here c.runs_break_no_rule.ensures.next c.runs_grow.ensures.entry c.jobs_keep_their_paths.ensures.entries c.carried_states_agree.ensures.own_states y c.args.entry.now c.args.repo c.requires.own here.count
    carried.run (same_after x y (begun_same x y c.in_ok-begun.ensures.rest c.in_ok-begun.ensures.marks) carried.run carried.after) (c.requires.allowed carried.run carried.after)

pub after-requires-clause-lines : goal.after-requires-clause-lines
after-requires-clause-lines c =
    let carried = c.requires.carried in
    logs_lines c.runs_break_no_rule.ensures.next c.runs_grow.ensures.entry c.args.self.now c.args.entry.now carried.run carried.after (c.requires.allowed carried.run carried.after) c.runs_log_lines.ensures

pub after-requires-clause-bounded : goal.after-requires-clause-bounded
after-requires-clause-bounded c =
    let x = c.args.self.now in
    let carried = c.requires.carried in (
      length x.repos.now,
      x.taken,
      c.requires.few,
      begun_bounded x c.begun.new.self c.in_ok-begun.ensures.rest c.in_ok-begun.ensures.marks carried,
      peers_here c.runs_break_no_rule.ensures.next c.runs_grow.ensures.entry x c.args.entry.now carried.run carried.after (c.requires.allowed carried.run carried.after) c.args.repo c.requires.own c.sent_messages_are_read.ensures.read,
    )

pub returns-in_err-after-clause-same : goal.returns-in_err-after-clause-same
returns-in_err-after-clause-same c =
    let x = c.args.self.now in
    let y = c.begun.new.self in
    let f = c.ready.new.self in
    let z : RunState = record y { flights = f } in
    let last : RunState = record y { members = c.after.new.members; flights = f } in
    on_err_always c.from_residual-in_err-after.result (same_after x last
    (with_stay x z last c.args.repo (room_same x y c.in_ok-begun.ensures.rest c.in_ok-begun.ensures.marks f c.in_ok-ready.ensures.same) refl refl refl refl (λ w. refl) c.in_err-after.ensures.err))

pub returns-in_err-after-clause-carried : goal.returns-in_err-after-clause-carried
returns-in_err-after-clause-carried c =
    let x = c.args.self.now in
    let y = c.begun.new.self in
    let f = c.ready.new.self in
    let z : RunState = record y { flights = f } in
    let last : RunState = record y { members = c.after.new.members; flights = f } in
    same_carried x last
    (with_stay x z last c.args.repo (room_same x y c.in_ok-begun.ensures.rest c.in_ok-begun.ensures.marks f c.in_ok-ready.ensures.same) refl refl refl refl (λ w. refl) c.in_err-after.ensures.err) c.requires.carried
    (c.in_err-after.ensures.err_bounded (length x.repos.now) x.taken (begun_bounded x y c.in_ok-begun.ensures.rest c.in_ok-begun.ensures.marks c.requires.carried)) c.in_ok-begun.ensures.tree

pub note-requires-clause-next : goal.note-requires-clause-next
note-requires-clause-next c =
    let x = c.args.self.now in
    let y = c.begun.new.self in
    let f = c.ready.new.self in
    let carried = c.requires.carried in
    let z : RunState = record y { flights = f } in
    takes_here c.runs_break_no_rule.ensures.next c.runs_grow.ensures.entry z c.args.entry.now carried.run
    (same_after x z (room_same x y c.in_ok-begun.ensures.rest c.in_ok-begun.ensures.marks f c.in_ok-ready.ensures.same) carried.run carried.after) (c.requires.allowed carried.run carried.after) c.args.repo c.requires.own
    c.judges_carry_enough.ensures

pub returns-clause-ok : goal.returns-clause-ok
returns-clause-ok c = λ run after.
    let x = c.args.self.now in
    let y = c.begun.new.self in
    let f = c.ready.new.self in
    let e = c.args.entry.now in
    let z : RunState = record y { flights = f } in
    let last : RunState = record y { members = c.after.new.members; flights = c.note.new.self } in
    let same = room_same x y c.in_ok-begun.ensures.rest c.in_ok-begun.ensures.marks f c.in_ok-ready.ensures.same in
    let here = begun_carried x y c.in_ok-begun.ensures.rest c.in_ok-begun.ensures.marks c.requires.carried c.in_ok-begun.ensures.tree in
    subst (λ (q : RunState). IsAfter q (with_entry run e)) (sym c.count.ensures)
    (own_after c.runs_break_no_rule.ensures.next c.runs_grow.ensures.entry c.jobs_keep_their_paths.ensures.entries c.carried_states_agree.ensures.own_states z (counted last e) e c.args.repo c.requires.own here.count
    (record { repos = refl; tree = refl; taken = refl; newest = refl }) c.in_ok-begun.begun (has_same x z e.kind c.in_ok-begun.begun same c.in_ok-begun.ensures.paths) c.hears-hears.result c.hears-hears.ensures
    c.in_ok-after.ensures.ok c.note.ensures run (same_after x z same run after) (c.requires.allowed run after))

pub returns-clause-carried : goal.returns-clause-carried
returns-clause-carried c =
    let x = c.args.self.now in
    let y = c.begun.new.self in
    let f = c.ready.new.self in
    let e = c.args.entry.now in
    let carried = c.requires.carried in
    let z : RunState = record y { flights = f } in
    let last : RunState = record y { members = c.after.new.members; flights = c.note.new.self } in
    let same = room_same x y c.in_ok-begun.ensures.rest c.in_ok-begun.ensures.marks f c.in_ok-ready.ensures.same in
    let here = begun_carried x y c.in_ok-begun.ensures.rest c.in_ok-begun.ensures.marks carried c.in_ok-begun.ensures.tree in
    let room = room_carried x y c.in_ok-begun.ensures.rest c.in_ok-begun.ensures.marks f c.in_ok-ready.ensures.same carried c.in_ok-begun.ensures.tree in
    subst IsCarried (sym c.count.ensures)
    (own_carried c.runs_break_no_rule.ensures.next c.runs_grow.ensures.entry c.jobs_keep_their_paths.ensures.entries c.carried_states_agree.ensures.own_states z (counted last e) e c.args.repo c.requires.own here.count
    (record { repos = refl; tree = refl; taken = refl; newest = refl }) c.in_ok-begun.begun (has_same x z e.kind c.in_ok-begun.begun same c.in_ok-begun.ensures.paths) c.hears-hears.result c.hears-hears.ensures
    c.in_ok-after.ensures.ok c.note.ensures room carried.run (same_after x z same carried.run carried.after) (c.requires.allowed carried.run carried.after) refl (c.in_ok-after.ensures.bounded (length y.repos.now) y.taken here.members))
