-- What the proof of `flights::Flights::note` needs beside the tactics.
use Rattle.std.proofs.Common.{◌≡◌, ◌+◌, List, length, ap, sym, subst, ◌∙◌, arith, Option}
use Rattle.annex_base.specs.declared.kinds.Word.{Word}
use Rattle.run_data.specs.declared.entry.FrameView.{FrameView}
use Rattle.step_judging.specs.Carried.{flight_sent}
use Rattle.run_model.specs.Words.{word_of_kind}
use Rattle.state_flights.specs.Flights.{HasOpenings, HasRoomFor, bodies_of, flight_on, waits_on}
use Rattle.std.specs.Prelude.{true}
use Rattle.state_flights.proofs.WayLemmas.{after_entry, more_room}
use Rattle.state_flights.proofs.flights.Flights.note.Goals as goal

pub take_if-requires-clause-openings : goal.take_if-requires-clause-openings
take_if-requires-clause-openings c =
    let room = c.requires.room.openings in
    let up = room.up in
    let down = room.down in
    record { up = omega (arith, up); down = omega (arith, down) }

pub send_all-requires-clause-openings : goal.send_all-requires-clause-openings
send_all-requires-clause-openings c =
    let sent = c.args.entry.now.sent in
    subst (λ (fs : List FrameView). HasOpenings (length fs) c.take_if.new.self) (sym c.as_slice-frames.ensures) (c.take_if.ensures.openings (length sent) c.requires.room.openings)

pub send_all-requires-clause-frames : goal.send_all-requires-clause-frames
send_all-requires-clause-frames c =
    let sent = c.args.entry.now.sent in
    let r = c.args.repo in
    subst (λ (fs : List FrameView). HasRoomFor r fs (length fs) c.take_if.new.self) (sym c.as_slice-frames.ensures)
    (more_room r (length sent) sent c.args.self.now c.take_if.new.self c.take_if.ensures.frames c.requires.room.frames)

pub send_all-requires-clause-bodies : goal.send_all-requires-clause-bodies
send_all-requires-clause-bodies c = c.requires.bodies ∙ ap bodies_of (sym c.as_slice-frames.ensures)

pub returns : goal.returns
returns c = λ w.
    let e = c.args.entry.now in
    let r = c.args.repo in
    let mid = flight_on c.take_if.new.self w in
    after_entry r e w (flight_on c.args.self.now w) mid (flight_on c.send_all.new.self w) c.requires.own (c.take_if.ensures.flight w)
    (c.send_all.ensures w
    ∙ ap (λ (word : Option Word). flight_sent true (waits_on r word c.as_slice-frames.result.now w) mid) c.word_of_kind-word.ensures
    ∙ ap (λ (fs : List FrameView). flight_sent true (waits_on r (word_of_kind e.kind) fs w) mid) c.as_slice-frames.ensures)
