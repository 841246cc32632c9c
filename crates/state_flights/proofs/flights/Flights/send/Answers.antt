-- What the proof of `flights::Flights::send` needs beside the tactics.
use Rattle.std.proofs.Common.{◌≡◌, ◌+◌, ◌<◌, ◌≤◌, ℕ, [], ◌∷◌, refl, sym, ap, subst, ◌∙◌, arith}
use Rattle.step_judging.specs.Carried.{flight_sent}
use Rattle.state_flights.specs.Tables.{flight_at, room_at, waiting_frame}
use Rattle.state_flights.specs.Ways.{opening_of, same_opening, way_sent}
use Rattle.state_flights.specs.declared.opening.Opening.{Opening}
use Rattle.state_flights.proofs.WayLemmas.{down_changes, down_left, there_down, there_up, up_changes, up_left}
use Rattle.state_flights.proofs.flights.Flights.send.Goals as goal

pub push-requires-clause-frame : goal.push-requires-clause-frame
push-requires-clause-frame c =
    let x = c.args.self.now in
    subst (λ (n : ℕ). 0 < n) (sym (there_up (room_at x.up.entries) (room_at x.down.entries) (way_sent c.args.repo c.args.frame.now) c.opening_sent-at.result c.opening_sent-at.ensures c.if-frame.true)) c.requires.frame

pub push-requires-else-frame-clause-frame : goal.push-requires-else-frame-clause-frame
push-requires-else-frame-clause-frame c =
    let x = c.args.self.now in
    subst (λ (n : ℕ). 0 < n) (sym (there_down (room_at x.up.entries) (room_at x.down.entries) (way_sent c.args.repo c.args.frame.now) c.opening_sent-at.result c.opening_sent-at.ensures c.if-frame.false)) c.requires.frame

pub returns-then-frame-clause-flight : goal.returns-then-frame-clause-flight
returns-then-frame-clause-flight c =
    let x = c.args.self.now in
    let new = waiting_frame c.args.waiting ∷ [] in
    up_changes (λ b y. flight_sent b new y) (λ y. refl) (flight_at x.up.entries) (flight_at c.push.new.table.entries) (way_sent c.args.repo c.args.frame.now)
    (λ other. c.push.ensures.flight other ∙ ap (λ (at : Opening). flight_sent (same_opening at other) new (flight_at x.up.entries other)) c.opening_sent-at.ensures)
    (flight_at x.down.entries) c.if-frame.true

pub returns-else-frame-clause-flight : goal.returns-else-frame-clause-flight
returns-else-frame-clause-flight c =
    let x = c.args.self.now in
    let new = waiting_frame c.args.waiting ∷ [] in
    down_changes (λ b y. flight_sent b new y) (λ y. refl) (flight_at x.down.entries) (flight_at c.push-else-frame.new.table.entries) (way_sent c.args.repo c.args.frame.now)
    (λ other. c.push-else-frame.ensures.flight other ∙ ap (λ (at : Opening). flight_sent (same_opening at other) new (flight_at x.down.entries other)) c.opening_sent-at.ensures)
    (flight_at x.up.entries) c.if-frame.false

pub returns-then-frame-clause-frames : goal.returns-then-frame-clause-frames
returns-then-frame-clause-frames c =
    let x = c.args.self.now in
    up_left 1 (room_at x.up.entries) (room_at c.push.new.table.entries) (room_at x.down.entries) c.push.ensures.frames

pub returns-else-frame-clause-frames : goal.returns-else-frame-clause-frames
returns-else-frame-clause-frames c =
    let x = c.args.self.now in
    down_left 1 (room_at x.down.entries) (room_at c.push-else-frame.new.table.entries) (room_at x.up.entries) c.push-else-frame.ensures.frames
