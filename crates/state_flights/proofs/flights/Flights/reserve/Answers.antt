-- What the proof of `flights::Flights::reserve` needs beside the tactics.
use Rattle.std.proofs.Common.{◌≡◌, ◌+◌, ◌≤◌, ℕ, OnOk, subst, ap, arith}
use Rattle.state_flights.specs.Tables.{flight_at, room_at}
use Rattle.state_flights.specs.Ways.{way_sent}
use Rattle.state_flights.proofs.WayLemmas.{down_left, down_stay, there_down, there_up, up_left, up_stay}
use Rattle.state_flights.proofs.flights.Flights.reserve.Goals as goal

pub returns-then-frame-clause-room : goal.returns-then-frame-clause-room
returns-then-frame-clause-room c =
    let w = way_sent c.args.repo c.args.frame.now in
    let is = there_up (room_at c.reserve.new.table.entries) (room_at c.args.self.now.down.entries) w c.opening_sent-at.result c.opening_sent-at.ensures c.if-frame.true in
    subst (λ (n : ℕ). OnOk c.reserve.result (c.args.count ≤ n)) is c.reserve.ensures.room

pub returns-else-frame-clause-room : goal.returns-else-frame-clause-room
returns-else-frame-clause-room c =
    let w = way_sent c.args.repo c.args.frame.now in
    let is = there_down (room_at c.args.self.now.up.entries) (room_at c.reserve-else-frame.new.table.entries) w c.opening_sent-at.result c.opening_sent-at.ensures c.if-frame.false in
    subst (λ (n : ℕ). OnOk c.reserve-else-frame.result (c.args.count ≤ n)) is c.reserve-else-frame.ensures.room

pub returns-then-frame-clause-more : goal.returns-then-frame-clause-more
returns-then-frame-clause-more c =
    up_left 0 (room_at c.args.self.now.up.entries) (room_at c.reserve.new.table.entries) (room_at c.args.self.now.down.entries) (λ other. let more = c.reserve.ensures.more other in omega (arith, more))

pub returns-else-frame-clause-more : goal.returns-else-frame-clause-more
returns-else-frame-clause-more c =
    down_left 0 (room_at c.args.self.now.down.entries) (room_at c.reserve-else-frame.new.table.entries) (room_at c.args.self.now.up.entries) (λ other. let more = c.reserve-else-frame.ensures.more other in omega (arith, more))

pub returns-then-frame-clause-same : goal.returns-then-frame-clause-same
returns-then-frame-clause-same c = up_stay (flight_at c.args.self.now.up.entries) (flight_at c.reserve.new.table.entries) (flight_at c.args.self.now.down.entries) c.reserve.ensures.same

pub returns-else-frame-clause-same : goal.returns-else-frame-clause-same
returns-else-frame-clause-same c = down_stay (flight_at c.args.self.now.down.entries) (flight_at c.reserve-else-frame.new.table.entries) (flight_at c.args.self.now.up.entries) c.reserve-else-frame.ensures.same
