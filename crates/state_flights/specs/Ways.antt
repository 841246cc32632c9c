-- Openings of connections as data, and the ways of the frames that a repository sends (own).
use Rattle.std.specs.Prelude.{ℕ, Bool, ◌&&◌, ◌==◌, if◌then◌else◌}
use Rattle.annex_base.specs.Bools.{same_bool}
use Rattle.run_data.specs.declared.entry.FrameView.{FrameView}
use Rattle.run_model.specs.Frames.{Way}
use Rattle.state_flights.specs.declared.opening.Opening.{Opening}

abbrev pub same_opening : Opening → Opening → Bool
same_opening a b = (a.client == b.client) && ((a.server == b.server) && ((a.slot == b.slot) && (a.epoch == b.epoch)))

-- the opening to which a way belongs
abbrev pub opening_of : Way → Opening
opening_of w = record { client = w.client; server = w.server; slot = w.slot; epoch = w.epoch }

abbrev pub same_way : Way → Way → Bool
same_way a b = same_opening (opening_of a) (opening_of b) && same_bool a.up b.up

-- the way of a frame that r sends
abbrev pub way_sent : ℕ → FrameView → Way
way_sent r f = record { client = if f.up then r else f.peer; server = if f.up then f.peer else r; slot = f.slot; up = f.up; epoch = f.epoch }
