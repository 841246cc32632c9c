-- What sessions do, as data, and how that is what the definitions say (own).
use Rattle.std.specs.Prelude.{ℕ}
use Rattle.run_data.specs.declared.entry.FrameText.{FrameText}
use Rattle.run_data.specs.declared.entry.FrameText.TheVariants.{Bytes, Line}
use Rattle.node_model.specs.Sessions as sessions
use Rattle.node_model.specs.Sessions.{gave_bytes}
use Rattle.state_sessions.specs.declared.doing.Doing.{Doing}
use Rattle.state_sessions.specs.declared.doing.Doing.TheVariants as doings
use Rattle.state_sessions.specs.declared.doing.Session.{Session}

abbrev pub doing_of : Doing → sessions.Doing
doing_of doings.Waits = sessions.Waits
doing_of (doings.Guards hold key) = sessions.Guards hold key
doing_of (doings.Gives key at left good) = sessions.Gives key at left good
doing_of doings.Gave = sessions.Gave
doing_of (doings.Wants key size) = sessions.Wants key size
doing_of (doings.Takes key size left) = sessions.Takes key size left
doing_of (doings.Took key size) = sessions.Took key size

abbrev pub as_session : Session → sessions.Session
as_session x = record { version = x.version; doing = doing_of x.doing }

-- the place to which it has come in a content
abbrev pub number_in : sessions.Doing → ℕ
number_in (sessions.Gives key at left good) = at
number_in (sessions.Wants key size) = size
number_in (sessions.Takes key size left) = size
number_in (sessions.Took key size) = size
number_in doing = 0

-- ---- for private contracts

-- what it does after it sent this unasked
abbrev pub doing_sent : sessions.Doing → FrameText → sessions.Doing
doing_sent was (Bytes n) = gave_bytes n was
doing_sent was (Line text) = sessions.Gave
doing_sent was body = was
