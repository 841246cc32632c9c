-- What a message makes of a session, before it is known what the session does (own).
use Rattle.std.specs.Prelude.{◌≡◌, ℕ, List, Option, Some, None}
use Rattle.node_model.specs.Sessions as sessions
use Rattle.node_model.specs.Sessions.{takes_from}
use Rattle.state_sessions.specs.declared.heard.Heard.{Heard}
use Rattle.state_sessions.specs.declared.heard.Next.{Next}
use Rattle.state_sessions.specs.declared.heard.Next.TheVariants as nexts

-- the two give each key the same size
abbrev pub Agrees : (List ℕ → Option ℕ) → (List ℕ → Option ℕ) → Type 0
Agrees size known = (key : List ℕ) → size key ≡ known key

abbrev pub applied : Next → sessions.Doing → sessions.Doing
applied nexts.Stays was = was
applied nexts.Waits was = sessions.Waits
applied (nexts.Guards hold key) was = sessions.Guards hold key
applied (nexts.Gives key at left good) was = sessions.Gives key at left good
applied (nexts.Wants key size) was = sessions.Wants key size
applied (nexts.Takes count) was = takes_from count was

abbrev pub told_of : ℕ → Option ℕ → ℕ
told_of was None = was
told_of was (Some version) = version

abbrev pub heard_so : Option Heard → sessions.Session → sessions.Session
heard_so None was = was
heard_so (Some h) was = record { version = told_of was.version h.version; doing = applied h.next was.doing }
