-- The bytes of a piece (own).
use Rattle.std.specs.Prelude.{ℕ, List, []}
use Rattle.link_ring.specs.declared.frame.Body.{Body}
use Rattle.link_ring.specs.declared.frame.Body.TheVariants as bodies
use Rattle.session_state.specs.declared.incoming.Incoming.{Incoming}
use Rattle.session_state.specs.declared.incoming.Incoming.TheVariants as incoming

-- of a frame
abbrev pub bytes_of : Body → List ℕ
bytes_of (bodies.Bytes bytes) = bytes
bytes_of body = []

-- of what was heard
abbrev pub bytes_heard : Incoming → List ℕ
bytes_heard (incoming.Bytes bytes) = bytes.items
bytes_heard i = []
