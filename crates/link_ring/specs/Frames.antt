-- Frames and their epochs (own).
use Rattle.std.specs.Prelude.{ℕ, Bool, true, false, ◌==◌, ◌||◌, ◌&&◌, nat_lt}
use Rattle.link_ring.specs.declared.frame.Frame.{Frame}
use Rattle.link_ring.specs.declared.frame.Body.{Body}
use Rattle.link_ring.specs.declared.frame.Body.TheVariants as bodies
use Rattle.link_ring.specs.declared.end.Phase.{Phase}
use Rattle.link_ring.specs.declared.end.Phase.TheVariants.{Closed, Opening, Open}

abbrev pub is_close_body : Body → Bool
is_close_body bodies.Open = false
is_close_body (bodies.Line text) = false
is_close_body (bodies.Bytes bytes) = false
is_close_body bodies.Close = true

abbrev pub is_close : Frame → Bool
is_close f = is_close_body f.body

abbrev pub is_closed : Phase → Bool
is_closed Closed = true
is_closed Opening = false
is_closed Open = false

-- an epoch before that of an end, or that of an end that is closed: no frame of it is taken
abbrev pub is_past : ℕ → Phase → ℕ → Bool
is_past epoch phase e = nat_lt e epoch || ((e == epoch) && is_closed phase)

abbrev pub is_old : ℕ → Phase → Frame → Bool
is_old epoch phase f = is_past epoch phase f.epoch
