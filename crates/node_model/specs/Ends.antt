-- The ends of a repository's connections.
use Rattle.std.specs.Prelude.{ℕ, ◌+◌, Bool, true, false, ◌&&◌, if◌then◌else◌, ◌==◌, List, [], ◌∷◌, filter, Option, Some, None, nat_lt, not, fold}
use Rattle.annex_base.specs.Bools.{same_bool}
use Rattle.run_data.specs.declared.entry.Entry.{Entry}
use Rattle.run_data.specs.declared.entry.FrameView.{FrameView}
use Rattle.run_data.specs.declared.entry.FrameText.{FrameText}
use Rattle.run_data.specs.declared.entry.FrameText.TheVariants.{Opening, Closing}

-- one end of a connection, by the peer, the client's slot, and whether this side is the client's
pub record EndName : Type 0 where
  pub peer : ℕ
  pub slot : ℕ
  pub client : Bool

-- the end of a server
abbrev pub server_end : ℕ → ℕ → EndName
server_end peer slot = record { peer = peer; slot = slot; client = false }

-- how an end stands: the opening that it is at, whether it is open, and how many frames it has sent since
pub record End : Type 0 where
  pub epoch : ℕ
  pub opened : Bool
  pub sent : ℕ

abbrev pub never : End
never = record { epoch = 0; opened = false; sent = 0 }

-- the end after it sent a frame
abbrev pub end_sends : End → FrameText → End
end_sends was Opening = record { epoch = was.epoch + 1; opened = true; sent = 1 }
end_sends was Closing = record { epoch = was.epoch; opened = false; sent = was.sent + 1 }
end_sends was _ = record { epoch = was.epoch; opened = was.opened; sent = was.sent + 1 }

-- the end after it took a frame of this epoch
abbrev pub end_takes : End → ℕ → FrameText → End
end_takes was epoch Opening = record { epoch = epoch; opened = true; sent = 0 }
end_takes was epoch Closing = record { epoch = was.epoch; opened = false; sent = was.sent }
end_takes was epoch _ = was

-- the end sends this frame; it takes this one
abbrev pub sends_at : EndName → FrameView → Bool
sends_at a f = (f.peer == a.peer) && (f.slot == a.slot) && same_bool f.up a.client

abbrev pub takes_at : EndName → FrameView → Bool
takes_at a f = (f.peer == a.peer) && (f.slot == a.slot) && same_bool a.client (if f.up then false else true)

-- what an entry took at the end
abbrev pub taken_at : EndName → Option FrameView → Option FrameView
taken_at a None = None
taken_at a (Some f) = if takes_at a f then Some f else None

-- what an entry sent at the end
abbrev pub sent_at : EndName → List FrameView → List FrameView
sent_at a fs = filter (sends_at a) fs

abbrev pub end_took : End → Option FrameView → End
end_took was None = was
end_took was (Some f) = end_takes was f.epoch f.body

-- an entry takes a frame before it sends any
abbrev pub end_after : EndName → End → Entry → End
end_after a was e = fold (λ c f. end_sends c f.body) (end_took was (taken_at a e.taken)) (sent_at a e.sent)

-- the frames with these bodies, as the end sends them next
abbrev pub frames : EndName → End → List FrameText → List FrameView
frames a was [] = []
frames a was (body ∷ bodies) =
    let c = end_sends was body in
    record { peer = a.peer; slot = a.slot; up = a.client; epoch = c.epoch; seq = c.sent; body = body } ∷ frames a c bodies

abbrev pub is_opening : FrameText → Bool
is_opening Opening = true
is_opening _ = false

-- the end may take the frame: one of its own opening while it is open, or a later opening while it isn't
abbrev pub may_take : End → FrameView → Bool
may_take c f = if is_opening f.body then not c.opened && nat_lt c.epoch f.epoch else c.opened && (f.epoch == c.epoch)
