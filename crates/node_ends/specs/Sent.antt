-- What is sent at an end (own).
use Rattle.std.specs.Prelude.{◌≡◌, ◌+◌, ◌^◌, ◌&&◌, Bool, nat_le, nat_lt, not, List, length, Option}
use Rattle.annex_base.specs.declared.kinds.EntryStamp.{EntryStamp}
use Rattle.annex_base.specs.declared.kinds.Word.{Word}
use Rattle.link_ring.specs.declared.frame.Frame.{Frame}
use Rattle.link_ring.specs.declared.frame.Body.{Body}
use Rattle.link_ring.specs.declared.frame.Body.TheVariants as bodies
use Rattle.link_ring.specs.Frames.{is_closed}
use Rattle.link_ring.specs.Ends.{EndView, free, after_open, after_send}
use Rattle.run_data.specs.declared.entry.FrameText.{FrameText}
use Rattle.run_data.specs.declared.entry.FrameText.TheVariants as texts
use Rattle.node_model.specs.Ends.{EndName}
use Rattle.node_ends.specs.declared.sending.Sending.{Sending}
use Rattle.node_ends.specs.declared.sending.Sending.TheVariants as sendings
use Rattle.node_ends.specs.Ends.{link_at, passes, has_room}

-- as an entry lists it
abbrev pub text_of_sending : Sending → FrameText
text_of_sending sendings.Open = texts.Opening
text_of_sending sendings.Close = texts.Closing
text_of_sending (sendings.Line line listed) = texts.Line line
text_of_sending (sendings.Bytes bytes) = texts.Bytes (length bytes)

-- a line is the one that is listed
abbrev pub IsListed : Sending → Type 0
IsListed (sendings.Line line listed) = listed ≡ line
IsListed _ = Unit {0}

abbrev pub body_of : Sending → Body
body_of sendings.Open = bodies.Open
body_of sendings.Close = bodies.Close
body_of (sendings.Line line listed) = bodies.Line line
body_of (sendings.Bytes bytes) = bodies.Bytes bytes

-- the end that sends it: an Open opens it first
abbrev pub opened_for : Sending → EndView → EndView
opened_for sendings.Open v = after_open v
opened_for _ v = v

-- the frame that an end sends next
abbrev pub next_sent : EntryStamp → Option Word → Sending → EndView → Frame
next_sent sender word said v = record { sender = sender; epoch = v.epoch; seq = v.sent + 1; word = word; body = body_of said }

abbrev pub link_sends : EntryStamp → Option Word → Sending → EndView → EndView
link_sends sender word said v = let w = opened_for said v in after_send w (next_sent sender word said w)

-- two free places, and a number for the frame and a Close
abbrev pub has_places : EndView → Bool
has_places v = nat_le 2 (free v) && nat_lt (v.sent + 1) (2 ^ 62)

-- the end may send it: an Open where it has room, any frame but a Close where it has places, and a Close where it is open
abbrev pub link_may : FrameText → EndView → Bool
link_may texts.Opening v = has_room v
link_may texts.Closing v = not (is_closed v.phase)
link_may _ v = has_places v

abbrev pub may_send : List EndView → EndName → FrameText → Bool
may_send links a text = passes (link_may text) (link_at links a)
