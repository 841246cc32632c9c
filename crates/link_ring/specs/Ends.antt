-- The ends of connections. What an end knows grows by its own looks and by what is carried to it (own).
use Rattle.std.specs.Prelude.{ℕ, ◌+◌, ◌-◌, ◌≤◌, Bool, not, nat_le, nat_lt, ◌&&◌, if◌then◌else◌, List, [], ◌∷◌, ◌++◌, length, filter, Option, Some, None}
use Rattle.std.specs.List.{find, after_first}
use Rattle.link_ring.specs.declared.frame.Frame.{Frame}
use Rattle.link_ring.specs.declared.frame.Body.{Body}
use Rattle.link_ring.specs.declared.frame.Body.TheVariants as bodies
use Rattle.link_ring.specs.declared.end.Phase.{Phase}
use Rattle.link_ring.specs.declared.end.Phase.TheVariants.{Closed, Opening, Open}
use Rattle.link_ring.specs.Frames.{is_close, is_closed, is_old}

-- an end: the opening that it is at; the frames that it knows to be at hand; those that it sent and that weren't carried
-- yet; and how many of the eight places of its way aren't free, as far as it knows
pub record EndView : Type 0 where
  pub epoch : ℕ
  pub phase : Phase
  pub sent : ℕ
  pub at_hand : List Frame
  pub on_way : List Frame
  pub used : ℕ

abbrev pub fresh : EndView
fresh = record { epoch = 0; phase = Closed; sent = 0; at_hand = []; on_way = []; used = 0 }

-- the places that it knows to be free
abbrev pub free : EndView → ℕ
free e = 8 - e.used

-- a Close needs an end that isn't closed, and one free place, which an open end keeps for it; each other frame needs two
abbrev pub accepts : EndView → Frame → Bool
accepts e f = if is_close f then not (is_closed e.phase) && nat_le 1 (free e) else nat_le 2 (free e)

abbrev pub phase_after_frame : Phase → Phase
phase_after_frame Closed = Closed
phase_after_frame Opening = Open
phase_after_frame Open = Open

-- a Close closes the end; with the first other frame after its opening it is open
abbrev pub phase_after_send : Phase → Frame → Phase
phase_after_send phase f = if is_close f then Closed else phase_after_frame phase

abbrev pub after_send : EndView → Frame → EndView
after_send e f = record e { phase = phase_after_send e.phase f; sent = e.sent + 1; on_way = e.on_way ++ f ∷ []; used = e.used + 1 }

-- frames of older epochs, and of one that the end has closed, are passed over
abbrev pub is_taken : EndView → Frame → Bool
is_taken e f = not (is_old e.epoch e.phase f)

abbrev pub next_frame : EndView → Option Frame
next_frame e = find (is_taken e) e.at_hand

-- a frame is at hand, whether it is passed over or not
abbrev pub has_frames : EndView → Bool
has_frames e = nat_lt 0 (length e.at_hand)

-- an Open brings the end to its epoch; after a Close it takes no more of this one
abbrev pub with_body : EndView → ℕ → Body → EndView
with_body e epoch bodies.Open = record e { epoch = epoch; phase = Opening; sent = 0 }
with_body e epoch (bodies.Line text) = e
with_body e epoch (bodies.Bytes bytes) = e
with_body e epoch bodies.Close = record e { phase = Closed }

abbrev pub with_taken : EndView → Option Frame → EndView
with_taken e None = e
with_taken e (Some f) = with_body e f.epoch f.body

abbrev pub after_take : EndView → EndView
after_take e = with_taken (record e { at_hand = after_first (is_taken e) e.at_hand }) (next_frame e)

-- the frames that are passed over are dropped
abbrev pub after_drop : EndView → EndView
after_drop e = record e { at_hand = filter (is_taken e) e.at_hand }

-- the next epoch begins, and frames of those before are dropped
abbrev pub after_open : EndView → EndView
after_open e = record e { epoch = e.epoch + 1; phase = Opening; sent = 0; at_hand = filter (λ f. nat_lt e.epoch f.epoch) e.at_hand }

abbrev pub after_close : EndView → EndView
after_close e = record e { phase = Closed }

-- two ends of one connection: what one sent and the other hasn't taken has its places
pub record ArePaired (a b : EndView) : Type 0 where
  pub first : length b.at_hand + length a.on_way ≤ a.used
  pub second : length a.at_hand + length b.on_way ≤ b.used

-- what is paired with the one is paired with the other
abbrev pub StaysPaired : EndView → EndView → Type 0
StaysPaired old new = (other : EndView) → ArePaired old other → ArePaired new other

-- an end after frames were carried between it and the other one
abbrev pub after_carry : EndView → EndView → EndView
after_carry a b = record a { at_hand = a.at_hand ++ b.on_way; on_way = []; used = length b.at_hand + length a.on_way }
