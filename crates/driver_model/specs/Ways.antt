-- The frames that were sent on each way of a connection, and those of them that are on their way (own).
use Rattle.std.specs.Prelude.{◌≡◌, ℕ, ◌+◌, ◌<◌, ◌≤◌, Bool, true, false, ◌&&◌, if◌then◌else◌, ◌==◌, List, [], ◌∷◌, drop, filter, length, map, ◌⊎◌}
use Rattle.run_data.specs.declared.entry.Entry.{Entry}
use Rattle.run_data.specs.declared.entry.FrameView.{FrameView}
use Rattle.run_data.specs.declared.entry.FrameText.{FrameText}
use Rattle.node_model.specs.Ends.{End, EndName}
use Rattle.run_model.specs.Frames.{Way, frames_sent, is_on, taken_count}
use Rattle.run_model.specs.States.{end_at}
use Rattle.driver_model.specs.Driver.{Flight}

-- what r sends at an end, in one epoch
abbrev pub way_out : ℕ → EndName → ℕ → Way
way_out r a n = record { client = if a.client then r else a.peer; server = if a.client then a.peer else r; slot = a.slot; up = a.client; epoch = n }

-- the end of the peer, to which it goes
abbrev pub other_end : ℕ → EndName → EndName
other_end r a = record { peer = r; slot = a.slot; client = if a.client then false else true }

-- the frames that were sent on the way, the oldest first
abbrev pub views_sent : List Entry → Way → List FrameView
views_sent past w = map (λ x. x.frame) (frames_sent past w)

-- ---- numbers

-- an end that stands so has sent so many frames of an epoch, where it isn't past that
pub record HasCounted (c : End) (n len : ℕ) : Type 0 where
  pub not_yet : c.epoch < n → len ≡ 0
  pub at_it : c.epoch ≡ n → len ≡ c.sent

-- these frames have the numbers after this one
abbrev pub AreNumberedFrom : ℕ → List FrameView → Type 0
AreNumberedFrom k [] = Unit {0}
AreNumberedFrom k (g ∷ gs) = (g.seq ≡ k + 1) × AreNumberedFrom (k + 1) gs

-- the frames that r sent at an end in an epoch have the numbers from 1 on, and the end knows how many they are
pub record InOrder (past : List Entry) (r : ℕ) (a : EndName) (n : ℕ) : Type 0 where
  pub counted : HasCounted (end_at past r a) n (length (views_sent past (way_out r a n)))
  pub follow : AreNumberedFrom 0 (views_sent past (way_out r a n))

-- ---- flights

-- what both ends say of a frame
pub record NumberedBody : Type 0 where
  pub seq : ℕ
  pub body : FrameText

abbrev pub numbered_body : FrameView → NumberedBody
numbered_body f = record { seq = f.seq; body = f.body }

abbrev pub bodies_sent : List Entry → Way → List NumberedBody
bodies_sent past w = map numbered_body (views_sent past w)

-- r sent it at this end in this epoch
abbrev pub is_flight : ℕ → EndName → ℕ → Flight → Bool
is_flight r a n x = (x.to == a.peer) && is_on (way_out r a n) r x.frame

abbrev pub bodies_flying : ℕ → EndName → ℕ → List Flight → List NumberedBody
bodies_flying r a n xs = map (λ x. numbered_body x.frame) (filter (is_flight r a n) xs)

-- an end that stands so takes no frame of the epoch any more
abbrev pub IsOver : End → ℕ → Type 0
IsOver c n = (n < c.epoch) ⊎ ((n ≡ c.epoch) × (c.opened ≡ false))

-- what r sent at an end in an epoch, but for the frames that were taken, is on its way, in order
pub record AreOnTheWay (past : List Entry) (xs : List Flight) (r : ℕ) (a : EndName) (n : ℕ) : Type 0 where
  pub inside : taken_count past (way_out r a n) ≤ length (bodies_sent past (way_out r a n))
  pub same : bodies_flying r a n xs ≡ drop (taken_count past (way_out r a n)) (bodies_sent past (way_out r a n))

-- it is so, unless the peer's end takes none of them any more
abbrev pub Flies : List Entry → List Flight → ℕ → EndName → ℕ → Type 0
Flies past xs r a n = IsOver (end_at past a.peer (other_end r a)) n ⊎ AreOnTheWay past xs r a n
