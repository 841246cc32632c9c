-- The words beside the frames at hand at the ends of clients are those of the past (own).
use Rattle.std.specs.Prelude.{◌≡◌, ◌≢◌, ℕ, ◌<◌, ◌≤◌, ◌⊎◌, ◌==◌, Bool, true, false, List, drop, filter, length, Option, Some}
use Rattle.std.specs.List.{AllZip}
use Rattle.annex_base.specs.declared.kinds.Word.{Word}
use Rattle.link_ring.specs.declared.frame.Frame.{Frame}
use Rattle.link_ring.specs.declared.frame.Body.{Body}
use Rattle.link_ring.specs.declared.frame.Body.TheVariants as bodies
use Rattle.link_ring.specs.Ends.{EndView}
use Rattle.run_data.specs.declared.entry.Entry.{Entry}
use Rattle.run_model.specs.Frames.{FlyingFrame, Way, frames_sent, taken_count}
use Rattle.run_model.specs.States.{end_at}
use Rattle.run_model.specs.Words.{word_of_kind}
use Rattle.node_model.specs.Ends.{EndName}
use Rattle.run_laws.specs.Jobs.{is_asked}
use Rattle.node_ends.specs.declared.sending.Sending.{Sending}
use Rattle.node_ends.specs.Ends.{link_at}
use Rattle.node_ends.specs.Sent.{body_of}
use Rattle.driver_model.specs.Ways.{IsOver}

-- the frame is a line, as an answer is
abbrev pub is_line : Body → Bool
is_line (bodies.Line text) = true
is_line body = false

-- ---- what is sent

-- beside each line that a server's end sends for an entry which was asked for a word stands what the entry found
abbrev pub TellsWords : Entry → (EndName → Sending → Option Word) → Type 0
TellsWords e word = (a : EndName) (x : Sending) → a.client ≡ false → is_line (body_of x) ≡ true → is_asked e ≡ true → word a x ≡ word_of_kind e.kind

-- ---- what is at hand

-- the word beside the frame is what its sender found, where the frame is a line and its sender was asked for a word
abbrev pub HasItsWord : Frame → FlyingFrame → Type 0
HasItsWord x y = is_line x.body ≡ true → is_asked y.entry ≡ true → x.word ≡ word_of_kind y.entry.kind

-- the way on which frames come to the client's end a of r in this epoch
abbrev pub way_down : ℕ → EndName → ℕ → Way
way_down r a n = record { client = r; server = a.peer; slot = a.slot; up = false; epoch = n }

abbrev pub of_epoch : ℕ → List Frame → List Frame
of_epoch n xs = filter (λ x. x.epoch == n) xs

-- of these frames, those of the way's epoch are the ones that were sent on it and not yet taken, in order, each with its word
pub record HaveWords (past : List Entry) (w : Way) (xs : List Frame) : Type 0 where
  pub inside : taken_count past w ≤ length (frames_sent past w)
  pub words : AllZip HasItsWord (of_epoch w.epoch xs) (drop (taken_count past w) (frames_sent past w))

-- so it is of these frames at hand at the client's end a of r in each epoch, but for those of which the end takes no more
abbrev pub AreWorded : List Entry → ℕ → EndName → List Frame → Type 0
AreWorded past r a xs = (n : ℕ) → IsOver (end_at past r a) n ⊎ HaveWords past (way_down r a n) xs

-- and so at the clients' ends of so many repositories
abbrev pub AreAllWorded : List Entry → ℕ → (ℕ → List EndView) → Type 0
AreAllWorded past count ends =
    (q : ℕ) (a : EndName) (v : EndView) → q < count → a.peer < count → a.peer ≢ q → a.client ≡ true → link_at (ends q) a ≡ Some v → AreWorded past q a v.at_hand
