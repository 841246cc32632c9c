-- What waits for a job at an end (own).
use Rattle.std.specs.Prelude.{◌≡◌, ℕ, true, is_some, List, Option, Some, option_and_then}
use Rattle.annex_base.specs.declared.kinds.Word.{Word}
use Rattle.run_data.specs.declared.entry.FrameView.{FrameView}
use Rattle.link_ring.specs.declared.frame.Frame.{Frame}
use Rattle.link_ring.specs.Ends.{EndView, next_frame}
use Rattle.node_ends.specs.Ends.{link_at, room_at, wait_at}
use Rattle.node_model.specs.Ends.{EndName}
use Rattle.drop_worker.specs.Working.{end_in}

-- the frame that is taken from the peer, at a client's end
abbrev pub taken_by : List EndView → ℕ → Option ℕ → Option FrameView
taken_by links slot takes = option_and_then (λ peer. wait_at links (end_in slot peer)) takes

-- where a frame is taken from a peer, the end has room and a frame waits there
abbrev pub WaitsFor : List EndView → ℕ → Option ℕ → Type 0
WaitsFor links slot takes = (peer : ℕ) → takes ≡ Some peer → (room_at links (end_in slot peer) ≡ true) × (is_some (wait_at links (end_in slot peer)) ≡ true)

-- the word beside the first frame at hand
abbrev pub word_at : List EndView → EndName → Option Word
word_at links a = option_and_then (λ (f : Frame). f.word) (option_and_then next_frame (link_at links a))
