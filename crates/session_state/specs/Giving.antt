-- What a session sends of a content (git-annex P2P protocol; pieces are own).
use Rattle.std.specs.Prelude.{◌≡◌, ℕ, ◌<◌, ◌≤◌, Bool, true, false, List, [], ◌∷◌, length, take, drop, Option, Some, None}
use Rattle.annex_base.specs.declared.kinds.Call.{Call}
use Rattle.annex_base.specs.declared.kinds.Call.TheVariants.{Read}
use Rattle.run_data.specs.declared.entry.EntryKind.TheVariants as kinds
use Rattle.run_data.specs.declared.entry.FrameText.TheVariants.{Closing, Bytes, Line}
use Rattle.p2p_wire.specs.Messages.{text_of}
use Rattle.object_store.specs.Stores.{Contents, bytes_of}
use Rattle.node_model.specs.Sessions.{Doing, Gives, Session, new_session, sent_one}
use Rattle.node_model.specs.SessionStep.{Reply, reply}
use Rattle.session_state.specs.declared.more.More.{More}
use Rattle.session_state.specs.declared.more.More.TheVariants as more
use Rattle.session_state.specs.declared.place.Place.{Place}
use Rattle.session_state.specs.Answers.{owner_at}

-- a content is being sent
abbrev pub is_giving : Doing → Bool
is_giving (Gives key at left good) = true
is_giving doing = false

-- the reply that this is, if any
abbrev pub reply_more : Place → More → Option Reply
reply_more place (more.Piece bytes) = Some (record { kind = kinds.Talk None; says = Bytes (length bytes.items) ∷ []; calls = Read ∷ [] })
reply_more place (more.Last m) = Some (reply (kinds.Talk None) m)
reply_more place more.Nothing = None
reply_more place more.Gone = Some (record { kind = kinds.Close place.peer place.slot false; says = Closing ∷ []; calls = Read ∷ [] })
reply_more place (more.Fault call) = Some (record { kind = kinds.Fault call (owner_at place); says = Closing ∷ []; calls = Read ∷ [] })

-- the store call that failed
abbrev pub failed_more : More → Option Call
failed_more (more.Fault call) = Some call
failed_more m = None

-- a piece has the content's bytes from a place on
abbrev pub IsPiece : Contents → List ℕ → ℕ → More → Type 0
IsPiece contents key at (more.Piece bytes) = bytes.items ≡ take (length bytes.items) (drop at (bytes_of contents key))
IsPiece contents key at m = Unit {0}

abbrev pub IsPieceOf : Contents → Doing → More → Type 0
IsPieceOf contents (Gives key at left good) m = IsPiece contents key at m
IsPieceOf contents doing m = Unit {0}

-- a piece has bytes, and no more than are left
abbrev pub IsWithin : More → ℕ → Type 0
IsWithin (more.Piece bytes) left = (0 < length bytes.items) × (length bytes.items ≤ left)
IsWithin m left = Unit {0}

-- what the session is after it sent this
abbrev pub session_sent : More → Session → Session
session_sent (more.Piece bytes) was = sent_one was (Bytes (length bytes.items))
session_sent (more.Last m) was = sent_one was (Line (text_of m))
session_sent more.Nothing was = was
session_sent more.Gone was = new_session
session_sent (more.Fault call) was = new_session
