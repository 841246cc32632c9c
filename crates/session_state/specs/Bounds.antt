-- What each step keeps: its entry is a session's, a hold has its number, and replies are short lines (own).
use Rattle.std.specs.Prelude.{◌≡◌, ℕ, ◌<◌, ◌≤◌, ◌^◌, true, false, ◌||◌, length, Option, Some, None, bytes_eq, codes}
use Rattle.annex_base.specs.Calls.{same_call}
use Rattle.annex_base.specs.declared.kinds.Call.TheVariants.{PutFile}
use Rattle.annex_base.specs.RepoText.{IsId}
use Rattle.run_data.specs.declared.entry.By.TheVariants.{Peer}
use Rattle.run_data.specs.declared.entry.EntryKind.{EntryKind}
use Rattle.run_data.specs.declared.entry.EntryKind.TheVariants.{Check, Close, Fault, Gain, Gone, Release, Share, Talk}
use Rattle.p2p_wire.specs.declared.message.Message.{Message}
use Rattle.p2p_wire.specs.declared.message.Message.TheVariants.{AuthSuccess, Version, Timestamp, PutFrom, AlreadyHave, Data, Valid, Invalid, Success, Failure, Error}
use Rattle.session_state.specs.declared.more.More.{More}
use Rattle.session_state.specs.declared.more.More.TheVariants as more
use Rattle.session_state.specs.declared.step.Step.{Step}

-- an entry that a session makes, of this number: a peer is for whom it acts, a hold that it adds has that number, and the failed call puts no file
abbrev pub IsKind : ℕ → EntryKind → Type 0
IsKind n (Talk None) = Unit {0}
IsKind n (Check found key) = Unit {0}
IsKind n (Share hold end (Peer peer slot) key) = hold ≡ n
IsKind n (Release hold key) = Unit {0}
IsKind n (Gone (Peer peer slot) key) = Unit {0}
IsKind n (Gain (Peer peer slot) size key) = Unit {0}
IsKind n (Fault call (Peer peer slot)) = same_call call PutFile ≡ false
IsKind n (Close peer slot false) = Unit {0}
IsKind n kind = ⊥

-- a message that a session says: no key, no file and no foreign text is in it
abbrev pub IsReply : Message → Type 0
IsReply (AuthSuccess id) = IsId id
IsReply (Version n) = n < 2 ^ 63
IsReply (Timestamp n) = n < 2 ^ 63
IsReply (PutFrom n) = n < 2 ^ 63
IsReply AlreadyHave = Unit {0}
IsReply (Data n) = n < 2 ^ 63
IsReply Valid = Unit {0}
IsReply Invalid = Unit {0}
IsReply Success = Unit {0}
IsReply Failure = Unit {0}
IsReply (Error text) = (bytes_eq text (codes "unexpected") || bytes_eq text (codes "busy")) ≡ true
IsReply m = ⊥

abbrev pub IsReplyIf : Option Message → Type 0
IsReplyIf None = Unit {0}
IsReplyIf (Some m) = IsReply m

-- a step of a session whose entry has this number
pub record IsNumberedStep (number : ℕ) (step : Step) : Type 0 where
  pub kind : IsKind number step.kind
  pub reply : IsReplyIf step.reply

-- a piece has at most 32,768 bytes, and the failed call puts no file
abbrev pub FitsMore : More → Type 0
FitsMore (more.Piece bytes) = length bytes.items ≤ 32768
FitsMore (more.Last m) = IsReply m
FitsMore (more.Fault call) = same_call call PutFile ≡ false
FitsMore m = Unit {0}
