-- What the running jobs of a repository keep over its past, and what the answers come of that they take (own).
use Rattle.std.specs.Prelude.{◌≡◌, ℕ, Bool, true, false, List, Option, Some, None}
use Rattle.annex_base.specs.Lists.{Member}
use Rattle.drop_proof.specs.declared.rule.Side.TheVariants.{Remote}
use Rattle.p2p_wire.specs.declared.message.Message.{Message}
use Rattle.p2p_wire.specs.declared.message.Message.TheVariants.{CheckPresent, Failure, Remove, RemoveBefore, Success}
use Rattle.run_data.specs.declared.entry.Entry.{Entry}
use Rattle.run_data.specs.declared.entry.FrameView.{FrameView}
use Rattle.run_model.specs.Frames.{SendingEntry, sender}
use Rattle.run_model.specs.States.{works}
use Rattle.run_model.specs.Words.{awaits_word}
use Rattle.node_model.specs.Jobs.{AsksLook, Orders, Phase, Work, heard_of, side_of, taken_message}
use Rattle.node_model.specs.Rows.{option_is}
use Rattle.node_model.specs.Sessions.{line_in}
use Rattle.node_model.specs.Slots.{job_of}

-- ---- the running jobs

-- They have numbers of their own. One that gave an order drops from its peer. One that drops from its peer asks another for a look. Of a
-- repository whose answer a job awaits, it has heard nothing before.
pub record AreJobs (ws : List Work) : Type 0 where
  pub apart : (w v : Work) → Member w ws → Member v ws → w.number ≡ v.number → w ≡ v
  pub orders : (w : Work) → Member w ws → w.phase ≡ Orders → (side_of w ≡ Remote) × (peer : ℕ) × (w.what.peer ≡ Some peer)
  pub looks : (w : Work) (c : ℕ) → Member w ws → w.phase ≡ AsksLook c → side_of w ≡ Remote → option_is w.what.peer c ≡ false
  pub unheard : (w : Work) (c : ℕ) → Member w ws → awaits_word c w.what.peer w.phase ≡ true → heard_of w c ≡ None

-- ---- answers that have a word

-- the answer to this message has a word beside it: CHECKPRESENT, or an order to remove
abbrev pub asks_word : Option Message → Bool
asks_word (Some (CheckPresent key)) = true
asks_word (Some (Remove key)) = true
asks_word (Some (RemoveBefore deadline key)) = true
asks_word m = false

-- the entry took such a message
abbrev pub is_asked : Entry → Bool
is_asked e = asks_word (taken_message e.taken)

-- a job that stands so keeps the word beside this answer: the refusal of a look, or the answer to an order
abbrev pub keeps_word : Phase → Option Message → Bool
keeps_word (AsksLook peer) (Some Failure) = true
keeps_word Orders (Some Failure) = true
keeps_word Orders (Some Success) = true
keeps_word phase m = false

-- the job w takes by this entry an answer that it awaits from the frame's peer, and whose word is kept
pub record TakesAnswer (w : Work) (e : Entry) (f : FrameView) : Type 0 where
  pub made : job_of e.kind ≡ Some w.number
  pub taken : e.taken ≡ Some f
  pub awaited : awaits_word f.peer w.what.peer w.phase ≡ true
  pub kept : keeps_word w.phase (line_in f.body) ≡ true

-- an answer that a job of r takes by this entry, if its word is kept, comes of an entry that was asked for a word
abbrev pub AnswersAsked : List Entry → ℕ → Entry → Type 0
AnswersAsked past r e = (w : Work) (f : FrameView) (x : SendingEntry) → Member w (works past r) → TakesAnswer w e f → sender past r e.taken ≡ Some x → is_asked x.entry ≡ true
