-- The word that stands beside an answer: what its entry found (own).
use Rattle.std.specs.Prelude.{Bool, true, false, if◌then◌else◌, Option, Some, None}
use Rattle.annex_base.specs.declared.kinds.Found.{Found}
use Rattle.annex_base.specs.declared.kinds.Found.TheVariants as found
use Rattle.annex_base.specs.declared.kinds.Word.{Word}
use Rattle.annex_base.specs.declared.kinds.Word.TheVariants as words
use Rattle.run_data.specs.declared.entry.EntryKind.{EntryKind}
use Rattle.run_data.specs.declared.entry.EntryKind.TheVariants.{Check, Fault}
use Rattle.run_data.specs.declared.entry.FrameText.{FrameText}
use Rattle.run_data.specs.declared.entry.FrameText.TheVariants as texts
use Rattle.run_data.specs.declared.entry.FrameView.{FrameView}
use Rattle.p2p_wire.specs.declared.message.Message.{Message}
use Rattle.p2p_wire.specs.declared.message.Message.TheVariants.{CheckPresent, Remove, RemoveBefore}
use Rattle.p2p_wire.specs.Messages.{message_of}

abbrev pub word_found : Found → Option Word
word_found found.Absent = Some words.Absent
word_found found.Barred = Some words.Barred
word_found found.Held = Some words.Held
word_found found.Late = Some words.Late
word_found found.Present = None
word_found found.Nolock = None

abbrev pub word_of_kind : EntryKind → Option Word
word_of_kind (Check what key) = word_found what
word_of_kind (Fault call by) = Some words.Fault
word_of_kind kind = None

-- CHECKPRESENT, or an order to remove
abbrev pub asks_word : Message → Bool
asks_word (CheckPresent key) = true
asks_word (Remove key) = true
asks_word (RemoveBefore n key) = true
asks_word m = false

abbrev pub word_asked : Option Message → EntryKind → Option Word
word_asked None kind = None
word_asked (Some m) kind = if asks_word m then word_of_kind kind else None

-- the word beside the answer to a frame with this body, by an entry of this kind
abbrev pub word_beside : FrameText → EntryKind → Option Word
word_beside (texts.Line line) kind = word_asked (message_of line) kind
word_beside body kind = None

abbrev pub word_to : Option FrameView → EntryKind → Option Word
word_to None kind = None
word_to (Some f) kind = word_beside f.body kind
