-- The words beside the answers that a job took: what their senders found.
use Rattle.std.specs.Prelude.{ℕ, Bool, false, ◌&&◌, if◌then◌else◌, ◌==◌, List, [], ◌∷◌, find, slice_get, Option, Some, None}
use Rattle.annex_base.specs.declared.kinds.Found.{Found}
use Rattle.annex_base.specs.declared.kinds.Found.TheVariants as found
use Rattle.annex_base.specs.declared.kinds.Word.{Word}
use Rattle.annex_base.specs.declared.kinds.Word.TheVariants as words
use Rattle.run_data.specs.declared.entry.Entry.{Entry}
use Rattle.run_data.specs.declared.entry.EntryKind.{EntryKind}
use Rattle.run_data.specs.declared.entry.EntryKind.TheVariants.{Check, Fault}
use Rattle.run_data.specs.declared.entry.FrameView.{FrameView}
use Rattle.run_model.specs.Past.{is_of}
use Rattle.node_model.specs.Rows.{option_is}
use Rattle.run_model.specs.Frames.{FlyingFrame, frames_sent, taken_count, way_of}
use Rattle.node_model.specs.Slots.{job_of}
use Rattle.node_model.specs.Jobs.{Phase, AsksLook, Orders, Work}
use Rattle.run_model.specs.States.{works}

-- the word beside an answer, by what its sender found
abbrev pub word_found : Found → Option Word
word_found found.Absent = Some words.Absent
word_found found.Barred = Some words.Barred
word_found found.Held = Some words.Held
word_found found.Late = Some words.Late
word_found _ = None

abbrev pub word_of_kind : EntryKind → Option Word
word_of_kind (Check what key) = word_found what
word_of_kind (Fault call by) = Some words.Fault
word_of_kind _ = None

abbrev pub word_of : Option FlyingFrame → Option Word
word_of None = None
word_of (Some x) = word_of_kind x.entry.kind

-- the job awaits an answer of c that has a word: to CHECKPRESENT, or to an order
abbrev pub awaits_word : ℕ → Option ℕ → Phase → Bool
awaits_word c target (AsksLook peer) = peer == c
awaits_word c target Orders = option_is target c
awaits_word c target phase = false

abbrev pub awaits_of : ℕ → Option Work → Bool
awaits_of c None = false
awaits_of c (Some w) = awaits_word c w.what.peer w.phase

abbrev pub word_taken : List Entry → ℕ → ℕ → Option FrameView → Option Word → Option Word
word_taken past r c None was = was
word_taken past r c (Some f) was = if f.peer == c then word_of (slice_get (frames_sent past (way_of r f)) (taken_count past (way_of r f))) else was

-- the word beside the answer that job j of r took from c
abbrev pub word_told : List Entry → ℕ → ℕ → ℕ → Option Word
word_told [] r j c = None
word_told (e ∷ past) r j c =
    if is_of r e && option_is (job_of e.kind) j && awaits_of c (find (λ w. w.number == j) (works past r))
    then word_taken past r c e.taken (word_told past r j c) else word_told past r j c
