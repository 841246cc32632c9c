-- For private contracts: the steps of looks backwards over the entries before a crash (own).
use Rattle.std.specs.Prelude.{ℕ, Bool, true, not, ◌&&◌, ◌||◌, if◌then◌else◌, ◌==◌, List, [], ◌∷◌, ◌++◌, filter, Option, option_map}
use Rattle.annex_base.specs.Bools.{same_bool}
use Rattle.run_data.specs.declared.entry.Entry.{Entry}
use Rattle.run_data.specs.declared.entry.FrameView.{FrameView}
use Rattle.p2p_wire.specs.declared.message.Message.TheVariants.{Success}
use Rattle.run_model.specs.Frames.{last_of, last_request, said_of, up_of, way_of}
use Rattle.run_model.specs.Logs.{has_it, has_stepped, hears_has_it, is_quiet, starts_drop}
use Rattle.run_model.specs.Past.{is_of}
use Rattle.run_model.specs.Said.{Said, Says, is_request, message_in}

-- ---- whether an entry brings a job to its drop

abbrev pub brings_to_drop : List Entry → ℕ → ℕ → Entry → Bool
brings_to_drop past r j e = is_of r e && starts_drop past r j e e.kind

-- a step of the job without a change ends the transfer
abbrev pub talk_ends : List Entry → ℕ → ℕ → Entry → Bool
talk_ends past r j e = (is_quiet e.taken e.sent && not (has_stepped past r j)) || hears_has_it past r e.taken

-- ---- what was asked on the connection of a frame that a client takes

-- the frame goes up there
abbrev pub goes_there : FrameView → FrameView → Bool
goes_there f g = (g.peer == f.peer) && ((g.slot == f.slot) && (same_bool g.up true && (g.epoch == f.epoch)))

abbrev pub asks_on : FrameView → FrameView → Bool
asks_on f g = goes_there f g && is_request (message_in g.body)

abbrev pub last_asked : FrameView → List FrameView → Option FrameView
last_asked f sent = last_of (filter (asks_on f) sent)

-- what an entry asks there, if it is one of r
abbrev pub asked_by : ℕ → FrameView → Entry → List FrameView
asked_by r f e = if is_of r e then filter (asks_on f) e.sent else []

-- all that r asked there, the oldest first
abbrev pub asked_frames : List Entry → ℕ → FrameView → List FrameView
asked_frames [] r f = []
asked_frames (e ∷ past) r f = asked_frames past r f ++ asked_by r f e

-- what the last request was on the connection of a frame that r takes
abbrev pub asked_before : List Entry → ℕ → FrameView → Option Said
asked_before past r f = option_map said_of (last_request past (up_of (way_of r f)))

abbrev pub said_in : FrameView → Said
said_in g = message_in g.body

-- it was VALID, so that SUCCESS says that the peer has the content
abbrev pub was_valid : Option Said → Bool
was_valid asked = has_it (Says Success) asked
