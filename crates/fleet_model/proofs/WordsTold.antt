-- The word beside what a node sends is the one that its entry found, where it was asked for.
use Rattle.std.proofs.Common.{◌≡◌, Bool, true, Option, Some, None, refl, ap, ◌∙◌}
use Rattle.std.specs.Prelude.{if◌then◌else◌}
use Rattle.annex_base.specs.declared.kinds.Found.{Found}
use Rattle.annex_base.specs.declared.kinds.Found.TheVariants as found
use Rattle.p2p_wire.specs.declared.message.Message.{Message}
use Rattle.p2p_wire.specs.declared.message.Message.TheVariants.{CheckPresent, Remove, RemoveBefore}
use Rattle.p2p_wire.specs.Messages.{message_of}
use Rattle.run_data.specs.declared.entry.Entry.{Entry}
use Rattle.run_data.specs.declared.entry.EntryKind.{EntryKind}
use Rattle.run_data.specs.declared.entry.EntryKind.TheVariants.{Check, Fault}
use Rattle.run_data.specs.declared.entry.FrameText.{FrameText}
use Rattle.run_data.specs.declared.entry.FrameText.TheVariants as texts
use Rattle.run_data.specs.declared.entry.FrameView.{FrameView}
use Rattle.run_model.specs.Words.{word_of_kind}
use Rattle.node_model.specs.Jobs.{taken_message}
use Rattle.node_model.specs.Sessions.{line_in}
use Rattle.node_ends.specs.declared.sending.Sending.TheVariants as sendings
use Rattle.node_sessions.specs.Words as sessions
use Rattle.run_laws.specs.Jobs.{asks_word}
use Rattle.link_flights.specs.Words.{TellsWords}
use Rattle.joined_nodes.specs.Posting.{word_with}

same_found : (what : Found) → sessions.word_found what ≡ word_of_kind (Check what Rattle.std.specs.Prelude.[])
same_found found.Absent = refl
same_found found.Barred = refl
same_found found.Held = refl
same_found found.Late = refl
same_found found.Present = refl
same_found found.Nolock = refl

same_kind : (kind : EntryKind) → sessions.word_of_kind kind ≡ word_of_kind kind
same_kind (Check what key) = same_found what
same_kind (Fault call by) = refl
same_kind kind = refl

message_asked : (m : Message) (kind : EntryKind) → asks_word (Some m) ≡ true → sessions.word_asked (Some m) kind ≡ word_of_kind kind
message_asked (CheckPresent key) kind asked = same_kind kind
message_asked (Remove key) kind asked = same_kind kind
message_asked (RemoveBefore deadline key) kind asked = same_kind kind
message_asked m kind asked = absurd (cc)

line_asked : (o : Option Message) (kind : EntryKind) → asks_word o ≡ true → sessions.word_asked o kind ≡ word_of_kind kind
line_asked None kind asked = absurd (cc)
line_asked (Some m) kind asked = message_asked m kind asked

body_asked : (body : FrameText) (kind : EntryKind) → asks_word (line_in body) ≡ true → sessions.word_beside body kind ≡ word_of_kind kind
body_asked (texts.Line text) kind asked = line_asked (message_of text) kind asked
body_asked body kind asked = absurd (cc)

frame_asked : (taken : Option FrameView) (kind : EntryKind) → asks_word (taken_message taken) ≡ true → sessions.word_to taken kind ≡ word_of_kind kind
frame_asked None kind asked = absurd (cc)
frame_asked (Some f) kind asked = body_asked f.body kind asked

pub tells_words : (e : Entry) → TellsWords e (λ a. word_with a e.taken e.kind)
tells_words e a sendings.Open server line asked = absurd (cc)
tells_words e a sendings.Close server line asked = absurd (cc)
tells_words e a (sendings.Bytes bytes) server line asked = absurd (cc)
tells_words e a (sendings.Line text listed) server line asked =
    ap (λ (b : Bool). if b then None else sessions.word_to e.taken e.kind) server ∙ frame_asked e.taken e.kind asked
