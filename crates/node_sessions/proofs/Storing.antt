-- What an answer leaves of the store's parts, by the frame that it answers.
use Rattle.std.proofs.Common.{◌≡◌, ℕ, List, ◌++◌, Option, Some, None, refl, ap, ◌∙◌}
use Rattle.std.specs.Prelude.{if◌then◌else◌, length}
use Rattle.std.specs.Option.{option_map}
use Rattle.run_data.specs.declared.entry.EntryKind.{EntryKind}
use Rattle.run_data.specs.declared.entry.EntryKind.TheVariants as kinds
use Rattle.run_data.specs.declared.entry.FrameText.TheVariants as texts
use Rattle.p2p_wire.specs.declared.message.Message.{Message}
use Rattle.p2p_wire.specs.declared.message.Message.TheVariants as messages
use Rattle.p2p_wire.specs.Messages.{message_of}
use Rattle.object_store.specs.Stores.{Parts, with_at}
use Rattle.link_ring.specs.declared.frame.Body.{Body}
use Rattle.link_ring.specs.declared.frame.Body.TheVariants as bodies
use Rattle.node_model.specs.Sessions as sessions
use Rattle.node_ends.specs.Ends.{text_in}
use Rattle.p2p_server.specs.declared.Doing.{Doing}
use Rattle.p2p_server.specs.declared.Doing.TheVariants as doings
use Rattle.p2p_server.specs.declared.Taken.{Taken}
use Rattle.p2p_server.specs.declared.Taking.{Taking}
use Rattle.p2p_server.specs.declared.Incoming.{Incoming}
use Rattle.p2p_server.specs.declared.Incoming.TheVariants as incoming
use Rattle.p2p_server.specs.Talking.{Brings, doing_of, heard_line, parts_after, parts_after_valid}
use Rattle.node_sessions.specs.Moments.{bytes_heard}
use Rattle.node_sessions.specs.Stored.{bytes_of, is_verdict, parts_after_frame}

-- ---- of a Close

pub close_leaves : (d : sessions.Doing) (bytes : List ℕ) (kind : EntryKind) (known : Option Parts) → parts_after_frame d texts.Closing bytes kind known ≡ known
close_leaves sessions.Waits bytes kind known = refl
close_leaves (sessions.Guards hold key) bytes kind known = refl
close_leaves (sessions.Gives key at left good) bytes kind known = refl
close_leaves sessions.Gave bytes kind known = refl
close_leaves (sessions.Wants key size) bytes kind known = refl
close_leaves (sessions.Takes key size left) bytes kind known = refl
close_leaves (sessions.Took key size) bytes kind known = refl

-- ---- of any frame

grown : (t : Taking) (i : Incoming) (bytes : List ℕ) (kind : EntryKind) (known : Option Parts) → Brings (texts.Bytes (length bytes)) i → bytes_heard i ≡ bytes
    → parts_after (doings.Takes t) i kind known ≡ parts_after_frame (sessions.Takes t.fill t.size t.left) (texts.Bytes (length bytes)) bytes kind known
grown t (incoming.Bytes b) bytes (kinds.Talk job) known brings same = ap (λ (l : List ℕ). option_map (λ (p : Parts). with_at p t.fill (p t.fill ++ l)) known) same
grown t (incoming.Bytes b) bytes kind known brings same = refl
grown t incoming.Opening bytes kind known brings same = absurd brings
grown t incoming.Closing bytes kind known brings same = absurd brings
grown t incoming.Bad bytes kind known brings same = absurd brings
grown t (incoming.Message m) bytes kind known brings same = absurd brings

-- a line, of a session that takes bytes
unread : (t : Taking) (i : Incoming) (m : Option Message) (kind : EntryKind) (known : Option Parts) → heard_line m i → parts_after (doings.Takes t) i kind known ≡ known
unread t i None kind known is = ap (λ (x : Incoming). parts_after (doings.Takes t) x kind known) is
unread t i (Some m) kind known is = ap (λ (x : Incoming). parts_after (doings.Takes t) x kind known) is

-- and of one that has taken all
valid_only : (t : Taken) (m : Message) (kind : EntryKind) (known : Option Parts)
    → parts_after (doings.Took t) (incoming.Message m) kind known ≡ (if is_verdict (Some m) then parts_after_valid t.fill kind known else known)
valid_only t messages.Valid kind known = refl
valid_only t m kind known = refl

judged : (t : Taken) (i : Incoming) (m : Option Message) (kind : EntryKind) (known : Option Parts) → heard_line m i
    → parts_after (doings.Took t) i kind known ≡ (if is_verdict m then parts_after_valid t.fill kind known else known)
judged t i None kind known is = ap (λ (x : Incoming). parts_after (doings.Took t) x kind known) is
judged t i (Some m) kind known is = ap (λ (x : Incoming). parts_after (doings.Took t) x kind known) is ∙ valid_only t m kind known

no_piece : (t : Taken) (i : Incoming) (n : ℕ) (kind : EntryKind) (known : Option Parts) → Brings (texts.Bytes n) i → parts_after (doings.Took t) i kind known ≡ known
no_piece t (incoming.Bytes b) n kind known brings = refl
no_piece t incoming.Opening n kind known brings = absurd brings
no_piece t incoming.Closing n kind known brings = absurd brings
no_piece t incoming.Bad n kind known brings = absurd brings
no_piece t (incoming.Message m) n kind known brings = absurd brings

takes_so : (t : Taking) (i : Incoming) (body : Body) (kind : EntryKind) (known : Option Parts) → Brings (text_in body) i → bytes_heard i ≡ bytes_of body
    → parts_after (doings.Takes t) i kind known ≡ parts_after_frame (sessions.Takes t.fill t.size t.left) (text_in body) (bytes_of body) kind known
takes_so t i bodies.Open kind known brings same = ap (λ (x : Incoming). parts_after (doings.Takes t) x kind known) brings
takes_so t i bodies.Close kind known brings same = ap (λ (x : Incoming). parts_after (doings.Takes t) x kind known) brings
takes_so t i (bodies.Bytes bytes) kind known brings same = grown t i bytes kind known brings same
takes_so t i (bodies.Line text) kind known brings same = unread t i (message_of text) kind known brings

took_so : (t : Taken) (i : Incoming) (body : Body) (kind : EntryKind) (known : Option Parts) → Brings (text_in body) i
    → parts_after (doings.Took t) i kind known ≡ parts_after_frame (sessions.Took t.fill t.size) (text_in body) (bytes_of body) kind known
took_so t i bodies.Open kind known brings = ap (λ (x : Incoming). parts_after (doings.Took t) x kind known) brings
took_so t i bodies.Close kind known brings = ap (λ (x : Incoming). parts_after (doings.Took t) x kind known) brings
took_so t i (bodies.Bytes bytes) kind known brings = no_piece t i (length bytes) kind known brings
took_so t i (bodies.Line text) kind known brings = judged t i (message_of text) kind known brings

-- the parts after what a frame brought was answered
pub parts_answered : (d : Doing) (i : Incoming) (body : Body) (kind : EntryKind) (known : Option Parts) → Brings (text_in body) i → bytes_heard i ≡ bytes_of body
    → parts_after d i kind known ≡ parts_after_frame (doing_of d) (text_in body) (bytes_of body) kind known
parts_answered doings.Waits i body kind known brings same = refl
parts_answered (doings.Guards share) i body kind known brings same = refl
parts_answered (doings.Gives g) i body kind known brings same = refl
parts_answered doings.Gave i body kind known brings same = refl
parts_answered (doings.Wants w) i body kind known brings same = refl
parts_answered (doings.Takes t) i body kind known brings same = takes_so t i body kind known brings same
parts_answered (doings.Took t) i body kind known brings same = took_so t i body kind known brings
