-- What a session is, what it hears, and what it goes on to be (own).
use Rattle.std.specs.Prelude.{◌≡◌, ◌↔◌, ℕ, ◌-◌, Bool, true, false, not, ◌&&◌, if◌then◌else◌, List, [], ◌++◌, length, Option, Some, None}
use Rattle.std.specs.Option.{option_map}
use Rattle.run_data.specs.declared.entry.EntryKind.{EntryKind}
use Rattle.run_data.specs.declared.entry.EntryKind.TheVariants.{Fault, Gain, Talk}
use Rattle.run_data.specs.declared.entry.FrameText.{FrameText}
use Rattle.run_data.specs.declared.entry.FrameText.TheVariants as frames
use Rattle.run_data.specs.declared.entry.FrameView.{FrameView}
use Rattle.p2p_wire.specs.declared.message.Message.{Message}
use Rattle.p2p_wire.specs.declared.message.Message.TheVariants.{Get, Put, Valid}
use Rattle.p2p_wire.specs.Messages.{message_of}
use Rattle.object_store.specs.Stores.{Contents, Parts, with_at}
use Rattle.key_verify.specs.declared.digester.Digester.{Digester}
use Rattle.key_verify.specs.declared.digester.Sum.{Sum}
use Rattle.key_verify.specs.Sums.{HasTaken, sum_of}
use Rattle.key_verify.specs.Matching.{MatchesKey}
use Rattle.node_model.specs.Rows.{bar_after, holds_after}
use Rattle.node_model.specs.Sessions as sessions
use Rattle.node_model.specs.Sessions.{new_session, message_said, sends_close, session_left, took_bytes, took_message, version_told}
use Rattle.node_model.specs.SessionStep.{Here, Reply, on_bytes, on_frame, on_text}
use Rattle.content_lock.specs.Rows.{Rows, bar_at, is_filling}
use Rattle.content_lock.specs.Tokens.{ShareView}
use Rattle.session_state.specs.declared.doing.Doing.{Doing}
use Rattle.session_state.specs.declared.doing.Taken.{Taken}
use Rattle.session_state.specs.declared.doing.Doing.TheVariants as doings
use Rattle.session_state.specs.declared.state.SessionState.{SessionState}
use Rattle.session_state.specs.declared.incoming.Incoming.{Incoming}
use Rattle.session_state.specs.declared.incoming.Incoming.TheVariants as incoming
use Rattle.session_state.specs.declared.step.Step.{Step}
use Rattle.session_state.specs.Answers.{size_in}
use Rattle.session_state.specs.Phases.{IsRightSum}

-- ---- what a session is

abbrev pub doing_of : Doing → sessions.Doing
doing_of doings.Waits = sessions.Waits
doing_of (doings.Guards share) = sessions.Guards share.number share.key
doing_of (doings.Gives g) = sessions.Gives g.key g.at (g.end - g.at) g.good
doing_of doings.Gave = sessions.Gave
doing_of (doings.Wants w) = sessions.Wants w.fill w.size
doing_of (doings.Takes t) = sessions.Takes t.fill t.size t.left
doing_of (doings.Took t) = sessions.Took t.fill t.size

-- the session of the definitions that it is
abbrev pub session_of : SessionState → sessions.Session
session_of s = record { version = s.spoken; doing = doing_of s.doing }

abbrev pub share_in : Doing → Option ShareView
share_in (doings.Guards share) = Some share
share_in _ = None

-- the number and the key of a hold that is guarded
abbrev pub label_in : Option ShareView → Option (ℕ × List ℕ)
label_in None = None
label_in (Some s) = Some (s.number, s.key)

abbrev pub guarded_in : sessions.Doing → Option (ℕ × List ℕ)
guarded_in (sessions.Guards hold key) = Some (hold, key)
guarded_in _ = None

-- ---- what is heard

abbrev pub heard_line : Option Message → Incoming → Type 0
heard_line None i = i ≡ incoming.Bad
heard_line (Some m) i = i ≡ incoming.Message m

-- a frame brings this
abbrev pub Brings : FrameText → Incoming → Type 0
Brings frames.Opening i = i ≡ incoming.Opening
Brings frames.Closing i = i ≡ incoming.Closing
Brings (frames.Bytes n) (incoming.Bytes bytes) = n ≡ length bytes.items
Brings (frames.Bytes n) i = ⊥
Brings (frames.Line text) i = heard_line (message_of text) i

-- the answer to it
abbrev pub on_heard : Here → sessions.Session → Incoming → Reply
on_heard h was incoming.Opening = on_frame h was frames.Opening
on_heard h was incoming.Closing = on_frame h was frames.Closing
on_heard h was (incoming.Bytes bytes) = on_bytes h (length bytes.items) was.doing
on_heard h was incoming.Bad = on_text h was None
on_heard h was (incoming.Message m) = on_text h was (Some m)

-- ---- what follows

-- the frames that a step sends: its reply, if they have a message, and a Close
pub record SaysSo (step : Step) (sent : List FrameView) : Type 0 where
  pub said_is : message_said sent ≡ step.reply
  pub close_is : sends_close sent ≡ step.close

-- `session_took` of what is heard, and of an entry of this kind that said this
abbrev pub took_heard : (List ℕ → Option ℕ) → EntryKind → sessions.Session → Option Message → Incoming → sessions.Session
took_heard size kind was told incoming.Opening = was
took_heard size kind was told incoming.Closing = new_session
took_heard size kind was told (incoming.Bytes bytes) = record was { doing = took_bytes (length bytes.items) was.doing }
took_heard size kind was told incoming.Bad = was
took_heard size kind was told (incoming.Message m) = took_message size kind was told (Some m)

-- `session_after` of a step
abbrev pub next_session : (List ℕ → Option ℕ) → Step → sessions.Session → Incoming → sessions.Session
next_session size step was i = session_left step.close (took_heard size step.kind was step.reply i)

-- the keys that are filled after one session's step: those that it fills, and those that others fill
abbrev pub fills_after : sessions.Doing → sessions.Doing → (List ℕ → Bool) → List ℕ → Bool
fills_after was now filled key = if sessions.is_filling key now then true else (if sessions.is_filling key was then false else filled key)

-- the session fills the key from now on
abbrev pub fills_new : sessions.Doing → sessions.Doing → List ℕ → Bool
fills_new was now key = sessions.is_filling key now && not (sessions.is_filling key was)

-- the keys that are filled, after one session's step: each that it fills anew was free
pub record FillsSo (was now : sessions.Doing) (filled filled' : List ℕ → Bool) : Type 0 where
  pub after : (key : List ℕ) → filled' key ≡ fills_after was now filled key
  pub free : (key : List ℕ) → (fills_new was now key && filled key) ≡ false

-- the table gave the fill that the session has
abbrev pub HasFill : Rows → Doing → Type 0
HasFill rows (doings.Wants w) = is_filling rows w.fill ≡ true
HasFill rows (doings.Takes t) = is_filling rows t.fill ≡ true
HasFill rows (doings.Took t) = is_filling rows t.fill ≡ true
HasFill rows doing = Unit {0}

-- the holds and bars are those that an entry of this kind leaves
pub record AreAfterStep (kind : EntryKind) (was now : Rows) : Type 0 where
  pub holds : now.holds ≡ holds_after was.holds kind
  pub bars : (key : List ℕ) → bar_at now key ≡ bar_after key (bar_at was key) kind

-- it is told, and so
abbrev pub Tells : {X : Type 0} → Option X → (X → Type 0) → Type 0
Tells None P = ⊥
Tells (Some x) P = P x

-- the size that a GET asks for is the content's
abbrev pub SeesSize : Option Contents → Incoming → (List ℕ → Option ℕ) → Type 0
SeesSize known (incoming.Message (Get n file key)) size = Tells known (λ c. size key ≡ size_in c key)
SeesSize known i size = Unit {0}

-- a sum is that of these bytes
abbrev pub IsSumOf : Option Sum → List ℕ → List ℕ → Type 0
IsSumOf None key bytes = ⊥
IsSumOf (Some sum) key bytes = sum ≡ sum_of key bytes

-- a digester has taken these bytes, of the key's content
abbrev pub IsFedBy : Option Digester → List ℕ → List ℕ → Type 0
IsFedBy None key bytes = ⊥
IsFedBy (Some d) key bytes = HasTaken d key bytes

-- the bytes have come, and are summed
abbrev pub IsTakenOf : Taken → List ℕ → Type 0
IsTakenOf t bytes = (t.size ≡ length bytes) × IsSumOf t.sum t.fill bytes

-- what the session has taken of a part is the store's part
abbrev pub IsFed : Parts → Doing → Type 0
IsFed p (doings.Wants w) = IsFedBy w.digester w.fill (p w.fill)
IsFed p (doings.Takes t) = IsFedBy t.digester t.fill (p t.fill)
IsFed p (doings.Took t) = IsTakenOf t (p t.fill)
IsFed p doing = Unit {0}

-- the part has come, and this is whether it matches its key
abbrev pub SeesTaken : Option Parts → Taken → Bool → Type 0
SeesTaken known t right = Tells known (λ p. IsTakenOf t (p t.fill) × ((right ≡ true) ↔ MatchesKey t.fill (p t.fill)))

-- the size that a PUT is answered with is the part's; at VALID, whether the part matches its key
abbrev pub SeesPart : Option Parts → Doing → Incoming → ℕ → Bool → Type 0
SeesPart known (doings.Took t) (incoming.Message Valid) part right = SeesTaken known t right
SeesPart known doing (incoming.Message (Put file key)) part right = Tells known (λ p. part ≡ length (p key))
SeesPart known doing i part right = Unit {0}

-- the parts after the verdict on one: it is the content now, or dropped, or a call of the store failed
abbrev pub parts_after_valid : List ℕ → EntryKind → Option Parts → Option Parts
parts_after_valid key (Fault call by) known = known
parts_after_valid key kind known = option_map (λ p. with_at p key []) known

-- the parts after a step by an entry of this kind: that of a transfer grows by each piece that is taken
abbrev pub parts_after : Doing → Incoming → EntryKind → Option Parts → Option Parts
parts_after (doings.Takes t) (incoming.Bytes bytes) (Talk job) known = option_map (λ p. with_at p t.fill (p t.fill ++ bytes.items)) known
parts_after (doings.Took t) (incoming.Message Valid) kind known = parts_after_valid t.fill kind known
parts_after doing i kind known = known

-- all bytes of a part have come, and their sum is the key's
abbrev pub TookRight : Doing → Type 0
TookRight (doings.Took t) = IsRightSum t.sum t.fill
TookRight doing = ⊥

-- a content comes by an entry of this kind only of a part whose sum is its key's
abbrev pub IsJudgedIn : EntryKind → Doing → Type 0
IsJudgedIn (Gain by size key) doing = TookRight doing
IsJudgedIn kind doing = Unit {0}

-- the step agrees on no version, on a connection that stays open
abbrev pub IsPlain : Step → Type 0
IsPlain step = (step.close ≡ false) × ((v : ℕ) → version_told v step.reply ≡ v)
