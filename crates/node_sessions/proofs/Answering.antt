-- What one session serves is the step of its end.
use Rattle.std.proofs.Common.{◌≡◌, ℕ, ◌<◌, Bool, true, false, List, [], ◌∷◌, ◌++◌, Option, Some, None, All, refl, sym, ap, subst, ◌∙◌, arith, true≢false, map}
use Rattle.std.specs.Prelude.{◌==◌, if◌then◌else◌, bytes_eq, length}
use Rattle.std.specs.Option.{option_map}
use Rattle.std.proofs.lemmas.List.Elements.{All-weaker}
use Rattle.annex_base.specs.declared.kinds.Call.{Call}
use Rattle.annex_base.specs.declared.kinds.Call.TheVariants as calls
use Rattle.annex_base.proofs.Conditions.{and_first}
use Rattle.run_data.specs.declared.entry.By.{By}
use Rattle.run_data.specs.declared.entry.EntryKind.{EntryKind}
use Rattle.run_data.specs.declared.entry.EntryKind.TheVariants as kinds
use Rattle.run_data.specs.declared.entry.FrameText.{FrameText}
use Rattle.run_data.specs.declared.entry.FrameText.TheVariants.{Opening, Closing, Line, Bytes}
use Rattle.run_data.specs.declared.entry.FrameView.{FrameView}
use Rattle.run_data.specs.declared.row.Hold.{Hold}
use Rattle.object_store.specs.Stores.{Contents, Parts, with_at}
use Rattle.content_lock.specs.Rows.{Rows}
use Rattle.content_lock.specs.Tokens.{Owns}
use Rattle.link_ring.specs.Ends.{EndView}
use Rattle.node_model.specs.Ends.{End, EndName, end_takes, end_took, frames, may_take}
use Rattle.node_model.specs.Look.{Effect, as_told}
use Rattle.node_model.specs.Rows.{bar_after, content_after, holds_after, keep_of, present_after}
use Rattle.node_model.specs.Sessions as sessions
use Rattle.node_model.specs.Sessions.{gave_bytes, message_said, sends_close, session_after}
use Rattle.node_model.specs.SessionStep.{Here, Reply, gives_made, gives_next, on_frame, reply_made, session_makes}
use Rattle.node_ends.specs.Ends.{end_at, wait_at}
use Rattle.p2p_wire.specs.declared.message.Message.{Message}
use Rattle.p2p_wire.specs.declared.message.Message.TheVariants as messages
use Rattle.p2p_wire.specs.Messages.{text_of}
use Rattle.p2p_wire.specs.Streams.{IsLine}
use Rattle.p2p_server.specs.declared.Doing.{Doing}
use Rattle.p2p_server.specs.declared.Doing.TheVariants as doings
use Rattle.p2p_server.specs.declared.Incoming.{Incoming}
use Rattle.p2p_server.specs.declared.Incoming.TheVariants as incoming
use Rattle.p2p_server.specs.declared.More.{More}
use Rattle.p2p_server.specs.declared.More.TheVariants as more
use Rattle.p2p_server.specs.declared.Place.{Place}
use Rattle.p2p_server.specs.declared.session.Session.{Session}
use Rattle.p2p_server.specs.declared.Step.{Step}
use Rattle.p2p_server.specs.Answers.{as_said, closes, owner_at, says}
use Rattle.p2p_server.specs.Bounds.{IsReply, IsReplyIf}
use Rattle.p2p_server.specs.Giving.{is_giving, reply_more, session_sent}
use Rattle.p2p_server.specs.States.{HaveRows, Stand, stand_after}
use Rattle.p2p_server.specs.Talking.{AreAfterStep, FillsSo, IsJudgedOf, SaysSo, SeesSize, doing_of, parts_after, parts_after_valid, share_in}
use Rattle.node_sessions.specs.declared.served.Served.{Served}
use Rattle.node_sessions.specs.Moments.{LeavesParts}
use Rattle.node_sessions.specs.Serving.{end_by, made_by, reply_by, says_by, taken_by}

-- ---- the entry

abbrev made_at : List EndView → EndName → Option FrameView → Reply → Effect
made_at links a taken r = reply_made a (end_took (end_at links a) taken) taken r

pub made_is : (links : List EndView) (v : Served) (a : EndName) (taken : Option FrameView) (r : Reply) → end_by v ≡ a → taken_by links v ≡ taken → reply_by v ≡ r → made_by links v ≡ made_at links a taken r
made_is links v a taken r end took said =
    ap (λ (t : Option FrameView). made_at links (end_by v) t (reply_by v)) took ∙ ap (λ (b : EndName). made_at links b taken (reply_by v)) end ∙ ap (made_at links a taken) said

pub takes_made : (links : List EndView) (v : Served) (a : EndName) (f : FrameView) (r : Reply) (h : Here) (was : sessions.Session) → h.at ≡ a → end_by v ≡ a → wait_at links a ≡ Some f → taken_by links v ≡ Some f → reply_by v ≡ r
    → r ≡ as_said (on_frame h was f.body) → option_map as_told (session_makes h (end_at links a) was (wait_at links a)) ≡ Some (made_by links v)
takes_made links v a f r h was at end waits took said is =
    ap (λ (o : Option FrameView). option_map as_told (session_makes h (end_at links a) was o)) waits
    ∙ ap (λ (b : EndName). Some (reply_made b (end_takes (end_at links a) f.epoch f.body) (Some f) (as_said (on_frame h was f.body)))) at
    ∙ ap (λ (x : Reply). Some (reply_made a (end_takes (end_at links a) f.epoch f.body) (Some f) x)) (sym is)
    ∙ ap Some (sym (made_is links v a (Some f) r end took said))

-- what is told of a piece is told of its reply
given_told : (a : EndName) (c : End) (o : Option Reply) → option_map as_told (gives_made a c o) ≡ gives_made a c (option_map as_said o)
given_told a c None = refl
given_told a c (Some x) = refl

pub gives_made_so : (links : List EndView) (v : Served) (a : EndName) (r : Reply) (h : Here) (was : sessions.Session) → h.at ≡ a → end_by v ≡ a → wait_at links a ≡ None → (end_at links a).opened ≡ true → taken_by links v ≡ None → reply_by v ≡ r
    → option_map as_said (gives_next h was.doing) ≡ Some r → option_map as_told (session_makes h (end_at links a) was (wait_at links a)) ≡ Some (made_by links v)
gives_made_so links v a r h was at end waits opened took said is =
    ap (λ (o : Option FrameView). option_map as_told (session_makes h (end_at links a) was o)) waits
    ∙ ap (λ (b : Bool). option_map as_told (if b then gives_made h.at (end_at links a) (gives_next h was.doing) else None)) opened
    ∙ given_told h.at (end_at links a) (gives_next h was.doing)
    ∙ ap (gives_made h.at (end_at links a)) is
    ∙ ap (λ (b : EndName). Some (reply_made b (end_at links a) None r)) at
    ∙ ap Some (sym (made_is links v a None r end took said))

-- ---- what is taken

pub taken_is : (links : List EndView) (v : Served) (a : EndName) → end_by v ≡ a → v.takes ≡ true → taken_by links v ≡ wait_at links a
taken_is links v a end takes = ap (λ (b : Bool). if b then wait_at links (end_by v) else None) takes ∙ ap (wait_at links) end

pub taken_none : (links : List EndView) (v : Served) → v.takes ≡ false → taken_by links v ≡ None
taken_none links v takes = ap (λ (b : Bool). if b then wait_at links (end_by v) else None) takes

-- the end is opened after it took what is no Close
pub still_open : (c : End) (f : FrameView) → may_take c f ≡ true → (f.body ≡ Closing → ⊥) → (end_takes c f.epoch f.body).opened ≡ true
still_open c f may other = go f.body refl may other
  where
    go : (body : FrameText) → f.body ≡ body → may_take c (record f { body = body }) ≡ true → (body ≡ Closing → ⊥) → (end_takes c f.epoch body).opened ≡ true
    go Opening is m o = refl
    go Closing is m o = absurd (o refl)
    go (Line text) is m o = and_first c.opened (f.epoch == c.epoch) m
    go (Bytes n) is m o = and_first c.opened (f.epoch == c.epoch) m

-- ---- what is said

pub closes_said : (a : EndName) (c : End) (close : Bool) → (message_said (frames a c (closes close)) ≡ None) × (sends_close (frames a c (closes close)) ≡ close)
closes_said a c true = (refl, refl)
closes_said a c false = (refl, refl)

said_close : (a : EndName) (c : End) (m : Message) (close : Bool) → sends_close (frames a c (Line (text_of m) ∷ closes close)) ≡ close
said_close a c m true = refl
said_close a c m false = refl

-- the law of `replies_are_short_lines`
abbrev pub RepliesAreLines : Type 0
RepliesAreLines = (m : Message) → IsReply m → IsLine m

pub says_so : RepliesAreLines → (a : EndName) (c : End) (step : Step) → IsReplyIf step.reply → SaysSo step (frames a c (says step.reply (closes step.close)))
says_so law a c step short = go step.reply short
  where
    go : (o : Option Message) → IsReplyIf o → SaysSo (record step { reply = o }) (frames a c (says o (closes step.close)))
    go None s = record { said_is = (closes_said a c step.close).0; close_is = (closes_said a c step.close).1 }
    go (Some m) s = record { said_is = (law m s).0; close_is = said_close a c m step.close }

-- ---- what is seen

pub sees_size : (rows : Rows) (known : Option Contents) (stand : Stand) → HaveRows rows known stand → (i : Incoming) → SeesSize known i stand.content
sees_size rows known stand keeps i = subst (λ (o : Option Contents). SeesSize o i stand.content) (sym keeps.told) (go i)
  where
    go : (j : Incoming) → SeesSize (Some keeps.contents) j stand.content
    go (incoming.Message (messages.Get n file key)) = sym (keeps.content key)
    go j = tt

-- ---- the parts

parts_same : (doing : sessions.Doing) (known : Option Parts) → LeavesParts doing known known
parts_same doing known = record { told = refl; same = λ p is p' is' key none. go p p' key is is' }
  where
    go : (p p' : Parts) (key : List ℕ) → known ≡ Some p → known ≡ Some p' → p' key ≡ p key
    go p p' key is is' =
        let e : p' ≡ p = cc in ap (λ (f : Parts). f key) e

pub parts_kept : (doing : sessions.Doing) (known known' : Option Parts) → known' ≡ known → LeavesParts doing known known'
parts_kept doing known known' same = subst (λ (o : Option Parts). LeavesParts doing known o) (sym same) (parts_same doing known)

parts_changed : (doing : sessions.Doing) (fill : List ℕ) (value : Parts → List ℕ) → ((key : List ℕ) → sessions.is_filling key doing ≡ bytes_eq fill key) → (known : Option Parts)
    → LeavesParts doing known (option_map (λ p. with_at p fill (value p)) known)
parts_changed doing fill value had None = record { told = refl; same = λ p is p' is' key none. absurd cc }
parts_changed doing fill value had (Some q) = record { told = refl; same = λ p is p' is' key none. go p p' key is is' (sym (had key) ∙ none) }
  where
    go : (p p' : Parts) (key : List ℕ) → Some q ≡ Some p → Some (with_at q fill (value q)) ≡ Some p' → bytes_eq fill key ≡ false → p' key ≡ p key
    go p p' key is is' other =
        let new : p' ≡ with_at q fill (value q) = cc in
        let old : q ≡ p = cc in
        ap (λ (f : Parts). f key) new ∙ ap (λ (b : Bool). if b then value q else q key) other ∙ ap (λ (f : Parts). f key) old

parts_valid : (doing : sessions.Doing) (fill : List ℕ) → ((key : List ℕ) → sessions.is_filling key doing ≡ bytes_eq fill key) → (kind : EntryKind) (known : Option Parts) → LeavesParts doing known (parts_after_valid fill kind known)
parts_valid doing fill had (kinds.Fault call by) known = parts_same doing known
parts_valid doing fill had kind known = parts_changed doing fill (λ p. []) had known

pub parts_stay : (d : Doing) (i : Incoming) (kind : EntryKind) (known : Option Parts) → LeavesParts (doing_of d) known (parts_after d i kind known)
parts_stay (doings.Takes t) (incoming.Bytes bytes) (kinds.Talk job) known = parts_changed (doing_of (doings.Takes t)) t.fill (λ p. p t.fill ++ bytes.items) (λ key. refl) known
parts_stay (doings.Took t) (incoming.Message messages.Valid) kind known = parts_valid (doing_of (doings.Took t)) t.fill (λ key. refl) kind known
parts_stay d i kind known = parts_same (doing_of d) known

-- ---- an entry that changes no content

pub record KeepsContents (kind : EntryKind) : Type 0 where
  pub present : (key : List ℕ) (b : Bool) → present_after key b kind ≡ b
  pub content : (key : List ℕ) (o : Option ℕ) → content_after key o kind ≡ o

pub keeps_on : (kind : EntryKind) (was now : Rows) (known : Option Contents) (stand : Stand) → KeepsContents kind → AreAfterStep kind was now → HaveRows was known stand → HaveRows now known (stand_after kind stand)
keeps_on kind was now known stand same after keeps = record {
  contents = keeps.contents;
  told = keeps.told;
  present = λ key. keeps.present key ∙ sym (same.present key (stand.present key));
  content = λ key. keeps.content key ∙ sym (same.content key (stand.content key));
  bar = λ key. after.bars key ∙ ap (λ (o : Option ℕ). bar_after key o kind) (keeps.bar key);
  holds = after.holds ∙ ap (λ (hs : List Hold). holds_after hs kind) keeps.holds;
}

-- ---- what is given

fault_holds : (call : Call) (by : By) (hs : List Hold) → map (keep_of by) hs ≡ hs → hs ≡ holds_after hs (kinds.Fault call by)
fault_holds calls.Unhold by hs kept = sym kept
fault_holds call by hs kept = refl

abbrev pub KindSo : Place → Rows → EntryKind → Type 0
KindSo place rows kind = KeepsContents kind × AreAfterStep kind rows rows × ((x : Session) → IsJudgedOf x kind)

kind_given : (v : Served) (r : Reply) → Some r ≡ Some (reply_by v) → v.kind ≡ r.kind
kind_given v r e =
    let same : reply_by v ≡ r = cc in ap (λ (x : Reply). x.kind) same

pub given_kind : (place : Place) (m : More) (v : Served) (rows : Rows) → option_map as_said (reply_more place m) ≡ Some (reply_by v) → Owns (owner_at place) None rows.holds → KindSo place rows v.kind
given_kind place (more.Piece bytes) v rows e own =
    let k : v.kind ≡ kinds.Talk None = kind_given v _ e in
    subst (KindSo place rows) (sym k) (record { present = λ key b. refl; content = λ key o. refl }, record { holds = refl; bars = λ key. refl }, λ x. tt)
given_kind place (more.Last m) v rows e own =
    let k : v.kind ≡ kinds.Talk None = kind_given v _ e in
    subst (KindSo place rows) (sym k) (record { present = λ key b. refl; content = λ key o. refl }, record { holds = refl; bars = λ key. refl }, λ x. tt)
given_kind place more.Nothing v rows e own = absurd cc
given_kind place more.Gone v rows e own =
    let k : v.kind ≡ kinds.Close place.peer place.slot false = kind_given v _ e in
    subst (KindSo place rows) (sym k) (record { present = λ key b. refl; content = λ key o. refl }, record { holds = sym own.kept; bars = λ key. refl }, λ x. tt)
given_kind place (more.Fault call) v rows e own =
    let k : v.kind ≡ kinds.Fault call (owner_at place) = kind_given v _ e in
    subst (KindSo place rows) (sym k) (record { present = λ key b. refl; content = λ key o. refl }, record { holds = fault_holds call (owner_at place) rows.holds own.kept; bars = λ key. refl }, λ x. tt)

says_given : (v : Served) (r : Reply) → Some r ≡ Some (reply_by v) → says_by v ≡ r.says
says_given v r e =
    let same : reply_by v ≡ r = cc in ap (λ (x : Reply). x.says) same

abbrev sends_so : (List ℕ → Option ℕ) → EntryKind → sessions.Session → EndName → End → List FrameText → sessions.Session
sends_so size kind was a c bodies = session_after size kind was (frames a c bodies) None

pub given_next : (place : Place) (m : More) (v : Served) (size : List ℕ → Option ℕ) (was : sessions.Session) (a : EndName) (c : End) → option_map as_said (reply_more place m) ≡ Some (reply_by v) → session_sent m was ≡ sends_so size v.kind was a c (says_by v)
given_next place (more.Piece bytes) v size was a c e = ap (sends_so size v.kind was a c) (sym (says_given v _ e))
given_next place (more.Last m) v size was a c e = ap (sends_so size v.kind was a c) (sym (says_given v _ e))
given_next place more.Nothing v size was a c e = absurd cc
given_next place more.Gone v size was a c e = ap (sends_so size v.kind was a c) (sym (says_given v _ e))
given_next place (more.Fault call) v size was a c e = ap (sends_so size v.kind was a c) (sym (says_given v _ e))

-- a session that is sending a content fills no key, before and after, and has no share
giving_fills : (d : sessions.Doing) → is_giving d ≡ true → (key : List ℕ) → sessions.is_filling key d ≡ false
giving_fills (sessions.Gives k at left good) is key = refl
giving_fills sessions.Waits is key = absurd (true≢false (sym is))
giving_fills (sessions.Guards hold k) is key = absurd (true≢false (sym is))
giving_fills sessions.Gave is key = absurd (true≢false (sym is))
giving_fills (sessions.Wants k size) is key = absurd (true≢false (sym is))
giving_fills (sessions.Takes k size left) is key = absurd (true≢false (sym is))
giving_fills (sessions.Took k size) is key = absurd (true≢false (sym is))

gave_fills : (d : sessions.Doing) (n : ℕ) → is_giving d ≡ true → (key : List ℕ) → sessions.is_filling key (gave_bytes n d) ≡ false
gave_fills (sessions.Gives k at left good) n is key = refl
gave_fills sessions.Waits n is key = absurd (true≢false (sym is))
gave_fills (sessions.Guards hold k) n is key = absurd (true≢false (sym is))
gave_fills sessions.Gave n is key = absurd (true≢false (sym is))
gave_fills (sessions.Wants k size) n is key = absurd (true≢false (sym is))
gave_fills (sessions.Takes k size left) n is key = absurd (true≢false (sym is))
gave_fills (sessions.Took k size) n is key = absurd (true≢false (sym is))

sent_fills : (m : More) (was : sessions.Session) → is_giving was.doing ≡ true → (key : List ℕ) → sessions.is_filling key (session_sent m was).doing ≡ false
sent_fills (more.Piece bytes) was is key = gave_fills was.doing (length bytes.items) is key
sent_fills (more.Last m) was is key = refl
sent_fills more.Nothing was is key = giving_fills was.doing is key
sent_fills more.Gone was is key = refl
sent_fills (more.Fault call) was is key = refl

pub giving_fills_so : (m : More) (was now : sessions.Session) (filled : List ℕ → Bool) → is_giving was.doing ≡ true → now ≡ session_sent m was → FillsSo was.doing now.doing filled filled
giving_fills_so m was now filled is next =
    let old : (key : List ℕ) → sessions.is_filling key was.doing ≡ false = giving_fills was.doing is in
    let new : (key : List ℕ) → sessions.is_filling key now.doing ≡ false = (λ key. ap (λ (x : sessions.Session). sessions.is_filling key x.doing) next ∙ sent_fills m was is key) in record {
      after = λ key. rw (new key, old key) refl;
      free = λ key. rw (new key) refl;
    }

pub giving_bare : (d : Doing) → is_giving (doing_of d) ≡ true → share_in d ≡ None
giving_bare (doings.Gives g) is = refl
giving_bare doings.Waits is = absurd (true≢false (sym is))
giving_bare (doings.Guards share) is = absurd (true≢false (sym is))
giving_bare doings.Gave is = absurd (true≢false (sym is))
giving_bare (doings.Wants w) is = absurd (true≢false (sym is))
giving_bare (doings.Takes t) is = absurd (true≢false (sym is))
giving_bare (doings.Took t) is = absurd (true≢false (sym is))

-- ---- holds

pub still_below : (n m : ℕ) (hs : List Hold) → n < m → All (λ h. h.number < n) hs → All (λ h. h.number < m) hs
still_below n m hs more less = All-weaker (λ (h : Hold). h.number < n) (λ (h : Hold). h.number < m) (λ h l. omega (arith, l, more)) hs less
