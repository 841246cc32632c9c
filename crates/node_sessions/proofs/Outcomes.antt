-- What is served by an answer to a Close, by that to another frame, and by a piece that is given.
use Rattle.std.proofs.Common.{◌≡◌, ℕ, ◌<◌, ◌≤◌, Bool, true, false, List, [], Option, Some, None, All, IfSome, refl, sym, ap, subst, ◌∙◌, arith, true≢false}
use Rattle.std.specs.Prelude.{is_some}
use Rattle.std.specs.Option.{ForSome, option_map, option_map_or}
use Rattle.annex_base.specs.Causes.{Rose}
use Rattle.annex_base.specs.declared.kinds.Call.{Call}
use Rattle.run_data.specs.declared.entry.EntryKind.{EntryKind}
use Rattle.run_data.specs.declared.entry.EntryKind.TheVariants as kinds
use Rattle.run_data.specs.declared.entry.FrameText.{FrameText}
use Rattle.run_data.specs.declared.entry.FrameText.TheVariants.{Closing}
use Rattle.run_data.specs.declared.entry.FrameView.{FrameView}
use Rattle.object_store.specs.Stores.{Contents, Parts}
use Rattle.object_store.specs.declared.keeper.HoldRecord.{HoldRecord}
use Rattle.content_lock.specs.CallsMade.{MakesCalls, fewer}
use Rattle.content_lock.specs.Rows.{Rows, bar_at, is_filling}
use Rattle.content_lock.specs.Stored.{Agrees}
use Rattle.content_lock.specs.Tokens.{Owns, ShareView}
use Rattle.link_ring.specs.declared.frame.Body.{Body}
use Rattle.link_ring.specs.declared.frame.Body.TheVariants as bodies
use Rattle.link_ring.specs.declared.frame.Frame.{Frame}
use Rattle.link_ring.specs.Ends.{EndView}
use Rattle.node_model.specs.Ends.{End, EndName, end_took, frames, server_end}
use Rattle.node_model.specs.Look.{Effect, Look, failed_in}
use Rattle.node_model.specs.Sessions as sessions
use Rattle.node_model.specs.Sessions.{session_after, session_took}
use Rattle.node_model.specs.SessionStep.{Reply, gives_next, here, is_filled, on_frame, session_makes}
use Rattle.node_model.specs.SetUp.{SetUp}
use Rattle.node_model.specs.State.{State}
use Rattle.node_ends.specs.Ends.{end_at, frame_at, room_at, text_in, wait_at}
use Rattle.p2p_server.specs.declared.Incoming.{Incoming}
use Rattle.p2p_server.specs.declared.More.{More}
use Rattle.p2p_server.specs.declared.Place.{Place}
use Rattle.p2p_server.specs.declared.session.Session.{Session}
use Rattle.p2p_server.specs.declared.Step.{Step}
use Rattle.p2p_server.specs.Answers.{LeavesContents, as_said, contents_after, owner_at, reply_of, size_in}
use Rattle.p2p_server.specs.Bounds.{IsKind, IsReplyIf}
use Rattle.p2p_server.specs.Giving.{IsPieceOf, failed_more, reply_more, session_sent}
use Rattle.p2p_server.specs.SessionCalls.{calls_next}
use Rattle.p2p_server.specs.States.{IsScene, HaveRows, Stand, stand_after, stand_of}
use Rattle.p2p_server.specs.Stepping.{LeavesOthers, moment_of}
use Rattle.p2p_server.specs.Talking.{AreAfterStep, Brings, FillsSo, HasFillOf, IsFedOf, IsJudgedOf, SaysSo, SeesPartOf, SeesSize, parts_after_of, place_of, session_of, share_of}
use Rattle.node_sessions.specs.declared.served.Served.{Served}
use Rattle.node_sessions.specs.Built.{IsClosed}
use Rattle.node_sessions.specs.Moments.{GivesAt, IsReady, LeavesParts, Makes, MakesSo, SeesOne, Serves, WaitsAt, bytes_heard}
use Rattle.node_sessions.specs.Pieces.{IsNoPiece, SaysGiven}
use Rattle.node_sessions.specs.Serving.{IsTalk, SeesPartAt, ServesAt, end_by, made_by, reply_by, says_by, taken_by}
use Rattle.node_sessions.specs.Sessions.{end_of, owner_of}
use Rattle.node_sessions.specs.Stored.{bytes_at, bytes_of, parts_after_frame, parts_after_taken}
use Rattle.node_sessions.specs.Words.{word_beside, word_to}
use Rattle.node_sessions.proofs.Answering.{KindSo, RepliesAreLines, given_kind, given_next, gives_made_so, giving_bare, giving_fills_so, keeps_on, parts_kept, parts_stay, says_so, sees_size, still_below, still_open, taken_is, taken_none, takes_made}
use Rattle.node_sessions.proofs.Called.{answer_makes, makes_none, piece_makes}
use Rattle.node_sessions.proofs.Framing.{IsFrameAt, waits_form}
use Rattle.node_sessions.proofs.Pieces.{given_piece, no_piece}
use Rattle.node_sessions.proofs.Storing.{close_leaves, parts_answered}

pub end_is : (peer slot : ℕ) (q p : Place) → peer ≡ q.peer → slot ≡ q.slot → q ≡ p → server_end peer slot ≡ server_end p.peer p.slot
end_is peer slot q p e1 e2 e3 = ap (λ (x : ℕ). server_end x slot) e1 ∙ ap (λ (x : ℕ). server_end q.peer x) e2 ∙ ap (λ (x : Place). server_end x.peer x.slot) e3

-- the bytes of the frame that waits
bytes_are : (links : List EndView) (x : Session) (frame : Frame) → WaitsAt links x frame → bytes_at links (end_of x) ≡ bytes_of frame.body
bytes_are links x frame w = ap (λ (o : Option Frame). option_map_or (λ (f : Frame). bytes_of f.body) o []) w.first

-- ---- the answer to a Close

abbrev pub closing_at : Place → Served
closing_at p = record { peer = p.peer; slot = p.slot; takes = true; kind = kinds.Close p.peer p.slot false; reply = None; close = false; word = None }

pub hung_up : (links : List EndView) (clock number : ℕ) (was now : Session) (rows rows' : Rows) (frame : Frame) (contents : Option Contents) (parts : Option Parts) (records : Option (List HoldRecord)) (faults : ℕ)
    → frame.body ≡ bodies.Close → WaitsAt links was frame → Agrees records rows.holds → All (λ h. h.number < number) rows.holds → IsClosed was now rows rows'
    → Serves links clock number (moment_of was rows contents parts records faults) (moment_of now rows' contents parts records faults) (closing_at (place_of was))
hung_up links clock number was now rows rows' frame contents parts records faults is w agrees fresh h = record {
  place = h.place;
  at = refl;
  stands = stands;
  piece = λ c told. tt;
  makes = makes;
  after = h.after;
  bars = h.after.bars;
  kind = tt;
  numbers = λ n more. h.numbers n (still_below number n rows.holds more fresh);
  filled = subst (λ (x : sessions.Session). FillsSo (session_of was).doing x.doing (is_filling rows) (is_filling rows')) (sym h.session) h.filled;
  contents = refl;
  left_parts = sym (left w.waits is);
  parts = parts_kept (session_of was).doing parts parts refl;
  fed = λ p is fed p' is'. h.fed p';
  judged = tt;
  owns = h.owns;
  fills = h.fills;
  others = h.others;
  agrees = h.agrees records agrees;
  later = omega arith;
  cause = tt;
}
  where
    a : EndName
    a = end_of was

    v : Served
    v = closing_at (place_of was)

    left : wait_at links (end_of was) ≡ Some (frame_at (end_of was) frame) → frame.body ≡ bodies.Close
        → parts_after_taken (session_of was).doing (wait_at links (end_of was)) (bytes_at links (end_of was)) (kinds.Close (place_of was).peer (place_of was).slot false) parts ≡ parts
    left waits close =
        ap (λ (o : Option FrameView). parts_after_taken (session_of was).doing o (bytes_at links (end_of was)) (kinds.Close (place_of was).peer (place_of was).slot false) parts) waits
        ∙ ap (λ (b : Body). parts_after_frame (session_of was).doing (text_in b) (bytes_at links (end_of was)) (kinds.Close (place_of was).peer (place_of was).slot false) parts) close
        ∙ close_leaves (session_of was).doing (bytes_at links (end_of was)) (kinds.Close (place_of was).peer (place_of was).slot false) parts

    kind : EntryKind
    kind = kinds.Close (place_of was).peer (place_of was).slot false

    stands : ServesAt links (closing_at (place_of was))
    stands = record {
      room = w.room;
      waits = λ t. ap is_some w.waits;
      opened = λ e. absurd (true≢false e);
      talk = λ x e. absurd cc;
      shuts = λ e. absurd (true≢false (sym e));
      word = sym (ap (λ (o : Option FrameView). word_to o (kinds.Close (place_of was).peer (place_of was).slot false)) w.waits ∙ ap (λ (b : Body). word_beside (text_in b) (kinds.Close (place_of was).peer (place_of was).slot false)) is);
    }

    makes : (s : SetUp) (st : State) (k : Look) → SeesOne links clock number (moment_of was rows contents parts records faults) (closing_at (place_of was)) s st k
        → Makes links (moment_of was rows contents parts records faults) (moment_of now rows' contents parts records faults) (closing_at (place_of was)) s st k
    makes s st k sees = record {
      made = takes_made links (closing_at (place_of was)) (end_of was) (frame_at (end_of was) frame) (reply_by (closing_at (place_of was))) (here s st k (end_of was)) (st.sessions (end_of was)) refl refl w.waits w.waits refl
          (sym (ap (λ (b : Body). as_said (on_frame (here s st k (end_of was)) (st.sessions (end_of was)) (text_in b))) is));
      next = h.session
          ∙ sym (ap (λ (o : Option FrameView). session_after st.content (kinds.Close (place_of was).peer (place_of was).slot false) (session_of was) [] o) w.waits
          ∙ ap (λ (b : Body). session_took st.content (kinds.Close (place_of was).peer (place_of was).slot false) (session_of was) [] (text_in b)) is);
      keeps = keeps_on (kinds.Close (place_of was).peer (place_of was).slot false) rows rows' contents (stand_of st) (record { present = λ key b. refl; content = λ key o. refl }) h.after sees.keeps;
    }

-- a Close makes no call
pub hung_up_makes : (links : List EndView) (clock number : ℕ) (was : Session) (rows : Rows) (frame : Frame) (contents : Option Contents) (parts : Option Parts) (records : Option (List HoldRecord)) (faults : ℕ) (failing : Option (Call → ℕ))
    → frame.body ≡ bodies.Close → WaitsAt links was frame → MakesSo links clock number (moment_of was rows contents parts records faults) (closing_at (place_of was)) failing failing
hung_up_makes links clock number was rows frame contents parts records faults failing is w = record {
  at = refl;
  calls = λ s st k sees.
      let h = here s st k (end_of was) in
      let session = st.sessions (end_of was) in
      answer_makes h (end_at links (end_of was)) session (wait_at links (end_of was)) (frame_at (end_of was) frame) None failing failing w.waits
      (subst (λ (b : Body). MakesCalls (on_frame h session (text_in b)).calls None failing failing) (sym is) (makes_none failing));
  left = (makes_none failing).left;
}

-- ---- the answer to another frame

pub record TookSo (clock number : ℕ) (i : Incoming) (was now : Session) (rows rows' : Rows) (contents contents' : Option Contents) (parts parts' : Option Parts) (records' : Option (List HoldRecord)) (faults faults' : ℕ) (x : Step) : Type 0 where
  pub step : (s : SetUp) (st : State) (k : Look) (a : EndName) (body : FrameText) → IsScene (record { place = place_of was; clock = clock; number = number }) s st k a → HaveRows rows contents (stand_of st)
      → ((key : List ℕ) → is_filled s st key ≡ is_filling rows key) → st.sessions a ≡ session_of was → Brings body i → SeesPartOf parts was i k.part k.right → k.fails ≡ failed_in x.kind
      → reply_of x ≡ as_said (on_frame (here s st k a) (st.sessions a) body)
  pub keeps : (stand : Stand) (part : ℕ) (right : Bool) → HaveRows rows contents stand → SeesPartOf parts was i part right → HaveRows rows' contents' (stand_after x.kind stand)
  pub after : AreAfterStep x.kind rows rows'
  pub bars : (key : List ℕ) → bar_at rows' key ≡ bar_at rows key
  pub kind : IsKind number x.kind
  pub reply : IsReplyIf x.reply
  pub numbers : (n : ℕ) → number < n → All (λ h. h.number < n) rows'.holds
  pub next : (size : List ℕ → Option ℕ) (sent : List FrameView) (f : FrameView) → Brings f.body i → SaysSo x sent → SeesSize contents i size → session_of now ≡ session_after size x.kind (session_of was) sent (Some f)
  pub contents_are : contents' ≡ contents_after contents parts x.kind
  pub parts_are : parts' ≡ parts_after_of was i x.kind parts
  pub fed : ForSome parts (λ p. IsFedOf p was → ForSome parts' (λ p'. IsFedOf p' now))
  pub judged : IsJudgedOf was x.kind
  pub filled : FillsSo (session_of was).doing (session_of now).doing (is_filling rows) (is_filling rows')
  pub place : place_of now ≡ place_of was
  pub owns : Owns (owner_at (place_of now)) (share_of now) rows'.holds
  pub fills : HasFillOf rows' now
  pub others : LeavesOthers (owner_of was) rows rows'
  pub agrees : Agrees records' rows'.holds
  pub later : faults ≤ faults'
  pub cause : IfSome (failed_in x.kind) (λ call. Rose faults faults')

pub record AnsweredSo (p : Place) (i : Incoming) (x : Step) (v : Served) : Type 0 where
  pub peer : v.peer ≡ p.peer
  pub slot : v.slot ≡ p.slot
  pub takes : v.takes ≡ true
  pub kind : v.kind ≡ x.kind
  pub reply : reply_by v ≡ reply_of x
  pub talk : ForSome v.reply IsTalk
  pub line : ForSome v.reply IsNoPiece
  pub word : (body : FrameText) → Brings body i → v.word ≡ word_beside body x.kind

closing_only : (b : Body) → text_in b ≡ Closing → b ≡ bodies.Close
closing_only bodies.Open e = absurd cc
closing_only (bodies.Line text) e = absurd cc
closing_only (bodies.Bytes bytes) e = absurd cc
closing_only bodies.Close e = refl

pub replies : RepliesAreLines → (links : List EndView) (clock number : ℕ) (i : Incoming) (frame : Frame) (was now : Session) (rows rows' : Rows) (contents contents' : Option Contents) (parts parts' : Option Parts) (records records' : Option (List HoldRecord)) (faults faults' : ℕ)
    (x : Step) (p : Place) (v : Served) → (frame.body ≡ bodies.Close → ⊥) → Brings (text_in frame.body) i → bytes_heard i ≡ bytes_of frame.body → WaitsAt links was frame → p ≡ place_of was
    → TookSo clock number i was now rows rows' contents contents' parts parts' records' faults faults' x → AnsweredSo p i x v
    → Serves links clock number (moment_of was rows contents parts records faults) (moment_of now rows' contents' parts' records' faults') v
replies law links clock number i frame was now rows rows' contents contents' parts parts' records records' faults faults' x p v other brings bytes w place t y = record {
  place = t.place;
  at = end;
  stands = stands;
  piece = λ c told. no_piece c (session_of was).doing v.reply y.line;
  makes = makes;
  after = subst (λ (kind : EntryKind). AreAfterStep kind rows rows') (sym y.kind) t.after;
  bars = t.bars;
  kind = subst (IsKind number) (sym y.kind) t.kind;
  numbers = t.numbers;
  filled = t.filled;
  contents = t.contents_are ∙ ap (contents_after contents parts) (sym y.kind);
  left_parts = left;
  parts = subst (λ (o : Option Parts). LeavesParts (session_of was).doing parts o) (sym t.parts_are) (parts_stay was.state.doing i x.kind parts);
  fed = t.fed;
  judged = subst (IsJudgedOf was) (sym y.kind) t.judged;
  owns = t.owns;
  fills = t.fills;
  others = t.others;
  agrees = t.agrees;
  later = t.later;
  cause = subst (λ (kind : EntryKind). IfSome (failed_in kind) (λ call. Rose faults faults')) (sym y.kind) t.cause;
}
  where
    end : end_by v ≡ end_of was
    end = end_is v.peer v.slot p (place_of was) y.peer y.slot place

    took : taken_by links v ≡ Some (frame_at (end_of was) frame)
    took = taken_is links v (end_of was) (end_is v.peer v.slot p (place_of was) y.peer y.slot place) y.takes ∙ w.waits

    left : parts' ≡ parts_after_taken (session_of was).doing (taken_by links v) (bytes_at links (end_by v)) v.kind parts
    left = t.parts_are ∙ parts_answered was.state.doing i frame.body x.kind parts brings bytes
        ∙ ap (λ (bs : List ℕ). parts_after_taken (session_of was).doing (Some (frame_at (end_of was) frame)) bs x.kind parts) (sym (ap (bytes_at links) end ∙ bytes_are links was frame w))
        ∙ ap (λ (kind : EntryKind). parts_after_taken (session_of was).doing (Some (frame_at (end_of was) frame)) (bytes_at links (end_by v)) kind parts) (sym y.kind)
        ∙ ap (λ (o : Option FrameView). parts_after_taken (session_of was).doing o (bytes_at links (end_by v)) v.kind parts) (sym took)

    form : IsFrameAt (end_of was) (end_at links (end_of was)) (frame_at (end_of was) frame)
    form = waits_form links (end_of was) (frame_at (end_of was) frame) w.waits

    stands : ServesAt links v
    stands = record {
      room = ap (room_at links) end ∙ w.room;
      waits = λ t. ap (λ (b : EndName). is_some (wait_at links b)) end ∙ ap is_some w.waits;
      opened = λ e. absurd (true≢false (sym y.takes ∙ e));
      talk = y.talk;
      shuts = λ e. ap (λ (b : EndName). (end_took (end_at links b) (taken_by links v)).opened) end ∙ ap (λ (o : Option FrameView). (end_took (end_at links (end_of was)) o).opened) took
          ∙ still_open (end_at links (end_of was)) (frame_at (end_of was) frame) form.may (λ e. other (closing_only frame.body e));
      word = y.word (text_in frame.body) brings ∙ sym (ap (λ (o : Option FrameView). word_to o v.kind) took ∙ ap (word_beside (text_in frame.body)) y.kind);
    }

    said : (c : End) → SaysSo x (frames (end_by v) c (says_by v))
    said c = subst (λ (bs : List FrameText). SaysSo x (frames (end_by v) c bs)) (sym (ap (λ (r : Reply). r.says) y.reply)) (says_so law (end_by v) c x t.reply)

    makes : (s : SetUp) (st : State) (k : Look) → SeesOne links clock number (moment_of was rows contents parts records faults) v s st k
        → Makes links (moment_of was rows contents parts records faults) (moment_of now rows' contents' parts' records' faults') v s st k
    makes s st k sees =
        let part : SeesPartOf parts was i k.part k.right = subst (λ (o : Option FrameView). SeesPartAt parts (Some was) o k.part k.right) took sees.part i brings in record {
          made = takes_made links v (end_of was) (frame_at (end_of was) frame) (reply_of x) (here s st k (end_of was)) (st.sessions (end_of was)) refl end w.waits took y.reply
              (t.step s st k (end_of was) (text_in frame.body) sees.scene sees.keeps sees.filled sees.session brings part (sees.fails ∙ ap failed_in y.kind));
          next = t.next st.content (made_by links v).sent (frame_at (end_of was) frame) brings (said _) (sees_size rows contents (stand_of st) sees.keeps i)
              ∙ ap (λ (kind : EntryKind). session_after st.content kind (session_of was) (made_by links v).sent (Some (frame_at (end_of was) frame))) (sym y.kind)
              ∙ ap (λ (o : Option FrameView). session_after st.content v.kind (session_of was) (made_by links v).sent o) (sym took);
          keeps = subst (λ (kind : EntryKind). HaveRows rows' contents' (stand_after kind (stand_of st))) (sym y.kind) (t.keeps (stand_of st) k.part k.right sees.keeps part);
        }

-- and it makes the calls of the answer
pub replies_make : (links : List EndView) (clock number : ℕ) (i : Incoming) (frame : Frame) (was : Session) (rows : Rows) (contents : Option Contents) (parts : Option Parts) (records : Option (List HoldRecord)) (faults : ℕ) (before after : Option (Call → ℕ)) (x : Step) (p : Place) (v : Served)
    → Brings (text_in frame.body) i → WaitsAt links was frame → p ≡ place_of was → AnsweredSo p i x v
    → ((s : SetUp) (st : State) (k : Look) (a : EndName) (body : FrameText) → IsScene (record { place = place_of was; clock = clock; number = number }) s st k a → HaveRows rows contents (stand_of st)
    → ((key : List ℕ) → is_filled s st key ≡ is_filling rows key) → st.sessions a ≡ session_of was → Brings body i → SeesPartOf parts was i k.part k.right → k.fails ≡ failed_in x.kind
    → MakesCalls (on_frame (here s st k a) (st.sessions a) body).calls k.fails before after)
    → after ≡ option_map (fewer (failed_in x.kind)) before → MakesSo links clock number (moment_of was rows contents parts records faults) v before after
replies_make links clock number i frame was rows contents parts records faults before after x p v brings w place y made left = record {
  at = end;
  calls = calls;
  left = left ∙ ap (λ (kind : EntryKind). option_map (fewer (failed_in kind)) before) (sym y.kind);
}
  where
    end : end_by v ≡ end_of was
    end = end_is v.peer v.slot p (place_of was) y.peer y.slot place

    took : taken_by links v ≡ Some (frame_at (end_of was) frame)
    took = taken_is links v (end_of was) (end_is v.peer v.slot p (place_of was) y.peer y.slot place) y.takes ∙ w.waits

    calls : (s : SetUp) (st : State) (k : Look) → SeesOne links clock number (moment_of was rows contents parts records faults) v s st k
        → ForSome (session_makes (here s st k (end_of was)) (end_at links (end_of was)) (st.sessions (end_of was)) (wait_at links (end_of was))) (λ (m : Effect). MakesCalls m.calls (failed_in v.kind) before after)
    calls s st k sees =
        let part : SeesPartOf parts was i k.part k.right = subst (λ (o : Option FrameView). SeesPartAt parts (Some was) o k.part k.right) took sees.part i brings in
        answer_makes (here s st k (end_of was)) (end_at links (end_of was)) (st.sessions (end_of was)) (wait_at links (end_of was)) (frame_at (end_of was) frame) (failed_in v.kind) before after w.waits
        (subst (λ (fails : Option Call). MakesCalls (on_frame (here s st k (end_of was)) (st.sessions (end_of was)) (text_in frame.body)).calls fails before after) sees.fails
        (made s st k (end_of was) (text_in frame.body) sees.scene sees.keeps sees.filled sees.session brings part (sees.fails ∙ ap failed_in y.kind)))

-- ---- a piece

pub record GaveSo (was now : Session) (contents contents' : Option Contents) (parts parts' : Option Parts) (records records' : Option (List HoldRecord)) (faults faults' : ℕ) (m : More) : Type 0 where
  pub step : (s : SetUp) (st : State) (k : Look) (a : EndName) (c : Contents) → a ≡ server_end (place_of was).peer (place_of was).slot → contents ≡ Some c → ((key : List ℕ) → size_in c key ≡ st.content key)
      → st.sessions a ≡ session_of was → k.fails ≡ failed_more m → gives_next (here s st k a) (st.sessions a).doing ≡ reply_more (place_of was) m
  pub bytes : ForSome contents (λ c. IsPieceOf c (session_of was).doing m)
  pub next : session_of now ≡ session_sent m (session_of was)
  pub place : place_of now ≡ place_of was
  pub share : share_of now ≡ share_of was
  pub fills : (rows : Rows) → HasFillOf rows was → HasFillOf rows now
  pub fed : (p : Parts) → IsFedOf p was → IsFedOf p now
  pub same_contents : contents' ≡ contents
  pub same_parts : parts' ≡ parts
  pub same_records : records' ≡ records
  pub later : faults ≤ faults'
  pub cause : IfSome (failed_more m) (λ call. Rose faults faults')

pub record GivenSo (p : Place) (m : More) (v : Served) : Type 0 where
  pub peer : v.peer ≡ p.peer
  pub slot : v.slot ≡ p.slot
  pub takes : v.takes ≡ false
  pub reply : option_map as_said (reply_more p m) ≡ Some (reply_by v)
  pub fails : failed_in v.kind ≡ failed_more m
  pub kind : (n : ℕ) → IsKind n v.kind
  pub leaves : LeavesContents v.kind
  pub talk : ForSome v.reply IsTalk
  pub piece : SaysGiven m v.reply
  pub word : v.word ≡ None

fed_same : (parts parts' : Option Parts) (p p' : Parts) (now : Session) → parts' ≡ parts → parts ≡ Some p → parts' ≡ Some p' → IsFedOf p now → IsFedOf p' now
fed_same parts parts' p p' now same is is' fed =
    let e : p ≡ p' = cc in subst (λ (q : Parts). IsFedOf q now) e fed

pub gives_so : (links : List EndView) (clock number : ℕ) (was now : Session) (rows : Rows) (contents contents' : Option Contents) (parts parts' : Option Parts) (records records' : Option (List HoldRecord)) (faults faults' : ℕ) (m : More) (p : Place) (v : Served)
    → GivesAt links was → IsReady number (moment_of was rows contents parts records faults) → p ≡ place_of was → GaveSo was now contents contents' parts parts' records records' faults faults' m → GivenSo p m v
    → Serves links clock number (moment_of was rows contents parts records faults) (moment_of now rows contents' parts' records' faults') v
gives_so links clock number was now rows contents contents' parts parts' records records' faults faults' m p v w ready place t y = record {
  place = t.place;
  at = end;
  stands = stands;
  piece = λ c told. given_piece c (session_of was).doing m v.reply w.gives (t.bytes c told) y.piece;
  makes = makes;
  after = so.1;
  bars = λ key. refl;
  kind = y.kind number;
  numbers = λ n more. still_below number n rows.holds more ready.fresh;
  filled = giving_fills_so m (session_of was) (session_of now) (is_filling rows) w.gives t.next;
  contents = t.same_contents ∙ sym (y.leaves contents parts);
  left_parts = t.same_parts ∙ sym (ap (λ (o : Option FrameView). parts_after_taken (session_of was).doing o (bytes_at links (end_by v)) v.kind parts) (taken_none links v y.takes));
  parts = parts_kept (session_of was).doing parts parts' t.same_parts;
  fed = λ q is fed q' is'. fed_same parts parts' q q' now t.same_parts is is' (t.fed q fed);
  judged = so.2 was;
  owns = subst (λ (q : Place). Owns (owner_at q) (share_of now) rows.holds) (sym t.place) (subst (λ (o : Option ShareView). Owns (owner_of was) o rows.holds) (sym t.share) ready.owns);
  fills = t.fills rows ready.fills;
  others = λ by share apart o. o;
  agrees = subst (λ (o : Option (List HoldRecord)). Agrees o rows.holds) (sym t.same_records) ready.agrees;
  later = t.later;
  cause = subst (λ (o : Option _). IfSome o (λ call. Rose faults faults')) (sym y.fails) t.cause;
}
  where
    end : end_by v ≡ end_of was
    end = end_is v.peer v.slot p (place_of was) y.peer y.slot place

    took : taken_by links v ≡ None
    took = taken_none links v y.takes

    said : option_map as_said (reply_more (place_of was) m) ≡ Some (reply_by v)
    said = subst (λ (q : Place). option_map as_said (reply_more q m) ≡ Some (reply_by v)) place y.reply

    so : KindSo (place_of was) rows v.kind
    so = given_kind (place_of was) m v rows (subst (λ (q : Place). option_map as_said (reply_more q m) ≡ Some (reply_by v)) place y.reply)
        (subst (λ (o : Option ShareView). Owns (owner_of was) o rows.holds) (giving_bare was.state.doing w.gives) ready.owns)

    stands : ServesAt links v
    stands = record {
      room = ap (room_at links) end ∙ w.room;
      waits = λ e. absurd (true≢false (sym e ∙ y.takes));
      opened = λ e. ap (λ (b : EndName). (end_at links b).opened) end ∙ w.opened;
      talk = y.talk;
      shuts = λ e. ap (λ (o : Option FrameView). (end_took (end_at links (end_by v)) o).opened) took ∙ ap (λ (b : EndName). (end_at links b).opened) end ∙ w.opened;
      word = y.word ∙ sym (ap (λ (o : Option FrameView). word_to o v.kind) took);
    }

    makes : (s : SetUp) (st : State) (k : Look) → SeesOne links clock number (moment_of was rows contents parts records faults) v s st k
        → Makes links (moment_of was rows contents parts records faults) (moment_of now rows contents' parts' records' faults') v s st k
    makes s st k sees = record {
      made = gives_made_so links v (end_of was) (reply_by v) (here s st k (end_of was)) (st.sessions (end_of was)) refl end w.none w.opened took refl
          (ap (option_map as_said) (t.step s st k (end_of was) sees.keeps.contents refl sees.keeps.told sees.keeps.content sees.session (sees.fails ∙ y.fails)) ∙ said);
      next = t.next ∙ given_next (place_of was) m v st.content (session_of was) (end_by v) _ said ∙ ap (λ (o : Option FrameView). session_after st.content v.kind (session_of was) (made_by links v).sent o) (sym took);
      keeps = subst (λ (o : Option Contents). HaveRows rows o (stand_after v.kind (stand_of st))) (sym t.same_contents) (keeps_on v.kind rows rows contents (stand_of st) so.0 so.1 sees.keeps);
    }

-- and it makes the call of a piece
pub gives_make : (links : List EndView) (clock number : ℕ) (was : Session) (rows : Rows) (contents : Option Contents) (parts : Option Parts) (records : Option (List HoldRecord)) (faults : ℕ) (before after : Option (Call → ℕ)) (m : More) (p : Place) (v : Served)
    → GivesAt links was → p ≡ place_of was → GivenSo p m v → MakesCalls (calls_next (session_of was).doing) (failed_more m) before after
    → MakesSo links clock number (moment_of was rows contents parts records faults) v before after
gives_make links clock number was rows contents parts records faults before after m p v w place y made = record {
  at = end_is v.peer v.slot p (place_of was) y.peer y.slot place;
  calls = λ s st k sees.
      piece_makes (here s st k (end_of was)) (end_at links (end_of was)) (st.sessions (end_of was)) (wait_at links (end_of was)) (failed_in v.kind) before after w.none w.opened
      (subst (λ (x : sessions.Session). MakesCalls (calls_next x.doing) (failed_in v.kind) before after) (sym sees.session)
      (subst (λ (fails : Option Call). MakesCalls (calls_next (session_of was).doing) fails before after) (sym y.fails) made));
  left = made.left ∙ ap (λ (fails : Option Call). option_map (fewer fails) before) (sym y.fails);
}
