-- After a step of the sessions the session of an end that is closed is new.
use Rattle.std.proofs.Common.{◌≡◌, ℕ, Bool, true, false, List, [], ◌∷◌, Option, Some, None, refl, sym, ap, subst, ◌∙◌, arith, true≢false}
use Rattle.std.specs.Prelude.{◌&&◌, ◌==◌, if◌then◌else◌, fold, is_some, slice_get}
use Rattle.std.specs.Option.{ForSome}
use Rattle.std.proofs.lemmas.Bool.{and_parts}
use Rattle.std.proofs.lemmas.Bool.Decides.{nat_tests}
use Rattle.annex_base.specs.Bools.{same_bool}
use Rattle.run_data.specs.declared.entry.Entry.{Entry}
use Rattle.run_data.specs.declared.entry.EntryKind.{EntryKind}
use Rattle.run_data.specs.declared.entry.FrameText.{FrameText}
use Rattle.run_data.specs.declared.entry.FrameText.TheVariants.{Opening, Closing, Line, Bytes}
use Rattle.run_data.specs.declared.entry.FrameView.{FrameView}
use Rattle.link_ring.specs.Ends.{EndView}
use Rattle.node_model.specs.After.{state_after}
use Rattle.node_model.specs.Ends.{End, EndName, end_sends, end_took, frames, sent_at, server_end, taken_at, takes_at}
use Rattle.node_model.specs.Look.{Effect}
use Rattle.node_model.specs.Sessions as sessions
use Rattle.node_model.specs.Sessions.{new_session, sends_close, session_after, session_goes, session_left, session_took}
use Rattle.node_model.specs.SetUp.{SetUp}
use Rattle.node_model.specs.State.{State}
use Rattle.node_ends.specs.declared.sending.Sending.{Sending}
use Rattle.node_ends.specs.declared.sending.Sending.TheVariants as sendings
use Rattle.node_ends.specs.Ends.{end_at, wait_at}
use Rattle.p2p_server.specs.declared.session.Session.{Session}
use Rattle.node_sessions.specs.declared.served.Served.{Served}
use Rattle.node_sessions.specs.Serving.{IsTalk, ServesAt, end_by, ends_after, made_by, says_by, says_in, sessions_after, taken_by}
use Rattle.node_sessions.specs.Sessions.{AreSessions, IsSessionOf, end_of}
use Rattle.node_sessions.proofs.Answering.{still_open}
use Rattle.node_sessions.proofs.Framing.{IsFrameAt, sent_mine, waits_form}
use Rattle.node_sessions.proofs.Stepping.{taken_own, taken_waits}

-- ---- at another end nothing is sent and nothing is taken

abbrev meets : EndName → EndName → Bool
meets b a = (b.peer == a.peer) && (b.slot == a.slot) && same_bool b.client a.client

none_sent : (b a : EndName) (c : End) (bodies : List FrameText) → meets b a ≡ false → sent_at a (frames b c bodies) ≡ []
none_sent b a c [] apart = refl
none_sent b a c (body ∷ bodies) apart = rw apart (none_sent b a (end_sends c body) bodies apart)

turned : (client : Bool) → same_bool client false ≡ same_bool false client
turned true = refl
turned false = refl

none_taken : (p s : ℕ) (a : EndName) (c : End) (f : FrameView) → meets (server_end p s) a ≡ false → IsFrameAt (server_end p s) c f → taken_at a (Some f) ≡ None
none_taken p s a c f apart h =
    let test : takes_at a f ≡ false = ap (takes_at a) h.is ∙ ap (λ (b : Bool). (p == a.peer) && (s == a.slot) && b) (turned a.client) ∙ apart in rw test refl

untaken : (links : List EndView) (p s : ℕ) (a : EndName) (o : Option FrameView) → meets (server_end p s) a ≡ false → ((f : FrameView) → o ≡ Some f → wait_at links (server_end p s) ≡ Some f) → taken_at a o ≡ None
untaken links p s a None apart waits = refl
untaken links p s a (Some f) apart waits = none_taken p s a (end_at links (server_end p s)) f apart (waits_form links (server_end p s) f (waits f refl))

same_end : (p s : ℕ) (a : EndName) → meets (server_end p s) a ≡ true → server_end p s ≡ a
same_end p s a e =
    let both = and_parts ((p == a.peer) && (s == a.slot)) (same_bool false a.client) e in
    let two = and_parts (p == a.peer) (s == a.slot) both.0 in
    let peer : p ≡ a.peer = number p a.peer two.0 in
    let slot : s ≡ a.slot = number s a.slot two.1 in
    ap (λ (n : ℕ). server_end n s) peer ∙ ap (λ (n : ℕ). server_end a.peer n) slot ∙ ap (λ (b : Bool). record { peer = a.peer; slot = a.slot; client = b }) (side a.client both.1)
  where
    number : (m n : ℕ) → (m == n) ≡ true → m ≡ n
    number m n is = grind (arith, nat_tests)

    side : (b : Bool) → same_bool false b ≡ true → false ≡ b
    side true is = absurd (true≢false (sym is))
    side false is = refl

-- ---- at its own end

abbrev sends_on : End → List FrameView → End
sends_on c fs = fold (λ c f. end_sends c f.body) c fs

talk_keeps : (b : EndName) (c d : End) (o : Option Sending) → ForSome o IsTalk → (sends_on c (frames b d (says_in o false))).opened ≡ c.opened
talk_keeps b c d None talk = refl
talk_keeps b c d (Some sendings.Open) talk = absurd (talk sendings.Open refl)
talk_keeps b c d (Some sendings.Close) talk = absurd (talk sendings.Close refl)
talk_keeps b c d (Some (sendings.Line line listed)) talk = refl
talk_keeps b c d (Some (sendings.Bytes bytes)) talk = refl

talk_open : (b : EndName) (d : End) (o : Option Sending) → ForSome o IsTalk → sends_close (frames b d (says_in o false)) ≡ false
talk_open b d None talk = refl
talk_open b d (Some sendings.Open) talk = absurd (talk sendings.Open refl)
talk_open b d (Some sendings.Close) talk = absurd (talk sendings.Close refl)
talk_open b d (Some (sendings.Line line listed)) talk = refl
talk_open b d (Some (sendings.Bytes bytes)) talk = refl

talk_shut : (b : EndName) (d : End) (o : Option Sending) → sends_close (frames b d (says_in o true)) ≡ true
talk_shut b d None = refl
talk_shut b d (Some sendings.Open) = refl
talk_shut b d (Some sendings.Close) = refl
talk_shut b d (Some (sendings.Line line listed)) = refl
talk_shut b d (Some (sendings.Bytes bytes)) = refl

-- what is taken at an end that is closed afterwards makes its session new
goes_new : (size : List ℕ → Option ℕ) (kind : EntryKind) (was : sessions.Session) (sent : List FrameView) (c : End) (b : EndName) (o : Option FrameView) → ((f : FrameView) → o ≡ Some f → IsFrameAt b c f) → (o ≡ None → c.opened ≡ true)
    → (end_took c o).opened ≡ false → session_goes size kind was sent o ≡ new_session
goes_new size kind was sent c b None form opened shut = absurd (true≢false (sym (opened refl) ∙ shut))
goes_new size kind was sent c b (Some f) form opened shut = go f.body refl
  where
    go : (body : FrameText) → f.body ≡ body → session_took size kind was sent f.body ≡ new_session
    go Closing is = ap (session_took size kind was sent) is
    go Opening is = absurd (true≢false (sym (still_open c f (form f refl).may (λ e. absurd cc)) ∙ shut))
    go (Line text) is = absurd (true≢false (sym (still_open c f (form f refl).may (λ e. absurd cc)) ∙ shut))
    go (Bytes n) is = absurd (true≢false (sym (still_open c f (form f refl).may (λ e. absurd cc)) ∙ shut))

own_new : (size : List ℕ → Option ℕ) (kind : EntryKind) (was : sessions.Session) (b : EndName) (c d : End) (taken : Option FrameView) (o : Option Sending) (close : Bool) → ForSome o IsTalk → ((f : FrameView) → taken ≡ Some f → IsFrameAt b c f) → (taken ≡ None → c.opened ≡ true)
    → (sends_on (end_took c taken) (frames b d (says_in o close))).opened ≡ false → session_after size kind was (frames b d (says_in o close)) taken ≡ new_session
own_new size kind was b c d taken o true talk form opened shut = ap (λ (x : Bool). session_left x (session_goes size kind was (frames b d (says_in o true)) taken)) (talk_shut b d o)
own_new size kind was b c d taken o false talk form opened shut =
    ap (λ (x : Bool). session_left x (session_goes size kind was (frames b d (says_in o false)) taken)) (talk_open b d o talk)
    ∙ goes_new size kind was (frames b d (says_in o false)) c b taken form opened (sym (talk_keeps b (end_took c taken) d o talk) ∙ shut)

-- ---- any end

abbrev shut_at : State → Option Effect → EndName → Type 0
shut_at st m a = (ends_after st m a).opened ≡ false → sessions_after st m a ≡ new_session

taken_form : (links : List EndView) (v : Served) (f : FrameView) → taken_by links v ≡ Some f → IsFrameAt (end_by v) (end_at links (end_by v)) f
taken_form links v f e = waits_form links (end_by v) f (taken_waits links v (end_by v) refl f e)

none_opened : (links : List EndView) (v : Served) → ServesAt links v → taken_by links v ≡ None → (end_at links (end_by v)).opened ≡ true
none_opened links v h e = go v.takes refl e
  where
    go : (b : Bool) → v.takes ≡ b → (if b then wait_at links (end_by v) else None) ≡ None → (end_at links (end_by v)).opened ≡ true
    go true is g = absurd (true≢false (sym (h.waits is) ∙ ap is_some g))
    go false is g = h.opened is

shut_own : (links : List EndView) (v : Served) (st : State) → ServesAt links v → st.ends (end_by v) ≡ end_at links (end_by v) → shut_at st (Some (made_by links v)) (end_by v)
shut_own links v st h ends shut =
    let b : EndName = end_by v in
    let taken : Option FrameView = taken_by links v in
    let c : End = end_at links b in
    let d : End = end_took c taken in
    let sent : List FrameView = frames b d (says_by v) in
    let s : sent_at b sent ≡ sent = sent_mine b d (says_by v) in
    let t : taken_at b taken ≡ taken = taken_own links v.peer v.slot taken (taken_waits links v b refl) in
    let after : (sends_on (end_took c taken) sent).opened ≡ false =
    sym (ap (λ (e : End). (sends_on (end_took e (taken_at b taken)) (sent_at b sent)).opened) ends ∙ ap (λ (o : Option FrameView). (sends_on (end_took c o) (sent_at b sent)).opened) t ∙ ap (λ (fs : List FrameView). (sends_on (end_took c taken) fs).opened) s) ∙ shut in
    ap (λ (o : Option FrameView). session_after st.content v.kind (st.sessions b) (sent_at b sent) o) t ∙ ap (λ (fs : List FrameView). session_after st.content v.kind (st.sessions b) fs taken) s
    ∙ own_new st.content v.kind (st.sessions b) b c d taken v.reply v.close h.talk (taken_form links v) (none_opened links v h) after

pub shut_some : (links : List EndView) (v : Served) (st : State) → ServesAt links v → st.ends (end_by v) ≡ end_at links (end_by v) → ((a : EndName) → a.client ≡ false → (st.ends a).opened ≡ false → st.sessions a ≡ new_session) → (a : EndName) → a.client ≡ false → shut_at st (Some (made_by links v)) a
shut_some links v st h ends was a server = go (meets (end_by v) a) refl
  where
    go : (t : Bool) → meets (end_by v) a ≡ t → shut_at st (Some (made_by links v)) a
    go true is = subst (shut_at st (Some (made_by links v))) (same_end v.peer v.slot a is) (shut_own links v st h ends)
    go false is = λ shut.
        let m : Effect = made_by links v in
        let s : sent_at a m.sent ≡ [] = none_sent (end_by v) a _ _ is in
        let t : taken_at a m.taken ≡ None = untaken links v.peer v.slot a (taken_by links v) is (taken_waits links v (end_by v) refl) in
        let before : (st.ends a).opened ≡ false =
        sym (ap (λ (o : Option FrameView). (sends_on (end_took (st.ends a) o) (sent_at a m.sent)).opened) t ∙ ap (λ (fs : List FrameView). (sends_on (st.ends a) fs).opened) s) ∙ shut in
        ap (λ (o : Option FrameView). session_after st.content m.kind (st.sessions a) (sent_at a m.sent) o) t ∙ ap (λ (fs : List FrameView). session_after st.content m.kind (st.sessions a) fs None) s ∙ was a server before

-- ---- an entry that takes and sends nothing at a server's end

pub sessions_kept : (s : SetUp) (st : State) (e : Entry) (xs : List Session) → AreSessions s st.sessions xs → ((a : EndName) → a.client ≡ false → (taken_at a e.taken ≡ None) × (sent_at a e.sent ≡ [])) → AreSessions s (state_after s st e).sessions xs
sessions_kept s st e xs are none = record { connections = are.connections; each = λ i x at. kept i x at (none (end_of x) refl) }
  where
    kept : (i : ℕ) (x : Session) → slice_get xs i ≡ Some x → (taken_at (end_of x) e.taken ≡ None) × (sent_at (end_of x) e.sent ≡ []) → IsSessionOf s (state_after s st e).sessions x
    kept i x at h =
        let was : IsSessionOf s st.sessions x = are.each i x at in record {
          id = was.id;
          version = was.version;
          locks = was.locks;
          session = ap (λ (o : Option FrameView). session_after st.content e.kind (st.sessions (end_of x)) (sent_at (end_of x) e.sent) o) (h.0)
              ∙ ap (λ (fs : List FrameView). session_after st.content e.kind (st.sessions (end_of x)) fs None) (h.1) ∙ was.session;
        }
