-- What the close of a connection leaves of the parts.
use Rattle.std.proofs.Common.{◌≡◌, ◌≢◌, ◌⊎◌, inl, inr, ℕ, zero, suc, ◌<◌, ◌+◌, Bool, true, false, if◌then◌else◌, List, [], ◌∷◌, Option, Some, None, length, map, refl, sym, ap, subst, ◌∙◌, arith}
use Rattle.std.specs.Prelude.{◌==◌, ◌&&◌, All, fold, not}
use Rattle.std.specs.List.{range_with_len}
use Rattle.std.proofs.Math.Bool.{and-false}
use Rattle.std.proofs.lemmas.Bool.{and_parts, cases_Bool, eqb-true, true≢false}
use Rattle.std.specs.Option.{ForSome}
use Rattle.std.proofs.lemmas.Option.{same_Some}
use Rattle.std.proofs.lemmas.List.Elements.{All-weaker}
use Rattle.annex_base.specs.Lists.{Each, Member}
use Rattle.annex_base.specs.Bools.{same_bool}
use Rattle.annex_base.specs.declared.kinds.EntryStamp.{EntryStamp}
use Rattle.annex_base.proofs.Conditions.{eqb_refl, same_bool_is, same_bool_refl}
use Rattle.annex_base.proofs.Lists.{Member-filter_from, Member-flat_map}
use Rattle.annex_base.proofs.Numbers.{Member-range}
use Rattle.run_data.specs.declared.entry.By.TheVariants.{Job as by_job, Peer}
use Rattle.run_data.specs.declared.entry.Entry.{Entry}
use Rattle.run_data.specs.declared.entry.EntryKind.TheVariants as kinds
use Rattle.run_data.specs.declared.entry.FrameText.TheVariants.{Closing}
use Rattle.run_data.specs.declared.entry.FrameView.{FrameView}
use Rattle.run_data.specs.declared.row.Hold.{Hold}
use Rattle.object_store.specs.Stores.{Contents, Parts}
use Rattle.content_lock.specs.Rows.{Rows, bar_at}
use Rattle.link_ring.specs.Ends.{EndView}
use Rattle.node_model.specs.After.{state_after}
use Rattle.node_model.specs.Ends.{End, EndName, end_sends, end_took, frames, sent_at, taken_at}
use Rattle.node_model.specs.Look.{Effect}
use Rattle.node_model.specs.Rows.{bar_after, holds_after, keep_of}
use Rattle.node_model.specs.Sessions.{new_session, sends_close, session_after, session_goes, session_left}
use Rattle.node_model.specs.Sessions as sessions
use Rattle.node_model.specs.SetUp.{SetUp, others, served_connections, slots}
use Rattle.node_model.specs.Slots.{job_of}
use Rattle.node_model.specs.State.{State}
use Rattle.node_ends.specs.Ends.{IsEndOf, end_at, end_in, link_at}
use Rattle.node_ends.specs.Going.{AreAfter}
use Rattle.node_ends.specs.Joined.{StayPaired}
use Rattle.p2p_server.specs.declared.session.Session.{Session}
use Rattle.p2p_server.specs.Talking.{AreAfterStep}
use Rattle.node_sessions.specs.Serving.{closing_made, sessions_after}
use Rattle.node_sessions.specs.Sessions.{AreSessions, OwnAll, connection_of}
use Rattle.running_jobs.specs.Places.{IsPlace}
use Rattle.running_jobs.specs.Running.{AreAllFed as JobsFed, AreWorks, Jobs, fills_at}
use Rattle.node_crash.proofs.Ends.{same_or_other}
use Rattle.node_crash.proofs.Jobs.{no_jobs}
use Rattle.node_parts.specs.declared.done.Done.{Done}
use Rattle.node_parts.specs.Closing.{Shuts}
use Rattle.node_parts.specs.Parts.{AreAllFed, AreParts, HasLockRooms, PartsView}
use Rattle.node_parts.specs.Posting.{PostsPieces}
use Rattle.node_parts.specs.Sending.{PostsOnly}
use Rattle.node_parts.specs.Sound.{AreSound}
use Rattle.node_parts.specs.Steps.{Leaves, close_made, made_of}
use Rattle.node_parts.proofs.Going.{EndsGo, SessionsStay}
use Rattle.node_parts.proofs.Rooms.{none_at, rooms_closed, untouched}
use Rattle.node_parts.proofs.Served.{JobsStay}
use Rattle.node_parts.proofs.Sounding.{sound_after, there_still}

-- ---- each other repository has four sessions

served_slot : (peer slot : ℕ) → slot < 4 → Member {X = ℕ × ℕ} (peer, slot) (map (λ (n : ℕ). (peer, n)) slots)
served_slot peer zero low = inl refl
served_slot peer (suc zero) low = inr (inl refl)
served_slot peer (suc (suc zero)) low = inr (inr (inl refl))
served_slot peer (suc (suc (suc zero))) low = inr (inr (inr (inl refl)))
served_slot peer (suc (suc (suc (suc n)))) low = absurd (omega (arith, low))

other_is : (s : SetUp) (peer : ℕ) → peer < length s.repos → peer ≢ s.number → Member peer (others s)
other_is s peer known apart = elim (cases_Bool (peer == s.number)) [
  | inl same ↦ absurd (apart (eqb-true peer s.number same))
  | inr differs ↦ Member-filter_from (λ x. not (x == s.number)) (range_with_len 0 (length s.repos)) peer (Member-range 0 (length s.repos) peer (omega arith) (omega (arith, known))) (rw differs refl)
]

serves_end : (s : SetUp) (a : EndName) → IsEndOf s a → Member {X = ℕ × ℕ} (a.peer, a.slot) (served_connections s)
serves_end s a is = Member-flat_map (λ (peer : ℕ). map (λ (slot : ℕ). (peer, slot)) slots) (others s) a.peer (a.peer, a.slot) (other_is s a.peer is.peer is.other) (served_slot a.peer a.slot is.slot)

-- so of an end that may not be closed the connection isn't open
pub shut_end : (s : SetUp) (st : State) (a : EndName) (p : PartsView) → (Member {X = ℕ × ℕ} (a.peer, a.slot) (map connection_of p.sessions) → (end_at p.links a).opened ≡ false) → AreParts s st p → IsEndOf s a → (end_at p.links a).opened ≡ false
shut_end s st a p shut are is = shut (subst (λ (cs : List (ℕ × ℕ)). Member {X = ℕ × ℕ} (a.peer, a.slot) cs) (sym are.sessions.connections) (serves_end s a is))

-- ---- where the Close is

module _ (a : EndName) (c : End) where
  abbrev closing : List FrameView
  closing = frames a c (Closing ∷ [])

  own : same_bool a.client a.client ≡ true
  own = same_bool_refl a.client

  sent_here : sent_at a closing ≡ closing
  sent_here = rw (eqb_refl a.peer, eqb_refl a.slot, own) refl

  name_away : (b : EndName) → b ≢ a → ((a.peer == b.peer) && (a.slot == b.slot) && same_bool a.client b.client) ≡ false
  name_away b other = elim (cases_Bool ((a.peer == b.peer) && (a.slot == b.slot) && same_bool a.client b.client)) [
    | inl is ↦ absurd (other (sym (same_end a b is)))
    | inr away ↦ away
  ]
    where
      same_end : (a b : EndName) → ((a.peer == b.peer) && (a.slot == b.slot) && same_bool a.client b.client) ≡ true → a ≡ b
      same_end a b is =
          let p = and_parts ((a.peer == b.peer) && (a.slot == b.slot)) (same_bool a.client b.client) is in
          let q = and_parts (a.peer == b.peer) (a.slot == b.slot) p.0 in
          let peer = eqb-true a.peer b.peer q.0 in
          let slot = eqb-true a.slot b.slot q.1 in
          let client = same_bool_is a.client b.client p.1 in
          λ i. record { peer = peer i; slot = slot i; client = client i }

  sent_there : (b : EndName) → b ≢ a → sent_at b closing ≡ []
  sent_there b other = none_at b a c (Closing ∷ []) (name_away b other)

  closed_end : (d : End) (fs : List FrameView) → fs ≡ closing → (fold (λ (x : End) (f : FrameView). end_sends x f.body) d fs).opened ≡ false
  closed_end d fs is = ap (λ (gs : List FrameView). (fold (λ (x : End) (f : FrameView). end_sends x f.body) d gs).opened) is

-- ---- the sessions

client_away : (a b : EndName) → a.client ≡ true → b.client ≡ false → ((a.peer == b.peer) && (a.slot == b.slot) && same_bool a.client b.client) ≡ false
client_away a b client server = (λ i. ((a.peer == b.peer) && (a.slot == b.slot)) && same_bool (client i) (server i)) ∙ and-false ((a.peer == b.peer) && (a.slot == b.slot))

pub shuts_client : SessionsStay → (a : EndName) (xs : List Session) (rows : Rows) → a.client ≡ true → OwnAll rows xs → Shuts a xs xs rows rows
shuts_client stay a xs rows client own = record {
  sessions = λ s st e c are kind taken sent. stay s st e xs are (λ b server. (ap (taken_at b) taken, ap (sent_at b) sent ∙ none_at b a c (Closing ∷ []) (client_away a b client server)));
  after = record { holds = sym (ap (λ (b : Bool). if b then rows.holds else map (keep_of (Peer a.peer a.slot)) rows.holds) client); bars = λ key. refl };
  numbers = λ n all. all;
  owns = own;
  there = λ links there. there;
  others = λ by share other owns. owns;
  filled = λ others filled. filled;
  fed = λ q fed. fed;
  agrees = λ known agrees. agrees;
}

-- what the close of a server's end says of the sessions
abbrev pub ClosedSo : ℕ → ℕ → List Session → List Session → Type 0
ClosedSo peer slot xs xs' = (s : SetUp) (st : State) (c : End) → AreSessions s st.sessions xs → AreSessions s (sessions_after st (Some (closing_made peer slot c))) xs'

pub sessions_closed : (a : EndName) (xs xs' : List Session) → a.client ≡ false → ClosedSo a.peer a.slot xs xs'
    → (s : SetUp) (st : State) (e : Entry) (c : End) → AreSessions s st.sessions xs → e.kind ≡ kinds.Close a.peer a.slot a.client → e.taken ≡ None → e.sent ≡ frames a c (Closing ∷ []) → AreSessions s (state_after s st e).sessions xs'
sessions_closed a xs xs' server closed s st e c are kind taken sent =
    let k : kinds.Close a.peer a.slot false ≡ e.kind = ap (λ (b : Bool). kinds.Close a.peer a.slot b) (sym server) ∙ sym kind in
    let f : frames (record { peer = a.peer; slot = a.slot; client = false }) c (Closing ∷ []) ≡ e.sent = ap (λ (b : Bool). frames (record { peer = a.peer; slot = a.slot; client = b }) c (Closing ∷ [])) (sym server) ∙ sym sent in
    subst (λ (now : EndName → sessions.Session). AreSessions s now xs')
    (λ i. λ b. session_after st.content (k i) (st.sessions b) (sent_at b (f i)) (taken_at b (sym taken i)))
    (closed s st c are)

pub after_server : (a : EndName) (rows rows' : Rows) → a.client ≡ false → AreAfterStep (kinds.Close a.peer a.slot false) rows rows' → AreAfterStep (kinds.Close a.peer a.slot a.client) rows rows'
after_server a rows rows' server after = subst (λ (b : Bool). AreAfterStep (kinds.Close a.peer a.slot b) rows rows') (sym server) after

-- ---- the parts

-- jobs are those of the state after a close
stays_works : JobsStay → (s : SetUp) (st : State) (e : Entry) (p : PartsView) (a : EndName) → AreSound p → AreParts s st p → e.kind ≡ kinds.Close a.peer a.slot a.client → AreWorks s (state_after s st e) p.jobs
stays_works stay s st e p a sound are kind = stay s st e p.jobs p.table are.works sound.acting (ap job_of kind) (λ clock is. no_crash (sym kind ∙ is))
  where
    no_crash : {clock : ℕ} → kinds.Close a.peer a.slot a.client ≡ kinds.Crash clock → ⊥
    no_crash {clock} is = cc

module _ (was now : PartsView) (a : EndName) (d : Done) (sender : EntryStamp) (jobs : now.jobs ≡ was.jobs) (made : made_of d ≡ close_made a (end_at was.links a)) (shuts : Shuts a was.sessions now.sessions was.table now.table)
    (after : AreAfter was.links now.links d.taken d.sent) (posts : PostsOnly [] sender d.kind was.links now.links d.taken d.sent) where
  kind_is : d.kind ≡ kinds.Close a.peer a.slot a.client
  kind_is = ap (λ (m : Effect). m.kind) made

  taken_is : d.taken ≡ None
  taken_is = ap (λ (m : Effect). m.taken) made

  sent_is : d.sent ≡ closing a (end_at was.links a)
  sent_is = ap (λ (m : Effect). m.sent) made

  -- each other end is as it was
  end_or : (b : EndName) → (link_at now.links b ≡ link_at was.links b) ⊎ ((end_at now.links b).opened ≡ false)
  end_or b = elim (same_or_other b a) [
    | inl same ↦ inr
        (ap (λ (c : End). c.opened) (after.ends b)
        ∙ closed_end a (end_at was.links a) (end_took (end_at was.links b) (taken_at b d.taken)) (sent_at b d.sent) (ap (sent_at b) sent_is ∙ (ap (λ (x : EndName). sent_at x (closing a (end_at was.links a))) same ∙ sent_here a (end_at was.links a))))
    | inr other ↦ inl (untouched sender d.kind was.links now.links d.taken d.sent posts.posts b (ap (taken_at b) taken_is) (ap (sent_at b) sent_is ∙ sent_there a (end_at was.links a) b other))
  ]

  pub opens_closed : (b : EndName) → (end_at now.links b).opened ≡ true → (end_at was.links b).opened ≡ true
  opens_closed b is = elim (end_or b) [
    | inl same ↦ ap (λ (o : Option EndView). (end_in o).opened) (sym same) ∙ is
    | inr shut ↦ absurd (true≢false (sym is ∙ shut))
  ]

  module _ (s : SetUp) (st : State) (e : Entry) (are : AreParts s st was) (kind : e.kind ≡ d.kind) (taken : e.taken ≡ d.taken) (sent : e.sent ≡ d.sent) where
    entry_kind : e.kind ≡ kinds.Close a.peer a.slot a.client
    entry_kind = kind ∙ kind_is

    entry_taken : e.taken ≡ None
    entry_taken = taken ∙ taken_is

    entry_sent : e.sent ≡ closing a (end_at was.links a)
    entry_sent = sent ∙ sent_is

    after_entry : AreAfter was.links now.links e.taken e.sent
    after_entry = subst (λ (o : Option FrameView). AreAfter was.links now.links o e.sent) (sym taken) (subst (λ (fs : List FrameView). AreAfter was.links now.links d.taken fs) (sym sent) after)

    -- the session of a server's end that is closed is new
    new_there : (b : EndName) → b.client ≡ false → ((state_after s st e).ends b).opened ≡ false → (state_after s st e).sessions b ≡ new_session
    new_there b server shut = elim (same_or_other b a) [
      | inl same ↦
          let here : sent_at b e.sent ≡ closing a (end_at was.links a) = ap (sent_at b) entry_sent ∙ (ap (λ (x : EndName). sent_at x (closing a (end_at was.links a))) same ∙ sent_here a (end_at was.links a)) in
          ap (λ (fs : List FrameView). session_left (sends_close fs) (session_goes st.content e.kind (st.sessions b) fs (taken_at b e.taken))) here
      | inr other ↦
          let none : sent_at b e.sent ≡ [] = ap (sent_at b) entry_sent ∙ sent_there a (end_at was.links a) b other in
          let no_frame : taken_at b e.taken ≡ None = ap (taken_at b) entry_taken in
          let stays : (state_after s st e).sessions b ≡ st.sessions b = (λ i. session_after st.content e.kind (st.sessions b) (none i) (no_frame i)) in
          let stands : (state_after s st e).ends b ≡ st.ends b = (λ i. fold (λ (x : End) (f : FrameView). end_sends x f.body) (end_took (st.ends b) (no_frame i)) (none i)) in
          stays ∙ are.closed b server (ap (λ (x : End). x.opened) (sym stands) ∙ shut)
    ]

    pub parts_closed : EndsGo → JobsStay → AreSound was → AreParts s (state_after s st e) now
    parts_closed go stay sound = record {
      place = subst (λ (j : Jobs). IsPlace j.place s) (sym jobs) are.place;
      holds = shuts.after.holds ∙ (λ i. holds_after (are.holds i) (sym entry_kind i));
      bars = λ key. shuts.after.bars key ∙ (λ i. bar_after key (are.bars key i) (sym entry_kind i));
      ends = go was.links now.links s st e are.ends after_entry;
      each = λ b. ap (λ (c : End). fold (λ (x : End) (f : FrameView). end_sends x f.body) (end_took c (taken_at b e.taken)) (sent_at b e.sent)) (are.each b) ∙ sym (after_entry.ends b);
      sessions = shuts.sessions s st e (end_at was.links a) are.sessions entry_kind entry_taken entry_sent;
      closed = new_there;
      works = subst (AreWorks s (state_after s st e)) (sym jobs) (stays_works stay s st e was a sound are entry_kind);
      rooms = subst (λ (j : Jobs). Each (HasLockRooms now.links j.place.number) j.running) (sym jobs) (rooms_closed was.links now.links was.jobs.place.number was.jobs.running end_or are.rooms);
      logs = refl;
    }

  pub leaves_closed : (number : ℕ) → All (λ h. h.number < number) was.table.holds → Leaves number was now d
  leaves_closed number few = record {
    holds = shuts.after.holds ∙ ap (holds_after was.table.holds) (sym kind_is);
    bars = λ key. shuts.after.bars key ∙ ap (bar_after key (bar_at was.table key)) (sym kind_is);
    numbers = shuts.numbers (number + 1) (All-weaker (λ (x : Hold). x.number < number) (λ (x : Hold). x.number < number + 1) (λ x low. omega (arith, low)) was.table.holds few);
    ends = after;
  }

  pub pieces_closed : (known : Option Contents) → PostsPieces sender d.kind was known now.links d.taken d.sent
  pieces_closed known = record { posts = posts.posts; pieces = λ b bytes among. absurd (posts.pieces b bytes among); senders = λ b bytes among client. absurd (posts.pieces b bytes among) }

  pub fed_closed : (q : Parts) → AreAllFed q was → AreAllFed q now
  fed_closed q fed = record { serving = shuts.fed q fed.serving; acting = subst (λ (j : Jobs). JobsFed q j.running) (sym jobs) fed.acting }

pub sound_closed : (was : PartsView) (links : List EndView) (xs : List Session) (table : Rows) (a : EndName) → AreSound was → Shuts a was.sessions xs was.table table → StayPaired was.links links → length links ≡ length was.links → AreSound (record { table = table; links = links; sessions = xs; jobs = was.jobs })
sound_closed was links xs table a sound shuts paired count =
    sound_after was table links xs sound count (there_still was.links links xs paired (shuts.there was.links sound.there)) shuts.owns (shuts.filled (fills_at was.jobs.running) sound.filled) shuts.after.bars
    (λ job share owns. shuts.others (by_job job) share (no_jobs was.sessions job) owns)

-- ---- what was made

pub for_one : {X : Type 0} (P : X → Type 0) (x : X) → P x → ForSome (Some x) P
for_one P x p y is = subst P (same_Some x y is) p
