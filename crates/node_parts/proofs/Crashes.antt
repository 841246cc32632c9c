-- What a crash sends at the ends, and what it leaves of the parts.
use Rattle.std.proofs.Common.{◌≡◌, ◌≢◌, ◌⊎◌, inl, inr, ℕ, ◌<◌, ◌+◌, Bool, true, false, if◌then◌else◌, List, [], ◌∷◌, ◌++◌, Option, None, length, refl, sym, ap, subst, ◌∙◌, arith}
use Rattle.std.specs.Prelude.{◌==◌, ◌&&◌, ◌||◌, All, flat_map, fold}
use Rattle.std.proofs.Math.Bool.{or-true}
use Rattle.std.proofs.lemmas.Bool.{and_parts, cases_Bool, eqb-true}
use Rattle.std.proofs.lemmas.List.{length-map}
use Rattle.std.proofs.lemmas.List.Elements.{All-map, All-weaker, filter-append}
use Rattle.annex_base.specs.Bools.{same_bool}
use Rattle.annex_base.specs.Lists.{Each, Member}
use Rattle.annex_base.specs.declared.kinds.EntryStamp.{EntryStamp}
use Rattle.annex_base.proofs.Conditions.{eqb_refl, same_bool_is, same_bool_refl}
use Rattle.run_data.specs.declared.entry.Entry.{Entry}
use Rattle.run_data.specs.declared.entry.EntryKind.TheVariants.{Crash}
use Rattle.run_data.specs.declared.entry.FrameText.TheVariants.{Closing}
use Rattle.run_data.specs.declared.entry.FrameView.{FrameView}
use Rattle.run_data.specs.declared.row.Hold.{Hold}
use Rattle.run_data.specs.declared.run.RepoView.{RepoView}
use Rattle.object_store.specs.Stores.{Contents, Parts}
use Rattle.content_lock.specs.Rows.{Rows, bar_at}
use Rattle.link_ring.specs.Ends.{EndView}
use Rattle.node_model.specs.After.{state_after}
use Rattle.node_model.specs.AnyTime.{all_ends, close_at, closes_all}
use Rattle.node_model.specs.Ends.{End, EndName, end_sends, end_took, frames, sends_at, sent_at, taken_at}
use Rattle.node_model.specs.Rows.{bar_after, holds_after, restart}
use Rattle.node_model.specs.Sessions.{new_session, sends_close, session_after, session_goes, session_left}
use Rattle.node_model.specs.Sessions as sessions
use Rattle.node_model.specs.SetUp.{SetUp}
use Rattle.node_model.specs.Jobs.{works_after}
use Rattle.node_model.specs.Around.{around}
use Rattle.node_model.specs.Slots.{begun_after}
use Rattle.node_model.specs.State.{State}
use Rattle.node_ends.specs.declared.sending.Sending.TheVariants as sendings
use Rattle.node_ends.specs.Ends.{end_at, end_in}
use Rattle.node_ends.specs.Going.{AreAfter}
use Rattle.p2p_server.specs.declared.session.Session.{Session}
use Rattle.running_jobs.specs.Places.{IsPlace}
use Rattle.running_jobs.specs.Running.{AreAllFed as JobsFed, AreWorks, Jobs}
use Rattle.node_crash.specs.Closing.{CloseInTurn, ClosesAt, SendsCloses, all_names, shut_at}
use Rattle.node_crash.specs.Restarting.{Restarts}
use Rattle.node_crash.proofs.Ends.{same_or_other}
use Rattle.node_parts.specs.declared.done.Done.{Done}
use Rattle.node_parts.specs.Parts.{AreAllFed, AreParts, HasLockRooms, PartsView}
use Rattle.node_parts.specs.Posting.{PostsPieces}
use Rattle.node_parts.specs.Sending.{PostsOn, PostsOnly}
use Rattle.node_parts.specs.Sound.{AreSound}
use Rattle.node_parts.specs.Steps.{Leaves}
use Rattle.node_parts.proofs.Going.{EndsGo}
use Rattle.node_parts.proofs.Posts.{posts_nothing, posts_word}
use Rattle.node_parts.proofs.Rooms.{none_at}
use Rattle.node_parts.proofs.Sounding.{there_still}

-- ---- what is sent at one end

sent_own : (a : EndName) (c : End) → sent_at a (frames a c (Closing ∷ [])) ≡ frames a c (Closing ∷ [])
sent_own a c =
    let own : same_bool a.client a.client ≡ true = same_bool_refl a.client in rw (eqb_refl a.peer, eqb_refl a.slot, own) refl

name_apart : (a b : EndName) → b ≢ a → ((a.peer == b.peer) && (a.slot == b.slot) && same_bool a.client b.client) ≡ false
name_apart a b other = elim (cases_Bool ((a.peer == b.peer) && (a.slot == b.slot) && same_bool a.client b.client)) [
  | inl is ↦ absurd (other (sym (same_end a b is)))
  | inr away ↦ away
]
  where
    same_end : (a b : EndName) → ((a.peer == b.peer) && (a.slot == b.slot) && same_bool a.client b.client) ≡ true → a ≡ b
    same_end a b is =
        let p = and_parts ((a.peer == b.peer) && (a.slot == b.slot)) (same_bool a.client b.client) is in
        let q = and_parts (a.peer == b.peer) (a.slot == b.slot) p.0 in
        let peer = eqb-true a.peer b.peer q.0 in
        let slot = eqb-true a.slot b.slot q.1 in
        let client = same_bool_is a.client b.client p.1 in
        λ i. record { peer = peer i; slot = slot i; client = client i }

sends_close_later : (xs ys : List FrameView) → sends_close ys ≡ true → sends_close (xs ++ ys) ≡ true
sends_close_later [] ys is = is
sends_close_later (x ∷ xs) ys is = ap (λ (b : Bool). sessions.is_closing x.body || b) (sends_close_later xs ys is) ∙ or-true (sessions.is_closing x.body)

among_or : (b : EndName) (names : List EndName) → Member b names ⊎ Each (λ a. b ≢ a) names
among_or b [] = inr tt
among_or b (a ∷ names) = elim (same_or_other b a) [
  | inl same ↦ inl (inl same)
  | inr other ↦ elim (among_or b names) [ inl later ↦ inl (inr later) | inr away ↦ inr (other, away) ]
]

module _ (links : List EndView) (b : EndName) where
  abbrev shuts : List EndName → List FrameView
  shuts names = flat_map (shut_at links) names

  -- an end that is open sends its Close
  closes_here : (names : List EndName) → Member b names → (end_at links b).opened ≡ true → sends_close (sent_at b (shuts names)) ≡ true
  closes_here [] among opened = absurd among
  closes_here (a ∷ names) (inl same) opened =
      ap sends_close (filter-append (sends_at b) (shut_at links a) (shuts names))
      ∙ (ap (λ (x : EndName). sends_close (sent_at b (shut_at links x) ++ sent_at b (shuts names))) (sym same)
      ∙ (ap (λ (t : Bool). sends_close (sent_at b (if t then frames b (end_at links b) (Closing ∷ []) else []) ++ sent_at b (shuts names))) opened
      ∙ ap (λ (fs : List FrameView). sends_close (fs ++ sent_at b (shuts names))) (sent_own b (end_at links b))))
  closes_here (a ∷ names) (inr later) opened =
      ap sends_close (filter-append (sends_at b) (shut_at links a) (shuts names)) ∙ sends_close_later (sent_at b (shut_at links a)) (sent_at b (shuts names)) (closes_here names later opened)

  silent : (a : EndName) → (end_at links b).opened ≡ false → sent_at b (shut_at links a) ≡ []
  silent a shut = elim (same_or_other b a) [
    | inl same ↦ ap (λ (x : EndName). sent_at b (shut_at links x)) (sym same) ∙ ap (λ (t : Bool). sent_at b (if t then frames b (end_at links b) (Closing ∷ []) else [])) shut
    | inr other ↦ away (end_at links a).opened other
  ]
    where
      away : (t : Bool) → b ≢ a → sent_at b (if t then frames a (end_at links a) (Closing ∷ []) else []) ≡ []
      away true other = none_at b a (end_at links a) (Closing ∷ []) (name_apart a b other)
      away false other = refl

  -- another one sends nothing
  none_here : (names : List EndName) → (end_at links b).opened ≡ false → sent_at b (shuts names) ≡ []
  none_here [] shut = refl
  none_here (a ∷ names) shut =
      filter-append (sends_at b) (shut_at links a) (shuts names)
      ∙ (ap (λ (fs : List FrameView). fs ++ sent_at b (shuts names)) (silent a shut) ∙ none_here names shut)

-- ---- what is posted

posts_close : (a : EndName) (sender : EntryStamp) (was now : List EndView) (sent sent' : List FrameView) → ClosesAt a sender was now sent sent' → PostsOn sender was now sent sent'
posts_close a sender was now sent sent' (inl still) = λ answers kind first taken before.
    subst (λ (links : List EndView). PostsOnly answers sender kind first links taken sent') (sym still.0) (subst (λ (fs : List FrameView). PostsOnly answers sender kind first was taken fs) (sym still.1) before)
posts_close a sender was now sent sent' (inr closes) = λ answers kind first taken before.
    subst (λ (fs : List FrameView). PostsOnly answers sender kind first now taken fs) (sym closes.2) (posts_word answers sender kind first was taken sent before now a sendings.Close (λ bytes piece. absurd cc) None refl closes.0 closes.1)

posts_turns : (names : List EndName) (sender : EntryStamp) (was now : List EndView) (sent sent' : List FrameView) → CloseInTurn names sender was now sent sent' → PostsOn sender was now sent sent'
posts_turns [] sender was now sent sent' turns = posts_close (record { peer = 0; slot = 0; client = false }) sender was now sent sent' (inl turns)
posts_turns (a ∷ names) sender was now sent sent' turns = λ answers kind first taken before.
    posts_turns names sender turns.0 now turns.1 sent' turns.3 answers kind first taken (posts_close a sender was turns.0 sent turns.1 turns.2 answers kind first taken before)

-- ---- the parts

-- the law of ends that took and sent nothing
abbrev pub EndsBegin : Type 0
EndsBegin = (links : List EndView) → AreAfter links links None []

module _ (was now : PartsView) (clock : ℕ) (d : Done) (sender : EntryStamp) (jobs : now.jobs ≡ record was.jobs { running = [] }) (kind : d.kind ≡ Crash clock) (taken : d.taken ≡ None)
    (sends : SendsCloses (all_names was.jobs.place.number (length was.jobs.place.ids)) sender was.links now.links [] d.sent) (goes : Restarts clock was.sessions now.sessions was.jobs was.table now.table) (begin : EndsBegin) where
  abbrev names : List EndName
  names = all_names was.jobs.place.number (length was.jobs.place.ids)

  after_all : AreAfter was.links now.links d.taken d.sent
  after_all = subst (λ (o : Option FrameView). AreAfter was.links now.links o d.sent) (sym taken) (sends.after was.links None (begin was.links))

  pub pieces_crashed : (known : Option Contents) → PostsPieces sender d.kind was known now.links d.taken d.sent
  pieces_crashed known = record { posts = posts.posts; pieces = λ b bytes among. absurd (posts.pieces b bytes among); senders = λ b bytes among client. absurd (posts.pieces b bytes among) }
    where
      posts : PostsOnly [] sender d.kind was.links now.links d.taken d.sent
      posts = subst (λ (o : Option FrameView). PostsOnly [] sender d.kind was.links now.links o d.sent) (sym taken)
          (posts_turns names sender was.links now.links [] d.sent sends.turns [] d.kind was.links None (posts_nothing was.links was.links refl [] sender d.kind))

  pub leaves_crashed : (number : ℕ) → All (λ h. h.number < number) was.table.holds → Leaves number was now d
  leaves_crashed number few = record {
    holds = goes.holds ∙ ap (holds_after was.table.holds) (sym kind);
    bars = λ key. goes.bars key ∙ ap (bar_after key (bar_at was.table key)) (sym kind);
    numbers = subst (All (λ (h : Hold). h.number < number + 1)) (sym goes.holds)
        (All-map (λ (h : Hold). h.number < number + 1) (restart clock) was.table.holds (All-weaker (λ (x : Hold). x.number < number) (λ (x : Hold). x.number < number + 1) (λ x low. omega (arith, low)) was.table.holds few));
    ends = after_all;
  }

  pub fed_crashed : (q : Parts) → AreAllFed q was → AreAllFed q now
  fed_crashed q fed = record { serving = goes.fed q fed.serving; acting = subst (λ (j : Jobs). JobsFed q j.running) (sym jobs) tt }

  module _ (s : SetUp) (st : State) (are : AreParts s st was) where
    count_is : length was.jobs.place.ids ≡ length s.repos
    count_is = ap (λ (l : List (List ℕ)). length l) (sym are.place.ids) ∙ length-map s.repos (λ (repo : RepoView). repo.id)

    names_are : names ≡ all_ends s
    names_are = (λ i. all_names (sym are.place.number i) (count_is i))

    closes_are : (ends : List EndName) → flat_map (shut_at was.links) ends ≡ flat_map (close_at s st) ends
    closes_are [] = refl
    closes_are (a ∷ ends) =
        ap (λ (c : End). (if c.opened then frames a c (Closing ∷ []) else []) ++ flat_map (shut_at was.links) ends) (sym (are.each a)) ∙ ap (λ (fs : List FrameView). close_at s st a ++ fs) (closes_are ends)

    pub sent_crashed : d.sent ≡ closes_all s st
    sent_crashed = sends.listed ∙ (ap (flat_map (shut_at was.links)) names_are ∙ closes_are (all_ends s))

    module _ (e : Entry) (kind_is : e.kind ≡ d.kind) (taken_is : e.taken ≡ d.taken) (sent_is : e.sent ≡ d.sent) where
      entry_kind : e.kind ≡ Crash clock
      entry_kind = kind_is ∙ kind

      entry_taken : e.taken ≡ None
      entry_taken = taken_is ∙ taken

      entry_sent : e.sent ≡ flat_map (shut_at was.links) names
      entry_sent = sent_is ∙ sends.listed

      after_entry : AreAfter was.links now.links e.taken e.sent
      after_entry = subst (λ (o : Option FrameView). AreAfter was.links now.links o e.sent) (sym taken_is) (subst (λ (fs : List FrameView). AreAfter was.links now.links d.taken fs) (sym sent_is) after_all)

      each_end : (b : EndName) → (state_after s st e).ends b ≡ end_at now.links b
      each_end b = ap (λ (c : End). fold (λ (x : End) (f : FrameView). end_sends x f.body) (end_took c (taken_at b e.taken)) (sent_at b e.sent)) (are.each b) ∙ sym (after_entry.ends b)

      -- the session of an end that wasn't open stays new
      stays_new : (b : EndName) → b.client ≡ false → (end_at was.links b).opened ≡ false → (state_after s st e).sessions b ≡ new_session
      stays_new b server shut =
          let none : sent_at b e.sent ≡ [] = ap (sent_at b) entry_sent ∙ none_here was.links b names shut in
          let no_frame : taken_at b e.taken ≡ None = ap (taken_at b) entry_taken in
          let stays : (state_after s st e).sessions b ≡ st.sessions b = (λ i. session_after st.content e.kind (st.sessions b) (none i) (no_frame i)) in
          stays ∙ are.closed b server (ap (λ (c : End). c.opened) (are.each b) ∙ shut)

      new_here : (b : EndName) → b.client ≡ false → Member b names → (state_after s st e).sessions b ≡ new_session
      new_here b server among = elim (cases_Bool (end_at was.links b).opened) [
        | inl opened ↦
            let closes : sends_close (sent_at b e.sent) ≡ true = ap (λ (fs : List FrameView). sends_close (sent_at b fs)) entry_sent ∙ closes_here was.links b names among opened in
            ap (λ (t : Bool). session_left t (session_goes st.content e.kind (st.sessions b) (sent_at b e.sent) (taken_at b e.taken))) closes
        | inr shut ↦ stays_new b server shut
      ]

      new_there : (b : EndName) → b.client ≡ false → ((state_after s st e).ends b).opened ≡ false → (state_after s st e).sessions b ≡ new_session
      new_there b server shut = elim (among_or b names) [
        | inl among ↦ new_here b server among
        | inr away ↦ stays_new b server (ap (λ (o : Option EndView). (end_in o).opened) (sym (sends.others b away)) ∙ (ap (λ (c : End). c.opened) (sym (each_end b)) ∙ shut))
      ]

      works : AreWorks s (state_after s st e) (record was.jobs { running = [] })
      works = record {
        works = ap (works_after (around s st) s.number st.works e) entry_kind;
        begun = ap (begun_after st.begun) entry_kind ∙ are.works.begun;
        read = tt;
      }

      pub parts_crashed : EndsGo → AreParts s (state_after s st e) now
      parts_crashed go = record {
        place = subst (λ (j : Jobs). IsPlace j.place s) (sym jobs) are.place;
        holds = goes.holds ∙ (λ i. holds_after (are.holds i) (sym entry_kind i));
        bars = λ key. goes.bars key ∙ (λ i. bar_after key (st.bar key) (sym entry_kind i));
        ends = go was.links now.links s st e are.ends after_entry;
        each = each_end;
        sessions = goes.sessions s st.sessions (state_after s st e).sessions are.sessions (λ a server among. new_here a server (subst (Member a) (sym names_are) among));
        closed = new_there;
        works = subst (AreWorks s (state_after s st e)) (sym jobs) works;
        rooms = subst (λ (j : Jobs). Each (HasLockRooms now.links j.place.number) j.running) (sym jobs) tt;
        logs = refl;
      }

pub sound_crashed : (was : PartsView) (links : List EndView) (xs : List Session) (table : Rows) (jobs : Jobs) (clock : ℕ) (sender : EntryStamp) (sent : List FrameView) → jobs ≡ record was.jobs { running = [] } → AreSound was
    → SendsCloses (all_names was.jobs.place.number (length was.jobs.place.ids)) sender was.links links [] sent → Restarts clock was.sessions xs was.jobs was.table table → AreSound (record { table = table; links = links; sessions = xs; jobs = jobs })
sound_crashed was links xs table jobs clock sender sent same sound sends goes =
    subst (λ (j : Jobs). AreSound (record { table = table; links = links; sessions = xs; jobs = j })) (sym same) (record {
      count = sends.count ∙ sound.count;
      there = there_still was.links links xs sends.paired (goes.there was.links sound.there);
      serving = goes.serving;
      acting = goes.acting;
      filled = goes.filled;
    })
