-- A job that takes an answer whose word it keeps isn't as it was.
use Rattle.std.proofs.Common.{◌≡◌, ◌⊎◌, inl, inr, ℕ, Bool, true, false, List, [], ◌∷◌, Option, Some, None, refl, sym, ap, ◌∙◌, subst, true≢false}
use Rattle.std.specs.Prelude.{◌==◌, ◌&&◌, find, fold, if◌then◌else◌}
use Rattle.std.specs.List.{list_all}
use Rattle.std.proofs.lemmas.Bool.{and_parts, eqb-true}
use Rattle.std.specs.Option.{option_or}
use Rattle.annex_base.proofs.Conditions.{eqb_refl, if_either, if_turned, same_bool_refl}
use Rattle.annex_base.proofs.Lists.{find_member}
use Rattle.annex_base.specs.Lists.{Member}
use Rattle.annex_base.specs.declared.kinds.Call.{Call}
use Rattle.annex_base.specs.declared.kinds.Call.TheVariants.{PutFile}
use Rattle.run_data.specs.declared.entry.Entry.{Entry}
use Rattle.run_data.specs.declared.entry.EntryKind.TheVariants.{Fault, Log, Talk}
use Rattle.run_data.specs.declared.entry.FrameText.{FrameText}
use Rattle.run_data.specs.declared.entry.FrameText.TheVariants.{Bytes, Closing, Line, Opening}
use Rattle.run_data.specs.declared.entry.FrameView.{FrameView}
use Rattle.run_data.specs.declared.entry.LogFile.TheVariants.{Location}
use Rattle.run_data.specs.declared.job.Cause.TheVariants as causes
use Rattle.run_data.specs.declared.job.DropRefusal.TheVariants as refusals
use Rattle.run_data.specs.declared.job.Outcome.TheVariants as outcomes
use Rattle.p2p_wire.specs.declared.message.Message.{Message}
use Rattle.p2p_wire.specs.declared.message.Message.TheVariants.{Failure, Success}
use Rattle.p2p_wire.specs.Messages.{message_of}
use Rattle.run_model.specs.Past.{is_of}
use Rattle.run_model.specs.States.{rows_at, state_of, works}
use Rattle.node_model.specs.Ends.{End, EndName, end_after, end_sends, end_takes, end_took, frames, may_take, sent_at, server_end, taken_at, takes_at}
use Rattle.node_model.specs.Found.{ByJob, JobTakes, StepFound}
use Rattle.node_model.specs.Jobs
use Rattle.node_model.specs.Jobs.{AsksLook, Drops, Gets, Orders, Part, Phase, Puts, RowsAndEnds, Work, claims, closed_part, hears_frame, job_end, learns, listens, partner, target_of, after_frame, after_line, talks, talks_on, work_after, work_kind}
use Rattle.node_model.specs.JobStep.{Turn, end_with, hears, quietly, talk, turn_of, wrong_message}
use Rattle.node_model.specs.Look.{Look, Effect, failing_call, unless, waiting_frame}
use Rattle.node_model.specs.OwedLines.{OwedLine, due}
use Rattle.node_model.specs.OwedStep.{owed_step, pays_first}
use Rattle.node_model.specs.Rows.{option_is}
use Rattle.node_model.specs.SessionStep.{Reply, gives_made, gives_next, here, on_frame, reply_made, session_at, session_makes, session_step}
use Rattle.node_model.specs.Sessions.{line_in}
use Rattle.node_model.specs.SetUp.{SetUp, served_connections, slots}
use Rattle.node_model.specs.Slots.{RunningJob, is_begin, job_of}
use Rattle.node_model.specs.State.{State}
use Rattle.node_model.specs.Step.{step}
use Rattle.node_model.specs.Turns.{awaits, by_partner, goes, goes_on, has_room, is_awaiting, job_step, needs, slot_step, takes, takes_answer, takes_frame, takes_text, with_partner}
use Rattle.run_laws.specs.Jobs.{AreJobs, TakesAnswer, keeps_word}
use Rattle.link_flights.proofs.ActingJobs.{StepLaws, steps_begin_none}
use Rattle.link_flights.proofs.JobMoves.{claims_like, learns_like}
use Rattle.link_flights.proofs.Naming.{takes_end}
use Rattle.link_flights.proofs.WordsHeard.{came_of, keeps_none, own_works}
use Rattle.annex_base.proofs.Options.{first_some-was, none_and_some, option_or-was}

goes_up : (b : Bool) → (if b then false else true) ≡ false → b ≡ true
goes_up true e = refl
goes_up false e = absurd (true≢false e)

-- ---- cases of what a step may be

-- a frame that waits comes to the end
waits_at : (c : End) (k : Look) (a : EndName) (f : FrameView) → waiting_frame c k a ≡ Some f → takes_at a f ≡ true
waits_at c k a f e = (and_parts (takes_at a f) (may_take c f) (find_member (λ g. takes_at a g && may_take c g) k.at_hand f e).1).0

-- ---- the step that takes a frame

-- the job in a slot took it of its partner
pub record TookBy (s : SetUp) (st : State) (k : Look) (m : Effect) (f : FrameView) : Type 0 where
  pub w : Work
  pub slot : ℕ
  pub runs : find (λ w. w.slot == slot) st.works ≡ Some w
  pub peer : ℕ
  pub on : partner w.what.peer w.phase ≡ Some peer
  pub of_end : takes_at (job_end w peer) f ≡ true
  pub made : m ≡ takes_frame (turn_of s st k w) peer f f.body

-- an owed line takes none
owed_none : (s : SetUp) (st : State) (k : Look) (m : Effect) (os : List OwedLine) → pays_first s st k os ≡ Some m → m.taken ≡ None
owed_none s st k m [] e = absurd (cc)
owed_none s st k m (o ∷ os) e = go (failing_call k.fails (PutFile ∷ [])) e
  where
    go : (c : Option Call) → Some (unless c (λ call. record { kind = Fault call o.by; taken = None; sent = []; lines = []; calls = PutFile ∷ [] })
        (record { kind = Log (Location o.key); taken = None; sent = []; lines = due s.repos st.lines (st.wall k.time) o; calls = PutFile ∷ [] })) ≡ Some m → m.taken ≡ None
    go None g = let same : record { kind = Log (Location o.key); taken = None; sent = []; lines = due s.repos st.lines (st.wall k.time) o; calls = PutFile ∷ [] } ≡ m = cc in sym (ap (λ (z : Effect). z.taken) same)
    go (Some call) g = let same : record { kind = Fault call o.by; taken = None; sent = []; lines = []; calls = PutFile ∷ [] } ≡ m = cc in sym (ap (λ (z : Effect). z.taken) same)

module _ (laws : StepLaws) (s : SetUp) (st : State) (k : Look) (m : Effect) (f : FrameView) (took : m.taken ≡ Some f) where
  module _ (slot : ℕ) (w : Work) (runs : find (λ w. w.slot == slot) st.works ≡ Some w) where
    abbrev t : Turn
    t = turn_of s st k w

    on_none : (partner w.what.peer w.phase ≡ None) ⊎ (is_awaiting w.phase ≡ false) → goes_on (turn_of s st k w) ≡ Some m → m.taken ≡ None
    on_none free e = go (list_all (has_room t) (needs t w.phase)) e
      where
        go : (b : Bool) → (if b then Some (goes (turn_of s st k w) w.phase) else None) ≡ Some m → m.taken ≡ None
        go false h = absurd (cc)
        go true h = let same : goes (turn_of s st k w) w.phase ≡ m = cc in subst (λ (z : Effect). z.taken ≡ None) same (laws.goes (turn_of s st k w) free)

    awaits_took : (peer : ℕ) → partner w.what.peer w.phase ≡ Some peer → (o : Option FrameView) → waiting_frame (end_with (turn_of s st k w) peer) k (job_end w peer) ≡ o
        → awaits (turn_of s st k w) peer o ≡ Some m → TookBy s st k m f
    awaits_took peer on None i e = absurd (cc)
    awaits_took peer on (Some g) i e = go (has_room t peer) e
      where
        go : (b : Bool) → (if b then Some (takes_frame (turn_of s st k w) peer g g.body) else None) ≡ Some m → TookBy s st k m f
        go false h = absurd (cc)
        go true h =
            let made : takes_frame (turn_of s st k w) peer g g.body ≡ m = cc in
            let one : Some g ≡ Some f = sym (laws.takes (turn_of s st k w) peer g on) ∙ ap (λ (z : Effect). z.taken) made ∙ took in
            let same : g ≡ f = cc in
            record {
              w = w;
              slot = slot;
              runs = runs;
              peer = peer;
              on = on;
              of_end = subst (λ (h : FrameView). takes_at (job_end w peer) h ≡ true) same (waits_at (end_with (turn_of s st k w) peer) k (job_end w peer) g i);
              made = sym made ∙ ap (λ (h : FrameView). takes_frame (turn_of s st k w) peer h h.body) same;
            }

    slot_took : slot_step s st k (Some w) ≡ Some m → TookBy s st k m f
    slot_took e = go (partner w.what.peer w.phase) refl e
      where
        more : (peer : ℕ) → partner w.what.peer w.phase ≡ Some peer → (b : Bool) → is_awaiting w.phase ≡ b
            → (if b then awaits (turn_of s st k w) peer (waiting_frame (end_with (turn_of s st k w) peer) k (job_end w peer)) else goes_on (turn_of s st k w)) ≡ Some m → TookBy s st k m f
        more peer on true i h = awaits_took peer on (waiting_frame (end_with (turn_of s st k w) peer) k (job_end w peer)) refl h
        more peer on false i h = absurd (none_and_some m.taken f (on_none (inr i) h) took)

        at : (peer : ℕ) → partner w.what.peer w.phase ≡ Some peer → (b : Bool) → with_partner (turn_of s st k w) peer b ≡ Some m → TookBy s st k m f
        at peer on false h = let same : quietly (talk (turn_of s st k w)) None ≡ m = cc in absurd (none_and_some m.taken f (sym (ap (λ (z : Effect). z.taken) same)) took)
        at peer on true h = more peer on (is_awaiting w.phase) refl h

        go : (p : Option ℕ) → partner w.what.peer w.phase ≡ p → by_partner (turn_of s st k w) p ≡ Some m → TookBy s st k m f
        go None on h = absurd (none_and_some m.taken f (on_none (inl on) h) took)
        go (Some peer) on h = at peer on (end_with (turn_of s st k w) peer).opened h

  slots_took : (slot : ℕ) (o : Option Work) → find (λ w. w.slot == slot) st.works ≡ o → slot_step s st k o ≡ Some m → TookBy s st k m f
  slots_took slot None runs e = absurd (cc)
  slots_took slot (Some w) runs e = slot_took slot w runs e

  -- a session takes what goes up
  session_up : (a : EndName) → a.client ≡ false → session_at s st k a ≡ Some m → f.up ≡ true
  session_up a server e = go (k.room a) e
    where
      at : (o : Option FrameView) → waiting_frame (st.ends a) k a ≡ o → session_makes (here s st k a) (st.ends a) (st.sessions a) o ≡ Some m → f.up ≡ true
      at (Some g) i h =
          let made : reply_made a (end_takes (st.ends a) g.epoch g.body) (Some g) (on_frame (here s st k a) (st.sessions a) g.body) ≡ m = cc in
          let one : Some g ≡ Some f = ap (λ (z : Effect). z.taken) made ∙ took in
          let same : g ≡ f = cc in
          let comes : takes_at a f ≡ true = subst (λ (h : FrameView). takes_at a h ≡ true) same (waits_at (st.ends a) k a g i) in
          goes_up f.up (ap (λ (b : EndName). b.client) (takes_end a f comes) ∙ server)
      at None i h = none (st.ends a).opened h
        where
          given : (o : Option Reply) → gives_made a (st.ends a) o ≡ Some m → f.up ≡ true
          given None e = absurd (cc)
          given (Some x) e = let same : reply_made a (st.ends a) None x ≡ m = cc in absurd (none_and_some m.taken f (sym (ap (λ (z : Effect). z.taken) same)) took)

          none : (b : Bool) → (if b then gives_made a (st.ends a) (gives_next (here s st k a) (st.sessions a).doing) else None) ≡ Some m → f.up ≡ true
          none true g = given (gives_next (here s st k a) (st.sessions a).doing) g
          none false g = absurd (cc)

      go : (b : Bool) → (if b then session_makes (here s st k a) (st.ends a) (st.sessions a) (waiting_frame (st.ends a) k a) else None) ≡ Some m → f.up ≡ true
      go true h = at (waiting_frame (st.ends a) k a) refl h
      go false h = absurd (cc)

  -- a step that takes what goes down is a job's
  took_by : f.up ≡ false → step s st k ≡ Some m → TookBy s st k m f
  took_by down e = elim (option_or-was (owed_step s st k) (option_or (session_step s st k) (job_step s st k)) m e) [
    | inl o ↦ absurd (none_and_some m.taken f (owed_none s st k m st.owed o) took)
    | inr r ↦ elim (option_or-was (session_step s st k) (job_step s st k) m r) [
      | inl g ↦
          let x = first_some-was (λ (c : ℕ × ℕ). session_at s st k (server_end c.0 c.1)) (served_connections s) m g in
          absurd (true≢false (sym (session_up (server_end x.0.0 x.0.1) refl x.2) ∙ down))
      | inr g ↦
          let x = first_some-was (λ slot. slot_step s st k (find (λ w. w.slot == slot) st.works)) slots m g in
          slots_took x.0 (find (λ w. w.slot == x.0) st.works) refl x.2
    ]
  ]

-- ---- the job that made the entry

-- it is the one in its slot that took the frame
pub own_took : StepLaws → (s : SetUp) (st : State) (k : Look) (m : Effect) (f : FrameView) → step s st k ≡ Some m → m.taken ≡ Some f → AreJobs st.works → (w : Work) → Member w st.works → job_of m.kind ≡ Some w.number
    → (y : TookBy s st k m f) × (y.w ≡ w)
own_took laws s st k m f makes took jobs w there number = go (laws.finds s st k m makes)
  where
    by_job : (x : ByJob s st k m) → JobTakes (turn_of s st k x.w) m → (y : TookBy s st k m f) × (y.w ≡ w)
    by_job x z =
        let one : Some z.f ≡ Some f = sym z.taken_is ∙ took in
        let same : z.f ≡ f = cc in
        let comes : takes_at (job_end x.w z.peer) f ≡ true = subst (λ (g : FrameView). takes_at (job_end x.w z.peer) g ≡ true) same z.of_end in
        let at = takes_end (job_end x.w z.peer) f comes in
        let down : f.up ≡ false = if_turned f.up (ap (λ (b : EndName). b.client) at) in
        let y = took_by laws s st k m f took down makes in
        let there_x = find_member (λ (v : Work). v.slot == x.slot) st.works x.w x.runs in
        let there_y = find_member (λ (v : Work). v.slot == y.slot) st.works y.w y.runs in
        let slots_are : x.slot ≡ y.slot = sym (eqb-true x.w.slot x.slot there_x.1) ∙ sym (ap (λ (b : EndName). b.slot) at) ∙ ap (λ (b : EndName). b.slot) (takes_end (job_end y.w y.peer) f y.of_end) ∙ eqb-true y.w.slot y.slot there_y.1 in
        let both : Some x.w ≡ Some y.w = sym x.runs ∙ ap (λ (n : ℕ). find (λ (v : Work). v.slot == n) st.works) slots_are ∙ y.runs in
        let same_w : x.w ≡ y.w = cc in
        let numbers_are : Some x.w.number ≡ Some w.number = sym (laws.job s st k m x) ∙ number in
        let numbers : x.w.number ≡ w.number = cc in
        (y, sym same_w ∙ jobs.apart x.w w there_x.0 there numbers)

    go : StepFound s st k m → (y : TookBy s st k m f) × (y.w ≡ w)
    go (inl x) = elim (x.writes) [
      | inl y ↦ absurd (none_and_some m.taken f (ap (λ (z : Effect). z.taken) y) took)
      | inr y ↦ absurd (none_and_some m.taken f (ap (λ (z : Effect). z.taken) y) took)
    ]
    go (inr (inl x)) = absurd (none_and_some (job_of m.kind) w.number (laws.session s st k m x) number)
    go (inr (inr x)) = elim (x.frame) [ inl none ↦ absurd (none_and_some m.taken f none took) | inr z ↦ by_job x z ]

-- ---- what is made of such an answer

-- it is heard, or the connection is closed
abbrev HearsOrCloses : Turn → FrameView → ℕ → Effect → Type 0
HearsOrCloses t f peer m = (m ≡ hears t f) ⊎ (m ≡ wrong_message t f peer)

module _ (t : Turn) (f : FrameView) (peer : ℕ) where
  look_part : (p : ℕ) (part : Part) → HearsOrCloses t f peer (takes_answer t f peer part (AsksLook p) Failure)
  look_part p Drops = inl refl
  look_part p Gets = inr refl
  look_part p Puts = inr refl

  denied_part : (part : Part) → HearsOrCloses t f peer (takes_answer t f peer part Orders Failure)
  denied_part Drops = inl refl
  denied_part Gets = inr refl
  denied_part Puts = inr refl

  obeyed_part : (part : Part) → HearsOrCloses t f peer (takes_answer t f peer part Orders Success)
  obeyed_part Drops = inl refl
  obeyed_part Gets = inr refl
  obeyed_part Puts = inr refl

  look_made : (p : ℕ) (m : Message) → keeps_word (AsksLook p) (Some m) ≡ true → HearsOrCloses t f peer (takes t f peer (AsksLook p) m)
  look_made p Failure e = look_part p t.w.part
  look_made p m e = absurd (true≢false (sym e))

  order_made : (m : Message) → keeps_word Orders (Some m) ≡ true → HearsOrCloses t f peer (takes t f peer Orders m)
  order_made Failure e = denied_part t.w.part
  order_made Success e = obeyed_part t.w.part
  order_made m e = absurd (true≢false (sym e))

  phase_made : (phase : Phase) (m : Message) → keeps_word phase (Some m) ≡ true → HearsOrCloses t f peer (takes t f peer phase m)
  phase_made (AsksLook p) m e = look_made p m e
  phase_made Orders m e = order_made m e
  phase_made phase m e = absurd (true≢false (sym e))

  message_made : (o : Option Message) → keeps_word t.w.phase o ≡ true → HearsOrCloses t f peer (takes_text t f peer o)
  message_made None e = absurd (true≢false (sym e ∙ keeps_none t.w.phase))
  message_made (Some m) e = phase_made t.w.phase m e

  answer_made : (body : FrameText) → keeps_word t.w.phase (line_in body) ≡ true → HearsOrCloses t f peer (takes_frame t peer f body)
  answer_made Opening e = absurd (true≢false (sym e ∙ keeps_none t.w.phase))
  answer_made Closing e = absurd (true≢false (sym e ∙ keeps_none t.w.phase))
  answer_made (Bytes n) e = absurd (true≢false (sym e ∙ keeps_none t.w.phase))
  answer_made (Line text) e = message_made (message_of text) e

-- ---- where the job stands afterwards

-- it awaits an answer whose word it would keep
abbrev awaits_one : Phase → Bool
awaits_one (AsksLook peer) = true
awaits_one Orders = true
awaits_one phase = false

keeps_awaits : (phase : Phase) (o : Option Message) → keeps_word phase o ≡ true → awaits_one phase ≡ true
keeps_awaits (AsksLook peer) o e = refl
keeps_awaits Orders o e = refl
keeps_awaits phase None e = absurd (true≢false (sym e ∙ keeps_none phase))
keeps_awaits phase (Some m) e = absurd (true≢false (sym e))

module _ (rows : RowsAndEnds) (r : ℕ) (x : Work) where
  look_moved : (p : ℕ) (m : Message) → keeps_word (AsksLook p) (Some m) ≡ true → awaits_one (listens x (AsksLook p) m).phase ≡ false
  look_moved p Failure e = refl
  look_moved p m e = absurd (true≢false (sym e))

  order_moved : (m : Message) → keeps_word Orders (Some m) ≡ true → awaits_one (listens x Orders m).phase ≡ false
  order_moved Failure e = refl
  order_moved Success e = refl
  order_moved m e = absurd (true≢false (sym e))

  listens_moved : (phase : Phase) (m : Message) → keeps_word phase (Some m) ≡ true → awaits_one (listens x phase m).phase ≡ false
  listens_moved (AsksLook p) m e = look_moved p m e
  listens_moved Orders m e = order_moved m e
  listens_moved phase m e = absurd (true≢false (sym e))

  message_moved : (o : Option Message) → keeps_word x.phase o ≡ true → awaits_one (after_line x o).phase ≡ false
  message_moved None e = absurd (true≢false (sym e ∙ keeps_none x.phase))
  message_moved (Some m) e = listens_moved x.phase m e

  took_moved : (body : FrameText) → keeps_word x.phase (line_in body) ≡ true → awaits_one (after_frame x body).phase ≡ false
  took_moved Opening e = absurd (true≢false (sym e ∙ keeps_none x.phase))
  took_moved Closing e = absurd (true≢false (sym e ∙ keeps_none x.phase))
  took_moved (Bytes n) e = absurd (true≢false (sym e ∙ keeps_none x.phase))
  took_moved (Line text) e = message_moved (message_of text) e

  closed_moved : (peer : ℕ) (part : Part) → awaits_one (closed_part r x peer part).phase ≡ false
  closed_moved peer Gets = refl
  closed_moved peer Puts = refl
  closed_moved peer Drops = if_either (λ (y : Work). awaits_one y.phase ≡ false) (target_of r x == peer)
      (Jobs.to_phase x (Jobs.Ends (outcomes.Refused (refusals.Lost (Jobs.is_ordered x.phase))))) (Jobs.hears x peer (Jobs.Lacks causes.Closed)) (λ e. refl) (λ e. refl)

  -- a Close that is sent there closes the end
  shut : (a : EndName) (c d : End) → (fold (λ c f. end_sends c f.body) d (sent_at a (frames a c (Closing ∷ [])))).opened ≡ false
  shut a c d = rw (eqb_refl a.peer, eqb_refl a.slot, same_bool_refl a.client) refl

  -- it took the answer, and said nothing, or closed the connection
  on_moved : (e : Entry) (peer : ℕ) (f : FrameView) (c : End) → e.taken ≡ Some f → keeps_word x.phase (line_in f.body) ≡ true
      → (e.sent ≡ []) ⊎ (e.sent ≡ frames (job_end x peer) c (Closing ∷ [])) → awaits_one (talks_on rows r x e (Some peer)).phase ≡ false
  on_moved e peer f c took kept (inl none) = if_either (λ (y : Work). awaits_one y.phase ≡ false) (end_after (job_end x peer) (rows.ends (job_end x peer)) e).opened (talks rows r x e e.sent) (closed_part r x peer x.part)
      (λ h. subst (λ (fs : List FrameView). awaits_one (talks rows r x e fs).phase ≡ false) (sym none)
      (subst (λ (o : Option FrameView). awaits_one (hears_frame rows r x o).phase ≡ false) (sym took) (took_moved f.body kept)))
      (λ h. closed_moved peer x.part)
  on_moved e peer f c took kept (inr closes) = if_either (λ (y : Work). awaits_one y.phase ≡ false) (end_after (job_end x peer) (rows.ends (job_end x peer)) e).opened (talks rows r x e e.sent) (closed_part r x peer x.part)
      (λ h. absurd (true≢false (sym h ∙ closed)))
      (λ h. closed_moved peer x.part)
    where
      closed : (end_after (job_end x peer) (rows.ends (job_end x peer)) e).opened ≡ false
      closed = ap (λ (fs : List FrameView). (fold (λ c f. end_sends c f.body) (end_took (rows.ends (job_end x peer)) (taken_at (job_end x peer) e.taken)) (sent_at (job_end x peer) fs)).opened) closes
          ∙ shut (job_end x peer) c (end_took (rows.ends (job_end x peer)) (taken_at (job_end x peer) e.taken))

-- of an entry that talks alone
talk_moved : (rows : RowsAndEnds) (r : ℕ) (w : Work) (e : Entry) (peer : ℕ) (f : FrameView) (c : End) → e.taken ≡ Some f → keeps_word w.phase (line_in f.body) ≡ true → partner w.what.peer w.phase ≡ Some peer
    → (e.sent ≡ []) ⊎ (e.sent ≡ frames (job_end w peer) c (Closing ∷ [])) → awaits_one (work_kind rows r w e (Talk (Some w.number))).phase ≡ false
talk_moved rows r w e peer f c took kept on says =
    subst (λ (p : Option ℕ). awaits_one (talks_on rows r y e p).phase ≡ false) (sym on)
    (on_moved rows r y e peer f c took (ap (λ (q : Phase). keeps_word q (line_in f.body)) phase_is ∙ kept) (elim (says) [ inl none ↦ inl none | inr closes ↦ inr (closes ∙ ap (λ (a : EndName). frames a c (Closing ∷ [])) end_is) ]))
  where
    y : Work
    y = learns (claims w w.part w.phase) w.phase e.taken

    phase_is : y.phase ≡ w.phase
    phase_is = (learns_like (claims w w.part w.phase) w.phase e.taken).phase ∙ (claims_like w w.part w.phase).phase

    slot_is : w.slot ≡ y.slot
    slot_is = sym (ap (λ (j : RunningJob). j.slot) ((learns_like (claims w w.part w.phase) w.phase e.taken).same ∙ (claims_like w w.part w.phase).same))

    end_is : job_end w peer ≡ job_end y peer
    end_is = ap (λ (n : ℕ). record { peer = peer; slot = n; client = true }) slot_is

-- ---- the law

pub answers_move : StepLaws → (s : SetUp) (past : List Entry) (k : Look) (m : Effect) (e : Entry) (w v : Work) (f : FrameView) → step s (state_of s past) k ≡ Some m → is_of s.number e ≡ true → e.kind ≡ m.kind
    → e.taken ≡ m.taken → e.sent ≡ m.sent → AreJobs (works past s.number) → Member w (works past s.number) → Member v (works (e ∷ past) s.number) → v.number ≡ w.number → TakesAnswer w e f
    → v.phase ≡ w.phase → ⊥
answers_move laws s past k m e w v f makes own kind taken sent jobs there there' number t same = true≢false (sym (ap awaits_one same ∙ keeps_awaits w.phase (line_in f.body) t.kept) ∙ moved)
  where
    y : (y : TookBy s (state_of s past) k m f) × (y.w ≡ w)
    y = own_took laws s (state_of s past) k m f makes (sym taken ∙ t.taken) jobs w there (ap job_of (sym kind) ∙ t.made)

    on : partner w.what.peer w.phase ≡ Some y.0.peer
    on = subst (λ (u : Work). partner u.what.peer u.phase ≡ Some y.0.peer) y.1 y.0.on

    made : m ≡ takes_frame (turn_of s (state_of s past) k w) y.0.peer f f.body
    made = y.0.made ∙ ap (λ (u : Work). takes_frame (turn_of s (state_of s past) k u) y.0.peer f f.body) y.1

    either : HearsOrCloses (turn_of s (state_of s past) k w) f y.0.peer m
    either = subst (HearsOrCloses (turn_of s (state_of s past) k w) f y.0.peer) (sym made) (answer_made (turn_of s (state_of s past) k w) f y.0.peer f.body t.kept)

    kind_is : e.kind ≡ Talk (Some w.number)
    kind_is = kind ∙ elim (either) [ inl h ↦ ap (λ (z : Effect). z.kind) h | inr h ↦ ap (λ (z : Effect). z.kind) h ]

    says : (e.sent ≡ []) ⊎ (e.sent ≡ frames (job_end w y.0.peer) (end_with (turn_of s (state_of s past) k w) y.0.peer) (Closing ∷ []))
    says = elim (either) [ inl h ↦ inl (sent ∙ ap (λ (z : Effect). z.sent) h) | inr h ↦ inr (sent ∙ ap (λ (z : Effect). z.sent) h) ]

    z : (u : Work) × (Member u (works past s.number)) × (v ≡ work_after (rows_at past s.number) s.number e u)
    z = came_of (rows_at past s.number) s.number (works past s.number) e e.kind refl (ap is_begin kind ∙ steps_begin_none laws s (state_of s past) k m makes) v
        (subst (λ ws. Member v ws) (own_works past e s.number own) there')

    moved : awaits_one v.phase ≡ false
    moved = go (option_is (job_of e.kind) z.0.number) refl
      where
        go : (b : Bool) → option_is (job_of e.kind) z.0.number ≡ b → awaits_one v.phase ≡ false
        go false i =
            let still : v ≡ z.0 = z.2 ∙ (rw i refl) in
            absurd (true≢false (sym (ap (λ (o : Option ℕ). option_is o z.0.number) t.made ∙ ap (λ (n : ℕ). w.number == n) (sym (ap (λ (u : Work). u.number) still) ∙ number) ∙ eqb_refl w.number) ∙ i))
        go true i =
            let numbers : w.number ≡ z.0.number = eqb-true w.number z.0.number (ap (λ (o : Option ℕ). option_is o z.0.number) (sym t.made) ∙ i) in
            let was : z.0 ≡ w = sym (jobs.apart w z.0 there z.1 numbers) in
            let after : v ≡ work_kind (rows_at past s.number) s.number z.0 e e.kind = z.2 ∙ (rw i refl) in
            let now : v ≡ work_kind (rows_at past s.number) s.number w e (Talk (Some w.number)) =
            after ∙ ap (λ (u : Work). work_kind (rows_at past s.number) s.number u e e.kind) was ∙ ap (work_kind (rows_at past s.number) s.number w e) kind_is in
            subst (λ (u : Work). awaits_one u.phase ≡ false) (sym now)
            (talk_moved (rows_at past s.number) s.number w e y.0.peer f (end_with (turn_of s (state_of s past) k w) y.0.peer) t.taken t.kept on says)
