-- While a drop that removes from its peer has a lock of another repository, the end there has room.
use Rattle.std.proofs.Common.{◌≡◌, ◌≢◌, ◌⊎◌, inl, inr, ℕ, ◌≤◌, ◌<◌, ◌+◌, ◌^◌, Bool, true, false, if◌then◌else◌, List, [], ◌∷◌, ◌++◌, Option, Some, None, is_some, length, map, refl, sym, ap, subst, ◌∙◌, arith}
use Rattle.std.specs.Prelude.{◌==◌, ◌&&◌, ◌-◌, find, flat_map, nat_le, nat_lt, not, fold}
use Rattle.std.specs.List.{range_with_len}
use Rattle.std.specs.Option.{option_map}
use Rattle.std.proofs.lemmas.Bool.{and_parts, cases_Bool, eqb-true, true≢false}
use Rattle.std.proofs.Math.Bool.{and-false}
use Rattle.std.proofs.lemmas.Bool.Decides.{nat_tests}
use Rattle.std.proofs.lemmas.List.Elements.{filter-append}
use Rattle.std.proofs.lemmas.Option.{same_Some}
use Rattle.annex_base.specs.Bools.{same_bool}
use Rattle.annex_base.specs.Lists.{Each, Member}
use Rattle.annex_base.specs.declared.kinds.EntryStamp.{EntryStamp}
use Rattle.annex_base.proofs.Conditions.{eqb_refl}
use Rattle.annex_base.proofs.Lists.{Each-always, Each-from_members, Each-member, Each-weaker, Member-filter_parts, cons_nil, filter_no, find_member, list_all-from_Each}
use Rattle.annex_base.proofs.Options.{some_none}
use Rattle.drop_proof.specs.declared.rule.Side.{Side}
use Rattle.drop_proof.specs.declared.rule.Side.TheVariants.{Local, Remote}
use Rattle.run_data.specs.declared.entry.EntryKind.{EntryKind}
use Rattle.run_data.specs.declared.entry.FrameText.{FrameText}
use Rattle.run_data.specs.declared.entry.FrameText.TheVariants as texts
use Rattle.run_data.specs.declared.entry.FrameView.{FrameView}
use Rattle.run_data.specs.declared.job.Job.{Job}
use Rattle.link_ring.specs.Ends.{EndView, after_take, free}
use Rattle.node_model.specs.Ends.{End, EndName, end_sends, end_takes, end_took, frames, is_opening, sends_at, sent_at, taken_at, takes_at}
use Rattle.node_model.specs.Jobs as Jobs
use Rattle.node_model.specs.Jobs.{drop_side}
use Rattle.node_model.specs.JobStep.{end_with, has_lock, is_held, locked_peers, others_of, turn_of}
use Rattle.node_model.specs.Look.{Effect, Look}
use Rattle.node_model.specs.SetUp.{SetUp}
use Rattle.node_model.specs.State.{State}
use Rattle.node_model.specs.Turns.{has_room}
use Rattle.node_ends.specs.declared.sending.Sending.{Sending}
use Rattle.node_ends.specs.Ends.{end_at, end_in as stands_in, has_room as end_has_room, link_at, passes, room_at, wait_at}
use Rattle.node_ends.specs.Going.{AreAfter}
use Rattle.node_ends.specs.Joined.{AreCarried, AreJoined, BothPaired, end_with as end_of_peer, link_carried}
use Rattle.node_ends.specs.Sent.{text_of_sending}
use Rattle.node_sessions.specs.declared.served.Served.{Served}
use Rattle.node_sessions.specs.Serving.{end_by, made_by as made_by_served, says_by, taken_by as taken_by_served}
use Rattle.drop_phases.specs.Apart.{is_locked_in}
use Rattle.drop_phases.specs.declared.phase.Heard.{Heard}
use Rattle.drop_phases.specs.declared.phase.Phase.{Phase}
use Rattle.drop_phases.specs.declared.phase.Phase.TheVariants as phases
use Rattle.drop_phases.specs.declared.phase.Token.{Token}
use Rattle.drop_phases.specs.declared.turn.Parcel.{Parcel}
use Rattle.drop_phases.specs.Sides.{FitsSide, side_in}
use Rattle.drop_phases.specs.Working.{end_in, heard_in, phase_as, texts_of}
use Rattle.job_frames.specs.Sending.{TakesNoOpening}
use Rattle.transfer_turns.specs.Parcels.{text_in}
use Rattle.transfer_turns.specs.declared.parcels.Parcel.{Parcel as TransferParcel}
use Rattle.running_jobs.specs.Acting.{HasLockRoom}
use Rattle.running_jobs.specs.Beginning.{Begins, IsNewTask, next_slot}
use Rattle.running_jobs.specs.Drops.{DropJob}
use Rattle.running_jobs.specs.Feed.{Feed}
use Rattle.running_jobs.specs.Feeds.{feed_by, feed_of}
use Rattle.running_jobs.specs.Places.{IsPlace, PlaceView}
use Rattle.running_jobs.specs.Running.{AllApart, Jobs as RunningJobs, job_at}
use Rattle.running_jobs.specs.Sent.{Sent}
use Rattle.running_jobs.specs.Sent.TheVariants as sents
use Rattle.running_jobs.specs.Task.{Task}
use Rattle.running_jobs.specs.Task.TheVariants as tasks
use Rattle.running_jobs.specs.TaskActing.{HearsOn, KeepsLocks, SendsNoneTo, frames_in}
use Rattle.running_jobs.specs.Tasks.{IsTask, number_of, slot_of, work_now}
use Rattle.running_jobs.specs.Telling.{IsToldTo}
use Rattle.running_jobs.specs.Told.{Told}
use Rattle.running_jobs.specs.Told.TheVariants as tolds
use Rattle.running_jobs.specs.Waiting.{word_at}
use Rattle.running_jobs.specs.Output.{Output}
use Rattle.node_parts.specs.declared.done.Done.{Done}
use Rattle.node_parts.specs.Parts.{HasLockRooms}
use Rattle.node_parts.specs.Posting.{Posts, after_step}
use Rattle.node_parts.specs.Steps.{made_of}
use Rattle.node_parts.proofs.Among.{found_among, found_by_number, task_in_slot}
use Rattle.node_parts.proofs.Asked.{took_waits, waits_there}

-- ---- a step of these jobs

-- a drop that awaits its target's timestamp is remote
untimed : (phase : Phase) (token : Token) → FitsSide Local phase token → phase_as phase ≡ Jobs.AsksTime → ⊥
untimed phases.Fresh token fits asks = cc
untimed phases.Next token fits asks = cc
untimed (phases.Opens peer) token fits asks = cc
untimed (phases.Greets peer) token fits asks = cc
untimed (phases.AsksLock peer since) token fits asks = cc
untimed (phases.AsksLook peer) token fits asks = cc
untimed phases.AsksTime token fits asks = fits
untimed phases.Orders token fits asks = cc
untimed phases.Removed token fits asks = cc
untimed phases.Denied token fits asks = cc
untimed (phases.Late time) token fits asks = cc
untimed (phases.Ends why) token fits asks = cc

timed_remote : (side : Side) (phase : Phase) (token : Token) → FitsSide side phase token → phase_as phase ≡ Jobs.AsksTime → side ≡ Remote
timed_remote Remote phase token fits asks = refl
timed_remote Local phase token fits asks = absurd (untimed phase token fits asks)

not_same : (x own peer : ℕ) → x ≡ own → not (peer == x) ≡ true → (own == peer) ≡ false
not_same x own peer is other = grind (arith, nat_tests)

-- at a look that finds the room of these ends, each has room where it has locks
pub lock_room : (s : SetUp) (st : State) (k : Look) (p : PlaceView) (links : List EndView) (t : Task) → IsPlace p s → ((a : EndName) → st.ends a ≡ end_at links a) → IsTask p t → HasLockRooms links p.number t
    → HasLockRoom s st (record k { room = room_at links }) t
lock_room s st k p links (tasks.Transfers w) place ends is rooms = tt
lock_room s st k p links (tasks.Drops j) place ends is rooms = λ asks.
    let t = turn_of s st (record k { room = room_at links }) (work_now (tasks.Drops j)) in
    list_all-from_Each (has_room t) (locked_peers t) (Each-from_members (λ peer. has_room t peer ≡ true) (locked_peers t) (λ peer among.
    let in_locked = Member-filter_parts (λ x. has_lock t x && (end_with t x).opened) (others_of t) peer among in
    let in_others = Member-filter_parts (λ x. not (x == s.number)) (range_with_len 0 (length s.repos)) peer in_locked.0 in
    let both = and_parts (has_lock t peer) ((end_with t peer).opened) in_locked.1 in
    rooms (timed_remote (side_in j.worker) j.worker.phase j.worker.token is.fits asks) peer (not_same s.number p.number peer place.number in_others.1) both.0
    (ap (λ (c : End). c.opened) (sym (ends (end_in j.worker.slot peer))) ∙ both.1)))

pub lock_rooms : (s : SetUp) (st : State) (k : Look) (p : PlaceView) (links : List EndView) (ts : List Task) → IsPlace p s → ((a : EndName) → st.ends a ≡ end_at links a) → Each (IsTask p) ts → Each (HasLockRooms links p.number) ts
    → Each (HasLockRoom s st (record k { room = room_at links })) ts
lock_rooms s st k p links ts place ends are rooms = Each-from_members (HasLockRoom s st (record k { room = room_at links })) ts (λ t among.
    lock_room s st k p links t place ends (Each-member (IsTask p) ts t are among) (Each-member (HasLockRooms links p.number) ts t rooms among))

-- ---- an end that keeps its room

-- it is open only where it was, and has room where it had
pub record KeepsRoom (was now : Option EndView) : Type 0 where
  pub opened : (stands_in now).opened ≡ true → (stands_in was).opened ≡ true
  pub room : passes end_has_room was ≡ true → passes end_has_room now ≡ true

same_room : (o : Option EndView) → KeepsRoom o o
same_room o = record { opened = λ is. is; room = λ is. is }

more_free : (used n : ℕ) → n ≤ used → nat_le 2 (8 - used) ≡ true → nat_le 2 (8 - n) ≡ true
more_free used n low is = grind (arith, nat_tests)

fewer_used : (v : EndView) (n : ℕ) → n ≤ v.used → end_has_room v ≡ true → end_has_room (record v { used = n }) ≡ true
fewer_used v n low is =
    let both = and_parts (nat_le 2 (free v)) (nat_lt (v.sent + 1) (2 ^ 62) && nat_lt v.epoch (2 ^ 32 - 1)) is in
    rw (more_free v.used n low both.0) both.1

carried_room : (o other : Option EndView) → BothPaired o other → KeepsRoom o (link_carried o other)
carried_room None other pair = absurd pair
carried_room (Some v) None pair = absurd pair
carried_room (Some v) (Some w) pair = record { opened = λ is. is; room = λ is. fewer_used v (length w.at_hand + length v.on_way) pair.first is }

-- a drop's rooms stay where its ends keep theirs
kept_rooms : (was now : List EndView) (own : ℕ) (t : Task) → ((peer : ℕ) → KeepsRoom (link_at was (end_in (slot_of t) peer)) (link_at now (end_in (slot_of t) peer))) → HasLockRooms was own t → HasLockRooms now own t
kept_rooms was now own (tasks.Transfers w) keep rooms = tt
kept_rooms was now own (tasks.Drops j) keep rooms = λ remote peer other locked opened. (keep peer).room (rooms remote peer other locked ((keep peer).opened opened))

-- and all drops' where all clients' ends do
rooms_stay : (was now : List EndView) (own : ℕ) (ts : List Task) → ((a : EndName) → a.client ≡ true → KeepsRoom (link_at was a) (link_at now a)) → Each (HasLockRooms was own) ts → Each (HasLockRooms now own) ts
rooms_stay was now own ts keep rooms = Each-weaker (HasLockRooms was own) (HasLockRooms now own) (λ t. kept_rooms was now own t (λ peer. keep (end_in (slot_of t) peer) refl)) ts rooms

-- an end that is closed needs none
pub rooms_closed : (was now : List EndView) (own : ℕ) (ts : List Task) → ((a : EndName) → (link_at now a ≡ link_at was a) ⊎ ((end_at now a).opened ≡ false)) → Each (HasLockRooms was own) ts → Each (HasLockRooms now own) ts
rooms_closed was now own ts keep rooms = Each-weaker (HasLockRooms was own) (HasLockRooms now own) each ts rooms
  where
    each : (t : Task) → HasLockRooms was own t → HasLockRooms now own t
    each (tasks.Transfers w) r = tt
    each (tasks.Drops j) r = λ remote peer other locked opened. elim (keep (end_in j.worker.slot peer)) [
      | inl same ↦ ap (passes end_has_room) same ∙ r remote peer other locked (ap (λ (o : Option EndView). (stands_in o).opened) (sym same) ∙ opened)
      | inr shut ↦ absurd (true≢false (sym opened ∙ shut))
    ]

-- ---- frames are dropped, or carried

pub rooms_dropped : (was now : List EndView) (own : ℕ) (ts : List Task) → ((a : EndName) → end_at now a ≡ end_at was a) → ((a : EndName) → room_at now a ≡ room_at was a) → Each (HasLockRooms was own) ts → Each (HasLockRooms now own) ts
rooms_dropped was now own ts stands room = rooms_stay was now own ts (λ a client. record { opened = λ is. ap (λ (c : End). c.opened) (sym (stands a)) ∙ is; room = λ is. room a ∙ is })

eqb_false_ne : (x y : ℕ) → (x == y) ≡ false → x ≢ y
eqb_false_ne x y is same = grind (arith, nat_tests)

high_slot : (links : List EndView) (a : EndName) → nat_lt a.slot 4 ≡ false → link_at links a ≡ None
high_slot links a high = rw high refl

module _ (a b : ℕ) (was now other : List EndView) (carried : AreCarried a b was now other) (joined : AreJoined a b was other) where
  -- at the other repository
  carried_at : (slot : ℕ) (client : Bool) → (low : Bool) → nat_lt slot 4 ≡ low → KeepsRoom (link_at was (end_of_peer b slot client)) (link_at now (end_of_peer b slot client))
  carried_at slot client false high =
      subst (λ (o : Option EndView). KeepsRoom (link_at was (end_of_peer b slot client)) o) (high_slot was (end_of_peer b slot client) high ∙ sym (high_slot now (end_of_peer b slot client) high)) (same_room (link_at was (end_of_peer b slot client)))
  carried_at slot client true is =
      let low : slot < 4 = grind (arith, nat_tests) in
      subst (λ (o : Option EndView). KeepsRoom (link_at was (end_of_peer b slot client)) o) (sym (carried.carried slot client low))
      (carried_room (link_at was (end_of_peer b slot client)) (link_at other (end_of_peer a slot (not client))) (joined slot client low))

  carried_end : (x : EndName) → KeepsRoom (link_at was x) (link_at now x)
  carried_end x = elim (cases_Bool (x.peer == b)) [
    | inl same ↦
        let name : end_of_peer b x.slot x.client ≡ x = (λ i. record { peer = sym (eqb-true x.peer b same) i; slot = x.slot; client = x.client }) in
        subst (λ (y : EndName). KeepsRoom (link_at was y) (link_at now y)) name (carried_at x.slot x.client (nat_lt x.slot 4) refl)
    | inr apart ↦ subst (λ (o : Option EndView). KeepsRoom (link_at was x) o) (sym (carried.others x (eqb_false_ne x.peer b apart))) (same_room (link_at was x))
  ]

  pub rooms_carried : (own : ℕ) (ts : List Task) → Each (HasLockRooms was own) ts → Each (HasLockRooms now own) ts
  rooms_carried own ts = rooms_stay was now own ts (λ x client. carried_end x)

-- ---- an end at which nothing is taken or sent

none_said : (xs : List Sending) → map text_of_sending xs ≡ [] → xs ≡ []
none_said [] is = refl
none_said (x ∷ xs) is = absurd (cons_nil (text_of_sending x) (map text_of_sending xs) is)

same_link : (o : Option EndView) → option_map (λ v. v) o ≡ o
same_link None = refl
same_link (Some v) = refl

pub untouched : (sender : EntryStamp) (kind : EntryKind) (was now : List EndView) (taken : Option FrameView) (sent : List FrameView) → Posts sender kind was now taken sent → (a : EndName) → taken_at a taken ≡ None → sent_at a sent ≡ [] → link_at now a ≡ link_at was a
untouched sender kind was now taken sent posts a takes sends =
    let said : posts.said a ≡ [] = none_said (posts.said a) (posts.listed a ∙ ap (map (λ (f : FrameView). f.body)) sends) in
    posts.links a
    ∙ (ap (λ (xs : List Sending). option_map (after_step sender kind a taken xs) (link_at was a)) said
    ∙ (ap (λ (o : Option FrameView). option_map (λ v. if is_some o then after_take v else v) (link_at was a)) takes
    ∙ same_link (link_at was a)))

-- a session takes and sends at its own end
pub none_at : (a b : EndName) (c : End) (bodies : List FrameText) → ((b.peer == a.peer) && (b.slot == a.slot) && same_bool b.client a.client) ≡ false → sent_at a (frames b c bodies) ≡ []
none_at a b c [] away = refl
none_at a b c (body ∷ bodies) away =
    let d = end_sends c body in
    filter_no (sends_at a) (record { peer = b.peer; slot = b.slot; up = b.client; epoch = d.epoch; seq = d.sent; body = body }) (frames b d bodies) away ∙ none_at a b d bodies away

served_taken : (links : List EndView) (v : Served) (a : EndName) → a.client ≡ true → (o : Option FrameView) → taken_by_served links v ≡ o → taken_at a o ≡ None
served_taken links v a client None is = refl
served_taken links v a client (Some f) is =
    let up : f.up ≡ true = (waits_there links (end_by v) f (took_waits v.takes (wait_at links (end_by v)) f is)).2 in
    let away : takes_at a f ≡ false = (λ i. ((f.peer == a.peer) && (f.slot == a.slot)) && same_bool (client i) (if up i then false else true)) ∙ and-false ((f.peer == a.peer) && (f.slot == a.slot)) in
    ap (λ (b : Bool). if b then Some f else None) away

served_sent : (v : Served) (a : EndName) → a.client ≡ true → (c : End) (bodies : List FrameText) → sent_at a (frames (end_by v) c bodies) ≡ []
served_sent v a client c bodies = none_at a (end_by v) c bodies (ap (λ (b : Bool). ((v.peer == a.peer) && (v.slot == a.slot)) && same_bool false b) client ∙ and-false ((v.peer == a.peer) && (v.slot == a.slot)))

pub rooms_served : (was now : List EndView) (own : ℕ) (ts : List Task) (v : Served) (d : Done) (sender : EntryStamp) → made_of d ≡ made_by_served was v → Posts sender d.kind was now d.taken d.sent → Each (HasLockRooms was own) ts → Each (HasLockRooms now own) ts
rooms_served was now own ts v d sender same posts = rooms_stay was now own ts (λ a client.
    let takes : taken_at a d.taken ≡ None = ap (λ (m : Effect). taken_at a m.taken) same ∙ served_taken was v a client (taken_by_served was v) refl in
    let sends : sent_at a d.sent ≡ [] = ap (λ (m : Effect). sent_at a m.sent) same ∙ served_sent v a client (end_took (end_at was (end_by v)) (taken_by_served was v)) (says_by v) in
    subst (λ (o : Option EndView). KeepsRoom (link_at was a) o) (sym (untouched sender d.kind was now d.taken d.sent posts a takes sends)) (same_room (link_at was a)))

-- ---- a job that begins

new_rooms : (links : List EndView) (own number slot : ℕ) (what : Job) (paths : List (List ℕ)) (t : Task) → IsNewTask number slot what paths t → HasLockRooms links own t
new_rooms links own number slot what paths (tasks.Transfers w) is = tt
new_rooms links own number slot what paths (tasks.Drops j) is = λ remote peer other locked opened. absurd (true≢false (sym locked ∙ ap (λ (x : DropJob). is_locked_in x.worker peer) is.0))

pub rooms_begun : (links : List EndView) (was now : RunningJobs) (what : Job) (paths : List (List ℕ)) → Begins was what paths now → Each (HasLockRooms links was.place.number) was.running → Each (HasLockRooms links now.place.number) now.running
rooms_begun links was now what paths begins rooms = subst (λ (j : RunningJobs). Each (HasLockRooms links j.place.number) j.running) (sym begins.jobs)
    (new_rooms links was.place.number (was.begun + 1) (next_slot was) what paths begins.task begins.is_new, rooms)

-- ---- a job's step

-- an end that took no opening, and sent nothing, has the room that it had
abbrev pub RoomAfter : List EndView → List EndView → Option FrameView → List FrameView → Type 0
RoomAfter was now taken sent = TakesNoOpening taken → (a : EndName) → room_at was a ≡ true → sent_at a sent ≡ [] → room_at now a ≡ true

opened_by : (c : End) (epoch : ℕ) (body : FrameText) → is_opening body ≡ false → (end_takes c epoch body).opened ≡ true → c.opened ≡ true
opened_by c epoch texts.Opening other is = absurd (true≢false other)
opened_by c epoch texts.Closing other is = absurd (true≢false (sym is))
opened_by c epoch (texts.Line line) other is = is
opened_by c epoch (texts.Bytes n) other is = is

opened_before : (c : End) (o : Option FrameView) → TakesNoOpening o → (end_took c o).opened ≡ true → c.opened ≡ true
opened_before c None other is = is
opened_before c (Some f) other is = opened_by c f.epoch f.body other is

no_opening_at : (a : EndName) (taken : Option FrameView) → TakesNoOpening taken → TakesNoOpening (taken_at a taken)
no_opening_at a None other = tt
no_opening_at a (Some f) other = go (takes_at a f)
  where
    go : (b : Bool) → TakesNoOpening (if b then Some f else None)
    go true = other
    go false = tt

module _ (was now : List EndView) (taken : Option FrameView) (sent : List FrameView) (after : AreAfter was now taken sent) (room : RoomAfter was now taken sent) (opening : TakesNoOpening taken) where
  silent_end : (a : EndName) → sent_at a sent ≡ [] → KeepsRoom (link_at was a) (link_at now a)
  silent_end a none = record {
    opened = λ is. opened_before (end_at was a) (taken_at a taken) (no_opening_at a taken opening)
        (ap (λ (c : End). c.opened) (sym (after.ends a ∙ ap (fold (λ (c : End) (f : FrameView). end_sends c f.body) (end_took (end_at was a) (taken_at a taken))) none)) ∙ is);
    room = λ is. room opening a is none;
  }

none_of : {P : Type 0} (a : EndName) (g : P → List FrameView) (ps : List P) → Each (λ p. sent_at a (g p) ≡ []) ps → sent_at a (flat_map g ps) ≡ []
none_of a g [] none = refl
none_of a g (p ∷ ps) none = filter-append (sends_at a) (g p) (flat_map g ps) ∙ (ap (λ (fs : List FrameView). fs ++ sent_at a (flat_map g ps)) none.0 ∙ none_of a g ps none.1)

module _ (links : List EndView) (slot : ℕ) (a : EndName) where
  other_slot : (slot == a.slot) ≡ false → (peer : ℕ) → ((peer == a.peer) && (slot == a.slot) && same_bool true a.client) ≡ false
  other_slot away peer = ap (λ (b : Bool). ((peer == a.peer) && b) && same_bool true a.client) away ∙ ap (λ (b : Bool). b && same_bool true a.client) (and-false (peer == a.peer))

  other_peer : (peer : ℕ) → (peer == a.peer) ≡ false → ((peer == a.peer) && (slot == a.slot) && same_bool true a.client) ≡ false
  other_peer peer away = ap (λ (b : Bool). (b && (slot == a.slot)) && same_bool true a.client) away

  -- a job sends in its own slot alone
  in_own_slot : (sent : Sent) → (slot == a.slot) ≡ false → sent_at a (frames_in links slot sent) ≡ []
  in_own_slot (sents.ByDrop ps) away = none_of a (λ (p : Parcel). frames (end_in slot p.peer) (end_at links (end_in slot p.peer)) (texts_of p.body)) ps.items
      (Each-always (λ (p : Parcel). sent_at a (frames (end_in slot p.peer) (end_at links (end_in slot p.peer)) (texts_of p.body)) ≡ [])
      (λ (p : Parcel). none_at a (end_in slot p.peer) (end_at links (end_in slot p.peer)) (texts_of p.body) (other_slot away p.peer)) ps.items)
  in_own_slot (sents.ByTransfer ps) away = none_of a (λ (p : TransferParcel). frames (end_in slot p.peer) (end_at links (end_in slot p.peer)) (text_in p.body ∷ [])) ps.items
      (Each-always (λ (p : TransferParcel). sent_at a (frames (end_in slot p.peer) (end_at links (end_in slot p.peer)) (text_in p.body ∷ [])) ≡ [])
      (λ (p : TransferParcel). none_at a (end_in slot p.peer) (end_at links (end_in slot p.peer)) (text_in p.body ∷ []) (other_slot away p.peer)) ps.items)

  -- and nothing to a peer to which no parcel goes
  none_to : (sent : Sent) → SendsNoneTo a.peer sent → sent_at a (frames_in links slot sent) ≡ []
  none_to (sents.ByDrop ps) away = none_of a (λ (p : Parcel). frames (end_in slot p.peer) (end_at links (end_in slot p.peer)) (texts_of p.body)) ps.items
      (Each-weaker (λ (p : Parcel). (p.peer == a.peer) ≡ false) (λ (p : Parcel). sent_at a (frames (end_in slot p.peer) (end_at links (end_in slot p.peer)) (texts_of p.body)) ≡ [])
      (λ (p : Parcel). λ other. none_at a (end_in slot p.peer) (end_at links (end_in slot p.peer)) (texts_of p.body) (other_peer p.peer other)) ps.items away)
  none_to (sents.ByTransfer ps) away = none_of a (λ (p : TransferParcel). frames (end_in slot p.peer) (end_at links (end_in slot p.peer)) (text_in p.body ∷ [])) ps.items
      (Each-weaker (λ (p : TransferParcel). (p.peer == a.peer) ≡ false) (λ (p : TransferParcel). sent_at a (frames (end_in slot p.peer) (end_at links (end_in slot p.peer)) (text_in p.body ∷ [])) ≡ [])
      (λ (p : TransferParcel). λ other. none_at a (end_in slot p.peer) (end_at links (end_in slot p.peer)) (text_in p.body ∷ []) (other_peer p.peer other)) ps.items away)

-- where it stood with an open end, and was told of a frame there, that had room
fed_room : (opened room : Bool) (o : Option Feed) (f : Feed) → Some f ≡ feed_by opened room o → opened ≡ true → room ≡ true
fed_room true true o f is live = refl
fed_room true false o f is live = absurd (some_none f is)
fed_room false room o f is live = absurd (true≢false (sym live))

-- the job that acted has room where it has locks, if it goes on
next_rooms : (p : PlaceView) (was now : List EndView) (t t' : Task) (x : Told) (out : Output) → IsToldTo was t x → HearsOn t t' x → KeepsLocks p t t' out → out.ended ≡ false → slot_of t' ≡ slot_of t → (work_now t').what ≡ (work_now t).what
    → ((peer : ℕ) → SendsNoneTo peer out.sent → KeepsRoom (link_at was (end_in (slot_of t) peer)) (link_at now (end_in (slot_of t) peer))) → HasLockRooms was p.number t → HasLockRooms now p.number t'
next_rooms p was now (tasks.Drops j) (tasks.Transfers w) x out told heard locks on slot what keep rooms = tt
next_rooms p was now (tasks.Transfers w) (tasks.Transfers w') x out told heard locks on slot what keep rooms = tt
next_rooms p was now (tasks.Transfers w) (tasks.Drops j) (tolds.Feed f) out told heard locks on slot what keep rooms = absurd heard
next_rooms p was now (tasks.Transfers w) (tasks.Drops j) (tolds.Arrival x) out told heard locks on slot what keep rooms = λ remote peer other locked opened.
    absurd (true≢false (sym locked ∙ ap (λ (h : List (ℕ × Heard)). is_held (heard_in h peer)) heard.0))
next_rooms p was now (tasks.Drops j) (tasks.Drops j') (tolds.Arrival x) out told heard locks on slot what keep rooms = absurd heard
next_rooms p was now (tasks.Drops j) (tasks.Drops j') (tolds.Feed f) out told heard locks on slot what keep rooms = λ remote peer other locked opened.
    let side : side_in j.worker ≡ Remote = ap (λ (x : Job). drop_side x.kind x.peer) (sym what) ∙ remote in
    let lock = locks side on peer other locked in
    let kept = keep peer lock.sends in
    let open_was : (end_at was (end_in j.worker.slot peer)).opened ≡ true = kept.opened (ap (λ (n : ℕ). (end_at now (end_in n peer)).opened) (sym slot) ∙ opened) in
    ap (λ (n : ℕ). room_at now (end_in n peer)) slot
    ∙ kept.room (elim lock.from [
      | inl had ↦ rooms side peer other had open_was
      | inr stood ↦ fed_room (end_at was (end_in j.worker.slot peer)).opened (room_at was (end_in j.worker.slot peer)) (feed_of peer (word_at was (end_in j.worker.slot peer)) (wait_at was (end_in j.worker.slot peer))) f (told.1 peer stood) open_was
    ])

-- two jobs that aren't one have two slots
apart_slots : (ts : List Task) (t x : Task) → AllApart ts → Member t ts → Member x ts → (number_of x == number_of t) ≡ false → (slot_of t == slot_of x) ≡ false
apart_slots ts t x apart at_t at_x other = elim (cases_Bool (slot_of t == slot_of x)) [
  | inl same ↦
      let slot : slot_of t ≡ slot_of x = eqb-true (slot_of t) (slot_of x) same in
      let one : t ≡ x = same_Some t x (sym (task_in_slot ts t apart at_t) ∙ (ap (λ (n : ℕ). find (λ (z : Task). slot_of z == n) ts) slot ∙ task_in_slot ts x apart at_x)) in
      absurd (true≢false (sym (eqb_refl (number_of t)) ∙ (ap (λ (z : Task). number_of z == number_of t) one ∙ other)))
  | inr apart_slot ↦ apart_slot
]

pub rooms_acted : (p : PlaceView) (was now : List EndView) (ts ts' : List Task) (n : ℕ) (t t' : Task) (x : Told) (out : Output) (taken : Option FrameView) (sent : List FrameView)
    → AreAfter was now taken sent → RoomAfter was now taken sent → TakesNoOpening taken → sent ≡ frames_in was (slot_of t) out.sent → AllApart ts → AllApart ts' → job_at ts n ≡ Some t → (out.ended ≡ false → job_at ts' n ≡ Some t') → (out.ended ≡ true → job_at ts' n ≡ None)
    → ((job : ℕ) → job ≢ n → job_at ts' job ≡ job_at ts job) → IsToldTo was t x → HearsOn t t' x → KeepsLocks p t t' out → slot_of t' ≡ slot_of t → (work_now t').what ≡ (work_now t).what → Each (HasLockRooms was p.number) ts → Each (HasLockRooms now p.number) ts'
rooms_acted p was now ts ts' n t t' x out taken sent after room opening sent_is apart apart' found onward off others told heard locks slot what rooms = Each-from_members (HasLockRooms now p.number) ts' each
  where
    among_t : Member t ts
    among_t = found_among ts n t found

    number_t : number_of t ≡ n
    number_t = eqb-true (number_of t) n (find_member (λ (z : Task). number_of z == n) ts t found).1

    silent : (a : EndName) → sent_at a (frames_in was (slot_of t) out.sent) ≡ [] → KeepsRoom (link_at was a) (link_at now a)
    silent a none = silent_end was now taken sent after room opening a (ap (sent_at a) sent_is ∙ none)

    next : out.ended ≡ false → HasLockRooms now p.number t'
    next on = next_rooms p was now t t' x out told heard locks on slot what (λ peer none. silent (end_in (slot_of t) peer) (none_to was (slot_of t) (end_in (slot_of t) peer) out.sent none))
        (Each-member (HasLockRooms was p.number) ts t rooms among_t)

    acting : (y : Task) → job_at ts' n ≡ Some y → HasLockRooms now p.number y
    acting y at = elim (cases_Bool out.ended) [
      | inl ended ↦ absurd (some_none y (sym at ∙ off ended))
      | inr on ↦ subst (HasLockRooms now p.number) (same_Some t' y (sym (onward on) ∙ at)) (next on)
    ]

    other : (y : Task) → (number_of y == n) ≡ false → job_at ts' (number_of y) ≡ Some y → HasLockRooms now p.number y
    other y apart_n at =
        let among_y = found_among ts (number_of y) y (sym (others (number_of y) (eqb_false_ne (number_of y) n apart_n)) ∙ at) in
        let slots = apart_slots ts t y apart among_t among_y (ap (λ (m : ℕ). number_of y == m) number_t ∙ apart_n) in
        kept_rooms was now p.number y (λ peer. silent (end_in (slot_of y) peer) (in_own_slot was (slot_of t) (end_in (slot_of y) peer) out.sent slots)) (Each-member (HasLockRooms was p.number) ts y rooms among_y)

    each : (y : Task) → Member y ts' → HasLockRooms now p.number y
    each y among =
        let at = found_by_number ts' y apart' among in
        elim (cases_Bool (number_of y == n)) [
          | inl same ↦ acting y (ap (job_at ts') (sym (eqb-true (number_of y) n same)) ∙ at)
          | inr apart_n ↦ other y apart_n at
        ]
