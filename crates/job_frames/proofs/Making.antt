-- What the step of a job makes: one walk over the tables of steps.
use Rattle.std.proofs.Common.{◌≡◌, ◌⊎◌, inl, inr, ℕ, zero, suc, ◌+◌, ◌-◌, ◌/◌, ◌^◌, Bool, true, false, ◌&&◌, if◌then◌else◌, List, [], ◌∷◌, ◌++◌, length, Option, Some, None, refl, sym, ap, subst, ◌∙◌}
use Rattle.std.specs.Prelude.{◌==◌, bytes_eq, codes, min, nat_le, nat_lt, not, slice_get}
use Rattle.std.specs.List.{list_all, list_any}
use Rattle.std.specs.Option.{option_to_list}
use Rattle.std.proofs.lemmas.Bool.{and_parts, eqb-true, true≢false}
use Rattle.std.proofs.lemmas.Option.{none-some, same_Some}
use Rattle.std.proofs.Math.Bool.{and-false}
use Rattle.annex_base.specs.Bools.{same_bool}
use Rattle.annex_base.specs.Calls.{same_call}
use Rattle.annex_base.specs.Lists.{Each}
use Rattle.annex_base.specs.declared.kinds.Call.{Call}
use Rattle.annex_base.specs.declared.kinds.Call.TheVariants as calls
use Rattle.annex_base.proofs.Conditions.{and_first, eqb_refl, if_either}
use Rattle.annex_base.proofs.Functions.{funext}
use Rattle.annex_base.proofs.Lists.{Each-from_members, Each-weaker, filter_none, find_member, list_all_member, Member-filter_from}
use Rattle.drop_proof.specs.declared.rule.Side.{Side}
use Rattle.drop_proof.specs.declared.rule.Side.TheVariants.{Local, Remote}
use Rattle.run_data.specs.declared.entry.EntryKind.{EntryKind}
use Rattle.run_data.specs.declared.entry.EntryKind.TheVariants.{Bar, Fault, Gain, Gone, Order, Share, End as ends_job}
use Rattle.run_data.specs.declared.entry.FrameView.{FrameView}
use Rattle.run_data.specs.declared.entry.FrameText.{FrameText}
use Rattle.run_data.specs.declared.entry.FrameText.TheVariants.{Opening, Closing, Bytes, Line}
use Rattle.run_data.specs.declared.job.DropRefusal.{DropRefusal}
use Rattle.run_data.specs.declared.job.DropRefusal.TheVariants as refusals
use Rattle.run_data.specs.declared.job.Outcome.{Outcome}
use Rattle.run_data.specs.declared.job.Outcome.TheVariants.{Got, Refused, TransferRefused}
use Rattle.run_data.specs.declared.job.TransferRefusal.TheVariants as failures
use Rattle.p2p_wire.specs.declared.message.Message.{Message}
use Rattle.p2p_wire.specs.declared.message.Message.TheVariants.{AuthSuccess, Version, CheckPresent, LockContent, Remove, RemoveBefore, GetTimestamp, Timestamp, Get, Put, PutFrom, AlreadyHave, Data, Valid, Invalid, Success, Failure, Error}
use Rattle.p2p_wire.specs.Messages.{message_of, text_of}
use Rattle.node_model.specs.After.{has_read}
use Rattle.node_model.specs.Calls.{to_commit, to_hold, to_read, to_release, to_resume}
use Rattle.node_model.specs.Clocks.{hold_time}
use Rattle.node_model.specs.DropStep.{asks_copy, asks_lock, asks_target, bars, expiry, first_drop, first_end, first_local, first_remote, held_until, in_time, lacking_outcome, need_now, orders, own_share, required_there, row_refusal, shares, takes_drop, takes_time, target, times, tries_own}
use Rattle.node_model.specs.Ends.{End, EndName, end_sends, end_takes, end_took, frames, is_opening, may_take, sends_at, sent_at, taken_at, takes_at}
use Rattle.node_model.specs.Evidence.{Asked, Standing}
use Rattle.node_model.specs.Jobs.{AsksLock, AsksLook, AsksTime, Drops, Fresh, Gets, GetsBytes, GetsData, GetsWord, Greets, Heard, Next, Opens, Orders, Part, Phase, Puts, PutsAnswer, PutsBytes, PutsOffer, PutsWord, is_move, job_end, or_own, partner, side_of}
use Rattle.node_model.specs.JobStep.{Turn, attempts, bar_there, by_me, clock_of, end_needs, end_with, ends, farewells, has_lock, hears, is_there, key_of, locked_peers, me, others_of, owns_share, quietly, says_to, sends_to, talk, wrong_message}
use Rattle.node_model.specs.Knows.{enough_by, next_by}
use Rattle.node_model.specs.Look.{Effect, failing_call, unless, waiting_frame}
use Rattle.node_model.specs.Requests.{asks, goes_to}
use Rattle.node_model.specs.Rows.{is_lost_ordered}
use Rattle.node_model.specs.Sessions.{is_closing, reaches}
use Rattle.node_model.specs.SessionStep.{bytes_left}
use Rattle.node_model.specs.Slots.{job_of}
use Rattle.node_model.specs.TransferStep.{content_of, first_get, first_put, gains, next_get, next_source, puts_from, puts_piece, sources, takes_bytes, takes_get, takes_put}
use Rattle.node_model.specs.Turns.{awaits, by_partner, first_step, goes, goes_on, has_room, is_awaiting, judge_needs, judges, needs, next_needs, next_step, outcome_of, peer_needs, takes, takes_answer, takes_frame, takes_text, target_needs, with_partner}
use Rattle.job_frames.specs.Sending.{IsCallOfJob, IsOfJob, IsOwnEntry, MaySend, SendsWell, TakesNoOpening}
use Rattle.job_frames.specs.Standing.{StandsWell, TakesAtRoom}
use Rattle.job_frames.proofs.Rooms.{MayUnlock, farewells_client, farewells_placed, placed_well}

-- ---- calls

-- the calls of these lists are a job's
abbrev AreOfJob : List Call → Type 0
AreOfJob cs = (c : Call) → list_any (same_call c) cs ≡ true → IsCallOfJob c

are_of_job : (cs : List Call) → list_any (same_call calls.Holds) cs ≡ false → list_any (same_call calls.PutFile) cs ≡ false → list_any (same_call calls.File) cs ≡ false
    → (c : Call) → list_any (same_call c) cs ≡ true → IsCallOfJob c
are_of_job cs holds puts reads calls.Holds is = absurd (true≢false (sym is ∙ holds))
are_of_job cs holds puts reads calls.PutFile is = absurd (true≢false (sym is ∙ puts))
are_of_job cs holds puts reads calls.File is = absurd (true≢false (sym is ∙ reads))
are_of_job cs holds puts reads c is = tt

resume_calls : (reads : Bool) → AreOfJob (calls.PartSize ∷ to_read reads)
resume_calls true = are_of_job (calls.PartSize ∷ to_read true) refl refl refl
resume_calls false = are_of_job (calls.PartSize ∷ to_read false) refl refl refl

hold_calls : (here : Bool) (bar : Option ℕ) → AreOfJob (to_hold here bar)
hold_calls true None = are_of_job (to_hold true None) refl refl refl
hold_calls true (Some job) = are_of_job (to_hold true (Some job)) refl refl refl
hold_calls false bar = are_of_job (to_hold false bar) refl refl refl

commit_calls : (right : Bool) → AreOfJob (to_commit right)
commit_calls true = are_of_job (to_commit true) refl refl refl
commit_calls false = are_of_job (to_commit false) refl refl refl

release_calls : (has : Bool) → AreOfJob (to_release has)
release_calls true = are_of_job (to_release true) refl refl refl
release_calls false = are_of_job (to_release false) refl refl refl

-- ---- an end that took a frame

-- and has the same numbers, unless it took an opening
same_numbers : (a : EndName) (c : End) (epoch : ℕ) (taken body : FrameText) → is_opening taken ≡ false → frames a (end_takes c epoch taken) (body ∷ []) ≡ frames a c (body ∷ [])
same_numbers a c epoch Opening body none = absurd (true≢false none)
same_numbers a c epoch Closing Opening none = refl
same_numbers a c epoch Closing Closing none = refl
same_numbers a c epoch Closing (Line text) none = refl
same_numbers a c epoch Closing (Bytes n) none = refl
same_numbers a c epoch (Line text) body none = refl
same_numbers a c epoch (Bytes n) body none = refl

next_took : (a : EndName) (c : End) (taken : Option FrameView) (body : FrameText) → TakesNoOpening taken → frames a (end_took c (taken_at a taken)) (body ∷ []) ≡ frames a c (body ∷ [])
next_took a c None body none = refl
next_took a c (Some f) body none = if_either (λ (o : Option FrameView). frames a (end_took c o) (body ∷ []) ≡ frames a c (body ∷ [])) (takes_at a f) (Some f) None
    (λ is. same_numbers a c f.epoch f.body body none) (λ other. refl)

-- a line leaves it as it stood
line_keeps : (a : EndName) (c : End) (f : FrameView) (text : List ℕ) → f.body ≡ Line text → end_took c (taken_at a (Some f)) ≡ c
line_keeps a c f text line = if_either (λ (o : Option FrameView). end_took c o ≡ c) (takes_at a f) (Some f) None (λ is. ap (λ (b : FrameText). end_takes c f.epoch b) line) (λ other. refl)

not_up : (up : Bool) → same_bool true (if up then false else true) ≡ true → up ≡ false
not_up true is = absurd (true≢false (sym is))
not_up false is = refl

-- the frame of a server's end isn't taken by a client's, nor sent by it
served_takes : (a : EndName) (f : FrameView) → a.client ≡ false → f.up ≡ false → takes_at a f ≡ false
served_takes a f server up = rw (server, up) (and-false ((f.peer == a.peer) && (f.slot == a.slot)))

served_sends : (a : EndName) (f : FrameView) → a.client ≡ false → f.up ≡ true → sends_at a f ≡ false
served_sends a f server up = rw (server, up) (and-false ((f.peer == a.peer) && (f.slot == a.slot)))

none_sent : (a : EndName) → a.client ≡ false → (fs : List FrameView) → Each (λ g. g.up ≡ true) fs → sent_at a fs ≡ []
none_sent a server fs up = filter_none (sends_at a) fs (Each-weaker (λ g. g.up ≡ true) (λ g. sends_at a g ≡ false) (λ g is. served_sends a g server is) fs up)

-- ---- where a job stands

-- at its first step no drop has read the logs, nor has a transfer
fresh_early : (part : Part) (phase : Phase) → phase ≡ Fresh → has_read part phase ≡ false
fresh_early part phase at = ap (λ (p : Phase). has_read part p) at ∙ by_part part
  where
    by_part : (p : Part) → has_read p Fresh ≡ false
    by_part Gets = refl
    by_part Puts = refl
    by_part Drops = refl

-- there is one source where a transfer has a peer
one_source : (p q n : ℕ) → slice_get (p ∷ []) n ≡ Some q → p ≡ q
one_source p q zero is = same_Some p q is
one_source p q (suc n) is = absurd (none-some q is)

-- ---- a turn

module _ (t : Turn) where
  -- a step that takes this frame, or none, makes what is well
  pub record IsWell (taken : Option FrameView) (m : Effect) : Type 0 where
    pub kind : IsOfJob m.kind
    pub number : job_of m.kind ≡ Some t.w.number
    pub lines : m.lines ≡ []
    pub taken_is : m.taken ≡ taken
    pub clients : Each (λ g. g.up ≡ true) m.sent
    pub room : StandsWell t → SendsWell (λ a. end_took (t.ends a) (taken_at a taken)) t.look.room m.sent

  -- one that says nothing
  quiet_well : (kind : EntryKind) (taken : Option FrameView) → IsOfJob kind → job_of kind ≡ Some t.w.number → IsWell taken (quietly kind taken)
  quiet_well kind taken own whose = record {
    kind = own;
    number = whose;
    lines = refl;
    taken_is = refl;
    clients = tt;
    room = λ s. placed_well (λ a. end_took (t.ends a) (taken_at a taken)) t.look.room [] tt;
  }

  silent_well : (taken : Option FrameView) → IsWell taken (quietly (talk t) taken)
  silent_well taken = quiet_well (talk t) taken tt refl

  -- one that sends one frame, which has its place
  abbrev sent_first : ℕ → FrameText → FrameView
  sent_first peer body = record { peer = peer; slot = t.w.slot; up = true; epoch = (end_sends (end_with t peer) body).epoch; seq = (end_sends (end_with t peer) body).sent; body = body }

  send_well : (kind : EntryKind) (taken : Option FrameView) (peer : ℕ) (body : FrameText) → IsOfJob kind → job_of kind ≡ Some t.w.number → TakesNoOpening taken
      → (StandsWell t → MaySend (λ a. end_took (t.ends a) (taken_at a taken)) t.look.room [] (sent_first peer body)) → IsWell taken (sends_to t kind taken peer (body ∷ []))
  send_well kind taken peer body own whose none may = record {
    kind = own;
    number = whose;
    lines = refl;
    taken_is = refl;
    clients = (refl, tt);
    room = λ s. placed_well (λ a. end_took (t.ends a) (taken_at a taken)) t.look.room (frames (job_end t.w peer) (end_with t peer) (body ∷ []))
        ((next_took (job_end t.w peer) (end_with t peer) taken body none, may s), tt);
  }

  line_well : (kind : EntryKind) (taken : Option FrameView) (peer : ℕ) (m : Message) → IsOfJob kind → job_of kind ≡ Some t.w.number → TakesNoOpening taken
      → (StandsWell t → has_room t peer ≡ true) → IsWell taken (says_to t kind taken peer m)
  line_well kind taken peer m own whose none room = send_well kind taken peer (Line (text_of m)) own whose none (λ s. inr (refl, room s, refl))

  says_well : (taken : Option FrameView) (peer : ℕ) (m : Message) → TakesNoOpening taken → (StandsWell t → has_room t peer ≡ true) → IsWell taken (says_to t (talk t) taken peer m)
  says_well taken peer m none room = line_well (talk t) taken peer m tt refl none room

  opens_well : (peer : ℕ) → (StandsWell t → has_room t peer ≡ true) → IsWell None (sends_to t (talk t) None peer (Opening ∷ []))
  opens_well peer room = send_well (talk t) None peer Opening tt refl tt (λ s. inr (refl, room s, refl))

  -- which calls it makes is nothing to that
  calls_well : (cs : List Call) (taken : Option FrameView) (m : Effect) → IsWell taken m → IsWell taken (record m { calls = cs })
  calls_well cs taken m well = record { kind = well.kind; number = well.number; lines = well.lines; taken_is = well.taken_is; clients = well.clients; room = well.room }

  -- a store call fails, or not
  attempts_well : (cs : List Call) (taken : Option FrameView) (m : Effect) → AreOfJob cs → IsWell taken m → IsWell taken (attempts t cs taken m)
  attempts_well cs taken m own well = calls_well (cs ++ m.calls) taken (unless (failing_call t.look.fails cs) fault m) (go t.look.fails)
    where
      fault : Call → Effect
      fault call = quietly (Fault call (by_me t)) taken

      go : (o : Option Call) → IsWell taken (unless (failing_call o cs) fault m)
      go None = well
      go (Some c) = if_either (λ (x : Option Call). IsWell taken (unless x fault m)) (list_any (same_call c) cs) (Some c) None (λ is. quiet_well (Fault c (by_me t)) taken (own c is) refl) (λ is. well)

  -- ---- its end

  ends_well : (taken : Option FrameView) (outcome : Outcome) → ((a : EndName) → end_took (t.ends a) (taken_at a taken) ≡ t.ends a)
      → (StandsWell t → Each (MayUnlock t (is_lost_ordered outcome)) (others_of t)) → IsWell taken (ends t taken outcome)
  ends_well taken outcome keeps may =
      attempts_well (to_release (owns_share t && not (is_lost_ordered outcome))) taken
      (record { kind = ends_job t.w.number outcome; taken = taken; sent = farewells t (is_lost_ordered outcome); lines = []; calls = [] })
      (release_calls (owns_share t && not (is_lost_ordered outcome)))
      (record {
        kind = tt;
        number = refl;
        lines = refl;
        taken_is = refl;
        clients = farewells_client t (is_lost_ordered outcome);
        room = λ s. subst (λ (now : EndName → End). SendsWell now t.look.room (farewells t (is_lost_ordered outcome)))
            (sym (funext (λ (a : EndName). end_took (t.ends a) (taken_at a taken)) t.ends keeps))
            (placed_well t.ends t.look.room (farewells t (is_lost_ordered outcome)) (farewells_placed t (is_lost_ordered outcome) (may s)));
      })

  -- there is room where it gives locks back
  with_room : (lost : Bool) → list_all (has_room t) (if lost then [] else locked_peers t) ≡ true → Each (MayUnlock t lost) (others_of t)
  with_room true room = Each-from_members (MayUnlock t true) (others_of t) (λ peer among lock live. absurd (true≢false (sym lock ∙ and-false (has_lock t peer))))
  with_room false room = Each-from_members (MayUnlock t false) (others_of t) (λ peer among lock live.
      let locked : has_lock t peer ≡ true = (and_parts (has_lock t peer) true lock).0 in
      list_all_member (has_room t) (locked_peers t) peer room
      (Member-filter_from (λ peer. has_lock t peer && (end_with t peer).opened) (others_of t) peer among (rw (locked, live) refl)))

  needed_well : (outcome : Outcome) → list_all (has_room t) (end_needs t outcome) ≡ true → IsWell None (ends t None outcome)
  needed_well outcome room = ends_well None outcome (λ a. refl) (λ s. with_room (is_lost_ordered outcome) room)

  -- a job that has heard nothing has no lock
  no_lock : t.w.heard ≡ [] → (peer : ℕ) → has_lock t peer ≡ false
  no_lock none peer = ap (λ (hs : List (ℕ × Heard)). has_lock (record t { w = record t.w { heard = hs } }) peer) none

  early_well : has_read t.w.part t.w.phase ≡ false → (outcome : Outcome) → IsWell None (ends t None outcome)
  early_well early outcome = ends_well None outcome (λ a. refl) (λ s. Each-from_members (MayUnlock t (is_lost_ordered outcome)) (others_of t)
      (λ peer among lock live. absurd (true≢false (sym (and_parts (has_lock t peer) (not (is_lost_ordered outcome)) lock).0 ∙ no_lock (s.unheard early) peer))))

  -- ---- its requests

  lock_well : (taken : Option FrameView) (peer : ℕ) → TakesNoOpening taken → (StandsWell t → has_room t peer ≡ true) → IsWell taken (asks_lock t taken peer)
  lock_well taken peer none room = says_well taken peer (LockContent (key_of t)) none room

  order_well : (taken : Option FrameView) (deadline : Option ℕ) (m : Message) → TakesNoOpening taken → (StandsWell t → has_room t (target t) ≡ true) → IsWell taken (orders t taken deadline m)
  order_well taken deadline m none room = line_well (Order t.w.number (target t) deadline (need_now t) (key_of t)) taken (target t) m tt refl none room

  target_well : (version : ℕ) (taken : Option FrameView) (end : Option ℕ) → TakesNoOpening taken → (StandsWell t → has_room t (target t) ≡ true) → IsWell taken (asks_target t version taken end)
  target_well version taken None none room = order_well taken None (Remove (key_of t)) none room
  target_well version taken (Some end) none room =
      if_either (IsWell taken) (nat_lt version 3) (quietly (talk t) taken) (says_to t (talk t) taken (target t) GetTimestamp)
      (λ old. silent_well taken) (λ known. says_well taken (target t) GetTimestamp none room)

  copy_well : (version : ℕ) (taken : Option FrameView) (peer : ℕ) (side : Side) → TakesNoOpening taken → (StandsWell t → has_room t peer ≡ true) → IsWell taken (asks_copy t version taken peer side)
  copy_well version taken peer Local none room = lock_well taken peer none room
  copy_well version taken peer Remote none room =
      if_either (IsWell taken) (target t == peer) (asks_target t version taken (first_end t)) (asks_lock t taken peer)
      (λ same. target_well version taken (first_end t) none (λ s. subst (λ (n : ℕ). has_room t n ≡ true) (sym (eqb-true (target t) peer same)) (room s)))
      (λ other. lock_well taken peer none room)

  asks_well : (version : ℕ) (taken : Option FrameView) (peer : ℕ) (part : Part) → TakesNoOpening taken → (StandsWell t → has_room t peer ≡ true) → IsWell taken (asks t version taken peer part)
  asks_well version taken peer Gets none room =
      attempts_well (to_resume t.look.part) taken (says_to t (talk t) taken peer (Get t.look.part [] (key_of t))) (resume_calls (nat_lt 0 t.look.part))
      (says_well taken peer (Get t.look.part [] (key_of t)) none room)
  asks_well version taken peer Puts none room = says_well taken peer (Put [] (key_of t)) none room
  asks_well version taken peer Drops none room = copy_well version taken peer (side_of t.w) none room

  goes_to_well : (peer : ℕ) → (StandsWell t → has_room t peer ≡ true) → IsWell None (goes_to t peer)
  goes_to_well peer room = if_either (IsWell None) (end_with t peer).opened (asks t t.w.version None peer t.w.part) (sends_to t (talk t) None peer (Opening ∷ []))
      (λ live. asks_well t.w.version None peer t.w.part tt room) (λ shut. opens_well peer room)

  -- ---- the first step

  bars_well : has_read t.w.part t.w.phase ≡ false → (refusal : Option DropRefusal) → IsWell None (bars t refusal)
  bars_well early (Some refusal) = early_well early (Refused refusal)
  bars_well early None = quiet_well (Bar t.w.number (need_now t) (key_of t)) None tt refl

  local_well : has_read t.w.part t.w.phase ≡ false → IsWell None (first_local t)
  local_well early = attempts_well (calls.Has ∷ []) None (bars t (row_refusal (is_there t) (required_there t) (bar_there t) (held_until t))) (are_of_job (calls.Has ∷ []) refl refl refl)
      (bars_well early (row_refusal (is_there t) (required_there t) (bar_there t) (held_until t)))

  abbrev share_of : Bool → Option ℕ → EntryKind
  share_of here bar = own_share t.number (clock_of t + hold_time) t.w.number (key_of t) (talk t) (by_me t) here bar

  shares_well : IsWell None (shares t)
  shares_well = attempts_well (to_hold (is_there t) (bar_there t)) None (quietly (share_of (is_there t) (bar_there t)) None) (hold_calls (is_there t) (bar_there t)) (share_well (is_there t) (bar_there t))
    where
      share_well : (here : Bool) (bar : Option ℕ) → IsWell None (quietly (share_of here bar) None)
      share_well true None = quiet_well (Share t.number (clock_of t + hold_time) (by_me t) (key_of t)) None tt refl
      share_well true (Some job) = silent_well None
      share_well false bar = silent_well None

  own_well : (standing : Standing) → IsWell None (tries_own t standing)
  own_well Asked = shares_well
  own_well standing = silent_well None

  remote_well : has_read t.w.part t.w.phase ≡ false → (required : Option (List ℕ)) → IsWell None (first_remote t required)
  remote_well early (Some text) = early_well early (Refused (refusals.Required text))
  remote_well early None = own_well (t.read.standing (me t))

  first_drop_well : has_read t.w.part t.w.phase ≡ false → (side : Side) → IsWell None (first_drop t side)
  first_drop_well early Local = local_well early
  first_drop_well early Remote = remote_well early (required_there t)

  first_get_well : has_read t.w.part t.w.phase ≡ false → (here filled : Bool) (source : Option ℕ) → list_all (has_room t) (option_to_list source) ≡ true → IsWell None (first_get t here filled source)
  first_get_well early true filled source room =
      if_either (IsWell None) (is_move t.w.what.kind) (quietly (talk t) None) (ends t None (Got None None)) (λ moves. silent_well None) (λ stays. early_well early (Got None None))
  first_get_well early false true source room = early_well early (TransferRefused failures.Busy)
  first_get_well early false false None room = silent_well None
  first_get_well early false false (Some peer) room = goes_to_well peer (λ s. and_first (has_room t peer) true room)

  first_put_well : has_read t.w.part t.w.phase ≡ false → (here : Bool) (peer : Option ℕ) → list_all (has_room t) (option_to_list peer) ≡ true → IsWell None (first_put t here peer)
  first_put_well early true (Some peer) room = goes_to_well peer (λ s. and_first (has_room t peer) true room)
  first_put_well early true None room = early_well early (TransferRefused failures.NotHere)
  first_put_well early false peer room = early_well early (TransferRefused failures.NotHere)

  first_well : has_read t.w.part t.w.phase ≡ false → (part : Part) → list_all (has_room t) (peer_needs t part) ≡ true → IsWell None (first_step t part)
  first_well early Gets room = attempts_well (calls.Has ∷ []) None (first_get t (is_there t) (t.filled (key_of t)) (next_source t)) (are_of_job (calls.Has ∷ []) refl refl refl)
      (first_get_well early (is_there t) (t.filled (key_of t)) (next_source t) room)
  first_well early Puts room = attempts_well (calls.Has ∷ []) None (first_put t (is_there t) t.w.what.peer) (are_of_job (calls.Has ∷ []) refl refl refl)
      (first_put_well early (is_there t) t.w.what.peer room)
  first_well early Drops room = first_drop_well early (side_of t.w)

  -- ---- the next step

  next_get_well : has_read t.w.part t.w.phase ≡ false → (source : Option ℕ) → ((q : ℕ) → source ≡ Some q → StandsWell t → has_room t q ≡ true) → IsWell None (next_get t source)
  next_get_well early None room = early_well early (TransferRefused (failures.NoSource t.w.causes))
  next_get_well early (Some q) room = goes_to_well q (room q refl)

  get_room : (source : Option ℕ) → list_all (has_room t) (option_to_list source) ≡ true → (q : ℕ) → source ≡ Some q → StandsWell t → has_room t q ≡ true
  get_room source room q is s = and_first (has_room t q) true (subst (λ (o : Option ℕ). list_all (has_room t) (option_to_list o) ≡ true) is room)

  put_room : t.w.part ≡ Puts → list_all (has_room t) (option_to_list t.w.what.peer) ≡ true → (q : ℕ) → next_source t ≡ Some q → StandsWell t → has_room t q ≡ true
  put_room part room q is s = subst (λ (n : ℕ). has_room t n ≡ true) same (get_room t.w.what.peer room p to s)
    where
      p : ℕ
      p = (s.peer part).0

      to : t.w.what.peer ≡ Some p
      to = (s.peer part).1

      same : p ≡ q
      same = one_source p q (length t.w.causes) (subst (λ (o : Option ℕ). slice_get (sources t o) (length t.w.causes) ≡ Some q) to is)

  removes_well : (soon : Bool) → in_time (clock_of t) (first_end t) ≡ soon → list_all (has_room t) (if soon then [] else locked_peers t) ≡ true
      → IsWell None (if soon then attempts t (calls.Remove ∷ []) None (quietly (Gone (by_me t) (key_of t)) None) else ends t None (expiry (clock_of t) (first_end t)))
  removes_well true is room = attempts_well (calls.Remove ∷ []) None (quietly (Gone (by_me t) (key_of t)) None) (are_of_job (calls.Remove ∷ []) refl refl refl) (quiet_well (Gone (by_me t) (key_of t)) None tt refl)
  removes_well false is room = expired (first_end t)
    where
      expired : (end : Option ℕ) → IsWell None (ends t None (expiry (clock_of t) end))
      expired None = ends_well None (expiry (clock_of t) None) (λ a. refl) (λ s. with_room false room)
      expired (Some end) = ends_well None (expiry (clock_of t) (Some end)) (λ a. refl) (λ s. with_room false room)

  -- the target is open, and its version too old for a deadline: nothing is sent
  module _ (part : t.w.part ≡ Drops) (side : side_of t.w ≡ Remote) (end : ℕ) (first : first_end t ≡ Some end) (old : nat_lt t.w.version 3 ≡ true) where
    old_target : IsWell None (asks_target t t.w.version None (first_end t))
    old_target = subst (λ (o : Option ℕ). IsWell None (asks_target t t.w.version None o)) (sym first)
        (if_either (IsWell None) (nat_lt t.w.version 3) (quietly (talk t) None) (says_to t (talk t) None (target t) GetTimestamp) (λ is. silent_well None) (λ no. absurd (true≢false (sym old ∙ no))))

    old_copy : IsWell None (asks_copy t t.w.version None (target t) (side_of t.w))
    old_copy = subst (λ (x : Side). IsWell None (asks_copy t t.w.version None (target t) x)) (sym side)
        (if_either (IsWell None) (target t == target t) (asks_target t t.w.version None (first_end t)) (asks_lock t None (target t)) (λ is. old_target) (λ no. absurd (true≢false (sym (eqb_refl (target t)) ∙ no))))

    old_asks : IsWell None (asks t t.w.version None (target t) t.w.part)
    old_asks = subst (λ (x : Part). IsWell None (asks t t.w.version None (target t) x)) (sym part) old_copy

    old_goes : (end_with t (target t)).opened ≡ true → IsWell None (goes_to t (target t))
    old_goes live = subst (λ (b : Bool). IsWell None (if b then asks t t.w.version None (target t) t.w.part else sends_to t (talk t) None (target t) (Opening ∷ []))) (sym live) old_asks

  to_target_well : t.w.part ≡ Drops → side_of t.w ≡ Remote → (end : Option ℕ) → first_end t ≡ end → list_all (has_room t) (target_needs t end) ≡ true → IsWell None (goes_to t (target t))
  to_target_well part side None first room = goes_to_well (target t) (λ s. and_first (has_room t (target t)) true room)
  to_target_well part side (Some end) first room = go ((end_with t (target t)).opened && nat_lt t.w.version 3) refl room
    where
      go : (b : Bool) → ((end_with t (target t)).opened && nat_lt t.w.version 3) ≡ b → list_all (has_room t) (if b then [] else target t ∷ []) ≡ true → IsWell None (goes_to t (target t))
      go true is free = let both = and_parts (end_with t (target t)).opened (nat_lt t.w.version 3) is in old_goes part side end first both.1 both.0
      go false is free = goes_to_well (target t) (λ s. and_first (has_room t (target t)) true free)

  judges_well : t.w.part ≡ Drops → (enough : Bool) (next : Option ℕ) (side : Side) → side_of t.w ≡ side → list_all (has_room t) (judge_needs t enough next side) ≡ true → IsWell None (judges t enough next side)
  judges_well part false (Some peer) side is room = goes_to_well peer (λ s. and_first (has_room t peer) true room)
  judges_well part false None side is room = ends_well None (lacking_outcome t) (λ a. refl) (λ s. with_room false room)
  judges_well part true next Local is room = removes_well (in_time (clock_of t) (first_end t)) refl room
  judges_well part true next Remote is room = to_target_well part is (first_end t) refl room

  next_well : (part : Part) → t.w.part ≡ part → list_all (has_room t) (next_needs t part) ≡ true → IsWell None (next_step t part)
  next_well Gets is room = next_get_well (ap (λ (p : Part). has_read p t.w.phase) is) (next_source t) (get_room (next_source t) room)
  next_well Puts is room = next_get_well (ap (λ (p : Part). has_read p t.w.phase) is) (next_source t) (put_room is room)
  next_well Drops is room = judges_well is (enough_by t.read t.w) (next_by t.read t.w) (side_of t.w) refl room

  -- ---- the steps that take no frame

  -- a content that is gone closes the connection, which is open
  piece_well : (peer at n : ℕ) → has_room t peer ≡ true → (end_with t peer).opened ≡ true → IsWell None (puts_piece t peer at n)
  piece_well peer at n room live =
      attempts_well (calls.Read ∷ []) None (sends_to t (talk t) None peer ((if reaches (content_of t) (at + n) then Bytes n else Closing) ∷ [])) (are_of_job (calls.Read ∷ []) refl refl refl)
      (if_either (λ (body : FrameText). IsWell None (sends_to t (talk t) None peer (body ∷ []))) (reaches (content_of t) (at + n)) (Bytes n) Closing
      (λ has. send_well (talk t) None peer (Bytes n) tt refl tt (λ s. inr (refl, room, refl))) (λ gone. send_well (talk t) None peer Closing tt refl tt (λ s. inl (refl, live))))

  abbrev IsOpenFor : Phase → Type 0
  IsOpenFor (PutsBytes peer start at left) = (end_with t peer).opened ≡ true
  IsOpenFor phase = Unit {0}

  goes_well : (phase : Phase) → t.w.phase ≡ phase → IsOpenFor phase → list_all (has_room t) (needs t phase) ≡ true → IsWell None (goes t phase)
  goes_well Fresh is live room = first_well (fresh_early t.w.part t.w.phase is) t.w.part room
  goes_well Next is live room = next_well t.w.part refl room
  goes_well (PutsBytes peer start at left) is live room = piece_well peer at (min 32768 left) (and_first (has_room t peer) true room) live
  goes_well (PutsWord peer start) is live room = says_well None peer Valid tt (λ s. and_first (has_room t peer) true room)
  goes_well phase is live room = needed_well (outcome_of t phase) room

  alone_open : (phase : Phase) → partner t.w.what.peer phase ≡ None → IsOpenFor phase
  alone_open (PutsBytes peer start at left) none = absurd (none-some peer (sym none))
  alone_open phase none = tt

  partner_open : (peer : ℕ) → (end_with t peer).opened ≡ true → (phase : Phase) → partner t.w.what.peer phase ≡ Some peer → IsOpenFor phase
  partner_open peer live (PutsBytes p start at left) on = subst (λ (n : ℕ). (end_with t n).opened ≡ true) (sym (same_Some p peer on)) live
  partner_open peer live phase on = tt

  -- ---- the steps that take a frame

  module _ (f : FrameView) (peer : ℕ) (on : partner t.w.what.peer t.w.phase ≡ Some peer) (room : has_room t peer ≡ true) (mine : takes_at (job_end t.w peer) f ≡ true) (may : may_take (end_with t peer) f ≡ true) (live : (end_with t peer).opened ≡ true) where
    -- an end that is open takes no opening
    other_body : (b : Bool) → is_opening f.body ≡ b
        → (if b then not (end_with t peer).opened && nat_lt (end_with t peer).epoch f.epoch else (end_with t peer).opened && (f.epoch == (end_with t peer).epoch)) ≡ true → is_opening f.body ≡ false
    other_body true is g = absurd (true≢false (sym (subst (λ (o : Bool). (not o && nat_lt (end_with t peer).epoch f.epoch) ≡ true) live g)))
    other_body false is g = is

    no_opening : is_opening f.body ≡ false
    no_opening = other_body (is_opening f.body) refl may

    comes_down : f.up ≡ false
    comes_down = not_up f.up (and_parts ((f.peer == peer) && (f.slot == t.w.slot)) (same_bool true (if f.up then false else true)) mine).1

    word_well : (m : Message) → IsWell (Some f) (says_to t (talk t) (Some f) peer m)
    word_well m = says_well (Some f) peer m no_opening (λ s. room)

    hears_well : IsWell (Some f) (hears t f)
    hears_well = silent_well (Some f)

    -- the end is open after it took the frame
    open_after : (body : FrameText) → is_closing body ≡ false → (end_takes (end_with t peer) f.epoch body).opened ≡ true
    open_after Opening other = refl
    open_after Closing other = absurd (true≢false other)
    open_after (Line text) other = live
    open_after (Bytes n) other = live

    wrong_well : is_closing f.body ≡ false → IsWell (Some f) (wrong_message t f peer)
    wrong_well other = send_well (talk t) (Some f) peer Closing tt refl no_opening (λ s. inl (
      refl,
      ap (λ (o : Option FrameView). (end_took (end_with t peer) o).opened) (ap (λ (b : Bool). if b then Some f else None) mine) ∙ open_after f.body other,
    ))

    bytes_well : (phase : Phase) (n : ℕ) → is_closing f.body ≡ false → IsWell (Some f) (takes_bytes t f peer n phase)
    bytes_well (GetsBytes p start size left) n other =
        if_either (IsWell (Some f)) (nat_lt 0 n && nat_le n left) (attempts t (calls.Append ∷ []) (Some f) (quietly (talk t) (Some f))) (wrong_message t f peer)
        (λ fits. attempts_well (calls.Append ∷ []) (Some f) (quietly (talk t) (Some f)) (are_of_job (calls.Append ∷ []) refl refl refl) (silent_well (Some f))) (λ over. wrong_well other)
    bytes_well phase n other = wrong_well other

    module _ (text : List ℕ) (line : f.body ≡ Line text) where
      wrong_line : IsWell (Some f) (wrong_message t f peer)
      wrong_line = wrong_well (ap (λ (b : FrameText). is_closing b) line)

      -- a get
      gains_well : (size : ℕ) (right : Bool) → IsWell (Some f) (gains t f peer size right)
      gains_well size true = line_well (Gain (by_me t) size (key_of t)) (Some f) peer Success tt refl no_opening (λ s. room)
      gains_well size false = word_well Failure

      get_well : (phase : Phase) (m : Message) → IsWell (Some f) (takes_get t f peer phase m)
      get_well (GetsData p start) (Data n) = hears_well
      get_well (GetsWord p start size) Valid = attempts_well (to_commit t.look.right) (Some f) (gains t f peer size t.look.right) (commit_calls t.look.right) (gains_well size t.look.right)
      get_well (GetsWord p start size) Invalid = word_well Failure
      get_well phase m = wrong_line

      -- a copy
      from_well : (n : ℕ) → IsWell (Some f) (puts_from t f peer n)
      from_well n =
          let m = Data (bytes_left (content_of t) n) in
          attempts_well (calls.Size ∷ []) (Some f) (if reaches (content_of t) n then says_to t (talk t) (Some f) peer m else wrong_message t f peer) (are_of_job (calls.Size ∷ []) refl refl refl)
          (if_either (IsWell (Some f)) (reaches (content_of t) n) (says_to t (talk t) (Some f) peer m) (wrong_message t f peer) (λ has. word_well m) (λ past. wrong_line))

      put_well : (phase : Phase) (m : Message) → IsWell (Some f) (takes_put t f peer phase m)
      put_well (PutsOffer p) AlreadyHave = hears_well
      put_well (PutsOffer p) Failure = hears_well
      put_well (PutsOffer p) (Error word) = if_either (IsWell (Some f)) (bytes_eq word (codes "busy")) (hears t f) (wrong_message t f peer) (λ busy. hears_well) (λ other. wrong_line)
      put_well (PutsOffer p) (PutFrom n) = from_well n
      put_well (PutsAnswer p start) Success = hears_well
      put_well (PutsAnswer p start) Failure = hears_well
      put_well phase m = wrong_line

      -- a drop: the timestamp is the target's, which is the job's peer
      target_room : side_of t.w ≡ Remote → t.w.phase ≡ AsksTime → has_room t (target t) ≡ true
      target_room side at =
          let to : t.w.what.peer ≡ Some peer = subst (λ (p : Phase). partner t.w.what.peer p ≡ Some peer) at on in
          let same : target t ≡ peer = ap (λ (x : Side). or_own (me t) x t.w.what.peer) side ∙ ap (λ (o : Option ℕ). or_own (me t) Remote o) to in
          subst (λ (n : ℕ). has_room t n ≡ true) (sym same) room

      times_well : side_of t.w ≡ Remote → t.w.phase ≡ AsksTime → (n : ℕ) (end : Option ℕ) → IsWell (Some f) (times t f n end)
      times_well side at n None = order_well (Some f) None (Remove (key_of t)) no_opening (λ s. target_room side at)
      times_well side at n (Some end) =
          let deadline = n + (end - clock_of t) / 1000 in
          if_either (IsWell (Some f)) (nat_lt (clock_of t) end) (orders t (Some f) (Some deadline) (RemoveBefore deadline (key_of t))) (ends t (Some f) (Refused (refusals.Expired end (clock_of t))))
          (λ soon. order_well (Some f) (Some deadline) (RemoveBefore deadline (key_of t)) no_opening (λ s. target_room side at))
          (λ late. ends_well (Some f) (Refused (refusals.Expired end (clock_of t))) (λ a. line_keeps a (t.ends a) f text line) (λ s. with_room false (s.locks at)))

      time_well : t.w.phase ≡ AsksTime → (n : ℕ) (side : Side) → side_of t.w ≡ side → IsWell (Some f) (takes_time t f peer n side)
      time_well at n Local is = wrong_line
      time_well at n Remote is = if_either (IsWell (Some f)) (nat_lt n (2 ^ 61)) (times t f n (first_end t)) (wrong_message t f peer) (λ small. times_well is at n (first_end t)) (λ large. wrong_line)

      drop_well : (phase : Phase) → t.w.phase ≡ phase → (m : Message) → IsWell (Some f) (takes_drop t f peer phase m)
      drop_well (AsksLock p since) at Success = hears_well
      drop_well (AsksLock p since) at Failure = word_well (CheckPresent (key_of t))
      drop_well (AsksLook p) at Success = hears_well
      drop_well (AsksLook p) at Failure = hears_well
      drop_well AsksTime at (Timestamp n) = time_well at n (side_of t.w) refl
      drop_well Orders at Success = hears_well
      drop_well Orders at Failure = hears_well
      drop_well phase at m = wrong_line

      answer_well : (part : Part) (phase : Phase) → t.w.phase ≡ phase → (m : Message) → IsWell (Some f) (takes_answer t f peer part phase m)
      answer_well Gets phase at m = get_well phase m
      answer_well Puts phase at m = put_well phase m
      answer_well Drops phase at m = drop_well phase at m

      takes_well : (phase : Phase) → t.w.phase ≡ phase → (m : Message) → IsWell (Some f) (takes t f peer phase m)
      takes_well (Opens p) at (AuthSuccess id) = word_well (Version 3)
      takes_well (Greets p) at (Version n) = if_either (IsWell (Some f)) (nat_le n 3) (asks t n (Some f) peer t.w.part) (wrong_message t f peer)
          (λ known. asks_well n (Some f) peer t.w.part no_opening (λ s. room)) (λ unknown. wrong_line)
      takes_well phase at m = answer_well t.w.part phase at m

      text_well : (o : Option Message) → IsWell (Some f) (takes_text t f peer o)
      text_well None = wrong_line
      text_well (Some m) = takes_well t.w.phase refl m

    frame_well : (body : FrameText) → f.body ≡ body → IsWell (Some f) (takes_frame t peer f body)
    frame_well Opening is = wrong_well (ap (λ (b : FrameText). is_closing b) is)
    frame_well Closing is = hears_well
    frame_well (Bytes n) is = bytes_well t.w.phase n (ap (λ (b : FrameText). is_closing b) is)
    frame_well (Line text) is = text_well text is (message_of text)

  -- ---- the step

  -- it takes this frame, which waits for it
  pub record TakesOne (m : Effect) (f : FrameView) : Type 0 where
    pub well : IsWell (Some f) m
    pub waits : TakesAtRoom t f
    pub down : f.up ≡ false
    pub opening : is_opening f.body ≡ false

  abbrev pub IsMade : Effect → Type 0
  IsMade m = IsWell None m ⊎ ((f : FrameView) × TakesOne m f)

  on_made : IsOpenFor t.w.phase → (m : Effect) → goes_on t ≡ Some m → IsMade m
  on_made live m is = go (list_all (has_room t) (needs t t.w.phase)) refl is
    where
      go : (b : Bool) → list_all (has_room t) (needs t t.w.phase) ≡ b → (if b then Some (goes t t.w.phase) else None) ≡ Some m → IsMade m
      go false r g = absurd (none-some m g)
      go true r g = subst IsMade (same_Some (goes t t.w.phase) m g) (inl (goes_well t.w.phase refl live r))

  awaits_made : (peer : ℕ) → partner t.w.what.peer t.w.phase ≡ Some peer → (end_with t peer).opened ≡ true → (o : Option FrameView) → waiting_frame (end_with t peer) t.look (job_end t.w peer) ≡ o
      → (m : Effect) → awaits t peer o ≡ Some m → IsMade m
  awaits_made peer on live None at m is = absurd (none-some m is)
  awaits_made peer on live (Some f) at m is = go (has_room t peer) refl is
    where
      found : (takes_at (job_end t.w peer) f && may_take (end_with t peer) f) ≡ true
      found = (find_member (λ g. takes_at (job_end t.w peer) g && may_take (end_with t peer) g) t.look.at_hand f at).1

      both : (takes_at (job_end t.w peer) f ≡ true) × (may_take (end_with t peer) f ≡ true)
      both = and_parts (takes_at (job_end t.w peer) f) (may_take (end_with t peer) f) found

      go : (b : Bool) → has_room t peer ≡ b → (if b then Some (takes_frame t peer f f.body) else None) ≡ Some m → IsMade m
      go false r g = absurd (none-some m g)
      go true r g = subst IsMade (same_Some (takes_frame t peer f f.body) m g) (inr (
        f,
        record {
          well = frame_well f peer on r both.0 both.1 live f.body refl;
          waits = record { peer = peer; partner_is = on; opened = live; waits = at; room = r };
          down = comes_down f peer on r both.0 both.1 live;
          opening = no_opening f peer on r both.0 both.1 live;
        },
      ))

  partner_made : (peer : ℕ) → partner t.w.what.peer t.w.phase ≡ Some peer → (b : Bool) → (end_with t peer).opened ≡ b → (m : Effect) → with_partner t peer b ≡ Some m → IsMade m
  partner_made peer on false stood m is = subst IsMade (same_Some (quietly (talk t) None) m is) (inl (silent_well None))
  partner_made peer on true live m is = go (is_awaiting t.w.phase) is
    where
      go : (b : Bool) → (if b then awaits t peer (waiting_frame (end_with t peer) t.look (job_end t.w peer)) else goes_on t) ≡ Some m → IsMade m
      go true g = awaits_made peer on live (waiting_frame (end_with t peer) t.look (job_end t.w peer)) refl m g
      go false g = on_made (partner_open peer live t.w.phase on) m g

  step_made : (o : Option ℕ) → partner t.w.what.peer t.w.phase ≡ o → (m : Effect) → by_partner t o ≡ Some m → IsMade m
  step_made None alone m is = on_made (alone_open t.w.phase alone) m is
  step_made (Some peer) on m is = partner_made peer on (end_with t peer).opened refl m is

  -- ---- what is told of it

  pub made_sends : (m : Effect) → by_partner t (partner t.w.what.peer t.w.phase) ≡ Some m → StandsWell t → SendsWell (λ a. end_took (t.ends a) (taken_at a m.taken)) t.look.room m.sent
  made_sends m is s = by_frame (step_made (partner t.w.what.peer t.w.phase) refl m is)
    where
      sends_well : (o : Option FrameView) → IsWell o m → SendsWell (λ a. end_took (t.ends a) (taken_at a m.taken)) t.look.room m.sent
      sends_well o w = subst (λ (x : Option FrameView). SendsWell (λ a. end_took (t.ends a) (taken_at a x)) t.look.room m.sent) (sym w.taken_is) (w.room s)

      by_frame : IsMade m → SendsWell (λ a. end_took (t.ends a) (taken_at a m.taken)) t.look.room m.sent
      by_frame (inl w) = sends_well None w
      by_frame (inr x) = sends_well (Some x.0) x.1.well

  pub made_number : (m : Effect) → by_partner t (partner t.w.what.peer t.w.phase) ≡ Some m → job_of m.kind ≡ Some t.w.number
  made_number m is = by_frame (step_made (partner t.w.what.peer t.w.phase) refl m is)
    where
      by_frame : IsMade m → job_of m.kind ≡ Some t.w.number
      by_frame (inl w) = w.number
      by_frame (inr x) = x.1.well.number

  pub made_own : (m : Effect) → by_partner t (partner t.w.what.peer t.w.phase) ≡ Some m → IsOwnEntry m
  made_own m is = by_frame (step_made (partner t.w.what.peer t.w.phase) refl m is)
    where
      own : (o : Option FrameView) → IsWell o m → TakesNoOpening o → ((a : EndName) → a.client ≡ false → taken_at a o ≡ None) → IsOwnEntry m
      own o w opening none = record {
        kind = w.kind;
        lines = w.lines;
        opening = subst (λ (x : Option FrameView). TakesNoOpening x) (sym w.taken_is) opening;
        clients = λ a server. (ap (λ (x : Option FrameView). taken_at a x) w.taken_is ∙ none a server, none_sent a server m.sent w.clients);
      }

      by_frame : IsMade m → IsOwnEntry m
      by_frame (inl w) = own None w tt (λ a server. refl)
      by_frame (inr x) = own (Some x.0) x.1.well x.1.opening (λ a server. ap (λ (b : Bool). if b then Some x.0 else None) (served_takes a x.0 server x.1.down))

  pub made_takes : (m : Effect) → by_partner t (partner t.w.what.peer t.w.phase) ≡ Some m → (f : FrameView) → m.taken ≡ Some f → TakesAtRoom t f
  made_takes m is f taken = by_frame (step_made (partner t.w.what.peer t.w.phase) refl m is)
    where
      by_frame : IsMade m → TakesAtRoom t f
      by_frame (inl w) = absurd (none-some f (sym w.taken_is ∙ taken))
      by_frame (inr x) = subst (λ (g : FrameView). TakesAtRoom t g) (same_Some x.0 f (sym x.1.well.taken_is ∙ taken)) x.1.waits
