-- What a step says of its store calls: it fails by one of them, which they are doesn't hang on what fails, and they rise.
use Rattle.std.proofs.Common.{◌≡◌, ℕ, ◌+◌, ◌-◌, ◌<◌, ◌≤◌, ◌^◌, Bool, true, false, List, [], ◌∷◌, ◌++◌, Option, Some, None, ◌⊎◌, inl, inr, refl, sym, ap, ◌∙◌, subst, arith}
use Rattle.std.specs.Prelude.{◌==◌, ◌||◌, ◌&&◌, ◌*◌, ◌/◌, not, bytes_eq, codes, find, if◌then◌else◌, min, nat_le, nat_lt}
use Rattle.std.specs.List.{list_all, list_any}
use Rattle.std.specs.Option.{option_map, option_or}
use Rattle.std.proofs.lemmas.List.Folds.{list_any-append}
use Rattle.annex_base.specs.Calls.{call_number, same_call}
use Rattle.annex_base.specs.Lists.{Each}
use Rattle.annex_base.specs.OptionSteps.{first_some}
use Rattle.annex_base.specs.declared.kinds.Call.{Call}
use Rattle.annex_base.specs.declared.kinds.Call.TheVariants as calls
use Rattle.annex_base.specs.declared.kinds.Found.TheVariants as found
use Rattle.drop_proof.specs.declared.rule.Side.{Side}
use Rattle.drop_proof.specs.declared.rule.Side.TheVariants.{Local, Remote}
use Rattle.run_data.specs.declared.entry.By.{By}
use Rattle.run_data.specs.declared.entry.EntryKind.{EntryKind}
use Rattle.run_data.specs.declared.entry.EntryKind.TheVariants.{Fault, Talk, End as ends_job}
use Rattle.run_data.specs.declared.entry.FrameText.{FrameText}
use Rattle.run_data.specs.declared.entry.FrameText.TheVariants.{Bytes, Closing, Line, Opening}
use Rattle.run_data.specs.declared.entry.FrameView.{FrameView}
use Rattle.run_data.specs.declared.job.DropRefusal.{DropRefusal}
use Rattle.run_data.specs.declared.job.DropRefusal.TheVariants as refusals
use Rattle.run_data.specs.declared.job.Outcome.{Outcome}
use Rattle.run_data.specs.declared.job.Outcome.TheVariants.{Got, Refused, TransferRefused}
use Rattle.run_data.specs.declared.job.TransferRefusal.TheVariants as failures
use Rattle.p2p_wire.specs.declared.message.Message.{Message}
use Rattle.p2p_wire.specs.declared.message.Message.TheVariants as messages
use Rattle.p2p_wire.specs.Messages.{message_of}
use Rattle.node_model.specs.Calls.{AreRising, to_commit, to_hold, to_lock, to_offer, to_read, to_release, to_remove, to_resume}
use Rattle.node_model.specs.Clocks.{hold_time}
use Rattle.node_model.specs.DropStep.{asks_copy, asks_lock, asks_target, bars, expiry, first_drop, first_end, first_remote, in_time, lacking_outcome, orders, own_share, removal_outcome, removes, required_there, row_refusal, held_until, takes_drop, takes_time, target, times, tries_own}
use Rattle.node_model.specs.Ends.{End, EndName, server_end}
use Rattle.node_model.specs.Evidence as seen
use Rattle.node_model.specs.Jobs as Jobs
use Rattle.node_model.specs.Jobs.{Drops, Gets, Part, Phase, Puts, Work, is_move, job_end, partner, side_of}
use Rattle.node_model.specs.JobStep.{Turn, attempts, bar_there, by_me, clock_of, end_needs, end_with, ends, farewells, hears, is_there, key_of, me, owns_share, quietly, says_to, sends_to, talk, turn_of, wrong_message}
use Rattle.node_model.specs.Knows.{enough_by, next_by}
use Rattle.node_model.specs.Look.{Look, Effect, failed_in, failing_call, unless, waiting_frame}
use Rattle.node_model.specs.OwedLines.{OwedLine}
use Rattle.node_model.specs.OwedStep.{owed_step, pays_first}
use Rattle.node_model.specs.Requests.{asks, goes_to}
use Rattle.node_model.specs.Rows.{is_lost_ordered}
use Rattle.node_model.specs.SetUp.{SetUp, served_connections, slots}
use Rattle.node_model.specs.Sessions.{Doing, Session, reaches}
use Rattle.node_model.specs.Sessions as sessions
use Rattle.node_model.specs.SessionStep.{Here, Reply, bar_on, by_of, bytes_left, check_answer, close_kind, content_of as content_here, failure_line, gives_made, gives_next, here, is_held, is_here, lock_answer, now_of, on_bytes, on_frame, on_lock, on_message, on_piece, on_put, on_remove, on_remove_before, on_request, on_text, put_answer, remove_answer, reply, session_at, session_makes, session_step, shuts, silent_reply, tries, unexpected_reply, valid_answer}
use Rattle.node_model.specs.State.{State}
use Rattle.node_model.specs.Step.{step}
use Rattle.node_model.specs.TransferStep.{content_of, first_get, first_put, gains, next_get, next_source, takes_bytes, takes_get, takes_put}
use Rattle.node_model.specs.Turns.{awaits, by_partner, first_step, goes, goes_on, has_room, is_awaiting, job_step, judges, needs, next_step, outcome_of, slot_step, takes, takes_answer, takes_frame, takes_text, with_partner}

-- ---- rising calls, from a number on

abbrev RiseFrom : ℕ → List Call → Type 0
RiseFrom n [] = Unit {0}
RiseFrom n (c ∷ cs) = (n ≤ call_number c) × RiseFrom (call_number c + 1) cs

above : (n m : ℕ) → m < n → (cs : List Call) → RiseFrom n cs → Each (λ d. m < call_number d) cs
above n m less [] r = tt
above n m less (c ∷ cs) r = (
  (let a : n ≤ call_number c = r.0 in omega arith),
  above (call_number c + 1) m (let a : n ≤ call_number c = r.0 in omega arith) cs r.1,
)

rising : (n : ℕ) (cs : List Call) → RiseFrom n cs → AreRising cs
rising n [] r = tt
rising n (c ∷ cs) r = (above (call_number c + 1) (call_number c) (omega arith) cs r.1, rising (call_number c + 1) cs r.1)

loose_rise : (cs : List Call) → RiseFrom 1 cs → RiseFrom 0 cs
loose_rise [] r = tt
loose_rise (c ∷ cs) r = (omega arith, r.1)

-- ---- what is made, by what fails: its kind, and its calls

record Tells (n : ℕ) (kind : Option Call → EntryKind) (made : Option Call → List Call) : Type 0 where
  cs : List Call
  rises : RiseFrom n cs
  same : (c : Option Call) → made c ≡ cs
  fails : (c : Option Call) → failed_in (kind c) ≡ failing_call c cs

nothing : (c : Option Call) → failing_call c [] ≡ None
nothing None = refl
nothing (Some call) = refl

loose : (kind : Option Call → EntryKind) (made : Option Call → List Call) → Tells 1 kind made → Tells 0 kind made
loose kind made x = record { cs = x.cs; rises = loose_rise x.cs x.rises; same = x.same; fails = x.fails }

abbrev none : (n : ℕ) (kind : Option Call → EntryKind) → ((c : Option Call) → failed_in (kind c) ≡ None) → Tells n kind (λ c. [])
none n kind well = record { cs = []; rises = tt; same = λ c. refl; fails = λ c. well c ∙ sym (nothing c) }

-- one of these calls fails, or else what follows them
after : {X : Type 0} (n : ℕ) (kind : X → EntryKind) (fault : Call → X) → ((call : Call) → failed_in (kind (fault call)) ≡ Some call) → (cs : List Call) (F : Option Call → X) (made : Option Call → List Call)
    → (x : Tells 1 (λ c. kind (F c)) made) → RiseFrom n (cs ++ x.cs) → Tells n (λ c. kind (unless (failing_call c cs) fault (F c))) (λ c. cs ++ made c)
after n kind fault failed cs F made x r = record { cs = cs ++ x.cs; rises = r; same = λ c. ap (λ ds. cs ++ ds) (x.same c); fails = go }
  where
    at : (d : Call) (b : Bool) → failed_in (kind (unless (if b then Some d else None) fault (F (Some d)))) ≡ (if b || list_any (same_call d) x.cs then Some d else None)
    at d true = failed d
    at d false = x.fails (Some d)

    go : (c : Option Call) → failed_in (kind (unless (failing_call c cs) fault (F c))) ≡ failing_call c (cs ++ x.cs)
    go None = x.fails None
    go (Some d) = at d (list_any (same_call d) cs) ∙ ap (λ (b : Bool). if b then Some d else None) (sym (list_any-append (same_call d) cs x.cs))

-- ---- a job

abbrev Made : ℕ → (Option Call → Effect) → Type 0
Made n F = Tells n (λ c. (F c).kind) (λ c. (F c).calls)

abbrev either : (n : ℕ) (b : Bool) (F G : Option Call → Effect) → Made n F → Made n G → Made n (λ c. if b then F c else G c)
either n true F G x y = x
either n false F G x y = y

module _ (t : Turn) where
  -- the same turn, where this fails
  abbrev u : Option Call → Turn
  u c = record t { look = record t.look { fails = c } }

  abbrev calm : (n : ℕ) (kind : EntryKind) → failed_in kind ≡ None → Tells n (λ c. kind) (λ c. [])
  calm n kind well = none n (λ c. kind) (λ c. well)

  tries_calls : (n : ℕ) (cs : List Call) (taken : Option FrameView) (F : Option Call → Effect) (x : Made 1 F) → RiseFrom n (cs ++ x.cs) → Made n (λ c. attempts (u c) cs taken (F c))
  tries_calls n cs taken F x r = after n (λ (m : Effect). m.kind) (λ call. quietly (Fault call (by_me t)) taken) (λ call. refl) cs F (λ c. (F c).calls) x r

  abbrev quiet : (n : ℕ) → Tells n (λ c. talk t) (λ c. [])
  quiet n = calm n (talk t) refl

  release_rises : (b : Bool) → RiseFrom 1 (to_release b ++ [])
  release_rises true = (omega arith, tt)
  release_rises false = tt

  end_calls : (taken : Option FrameView) (outcome : Outcome) → Made 1 (λ c. ends (u c) taken outcome)
  end_calls taken outcome =
      let b = owns_share t && not (is_lost_ordered outcome) in
      tries_calls 1 (to_release b) taken (λ c. record { kind = ends_job t.w.number outcome; taken = taken; sent = farewells t (is_lost_ordered outcome); lines = []; calls = [] }) (calm 1 (ends_job t.w.number outcome) refl) (release_rises b)

  -- ---- requests

  target_calls : (version : ℕ) (taken : Option FrameView) (end : Option ℕ) → Made 1 (λ c. asks_target (u c) version taken end)
  target_calls version taken None = calm 1 _ refl
  target_calls version taken (Some end) = either 1 (nat_lt version 3) (λ c. quietly (talk t) taken) (λ c. says_to t (talk t) taken (target t) messages.GetTimestamp) (quiet 1) (quiet 1)

  copy_calls : (version : ℕ) (taken : Option FrameView) (peer : ℕ) (side : Side) → Made 1 (λ c. asks_copy (u c) version taken peer side)
  copy_calls version taken peer Local = quiet 1
  copy_calls version taken peer Remote = either 1 (target t == peer) (λ c. asks_target (u c) version taken (first_end t)) (λ c. asks_lock t taken peer) (target_calls version taken (first_end t)) (quiet 1)

  resume_rises : (b : Bool) → RiseFrom 1 ((calls.PartSize ∷ to_read b) ++ [])
  resume_rises true = (omega arith, (omega arith, tt))
  resume_rises false = (omega arith, tt)

  request_calls : (version : ℕ) (taken : Option FrameView) (peer : ℕ) (part : Part) → Made 1 (λ c. asks (u c) version taken peer part)
  request_calls version taken peer Gets = tries_calls 1 (to_resume t.look.part) taken (λ c. says_to t (talk t) taken peer (messages.Get t.look.part [] (key_of t))) (quiet 1) (resume_rises (nat_lt 0 t.look.part))
  request_calls version taken peer Puts = quiet 1
  request_calls version taken peer Drops = copy_calls version taken peer (side_of t.w)

  opening_calls : (peer : ℕ) → Made 1 (λ c. goes_to (u c) peer)
  opening_calls peer = either 1 (end_with t peer).opened (λ c. asks (u c) t.w.version None peer t.w.part) (λ c. sends_to t (talk t) None peer (Opening ∷ [])) (request_calls t.w.version None peer t.w.part) (quiet 1)

  -- ---- a drop

  has_calls : (F : Option Call → Effect) → Made 1 F → Made 0 (λ c. attempts (u c) (calls.Has ∷ []) None (F c))
  has_calls F x = tries_calls 0 (calls.Has ∷ []) None F x (omega arith, x.rises)

  bar_calls : (why : Option DropRefusal) → Made 1 (λ c. bars (u c) why)
  bar_calls (Some why) = end_calls None (Refused why)
  bar_calls None = calm 1 _ refl

  own_kind : (hold end job : ℕ) (key : List ℕ) (by : By) (here : Bool) (bar : Option ℕ) → failed_in (own_share hold end job key (talk t) by here bar) ≡ None
  own_kind hold end job key by true None = refl
  own_kind hold end job key by true (Some job') = refl
  own_kind hold end job key by false bar = refl

  hold_rises : (here : Bool) (bar : Option ℕ) → RiseFrom 0 (to_hold here bar ++ [])
  hold_rises true None = (omega arith, (omega arith, tt))
  hold_rises true (Some job) = (omega arith, tt)
  hold_rises false bar = (omega arith, tt)

  own_calls : (s : seen.Standing) → Made 0 (λ c. tries_own (u c) s)
  own_calls seen.Asked =
      let kind : EntryKind = own_share t.number (clock_of t + hold_time) t.w.number (key_of t) (talk t) (by_me t) (is_there t) (bar_there t) in
      tries_calls 0 (to_hold (is_there t) (bar_there t)) None (λ c. quietly kind None) (calm 1 kind (own_kind t.number (clock_of t + hold_time) t.w.number (key_of t) (by_me t) (is_there t) (bar_there t))) (hold_rises (is_there t) (bar_there t))
  own_calls seen.Claimed = quiet 0
  own_calls (seen.Ignored cause) = quiet 0

  first_remote_calls : (text : Option (List ℕ)) → Made 0 (λ c. first_remote (u c) text)
  first_remote_calls (Some text) = loose _ _ (end_calls None (Refused (refusals.Required text)))
  first_remote_calls None = own_calls (t.read.standing (me t))

  first_drop_calls : (side : Side) → Made 0 (λ c. first_drop (u c) side)
  first_drop_calls Local = let why = row_refusal (is_there t) (required_there t) (bar_there t) (held_until t) in has_calls (λ c. bars (u c) why) (bar_calls why)
  first_drop_calls Remote = first_remote_calls (required_there t)

  removal_calls : Made 1 (λ c. removes (u c))
  removal_calls =
      let gone : EntryKind = Rattle.run_data.specs.declared.entry.EntryKind.TheVariants.Gone (by_me t) (key_of t) in
      either 1 (in_time (clock_of t) (first_end t)) (λ c. attempts (u c) (calls.Remove ∷ []) None (quietly gone None)) (λ c. ends (u c) None (expiry (clock_of t) (first_end t)))
      (tries_calls 1 (calls.Remove ∷ []) None (λ c. quietly gone None) (calm 1 gone refl) (omega arith, tt)) (end_calls None (expiry (clock_of t) (first_end t)))

  judge_calls : (enough : Bool) (next : Option ℕ) (side : Side) → Made 1 (λ c. judges (u c) enough next side)
  judge_calls false (Some peer) side = opening_calls peer
  judge_calls false None side = end_calls None (lacking_outcome t)
  judge_calls true next Local = removal_calls
  judge_calls true next Remote = opening_calls (target t)

  order_calls : (f : FrameView) (n : ℕ) (end : Option ℕ) → Made 1 (λ c. times (u c) f n end)
  order_calls f n None = calm 1 _ refl
  order_calls f n (Some end) =
      let deadline = n + (end - clock_of t) / 1000 in
      either 1 (nat_lt (clock_of t) end) (λ c. orders (u c) (Some f) (Some deadline) (messages.RemoveBefore deadline (key_of t))) (λ c. ends (u c) (Some f) (Refused (refusals.Expired end (clock_of t))))
      (calm 1 _ refl) (end_calls (Some f) (Refused (refusals.Expired end (clock_of t))))

  time_calls : (f : FrameView) (peer n : ℕ) (side : Side) → Made 1 (λ c. takes_time (u c) f peer n side)
  time_calls f peer n Local = quiet 1
  time_calls f peer n Remote = either 1 (nat_lt n (2 ^ 61)) (λ c. times (u c) f n (first_end t)) (λ c. wrong_message t f peer) (order_calls f n (first_end t)) (quiet 1)

  drop_calls : (f : FrameView) (peer : ℕ) (ph : Phase) (m : Message) → Made 1 (λ c. takes_drop (u c) f peer ph m)
  drop_calls f peer Jobs.AsksTime (messages.Timestamp n) = time_calls f peer n (side_of t.w)
  drop_calls f peer (Jobs.AsksLock p since) messages.Success = quiet 1
  drop_calls f peer (Jobs.AsksLock p since) messages.Failure = quiet 1
  drop_calls f peer (Jobs.AsksLook p) messages.Success = quiet 1
  drop_calls f peer (Jobs.AsksLook p) messages.Failure = quiet 1
  drop_calls f peer Jobs.Orders messages.Success = quiet 1
  drop_calls f peer Jobs.Orders messages.Failure = quiet 1
  drop_calls f peer ph m = quiet 1

  -- ---- a transfer

  first_get_calls : (here filled : Bool) (source : Option ℕ) → Made 1 (λ c. first_get (u c) here filled source)
  first_get_calls true filled source = either 1 (is_move t.w.what.kind) (λ c. quietly (talk t) None) (λ c. ends (u c) None (Got None None)) (quiet 1) (end_calls None (Got None None))
  first_get_calls false true source = end_calls None (TransferRefused failures.Busy)
  first_get_calls false false None = quiet 1
  first_get_calls false false (Some peer) = opening_calls peer

  next_get_calls : (source : Option ℕ) → Made 1 (λ c. next_get (u c) source)
  next_get_calls None = end_calls None (TransferRefused (failures.NoSource t.w.causes))
  next_get_calls (Some peer) = opening_calls peer

  first_put_calls : (here : Bool) (peer : Option ℕ) → Made 1 (λ c. first_put (u c) here peer)
  first_put_calls true (Some peer) = opening_calls peer
  first_put_calls true None = end_calls None (TransferRefused failures.NotHere)
  first_put_calls false peer = end_calls None (TransferRefused failures.NotHere)

  bytes_calls : (f : FrameView) (peer n : ℕ) (ph : Phase) → Made 1 (λ c. takes_bytes (u c) f peer n ph)
  bytes_calls f peer n (Jobs.GetsBytes p start size left) =
      either 1 (nat_lt 0 n && nat_le n left) (λ c. attempts (u c) (calls.Append ∷ []) (Some f) (quietly (talk t) (Some f))) (λ c. wrong_message t f peer)
      (tries_calls 1 (calls.Append ∷ []) (Some f) (λ c. quietly (talk t) (Some f)) (quiet 1) (omega arith, tt)) (quiet 1)
  bytes_calls f peer n ph = quiet 1

  commit_rises : (right : Bool) → RiseFrom 1 (to_commit right ++ [])
  commit_rises true = (omega arith, tt)
  commit_rises false = (omega arith, tt)

  gain_calls : (f : FrameView) (peer size : ℕ) (right : Bool) → Made 1 (λ c. attempts (u c) (to_commit right) (Some f) (gains t f peer size right))
  gain_calls f peer size true = tries_calls 1 (to_commit true) (Some f) (λ c. gains t f peer size true) (calm 1 _ refl) (commit_rises true)
  gain_calls f peer size false = tries_calls 1 (to_commit false) (Some f) (λ c. gains t f peer size false) (quiet 1) (commit_rises false)

  get_calls : (f : FrameView) (peer : ℕ) (ph : Phase) (m : Message) → Made 1 (λ c. takes_get (u c) f peer ph m)
  get_calls f peer (Jobs.GetsWord p start size) messages.Valid = gain_calls f peer size t.look.right
  get_calls f peer (Jobs.GetsData p start) (messages.Data n) = quiet 1
  get_calls f peer (Jobs.GetsWord p start size) messages.Invalid = quiet 1
  get_calls f peer ph m = quiet 1

  put_calls : (f : FrameView) (peer : ℕ) (ph : Phase) (m : Message) → Made 1 (λ c. takes_put (u c) f peer ph m)
  put_calls f peer (Jobs.PutsOffer p) (messages.PutFrom n) =
      let good : Effect = if reaches (content_of t) n then says_to t (talk t) (Some f) peer (messages.Data (bytes_left (content_of t) n)) else wrong_message t f peer in
      tries_calls 1 (calls.Size ∷ []) (Some f) (λ c. good)
      (either 1 (reaches (content_of t) n) (λ c. says_to t (talk t) (Some f) peer (messages.Data (bytes_left (content_of t) n))) (λ c. wrong_message t f peer) (quiet 1) (quiet 1))
      (sized (reaches (content_of t) n))
    where
      sized : (b : Bool) → RiseFrom 1 (calls.Size ∷ (either 1 b (λ c. says_to t (talk t) (Some f) peer (messages.Data (bytes_left (content_of t) n))) (λ c. wrong_message t f peer) (quiet 1) (quiet 1)).cs)
      sized true = (omega arith, tt)
      sized false = (omega arith, tt)
  put_calls f peer (Jobs.PutsOffer p) (messages.Error text) = either 1 (bytes_eq text (codes "busy")) (λ c. hears t f) (λ c. wrong_message t f peer) (quiet 1) (quiet 1)
  put_calls f peer (Jobs.PutsOffer p) messages.AlreadyHave = quiet 1
  put_calls f peer (Jobs.PutsOffer p) messages.Failure = quiet 1
  put_calls f peer (Jobs.PutsAnswer p start) messages.Success = quiet 1
  put_calls f peer (Jobs.PutsAnswer p start) messages.Failure = quiet 1
  put_calls f peer ph m = quiet 1

  -- ---- without a frame

  first_calls : (part : Part) → Made 0 (λ c. first_step (u c) part)
  first_calls Gets = has_calls (λ c. first_get (u c) (is_there t) (t.filled (key_of t)) (next_source t)) (first_get_calls (is_there t) (t.filled (key_of t)) (next_source t))
  first_calls Puts = has_calls (λ c. first_put (u c) (is_there t) t.w.what.peer) (first_put_calls (is_there t) t.w.what.peer)
  first_calls Drops = first_drop_calls (side_of t.w)

  next_calls : (part : Part) → Made 1 (λ c. next_step (u c) part)
  next_calls Drops = judge_calls (enough_by t.read t.w) (next_by t.read t.w) (side_of t.w)
  next_calls Gets = next_get_calls (next_source t)
  next_calls Puts = next_get_calls (next_source t)

  phase_calls : (ph : Phase) → Made 0 (λ c. goes (u c) ph)
  phase_calls Jobs.Fresh = first_calls t.w.part
  phase_calls Jobs.Next = loose _ _ (next_calls t.w.part)
  phase_calls (Jobs.PutsBytes peer start at left) = loose _ _ (tries_calls 1 (calls.Read ∷ []) None (λ c. sends_to t (talk t) None peer ((if reaches (content_of t) (at + min 32768 left) then Bytes (min 32768 left) else Closing) ∷ [])) (quiet 1) (omega arith, tt))
  phase_calls (Jobs.PutsWord peer start) = quiet 0
  phase_calls Jobs.Removed = go (side_of t.w)
    where
      go : (side : Side) → Made 0 (λ c. ends (u c) None (removal_outcome side (u c)))
      go Local = loose _ _ (end_calls None (removal_outcome Local t))
      go Remote = loose _ _ (end_calls None (removal_outcome Remote t))
  phase_calls ph = loose _ _ (end_calls None (outcome_of t ph))

  -- ---- with a frame

  answer_calls : (f : FrameView) (peer : ℕ) (part : Part) (ph : Phase) (m : Message) → Made 1 (λ c. takes_answer (u c) f peer part ph m)
  answer_calls f peer Gets ph m = get_calls f peer ph m
  answer_calls f peer Puts ph m = put_calls f peer ph m
  answer_calls f peer Drops ph m = drop_calls f peer ph m

  message_calls : (f : FrameView) (peer : ℕ) (ph : Phase) (m : Message) → Made 1 (λ c. takes (u c) f peer ph m)
  message_calls f peer (Jobs.Opens p) (messages.AuthSuccess id) = quiet 1
  message_calls f peer (Jobs.Greets p) (messages.Version n) = either 1 (nat_le n 3) (λ c. asks (u c) n (Some f) peer t.w.part) (λ c. wrong_message t f peer) (request_calls n (Some f) peer t.w.part) (quiet 1)
  message_calls f peer ph m = answer_calls f peer t.w.part ph m

  line_calls : (f : FrameView) (peer : ℕ) (m : Option Message) → Made 1 (λ c. takes_text (u c) f peer m)
  line_calls f peer None = quiet 1
  line_calls f peer (Some m) = message_calls f peer t.w.phase m

  frame_calls : (f : FrameView) (peer : ℕ) (body : FrameText) → Made 1 (λ c. takes_frame (u c) peer f body)
  frame_calls f peer Opening = quiet 1
  frame_calls f peer Closing = quiet 1
  frame_calls f peer (Bytes n) = bytes_calls f peer n t.w.phase
  frame_calls f peer (Line text) = line_calls f peer (message_of text)

-- ---- a step that may not be ready

-- it is ready or not, whatever fails
abbrev MayMake : (Option Call → Option Effect) → Type 0
MayMake F = ((c : Option Call) → F c ≡ None) ⊎ ((G : Option Call → Effect) × ((c : Option Call) → F c ≡ Some (G c)) × Made 0 G)

if_made : (b : Bool) (F G : Option Call → Option Effect) → MayMake F → MayMake G → MayMake (λ c. if b then F c else G c)
if_made true F G x y = x
if_made false F G x y = y

-- the same, where the test doesn't hang on what fails
if_made_by : (B : Option Call → Bool) (b : Bool) → ((c : Option Call) → B c ≡ b) → (F G : Option Call → Option Effect) → MayMake F → MayMake G → MayMake (λ c. if B c then F c else G c)
if_made_by B true same F G (inl never) y = inl (λ c. rw same (never c))
if_made_by B true same F G (inr x) y = inr (x.0, (λ c. rw same (x.1 c)), x.2)
if_made_by B false same F G x (inl never) = inl (λ c. rw same (never c))
if_made_by B false same F G x (inr y) = inr (y.0, (λ c. rw same (y.1 c)), y.2)

or_made : (F G : Option Call → Option Effect) → MayMake F → MayMake G → MayMake (λ c. option_or (F c) (G c))
or_made F G (inl none_there) (inl none_here) = inl (λ c. rw none_there (none_here c))
or_made F G (inl none_there) (inr x) = inr (x.0, (λ c. rw none_there (x.1 c)), x.2)
or_made F G (inr x) y = inr (x.0, (λ c. rw (x.1 c) refl), x.2)

first_made : {X : Type 0} (f : Option Call → X → Option Effect) (xs : List X) → ((x : X) → MayMake (λ c. f c x)) → MayMake (λ c. first_some (f c) xs)
first_made f [] h = inl (λ c. refl)
first_made f (x ∷ xs) h = or_made (λ c. f c x) (λ c. first_some (f c) xs) (h x) (first_made f xs h)

made : (G : Option Call → Effect) → Made 0 G → MayMake (λ c. Some (G c))
made G x = inr (G, (λ c. refl), x)

module _ (t : Turn) where
  removed_same : (side : Side) (c : Option Call) → removal_outcome side (u t c) ≡ removal_outcome side t
  removed_same Local c = refl
  removed_same Remote c = refl

  needs_same : (ph : Phase) (c : Option Call) → needs (u t c) ph ≡ needs t ph
  needs_same Jobs.Removed c = ap (end_needs t) (removed_same (side_of t.w) c)
  needs_same ph c = refl

  room_calls : MayMake (λ c. goes_on (u t c))
  room_calls = if_made_by (λ c. list_all (has_room t) (needs (u t c) t.w.phase)) (list_all (has_room t) (needs t t.w.phase)) (λ c. ap (list_all (has_room t)) (needs_same t.w.phase c))
      (λ c. Some (goes (u t c) t.w.phase)) (λ c. None) (made (λ c. goes (u t c) t.w.phase) (phase_calls t t.w.phase)) (inl (λ c. refl))

  await_calls : (peer : ℕ) (f : Option FrameView) → MayMake (λ c. awaits (u t c) peer f)
  await_calls peer None = inl (λ c. refl)
  await_calls peer (Some f) = if_made (has_room t peer) (λ c. Some (takes_frame (u t c) peer f f.body)) (λ c. None) (made (λ c. takes_frame (u t c) peer f f.body) (loose _ _ (frame_calls t f peer f.body))) (inl (λ c. refl))

  partner_calls : (peer : ℕ) (opened : Bool) → MayMake (λ c. with_partner (u t c) peer opened)
  partner_calls peer false = made (λ c. quietly (talk t) None) (quiet t 0)
  partner_calls peer true =
      let f = waiting_frame (end_with t peer) t.look (job_end t.w peer) in
      if_made (is_awaiting t.w.phase) (λ c. awaits (u t c) peer f) (λ c. goes_on (u t c)) (await_calls peer f) room_calls

  turn_calls : (o : Option ℕ) → MayMake (λ c. by_partner (u t c) o)
  turn_calls None = room_calls
  turn_calls (Some peer) = partner_calls peer (end_with t peer).opened

-- ---- a session

abbrev Says : (Option Call → Reply) → Type 0
Says F = Tells 0 (λ c. (F c).kind) (λ c. (F c).calls)

if_says : (b : Bool) (F G : Option Call → Reply) → Says F → Says G → Says (λ c. if b then F c else G c)
if_says true F G x y = x
if_says false F G x y = y

module _ (h : Here) where
  -- the same session, where this fails
  abbrev v : Option Call → Here
  v c = record h { fails = c }

  silent : (kind : EntryKind) → failed_in kind ≡ None → Tells 0 (λ c. kind) (λ c. [])
  silent kind well = none 0 (λ c. kind) (λ c. well)

  shut : Tells 0 (λ c. close_kind h) (λ c. [])
  shut = silent (close_kind h) refl

  -- these calls, and then a reply that fails of none
  tries_says : (cs : List Call) (says : List FrameText) (x : Reply) → failed_in x.kind ≡ None → RiseFrom 0 cs → Says (λ c. tries (v c) cs says x)
  tries_says cs says x well r = record { cs = cs; rises = r; same = λ c. refl; fails = λ c. go (failing_call c cs) }
    where
      go : (o : Option Call) → failed_in (unless o (λ call. record { kind = Fault call (by_of h); says = says; calls = [] }) x).kind ≡ o
      go None = well
      go (Some call) = refl

  lock_rises : (locks here : Bool) (bar : Option ℕ) → RiseFrom 0 (to_lock locks here bar)
  lock_rises false here bar = tt
  lock_rises true true None = (omega arith, (omega arith, tt))
  lock_rises true true (Some job) = (omega arith, tt)
  lock_rises true false bar = (omega arith, tt)

  remove_rises : (here : Bool) (bar : Option ℕ) (blocked : Bool) → RiseFrom 0 (to_remove here bar blocked)
  remove_rises true None false = (omega arith, (omega arith, tt))
  remove_rises true None true = (omega arith, tt)
  remove_rises true (Some job) blocked = (omega arith, tt)
  remove_rises false bar blocked = (omega arith, tt)

  offer_rises : (some here filled : Bool) (part : ℕ) → nat_lt 0 part ≡ some → RiseFrom 0 (to_offer part here filled)
  offer_rises true false false part is = rw is (omega arith, (omega arith, (omega arith, tt)))
  offer_rises false false false part is = rw is (omega arith, (omega arith, tt))
  offer_rises some false true part is = (omega arith, tt)
  offer_rises some true filled part is = (omega arith, tt)

  commits_rise : (right : Bool) → RiseFrom 0 (to_commit right)
  commits_rise true = (omega arith, tt)
  commits_rise false = (omega arith, tt)

  check_bare : (key : List ℕ) (here : Bool) (bar : Option ℕ) → failed_in (check_answer key here bar).kind ≡ None
  check_bare key false bar = refl
  check_bare key true (Some j) = refl
  check_bare key true None = refl

  lock_bare : (hold end : ℕ) (key : List ℕ) (locks here : Bool) (bar : Option ℕ) → failed_in (lock_answer hold end (by_of h) key locks here bar).kind ≡ None
  lock_bare hold end key false here bar = refl
  lock_bare hold end key true false bar = refl
  lock_bare hold end key true true (Some j) = refl
  lock_bare hold end key true true None = refl

  remove_bare : (key : List ℕ) (here : Bool) (bar : Option ℕ) (blocked : Bool) → failed_in (remove_answer (by_of h) key here bar blocked).kind ≡ None
  remove_bare key false bar blocked = refl
  remove_bare key true (Some j) blocked = refl
  remove_bare key true None true = refl
  remove_bare key true None false = refl

  valid_bare : (size : ℕ) (key : List ℕ) (right : Bool) → failed_in (valid_answer (by_of h) size key right).kind ≡ None
  valid_bare size key true = refl
  valid_bare size key false = refl

  piece_bare : (n : ℕ) (b : Bool) → failed_in (if b then record { kind = Talk None; says = Bytes n ∷ []; calls = [] } else shuts (close_kind h)).kind ≡ None
  piece_bare n true = refl
  piece_bare n false = refl

  remove_says : (key : List ℕ) → Says (λ c. on_remove (v c) key)
  remove_says key =
      let b = remove_bare key (is_here h key) (bar_on h key) (is_held h key) in
      tries_says (to_remove (is_here h key) (bar_on h key) (is_held h key)) failure_line (remove_answer (by_of h) key (is_here h key) (bar_on h key) (is_held h key)) b (remove_rises (is_here h key) (bar_on h key) (is_held h key))

  lock_says : (key : List ℕ) → Says (λ c. on_lock (v c) key)
  lock_says key =
      let b = lock_bare h.number (now_of h + hold_time) key h.locks (is_here h key) (bar_on h key) in
      tries_says (to_lock h.locks (is_here h key) (bar_on h key)) failure_line (lock_answer h.number (now_of h + hold_time) (by_of h) key h.locks (is_here h key) (bar_on h key)) b (lock_rises h.locks (is_here h key) (bar_on h key))

  put_says : (key : List ℕ) → Says (λ c. on_put (v c) key)
  put_says key = tries_says (to_offer h.part (is_here h key) (h.filled key)) failure_line (reply (Talk None) (put_answer h.part (is_here h key) (h.filled key))) refl (offer_rises (nat_lt 0 h.part) (is_here h key) (h.filled key) h.part refl)

  request_says : (w : ℕ) (m : Message) → Says (λ c. on_request (v c) w m)
  request_says w (messages.Version n) = silent (Talk None) refl
  request_says w (messages.CheckPresent key) =
      let b = check_bare key (is_here h key) (bar_on h key) in
      tries_says (calls.Has ∷ []) failure_line (check_answer key (is_here h key) (bar_on h key)) b (omega arith, tt)
  request_says w (messages.LockContent key) = lock_says key
  request_says w (messages.Remove key) = remove_says key
  request_says w (messages.RemoveBefore n key) =
      if_says (nat_le 3 w) (λ c. on_remove_before (v c) n key) (λ c. unexpected_reply h)
      (if_says (nat_lt (now_of h) (1000 * n)) (λ c. on_remove (v c) key) (λ c. reply (Rattle.run_data.specs.declared.entry.EntryKind.TheVariants.Check found.Late key) messages.Failure) (remove_says key) (silent _ refl)) shut
  request_says w messages.GetTimestamp = if_says (nat_le 3 w) (λ c. reply (Talk None) (messages.Timestamp (now_of h / 1000))) (λ c. unexpected_reply h) (silent (Talk None) refl) shut
  request_says w (messages.Get n file key) =
      let good : Reply = reply (Talk None) (messages.Data (bytes_left (content_here h key) n)) in
      if_says (nat_le 1 w) (λ c. tries (v c) (calls.Size ∷ []) (Closing ∷ []) good) (λ c. unexpected_reply h) (tries_says (calls.Size ∷ []) (Closing ∷ []) good refl (omega arith, tt)) shut
  request_says w (messages.Put file key) = if_says (nat_le 1 w) (λ c. on_put (v c) key) (λ c. unexpected_reply h) (put_says key) shut
  request_says w m = shut

  message_says : (w : ℕ) (doing : Doing) (m : Message) → Says (λ c. on_message (v c) w doing m)
  message_says w doing (messages.Error text) = shut
  message_says w sessions.Waits m = request_says w m
  message_says w (sessions.Guards hold key) (messages.UnlockContent k) =
      let good : Reply = silent_reply (Rattle.run_data.specs.declared.entry.EntryKind.TheVariants.Release hold key) in
      if_says (bytes_eq k key) (λ c. tries (v c) (calls.Unhold ∷ []) [] good) (λ c. unexpected_reply h) (tries_says (calls.Unhold ∷ []) [] good refl (omega arith, tt)) shut
  message_says w sessions.Gave messages.Success = silent (Talk None) refl
  message_says w sessions.Gave messages.Failure = silent (Talk None) refl
  message_says w (sessions.Wants key size) (messages.Data n) = silent (Talk None) refl
  message_says w (sessions.Took key size) messages.Valid =
      let b = valid_bare size key h.right in
      tries_says (to_commit h.right) failure_line (valid_answer (by_of h) size key h.right) b (commits_rise h.right)
  message_says w (sessions.Took key size) messages.Invalid = silent (Talk None) refl
  message_says w doing m = shut

  bytes_says : (n : ℕ) (doing : Doing) → Says (λ c. on_bytes (v c) n doing)
  bytes_says n (sessions.Takes key size left) =
      if_says (nat_lt 0 n && nat_le n left) (λ c. tries (v c) (calls.Append ∷ []) (Closing ∷ []) (silent_reply (Talk None))) (λ c. unexpected_reply h)
      (tries_says (calls.Append ∷ []) (Closing ∷ []) (silent_reply (Talk None)) refl (omega arith, tt)) shut
  bytes_says n doing = shut

  text_says : (was : Session) (o : Option Message) → Says (λ c. on_text (v c) was o)
  text_says was None = shut
  text_says was (Some m) = message_says was.version was.doing m

  frame_says : (was : Session) (body : FrameText) → Says (λ c. on_frame (v c) was body)
  frame_says was Opening = silent (Talk None) refl
  frame_says was Closing = shut
  frame_says was (Bytes n) = bytes_says n was.doing
  frame_says was (Line text) = text_says was (message_of text)

  piece_says : (key : List ℕ) (at n : ℕ) → Says (λ c. on_piece (v c) key at n)
  piece_says key at n =
      let b = piece_bare n (reaches (content_here h key) (at + n)) in
      tries_says (calls.Read ∷ []) (Closing ∷ []) (if reaches (content_here h key) (at + n) then record { kind = Talk None; says = Bytes n ∷ []; calls = [] } else shuts (close_kind h)) b (omega arith, tt)

  next_says : (c : End) (doing : Doing) → MayMake (λ f. gives_made h.at c (gives_next (v f) doing))
  next_says e (sessions.Gives key at left good) = made (λ c. Rattle.node_model.specs.SessionStep.reply_made h.at e None (if left == 0 then reply (Talk None) (if good then messages.Valid else messages.Invalid) else on_piece (v c) key at (min 32768 left)))
      (if_says (left == 0) (λ c. reply (Talk None) (if good then messages.Valid else messages.Invalid)) (λ c. on_piece (v c) key at (min 32768 left)) (silent (Talk None) refl) (piece_says key at (min 32768 left)))
  next_says e doing = inl (λ c. refl)

  session_makes_calls : (e : End) (was : Session) (o : Option FrameView) → MayMake (λ c. session_makes (v c) e was o)
  session_makes_calls e was (Some f) = made (λ c. Rattle.node_model.specs.SessionStep.reply_made h.at (Rattle.node_model.specs.Ends.end_takes e f.epoch f.body) (Some f) (on_frame (v c) was f.body)) (frame_says was f.body)
  session_makes_calls e was None = if_made e.opened (λ c. gives_made h.at e (gives_next (v c) was.doing)) (λ c. None) (next_says e was.doing) (inl (λ c. refl))

-- ---- the step

module _ (s : SetUp) (st : State) (k : Look) where
  abbrev l : Option Call → Look
  l c = record k { fails = c }

  owed_calls : (os : List OwedLine) → MayMake (λ c. pays_first s st (l c) os)
  owed_calls [] = inl (λ c. refl)
  owed_calls (o ∷ os) = inr (_, (λ c. refl), record { cs = calls.PutFile ∷ []; rises = (omega arith, tt); same = same; fails = fails })
    where
      lost : Call → Effect
      lost call = record { kind = Fault call o.by; taken = None; sent = []; lines = []; calls = calls.PutFile ∷ [] }

      written : Effect
      written = record { kind = Rattle.run_data.specs.declared.entry.EntryKind.TheVariants.Log (Rattle.run_data.specs.declared.entry.LogFile.TheVariants.Location o.key); taken = None; sent = []; lines = Rattle.node_model.specs.OwedLines.due s.repos st.lines (st.wall k.time) o; calls = calls.PutFile ∷ [] }

      same_by : (c : Option Call) → (unless c lost written).calls ≡ calls.PutFile ∷ []
      same_by None = refl
      same_by (Some call) = refl

      same : (c : Option Call) → (unless (failing_call c (calls.PutFile ∷ [])) lost written).calls ≡ calls.PutFile ∷ []
      same c = same_by (failing_call c (calls.PutFile ∷ []))

      fails_by : (c : Option Call) → failed_in (unless c lost written).kind ≡ c
      fails_by None = refl
      fails_by (Some call) = refl

      fails : (c : Option Call) → failed_in (unless (failing_call c (calls.PutFile ∷ [])) lost written).kind ≡ failing_call c (calls.PutFile ∷ [])
      fails c = fails_by (failing_call c (calls.PutFile ∷ []))

  session_calls : MayMake (λ c. session_step s st (l c))
  session_calls = first_made (λ c (x : ℕ × ℕ). session_at s st (l c) (server_end x.0 x.1)) (served_connections s) (λ x. at (server_end x.0 x.1))
    where
      at : (a : EndName) → MayMake (λ c. session_at s st (l c) a)
      at a = if_made (k.room a) (λ c. session_makes (here s st (l c) a) (st.ends a) (st.sessions a) (waiting_frame (st.ends a) k a)) (λ c. None)
          (session_makes_calls (here s st k a) (st.ends a) (st.sessions a) (waiting_frame (st.ends a) k a)) (inl (λ c. refl))

  slot_calls : (o : Option Work) → MayMake (λ c. slot_step s st (l c) o)
  slot_calls None = inl (λ c. refl)
  slot_calls (Some w) = turn_calls (turn_of s st k w) (partner w.what.peer w.phase)

  job_calls : MayMake (λ c. job_step s st (l c))
  job_calls = first_made (λ c slot. slot_step s st (l c) (find (λ w. w.slot == slot) st.works)) slots (λ slot. slot_calls (find (λ w. w.slot == slot) st.works))

  step_calls : MayMake (λ c. step s st (l c))
  step_calls = or_made (λ c. owed_step s st (l c)) (λ c. option_or (session_step s st (l c)) (job_step s st (l c))) (owed_calls st.owed)
      (or_made (λ c. session_step s st (l c)) (λ c. job_step s st (l c)) session_calls job_calls)

-- ---- the laws

module _ (s : SetUp) (st : State) (k : Look) where
  pub step_fails : (m : Effect) → step s st k ≡ Some m → failed_in m.kind ≡ failing_call k.fails m.calls
  step_fails m e = go (step_calls s st k)
    where
      go : MayMake (λ c. step s st (record k { fails = c })) → failed_in m.kind ≡ failing_call k.fails m.calls
      go (inl never) = absurd (let none : None ≡ Some m = sym (never k.fails) ∙ e in cc)
      go (inr x) =
          let both : Some (x.0 k.fails) ≡ Some m = sym (x.1 k.fails) ∙ e in
          let is : x.0 k.fails ≡ m = cc in
          subst (λ (z : Effect). failed_in z.kind ≡ failing_call k.fails z.calls) is (x.2.fails k.fails ∙ ap (failing_call k.fails) (sym (x.2.same k.fails)))

  pub calls_stay : (fails : Option Call) → option_map (λ (m : Effect). m.calls) (step s st (record k { fails = fails })) ≡ option_map (λ (m : Effect). m.calls) (step s st k)
  calls_stay fails = go (step_calls s st k)
    where
      go : MayMake (λ c. step s st (record k { fails = c })) → option_map (λ (m : Effect). m.calls) (step s st (record k { fails = fails })) ≡ option_map (λ (m : Effect). m.calls) (step s st k)
      go (inl never) = ap (option_map (λ (m : Effect). m.calls)) (never fails ∙ sym (never k.fails))
      go (inr x) = ap (option_map (λ (m : Effect). m.calls)) (x.1 fails) ∙ ap (λ cs. Some cs) (x.2.same fails ∙ sym (x.2.same k.fails)) ∙ sym (ap (option_map (λ (m : Effect). m.calls)) (x.1 k.fails))

  pub calls_rise : (m : Effect) → step s st k ≡ Some m → AreRising m.calls
  calls_rise m e = go (step_calls s st k)
    where
      go : MayMake (λ c. step s st (record k { fails = c })) → AreRising m.calls
      go (inl never) = absurd (let none : None ≡ Some m = sym (never k.fails) ∙ e in cc)
      go (inr x) =
          let both : Some (x.0 k.fails) ≡ Some m = sym (x.1 k.fails) ∙ e in
          let is : x.0 k.fails ≡ m = cc in
          subst (λ (z : Effect). AreRising z.calls) is (subst AreRising (sym (x.2.same k.fails)) (rising 0 x.2.cs x.2.rises))
