-- What a job's step makes stays where the look is changed to the one of which it tells.
use Rattle.std.proofs.Common.{◌≡◌, ℕ, ◌+◌, ◌-◌, ◌/◌, ◌<◌, ◌^◌, Bool, true, false, List, [], ◌∷◌, Option, Some, None, inr, refl, sym, ap, subst, ◌∙◌}
use Rattle.std.specs.Prelude.{if◌then◌else◌, ◌==◌, ◌&&◌, not, min, nat_lt, nat_le, bytes_eq, codes, ◌++◌}
use Rattle.std.specs.List.{list_any}
use Rattle.std.proofs.lemmas.Bool.{true≢false}
use Rattle.annex_base.specs.Calls.{same_call}
use Rattle.annex_base.specs.declared.kinds.Call.{Call}
use Rattle.annex_base.specs.declared.kinds.Call.TheVariants as calls
use Rattle.annex_base.specs.declared.kinds.Word.{Word}
use Rattle.annex_base.specs.declared.kinds.Word.TheVariants as words
use Rattle.drop_proof.specs.declared.rule.Side.{Side}
use Rattle.drop_proof.specs.declared.rule.Side.TheVariants.{Local, Remote}
use Rattle.run_data.specs.declared.entry.EntryKind.TheVariants.{Bar, Fault, Gone, End as ends_job}
use Rattle.run_data.specs.declared.entry.FrameView.{FrameView}
use Rattle.run_data.specs.declared.entry.FrameText.{FrameText}
use Rattle.run_data.specs.declared.entry.FrameText.TheVariants.{Opening, Closing, Bytes, Line}
use Rattle.run_data.specs.declared.job.Outcome.{Outcome}
use Rattle.run_data.specs.declared.job.Outcome.TheVariants.{Got, Refused, TransferRefused}
use Rattle.run_data.specs.declared.job.DropRefusal.{DropRefusal}
use Rattle.run_data.specs.declared.job.DropRefusal.TheVariants as refusals
use Rattle.run_data.specs.declared.job.Proof.{Proof}
use Rattle.run_data.specs.declared.job.TransferRefusal.TheVariants as failures
use Rattle.p2p_wire.specs.declared.message.Message.{Message}
use Rattle.p2p_wire.specs.declared.message.Message.TheVariants.{AuthSuccess, Version, CheckPresent, LockContent, Remove, RemoveBefore, GetTimestamp, Timestamp, Get, Put, PutFrom, AlreadyHave, Data, Valid, Invalid, Success, Failure, Error}
use Rattle.p2p_wire.specs.Messages.{message_of}
use Rattle.node_model.specs.Clocks.{hold_time}
use Rattle.node_model.specs.Rows.{is_lost_ordered}
use Rattle.node_model.specs.Evidence.{Standing, Asked}
use Rattle.node_model.specs.Sessions.{reaches}
use Rattle.node_model.specs.Slots.{job_of}
use Rattle.node_model.specs.Jobs
use Rattle.node_model.specs.Jobs.{Part, Gets, Puts, Drops, Phase, Fresh, Next, Opens, Greets, GetsData, GetsBytes, GetsWord, PutsOffer, PutsBytes, PutsWord, PutsAnswer, AsksLock, AsksLook, AsksTime, Removed, Denied, Late, Ends, is_move, side_of}
use Rattle.node_model.specs.Calls.{to_commit, to_hold, to_read, to_release, to_resume}
use Rattle.node_model.specs.Ends.{EndName}
use Rattle.node_model.specs.Look.{Effect, as_told, failing_call, unless}
use Rattle.node_model.specs.SessionStep.{bytes_left}
use Rattle.node_model.specs.Knows.{causes_by, denial_of, enough_by, next_by, obeyed_outcome, proof_by}
use Rattle.node_model.specs.JobStep.{Turn, hears, attempts, bar_there, by_me, clock_of, end_with, ends, farewells, is_there, key_of, me, owns_share, quietly, says_to, sends_to, talk, wrong_message}
use Rattle.node_model.specs.DropStep.{denial_outcome, takes_drop, takes_time, asks_copy, asks_lock, asks_target, bars, expiry, first_drop, first_end, first_remote, held_until, in_time, lacking_outcome, need_now, orders, own_share, removal_outcome, removes, required_there, row_refusal, shares, target, times, tries_own}
use Rattle.node_model.specs.Requests.{asks, goes_to}
use Rattle.node_model.specs.TransferStep.{takes_get, takes_put, content_of, first_get, first_put, gains, next_get, next_source, puts_from, puts_piece, takes_bytes}
use Rattle.node_model.specs.Turns.{takes_answer, first_step, goes, judges, next_step, takes, takes_frame, takes_text}
use Rattle.step_judging.specs.Telling.{failed_call, first_line, matches_told}
use Rattle.step_judging.proofs.Keeping.{Choice, GivesBack, IsFault, IsPlain, Keeps, Trial, keeps_commit, keeps_if, keeps_part, keeps_plain, keeps_unless}
use Rattle.step_judging.proofs.PartsTold.{get_told}
use Rattle.step_judging.proofs.SessionKeeps.{resume_grows}

-- the turn with another choice, other frames at hand and other room
abbrev pub turned : Turn → Choice → List FrameView → (EndName → Bool) → Turn
turned t d hand room = record t { look = record t.look { at_hand = hand; room = room; fails = d.fails; part = d.part; right = d.right; words = d.words } }

abbrev pub effect_trial : Turn → Choice → Option FrameView → Trial Effect
effect_trial t d took = record {
  kind = λ x. x.kind;
  line = λ x. first_line x.sent;
  takes = λ x. x.taken;
  who = Some t.w.number;
  took = took;
  seen = as_told;
  look = record { fails = t.look.fails; part = t.look.part; right = t.look.right; words = t.look.words };
  other = d;
  by = by_me t;
  holds = owns_share t;
}

pub obeyed_stays : (word : Option Word) (proof : Proof) → is_lost_ordered (obeyed_outcome word proof) ≡ false
obeyed_stays (Some words.Absent) proof = refl
obeyed_stays word proof = refl

module _ (t : Turn) (d : Choice) (hand : List FrameView) (room : EndName → Bool) (small : t.look.part < 2 ^ 62) where
  abbrev u : Turn
  u = turned t d hand room

  abbrev p : Option FrameView → Trial Effect
  p took = effect_trial t d took

  abbrev fault_of : Option FrameView → Call → Effect
  fault_of took call = quietly (Fault call (by_me t)) took

  is_fault : (took : Option FrameView) → IsFault (p took) (fault_of took)
  is_fault took = record { call_is = λ c. refl; kind_is = λ c. refl; made_by = λ c. refl; taken_is = λ c. refl; part_is = λ c. refl; right_is = λ c. refl }

  -- whatever the calls are
  with_calls : (took : Option FrameView) (x y : Effect) (cs ds : List Call) → Keeps (p took) x y → Keeps (p took) (record x { calls = cs }) (record y { calls = ds })
  with_calls took x y cs ds kept = record {
    fair = kept.fair;
    made_by = kept.made_by;
    taken_is = kept.taken_is;
    unheld = kept.unheld;
    same = λ told. kept.same (record { fails_are = told.fails_are; part_is = told.part_is; right_is = told.right_is; words_are = told.words_are });
  }

  attempts_keep : (cs : List Call) (took : Option FrameView) (x y : Effect) → GivesBack (p took) cs → Keeps (p took) x y → Keeps (p took) (attempts t cs took x) (attempts u cs took y)
  attempts_keep cs took x y held kept =
      with_calls took (unless (failing_call t.look.fails cs) (fault_of took) x) (unless (failing_call d.fails cs) (fault_of took) y) (cs ++ x.calls) (cs ++ y.calls)
      (keeps_unless (p took) cs (fault_of took) x y (is_fault took) held kept)

  -- none of these calls gives a hold back
  never : (b : Bool) → b ≡ false → b ≡ true → owns_share t ≡ true
  never b e f = absurd (true≢false (sym f ∙ e))

  hold_calls : (here : Bool) (bar : Option ℕ) → GivesBack (p None) (to_hold here bar)
  hold_calls true None = never false refl
  hold_calls true (Some j) = never false refl
  hold_calls false bar = never false refl

  resume_calls : (took : Option FrameView) (n : ℕ) → GivesBack (p took) (to_resume n)
  resume_calls took n = go (nat_lt 0 n)
    where
      go : (b : Bool) → list_any (same_call calls.Unhold) (calls.PartSize ∷ to_read b) ≡ true → owns_share t ≡ true
      go true = never false refl
      go false = never false refl

  release_calls : (took : Option FrameView) (lost : Bool) → GivesBack (p took) (to_release (owns_share t && not lost))
  release_calls took lost = go (owns_share t) (not lost) refl
    where
      go : (b c : Bool) → owns_share t ≡ b → list_any (same_call calls.Unhold) (to_release (b && c)) ≡ true → owns_share t ≡ true
      go true c is e = is
      go false c is e = absurd (cc)

  leaf : (took : Option FrameView) (x : Effect) → failed_call x.kind ≡ None → job_of x.kind ≡ Some t.w.number → x.taken ≡ took → Keeps (p took) x x
  leaf took x call who taken = keeps_plain (p took) x (record { no_call = call; made_by = who; taken_is = taken })

  quiet_keep : (took : Option FrameView) → Keeps (p took) (quietly (talk t) took) (quietly (talk u) took)
  quiet_keep took = leaf took (quietly (talk t) took) refl refl refl

  sends_keep : (took : Option FrameView) (peer : ℕ) (bodies : List FrameText) → Keeps (p took) (sends_to t (talk t) took peer bodies) (sends_to u (talk u) took peer bodies)
  sends_keep took peer bodies = leaf took (sends_to t (talk t) took peer bodies) refl refl refl

  says_keep : (took : Option FrameView) (peer : ℕ) (m : Message) → Keeps (p took) (says_to t (talk t) took peer m) (says_to u (talk u) took peer m)
  says_keep took peer m = leaf took (says_to t (talk t) took peer m) refl refl refl

  wrong_keep : (f : FrameView) (peer : ℕ) → Keeps (p (Some f)) (wrong_message t f peer) (wrong_message u f peer)
  wrong_keep f peer = sends_keep (Some f) peer (Closing ∷ [])

  -- ---- ends

  abbrev ended : Option FrameView → Bool → Outcome → Effect
  ended took lost outcome = record { kind = ends_job t.w.number outcome; taken = took; sent = farewells t lost; lines = []; calls = [] }

  ended_keep : (took : Option FrameView) (lost : Bool) (x y : Outcome) → (d.words ≡ t.look.words → y ≡ x)
      → Keeps (p took) (attempts t (to_release (owns_share t && not lost)) took (ended took lost x)) (attempts u (to_release (owns_share t && not lost)) took (ended took lost y))
  ended_keep took lost x y same =
      attempts_keep (to_release (owns_share t && not lost)) took (ended took lost x) (ended took lost y) (release_calls took lost)
      (record { fair = inr refl; made_by = refl; taken_is = refl; unheld = λ e. absurd (cc); same = λ told. ap (ended took lost) (same (told.words_are refl)) })

  -- an outcome that may depend on the words
  ends_keep : (took : Option FrameView) (x y : Outcome) → is_lost_ordered x ≡ is_lost_ordered y → (d.words ≡ t.look.words → y ≡ x)
      → Keeps (p took) (ends t took x) (ends u took y)
  ends_keep took x y lost same =
      subst (λ l. Keeps (p took) (ends t took x) (attempts u (to_release (owns_share t && not l)) took (ended took l y))) lost (ended_keep took (is_lost_ordered x) x y same)

  -- or doesn't
  ends_so : (took : Option FrameView) (x : Outcome) → Keeps (p took) (ends t took x) (ends u took x)
  ends_so took x = ends_keep took x x refl (λ e. refl)

  -- ---- a drop's first step

  bars_keep : (refusal : Option DropRefusal) → Keeps (p None) (bars t refusal) (bars u refusal)
  bars_keep (Some refusal) = ends_so None (Refused refusal)
  bars_keep None = leaf None (quietly (Bar t.w.number (need_now t) (key_of t)) None) refl refl refl

  share_keep : (hold end : ℕ) (here : Bool) (bar : Option ℕ) → let x = quietly (own_share hold end t.w.number (key_of t) (talk t) (by_me t) here bar) None in Keeps (p None) x x
  share_keep hold end true None = leaf None (quietly (own_share hold end t.w.number (key_of t) (talk t) (by_me t) true None) None) refl refl refl
  share_keep hold end here bar = leaf None (quietly (talk t) None) refl refl refl

  shares_keep : Keeps (p None) (shares t) (shares u)
  shares_keep =
      let x = quietly (own_share t.number (clock_of t + hold_time) t.w.number (key_of t) (talk t) (by_me t) (is_there t) (bar_there t)) None in
      attempts_keep (to_hold (is_there t) (bar_there t)) None x x (hold_calls (is_there t) (bar_there t)) (share_keep t.number (clock_of t + hold_time) (is_there t) (bar_there t))

  own_keep : (standing : Standing) → Keeps (p None) (tries_own t standing) (tries_own u standing)
  own_keep Asked = shares_keep
  own_keep standing = quiet_keep None

  remote_keep : (required : Option (List ℕ)) → Keeps (p None) (first_remote t required) (first_remote u required)
  remote_keep (Some text) = ends_so None (Refused (refusals.Required text))
  remote_keep None = own_keep (t.read.standing (me t))

  first_drop_keep : (side : Side) → Keeps (p None) (first_drop t side) (first_drop u side)
  first_drop_keep Local =
      let refusal = row_refusal (is_there t) (required_there t) (bar_there t) (held_until t) in
      attempts_keep (calls.Has ∷ []) None (bars t refusal) (bars u refusal) (never false refl) (bars_keep refusal)
  first_drop_keep Remote = remote_keep (required_there t)

  -- ---- requests

  orders_keep : (took : Option FrameView) (deadline : Option ℕ) (m : Message) → Keeps (p took) (orders t took deadline m) (orders u took deadline m)
  orders_keep took deadline m = leaf took (orders t took deadline m) refl refl refl

  target_keep : (version : ℕ) (took : Option FrameView) (end : Option ℕ) → Keeps (p took) (asks_target t version took end) (asks_target u version took end)
  target_keep version took None = orders_keep took None (Remove (key_of t))
  target_keep version took (Some end) =
      keeps_if (p took) (nat_lt version 3) (quietly (talk t) took) (quietly (talk u) took) (says_to t (talk t) took (target t) GetTimestamp) (says_to u (talk u) took (target u) GetTimestamp)
      (quiet_keep took) (says_keep took (target t) GetTimestamp)

  copy_keep : (version : ℕ) (took : Option FrameView) (peer : ℕ) (side : Side) → Keeps (p took) (asks_copy t version took peer side) (asks_copy u version took peer side)
  copy_keep version took peer Local = says_keep took peer (LockContent (key_of t))
  copy_keep version took peer Remote =
      keeps_if (p took) (target t == peer) (asks_target t version took (first_end t)) (asks_target u version took (first_end u)) (asks_lock t took peer) (asks_lock u took peer)
      (target_keep version took (first_end t)) (says_keep took peer (LockContent (key_of t)))

  asks_keep : (version : ℕ) (took : Option FrameView) (peer : ℕ) (part : Part) → Keeps (p took) (asks t version took peer part) (asks u version took peer part)
  asks_keep version took peer Gets =
      let asked : ℕ → Effect = λ n. says_to t (talk t) took peer (Get n [] (key_of t)) in
      with_calls took (unless (failing_call t.look.fails (to_resume t.look.part)) (fault_of took) (asked t.look.part)) (unless (failing_call d.fails (to_resume d.part)) (fault_of took) (asked d.part))
      (to_resume t.look.part ++ []) (to_resume d.part ++ [])
      (keeps_part (p took) to_resume (fault_of took) asked resume_grows (is_fault took) (resume_calls took)
      (λ n. record { no_call = refl; made_by = refl; taken_is = refl }) (get_told t.look.part (key_of t) small))
  asks_keep version took peer Puts = says_keep took peer (Put [] (key_of t))
  asks_keep version took peer Drops = copy_keep version took peer (side_of t.w)

  goes_to_keep : (peer : ℕ) → Keeps (p None) (goes_to t peer) (goes_to u peer)
  goes_to_keep peer =
      keeps_if (p None) (end_with t peer).opened (asks t t.w.version None peer t.w.part) (asks u u.w.version None peer u.w.part)
      (sends_to t (talk t) None peer (Opening ∷ [])) (sends_to u (talk u) None peer (Opening ∷ []))
      (asks_keep t.w.version None peer t.w.part) (sends_keep None peer (Opening ∷ []))

  -- ---- steps that take no frame

  removes_keep : Keeps (p None) (removes t) (removes u)
  removes_keep =
      let gone = quietly (Gone (by_me t) (key_of t)) None in
      keeps_if (p None) (in_time (clock_of t) (first_end t)) (attempts t (calls.Remove ∷ []) None gone) (attempts u (calls.Remove ∷ []) None gone)
      (ends t None (expiry (clock_of t) (first_end t))) (ends u None (expiry (clock_of u) (first_end u)))
      (attempts_keep (calls.Remove ∷ []) None gone gone (never false refl) (leaf None gone refl refl refl)) (ends_so None (expiry (clock_of t) (first_end t)))

  lacking_keep : Keeps (p None) (ends t None (lacking_outcome t)) (ends u None (lacking_outcome u))
  lacking_keep =
      ends_keep None (lacking_outcome t) (lacking_outcome u) refl
      (λ e. ap (λ (ws : ℕ → Option Word). Refused (refusals.Lacking (proof_by t.read t.w) (causes_by t.read ws t.w))) e)

  judges_keep : (enough : Bool) (next : Option ℕ) (side : Side) → Keeps (p None) (judges t enough next side) (judges u enough next side)
  judges_keep false (Some peer) side = goes_to_keep peer
  judges_keep false None side = lacking_keep
  judges_keep true next Local = removes_keep
  judges_keep true next Remote = goes_to_keep (target t)

  next_get_keep : (source : Option ℕ) → Keeps (p None) (next_get t source) (next_get u source)
  next_get_keep None = ends_so None (TransferRefused (failures.NoSource t.w.causes))
  next_get_keep (Some peer) = goes_to_keep peer

  next_keep : (part : Part) → Keeps (p None) (next_step t part) (next_step u part)
  next_keep Drops = judges_keep (enough_by t.read t.w) (next_by t.read t.w) (side_of t.w)
  next_keep part = next_get_keep (next_source t)

  first_get_keep : (here filled : Bool) (source : Option ℕ) → Keeps (p None) (first_get t here filled source) (first_get u here filled source)
  first_get_keep true filled source =
      keeps_if (p None) (is_move t.w.what.kind) (quietly (talk t) None) (quietly (talk u) None) (ends t None (Got None None)) (ends u None (Got None None))
      (quiet_keep None) (ends_so None (Got None None))
  first_get_keep false true source = ends_so None (TransferRefused failures.Busy)
  first_get_keep false false None = quiet_keep None
  first_get_keep false false (Some peer) = goes_to_keep peer

  first_put_keep : (here : Bool) (peer : Option ℕ) → Keeps (p None) (first_put t here peer) (first_put u here peer)
  first_put_keep true (Some peer) = goes_to_keep peer
  first_put_keep here peer = ends_so None (TransferRefused failures.NotHere)

  first_keep : (part : Part) → Keeps (p None) (first_step t part) (first_step u part)
  first_keep Gets =
      let x = first_get t (is_there t) (t.filled (key_of t)) (next_source t) in
      let y = first_get u (is_there t) (t.filled (key_of t)) (next_source t) in
      attempts_keep (calls.Has ∷ []) None x y (never false refl) (first_get_keep (is_there t) (t.filled (key_of t)) (next_source t))
  first_keep Puts =
      attempts_keep (calls.Has ∷ []) None (first_put t (is_there t) t.w.what.peer) (first_put u (is_there t) t.w.what.peer) (never false refl) (first_put_keep (is_there t) t.w.what.peer)
  first_keep Drops = first_drop_keep (side_of t.w)

  piece_keep : (peer at n : ℕ) → Keeps (p None) (puts_piece t peer at n) (puts_piece u peer at n)
  piece_keep peer at n =
      let bodies : List FrameText = (if reaches (content_of t) (at + n) then Bytes n else Closing) ∷ [] in
      attempts_keep (calls.Read ∷ []) None (sends_to t (talk t) None peer bodies) (sends_to u (talk u) None peer bodies) (never false refl) (sends_keep None peer bodies)

  removal_keep : (side : Side) → Keeps (p None) (ends t None (removal_outcome side t)) (ends u None (removal_outcome side u))
  removal_keep Local = ends_so None (removal_outcome Local t)
  removal_keep Remote =
      ends_keep None (removal_outcome Remote t) (removal_outcome Remote u)
      (obeyed_stays (t.look.words (target t)) (proof_by t.read t.w) ∙ sym (obeyed_stays (d.words (target t)) (proof_by t.read t.w)))
      (λ e. ap (λ (ws : ℕ → Option Word). obeyed_outcome (ws (target t)) (proof_by t.read t.w)) e)

  denial_keep : Keeps (p None) (ends t None (denial_outcome t)) (ends u None (denial_outcome u))
  denial_keep =
      ends_keep None (denial_outcome t) (denial_outcome u) refl
      (λ e. ap (λ (ws : ℕ → Option Word). Refused (refusals.Denied (denial_of (ws (target t))))) e)

  pub goes_keep : (phase : Phase) → Keeps (p None) (goes t phase) (goes u phase)
  goes_keep Fresh = first_keep t.w.part
  goes_keep Next = next_keep t.w.part
  goes_keep (PutsBytes peer start at left) = piece_keep peer at (min 32768 left)
  goes_keep (PutsWord peer start) = says_keep None peer Valid
  goes_keep Removed = removal_keep (side_of t.w)
  goes_keep Denied = denial_keep
  goes_keep (Late time) = ends_so None (expiry (t.clock time) (first_end t))
  goes_keep (Ends outcome) = ends_so None outcome
  goes_keep phase = ends_so None (TransferRefused failures.Closed)

  -- ---- steps that take a frame

  gains_plain : (f : FrameView) (peer size : ℕ) (b : Bool) → IsPlain (p (Some f)) (gains t f peer size b)
  gains_plain f peer size true = record { no_call = refl; made_by = refl; taken_is = refl }
  gains_plain f peer size false = record { no_call = refl; made_by = refl; taken_is = refl }

  commit_keep : (f : FrameView) (peer size : ℕ)
      → Keeps (p (Some f)) (attempts t (to_commit t.look.right) (Some f) (gains t f peer size t.look.right)) (attempts u (to_commit d.right) (Some f) (gains u f peer size d.right))
  commit_keep f peer size =
      with_calls (Some f) (unless (failing_call t.look.fails (to_commit t.look.right)) (fault_of (Some f)) (gains t f peer size t.look.right)) (unless (failing_call d.fails (to_commit d.right)) (fault_of (Some f)) (gains t f peer size d.right))
      (to_commit t.look.right ++ (gains t f peer size t.look.right).calls) (to_commit d.right ++ (gains t f peer size d.right).calls)
      (keeps_commit (p (Some f)) (fault_of (Some f)) (gains t f peer size) (is_fault (Some f)) (gains_plain f peer size) (told t.look.right))
    where
      told : (b : Bool) → matches_told (gains t f peer size b).kind ≡ b
      told true = refl
      told false = refl

  get_keep : (f : FrameView) (peer : ℕ) (phase : Phase) (m : Message) → Keeps (p (Some f)) (takes_get t f peer phase m) (takes_get u f peer phase m)
  get_keep f peer (GetsData q start) (Data n) = quiet_keep (Some f)
  get_keep f peer (GetsWord q start size) Valid = commit_keep f peer size
  get_keep f peer (GetsWord q start size) Invalid = says_keep (Some f) peer Failure
  get_keep f peer phase m = wrong_keep f peer

  from_keep : (f : FrameView) (peer n : ℕ) → Keeps (p (Some f)) (puts_from t f peer n) (puts_from u f peer n)
  from_keep f peer n =
      let m = Data (bytes_left (content_of t) n) in
      let x = if reaches (content_of t) n then says_to t (talk t) (Some f) peer m else wrong_message t f peer in
      let y = if reaches (content_of t) n then says_to u (talk u) (Some f) peer m else wrong_message u f peer in
      attempts_keep (calls.Size ∷ []) (Some f) x y (never false refl)
      (keeps_if (p (Some f)) (reaches (content_of t) n) (says_to t (talk t) (Some f) peer m) (says_to u (talk u) (Some f) peer m) (wrong_message t f peer) (wrong_message u f peer)
      (says_keep (Some f) peer m) (wrong_keep f peer))

  put_keep : (f : FrameView) (peer : ℕ) (phase : Phase) (m : Message) → Keeps (p (Some f)) (takes_put t f peer phase m) (takes_put u f peer phase m)
  put_keep f peer (PutsOffer q) AlreadyHave = quiet_keep (Some f)
  put_keep f peer (PutsOffer q) Failure = quiet_keep (Some f)
  put_keep f peer (PutsOffer q) (Error text) =
      keeps_if (p (Some f)) (bytes_eq text (codes "busy")) (hears t f) (hears u f) (wrong_message t f peer) (wrong_message u f peer) (quiet_keep (Some f)) (wrong_keep f peer)
  put_keep f peer (PutsOffer q) (PutFrom n) = from_keep f peer n
  put_keep f peer (PutsAnswer q start) Success = quiet_keep (Some f)
  put_keep f peer (PutsAnswer q start) Failure = quiet_keep (Some f)
  put_keep f peer phase m = wrong_keep f peer

  times_keep : (f : FrameView) (n : ℕ) (end : Option ℕ) → Keeps (p (Some f)) (times t f n end) (times u f n end)
  times_keep f n None = orders_keep (Some f) None (Remove (key_of t))
  times_keep f n (Some end) =
      let deadline = n + (end - clock_of t) / 1000 in
      let m = RemoveBefore deadline (key_of t) in
      let o = Refused (refusals.Expired end (clock_of t)) in
      keeps_if (p (Some f)) (nat_lt (clock_of t) end) (orders t (Some f) (Some deadline) m) (orders u (Some f) (Some deadline) m) (ends t (Some f) o) (ends u (Some f) o)
      (orders_keep (Some f) (Some deadline) m) (ends_so (Some f) o)

  time_keep : (f : FrameView) (peer n : ℕ) (side : Side) → Keeps (p (Some f)) (takes_time t f peer n side) (takes_time u f peer n side)
  time_keep f peer n Local = wrong_keep f peer
  time_keep f peer n Remote =
      keeps_if (p (Some f)) (nat_lt n (2 ^ 61)) (times t f n (first_end t)) (times u f n (first_end u)) (wrong_message t f peer) (wrong_message u f peer)
      (times_keep f n (first_end t)) (wrong_keep f peer)

  drop_keep : (f : FrameView) (peer : ℕ) (phase : Phase) (m : Message) → Keeps (p (Some f)) (takes_drop t f peer phase m) (takes_drop u f peer phase m)
  drop_keep f peer (AsksLock q since) Success = quiet_keep (Some f)
  drop_keep f peer (AsksLock q since) Failure = says_keep (Some f) peer (CheckPresent (key_of t))
  drop_keep f peer (AsksLook q) Success = quiet_keep (Some f)
  drop_keep f peer (AsksLook q) Failure = quiet_keep (Some f)
  drop_keep f peer AsksTime (Timestamp n) = time_keep f peer n (side_of t.w)
  drop_keep f peer Jobs.Orders Success = quiet_keep (Some f)
  drop_keep f peer Jobs.Orders Failure = quiet_keep (Some f)
  drop_keep f peer phase m = wrong_keep f peer

  answer_keep : (f : FrameView) (peer : ℕ) (part : Part) (phase : Phase) (m : Message) → Keeps (p (Some f)) (takes_answer t f peer part phase m) (takes_answer u f peer part phase m)
  answer_keep f peer Gets phase m = get_keep f peer phase m
  answer_keep f peer Puts phase m = put_keep f peer phase m
  answer_keep f peer Drops phase m = drop_keep f peer phase m

  takes_keep : (f : FrameView) (peer : ℕ) (phase : Phase) (m : Message) → Keeps (p (Some f)) (takes t f peer phase m) (takes u f peer phase m)
  takes_keep f peer (Opens q) (AuthSuccess id) = says_keep (Some f) peer (Version 3)
  takes_keep f peer (Greets q) (Version n) =
      keeps_if (p (Some f)) (nat_le n 3) (asks t n (Some f) peer t.w.part) (asks u n (Some f) peer u.w.part) (wrong_message t f peer) (wrong_message u f peer)
      (asks_keep n (Some f) peer t.w.part) (wrong_keep f peer)
  takes_keep f peer phase m = answer_keep f peer t.w.part phase m

  text_keep : (f : FrameView) (peer : ℕ) (m : Option Message) → Keeps (p (Some f)) (takes_text t f peer m) (takes_text u f peer m)
  text_keep f peer None = wrong_keep f peer
  text_keep f peer (Some m) = takes_keep f peer t.w.phase m

  bytes_keep : (f : FrameView) (peer n : ℕ) (phase : Phase) → Keeps (p (Some f)) (takes_bytes t f peer n phase) (takes_bytes u f peer n phase)
  bytes_keep f peer n (GetsBytes q start size left) =
      let x = quietly (talk t) (Some f) in
      keeps_if (p (Some f)) (nat_lt 0 n && nat_le n left) (attempts t (calls.Append ∷ []) (Some f) x) (attempts u (calls.Append ∷ []) (Some f) x) (wrong_message t f peer) (wrong_message u f peer)
      (attempts_keep (calls.Append ∷ []) (Some f) x x (never false refl) (quiet_keep (Some f))) (wrong_keep f peer)
  bytes_keep f peer n phase = wrong_keep f peer

  pub takes_frame_keep : (peer : ℕ) (f : FrameView) (body : FrameText) → Keeps (p (Some f)) (takes_frame t peer f body) (takes_frame u peer f body)
  takes_frame_keep peer f Opening = wrong_keep f peer
  takes_frame_keep peer f Closing = quiet_keep (Some f)
  takes_frame_keep peer f (Bytes n) = bytes_keep f peer n t.w.phase
  takes_frame_keep peer f (Line text) = text_keep f peer (message_of text)
