-- Which job a step ends doesn't depend on the part that it asks for, nor on the words beside what a job heard.
use Rattle.std.proofs.Common.{◌≡◌, ℕ, ◌^◌, Bool, true, false, List, [], ◌∷◌, Option, Some, None, refl, sym, ap, ◌∙◌, subst}
use Rattle.std.specs.Prelude.{if◌then◌else◌, ◌==◌, ◌&&◌, bytes_eq, codes, find, min, nat_le, nat_lt}
use Rattle.std.specs.List.{list_all}
use Rattle.std.specs.Option.{option_or}
use Rattle.annex_base.specs.declared.kinds.Word.{Word}
use Rattle.drop_proof.specs.declared.rule.Side.{Side}
use Rattle.drop_proof.specs.declared.rule.Side.TheVariants.{Local, Remote}
use Rattle.run_data.specs.declared.entry.EntryKind.{EntryKind}
use Rattle.run_data.specs.declared.entry.EntryKind.TheVariants.{Talk, End as ends_job}
use Rattle.run_data.specs.declared.entry.FrameView.{FrameView}
use Rattle.run_data.specs.declared.entry.FrameText.{FrameText}
use Rattle.run_data.specs.declared.entry.FrameText.TheVariants.{Opening, Closing, Bytes, Line}
use Rattle.run_data.specs.declared.job.DropRefusal.{DropRefusal}
use Rattle.run_data.specs.declared.job.Outcome.{Outcome}
use Rattle.node_model.specs.Evidence.{Asked, Claimed, Ignored, Standing}
use Rattle.node_model.specs.Slots.{job_of}
use Rattle.node_model.specs.Look.{Look, Effect, waiting_frame}
use Rattle.p2p_wire.specs.declared.message.Message.{Message}
use Rattle.p2p_wire.specs.declared.message.Message.TheVariants.{AlreadyHave, AuthSuccess, Data, Error, Failure, Invalid, PutFrom, Success, Timestamp, Valid, Version}
use Rattle.p2p_wire.specs.Messages.{message_of}
use Rattle.node_model.specs.SetUp.{SetUp, served_connections, slots}
use Rattle.node_model.specs.Ends.{EndName, server_end}
use Rattle.node_model.specs.Sessions
use Rattle.node_model.specs.Sessions.{Doing, reaches}
use Rattle.node_model.specs.Jobs
use Rattle.node_model.specs.Jobs.{AsksLock, AsksLook, AsksTime, Drops, Fresh, Gets, GetsBytes, GetsData, GetsWord, Greets, Next, Opens, Part, Phase, Puts, PutsAnswer, PutsBytes, PutsOffer, PutsWord, Work, is_move, job_end, partner, side_of}
use Rattle.node_model.specs.OwedLines.{OwedLine}
use Rattle.node_model.specs.State.{State}
use Rattle.node_model.specs.OwedStep.{owed_step, pays_first}
use Rattle.node_model.specs.SessionStep.{Here, Reply, gives_made, gives_next, here, on_frame, on_piece, reply, session_at, session_makes, session_step}
use Rattle.node_model.specs.Knows.{enough_by, next_by}
use Rattle.node_model.specs.JobStep.{Turn, bar_there, clock_of, end_with, is_there, key_of, me, turn_of}
use Rattle.node_model.specs.DropStep.{asks_copy, asks_target, bars, first_drop, first_end, first_remote, held_until, in_time, required_there, row_refusal, takes_drop, takes_time, target, times, tries_own}
use Rattle.node_model.specs.Requests.{asks, goes_to}
use Rattle.node_model.specs.TransferStep.{content_of, first_get, first_put, gains, next_get, next_source, takes_bytes, takes_get, takes_put}
use Rattle.node_model.specs.Turns.{awaits, by_partner, first_step, goes, goes_on, has_room, is_awaiting, job_step, judges, needs, next_step, slot_step, takes, takes_answer, takes_frame, takes_text, with_partner}
use Rattle.node_model.specs.Step.{step}
use Rattle.driver_model.proofs.Alike.{Alike, first_alike, if_alike, list_alike, some_alike}
use Rattle.driver_model.proofs.Needed.{needed}
use Rattle.driver_model.proofs.Premises.{NamedJobs}
use Rattle.driver_model.proofs.Turned.{EndsAlike}

-- the job that an entry of this kind ends
abbrev ended : EntryKind → Option ℕ
ended (ends_job j outcome) = Some j
ended kind = None

abbrev E : Effect → Effect → Type 0
E m m' = ended m.kind ≡ ended m'.kind

no_end : (x : Reply) → job_of x.kind ≡ None → ended x.kind ≡ None
no_end x e = go x.kind e
  where
    go : (kind : EntryKind) → job_of kind ≡ None → ended kind ≡ None
    go (ends_job j outcome) e = absurd (cc)
    go kind e = refl

-- a session's next piece, or the word at the end
abbrev pub given_next : Here → List ℕ → ℕ → ℕ → Bool → Reply
given_next h key at left good = if left == 0 then reply (Talk None) (if good then Valid else Invalid) else on_piece h key at (min 32768 left)

-- a look without a failing call
abbrev calm : ℕ → ℕ → List FrameView → (EndName → Bool) → ℕ → Bool → (ℕ → Option Word) → Look
calm time count hand room part right words = record { time = time; count = count; at_hand = hand; room = room; fails = None; part = part; right = right; words = words }

module _ (names : NamedJobs) (s : SetUp) (st : State) (time count : ℕ) (hand : List FrameView) (room : EndName → Bool) (p0 p1 : ℕ) (r0 r1 : Bool) (w0 w1 : ℕ → Option Word) where
  abbrev k0 : Look
  k0 = calm time count hand room p0 r0 w0

  abbrev k1 : Look
  k1 = calm time count hand room p1 r1 w1

  -- ---- an owed line, and a session

  owed_alike : (os : List OwedLine) → Alike E (pays_first s st k0 os) (pays_first s st k1 os)
  owed_alike [] = tt
  owed_alike (o ∷ os) = refl

  module _ (a : EndName) where
    abbrev h0 : Here
    h0 = here s st k0 a

    abbrev h1 : Here
    h1 = here s st k1 a

    none_ends : (h : Here) (f : FrameView) → ended (on_frame h (st.sessions a) f.body).kind ≡ None
    none_ends h f = no_end (on_frame h (st.sessions a) f.body) (names.answers h (st.sessions a) f.body)

    given : (doing : Doing) → Alike E (gives_made a (st.ends a) (gives_next h0 doing)) (gives_made a (st.ends a) (gives_next h1 doing))
    given (Sessions.Gives key at left good) = none h0 ∙ sym (none h1)
      where
        none : (h : Here) → ended (given_next h key at left good).kind ≡ None
        none h = no_end (given_next h key at left good) (names.gives h (Sessions.Gives key at left good) (given_next h key at left good) refl)
    given doing = tt

    makes_alike : (o : Option FrameView) → Alike E (session_makes h0 (st.ends a) (st.sessions a) o) (session_makes h1 (st.ends a) (st.sessions a) o)
    makes_alike (Some f) = none_ends h0 f ∙ sym (none_ends h1 f)
    makes_alike None = go (st.ends a).opened
      where
        go : (b : Bool) → Alike E (if b then gives_made a (st.ends a) (gives_next h0 (st.sessions a).doing) else None) (if b then gives_made a (st.ends a) (gives_next h1 (st.sessions a).doing) else None)
        go true = given (st.sessions a).doing
        go false = tt

    session_alike : Alike E (session_at s st k0 a) (session_at s st k1 a)
    session_alike = go (room a)
      where
        go : (b : Bool) → Alike E (if b then session_makes h0 (st.ends a) (st.sessions a) (waiting_frame (st.ends a) k0 a) else None) (if b then session_makes h1 (st.ends a) (st.sessions a) (waiting_frame (st.ends a) k1 a) else None)
        go true = makes_alike (waiting_frame (st.ends a) k0 a)
        go false = tt

  -- ---- a job

  module _ (w : Work) where
    abbrev t0 : Turn
    t0 = turn_of s st k0 w

    abbrev t1 : Turn
    t1 = turn_of s st k1 w

    target_alike : (version : ℕ) (taken : Option FrameView) (end : Option ℕ) → E (asks_target t0 version taken end) (asks_target t1 version taken end)
    target_alike version taken None = refl
    target_alike version taken (Some end) = if_alike E (nat_lt version 3) _ _ _ _ refl refl

    copy_alike : (version : ℕ) (taken : Option FrameView) (peer : ℕ) (side : Side) → E (asks_copy t0 version taken peer side) (asks_copy t1 version taken peer side)
    copy_alike version taken peer Local = refl
    copy_alike version taken peer Remote = if_alike E (target t0 == peer) _ _ _ _ (target_alike version taken (first_end t0)) refl

    asks_alike : (version : ℕ) (taken : Option FrameView) (peer : ℕ) (part : Part) → E (asks t0 version taken peer part) (asks t1 version taken peer part)
    asks_alike version taken peer Gets = refl
    asks_alike version taken peer Puts = refl
    asks_alike version taken peer Drops = copy_alike version taken peer (side_of w)

    goes_to-alike : (peer : ℕ) → E (goes_to t0 peer) (goes_to t1 peer)
    goes_to-alike peer = if_alike E (end_with t0 peer).opened _ _ _ _ (asks_alike w.version None peer w.part) refl

    get_alike : (there filled : Bool) (source : Option ℕ) → E (first_get t0 there filled source) (first_get t1 there filled source)
    get_alike true filled source = if_alike E (is_move w.what.kind) _ _ _ _ refl refl
    get_alike false true source = refl
    get_alike false false None = refl
    get_alike false false (Some peer) = goes_to-alike peer

    put_alike : (there : Bool) (peer : Option ℕ) → E (first_put t0 there peer) (first_put t1 there peer)
    put_alike true (Some peer) = goes_to-alike peer
    put_alike true None = refl
    put_alike false peer = refl

    bars_alike : (o : Option DropRefusal) → E (bars t0 o) (bars t1 o)
    bars_alike (Some refusal) = refl
    bars_alike None = refl

    own_alike : (standing : Standing) → E (tries_own t0 standing) (tries_own t1 standing)
    own_alike Asked = refl
    own_alike Claimed = refl
    own_alike (Ignored cause) = refl

    remote_alike : (o : Option (List ℕ)) → E (first_remote t0 o) (first_remote t1 o)
    remote_alike (Some text) = refl
    remote_alike None = own_alike (t0.read.standing (me t0))

    drop_alike : (side : Side) → E (first_drop t0 side) (first_drop t1 side)
    drop_alike Local = bars_alike (row_refusal (is_there t0) (required_there t0) (bar_there t0) (held_until t0))
    drop_alike Remote = remote_alike (required_there t0)

    fresh_alike : (part : Part) → E (first_step t0 part) (first_step t1 part)
    fresh_alike Gets = get_alike (is_there t0) (t0.filled (key_of t0)) (next_source t0)
    fresh_alike Puts = put_alike (is_there t0) w.what.peer
    fresh_alike Drops = drop_alike (side_of w)

    judges_alike : (enough : Bool) (next : Option ℕ) (side : Side) → E (judges t0 enough next side) (judges t1 enough next side)
    judges_alike false (Some peer) side = goes_to-alike peer
    judges_alike false None side = refl
    judges_alike true next Local = if_alike E (in_time (clock_of t0) (first_end t0)) _ _ _ _ refl refl
    judges_alike true next Remote = goes_to-alike (target t0)

    source_alike : (o : Option ℕ) → E (next_get t0 o) (next_get t1 o)
    source_alike None = refl
    source_alike (Some peer) = goes_to-alike peer

    next_alike : (part : Part) → E (next_step t0 part) (next_step t1 part)
    next_alike Drops = judges_alike (enough_by t0.read w) (next_by t0.read w) (side_of w)
    next_alike Gets = source_alike (next_source t0)
    next_alike Puts = source_alike (next_source t0)

    goes_alike : (phase : Phase) → E (goes t0 phase) (goes t1 phase)
    goes_alike Fresh = fresh_alike w.part
    goes_alike Next = next_alike w.part
    goes_alike (PutsBytes peer start at left) = refl
    goes_alike (PutsWord peer start) = refl
    goes_alike phase = refl

    goes_on-alike : Alike E (goes_on t0) (goes_on t1)
    goes_on-alike = subst (λ ps. Alike E (if list_all (has_room t0) (needs t0 w.phase) then Some (goes t0 w.phase) else None) (if list_all (has_room t0) ps then Some (goes t1 w.phase) else None)) (needed s st k0 None p1 r1 w1 w w.phase)
        (some_alike E (list_all (has_room t0) (needs t0 w.phase)) (goes t0 w.phase) (goes t1 w.phase) (goes_alike w.phase))

    -- ---- what it takes

    gains_alike : (f : FrameView) (peer size : ℕ) (b c : Bool) → E (gains t0 f peer size b) (gains t1 f peer size c)
    gains_alike f peer size true true = refl
    gains_alike f peer size true false = refl
    gains_alike f peer size false true = refl
    gains_alike f peer size false false = refl

    bytes_alike : (f : FrameView) (peer n : ℕ) (phase : Phase) → E (takes_bytes t0 f peer n phase) (takes_bytes t1 f peer n phase)
    bytes_alike f peer n (GetsBytes p start size left) = if_alike E (nat_lt 0 n && nat_le n left) _ _ _ _ refl refl
    bytes_alike f peer n phase = refl

    takes_get-alike : (f : FrameView) (peer : ℕ) (phase : Phase) (m : Message) → E (takes_get t0 f peer phase m) (takes_get t1 f peer phase m)
    takes_get-alike f peer (GetsData p start) (Data n) = refl
    takes_get-alike f peer (GetsWord p start size) Valid = gains_alike f peer size r0 r1
    takes_get-alike f peer (GetsWord p start size) Invalid = refl
    takes_get-alike f peer phase m = refl

    takes_put-alike : (f : FrameView) (peer : ℕ) (phase : Phase) (m : Message) → E (takes_put t0 f peer phase m) (takes_put t1 f peer phase m)
    takes_put-alike f peer (PutsOffer p) AlreadyHave = refl
    takes_put-alike f peer (PutsOffer p) Failure = refl
    takes_put-alike f peer (PutsOffer p) (Error text) = if_alike E (bytes_eq text (codes "busy")) _ _ _ _ refl refl
    takes_put-alike f peer (PutsOffer p) (PutFrom n) = if_alike E (reaches (content_of t0) n) _ _ _ _ refl refl
    takes_put-alike f peer (PutsAnswer p start) Success = refl
    takes_put-alike f peer (PutsAnswer p start) Failure = refl
    takes_put-alike f peer phase m = refl

    times_alike : (f : FrameView) (n : ℕ) (end : Option ℕ) → E (times t0 f n end) (times t1 f n end)
    times_alike f n None = refl
    times_alike f n (Some end) = if_alike E (nat_lt (clock_of t0) end) _ _ _ _ refl refl

    time_alike : (f : FrameView) (peer n : ℕ) (side : Side) → E (takes_time t0 f peer n side) (takes_time t1 f peer n side)
    time_alike f peer n Local = refl
    time_alike f peer n Remote = if_alike E (nat_lt n (2 ^ 61)) _ _ _ _ (times_alike f n (first_end t0)) refl

    takes_drop-alike : (f : FrameView) (peer : ℕ) (phase : Phase) (m : Message) → E (takes_drop t0 f peer phase m) (takes_drop t1 f peer phase m)
    takes_drop-alike f peer (AsksLock p since) Success = refl
    takes_drop-alike f peer (AsksLock p since) Failure = refl
    takes_drop-alike f peer (AsksLook p) Success = refl
    takes_drop-alike f peer (AsksLook p) Failure = refl
    takes_drop-alike f peer AsksTime (Timestamp n) = time_alike f peer n (side_of w)
    takes_drop-alike f peer Jobs.Orders Success = refl
    takes_drop-alike f peer Jobs.Orders Failure = refl
    takes_drop-alike f peer phase m = refl

    answer_alike : (f : FrameView) (peer : ℕ) (part : Part) (phase : Phase) (m : Message) → E (takes_answer t0 f peer part phase m) (takes_answer t1 f peer part phase m)
    answer_alike f peer Gets phase m = takes_get-alike f peer phase m
    answer_alike f peer Puts phase m = takes_put-alike f peer phase m
    answer_alike f peer Drops phase m = takes_drop-alike f peer phase m

    takes_alike : (f : FrameView) (peer : ℕ) (phase : Phase) (m : Message) → E (takes t0 f peer phase m) (takes t1 f peer phase m)
    takes_alike f peer (Opens p) (AuthSuccess id) = refl
    takes_alike f peer (Greets p) (Version n) = if_alike E (nat_le n 3) _ _ _ _ (asks_alike n (Some f) peer w.part) refl
    takes_alike f peer phase m = answer_alike f peer w.part phase m

    text_alike : (f : FrameView) (peer : ℕ) (m : Option Message) → E (takes_text t0 f peer m) (takes_text t1 f peer m)
    text_alike f peer None = refl
    text_alike f peer (Some m) = takes_alike f peer w.phase m

    frame_alike : (peer : ℕ) (f : FrameView) (body : FrameText) → E (takes_frame t0 peer f body) (takes_frame t1 peer f body)
    frame_alike peer f Opening = refl
    frame_alike peer f Closing = refl
    frame_alike peer f (Bytes n) = bytes_alike f peer n w.phase
    frame_alike peer f (Line text) = text_alike f peer (message_of text)

    awaits_alike : (peer : ℕ) (o : Option FrameView) → Alike E (awaits t0 peer o) (awaits t1 peer o)
    awaits_alike peer None = tt
    awaits_alike peer (Some f) = some_alike E (has_room t0 peer) (takes_frame t0 peer f f.body) (takes_frame t1 peer f f.body) (frame_alike peer f f.body)

    with_alike : (peer : ℕ) (opened : Bool) → Alike E (with_partner t0 peer opened) (with_partner t1 peer opened)
    with_alike peer false = refl
    with_alike peer true = go (is_awaiting w.phase)
      where
        go : (b : Bool) → Alike E (if b then awaits t0 peer (waiting_frame (end_with t0 peer) k0 (job_end w peer)) else goes_on t0) (if b then awaits t1 peer (waiting_frame (end_with t1 peer) k1 (job_end w peer)) else goes_on t1)
        go true = awaits_alike peer (waiting_frame (end_with t0 peer) k0 (job_end w peer))
        go false = goes_on-alike

    by_alike : (o : Option ℕ) → Alike E (by_partner t0 o) (by_partner t1 o)
    by_alike None = goes_on-alike
    by_alike (Some peer) = with_alike peer (end_with t0 peer).opened

  slot_alike : (o : Option Work) → Alike E (slot_step s st k0 o) (slot_step s st k1 o)
  slot_alike None = tt
  slot_alike (Some w) = by_alike w (partner w.what.peer w.phase)

  step_alike : Alike E (step s st k0) (step s st k1)
  step_alike = first_alike E (owed_step s st k0) (owed_step s st k1) (option_or (session_step s st k0) (job_step s st k0)) (option_or (session_step s st k1) (job_step s st k1)) (owed_alike st.owed)
      (first_alike E (session_step s st k0) (session_step s st k1) (job_step s st k0) (job_step s st k1)
      (list_alike E (λ (c : ℕ × ℕ). session_at s st k0 (server_end c.0 c.1)) (λ (c : ℕ × ℕ). session_at s st k1 (server_end c.0 c.1)) (λ c. session_alike (server_end c.0 c.1)) (served_connections s))
      (list_alike E (λ slot. slot_step s st k0 (find (λ w. w.slot == slot) st.works)) (λ slot. slot_step s st k1 (find (λ w. w.slot == slot) st.works)) (λ slot. slot_alike (find (λ w. w.slot == slot) st.works)) slots))

ended_is : (kind : EntryKind) (j : ℕ) → ended kind ≡ Some j → (o : Outcome) × (kind ≡ ends_job j o)
ended_is (ends_job i outcome) j e = let same : i ≡ j = cc in (outcome, ap (λ n. ends_job n outcome) same)
ended_is kind j e = absurd (cc)

-- two looks that differ in the part and the words alone end the same job
pub ends_alike : NamedJobs → EndsAlike
ends_alike names s st k part right words m m' j outcome calm' e e' is = ended_is m.kind j (go (step_alike names s st k.time k.count k.at_hand k.room k.part part k.right right k.words words) ∙ ap ended is)
  where
    same : step s st (calm k.time k.count k.at_hand k.room k.part k.right k.words) ≡ Some m
    same = ap (λ o. step s st (record { time = k.time; count = k.count; at_hand = k.at_hand; room = k.room; fails = o; part = k.part; right = k.right; words = k.words })) (sym calm') ∙ e

    same' : step s st (calm k.time k.count k.at_hand k.room part right words) ≡ Some m'
    same' = ap (λ o. step s st (record { time = k.time; count = k.count; at_hand = k.at_hand; room = k.room; fails = o; part = part; right = right; words = words })) (sym calm') ∙ e'

    go : Alike E (step s st (calm k.time k.count k.at_hand k.room k.part k.right k.words)) (step s st (calm k.time k.count k.at_hand k.room part right words)) → ended m.kind ≡ ended m'.kind
    go a = subst (λ o. Alike E (Some m) o) same' (subst (λ o. Alike E o (step s st (calm k.time k.count k.at_hand k.room part right words))) same a)

-- where one is ready for the one look, one is for the other
pub still_steps : NamedJobs → (s : SetUp) (st : State) (k : Look) (part : ℕ) (right : Bool) (words : ℕ → Option Word) (m : Effect) → k.fails ≡ None → step s st k ≡ Some m
    → (m' : Effect) × (step s st (record k { part = part; right = right; words = words; fails = None }) ≡ Some m')
still_steps names s st k part right words m calm' e = go (step s st (calm k.time k.count k.at_hand k.room part right words)) refl
    (subst (λ o. Alike E o (step s st (calm k.time k.count k.at_hand k.room part right words))) same (step_alike names s st k.time k.count k.at_hand k.room k.part part k.right right k.words words))
  where
    same : step s st (calm k.time k.count k.at_hand k.room k.part k.right k.words) ≡ Some m
    same = ap (λ o. step s st (record { time = k.time; count = k.count; at_hand = k.at_hand; room = k.room; fails = o; part = k.part; right = k.right; words = k.words })) (sym calm') ∙ e

    go : (o : Option Effect) → step s st (calm k.time k.count k.at_hand k.room part right words) ≡ o → Alike E (Some m) o → (m' : Effect) × (step s st (calm k.time k.count k.at_hand k.room part right words) ≡ Some m')
    go None i a = absurd a
    go (Some m') i a = (m', i)
