-- Each step of a job keeps the dialogue on its connections, where what it takes suits its phase: the steps that take a frame, and all.
use Rattle.std.proofs.Common.{◌≡◌, ℕ, ◌+◌, ◌-◌, ◌/◌, ◌^◌, ◌≤◌, Bool, true, false, List, [], ◌∷◌, ◌++◌, Option, Some, None, inl, inr, ◌⊎◌, refl, sym, ap, ◌∙◌, subst, arith}
use Rattle.std.specs.Prelude.{if◌then◌else◌, ◌==◌, ◌&&◌, not, min, nat_lt, nat_le, bytes_eq, codes}
use Rattle.std.specs.List.{list_all}
use Rattle.std.proofs.lemmas.Bool.{true≢false, and_parts}
use Rattle.std.proofs.lemmas.Bool.Decides.{nat_tests}
use Rattle.std.proofs.lemmas.Option.{same_Some}
use Rattle.annex_base.specs.declared.kinds.Call.{Call}
use Rattle.annex_base.proofs.Conditions.{eqb_refl, if_either}
use Rattle.annex_base.proofs.Lists.{find_member}
use Rattle.annex_base.specs.declared.kinds.Call.TheVariants as calls
use Rattle.drop_proof.specs.declared.rule.Side.{Side}
use Rattle.drop_proof.specs.declared.rule.Side.TheVariants.{Local, Remote}
use Rattle.run_data.specs.declared.entry.EntryKind.TheVariants.{Fault, Gain, End as ends_job}
use Rattle.run_data.specs.declared.entry.FrameView.{FrameView}
use Rattle.run_data.specs.declared.entry.FrameText.{FrameText}
use Rattle.run_data.specs.declared.entry.FrameText.TheVariants.{Opening, Closing, Bytes, Line}
use Rattle.run_data.specs.declared.job.Outcome.{Outcome}
use Rattle.run_data.specs.declared.job.Outcome.TheVariants.{Got, Copied, Refused, TransferRefused}
use Rattle.run_data.specs.declared.job.DropRefusal.TheVariants as refusals
use Rattle.run_data.specs.declared.job.TransferRefusal.TheVariants as failures
use Rattle.node_model.specs.Rows.{is_lost_ordered}
use Rattle.p2p_wire.specs.declared.message.Message.{Message}
use Rattle.p2p_wire.specs.declared.message.Message.TheVariants.{AuthSuccess, Version, CheckPresent, RemoveBefore, Timestamp, PutFrom, AlreadyHave, Data, Valid, Invalid, Success, Failure, Error}
use Rattle.p2p_wire.specs.Messages.{message_of, text_of}
use Rattle.node_model.specs.Ends.{may_take, takes_at}
use Rattle.node_model.specs.Sessions.{Session, line_in, reaches}
use Rattle.node_model.specs.Jobs
use Rattle.node_model.specs.Jobs.{Part, Gets, Puts, Drops, Phase, Fresh, Next, Opens, Greets, GetsData, GetsBytes, GetsWord, PutsOffer, PutsBytes, PutsWord, PutsAnswer, AsksLock, AsksLook, AsksTime, Removed, Denied, Late, Ends, Heard, Held, Work, gets_more, puts_more, job_end, listens, partner, side_of, after_frame, after_transfer, after_failed_release}
use Rattle.node_model.specs.Calls.{to_commit, to_release}
use Rattle.node_model.specs.Look.{Effect, waiting_frame}
use Rattle.node_model.specs.SessionStep.{bytes_left}
use Rattle.node_model.specs.JobStep.{Turn, hears, attempts, by_me, clock_of, end_with, ends, farewells, key_of, owns_share, quietly, says_to, sends_to, talk, wrong_message, is_held}
use Rattle.node_model.specs.DropStep.{takes_drop, takes_time, first_end, orders, target, times}
use Rattle.node_model.specs.Requests.{asks}
use Rattle.node_model.specs.TransferStep.{takes_get, takes_put, content_of, gains, puts_from, puts_piece, takes_bytes}
use Rattle.node_model.specs.Turns.{takes_answer, awaits, by_partner, goes_on, has_room, needs, with_partner, is_awaiting, goes, outcome_of, takes, takes_frame, takes_text}
use Rattle.step_facts.proofs.JobFacts.{frame_found}
use Rattle.job_facts.proofs.PhaseFacts.{only_offer, only_puts}
use Rattle.job_facts.proofs.TalkFacts.{Fits}
use Rattle.step_facts.proofs.ClientCounts.{IsLive, none_is}
use Rattle.step_facts.proofs.ClientTurns.{talker, talker_phase}
use Rattle.step_facts.proofs.ClientLeaves.{Taking}
use Rattle.step_facts.proofs.ClientSteps.{attempts_even, commit_plain, failure_reads, is_plain, plain_in, release_is, took_listens, transferred_alone, valid_reads}
use Rattle.job_facts.proofs.Dialogue
use Rattle.job_facts.proofs.Dialogue.{Stance, Suits, SuitsBytes, SuitsLine, SuitsMessage, kept, phase_stance, rests, stance}
use Rattle.dialogue_facts.proofs.DialogueSteps.{asked_reply, away_asks, bytes_gives, data_gives, heard_away, lock_locked, min_fits, offer_starts, opened_greets, piece_sends, rests_away, valid_sends, was_answered, word_acks}
use Rattle.dialogue_facts.proofs.DialogueTurns.{KeepsTo, rests_at, stands_on}
use Rattle.dialogue_facts.proofs.DialogueLeaves.{closes_keeps, hears_keeps, hears_to_keeps, lost_keeps, says_keeps, says_to_keeps, sends_keeps, short_keeps, shut_keeps}
use Rattle.dialogue_facts.proofs.DialogueWalk.{Asks, GoodMade, IsVersion, Walks, fault_on, first_asks, first_step_good, dead_good, ends_good, next_step_good, order_good}

abbrev Converses : Stance → Session → List FrameText → List FrameText → Type 0
Converses at z up down = Dialogue.Dialogue at z up down

gets_on : (target : Option ℕ) (p start size left : ℕ) → partner target (gets_more p start size left) ≡ Some p
gets_on target p start size left = if_either (λ (x : Phase). partner target x ≡ Some p) (left == 0) (GetsWord p start size) (GetsBytes p start size left) (λ e. refl) (λ e. refl)

puts_on : (target : Option ℕ) (p start at left : ℕ) → partner target (puts_more p start at left) ≡ Some p
puts_on target p start at left = if_either (λ (x : Phase). partner target x ≡ Some p) (left == 0) (PutsWord p start) (PutsBytes p start at left) (λ e. refl) (λ e. refl)

-- the stance on the partner's connection
to_on : (target : Option ℕ) (next : Phase) (k : Bool) (peer : ℕ) (z : Session) (up down : List FrameText) → partner target next ≡ Some peer → Converses (phase_stance next) z up down → Converses (stance target next k peer) z up down
to_on target next k peer z up down on x = subst (λ (at : Stance). Converses at z up down) (sym (stands_on target next k peer on)) x

to_rest : (target : Option ℕ) (next : Phase) (k : Bool) (peer : ℕ) (z : Session) (up down : List FrameText) → partner target next ≡ None → Converses Dialogue.Away z up down → Converses (stance target next k peer) z up down
to_rest target next k peer z up down none x = subst (λ (at : Stance). Converses at z up down) (sym (rests_at target next k peer (none_is (partner target next) peer none))) (rests_away z up down k x)

kept_now : (x : Work) (p : ℕ) (h : Jobs.Heard) → is_held (Some h) ≡ true → kept (Jobs.hears x p h) p ≡ true
kept_now x p h e = rw (eqb_refl p) e

-- ---- what suits a part of a job

-- the connection is opened
abbrev Starts : Phase → Message → Type 0
Starts (Opens p) (AuthSuccess id) = Unit {0}
Starts (Greets p) (Version n) = Unit {0}
Starts phase m = ⊥

abbrev GetSuits : Phase → Message → Type 0
GetSuits (GetsData p start) (Data n) = Unit {0}
GetSuits (GetsWord p start size) Valid = Unit {0}
GetSuits (GetsWord p start size) Invalid = Unit {0}
GetSuits phase m = ⊥

abbrev PutSuits : Phase → Message → Type 0
PutSuits (PutsOffer p) AlreadyHave = Unit {0}
PutSuits (PutsOffer p) Failure = Unit {0}
PutSuits (PutsOffer p) (Error text) = bytes_eq text (codes "busy") ≡ true
PutSuits (PutsOffer p) (PutFrom n) = Unit {0}
PutSuits (PutsAnswer p start) Success = Unit {0}
PutSuits (PutsAnswer p start) Failure = Unit {0}
PutSuits phase m = ⊥

abbrev DropSuits : Phase → Message → Type 0
DropSuits (AsksLock p since) Success = Unit {0}
DropSuits (AsksLock p since) Failure = Unit {0}
DropSuits (AsksLook p) Success = Unit {0}
DropSuits (AsksLook p) Failure = Unit {0}
DropSuits AsksTime (Timestamp n) = nat_lt n (2 ^ 61) ≡ true
DropSuits Jobs.Orders Success = Unit {0}
DropSuits Jobs.Orders Failure = Unit {0}
DropSuits phase m = ⊥

abbrev PartSuits : Part → Phase → Message → Type 0
PartSuits Gets phase m = GetSuits phase m
PartSuits Puts phase m = PutSuits phase m
PartSuits Drops phase m = DropSuits phase m

get_suits : (phase : Phase) (m : Message) → Fits Gets phase → SuitsMessage phase m → GetSuits phase m ⊎ Starts phase m
get_suits (Opens p) (AuthSuccess id) f s = inr tt
get_suits (Greets p) (Version n) f s = inr tt
get_suits (GetsData p start) (Data n) f s = inl tt
get_suits (GetsWord p start size) Valid f s = inl tt
get_suits (GetsWord p start size) Invalid f s = inl tt
get_suits (PutsOffer p) m f s = absurd f
get_suits (PutsAnswer p start) m f s = absurd f
get_suits (AsksLock p since) m f s = absurd f
get_suits (AsksLook p) m f s = absurd f
get_suits AsksTime m f s = absurd f
get_suits Jobs.Orders m f s = absurd f
get_suits phase m f s = absurd s

put_suits : (phase : Phase) (m : Message) → Fits Puts phase → SuitsMessage phase m → PutSuits phase m ⊎ Starts phase m
put_suits (Opens p) (AuthSuccess id) f s = inr tt
put_suits (Greets p) (Version n) f s = inr tt
put_suits (PutsOffer p) AlreadyHave f s = inl tt
put_suits (PutsOffer p) Failure f s = inl tt
put_suits (PutsOffer p) (Error text) f s = inl s
put_suits (PutsOffer p) (PutFrom n) f s = inl tt
put_suits (PutsAnswer p start) Success f s = inl tt
put_suits (PutsAnswer p start) Failure f s = inl tt
put_suits (GetsData p start) m f s = absurd f
put_suits (GetsWord p start size) m f s = absurd f
put_suits (AsksLock p since) m f s = absurd f
put_suits (AsksLook p) m f s = absurd f
put_suits AsksTime m f s = absurd f
put_suits Jobs.Orders m f s = absurd f
put_suits phase m f s = absurd s

drop_suits : (phase : Phase) (m : Message) → Fits Drops phase → SuitsMessage phase m → DropSuits phase m ⊎ Starts phase m
drop_suits (Opens p) (AuthSuccess id) f s = inr tt
drop_suits (Greets p) (Version n) f s = inr tt
drop_suits (AsksLock p since) Success f s = inl tt
drop_suits (AsksLock p since) Failure f s = inl tt
drop_suits (AsksLook p) Success f s = inl tt
drop_suits (AsksLook p) Failure f s = inl tt
drop_suits AsksTime (Timestamp n) f s = inl s
drop_suits Jobs.Orders Success f s = inl tt
drop_suits Jobs.Orders Failure f s = inl tt
drop_suits (GetsData p start) m f s = absurd f
drop_suits (GetsWord p start size) m f s = absurd f
drop_suits (PutsOffer p) m f s = absurd f
drop_suits (PutsAnswer p start) m f s = absurd f
drop_suits phase m f s = absurd s

part_suits : (part : Part) (phase : Phase) (m : Message) → Fits part phase → SuitsMessage phase m → PartSuits part phase m ⊎ Starts phase m
part_suits Gets phase m f s = get_suits phase m f s
part_suits Puts phase m f s = put_suits phase m f s
part_suits Drops phase m f s = drop_suits phase m f s

module _ (t : Turn) (f : FrameView) (peer : ℕ) (x : Taking t f peer) (walks : Walks t) where
  -- in this phase
  same_peer : (phase : Phase) → t.w.phase ≡ phase → partner t.w.what.peer phase ≡ Some peer
  same_peer phase is = subst (λ (p : Phase). partner t.w.what.peer p ≡ Some peer) is x.on

  fits_in : (part : Part) (phase : Phase) → t.w.part ≡ part → t.w.phase ≡ phase → Fits part phase
  fits_in part phase at is = subst (λ (p : Part). Fits p phase) at (subst (Fits t.w.part) is walks.fits)

  -- an answer is heard, and the job stands on no connection then
  heard_good : (phase : Phase) (m : Message) (next : Phase) → t.w.phase ≡ phase → line_in f.body ≡ Some m → ((listens (talker t (Some f)) phase m).phase ≡ next) → partner t.w.what.peer next ≡ None
      → ((z : Session) (up down : List FrameText) → Converses (phase_stance phase) z up (f.body ∷ down) → Converses Dialogue.Away z up down) → GoodMade t (hears t f)
  heard_good phase m next is told goes none keeps = hears_keeps t (talk t) f peer x phase is next
      (ap (λ (y : Work). y.phase) (took_listens (talker t (Some f)) f.body m phase told (talker_phase t (Some f) ∙ is)) ∙ goes) (inl none)
      (λ z up down y. to_rest t.w.what.peer next (kept (after_frame (talker t (Some f)) f.body) peer) peer z up down none (keeps z up down y))

  fault_here : (call : Call) → is_plain call ≡ true → GoodMade t (quietly (Fault call (by_me t)) (Some f))
  fault_here call plain = fault_on t peer x.on (Some f) call plain

  -- after an answer that leaves the session idle
  asker : (V : Session → Type 0) (phase : Phase) → t.w.phase ≡ phase
      → ((z : Session) (up down : List FrameText) → Converses (phase_stance phase) z up (f.body ∷ down) → Converses Dialogue.Away z up down × V z) → Asks t V (Some f) peer
  asker V phase is idle kind m next back goes on g = says_keeps t kind f peer x phase is m next back goes (inr on)
      (λ k z up down v y. let a = idle z up down y in to_on t.w.what.peer next k peer z (up ++ Line (text_of m) ∷ []) down on (g z up down a.1 a.0))

  asked_away : (at : Stance) (m : Message) → line_in f.body ≡ Some m → ((z : Session) → Dialogue.Answered at z (Some m) → Dialogue.Idle z) → (z : Session) (up down : List FrameText) → Dialogue.Asked at z up (f.body ∷ down) → Converses Dialogue.Away z up down
  asked_away at m told idle z up down y = heard_away at z up down f.body m told (idle z) (asked_reply at z up down f.body y)

  asked_answer : (at : Stance) (m : Message) → line_in f.body ≡ Some m → (z : Session) (up down : List FrameText) → Dialogue.Asked at z up (f.body ∷ down) → Dialogue.Answered at z (Some m)
  asked_answer at m told z up down y = was_answered at z up down f.body m told (asked_reply at z up down f.body y)

  answer_away : (m : Message) → line_in f.body ≡ Some m → ((z : Session) → Dialogue.Answered Dialogue.AtAnswer z (Some m) → Dialogue.Idle z) → (z : Session) (up down : List FrameText) → Converses Dialogue.AtAnswer z up (f.body ∷ down) → Converses Dialogue.Away z up down
  answer_away m told idle z up down (inl y) = absurd (let no' : f.body ∷ down ≡ [] = y.0 in cc)
  answer_away m told idle z up down (inr y) = heard_away Dialogue.AtAnswer z up down f.body m told (idle z) y

  -- the release of its own share fails, as the timestamp comes too late
  late_good : (n : ℕ) (outcome : Outcome) → t.w.phase ≡ AsksTime → line_in f.body ≡ Some (Timestamp n) → GoodMade t (ends t (Some f) outcome)
  late_good n outcome is told =
      let rest : Effect = record { kind = ends_job t.w.number outcome; taken = Some f; sent = farewells t (is_lost_ordered outcome); lines = []; calls = [] } in
      attempts_even (GoodMade t) t (to_release (owns_share t && not (is_lost_ordered outcome))) (Some f) rest
      (λ call e. subst (λ (c : Call). GoodMade t (quietly (Fault c (by_me t)) (Some f))) (sym (release_is (owns_share t && not (is_lost_ordered outcome)) call e)) (
        subst (λ (p : Phase). KeepsTo t (quietly (Fault calls.Unhold (by_me t)) (Some f)) (after_failed_release t.w t.look.time p)) (sym is)
            (hears_to_keeps t (Fault calls.Unhold (by_me t)) f peer x AsksTime is (Jobs.to_phase t.w (Late t.look.time)) (inl refl)
            (λ z up down y. to_rest t.w.what.peer (Late t.look.time) (kept t.w peer) peer z up down refl (asked_away Dialogue.AtTime (Timestamp n) told (λ z a. a.0) z up down y))),
        inl tt,
      )) tt

  times_good : (n : ℕ) → nat_lt n (2 ^ 61) ≡ true → t.w.part ≡ Drops → side_of t.w ≡ Remote → t.w.phase ≡ AsksTime → line_in f.body ≡ Some (Timestamp n)
      → (end : Option ℕ) → first_end t ≡ end → GoodMade t (times t f n end)
  times_good n small part side is told end first = go end first
    where
      to : t.w.what.peer ≡ Some (target t)
      to = walks.speaks.to_target part side

      IsNew : Session → Type 0
      IsNew z = 3 ≤ z.version

      asks_it : Asks t IsNew (Some f) (target t)
      asks_it =
          let e : Some peer ≡ Some (target t) = sym (same_peer AsksTime is) ∙ to in
          let same : peer ≡ target t = cc in
          subst (Asks t IsNew (Some f)) same (asker IsNew AsksTime is (λ z up down y. (asked_away Dialogue.AtTime (Timestamp n) told (λ z a. a.0) z up down y, (asked_answer Dialogue.AtTime (Timestamp n) told z up down y).1)))

      go : (end : Option ℕ) → first_end t ≡ end → GoodMade t (times t f n end)
      go None first = order_good t IsNew (Some f) None to walks.speaks.remove (λ n e z v. v) asks_it
      go (Some end) first =
          let deadline = n + (end - clock_of t) / 1000 in
          if_either (GoodMade t) (nat_lt (clock_of t) end) (orders t (Some f) (Some deadline) (RemoveBefore deadline (key_of t))) (ends t (Some f) (Refused (refusals.Expired end (clock_of t))))
          (λ e. order_good t IsNew (Some f) (Some deadline) to (walks.speaks.before n end small first e) (λ n e z v. v) asks_it)
          (λ e. late_good n (Refused (refusals.Expired end (clock_of t))) is told)

  time_good : (n : ℕ) → nat_lt n (2 ^ 61) ≡ true → t.w.part ≡ Drops → t.w.phase ≡ AsksTime → line_in f.body ≡ Some (Timestamp n) → (side : Side) → side_of t.w ≡ side → GoodMade t (takes_time t f peer n side)
  time_good n small part is told Local side = absurd (let no' : Local ≡ Remote = sym side ∙ walks.times_remote is in cc)
  time_good n small part is told Remote side = if_either (GoodMade t) (nat_lt n (2 ^ 61)) (times t f n (first_end t)) (wrong_message t f peer)
      (λ e. times_good n e part side is told (first_end t) refl) (λ e. absurd (true≢false (sym small ∙ e)))

  -- a lock is given
  lock_heard : (p since : ℕ) → t.w.phase ≡ AsksLock p since → line_in f.body ≡ Some Success → GoodMade t (hears t f)
  lock_heard p since is told =
      let took_is = took_listens (talker t (Some f)) f.body Success (AsksLock p since) told (talker_phase t (Some f) ∙ is) in
      hears_keeps t (talk t) f peer x (AsksLock p since) is Next (ap (λ (y : Work). y.phase) took_is) (inl refl)
      (λ z up down y. subst (λ (at : Stance). Converses at z up down) (sym (rests_at t.w.what.peer Next (kept (after_frame (talker t (Some f)) f.body) peer) peer refl))
      (subst (λ (k : Bool). Converses (rests k) z up down) (sym (subst (λ (v : Work). kept v peer ≡ true) (sym took_is)
      (subst (λ q. kept (listens (talker t (Some f)) (AsksLock q since) Success) peer ≡ true) (sym (same_Some p peer (same_peer (AsksLock p since) is))) (kept_now (talker t (Some f)) peer (Jobs.Held since) refl))))
      (lock_locked z up down f.body told y)))

  drop_good : t.w.part ≡ Drops → (phase : Phase) (m : Message) → t.w.phase ≡ phase → line_in f.body ≡ Some m → DropSuits phase m → GoodMade t (takes_drop t f peer phase m)
  drop_good part (AsksLock p since) Success is told suits = lock_heard p since is told
  drop_good part (AsksLock p since) Failure is told suits =
      asker (λ z. 1 ≤ z.version) (AsksLock p since) is (λ z up down y. let a = asked_away Dialogue.AtLock Failure told (λ z a. a) z up down y in (a, a.1))
      (talk t) (CheckPresent (key_of t)) (AsksLook peer) walks.speaks.look refl refl
      (λ z up down v y. inl (away_asks Dialogue.AtLook z up down (CheckPresent (key_of t)) y v walks.speaks.look))
  drop_good part (AsksLook p) Success is told suits = heard_good (AsksLook p) Success Next is told refl refl (asked_away Dialogue.AtLook Success told (λ z a. a))
  drop_good part (AsksLook p) Failure is told suits = heard_good (AsksLook p) Failure Next is told refl refl (asked_away Dialogue.AtLook Failure told (λ z a. a))
  drop_good part AsksTime (Timestamp n) is told suits = time_good n suits part is told (side_of t.w) refl
  drop_good part Jobs.Orders Success is told suits = heard_good Jobs.Orders Success Removed is told refl refl (asked_away Dialogue.AtOrder Success told (λ z a. a))
  drop_good part Jobs.Orders Failure is told suits = heard_good Jobs.Orders Failure Denied is told refl refl (asked_away Dialogue.AtOrder Failure told (λ z a. a))
  drop_good part phase m is told suits = absurd suits

  -- VALID or INVALID that is refused
  refused_good : (p start size : ℕ) → t.w.phase ≡ GetsWord p start size → (line_in f.body ≡ Some Valid) ⊎ (line_in f.body ≡ Some Invalid) → GoodMade t (says_to t (talk t) (Some f) peer Failure)
  refused_good p start size is told = says_keeps t (talk t) f peer x (GetsWord p start size) is Failure Next failure_reads
      (ap (λ (q : Phase). (Jobs.word_taken (talker t (Some f)) (line_in f.body) q).phase) (talker_phase t (Some f) ∙ is)) (inl refl)
      (λ k z up down v y. to_rest t.w.what.peer Next k peer z (up ++ Line (text_of Failure) ∷ []) down refl (word_acks z up down f.body Failure told refl y))

  gains_good : (p start size : ℕ) → t.w.phase ≡ GetsWord p start size → line_in f.body ≡ Some Valid → (right : Bool) → GoodMade t (gains t f peer size right)
  gains_good p start size is told true = (
    subst (λ (q : Phase). KeepsTo t (says_to t (Gain (by_me t) size (key_of t)) (Some f) peer Success) (Jobs.after_gain t.w q)) (sym is)
        (let done = after_transfer t.w (Got (Some p) (Some start)) in
        says_to_keeps t (Gain (by_me t) size (key_of t)) f peer x (GetsWord p start size) is Success done (inl (transferred_alone t.w.what.peer t.w (Got (Some p) (Some start))))
        (λ z up down v y. to_rest t.w.what.peer done.phase (kept done peer) peer z (up ++ Line (text_of Success) ∷ []) down (transferred_alone t.w.what.peer t.w (Got (Some p) (Some start)))
        (word_acks z up down f.body Success (inl told) refl y))),
    inl (refl, tt),
  )
  gains_good p start size is told false = refused_good p start size is (inl told)

  -- bytes are to come
  more_gets : (p start size left : ℕ) → Some p ≡ Some peer → (k : Bool) (z : Session) (up down : List FrameText) → Converses (phase_stance (gets_more p start size left)) z up down → Converses (stance t.w.what.peer (gets_more p start size left) k peer) z up down
  more_gets p start size left same k z up down y = to_on t.w.what.peer (gets_more p start size left) k peer z up down (gets_on t.w.what.peer p start size left ∙ same) y

  get_good : (phase : Phase) (m : Message) → t.w.phase ≡ phase → line_in f.body ≡ Some m → GetSuits phase m → GoodMade t (takes_get t f peer phase m)
  get_good (GetsData p start) (Data n) is told suits =
      let same = same_peer (GetsData p start) is in
      hears_keeps t (talk t) f peer x (GetsData p start) is (gets_more p start start n)
      (ap (λ (y : Work). y.phase) (took_listens (talker t (Some f)) f.body (Data n) (GetsData p start) told (talker_phase t (Some f) ∙ is))) (inr (gets_on t.w.what.peer p start start n ∙ same))
      (λ z up down y. more_gets p start start n same (kept (after_frame (talker t (Some f)) f.body) peer) z up down (data_gives p start n z up down f.body told y))
  get_good (GetsWord p start size) Valid is told suits = attempts_even (GoodMade t) t (to_commit t.look.right) (Some f) (gains t f peer size t.look.right)
      (λ call e. fault_here call (commit_plain t.look.right call e)) (gains_good p start size is told t.look.right)
  get_good (GetsWord p start size) Invalid is told suits = refused_good p start size is (inr told)
  get_good phase m is told suits = absurd suits

  from_good : (p n : ℕ) → t.w.phase ≡ PutsOffer p → line_in f.body ≡ Some (PutFrom n) → GoodMade t (puts_from t f peer n)
  from_good p n is told =
      let k = bytes_left (content_of t) n in
      attempts_even (GoodMade t) t (calls.Size ∷ []) (Some f) (if reaches (content_of t) n then says_to t (talk t) (Some f) peer (Data k) else wrong_message t f peer)
      (λ call e. fault_here call (plain_in call (calls.Size ∷ []) refl refl e))
      (if_either (GoodMade t) (reaches (content_of t) n) (says_to t (talk t) (Some f) peer (Data k)) (wrong_message t f peer)
      (λ e. says_keeps t (talk t) f peer x (PutsOffer p) is (Data k) (puts_more peer n n k) (walks.speaks.data' n)
      (ap (λ (o : Option Message). Jobs.put_from peer k o) told) (inr (puts_on t.w.what.peer peer n n k))
      (λ q z up down v y. to_on t.w.what.peer (puts_more peer n n k) q peer z (up ++ Line (text_of (Data k)) ∷ []) down (puts_on t.w.what.peer peer n n k)
      (offer_starts peer n n k z up down f.body told (walks.speaks.data' n) y)))
      (λ e. short_keeps t (talk t) f peer x (PutsOffer p) is (record { place = n; short = e; puts = only_offer t.w.part p (fits_in t.w.part (PutsOffer p) refl is); why = inl (f, refl, told) })))

  put_good : (phase : Phase) (m : Message) → t.w.phase ≡ phase → line_in f.body ≡ Some m → PutSuits phase m → GoodMade t (takes_put t f peer phase m)
  put_good (PutsOffer p) AlreadyHave is told suits = heard_good (PutsOffer p) AlreadyHave (after_transfer (talker t (Some f)) (Copied None)).phase is told refl (transferred_alone t.w.what.peer (talker t (Some f)) (Copied None)) (asked_away Dialogue.AtPut AlreadyHave told (λ z a. a))
  put_good (PutsOffer p) Failure is told suits = heard_good (PutsOffer p) Failure (Ends (TransferRefused failures.Rejected)) is told refl refl (asked_away Dialogue.AtPut Failure told (λ z a. a))
  put_good (PutsOffer p) (Error text) is told suits = if_either (GoodMade t) (bytes_eq text (codes "busy")) (hears t f) (wrong_message t f peer)
      (λ e. heard_good (PutsOffer p) (Error text) (Ends (TransferRefused failures.Busy)) is told refl refl (asked_away Dialogue.AtPut (Error text) told (λ z a. a.0))) (λ e. absurd (true≢false (sym suits ∙ e)))
  put_good (PutsOffer p) (PutFrom n) is told suits = from_good p n is told
  put_good (PutsAnswer p start) Success is told suits = heard_good (PutsAnswer p start) Success (after_transfer (talker t (Some f)) (Copied (Some start))).phase is told refl (transferred_alone t.w.what.peer (talker t (Some f)) (Copied (Some start))) (answer_away Success told (λ z a. a))
  put_good (PutsAnswer p start) Failure is told suits = heard_good (PutsAnswer p start) Failure (Ends (TransferRefused failures.Rejected)) is told refl refl (answer_away Failure told (λ z a. a))
  put_good phase m is told suits = absurd suits

  answer_good : (part : Part) (phase : Phase) (m : Message) → t.w.part ≡ part → t.w.phase ≡ phase → line_in f.body ≡ Some m → PartSuits part phase m → GoodMade t (takes_answer t f peer part phase m)
  answer_good Gets phase m part is told suits = get_good phase m is told suits
  answer_good Puts phase m part is told suits = put_good phase m is told suits
  answer_good Drops phase m part is told suits = drop_good part phase m is told suits

  takes_good : (phase : Phase) (m : Message) → t.w.phase ≡ phase → line_in f.body ≡ Some m → SuitsMessage phase m → GoodMade t (takes t f peer phase m)
  takes_good (Opens p) (AuthSuccess id) is told suits = says_keeps t (talk t) f peer x (Opens p) is (Version 3) (Greets peer) walks.speaks.version refl (inr refl)
      (λ k z up down v y. to_on t.w.what.peer (Greets peer) k peer z (up ++ Line (text_of (Version 3)) ∷ []) down refl (opened_greets z up down f.body walks.speaks.version y))
  takes_good (Greets p) (Version n) is told suits = if_either (GoodMade t) (nat_le n 3) (asks t n (Some f) peer t.w.part) (wrong_message t f peer)
      (λ e. first_asks t n (Some f) peer walks.speaks
      (asker (IsVersion t n peer) (Greets p) is (λ z up down y. (asked_away Dialogue.AtGreet (Version n) told (λ z a. a.0) z up down y, λ to. sym (asked_answer Dialogue.AtGreet (Version n) told z up down y).1)))
      (heard_good (Greets p) (Version n) (Ends (Refused (refusals.OldProtocol n))) is told refl refl (asked_away Dialogue.AtGreet (Version n) told (λ z a. a.0))) fault_here t.w.part refl)
      (λ e. absurd (true≢false (sym suits ∙ e)))
  takes_good phase m is told suits = elim (part_suits t.w.part phase m (fits_in t.w.part phase refl is) suits) [ inl y ↦ answer_good t.w.part phase m refl is told y | inr y ↦ absurd y ]

  text_good : (m : Option Message) → line_in f.body ≡ m → SuitsLine t.w.phase m → GoodMade t (takes_text t f peer m)
  text_good None told suits = absurd suits
  text_good (Some m) told suits = takes_good t.w.phase m refl told suits

  bytes_taken : (n : ℕ) → f.body ≡ Bytes n → (phase : Phase) → t.w.phase ≡ phase → SuitsBytes phase n → GoodMade t (takes_bytes t f peer n phase)
  bytes_taken n body (GetsBytes p start size left) is suits =
      let same = same_peer (GetsBytes p start size left) is in
      if_either (GoodMade t) (nat_lt 0 n && nat_le n left) (attempts t (calls.Append ∷ []) (Some f) (quietly (talk t) (Some f))) (wrong_message t f peer)
      (λ e. attempts_even (GoodMade t) t (calls.Append ∷ []) (Some f) (quietly (talk t) (Some f)) (λ call h. fault_here call (plain_in call (calls.Append ∷ []) refl refl h))
      (hears_keeps t (talk t) f peer x (GetsBytes p start size left) is (gets_more p start (size + n) (left - n))
      (ap (λ (b : FrameText). (after_frame (talker t (Some f)) b).phase) body ∙ ap (λ (q : Phase). Jobs.gets_bytes n q) (talker_phase t (Some f) ∙ is)) (inr (gets_on t.w.what.peer p start (size + n) (left - n) ∙ same))
      (λ z up down y. more_gets p start (size + n) (left - n) same (kept (after_frame (talker t (Some f)) f.body) peer) z up down (bytes_gives p start (size + n) left n z up down f.body body y))))
      (λ e. absurd (true≢false (sym suits ∙ e)))
  bytes_taken n body phase is suits = absurd suits

  frame_good : (body : FrameText) → f.body ≡ body → Suits t.w.phase body → GoodMade t (takes_frame t peer f body)
  frame_good Opening is suits = absurd suits
  frame_good Closing is suits = shut_keeps t (talk t) f peer x t.w.phase refl is
  frame_good (Bytes n) is suits = bytes_taken n is t.w.phase refl suits
  frame_good (Line text) is suits = text_good (message_of text) (ap line_in is) suits

-- ---- the step

goes_alone : (t : Turn) → Walks t → partner t.w.what.peer t.w.phase ≡ None → (phase : Phase) → t.w.phase ≡ phase → GoodMade t (goes t phase)
goes_alone t walks alone Fresh is = first_step_good t alone (subst IsLive (sym is) tt) walks t.w.part refl
goes_alone t walks alone Next is = next_step_good t alone (subst IsLive (sym is) tt) walks t.w.part refl
goes_alone t walks alone (PutsBytes peer start at left) is = let e : Some peer ≡ None = subst (λ (p : Phase). partner t.w.what.peer p ≡ None) is alone in absurd (cc)
goes_alone t walks alone (PutsWord peer start) is = let e : Some peer ≡ None = subst (λ (p : Phase). partner t.w.what.peer p ≡ None) is alone in absurd (cc)
goes_alone t walks alone (Ends outcome) is = dead_good t (subst IsLive is) outcome
goes_alone t walks alone phase is = ends_good t alone (subst IsLive (sym is) tt) (outcome_of t phase)

min_below : (left : ℕ) → nat_le (min 32768 left) left ≡ true
min_below left = grind (arith, nat_tests)

piece_good : (t : Turn) (peer start at left : ℕ) → Fits t.w.part t.w.phase → t.w.phase ≡ PutsBytes peer start at left → (end_with t peer).opened ≡ true → GoodMade t (puts_piece t peer at (min 32768 left))
piece_good t peer start at left fits is opened =
    attempts_even (GoodMade t) t (calls.Read ∷ []) None (sends_to t (talk t) None peer ((if reaches (content_of t) (at + n) then Bytes n else Closing) ∷ []))
    (λ call e. fault_on t peer on None call (plain_in call (calls.Read ∷ []) refl refl e)) (go (reaches (content_of t) (at + n)) refl)
  where
    n : ℕ
    n = min 32768 left

    on : partner t.w.what.peer t.w.phase ≡ Some peer
    on = ap (λ (p : Phase). partner t.w.what.peer p) is

    more : (z : Session) (up down : List FrameText) → Converses (Dialogue.AtSend left) z up down → (nat_lt 0 n && nat_le n left) ≡ true
    more z up down y = min_fits left (not_none left y.2)
      where
        not_none : (left : ℕ) → nat_lt 0 left ≡ true → (left == 0) ≡ false
        not_none left e = grind (arith, nat_tests)

    go : (b : Bool) → reaches (content_of t) (at + n) ≡ b → GoodMade t (sends_to t (talk t) None peer ((if b then Bytes n else Closing) ∷ []))
    go false e = closes_keeps t (talk t) peer (PutsBytes peer start at left) is on (record { place = at + n; short = e; puts = only_puts t.w.part peer start at left (subst (Fits t.w.part) is fits); why = inr (peer, start, at, left, n, is, min_below left, refl, refl) })
    go true e = sends_keeps t (talk t) peer (PutsBytes peer start at left) is on (Bytes n) (puts_more peer start (at + n) (left - n)) refl refl opened (ap (λ (q : Phase). Jobs.puts_bytes n q) (talker_phase t None ∙ is))
        (inr (puts_on t.w.what.peer peer start (at + n) (left - n)))
        (λ k z up down y. to_on t.w.what.peer (puts_more peer start (at + n) (left - n)) k peer z (up ++ Bytes n ∷ []) down (puts_on t.w.what.peer peer start (at + n) (left - n))
        (piece_sends peer start at left n z up down (more z up down y) y))

word_good : (t : Turn) (peer start : ℕ) → t.w.phase ≡ PutsWord peer start → (end_with t peer).opened ≡ true → GoodMade t (says_to t (talk t) None peer Valid)
word_good t peer start is opened =
    sends_keeps t (talk t) peer (PutsWord peer start) is (ap (λ (p : Phase). partner t.w.what.peer p) is) (Line (text_of Valid)) (PutsAnswer peer start) refl refl opened
    (ap (λ (q : Phase). Jobs.puts_answer q) (talker_phase t None ∙ is)) (inr refl)
    (λ k z up down y. to_on t.w.what.peer (PutsAnswer peer start) k peer z (up ++ Line (text_of Valid) ∷ []) down refl (valid_sends z up down valid_reads y))

-- a job that sends what it awaits no answer to
goes_on_good : (t : Turn) (peer : ℕ) → Fits t.w.part t.w.phase → partner t.w.what.peer t.w.phase ≡ Some peer → (end_with t peer).opened ≡ true → is_awaiting t.w.phase ≡ false
    → (phase : Phase) → t.w.phase ≡ phase → GoodMade t (goes t phase)
goes_on_good t peer fits on opened idle (PutsBytes p start at left) is =
    let e : Some p ≡ Some peer = subst (λ (q : Phase). partner t.w.what.peer q ≡ Some peer) is on in
    let same : peer ≡ p = cc in
    piece_good t p start at left fits is (subst (λ n. (end_with t n).opened ≡ true) same opened)
goes_on_good t peer fits on opened idle (PutsWord p start) is =
    let e : Some p ≡ Some peer = subst (λ (q : Phase). partner t.w.what.peer q ≡ Some peer) is on in
    let same : peer ≡ p = cc in
    word_good t p start is (subst (λ n. (end_with t n).opened ≡ true) same opened)
goes_on_good t peer fits on opened idle phase is = absurd (true≢false (subst (λ (q : Phase). is_awaiting q ≡ false) is idle))

on_good : (t : Turn) (m : Effect) → GoodMade t (goes t t.w.phase) → goes_on t ≡ Some m → GoodMade t m
on_good t m good e = go (list_all (has_room t) (needs t t.w.phase)) e
  where
    go : (b : Bool) → (if b then Some (goes t t.w.phase) else None) ≡ Some m → GoodMade t m
    go true g = let same : goes t t.w.phase ≡ m = cc in subst (GoodMade t) same good
    go false g = absurd (cc)

-- what waits for the job suits its phase, where that is taken
abbrev pub WaitsSuit : Turn → Effect → Type 0
WaitsSuit t m = (peer : ℕ) → partner t.w.what.peer t.w.phase ≡ Some peer → (end_with t peer).opened ≡ true → is_awaiting t.w.phase ≡ true → (f : FrameView) → waiting_frame (end_with t peer) t.look (job_end t.w peer) ≡ Some f → m.taken ≡ Some f → Suits t.w.phase f.body

wait_good : (t : Turn) (peer : ℕ) (m : Effect) → Walks t → WaitsSuit t m → partner t.w.what.peer t.w.phase ≡ Some peer → is_awaiting t.w.phase ≡ true → (end_with t peer).opened ≡ true
    → (f : Option FrameView) → waiting_frame (end_with t peer) t.look (job_end t.w peer) ≡ f → awaits t peer f ≡ Some m → GoodMade t m
wait_good t peer m walks suit on awaiting opened None is e = absurd (cc)
wait_good t peer m walks suit on awaiting opened (Some f) is e = go (has_room t peer) e
  where
    go : (b : Bool) → (if b then Some (takes_frame t peer f f.body) else None) ≡ Some m → GoodMade t m
    go false g = absurd (cc)
    go true g =
        let same : takes_frame t peer f f.body ≡ m = cc in
        let was = find_member (λ g. takes_at (job_end t.w peer) g && may_take (end_with t peer) g) t.look.at_hand f is in
        let both = and_parts (takes_at (job_end t.w peer) f) (may_take (end_with t peer) f) was.1 in
        subst (GoodMade t) same (frame_good t f peer (record { on = on; awaiting = awaiting; opened = opened; of_end = both.0 }) walks f.body refl (suit peer on opened awaiting f is (subst (λ (x : Effect). x.taken ≡ Some f) same (frame_found t peer f on f.body refl).0)))

with_good : (t : Turn) (peer : ℕ) (m : Effect) → Walks t → WaitsSuit t m → partner t.w.what.peer t.w.phase ≡ Some peer → (b : Bool) → (end_with t peer).opened ≡ b → with_partner t peer b ≡ Some m → GoodMade t m
with_good t peer m walks suit on false opened e = let same : quietly (talk t) None ≡ m = cc in subst (GoodMade t) same (lost_keeps t (talk t) peer t.w.phase refl on opened)
with_good t peer m walks suit on true opened e = go (is_awaiting t.w.phase) refl e
  where
    go : (b : Bool) → is_awaiting t.w.phase ≡ b → (if b then awaits t peer (waiting_frame (end_with t peer) t.look (job_end t.w peer)) else goes_on t) ≡ Some m → GoodMade t m
    go true awaiting g = wait_good t peer m walks suit on awaiting opened (waiting_frame (end_with t peer) t.look (job_end t.w peer)) refl g
    go false idle g = on_good t m (goes_on_good t peer walks.fits on opened idle t.w.phase refl) g

-- **each step of a job keeps the dialogue**, where what waits for it suits its phase
pub partner_good : (t : Turn) (m : Effect) → Walks t → WaitsSuit t m → (p : Option ℕ) → partner t.w.what.peer t.w.phase ≡ p → by_partner t p ≡ Some m → GoodMade t m
partner_good t m walks suit None on e = on_good t m (goes_alone t walks on t.w.phase refl) e
partner_good t m walks suit (Some peer) on e = with_good t peer m walks suit on (end_with t peer).opened refl e
