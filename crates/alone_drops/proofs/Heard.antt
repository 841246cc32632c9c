-- What a drop hears that runs alone, of a candidate and of its target.
use Rattle.std.specs.Prelude.{◌&&◌, ◌||◌, ◌*◌, ◌/◌, min, nat_lt, if◌then◌else◌, map, option_map, slice_get}
use Rattle.std.proofs.Common.{◌≡◌, ◌≢◌, ℕ, ◌+◌, ◌<◌, Bool, true, false, List, [], ◌∷◌, ◌++◌, Option, Some, None, ◌⊎◌, inl, inr, refl, sym, ap, ◌∙◌, subst, arith}
use Rattle.std.proofs.lemmas.Bool.{true≢false}
use Rattle.std.proofs.lemmas.Option.{same_Some}
use Rattle.annex_base.specs.Lists.{Each, Member}
use Rattle.annex_base.proofs.Lists.{Member-append_cases, Member-filter_parts}
use Rattle.annex_base.proofs.Conditions.{eqb_other}
use Rattle.drop_proof.specs.declared.rule.Need.{Need}
use Rattle.drop_proof.specs.declared.rule.Side.{Side}
use Rattle.drop_proof.specs.declared.rule.Side.TheVariants.{Remote}
use Rattle.run_data.specs.declared.entry.Entry.{Entry}
use Rattle.run_data.specs.declared.entry.EntryKind.TheVariants.{Order}
use Rattle.run_data.specs.declared.entry.FrameView.{FrameView}
use Rattle.run_data.specs.declared.entry.FrameText.{FrameText}
use Rattle.run_data.specs.declared.entry.FrameText.TheVariants.{Opening, Closing, Bytes, Line}
use Rattle.run_data.specs.declared.job.Job.{Job}
use Rattle.run_data.specs.declared.run.Run.{Run}
use Rattle.run_data.specs.Repos.{IsSetUp, id_of}
use Rattle.p2p_wire.specs.declared.message.Message.{Message}
use Rattle.p2p_wire.specs.declared.message.Message.TheVariants.{CheckPresent, Failure, LockContent, Success, Timestamp, Version}
use Rattle.p2p_wire.specs.Messages.{message_of, order_of, text_of}
use Rattle.node_model.specs.Ends.{EndName, is_opening, server_end}
use Rattle.node_model.specs.Evidence.{Asked, standing_by}
use Rattle.node_model.specs.Found.{IsSessionEntry}
use Rattle.node_model.specs.Jobs
use Rattle.node_model.specs.Jobs.{AsksLock, AsksLook, Phase}
use Rattle.node_model.specs.Sessions.{Session, line_in}
use Rattle.node_model.specs.SessionStep.{Here, Reply, here, on_frame, on_message, on_text}
use Rattle.node_model.specs.Clocks.{runs_on}
use Rattle.node_model.specs.Rows.{is_blocked}
use Rattle.node_model.specs.SetUp.{SetUp, locks_in, version_in}
use Rattle.run_model.specs.Drops.{option_is_none}
use Rattle.run_model.specs.Frames.{FlyingFrame, MayTake, Way, flying_frame, frames_sent, on_way, sender_of, last_of, last_request, requests, says, taken_count, up_of, way_of}
use Rattle.run_model.specs.Logs.{settings_of}
use Rattle.run_model.specs.Past.{Occurs, bar, clock, holds, is_of, present}
use Rattle.run_model.specs.Run.{RunPast, RunStep, set_up}
use Rattle.run_model.specs.Said.{Says, is_request, message_in}
use Rattle.run_model.specs.States.{end_at, session as session_at_end, state_of}
use Rattle.step_facts.proofs.Below.{SentAreRead}
use Rattle.step_facts.proofs.ClientCounts.{LastIs, request}
use Rattle.step_facts.proofs.ClientWays.{asked_by}
use Rattle.step_facts.proofs.EndMoves.{may_epoch, opening_closed}
use Rattle.step_facts.proofs.Plain.{member_mapped}
use Rattle.step_facts.proofs.JobSteps.{Stepped}
use Rattle.step_facts.proofs.Makers.{TakenBy, taken_of}
use Rattle.step_facts.proofs.ServerEnds.{GivesHere, TakesHere}
use Rattle.step_facts.proofs.SessionFacts.{frame_found}
use Rattle.step_facts.proofs.Ways.{is_answer}
use Rattle.past_facts.specs.Lawful.{HasFreeContent}
use Rattle.past_facts.proofs.OwnRuns.{Part, own_past, part_of}
use Rattle.past_facts.proofs.Own.{InTurn, Own}
use Rattle.past_facts.proofs.Told.{on_parts, sends_member, sends_on}
use Rattle.job_facts.proofs.Speaks.{hears}
use Rattle.run_laws.proofs.AnswersFit.{AnswerOf, answer_of, failure_fits}
use Rattle.run_laws.proofs.AnswersTurn.{is_plain}
use Rattle.run_laws.proofs.ClientAwaits.{taken_last}
use Rattle.run_laws.proofs.Decisions.{kind_of}
use Rattle.run_laws.proofs.FromStep.{meets}
use Rattle.run_laws.proofs.HeardTells.{taken_peer}
use Rattle.run_laws.proofs.SaidDown.{is_said, said_is}
use Rattle.run_laws.proofs.SessionAnswers
use Rattle.run_laws.proofs.SessionAnswers.{AnswerFits}
use Rattle.run_laws.proofs.SessionOwn.{way_at}
use Rattle.run_laws.proofs.WayCounts.{in_sender-is, way_in, way_out}
use Rattle.cause_laws.proofs.Epochs.{client_end, none_sent}
use Rattle.alone_drops.specs.Offers.{gives_hold, is_free}
use Rattle.alone_drops.proofs.Since.{Beginning, Later, Since, calm_who, stepped_since, is_calm}
use Rattle.alone_drops.proofs.Ends.{opened_since}
use Rattle.alone_drops.proofs.Frames.{NewFrame, and_false, answer_new, frame_body, frames_split, new_frame, newly}
use Rattle.alone_drops.proofs.Rows.{SameRow, clear_since, now_since, own_time, row_since, set_since}
use Rattle.alone_drops.proofs.Sides.{Aims, peer_target}
use Rattle.alone_drops.proofs.Sends.{by_job, version_said}
use Rattle.alone_drops.proofs.Replies.{lock_gave, look_none, order_gave, version_asked, version_gave}

-- a frame that was sent has its entry
frames_occur : (past : List Entry) (w : Way) (it : FlyingFrame) → Member it (frames_sent past w) → Occurs past it.entry it.before
frames_occur [] w it m = absurd m
frames_occur (e ∷ past) w it m = go (λ n. frames_occur past w it n) (is_of (sender_of w) e) m
  where
    go : (Member it (frames_sent past w) → Occurs past it.entry it.before) → (d : Bool) → Member it (if d then frames_sent past w ++ map (flying_frame e past) (on_way w e) else frames_sent past w) → Occurs (e ∷ past) it.entry it.before
    go old true m = elim (Member-append_cases (frames_sent past w) (map (flying_frame e past) (on_way w e)) it m) [
      | inl n ↦ inr (old n)
      | inr n ↦ (let y = member_mapped (flying_frame e past) (on_way w e) it n in inl (ap (λ (v : FlyingFrame). v.entry) y.2, ap (λ (v : FlyingFrame). v.before) y.2))
    ]
    go old false m = inr (old m)

last_member : {X : Type 0} (xs : List X) (x : X) → last_of xs ≡ Some x → Member x xs
last_member [] x e = absurd (cc)
last_member (y ∷ []) x e = inl (sym (same_Some y x e))
last_member (y ∷ w ∷ ws) x e = inr (last_member (w ∷ ws) x e)

module _ (reads_back : SentAreRead) (run : Run) (repos : Each IsSetUp run.repos) (past : List Entry) (b : Entry) (a j : ℕ) (what : Job) (z : Beginning run past b a j what) (h0 : RunPast (set_up run) (b ∷ past)) (side : Side) (to : ℕ) (aims : Aims a what side to) where
  abbrev base : List Entry
  base = b ∷ past

  -- what is heard of a candidate fits its row as the drop began; of the own repository, where it is asked
  abbrev pub FitRow : ℕ → Jobs.Heard → Type 0
  FitRow c (Jobs.Held since) = (is_free past c what.key ≡ true) × (gives_hold run.repos a c ≡ true) × (since ≡ b.time)
  FitRow c Jobs.Seen = (is_free past c what.key ≡ true) × (gives_hold run.repos a c ≡ false)
  FitRow c Jobs.Unseen = is_free past c what.key ≡ false
  FitRow c (Jobs.Lacks cause) = (c ≡ a) × (standing_by (settings_of past a) what.key (id_of run.repos a) ≡ Asked → is_free past a what.key ≡ false)

  -- of the target nothing is asked, of a local drop of its own repository
  abbrev pub Fit : ℕ → Jobs.Heard → Type 0
  Fit c h = c ≢ to → FitRow c h

  -- an answer that the job takes
  module _ (xs : List Entry) (h : RunPast (set_up run) (xs ++ base)) (t : Since run base xs) (e : Entry) (step : RunStep (set_up run) (xs ++ base) e) (own : is_of a e ≡ true) (x : Stepped (set_up run a) (xs ++ base) e)
      (f : FrameView) (took : e.taken ≡ Some f) (m : Message) (told : line_in f.body ≡ Some m) (plain : is_plain m ≡ true) (answers : is_answer (Says m) ≡ true) where
    abbrev s : SetUp
    s = set_up run a

    abbrev p : List Entry
    p = xs ++ base

    abbrev part : Part (set_up run) p a e
    part = part_of (set_up run) p e a step own

    abbrev k : TakenBy s p e f
    k = taken_of s p e x f took

    abbrev c : ℕ
    c = k.peer

    down : f.up ≡ false
    down = (hears s p e x f took).1

    peer_is : f.peer ≡ c
    peer_is = taken_peer s p e f k

    apart : a ≢ c
    apart same = ((meets reads_back run repos p e h step).own a own).taken_from f took (peer_is ∙ sym same)

    abbrev n : EndName
    n = client_end c x.w.slot

    way : way_of a f ≡ way_in a n f.epoch
    way = way_at a n f k.of_end

    abbrev may' : MayTake p (way_of a f) f
    may' = part.frames.takes f took

    abbrev it : FlyingFrame
    it = may'.it

    abbrev may : MayTake p (way_in a n f.epoch) f
    may = record {
      it = it;
      next = subst (λ v. slice_get (frames_sent p v) (taken_count p v) ≡ Some it) way may'.next;
      seq_is = subst (λ v. f.seq ≡ taken_count p v + 1) way may'.seq_is;
      body_is = may'.body_is;
    }

    abbrev new : NewFrame run base (way_in a n f.epoch) it
    new = answer_new reads_back run repos past b a j what z h0 xs h t c x.w.slot apart f k.of_end k.opened k.may may

    abbrev l : Later run base it.entry it.before
    l = new.later

    abbrev q : List Entry
    q = l.ys ++ base

    by_c : is_of c it.entry ≡ true
    by_c = subst (λ v. is_of v it.entry ≡ true) (in_sender-is a n f.epoch) new.by

    abbrev part' : Part (set_up run) q c it.entry
    part' = part_of (set_up run) q it.entry c l.step by_c

    among : Member it.frame it.entry.sent
    among = sends_member (way_in a n f.epoch) it.entry it.frame new.on

    abbrev o : Own run.repos c q it.entry
    o = (meets reads_back run repos q it.entry l.steps l.step).own c by_c

    abbrev answer : AnswerOf p a f it m
    answer = answer_of reads_back run repos p e a f m h step own took down (said_is f.body m told) plain may'

    last : LastIs x.w.what.key x.w.what.peer x.w.phase c (option_map asked_by (last_request p (up_of (way_of a f))))
    last = taken_last reads_back s p (own_past run repos a p h) e f down (ap is_answer (said_is f.body m told) ∙ answers) k (option_map asked_by (last_request p (up_of (way_of a f)))) refl

    -- what it answers
    record AskedSo (time : ℕ) (asked : Message) : Type 0 where
      pub time_is : answer.request.entry.time ≡ time
      pub line : line_in answer.request.frame.body ≡ Some asked

    asked_so : (time : ℕ) (asked : Message) → option_map asked_by (last_request p (up_of (way_of a f))) ≡ Some (request time (Some asked)) → AskedSo time asked
    asked_so time asked is =
        let both = same_Some (asked_by answer.request) (request time (Some asked)) (sym (ap (option_map asked_by) answer.last) ∙ is) in
        record { time_is = ap (λ r. r.time) both; line = ap (λ r. r.what) both }

    -- the request was sent since
    later : (end_at past a n).epoch < f.epoch
    later = same (end_at past a n).epoch (end_at p a n).epoch f.epoch (opened_since reads_back run repos past b a j what z xs h a n refl k.opened) (may_epoch (end_at p a n) f unopened k.may).1
      where
        unopened : is_opening f.body ≡ false
        unopened = go (is_opening f.body) refl
          where
            go : (d : Bool) → is_opening f.body ≡ d → d ≡ false
            go true opens = absurd (true≢false (sym k.opened ∙ opening_closed (end_at p a n) f opens k.may))
            go false opens = refl

        same : (i v u : ℕ) → i < v → u ≡ v → i < u
        same i v u less is = omega (arith, less, is)

    request_sent : Member answer.request (frames_sent p (way_out a n f.epoch))
    request_sent = (Member-filter_parts (λ (y : FlyingFrame). says is_request y.frame) (frames_sent p (way_out a n f.epoch)) answer.request
        (last_member (requests p (way_out a n f.epoch)) answer.request (subst (λ v. last_request p (up_of v) ≡ Some answer.request) way answer.last))).0

    request_new : NewFrame run base (way_out a n f.epoch) answer.request
    request_new = elim (Member-append_cases (frames_sent past w) (newly base xs w) answer.request (subst (Member answer.request) (frames_split reads_back run repos past b a j what z h0 xs w) request_sent)) [
      | inl old ↦ absurd (subst (Member answer.request) (none_sent reads_back run repos past h0.1 a n f.epoch later) old)
      | inr y ↦ new_frame run base xs h t w answer.request y
    ]
      where
        w : Way
        w = way_out a n f.epoch

    new_request : answer.request.entry.time ≡ b.time
    new_request = let g = request_new in own_time (set_up run) (g.later.ys ++ base) answer.request.entry a g.later.step g.by ∙ now_since reads_back run repos past b a j what z h0 g.later.ys g.later.steps g.later.since

    -- the sender took the request
    took_request : (time : ℕ) (asked : Message) → AskedSo time asked → line_in answer.g.body ≡ Some asked
    took_request time asked y = ap line_in (sym answer.body_is) ∙ y.line

    -- the session that answered
    record Served : Type 0 where
      pub r : ℕ
      pub u : ℕ
      pub y : TakesHere (set_up run c) q (server_end r u) it.entry
      pub same : y.f ≡ answer.g

    served : Served
    served = elim (calm_who (set_up run c) q part'.words it.entry part'.own l.calm.kind) [
      | inl v ↦ absurd (subst (Member it.frame) v.sends_none among)
      | inr v ↦ elim v [
        | inl g ↦ by g.0 g.1 g.3
        | inr g ↦ absurd (apart (sym (stepped_since run past b a j what z l.ys l.since c it.entry g).at))
      ]
    ]
      where
        by : (r u : ℕ) → TakesHere (set_up run c) q (server_end r u) it.entry ⊎ GivesHere (set_up run c) q (server_end r u) it.entry → Served
        by r u (inl y) = record { r = r; u = u; y = y; same = same_Some y.f answer.g (sym y.taken_is ∙ answer.taken_is) }
        by r u (inr y) = absurd (let bad : None ≡ Some answer.g = sym y.taken_is ∙ answer.taken_is in cc)

    abbrev hh : Here
    hh = here (set_up run c) (state_of (set_up run c) q) served.y.k (server_end served.r served.u)

    abbrev was : Session
    was = session_at_end q c (server_end served.r served.u)

    -- what it does with this message
    reply_is : (m0 : Message) → line_in answer.g.body ≡ Some m0 → on_frame hh was served.y.f.body ≡ on_message hh was.version was.doing m0
    reply_is m0 line = go served.y.f.body (ap (λ (g : FrameView). line_in g.body) served.same ∙ line)
      where
        go : (body : FrameText) → line_in body ≡ Some m0 → on_frame hh was body ≡ on_message hh was.version was.doing m0
        go (Line text) is = ap (on_text hh was) is
        go Opening is = absurd (cc)
        go Closing is = absurd (cc)
        go (Bytes n') is = absurd (cc)

    calm_reply : (m0 : Message) → line_in answer.g.body ≡ Some m0 → is_calm (on_message hh was.version was.doing m0).kind ≡ true
    calm_reply m0 line = subst (λ (x' : Reply). is_calm x'.kind ≡ true) (reply_is m0 line) (subst (λ g. is_calm g ≡ true) served.y.kind_is l.calm.kind)

    -- what it sent is what that says
    sent_body : (m0 : Message) → line_in answer.g.body ≡ Some m0 → (body : FrameText) → (on_message hh was.version was.doing m0).says ≡ body ∷ [] → it.frame.body ≡ body
    sent_body m0 line body one = elim (subst (Member it.frame.body) (ap (λ (x' : Reply). x'.says) (reply_is m0 line) ∙ one) (frame_body _ _ _ it.frame (subst (Member it.frame) served.y.sent_is among))) [
      | inl same ↦ same
      | inr none ↦ absurd none
    ]

    hears_as : (body : FrameText) → it.frame.body ≡ body → line_in body ≡ Some m
    hears_as body is = ap line_in (sym is ∙ may'.body_is) ∙ told

    -- ---- of a candidate

    module _ (other : c ≢ to) where
      row : SameRow reads_back run repos past b a j what z h0 side to aims q c what.key
      row = row_since reads_back run repos past b a j what z h0 side to aims l.ys l.steps l.since c (λ same. apart (sym same)) other what.key

      free_by : HasFreeContent q c what.key → is_free past c what.key ≡ true
      free_by r = let y = row in sym (λ i. y.present_is i && option_is_none (y.bar_is i)) ∙ (λ i. r.there i && option_is_none (r.free i))

      free_same : (present q c what.key && option_is_none (bar q c what.key)) ≡ is_free past c what.key
      free_same = let y = row in λ i. y.present_is i && option_is_none (y.bar_is i)

      gives_by : (d : Bool) → locks_in (slice_get run.repos c) ≡ d → gives_hold run.repos a c ≡ d
      gives_by d is = ap (λ g. g || locks_in (slice_get run.repos c)) (eqb_other c a apart) ∙ is

      module _ (success : m ≡ Success) where
        turn : InTurn c q it.entry it.frame
        turn = (o.sends it.frame among).yes (on_parts (way_in a n f.epoch) _ it.frame (sends_on (way_in a n f.epoch) it.entry it.frame new.on)).up_is
            (ap message_in may'.body_is ∙ said_is f.body Success (told ∙ ap Some success))

        turn_says : (time : ℕ) (asked : Message) → AskedSo time asked → message_in turn.f.body ≡ Says asked
        turn_says time asked y =
            let same : turn.f ≡ answer.g = same_Some turn.f answer.g (sym turn.takes_it ∙ answer.taken_is) in
            ap (λ (g : FrameView). message_in g.body) same ∙ said_is answer.g.body asked (took_request time asked y)

        lock_free : (time : ℕ) → AskedSo time (LockContent what.key) → (is_free past c what.key ≡ true) × (gives_hold run.repos a c ≡ true)
        lock_free time y =
            let g = turn.locked what.key (turn_says time (LockContent what.key) y) in
            let found = subst (IsSessionEntry hh was.doing (line_in served.y.f.body) (on_frame hh was served.y.f.body).says) (sym served.y.kind_is ∙ g.2) (frame_found hh was served.y.f.body) in
            (free_by (o.share g.0 g.1 _ what.key g.2).row, gives_by true found.locks)

        look_free : (time : ℕ) → AskedSo time (CheckPresent what.key) → is_free past c what.key ≡ true
        look_free time y = free_by (o.look what.key (turn.looked what.key (turn_says time (CheckPresent what.key) y))).0

      module _ (failure : m ≡ Failure) where
        says_inj : {m n : Message} → Says m ≡ Says n → m ≡ n
        says_inj e = cc

        look_refused : (time : ℕ) → AskedSo time (CheckPresent what.key) → is_free past c what.key ≡ false
        look_refused time y =
            let asked_is : answer.asked ≡ CheckPresent what.key = says_inj (sym answer.asked_is ∙ said_is answer.request.frame.body (CheckPresent what.key) y.line) in
            let fits : SessionAnswers.refuses_look it.entry.kind ≡ true
            = subst (λ q'. AnswerFits q' it.entry.kind Failure) asked_is (failure_fits answer.asked it.entry.kind (subst (λ v'. SessionAnswers.Answering answer.asked it.entry.kind v') failure answer.answering)) in
            sym free_same ∙ look_none hh was.doing (line_in served.y.f.body) (on_frame hh was served.y.f.body).says what.key (on_frame hh was served.y.f.body).kind
            (subst (λ v'. SessionAnswers.refuses_look v' ≡ true) served.y.kind_is fits) (subst (λ v'. is_calm v' ≡ true) served.y.kind_is l.calm.kind)
            (ap (λ (v' : FrameView). line_in v'.body) served.same ∙ took_request time (CheckPresent what.key) y) (frame_found hh was served.y.f.body)

        -- a lock is refused where the content isn't free, or no holds are given
        lock_refused : (time : ℕ) → AskedSo time (LockContent what.key) → (is_free past c what.key && gives_hold run.repos a c) ≡ false
        lock_refused time y = go (locks_in (slice_get run.repos c)) refl (present q c what.key) refl (bar q c what.key) refl
          where
            line : line_in answer.g.body ≡ Some (LockContent what.key)
            line = took_request time (LockContent what.key) y

            both : (free : Bool) → is_free past c what.key ≡ free → (d : Bool) → locks_in (slice_get run.repos c) ≡ d → (free && d) ≡ false → (is_free past c what.key && gives_hold run.repos a c) ≡ false
            both free f d g e = (λ i. f i && gives_by d g i) ∙ e

            go : (d : Bool) → locks_in (slice_get run.repos c) ≡ d → (p' : Bool) → present q c what.key ≡ p' → (o' : Option ℕ) → bar q c what.key ≡ o' → (is_free past c what.key && gives_hold run.repos a c) ≡ false
            go false g p' is o' bo = both (is_free past c what.key) refl false g (and_false (is_free past c what.key))
            go true g false is o' bo = both false (sym free_same ∙ (λ i. is i && option_is_none (bo i))) true g refl
            go true g true is (Some i) bo = both false (sym free_same ∙ (λ n'. is n' && option_is_none (bo n'))) true g refl
            go true g true is None bo =
                let said = lock_gave hh was.version was.doing what.key (calm_reply (LockContent what.key) line) g is bo in
                let bad : Some Success ≡ Some Failure = sym (reads_back Success tt tt) ∙ (hears_as (Line (text_of Success)) (sent_body (LockContent what.key) line (Line (text_of Success)) said) ∙ ap Some failure) in
                absurd (cc)

    -- ---- of the target

    now_is : it.entry.time ≡ b.time
    now_is = own_time (set_up run) q it.entry c l.step by_c ∙ now_since reads_back run repos past b a j what z h0 l.ys l.steps l.since

    clock_is : clock run.repos q c ≡ clock run.repos past c
    clock_is = ap runs_on (set_since reads_back run repos past b a j what z h0 side to aims l.ys l.since c (λ same. apart (sym same)))

    -- its timestamp is its clock's
    pub time_told : (seconds : ℕ) → m ≡ Timestamp seconds → seconds ≡ clock run.repos past c b.time / 1000
    time_told seconds is = (o.sends it.frame among).time seconds (ap message_in may'.body_is ∙ said_is f.body (Timestamp seconds) (told ∙ ap Some is)) ∙ (λ i. clock_is i (now_is i) / 1000)

    -- it answers the version that it is asked for
    pub version_told : (k' : ℕ) → m ≡ Version k' → version_in (slice_get run.repos c) ≡ 3 → k' ≡ 3
    version_told k' is three =
        let y = subst (λ m'. SessionAnswers.Answering answer.asked it.entry.kind m') is answer.answering in
        let asked = version_asked answer.asked it.entry.kind y.m k' y.fits y.alike in
        let line : line_in answer.request.frame.body ≡ Some (Version asked.0) = is_said answer.request.frame.body (Version asked.0) (answer.asked_is ∙ ap Says asked.1) in
        let said = version_said reads_back run repos past b a j what z h0 side to aims c a x.w.slot f.epoch answer.request request_new asked.0 line in
        let line3 : line_in answer.g.body ≡ Some (Version 3) = ap line_in (sym answer.body_is) ∙ (line ∙ ap (λ k'. Some (Version k')) said) in
        let body = sent_body (Version 3) line3 (Line (text_of (Version (min 3 hh.version)))) (version_gave hh was.version was.doing 3 (calm_reply (Version 3) line3)) in
        number (sym (reads_back (Version 3) (omega arith) tt) ∙ (ap (λ k'. message_of (text_of (Version (min 3 k')))) (sym three) ∙ (hears_as (Line (text_of (Version (min 3 hh.version)))) body ∙ ap Some is)))
      where
        number : Some (Version 3) ≡ Some (Version k') → k' ≡ 3
        number e = cc

    -- it obeys an order, where nothing comes in the way
    module _ (failure : m ≡ Failure) (remote : side ≡ Remote) (at : c ≡ to) (free : bar past to what.key ≡ None) (unheld : is_blocked (holds past to) what.key (clock run.repos past to b.time) ≡ false) where
      order_obeyed : (time : ℕ) (deadline : Option ℕ) → AskedSo time (order_of deadline what.key) → ((d : ℕ) → deadline ≡ Some d → nat_lt (clock run.repos past to b.time) (1000 * d) ≡ true) → ⊥
      order_obeyed time deadline y soon =
          let line = took_request time (order_of deadline what.key) y in
          let clear = clear_since reads_back run repos past b a j what z h0 side to aims remote what.key free unheld l.ys l.steps l.since in
          let now : clock run.repos q c served.y.k.time ≡ clock run.repos past to b.time = (λ i. clock_is i ((sym served.y.time_is ∙ now_is) i)) ∙ ap (λ n'. clock run.repos past n' b.time) at in
          let no_bar : bar q c what.key ≡ None = ap (λ n'. bar q n' what.key) at ∙ clear.free in
          let no_hold : is_blocked (holds q c) what.key (clock run.repos q c served.y.k.time) ≡ false = (λ i. is_blocked (holds q (at i)) what.key (now i)) ∙ clear.unheld in
          let says = order_gave hh was.version was.doing deadline what.key (calm_reply (order_of deadline what.key) line) no_bar no_hold (λ d is. ap (λ n'. nat_lt n' (1000 * d)) now ∙ soon d is) in
          let bad : Some Success ≡ Some Failure = sym (reads_back Success tt tt) ∙ (hears_as (Line (text_of Success)) (sent_body (order_of deadline what.key) line (Line (text_of Success)) says) ∙ ap Some failure) in
          absurd (cc)

    -- ---- by the phase

    module _ (same_key : x.w.what ≡ what) where
      key_is : x.w.what.key ≡ what.key
      key_is = ap (λ (g : Job). g.key) same_key

      last_at : (phase : Phase) → x.w.phase ≡ phase → LastIs what.key x.w.what.peer phase c (option_map asked_by (last_request p (up_of (way_of a f))))
      last_at phase is = subst (λ g. LastIs what.key x.w.what.peer g c (option_map asked_by (last_request p (up_of (way_of a f))))) is (subst (λ g. LastIs g x.w.what.peer x.w.phase c (option_map asked_by (last_request p (up_of (way_of a f))))) key_is last)

      partner_at : (peer : ℕ) (phase : Phase) → x.w.phase ≡ phase → Jobs.partner x.w.what.peer phase ≡ Some peer → peer ≡ c
      partner_at peer phase is on = same_Some peer c (sym on ∙ ap (Jobs.partner x.w.what.peer) (sym is) ∙ k.on)

      pub heard_lock : (peer since : ℕ) → x.w.phase ≡ AsksLock peer since → m ≡ Success → Fit peer (Jobs.Held since)
      heard_lock peer since is success off =
          let at = partner_at peer (AsksLock peer since) is refl in
          let y = asked_so since (LockContent what.key) (last_at (AsksLock peer since) is at) in
          let g = lock_free (subst (λ v'. v' ≢ to) at off) success since y in
          (subst (λ v'. is_free past v' what.key ≡ true) (sym at) g.0, subst (λ v'. gives_hold run.repos a v' ≡ true) (sym at) g.1, sym y.time_is ∙ new_request)

      pub heard_look : (peer : ℕ) → x.w.phase ≡ AsksLook peer → m ≡ Success → peer ≢ to → is_free past peer what.key ≡ true
      heard_look peer is success off =
          let at = partner_at peer (AsksLook peer) is refl in
          let g = last_at (AsksLook peer) is at in
          subst (λ v'. is_free past v' what.key ≡ true) (sym at) (look_free (subst (λ v'. v' ≢ to) at off) success g.0 (asked_so g.0 (CheckPresent what.key) g.1))

      pub heard_none : (peer : ℕ) → x.w.phase ≡ AsksLook peer → m ≡ Failure → Fit peer Jobs.Unseen
      heard_none peer is failure off =
          let at = partner_at peer (AsksLook peer) is refl in
          let g = last_at (AsksLook peer) is at in
          subst (λ v'. is_free past v' what.key ≡ false) (sym at) (look_refused (subst (λ v'. v' ≢ to) at off) failure g.0 (asked_so g.0 (CheckPresent what.key) g.1))

      pub heard_refused : (peer since : ℕ) → x.w.phase ≡ AsksLock peer since → m ≡ Failure → peer ≢ to → (is_free past peer what.key && gives_hold run.repos a peer) ≡ false
      heard_refused peer since is failure off =
          let at = partner_at peer (AsksLock peer since) is refl in
          let y = asked_so since (LockContent what.key) (last_at (AsksLock peer since) is at) in
          subst (λ v'. (is_free past v' what.key && gives_hold run.repos a v') ≡ false) (sym at) (lock_refused (subst (λ v'. v' ≢ to) at off) failure since y)

      -- the target obeys the order
      pub order_heard : side ≡ Remote → x.w.phase ≡ Jobs.Orders → m ≡ Failure → bar past to what.key ≡ None → is_blocked (holds past to) what.key (clock run.repos past to b.time) ≡ false
          → ((x' : Entry) (before : List Entry) → Occurs p x' before → is_of a x' ≡ true → (goal : ℕ) (d : Option ℕ) (need : Need) (key : List ℕ) → x'.kind ≡ Order j goal d need key → (n' : ℕ) → d ≡ Some n' → nat_lt (clock run.repos past to b.time) (1000 * n') ≡ true) → ⊥
      order_heard remote is failure free unheld timely = order_obeyed failure remote at free unheld g.0 g.1 y (timely answer.request.entry answer.request.before (frames_occur p (way_out a n f.epoch) answer.request request_sent) request_new.by answer.request.frame.peer g.1 order.1 what.key kind)
        where
          on : x.w.what.peer ≡ Some c
          on = ap (Jobs.partner x.w.what.peer) (sym is) ∙ k.on

          at : c ≡ to
          at = peer_target a what side to aims remote c (ap (λ (g : Job). g.peer) (sym same_key) ∙ on)

          g : (time : ℕ) × (deadline : Option ℕ) × (option_map asked_by (last_request p (up_of (way_of a f))) ≡ Some (request time (Some (order_of deadline what.key))))
          g = last_at Jobs.Orders is on

          y : AskedSo g.0 (order_of g.1 what.key)
          y = asked_so g.0 (order_of g.1 what.key) g.2

          l' : Later run base answer.request.entry answer.request.before
          l' = request_new.later

          order : (i : ℕ) × (need : Need) × (answer.request.entry.kind ≡ Order i answer.request.frame.peer g.1 need what.key)
          order = (((meets reads_back run repos (l'.ys ++ base) answer.request.entry l'.steps l'.step).own a request_new.by).sends answer.request.frame (sends_member (way_out a n f.epoch) answer.request.entry answer.request.frame request_new.on)).order g.1 what.key
              (said_is answer.request.frame.body (order_of g.1 what.key) y.line)

          by : Stepped (set_up run a) (l'.ys ++ base) answer.request.entry
          by = by_job reads_back run repos past b a j what z h0 side to aims c a x.w.slot f.epoch answer.request request_new

          number : order.0 ≡ j
          number = (kind_of (set_up run a) (l'.ys ++ base) answer.request.entry by (Order order.0 answer.request.frame.peer g.1 order.1 what.key) order.2).number_is ∙ (stepped_since run past b a j what z l'.ys l'.since a answer.request.entry by).number_is

          kind : answer.request.entry.kind ≡ Order j answer.request.frame.peer g.1 order.1 what.key
          kind = order.2 ∙ ap (λ i. Order i answer.request.frame.peer g.1 order.1 what.key) number
