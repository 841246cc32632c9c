-- An order that is obeyed: its sender's evidence was enough and is in time, and its job isn't done.
use Rattle.std.proofs.Common.{◌≡◌, ℕ, zero, suc, ◌+◌, ◌-◌, ◌*◌, ◌/◌, ◌<◌, ◌≤◌, Bool, true, false, cond, List, [], ◌∷◌, length, take, Option, Some, None, inl, inr, refl, sym, ap, ◌∙◌, subst, arith}
use Rattle.std.specs.Prelude.{filter, if◌then◌else◌}
use Rattle.std.proofs.lemmas.Bool.{true≢false, cases_Bool}
use Rattle.annex_base.specs.Lists.{Each, Member}
use Rattle.annex_base.proofs.Conditions.{eqb_refl}
use Rattle.drop_proof.specs.declared.rule.Need.{Need}
use Rattle.drop_proof.specs.declared.rule.Side.TheVariants.{Remote}
use Rattle.drop_proof.specs.Judging.{is_enough, least_end}
use Rattle.run_data.specs.declared.entry.Entry.{Entry}
use Rattle.run_data.specs.declared.entry.EntryKind.TheVariants.{End, Order}
use Rattle.run_data.specs.declared.entry.FrameView.{FrameView}
use Rattle.run_data.specs.declared.run.RepoView.{RepoView}
use Rattle.run_model.specs.Past.{Always, Occurs, clock, is_of, clock_set}
use Rattle.node_model.specs.Clocks.{ClockSet, runs_on}
use Rattle.p2p_wire.specs.declared.message.Message.TheVariants.{Timestamp}
use Rattle.p2p_wire.specs.Messages.{order_of}
use Rattle.run_model.specs.Said.{Says, is_request, message_in}
use Rattle.step_facts.proofs.Ways.{is_answer, answers, down_of, way_from}
use Rattle.run_model.specs.Frames.{FlyingFrame, MayTake, Way, is_job, on_way, requests, says, sender_of, frames_sent, sending_entry, taken_count, taken_if, taker_of, up_of, way_of}
use Rattle.run_model.specs.Drops.{is_done, evidence}
use Rattle.past_facts.specs.Lawful.{FoundRemote, IsFresh}
use Rattle.past_facts.proofs.Own.{MayObey, MayOrder, Meets, MessagePast, SaidByClock}
use Rattle.step_facts.proofs.Flights.{always_before, occurs_always, occurs_earlier, sending}
use Rattle.past_facts.proofs.Turns.{OneEach, next_of, of_flying, place_of, taken_of}
use Rattle.past_facts.proofs.Known.{evidence_known}
use Rattle.past_facts.proofs.OwnFacts.{occurs_time}
use Rattle.past_facts.proofs.Evident.{each_end, fresh_items, told_of}
use Rattle.past_facts.proofs.Occurring.{Ended, answers_within, done_occurs, occurs_done, occurs_order, sent_later, taken_later}
use Rattle.past_facts.proofs.ClockSets.{set_before, sets_by_then}
use Rattle.past_facts.proofs.Told.{always_weaker, message_at, on_parts, own_at, prefixes, sender_at, sender_way, sends_member, sends_on, taker_way, up_is, way_sent}

-- a deadline ends before the first hold does: by the clock of the target, which was set before its timestamp, at t0, and by that of
-- the job, which was set before its order, at t1
pub deadline_ends : (t0 t1 t : ℕ) (c d : ClockSet) (end : ℕ) → t0 ≤ t1 → c.at ≤ t0 → d.at ≤ t1 → runs_on d t1 < end
    → runs_on c t < 1000 * (runs_on c t0 / 1000 + (end - runs_on d t1) / 1000) → runs_on d t < end
deadline_ends t0 t1 t c d end g h i k l = omega (arith, g, h, i, k, l)

order_request : (deadline : Option ℕ) (key : List ℕ) → is_request (Says (order_of deadline key)) ≡ true
order_request None key = refl
order_request (Some n) key = refl

-- what is known of an order that r takes from a
pub record Takes (repos : List RepoView) (past : List Entry) (e : Entry) (r a : ℕ) (key : List ℕ) : Type 0 where
  pub run : MessagePast repos past
  pub now' : Meets repos past e
  pub is : is_of r e ≡ true
  pub f : FrameView
  pub takes_it : e.taken ≡ Some f
  pub from_client : f.up ≡ true
  pub peer_is : f.peer ≡ a
  pub deadline : Option ℕ
  pub asked_is : message_in f.body ≡ Says (order_of deadline key)
  pub soon : (before : ℕ) → deadline ≡ Some before → clock repos past r e.time < 1000 * before
  pub same_clock : SaidByClock repos r past (down_of (way_of r f))

-- and of its sender
pub record Ordered (repos : List RepoView) (past : List Entry) (r a : ℕ) (key : List ℕ) (f : FrameView) (deadline : Option ℕ) (it : FlyingFrame) : Type 0 where
  pub occurs : Occurs past it.entry it.before
  pub repo_is : is_of a it.entry ≡ true
  pub sends : Member it.frame (on_way (way_of r f) it.entry)
  pub says_it : message_in it.frame.body ≡ Says (order_of deadline key)
  pub j : ℕ
  pub need : Need
  pub kind_is : it.entry.kind ≡ Order j r deadline need key
  pub found : MayOrder repos a it.before it.entry j r deadline need key

pub ordered_by : (repos : List RepoView) (past : List Entry) (e : Entry) (r a : ℕ) (key : List ℕ) (k : Takes repos past e r a key) → (t : MayTake past (way_of r k.f) k.f) → Ordered repos past r a key k.f k.deadline t.it
ordered_by repos past e r a key k t =
    let w = way_of r k.f in
    let s = sending past w (taken_count past w) t.it t.next in
    let is_a : is_of a t.it.entry ≡ true = subst (λ q. is_of q t.it.entry ≡ true) (sender_way r k.f ∙ k.peer_is) s.repo_is in
    let own = own_at repos past t.it.entry t.it.before a k.run s.occurs is_a in
    let message : message_in t.it.frame.body ≡ Says (order_of k.deadline key) = message_at t.it.frame.body k.f.body (Says (order_of k.deadline key)) t.body_is k.asked_is in
    let o = (own.sends t.it.frame (sends_member w t.it.entry t.it.frame s.sends)).order k.deadline key message in
    let target : t.it.frame.peer ≡ r = (on_parts w (taker_of w) t.it.frame (sends_on w t.it.entry t.it.frame s.sends)).peer_is ∙ taker_way r k.f in
    let kind : t.it.entry.kind ≡ Order o.0 r k.deadline o.1 key = o.2 ∙ ap (λ q. Order o.0 q k.deadline o.1 key) target in
    record { occurs = s.occurs; repo_is = is_a; sends = s.sends; says_it = message; j = o.0; need = o.1; kind_is = kind; found = own.orders o.0 r k.deadline o.1 key kind }

-- ---- in time

-- the seconds that a job takes from a target are the target's clock as it said so
record Stamped (repos : List RepoView) (past : List Entry) (x : Entry) (a r : ℕ) (f : FrameView) (seconds : ℕ) : Type 0 where
  pub entry : Entry
  pub before : List Entry
  pub occurs : Occurs past entry before
  pub repo_is : is_of r entry ≡ true
  pub frame : FrameView
  pub sends : Member frame entry.sent
  pub way_is : way_from r frame ≡ way_of a f
  pub earlier : entry.time ≤ x.time
  pub seconds_are : seconds ≡ clock repos before r entry.time / 1000

timestamp : (repos : List RepoView) (past : List Entry) (x : Entry) (p : List Entry) (a r : ℕ) (f : FrameView) (seconds : ℕ) → MessagePast repos past → Occurs past x p → is_of a x ≡ true → x.taken ≡ Some f → f.peer ≡ r → message_in f.body ≡ Says (Timestamp seconds)
    → Stamped repos past x a r f seconds
timestamp repos past x p a r f seconds run o is takes peer told =
    let m = occurs_always (Meets repos) past x p run o in
    let t = m.frames a f is takes in
    let w = way_of a f in
    let s = sending p w (taken_count p w) t.it t.next in
    let is_r : is_of r t.it.entry ≡ true = subst (λ q. is_of q t.it.entry ≡ true) (sender_way a f ∙ peer) s.repo_is in
    let before = always_before (Meets repos) past x p run o in
    let own = own_at repos p t.it.entry t.it.before r before s.occurs is_r in
    let time = (own.sends t.it.frame (sends_member w t.it.entry t.it.frame s.sends)).time seconds (message_at t.it.frame.body f.body (Says (Timestamp seconds)) t.body_is told) in
    record {
      entry = t.it.entry;
      before = t.it.before;
      occurs = occurs_earlier past x t.it.entry p t.it.before o s.occurs;
      repo_is = is_r;
      frame = t.it.frame;
      sends = sends_member w t.it.entry t.it.frame s.sends;
      way_is = subst (λ q. way_from q t.it.frame ≡ way_of a f) (sender_way a f ∙ peer) (way_sent w t.it.frame (sends_on w t.it.entry t.it.frame s.sends));
      earlier = omega (arith, occurs_time repos p t.it.entry t.it.before before s.occurs, m.order);
      seconds_are = time;
    }

-- and as the clock is set now, where it hasn't been set since
stamped_now : (repos : List RepoView) (past : List Entry) (x : Entry) (a r : ℕ) (f : FrameView) (seconds : ℕ) → (t : Stamped repos past x a r f seconds) → clock_set repos t.before r ≡ clock_set repos past r
    → seconds ≡ clock repos past r t.entry.time / 1000
stamped_now repos past x a r f seconds t same = t.seconds_are ∙ ap (λ (c : ClockSet). runs_on c t.entry.time / 1000) same

-- the way of a frame that comes down is the way down
down_is : (r : ℕ) (f : FrameView) → f.up ≡ false → down_of (up_of (way_of r f)) ≡ way_of r f
down_is r f h = go f.up h
  where
    go : (b : Bool) → b ≡ false → let x : Way = record { client = if b then f.peer else r; server = if b then r else f.peer; slot = f.slot; up = false; epoch = f.epoch } in
        x ≡ record { client = if b then f.peer else r; server = if b then r else f.peer; slot = f.slot; up = b; epoch = f.epoch }
    go false h = refl
    go true h = absurd (cc)

-- an order that goes back on the connection on which a timestamp came down: the way down is one
stamped_back : (a : ℕ) (w : Way) (x : Entry) (g f : FrameView) → sender_of w ≡ a → Member g (on_way w x) → f.up ≡ false → ((h : FrameView) → Member h x.sent → way_from a h ≡ up_of (way_of a f)) → way_of a f ≡ down_of w
stamped_back a w x g f from m down same =
    let order : way_from a g ≡ w = subst (λ q. way_from q g ≡ w) from (way_sent w g (sends_on w x g m)) in
    let up : up_of (way_of a f) ≡ w = sym (same g (sends_member w x g m)) ∙ order in
    sym (down_is a f down) ∙ ap down_of up

ordered_fresh : (repos : List RepoView) (past : List Entry) (e : Entry) (r a : ℕ) (key : List ℕ) (k : Takes repos past e r a key) → (it : FlyingFrame) → (o : Ordered repos past r a key k.f k.deadline it)
    → Each (IsFresh it.before a o.j e.time) (evidence Remote repos it.before a o.j r o.need)
ordered_fresh repos past e r a key k it o = fresh_items Remote repos it.before a o.j r e.time o.need (set_before repos it.before a o.j before o.found.one_clock) (each_end Below (λ x y le lt. omega (arith, le, lt)) (evidence Remote repos it.before a o.j r o.need) first_below)
  where
    Below : ℕ → Type 0
    Below end = clock repos it.before a e.time < end

    before : MessagePast repos it.before
    before = always_before (Meets repos) past it.entry it.before k.run o.occurs

    first_below : (first : ℕ) → least_end (evidence Remote repos it.before a o.j r o.need) ≡ Some first → clock repos it.before a e.time < first
    first_below first h =
        let d = o.found.timed first (sym (ap least_end (evidence_known Remote repos it.before a o.j r o.need before)) ∙ h) in
        let t = timestamp repos past it.entry it.before a r d.f d.seconds k.run o.occurs o.repo_is d.takes_it d.peer_is d.told in
        let soon = k.soon (d.seconds + (first - clock repos it.before a it.entry.time) / 1000) d.deadline_is in
        let back = stamped_back a (way_of r k.f) it.entry it.frame d.f (sender_way r k.f ∙ k.peer_is) o.sends d.down d.same_way in
        let same : clock_set repos t.before r ≡ clock_set repos past r = k.same_clock t.entry t.before t.occurs t.repo_is t.frame t.sends (t.way_is ∙ back) in
        let stamp = stamped_now repos past it.entry a r d.f d.seconds t same in
        let set_r : (clock_set repos past r).at ≤ t.entry.time = subst (λ (c : ClockSet). c.at ≤ t.entry.time) same (sets_by_then repos past t.entry t.before r k.run t.occurs) in
        deadline_ends t.entry.time it.entry.time e.time (clock_set repos past r) (clock_set repos it.before a) first t.earlier set_r (sets_by_then repos past it.entry it.before a k.run o.occurs) d.in_time
        (subst (λ s. clock repos past r e.time < 1000 * (s + (first - clock repos it.before a it.entry.time) / 1000)) stamp soon)

-- ---- ordered once

filter_take : {X : Type 0} (p : X → Bool) (n : ℕ) (xs : List X) → length (filter p (take n xs)) ≤ length (filter p xs)
filter_take p zero xs = omega arith
filter_take p (suc n) [] = omega arith
filter_take p (suc n) (x ∷ xs) = go (filter_take p n xs) (p x)
  where
    go : length (filter p (take n xs)) ≤ length (filter p xs) → (b : Bool) → length (cond b (x ∷ filter p (take n xs)) (filter p (take n xs))) ≤ length (cond b (x ∷ filter p xs) (filter p xs))
    go ih true = omega (arith, ih)
    go ih false = ih

answers_taken : (repos : List RepoView) (past : List Entry) (w : Way) → MessagePast repos past → taken_if is_answer past w ≤ length (answers past w)
answers_taken repos past w run = let t = taken_of is_answer past w (prefixes repos past w run) in
    subst (λ n. n ≤ length (answers past w)) (sym t.count) (filter_take (of_flying is_answer) (taken_count past w) (frames_sent past w))

pub ordered_open : (repos : List RepoView) (past : List Entry) (e : Entry) (r a : ℕ) (key : List ℕ) (k : Takes repos past e r a key) → (t : MayTake past (way_of r k.f) k.f) → (o : Ordered repos past r a key k.f k.deadline t.it) → is_done past a o.j ≡ false
ordered_open repos past e r a key k t o = elim (cases_Bool (is_done past a o.j)) [ inl h ↦ absurd (ended (done_occurs past a o.j h)) | inr h ↦ h ]
  where
    p : List Entry
    p = t.it.before

    up_w : up_of (way_of r k.f) ≡ way_of r k.f
    up_w = up_is r k.f k.from_client

    is_request_it : says is_request k.f ≡ true
    is_request_it = ap is_request k.asked_is ∙ order_request k.deadline key

    it_requests : says is_request t.it.frame ≡ true
    it_requests = ap is_request o.says_it ∙ order_request k.deadline key

    one : Always (OneEach is_request (way_of r k.f)) past
    one = always_weaker (Meets repos) (OneEach is_request (way_of r k.f)) (λ q y m is. (m.own (sender_of (way_of r k.f)) is).one_request (way_of r k.f)) past k.run

    -- as many requests were sent before the order as were taken
    place : length (requests p (way_of r k.f)) ≡ taken_if is_request past (way_of r k.f)
    place = place_of is_request past (way_of r k.f) (taken_if is_request past (way_of r k.f)) t.it one (next_of is_request past (way_of r k.f) k.f (prefixes repos past (way_of r k.f) k.run) t is_request_it)

    from_a : sender_of (way_of r k.f) ≡ a
    from_a = sender_way r k.f ∙ k.peer_is

    way_it : way_from a t.it.frame ≡ way_of r k.f
    way_it = subst (λ q. way_from q t.it.frame ≡ way_of r k.f) from_a (way_sent (way_of r k.f) t.it.frame (sends_on (way_of r k.f) t.it.entry t.it.frame o.sends))

    is_from : is_of (sender_of (way_of r k.f)) t.it.entry ≡ true
    is_from = subst (λ q. is_of q t.it.entry ≡ true) (sym from_a) o.repo_is

    frame_up : t.it.frame.up ≡ true
    frame_up = (on_parts (way_of r k.f) (taker_of (way_of r k.f)) t.it.frame (sends_on (way_of r k.f) t.it.entry t.it.frame o.sends)).up_is ∙ k.from_client

    job : is_job a o.j t.it.entry ≡ true
    job = rw (o.repo_is, o.kind_is) (eqb_refl o.j)

    after : (z : Ended past a o.j) → Occurs z.before t.it.entry t.it.before → ⊥
    after z later =
        let own = own_at repos past z.entry z.before a k.run z.occurs z.repo_is in
        let answered = own.ends o.j z.outcome z.kind_is z.not_lost t.it.entry t.it.before t.it.frame k.deadline key later job (sends_member (way_of r k.f) t.it.entry t.it.frame o.sends) frame_up o.says_it in
        let answered' : length (requests z.before (way_of r k.f)) ≤ taken_if is_answer z.before (down_of (way_of r k.f)) =
        subst (λ v. length (requests z.before v) ≤ taken_if is_answer z.before (down_of v)) way_it answered in
        let more = sent_later is_request z.before t.it.entry t.it.before (way_of r k.f) t.it.frame later is_from o.sends it_requests in
        let count = answers_taken repos past (down_of (way_of r k.f)) k.run in
        let within : length (answers past (down_of (way_of r k.f))) ≤ taken_if is_request past (way_of r k.f) = subst (λ v. length (answers past (down_of (way_of r k.f))) ≤ taken_if is_request past v) up_w (answers_within repos past (way_of r k.f) k.run) in
        omega (arith, answered', more, place, taken_later is_answer past z.entry z.before (down_of (way_of r k.f)) z.occurs, count, within)

    ended : Ended past a o.j → ⊥
    ended z = elim (occurs_order past t.it.entry z.entry t.it.before z.before o.occurs z.occurs) [
      | inl s ↦ let it : Order o.j r k.deadline o.need key ≡ End o.j z.outcome = sym o.kind_is ∙ ap (λ (y : Entry). y.kind) s.0 ∙ z.kind_is in absurd (cc)
      | inr (inl s) ↦ after z s
      | inr (inr s) ↦ true≢false (sym (occurs_done t.it.before z.entry z.before a o.j z.outcome s z.repo_is z.kind_is z.not_lost) ∙ o.found.open')
    ]

-- ---- all together

pub obeyed_order : (repos : List RepoView) (past : List Entry) (e : Entry) (r a slot : ℕ) (key : List ℕ) → MessagePast repos past → Meets repos past e → is_of r e ≡ true → MayObey repos r past e a slot key → FoundRemote repos past e r a key
obeyed_order repos past e r a slot key run m is ob =
    let k : Takes repos past e r a key = record { run = run; now' = m; is = is; f = ob.f; takes_it = ob.takes_it; from_client = ob.from_client; peer_is = ob.peer_is; deadline = ob.deadline; asked_is = ob.asked_is; soon = ob.soon; same_clock = ob.same_clock } in
    let t = m.frames r ob.f is ob.takes_it in
    let o = ordered_by repos past e r a key k t in
    let before = always_before (Meets repos) past t.it.entry t.it.before run o.occurs in
    let own = own_at repos past t.it.entry t.it.before a run o.occurs o.repo_is in
    record {
      free = ob.free;
      unheld = ob.unheld;
      s = sending_entry t.it;
      sent_is = sender_at past r e.taken ob.f t.it ob.takes_it t.next;
      from_a = o.repo_is;
      j = o.j;
      deadline = ob.deadline;
      need = o.need;
      kind_is = o.kind_is;
      in_range = own.known;
      other = λ same. (m.own r is).taken_from ob.f ob.takes_it (ob.peer_is ∙ same);
      enough = ap (is_enough Remote o.need) (evidence_known Remote repos t.it.before a o.j r o.need before) ∙ o.found.enough;
      in_time = record { keys = told_of repos t.it.before a o.j key before o.found.heard_of; ends = ordered_fresh repos past e r a key k t.it o };
      open' = ordered_open repos past e r a key k t o;
    }
