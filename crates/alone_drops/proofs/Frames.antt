-- The frames that are taken while a drop runs alone were sent since it began.
use Rattle.std.proofs.Common.{◌≡◌, ◌≢◌, ℕ, ◌+◌, ◌<◌, ◌≤◌, Bool, true, false, List, [], ◌∷◌, ◌++◌, Option, Some, None, ◌⊎◌, inl, inr, refl, sym, ap, ◌∙◌, subst, arith, append-nil, append_assoc}
use Rattle.std.specs.Prelude.{if◌then◌else◌, ◌&&◌, ◌==◌, filter, length, map, nat_lt, not, slice_get}
use Rattle.std.specs.Option.{option_or}
use Rattle.std.proofs.lemmas.Bool.{true≢false}
use Rattle.annex_base.specs.Lists.{Each, Member}
use Rattle.annex_base.specs.Bools.{same_bool}
use Rattle.annex_base.proofs.Conditions.{and_regrouped}
use Rattle.annex_base.proofs.Lists.{Each-from_members, Each-member, Member-append_cases, filter_none, find_nowhere}
use Rattle.annex_base.specs.OptionSteps.{first_some}
use Rattle.annex_base.specs.declared.kinds.Word.{Word}
use Rattle.run_data.specs.declared.entry.Entry.{Entry}
use Rattle.run_data.specs.declared.entry.FrameView.{FrameView}
use Rattle.run_data.specs.declared.entry.FrameText.{FrameText}
use Rattle.run_data.specs.declared.job.Job.{Job}
use Rattle.run_data.specs.declared.run.Run.{Run}
use Rattle.run_data.specs.Repos.{IsSetUp}
use Rattle.node_model.specs.Ends.{End, EndName, end_sends, end_takes, end_took, frames, is_opening, may_take, sends_at, sent_at, server_end, taken_at, takes_at}
use Rattle.node_model.specs.Look.{Look, waiting_frame}
use Rattle.node_model.specs.Sessions.{Doing, Gives, Session, session_after}
use Rattle.node_model.specs.SessionStep.{Here, Reply, gives_made, gives_next, here, reply_made, session_at, session_makes, session_step}
use Rattle.node_model.specs.SetUp.{SetUp, served_connections}
use Rattle.node_model.specs.OwedStep.{owed_step}
use Rattle.node_model.specs.Step.{step}
use Rattle.node_model.specs.Turns.{job_step}
use Rattle.run_model.specs.Frames.{FlyingFrame, MayTake, Way, flying_frame, frames_sent, is_on, on_way, sender_of, taken_count, taker_of, takes, way_of}
use Rattle.run_model.specs.Past.{is_of}
use Rattle.run_model.specs.Run.{OwnPart, RunPast, set_up}
use Rattle.run_model.specs.States.{content, end_at, session, state_of}
use Rattle.step_facts.proofs.Below.{SentAreRead}
use Rattle.step_facts.proofs.EndEpochs.{client_sends, from_end, end_grows, opening_later, opening_takes}
use Rattle.step_facts.proofs.EndMoves.{all_epoch, end_own, end_took-is, may_epoch, opening_closed, session_own, sends_all, took_none}
use Rattle.cause_laws.proofs.Epochs.{client_end, follows, none_sent}
use Rattle.step_facts.proofs.Flights.{get_append, get_none}
use Rattle.past_facts.proofs.OwnRuns.{Part, part_of}
use Rattle.step_facts.proofs.Plain.{member_mapped}
use Rattle.run_laws.proofs.SessionOwn.{served_other, way_at}
use Rattle.run_laws.proofs.WayCounts.{in_sender-is, in_taker-is, other_side, way_in}
use Rattle.step_facts.proofs.JobEnds.{SentWell}
use Rattle.step_facts.proofs.JobSteps.{Stepped}
use Rattle.step_facts.proofs.ServerEnds.{GivesHere, TakesHere, gives_elsewhere, same_end, same_end-is, sent_other, takes_elsewhere}
use Rattle.job_facts.proofs.Speaks.{hears, speaks}
use Rattle.past_facts.proofs.Told.{OnWay, on_parts, sends_member, sends_on}
use Rattle.alone_drops.specs.Alone.{FindsAll, IsAtRest}
use Rattle.alone_drops.proofs.Since.{Beginning, Later, Since, calm_who, stepped_since, is_calm}
use Rattle.alone_drops.proofs.Ends.{base_end, epoch_since, opened_since, quietly}

-- ---- what stands where no step is ready

or_none : {X : Type 0} (x y : Option X) → option_or x y ≡ None → (x ≡ None) × (y ≡ None)
or_none None y e = (refl, e)
or_none (Some x) y e = absurd (cc)

first_none : {X Y : Type 0} (f : X → Option Y) (xs : List X) (x : X) → first_some f xs ≡ None → Member x xs → f x ≡ None
first_none f [] x e m = absurd m
first_none f (y ∷ ys) x e (inl m) = ap f m ∙ (or_none (f y) (first_some f ys) e).0
first_none f (y ∷ ys) x e (inr m) = first_none f ys x (or_none (f y) (first_some f ys) e).1 m

module _ (run : Run) (past : List Entry) (rest : IsAtRest run past) (c x q : ℕ) (known : c < length run.repos) (serves : Member (x, q) (served_connections (set_up run c))) where
  abbrev s : SetUp
  s = set_up run c

  abbrev b : EndName
  b = server_end x q

  abbrev at_rest : (k : Look) × FindsAll past c k × (step s (state_of s past) k ≡ None)
  at_rest = rest c known

  abbrev k : Look
  k = at_rest.0

  idle : session_makes (here s (state_of s past) k b) (end_at past c b) (session past c b) (waiting_frame (end_at past c b) k b) ≡ None
  idle =
      let two = or_none (owed_step s (state_of s past) k) (option_or (session_step s (state_of s past) k) (job_step s (state_of s past) k)) at_rest.2 in
      let one = or_none (session_step s (state_of s past) k) (job_step s (state_of s past) k) two.1 in
      let none = first_none (λ (n : ℕ × ℕ). session_at s (state_of s past) k (server_end n.0 n.1)) (served_connections s) (x, q) one.0 serves in
      ap (λ (d : Bool). if d then session_makes (here s (state_of s past) k b) (end_at past c b) (session past c b) (waiting_frame (end_at past c b) k b) else None) (sym (at_rest.1.room b)) ∙ none

  none_waits : (o : Option FrameView) → session_makes (here s (state_of s past) k b) (end_at past c b) (session past c b) o ≡ None → o ≡ None
  none_waits None e = refl
  none_waits (Some f) e = absurd (cc)

  waits : waiting_frame (end_at past c b) k b ≡ None
  waits = none_waits (waiting_frame (end_at past c b) k b) idle

  -- no frame may be taken
  pub rest_takes : (f : FrameView) → MayTake past (way_of c f) f → takes_at b f ≡ true → may_take (end_at past c b) f ≡ true → ⊥
  rest_takes f t at may =
      let m = at_rest.1.frames b f (record { next = t; of_end = at; may = may }) in
      let off = Each-member (λ (g : FrameView). (takes_at b g && may_take (end_at past c b) g) ≡ false) k.at_hand f (find_nowhere (λ (g : FrameView). takes_at b g && may_take (end_at past c b) g) k.at_hand waits) m in
      true≢false (sym (λ i. at i && may i) ∙ off)

  gives_also : (h h' : Here) (doing : Doing) (y : Reply) → gives_next h doing ≡ Some y → (y' : Reply) × (gives_next h' doing ≡ Some y')
  gives_also h h' (Gives key at left good) y e = (_, refl)
  gives_also h h' doing y e = absurd (cc)

  -- nor is anything given
  pub rest_gives : (h : Here) (y : Reply) → (end_at past c b).opened ≡ true → gives_next h (session past c b).doing ≡ Some y → ⊥
  rest_gives h y o gives =
      let more = gives_also h (here s (state_of s past) k b) (session past c b).doing y gives in
      let opened : session_makes (here s (state_of s past) k b) (end_at past c b) (session past c b) None ≡ gives_made b (end_at past c b) (gives_next (here s (state_of s past) k b) (session past c b).doing) = rw o refl in
      let made : session_makes (here s (state_of s past) k b) (end_at past c b) (session past c b) (waiting_frame (end_at past c b) k b) ≡ gives_made b (end_at past c b) (Some more.0)
      = ap (session_makes (here s (state_of s past) k b) (end_at past c b) (session past c b)) waits ∙ (opened ∙ ap (gives_made b (end_at past c b)) more.1) in
      absurd (let both : None ≡ Some (reply_made b (end_at past c b) None more.0) = sym idle ∙ made in cc)

-- ---- what was sent since

abbrev pub newly : List Entry → List Entry → Way → List FlyingFrame
newly base [] w = []
newly base (e ∷ xs) w = if is_of (sender_of w) e then newly base xs w ++ map (flying_frame e (xs ++ base)) (on_way w e) else newly base xs w

sent_split : (base xs : List Entry) (w : Way) → frames_sent (xs ++ base) w ≡ frames_sent base w ++ newly base xs w
sent_split base [] w = sym (append-nil (frames_sent base w))
sent_split base (e ∷ xs) w = go (sent_split base xs w) (is_of (sender_of w) e)
  where
    new : List FlyingFrame
    new = map (flying_frame e (xs ++ base)) (on_way w e)

    go : frames_sent (xs ++ base) w ≡ frames_sent base w ++ newly base xs w → (d : Bool)
        → (if d then frames_sent (xs ++ base) w ++ new else frames_sent (xs ++ base) w) ≡ frames_sent base w ++ (if d then newly base xs w ++ new else newly base xs w)
    go old true = ap (λ (ys : List FlyingFrame). ys ++ new) old ∙ append_assoc (frames_sent base w) (newly base xs w) new
    go old false = old

pub record NewFrame (run : Run) (base : List Entry) (w : Way) (it : FlyingFrame) : Type 0 where
  pub later : Later run base it.entry it.before
  pub by : is_of (sender_of w) it.entry ≡ true
  pub on : Member it.frame (on_way w it.entry)

pub new_frame : (run : Run) (base xs : List Entry) → RunPast (set_up run) (xs ++ base) → Since run base xs → (w : Way) (it : FlyingFrame) → Member it (newly base xs w) → NewFrame run base w it
new_frame run base [] h t w it m = absurd m
new_frame run base (e ∷ xs) h t w it m = go (λ n. new_frame run base xs h.1 t.1 w it n) (is_of (sender_of w) e) refl m
  where
    now : is_of (sender_of w) e ≡ true → Member it (map (flying_frame e (xs ++ base)) (on_way w e)) → NewFrame run base w it
    now is n =
        let y = member_mapped (flying_frame e (xs ++ base)) (on_way w e) it n in
        subst (NewFrame run base w) (sym y.2) (record { later = record { ys = xs; before_is = refl; since = t.1; calm = t.0; step = h.0; steps = h.1 }; by = is; on = y.1 })

    go : (Member it (newly base xs w) → NewFrame run base w it) → (d : Bool) → is_of (sender_of w) e ≡ d
        → Member it (if d then newly base xs w ++ map (flying_frame e (xs ++ base)) (on_way w e) else newly base xs w) → NewFrame run base w it
    go old true is n = elim (Member-append_cases (newly base xs w) (map (flying_frame e (xs ++ base)) (on_way w e)) it n) [ inl k ↦ old k | inr k ↦ now is k ]
    go old false is n = old n

-- ---- an entry that does nothing at a server's end

pub record OffEnd (n : EndName) (e : Entry) : Type 0 where
  pub takes_none : taken_at n e.taken ≡ None
  pub silent : sent_at n e.sent ≡ []

pub and_false : (d : Bool) → (d && false) ≡ false
and_false true = refl
and_false false = refl

down_off : (x q : ℕ) (f : FrameView) → f.up ≡ false → takes_at (server_end x q) f ≡ false
down_off x q f up = ap (λ u. (f.peer == x) && (f.slot == q) && same_bool false (if u then false else true)) up ∙ and_false ((f.peer == x) && (f.slot == q))

up_off : (x q : ℕ) (g : FrameView) → g.up ≡ true → sends_at (server_end x q) g ≡ false
up_off x q g up = ap (λ u. (g.peer == x) && (g.slot == q) && same_bool u false) up ∙ and_false ((g.peer == x) && (g.slot == q))

-- what a server's end sends goes down
pub down_sent : (n : EndName) (c : End) (bodies : List FrameText) (g : FrameView) → n.client ≡ false → Member g (frames n c bodies) → g.up ≡ false
down_sent n c [] g down m = absurd m
down_sent n c (body ∷ bodies) g down (inl m) = ap (λ (f : FrameView). f.up) m ∙ down
down_sent n c (body ∷ bodies) g down (inr m) = down_sent n (end_sends c body) bodies g down m

-- a frame that an end sends has one of these bodies
pub frame_body : (n : EndName) (c : End) (bodies : List FrameText) (g : FrameView) → Member g (frames n c bodies) → Member g.body bodies
frame_body n c [] g m = absurd m
frame_body n c (body ∷ bodies) g (inl m) = inl (ap (λ (f : FrameView). f.body) m)
frame_body n c (body ∷ bodies) g (inr m) = inr (frame_body n (end_sends c body) bodies g m)

-- and goes to its peer
pub frame_peer : (n : EndName) (c : End) (bodies : List FrameText) (g : FrameView) → Member g (frames n c bodies) → g.peer ≡ n.peer
frame_peer n c [] g m = absurd m
frame_peer n c (body ∷ bodies) g (inl m) = ap (λ (f : FrameView). f.peer) m
frame_peer n c (body ∷ bodies) g (inr m) = frame_peer n (end_sends c body) bodies g m

-- what a job does is nothing there
job_off : (s : SetUp) (past : List Entry) (e : Entry) (y : Stepped s past e) (x q : ℕ) → OffEnd (server_end x q) e
job_off s past e y x q = record { takes_none = takes e.taken refl; silent = sends e.sent (λ g m. (speaks s past e y g m).1) }
  where
    takes : (o : Option FrameView) → e.taken ≡ o → taken_at (server_end x q) o ≡ None
    takes None t = refl
    takes (Some f) t = rw (down_off x q f (hears s past e y f t).1) refl

    sends : (fs : List FrameView) → ((g : FrameView) → Member g fs → g.up ≡ true) → sent_at (server_end x q) fs ≡ []
    sends fs up = filter_none (sends_at (server_end x q)) fs (Each-from_members (λ g. sends_at (server_end x q) g ≡ false) fs (λ g m. up_off x q g (up g m)))

abbrev pub AtEnd : SetUp → List Entry → EndName → Entry → Type 0
AtEnd s past n e = OffEnd n e ⊎ (TakesHere s past n e ⊎ GivesHere s past n e)

pub calm_at : (s : SetUp) (past : List Entry) (words : ℕ → Option Word) (e : Entry) → OwnPart s past words e → is_calm e.kind ≡ true → (x q : ℕ) → AtEnd s past (server_end x q) e
calm_at s past words e own u x q = elim (calm_who s past words e own u) [
  | inl l ↦ inl (record { takes_none = ap (taken_at n) l.takes_none; silent = ap (sent_at n) l.sends_none })
  | inr y ↦ elim y [
    | inl k ↦ by k.0 k.1 k.3 (same_end (server_end k.0 k.1) n) refl
    | inr k ↦ inl (job_off s past e k x q)
  ]
]
  where
    n : EndName
    n = server_end x q

    by : (p r : ℕ) → TakesHere s past (server_end p r) e ⊎ GivesHere s past (server_end p r) e → (d : Bool) → same_end (server_end p r) n ≡ d → AtEnd s past n e
    by p r k true at = inr (subst (λ m. TakesHere s past m e ⊎ GivesHere s past m e) (same_end-is (server_end p r) n at) k)
    by p r (inl k) false at = inl (record { takes_none = (takes_elsewhere s past (server_end p r) n e at k).takes_none; silent = ap (sent_at n) k.sent_is ∙ sent_other (server_end p r) n _ _ at })
    by p r (inr k) false at = inl (record { takes_none = (gives_elsewhere s past (server_end p r) n e at k).takes_none; silent = ap (sent_at n) k.sent_is ∙ sent_other (server_end p r) n _ _ at })

quiet_session : (past : List Entry) (e : Entry) (r : ℕ) (n : EndName) → sent_at n e.sent ≡ [] → taken_at n e.taken ≡ None → session (e ∷ past) r n ≡ session past r n
quiet_session past e r n silent none = go (is_of r e) refl
  where
    go : (d : Bool) → is_of r e ≡ d → session (e ∷ past) r n ≡ session past r n
    go true own = session_own r past n e own ∙ (λ i. session_after (content past r) e.kind (session past r n) (silent i) (none i))
    go false off = rw off refl

-- ---- what is taken at an end of a server

takes_in : (r : ℕ) (n : EndName) (k : ℕ) (f : FrameView) → takes_at n f ≡ false → takes (way_in r n k) (Some f) ≡ false
takes_in r n k f off = ap (λ p. is_on (way_in r n k) p f) (in_sender-is r n k) ∙ (and_regrouped (f.peer == n.peer) (f.slot == n.slot) (same_bool f.up (if n.client then false else true)) (f.epoch == k)
    ∙ (ap (λ d. ((f.peer == n.peer) && (f.slot == n.slot) && d) && (f.epoch == k)) (other_side f.up n.client) ∙ ap (λ d. d && (f.epoch == k)) off))

off_takes : (r : ℕ) (n : EndName) (k : ℕ) (o : Option FrameView) → taken_at n o ≡ None → takes (way_in r n k) o ≡ false
off_takes r n k None off = refl
off_takes r n k (Some f) off = go (takes_at n f) refl off
  where
    go : (d : Bool) → takes_at n f ≡ d → (if d then Some f else None) ≡ None → takes (way_in r n k) (Some f) ≡ false
    go true at h = absurd (cc)
    go false at h = takes_in r n k f at

count_same : (past : List Entry) (e : Entry) (r : ℕ) (n : EndName) (k : ℕ) → taken_at n e.taken ≡ None → taken_count (e ∷ past) (way_in r n k) ≡ taken_count past (way_in r n k)
count_same past e r n k off = ap (λ t. if is_of (taker_of (way_in r n k)) e && t then taken_count past (way_in r n k) + 1 else taken_count past (way_in r n k)) (off_takes r n k e.taken off) ∙ go (is_of (taker_of (way_in r n k)) e)
  where
    go : (d : Bool) → (if d && false then taken_count past (way_in r n k) + 1 else taken_count past (way_in r n k)) ≡ taken_count past (way_in r n k)
    go true = refl
    go false = refl

count_other : (past : List Entry) (e : Entry) (r : ℕ) (n : EndName) (k : ℕ) → is_of r e ≡ false → taken_count (e ∷ past) (way_in r n k) ≡ taken_count past (way_in r n k)
count_other past e r n k off = ap (λ d. if d && takes (way_in r n k) e.taken then taken_count past (way_in r n k) + 1 else taken_count past (way_in r n k)) (ap (λ m. is_of m e) (in_taker-is r n k) ∙ off)

module _ (reads_back : SentAreRead) (run : Run) (repos : Each IsSetUp run.repos) (past : List Entry) (b : Entry) (a j : ℕ) (what : Job) (z : Beginning run past b a j what) (h0 : RunPast (set_up run) (b ∷ past)) where
  abbrev base : List Entry
  base = b ∷ past

  base_frames : (w : Way) → frames_sent base w ≡ frames_sent past w
  base_frames w = go (is_of (sender_of w) b)
    where
      go : (d : Bool) → (if d then frames_sent past w ++ map (flying_frame b past) (on_way w b) else frames_sent past w) ≡ frames_sent past w
      go true = (λ i. frames_sent past w ++ map (flying_frame b past) (filter (is_on w (taker_of w)) ((quietly reads_back run repos past b a j what z h0).sends_none i))) ∙ append-nil (frames_sent past w)
      go false = refl

  base_count : (r : ℕ) (n : EndName) (k : ℕ) → taken_count base (way_in r n k) ≡ taken_count past (way_in r n k)
  base_count r n k = count_same past b r n k (ap (taken_at n) (quietly reads_back run repos past b a j what z h0).takes_none)

  -- the frames on a way: those of before, and new ones
  pub frames_split : (xs : List Entry) (w : Way) → frames_sent (xs ++ base) w ≡ frames_sent past w ++ newly base xs w
  frames_split xs w = sent_split base xs w ∙ ap (λ (ys : List FlyingFrame). ys ++ newly base xs w) (base_frames w)

  -- the opening that x's end of its connection with c was at
  abbrev pub first : ℕ → ℕ → ℕ → ℕ
  first x c q = (end_at past x (client_end c q)).epoch

  -- a new frame that goes up is one of a's job, and of a new opening
  pub up_frame : (x c q k : ℕ) (it : FlyingFrame) → NewFrame run base (way_in c (server_end x q) k) it → (x ≡ a) × (first x c q < k)
  up_frame x c q k it n = elim (calm_who (set_up run x) p part.words it.entry part.own l.calm.kind) [
    | inl y ↦ absurd (subst (Member it.frame) y.sends_none among)
    | inr y ↦ elim y [
      | inl g ↦ absurd (server_up g.0 g.1 g.3)
      | inr g ↦ ((stepped_since run past b a j what z l.ys l.since x it.entry g).at, epoch (client_sends (set_up run x) p part.words it.entry part.own it.frame among up))
    ]
  ]
    where
      l : Later run base it.entry it.before
      l = n.later

      p : List Entry
      p = l.ys ++ base

      w : Way
      w = way_in c (server_end x q) k

      part : Part (set_up run) p x it.entry
      part = part_of (set_up run) p it.entry x l.step (subst (λ m. is_of m it.entry ≡ true) (in_sender-is c (server_end x q) k) n.by)

      among : Member it.frame it.entry.sent
      among = sends_member w it.entry it.frame n.on

      parts : OnWay w (taker_of w) it.frame
      parts = on_parts w (taker_of w) it.frame (sends_on w it.entry it.frame n.on)

      up : it.frame.up ≡ true
      up = parts.up_is

      end_is : from_end it.frame ≡ client_end c q
      end_is i = record { peer = (parts.peer_is ∙ in_taker-is c (server_end x q) k) i; slot = parts.slot_is i; client = parts.up_is i }

      server_up : (p' r : ℕ) → TakesHere (set_up run x) p (server_end p' r) it.entry ⊎ GivesHere (set_up run x) p (server_end p' r) it.entry → ⊥
      server_up p' r (inl y) = true≢false (sym up ∙ down_sent (server_end p' r) _ _ it.frame refl (subst (Member it.frame) y.sent_is among))
      server_up p' r (inr y) = true≢false (sym up ∙ down_sent (server_end p' r) _ _ it.frame refl (subst (Member it.frame) y.sent_is among))

      less : (m c k : ℕ) → m < c → k ≡ c → m < k
      less m c k i e = omega (arith, i, e)

      next : (m c k : ℕ) → m ≤ c → k ≡ c + 1 → m < k
      next m c k i e = omega (arith, i, e)

      epoch : SentWell (end_at p x (from_end it.frame)) it.frame → first x c q < k
      epoch y = go (subst (λ (m : EndName). SentWell (end_at p x m) it.frame) end_is y)
        where
          go : SentWell (end_at p x (client_end c q)) it.frame → first x c q < k
          go (inl v) = less (first x c q) (end_at p x (client_end c q)).epoch k (opened_since reads_back run repos past b a j what z l.ys l.steps x (client_end c q) refl v.0) (sym parts.epoch_is ∙ v.1)
          go (inr v) = next (first x c q) (end_at p x (client_end c q)).epoch k (epoch_since reads_back run repos past b a j what z l.ys l.steps x (client_end c q)) (sym parts.epoch_is ∙ v.1)

  -- ---- the ends of servers

  -- as it stood before
  pub record Same (p : List Entry) (c x q : ℕ) : Type 0 where
    pub epoch_is : (end_at p c (server_end x q)).epoch ≡ (end_at past c (server_end x q)).epoch
    pub opened_is : (end_at p c (server_end x q)).opened ≡ (end_at past c (server_end x q)).opened
    pub session_is : session p c (server_end x q) ≡ session past c (server_end x q)
    pub count_is : (k : ℕ) → taken_count p (way_in c (server_end x q) k) ≡ taken_count past (way_in c (server_end x q) k)

  -- or at a new opening, which a made
  abbrev pub Reached : List Entry → ℕ → ℕ → ℕ → Type 0
  Reached p c x q = ((x ≡ a) × (first x c q < (end_at p c (server_end x q)).epoch)) ⊎ Same p c x q

  module _ (c x q : ℕ) (serves : Member (x, q) (served_connections (set_up run c))) where
    abbrev n : EndName
    n = server_end x q

    apart : x ≢ c
    apart = served_other (set_up run c) x q serves

    follows0 : (end_at past c n).epoch ≤ first x c q
    follows0 = follows reads_back run repos past h0.1 x c q apart

    module _ (xs : List Entry) (h : RunPast (set_up run) (xs ++ base)) (t : Since run base xs) where
      abbrev p : List Entry
      p = xs ++ base

      -- a frame that may be taken there now is new
      module _ (known : c < length run.repos) (f : FrameView) (of_end : takes_at n f ≡ true) (may : may_take (end_at p c n) f ≡ true) (m : MayTake p (way_in c n f.epoch) f) where
        abbrev w : Way
        w = way_in c n f.epoch

        cases : (slice_get (frames_sent past w) (taken_count p w) ≡ Some m.it) ⊎ Member m.it (newly base xs w)
        cases = get_append (frames_sent past w) (newly base xs w) (taken_count p w) m.it (subst (λ (ys : List FlyingFrame). slice_get ys (taken_count p w) ≡ Some m.it) (frames_split xs w) m.next)

        over : first x c q < f.epoch → NewFrame run base w m.it
        over later = elim cases [
          | inl old ↦ absurd (get_none (taken_count p w) m.it (subst (λ (ys : List FlyingFrame). slice_get ys (taken_count p w) ≡ Some m.it) (none_sent reads_back run repos past h0.1 x (client_end c q) f.epoch later) old))
          | inr new ↦ new_frame run base xs h t w m.it new
        ]

        by_same : Same p c x q → NewFrame run base w m.it
        by_same s = elim cases [
          | inl old ↦ absurd (rest_takes run past z.rest c x q known serves f (may0 old) of_end may1)
          | inr new ↦ new_frame run base xs h t w m.it new
        ]
          where
            may0 : slice_get (frames_sent past w) (taken_count p w) ≡ Some m.it → MayTake past (way_of c f) f
            may0 old = subst (λ v. MayTake past v f) (sym (way_at c n f of_end)) (record {
              it = m.it;
              next = subst (λ k. slice_get (frames_sent past w) k ≡ Some m.it) (s.count_is f.epoch) old;
              seq_is = m.seq_is ∙ ap (λ k. k + 1) (s.count_is f.epoch);
              body_is = m.body_is;
            })

            may1 : may_take (end_at past c n) f ≡ true
            may1 = sym (λ i. if is_opening f.body then not (s.opened_is i) && nat_lt (s.epoch_is i) f.epoch else s.opened_is i && (f.epoch == s.epoch_is i)) ∙ may

        new_by : Reached p c x q → NewFrame run base w m.it
        new_by (inr s) = by_same s
        new_by (inl s) = over (go (is_opening f.body) refl)
          where
            less : (k d e : ℕ) → k < d → d < e → k < e
            less k d e i l = omega (arith, i, l)

            same : (k d e : ℕ) → k < d → e ≡ d → k < e
            same k d e i l = omega (arith, i, l)

            go : (d : Bool) → is_opening f.body ≡ d → first x c q < f.epoch
            go true opens = less (first x c q) (end_at p c n).epoch f.epoch s.1 (opening_later (end_at p c n) f opens may)
            go false opens = same (first x c q) (end_at p c n).epoch f.epoch s.1 (may_epoch (end_at p c n) f opens may).1

    base_same : Same base c x q
    base_same = record {
      epoch_is = ap (λ (d : End). d.epoch) (base_end reads_back run repos past b a j what z h0 c n);
      opened_is = ap (λ (d : End). d.opened) (base_end reads_back run repos past b a j what z h0 c n);
      session_is = quiet_session past b c n (ap (sent_at n) (quietly reads_back run repos past b a j what z h0).sends_none) (ap (taken_at n) (quietly reads_back run repos past b a j what z h0).takes_none);
      count_is = base_count c n;
    }

    module _ (xs : List Entry) (e : Entry) (h : RunPast (set_up run) (e ∷ xs ++ base)) (t : Since run base (e ∷ xs)) where
      abbrev p' : List Entry
      p' = xs ++ base

      other_reached : is_of c e ≡ false → Reached p' c x q → Reached (e ∷ p') c x q
      other_reached off (inl s) = inl (s.0, rw off s.1)
      other_reached off (inr s) = inr (record {
        epoch_is = rw off s.epoch_is;
        opened_is = rw off s.opened_is;
        session_is = rw off s.session_is;
        count_is = λ k. count_other p' e c n k off ∙ s.count_is k;
      })

      module _ (own : is_of c e ≡ true) where
        part : Part (set_up run) p' c e
        part = part_of (set_up run) p' e c h.0 own

        up : (k d e' : ℕ) → k < d → d ≤ e' → k < e'
        up k d e' i l = omega (arith, i, l)

        moved : (x ≡ a) × (first x c q < (end_at p' c n).epoch) → Reached (e ∷ p') c x q
        moved s = inl (s.0, up (first x c q) (end_at p' c n).epoch (end_at (e ∷ p') c n).epoch s.1 (end_grows (set_up run c) p' part.words e part.own own n))

        off : OffEnd n e → Same p' c x q → Reached (e ∷ p') c x q
        off y s =
            let end_is : end_at (e ∷ p') c n ≡ end_at p' c n = end_own c p' n e own ∙ (λ i. sends_all (end_took (end_at p' c n) (y.takes_none i)) (y.silent i)) in
            inr (record {
              epoch_is = ap (λ (d : End). d.epoch) end_is ∙ s.epoch_is;
              opened_is = ap (λ (d : End). d.opened) end_is ∙ s.opened_is;
              session_is = quiet_session p' e c n y.silent y.takes_none ∙ s.session_is;
              count_is = λ k. count_same p' e c n k y.takes_none ∙ s.count_is k;
            })

        takes_here : TakesHere (set_up run c) p' n e → Same p' c x q → Reached (e ∷ p') c x q
        takes_here y s =
            let m = subst (λ v. MayTake p' v y.f) (way_at c n y.f y.of_end) (part.frames.takes y.f y.taken_is) in
            let new = by_same xs h.1 t.1 part.own.known y.f y.of_end y.may m s in
            let one = up_frame x c q y.f.epoch m.it new in
            inl (one.0, by_body one.1 (is_opening y.f.body) refl)
          where
            after : (end_at (e ∷ p') c n).epoch ≡ (end_takes (end_at p' c n) y.f.epoch y.f.body).epoch
            after = ap (λ (d : End). d.epoch) (end_own c p' n e own ∙ end_took-is (set_up run c) p' n e y) ∙ all_epoch (end_takes (end_at p' c n) y.f.epoch y.f.body) _ (took_none (set_up run c) p' n e y)

            no : (k d d0 : ℕ) → k < d → d ≡ d0 → d0 ≤ k → ⊥
            no k d d0 i e' l = omega (arith, i, e', l)

            by_body : first x c q < y.f.epoch → (d : Bool) → is_opening y.f.body ≡ d → first x c q < (end_at (e ∷ p') c n).epoch
            by_body later true opens = subst (λ k. first x c q < k) (sym (after ∙ ap (λ (d : End). d.epoch) (opening_takes (end_at p' c n) y.f.epoch y.f.body opens))) later
            by_body later false opens = absurd (no (first x c q) y.f.epoch (end_at past c n).epoch later ((may_epoch (end_at p' c n) y.f opens y.may).1 ∙ s.epoch_is) follows0)

        gives_here : GivesHere (set_up run c) p' n e → Same p' c x q → Reached (e ∷ p') c x q
        gives_here y s = absurd (rest_gives run past z.rest c x q part.own.known serves (here (set_up run c) (state_of (set_up run c) p') y.k n) y.x (sym s.opened_is ∙ y.opened)
            (subst (λ (v : Session). gives_next (here (set_up run c) (state_of (set_up run c) p') y.k n) v.doing ≡ Some y.x) s.session_is y.next))

        own_reached : Reached p' c x q → Reached (e ∷ p') c x q
        own_reached (inl s) = moved s
        own_reached (inr s) = elim (calm_at (set_up run c) p' part.words e part.own t.0.kind x q) [
          | inl y ↦ off y s
          | inr y ↦ elim y [ inl k ↦ takes_here k s | inr k ↦ gives_here k s ]
        ]

    pub reached : (xs : List Entry) → RunPast (set_up run) (xs ++ base) → Since run base xs → Reached (xs ++ base) c x q
    reached [] h t = inr base_same
    reached (e ∷ xs) h t = go (reached xs h.1 t.1) (is_of c e) refl
      where
        go : Reached (xs ++ base) c x q → (d : Bool) → is_of c e ≡ d → Reached (e ∷ xs ++ base) c x q
        go s true own = own_reached xs e h t own s
        go s false off = other_reached xs e h t off s

    -- **a frame that is taken there was sent since**
    pub taken_new : (xs : List Entry) → RunPast (set_up run) (xs ++ base) → Since run base xs → (known : c < length run.repos) → (f : FrameView) → takes_at n f ≡ true → may_take (end_at (xs ++ base) c n) f ≡ true
        → (m : MayTake (xs ++ base) (way_in c n f.epoch) f) → NewFrame run base (way_in c n f.epoch) m.it
    taken_new xs h t known f of_end may m = new_by xs h t known f of_end may m (reached xs h t)

  -- **and so was one that comes down to a's job**
  pub answer_new : (xs : List Entry) → RunPast (set_up run) (xs ++ base) → Since run base xs → (c q : ℕ) → a ≢ c → (f : FrameView) → takes_at (client_end c q) f ≡ true → (end_at (xs ++ base) a (client_end c q)).opened ≡ true
      → may_take (end_at (xs ++ base) a (client_end c q)) f ≡ true → (m : MayTake (xs ++ base) (way_in a (client_end c q) f.epoch) f) → NewFrame run base (way_in a (client_end c q) f.epoch) m.it
  answer_new xs h t c q apart f of_end o may m = elim (get_append (frames_sent past w) (newly base xs w) (taken_count p w) m.it (subst (λ (ys : List FlyingFrame). slice_get ys (taken_count p w) ≡ Some m.it) (frames_split xs w) m.next)) [
    | inl old ↦ absurd (get_none (taken_count p w) m.it (subst (λ (ys : List FlyingFrame). slice_get ys (taken_count p w) ≡ Some m.it) (none_sent reads_back run repos past h0.1 c (server_end a q) f.epoch later) old))
    | inr new ↦ new_frame run base xs h t w m.it new
  ]
    where
      p : List Entry
      p = xs ++ base

      w : Way
      w = way_in a (client_end c q) f.epoch

      plain : is_opening f.body ≡ false
      plain = go (is_opening f.body) refl
        where
          go : (d : Bool) → is_opening f.body ≡ d → d ≡ false
          go true opens = absurd (true≢false (sym o ∙ opening_closed (end_at p a (client_end c q)) f opens may))
          go false opens = refl

      less : (d k e e' : ℕ) → d ≤ k → k < e → e' ≡ e → d < e'
      less d k e e' i l s = omega (arith, i, l, s)

      later : (end_at past c (server_end a q)).epoch < f.epoch
      later = less (end_at past c (server_end a q)).epoch (first a c q) (end_at p a (client_end c q)).epoch f.epoch (follows reads_back run repos past h0.1 a c q apart)
          (opened_since reads_back run repos past b a j what z xs h a (client_end c q) refl o) (may_epoch (end_at p a (client_end c q)) f plain may).1
