-- What a job is told of the end at which it awaits a frame.
use Rattle.std.proofs.Common.{◌≡◌, ℕ, zero, suc, ◌*◌, ◌<◌, Bool, true, false, if◌then◌else◌, List, [], ◌∷◌, ◌++◌, length, Option, Some, None, Result, Ok, Err, refl, sym, ap, subst, ◌∙◌, arith}
use Rattle.std.specs.Prelude.{not, is_some, option_and_then, slice_get, nat_lt, IfOk, IfSome, ◌==◌}
use Rattle.std.specs.List.{range_with_len}
use Rattle.std.specs.Option.{option_map}
use Rattle.std.proofs.lemmas.Bool.Decides.{nat_tests}
use Rattle.std.proofs.lemmas.List.{length-map}
use Rattle.annex_base.specs.declared.kinds.Word.{Word}
use Rattle.annex_base.specs.declared.memory.NoMemory.{NoMemory}
use Rattle.annex_base.specs.Lists.{Member}
use Rattle.annex_base.proofs.Conditions.{eqb_refl, eqb_turned}
use Rattle.annex_base.proofs.Options.{some_none}
use Rattle.annex_base.proofs.Lists.{Member-append_left, Member-filter_from, Member-flat_map, Member-map}
use Rattle.annex_base.proofs.Numbers.{Member-range}
use Rattle.run_data.specs.declared.run.RepoView.{RepoView}
use Rattle.run_data.specs.declared.entry.FrameView.{FrameView}
use Rattle.drop_proof.specs.declared.rule.Side.{Side}
use Rattle.drop_proof.specs.declared.rule.Side.TheVariants.{Local, Remote}
use Rattle.link_ring.specs.declared.frame.Frame.{Frame}
use Rattle.link_ring.specs.Ends.{EndView, next_frame}
use Rattle.link_ring.specs.Places.{end_place}
use Rattle.node_model.specs.Knows.{Reading}
use Rattle.node_model.specs.AnyTime.{all_ends, ends_with}
use Rattle.node_model.specs.Clocks.{ClockSet}
use Rattle.node_model.specs.Ends.{End, EndName, may_take, takes_at}
use Rattle.node_model.specs.Jobs.{partner}
use Rattle.node_model.specs.JobStep.{Turn, end_with, turn_of}
use Rattle.node_model.specs.Look.{Look, waiting_frame}
use Rattle.node_model.specs.SetUp.{SetUp, others, slots}
use Rattle.node_model.specs.State.{State}
use Rattle.node_model.specs.Turns.{awaits, by_partner, goes_on, has_room, is_awaiting, slot_step, with_partner}
use Rattle.node_ends.specs.Ends.{AreEnds, SeesEnds, end_at, frame_at, if_may, link_at, room_at, wait_at}
use Rattle.drop_worker.specs.Begun.{HasBegun, IsOther}
use Rattle.drop_phases.specs.declared.phase.Phase.{Phase}
use Rattle.drop_phases.specs.declared.phase.Phase.TheVariants as phases
use Rattle.drop_phases.specs.declared.phase.Token.{Token}
use Rattle.drop_phases.specs.declared.turn.Taken.TheVariants as takens
use Rattle.drop_worker.specs.Feeding.{FeedsFrameAt, FindsAt}
use Rattle.drop_worker.specs.Leaving.{stands_on}
use Rattle.drop_worker.specs.Sides.{FitsSide, HasTarget, side_in}
use Rattle.drop_worker.specs.Working.{end_in, phase_as, sight, taken_of}
use Rattle.node_drops.specs.declared.feed.Feed.{Feed}
use Rattle.node_drops.specs.Waiting.{WaitsFor, word_at}
use Rattle.node_drops.specs.Feeds.{Answers, SeesJob, IsFedAt, feed_at, feed_by, feed_of}
use Rattle.node_drops.specs.Places.{IsPlace, PlaceView}
use Rattle.node_drops.specs.Reads.{KnownLogs}
use Rattle.node_drops.specs.Drops.{DropJob, HasReadByPhase, place_reading, work_now}

-- ---- the ends of a repository

member_slots : (slot : ℕ) → slot < 4 → Member slot slots
member_slots slot below = Member-range 0 4 slot (omega arith) (omega (arith, below))

pub count_is : (p : PlaceView) (s : SetUp) → IsPlace p s → length s.repos ≡ length p.ids
count_is p s is = sym (length-map s.repos (λ (repo : RepoView). repo.id)) ∙ ap length is.ids

-- a client's end at another repository is one of them
pub client_end : (p : PlaceView) (s : SetUp) (slot peer : ℕ) → IsPlace p s → IsOther (place_reading p) peer → slot < 4 → Member (end_in slot peer) (all_ends s)
client_end p s slot peer is other below =
    let known : peer < length s.repos = subst (λ (n : ℕ). peer < n) (sym (count_is p s is)) other.0 in
    let apart : (peer == s.number) ≡ false = eqb_turned s.number peer (subst (λ (n : ℕ). (n == peer) ≡ false) (sym is.number) other.1) in
    Member-flat_map (λ x. ends_with x true ++ ends_with x false) (others s) peer (end_in slot peer)
    (Member-filter_from (λ x. not (x == s.number)) (range_with_len 0 (length s.repos)) peer (Member-range 0 (length s.repos) peer (omega arith) (omega (arith, known))) (rw apart refl))
    (Member-append_left (ends_with peer true) (ends_with peer false) (end_in slot peer) (Member-map (λ (n : ℕ). end_in n peer) slots slot (member_slots slot below)))

-- ---- what a drop awaits

pub awaiting : (ph : Phase) → is_awaiting (phase_as ph) ≡ true
awaiting phases.Fresh = refl
awaiting phases.Next = refl
awaiting (phases.Opens peer) = refl
awaiting (phases.Greets peer) = refl
awaiting (phases.AsksLock peer since) = refl
awaiting (phases.AsksLook peer) = refl
awaiting phases.AsksTime = refl
awaiting phases.Orders = refl
awaiting phases.Removed = refl
awaiting phases.Denied = refl
awaiting (phases.Late time) = refl
awaiting (phases.Ends why) = refl

-- a frame that waits at an end is one that the end takes
frame_fits : (a : EndName) (f : Frame) → takes_at a (frame_at a f) ≡ true
frame_fits a f = by_side a.client
  where
    by_side : (client : Bool) → takes_at (record { peer = a.peer; slot = a.slot; client = client }) (frame_at (record { peer = a.peer; slot = a.slot; client = client }) f) ≡ true
    by_side true = rw (eqb_refl a.peer, eqb_refl a.slot) refl
    by_side false = rw (eqb_refl a.peer, eqb_refl a.slot) refl

may_fit : (a : EndName) (c : End) (o : Option Frame) (f : FrameView) → option_and_then (if_may c) (option_map (frame_at a) o) ≡ Some f → takes_at a f ≡ true
may_fit a c None f e = absurd cc
may_fit a c (Some x) f e = go (may_take c (frame_at a x)) e
  where
    go : (b : Bool) → (if b then Some (frame_at a x) else None) ≡ Some f → takes_at a f ≡ true
    go true is = subst (λ (g : FrameView). takes_at a g ≡ true) (let same : frame_at a x ≡ f = cc in same) (frame_fits a x)
    go false is = absurd cc

pub waits_there : (links : List EndView) (a : EndName) (f : FrameView) → wait_at links a ≡ Some f → takes_at a f ≡ true
waits_there links a f e = may_fit a (end_at links a) (option_and_then next_frame (link_at links a)) f e

-- ---- the answers

no_room : (t : Turn) (peer : ℕ) (o : Option FrameView) → has_room t peer ≡ false → awaits t peer o ≡ None
no_room t peer None full = refl
no_room t peer (Some f) full = rw full refl

module _ (p : PlaceView) (clock : ClockSet) (links : List EndView) (j : DropJob) (time peer : ℕ) (at : stands_on j.worker ≡ Some peer) (other : IsOther (place_reading p) peer) (below : j.worker.slot < 4)
    (there : is_some (link_at links (end_in j.worker.slot peer)) ≡ true)
    (law : (ls : List EndView) (s : SetUp) (st : State) (k : Look) (a : EndName) → AreEnds ls s st → SeesEnds ls s k → Member a (all_ends s) → waiting_frame (st.ends a) k a ≡ wait_at ls a) where
  abbrev here : EndName
  here = end_in j.worker.slot peer

  module _ (s : SetUp) (st : State) (k : Look) (sees : SeesJob p clock links j time s st k) where
    abbrev t : Turn
    t = turn_of s st k (work_now j)

    waits : waiting_frame (end_with t peer) k here ≡ wait_at links here
    waits = law links s st k here (record { count = sees.count; ends = λ b _. sees.ends b }) sees.sees (client_end p s j.worker.slot peer sees.place other below)

    roomy : has_room t peer ≡ room_at links here
    roomy = sees.sees.room here there

    idle_by : (end_at links here).opened ≡ true → awaits t peer (wait_at links here) ≡ None → slot_step s st k (Some (work_now j)) ≡ None
    idle_by o none =
        ap (by_partner t) at ∙ (ap (λ (e : End). with_partner t peer e.opened) (sees.ends here) ∙ (ap (with_partner t peer) o
        ∙ ((λ i. if awaiting j.worker.phase i then awaits t peer (waiting_frame (end_with t peer) k here) else goes_on t) ∙ (ap (awaits t peer) waits ∙ none))))

  answer_by : (opened room : Bool) (f : Option FrameView) → (end_at links here).opened ≡ opened → room_at links here ≡ room → wait_at links here ≡ f
      → Answers p clock links j time (feed_by opened room (feed_of peer (word_at links here) f))
  answer_by false room f o r w = λ rows c s st k sees keeps.
      subst (λ (q : Option ℕ). FindsAt (turn_of s st k (work_now j)) q None × FeedsFrameAt (sight (place_reading p) (end_at links) time 0) j.worker.slot q None takens.Closed) (sym at)
      (ap (λ (e : End). e.opened) (sees.ends here) ∙ o, (refl, other.1, o))
  answer_by true false f o r w = λ rows c s st k sees keeps. idle_by s st k sees o (no_room (turn_of s st k (work_now j)) peer (wait_at links here) (roomy s st k sees ∙ r))
  answer_by true true None o r w = λ rows c s st k sees keeps. idle_by s st k sees o (ap (awaits (turn_of s st k (work_now j)) peer) w)
  answer_by true true (Some f) o r w = λ rows c s st k sees keeps.
      subst (λ (g : Option FrameView). FindsAt (turn_of s st k (work_now j)) (stands_on j.worker) g × FeedsFrameAt (sight (place_reading p) (end_at links) time 0) j.worker.slot (stands_on j.worker) g (taken_of f.body)) (sym w)
      (subst (λ (q : Option ℕ). FindsAt (turn_of s st k (work_now j)) q (Some f) × FeedsFrameAt (sight (place_reading p) (end_at links) time 0) j.worker.slot q (Some f) (taken_of f.body)) (sym at)
      ((waits s st k sees ∙ w, roomy s st k sees ∙ r), record { at = waits_there links here f w; live = o; apart = other.1; is = refl }))

  pub heard_answers : (feed : Option Feed) → feed ≡ feed_at links here → Answers p clock links j time feed
  heard_answers feed is = subst (Answers p clock links j time) (sym is) (answer_by (end_at links here).opened (room_at links here) (wait_at links here) refl refl refl)

  pub heard_ok : (r : Result (Option Feed) NoMemory) → IfOk r (λ f. f ≡ feed_at links here) → IfOk r (Answers p clock links j time)
  heard_ok (Ok feed) is = heard_answers feed is
  heard_ok (Err e) is = tt

pub heard_fed : (links : List EndView) (j : DropJob) (peer : ℕ) (r : Result (Option Feed) NoMemory) → stands_on j.worker ≡ Some peer → IfOk r (λ f. f ≡ feed_at links (end_in j.worker.slot peer)) → IfOk r (λ f. IfSome f (IsFedAt links j))
heard_fed links j peer (Ok None) at is = tt
heard_fed links j peer (Ok (Some feed)) at is = λ p there. subst (λ (q : ℕ). Some feed ≡ feed_at links (end_in j.worker.slot q)) (same peer p (sym at ∙ there)) is
  where
    same : (m n : ℕ) → Some m ≡ Some n → m ≡ n
    same m n e = cc
heard_fed links j peer (Err e) at is = tt

pub free_fed : (links : List EndView) (j : DropJob) (r : Result (Option Feed) NoMemory) → stands_on j.worker ≡ None → IfOk r (λ f. IfSome f (IsFedAt links j))
free_fed links j (Ok None) at = tt
free_fed links j (Ok (Some feed)) at = λ p there. absurd (some_none p (sym there ∙ at))
free_fed links j (Err e) at = tt

-- a frame that is told waits there, and the end has room
waits_by : (links : List EndView) (slot peer : ℕ) (opened room : Bool) (word : Option Word) (o : Option FrameView) → room_at links (end_in slot peer) ≡ room → wait_at links (end_in slot peer) ≡ o
    → IfSome (feed_by opened room (feed_of peer word o)) (λ feed. WaitsFor links slot feed.takes)
waits_by links slot peer false room word o r w = λ q takes. absurd (some_none q (sym takes))
waits_by links slot peer true false word o r w = tt
waits_by links slot peer true true word None r w = tt
waits_by links slot peer true true word (Some f) r w = λ q takes.
    subst (λ (n : ℕ). (room_at links (end_in slot n) ≡ true) × (is_some (wait_at links (end_in slot n)) ≡ true)) (same peer q takes) (r, ap (λ (o : Option FrameView). is_some o) w)
  where
    same : (m n : ℕ) → Some m ≡ Some n → m ≡ n
    same m n e = cc

pub heard_waits : (links : List EndView) (slot peer : ℕ) (r : Result (Option Feed) NoMemory) → IfOk r (λ f. f ≡ feed_at links (end_in slot peer)) → IfOk r (λ f. IfSome f (λ feed. WaitsFor links slot feed.takes))
heard_waits links slot peer (Ok f) is =
    subst (λ (o : Option Feed). IfSome o (λ feed. WaitsFor links slot feed.takes)) (sym is)
    (waits_by links slot peer (end_at links (end_in slot peer)).opened (room_at links (end_in slot peer)) (word_at links (end_in slot peer)) (wait_at links (end_in slot peer)) refl refl)
heard_waits links slot peer (Err e) is = tt

pub free_waits : (links : List EndView) (slot : ℕ) (r : Result (Option Feed) NoMemory) → IfOk r (λ f. IfSome f (λ feed. feed.takes ≡ None)) → IfOk r (λ f. IfSome f (λ feed. WaitsFor links slot feed.takes))
free_waits links slot (Ok None) none = tt
free_waits links slot (Ok (Some feed)) none = λ q takes. absurd (some_none q (sym takes ∙ none))
free_waits links slot (Err e) none = tt

-- ---- whose frame it awaits

-- a drop that removes from its peer awaits its answers to a request for its time, and to an order
pub time_is_remote : (side : Side) (token : Token) → FitsSide side phases.AsksTime token → side ≡ Local → ⊥
time_is_remote side token fits local = subst (λ (s : Side). FitsSide s phases.AsksTime token) local fits

pub order_is_remote : (side : Side) (token : Token) → FitsSide side phases.Orders token → side ≡ Local → ⊥
order_is_remote side token fits local = subst (λ (s : Side). FitsSide s phases.Orders token) local fits

pub has_target : (r : Reading) (side : Side) (target : Option ℕ) → HasTarget side target r → (side ≡ Local → ⊥) → target ≡ None → ⊥
has_target r Local target has remote none = remote refl
has_target r Remote None has remote none = has
has_target r Remote (Some target) has remote none = some_none target none

target_other : (r : Reading) (side : Side) (target : Option ℕ) (peer : ℕ) → HasTarget side target r → (side ≡ Local → ⊥) → target ≡ Some peer → IsOther r peer
target_other r Local target peer has remote at = absurd (remote refl)
target_other r Remote None peer has remote at = absurd has
target_other r Remote (Some target) peer has remote at = subst (IsOther r) (let same : target ≡ peer = cc in same) has

-- a drop that is past its first step awaits a frame of another repository
begun_other : (r : Reading) (side : Side) (target : Option ℕ) (peer : ℕ) (phase : Phase) (token : Token) → HasTarget side target r → FitsSide side phase token → partner target (phase_as phase) ≡ Some peer → HasBegun r phase → IsOther r peer
begun_other r side target peer phases.Fresh token has fits at h = absurd h
begun_other r side target peer phases.Next token has fits at h = absurd cc
begun_other r side target peer (phases.Opens p) token has fits at h = subst (IsOther r) (let same : p ≡ peer = cc in same) h
begun_other r side target peer (phases.Greets p) token has fits at h = subst (IsOther r) (let same : p ≡ peer = cc in same) h
begun_other r side target peer (phases.AsksLock p since) token has fits at h = subst (IsOther r) (let same : p ≡ peer = cc in same) h
begun_other r side target peer (phases.AsksLook p) token has fits at h = subst (IsOther r) (let same : p ≡ peer = cc in same) h
begun_other r side target peer phases.AsksTime token has fits at h = target_other r side target peer has (time_is_remote side token fits) at
begun_other r side target peer phases.Orders token has fits at h = target_other r side target peer has (order_is_remote side token fits) at
begun_other r side target peer phases.Removed token has fits at h = absurd cc
begun_other r side target peer phases.Denied token has fits at h = absurd cc
begun_other r side target peer (phases.Late time) token has fits at h = absurd cc
begun_other r side target peer (phases.Ends why) token has fits at h = absurd cc

pub awaits_other : (p : PlaceView) (j : DropJob) (peer : ℕ) (known : Option KnownLogs) → HasTarget (side_in j.worker) j.worker.job.peer (place_reading p) → FitsSide (side_in j.worker) j.worker.phase j.worker.token → stands_on j.worker ≡ Some peer
    → HasReadByPhase p j.worker.phase known → IsOther (place_reading p) peer
awaits_other p j peer None has fits at fresh = absurd (let none : Some peer ≡ None = sym at ∙ ap (λ (ph : Phase). partner j.worker.job.peer (phase_as ph)) fresh in some_none peer none)
awaits_other p j peer (Some known) has fits at begun = begun_other (place_reading p) (side_in j.worker) j.worker.job.peer peer j.worker.phase j.worker.token has fits at begun

-- its end is there
pub link_there : (links : List EndView) (count slot peer : ℕ) → length links ≡ count * 8 → peer < count → slot < 4 → is_some (link_at links (end_in slot peer)) ≡ true
link_there links count slot peer is known below =
    let within : end_place peer slot true < length links = rw is (omega (arith, known, below)) in
    rw (below_true slot 4 below) (some_at links (end_place peer slot true) within)
  where
    below_true : (m n : ℕ) → m < n → nat_lt m n ≡ true
    below_true m n lt = grind (arith, nat_tests)

    some_at : (xs : List EndView) (i : ℕ) → i < length xs → is_some (slice_get xs i) ≡ true
    some_at [] i h = absurd (omega (arith, h))
    some_at (x ∷ xs) zero h = refl
    some_at (x ∷ xs) (suc i) h = some_at xs i (omega (arith, h))
