-- What the running jobs have heard after the step of one of them.
use Rattle.std.proofs.Common.{◌≡◌, ◌⊎◌, inl, inr, ℕ, Bool, true, false, List, [], ◌∷◌, Option, Some, None, refl, sym, ap, subst, ◌∙◌, true≢false}
use Rattle.std.specs.Prelude.{◌==◌, find, if◌then◌else◌}
use Rattle.std.specs.Option.{option_map}
use Rattle.std.proofs.lemmas.Bool.{eqb-true}
use Rattle.std.proofs.lemmas.Option.{same_Some}
use Rattle.annex_base.proofs.Conditions.{eqb_refl}
use Rattle.annex_base.proofs.Options.{some_none}
use Rattle.annex_base.specs.declared.kinds.Word.{Word}
use Rattle.drop_proof.specs.declared.rule.Side.{Side}
use Rattle.drop_proof.specs.declared.rule.Side.TheVariants.{Local, Remote}
use Rattle.run_data.specs.declared.entry.FrameView.{FrameView}
use Rattle.run_data.specs.declared.job.Job.{Job}
use Rattle.p2p_wire.specs.declared.message.Message.TheVariants.{Failure}
use Rattle.link_ring.specs.Ends.{EndView}
use Rattle.node_model.specs.Ends.{EndName}
use Rattle.node_model.specs.Jobs.{drop_side, partner}
use Rattle.node_ends.specs.Ends.{end_at, room_at, wait_at}
use Rattle.drop_phases.specs.declared.phase.Heard.{Heard}
use Rattle.drop_phases.specs.declared.phase.Heard.TheVariants as heards
use Rattle.drop_phases.specs.declared.phase.Phase.{Phase}
use Rattle.drop_phases.specs.declared.phase.Phase.TheVariants as phases
use Rattle.drop_phases.specs.declared.turn.Taken.TheVariants as takens
use Rattle.drop_phases.specs.Doing.{Grows}
use Rattle.drop_phases.specs.Feeding.{FitsLocal, IsAnswer}
use Rattle.drop_phases.specs.Leaving.{stands_on}
use Rattle.drop_phases.specs.Sides.{FitsSide, HasTarget, side_in}
use Rattle.drop_phases.specs.Worker.{Worker as DropWorker}
use Rattle.drop_phases.specs.Working.{end_in, is_target, newest_of, phase_as, taken_of, word_in, words_of}
use Rattle.running_jobs.specs.Drops.{DropJob, IsDrop, place_reading}
use Rattle.running_jobs.specs.Places.{PlaceView}
use Rattle.running_jobs.specs.Feed.{Feed}
use Rattle.running_jobs.specs.Feeds.{bare_feed, feed_by, feed_of}
use Rattle.running_jobs.specs.Waiting.{taken_by, word_at}
use Rattle.running_jobs.specs.Told.{Told}
use Rattle.running_jobs.specs.Told.TheVariants as tolds
use Rattle.running_jobs.specs.Task.{Task}
use Rattle.running_jobs.specs.Task.TheVariants as tasks
use Rattle.running_jobs.specs.TaskActing.{HearsOn}
use Rattle.running_jobs.specs.Tasks.{IsTask, slot_of, work_now}
use Rattle.running_jobs.specs.Telling.{IsToldTo, takes_in}
use Rattle.running_jobs.specs.Running.{words_of_task}
use Rattle.node_parts.specs.declared.done.Done.{Done}
use Rattle.node_parts.specs.Jobs.{AwaitsAnswerOf, HearsMore, HearsSo, heard_of, is_target_of, phase_of}
use Rattle.node_parts.proofs.Asked.{waits_there}

-- ---- the word beside a refused look

-- what a drop is told where it took this frame at this end
record IsFedFrame (links : List EndView) (a : EndName) (feed : Feed) (f : FrameView) : Type 0 where
  at : wait_at links a ≡ Some f
  taken : feed.taken ≡ taken_of f.body
  word : feed.word ≡ word_at links a

fed_frame : (links : List EndView) (slot peer : ℕ) (feed : Feed) (f : FrameView) → taken_by links slot feed.takes ≡ Some f → (opened room : Bool) (o : Option FrameView) → wait_at links (end_in slot peer) ≡ o
    → Some feed ≡ feed_by opened room (feed_of peer (word_at links (end_in slot peer)) o) → IsFedFrame links (end_in slot peer) feed f
fed_frame links slot peer feed f took false room o waits fed =
    let same : feed ≡ bare_feed takens.Closed = same_Some feed (bare_feed takens.Closed) fed in
    absurd (some_none f (sym took ∙ ap (λ (x : Feed). taken_by links slot x.takes) same))
fed_frame links slot peer feed f took true false o waits fed = absurd (some_none feed fed)
fed_frame links slot peer feed f took true true None waits fed = absurd (some_none feed fed)
fed_frame links slot peer feed f took true true (Some g) waits fed =
    let same : feed ≡ record { taken = taken_of g.body; word = word_at links (end_in slot peer); takes = Some peer } = same_Some feed (record { taken = taken_of g.body; word = word_at links (end_in slot peer); takes = Some peer }) fed in
    let frame : g ≡ f = same_Some g f (sym waits ∙ (sym (ap (λ (x : Feed). taken_by links slot x.takes) same) ∙ took)) in
    record {
      at = waits ∙ ap (λ (x : FrameView). Some x) frame;
      taken = ap (λ (x : Feed). x.taken) same ∙ ap (λ (x : FrameView). taken_of x.body) frame;
      word = ap (λ (x : Feed). x.word) same;
    }

-- it is kept
task_word : (links : List EndView) (t t' : Task) (x : Told) (f : FrameView) → IsToldTo links t x → HearsOn t t' x → taken_by links (slot_of t) (takes_in x) ≡ Some f → phase_of t ≡ Some (phases.AsksLook f.peer) → taken_of f.body ≡ takens.Message Failure
    → heard_of t' ≡ (f.peer, heards.Unseen (word_at links (end_in (slot_of t) f.peer))) ∷ heard_of t
task_word links (tasks.Drops j) (tasks.Drops j') (tolds.Feed feed) f told h took asks refused =
    let phase : j.worker.phase ≡ phases.AsksLook f.peer = same_Some j.worker.phase (phases.AsksLook f.peer) asks in
    let stands : stands_on j.worker ≡ Some f.peer = ap (λ (ph : Phase). partner j.worker.job.peer (phase_as ph)) phase in
    let a = end_in j.worker.slot f.peer in
    let fed = fed_frame links j.worker.slot f.peer feed f took (end_at links a).opened (room_at links a) (wait_at links a) refl (told.1 f.peer stands) in
    h.0 f.peer phase (fed.taken ∙ refused) ∙ ap (λ (w : Option Word). (f.peer, heards.Unseen w) ∷ j.worker.heard) fed.word
task_word links (tasks.Drops j) (tasks.Drops j') (tolds.Arrival y) f told h took asks refused = absurd h
task_word links (tasks.Drops j) (tasks.Transfers w) x f told h took asks refused = absurd h
task_word links (tasks.Transfers w) t' x f told h took asks refused = absurd (some_none (phases.AsksLook f.peer) (sym asks))

-- ---- the word beside an answer to an order

-- a drop that has sent its order awaits its target's answer
ordered : (p : PlaceView) (j : DropJob) → IsDrop p j → j.worker.phase ≡ phases.Orders → (peer : ℕ) × (stands_on j.worker ≡ Some peer)
ordered p j is phase = go (side_in j.worker) j.worker.job.peer j.worker.phase is.target is.fits phase
  where
    go : (side : Side) (peer : Option ℕ) (ph : Phase) → HasTarget side peer (place_reading p) → FitsSide side ph j.worker.token → ph ≡ phases.Orders → (x : ℕ) × (partner peer (phase_as ph) ≡ Some x)
    go Local peer ph target fits e = absurd (subst (λ (q : Phase). FitsLocal q j.worker.token) e fits)
    go Remote None ph target fits e = absurd target
    go Remote (Some x) ph target fits e = (x, ap (λ (q : Phase). partner (Some x) (phase_as q)) e)

-- who is its target
its_target : (p : PlaceView) (j : DropJob) → IsDrop p j → j.worker.phase ≡ phases.Orders → (peer : ℕ) → stands_on j.worker ≡ Some peer → true ≡ is_target (side_in j.worker) j.worker.job.peer peer
its_target p j is phase peer stands = go (side_in j.worker) j.worker.job.peer j.worker.phase is.target is.fits phase stands
  where
    go : (side : Side) (o : Option ℕ) (ph : Phase) → HasTarget side o (place_reading p) → FitsSide side ph j.worker.token → ph ≡ phases.Orders → partner o (phase_as ph) ≡ Some peer → true ≡ is_target side o peer
    go Local o ph target fits e at = absurd (subst (λ (q : Phase). FitsLocal q j.worker.token) e fits)
    go Remote None ph target fits e at = absurd target
    go Remote (Some x) ph target fits e at =
        let same : x ≡ peer = same_Some x peer (sym (ap (λ (q : Phase). partner (Some x) (phase_as q)) e) ∙ at) in sym (ap (λ (n : ℕ). x == n) (sym same) ∙ eqb_refl x)

-- it is kept
drop_answer : (p : PlaceView) (links : List EndView) (j j' : DropJob) (feed : Feed) (f : FrameView) → IsDrop p j → IsToldTo links (tasks.Drops j) (tolds.Feed feed) → HearsOn (tasks.Drops j) (tasks.Drops j') (tolds.Feed feed)
    → taken_by links j.worker.slot feed.takes ≡ Some f → j.worker.phase ≡ phases.Orders → IsAnswer (taken_of f.body) → (is_target (side_in j.worker) j.worker.job.peer f.peer ≡ true) × (j'.worker.word ≡ word_at links (end_in j.worker.slot f.peer))
drop_answer p links j j' feed f is told h took phase answers =
    let target = ordered p j is phase in
    let a = end_in j.worker.slot target.0 in
    let fed = fed_frame links j.worker.slot target.0 feed f took (end_at links a).opened (room_at links a) (wait_at links a) refl (told.1 target.0 target.1) in
    let peer : target.0 ≡ f.peer = sym (waits_there links a f fed.at).0 in (
      sym (its_target p j is phase target.0 target.1 ∙ ap (is_target (side_in j.worker) j.worker.job.peer) peer),
      h.1 phase (subst IsAnswer (sym fed.taken) answers) ∙ (fed.word ∙ ap (λ (peer : ℕ). word_at links (end_in j.worker.slot peer)) peer),
    )

-- ---- the words that it has for its end

-- of its target, the word beside its answer; of any other, that beside a refused look
target_words : (w : DropWorker) (job : Job) (c : ℕ) → w.job ≡ job → is_target (drop_side job.kind job.peer) job.peer c ≡ true → words_of w c ≡ w.word
target_words w job c same is =
    ap (λ (q : Job). if is_target (drop_side q.kind q.peer) q.peer c then w.word else word_in (newest_of w.heard c)) same ∙ ap (λ (b : Bool). if b then w.word else word_in (newest_of w.heard c)) is

other_words : (w : DropWorker) (job : Job) (c : ℕ) → w.job ≡ job → is_target (drop_side job.kind job.peer) job.peer c ≡ false → words_of w c ≡ word_in (newest_of w.heard c)
other_words w job c same is =
    ap (λ (q : Job). if is_target (drop_side q.kind q.peer) q.peer c then w.word else word_in (newest_of w.heard c)) same ∙ ap (λ (b : Bool). if b then w.word else word_in (newest_of w.heard c)) is

newest_first : (c : ℕ) (h : Heard) (hs : List (ℕ × Heard)) → newest_of ((c, h) ∷ hs) c ≡ Some h
newest_first c h hs = ap (λ (b : Bool). option_map (λ (x : ℕ × Heard). x.1) (if b then Some (c, h) else find (λ x. x.0 == c) hs)) (eqb_refl c)

newest_later : (c : ℕ) (x : ℕ × Heard) (hs : List (ℕ × Heard)) → (x.0 == c) ≡ false → newest_of (x ∷ hs) c ≡ newest_of hs c
newest_later c x hs e = ap (λ (b : Bool). option_map (λ (x : ℕ × Heard). x.1) (if b then Some x else find (λ x. x.0 == c) hs)) e

-- a target is that of a remote drop
remote_target : (side : Side) (peer : Option ℕ) (c : ℕ) → is_target side peer c ≡ true → side ≡ Remote
remote_target Local peer c is = absurd (true≢false (sym is))
remote_target Remote peer c is = refl

-- a phase is that of a drop which has sent its order, or isn't
abbrev is_orders : Phase → Bool
is_orders phases.Orders = true
is_orders ph = false

orders_is : (ph : Phase) → is_orders ph ≡ true → ph ≡ phases.Orders
orders_is phases.Orders e = refl
orders_is ph e = absurd (true≢false (sym e))

orders_not : (ph : Phase) → is_orders ph ≡ false → ph ≡ phases.Orders → ⊥
orders_not ph other is = true≢false (sym (ap is_orders is) ∙ other)

-- of each repository: it heard one thing more of it, or awaited its answer to an order, or its word is what it was
abbrev DropRest : DropJob → DropJob → ℕ → Type 0
DropRest j j' c = HearsMore (tasks.Drops j) (tasks.Drops j') c ⊎ (AwaitsAnswerOf (tasks.Drops j) c ⊎ (words_of j'.worker c ≡ words_of j.worker c))

drop_rest : (j j' : DropJob) (feed : Feed) (c : ℕ) → HearsOn (tasks.Drops j) (tasks.Drops j') (tolds.Feed feed) → j'.worker.job ≡ j.worker.job → DropRest j j' c
drop_rest j j' feed c h same = by_target (is_target (side_in j.worker) j.worker.job.peer c) refl
  where
    of_target : is_target (side_in j.worker) j.worker.job.peer c ≡ true → (b : Bool) → is_orders j.worker.phase ≡ b → DropRest j j' c
    of_target is true orders = inr (inl (ap (λ (ph : Phase). Some ph) (orders_is j.worker.phase orders), is))
    of_target is false other = inr (inr (target_words j'.worker j.worker.job c same is ∙ (h.2 (remote_target (side_in j.worker) j.worker.job.peer c is) (orders_not j.worker.phase other) ∙ sym (target_words j.worker j.worker.job c refl is))))

    as_heard : is_target (side_in j.worker) j.worker.job.peer c ≡ false → newest_of j'.worker.heard c ≡ newest_of j.worker.heard c → DropRest j j' c
    as_heard is newest = inr (inr (other_words j'.worker j.worker.job c same is ∙ (ap word_in newest ∙ sym (other_words j.worker j.worker.job c refl is))))

    one_more : is_target (side_in j.worker) j.worker.job.peer c ≡ false → (z : ℕ × Heard) → j'.worker.heard ≡ z ∷ j.worker.heard → (b : Bool) → (z.0 == c) ≡ b → DropRest j j' c
    one_more is z more true e = inl (z.1, more ∙ (λ i. (eqb-true z.0 c e i, z.1) ∷ j.worker.heard))
    one_more is z more false e = as_heard is (ap (λ (hs : List (ℕ × Heard)). newest_of hs c) more ∙ newest_later c z j.worker.heard e)

    of_other : is_target (side_in j.worker) j.worker.job.peer c ≡ false → Grows j.worker.heard j'.worker.heard → DropRest j j' c
    of_other is (inl still) = as_heard is (ap (λ (hs : List (ℕ × Heard)). newest_of hs c) still)
    of_other is (inr z) = one_more is z.0 z.1 (z.0.0 == c) refl

    by_target : (b : Bool) → is_target (side_in j.worker) j.worker.job.peer c ≡ b → DropRest j j' c
    by_target true is = of_target is (is_orders j.worker.phase) refl
    by_target false is = of_other is h.3

-- the drop that a move begins has no word yet
handed_words : (w : DropWorker) (c : ℕ) → w.heard ≡ [] → w.word ≡ None → words_of w c ≡ None
handed_words w c none no_word =
    (λ i. if is_target (drop_side w.job.kind w.job.peer) w.job.peer c then no_word i else word_in (newest_of (none i) c)) ∙ go (is_target (drop_side w.job.kind w.job.peer) w.job.peer c)
  where
    go : (b : Bool) → (if b then None else word_in (newest_of [] c)) ≡ None
    go true = refl
    go false = refl

task_rest : (t t' : Task) (x : Told) (c : ℕ) → HearsOn t t' x → (work_now t').what ≡ (work_now t).what → HearsMore t t' c ⊎ (AwaitsAnswerOf t c ⊎ (words_of_task t' c ≡ words_of_task t c))
task_rest (tasks.Drops j) (tasks.Drops j') (tolds.Feed f) c h same = drop_rest j j' f c h same
task_rest (tasks.Drops j) (tasks.Drops j') (tolds.Arrival y) c h same = absurd h
task_rest (tasks.Drops j) (tasks.Transfers w) x c h same = absurd h
task_rest (tasks.Transfers w) (tasks.Drops j) (tolds.Feed f) c h same = absurd h
task_rest (tasks.Transfers w) (tasks.Drops j) (tolds.Arrival y) c h same = inr (inr (handed_words j.worker c h.0 h.1))
task_rest (tasks.Transfers w) (tasks.Transfers w') (tolds.Feed f) c h same = absurd h
task_rest (tasks.Transfers w) (tasks.Transfers w') (tolds.Arrival y) c h same = inr (inr refl)

-- ---- the word of the repository whose answer it took

look_word : (links : List EndView) (t t' : Task) (x : Told) (f : FrameView) → IsToldTo links t x → HearsOn t t' x → taken_by links (slot_of t) (takes_in x) ≡ Some f → phase_of t ≡ Some (phases.AsksLook f.peer) → taken_of f.body ≡ takens.Message Failure
    → is_target_of t f.peer ≡ false → (work_now t').what ≡ (work_now t).what → words_of_task t' f.peer ≡ word_at links (end_in (slot_of t) f.peer)
look_word links (tasks.Drops j) (tasks.Drops j') (tolds.Feed feed) f told h took asks refused other same =
    let word = word_at links (end_in j.worker.slot f.peer) in
    other_words j'.worker j.worker.job f.peer same other
    ∙ (ap (λ (hs : List (ℕ × Heard)). word_in (newest_of hs f.peer)) (task_word links (tasks.Drops j) (tasks.Drops j') (tolds.Feed feed) f told h took asks refused)
    ∙ ap word_in (newest_first f.peer (heards.Unseen word) j.worker.heard))
look_word links (tasks.Drops j) (tasks.Drops j') (tolds.Arrival y) f told h took asks refused other same = absurd h
look_word links (tasks.Drops j) (tasks.Transfers w) x f told h took asks refused other same = absurd h
look_word links (tasks.Transfers w) t' x f told h took asks refused other same = absurd (some_none (phases.AsksLook f.peer) (sym asks))

answer_word : (p : PlaceView) (links : List EndView) (t t' : Task) (x : Told) (f : FrameView) → IsTask p t → IsToldTo links t x → HearsOn t t' x → taken_by links (slot_of t) (takes_in x) ≡ Some f → phase_of t ≡ Some phases.Orders → IsAnswer (taken_of f.body)
    → (work_now t').what ≡ (work_now t).what → words_of_task t' f.peer ≡ word_at links (end_in (slot_of t) f.peer)
answer_word p links (tasks.Drops j) (tasks.Drops j') (tolds.Feed feed) f is told h took orders answers same =
    let it = drop_answer p links j j' feed f is told h took (same_Some j.worker.phase phases.Orders orders) answers in
    target_words j'.worker j.worker.job f.peer same it.0 ∙ it.1
answer_word p links (tasks.Drops j) (tasks.Drops j') (tolds.Arrival y) f is told h took orders answers same = absurd h
answer_word p links (tasks.Drops j) (tasks.Transfers w) x f is told h took orders answers same = absurd h
answer_word p links (tasks.Transfers w) t' x f is told h took orders answers same = absurd (some_none phases.Orders (sym orders))

-- ---- what it hears by what was done

module _ (p : PlaceView) (links : List EndView) (d : Done) (t t' : Task) (x : Told) (is : IsTask p t) (told : IsToldTo links t x) (h : HearsOn t t' x) (takes : d.taken ≡ taken_by links (slot_of t) (takes_in x))
    (same : (work_now t').what ≡ (work_now t).what) where
  -- the frame that it took came at the end of its slot
  own_slot : (f : FrameView) → d.taken ≡ Some f → f.slot ≡ slot_of t
  own_slot f taken = go (takes_in x) (sym takes ∙ taken)
    where
      go : (o : Option ℕ) → taken_by links (slot_of t) o ≡ Some f → f.slot ≡ slot_of t
      go None at = absurd cc
      go (Some peer) at = (waits_there links (end_in (slot_of t) peer) f at).1

  at_slot : (f : FrameView) → d.taken ≡ Some f → word_at links (end_in (slot_of t) f.peer) ≡ word_at links (end_in f.slot f.peer)
  at_slot f taken = ap (λ (slot : ℕ). word_at links (end_in slot f.peer)) (sym (own_slot f taken))

  pub task_hears : HearsSo links d t t'
  task_hears = record {
    look = λ f taken asks refused other. look_word links t t' x f told h (sym takes ∙ taken) asks refused other same ∙ at_slot f taken;
    answer = λ f taken orders answers. answer_word p links t t' x f is told h (sym takes ∙ taken) orders answers same ∙ at_slot f taken;
    rest = λ c. task_rest t t' x c h same;
  }
