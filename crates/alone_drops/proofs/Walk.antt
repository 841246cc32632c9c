-- A drop that runs alone, step by step.
use Rattle.std.specs.Prelude.{if◌then◌else◌, ◌&&◌, ◌*◌, ◌/◌, nat_lt, slice_get}
use Rattle.std.specs.Option.{option_or}
use Rattle.std.proofs.Common.{◌≡◌, ◌≢◌, ℕ, ◌+◌, ◌<◌, Bool, true, false, List, [], ◌∷◌, ◌++◌, Option, Some, None, ◌⊎◌, inl, inr, refl, sym, ap, ◌∙◌, subst, arith, ◌-◌}
use Rattle.std.proofs.lemmas.Bool.{true≢false, and_parts}
use Rattle.std.proofs.lemmas.Bool.Decides.{nat_tests}
use Rattle.std.proofs.lemmas.Option.{same_Some}
use Rattle.annex_base.specs.Lists.{Each, Member}
use Rattle.annex_base.specs.declared.kinds.Call.{Call}
use Rattle.annex_base.specs.declared.kinds.Call.TheVariants as calls
use Rattle.annex_base.proofs.Conditions.{eqb_refl}
use Rattle.drop_proof.specs.declared.rule.Need.{Need}
use Rattle.drop_proof.specs.declared.rule.Side.{Side}
use Rattle.drop_proof.specs.declared.rule.Side.TheVariants.{Remote}
use Rattle.run_data.specs.declared.entry.By.{By}
use Rattle.run_data.specs.declared.entry.Entry.{Entry}
use Rattle.run_data.specs.declared.entry.EntryKind.{EntryKind}
use Rattle.run_data.specs.declared.entry.EntryKind.TheVariants.{Gain, Share, Bar, Order, Gone, Talk, Fault, End as ends_job}
use Rattle.run_data.specs.declared.entry.FrameView.{FrameView}
use Rattle.run_data.specs.declared.job.Job.{Job}
use Rattle.run_data.specs.declared.job.Outcome.{Outcome}
use Rattle.run_data.specs.declared.job.Outcome.TheVariants.{Refused, TransferRefused}
use Rattle.run_data.specs.declared.job.DropRefusal.{DropRefusal}
use Rattle.run_data.specs.declared.job.DropRefusal.TheVariants as refusals
use Rattle.run_data.specs.declared.job.TransferRefusal.{TransferRefusal}
use Rattle.run_data.specs.declared.job.TransferRefusal.TheVariants as failures
use Rattle.run_data.specs.declared.run.Run.{Run}
use Rattle.run_data.specs.Repos.{IsSetUp, id_of}
use Rattle.run_data.specs.declared.entry.FrameText.TheVariants.{Line}
use Rattle.p2p_wire.specs.declared.message.Message.TheVariants.{CheckPresent, Failure, Success, Timestamp, Version}
use Rattle.p2p_wire.specs.Messages.{order_of, message_of, text_of}
use Rattle.wanted_expr.specs.Wanted.{required}
use Rattle.node_model.specs.Evidence.{Asked, standing_by}
use Rattle.node_model.specs.Clocks.{hold_time}
use Rattle.node_model.specs.Found.{IsJobEntry, HasDeadline, GivesOrder}
use Rattle.node_model.specs.Jobs
use Rattle.node_model.specs.Jobs.{Drops, Puts, Phase, Fresh, Next, Opens, Greets, PutsOffer, PutsAnswer, AsksLock, AsksLook, AsksTime, Removed, Denied, Ends, Late, Orders, Work, RowsAndEnds, claims, drop_side, first_look, learns, partner, running_job, side_of, talks_on, work_kind, job_end, or_own}
use Rattle.node_model.specs.JobStep.{Turn, clock_of, end_with}
use Rattle.node_model.specs.Rows.{is_blocked, option_is}
use Rattle.node_model.specs.SetUp.{SetUp, version_in}
use Rattle.node_model.specs.Slots.{job_of}
use Rattle.node_model.specs.Sessions.{line_in}
use Rattle.run_model.specs.Causes.{ClosedWith, HearsMessage}
use Rattle.run_model.specs.Drops.{option_is_none}
use Rattle.run_model.specs.Logs.{before_step, in_drop, is_step, settings_of}
use Rattle.run_model.specs.Past.{bar, clock, holds, is_of, present}
use Rattle.run_model.specs.Run.{OwnPast, RunPast, set_up, job_paths}
use Rattle.run_model.specs.Said.{Says}
use Rattle.run_model.specs.States.{rows_at, state_of, works}
use Rattle.step_facts.proofs.Knowing.{knows_enough}
use Rattle.step_facts.proofs.Below.{SentAreRead}
use Rattle.step_facts.proofs.JobSteps.{Origin, Stays, Steps, origin, stepped_job, turn_at}
use Rattle.step_facts.proofs.Makers.{taken_of, taker}
use Rattle.step_facts.proofs.WorkNumbers.{same_number_same_work}
use Rattle.past_facts.proofs.OwnRuns.{Part, own_past, part_of}
use Rattle.job_facts.proofs.OrdersRead.{order_read}
use Rattle.job_facts.proofs.FirstTalks.{FirstSays, Untold, step_first}
use Rattle.job_facts.proofs.HeardLists.{Changed, kind_changed, share_or, talker_is}
use Rattle.job_facts.proofs.PhaseFacts.{GoodTo, is_fresh, readies_place}
use Rattle.job_facts.proofs.TalkFacts.{Fits, SaysOne, TalkKind, OrderStands}
use Rattle.job_facts.proofs.WorkFits.{step_kind, step_runs, step_talk, steps_good, works_fit}
use Rattle.dialogue_facts.proofs.EndReasons.{DropReason, OutcomeReason, Reason, SaysFirst, ShutOn, TransferReason, kind_reason}
use Rattle.run_laws.proofs.AtTargets.{at_targets}
use Rattle.run_laws.proofs.Decisions.{order_stands_on}
use Rattle.run_laws.proofs.FromStep.{meets}
use Rattle.run_laws.proofs.HeardTells.{taken_peer}
use Rattle.run_laws.proofs.SaidDown.{is_said, said_is}
use Rattle.cause_laws.proofs.Refusals.{Stands, target_in}
use Rattle.cause_laws.proofs.RunCauses.{shut_told}
use Rattle.cause_laws.proofs.Standing.{stands}
use Rattle.cause_laws.proofs.TargetAsks.{order_remote, time_remote}
use Rattle.alone_drops.specs.Alone.{MayGo}
use Rattle.alone_drops.specs.Offers.{OffersSuffice, gives_hold, is_free}
use Rattle.alone_drops.proofs.Since.{Beginning, IsIt, Since, calm_who, stepped_since, works_since, is_calm}
use Rattle.alone_drops.proofs.Frames.{frame_body, frame_peer}
use Rattle.alone_drops.proofs.Sides.{Aims, away, not_both, own_target, peer_target}
use Rattle.alone_drops.proofs.Rows.{no_session, now_since, own_time}
use Rattle.alone_drops.proofs.Shuts.{heard_since, never_shut}
use Rattle.alone_drops.proofs.Asking.{body_asked, lock_looks}
use Rattle.alone_drops.proofs.Heard.{Fit, heard_lock, heard_look, heard_none, heard_refused, order_heard, time_told, version_told}
use Rattle.alone_drops.proofs.Usual.{Asking, Usual, on_usual}
use Rattle.alone_drops.proofs.Weighs.{enough_suffices, locks_end}
use Rattle.alone_drops.proofs.Stages.{Allowed, AreTimely, AsBegun, Inv, IsTimely, Known, Obeys, OthersChangeNothing, Refuses, Stage, Under, as_begun, begin_inv, calm_step, drops_good, known_asks, line_inv, other_inv, stage_is, stage_kept, timely_kept, under_kept}

fresh_or : (phase : Phase) → (phase ≡ Fresh) ⊎ (is_fresh phase ≡ false)
fresh_or Fresh = inl refl
fresh_or phase = inr refl

-- a drop's first step, where it talks
first_talk : (rows : RowsAndEnds) (r : ℕ) (v : Work) (e : Entry) (i : ℕ) → v.phase ≡ Fresh → v.part ≡ Drops → e.taken ≡ None → e.sent ≡ [] → work_kind rows r v e (Talk (Some i)) ≡ first_look r v Drops (rows.present v.what.key) (rows.bar v.what.key)
first_talk rows r v e i fresh part none silent = rw (fresh, part, none, silent) refl

first_next : (r : ℕ) (v : Work) (here : Bool) (barred : Option ℕ) → (first_look r v Drops here barred).phase ≡ Next
first_next r v here barred = refl

-- a content under a bar isn't free
barred_off : (here : Bool) (bar : Option ℕ) (job : ℕ) → bar ≡ Some job → (here && option_is_none bar) ≡ false
barred_off false bar job e = refl
barred_off true None job e = absurd (cc)
barred_off true (Some i) job e = refl

-- a deadline of ten minutes after the timestamp is later than the clock that the timestamp is of
deadline_later : (c t first n secs : ℕ) → secs ≡ t / 1000 → first ≡ c + 600000 → n ≡ secs + (first - c) / 1000 → t < 1000 * n
deadline_later c t first n secs s f is = omega (arith, s, whole, is)
  where
    left : first - c ≡ 600000
    left = omega (arith, f)

    whole : (first - c) / 1000 ≡ 600
    whole = ap (λ k. k / 1000) left

module _ (reads_back : SentAreRead) (run : Run) (repos : Each IsSetUp run.repos) (past : List Entry) (b : Entry) (a j : ℕ) (what : Job) (z : Beginning run past b a j what) (h0 : RunPast (set_up run) (b ∷ past)) (side : Side) (to : ℕ) (aims : Aims a what side to) (others : OthersChangeNothing)
    (obeys : side ≡ Remote → Obeys run past b.time a j to what.key) where
  abbrev base : List Entry
  base = b ∷ past

  abbrev s : SetUp
  s = set_up run a

  abbrev F : ℕ → Jobs.Heard → Type 0
  F = Fit reads_back run repos past b a j what z h0 side to aims

  abbrev I : List Entry → Work → Type 0
  I = Inv reads_back run repos past b a j what z h0 side to aims others

  abbrev S : List Entry → Phase → Type 0
  S = Stage reads_back run repos past b a j what z h0 side to aims others

  abbrev U : List Entry → Type 0
  U = Under reads_back run repos past b a j what z h0 side to aims others

  abbrev R : ℕ → Type 0
  R = Refuses reads_back run repos past b a j what z h0 side to aims others

  abbrev T : Option ℕ → Type 0
  T = IsTimely reads_back run repos past b a j what z h0 side to aims others

  abbrev L : Type 0
  L = Allowed reads_back run repos past b a j what z h0 side to aims others

  abbrev Suffices : Type 0
  Suffices = OffersSuffice side run.repos (job_paths run a j) past a to what.key

  abbrev A : Phase → Phase → Type 0
  A old = Asking (old ≡ Orders) R

  abbrev K : Phase → Type 0
  K = Known reads_back run repos past b a j what z h0 side to aims others

  -- ---- a step of the job
  module _ (xs : List Entry) (e : Entry) (h : RunPast (set_up run) (e ∷ xs ++ base)) (t : Since run base (e ∷ xs)) (own : is_of a e ≡ true) (w : Work) (among : Member w (works (e ∷ xs ++ base) a)) (st : Steps s (xs ++ base) e w) (old : I (xs ++ base) st.by.w) where
    abbrev p : List Entry
    p = xs ++ base

    abbrev v : Work
    v = st.by.w

    abbrev turn : Turn
    turn = turn_at s p e st.by

    abbrev rows : RowsAndEnds
    rows = rows_at p a

    abbrev after : EntryKind → Work
    after kind = work_kind rows a v e kind

    it : IsIt run past b a j what z a (running_job v)
    it = stepped_since run past b a j what z xs t.1 a e st.by

    number : v.number ≡ j
    number = it.number_is

    what_is : v.what ≡ what
    what_is = it.what_is

    key_is : v.what.key ≡ what.key
    key_is = ap (λ (q : Job). q.key) what_is

    pp : OwnPast s p
    pp = own_past run repos a p h.1

    runs : Member v (works p a)
    runs = step_runs s p e w st

    fits : Fits v.part v.phase
    fits = works_fit s p pp.run v runs

    side_is : side ≡ side_of v
    side_is = sym (ap (λ (q : Job). drop_side q.kind q.peer) what_is ∙ aims.side_is)

    found : IsJobEntry turn st.by.made e.kind
    found = step_kind s p e w st

    talk : TalkKind turn st.by.made e.kind
    talk = step_talk s p e w st fits

    abbrev own_part : Part (set_up run) p a e
    own_part = part_of (set_up run) p e a h.0 own

    in_it : in_drop p a j ≡ true
    in_it = subst (λ n. in_drop p a n ≡ true) number ((at_targets reads_back s p pp v runs).0 old.part_is)

    time : e.time ≡ b.time
    time = own_time (set_up run) p e a h.0 own ∙ now_since reads_back run repos past b a j what z h0 xs h.1 t.1

    no_shut : ShutOn rows v e → ⊥
    no_shut y = elim (shut_told reads_back run repos p e h.1 h.0 a w st y) [
      | inl c ↦ never_shut reads_back run repos past b a j what z h0 (e ∷ xs) h t y.peer (subst (λ n. ClosedWith (e ∷ p) a n y.peer) number c)
      | inr c ↦ absurd (let both : Drops ≡ Puts = sym old.part_is ∙ c.0 in cc)
    ]

    -- where it orders it asks
    order_asks : OrderStands turn → A v.phase v.phase
    order_asks (inl at) = subst (A v.phase) (sym at.0) tt
    order_asks (inr (inl at)) = subst (A v.phase) (sym at) tt
    order_asks (inr (inr at)) = subst (A v.phase) (sym at) tt

    -- ---- its first step

    module _ (fresh : v.phase ≡ Fresh) where
      begun : AsBegun reads_back run repos past b a j what z h0 side to aims others p v
      begun = as_begun reads_back run repos past b a j what z h0 side to aims others p v pp runs old fresh number what_is

      first_under : L → U (e ∷ p)
      first_under allowed = record {
        first = p;
        read = ap (λ o. option_or o (if is_of a e && (is_step j e.kind && in_drop p a j) then Some p else None)) (subst (λ n. before_step p a n ≡ None) number begun.unread) ∙ rw (own, subst (λ n. is_step n e.kind ≡ true) number st.step, in_it) refl;
        settings_is = begun.settings_is;
        allowed = allowed;
      }

      of_remote : side_of v ≡ Remote → L
      of_remote r l = absurd (not_both a what side to aims l (side_is ∙ r))

      -- a local drop puts its bar where its row lets the content go
      bar_allows : (i : ℕ) (need : Need) (key : List ℕ) → e.kind ≡ Bar i need key → IsJobEntry turn st.by.made (Bar i need key) → (present past a what.key ≡ true) × MayGo run past b.time a j a what.key
      bar_allows i need key is k = (sym begun.present_is ∙ k.there, record { free = sym begun.bar_is ∙ k.free; unheld = unheld; unrequired = unrequired })
        where
          unheld : is_blocked (holds past a) what.key (clock run.repos past a b.time) ≡ false
          unheld = sym (λ n. is_blocked (begun.holds_are n) ((k.key_is ∙ key_is) n) (begun.clock_is n (time n))) ∙ (((meets reads_back run repos p e h.1 h.0).own a own).bar_put i need key is).unheld

          unrequired : required (settings_of past a) (id_of run.repos a) what.key (s.paths j) ≡ None
          unrequired = subst (λ n. required (settings_of past a) (id_of run.repos n) what.key (s.paths j) ≡ None) (own_target a what side to aims (side_is ∙ k.side)) (sym begun.requires_is ∙ k.spared)

      -- the copy of a remote drop's own repository
      own_holds : gives_hold run.repos a a ≡ true
      own_holds = rw (eqb_refl a) refl

      not_free : Untold turn → standing_by (settings_of past a) what.key (id_of run.repos a) ≡ Asked → is_free past a what.key ≡ false
      not_free (inl unasked) asked = absurd (unasked (begun.standing_is ∙ asked))
      not_free (inr (inl gone)) asked = λ n. (sym begun.present_is ∙ gone) n && option_is_none (bar past a what.key)
      not_free (inr (inr x)) asked = barred_off (present past a what.key) (bar past a what.key) x.0 (sym begun.bar_is ∙ x.1)

      look_heard : Untold turn → Each (λ x. F x.0 x.1) (first_look a v Drops (present p a v.what.key) (bar p a v.what.key)).heard
      look_heard told = (λ off. (refl, not_free told), old.heard)

      first_step : (kind : EntryKind) → e.kind ≡ kind → IsJobEntry turn st.by.made kind → TalkKind turn st.by.made kind → Each (λ x. F x.0 x.1) (after kind).heard × S (e ∷ p) (after kind).phase
      first_step (Share hold end by key) is k tk =
          ((λ off. ((λ i. (sym begun.present_is ∙ k.there) i && option_is_none ((sym begun.bar_is ∙ k.free) i)), own_holds, time), old.heard), (first_under (of_remote k.side), tt))
      first_step (Bar i need key) is k tk = (old.heard, (first_under (λ local. bar_allows i need key is k), tt))
      first_step (Gone by key) is k tk = absurd (let bad : Fresh ≡ Next = sym fresh ∙ k.next in cc)
      first_step (Order i peer deadline need key) is k tk = absurd (subst (A v.phase) fresh (order_asks tk))
      first_step (Gain by size key) is k tk = absurd (true≢false (sym t.0.kind ∙ ap is_calm is))
      first_step (ends_job i outcome) is k tk = absurd (st.goes_on i outcome is)
      first_step (Talk (Some i)) is k tk =
          let y = tk.first old.part_is fresh in
          let talks = first_talk rows a v e i fresh old.part_is (ap (λ (q : Entry). q.taken) st.by.is ∙ y.takes_none) (ap (λ (q : Entry). q.sent) st.by.is ∙ y.sends_none) in
          let told : Untold turn = subst (FirstSays turn) (sym (ap (λ (q : Entry). q.kind) st.by.is) ∙ is) (step_first turn st.by.made old.part_is fresh st.by.does) in (
            subst (λ (g : Work). Each (λ x. F x.0 x.1) g.heard) (sym talks) (look_heard told),
            subst (S (e ∷ p)) (sym (ap (λ (g : Work). g.phase) talks ∙ first_next a v (present p a v.what.key) (bar p a v.what.key))) (first_under (of_remote y.side), tt),
          )
      first_step (Fault call by) is k tk = absurd (true≢false (sym t.0.kind ∙ ap is_calm is))
      first_step kind is k tk = absurd k

    -- ---- later steps

    module _ (later : is_fresh v.phase ≡ false) where
      was : U p × K v.phase
      was = stage_is reads_back run repos past b a j what z h0 side to aims others p v.phase later old.stage

      under : U (e ∷ p)
      under = under_kept reads_back run repos past b a j what z h0 side to aims others p e was.0

      later_heard : Each (λ x. F x.0 x.1) (after e.kind).heard
      later_heard = elim (share_or e.kind) [
        | inl k ↦ absurd (true≢false (sym (ap is_fresh (subst (IsJobEntry turn st.by.made) k.4 found).first) ∙ later))
        | inr off ↦ changed (kind_changed rows a v e (talker_is turn e.taken) e.kind off)
      ]
        where
          of_list : (list : List (ℕ × Jobs.Heard)) → (after e.kind).heard ≡ list → Each (λ x. F x.0 x.1) list → Each (λ x. F x.0 x.1) (after e.kind).heard
          of_list list same all = subst (Each (λ x. F x.0 x.1)) (sym same) all

          seen : (free holds : Bool) → free ≡ true → (free && holds) ≡ false → holds ≡ false
          seen true holds f g = g
          seen false holds f g = absurd (cc)

          changed : Changed rows a v e (after e.kind) → Each (λ x. F x.0 x.1) (after e.kind).heard
          changed (inl same) = of_list v.heard same old.heard
          changed (inr (inl o)) = absurd (true≢false (sym (ap is_fresh o.first) ∙ later))
          changed (inr (inr (inl k))) = absurd (no_shut (record { peer = k.peer; on = k.on; closed = k.shut }))
          changed (inr (inr (inr y))) = elim (y.told) [
            | inl q ↦ of_list ((q.peer, Jobs.Held q.since) ∷ v.heard) q.list
                (heard_lock reads_back run repos past b a j what z h0 side to aims xs h.1 t.1 e h.0 own st.by y.f y.takes_it Success (y.says_it ∙ ap Some q.told) refl refl what_is q.peer q.since q.phase_is refl, old.heard)
            | inr q ↦ elim (q.told) [
              | inl g ↦ (let refuses : R q.peer = subst K q.phase_is was.1 in of_list ((q.peer, Jobs.Seen) ∷ v.heard) g.1 (
                (λ off. let free = heard_look reads_back run repos past b a j what z h0 side to aims xs h.1 t.1 e h.0 own st.by y.f y.takes_it Success (y.says_it ∙ ap Some g.0) refl refl what_is q.peer q.phase_is refl off in
                    (free, seen (is_free past q.peer what.key) (gives_hold run.repos a q.peer) free (refuses off))),
                old.heard,
              ))
              | inr g ↦ of_list ((q.peer, Jobs.Unseen) ∷ v.heard) g.1
                  (heard_none reads_back run repos past b a j what z h0 side to aims xs h.1 t.1 e h.0 own st.by y.f y.takes_it Failure (y.says_it ∙ ap Some g.0) refl refl what_is q.peer q.phase_is refl, old.heard)
            ]
          ]

      -- ---- what it says and hears

      sent_is : st.by.made.sent ≡ e.sent
      sent_is = sym (ap (λ (q : Entry). q.sent) st.by.is)

      -- a look comes of a refused lock
      look_refused : (st.by.made.sent ≡ []) ⊎ SaysOne turn st.by.made.sent → (g : FrameView) (gs : List FrameView) (key : List ℕ) → e.sent ≡ g ∷ gs → line_in g.body ≡ Some (CheckPresent key) → R g.peer
      look_refused (inl none) g gs key is told = absurd (let bad : [] ≡ g ∷ gs = sym none ∙ (sent_is ∙ is) in cc)
      look_refused (inr y) g gs key is told = elim (frame_body (job_end v y.peer) (end_with turn y.peer) (y.body ∷ []) g (subst (Member g) y.sent_is among')) [
        | inl same ↦ by same
        | inr none ↦ absurd none
      ]
        where
          among' : Member g st.by.made.sent
          among' = subst (Member g) (sym (sent_is ∙ is)) (inl refl)

          by : g.body ≡ y.body → R g.peer
          by body =
              let at = body_asked turn y.peer y.body (CheckPresent key) old.part_is y.says (ap line_in (sym body) ∙ told) in
              let took = lock_looks turn y.peer at.0 at.1 old.part_is st.by.made st.by.does g key among' told in
              subst R (sym (frame_peer (job_end v y.peer) (end_with turn y.peer) (y.body ∷ []) g (subst (Member g) y.sent_is among'))) (heard_refused reads_back run repos past b a j what z h0 side to aims xs h.1 t.1 e h.0 own st.by took.f (ap (λ (q : Entry). q.taken) st.by.is ∙ took.taken_is) Failure took.told refl refl what_is y.peer at.0 at.1 refl)

      -- no version is old
      no_old : (n : ℕ) → w.phase ≡ Ends (Refused (refusals.OldProtocol n)) → ⊥
      no_old n at = told (subst (λ i. HearsMessage (e ∷ p) a i (target_in a (running_job w)) (Says (Version n))) is_it.number_is was.0) was.1
        where
          is_it : IsIt run past b a j what z a (running_job w)
          is_it = works_since run past b a j what z (e ∷ xs) t a w among

          was : HearsMessage (e ∷ p) a w.number (target_in a (running_job w)) (Says (Version n)) × (nat_lt n 3 ≡ true)
          was = subst (Stands a (e ∷ p) (running_job w)) at (stands reads_back s (e ∷ p) (own_past run repos a (e ∷ p) h) w among)

          target : target_in a (running_job w) ≡ to
          target = ap (λ (q : Job). or_own a (drop_side q.kind q.peer) q.peer) is_it.what_is ∙ (ap (λ q. or_own a q what.peer) aims.side_is ∙ aims.target_is)

          told : HearsMessage (e ∷ p) a j (target_in a (running_job w)) (Says (Version n)) → nat_lt n 3 ≡ true → ⊥
          told x small =
              let l = heard_since reads_back run repos past b a j what z h0 (e ∷ xs) h t (target_in a (running_job w)) (Says (Version n)) x in
              let own' = (and_parts (is_of a x.entry) (option_is (job_of x.entry.kind) j) x.own).0 in
              let part = part_of (set_up run) (l.ys ++ base) x.entry a l.step own' in
              let y = taker (set_up run a) (l.ys ++ base) part.words x.entry part.own x.f x.takes_it x.down in
              let k = taken_of (set_up run a) (l.ys ++ base) x.entry y x.f x.takes_it in
              let at' : k.peer ≡ to = sym (taken_peer (set_up run a) (l.ys ++ base) x.entry x.f k) ∙ (x.peer_is ∙ target) in
              let far : to ≢ a = λ same. ((meets reads_back run repos (l.ys ++ base) x.entry l.steps l.step).own a own').taken_from x.f x.takes_it (x.peer_is ∙ (target ∙ same)) in
              let n_is = version_told reads_back run repos past b a j what z h0 side to aims l.ys l.steps l.since x.entry l.step own' y x.f x.takes_it (Version n) (is_said x.f.body (Version n) x.says) refl refl n refl
              (ap (λ c. version_in (slice_get run.repos c)) at' ∙ (obeys (away a what side to aims far)).three) in
              true≢false (sym small ∙ ap (λ i. nat_lt i 3) n_is)

      -- ---- by where it comes to

      abbrev y : Work
      y = talks_on rows a (learns (claims v v.part v.phase) v.phase e.taken) e (partner v.what.peer v.phase)

      asks_no : (phase : Phase) → A v.phase v.phase → v.phase ≡ phase → (A v.phase phase → ⊥) → ⊥
      asks_no phase asks at off = off (subst (A v.phase) at asks)

      module _ (kind : EntryKind) (is : e.kind ≡ kind) (is_y : after kind ≡ y) (no_fault : (call : Call) (owner : By) → kind ≢ Fault call owner) (asks : A v.phase v.phase)
          (looks : (g : FrameView) (gs : List FrameView) (key : List ℕ) → e.sent ≡ g ∷ gs → line_in g.body ≡ Some (CheckPresent key) → R g.peer)
          (orders : (deadline : Option ℕ) (key : List ℕ) → SaysFirst e (order_of deadline key) → Suffices) where
        good : (y.part ≡ Drops) × Fits Drops y.phase × (is_fresh v.phase ≡ false → is_fresh y.phase ≡ false)
        good = drops_good v.phase y.part y.phase (subst (λ q. GoodTo q v.phase y.part y.phase) old.part_is
            (subst (λ (g : Work). GoodTo v.part v.phase g.part g.phase) (st.work_is ∙ ap after is ∙ is_y) (steps_good s p e w st fits)))

        usual : Usual (v.phase ≡ Orders) R y.phase
        usual =
            let x = learns (claims v v.part v.phase) v.phase e.taken in
            let same = readies_place v e.taken in
            on_usual (v.phase ≡ Orders) R rows a x e (partner v.what.peer v.phase) looks (same.0 ∙ old.part_is) (subst (A v.phase) (sym same.1) asks)

        by_drop : (refusal : DropRefusal) → y.phase ≡ Ends (Refused refusal) → DropReason rows a v e kind refusal → ⊥
        by_drop (refusals.Lost ordered) at r = no_shut r.0
        by_drop (refusals.OldProtocol n) at r = no_old n (ap (λ (g : Work). g.phase) (st.work_is ∙ ap after is ∙ is_y) ∙ at)
        by_drop refusals.StoreFault at r = no_fault r.1.call r.1.owner r.1.kind_is
        by_drop refusal at r = absurd r

        by_transfer : (refusal : TransferRefusal) → TransferReason rows v e kind refusal → ⊥
        by_transfer failures.Busy r = asks_no (PutsOffer r.0) asks r.2 (λ q. q)
        by_transfer failures.Closed r = absurd (let both : Drops ≡ Puts = sym old.part_is ∙ r.1 in cc)
        by_transfer failures.Rejected (peer, inl at, r) = asks_no (PutsOffer peer) asks at (λ q. q)
        by_transfer failures.Rejected (peer, inr at, r) = asks_no (PutsAnswer peer at.0) asks at.1 (λ q. q)
        by_transfer failures.StoreFault r = no_fault r.1.call r.1.owner r.1.kind_is
        by_transfer refusal r = absurd r

        by_outcome : (o : Outcome) → y.phase ≡ Ends o → OutcomeReason rows a v e kind o → Usual (v.phase ≡ Orders) R (Ends o) → ⊥
        by_outcome (Refused refusal) at r u = by_drop refusal at r
        by_outcome (TransferRefused refusal) at r u = by_transfer refusal r
        by_outcome o at r u = u

        by_phase : (phase : Phase) → y.phase ≡ phase → Reason rows a v e kind phase → Usual (v.phase ≡ Orders) R phase → Fits Drops phase → is_fresh phase ≡ false → S (e ∷ p) phase
        by_phase Fresh at r u f l = absurd (cc)
        by_phase Next at r u f l = (under, tt)
        by_phase (Opens peer) at r u f l = (under, tt)
        by_phase (Greets peer) at r u f l = (under, tt)
        by_phase (AsksLock peer since) at r u f l = (under, tt)
        by_phase (AsksLook peer) at r u f l = (under, u)
        by_phase AsksTime at r u f l = (under, side_is ∙ time_remote reads_back s p own_part.words e pp.run own_part.own w st fits r)
        by_phase Orders at r u f l = (under, (side_is ∙ order_remote reads_back s p own_part.words e pp.run own_part.own w st fits r.0 r.1 r.2, orders r.0 r.1 r.2))
        by_phase Removed at r u f l = (under, (subst K u was.1).1)
        by_phase Denied at r u f l = let remote = (subst K r.0 was.1).0 in absurd (order_heard reads_back run repos past b a j what z h0 side to aims xs h.1 t.1 e h.0 own st.by r.1.f r.1.takes_it Failure r.1.told refl refl what_is remote r.0 refl (obeys remote).may.free (obeys remote).may.unheld old.timely)
        by_phase (Late when) at r u f l = absurd (no_fault calls.Unhold r.1.0 r.1.1)
        by_phase (Ends o) at r u f l = absurd (by_outcome o at r u)
        by_phase phase at r u f l = absurd f

        talk_stage : S (e ∷ p) (after kind).phase
        talk_stage = elim (kind_reason rows a v e kind) [
          | inl same ↦ subst (S (e ∷ p)) (sym same) (stage_kept reads_back run repos past b a j what z h0 side to aims others p e v.phase later old.stage)
          | inr r ↦ subst (λ (g : Work). S (e ∷ p) g.phase) (sym is_y) (by_phase y.phase refl (subst (λ (g : Work). Reason rows a v e kind g.phase) is_y r) usual good.1 (good.2 later))
        ]

      -- a talk that says an order would be an order
      said_order : (deadline : Option ℕ) (key : List ℕ) → SaysFirst e (order_of deadline key) → (i peer : ℕ) × (need : Need) × (e.kind ≡ Order i peer deadline need key)
      said_order deadline key x =
          let y' = (((meets reads_back run repos p e h.1 h.0).own a own).sends x.f (subst (Member x.f) (sym x.sent_is) (inl refl))).order deadline key (said_is x.f.body (order_of deadline key) x.told) in
          (y'.0, x.f.peer, y'.1, y'.2)

      -- where it orders, what it knows is enough
      order_suffices : (i peer : ℕ) (deadline : Option ℕ) (need : Need) (key : List ℕ) → e.kind ≡ Order i peer deadline need key → Suffices
      order_suffices i peer deadline need key is =
          let o = order_stands_on reads_back s p own_part.words e pp own_part.own i peer deadline need key is in
          let same : o.by.w ≡ v = same_work o.by.w o.runs (stepped_since run past b a j what z xs t.1 a e o.by).number_is in
          enough_suffices reads_back run repos past b a j what z h0 side to aims p v number what_is old.heard was.0.first was.0.read was.0.settings_is (subst (λ (g : Work). knows_enough s (state_of s p) g ≡ true) same o.enough)
        where
          same_work : (x : Work) → Member x (works p a) → x.number ≡ j → x ≡ v
          same_work x m n = same_number_same_work s p pp.run x v m runs (n ∙ sym number)

      -- an order looks for nothing
      order_looks : (i peer : ℕ) (deadline : Option ℕ) (need : Need) (key : List ℕ) → GivesOrder turn i peer deadline need key st.by.made.taken st.by.made.sent → (g : FrameView) (gs : List FrameView) (k : List ℕ) → e.sent ≡ g ∷ gs → line_in g.body ≡ Some (CheckPresent k) → R g.peer
      order_looks i peer deadline need key o g gs k is told = absurd (elim (frame_body (job_end v peer) (end_with turn peer) (Line (text_of (order_of deadline key)) ∷ []) g (subst (Member g) o.sent_is (subst (Member g) (sym (sent_is ∙ is)) (inl refl)))) [
        | inl body ↦ no_look deadline (order_read s p pp st.by.look v runs st.by.made deadline o.timed (CheckPresent k)
            (ap (λ n. message_of (text_of (order_of deadline n))) (sym o.key_is) ∙ (ap line_in (sym body) ∙ told)))
        | inr none ↦ none
      ])
        where
          no_look : (d : Option ℕ) → CheckPresent k ≡ order_of d v.what.key → ⊥
          no_look None same = cc
          no_look (Some n) same = cc

      -- ---- by its kind

      later_stage : (kind : EntryKind) → e.kind ≡ kind → IsJobEntry turn st.by.made kind → TalkKind turn st.by.made kind → S (e ∷ p) (after kind).phase
      later_stage (Share hold end by key) is k tk = absurd (true≢false (sym (ap is_fresh k.first) ∙ later))
      later_stage (Bar i need key) is k tk = absurd (true≢false (sym (ap is_fresh k.first) ∙ later))
      later_stage (Gone by key) is k tk = (under, enough_suffices reads_back run repos past b a j what z h0 side to aims p v number what_is old.heard was.0.first was.0.read was.0.settings_is k.enough)
      later_stage (Order i peer deadline need key) is k tk =
          talk_stage (Order i peer deadline need key) is refl (λ call owner f. cc) (order_asks tk) (order_looks i peer deadline need key k) (λ d k' x. order_suffices i peer deadline need key is)
      later_stage (Gain by size key) is k tk = absurd (true≢false (sym t.0.kind ∙ ap is_calm is))
      later_stage (ends_job i outcome) is k tk = absurd (st.goes_on i outcome is)
      later_stage (Talk (Some i)) is k tk =
          talk_stage (Talk (Some i)) is refl (λ call owner f. cc) (asks tk) (look_refused tk.says)
          (λ d k' x. let o = said_order d k' x in let bad : Talk (Some i) ≡ Order o.0 o.1 d o.2 k' = sym is ∙ o.3 in absurd (cc))
        where
          asks : TalkKind turn st.by.made (Talk (Some i)) → A v.phase v.phase
          asks tk = elim (tk.under old.part_is) [
            | inl f ↦ absurd (true≢false (sym (ap is_fresh f) ∙ later))
            | inr going ↦ known_asks reads_back run repos past b a j what z h0 side to aims others v.phase going was.1
          ]
      later_stage (Fault call by) is k tk = absurd (true≢false (sym t.0.kind ∙ ap is_calm is))
      later_stage kind is k tk = absurd k

    -- ---- its order comes before its deadline

    timely_step : (goal : ℕ) (d : Option ℕ) (need : Need) (key : List ℕ) → e.kind ≡ Order j goal d need key → T d
    timely_step goal d need key is = by d order.timed
      where
        order : IsJobEntry turn st.by.made (Order j goal d need key)
        order = subst (IsJobEntry turn st.by.made) is found

        later : is_fresh v.phase ≡ false
        later = elim (fresh_or v.phase) [
          | inl f ↦ absurd (subst (A v.phase) f (order_asks (subst (TalkKind turn st.by.made) is talk)))
          | inr f ↦ f
        ]

        u : U p
        u = (stage_is reads_back run repos past b a j what z h0 side to aims others p v.phase later old.stage).0

        now_is : st.by.look.time ≡ b.time
        now_is = sym (ap (λ (q : Entry). q.time) st.by.is) ∙ time

        before : (x y : ℕ) → x < y → nat_lt x y ≡ true
        before x y l = grind (arith, nat_tests)

        by : (d : Option ℕ) → HasDeadline turn st.by.made.taken d → T d
        by None x n same = absurd (cc)
        by (Some deadline) x n same =
            let took : e.taken ≡ Some x.0 = ap (λ (q : Entry). q.taken) st.by.is ∙ x.1 in
            let k = taken_of s p e st.by x.0 took in
            let on : v.what.peer ≡ Some k.peer = ap (partner v.what.peer) (sym x.2) ∙ k.on in
            let at = peer_target a what side to aims (side_is ∙ order.side) k.peer (ap (λ (q : Job). q.peer) (sym what_is) ∙ on) in
            let seconds = time_told reads_back run repos past b a j what z h0 side to aims xs h.1 t.1 e h.0 own st.by x.0 took (Timestamp x.3.0) x.3.2 refl refl x.3.0 refl in
            let first_is = locks_end reads_back run repos past b a j what z h0 side to aims p v number what_is old.heard u.first u.read u.settings_is x.3.1 x.3.3 in
            before (clock run.repos past to b.time) (1000 * n) (deadline_later (clock_of turn) (clock run.repos past to b.time) x.3.1 n x.3.0
            (seconds ∙ ap (λ c. clock run.repos past c b.time / 1000) at) (first_is ∙ ap (λ c. (state_of s p).clock c + hold_time) (sym now_is)) (sym (same_Some deadline n same) ∙ x.3.5))

    part_step : (after e.kind).part ≡ Drops
    part_step = (drops_good v.phase (after e.kind).part (after e.kind).phase (subst (λ q. GoodTo q v.phase (after e.kind).part (after e.kind).phase) old.part_is
        (subst (λ (g : Work). GoodTo v.part v.phase g.part g.phase) st.work_is (steps_good s p e w st fits)))).0

    step_inv : I (e ∷ p) w
    step_inv = subst (I (e ∷ p)) (sym st.work_is) (elim (fresh_or v.phase) [
      | inl f ↦ (let y = first_step f e.kind refl found talk in record { part_is = part_step; heard = y.0; stage = y.1; timely = timely })
      | inr f ↦ record { part_is = part_step; heard = later_heard f; stage = later_stage f e.kind refl found talk; timely = timely }
    ])
      where
        timely : AreTimely reads_back run repos past b a j what z h0 side to aims others (e ∷ p)
        timely = timely_kept reads_back run repos past b a j what z h0 side to aims others p e (λ own' goal d need key is. timely_step goal d need key is) old.timely

  -- **where the job stands, at each past**
  pub walk : (xs : List Entry) → RunPast (set_up run) (xs ++ base) → Since run base xs → (w : Work) → Member w (works (xs ++ base) a) → I (xs ++ base) w
  walk [] h t w m = begin_inv reads_back run repos past b a j what z h0 side to aims others w m
  walk (e ∷ xs) h t w m = go (λ x n. walk xs h.1 t.1 x n) (is_of a e) refl
    where
      p : List Entry
      p = xs ++ base

      still : ((x : Work) → Member x (works p a) → I p x) → is_of a e ≡ true → Stays s p e w → I (e ∷ p) w
      still old own y =
          let part = part_of (set_up run) p e a h.0 own in
          elim (calm_who s p part.words e part.own t.0.kind) [
            | inl l ↦ line_inv reads_back run repos past b a j what z h0 side to aims others xs e w t own part.own.known l (old w y.ran)
            | inr g ↦ elim g [
              | inl k ↦ absurd (no_session reads_back run repos past b a j what z h0 xs h.1 t.1 e h.0 own k)
              | inr k ↦ absurd (true≢false (sym (calm_step w.number k.w.number e.kind t.0.kind (stepped_job s p e k)
                  ((stepped_since run past b a j what z xs t.1 a e k).number_is ∙ sym (works_since run past b a j what z xs t.1 a w y.ran).number_is)) ∙ y.still))
            ]
          ]

      by : ((x : Work) → Member x (works p a) → I p x) → is_of a e ≡ true → Origin s p e w → I (e ∷ p) w
      by old own (inl y) = absurd (true≢false (sym t.0.kind ∙ ap is_calm y.kind_is))
      by old own (inr (inl y)) = still old own y
      by old own (inr (inr y)) = step_inv xs e h t own w m y (old y.by.w (step_runs s p e w y))

      go : ((x : Work) → Member x (works p a) → I p x) → (d : Bool) → is_of a e ≡ d → I (e ∷ p) w
      go old true own = by old own (origin s p e (own_past run repos a (e ∷ p) h).run own w m)
      go old false off = other_inv reads_back run repos past b a j what z h0 side to aims others p e w off (old w (rw off at m))
