-- Of a drop that is to end, on a connection that is open: few frames are on the way up, or the server is past that opening.
use Rattle.std.proofs.Common.{◌≡◌, ◌≢◌, ℕ, ◌+◌, ◌≤◌, Bool, true, false, List, [], ◌∷◌, ◌++◌, Option, Some, None, ◌⊎◌, inl, inr, refl, sym, ap, ◌∙◌, subst, arith, append-nil}
use Rattle.std.specs.Prelude.{if◌then◌else◌, ◌&&◌, ◌==◌, filter, length, map, not, slice_get}
use Rattle.annex_base.specs.declared.kinds.Call.{Call}
use Rattle.annex_base.specs.Lists.{Each, Member}
use Rattle.run_data.specs.declared.entry.Entry.{Entry}
use Rattle.run_data.specs.declared.entry.EntryKind.TheVariants.{Fault, End as ends_job}
use Rattle.run_data.specs.declared.entry.FrameView.{FrameView}
use Rattle.run_data.specs.declared.job.Outcome.{Outcome}
use Rattle.run_data.specs.declared.run.Run.{Run}
use Rattle.run_data.specs.Repos.{IsSetUp}
use Rattle.node_model.specs.Calls.{to_release}
use Rattle.node_model.specs.Ends.{End, end_took, is_opening, sent_at, server_end, taken_at}
use Rattle.node_model.specs.Jobs.{Drops, Ends, Fresh, Gets, Part, Phase, Puts, Work, job_end, partner}
use Rattle.node_model.specs.JobStep.{Turn, by_me, ends, farewells, owns_share, quietly}
use Rattle.node_model.specs.Look.{Effect, failing_call, unless}
use Rattle.node_model.specs.Rows.{is_lost_ordered, option_is}
use Rattle.node_model.specs.SetUp.{SetUp}
use Rattle.node_model.specs.Slots.{RunningJob}
use Rattle.node_model.specs.Turns.{by_partner, goes, has_room, needs, outcome_of}
use Rattle.std.specs.List.{list_all}
use Rattle.run_model.specs.Frames.{MayTake, Way, flying_frame, frames_sent, taken_count, taker_of, takes}
use Rattle.run_model.specs.Past.{is_of}
use Rattle.run_model.specs.Run.{OwnRun, RunPast, RunStep, set_up}
use Rattle.run_model.specs.States.{end_at, session, works}
use Rattle.step_facts.proofs.Below.{SentAreRead}
use Rattle.step_facts.proofs.ClientCounts.{IsLive}
use Rattle.step_facts.proofs.ClientTurns.{made_entry, rows_of}
use Rattle.step_facts.proofs.EndEpochs.{end_grows}
use Rattle.step_facts.proofs.EndMoves.{end_own, may_epoch, sends_all}
use Rattle.step_facts.proofs.JobKept.{kind_kept}
use Rattle.step_facts.proofs.JobSteps.{Stepped, stepped_found, stepped_runs, turn_at}
use Rattle.step_facts.proofs.Plain.{option_same}
use Rattle.past_facts.proofs.OwnRuns.{own_past, part_of}
use Rattle.job_facts.proofs.Dialogue
use Rattle.job_facts.proofs.Dialogue.{kept, rests, stands_at}
use Rattle.job_facts.proofs.OpenEnds.{open_runs}
use Rattle.job_facts.proofs.OwnTried.{other_apart}
use Rattle.job_facts.proofs.PhaseFacts.{GoodTo}
use Rattle.job_facts.proofs.TalkFacts.{Fits}
use Rattle.job_facts.proofs.WorkFits.{steps_good, works_fit}
use Rattle.dialogue_facts.proofs.ClientDoes.{Moved, Quiet, client_does}
use Rattle.dialogue_facts.proofs.DialogueTurns.{ClosesFor, rests_at}
use Rattle.dialogue_facts.proofs.Greeted.{partner_takes}
use Rattle.run_laws.proofs.SessionOwn.{way_at}
use Rattle.cause_laws.proofs.ConversationClient
use Rattle.cause_laws.proofs.ConversationClient.{Conversation}
use Rattle.cause_laws.proofs.ConversationServer.{Where, down_way, up_way}
use Rattle.cause_laws.proofs.Conversations.{conversing}
use Rattle.cause_laws.proofs.Epochs.{client_end, not_both}
use Rattle.cause_laws.proofs.Queues.{Queue}
use Rattle.driver_model.specs.Ways.{IsOver}
use Rattle.rest_laws.proofs.Closings.{over_stays}
use Rattle.rest_laws.proofs.Openings
use Rattle.rest_laws.proofs.Openings.{down_plain}
use Rattle.rest_laws.proofs.Queued.{empty_next, sent_length, shut_over}
use Rattle.rest_laws.proofs.Quieted.{drop_awaits, live_or, quieted}
use Rattle.rest_laws.proofs.Short.{few_up}

-- the client's end, the server's, how many frames the client sent in each opening and how many the server took
abbrev pub FewAt : End → End → (ℕ → ℕ) → (ℕ → ℕ) → Type 0
FewAt a b sent taken = IsOver b a.epoch ⊎ ((a.epoch ≤ b.epoch) × (sent a.epoch ≤ taken a.epoch + 4))

abbrev pub Few : List Entry → ℕ → ℕ → ℕ → Type 0
Few past c p q = FewAt (end_at past c (client_end p q)) (end_at past p (server_end c q)) (λ n. length (frames_sent past (up_way c p q n))) (λ n. taken_count past (up_way c p q n))

few_grows : (a a' b b' : End) (sent sent' taken taken' : ℕ → ℕ) → a'.epoch ≡ a.epoch → ((n : ℕ) → IsOver b n → IsOver b' n) → b.epoch ≤ b'.epoch → ((n : ℕ) → sent' n ≡ sent n) → ((n : ℕ) → taken n ≤ taken' n)
    → FewAt a b sent taken → FewAt a' b' sent' taken'
few_grows a a' b b' sent sent' taken taken' same over up still count (inl o) = inl (subst (IsOver b') (sym same) (over a.epoch o))
few_grows a a' b b' sent sent' taken taken' same over up still count (inr x) =
    let i : sent' a'.epoch ≡ sent a.epoch = still a'.epoch ∙ ap sent same in
    let j : taken a.epoch ≤ taken' a'.epoch = subst (λ n. taken a.epoch ≤ taken' n) (sym same) (count a.epoch) in
    let k = x.0 in
    let l = x.1 in
    inr (subst (λ n. n ≤ b'.epoch) (sym same) (omega (arith, k, up)), omega (arith, i, j, l))

count_up : (past : List Entry) (e : Entry) (w : Way) → taken_count past w ≤ taken_count (e ∷ past) w
count_up past e w = go (is_of (taker_of w) e && takes w e.taken)
  where
    go : (t : Bool) → taken_count past w ≤ (if t then taken_count past w + 1 else taken_count past w)
    go true = omega arith
    go false = omega arith

-- a job that is to end only meets a fault
ends_fault : (t : Turn) (o : Outcome) (m : Effect) → ends t None o ≡ m → ((j : ℕ) (outcome : Outcome) → m.kind ≢ ends_job j outcome) → (m.taken ≡ None) × (m.sent ≡ [])
ends_fault t o m is goes = (ap (λ (z : Effect). z.taken) (sym is) ∙ (two (failing_call t.look.fails cs) on).0, ap (λ (z : Effect). z.sent) (sym is) ∙ (two (failing_call t.look.fails cs) on).1)
  where
    cs : List Call
    cs = to_release (owns_share t && not (is_lost_ordered o))

    made : Effect
    made = record { kind = ends_job t.w.number o; taken = None; sent = farewells t (is_lost_ordered o); lines = []; calls = [] }

    done : Option Call → Effect
    done f = unless f (λ call. quietly (Fault call (by_me t)) None) made

    on : (j : ℕ) (outcome : Outcome) → (done (failing_call t.look.fails cs)).kind ≢ ends_job j outcome
    on j outcome k = goes j outcome (ap (λ (z : Effect). z.kind) (sym is) ∙ k)

    two : (f : Option Call) → ((j : ℕ) (outcome : Outcome) → (done f).kind ≢ ends_job j outcome) → ((done f).taken ≡ None) × ((done f).sent ≡ [])
    two None n = absurd (n t.w.number o refl)
    two (Some call) n = (refl, refl)

-- a job that is to end so was a drop
was_drop : (part : Part) (old : Phase) (to : Part) (phase : Phase) (o : Outcome) → GoodTo part old to phase → to ≡ Drops → phase ≡ Ends o → part ≡ Drops
was_drop Drops old to phase o good is dead = refl
was_drop Gets old Drops phase o good is dead = absurd (let no' : Fresh ≡ Ends o = sym good ∙ dead in cc)
was_drop Puts old Drops phase o good is dead = absurd (let no' : Fresh ≡ Ends o = sym good ∙ dead in cc)
was_drop Gets old Gets phase o good is dead = absurd (cc)
was_drop Gets old Puts phase o good is dead = absurd (cc)
was_drop Puts old Gets phase o good is dead = absurd (cc)
was_drop Puts old Puts phase o good is dead = absurd (cc)

module _ (reads_back : SentAreRead) (run : Run) (repos : Each IsSetUp run.repos) where
  -- ---- an entry of another

  few_other : (past : List Entry) (e : Entry) → RunPast (set_up run) past → RunStep (set_up run) past e → (c p q : ℕ) → is_of c e ≡ false → Few past c p q → Few (e ∷ past) c p q
  few_other past e h step c p q off few = few_grows (end_at past c (client_end p q)) (end_at (e ∷ past) c (client_end p q)) (end_at past p (server_end c q)) (end_at (e ∷ past) p (server_end c q))
      (λ n. length (frames_sent past (up_way c p q n))) (λ n. length (frames_sent (e ∷ past) (up_way c p q n))) (λ n. taken_count past (up_way c p q n)) (λ n. taken_count (e ∷ past) (up_way c p q n))
      (let same : end_at (e ∷ past) c (client_end p q) ≡ end_at past c (client_end p q) = rw off refl in ap (λ (z : End). z.epoch) same)
      (λ n. over (is_of p e) refl n) (grows (is_of p e) refl)
      (λ n. let same : frames_sent (e ∷ past) (up_way c p q n) ≡ frames_sent past (up_way c p q n) = rw off refl in ap length same)
      (λ n. count_up past e (up_way c p q n)) few
    where
      still : is_of p e ≡ false → end_at (e ∷ past) p (server_end c q) ≡ end_at past p (server_end c q)
      still no' = rw no' refl

      over : (t : Bool) → is_of p e ≡ t → (n : ℕ) → IsOver (end_at past p (server_end c q)) n → IsOver (end_at (e ∷ past) p (server_end c q)) n
      over true own n o = over_stays reads_back run repos c p q past e h step own n o
      over false no' n o = subst (λ (z : End). IsOver z n) (sym (still no')) o

      grows : (t : Bool) → is_of p e ≡ t → (end_at past p (server_end c q)).epoch ≤ (end_at (e ∷ past) p (server_end c q)).epoch
      grows true own = let part = part_of (set_up run) past e p step own in end_grows (set_up run p) past part.words e part.own own (server_end c q)
      grows false no' = subst (λ (z : End). (end_at past p (server_end c q)).epoch ≤ z.epoch) (sym (still no')) (omega arith)

  -- ---- an entry of the client that sends nothing there

  few_own : (past : List Entry) (e : Entry) (c p q : ℕ) → is_of c e ≡ true → is_of p e ≡ false → (end_at (e ∷ past) c (client_end p q)).epoch ≡ (end_at past c (client_end p q)).epoch → sent_at (client_end p q) e.sent ≡ [] → Few past c p q → Few (e ∷ past) c p q
  few_own past e c p q own off same none few = few_grows (end_at past c (client_end p q)) (end_at (e ∷ past) c (client_end p q)) (end_at past p (server_end c q)) (end_at (e ∷ past) p (server_end c q))
      (λ n. length (frames_sent past (up_way c p q n))) (λ n. length (frames_sent (e ∷ past) (up_way c p q n))) (λ n. taken_count past (up_way c p q n)) (λ n. taken_count (e ∷ past) (up_way c p q n))
      same (λ n o. subst (λ (z : End). IsOver z n) (sym still) o) (subst (λ (z : End). (end_at past p (server_end c q)).epoch ≤ z.epoch) (sym still) (omega arith))
      (λ n. ap length (Openings.sent_own reads_back run repos c p q past e n own ∙ (ap (λ (gs : List FrameView). frames_sent past (up_way c p q n) ++ map (flying_frame e past) (filter (λ g. g.epoch == n) gs)) none ∙ append-nil (frames_sent past (up_way c p q n)))))
      (λ n. count_up past e (up_way c p q n)) few
    where
      still : end_at (e ∷ past) p (server_end c q) ≡ end_at past p (server_end c q)
      still = rw off refl

  -- ---- as it comes to its end

  module _ (past : List Entry) (e : Entry) (h : RunPast (set_up run) past) (step : RunStep (set_up run) past e) (c : ℕ) (own : is_of c e ≡ true) (y : Stepped (set_up run c) past e) (p : ℕ)
      (part : y.w.part ≡ Drops) (opened : (end_at past c (client_end p y.w.slot)).opened ≡ true) where
    abbrev s : SetUp
    s = set_up run c

    abbrev t : Turn
    t = turn_at (set_up run c) past e y

    abbrev w : Work
    w = y.w

    abbrev n : ℕ
    n = (end_at past c (client_end p y.w.slot)).epoch

    fits : Fits Drops y.w.phase
    fits = subst (λ z. Fits z y.w.phase) part (works_fit (set_up run c) past (own_past run repos c past h).run y.w (stepped_runs (set_up run c) past e y))

    few_talk : Conversation past c p y.w → Few past c p y.w.slot
    few_talk x = go x.there
      where
        -- it is to be opened: then the job awaits that, and takes nothing yet
        unopened : stands_at w p ≡ Dialogue.AtOpen → Queue past (down_way c p w.slot n) x.down → x.down ≡ [] → ⊥
        unopened at que none = by (option_is (partner w.what.peer w.phase) p) refl
          where
            resting : (k : Bool) → rests k ≡ Dialogue.AtOpen → ⊥
            resting true z = cc
            resting false z = cc

            by : (b : Bool) → option_is (partner w.what.peer w.phase) p ≡ b → ⊥
            by false off = resting (kept w p) (sym (rests_at w.what.peer w.phase (kept w p) p off) ∙ at)
            by true is =
                let on : partner w.what.peer w.phase ≡ Some p = option_same (partner w.what.peer w.phase) p is in
                let k = partner_takes t y.made p on (drop_awaits w.what.peer w.phase p fits on) opened y.does in
                let all = part_of (set_up run) past e c step own in
                let took : e.taken ≡ Some k.f = ap (λ (z : Entry). z.taken) y.is ∙ k.taken_is in
                let m = subst (λ (v : Way). MayTake past v k.f) (way_at c (client_end p w.slot) k.f k.of_end) (all.frames.takes k.f took) in
                let plain : is_opening k.f.body ≡ false = down_plain reads_back run repos c p w.slot past h k.f.epoch k.f m in
                let at_n : k.f.epoch ≡ n = (may_epoch (end_at past c (client_end p w.slot)) k.f plain k.may).1 in
                empty_next past (down_way c p w.slot n) m.it (subst (Queue past (down_way c p w.slot n)) none que) (subst (λ j. slice_get (frames_sent past (down_way c p w.slot j)) (taken_count past (down_way c p w.slot j)) ≡ Some m.it) at_n m.next)

        go : Where past c p w.slot n (end_at past p (server_end c w.slot)) (session past p (server_end c w.slot)) (stands_at w p) x.z x.up x.down → Few past c p w.slot
        go (inl u) = absurd (unopened u.at_open u.down_queue u.nothing)
        go (inr (inl u)) =
            let i = u.epoch_is in
            let l = sent_length past (up_way c p w.slot n) x.up u.up_queue in
            let f = few_up w.what.peer w.phase (kept w p) p fits x.z x.up x.down x.talk in
            inr (omega (arith, i), omega (arith, l, f))
        go (inr (inr u)) = inl (shut_over reads_back run repos c p w.slot past h n x.down u)

  -- ---- over a run

  run_of : (c : ℕ) (past : List Entry) → RunPast (set_up run) past → OwnRun (set_up run c) past
  run_of c past h = (own_past run repos c past h).run

  abbrev pub FewEnds : List Entry → ℕ → Type 0
  FewEnds past c = (w : Work) → Member w (works past c) → w.part ≡ Drops → (o : Outcome) → w.phase ≡ Ends o → (p : ℕ) → (end_at past c (client_end p w.slot)).opened ≡ true → Few past c p w.slot

  module _ (past : List Entry) (e : Entry) (h : RunPast (set_up run) past) (step : RunStep (set_up run) past e) (c : ℕ) (own : is_of c e ≡ true) (was : FewEnds past c) where
    abbrev sc : SetUp
    sc = set_up run c

    module _ (x : Work) (part : x.part ≡ Drops) (o : Outcome) (dead : x.phase ≡ Ends o) (p : ℕ) (off : is_of p e ≡ false) (now : (end_at (e ∷ past) c (client_end p x.slot)).opened ≡ true) where
      quiet_few : Quiet sc past e x (job_end x p) → Few (e ∷ past) c p x.slot
      quiet_few q = few_own past e c p x.slot own off (ap (λ (z : End). z.epoch) q.same) q.sends_none (was x q.ran part o dead p (ap (λ (z : End). z.opened) (sym q.same) ∙ now))

      module _ (v : Moved sc past e x) where
        abbrev y : Stepped sc past e
        y = v.by

        abbrev t0 : Turn
        t0 = turn_at sc past e v.by

        slot_is : x.slot ≡ y.w.slot
        slot_is = ap (λ (z : Work). z.slot) v.work_is ∙ ap (λ (j : RunningJob). j.slot) (kind_kept (rows_of t0) c y.w (made_entry t0 y.made) y.made.kind)

        runs : Member y.w (works past c)
        runs = stepped_runs sc past e y

        part_was : y.w.part ≡ Drops
        part_was = elim (v.stood) [
          | inl same ↦ ap (λ (z : Work). z.part) same ∙ part
          | inr b ↦ (let good = steps_good sc past e x b.0 (works_fit sc past (run_of c past h) b.0.by.w (stepped_runs sc past e b.0.by)) in
              subst (λ (z : Stepped sc past e). z.w.part ≡ Drops) b.1 (was_drop b.0.by.w.part b.0.by.w.phase x.part x.phase o good part dead))
        ]

        now_y : (end_at (e ∷ past) c (client_end p y.w.slot)).opened ≡ true
        now_y = subst (λ q. (end_at (e ∷ past) c (client_end p q)).opened ≡ true) slot_is now

        -- where it sends nothing, its end is as it was but for what it took
        module _ (none : y.made.sent ≡ []) where
          silent : sent_at (client_end p y.w.slot) e.sent ≡ []
          silent = ap (λ (z : Entry). sent_at (client_end p y.w.slot) z.sent) y.is ∙ ap (sent_at (client_end p y.w.slot)) none

          after : end_at (e ∷ past) c (client_end p y.w.slot) ≡ end_took (end_at past c (client_end p y.w.slot)) (taken_at (client_end p y.w.slot) e.taken)
          after = end_own c past (client_end p y.w.slot) e own ∙ ap (sends_all (end_took (end_at past c (client_end p y.w.slot)) (taken_at (client_end p y.w.slot) e.taken))) silent

          between : Openings.Between reads_back run repos c p y.w.slot past e h step own
          between = Openings.between reads_back run repos c p y.w.slot past e h step own

          epoch_same : (end_at (e ∷ past) c (client_end p y.w.slot)).epoch ≡ (end_at past c (client_end p y.w.slot)).epoch
          epoch_same = ap (λ (z : End). z.epoch) after ∙ between.epoch_is

          opened_was : (end_at past c (client_end p y.w.slot)).opened ≡ true
          opened_was = between.opened (sym (ap (λ (z : End). z.opened) after) ∙ now_y)

          few_after : Few past c p y.w.slot → Few (e ∷ past) c p x.slot
          few_after few = subst (λ q. Few (e ∷ past) c p q) (sym slot_is) (few_own past e c p y.w.slot own off epoch_same silent few)

        ended : (o' : Outcome) → y.w.phase ≡ Ends o' → Few (e ∷ past) c p x.slot
        ended o' is = few_after none.1 (was y.w runs part_was o' is p (opened_was none.1))
          where
            at : by_partner t0 None ≡ Some y.made
            at = subst (λ (z : Option ℕ). by_partner t0 z ≡ Some y.made) (ap (partner y.w.what.peer) is) y.does

            made : goes t0 y.w.phase ≡ y.made
            made = go (list_all (has_room t0) (needs t0 y.w.phase)) at
              where
                go : (b : Bool) → (if b then Some (goes t0 y.w.phase) else None) ≡ Some y.made → goes t0 y.w.phase ≡ y.made
                go true k = cc
                go false k = absurd (cc)

            none : (y.made.taken ≡ None) × (y.made.sent ≡ [])
            none = ends_fault t0 (outcome_of t0 (Ends o')) y.made (ap (goes t0) (sym is) ∙ made) v.goes_on

        lived : IsLive y.w.phase → Few (e ∷ past) c p x.slot
        lived live = few_after none (few_talk past e h step c own y p part_was (opened_was none) (conversing reads_back run repos past h c y.w runs p live (opened_was none)))
          where
            fits : Fits Drops y.w.phase
            fits = subst (λ z. Fits z y.w.phase) part_was (works_fit sc past (run_of c past h) y.w runs)

            closes : ClosesFor t0 y.made
            closes = (ConversationClient.keeps reads_back run repos past e h step c own (conversing reads_back run repos past h c) y v.goes_on).1

            none : y.made.sent ≡ []
            none = quieted t0 y.made part_was fits live y.does closes o y.made.kind (stepped_found sc past e y).found v.goes_on (sym (ap (λ (z : Work). z.phase) v.work_is) ∙ dead)

        moved_few : Few (e ∷ past) c p x.slot
        moved_few = elim (live_or y.w.phase) [ inl live ↦ lived live | inr z ↦ ended z.0 z.1 ]

    own_few : FewEnds (e ∷ past) c
    own_few x m part o dead p now = elim (client_does reads_back sc past e run_now own x p now m) [
      | inl q ↦ quiet_few x part o dead p off now q
      | inr v ↦ moved_few x part o dead p off now v
    ]
      where
        run_now : OwnRun sc (e ∷ past)
        run_now = run_of c (e ∷ past) (step, h)

        p_other : p ≢ c
        p_other = other_apart sc p (open_runs reads_back sc (e ∷ past) run_now (job_end x p) refl now).peer

        off : is_of p e ≡ false
        off = not_both e.repo c p own (λ same. p_other (sym same))

  -- **few frames of a drop that is to end are on the way up**
  pub few_ends : (past : List Entry) → RunPast (set_up run) past → (c : ℕ) → FewEnds past c
  few_ends [] h c = λ w m part o dead p opened. absurd m
  few_ends (e ∷ past) h c = go (few_ends past h.1 c) (is_of c e) refl
    where
      go : FewEnds past c → (b : Bool) → is_of c e ≡ b → FewEnds (e ∷ past) c
      go was true own = own_few past e h.1 h.0 c own was
      go was false other = λ w m part o dead p opened. few_other past e h.1 h.0 c p w.slot other (was w (rw other at m) part o dead p (rw other at opened))
