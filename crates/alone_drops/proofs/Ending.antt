-- How a drop ends that ran alone: done exactly where enough is offered, and the row of a local one lets the content go.
use Rattle.std.specs.Prelude.{if◌then◌else◌, ◌==◌, filter, length, nat_lt, slice_get}
use Rattle.std.specs.List.{list_all}
use Rattle.std.proofs.Common.{◌≡◌, ℕ, suc, zero, ◌+◌, ◌<◌, ◌≤◌, Bool, true, false, List, [], ◌∷◌, ◌++◌, Option, Some, None, inl, inr, refl, sym, ap, ◌∙◌, subst, arith, add-one}
use Rattle.std.proofs.lemmas.Bool.{true≢false, eqb-true}
use Rattle.std.proofs.lemmas.Bool.Decides.{nat_tests}
use Rattle.std.proofs.lemmas.Option.{slice_get_within}
use Rattle.annex_base.specs.Lists.{Each, Member}
use Rattle.annex_base.specs.declared.kinds.Call.{Call}
use Rattle.annex_base.specs.declared.kinds.Call.TheVariants as calls
use Rattle.annex_base.specs.declared.kinds.Word.{Word}
use Rattle.annex_base.specs.declared.kinds.Word.TheVariants as words
use Rattle.annex_base.proofs.Conditions.{if_either}
use Rattle.annex_base.proofs.Lists.{filter_none, list_any_nowhere}
use Rattle.drop_proof.specs.declared.rule.Side.{Side}
use Rattle.drop_proof.specs.declared.rule.Side.TheVariants.{Local, Remote}
use Rattle.run_data.specs.declared.entry.Entry.{Entry}
use Rattle.run_data.specs.declared.entry.EntryKind.{EntryKind}
use Rattle.run_data.specs.declared.entry.EntryKind.TheVariants.{End as ends_job}
use Rattle.run_data.specs.declared.entry.FrameView.{FrameView}
use Rattle.run_data.specs.declared.entry.FrameText.TheVariants.{Opening}
use Rattle.run_data.specs.declared.job.Job.{Job}
use Rattle.run_data.specs.declared.job.Outcome.{Outcome}
use Rattle.run_data.specs.declared.job.Outcome.TheVariants.{Got, Copied, Refused, TransferRefused}
use Rattle.run_data.specs.declared.job.DropRefusal.{DropRefusal}
use Rattle.run_data.specs.declared.job.DropRefusal.TheVariants as refusals
use Rattle.run_data.specs.declared.job.TransferRefusal.TheVariants as failures
use Rattle.run_data.specs.declared.row.Hold.{Hold}
use Rattle.run_data.specs.declared.run.Run.{Run}
use Rattle.run_data.specs.Repos.{IsSetUp}
use Rattle.run_data.specs.declared.job.Proof.{Proof}
use Rattle.p2p_wire.specs.declared.message.Message.TheVariants.{GetTimestamp}
use Rattle.node_model.specs.Clocks.{hold_time}
use Rattle.node_model.specs.DropStep.{asks_copy, asks_lock, asks_target, expiry, first_end, in_time, target, until, removal_outcome}
use Rattle.node_model.specs.Found.{FindsOutcome}
use Rattle.node_model.specs.Jobs.{Drops, Gets, Puts, Phase, Fresh, Next, Opens, Greets, AsksLock, AsksLook, Removed, Work, drop_side, partner, running_job, side_of, or_own, AsksTime, Orders}
use Rattle.node_model.specs.JobStep.{Turn, attempts, clock_of, end_with, ends, farewells, quietly, says_to, sends_to, talk}
use Rattle.node_model.specs.Knows.{causes_by, enough_by, next_by, proof_by, obeyed_outcome}
use Rattle.node_model.specs.Look.{Effect}
use Rattle.node_model.specs.Requests.{asks, goes_to}
use Rattle.node_model.specs.Rows.{blocks, is_blocked, is_lost_ordered}
use Rattle.node_model.specs.SetUp.{SetUp}
use Rattle.node_model.specs.Turns.{by_partner, goes, has_room, judges, needs, next_step, outcome_of}
use Rattle.node_model.specs.AnyTime.{IsPeer}
use Rattle.run_model.specs.Past.{clock, holds, is_of, present}
use Rattle.run_model.specs.Run.{IsRun, RunPast, RunStep, set_up, job_paths}
use Rattle.run_model.specs.Safety.{past_at}
use Rattle.run_model.specs.States.{works}
use Rattle.step_facts.proofs.Below.{SentAreRead}
use Rattle.step_facts.proofs.ClientSteps.{attempts_even}
use Rattle.step_facts.proofs.JobSteps.{turn_at}
use Rattle.step_facts.proofs.JobKept.{jobs_are}
use Rattle.step_facts.proofs.WorkNumbers.{running_member}
use Rattle.past_facts.proofs.EntryPlaces.{past_next, there_or_end}
use Rattle.past_facts.proofs.OwnRuns.{Part, own_past, part_of}
use Rattle.past_facts.proofs.PlaceParts.{steps_at}
use Rattle.job_facts.proofs.PhaseFacts.{is_fresh}
use Rattle.dialogue_facts.proofs.NotClosed.{AtRest, NotKind, rest_not}
use Rattle.cause_laws.proofs.RefusalCauses.{Ending, ending}
use Rattle.alone_drops.specs.Alone.{IsUndisturbing, MayGo, RanAlone, is_done}
use Rattle.alone_drops.specs.Offers.{OffersSuffice}
use Rattle.alone_drops.proofs.Since.{Beginning, IsIt, Since, works_since}
use Rattle.alone_drops.proofs.Ends.{quietly as begun_quietly}
use Rattle.alone_drops.proofs.Sides.{Aims, has_peer, own_target}
use Rattle.alone_drops.proofs.Rows.{now_since, own_time}
use Rattle.alone_drops.proofs.Weighs.{locks_end, never_lacks}
use Rattle.alone_drops.proofs.Stages.{Allowed, AsBegun, Inv, Obeys, OthersChangeNothing, Stage, Under, as_begun, stage_is}
use Rattle.alone_drops.proofs.Gains.{Alone, all_calm}
use Rattle.alone_drops.proofs.Walk.{walk}

-- ---- a drop that goes on doesn't end as a transfer

abbrev NoTransfer : EntryKind → Type 0
NoTransfer (ends_job j (TransferRefused refusal)) = ⊥
NoTransfer kind = Unit {0}

abbrev Drop' : Effect → Type 0
Drop' m = NoTransfer m.kind

attempts_drop : (t : Turn) (cs : List Call) (taken : Option FrameView) (m : Effect) → Drop' m → Drop' (attempts t cs taken m)
attempts_drop t cs taken m good = attempts_even Drop' t cs taken m (λ call e. tt) good

ends_drop : (t : Turn) (refusal : DropRefusal) → Drop' (ends t None (Refused refusal))
ends_drop t refusal = attempts_drop t _ None (record { kind = ends_job t.w.number (Refused refusal); taken = None; sent = farewells t (is_lost_ordered (Refused refusal)); lines = []; calls = [] }) tt

target_drop : (t : Turn) (version : ℕ) (taken : Option FrameView) (end : Option ℕ) → Drop' (asks_target t version taken end)
target_drop t version taken None = tt
target_drop t version taken (Some end) = if_either Drop' (nat_lt version 3) (quietly (talk t) taken) (says_to t (talk t) taken (target t) GetTimestamp) (λ e. tt) (λ e. tt)

copy_drop : (t : Turn) (version : ℕ) (taken : Option FrameView) (peer : ℕ) (side : Side) → Drop' (asks_copy t version taken peer side)
copy_drop t version taken peer Local = tt
copy_drop t version taken peer Remote = if_either Drop' (target t == peer) (asks_target t version taken (first_end t)) (asks_lock t taken peer) (λ e. target_drop t version taken (first_end t)) (λ e. tt)

goes_drop : (t : Turn) (peer : ℕ) → t.w.part ≡ Drops → Drop' (goes_to t peer)
goes_drop t peer part = if_either Drop' (end_with t peer).opened (asks t t.w.version None peer t.w.part) (sends_to t (talk t) None peer (Opening ∷ []))
    (λ e. subst (λ q. Drop' (asks t t.w.version None peer q)) (sym part) (copy_drop t t.w.version None peer (side_of t.w))) (λ e. tt)

expired_drop : (t : Turn) (clk : ℕ) (end : Option ℕ) → Drop' (ends t None (expiry clk end))
expired_drop t clk None = ends_drop t (refusals.Expired 0 clk)
expired_drop t clk (Some end) = ends_drop t (refusals.Expired end clk)

judges_drop : (t : Turn) → t.w.part ≡ Drops → (enough : Bool) (next : Option ℕ) (side : Side) → Drop' (judges t enough next side)
judges_drop t part false (Some peer) side = goes_drop t peer part
judges_drop t part false None side = ends_drop t (refusals.Lacking (proof_by t.read t.w) (causes_by t.read t.look.words t.w))
judges_drop t part true next Local = if_either Drop' (in_time (clock_of t) (first_end t)) (attempts t (calls.Remove ∷ []) None (quietly _ None)) (ends t None (expiry (clock_of t) (first_end t)))
    (λ e. attempts_drop t (calls.Remove ∷ []) None (quietly _ None) tt) (λ e. expired_drop t (clock_of t) (first_end t))
judges_drop t part true next Remote = goes_drop t (target t) part

next_drop : (t : Turn) (m : Effect) → t.w.phase ≡ Next → t.w.part ≡ Drops → by_partner t (partner t.w.what.peer t.w.phase) ≡ Some m → NoTransfer m.kind
next_drop t m is part e = go (list_all (has_room t) (needs t t.w.phase)) (subst (λ (p : Option ℕ). by_partner t p ≡ Some m) (ap (partner t.w.what.peer) is) e)
  where
    go : (d : Bool) → (if d then Some (goes t t.w.phase) else None) ≡ Some m → NoTransfer m.kind
    go true g =
        let made : goes t t.w.phase ≡ m = cc in
        subst Drop' (sym (ap (goes t) is) ∙ made) (subst (λ q. Drop' (next_step t q)) (sym part) (judges_drop t part (enough_by t.read t.w) (next_by t.read t.w) (side_of t.w)))
    go false g = absurd (cc)

-- ---- a removal, and the row

obeyed_done : (word : Option Word) (proof : Proof) → is_done (obeyed_outcome word proof) ≡ true
obeyed_done (Some words.Absent) proof = refl
obeyed_done word proof = refl

removed_done : (side : Side) (t : Turn) → is_done (removal_outcome side t) ≡ true
removed_done Local t = refl
removed_done Remote t = obeyed_done (t.look.words (target t)) (proof_by t.read t.w)

unheld_until : (key : List ℕ) (c : ℕ) (hs : List Hold) (end : Option ℕ) → is_blocked hs key c ≡ false → until (filter (blocks key c) hs) ≡ Some end → ⊥
unheld_until key c hs end none e = let both : None ≡ Some end = sym (ap until (filter_none (blocks key c) hs (list_any_nowhere (blocks key c) hs none))) ∙ e in cc

module _ (reads_back : SentAreRead) (run : Run) (repos : Each IsSetUp run.repos) (past : List Entry) (b : Entry) (a j : ℕ) (what : Job) (z : Beginning run past b a j what) (h0 : RunPast (set_up run) (b ∷ past)) (side : Side) (to : ℕ) (aims : Aims a what side to) (others : OthersChangeNothing)
    (obeys : side ≡ Remote → Obeys run past b.time a j to what.key)
    (xs : List Entry) (h : RunPast (set_up run) (xs ++ b ∷ past)) (t : Since run (b ∷ past) xs) (e : Entry) (step : RunStep (set_up run) (xs ++ b ∷ past) e) (own : is_of a e ≡ true) (outcome : Outcome) (is : e.kind ≡ ends_job j outcome) where
  abbrev base : List Entry
  base = b ∷ past

  abbrev p : List Entry
  p = xs ++ base

  abbrev s : SetUp
  s = set_up run a

  abbrev S : List Entry → Phase → Type 0
  S = Stage reads_back run repos past b a j what z h0 side to aims others

  abbrev U : Type 0
  U = Under reads_back run repos past b a j what z h0 side to aims others p

  abbrev Suffices : Type 0
  Suffices = OffersSuffice side run.repos (job_paths run a j) past a to what.key

  abbrev part : Part (set_up run) p a e
  part = part_of (set_up run) p e a step own

  abbrev x : Ending s p e j outcome
  x = ending s p part.words e part.own j outcome is

  abbrev w : Work
  w = x.by.w

  abbrev turn : Turn
  turn = turn_at s p e x.by

  inv : Inv reads_back run repos past b a j what z h0 side to aims others p w
  inv = walk reads_back run repos past b a j what z h0 side to aims others obeys xs h t w x.runs

  it : IsIt run past b a j what z a (running_job w)
  it = works_since run past b a j what z xs t a w x.runs

  what_is : w.what ≡ what
  what_is = it.what_is

  number : w.number ≡ j
  number = it.number_is

  side_is : side_of w ≡ side
  side_is = ap (λ (q : Job). drop_side q.kind q.peer) what_is ∙ aims.side_is

  made : x.by.made.kind ≡ ends_job j outcome
  made = sym (ap (λ (q : Entry). q.kind) x.by.is) ∙ is

  time : x.by.look.time ≡ b.time
  time = sym (ap (λ (q : Entry). q.time) x.by.is) ∙ (own_time (set_up run) p e a step own ∙ now_since reads_back run repos past b a j what z h0 xs h t)

  key_is : w.what.key ≡ what.key
  key_is = ap (λ (q : Job). q.key) what_is

  begun : w.phase ≡ Fresh → AsBegun reads_back run repos past b a j what z h0 side to aims others p w
  begun fresh = as_begun reads_back run repos past b a j what z h0 side to aims others p w (own_past run repos a p h) x.runs inv fresh number what_is

  under : (phase : Phase) → is_fresh phase ≡ false → w.phase ≡ phase → U
  under phase later at = (stage_is reads_back run repos past b a j what z h0 side to aims others p phase later (subst (S p) at inv.stage)).0

  -- a remote drop has a partner at its target
  aimed : side ≡ Remote → w.what.peer ≡ None → ⊥
  aimed remote none = has_peer a what side to aims remote (ap (λ (q : Job). q.peer) (sym what_is) ∙ none)

  -- ---- where it is to be done

  module _ (there : side ≡ Local → present past a what.key ≡ true) (may : MayGo run past b.time a j to what.key) (offers : Suffices) where
    may_own : side_of w ≡ Local → MayGo run past b.time a j a what.key
    may_own l = subst (λ n. MayGo run past b.time a j n what.key) (own_target a what side to aims (sym side_is ∙ l)) may

    no_part : w.part ≡ Gets → ⊥
    no_part q = let both : Drops ≡ Gets = sym inv.part_is ∙ q in cc

    no_puts : w.part ≡ Puts → ⊥
    no_puts q = let both : Drops ≡ Puts = sym inv.part_is ∙ q in cc

    finds : (o : Outcome) → outcome ≡ o → FindsOutcome turn x.by.made.taken o → is_done o ≡ true
    finds (Refused refusals.NotPresent) at f = absurd (true≢false (sym (there (sym side_is ∙ f.0.side)) ∙ (sym (begun f.0.first).present_is ∙ f.1)))
    finds (Refused (refusals.Required text)) at f = absurd (let both : None ≡ Some text = sym may.unrequired ∙ (sym (begun f.1).requires_is ∙ f.2) in cc)
    finds (Refused (refusals.Barred i)) at f = absurd (let both : None ≡ Some i = sym (may_own f.0.side).free ∙ (sym (begun f.0.first).bar_is ∙ f.2) in cc)
    finds (Refused (refusals.Held end)) at f =
        let same = begun f.0.first in
        absurd (unheld_until what.key (clock run.repos past a b.time) (holds past a) end (may_own f.0.side).unheld (sym (λ n. until (filter (blocks (key_is n) (same.clock_is n (time n))) (same.holds_are n))) ∙ f.3))
    finds (Refused (refusals.Lacking proof reasons)) at f =
        let u = under Next refl f.next in
        absurd (never_lacks reads_back run repos past b a j what z h0 side to aims p w number what_is inv.heard u.first u.read u.settings_is f.last f.wants offers)
    finds (Refused (refusals.Expired end clk)) at f =
        let u : U = elim (f.judges) [ inl y ↦ under Next refl y.0 | inr y ↦ under AsksTime refl y.1 ] in
        let at_end = locks_end reads_back run repos past b a j what z h0 side to aims p w number what_is inv.heard u.first u.read u.settings_is end f.first_is in
        absurd (true≢false (sym (soon (clock run.repos p a b.time) end at_end) ∙ subst (λ n. nat_lt (clock run.repos p a n) end ≡ false) time (subst (λ n. nat_lt n end ≡ false) f.clock_is f.late)))
      where
        soon : (c end : ℕ) → end ≡ c + hold_time → nat_lt c end ≡ true
        soon c end is = let less : c < end = omega (arith, is) in grind (arith, nat_tests)
    finds (Got None None) at f = absurd (no_part f.0)
    finds (TransferRefused failures.NotHere) at f = absurd (no_puts f.0)
    finds (TransferRefused failures.Busy) at f = absurd (no_part f.0)
    finds (TransferRefused (failures.NoSource reasons)) at f = absurd (subst NoTransfer (made ∙ ap (ends_job j) at) (next_drop turn x.by.made f.0 inv.part_is x.by.does))
    finds o at f = absurd f

    has : (phase : Phase) → w.phase ≡ phase → S p phase → outcome ≡ outcome_of turn phase → partner w.what.peer phase ≡ None → is_done outcome ≡ true
    has Fresh at st o alone = absurd (subst NotKind (made ∙ ap (ends_job j) o) (rest_not turn x.by.made (subst AtRest (sym at) tt) x.by.does))
    has Next at st o alone = absurd (subst NotKind (made ∙ ap (ends_job j) o) (rest_not turn x.by.made (subst AtRest (sym at) tt) x.by.does))
    has (Opens peer) at st o alone = absurd (cc)
    has (Greets peer) at st o alone = absurd (cc)
    has (AsksLock peer since) at st o alone = absurd (cc)
    has (AsksLook peer) at st o alone = absurd (cc)
    has AsksTime at st o alone = absurd (aimed st.1 alone)
    has Orders at st o alone = absurd (aimed st.1.0 alone)
    has Removed at st o alone = ap is_done o ∙ removed_done (side_of w) turn
    has phase at st o alone = absurd st.1

    is_to_be_done : is_done outcome ≡ true
    is_to_be_done = elim (x.why) [
      | inl f ↦ finds outcome refl f
      | inr y ↦ has w.phase refl inv.stage y.outcome_is y.alone
    ]

  -- ---- where it was done

  was_allowed : is_done outcome ≡ true → Allowed reads_back run repos past b a j what z h0 side to aims others × Suffices
  was_allowed done = elim (x.why) [
    | inl f ↦ absurd (finds outcome done f)
    | inr y ↦ has w.phase inv.stage y.outcome_is
  ]
    where
      finds : (o : Outcome) → is_done o ≡ true → FindsOutcome turn x.by.made.taken o → ⊥
      finds (Refused refusal) d f = absurd (cc)
      finds (TransferRefused refusal) d f = absurd (cc)
      finds (Got source start) d f = absurd (cc)
      finds (Copied start) d f = absurd (cc)
      finds o d f = f

      off : outcome ≡ TransferRefused failures.Closed → ⊥
      off o = true≢false (sym done ∙ ap is_done o)

      has : (phase : Phase) → S p phase → outcome ≡ outcome_of turn phase → Allowed reads_back run repos past b a j what z h0 side to aims others × Suffices
      has Fresh st o = absurd (off o)
      has Next st o = absurd (off o)
      has (Opens peer) st o = absurd (off o)
      has (Greets peer) st o = absurd (off o)
      has (AsksLock peer since) st o = absurd (off o)
      has (AsksLook peer) st o = absurd (off o)
      has AsksTime st o = absurd (off o)
      has Orders st o = absurd (off o)
      has Removed st o = (st.0.allowed, st.1)
      has phase st o = absurd st.1

-- ---- at the places of a run

module _ (reads_back : SentAreRead) (others : OthersChangeNothing) (run : Run) (h : IsRun run) (first last a j : ℕ) (what : Job) (outcome : Outcome) (x : RanAlone run first last a j what outcome) where
  abbrev start : List Entry
  start = past_at run first

  record Tail (place : ℕ) : Type 0 where
    pub xs : List Entry
    pub past_is : past_at run place ≡ xs ++ x.begin ∷ start
    pub alone : Alone run (x.begin ∷ start) xs

  within : last < length run.entries
  within = slice_get_within run.entries last x.end x.end_at

  tail : (place : ℕ) → first < place → place ≤ last → Tail place
  tail zero less le = absurd (omega (arith, less))
  tail (suc n) less le = go (first == n) refl (λ l k. tail n l k)
    where
      same : first ≡ n → Tail (suc n)
      same e = record {
        xs = [];
        past_is = ap (past_at run) (sym (add-one n)) ∙ (ap (λ k. past_at run (k + 1)) (sym e) ∙ past_next run first x.begin x.begin_at);
        alone = tt;
      }

      next : Tail n → first < n → n < last → (e : Entry) → slice_get run.entries n ≡ Some e → Tail (suc n)
      next t l k e at = record {
        xs = e ∷ t.xs;
        past_is = ap (past_at run) (sym (add-one n)) ∙ (past_next run n e at ∙ ap (λ (p : List Entry). e ∷ p) t.past_is);
        alone = (subst (λ (p : List Entry). IsUndisturbing run p e) t.past_is (x.alone n e l k at), t.alone);
      }

      go : (d : Bool) → (first == n) ≡ d → (first < n → n ≤ last → Tail n) → Tail (suc n)
      go true e ih = same (eqb-true first n e)
      go false e ih =
          let l : first < n = grind (arith, nat_tests) in
          let k : n < last = omega (arith, le) in
          let i = within in
          elim (there_or_end run.entries n) [
            | inl y ↦ next (ih l (omega (arith, k))) l k y.0 y.1
            | inr y ↦ absurd (omega (arith, y, k, i))
          ]

  all : Tail last
  all = tail last x.later (omega arith)

  beginning : Beginning run start x.begin a j what
  beginning = record { by_a = x.begin_by; kind_is = x.begin_is; idle = x.idle; rest = x.rest }

  steps_first : RunPast (set_up run) (x.begin ∷ start)
  steps_first = subst (RunPast (set_up run)) (past_next run first x.begin x.begin_at) (steps_at run (first + 1) h)

  steps_last : RunPast (set_up run) (all.xs ++ x.begin ∷ start)
  steps_last = subst (RunPast (set_up run)) all.past_is (steps_at run last h)

  step_last : RunStep (set_up run) (all.xs ++ x.begin ∷ start) x.end
  step_last = (subst (RunPast (set_up run)) (past_next run last x.end x.end_at ∙ ap (λ (p : List Entry). x.end ∷ p) all.past_is) (steps_at run (last + 1) h)).0

  -- its side and its target
  pub local_aims : drop_side what.kind what.peer ≡ Local → Aims a what Local a
  local_aims local = record { drops = x.drops; side_is = local; target_is = refl; apart = λ remote. absurd (cc) }

  pub remote_aims : (to : ℕ) → what.peer ≡ Some to → Aims a what Remote to
  remote_aims to is = record {
    drops = x.drops;
    side_is = rw (x.drops, is) refl;
    target_is = ap (or_own a Remote) is;
    apart = λ remote. (subst (λ (o : Option ℕ). IsPeer (set_up run a) what.kind o) is (begun_quietly reads_back run h.repos start x.begin a j what beginning steps_first).may.peer).1;
  }

  module _ (side : Side) (to : ℕ) (aims : Aims a what side to) where
    since_begin : Since run (x.begin ∷ start) all.xs
    since_begin = all_calm reads_back run h.repos start x.begin a j what beginning steps_first side to aims all.xs steps_last all.alone (running_job still.by.w)
        (subst (Member (running_job still.by.w)) (jobs_are (all.xs ++ x.begin ∷ start) a) (running_member (works (all.xs ++ x.begin ∷ start) a) still.by.w still.runs))
      where
        part : Part (set_up run) (all.xs ++ x.begin ∷ start) a x.end
        part = part_of (set_up run) (all.xs ++ x.begin ∷ start) x.end a step_last x.end_by

        -- the job that ends
        still : Ending (set_up run a) (all.xs ++ x.begin ∷ start) x.end j outcome
        still = ending (set_up run a) (all.xs ++ x.begin ∷ start) part.words x.end part.own j outcome x.end_is

    module _ (obeys : side ≡ Remote → Obeys run start x.begin.time a j to what.key) where
      pub done_alone : (side ≡ Local → present start a what.key ≡ true) → MayGo run start x.begin.time a j to what.key → OffersSuffice side run.repos (job_paths run a j) start a to what.key → is_done outcome ≡ true
      done_alone = is_to_be_done reads_back run h.repos start x.begin a j what beginning steps_first side to aims others obeys all.xs steps_last since_begin x.end step_last x.end_by outcome x.end_is

      pub allowed_alone : is_done outcome ≡ true → (side ≡ Local → (present start a what.key ≡ true) × MayGo run start x.begin.time a j a what.key) × OffersSuffice side run.repos (job_paths run a j) start a to what.key
      allowed_alone = was_allowed reads_back run h.repos start x.begin a j what beginning steps_first side to aims others obeys all.xs steps_last since_begin x.end step_last x.end_by outcome x.end_is
