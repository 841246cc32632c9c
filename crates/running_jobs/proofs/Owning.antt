-- What the jobs have of the table and of the store's parts after a step, and what becomes of them.
use Rattle.std.proofs.Common.{◌≡◌, ◌≢◌, inl, inr, ℕ, ◌*◌, ◌<◌, ◌≤◌, Bool, true, false, if◌then◌else◌, List, ◌∷◌, ◌++◌, length, map, Option, Some, None, refl, sym, ap, subst, ◌∙◌, arith}
use Rattle.std.specs.Prelude.{All, ◌+◌, ◌&&◌, ◌||◌, not, is_some}
use Rattle.annex_base.specs.Lists.{Each, Member}
use Rattle.annex_base.specs.Settings.{Settings}
use Rattle.annex_base.proofs.Lists.{Member-append_left, Member-append_right, Member-map, Each-append, Each-both, Each-from_members, Each-left, Each-middle, Each-right, Each-weaker, list_any_nowhere}
use Rattle.link_ring.specs.Ends.{EndView}
use Rattle.object_store.specs.Stores.{Parts}
use Rattle.node_model.specs.Clocks.{ClockSet}
use Rattle.node_model.specs.OwedLines.{told_frame}
use Rattle.run_data.specs.declared.entry.EntryKind.{EntryKind}
use Rattle.run_data.specs.declared.entry.EntryKind.TheVariants.{Talk}
use Rattle.run_data.specs.declared.row.Hold.{Hold}
use Rattle.content_lock.specs.Rows.{AreAfter, Rows, is_filling}
use Rattle.content_lock.specs.Stored.{Agrees}
use Rattle.drop_phases.specs.declared.phase.Token.TheVariants as tokens
use Rattle.drop_phases.specs.Doing.{HasToken, OthersStay}
use Rattle.drop_phases.specs.Sides.{IsNumbered}
use Rattle.drop_phases.specs.Working.{end_in}
use Rattle.node_tasks.specs.Waiting.{WaitsFor, taken_by}
use Rattle.transfer_turns.specs.Steps.{Seen, fills_key}
use Rattle.node_tasks.specs.declared.readiness.Told.{Told}
use Rattle.node_tasks.specs.declared.readiness.Told.TheVariants as tolds
use Rattle.node_tasks.specs.declared.task.Task.{Task}
use Rattle.node_tasks.specs.declared.task.Task.TheVariants as tasks
use Rattle.node_tasks.specs.Acting.{HearsOn, parts_after}
use Rattle.node_tasks.specs.Tasks.{IsFedTask, IsTask, OwnsOf, number_of, work_now}
use Rattle.running_jobs.specs.declared.acted.Acted.{Acted}
use Rattle.running_jobs.specs.declared.finding.Found.{Found}
use Rattle.running_jobs.specs.Changes.{Changes, task_after}
use Rattle.running_jobs.specs.Finding.{FindsFirst}
use Rattle.running_jobs.specs.Leaving.{ActsOf, JobsGoOn, Leaves, PartsGoOn, RowsGoOn}
use Rattle.running_jobs.specs.Running.{AllApart, AreAllFed, AreApart, AreFilled, IsOwn, Jobs, OwnAll, fills_at, given_of, job_at, paths_of}
use Rattle.running_jobs.proofs.Among.{found_by_number, apart_before, apart_behind, apart_with, apart_without, none_by_number, others_found}
use Rattle.running_jobs.proofs.Filling.{apart_all, filled_off, filled_on, fills_append, one_apart, owns_on, right_there, settled_there, stays_apart, turned}
use Rattle.running_jobs.proofs.Peers.{peer_among}
use Rattle.running_jobs.proofs.Parting.{fed_on, parts_same, parts_told}
use Rattle.running_jobs.proofs.Stepping.{first_of_found, in_a_slot, job_found, kind_is, takes_waiting}

-- the law of `holds_are_numbered`
abbrev pub NumberLaw : Type 0
NumberLaw = (kind : EntryKind) (n : ℕ) (was now : Rows) → AreAfter kind was now → IsNumbered n kind → All (λ h. h.number < n) was.holds → (m : ℕ) → n < m → All (λ h. h.number < m) now.holds

-- where no job has a step
pub numbers_still : NumberLaw → (n : ℕ) (rows : Rows) → All (λ h. h.number < n) rows.holds → All (λ h. h.number < n + 1) rows.holds
numbers_still law n rows fresh = law (Talk None) n rows rows (record { holds = refl; bars = λ key. refl; fills = refl }) tt fresh (n + 1) (omega arith)

-- a job keeps the paths that it was given
paths_stay : (t t' : Task) (x : Told) → HearsOn t t' x → paths_of t' ≡ paths_of t
paths_stay (tasks.Drops j) (tasks.Drops j') (tolds.Feed f) hears = ap (λ (ps : List (List ℕ)). Some ps) hears.4
paths_stay (tasks.Transfers w) (tasks.Transfers w') (tolds.Arrival x) hears = ap (λ (ps : List (List ℕ)). Some ps) hears
paths_stay (tasks.Transfers w) (tasks.Drops j) (tolds.Arrival x) hears = ap (λ (ps : List (List ℕ)). Some ps) hears.2
paths_stay t t' x hears = absurd hears

module _ (links : List EndView) (clock : ClockSet) (settings : Settings) (jobs : Jobs) (number time : ℕ) (found : Found) (rows rows' : Rows) (kept kept' : Seen) (now : List Task) (a : Acted)
    (own : OwnAll jobs rows) (ch : Changes jobs.place clock links settings time number found rows rows' kept kept' jobs.running now a) where
  tasks_were : Each (IsTask jobs.place) (ch.front ++ ch.t ∷ ch.back)
  tasks_were = subst (Each (IsTask jobs.place)) ch.was_is own.tasks

  owns : Each (IsOwn jobs.begun rows) (ch.front ++ ch.t ∷ ch.back)
  owns = subst (Each (IsOwn jobs.begun rows)) ch.was_is own.owns

  apart : AllApart (ch.front ++ ch.t ∷ ch.back)
  apart = subst AllApart ch.was_is own.apart

  my_own : IsOwn jobs.begun rows ch.t
  my_own = (Each-right (IsOwn jobs.begun rows) ch.front (ch.t ∷ ch.back) owns).0

  front_own : Each (IsOwn jobs.begun rows) ch.front
  front_own = Each-left (IsOwn jobs.begun rows) ch.front (ch.t ∷ ch.back) owns

  back_own : Each (IsOwn jobs.begun rows) ch.back
  back_own = (Each-right (IsOwn jobs.begun rows) ch.front (ch.t ∷ ch.back) owns).1

  front_apart : Each (λ x. AreApart x ch.t) ch.front
  front_apart = apart_before ch.front ch.t ch.back apart

  back_apart : Each (AreApart ch.t) ch.back
  back_apart = apart_behind ch.front ch.t ch.back apart

  -- ---- another job

  -- it fills no key that the acting job fills
  abbrev FillsOther : Task → Type 0
  FillsOther x = (key : List ℕ) → (fills_key (work_now ch.t) key && fills_key (work_now x) key) ≡ false

  abbrev Filled : Task → List ℕ → Type 0
  Filled x key = (fills_key (work_now x) key ≡ true → is_filling ch.mid key ≡ true) × ((fills_key (work_now ch.t') key && fills_key (work_now x) key) ≡ false)

  filled_still : (x : Task) → IsOwn jobs.begun rows x → FillsOther x → (key : List ℕ) → Filled x key
  filled_still x o other key =
      stays_apart (is_filling rows key) (is_filling ch.mid key) (fills_key (work_now ch.t) key) (fills_key (work_now ch.t') key) (fills_key (work_now x) key) (ch.leaves.filled.after key) (ch.leaves.filled.free key)
      (right_there rows x key o.owns) (other key)

  -- what others have, they have
  others_stay : OthersStay (number_of ch.t) rows rows'
  others_stay job key token other has = ch.settled.others job key token (λ e. other (e ∙ ch.leaves.number)) (ch.leaves.others job key token other has)

  still : (x : Task) → IsOwn jobs.begun rows x → number_of x ≢ number_of ch.t → FillsOther x → IsOwn jobs.begun rows' x
  still x o other fills = record {
    number = o.number;
    owns = owns_on rows rows' x o.owns (λ key token has. others_stay (number_of x) key token other has) (λ key e.
        let f : Filled x key = filled_still x o fills key in
        settled_there a.ended (fills_key (work_now ch.t') key) (is_filling ch.mid key) (is_filling rows' key) (fills_key (work_now x) key) (ch.settled.filled key) f.0 f.1 e);
  }

  before_fills : (x : Task) → AreApart x ch.t → FillsOther x
  before_fills x h key = turned (fills_key (work_now x) key) (fills_key (work_now ch.t) key) (h.fills key)

  front_owns : Each (IsOwn jobs.begun rows') ch.front
  front_owns = Each-both (IsOwn jobs.begun rows) (λ x. AreApart x ch.t) (IsOwn jobs.begun rows') (λ x o h. still x o h.number (before_fills x h)) ch.front front_own front_apart

  back_owns : Each (IsOwn jobs.begun rows') ch.back
  back_owns = Each-both (IsOwn jobs.begun rows) (AreApart ch.t) (IsOwn jobs.begun rows') (λ x o h. still x o (λ e. h.number (sym e)) h.fills) ch.back back_own back_apart

  later : (job : ℕ) (key : List ℕ) → jobs.begun < job → HasToken job key tokens.Nothing rows'
  later job key beyond =
      others_stay job key tokens.Nothing (λ e. let at : number_of ch.t ≤ jobs.begun = my_own.number in absurd (omega (arith, beyond, e, at))) (own.later job key beyond)

  -- the job is apart from the others after its step too
  front_apart' : Each (λ x. AreApart x ch.t') ch.front
  front_apart' = Each-both (IsOwn jobs.begun rows) (λ x. AreApart x ch.t) (λ x. AreApart x ch.t') (λ x o h. record {
    number = λ e. h.number (e ∙ ch.leaves.number);
    slot = λ e. h.slot (e ∙ ch.leaves.slot);
    fills = λ key. turned (fills_key (work_now ch.t') key) (fills_key (work_now x) key) (filled_still x o (before_fills x h) key).1;
  }) ch.front front_own front_apart

  back_apart' : Each (AreApart ch.t') ch.back
  back_apart' = Each-both (IsOwn jobs.begun rows) (AreApart ch.t) (AreApart ch.t') (λ x o h. record {
    number = λ e. h.number (sym ch.leaves.number ∙ e);
    slot = λ e. h.slot (sym ch.leaves.slot ∙ e);
    fills = λ key. (filled_still x o h.fills key).1;
  }) ch.back back_own back_apart

  owns_by : (b : Bool) → a.ended ≡ b → OwnAll (record jobs { running = ch.front ++ (task_after b ch.t' ++ ch.back) }) rows'
  owns_by true ended =
      record {
        tasks = Each-append (IsTask jobs.place) ch.front ch.back (Each-left (IsTask jobs.place) ch.front (ch.t ∷ ch.back) tasks_were) (Each-right (IsTask jobs.place) ch.front (ch.t ∷ ch.back) tasks_were).1;
        owns = Each-append (IsOwn jobs.begun rows') ch.front ch.back front_owns back_owns;
        apart = apart_without ch.front ch.t ch.back apart;
        later = later;
      }
  owns_by false going =
      record {
        tasks = Each-append (IsTask jobs.place) ch.front (ch.t' ∷ ch.back) (Each-left (IsTask jobs.place) ch.front (ch.t ∷ ch.back) tasks_were) (ch.leaves.task going, (Each-right (IsTask jobs.place) ch.front (ch.t ∷ ch.back) tasks_were).1);
        owns = Each-append (IsOwn jobs.begun rows') ch.front (ch.t' ∷ ch.back) front_owns (mine, back_owns);
        apart = apart_with ch.front ch.t ch.t' ch.back front_apart' back_apart' apart;
        later = later;
      }
    where
      mine : IsOwn jobs.begun rows' ch.t'
      mine = record { number = subst (λ (n : ℕ). n ≤ jobs.begun) (sym ch.leaves.number) my_own.number; owns = subst (λ (r : Rows). OwnsOf r ch.t') (sym (ch.settled.stays going)) ch.leaves.owns }

  pub owns_after : OwnAll (record jobs { running = now }) rows'
  owns_after = subst (λ (ts : List Task). OwnAll (record jobs { running = ts }) rows') (sym ch.now_is) (owns_by a.ended refl)

  -- ---- the jobs

  then_found : a.ended ≡ false → job_at now a.job ≡ Some ch.t'
  then_found going =
      ap (λ (ts : List Task). job_at ts a.job) (ch.now_is ∙ ap (λ (b : Bool). ch.front ++ (task_after b ch.t' ++ ch.back)) going)
      ∙ (ap (job_at (ch.front ++ ch.t' ∷ ch.back)) (ch.job ∙ sym ch.leaves.number)
      ∙ found_by_number (ch.front ++ ch.t' ∷ ch.back) ch.t' (apart_with ch.front ch.t ch.t' ch.back front_apart' back_apart' apart) (Member-append_right ch.front (ch.t' ∷ ch.back) ch.t' (inl refl)))

  off_the_list : a.ended ≡ true → job_at now a.job ≡ None
  off_the_list ended =
      ap (λ (ts : List Task). job_at ts a.job) (ch.now_is ∙ ap (λ (b : Bool). ch.front ++ (task_after b ch.t' ++ ch.back)) ended)
      ∙ (ap (job_at (ch.front ++ ch.back)) ch.job
      ∙ none_by_number (ch.front ++ ch.back) (number_of ch.t) (Each-append (λ x. number_of x ≢ number_of ch.t) ch.front ch.back
      (Each-weaker (λ x. AreApart x ch.t) (λ x. number_of x ≢ number_of ch.t) (λ x h. h.number) ch.front front_apart)
      (Each-weaker (AreApart ch.t) (λ x. number_of x ≢ number_of ch.t) (λ x h e. h.number (sym e)) ch.back back_apart)))

  others_as_they_were : (job : ℕ) → job ≢ a.job → job_at now job ≡ job_at jobs.running job
  others_as_they_were job other =
      ap (λ (ts : List Task). job_at ts job) ch.now_is
      ∙ (others_found job ch.front ch.t ch.t' ch.back a.ended (λ e. other (sym (ch.job ∙ e))) ch.leaves.number
      ∙ ap (λ (ts : List Task). job_at ts job) (sym ch.was_is))

  abbrev Was : Task → Type 0
  Was x = Member (given_of x) (map given_of (ch.front ++ ch.t ∷ ch.back))

  given_stay : (t' : Task) → given_of t' ≡ given_of ch.t → (ended : Bool) → Each Was (ch.front ++ (task_after ended t' ++ ch.back))
  given_stay t' same ended =
      Each-append Was ch.front (task_after ended t' ++ ch.back) (Each-from_members Was ch.front (λ x m. Member-map given_of all x (Member-append_left ch.front (ch.t ∷ ch.back) x m))) (behind ended)
    where
      all : List Task
      all = ch.front ++ ch.t ∷ ch.back

      back : Each Was ch.back
      back = Each-from_members Was ch.back (λ x m. Member-map given_of all x (Member-append_right ch.front (ch.t ∷ ch.back) x (inr m)))

      behind : (ended : Bool) → Each Was (task_after ended t' ++ ch.back)
      behind true = back
      behind false = (subst (λ y. Member y (map given_of all)) (sym same) (Member-map given_of all ch.t (Member-append_right ch.front (ch.t ∷ ch.back) ch.t (inl refl))), back)

  jobs_go_on : JobsGoOn jobs.running now ch.t' a
  jobs_go_on = record {
    onward = then_found;
    off = off_the_list;
    apart = others_as_they_were;
    given = subst (λ (ts : List Task). Each (λ x. Member (given_of x) (map given_of ts)) now) (sym ch.was_is)
        (subst (Each Was) (sym ch.now_is) (given_stay ch.t' (λ i. (ch.leaves.number i, paths_stay ch.t ch.t' found.told ch.leaves.heard i)) a.ended));
  }

  -- ---- the table

  module _ (others : List ℕ → Bool) (are : AreFilled rows jobs.running others) (key : List ℕ) where
    abbrev before : Bool
    before = fills_at ch.front key

    abbrev behind : Bool
    behind = fills_at ch.back key

    abbrev mine : Bool
    mine = fills_key (work_now ch.t) key

    abbrev mine' : Bool
    mine' = fills_key (work_now ch.t') key

    abbrev AreKeys : Rows → List Task → Type 0
    AreKeys r ts = (is_filling r key ≡ (fills_at ts key || others key)) × ((fills_at ts key && others key) ≡ false)

    all_is : fills_at jobs.running key ≡ (before || (mine || behind))
    all_is = ap (λ (ts : List Task). fills_at ts key) ch.was_is ∙ fills_append ch.front (ch.t ∷ ch.back) key

    mine_before : (mine && before) ≡ false
    mine_before = apart_all mine key ch.front (Each-weaker (λ x. AreApart x ch.t) (λ x. (mine && fills_key (work_now x) key) ≡ false) (λ x h. before_fills x h key) ch.front front_apart)

    mine_behind : (mine && behind) ≡ false
    mine_behind = apart_all mine key ch.back (Each-weaker (AreApart ch.t) (λ x. (mine && fills_key (work_now x) key) ≡ false) (λ x h. h.fills key) ch.back back_apart)

    then_before : (mine' && before) ≡ false
    then_before = apart_all mine' key ch.front (Each-weaker (λ x. AreApart x ch.t') (λ x. (mine' && fills_key (work_now x) key) ≡ false) (λ x h. turned (fills_key (work_now x) key) mine' (h.fills key)) ch.front front_apart')

    then_behind : (mine' && behind) ≡ false
    then_behind = apart_all mine' key ch.back (Each-weaker (AreApart ch.t') (λ x. (mine' && fills_key (work_now x) key) ≡ false) (λ x h. h.fills key) ch.back back_apart')

    keys_on : (is_filling ch.mid key ≡ ((before || (mine' || behind)) || others key)) × (((before || (mine' || behind)) && others key) ≡ false)
    keys_on = filled_on before behind (others key) mine mine' (is_filling rows key) (is_filling ch.mid key) (are.filled key ∙ ap (λ (b : Bool). b || others key) all_is) (ap (λ (b : Bool). b && others key) (sym all_is) ∙ are.apart key)
        mine_before mine_behind (ch.leaves.filled.after key) (ch.leaves.filled.free key)

    keys_by : (b : Bool) → a.ended ≡ b → AreKeys rows' (ch.front ++ (task_after b ch.t' ++ ch.back))
    keys_by true ended =
        let off = filled_off before behind (others key) mine' (is_filling ch.mid key) (is_filling rows' key) keys_on.0 keys_on.1 then_before then_behind
        (ch.settled.filled key ∙ ap (λ (b : Bool). if b then (not mine' && is_filling ch.mid key) else is_filling ch.mid key) ended) in
        let same = fills_append ch.front ch.back key in
        (off.0 ∙ ap (λ (b : Bool). b || others key) (sym same), ap (λ (b : Bool). b && others key) same ∙ off.1)
    keys_by false going =
        let same = fills_append ch.front (ch.t' ∷ ch.back) key in (
          (ch.settled.filled key ∙ ap (λ (b : Bool). if b then (not mine' && is_filling ch.mid key) else is_filling ch.mid key) going) ∙ (keys_on.0 ∙ ap (λ (b : Bool). b || others key) (sym same)),
          ap (λ (b : Bool). b && others key) same ∙ keys_on.1,
        )

    keys_after : AreKeys rows' now
    keys_after = subst (AreKeys rows') (sym ch.now_is) (keys_by a.ended refl)

  rows_go_on : RowsGoOn jobs.running now rows rows' a
  rows_go_on = record {
    after = ch.settled.holds ∙ ch.leaves.after;
    bars = λ key. ch.settled.bars key ∙ ch.leaves.bars key;
    others = subst (λ (n : ℕ). OthersStay n rows rows') (sym ch.job) others_stay;
    filled = λ others are. record { filled = λ key. (keys_after others are key).0; apart = λ key. (keys_after others are key).1 };
  }

  -- the store has the records of its holds
  pub agrees_after : Agrees kept.records rows.holds → Agrees kept'.records rows'.holds
  agrees_after agrees = subst (λ (hs : List Hold). Agrees kept'.records hs) (sym ch.settled.holds) (ch.leaves.agrees agrees)

  -- the numbers of its holds stay below that of the next entry
  pub numbers_after : NumberLaw → All (λ h. h.number < number) rows.holds → All (λ h. h.number < number + 1) rows'.holds
  numbers_after law fresh =
      law a.kind number rows (record rows' { fills = rows.fills }) (record { holds = ch.settled.holds ∙ ch.leaves.after; bars = λ key. ch.settled.bars key ∙ ch.leaves.bars key; fills = refl }) ch.leaves.numbered fresh (number + 1) (omega arith)

  -- ---- the parts

  module _ (q q' : Parts) (is : kept.parts ≡ Some q) (is' : kept'.parts ≡ Some q') where
    part_same : (key : List ℕ) → fills_key (work_now ch.t) key ≡ false → q' key ≡ q key
    part_same key other = parts_same rows ch.t found.told a.kind q q' key my_own.owns other (ap (parts_after ch.t found.told a.kind) (sym is) ∙ (sym ch.leaves.parts ∙ is'))

    abbrev FedOn : Task → Type 0
    FedOn x = IsFedTask q x → IsFedTask q' x

    other_fed : (x : Task) → IsOwn jobs.begun rows x → FillsOther x → FedOn x
    other_fed x o other = fed_on rows x q q' o.owns (λ key e. part_same key (one_apart (fills_key (work_now ch.t) key) (fills_key (work_now x) key) (other key) e))

    module _ (all : AreAllFed q jobs.running) where
      fed_were : Each (IsFedTask q) (ch.front ++ ch.t ∷ ch.back)
      fed_were = subst (Each (IsFedTask q)) ch.was_is all

      front_fed : Each (IsFedTask q') ch.front
      front_fed = Each-both FedOn (IsFedTask q) (IsFedTask q') (λ x f g. f g) ch.front
          (Each-both (IsOwn jobs.begun rows) (λ x. AreApart x ch.t) FedOn (λ x o h. other_fed x o (before_fills x h)) ch.front front_own front_apart) (Each-left (IsFedTask q) ch.front (ch.t ∷ ch.back) fed_were)

      back_fed : Each (IsFedTask q') ch.back
      back_fed = Each-both FedOn (IsFedTask q) (IsFedTask q') (λ x f g. f g) ch.back
          (Each-both (IsOwn jobs.begun rows) (AreApart ch.t) FedOn (λ x o h. other_fed x o h.fills) ch.back back_own back_apart) (Each-right (IsFedTask q) ch.front (ch.t ∷ ch.back) fed_were).1

      my_fed : IsFedTask q' ch.t'
      my_fed = ch.leaves.fed q is (Each-right (IsFedTask q) ch.front (ch.t ∷ ch.back) fed_were).0 q' is'

      fed_by : (b : Bool) → AreAllFed q' (ch.front ++ (task_after b ch.t' ++ ch.back))
      fed_by true = Each-append (IsFedTask q') ch.front ch.back front_fed back_fed
      fed_by false = Each-append (IsFedTask q') ch.front (ch.t' ∷ ch.back) front_fed (my_fed, back_fed)

      fed_after : AreAllFed q' now
      fed_after = subst (AreAllFed q') (sym ch.now_is) (fed_by a.ended)

    same_after : (key : List ℕ) → fills_at jobs.running key ≡ false → q' key ≡ q key
    same_after key free =
        part_same key (Each-middle (λ (x : Task). fills_key (work_now x) key ≡ false) ch.front ch.t ch.back
        (list_any_nowhere (λ (x : Task). fills_key (work_now x) key) (ch.front ++ ch.t ∷ ch.back) (ap (λ (ts : List Task). fills_at ts key) (sym ch.was_is) ∙ free)))

  parts_go_on : PartsGoOn jobs.running now kept kept'
  parts_go_on = record {
    told = ap (λ (o : Option Parts). is_some o) ch.leaves.parts ∙ parts_told ch.t found.told a.kind kept.parts;
    fed = λ q is all q' is'. fed_after q q' is is' all;
    same = λ q is q' is' key free. same_after q q' is is' key free;
    small = ch.leaves.small;
  }

  -- ---- all of it

  module _ (finds : FindsFirst jobs.place clock links jobs.running time found) (count : length links ≡ length jobs.place.ids * 8) where
    waits : WaitsFor links a.slot a.takes
    waits = takes_waiting links clock settings jobs number time found rows rows' kept kept' now a own finds ch

    acts_of : ActsOf links jobs rows rows' kept kept' a
    acts_of = record {
      job = ch.t;
      next = ch.t';
      told = found.told;
      found = job_found links clock settings jobs number time found rows rows' kept kept' now a own finds ch;
      slot = ch.slot;
      takes = ch.takes;
      hears = (first_of_found links clock settings jobs number time found rows rows' kept kept' now a own finds ch).told;
      owes = ch.owes.line ∙ (λ i. told_frame (Some (work_now ch.t)) (taken_by links (sym ch.slot i) (sym ch.takes i)));
      among = λ l some. peer_among links (length jobs.place.ids) (end_in a.slot l.repo) count (waits l.repo (ch.takes ∙ ch.owes.of_peer l some)).1;
      mid = ch.mid;
      entry = number;
      leaves = ch.leaves;
      stays = ch.settled.stays;
    }

    pub leaves_after : Leaves links jobs (record jobs { running = now }) rows rows' kept kept' a
    unfolding acts_of
    leaves_after = record {
      slot = in_a_slot links clock settings jobs number time found rows rows' kept kept' now a own finds ch;
      kind = kind_is links clock settings jobs number time found rows rows' kept kept' now a own finds ch;
      waits = waits;
      place = refl;
      begun = refl;
      acts = acts_of;
      jobs = jobs_go_on;
      table = rows_go_on;
      parts = parts_go_on;
    }
