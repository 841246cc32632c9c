-- The rounds of a block end: two after each other that add nothing are the last, and then nobody has a step or a line to take.
use Rattle.std.proofs.Common.{◌≡◌, ◌≢◌, ◌⊎◌, ℕ, zero, suc, ◌+◌, ◌*◌, ◌^◌, ◌<◌, ◌≤◌, Bool, true, false, List, [], ◌∷◌, None, inl, inr, refl, sym, ap, ◌∙◌, subst, arith}
use Rattle.std.specs.Prelude.{◌==◌, ◌&&◌, ◌||◌, if◌then◌else◌, filter, length, map, nat_le, nat_lt, not}
use Rattle.std.specs.List.{list_any}
use Rattle.std.proofs.lemmas.Bool.{eqb-true}
use Rattle.std.proofs.lemmas.Bool.Decides.{nat_tests}
use Rattle.std.proofs.lemmas.List.{length-append}
use Rattle.annex_base.specs.Lists.{Each}
use Rattle.annex_base.proofs.Conditions.{eqb_other, eqb_refl}
use Rattle.annex_base.proofs.Lists.{Each-member, Each-weaker, filter_no}
use Rattle.annex_base.proofs.Numbers.{Member-range}
use Rattle.run_data.specs.Histories.{most_entries}
use Rattle.run_data.specs.declared.entry.Entry.{Entry}
use Rattle.run_data.specs.declared.entry.EntryKind.TheVariants as kinds
use Rattle.run_data.specs.declared.job.Job.{Job}
use Rattle.run_model.specs.Past.{begun_count, is_of}
use Rattle.run_model.specs.States.{end_at, state_of, works}
use Rattle.node_model.specs.AnyTime.{close_at, closes_all}
use Rattle.node_model.specs.Ends.{EndName}
use Rattle.node_model.specs.Jobs.{Work}
use Rattle.node_model.specs.SetUp.{SetUp}
use Rattle.node_model.specs.State.{State}
use Rattle.node_model.specs.Step.{step}
use Rattle.past_facts.proofs.OwnState.{state_own}
use Rattle.script_commands.specs.declared.command.BlockLine.{BlockLine}
use Rattle.script_commands.specs.declared.command.BlockLine.TheVariants.{Runs, Crashes, Closes, Fails}
use Rattle.driver_model.specs.Driver.{Driver, DriverInput, entry, notes, set_up_of, state_at}
use Rattle.driver_model.specs.Rounds.{Agenda, Block, InBlock, WithAgenda, and_left, block_at, block_round, block_rounds, idle_after, is_idle, is_over, is_stuck, lacks_next, lines_in, may_begin, most_rounds, numbers, round, stuck_at, takes_all, takes_each, turns_of, with_round}
use Rattle.driver_model.specs.ScriptSteps.{begins, closes, closes_each, closes_end, crashes, ends_at, lacks_places, sends, will_fail}
use Rattle.driver_model.specs.Turning.{plain_look, turn}
use Rattle.driver_model.proofs.Numbers.{below_len}
use Rattle.driver_model.proofs.Premises.{NamedJobs}
use Rattle.driver_model.proofs.Settles.{idle_none, many, round_more, turn_more, turns_more}
use Rattle.driver_model.proofs.TurnsFound.{turn_idle}
use Rattle.block_model.specs.Following.{without_old_of}
use Rattle.block_model.specs.Rest.{AreAllAtRest, HasNoStep}
use Rattle.block_model.proofs.Merges.{old_past}
use Rattle.block_model.proofs.Resting.{NoneOld, none_old, nothing_drops}
use Rattle.block_model.proofs.Rounding.{AreDistinct, each_repos, each_unmapped, left_repo, rounds_keep}
use Rattle.block_model.proofs.Within.{Within, agendas_within, if_no, if_yes}

-- ---- agendas of which nothing can be taken

abbrev pub IsBlocked : Driver → ℕ → List BlockLine → List ℕ → Type 0
IsBlocked d r [] jobs = Unit {0}
IsBlocked d r (Runs job ∷ ls) jobs = may_begin d r jobs ≡ false
IsBlocked d r (Closes other ∷ ls) jobs = lacks_places d.past r other ≡ true
IsBlocked d r ls jobs = ⊥

abbrev pub AllBlocked : Driver → List Agenda → Type 0
AllBlocked d ags = Each (λ a. IsBlocked d a.repo a.lines a.jobs) ags

-- so it is of what is left when all is taken
abbrev BlockedBy : ℕ → WithAgenda → Type 0
BlockedBy r y = IsBlocked y.driver r y.left.lines y.left.jobs

takes_blocked : (g : DriverInput) (r : ℕ) (ls : List BlockLine) (jobs : List ℕ) (d : Driver) → BlockedBy r (takes_all g r ls jobs d)
takes_blocked g r [] jobs d = tt
takes_blocked g r (Runs job ∷ ls) jobs d = go (takes_blocked g r ls ((begun_count d.past r + 1) ∷ jobs) (begins r job d)) (may_begin d r jobs) refl
  where
    go : BlockedBy r (takes_all g r ls ((begun_count d.past r + 1) ∷ jobs) (begins r job d)) → (b : Bool) → may_begin d r jobs ≡ b
        → BlockedBy r (if b then takes_all g r ls ((begun_count d.past r + 1) ∷ jobs) (begins r job d) else record { driver = d; left = record { repo = r; lines = Runs job ∷ ls; jobs = jobs } })
    go more true i = more
    go more false i = i
takes_blocked g r (Crashes clock ∷ ls) jobs d = takes_blocked g r ls jobs (crashes g r clock d)
takes_blocked g r (Closes other ∷ ls) jobs d = go (takes_blocked g r ls jobs (closes g r other d)) (lacks_places d.past r other) refl
  where
    go : BlockedBy r (takes_all g r ls jobs (closes g r other d)) → (b : Bool) → lacks_places d.past r other ≡ b
        → BlockedBy r (if b then record { driver = d; left = record { repo = r; lines = Closes other ∷ ls; jobs = jobs } } else takes_all g r ls jobs (closes g r other d))
    go more true i = i
    go more false i = more
takes_blocked g r (Fails call ∷ ls) jobs d = takes_blocked g r ls jobs (will_fail r call d)

-- it hangs on the entries of the repository alone
blocked_same : (r : ℕ) (ls : List BlockLine) (jobs : List ℕ) (d after : Driver) → filter (is_of r) after.past ≡ filter (is_of r) d.past → IsBlocked d r ls jobs → IsBlocked after r ls jobs
blocked_same r ls jobs d after same = go ls
  where
    s : SetUp
    s = record { number = r; repos = []; paths = λ j. [] }

    states : state_of (record { number = r; repos = []; paths = λ j. [] }) after.past ≡ state_of (record { number = r; repos = []; paths = λ j. [] }) d.past
    states = state_own s after.past ∙ ap (state_of s) same ∙ sym (state_own s d.past)

    works_same : works after.past r ≡ works d.past r
    works_same = ap (λ (st : State). st.works) states

    may_same : may_begin after r jobs ≡ may_begin d r jobs
    may_same = ap (λ (ws : List Work). not (list_any (λ w. list_any (λ j. w.number == j) jobs) ws) && nat_lt (length ws) 4) works_same

    lacks_same : (other : ℕ) → lacks_places after.past r other ≡ lacks_places d.past r other
    lacks_same other = λ i. nat_lt most_entries (length (same i) + length (filter (λ a. ((states i).ends a).opened) (ends_at other)))

    go : (ls : List BlockLine) → IsBlocked d r ls jobs → IsBlocked after r ls jobs
    go [] h = tt
    go (Runs job ∷ ls) h = may_same ∙ h
    go (Closes other ∷ ls) h = lacks_same other ∙ h
    go (line ∷ ls) h = absurd h

-- ---- what one takes adds no entry of another

begins_filter : (q r : ℕ) → q ≢ r → (job : Job) (d : Driver) → filter (is_of q) (begins r job d).past ≡ filter (is_of q) d.past
begins_filter q r n job d = go (nat_lt (length (works d.past r)) 4)
  where
    go : (b : Bool) → filter (is_of q) (if b then notes r (kinds.Begin (begun_count d.past r + 1) job) [] d else d).past ≡ filter (is_of q) d.past
    go true = filter_no (is_of q) (entry d r (kinds.Begin (begun_count d.past r + 1) job) []) d.past (eqb_other r q n)
    go false = refl

close_filter : (g : DriverInput) (q r : ℕ) → q ≢ r → (a : EndName) (d : Driver) → filter (is_of q) (closes_end g r a d).past ≡ filter (is_of q) d.past
close_filter g q r n a d = go (end_at d.past r a).opened
  where
    go : (b : Bool) → filter (is_of q) (if b then sends g r (kinds.Close a.peer a.slot a.client) (close_at (set_up_of g d r) (state_at g d r) a) d else d).past ≡ filter (is_of q) d.past
    go true = filter_no (is_of q) (record (entry d r (kinds.Close a.peer a.slot a.client) []) { sent = close_at (set_up_of g d r) (state_at g d r) a }) d.past (eqb_other r q n)
    go false = refl

closing_filter : (g : DriverInput) (q r : ℕ) → q ≢ r → (ends : List EndName) (d : Driver) → filter (is_of q) (closes_each g r ends d).past ≡ filter (is_of q) d.past
closing_filter g q r n [] d = refl
closing_filter g q r n (a ∷ ends) d = closing_filter g q r n ends (closes_end g r a d) ∙ close_filter g q r n a d

closes_filter : (g : DriverInput) (q r : ℕ) → q ≢ r → (other : ℕ) (d : Driver) → filter (is_of q) (closes g r other d).past ≡ filter (is_of q) d.past
closes_filter g q r n other d = go (lacks_places d.past r other)
  where
    go : (b : Bool) → filter (is_of q) (if b then d else closes_each g r (ends_at other) d).past ≡ filter (is_of q) d.past
    go true = refl
    go false = closing_filter g q r n (ends_at other) d

takes_filter : (g : DriverInput) (q r : ℕ) → q ≢ r → (ls : List BlockLine) (jobs : List ℕ) (d : Driver) → filter (is_of q) (takes_all g r ls jobs d).driver.past ≡ filter (is_of q) d.past
takes_filter g q r n [] jobs d = refl
takes_filter g q r n (Runs job ∷ ls) jobs d = go (takes_filter g q r n ls ((begun_count d.past r + 1) ∷ jobs) (begins r job d)) (may_begin d r jobs)
  where
    go : filter (is_of q) (takes_all g r ls ((begun_count d.past r + 1) ∷ jobs) (begins r job d)).driver.past ≡ filter (is_of q) (begins r job d).past → (b : Bool)
        → filter (is_of q) (if b then takes_all g r ls ((begun_count d.past r + 1) ∷ jobs) (begins r job d) else record { driver = d; left = record { repo = r; lines = Runs job ∷ ls; jobs = jobs } }).driver.past ≡ filter (is_of q) d.past
    go more true = more ∙ begins_filter q r n job d
    go more false = refl
takes_filter g q r n (Crashes clock ∷ ls) jobs d = takes_filter g q r n ls jobs (crashes g r clock d) ∙ filter_no (is_of q) (record (entry d r (kinds.Crash clock) []) { sent = closes_all (set_up_of g d r) (state_at g d r) }) d.past (eqb_other r q n)
takes_filter g q r n (Closes other ∷ ls) jobs d = go (takes_filter g q r n ls jobs (closes g r other d)) (lacks_places d.past r other)
  where
    go : filter (is_of q) (takes_all g r ls jobs (closes g r other d)).driver.past ≡ filter (is_of q) (closes g r other d).past → (b : Bool)
        → filter (is_of q) (if b then record { driver = d; left = record { repo = r; lines = Closes other ∷ ls; jobs = jobs } } else takes_all g r ls jobs (closes g r other d)).driver.past ≡ filter (is_of q) d.past
    go more true = refl
    go more false = more ∙ closes_filter g q r n other d
takes_filter g q r n (Fails call ∷ ls) jobs d = takes_filter g q r n ls jobs (will_fail r call d)

each_filter : (g : DriverInput) (q : ℕ) (ags : List Agenda) → Each (λ a. q ≢ a.repo) ags → (d : Driver) → filter (is_of q) (takes_each g ags d).driver.past ≡ filter (is_of q) d.past
each_filter g q [] apart d = refl
each_filter g q (a ∷ ags) apart d = go (each_filter g q ags apart.1 y.driver) (lacks_next y.driver.past a.repo y.left.lines)
  where
    y : WithAgenda
    y = takes_all g a.repo a.lines a.jobs d

    go : filter (is_of q) (takes_each g ags (takes_all g a.repo a.lines a.jobs d).driver).driver.past ≡ filter (is_of q) (takes_all g a.repo a.lines a.jobs d).driver.past → (c : Bool)
        → filter (is_of q) (if c then record { driver = (takes_all g a.repo a.lines a.jobs d).driver; left = (takes_all g a.repo a.lines a.jobs d).left ∷ ags }
        else and_left (takes_all g a.repo a.lines a.jobs d).left (takes_each g ags (takes_all g a.repo a.lines a.jobs d).driver)).driver.past ≡ filter (is_of q) d.past
    go more true = takes_filter g q a.repo apart.0 a.lines a.jobs d
    go more false = more ∙ takes_filter g q a.repo apart.0 a.lines a.jobs d

-- ---- after all have taken what they can, nothing can be taken, or a close lacks places

abbrev Taken : Block → Type 0
Taken b = AllBlocked b.driver b.left ⊎ (is_stuck b.driver b.left ≡ true)

stuck_more : (past : List Entry) (r : ℕ) (lines : List BlockLine) (c : Bool) → c ≡ true → (lacks_next past r lines || c) ≡ true
stuck_more past r lines c i = go (lacks_next past r lines)
  where
    go : (b : Bool) → (b || c) ≡ true
    go true = refl
    go false = i

each_blocked : (g : DriverInput) (ags : List Agenda) (d : Driver) → AreDistinct (map (λ a. a.repo) ags) → Taken (takes_each g ags d)
each_blocked g [] d distinct = inl tt
each_blocked g (a ∷ ags) d distinct = go (each_blocked g ags y.driver distinct.1) (lacks_next y.driver.past a.repo y.left.lines) refl
  where
    y : WithAgenda
    y = takes_all g a.repo a.lines a.jobs d

    others : Each (λ z. a.repo ≢ z.repo) ags
    others = Each-weaker (λ (z : Agenda). z.repo ≢ a.repo) (λ (z : Agenda). a.repo ≢ z.repo) (λ z n e. n (sym e)) ags (each_unmapped (λ q. q ≢ a.repo) (λ (z : Agenda). z.repo) ags distinct.0)

    rest : Block
    rest = takes_each g ags (takes_all g a.repo a.lines a.jobs d).driver

    later : Taken (takes_each g ags (takes_all g a.repo a.lines a.jobs d).driver)
        → Taken (and_left (takes_all g a.repo a.lines a.jobs d).left (takes_each g ags (takes_all g a.repo a.lines a.jobs d).driver))
    later (inl all) = inl (
      subst (λ k. IsBlocked rest.driver k y.left.lines y.left.jobs) (sym (left_repo g a.repo a.lines a.jobs d))
          (blocked_same a.repo y.left.lines y.left.jobs y.driver rest.driver (each_filter g a.repo ags others y.driver) (takes_blocked g a.repo a.lines a.jobs d)),
      all,
    )
    later (inr stuck) = inr (stuck_more rest.driver.past y.left.repo y.left.lines (is_stuck rest.driver rest.left) stuck)

    go : Taken (takes_each g ags (takes_all g a.repo a.lines a.jobs d).driver) → (c : Bool)
        → lacks_next (takes_all g a.repo a.lines a.jobs d).driver.past a.repo (takes_all g a.repo a.lines a.jobs d).left.lines ≡ c
        → Taken (if c then record { driver = (takes_all g a.repo a.lines a.jobs d).driver; left = (takes_all g a.repo a.lines a.jobs d).left ∷ ags }
        else and_left (takes_all g a.repo a.lines a.jobs d).left (takes_each g ags (takes_all g a.repo a.lines a.jobs d).driver))
    go more true i =
        let next : lacks_next y.driver.past y.left.repo y.left.lines ≡ true = ap (λ k. lacks_next y.driver.past k y.left.lines) (left_repo g a.repo a.lines a.jobs d) ∙ i in
        inr (ap (λ c. c || is_stuck y.driver ags) next)
    go more false i = later more

-- where nothing can be taken, nothing is
blocked_takes : (g : DriverInput) (r : ℕ) (ls : List BlockLine) (jobs : List ℕ) (d : Driver) → IsBlocked d r ls jobs → takes_all g r ls jobs d ≡ record { driver = d; left = record { repo = r; lines = ls; jobs = jobs } }
blocked_takes g r [] jobs d h = refl
blocked_takes g r (Runs job ∷ ls) jobs d h = if_no (may_begin d r jobs) (takes_all g r ls ((begun_count d.past r + 1) ∷ jobs) (begins r job d)) (record { driver = d; left = record { repo = r; lines = Runs job ∷ ls; jobs = jobs } }) h
blocked_takes g r (Closes other ∷ ls) jobs d h = if_yes (lacks_places d.past r other) (record { driver = d; left = record { repo = r; lines = Closes other ∷ ls; jobs = jobs } }) (takes_all g r ls jobs (closes g r other d)) h
blocked_takes g r (line ∷ ls) jobs d h = absurd h

pub blocked_each : (g : DriverInput) (ags : List Agenda) (d : Driver) → AllBlocked d ags → takes_each g ags d ≡ record { driver = d; left = ags }
blocked_each g [] d all = refl
blocked_each g (a ∷ ags) d all = ap after (blocked_takes g a.repo a.lines a.jobs d all.0) ∙ go (blocked_each g ags d all.1) (lacks_next d.past a.repo a.lines)
  where
    after : WithAgenda → Block
    after y = if lacks_next y.driver.past a.repo y.left.lines then record { driver = y.driver; left = y.left ∷ ags } else and_left y.left (takes_each g ags y.driver)

    go : takes_each g ags d ≡ record { driver = d; left = ags } → (c : Bool) → Path Block (if c then record { driver = d; left = a ∷ ags } else and_left a (takes_each g ags d)) (record { driver = d; left = a ∷ ags })
    go more true = refl
    go more false = ap (and_left a) more

-- ---- idle rounds

over_two : (n k : ℕ) → n ≡ 2 → (nat_le 2 n && not (not (k == k))) ≡ true
over_two n k i = rw (i, eqb_refl k) refl

same_many : (a b c : ℕ) → a ≤ b → b ≤ c → c ≡ a → b ≡ a
same_many a b c i j k = omega (arith, i, j, k)

module _ (names : NamedJobs) (g : DriverInput) where
  -- turns that add nothing only drop what is old
  idle_turns : (rs : List ℕ) (d : Driver) → many (turns_of g rs d) ≡ many d → turns_of g rs d ≡ without_old_of g rs d
  idle_turns [] d same = refl
  idle_turns (r ∷ rs) d same =
      let one = same_many (many d) (many (turn g r d)) (many (turns_of g rs (turn g r d))) (turn_more g r d) (turns_more g rs (turn g r d)) same in
      idle_turns rs (turn g r d) (same ∙ sym one) ∙ ap (without_old_of g rs) (turn_idle g r d (idle_none names g r d one))

  -- where nothing is old either, they change nothing, and no step is ready
  idle_rests : (rs : List ℕ) → Each (λ r. r < length g.repos) rs → (d : Driver) → ((r : ℕ) → r < length g.repos → NoneOld g d r) → many (turns_of g rs d) ≡ many d
      → Each (λ r. HasNoStep (set_up_of g d r) d.past (plain_look (set_up_of g d r) d)) rs × (turns_of g rs d ≡ d)
  idle_rests [] known d young same = (tt, refl)
  idle_rests (r ∷ rs) known d young same =
      let one = same_many (many d) (many (turn g r d)) (many (turns_of g rs (turn g r d))) (turn_more g r d) (turns_more g rs (turn g r d)) same in
      let none = idle_none names g r d one in
      let drops = nothing_drops g d r (young r known.0) in
      let stays : turn g r d ≡ d = turn_idle g r d none ∙ drops in
      let more = idle_rests rs known.1 d young (ap (λ (z : Driver). many (turns_of g rs z)) (sym stays) ∙ same) in
      ((subst (λ (z : Driver). step (set_up_of g d r) (state_at g d r) (plain_look (set_up_of g d r) z) ≡ None) drops none, more.0), ap (turns_of g rs) stays ∙ more.1)

  known_all : Each (λ r. r < length g.repos) (numbers g)
  known_all = below_len 0 (length g.repos) (length g.repos) (omega arith)

  -- ---- phases

  abbrev pub AllYoung : Driver → Type 0
  AllYoung d = (r : ℕ) → r < length g.repos → NoneOld g d r

  -- one round has added nothing
  pub record Once (y : InBlock) : Type 0 where
    pub idle_is : y.idle ≡ 1
    pub young : AllYoung y.driver
    pub blocked : AllBlocked y.driver y.left

  -- nobody has a step, nor a line to take
  pub record Rests (d : Driver) (ags : List Agenda) : Type 0 where
    pub rest : AreAllAtRest g d
    pub young : AllYoung d
    pub blocked : AllBlocked d ags

  pub record Over (y : InBlock) : Type 0 where
    pub over : is_over y ≡ true
    pub so : (is_stuck y.driver y.left ≡ true) ⊎ Rests y.driver y.left

  abbrev pub Phase : InBlock → Type 0
  Phase y = (y.idle ≡ 0) ⊎ (Once y ⊎ Over y)

  none_over : (y : InBlock) (n : ℕ) → y.idle ≡ n → nat_le 2 n ≡ false → is_over y ≡ false
  none_over y n i few = let no' : nat_le 2 y.idle ≡ false = ap (nat_le 2) i ∙ few in rw no' refl

  goes_on : (y : InBlock) → is_over y ≡ false → block_round g y ≡ with_round g y (takes_each g y.left y.driver)
  goes_on y i = if_no (is_over y) y (with_round g y (takes_each g y.left y.driver)) i

  -- an idle round, after this was taken
  module _ (y : InBlock) (b : Block) (idle : is_idle b.driver (round g b.driver) ≡ true) where
    same_many' : many (round g b.driver) ≡ many b.driver
    same_many' = sym (eqb-true (many b.driver) (many (round g b.driver)) idle)

    round_is : round g b.driver ≡ without_old_of g (numbers g) b.driver
    round_is = idle_turns (numbers g) b.driver same_many'

    round_young : AllYoung (round g b.driver)
    round_young r known = subst (λ (z : Driver). NoneOld g z r) (sym round_is) (none_old g (numbers g) r b.driver (Member-range 0 (length g.repos) r (omega arith) (omega (arith, known))))

    round_past : (round g b.driver).past ≡ b.driver.past
    round_past = ap (λ (z : Driver). z.past) round_is ∙ old_past g (numbers g) b.driver

    round_blocked : AllBlocked b.driver b.left → AllBlocked (round g b.driver) b.left
    round_blocked all = Each-weaker (λ (a : Agenda). IsBlocked b.driver a.repo a.lines a.jobs) (λ (a : Agenda). IsBlocked (round g b.driver) a.repo a.lines a.jobs)
        (λ a h. blocked_same a.repo a.lines a.jobs b.driver (round g b.driver) (ap (filter (is_of a.repo)) round_past) h) b.left all

    idle_more : idle_after b.driver (round g b.driver) y.idle ≡ y.idle + 1
    idle_more = if_yes (is_idle b.driver (round g b.driver)) (y.idle + 1) 0 idle

  restarts : (y : InBlock) (b : Block) → is_idle b.driver (round g b.driver) ≡ false → idle_after b.driver (round g b.driver) y.idle ≡ 0
  restarts y b busy = if_no (is_idle b.driver (round g b.driver)) (y.idle + 1) 0 busy

  stuck_over : (b : Block) → is_stuck b.driver b.left ≡ true → Phase (stuck_at b)
  stuck_over b i = inr (inr (record { over = refl; so = inl i }))

  -- from a round that added something
  fresh_round : (y : InBlock) (b : Block) → y.idle ≡ 0 → Taken b → Phase (with_round g y b)
  fresh_round y b i taken = go (is_stuck b.driver b.left) refl
    where
      now_blocked : Taken b → is_stuck b.driver b.left ≡ false → AllBlocked b.driver b.left
      now_blocked (inl all) j = all
      now_blocked (inr stuck) j = absurd (let no' : true ≡ false = sym stuck ∙ j in cc)

      at : is_stuck b.driver b.left ≡ false → (c : Bool) → is_idle b.driver (round g b.driver) ≡ c → Phase (block_at y b (round g b.driver))
      at j true h = inr (inl (record { idle_is = idle_more y b h ∙ ap (λ n. n + 1) i; young = round_young y b h; blocked = round_blocked y b h (now_blocked taken j) }))
      at j false h = inl (restarts y b h)

      go : (c : Bool) → is_stuck b.driver b.left ≡ c → Phase (if c then stuck_at b else block_at y b (round g b.driver))
      go true j = stuck_over b j
      go false j = at j (is_idle b.driver (round g b.driver)) refl

  -- from one that added nothing
  once_round : (y : InBlock) → Once y → Phase (with_round g y (record { driver = y.driver; left = y.left }))
  once_round y x = go (is_stuck y.driver y.left) refl
    where
      b : Block
      b = record { driver = y.driver; left = y.left }

      two : is_idle y.driver (round g y.driver) ≡ true → idle_after y.driver (round g y.driver) y.idle ≡ 2
      two h = idle_more y b h ∙ ap (λ n. n + 1) x.idle_is

      over : is_idle y.driver (round g y.driver) ≡ true → is_over (block_at y (record { driver = y.driver; left = y.left }) (round g y.driver)) ≡ true
      over h = over_two (idle_after y.driver (round g y.driver) y.idle) (lines_in y.left) (two h)

      rests : is_idle y.driver (round g y.driver) ≡ true → Rests (round g y.driver) y.left
      rests h =
          let z = idle_rests (numbers g) known_all y.driver x.young (same_many' y b h) in
          subst (λ (k : Driver). Rests k y.left) (sym z.1) (record {
            rest = λ r known. Each-member (λ q. HasNoStep (set_up_of g y.driver q) y.driver.past (plain_look (set_up_of g y.driver q) y.driver)) (numbers g) r z.0 (Member-range 0 (length g.repos) r (omega arith) (omega (arith, known)));
            young = x.young;
            blocked = x.blocked;
          })

      at : (c : Bool) → is_idle y.driver (round g y.driver) ≡ c → Phase (block_at y (record { driver = y.driver; left = y.left }) (round g y.driver))
      at true h = inr (inr (record { over = over h; so = inr (rests h) }))
      at false h = inl (restarts y b h)

      go : (c : Bool) → is_stuck y.driver y.left ≡ c → Phase (if c then stuck_at (record { driver = y.driver; left = y.left }) else block_at y (record { driver = y.driver; left = y.left }) (round g y.driver))
      go true j = stuck_over b j
      go false j = at (is_idle y.driver (round g y.driver)) refl

  -- the agendas are of different repositories, and the rounds are as far as this
  abbrev pub Goes : InBlock → Type 0
  Goes y = AreDistinct (map (λ a. a.repo) y.left) × Phase y

  pub goes_round : (y : InBlock) → Goes y → Goes (block_round g y)
  goes_round y k = (distinct (is_over y), phase k.1)
    where
      with_it : (c : Bool) → AreDistinct (map (λ (a : Agenda). a.repo) (if c then stuck_at (takes_each g y.left y.driver) else block_at y (takes_each g y.left y.driver) (round g (takes_each g y.left y.driver).driver)).left)
      with_it true = subst AreDistinct (sym (each_repos g y.left y.driver)) k.0
      with_it false = subst AreDistinct (sym (each_repos g y.left y.driver)) k.0

      distinct : (c : Bool) → AreDistinct (map (λ (a : Agenda). a.repo) (if c then y else with_round g y (takes_each g y.left y.driver)).left)
      distinct true = k.0
      distinct false = with_it (is_stuck (takes_each g y.left y.driver).driver (takes_each g y.left y.driver).left)

      phase : Phase y → Phase (block_round g y)
      phase (inl i) = subst Phase (sym (goes_on y (none_over y 0 i refl))) (fresh_round y (takes_each g y.left y.driver) i (each_blocked g y.left y.driver k.0))
      phase (inr (inl x)) = subst Phase (sym (goes_on y (none_over y 1 x.idle_is refl) ∙ ap (with_round g y) (blocked_each g y.left y.driver x.blocked))) (once_round y x)
      phase (inr (inr x)) = subst Phase (sym stays) (inr (inr x))
        where
          stays : block_round g y ≡ y
          stays = if_yes (is_over y) y (with_round g y (takes_each g y.left y.driver)) x.over

  -- ---- so many rounds need so many entries

  -- so many rounds
  abbrev goes : ℕ → InBlock → InBlock
  goes zero y = y
  goes (suc n) y = goes n (block_round g y)

  goes_more : (m n : ℕ) (y : InBlock) → goes (m + n) y ≡ goes n (goes m y)
  goes_more zero n y = ap (λ k. goes k y) (none n)
    where
      none : (k : ℕ) → 0 + k ≡ k
      none k = omega arith
  goes_more (suc m) n y = ap (λ k. goes k y) (shift m n) ∙ goes_more m n (block_round g y)
    where
      shift : (m n : ℕ) → suc m + n ≡ suc (m + n)
      shift m n = omega arith

  over_stays : (n : ℕ) (y : InBlock) → is_over y ≡ true → goes n y ≡ y
  over_stays zero y i = refl
  over_stays (suc n) y i = ap (goes n) (if_yes (is_over y) y (with_round g y (takes_each g y.left y.driver)) i) ∙ over_stays n y i

  twice : (n : ℕ) → 2 ^ n + 2 ^ n ≡ 2 ^ (suc n)
  twice n = omega arith

  rounds_are : (n : ℕ) (y : InBlock) → block_rounds g n y ≡ goes (2 ^ n) y
  rounds_are zero y = refl
  rounds_are (suc n) y = go (rounds_are n) (is_over y) refl
    where
      go : ((z : InBlock) → block_rounds g n z ≡ goes (2 ^ n) z) → (b : Bool) → is_over y ≡ b → (if b then y else block_rounds g n (block_rounds g n y)) ≡ goes (2 ^ suc n) y
      go more true i = sym (over_stays (2 ^ suc n) y i)
      go more false i = more (block_rounds g n y) ∙ ap (goes (2 ^ n)) (more y) ∙ sym (goes_more (2 ^ n) (2 ^ n) y) ∙ ap (λ k. goes k y) (twice n)

  low : (y : InBlock) → Phase y → is_over y ≡ false → y.idle ≤ 1
  low y (inl i) j = omega (arith, i)
  low y (inr (inl x)) j = let i = x.idle_is in omega (arith, i)
  low y (inr (inr x)) j = absurd (let no' : true ≡ false = sym x.over ∙ j in cc)

  differs : (a b : ℕ) → (a == b) ≡ false → a ≤ b → a < b
  differs a b h i = grind (arith, nat_tests)

  within_many : (d after : Driver) → Within d after → many d ≤ many after
  within_many d after x = let i = ap length x.0.1 in let j = length-append x.0.0 d.past in omega (arith, i, j)

  unsettled : (k : ℕ) (y : InBlock) → Goes y → is_over (goes k y) ≡ false → k + y.idle + 2 * many y.driver ≤ 2 * many (goes k y).driver + (goes k y).idle
  unsettled zero y h i = omega arith
  unsettled (suc k) y h i = go (unsettled k) (is_over y) refl
    where
      b : Block
      b = takes_each g y.left y.driver

      up : many y.driver ≤ many b.driver
      up = within_many y.driver b.driver (agendas_within g y.left y.driver)

      go : ((z : InBlock) → Goes z → is_over (goes k z) ≡ false → k + z.idle + 2 * many z.driver ≤ 2 * many (goes k z).driver + (goes k z).idle)
          → (c : Bool) → is_over y ≡ c → suc k + y.idle + 2 * many y.driver ≤ 2 * many (goes (suc k) y).driver + (goes (suc k) y).idle
      go more true j = absurd (let no' : true ≡ false = sym (ap is_over (over_stays (suc k) y j) ∙ j) ∙ i in cc)
      go more false j = with_it (is_stuck b.driver b.left) refl
        where
          with_it : (c : Bool) → is_stuck (takes_each g y.left y.driver).driver (takes_each g y.left y.driver).left ≡ c → suc k + y.idle + 2 * many y.driver ≤ 2 * many (goes (suc k) y).driver + (goes (suc k) y).idle
          with_it true s =
              let is : block_round g y ≡ stuck_at b = goes_on y j ∙ if_yes (is_stuck b.driver b.left) (stuck_at b) (block_at y b (round g b.driver)) s in
              absurd (let no' : true ≡ false = sym (ap (λ z. is_over (goes k z)) is ∙ ap is_over (over_stays k (stuck_at b) refl)) ∙ i in cc)
          with_it false s =
              let is : block_round g y ≡ block_at y b (round g b.driver) = goes_on y j ∙ if_no (is_stuck b.driver b.left) (stuck_at b) (block_at y b (round g b.driver)) s in
              subst (λ (z : InBlock). suc k + y.idle + 2 * many y.driver ≤ 2 * many (goes k z).driver + (goes k z).idle) (sym is)
              (at (is_idle b.driver (round g b.driver)) refl
              (more (block_at y b (round g b.driver)) (subst Goes is (goes_round y h)) (subst (λ (z : InBlock). is_over (goes k z) ≡ false) is i)))
            where
              at : (c : Bool) → is_idle (takes_each g y.left y.driver).driver (round g (takes_each g y.left y.driver).driver) ≡ c
                  → k + idle_after b.driver (round g b.driver) y.idle + 2 * many (round g b.driver) ≤ 2 * many (goes k (block_at y b (round g b.driver))).driver + (goes k (block_at y b (round g b.driver))).idle
                  → suc k + y.idle + 2 * many y.driver ≤ 2 * many (goes k (block_at y b (round g b.driver))).driver + (goes k (block_at y b (round g b.driver))).idle
              at true e z =
                  let same : many b.driver ≡ many (round g b.driver) = eqb-true (many b.driver) (many (round g b.driver)) e in
                  let later : idle_after b.driver (round g b.driver) y.idle ≡ y.idle + 1 = if_yes (is_idle b.driver (round g b.driver)) (y.idle + 1) 0 e in
                  omega (arith, same, z, later, up)
              at false e z =
                  let grew = round_more g b.driver in
                  let few = low y h.1 j in
                  let other = differs (many b.driver) (many (round g b.driver)) e grew in
                  let later : idle_after b.driver (round g b.driver) y.idle ≡ 0 = restarts y b e in
                  omega (arith, grew, few, other, z, later, up)

  too_many : (p m n k i : ℕ) → 4194304 ≤ p → n < m + 2000000 → i ≤ 1 → p + k + 2 * m ≤ 2 * n + i → ⊥
  too_many p m n k i big few l h = omega (arith, big, few, l, h)

  pub goes_rounds : (n : ℕ) (y : InBlock) → Goes y → Goes (block_rounds g n y)
  goes_rounds n y h = rounds_keep g Goes goes_round n y h

  bounded : (n : ℕ) (y : InBlock) → Goes y → 4194304 ≤ 2 ^ n → many (block_rounds g n y).driver < many y.driver + 2000000 → is_over (block_rounds g n y) ≡ true
  bounded n y h big few = go (is_over (block_rounds g n y)) refl
    where
      all : block_rounds g n y ≡ goes (2 ^ n) y
      all = rounds_are n y

      go : (b : Bool) → is_over (block_rounds g n y) ≡ b → b ≡ true
      go true i = refl
      go false i =
          let j = unsettled (2 ^ n) y h (ap is_over (sym all) ∙ i) in
          let l = low (block_rounds g n y) (goes_rounds n y h).1 i in
          let k : 2 ^ n + y.idle + 2 * many y.driver ≤ 2 * many (block_rounds g n y).driver + (block_rounds g n y).idle = subst (λ (z : InBlock). 2 ^ n + y.idle + 2 * many y.driver ≤ 2 * many z.driver + z.idle) (sym all) j in
          absurd (too_many (2 ^ n) (many y.driver) (many (block_rounds g n y).driver) y.idle (block_rounds g n y).idle big few l k)

  -- where fewer than two million entries are added the bound isn't met: the block is over
  pub bound_not_met : (y : InBlock) (bound : ℕ) → Goes y → bound ≡ most_rounds → many (block_rounds g bound y).driver < many y.driver + 2000000 → is_over (block_rounds g bound y) ≡ true
  bound_not_met y bound h e few = bounded bound y h (subst (λ n. 4194304 ≤ 2 ^ n) (sym e) (omega arith)) few
