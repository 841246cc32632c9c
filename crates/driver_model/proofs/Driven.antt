-- The driver makes runs: each line of a script keeps what holds.
use Rattle.std.proofs.Common.{◌≡◌, ℕ, zero, suc, ◌+◌, ◌<◌, Bool, true, false, List, [], ◌∷◌, ◌++◌, inr, refl, sym, subst, arith}
use Rattle.std.specs.Prelude.{cond, if◌then◌else◌, ◌==◌, not, filter, length, map}
use Rattle.std.proofs.lemmas.Bool.{eqb-true, or_parts}
use Rattle.annex_base.specs.Lists.{Each}
use Rattle.annex_base.proofs.Lists.{Each-filter, Each-push}
use Rattle.annex_base.specs.declared.kinds.Call.TheVariants as calls
use Rattle.annex_key.specs.View.{size_part}
use Rattle.run_data.specs.declared.entry.By.TheVariants.{Script}
use Rattle.run_data.specs.declared.entry.EntryKind.TheVariants as kinds
use Rattle.run_data.specs.declared.entry.LogFile.TheVariants.{Of}
use Rattle.run_data.specs.Repos.{IsSetUp}
use Rattle.run_data.specs.declared.run.TreeMark.{TreeMark}
use Rattle.wanted_rules.specs.declared.action.Action.{Action}
use Rattle.run_model.specs.Run.{IsRun}
use Rattle.annex_key.specs.KeyText.{IsKeyText}
use Rattle.run_model.specs.Past.{begun_count, present}
use Rattle.run_data.specs.Repos.{fits_size}
use Rattle.node_model.specs.SessionStep.{is_filled}
use Rattle.script_commands.specs.declared.command.Action.TheVariants.{Have, SetPart, Add, File, Set, Raw, Merge, Compact, Sync, Begin, Run, Turns, Settle, Close, Crash, Wait, Fail}
use Rattle.script_commands.specs.declared.command.Agendum.{Agendum}
use Rattle.script_commands.specs.declared.command.BlockLine.{BlockLine}
use Rattle.script_commands.specs.declared.command.BlockLine.TheVariants.{Runs, Crashes, Closes, Fails}
use Rattle.script_commands.specs.declared.command.Command.{Command}
use Rattle.script_commands.specs.declared.command.Command.TheVariants.{Repo, Does, Damage, Par, Shows}
use Rattle.driver_model.specs.Driver.{Driver, DriverInput, at_first, commits, drops_part, fails_at, puts_part, set_up_of, state_at}
use Rattle.driver_model.specs.ScriptSteps.{begins, begins_part, unless_fails, crashes, closes, enters, faults, fills_up, gains, gets_content, has, is_busy, lacks_places, merges, sets_part, setting_line, unless_busy, will_fail}
use Rattle.driver_model.specs.Turning.{turn}
use Rattle.driver_model.specs.Syncs.{carries_out, drops_spared, each_merges, is_transfer, job_for, merges_each, numbers_but, plan_at, shares_logs, syncs, transfers}
use Rattle.driver_model.specs.Rounds.{Agenda, Block, InBlock, AfterRounds, WithAgenda, agenda, and_left, block_at, block_end, block_round, block_rounds, blocks, after_round, goes_round, is_over, is_settled, is_stuck, lacks_next, lines_for, may_begin, most_rounds, numbers, round, rounds, settles, settles_after, stuck_at, takes, takes_all, takes_each, turns_of, with_round}
use Rattle.driver_model.specs.Driving.{does, driver_after, drives, with_mark, run_of, run_with, turns}
use Rattle.driver_model.specs.Limits.{names_path}
use Rattle.driver_model.specs.Scripts.{HasBoundedPast, IsAgendum, IsBlockLine, IsOne}
use Rattle.driver_model.specs.Sound.{IsSound}
use Rattle.driver_model.proofs.EndsAlike.{ends_alike}
use Rattle.driver_model.proofs.Holding.{Keeps}
use Rattle.driver_model.proofs.Numbers.{below_len}
use Rattle.driver_model.proofs.Planned.{HasKeys, IsBegun, plan_begun}
use Rattle.driver_model.proofs.Premises.{Laws}
use Rattle.driver_model.proofs.TreeAndMarks.{has_tree, line_tree, shares_tree, transfers_tree}
use Rattle.driver_model.proofs.Logged.{OwedKeys, keeps_compacts, keeps_merges, keeps_status, keeps_writes}
use Rattle.driver_model.proofs.Scripted.{keeps_begins, keeps_calling, keeps_closes, keeps_crashes, keeps_enters, keeps_faults, keeps_notes, keeps_waits, keeps_will_fail}
use Rattle.driver_model.proofs.Turned.{keeps_commits, keeps_drops, keeps_puts, keeps_turn}
use Rattle.driver_model.proofs.WayNumbers.{order_begins}
use Rattle.driver_model.proofs.WrittenLines.{written_line}

-- ---- contents

module _ (laws : Laws) (g : DriverInput) (r : ℕ) (known : r < length g.repos) where
  keeps_busy : (d done : Driver) (key : List ℕ) → Keeps g d → (is_busy g d r key ≡ false → Keeps g done) → Keeps g (unless_busy g r key d done)
  keeps_busy d done key k more = keeps_calling laws g d r calls.Has (if is_busy g d r key then d else unless_fails r calls.DropPart d done) known refl k (λ i. go (is_busy g d r key) refl)
    where
      go : (b : Bool) → is_busy g d r key ≡ b → Keeps g (if b then d else unless_fails r calls.DropPart d done)
      go true i = k
      go false i = keeps_calling laws g d r calls.DropPart done known refl k (λ j. more i)

  keeps_content : (d : Driver) (key bytes : List ℕ) → fits_size (size_part key) (length bytes) ≡ true → is_busy g d r key ≡ false → Keeps g d → Keeps g (gets_content r key bytes d)
  keeps_content d key bytes fits free k =
      let two = or_parts (present d.past r key) (is_filled (set_up_of g d r) (state_at g d r) key) free in
      keeps_notes laws g (commits r key d) r (kinds.Gain Script (length bytes) key) [] known (λ h small. (record { absent = two.0; unfilled = two.1; fits = fits; small = small }, refl, refl)) (keeps_commits g d r key k)

  -- the content that a script places, before the line that says so
  pub keeps_placed : (d : Driver) (key bytes : List ℕ) → fits_size (size_part key) (length bytes) ≡ true → is_busy g d r key ≡ false → Keeps g d
      → Keeps g (gets_content r key bytes (puts_part r key bytes (drops_part r key d)))
  keeps_placed d key bytes fits free k = keeps_content (puts_part r key bytes (drops_part r key d)) key bytes fits free (keeps_puts g (drops_part r key d) r key bytes (keeps_drops g d r key k))

  keeps_gains : (d : Driver) (key bytes : List ℕ) → IsKeyText key → fits_size (size_part key) (length bytes) ≡ true → is_busy g d r key ≡ false → Keeps g d → Keeps g (gains g r key bytes d)
  keeps_gains d key bytes text fits free k = keeps_status laws g (gets_content r key bytes d) r key text known (keeps_content d key bytes fits free k)

  keeps_fills : (d : Driver) (key bytes : List ℕ) → IsKeyText key → fits_size (size_part key) (length bytes) ≡ true → is_busy g d r key ≡ false → Keeps g d → Keeps g (fills_up g r key bytes d)
  keeps_fills d key bytes text fits free k = go (fails_at d r calls.Append)
    where
      go : (b : Bool) → Keeps g (if b then faults r calls.Append d else unless_fails r calls.Commit (puts_part r key bytes d) (gains g r key bytes (puts_part r key bytes d)))
      go true = keeps_faults laws g d r calls.Append known refl k
      go false = keeps_calling laws g (puts_part r key bytes d) r calls.Commit (gains g r key bytes (puts_part r key bytes d)) known refl (keeps_puts g d r key bytes k)
          (λ i. keeps_gains (puts_part r key bytes d) key bytes text fits free (keeps_puts g d r key bytes k))

  pub keeps_has : (d : Driver) (key bytes : List ℕ) → IsKeyText key → fits_size (size_part key) (length bytes) ≡ true → Keeps g d → Keeps g (has g r key bytes d)
  keeps_has d key bytes text fits k = keeps_busy d (fills_up g r key bytes (drops_part r key d)) key k (λ free. keeps_fills (drops_part r key d) key bytes text fits free (keeps_drops g d r key k))

  pub keeps_part : (d : Driver) (key bytes : List ℕ) → Keeps g d → Keeps g (sets_part g r key bytes d)
  keeps_part d key bytes k = keeps_busy d (begins_part r key bytes (drops_part r key d)) key k
      (λ free. keeps_calling laws g (drops_part r key d) r calls.Append (puts_part r key bytes (drops_part r key d)) known refl (keeps_drops g d r key k) (λ i. keeps_puts g (drops_part r key d) r key bytes (keeps_drops g d r key k)))

-- ---- rounds

module _ (laws : Laws) (g : DriverInput) where
  keeps_turns_of : (rs : List ℕ) → Each (λ r. r < length g.repos) rs → (d : Driver) → Keeps g d → Keeps g (turns_of g rs d)
  keeps_turns_of [] all d k = k
  keeps_turns_of (r ∷ rs) all d k = keeps_turns_of rs all.1 (turn g r d) (keeps_turn laws (ends_alike laws.names) g r all.0 d k)

  keeps_round : (d : Driver) → Keeps g d → Keeps g (round g d)
  keeps_round d k = keeps_turns_of (numbers g) (below_len 0 (length g.repos) (length g.repos) (omega arith)) d k

  keeps_goes : (x : AfterRounds) → Keeps g x.driver → Keeps g (goes_round g x).driver
  keeps_goes x k = go (is_settled x)
    where
      go : (b : Bool) → Keeps g (if b then x else after_round x (round g x.driver)).driver
      go true = k
      go false = keeps_round x.driver k

  keeps_rounds : (n : ℕ) (x : AfterRounds) → Keeps g x.driver → Keeps g (rounds g n x).driver
  keeps_rounds zero x k = keeps_goes x k
  keeps_rounds (suc n) x k = go (keeps_rounds n (rounds g n x) (keeps_rounds n x k)) (is_settled x)
    where
      go : Keeps g (rounds g n (rounds g n x)).driver → (b : Bool) → Keeps g (if b then x else rounds g n (rounds g n x)).driver
      go more true = k
      go more false = more

  keeps_settles : (d : Driver) → Keeps g d → Keeps g (settles g d)
  keeps_settles d k = keeps_rounds most_rounds (record { driver = d; idle = 0 }) k

  -- ---- syncs

  keeps_merges_each : OwedKeys → (r : ℕ) → r < length g.repos → (others : List ℕ) (d : Driver) → Keeps g d → Keeps g (merges_each r others d)
  keeps_merges_each keys r known [] d k = k
  keeps_merges_each keys r known (other ∷ others) d k = keeps_merges_each keys r known others (merges r other d) (keeps_merges laws g r known keys d other k)

  keeps_each_merges : OwedKeys → (r : ℕ) (others : List ℕ) → Each (λ n. n < length g.repos) others → (d : Driver) → Keeps g d → Keeps g (each_merges r others d)
  keeps_each_merges keys r [] all d k = k
  keeps_each_merges keys r (other ∷ others) all d k = keeps_each_merges keys r others all.1 (merges other r d) (keeps_merges laws g other all.0 keys d r k)

  keeps_shares : OwedKeys → (r : ℕ) → r < length g.repos → (d : Driver) → Keeps g d → Keeps g (shares_logs g r d)
  keeps_shares keys r known d k =
      keeps_each_merges keys r (numbers_but g r) (Each-filter (λ n. n < length g.repos) (λ n. not (n == r)) (numbers g) (below_len 0 (length g.repos) (length g.repos) (omega arith)))
      (merges_each r (numbers_but g r) (settles g d)) (keeps_merges_each keys r known (numbers_but g r) (settles g d) (keeps_settles d k))

  keeps_carries : (r : ℕ) → r < length g.repos → (actions : List Action) → Each (IsBegun laws g r) actions → (d : Driver) → Keeps g d → Keeps g (carries_out g r actions d)
  keeps_carries r known [] all d k = k
  keeps_carries r known (action ∷ actions) all d k =
      keeps_carries r known actions all.1 (settles g (begins r (job_for action) d)) (keeps_settles (begins r (job_for action) d) (keeps_begins laws g d r (job_for action) known all.0 k))

  keeps_transfers : (r : ℕ) → r < length g.repos → (d : Driver) → HasKeys d.tree → Keeps g d → Keeps g (transfers g r d)
  keeps_transfers r known d tree k =
      keeps_carries r known (filter is_transfer (plan_at g r d)) (Each-filter (IsBegun laws g r) is_transfer (plan_at g r d) (plan_begun laws g r d tree)) d k

  keeps_drops_spared : (r : ℕ) → r < length g.repos → (d : Driver) → HasKeys d.tree → Keeps g d → Keeps g (drops_spared g r d)
  keeps_drops_spared r known d tree k =
      keeps_carries r known (filter (λ action. not (is_transfer action)) (plan_at g r d))
      (Each-filter (IsBegun laws g r) (λ action. not (is_transfer action)) (plan_at g r d) (plan_begun laws g r d tree)) d k

  keeps_syncs : OwedKeys → (r : ℕ) → r < length g.repos → (d : Driver) → HasKeys d.tree → Keeps g d → Keeps g (syncs g r d)
  keeps_syncs keys r known d tree k =
      keeps_shares keys r known (drops_spared g r brought)
      (keeps_drops_spared r known brought (subst HasKeys (sym (transfers_tree g r shared)) tree_shared)
      (keeps_transfers r known shared tree_shared (keeps_shares keys r known d k)))
    where
      shared : Driver
      shared = shares_logs g r d

      brought : Driver
      brought = transfers g r shared

      tree_shared : HasKeys shared.tree
      tree_shared = subst HasKeys (sym (shares_tree g r d)) tree

  keeps_turns : (r n : ℕ) → r < length g.repos → (d : Driver) → Keeps g d → Keeps g (turns g r n d)
  keeps_turns r zero known d k = k
  keeps_turns r (suc n) known d k = keeps_turns r n known (turn g r d) (keeps_turn laws (ends_alike laws.names) g r known d k)

  -- ---- blocks

  -- the lines of an agenda are of its repository
  abbrev pub IsAgenda : Agenda → Type 0
  IsAgenda a = (a.repo < length g.repos) × Each (IsBlockLine g a.repo) a.lines

  abbrev KeepsTaken : WithAgenda → Type 0
  KeepsTaken x = Keeps g x.driver × IsAgenda x.left

  keeps_takes : (r : ℕ) → r < length g.repos → (ls : List BlockLine) (jobs : List ℕ) (d : Driver) → Each (IsBlockLine g r) ls → Keeps g d → KeepsTaken (takes_all g r ls jobs d)
  keeps_takes r known [] jobs d all k = (k, (known, tt))
  keeps_takes r known (Runs job ∷ ls) jobs d all k = go (keeps_takes r known ls ((begun_count d.past r + 1) ∷ jobs) (begins r job d) all.1 (keeps_begins laws g d r job known all.0 k)) (may_begin d r jobs)
    where
      go : KeepsTaken (takes_all g r ls ((begun_count d.past r + 1) ∷ jobs) (begins r job d)) → (b : Bool)
          → KeepsTaken (if b then takes_all g r ls ((begun_count d.past r + 1) ∷ jobs) (begins r job d) else record { driver = d; left = record { repo = r; lines = Runs job ∷ ls; jobs = jobs } })
      go more true = more
      go more false = (k, (known, all))
  keeps_takes r known (Crashes clock ∷ ls) jobs d all k = keeps_takes r known ls jobs (crashes g r clock d) all.1 (keeps_crashes laws g d r clock known k)
  keeps_takes r known (Closes other ∷ ls) jobs d all k = go (keeps_takes r known ls jobs (closes g r other d) all.1 (keeps_closes laws g d r other known all.0.0 all.0.1 k)) (lacks_places d.past r other)
    where
      go : KeepsTaken (takes_all g r ls jobs (closes g r other d)) → (b : Bool)
          → KeepsTaken (if b then record { driver = d; left = record { repo = r; lines = Closes other ∷ ls; jobs = jobs } } else takes_all g r ls jobs (closes g r other d))
      go more true = (k, (known, all))
      go more false = more
  keeps_takes r known (Fails call ∷ ls) jobs d all k = keeps_takes r known ls jobs (will_fail r call d) all.1 (keeps_will_fail g d r call k)

  abbrev KeepsEach : Block → Type 0
  KeepsEach b = Keeps g b.driver × Each IsAgenda b.left

  pub keeps_each : (ags : List Agenda) (d : Driver) → Each IsAgenda ags → Keeps g d → Keeps g (takes_each g ags d).driver × Each IsAgenda (takes_each g ags d).left
  keeps_each [] d all k = (k, tt)
  keeps_each (a ∷ ags) d all k = go (lacks_next (takes g a d).driver.past a.repo (takes g a d).left.lines) (keeps_each ags (takes g a d).driver all.1 one.0)
    where
      one : KeepsTaken (takes g a d)
      one = keeps_takes a.repo all.0.0 a.lines a.jobs d all.0.1 k

      go : (b : Bool) → KeepsEach (takes_each g ags (takes g a d).driver)
          → KeepsEach (if b then record { driver = (takes g a d).driver; left = (takes g a d).left ∷ ags } else and_left (takes g a d).left (takes_each g ags (takes g a d).driver))
      go true rest = (one.0, (one.1, all.1))
      go false rest = (rest.0, (one.1, rest.1))

  abbrev pub KeepsBlocked : InBlock → Type 0
  KeepsBlocked x = Keeps g x.driver × Each IsAgenda x.left

  keeps_with_round : (x : InBlock) (b : Block) → Keeps g b.driver × Each IsAgenda b.left → KeepsBlocked (with_round g x b)
  keeps_with_round x b y = go (is_stuck b.driver b.left)
    where
      go : (c : Bool) → KeepsBlocked (if c then stuck_at b else block_at x b (round g b.driver))
      go true = y
      go false = (keeps_round b.driver y.0, y.1)

  pub keeps_block_round : (x : InBlock) → KeepsBlocked x → KeepsBlocked (block_round g x)
  keeps_block_round x k = go (is_over x)
    where
      go : (b : Bool) → KeepsBlocked (if b then x else with_round g x (takes_each g x.left x.driver))
      go true = k
      go false = keeps_with_round x (takes_each g x.left x.driver) (keeps_each x.left x.driver k.1 k.0)

  keeps_block_rounds : (n : ℕ) (x : InBlock) → KeepsBlocked x → KeepsBlocked (block_rounds g n x)
  keeps_block_rounds zero x k = keeps_block_round x k
  keeps_block_rounds (suc n) x k = go (keeps_block_rounds n (block_rounds g n x) (keeps_block_rounds n x k)) (is_over x)
    where
      go : KeepsBlocked (block_rounds g n (block_rounds g n x)) → (b : Bool) → KeepsBlocked (if b then x else block_rounds g n (block_rounds g n x))
      go more true = k
      go more false = more

  agenda_lines : (r : ℕ) (xs : List Agendum) → Each (IsAgendum g) xs → Each (IsBlockLine g r) (lines_for r xs)
  agenda_lines r [] all = tt
  agenda_lines r (x ∷ xs) all = go (agenda_lines r xs all.1) (x.repo == r) refl
    where
      go : Each (IsBlockLine g r) (lines_for r xs) → (b : Bool) → (x.repo == r) ≡ b → Each (IsBlockLine g r) (map (λ (x : Agendum). x.line) (cond b (x ∷ filter (λ (x : Agendum). x.repo == r) xs) (filter (λ (x : Agendum). x.repo == r) xs)))
      go more true i = (subst (λ k. IsBlockLine g k x.line) (eqb-true x.repo r i) all.0.1, more)
      go more false i = more

  pub agendas : (xs : List Agendum) → Each (IsAgendum g) xs → (rs : List ℕ) → Each (λ r. r < length g.repos) rs → Each IsAgenda (map (agenda xs) rs)
  agendas xs all [] known = tt
  agendas xs all (r ∷ rs) known = ((known.0, agenda_lines r xs all), agendas xs all rs known.1)

  keeps_after : (x : InBlock) → Keeps g x.driver → Keeps g (settles_after g x)
  keeps_after x k = go (is_stuck x.driver x.left)
    where
      go : (b : Bool) → Keeps g (if b then x.driver else settles g x.driver)
      go true = k
      go false = keeps_settles x.driver k

  keeps_blocks : (xs : List Agendum) → Each (IsAgendum g) xs → (d : Driver) → Keeps g d → Keeps g (blocks g xs d)
  keeps_blocks xs all d k =
      let b : InBlock = record { driver = d; left = map (agenda xs) (numbers g); idle = 0; took = true } in
      keeps_after (block_end g xs d) (keeps_block_rounds most_rounds b (k, agendas xs all (numbers g) (below_len 0 (length g.repos) (length g.repos) (omega arith)))).0

  -- ---- lines

  pub keeps_line : OwedKeys → (line : Command) (d : Driver) → IsOne g line → HasKeys d.tree → Keeps g d → Keeps g (does g line d)
  keeps_line keys (Does (Have r key bytes)) d x tree k = keeps_has laws g r x.0 d key bytes x.1.0 x.1.1 k
  keeps_line keys (Does (SetPart r key bytes)) d x tree k = keeps_part laws g r x d key bytes k
  keeps_line keys (Does (Add r path key bytes)) d x tree k = keeps_has laws g r x.0 (enters path key d) key bytes x.1.0 x.1.1 (keeps_enters laws g d path key x.1.0 k)
  keeps_line keys (Does (File path key)) d x tree k = keeps_enters laws g d path key x k
  keeps_line keys (Does (Set r kind topic value)) d x tree k = keeps_writes laws g d r (Of kind) (setting_line g d r kind topic value) x.0 x.1 (λ e. absurd (cc)) (written_line kind topic _ value x.2 x.3) k
  keeps_line keys (Does (Raw r file line)) d x tree k = keeps_writes laws g d r file line x.0 x.1 x.2 x.3 k
  keeps_line keys (Does (Merge r other)) d x tree k = keeps_merges laws g r x keys d other k
  keeps_line keys (Does (Compact r)) d x tree k = keeps_compacts laws g r x d k
  keeps_line keys (Does (Sync r)) d x tree k = keeps_syncs keys r x d tree k
  keeps_line keys (Does (Begin r job)) d x tree k = keeps_begins laws g d r job x.0 x.1 k
  keeps_line keys (Does (Run r job)) d x tree k = keeps_settles (begins r job d) (keeps_begins laws g d r job x.0 x.1 k)
  keeps_line keys (Does (Turns r n)) d x tree k = keeps_turns r n x d k
  keeps_line keys (Does Settle) d x tree k = keeps_settles d k
  keeps_line keys (Does (Close r other)) d x tree k = keeps_closes laws g d r other x.0 x.1.0 x.1.1 k
  keeps_line keys (Does (Crash r clock)) d x tree k = keeps_crashes laws g d r clock x k
  keeps_line keys (Does (Wait milliseconds)) d x tree k = keeps_waits laws g d milliseconds k
  keeps_line keys (Does (Fail r call)) d x tree k = keeps_will_fail g d r call k
  keeps_line keys (Par lines) d x tree k = keeps_blocks lines x d k
  keeps_line keys (Repo name id offset version locks) d x tree k = k
  keeps_line keys (Damage r key bytes) d x tree k = k
  keeps_line keys (Shows what) d x tree k = k

  pub keeps_marked : (d : Driver) → Keeps g d → Keeps g (with_mark d)
  keeps_marked d k fits = let h = k fits in record { run = laws.command (run_with g d) (with_mark d).marks h.run; flies = h.flies; order = h.order; down = h.down; apart = h.apart; openings = h.openings; turn = h.turn; parts = h.parts; keys = h.keys }

  -- the change of the tree by a line that names a path, which is one of a key
  abbrev Names : Command → Driver → Type 0
  Names line d = (m : TreeMark) × IsKeyText m.key × ((does g line d).tree ≡ d.tree ++ m ∷ [])

  names_key : (line : Command) (d : Driver) → names_path line ≡ true → IsOne g line → Names line d
  names_key (Does (Add r path key bytes)) d i x = (record { place = length d.past; path = path; key = key }, x.1.0, has_tree g r key bytes (enters path key d))
  names_key (Does (File path key)) d i x = (record { place = length d.past; path = path; key = key }, x, refl)
  names_key line d i x = absurd (cc)

  pub line_keys : (line : Command) (d : Driver) → IsOne g line → HasKeys d.tree → HasKeys (does g line d).tree
  line_keys line d x tree = go (names_path line) refl
    where
      go : (b : Bool) → names_path line ≡ b → HasKeys (does g line d).tree
      go true i = let named = names_key line d i x in subst HasKeys (sym named.2) (Each-push (λ (m : TreeMark). IsKeyText m.key) d.tree named.0 tree named.1)
      go false i = subst HasKeys (sym (line_tree g line d i)) tree

  keeps_drives : OwedKeys → (lines : List Command) (d : Driver) → Each (IsOne g) lines → HasKeys d.tree → Keeps g d → Keeps g (drives g lines d)
  keeps_drives keys [] d all tree k = k
  keeps_drives keys (line ∷ lines) d all tree k =
      keeps_drives keys lines (with_mark (does g line d)) all.1 (line_keys line d all.0 tree) (keeps_marked (does g line d) (keeps_line keys line d all.0 tree k))

  pub first_holds : Each IsSetUp g.repos → IsSound g at_first
  first_holds repos = record { run = laws.first (run_with g at_first) repos refl; flies = λ r a n. inr (record { inside = omega arith; same = refl }); order = λ r a n. order_begins r a n; down = tt; apart = tt; openings = tt; turn = tt; parts = tt; keys = tt }

-- what the driver makes of a script within bounds is a run
pub driver_is_run : Laws → OwedKeys → (g : DriverInput) (lines : List Command) → Each IsSetUp g.repos → Each (IsOne g) lines → HasBoundedPast (driver_after g lines) → IsRun (run_of g lines)
driver_is_run laws keys g lines repos all fits = (keeps_drives laws g keys lines at_first all tt (λ f. first_holds laws g repos) fits).run
