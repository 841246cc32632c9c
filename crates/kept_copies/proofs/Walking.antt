-- Each line of a script that writes into no trust log, and each turn, adds entries that write into none.
use Rattle.std.proofs.Common.{◌≡◌, ◌≢◌, ℕ, zero, suc, ◌+◌, Bool, true, false, List, [], ◌∷◌, Option, Some, None, refl, sym, subst}
use Rattle.std.specs.Prelude.{filter, if◌then◌else◌, length, map, nat_lt, not}
use Rattle.annex_base.specs.Lists.{Each}
use Rattle.annex_base.specs.declared.kinds.Call.{Call}
use Rattle.annex_base.specs.declared.kinds.Call.TheVariants as calls
use Rattle.union_merge.specs.Branch.{Files}
use Rattle.run_data.specs.declared.entry.EntryKind.{EntryKind}
use Rattle.run_data.specs.declared.entry.EntryKind.TheVariants as kinds
use Rattle.run_data.specs.declared.entry.FrameText.{FrameText}
use Rattle.run_data.specs.declared.entry.FrameText.TheVariants.{Bytes, Line}
use Rattle.run_data.specs.declared.entry.FrameView.{FrameView}
use Rattle.run_data.specs.declared.entry.LogFile.{LogFile}
use Rattle.run_data.specs.declared.entry.LogFile.TheVariants.{Location, Of}
use Rattle.run_data.specs.declared.job.Job.{Job}
use Rattle.run_data.specs.Files.{file_of, file_path, kind_of}
use Rattle.run_data.specs.Repos.{id_of}
use Rattle.node_model.specs.AnyTime.{close_at}
use Rattle.node_model.specs.Ends.{EndName}
use Rattle.node_model.specs.Look.{Look, Effect, entry_of}
use Rattle.node_model.specs.OwedLines.{if_new, status_line}
use Rattle.node_model.specs.Sessions.{line_in, message_said}
use Rattle.node_model.specs.SetUp.{SetUp}
use Rattle.node_model.specs.State.{State}
use Rattle.node_model.specs.Step.{step}
use Rattle.run_model.specs.Logs.{branch}
use Rattle.run_model.specs.Past.{begun_count}
use Rattle.run_model.specs.States.{end_at, works}
use Rattle.wanted_rules.specs.declared.action.Action.{Action as Planned}
use Rattle.script_commands.specs.declared.command.Action.{Action}
use Rattle.script_commands.specs.declared.command.Action.TheVariants.{Have, SetPart, Add, File, Set, Raw, Merge, Compact, Sync, Begin, Run, Turns, Settle, Close, Crash, Wait, Fail}
use Rattle.script_commands.specs.declared.command.Agendum.{Agendum}
use Rattle.script_commands.specs.declared.command.BlockLine.{BlockLine}
use Rattle.script_commands.specs.declared.command.BlockLine.TheVariants.{Runs, Crashes, Closes, Fails}
use Rattle.script_commands.specs.declared.command.Command.{Command}
use Rattle.script_commands.specs.declared.command.Command.TheVariants.{Repo, Does, Damage, Par, Shows}
use Rattle.driver_model.specs.Driver.{Driver, DriverInput, adds, drops_part, fails_at, notes, puts_part, set_up_of, state_at, without_old_flights}
use Rattle.driver_model.specs.Driving.{acts, does, turns}
use Rattle.driver_model.specs.Rounds.{Agenda, Block, InBlock, AfterRounds, agenda, and_left, block_at, block_end, block_round, block_rounds, blocks, after_round, goes_round, is_over, is_settled, is_stuck, lacks_next, may_begin, most_rounds, numbers, round, rounds, settles, settles_after, stuck_at, takes, takes_all, takes_each, turns_of, with_round}
use Rattle.driver_model.specs.Scripts.{IsOne, IsOneAction}
use Rattle.driver_model.specs.ScriptSteps.{begins, begins_part, closes, closes_each, closes_end, compacts, compacts_files, crashes, ends_at, enters, faults, fills_up, gains, gets_content, has, is_busy, is_nil, lacks_places, lines_of, logs, logs_some, logs_status, merges, merges_files, news, sends, sets_part, setting_line, shrinks, unknown_lines, unless_busy, unless_fails, wall_of, will_fail, writes}
use Rattle.driver_model.specs.Syncs.{carries_out, drops_spared, each_merges, is_transfer, job_for, merges_each, numbers_but, plan_at, shares_logs, syncs, transfers}
use Rattle.driver_model.specs.Turning.{asked_key, bytes_taken, is_failure, is_valid, look_for, looks, makes, plain_look, store_after, takes_frame, takes_into, turn}
use Rattle.kept_copies.specs.Scripts.{sets_trust, writes_trust}
use Rattle.kept_copies.proofs.TrustFiles.{FileLaws, IsApart, IsPlain, LogNoTrust, branch_plain, file_apart, location_apart, logs_trust, step_logs}

-- the entries so far write into no trust log
abbrev pub IsFree : Driver → Type 0
IsFree d = LogNoTrust d.past

either_free : (b : Bool) (d other : Driver) → IsFree d → IsFree other → IsFree (if b then d else other)
either_free true d other h k = h
either_free false d other h k = k

-- ---- what a turn leaves of the store isn't in the past

into_past : (r : ℕ) (key bytes : List ℕ) (body : FrameText) (sent : List FrameView) (d : Driver) → (takes_into r key bytes body sent d).past ≡ d.past
into_past r key bytes (Bytes n) [] d = refl
into_past r key bytes (Line text) sent d = go (is_valid (line_in (Line text))) (is_failure (message_said sent))
  where
    go : (b c : Bool) → (if b then (if c then drops_part r key d else d) else d).past ≡ d.past
    go true true = refl
    go true false = refl
    go false c = refl
into_past r key bytes body sent d = refl

frame_past : (r : ℕ) (bytes : List ℕ) (key : Option (List ℕ)) (taken : Option FrameView) (sent : List FrameView) (d : Driver) → (takes_frame r bytes key taken sent d).past ≡ d.past
frame_past r bytes (Some key) (Some f) sent d = into_past r key bytes f.body sent d
frame_past r bytes key taken sent d = refl

store_past : (st : State) (r : ℕ) (m : Effect) (bytes : List ℕ) (kind : EntryKind) (d : Driver) → (store_after st r m bytes kind d).past ≡ d.past
store_past st r m bytes (kinds.Gain by size key) d = refl
store_past st r m bytes (kinds.Gone by key) d = refl
store_past st r m bytes (kinds.Talk job) d = frame_past r bytes (asked_key st m) m.taken m.sent d
store_past st r m bytes (kinds.Fault call by) d = refl
store_past st r m bytes kind d = refl

-- ---- store calls and compactions

calling_free : (d done : Driver) (r : ℕ) (call : Call) → IsFree d → IsFree done → IsFree (unless_fails r call d done)
calling_free d done r call h x = go (fails_at d r call)
  where
    go : (b : Bool) → IsFree (if b then faults r call d else done)
    go true = (refl, h)
    go false = x

logs_free : (r : ℕ) (file : LogFile) (lines : List (List ℕ)) (d : Driver) → IsApart (file_path file) → IsFree d → IsFree (logs r file lines d)
logs_free r file lines d apart h = calling_free d (notes r (kinds.Log file) lines d) r calls.PutFile h (apart, h)

some_free : (r : ℕ) (file : LogFile) (lines : List (List ℕ)) (d : Driver) → IsApart (file_path file) → IsFree d → IsFree (logs_some r file lines d)
some_free r file [] d apart h = h
some_free r file (line ∷ lines) d apart h = logs_free r file (line ∷ lines) d apart h

writes_free : (r : ℕ) (file : LogFile) (line : List ℕ) (d : Driver) → IsApart (file_path file) → IsFree d → IsFree (writes r file line d)
writes_free r file line d apart h = some_free r file (unknown_lines d r file (line ∷ [])) d apart h

compacted_free : (r : ℕ) (files : Files) (d : Driver) → IsFree d → IsFree (compacts_files r files d)
compacted_free r [] d h = h
compacted_free r (f ∷ files) d h = go (compacted_free r files d h) (compacted_free r files shorter (refl, h)) (not (shrinks d r (file_of f.0))) (fails_at d r calls.PutFile)
  where
    shorter : Driver
    shorter = notes r (kinds.Compact (file_of f.0)) [] d

    go : IsFree (compacts_files r files d) → IsFree (compacts_files r files shorter) → (b c : Bool)
        → IsFree (if b then compacts_files r files d else (if c then faults r calls.PutFile d else compacts_files r files shorter))
    go same more true c = same
    go same more false true = (refl, h)
    go same more false false = more

compacts_free : (r : ℕ) (d : Driver) → IsFree d → IsFree (compacts r d)
compacts_free r d h = compacted_free r (branch d.past r) d h

-- ---- jobs, connections and crashes

begins_free : (r : ℕ) (job : Job) (d : Driver) → IsFree d → IsFree (begins r job d)
begins_free r job d h = go (nat_lt (length (works d.past r)) 4)
  where
    go : (b : Bool) → IsFree (if b then notes r (kinds.Begin (begun_count d.past r + 1) job) [] d else d)
    go true = (refl, h)
    go false = h

close_free : (g : DriverInput) (r : ℕ) (a : EndName) (d : Driver) → IsFree d → IsFree (closes_end g r a d)
close_free g r a d h = go (end_at d.past r a).opened
  where
    go : (b : Bool) → IsFree (if b then sends g r (kinds.Close a.peer a.slot a.client) (close_at (set_up_of g d r) (state_at g d r) a) d else d)
    go true = (refl, h)
    go false = h

each_free : (g : DriverInput) (r : ℕ) (ends : List EndName) (d : Driver) → IsFree d → IsFree (closes_each g r ends d)
each_free g r [] d h = h
each_free g r (a ∷ ends) d h = each_free g r ends (closes_end g r a d) (close_free g r a d h)

closes_free : (g : DriverInput) (r other : ℕ) (d : Driver) → IsFree d → IsFree (closes g r other d)
closes_free g r other d h = go (lacks_places d.past r other)
  where
    go : (b : Bool) → IsFree (if b then d else closes_each g r (ends_at other) d)
    go true = h
    go false = each_free g r (ends_at other) d h

crashes_free : (g : DriverInput) (r clock : ℕ) (d : Driver) → IsFree d → IsFree (crashes g r clock d)
crashes_free g r clock d h = (refl, h)

module _ (laws : FileLaws) where
  -- ---- merges and contents

  merged_free : (r : ℕ) (files : Files) (d : Driver) → Each IsPlain files → IsFree d → IsFree (merges_files r files d)
  merged_free r [] d all h = h
  merged_free r (f ∷ files) d all h = go (merged_free r files d all.1 h) (merged_free r files written all.1 (apart, h)) (is_nil (news d r f.0 f.1)) (fails_at d r calls.PutFile)
    where
      written : Driver
      written = notes r (kinds.Log (file_of f.0)) (news d r f.0 f.1) d

      apart : IsApart (file_path (file_of f.0))
      apart = subst IsApart (sym (laws.again f.0)) all.0

      go : IsFree (merges_files r files d) → IsFree (merges_files r files written) → (b c : Bool)
          → IsFree (if b then merges_files r files d else (if c then faults r calls.PutFile d else merges_files r files written))
      go same more true c = same
      go same more false true = (refl, h)
      go same more false false = more

  merges_free : (r other : ℕ) (d : Driver) → IsFree d → IsFree (merges r other d)
  merges_free r other d h = merged_free r (branch d.past other) d (branch_plain d.past other h) h

  status_free : (g : DriverInput) (r : ℕ) (key : List ℕ) (d : Driver) → IsFree d → IsFree (logs_status g r key d)
  status_free g r key d h =
      logs_free r (Location key) (if_new (lines_of d r (Location key)) (status_line (lines_of d r (Location key)) (id_of g.repos r) true (wall_of g d r))) d (location_apart laws key) h

  gains_free : (g : DriverInput) (r : ℕ) (key bytes : List ℕ) (d : Driver) → IsFree d → IsFree (gains g r key bytes d)
  gains_free g r key bytes d h = status_free g r key (gets_content r key bytes d) (refl, h)

  fills_free : (g : DriverInput) (r : ℕ) (key bytes : List ℕ) (d : Driver) → IsFree d → IsFree (fills_up g r key bytes d)
  fills_free g r key bytes d h = go (fails_at d r calls.Append)
    where
      put : Driver
      put = puts_part r key bytes d

      go : (b : Bool) → IsFree (if b then faults r calls.Append d else unless_fails r calls.Commit (puts_part r key bytes d) (gains g r key bytes (puts_part r key bytes d)))
      go true = (refl, h)
      go false = calling_free put (gains g r key bytes put) r calls.Commit h (gains_free g r key bytes put h)

  unless_free : (g : DriverInput) (r : ℕ) (key : List ℕ) (d done : Driver) → IsFree d → IsFree done → IsFree (unless_busy g r key d done)
  unless_free g r key d done h x = calling_free d (if is_busy g d r key then d else unless_fails r calls.DropPart d done) r calls.Has h (go (is_busy g d r key))
    where
      go : (b : Bool) → IsFree (if b then d else unless_fails r calls.DropPart d done)
      go true = h
      go false = calling_free d done r calls.DropPart h x

  has_free : (g : DriverInput) (r : ℕ) (key bytes : List ℕ) (d : Driver) → IsFree d → IsFree (has g r key bytes d)
  has_free g r key bytes d h = unless_free g r key d (fills_up g r key bytes (drops_part r key d)) h (fills_free g r key bytes (drops_part r key d) h)

  part_free : (g : DriverInput) (r : ℕ) (key bytes : List ℕ) (d : Driver) → IsFree d → IsFree (sets_part g r key bytes d)
  part_free g r key bytes d h = unless_free g r key d (begins_part r key bytes (drops_part r key d)) h
      (calling_free (drops_part r key d) (puts_part r key bytes (drops_part r key d)) r calls.Append h h)

  -- ---- turns, and rounds of them

  makes_free : (st : State) (r : ℕ) (k : Look) (o : Option Effect) (d : Driver) → ((m : Effect) → o ≡ Some m → logs_trust m.kind ≡ false) → IsFree d → IsFree (makes st r k o d)
  makes_free st r k None d apart h = h
  makes_free st r k (Some m) d apart h = subst LogNoTrust (sym (store_past st r m (bytes_taken r m.taken d) m.kind (adds st r (entry_of r k m) d))) (apart m refl, h)

  looks_free : (g : DriverInput) (r : ℕ) (s : SetUp) (st : State) (o : Option Effect) (d : Driver) → IsFree d → IsFree (looks g r s st o d)
  looks_free g r s st None d h = h
  looks_free g r s st (Some m) d h =
      makes_free st r (look_for g d r s st m) (step s st (look_for g d r s st m)) d (λ made is. step_logs laws s st (look_for g d r s st m) made (laws.finds s st (look_for g d r s st m) made is)) h

  turn_free : (g : DriverInput) (r : ℕ) (d : Driver) → IsFree d → IsFree (turn g r d)
  turn_free g r d h =
      let c : Driver = without_old_flights (state_at g d r) r d in
      looks_free g r (set_up_of g d r) (state_at g d r) (step (set_up_of g d r) (state_at g d r) (plain_look (set_up_of g d r) c)) c h

  turns_free : (g : DriverInput) (r n : ℕ) (d : Driver) → IsFree d → IsFree (turns g r n d)
  turns_free g r zero d h = h
  turns_free g r (suc n) d h = turns_free g r n (turn g r d) (turn_free g r d h)

  turns_of_free : (g : DriverInput) (rs : List ℕ) (d : Driver) → IsFree d → IsFree (turns_of g rs d)
  turns_of_free g [] d h = h
  turns_of_free g (r ∷ rs) d h = turns_of_free g rs (turn g r d) (turn_free g r d h)

  round_free : (g : DriverInput) (d : Driver) → IsFree d → IsFree (round g d)
  round_free g d h = turns_of_free g (numbers g) d h

  goes_free : (g : DriverInput) (x : AfterRounds) → IsFree x.driver → IsFree (goes_round g x).driver
  goes_free g x h = go (is_settled x)
    where
      go : (b : Bool) → IsFree (if b then x else after_round x (round g x.driver)).driver
      go true = h
      go false = round_free g x.driver h

  rounds_free : (g : DriverInput) (n : ℕ) (x : AfterRounds) → IsFree x.driver → IsFree (rounds g n x).driver
  rounds_free g zero x h = goes_free g x h
  rounds_free g (suc n) x h = go (rounds_free g n (rounds g n x) (rounds_free g n x h)) (is_settled x)
    where
      go : IsFree (rounds g n (rounds g n x)).driver → (b : Bool) → IsFree (if b then x else rounds g n (rounds g n x)).driver
      go more true = h
      go more false = more

  settles_free : (g : DriverInput) (d : Driver) → IsFree d → IsFree (settles g d)
  settles_free g d h = rounds_free g most_rounds (record { driver = d; idle = 0 }) h

  -- ---- blocks

  takes_free : (g : DriverInput) (r : ℕ) (ls : List BlockLine) (jobs : List ℕ) (d : Driver) → IsFree d → IsFree (takes_all g r ls jobs d).driver
  takes_free g r [] jobs d h = h
  takes_free g r (Runs job ∷ ls) jobs d h = go (takes_free g r ls ((begun_count d.past r + 1) ∷ jobs) (begins r job d) (begins_free r job d h)) (may_begin d r jobs)
    where
      go : IsFree (takes_all g r ls ((begun_count d.past r + 1) ∷ jobs) (begins r job d)).driver → (b : Bool)
          → IsFree (if b then takes_all g r ls ((begun_count d.past r + 1) ∷ jobs) (begins r job d) else record { driver = d; left = record { repo = r; lines = Runs job ∷ ls; jobs = jobs } }).driver
      go more true = more
      go more false = h
  takes_free g r (Crashes clock ∷ ls) jobs d h = takes_free g r ls jobs (crashes g r clock d) (crashes_free g r clock d h)
  takes_free g r (Closes other ∷ ls) jobs d h = go (takes_free g r ls jobs (closes g r other d) (closes_free g r other d h)) (lacks_places d.past r other)
    where
      go : IsFree (takes_all g r ls jobs (closes g r other d)).driver → (b : Bool)
          → IsFree (if b then record { driver = d; left = record { repo = r; lines = Closes other ∷ ls; jobs = jobs } } else takes_all g r ls jobs (closes g r other d)).driver
      go more true = h
      go more false = more
  takes_free g r (Fails call ∷ ls) jobs d h = takes_free g r ls jobs (will_fail r call d) h

  agendas_free : (g : DriverInput) (ags : List Agenda) (d : Driver) → IsFree d → IsFree (takes_each g ags d).driver
  agendas_free g [] d h = h
  agendas_free g (a ∷ ags) d h = go taken (agendas_free g ags (takes g a d).driver taken) (lacks_next (takes g a d).driver.past a.repo (takes g a d).left.lines)
    where
      taken : IsFree (takes g a d).driver
      taken = takes_free g a.repo a.lines a.jobs d h

      go : IsFree (takes g a d).driver → IsFree (takes_each g ags (takes g a d).driver).driver → (b : Bool)
          → IsFree (if b then record { driver = (takes g a d).driver; left = (takes g a d).left ∷ ags } else and_left (takes g a d).left (takes_each g ags (takes g a d).driver)).driver
      go own more true = own
      go own more false = more

  with_round_free : (g : DriverInput) (x : InBlock) (b : Block) → IsFree b.driver → IsFree (with_round g x b).driver
  with_round_free g x b h = go (is_stuck b.driver b.left)
    where
      go : (c : Bool) → IsFree (if c then stuck_at b else block_at x b (round g b.driver)).driver
      go true = h
      go false = round_free g b.driver h

  block_free : (g : DriverInput) (x : InBlock) → IsFree x.driver → IsFree (block_round g x).driver
  block_free g x h = go (is_over x)
    where
      go : (b : Bool) → IsFree (if b then x else with_round g x (takes_each g x.left x.driver)).driver
      go true = h
      go false = with_round_free g x (takes_each g x.left x.driver) (agendas_free g x.left x.driver h)

  block_rounds_free : (g : DriverInput) (n : ℕ) (x : InBlock) → IsFree x.driver → IsFree (block_rounds g n x).driver
  block_rounds_free g zero x h = block_free g x h
  block_rounds_free g (suc n) x h = go (block_rounds_free g n (block_rounds g n x) (block_rounds_free g n x h)) (is_over x)
    where
      go : IsFree (block_rounds g n (block_rounds g n x)).driver → (b : Bool) → IsFree (if b then x else block_rounds g n (block_rounds g n x)).driver
      go more true = h
      go more false = more

  after_free : (g : DriverInput) (x : InBlock) → IsFree x.driver → IsFree (settles_after g x)
  after_free g x h = either_free (is_stuck x.driver x.left) x.driver (settles g x.driver) h (settles_free g x.driver h)

  blocks_free : (g : DriverInput) (xs : List Agendum) (d : Driver) → IsFree d → IsFree (blocks g xs d)
  blocks_free g xs d h = after_free g (block_end g xs d) (block_rounds_free g most_rounds (record { driver = d; left = map (agenda xs) (numbers g); idle = 0; took = true }) h)

  -- ---- syncs

  merges_each_free : (r : ℕ) (others : List ℕ) (d : Driver) → IsFree d → IsFree (merges_each r others d)
  merges_each_free r [] d h = h
  merges_each_free r (other ∷ others) d h = merges_each_free r others (merges r other d) (merges_free r other d h)

  each_merges_free : (r : ℕ) (others : List ℕ) (d : Driver) → IsFree d → IsFree (each_merges r others d)
  each_merges_free r [] d h = h
  each_merges_free r (other ∷ others) d h = each_merges_free r others (merges other r d) (merges_free other r d h)

  shares_free : (g : DriverInput) (r : ℕ) (d : Driver) → IsFree d → IsFree (shares_logs g r d)
  shares_free g r d h =
      each_merges_free r (numbers_but g r) (merges_each r (numbers_but g r) (settles g d)) (merges_each_free r (numbers_but g r) (settles g d) (settles_free g d h))

  carries_free : (g : DriverInput) (r : ℕ) (actions : List Planned) (d : Driver) → IsFree d → IsFree (carries_out g r actions d)
  carries_free g r [] d h = h
  carries_free g r (action ∷ actions) d h =
      carries_free g r actions (settles g (begins r (job_for action) d)) (settles_free g (begins r (job_for action) d) (begins_free r (job_for action) d h))

  transfers_free : (g : DriverInput) (r : ℕ) (d : Driver) → IsFree d → IsFree (transfers g r d)
  transfers_free g r d h = carries_free g r (filter is_transfer (plan_at g r d)) d h

  spared_free : (g : DriverInput) (r : ℕ) (d : Driver) → IsFree d → IsFree (drops_spared g r d)
  spared_free g r d h = carries_free g r (filter (λ action. not (is_transfer action)) (plan_at g r d)) d h

  syncs_free : (g : DriverInput) (r : ℕ) (d : Driver) → IsFree d → IsFree (syncs g r d)
  syncs_free g r d h = shares_free g r (drops_spared g r brought) (spared_free g r brought (transfers_free g r shared (shares_free g r d h)))
    where
      shared : Driver
      shared = shares_logs g r d

      brought : Driver
      brought = transfers g r shared

  -- ---- lines

  action_free : (g : DriverInput) (action : Action) (d : Driver) → IsOneAction g action → writes_trust action ≡ false → IsFree d → IsFree (acts g action d)
  action_free g (Have r key bytes) d one off h = has_free g r key bytes d h
  action_free g (SetPart r key bytes) d one off h = part_free g r key bytes d h
  action_free g (Add r path key bytes) d one off h = has_free g r key bytes (enters path key d) h
  action_free g (File path key) d one off h = h
  action_free g (Set r kind topic value) d one off h = writes_free r (Of kind) (setting_line g d r kind topic value) d (file_apart laws (Of kind) off known) h
    where
      known : kind_of (Of kind) ≢ None
      known e = cc
  action_free g (Raw r file line) d one off h = writes_free r file line d (file_apart laws file off one.2) h
  action_free g (Merge r other) d one off h = merges_free r other d h
  action_free g (Compact r) d one off h = compacts_free r d h
  action_free g (Sync r) d one off h = syncs_free g r d h
  action_free g (Begin r job) d one off h = begins_free r job d h
  action_free g (Run r job) d one off h = settles_free g (begins r job d) (begins_free r job d h)
  action_free g (Turns r n) d one off h = turns_free g r n d h
  action_free g Settle d one off h = settles_free g d h
  action_free g (Close r other) d one off h = closes_free g r other d h
  action_free g (Crash r clock) d one off h = crashes_free g r clock d h
  action_free g (Wait milliseconds) d one off h = (refl, h)
  action_free g (Fail r call) d one off h = h

  pub line_free : (g : DriverInput) (line : Command) (d : Driver) → IsOne g line → sets_trust line ≡ false → IsFree d → IsFree (does g line d)
  line_free g (Does action) d one off h = action_free g action d one off h
  line_free g (Par lines) d one off h = blocks_free g lines d h
  line_free g (Repo name id offset version locks) d one off h = h
  line_free g (Damage r key bytes) d one off h = h
  line_free g (Shows what) d one off h = h
