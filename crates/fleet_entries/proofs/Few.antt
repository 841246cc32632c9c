-- The steps of the driver count their entries one by one, and none adds a wait but that of a line that waits.
use Rattle.std.proofs.Common.{◌≡◌, ℕ, zero, suc, ◌+◌, ◌≤◌, Bool, true, false, List, [], ◌∷◌, Option, Some, None, refl, sym, subst, arith}
use Rattle.std.specs.Prelude.{filter, if◌then◌else◌, is_none, length, nat_lt, not}
use Rattle.annex_base.specs.declared.kinds.Call.{Call}
use Rattle.log_lines.specs.declared.entry.LogKind.{LogKind}
use Rattle.log_lines.specs.declared.entry.Topic.{Topic}
use Rattle.log_lines.specs.declared.entry.Value.{Value}
use Rattle.union_merge.specs.Branch.{Files}
use Rattle.run_data.specs.declared.entry.Entry.{Entry}
use Rattle.run_data.specs.declared.entry.EntryKind.{EntryKind}
use Rattle.run_data.specs.declared.entry.EntryKind.TheVariants.{Gain, Gone, Talk, Fault}
use Rattle.run_data.specs.declared.entry.FrameText.{FrameText}
use Rattle.run_data.specs.declared.entry.FrameText.TheVariants.{Bytes, Line as LineOf}
use Rattle.run_data.specs.declared.entry.FrameView.{FrameView}
use Rattle.run_data.specs.declared.entry.LogFile.{LogFile}
use Rattle.run_data.specs.declared.entry.LogFile.TheVariants.{Of}
use Rattle.run_data.specs.declared.job.Job.{Job}
use Rattle.run_data.specs.Files.{file_of}
use Rattle.run_model.specs.Logs.{branch}
use Rattle.run_model.specs.Past.{begun_count}
use Rattle.run_model.specs.States.{end_at, works}
use Rattle.wanted_rules.specs.declared.action.Action.{Action}
use Rattle.node_model.specs.AnyTime.{close_at}
use Rattle.node_model.specs.Ends.{EndName}
use Rattle.node_model.specs.Look.{Look, Effect, entry_of}
use Rattle.node_model.specs.Sessions.{line_in, message_said}
use Rattle.node_model.specs.SetUp.{SetUp}
use Rattle.node_model.specs.State.{State}
use Rattle.node_model.specs.Step.{step}
use Rattle.driver_model.specs.Driver.{Driver, DriverInput, adds, drops_part, fails_at, newest_count, notes, puts_part, set_up_of, state_at, without_old_flights}
use Rattle.driver_model.specs.Driving.{turns}
use Rattle.driver_model.specs.Rounds.{AfterRounds, after_round, goes_round, is_settled, most_rounds, numbers, round, rounds, settles, turns_of}
use Rattle.driver_model.specs.ScriptSteps.{begins, begins_part, closes, closes_each, closes_end, compacts, compacts_files, crashes, ends_at, faults, fills_up, gains, has, is_busy, is_nil, lacks_places, logs, logs_some, merges, merges_files, news, sends, sets, sets_part, setting_line, shrinks, unknown_lines, unless_fails, waits, writes}
use Rattle.driver_model.specs.Syncs.{carries_out, drops_spared, each_merges, is_transfer, job_for, merges_each, numbers_but, plan_at, shares_logs, syncs, transfers}
use Rattle.driver_model.specs.Turning.{asked_key, bytes_taken, is_failure, is_valid, look_for, looks, makes, plain_look, store_after, takes_frame, takes_into, turn}
use Rattle.fleet_model.specs.Settling.{goes_rounds}
use Rattle.fleet_entries.specs.AtDriver.{IsFew, is_wait}
use Rattle.annex_base.specs.declared.kinds.Call.TheVariants as calls
use Rattle.run_data.specs.declared.entry.EntryKind.TheVariants as kinds

-- ---- a turn's store leaves the entries as they are

into_past : (r : ℕ) (key bytes : List ℕ) (body : FrameText) (sent : List FrameView) (d : Driver) → (takes_into r key bytes body sent d).past ≡ d.past
into_past r key bytes (Bytes n) [] d = refl
into_past r key bytes (LineOf text) sent d = go (is_valid (line_in (LineOf text))) (is_failure (message_said sent))
  where
    go : (b c : Bool) → (if b then (if c then drops_part r key d else d) else d).past ≡ d.past
    go true true = refl
    go true false = refl
    go false c = refl
into_past r key bytes body sent d = refl

frame_past : (r : ℕ) (bytes : List ℕ) (key : Option (List ℕ)) (taken : Option FrameView) (sent : List FrameView) (d : Driver) → (takes_frame r bytes key taken sent d).past ≡ d.past
frame_past r bytes (Some key) (Some f) sent d = into_past r key bytes f.body sent d
frame_past r bytes key taken sent d = refl

store_past : (st : State) (r : ℕ) (m : Effect) (bytes : List ℕ) (kind : EntryKind) (d : Driver) → (store_after st r m bytes kind d).past ≡ d.past
store_past st r m bytes (Gain by size key) d = refl
store_past st r m bytes (Gone by key) d = refl
store_past st r m bytes (Talk job) d = frame_past r bytes (asked_key st m) m.taken m.sent d
store_past st r m bytes (Fault call by) d = refl
store_past st r m bytes kind d = refl

-- ---- one entry more

-- of a repository
one : (most : ℕ) (past : List Entry) (e : Entry) → e.count ≡ newest_count past + 1 → is_none e.repo ≡ false → IsFew most past → IsFew most (e ∷ past)
one most past e counted own few = record {
  waits = subst (λ (b : Bool). length (if b then e ∷ filter is_wait past else filter is_wait past) ≤ most) (sym own) few.waits;
  count = let below = few.count in omega (arith, counted, below);
}

-- a wait
pub waits_few : (most milliseconds : ℕ) (d : Driver) → IsFew most d.past → IsFew (most + 1) (waits milliseconds d).past
waits_few most milliseconds d few = let count = few.count in let waits = few.waits in record { waits = omega (arith, waits); count = omega (arith, count) }

-- more may be allowed
pub fewer : (most more : ℕ) (past : List Entry) → most ≤ more → IsFew most past → IsFew more past
fewer most more past less few = let waits = few.waits in record { waits = omega (arith, waits, less); count = few.count }

module _ (most : ℕ) where
  abbrev Few : Driver → Type 0
  Few d = IsFew most d.past

  -- ---- store calls and lines

  calling_few : (r : ℕ) (call : Call) (d done : Driver) → Few d → Few done → Few (unless_fails r call d done)
  calling_few r call d done few x = go (fails_at d r call)
    where
      go : (b : Bool) → Few (if b then faults r call d else done)
      go true = one most d.past _ refl refl few
      go false = x

  logs_few : (r : ℕ) (file : LogFile) (lines : List (List ℕ)) (d : Driver) → Few d → Few (logs r file lines d)
  logs_few r file lines d few = calling_few r calls.PutFile d (notes r (kinds.Log file) lines d) few (one most d.past _ refl refl few)

  some_few : (r : ℕ) (file : LogFile) (lines : List (List ℕ)) (d : Driver) → Few d → Few (logs_some r file lines d)
  some_few r file [] d few = few
  some_few r file (line ∷ lines) d few = logs_few r file (line ∷ lines) d few

  pub writes_few : (r : ℕ) (file : LogFile) (line : List ℕ) (d : Driver) → Few d → Few (writes r file line d)
  writes_few r file line d few = some_few r file (unknown_lines d r file (line ∷ [])) d few

  pub sets_few : (g : DriverInput) (r : ℕ) (kind : LogKind) (topic : Topic) (value : Value) (d : Driver) → Few d → Few (sets g r kind topic value d)
  sets_few g r kind topic value d few = writes_few r (Of kind) (setting_line g d r kind topic value) d few

  merged_few : (r : ℕ) (files : Files) (d : Driver) → Few d → Few (merges_files r files d)
  merged_few r [] d few = few
  merged_few r (f ∷ files) d few = go (merged_few r files d few) (merged_few r files written (one most d.past _ refl refl few)) (is_nil (news d r f.0 f.1)) (fails_at d r calls.PutFile)
    where
      written : Driver
      written = notes r (kinds.Log (file_of f.0)) (news d r f.0 f.1) d

      go : Few (merges_files r files d) → Few (merges_files r files written) → (b c : Bool)
          → Few (if b then merges_files r files d else (if c then faults r calls.PutFile d else merges_files r files written))
      go same more true c = same
      go same more false true = one most d.past _ refl refl few
      go same more false false = more

  pub merges_few : (r other : ℕ) (d : Driver) → Few d → Few (merges r other d)
  merges_few r other d few = merged_few r (branch d.past other) d few

  compacted_few : (r : ℕ) (files : Files) (d : Driver) → Few d → Few (compacts_files r files d)
  compacted_few r [] d few = few
  compacted_few r (f ∷ files) d few = go (compacted_few r files d few) (compacted_few r files shorter (one most d.past _ refl refl few)) (not (shrinks d r (file_of f.0))) (fails_at d r calls.PutFile)
    where
      shorter : Driver
      shorter = notes r (kinds.Compact (file_of f.0)) [] d

      go : Few (compacts_files r files d) → Few (compacts_files r files shorter) → (b c : Bool)
          → Few (if b then compacts_files r files d else (if c then faults r calls.PutFile d else compacts_files r files shorter))
      go same more true c = same
      go same more false true = one most d.past _ refl refl few
      go same more false false = more

  pub compacts_few : (r : ℕ) (d : Driver) → Few d → Few (compacts r d)
  compacts_few r d few = compacted_few r (branch d.past r) d few

  -- ---- contents

  gains_few : (g : DriverInput) (r : ℕ) (key bytes : List ℕ) (d : Driver) → Few d → Few (gains g r key bytes d)
  gains_few g r key bytes d few = logs_few r _ _ _ (one most d.past _ refl refl few)

  fills_few : (g : DriverInput) (r : ℕ) (key bytes : List ℕ) (d : Driver) → Few d → Few (fills_up g r key bytes d)
  fills_few g r key bytes d few = go (fails_at d r calls.Append)
    where
      put : Driver
      put = puts_part r key bytes d

      go : (b : Bool) → Few (if b then faults r calls.Append d else unless_fails r calls.Commit (puts_part r key bytes d) (gains g r key bytes (puts_part r key bytes d)))
      go true = one most d.past _ refl refl few
      go false = calling_few r calls.Commit put (gains g r key bytes put) few (gains_few g r key bytes put few)

  pub has_few : (g : DriverInput) (r : ℕ) (key bytes : List ℕ) (d : Driver) → Few d → Few (has g r key bytes d)
  has_few g r key bytes d few = calling_few r calls.Has d (if is_busy g d r key then d else unless_fails r calls.DropPart d placed) few (go (is_busy g d r key))
    where
      placed : Driver
      placed = fills_up g r key bytes (drops_part r key d)

      go : (b : Bool) → Few (if b then d else unless_fails r calls.DropPart d placed)
      go true = few
      go false = calling_few r calls.DropPart d placed few (fills_few g r key bytes (drops_part r key d) few)

  pub part_few : (g : DriverInput) (r : ℕ) (key bytes : List ℕ) (d : Driver) → Few d → Few (sets_part g r key bytes d)
  part_few g r key bytes d few = calling_few r calls.Has d (if is_busy g d r key then d else unless_fails r calls.DropPart d begun) few (go (is_busy g d r key))
    where
      dropped : Driver
      dropped = drops_part r key d

      begun : Driver
      begun = begins_part r key bytes dropped

      go : (b : Bool) → Few (if b then d else unless_fails r calls.DropPart d begun)
      go true = few
      go false = calling_few r calls.DropPart d begun few (calling_few r calls.Append dropped (puts_part r key bytes dropped) few few)

  -- ---- jobs

  pub begins_few : (r : ℕ) (job : Job) (d : Driver) → Few d → Few (begins r job d)
  begins_few r job d few = go (nat_lt (length (works d.past r)) 4)
    where
      go : (b : Bool) → Few (if b then notes r (kinds.Begin (begun_count d.past r + 1) job) [] d else d)
      go true = one most d.past _ refl refl few
      go false = few

  -- ---- ends that are closed

  closed_few : (g : DriverInput) (r : ℕ) (a : EndName) (d : Driver) → Few d → Few (closes_end g r a d)
  closed_few g r a d few = go (end_at d.past r a).opened
    where
      go : (b : Bool) → Few (if b then sends g r (kinds.Close a.peer a.slot a.client) (close_at (set_up_of g d r) (state_at g d r) a) d else d)
      go true = one most d.past _ refl refl few
      go false = few

  each_closed_few : (g : DriverInput) (r : ℕ) (ends : List EndName) (d : Driver) → Few d → Few (closes_each g r ends d)
  each_closed_few g r [] d few = few
  each_closed_few g r (a ∷ ends) d few = each_closed_few g r ends (closes_end g r a d) (closed_few g r a d few)

  pub closes_few : (g : DriverInput) (r other : ℕ) (d : Driver) → Few d → Few (closes g r other d)
  closes_few g r other d few = go (lacks_places d.past r other)
    where
      go : (b : Bool) → Few (if b then d else closes_each g r (ends_at other) d)
      go true = few
      go false = each_closed_few g r (ends_at other) d few

  -- ---- crashes

  pub crashes_few : (g : DriverInput) (r clock : ℕ) (d : Driver) → Few d → Few (crashes g r clock d)
  crashes_few g r clock d few = one most d.past _ refl refl few

  -- ---- turns

  makes_few : (st : State) (r : ℕ) (k : Look) (o : Option Effect) (d : Driver) → k.count ≡ newest_count d.past + 1 → Few d → Few (makes st r k o d)
  makes_few st r k None d counted few = few
  makes_few st r k (Some m) d counted few =
      subst (λ (past : List Entry). IsFew most past) (sym (store_past st r m (bytes_taken r m.taken d) m.kind (adds st r (entry_of r k m) d))) (one most d.past (entry_of r k m) counted refl few)

  looks_few : (g : DriverInput) (r : ℕ) (s : SetUp) (st : State) (o : Option Effect) (d : Driver) → Few d → Few (looks g r s st o d)
  looks_few g r s st None d few = few
  looks_few g r s st (Some m) d few = makes_few st r (look_for g d r s st m) (step s st (look_for g d r s st m)) d refl few

  pub turn_few : (g : DriverInput) (r : ℕ) (d : Driver) → Few d → Few (turn g r d)
  turn_few g r d few =
      let c : Driver = without_old_flights (state_at g d r) r d in
      looks_few g r (set_up_of g d r) (state_at g d r) (step (set_up_of g d r) (state_at g d r) (plain_look (set_up_of g d r) c)) c few

  pub turns_few : (g : DriverInput) (r n : ℕ) (d : Driver) → Few d → Few (turns g r n d)
  turns_few g r zero d few = few
  turns_few g r (suc n) d few = turns_few g r n (turn g r d) (turn_few g r d few)

  pub turns_of_few : (g : DriverInput) (rs : List ℕ) (d : Driver) → Few d → Few (turns_of g rs d)
  turns_of_few g [] d few = few
  turns_of_few g (r ∷ rs) d few = turns_of_few g rs (turn g r d) (turn_few g r d few)

  -- ---- rounds

  goes_few : (g : DriverInput) (x : AfterRounds) → Few x.driver → Few (goes_round g x).driver
  goes_few g x few = go (is_settled x)
    where
      go : (b : Bool) → Few (if b then x else after_round x (round g x.driver)).driver
      go true = few
      go false = turns_of_few g (numbers g) x.driver few

  pub rounds_few : (g : DriverInput) (n : ℕ) (x : AfterRounds) → Few x.driver → Few (goes_rounds g n x).driver
  rounds_few g zero x few = few
  rounds_few g (suc n) x few = goes_few g (goes_rounds g n x) (rounds_few g n x few)

  -- as the driver settles
  settling_few : (g : DriverInput) (n : ℕ) (x : AfterRounds) → Few x.driver → Few (rounds g n x).driver
  settling_few g zero x few = goes_few g x few
  settling_few g (suc n) x few = go (settling_few g n (rounds g n x) (settling_few g n x few)) (is_settled x)
    where
      go : Few (rounds g n (rounds g n x)).driver → (b : Bool) → Few (if b then x else rounds g n (rounds g n x)).driver
      go more true = few
      go more false = more

  pub settles_few : (g : DriverInput) (d : Driver) → Few d → Few (settles g d)
  settles_few g d few = settling_few g most_rounds (record { driver = d; idle = 0 }) few

  -- ---- syncs

  pub merges_each_few : (r : ℕ) (others : List ℕ) (d : Driver) → Few d → Few (merges_each r others d)
  merges_each_few r [] d few = few
  merges_each_few r (other ∷ others) d few = merges_each_few r others (merges r other d) (merges_few r other d few)

  pub each_merges_few : (r : ℕ) (others : List ℕ) (d : Driver) → Few d → Few (each_merges r others d)
  each_merges_few r [] d few = few
  each_merges_few r (other ∷ others) d few = each_merges_few r others (merges other r d) (merges_few other r d few)

  pub shares_few : (g : DriverInput) (r : ℕ) (d : Driver) → Few d → Few (shares_logs g r d)
  shares_few g r d few = each_merges_few r (numbers_but g r) (merges_each r (numbers_but g r) (settles g d)) (merges_each_few r (numbers_but g r) (settles g d) (settles_few g d few))

  pub carries_few : (g : DriverInput) (r : ℕ) (actions : List Action) (d : Driver) → Few d → Few (carries_out g r actions d)
  carries_few g r [] d few = few
  carries_few g r (action ∷ actions) d few = carries_few g r actions (settles g (begins r (job_for action) d)) (settles_few g (begins r (job_for action) d) (begins_few r (job_for action) d few))

  pub transfers_few : (g : DriverInput) (r : ℕ) (d : Driver) → Few d → Few (transfers g r d)
  transfers_few g r d few = carries_few g r (filter is_transfer (plan_at g r d)) d few

  pub drops_few : (g : DriverInput) (r : ℕ) (d : Driver) → Few d → Few (drops_spared g r d)
  drops_few g r d few = carries_few g r (filter (λ action. not (is_transfer action)) (plan_at g r d)) d few

  pub syncs_few : (g : DriverInput) (r : ℕ) (d : Driver) → Few d → Few (syncs g r d)
  syncs_few g r d few =
      shares_few g r (drops_spared g r (transfers g r (shares_logs g r d))) (drops_few g r (transfers g r (shares_logs g r d)) (transfers_few g r (shares_logs g r d) (shares_few g r d few)))
