-- Each step of the driver only adds entries to the past, at the time that it is; only a wait takes time.
use Rattle.std.proofs.Common.{◌≡◌, ℕ, zero, suc, ◌+◌, Bool, true, false, List, [], ◌∷◌, ◌++◌, Option, Some, None, refl, sym, ap, ◌∙◌, append_assoc, arith}
use Rattle.std.specs.Prelude.{if◌then◌else◌, filter, length, map, nat_lt, not, reverse, take}
use Rattle.std.proofs.lemmas.List.{reverse-append}
use Rattle.annex_base.specs.declared.kinds.Call.{Call}
use Rattle.annex_base.specs.declared.kinds.Call.TheVariants as calls
use Rattle.log_lines.specs.declared.entry.LogKind.{LogKind}
use Rattle.log_lines.specs.declared.entry.Topic.{Topic}
use Rattle.log_lines.specs.declared.entry.Value.{Value}
use Rattle.union_merge.specs.Branch.{Files}
use Rattle.run_data.specs.declared.entry.Entry.{Entry}
use Rattle.run_data.specs.declared.entry.EntryKind.TheVariants as kinds
use Rattle.run_data.specs.declared.entry.LogFile.{LogFile}
use Rattle.run_data.specs.declared.entry.LogFile.TheVariants.{Of}
use Rattle.run_data.specs.declared.job.Job.{Job}
use Rattle.run_data.specs.Files.{file_of}
use Rattle.run_model.specs.Logs.{branch}
use Rattle.run_model.specs.Past.{begun_count, now}
use Rattle.run_model.specs.States.{end_at, works}
use Rattle.node_model.specs.AnyTime.{close_at}
use Rattle.node_model.specs.Ends.{EndName}
use Rattle.node_model.specs.Look.{Look, Effect, entry_of}
use Rattle.node_model.specs.SetUp.{SetUp}
use Rattle.node_model.specs.State.{State}
use Rattle.node_model.specs.Step.{step}
use Rattle.wanted_rules.specs.declared.action.Action.{Action}
use Rattle.script_commands.specs.declared.command.Action.TheVariants.{Have, SetPart, Add, File, Set, Raw, Merge, Compact, Sync, Begin, Run, Turns, Settle, Close, Crash, Wait, Fail}
use Rattle.script_commands.specs.declared.command.Agendum.{Agendum}
use Rattle.script_commands.specs.declared.command.BlockLine.{BlockLine}
use Rattle.script_commands.specs.declared.command.BlockLine.TheVariants.{Runs, Crashes, Closes, Fails}
use Rattle.script_commands.specs.declared.command.Command.{Command}
use Rattle.script_commands.specs.declared.command.Command.TheVariants.{Repo, Does, Damage, Par, Shows}
use Rattle.driver_model.specs.Lines.{waited_by}
use Rattle.driver_model.specs.Driver.{Driver, DriverInput, adds, drops_part, fails_at, notes, puts_part, set_up_of, state_at, without_old_flights}
use Rattle.driver_model.specs.ScriptSteps.{begins, begins_part, unless_fails, closes, closes_each, closes_end, compacts, compacts_files, crashes, ends_at, enters, faults, fills_up, gains, has, is_busy, is_nil, lacks_places, logs, logs_some, merges, merges_files, news, sends, sets, sets_part, setting_line, shrinks, unknown_lines, unless_busy, waits, will_fail, writes}
use Rattle.driver_model.specs.Turning.{bytes_taken, look_for, looks, makes, plain_look, turn}
use Rattle.driver_model.specs.Rounds.{Agenda, Block, InBlock, AfterRounds, agenda, and_left, block_at, block_end, block_round, block_rounds, blocks, after_round, goes_round, is_over, is_settled, is_stuck, lacks_next, may_begin, most_rounds, numbers, round, rounds, settles, settles_after, stuck_at, takes, takes_all, takes_each, turns_of, with_round}
use Rattle.driver_model.specs.Syncs.{carries_out, drops_spared, each_merges, is_transfer, job_for, merges_each, numbers_but, plan_at, shares_logs, syncs, transfers}
use Rattle.driver_model.specs.Driving.{does, turns, with_mark}
use Rattle.driver_model.specs.Sound.{OnlyAdds}
use Rattle.driver_model.proofs.Settles.{store_past}

-- ---- of pasts, which have the newest entry first

-- the one past is the other with entries in front, and no later
abbrev Grew : List Entry → List Entry → Type 0
Grew past after = (more : List Entry) × (after ≡ more ++ past) × (now after ≡ now past)

-- so is that of a driver
abbrev Adds : Driver → Driver → Type 0
Adds d after = Grew d.past after.past

pub only_adds : (d after : Driver) → Adds d after → OnlyAdds d after
only_adds d after x = (reverse x.0, ap reverse x.1 ∙ reverse-append x.0 d.past)

stays : (past after : List Entry) → after ≡ past → Grew past after
stays past after e = ([], e, ap now e)

one : (past : List Entry) (e : Entry) → e.time ≡ now past → Grew past (e ∷ past)
one past e t = (e ∷ [], refl, t)

then_grew : (a b c : List Entry) → Grew a b → Grew b c → Grew a c
then_grew a b c x y = (y.0 ++ x.0, y.1 ∙ ap (λ past. y.0 ++ past) x.1 ∙ sym (append_assoc y.0 x.0 a), y.2 ∙ x.2)

-- ---- store calls and lines

calling_adds : (d done : Driver) (r : ℕ) (call : Call) → Adds d done → Adds d (unless_fails r call d done)
calling_adds d done r call x = go (fails_at d r call)
  where
    go : (b : Bool) → Adds d (if b then faults r call d else done)
    go true = one d.past _ refl
    go false = x

logs_adds : (r : ℕ) (file : LogFile) (lines : List (List ℕ)) (d : Driver) → Adds d (logs r file lines d)
logs_adds r file lines d = calling_adds d (notes r (kinds.Log file) lines d) r calls.PutFile (one d.past _ refl)

some_adds : (r : ℕ) (file : LogFile) (lines : List (List ℕ)) (d : Driver) → Adds d (logs_some r file lines d)
some_adds r file [] d = stays d.past d.past refl
some_adds r file (line ∷ lines) d = logs_adds r file (line ∷ lines) d

pub writes_adds : (r : ℕ) (file : LogFile) (line : List ℕ) (d : Driver) → Adds d (writes r file line d)
writes_adds r file line d = some_adds r file (unknown_lines d r file (line ∷ [])) d

pub sets_adds : (g : DriverInput) (r : ℕ) (kind : LogKind) (topic : Topic) (value : Value) (d : Driver) → Adds d (sets g r kind topic value d)
sets_adds g r kind topic value d = writes_adds r (Of kind) (setting_line g d r kind topic value) d

merged_adds : (r : ℕ) (files : Files) (d : Driver) → Adds d (merges_files r files d)
merged_adds r [] d = stays d.past d.past refl
merged_adds r (f ∷ files) d = go (merged_adds r files d) (merged_adds r files written) (is_nil (news d r f.0 f.1)) (fails_at d r calls.PutFile)
  where
    written : Driver
    written = notes r (kinds.Log (file_of f.0)) (news d r f.0 f.1) d

    go : Adds d (merges_files r files d) → Adds written (merges_files r files written) → (b c : Bool)
        → Adds d (if b then merges_files r files d else (if c then faults r calls.PutFile d else merges_files r files written))
    go same more true c = same
    go same more false true = one d.past _ refl
    go same more false false = then_grew d.past written.past (merges_files r files written).past (one d.past _ refl) more

pub merges_adds : (r other : ℕ) (d : Driver) → Adds d (merges r other d)
merges_adds r other d = merged_adds r (branch d.past other) d

compacted_adds : (r : ℕ) (files : Files) (d : Driver) → Adds d (compacts_files r files d)
compacted_adds r [] d = stays d.past d.past refl
compacted_adds r (f ∷ files) d = go (compacted_adds r files d) (compacted_adds r files shorter) (not (shrinks d r (file_of f.0))) (fails_at d r calls.PutFile)
  where
    shorter : Driver
    shorter = notes r (kinds.Compact (file_of f.0)) [] d

    go : Adds d (compacts_files r files d) → Adds shorter (compacts_files r files shorter) → (b c : Bool)
        → Adds d (if b then compacts_files r files d else (if c then faults r calls.PutFile d else compacts_files r files shorter))
    go same more true c = same
    go same more false true = one d.past _ refl
    go same more false false = then_grew d.past shorter.past (compacts_files r files shorter).past (one d.past _ refl) more

pub compacts_adds : (r : ℕ) (d : Driver) → Adds d (compacts r d)
compacts_adds r d = compacted_adds r (branch d.past r) d

-- ---- contents

gains_adds : (g : DriverInput) (r : ℕ) (key bytes : List ℕ) (d : Driver) → Adds d (gains g r key bytes d)
gains_adds g r key bytes d = then_grew d.past _ (gains g r key bytes d).past (one d.past _ refl) (logs_adds r _ _ _)

fills_adds : (g : DriverInput) (r : ℕ) (key bytes : List ℕ) (d : Driver) → Adds d (fills_up g r key bytes d)
fills_adds g r key bytes d = go (fails_at d r calls.Append)
  where
    put : Driver
    put = puts_part r key bytes d

    go : (b : Bool) → Adds d (if b then faults r calls.Append d else unless_fails r calls.Commit (puts_part r key bytes d) (gains g r key bytes (puts_part r key bytes d)))
    go true = one d.past _ refl
    go false = calling_adds put (gains g r key bytes put) r calls.Commit (gains_adds g r key bytes put)

unless_adds : (g : DriverInput) (r : ℕ) (key : List ℕ) (d done : Driver) → Adds d done → Adds d (unless_busy g r key d done)
unless_adds g r key d done x = calling_adds d (if is_busy g d r key then d else unless_fails r calls.DropPart d done) r calls.Has (go (is_busy g d r key))
  where
    go : (b : Bool) → Adds d (if b then d else unless_fails r calls.DropPart d done)
    go true = stays d.past d.past refl
    go false = calling_adds d done r calls.DropPart x

pub has_adds : (g : DriverInput) (r : ℕ) (key bytes : List ℕ) (d : Driver) → Adds d (has g r key bytes d)
has_adds g r key bytes d = unless_adds g r key d (fills_up g r key bytes (drops_part r key d)) (fills_adds g r key bytes (drops_part r key d))

pub part_adds : (g : DriverInput) (r : ℕ) (key bytes : List ℕ) (d : Driver) → Adds d (sets_part g r key bytes d)
part_adds g r key bytes d = unless_adds g r key d (begins_part r key bytes (drops_part r key d))
    (calling_adds (drops_part r key d) (puts_part r key bytes (drops_part r key d)) r calls.Append (stays d.past d.past refl))

-- ---- jobs, connections, crashes, time and the tree

pub begins_adds : (r : ℕ) (job : Job) (d : Driver) → Adds d (begins r job d)
begins_adds r job d = go (nat_lt (length (works d.past r)) 4)
  where
    go : (b : Bool) → Adds d (if b then notes r (kinds.Begin (begun_count d.past r + 1) job) [] d else d)
    go true = one d.past _ refl
    go false = stays d.past d.past refl

close_adds : (g : DriverInput) (r : ℕ) (a : EndName) (d : Driver) → Adds d (closes_end g r a d)
close_adds g r a d = go (end_at d.past r a).opened
  where
    go : (b : Bool) → Adds d (if b then sends g r (kinds.Close a.peer a.slot a.client) (close_at (set_up_of g d r) (state_at g d r) a) d else d)
    go true = one d.past _ refl
    go false = stays d.past d.past refl

each_adds : (g : DriverInput) (r : ℕ) (ends : List EndName) (d : Driver) → Adds d (closes_each g r ends d)
each_adds g r [] d = stays d.past d.past refl
each_adds g r (a ∷ ends) d = then_grew d.past (closes_end g r a d).past (closes_each g r ends (closes_end g r a d)).past (close_adds g r a d) (each_adds g r ends (closes_end g r a d))

pub closes_adds : (g : DriverInput) (r other : ℕ) (d : Driver) → Adds d (closes g r other d)
closes_adds g r other d = go (lacks_places d.past r other)
  where
    go : (b : Bool) → Adds d (if b then d else closes_each g r (ends_at other) d)
    go true = stays d.past d.past refl
    go false = each_adds g r (ends_at other) d

pub crashes_adds : (g : DriverInput) (r clock : ℕ) (d : Driver) → Adds d (crashes g r clock d)
crashes_adds g r clock d = one d.past _ refl

pub waits_adds : (milliseconds : ℕ) (d : Driver) → OnlyAdds d (waits milliseconds d)
waits_adds milliseconds d = (take 1 (waits milliseconds d).past, reverse-append (take 1 (waits milliseconds d).past) d.past)

pub enters_adds : (path key : List ℕ) (d : Driver) → Adds d (enters path key d)
enters_adds path key d = stays d.past d.past refl

pub fail_adds : (r : ℕ) (call : Call) (d : Driver) → Adds d (will_fail r call d)
fail_adds r call d = stays d.past d.past refl

pub mark_adds : (d : Driver) → Adds d (with_mark d)
mark_adds d = stays d.past d.past refl

-- ---- turns, and rounds of them

makes_adds : (st : State) (r : ℕ) (k : Look) (o : Option Effect) (d : Driver) → k.time ≡ now d.past → Adds d (makes st r k o d)
makes_adds st r k None d t = stays d.past d.past refl
makes_adds st r k (Some m) d t = let is = store_past st r m (bytes_taken r m.taken d) m.kind (adds st r (entry_of r k m) d) in (entry_of r k m ∷ [], is, ap now is ∙ t)

looks_adds : (g : DriverInput) (r : ℕ) (s : SetUp) (st : State) (o : Option Effect) (d : Driver) → Adds d (looks g r s st o d)
looks_adds g r s st None d = stays d.past d.past refl
looks_adds g r s st (Some m) d = makes_adds st r (look_for g d r s st m) (step s st (look_for g d r s st m)) d refl

pub turn_adds : (g : DriverInput) (r : ℕ) (d : Driver) → Adds d (turn g r d)
turn_adds g r d =
    let c : Driver = without_old_flights (state_at g d r) r d in
    looks_adds g r (set_up_of g d r) (state_at g d r) (step (set_up_of g d r) (state_at g d r) (plain_look (set_up_of g d r) c)) c

pub turns_adds : (g : DriverInput) (r n : ℕ) (d : Driver) → Adds d (turns g r n d)
turns_adds g r zero d = stays d.past d.past refl
turns_adds g r (suc n) d = then_grew d.past (turn g r d).past (turns g r n (turn g r d)).past (turn_adds g r d) (turns_adds g r n (turn g r d))

turns_of_adds : (g : DriverInput) (rs : List ℕ) (d : Driver) → Adds d (turns_of g rs d)
turns_of_adds g [] d = stays d.past d.past refl
turns_of_adds g (r ∷ rs) d = then_grew d.past (turn g r d).past (turns_of g rs (turn g r d)).past (turn_adds g r d) (turns_of_adds g rs (turn g r d))

pub round_adds : (g : DriverInput) (d : Driver) → Adds d (round g d)
round_adds g d = turns_of_adds g (numbers g) d

goes_adds : (g : DriverInput) (x : AfterRounds) → Adds x.driver (goes_round g x).driver
goes_adds g x = go (is_settled x)
  where
    go : (b : Bool) → Adds x.driver (if b then x else after_round x (round g x.driver)).driver
    go true = stays x.driver.past x.driver.past refl
    go false = round_adds g x.driver

rounds_adds : (g : DriverInput) (n : ℕ) (x : AfterRounds) → Adds x.driver (rounds g n x).driver
rounds_adds g zero x = goes_adds g x
rounds_adds g (suc n) x = go (then_grew x.driver.past (rounds g n x).driver.past (rounds g n (rounds g n x)).driver.past (rounds_adds g n x) (rounds_adds g n (rounds g n x))) (is_settled x)
  where
    go : Adds x.driver (rounds g n (rounds g n x)).driver → (b : Bool) → Adds x.driver (if b then x else rounds g n (rounds g n x)).driver
    go more true = stays x.driver.past x.driver.past refl
    go more false = more

pub settles_adds : (g : DriverInput) (d : Driver) → Adds d (settles g d)
settles_adds g d = rounds_adds g most_rounds (record { driver = d; idle = 0 })

-- ---- blocks

takes_adds : (g : DriverInput) (r : ℕ) (ls : List BlockLine) (jobs : List ℕ) (d : Driver) → Adds d (takes_all g r ls jobs d).driver
takes_adds g r [] jobs d = stays d.past d.past refl
takes_adds g r (Runs job ∷ ls) jobs d = go (takes_adds g r ls ((begun_count d.past r + 1) ∷ jobs) (begins r job d)) (may_begin d r jobs)
  where
    go : Adds (begins r job d) (takes_all g r ls ((begun_count d.past r + 1) ∷ jobs) (begins r job d)).driver → (b : Bool)
        → Adds d (if b then takes_all g r ls ((begun_count d.past r + 1) ∷ jobs) (begins r job d) else record { driver = d; left = record { repo = r; lines = Runs job ∷ ls; jobs = jobs } }).driver
    go more true = then_grew d.past (begins r job d).past (takes_all g r ls ((begun_count d.past r + 1) ∷ jobs) (begins r job d)).driver.past (begins_adds r job d) more
    go more false = stays d.past d.past refl
takes_adds g r (Crashes clock ∷ ls) jobs d = then_grew d.past (crashes g r clock d).past (takes_all g r ls jobs (crashes g r clock d)).driver.past (crashes_adds g r clock d) (takes_adds g r ls jobs (crashes g r clock d))
takes_adds g r (Closes other ∷ ls) jobs d = go (takes_adds g r ls jobs (closes g r other d)) (lacks_places d.past r other)
  where
    go : Adds (closes g r other d) (takes_all g r ls jobs (closes g r other d)).driver → (b : Bool)
        → Adds d (if b then record { driver = d; left = record { repo = r; lines = Closes other ∷ ls; jobs = jobs } } else takes_all g r ls jobs (closes g r other d)).driver
    go more true = stays d.past d.past refl
    go more false = then_grew d.past (closes g r other d).past (takes_all g r ls jobs (closes g r other d)).driver.past (closes_adds g r other d) more
takes_adds g r (Fails call ∷ ls) jobs d = then_grew d.past (will_fail r call d).past (takes_all g r ls jobs (will_fail r call d)).driver.past (fail_adds r call d) (takes_adds g r ls jobs (will_fail r call d))

agendas_adds : (g : DriverInput) (ags : List Agenda) (d : Driver) → Adds d (takes_each g ags d).driver
agendas_adds g [] d = stays d.past d.past refl
agendas_adds g (a ∷ ags) d = go (agendas_adds g ags (takes g a d).driver) (lacks_next (takes g a d).driver.past a.repo (takes g a d).left.lines)
  where
    go : Adds (takes g a d).driver (takes_each g ags (takes g a d).driver).driver → (b : Bool)
        → Adds d (if b then record { driver = (takes g a d).driver; left = (takes g a d).left ∷ ags } else and_left (takes g a d).left (takes_each g ags (takes g a d).driver)).driver
    go more true = takes_adds g a.repo a.lines a.jobs d
    go more false = then_grew d.past (takes g a d).driver.past (takes_each g ags (takes g a d).driver).driver.past (takes_adds g a.repo a.lines a.jobs d) more

with_round_adds : (g : DriverInput) (x : InBlock) (b : Block) → Adds x.driver b.driver → Adds x.driver (with_round g x b).driver
with_round_adds g x b took = go (is_stuck b.driver b.left)
  where
    go : (c : Bool) → Adds x.driver (if c then stuck_at b else block_at x b (round g b.driver)).driver
    go true = took
    go false = then_grew x.driver.past b.driver.past (round g b.driver).past took (round_adds g b.driver)

block_adds : (g : DriverInput) (x : InBlock) → Adds x.driver (block_round g x).driver
block_adds g x = go (is_over x)
  where
    go : (b : Bool) → Adds x.driver (if b then x else with_round g x (takes_each g x.left x.driver)).driver
    go true = stays x.driver.past x.driver.past refl
    go false = with_round_adds g x (takes_each g x.left x.driver) (agendas_adds g x.left x.driver)

block_rounds_adds : (g : DriverInput) (n : ℕ) (x : InBlock) → Adds x.driver (block_rounds g n x).driver
block_rounds_adds g zero x = block_adds g x
block_rounds_adds g (suc n) x = go (then_grew x.driver.past (block_rounds g n x).driver.past (block_rounds g n (block_rounds g n x)).driver.past (block_rounds_adds g n x) (block_rounds_adds g n (block_rounds g n x))) (is_over x)
  where
    go : Adds x.driver (block_rounds g n (block_rounds g n x)).driver → (b : Bool) → Adds x.driver (if b then x else block_rounds g n (block_rounds g n x)).driver
    go more true = stays x.driver.past x.driver.past refl
    go more false = more

after_adds : (g : DriverInput) (d : Driver) (x : InBlock) → Adds d x.driver → Adds d (settles_after g x)
after_adds g d x ended = go (is_stuck x.driver x.left)
  where
    go : (b : Bool) → Adds d (if b then x.driver else settles g x.driver)
    go true = ended
    go false = then_grew d.past x.driver.past (settles g x.driver).past ended (settles_adds g x.driver)

pub blocks_adds : (g : DriverInput) (xs : List Agendum) (d : Driver) → Adds d (blocks g xs d)
blocks_adds g xs d = after_adds g d (block_end g xs d) (block_rounds_adds g most_rounds (record { driver = d; left = map (agenda xs) (numbers g); idle = 0; took = true }))

-- ---- syncs

pub merges_each_adds : (r : ℕ) (others : List ℕ) (d : Driver) → Adds d (merges_each r others d)
merges_each_adds r [] d = stays d.past d.past refl
merges_each_adds r (other ∷ others) d = then_grew d.past (merges r other d).past (merges_each r others (merges r other d)).past (merges_adds r other d) (merges_each_adds r others (merges r other d))

pub each_merges_adds : (r : ℕ) (others : List ℕ) (d : Driver) → Adds d (each_merges r others d)
each_merges_adds r [] d = stays d.past d.past refl
each_merges_adds r (other ∷ others) d = then_grew d.past (merges other r d).past (each_merges r others (merges other r d)).past (merges_adds other r d) (each_merges_adds r others (merges other r d))

pub shares_adds : (g : DriverInput) (r : ℕ) (d : Driver) → Adds d (shares_logs g r d)
shares_adds g r d =
    then_grew d.past (settles g d).past (shares_logs g r d).past (settles_adds g d)
    (then_grew (settles g d).past (merges_each r (numbers_but g r) (settles g d)).past (shares_logs g r d).past (merges_each_adds r (numbers_but g r) (settles g d))
    (each_merges_adds r (numbers_but g r) (merges_each r (numbers_but g r) (settles g d))))

pub carries_adds : (g : DriverInput) (r : ℕ) (actions : List Action) (d : Driver) → Adds d (carries_out g r actions d)
carries_adds g r [] d = stays d.past d.past refl
carries_adds g r (action ∷ actions) d =
    then_grew d.past (begins r (job_for action) d).past (carries_out g r actions (settles g (begins r (job_for action) d))).past (begins_adds r (job_for action) d)
    (then_grew (begins r (job_for action) d).past (settles g (begins r (job_for action) d)).past (carries_out g r actions (settles g (begins r (job_for action) d))).past (settles_adds g (begins r (job_for action) d))
    (carries_adds g r actions (settles g (begins r (job_for action) d))))

pub transfers_adds : (g : DriverInput) (r : ℕ) (d : Driver) → Adds d (transfers g r d)
transfers_adds g r d = carries_adds g r (filter is_transfer (plan_at g r d)) d

pub drops_spared_adds : (g : DriverInput) (r : ℕ) (d : Driver) → Adds d (drops_spared g r d)
drops_spared_adds g r d = carries_adds g r (filter (λ action. not (is_transfer action)) (plan_at g r d)) d

pub syncs_adds : (g : DriverInput) (r : ℕ) (d : Driver) → Adds d (syncs g r d)
syncs_adds g r d =
    then_grew d.past shared.past (syncs g r d).past (shares_adds g r d)
    (then_grew shared.past brought.past (syncs g r d).past (transfers_adds g r shared)
    (then_grew brought.past (drops_spared g r brought).past (syncs g r d).past (drops_spared_adds g r brought)
    (shares_adds g r (drops_spared g r brought))))
  where
    shared : Driver
    shared = shares_logs g r d

    brought : Driver
    brought = transfers g r shared

-- ---- lines

-- what a line adds comes at the time that it is, but for a wait
lasting : (d after : Driver) → Adds d after → OnlyAdds d after × (now after.past ≡ now d.past + 0)
lasting d after x = let time = x.2 in (only_adds d after x, omega (arith, time))

pub line_adds : (g : DriverInput) (line : Command) (d : Driver) → OnlyAdds d (does g line d) × (now (does g line d).past ≡ now d.past + waited_by line)
line_adds g (Does (Have r key bytes)) d = lasting d (does g (Does (Have r key bytes)) d) (has_adds g r key bytes d)
line_adds g (Does (SetPart r key bytes)) d = lasting d (does g (Does (SetPart r key bytes)) d) (part_adds g r key bytes d)
line_adds g (Does (Add r path key bytes)) d = lasting d (does g (Does (Add r path key bytes)) d) (has_adds g r key bytes (enters path key d))
line_adds g (Does (File path key)) d = lasting d (does g (Does (File path key)) d) (enters_adds path key d)
line_adds g (Does (Set r kind topic value)) d = lasting d (does g (Does (Set r kind topic value)) d) (sets_adds g r kind topic value d)
line_adds g (Does (Raw r file line)) d = lasting d (does g (Does (Raw r file line)) d) (writes_adds r file line d)
line_adds g (Does (Merge r other)) d = lasting d (does g (Does (Merge r other)) d) (merges_adds r other d)
line_adds g (Does (Compact r)) d = lasting d (does g (Does (Compact r)) d) (compacts_adds r d)
line_adds g (Does (Sync r)) d = lasting d (does g (Does (Sync r)) d) (syncs_adds g r d)
line_adds g (Does (Begin r job)) d = lasting d (does g (Does (Begin r job)) d) (begins_adds r job d)
line_adds g (Does (Run r job)) d = lasting d (does g (Does (Run r job)) d) (then_grew d.past (begins r job d).past (settles g (begins r job d)).past (begins_adds r job d) (settles_adds g (begins r job d)))
line_adds g (Does (Turns r n)) d = lasting d (does g (Does (Turns r n)) d) (turns_adds g r n d)
line_adds g (Does Settle) d = lasting d (does g (Does Settle) d) (settles_adds g d)
line_adds g (Does (Close r other)) d = lasting d (does g (Does (Close r other)) d) (closes_adds g r other d)
line_adds g (Does (Crash r clock)) d = lasting d (does g (Does (Crash r clock)) d) (crashes_adds g r clock d)
line_adds g (Does (Wait milliseconds)) d = (waits_adds milliseconds d, refl)
line_adds g (Does (Fail r call)) d = lasting d (does g (Does (Fail r call)) d) (fail_adds r call d)
line_adds g (Par lines) d = lasting d (does g (Par lines) d) (blocks_adds g lines d)
line_adds g (Repo name id offset version locks) d = lasting d (does g (Repo name id offset version locks) d) (stays d.past d.past refl)
line_adds g (Damage r key bytes) d = lasting d (does g (Damage r key bytes) d) (stays d.past d.past refl)
line_adds g (Shows what) d = lasting d (does g (Shows what) d) (stays d.past d.past refl)
