-- No line changes the marks that stand, and none the tree but one that names a path.
use Rattle.std.proofs.Common.{◌≡◌, ℕ, zero, suc, ◌+◌, Bool, true, false, List, [], ◌∷◌, Option, Some, None, refl, ◌∙◌}
use Rattle.std.specs.Prelude.{if◌then◌else◌, filter, length, map, nat_lt, not}
use Rattle.annex_base.specs.declared.kinds.Call.{Call}
use Rattle.annex_base.specs.declared.kinds.Call.TheVariants as calls
use Rattle.union_merge.specs.Branch.{Files}
use Rattle.run_data.specs.declared.entry.EntryKind.{EntryKind}
use Rattle.run_data.specs.declared.entry.EntryKind.TheVariants as kinds
use Rattle.run_data.specs.declared.entry.FrameView.{FrameView}
use Rattle.run_data.specs.declared.entry.FrameText.{FrameText}
use Rattle.run_data.specs.declared.entry.FrameText.TheVariants as texts
use Rattle.run_data.specs.declared.entry.LogFile.{LogFile}
use Rattle.run_data.specs.declared.entry.LogFile.TheVariants.{Location, Of}
use Rattle.run_data.specs.declared.job.Job.{Job}
use Rattle.run_data.specs.Files.{file_of}
use Rattle.run_data.specs.Repos.{id_of}
use Rattle.run_model.specs.Logs.{branch}
use Rattle.run_model.specs.Past.{begun_count}
use Rattle.run_model.specs.States.{end_at, works}
use Rattle.node_model.specs.AnyTime.{close_at}
use Rattle.node_model.specs.Ends.{EndName}
use Rattle.node_model.specs.Look.{Look, Effect, entry_of}
use Rattle.node_model.specs.OwedLines.{if_new, status_line}
use Rattle.node_model.specs.Sessions.{line_in, message_said}
use Rattle.node_model.specs.SetUp.{SetUp}
use Rattle.node_model.specs.State.{State}
use Rattle.node_model.specs.Step.{step}
use Rattle.script_commands.specs.declared.command.Action.TheVariants.{Have, SetPart, Add, File, Set, Raw, Merge, Compact, Sync, Begin, Run, Turns, Settle, Close, Crash, Wait, Fail}
use Rattle.script_commands.specs.declared.command.Agendum.{Agendum}
use Rattle.script_commands.specs.declared.command.BlockLine.{BlockLine}
use Rattle.script_commands.specs.declared.command.BlockLine.TheVariants.{Runs, Crashes, Closes, Fails}
use Rattle.script_commands.specs.declared.command.Command.{Command}
use Rattle.script_commands.specs.declared.command.Command.TheVariants.{Repo, Does, Damage, Par, Shows}
use Rattle.driver_model.specs.Driver.{Driver, DriverInput, adds, drops_part, fails_at, notes, puts_part, set_up_of, state_at, without_old_flights}
use Rattle.driver_model.specs.Syncs.{carries_out, drops_spared, each_merges, is_transfer, job_for, merges_each, numbers_but, plan_at, shares_logs, syncs, transfers}
use Rattle.wanted_rules.specs.declared.action.Action.{Action}
use Rattle.driver_model.specs.ScriptSteps.{begins, begins_part, unless_fails, closes, closes_each, closes_end, compacts_files, crashes, ends_at, enters, faults, fills_up, gains, gets_content, has, is_busy, is_nil, lacks_places, lines_of, logs, logs_some, logs_status, merges, merges_files, news, sends, sets_part, setting_line, shrinks, unknown_lines, unless_busy, wall_of, will_fail, writes}
use Rattle.driver_model.specs.Turning.{asked_key, bytes_taken, is_failure, is_valid, look_for, looks, makes, plain_look, store_after, takes_frame, takes_into, turn}
use Rattle.driver_model.specs.Rounds.{Agenda, Block, InBlock, AfterRounds, agenda, and_left, block_at, block_end, block_round, block_rounds, blocks, after_round, goes_round, is_over, is_settled, is_stuck, lacks_next, may_begin, most_rounds, numbers, round, rounds, settles, settles_after, stuck_at, takes, takes_all, takes_each, turns_of, with_round}
use Rattle.driver_model.specs.Driving.{does, turns}
use Rattle.driver_model.specs.Limits.{names_path}

-- the one driver has the marks and the tree of the other
abbrev Same : Driver → Driver → Type 0
Same d after = (after.marks ≡ d.marks) × (after.tree ≡ d.tree)

itself : (d : Driver) → Same d d
itself d = (refl, refl)

then_same : (a b c : Driver) → Same a b → Same b c → Same a c
then_same a b c x y = (y.0 ∙ x.0, y.1 ∙ x.1)

-- ---- store calls and lines

calling_same : (d done : Driver) (r : ℕ) (call : Call) → Same d done → Same d (unless_fails r call d done)
calling_same d done r call x = go (fails_at d r call)
  where
    go : (b : Bool) → Same d (if b then faults r call d else done)
    go true = (refl, refl)
    go false = x

logs_same : (r : ℕ) (file : LogFile) (lines : List (List ℕ)) (d : Driver) → Same d (logs r file lines d)
logs_same r file lines d = calling_same d (notes r (kinds.Log file) lines d) r calls.PutFile (refl, refl)

some_same : (r : ℕ) (file : LogFile) (lines : List (List ℕ)) (d : Driver) → Same d (logs_some r file lines d)
some_same r file [] d = itself d
some_same r file (line ∷ lines) d = logs_same r file (line ∷ lines) d

writes_same : (r : ℕ) (file : LogFile) (line : List ℕ) (d : Driver) → Same d (writes r file line d)
writes_same r file line d = some_same r file (unknown_lines d r file (line ∷ [])) d

merged_same : (r : ℕ) (files : Files) (d : Driver) → Same d (merges_files r files d)
merged_same r [] d = itself d
merged_same r (f ∷ files) d = go (merged_same r files d) (merged_same r files written) (is_nil (news d r f.0 f.1)) (fails_at d r calls.PutFile)
  where
    written : Driver
    written = notes r (kinds.Log (file_of f.0)) (news d r f.0 f.1) d

    go : Same d (merges_files r files d) → Same written (merges_files r files written) → (b c : Bool)
        → Same d (if b then merges_files r files d else (if c then faults r calls.PutFile d else merges_files r files written))
    go same more true c = same
    go same more false true = (refl, refl)
    go same more false false = more

compacted_same : (r : ℕ) (files : Files) (d : Driver) → Same d (compacts_files r files d)
compacted_same r [] d = itself d
compacted_same r (f ∷ files) d = go (compacted_same r files d) (compacted_same r files shorter) (not (shrinks d r (file_of f.0))) (fails_at d r calls.PutFile)
  where
    shorter : Driver
    shorter = notes r (kinds.Compact (file_of f.0)) [] d

    go : Same d (compacts_files r files d) → Same shorter (compacts_files r files shorter) → (b c : Bool)
        → Same d (if b then compacts_files r files d else (if c then faults r calls.PutFile d else compacts_files r files shorter))
    go same more true c = same
    go same more false true = (refl, refl)
    go same more false false = more

-- ---- contents

status_same : (g : DriverInput) (r : ℕ) (key : List ℕ) (d : Driver) → Same d (logs_status g r key d)
status_same g r key d = logs_same r (Location key) (if_new (lines_of d r (Location key)) (status_line (lines_of d r (Location key)) (id_of g.repos r) true (wall_of g d r))) d

gains_same : (g : DriverInput) (r : ℕ) (key bytes : List ℕ) (d : Driver) → Same d (gains g r key bytes d)
gains_same g r key bytes d = status_same g r key (gets_content r key bytes d)

fills_same : (g : DriverInput) (r : ℕ) (key bytes : List ℕ) (d : Driver) → Same d (fills_up g r key bytes d)
fills_same g r key bytes d = go (fails_at d r calls.Append)
  where
    put : Driver
    put = puts_part r key bytes d

    go : (b : Bool) → Same d (if b then faults r calls.Append d else unless_fails r calls.Commit (puts_part r key bytes d) (gains g r key bytes (puts_part r key bytes d)))
    go true = (refl, refl)
    go false = calling_same put (gains g r key bytes put) r calls.Commit (gains_same g r key bytes put)

unless_same : (g : DriverInput) (r : ℕ) (key : List ℕ) (d done : Driver) → Same d done → Same d (unless_busy g r key d done)
unless_same g r key d done x = calling_same d (if is_busy g d r key then d else unless_fails r calls.DropPart d done) r calls.Has (go (is_busy g d r key))
  where
    go : (b : Bool) → Same d (if b then d else unless_fails r calls.DropPart d done)
    go true = itself d
    go false = calling_same d done r calls.DropPart x

has_same : (g : DriverInput) (r : ℕ) (key bytes : List ℕ) (d : Driver) → Same d (has g r key bytes d)
has_same g r key bytes d = unless_same g r key d (fills_up g r key bytes (drops_part r key d)) (fills_same g r key bytes (drops_part r key d))

part_same : (g : DriverInput) (r : ℕ) (key bytes : List ℕ) (d : Driver) → Same d (sets_part g r key bytes d)
part_same g r key bytes d = unless_same g r key d (begins_part r key bytes (drops_part r key d))
    (calling_same (drops_part r key d) (puts_part r key bytes (drops_part r key d)) r calls.Append (refl, refl))

-- ---- jobs and connections

begins_same : (r : ℕ) (job : Job) (d : Driver) → Same d (begins r job d)
begins_same r job d = go (nat_lt (length (works d.past r)) 4)
  where
    go : (b : Bool) → Same d (if b then notes r (kinds.Begin (begun_count d.past r + 1) job) [] d else d)
    go true = (refl, refl)
    go false = itself d

close_same : (g : DriverInput) (r : ℕ) (a : EndName) (d : Driver) → Same d (closes_end g r a d)
close_same g r a d = go (end_at d.past r a).opened
  where
    go : (b : Bool) → Same d (if b then sends g r (kinds.Close a.peer a.slot a.client) (close_at (set_up_of g d r) (state_at g d r) a) d else d)
    go true = (refl, refl)
    go false = itself d

each_same : (g : DriverInput) (r : ℕ) (ends : List EndName) (d : Driver) → Same d (closes_each g r ends d)
each_same g r [] d = itself d
each_same g r (a ∷ ends) d = then_same d (closes_end g r a d) (closes_each g r ends (closes_end g r a d)) (close_same g r a d) (each_same g r ends (closes_end g r a d))

closes_same : (g : DriverInput) (r other : ℕ) (d : Driver) → Same d (closes g r other d)
closes_same g r other d = go (lacks_places d.past r other)
  where
    go : (b : Bool) → Same d (if b then d else closes_each g r (ends_at other) d)
    go true = itself d
    go false = each_same g r (ends_at other) d

-- ---- turns, and rounds of them

into_same : (r : ℕ) (key bytes : List ℕ) (body : FrameText) (sent : List FrameView) (d : Driver) → Same d (takes_into r key bytes body sent d)
into_same r key bytes (texts.Bytes n) [] d = (refl, refl)
into_same r key bytes (texts.Line text) sent d = go (is_valid (line_in (texts.Line text))) (is_failure (message_said sent))
  where
    go : (b c : Bool) → Same d (if b then (if c then drops_part r key d else d) else d)
    go true true = (refl, refl)
    go true false = itself d
    go false c = itself d
into_same r key bytes body sent d = itself d

frame_same : (r : ℕ) (bytes : List ℕ) (key : Option (List ℕ)) (taken : Option FrameView) (sent : List FrameView) (d : Driver) → Same d (takes_frame r bytes key taken sent d)
frame_same r bytes (Some key) (Some f) sent d = into_same r key bytes f.body sent d
frame_same r bytes key taken sent d = itself d

store_same : (st : State) (r : ℕ) (m : Effect) (bytes : List ℕ) (kind : EntryKind) (d : Driver) → Same d (store_after st r m bytes kind d)
store_same st r m bytes (kinds.Gain by size key) d = (refl, refl)
store_same st r m bytes (kinds.Gone by key) d = (refl, refl)
store_same st r m bytes (kinds.Talk job) d = frame_same r bytes (asked_key st m) m.taken m.sent d
store_same st r m bytes (kinds.Fault call by) d = (refl, refl)
store_same st r m bytes kind d = itself d

makes_same : (st : State) (r : ℕ) (k : Look) (o : Option Effect) (d : Driver) → Same d (makes st r k o d)
makes_same st r k None d = itself d
makes_same st r k (Some m) d = store_same st r m (bytes_taken r m.taken d) m.kind (adds st r (entry_of r k m) d)

looks_same : (g : DriverInput) (r : ℕ) (s : SetUp) (st : State) (o : Option Effect) (d : Driver) → Same d (looks g r s st o d)
looks_same g r s st None d = itself d
looks_same g r s st (Some m) d = makes_same st r (look_for g d r s st m) (step s st (look_for g d r s st m)) d

pub turn_same : (g : DriverInput) (r : ℕ) (d : Driver) → Same d (turn g r d)
turn_same g r d =
    let c : Driver = without_old_flights (state_at g d r) r d in
    looks_same g r (set_up_of g d r) (state_at g d r) (step (set_up_of g d r) (state_at g d r) (plain_look (set_up_of g d r) c)) c

turns_same : (g : DriverInput) (r n : ℕ) (d : Driver) → Same d (turns g r n d)
turns_same g r zero d = itself d
turns_same g r (suc n) d = then_same d (turn g r d) (turns g r n (turn g r d)) (turn_same g r d) (turns_same g r n (turn g r d))

turns_of_same : (g : DriverInput) (rs : List ℕ) (d : Driver) → Same d (turns_of g rs d)
turns_of_same g [] d = itself d
turns_of_same g (r ∷ rs) d = then_same d (turn g r d) (turns_of g rs (turn g r d)) (turn_same g r d) (turns_of_same g rs (turn g r d))

round_same : (g : DriverInput) (d : Driver) → Same d (round g d)
round_same g d = turns_of_same g (numbers g) d

goes_same : (g : DriverInput) (x : AfterRounds) → Same x.driver (goes_round g x).driver
goes_same g x = go (is_settled x)
  where
    go : (b : Bool) → Same x.driver (if b then x else after_round x (round g x.driver)).driver
    go true = itself x.driver
    go false = round_same g x.driver

rounds_same : (g : DriverInput) (n : ℕ) (x : AfterRounds) → Same x.driver (rounds g n x).driver
rounds_same g zero x = goes_same g x
rounds_same g (suc n) x = go (then_same x.driver (rounds g n x).driver (rounds g n (rounds g n x)).driver (rounds_same g n x) (rounds_same g n (rounds g n x))) (is_settled x)
  where
    go : Same x.driver (rounds g n (rounds g n x)).driver → (b : Bool) → Same x.driver (if b then x else rounds g n (rounds g n x)).driver
    go more true = itself x.driver
    go more false = more

settles_same : (g : DriverInput) (d : Driver) → Same d (settles g d)
settles_same g d = rounds_same g most_rounds (record { driver = d; idle = 0 })

-- ---- blocks

takes_same : (g : DriverInput) (r : ℕ) (ls : List BlockLine) (jobs : List ℕ) (d : Driver) → Same d (takes_all g r ls jobs d).driver
takes_same g r [] jobs d = itself d
takes_same g r (Runs job ∷ ls) jobs d = go (takes_same g r ls ((begun_count d.past r + 1) ∷ jobs) (begins r job d)) (may_begin d r jobs)
  where
    go : Same (begins r job d) (takes_all g r ls ((begun_count d.past r + 1) ∷ jobs) (begins r job d)).driver → (b : Bool)
        → Same d (if b then takes_all g r ls ((begun_count d.past r + 1) ∷ jobs) (begins r job d) else record { driver = d; left = record { repo = r; lines = Runs job ∷ ls; jobs = jobs } }).driver
    go more true = then_same d (begins r job d) (takes_all g r ls ((begun_count d.past r + 1) ∷ jobs) (begins r job d)).driver (begins_same r job d) more
    go more false = itself d
takes_same g r (Crashes clock ∷ ls) jobs d = takes_same g r ls jobs (crashes g r clock d)
takes_same g r (Closes other ∷ ls) jobs d = go (takes_same g r ls jobs (closes g r other d)) (lacks_places d.past r other)
  where
    go : Same (closes g r other d) (takes_all g r ls jobs (closes g r other d)).driver → (b : Bool)
        → Same d (if b then record { driver = d; left = record { repo = r; lines = Closes other ∷ ls; jobs = jobs } } else takes_all g r ls jobs (closes g r other d)).driver
    go more true = itself d
    go more false = then_same d (closes g r other d) (takes_all g r ls jobs (closes g r other d)).driver (closes_same g r other d) more
takes_same g r (Fails call ∷ ls) jobs d = takes_same g r ls jobs (will_fail r call d)

agendas_same : (g : DriverInput) (ags : List Agenda) (d : Driver) → Same d (takes_each g ags d).driver
agendas_same g [] d = itself d
agendas_same g (a ∷ ags) d = go (agendas_same g ags (takes g a d).driver) (lacks_next (takes g a d).driver.past a.repo (takes g a d).left.lines)
  where
    go : Same (takes g a d).driver (takes_each g ags (takes g a d).driver).driver → (b : Bool)
        → Same d (if b then record { driver = (takes g a d).driver; left = (takes g a d).left ∷ ags } else and_left (takes g a d).left (takes_each g ags (takes g a d).driver)).driver
    go more true = takes_same g a.repo a.lines a.jobs d
    go more false = then_same d (takes g a d).driver (takes_each g ags (takes g a d).driver).driver (takes_same g a.repo a.lines a.jobs d) more

with_round_same : (g : DriverInput) (x : InBlock) (b : Block) → Same x.driver b.driver → Same x.driver (with_round g x b).driver
with_round_same g x b took = go (is_stuck b.driver b.left)
  where
    go : (c : Bool) → Same x.driver (if c then stuck_at b else block_at x b (round g b.driver)).driver
    go true = took
    go false = then_same x.driver b.driver (round g b.driver) took (round_same g b.driver)

block_same : (g : DriverInput) (x : InBlock) → Same x.driver (block_round g x).driver
block_same g x = go (is_over x)
  where
    go : (b : Bool) → Same x.driver (if b then x else with_round g x (takes_each g x.left x.driver)).driver
    go true = itself x.driver
    go false = with_round_same g x (takes_each g x.left x.driver) (agendas_same g x.left x.driver)

block_rounds_same : (g : DriverInput) (n : ℕ) (x : InBlock) → Same x.driver (block_rounds g n x).driver
block_rounds_same g zero x = block_same g x
block_rounds_same g (suc n) x = go (then_same x.driver (block_rounds g n x).driver (block_rounds g n (block_rounds g n x)).driver (block_rounds_same g n x) (block_rounds_same g n (block_rounds g n x))) (is_over x)
  where
    go : Same x.driver (block_rounds g n (block_rounds g n x)).driver → (b : Bool) → Same x.driver (if b then x else block_rounds g n (block_rounds g n x)).driver
    go more true = itself x.driver
    go more false = more

after_same : (g : DriverInput) (d : Driver) (x : InBlock) → Same d x.driver → Same d (settles_after g x)
after_same g d x ended = go (is_stuck x.driver x.left)
  where
    go : (b : Bool) → Same d (if b then x.driver else settles g x.driver)
    go true = ended
    go false = then_same d x.driver (settles g x.driver) ended (settles_same g x.driver)

blocks_same : (g : DriverInput) (xs : List Agendum) (d : Driver) → Same d (blocks g xs d)
blocks_same g xs d = after_same g d (block_end g xs d) (block_rounds_same g most_rounds (record { driver = d; left = map (agenda xs) (numbers g); idle = 0; took = true }))

-- ---- syncs

merges_each_same : (r : ℕ) (others : List ℕ) (d : Driver) → Same d (merges_each r others d)
merges_each_same r [] d = itself d
merges_each_same r (other ∷ others) d = then_same d (merges r other d) (merges_each r others (merges r other d)) (merged_same r (branch d.past other) d) (merges_each_same r others (merges r other d))

each_merges_same : (r : ℕ) (others : List ℕ) (d : Driver) → Same d (each_merges r others d)
each_merges_same r [] d = itself d
each_merges_same r (other ∷ others) d = then_same d (merges other r d) (each_merges r others (merges other r d)) (merged_same other (branch d.past r) d) (each_merges_same r others (merges other r d))

shares_same : (g : DriverInput) (r : ℕ) (d : Driver) → Same d (shares_logs g r d)
shares_same g r d =
    then_same d (settles g d) (shares_logs g r d) (settles_same g d)
    (then_same (settles g d) (merges_each r (numbers_but g r) (settles g d)) (shares_logs g r d) (merges_each_same r (numbers_but g r) (settles g d))
    (each_merges_same r (numbers_but g r) (merges_each r (numbers_but g r) (settles g d))))

carries_same : (g : DriverInput) (r : ℕ) (actions : List Action) (d : Driver) → Same d (carries_out g r actions d)
carries_same g r [] d = itself d
carries_same g r (action ∷ actions) d =
    then_same d (begins r (job_for action) d) (carries_out g r actions (settles g (begins r (job_for action) d))) (begins_same r (job_for action) d)
    (then_same (begins r (job_for action) d) (settles g (begins r (job_for action) d)) (carries_out g r actions (settles g (begins r (job_for action) d))) (settles_same g (begins r (job_for action) d))
    (carries_same g r actions (settles g (begins r (job_for action) d))))

transfers_same : (g : DriverInput) (r : ℕ) (d : Driver) → Same d (transfers g r d)
transfers_same g r d = carries_same g r (filter is_transfer (plan_at g r d)) d

drops_spared_same : (g : DriverInput) (r : ℕ) (d : Driver) → Same d (drops_spared g r d)
drops_spared_same g r d = carries_same g r (filter (λ action. not (is_transfer action)) (plan_at g r d)) d

syncs_same : (g : DriverInput) (r : ℕ) (d : Driver) → Same d (syncs g r d)
syncs_same g r d =
    then_same d shared (syncs g r d) (shares_same g r d)
    (then_same shared brought (syncs g r d) (transfers_same g r shared)
    (then_same brought (drops_spared g r brought) (syncs g r d) (drops_spared_same g r brought) (shares_same g r (drops_spared g r brought))))
  where
    shared : Driver
    shared = shares_logs g r d

    brought : Driver
    brought = transfers g r shared

pub shares_tree : (g : DriverInput) (r : ℕ) (d : Driver) → (shares_logs g r d).tree ≡ d.tree
shares_tree g r d = (shares_same g r d).1

pub transfers_tree : (g : DriverInput) (r : ℕ) (d : Driver) → (transfers g r d).tree ≡ d.tree
transfers_tree g r d = (transfers_same g r d).1

pub has_tree : (g : DriverInput) (r : ℕ) (key bytes : List ℕ) (d : Driver) → (has g r key bytes d).tree ≡ d.tree
has_tree g r key bytes d = (has_same g r key bytes d).1

-- ---- lines

pub line_same : (g : DriverInput) (line : Command) (d : Driver) → names_path line ≡ false → Same d (does g line d)
line_same g (Does (Have r key bytes)) d plain = has_same g r key bytes d
line_same g (Does (SetPart r key bytes)) d plain = part_same g r key bytes d
line_same g (Does (Add r path key bytes)) d plain = absurd (cc)
line_same g (Does (File path key)) d plain = absurd (cc)
line_same g (Does (Set r kind topic value)) d plain = writes_same r (Of kind) (setting_line g d r kind topic value) d
line_same g (Does (Raw r file line)) d plain = writes_same r file line d
line_same g (Does (Merge r other)) d plain = merged_same r (branch d.past other) d
line_same g (Does (Compact r)) d plain = compacted_same r (branch d.past r) d
line_same g (Does (Sync r)) d plain = syncs_same g r d
line_same g (Does (Begin r job)) d plain = begins_same r job d
line_same g (Does (Run r job)) d plain = then_same d (begins r job d) (settles g (begins r job d)) (begins_same r job d) (settles_same g (begins r job d))
line_same g (Does (Turns r n)) d plain = turns_same g r n d
line_same g (Does Settle) d plain = settles_same g d
line_same g (Does (Close r other)) d plain = closes_same g r other d
line_same g (Does (Crash r clock)) d plain = (refl, refl)
line_same g (Does (Wait milliseconds)) d plain = (refl, refl)
line_same g (Does (Fail r call)) d plain = (refl, refl)
line_same g (Par lines) d plain = blocks_same g lines d
line_same g (Repo name id offset version locks) d plain = itself d
line_same g (Damage r key bytes) d plain = itself d
line_same g (Shows what) d plain = itself d

pub line_tree : (g : DriverInput) (line : Command) (d : Driver) → names_path line ≡ false → (does g line d).tree ≡ d.tree
line_tree g line d plain = (line_same g line d plain).1

pub line_marks : (g : DriverInput) (line : Command) (d : Driver) → (does g line d).marks ≡ d.marks
line_marks g (Does (Add r path key bytes)) d = (has_same g r key bytes (enters path key d)).0
line_marks g (Does (File path key)) d = refl
line_marks g line d = (line_same g line d refl).0
