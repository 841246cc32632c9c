-- Each step of the driver only adds entries to the past, and none makes the greatest part smaller: where it is within bounds behind a
-- step, it was so before.
use Rattle.std.proofs.Common.{◌≡◌, ℕ, zero, suc, ◌+◌, ◌≤◌, Bool, true, false, List, [], ◌∷◌, ◌++◌, Option, Some, None, refl, sym, ap, ◌∙◌, subst, append_assoc, arith}
use Rattle.std.specs.Prelude.{if◌then◌else◌, filter, length, map, nat_lt, not}
use Rattle.std.proofs.Math.Nat.{le-max_left}
use Rattle.annex_base.specs.declared.kinds.Call.{Call}
use Rattle.annex_base.specs.declared.kinds.Call.TheVariants as calls
use Rattle.log_lines.specs.declared.entry.LogKind.{LogKind}
use Rattle.log_lines.specs.declared.entry.Topic.{Topic}
use Rattle.log_lines.specs.declared.entry.Value.{Value}
use Rattle.union_merge.specs.Branch.{Files}
use Rattle.run_data.specs.declared.entry.Entry.{Entry}
use Rattle.run_data.specs.declared.entry.EntryKind.{EntryKind}
use Rattle.run_data.specs.declared.entry.EntryKind.TheVariants as kinds
use Rattle.run_data.specs.declared.entry.FrameText.{FrameText}
use Rattle.run_data.specs.declared.entry.FrameText.TheVariants as texts
use Rattle.run_data.specs.declared.entry.FrameView.{FrameView}
use Rattle.run_data.specs.declared.entry.LogFile.{LogFile}
use Rattle.run_data.specs.declared.entry.LogFile.TheVariants.{Location, Of}
use Rattle.run_data.specs.declared.job.Job.{Job}
use Rattle.run_data.specs.Files.{file_of}
use Rattle.run_data.specs.Repos.{id_of}
use Rattle.run_model.specs.Logs.{branch}
use Rattle.run_model.specs.Past.{Always, begun_count}
use Rattle.run_model.specs.States.{end_at, works}
use Rattle.node_model.specs.AnyTime.{close_at}
use Rattle.node_model.specs.Ends.{EndName}
use Rattle.node_model.specs.Look.{Look, Effect, entry_of}
use Rattle.node_model.specs.OwedLines.{if_new, status_line}
use Rattle.node_model.specs.Sessions.{line_in, message_said}
use Rattle.node_model.specs.SetUp.{SetUp}
use Rattle.node_model.specs.State.{State}
use Rattle.node_model.specs.Step.{step}
use Rattle.wanted_rules.specs.declared.action.Action.{Action}
use Rattle.script_commands.specs.declared.command.Action.TheVariants.{Have, SetPart, Add, File, Set, Raw, Merge, Compact, Sync, Begin, Run, Turns, Settle, Close, Crash, Wait, Fail}
use Rattle.script_commands.specs.declared.command.Agendum.{Agendum}
use Rattle.script_commands.specs.declared.command.BlockLine.{BlockLine}
use Rattle.script_commands.specs.declared.command.BlockLine.TheVariants.{Runs, Crashes, Closes, Fails}
use Rattle.script_commands.specs.declared.command.Command.{Command}
use Rattle.script_commands.specs.declared.command.Command.TheVariants.{Repo, Does, Damage, Par, Shows}
use Rattle.driver_model.specs.Driver.{Driver, DriverInput, adds, drops_part, fails_at, notes, part_at, puts_part, set_up_of, state_at, without_old_flights}
use Rattle.driver_model.specs.ScriptSteps.{begins, begins_part, unless_fails, closes, closes_each, closes_end, compacts, compacts_files, crashes, ends_at, enters, faults, fills_up, gains, gets_content, has, is_busy, is_nil, lacks_places, lines_of, logs, logs_some, logs_status, merges, merges_files, news, sends, sets, sets_part, setting_line, shrinks, unknown_lines, unless_busy, waits, wall_of, will_fail, writes}
use Rattle.driver_model.specs.Turning.{asked_key, bytes_taken, is_failure, is_valid, look_for, looks, makes, plain_look, store_after, takes_frame, takes_into, turn}
use Rattle.driver_model.specs.Rounds.{Agenda, Block, InBlock, AfterRounds, agenda, and_left, block_at, block_end, block_round, block_rounds, blocks, after_round, goes_round, is_over, is_settled, is_stuck, lacks_next, may_begin, most_rounds, numbers, round, rounds, settles, settles_after, stuck_at, takes, takes_all, takes_each, turns_of, with_round}
use Rattle.driver_model.specs.Syncs.{carries_out, drops_spared, each_merges, is_transfer, job_for, merges_each, numbers_but, plan_at, shares_logs, syncs, transfers}
use Rattle.driver_model.specs.Driving.{does, drives, turns, with_mark}
use Rattle.driver_model.specs.Scripts.{HasBoundedPast, IsWithinBounds}
use Rattle.driver_model.proofs.Settles.{store_past}

-- the branch that a test takes
pub if_yes : {X : Type 0} (b : Bool) (x y : X) → b ≡ true → (if b then x else y) ≡ x
if_yes true x y i = refl
if_yes false x y i = absurd (cc)

pub if_no : {X : Type 0} (b : Bool) (x y : X) → b ≡ false → (if b then x else y) ≡ y
if_no true x y i = absurd (cc)
if_no false x y i = refl

-- the one past is the other with entries in front
abbrev pub GrewOn : List Entry → List Entry → Type 0
GrewOn past after = (more : List Entry) × (after ≡ more ++ past)

-- so is that of a driver, and its greatest part is no smaller
abbrev pub Within : Driver → Driver → Type 0
Within d after = GrewOn d.past after.past × (d.largest ≤ after.largest)

le : (n : ℕ) → n ≤ n
le n = omega arith

grew_none : (past : List Entry) → GrewOn past past
grew_none past = ([], refl)

one : (past : List Entry) (e : Entry) → GrewOn past (e ∷ past)
one past e = (e ∷ [], refl)

pub stays : (d : Driver) → Within d d
stays d = (grew_none d.past, le d.largest)

pub then_within : (a b c : Driver) → Within a b → Within b c → Within a c
then_within a b c x y = (
  (y.0.0 ++ x.0.0, y.0.1 ∙ ap (λ past. y.0.0 ++ past) x.0.1 ∙ sym (append_assoc y.0.0 x.0.0 a.past)),
  let i = x.1 in let j = y.1 in omega (arith, i, j),
)

always_suffix : (P : List Entry → Entry → Type 0) (more past : List Entry) → Always P (more ++ past) → Always P past
always_suffix P [] past h = h
always_suffix P (e ∷ more) past h = always_suffix P more past h.1

-- what is within bounds behind the step was so before
pub fits_before : (d after : Driver) → Within d after → HasBoundedPast after → HasBoundedPast d
fits_before d after x fits = (
  always_suffix IsWithinBounds x.0.0 d.past (subst (Always IsWithinBounds) x.0.1 fits.0),
  let i = x.1 in let j = fits.1 in omega (arith, i, j),
)

-- ---- store calls and lines

calling_within : (d done : Driver) (r : ℕ) (call : Call) → Within d done → Within d (unless_fails r call d done)
calling_within d done r call x = go (fails_at d r call)
  where
    go : (b : Bool) → Within d (if b then faults r call d else done)
    go true = (one d.past _, le d.largest)
    go false = x

logs_within : (r : ℕ) (file : LogFile) (lines : List (List ℕ)) (d : Driver) → Within d (logs r file lines d)
logs_within r file lines d = calling_within d (notes r (kinds.Log file) lines d) r calls.PutFile (one d.past _, le d.largest)

some_within : (r : ℕ) (file : LogFile) (lines : List (List ℕ)) (d : Driver) → Within d (logs_some r file lines d)
some_within r file [] d = stays d
some_within r file (line ∷ lines) d = logs_within r file (line ∷ lines) d

writes_within : (r : ℕ) (file : LogFile) (line : List ℕ) (d : Driver) → Within d (writes r file line d)
writes_within r file line d = some_within r file (unknown_lines d r file (line ∷ [])) d

sets_within : (g : DriverInput) (r : ℕ) (kind : LogKind) (topic : Topic) (value : Value) (d : Driver) → Within d (sets g r kind topic value d)
sets_within g r kind topic value d = writes_within r (Of kind) (setting_line g d r kind topic value) d

merged_within : (r : ℕ) (files : Files) (d : Driver) → Within d (merges_files r files d)
merged_within r [] d = stays d
merged_within r (f ∷ files) d = go (merged_within r files d) (merged_within r files written) (is_nil (news d r f.0 f.1)) (fails_at d r calls.PutFile)
  where
    written : Driver
    written = notes r (kinds.Log (file_of f.0)) (news d r f.0 f.1) d

    go : Within d (merges_files r files d) → Within written (merges_files r files written) → (b c : Bool)
        → Within d (if b then merges_files r files d else (if c then faults r calls.PutFile d else merges_files r files written))
    go same more true c = same
    go same more false true = (one d.past _, le d.largest)
    go same more false false = then_within d written (merges_files r files written) (one d.past _, le d.largest) more

merges_within : (r other : ℕ) (d : Driver) → Within d (merges r other d)
merges_within r other d = merged_within r (branch d.past other) d

compacted_within : (r : ℕ) (files : Files) (d : Driver) → Within d (compacts_files r files d)
compacted_within r [] d = stays d
compacted_within r (f ∷ files) d = go (compacted_within r files d) (compacted_within r files shorter) (not (shrinks d r (file_of f.0))) (fails_at d r calls.PutFile)
  where
    shorter : Driver
    shorter = notes r (kinds.Compact (file_of f.0)) [] d

    go : Within d (compacts_files r files d) → Within shorter (compacts_files r files shorter) → (b c : Bool)
        → Within d (if b then compacts_files r files d else (if c then faults r calls.PutFile d else compacts_files r files shorter))
    go same more true c = same
    go same more false true = (one d.past _, le d.largest)
    go same more false false = then_within d shorter (compacts_files r files shorter) (one d.past _, le d.largest) more

compacts_within : (r : ℕ) (d : Driver) → Within d (compacts r d)
compacts_within r d = compacted_within r (branch d.past r) d

-- ---- contents

puts_within : (r : ℕ) (key bytes : List ℕ) (d : Driver) → Within d (puts_part r key bytes d)
puts_within r key bytes d = (grew_none d.past, le-max_left d.largest (length bytes))

status_within : (g : DriverInput) (r : ℕ) (key : List ℕ) (d : Driver) → Within d (logs_status g r key d)
status_within g r key d = logs_within r (Location key) (if_new (lines_of d r (Location key)) (status_line (lines_of d r (Location key)) (id_of g.repos r) true (wall_of g d r))) d

gains_within : (g : DriverInput) (r : ℕ) (key bytes : List ℕ) (d : Driver) → Within d (gains g r key bytes d)
gains_within g r key bytes d = then_within d (gets_content r key bytes d) (gains g r key bytes d) (one d.past _, le d.largest) (status_within g r key (gets_content r key bytes d))

fills_within : (g : DriverInput) (r : ℕ) (key bytes : List ℕ) (d : Driver) → Within d (fills_up g r key bytes d)
fills_within g r key bytes d = go (fails_at d r calls.Append)
  where
    put : Driver
    put = puts_part r key bytes d

    go : (b : Bool) → Within d (if b then faults r calls.Append d else unless_fails r calls.Commit (puts_part r key bytes d) (gains g r key bytes (puts_part r key bytes d)))
    go true = (one d.past _, le d.largest)
    go false = then_within d put (unless_fails r calls.Commit put (gains g r key bytes put)) (puts_within r key bytes d) (calling_within put (gains g r key bytes put) r calls.Commit (gains_within g r key bytes put))

unless_within : (g : DriverInput) (r : ℕ) (key : List ℕ) (d done : Driver) → Within d done → Within d (unless_busy g r key d done)
unless_within g r key d done x = calling_within d (if is_busy g d r key then d else unless_fails r calls.DropPart d done) r calls.Has (go (is_busy g d r key))
  where
    go : (b : Bool) → Within d (if b then d else unless_fails r calls.DropPart d done)
    go true = stays d
    go false = calling_within d done r calls.DropPart x

has_within : (g : DriverInput) (r : ℕ) (key bytes : List ℕ) (d : Driver) → Within d (has g r key bytes d)
has_within g r key bytes d = unless_within g r key d (fills_up g r key bytes (drops_part r key d)) (fills_within g r key bytes (drops_part r key d))

part_within : (g : DriverInput) (r : ℕ) (key bytes : List ℕ) (d : Driver) → Within d (sets_part g r key bytes d)
part_within g r key bytes d = unless_within g r key d (begins_part r key bytes (drops_part r key d))
    (calling_within (drops_part r key d) (puts_part r key bytes (drops_part r key d)) r calls.Append (puts_within r key bytes (drops_part r key d)))

-- ---- jobs, connections, crashes, time and the tree

pub begins_within : (r : ℕ) (job : Job) (d : Driver) → Within d (begins r job d)
begins_within r job d = go (nat_lt (length (works d.past r)) 4)
  where
    go : (b : Bool) → Within d (if b then notes r (kinds.Begin (begun_count d.past r + 1) job) [] d else d)
    go true = (one d.past _, le d.largest)
    go false = stays d

pub close_within : (g : DriverInput) (r : ℕ) (a : EndName) (d : Driver) → Within d (closes_end g r a d)
close_within g r a d = go (end_at d.past r a).opened
  where
    go : (b : Bool) → Within d (if b then sends g r (kinds.Close a.peer a.slot a.client) (close_at (set_up_of g d r) (state_at g d r) a) d else d)
    go true = (one d.past _, le d.largest)
    go false = stays d

pub each_within : (g : DriverInput) (r : ℕ) (ends : List EndName) (d : Driver) → Within d (closes_each g r ends d)
each_within g r [] d = stays d
each_within g r (a ∷ ends) d = then_within d (closes_end g r a d) (closes_each g r ends (closes_end g r a d)) (close_within g r a d) (each_within g r ends (closes_end g r a d))

pub closes_within : (g : DriverInput) (r other : ℕ) (d : Driver) → Within d (closes g r other d)
closes_within g r other d = go (lacks_places d.past r other)
  where
    go : (b : Bool) → Within d (if b then d else closes_each g r (ends_at other) d)
    go true = stays d
    go false = each_within g r (ends_at other) d

pub crashes_within : (g : DriverInput) (r clock : ℕ) (d : Driver) → Within d (crashes g r clock d)
crashes_within g r clock d = (one d.past _, le d.largest)

waits_within : (milliseconds : ℕ) (d : Driver) → Within d (waits milliseconds d)
waits_within milliseconds d = (one d.past _, le d.largest)

enters_within : (path key : List ℕ) (d : Driver) → Within d (enters path key d)
enters_within path key d = stays d

pub fail_within : (r : ℕ) (call : Call) (d : Driver) → Within d (will_fail r call d)
fail_within r call d = stays d

pub mark_within : (d : Driver) → Within d (with_mark d)
mark_within d = stays d

-- ---- turns, and rounds of them

into_larger : (r : ℕ) (key bytes : List ℕ) (body : FrameText) (sent : List FrameView) (d : Driver) → d.largest ≤ (takes_into r key bytes body sent d).largest
into_larger r key bytes (texts.Bytes n) [] d = le-max_left d.largest (length (part_at d r key ++ bytes))
into_larger r key bytes (texts.Line text) sent d = go (is_valid (line_in (texts.Line text))) (is_failure (message_said sent))
  where
    go : (b c : Bool) → d.largest ≤ (if b then (if c then drops_part r key d else d) else d).largest
    go true true = le d.largest
    go true false = le d.largest
    go false c = le d.largest
into_larger r key bytes body sent d = le d.largest

frame_larger : (r : ℕ) (bytes : List ℕ) (key : Option (List ℕ)) (taken : Option FrameView) (sent : List FrameView) (d : Driver) → d.largest ≤ (takes_frame r bytes key taken sent d).largest
frame_larger r bytes (Some key) (Some f) sent d = into_larger r key bytes f.body sent d
frame_larger r bytes key taken sent d = le d.largest

pub store_larger : (st : State) (r : ℕ) (m : Effect) (bytes : List ℕ) (kind : EntryKind) (d : Driver) → d.largest ≤ (store_after st r m bytes kind d).largest
store_larger st r m bytes (kinds.Gain by size key) d = le d.largest
store_larger st r m bytes (kinds.Gone by key) d = le d.largest
store_larger st r m bytes (kinds.Talk job) d = frame_larger r bytes (asked_key st m) m.taken m.sent d
store_larger st r m bytes (kinds.Fault call by) d = le d.largest
store_larger st r m bytes kind d = le d.largest

makes_within : (st : State) (r : ℕ) (k : Look) (o : Option Effect) (d : Driver) → Within d (makes st r k o d)
makes_within st r k None d = stays d
makes_within st r k (Some m) d = (
  (entry_of r k m ∷ [], store_past st r m (bytes_taken r m.taken d) m.kind (adds st r (entry_of r k m) d)),
  store_larger st r m (bytes_taken r m.taken d) m.kind (adds st r (entry_of r k m) d),
)

looks_within : (g : DriverInput) (r : ℕ) (s : SetUp) (st : State) (o : Option Effect) (d : Driver) → Within d (looks g r s st o d)
looks_within g r s st None d = stays d
looks_within g r s st (Some m) d = makes_within st r (look_for g d r s st m) (step s st (look_for g d r s st m)) d

pub turn_within : (g : DriverInput) (r : ℕ) (d : Driver) → Within d (turn g r d)
turn_within g r d =
    let c : Driver = without_old_flights (state_at g d r) r d in
    looks_within g r (set_up_of g d r) (state_at g d r) (step (set_up_of g d r) (state_at g d r) (plain_look (set_up_of g d r) c)) c

turns_within : (g : DriverInput) (r n : ℕ) (d : Driver) → Within d (turns g r n d)
turns_within g r zero d = stays d
turns_within g r (suc n) d = then_within d (turn g r d) (turns g r n (turn g r d)) (turn_within g r d) (turns_within g r n (turn g r d))

pub turns_of_within : (g : DriverInput) (rs : List ℕ) (d : Driver) → Within d (turns_of g rs d)
turns_of_within g [] d = stays d
turns_of_within g (r ∷ rs) d = then_within d (turn g r d) (turns_of g rs (turn g r d)) (turn_within g r d) (turns_of_within g rs (turn g r d))

pub round_within : (g : DriverInput) (d : Driver) → Within d (round g d)
round_within g d = turns_of_within g (numbers g) d

goes_within : (g : DriverInput) (x : AfterRounds) → Within x.driver (goes_round g x).driver
goes_within g x = go (is_settled x)
  where
    go : (b : Bool) → Within x.driver (if b then x else after_round x (round g x.driver)).driver
    go true = stays x.driver
    go false = round_within g x.driver

rounds_within : (g : DriverInput) (n : ℕ) (x : AfterRounds) → Within x.driver (rounds g n x).driver
rounds_within g zero x = goes_within g x
rounds_within g (suc n) x = go (then_within x.driver (rounds g n x).driver (rounds g n (rounds g n x)).driver (rounds_within g n x) (rounds_within g n (rounds g n x))) (is_settled x)
  where
    go : Within x.driver (rounds g n (rounds g n x)).driver → (b : Bool) → Within x.driver (if b then x else rounds g n (rounds g n x)).driver
    go more true = stays x.driver
    go more false = more

settles_within : (g : DriverInput) (d : Driver) → Within d (settles g d)
settles_within g d = rounds_within g most_rounds (record { driver = d; idle = 0 })

-- ---- blocks

pub takes_within : (g : DriverInput) (r : ℕ) (ls : List BlockLine) (jobs : List ℕ) (d : Driver) → Within d (takes_all g r ls jobs d).driver
takes_within g r [] jobs d = stays d
takes_within g r (Runs job ∷ ls) jobs d = go (takes_within g r ls ((begun_count d.past r + 1) ∷ jobs) (begins r job d)) (may_begin d r jobs)
  where
    go : Within (begins r job d) (takes_all g r ls ((begun_count d.past r + 1) ∷ jobs) (begins r job d)).driver → (b : Bool)
        → Within d (if b then takes_all g r ls ((begun_count d.past r + 1) ∷ jobs) (begins r job d) else record { driver = d; left = record { repo = r; lines = Runs job ∷ ls; jobs = jobs } }).driver
    go more true = then_within d (begins r job d) (takes_all g r ls ((begun_count d.past r + 1) ∷ jobs) (begins r job d)).driver (begins_within r job d) more
    go more false = stays d
takes_within g r (Crashes clock ∷ ls) jobs d = then_within d (crashes g r clock d) (takes_all g r ls jobs (crashes g r clock d)).driver (crashes_within g r clock d) (takes_within g r ls jobs (crashes g r clock d))
takes_within g r (Closes other ∷ ls) jobs d = go (takes_within g r ls jobs (closes g r other d)) (lacks_places d.past r other)
  where
    go : Within (closes g r other d) (takes_all g r ls jobs (closes g r other d)).driver → (b : Bool)
        → Within d (if b then record { driver = d; left = record { repo = r; lines = Closes other ∷ ls; jobs = jobs } } else takes_all g r ls jobs (closes g r other d)).driver
    go more true = stays d
    go more false = then_within d (closes g r other d) (takes_all g r ls jobs (closes g r other d)).driver (closes_within g r other d) more
takes_within g r (Fails call ∷ ls) jobs d = then_within d (will_fail r call d) (takes_all g r ls jobs (will_fail r call d)).driver (fail_within r call d) (takes_within g r ls jobs (will_fail r call d))

pub agendas_within : (g : DriverInput) (ags : List Agenda) (d : Driver) → Within d (takes_each g ags d).driver
agendas_within g [] d = stays d
agendas_within g (a ∷ ags) d = go (agendas_within g ags (takes g a d).driver) (lacks_next (takes g a d).driver.past a.repo (takes g a d).left.lines)
  where
    go : Within (takes g a d).driver (takes_each g ags (takes g a d).driver).driver → (b : Bool)
        → Within d (if b then record { driver = (takes g a d).driver; left = (takes g a d).left ∷ ags } else and_left (takes g a d).left (takes_each g ags (takes g a d).driver)).driver
    go more true = takes_within g a.repo a.lines a.jobs d
    go more false = then_within d (takes g a d).driver (takes_each g ags (takes g a d).driver).driver (takes_within g a.repo a.lines a.jobs d) more

pub with_round_within : (g : DriverInput) (x : InBlock) (b : Block) → Within x.driver b.driver → Within x.driver (with_round g x b).driver
with_round_within g x b took = go (is_stuck b.driver b.left)
  where
    go : (c : Bool) → Within x.driver (if c then stuck_at b else block_at x b (round g b.driver)).driver
    go true = took
    go false = then_within x.driver b.driver (round g b.driver) took (round_within g b.driver)

pub block_within : (g : DriverInput) (x : InBlock) → Within x.driver (block_round g x).driver
block_within g x = go (is_over x)
  where
    go : (b : Bool) → Within x.driver (if b then x else with_round g x (takes_each g x.left x.driver)).driver
    go true = stays x.driver
    go false = with_round_within g x (takes_each g x.left x.driver) (agendas_within g x.left x.driver)

pub block_rounds_within : (g : DriverInput) (n : ℕ) (x : InBlock) → Within x.driver (block_rounds g n x).driver
block_rounds_within g zero x = block_within g x
block_rounds_within g (suc n) x = go (then_within x.driver (block_rounds g n x).driver (block_rounds g n (block_rounds g n x)).driver (block_rounds_within g n x) (block_rounds_within g n (block_rounds g n x))) (is_over x)
  where
    go : Within x.driver (block_rounds g n (block_rounds g n x)).driver → (b : Bool) → Within x.driver (if b then x else block_rounds g n (block_rounds g n x)).driver
    go more true = stays x.driver
    go more false = more

pub after_within : (g : DriverInput) (d : Driver) (x : InBlock) → Within d x.driver → Within d (settles_after g x)
after_within g d x ended = go (is_stuck x.driver x.left)
  where
    go : (b : Bool) → Within d (if b then x.driver else settles g x.driver)
    go true = ended
    go false = then_within d x.driver (settles g x.driver) ended (settles_within g x.driver)

blocks_within : (g : DriverInput) (xs : List Agendum) (d : Driver) → Within d (blocks g xs d)
blocks_within g xs d = after_within g d (block_end g xs d) (block_rounds_within g most_rounds (record { driver = d; left = map (agenda xs) (numbers g); idle = 0; took = true }))

-- ---- syncs

merges_each_within : (r : ℕ) (others : List ℕ) (d : Driver) → Within d (merges_each r others d)
merges_each_within r [] d = stays d
merges_each_within r (other ∷ others) d = then_within d (merges r other d) (merges_each r others (merges r other d)) (merges_within r other d) (merges_each_within r others (merges r other d))

each_merges_within : (r : ℕ) (others : List ℕ) (d : Driver) → Within d (each_merges r others d)
each_merges_within r [] d = stays d
each_merges_within r (other ∷ others) d = then_within d (merges other r d) (each_merges r others (merges other r d)) (merges_within other r d) (each_merges_within r others (merges other r d))

shares_within : (g : DriverInput) (r : ℕ) (d : Driver) → Within d (shares_logs g r d)
shares_within g r d =
    then_within d (settles g d) (shares_logs g r d) (settles_within g d)
    (then_within (settles g d) (merges_each r (numbers_but g r) (settles g d)) (shares_logs g r d) (merges_each_within r (numbers_but g r) (settles g d))
    (each_merges_within r (numbers_but g r) (merges_each r (numbers_but g r) (settles g d))))

carries_within : (g : DriverInput) (r : ℕ) (actions : List Action) (d : Driver) → Within d (carries_out g r actions d)
carries_within g r [] d = stays d
carries_within g r (action ∷ actions) d =
    then_within d (begins r (job_for action) d) (carries_out g r actions (settles g (begins r (job_for action) d))) (begins_within r (job_for action) d)
    (then_within (begins r (job_for action) d) (settles g (begins r (job_for action) d)) (carries_out g r actions (settles g (begins r (job_for action) d))) (settles_within g (begins r (job_for action) d))
    (carries_within g r actions (settles g (begins r (job_for action) d))))

transfers_within : (g : DriverInput) (r : ℕ) (d : Driver) → Within d (transfers g r d)
transfers_within g r d = carries_within g r (filter is_transfer (plan_at g r d)) d

drops_spared_within : (g : DriverInput) (r : ℕ) (d : Driver) → Within d (drops_spared g r d)
drops_spared_within g r d = carries_within g r (filter (λ action. not (is_transfer action)) (plan_at g r d)) d

syncs_within : (g : DriverInput) (r : ℕ) (d : Driver) → Within d (syncs g r d)
syncs_within g r d =
    then_within d shared (syncs g r d) (shares_within g r d)
    (then_within shared brought (syncs g r d) (transfers_within g r shared)
    (then_within brought (drops_spared g r brought) (syncs g r d) (drops_spared_within g r brought)
    (shares_within g r (drops_spared g r brought))))
  where
    shared : Driver
    shared = shares_logs g r d

    brought : Driver
    brought = transfers g r shared

-- ---- lines

pub line_within : (g : DriverInput) (line : Command) (d : Driver) → Within d (does g line d)
line_within g (Does (Have r key bytes)) d = has_within g r key bytes d
line_within g (Does (SetPart r key bytes)) d = part_within g r key bytes d
line_within g (Does (Add r path key bytes)) d = has_within g r key bytes (enters path key d)
line_within g (Does (File path key)) d = enters_within path key d
line_within g (Does (Set r kind topic value)) d = sets_within g r kind topic value d
line_within g (Does (Raw r file line)) d = writes_within r file line d
line_within g (Does (Merge r other)) d = merges_within r other d
line_within g (Does (Compact r)) d = compacts_within r d
line_within g (Does (Sync r)) d = syncs_within g r d
line_within g (Does (Begin r job)) d = begins_within r job d
line_within g (Does (Run r job)) d = then_within d (begins r job d) (settles g (begins r job d)) (begins_within r job d) (settles_within g (begins r job d))
line_within g (Does (Turns r n)) d = turns_within g r n d
line_within g (Does Settle) d = settles_within g d
line_within g (Does (Close r other)) d = closes_within g r other d
line_within g (Does (Crash r clock)) d = crashes_within g r clock d
line_within g (Does (Wait milliseconds)) d = waits_within milliseconds d
line_within g (Does (Fail r call)) d = fail_within r call d
line_within g (Par lines) d = blocks_within g lines d
line_within g (Repo name id offset version locks) d = stays d
line_within g (Damage r key bytes) d = stays d
line_within g (Shows what) d = stays d

pub drives_within : (g : DriverInput) (lines : List Command) (d : Driver) → Within d (drives g lines d)
drives_within g [] d = stays d
drives_within g (line ∷ lines) d =
    then_within d (does g line d) (drives g (line ∷ lines) d) (line_within g line d)
    (then_within (does g line d) (with_mark (does g line d)) (drives g (line ∷ lines) d) (mark_within (does g line d)) (drives_within g lines (with_mark (does g line d))))
