-- The run of a script with a sync that meets a store fault and has a job refused: the driver makes it, turn by turn, as an executable model does.
use Rattle.std.proofs.Common.{ap, ◌∙◌, arith}
use Rattle.std.specs.Prelude.{◌≡◌, refl, ℕ, true, false, not, filter, List, [], ◌∷◌, Some, None, codes}
use Rattle.annex_base.specs.declared.kinds.Call.TheVariants as calls
use Rattle.annex_base.specs.declared.kinds.Found.TheVariants as found
use Rattle.log_lines.specs.declared.entry.LogKind.TheVariants as logs
use Rattle.log_lines.specs.declared.entry.Topic.TheVariants as topics
use Rattle.log_lines.specs.declared.entry.Value.TheVariants as values
use Rattle.run_data.specs.declared.entry.Entry.{Entry}
use Rattle.run_data.specs.declared.entry.EntryKind.TheVariants as kinds
use Rattle.run_data.specs.declared.entry.By.TheVariants as by
use Rattle.run_data.specs.declared.entry.FrameText.TheVariants.{Opening, Closing, Line}
use Rattle.run_data.specs.declared.entry.LogFile.TheVariants.{Location, Of}
use Rattle.run_data.specs.declared.job.JobKind.TheVariants as jobs
use Rattle.run_data.specs.declared.job.Outcome.TheVariants as outcomes
use Rattle.run_data.specs.declared.job.DropRefusal.TheVariants as drops
use Rattle.run_data.specs.declared.job.Cause.TheVariants as causes
use Rattle.run_data.specs.declared.run.RepoView.{RepoView}
use Rattle.run_data.specs.declared.run.Run.{Run}
use Rattle.wanted_rules.specs.declared.action.Action.TheVariants as actions
use Rattle.run_model.specs.Syncs.{sync_numbers}
use Rattle.script_commands.specs.declared.command.Action.TheVariants.{Have, File, Set, Sync, Fail}
use Rattle.script_commands.specs.declared.command.Command.{Command}
use Rattle.script_commands.specs.declared.command.Command.TheVariants.{Does}
use Rattle.driver_model.specs.Driver.{Driver, DriverInput, at_first}
use Rattle.driver_model.specs.ScriptSteps.{begins, merges}
use Rattle.driver_model.specs.Turning.{turn}
use Rattle.driver_model.specs.Rounds.{turns_of}
use Rattle.driver_model.specs.Syncs.{each_merges, is_transfer, merges_each, plan_at}
use Rattle.driver_model.specs.Driving.{does, drives, with_mark, run_of, run_with}
use Rattle.driver_claims.proofs.Settling.{came, carried_by, goes, settles_by, shares_by, syncs_by}
use Rattle.driver_claims.specs.Opened.{opened, matches_in}

abbrev t0 : List ℕ
t0 = (codes "WORM-s3--k1")

abbrev t1 : List ℕ
t1 = (codes "WORM-s3--k2")

abbrev t2 : List ℕ
t2 = (codes "p")

abbrev t3 : List ℕ
t3 = (codes "nothing")

abbrev t4 : List ℕ
t4 = (codes "AUTH-SUCCESS 22222222-1111-4111-8111-111111111101")

abbrev t5 : List ℕ
t5 = (codes "VERSION 3")

abbrev t6 : List ℕ
t6 = (codes "LOCKCONTENT WORM-s3--k1")

abbrev t7 : List ℕ
t7 = (codes "FAILURE")

abbrev t8 : List ℕ
t8 = (codes "CHECKPRESENT WORM-s3--k1")

abbrev t9 : List ℕ
t9 = (codes "AUTH-SUCCESS 33333333-1111-4111-8111-111111111102")

abbrev t10 : List ℕ
t10 = (codes "1700000000s 1 11111111-1111-4111-8111-111111111100")

abbrev t11 : List ℕ
t11 = (codes "1700000000s 1 22222222-1111-4111-8111-111111111101")

abbrev t12 : List ℕ
t12 = (codes "1700000000s 3")

abbrev t13 : List ℕ
t13 = (codes "11111111-1111-4111-8111-111111111100 nothing timestamp=1700000000s")

abbrev t14 : List ℕ
t14 = (codes "33333333-1111-4111-8111-111111111102 nothing timestamp=1700000000s")

abbrev t15 : List ℕ
t15 = (codes "22222222-1111-4111-8111-111111111101 nothing timestamp=1700000000s")

abbrev c0 : List ℕ
c0 = (codes "abc")

abbrev c1 : List ℕ
c1 = (codes "def")

abbrev repos : List RepoView
repos = ((record { name = (codes "a"); id = (17 ∷ 17 ∷ 17 ∷ 17 ∷ 17 ∷ 17 ∷ 65 ∷ 17 ∷ 129 ∷ 17 ∷ 17 ∷ 17 ∷ 17 ∷ 17 ∷ 17 ∷ 0 ∷ []); offset = 0; version = 3; locks = true }) ∷ (record { name = (codes "b"); id = (34 ∷ 34 ∷ 34 ∷ 34 ∷ 17 ∷ 17 ∷ 65 ∷ 17 ∷ 129 ∷ 17 ∷ 17 ∷ 17 ∷ 17 ∷ 17 ∷ 17 ∷ 1 ∷ []); offset = 0; version = 3; locks = true }) ∷ (record { name = (codes "c"); id = (51 ∷ 51 ∷ 51 ∷ 51 ∷ 17 ∷ 17 ∷ 65 ∷ 17 ∷ 129 ∷ 17 ∷ 17 ∷ 17 ∷ 17 ∷ 17 ∷ 17 ∷ 2 ∷ []); offset = 0; version = 3; locks = true }) ∷ [])

abbrev given : DriverInput
given = record { repos = repos; matches = matches_in ((t0, c0) ∷ (t1, c1) ∷ []) }

abbrev l0 : Command
l0 = Does (Have 0 t0 c0)

abbrev l1 : Command
l1 = Does (Have 1 t1 c1)

abbrev l2 : Command
l2 = Does (File t2 t0)

abbrev l3 : Command
l3 = Does (Set 0 logs.Numcopies topics.Whole (values.Number 3))

abbrev l4 : Command
l4 = Does (Set 0 logs.Preferred (topics.Repo (17 ∷ 17 ∷ 17 ∷ 17 ∷ 17 ∷ 17 ∷ 65 ∷ 17 ∷ 129 ∷ 17 ∷ 17 ∷ 17 ∷ 17 ∷ 17 ∷ 17 ∷ 0 ∷ [])) (values.Text t3))

abbrev l5 : Command
l5 = Does (Set 0 logs.Preferred (topics.Repo (51 ∷ 51 ∷ 51 ∷ 51 ∷ 17 ∷ 17 ∷ 65 ∷ 17 ∷ 129 ∷ 17 ∷ 17 ∷ 17 ∷ 17 ∷ 17 ∷ 17 ∷ 2 ∷ [])) (values.Text t3))

abbrev l6 : Command
l6 = Does (Set 0 logs.Preferred (topics.Repo (34 ∷ 34 ∷ 34 ∷ 34 ∷ 17 ∷ 17 ∷ 65 ∷ 17 ∷ 129 ∷ 17 ∷ 17 ∷ 17 ∷ 17 ∷ 17 ∷ 17 ∷ 1 ∷ [])) (values.Text t3))

abbrev l7 : Command
l7 = Does (Fail 0 calls.PutFile)

abbrev l8 : Command
l8 = Does (Sync 0)

abbrev d0 : Driver
d0 = record { past = []; flights = ([]); fails = ([]); contents = ([]); parts = ([]); largest = 0; tree = ([]); marks = ([]) }

abbrev e0 : Entry
e0 = record { time = 0; count = 1; repo = (Some 0); kind = (kinds.Gain by.Script 3 t0); taken = None; sent = ([]); lines = ([]) }

abbrev p0 : List Entry
p0 = e0 ∷ []

abbrev e1 : Entry
e1 = record { time = 0; count = 2; repo = (Some 0); kind = (kinds.Log (Location t0)); taken = None; sent = ([]); lines = (t10 ∷ []) }

abbrev p1 : List Entry
p1 = e1 ∷ p0

abbrev d1 : Driver
d1 = record { past = p1; flights = ([]); fails = ([]); contents = ((record { repo = 0; key = t0; bytes = c0 }) ∷ []); parts = ([]); largest = 3; tree = ([]); marks = ([]) }

c_0 : does given l0 d0 ≡ d1
unfolding opened
c_0 = refl

line0 : does given l0 d0 ≡ d1
line0 = c_0

abbrev d2 : Driver
d2 = record { past = p1; flights = ([]); fails = ([]); contents = ((record { repo = 0; key = t0; bytes = c0 }) ∷ []); parts = ([]); largest = 3; tree = ([]); marks = (2 ∷ []) }

abbrev e2 : Entry
e2 = record { time = 0; count = 3; repo = (Some 1); kind = (kinds.Gain by.Script 3 t1); taken = None; sent = ([]); lines = ([]) }

abbrev p2 : List Entry
p2 = e2 ∷ p1

abbrev e3 : Entry
e3 = record { time = 0; count = 4; repo = (Some 1); kind = (kinds.Log (Location t1)); taken = None; sent = ([]); lines = (t11 ∷ []) }

abbrev p3 : List Entry
p3 = e3 ∷ p2

abbrev d3 : Driver
d3 = record { past = p3; flights = ([]); fails = ([]); contents = ((record { repo = 1; key = t1; bytes = c1 }) ∷ (record { repo = 0; key = t0; bytes = c0 }) ∷ []); parts = ([]); largest = 3; tree = ([]); marks = (2 ∷ []) }

c_1 : does given l1 d2 ≡ d3
unfolding opened
c_1 = refl

line1 : does given l1 d2 ≡ d3
line1 = c_1

abbrev d4 : Driver
d4 = record { past = p3; flights = ([]); fails = ([]); contents = ((record { repo = 1; key = t1; bytes = c1 }) ∷ (record { repo = 0; key = t0; bytes = c0 }) ∷ []); parts = ([]); largest = 3; tree = ([]); marks = (2 ∷ 4 ∷ []) }

abbrev d5 : Driver
d5 = record { past = p3; flights = ([]); fails = ([]); contents = ((record { repo = 1; key = t1; bytes = c1 }) ∷ (record { repo = 0; key = t0; bytes = c0 }) ∷ []); parts = ([]); largest = 3; tree = ((record { place = 4; path = t2; key = t0 }) ∷ []); marks = (2 ∷ 4 ∷ []) }

c_2 : does given l2 d4 ≡ d5
unfolding opened
c_2 = refl

line2 : does given l2 d4 ≡ d5
line2 = c_2

abbrev d6 : Driver
d6 = record { past = p3; flights = ([]); fails = ([]); contents = ((record { repo = 1; key = t1; bytes = c1 }) ∷ (record { repo = 0; key = t0; bytes = c0 }) ∷ []); parts = ([]); largest = 3; tree = ((record { place = 4; path = t2; key = t0 }) ∷ []); marks = (2 ∷ 4 ∷ 4 ∷ []) }

abbrev e4 : Entry
e4 = record { time = 0; count = 5; repo = (Some 0); kind = (kinds.Log (Of logs.Numcopies)); taken = None; sent = ([]); lines = (t12 ∷ []) }

abbrev p4 : List Entry
p4 = e4 ∷ p3

abbrev d7 : Driver
d7 = record { past = p4; flights = ([]); fails = ([]); contents = ((record { repo = 1; key = t1; bytes = c1 }) ∷ (record { repo = 0; key = t0; bytes = c0 }) ∷ []); parts = ([]); largest = 3; tree = ((record { place = 4; path = t2; key = t0 }) ∷ []); marks = (2 ∷ 4 ∷ 4 ∷ []) }

c_3 : does given l3 d6 ≡ d7
unfolding opened
c_3 = refl

line3 : does given l3 d6 ≡ d7
line3 = c_3

abbrev d8 : Driver
d8 = record { past = p4; flights = ([]); fails = ([]); contents = ((record { repo = 1; key = t1; bytes = c1 }) ∷ (record { repo = 0; key = t0; bytes = c0 }) ∷ []); parts = ([]); largest = 3; tree = ((record { place = 4; path = t2; key = t0 }) ∷ []); marks = (2 ∷ 4 ∷ 4 ∷ 5 ∷ []) }

abbrev e5 : Entry
e5 = record { time = 0; count = 6; repo = (Some 0); kind = (kinds.Log (Of logs.Preferred)); taken = None; sent = ([]); lines = (t13 ∷ []) }

abbrev p5 : List Entry
p5 = e5 ∷ p4

abbrev d9 : Driver
d9 = record { past = p5; flights = ([]); fails = ([]); contents = ((record { repo = 1; key = t1; bytes = c1 }) ∷ (record { repo = 0; key = t0; bytes = c0 }) ∷ []); parts = ([]); largest = 3; tree = ((record { place = 4; path = t2; key = t0 }) ∷ []); marks = (2 ∷ 4 ∷ 4 ∷ 5 ∷ []) }

c_4 : does given l4 d8 ≡ d9
unfolding opened
c_4 = refl

line4 : does given l4 d8 ≡ d9
line4 = c_4

abbrev d10 : Driver
d10 = record { past = p5; flights = ([]); fails = ([]); contents = ((record { repo = 1; key = t1; bytes = c1 }) ∷ (record { repo = 0; key = t0; bytes = c0 }) ∷ []); parts = ([]); largest = 3; tree = ((record { place = 4; path = t2; key = t0 }) ∷ []); marks = (2 ∷ 4 ∷ 4 ∷ 5 ∷ 6 ∷ []) }

abbrev e6 : Entry
e6 = record { time = 0; count = 7; repo = (Some 0); kind = (kinds.Log (Of logs.Preferred)); taken = None; sent = ([]); lines = (t14 ∷ []) }

abbrev p6 : List Entry
p6 = e6 ∷ p5

abbrev d11 : Driver
d11 = record { past = p6; flights = ([]); fails = ([]); contents = ((record { repo = 1; key = t1; bytes = c1 }) ∷ (record { repo = 0; key = t0; bytes = c0 }) ∷ []); parts = ([]); largest = 3; tree = ((record { place = 4; path = t2; key = t0 }) ∷ []); marks = (2 ∷ 4 ∷ 4 ∷ 5 ∷ 6 ∷ []) }

c_5 : does given l5 d10 ≡ d11
unfolding opened
c_5 = refl

line5 : does given l5 d10 ≡ d11
line5 = c_5

abbrev d12 : Driver
d12 = record { past = p6; flights = ([]); fails = ([]); contents = ((record { repo = 1; key = t1; bytes = c1 }) ∷ (record { repo = 0; key = t0; bytes = c0 }) ∷ []); parts = ([]); largest = 3; tree = ((record { place = 4; path = t2; key = t0 }) ∷ []); marks = (2 ∷ 4 ∷ 4 ∷ 5 ∷ 6 ∷ 7 ∷ []) }

abbrev e7 : Entry
e7 = record { time = 0; count = 8; repo = (Some 0); kind = (kinds.Log (Of logs.Preferred)); taken = None; sent = ([]); lines = (t15 ∷ []) }

abbrev p7 : List Entry
p7 = e7 ∷ p6

abbrev d13 : Driver
d13 = record { past = p7; flights = ([]); fails = ([]); contents = ((record { repo = 1; key = t1; bytes = c1 }) ∷ (record { repo = 0; key = t0; bytes = c0 }) ∷ []); parts = ([]); largest = 3; tree = ((record { place = 4; path = t2; key = t0 }) ∷ []); marks = (2 ∷ 4 ∷ 4 ∷ 5 ∷ 6 ∷ 7 ∷ []) }

c_6 : does given l6 d12 ≡ d13
unfolding opened
c_6 = refl

line6 : does given l6 d12 ≡ d13
line6 = c_6

abbrev d14 : Driver
d14 = record { past = p7; flights = ([]); fails = ([]); contents = ((record { repo = 1; key = t1; bytes = c1 }) ∷ (record { repo = 0; key = t0; bytes = c0 }) ∷ []); parts = ([]); largest = 3; tree = ((record { place = 4; path = t2; key = t0 }) ∷ []); marks = (2 ∷ 4 ∷ 4 ∷ 5 ∷ 6 ∷ 7 ∷ 8 ∷ []) }

abbrev d15 : Driver
d15 = record { past = p7; flights = ([]); fails = ((record { repo = 0; call = calls.PutFile }) ∷ []); contents = ((record { repo = 1; key = t1; bytes = c1 }) ∷ (record { repo = 0; key = t0; bytes = c0 }) ∷ []); parts = ([]); largest = 3; tree = ((record { place = 4; path = t2; key = t0 }) ∷ []); marks = (2 ∷ 4 ∷ 4 ∷ 5 ∷ 6 ∷ 7 ∷ 8 ∷ []) }

c_7 : does given l7 d14 ≡ d15
unfolding opened
c_7 = refl

line7 : does given l7 d14 ≡ d15
line7 = c_7

abbrev d16 : Driver
d16 = record { past = p7; flights = ([]); fails = ((record { repo = 0; call = calls.PutFile }) ∷ []); contents = ((record { repo = 1; key = t1; bytes = c1 }) ∷ (record { repo = 0; key = t0; bytes = c0 }) ∷ []); parts = ([]); largest = 3; tree = ((record { place = 4; path = t2; key = t0 }) ∷ []); marks = (2 ∷ 4 ∷ 4 ∷ 5 ∷ 6 ∷ 7 ∷ 8 ∷ 8 ∷ []) }

c_8 : turn given 0 d16 ≡ d16
unfolding opened
c_8 = refl

c_9 : turn given 1 d16 ≡ d16
unfolding opened
c_9 = refl

c_10 : turn given 2 d16 ≡ d16
unfolding opened
c_10 = refl

abbrev e8 : Entry
e8 = record { time = 0; count = 9; repo = (Some 0); kind = (kinds.Fault calls.PutFile by.Script); taken = None; sent = ([]); lines = ([]) }

abbrev p8 : List Entry
p8 = e8 ∷ p7

abbrev d17 : Driver
d17 = record { past = p8; flights = ([]); fails = ([]); contents = ((record { repo = 1; key = t1; bytes = c1 }) ∷ (record { repo = 0; key = t0; bytes = c0 }) ∷ []); parts = ([]); largest = 3; tree = ((record { place = 4; path = t2; key = t0 }) ∷ []); marks = (2 ∷ 4 ∷ 4 ∷ 5 ∷ 6 ∷ 7 ∷ 8 ∷ 8 ∷ []) }

c_11 : merges 0 1 d16 ≡ d17
unfolding opened
c_11 = refl

c_12 : merges 0 2 d17 ≡ d17
unfolding opened
c_12 = refl

abbrev e9 : Entry
e9 = record { time = 0; count = 10; repo = (Some 1); kind = (kinds.Log (Location t0)); taken = None; sent = ([]); lines = (t10 ∷ []) }

abbrev p9 : List Entry
p9 = e9 ∷ p8

abbrev e10 : Entry
e10 = record { time = 0; count = 11; repo = (Some 1); kind = (kinds.Log (Of logs.Numcopies)); taken = None; sent = ([]); lines = (t12 ∷ []) }

abbrev p10 : List Entry
p10 = e10 ∷ p9

abbrev e11 : Entry
e11 = record { time = 0; count = 12; repo = (Some 1); kind = (kinds.Log (Of logs.Preferred)); taken = None; sent = ([]); lines = (t13 ∷ t15 ∷ t14 ∷ []) }

abbrev p11 : List Entry
p11 = e11 ∷ p10

abbrev d18 : Driver
d18 = record { past = p11; flights = ([]); fails = ([]); contents = ((record { repo = 1; key = t1; bytes = c1 }) ∷ (record { repo = 0; key = t0; bytes = c0 }) ∷ []); parts = ([]); largest = 3; tree = ((record { place = 4; path = t2; key = t0 }) ∷ []); marks = (2 ∷ 4 ∷ 4 ∷ 5 ∷ 6 ∷ 7 ∷ 8 ∷ 8 ∷ []) }

c_13 : merges 1 0 d17 ≡ d18
unfolding opened
c_13 = refl

abbrev e12 : Entry
e12 = record { time = 0; count = 13; repo = (Some 2); kind = (kinds.Log (Location t0)); taken = None; sent = ([]); lines = (t10 ∷ []) }

abbrev p12 : List Entry
p12 = e12 ∷ p11

abbrev e13 : Entry
e13 = record { time = 0; count = 14; repo = (Some 2); kind = (kinds.Log (Of logs.Numcopies)); taken = None; sent = ([]); lines = (t12 ∷ []) }

abbrev p13 : List Entry
p13 = e13 ∷ p12

abbrev e14 : Entry
e14 = record { time = 0; count = 15; repo = (Some 2); kind = (kinds.Log (Of logs.Preferred)); taken = None; sent = ([]); lines = (t13 ∷ t15 ∷ t14 ∷ []) }

abbrev p14 : List Entry
p14 = e14 ∷ p13

abbrev d19 : Driver
d19 = record { past = p14; flights = ([]); fails = ([]); contents = ((record { repo = 1; key = t1; bytes = c1 }) ∷ (record { repo = 0; key = t0; bytes = c0 }) ∷ []); parts = ([]); largest = 3; tree = ((record { place = 4; path = t2; key = t0 }) ∷ []); marks = (2 ∷ 4 ∷ 4 ∷ 5 ∷ 6 ∷ 7 ∷ 8 ∷ 8 ∷ []) }

c_14 : merges 2 0 d18 ≡ d19
unfolding opened
c_14 = refl

c_15 : filter is_transfer (plan_at given 0 d19) ≡ ([])
unfolding opened
c_15 = refl

c_16 : filter (λ action. not (is_transfer action)) (plan_at given 0 d19) ≡ ((actions.DropHere t0) ∷ [])
unfolding opened
c_16 = refl

abbrev e15 : Entry
e15 = record { time = 0; count = 16; repo = (Some 0); kind = (kinds.Begin 1 (record { kind = jobs.Drop; key = t0; path = None; peer = None })); taken = None; sent = ([]); lines = ([]) }

abbrev p15 : List Entry
p15 = e15 ∷ p14

abbrev d20 : Driver
d20 = record { past = p15; flights = ([]); fails = ([]); contents = ((record { repo = 1; key = t1; bytes = c1 }) ∷ (record { repo = 0; key = t0; bytes = c0 }) ∷ []); parts = ([]); largest = 3; tree = ((record { place = 4; path = t2; key = t0 }) ∷ []); marks = (2 ∷ 4 ∷ 4 ∷ 5 ∷ 6 ∷ 7 ∷ 8 ∷ 8 ∷ []) }

c_17 : begins 0 (record { kind = jobs.Drop; key = t0; path = None; peer = None }) d19 ≡ d20
unfolding opened
c_17 = refl

abbrev e16 : Entry
e16 = record { time = 0; count = 17; repo = (Some 0); kind = (kinds.Bar 1 (record { n = 3; m = 1 }) t0); taken = None; sent = ([]); lines = ([]) }

abbrev p16 : List Entry
p16 = e16 ∷ p15

abbrev d21 : Driver
d21 = record { past = p16; flights = ([]); fails = ([]); contents = ((record { repo = 1; key = t1; bytes = c1 }) ∷ (record { repo = 0; key = t0; bytes = c0 }) ∷ []); parts = ([]); largest = 3; tree = ((record { place = 4; path = t2; key = t0 }) ∷ []); marks = (2 ∷ 4 ∷ 4 ∷ 5 ∷ 6 ∷ 7 ∷ 8 ∷ 8 ∷ []) }

c_18 : turn given 0 d20 ≡ d21
unfolding opened
c_18 = refl

c_19 : turn given 1 d21 ≡ d21
unfolding opened
c_19 = refl

c_20 : turn given 2 d21 ≡ d21
unfolding opened
c_20 = refl

abbrev e17 : Entry
e17 = record { time = 0; count = 18; repo = (Some 0); kind = (kinds.Talk (Some 1)); taken = None; sent = ((record { peer = 1; slot = 0; up = true; epoch = 1; seq = 1; body = Opening }) ∷ []); lines = ([]) }

abbrev p17 : List Entry
p17 = e17 ∷ p16

abbrev d22 : Driver
d22 = record { past = p17; flights = ((record { to = 1; frame = (record { peer = 0; slot = 0; up = true; epoch = 1; seq = 1; body = Opening }); bytes = [] }) ∷ []); fails = ([]); contents = ((record { repo = 1; key = t1; bytes = c1 }) ∷ (record { repo = 0; key = t0; bytes = c0 }) ∷ []); parts = ([]); largest = 3; tree = ((record { place = 4; path = t2; key = t0 }) ∷ []); marks = (2 ∷ 4 ∷ 4 ∷ 5 ∷ 6 ∷ 7 ∷ 8 ∷ 8 ∷ []) }

c_21 : turn given 0 d21 ≡ d22
unfolding opened
c_21 = refl

abbrev e18 : Entry
e18 = record { time = 0; count = 19; repo = (Some 1); kind = (kinds.Talk None); taken = (Some (record { peer = 0; slot = 0; up = true; epoch = 1; seq = 1; body = Opening })); sent = ((record { peer = 0; slot = 0; up = false; epoch = 1; seq = 1; body = (Line t4) }) ∷ []); lines = ([]) }

abbrev p18 : List Entry
p18 = e18 ∷ p17

abbrev d23 : Driver
d23 = record { past = p18; flights = ((record { to = 0; frame = (record { peer = 1; slot = 0; up = false; epoch = 1; seq = 1; body = (Line t4) }); bytes = [] }) ∷ []); fails = ([]); contents = ((record { repo = 1; key = t1; bytes = c1 }) ∷ (record { repo = 0; key = t0; bytes = c0 }) ∷ []); parts = ([]); largest = 3; tree = ((record { place = 4; path = t2; key = t0 }) ∷ []); marks = (2 ∷ 4 ∷ 4 ∷ 5 ∷ 6 ∷ 7 ∷ 8 ∷ 8 ∷ []) }

c_22 : turn given 1 d22 ≡ d23
unfolding opened
c_22 = refl

c_23 : turn given 2 d23 ≡ d23
unfolding opened
c_23 = refl

abbrev e19 : Entry
e19 = record { time = 0; count = 20; repo = (Some 0); kind = (kinds.Talk (Some 1)); taken = (Some (record { peer = 1; slot = 0; up = false; epoch = 1; seq = 1; body = (Line t4) })); sent = ((record { peer = 1; slot = 0; up = true; epoch = 1; seq = 2; body = (Line t5) }) ∷ []); lines = ([]) }

abbrev p19 : List Entry
p19 = e19 ∷ p18

abbrev d24 : Driver
d24 = record { past = p19; flights = ((record { to = 1; frame = (record { peer = 0; slot = 0; up = true; epoch = 1; seq = 2; body = (Line t5) }); bytes = [] }) ∷ []); fails = ([]); contents = ((record { repo = 1; key = t1; bytes = c1 }) ∷ (record { repo = 0; key = t0; bytes = c0 }) ∷ []); parts = ([]); largest = 3; tree = ((record { place = 4; path = t2; key = t0 }) ∷ []); marks = (2 ∷ 4 ∷ 4 ∷ 5 ∷ 6 ∷ 7 ∷ 8 ∷ 8 ∷ []) }

c_24 : turn given 0 d23 ≡ d24
unfolding opened
c_24 = refl

abbrev e20 : Entry
e20 = record { time = 0; count = 21; repo = (Some 1); kind = (kinds.Talk None); taken = (Some (record { peer = 0; slot = 0; up = true; epoch = 1; seq = 2; body = (Line t5) })); sent = ((record { peer = 0; slot = 0; up = false; epoch = 1; seq = 2; body = (Line t5) }) ∷ []); lines = ([]) }

abbrev p20 : List Entry
p20 = e20 ∷ p19

abbrev d25 : Driver
d25 = record { past = p20; flights = ((record { to = 0; frame = (record { peer = 1; slot = 0; up = false; epoch = 1; seq = 2; body = (Line t5) }); bytes = [] }) ∷ []); fails = ([]); contents = ((record { repo = 1; key = t1; bytes = c1 }) ∷ (record { repo = 0; key = t0; bytes = c0 }) ∷ []); parts = ([]); largest = 3; tree = ((record { place = 4; path = t2; key = t0 }) ∷ []); marks = (2 ∷ 4 ∷ 4 ∷ 5 ∷ 6 ∷ 7 ∷ 8 ∷ 8 ∷ []) }

c_25 : turn given 1 d24 ≡ d25
unfolding opened
c_25 = refl

c_26 : turn given 2 d25 ≡ d25
unfolding opened
c_26 = refl

abbrev e21 : Entry
e21 = record { time = 0; count = 22; repo = (Some 0); kind = (kinds.Talk (Some 1)); taken = (Some (record { peer = 1; slot = 0; up = false; epoch = 1; seq = 2; body = (Line t5) })); sent = ((record { peer = 1; slot = 0; up = true; epoch = 1; seq = 3; body = (Line t6) }) ∷ []); lines = ([]) }

abbrev p21 : List Entry
p21 = e21 ∷ p20

abbrev d26 : Driver
d26 = record { past = p21; flights = ((record { to = 1; frame = (record { peer = 0; slot = 0; up = true; epoch = 1; seq = 3; body = (Line t6) }); bytes = [] }) ∷ []); fails = ([]); contents = ((record { repo = 1; key = t1; bytes = c1 }) ∷ (record { repo = 0; key = t0; bytes = c0 }) ∷ []); parts = ([]); largest = 3; tree = ((record { place = 4; path = t2; key = t0 }) ∷ []); marks = (2 ∷ 4 ∷ 4 ∷ 5 ∷ 6 ∷ 7 ∷ 8 ∷ 8 ∷ []) }

c_27 : turn given 0 d25 ≡ d26
unfolding opened
c_27 = refl

abbrev e22 : Entry
e22 = record { time = 0; count = 23; repo = (Some 1); kind = (kinds.Check found.Absent t0); taken = (Some (record { peer = 0; slot = 0; up = true; epoch = 1; seq = 3; body = (Line t6) })); sent = ((record { peer = 0; slot = 0; up = false; epoch = 1; seq = 3; body = (Line t7) }) ∷ []); lines = ([]) }

abbrev p22 : List Entry
p22 = e22 ∷ p21

abbrev d27 : Driver
d27 = record { past = p22; flights = ((record { to = 0; frame = (record { peer = 1; slot = 0; up = false; epoch = 1; seq = 3; body = (Line t7) }); bytes = [] }) ∷ []); fails = ([]); contents = ((record { repo = 1; key = t1; bytes = c1 }) ∷ (record { repo = 0; key = t0; bytes = c0 }) ∷ []); parts = ([]); largest = 3; tree = ((record { place = 4; path = t2; key = t0 }) ∷ []); marks = (2 ∷ 4 ∷ 4 ∷ 5 ∷ 6 ∷ 7 ∷ 8 ∷ 8 ∷ []) }

c_28 : turn given 1 d26 ≡ d27
unfolding opened
c_28 = refl

c_29 : turn given 2 d27 ≡ d27
unfolding opened
c_29 = refl

abbrev e23 : Entry
e23 = record { time = 0; count = 24; repo = (Some 0); kind = (kinds.Talk (Some 1)); taken = (Some (record { peer = 1; slot = 0; up = false; epoch = 1; seq = 3; body = (Line t7) })); sent = ((record { peer = 1; slot = 0; up = true; epoch = 1; seq = 4; body = (Line t8) }) ∷ []); lines = ([]) }

abbrev p23 : List Entry
p23 = e23 ∷ p22

abbrev d28 : Driver
d28 = record { past = p23; flights = ((record { to = 1; frame = (record { peer = 0; slot = 0; up = true; epoch = 1; seq = 4; body = (Line t8) }); bytes = [] }) ∷ []); fails = ([]); contents = ((record { repo = 1; key = t1; bytes = c1 }) ∷ (record { repo = 0; key = t0; bytes = c0 }) ∷ []); parts = ([]); largest = 3; tree = ((record { place = 4; path = t2; key = t0 }) ∷ []); marks = (2 ∷ 4 ∷ 4 ∷ 5 ∷ 6 ∷ 7 ∷ 8 ∷ 8 ∷ []) }

c_30 : turn given 0 d27 ≡ d28
unfolding opened
c_30 = refl

abbrev e24 : Entry
e24 = record { time = 0; count = 25; repo = (Some 1); kind = (kinds.Check found.Absent t0); taken = (Some (record { peer = 0; slot = 0; up = true; epoch = 1; seq = 4; body = (Line t8) })); sent = ((record { peer = 0; slot = 0; up = false; epoch = 1; seq = 4; body = (Line t7) }) ∷ []); lines = ([]) }

abbrev p24 : List Entry
p24 = e24 ∷ p23

abbrev d29 : Driver
d29 = record { past = p24; flights = ((record { to = 0; frame = (record { peer = 1; slot = 0; up = false; epoch = 1; seq = 4; body = (Line t7) }); bytes = [] }) ∷ []); fails = ([]); contents = ((record { repo = 1; key = t1; bytes = c1 }) ∷ (record { repo = 0; key = t0; bytes = c0 }) ∷ []); parts = ([]); largest = 3; tree = ((record { place = 4; path = t2; key = t0 }) ∷ []); marks = (2 ∷ 4 ∷ 4 ∷ 5 ∷ 6 ∷ 7 ∷ 8 ∷ 8 ∷ []) }

c_31 : turn given 1 d28 ≡ d29
unfolding opened
c_31 = refl

c_32 : turn given 2 d29 ≡ d29
unfolding opened
c_32 = refl

abbrev e25 : Entry
e25 = record { time = 0; count = 26; repo = (Some 0); kind = (kinds.Talk (Some 1)); taken = (Some (record { peer = 1; slot = 0; up = false; epoch = 1; seq = 4; body = (Line t7) })); sent = ([]); lines = ([]) }

abbrev p25 : List Entry
p25 = e25 ∷ p24

abbrev d30 : Driver
d30 = record { past = p25; flights = ([]); fails = ([]); contents = ((record { repo = 1; key = t1; bytes = c1 }) ∷ (record { repo = 0; key = t0; bytes = c0 }) ∷ []); parts = ([]); largest = 3; tree = ((record { place = 4; path = t2; key = t0 }) ∷ []); marks = (2 ∷ 4 ∷ 4 ∷ 5 ∷ 6 ∷ 7 ∷ 8 ∷ 8 ∷ []) }

c_33 : turn given 0 d29 ≡ d30
unfolding opened
c_33 = refl

c_34 : turn given 1 d30 ≡ d30
unfolding opened
c_34 = refl

c_35 : turn given 2 d30 ≡ d30
unfolding opened
c_35 = refl

abbrev e26 : Entry
e26 = record { time = 0; count = 27; repo = (Some 0); kind = (kinds.Talk (Some 1)); taken = None; sent = ((record { peer = 2; slot = 0; up = true; epoch = 1; seq = 1; body = Opening }) ∷ []); lines = ([]) }

abbrev p26 : List Entry
p26 = e26 ∷ p25

abbrev d31 : Driver
d31 = record { past = p26; flights = ((record { to = 2; frame = (record { peer = 0; slot = 0; up = true; epoch = 1; seq = 1; body = Opening }); bytes = [] }) ∷ []); fails = ([]); contents = ((record { repo = 1; key = t1; bytes = c1 }) ∷ (record { repo = 0; key = t0; bytes = c0 }) ∷ []); parts = ([]); largest = 3; tree = ((record { place = 4; path = t2; key = t0 }) ∷ []); marks = (2 ∷ 4 ∷ 4 ∷ 5 ∷ 6 ∷ 7 ∷ 8 ∷ 8 ∷ []) }

c_36 : turn given 0 d30 ≡ d31
unfolding opened
c_36 = refl

c_37 : turn given 1 d31 ≡ d31
unfolding opened
c_37 = refl

abbrev e27 : Entry
e27 = record { time = 0; count = 28; repo = (Some 2); kind = (kinds.Talk None); taken = (Some (record { peer = 0; slot = 0; up = true; epoch = 1; seq = 1; body = Opening })); sent = ((record { peer = 0; slot = 0; up = false; epoch = 1; seq = 1; body = (Line t9) }) ∷ []); lines = ([]) }

abbrev p27 : List Entry
p27 = e27 ∷ p26

abbrev d32 : Driver
d32 = record { past = p27; flights = ((record { to = 0; frame = (record { peer = 2; slot = 0; up = false; epoch = 1; seq = 1; body = (Line t9) }); bytes = [] }) ∷ []); fails = ([]); contents = ((record { repo = 1; key = t1; bytes = c1 }) ∷ (record { repo = 0; key = t0; bytes = c0 }) ∷ []); parts = ([]); largest = 3; tree = ((record { place = 4; path = t2; key = t0 }) ∷ []); marks = (2 ∷ 4 ∷ 4 ∷ 5 ∷ 6 ∷ 7 ∷ 8 ∷ 8 ∷ []) }

c_38 : turn given 2 d31 ≡ d32
unfolding opened
c_38 = refl

abbrev e28 : Entry
e28 = record { time = 0; count = 29; repo = (Some 0); kind = (kinds.Talk (Some 1)); taken = (Some (record { peer = 2; slot = 0; up = false; epoch = 1; seq = 1; body = (Line t9) })); sent = ((record { peer = 2; slot = 0; up = true; epoch = 1; seq = 2; body = (Line t5) }) ∷ []); lines = ([]) }

abbrev p28 : List Entry
p28 = e28 ∷ p27

abbrev d33 : Driver
d33 = record { past = p28; flights = ((record { to = 2; frame = (record { peer = 0; slot = 0; up = true; epoch = 1; seq = 2; body = (Line t5) }); bytes = [] }) ∷ []); fails = ([]); contents = ((record { repo = 1; key = t1; bytes = c1 }) ∷ (record { repo = 0; key = t0; bytes = c0 }) ∷ []); parts = ([]); largest = 3; tree = ((record { place = 4; path = t2; key = t0 }) ∷ []); marks = (2 ∷ 4 ∷ 4 ∷ 5 ∷ 6 ∷ 7 ∷ 8 ∷ 8 ∷ []) }

c_39 : turn given 0 d32 ≡ d33
unfolding opened
c_39 = refl

c_40 : turn given 1 d33 ≡ d33
unfolding opened
c_40 = refl

abbrev e29 : Entry
e29 = record { time = 0; count = 30; repo = (Some 2); kind = (kinds.Talk None); taken = (Some (record { peer = 0; slot = 0; up = true; epoch = 1; seq = 2; body = (Line t5) })); sent = ((record { peer = 0; slot = 0; up = false; epoch = 1; seq = 2; body = (Line t5) }) ∷ []); lines = ([]) }

abbrev p29 : List Entry
p29 = e29 ∷ p28

abbrev d34 : Driver
d34 = record { past = p29; flights = ((record { to = 0; frame = (record { peer = 2; slot = 0; up = false; epoch = 1; seq = 2; body = (Line t5) }); bytes = [] }) ∷ []); fails = ([]); contents = ((record { repo = 1; key = t1; bytes = c1 }) ∷ (record { repo = 0; key = t0; bytes = c0 }) ∷ []); parts = ([]); largest = 3; tree = ((record { place = 4; path = t2; key = t0 }) ∷ []); marks = (2 ∷ 4 ∷ 4 ∷ 5 ∷ 6 ∷ 7 ∷ 8 ∷ 8 ∷ []) }

c_41 : turn given 2 d33 ≡ d34
unfolding opened
c_41 = refl

abbrev e30 : Entry
e30 = record { time = 0; count = 31; repo = (Some 0); kind = (kinds.Talk (Some 1)); taken = (Some (record { peer = 2; slot = 0; up = false; epoch = 1; seq = 2; body = (Line t5) })); sent = ((record { peer = 2; slot = 0; up = true; epoch = 1; seq = 3; body = (Line t6) }) ∷ []); lines = ([]) }

abbrev p30 : List Entry
p30 = e30 ∷ p29

abbrev d35 : Driver
d35 = record { past = p30; flights = ((record { to = 2; frame = (record { peer = 0; slot = 0; up = true; epoch = 1; seq = 3; body = (Line t6) }); bytes = [] }) ∷ []); fails = ([]); contents = ((record { repo = 1; key = t1; bytes = c1 }) ∷ (record { repo = 0; key = t0; bytes = c0 }) ∷ []); parts = ([]); largest = 3; tree = ((record { place = 4; path = t2; key = t0 }) ∷ []); marks = (2 ∷ 4 ∷ 4 ∷ 5 ∷ 6 ∷ 7 ∷ 8 ∷ 8 ∷ []) }

c_42 : turn given 0 d34 ≡ d35
unfolding opened
c_42 = refl

c_43 : turn given 1 d35 ≡ d35
unfolding opened
c_43 = refl

abbrev e31 : Entry
e31 = record { time = 0; count = 32; repo = (Some 2); kind = (kinds.Check found.Absent t0); taken = (Some (record { peer = 0; slot = 0; up = true; epoch = 1; seq = 3; body = (Line t6) })); sent = ((record { peer = 0; slot = 0; up = false; epoch = 1; seq = 3; body = (Line t7) }) ∷ []); lines = ([]) }

abbrev p31 : List Entry
p31 = e31 ∷ p30

abbrev d36 : Driver
d36 = record { past = p31; flights = ((record { to = 0; frame = (record { peer = 2; slot = 0; up = false; epoch = 1; seq = 3; body = (Line t7) }); bytes = [] }) ∷ []); fails = ([]); contents = ((record { repo = 1; key = t1; bytes = c1 }) ∷ (record { repo = 0; key = t0; bytes = c0 }) ∷ []); parts = ([]); largest = 3; tree = ((record { place = 4; path = t2; key = t0 }) ∷ []); marks = (2 ∷ 4 ∷ 4 ∷ 5 ∷ 6 ∷ 7 ∷ 8 ∷ 8 ∷ []) }

c_44 : turn given 2 d35 ≡ d36
unfolding opened
c_44 = refl

abbrev e32 : Entry
e32 = record { time = 0; count = 33; repo = (Some 0); kind = (kinds.Talk (Some 1)); taken = (Some (record { peer = 2; slot = 0; up = false; epoch = 1; seq = 3; body = (Line t7) })); sent = ((record { peer = 2; slot = 0; up = true; epoch = 1; seq = 4; body = (Line t8) }) ∷ []); lines = ([]) }

abbrev p32 : List Entry
p32 = e32 ∷ p31

abbrev d37 : Driver
d37 = record { past = p32; flights = ((record { to = 2; frame = (record { peer = 0; slot = 0; up = true; epoch = 1; seq = 4; body = (Line t8) }); bytes = [] }) ∷ []); fails = ([]); contents = ((record { repo = 1; key = t1; bytes = c1 }) ∷ (record { repo = 0; key = t0; bytes = c0 }) ∷ []); parts = ([]); largest = 3; tree = ((record { place = 4; path = t2; key = t0 }) ∷ []); marks = (2 ∷ 4 ∷ 4 ∷ 5 ∷ 6 ∷ 7 ∷ 8 ∷ 8 ∷ []) }

c_45 : turn given 0 d36 ≡ d37
unfolding opened
c_45 = refl

c_46 : turn given 1 d37 ≡ d37
unfolding opened
c_46 = refl

abbrev e33 : Entry
e33 = record { time = 0; count = 34; repo = (Some 2); kind = (kinds.Check found.Absent t0); taken = (Some (record { peer = 0; slot = 0; up = true; epoch = 1; seq = 4; body = (Line t8) })); sent = ((record { peer = 0; slot = 0; up = false; epoch = 1; seq = 4; body = (Line t7) }) ∷ []); lines = ([]) }

abbrev p33 : List Entry
p33 = e33 ∷ p32

abbrev d38 : Driver
d38 = record { past = p33; flights = ((record { to = 0; frame = (record { peer = 2; slot = 0; up = false; epoch = 1; seq = 4; body = (Line t7) }); bytes = [] }) ∷ []); fails = ([]); contents = ((record { repo = 1; key = t1; bytes = c1 }) ∷ (record { repo = 0; key = t0; bytes = c0 }) ∷ []); parts = ([]); largest = 3; tree = ((record { place = 4; path = t2; key = t0 }) ∷ []); marks = (2 ∷ 4 ∷ 4 ∷ 5 ∷ 6 ∷ 7 ∷ 8 ∷ 8 ∷ []) }

c_47 : turn given 2 d37 ≡ d38
unfolding opened
c_47 = refl

abbrev e34 : Entry
e34 = record { time = 0; count = 35; repo = (Some 0); kind = (kinds.Talk (Some 1)); taken = (Some (record { peer = 2; slot = 0; up = false; epoch = 1; seq = 4; body = (Line t7) })); sent = ([]); lines = ([]) }

abbrev p34 : List Entry
p34 = e34 ∷ p33

abbrev d39 : Driver
d39 = record { past = p34; flights = ([]); fails = ([]); contents = ((record { repo = 1; key = t1; bytes = c1 }) ∷ (record { repo = 0; key = t0; bytes = c0 }) ∷ []); parts = ([]); largest = 3; tree = ((record { place = 4; path = t2; key = t0 }) ∷ []); marks = (2 ∷ 4 ∷ 4 ∷ 5 ∷ 6 ∷ 7 ∷ 8 ∷ 8 ∷ []) }

c_48 : turn given 0 d38 ≡ d39
unfolding opened
c_48 = refl

c_49 : turn given 1 d39 ≡ d39
unfolding opened
c_49 = refl

c_50 : turn given 2 d39 ≡ d39
unfolding opened
c_50 = refl

abbrev e35 : Entry
e35 = record { time = 0; count = 36; repo = (Some 0); kind = (kinds.End 1 (outcomes.Refused (drops.Lacking (record { need = (record { n = 3; m = 1 }); locked = ([]); trusted = ([]); recent = ([]) }) ((record { repo = 1; cause = causes.Absent }) ∷ (record { repo = 2; cause = causes.Absent }) ∷ [])))); taken = None; sent = ((record { peer = 1; slot = 0; up = true; epoch = 1; seq = 5; body = Closing }) ∷ (record { peer = 2; slot = 0; up = true; epoch = 1; seq = 5; body = Closing }) ∷ []); lines = ([]) }

abbrev p35 : List Entry
p35 = e35 ∷ p34

abbrev d40 : Driver
d40 = record { past = p35; flights = ((record { to = 1; frame = (record { peer = 0; slot = 0; up = true; epoch = 1; seq = 5; body = Closing }); bytes = [] }) ∷ (record { to = 2; frame = (record { peer = 0; slot = 0; up = true; epoch = 1; seq = 5; body = Closing }); bytes = [] }) ∷ []); fails = ([]); contents = ((record { repo = 1; key = t1; bytes = c1 }) ∷ (record { repo = 0; key = t0; bytes = c0 }) ∷ []); parts = ([]); largest = 3; tree = ((record { place = 4; path = t2; key = t0 }) ∷ []); marks = (2 ∷ 4 ∷ 4 ∷ 5 ∷ 6 ∷ 7 ∷ 8 ∷ 8 ∷ []) }

c_51 : turn given 0 d39 ≡ d40
unfolding opened
c_51 = refl

abbrev e36 : Entry
e36 = record { time = 0; count = 37; repo = (Some 1); kind = (kinds.Close 0 0 false); taken = (Some (record { peer = 0; slot = 0; up = true; epoch = 1; seq = 5; body = Closing })); sent = ([]); lines = ([]) }

abbrev p36 : List Entry
p36 = e36 ∷ p35

abbrev d41 : Driver
d41 = record { past = p36; flights = ((record { to = 2; frame = (record { peer = 0; slot = 0; up = true; epoch = 1; seq = 5; body = Closing }); bytes = [] }) ∷ []); fails = ([]); contents = ((record { repo = 1; key = t1; bytes = c1 }) ∷ (record { repo = 0; key = t0; bytes = c0 }) ∷ []); parts = ([]); largest = 3; tree = ((record { place = 4; path = t2; key = t0 }) ∷ []); marks = (2 ∷ 4 ∷ 4 ∷ 5 ∷ 6 ∷ 7 ∷ 8 ∷ 8 ∷ []) }

c_52 : turn given 1 d40 ≡ d41
unfolding opened
c_52 = refl

abbrev e37 : Entry
e37 = record { time = 0; count = 38; repo = (Some 2); kind = (kinds.Close 0 0 false); taken = (Some (record { peer = 0; slot = 0; up = true; epoch = 1; seq = 5; body = Closing })); sent = ([]); lines = ([]) }

abbrev p37 : List Entry
p37 = e37 ∷ p36

abbrev d42 : Driver
d42 = record { past = p37; flights = ([]); fails = ([]); contents = ((record { repo = 1; key = t1; bytes = c1 }) ∷ (record { repo = 0; key = t0; bytes = c0 }) ∷ []); parts = ([]); largest = 3; tree = ((record { place = 4; path = t2; key = t0 }) ∷ []); marks = (2 ∷ 4 ∷ 4 ∷ 5 ∷ 6 ∷ 7 ∷ 8 ∷ 8 ∷ []) }

c_53 : turn given 2 d41 ≡ d42
unfolding opened
c_53 = refl

c_54 : turn given 0 d42 ≡ d42
unfolding opened
c_54 = refl

c_55 : turn given 1 d42 ≡ d42
unfolding opened
c_55 = refl

c_56 : turn given 2 d42 ≡ d42
unfolding opened
c_56 = refl

abbrev e38 : Entry
e38 = record { time = 0; count = 39; repo = (Some 0); kind = (kinds.Log (Location t1)); taken = None; sent = ([]); lines = (t11 ∷ []) }

abbrev p38 : List Entry
p38 = e38 ∷ p37

abbrev d43 : Driver
d43 = record { past = p38; flights = ([]); fails = ([]); contents = ((record { repo = 1; key = t1; bytes = c1 }) ∷ (record { repo = 0; key = t0; bytes = c0 }) ∷ []); parts = ([]); largest = 3; tree = ((record { place = 4; path = t2; key = t0 }) ∷ []); marks = (2 ∷ 4 ∷ 4 ∷ 5 ∷ 6 ∷ 7 ∷ 8 ∷ 8 ∷ []) }

c_57 : merges 0 1 d42 ≡ d43
unfolding opened
c_57 = refl

c_58 : merges 0 2 d43 ≡ d43
unfolding opened
c_58 = refl

c_59 : merges 1 0 d43 ≡ d43
unfolding opened
c_59 = refl

abbrev e39 : Entry
e39 = record { time = 0; count = 40; repo = (Some 2); kind = (kinds.Log (Location t1)); taken = None; sent = ([]); lines = (t11 ∷ []) }

abbrev p39 : List Entry
p39 = e39 ∷ p38

abbrev d44 : Driver
d44 = record { past = p39; flights = ([]); fails = ([]); contents = ((record { repo = 1; key = t1; bytes = c1 }) ∷ (record { repo = 0; key = t0; bytes = c0 }) ∷ []); parts = ([]); largest = 3; tree = ((record { place = 4; path = t2; key = t0 }) ∷ []); marks = (2 ∷ 4 ∷ 4 ∷ 5 ∷ 6 ∷ 7 ∷ 8 ∷ 8 ∷ []) }

c_60 : merges 2 0 d43 ≡ d44
unfolding opened
c_60 = refl

line8 : does given l8 d16 ≡ d44
line8 = syncs_by given 0 ([]) ((actions.DropHere t0) ∷ []) d16 d19 d19 d42 d44 (shares_by given 0 (1 ∷ 2 ∷ []) d16 d16 d17 d19 refl (settles_by given 2 d16 (record { driver = d16; idle = 2 }) (ap (goes given 1) (came given 0 d16 d16 refl (ap (turns_of given (1 ∷ 2 ∷ [])) c_8 ∙ ap (turns_of given (2 ∷ [])) c_9 ∙ ap (turns_of given ([])) c_10)) ∙ (ap (goes given 0) (came given 1 d16 d16 refl (ap (turns_of given (1 ∷ 2 ∷ [])) c_8 ∙ ap (turns_of given (2 ∷ [])) c_9 ∙ ap (turns_of given ([])) c_10)) ∙ (refl))) refl (omega arith)) (ap (merges_each 0 (2 ∷ [])) c_11 ∙ ap (merges_each 0 ([])) c_12) (ap (each_merges 0 (2 ∷ [])) c_13 ∙ ap (each_merges 0 ([])) c_14)) c_15 (refl) c_16 (carried_by given 0 (actions.DropHere t0) ([]) d19 d20 d42 d42 c_17 (settles_by given 14 d20 (record { driver = d42; idle = 2 }) (ap (goes given 13) (came given 0 d20 d21 refl (ap (turns_of given (1 ∷ 2 ∷ [])) c_18 ∙ ap (turns_of given (2 ∷ [])) c_19 ∙ ap (turns_of given ([])) c_20)) ∙ (ap (goes given 12) (came given 0 d21 d23 refl (ap (turns_of given (1 ∷ 2 ∷ [])) c_21 ∙ ap (turns_of given (2 ∷ [])) c_22 ∙ ap (turns_of given ([])) c_23)) ∙ (ap (goes given 11) (came given 0 d23 d25 refl (ap (turns_of given (1 ∷ 2 ∷ [])) c_24 ∙ ap (turns_of given (2 ∷ [])) c_25 ∙ ap (turns_of given ([])) c_26)) ∙ (ap (goes given 10) (came given 0 d25 d27 refl (ap (turns_of given (1 ∷ 2 ∷ [])) c_27 ∙ ap (turns_of given (2 ∷ [])) c_28 ∙ ap (turns_of given ([])) c_29)) ∙ (ap (goes given 9) (came given 0 d27 d29 refl (ap (turns_of given (1 ∷ 2 ∷ [])) c_30 ∙ ap (turns_of given (2 ∷ [])) c_31 ∙ ap (turns_of given ([])) c_32)) ∙ (ap (goes given 8) (came given 0 d29 d30 refl (ap (turns_of given (1 ∷ 2 ∷ [])) c_33 ∙ ap (turns_of given (2 ∷ [])) c_34 ∙ ap (turns_of given ([])) c_35)) ∙ (ap (goes given 7) (came given 0 d30 d32 refl (ap (turns_of given (1 ∷ 2 ∷ [])) c_36 ∙ ap (turns_of given (2 ∷ [])) c_37 ∙ ap (turns_of given ([])) c_38)) ∙ (ap (goes given 6) (came given 0 d32 d34 refl (ap (turns_of given (1 ∷ 2 ∷ [])) c_39 ∙ ap (turns_of given (2 ∷ [])) c_40 ∙ ap (turns_of given ([])) c_41)) ∙ (ap (goes given 5) (came given 0 d34 d36 refl (ap (turns_of given (1 ∷ 2 ∷ [])) c_42 ∙ ap (turns_of given (2 ∷ [])) c_43 ∙ ap (turns_of given ([])) c_44)) ∙ (ap (goes given 4) (came given 0 d36 d38 refl (ap (turns_of given (1 ∷ 2 ∷ [])) c_45 ∙ ap (turns_of given (2 ∷ [])) c_46 ∙ ap (turns_of given ([])) c_47)) ∙ (ap (goes given 3) (came given 0 d38 d39 refl (ap (turns_of given (1 ∷ 2 ∷ [])) c_48 ∙ ap (turns_of given (2 ∷ [])) c_49 ∙ ap (turns_of given ([])) c_50)) ∙ (ap (goes given 2) (came given 0 d39 d42 refl (ap (turns_of given (1 ∷ 2 ∷ [])) c_51 ∙ ap (turns_of given (2 ∷ [])) c_52 ∙ ap (turns_of given ([])) c_53)) ∙ (ap (goes given 1) (came given 0 d42 d42 refl (ap (turns_of given (1 ∷ 2 ∷ [])) c_54 ∙ ap (turns_of given (2 ∷ [])) c_55 ∙ ap (turns_of given ([])) c_56)) ∙ (ap (goes given 0) (came given 1 d42 d42 refl (ap (turns_of given (1 ∷ 2 ∷ [])) c_54 ∙ ap (turns_of given (2 ∷ [])) c_55 ∙ ap (turns_of given ([])) c_56)) ∙ (refl))))))))))))))) refl (omega arith)) (refl)) (shares_by given 0 (1 ∷ 2 ∷ []) d42 d42 d43 d44 refl (settles_by given 2 d42 (record { driver = d42; idle = 2 }) (ap (goes given 1) (came given 0 d42 d42 refl (ap (turns_of given (1 ∷ 2 ∷ [])) c_54 ∙ ap (turns_of given (2 ∷ [])) c_55 ∙ ap (turns_of given ([])) c_56)) ∙ (ap (goes given 0) (came given 1 d42 d42 refl (ap (turns_of given (1 ∷ 2 ∷ [])) c_54 ∙ ap (turns_of given (2 ∷ [])) c_55 ∙ ap (turns_of given ([])) c_56)) ∙ (refl))) refl (omega arith)) (ap (merges_each 0 (2 ∷ [])) c_57 ∙ ap (merges_each 0 ([])) c_58) (ap (each_merges 0 (2 ∷ [])) c_59 ∙ ap (each_merges 0 ([])) c_60))

abbrev d45 : Driver
d45 = record { past = p39; flights = ([]); fails = ([]); contents = ((record { repo = 1; key = t1; bytes = c1 }) ∷ (record { repo = 0; key = t0; bytes = c0 }) ∷ []); parts = ([]); largest = 3; tree = ((record { place = 4; path = t2; key = t0 }) ∷ []); marks = (2 ∷ 4 ∷ 4 ∷ 5 ∷ 6 ∷ 7 ∷ 8 ∷ 8 ∷ 40 ∷ []) }

abbrev made : Run
made = record { repos = repos; entries = (e0 ∷ e1 ∷ e2 ∷ e3 ∷ e4 ∷ e5 ∷ e6 ∷ e7 ∷ e8 ∷ e9 ∷ e10 ∷ e11 ∷ e12 ∷ e13 ∷ e14 ∷ e15 ∷ e16 ∷ e17 ∷ e18 ∷ e19 ∷ e20 ∷ e21 ∷ e22 ∷ e23 ∷ e24 ∷ e25 ∷ e26 ∷ e27 ∷ e28 ∷ e29 ∷ e30 ∷ e31 ∷ e32 ∷ e33 ∷ e34 ∷ e35 ∷ e36 ∷ e37 ∷ e38 ∷ e39 ∷ []); tree = ((record { place = 4; path = t2; key = t0 }) ∷ []); marks = (2 ∷ 4 ∷ 4 ∷ 5 ∷ 6 ∷ 7 ∷ 8 ∷ 8 ∷ 40 ∷ []) }

all : drives given (l0 ∷ l1 ∷ l2 ∷ l3 ∷ l4 ∷ l5 ∷ l6 ∷ l7 ∷ l8 ∷ []) at_first ≡ d45
all = ap (λ d. drives given (l1 ∷ l2 ∷ l3 ∷ l4 ∷ l5 ∷ l6 ∷ l7 ∷ l8 ∷ []) (with_mark d)) line0 ∙ ap (λ d. drives given (l2 ∷ l3 ∷ l4 ∷ l5 ∷ l6 ∷ l7 ∷ l8 ∷ []) (with_mark d)) line1 ∙ ap (λ d. drives given (l3 ∷ l4 ∷ l5 ∷ l6 ∷ l7 ∷ l8 ∷ []) (with_mark d)) line2 ∙ ap (λ d. drives given (l4 ∷ l5 ∷ l6 ∷ l7 ∷ l8 ∷ []) (with_mark d)) line3 ∙ ap (λ d. drives given (l5 ∷ l6 ∷ l7 ∷ l8 ∷ []) (with_mark d)) line4 ∙ ap (λ d. drives given (l6 ∷ l7 ∷ l8 ∷ []) (with_mark d)) line5 ∙ ap (λ d. drives given (l7 ∷ l8 ∷ []) (with_mark d)) line6 ∙ ap (λ d. drives given (l8 ∷ []) (with_mark d)) line7 ∙ ap (λ d. drives given ([]) (with_mark d)) line8

claim : run_of given (l0 ∷ l1 ∷ l2 ∷ l3 ∷ l4 ∷ l5 ∷ l6 ∷ l7 ∷ l8 ∷ []) ≡ made
claim = ap (run_with given) all

-- the numbers that the model prints of it
counted : sync_numbers made 0 8 40 ≡ record { get = 0; put = 0; drop = 0; refused = 1 }
counted = refl
