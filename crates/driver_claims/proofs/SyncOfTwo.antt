-- The run of a script with a sync, of two transfers and two drops: the driver makes it, turn by turn, as an executable model does.
use Rattle.std.proofs.Common.{ap, ◌∙◌, arith}
use Rattle.std.specs.Prelude.{◌≡◌, refl, ℕ, true, false, not, filter, List, [], ◌∷◌, Some, None, codes}
use Rattle.log_lines.specs.declared.entry.LogKind.TheVariants as logs
use Rattle.log_lines.specs.declared.entry.Topic.TheVariants as topics
use Rattle.log_lines.specs.declared.entry.Value.TheVariants as values
use Rattle.run_data.specs.declared.entry.Entry.{Entry}
use Rattle.run_data.specs.declared.entry.EntryKind.TheVariants as kinds
use Rattle.run_data.specs.declared.entry.By.TheVariants as by
use Rattle.run_data.specs.declared.entry.FrameText.TheVariants.{Opening, Closing, Bytes, Line}
use Rattle.run_data.specs.declared.entry.LogFile.TheVariants.{Location, Of}
use Rattle.run_data.specs.declared.job.JobKind.TheVariants as jobs
use Rattle.run_data.specs.declared.job.Outcome.TheVariants as outcomes
use Rattle.run_data.specs.declared.run.RepoView.{RepoView}
use Rattle.run_data.specs.declared.run.Run.{Run}
use Rattle.wanted_rules.specs.declared.action.Action.TheVariants as actions
use Rattle.run_model.specs.Syncs.{sync_numbers}
use Rattle.script_commands.specs.declared.command.Action.TheVariants.{Have, File, Set, Sync}
use Rattle.script_commands.specs.declared.command.Command.{Command}
use Rattle.script_commands.specs.declared.command.Command.TheVariants.{Does}
use Rattle.driver_model.specs.Driver.{Driver, DriverInput, at_first}
use Rattle.driver_model.specs.ScriptSteps.{begins, merges}
use Rattle.driver_model.specs.Turning.{turn}
use Rattle.driver_model.specs.Rounds.{turns_of}
use Rattle.driver_model.specs.Syncs.{each_merges, is_transfer, merges_each, plan_at}
use Rattle.driver_model.specs.Driving.{does, drives, with_mark, run_of, run_with}
use Rattle.driver_claims.proofs.Settling.{came, carried_by, goes, settles_by, shares_by, syncs_by}
use Rattle.driver_claims.specs.Opened.{opened, matches_in}

abbrev t0 : List ℕ
t0 = (codes "WORM-s3--k1")

abbrev t1 : List ℕ
t1 = (codes "WORM-s3--k2")

abbrev t2 : List ℕ
t2 = (codes "other")

abbrev t3 : List ℕ
t3 = (codes "keep")

abbrev t4 : List ℕ
t4 = (codes "include=k*")

abbrev t5 : List ℕ
t5 = (codes "exclude=k*")

abbrev t6 : List ℕ
t6 = (codes "AUTH-SUCCESS 22222222-1111-4111-8111-111111111101")

abbrev t7 : List ℕ
t7 = (codes "VERSION 3")

abbrev t8 : List ℕ
t8 = (codes "GET 0  WORM-s3--k2")

abbrev t9 : List ℕ
t9 = (codes "DATA 3")

abbrev t10 : List ℕ
t10 = (codes "VALID")

abbrev t11 : List ℕ
t11 = (codes "SUCCESS")

abbrev t12 : List ℕ
t12 = (codes "PUT  WORM-s3--k1")

abbrev t13 : List ℕ
t13 = (codes "PUT-FROM 0")

abbrev t14 : List ℕ
t14 = (codes "GETTIMESTAMP")

abbrev t15 : List ℕ
t15 = (codes "TIMESTAMP 0")

abbrev t16 : List ℕ
t16 = (codes "REMOVE-BEFORE 600 WORM-s3--k2")

abbrev t17 : List ℕ
t17 = (codes "LOCKCONTENT WORM-s3--k1")

abbrev t18 : List ℕ
t18 = (codes "UNLOCKCONTENT WORM-s3--k1")

abbrev t19 : List ℕ
t19 = (codes "1700000000s 1 11111111-1111-4111-8111-111111111100")

abbrev t20 : List ℕ
t20 = (codes "1700000000s 1 22222222-1111-4111-8111-111111111101")

abbrev t21 : List ℕ
t21 = (codes "11111111-1111-4111-8111-111111111100 include=k* timestamp=1700000000s")

abbrev t22 : List ℕ
t22 = (codes "22222222-1111-4111-8111-111111111101 exclude=k* timestamp=1700000000s")

abbrev t23 : List ℕ
t23 = (codes "1700000000.000000001s 0 22222222-1111-4111-8111-111111111101")

abbrev t24 : List ℕ
t24 = (codes "1700000000.000000001s 0 11111111-1111-4111-8111-111111111100")

abbrev c0 : List ℕ
c0 = (codes "abc")

abbrev c1 : List ℕ
c1 = (codes "def")

abbrev repos : List RepoView
repos = ((record { name = (codes "a"); id = (17 ∷ 17 ∷ 17 ∷ 17 ∷ 17 ∷ 17 ∷ 65 ∷ 17 ∷ 129 ∷ 17 ∷ 17 ∷ 17 ∷ 17 ∷ 17 ∷ 17 ∷ 0 ∷ []); offset = 0; version = 3; locks = true }) ∷ (record { name = (codes "b"); id = (34 ∷ 34 ∷ 34 ∷ 34 ∷ 17 ∷ 17 ∷ 65 ∷ 17 ∷ 129 ∷ 17 ∷ 17 ∷ 17 ∷ 17 ∷ 17 ∷ 17 ∷ 1 ∷ []); offset = 0; version = 3; locks = true }) ∷ [])

abbrev given : DriverInput
given = record { repos = repos; matches = matches_in ((t0, c0) ∷ (t1, c1) ∷ []) }

abbrev l0 : Command
l0 = Does (Have 0 t0 c0)

abbrev l1 : Command
l1 = Does (Have 1 t1 c1)

abbrev l2 : Command
l2 = Does (File t2 t0)

abbrev l3 : Command
l3 = Does (File t3 t1)

abbrev l4 : Command
l4 = Does (Set 0 logs.Preferred (topics.Repo (17 ∷ 17 ∷ 17 ∷ 17 ∷ 17 ∷ 17 ∷ 65 ∷ 17 ∷ 129 ∷ 17 ∷ 17 ∷ 17 ∷ 17 ∷ 17 ∷ 17 ∷ 0 ∷ [])) (values.Text t4))

abbrev l5 : Command
l5 = Does (Set 0 logs.Preferred (topics.Repo (34 ∷ 34 ∷ 34 ∷ 34 ∷ 17 ∷ 17 ∷ 65 ∷ 17 ∷ 129 ∷ 17 ∷ 17 ∷ 17 ∷ 17 ∷ 17 ∷ 17 ∷ 1 ∷ [])) (values.Text t5))

abbrev l6 : Command
l6 = Does (Sync 0)

abbrev d0 : Driver
d0 = record { past = []; flights = ([]); fails = ([]); contents = ([]); parts = ([]); largest = 0; tree = ([]); marks = ([]) }

abbrev e0 : Entry
e0 = record { time = 0; count = 1; repo = (Some 0); kind = (kinds.Gain by.Script 3 t0); taken = None; sent = ([]); lines = ([]) }

abbrev p0 : List Entry
p0 = e0 ∷ []

abbrev e1 : Entry
e1 = record { time = 0; count = 2; repo = (Some 0); kind = (kinds.Log (Location t0)); taken = None; sent = ([]); lines = (t19 ∷ []) }

abbrev p1 : List Entry
p1 = e1 ∷ p0

abbrev d1 : Driver
d1 = record { past = p1; flights = ([]); fails = ([]); contents = ((record { repo = 0; key = t0; bytes = c0 }) ∷ []); parts = ([]); largest = 3; tree = ([]); marks = ([]) }

c_0 : does given l0 d0 ≡ d1
unfolding opened
c_0 = refl

line0 : does given l0 d0 ≡ d1
line0 = c_0

abbrev d2 : Driver
d2 = record { past = p1; flights = ([]); fails = ([]); contents = ((record { repo = 0; key = t0; bytes = c0 }) ∷ []); parts = ([]); largest = 3; tree = ([]); marks = (2 ∷ []) }

abbrev e2 : Entry
e2 = record { time = 0; count = 3; repo = (Some 1); kind = (kinds.Gain by.Script 3 t1); taken = None; sent = ([]); lines = ([]) }

abbrev p2 : List Entry
p2 = e2 ∷ p1

abbrev e3 : Entry
e3 = record { time = 0; count = 4; repo = (Some 1); kind = (kinds.Log (Location t1)); taken = None; sent = ([]); lines = (t20 ∷ []) }

abbrev p3 : List Entry
p3 = e3 ∷ p2

abbrev d3 : Driver
d3 = record { past = p3; flights = ([]); fails = ([]); contents = ((record { repo = 1; key = t1; bytes = c1 }) ∷ (record { repo = 0; key = t0; bytes = c0 }) ∷ []); parts = ([]); largest = 3; tree = ([]); marks = (2 ∷ []) }

c_1 : does given l1 d2 ≡ d3
unfolding opened
c_1 = refl

line1 : does given l1 d2 ≡ d3
line1 = c_1

abbrev d4 : Driver
d4 = record { past = p3; flights = ([]); fails = ([]); contents = ((record { repo = 1; key = t1; bytes = c1 }) ∷ (record { repo = 0; key = t0; bytes = c0 }) ∷ []); parts = ([]); largest = 3; tree = ([]); marks = (2 ∷ 4 ∷ []) }

abbrev d5 : Driver
d5 = record { past = p3; flights = ([]); fails = ([]); contents = ((record { repo = 1; key = t1; bytes = c1 }) ∷ (record { repo = 0; key = t0; bytes = c0 }) ∷ []); parts = ([]); largest = 3; tree = ((record { place = 4; path = t2; key = t0 }) ∷ []); marks = (2 ∷ 4 ∷ []) }

c_2 : does given l2 d4 ≡ d5
unfolding opened
c_2 = refl

line2 : does given l2 d4 ≡ d5
line2 = c_2

abbrev d6 : Driver
d6 = record { past = p3; flights = ([]); fails = ([]); contents = ((record { repo = 1; key = t1; bytes = c1 }) ∷ (record { repo = 0; key = t0; bytes = c0 }) ∷ []); parts = ([]); largest = 3; tree = ((record { place = 4; path = t2; key = t0 }) ∷ []); marks = (2 ∷ 4 ∷ 4 ∷ []) }

abbrev d7 : Driver
d7 = record { past = p3; flights = ([]); fails = ([]); contents = ((record { repo = 1; key = t1; bytes = c1 }) ∷ (record { repo = 0; key = t0; bytes = c0 }) ∷ []); parts = ([]); largest = 3; tree = ((record { place = 4; path = t2; key = t0 }) ∷ (record { place = 4; path = t3; key = t1 }) ∷ []); marks = (2 ∷ 4 ∷ 4 ∷ []) }

c_3 : does given l3 d6 ≡ d7
unfolding opened
c_3 = refl

line3 : does given l3 d6 ≡ d7
line3 = c_3

abbrev d8 : Driver
d8 = record { past = p3; flights = ([]); fails = ([]); contents = ((record { repo = 1; key = t1; bytes = c1 }) ∷ (record { repo = 0; key = t0; bytes = c0 }) ∷ []); parts = ([]); largest = 3; tree = ((record { place = 4; path = t2; key = t0 }) ∷ (record { place = 4; path = t3; key = t1 }) ∷ []); marks = (2 ∷ 4 ∷ 4 ∷ 4 ∷ []) }

abbrev e4 : Entry
e4 = record { time = 0; count = 5; repo = (Some 0); kind = (kinds.Log (Of logs.Preferred)); taken = None; sent = ([]); lines = (t21 ∷ []) }

abbrev p4 : List Entry
p4 = e4 ∷ p3

abbrev d9 : Driver
d9 = record { past = p4; flights = ([]); fails = ([]); contents = ((record { repo = 1; key = t1; bytes = c1 }) ∷ (record { repo = 0; key = t0; bytes = c0 }) ∷ []); parts = ([]); largest = 3; tree = ((record { place = 4; path = t2; key = t0 }) ∷ (record { place = 4; path = t3; key = t1 }) ∷ []); marks = (2 ∷ 4 ∷ 4 ∷ 4 ∷ []) }

c_4 : does given l4 d8 ≡ d9
unfolding opened
c_4 = refl

line4 : does given l4 d8 ≡ d9
line4 = c_4

abbrev d10 : Driver
d10 = record { past = p4; flights = ([]); fails = ([]); contents = ((record { repo = 1; key = t1; bytes = c1 }) ∷ (record { repo = 0; key = t0; bytes = c0 }) ∷ []); parts = ([]); largest = 3; tree = ((record { place = 4; path = t2; key = t0 }) ∷ (record { place = 4; path = t3; key = t1 }) ∷ []); marks = (2 ∷ 4 ∷ 4 ∷ 4 ∷ 5 ∷ []) }

abbrev e5 : Entry
e5 = record { time = 0; count = 6; repo = (Some 0); kind = (kinds.Log (Of logs.Preferred)); taken = None; sent = ([]); lines = (t22 ∷ []) }

abbrev p5 : List Entry
p5 = e5 ∷ p4

abbrev d11 : Driver
d11 = record { past = p5; flights = ([]); fails = ([]); contents = ((record { repo = 1; key = t1; bytes = c1 }) ∷ (record { repo = 0; key = t0; bytes = c0 }) ∷ []); parts = ([]); largest = 3; tree = ((record { place = 4; path = t2; key = t0 }) ∷ (record { place = 4; path = t3; key = t1 }) ∷ []); marks = (2 ∷ 4 ∷ 4 ∷ 4 ∷ 5 ∷ []) }

c_5 : does given l5 d10 ≡ d11
unfolding opened
c_5 = refl

line5 : does given l5 d10 ≡ d11
line5 = c_5

abbrev d12 : Driver
d12 = record { past = p5; flights = ([]); fails = ([]); contents = ((record { repo = 1; key = t1; bytes = c1 }) ∷ (record { repo = 0; key = t0; bytes = c0 }) ∷ []); parts = ([]); largest = 3; tree = ((record { place = 4; path = t2; key = t0 }) ∷ (record { place = 4; path = t3; key = t1 }) ∷ []); marks = (2 ∷ 4 ∷ 4 ∷ 4 ∷ 5 ∷ 6 ∷ []) }

c_6 : turn given 0 d12 ≡ d12
unfolding opened
c_6 = refl

c_7 : turn given 1 d12 ≡ d12
unfolding opened
c_7 = refl

abbrev e6 : Entry
e6 = record { time = 0; count = 7; repo = (Some 0); kind = (kinds.Log (Location t1)); taken = None; sent = ([]); lines = (t20 ∷ []) }

abbrev p6 : List Entry
p6 = e6 ∷ p5

abbrev d13 : Driver
d13 = record { past = p6; flights = ([]); fails = ([]); contents = ((record { repo = 1; key = t1; bytes = c1 }) ∷ (record { repo = 0; key = t0; bytes = c0 }) ∷ []); parts = ([]); largest = 3; tree = ((record { place = 4; path = t2; key = t0 }) ∷ (record { place = 4; path = t3; key = t1 }) ∷ []); marks = (2 ∷ 4 ∷ 4 ∷ 4 ∷ 5 ∷ 6 ∷ []) }

c_8 : merges 0 1 d12 ≡ d13
unfolding opened
c_8 = refl

abbrev e7 : Entry
e7 = record { time = 0; count = 8; repo = (Some 1); kind = (kinds.Log (Location t0)); taken = None; sent = ([]); lines = (t19 ∷ []) }

abbrev p7 : List Entry
p7 = e7 ∷ p6

abbrev e8 : Entry
e8 = record { time = 0; count = 9; repo = (Some 1); kind = (kinds.Log (Of logs.Preferred)); taken = None; sent = ([]); lines = (t21 ∷ t22 ∷ []) }

abbrev p8 : List Entry
p8 = e8 ∷ p7

abbrev d14 : Driver
d14 = record { past = p8; flights = ([]); fails = ([]); contents = ((record { repo = 1; key = t1; bytes = c1 }) ∷ (record { repo = 0; key = t0; bytes = c0 }) ∷ []); parts = ([]); largest = 3; tree = ((record { place = 4; path = t2; key = t0 }) ∷ (record { place = 4; path = t3; key = t1 }) ∷ []); marks = (2 ∷ 4 ∷ 4 ∷ 4 ∷ 5 ∷ 6 ∷ []) }

c_9 : merges 1 0 d13 ≡ d14
unfolding opened
c_9 = refl

c_10 : filter is_transfer (plan_at given 0 d14) ≡ ((actions.Get t1) ∷ (actions.Put t0 1) ∷ [])
unfolding opened
c_10 = refl

abbrev e9 : Entry
e9 = record { time = 0; count = 10; repo = (Some 0); kind = (kinds.Begin 1 (record { kind = jobs.Get; key = t1; path = None; peer = None })); taken = None; sent = ([]); lines = ([]) }

abbrev p9 : List Entry
p9 = e9 ∷ p8

abbrev d15 : Driver
d15 = record { past = p9; flights = ([]); fails = ([]); contents = ((record { repo = 1; key = t1; bytes = c1 }) ∷ (record { repo = 0; key = t0; bytes = c0 }) ∷ []); parts = ([]); largest = 3; tree = ((record { place = 4; path = t2; key = t0 }) ∷ (record { place = 4; path = t3; key = t1 }) ∷ []); marks = (2 ∷ 4 ∷ 4 ∷ 4 ∷ 5 ∷ 6 ∷ []) }

c_11 : begins 0 (record { kind = jobs.Get; key = t1; path = None; peer = None }) d14 ≡ d15
unfolding opened
c_11 = refl

abbrev e10 : Entry
e10 = record { time = 0; count = 11; repo = (Some 0); kind = (kinds.Talk (Some 1)); taken = None; sent = ((record { peer = 1; slot = 0; up = true; epoch = 1; seq = 1; body = Opening }) ∷ []); lines = ([]) }

abbrev p10 : List Entry
p10 = e10 ∷ p9

abbrev d16 : Driver
d16 = record { past = p10; flights = ((record { to = 1; frame = (record { peer = 0; slot = 0; up = true; epoch = 1; seq = 1; body = Opening }); bytes = [] }) ∷ []); fails = ([]); contents = ((record { repo = 1; key = t1; bytes = c1 }) ∷ (record { repo = 0; key = t0; bytes = c0 }) ∷ []); parts = ([]); largest = 3; tree = ((record { place = 4; path = t2; key = t0 }) ∷ (record { place = 4; path = t3; key = t1 }) ∷ []); marks = (2 ∷ 4 ∷ 4 ∷ 4 ∷ 5 ∷ 6 ∷ []) }

c_12 : turn given 0 d15 ≡ d16
unfolding opened
c_12 = refl

abbrev e11 : Entry
e11 = record { time = 0; count = 12; repo = (Some 1); kind = (kinds.Talk None); taken = (Some (record { peer = 0; slot = 0; up = true; epoch = 1; seq = 1; body = Opening })); sent = ((record { peer = 0; slot = 0; up = false; epoch = 1; seq = 1; body = (Line t6) }) ∷ []); lines = ([]) }

abbrev p11 : List Entry
p11 = e11 ∷ p10

abbrev d17 : Driver
d17 = record { past = p11; flights = ((record { to = 0; frame = (record { peer = 1; slot = 0; up = false; epoch = 1; seq = 1; body = (Line t6) }); bytes = [] }) ∷ []); fails = ([]); contents = ((record { repo = 1; key = t1; bytes = c1 }) ∷ (record { repo = 0; key = t0; bytes = c0 }) ∷ []); parts = ([]); largest = 3; tree = ((record { place = 4; path = t2; key = t0 }) ∷ (record { place = 4; path = t3; key = t1 }) ∷ []); marks = (2 ∷ 4 ∷ 4 ∷ 4 ∷ 5 ∷ 6 ∷ []) }

c_13 : turn given 1 d16 ≡ d17
unfolding opened
c_13 = refl

abbrev e12 : Entry
e12 = record { time = 0; count = 13; repo = (Some 0); kind = (kinds.Talk (Some 1)); taken = (Some (record { peer = 1; slot = 0; up = false; epoch = 1; seq = 1; body = (Line t6) })); sent = ((record { peer = 1; slot = 0; up = true; epoch = 1; seq = 2; body = (Line t7) }) ∷ []); lines = ([]) }

abbrev p12 : List Entry
p12 = e12 ∷ p11

abbrev d18 : Driver
d18 = record { past = p12; flights = ((record { to = 1; frame = (record { peer = 0; slot = 0; up = true; epoch = 1; seq = 2; body = (Line t7) }); bytes = [] }) ∷ []); fails = ([]); contents = ((record { repo = 1; key = t1; bytes = c1 }) ∷ (record { repo = 0; key = t0; bytes = c0 }) ∷ []); parts = ([]); largest = 3; tree = ((record { place = 4; path = t2; key = t0 }) ∷ (record { place = 4; path = t3; key = t1 }) ∷ []); marks = (2 ∷ 4 ∷ 4 ∷ 4 ∷ 5 ∷ 6 ∷ []) }

c_14 : turn given 0 d17 ≡ d18
unfolding opened
c_14 = refl

abbrev e13 : Entry
e13 = record { time = 0; count = 14; repo = (Some 1); kind = (kinds.Talk None); taken = (Some (record { peer = 0; slot = 0; up = true; epoch = 1; seq = 2; body = (Line t7) })); sent = ((record { peer = 0; slot = 0; up = false; epoch = 1; seq = 2; body = (Line t7) }) ∷ []); lines = ([]) }

abbrev p13 : List Entry
p13 = e13 ∷ p12

abbrev d19 : Driver
d19 = record { past = p13; flights = ((record { to = 0; frame = (record { peer = 1; slot = 0; up = false; epoch = 1; seq = 2; body = (Line t7) }); bytes = [] }) ∷ []); fails = ([]); contents = ((record { repo = 1; key = t1; bytes = c1 }) ∷ (record { repo = 0; key = t0; bytes = c0 }) ∷ []); parts = ([]); largest = 3; tree = ((record { place = 4; path = t2; key = t0 }) ∷ (record { place = 4; path = t3; key = t1 }) ∷ []); marks = (2 ∷ 4 ∷ 4 ∷ 4 ∷ 5 ∷ 6 ∷ []) }

c_15 : turn given 1 d18 ≡ d19
unfolding opened
c_15 = refl

abbrev e14 : Entry
e14 = record { time = 0; count = 15; repo = (Some 0); kind = (kinds.Talk (Some 1)); taken = (Some (record { peer = 1; slot = 0; up = false; epoch = 1; seq = 2; body = (Line t7) })); sent = ((record { peer = 1; slot = 0; up = true; epoch = 1; seq = 3; body = (Line t8) }) ∷ []); lines = ([]) }

abbrev p14 : List Entry
p14 = e14 ∷ p13

abbrev d20 : Driver
d20 = record { past = p14; flights = ((record { to = 1; frame = (record { peer = 0; slot = 0; up = true; epoch = 1; seq = 3; body = (Line t8) }); bytes = [] }) ∷ []); fails = ([]); contents = ((record { repo = 1; key = t1; bytes = c1 }) ∷ (record { repo = 0; key = t0; bytes = c0 }) ∷ []); parts = ([]); largest = 3; tree = ((record { place = 4; path = t2; key = t0 }) ∷ (record { place = 4; path = t3; key = t1 }) ∷ []); marks = (2 ∷ 4 ∷ 4 ∷ 4 ∷ 5 ∷ 6 ∷ []) }

c_16 : turn given 0 d19 ≡ d20
unfolding opened
c_16 = refl

abbrev e15 : Entry
e15 = record { time = 0; count = 16; repo = (Some 1); kind = (kinds.Talk None); taken = (Some (record { peer = 0; slot = 0; up = true; epoch = 1; seq = 3; body = (Line t8) })); sent = ((record { peer = 0; slot = 0; up = false; epoch = 1; seq = 3; body = (Line t9) }) ∷ []); lines = ([]) }

abbrev p15 : List Entry
p15 = e15 ∷ p14

abbrev d21 : Driver
d21 = record { past = p15; flights = ((record { to = 0; frame = (record { peer = 1; slot = 0; up = false; epoch = 1; seq = 3; body = (Line t9) }); bytes = [] }) ∷ []); fails = ([]); contents = ((record { repo = 1; key = t1; bytes = c1 }) ∷ (record { repo = 0; key = t0; bytes = c0 }) ∷ []); parts = ([]); largest = 3; tree = ((record { place = 4; path = t2; key = t0 }) ∷ (record { place = 4; path = t3; key = t1 }) ∷ []); marks = (2 ∷ 4 ∷ 4 ∷ 4 ∷ 5 ∷ 6 ∷ []) }

c_17 : turn given 1 d20 ≡ d21
unfolding opened
c_17 = refl

abbrev e16 : Entry
e16 = record { time = 0; count = 17; repo = (Some 0); kind = (kinds.Talk (Some 1)); taken = (Some (record { peer = 1; slot = 0; up = false; epoch = 1; seq = 3; body = (Line t9) })); sent = ([]); lines = ([]) }

abbrev p16 : List Entry
p16 = e16 ∷ p15

abbrev d22 : Driver
d22 = record { past = p16; flights = ([]); fails = ([]); contents = ((record { repo = 1; key = t1; bytes = c1 }) ∷ (record { repo = 0; key = t0; bytes = c0 }) ∷ []); parts = ([]); largest = 3; tree = ((record { place = 4; path = t2; key = t0 }) ∷ (record { place = 4; path = t3; key = t1 }) ∷ []); marks = (2 ∷ 4 ∷ 4 ∷ 4 ∷ 5 ∷ 6 ∷ []) }

c_18 : turn given 0 d21 ≡ d22
unfolding opened
c_18 = refl

abbrev e17 : Entry
e17 = record { time = 0; count = 18; repo = (Some 1); kind = (kinds.Talk None); taken = None; sent = ((record { peer = 0; slot = 0; up = false; epoch = 1; seq = 4; body = (Bytes 3) }) ∷ []); lines = ([]) }

abbrev p17 : List Entry
p17 = e17 ∷ p16

abbrev d23 : Driver
d23 = record { past = p17; flights = ((record { to = 0; frame = (record { peer = 1; slot = 0; up = false; epoch = 1; seq = 4; body = (Bytes 3) }); bytes = c1 }) ∷ []); fails = ([]); contents = ((record { repo = 1; key = t1; bytes = c1 }) ∷ (record { repo = 0; key = t0; bytes = c0 }) ∷ []); parts = ([]); largest = 3; tree = ((record { place = 4; path = t2; key = t0 }) ∷ (record { place = 4; path = t3; key = t1 }) ∷ []); marks = (2 ∷ 4 ∷ 4 ∷ 4 ∷ 5 ∷ 6 ∷ []) }

c_19 : turn given 1 d22 ≡ d23
unfolding opened
c_19 = refl

abbrev e18 : Entry
e18 = record { time = 0; count = 19; repo = (Some 0); kind = (kinds.Talk (Some 1)); taken = (Some (record { peer = 1; slot = 0; up = false; epoch = 1; seq = 4; body = (Bytes 3) })); sent = ([]); lines = ([]) }

abbrev p18 : List Entry
p18 = e18 ∷ p17

abbrev d24 : Driver
d24 = record { past = p18; flights = ([]); fails = ([]); contents = ((record { repo = 1; key = t1; bytes = c1 }) ∷ (record { repo = 0; key = t0; bytes = c0 }) ∷ []); parts = ((record { repo = 0; key = t1; bytes = c1 }) ∷ []); largest = 3; tree = ((record { place = 4; path = t2; key = t0 }) ∷ (record { place = 4; path = t3; key = t1 }) ∷ []); marks = (2 ∷ 4 ∷ 4 ∷ 4 ∷ 5 ∷ 6 ∷ []) }

c_20 : turn given 0 d23 ≡ d24
unfolding opened
c_20 = refl

abbrev e19 : Entry
e19 = record { time = 0; count = 20; repo = (Some 1); kind = (kinds.Talk None); taken = None; sent = ((record { peer = 0; slot = 0; up = false; epoch = 1; seq = 5; body = (Line t10) }) ∷ []); lines = ([]) }

abbrev p19 : List Entry
p19 = e19 ∷ p18

abbrev d25 : Driver
d25 = record { past = p19; flights = ((record { to = 0; frame = (record { peer = 1; slot = 0; up = false; epoch = 1; seq = 5; body = (Line t10) }); bytes = [] }) ∷ []); fails = ([]); contents = ((record { repo = 1; key = t1; bytes = c1 }) ∷ (record { repo = 0; key = t0; bytes = c0 }) ∷ []); parts = ((record { repo = 0; key = t1; bytes = c1 }) ∷ []); largest = 3; tree = ((record { place = 4; path = t2; key = t0 }) ∷ (record { place = 4; path = t3; key = t1 }) ∷ []); marks = (2 ∷ 4 ∷ 4 ∷ 4 ∷ 5 ∷ 6 ∷ []) }

c_21 : turn given 1 d24 ≡ d25
unfolding opened
c_21 = refl

abbrev e20 : Entry
e20 = record { time = 0; count = 21; repo = (Some 0); kind = (kinds.Gain (by.Job 1) 3 t1); taken = (Some (record { peer = 1; slot = 0; up = false; epoch = 1; seq = 5; body = (Line t10) })); sent = ((record { peer = 1; slot = 0; up = true; epoch = 1; seq = 4; body = (Line t11) }) ∷ []); lines = ([]) }

abbrev p20 : List Entry
p20 = e20 ∷ p19

abbrev d26 : Driver
d26 = record { past = p20; flights = ((record { to = 1; frame = (record { peer = 0; slot = 0; up = true; epoch = 1; seq = 4; body = (Line t11) }); bytes = [] }) ∷ []); fails = ([]); contents = ((record { repo = 0; key = t1; bytes = c1 }) ∷ (record { repo = 1; key = t1; bytes = c1 }) ∷ (record { repo = 0; key = t0; bytes = c0 }) ∷ []); parts = ([]); largest = 3; tree = ((record { place = 4; path = t2; key = t0 }) ∷ (record { place = 4; path = t3; key = t1 }) ∷ []); marks = (2 ∷ 4 ∷ 4 ∷ 4 ∷ 5 ∷ 6 ∷ []) }

c_22 : turn given 0 d25 ≡ d26
unfolding opened
c_22 = refl

abbrev e21 : Entry
e21 = record { time = 0; count = 22; repo = (Some 1); kind = (kinds.Talk None); taken = (Some (record { peer = 0; slot = 0; up = true; epoch = 1; seq = 4; body = (Line t11) })); sent = ([]); lines = ([]) }

abbrev p21 : List Entry
p21 = e21 ∷ p20

abbrev d27 : Driver
d27 = record { past = p21; flights = ([]); fails = ([]); contents = ((record { repo = 0; key = t1; bytes = c1 }) ∷ (record { repo = 1; key = t1; bytes = c1 }) ∷ (record { repo = 0; key = t0; bytes = c0 }) ∷ []); parts = ([]); largest = 3; tree = ((record { place = 4; path = t2; key = t0 }) ∷ (record { place = 4; path = t3; key = t1 }) ∷ []); marks = (2 ∷ 4 ∷ 4 ∷ 4 ∷ 5 ∷ 6 ∷ []) }

c_23 : turn given 1 d26 ≡ d27
unfolding opened
c_23 = refl

abbrev e22 : Entry
e22 = record { time = 0; count = 23; repo = (Some 0); kind = (kinds.Log (Location t1)); taken = None; sent = ([]); lines = (t19 ∷ []) }

abbrev p22 : List Entry
p22 = e22 ∷ p21

abbrev d28 : Driver
d28 = record { past = p22; flights = ([]); fails = ([]); contents = ((record { repo = 0; key = t1; bytes = c1 }) ∷ (record { repo = 1; key = t1; bytes = c1 }) ∷ (record { repo = 0; key = t0; bytes = c0 }) ∷ []); parts = ([]); largest = 3; tree = ((record { place = 4; path = t2; key = t0 }) ∷ (record { place = 4; path = t3; key = t1 }) ∷ []); marks = (2 ∷ 4 ∷ 4 ∷ 4 ∷ 5 ∷ 6 ∷ []) }

c_24 : turn given 0 d27 ≡ d28
unfolding opened
c_24 = refl

c_25 : turn given 1 d28 ≡ d28
unfolding opened
c_25 = refl

abbrev e23 : Entry
e23 = record { time = 0; count = 24; repo = (Some 0); kind = (kinds.End 1 (outcomes.Got (Some 1) (Some 0))); taken = None; sent = ((record { peer = 1; slot = 0; up = true; epoch = 1; seq = 5; body = Closing }) ∷ []); lines = ([]) }

abbrev p23 : List Entry
p23 = e23 ∷ p22

abbrev d29 : Driver
d29 = record { past = p23; flights = ((record { to = 1; frame = (record { peer = 0; slot = 0; up = true; epoch = 1; seq = 5; body = Closing }); bytes = [] }) ∷ []); fails = ([]); contents = ((record { repo = 0; key = t1; bytes = c1 }) ∷ (record { repo = 1; key = t1; bytes = c1 }) ∷ (record { repo = 0; key = t0; bytes = c0 }) ∷ []); parts = ([]); largest = 3; tree = ((record { place = 4; path = t2; key = t0 }) ∷ (record { place = 4; path = t3; key = t1 }) ∷ []); marks = (2 ∷ 4 ∷ 4 ∷ 4 ∷ 5 ∷ 6 ∷ []) }

c_26 : turn given 0 d28 ≡ d29
unfolding opened
c_26 = refl

abbrev e24 : Entry
e24 = record { time = 0; count = 25; repo = (Some 1); kind = (kinds.Close 0 0 false); taken = (Some (record { peer = 0; slot = 0; up = true; epoch = 1; seq = 5; body = Closing })); sent = ([]); lines = ([]) }

abbrev p24 : List Entry
p24 = e24 ∷ p23

abbrev d30 : Driver
d30 = record { past = p24; flights = ([]); fails = ([]); contents = ((record { repo = 0; key = t1; bytes = c1 }) ∷ (record { repo = 1; key = t1; bytes = c1 }) ∷ (record { repo = 0; key = t0; bytes = c0 }) ∷ []); parts = ([]); largest = 3; tree = ((record { place = 4; path = t2; key = t0 }) ∷ (record { place = 4; path = t3; key = t1 }) ∷ []); marks = (2 ∷ 4 ∷ 4 ∷ 4 ∷ 5 ∷ 6 ∷ []) }

c_27 : turn given 1 d29 ≡ d30
unfolding opened
c_27 = refl

c_28 : turn given 0 d30 ≡ d30
unfolding opened
c_28 = refl

c_29 : turn given 1 d30 ≡ d30
unfolding opened
c_29 = refl

abbrev e25 : Entry
e25 = record { time = 0; count = 26; repo = (Some 0); kind = (kinds.Begin 2 (record { kind = jobs.Copy; key = t0; path = None; peer = (Some 1) })); taken = None; sent = ([]); lines = ([]) }

abbrev p25 : List Entry
p25 = e25 ∷ p24

abbrev d31 : Driver
d31 = record { past = p25; flights = ([]); fails = ([]); contents = ((record { repo = 0; key = t1; bytes = c1 }) ∷ (record { repo = 1; key = t1; bytes = c1 }) ∷ (record { repo = 0; key = t0; bytes = c0 }) ∷ []); parts = ([]); largest = 3; tree = ((record { place = 4; path = t2; key = t0 }) ∷ (record { place = 4; path = t3; key = t1 }) ∷ []); marks = (2 ∷ 4 ∷ 4 ∷ 4 ∷ 5 ∷ 6 ∷ []) }

c_30 : begins 0 (record { kind = jobs.Copy; key = t0; path = None; peer = (Some 1) }) d30 ≡ d31
unfolding opened
c_30 = refl

abbrev e26 : Entry
e26 = record { time = 0; count = 27; repo = (Some 0); kind = (kinds.Talk (Some 2)); taken = None; sent = ((record { peer = 1; slot = 0; up = true; epoch = 2; seq = 1; body = Opening }) ∷ []); lines = ([]) }

abbrev p26 : List Entry
p26 = e26 ∷ p25

abbrev d32 : Driver
d32 = record { past = p26; flights = ((record { to = 1; frame = (record { peer = 0; slot = 0; up = true; epoch = 2; seq = 1; body = Opening }); bytes = [] }) ∷ []); fails = ([]); contents = ((record { repo = 0; key = t1; bytes = c1 }) ∷ (record { repo = 1; key = t1; bytes = c1 }) ∷ (record { repo = 0; key = t0; bytes = c0 }) ∷ []); parts = ([]); largest = 3; tree = ((record { place = 4; path = t2; key = t0 }) ∷ (record { place = 4; path = t3; key = t1 }) ∷ []); marks = (2 ∷ 4 ∷ 4 ∷ 4 ∷ 5 ∷ 6 ∷ []) }

c_31 : turn given 0 d31 ≡ d32
unfolding opened
c_31 = refl

abbrev e27 : Entry
e27 = record { time = 0; count = 28; repo = (Some 1); kind = (kinds.Talk None); taken = (Some (record { peer = 0; slot = 0; up = true; epoch = 2; seq = 1; body = Opening })); sent = ((record { peer = 0; slot = 0; up = false; epoch = 2; seq = 1; body = (Line t6) }) ∷ []); lines = ([]) }

abbrev p27 : List Entry
p27 = e27 ∷ p26

abbrev d33 : Driver
d33 = record { past = p27; flights = ((record { to = 0; frame = (record { peer = 1; slot = 0; up = false; epoch = 2; seq = 1; body = (Line t6) }); bytes = [] }) ∷ []); fails = ([]); contents = ((record { repo = 0; key = t1; bytes = c1 }) ∷ (record { repo = 1; key = t1; bytes = c1 }) ∷ (record { repo = 0; key = t0; bytes = c0 }) ∷ []); parts = ([]); largest = 3; tree = ((record { place = 4; path = t2; key = t0 }) ∷ (record { place = 4; path = t3; key = t1 }) ∷ []); marks = (2 ∷ 4 ∷ 4 ∷ 4 ∷ 5 ∷ 6 ∷ []) }

c_32 : turn given 1 d32 ≡ d33
unfolding opened
c_32 = refl

abbrev e28 : Entry
e28 = record { time = 0; count = 29; repo = (Some 0); kind = (kinds.Talk (Some 2)); taken = (Some (record { peer = 1; slot = 0; up = false; epoch = 2; seq = 1; body = (Line t6) })); sent = ((record { peer = 1; slot = 0; up = true; epoch = 2; seq = 2; body = (Line t7) }) ∷ []); lines = ([]) }

abbrev p28 : List Entry
p28 = e28 ∷ p27

abbrev d34 : Driver
d34 = record { past = p28; flights = ((record { to = 1; frame = (record { peer = 0; slot = 0; up = true; epoch = 2; seq = 2; body = (Line t7) }); bytes = [] }) ∷ []); fails = ([]); contents = ((record { repo = 0; key = t1; bytes = c1 }) ∷ (record { repo = 1; key = t1; bytes = c1 }) ∷ (record { repo = 0; key = t0; bytes = c0 }) ∷ []); parts = ([]); largest = 3; tree = ((record { place = 4; path = t2; key = t0 }) ∷ (record { place = 4; path = t3; key = t1 }) ∷ []); marks = (2 ∷ 4 ∷ 4 ∷ 4 ∷ 5 ∷ 6 ∷ []) }

c_33 : turn given 0 d33 ≡ d34
unfolding opened
c_33 = refl

abbrev e29 : Entry
e29 = record { time = 0; count = 30; repo = (Some 1); kind = (kinds.Talk None); taken = (Some (record { peer = 0; slot = 0; up = true; epoch = 2; seq = 2; body = (Line t7) })); sent = ((record { peer = 0; slot = 0; up = false; epoch = 2; seq = 2; body = (Line t7) }) ∷ []); lines = ([]) }

abbrev p29 : List Entry
p29 = e29 ∷ p28

abbrev d35 : Driver
d35 = record { past = p29; flights = ((record { to = 0; frame = (record { peer = 1; slot = 0; up = false; epoch = 2; seq = 2; body = (Line t7) }); bytes = [] }) ∷ []); fails = ([]); contents = ((record { repo = 0; key = t1; bytes = c1 }) ∷ (record { repo = 1; key = t1; bytes = c1 }) ∷ (record { repo = 0; key = t0; bytes = c0 }) ∷ []); parts = ([]); largest = 3; tree = ((record { place = 4; path = t2; key = t0 }) ∷ (record { place = 4; path = t3; key = t1 }) ∷ []); marks = (2 ∷ 4 ∷ 4 ∷ 4 ∷ 5 ∷ 6 ∷ []) }

c_34 : turn given 1 d34 ≡ d35
unfolding opened
c_34 = refl

abbrev e30 : Entry
e30 = record { time = 0; count = 31; repo = (Some 0); kind = (kinds.Talk (Some 2)); taken = (Some (record { peer = 1; slot = 0; up = false; epoch = 2; seq = 2; body = (Line t7) })); sent = ((record { peer = 1; slot = 0; up = true; epoch = 2; seq = 3; body = (Line t12) }) ∷ []); lines = ([]) }

abbrev p30 : List Entry
p30 = e30 ∷ p29

abbrev d36 : Driver
d36 = record { past = p30; flights = ((record { to = 1; frame = (record { peer = 0; slot = 0; up = true; epoch = 2; seq = 3; body = (Line t12) }); bytes = [] }) ∷ []); fails = ([]); contents = ((record { repo = 0; key = t1; bytes = c1 }) ∷ (record { repo = 1; key = t1; bytes = c1 }) ∷ (record { repo = 0; key = t0; bytes = c0 }) ∷ []); parts = ([]); largest = 3; tree = ((record { place = 4; path = t2; key = t0 }) ∷ (record { place = 4; path = t3; key = t1 }) ∷ []); marks = (2 ∷ 4 ∷ 4 ∷ 4 ∷ 5 ∷ 6 ∷ []) }

c_35 : turn given 0 d35 ≡ d36
unfolding opened
c_35 = refl

abbrev e31 : Entry
e31 = record { time = 0; count = 32; repo = (Some 1); kind = (kinds.Talk None); taken = (Some (record { peer = 0; slot = 0; up = true; epoch = 2; seq = 3; body = (Line t12) })); sent = ((record { peer = 0; slot = 0; up = false; epoch = 2; seq = 3; body = (Line t13) }) ∷ []); lines = ([]) }

abbrev p31 : List Entry
p31 = e31 ∷ p30

abbrev d37 : Driver
d37 = record { past = p31; flights = ((record { to = 0; frame = (record { peer = 1; slot = 0; up = false; epoch = 2; seq = 3; body = (Line t13) }); bytes = [] }) ∷ []); fails = ([]); contents = ((record { repo = 0; key = t1; bytes = c1 }) ∷ (record { repo = 1; key = t1; bytes = c1 }) ∷ (record { repo = 0; key = t0; bytes = c0 }) ∷ []); parts = ([]); largest = 3; tree = ((record { place = 4; path = t2; key = t0 }) ∷ (record { place = 4; path = t3; key = t1 }) ∷ []); marks = (2 ∷ 4 ∷ 4 ∷ 4 ∷ 5 ∷ 6 ∷ []) }

c_36 : turn given 1 d36 ≡ d37
unfolding opened
c_36 = refl

abbrev e32 : Entry
e32 = record { time = 0; count = 33; repo = (Some 0); kind = (kinds.Talk (Some 2)); taken = (Some (record { peer = 1; slot = 0; up = false; epoch = 2; seq = 3; body = (Line t13) })); sent = ((record { peer = 1; slot = 0; up = true; epoch = 2; seq = 4; body = (Line t9) }) ∷ []); lines = ([]) }

abbrev p32 : List Entry
p32 = e32 ∷ p31

abbrev d38 : Driver
d38 = record { past = p32; flights = ((record { to = 1; frame = (record { peer = 0; slot = 0; up = true; epoch = 2; seq = 4; body = (Line t9) }); bytes = [] }) ∷ []); fails = ([]); contents = ((record { repo = 0; key = t1; bytes = c1 }) ∷ (record { repo = 1; key = t1; bytes = c1 }) ∷ (record { repo = 0; key = t0; bytes = c0 }) ∷ []); parts = ([]); largest = 3; tree = ((record { place = 4; path = t2; key = t0 }) ∷ (record { place = 4; path = t3; key = t1 }) ∷ []); marks = (2 ∷ 4 ∷ 4 ∷ 4 ∷ 5 ∷ 6 ∷ []) }

c_37 : turn given 0 d37 ≡ d38
unfolding opened
c_37 = refl

abbrev e33 : Entry
e33 = record { time = 0; count = 34; repo = (Some 1); kind = (kinds.Talk None); taken = (Some (record { peer = 0; slot = 0; up = true; epoch = 2; seq = 4; body = (Line t9) })); sent = ([]); lines = ([]) }

abbrev p33 : List Entry
p33 = e33 ∷ p32

abbrev d39 : Driver
d39 = record { past = p33; flights = ([]); fails = ([]); contents = ((record { repo = 0; key = t1; bytes = c1 }) ∷ (record { repo = 1; key = t1; bytes = c1 }) ∷ (record { repo = 0; key = t0; bytes = c0 }) ∷ []); parts = ([]); largest = 3; tree = ((record { place = 4; path = t2; key = t0 }) ∷ (record { place = 4; path = t3; key = t1 }) ∷ []); marks = (2 ∷ 4 ∷ 4 ∷ 4 ∷ 5 ∷ 6 ∷ []) }

c_38 : turn given 1 d38 ≡ d39
unfolding opened
c_38 = refl

abbrev e34 : Entry
e34 = record { time = 0; count = 35; repo = (Some 0); kind = (kinds.Talk (Some 2)); taken = None; sent = ((record { peer = 1; slot = 0; up = true; epoch = 2; seq = 5; body = (Bytes 3) }) ∷ []); lines = ([]) }

abbrev p34 : List Entry
p34 = e34 ∷ p33

abbrev d40 : Driver
d40 = record { past = p34; flights = ((record { to = 1; frame = (record { peer = 0; slot = 0; up = true; epoch = 2; seq = 5; body = (Bytes 3) }); bytes = c0 }) ∷ []); fails = ([]); contents = ((record { repo = 0; key = t1; bytes = c1 }) ∷ (record { repo = 1; key = t1; bytes = c1 }) ∷ (record { repo = 0; key = t0; bytes = c0 }) ∷ []); parts = ([]); largest = 3; tree = ((record { place = 4; path = t2; key = t0 }) ∷ (record { place = 4; path = t3; key = t1 }) ∷ []); marks = (2 ∷ 4 ∷ 4 ∷ 4 ∷ 5 ∷ 6 ∷ []) }

c_39 : turn given 0 d39 ≡ d40
unfolding opened
c_39 = refl

abbrev e35 : Entry
e35 = record { time = 0; count = 36; repo = (Some 1); kind = (kinds.Talk None); taken = (Some (record { peer = 0; slot = 0; up = true; epoch = 2; seq = 5; body = (Bytes 3) })); sent = ([]); lines = ([]) }

abbrev p35 : List Entry
p35 = e35 ∷ p34

abbrev d41 : Driver
d41 = record { past = p35; flights = ([]); fails = ([]); contents = ((record { repo = 0; key = t1; bytes = c1 }) ∷ (record { repo = 1; key = t1; bytes = c1 }) ∷ (record { repo = 0; key = t0; bytes = c0 }) ∷ []); parts = ((record { repo = 1; key = t0; bytes = c0 }) ∷ []); largest = 3; tree = ((record { place = 4; path = t2; key = t0 }) ∷ (record { place = 4; path = t3; key = t1 }) ∷ []); marks = (2 ∷ 4 ∷ 4 ∷ 4 ∷ 5 ∷ 6 ∷ []) }

c_40 : turn given 1 d40 ≡ d41
unfolding opened
c_40 = refl

abbrev e36 : Entry
e36 = record { time = 0; count = 37; repo = (Some 0); kind = (kinds.Talk (Some 2)); taken = None; sent = ((record { peer = 1; slot = 0; up = true; epoch = 2; seq = 6; body = (Line t10) }) ∷ []); lines = ([]) }

abbrev p36 : List Entry
p36 = e36 ∷ p35

abbrev d42 : Driver
d42 = record { past = p36; flights = ((record { to = 1; frame = (record { peer = 0; slot = 0; up = true; epoch = 2; seq = 6; body = (Line t10) }); bytes = [] }) ∷ []); fails = ([]); contents = ((record { repo = 0; key = t1; bytes = c1 }) ∷ (record { repo = 1; key = t1; bytes = c1 }) ∷ (record { repo = 0; key = t0; bytes = c0 }) ∷ []); parts = ((record { repo = 1; key = t0; bytes = c0 }) ∷ []); largest = 3; tree = ((record { place = 4; path = t2; key = t0 }) ∷ (record { place = 4; path = t3; key = t1 }) ∷ []); marks = (2 ∷ 4 ∷ 4 ∷ 4 ∷ 5 ∷ 6 ∷ []) }

c_41 : turn given 0 d41 ≡ d42
unfolding opened
c_41 = refl

abbrev e37 : Entry
e37 = record { time = 0; count = 38; repo = (Some 1); kind = (kinds.Gain (by.Peer 0 0) 3 t0); taken = (Some (record { peer = 0; slot = 0; up = true; epoch = 2; seq = 6; body = (Line t10) })); sent = ((record { peer = 0; slot = 0; up = false; epoch = 2; seq = 4; body = (Line t11) }) ∷ []); lines = ([]) }

abbrev p37 : List Entry
p37 = e37 ∷ p36

abbrev d43 : Driver
d43 = record { past = p37; flights = ((record { to = 0; frame = (record { peer = 1; slot = 0; up = false; epoch = 2; seq = 4; body = (Line t11) }); bytes = [] }) ∷ []); fails = ([]); contents = ((record { repo = 1; key = t0; bytes = c0 }) ∷ (record { repo = 0; key = t1; bytes = c1 }) ∷ (record { repo = 1; key = t1; bytes = c1 }) ∷ (record { repo = 0; key = t0; bytes = c0 }) ∷ []); parts = ([]); largest = 3; tree = ((record { place = 4; path = t2; key = t0 }) ∷ (record { place = 4; path = t3; key = t1 }) ∷ []); marks = (2 ∷ 4 ∷ 4 ∷ 4 ∷ 5 ∷ 6 ∷ []) }

c_42 : turn given 1 d42 ≡ d43
unfolding opened
c_42 = refl

abbrev e38 : Entry
e38 = record { time = 0; count = 39; repo = (Some 0); kind = (kinds.Talk (Some 2)); taken = (Some (record { peer = 1; slot = 0; up = false; epoch = 2; seq = 4; body = (Line t11) })); sent = ([]); lines = ([]) }

abbrev p38 : List Entry
p38 = e38 ∷ p37

abbrev d44 : Driver
d44 = record { past = p38; flights = ([]); fails = ([]); contents = ((record { repo = 1; key = t0; bytes = c0 }) ∷ (record { repo = 0; key = t1; bytes = c1 }) ∷ (record { repo = 1; key = t1; bytes = c1 }) ∷ (record { repo = 0; key = t0; bytes = c0 }) ∷ []); parts = ([]); largest = 3; tree = ((record { place = 4; path = t2; key = t0 }) ∷ (record { place = 4; path = t3; key = t1 }) ∷ []); marks = (2 ∷ 4 ∷ 4 ∷ 4 ∷ 5 ∷ 6 ∷ []) }

c_43 : turn given 0 d43 ≡ d44
unfolding opened
c_43 = refl

abbrev e39 : Entry
e39 = record { time = 0; count = 40; repo = (Some 1); kind = (kinds.Log (Location t0)); taken = None; sent = ([]); lines = (t20 ∷ []) }

abbrev p39 : List Entry
p39 = e39 ∷ p38

abbrev d45 : Driver
d45 = record { past = p39; flights = ([]); fails = ([]); contents = ((record { repo = 1; key = t0; bytes = c0 }) ∷ (record { repo = 0; key = t1; bytes = c1 }) ∷ (record { repo = 1; key = t1; bytes = c1 }) ∷ (record { repo = 0; key = t0; bytes = c0 }) ∷ []); parts = ([]); largest = 3; tree = ((record { place = 4; path = t2; key = t0 }) ∷ (record { place = 4; path = t3; key = t1 }) ∷ []); marks = (2 ∷ 4 ∷ 4 ∷ 4 ∷ 5 ∷ 6 ∷ []) }

c_44 : turn given 1 d44 ≡ d45
unfolding opened
c_44 = refl

abbrev e40 : Entry
e40 = record { time = 0; count = 41; repo = (Some 0); kind = (kinds.Log (Location t0)); taken = None; sent = ([]); lines = (t20 ∷ []) }

abbrev p40 : List Entry
p40 = e40 ∷ p39

abbrev d46 : Driver
d46 = record { past = p40; flights = ([]); fails = ([]); contents = ((record { repo = 1; key = t0; bytes = c0 }) ∷ (record { repo = 0; key = t1; bytes = c1 }) ∷ (record { repo = 1; key = t1; bytes = c1 }) ∷ (record { repo = 0; key = t0; bytes = c0 }) ∷ []); parts = ([]); largest = 3; tree = ((record { place = 4; path = t2; key = t0 }) ∷ (record { place = 4; path = t3; key = t1 }) ∷ []); marks = (2 ∷ 4 ∷ 4 ∷ 4 ∷ 5 ∷ 6 ∷ []) }

c_45 : turn given 0 d45 ≡ d46
unfolding opened
c_45 = refl

c_46 : turn given 1 d46 ≡ d46
unfolding opened
c_46 = refl

abbrev e41 : Entry
e41 = record { time = 0; count = 42; repo = (Some 0); kind = (kinds.End 2 (outcomes.Copied (Some 0))); taken = None; sent = ((record { peer = 1; slot = 0; up = true; epoch = 2; seq = 7; body = Closing }) ∷ []); lines = ([]) }

abbrev p41 : List Entry
p41 = e41 ∷ p40

abbrev d47 : Driver
d47 = record { past = p41; flights = ((record { to = 1; frame = (record { peer = 0; slot = 0; up = true; epoch = 2; seq = 7; body = Closing }); bytes = [] }) ∷ []); fails = ([]); contents = ((record { repo = 1; key = t0; bytes = c0 }) ∷ (record { repo = 0; key = t1; bytes = c1 }) ∷ (record { repo = 1; key = t1; bytes = c1 }) ∷ (record { repo = 0; key = t0; bytes = c0 }) ∷ []); parts = ([]); largest = 3; tree = ((record { place = 4; path = t2; key = t0 }) ∷ (record { place = 4; path = t3; key = t1 }) ∷ []); marks = (2 ∷ 4 ∷ 4 ∷ 4 ∷ 5 ∷ 6 ∷ []) }

c_47 : turn given 0 d46 ≡ d47
unfolding opened
c_47 = refl

abbrev e42 : Entry
e42 = record { time = 0; count = 43; repo = (Some 1); kind = (kinds.Close 0 0 false); taken = (Some (record { peer = 0; slot = 0; up = true; epoch = 2; seq = 7; body = Closing })); sent = ([]); lines = ([]) }

abbrev p42 : List Entry
p42 = e42 ∷ p41

abbrev d48 : Driver
d48 = record { past = p42; flights = ([]); fails = ([]); contents = ((record { repo = 1; key = t0; bytes = c0 }) ∷ (record { repo = 0; key = t1; bytes = c1 }) ∷ (record { repo = 1; key = t1; bytes = c1 }) ∷ (record { repo = 0; key = t0; bytes = c0 }) ∷ []); parts = ([]); largest = 3; tree = ((record { place = 4; path = t2; key = t0 }) ∷ (record { place = 4; path = t3; key = t1 }) ∷ []); marks = (2 ∷ 4 ∷ 4 ∷ 4 ∷ 5 ∷ 6 ∷ []) }

c_48 : turn given 1 d47 ≡ d48
unfolding opened
c_48 = refl

c_49 : turn given 0 d48 ≡ d48
unfolding opened
c_49 = refl

c_50 : turn given 1 d48 ≡ d48
unfolding opened
c_50 = refl

c_51 : filter (λ action. not (is_transfer action)) (plan_at given 0 d48) ≡ ((actions.DropFrom t1 1) ∷ (actions.DropHere t0) ∷ [])
unfolding opened
c_51 = refl

abbrev e43 : Entry
e43 = record { time = 0; count = 44; repo = (Some 0); kind = (kinds.Begin 3 (record { kind = jobs.Drop; key = t1; path = None; peer = (Some 1) })); taken = None; sent = ([]); lines = ([]) }

abbrev p43 : List Entry
p43 = e43 ∷ p42

abbrev d49 : Driver
d49 = record { past = p43; flights = ([]); fails = ([]); contents = ((record { repo = 1; key = t0; bytes = c0 }) ∷ (record { repo = 0; key = t1; bytes = c1 }) ∷ (record { repo = 1; key = t1; bytes = c1 }) ∷ (record { repo = 0; key = t0; bytes = c0 }) ∷ []); parts = ([]); largest = 3; tree = ((record { place = 4; path = t2; key = t0 }) ∷ (record { place = 4; path = t3; key = t1 }) ∷ []); marks = (2 ∷ 4 ∷ 4 ∷ 4 ∷ 5 ∷ 6 ∷ []) }

c_52 : begins 0 (record { kind = jobs.Drop; key = t1; path = None; peer = (Some 1) }) d48 ≡ d49
unfolding opened
c_52 = refl

abbrev e44 : Entry
e44 = record { time = 0; count = 45; repo = (Some 0); kind = (kinds.Share 26 600000 (by.Job 3) t1); taken = None; sent = ([]); lines = ([]) }

abbrev p44 : List Entry
p44 = e44 ∷ p43

abbrev d50 : Driver
d50 = record { past = p44; flights = ([]); fails = ([]); contents = ((record { repo = 1; key = t0; bytes = c0 }) ∷ (record { repo = 0; key = t1; bytes = c1 }) ∷ (record { repo = 1; key = t1; bytes = c1 }) ∷ (record { repo = 0; key = t0; bytes = c0 }) ∷ []); parts = ([]); largest = 3; tree = ((record { place = 4; path = t2; key = t0 }) ∷ (record { place = 4; path = t3; key = t1 }) ∷ []); marks = (2 ∷ 4 ∷ 4 ∷ 4 ∷ 5 ∷ 6 ∷ []) }

c_53 : turn given 0 d49 ≡ d50
unfolding opened
c_53 = refl

c_54 : turn given 1 d50 ≡ d50
unfolding opened
c_54 = refl

abbrev e45 : Entry
e45 = record { time = 0; count = 46; repo = (Some 0); kind = (kinds.Talk (Some 3)); taken = None; sent = ((record { peer = 1; slot = 0; up = true; epoch = 3; seq = 1; body = Opening }) ∷ []); lines = ([]) }

abbrev p45 : List Entry
p45 = e45 ∷ p44

abbrev d51 : Driver
d51 = record { past = p45; flights = ((record { to = 1; frame = (record { peer = 0; slot = 0; up = true; epoch = 3; seq = 1; body = Opening }); bytes = [] }) ∷ []); fails = ([]); contents = ((record { repo = 1; key = t0; bytes = c0 }) ∷ (record { repo = 0; key = t1; bytes = c1 }) ∷ (record { repo = 1; key = t1; bytes = c1 }) ∷ (record { repo = 0; key = t0; bytes = c0 }) ∷ []); parts = ([]); largest = 3; tree = ((record { place = 4; path = t2; key = t0 }) ∷ (record { place = 4; path = t3; key = t1 }) ∷ []); marks = (2 ∷ 4 ∷ 4 ∷ 4 ∷ 5 ∷ 6 ∷ []) }

c_55 : turn given 0 d50 ≡ d51
unfolding opened
c_55 = refl

abbrev e46 : Entry
e46 = record { time = 0; count = 47; repo = (Some 1); kind = (kinds.Talk None); taken = (Some (record { peer = 0; slot = 0; up = true; epoch = 3; seq = 1; body = Opening })); sent = ((record { peer = 0; slot = 0; up = false; epoch = 3; seq = 1; body = (Line t6) }) ∷ []); lines = ([]) }

abbrev p46 : List Entry
p46 = e46 ∷ p45

abbrev d52 : Driver
d52 = record { past = p46; flights = ((record { to = 0; frame = (record { peer = 1; slot = 0; up = false; epoch = 3; seq = 1; body = (Line t6) }); bytes = [] }) ∷ []); fails = ([]); contents = ((record { repo = 1; key = t0; bytes = c0 }) ∷ (record { repo = 0; key = t1; bytes = c1 }) ∷ (record { repo = 1; key = t1; bytes = c1 }) ∷ (record { repo = 0; key = t0; bytes = c0 }) ∷ []); parts = ([]); largest = 3; tree = ((record { place = 4; path = t2; key = t0 }) ∷ (record { place = 4; path = t3; key = t1 }) ∷ []); marks = (2 ∷ 4 ∷ 4 ∷ 4 ∷ 5 ∷ 6 ∷ []) }

c_56 : turn given 1 d51 ≡ d52
unfolding opened
c_56 = refl

abbrev e47 : Entry
e47 = record { time = 0; count = 48; repo = (Some 0); kind = (kinds.Talk (Some 3)); taken = (Some (record { peer = 1; slot = 0; up = false; epoch = 3; seq = 1; body = (Line t6) })); sent = ((record { peer = 1; slot = 0; up = true; epoch = 3; seq = 2; body = (Line t7) }) ∷ []); lines = ([]) }

abbrev p47 : List Entry
p47 = e47 ∷ p46

abbrev d53 : Driver
d53 = record { past = p47; flights = ((record { to = 1; frame = (record { peer = 0; slot = 0; up = true; epoch = 3; seq = 2; body = (Line t7) }); bytes = [] }) ∷ []); fails = ([]); contents = ((record { repo = 1; key = t0; bytes = c0 }) ∷ (record { repo = 0; key = t1; bytes = c1 }) ∷ (record { repo = 1; key = t1; bytes = c1 }) ∷ (record { repo = 0; key = t0; bytes = c0 }) ∷ []); parts = ([]); largest = 3; tree = ((record { place = 4; path = t2; key = t0 }) ∷ (record { place = 4; path = t3; key = t1 }) ∷ []); marks = (2 ∷ 4 ∷ 4 ∷ 4 ∷ 5 ∷ 6 ∷ []) }

c_57 : turn given 0 d52 ≡ d53
unfolding opened
c_57 = refl

abbrev e48 : Entry
e48 = record { time = 0; count = 49; repo = (Some 1); kind = (kinds.Talk None); taken = (Some (record { peer = 0; slot = 0; up = true; epoch = 3; seq = 2; body = (Line t7) })); sent = ((record { peer = 0; slot = 0; up = false; epoch = 3; seq = 2; body = (Line t7) }) ∷ []); lines = ([]) }

abbrev p48 : List Entry
p48 = e48 ∷ p47

abbrev d54 : Driver
d54 = record { past = p48; flights = ((record { to = 0; frame = (record { peer = 1; slot = 0; up = false; epoch = 3; seq = 2; body = (Line t7) }); bytes = [] }) ∷ []); fails = ([]); contents = ((record { repo = 1; key = t0; bytes = c0 }) ∷ (record { repo = 0; key = t1; bytes = c1 }) ∷ (record { repo = 1; key = t1; bytes = c1 }) ∷ (record { repo = 0; key = t0; bytes = c0 }) ∷ []); parts = ([]); largest = 3; tree = ((record { place = 4; path = t2; key = t0 }) ∷ (record { place = 4; path = t3; key = t1 }) ∷ []); marks = (2 ∷ 4 ∷ 4 ∷ 4 ∷ 5 ∷ 6 ∷ []) }

c_58 : turn given 1 d53 ≡ d54
unfolding opened
c_58 = refl

abbrev e49 : Entry
e49 = record { time = 0; count = 50; repo = (Some 0); kind = (kinds.Talk (Some 3)); taken = (Some (record { peer = 1; slot = 0; up = false; epoch = 3; seq = 2; body = (Line t7) })); sent = ((record { peer = 1; slot = 0; up = true; epoch = 3; seq = 3; body = (Line t14) }) ∷ []); lines = ([]) }

abbrev p49 : List Entry
p49 = e49 ∷ p48

abbrev d55 : Driver
d55 = record { past = p49; flights = ((record { to = 1; frame = (record { peer = 0; slot = 0; up = true; epoch = 3; seq = 3; body = (Line t14) }); bytes = [] }) ∷ []); fails = ([]); contents = ((record { repo = 1; key = t0; bytes = c0 }) ∷ (record { repo = 0; key = t1; bytes = c1 }) ∷ (record { repo = 1; key = t1; bytes = c1 }) ∷ (record { repo = 0; key = t0; bytes = c0 }) ∷ []); parts = ([]); largest = 3; tree = ((record { place = 4; path = t2; key = t0 }) ∷ (record { place = 4; path = t3; key = t1 }) ∷ []); marks = (2 ∷ 4 ∷ 4 ∷ 4 ∷ 5 ∷ 6 ∷ []) }

c_59 : turn given 0 d54 ≡ d55
unfolding opened
c_59 = refl

abbrev e50 : Entry
e50 = record { time = 0; count = 51; repo = (Some 1); kind = (kinds.Talk None); taken = (Some (record { peer = 0; slot = 0; up = true; epoch = 3; seq = 3; body = (Line t14) })); sent = ((record { peer = 0; slot = 0; up = false; epoch = 3; seq = 3; body = (Line t15) }) ∷ []); lines = ([]) }

abbrev p50 : List Entry
p50 = e50 ∷ p49

abbrev d56 : Driver
d56 = record { past = p50; flights = ((record { to = 0; frame = (record { peer = 1; slot = 0; up = false; epoch = 3; seq = 3; body = (Line t15) }); bytes = [] }) ∷ []); fails = ([]); contents = ((record { repo = 1; key = t0; bytes = c0 }) ∷ (record { repo = 0; key = t1; bytes = c1 }) ∷ (record { repo = 1; key = t1; bytes = c1 }) ∷ (record { repo = 0; key = t0; bytes = c0 }) ∷ []); parts = ([]); largest = 3; tree = ((record { place = 4; path = t2; key = t0 }) ∷ (record { place = 4; path = t3; key = t1 }) ∷ []); marks = (2 ∷ 4 ∷ 4 ∷ 4 ∷ 5 ∷ 6 ∷ []) }

c_60 : turn given 1 d55 ≡ d56
unfolding opened
c_60 = refl

abbrev e51 : Entry
e51 = record { time = 0; count = 52; repo = (Some 0); kind = (kinds.Order 3 1 (Some 600) (record { n = 1; m = 1 }) t1); taken = (Some (record { peer = 1; slot = 0; up = false; epoch = 3; seq = 3; body = (Line t15) })); sent = ((record { peer = 1; slot = 0; up = true; epoch = 3; seq = 4; body = (Line t16) }) ∷ []); lines = ([]) }

abbrev p51 : List Entry
p51 = e51 ∷ p50

abbrev d57 : Driver
d57 = record { past = p51; flights = ((record { to = 1; frame = (record { peer = 0; slot = 0; up = true; epoch = 3; seq = 4; body = (Line t16) }); bytes = [] }) ∷ []); fails = ([]); contents = ((record { repo = 1; key = t0; bytes = c0 }) ∷ (record { repo = 0; key = t1; bytes = c1 }) ∷ (record { repo = 1; key = t1; bytes = c1 }) ∷ (record { repo = 0; key = t0; bytes = c0 }) ∷ []); parts = ([]); largest = 3; tree = ((record { place = 4; path = t2; key = t0 }) ∷ (record { place = 4; path = t3; key = t1 }) ∷ []); marks = (2 ∷ 4 ∷ 4 ∷ 4 ∷ 5 ∷ 6 ∷ []) }

c_61 : turn given 0 d56 ≡ d57
unfolding opened
c_61 = refl

abbrev e52 : Entry
e52 = record { time = 0; count = 53; repo = (Some 1); kind = (kinds.Gone (by.Peer 0 0) t1); taken = (Some (record { peer = 0; slot = 0; up = true; epoch = 3; seq = 4; body = (Line t16) })); sent = ((record { peer = 0; slot = 0; up = false; epoch = 3; seq = 4; body = (Line t11) }) ∷ []); lines = ([]) }

abbrev p52 : List Entry
p52 = e52 ∷ p51

abbrev d58 : Driver
d58 = record { past = p52; flights = ((record { to = 0; frame = (record { peer = 1; slot = 0; up = false; epoch = 3; seq = 4; body = (Line t11) }); bytes = [] }) ∷ []); fails = ([]); contents = ((record { repo = 1; key = t0; bytes = c0 }) ∷ (record { repo = 0; key = t1; bytes = c1 }) ∷ (record { repo = 0; key = t0; bytes = c0 }) ∷ []); parts = ([]); largest = 3; tree = ((record { place = 4; path = t2; key = t0 }) ∷ (record { place = 4; path = t3; key = t1 }) ∷ []); marks = (2 ∷ 4 ∷ 4 ∷ 4 ∷ 5 ∷ 6 ∷ []) }

c_62 : turn given 1 d57 ≡ d58
unfolding opened
c_62 = refl

abbrev e53 : Entry
e53 = record { time = 0; count = 54; repo = (Some 0); kind = (kinds.Talk (Some 3)); taken = (Some (record { peer = 1; slot = 0; up = false; epoch = 3; seq = 4; body = (Line t11) })); sent = ([]); lines = ([]) }

abbrev p53 : List Entry
p53 = e53 ∷ p52

abbrev d59 : Driver
d59 = record { past = p53; flights = ([]); fails = ([]); contents = ((record { repo = 1; key = t0; bytes = c0 }) ∷ (record { repo = 0; key = t1; bytes = c1 }) ∷ (record { repo = 0; key = t0; bytes = c0 }) ∷ []); parts = ([]); largest = 3; tree = ((record { place = 4; path = t2; key = t0 }) ∷ (record { place = 4; path = t3; key = t1 }) ∷ []); marks = (2 ∷ 4 ∷ 4 ∷ 4 ∷ 5 ∷ 6 ∷ []) }

c_63 : turn given 0 d58 ≡ d59
unfolding opened
c_63 = refl

abbrev e54 : Entry
e54 = record { time = 0; count = 55; repo = (Some 1); kind = (kinds.Log (Location t1)); taken = None; sent = ([]); lines = (t23 ∷ []) }

abbrev p54 : List Entry
p54 = e54 ∷ p53

abbrev d60 : Driver
d60 = record { past = p54; flights = ([]); fails = ([]); contents = ((record { repo = 1; key = t0; bytes = c0 }) ∷ (record { repo = 0; key = t1; bytes = c1 }) ∷ (record { repo = 0; key = t0; bytes = c0 }) ∷ []); parts = ([]); largest = 3; tree = ((record { place = 4; path = t2; key = t0 }) ∷ (record { place = 4; path = t3; key = t1 }) ∷ []); marks = (2 ∷ 4 ∷ 4 ∷ 4 ∷ 5 ∷ 6 ∷ []) }

c_64 : turn given 1 d59 ≡ d60
unfolding opened
c_64 = refl

abbrev e55 : Entry
e55 = record { time = 0; count = 56; repo = (Some 0); kind = (kinds.Log (Location t1)); taken = None; sent = ([]); lines = (t23 ∷ []) }

abbrev p55 : List Entry
p55 = e55 ∷ p54

abbrev d61 : Driver
d61 = record { past = p55; flights = ([]); fails = ([]); contents = ((record { repo = 1; key = t0; bytes = c0 }) ∷ (record { repo = 0; key = t1; bytes = c1 }) ∷ (record { repo = 0; key = t0; bytes = c0 }) ∷ []); parts = ([]); largest = 3; tree = ((record { place = 4; path = t2; key = t0 }) ∷ (record { place = 4; path = t3; key = t1 }) ∷ []); marks = (2 ∷ 4 ∷ 4 ∷ 4 ∷ 5 ∷ 6 ∷ []) }

c_65 : turn given 0 d60 ≡ d61
unfolding opened
c_65 = refl

c_66 : turn given 1 d61 ≡ d61
unfolding opened
c_66 = refl

abbrev e56 : Entry
e56 = record { time = 0; count = 57; repo = (Some 0); kind = (kinds.End 3 (outcomes.Dropped (record { need = (record { n = 1; m = 1 }); locked = (0 ∷ []); trusted = ([]); recent = ([]) }))); taken = None; sent = ((record { peer = 1; slot = 0; up = true; epoch = 3; seq = 5; body = Closing }) ∷ []); lines = ([]) }

abbrev p56 : List Entry
p56 = e56 ∷ p55

abbrev d62 : Driver
d62 = record { past = p56; flights = ((record { to = 1; frame = (record { peer = 0; slot = 0; up = true; epoch = 3; seq = 5; body = Closing }); bytes = [] }) ∷ []); fails = ([]); contents = ((record { repo = 1; key = t0; bytes = c0 }) ∷ (record { repo = 0; key = t1; bytes = c1 }) ∷ (record { repo = 0; key = t0; bytes = c0 }) ∷ []); parts = ([]); largest = 3; tree = ((record { place = 4; path = t2; key = t0 }) ∷ (record { place = 4; path = t3; key = t1 }) ∷ []); marks = (2 ∷ 4 ∷ 4 ∷ 4 ∷ 5 ∷ 6 ∷ []) }

c_67 : turn given 0 d61 ≡ d62
unfolding opened
c_67 = refl

abbrev e57 : Entry
e57 = record { time = 0; count = 58; repo = (Some 1); kind = (kinds.Close 0 0 false); taken = (Some (record { peer = 0; slot = 0; up = true; epoch = 3; seq = 5; body = Closing })); sent = ([]); lines = ([]) }

abbrev p57 : List Entry
p57 = e57 ∷ p56

abbrev d63 : Driver
d63 = record { past = p57; flights = ([]); fails = ([]); contents = ((record { repo = 1; key = t0; bytes = c0 }) ∷ (record { repo = 0; key = t1; bytes = c1 }) ∷ (record { repo = 0; key = t0; bytes = c0 }) ∷ []); parts = ([]); largest = 3; tree = ((record { place = 4; path = t2; key = t0 }) ∷ (record { place = 4; path = t3; key = t1 }) ∷ []); marks = (2 ∷ 4 ∷ 4 ∷ 4 ∷ 5 ∷ 6 ∷ []) }

c_68 : turn given 1 d62 ≡ d63
unfolding opened
c_68 = refl

c_69 : turn given 0 d63 ≡ d63
unfolding opened
c_69 = refl

c_70 : turn given 1 d63 ≡ d63
unfolding opened
c_70 = refl

abbrev e58 : Entry
e58 = record { time = 0; count = 59; repo = (Some 0); kind = (kinds.Begin 4 (record { kind = jobs.Drop; key = t0; path = None; peer = None })); taken = None; sent = ([]); lines = ([]) }

abbrev p58 : List Entry
p58 = e58 ∷ p57

abbrev d64 : Driver
d64 = record { past = p58; flights = ([]); fails = ([]); contents = ((record { repo = 1; key = t0; bytes = c0 }) ∷ (record { repo = 0; key = t1; bytes = c1 }) ∷ (record { repo = 0; key = t0; bytes = c0 }) ∷ []); parts = ([]); largest = 3; tree = ((record { place = 4; path = t2; key = t0 }) ∷ (record { place = 4; path = t3; key = t1 }) ∷ []); marks = (2 ∷ 4 ∷ 4 ∷ 4 ∷ 5 ∷ 6 ∷ []) }

c_71 : begins 0 (record { kind = jobs.Drop; key = t0; path = None; peer = None }) d63 ≡ d64
unfolding opened
c_71 = refl

abbrev e59 : Entry
e59 = record { time = 0; count = 60; repo = (Some 0); kind = (kinds.Bar 4 (record { n = 1; m = 1 }) t0); taken = None; sent = ([]); lines = ([]) }

abbrev p59 : List Entry
p59 = e59 ∷ p58

abbrev d65 : Driver
d65 = record { past = p59; flights = ([]); fails = ([]); contents = ((record { repo = 1; key = t0; bytes = c0 }) ∷ (record { repo = 0; key = t1; bytes = c1 }) ∷ (record { repo = 0; key = t0; bytes = c0 }) ∷ []); parts = ([]); largest = 3; tree = ((record { place = 4; path = t2; key = t0 }) ∷ (record { place = 4; path = t3; key = t1 }) ∷ []); marks = (2 ∷ 4 ∷ 4 ∷ 4 ∷ 5 ∷ 6 ∷ []) }

c_72 : turn given 0 d64 ≡ d65
unfolding opened
c_72 = refl

c_73 : turn given 1 d65 ≡ d65
unfolding opened
c_73 = refl

abbrev e60 : Entry
e60 = record { time = 0; count = 61; repo = (Some 0); kind = (kinds.Talk (Some 4)); taken = None; sent = ((record { peer = 1; slot = 0; up = true; epoch = 4; seq = 1; body = Opening }) ∷ []); lines = ([]) }

abbrev p60 : List Entry
p60 = e60 ∷ p59

abbrev d66 : Driver
d66 = record { past = p60; flights = ((record { to = 1; frame = (record { peer = 0; slot = 0; up = true; epoch = 4; seq = 1; body = Opening }); bytes = [] }) ∷ []); fails = ([]); contents = ((record { repo = 1; key = t0; bytes = c0 }) ∷ (record { repo = 0; key = t1; bytes = c1 }) ∷ (record { repo = 0; key = t0; bytes = c0 }) ∷ []); parts = ([]); largest = 3; tree = ((record { place = 4; path = t2; key = t0 }) ∷ (record { place = 4; path = t3; key = t1 }) ∷ []); marks = (2 ∷ 4 ∷ 4 ∷ 4 ∷ 5 ∷ 6 ∷ []) }

c_74 : turn given 0 d65 ≡ d66
unfolding opened
c_74 = refl

abbrev e61 : Entry
e61 = record { time = 0; count = 62; repo = (Some 1); kind = (kinds.Talk None); taken = (Some (record { peer = 0; slot = 0; up = true; epoch = 4; seq = 1; body = Opening })); sent = ((record { peer = 0; slot = 0; up = false; epoch = 4; seq = 1; body = (Line t6) }) ∷ []); lines = ([]) }

abbrev p61 : List Entry
p61 = e61 ∷ p60

abbrev d67 : Driver
d67 = record { past = p61; flights = ((record { to = 0; frame = (record { peer = 1; slot = 0; up = false; epoch = 4; seq = 1; body = (Line t6) }); bytes = [] }) ∷ []); fails = ([]); contents = ((record { repo = 1; key = t0; bytes = c0 }) ∷ (record { repo = 0; key = t1; bytes = c1 }) ∷ (record { repo = 0; key = t0; bytes = c0 }) ∷ []); parts = ([]); largest = 3; tree = ((record { place = 4; path = t2; key = t0 }) ∷ (record { place = 4; path = t3; key = t1 }) ∷ []); marks = (2 ∷ 4 ∷ 4 ∷ 4 ∷ 5 ∷ 6 ∷ []) }

c_75 : turn given 1 d66 ≡ d67
unfolding opened
c_75 = refl

abbrev e62 : Entry
e62 = record { time = 0; count = 63; repo = (Some 0); kind = (kinds.Talk (Some 4)); taken = (Some (record { peer = 1; slot = 0; up = false; epoch = 4; seq = 1; body = (Line t6) })); sent = ((record { peer = 1; slot = 0; up = true; epoch = 4; seq = 2; body = (Line t7) }) ∷ []); lines = ([]) }

abbrev p62 : List Entry
p62 = e62 ∷ p61

abbrev d68 : Driver
d68 = record { past = p62; flights = ((record { to = 1; frame = (record { peer = 0; slot = 0; up = true; epoch = 4; seq = 2; body = (Line t7) }); bytes = [] }) ∷ []); fails = ([]); contents = ((record { repo = 1; key = t0; bytes = c0 }) ∷ (record { repo = 0; key = t1; bytes = c1 }) ∷ (record { repo = 0; key = t0; bytes = c0 }) ∷ []); parts = ([]); largest = 3; tree = ((record { place = 4; path = t2; key = t0 }) ∷ (record { place = 4; path = t3; key = t1 }) ∷ []); marks = (2 ∷ 4 ∷ 4 ∷ 4 ∷ 5 ∷ 6 ∷ []) }

c_76 : turn given 0 d67 ≡ d68
unfolding opened
c_76 = refl

abbrev e63 : Entry
e63 = record { time = 0; count = 64; repo = (Some 1); kind = (kinds.Talk None); taken = (Some (record { peer = 0; slot = 0; up = true; epoch = 4; seq = 2; body = (Line t7) })); sent = ((record { peer = 0; slot = 0; up = false; epoch = 4; seq = 2; body = (Line t7) }) ∷ []); lines = ([]) }

abbrev p63 : List Entry
p63 = e63 ∷ p62

abbrev d69 : Driver
d69 = record { past = p63; flights = ((record { to = 0; frame = (record { peer = 1; slot = 0; up = false; epoch = 4; seq = 2; body = (Line t7) }); bytes = [] }) ∷ []); fails = ([]); contents = ((record { repo = 1; key = t0; bytes = c0 }) ∷ (record { repo = 0; key = t1; bytes = c1 }) ∷ (record { repo = 0; key = t0; bytes = c0 }) ∷ []); parts = ([]); largest = 3; tree = ((record { place = 4; path = t2; key = t0 }) ∷ (record { place = 4; path = t3; key = t1 }) ∷ []); marks = (2 ∷ 4 ∷ 4 ∷ 4 ∷ 5 ∷ 6 ∷ []) }

c_77 : turn given 1 d68 ≡ d69
unfolding opened
c_77 = refl

abbrev e64 : Entry
e64 = record { time = 0; count = 65; repo = (Some 0); kind = (kinds.Talk (Some 4)); taken = (Some (record { peer = 1; slot = 0; up = false; epoch = 4; seq = 2; body = (Line t7) })); sent = ((record { peer = 1; slot = 0; up = true; epoch = 4; seq = 3; body = (Line t17) }) ∷ []); lines = ([]) }

abbrev p64 : List Entry
p64 = e64 ∷ p63

abbrev d70 : Driver
d70 = record { past = p64; flights = ((record { to = 1; frame = (record { peer = 0; slot = 0; up = true; epoch = 4; seq = 3; body = (Line t17) }); bytes = [] }) ∷ []); fails = ([]); contents = ((record { repo = 1; key = t0; bytes = c0 }) ∷ (record { repo = 0; key = t1; bytes = c1 }) ∷ (record { repo = 0; key = t0; bytes = c0 }) ∷ []); parts = ([]); largest = 3; tree = ((record { place = 4; path = t2; key = t0 }) ∷ (record { place = 4; path = t3; key = t1 }) ∷ []); marks = (2 ∷ 4 ∷ 4 ∷ 4 ∷ 5 ∷ 6 ∷ []) }

c_78 : turn given 0 d69 ≡ d70
unfolding opened
c_78 = refl

abbrev e65 : Entry
e65 = record { time = 0; count = 66; repo = (Some 1); kind = (kinds.Share 28 600000 (by.Peer 0 0) t0); taken = (Some (record { peer = 0; slot = 0; up = true; epoch = 4; seq = 3; body = (Line t17) })); sent = ((record { peer = 0; slot = 0; up = false; epoch = 4; seq = 3; body = (Line t11) }) ∷ []); lines = ([]) }

abbrev p65 : List Entry
p65 = e65 ∷ p64

abbrev d71 : Driver
d71 = record { past = p65; flights = ((record { to = 0; frame = (record { peer = 1; slot = 0; up = false; epoch = 4; seq = 3; body = (Line t11) }); bytes = [] }) ∷ []); fails = ([]); contents = ((record { repo = 1; key = t0; bytes = c0 }) ∷ (record { repo = 0; key = t1; bytes = c1 }) ∷ (record { repo = 0; key = t0; bytes = c0 }) ∷ []); parts = ([]); largest = 3; tree = ((record { place = 4; path = t2; key = t0 }) ∷ (record { place = 4; path = t3; key = t1 }) ∷ []); marks = (2 ∷ 4 ∷ 4 ∷ 4 ∷ 5 ∷ 6 ∷ []) }

c_79 : turn given 1 d70 ≡ d71
unfolding opened
c_79 = refl

abbrev e66 : Entry
e66 = record { time = 0; count = 67; repo = (Some 0); kind = (kinds.Talk (Some 4)); taken = (Some (record { peer = 1; slot = 0; up = false; epoch = 4; seq = 3; body = (Line t11) })); sent = ([]); lines = ([]) }

abbrev p66 : List Entry
p66 = e66 ∷ p65

abbrev d72 : Driver
d72 = record { past = p66; flights = ([]); fails = ([]); contents = ((record { repo = 1; key = t0; bytes = c0 }) ∷ (record { repo = 0; key = t1; bytes = c1 }) ∷ (record { repo = 0; key = t0; bytes = c0 }) ∷ []); parts = ([]); largest = 3; tree = ((record { place = 4; path = t2; key = t0 }) ∷ (record { place = 4; path = t3; key = t1 }) ∷ []); marks = (2 ∷ 4 ∷ 4 ∷ 4 ∷ 5 ∷ 6 ∷ []) }

c_80 : turn given 0 d71 ≡ d72
unfolding opened
c_80 = refl

c_81 : turn given 1 d72 ≡ d72
unfolding opened
c_81 = refl

abbrev e67 : Entry
e67 = record { time = 0; count = 68; repo = (Some 0); kind = (kinds.Gone (by.Job 4) t0); taken = None; sent = ([]); lines = ([]) }

abbrev p67 : List Entry
p67 = e67 ∷ p66

abbrev d73 : Driver
d73 = record { past = p67; flights = ([]); fails = ([]); contents = ((record { repo = 1; key = t0; bytes = c0 }) ∷ (record { repo = 0; key = t1; bytes = c1 }) ∷ []); parts = ([]); largest = 3; tree = ((record { place = 4; path = t2; key = t0 }) ∷ (record { place = 4; path = t3; key = t1 }) ∷ []); marks = (2 ∷ 4 ∷ 4 ∷ 4 ∷ 5 ∷ 6 ∷ []) }

c_82 : turn given 0 d72 ≡ d73
unfolding opened
c_82 = refl

c_83 : turn given 1 d73 ≡ d73
unfolding opened
c_83 = refl

abbrev e68 : Entry
e68 = record { time = 0; count = 69; repo = (Some 0); kind = (kinds.Log (Location t0)); taken = None; sent = ([]); lines = (t24 ∷ []) }

abbrev p68 : List Entry
p68 = e68 ∷ p67

abbrev d74 : Driver
d74 = record { past = p68; flights = ([]); fails = ([]); contents = ((record { repo = 1; key = t0; bytes = c0 }) ∷ (record { repo = 0; key = t1; bytes = c1 }) ∷ []); parts = ([]); largest = 3; tree = ((record { place = 4; path = t2; key = t0 }) ∷ (record { place = 4; path = t3; key = t1 }) ∷ []); marks = (2 ∷ 4 ∷ 4 ∷ 4 ∷ 5 ∷ 6 ∷ []) }

c_84 : turn given 0 d73 ≡ d74
unfolding opened
c_84 = refl

c_85 : turn given 1 d74 ≡ d74
unfolding opened
c_85 = refl

abbrev e69 : Entry
e69 = record { time = 0; count = 70; repo = (Some 0); kind = (kinds.End 4 (outcomes.Dropped (record { need = (record { n = 1; m = 1 }); locked = (1 ∷ []); trusted = ([]); recent = ([]) }))); taken = None; sent = ((record { peer = 1; slot = 0; up = true; epoch = 4; seq = 4; body = (Line t18) }) ∷ (record { peer = 1; slot = 0; up = true; epoch = 4; seq = 5; body = Closing }) ∷ []); lines = ([]) }

abbrev p69 : List Entry
p69 = e69 ∷ p68

abbrev d75 : Driver
d75 = record { past = p69; flights = ((record { to = 1; frame = (record { peer = 0; slot = 0; up = true; epoch = 4; seq = 4; body = (Line t18) }); bytes = [] }) ∷ (record { to = 1; frame = (record { peer = 0; slot = 0; up = true; epoch = 4; seq = 5; body = Closing }); bytes = [] }) ∷ []); fails = ([]); contents = ((record { repo = 1; key = t0; bytes = c0 }) ∷ (record { repo = 0; key = t1; bytes = c1 }) ∷ []); parts = ([]); largest = 3; tree = ((record { place = 4; path = t2; key = t0 }) ∷ (record { place = 4; path = t3; key = t1 }) ∷ []); marks = (2 ∷ 4 ∷ 4 ∷ 4 ∷ 5 ∷ 6 ∷ []) }

c_86 : turn given 0 d74 ≡ d75
unfolding opened
c_86 = refl

abbrev e70 : Entry
e70 = record { time = 0; count = 71; repo = (Some 1); kind = (kinds.Release 28 t0); taken = (Some (record { peer = 0; slot = 0; up = true; epoch = 4; seq = 4; body = (Line t18) })); sent = ([]); lines = ([]) }

abbrev p70 : List Entry
p70 = e70 ∷ p69

abbrev d76 : Driver
d76 = record { past = p70; flights = ((record { to = 1; frame = (record { peer = 0; slot = 0; up = true; epoch = 4; seq = 5; body = Closing }); bytes = [] }) ∷ []); fails = ([]); contents = ((record { repo = 1; key = t0; bytes = c0 }) ∷ (record { repo = 0; key = t1; bytes = c1 }) ∷ []); parts = ([]); largest = 3; tree = ((record { place = 4; path = t2; key = t0 }) ∷ (record { place = 4; path = t3; key = t1 }) ∷ []); marks = (2 ∷ 4 ∷ 4 ∷ 4 ∷ 5 ∷ 6 ∷ []) }

c_87 : turn given 1 d75 ≡ d76
unfolding opened
c_87 = refl

c_88 : turn given 0 d76 ≡ d76
unfolding opened
c_88 = refl

abbrev e71 : Entry
e71 = record { time = 0; count = 72; repo = (Some 1); kind = (kinds.Close 0 0 false); taken = (Some (record { peer = 0; slot = 0; up = true; epoch = 4; seq = 5; body = Closing })); sent = ([]); lines = ([]) }

abbrev p71 : List Entry
p71 = e71 ∷ p70

abbrev d77 : Driver
d77 = record { past = p71; flights = ([]); fails = ([]); contents = ((record { repo = 1; key = t0; bytes = c0 }) ∷ (record { repo = 0; key = t1; bytes = c1 }) ∷ []); parts = ([]); largest = 3; tree = ((record { place = 4; path = t2; key = t0 }) ∷ (record { place = 4; path = t3; key = t1 }) ∷ []); marks = (2 ∷ 4 ∷ 4 ∷ 4 ∷ 5 ∷ 6 ∷ []) }

c_89 : turn given 1 d76 ≡ d77
unfolding opened
c_89 = refl

c_90 : turn given 0 d77 ≡ d77
unfolding opened
c_90 = refl

c_91 : turn given 1 d77 ≡ d77
unfolding opened
c_91 = refl

c_92 : merges 0 1 d77 ≡ d77
unfolding opened
c_92 = refl

abbrev e72 : Entry
e72 = record { time = 0; count = 73; repo = (Some 1); kind = (kinds.Log (Location t1)); taken = None; sent = ([]); lines = (t19 ∷ []) }

abbrev p72 : List Entry
p72 = e72 ∷ p71

abbrev e73 : Entry
e73 = record { time = 0; count = 74; repo = (Some 1); kind = (kinds.Log (Location t0)); taken = None; sent = ([]); lines = (t24 ∷ []) }

abbrev p73 : List Entry
p73 = e73 ∷ p72

abbrev d78 : Driver
d78 = record { past = p73; flights = ([]); fails = ([]); contents = ((record { repo = 1; key = t0; bytes = c0 }) ∷ (record { repo = 0; key = t1; bytes = c1 }) ∷ []); parts = ([]); largest = 3; tree = ((record { place = 4; path = t2; key = t0 }) ∷ (record { place = 4; path = t3; key = t1 }) ∷ []); marks = (2 ∷ 4 ∷ 4 ∷ 4 ∷ 5 ∷ 6 ∷ []) }

c_93 : merges 1 0 d77 ≡ d78
unfolding opened
c_93 = refl

line6 : does given l6 d12 ≡ d78
line6 = syncs_by given 0 ((actions.Get t1) ∷ (actions.Put t0 1) ∷ []) ((actions.DropFrom t1 1) ∷ (actions.DropHere t0) ∷ []) d12 d14 d48 d77 d78 (shares_by given 0 (1 ∷ []) d12 d12 d13 d14 refl (settles_by given 2 d12 (record { driver = d12; idle = 2 }) (ap (goes given 1) (came given 0 d12 d12 refl (ap (turns_of given (1 ∷ [])) c_6 ∙ ap (turns_of given ([])) c_7)) ∙ (ap (goes given 0) (came given 1 d12 d12 refl (ap (turns_of given (1 ∷ [])) c_6 ∙ ap (turns_of given ([])) c_7)) ∙ (refl))) refl (omega arith)) (ap (merges_each 0 ([])) c_8) (ap (each_merges 0 ([])) c_9)) c_10 (carried_by given 0 (actions.Get t1) ((actions.Put t0 1) ∷ []) d14 d15 d30 d48 c_11 (settles_by given 10 d15 (record { driver = d30; idle = 2 }) (ap (goes given 9) (came given 0 d15 d17 refl (ap (turns_of given (1 ∷ [])) c_12 ∙ ap (turns_of given ([])) c_13)) ∙ (ap (goes given 8) (came given 0 d17 d19 refl (ap (turns_of given (1 ∷ [])) c_14 ∙ ap (turns_of given ([])) c_15)) ∙ (ap (goes given 7) (came given 0 d19 d21 refl (ap (turns_of given (1 ∷ [])) c_16 ∙ ap (turns_of given ([])) c_17)) ∙ (ap (goes given 6) (came given 0 d21 d23 refl (ap (turns_of given (1 ∷ [])) c_18 ∙ ap (turns_of given ([])) c_19)) ∙ (ap (goes given 5) (came given 0 d23 d25 refl (ap (turns_of given (1 ∷ [])) c_20 ∙ ap (turns_of given ([])) c_21)) ∙ (ap (goes given 4) (came given 0 d25 d27 refl (ap (turns_of given (1 ∷ [])) c_22 ∙ ap (turns_of given ([])) c_23)) ∙ (ap (goes given 3) (came given 0 d27 d28 refl (ap (turns_of given (1 ∷ [])) c_24 ∙ ap (turns_of given ([])) c_25)) ∙ (ap (goes given 2) (came given 0 d28 d30 refl (ap (turns_of given (1 ∷ [])) c_26 ∙ ap (turns_of given ([])) c_27)) ∙ (ap (goes given 1) (came given 0 d30 d30 refl (ap (turns_of given (1 ∷ [])) c_28 ∙ ap (turns_of given ([])) c_29)) ∙ (ap (goes given 0) (came given 1 d30 d30 refl (ap (turns_of given (1 ∷ [])) c_28 ∙ ap (turns_of given ([])) c_29)) ∙ (refl))))))))))) refl (omega arith)) (carried_by given 0 (actions.Put t0 1) ([]) d30 d31 d48 d48 c_30 (settles_by given 11 d31 (record { driver = d48; idle = 2 }) (ap (goes given 10) (came given 0 d31 d33 refl (ap (turns_of given (1 ∷ [])) c_31 ∙ ap (turns_of given ([])) c_32)) ∙ (ap (goes given 9) (came given 0 d33 d35 refl (ap (turns_of given (1 ∷ [])) c_33 ∙ ap (turns_of given ([])) c_34)) ∙ (ap (goes given 8) (came given 0 d35 d37 refl (ap (turns_of given (1 ∷ [])) c_35 ∙ ap (turns_of given ([])) c_36)) ∙ (ap (goes given 7) (came given 0 d37 d39 refl (ap (turns_of given (1 ∷ [])) c_37 ∙ ap (turns_of given ([])) c_38)) ∙ (ap (goes given 6) (came given 0 d39 d41 refl (ap (turns_of given (1 ∷ [])) c_39 ∙ ap (turns_of given ([])) c_40)) ∙ (ap (goes given 5) (came given 0 d41 d43 refl (ap (turns_of given (1 ∷ [])) c_41 ∙ ap (turns_of given ([])) c_42)) ∙ (ap (goes given 4) (came given 0 d43 d45 refl (ap (turns_of given (1 ∷ [])) c_43 ∙ ap (turns_of given ([])) c_44)) ∙ (ap (goes given 3) (came given 0 d45 d46 refl (ap (turns_of given (1 ∷ [])) c_45 ∙ ap (turns_of given ([])) c_46)) ∙ (ap (goes given 2) (came given 0 d46 d48 refl (ap (turns_of given (1 ∷ [])) c_47 ∙ ap (turns_of given ([])) c_48)) ∙ (ap (goes given 1) (came given 0 d48 d48 refl (ap (turns_of given (1 ∷ [])) c_49 ∙ ap (turns_of given ([])) c_50)) ∙ (ap (goes given 0) (came given 1 d48 d48 refl (ap (turns_of given (1 ∷ [])) c_49 ∙ ap (turns_of given ([])) c_50)) ∙ (refl)))))))))))) refl (omega arith)) (refl))) c_51 (carried_by given 0 (actions.DropFrom t1 1) ((actions.DropHere t0) ∷ []) d48 d49 d63 d77 c_52 (settles_by given 10 d49 (record { driver = d63; idle = 2 }) (ap (goes given 9) (came given 0 d49 d50 refl (ap (turns_of given (1 ∷ [])) c_53 ∙ ap (turns_of given ([])) c_54)) ∙ (ap (goes given 8) (came given 0 d50 d52 refl (ap (turns_of given (1 ∷ [])) c_55 ∙ ap (turns_of given ([])) c_56)) ∙ (ap (goes given 7) (came given 0 d52 d54 refl (ap (turns_of given (1 ∷ [])) c_57 ∙ ap (turns_of given ([])) c_58)) ∙ (ap (goes given 6) (came given 0 d54 d56 refl (ap (turns_of given (1 ∷ [])) c_59 ∙ ap (turns_of given ([])) c_60)) ∙ (ap (goes given 5) (came given 0 d56 d58 refl (ap (turns_of given (1 ∷ [])) c_61 ∙ ap (turns_of given ([])) c_62)) ∙ (ap (goes given 4) (came given 0 d58 d60 refl (ap (turns_of given (1 ∷ [])) c_63 ∙ ap (turns_of given ([])) c_64)) ∙ (ap (goes given 3) (came given 0 d60 d61 refl (ap (turns_of given (1 ∷ [])) c_65 ∙ ap (turns_of given ([])) c_66)) ∙ (ap (goes given 2) (came given 0 d61 d63 refl (ap (turns_of given (1 ∷ [])) c_67 ∙ ap (turns_of given ([])) c_68)) ∙ (ap (goes given 1) (came given 0 d63 d63 refl (ap (turns_of given (1 ∷ [])) c_69 ∙ ap (turns_of given ([])) c_70)) ∙ (ap (goes given 0) (came given 1 d63 d63 refl (ap (turns_of given (1 ∷ [])) c_69 ∙ ap (turns_of given ([])) c_70)) ∙ (refl))))))))))) refl (omega arith)) (carried_by given 0 (actions.DropHere t0) ([]) d63 d64 d77 d77 c_71 (settles_by given 11 d64 (record { driver = d77; idle = 2 }) (ap (goes given 10) (came given 0 d64 d65 refl (ap (turns_of given (1 ∷ [])) c_72 ∙ ap (turns_of given ([])) c_73)) ∙ (ap (goes given 9) (came given 0 d65 d67 refl (ap (turns_of given (1 ∷ [])) c_74 ∙ ap (turns_of given ([])) c_75)) ∙ (ap (goes given 8) (came given 0 d67 d69 refl (ap (turns_of given (1 ∷ [])) c_76 ∙ ap (turns_of given ([])) c_77)) ∙ (ap (goes given 7) (came given 0 d69 d71 refl (ap (turns_of given (1 ∷ [])) c_78 ∙ ap (turns_of given ([])) c_79)) ∙ (ap (goes given 6) (came given 0 d71 d72 refl (ap (turns_of given (1 ∷ [])) c_80 ∙ ap (turns_of given ([])) c_81)) ∙ (ap (goes given 5) (came given 0 d72 d73 refl (ap (turns_of given (1 ∷ [])) c_82 ∙ ap (turns_of given ([])) c_83)) ∙ (ap (goes given 4) (came given 0 d73 d74 refl (ap (turns_of given (1 ∷ [])) c_84 ∙ ap (turns_of given ([])) c_85)) ∙ (ap (goes given 3) (came given 0 d74 d76 refl (ap (turns_of given (1 ∷ [])) c_86 ∙ ap (turns_of given ([])) c_87)) ∙ (ap (goes given 2) (came given 0 d76 d77 refl (ap (turns_of given (1 ∷ [])) c_88 ∙ ap (turns_of given ([])) c_89)) ∙ (ap (goes given 1) (came given 0 d77 d77 refl (ap (turns_of given (1 ∷ [])) c_90 ∙ ap (turns_of given ([])) c_91)) ∙ (ap (goes given 0) (came given 1 d77 d77 refl (ap (turns_of given (1 ∷ [])) c_90 ∙ ap (turns_of given ([])) c_91)) ∙ (refl)))))))))))) refl (omega arith)) (refl))) (shares_by given 0 (1 ∷ []) d77 d77 d77 d78 refl (settles_by given 2 d77 (record { driver = d77; idle = 2 }) (ap (goes given 1) (came given 0 d77 d77 refl (ap (turns_of given (1 ∷ [])) c_90 ∙ ap (turns_of given ([])) c_91)) ∙ (ap (goes given 0) (came given 1 d77 d77 refl (ap (turns_of given (1 ∷ [])) c_90 ∙ ap (turns_of given ([])) c_91)) ∙ (refl))) refl (omega arith)) (ap (merges_each 0 ([])) c_92) (ap (each_merges 0 ([])) c_93))

abbrev d79 : Driver
d79 = record { past = p73; flights = ([]); fails = ([]); contents = ((record { repo = 1; key = t0; bytes = c0 }) ∷ (record { repo = 0; key = t1; bytes = c1 }) ∷ []); parts = ([]); largest = 3; tree = ((record { place = 4; path = t2; key = t0 }) ∷ (record { place = 4; path = t3; key = t1 }) ∷ []); marks = (2 ∷ 4 ∷ 4 ∷ 4 ∷ 5 ∷ 6 ∷ 74 ∷ []) }

abbrev made : Run
made = record { repos = repos; entries = (e0 ∷ e1 ∷ e2 ∷ e3 ∷ e4 ∷ e5 ∷ e6 ∷ e7 ∷ e8 ∷ e9 ∷ e10 ∷ e11 ∷ e12 ∷ e13 ∷ e14 ∷ e15 ∷ e16 ∷ e17 ∷ e18 ∷ e19 ∷ e20 ∷ e21 ∷ e22 ∷ e23 ∷ e24 ∷ e25 ∷ e26 ∷ e27 ∷ e28 ∷ e29 ∷ e30 ∷ e31 ∷ e32 ∷ e33 ∷ e34 ∷ e35 ∷ e36 ∷ e37 ∷ e38 ∷ e39 ∷ e40 ∷ e41 ∷ e42 ∷ e43 ∷ e44 ∷ e45 ∷ e46 ∷ e47 ∷ e48 ∷ e49 ∷ e50 ∷ e51 ∷ e52 ∷ e53 ∷ e54 ∷ e55 ∷ e56 ∷ e57 ∷ e58 ∷ e59 ∷ e60 ∷ e61 ∷ e62 ∷ e63 ∷ e64 ∷ e65 ∷ e66 ∷ e67 ∷ e68 ∷ e69 ∷ e70 ∷ e71 ∷ e72 ∷ e73 ∷ []); tree = ((record { place = 4; path = t2; key = t0 }) ∷ (record { place = 4; path = t3; key = t1 }) ∷ []); marks = (2 ∷ 4 ∷ 4 ∷ 4 ∷ 5 ∷ 6 ∷ 74 ∷ []) }

all : drives given (l0 ∷ l1 ∷ l2 ∷ l3 ∷ l4 ∷ l5 ∷ l6 ∷ []) at_first ≡ d79
all = ap (λ d. drives given (l1 ∷ l2 ∷ l3 ∷ l4 ∷ l5 ∷ l6 ∷ []) (with_mark d)) line0 ∙ ap (λ d. drives given (l2 ∷ l3 ∷ l4 ∷ l5 ∷ l6 ∷ []) (with_mark d)) line1 ∙ ap (λ d. drives given (l3 ∷ l4 ∷ l5 ∷ l6 ∷ []) (with_mark d)) line2 ∙ ap (λ d. drives given (l4 ∷ l5 ∷ l6 ∷ []) (with_mark d)) line3 ∙ ap (λ d. drives given (l5 ∷ l6 ∷ []) (with_mark d)) line4 ∙ ap (λ d. drives given (l6 ∷ []) (with_mark d)) line5 ∙ ap (λ d. drives given ([]) (with_mark d)) line6

claim : run_of given (l0 ∷ l1 ∷ l2 ∷ l3 ∷ l4 ∷ l5 ∷ l6 ∷ []) ≡ made
claim = ap (run_with given) all

-- the numbers that the model prints of it
counted : sync_numbers made 0 6 74 ≡ record { get = 1; put = 1; drop = 2; refused = 0 }
counted = refl
