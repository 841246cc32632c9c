-- The run of the script late-order: the driver makes it, turn by turn, as an executable model does.
use Rattle.std.proofs.Common.{ap, ◌∙◌, arith}
use Rattle.std.specs.Prelude.{◌≡◌, refl, ℕ, true, false, List, [], ◌∷◌, Some, None, codes}
use Rattle.annex_base.specs.declared.kinds.Found.TheVariants as found
use Rattle.run_data.specs.declared.entry.Entry.{Entry}
use Rattle.run_data.specs.declared.entry.EntryKind.TheVariants as kinds
use Rattle.run_data.specs.declared.entry.By.TheVariants as by
use Rattle.run_data.specs.declared.entry.FrameText.TheVariants.{Opening, Closing, Line}
use Rattle.run_data.specs.declared.entry.LogFile.TheVariants.{Location}
use Rattle.run_data.specs.declared.job.JobKind.TheVariants as jobs
use Rattle.run_data.specs.declared.job.Outcome.TheVariants as outcomes
use Rattle.run_data.specs.declared.job.DropRefusal.TheVariants as drops
use Rattle.run_data.specs.declared.job.Denial.TheVariants as denials
use Rattle.run_data.specs.declared.run.RepoView.{RepoView}
use Rattle.run_data.specs.declared.run.Run.{Run}
use Rattle.script_commands.specs.declared.command.Action.TheVariants.{Have, Begin, Turns, Settle, Wait}
use Rattle.script_commands.specs.declared.command.Command.{Command}
use Rattle.script_commands.specs.declared.command.Command.TheVariants.{Does}
use Rattle.driver_model.specs.Driver.{Driver, DriverInput, at_first}
use Rattle.driver_model.specs.ScriptSteps.{begins}
use Rattle.driver_model.specs.Turning.{turn}
use Rattle.driver_model.specs.Rounds.{turns_of}
use Rattle.driver_model.specs.Driving.{does, drives, with_mark, run_of, run_with, turns}
use Rattle.driver_claims.proofs.Settling.{came, goes, settles_by}
use Rattle.driver_claims.specs.Opened.{opened, matches_in}

abbrev t0 : List ℕ
t0 = (codes "WORM-s3--abc")

abbrev t1 : List ℕ
t1 = (codes "AUTH-SUCCESS 22222222-2222-4222-8222-222222222222")

abbrev t2 : List ℕ
t2 = (codes "VERSION 3")

abbrev t3 : List ℕ
t3 = (codes "GETTIMESTAMP")

abbrev t4 : List ℕ
t4 = (codes "TIMESTAMP 0")

abbrev t5 : List ℕ
t5 = (codes "REMOVE-BEFORE 600 WORM-s3--abc")

abbrev t6 : List ℕ
t6 = (codes "FAILURE")

abbrev t7 : List ℕ
t7 = (codes "1700000000s 1 11111111-1111-4111-8111-111111111111")

abbrev t8 : List ℕ
t8 = (codes "1700000000s 1 22222222-2222-4222-8222-222222222222")

abbrev c0 : List ℕ
c0 = (codes "abc")

abbrev repos : List RepoView
repos = ((record { name = (codes "a"); id = (17 ∷ 17 ∷ 17 ∷ 17 ∷ 17 ∷ 17 ∷ 65 ∷ 17 ∷ 129 ∷ 17 ∷ 17 ∷ 17 ∷ 17 ∷ 17 ∷ 17 ∷ 17 ∷ []); offset = 0; version = 3; locks = true }) ∷ (record { name = (codes "b"); id = (34 ∷ 34 ∷ 34 ∷ 34 ∷ 34 ∷ 34 ∷ 66 ∷ 34 ∷ 130 ∷ 34 ∷ 34 ∷ 34 ∷ 34 ∷ 34 ∷ 34 ∷ 34 ∷ []); offset = 0; version = 3; locks = true }) ∷ [])

abbrev given : DriverInput
given = record { repos = repos; matches = matches_in ((t0, c0) ∷ []) }

abbrev l0 : Command
l0 = Does (Have 0 t0 c0)

abbrev l1 : Command
l1 = Does (Have 1 t0 c0)

abbrev l2 : Command
l2 = Does (Begin 0 (record { kind = jobs.Drop; key = t0; path = None; peer = (Some 1) }))

abbrev l3 : Command
l3 = Does (Turns 0 2)

abbrev l4 : Command
l4 = Does (Turns 1 1)

abbrev l5 : Command
l5 = Does (Turns 0 1)

abbrev l6 : Command
l6 = Does (Turns 1 1)

abbrev l7 : Command
l7 = Does (Turns 0 1)

abbrev l8 : Command
l8 = Does (Turns 1 1)

abbrev l9 : Command
l9 = Does (Turns 0 1)

abbrev l10 : Command
l10 = Does (Wait 600000)

abbrev l11 : Command
l11 = Does (Settle)

abbrev d0 : Driver
d0 = record { past = []; flights = ([]); fails = ([]); contents = ([]); parts = ([]); largest = 0; tree = ([]); marks = ([]) }

abbrev e0 : Entry
e0 = record { time = 0; count = 1; repo = (Some 0); kind = (kinds.Gain by.Script 3 t0); taken = None; sent = ([]); lines = ([]) }

abbrev p0 : List Entry
p0 = e0 ∷ []

abbrev e1 : Entry
e1 = record { time = 0; count = 2; repo = (Some 0); kind = (kinds.Log (Location t0)); taken = None; sent = ([]); lines = (t7 ∷ []) }

abbrev p1 : List Entry
p1 = e1 ∷ p0

abbrev d1 : Driver
d1 = record { past = p1; flights = ([]); fails = ([]); contents = ((record { repo = 0; key = t0; bytes = c0 }) ∷ []); parts = ([]); largest = 3; tree = ([]); marks = ([]) }

c_0 : does given l0 d0 ≡ d1
unfolding opened
c_0 = refl

line0 : does given l0 d0 ≡ d1
line0 = c_0

abbrev d2 : Driver
d2 = record { past = p1; flights = ([]); fails = ([]); contents = ((record { repo = 0; key = t0; bytes = c0 }) ∷ []); parts = ([]); largest = 3; tree = ([]); marks = (2 ∷ []) }

abbrev e2 : Entry
e2 = record { time = 0; count = 3; repo = (Some 1); kind = (kinds.Gain by.Script 3 t0); taken = None; sent = ([]); lines = ([]) }

abbrev p2 : List Entry
p2 = e2 ∷ p1

abbrev e3 : Entry
e3 = record { time = 0; count = 4; repo = (Some 1); kind = (kinds.Log (Location t0)); taken = None; sent = ([]); lines = (t8 ∷ []) }

abbrev p3 : List Entry
p3 = e3 ∷ p2

abbrev d3 : Driver
d3 = record { past = p3; flights = ([]); fails = ([]); contents = ((record { repo = 1; key = t0; bytes = c0 }) ∷ (record { repo = 0; key = t0; bytes = c0 }) ∷ []); parts = ([]); largest = 3; tree = ([]); marks = (2 ∷ []) }

c_1 : does given l1 d2 ≡ d3
unfolding opened
c_1 = refl

line1 : does given l1 d2 ≡ d3
line1 = c_1

abbrev d4 : Driver
d4 = record { past = p3; flights = ([]); fails = ([]); contents = ((record { repo = 1; key = t0; bytes = c0 }) ∷ (record { repo = 0; key = t0; bytes = c0 }) ∷ []); parts = ([]); largest = 3; tree = ([]); marks = (2 ∷ 4 ∷ []) }

abbrev e4 : Entry
e4 = record { time = 0; count = 5; repo = (Some 0); kind = (kinds.Begin 1 (record { kind = jobs.Drop; key = t0; path = None; peer = (Some 1) })); taken = None; sent = ([]); lines = ([]) }

abbrev p4 : List Entry
p4 = e4 ∷ p3

abbrev d5 : Driver
d5 = record { past = p4; flights = ([]); fails = ([]); contents = ((record { repo = 1; key = t0; bytes = c0 }) ∷ (record { repo = 0; key = t0; bytes = c0 }) ∷ []); parts = ([]); largest = 3; tree = ([]); marks = (2 ∷ 4 ∷ []) }

c_2 : begins 0 (record { kind = jobs.Drop; key = t0; path = None; peer = (Some 1) }) d4 ≡ d5
unfolding opened
c_2 = refl

line2 : does given l2 d4 ≡ d5
line2 = c_2

abbrev d6 : Driver
d6 = record { past = p4; flights = ([]); fails = ([]); contents = ((record { repo = 1; key = t0; bytes = c0 }) ∷ (record { repo = 0; key = t0; bytes = c0 }) ∷ []); parts = ([]); largest = 3; tree = ([]); marks = (2 ∷ 4 ∷ 5 ∷ []) }

abbrev e5 : Entry
e5 = record { time = 0; count = 6; repo = (Some 0); kind = (kinds.Share 4 600000 (by.Job 1) t0); taken = None; sent = ([]); lines = ([]) }

abbrev p5 : List Entry
p5 = e5 ∷ p4

abbrev d7 : Driver
d7 = record { past = p5; flights = ([]); fails = ([]); contents = ((record { repo = 1; key = t0; bytes = c0 }) ∷ (record { repo = 0; key = t0; bytes = c0 }) ∷ []); parts = ([]); largest = 3; tree = ([]); marks = (2 ∷ 4 ∷ 5 ∷ []) }

c_3 : turn given 0 d6 ≡ d7
unfolding opened
c_3 = refl

abbrev e6 : Entry
e6 = record { time = 0; count = 7; repo = (Some 0); kind = (kinds.Talk (Some 1)); taken = None; sent = ((record { peer = 1; slot = 0; up = true; epoch = 1; seq = 1; body = Opening }) ∷ []); lines = ([]) }

abbrev p6 : List Entry
p6 = e6 ∷ p5

abbrev d8 : Driver
d8 = record { past = p6; flights = ((record { to = 1; frame = (record { peer = 0; slot = 0; up = true; epoch = 1; seq = 1; body = Opening }); bytes = [] }) ∷ []); fails = ([]); contents = ((record { repo = 1; key = t0; bytes = c0 }) ∷ (record { repo = 0; key = t0; bytes = c0 }) ∷ []); parts = ([]); largest = 3; tree = ([]); marks = (2 ∷ 4 ∷ 5 ∷ []) }

c_4 : turn given 0 d7 ≡ d8
unfolding opened
c_4 = refl

line3 : does given l3 d6 ≡ d8
line3 = ap (turns given 0 1) c_3 ∙ ap (turns given 0 0) c_4

abbrev d9 : Driver
d9 = record { past = p6; flights = ((record { to = 1; frame = (record { peer = 0; slot = 0; up = true; epoch = 1; seq = 1; body = Opening }); bytes = [] }) ∷ []); fails = ([]); contents = ((record { repo = 1; key = t0; bytes = c0 }) ∷ (record { repo = 0; key = t0; bytes = c0 }) ∷ []); parts = ([]); largest = 3; tree = ([]); marks = (2 ∷ 4 ∷ 5 ∷ 7 ∷ []) }

abbrev e7 : Entry
e7 = record { time = 0; count = 8; repo = (Some 1); kind = (kinds.Talk None); taken = (Some (record { peer = 0; slot = 0; up = true; epoch = 1; seq = 1; body = Opening })); sent = ((record { peer = 0; slot = 0; up = false; epoch = 1; seq = 1; body = (Line t1) }) ∷ []); lines = ([]) }

abbrev p7 : List Entry
p7 = e7 ∷ p6

abbrev d10 : Driver
d10 = record { past = p7; flights = ((record { to = 0; frame = (record { peer = 1; slot = 0; up = false; epoch = 1; seq = 1; body = (Line t1) }); bytes = [] }) ∷ []); fails = ([]); contents = ((record { repo = 1; key = t0; bytes = c0 }) ∷ (record { repo = 0; key = t0; bytes = c0 }) ∷ []); parts = ([]); largest = 3; tree = ([]); marks = (2 ∷ 4 ∷ 5 ∷ 7 ∷ []) }

c_5 : turn given 1 d9 ≡ d10
unfolding opened
c_5 = refl

line4 : does given l4 d9 ≡ d10
line4 = ap (turns given 1 0) c_5

abbrev d11 : Driver
d11 = record { past = p7; flights = ((record { to = 0; frame = (record { peer = 1; slot = 0; up = false; epoch = 1; seq = 1; body = (Line t1) }); bytes = [] }) ∷ []); fails = ([]); contents = ((record { repo = 1; key = t0; bytes = c0 }) ∷ (record { repo = 0; key = t0; bytes = c0 }) ∷ []); parts = ([]); largest = 3; tree = ([]); marks = (2 ∷ 4 ∷ 5 ∷ 7 ∷ 8 ∷ []) }

abbrev e8 : Entry
e8 = record { time = 0; count = 9; repo = (Some 0); kind = (kinds.Talk (Some 1)); taken = (Some (record { peer = 1; slot = 0; up = false; epoch = 1; seq = 1; body = (Line t1) })); sent = ((record { peer = 1; slot = 0; up = true; epoch = 1; seq = 2; body = (Line t2) }) ∷ []); lines = ([]) }

abbrev p8 : List Entry
p8 = e8 ∷ p7

abbrev d12 : Driver
d12 = record { past = p8; flights = ((record { to = 1; frame = (record { peer = 0; slot = 0; up = true; epoch = 1; seq = 2; body = (Line t2) }); bytes = [] }) ∷ []); fails = ([]); contents = ((record { repo = 1; key = t0; bytes = c0 }) ∷ (record { repo = 0; key = t0; bytes = c0 }) ∷ []); parts = ([]); largest = 3; tree = ([]); marks = (2 ∷ 4 ∷ 5 ∷ 7 ∷ 8 ∷ []) }

c_6 : turn given 0 d11 ≡ d12
unfolding opened
c_6 = refl

line5 : does given l5 d11 ≡ d12
line5 = ap (turns given 0 0) c_6

abbrev d13 : Driver
d13 = record { past = p8; flights = ((record { to = 1; frame = (record { peer = 0; slot = 0; up = true; epoch = 1; seq = 2; body = (Line t2) }); bytes = [] }) ∷ []); fails = ([]); contents = ((record { repo = 1; key = t0; bytes = c0 }) ∷ (record { repo = 0; key = t0; bytes = c0 }) ∷ []); parts = ([]); largest = 3; tree = ([]); marks = (2 ∷ 4 ∷ 5 ∷ 7 ∷ 8 ∷ 9 ∷ []) }

abbrev e9 : Entry
e9 = record { time = 0; count = 10; repo = (Some 1); kind = (kinds.Talk None); taken = (Some (record { peer = 0; slot = 0; up = true; epoch = 1; seq = 2; body = (Line t2) })); sent = ((record { peer = 0; slot = 0; up = false; epoch = 1; seq = 2; body = (Line t2) }) ∷ []); lines = ([]) }

abbrev p9 : List Entry
p9 = e9 ∷ p8

abbrev d14 : Driver
d14 = record { past = p9; flights = ((record { to = 0; frame = (record { peer = 1; slot = 0; up = false; epoch = 1; seq = 2; body = (Line t2) }); bytes = [] }) ∷ []); fails = ([]); contents = ((record { repo = 1; key = t0; bytes = c0 }) ∷ (record { repo = 0; key = t0; bytes = c0 }) ∷ []); parts = ([]); largest = 3; tree = ([]); marks = (2 ∷ 4 ∷ 5 ∷ 7 ∷ 8 ∷ 9 ∷ []) }

c_7 : turn given 1 d13 ≡ d14
unfolding opened
c_7 = refl

line6 : does given l6 d13 ≡ d14
line6 = ap (turns given 1 0) c_7

abbrev d15 : Driver
d15 = record { past = p9; flights = ((record { to = 0; frame = (record { peer = 1; slot = 0; up = false; epoch = 1; seq = 2; body = (Line t2) }); bytes = [] }) ∷ []); fails = ([]); contents = ((record { repo = 1; key = t0; bytes = c0 }) ∷ (record { repo = 0; key = t0; bytes = c0 }) ∷ []); parts = ([]); largest = 3; tree = ([]); marks = (2 ∷ 4 ∷ 5 ∷ 7 ∷ 8 ∷ 9 ∷ 10 ∷ []) }

abbrev e10 : Entry
e10 = record { time = 0; count = 11; repo = (Some 0); kind = (kinds.Talk (Some 1)); taken = (Some (record { peer = 1; slot = 0; up = false; epoch = 1; seq = 2; body = (Line t2) })); sent = ((record { peer = 1; slot = 0; up = true; epoch = 1; seq = 3; body = (Line t3) }) ∷ []); lines = ([]) }

abbrev p10 : List Entry
p10 = e10 ∷ p9

abbrev d16 : Driver
d16 = record { past = p10; flights = ((record { to = 1; frame = (record { peer = 0; slot = 0; up = true; epoch = 1; seq = 3; body = (Line t3) }); bytes = [] }) ∷ []); fails = ([]); contents = ((record { repo = 1; key = t0; bytes = c0 }) ∷ (record { repo = 0; key = t0; bytes = c0 }) ∷ []); parts = ([]); largest = 3; tree = ([]); marks = (2 ∷ 4 ∷ 5 ∷ 7 ∷ 8 ∷ 9 ∷ 10 ∷ []) }

c_8 : turn given 0 d15 ≡ d16
unfolding opened
c_8 = refl

line7 : does given l7 d15 ≡ d16
line7 = ap (turns given 0 0) c_8

abbrev d17 : Driver
d17 = record { past = p10; flights = ((record { to = 1; frame = (record { peer = 0; slot = 0; up = true; epoch = 1; seq = 3; body = (Line t3) }); bytes = [] }) ∷ []); fails = ([]); contents = ((record { repo = 1; key = t0; bytes = c0 }) ∷ (record { repo = 0; key = t0; bytes = c0 }) ∷ []); parts = ([]); largest = 3; tree = ([]); marks = (2 ∷ 4 ∷ 5 ∷ 7 ∷ 8 ∷ 9 ∷ 10 ∷ 11 ∷ []) }

abbrev e11 : Entry
e11 = record { time = 0; count = 12; repo = (Some 1); kind = (kinds.Talk None); taken = (Some (record { peer = 0; slot = 0; up = true; epoch = 1; seq = 3; body = (Line t3) })); sent = ((record { peer = 0; slot = 0; up = false; epoch = 1; seq = 3; body = (Line t4) }) ∷ []); lines = ([]) }

abbrev p11 : List Entry
p11 = e11 ∷ p10

abbrev d18 : Driver
d18 = record { past = p11; flights = ((record { to = 0; frame = (record { peer = 1; slot = 0; up = false; epoch = 1; seq = 3; body = (Line t4) }); bytes = [] }) ∷ []); fails = ([]); contents = ((record { repo = 1; key = t0; bytes = c0 }) ∷ (record { repo = 0; key = t0; bytes = c0 }) ∷ []); parts = ([]); largest = 3; tree = ([]); marks = (2 ∷ 4 ∷ 5 ∷ 7 ∷ 8 ∷ 9 ∷ 10 ∷ 11 ∷ []) }

c_9 : turn given 1 d17 ≡ d18
unfolding opened
c_9 = refl

line8 : does given l8 d17 ≡ d18
line8 = ap (turns given 1 0) c_9

abbrev d19 : Driver
d19 = record { past = p11; flights = ((record { to = 0; frame = (record { peer = 1; slot = 0; up = false; epoch = 1; seq = 3; body = (Line t4) }); bytes = [] }) ∷ []); fails = ([]); contents = ((record { repo = 1; key = t0; bytes = c0 }) ∷ (record { repo = 0; key = t0; bytes = c0 }) ∷ []); parts = ([]); largest = 3; tree = ([]); marks = (2 ∷ 4 ∷ 5 ∷ 7 ∷ 8 ∷ 9 ∷ 10 ∷ 11 ∷ 12 ∷ []) }

abbrev e12 : Entry
e12 = record { time = 0; count = 13; repo = (Some 0); kind = (kinds.Order 1 1 (Some 600) (record { n = 1; m = 1 }) t0); taken = (Some (record { peer = 1; slot = 0; up = false; epoch = 1; seq = 3; body = (Line t4) })); sent = ((record { peer = 1; slot = 0; up = true; epoch = 1; seq = 4; body = (Line t5) }) ∷ []); lines = ([]) }

abbrev p12 : List Entry
p12 = e12 ∷ p11

abbrev d20 : Driver
d20 = record { past = p12; flights = ((record { to = 1; frame = (record { peer = 0; slot = 0; up = true; epoch = 1; seq = 4; body = (Line t5) }); bytes = [] }) ∷ []); fails = ([]); contents = ((record { repo = 1; key = t0; bytes = c0 }) ∷ (record { repo = 0; key = t0; bytes = c0 }) ∷ []); parts = ([]); largest = 3; tree = ([]); marks = (2 ∷ 4 ∷ 5 ∷ 7 ∷ 8 ∷ 9 ∷ 10 ∷ 11 ∷ 12 ∷ []) }

c_10 : turn given 0 d19 ≡ d20
unfolding opened
c_10 = refl

line9 : does given l9 d19 ≡ d20
line9 = ap (turns given 0 0) c_10

abbrev d21 : Driver
d21 = record { past = p12; flights = ((record { to = 1; frame = (record { peer = 0; slot = 0; up = true; epoch = 1; seq = 4; body = (Line t5) }); bytes = [] }) ∷ []); fails = ([]); contents = ((record { repo = 1; key = t0; bytes = c0 }) ∷ (record { repo = 0; key = t0; bytes = c0 }) ∷ []); parts = ([]); largest = 3; tree = ([]); marks = (2 ∷ 4 ∷ 5 ∷ 7 ∷ 8 ∷ 9 ∷ 10 ∷ 11 ∷ 12 ∷ 13 ∷ []) }

abbrev e13 : Entry
e13 = record { time = 600000; count = 14; repo = None; kind = (kinds.Wait 600000); taken = None; sent = ([]); lines = ([]) }

abbrev p13 : List Entry
p13 = e13 ∷ p12

abbrev d22 : Driver
d22 = record { past = p13; flights = ((record { to = 1; frame = (record { peer = 0; slot = 0; up = true; epoch = 1; seq = 4; body = (Line t5) }); bytes = [] }) ∷ []); fails = ([]); contents = ((record { repo = 1; key = t0; bytes = c0 }) ∷ (record { repo = 0; key = t0; bytes = c0 }) ∷ []); parts = ([]); largest = 3; tree = ([]); marks = (2 ∷ 4 ∷ 5 ∷ 7 ∷ 8 ∷ 9 ∷ 10 ∷ 11 ∷ 12 ∷ 13 ∷ []) }

c_11 : does given l10 d21 ≡ d22
unfolding opened
c_11 = refl

line10 : does given l10 d21 ≡ d22
line10 = c_11

abbrev d23 : Driver
d23 = record { past = p13; flights = ((record { to = 1; frame = (record { peer = 0; slot = 0; up = true; epoch = 1; seq = 4; body = (Line t5) }); bytes = [] }) ∷ []); fails = ([]); contents = ((record { repo = 1; key = t0; bytes = c0 }) ∷ (record { repo = 0; key = t0; bytes = c0 }) ∷ []); parts = ([]); largest = 3; tree = ([]); marks = (2 ∷ 4 ∷ 5 ∷ 7 ∷ 8 ∷ 9 ∷ 10 ∷ 11 ∷ 12 ∷ 13 ∷ 14 ∷ []) }

c_12 : turn given 0 d23 ≡ d23
unfolding opened
c_12 = refl

abbrev e14 : Entry
e14 = record { time = 600000; count = 15; repo = (Some 1); kind = (kinds.Check found.Late t0); taken = (Some (record { peer = 0; slot = 0; up = true; epoch = 1; seq = 4; body = (Line t5) })); sent = ((record { peer = 0; slot = 0; up = false; epoch = 1; seq = 4; body = (Line t6) }) ∷ []); lines = ([]) }

abbrev p14 : List Entry
p14 = e14 ∷ p13

abbrev d24 : Driver
d24 = record { past = p14; flights = ((record { to = 0; frame = (record { peer = 1; slot = 0; up = false; epoch = 1; seq = 4; body = (Line t6) }); bytes = [] }) ∷ []); fails = ([]); contents = ((record { repo = 1; key = t0; bytes = c0 }) ∷ (record { repo = 0; key = t0; bytes = c0 }) ∷ []); parts = ([]); largest = 3; tree = ([]); marks = (2 ∷ 4 ∷ 5 ∷ 7 ∷ 8 ∷ 9 ∷ 10 ∷ 11 ∷ 12 ∷ 13 ∷ 14 ∷ []) }

c_13 : turn given 1 d23 ≡ d24
unfolding opened
c_13 = refl

abbrev e15 : Entry
e15 = record { time = 600000; count = 16; repo = (Some 0); kind = (kinds.Talk (Some 1)); taken = (Some (record { peer = 1; slot = 0; up = false; epoch = 1; seq = 4; body = (Line t6) })); sent = ([]); lines = ([]) }

abbrev p15 : List Entry
p15 = e15 ∷ p14

abbrev d25 : Driver
d25 = record { past = p15; flights = ([]); fails = ([]); contents = ((record { repo = 1; key = t0; bytes = c0 }) ∷ (record { repo = 0; key = t0; bytes = c0 }) ∷ []); parts = ([]); largest = 3; tree = ([]); marks = (2 ∷ 4 ∷ 5 ∷ 7 ∷ 8 ∷ 9 ∷ 10 ∷ 11 ∷ 12 ∷ 13 ∷ 14 ∷ []) }

c_14 : turn given 0 d24 ≡ d25
unfolding opened
c_14 = refl

c_15 : turn given 1 d25 ≡ d25
unfolding opened
c_15 = refl

abbrev e16 : Entry
e16 = record { time = 600000; count = 17; repo = (Some 0); kind = (kinds.End 1 (outcomes.Refused (drops.Denied denials.Late))); taken = None; sent = ((record { peer = 1; slot = 0; up = true; epoch = 1; seq = 5; body = Closing }) ∷ []); lines = ([]) }

abbrev p16 : List Entry
p16 = e16 ∷ p15

abbrev d26 : Driver
d26 = record { past = p16; flights = ((record { to = 1; frame = (record { peer = 0; slot = 0; up = true; epoch = 1; seq = 5; body = Closing }); bytes = [] }) ∷ []); fails = ([]); contents = ((record { repo = 1; key = t0; bytes = c0 }) ∷ (record { repo = 0; key = t0; bytes = c0 }) ∷ []); parts = ([]); largest = 3; tree = ([]); marks = (2 ∷ 4 ∷ 5 ∷ 7 ∷ 8 ∷ 9 ∷ 10 ∷ 11 ∷ 12 ∷ 13 ∷ 14 ∷ []) }

c_16 : turn given 0 d25 ≡ d26
unfolding opened
c_16 = refl

abbrev e17 : Entry
e17 = record { time = 600000; count = 18; repo = (Some 1); kind = (kinds.Close 0 0 false); taken = (Some (record { peer = 0; slot = 0; up = true; epoch = 1; seq = 5; body = Closing })); sent = ([]); lines = ([]) }

abbrev p17 : List Entry
p17 = e17 ∷ p16

abbrev d27 : Driver
d27 = record { past = p17; flights = ([]); fails = ([]); contents = ((record { repo = 1; key = t0; bytes = c0 }) ∷ (record { repo = 0; key = t0; bytes = c0 }) ∷ []); parts = ([]); largest = 3; tree = ([]); marks = (2 ∷ 4 ∷ 5 ∷ 7 ∷ 8 ∷ 9 ∷ 10 ∷ 11 ∷ 12 ∷ 13 ∷ 14 ∷ []) }

c_17 : turn given 1 d26 ≡ d27
unfolding opened
c_17 = refl

c_18 : turn given 0 d27 ≡ d27
unfolding opened
c_18 = refl

c_19 : turn given 1 d27 ≡ d27
unfolding opened
c_19 = refl

line11 : does given l11 d23 ≡ d27
line11 = settles_by given 5 d23 (record { driver = d27; idle = 2 }) (ap (goes given 4) (came given 0 d23 d24 refl (ap (turns_of given (1 ∷ [])) c_12 ∙ ap (turns_of given ([])) c_13)) ∙ (ap (goes given 3) (came given 0 d24 d25 refl (ap (turns_of given (1 ∷ [])) c_14 ∙ ap (turns_of given ([])) c_15)) ∙ (ap (goes given 2) (came given 0 d25 d27 refl (ap (turns_of given (1 ∷ [])) c_16 ∙ ap (turns_of given ([])) c_17)) ∙ (ap (goes given 1) (came given 0 d27 d27 refl (ap (turns_of given (1 ∷ [])) c_18 ∙ ap (turns_of given ([])) c_19)) ∙ (ap (goes given 0) (came given 1 d27 d27 refl (ap (turns_of given (1 ∷ [])) c_18 ∙ ap (turns_of given ([])) c_19)) ∙ (refl)))))) refl (omega arith)

abbrev d28 : Driver
d28 = record { past = p17; flights = ([]); fails = ([]); contents = ((record { repo = 1; key = t0; bytes = c0 }) ∷ (record { repo = 0; key = t0; bytes = c0 }) ∷ []); parts = ([]); largest = 3; tree = ([]); marks = (2 ∷ 4 ∷ 5 ∷ 7 ∷ 8 ∷ 9 ∷ 10 ∷ 11 ∷ 12 ∷ 13 ∷ 14 ∷ 18 ∷ []) }

abbrev made : Run
made = record { repos = repos; entries = (e0 ∷ e1 ∷ e2 ∷ e3 ∷ e4 ∷ e5 ∷ e6 ∷ e7 ∷ e8 ∷ e9 ∷ e10 ∷ e11 ∷ e12 ∷ e13 ∷ e14 ∷ e15 ∷ e16 ∷ e17 ∷ []); tree = ([]); marks = (2 ∷ 4 ∷ 5 ∷ 7 ∷ 8 ∷ 9 ∷ 10 ∷ 11 ∷ 12 ∷ 13 ∷ 14 ∷ 18 ∷ []) }

all : drives given (l0 ∷ l1 ∷ l2 ∷ l3 ∷ l4 ∷ l5 ∷ l6 ∷ l7 ∷ l8 ∷ l9 ∷ l10 ∷ l11 ∷ []) at_first ≡ d28
all = ap (λ d. drives given (l1 ∷ l2 ∷ l3 ∷ l4 ∷ l5 ∷ l6 ∷ l7 ∷ l8 ∷ l9 ∷ l10 ∷ l11 ∷ []) (with_mark d)) line0 ∙ ap (λ d. drives given (l2 ∷ l3 ∷ l4 ∷ l5 ∷ l6 ∷ l7 ∷ l8 ∷ l9 ∷ l10 ∷ l11 ∷ []) (with_mark d)) line1 ∙ ap (λ d. drives given (l3 ∷ l4 ∷ l5 ∷ l6 ∷ l7 ∷ l8 ∷ l9 ∷ l10 ∷ l11 ∷ []) (with_mark d)) line2 ∙ ap (λ d. drives given (l4 ∷ l5 ∷ l6 ∷ l7 ∷ l8 ∷ l9 ∷ l10 ∷ l11 ∷ []) (with_mark d)) line3 ∙ ap (λ d. drives given (l5 ∷ l6 ∷ l7 ∷ l8 ∷ l9 ∷ l10 ∷ l11 ∷ []) (with_mark d)) line4 ∙ ap (λ d. drives given (l6 ∷ l7 ∷ l8 ∷ l9 ∷ l10 ∷ l11 ∷ []) (with_mark d)) line5 ∙ ap (λ d. drives given (l7 ∷ l8 ∷ l9 ∷ l10 ∷ l11 ∷ []) (with_mark d)) line6 ∙ ap (λ d. drives given (l8 ∷ l9 ∷ l10 ∷ l11 ∷ []) (with_mark d)) line7 ∙ ap (λ d. drives given (l9 ∷ l10 ∷ l11 ∷ []) (with_mark d)) line8 ∙ ap (λ d. drives given (l10 ∷ l11 ∷ []) (with_mark d)) line9 ∙ ap (λ d. drives given (l11 ∷ []) (with_mark d)) line10 ∙ ap (λ d. drives given ([]) (with_mark d)) line11

claim : run_of given (l0 ∷ l1 ∷ l2 ∷ l3 ∷ l4 ∷ l5 ∷ l6 ∷ l7 ∷ l8 ∷ l9 ∷ l10 ∷ l11 ∷ []) ≡ made
claim = ap (run_with given) all
