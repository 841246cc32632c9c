-- The run of the script race-of-two-drops: the driver makes it, turn by turn, as an executable model does.
use Rattle.std.proofs.Common.{ap, ◌∙◌, arith}
use Rattle.std.specs.Prelude.{◌≡◌, refl, ℕ, true, false, List, [], ◌∷◌, Some, None, codes}
use Rattle.annex_base.specs.declared.kinds.Found.TheVariants as found
use Rattle.run_data.specs.declared.entry.Entry.{Entry}
use Rattle.run_data.specs.declared.entry.EntryKind.TheVariants as kinds
use Rattle.run_data.specs.declared.entry.By.TheVariants as by
use Rattle.run_data.specs.declared.entry.FrameText.TheVariants.{Opening, Closing, Line}
use Rattle.run_data.specs.declared.entry.LogFile.TheVariants.{Location}
use Rattle.run_data.specs.declared.job.JobKind.TheVariants as jobs
use Rattle.run_data.specs.declared.job.Outcome.TheVariants as outcomes
use Rattle.run_data.specs.declared.job.DropRefusal.TheVariants as drops
use Rattle.run_data.specs.declared.job.Cause.TheVariants as causes
use Rattle.run_data.specs.declared.run.RepoView.{RepoView}
use Rattle.run_data.specs.declared.run.Run.{Run}
use Rattle.script_commands.specs.declared.command.Action.TheVariants.{Have, Begin, Turns, Settle}
use Rattle.script_commands.specs.declared.command.Command.{Command}
use Rattle.script_commands.specs.declared.command.Command.TheVariants.{Does}
use Rattle.driver_model.specs.Driver.{Driver, DriverInput, at_first}
use Rattle.driver_model.specs.ScriptSteps.{begins}
use Rattle.driver_model.specs.Turning.{turn}
use Rattle.driver_model.specs.Rounds.{turns_of}
use Rattle.driver_model.specs.Driving.{does, drives, with_mark, run_of, run_with, turns}
use Rattle.driver_claims.proofs.Settling.{came, goes, settles_by}
use Rattle.driver_claims.specs.Opened.{opened, matches_in}

abbrev t0 : List ℕ
t0 = (codes "WORM-s3--abc")

abbrev t1 : List ℕ
t1 = (codes "AUTH-SUCCESS 22222222-2222-4222-8222-222222222222")

abbrev t2 : List ℕ
t2 = (codes "VERSION 3")

abbrev t3 : List ℕ
t3 = (codes "LOCKCONTENT WORM-s3--abc")

abbrev t4 : List ℕ
t4 = (codes "FAILURE")

abbrev t5 : List ℕ
t5 = (codes "CHECKPRESENT WORM-s3--abc")

abbrev t6 : List ℕ
t6 = (codes "AUTH-SUCCESS 11111111-1111-4111-8111-111111111111")

abbrev t7 : List ℕ
t7 = (codes "1700000000s 1 11111111-1111-4111-8111-111111111111")

abbrev t8 : List ℕ
t8 = (codes "1700000000s 1 22222222-2222-4222-8222-222222222222")

abbrev c0 : List ℕ
c0 = (codes "abc")

abbrev repos : List RepoView
repos = ((record { name = (codes "a"); id = (17 ∷ 17 ∷ 17 ∷ 17 ∷ 17 ∷ 17 ∷ 65 ∷ 17 ∷ 129 ∷ 17 ∷ 17 ∷ 17 ∷ 17 ∷ 17 ∷ 17 ∷ 17 ∷ []); offset = 0; version = 3; locks = true }) ∷ (record { name = (codes "b"); id = (34 ∷ 34 ∷ 34 ∷ 34 ∷ 34 ∷ 34 ∷ 66 ∷ 34 ∷ 130 ∷ 34 ∷ 34 ∷ 34 ∷ 34 ∷ 34 ∷ 34 ∷ 34 ∷ []); offset = 0; version = 3; locks = true }) ∷ [])

abbrev given : DriverInput
given = record { repos = repos; matches = matches_in ((t0, c0) ∷ []) }

abbrev l0 : Command
l0 = Does (Have 0 t0 c0)

abbrev l1 : Command
l1 = Does (Have 1 t0 c0)

abbrev l2 : Command
l2 = Does (Begin 0 (record { kind = jobs.Drop; key = t0; path = None; peer = None }))

abbrev l3 : Command
l3 = Does (Begin 1 (record { kind = jobs.Drop; key = t0; path = None; peer = None }))

abbrev l4 : Command
l4 = Does (Turns 0 1)

abbrev l5 : Command
l5 = Does (Turns 1 1)

abbrev l6 : Command
l6 = Does (Settle)

abbrev d0 : Driver
d0 = record { past = []; flights = ([]); fails = ([]); contents = ([]); parts = ([]); largest = 0; tree = ([]); marks = ([]) }

abbrev e0 : Entry
e0 = record { time = 0; count = 1; repo = (Some 0); kind = (kinds.Gain by.Script 3 t0); taken = None; sent = ([]); lines = ([]) }

abbrev p0 : List Entry
p0 = e0 ∷ []

abbrev e1 : Entry
e1 = record { time = 0; count = 2; repo = (Some 0); kind = (kinds.Log (Location t0)); taken = None; sent = ([]); lines = (t7 ∷ []) }

abbrev p1 : List Entry
p1 = e1 ∷ p0

abbrev d1 : Driver
d1 = record { past = p1; flights = ([]); fails = ([]); contents = ((record { repo = 0; key = t0; bytes = c0 }) ∷ []); parts = ([]); largest = 3; tree = ([]); marks = ([]) }

c_0 : does given l0 d0 ≡ d1
unfolding opened
c_0 = refl

line0 : does given l0 d0 ≡ d1
line0 = c_0

abbrev d2 : Driver
d2 = record { past = p1; flights = ([]); fails = ([]); contents = ((record { repo = 0; key = t0; bytes = c0 }) ∷ []); parts = ([]); largest = 3; tree = ([]); marks = (2 ∷ []) }

abbrev e2 : Entry
e2 = record { time = 0; count = 3; repo = (Some 1); kind = (kinds.Gain by.Script 3 t0); taken = None; sent = ([]); lines = ([]) }

abbrev p2 : List Entry
p2 = e2 ∷ p1

abbrev e3 : Entry
e3 = record { time = 0; count = 4; repo = (Some 1); kind = (kinds.Log (Location t0)); taken = None; sent = ([]); lines = (t8 ∷ []) }

abbrev p3 : List Entry
p3 = e3 ∷ p2

abbrev d3 : Driver
d3 = record { past = p3; flights = ([]); fails = ([]); contents = ((record { repo = 1; key = t0; bytes = c0 }) ∷ (record { repo = 0; key = t0; bytes = c0 }) ∷ []); parts = ([]); largest = 3; tree = ([]); marks = (2 ∷ []) }

c_1 : does given l1 d2 ≡ d3
unfolding opened
c_1 = refl

line1 : does given l1 d2 ≡ d3
line1 = c_1

abbrev d4 : Driver
d4 = record { past = p3; flights = ([]); fails = ([]); contents = ((record { repo = 1; key = t0; bytes = c0 }) ∷ (record { repo = 0; key = t0; bytes = c0 }) ∷ []); parts = ([]); largest = 3; tree = ([]); marks = (2 ∷ 4 ∷ []) }

abbrev e4 : Entry
e4 = record { time = 0; count = 5; repo = (Some 0); kind = (kinds.Begin 1 (record { kind = jobs.Drop; key = t0; path = None; peer = None })); taken = None; sent = ([]); lines = ([]) }

abbrev p4 : List Entry
p4 = e4 ∷ p3

abbrev d5 : Driver
d5 = record { past = p4; flights = ([]); fails = ([]); contents = ((record { repo = 1; key = t0; bytes = c0 }) ∷ (record { repo = 0; key = t0; bytes = c0 }) ∷ []); parts = ([]); largest = 3; tree = ([]); marks = (2 ∷ 4 ∷ []) }

c_2 : begins 0 (record { kind = jobs.Drop; key = t0; path = None; peer = None }) d4 ≡ d5
unfolding opened
c_2 = refl

line2 : does given l2 d4 ≡ d5
line2 = c_2

abbrev d6 : Driver
d6 = record { past = p4; flights = ([]); fails = ([]); contents = ((record { repo = 1; key = t0; bytes = c0 }) ∷ (record { repo = 0; key = t0; bytes = c0 }) ∷ []); parts = ([]); largest = 3; tree = ([]); marks = (2 ∷ 4 ∷ 5 ∷ []) }

abbrev e5 : Entry
e5 = record { time = 0; count = 6; repo = (Some 1); kind = (kinds.Begin 1 (record { kind = jobs.Drop; key = t0; path = None; peer = None })); taken = None; sent = ([]); lines = ([]) }

abbrev p5 : List Entry
p5 = e5 ∷ p4

abbrev d7 : Driver
d7 = record { past = p5; flights = ([]); fails = ([]); contents = ((record { repo = 1; key = t0; bytes = c0 }) ∷ (record { repo = 0; key = t0; bytes = c0 }) ∷ []); parts = ([]); largest = 3; tree = ([]); marks = (2 ∷ 4 ∷ 5 ∷ []) }

c_3 : begins 1 (record { kind = jobs.Drop; key = t0; path = None; peer = None }) d6 ≡ d7
unfolding opened
c_3 = refl

line3 : does given l3 d6 ≡ d7
line3 = c_3

abbrev d8 : Driver
d8 = record { past = p5; flights = ([]); fails = ([]); contents = ((record { repo = 1; key = t0; bytes = c0 }) ∷ (record { repo = 0; key = t0; bytes = c0 }) ∷ []); parts = ([]); largest = 3; tree = ([]); marks = (2 ∷ 4 ∷ 5 ∷ 6 ∷ []) }

abbrev e6 : Entry
e6 = record { time = 0; count = 7; repo = (Some 0); kind = (kinds.Bar 1 (record { n = 1; m = 1 }) t0); taken = None; sent = ([]); lines = ([]) }

abbrev p6 : List Entry
p6 = e6 ∷ p5

abbrev d9 : Driver
d9 = record { past = p6; flights = ([]); fails = ([]); contents = ((record { repo = 1; key = t0; bytes = c0 }) ∷ (record { repo = 0; key = t0; bytes = c0 }) ∷ []); parts = ([]); largest = 3; tree = ([]); marks = (2 ∷ 4 ∷ 5 ∷ 6 ∷ []) }

c_4 : turn given 0 d8 ≡ d9
unfolding opened
c_4 = refl

line4 : does given l4 d8 ≡ d9
line4 = ap (turns given 0 0) c_4

abbrev d10 : Driver
d10 = record { past = p6; flights = ([]); fails = ([]); contents = ((record { repo = 1; key = t0; bytes = c0 }) ∷ (record { repo = 0; key = t0; bytes = c0 }) ∷ []); parts = ([]); largest = 3; tree = ([]); marks = (2 ∷ 4 ∷ 5 ∷ 6 ∷ 7 ∷ []) }

abbrev e7 : Entry
e7 = record { time = 0; count = 8; repo = (Some 1); kind = (kinds.Bar 1 (record { n = 1; m = 1 }) t0); taken = None; sent = ([]); lines = ([]) }

abbrev p7 : List Entry
p7 = e7 ∷ p6

abbrev d11 : Driver
d11 = record { past = p7; flights = ([]); fails = ([]); contents = ((record { repo = 1; key = t0; bytes = c0 }) ∷ (record { repo = 0; key = t0; bytes = c0 }) ∷ []); parts = ([]); largest = 3; tree = ([]); marks = (2 ∷ 4 ∷ 5 ∷ 6 ∷ 7 ∷ []) }

c_5 : turn given 1 d10 ≡ d11
unfolding opened
c_5 = refl

line5 : does given l5 d10 ≡ d11
line5 = ap (turns given 1 0) c_5

abbrev d12 : Driver
d12 = record { past = p7; flights = ([]); fails = ([]); contents = ((record { repo = 1; key = t0; bytes = c0 }) ∷ (record { repo = 0; key = t0; bytes = c0 }) ∷ []); parts = ([]); largest = 3; tree = ([]); marks = (2 ∷ 4 ∷ 5 ∷ 6 ∷ 7 ∷ 8 ∷ []) }

abbrev e8 : Entry
e8 = record { time = 0; count = 9; repo = (Some 0); kind = (kinds.Talk (Some 1)); taken = None; sent = ((record { peer = 1; slot = 0; up = true; epoch = 1; seq = 1; body = Opening }) ∷ []); lines = ([]) }

abbrev p8 : List Entry
p8 = e8 ∷ p7

abbrev d13 : Driver
d13 = record { past = p8; flights = ((record { to = 1; frame = (record { peer = 0; slot = 0; up = true; epoch = 1; seq = 1; body = Opening }); bytes = [] }) ∷ []); fails = ([]); contents = ((record { repo = 1; key = t0; bytes = c0 }) ∷ (record { repo = 0; key = t0; bytes = c0 }) ∷ []); parts = ([]); largest = 3; tree = ([]); marks = (2 ∷ 4 ∷ 5 ∷ 6 ∷ 7 ∷ 8 ∷ []) }

c_6 : turn given 0 d12 ≡ d13
unfolding opened
c_6 = refl

abbrev e9 : Entry
e9 = record { time = 0; count = 10; repo = (Some 1); kind = (kinds.Talk None); taken = (Some (record { peer = 0; slot = 0; up = true; epoch = 1; seq = 1; body = Opening })); sent = ((record { peer = 0; slot = 0; up = false; epoch = 1; seq = 1; body = (Line t1) }) ∷ []); lines = ([]) }

abbrev p9 : List Entry
p9 = e9 ∷ p8

abbrev d14 : Driver
d14 = record { past = p9; flights = ((record { to = 0; frame = (record { peer = 1; slot = 0; up = false; epoch = 1; seq = 1; body = (Line t1) }); bytes = [] }) ∷ []); fails = ([]); contents = ((record { repo = 1; key = t0; bytes = c0 }) ∷ (record { repo = 0; key = t0; bytes = c0 }) ∷ []); parts = ([]); largest = 3; tree = ([]); marks = (2 ∷ 4 ∷ 5 ∷ 6 ∷ 7 ∷ 8 ∷ []) }

c_7 : turn given 1 d13 ≡ d14
unfolding opened
c_7 = refl

abbrev e10 : Entry
e10 = record { time = 0; count = 11; repo = (Some 0); kind = (kinds.Talk (Some 1)); taken = (Some (record { peer = 1; slot = 0; up = false; epoch = 1; seq = 1; body = (Line t1) })); sent = ((record { peer = 1; slot = 0; up = true; epoch = 1; seq = 2; body = (Line t2) }) ∷ []); lines = ([]) }

abbrev p10 : List Entry
p10 = e10 ∷ p9

abbrev d15 : Driver
d15 = record { past = p10; flights = ((record { to = 1; frame = (record { peer = 0; slot = 0; up = true; epoch = 1; seq = 2; body = (Line t2) }); bytes = [] }) ∷ []); fails = ([]); contents = ((record { repo = 1; key = t0; bytes = c0 }) ∷ (record { repo = 0; key = t0; bytes = c0 }) ∷ []); parts = ([]); largest = 3; tree = ([]); marks = (2 ∷ 4 ∷ 5 ∷ 6 ∷ 7 ∷ 8 ∷ []) }

c_8 : turn given 0 d14 ≡ d15
unfolding opened
c_8 = refl

abbrev e11 : Entry
e11 = record { time = 0; count = 12; repo = (Some 1); kind = (kinds.Talk None); taken = (Some (record { peer = 0; slot = 0; up = true; epoch = 1; seq = 2; body = (Line t2) })); sent = ((record { peer = 0; slot = 0; up = false; epoch = 1; seq = 2; body = (Line t2) }) ∷ []); lines = ([]) }

abbrev p11 : List Entry
p11 = e11 ∷ p10

abbrev d16 : Driver
d16 = record { past = p11; flights = ((record { to = 0; frame = (record { peer = 1; slot = 0; up = false; epoch = 1; seq = 2; body = (Line t2) }); bytes = [] }) ∷ []); fails = ([]); contents = ((record { repo = 1; key = t0; bytes = c0 }) ∷ (record { repo = 0; key = t0; bytes = c0 }) ∷ []); parts = ([]); largest = 3; tree = ([]); marks = (2 ∷ 4 ∷ 5 ∷ 6 ∷ 7 ∷ 8 ∷ []) }

c_9 : turn given 1 d15 ≡ d16
unfolding opened
c_9 = refl

abbrev e12 : Entry
e12 = record { time = 0; count = 13; repo = (Some 0); kind = (kinds.Talk (Some 1)); taken = (Some (record { peer = 1; slot = 0; up = false; epoch = 1; seq = 2; body = (Line t2) })); sent = ((record { peer = 1; slot = 0; up = true; epoch = 1; seq = 3; body = (Line t3) }) ∷ []); lines = ([]) }

abbrev p12 : List Entry
p12 = e12 ∷ p11

abbrev d17 : Driver
d17 = record { past = p12; flights = ((record { to = 1; frame = (record { peer = 0; slot = 0; up = true; epoch = 1; seq = 3; body = (Line t3) }); bytes = [] }) ∷ []); fails = ([]); contents = ((record { repo = 1; key = t0; bytes = c0 }) ∷ (record { repo = 0; key = t0; bytes = c0 }) ∷ []); parts = ([]); largest = 3; tree = ([]); marks = (2 ∷ 4 ∷ 5 ∷ 6 ∷ 7 ∷ 8 ∷ []) }

c_10 : turn given 0 d16 ≡ d17
unfolding opened
c_10 = refl

abbrev e13 : Entry
e13 = record { time = 0; count = 14; repo = (Some 1); kind = (kinds.Check found.Barred t0); taken = (Some (record { peer = 0; slot = 0; up = true; epoch = 1; seq = 3; body = (Line t3) })); sent = ((record { peer = 0; slot = 0; up = false; epoch = 1; seq = 3; body = (Line t4) }) ∷ []); lines = ([]) }

abbrev p13 : List Entry
p13 = e13 ∷ p12

abbrev d18 : Driver
d18 = record { past = p13; flights = ((record { to = 0; frame = (record { peer = 1; slot = 0; up = false; epoch = 1; seq = 3; body = (Line t4) }); bytes = [] }) ∷ []); fails = ([]); contents = ((record { repo = 1; key = t0; bytes = c0 }) ∷ (record { repo = 0; key = t0; bytes = c0 }) ∷ []); parts = ([]); largest = 3; tree = ([]); marks = (2 ∷ 4 ∷ 5 ∷ 6 ∷ 7 ∷ 8 ∷ []) }

c_11 : turn given 1 d17 ≡ d18
unfolding opened
c_11 = refl

abbrev e14 : Entry
e14 = record { time = 0; count = 15; repo = (Some 0); kind = (kinds.Talk (Some 1)); taken = (Some (record { peer = 1; slot = 0; up = false; epoch = 1; seq = 3; body = (Line t4) })); sent = ((record { peer = 1; slot = 0; up = true; epoch = 1; seq = 4; body = (Line t5) }) ∷ []); lines = ([]) }

abbrev p14 : List Entry
p14 = e14 ∷ p13

abbrev d19 : Driver
d19 = record { past = p14; flights = ((record { to = 1; frame = (record { peer = 0; slot = 0; up = true; epoch = 1; seq = 4; body = (Line t5) }); bytes = [] }) ∷ []); fails = ([]); contents = ((record { repo = 1; key = t0; bytes = c0 }) ∷ (record { repo = 0; key = t0; bytes = c0 }) ∷ []); parts = ([]); largest = 3; tree = ([]); marks = (2 ∷ 4 ∷ 5 ∷ 6 ∷ 7 ∷ 8 ∷ []) }

c_12 : turn given 0 d18 ≡ d19
unfolding opened
c_12 = refl

abbrev e15 : Entry
e15 = record { time = 0; count = 16; repo = (Some 1); kind = (kinds.Check found.Barred t0); taken = (Some (record { peer = 0; slot = 0; up = true; epoch = 1; seq = 4; body = (Line t5) })); sent = ((record { peer = 0; slot = 0; up = false; epoch = 1; seq = 4; body = (Line t4) }) ∷ []); lines = ([]) }

abbrev p15 : List Entry
p15 = e15 ∷ p14

abbrev d20 : Driver
d20 = record { past = p15; flights = ((record { to = 0; frame = (record { peer = 1; slot = 0; up = false; epoch = 1; seq = 4; body = (Line t4) }); bytes = [] }) ∷ []); fails = ([]); contents = ((record { repo = 1; key = t0; bytes = c0 }) ∷ (record { repo = 0; key = t0; bytes = c0 }) ∷ []); parts = ([]); largest = 3; tree = ([]); marks = (2 ∷ 4 ∷ 5 ∷ 6 ∷ 7 ∷ 8 ∷ []) }

c_13 : turn given 1 d19 ≡ d20
unfolding opened
c_13 = refl

abbrev e16 : Entry
e16 = record { time = 0; count = 17; repo = (Some 0); kind = (kinds.Talk (Some 1)); taken = (Some (record { peer = 1; slot = 0; up = false; epoch = 1; seq = 4; body = (Line t4) })); sent = ([]); lines = ([]) }

abbrev p16 : List Entry
p16 = e16 ∷ p15

abbrev d21 : Driver
d21 = record { past = p16; flights = ([]); fails = ([]); contents = ((record { repo = 1; key = t0; bytes = c0 }) ∷ (record { repo = 0; key = t0; bytes = c0 }) ∷ []); parts = ([]); largest = 3; tree = ([]); marks = (2 ∷ 4 ∷ 5 ∷ 6 ∷ 7 ∷ 8 ∷ []) }

c_14 : turn given 0 d20 ≡ d21
unfolding opened
c_14 = refl

abbrev e17 : Entry
e17 = record { time = 0; count = 18; repo = (Some 1); kind = (kinds.Talk (Some 1)); taken = None; sent = ((record { peer = 0; slot = 0; up = true; epoch = 1; seq = 1; body = Opening }) ∷ []); lines = ([]) }

abbrev p17 : List Entry
p17 = e17 ∷ p16

abbrev d22 : Driver
d22 = record { past = p17; flights = ((record { to = 0; frame = (record { peer = 1; slot = 0; up = true; epoch = 1; seq = 1; body = Opening }); bytes = [] }) ∷ []); fails = ([]); contents = ((record { repo = 1; key = t0; bytes = c0 }) ∷ (record { repo = 0; key = t0; bytes = c0 }) ∷ []); parts = ([]); largest = 3; tree = ([]); marks = (2 ∷ 4 ∷ 5 ∷ 6 ∷ 7 ∷ 8 ∷ []) }

c_15 : turn given 1 d21 ≡ d22
unfolding opened
c_15 = refl

abbrev e18 : Entry
e18 = record { time = 0; count = 19; repo = (Some 0); kind = (kinds.Talk None); taken = (Some (record { peer = 1; slot = 0; up = true; epoch = 1; seq = 1; body = Opening })); sent = ((record { peer = 1; slot = 0; up = false; epoch = 1; seq = 1; body = (Line t6) }) ∷ []); lines = ([]) }

abbrev p18 : List Entry
p18 = e18 ∷ p17

abbrev d23 : Driver
d23 = record { past = p18; flights = ((record { to = 1; frame = (record { peer = 0; slot = 0; up = false; epoch = 1; seq = 1; body = (Line t6) }); bytes = [] }) ∷ []); fails = ([]); contents = ((record { repo = 1; key = t0; bytes = c0 }) ∷ (record { repo = 0; key = t0; bytes = c0 }) ∷ []); parts = ([]); largest = 3; tree = ([]); marks = (2 ∷ 4 ∷ 5 ∷ 6 ∷ 7 ∷ 8 ∷ []) }

c_16 : turn given 0 d22 ≡ d23
unfolding opened
c_16 = refl

abbrev e19 : Entry
e19 = record { time = 0; count = 20; repo = (Some 1); kind = (kinds.Talk (Some 1)); taken = (Some (record { peer = 0; slot = 0; up = false; epoch = 1; seq = 1; body = (Line t6) })); sent = ((record { peer = 0; slot = 0; up = true; epoch = 1; seq = 2; body = (Line t2) }) ∷ []); lines = ([]) }

abbrev p19 : List Entry
p19 = e19 ∷ p18

abbrev d24 : Driver
d24 = record { past = p19; flights = ((record { to = 0; frame = (record { peer = 1; slot = 0; up = true; epoch = 1; seq = 2; body = (Line t2) }); bytes = [] }) ∷ []); fails = ([]); contents = ((record { repo = 1; key = t0; bytes = c0 }) ∷ (record { repo = 0; key = t0; bytes = c0 }) ∷ []); parts = ([]); largest = 3; tree = ([]); marks = (2 ∷ 4 ∷ 5 ∷ 6 ∷ 7 ∷ 8 ∷ []) }

c_17 : turn given 1 d23 ≡ d24
unfolding opened
c_17 = refl

abbrev e20 : Entry
e20 = record { time = 0; count = 21; repo = (Some 0); kind = (kinds.Talk None); taken = (Some (record { peer = 1; slot = 0; up = true; epoch = 1; seq = 2; body = (Line t2) })); sent = ((record { peer = 1; slot = 0; up = false; epoch = 1; seq = 2; body = (Line t2) }) ∷ []); lines = ([]) }

abbrev p20 : List Entry
p20 = e20 ∷ p19

abbrev d25 : Driver
d25 = record { past = p20; flights = ((record { to = 1; frame = (record { peer = 0; slot = 0; up = false; epoch = 1; seq = 2; body = (Line t2) }); bytes = [] }) ∷ []); fails = ([]); contents = ((record { repo = 1; key = t0; bytes = c0 }) ∷ (record { repo = 0; key = t0; bytes = c0 }) ∷ []); parts = ([]); largest = 3; tree = ([]); marks = (2 ∷ 4 ∷ 5 ∷ 6 ∷ 7 ∷ 8 ∷ []) }

c_18 : turn given 0 d24 ≡ d25
unfolding opened
c_18 = refl

abbrev e21 : Entry
e21 = record { time = 0; count = 22; repo = (Some 1); kind = (kinds.Talk (Some 1)); taken = (Some (record { peer = 0; slot = 0; up = false; epoch = 1; seq = 2; body = (Line t2) })); sent = ((record { peer = 0; slot = 0; up = true; epoch = 1; seq = 3; body = (Line t3) }) ∷ []); lines = ([]) }

abbrev p21 : List Entry
p21 = e21 ∷ p20

abbrev d26 : Driver
d26 = record { past = p21; flights = ((record { to = 0; frame = (record { peer = 1; slot = 0; up = true; epoch = 1; seq = 3; body = (Line t3) }); bytes = [] }) ∷ []); fails = ([]); contents = ((record { repo = 1; key = t0; bytes = c0 }) ∷ (record { repo = 0; key = t0; bytes = c0 }) ∷ []); parts = ([]); largest = 3; tree = ([]); marks = (2 ∷ 4 ∷ 5 ∷ 6 ∷ 7 ∷ 8 ∷ []) }

c_19 : turn given 1 d25 ≡ d26
unfolding opened
c_19 = refl

abbrev e22 : Entry
e22 = record { time = 0; count = 23; repo = (Some 0); kind = (kinds.Check found.Barred t0); taken = (Some (record { peer = 1; slot = 0; up = true; epoch = 1; seq = 3; body = (Line t3) })); sent = ((record { peer = 1; slot = 0; up = false; epoch = 1; seq = 3; body = (Line t4) }) ∷ []); lines = ([]) }

abbrev p22 : List Entry
p22 = e22 ∷ p21

abbrev d27 : Driver
d27 = record { past = p22; flights = ((record { to = 1; frame = (record { peer = 0; slot = 0; up = false; epoch = 1; seq = 3; body = (Line t4) }); bytes = [] }) ∷ []); fails = ([]); contents = ((record { repo = 1; key = t0; bytes = c0 }) ∷ (record { repo = 0; key = t0; bytes = c0 }) ∷ []); parts = ([]); largest = 3; tree = ([]); marks = (2 ∷ 4 ∷ 5 ∷ 6 ∷ 7 ∷ 8 ∷ []) }

c_20 : turn given 0 d26 ≡ d27
unfolding opened
c_20 = refl

abbrev e23 : Entry
e23 = record { time = 0; count = 24; repo = (Some 1); kind = (kinds.Talk (Some 1)); taken = (Some (record { peer = 0; slot = 0; up = false; epoch = 1; seq = 3; body = (Line t4) })); sent = ((record { peer = 0; slot = 0; up = true; epoch = 1; seq = 4; body = (Line t5) }) ∷ []); lines = ([]) }

abbrev p23 : List Entry
p23 = e23 ∷ p22

abbrev d28 : Driver
d28 = record { past = p23; flights = ((record { to = 0; frame = (record { peer = 1; slot = 0; up = true; epoch = 1; seq = 4; body = (Line t5) }); bytes = [] }) ∷ []); fails = ([]); contents = ((record { repo = 1; key = t0; bytes = c0 }) ∷ (record { repo = 0; key = t0; bytes = c0 }) ∷ []); parts = ([]); largest = 3; tree = ([]); marks = (2 ∷ 4 ∷ 5 ∷ 6 ∷ 7 ∷ 8 ∷ []) }

c_21 : turn given 1 d27 ≡ d28
unfolding opened
c_21 = refl

abbrev e24 : Entry
e24 = record { time = 0; count = 25; repo = (Some 0); kind = (kinds.Check found.Barred t0); taken = (Some (record { peer = 1; slot = 0; up = true; epoch = 1; seq = 4; body = (Line t5) })); sent = ((record { peer = 1; slot = 0; up = false; epoch = 1; seq = 4; body = (Line t4) }) ∷ []); lines = ([]) }

abbrev p24 : List Entry
p24 = e24 ∷ p23

abbrev d29 : Driver
d29 = record { past = p24; flights = ((record { to = 1; frame = (record { peer = 0; slot = 0; up = false; epoch = 1; seq = 4; body = (Line t4) }); bytes = [] }) ∷ []); fails = ([]); contents = ((record { repo = 1; key = t0; bytes = c0 }) ∷ (record { repo = 0; key = t0; bytes = c0 }) ∷ []); parts = ([]); largest = 3; tree = ([]); marks = (2 ∷ 4 ∷ 5 ∷ 6 ∷ 7 ∷ 8 ∷ []) }

c_22 : turn given 0 d28 ≡ d29
unfolding opened
c_22 = refl

abbrev e25 : Entry
e25 = record { time = 0; count = 26; repo = (Some 1); kind = (kinds.Talk (Some 1)); taken = (Some (record { peer = 0; slot = 0; up = false; epoch = 1; seq = 4; body = (Line t4) })); sent = ([]); lines = ([]) }

abbrev p25 : List Entry
p25 = e25 ∷ p24

abbrev d30 : Driver
d30 = record { past = p25; flights = ([]); fails = ([]); contents = ((record { repo = 1; key = t0; bytes = c0 }) ∷ (record { repo = 0; key = t0; bytes = c0 }) ∷ []); parts = ([]); largest = 3; tree = ([]); marks = (2 ∷ 4 ∷ 5 ∷ 6 ∷ 7 ∷ 8 ∷ []) }

c_23 : turn given 1 d29 ≡ d30
unfolding opened
c_23 = refl

abbrev e26 : Entry
e26 = record { time = 0; count = 27; repo = (Some 0); kind = (kinds.End 1 (outcomes.Refused (drops.Lacking (record { need = (record { n = 1; m = 1 }); locked = ([]); trusted = ([]); recent = ([]) }) ((record { repo = 1; cause = causes.Barred }) ∷ [])))); taken = None; sent = ((record { peer = 1; slot = 0; up = true; epoch = 1; seq = 5; body = Closing }) ∷ []); lines = ([]) }

abbrev p26 : List Entry
p26 = e26 ∷ p25

abbrev d31 : Driver
d31 = record { past = p26; flights = ((record { to = 1; frame = (record { peer = 0; slot = 0; up = true; epoch = 1; seq = 5; body = Closing }); bytes = [] }) ∷ []); fails = ([]); contents = ((record { repo = 1; key = t0; bytes = c0 }) ∷ (record { repo = 0; key = t0; bytes = c0 }) ∷ []); parts = ([]); largest = 3; tree = ([]); marks = (2 ∷ 4 ∷ 5 ∷ 6 ∷ 7 ∷ 8 ∷ []) }

c_24 : turn given 0 d30 ≡ d31
unfolding opened
c_24 = refl

abbrev e27 : Entry
e27 = record { time = 0; count = 28; repo = (Some 1); kind = (kinds.Close 0 0 false); taken = (Some (record { peer = 0; slot = 0; up = true; epoch = 1; seq = 5; body = Closing })); sent = ([]); lines = ([]) }

abbrev p27 : List Entry
p27 = e27 ∷ p26

abbrev d32 : Driver
d32 = record { past = p27; flights = ([]); fails = ([]); contents = ((record { repo = 1; key = t0; bytes = c0 }) ∷ (record { repo = 0; key = t0; bytes = c0 }) ∷ []); parts = ([]); largest = 3; tree = ([]); marks = (2 ∷ 4 ∷ 5 ∷ 6 ∷ 7 ∷ 8 ∷ []) }

c_25 : turn given 1 d31 ≡ d32
unfolding opened
c_25 = refl

c_26 : turn given 0 d32 ≡ d32
unfolding opened
c_26 = refl

abbrev e28 : Entry
e28 = record { time = 0; count = 29; repo = (Some 1); kind = (kinds.End 1 (outcomes.Refused (drops.Lacking (record { need = (record { n = 1; m = 1 }); locked = ([]); trusted = ([]); recent = ([]) }) ((record { repo = 0; cause = causes.Barred }) ∷ [])))); taken = None; sent = ((record { peer = 0; slot = 0; up = true; epoch = 1; seq = 5; body = Closing }) ∷ []); lines = ([]) }

abbrev p28 : List Entry
p28 = e28 ∷ p27

abbrev d33 : Driver
d33 = record { past = p28; flights = ((record { to = 0; frame = (record { peer = 1; slot = 0; up = true; epoch = 1; seq = 5; body = Closing }); bytes = [] }) ∷ []); fails = ([]); contents = ((record { repo = 1; key = t0; bytes = c0 }) ∷ (record { repo = 0; key = t0; bytes = c0 }) ∷ []); parts = ([]); largest = 3; tree = ([]); marks = (2 ∷ 4 ∷ 5 ∷ 6 ∷ 7 ∷ 8 ∷ []) }

c_27 : turn given 1 d32 ≡ d33
unfolding opened
c_27 = refl

abbrev e29 : Entry
e29 = record { time = 0; count = 30; repo = (Some 0); kind = (kinds.Close 1 0 false); taken = (Some (record { peer = 1; slot = 0; up = true; epoch = 1; seq = 5; body = Closing })); sent = ([]); lines = ([]) }

abbrev p29 : List Entry
p29 = e29 ∷ p28

abbrev d34 : Driver
d34 = record { past = p29; flights = ([]); fails = ([]); contents = ((record { repo = 1; key = t0; bytes = c0 }) ∷ (record { repo = 0; key = t0; bytes = c0 }) ∷ []); parts = ([]); largest = 3; tree = ([]); marks = (2 ∷ 4 ∷ 5 ∷ 6 ∷ 7 ∷ 8 ∷ []) }

c_28 : turn given 0 d33 ≡ d34
unfolding opened
c_28 = refl

c_29 : turn given 1 d34 ≡ d34
unfolding opened
c_29 = refl

c_30 : turn given 0 d34 ≡ d34
unfolding opened
c_30 = refl

line6 : does given l6 d12 ≡ d34
line6 = settles_by given 14 d12 (record { driver = d34; idle = 2 }) (ap (goes given 13) (came given 0 d12 d14 refl (ap (turns_of given (1 ∷ [])) c_6 ∙ ap (turns_of given ([])) c_7)) ∙ (ap (goes given 12) (came given 0 d14 d16 refl (ap (turns_of given (1 ∷ [])) c_8 ∙ ap (turns_of given ([])) c_9)) ∙ (ap (goes given 11) (came given 0 d16 d18 refl (ap (turns_of given (1 ∷ [])) c_10 ∙ ap (turns_of given ([])) c_11)) ∙ (ap (goes given 10) (came given 0 d18 d20 refl (ap (turns_of given (1 ∷ [])) c_12 ∙ ap (turns_of given ([])) c_13)) ∙ (ap (goes given 9) (came given 0 d20 d22 refl (ap (turns_of given (1 ∷ [])) c_14 ∙ ap (turns_of given ([])) c_15)) ∙ (ap (goes given 8) (came given 0 d22 d24 refl (ap (turns_of given (1 ∷ [])) c_16 ∙ ap (turns_of given ([])) c_17)) ∙ (ap (goes given 7) (came given 0 d24 d26 refl (ap (turns_of given (1 ∷ [])) c_18 ∙ ap (turns_of given ([])) c_19)) ∙ (ap (goes given 6) (came given 0 d26 d28 refl (ap (turns_of given (1 ∷ [])) c_20 ∙ ap (turns_of given ([])) c_21)) ∙ (ap (goes given 5) (came given 0 d28 d30 refl (ap (turns_of given (1 ∷ [])) c_22 ∙ ap (turns_of given ([])) c_23)) ∙ (ap (goes given 4) (came given 0 d30 d32 refl (ap (turns_of given (1 ∷ [])) c_24 ∙ ap (turns_of given ([])) c_25)) ∙ (ap (goes given 3) (came given 0 d32 d33 refl (ap (turns_of given (1 ∷ [])) c_26 ∙ ap (turns_of given ([])) c_27)) ∙ (ap (goes given 2) (came given 0 d33 d34 refl (ap (turns_of given (1 ∷ [])) c_28 ∙ ap (turns_of given ([])) c_29)) ∙ (ap (goes given 1) (came given 0 d34 d34 refl (ap (turns_of given (1 ∷ [])) c_30 ∙ ap (turns_of given ([])) c_29)) ∙ (ap (goes given 0) (came given 1 d34 d34 refl (ap (turns_of given (1 ∷ [])) c_30 ∙ ap (turns_of given ([])) c_29)) ∙ (refl))))))))))))))) refl (omega arith)

abbrev d35 : Driver
d35 = record { past = p29; flights = ([]); fails = ([]); contents = ((record { repo = 1; key = t0; bytes = c0 }) ∷ (record { repo = 0; key = t0; bytes = c0 }) ∷ []); parts = ([]); largest = 3; tree = ([]); marks = (2 ∷ 4 ∷ 5 ∷ 6 ∷ 7 ∷ 8 ∷ 30 ∷ []) }

abbrev made : Run
made = record { repos = repos; entries = (e0 ∷ e1 ∷ e2 ∷ e3 ∷ e4 ∷ e5 ∷ e6 ∷ e7 ∷ e8 ∷ e9 ∷ e10 ∷ e11 ∷ e12 ∷ e13 ∷ e14 ∷ e15 ∷ e16 ∷ e17 ∷ e18 ∷ e19 ∷ e20 ∷ e21 ∷ e22 ∷ e23 ∷ e24 ∷ e25 ∷ e26 ∷ e27 ∷ e28 ∷ e29 ∷ []); tree = ([]); marks = (2 ∷ 4 ∷ 5 ∷ 6 ∷ 7 ∷ 8 ∷ 30 ∷ []) }

all : drives given (l0 ∷ l1 ∷ l2 ∷ l3 ∷ l4 ∷ l5 ∷ l6 ∷ []) at_first ≡ d35
all = ap (λ d. drives given (l1 ∷ l2 ∷ l3 ∷ l4 ∷ l5 ∷ l6 ∷ []) (with_mark d)) line0 ∙ ap (λ d. drives given (l2 ∷ l3 ∷ l4 ∷ l5 ∷ l6 ∷ []) (with_mark d)) line1 ∙ ap (λ d. drives given (l3 ∷ l4 ∷ l5 ∷ l6 ∷ []) (with_mark d)) line2 ∙ ap (λ d. drives given (l4 ∷ l5 ∷ l6 ∷ []) (with_mark d)) line3 ∙ ap (λ d. drives given (l5 ∷ l6 ∷ []) (with_mark d)) line4 ∙ ap (λ d. drives given (l6 ∷ []) (with_mark d)) line5 ∙ ap (λ d. drives given ([]) (with_mark d)) line6

claim : run_of given (l0 ∷ l1 ∷ l2 ∷ l3 ∷ l4 ∷ l5 ∷ l6 ∷ []) ≡ made
claim = ap (run_with given) all
