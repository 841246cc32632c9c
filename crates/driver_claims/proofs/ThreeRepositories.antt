-- The run of the script three-repositories: the driver makes it, turn by turn, as an executable model does.
use Rattle.std.proofs.Common.{ap, ◌∙◌, arith}
use Rattle.std.specs.Prelude.{◌≡◌, refl, ℕ, true, false, List, [], ◌∷◌, Some, None, codes}
use Rattle.run_data.specs.declared.entry.Entry.{Entry}
use Rattle.run_data.specs.declared.entry.EntryKind.TheVariants as kinds
use Rattle.run_data.specs.declared.entry.By.TheVariants as by
use Rattle.run_data.specs.declared.entry.FrameText.TheVariants.{Opening, Closing, Line}
use Rattle.run_data.specs.declared.entry.LogFile.TheVariants.{Location}
use Rattle.run_data.specs.declared.job.JobKind.TheVariants as jobs
use Rattle.run_data.specs.declared.job.Outcome.TheVariants as outcomes
use Rattle.run_data.specs.declared.run.RepoView.{RepoView}
use Rattle.run_data.specs.declared.run.Run.{Run}
use Rattle.script_commands.specs.declared.command.Action.TheVariants as actions
use Rattle.script_commands.specs.declared.command.Action.TheVariants.{Have}
use Rattle.script_commands.specs.declared.command.Command.{Command}
use Rattle.script_commands.specs.declared.command.Command.TheVariants.{Does}
use Rattle.driver_model.specs.Driver.{Driver, DriverInput, at_first}
use Rattle.driver_model.specs.ScriptSteps.{begins}
use Rattle.driver_model.specs.Turning.{turn}
use Rattle.driver_model.specs.Rounds.{settles, turns_of}
use Rattle.driver_model.specs.Driving.{does, drives, with_mark, run_of, run_with}
use Rattle.driver_claims.proofs.Settling.{came, goes, settles_by}
use Rattle.driver_claims.specs.Opened.{opened, matches_in}

abbrev t0 : List ℕ
t0 = (codes "SHA256-s3--ba7816bf8f01cfea414140de5dae2223b00361a396177a9cb410ff61f20015ad")

abbrev t1 : List ℕ
t1 = (codes "AUTH-SUCCESS 22222222-2222-4222-8222-222222222222")

abbrev t2 : List ℕ
t2 = (codes "VERSION 3")

abbrev t3 : List ℕ
t3 = (codes "LOCKCONTENT SHA256-s3--ba7816bf8f01cfea414140de5dae2223b00361a396177a9cb410ff61f20015ad")

abbrev t4 : List ℕ
t4 = (codes "SUCCESS")

abbrev t5 : List ℕ
t5 = (codes "UNLOCKCONTENT SHA256-s3--ba7816bf8f01cfea414140de5dae2223b00361a396177a9cb410ff61f20015ad")

abbrev t6 : List ℕ
t6 = (codes "1700000000s 1 11111111-1111-4111-8111-111111111111")

abbrev t7 : List ℕ
t7 = (codes "1700000000s 1 22222222-2222-4222-8222-222222222222")

abbrev t8 : List ℕ
t8 = (codes "1700000000s 1 33333333-3333-4333-8333-333333333333")

abbrev t9 : List ℕ
t9 = (codes "1700000000.000000001s 0 11111111-1111-4111-8111-111111111111")

abbrev c0 : List ℕ
c0 = (codes "abc")

abbrev repos : List RepoView
repos = ((record { name = (codes "a"); id = (17 ∷ 17 ∷ 17 ∷ 17 ∷ 17 ∷ 17 ∷ 65 ∷ 17 ∷ 129 ∷ 17 ∷ 17 ∷ 17 ∷ 17 ∷ 17 ∷ 17 ∷ 17 ∷ []); offset = 0; version = 3; locks = true }) ∷ (record { name = (codes "b"); id = (34 ∷ 34 ∷ 34 ∷ 34 ∷ 34 ∷ 34 ∷ 66 ∷ 34 ∷ 130 ∷ 34 ∷ 34 ∷ 34 ∷ 34 ∷ 34 ∷ 34 ∷ 34 ∷ []); offset = 0; version = 3; locks = true }) ∷ (record { name = (codes "c"); id = (51 ∷ 51 ∷ 51 ∷ 51 ∷ 51 ∷ 51 ∷ 67 ∷ 51 ∷ 131 ∷ 51 ∷ 51 ∷ 51 ∷ 51 ∷ 51 ∷ 51 ∷ 51 ∷ []); offset = 0; version = 3; locks = true }) ∷ [])

abbrev given : DriverInput
given = record { repos = repos; matches = matches_in ((t0, c0) ∷ []) }

abbrev l0 : Command
l0 = Does (Have 0 t0 c0)

abbrev l1 : Command
l1 = Does (Have 1 t0 c0)

abbrev l2 : Command
l2 = Does (Have 2 t0 c0)

abbrev l3 : Command
l3 = Does (actions.Run 0 (record { kind = jobs.Drop; key = t0; path = None; peer = None }))

abbrev d0 : Driver
d0 = record { past = []; flights = ([]); fails = ([]); contents = ([]); parts = ([]); largest = 0; tree = ([]); marks = ([]) }

abbrev e0 : Entry
e0 = record { time = 0; count = 1; repo = (Some 0); kind = (kinds.Gain by.Script 3 t0); taken = None; sent = ([]); lines = ([]) }

abbrev p0 : List Entry
p0 = e0 ∷ []

abbrev e1 : Entry
e1 = record { time = 0; count = 2; repo = (Some 0); kind = (kinds.Log (Location t0)); taken = None; sent = ([]); lines = (t6 ∷ []) }

abbrev p1 : List Entry
p1 = e1 ∷ p0

abbrev d1 : Driver
d1 = record { past = p1; flights = ([]); fails = ([]); contents = ((record { repo = 0; key = t0; bytes = c0 }) ∷ []); parts = ([]); largest = 3; tree = ([]); marks = ([]) }

c_0 : does given l0 d0 ≡ d1
unfolding opened
c_0 = refl

line0 : does given l0 d0 ≡ d1
line0 = c_0

abbrev d2 : Driver
d2 = record { past = p1; flights = ([]); fails = ([]); contents = ((record { repo = 0; key = t0; bytes = c0 }) ∷ []); parts = ([]); largest = 3; tree = ([]); marks = (2 ∷ []) }

abbrev e2 : Entry
e2 = record { time = 0; count = 3; repo = (Some 1); kind = (kinds.Gain by.Script 3 t0); taken = None; sent = ([]); lines = ([]) }

abbrev p2 : List Entry
p2 = e2 ∷ p1

abbrev e3 : Entry
e3 = record { time = 0; count = 4; repo = (Some 1); kind = (kinds.Log (Location t0)); taken = None; sent = ([]); lines = (t7 ∷ []) }

abbrev p3 : List Entry
p3 = e3 ∷ p2

abbrev d3 : Driver
d3 = record { past = p3; flights = ([]); fails = ([]); contents = ((record { repo = 1; key = t0; bytes = c0 }) ∷ (record { repo = 0; key = t0; bytes = c0 }) ∷ []); parts = ([]); largest = 3; tree = ([]); marks = (2 ∷ []) }

c_1 : does given l1 d2 ≡ d3
unfolding opened
c_1 = refl

line1 : does given l1 d2 ≡ d3
line1 = c_1

abbrev d4 : Driver
d4 = record { past = p3; flights = ([]); fails = ([]); contents = ((record { repo = 1; key = t0; bytes = c0 }) ∷ (record { repo = 0; key = t0; bytes = c0 }) ∷ []); parts = ([]); largest = 3; tree = ([]); marks = (2 ∷ 4 ∷ []) }

abbrev e4 : Entry
e4 = record { time = 0; count = 5; repo = (Some 2); kind = (kinds.Gain by.Script 3 t0); taken = None; sent = ([]); lines = ([]) }

abbrev p4 : List Entry
p4 = e4 ∷ p3

abbrev e5 : Entry
e5 = record { time = 0; count = 6; repo = (Some 2); kind = (kinds.Log (Location t0)); taken = None; sent = ([]); lines = (t8 ∷ []) }

abbrev p5 : List Entry
p5 = e5 ∷ p4

abbrev d5 : Driver
d5 = record { past = p5; flights = ([]); fails = ([]); contents = ((record { repo = 2; key = t0; bytes = c0 }) ∷ (record { repo = 1; key = t0; bytes = c0 }) ∷ (record { repo = 0; key = t0; bytes = c0 }) ∷ []); parts = ([]); largest = 3; tree = ([]); marks = (2 ∷ 4 ∷ []) }

c_2 : does given l2 d4 ≡ d5
unfolding opened
c_2 = refl

line2 : does given l2 d4 ≡ d5
line2 = c_2

abbrev d6 : Driver
d6 = record { past = p5; flights = ([]); fails = ([]); contents = ((record { repo = 2; key = t0; bytes = c0 }) ∷ (record { repo = 1; key = t0; bytes = c0 }) ∷ (record { repo = 0; key = t0; bytes = c0 }) ∷ []); parts = ([]); largest = 3; tree = ([]); marks = (2 ∷ 4 ∷ 6 ∷ []) }

abbrev e6 : Entry
e6 = record { time = 0; count = 7; repo = (Some 0); kind = (kinds.Begin 1 (record { kind = jobs.Drop; key = t0; path = None; peer = None })); taken = None; sent = ([]); lines = ([]) }

abbrev p6 : List Entry
p6 = e6 ∷ p5

abbrev d7 : Driver
d7 = record { past = p6; flights = ([]); fails = ([]); contents = ((record { repo = 2; key = t0; bytes = c0 }) ∷ (record { repo = 1; key = t0; bytes = c0 }) ∷ (record { repo = 0; key = t0; bytes = c0 }) ∷ []); parts = ([]); largest = 3; tree = ([]); marks = (2 ∷ 4 ∷ 6 ∷ []) }

c_3 : begins 0 (record { kind = jobs.Drop; key = t0; path = None; peer = None }) d6 ≡ d7
unfolding opened
c_3 = refl

abbrev e7 : Entry
e7 = record { time = 0; count = 8; repo = (Some 0); kind = (kinds.Bar 1 (record { n = 1; m = 1 }) t0); taken = None; sent = ([]); lines = ([]) }

abbrev p7 : List Entry
p7 = e7 ∷ p6

abbrev d8 : Driver
d8 = record { past = p7; flights = ([]); fails = ([]); contents = ((record { repo = 2; key = t0; bytes = c0 }) ∷ (record { repo = 1; key = t0; bytes = c0 }) ∷ (record { repo = 0; key = t0; bytes = c0 }) ∷ []); parts = ([]); largest = 3; tree = ([]); marks = (2 ∷ 4 ∷ 6 ∷ []) }

c_4 : turn given 0 d7 ≡ d8
unfolding opened
c_4 = refl

c_5 : turn given 1 d8 ≡ d8
unfolding opened
c_5 = refl

c_6 : turn given 2 d8 ≡ d8
unfolding opened
c_6 = refl

abbrev e8 : Entry
e8 = record { time = 0; count = 9; repo = (Some 0); kind = (kinds.Talk (Some 1)); taken = None; sent = ((record { peer = 1; slot = 0; up = true; epoch = 1; seq = 1; body = Opening }) ∷ []); lines = ([]) }

abbrev p8 : List Entry
p8 = e8 ∷ p7

abbrev d9 : Driver
d9 = record { past = p8; flights = ((record { to = 1; frame = (record { peer = 0; slot = 0; up = true; epoch = 1; seq = 1; body = Opening }); bytes = [] }) ∷ []); fails = ([]); contents = ((record { repo = 2; key = t0; bytes = c0 }) ∷ (record { repo = 1; key = t0; bytes = c0 }) ∷ (record { repo = 0; key = t0; bytes = c0 }) ∷ []); parts = ([]); largest = 3; tree = ([]); marks = (2 ∷ 4 ∷ 6 ∷ []) }

c_7 : turn given 0 d8 ≡ d9
unfolding opened
c_7 = refl

abbrev e9 : Entry
e9 = record { time = 0; count = 10; repo = (Some 1); kind = (kinds.Talk None); taken = (Some (record { peer = 0; slot = 0; up = true; epoch = 1; seq = 1; body = Opening })); sent = ((record { peer = 0; slot = 0; up = false; epoch = 1; seq = 1; body = (Line t1) }) ∷ []); lines = ([]) }

abbrev p9 : List Entry
p9 = e9 ∷ p8

abbrev d10 : Driver
d10 = record { past = p9; flights = ((record { to = 0; frame = (record { peer = 1; slot = 0; up = false; epoch = 1; seq = 1; body = (Line t1) }); bytes = [] }) ∷ []); fails = ([]); contents = ((record { repo = 2; key = t0; bytes = c0 }) ∷ (record { repo = 1; key = t0; bytes = c0 }) ∷ (record { repo = 0; key = t0; bytes = c0 }) ∷ []); parts = ([]); largest = 3; tree = ([]); marks = (2 ∷ 4 ∷ 6 ∷ []) }

c_8 : turn given 1 d9 ≡ d10
unfolding opened
c_8 = refl

c_9 : turn given 2 d10 ≡ d10
unfolding opened
c_9 = refl

abbrev e10 : Entry
e10 = record { time = 0; count = 11; repo = (Some 0); kind = (kinds.Talk (Some 1)); taken = (Some (record { peer = 1; slot = 0; up = false; epoch = 1; seq = 1; body = (Line t1) })); sent = ((record { peer = 1; slot = 0; up = true; epoch = 1; seq = 2; body = (Line t2) }) ∷ []); lines = ([]) }

abbrev p10 : List Entry
p10 = e10 ∷ p9

abbrev d11 : Driver
d11 = record { past = p10; flights = ((record { to = 1; frame = (record { peer = 0; slot = 0; up = true; epoch = 1; seq = 2; body = (Line t2) }); bytes = [] }) ∷ []); fails = ([]); contents = ((record { repo = 2; key = t0; bytes = c0 }) ∷ (record { repo = 1; key = t0; bytes = c0 }) ∷ (record { repo = 0; key = t0; bytes = c0 }) ∷ []); parts = ([]); largest = 3; tree = ([]); marks = (2 ∷ 4 ∷ 6 ∷ []) }

c_10 : turn given 0 d10 ≡ d11
unfolding opened
c_10 = refl

abbrev e11 : Entry
e11 = record { time = 0; count = 12; repo = (Some 1); kind = (kinds.Talk None); taken = (Some (record { peer = 0; slot = 0; up = true; epoch = 1; seq = 2; body = (Line t2) })); sent = ((record { peer = 0; slot = 0; up = false; epoch = 1; seq = 2; body = (Line t2) }) ∷ []); lines = ([]) }

abbrev p11 : List Entry
p11 = e11 ∷ p10

abbrev d12 : Driver
d12 = record { past = p11; flights = ((record { to = 0; frame = (record { peer = 1; slot = 0; up = false; epoch = 1; seq = 2; body = (Line t2) }); bytes = [] }) ∷ []); fails = ([]); contents = ((record { repo = 2; key = t0; bytes = c0 }) ∷ (record { repo = 1; key = t0; bytes = c0 }) ∷ (record { repo = 0; key = t0; bytes = c0 }) ∷ []); parts = ([]); largest = 3; tree = ([]); marks = (2 ∷ 4 ∷ 6 ∷ []) }

c_11 : turn given 1 d11 ≡ d12
unfolding opened
c_11 = refl

c_12 : turn given 2 d12 ≡ d12
unfolding opened
c_12 = refl

abbrev e12 : Entry
e12 = record { time = 0; count = 13; repo = (Some 0); kind = (kinds.Talk (Some 1)); taken = (Some (record { peer = 1; slot = 0; up = false; epoch = 1; seq = 2; body = (Line t2) })); sent = ((record { peer = 1; slot = 0; up = true; epoch = 1; seq = 3; body = (Line t3) }) ∷ []); lines = ([]) }

abbrev p12 : List Entry
p12 = e12 ∷ p11

abbrev d13 : Driver
d13 = record { past = p12; flights = ((record { to = 1; frame = (record { peer = 0; slot = 0; up = true; epoch = 1; seq = 3; body = (Line t3) }); bytes = [] }) ∷ []); fails = ([]); contents = ((record { repo = 2; key = t0; bytes = c0 }) ∷ (record { repo = 1; key = t0; bytes = c0 }) ∷ (record { repo = 0; key = t0; bytes = c0 }) ∷ []); parts = ([]); largest = 3; tree = ([]); marks = (2 ∷ 4 ∷ 6 ∷ []) }

c_13 : turn given 0 d12 ≡ d13
unfolding opened
c_13 = refl

abbrev e13 : Entry
e13 = record { time = 0; count = 14; repo = (Some 1); kind = (kinds.Share 5 600000 (by.Peer 0 0) t0); taken = (Some (record { peer = 0; slot = 0; up = true; epoch = 1; seq = 3; body = (Line t3) })); sent = ((record { peer = 0; slot = 0; up = false; epoch = 1; seq = 3; body = (Line t4) }) ∷ []); lines = ([]) }

abbrev p13 : List Entry
p13 = e13 ∷ p12

abbrev d14 : Driver
d14 = record { past = p13; flights = ((record { to = 0; frame = (record { peer = 1; slot = 0; up = false; epoch = 1; seq = 3; body = (Line t4) }); bytes = [] }) ∷ []); fails = ([]); contents = ((record { repo = 2; key = t0; bytes = c0 }) ∷ (record { repo = 1; key = t0; bytes = c0 }) ∷ (record { repo = 0; key = t0; bytes = c0 }) ∷ []); parts = ([]); largest = 3; tree = ([]); marks = (2 ∷ 4 ∷ 6 ∷ []) }

c_14 : turn given 1 d13 ≡ d14
unfolding opened
c_14 = refl

c_15 : turn given 2 d14 ≡ d14
unfolding opened
c_15 = refl

abbrev e14 : Entry
e14 = record { time = 0; count = 15; repo = (Some 0); kind = (kinds.Talk (Some 1)); taken = (Some (record { peer = 1; slot = 0; up = false; epoch = 1; seq = 3; body = (Line t4) })); sent = ([]); lines = ([]) }

abbrev p14 : List Entry
p14 = e14 ∷ p13

abbrev d15 : Driver
d15 = record { past = p14; flights = ([]); fails = ([]); contents = ((record { repo = 2; key = t0; bytes = c0 }) ∷ (record { repo = 1; key = t0; bytes = c0 }) ∷ (record { repo = 0; key = t0; bytes = c0 }) ∷ []); parts = ([]); largest = 3; tree = ([]); marks = (2 ∷ 4 ∷ 6 ∷ []) }

c_16 : turn given 0 d14 ≡ d15
unfolding opened
c_16 = refl

c_17 : turn given 1 d15 ≡ d15
unfolding opened
c_17 = refl

c_18 : turn given 2 d15 ≡ d15
unfolding opened
c_18 = refl

abbrev e15 : Entry
e15 = record { time = 0; count = 16; repo = (Some 0); kind = (kinds.Gone (by.Job 1) t0); taken = None; sent = ([]); lines = ([]) }

abbrev p15 : List Entry
p15 = e15 ∷ p14

abbrev d16 : Driver
d16 = record { past = p15; flights = ([]); fails = ([]); contents = ((record { repo = 2; key = t0; bytes = c0 }) ∷ (record { repo = 1; key = t0; bytes = c0 }) ∷ []); parts = ([]); largest = 3; tree = ([]); marks = (2 ∷ 4 ∷ 6 ∷ []) }

c_19 : turn given 0 d15 ≡ d16
unfolding opened
c_19 = refl

c_20 : turn given 1 d16 ≡ d16
unfolding opened
c_20 = refl

c_21 : turn given 2 d16 ≡ d16
unfolding opened
c_21 = refl

abbrev e16 : Entry
e16 = record { time = 0; count = 17; repo = (Some 0); kind = (kinds.Log (Location t0)); taken = None; sent = ([]); lines = (t9 ∷ []) }

abbrev p16 : List Entry
p16 = e16 ∷ p15

abbrev d17 : Driver
d17 = record { past = p16; flights = ([]); fails = ([]); contents = ((record { repo = 2; key = t0; bytes = c0 }) ∷ (record { repo = 1; key = t0; bytes = c0 }) ∷ []); parts = ([]); largest = 3; tree = ([]); marks = (2 ∷ 4 ∷ 6 ∷ []) }

c_22 : turn given 0 d16 ≡ d17
unfolding opened
c_22 = refl

c_23 : turn given 1 d17 ≡ d17
unfolding opened
c_23 = refl

c_24 : turn given 2 d17 ≡ d17
unfolding opened
c_24 = refl

abbrev e17 : Entry
e17 = record { time = 0; count = 18; repo = (Some 0); kind = (kinds.End 1 (outcomes.Dropped (record { need = (record { n = 1; m = 1 }); locked = (1 ∷ []); trusted = ([]); recent = ([]) }))); taken = None; sent = ((record { peer = 1; slot = 0; up = true; epoch = 1; seq = 4; body = (Line t5) }) ∷ (record { peer = 1; slot = 0; up = true; epoch = 1; seq = 5; body = Closing }) ∷ []); lines = ([]) }

abbrev p17 : List Entry
p17 = e17 ∷ p16

abbrev d18 : Driver
d18 = record { past = p17; flights = ((record { to = 1; frame = (record { peer = 0; slot = 0; up = true; epoch = 1; seq = 4; body = (Line t5) }); bytes = [] }) ∷ (record { to = 1; frame = (record { peer = 0; slot = 0; up = true; epoch = 1; seq = 5; body = Closing }); bytes = [] }) ∷ []); fails = ([]); contents = ((record { repo = 2; key = t0; bytes = c0 }) ∷ (record { repo = 1; key = t0; bytes = c0 }) ∷ []); parts = ([]); largest = 3; tree = ([]); marks = (2 ∷ 4 ∷ 6 ∷ []) }

c_25 : turn given 0 d17 ≡ d18
unfolding opened
c_25 = refl

abbrev e18 : Entry
e18 = record { time = 0; count = 19; repo = (Some 1); kind = (kinds.Release 5 t0); taken = (Some (record { peer = 0; slot = 0; up = true; epoch = 1; seq = 4; body = (Line t5) })); sent = ([]); lines = ([]) }

abbrev p18 : List Entry
p18 = e18 ∷ p17

abbrev d19 : Driver
d19 = record { past = p18; flights = ((record { to = 1; frame = (record { peer = 0; slot = 0; up = true; epoch = 1; seq = 5; body = Closing }); bytes = [] }) ∷ []); fails = ([]); contents = ((record { repo = 2; key = t0; bytes = c0 }) ∷ (record { repo = 1; key = t0; bytes = c0 }) ∷ []); parts = ([]); largest = 3; tree = ([]); marks = (2 ∷ 4 ∷ 6 ∷ []) }

c_26 : turn given 1 d18 ≡ d19
unfolding opened
c_26 = refl

c_27 : turn given 2 d19 ≡ d19
unfolding opened
c_27 = refl

c_28 : turn given 0 d19 ≡ d19
unfolding opened
c_28 = refl

abbrev e19 : Entry
e19 = record { time = 0; count = 20; repo = (Some 1); kind = (kinds.Close 0 0 false); taken = (Some (record { peer = 0; slot = 0; up = true; epoch = 1; seq = 5; body = Closing })); sent = ([]); lines = ([]) }

abbrev p19 : List Entry
p19 = e19 ∷ p18

abbrev d20 : Driver
d20 = record { past = p19; flights = ([]); fails = ([]); contents = ((record { repo = 2; key = t0; bytes = c0 }) ∷ (record { repo = 1; key = t0; bytes = c0 }) ∷ []); parts = ([]); largest = 3; tree = ([]); marks = (2 ∷ 4 ∷ 6 ∷ []) }

c_29 : turn given 1 d19 ≡ d20
unfolding opened
c_29 = refl

c_30 : turn given 2 d20 ≡ d20
unfolding opened
c_30 = refl

c_31 : turn given 0 d20 ≡ d20
unfolding opened
c_31 = refl

c_32 : turn given 1 d20 ≡ d20
unfolding opened
c_32 = refl

line3 : does given l3 d6 ≡ d20
line3 = ap (settles given) c_3 ∙ settles_by given 11 d7 (record { driver = d20; idle = 2 }) (ap (goes given 10) (came given 0 d7 d8 refl (ap (turns_of given (1 ∷ 2 ∷ [])) c_4 ∙ ap (turns_of given (2 ∷ [])) c_5 ∙ ap (turns_of given ([])) c_6)) ∙ (ap (goes given 9) (came given 0 d8 d10 refl (ap (turns_of given (1 ∷ 2 ∷ [])) c_7 ∙ ap (turns_of given (2 ∷ [])) c_8 ∙ ap (turns_of given ([])) c_9)) ∙ (ap (goes given 8) (came given 0 d10 d12 refl (ap (turns_of given (1 ∷ 2 ∷ [])) c_10 ∙ ap (turns_of given (2 ∷ [])) c_11 ∙ ap (turns_of given ([])) c_12)) ∙ (ap (goes given 7) (came given 0 d12 d14 refl (ap (turns_of given (1 ∷ 2 ∷ [])) c_13 ∙ ap (turns_of given (2 ∷ [])) c_14 ∙ ap (turns_of given ([])) c_15)) ∙ (ap (goes given 6) (came given 0 d14 d15 refl (ap (turns_of given (1 ∷ 2 ∷ [])) c_16 ∙ ap (turns_of given (2 ∷ [])) c_17 ∙ ap (turns_of given ([])) c_18)) ∙ (ap (goes given 5) (came given 0 d15 d16 refl (ap (turns_of given (1 ∷ 2 ∷ [])) c_19 ∙ ap (turns_of given (2 ∷ [])) c_20 ∙ ap (turns_of given ([])) c_21)) ∙ (ap (goes given 4) (came given 0 d16 d17 refl (ap (turns_of given (1 ∷ 2 ∷ [])) c_22 ∙ ap (turns_of given (2 ∷ [])) c_23 ∙ ap (turns_of given ([])) c_24)) ∙ (ap (goes given 3) (came given 0 d17 d19 refl (ap (turns_of given (1 ∷ 2 ∷ [])) c_25 ∙ ap (turns_of given (2 ∷ [])) c_26 ∙ ap (turns_of given ([])) c_27)) ∙ (ap (goes given 2) (came given 0 d19 d20 refl (ap (turns_of given (1 ∷ 2 ∷ [])) c_28 ∙ ap (turns_of given (2 ∷ [])) c_29 ∙ ap (turns_of given ([])) c_30)) ∙ (ap (goes given 1) (came given 0 d20 d20 refl (ap (turns_of given (1 ∷ 2 ∷ [])) c_31 ∙ ap (turns_of given (2 ∷ [])) c_32 ∙ ap (turns_of given ([])) c_30)) ∙ (ap (goes given 0) (came given 1 d20 d20 refl (ap (turns_of given (1 ∷ 2 ∷ [])) c_31 ∙ ap (turns_of given (2 ∷ [])) c_32 ∙ ap (turns_of given ([])) c_30)) ∙ (refl)))))))))))) refl (omega arith)

abbrev d21 : Driver
d21 = record { past = p19; flights = ([]); fails = ([]); contents = ((record { repo = 2; key = t0; bytes = c0 }) ∷ (record { repo = 1; key = t0; bytes = c0 }) ∷ []); parts = ([]); largest = 3; tree = ([]); marks = (2 ∷ 4 ∷ 6 ∷ 20 ∷ []) }

abbrev made : Run
made = record { repos = repos; entries = (e0 ∷ e1 ∷ e2 ∷ e3 ∷ e4 ∷ e5 ∷ e6 ∷ e7 ∷ e8 ∷ e9 ∷ e10 ∷ e11 ∷ e12 ∷ e13 ∷ e14 ∷ e15 ∷ e16 ∷ e17 ∷ e18 ∷ e19 ∷ []); tree = ([]); marks = (2 ∷ 4 ∷ 6 ∷ 20 ∷ []) }

all : drives given (l0 ∷ l1 ∷ l2 ∷ l3 ∷ []) at_first ≡ d21
all = ap (λ d. drives given (l1 ∷ l2 ∷ l3 ∷ []) (with_mark d)) line0 ∙ ap (λ d. drives given (l2 ∷ l3 ∷ []) (with_mark d)) line1 ∙ ap (λ d. drives given (l3 ∷ []) (with_mark d)) line2 ∙ ap (λ d. drives given ([]) (with_mark d)) line3

claim : run_of given (l0 ∷ l1 ∷ l2 ∷ l3 ∷ []) ≡ made
claim = ap (run_with given) all
