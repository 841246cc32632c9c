-- The run of a block of drops: the driver makes it, turn by turn, as an executable model does.
use Rattle.std.proofs.Common.{ap, ◌∙◌, arith}
use Rattle.std.specs.Prelude.{◌≡◌, refl, ℕ, true, false, List, [], ◌∷◌, Some, None, codes}
use Rattle.annex_base.specs.declared.kinds.Call.TheVariants as calls
use Rattle.annex_base.specs.declared.kinds.Found.TheVariants as found
use Rattle.run_data.specs.declared.entry.Entry.{Entry}
use Rattle.run_data.specs.declared.entry.EntryKind.TheVariants as kinds
use Rattle.run_data.specs.declared.entry.By.TheVariants as by
use Rattle.run_data.specs.declared.entry.FrameText.TheVariants.{Opening, Closing, Line}
use Rattle.run_data.specs.declared.entry.LogFile.TheVariants.{Location}
use Rattle.run_data.specs.declared.job.JobKind.TheVariants as jobs
use Rattle.run_data.specs.declared.job.Outcome.TheVariants as outcomes
use Rattle.run_data.specs.declared.job.DropRefusal.TheVariants as drops
use Rattle.run_data.specs.declared.job.Cause.TheVariants as causes
use Rattle.run_data.specs.declared.run.RepoView.{RepoView}
use Rattle.run_data.specs.declared.run.Run.{Run}
use Rattle.script_commands.specs.declared.command.Action.TheVariants.{Have}
use Rattle.script_commands.specs.declared.command.BlockLine.TheVariants.{Runs, Crashes, Fails}
use Rattle.script_commands.specs.declared.command.Command.{Command}
use Rattle.script_commands.specs.declared.command.Command.TheVariants.{Does, Par}
use Rattle.driver_model.specs.Driver.{Driver, DriverInput, at_first}
use Rattle.driver_model.specs.ScriptSteps.{begins, crashes, will_fail}
use Rattle.driver_model.specs.Turning.{turn}
use Rattle.driver_model.specs.Rounds.{Block, InBlock, takes_each, turns_of}
use Rattle.driver_model.specs.Driving.{does, drives, with_mark, run_of, run_with}
use Rattle.driver_claims.proofs.Settling.{block_came, block_goes, blocks_by, came, goes, settles_by}
use Rattle.driver_claims.specs.Opened.{opened, matches_in}

abbrev t0 : List ℕ
t0 = (codes "WORM-s3--k1")

abbrev t1 : List ℕ
t1 = (codes "AUTH-SUCCESS 22222222-1111-4111-8111-111111111101")

abbrev t2 : List ℕ
t2 = (codes "VERSION 3")

abbrev t3 : List ℕ
t3 = (codes "LOCKCONTENT WORM-s3--k1")

abbrev t4 : List ℕ
t4 = (codes "FAILURE")

abbrev t5 : List ℕ
t5 = (codes "CHECKPRESENT WORM-s3--k1")

abbrev t6 : List ℕ
t6 = (codes "1700000000s 1 11111111-1111-4111-8111-111111111100")

abbrev c0 : List ℕ
c0 = (codes "abc")

abbrev repos : List RepoView
repos = ((record { name = (codes "a"); id = (17 ∷ 17 ∷ 17 ∷ 17 ∷ 17 ∷ 17 ∷ 65 ∷ 17 ∷ 129 ∷ 17 ∷ 17 ∷ 17 ∷ 17 ∷ 17 ∷ 17 ∷ 0 ∷ []); offset = 0; version = 3; locks = true }) ∷ (record { name = (codes "b"); id = (34 ∷ 34 ∷ 34 ∷ 34 ∷ 17 ∷ 17 ∷ 65 ∷ 17 ∷ 129 ∷ 17 ∷ 17 ∷ 17 ∷ 17 ∷ 17 ∷ 17 ∷ 1 ∷ []); offset = 0; version = 3; locks = false }) ∷ [])

abbrev given : DriverInput
given = record { repos = repos; matches = matches_in ((t0, c0) ∷ []) }

abbrev l0 : Command
l0 = Does (Have 0 t0 c0)

abbrev l1 : Command
l1 = Par ((record { repo = 0; line = Runs (record { kind = jobs.Drop; key = t0; path = None; peer = None }) }) ∷ (record { repo = 1; line = Crashes 0 }) ∷ (record { repo = 0; line = Fails calls.Has }) ∷ (record { repo = 0; line = Runs (record { kind = jobs.Drop; key = t0; path = None; peer = None }) }) ∷ [])

abbrev d0 : Driver
d0 = record { past = []; flights = ([]); fails = ([]); contents = ([]); parts = ([]); largest = 0; tree = ([]); marks = ([]) }

abbrev e0 : Entry
e0 = record { time = 0; count = 1; repo = (Some 0); kind = (kinds.Gain by.Script 3 t0); taken = None; sent = ([]); lines = ([]) }

abbrev p0 : List Entry
p0 = e0 ∷ []

abbrev e1 : Entry
e1 = record { time = 0; count = 2; repo = (Some 0); kind = (kinds.Log (Location t0)); taken = None; sent = ([]); lines = (t6 ∷ []) }

abbrev p1 : List Entry
p1 = e1 ∷ p0

abbrev d1 : Driver
d1 = record { past = p1; flights = ([]); fails = ([]); contents = ((record { repo = 0; key = t0; bytes = c0 }) ∷ []); parts = ([]); largest = 3; tree = ([]); marks = ([]) }

c_0 : does given l0 d0 ≡ d1
unfolding opened
c_0 = refl

line0 : does given l0 d0 ≡ d1
line0 = c_0

abbrev d2 : Driver
d2 = record { past = p1; flights = ([]); fails = ([]); contents = ((record { repo = 0; key = t0; bytes = c0 }) ∷ []); parts = ([]); largest = 3; tree = ([]); marks = (2 ∷ []) }

abbrev b1 : InBlock
b1 = record { driver = d2; left = ((record { repo = 0; lines = ((Runs (record { kind = jobs.Drop; key = t0; path = None; peer = None })) ∷ (Fails calls.Has) ∷ (Runs (record { kind = jobs.Drop; key = t0; path = None; peer = None })) ∷ []); jobs = ([]) }) ∷ (record { repo = 1; lines = ((Crashes 0) ∷ []); jobs = ([]) }) ∷ []); idle = 0; took = true }

abbrev e2 : Entry
e2 = record { time = 0; count = 3; repo = (Some 0); kind = (kinds.Begin 1 (record { kind = jobs.Drop; key = t0; path = None; peer = None })); taken = None; sent = ([]); lines = ([]) }

abbrev p2 : List Entry
p2 = e2 ∷ p1

abbrev d3 : Driver
d3 = record { past = p2; flights = ([]); fails = ([]); contents = ((record { repo = 0; key = t0; bytes = c0 }) ∷ []); parts = ([]); largest = 3; tree = ([]); marks = (2 ∷ []) }

c_1 : begins 0 (record { kind = jobs.Drop; key = t0; path = None; peer = None }) d2 ≡ d3
unfolding opened
c_1 = refl

abbrev d4 : Driver
d4 = record { past = p2; flights = ([]); fails = ((record { repo = 0; call = calls.Has }) ∷ []); contents = ((record { repo = 0; key = t0; bytes = c0 }) ∷ []); parts = ([]); largest = 3; tree = ([]); marks = (2 ∷ []) }

c_2 : will_fail 0 calls.Has d3 ≡ d4
unfolding opened
c_2 = refl

abbrev e3 : Entry
e3 = record { time = 0; count = 4; repo = (Some 1); kind = (kinds.Crash 0); taken = None; sent = ([]); lines = ([]) }

abbrev p3 : List Entry
p3 = e3 ∷ p2

abbrev d5 : Driver
d5 = record { past = p3; flights = ([]); fails = ((record { repo = 0; call = calls.Has }) ∷ []); contents = ((record { repo = 0; key = t0; bytes = c0 }) ∷ []); parts = ([]); largest = 3; tree = ([]); marks = (2 ∷ []) }

c_3 : crashes given 1 0 d4 ≡ d5
unfolding opened
c_3 = refl

abbrev b2 : Block
b2 = record { driver = d5; left = ((record { repo = 0; lines = ((Runs (record { kind = jobs.Drop; key = t0; path = None; peer = None })) ∷ []); jobs = (1 ∷ []) }) ∷ (record { repo = 1; lines = ([]); jobs = ([]) }) ∷ []) }

c_4 : takes_each given ((record { repo = 0; lines = ((Runs (record { kind = jobs.Drop; key = t0; path = None; peer = None })) ∷ (Fails calls.Has) ∷ (Runs (record { kind = jobs.Drop; key = t0; path = None; peer = None })) ∷ []); jobs = ([]) }) ∷ (record { repo = 1; lines = ((Crashes 0) ∷ []); jobs = ([]) }) ∷ []) d2 ≡ b2
unfolding opened
c_4 = refl

abbrev e4 : Entry
e4 = record { time = 0; count = 5; repo = (Some 0); kind = (kinds.Fault calls.Has (by.Job 1)); taken = None; sent = ([]); lines = ([]) }

abbrev p4 : List Entry
p4 = e4 ∷ p3

abbrev d6 : Driver
d6 = record { past = p4; flights = ([]); fails = ([]); contents = ((record { repo = 0; key = t0; bytes = c0 }) ∷ []); parts = ([]); largest = 3; tree = ([]); marks = (2 ∷ []) }

c_5 : turn given 0 d5 ≡ d6
unfolding opened
c_5 = refl

c_6 : turn given 1 d6 ≡ d6
unfolding opened
c_6 = refl

abbrev b3 : InBlock
b3 = record { driver = d6; left = ((record { repo = 0; lines = ((Runs (record { kind = jobs.Drop; key = t0; path = None; peer = None })) ∷ []); jobs = (1 ∷ []) }) ∷ (record { repo = 1; lines = ([]); jobs = ([]) }) ∷ []); idle = 0; took = true }

abbrev b4 : Block
b4 = record { driver = d6; left = ((record { repo = 0; lines = ((Runs (record { kind = jobs.Drop; key = t0; path = None; peer = None })) ∷ []); jobs = (1 ∷ []) }) ∷ (record { repo = 1; lines = ([]); jobs = ([]) }) ∷ []) }

c_7 : takes_each given ((record { repo = 0; lines = ((Runs (record { kind = jobs.Drop; key = t0; path = None; peer = None })) ∷ []); jobs = (1 ∷ []) }) ∷ (record { repo = 1; lines = ([]); jobs = ([]) }) ∷ []) d6 ≡ b4
unfolding opened
c_7 = refl

abbrev e5 : Entry
e5 = record { time = 0; count = 6; repo = (Some 0); kind = (kinds.End 1 (outcomes.Refused drops.StoreFault)); taken = None; sent = ([]); lines = ([]) }

abbrev p5 : List Entry
p5 = e5 ∷ p4

abbrev d7 : Driver
d7 = record { past = p5; flights = ([]); fails = ([]); contents = ((record { repo = 0; key = t0; bytes = c0 }) ∷ []); parts = ([]); largest = 3; tree = ([]); marks = (2 ∷ []) }

c_8 : turn given 0 d6 ≡ d7
unfolding opened
c_8 = refl

c_9 : turn given 1 d7 ≡ d7
unfolding opened
c_9 = refl

abbrev b5 : InBlock
b5 = record { driver = d7; left = ((record { repo = 0; lines = ((Runs (record { kind = jobs.Drop; key = t0; path = None; peer = None })) ∷ []); jobs = (1 ∷ []) }) ∷ (record { repo = 1; lines = ([]); jobs = ([]) }) ∷ []); idle = 0; took = false }

abbrev e6 : Entry
e6 = record { time = 0; count = 7; repo = (Some 0); kind = (kinds.Begin 2 (record { kind = jobs.Drop; key = t0; path = None; peer = None })); taken = None; sent = ([]); lines = ([]) }

abbrev p6 : List Entry
p6 = e6 ∷ p5

abbrev d8 : Driver
d8 = record { past = p6; flights = ([]); fails = ([]); contents = ((record { repo = 0; key = t0; bytes = c0 }) ∷ []); parts = ([]); largest = 3; tree = ([]); marks = (2 ∷ []) }

c_10 : begins 0 (record { kind = jobs.Drop; key = t0; path = None; peer = None }) d7 ≡ d8
unfolding opened
c_10 = refl

abbrev b6 : Block
b6 = record { driver = d8; left = ((record { repo = 0; lines = ([]); jobs = (2 ∷ 1 ∷ []) }) ∷ (record { repo = 1; lines = ([]); jobs = ([]) }) ∷ []) }

c_11 : takes_each given ((record { repo = 0; lines = ((Runs (record { kind = jobs.Drop; key = t0; path = None; peer = None })) ∷ []); jobs = (1 ∷ []) }) ∷ (record { repo = 1; lines = ([]); jobs = ([]) }) ∷ []) d7 ≡ b6
unfolding opened
c_11 = refl

abbrev e7 : Entry
e7 = record { time = 0; count = 8; repo = (Some 0); kind = (kinds.Bar 2 (record { n = 1; m = 1 }) t0); taken = None; sent = ([]); lines = ([]) }

abbrev p7 : List Entry
p7 = e7 ∷ p6

abbrev d9 : Driver
d9 = record { past = p7; flights = ([]); fails = ([]); contents = ((record { repo = 0; key = t0; bytes = c0 }) ∷ []); parts = ([]); largest = 3; tree = ([]); marks = (2 ∷ []) }

c_12 : turn given 0 d8 ≡ d9
unfolding opened
c_12 = refl

c_13 : turn given 1 d9 ≡ d9
unfolding opened
c_13 = refl

abbrev b7 : InBlock
b7 = record { driver = d9; left = ((record { repo = 0; lines = ([]); jobs = (2 ∷ 1 ∷ []) }) ∷ (record { repo = 1; lines = ([]); jobs = ([]) }) ∷ []); idle = 0; took = true }

abbrev b8 : Block
b8 = record { driver = d9; left = ((record { repo = 0; lines = ([]); jobs = (2 ∷ 1 ∷ []) }) ∷ (record { repo = 1; lines = ([]); jobs = ([]) }) ∷ []) }

c_14 : takes_each given ((record { repo = 0; lines = ([]); jobs = (2 ∷ 1 ∷ []) }) ∷ (record { repo = 1; lines = ([]); jobs = ([]) }) ∷ []) d9 ≡ b8
unfolding opened
c_14 = refl

abbrev e8 : Entry
e8 = record { time = 0; count = 9; repo = (Some 0); kind = (kinds.Talk (Some 2)); taken = None; sent = ((record { peer = 1; slot = 0; up = true; epoch = 1; seq = 1; body = Opening }) ∷ []); lines = ([]) }

abbrev p8 : List Entry
p8 = e8 ∷ p7

abbrev d10 : Driver
d10 = record { past = p8; flights = ((record { to = 1; frame = (record { peer = 0; slot = 0; up = true; epoch = 1; seq = 1; body = Opening }); bytes = [] }) ∷ []); fails = ([]); contents = ((record { repo = 0; key = t0; bytes = c0 }) ∷ []); parts = ([]); largest = 3; tree = ([]); marks = (2 ∷ []) }

c_15 : turn given 0 d9 ≡ d10
unfolding opened
c_15 = refl

abbrev e9 : Entry
e9 = record { time = 0; count = 10; repo = (Some 1); kind = (kinds.Talk None); taken = (Some (record { peer = 0; slot = 0; up = true; epoch = 1; seq = 1; body = Opening })); sent = ((record { peer = 0; slot = 0; up = false; epoch = 1; seq = 1; body = (Line t1) }) ∷ []); lines = ([]) }

abbrev p9 : List Entry
p9 = e9 ∷ p8

abbrev d11 : Driver
d11 = record { past = p9; flights = ((record { to = 0; frame = (record { peer = 1; slot = 0; up = false; epoch = 1; seq = 1; body = (Line t1) }); bytes = [] }) ∷ []); fails = ([]); contents = ((record { repo = 0; key = t0; bytes = c0 }) ∷ []); parts = ([]); largest = 3; tree = ([]); marks = (2 ∷ []) }

c_16 : turn given 1 d10 ≡ d11
unfolding opened
c_16 = refl

abbrev b9 : InBlock
b9 = record { driver = d11; left = ((record { repo = 0; lines = ([]); jobs = (2 ∷ 1 ∷ []) }) ∷ (record { repo = 1; lines = ([]); jobs = ([]) }) ∷ []); idle = 0; took = false }

abbrev b10 : Block
b10 = record { driver = d11; left = ((record { repo = 0; lines = ([]); jobs = (2 ∷ 1 ∷ []) }) ∷ (record { repo = 1; lines = ([]); jobs = ([]) }) ∷ []) }

c_17 : takes_each given ((record { repo = 0; lines = ([]); jobs = (2 ∷ 1 ∷ []) }) ∷ (record { repo = 1; lines = ([]); jobs = ([]) }) ∷ []) d11 ≡ b10
unfolding opened
c_17 = refl

abbrev e10 : Entry
e10 = record { time = 0; count = 11; repo = (Some 0); kind = (kinds.Talk (Some 2)); taken = (Some (record { peer = 1; slot = 0; up = false; epoch = 1; seq = 1; body = (Line t1) })); sent = ((record { peer = 1; slot = 0; up = true; epoch = 1; seq = 2; body = (Line t2) }) ∷ []); lines = ([]) }

abbrev p10 : List Entry
p10 = e10 ∷ p9

abbrev d12 : Driver
d12 = record { past = p10; flights = ((record { to = 1; frame = (record { peer = 0; slot = 0; up = true; epoch = 1; seq = 2; body = (Line t2) }); bytes = [] }) ∷ []); fails = ([]); contents = ((record { repo = 0; key = t0; bytes = c0 }) ∷ []); parts = ([]); largest = 3; tree = ([]); marks = (2 ∷ []) }

c_18 : turn given 0 d11 ≡ d12
unfolding opened
c_18 = refl

abbrev e11 : Entry
e11 = record { time = 0; count = 12; repo = (Some 1); kind = (kinds.Talk None); taken = (Some (record { peer = 0; slot = 0; up = true; epoch = 1; seq = 2; body = (Line t2) })); sent = ((record { peer = 0; slot = 0; up = false; epoch = 1; seq = 2; body = (Line t2) }) ∷ []); lines = ([]) }

abbrev p11 : List Entry
p11 = e11 ∷ p10

abbrev d13 : Driver
d13 = record { past = p11; flights = ((record { to = 0; frame = (record { peer = 1; slot = 0; up = false; epoch = 1; seq = 2; body = (Line t2) }); bytes = [] }) ∷ []); fails = ([]); contents = ((record { repo = 0; key = t0; bytes = c0 }) ∷ []); parts = ([]); largest = 3; tree = ([]); marks = (2 ∷ []) }

c_19 : turn given 1 d12 ≡ d13
unfolding opened
c_19 = refl

abbrev b11 : InBlock
b11 = record { driver = d13; left = ((record { repo = 0; lines = ([]); jobs = (2 ∷ 1 ∷ []) }) ∷ (record { repo = 1; lines = ([]); jobs = ([]) }) ∷ []); idle = 0; took = false }

abbrev b12 : Block
b12 = record { driver = d13; left = ((record { repo = 0; lines = ([]); jobs = (2 ∷ 1 ∷ []) }) ∷ (record { repo = 1; lines = ([]); jobs = ([]) }) ∷ []) }

c_20 : takes_each given ((record { repo = 0; lines = ([]); jobs = (2 ∷ 1 ∷ []) }) ∷ (record { repo = 1; lines = ([]); jobs = ([]) }) ∷ []) d13 ≡ b12
unfolding opened
c_20 = refl

abbrev e12 : Entry
e12 = record { time = 0; count = 13; repo = (Some 0); kind = (kinds.Talk (Some 2)); taken = (Some (record { peer = 1; slot = 0; up = false; epoch = 1; seq = 2; body = (Line t2) })); sent = ((record { peer = 1; slot = 0; up = true; epoch = 1; seq = 3; body = (Line t3) }) ∷ []); lines = ([]) }

abbrev p12 : List Entry
p12 = e12 ∷ p11

abbrev d14 : Driver
d14 = record { past = p12; flights = ((record { to = 1; frame = (record { peer = 0; slot = 0; up = true; epoch = 1; seq = 3; body = (Line t3) }); bytes = [] }) ∷ []); fails = ([]); contents = ((record { repo = 0; key = t0; bytes = c0 }) ∷ []); parts = ([]); largest = 3; tree = ([]); marks = (2 ∷ []) }

c_21 : turn given 0 d13 ≡ d14
unfolding opened
c_21 = refl

abbrev e13 : Entry
e13 = record { time = 0; count = 14; repo = (Some 1); kind = (kinds.Check found.Nolock t0); taken = (Some (record { peer = 0; slot = 0; up = true; epoch = 1; seq = 3; body = (Line t3) })); sent = ((record { peer = 0; slot = 0; up = false; epoch = 1; seq = 3; body = (Line t4) }) ∷ []); lines = ([]) }

abbrev p13 : List Entry
p13 = e13 ∷ p12

abbrev d15 : Driver
d15 = record { past = p13; flights = ((record { to = 0; frame = (record { peer = 1; slot = 0; up = false; epoch = 1; seq = 3; body = (Line t4) }); bytes = [] }) ∷ []); fails = ([]); contents = ((record { repo = 0; key = t0; bytes = c0 }) ∷ []); parts = ([]); largest = 3; tree = ([]); marks = (2 ∷ []) }

c_22 : turn given 1 d14 ≡ d15
unfolding opened
c_22 = refl

abbrev b13 : InBlock
b13 = record { driver = d15; left = ((record { repo = 0; lines = ([]); jobs = (2 ∷ 1 ∷ []) }) ∷ (record { repo = 1; lines = ([]); jobs = ([]) }) ∷ []); idle = 0; took = false }

abbrev b14 : Block
b14 = record { driver = d15; left = ((record { repo = 0; lines = ([]); jobs = (2 ∷ 1 ∷ []) }) ∷ (record { repo = 1; lines = ([]); jobs = ([]) }) ∷ []) }

c_23 : takes_each given ((record { repo = 0; lines = ([]); jobs = (2 ∷ 1 ∷ []) }) ∷ (record { repo = 1; lines = ([]); jobs = ([]) }) ∷ []) d15 ≡ b14
unfolding opened
c_23 = refl

abbrev e14 : Entry
e14 = record { time = 0; count = 15; repo = (Some 0); kind = (kinds.Talk (Some 2)); taken = (Some (record { peer = 1; slot = 0; up = false; epoch = 1; seq = 3; body = (Line t4) })); sent = ((record { peer = 1; slot = 0; up = true; epoch = 1; seq = 4; body = (Line t5) }) ∷ []); lines = ([]) }

abbrev p14 : List Entry
p14 = e14 ∷ p13

abbrev d16 : Driver
d16 = record { past = p14; flights = ((record { to = 1; frame = (record { peer = 0; slot = 0; up = true; epoch = 1; seq = 4; body = (Line t5) }); bytes = [] }) ∷ []); fails = ([]); contents = ((record { repo = 0; key = t0; bytes = c0 }) ∷ []); parts = ([]); largest = 3; tree = ([]); marks = (2 ∷ []) }

c_24 : turn given 0 d15 ≡ d16
unfolding opened
c_24 = refl

abbrev e15 : Entry
e15 = record { time = 0; count = 16; repo = (Some 1); kind = (kinds.Check found.Absent t0); taken = (Some (record { peer = 0; slot = 0; up = true; epoch = 1; seq = 4; body = (Line t5) })); sent = ((record { peer = 0; slot = 0; up = false; epoch = 1; seq = 4; body = (Line t4) }) ∷ []); lines = ([]) }

abbrev p15 : List Entry
p15 = e15 ∷ p14

abbrev d17 : Driver
d17 = record { past = p15; flights = ((record { to = 0; frame = (record { peer = 1; slot = 0; up = false; epoch = 1; seq = 4; body = (Line t4) }); bytes = [] }) ∷ []); fails = ([]); contents = ((record { repo = 0; key = t0; bytes = c0 }) ∷ []); parts = ([]); largest = 3; tree = ([]); marks = (2 ∷ []) }

c_25 : turn given 1 d16 ≡ d17
unfolding opened
c_25 = refl

abbrev b15 : InBlock
b15 = record { driver = d17; left = ((record { repo = 0; lines = ([]); jobs = (2 ∷ 1 ∷ []) }) ∷ (record { repo = 1; lines = ([]); jobs = ([]) }) ∷ []); idle = 0; took = false }

abbrev b16 : Block
b16 = record { driver = d17; left = ((record { repo = 0; lines = ([]); jobs = (2 ∷ 1 ∷ []) }) ∷ (record { repo = 1; lines = ([]); jobs = ([]) }) ∷ []) }

c_26 : takes_each given ((record { repo = 0; lines = ([]); jobs = (2 ∷ 1 ∷ []) }) ∷ (record { repo = 1; lines = ([]); jobs = ([]) }) ∷ []) d17 ≡ b16
unfolding opened
c_26 = refl

abbrev e16 : Entry
e16 = record { time = 0; count = 17; repo = (Some 0); kind = (kinds.Talk (Some 2)); taken = (Some (record { peer = 1; slot = 0; up = false; epoch = 1; seq = 4; body = (Line t4) })); sent = ([]); lines = ([]) }

abbrev p16 : List Entry
p16 = e16 ∷ p15

abbrev d18 : Driver
d18 = record { past = p16; flights = ([]); fails = ([]); contents = ((record { repo = 0; key = t0; bytes = c0 }) ∷ []); parts = ([]); largest = 3; tree = ([]); marks = (2 ∷ []) }

c_27 : turn given 0 d17 ≡ d18
unfolding opened
c_27 = refl

c_28 : turn given 1 d18 ≡ d18
unfolding opened
c_28 = refl

abbrev b17 : InBlock
b17 = record { driver = d18; left = ((record { repo = 0; lines = ([]); jobs = (2 ∷ 1 ∷ []) }) ∷ (record { repo = 1; lines = ([]); jobs = ([]) }) ∷ []); idle = 0; took = false }

abbrev b18 : Block
b18 = record { driver = d18; left = ((record { repo = 0; lines = ([]); jobs = (2 ∷ 1 ∷ []) }) ∷ (record { repo = 1; lines = ([]); jobs = ([]) }) ∷ []) }

c_29 : takes_each given ((record { repo = 0; lines = ([]); jobs = (2 ∷ 1 ∷ []) }) ∷ (record { repo = 1; lines = ([]); jobs = ([]) }) ∷ []) d18 ≡ b18
unfolding opened
c_29 = refl

abbrev e17 : Entry
e17 = record { time = 0; count = 18; repo = (Some 0); kind = (kinds.End 2 (outcomes.Refused (drops.Lacking (record { need = (record { n = 1; m = 1 }); locked = ([]); trusted = ([]); recent = ([]) }) ((record { repo = 1; cause = causes.Absent }) ∷ [])))); taken = None; sent = ((record { peer = 1; slot = 0; up = true; epoch = 1; seq = 5; body = Closing }) ∷ []); lines = ([]) }

abbrev p17 : List Entry
p17 = e17 ∷ p16

abbrev d19 : Driver
d19 = record { past = p17; flights = ((record { to = 1; frame = (record { peer = 0; slot = 0; up = true; epoch = 1; seq = 5; body = Closing }); bytes = [] }) ∷ []); fails = ([]); contents = ((record { repo = 0; key = t0; bytes = c0 }) ∷ []); parts = ([]); largest = 3; tree = ([]); marks = (2 ∷ []) }

c_30 : turn given 0 d18 ≡ d19
unfolding opened
c_30 = refl

abbrev e18 : Entry
e18 = record { time = 0; count = 19; repo = (Some 1); kind = (kinds.Close 0 0 false); taken = (Some (record { peer = 0; slot = 0; up = true; epoch = 1; seq = 5; body = Closing })); sent = ([]); lines = ([]) }

abbrev p18 : List Entry
p18 = e18 ∷ p17

abbrev d20 : Driver
d20 = record { past = p18; flights = ([]); fails = ([]); contents = ((record { repo = 0; key = t0; bytes = c0 }) ∷ []); parts = ([]); largest = 3; tree = ([]); marks = (2 ∷ []) }

c_31 : turn given 1 d19 ≡ d20
unfolding opened
c_31 = refl

abbrev b19 : InBlock
b19 = record { driver = d20; left = ((record { repo = 0; lines = ([]); jobs = (2 ∷ 1 ∷ []) }) ∷ (record { repo = 1; lines = ([]); jobs = ([]) }) ∷ []); idle = 0; took = false }

abbrev b20 : Block
b20 = record { driver = d20; left = ((record { repo = 0; lines = ([]); jobs = (2 ∷ 1 ∷ []) }) ∷ (record { repo = 1; lines = ([]); jobs = ([]) }) ∷ []) }

c_32 : takes_each given ((record { repo = 0; lines = ([]); jobs = (2 ∷ 1 ∷ []) }) ∷ (record { repo = 1; lines = ([]); jobs = ([]) }) ∷ []) d20 ≡ b20
unfolding opened
c_32 = refl

c_33 : turn given 0 d20 ≡ d20
unfolding opened
c_33 = refl

c_34 : turn given 1 d20 ≡ d20
unfolding opened
c_34 = refl

abbrev b21 : InBlock
b21 = record { driver = d20; left = ((record { repo = 0; lines = ([]); jobs = (2 ∷ 1 ∷ []) }) ∷ (record { repo = 1; lines = ([]); jobs = ([]) }) ∷ []); idle = 1; took = false }

abbrev b22 : Block
b22 = record { driver = d20; left = ((record { repo = 0; lines = ([]); jobs = (2 ∷ 1 ∷ []) }) ∷ (record { repo = 1; lines = ([]); jobs = ([]) }) ∷ []) }

c_35 : takes_each given ((record { repo = 0; lines = ([]); jobs = (2 ∷ 1 ∷ []) }) ∷ (record { repo = 1; lines = ([]); jobs = ([]) }) ∷ []) d20 ≡ b22
unfolding opened
c_35 = refl

abbrev b23 : InBlock
b23 = record { driver = d20; left = ((record { repo = 0; lines = ([]); jobs = (2 ∷ 1 ∷ []) }) ∷ (record { repo = 1; lines = ([]); jobs = ([]) }) ∷ []); idle = 2; took = false }

line1 : does given l1 d2 ≡ d20
line1 = blocks_by given ((record { repo = 0; line = Runs (record { kind = jobs.Drop; key = t0; path = None; peer = None }) }) ∷ (record { repo = 1; line = Crashes 0 }) ∷ (record { repo = 0; line = Fails calls.Has }) ∷ (record { repo = 0; line = Runs (record { kind = jobs.Drop; key = t0; path = None; peer = None }) }) ∷ []) d2 11 b23 d20 (ap (block_goes given 10) (block_came given b1 b2 d6 refl refl c_4 (ap (turns_of given (1 ∷ [])) c_5 ∙ ap (turns_of given ([])) c_6)) ∙ (ap (block_goes given 9) (block_came given b3 b4 d7 refl refl c_7 (ap (turns_of given (1 ∷ [])) c_8 ∙ ap (turns_of given ([])) c_9)) ∙ (ap (block_goes given 8) (block_came given b5 b6 d9 refl refl c_11 (ap (turns_of given (1 ∷ [])) c_12 ∙ ap (turns_of given ([])) c_13)) ∙ (ap (block_goes given 7) (block_came given b7 b8 d11 refl refl c_14 (ap (turns_of given (1 ∷ [])) c_15 ∙ ap (turns_of given ([])) c_16)) ∙ (ap (block_goes given 6) (block_came given b9 b10 d13 refl refl c_17 (ap (turns_of given (1 ∷ [])) c_18 ∙ ap (turns_of given ([])) c_19)) ∙ (ap (block_goes given 5) (block_came given b11 b12 d15 refl refl c_20 (ap (turns_of given (1 ∷ [])) c_21 ∙ ap (turns_of given ([])) c_22)) ∙ (ap (block_goes given 4) (block_came given b13 b14 d17 refl refl c_23 (ap (turns_of given (1 ∷ [])) c_24 ∙ ap (turns_of given ([])) c_25)) ∙ (ap (block_goes given 3) (block_came given b15 b16 d18 refl refl c_26 (ap (turns_of given (1 ∷ [])) c_27 ∙ ap (turns_of given ([])) c_28)) ∙ (ap (block_goes given 2) (block_came given b17 b18 d20 refl refl c_29 (ap (turns_of given (1 ∷ [])) c_30 ∙ ap (turns_of given ([])) c_31)) ∙ (ap (block_goes given 1) (block_came given b19 b20 d20 refl refl c_32 (ap (turns_of given (1 ∷ [])) c_33 ∙ ap (turns_of given ([])) c_34)) ∙ (ap (block_goes given 0) (block_came given b21 b22 d20 refl refl c_35 (ap (turns_of given (1 ∷ [])) c_33 ∙ ap (turns_of given ([])) c_34)) ∙ (refl)))))))))))) refl refl (omega arith) (settles_by given 2 d20 (record { driver = d20; idle = 2 }) (ap (goes given 1) (came given 0 d20 d20 refl (ap (turns_of given (1 ∷ [])) c_33 ∙ ap (turns_of given ([])) c_34)) ∙ (ap (goes given 0) (came given 1 d20 d20 refl (ap (turns_of given (1 ∷ [])) c_33 ∙ ap (turns_of given ([])) c_34)) ∙ (refl))) refl (omega arith))

abbrev d21 : Driver
d21 = record { past = p18; flights = ([]); fails = ([]); contents = ((record { repo = 0; key = t0; bytes = c0 }) ∷ []); parts = ([]); largest = 3; tree = ([]); marks = (2 ∷ 19 ∷ []) }

abbrev made : Run
made = record { repos = repos; entries = (e0 ∷ e1 ∷ e2 ∷ e3 ∷ e4 ∷ e5 ∷ e6 ∷ e7 ∷ e8 ∷ e9 ∷ e10 ∷ e11 ∷ e12 ∷ e13 ∷ e14 ∷ e15 ∷ e16 ∷ e17 ∷ e18 ∷ []); tree = ([]); marks = (2 ∷ 19 ∷ []) }

all : drives given (l0 ∷ l1 ∷ []) at_first ≡ d21
all = ap (λ d. drives given (l1 ∷ []) (with_mark d)) line0 ∙ ap (λ d. drives given ([]) (with_mark d)) line1

claim : run_of given (l0 ∷ l1 ∷ []) ≡ made
claim = ap (run_with given) all
