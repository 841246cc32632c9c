-- The run of a script in which a ring is full: the driver makes it, turn by turn, as an executable model does.
use Rattle.std.proofs.Common.{ap, ◌∙◌, arith}
use Rattle.std.specs.Prelude.{◌≡◌, refl, ℕ, true, false, List, [], ◌∷◌, Some, None, codes}
use Rattle.run_data.specs.declared.entry.Entry.{Entry}
use Rattle.run_data.specs.declared.entry.EntryKind.TheVariants as kinds
use Rattle.run_data.specs.declared.entry.By.TheVariants as by
use Rattle.run_data.specs.declared.entry.FrameText.TheVariants.{Opening, Closing, Bytes, Line}
use Rattle.run_data.specs.declared.entry.LogFile.TheVariants.{Location}
use Rattle.run_data.specs.declared.job.JobKind.TheVariants as jobs
use Rattle.run_data.specs.declared.job.Outcome.TheVariants as outcomes
use Rattle.run_data.specs.declared.job.DropRefusal.TheVariants as drops
use Rattle.run_data.specs.declared.job.Cause.TheVariants as causes
use Rattle.run_data.specs.declared.run.RepoView.{RepoView}
use Rattle.run_data.specs.declared.run.Run.{Run}
use Rattle.script_commands.specs.declared.command.Action.TheVariants.{Have, Begin, Turns, Settle, Crash}
use Rattle.script_commands.specs.declared.command.Command.{Command}
use Rattle.script_commands.specs.declared.command.Command.TheVariants.{Does}
use Rattle.driver_model.specs.Driver.{Driver, DriverInput, at_first}
use Rattle.driver_model.specs.ScriptSteps.{begins}
use Rattle.driver_model.specs.Turning.{turn}
use Rattle.driver_model.specs.Rounds.{turns_of}
use Rattle.driver_model.specs.Driving.{does, drives, with_mark, run_of, run_with, turns}
use Rattle.driver_claims.proofs.Settling.{came, goes, settles_by}
use Rattle.driver_claims.specs.Opened.{opened, matches_in}

abbrev t0 : List ℕ
t0 = (codes "WORM-s3--k1")

abbrev t1 : List ℕ
t1 = (codes "AUTH-SUCCESS 22222222-1111-4111-8111-111111111101")

abbrev t2 : List ℕ
t2 = (codes "VERSION 3")

abbrev t3 : List ℕ
t3 = (codes "GET 0  WORM-s3--k1")

abbrev t4 : List ℕ
t4 = (codes "DATA 3")

abbrev t5 : List ℕ
t5 = (codes "VALID")

abbrev t6 : List ℕ
t6 = (codes "SUCCESS")

abbrev t7 : List ℕ
t7 = (codes "1700000000s 1 22222222-1111-4111-8111-111111111101")

abbrev t8 : List ℕ
t8 = (codes "1700000000s 1 11111111-1111-4111-8111-111111111100")

abbrev c0 : List ℕ
c0 = (codes "abc")

abbrev repos : List RepoView
repos = ((record { name = (codes "a"); id = (17 ∷ 17 ∷ 17 ∷ 17 ∷ 17 ∷ 17 ∷ 65 ∷ 17 ∷ 129 ∷ 17 ∷ 17 ∷ 17 ∷ 17 ∷ 17 ∷ 17 ∷ 0 ∷ []); offset = 0; version = 3; locks = true }) ∷ (record { name = (codes "b"); id = (34 ∷ 34 ∷ 34 ∷ 34 ∷ 17 ∷ 17 ∷ 65 ∷ 17 ∷ 129 ∷ 17 ∷ 17 ∷ 17 ∷ 17 ∷ 17 ∷ 17 ∷ 1 ∷ []); offset = 0; version = 3; locks = true }) ∷ [])

abbrev given : DriverInput
given = record { repos = repos; matches = matches_in ((t0, c0) ∷ []) }

abbrev l0 : Command
l0 = Does (Have 1 t0 c0)

abbrev l1 : Command
l1 = Does (Begin 0 (record { kind = jobs.Get; key = t0; path = None; peer = (Some 1) }))

abbrev l2 : Command
l2 = Does (Turns 0 1)

abbrev l3 : Command
l3 = Does (Crash 0 0)

abbrev l4 : Command
l4 = Does (Begin 0 (record { kind = jobs.Get; key = t0; path = None; peer = (Some 1) }))

abbrev l5 : Command
l5 = Does (Turns 0 1)

abbrev l6 : Command
l6 = Does (Crash 0 0)

abbrev l7 : Command
l7 = Does (Begin 0 (record { kind = jobs.Drop; key = t0; path = None; peer = (Some 1) }))

abbrev l8 : Command
l8 = Does (Turns 0 2)

abbrev l9 : Command
l9 = Does (Crash 0 0)

abbrev l10 : Command
l10 = Does (Begin 0 (record { kind = jobs.Get; key = t0; path = None; peer = (Some 1) }))

abbrev l11 : Command
l11 = Does (Turns 0 1)

abbrev l12 : Command
l12 = Does (Crash 0 0)

abbrev l13 : Command
l13 = Does (Begin 0 (record { kind = jobs.Get; key = t0; path = None; peer = (Some 1) }))

abbrev l14 : Command
l14 = Does (Turns 0 3)

abbrev l15 : Command
l15 = Does (Turns 1 1)

abbrev l16 : Command
l16 = Does (Turns 0 1)

abbrev l17 : Command
l17 = Does (Turns 1 2)

abbrev l18 : Command
l18 = Does (Turns 0 1)

abbrev l19 : Command
l19 = Does (Settle)

abbrev d0 : Driver
d0 = record { past = []; flights = ([]); fails = ([]); contents = ([]); parts = ([]); largest = 0; tree = ([]); marks = ([]) }

abbrev e0 : Entry
e0 = record { time = 0; count = 1; repo = (Some 1); kind = (kinds.Gain by.Script 3 t0); taken = None; sent = ([]); lines = ([]) }

abbrev p0 : List Entry
p0 = e0 ∷ []

abbrev e1 : Entry
e1 = record { time = 0; count = 2; repo = (Some 1); kind = (kinds.Log (Location t0)); taken = None; sent = ([]); lines = (t7 ∷ []) }

abbrev p1 : List Entry
p1 = e1 ∷ p0

abbrev d1 : Driver
d1 = record { past = p1; flights = ([]); fails = ([]); contents = ((record { repo = 1; key = t0; bytes = c0 }) ∷ []); parts = ([]); largest = 3; tree = ([]); marks = ([]) }

c_0 : does given l0 d0 ≡ d1
unfolding opened
c_0 = refl

line0 : does given l0 d0 ≡ d1
line0 = c_0

abbrev d2 : Driver
d2 = record { past = p1; flights = ([]); fails = ([]); contents = ((record { repo = 1; key = t0; bytes = c0 }) ∷ []); parts = ([]); largest = 3; tree = ([]); marks = (2 ∷ []) }

abbrev e2 : Entry
e2 = record { time = 0; count = 3; repo = (Some 0); kind = (kinds.Begin 1 (record { kind = jobs.Get; key = t0; path = None; peer = (Some 1) })); taken = None; sent = ([]); lines = ([]) }

abbrev p2 : List Entry
p2 = e2 ∷ p1

abbrev d3 : Driver
d3 = record { past = p2; flights = ([]); fails = ([]); contents = ((record { repo = 1; key = t0; bytes = c0 }) ∷ []); parts = ([]); largest = 3; tree = ([]); marks = (2 ∷ []) }

c_1 : begins 0 (record { kind = jobs.Get; key = t0; path = None; peer = (Some 1) }) d2 ≡ d3
unfolding opened
c_1 = refl

line1 : does given l1 d2 ≡ d3
line1 = c_1

abbrev d4 : Driver
d4 = record { past = p2; flights = ([]); fails = ([]); contents = ((record { repo = 1; key = t0; bytes = c0 }) ∷ []); parts = ([]); largest = 3; tree = ([]); marks = (2 ∷ 3 ∷ []) }

abbrev e3 : Entry
e3 = record { time = 0; count = 4; repo = (Some 0); kind = (kinds.Talk (Some 1)); taken = None; sent = ((record { peer = 1; slot = 0; up = true; epoch = 1; seq = 1; body = Opening }) ∷ []); lines = ([]) }

abbrev p3 : List Entry
p3 = e3 ∷ p2

abbrev d5 : Driver
d5 = record { past = p3; flights = ((record { to = 1; frame = (record { peer = 0; slot = 0; up = true; epoch = 1; seq = 1; body = Opening }); bytes = [] }) ∷ []); fails = ([]); contents = ((record { repo = 1; key = t0; bytes = c0 }) ∷ []); parts = ([]); largest = 3; tree = ([]); marks = (2 ∷ 3 ∷ []) }

c_2 : turn given 0 d4 ≡ d5
unfolding opened
c_2 = refl

line2 : does given l2 d4 ≡ d5
line2 = ap (turns given 0 0) c_2

abbrev d6 : Driver
d6 = record { past = p3; flights = ((record { to = 1; frame = (record { peer = 0; slot = 0; up = true; epoch = 1; seq = 1; body = Opening }); bytes = [] }) ∷ []); fails = ([]); contents = ((record { repo = 1; key = t0; bytes = c0 }) ∷ []); parts = ([]); largest = 3; tree = ([]); marks = (2 ∷ 3 ∷ 4 ∷ []) }

abbrev e4 : Entry
e4 = record { time = 0; count = 5; repo = (Some 0); kind = (kinds.Crash 0); taken = None; sent = ((record { peer = 1; slot = 0; up = true; epoch = 1; seq = 2; body = Closing }) ∷ []); lines = ([]) }

abbrev p4 : List Entry
p4 = e4 ∷ p3

abbrev d7 : Driver
d7 = record { past = p4; flights = ((record { to = 1; frame = (record { peer = 0; slot = 0; up = true; epoch = 1; seq = 1; body = Opening }); bytes = [] }) ∷ (record { to = 1; frame = (record { peer = 0; slot = 0; up = true; epoch = 1; seq = 2; body = Closing }); bytes = [] }) ∷ []); fails = ([]); contents = ((record { repo = 1; key = t0; bytes = c0 }) ∷ []); parts = ([]); largest = 3; tree = ([]); marks = (2 ∷ 3 ∷ 4 ∷ []) }

c_3 : does given l3 d6 ≡ d7
unfolding opened
c_3 = refl

line3 : does given l3 d6 ≡ d7
line3 = c_3

abbrev d8 : Driver
d8 = record { past = p4; flights = ((record { to = 1; frame = (record { peer = 0; slot = 0; up = true; epoch = 1; seq = 1; body = Opening }); bytes = [] }) ∷ (record { to = 1; frame = (record { peer = 0; slot = 0; up = true; epoch = 1; seq = 2; body = Closing }); bytes = [] }) ∷ []); fails = ([]); contents = ((record { repo = 1; key = t0; bytes = c0 }) ∷ []); parts = ([]); largest = 3; tree = ([]); marks = (2 ∷ 3 ∷ 4 ∷ 5 ∷ []) }

abbrev e5 : Entry
e5 = record { time = 0; count = 6; repo = (Some 0); kind = (kinds.Begin 2 (record { kind = jobs.Get; key = t0; path = None; peer = (Some 1) })); taken = None; sent = ([]); lines = ([]) }

abbrev p5 : List Entry
p5 = e5 ∷ p4

abbrev d9 : Driver
d9 = record { past = p5; flights = ((record { to = 1; frame = (record { peer = 0; slot = 0; up = true; epoch = 1; seq = 1; body = Opening }); bytes = [] }) ∷ (record { to = 1; frame = (record { peer = 0; slot = 0; up = true; epoch = 1; seq = 2; body = Closing }); bytes = [] }) ∷ []); fails = ([]); contents = ((record { repo = 1; key = t0; bytes = c0 }) ∷ []); parts = ([]); largest = 3; tree = ([]); marks = (2 ∷ 3 ∷ 4 ∷ 5 ∷ []) }

c_4 : begins 0 (record { kind = jobs.Get; key = t0; path = None; peer = (Some 1) }) d8 ≡ d9
unfolding opened
c_4 = refl

line4 : does given l4 d8 ≡ d9
line4 = c_4

abbrev d10 : Driver
d10 = record { past = p5; flights = ((record { to = 1; frame = (record { peer = 0; slot = 0; up = true; epoch = 1; seq = 1; body = Opening }); bytes = [] }) ∷ (record { to = 1; frame = (record { peer = 0; slot = 0; up = true; epoch = 1; seq = 2; body = Closing }); bytes = [] }) ∷ []); fails = ([]); contents = ((record { repo = 1; key = t0; bytes = c0 }) ∷ []); parts = ([]); largest = 3; tree = ([]); marks = (2 ∷ 3 ∷ 4 ∷ 5 ∷ 6 ∷ []) }

abbrev e6 : Entry
e6 = record { time = 0; count = 7; repo = (Some 0); kind = (kinds.Talk (Some 2)); taken = None; sent = ((record { peer = 1; slot = 0; up = true; epoch = 2; seq = 1; body = Opening }) ∷ []); lines = ([]) }

abbrev p6 : List Entry
p6 = e6 ∷ p5

abbrev d11 : Driver
d11 = record { past = p6; flights = ((record { to = 1; frame = (record { peer = 0; slot = 0; up = true; epoch = 1; seq = 1; body = Opening }); bytes = [] }) ∷ (record { to = 1; frame = (record { peer = 0; slot = 0; up = true; epoch = 1; seq = 2; body = Closing }); bytes = [] }) ∷ (record { to = 1; frame = (record { peer = 0; slot = 0; up = true; epoch = 2; seq = 1; body = Opening }); bytes = [] }) ∷ []); fails = ([]); contents = ((record { repo = 1; key = t0; bytes = c0 }) ∷ []); parts = ([]); largest = 3; tree = ([]); marks = (2 ∷ 3 ∷ 4 ∷ 5 ∷ 6 ∷ []) }

c_5 : turn given 0 d10 ≡ d11
unfolding opened
c_5 = refl

line5 : does given l5 d10 ≡ d11
line5 = ap (turns given 0 0) c_5

abbrev d12 : Driver
d12 = record { past = p6; flights = ((record { to = 1; frame = (record { peer = 0; slot = 0; up = true; epoch = 1; seq = 1; body = Opening }); bytes = [] }) ∷ (record { to = 1; frame = (record { peer = 0; slot = 0; up = true; epoch = 1; seq = 2; body = Closing }); bytes = [] }) ∷ (record { to = 1; frame = (record { peer = 0; slot = 0; up = true; epoch = 2; seq = 1; body = Opening }); bytes = [] }) ∷ []); fails = ([]); contents = ((record { repo = 1; key = t0; bytes = c0 }) ∷ []); parts = ([]); largest = 3; tree = ([]); marks = (2 ∷ 3 ∷ 4 ∷ 5 ∷ 6 ∷ 7 ∷ []) }

abbrev e7 : Entry
e7 = record { time = 0; count = 8; repo = (Some 0); kind = (kinds.Crash 0); taken = None; sent = ((record { peer = 1; slot = 0; up = true; epoch = 2; seq = 2; body = Closing }) ∷ []); lines = ([]) }

abbrev p7 : List Entry
p7 = e7 ∷ p6

abbrev d13 : Driver
d13 = record { past = p7; flights = ((record { to = 1; frame = (record { peer = 0; slot = 0; up = true; epoch = 1; seq = 1; body = Opening }); bytes = [] }) ∷ (record { to = 1; frame = (record { peer = 0; slot = 0; up = true; epoch = 1; seq = 2; body = Closing }); bytes = [] }) ∷ (record { to = 1; frame = (record { peer = 0; slot = 0; up = true; epoch = 2; seq = 1; body = Opening }); bytes = [] }) ∷ (record { to = 1; frame = (record { peer = 0; slot = 0; up = true; epoch = 2; seq = 2; body = Closing }); bytes = [] }) ∷ []); fails = ([]); contents = ((record { repo = 1; key = t0; bytes = c0 }) ∷ []); parts = ([]); largest = 3; tree = ([]); marks = (2 ∷ 3 ∷ 4 ∷ 5 ∷ 6 ∷ 7 ∷ []) }

c_6 : does given l6 d12 ≡ d13
unfolding opened
c_6 = refl

line6 : does given l6 d12 ≡ d13
line6 = c_6

abbrev d14 : Driver
d14 = record { past = p7; flights = ((record { to = 1; frame = (record { peer = 0; slot = 0; up = true; epoch = 1; seq = 1; body = Opening }); bytes = [] }) ∷ (record { to = 1; frame = (record { peer = 0; slot = 0; up = true; epoch = 1; seq = 2; body = Closing }); bytes = [] }) ∷ (record { to = 1; frame = (record { peer = 0; slot = 0; up = true; epoch = 2; seq = 1; body = Opening }); bytes = [] }) ∷ (record { to = 1; frame = (record { peer = 0; slot = 0; up = true; epoch = 2; seq = 2; body = Closing }); bytes = [] }) ∷ []); fails = ([]); contents = ((record { repo = 1; key = t0; bytes = c0 }) ∷ []); parts = ([]); largest = 3; tree = ([]); marks = (2 ∷ 3 ∷ 4 ∷ 5 ∷ 6 ∷ 7 ∷ 8 ∷ []) }

abbrev e8 : Entry
e8 = record { time = 0; count = 9; repo = (Some 0); kind = (kinds.Begin 3 (record { kind = jobs.Drop; key = t0; path = None; peer = (Some 1) })); taken = None; sent = ([]); lines = ([]) }

abbrev p8 : List Entry
p8 = e8 ∷ p7

abbrev d15 : Driver
d15 = record { past = p8; flights = ((record { to = 1; frame = (record { peer = 0; slot = 0; up = true; epoch = 1; seq = 1; body = Opening }); bytes = [] }) ∷ (record { to = 1; frame = (record { peer = 0; slot = 0; up = true; epoch = 1; seq = 2; body = Closing }); bytes = [] }) ∷ (record { to = 1; frame = (record { peer = 0; slot = 0; up = true; epoch = 2; seq = 1; body = Opening }); bytes = [] }) ∷ (record { to = 1; frame = (record { peer = 0; slot = 0; up = true; epoch = 2; seq = 2; body = Closing }); bytes = [] }) ∷ []); fails = ([]); contents = ((record { repo = 1; key = t0; bytes = c0 }) ∷ []); parts = ([]); largest = 3; tree = ([]); marks = (2 ∷ 3 ∷ 4 ∷ 5 ∷ 6 ∷ 7 ∷ 8 ∷ []) }

c_7 : begins 0 (record { kind = jobs.Drop; key = t0; path = None; peer = (Some 1) }) d14 ≡ d15
unfolding opened
c_7 = refl

line7 : does given l7 d14 ≡ d15
line7 = c_7

abbrev d16 : Driver
d16 = record { past = p8; flights = ((record { to = 1; frame = (record { peer = 0; slot = 0; up = true; epoch = 1; seq = 1; body = Opening }); bytes = [] }) ∷ (record { to = 1; frame = (record { peer = 0; slot = 0; up = true; epoch = 1; seq = 2; body = Closing }); bytes = [] }) ∷ (record { to = 1; frame = (record { peer = 0; slot = 0; up = true; epoch = 2; seq = 1; body = Opening }); bytes = [] }) ∷ (record { to = 1; frame = (record { peer = 0; slot = 0; up = true; epoch = 2; seq = 2; body = Closing }); bytes = [] }) ∷ []); fails = ([]); contents = ((record { repo = 1; key = t0; bytes = c0 }) ∷ []); parts = ([]); largest = 3; tree = ([]); marks = (2 ∷ 3 ∷ 4 ∷ 5 ∷ 6 ∷ 7 ∷ 8 ∷ 9 ∷ []) }

abbrev e9 : Entry
e9 = record { time = 0; count = 10; repo = (Some 0); kind = (kinds.Talk (Some 3)); taken = None; sent = ([]); lines = ([]) }

abbrev p9 : List Entry
p9 = e9 ∷ p8

abbrev d17 : Driver
d17 = record { past = p9; flights = ((record { to = 1; frame = (record { peer = 0; slot = 0; up = true; epoch = 1; seq = 1; body = Opening }); bytes = [] }) ∷ (record { to = 1; frame = (record { peer = 0; slot = 0; up = true; epoch = 1; seq = 2; body = Closing }); bytes = [] }) ∷ (record { to = 1; frame = (record { peer = 0; slot = 0; up = true; epoch = 2; seq = 1; body = Opening }); bytes = [] }) ∷ (record { to = 1; frame = (record { peer = 0; slot = 0; up = true; epoch = 2; seq = 2; body = Closing }); bytes = [] }) ∷ []); fails = ([]); contents = ((record { repo = 1; key = t0; bytes = c0 }) ∷ []); parts = ([]); largest = 3; tree = ([]); marks = (2 ∷ 3 ∷ 4 ∷ 5 ∷ 6 ∷ 7 ∷ 8 ∷ 9 ∷ []) }

c_8 : turn given 0 d16 ≡ d17
unfolding opened
c_8 = refl

abbrev e10 : Entry
e10 = record { time = 0; count = 11; repo = (Some 0); kind = (kinds.End 3 (outcomes.Refused (drops.Lacking (record { need = (record { n = 1; m = 1 }); locked = ([]); trusted = ([]); recent = ([]) }) ((record { repo = 0; cause = causes.Absent }) ∷ [])))); taken = None; sent = ([]); lines = ([]) }

abbrev p10 : List Entry
p10 = e10 ∷ p9

abbrev d18 : Driver
d18 = record { past = p10; flights = ((record { to = 1; frame = (record { peer = 0; slot = 0; up = true; epoch = 1; seq = 1; body = Opening }); bytes = [] }) ∷ (record { to = 1; frame = (record { peer = 0; slot = 0; up = true; epoch = 1; seq = 2; body = Closing }); bytes = [] }) ∷ (record { to = 1; frame = (record { peer = 0; slot = 0; up = true; epoch = 2; seq = 1; body = Opening }); bytes = [] }) ∷ (record { to = 1; frame = (record { peer = 0; slot = 0; up = true; epoch = 2; seq = 2; body = Closing }); bytes = [] }) ∷ []); fails = ([]); contents = ((record { repo = 1; key = t0; bytes = c0 }) ∷ []); parts = ([]); largest = 3; tree = ([]); marks = (2 ∷ 3 ∷ 4 ∷ 5 ∷ 6 ∷ 7 ∷ 8 ∷ 9 ∷ []) }

c_9 : turn given 0 d17 ≡ d18
unfolding opened
c_9 = refl

line8 : does given l8 d16 ≡ d18
line8 = ap (turns given 0 1) c_8 ∙ ap (turns given 0 0) c_9

abbrev d19 : Driver
d19 = record { past = p10; flights = ((record { to = 1; frame = (record { peer = 0; slot = 0; up = true; epoch = 1; seq = 1; body = Opening }); bytes = [] }) ∷ (record { to = 1; frame = (record { peer = 0; slot = 0; up = true; epoch = 1; seq = 2; body = Closing }); bytes = [] }) ∷ (record { to = 1; frame = (record { peer = 0; slot = 0; up = true; epoch = 2; seq = 1; body = Opening }); bytes = [] }) ∷ (record { to = 1; frame = (record { peer = 0; slot = 0; up = true; epoch = 2; seq = 2; body = Closing }); bytes = [] }) ∷ []); fails = ([]); contents = ((record { repo = 1; key = t0; bytes = c0 }) ∷ []); parts = ([]); largest = 3; tree = ([]); marks = (2 ∷ 3 ∷ 4 ∷ 5 ∷ 6 ∷ 7 ∷ 8 ∷ 9 ∷ 11 ∷ []) }

abbrev e11 : Entry
e11 = record { time = 0; count = 12; repo = (Some 0); kind = (kinds.Crash 0); taken = None; sent = ([]); lines = ([]) }

abbrev p11 : List Entry
p11 = e11 ∷ p10

abbrev d20 : Driver
d20 = record { past = p11; flights = ((record { to = 1; frame = (record { peer = 0; slot = 0; up = true; epoch = 1; seq = 1; body = Opening }); bytes = [] }) ∷ (record { to = 1; frame = (record { peer = 0; slot = 0; up = true; epoch = 1; seq = 2; body = Closing }); bytes = [] }) ∷ (record { to = 1; frame = (record { peer = 0; slot = 0; up = true; epoch = 2; seq = 1; body = Opening }); bytes = [] }) ∷ (record { to = 1; frame = (record { peer = 0; slot = 0; up = true; epoch = 2; seq = 2; body = Closing }); bytes = [] }) ∷ []); fails = ([]); contents = ((record { repo = 1; key = t0; bytes = c0 }) ∷ []); parts = ([]); largest = 3; tree = ([]); marks = (2 ∷ 3 ∷ 4 ∷ 5 ∷ 6 ∷ 7 ∷ 8 ∷ 9 ∷ 11 ∷ []) }

c_10 : does given l9 d19 ≡ d20
unfolding opened
c_10 = refl

line9 : does given l9 d19 ≡ d20
line9 = c_10

abbrev d21 : Driver
d21 = record { past = p11; flights = ((record { to = 1; frame = (record { peer = 0; slot = 0; up = true; epoch = 1; seq = 1; body = Opening }); bytes = [] }) ∷ (record { to = 1; frame = (record { peer = 0; slot = 0; up = true; epoch = 1; seq = 2; body = Closing }); bytes = [] }) ∷ (record { to = 1; frame = (record { peer = 0; slot = 0; up = true; epoch = 2; seq = 1; body = Opening }); bytes = [] }) ∷ (record { to = 1; frame = (record { peer = 0; slot = 0; up = true; epoch = 2; seq = 2; body = Closing }); bytes = [] }) ∷ []); fails = ([]); contents = ((record { repo = 1; key = t0; bytes = c0 }) ∷ []); parts = ([]); largest = 3; tree = ([]); marks = (2 ∷ 3 ∷ 4 ∷ 5 ∷ 6 ∷ 7 ∷ 8 ∷ 9 ∷ 11 ∷ 12 ∷ []) }

abbrev e12 : Entry
e12 = record { time = 0; count = 13; repo = (Some 0); kind = (kinds.Begin 4 (record { kind = jobs.Get; key = t0; path = None; peer = (Some 1) })); taken = None; sent = ([]); lines = ([]) }

abbrev p12 : List Entry
p12 = e12 ∷ p11

abbrev d22 : Driver
d22 = record { past = p12; flights = ((record { to = 1; frame = (record { peer = 0; slot = 0; up = true; epoch = 1; seq = 1; body = Opening }); bytes = [] }) ∷ (record { to = 1; frame = (record { peer = 0; slot = 0; up = true; epoch = 1; seq = 2; body = Closing }); bytes = [] }) ∷ (record { to = 1; frame = (record { peer = 0; slot = 0; up = true; epoch = 2; seq = 1; body = Opening }); bytes = [] }) ∷ (record { to = 1; frame = (record { peer = 0; slot = 0; up = true; epoch = 2; seq = 2; body = Closing }); bytes = [] }) ∷ []); fails = ([]); contents = ((record { repo = 1; key = t0; bytes = c0 }) ∷ []); parts = ([]); largest = 3; tree = ([]); marks = (2 ∷ 3 ∷ 4 ∷ 5 ∷ 6 ∷ 7 ∷ 8 ∷ 9 ∷ 11 ∷ 12 ∷ []) }

c_11 : begins 0 (record { kind = jobs.Get; key = t0; path = None; peer = (Some 1) }) d21 ≡ d22
unfolding opened
c_11 = refl

line10 : does given l10 d21 ≡ d22
line10 = c_11

abbrev d23 : Driver
d23 = record { past = p12; flights = ((record { to = 1; frame = (record { peer = 0; slot = 0; up = true; epoch = 1; seq = 1; body = Opening }); bytes = [] }) ∷ (record { to = 1; frame = (record { peer = 0; slot = 0; up = true; epoch = 1; seq = 2; body = Closing }); bytes = [] }) ∷ (record { to = 1; frame = (record { peer = 0; slot = 0; up = true; epoch = 2; seq = 1; body = Opening }); bytes = [] }) ∷ (record { to = 1; frame = (record { peer = 0; slot = 0; up = true; epoch = 2; seq = 2; body = Closing }); bytes = [] }) ∷ []); fails = ([]); contents = ((record { repo = 1; key = t0; bytes = c0 }) ∷ []); parts = ([]); largest = 3; tree = ([]); marks = (2 ∷ 3 ∷ 4 ∷ 5 ∷ 6 ∷ 7 ∷ 8 ∷ 9 ∷ 11 ∷ 12 ∷ 13 ∷ []) }

abbrev e13 : Entry
e13 = record { time = 0; count = 14; repo = (Some 0); kind = (kinds.Talk (Some 4)); taken = None; sent = ((record { peer = 1; slot = 0; up = true; epoch = 3; seq = 1; body = Opening }) ∷ []); lines = ([]) }

abbrev p13 : List Entry
p13 = e13 ∷ p12

abbrev d24 : Driver
d24 = record { past = p13; flights = ((record { to = 1; frame = (record { peer = 0; slot = 0; up = true; epoch = 1; seq = 1; body = Opening }); bytes = [] }) ∷ (record { to = 1; frame = (record { peer = 0; slot = 0; up = true; epoch = 1; seq = 2; body = Closing }); bytes = [] }) ∷ (record { to = 1; frame = (record { peer = 0; slot = 0; up = true; epoch = 2; seq = 1; body = Opening }); bytes = [] }) ∷ (record { to = 1; frame = (record { peer = 0; slot = 0; up = true; epoch = 2; seq = 2; body = Closing }); bytes = [] }) ∷ (record { to = 1; frame = (record { peer = 0; slot = 0; up = true; epoch = 3; seq = 1; body = Opening }); bytes = [] }) ∷ []); fails = ([]); contents = ((record { repo = 1; key = t0; bytes = c0 }) ∷ []); parts = ([]); largest = 3; tree = ([]); marks = (2 ∷ 3 ∷ 4 ∷ 5 ∷ 6 ∷ 7 ∷ 8 ∷ 9 ∷ 11 ∷ 12 ∷ 13 ∷ []) }

c_12 : turn given 0 d23 ≡ d24
unfolding opened
c_12 = refl

line11 : does given l11 d23 ≡ d24
line11 = ap (turns given 0 0) c_12

abbrev d25 : Driver
d25 = record { past = p13; flights = ((record { to = 1; frame = (record { peer = 0; slot = 0; up = true; epoch = 1; seq = 1; body = Opening }); bytes = [] }) ∷ (record { to = 1; frame = (record { peer = 0; slot = 0; up = true; epoch = 1; seq = 2; body = Closing }); bytes = [] }) ∷ (record { to = 1; frame = (record { peer = 0; slot = 0; up = true; epoch = 2; seq = 1; body = Opening }); bytes = [] }) ∷ (record { to = 1; frame = (record { peer = 0; slot = 0; up = true; epoch = 2; seq = 2; body = Closing }); bytes = [] }) ∷ (record { to = 1; frame = (record { peer = 0; slot = 0; up = true; epoch = 3; seq = 1; body = Opening }); bytes = [] }) ∷ []); fails = ([]); contents = ((record { repo = 1; key = t0; bytes = c0 }) ∷ []); parts = ([]); largest = 3; tree = ([]); marks = (2 ∷ 3 ∷ 4 ∷ 5 ∷ 6 ∷ 7 ∷ 8 ∷ 9 ∷ 11 ∷ 12 ∷ 13 ∷ 14 ∷ []) }

abbrev e14 : Entry
e14 = record { time = 0; count = 15; repo = (Some 0); kind = (kinds.Crash 0); taken = None; sent = ((record { peer = 1; slot = 0; up = true; epoch = 3; seq = 2; body = Closing }) ∷ []); lines = ([]) }

abbrev p14 : List Entry
p14 = e14 ∷ p13

abbrev d26 : Driver
d26 = record { past = p14; flights = ((record { to = 1; frame = (record { peer = 0; slot = 0; up = true; epoch = 1; seq = 1; body = Opening }); bytes = [] }) ∷ (record { to = 1; frame = (record { peer = 0; slot = 0; up = true; epoch = 1; seq = 2; body = Closing }); bytes = [] }) ∷ (record { to = 1; frame = (record { peer = 0; slot = 0; up = true; epoch = 2; seq = 1; body = Opening }); bytes = [] }) ∷ (record { to = 1; frame = (record { peer = 0; slot = 0; up = true; epoch = 2; seq = 2; body = Closing }); bytes = [] }) ∷ (record { to = 1; frame = (record { peer = 0; slot = 0; up = true; epoch = 3; seq = 1; body = Opening }); bytes = [] }) ∷ (record { to = 1; frame = (record { peer = 0; slot = 0; up = true; epoch = 3; seq = 2; body = Closing }); bytes = [] }) ∷ []); fails = ([]); contents = ((record { repo = 1; key = t0; bytes = c0 }) ∷ []); parts = ([]); largest = 3; tree = ([]); marks = (2 ∷ 3 ∷ 4 ∷ 5 ∷ 6 ∷ 7 ∷ 8 ∷ 9 ∷ 11 ∷ 12 ∷ 13 ∷ 14 ∷ []) }

c_13 : does given l12 d25 ≡ d26
unfolding opened
c_13 = refl

line12 : does given l12 d25 ≡ d26
line12 = c_13

abbrev d27 : Driver
d27 = record { past = p14; flights = ((record { to = 1; frame = (record { peer = 0; slot = 0; up = true; epoch = 1; seq = 1; body = Opening }); bytes = [] }) ∷ (record { to = 1; frame = (record { peer = 0; slot = 0; up = true; epoch = 1; seq = 2; body = Closing }); bytes = [] }) ∷ (record { to = 1; frame = (record { peer = 0; slot = 0; up = true; epoch = 2; seq = 1; body = Opening }); bytes = [] }) ∷ (record { to = 1; frame = (record { peer = 0; slot = 0; up = true; epoch = 2; seq = 2; body = Closing }); bytes = [] }) ∷ (record { to = 1; frame = (record { peer = 0; slot = 0; up = true; epoch = 3; seq = 1; body = Opening }); bytes = [] }) ∷ (record { to = 1; frame = (record { peer = 0; slot = 0; up = true; epoch = 3; seq = 2; body = Closing }); bytes = [] }) ∷ []); fails = ([]); contents = ((record { repo = 1; key = t0; bytes = c0 }) ∷ []); parts = ([]); largest = 3; tree = ([]); marks = (2 ∷ 3 ∷ 4 ∷ 5 ∷ 6 ∷ 7 ∷ 8 ∷ 9 ∷ 11 ∷ 12 ∷ 13 ∷ 14 ∷ 15 ∷ []) }

abbrev e15 : Entry
e15 = record { time = 0; count = 16; repo = (Some 0); kind = (kinds.Begin 5 (record { kind = jobs.Get; key = t0; path = None; peer = (Some 1) })); taken = None; sent = ([]); lines = ([]) }

abbrev p15 : List Entry
p15 = e15 ∷ p14

abbrev d28 : Driver
d28 = record { past = p15; flights = ((record { to = 1; frame = (record { peer = 0; slot = 0; up = true; epoch = 1; seq = 1; body = Opening }); bytes = [] }) ∷ (record { to = 1; frame = (record { peer = 0; slot = 0; up = true; epoch = 1; seq = 2; body = Closing }); bytes = [] }) ∷ (record { to = 1; frame = (record { peer = 0; slot = 0; up = true; epoch = 2; seq = 1; body = Opening }); bytes = [] }) ∷ (record { to = 1; frame = (record { peer = 0; slot = 0; up = true; epoch = 2; seq = 2; body = Closing }); bytes = [] }) ∷ (record { to = 1; frame = (record { peer = 0; slot = 0; up = true; epoch = 3; seq = 1; body = Opening }); bytes = [] }) ∷ (record { to = 1; frame = (record { peer = 0; slot = 0; up = true; epoch = 3; seq = 2; body = Closing }); bytes = [] }) ∷ []); fails = ([]); contents = ((record { repo = 1; key = t0; bytes = c0 }) ∷ []); parts = ([]); largest = 3; tree = ([]); marks = (2 ∷ 3 ∷ 4 ∷ 5 ∷ 6 ∷ 7 ∷ 8 ∷ 9 ∷ 11 ∷ 12 ∷ 13 ∷ 14 ∷ 15 ∷ []) }

c_14 : begins 0 (record { kind = jobs.Get; key = t0; path = None; peer = (Some 1) }) d27 ≡ d28
unfolding opened
c_14 = refl

line13 : does given l13 d27 ≡ d28
line13 = c_14

abbrev d29 : Driver
d29 = record { past = p15; flights = ((record { to = 1; frame = (record { peer = 0; slot = 0; up = true; epoch = 1; seq = 1; body = Opening }); bytes = [] }) ∷ (record { to = 1; frame = (record { peer = 0; slot = 0; up = true; epoch = 1; seq = 2; body = Closing }); bytes = [] }) ∷ (record { to = 1; frame = (record { peer = 0; slot = 0; up = true; epoch = 2; seq = 1; body = Opening }); bytes = [] }) ∷ (record { to = 1; frame = (record { peer = 0; slot = 0; up = true; epoch = 2; seq = 2; body = Closing }); bytes = [] }) ∷ (record { to = 1; frame = (record { peer = 0; slot = 0; up = true; epoch = 3; seq = 1; body = Opening }); bytes = [] }) ∷ (record { to = 1; frame = (record { peer = 0; slot = 0; up = true; epoch = 3; seq = 2; body = Closing }); bytes = [] }) ∷ []); fails = ([]); contents = ((record { repo = 1; key = t0; bytes = c0 }) ∷ []); parts = ([]); largest = 3; tree = ([]); marks = (2 ∷ 3 ∷ 4 ∷ 5 ∷ 6 ∷ 7 ∷ 8 ∷ 9 ∷ 11 ∷ 12 ∷ 13 ∷ 14 ∷ 15 ∷ 16 ∷ []) }

abbrev e16 : Entry
e16 = record { time = 0; count = 17; repo = (Some 0); kind = (kinds.Talk (Some 5)); taken = None; sent = ((record { peer = 1; slot = 0; up = true; epoch = 4; seq = 1; body = Opening }) ∷ []); lines = ([]) }

abbrev p16 : List Entry
p16 = e16 ∷ p15

abbrev d30 : Driver
d30 = record { past = p16; flights = ((record { to = 1; frame = (record { peer = 0; slot = 0; up = true; epoch = 1; seq = 1; body = Opening }); bytes = [] }) ∷ (record { to = 1; frame = (record { peer = 0; slot = 0; up = true; epoch = 1; seq = 2; body = Closing }); bytes = [] }) ∷ (record { to = 1; frame = (record { peer = 0; slot = 0; up = true; epoch = 2; seq = 1; body = Opening }); bytes = [] }) ∷ (record { to = 1; frame = (record { peer = 0; slot = 0; up = true; epoch = 2; seq = 2; body = Closing }); bytes = [] }) ∷ (record { to = 1; frame = (record { peer = 0; slot = 0; up = true; epoch = 3; seq = 1; body = Opening }); bytes = [] }) ∷ (record { to = 1; frame = (record { peer = 0; slot = 0; up = true; epoch = 3; seq = 2; body = Closing }); bytes = [] }) ∷ (record { to = 1; frame = (record { peer = 0; slot = 0; up = true; epoch = 4; seq = 1; body = Opening }); bytes = [] }) ∷ []); fails = ([]); contents = ((record { repo = 1; key = t0; bytes = c0 }) ∷ []); parts = ([]); largest = 3; tree = ([]); marks = (2 ∷ 3 ∷ 4 ∷ 5 ∷ 6 ∷ 7 ∷ 8 ∷ 9 ∷ 11 ∷ 12 ∷ 13 ∷ 14 ∷ 15 ∷ 16 ∷ []) }

c_15 : turn given 0 d29 ≡ d30
unfolding opened
c_15 = refl

c_16 : turn given 0 d30 ≡ d30
unfolding opened
c_16 = refl

line14 : does given l14 d29 ≡ d30
line14 = ap (turns given 0 2) c_15 ∙ ap (turns given 0 1) c_16 ∙ ap (turns given 0 0) c_16

abbrev d31 : Driver
d31 = record { past = p16; flights = ((record { to = 1; frame = (record { peer = 0; slot = 0; up = true; epoch = 1; seq = 1; body = Opening }); bytes = [] }) ∷ (record { to = 1; frame = (record { peer = 0; slot = 0; up = true; epoch = 1; seq = 2; body = Closing }); bytes = [] }) ∷ (record { to = 1; frame = (record { peer = 0; slot = 0; up = true; epoch = 2; seq = 1; body = Opening }); bytes = [] }) ∷ (record { to = 1; frame = (record { peer = 0; slot = 0; up = true; epoch = 2; seq = 2; body = Closing }); bytes = [] }) ∷ (record { to = 1; frame = (record { peer = 0; slot = 0; up = true; epoch = 3; seq = 1; body = Opening }); bytes = [] }) ∷ (record { to = 1; frame = (record { peer = 0; slot = 0; up = true; epoch = 3; seq = 2; body = Closing }); bytes = [] }) ∷ (record { to = 1; frame = (record { peer = 0; slot = 0; up = true; epoch = 4; seq = 1; body = Opening }); bytes = [] }) ∷ []); fails = ([]); contents = ((record { repo = 1; key = t0; bytes = c0 }) ∷ []); parts = ([]); largest = 3; tree = ([]); marks = (2 ∷ 3 ∷ 4 ∷ 5 ∷ 6 ∷ 7 ∷ 8 ∷ 9 ∷ 11 ∷ 12 ∷ 13 ∷ 14 ∷ 15 ∷ 16 ∷ 17 ∷ []) }

abbrev e17 : Entry
e17 = record { time = 0; count = 18; repo = (Some 1); kind = (kinds.Talk None); taken = (Some (record { peer = 0; slot = 0; up = true; epoch = 1; seq = 1; body = Opening })); sent = ((record { peer = 0; slot = 0; up = false; epoch = 1; seq = 1; body = (Line t1) }) ∷ []); lines = ([]) }

abbrev p17 : List Entry
p17 = e17 ∷ p16

abbrev d32 : Driver
d32 = record { past = p17; flights = ((record { to = 1; frame = (record { peer = 0; slot = 0; up = true; epoch = 1; seq = 2; body = Closing }); bytes = [] }) ∷ (record { to = 1; frame = (record { peer = 0; slot = 0; up = true; epoch = 2; seq = 1; body = Opening }); bytes = [] }) ∷ (record { to = 1; frame = (record { peer = 0; slot = 0; up = true; epoch = 2; seq = 2; body = Closing }); bytes = [] }) ∷ (record { to = 1; frame = (record { peer = 0; slot = 0; up = true; epoch = 3; seq = 1; body = Opening }); bytes = [] }) ∷ (record { to = 1; frame = (record { peer = 0; slot = 0; up = true; epoch = 3; seq = 2; body = Closing }); bytes = [] }) ∷ (record { to = 1; frame = (record { peer = 0; slot = 0; up = true; epoch = 4; seq = 1; body = Opening }); bytes = [] }) ∷ (record { to = 0; frame = (record { peer = 1; slot = 0; up = false; epoch = 1; seq = 1; body = (Line t1) }); bytes = [] }) ∷ []); fails = ([]); contents = ((record { repo = 1; key = t0; bytes = c0 }) ∷ []); parts = ([]); largest = 3; tree = ([]); marks = (2 ∷ 3 ∷ 4 ∷ 5 ∷ 6 ∷ 7 ∷ 8 ∷ 9 ∷ 11 ∷ 12 ∷ 13 ∷ 14 ∷ 15 ∷ 16 ∷ 17 ∷ []) }

c_17 : turn given 1 d31 ≡ d32
unfolding opened
c_17 = refl

line15 : does given l15 d31 ≡ d32
line15 = ap (turns given 1 0) c_17

abbrev d33 : Driver
d33 = record { past = p17; flights = ((record { to = 1; frame = (record { peer = 0; slot = 0; up = true; epoch = 1; seq = 2; body = Closing }); bytes = [] }) ∷ (record { to = 1; frame = (record { peer = 0; slot = 0; up = true; epoch = 2; seq = 1; body = Opening }); bytes = [] }) ∷ (record { to = 1; frame = (record { peer = 0; slot = 0; up = true; epoch = 2; seq = 2; body = Closing }); bytes = [] }) ∷ (record { to = 1; frame = (record { peer = 0; slot = 0; up = true; epoch = 3; seq = 1; body = Opening }); bytes = [] }) ∷ (record { to = 1; frame = (record { peer = 0; slot = 0; up = true; epoch = 3; seq = 2; body = Closing }); bytes = [] }) ∷ (record { to = 1; frame = (record { peer = 0; slot = 0; up = true; epoch = 4; seq = 1; body = Opening }); bytes = [] }) ∷ (record { to = 0; frame = (record { peer = 1; slot = 0; up = false; epoch = 1; seq = 1; body = (Line t1) }); bytes = [] }) ∷ []); fails = ([]); contents = ((record { repo = 1; key = t0; bytes = c0 }) ∷ []); parts = ([]); largest = 3; tree = ([]); marks = (2 ∷ 3 ∷ 4 ∷ 5 ∷ 6 ∷ 7 ∷ 8 ∷ 9 ∷ 11 ∷ 12 ∷ 13 ∷ 14 ∷ 15 ∷ 16 ∷ 17 ∷ 18 ∷ []) }

abbrev d34 : Driver
d34 = record { past = p17; flights = ((record { to = 1; frame = (record { peer = 0; slot = 0; up = true; epoch = 1; seq = 2; body = Closing }); bytes = [] }) ∷ (record { to = 1; frame = (record { peer = 0; slot = 0; up = true; epoch = 2; seq = 1; body = Opening }); bytes = [] }) ∷ (record { to = 1; frame = (record { peer = 0; slot = 0; up = true; epoch = 2; seq = 2; body = Closing }); bytes = [] }) ∷ (record { to = 1; frame = (record { peer = 0; slot = 0; up = true; epoch = 3; seq = 1; body = Opening }); bytes = [] }) ∷ (record { to = 1; frame = (record { peer = 0; slot = 0; up = true; epoch = 3; seq = 2; body = Closing }); bytes = [] }) ∷ (record { to = 1; frame = (record { peer = 0; slot = 0; up = true; epoch = 4; seq = 1; body = Opening }); bytes = [] }) ∷ []); fails = ([]); contents = ((record { repo = 1; key = t0; bytes = c0 }) ∷ []); parts = ([]); largest = 3; tree = ([]); marks = (2 ∷ 3 ∷ 4 ∷ 5 ∷ 6 ∷ 7 ∷ 8 ∷ 9 ∷ 11 ∷ 12 ∷ 13 ∷ 14 ∷ 15 ∷ 16 ∷ 17 ∷ 18 ∷ []) }

c_18 : turn given 0 d33 ≡ d34
unfolding opened
c_18 = refl

line16 : does given l16 d33 ≡ d34
line16 = ap (turns given 0 0) c_18

abbrev d35 : Driver
d35 = record { past = p17; flights = ((record { to = 1; frame = (record { peer = 0; slot = 0; up = true; epoch = 1; seq = 2; body = Closing }); bytes = [] }) ∷ (record { to = 1; frame = (record { peer = 0; slot = 0; up = true; epoch = 2; seq = 1; body = Opening }); bytes = [] }) ∷ (record { to = 1; frame = (record { peer = 0; slot = 0; up = true; epoch = 2; seq = 2; body = Closing }); bytes = [] }) ∷ (record { to = 1; frame = (record { peer = 0; slot = 0; up = true; epoch = 3; seq = 1; body = Opening }); bytes = [] }) ∷ (record { to = 1; frame = (record { peer = 0; slot = 0; up = true; epoch = 3; seq = 2; body = Closing }); bytes = [] }) ∷ (record { to = 1; frame = (record { peer = 0; slot = 0; up = true; epoch = 4; seq = 1; body = Opening }); bytes = [] }) ∷ []); fails = ([]); contents = ((record { repo = 1; key = t0; bytes = c0 }) ∷ []); parts = ([]); largest = 3; tree = ([]); marks = (2 ∷ 3 ∷ 4 ∷ 5 ∷ 6 ∷ 7 ∷ 8 ∷ 9 ∷ 11 ∷ 12 ∷ 13 ∷ 14 ∷ 15 ∷ 16 ∷ 17 ∷ 18 ∷ 18 ∷ []) }

abbrev e18 : Entry
e18 = record { time = 0; count = 19; repo = (Some 1); kind = (kinds.Close 0 0 false); taken = (Some (record { peer = 0; slot = 0; up = true; epoch = 1; seq = 2; body = Closing })); sent = ([]); lines = ([]) }

abbrev p18 : List Entry
p18 = e18 ∷ p17

abbrev d36 : Driver
d36 = record { past = p18; flights = ((record { to = 1; frame = (record { peer = 0; slot = 0; up = true; epoch = 2; seq = 1; body = Opening }); bytes = [] }) ∷ (record { to = 1; frame = (record { peer = 0; slot = 0; up = true; epoch = 2; seq = 2; body = Closing }); bytes = [] }) ∷ (record { to = 1; frame = (record { peer = 0; slot = 0; up = true; epoch = 3; seq = 1; body = Opening }); bytes = [] }) ∷ (record { to = 1; frame = (record { peer = 0; slot = 0; up = true; epoch = 3; seq = 2; body = Closing }); bytes = [] }) ∷ (record { to = 1; frame = (record { peer = 0; slot = 0; up = true; epoch = 4; seq = 1; body = Opening }); bytes = [] }) ∷ []); fails = ([]); contents = ((record { repo = 1; key = t0; bytes = c0 }) ∷ []); parts = ([]); largest = 3; tree = ([]); marks = (2 ∷ 3 ∷ 4 ∷ 5 ∷ 6 ∷ 7 ∷ 8 ∷ 9 ∷ 11 ∷ 12 ∷ 13 ∷ 14 ∷ 15 ∷ 16 ∷ 17 ∷ 18 ∷ 18 ∷ []) }

c_19 : turn given 1 d35 ≡ d36
unfolding opened
c_19 = refl

abbrev e19 : Entry
e19 = record { time = 0; count = 20; repo = (Some 1); kind = (kinds.Talk None); taken = (Some (record { peer = 0; slot = 0; up = true; epoch = 2; seq = 1; body = Opening })); sent = ((record { peer = 0; slot = 0; up = false; epoch = 2; seq = 1; body = (Line t1) }) ∷ []); lines = ([]) }

abbrev p19 : List Entry
p19 = e19 ∷ p18

abbrev d37 : Driver
d37 = record { past = p19; flights = ((record { to = 1; frame = (record { peer = 0; slot = 0; up = true; epoch = 2; seq = 2; body = Closing }); bytes = [] }) ∷ (record { to = 1; frame = (record { peer = 0; slot = 0; up = true; epoch = 3; seq = 1; body = Opening }); bytes = [] }) ∷ (record { to = 1; frame = (record { peer = 0; slot = 0; up = true; epoch = 3; seq = 2; body = Closing }); bytes = [] }) ∷ (record { to = 1; frame = (record { peer = 0; slot = 0; up = true; epoch = 4; seq = 1; body = Opening }); bytes = [] }) ∷ (record { to = 0; frame = (record { peer = 1; slot = 0; up = false; epoch = 2; seq = 1; body = (Line t1) }); bytes = [] }) ∷ []); fails = ([]); contents = ((record { repo = 1; key = t0; bytes = c0 }) ∷ []); parts = ([]); largest = 3; tree = ([]); marks = (2 ∷ 3 ∷ 4 ∷ 5 ∷ 6 ∷ 7 ∷ 8 ∷ 9 ∷ 11 ∷ 12 ∷ 13 ∷ 14 ∷ 15 ∷ 16 ∷ 17 ∷ 18 ∷ 18 ∷ []) }

c_20 : turn given 1 d36 ≡ d37
unfolding opened
c_20 = refl

line17 : does given l17 d35 ≡ d37
line17 = ap (turns given 1 1) c_19 ∙ ap (turns given 1 0) c_20

abbrev d38 : Driver
d38 = record { past = p19; flights = ((record { to = 1; frame = (record { peer = 0; slot = 0; up = true; epoch = 2; seq = 2; body = Closing }); bytes = [] }) ∷ (record { to = 1; frame = (record { peer = 0; slot = 0; up = true; epoch = 3; seq = 1; body = Opening }); bytes = [] }) ∷ (record { to = 1; frame = (record { peer = 0; slot = 0; up = true; epoch = 3; seq = 2; body = Closing }); bytes = [] }) ∷ (record { to = 1; frame = (record { peer = 0; slot = 0; up = true; epoch = 4; seq = 1; body = Opening }); bytes = [] }) ∷ (record { to = 0; frame = (record { peer = 1; slot = 0; up = false; epoch = 2; seq = 1; body = (Line t1) }); bytes = [] }) ∷ []); fails = ([]); contents = ((record { repo = 1; key = t0; bytes = c0 }) ∷ []); parts = ([]); largest = 3; tree = ([]); marks = (2 ∷ 3 ∷ 4 ∷ 5 ∷ 6 ∷ 7 ∷ 8 ∷ 9 ∷ 11 ∷ 12 ∷ 13 ∷ 14 ∷ 15 ∷ 16 ∷ 17 ∷ 18 ∷ 18 ∷ 20 ∷ []) }

abbrev d39 : Driver
d39 = record { past = p19; flights = ((record { to = 1; frame = (record { peer = 0; slot = 0; up = true; epoch = 2; seq = 2; body = Closing }); bytes = [] }) ∷ (record { to = 1; frame = (record { peer = 0; slot = 0; up = true; epoch = 3; seq = 1; body = Opening }); bytes = [] }) ∷ (record { to = 1; frame = (record { peer = 0; slot = 0; up = true; epoch = 3; seq = 2; body = Closing }); bytes = [] }) ∷ (record { to = 1; frame = (record { peer = 0; slot = 0; up = true; epoch = 4; seq = 1; body = Opening }); bytes = [] }) ∷ []); fails = ([]); contents = ((record { repo = 1; key = t0; bytes = c0 }) ∷ []); parts = ([]); largest = 3; tree = ([]); marks = (2 ∷ 3 ∷ 4 ∷ 5 ∷ 6 ∷ 7 ∷ 8 ∷ 9 ∷ 11 ∷ 12 ∷ 13 ∷ 14 ∷ 15 ∷ 16 ∷ 17 ∷ 18 ∷ 18 ∷ 20 ∷ []) }

c_21 : turn given 0 d38 ≡ d39
unfolding opened
c_21 = refl

line18 : does given l18 d38 ≡ d39
line18 = ap (turns given 0 0) c_21

abbrev d40 : Driver
d40 = record { past = p19; flights = ((record { to = 1; frame = (record { peer = 0; slot = 0; up = true; epoch = 2; seq = 2; body = Closing }); bytes = [] }) ∷ (record { to = 1; frame = (record { peer = 0; slot = 0; up = true; epoch = 3; seq = 1; body = Opening }); bytes = [] }) ∷ (record { to = 1; frame = (record { peer = 0; slot = 0; up = true; epoch = 3; seq = 2; body = Closing }); bytes = [] }) ∷ (record { to = 1; frame = (record { peer = 0; slot = 0; up = true; epoch = 4; seq = 1; body = Opening }); bytes = [] }) ∷ []); fails = ([]); contents = ((record { repo = 1; key = t0; bytes = c0 }) ∷ []); parts = ([]); largest = 3; tree = ([]); marks = (2 ∷ 3 ∷ 4 ∷ 5 ∷ 6 ∷ 7 ∷ 8 ∷ 9 ∷ 11 ∷ 12 ∷ 13 ∷ 14 ∷ 15 ∷ 16 ∷ 17 ∷ 18 ∷ 18 ∷ 20 ∷ 20 ∷ []) }

c_22 : turn given 0 d40 ≡ d40
unfolding opened
c_22 = refl

abbrev e20 : Entry
e20 = record { time = 0; count = 21; repo = (Some 1); kind = (kinds.Close 0 0 false); taken = (Some (record { peer = 0; slot = 0; up = true; epoch = 2; seq = 2; body = Closing })); sent = ([]); lines = ([]) }

abbrev p20 : List Entry
p20 = e20 ∷ p19

abbrev d41 : Driver
d41 = record { past = p20; flights = ((record { to = 1; frame = (record { peer = 0; slot = 0; up = true; epoch = 3; seq = 1; body = Opening }); bytes = [] }) ∷ (record { to = 1; frame = (record { peer = 0; slot = 0; up = true; epoch = 3; seq = 2; body = Closing }); bytes = [] }) ∷ (record { to = 1; frame = (record { peer = 0; slot = 0; up = true; epoch = 4; seq = 1; body = Opening }); bytes = [] }) ∷ []); fails = ([]); contents = ((record { repo = 1; key = t0; bytes = c0 }) ∷ []); parts = ([]); largest = 3; tree = ([]); marks = (2 ∷ 3 ∷ 4 ∷ 5 ∷ 6 ∷ 7 ∷ 8 ∷ 9 ∷ 11 ∷ 12 ∷ 13 ∷ 14 ∷ 15 ∷ 16 ∷ 17 ∷ 18 ∷ 18 ∷ 20 ∷ 20 ∷ []) }

c_23 : turn given 1 d40 ≡ d41
unfolding opened
c_23 = refl

c_24 : turn given 0 d41 ≡ d41
unfolding opened
c_24 = refl

abbrev e21 : Entry
e21 = record { time = 0; count = 22; repo = (Some 1); kind = (kinds.Talk None); taken = (Some (record { peer = 0; slot = 0; up = true; epoch = 3; seq = 1; body = Opening })); sent = ((record { peer = 0; slot = 0; up = false; epoch = 3; seq = 1; body = (Line t1) }) ∷ []); lines = ([]) }

abbrev p21 : List Entry
p21 = e21 ∷ p20

abbrev d42 : Driver
d42 = record { past = p21; flights = ((record { to = 1; frame = (record { peer = 0; slot = 0; up = true; epoch = 3; seq = 2; body = Closing }); bytes = [] }) ∷ (record { to = 1; frame = (record { peer = 0; slot = 0; up = true; epoch = 4; seq = 1; body = Opening }); bytes = [] }) ∷ (record { to = 0; frame = (record { peer = 1; slot = 0; up = false; epoch = 3; seq = 1; body = (Line t1) }); bytes = [] }) ∷ []); fails = ([]); contents = ((record { repo = 1; key = t0; bytes = c0 }) ∷ []); parts = ([]); largest = 3; tree = ([]); marks = (2 ∷ 3 ∷ 4 ∷ 5 ∷ 6 ∷ 7 ∷ 8 ∷ 9 ∷ 11 ∷ 12 ∷ 13 ∷ 14 ∷ 15 ∷ 16 ∷ 17 ∷ 18 ∷ 18 ∷ 20 ∷ 20 ∷ []) }

c_25 : turn given 1 d41 ≡ d42
unfolding opened
c_25 = refl

abbrev d43 : Driver
d43 = record { past = p21; flights = ((record { to = 1; frame = (record { peer = 0; slot = 0; up = true; epoch = 3; seq = 2; body = Closing }); bytes = [] }) ∷ (record { to = 1; frame = (record { peer = 0; slot = 0; up = true; epoch = 4; seq = 1; body = Opening }); bytes = [] }) ∷ []); fails = ([]); contents = ((record { repo = 1; key = t0; bytes = c0 }) ∷ []); parts = ([]); largest = 3; tree = ([]); marks = (2 ∷ 3 ∷ 4 ∷ 5 ∷ 6 ∷ 7 ∷ 8 ∷ 9 ∷ 11 ∷ 12 ∷ 13 ∷ 14 ∷ 15 ∷ 16 ∷ 17 ∷ 18 ∷ 18 ∷ 20 ∷ 20 ∷ []) }

c_26 : turn given 0 d42 ≡ d43
unfolding opened
c_26 = refl

abbrev e22 : Entry
e22 = record { time = 0; count = 23; repo = (Some 1); kind = (kinds.Close 0 0 false); taken = (Some (record { peer = 0; slot = 0; up = true; epoch = 3; seq = 2; body = Closing })); sent = ([]); lines = ([]) }

abbrev p22 : List Entry
p22 = e22 ∷ p21

abbrev d44 : Driver
d44 = record { past = p22; flights = ((record { to = 1; frame = (record { peer = 0; slot = 0; up = true; epoch = 4; seq = 1; body = Opening }); bytes = [] }) ∷ []); fails = ([]); contents = ((record { repo = 1; key = t0; bytes = c0 }) ∷ []); parts = ([]); largest = 3; tree = ([]); marks = (2 ∷ 3 ∷ 4 ∷ 5 ∷ 6 ∷ 7 ∷ 8 ∷ 9 ∷ 11 ∷ 12 ∷ 13 ∷ 14 ∷ 15 ∷ 16 ∷ 17 ∷ 18 ∷ 18 ∷ 20 ∷ 20 ∷ []) }

c_27 : turn given 1 d43 ≡ d44
unfolding opened
c_27 = refl

c_28 : turn given 0 d44 ≡ d44
unfolding opened
c_28 = refl

abbrev e23 : Entry
e23 = record { time = 0; count = 24; repo = (Some 1); kind = (kinds.Talk None); taken = (Some (record { peer = 0; slot = 0; up = true; epoch = 4; seq = 1; body = Opening })); sent = ((record { peer = 0; slot = 0; up = false; epoch = 4; seq = 1; body = (Line t1) }) ∷ []); lines = ([]) }

abbrev p23 : List Entry
p23 = e23 ∷ p22

abbrev d45 : Driver
d45 = record { past = p23; flights = ((record { to = 0; frame = (record { peer = 1; slot = 0; up = false; epoch = 4; seq = 1; body = (Line t1) }); bytes = [] }) ∷ []); fails = ([]); contents = ((record { repo = 1; key = t0; bytes = c0 }) ∷ []); parts = ([]); largest = 3; tree = ([]); marks = (2 ∷ 3 ∷ 4 ∷ 5 ∷ 6 ∷ 7 ∷ 8 ∷ 9 ∷ 11 ∷ 12 ∷ 13 ∷ 14 ∷ 15 ∷ 16 ∷ 17 ∷ 18 ∷ 18 ∷ 20 ∷ 20 ∷ []) }

c_29 : turn given 1 d44 ≡ d45
unfolding opened
c_29 = refl

abbrev e24 : Entry
e24 = record { time = 0; count = 25; repo = (Some 0); kind = (kinds.Talk (Some 5)); taken = (Some (record { peer = 1; slot = 0; up = false; epoch = 4; seq = 1; body = (Line t1) })); sent = ((record { peer = 1; slot = 0; up = true; epoch = 4; seq = 2; body = (Line t2) }) ∷ []); lines = ([]) }

abbrev p24 : List Entry
p24 = e24 ∷ p23

abbrev d46 : Driver
d46 = record { past = p24; flights = ((record { to = 1; frame = (record { peer = 0; slot = 0; up = true; epoch = 4; seq = 2; body = (Line t2) }); bytes = [] }) ∷ []); fails = ([]); contents = ((record { repo = 1; key = t0; bytes = c0 }) ∷ []); parts = ([]); largest = 3; tree = ([]); marks = (2 ∷ 3 ∷ 4 ∷ 5 ∷ 6 ∷ 7 ∷ 8 ∷ 9 ∷ 11 ∷ 12 ∷ 13 ∷ 14 ∷ 15 ∷ 16 ∷ 17 ∷ 18 ∷ 18 ∷ 20 ∷ 20 ∷ []) }

c_30 : turn given 0 d45 ≡ d46
unfolding opened
c_30 = refl

abbrev e25 : Entry
e25 = record { time = 0; count = 26; repo = (Some 1); kind = (kinds.Talk None); taken = (Some (record { peer = 0; slot = 0; up = true; epoch = 4; seq = 2; body = (Line t2) })); sent = ((record { peer = 0; slot = 0; up = false; epoch = 4; seq = 2; body = (Line t2) }) ∷ []); lines = ([]) }

abbrev p25 : List Entry
p25 = e25 ∷ p24

abbrev d47 : Driver
d47 = record { past = p25; flights = ((record { to = 0; frame = (record { peer = 1; slot = 0; up = false; epoch = 4; seq = 2; body = (Line t2) }); bytes = [] }) ∷ []); fails = ([]); contents = ((record { repo = 1; key = t0; bytes = c0 }) ∷ []); parts = ([]); largest = 3; tree = ([]); marks = (2 ∷ 3 ∷ 4 ∷ 5 ∷ 6 ∷ 7 ∷ 8 ∷ 9 ∷ 11 ∷ 12 ∷ 13 ∷ 14 ∷ 15 ∷ 16 ∷ 17 ∷ 18 ∷ 18 ∷ 20 ∷ 20 ∷ []) }

c_31 : turn given 1 d46 ≡ d47
unfolding opened
c_31 = refl

abbrev e26 : Entry
e26 = record { time = 0; count = 27; repo = (Some 0); kind = (kinds.Talk (Some 5)); taken = (Some (record { peer = 1; slot = 0; up = false; epoch = 4; seq = 2; body = (Line t2) })); sent = ((record { peer = 1; slot = 0; up = true; epoch = 4; seq = 3; body = (Line t3) }) ∷ []); lines = ([]) }

abbrev p26 : List Entry
p26 = e26 ∷ p25

abbrev d48 : Driver
d48 = record { past = p26; flights = ((record { to = 1; frame = (record { peer = 0; slot = 0; up = true; epoch = 4; seq = 3; body = (Line t3) }); bytes = [] }) ∷ []); fails = ([]); contents = ((record { repo = 1; key = t0; bytes = c0 }) ∷ []); parts = ([]); largest = 3; tree = ([]); marks = (2 ∷ 3 ∷ 4 ∷ 5 ∷ 6 ∷ 7 ∷ 8 ∷ 9 ∷ 11 ∷ 12 ∷ 13 ∷ 14 ∷ 15 ∷ 16 ∷ 17 ∷ 18 ∷ 18 ∷ 20 ∷ 20 ∷ []) }

c_32 : turn given 0 d47 ≡ d48
unfolding opened
c_32 = refl

abbrev e27 : Entry
e27 = record { time = 0; count = 28; repo = (Some 1); kind = (kinds.Talk None); taken = (Some (record { peer = 0; slot = 0; up = true; epoch = 4; seq = 3; body = (Line t3) })); sent = ((record { peer = 0; slot = 0; up = false; epoch = 4; seq = 3; body = (Line t4) }) ∷ []); lines = ([]) }

abbrev p27 : List Entry
p27 = e27 ∷ p26

abbrev d49 : Driver
d49 = record { past = p27; flights = ((record { to = 0; frame = (record { peer = 1; slot = 0; up = false; epoch = 4; seq = 3; body = (Line t4) }); bytes = [] }) ∷ []); fails = ([]); contents = ((record { repo = 1; key = t0; bytes = c0 }) ∷ []); parts = ([]); largest = 3; tree = ([]); marks = (2 ∷ 3 ∷ 4 ∷ 5 ∷ 6 ∷ 7 ∷ 8 ∷ 9 ∷ 11 ∷ 12 ∷ 13 ∷ 14 ∷ 15 ∷ 16 ∷ 17 ∷ 18 ∷ 18 ∷ 20 ∷ 20 ∷ []) }

c_33 : turn given 1 d48 ≡ d49
unfolding opened
c_33 = refl

abbrev e28 : Entry
e28 = record { time = 0; count = 29; repo = (Some 0); kind = (kinds.Talk (Some 5)); taken = (Some (record { peer = 1; slot = 0; up = false; epoch = 4; seq = 3; body = (Line t4) })); sent = ([]); lines = ([]) }

abbrev p28 : List Entry
p28 = e28 ∷ p27

abbrev d50 : Driver
d50 = record { past = p28; flights = ([]); fails = ([]); contents = ((record { repo = 1; key = t0; bytes = c0 }) ∷ []); parts = ([]); largest = 3; tree = ([]); marks = (2 ∷ 3 ∷ 4 ∷ 5 ∷ 6 ∷ 7 ∷ 8 ∷ 9 ∷ 11 ∷ 12 ∷ 13 ∷ 14 ∷ 15 ∷ 16 ∷ 17 ∷ 18 ∷ 18 ∷ 20 ∷ 20 ∷ []) }

c_34 : turn given 0 d49 ≡ d50
unfolding opened
c_34 = refl

abbrev e29 : Entry
e29 = record { time = 0; count = 30; repo = (Some 1); kind = (kinds.Talk None); taken = None; sent = ((record { peer = 0; slot = 0; up = false; epoch = 4; seq = 4; body = (Bytes 3) }) ∷ []); lines = ([]) }

abbrev p29 : List Entry
p29 = e29 ∷ p28

abbrev d51 : Driver
d51 = record { past = p29; flights = ((record { to = 0; frame = (record { peer = 1; slot = 0; up = false; epoch = 4; seq = 4; body = (Bytes 3) }); bytes = c0 }) ∷ []); fails = ([]); contents = ((record { repo = 1; key = t0; bytes = c0 }) ∷ []); parts = ([]); largest = 3; tree = ([]); marks = (2 ∷ 3 ∷ 4 ∷ 5 ∷ 6 ∷ 7 ∷ 8 ∷ 9 ∷ 11 ∷ 12 ∷ 13 ∷ 14 ∷ 15 ∷ 16 ∷ 17 ∷ 18 ∷ 18 ∷ 20 ∷ 20 ∷ []) }

c_35 : turn given 1 d50 ≡ d51
unfolding opened
c_35 = refl

abbrev e30 : Entry
e30 = record { time = 0; count = 31; repo = (Some 0); kind = (kinds.Talk (Some 5)); taken = (Some (record { peer = 1; slot = 0; up = false; epoch = 4; seq = 4; body = (Bytes 3) })); sent = ([]); lines = ([]) }

abbrev p30 : List Entry
p30 = e30 ∷ p29

abbrev d52 : Driver
d52 = record { past = p30; flights = ([]); fails = ([]); contents = ((record { repo = 1; key = t0; bytes = c0 }) ∷ []); parts = ((record { repo = 0; key = t0; bytes = c0 }) ∷ []); largest = 3; tree = ([]); marks = (2 ∷ 3 ∷ 4 ∷ 5 ∷ 6 ∷ 7 ∷ 8 ∷ 9 ∷ 11 ∷ 12 ∷ 13 ∷ 14 ∷ 15 ∷ 16 ∷ 17 ∷ 18 ∷ 18 ∷ 20 ∷ 20 ∷ []) }

c_36 : turn given 0 d51 ≡ d52
unfolding opened
c_36 = refl

abbrev e31 : Entry
e31 = record { time = 0; count = 32; repo = (Some 1); kind = (kinds.Talk None); taken = None; sent = ((record { peer = 0; slot = 0; up = false; epoch = 4; seq = 5; body = (Line t5) }) ∷ []); lines = ([]) }

abbrev p31 : List Entry
p31 = e31 ∷ p30

abbrev d53 : Driver
d53 = record { past = p31; flights = ((record { to = 0; frame = (record { peer = 1; slot = 0; up = false; epoch = 4; seq = 5; body = (Line t5) }); bytes = [] }) ∷ []); fails = ([]); contents = ((record { repo = 1; key = t0; bytes = c0 }) ∷ []); parts = ((record { repo = 0; key = t0; bytes = c0 }) ∷ []); largest = 3; tree = ([]); marks = (2 ∷ 3 ∷ 4 ∷ 5 ∷ 6 ∷ 7 ∷ 8 ∷ 9 ∷ 11 ∷ 12 ∷ 13 ∷ 14 ∷ 15 ∷ 16 ∷ 17 ∷ 18 ∷ 18 ∷ 20 ∷ 20 ∷ []) }

c_37 : turn given 1 d52 ≡ d53
unfolding opened
c_37 = refl

abbrev e32 : Entry
e32 = record { time = 0; count = 33; repo = (Some 0); kind = (kinds.Gain (by.Job 5) 3 t0); taken = (Some (record { peer = 1; slot = 0; up = false; epoch = 4; seq = 5; body = (Line t5) })); sent = ((record { peer = 1; slot = 0; up = true; epoch = 4; seq = 4; body = (Line t6) }) ∷ []); lines = ([]) }

abbrev p32 : List Entry
p32 = e32 ∷ p31

abbrev d54 : Driver
d54 = record { past = p32; flights = ((record { to = 1; frame = (record { peer = 0; slot = 0; up = true; epoch = 4; seq = 4; body = (Line t6) }); bytes = [] }) ∷ []); fails = ([]); contents = ((record { repo = 0; key = t0; bytes = c0 }) ∷ (record { repo = 1; key = t0; bytes = c0 }) ∷ []); parts = ([]); largest = 3; tree = ([]); marks = (2 ∷ 3 ∷ 4 ∷ 5 ∷ 6 ∷ 7 ∷ 8 ∷ 9 ∷ 11 ∷ 12 ∷ 13 ∷ 14 ∷ 15 ∷ 16 ∷ 17 ∷ 18 ∷ 18 ∷ 20 ∷ 20 ∷ []) }

c_38 : turn given 0 d53 ≡ d54
unfolding opened
c_38 = refl

abbrev e33 : Entry
e33 = record { time = 0; count = 34; repo = (Some 1); kind = (kinds.Talk None); taken = (Some (record { peer = 0; slot = 0; up = true; epoch = 4; seq = 4; body = (Line t6) })); sent = ([]); lines = ([]) }

abbrev p33 : List Entry
p33 = e33 ∷ p32

abbrev d55 : Driver
d55 = record { past = p33; flights = ([]); fails = ([]); contents = ((record { repo = 0; key = t0; bytes = c0 }) ∷ (record { repo = 1; key = t0; bytes = c0 }) ∷ []); parts = ([]); largest = 3; tree = ([]); marks = (2 ∷ 3 ∷ 4 ∷ 5 ∷ 6 ∷ 7 ∷ 8 ∷ 9 ∷ 11 ∷ 12 ∷ 13 ∷ 14 ∷ 15 ∷ 16 ∷ 17 ∷ 18 ∷ 18 ∷ 20 ∷ 20 ∷ []) }

c_39 : turn given 1 d54 ≡ d55
unfolding opened
c_39 = refl

abbrev e34 : Entry
e34 = record { time = 0; count = 35; repo = (Some 0); kind = (kinds.Log (Location t0)); taken = None; sent = ([]); lines = (t8 ∷ []) }

abbrev p34 : List Entry
p34 = e34 ∷ p33

abbrev d56 : Driver
d56 = record { past = p34; flights = ([]); fails = ([]); contents = ((record { repo = 0; key = t0; bytes = c0 }) ∷ (record { repo = 1; key = t0; bytes = c0 }) ∷ []); parts = ([]); largest = 3; tree = ([]); marks = (2 ∷ 3 ∷ 4 ∷ 5 ∷ 6 ∷ 7 ∷ 8 ∷ 9 ∷ 11 ∷ 12 ∷ 13 ∷ 14 ∷ 15 ∷ 16 ∷ 17 ∷ 18 ∷ 18 ∷ 20 ∷ 20 ∷ []) }

c_40 : turn given 0 d55 ≡ d56
unfolding opened
c_40 = refl

c_41 : turn given 1 d56 ≡ d56
unfolding opened
c_41 = refl

abbrev e35 : Entry
e35 = record { time = 0; count = 36; repo = (Some 0); kind = (kinds.End 5 (outcomes.Got (Some 1) (Some 0))); taken = None; sent = ((record { peer = 1; slot = 0; up = true; epoch = 4; seq = 5; body = Closing }) ∷ []); lines = ([]) }

abbrev p35 : List Entry
p35 = e35 ∷ p34

abbrev d57 : Driver
d57 = record { past = p35; flights = ((record { to = 1; frame = (record { peer = 0; slot = 0; up = true; epoch = 4; seq = 5; body = Closing }); bytes = [] }) ∷ []); fails = ([]); contents = ((record { repo = 0; key = t0; bytes = c0 }) ∷ (record { repo = 1; key = t0; bytes = c0 }) ∷ []); parts = ([]); largest = 3; tree = ([]); marks = (2 ∷ 3 ∷ 4 ∷ 5 ∷ 6 ∷ 7 ∷ 8 ∷ 9 ∷ 11 ∷ 12 ∷ 13 ∷ 14 ∷ 15 ∷ 16 ∷ 17 ∷ 18 ∷ 18 ∷ 20 ∷ 20 ∷ []) }

c_42 : turn given 0 d56 ≡ d57
unfolding opened
c_42 = refl

abbrev e36 : Entry
e36 = record { time = 0; count = 37; repo = (Some 1); kind = (kinds.Close 0 0 false); taken = (Some (record { peer = 0; slot = 0; up = true; epoch = 4; seq = 5; body = Closing })); sent = ([]); lines = ([]) }

abbrev p36 : List Entry
p36 = e36 ∷ p35

abbrev d58 : Driver
d58 = record { past = p36; flights = ([]); fails = ([]); contents = ((record { repo = 0; key = t0; bytes = c0 }) ∷ (record { repo = 1; key = t0; bytes = c0 }) ∷ []); parts = ([]); largest = 3; tree = ([]); marks = (2 ∷ 3 ∷ 4 ∷ 5 ∷ 6 ∷ 7 ∷ 8 ∷ 9 ∷ 11 ∷ 12 ∷ 13 ∷ 14 ∷ 15 ∷ 16 ∷ 17 ∷ 18 ∷ 18 ∷ 20 ∷ 20 ∷ []) }

c_43 : turn given 1 d57 ≡ d58
unfolding opened
c_43 = refl

c_44 : turn given 0 d58 ≡ d58
unfolding opened
c_44 = refl

c_45 : turn given 1 d58 ≡ d58
unfolding opened
c_45 = refl

line19 : does given l19 d40 ≡ d58
line19 = settles_by given 13 d40 (record { driver = d58; idle = 2 }) (ap (goes given 12) (came given 0 d40 d41 refl (ap (turns_of given (1 ∷ [])) c_22 ∙ ap (turns_of given ([])) c_23)) ∙ (ap (goes given 11) (came given 0 d41 d42 refl (ap (turns_of given (1 ∷ [])) c_24 ∙ ap (turns_of given ([])) c_25)) ∙ (ap (goes given 10) (came given 0 d42 d44 refl (ap (turns_of given (1 ∷ [])) c_26 ∙ ap (turns_of given ([])) c_27)) ∙ (ap (goes given 9) (came given 0 d44 d45 refl (ap (turns_of given (1 ∷ [])) c_28 ∙ ap (turns_of given ([])) c_29)) ∙ (ap (goes given 8) (came given 0 d45 d47 refl (ap (turns_of given (1 ∷ [])) c_30 ∙ ap (turns_of given ([])) c_31)) ∙ (ap (goes given 7) (came given 0 d47 d49 refl (ap (turns_of given (1 ∷ [])) c_32 ∙ ap (turns_of given ([])) c_33)) ∙ (ap (goes given 6) (came given 0 d49 d51 refl (ap (turns_of given (1 ∷ [])) c_34 ∙ ap (turns_of given ([])) c_35)) ∙ (ap (goes given 5) (came given 0 d51 d53 refl (ap (turns_of given (1 ∷ [])) c_36 ∙ ap (turns_of given ([])) c_37)) ∙ (ap (goes given 4) (came given 0 d53 d55 refl (ap (turns_of given (1 ∷ [])) c_38 ∙ ap (turns_of given ([])) c_39)) ∙ (ap (goes given 3) (came given 0 d55 d56 refl (ap (turns_of given (1 ∷ [])) c_40 ∙ ap (turns_of given ([])) c_41)) ∙ (ap (goes given 2) (came given 0 d56 d58 refl (ap (turns_of given (1 ∷ [])) c_42 ∙ ap (turns_of given ([])) c_43)) ∙ (ap (goes given 1) (came given 0 d58 d58 refl (ap (turns_of given (1 ∷ [])) c_44 ∙ ap (turns_of given ([])) c_45)) ∙ (ap (goes given 0) (came given 1 d58 d58 refl (ap (turns_of given (1 ∷ [])) c_44 ∙ ap (turns_of given ([])) c_45)) ∙ (refl)))))))))))))) refl (omega arith)

abbrev d59 : Driver
d59 = record { past = p36; flights = ([]); fails = ([]); contents = ((record { repo = 0; key = t0; bytes = c0 }) ∷ (record { repo = 1; key = t0; bytes = c0 }) ∷ []); parts = ([]); largest = 3; tree = ([]); marks = (2 ∷ 3 ∷ 4 ∷ 5 ∷ 6 ∷ 7 ∷ 8 ∷ 9 ∷ 11 ∷ 12 ∷ 13 ∷ 14 ∷ 15 ∷ 16 ∷ 17 ∷ 18 ∷ 18 ∷ 20 ∷ 20 ∷ 37 ∷ []) }

abbrev made : Run
made = record { repos = repos; entries = (e0 ∷ e1 ∷ e2 ∷ e3 ∷ e4 ∷ e5 ∷ e6 ∷ e7 ∷ e8 ∷ e9 ∷ e10 ∷ e11 ∷ e12 ∷ e13 ∷ e14 ∷ e15 ∷ e16 ∷ e17 ∷ e18 ∷ e19 ∷ e20 ∷ e21 ∷ e22 ∷ e23 ∷ e24 ∷ e25 ∷ e26 ∷ e27 ∷ e28 ∷ e29 ∷ e30 ∷ e31 ∷ e32 ∷ e33 ∷ e34 ∷ e35 ∷ e36 ∷ []); tree = ([]); marks = (2 ∷ 3 ∷ 4 ∷ 5 ∷ 6 ∷ 7 ∷ 8 ∷ 9 ∷ 11 ∷ 12 ∷ 13 ∷ 14 ∷ 15 ∷ 16 ∷ 17 ∷ 18 ∷ 18 ∷ 20 ∷ 20 ∷ 37 ∷ []) }

all : drives given (l0 ∷ l1 ∷ l2 ∷ l3 ∷ l4 ∷ l5 ∷ l6 ∷ l7 ∷ l8 ∷ l9 ∷ l10 ∷ l11 ∷ l12 ∷ l13 ∷ l14 ∷ l15 ∷ l16 ∷ l17 ∷ l18 ∷ l19 ∷ []) at_first ≡ d59
all = ap (λ d. drives given (l1 ∷ l2 ∷ l3 ∷ l4 ∷ l5 ∷ l6 ∷ l7 ∷ l8 ∷ l9 ∷ l10 ∷ l11 ∷ l12 ∷ l13 ∷ l14 ∷ l15 ∷ l16 ∷ l17 ∷ l18 ∷ l19 ∷ []) (with_mark d)) line0 ∙ ap (λ d. drives given (l2 ∷ l3 ∷ l4 ∷ l5 ∷ l6 ∷ l7 ∷ l8 ∷ l9 ∷ l10 ∷ l11 ∷ l12 ∷ l13 ∷ l14 ∷ l15 ∷ l16 ∷ l17 ∷ l18 ∷ l19 ∷ []) (with_mark d)) line1 ∙ ap (λ d. drives given (l3 ∷ l4 ∷ l5 ∷ l6 ∷ l7 ∷ l8 ∷ l9 ∷ l10 ∷ l11 ∷ l12 ∷ l13 ∷ l14 ∷ l15 ∷ l16 ∷ l17 ∷ l18 ∷ l19 ∷ []) (with_mark d)) line2 ∙ ap (λ d. drives given (l4 ∷ l5 ∷ l6 ∷ l7 ∷ l8 ∷ l9 ∷ l10 ∷ l11 ∷ l12 ∷ l13 ∷ l14 ∷ l15 ∷ l16 ∷ l17 ∷ l18 ∷ l19 ∷ []) (with_mark d)) line3 ∙ ap (λ d. drives given (l5 ∷ l6 ∷ l7 ∷ l8 ∷ l9 ∷ l10 ∷ l11 ∷ l12 ∷ l13 ∷ l14 ∷ l15 ∷ l16 ∷ l17 ∷ l18 ∷ l19 ∷ []) (with_mark d)) line4 ∙ ap (λ d. drives given (l6 ∷ l7 ∷ l8 ∷ l9 ∷ l10 ∷ l11 ∷ l12 ∷ l13 ∷ l14 ∷ l15 ∷ l16 ∷ l17 ∷ l18 ∷ l19 ∷ []) (with_mark d)) line5 ∙ ap (λ d. drives given (l7 ∷ l8 ∷ l9 ∷ l10 ∷ l11 ∷ l12 ∷ l13 ∷ l14 ∷ l15 ∷ l16 ∷ l17 ∷ l18 ∷ l19 ∷ []) (with_mark d)) line6 ∙ ap (λ d. drives given (l8 ∷ l9 ∷ l10 ∷ l11 ∷ l12 ∷ l13 ∷ l14 ∷ l15 ∷ l16 ∷ l17 ∷ l18 ∷ l19 ∷ []) (with_mark d)) line7 ∙ ap (λ d. drives given (l9 ∷ l10 ∷ l11 ∷ l12 ∷ l13 ∷ l14 ∷ l15 ∷ l16 ∷ l17 ∷ l18 ∷ l19 ∷ []) (with_mark d)) line8 ∙ ap (λ d. drives given (l10 ∷ l11 ∷ l12 ∷ l13 ∷ l14 ∷ l15 ∷ l16 ∷ l17 ∷ l18 ∷ l19 ∷ []) (with_mark d)) line9 ∙ ap (λ d. drives given (l11 ∷ l12 ∷ l13 ∷ l14 ∷ l15 ∷ l16 ∷ l17 ∷ l18 ∷ l19 ∷ []) (with_mark d)) line10 ∙ ap (λ d. drives given (l12 ∷ l13 ∷ l14 ∷ l15 ∷ l16 ∷ l17 ∷ l18 ∷ l19 ∷ []) (with_mark d)) line11 ∙ ap (λ d. drives given (l13 ∷ l14 ∷ l15 ∷ l16 ∷ l17 ∷ l18 ∷ l19 ∷ []) (with_mark d)) line12 ∙ ap (λ d. drives given (l14 ∷ l15 ∷ l16 ∷ l17 ∷ l18 ∷ l19 ∷ []) (with_mark d)) line13 ∙ ap (λ d. drives given (l15 ∷ l16 ∷ l17 ∷ l18 ∷ l19 ∷ []) (with_mark d)) line14 ∙ ap (λ d. drives given (l16 ∷ l17 ∷ l18 ∷ l19 ∷ []) (with_mark d)) line15 ∙ ap (λ d. drives given (l17 ∷ l18 ∷ l19 ∷ []) (with_mark d)) line16 ∙ ap (λ d. drives given (l18 ∷ l19 ∷ []) (with_mark d)) line17 ∙ ap (λ d. drives given (l19 ∷ []) (with_mark d)) line18 ∙ ap (λ d. drives given ([]) (with_mark d)) line19

claim : run_of given (l0 ∷ l1 ∷ l2 ∷ l3 ∷ l4 ∷ l5 ∷ l6 ∷ l7 ∷ l8 ∷ l9 ∷ l10 ∷ l11 ∷ l12 ∷ l13 ∷ l14 ∷ l15 ∷ l16 ∷ l17 ∷ l18 ∷ l19 ∷ []) ≡ made
claim = ap (run_with given) all
