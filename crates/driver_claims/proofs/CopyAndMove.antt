-- The run of the script copy-and-move: the driver makes it, turn by turn, as an executable model does.
use Rattle.std.proofs.Common.{ap, ◌∙◌, arith}
use Rattle.std.specs.Prelude.{◌≡◌, refl, ℕ, true, false, List, [], ◌∷◌, Some, None, codes}
use Rattle.run_data.specs.declared.entry.Entry.{Entry}
use Rattle.run_data.specs.declared.entry.EntryKind.TheVariants as kinds
use Rattle.run_data.specs.declared.entry.By.TheVariants as by
use Rattle.run_data.specs.declared.entry.FrameText.TheVariants.{Opening, Closing, Bytes, Line}
use Rattle.run_data.specs.declared.entry.LogFile.TheVariants.{Location}
use Rattle.run_data.specs.declared.job.JobKind.TheVariants as jobs
use Rattle.run_data.specs.declared.job.Outcome.TheVariants as outcomes
use Rattle.run_data.specs.declared.job.DropRefusal.TheVariants as drops
use Rattle.run_data.specs.declared.run.RepoView.{RepoView}
use Rattle.run_data.specs.declared.run.Run.{Run}
use Rattle.script_commands.specs.declared.command.Action.TheVariants as actions
use Rattle.script_commands.specs.declared.command.Action.TheVariants.{Have}
use Rattle.script_commands.specs.declared.command.Command.{Command}
use Rattle.script_commands.specs.declared.command.Command.TheVariants.{Does}
use Rattle.driver_model.specs.Driver.{Driver, DriverInput, at_first}
use Rattle.driver_model.specs.ScriptSteps.{begins}
use Rattle.driver_model.specs.Turning.{turn}
use Rattle.driver_model.specs.Rounds.{settles, turns_of}
use Rattle.driver_model.specs.Driving.{does, drives, with_mark, run_of, run_with}
use Rattle.driver_claims.proofs.Settling.{came, goes, settles_by}
use Rattle.driver_claims.specs.Opened.{opened, matches_in}

abbrev t0 : List ℕ
t0 = (codes "WORM-s3--abc")

abbrev t1 : List ℕ
t1 = (codes "AUTH-SUCCESS 22222222-2222-4222-8222-222222222222")

abbrev t2 : List ℕ
t2 = (codes "VERSION 3")

abbrev t3 : List ℕ
t3 = (codes "PUT  WORM-s3--abc")

abbrev t4 : List ℕ
t4 = (codes "PUT-FROM 0")

abbrev t5 : List ℕ
t5 = (codes "DATA 3")

abbrev t6 : List ℕ
t6 = (codes "VALID")

abbrev t7 : List ℕ
t7 = (codes "SUCCESS")

abbrev t8 : List ℕ
t8 = (codes "ALREADY-HAVE")

abbrev t9 : List ℕ
t9 = (codes "LOCKCONTENT WORM-s3--abc")

abbrev t10 : List ℕ
t10 = (codes "UNLOCKCONTENT WORM-s3--abc")

abbrev t11 : List ℕ
t11 = (codes "1700000000s 1 11111111-1111-4111-8111-111111111111")

abbrev t12 : List ℕ
t12 = (codes "1700000000s 1 22222222-2222-4222-8222-222222222222")

abbrev t13 : List ℕ
t13 = (codes "1700000000.000000001s 1 22222222-2222-4222-8222-222222222222")

abbrev t14 : List ℕ
t14 = (codes "1700000000.000000001s 0 11111111-1111-4111-8111-111111111111")

abbrev c0 : List ℕ
c0 = (codes "abc")

abbrev repos : List RepoView
repos = ((record { name = (codes "a"); id = (17 ∷ 17 ∷ 17 ∷ 17 ∷ 17 ∷ 17 ∷ 65 ∷ 17 ∷ 129 ∷ 17 ∷ 17 ∷ 17 ∷ 17 ∷ 17 ∷ 17 ∷ 17 ∷ []); offset = 0; version = 3; locks = true }) ∷ (record { name = (codes "b"); id = (34 ∷ 34 ∷ 34 ∷ 34 ∷ 34 ∷ 34 ∷ 66 ∷ 34 ∷ 130 ∷ 34 ∷ 34 ∷ 34 ∷ 34 ∷ 34 ∷ 34 ∷ 34 ∷ []); offset = 0; version = 3; locks = true }) ∷ [])

abbrev given : DriverInput
given = record { repos = repos; matches = matches_in ((t0, c0) ∷ []) }

abbrev l0 : Command
l0 = Does (Have 0 t0 c0)

abbrev l1 : Command
l1 = Does (actions.Run 0 (record { kind = jobs.Copy; key = t0; path = None; peer = (Some 1) }))

abbrev l2 : Command
l2 = Does (actions.Run 0 (record { kind = jobs.MoveTo; key = t0; path = None; peer = (Some 1) }))

abbrev l3 : Command
l3 = Does (actions.Run 0 (record { kind = jobs.Drop; key = t0; path = None; peer = None }))

abbrev d0 : Driver
d0 = record { past = []; flights = ([]); fails = ([]); contents = ([]); parts = ([]); largest = 0; tree = ([]); marks = ([]) }

abbrev e0 : Entry
e0 = record { time = 0; count = 1; repo = (Some 0); kind = (kinds.Gain by.Script 3 t0); taken = None; sent = ([]); lines = ([]) }

abbrev p0 : List Entry
p0 = e0 ∷ []

abbrev e1 : Entry
e1 = record { time = 0; count = 2; repo = (Some 0); kind = (kinds.Log (Location t0)); taken = None; sent = ([]); lines = (t11 ∷ []) }

abbrev p1 : List Entry
p1 = e1 ∷ p0

abbrev d1 : Driver
d1 = record { past = p1; flights = ([]); fails = ([]); contents = ((record { repo = 0; key = t0; bytes = c0 }) ∷ []); parts = ([]); largest = 3; tree = ([]); marks = ([]) }

c_0 : does given l0 d0 ≡ d1
unfolding opened
c_0 = refl

line0 : does given l0 d0 ≡ d1
line0 = c_0

abbrev d2 : Driver
d2 = record { past = p1; flights = ([]); fails = ([]); contents = ((record { repo = 0; key = t0; bytes = c0 }) ∷ []); parts = ([]); largest = 3; tree = ([]); marks = (2 ∷ []) }

abbrev e2 : Entry
e2 = record { time = 0; count = 3; repo = (Some 0); kind = (kinds.Begin 1 (record { kind = jobs.Copy; key = t0; path = None; peer = (Some 1) })); taken = None; sent = ([]); lines = ([]) }

abbrev p2 : List Entry
p2 = e2 ∷ p1

abbrev d3 : Driver
d3 = record { past = p2; flights = ([]); fails = ([]); contents = ((record { repo = 0; key = t0; bytes = c0 }) ∷ []); parts = ([]); largest = 3; tree = ([]); marks = (2 ∷ []) }

c_1 : begins 0 (record { kind = jobs.Copy; key = t0; path = None; peer = (Some 1) }) d2 ≡ d3
unfolding opened
c_1 = refl

abbrev e3 : Entry
e3 = record { time = 0; count = 4; repo = (Some 0); kind = (kinds.Talk (Some 1)); taken = None; sent = ((record { peer = 1; slot = 0; up = true; epoch = 1; seq = 1; body = Opening }) ∷ []); lines = ([]) }

abbrev p3 : List Entry
p3 = e3 ∷ p2

abbrev d4 : Driver
d4 = record { past = p3; flights = ((record { to = 1; frame = (record { peer = 0; slot = 0; up = true; epoch = 1; seq = 1; body = Opening }); bytes = [] }) ∷ []); fails = ([]); contents = ((record { repo = 0; key = t0; bytes = c0 }) ∷ []); parts = ([]); largest = 3; tree = ([]); marks = (2 ∷ []) }

c_2 : turn given 0 d3 ≡ d4
unfolding opened
c_2 = refl

abbrev e4 : Entry
e4 = record { time = 0; count = 5; repo = (Some 1); kind = (kinds.Talk None); taken = (Some (record { peer = 0; slot = 0; up = true; epoch = 1; seq = 1; body = Opening })); sent = ((record { peer = 0; slot = 0; up = false; epoch = 1; seq = 1; body = (Line t1) }) ∷ []); lines = ([]) }

abbrev p4 : List Entry
p4 = e4 ∷ p3

abbrev d5 : Driver
d5 = record { past = p4; flights = ((record { to = 0; frame = (record { peer = 1; slot = 0; up = false; epoch = 1; seq = 1; body = (Line t1) }); bytes = [] }) ∷ []); fails = ([]); contents = ((record { repo = 0; key = t0; bytes = c0 }) ∷ []); parts = ([]); largest = 3; tree = ([]); marks = (2 ∷ []) }

c_3 : turn given 1 d4 ≡ d5
unfolding opened
c_3 = refl

abbrev e5 : Entry
e5 = record { time = 0; count = 6; repo = (Some 0); kind = (kinds.Talk (Some 1)); taken = (Some (record { peer = 1; slot = 0; up = false; epoch = 1; seq = 1; body = (Line t1) })); sent = ((record { peer = 1; slot = 0; up = true; epoch = 1; seq = 2; body = (Line t2) }) ∷ []); lines = ([]) }

abbrev p5 : List Entry
p5 = e5 ∷ p4

abbrev d6 : Driver
d6 = record { past = p5; flights = ((record { to = 1; frame = (record { peer = 0; slot = 0; up = true; epoch = 1; seq = 2; body = (Line t2) }); bytes = [] }) ∷ []); fails = ([]); contents = ((record { repo = 0; key = t0; bytes = c0 }) ∷ []); parts = ([]); largest = 3; tree = ([]); marks = (2 ∷ []) }

c_4 : turn given 0 d5 ≡ d6
unfolding opened
c_4 = refl

abbrev e6 : Entry
e6 = record { time = 0; count = 7; repo = (Some 1); kind = (kinds.Talk None); taken = (Some (record { peer = 0; slot = 0; up = true; epoch = 1; seq = 2; body = (Line t2) })); sent = ((record { peer = 0; slot = 0; up = false; epoch = 1; seq = 2; body = (Line t2) }) ∷ []); lines = ([]) }

abbrev p6 : List Entry
p6 = e6 ∷ p5

abbrev d7 : Driver
d7 = record { past = p6; flights = ((record { to = 0; frame = (record { peer = 1; slot = 0; up = false; epoch = 1; seq = 2; body = (Line t2) }); bytes = [] }) ∷ []); fails = ([]); contents = ((record { repo = 0; key = t0; bytes = c0 }) ∷ []); parts = ([]); largest = 3; tree = ([]); marks = (2 ∷ []) }

c_5 : turn given 1 d6 ≡ d7
unfolding opened
c_5 = refl

abbrev e7 : Entry
e7 = record { time = 0; count = 8; repo = (Some 0); kind = (kinds.Talk (Some 1)); taken = (Some (record { peer = 1; slot = 0; up = false; epoch = 1; seq = 2; body = (Line t2) })); sent = ((record { peer = 1; slot = 0; up = true; epoch = 1; seq = 3; body = (Line t3) }) ∷ []); lines = ([]) }

abbrev p7 : List Entry
p7 = e7 ∷ p6

abbrev d8 : Driver
d8 = record { past = p7; flights = ((record { to = 1; frame = (record { peer = 0; slot = 0; up = true; epoch = 1; seq = 3; body = (Line t3) }); bytes = [] }) ∷ []); fails = ([]); contents = ((record { repo = 0; key = t0; bytes = c0 }) ∷ []); parts = ([]); largest = 3; tree = ([]); marks = (2 ∷ []) }

c_6 : turn given 0 d7 ≡ d8
unfolding opened
c_6 = refl

abbrev e8 : Entry
e8 = record { time = 0; count = 9; repo = (Some 1); kind = (kinds.Talk None); taken = (Some (record { peer = 0; slot = 0; up = true; epoch = 1; seq = 3; body = (Line t3) })); sent = ((record { peer = 0; slot = 0; up = false; epoch = 1; seq = 3; body = (Line t4) }) ∷ []); lines = ([]) }

abbrev p8 : List Entry
p8 = e8 ∷ p7

abbrev d9 : Driver
d9 = record { past = p8; flights = ((record { to = 0; frame = (record { peer = 1; slot = 0; up = false; epoch = 1; seq = 3; body = (Line t4) }); bytes = [] }) ∷ []); fails = ([]); contents = ((record { repo = 0; key = t0; bytes = c0 }) ∷ []); parts = ([]); largest = 3; tree = ([]); marks = (2 ∷ []) }

c_7 : turn given 1 d8 ≡ d9
unfolding opened
c_7 = refl

abbrev e9 : Entry
e9 = record { time = 0; count = 10; repo = (Some 0); kind = (kinds.Talk (Some 1)); taken = (Some (record { peer = 1; slot = 0; up = false; epoch = 1; seq = 3; body = (Line t4) })); sent = ((record { peer = 1; slot = 0; up = true; epoch = 1; seq = 4; body = (Line t5) }) ∷ []); lines = ([]) }

abbrev p9 : List Entry
p9 = e9 ∷ p8

abbrev d10 : Driver
d10 = record { past = p9; flights = ((record { to = 1; frame = (record { peer = 0; slot = 0; up = true; epoch = 1; seq = 4; body = (Line t5) }); bytes = [] }) ∷ []); fails = ([]); contents = ((record { repo = 0; key = t0; bytes = c0 }) ∷ []); parts = ([]); largest = 3; tree = ([]); marks = (2 ∷ []) }

c_8 : turn given 0 d9 ≡ d10
unfolding opened
c_8 = refl

abbrev e10 : Entry
e10 = record { time = 0; count = 11; repo = (Some 1); kind = (kinds.Talk None); taken = (Some (record { peer = 0; slot = 0; up = true; epoch = 1; seq = 4; body = (Line t5) })); sent = ([]); lines = ([]) }

abbrev p10 : List Entry
p10 = e10 ∷ p9

abbrev d11 : Driver
d11 = record { past = p10; flights = ([]); fails = ([]); contents = ((record { repo = 0; key = t0; bytes = c0 }) ∷ []); parts = ([]); largest = 3; tree = ([]); marks = (2 ∷ []) }

c_9 : turn given 1 d10 ≡ d11
unfolding opened
c_9 = refl

abbrev e11 : Entry
e11 = record { time = 0; count = 12; repo = (Some 0); kind = (kinds.Talk (Some 1)); taken = None; sent = ((record { peer = 1; slot = 0; up = true; epoch = 1; seq = 5; body = (Bytes 3) }) ∷ []); lines = ([]) }

abbrev p11 : List Entry
p11 = e11 ∷ p10

abbrev d12 : Driver
d12 = record { past = p11; flights = ((record { to = 1; frame = (record { peer = 0; slot = 0; up = true; epoch = 1; seq = 5; body = (Bytes 3) }); bytes = c0 }) ∷ []); fails = ([]); contents = ((record { repo = 0; key = t0; bytes = c0 }) ∷ []); parts = ([]); largest = 3; tree = ([]); marks = (2 ∷ []) }

c_10 : turn given 0 d11 ≡ d12
unfolding opened
c_10 = refl

abbrev e12 : Entry
e12 = record { time = 0; count = 13; repo = (Some 1); kind = (kinds.Talk None); taken = (Some (record { peer = 0; slot = 0; up = true; epoch = 1; seq = 5; body = (Bytes 3) })); sent = ([]); lines = ([]) }

abbrev p12 : List Entry
p12 = e12 ∷ p11

abbrev d13 : Driver
d13 = record { past = p12; flights = ([]); fails = ([]); contents = ((record { repo = 0; key = t0; bytes = c0 }) ∷ []); parts = ((record { repo = 1; key = t0; bytes = c0 }) ∷ []); largest = 3; tree = ([]); marks = (2 ∷ []) }

c_11 : turn given 1 d12 ≡ d13
unfolding opened
c_11 = refl

abbrev e13 : Entry
e13 = record { time = 0; count = 14; repo = (Some 0); kind = (kinds.Talk (Some 1)); taken = None; sent = ((record { peer = 1; slot = 0; up = true; epoch = 1; seq = 6; body = (Line t6) }) ∷ []); lines = ([]) }

abbrev p13 : List Entry
p13 = e13 ∷ p12

abbrev d14 : Driver
d14 = record { past = p13; flights = ((record { to = 1; frame = (record { peer = 0; slot = 0; up = true; epoch = 1; seq = 6; body = (Line t6) }); bytes = [] }) ∷ []); fails = ([]); contents = ((record { repo = 0; key = t0; bytes = c0 }) ∷ []); parts = ((record { repo = 1; key = t0; bytes = c0 }) ∷ []); largest = 3; tree = ([]); marks = (2 ∷ []) }

c_12 : turn given 0 d13 ≡ d14
unfolding opened
c_12 = refl

abbrev e14 : Entry
e14 = record { time = 0; count = 15; repo = (Some 1); kind = (kinds.Gain (by.Peer 0 0) 3 t0); taken = (Some (record { peer = 0; slot = 0; up = true; epoch = 1; seq = 6; body = (Line t6) })); sent = ((record { peer = 0; slot = 0; up = false; epoch = 1; seq = 4; body = (Line t7) }) ∷ []); lines = ([]) }

abbrev p14 : List Entry
p14 = e14 ∷ p13

abbrev d15 : Driver
d15 = record { past = p14; flights = ((record { to = 0; frame = (record { peer = 1; slot = 0; up = false; epoch = 1; seq = 4; body = (Line t7) }); bytes = [] }) ∷ []); fails = ([]); contents = ((record { repo = 1; key = t0; bytes = c0 }) ∷ (record { repo = 0; key = t0; bytes = c0 }) ∷ []); parts = ([]); largest = 3; tree = ([]); marks = (2 ∷ []) }

c_13 : turn given 1 d14 ≡ d15
unfolding opened
c_13 = refl

abbrev e15 : Entry
e15 = record { time = 0; count = 16; repo = (Some 0); kind = (kinds.Talk (Some 1)); taken = (Some (record { peer = 1; slot = 0; up = false; epoch = 1; seq = 4; body = (Line t7) })); sent = ([]); lines = ([]) }

abbrev p15 : List Entry
p15 = e15 ∷ p14

abbrev d16 : Driver
d16 = record { past = p15; flights = ([]); fails = ([]); contents = ((record { repo = 1; key = t0; bytes = c0 }) ∷ (record { repo = 0; key = t0; bytes = c0 }) ∷ []); parts = ([]); largest = 3; tree = ([]); marks = (2 ∷ []) }

c_14 : turn given 0 d15 ≡ d16
unfolding opened
c_14 = refl

abbrev e16 : Entry
e16 = record { time = 0; count = 17; repo = (Some 1); kind = (kinds.Log (Location t0)); taken = None; sent = ([]); lines = (t12 ∷ []) }

abbrev p16 : List Entry
p16 = e16 ∷ p15

abbrev d17 : Driver
d17 = record { past = p16; flights = ([]); fails = ([]); contents = ((record { repo = 1; key = t0; bytes = c0 }) ∷ (record { repo = 0; key = t0; bytes = c0 }) ∷ []); parts = ([]); largest = 3; tree = ([]); marks = (2 ∷ []) }

c_15 : turn given 1 d16 ≡ d17
unfolding opened
c_15 = refl

abbrev e17 : Entry
e17 = record { time = 0; count = 18; repo = (Some 0); kind = (kinds.Log (Location t0)); taken = None; sent = ([]); lines = (t12 ∷ []) }

abbrev p17 : List Entry
p17 = e17 ∷ p16

abbrev d18 : Driver
d18 = record { past = p17; flights = ([]); fails = ([]); contents = ((record { repo = 1; key = t0; bytes = c0 }) ∷ (record { repo = 0; key = t0; bytes = c0 }) ∷ []); parts = ([]); largest = 3; tree = ([]); marks = (2 ∷ []) }

c_16 : turn given 0 d17 ≡ d18
unfolding opened
c_16 = refl

c_17 : turn given 1 d18 ≡ d18
unfolding opened
c_17 = refl

abbrev e18 : Entry
e18 = record { time = 0; count = 19; repo = (Some 0); kind = (kinds.End 1 (outcomes.Copied (Some 0))); taken = None; sent = ((record { peer = 1; slot = 0; up = true; epoch = 1; seq = 7; body = Closing }) ∷ []); lines = ([]) }

abbrev p18 : List Entry
p18 = e18 ∷ p17

abbrev d19 : Driver
d19 = record { past = p18; flights = ((record { to = 1; frame = (record { peer = 0; slot = 0; up = true; epoch = 1; seq = 7; body = Closing }); bytes = [] }) ∷ []); fails = ([]); contents = ((record { repo = 1; key = t0; bytes = c0 }) ∷ (record { repo = 0; key = t0; bytes = c0 }) ∷ []); parts = ([]); largest = 3; tree = ([]); marks = (2 ∷ []) }

c_18 : turn given 0 d18 ≡ d19
unfolding opened
c_18 = refl

abbrev e19 : Entry
e19 = record { time = 0; count = 20; repo = (Some 1); kind = (kinds.Close 0 0 false); taken = (Some (record { peer = 0; slot = 0; up = true; epoch = 1; seq = 7; body = Closing })); sent = ([]); lines = ([]) }

abbrev p19 : List Entry
p19 = e19 ∷ p18

abbrev d20 : Driver
d20 = record { past = p19; flights = ([]); fails = ([]); contents = ((record { repo = 1; key = t0; bytes = c0 }) ∷ (record { repo = 0; key = t0; bytes = c0 }) ∷ []); parts = ([]); largest = 3; tree = ([]); marks = (2 ∷ []) }

c_19 : turn given 1 d19 ≡ d20
unfolding opened
c_19 = refl

c_20 : turn given 0 d20 ≡ d20
unfolding opened
c_20 = refl

c_21 : turn given 1 d20 ≡ d20
unfolding opened
c_21 = refl

line1 : does given l1 d2 ≡ d20
line1 = ap (settles given) c_1 ∙ settles_by given 11 d3 (record { driver = d20; idle = 2 }) (ap (goes given 10) (came given 0 d3 d5 refl (ap (turns_of given (1 ∷ [])) c_2 ∙ ap (turns_of given ([])) c_3)) ∙ (ap (goes given 9) (came given 0 d5 d7 refl (ap (turns_of given (1 ∷ [])) c_4 ∙ ap (turns_of given ([])) c_5)) ∙ (ap (goes given 8) (came given 0 d7 d9 refl (ap (turns_of given (1 ∷ [])) c_6 ∙ ap (turns_of given ([])) c_7)) ∙ (ap (goes given 7) (came given 0 d9 d11 refl (ap (turns_of given (1 ∷ [])) c_8 ∙ ap (turns_of given ([])) c_9)) ∙ (ap (goes given 6) (came given 0 d11 d13 refl (ap (turns_of given (1 ∷ [])) c_10 ∙ ap (turns_of given ([])) c_11)) ∙ (ap (goes given 5) (came given 0 d13 d15 refl (ap (turns_of given (1 ∷ [])) c_12 ∙ ap (turns_of given ([])) c_13)) ∙ (ap (goes given 4) (came given 0 d15 d17 refl (ap (turns_of given (1 ∷ [])) c_14 ∙ ap (turns_of given ([])) c_15)) ∙ (ap (goes given 3) (came given 0 d17 d18 refl (ap (turns_of given (1 ∷ [])) c_16 ∙ ap (turns_of given ([])) c_17)) ∙ (ap (goes given 2) (came given 0 d18 d20 refl (ap (turns_of given (1 ∷ [])) c_18 ∙ ap (turns_of given ([])) c_19)) ∙ (ap (goes given 1) (came given 0 d20 d20 refl (ap (turns_of given (1 ∷ [])) c_20 ∙ ap (turns_of given ([])) c_21)) ∙ (ap (goes given 0) (came given 1 d20 d20 refl (ap (turns_of given (1 ∷ [])) c_20 ∙ ap (turns_of given ([])) c_21)) ∙ (refl)))))))))))) refl (omega arith)

abbrev d21 : Driver
d21 = record { past = p19; flights = ([]); fails = ([]); contents = ((record { repo = 1; key = t0; bytes = c0 }) ∷ (record { repo = 0; key = t0; bytes = c0 }) ∷ []); parts = ([]); largest = 3; tree = ([]); marks = (2 ∷ 20 ∷ []) }

abbrev e20 : Entry
e20 = record { time = 0; count = 21; repo = (Some 0); kind = (kinds.Begin 2 (record { kind = jobs.MoveTo; key = t0; path = None; peer = (Some 1) })); taken = None; sent = ([]); lines = ([]) }

abbrev p20 : List Entry
p20 = e20 ∷ p19

abbrev d22 : Driver
d22 = record { past = p20; flights = ([]); fails = ([]); contents = ((record { repo = 1; key = t0; bytes = c0 }) ∷ (record { repo = 0; key = t0; bytes = c0 }) ∷ []); parts = ([]); largest = 3; tree = ([]); marks = (2 ∷ 20 ∷ []) }

c_22 : begins 0 (record { kind = jobs.MoveTo; key = t0; path = None; peer = (Some 1) }) d21 ≡ d22
unfolding opened
c_22 = refl

abbrev e21 : Entry
e21 = record { time = 0; count = 22; repo = (Some 0); kind = (kinds.Talk (Some 2)); taken = None; sent = ((record { peer = 1; slot = 0; up = true; epoch = 2; seq = 1; body = Opening }) ∷ []); lines = ([]) }

abbrev p21 : List Entry
p21 = e21 ∷ p20

abbrev d23 : Driver
d23 = record { past = p21; flights = ((record { to = 1; frame = (record { peer = 0; slot = 0; up = true; epoch = 2; seq = 1; body = Opening }); bytes = [] }) ∷ []); fails = ([]); contents = ((record { repo = 1; key = t0; bytes = c0 }) ∷ (record { repo = 0; key = t0; bytes = c0 }) ∷ []); parts = ([]); largest = 3; tree = ([]); marks = (2 ∷ 20 ∷ []) }

c_23 : turn given 0 d22 ≡ d23
unfolding opened
c_23 = refl

abbrev e22 : Entry
e22 = record { time = 0; count = 23; repo = (Some 1); kind = (kinds.Talk None); taken = (Some (record { peer = 0; slot = 0; up = true; epoch = 2; seq = 1; body = Opening })); sent = ((record { peer = 0; slot = 0; up = false; epoch = 2; seq = 1; body = (Line t1) }) ∷ []); lines = ([]) }

abbrev p22 : List Entry
p22 = e22 ∷ p21

abbrev d24 : Driver
d24 = record { past = p22; flights = ((record { to = 0; frame = (record { peer = 1; slot = 0; up = false; epoch = 2; seq = 1; body = (Line t1) }); bytes = [] }) ∷ []); fails = ([]); contents = ((record { repo = 1; key = t0; bytes = c0 }) ∷ (record { repo = 0; key = t0; bytes = c0 }) ∷ []); parts = ([]); largest = 3; tree = ([]); marks = (2 ∷ 20 ∷ []) }

c_24 : turn given 1 d23 ≡ d24
unfolding opened
c_24 = refl

abbrev e23 : Entry
e23 = record { time = 0; count = 24; repo = (Some 0); kind = (kinds.Talk (Some 2)); taken = (Some (record { peer = 1; slot = 0; up = false; epoch = 2; seq = 1; body = (Line t1) })); sent = ((record { peer = 1; slot = 0; up = true; epoch = 2; seq = 2; body = (Line t2) }) ∷ []); lines = ([]) }

abbrev p23 : List Entry
p23 = e23 ∷ p22

abbrev d25 : Driver
d25 = record { past = p23; flights = ((record { to = 1; frame = (record { peer = 0; slot = 0; up = true; epoch = 2; seq = 2; body = (Line t2) }); bytes = [] }) ∷ []); fails = ([]); contents = ((record { repo = 1; key = t0; bytes = c0 }) ∷ (record { repo = 0; key = t0; bytes = c0 }) ∷ []); parts = ([]); largest = 3; tree = ([]); marks = (2 ∷ 20 ∷ []) }

c_25 : turn given 0 d24 ≡ d25
unfolding opened
c_25 = refl

abbrev e24 : Entry
e24 = record { time = 0; count = 25; repo = (Some 1); kind = (kinds.Talk None); taken = (Some (record { peer = 0; slot = 0; up = true; epoch = 2; seq = 2; body = (Line t2) })); sent = ((record { peer = 0; slot = 0; up = false; epoch = 2; seq = 2; body = (Line t2) }) ∷ []); lines = ([]) }

abbrev p24 : List Entry
p24 = e24 ∷ p23

abbrev d26 : Driver
d26 = record { past = p24; flights = ((record { to = 0; frame = (record { peer = 1; slot = 0; up = false; epoch = 2; seq = 2; body = (Line t2) }); bytes = [] }) ∷ []); fails = ([]); contents = ((record { repo = 1; key = t0; bytes = c0 }) ∷ (record { repo = 0; key = t0; bytes = c0 }) ∷ []); parts = ([]); largest = 3; tree = ([]); marks = (2 ∷ 20 ∷ []) }

c_26 : turn given 1 d25 ≡ d26
unfolding opened
c_26 = refl

abbrev e25 : Entry
e25 = record { time = 0; count = 26; repo = (Some 0); kind = (kinds.Talk (Some 2)); taken = (Some (record { peer = 1; slot = 0; up = false; epoch = 2; seq = 2; body = (Line t2) })); sent = ((record { peer = 1; slot = 0; up = true; epoch = 2; seq = 3; body = (Line t3) }) ∷ []); lines = ([]) }

abbrev p25 : List Entry
p25 = e25 ∷ p24

abbrev d27 : Driver
d27 = record { past = p25; flights = ((record { to = 1; frame = (record { peer = 0; slot = 0; up = true; epoch = 2; seq = 3; body = (Line t3) }); bytes = [] }) ∷ []); fails = ([]); contents = ((record { repo = 1; key = t0; bytes = c0 }) ∷ (record { repo = 0; key = t0; bytes = c0 }) ∷ []); parts = ([]); largest = 3; tree = ([]); marks = (2 ∷ 20 ∷ []) }

c_27 : turn given 0 d26 ≡ d27
unfolding opened
c_27 = refl

abbrev e26 : Entry
e26 = record { time = 0; count = 27; repo = (Some 1); kind = (kinds.Talk None); taken = (Some (record { peer = 0; slot = 0; up = true; epoch = 2; seq = 3; body = (Line t3) })); sent = ((record { peer = 0; slot = 0; up = false; epoch = 2; seq = 3; body = (Line t8) }) ∷ []); lines = ([]) }

abbrev p26 : List Entry
p26 = e26 ∷ p25

abbrev d28 : Driver
d28 = record { past = p26; flights = ((record { to = 0; frame = (record { peer = 1; slot = 0; up = false; epoch = 2; seq = 3; body = (Line t8) }); bytes = [] }) ∷ []); fails = ([]); contents = ((record { repo = 1; key = t0; bytes = c0 }) ∷ (record { repo = 0; key = t0; bytes = c0 }) ∷ []); parts = ([]); largest = 3; tree = ([]); marks = (2 ∷ 20 ∷ []) }

c_28 : turn given 1 d27 ≡ d28
unfolding opened
c_28 = refl

abbrev e27 : Entry
e27 = record { time = 0; count = 28; repo = (Some 0); kind = (kinds.Talk (Some 2)); taken = (Some (record { peer = 1; slot = 0; up = false; epoch = 2; seq = 3; body = (Line t8) })); sent = ([]); lines = ([]) }

abbrev p27 : List Entry
p27 = e27 ∷ p26

abbrev d29 : Driver
d29 = record { past = p27; flights = ([]); fails = ([]); contents = ((record { repo = 1; key = t0; bytes = c0 }) ∷ (record { repo = 0; key = t0; bytes = c0 }) ∷ []); parts = ([]); largest = 3; tree = ([]); marks = (2 ∷ 20 ∷ []) }

c_29 : turn given 0 d28 ≡ d29
unfolding opened
c_29 = refl

c_30 : turn given 1 d29 ≡ d29
unfolding opened
c_30 = refl

abbrev e28 : Entry
e28 = record { time = 0; count = 29; repo = (Some 0); kind = (kinds.Log (Location t0)); taken = None; sent = ([]); lines = (t13 ∷ []) }

abbrev p28 : List Entry
p28 = e28 ∷ p27

abbrev d30 : Driver
d30 = record { past = p28; flights = ([]); fails = ([]); contents = ((record { repo = 1; key = t0; bytes = c0 }) ∷ (record { repo = 0; key = t0; bytes = c0 }) ∷ []); parts = ([]); largest = 3; tree = ([]); marks = (2 ∷ 20 ∷ []) }

c_31 : turn given 0 d29 ≡ d30
unfolding opened
c_31 = refl

c_32 : turn given 1 d30 ≡ d30
unfolding opened
c_32 = refl

abbrev e29 : Entry
e29 = record { time = 0; count = 30; repo = (Some 0); kind = (kinds.Bar 2 (record { n = 1; m = 1 }) t0); taken = None; sent = ([]); lines = ([]) }

abbrev p29 : List Entry
p29 = e29 ∷ p28

abbrev d31 : Driver
d31 = record { past = p29; flights = ([]); fails = ([]); contents = ((record { repo = 1; key = t0; bytes = c0 }) ∷ (record { repo = 0; key = t0; bytes = c0 }) ∷ []); parts = ([]); largest = 3; tree = ([]); marks = (2 ∷ 20 ∷ []) }

c_33 : turn given 0 d30 ≡ d31
unfolding opened
c_33 = refl

c_34 : turn given 1 d31 ≡ d31
unfolding opened
c_34 = refl

abbrev e30 : Entry
e30 = record { time = 0; count = 31; repo = (Some 0); kind = (kinds.Talk (Some 2)); taken = None; sent = ((record { peer = 1; slot = 0; up = true; epoch = 2; seq = 4; body = (Line t9) }) ∷ []); lines = ([]) }

abbrev p30 : List Entry
p30 = e30 ∷ p29

abbrev d32 : Driver
d32 = record { past = p30; flights = ((record { to = 1; frame = (record { peer = 0; slot = 0; up = true; epoch = 2; seq = 4; body = (Line t9) }); bytes = [] }) ∷ []); fails = ([]); contents = ((record { repo = 1; key = t0; bytes = c0 }) ∷ (record { repo = 0; key = t0; bytes = c0 }) ∷ []); parts = ([]); largest = 3; tree = ([]); marks = (2 ∷ 20 ∷ []) }

c_35 : turn given 0 d31 ≡ d32
unfolding opened
c_35 = refl

abbrev e31 : Entry
e31 = record { time = 0; count = 32; repo = (Some 1); kind = (kinds.Share 12 600000 (by.Peer 0 0) t0); taken = (Some (record { peer = 0; slot = 0; up = true; epoch = 2; seq = 4; body = (Line t9) })); sent = ((record { peer = 0; slot = 0; up = false; epoch = 2; seq = 4; body = (Line t7) }) ∷ []); lines = ([]) }

abbrev p31 : List Entry
p31 = e31 ∷ p30

abbrev d33 : Driver
d33 = record { past = p31; flights = ((record { to = 0; frame = (record { peer = 1; slot = 0; up = false; epoch = 2; seq = 4; body = (Line t7) }); bytes = [] }) ∷ []); fails = ([]); contents = ((record { repo = 1; key = t0; bytes = c0 }) ∷ (record { repo = 0; key = t0; bytes = c0 }) ∷ []); parts = ([]); largest = 3; tree = ([]); marks = (2 ∷ 20 ∷ []) }

c_36 : turn given 1 d32 ≡ d33
unfolding opened
c_36 = refl

abbrev e32 : Entry
e32 = record { time = 0; count = 33; repo = (Some 0); kind = (kinds.Talk (Some 2)); taken = (Some (record { peer = 1; slot = 0; up = false; epoch = 2; seq = 4; body = (Line t7) })); sent = ([]); lines = ([]) }

abbrev p32 : List Entry
p32 = e32 ∷ p31

abbrev d34 : Driver
d34 = record { past = p32; flights = ([]); fails = ([]); contents = ((record { repo = 1; key = t0; bytes = c0 }) ∷ (record { repo = 0; key = t0; bytes = c0 }) ∷ []); parts = ([]); largest = 3; tree = ([]); marks = (2 ∷ 20 ∷ []) }

c_37 : turn given 0 d33 ≡ d34
unfolding opened
c_37 = refl

c_38 : turn given 1 d34 ≡ d34
unfolding opened
c_38 = refl

abbrev e33 : Entry
e33 = record { time = 0; count = 34; repo = (Some 0); kind = (kinds.Gone (by.Job 2) t0); taken = None; sent = ([]); lines = ([]) }

abbrev p33 : List Entry
p33 = e33 ∷ p32

abbrev d35 : Driver
d35 = record { past = p33; flights = ([]); fails = ([]); contents = ((record { repo = 1; key = t0; bytes = c0 }) ∷ []); parts = ([]); largest = 3; tree = ([]); marks = (2 ∷ 20 ∷ []) }

c_39 : turn given 0 d34 ≡ d35
unfolding opened
c_39 = refl

c_40 : turn given 1 d35 ≡ d35
unfolding opened
c_40 = refl

abbrev e34 : Entry
e34 = record { time = 0; count = 35; repo = (Some 0); kind = (kinds.Log (Location t0)); taken = None; sent = ([]); lines = (t14 ∷ []) }

abbrev p34 : List Entry
p34 = e34 ∷ p33

abbrev d36 : Driver
d36 = record { past = p34; flights = ([]); fails = ([]); contents = ((record { repo = 1; key = t0; bytes = c0 }) ∷ []); parts = ([]); largest = 3; tree = ([]); marks = (2 ∷ 20 ∷ []) }

c_41 : turn given 0 d35 ≡ d36
unfolding opened
c_41 = refl

c_42 : turn given 1 d36 ≡ d36
unfolding opened
c_42 = refl

abbrev e35 : Entry
e35 = record { time = 0; count = 36; repo = (Some 0); kind = (kinds.End 2 (outcomes.Dropped (record { need = (record { n = 1; m = 1 }); locked = (1 ∷ []); trusted = ([]); recent = ([]) }))); taken = None; sent = ((record { peer = 1; slot = 0; up = true; epoch = 2; seq = 5; body = (Line t10) }) ∷ (record { peer = 1; slot = 0; up = true; epoch = 2; seq = 6; body = Closing }) ∷ []); lines = ([]) }

abbrev p35 : List Entry
p35 = e35 ∷ p34

abbrev d37 : Driver
d37 = record { past = p35; flights = ((record { to = 1; frame = (record { peer = 0; slot = 0; up = true; epoch = 2; seq = 5; body = (Line t10) }); bytes = [] }) ∷ (record { to = 1; frame = (record { peer = 0; slot = 0; up = true; epoch = 2; seq = 6; body = Closing }); bytes = [] }) ∷ []); fails = ([]); contents = ((record { repo = 1; key = t0; bytes = c0 }) ∷ []); parts = ([]); largest = 3; tree = ([]); marks = (2 ∷ 20 ∷ []) }

c_43 : turn given 0 d36 ≡ d37
unfolding opened
c_43 = refl

abbrev e36 : Entry
e36 = record { time = 0; count = 37; repo = (Some 1); kind = (kinds.Release 12 t0); taken = (Some (record { peer = 0; slot = 0; up = true; epoch = 2; seq = 5; body = (Line t10) })); sent = ([]); lines = ([]) }

abbrev p36 : List Entry
p36 = e36 ∷ p35

abbrev d38 : Driver
d38 = record { past = p36; flights = ((record { to = 1; frame = (record { peer = 0; slot = 0; up = true; epoch = 2; seq = 6; body = Closing }); bytes = [] }) ∷ []); fails = ([]); contents = ((record { repo = 1; key = t0; bytes = c0 }) ∷ []); parts = ([]); largest = 3; tree = ([]); marks = (2 ∷ 20 ∷ []) }

c_44 : turn given 1 d37 ≡ d38
unfolding opened
c_44 = refl

c_45 : turn given 0 d38 ≡ d38
unfolding opened
c_45 = refl

abbrev e37 : Entry
e37 = record { time = 0; count = 38; repo = (Some 1); kind = (kinds.Close 0 0 false); taken = (Some (record { peer = 0; slot = 0; up = true; epoch = 2; seq = 6; body = Closing })); sent = ([]); lines = ([]) }

abbrev p37 : List Entry
p37 = e37 ∷ p36

abbrev d39 : Driver
d39 = record { past = p37; flights = ([]); fails = ([]); contents = ((record { repo = 1; key = t0; bytes = c0 }) ∷ []); parts = ([]); largest = 3; tree = ([]); marks = (2 ∷ 20 ∷ []) }

c_46 : turn given 1 d38 ≡ d39
unfolding opened
c_46 = refl

c_47 : turn given 0 d39 ≡ d39
unfolding opened
c_47 = refl

c_48 : turn given 1 d39 ≡ d39
unfolding opened
c_48 = refl

line2 : does given l2 d21 ≡ d39
line2 = ap (settles given) c_22 ∙ settles_by given 14 d22 (record { driver = d39; idle = 2 }) (ap (goes given 13) (came given 0 d22 d24 refl (ap (turns_of given (1 ∷ [])) c_23 ∙ ap (turns_of given ([])) c_24)) ∙ (ap (goes given 12) (came given 0 d24 d26 refl (ap (turns_of given (1 ∷ [])) c_25 ∙ ap (turns_of given ([])) c_26)) ∙ (ap (goes given 11) (came given 0 d26 d28 refl (ap (turns_of given (1 ∷ [])) c_27 ∙ ap (turns_of given ([])) c_28)) ∙ (ap (goes given 10) (came given 0 d28 d29 refl (ap (turns_of given (1 ∷ [])) c_29 ∙ ap (turns_of given ([])) c_30)) ∙ (ap (goes given 9) (came given 0 d29 d30 refl (ap (turns_of given (1 ∷ [])) c_31 ∙ ap (turns_of given ([])) c_32)) ∙ (ap (goes given 8) (came given 0 d30 d31 refl (ap (turns_of given (1 ∷ [])) c_33 ∙ ap (turns_of given ([])) c_34)) ∙ (ap (goes given 7) (came given 0 d31 d33 refl (ap (turns_of given (1 ∷ [])) c_35 ∙ ap (turns_of given ([])) c_36)) ∙ (ap (goes given 6) (came given 0 d33 d34 refl (ap (turns_of given (1 ∷ [])) c_37 ∙ ap (turns_of given ([])) c_38)) ∙ (ap (goes given 5) (came given 0 d34 d35 refl (ap (turns_of given (1 ∷ [])) c_39 ∙ ap (turns_of given ([])) c_40)) ∙ (ap (goes given 4) (came given 0 d35 d36 refl (ap (turns_of given (1 ∷ [])) c_41 ∙ ap (turns_of given ([])) c_42)) ∙ (ap (goes given 3) (came given 0 d36 d38 refl (ap (turns_of given (1 ∷ [])) c_43 ∙ ap (turns_of given ([])) c_44)) ∙ (ap (goes given 2) (came given 0 d38 d39 refl (ap (turns_of given (1 ∷ [])) c_45 ∙ ap (turns_of given ([])) c_46)) ∙ (ap (goes given 1) (came given 0 d39 d39 refl (ap (turns_of given (1 ∷ [])) c_47 ∙ ap (turns_of given ([])) c_48)) ∙ (ap (goes given 0) (came given 1 d39 d39 refl (ap (turns_of given (1 ∷ [])) c_47 ∙ ap (turns_of given ([])) c_48)) ∙ (refl))))))))))))))) refl (omega arith)

abbrev d40 : Driver
d40 = record { past = p37; flights = ([]); fails = ([]); contents = ((record { repo = 1; key = t0; bytes = c0 }) ∷ []); parts = ([]); largest = 3; tree = ([]); marks = (2 ∷ 20 ∷ 38 ∷ []) }

abbrev e38 : Entry
e38 = record { time = 0; count = 39; repo = (Some 0); kind = (kinds.Begin 3 (record { kind = jobs.Drop; key = t0; path = None; peer = None })); taken = None; sent = ([]); lines = ([]) }

abbrev p38 : List Entry
p38 = e38 ∷ p37

abbrev d41 : Driver
d41 = record { past = p38; flights = ([]); fails = ([]); contents = ((record { repo = 1; key = t0; bytes = c0 }) ∷ []); parts = ([]); largest = 3; tree = ([]); marks = (2 ∷ 20 ∷ 38 ∷ []) }

c_49 : begins 0 (record { kind = jobs.Drop; key = t0; path = None; peer = None }) d40 ≡ d41
unfolding opened
c_49 = refl

abbrev e39 : Entry
e39 = record { time = 0; count = 40; repo = (Some 0); kind = (kinds.End 3 (outcomes.Refused drops.NotPresent)); taken = None; sent = ([]); lines = ([]) }

abbrev p39 : List Entry
p39 = e39 ∷ p38

abbrev d42 : Driver
d42 = record { past = p39; flights = ([]); fails = ([]); contents = ((record { repo = 1; key = t0; bytes = c0 }) ∷ []); parts = ([]); largest = 3; tree = ([]); marks = (2 ∷ 20 ∷ 38 ∷ []) }

c_50 : turn given 0 d41 ≡ d42
unfolding opened
c_50 = refl

c_51 : turn given 1 d42 ≡ d42
unfolding opened
c_51 = refl

c_52 : turn given 0 d42 ≡ d42
unfolding opened
c_52 = refl

line3 : does given l3 d40 ≡ d42
line3 = ap (settles given) c_49 ∙ settles_by given 3 d41 (record { driver = d42; idle = 2 }) (ap (goes given 2) (came given 0 d41 d42 refl (ap (turns_of given (1 ∷ [])) c_50 ∙ ap (turns_of given ([])) c_51)) ∙ (ap (goes given 1) (came given 0 d42 d42 refl (ap (turns_of given (1 ∷ [])) c_52 ∙ ap (turns_of given ([])) c_51)) ∙ (ap (goes given 0) (came given 1 d42 d42 refl (ap (turns_of given (1 ∷ [])) c_52 ∙ ap (turns_of given ([])) c_51)) ∙ (refl)))) refl (omega arith)

abbrev d43 : Driver
d43 = record { past = p39; flights = ([]); fails = ([]); contents = ((record { repo = 1; key = t0; bytes = c0 }) ∷ []); parts = ([]); largest = 3; tree = ([]); marks = (2 ∷ 20 ∷ 38 ∷ 40 ∷ []) }

abbrev made : Run
made = record { repos = repos; entries = (e0 ∷ e1 ∷ e2 ∷ e3 ∷ e4 ∷ e5 ∷ e6 ∷ e7 ∷ e8 ∷ e9 ∷ e10 ∷ e11 ∷ e12 ∷ e13 ∷ e14 ∷ e15 ∷ e16 ∷ e17 ∷ e18 ∷ e19 ∷ e20 ∷ e21 ∷ e22 ∷ e23 ∷ e24 ∷ e25 ∷ e26 ∷ e27 ∷ e28 ∷ e29 ∷ e30 ∷ e31 ∷ e32 ∷ e33 ∷ e34 ∷ e35 ∷ e36 ∷ e37 ∷ e38 ∷ e39 ∷ []); tree = ([]); marks = (2 ∷ 20 ∷ 38 ∷ 40 ∷ []) }

all : drives given (l0 ∷ l1 ∷ l2 ∷ l3 ∷ []) at_first ≡ d43
all = ap (λ d. drives given (l1 ∷ l2 ∷ l3 ∷ []) (with_mark d)) line0 ∙ ap (λ d. drives given (l2 ∷ l3 ∷ []) (with_mark d)) line1 ∙ ap (λ d. drives given (l3 ∷ []) (with_mark d)) line2 ∙ ap (λ d. drives given ([]) (with_mark d)) line3

claim : run_of given (l0 ∷ l1 ∷ l2 ∷ l3 ∷ []) ≡ made
claim = ap (run_with given) all
