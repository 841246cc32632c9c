-- The run of a script whose own store calls fail, each in turn: the driver makes it, turn by turn, as an executable model does.
use Rattle.std.proofs.Common.{ap, ◌∙◌, arith}
use Rattle.std.specs.Prelude.{◌≡◌, refl, ℕ, true, false, List, [], ◌∷◌, Some, None, codes}
use Rattle.annex_base.specs.declared.kinds.Call.TheVariants as calls
use Rattle.annex_base.specs.declared.kinds.Level.TheVariants as levels
use Rattle.log_lines.specs.declared.entry.LogKind.TheVariants as logs
use Rattle.log_lines.specs.declared.entry.Topic.TheVariants as topics
use Rattle.log_lines.specs.declared.entry.Value.TheVariants as values
use Rattle.run_data.specs.declared.entry.Entry.{Entry}
use Rattle.run_data.specs.declared.entry.EntryKind.TheVariants as kinds
use Rattle.run_data.specs.declared.entry.By.TheVariants as by
use Rattle.run_data.specs.declared.entry.FrameText.TheVariants.{Opening, Closing, Bytes, Line}
use Rattle.run_data.specs.declared.entry.LogFile.TheVariants.{Location, Of}
use Rattle.run_data.specs.declared.job.JobKind.TheVariants as jobs
use Rattle.run_data.specs.declared.job.Outcome.TheVariants as outcomes
use Rattle.run_data.specs.declared.run.RepoView.{RepoView}
use Rattle.run_data.specs.declared.run.Run.{Run}
use Rattle.script_commands.specs.declared.command.Action.TheVariants as actions
use Rattle.script_commands.specs.declared.command.Action.TheVariants.{Have, SetPart, Add, File, Set, Merge, Compact, Fail}
use Rattle.script_commands.specs.declared.command.Command.{Command}
use Rattle.script_commands.specs.declared.command.Command.TheVariants.{Does}
use Rattle.driver_model.specs.Driver.{Driver, DriverInput, at_first}
use Rattle.driver_model.specs.ScriptSteps.{begins}
use Rattle.driver_model.specs.Turning.{turn}
use Rattle.driver_model.specs.Rounds.{settles, turns_of}
use Rattle.driver_model.specs.Driving.{does, drives, with_mark, run_of, run_with}
use Rattle.driver_claims.proofs.Settling.{came, goes, settles_by}
use Rattle.driver_claims.specs.Opened.{opened, matches_in}

abbrev t0 : List ℕ
t0 = (codes "WORM-s3--k1")

abbrev t1 : List ℕ
t1 = (codes "WORM-s3--k2")

abbrev t2 : List ℕ
t2 = (codes "SHA256E-s3--ba7816bf8f01cfea414140de5dae2223b00361a396177a9cb410ff61f20015ad")

abbrev t3 : List ℕ
t3 = (codes "doc/x")

abbrev t4 : List ℕ
t4 = (codes "doc/y")

abbrev t5 : List ℕ
t5 = (codes "AUTH-SUCCESS 11111111-1111-4111-8111-111111111100")

abbrev t6 : List ℕ
t6 = (codes "VERSION 3")

abbrev t7 : List ℕ
t7 = (codes "GET 0  WORM-s3--k1")

abbrev t8 : List ℕ
t8 = (codes "DATA 3")

abbrev t9 : List ℕ
t9 = (codes "VALID")

abbrev t10 : List ℕ
t10 = (codes "SUCCESS")

abbrev t11 : List ℕ
t11 = (codes "AUTH-SUCCESS 22222222-1111-4111-8111-111111111101")

abbrev t12 : List ℕ
t12 = (codes "LOCKCONTENT WORM-s3--k1")

abbrev t13 : List ℕ
t13 = (codes "UNLOCKCONTENT WORM-s3--k1")

abbrev t15 : List ℕ
t15 = (codes "1700000000s 2")

abbrev t17 : List ℕ
t17 = (codes "22222222-1111-4111-8111-111111111101 1 timestamp=1700000000s")

abbrev t18 : List ℕ
t18 = (codes "1700000000.000000001s 1")

abbrev t19 : List ℕ
t19 = (codes "1700000000s 1 22222222-1111-4111-8111-111111111101")

abbrev t20 : List ℕ
t20 = (codes "1700000000s 0 11111111-1111-4111-8111-111111111100")

abbrev c0 : List ℕ
c0 = (codes "abc")

abbrev c1 : List ℕ
c1 = (codes "a")

abbrev repos : List RepoView
repos = ((record { name = (codes "a"); id = (17 ∷ 17 ∷ 17 ∷ 17 ∷ 17 ∷ 17 ∷ 65 ∷ 17 ∷ 129 ∷ 17 ∷ 17 ∷ 17 ∷ 17 ∷ 17 ∷ 17 ∷ 0 ∷ []); offset = 0; version = 3; locks = true }) ∷ (record { name = (codes "b"); id = (34 ∷ 34 ∷ 34 ∷ 34 ∷ 17 ∷ 17 ∷ 65 ∷ 17 ∷ 129 ∷ 17 ∷ 17 ∷ 17 ∷ 17 ∷ 17 ∷ 17 ∷ 1 ∷ []); offset = 0; version = 3; locks = true }) ∷ [])

abbrev given : DriverInput
given = record { repos = repos; matches = matches_in ((t0, c0) ∷ (t2, c0) ∷ []) }

abbrev l0 : Command
l0 = Does (Fail 0 calls.Has)

abbrev l1 : Command
l1 = Does (Have 0 t0 c0)

abbrev l2 : Command
l2 = Does (Fail 0 calls.DropPart)

abbrev l3 : Command
l3 = Does (Have 0 t0 c0)

abbrev l4 : Command
l4 = Does (Fail 0 calls.Append)

abbrev l5 : Command
l5 = Does (Have 0 t0 c0)

abbrev l6 : Command
l6 = Does (Fail 0 calls.Commit)

abbrev l7 : Command
l7 = Does (Have 0 t0 c0)

abbrev l8 : Command
l8 = Does (Fail 0 calls.PutFile)

abbrev l9 : Command
l9 = Does (Have 0 t0 c0)

abbrev l10 : Command
l10 = Does (Have 0 t0 c0)

abbrev l11 : Command
l11 = Does (Fail 0 calls.Append)

abbrev l12 : Command
l12 = Does (SetPart 0 t1 c1)

abbrev l13 : Command
l13 = Does (SetPart 0 t1 c1)

abbrev l14 : Command
l14 = Does (Set 0 logs.Numcopies topics.Whole (values.Number 2))

abbrev l15 : Command
l15 = Does (Set 0 logs.Trust (topics.Repo (34 ∷ 34 ∷ 34 ∷ 34 ∷ 17 ∷ 17 ∷ 65 ∷ 17 ∷ 129 ∷ 17 ∷ 17 ∷ 17 ∷ 17 ∷ 17 ∷ 17 ∷ 1 ∷ [])) (values.Level levels.Trusted))

abbrev l16 : Command
l16 = Does (Fail 1 calls.PutFile)

abbrev l17 : Command
l17 = Does (Merge 1 0)

abbrev l18 : Command
l18 = Does (Merge 1 0)

abbrev l19 : Command
l19 = Does (Merge 1 0)

abbrev l20 : Command
l20 = Does (Set 0 logs.Numcopies topics.Whole (values.Number 1))

abbrev l21 : Command
l21 = Does (Fail 0 calls.PutFile)

abbrev l22 : Command
l22 = Does (Compact 0)

abbrev l23 : Command
l23 = Does (Compact 0)

abbrev l24 : Command
l24 = Does (Compact 0)

abbrev l25 : Command
l25 = Does (Add 1 t3 t2 c0)

abbrev l26 : Command
l26 = Does (File t4 t0)

abbrev l27 : Command
l27 = Does (actions.Run 1 (record { kind = jobs.Get; key = t0; path = (Some t4); peer = (Some 0) }))

abbrev l28 : Command
l28 = Does (actions.Run 0 (record { kind = jobs.Drop; key = t0; path = (Some t4); peer = None }))

abbrev d0 : Driver
d0 = record { past = []; flights = ([]); fails = ([]); contents = ([]); parts = ([]); largest = 0; tree = ([]); marks = ([]) }

abbrev d1 : Driver
d1 = record { past = []; flights = ([]); fails = ((record { repo = 0; call = calls.Has }) ∷ []); contents = ([]); parts = ([]); largest = 0; tree = ([]); marks = ([]) }

c_0 : does given l0 d0 ≡ d1
unfolding opened
c_0 = refl

line0 : does given l0 d0 ≡ d1
line0 = c_0

abbrev d2 : Driver
d2 = record { past = []; flights = ([]); fails = ((record { repo = 0; call = calls.Has }) ∷ []); contents = ([]); parts = ([]); largest = 0; tree = ([]); marks = (0 ∷ []) }

abbrev e0 : Entry
e0 = record { time = 0; count = 1; repo = (Some 0); kind = (kinds.Fault calls.Has by.Script); taken = None; sent = ([]); lines = ([]) }

abbrev p0 : List Entry
p0 = e0 ∷ []

abbrev d3 : Driver
d3 = record { past = p0; flights = ([]); fails = ([]); contents = ([]); parts = ([]); largest = 0; tree = ([]); marks = (0 ∷ []) }

c_1 : does given l1 d2 ≡ d3
unfolding opened
c_1 = refl

line1 : does given l1 d2 ≡ d3
line1 = c_1

abbrev d4 : Driver
d4 = record { past = p0; flights = ([]); fails = ([]); contents = ([]); parts = ([]); largest = 0; tree = ([]); marks = (0 ∷ 1 ∷ []) }

abbrev d5 : Driver
d5 = record { past = p0; flights = ([]); fails = ((record { repo = 0; call = calls.DropPart }) ∷ []); contents = ([]); parts = ([]); largest = 0; tree = ([]); marks = (0 ∷ 1 ∷ []) }

c_2 : does given l2 d4 ≡ d5
unfolding opened
c_2 = refl

line2 : does given l2 d4 ≡ d5
line2 = c_2

abbrev d6 : Driver
d6 = record { past = p0; flights = ([]); fails = ((record { repo = 0; call = calls.DropPart }) ∷ []); contents = ([]); parts = ([]); largest = 0; tree = ([]); marks = (0 ∷ 1 ∷ 1 ∷ []) }

abbrev e1 : Entry
e1 = record { time = 0; count = 2; repo = (Some 0); kind = (kinds.Fault calls.DropPart by.Script); taken = None; sent = ([]); lines = ([]) }

abbrev p1 : List Entry
p1 = e1 ∷ p0

abbrev d7 : Driver
d7 = record { past = p1; flights = ([]); fails = ([]); contents = ([]); parts = ([]); largest = 0; tree = ([]); marks = (0 ∷ 1 ∷ 1 ∷ []) }

c_3 : does given l3 d6 ≡ d7
unfolding opened
c_3 = refl

line3 : does given l3 d6 ≡ d7
line3 = c_3

abbrev d8 : Driver
d8 = record { past = p1; flights = ([]); fails = ([]); contents = ([]); parts = ([]); largest = 0; tree = ([]); marks = (0 ∷ 1 ∷ 1 ∷ 2 ∷ []) }

abbrev d9 : Driver
d9 = record { past = p1; flights = ([]); fails = ((record { repo = 0; call = calls.Append }) ∷ []); contents = ([]); parts = ([]); largest = 0; tree = ([]); marks = (0 ∷ 1 ∷ 1 ∷ 2 ∷ []) }

c_4 : does given l4 d8 ≡ d9
unfolding opened
c_4 = refl

line4 : does given l4 d8 ≡ d9
line4 = c_4

abbrev d10 : Driver
d10 = record { past = p1; flights = ([]); fails = ((record { repo = 0; call = calls.Append }) ∷ []); contents = ([]); parts = ([]); largest = 0; tree = ([]); marks = (0 ∷ 1 ∷ 1 ∷ 2 ∷ 2 ∷ []) }

abbrev e2 : Entry
e2 = record { time = 0; count = 3; repo = (Some 0); kind = (kinds.Fault calls.Append by.Script); taken = None; sent = ([]); lines = ([]) }

abbrev p2 : List Entry
p2 = e2 ∷ p1

abbrev d11 : Driver
d11 = record { past = p2; flights = ([]); fails = ([]); contents = ([]); parts = ([]); largest = 0; tree = ([]); marks = (0 ∷ 1 ∷ 1 ∷ 2 ∷ 2 ∷ []) }

c_5 : does given l5 d10 ≡ d11
unfolding opened
c_5 = refl

line5 : does given l5 d10 ≡ d11
line5 = c_5

abbrev d12 : Driver
d12 = record { past = p2; flights = ([]); fails = ([]); contents = ([]); parts = ([]); largest = 0; tree = ([]); marks = (0 ∷ 1 ∷ 1 ∷ 2 ∷ 2 ∷ 3 ∷ []) }

abbrev d13 : Driver
d13 = record { past = p2; flights = ([]); fails = ((record { repo = 0; call = calls.Commit }) ∷ []); contents = ([]); parts = ([]); largest = 0; tree = ([]); marks = (0 ∷ 1 ∷ 1 ∷ 2 ∷ 2 ∷ 3 ∷ []) }

c_6 : does given l6 d12 ≡ d13
unfolding opened
c_6 = refl

line6 : does given l6 d12 ≡ d13
line6 = c_6

abbrev d14 : Driver
d14 = record { past = p2; flights = ([]); fails = ((record { repo = 0; call = calls.Commit }) ∷ []); contents = ([]); parts = ([]); largest = 0; tree = ([]); marks = (0 ∷ 1 ∷ 1 ∷ 2 ∷ 2 ∷ 3 ∷ 3 ∷ []) }

abbrev e3 : Entry
e3 = record { time = 0; count = 4; repo = (Some 0); kind = (kinds.Fault calls.Commit by.Script); taken = None; sent = ([]); lines = ([]) }

abbrev p3 : List Entry
p3 = e3 ∷ p2

abbrev d15 : Driver
d15 = record { past = p3; flights = ([]); fails = ([]); contents = ([]); parts = ((record { repo = 0; key = t0; bytes = c0 }) ∷ []); largest = 3; tree = ([]); marks = (0 ∷ 1 ∷ 1 ∷ 2 ∷ 2 ∷ 3 ∷ 3 ∷ []) }

c_7 : does given l7 d14 ≡ d15
unfolding opened
c_7 = refl

line7 : does given l7 d14 ≡ d15
line7 = c_7

abbrev d16 : Driver
d16 = record { past = p3; flights = ([]); fails = ([]); contents = ([]); parts = ((record { repo = 0; key = t0; bytes = c0 }) ∷ []); largest = 3; tree = ([]); marks = (0 ∷ 1 ∷ 1 ∷ 2 ∷ 2 ∷ 3 ∷ 3 ∷ 4 ∷ []) }

abbrev d17 : Driver
d17 = record { past = p3; flights = ([]); fails = ((record { repo = 0; call = calls.PutFile }) ∷ []); contents = ([]); parts = ((record { repo = 0; key = t0; bytes = c0 }) ∷ []); largest = 3; tree = ([]); marks = (0 ∷ 1 ∷ 1 ∷ 2 ∷ 2 ∷ 3 ∷ 3 ∷ 4 ∷ []) }

c_8 : does given l8 d16 ≡ d17
unfolding opened
c_8 = refl

line8 : does given l8 d16 ≡ d17
line8 = c_8

abbrev d18 : Driver
d18 = record { past = p3; flights = ([]); fails = ((record { repo = 0; call = calls.PutFile }) ∷ []); contents = ([]); parts = ((record { repo = 0; key = t0; bytes = c0 }) ∷ []); largest = 3; tree = ([]); marks = (0 ∷ 1 ∷ 1 ∷ 2 ∷ 2 ∷ 3 ∷ 3 ∷ 4 ∷ 4 ∷ []) }

abbrev e4 : Entry
e4 = record { time = 0; count = 5; repo = (Some 0); kind = (kinds.Gain by.Script 3 t0); taken = None; sent = ([]); lines = ([]) }

abbrev p4 : List Entry
p4 = e4 ∷ p3

abbrev e5 : Entry
e5 = record { time = 0; count = 6; repo = (Some 0); kind = (kinds.Fault calls.PutFile by.Script); taken = None; sent = ([]); lines = ([]) }

abbrev p5 : List Entry
p5 = e5 ∷ p4

abbrev d19 : Driver
d19 = record { past = p5; flights = ([]); fails = ([]); contents = ((record { repo = 0; key = t0; bytes = c0 }) ∷ []); parts = ([]); largest = 3; tree = ([]); marks = (0 ∷ 1 ∷ 1 ∷ 2 ∷ 2 ∷ 3 ∷ 3 ∷ 4 ∷ 4 ∷ []) }

c_9 : does given l9 d18 ≡ d19
unfolding opened
c_9 = refl

line9 : does given l9 d18 ≡ d19
line9 = c_9

abbrev d20 : Driver
d20 = record { past = p5; flights = ([]); fails = ([]); contents = ((record { repo = 0; key = t0; bytes = c0 }) ∷ []); parts = ([]); largest = 3; tree = ([]); marks = (0 ∷ 1 ∷ 1 ∷ 2 ∷ 2 ∷ 3 ∷ 3 ∷ 4 ∷ 4 ∷ 6 ∷ []) }

c_10 : does given l10 d20 ≡ d20
unfolding opened
c_10 = refl

line10 : does given l10 d20 ≡ d20
line10 = c_10

abbrev d21 : Driver
d21 = record { past = p5; flights = ([]); fails = ([]); contents = ((record { repo = 0; key = t0; bytes = c0 }) ∷ []); parts = ([]); largest = 3; tree = ([]); marks = (0 ∷ 1 ∷ 1 ∷ 2 ∷ 2 ∷ 3 ∷ 3 ∷ 4 ∷ 4 ∷ 6 ∷ 6 ∷ []) }

abbrev d22 : Driver
d22 = record { past = p5; flights = ([]); fails = ((record { repo = 0; call = calls.Append }) ∷ []); contents = ((record { repo = 0; key = t0; bytes = c0 }) ∷ []); parts = ([]); largest = 3; tree = ([]); marks = (0 ∷ 1 ∷ 1 ∷ 2 ∷ 2 ∷ 3 ∷ 3 ∷ 4 ∷ 4 ∷ 6 ∷ 6 ∷ []) }

c_11 : does given l11 d21 ≡ d22
unfolding opened
c_11 = refl

line11 : does given l11 d21 ≡ d22
line11 = c_11

abbrev d23 : Driver
d23 = record { past = p5; flights = ([]); fails = ((record { repo = 0; call = calls.Append }) ∷ []); contents = ((record { repo = 0; key = t0; bytes = c0 }) ∷ []); parts = ([]); largest = 3; tree = ([]); marks = (0 ∷ 1 ∷ 1 ∷ 2 ∷ 2 ∷ 3 ∷ 3 ∷ 4 ∷ 4 ∷ 6 ∷ 6 ∷ 6 ∷ []) }

abbrev e6 : Entry
e6 = record { time = 0; count = 7; repo = (Some 0); kind = (kinds.Fault calls.Append by.Script); taken = None; sent = ([]); lines = ([]) }

abbrev p6 : List Entry
p6 = e6 ∷ p5

abbrev d24 : Driver
d24 = record { past = p6; flights = ([]); fails = ([]); contents = ((record { repo = 0; key = t0; bytes = c0 }) ∷ []); parts = ([]); largest = 3; tree = ([]); marks = (0 ∷ 1 ∷ 1 ∷ 2 ∷ 2 ∷ 3 ∷ 3 ∷ 4 ∷ 4 ∷ 6 ∷ 6 ∷ 6 ∷ []) }

c_12 : does given l12 d23 ≡ d24
unfolding opened
c_12 = refl

line12 : does given l12 d23 ≡ d24
line12 = c_12

abbrev d25 : Driver
d25 = record { past = p6; flights = ([]); fails = ([]); contents = ((record { repo = 0; key = t0; bytes = c0 }) ∷ []); parts = ([]); largest = 3; tree = ([]); marks = (0 ∷ 1 ∷ 1 ∷ 2 ∷ 2 ∷ 3 ∷ 3 ∷ 4 ∷ 4 ∷ 6 ∷ 6 ∷ 6 ∷ 7 ∷ []) }

abbrev d26 : Driver
d26 = record { past = p6; flights = ([]); fails = ([]); contents = ((record { repo = 0; key = t0; bytes = c0 }) ∷ []); parts = ((record { repo = 0; key = t1; bytes = c1 }) ∷ []); largest = 3; tree = ([]); marks = (0 ∷ 1 ∷ 1 ∷ 2 ∷ 2 ∷ 3 ∷ 3 ∷ 4 ∷ 4 ∷ 6 ∷ 6 ∷ 6 ∷ 7 ∷ []) }

c_13 : does given l13 d25 ≡ d26
unfolding opened
c_13 = refl

line13 : does given l13 d25 ≡ d26
line13 = c_13

abbrev d27 : Driver
d27 = record { past = p6; flights = ([]); fails = ([]); contents = ((record { repo = 0; key = t0; bytes = c0 }) ∷ []); parts = ((record { repo = 0; key = t1; bytes = c1 }) ∷ []); largest = 3; tree = ([]); marks = (0 ∷ 1 ∷ 1 ∷ 2 ∷ 2 ∷ 3 ∷ 3 ∷ 4 ∷ 4 ∷ 6 ∷ 6 ∷ 6 ∷ 7 ∷ 7 ∷ []) }

abbrev e7 : Entry
e7 = record { time = 0; count = 8; repo = (Some 0); kind = (kinds.Log (Of logs.Numcopies)); taken = None; sent = ([]); lines = (t15 ∷ []) }

abbrev p7 : List Entry
p7 = e7 ∷ p6

abbrev d28 : Driver
d28 = record { past = p7; flights = ([]); fails = ([]); contents = ((record { repo = 0; key = t0; bytes = c0 }) ∷ []); parts = ((record { repo = 0; key = t1; bytes = c1 }) ∷ []); largest = 3; tree = ([]); marks = (0 ∷ 1 ∷ 1 ∷ 2 ∷ 2 ∷ 3 ∷ 3 ∷ 4 ∷ 4 ∷ 6 ∷ 6 ∷ 6 ∷ 7 ∷ 7 ∷ []) }

c_14 : does given l14 d27 ≡ d28
unfolding opened
c_14 = refl

line14 : does given l14 d27 ≡ d28
line14 = c_14

abbrev d29 : Driver
d29 = record { past = p7; flights = ([]); fails = ([]); contents = ((record { repo = 0; key = t0; bytes = c0 }) ∷ []); parts = ((record { repo = 0; key = t1; bytes = c1 }) ∷ []); largest = 3; tree = ([]); marks = (0 ∷ 1 ∷ 1 ∷ 2 ∷ 2 ∷ 3 ∷ 3 ∷ 4 ∷ 4 ∷ 6 ∷ 6 ∷ 6 ∷ 7 ∷ 7 ∷ 8 ∷ []) }

abbrev e8 : Entry
e8 = record { time = 0; count = 9; repo = (Some 0); kind = (kinds.Log (Of logs.Trust)); taken = None; sent = ([]); lines = (t17 ∷ []) }

abbrev p8 : List Entry
p8 = e8 ∷ p7

abbrev d30 : Driver
d30 = record { past = p8; flights = ([]); fails = ([]); contents = ((record { repo = 0; key = t0; bytes = c0 }) ∷ []); parts = ((record { repo = 0; key = t1; bytes = c1 }) ∷ []); largest = 3; tree = ([]); marks = (0 ∷ 1 ∷ 1 ∷ 2 ∷ 2 ∷ 3 ∷ 3 ∷ 4 ∷ 4 ∷ 6 ∷ 6 ∷ 6 ∷ 7 ∷ 7 ∷ 8 ∷ []) }

c_15 : does given l15 d29 ≡ d30
unfolding opened
c_15 = refl

line15 : does given l15 d29 ≡ d30
line15 = c_15

abbrev d31 : Driver
d31 = record { past = p8; flights = ([]); fails = ([]); contents = ((record { repo = 0; key = t0; bytes = c0 }) ∷ []); parts = ((record { repo = 0; key = t1; bytes = c1 }) ∷ []); largest = 3; tree = ([]); marks = (0 ∷ 1 ∷ 1 ∷ 2 ∷ 2 ∷ 3 ∷ 3 ∷ 4 ∷ 4 ∷ 6 ∷ 6 ∷ 6 ∷ 7 ∷ 7 ∷ 8 ∷ 9 ∷ []) }

abbrev d32 : Driver
d32 = record { past = p8; flights = ([]); fails = ((record { repo = 1; call = calls.PutFile }) ∷ []); contents = ((record { repo = 0; key = t0; bytes = c0 }) ∷ []); parts = ((record { repo = 0; key = t1; bytes = c1 }) ∷ []); largest = 3; tree = ([]); marks = (0 ∷ 1 ∷ 1 ∷ 2 ∷ 2 ∷ 3 ∷ 3 ∷ 4 ∷ 4 ∷ 6 ∷ 6 ∷ 6 ∷ 7 ∷ 7 ∷ 8 ∷ 9 ∷ []) }

c_16 : does given l16 d31 ≡ d32
unfolding opened
c_16 = refl

line16 : does given l16 d31 ≡ d32
line16 = c_16

abbrev d33 : Driver
d33 = record { past = p8; flights = ([]); fails = ((record { repo = 1; call = calls.PutFile }) ∷ []); contents = ((record { repo = 0; key = t0; bytes = c0 }) ∷ []); parts = ((record { repo = 0; key = t1; bytes = c1 }) ∷ []); largest = 3; tree = ([]); marks = (0 ∷ 1 ∷ 1 ∷ 2 ∷ 2 ∷ 3 ∷ 3 ∷ 4 ∷ 4 ∷ 6 ∷ 6 ∷ 6 ∷ 7 ∷ 7 ∷ 8 ∷ 9 ∷ 9 ∷ []) }

abbrev e9 : Entry
e9 = record { time = 0; count = 10; repo = (Some 1); kind = (kinds.Fault calls.PutFile by.Script); taken = None; sent = ([]); lines = ([]) }

abbrev p9 : List Entry
p9 = e9 ∷ p8

abbrev d34 : Driver
d34 = record { past = p9; flights = ([]); fails = ([]); contents = ((record { repo = 0; key = t0; bytes = c0 }) ∷ []); parts = ((record { repo = 0; key = t1; bytes = c1 }) ∷ []); largest = 3; tree = ([]); marks = (0 ∷ 1 ∷ 1 ∷ 2 ∷ 2 ∷ 3 ∷ 3 ∷ 4 ∷ 4 ∷ 6 ∷ 6 ∷ 6 ∷ 7 ∷ 7 ∷ 8 ∷ 9 ∷ 9 ∷ []) }

c_17 : does given l17 d33 ≡ d34
unfolding opened
c_17 = refl

line17 : does given l17 d33 ≡ d34
line17 = c_17

abbrev d35 : Driver
d35 = record { past = p9; flights = ([]); fails = ([]); contents = ((record { repo = 0; key = t0; bytes = c0 }) ∷ []); parts = ((record { repo = 0; key = t1; bytes = c1 }) ∷ []); largest = 3; tree = ([]); marks = (0 ∷ 1 ∷ 1 ∷ 2 ∷ 2 ∷ 3 ∷ 3 ∷ 4 ∷ 4 ∷ 6 ∷ 6 ∷ 6 ∷ 7 ∷ 7 ∷ 8 ∷ 9 ∷ 9 ∷ 10 ∷ []) }

abbrev e10 : Entry
e10 = record { time = 0; count = 11; repo = (Some 1); kind = (kinds.Log (Of logs.Numcopies)); taken = None; sent = ([]); lines = (t15 ∷ []) }

abbrev p10 : List Entry
p10 = e10 ∷ p9

abbrev e11 : Entry
e11 = record { time = 0; count = 12; repo = (Some 1); kind = (kinds.Log (Of logs.Trust)); taken = None; sent = ([]); lines = (t17 ∷ []) }

abbrev p11 : List Entry
p11 = e11 ∷ p10

abbrev d36 : Driver
d36 = record { past = p11; flights = ([]); fails = ([]); contents = ((record { repo = 0; key = t0; bytes = c0 }) ∷ []); parts = ((record { repo = 0; key = t1; bytes = c1 }) ∷ []); largest = 3; tree = ([]); marks = (0 ∷ 1 ∷ 1 ∷ 2 ∷ 2 ∷ 3 ∷ 3 ∷ 4 ∷ 4 ∷ 6 ∷ 6 ∷ 6 ∷ 7 ∷ 7 ∷ 8 ∷ 9 ∷ 9 ∷ 10 ∷ []) }

c_18 : does given l18 d35 ≡ d36
unfolding opened
c_18 = refl

line18 : does given l18 d35 ≡ d36
line18 = c_18

abbrev d37 : Driver
d37 = record { past = p11; flights = ([]); fails = ([]); contents = ((record { repo = 0; key = t0; bytes = c0 }) ∷ []); parts = ((record { repo = 0; key = t1; bytes = c1 }) ∷ []); largest = 3; tree = ([]); marks = (0 ∷ 1 ∷ 1 ∷ 2 ∷ 2 ∷ 3 ∷ 3 ∷ 4 ∷ 4 ∷ 6 ∷ 6 ∷ 6 ∷ 7 ∷ 7 ∷ 8 ∷ 9 ∷ 9 ∷ 10 ∷ 12 ∷ []) }

c_19 : does given l19 d37 ≡ d37
unfolding opened
c_19 = refl

line19 : does given l19 d37 ≡ d37
line19 = c_19

abbrev d38 : Driver
d38 = record { past = p11; flights = ([]); fails = ([]); contents = ((record { repo = 0; key = t0; bytes = c0 }) ∷ []); parts = ((record { repo = 0; key = t1; bytes = c1 }) ∷ []); largest = 3; tree = ([]); marks = (0 ∷ 1 ∷ 1 ∷ 2 ∷ 2 ∷ 3 ∷ 3 ∷ 4 ∷ 4 ∷ 6 ∷ 6 ∷ 6 ∷ 7 ∷ 7 ∷ 8 ∷ 9 ∷ 9 ∷ 10 ∷ 12 ∷ 12 ∷ []) }

abbrev e12 : Entry
e12 = record { time = 0; count = 13; repo = (Some 0); kind = (kinds.Log (Of logs.Numcopies)); taken = None; sent = ([]); lines = (t18 ∷ []) }

abbrev p12 : List Entry
p12 = e12 ∷ p11

abbrev d39 : Driver
d39 = record { past = p12; flights = ([]); fails = ([]); contents = ((record { repo = 0; key = t0; bytes = c0 }) ∷ []); parts = ((record { repo = 0; key = t1; bytes = c1 }) ∷ []); largest = 3; tree = ([]); marks = (0 ∷ 1 ∷ 1 ∷ 2 ∷ 2 ∷ 3 ∷ 3 ∷ 4 ∷ 4 ∷ 6 ∷ 6 ∷ 6 ∷ 7 ∷ 7 ∷ 8 ∷ 9 ∷ 9 ∷ 10 ∷ 12 ∷ 12 ∷ []) }

c_20 : does given l20 d38 ≡ d39
unfolding opened
c_20 = refl

line20 : does given l20 d38 ≡ d39
line20 = c_20

abbrev d40 : Driver
d40 = record { past = p12; flights = ([]); fails = ([]); contents = ((record { repo = 0; key = t0; bytes = c0 }) ∷ []); parts = ((record { repo = 0; key = t1; bytes = c1 }) ∷ []); largest = 3; tree = ([]); marks = (0 ∷ 1 ∷ 1 ∷ 2 ∷ 2 ∷ 3 ∷ 3 ∷ 4 ∷ 4 ∷ 6 ∷ 6 ∷ 6 ∷ 7 ∷ 7 ∷ 8 ∷ 9 ∷ 9 ∷ 10 ∷ 12 ∷ 12 ∷ 13 ∷ []) }

abbrev d41 : Driver
d41 = record { past = p12; flights = ([]); fails = ((record { repo = 0; call = calls.PutFile }) ∷ []); contents = ((record { repo = 0; key = t0; bytes = c0 }) ∷ []); parts = ((record { repo = 0; key = t1; bytes = c1 }) ∷ []); largest = 3; tree = ([]); marks = (0 ∷ 1 ∷ 1 ∷ 2 ∷ 2 ∷ 3 ∷ 3 ∷ 4 ∷ 4 ∷ 6 ∷ 6 ∷ 6 ∷ 7 ∷ 7 ∷ 8 ∷ 9 ∷ 9 ∷ 10 ∷ 12 ∷ 12 ∷ 13 ∷ []) }

c_21 : does given l21 d40 ≡ d41
unfolding opened
c_21 = refl

line21 : does given l21 d40 ≡ d41
line21 = c_21

abbrev d42 : Driver
d42 = record { past = p12; flights = ([]); fails = ((record { repo = 0; call = calls.PutFile }) ∷ []); contents = ((record { repo = 0; key = t0; bytes = c0 }) ∷ []); parts = ((record { repo = 0; key = t1; bytes = c1 }) ∷ []); largest = 3; tree = ([]); marks = (0 ∷ 1 ∷ 1 ∷ 2 ∷ 2 ∷ 3 ∷ 3 ∷ 4 ∷ 4 ∷ 6 ∷ 6 ∷ 6 ∷ 7 ∷ 7 ∷ 8 ∷ 9 ∷ 9 ∷ 10 ∷ 12 ∷ 12 ∷ 13 ∷ 13 ∷ []) }

abbrev e13 : Entry
e13 = record { time = 0; count = 14; repo = (Some 0); kind = (kinds.Fault calls.PutFile by.Script); taken = None; sent = ([]); lines = ([]) }

abbrev p13 : List Entry
p13 = e13 ∷ p12

abbrev d43 : Driver
d43 = record { past = p13; flights = ([]); fails = ([]); contents = ((record { repo = 0; key = t0; bytes = c0 }) ∷ []); parts = ((record { repo = 0; key = t1; bytes = c1 }) ∷ []); largest = 3; tree = ([]); marks = (0 ∷ 1 ∷ 1 ∷ 2 ∷ 2 ∷ 3 ∷ 3 ∷ 4 ∷ 4 ∷ 6 ∷ 6 ∷ 6 ∷ 7 ∷ 7 ∷ 8 ∷ 9 ∷ 9 ∷ 10 ∷ 12 ∷ 12 ∷ 13 ∷ 13 ∷ []) }

c_22 : does given l22 d42 ≡ d43
unfolding opened
c_22 = refl

line22 : does given l22 d42 ≡ d43
line22 = c_22

abbrev d44 : Driver
d44 = record { past = p13; flights = ([]); fails = ([]); contents = ((record { repo = 0; key = t0; bytes = c0 }) ∷ []); parts = ((record { repo = 0; key = t1; bytes = c1 }) ∷ []); largest = 3; tree = ([]); marks = (0 ∷ 1 ∷ 1 ∷ 2 ∷ 2 ∷ 3 ∷ 3 ∷ 4 ∷ 4 ∷ 6 ∷ 6 ∷ 6 ∷ 7 ∷ 7 ∷ 8 ∷ 9 ∷ 9 ∷ 10 ∷ 12 ∷ 12 ∷ 13 ∷ 13 ∷ 14 ∷ []) }

abbrev e14 : Entry
e14 = record { time = 0; count = 15; repo = (Some 0); kind = (kinds.Compact (Of logs.Numcopies)); taken = None; sent = ([]); lines = ([]) }

abbrev p14 : List Entry
p14 = e14 ∷ p13

abbrev d45 : Driver
d45 = record { past = p14; flights = ([]); fails = ([]); contents = ((record { repo = 0; key = t0; bytes = c0 }) ∷ []); parts = ((record { repo = 0; key = t1; bytes = c1 }) ∷ []); largest = 3; tree = ([]); marks = (0 ∷ 1 ∷ 1 ∷ 2 ∷ 2 ∷ 3 ∷ 3 ∷ 4 ∷ 4 ∷ 6 ∷ 6 ∷ 6 ∷ 7 ∷ 7 ∷ 8 ∷ 9 ∷ 9 ∷ 10 ∷ 12 ∷ 12 ∷ 13 ∷ 13 ∷ 14 ∷ []) }

c_23 : does given l23 d44 ≡ d45
unfolding opened
c_23 = refl

line23 : does given l23 d44 ≡ d45
line23 = c_23

abbrev d46 : Driver
d46 = record { past = p14; flights = ([]); fails = ([]); contents = ((record { repo = 0; key = t0; bytes = c0 }) ∷ []); parts = ((record { repo = 0; key = t1; bytes = c1 }) ∷ []); largest = 3; tree = ([]); marks = (0 ∷ 1 ∷ 1 ∷ 2 ∷ 2 ∷ 3 ∷ 3 ∷ 4 ∷ 4 ∷ 6 ∷ 6 ∷ 6 ∷ 7 ∷ 7 ∷ 8 ∷ 9 ∷ 9 ∷ 10 ∷ 12 ∷ 12 ∷ 13 ∷ 13 ∷ 14 ∷ 15 ∷ []) }

c_24 : does given l24 d46 ≡ d46
unfolding opened
c_24 = refl

line24 : does given l24 d46 ≡ d46
line24 = c_24

abbrev d47 : Driver
d47 = record { past = p14; flights = ([]); fails = ([]); contents = ((record { repo = 0; key = t0; bytes = c0 }) ∷ []); parts = ((record { repo = 0; key = t1; bytes = c1 }) ∷ []); largest = 3; tree = ([]); marks = (0 ∷ 1 ∷ 1 ∷ 2 ∷ 2 ∷ 3 ∷ 3 ∷ 4 ∷ 4 ∷ 6 ∷ 6 ∷ 6 ∷ 7 ∷ 7 ∷ 8 ∷ 9 ∷ 9 ∷ 10 ∷ 12 ∷ 12 ∷ 13 ∷ 13 ∷ 14 ∷ 15 ∷ 15 ∷ []) }

abbrev e15 : Entry
e15 = record { time = 0; count = 16; repo = (Some 1); kind = (kinds.Gain by.Script 3 t2); taken = None; sent = ([]); lines = ([]) }

abbrev p15 : List Entry
p15 = e15 ∷ p14

abbrev e16 : Entry
e16 = record { time = 0; count = 17; repo = (Some 1); kind = (kinds.Log (Location t2)); taken = None; sent = ([]); lines = (t19 ∷ []) }

abbrev p16 : List Entry
p16 = e16 ∷ p15

abbrev d48 : Driver
d48 = record { past = p16; flights = ([]); fails = ([]); contents = ((record { repo = 1; key = t2; bytes = c0 }) ∷ (record { repo = 0; key = t0; bytes = c0 }) ∷ []); parts = ((record { repo = 0; key = t1; bytes = c1 }) ∷ []); largest = 3; tree = ((record { place = 15; path = t3; key = t2 }) ∷ []); marks = (0 ∷ 1 ∷ 1 ∷ 2 ∷ 2 ∷ 3 ∷ 3 ∷ 4 ∷ 4 ∷ 6 ∷ 6 ∷ 6 ∷ 7 ∷ 7 ∷ 8 ∷ 9 ∷ 9 ∷ 10 ∷ 12 ∷ 12 ∷ 13 ∷ 13 ∷ 14 ∷ 15 ∷ 15 ∷ []) }

c_25 : does given l25 d47 ≡ d48
unfolding opened
c_25 = refl

line25 : does given l25 d47 ≡ d48
line25 = c_25

abbrev d49 : Driver
d49 = record { past = p16; flights = ([]); fails = ([]); contents = ((record { repo = 1; key = t2; bytes = c0 }) ∷ (record { repo = 0; key = t0; bytes = c0 }) ∷ []); parts = ((record { repo = 0; key = t1; bytes = c1 }) ∷ []); largest = 3; tree = ((record { place = 15; path = t3; key = t2 }) ∷ []); marks = (0 ∷ 1 ∷ 1 ∷ 2 ∷ 2 ∷ 3 ∷ 3 ∷ 4 ∷ 4 ∷ 6 ∷ 6 ∷ 6 ∷ 7 ∷ 7 ∷ 8 ∷ 9 ∷ 9 ∷ 10 ∷ 12 ∷ 12 ∷ 13 ∷ 13 ∷ 14 ∷ 15 ∷ 15 ∷ 17 ∷ []) }

abbrev d50 : Driver
d50 = record { past = p16; flights = ([]); fails = ([]); contents = ((record { repo = 1; key = t2; bytes = c0 }) ∷ (record { repo = 0; key = t0; bytes = c0 }) ∷ []); parts = ((record { repo = 0; key = t1; bytes = c1 }) ∷ []); largest = 3; tree = ((record { place = 15; path = t3; key = t2 }) ∷ (record { place = 17; path = t4; key = t0 }) ∷ []); marks = (0 ∷ 1 ∷ 1 ∷ 2 ∷ 2 ∷ 3 ∷ 3 ∷ 4 ∷ 4 ∷ 6 ∷ 6 ∷ 6 ∷ 7 ∷ 7 ∷ 8 ∷ 9 ∷ 9 ∷ 10 ∷ 12 ∷ 12 ∷ 13 ∷ 13 ∷ 14 ∷ 15 ∷ 15 ∷ 17 ∷ []) }

c_26 : does given l26 d49 ≡ d50
unfolding opened
c_26 = refl

line26 : does given l26 d49 ≡ d50
line26 = c_26

abbrev d51 : Driver
d51 = record { past = p16; flights = ([]); fails = ([]); contents = ((record { repo = 1; key = t2; bytes = c0 }) ∷ (record { repo = 0; key = t0; bytes = c0 }) ∷ []); parts = ((record { repo = 0; key = t1; bytes = c1 }) ∷ []); largest = 3; tree = ((record { place = 15; path = t3; key = t2 }) ∷ (record { place = 17; path = t4; key = t0 }) ∷ []); marks = (0 ∷ 1 ∷ 1 ∷ 2 ∷ 2 ∷ 3 ∷ 3 ∷ 4 ∷ 4 ∷ 6 ∷ 6 ∷ 6 ∷ 7 ∷ 7 ∷ 8 ∷ 9 ∷ 9 ∷ 10 ∷ 12 ∷ 12 ∷ 13 ∷ 13 ∷ 14 ∷ 15 ∷ 15 ∷ 17 ∷ 17 ∷ []) }

abbrev e17 : Entry
e17 = record { time = 0; count = 18; repo = (Some 1); kind = (kinds.Begin 1 (record { kind = jobs.Get; key = t0; path = (Some t4); peer = (Some 0) })); taken = None; sent = ([]); lines = ([]) }

abbrev p17 : List Entry
p17 = e17 ∷ p16

abbrev d52 : Driver
d52 = record { past = p17; flights = ([]); fails = ([]); contents = ((record { repo = 1; key = t2; bytes = c0 }) ∷ (record { repo = 0; key = t0; bytes = c0 }) ∷ []); parts = ((record { repo = 0; key = t1; bytes = c1 }) ∷ []); largest = 3; tree = ((record { place = 15; path = t3; key = t2 }) ∷ (record { place = 17; path = t4; key = t0 }) ∷ []); marks = (0 ∷ 1 ∷ 1 ∷ 2 ∷ 2 ∷ 3 ∷ 3 ∷ 4 ∷ 4 ∷ 6 ∷ 6 ∷ 6 ∷ 7 ∷ 7 ∷ 8 ∷ 9 ∷ 9 ∷ 10 ∷ 12 ∷ 12 ∷ 13 ∷ 13 ∷ 14 ∷ 15 ∷ 15 ∷ 17 ∷ 17 ∷ []) }

c_27 : begins 1 (record { kind = jobs.Get; key = t0; path = (Some t4); peer = (Some 0) }) d51 ≡ d52
unfolding opened
c_27 = refl

c_28 : turn given 0 d52 ≡ d52
unfolding opened
c_28 = refl

abbrev e18 : Entry
e18 = record { time = 0; count = 19; repo = (Some 1); kind = (kinds.Talk (Some 1)); taken = None; sent = ((record { peer = 0; slot = 0; up = true; epoch = 1; seq = 1; body = Opening }) ∷ []); lines = ([]) }

abbrev p18 : List Entry
p18 = e18 ∷ p17

abbrev d53 : Driver
d53 = record { past = p18; flights = ((record { to = 0; frame = (record { peer = 1; slot = 0; up = true; epoch = 1; seq = 1; body = Opening }); bytes = [] }) ∷ []); fails = ([]); contents = ((record { repo = 1; key = t2; bytes = c0 }) ∷ (record { repo = 0; key = t0; bytes = c0 }) ∷ []); parts = ((record { repo = 0; key = t1; bytes = c1 }) ∷ []); largest = 3; tree = ((record { place = 15; path = t3; key = t2 }) ∷ (record { place = 17; path = t4; key = t0 }) ∷ []); marks = (0 ∷ 1 ∷ 1 ∷ 2 ∷ 2 ∷ 3 ∷ 3 ∷ 4 ∷ 4 ∷ 6 ∷ 6 ∷ 6 ∷ 7 ∷ 7 ∷ 8 ∷ 9 ∷ 9 ∷ 10 ∷ 12 ∷ 12 ∷ 13 ∷ 13 ∷ 14 ∷ 15 ∷ 15 ∷ 17 ∷ 17 ∷ []) }

c_29 : turn given 1 d52 ≡ d53
unfolding opened
c_29 = refl

abbrev e19 : Entry
e19 = record { time = 0; count = 20; repo = (Some 0); kind = (kinds.Talk None); taken = (Some (record { peer = 1; slot = 0; up = true; epoch = 1; seq = 1; body = Opening })); sent = ((record { peer = 1; slot = 0; up = false; epoch = 1; seq = 1; body = (Line t5) }) ∷ []); lines = ([]) }

abbrev p19 : List Entry
p19 = e19 ∷ p18

abbrev d54 : Driver
d54 = record { past = p19; flights = ((record { to = 1; frame = (record { peer = 0; slot = 0; up = false; epoch = 1; seq = 1; body = (Line t5) }); bytes = [] }) ∷ []); fails = ([]); contents = ((record { repo = 1; key = t2; bytes = c0 }) ∷ (record { repo = 0; key = t0; bytes = c0 }) ∷ []); parts = ((record { repo = 0; key = t1; bytes = c1 }) ∷ []); largest = 3; tree = ((record { place = 15; path = t3; key = t2 }) ∷ (record { place = 17; path = t4; key = t0 }) ∷ []); marks = (0 ∷ 1 ∷ 1 ∷ 2 ∷ 2 ∷ 3 ∷ 3 ∷ 4 ∷ 4 ∷ 6 ∷ 6 ∷ 6 ∷ 7 ∷ 7 ∷ 8 ∷ 9 ∷ 9 ∷ 10 ∷ 12 ∷ 12 ∷ 13 ∷ 13 ∷ 14 ∷ 15 ∷ 15 ∷ 17 ∷ 17 ∷ []) }

c_30 : turn given 0 d53 ≡ d54
unfolding opened
c_30 = refl

abbrev e20 : Entry
e20 = record { time = 0; count = 21; repo = (Some 1); kind = (kinds.Talk (Some 1)); taken = (Some (record { peer = 0; slot = 0; up = false; epoch = 1; seq = 1; body = (Line t5) })); sent = ((record { peer = 0; slot = 0; up = true; epoch = 1; seq = 2; body = (Line t6) }) ∷ []); lines = ([]) }

abbrev p20 : List Entry
p20 = e20 ∷ p19

abbrev d55 : Driver
d55 = record { past = p20; flights = ((record { to = 0; frame = (record { peer = 1; slot = 0; up = true; epoch = 1; seq = 2; body = (Line t6) }); bytes = [] }) ∷ []); fails = ([]); contents = ((record { repo = 1; key = t2; bytes = c0 }) ∷ (record { repo = 0; key = t0; bytes = c0 }) ∷ []); parts = ((record { repo = 0; key = t1; bytes = c1 }) ∷ []); largest = 3; tree = ((record { place = 15; path = t3; key = t2 }) ∷ (record { place = 17; path = t4; key = t0 }) ∷ []); marks = (0 ∷ 1 ∷ 1 ∷ 2 ∷ 2 ∷ 3 ∷ 3 ∷ 4 ∷ 4 ∷ 6 ∷ 6 ∷ 6 ∷ 7 ∷ 7 ∷ 8 ∷ 9 ∷ 9 ∷ 10 ∷ 12 ∷ 12 ∷ 13 ∷ 13 ∷ 14 ∷ 15 ∷ 15 ∷ 17 ∷ 17 ∷ []) }

c_31 : turn given 1 d54 ≡ d55
unfolding opened
c_31 = refl

abbrev e21 : Entry
e21 = record { time = 0; count = 22; repo = (Some 0); kind = (kinds.Talk None); taken = (Some (record { peer = 1; slot = 0; up = true; epoch = 1; seq = 2; body = (Line t6) })); sent = ((record { peer = 1; slot = 0; up = false; epoch = 1; seq = 2; body = (Line t6) }) ∷ []); lines = ([]) }

abbrev p21 : List Entry
p21 = e21 ∷ p20

abbrev d56 : Driver
d56 = record { past = p21; flights = ((record { to = 1; frame = (record { peer = 0; slot = 0; up = false; epoch = 1; seq = 2; body = (Line t6) }); bytes = [] }) ∷ []); fails = ([]); contents = ((record { repo = 1; key = t2; bytes = c0 }) ∷ (record { repo = 0; key = t0; bytes = c0 }) ∷ []); parts = ((record { repo = 0; key = t1; bytes = c1 }) ∷ []); largest = 3; tree = ((record { place = 15; path = t3; key = t2 }) ∷ (record { place = 17; path = t4; key = t0 }) ∷ []); marks = (0 ∷ 1 ∷ 1 ∷ 2 ∷ 2 ∷ 3 ∷ 3 ∷ 4 ∷ 4 ∷ 6 ∷ 6 ∷ 6 ∷ 7 ∷ 7 ∷ 8 ∷ 9 ∷ 9 ∷ 10 ∷ 12 ∷ 12 ∷ 13 ∷ 13 ∷ 14 ∷ 15 ∷ 15 ∷ 17 ∷ 17 ∷ []) }

c_32 : turn given 0 d55 ≡ d56
unfolding opened
c_32 = refl

abbrev e22 : Entry
e22 = record { time = 0; count = 23; repo = (Some 1); kind = (kinds.Talk (Some 1)); taken = (Some (record { peer = 0; slot = 0; up = false; epoch = 1; seq = 2; body = (Line t6) })); sent = ((record { peer = 0; slot = 0; up = true; epoch = 1; seq = 3; body = (Line t7) }) ∷ []); lines = ([]) }

abbrev p22 : List Entry
p22 = e22 ∷ p21

abbrev d57 : Driver
d57 = record { past = p22; flights = ((record { to = 0; frame = (record { peer = 1; slot = 0; up = true; epoch = 1; seq = 3; body = (Line t7) }); bytes = [] }) ∷ []); fails = ([]); contents = ((record { repo = 1; key = t2; bytes = c0 }) ∷ (record { repo = 0; key = t0; bytes = c0 }) ∷ []); parts = ((record { repo = 0; key = t1; bytes = c1 }) ∷ []); largest = 3; tree = ((record { place = 15; path = t3; key = t2 }) ∷ (record { place = 17; path = t4; key = t0 }) ∷ []); marks = (0 ∷ 1 ∷ 1 ∷ 2 ∷ 2 ∷ 3 ∷ 3 ∷ 4 ∷ 4 ∷ 6 ∷ 6 ∷ 6 ∷ 7 ∷ 7 ∷ 8 ∷ 9 ∷ 9 ∷ 10 ∷ 12 ∷ 12 ∷ 13 ∷ 13 ∷ 14 ∷ 15 ∷ 15 ∷ 17 ∷ 17 ∷ []) }

c_33 : turn given 1 d56 ≡ d57
unfolding opened
c_33 = refl

abbrev e23 : Entry
e23 = record { time = 0; count = 24; repo = (Some 0); kind = (kinds.Talk None); taken = (Some (record { peer = 1; slot = 0; up = true; epoch = 1; seq = 3; body = (Line t7) })); sent = ((record { peer = 1; slot = 0; up = false; epoch = 1; seq = 3; body = (Line t8) }) ∷ []); lines = ([]) }

abbrev p23 : List Entry
p23 = e23 ∷ p22

abbrev d58 : Driver
d58 = record { past = p23; flights = ((record { to = 1; frame = (record { peer = 0; slot = 0; up = false; epoch = 1; seq = 3; body = (Line t8) }); bytes = [] }) ∷ []); fails = ([]); contents = ((record { repo = 1; key = t2; bytes = c0 }) ∷ (record { repo = 0; key = t0; bytes = c0 }) ∷ []); parts = ((record { repo = 0; key = t1; bytes = c1 }) ∷ []); largest = 3; tree = ((record { place = 15; path = t3; key = t2 }) ∷ (record { place = 17; path = t4; key = t0 }) ∷ []); marks = (0 ∷ 1 ∷ 1 ∷ 2 ∷ 2 ∷ 3 ∷ 3 ∷ 4 ∷ 4 ∷ 6 ∷ 6 ∷ 6 ∷ 7 ∷ 7 ∷ 8 ∷ 9 ∷ 9 ∷ 10 ∷ 12 ∷ 12 ∷ 13 ∷ 13 ∷ 14 ∷ 15 ∷ 15 ∷ 17 ∷ 17 ∷ []) }

c_34 : turn given 0 d57 ≡ d58
unfolding opened
c_34 = refl

abbrev e24 : Entry
e24 = record { time = 0; count = 25; repo = (Some 1); kind = (kinds.Talk (Some 1)); taken = (Some (record { peer = 0; slot = 0; up = false; epoch = 1; seq = 3; body = (Line t8) })); sent = ([]); lines = ([]) }

abbrev p24 : List Entry
p24 = e24 ∷ p23

abbrev d59 : Driver
d59 = record { past = p24; flights = ([]); fails = ([]); contents = ((record { repo = 1; key = t2; bytes = c0 }) ∷ (record { repo = 0; key = t0; bytes = c0 }) ∷ []); parts = ((record { repo = 0; key = t1; bytes = c1 }) ∷ []); largest = 3; tree = ((record { place = 15; path = t3; key = t2 }) ∷ (record { place = 17; path = t4; key = t0 }) ∷ []); marks = (0 ∷ 1 ∷ 1 ∷ 2 ∷ 2 ∷ 3 ∷ 3 ∷ 4 ∷ 4 ∷ 6 ∷ 6 ∷ 6 ∷ 7 ∷ 7 ∷ 8 ∷ 9 ∷ 9 ∷ 10 ∷ 12 ∷ 12 ∷ 13 ∷ 13 ∷ 14 ∷ 15 ∷ 15 ∷ 17 ∷ 17 ∷ []) }

c_35 : turn given 1 d58 ≡ d59
unfolding opened
c_35 = refl

abbrev e25 : Entry
e25 = record { time = 0; count = 26; repo = (Some 0); kind = (kinds.Talk None); taken = None; sent = ((record { peer = 1; slot = 0; up = false; epoch = 1; seq = 4; body = (Bytes 3) }) ∷ []); lines = ([]) }

abbrev p25 : List Entry
p25 = e25 ∷ p24

abbrev d60 : Driver
d60 = record { past = p25; flights = ((record { to = 1; frame = (record { peer = 0; slot = 0; up = false; epoch = 1; seq = 4; body = (Bytes 3) }); bytes = c0 }) ∷ []); fails = ([]); contents = ((record { repo = 1; key = t2; bytes = c0 }) ∷ (record { repo = 0; key = t0; bytes = c0 }) ∷ []); parts = ((record { repo = 0; key = t1; bytes = c1 }) ∷ []); largest = 3; tree = ((record { place = 15; path = t3; key = t2 }) ∷ (record { place = 17; path = t4; key = t0 }) ∷ []); marks = (0 ∷ 1 ∷ 1 ∷ 2 ∷ 2 ∷ 3 ∷ 3 ∷ 4 ∷ 4 ∷ 6 ∷ 6 ∷ 6 ∷ 7 ∷ 7 ∷ 8 ∷ 9 ∷ 9 ∷ 10 ∷ 12 ∷ 12 ∷ 13 ∷ 13 ∷ 14 ∷ 15 ∷ 15 ∷ 17 ∷ 17 ∷ []) }

c_36 : turn given 0 d59 ≡ d60
unfolding opened
c_36 = refl

abbrev e26 : Entry
e26 = record { time = 0; count = 27; repo = (Some 1); kind = (kinds.Talk (Some 1)); taken = (Some (record { peer = 0; slot = 0; up = false; epoch = 1; seq = 4; body = (Bytes 3) })); sent = ([]); lines = ([]) }

abbrev p26 : List Entry
p26 = e26 ∷ p25

abbrev d61 : Driver
d61 = record { past = p26; flights = ([]); fails = ([]); contents = ((record { repo = 1; key = t2; bytes = c0 }) ∷ (record { repo = 0; key = t0; bytes = c0 }) ∷ []); parts = ((record { repo = 1; key = t0; bytes = c0 }) ∷ (record { repo = 0; key = t1; bytes = c1 }) ∷ []); largest = 3; tree = ((record { place = 15; path = t3; key = t2 }) ∷ (record { place = 17; path = t4; key = t0 }) ∷ []); marks = (0 ∷ 1 ∷ 1 ∷ 2 ∷ 2 ∷ 3 ∷ 3 ∷ 4 ∷ 4 ∷ 6 ∷ 6 ∷ 6 ∷ 7 ∷ 7 ∷ 8 ∷ 9 ∷ 9 ∷ 10 ∷ 12 ∷ 12 ∷ 13 ∷ 13 ∷ 14 ∷ 15 ∷ 15 ∷ 17 ∷ 17 ∷ []) }

c_37 : turn given 1 d60 ≡ d61
unfolding opened
c_37 = refl

abbrev e27 : Entry
e27 = record { time = 0; count = 28; repo = (Some 0); kind = (kinds.Talk None); taken = None; sent = ((record { peer = 1; slot = 0; up = false; epoch = 1; seq = 5; body = (Line t9) }) ∷ []); lines = ([]) }

abbrev p27 : List Entry
p27 = e27 ∷ p26

abbrev d62 : Driver
d62 = record { past = p27; flights = ((record { to = 1; frame = (record { peer = 0; slot = 0; up = false; epoch = 1; seq = 5; body = (Line t9) }); bytes = [] }) ∷ []); fails = ([]); contents = ((record { repo = 1; key = t2; bytes = c0 }) ∷ (record { repo = 0; key = t0; bytes = c0 }) ∷ []); parts = ((record { repo = 1; key = t0; bytes = c0 }) ∷ (record { repo = 0; key = t1; bytes = c1 }) ∷ []); largest = 3; tree = ((record { place = 15; path = t3; key = t2 }) ∷ (record { place = 17; path = t4; key = t0 }) ∷ []); marks = (0 ∷ 1 ∷ 1 ∷ 2 ∷ 2 ∷ 3 ∷ 3 ∷ 4 ∷ 4 ∷ 6 ∷ 6 ∷ 6 ∷ 7 ∷ 7 ∷ 8 ∷ 9 ∷ 9 ∷ 10 ∷ 12 ∷ 12 ∷ 13 ∷ 13 ∷ 14 ∷ 15 ∷ 15 ∷ 17 ∷ 17 ∷ []) }

c_38 : turn given 0 d61 ≡ d62
unfolding opened
c_38 = refl

abbrev e28 : Entry
e28 = record { time = 0; count = 29; repo = (Some 1); kind = (kinds.Gain (by.Job 1) 3 t0); taken = (Some (record { peer = 0; slot = 0; up = false; epoch = 1; seq = 5; body = (Line t9) })); sent = ((record { peer = 0; slot = 0; up = true; epoch = 1; seq = 4; body = (Line t10) }) ∷ []); lines = ([]) }

abbrev p28 : List Entry
p28 = e28 ∷ p27

abbrev d63 : Driver
d63 = record { past = p28; flights = ((record { to = 0; frame = (record { peer = 1; slot = 0; up = true; epoch = 1; seq = 4; body = (Line t10) }); bytes = [] }) ∷ []); fails = ([]); contents = ((record { repo = 1; key = t0; bytes = c0 }) ∷ (record { repo = 1; key = t2; bytes = c0 }) ∷ (record { repo = 0; key = t0; bytes = c0 }) ∷ []); parts = ((record { repo = 0; key = t1; bytes = c1 }) ∷ []); largest = 3; tree = ((record { place = 15; path = t3; key = t2 }) ∷ (record { place = 17; path = t4; key = t0 }) ∷ []); marks = (0 ∷ 1 ∷ 1 ∷ 2 ∷ 2 ∷ 3 ∷ 3 ∷ 4 ∷ 4 ∷ 6 ∷ 6 ∷ 6 ∷ 7 ∷ 7 ∷ 8 ∷ 9 ∷ 9 ∷ 10 ∷ 12 ∷ 12 ∷ 13 ∷ 13 ∷ 14 ∷ 15 ∷ 15 ∷ 17 ∷ 17 ∷ []) }

c_39 : turn given 1 d62 ≡ d63
unfolding opened
c_39 = refl

abbrev e29 : Entry
e29 = record { time = 0; count = 30; repo = (Some 0); kind = (kinds.Talk None); taken = (Some (record { peer = 1; slot = 0; up = true; epoch = 1; seq = 4; body = (Line t10) })); sent = ([]); lines = ([]) }

abbrev p29 : List Entry
p29 = e29 ∷ p28

abbrev d64 : Driver
d64 = record { past = p29; flights = ([]); fails = ([]); contents = ((record { repo = 1; key = t0; bytes = c0 }) ∷ (record { repo = 1; key = t2; bytes = c0 }) ∷ (record { repo = 0; key = t0; bytes = c0 }) ∷ []); parts = ((record { repo = 0; key = t1; bytes = c1 }) ∷ []); largest = 3; tree = ((record { place = 15; path = t3; key = t2 }) ∷ (record { place = 17; path = t4; key = t0 }) ∷ []); marks = (0 ∷ 1 ∷ 1 ∷ 2 ∷ 2 ∷ 3 ∷ 3 ∷ 4 ∷ 4 ∷ 6 ∷ 6 ∷ 6 ∷ 7 ∷ 7 ∷ 8 ∷ 9 ∷ 9 ∷ 10 ∷ 12 ∷ 12 ∷ 13 ∷ 13 ∷ 14 ∷ 15 ∷ 15 ∷ 17 ∷ 17 ∷ []) }

c_40 : turn given 0 d63 ≡ d64
unfolding opened
c_40 = refl

abbrev e30 : Entry
e30 = record { time = 0; count = 31; repo = (Some 1); kind = (kinds.Log (Location t0)); taken = None; sent = ([]); lines = (t19 ∷ []) }

abbrev p30 : List Entry
p30 = e30 ∷ p29

abbrev d65 : Driver
d65 = record { past = p30; flights = ([]); fails = ([]); contents = ((record { repo = 1; key = t0; bytes = c0 }) ∷ (record { repo = 1; key = t2; bytes = c0 }) ∷ (record { repo = 0; key = t0; bytes = c0 }) ∷ []); parts = ((record { repo = 0; key = t1; bytes = c1 }) ∷ []); largest = 3; tree = ((record { place = 15; path = t3; key = t2 }) ∷ (record { place = 17; path = t4; key = t0 }) ∷ []); marks = (0 ∷ 1 ∷ 1 ∷ 2 ∷ 2 ∷ 3 ∷ 3 ∷ 4 ∷ 4 ∷ 6 ∷ 6 ∷ 6 ∷ 7 ∷ 7 ∷ 8 ∷ 9 ∷ 9 ∷ 10 ∷ 12 ∷ 12 ∷ 13 ∷ 13 ∷ 14 ∷ 15 ∷ 15 ∷ 17 ∷ 17 ∷ []) }

c_41 : turn given 1 d64 ≡ d65
unfolding opened
c_41 = refl

c_42 : turn given 0 d65 ≡ d65
unfolding opened
c_42 = refl

abbrev e31 : Entry
e31 = record { time = 0; count = 32; repo = (Some 1); kind = (kinds.End 1 (outcomes.Got (Some 0) (Some 0))); taken = None; sent = ((record { peer = 0; slot = 0; up = true; epoch = 1; seq = 5; body = Closing }) ∷ []); lines = ([]) }

abbrev p31 : List Entry
p31 = e31 ∷ p30

abbrev d66 : Driver
d66 = record { past = p31; flights = ((record { to = 0; frame = (record { peer = 1; slot = 0; up = true; epoch = 1; seq = 5; body = Closing }); bytes = [] }) ∷ []); fails = ([]); contents = ((record { repo = 1; key = t0; bytes = c0 }) ∷ (record { repo = 1; key = t2; bytes = c0 }) ∷ (record { repo = 0; key = t0; bytes = c0 }) ∷ []); parts = ((record { repo = 0; key = t1; bytes = c1 }) ∷ []); largest = 3; tree = ((record { place = 15; path = t3; key = t2 }) ∷ (record { place = 17; path = t4; key = t0 }) ∷ []); marks = (0 ∷ 1 ∷ 1 ∷ 2 ∷ 2 ∷ 3 ∷ 3 ∷ 4 ∷ 4 ∷ 6 ∷ 6 ∷ 6 ∷ 7 ∷ 7 ∷ 8 ∷ 9 ∷ 9 ∷ 10 ∷ 12 ∷ 12 ∷ 13 ∷ 13 ∷ 14 ∷ 15 ∷ 15 ∷ 17 ∷ 17 ∷ []) }

c_43 : turn given 1 d65 ≡ d66
unfolding opened
c_43 = refl

abbrev e32 : Entry
e32 = record { time = 0; count = 33; repo = (Some 0); kind = (kinds.Close 1 0 false); taken = (Some (record { peer = 1; slot = 0; up = true; epoch = 1; seq = 5; body = Closing })); sent = ([]); lines = ([]) }

abbrev p32 : List Entry
p32 = e32 ∷ p31

abbrev d67 : Driver
d67 = record { past = p32; flights = ([]); fails = ([]); contents = ((record { repo = 1; key = t0; bytes = c0 }) ∷ (record { repo = 1; key = t2; bytes = c0 }) ∷ (record { repo = 0; key = t0; bytes = c0 }) ∷ []); parts = ((record { repo = 0; key = t1; bytes = c1 }) ∷ []); largest = 3; tree = ((record { place = 15; path = t3; key = t2 }) ∷ (record { place = 17; path = t4; key = t0 }) ∷ []); marks = (0 ∷ 1 ∷ 1 ∷ 2 ∷ 2 ∷ 3 ∷ 3 ∷ 4 ∷ 4 ∷ 6 ∷ 6 ∷ 6 ∷ 7 ∷ 7 ∷ 8 ∷ 9 ∷ 9 ∷ 10 ∷ 12 ∷ 12 ∷ 13 ∷ 13 ∷ 14 ∷ 15 ∷ 15 ∷ 17 ∷ 17 ∷ []) }

c_44 : turn given 0 d66 ≡ d67
unfolding opened
c_44 = refl

c_45 : turn given 1 d67 ≡ d67
unfolding opened
c_45 = refl

c_46 : turn given 0 d67 ≡ d67
unfolding opened
c_46 = refl

line27 : does given l27 d51 ≡ d67
line27 = ap (settles given) c_27 ∙ settles_by given 11 d52 (record { driver = d67; idle = 2 }) (ap (goes given 10) (came given 0 d52 d53 refl (ap (turns_of given (1 ∷ [])) c_28 ∙ ap (turns_of given ([])) c_29)) ∙ (ap (goes given 9) (came given 0 d53 d55 refl (ap (turns_of given (1 ∷ [])) c_30 ∙ ap (turns_of given ([])) c_31)) ∙ (ap (goes given 8) (came given 0 d55 d57 refl (ap (turns_of given (1 ∷ [])) c_32 ∙ ap (turns_of given ([])) c_33)) ∙ (ap (goes given 7) (came given 0 d57 d59 refl (ap (turns_of given (1 ∷ [])) c_34 ∙ ap (turns_of given ([])) c_35)) ∙ (ap (goes given 6) (came given 0 d59 d61 refl (ap (turns_of given (1 ∷ [])) c_36 ∙ ap (turns_of given ([])) c_37)) ∙ (ap (goes given 5) (came given 0 d61 d63 refl (ap (turns_of given (1 ∷ [])) c_38 ∙ ap (turns_of given ([])) c_39)) ∙ (ap (goes given 4) (came given 0 d63 d65 refl (ap (turns_of given (1 ∷ [])) c_40 ∙ ap (turns_of given ([])) c_41)) ∙ (ap (goes given 3) (came given 0 d65 d66 refl (ap (turns_of given (1 ∷ [])) c_42 ∙ ap (turns_of given ([])) c_43)) ∙ (ap (goes given 2) (came given 0 d66 d67 refl (ap (turns_of given (1 ∷ [])) c_44 ∙ ap (turns_of given ([])) c_45)) ∙ (ap (goes given 1) (came given 0 d67 d67 refl (ap (turns_of given (1 ∷ [])) c_46 ∙ ap (turns_of given ([])) c_45)) ∙ (ap (goes given 0) (came given 1 d67 d67 refl (ap (turns_of given (1 ∷ [])) c_46 ∙ ap (turns_of given ([])) c_45)) ∙ (refl)))))))))))) refl (omega arith)

abbrev d68 : Driver
d68 = record { past = p32; flights = ([]); fails = ([]); contents = ((record { repo = 1; key = t0; bytes = c0 }) ∷ (record { repo = 1; key = t2; bytes = c0 }) ∷ (record { repo = 0; key = t0; bytes = c0 }) ∷ []); parts = ((record { repo = 0; key = t1; bytes = c1 }) ∷ []); largest = 3; tree = ((record { place = 15; path = t3; key = t2 }) ∷ (record { place = 17; path = t4; key = t0 }) ∷ []); marks = (0 ∷ 1 ∷ 1 ∷ 2 ∷ 2 ∷ 3 ∷ 3 ∷ 4 ∷ 4 ∷ 6 ∷ 6 ∷ 6 ∷ 7 ∷ 7 ∷ 8 ∷ 9 ∷ 9 ∷ 10 ∷ 12 ∷ 12 ∷ 13 ∷ 13 ∷ 14 ∷ 15 ∷ 15 ∷ 17 ∷ 17 ∷ 33 ∷ []) }

abbrev e33 : Entry
e33 = record { time = 0; count = 34; repo = (Some 0); kind = (kinds.Begin 1 (record { kind = jobs.Drop; key = t0; path = (Some t4); peer = None })); taken = None; sent = ([]); lines = ([]) }

abbrev p33 : List Entry
p33 = e33 ∷ p32

abbrev d69 : Driver
d69 = record { past = p33; flights = ([]); fails = ([]); contents = ((record { repo = 1; key = t0; bytes = c0 }) ∷ (record { repo = 1; key = t2; bytes = c0 }) ∷ (record { repo = 0; key = t0; bytes = c0 }) ∷ []); parts = ((record { repo = 0; key = t1; bytes = c1 }) ∷ []); largest = 3; tree = ((record { place = 15; path = t3; key = t2 }) ∷ (record { place = 17; path = t4; key = t0 }) ∷ []); marks = (0 ∷ 1 ∷ 1 ∷ 2 ∷ 2 ∷ 3 ∷ 3 ∷ 4 ∷ 4 ∷ 6 ∷ 6 ∷ 6 ∷ 7 ∷ 7 ∷ 8 ∷ 9 ∷ 9 ∷ 10 ∷ 12 ∷ 12 ∷ 13 ∷ 13 ∷ 14 ∷ 15 ∷ 15 ∷ 17 ∷ 17 ∷ 33 ∷ []) }

c_47 : begins 0 (record { kind = jobs.Drop; key = t0; path = (Some t4); peer = None }) d68 ≡ d69
unfolding opened
c_47 = refl

abbrev e34 : Entry
e34 = record { time = 0; count = 35; repo = (Some 0); kind = (kinds.Bar 1 (record { n = 1; m = 1 }) t0); taken = None; sent = ([]); lines = ([]) }

abbrev p34 : List Entry
p34 = e34 ∷ p33

abbrev d70 : Driver
d70 = record { past = p34; flights = ([]); fails = ([]); contents = ((record { repo = 1; key = t0; bytes = c0 }) ∷ (record { repo = 1; key = t2; bytes = c0 }) ∷ (record { repo = 0; key = t0; bytes = c0 }) ∷ []); parts = ((record { repo = 0; key = t1; bytes = c1 }) ∷ []); largest = 3; tree = ((record { place = 15; path = t3; key = t2 }) ∷ (record { place = 17; path = t4; key = t0 }) ∷ []); marks = (0 ∷ 1 ∷ 1 ∷ 2 ∷ 2 ∷ 3 ∷ 3 ∷ 4 ∷ 4 ∷ 6 ∷ 6 ∷ 6 ∷ 7 ∷ 7 ∷ 8 ∷ 9 ∷ 9 ∷ 10 ∷ 12 ∷ 12 ∷ 13 ∷ 13 ∷ 14 ∷ 15 ∷ 15 ∷ 17 ∷ 17 ∷ 33 ∷ []) }

c_48 : turn given 0 d69 ≡ d70
unfolding opened
c_48 = refl

c_49 : turn given 1 d70 ≡ d70
unfolding opened
c_49 = refl

abbrev e35 : Entry
e35 = record { time = 0; count = 36; repo = (Some 0); kind = (kinds.Talk (Some 1)); taken = None; sent = ((record { peer = 1; slot = 0; up = true; epoch = 1; seq = 1; body = Opening }) ∷ []); lines = ([]) }

abbrev p35 : List Entry
p35 = e35 ∷ p34

abbrev d71 : Driver
d71 = record { past = p35; flights = ((record { to = 1; frame = (record { peer = 0; slot = 0; up = true; epoch = 1; seq = 1; body = Opening }); bytes = [] }) ∷ []); fails = ([]); contents = ((record { repo = 1; key = t0; bytes = c0 }) ∷ (record { repo = 1; key = t2; bytes = c0 }) ∷ (record { repo = 0; key = t0; bytes = c0 }) ∷ []); parts = ((record { repo = 0; key = t1; bytes = c1 }) ∷ []); largest = 3; tree = ((record { place = 15; path = t3; key = t2 }) ∷ (record { place = 17; path = t4; key = t0 }) ∷ []); marks = (0 ∷ 1 ∷ 1 ∷ 2 ∷ 2 ∷ 3 ∷ 3 ∷ 4 ∷ 4 ∷ 6 ∷ 6 ∷ 6 ∷ 7 ∷ 7 ∷ 8 ∷ 9 ∷ 9 ∷ 10 ∷ 12 ∷ 12 ∷ 13 ∷ 13 ∷ 14 ∷ 15 ∷ 15 ∷ 17 ∷ 17 ∷ 33 ∷ []) }

c_50 : turn given 0 d70 ≡ d71
unfolding opened
c_50 = refl

abbrev e36 : Entry
e36 = record { time = 0; count = 37; repo = (Some 1); kind = (kinds.Talk None); taken = (Some (record { peer = 0; slot = 0; up = true; epoch = 1; seq = 1; body = Opening })); sent = ((record { peer = 0; slot = 0; up = false; epoch = 1; seq = 1; body = (Line t11) }) ∷ []); lines = ([]) }

abbrev p36 : List Entry
p36 = e36 ∷ p35

abbrev d72 : Driver
d72 = record { past = p36; flights = ((record { to = 0; frame = (record { peer = 1; slot = 0; up = false; epoch = 1; seq = 1; body = (Line t11) }); bytes = [] }) ∷ []); fails = ([]); contents = ((record { repo = 1; key = t0; bytes = c0 }) ∷ (record { repo = 1; key = t2; bytes = c0 }) ∷ (record { repo = 0; key = t0; bytes = c0 }) ∷ []); parts = ((record { repo = 0; key = t1; bytes = c1 }) ∷ []); largest = 3; tree = ((record { place = 15; path = t3; key = t2 }) ∷ (record { place = 17; path = t4; key = t0 }) ∷ []); marks = (0 ∷ 1 ∷ 1 ∷ 2 ∷ 2 ∷ 3 ∷ 3 ∷ 4 ∷ 4 ∷ 6 ∷ 6 ∷ 6 ∷ 7 ∷ 7 ∷ 8 ∷ 9 ∷ 9 ∷ 10 ∷ 12 ∷ 12 ∷ 13 ∷ 13 ∷ 14 ∷ 15 ∷ 15 ∷ 17 ∷ 17 ∷ 33 ∷ []) }

c_51 : turn given 1 d71 ≡ d72
unfolding opened
c_51 = refl

abbrev e37 : Entry
e37 = record { time = 0; count = 38; repo = (Some 0); kind = (kinds.Talk (Some 1)); taken = (Some (record { peer = 1; slot = 0; up = false; epoch = 1; seq = 1; body = (Line t11) })); sent = ((record { peer = 1; slot = 0; up = true; epoch = 1; seq = 2; body = (Line t6) }) ∷ []); lines = ([]) }

abbrev p37 : List Entry
p37 = e37 ∷ p36

abbrev d73 : Driver
d73 = record { past = p37; flights = ((record { to = 1; frame = (record { peer = 0; slot = 0; up = true; epoch = 1; seq = 2; body = (Line t6) }); bytes = [] }) ∷ []); fails = ([]); contents = ((record { repo = 1; key = t0; bytes = c0 }) ∷ (record { repo = 1; key = t2; bytes = c0 }) ∷ (record { repo = 0; key = t0; bytes = c0 }) ∷ []); parts = ((record { repo = 0; key = t1; bytes = c1 }) ∷ []); largest = 3; tree = ((record { place = 15; path = t3; key = t2 }) ∷ (record { place = 17; path = t4; key = t0 }) ∷ []); marks = (0 ∷ 1 ∷ 1 ∷ 2 ∷ 2 ∷ 3 ∷ 3 ∷ 4 ∷ 4 ∷ 6 ∷ 6 ∷ 6 ∷ 7 ∷ 7 ∷ 8 ∷ 9 ∷ 9 ∷ 10 ∷ 12 ∷ 12 ∷ 13 ∷ 13 ∷ 14 ∷ 15 ∷ 15 ∷ 17 ∷ 17 ∷ 33 ∷ []) }

c_52 : turn given 0 d72 ≡ d73
unfolding opened
c_52 = refl

abbrev e38 : Entry
e38 = record { time = 0; count = 39; repo = (Some 1); kind = (kinds.Talk None); taken = (Some (record { peer = 0; slot = 0; up = true; epoch = 1; seq = 2; body = (Line t6) })); sent = ((record { peer = 0; slot = 0; up = false; epoch = 1; seq = 2; body = (Line t6) }) ∷ []); lines = ([]) }

abbrev p38 : List Entry
p38 = e38 ∷ p37

abbrev d74 : Driver
d74 = record { past = p38; flights = ((record { to = 0; frame = (record { peer = 1; slot = 0; up = false; epoch = 1; seq = 2; body = (Line t6) }); bytes = [] }) ∷ []); fails = ([]); contents = ((record { repo = 1; key = t0; bytes = c0 }) ∷ (record { repo = 1; key = t2; bytes = c0 }) ∷ (record { repo = 0; key = t0; bytes = c0 }) ∷ []); parts = ((record { repo = 0; key = t1; bytes = c1 }) ∷ []); largest = 3; tree = ((record { place = 15; path = t3; key = t2 }) ∷ (record { place = 17; path = t4; key = t0 }) ∷ []); marks = (0 ∷ 1 ∷ 1 ∷ 2 ∷ 2 ∷ 3 ∷ 3 ∷ 4 ∷ 4 ∷ 6 ∷ 6 ∷ 6 ∷ 7 ∷ 7 ∷ 8 ∷ 9 ∷ 9 ∷ 10 ∷ 12 ∷ 12 ∷ 13 ∷ 13 ∷ 14 ∷ 15 ∷ 15 ∷ 17 ∷ 17 ∷ 33 ∷ []) }

c_53 : turn given 1 d73 ≡ d74
unfolding opened
c_53 = refl

abbrev e39 : Entry
e39 = record { time = 0; count = 40; repo = (Some 0); kind = (kinds.Talk (Some 1)); taken = (Some (record { peer = 1; slot = 0; up = false; epoch = 1; seq = 2; body = (Line t6) })); sent = ((record { peer = 1; slot = 0; up = true; epoch = 1; seq = 3; body = (Line t12) }) ∷ []); lines = ([]) }

abbrev p39 : List Entry
p39 = e39 ∷ p38

abbrev d75 : Driver
d75 = record { past = p39; flights = ((record { to = 1; frame = (record { peer = 0; slot = 0; up = true; epoch = 1; seq = 3; body = (Line t12) }); bytes = [] }) ∷ []); fails = ([]); contents = ((record { repo = 1; key = t0; bytes = c0 }) ∷ (record { repo = 1; key = t2; bytes = c0 }) ∷ (record { repo = 0; key = t0; bytes = c0 }) ∷ []); parts = ((record { repo = 0; key = t1; bytes = c1 }) ∷ []); largest = 3; tree = ((record { place = 15; path = t3; key = t2 }) ∷ (record { place = 17; path = t4; key = t0 }) ∷ []); marks = (0 ∷ 1 ∷ 1 ∷ 2 ∷ 2 ∷ 3 ∷ 3 ∷ 4 ∷ 4 ∷ 6 ∷ 6 ∷ 6 ∷ 7 ∷ 7 ∷ 8 ∷ 9 ∷ 9 ∷ 10 ∷ 12 ∷ 12 ∷ 13 ∷ 13 ∷ 14 ∷ 15 ∷ 15 ∷ 17 ∷ 17 ∷ 33 ∷ []) }

c_54 : turn given 0 d74 ≡ d75
unfolding opened
c_54 = refl

abbrev e40 : Entry
e40 = record { time = 0; count = 41; repo = (Some 1); kind = (kinds.Share 17 600000 (by.Peer 0 0) t0); taken = (Some (record { peer = 0; slot = 0; up = true; epoch = 1; seq = 3; body = (Line t12) })); sent = ((record { peer = 0; slot = 0; up = false; epoch = 1; seq = 3; body = (Line t10) }) ∷ []); lines = ([]) }

abbrev p40 : List Entry
p40 = e40 ∷ p39

abbrev d76 : Driver
d76 = record { past = p40; flights = ((record { to = 0; frame = (record { peer = 1; slot = 0; up = false; epoch = 1; seq = 3; body = (Line t10) }); bytes = [] }) ∷ []); fails = ([]); contents = ((record { repo = 1; key = t0; bytes = c0 }) ∷ (record { repo = 1; key = t2; bytes = c0 }) ∷ (record { repo = 0; key = t0; bytes = c0 }) ∷ []); parts = ((record { repo = 0; key = t1; bytes = c1 }) ∷ []); largest = 3; tree = ((record { place = 15; path = t3; key = t2 }) ∷ (record { place = 17; path = t4; key = t0 }) ∷ []); marks = (0 ∷ 1 ∷ 1 ∷ 2 ∷ 2 ∷ 3 ∷ 3 ∷ 4 ∷ 4 ∷ 6 ∷ 6 ∷ 6 ∷ 7 ∷ 7 ∷ 8 ∷ 9 ∷ 9 ∷ 10 ∷ 12 ∷ 12 ∷ 13 ∷ 13 ∷ 14 ∷ 15 ∷ 15 ∷ 17 ∷ 17 ∷ 33 ∷ []) }

c_55 : turn given 1 d75 ≡ d76
unfolding opened
c_55 = refl

abbrev e41 : Entry
e41 = record { time = 0; count = 42; repo = (Some 0); kind = (kinds.Talk (Some 1)); taken = (Some (record { peer = 1; slot = 0; up = false; epoch = 1; seq = 3; body = (Line t10) })); sent = ([]); lines = ([]) }

abbrev p41 : List Entry
p41 = e41 ∷ p40

abbrev d77 : Driver
d77 = record { past = p41; flights = ([]); fails = ([]); contents = ((record { repo = 1; key = t0; bytes = c0 }) ∷ (record { repo = 1; key = t2; bytes = c0 }) ∷ (record { repo = 0; key = t0; bytes = c0 }) ∷ []); parts = ((record { repo = 0; key = t1; bytes = c1 }) ∷ []); largest = 3; tree = ((record { place = 15; path = t3; key = t2 }) ∷ (record { place = 17; path = t4; key = t0 }) ∷ []); marks = (0 ∷ 1 ∷ 1 ∷ 2 ∷ 2 ∷ 3 ∷ 3 ∷ 4 ∷ 4 ∷ 6 ∷ 6 ∷ 6 ∷ 7 ∷ 7 ∷ 8 ∷ 9 ∷ 9 ∷ 10 ∷ 12 ∷ 12 ∷ 13 ∷ 13 ∷ 14 ∷ 15 ∷ 15 ∷ 17 ∷ 17 ∷ 33 ∷ []) }

c_56 : turn given 0 d76 ≡ d77
unfolding opened
c_56 = refl

c_57 : turn given 1 d77 ≡ d77
unfolding opened
c_57 = refl

abbrev e42 : Entry
e42 = record { time = 0; count = 43; repo = (Some 0); kind = (kinds.Gone (by.Job 1) t0); taken = None; sent = ([]); lines = ([]) }

abbrev p42 : List Entry
p42 = e42 ∷ p41

abbrev d78 : Driver
d78 = record { past = p42; flights = ([]); fails = ([]); contents = ((record { repo = 1; key = t0; bytes = c0 }) ∷ (record { repo = 1; key = t2; bytes = c0 }) ∷ []); parts = ((record { repo = 0; key = t1; bytes = c1 }) ∷ []); largest = 3; tree = ((record { place = 15; path = t3; key = t2 }) ∷ (record { place = 17; path = t4; key = t0 }) ∷ []); marks = (0 ∷ 1 ∷ 1 ∷ 2 ∷ 2 ∷ 3 ∷ 3 ∷ 4 ∷ 4 ∷ 6 ∷ 6 ∷ 6 ∷ 7 ∷ 7 ∷ 8 ∷ 9 ∷ 9 ∷ 10 ∷ 12 ∷ 12 ∷ 13 ∷ 13 ∷ 14 ∷ 15 ∷ 15 ∷ 17 ∷ 17 ∷ 33 ∷ []) }

c_58 : turn given 0 d77 ≡ d78
unfolding opened
c_58 = refl

c_59 : turn given 1 d78 ≡ d78
unfolding opened
c_59 = refl

abbrev e43 : Entry
e43 = record { time = 0; count = 44; repo = (Some 0); kind = (kinds.Log (Location t0)); taken = None; sent = ([]); lines = (t20 ∷ []) }

abbrev p43 : List Entry
p43 = e43 ∷ p42

abbrev d79 : Driver
d79 = record { past = p43; flights = ([]); fails = ([]); contents = ((record { repo = 1; key = t0; bytes = c0 }) ∷ (record { repo = 1; key = t2; bytes = c0 }) ∷ []); parts = ((record { repo = 0; key = t1; bytes = c1 }) ∷ []); largest = 3; tree = ((record { place = 15; path = t3; key = t2 }) ∷ (record { place = 17; path = t4; key = t0 }) ∷ []); marks = (0 ∷ 1 ∷ 1 ∷ 2 ∷ 2 ∷ 3 ∷ 3 ∷ 4 ∷ 4 ∷ 6 ∷ 6 ∷ 6 ∷ 7 ∷ 7 ∷ 8 ∷ 9 ∷ 9 ∷ 10 ∷ 12 ∷ 12 ∷ 13 ∷ 13 ∷ 14 ∷ 15 ∷ 15 ∷ 17 ∷ 17 ∷ 33 ∷ []) }

c_60 : turn given 0 d78 ≡ d79
unfolding opened
c_60 = refl

c_61 : turn given 1 d79 ≡ d79
unfolding opened
c_61 = refl

abbrev e44 : Entry
e44 = record { time = 0; count = 45; repo = (Some 0); kind = (kinds.End 1 (outcomes.Dropped (record { need = (record { n = 1; m = 1 }); locked = (1 ∷ []); trusted = ([]); recent = ([]) }))); taken = None; sent = ((record { peer = 1; slot = 0; up = true; epoch = 1; seq = 4; body = (Line t13) }) ∷ (record { peer = 1; slot = 0; up = true; epoch = 1; seq = 5; body = Closing }) ∷ []); lines = ([]) }

abbrev p44 : List Entry
p44 = e44 ∷ p43

abbrev d80 : Driver
d80 = record { past = p44; flights = ((record { to = 1; frame = (record { peer = 0; slot = 0; up = true; epoch = 1; seq = 4; body = (Line t13) }); bytes = [] }) ∷ (record { to = 1; frame = (record { peer = 0; slot = 0; up = true; epoch = 1; seq = 5; body = Closing }); bytes = [] }) ∷ []); fails = ([]); contents = ((record { repo = 1; key = t0; bytes = c0 }) ∷ (record { repo = 1; key = t2; bytes = c0 }) ∷ []); parts = ((record { repo = 0; key = t1; bytes = c1 }) ∷ []); largest = 3; tree = ((record { place = 15; path = t3; key = t2 }) ∷ (record { place = 17; path = t4; key = t0 }) ∷ []); marks = (0 ∷ 1 ∷ 1 ∷ 2 ∷ 2 ∷ 3 ∷ 3 ∷ 4 ∷ 4 ∷ 6 ∷ 6 ∷ 6 ∷ 7 ∷ 7 ∷ 8 ∷ 9 ∷ 9 ∷ 10 ∷ 12 ∷ 12 ∷ 13 ∷ 13 ∷ 14 ∷ 15 ∷ 15 ∷ 17 ∷ 17 ∷ 33 ∷ []) }

c_62 : turn given 0 d79 ≡ d80
unfolding opened
c_62 = refl

abbrev e45 : Entry
e45 = record { time = 0; count = 46; repo = (Some 1); kind = (kinds.Release 17 t0); taken = (Some (record { peer = 0; slot = 0; up = true; epoch = 1; seq = 4; body = (Line t13) })); sent = ([]); lines = ([]) }

abbrev p45 : List Entry
p45 = e45 ∷ p44

abbrev d81 : Driver
d81 = record { past = p45; flights = ((record { to = 1; frame = (record { peer = 0; slot = 0; up = true; epoch = 1; seq = 5; body = Closing }); bytes = [] }) ∷ []); fails = ([]); contents = ((record { repo = 1; key = t0; bytes = c0 }) ∷ (record { repo = 1; key = t2; bytes = c0 }) ∷ []); parts = ((record { repo = 0; key = t1; bytes = c1 }) ∷ []); largest = 3; tree = ((record { place = 15; path = t3; key = t2 }) ∷ (record { place = 17; path = t4; key = t0 }) ∷ []); marks = (0 ∷ 1 ∷ 1 ∷ 2 ∷ 2 ∷ 3 ∷ 3 ∷ 4 ∷ 4 ∷ 6 ∷ 6 ∷ 6 ∷ 7 ∷ 7 ∷ 8 ∷ 9 ∷ 9 ∷ 10 ∷ 12 ∷ 12 ∷ 13 ∷ 13 ∷ 14 ∷ 15 ∷ 15 ∷ 17 ∷ 17 ∷ 33 ∷ []) }

c_63 : turn given 1 d80 ≡ d81
unfolding opened
c_63 = refl

c_64 : turn given 0 d81 ≡ d81
unfolding opened
c_64 = refl

abbrev e46 : Entry
e46 = record { time = 0; count = 47; repo = (Some 1); kind = (kinds.Close 0 0 false); taken = (Some (record { peer = 0; slot = 0; up = true; epoch = 1; seq = 5; body = Closing })); sent = ([]); lines = ([]) }

abbrev p46 : List Entry
p46 = e46 ∷ p45

abbrev d82 : Driver
d82 = record { past = p46; flights = ([]); fails = ([]); contents = ((record { repo = 1; key = t0; bytes = c0 }) ∷ (record { repo = 1; key = t2; bytes = c0 }) ∷ []); parts = ((record { repo = 0; key = t1; bytes = c1 }) ∷ []); largest = 3; tree = ((record { place = 15; path = t3; key = t2 }) ∷ (record { place = 17; path = t4; key = t0 }) ∷ []); marks = (0 ∷ 1 ∷ 1 ∷ 2 ∷ 2 ∷ 3 ∷ 3 ∷ 4 ∷ 4 ∷ 6 ∷ 6 ∷ 6 ∷ 7 ∷ 7 ∷ 8 ∷ 9 ∷ 9 ∷ 10 ∷ 12 ∷ 12 ∷ 13 ∷ 13 ∷ 14 ∷ 15 ∷ 15 ∷ 17 ∷ 17 ∷ 33 ∷ []) }

c_65 : turn given 1 d81 ≡ d82
unfolding opened
c_65 = refl

c_66 : turn given 0 d82 ≡ d82
unfolding opened
c_66 = refl

c_67 : turn given 1 d82 ≡ d82
unfolding opened
c_67 = refl

line28 : does given l28 d68 ≡ d82
line28 = ap (settles given) c_47 ∙ settles_by given 11 d69 (record { driver = d82; idle = 2 }) (ap (goes given 10) (came given 0 d69 d70 refl (ap (turns_of given (1 ∷ [])) c_48 ∙ ap (turns_of given ([])) c_49)) ∙ (ap (goes given 9) (came given 0 d70 d72 refl (ap (turns_of given (1 ∷ [])) c_50 ∙ ap (turns_of given ([])) c_51)) ∙ (ap (goes given 8) (came given 0 d72 d74 refl (ap (turns_of given (1 ∷ [])) c_52 ∙ ap (turns_of given ([])) c_53)) ∙ (ap (goes given 7) (came given 0 d74 d76 refl (ap (turns_of given (1 ∷ [])) c_54 ∙ ap (turns_of given ([])) c_55)) ∙ (ap (goes given 6) (came given 0 d76 d77 refl (ap (turns_of given (1 ∷ [])) c_56 ∙ ap (turns_of given ([])) c_57)) ∙ (ap (goes given 5) (came given 0 d77 d78 refl (ap (turns_of given (1 ∷ [])) c_58 ∙ ap (turns_of given ([])) c_59)) ∙ (ap (goes given 4) (came given 0 d78 d79 refl (ap (turns_of given (1 ∷ [])) c_60 ∙ ap (turns_of given ([])) c_61)) ∙ (ap (goes given 3) (came given 0 d79 d81 refl (ap (turns_of given (1 ∷ [])) c_62 ∙ ap (turns_of given ([])) c_63)) ∙ (ap (goes given 2) (came given 0 d81 d82 refl (ap (turns_of given (1 ∷ [])) c_64 ∙ ap (turns_of given ([])) c_65)) ∙ (ap (goes given 1) (came given 0 d82 d82 refl (ap (turns_of given (1 ∷ [])) c_66 ∙ ap (turns_of given ([])) c_67)) ∙ (ap (goes given 0) (came given 1 d82 d82 refl (ap (turns_of given (1 ∷ [])) c_66 ∙ ap (turns_of given ([])) c_67)) ∙ (refl)))))))))))) refl (omega arith)

abbrev d83 : Driver
d83 = record { past = p46; flights = ([]); fails = ([]); contents = ((record { repo = 1; key = t0; bytes = c0 }) ∷ (record { repo = 1; key = t2; bytes = c0 }) ∷ []); parts = ((record { repo = 0; key = t1; bytes = c1 }) ∷ []); largest = 3; tree = ((record { place = 15; path = t3; key = t2 }) ∷ (record { place = 17; path = t4; key = t0 }) ∷ []); marks = (0 ∷ 1 ∷ 1 ∷ 2 ∷ 2 ∷ 3 ∷ 3 ∷ 4 ∷ 4 ∷ 6 ∷ 6 ∷ 6 ∷ 7 ∷ 7 ∷ 8 ∷ 9 ∷ 9 ∷ 10 ∷ 12 ∷ 12 ∷ 13 ∷ 13 ∷ 14 ∷ 15 ∷ 15 ∷ 17 ∷ 17 ∷ 33 ∷ 47 ∷ []) }

abbrev made : Run
made = record { repos = repos; entries = (e0 ∷ e1 ∷ e2 ∷ e3 ∷ e4 ∷ e5 ∷ e6 ∷ e7 ∷ e8 ∷ e9 ∷ e10 ∷ e11 ∷ e12 ∷ e13 ∷ e14 ∷ e15 ∷ e16 ∷ e17 ∷ e18 ∷ e19 ∷ e20 ∷ e21 ∷ e22 ∷ e23 ∷ e24 ∷ e25 ∷ e26 ∷ e27 ∷ e28 ∷ e29 ∷ e30 ∷ e31 ∷ e32 ∷ e33 ∷ e34 ∷ e35 ∷ e36 ∷ e37 ∷ e38 ∷ e39 ∷ e40 ∷ e41 ∷ e42 ∷ e43 ∷ e44 ∷ e45 ∷ e46 ∷ []); tree = ((record { place = 15; path = t3; key = t2 }) ∷ (record { place = 17; path = t4; key = t0 }) ∷ []); marks = (0 ∷ 1 ∷ 1 ∷ 2 ∷ 2 ∷ 3 ∷ 3 ∷ 4 ∷ 4 ∷ 6 ∷ 6 ∷ 6 ∷ 7 ∷ 7 ∷ 8 ∷ 9 ∷ 9 ∷ 10 ∷ 12 ∷ 12 ∷ 13 ∷ 13 ∷ 14 ∷ 15 ∷ 15 ∷ 17 ∷ 17 ∷ 33 ∷ 47 ∷ []) }

all : drives given (l0 ∷ l1 ∷ l2 ∷ l3 ∷ l4 ∷ l5 ∷ l6 ∷ l7 ∷ l8 ∷ l9 ∷ l10 ∷ l11 ∷ l12 ∷ l13 ∷ l14 ∷ l15 ∷ l16 ∷ l17 ∷ l18 ∷ l19 ∷ l20 ∷ l21 ∷ l22 ∷ l23 ∷ l24 ∷ l25 ∷ l26 ∷ l27 ∷ l28 ∷ []) at_first ≡ d83
all = ap (λ d. drives given (l1 ∷ l2 ∷ l3 ∷ l4 ∷ l5 ∷ l6 ∷ l7 ∷ l8 ∷ l9 ∷ l10 ∷ l11 ∷ l12 ∷ l13 ∷ l14 ∷ l15 ∷ l16 ∷ l17 ∷ l18 ∷ l19 ∷ l20 ∷ l21 ∷ l22 ∷ l23 ∷ l24 ∷ l25 ∷ l26 ∷ l27 ∷ l28 ∷ []) (with_mark d)) line0 ∙ ap (λ d. drives given (l2 ∷ l3 ∷ l4 ∷ l5 ∷ l6 ∷ l7 ∷ l8 ∷ l9 ∷ l10 ∷ l11 ∷ l12 ∷ l13 ∷ l14 ∷ l15 ∷ l16 ∷ l17 ∷ l18 ∷ l19 ∷ l20 ∷ l21 ∷ l22 ∷ l23 ∷ l24 ∷ l25 ∷ l26 ∷ l27 ∷ l28 ∷ []) (with_mark d)) line1 ∙ ap (λ d. drives given (l3 ∷ l4 ∷ l5 ∷ l6 ∷ l7 ∷ l8 ∷ l9 ∷ l10 ∷ l11 ∷ l12 ∷ l13 ∷ l14 ∷ l15 ∷ l16 ∷ l17 ∷ l18 ∷ l19 ∷ l20 ∷ l21 ∷ l22 ∷ l23 ∷ l24 ∷ l25 ∷ l26 ∷ l27 ∷ l28 ∷ []) (with_mark d)) line2 ∙ ap (λ d. drives given (l4 ∷ l5 ∷ l6 ∷ l7 ∷ l8 ∷ l9 ∷ l10 ∷ l11 ∷ l12 ∷ l13 ∷ l14 ∷ l15 ∷ l16 ∷ l17 ∷ l18 ∷ l19 ∷ l20 ∷ l21 ∷ l22 ∷ l23 ∷ l24 ∷ l25 ∷ l26 ∷ l27 ∷ l28 ∷ []) (with_mark d)) line3 ∙ ap (λ d. drives given (l5 ∷ l6 ∷ l7 ∷ l8 ∷ l9 ∷ l10 ∷ l11 ∷ l12 ∷ l13 ∷ l14 ∷ l15 ∷ l16 ∷ l17 ∷ l18 ∷ l19 ∷ l20 ∷ l21 ∷ l22 ∷ l23 ∷ l24 ∷ l25 ∷ l26 ∷ l27 ∷ l28 ∷ []) (with_mark d)) line4 ∙ ap (λ d. drives given (l6 ∷ l7 ∷ l8 ∷ l9 ∷ l10 ∷ l11 ∷ l12 ∷ l13 ∷ l14 ∷ l15 ∷ l16 ∷ l17 ∷ l18 ∷ l19 ∷ l20 ∷ l21 ∷ l22 ∷ l23 ∷ l24 ∷ l25 ∷ l26 ∷ l27 ∷ l28 ∷ []) (with_mark d)) line5 ∙ ap (λ d. drives given (l7 ∷ l8 ∷ l9 ∷ l10 ∷ l11 ∷ l12 ∷ l13 ∷ l14 ∷ l15 ∷ l16 ∷ l17 ∷ l18 ∷ l19 ∷ l20 ∷ l21 ∷ l22 ∷ l23 ∷ l24 ∷ l25 ∷ l26 ∷ l27 ∷ l28 ∷ []) (with_mark d)) line6 ∙ ap (λ d. drives given (l8 ∷ l9 ∷ l10 ∷ l11 ∷ l12 ∷ l13 ∷ l14 ∷ l15 ∷ l16 ∷ l17 ∷ l18 ∷ l19 ∷ l20 ∷ l21 ∷ l22 ∷ l23 ∷ l24 ∷ l25 ∷ l26 ∷ l27 ∷ l28 ∷ []) (with_mark d)) line7 ∙ ap (λ d. drives given (l9 ∷ l10 ∷ l11 ∷ l12 ∷ l13 ∷ l14 ∷ l15 ∷ l16 ∷ l17 ∷ l18 ∷ l19 ∷ l20 ∷ l21 ∷ l22 ∷ l23 ∷ l24 ∷ l25 ∷ l26 ∷ l27 ∷ l28 ∷ []) (with_mark d)) line8 ∙ ap (λ d. drives given (l10 ∷ l11 ∷ l12 ∷ l13 ∷ l14 ∷ l15 ∷ l16 ∷ l17 ∷ l18 ∷ l19 ∷ l20 ∷ l21 ∷ l22 ∷ l23 ∷ l24 ∷ l25 ∷ l26 ∷ l27 ∷ l28 ∷ []) (with_mark d)) line9 ∙ ap (λ d. drives given (l11 ∷ l12 ∷ l13 ∷ l14 ∷ l15 ∷ l16 ∷ l17 ∷ l18 ∷ l19 ∷ l20 ∷ l21 ∷ l22 ∷ l23 ∷ l24 ∷ l25 ∷ l26 ∷ l27 ∷ l28 ∷ []) (with_mark d)) line10 ∙ ap (λ d. drives given (l12 ∷ l13 ∷ l14 ∷ l15 ∷ l16 ∷ l17 ∷ l18 ∷ l19 ∷ l20 ∷ l21 ∷ l22 ∷ l23 ∷ l24 ∷ l25 ∷ l26 ∷ l27 ∷ l28 ∷ []) (with_mark d)) line11 ∙ ap (λ d. drives given (l13 ∷ l14 ∷ l15 ∷ l16 ∷ l17 ∷ l18 ∷ l19 ∷ l20 ∷ l21 ∷ l22 ∷ l23 ∷ l24 ∷ l25 ∷ l26 ∷ l27 ∷ l28 ∷ []) (with_mark d)) line12 ∙ ap (λ d. drives given (l14 ∷ l15 ∷ l16 ∷ l17 ∷ l18 ∷ l19 ∷ l20 ∷ l21 ∷ l22 ∷ l23 ∷ l24 ∷ l25 ∷ l26 ∷ l27 ∷ l28 ∷ []) (with_mark d)) line13 ∙ ap (λ d. drives given (l15 ∷ l16 ∷ l17 ∷ l18 ∷ l19 ∷ l20 ∷ l21 ∷ l22 ∷ l23 ∷ l24 ∷ l25 ∷ l26 ∷ l27 ∷ l28 ∷ []) (with_mark d)) line14 ∙ ap (λ d. drives given (l16 ∷ l17 ∷ l18 ∷ l19 ∷ l20 ∷ l21 ∷ l22 ∷ l23 ∷ l24 ∷ l25 ∷ l26 ∷ l27 ∷ l28 ∷ []) (with_mark d)) line15 ∙ ap (λ d. drives given (l17 ∷ l18 ∷ l19 ∷ l20 ∷ l21 ∷ l22 ∷ l23 ∷ l24 ∷ l25 ∷ l26 ∷ l27 ∷ l28 ∷ []) (with_mark d)) line16 ∙ ap (λ d. drives given (l18 ∷ l19 ∷ l20 ∷ l21 ∷ l22 ∷ l23 ∷ l24 ∷ l25 ∷ l26 ∷ l27 ∷ l28 ∷ []) (with_mark d)) line17 ∙ ap (λ d. drives given (l19 ∷ l20 ∷ l21 ∷ l22 ∷ l23 ∷ l24 ∷ l25 ∷ l26 ∷ l27 ∷ l28 ∷ []) (with_mark d)) line18 ∙ ap (λ d. drives given (l20 ∷ l21 ∷ l22 ∷ l23 ∷ l24 ∷ l25 ∷ l26 ∷ l27 ∷ l28 ∷ []) (with_mark d)) line19 ∙ ap (λ d. drives given (l21 ∷ l22 ∷ l23 ∷ l24 ∷ l25 ∷ l26 ∷ l27 ∷ l28 ∷ []) (with_mark d)) line20 ∙ ap (λ d. drives given (l22 ∷ l23 ∷ l24 ∷ l25 ∷ l26 ∷ l27 ∷ l28 ∷ []) (with_mark d)) line21 ∙ ap (λ d. drives given (l23 ∷ l24 ∷ l25 ∷ l26 ∷ l27 ∷ l28 ∷ []) (with_mark d)) line22 ∙ ap (λ d. drives given (l24 ∷ l25 ∷ l26 ∷ l27 ∷ l28 ∷ []) (with_mark d)) line23 ∙ ap (λ d. drives given (l25 ∷ l26 ∷ l27 ∷ l28 ∷ []) (with_mark d)) line24 ∙ ap (λ d. drives given (l26 ∷ l27 ∷ l28 ∷ []) (with_mark d)) line25 ∙ ap (λ d. drives given (l27 ∷ l28 ∷ []) (with_mark d)) line26 ∙ ap (λ d. drives given (l28 ∷ []) (with_mark d)) line27 ∙ ap (λ d. drives given ([]) (with_mark d)) line28

claim : run_of given (l0 ∷ l1 ∷ l2 ∷ l3 ∷ l4 ∷ l5 ∷ l6 ∷ l7 ∷ l8 ∷ l9 ∷ l10 ∷ l11 ∷ l12 ∷ l13 ∷ l14 ∷ l15 ∷ l16 ∷ l17 ∷ l18 ∷ l19 ∷ l20 ∷ l21 ∷ l22 ∷ l23 ∷ l24 ∷ l25 ∷ l26 ∷ l27 ∷ l28 ∷ []) ≡ made
claim = ap (run_with given) all
