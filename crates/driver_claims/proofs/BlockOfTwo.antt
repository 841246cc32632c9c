-- The run of a block of two jobs: the driver makes it, turn by turn, as an executable model does.
use Rattle.std.proofs.Common.{ap, ◌∙◌, arith}
use Rattle.std.specs.Prelude.{◌≡◌, refl, ℕ, true, false, List, [], ◌∷◌, Some, None, codes}
use Rattle.run_data.specs.declared.entry.Entry.{Entry}
use Rattle.run_data.specs.declared.entry.EntryKind.TheVariants as kinds
use Rattle.run_data.specs.declared.job.JobKind.TheVariants as jobs
use Rattle.run_data.specs.declared.job.Outcome.TheVariants as outcomes
use Rattle.run_data.specs.declared.job.DropRefusal.TheVariants as drops
use Rattle.run_data.specs.declared.run.RepoView.{RepoView}
use Rattle.run_data.specs.declared.run.Run.{Run}
use Rattle.script_commands.specs.declared.command.BlockLine.TheVariants.{Runs}
use Rattle.script_commands.specs.declared.command.Command.{Command}
use Rattle.script_commands.specs.declared.command.Command.TheVariants.{Par}
use Rattle.driver_model.specs.Driver.{Driver, DriverInput, at_first}
use Rattle.driver_model.specs.ScriptSteps.{begins}
use Rattle.driver_model.specs.Turning.{turn}
use Rattle.driver_model.specs.Rounds.{Block, InBlock, takes_each, turns_of}
use Rattle.driver_model.specs.Driving.{does, drives, with_mark, run_of, run_with}
use Rattle.driver_claims.proofs.Settling.{block_came, block_goes, blocks_by, came, goes, settles_by}
use Rattle.driver_claims.specs.Opened.{opened, matches_in}

abbrev t0 : List ℕ
t0 = (codes "WORM-s3--k1")

abbrev t1 : List ℕ
t1 = (codes "WORM-s3--k2")

abbrev repos : List RepoView
repos = ((record { name = (codes "a"); id = (17 ∷ 17 ∷ 17 ∷ 17 ∷ 17 ∷ 17 ∷ 65 ∷ 17 ∷ 129 ∷ 17 ∷ 17 ∷ 17 ∷ 17 ∷ 17 ∷ 17 ∷ 0 ∷ []); offset = 0; version = 3; locks = true }) ∷ [])

abbrev given : DriverInput
given = record { repos = repos; matches = matches_in [] }

abbrev l0 : Command
l0 = Par ((record { repo = 0; line = Runs (record { kind = jobs.Drop; key = t0; path = None; peer = None }) }) ∷ (record { repo = 0; line = Runs (record { kind = jobs.Drop; key = t1; path = None; peer = None }) }) ∷ [])

abbrev l1 : Command
l1 = Par ([])

abbrev d0 : Driver
d0 = record { past = []; flights = ([]); fails = ([]); contents = ([]); parts = ([]); largest = 0; tree = ([]); marks = ([]) }

abbrev b1 : InBlock
b1 = record { driver = d0; left = ((record { repo = 0; lines = ((Runs (record { kind = jobs.Drop; key = t0; path = None; peer = None })) ∷ (Runs (record { kind = jobs.Drop; key = t1; path = None; peer = None })) ∷ []); jobs = ([]) }) ∷ []); idle = 0; took = true }

abbrev e0 : Entry
e0 = record { time = 0; count = 1; repo = (Some 0); kind = (kinds.Begin 1 (record { kind = jobs.Drop; key = t0; path = None; peer = None })); taken = None; sent = ([]); lines = ([]) }

abbrev p0 : List Entry
p0 = e0 ∷ []

abbrev d1 : Driver
d1 = record { past = p0; flights = ([]); fails = ([]); contents = ([]); parts = ([]); largest = 0; tree = ([]); marks = ([]) }

c_0 : begins 0 (record { kind = jobs.Drop; key = t0; path = None; peer = None }) d0 ≡ d1
unfolding opened
c_0 = refl

abbrev b2 : Block
b2 = record { driver = d1; left = ((record { repo = 0; lines = ((Runs (record { kind = jobs.Drop; key = t1; path = None; peer = None })) ∷ []); jobs = (1 ∷ []) }) ∷ []) }

c_1 : takes_each given ((record { repo = 0; lines = ((Runs (record { kind = jobs.Drop; key = t0; path = None; peer = None })) ∷ (Runs (record { kind = jobs.Drop; key = t1; path = None; peer = None })) ∷ []); jobs = ([]) }) ∷ []) d0 ≡ b2
unfolding opened
c_1 = refl

abbrev e1 : Entry
e1 = record { time = 0; count = 2; repo = (Some 0); kind = (kinds.End 1 (outcomes.Refused drops.NotPresent)); taken = None; sent = ([]); lines = ([]) }

abbrev p1 : List Entry
p1 = e1 ∷ p0

abbrev d2 : Driver
d2 = record { past = p1; flights = ([]); fails = ([]); contents = ([]); parts = ([]); largest = 0; tree = ([]); marks = ([]) }

c_2 : turn given 0 d1 ≡ d2
unfolding opened
c_2 = refl

abbrev b3 : InBlock
b3 = record { driver = d2; left = ((record { repo = 0; lines = ((Runs (record { kind = jobs.Drop; key = t1; path = None; peer = None })) ∷ []); jobs = (1 ∷ []) }) ∷ []); idle = 0; took = true }

abbrev e2 : Entry
e2 = record { time = 0; count = 3; repo = (Some 0); kind = (kinds.Begin 2 (record { kind = jobs.Drop; key = t1; path = None; peer = None })); taken = None; sent = ([]); lines = ([]) }

abbrev p2 : List Entry
p2 = e2 ∷ p1

abbrev d3 : Driver
d3 = record { past = p2; flights = ([]); fails = ([]); contents = ([]); parts = ([]); largest = 0; tree = ([]); marks = ([]) }

c_3 : begins 0 (record { kind = jobs.Drop; key = t1; path = None; peer = None }) d2 ≡ d3
unfolding opened
c_3 = refl

abbrev b4 : Block
b4 = record { driver = d3; left = ((record { repo = 0; lines = ([]); jobs = (2 ∷ 1 ∷ []) }) ∷ []) }

c_4 : takes_each given ((record { repo = 0; lines = ((Runs (record { kind = jobs.Drop; key = t1; path = None; peer = None })) ∷ []); jobs = (1 ∷ []) }) ∷ []) d2 ≡ b4
unfolding opened
c_4 = refl

abbrev e3 : Entry
e3 = record { time = 0; count = 4; repo = (Some 0); kind = (kinds.End 2 (outcomes.Refused drops.NotPresent)); taken = None; sent = ([]); lines = ([]) }

abbrev p3 : List Entry
p3 = e3 ∷ p2

abbrev d4 : Driver
d4 = record { past = p3; flights = ([]); fails = ([]); contents = ([]); parts = ([]); largest = 0; tree = ([]); marks = ([]) }

c_5 : turn given 0 d3 ≡ d4
unfolding opened
c_5 = refl

abbrev b5 : InBlock
b5 = record { driver = d4; left = ((record { repo = 0; lines = ([]); jobs = (2 ∷ 1 ∷ []) }) ∷ []); idle = 0; took = true }

abbrev b6 : Block
b6 = record { driver = d4; left = ((record { repo = 0; lines = ([]); jobs = (2 ∷ 1 ∷ []) }) ∷ []) }

c_6 : takes_each given ((record { repo = 0; lines = ([]); jobs = (2 ∷ 1 ∷ []) }) ∷ []) d4 ≡ b6
unfolding opened
c_6 = refl

c_7 : turn given 0 d4 ≡ d4
unfolding opened
c_7 = refl

abbrev b7 : InBlock
b7 = record { driver = d4; left = ((record { repo = 0; lines = ([]); jobs = (2 ∷ 1 ∷ []) }) ∷ []); idle = 1; took = false }

abbrev b8 : Block
b8 = record { driver = d4; left = ((record { repo = 0; lines = ([]); jobs = (2 ∷ 1 ∷ []) }) ∷ []) }

c_8 : takes_each given ((record { repo = 0; lines = ([]); jobs = (2 ∷ 1 ∷ []) }) ∷ []) d4 ≡ b8
unfolding opened
c_8 = refl

abbrev b9 : InBlock
b9 = record { driver = d4; left = ((record { repo = 0; lines = ([]); jobs = (2 ∷ 1 ∷ []) }) ∷ []); idle = 2; took = false }

line0 : does given l0 d0 ≡ d4
line0 = blocks_by given ((record { repo = 0; line = Runs (record { kind = jobs.Drop; key = t0; path = None; peer = None }) }) ∷ (record { repo = 0; line = Runs (record { kind = jobs.Drop; key = t1; path = None; peer = None }) }) ∷ []) d0 4 b9 d4 (ap (block_goes given 3) (block_came given b1 b2 d2 refl refl c_1 (ap (turns_of given ([])) c_2)) ∙ (ap (block_goes given 2) (block_came given b3 b4 d4 refl refl c_4 (ap (turns_of given ([])) c_5)) ∙ (ap (block_goes given 1) (block_came given b5 b6 d4 refl refl c_6 (ap (turns_of given ([])) c_7)) ∙ (ap (block_goes given 0) (block_came given b7 b8 d4 refl refl c_8 (ap (turns_of given ([])) c_7)) ∙ (refl))))) refl refl (omega arith) (settles_by given 2 d4 (record { driver = d4; idle = 2 }) (ap (goes given 1) (came given 0 d4 d4 refl (ap (turns_of given ([])) c_7)) ∙ (ap (goes given 0) (came given 1 d4 d4 refl (ap (turns_of given ([])) c_7)) ∙ (refl))) refl (omega arith))

abbrev d5 : Driver
d5 = record { past = p3; flights = ([]); fails = ([]); contents = ([]); parts = ([]); largest = 0; tree = ([]); marks = (4 ∷ []) }

abbrev b10 : InBlock
b10 = record { driver = d5; left = ((record { repo = 0; lines = ([]); jobs = ([]) }) ∷ []); idle = 0; took = true }

abbrev b11 : Block
b11 = record { driver = d5; left = ((record { repo = 0; lines = ([]); jobs = ([]) }) ∷ []) }

c_9 : takes_each given ((record { repo = 0; lines = ([]); jobs = ([]) }) ∷ []) d5 ≡ b11
unfolding opened
c_9 = refl

c_10 : turn given 0 d5 ≡ d5
unfolding opened
c_10 = refl

abbrev b12 : InBlock
b12 = record { driver = d5; left = ((record { repo = 0; lines = ([]); jobs = ([]) }) ∷ []); idle = 1; took = false }

abbrev b13 : Block
b13 = record { driver = d5; left = ((record { repo = 0; lines = ([]); jobs = ([]) }) ∷ []) }

c_11 : takes_each given ((record { repo = 0; lines = ([]); jobs = ([]) }) ∷ []) d5 ≡ b13
unfolding opened
c_11 = refl

abbrev b14 : InBlock
b14 = record { driver = d5; left = ((record { repo = 0; lines = ([]); jobs = ([]) }) ∷ []); idle = 2; took = false }

line1 : does given l1 d5 ≡ d5
line1 = blocks_by given ([]) d5 2 b14 d5 (ap (block_goes given 1) (block_came given b10 b11 d5 refl refl c_9 (ap (turns_of given ([])) c_10)) ∙ (ap (block_goes given 0) (block_came given b12 b13 d5 refl refl c_11 (ap (turns_of given ([])) c_10)) ∙ (refl))) refl refl (omega arith) (settles_by given 2 d5 (record { driver = d5; idle = 2 }) (ap (goes given 1) (came given 0 d5 d5 refl (ap (turns_of given ([])) c_10)) ∙ (ap (goes given 0) (came given 1 d5 d5 refl (ap (turns_of given ([])) c_10)) ∙ (refl))) refl (omega arith))

abbrev d6 : Driver
d6 = record { past = p3; flights = ([]); fails = ([]); contents = ([]); parts = ([]); largest = 0; tree = ([]); marks = (4 ∷ 4 ∷ []) }

abbrev made : Run
made = record { repos = repos; entries = (e0 ∷ e1 ∷ e2 ∷ e3 ∷ []); tree = ([]); marks = (4 ∷ 4 ∷ []) }

all : drives given (l0 ∷ l1 ∷ []) at_first ≡ d6
all = ap (λ d. drives given (l1 ∷ []) (with_mark d)) line0 ∙ ap (λ d. drives given ([]) (with_mark d)) line1

claim : run_of given (l0 ∷ l1 ∷ []) ≡ made
claim = ap (run_with given) all
