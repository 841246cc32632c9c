-- Rounds of turns, until all are idle, and blocks (own).
use Rattle.std.specs.Prelude.{ℕ, zero, suc, ◌+◌, Bool, true, false, not, ◌&&◌, if◌then◌else◌, ◌==◌, nat_le, nat_lt, List, [], ◌∷◌, filter, flat_map, length, map}
use Rattle.std.specs.List.{list_any, range_with_len}
use Rattle.run_data.specs.declared.entry.Entry.{Entry}
use Rattle.run_model.specs.Past.{begun_count}
use Rattle.run_model.specs.States.{works}
use Rattle.script_commands.specs.declared.command.Agendum.{Agendum}
use Rattle.script_commands.specs.declared.command.BlockLine.{BlockLine}
use Rattle.script_commands.specs.declared.command.BlockLine.TheVariants.{Runs, Crashes, Closes, Fails}
use Rattle.driver_model.specs.Driver.{Driver, DriverInput}
use Rattle.driver_model.specs.ScriptSteps.{begins, closes, crashes, lacks_places, will_fail}
use Rattle.driver_model.specs.Turning.{turn}

abbrev pub numbers : DriverInput → List ℕ
numbers g = range_with_len 0 (length g.repos)

abbrev pub turns_of : DriverInput → List ℕ → Driver → Driver
turns_of g [] d = d
turns_of g (r ∷ rs) d = turns_of g rs (turn g r d)

-- one turn of each repository, in order of number
abbrev pub round : DriverInput → Driver → Driver
round g d = turns_of g (numbers g) d

-- no entry came between: all turns were idle
abbrev pub is_idle : Driver → Driver → Bool
is_idle before after = length before.past == length after.past

-- the driver, and how many rounds after each other were idle
pub record AfterRounds : Type 0 where
  pub driver : Driver
  pub idle : ℕ

abbrev pub is_settled : AfterRounds → Bool
is_settled x = nat_le 2 x.idle

abbrev pub idle_after : Driver → Driver → ℕ → ℕ
idle_after before after idle = if is_idle before after then idle + 1 else 0

abbrev pub after_round : AfterRounds → Driver → AfterRounds
after_round x d = record { driver = d; idle = idle_after x.driver d x.idle }

abbrev pub goes_round : DriverInput → AfterRounds → AfterRounds
goes_round g x = if is_settled x then x else after_round x (round g x.driver)

-- rounds until two after each other are idle, at most two to this power
abbrev pub rounds : DriverInput → ℕ → AfterRounds → AfterRounds
rounds g zero x = goes_round g x
rounds g (suc n) x = if is_settled x then x else rounds g n (rounds g n x)

-- Of each two rounds after each other, but for the last two, one adds an entry, and no repository of at most sixteen makes more than
-- 100,000 entries. So two to this power, which is more than 4,000,000, is never met (law `settlings_come_to_rest`).
abbrev pub most_rounds : ℕ
most_rounds = 22

abbrev pub settles : DriverInput → Driver → Driver
settles g d = (rounds g most_rounds (record { driver = d; idle = 0 })).driver

-- ---- blocks

-- what a repository is still to do of a block, and the numbers of the jobs that it began in it
pub record Agenda : Type 0 where
  pub repo : ℕ
  pub lines : List BlockLine
  pub jobs : List ℕ

abbrev pub lines_for : ℕ → List Agendum → List BlockLine
lines_for r xs = map (λ x. x.line) (filter (λ x. x.repo == r) xs)

abbrev pub agenda : List Agendum → ℕ → Agenda
agenda xs r = record { repo = r; lines = lines_for r xs; jobs = [] }

-- one of these jobs runs
abbrev pub some_runs : Driver → ℕ → List ℕ → Bool
some_runs d r jobs = list_any (λ w. list_any (λ j. w.number == j) jobs) (works d.past r)

-- the jobs of all earlier lines have ended, and a slot is free
abbrev pub may_begin : Driver → ℕ → List ℕ → Bool
may_begin d r jobs = not (some_runs d r jobs) && nat_lt (length (works d.past r)) 4

-- the driver, and what is left of an agenda
pub record WithAgenda : Type 0 where
  pub driver : Driver
  pub left : Agenda

-- a repository takes from its agenda all that it can; a close that lacks places stays on it
abbrev pub takes_all : DriverInput → ℕ → List BlockLine → List ℕ → Driver → WithAgenda
takes_all g r [] jobs d = record { driver = d; left = record { repo = r; lines = []; jobs = jobs } }
takes_all g r (Runs job ∷ lines) jobs d =
    if may_begin d r jobs then takes_all g r lines ((begun_count d.past r + 1) ∷ jobs) (begins r job d)
    else record { driver = d; left = record { repo = r; lines = Runs job ∷ lines; jobs = jobs } }
takes_all g r (Crashes clock ∷ lines) jobs d = takes_all g r lines jobs (crashes g r clock d)
takes_all g r (Closes other ∷ lines) jobs d =
    if lacks_places d.past r other then record { driver = d; left = record { repo = r; lines = Closes other ∷ lines; jobs = jobs } }
    else takes_all g r lines jobs (closes g r other d)
takes_all g r (Fails call ∷ lines) jobs d = takes_all g r lines jobs (will_fail r call d)

abbrev pub takes : DriverInput → Agenda → Driver → WithAgenda
takes g a d = takes_all g a.repo a.lines a.jobs d

-- the driver, and what is left of all agendas
pub record Block : Type 0 where
  pub driver : Driver
  pub left : List Agenda

abbrev pub and_left : Agenda → Block → Block
and_left a b = record b { left = a ∷ b.left }

-- the next line of an agenda is a close that lacks places
abbrev pub lacks_next : List Entry → ℕ → List BlockLine → Bool
lacks_next past r (Closes other ∷ lines) = lacks_places past r other
lacks_next past r lines = false

-- that of one of them is
abbrev pub is_stuck : Driver → List Agenda → Bool
is_stuck d ags = list_any (λ a. lacks_next d.past a.repo a.lines) ags

-- so does each repository, in order of number, up to one with a close that lacks places
abbrev pub takes_each : DriverInput → List Agenda → Driver → Block
takes_each g [] d = record { driver = d; left = [] }
takes_each g (a ∷ ags) d =
    if lacks_next (takes g a d).driver.past a.repo (takes g a d).left.lines then record { driver = (takes g a d).driver; left = (takes g a d).left ∷ ags }
    else and_left (takes g a d).left (takes_each g ags (takes g a d).driver)

abbrev pub lines_in : List Agenda → ℕ
lines_in ags = length (flat_map (λ a. a.lines) ags)

-- the driver within a block: how many rounds after each other were idle, and whether something was taken before the last
pub record InBlock : Type 0 where
  pub driver : Driver
  pub left : List Agenda
  pub idle : ℕ
  pub took : Bool

abbrev pub is_over : InBlock → Bool
is_over x = nat_le 2 x.idle && not x.took

-- after this was taken, and the round behind it came to this
abbrev pub block_at : InBlock → Block → Driver → InBlock
block_at x b d = record { driver = d; left = b.left; idle = idle_after b.driver d x.idle; took = not (lines_in x.left == lines_in b.left) }

-- a close that lacks places ends the block: no round follows
abbrev pub stuck_at : Block → InBlock
stuck_at b = record { driver = b.driver; left = b.left; idle = 2; took = false }

abbrev pub with_round : DriverInput → InBlock → Block → InBlock
with_round g x b = if is_stuck b.driver b.left then stuck_at b else block_at x b (round g b.driver)

abbrev pub block_round : DriverInput → InBlock → InBlock
block_round g x = if is_over x then x else with_round g x (takes_each g x.left x.driver)

-- rounds, before each of which agendas are taken from, until nothing is taken and the round is idle, as the one before was
abbrev pub block_rounds : DriverInput → ℕ → InBlock → InBlock
block_rounds g zero x = block_round g x
block_rounds g (suc n) x = if is_over x then x else block_rounds g n (block_rounds g n x)

-- the bound is that of a settling: of each two such rounds but the last one adds an entry or takes a line
abbrev pub block_end : DriverInput → List Agendum → Driver → InBlock
block_end g xs d = block_rounds g most_rounds (record { driver = d; left = map (agenda xs) (numbers g); idle = 0; took = true })

-- then the driver settles, unless a close ended the block
abbrev pub settles_after : DriverInput → InBlock → Driver
settles_after g x = if is_stuck x.driver x.left then x.driver else settles g x.driver

abbrev pub blocks : DriverInput → List Agendum → Driver → Driver
blocks g xs d = settles_after g (block_end g xs d)
