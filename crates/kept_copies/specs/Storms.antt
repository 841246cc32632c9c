-- The lines of a storm's script, as commands beside its text (`storm_script`, module `Storm`), and its keys (own).
use Rattle.std.specs.Prelude.{ℕ, zero, suc, ◌+◌, ◌/◌, ◌%◌, ◌==◌, if◌then◌else◌, nat_le, nat_lt, List, [], ◌∷◌, ◌++◌, codes, map, None, Some}
use Rattle.std.specs.List.{range_with_len}
use Rattle.log_lines.specs.declared.entry.LogKind.TheVariants.{Numcopies}
use Rattle.log_lines.specs.declared.entry.Topic.TheVariants.{Whole}
use Rattle.log_lines.specs.declared.entry.Value.TheVariants.{Number}
use Rattle.run_data.specs.declared.job.JobKind.TheVariants as jobs
use Rattle.script_commands.specs.declared.command.Action.{Action}
use Rattle.script_commands.specs.declared.command.Action.TheVariants.{Begin, Crash, Have, Merge, Set, Settle, Turns}
use Rattle.script_commands.specs.declared.command.Command.{Command}
use Rattle.script_commands.specs.declared.command.Command.TheVariants.{Does, Repo}
use Rattle.storm_script.specs.Storm.{drawn, haves, key_word, next_state, repo_word, second}

-- the keys of a storm
abbrev pub storm_keys : List (List ℕ)
storm_keys = map key_word (range_with_len 0 16)

-- ---- the first lines

-- the identifier of a repository: sixteen bytes, of which the last is its number
abbrev pub id_bytes : ℕ → List ℕ
id_bytes r = 0 ∷ 0 ∷ 0 ∷ 0 ∷ 0 ∷ 0 ∷ 64 ∷ 0 ∷ 128 ∷ 0 ∷ 0 ∷ 0 ∷ 0 ∷ 0 ∷ 0 ∷ r ∷ []

-- eight repositories, of which the last two give no holds
abbrev pub repo_command : ℕ → Command
repo_command r = Repo (repo_word r) (id_bytes r) 0 3 (nat_lt r 6)

-- so many of the contents: three of each key, each at a repository that is drawn
abbrev pub have_commands : ℕ → ℕ → ℕ → List Command
have_commands zero k x = []
have_commands (suc n) k x = Does (Have (drawn (next_state x) 8) (key_word (k / 3)) (codes "abc")) ∷ have_commands n (k + 1) (next_state x)

abbrev pub first_commands : ℕ → List Command
first_commands number = map repo_command (range_with_len 0 8) ++ have_commands 48 0 number

-- ---- the later lines

abbrev pub merge_command : ℕ → Command
merge_command r = Does (Merge r 0)

-- the job or the crash of w, at r: of key j, with p
abbrev pub job_action : (w r j p : ℕ) → Action
job_action w r j p =
    if nat_le w 2 then Begin r (record { kind = jobs.Drop; key = key_word j; path = None; peer = None })
    else (if nat_le w 4 then Begin r (record { kind = jobs.Drop; key = key_word j; path = None; peer = Some p })
    else (if w == 5 then Begin r (record { kind = jobs.Get; key = key_word j; path = None; peer = None })
    else (if w == 6 then Begin r (record { kind = jobs.Copy; key = key_word j; path = None; peer = Some p })
    else Crash r 0)))

-- one time: the job or crash, and then turns of the two repositories; after every eighth time all settles
abbrev pub time_commands : (place r j p w turns : ℕ) → List Command
time_commands place r j p w turns =
    Does (job_action w r j p) ∷ Does (Turns r turns) ∷ Does (Turns p turns) ∷ (if (place % 8) == 0 then Does Settle ∷ [] else [])

-- so many times, of which the first is at this place, counted from 1: of each five draws are made
abbrev pub times_commands : ℕ → ℕ → ℕ → List Command
times_commands zero place x = []
times_commands (suc n) place x =
    let x1 = next_state x in
    let x2 = next_state x1 in
    let x3 = next_state x2 in
    let x4 = next_state x3 in
    let x5 = next_state x4 in
    let r = drawn x1 8 in
    time_commands place r (drawn x2 16) (second r (drawn x3 7)) (drawn x4 8) (drawn x5 16 + 1) ++ times_commands n (place + 1) x5

abbrev pub later_commands : ℕ → ℕ → List Command
later_commands number jobs =
    Does (Set 0 Numcopies Whole (Number 2)) ∷ map merge_command (range_with_len 1 7) ++ times_commands jobs 1 (haves 48 0 number).state ++ Does Settle ∷ []

-- ---- the script

abbrev pub storm_commands : ℕ → ℕ → List Command
storm_commands number jobs = first_commands number ++ later_commands number jobs
