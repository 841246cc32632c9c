-- Which jobs a fleet begins (own).
use Rattle.std.specs.Prelude.{◌≡◌, ℕ, List, length}
use Rattle.run_data.specs.declared.job.Job.{Job}
use Rattle.fleet_entries.specs.Beginning.{MayBegin}

-- the job may begin at the repository of this number, among so many, whatever their identifiers are
abbrev pub MayBeginAmong : ℕ → ℕ → Job → Type 0
MayBeginAmong count r job = (ids : List (List ℕ)) → length ids ≡ count → MayBegin (record { number = r; ids = ids }) job.kind job.peer
