-- On whose connection a transfer talks (own).
use Rattle.std.specs.Prelude.{◌≡◌, ◌==◌, ℕ, false, Option, IfSome}
use Rattle.node_model.specs.Jobs.{Work, partner}
use Rattle.transfer_turns.specs.Turns.{Sight}

-- this peer, if there is one, is another repository
abbrev pub IsOther : Sight → Option ℕ → Type 0
IsOther x o = IfSome o (λ peer. (x.repo == peer) ≡ false)

-- the peer that its job names, if it names one, is another repository
abbrev pub NamesOther : Sight → Work → Type 0
NamesOther x v = IsOther x v.what.peer

-- so is the one on whose connection it talks, if it talks on one
abbrev pub TalksApart : Sight → Work → Type 0
TalksApart x v = IsOther x (partner v.what.peer v.phase)

-- a step of a job that names another repository leaves it so
abbrev pub StaysApart : Sight → Work → Work → Type 0
StaysApart x v v' = NamesOther x v → TalksApart x v → TalksApart x v'
