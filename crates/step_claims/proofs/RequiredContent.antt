-- A drop of content that its repository requires is refused at its first step, with the expression kept.
use Rattle.std.proofs.Common.{◌≡◌, ℕ, Bool, true, false, List, [], ◌∷◌, Option, Some, None, refl, ap}
use Rattle.std.specs.Prelude.{codes}
use Rattle.log_lines.specs.declared.entry.LogKind.TheVariants as logs
use Rattle.run_data.specs.declared.entry.Entry.{Entry}
use Rattle.run_data.specs.declared.entry.EntryKind.{EntryKind}
use Rattle.run_data.specs.declared.entry.EntryKind.TheVariants as kinds
use Rattle.run_data.specs.declared.entry.By.TheVariants as by
use Rattle.run_data.specs.declared.entry.LogFile.TheVariants.{Location, Of}
use Rattle.run_data.specs.declared.job.JobKind.TheVariants as jobs
use Rattle.run_data.specs.declared.job.Outcome.TheVariants as outcomes
use Rattle.run_data.specs.declared.job.DropRefusal.TheVariants as drops
use Rattle.run_data.specs.declared.run.RepoView.{RepoView}
use Rattle.node_model.specs.SetUp.{SetUp}
use Rattle.node_model.specs.Look.{Effect}
use Rattle.step_claims.specs.Opened.{opened}
use Rattle.step_claims.specs.Claims.{IsIdle, Makes, entry, job, need, repository, set_up}

abbrev t0 : List ℕ
t0 = codes "WORM-s3--abc"

abbrev t1 : List ℕ
t1 = codes "1700000000s 1 11111111-1111-4111-8111-111111111111"

abbrev repos : List RepoView
repos = (repository (codes "a") (17 ∷ 17 ∷ 17 ∷ 17 ∷ 17 ∷ 17 ∷ 65 ∷ 17 ∷ 129 ∷ 17 ∷ 17 ∷ 17 ∷ 17 ∷ 17 ∷ 17 ∷ 17 ∷ []) 0 3 true) ∷ []

abbrev s0 : SetUp
s0 = set_up 0 repos ([])

abbrev e0 : Entry
e0 = entry 0 1 (Some 0) (kinds.Gain by.Script 3 t0) None ([]) ([])

abbrev p0 : List Entry
p0 = e0 ∷ []

abbrev e1 : Entry
e1 = entry 0 2 (Some 0) (kinds.Log (Location t0)) None ([]) (t1 ∷ [])

abbrev p1 : List Entry
p1 = e1 ∷ p0

abbrev t2 : List ℕ
t2 = codes "11111111-1111-4111-8111-111111111111 not copies=1 timestamp=1700000000s"

abbrev e2 : Entry
e2 = entry 0 3 (Some 0) (kinds.Log (Of logs.Required)) None ([]) (t2 ∷ [])

abbrev p2 : List Entry
p2 = e2 ∷ p1

abbrev e3 : Entry
e3 = entry 0 4 (Some 0) (kinds.Begin 1 (job jobs.Drop t0 None None)) None ([]) ([])

abbrev p3 : List Entry
p3 = e3 ∷ p2

abbrev e4 : Entry
e4 = entry 0 5 (Some 0) (kinds.End 1 (outcomes.Refused (drops.Required (codes "not copies=1")))) None ([]) ([])

claim4 : Makes s0 p3 ([]) ([]) None 0 false ([]) e4
unfolding opened
claim4 = refl

abbrev p4 : List Entry
p4 = e4 ∷ p3

idle5_0 : IsIdle s0 p4 ([])
unfolding opened
idle5_0 = refl

-- ---- and no other step

abbrev bars : EntryKind → Bool
bars (kinds.Bar job read key) = true
bars kind = false

abbrev is_bar : Option Effect → Bool
is_bar None = false
is_bar (Some made) = bars made.kind

-- what is required isn't barred
e4_of_a_bar : Makes s0 p3 ([]) ([]) None 0 false ([]) (entry 0 5 (Some 0) (kinds.Bar 1 (need 1 1) t0) None ([]) ([])) → ⊥
unfolding opened
e4_of_a_bar makes = let barred : false ≡ true = ap is_bar makes in cc

-- before the expression is set, it is
claim4_before : Makes s0 (entry 0 3 (Some 0) (kinds.Begin 1 (job jobs.Drop t0 None None)) None ([]) ([]) ∷ p1) ([]) ([]) None 0 false ([]) (entry 0 4 (Some 0) (kinds.Bar 1 (need 1 1) t0) None ([]) ([]))
unfolding opened
claim4_before = refl

-- ---- a drop from a peer, by one of the paths of its key

abbrev both : List RepoView
both = (repository (codes "a") (17 ∷ 17 ∷ 17 ∷ 17 ∷ 17 ∷ 17 ∷ 65 ∷ 17 ∷ 129 ∷ 17 ∷ 17 ∷ 17 ∷ 17 ∷ 17 ∷ 17 ∷ 17 ∷ []) 0 3 true) ∷ (repository (codes "b") (34 ∷ 34 ∷ 34 ∷ 34 ∷ 34 ∷ 34 ∷ 66 ∷ 34 ∷ 130 ∷ 34 ∷ 34 ∷ 34 ∷ 34 ∷ 34 ∷ 34 ∷ 34 ∷ []) 0 3 true) ∷ []

abbrev s1 : SetUp
s1 = set_up 0 both ((1, codes "x" ∷ codes "y.txt" ∷ []) ∷ (2, codes "y.md" ∷ []) ∷ [])

abbrev t3 : List ℕ
t3 = codes "22222222-2222-4222-8222-222222222222 include=*.txt timestamp=1700000000s"

abbrev q1 : List Entry
q1 = entry 0 2 (Some 0) (kinds.Log (Of logs.Required)) None ([]) (t3 ∷ []) ∷ p0

abbrev q2 : List Entry
q2 = entry 0 3 (Some 0) (kinds.Begin 1 (job jobs.Drop t0 None (Some 1))) None ([]) ([]) ∷ q1

abbrev f3 : Entry
f3 = entry 0 4 (Some 0) (kinds.End 1 (outcomes.Refused (drops.Required (codes "include=*.txt")))) None ([]) ([])

from_peer3 : Makes s1 q2 ([]) ([]) None 0 false ([]) f3
unfolding opened
from_peer3 = refl

abbrev q4 : List Entry
q4 = entry 0 5 (Some 0) (kinds.Begin 2 (job jobs.Drop t0 None (Some 1))) None ([]) ([]) ∷ f3 ∷ q2

-- no path of the second job's key is one of these
from_peer5 : Makes s1 q4 ([]) ([]) None 0 false ([]) (entry 0 6 (Some 0) (kinds.Share 6 600000 (by.Job 2) t0) None ([]) ([]))
unfolding opened
from_peer5 = refl

abbrev ends : EntryKind → Bool
ends (kinds.End job outcome) = true
ends kind = false

abbrev is_end : Option Effect → Bool
is_end None = false
is_end (Some made) = ends made.kind

f5_of_the_other_paths : Makes s1 q4 ([]) ([]) None 0 false ([]) (entry 0 6 (Some 0) (kinds.End 2 (outcomes.Refused (drops.Required (codes "include=*.txt")))) None ([]) ([])) → ⊥
unfolding opened
f5_of_the_other_paths makes = let ended : false ≡ true = ap is_end makes in cc
