-- A drop needs the numbers of copies of the paths that its key had as the job began.
use Rattle.std.proofs.Common.{◌≡◌, ℕ, true, false, List, [], ◌∷◌, Option, Some, None, refl, ap, arith}
use Rattle.std.specs.Prelude.{codes}
use Rattle.log_lines.specs.declared.entry.LogKind.TheVariants as logs
use Rattle.run_data.specs.declared.entry.Entry.{Entry}
use Rattle.run_data.specs.declared.entry.EntryKind.{EntryKind}
use Rattle.run_data.specs.declared.entry.EntryKind.TheVariants as kinds
use Rattle.run_data.specs.declared.entry.By.TheVariants as by
use Rattle.run_data.specs.declared.entry.LogFile.TheVariants.{Location, Of}
use Rattle.run_data.specs.declared.job.JobKind.TheVariants as jobs
use Rattle.run_data.specs.declared.job.Outcome.TheVariants as outcomes
use Rattle.run_data.specs.declared.job.DropRefusal.TheVariants as drops
use Rattle.run_data.specs.declared.run.RepoView.{RepoView}
use Rattle.node_model.specs.SetUp.{SetUp}
use Rattle.node_model.specs.Look.{Effect}
use Rattle.step_claims.specs.Opened.{opened}
use Rattle.step_claims.specs.Claims.{Makes, entry, job, need, proof, repository, set_up}

abbrev t0 : List ℕ
t0 = codes "WORM-s3--abc"

abbrev t1 : List ℕ
t1 = codes "1700000000s 1 11111111-1111-4111-8111-111111111111"

abbrev repos : List RepoView
repos = (repository (codes "a") (17 ∷ 17 ∷ 17 ∷ 17 ∷ 17 ∷ 17 ∷ 65 ∷ 17 ∷ 129 ∷ 17 ∷ 17 ∷ 17 ∷ 17 ∷ 17 ∷ 17 ∷ 17 ∷ []) 0 3 true) ∷ []

abbrev s0 : SetUp
s0 = set_up 0 repos ((1, codes "a/x.big" ∷ codes "x" ∷ []) ∷ (2, codes "x" ∷ []) ∷ [])

abbrev e0 : Entry
e0 = entry 0 1 (Some 0) (kinds.Gain by.Script 3 t0) None ([]) ([])

abbrev p0 : List Entry
p0 = e0 ∷ []

abbrev e1 : Entry
e1 = entry 0 2 (Some 0) (kinds.Log (Location t0)) None ([]) (t1 ∷ [])

abbrev p1 : List Entry
p1 = e1 ∷ p0

abbrev t2 : List ℕ
t2 = codes "1700000000s 3 *.big"

abbrev e2 : Entry
e2 = entry 0 3 (Some 0) (kinds.Log (Of logs.NumcopiesPath)) None ([]) (t2 ∷ [])

abbrev p2 : List Entry
p2 = e2 ∷ p1

abbrev e3 : Entry
e3 = entry 0 4 (Some 0) (kinds.Begin 1 (job jobs.Drop t0 None None)) None ([]) ([])

abbrev p3 : List Entry
p3 = e3 ∷ p2

abbrev e4 : Entry
e4 = entry 0 5 (Some 0) (kinds.Bar 1 (need 3 1) t0) None ([]) ([])

claim4 : Makes s0 p3 ([]) ([]) None 0 false ([]) e4
unfolding opened
claim4 = refl

abbrev p4 : List Entry
p4 = e4 ∷ p3

abbrev e5 : Entry
e5 = entry 0 6 (Some 0) (kinds.End 1 (outcomes.Refused (drops.Lacking (proof (need 3 1) ([]) ([]) ([])) ([])))) None ([]) ([])

claim5 : Makes s0 p4 ([]) ([]) None 0 false ([]) e5
unfolding opened
claim5 = refl

abbrev p5 : List Entry
p5 = e5 ∷ p4

abbrev e6 : Entry
e6 = entry 0 7 (Some 0) (kinds.Begin 2 (job jobs.Drop t0 None None)) None ([]) ([])

abbrev p6 : List Entry
p6 = e6 ∷ p5

abbrev e7 : Entry
e7 = entry 0 8 (Some 0) (kinds.Bar 2 (need 1 1) t0) None ([]) ([])

claim7 : Makes s0 p6 ([]) ([]) None 0 false ([]) e7
unfolding opened
claim7 = refl

-- ---- and no other need

abbrev needed : EntryKind → ℕ
needed (kinds.Bar job read key) = read.n
needed kind = 0

abbrev put : Option Effect → ℕ
put None = 0
put (Some made) = needed made.kind

-- the number for the whole repository is not that of its path
e4_of_the_whole : Makes s0 p3 ([]) ([]) None 0 false ([]) (entry 0 5 (Some 0) (kinds.Bar 1 (need 1 1) t0) None ([]) ([])) → ⊥
unfolding opened
e4_of_the_whole makes = let three_is_one : 3 ≡ 1 = ap put makes in omega (arith, three_is_one)

-- the number for one path is not that of another
e7_of_the_other_path : Makes s0 p6 ([]) ([]) None 0 false ([]) (entry 0 8 (Some 0) (kinds.Bar 2 (need 3 1) t0) None ([]) ([])) → ⊥
unfolding opened
e7_of_the_other_path makes = let one_is_three : 1 ≡ 3 = ap put makes in omega (arith, one_is_three)
