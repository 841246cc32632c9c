-- The run of the script stale-trusted-claim: each entry that a turn made is what the step makes (written by tools/journal_claims.py).
use Rattle.std.specs.Prelude.{refl, ℕ, true, false, List, [], ◌∷◌, Some, None, codes}
use Rattle.annex_base.specs.declared.kinds.Call.TheVariants as calls
use Rattle.annex_base.specs.declared.kinds.Found.TheVariants as found
use Rattle.annex_base.specs.declared.kinds.Word.TheVariants as words
use Rattle.log_lines.specs.declared.entry.LogKind.TheVariants as logs
use Rattle.run_data.specs.declared.entry.Entry.{Entry}
use Rattle.run_data.specs.declared.entry.EntryKind.TheVariants as kinds
use Rattle.run_data.specs.declared.entry.By.TheVariants as by
use Rattle.run_data.specs.declared.entry.FrameText.TheVariants.{Opening, Closing, Bytes, Line}
use Rattle.run_data.specs.declared.entry.FrameView.{FrameView}
use Rattle.run_data.specs.declared.entry.LogFile.TheVariants.{Location, Of}
use Rattle.run_data.specs.declared.job.JobKind.TheVariants as jobs
use Rattle.run_data.specs.declared.job.Outcome.TheVariants as outcomes
use Rattle.run_data.specs.declared.job.DropRefusal.TheVariants as drops
use Rattle.run_data.specs.declared.job.TransferRefusal.TheVariants as transfers
use Rattle.run_data.specs.declared.job.Cause.TheVariants as causes
use Rattle.run_data.specs.declared.job.SourceCause.TheVariants as sources
use Rattle.run_data.specs.declared.job.Denial.TheVariants as denials
use Rattle.run_data.specs.declared.run.RepoView.{RepoView}
use Rattle.node_model.specs.SetUp.{SetUp}
use Rattle.step_claims.specs.Opened.{opened}
use Rattle.step_claims.specs.Claims.{Closes, Crashes, IsIdle, Makes, down, end, entry, job, need, proof, repository, set_up, up}

abbrev t0 : List ℕ
t0 = codes "WORM-s3--abc"

abbrev t1 : List ℕ
t1 = codes "1700000000s 1 11111111-1111-4111-8111-111111111111"

abbrev t2 : List ℕ
t2 = codes "22222222-2222-4222-8222-222222222222 1 timestamp=1700000000s"

abbrev t3 : List ℕ
t3 = codes "1600000000s 1 22222222-2222-4222-8222-222222222222"

abbrev t4 : List ℕ
t4 = codes "1700000000.000000001s 0 11111111-1111-4111-8111-111111111111"

abbrev repos : List RepoView
repos = (repository (codes "a") (17 ∷ 17 ∷ 17 ∷ 17 ∷ 17 ∷ 17 ∷ 65 ∷ 17 ∷ 129 ∷ 17 ∷ 17 ∷ 17 ∷ 17 ∷ 17 ∷ 17 ∷ 17 ∷ []) 0 3 true) ∷ (repository (codes "b") (34 ∷ 34 ∷ 34 ∷ 34 ∷ 34 ∷ 34 ∷ 66 ∷ 34 ∷ 130 ∷ 34 ∷ 34 ∷ 34 ∷ 34 ∷ 34 ∷ 34 ∷ 34 ∷ []) 0 3 true) ∷ []

abbrev s0 : SetUp
s0 = set_up 0 repos ([])

abbrev s1 : SetUp
s1 = set_up 1 repos ([])

abbrev e0 : Entry
e0 = entry 0 1 (Some 0) (kinds.Gain by.Script 3 t0) None ([]) ([])

abbrev p0 : List Entry
p0 = e0 ∷ []

abbrev e1 : Entry
e1 = entry 0 2 (Some 0) (kinds.Log (Location t0)) None ([]) (t1 ∷ [])

abbrev p1 : List Entry
p1 = e1 ∷ p0

abbrev e2 : Entry
e2 = entry 0 3 (Some 0) (kinds.Log (Of logs.Trust)) None ([]) (t2 ∷ [])

abbrev p2 : List Entry
p2 = e2 ∷ p1

abbrev e3 : Entry
e3 = entry 0 4 (Some 0) (kinds.Log (Location t0)) None ([]) (t3 ∷ [])

abbrev p3 : List Entry
p3 = e3 ∷ p2

abbrev e4 : Entry
e4 = entry 0 5 (Some 0) (kinds.Begin 1 (job jobs.Drop t0 None None)) None ([]) ([])

abbrev p4 : List Entry
p4 = e4 ∷ p3

abbrev e5 : Entry
e5 = entry 0 6 (Some 0) (kinds.Bar 1 (need 1 1) t0) None ([]) ([])

claim5 : Makes s0 p4 ([]) ([]) None 0 false ([]) e5
unfolding opened
claim5 = refl

abbrev p5 : List Entry
p5 = e5 ∷ p4

idle6_1 : IsIdle s1 p5 ([])
unfolding opened
idle6_1 = refl

abbrev e6 : Entry
e6 = entry 0 7 (Some 0) (kinds.Gone (by.Job 1) t0) None ([]) ([])

claim6 : Makes s0 p5 ([]) ([]) None 0 false ([]) e6
unfolding opened
claim6 = refl

abbrev p6 : List Entry
p6 = e6 ∷ p5

idle7_1 : IsIdle s1 p6 ([])
unfolding opened
idle7_1 = refl

abbrev e7 : Entry
e7 = entry 0 8 (Some 0) (kinds.Log (Location t0)) None ([]) (t4 ∷ [])

claim7 : Makes s0 p6 ([]) ([]) None 0 false ([]) e7
unfolding opened
claim7 = refl

abbrev p7 : List Entry
p7 = e7 ∷ p6

idle8_1 : IsIdle s1 p7 ([])
unfolding opened
idle8_1 = refl

abbrev e8 : Entry
e8 = entry 0 9 (Some 0) (kinds.End 1 (outcomes.Dropped (proof (need 1 1) ([]) (1 ∷ []) ([])))) None ([]) ([])

claim8 : Makes s0 p7 ([]) ([]) None 0 false ([]) e8
unfolding opened
claim8 = refl

abbrev p8 : List Entry
p8 = e8 ∷ p7

idle9_0 : IsIdle s0 p8 ([])
unfolding opened
idle9_0 = refl

idle9_1 : IsIdle s1 p8 ([])
unfolding opened
idle9_1 = refl
