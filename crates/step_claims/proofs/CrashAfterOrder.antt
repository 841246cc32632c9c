-- The run of the script crash-after-order: each entry that a turn made is what the step makes (written by tools/journal_claims.py).
use Rattle.std.specs.Prelude.{refl, ℕ, true, false, List, [], ◌∷◌, Some, None, codes}
use Rattle.annex_base.specs.declared.kinds.Call.TheVariants as calls
use Rattle.annex_base.specs.declared.kinds.Found.TheVariants as found
use Rattle.annex_base.specs.declared.kinds.Word.TheVariants as words
use Rattle.log_lines.specs.declared.entry.LogKind.TheVariants as logs
use Rattle.run_data.specs.declared.entry.Entry.{Entry}
use Rattle.run_data.specs.declared.entry.EntryKind.TheVariants as kinds
use Rattle.run_data.specs.declared.entry.By.TheVariants as by
use Rattle.run_data.specs.declared.entry.FrameText.TheVariants.{Opening, Closing, Bytes, Line}
use Rattle.run_data.specs.declared.entry.FrameView.{FrameView}
use Rattle.run_data.specs.declared.entry.LogFile.TheVariants.{Location, Of}
use Rattle.run_data.specs.declared.job.JobKind.TheVariants as jobs
use Rattle.run_data.specs.declared.job.Outcome.TheVariants as outcomes
use Rattle.run_data.specs.declared.job.DropRefusal.TheVariants as drops
use Rattle.run_data.specs.declared.job.TransferRefusal.TheVariants as transfers
use Rattle.run_data.specs.declared.job.Cause.TheVariants as causes
use Rattle.run_data.specs.declared.job.SourceCause.TheVariants as sources
use Rattle.run_data.specs.declared.job.Denial.TheVariants as denials
use Rattle.run_data.specs.declared.run.RepoView.{RepoView}
use Rattle.node_model.specs.SetUp.{SetUp}
use Rattle.step_claims.specs.Opened.{opened}
use Rattle.step_claims.specs.Claims.{Closes, Crashes, IsIdle, Makes, down, end, entry, job, need, proof, repository, set_up, up}

abbrev t0 : List ℕ
t0 = codes "WORM-s3--abc"

abbrev t1 : List ℕ
t1 = codes "1700000000s 1 11111111-1111-4111-8111-111111111111"

abbrev t2 : List ℕ
t2 = codes "1700000000s 1 22222222-2222-4222-8222-222222222222"

abbrev t3 : List ℕ
t3 = codes "AUTH-SUCCESS 22222222-2222-4222-8222-222222222222"

abbrev t4 : List ℕ
t4 = codes "VERSION 3"

abbrev t5 : List ℕ
t5 = codes "GETTIMESTAMP"

abbrev t6 : List ℕ
t6 = codes "TIMESTAMP 0"

abbrev t7 : List ℕ
t7 = codes "REMOVE-BEFORE 600 WORM-s3--abc"

abbrev t8 : List ℕ
t8 = codes "SUCCESS"

abbrev t9 : List ℕ
t9 = codes "1700000000.000000001s 0 22222222-2222-4222-8222-222222222222"

abbrev repos : List RepoView
repos = (repository (codes "a") (17 ∷ 17 ∷ 17 ∷ 17 ∷ 17 ∷ 17 ∷ 65 ∷ 17 ∷ 129 ∷ 17 ∷ 17 ∷ 17 ∷ 17 ∷ 17 ∷ 17 ∷ 17 ∷ []) 0 3 true) ∷ (repository (codes "b") (34 ∷ 34 ∷ 34 ∷ 34 ∷ 34 ∷ 34 ∷ 66 ∷ 34 ∷ 130 ∷ 34 ∷ 34 ∷ 34 ∷ 34 ∷ 34 ∷ 34 ∷ 34 ∷ []) 0 3 true) ∷ []

abbrev s0 : SetUp
s0 = set_up 0 repos ([])

abbrev s1 : SetUp
s1 = set_up 1 repos ([])

abbrev e0 : Entry
e0 = entry 0 1 (Some 0) (kinds.Gain by.Script 3 t0) None ([]) ([])

abbrev p0 : List Entry
p0 = e0 ∷ []

abbrev e1 : Entry
e1 = entry 0 2 (Some 0) (kinds.Log (Location t0)) None ([]) (t1 ∷ [])

abbrev p1 : List Entry
p1 = e1 ∷ p0

abbrev e2 : Entry
e2 = entry 0 3 (Some 1) (kinds.Gain by.Script 3 t0) None ([]) ([])

abbrev p2 : List Entry
p2 = e2 ∷ p1

abbrev e3 : Entry
e3 = entry 0 4 (Some 1) (kinds.Log (Location t0)) None ([]) (t2 ∷ [])

abbrev p3 : List Entry
p3 = e3 ∷ p2

abbrev e4 : Entry
e4 = entry 0 5 (Some 0) (kinds.Begin 1 (job jobs.Drop t0 None (Some 1))) None ([]) ([])

abbrev p4 : List Entry
p4 = e4 ∷ p3

abbrev e5 : Entry
e5 = entry 0 6 (Some 0) (kinds.Share 4 600000 (by.Job 1) t0) None ([]) ([])

claim5 : Makes s0 p4 ([]) ([]) None 0 false ([]) e5
unfolding opened
claim5 = refl

abbrev p5 : List Entry
p5 = e5 ∷ p4

abbrev e6 : Entry
e6 = entry 0 7 (Some 0) (kinds.Talk (Some 1)) None ((up 1 0 1 1 Opening) ∷ []) ([])

claim6 : Makes s0 p5 ([]) ([]) None 0 false ([]) e6
unfolding opened
claim6 = refl

abbrev p6 : List Entry
p6 = e6 ∷ p5

abbrev e7 : Entry
e7 = entry 0 8 (Some 1) (kinds.Talk None) (Some (up 0 0 1 1 Opening)) ((down 0 0 1 1 (Line t3)) ∷ []) ([])

claim7 : Makes s1 p6 ((up 0 0 1 1 Opening) ∷ []) ([]) None 0 false ([]) e7
unfolding opened
claim7 = refl

abbrev p7 : List Entry
p7 = e7 ∷ p6

abbrev e8 : Entry
e8 = entry 0 9 (Some 0) (kinds.Talk (Some 1)) (Some (down 1 0 1 1 (Line t3))) ((up 1 0 1 2 (Line t4)) ∷ []) ([])

claim8 : Makes s0 p7 ((down 1 0 1 1 (Line t3)) ∷ []) ([]) None 0 false ([]) e8
unfolding opened
claim8 = refl

abbrev p8 : List Entry
p8 = e8 ∷ p7

abbrev e9 : Entry
e9 = entry 0 10 (Some 1) (kinds.Talk None) (Some (up 0 0 1 2 (Line t4))) ((down 0 0 1 2 (Line t4)) ∷ []) ([])

claim9 : Makes s1 p8 ((up 0 0 1 2 (Line t4)) ∷ []) ([]) None 0 false ([]) e9
unfolding opened
claim9 = refl

abbrev p9 : List Entry
p9 = e9 ∷ p8

abbrev e10 : Entry
e10 = entry 0 11 (Some 0) (kinds.Talk (Some 1)) (Some (down 1 0 1 2 (Line t4))) ((up 1 0 1 3 (Line t5)) ∷ []) ([])

claim10 : Makes s0 p9 ((down 1 0 1 2 (Line t4)) ∷ []) ([]) None 0 false ([]) e10
unfolding opened
claim10 = refl

abbrev p10 : List Entry
p10 = e10 ∷ p9

abbrev e11 : Entry
e11 = entry 0 12 (Some 1) (kinds.Talk None) (Some (up 0 0 1 3 (Line t5))) ((down 0 0 1 3 (Line t6)) ∷ []) ([])

claim11 : Makes s1 p10 ((up 0 0 1 3 (Line t5)) ∷ []) ([]) None 0 false ([]) e11
unfolding opened
claim11 = refl

abbrev p11 : List Entry
p11 = e11 ∷ p10

abbrev e12 : Entry
e12 = entry 0 13 (Some 0) (kinds.Order 1 1 (Some 600) (need 1 1) t0) (Some (down 1 0 1 3 (Line t6))) ((up 1 0 1 4 (Line t7)) ∷ []) ([])

claim12 : Makes s0 p11 ((down 1 0 1 3 (Line t6)) ∷ []) ([]) None 0 false ([]) e12
unfolding opened
claim12 = refl

abbrev p12 : List Entry
p12 = e12 ∷ p11

abbrev e13 : Entry
e13 = entry 0 14 (Some 0) (kinds.Crash 0) None ((up 1 0 1 5 Closing) ∷ []) ([])

claim13 : Crashes s0 p12 e13
unfolding opened
claim13 = refl

abbrev p13 : List Entry
p13 = e13 ∷ p12

abbrev e14 : Entry
e14 = entry 0 15 (Some 0) (kinds.Begin 2 (job jobs.Drop t0 None None)) None ([]) ([])

abbrev p14 : List Entry
p14 = e14 ∷ p13

abbrev e15 : Entry
e15 = entry 0 16 (Some 0) (kinds.End 2 (outcomes.Refused (drops.Held (Some 600000)))) None ([]) ([])

claim15 : Makes s0 p14 ([]) ([]) None 0 false ([]) e15
unfolding opened
claim15 = refl

abbrev p15 : List Entry
p15 = e15 ∷ p14

abbrev e16 : Entry
e16 = entry 0 17 (Some 1) (kinds.Gone (by.Peer 0 0) t0) (Some (up 0 0 1 4 (Line t7))) ((down 0 0 1 4 (Line t8)) ∷ []) ([])

claim16 : Makes s1 p15 ((up 0 0 1 4 (Line t7)) ∷ []) ([]) None 0 false ([]) e16
unfolding opened
claim16 = refl

abbrev p16 : List Entry
p16 = e16 ∷ p15

abbrev e17 : Entry
e17 = entry 0 18 (Some 1) (kinds.Log (Location t0)) None ([]) (t9 ∷ [])

claim17 : Makes s1 p16 ((up 0 0 1 5 Closing) ∷ []) ([]) None 0 false ([]) e17
unfolding opened
claim17 = refl

abbrev p17 : List Entry
p17 = e17 ∷ p16

abbrev e18 : Entry
e18 = entry 0 19 (Some 1) (kinds.Close 0 0 false) (Some (up 0 0 1 5 Closing)) ([]) ([])

claim18 : Makes s1 p17 ((up 0 0 1 5 Closing) ∷ []) ([]) None 0 false ([]) e18
unfolding opened
claim18 = refl

abbrev p18 : List Entry
p18 = e18 ∷ p17
