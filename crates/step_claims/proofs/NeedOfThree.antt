-- The run of the script need-of-three: each entry that a turn made is what the step makes (written by tools/journal_claims.py).
use Rattle.std.specs.Prelude.{refl, ℕ, true, false, List, [], ◌∷◌, Some, None, codes}
use Rattle.annex_base.specs.declared.kinds.Call.TheVariants as calls
use Rattle.annex_base.specs.declared.kinds.Found.TheVariants as found
use Rattle.annex_base.specs.declared.kinds.Word.TheVariants as words
use Rattle.log_lines.specs.declared.entry.LogKind.TheVariants as logs
use Rattle.run_data.specs.declared.entry.Entry.{Entry}
use Rattle.run_data.specs.declared.entry.EntryKind.TheVariants as kinds
use Rattle.run_data.specs.declared.entry.By.TheVariants as by
use Rattle.run_data.specs.declared.entry.FrameText.TheVariants.{Opening, Closing, Bytes, Line}
use Rattle.run_data.specs.declared.entry.FrameView.{FrameView}
use Rattle.run_data.specs.declared.entry.LogFile.TheVariants.{Location, Of}
use Rattle.run_data.specs.declared.job.JobKind.TheVariants as jobs
use Rattle.run_data.specs.declared.job.Outcome.TheVariants as outcomes
use Rattle.run_data.specs.declared.job.DropRefusal.TheVariants as drops
use Rattle.run_data.specs.declared.job.TransferRefusal.TheVariants as transfers
use Rattle.run_data.specs.declared.job.Cause.TheVariants as causes
use Rattle.run_data.specs.declared.job.SourceCause.TheVariants as sources
use Rattle.run_data.specs.declared.job.Denial.TheVariants as denials
use Rattle.run_data.specs.declared.run.RepoView.{RepoView}
use Rattle.node_model.specs.SetUp.{SetUp}
use Rattle.step_claims.specs.Opened.{opened}
use Rattle.step_claims.specs.Claims.{Closes, Crashes, IsIdle, Makes, down, end, entry, job, need, proof, repository, set_up, up}

abbrev t0 : List ℕ
t0 = codes "WORM-s3--abc"

abbrev t1 : List ℕ
t1 = codes "1700000000s 1 22222222-2222-4222-8222-222222222222"

abbrev t2 : List ℕ
t2 = codes "1700000000s 1 33333333-3333-4333-8333-333333333333"

abbrev t3 : List ℕ
t3 = codes "1700000000s 1 44444444-4444-4444-8444-444444444444"

abbrev t4 : List ℕ
t4 = codes "1700000000s 1 55555555-5555-4555-8555-555555555555"

abbrev t5 : List ℕ
t5 = codes "1700000000s 3"

abbrev t6 : List ℕ
t6 = codes "AUTH-SUCCESS 33333333-3333-4333-8333-333333333333"

abbrev t7 : List ℕ
t7 = codes "VERSION 3"

abbrev t8 : List ℕ
t8 = codes "LOCKCONTENT WORM-s3--abc"

abbrev t9 : List ℕ
t9 = codes "SUCCESS"

abbrev t10 : List ℕ
t10 = codes "AUTH-SUCCESS 44444444-4444-4444-8444-444444444444"

abbrev t11 : List ℕ
t11 = codes "FAILURE"

abbrev t12 : List ℕ
t12 = codes "CHECKPRESENT WORM-s3--abc"

abbrev t13 : List ℕ
t13 = codes "AUTH-SUCCESS 55555555-5555-4555-8555-555555555555"

abbrev t14 : List ℕ
t14 = codes "AUTH-SUCCESS 22222222-2222-4222-8222-222222222222"

abbrev t15 : List ℕ
t15 = codes "GETTIMESTAMP"

abbrev t16 : List ℕ
t16 = codes "TIMESTAMP 0"

abbrev t17 : List ℕ
t17 = codes "REMOVE-BEFORE 600 WORM-s3--abc"

abbrev t18 : List ℕ
t18 = codes "1700000000.000000001s 0 22222222-2222-4222-8222-222222222222"

abbrev t19 : List ℕ
t19 = codes "1700000000s 0 22222222-2222-4222-8222-222222222222"

abbrev t20 : List ℕ
t20 = codes "UNLOCKCONTENT WORM-s3--abc"

abbrev repos : List RepoView
repos = (repository (codes "a") (17 ∷ 17 ∷ 17 ∷ 17 ∷ 17 ∷ 17 ∷ 65 ∷ 17 ∷ 129 ∷ 17 ∷ 17 ∷ 17 ∷ 17 ∷ 17 ∷ 17 ∷ 17 ∷ []) 0 3 true) ∷ (repository (codes "b") (34 ∷ 34 ∷ 34 ∷ 34 ∷ 34 ∷ 34 ∷ 66 ∷ 34 ∷ 130 ∷ 34 ∷ 34 ∷ 34 ∷ 34 ∷ 34 ∷ 34 ∷ 34 ∷ []) 0 3 true) ∷ (repository (codes "c") (51 ∷ 51 ∷ 51 ∷ 51 ∷ 51 ∷ 51 ∷ 67 ∷ 51 ∷ 131 ∷ 51 ∷ 51 ∷ 51 ∷ 51 ∷ 51 ∷ 51 ∷ 51 ∷ []) 0 3 true) ∷ (repository (codes "d") (68 ∷ 68 ∷ 68 ∷ 68 ∷ 68 ∷ 68 ∷ 68 ∷ 68 ∷ 132 ∷ 68 ∷ 68 ∷ 68 ∷ 68 ∷ 68 ∷ 68 ∷ 68 ∷ []) 0 3 false) ∷ (repository (codes "e") (85 ∷ 85 ∷ 85 ∷ 85 ∷ 85 ∷ 85 ∷ 69 ∷ 85 ∷ 133 ∷ 85 ∷ 85 ∷ 85 ∷ 85 ∷ 85 ∷ 85 ∷ 85 ∷ []) 0 3 false) ∷ []

abbrev s0 : SetUp
s0 = set_up 0 repos ([])

abbrev s1 : SetUp
s1 = set_up 1 repos ([])

abbrev s2 : SetUp
s2 = set_up 2 repos ([])

abbrev s3 : SetUp
s3 = set_up 3 repos ([])

abbrev s4 : SetUp
s4 = set_up 4 repos ([])

abbrev e0 : Entry
e0 = entry 0 1 (Some 1) (kinds.Gain by.Script 3 t0) None ([]) ([])

abbrev p0 : List Entry
p0 = e0 ∷ []

abbrev e1 : Entry
e1 = entry 0 2 (Some 1) (kinds.Log (Location t0)) None ([]) (t1 ∷ [])

abbrev p1 : List Entry
p1 = e1 ∷ p0

abbrev e2 : Entry
e2 = entry 0 3 (Some 2) (kinds.Gain by.Script 3 t0) None ([]) ([])

abbrev p2 : List Entry
p2 = e2 ∷ p1

abbrev e3 : Entry
e3 = entry 0 4 (Some 2) (kinds.Log (Location t0)) None ([]) (t2 ∷ [])

abbrev p3 : List Entry
p3 = e3 ∷ p2

abbrev e4 : Entry
e4 = entry 0 5 (Some 3) (kinds.Gain by.Script 3 t0) None ([]) ([])

abbrev p4 : List Entry
p4 = e4 ∷ p3

abbrev e5 : Entry
e5 = entry 0 6 (Some 3) (kinds.Log (Location t0)) None ([]) (t3 ∷ [])

abbrev p5 : List Entry
p5 = e5 ∷ p4

abbrev e6 : Entry
e6 = entry 0 7 (Some 4) (kinds.Gain by.Script 3 t0) None ([]) ([])

abbrev p6 : List Entry
p6 = e6 ∷ p5

abbrev e7 : Entry
e7 = entry 0 8 (Some 4) (kinds.Log (Location t0)) None ([]) (t4 ∷ [])

abbrev p7 : List Entry
p7 = e7 ∷ p6

abbrev e8 : Entry
e8 = entry 0 9 (Some 0) (kinds.Log (Of logs.Numcopies)) None ([]) (t5 ∷ [])

abbrev p8 : List Entry
p8 = e8 ∷ p7

abbrev e9 : Entry
e9 = entry 0 10 (Some 0) (kinds.Begin 1 (job jobs.Drop t0 None (Some 1))) None ([]) ([])

abbrev p9 : List Entry
p9 = e9 ∷ p8

abbrev e10 : Entry
e10 = entry 0 11 (Some 0) (kinds.Talk (Some 1)) None ([]) ([])

claim10 : Makes s0 p9 ([]) ([]) None 0 false ([]) e10
unfolding opened
claim10 = refl

abbrev p10 : List Entry
p10 = e10 ∷ p9

idle11_1 : IsIdle s1 p10 ([])
unfolding opened
idle11_1 = refl

idle11_2 : IsIdle s2 p10 ([])
unfolding opened
idle11_2 = refl

idle11_3 : IsIdle s3 p10 ([])
unfolding opened
idle11_3 = refl

idle11_4 : IsIdle s4 p10 ([])
unfolding opened
idle11_4 = refl

abbrev e11 : Entry
e11 = entry 0 12 (Some 0) (kinds.Talk (Some 1)) None ((up 2 0 1 1 Opening) ∷ []) ([])

claim11 : Makes s0 p10 ([]) ([]) None 0 false ([]) e11
unfolding opened
claim11 = refl

abbrev p11 : List Entry
p11 = e11 ∷ p10

idle12_1 : IsIdle s1 p11 ([])
unfolding opened
idle12_1 = refl

abbrev e12 : Entry
e12 = entry 0 13 (Some 2) (kinds.Talk None) (Some (up 0 0 1 1 Opening)) ((down 0 0 1 1 (Line t6)) ∷ []) ([])

claim12 : Makes s2 p11 ((up 0 0 1 1 Opening) ∷ []) ([]) None 0 false ([]) e12
unfolding opened
claim12 = refl

abbrev p12 : List Entry
p12 = e12 ∷ p11

idle13_3 : IsIdle s3 p12 ([])
unfolding opened
idle13_3 = refl

idle13_4 : IsIdle s4 p12 ([])
unfolding opened
idle13_4 = refl

abbrev e13 : Entry
e13 = entry 0 14 (Some 0) (kinds.Talk (Some 1)) (Some (down 2 0 1 1 (Line t6))) ((up 2 0 1 2 (Line t7)) ∷ []) ([])

claim13 : Makes s0 p12 ((down 2 0 1 1 (Line t6)) ∷ []) ([]) None 0 false ([]) e13
unfolding opened
claim13 = refl

abbrev p13 : List Entry
p13 = e13 ∷ p12

idle14_1 : IsIdle s1 p13 ([])
unfolding opened
idle14_1 = refl

abbrev e14 : Entry
e14 = entry 0 15 (Some 2) (kinds.Talk None) (Some (up 0 0 1 2 (Line t7))) ((down 0 0 1 2 (Line t7)) ∷ []) ([])

claim14 : Makes s2 p13 ((up 0 0 1 2 (Line t7)) ∷ []) ([]) None 0 false ([]) e14
unfolding opened
claim14 = refl

abbrev p14 : List Entry
p14 = e14 ∷ p13

idle15_3 : IsIdle s3 p14 ([])
unfolding opened
idle15_3 = refl

idle15_4 : IsIdle s4 p14 ([])
unfolding opened
idle15_4 = refl

abbrev e15 : Entry
e15 = entry 0 16 (Some 0) (kinds.Talk (Some 1)) (Some (down 2 0 1 2 (Line t7))) ((up 2 0 1 3 (Line t8)) ∷ []) ([])

claim15 : Makes s0 p14 ((down 2 0 1 2 (Line t7)) ∷ []) ([]) None 0 false ([]) e15
unfolding opened
claim15 = refl

abbrev p15 : List Entry
p15 = e15 ∷ p14

idle16_1 : IsIdle s1 p15 ([])
unfolding opened
idle16_1 = refl

abbrev e16 : Entry
e16 = entry 0 17 (Some 2) (kinds.Share 5 600000 (by.Peer 0 0) t0) (Some (up 0 0 1 3 (Line t8))) ((down 0 0 1 3 (Line t9)) ∷ []) ([])

claim16 : Makes s2 p15 ((up 0 0 1 3 (Line t8)) ∷ []) ([]) None 0 false ([]) e16
unfolding opened
claim16 = refl

abbrev p16 : List Entry
p16 = e16 ∷ p15

idle17_3 : IsIdle s3 p16 ([])
unfolding opened
idle17_3 = refl

idle17_4 : IsIdle s4 p16 ([])
unfolding opened
idle17_4 = refl

abbrev e17 : Entry
e17 = entry 0 18 (Some 0) (kinds.Talk (Some 1)) (Some (down 2 0 1 3 (Line t9))) ([]) ([])

claim17 : Makes s0 p16 ((down 2 0 1 3 (Line t9)) ∷ []) ([]) None 0 false ([]) e17
unfolding opened
claim17 = refl

abbrev p17 : List Entry
p17 = e17 ∷ p16

idle18_1 : IsIdle s1 p17 ([])
unfolding opened
idle18_1 = refl

idle18_2 : IsIdle s2 p17 ([])
unfolding opened
idle18_2 = refl

idle18_3 : IsIdle s3 p17 ([])
unfolding opened
idle18_3 = refl

idle18_4 : IsIdle s4 p17 ([])
unfolding opened
idle18_4 = refl

abbrev e18 : Entry
e18 = entry 0 19 (Some 0) (kinds.Talk (Some 1)) None ((up 3 0 1 1 Opening) ∷ []) ([])

claim18 : Makes s0 p17 ([]) ([]) None 0 false ([]) e18
unfolding opened
claim18 = refl

abbrev p18 : List Entry
p18 = e18 ∷ p17

idle19_1 : IsIdle s1 p18 ([])
unfolding opened
idle19_1 = refl

idle19_2 : IsIdle s2 p18 ([])
unfolding opened
idle19_2 = refl

abbrev e19 : Entry
e19 = entry 0 20 (Some 3) (kinds.Talk None) (Some (up 0 0 1 1 Opening)) ((down 0 0 1 1 (Line t10)) ∷ []) ([])

claim19 : Makes s3 p18 ((up 0 0 1 1 Opening) ∷ []) ([]) None 0 false ([]) e19
unfolding opened
claim19 = refl

abbrev p19 : List Entry
p19 = e19 ∷ p18

idle20_4 : IsIdle s4 p19 ([])
unfolding opened
idle20_4 = refl

abbrev e20 : Entry
e20 = entry 0 21 (Some 0) (kinds.Talk (Some 1)) (Some (down 3 0 1 1 (Line t10))) ((up 3 0 1 2 (Line t7)) ∷ []) ([])

claim20 : Makes s0 p19 ((down 3 0 1 1 (Line t10)) ∷ []) ([]) None 0 false ([]) e20
unfolding opened
claim20 = refl

abbrev p20 : List Entry
p20 = e20 ∷ p19

idle21_1 : IsIdle s1 p20 ([])
unfolding opened
idle21_1 = refl

idle21_2 : IsIdle s2 p20 ([])
unfolding opened
idle21_2 = refl

abbrev e21 : Entry
e21 = entry 0 22 (Some 3) (kinds.Talk None) (Some (up 0 0 1 2 (Line t7))) ((down 0 0 1 2 (Line t7)) ∷ []) ([])

claim21 : Makes s3 p20 ((up 0 0 1 2 (Line t7)) ∷ []) ([]) None 0 false ([]) e21
unfolding opened
claim21 = refl

abbrev p21 : List Entry
p21 = e21 ∷ p20

idle22_4 : IsIdle s4 p21 ([])
unfolding opened
idle22_4 = refl

abbrev e22 : Entry
e22 = entry 0 23 (Some 0) (kinds.Talk (Some 1)) (Some (down 3 0 1 2 (Line t7))) ((up 3 0 1 3 (Line t8)) ∷ []) ([])

claim22 : Makes s0 p21 ((down 3 0 1 2 (Line t7)) ∷ []) ([]) None 0 false ([]) e22
unfolding opened
claim22 = refl

abbrev p22 : List Entry
p22 = e22 ∷ p21

idle23_1 : IsIdle s1 p22 ([])
unfolding opened
idle23_1 = refl

idle23_2 : IsIdle s2 p22 ([])
unfolding opened
idle23_2 = refl

abbrev e23 : Entry
e23 = entry 0 24 (Some 3) (kinds.Check found.Nolock t0) (Some (up 0 0 1 3 (Line t8))) ((down 0 0 1 3 (Line t11)) ∷ []) ([])

claim23 : Makes s3 p22 ((up 0 0 1 3 (Line t8)) ∷ []) ([]) None 0 false ([]) e23
unfolding opened
claim23 = refl

abbrev p23 : List Entry
p23 = e23 ∷ p22

idle24_4 : IsIdle s4 p23 ([])
unfolding opened
idle24_4 = refl

abbrev e24 : Entry
e24 = entry 0 25 (Some 0) (kinds.Talk (Some 1)) (Some (down 3 0 1 3 (Line t11))) ((up 3 0 1 4 (Line t12)) ∷ []) ([])

claim24 : Makes s0 p23 ((down 3 0 1 3 (Line t11)) ∷ []) ([]) None 0 false ([]) e24
unfolding opened
claim24 = refl

abbrev p24 : List Entry
p24 = e24 ∷ p23

idle25_1 : IsIdle s1 p24 ([])
unfolding opened
idle25_1 = refl

idle25_2 : IsIdle s2 p24 ([])
unfolding opened
idle25_2 = refl

abbrev e25 : Entry
e25 = entry 0 26 (Some 3) (kinds.Check found.Present t0) (Some (up 0 0 1 4 (Line t12))) ((down 0 0 1 4 (Line t9)) ∷ []) ([])

claim25 : Makes s3 p24 ((up 0 0 1 4 (Line t12)) ∷ []) ([]) None 0 false ([]) e25
unfolding opened
claim25 = refl

abbrev p25 : List Entry
p25 = e25 ∷ p24

idle26_4 : IsIdle s4 p25 ([])
unfolding opened
idle26_4 = refl

abbrev e26 : Entry
e26 = entry 0 27 (Some 0) (kinds.Talk (Some 1)) (Some (down 3 0 1 4 (Line t9))) ([]) ([])

claim26 : Makes s0 p25 ((down 3 0 1 4 (Line t9)) ∷ []) ([]) None 0 false ([]) e26
unfolding opened
claim26 = refl

abbrev p26 : List Entry
p26 = e26 ∷ p25

idle27_1 : IsIdle s1 p26 ([])
unfolding opened
idle27_1 = refl

idle27_2 : IsIdle s2 p26 ([])
unfolding opened
idle27_2 = refl

idle27_3 : IsIdle s3 p26 ([])
unfolding opened
idle27_3 = refl

idle27_4 : IsIdle s4 p26 ([])
unfolding opened
idle27_4 = refl

abbrev e27 : Entry
e27 = entry 0 28 (Some 0) (kinds.Talk (Some 1)) None ((up 4 0 1 1 Opening) ∷ []) ([])

claim27 : Makes s0 p26 ([]) ([]) None 0 false ([]) e27
unfolding opened
claim27 = refl

abbrev p27 : List Entry
p27 = e27 ∷ p26

idle28_1 : IsIdle s1 p27 ([])
unfolding opened
idle28_1 = refl

idle28_2 : IsIdle s2 p27 ([])
unfolding opened
idle28_2 = refl

idle28_3 : IsIdle s3 p27 ([])
unfolding opened
idle28_3 = refl

abbrev e28 : Entry
e28 = entry 0 29 (Some 4) (kinds.Talk None) (Some (up 0 0 1 1 Opening)) ((down 0 0 1 1 (Line t13)) ∷ []) ([])

claim28 : Makes s4 p27 ((up 0 0 1 1 Opening) ∷ []) ([]) None 0 false ([]) e28
unfolding opened
claim28 = refl

abbrev p28 : List Entry
p28 = e28 ∷ p27

abbrev e29 : Entry
e29 = entry 0 30 (Some 0) (kinds.Talk (Some 1)) (Some (down 4 0 1 1 (Line t13))) ((up 4 0 1 2 (Line t7)) ∷ []) ([])

claim29 : Makes s0 p28 ((down 4 0 1 1 (Line t13)) ∷ []) ([]) None 0 false ([]) e29
unfolding opened
claim29 = refl

abbrev p29 : List Entry
p29 = e29 ∷ p28

idle30_1 : IsIdle s1 p29 ([])
unfolding opened
idle30_1 = refl

idle30_2 : IsIdle s2 p29 ([])
unfolding opened
idle30_2 = refl

idle30_3 : IsIdle s3 p29 ([])
unfolding opened
idle30_3 = refl

abbrev e30 : Entry
e30 = entry 0 31 (Some 4) (kinds.Talk None) (Some (up 0 0 1 2 (Line t7))) ((down 0 0 1 2 (Line t7)) ∷ []) ([])

claim30 : Makes s4 p29 ((up 0 0 1 2 (Line t7)) ∷ []) ([]) None 0 false ([]) e30
unfolding opened
claim30 = refl

abbrev p30 : List Entry
p30 = e30 ∷ p29

abbrev e31 : Entry
e31 = entry 0 32 (Some 0) (kinds.Talk (Some 1)) (Some (down 4 0 1 2 (Line t7))) ((up 4 0 1 3 (Line t8)) ∷ []) ([])

claim31 : Makes s0 p30 ((down 4 0 1 2 (Line t7)) ∷ []) ([]) None 0 false ([]) e31
unfolding opened
claim31 = refl

abbrev p31 : List Entry
p31 = e31 ∷ p30

idle32_1 : IsIdle s1 p31 ([])
unfolding opened
idle32_1 = refl

idle32_2 : IsIdle s2 p31 ([])
unfolding opened
idle32_2 = refl

idle32_3 : IsIdle s3 p31 ([])
unfolding opened
idle32_3 = refl

abbrev e32 : Entry
e32 = entry 0 33 (Some 4) (kinds.Check found.Nolock t0) (Some (up 0 0 1 3 (Line t8))) ((down 0 0 1 3 (Line t11)) ∷ []) ([])

claim32 : Makes s4 p31 ((up 0 0 1 3 (Line t8)) ∷ []) ([]) None 0 false ([]) e32
unfolding opened
claim32 = refl

abbrev p32 : List Entry
p32 = e32 ∷ p31

abbrev e33 : Entry
e33 = entry 0 34 (Some 0) (kinds.Talk (Some 1)) (Some (down 4 0 1 3 (Line t11))) ((up 4 0 1 4 (Line t12)) ∷ []) ([])

claim33 : Makes s0 p32 ((down 4 0 1 3 (Line t11)) ∷ []) ([]) None 0 false ([]) e33
unfolding opened
claim33 = refl

abbrev p33 : List Entry
p33 = e33 ∷ p32

idle34_1 : IsIdle s1 p33 ([])
unfolding opened
idle34_1 = refl

idle34_2 : IsIdle s2 p33 ([])
unfolding opened
idle34_2 = refl

idle34_3 : IsIdle s3 p33 ([])
unfolding opened
idle34_3 = refl

abbrev e34 : Entry
e34 = entry 0 35 (Some 4) (kinds.Check found.Present t0) (Some (up 0 0 1 4 (Line t12))) ((down 0 0 1 4 (Line t9)) ∷ []) ([])

claim34 : Makes s4 p33 ((up 0 0 1 4 (Line t12)) ∷ []) ([]) None 0 false ([]) e34
unfolding opened
claim34 = refl

abbrev p34 : List Entry
p34 = e34 ∷ p33

abbrev e35 : Entry
e35 = entry 0 36 (Some 0) (kinds.Talk (Some 1)) (Some (down 4 0 1 4 (Line t9))) ([]) ([])

claim35 : Makes s0 p34 ((down 4 0 1 4 (Line t9)) ∷ []) ([]) None 0 false ([]) e35
unfolding opened
claim35 = refl

abbrev p35 : List Entry
p35 = e35 ∷ p34

idle36_1 : IsIdle s1 p35 ([])
unfolding opened
idle36_1 = refl

idle36_2 : IsIdle s2 p35 ([])
unfolding opened
idle36_2 = refl

idle36_3 : IsIdle s3 p35 ([])
unfolding opened
idle36_3 = refl

idle36_4 : IsIdle s4 p35 ([])
unfolding opened
idle36_4 = refl

abbrev e36 : Entry
e36 = entry 0 37 (Some 0) (kinds.Talk (Some 1)) None ((up 1 0 1 1 Opening) ∷ []) ([])

claim36 : Makes s0 p35 ([]) ([]) None 0 false ([]) e36
unfolding opened
claim36 = refl

abbrev p36 : List Entry
p36 = e36 ∷ p35

abbrev e37 : Entry
e37 = entry 0 38 (Some 1) (kinds.Talk None) (Some (up 0 0 1 1 Opening)) ((down 0 0 1 1 (Line t14)) ∷ []) ([])

claim37 : Makes s1 p36 ((up 0 0 1 1 Opening) ∷ []) ([]) None 0 false ([]) e37
unfolding opened
claim37 = refl

abbrev p37 : List Entry
p37 = e37 ∷ p36

idle38_2 : IsIdle s2 p37 ([])
unfolding opened
idle38_2 = refl

idle38_3 : IsIdle s3 p37 ([])
unfolding opened
idle38_3 = refl

idle38_4 : IsIdle s4 p37 ([])
unfolding opened
idle38_4 = refl

abbrev e38 : Entry
e38 = entry 0 39 (Some 0) (kinds.Talk (Some 1)) (Some (down 1 0 1 1 (Line t14))) ((up 1 0 1 2 (Line t7)) ∷ []) ([])

claim38 : Makes s0 p37 ((down 1 0 1 1 (Line t14)) ∷ []) ([]) None 0 false ([]) e38
unfolding opened
claim38 = refl

abbrev p38 : List Entry
p38 = e38 ∷ p37

abbrev e39 : Entry
e39 = entry 0 40 (Some 1) (kinds.Talk None) (Some (up 0 0 1 2 (Line t7))) ((down 0 0 1 2 (Line t7)) ∷ []) ([])

claim39 : Makes s1 p38 ((up 0 0 1 2 (Line t7)) ∷ []) ([]) None 0 false ([]) e39
unfolding opened
claim39 = refl

abbrev p39 : List Entry
p39 = e39 ∷ p38

idle40_2 : IsIdle s2 p39 ([])
unfolding opened
idle40_2 = refl

idle40_3 : IsIdle s3 p39 ([])
unfolding opened
idle40_3 = refl

idle40_4 : IsIdle s4 p39 ([])
unfolding opened
idle40_4 = refl

abbrev e40 : Entry
e40 = entry 0 41 (Some 0) (kinds.Talk (Some 1)) (Some (down 1 0 1 2 (Line t7))) ((up 1 0 1 3 (Line t15)) ∷ []) ([])

claim40 : Makes s0 p39 ((down 1 0 1 2 (Line t7)) ∷ []) ([]) None 0 false ([]) e40
unfolding opened
claim40 = refl

abbrev p40 : List Entry
p40 = e40 ∷ p39

abbrev e41 : Entry
e41 = entry 0 42 (Some 1) (kinds.Talk None) (Some (up 0 0 1 3 (Line t15))) ((down 0 0 1 3 (Line t16)) ∷ []) ([])

claim41 : Makes s1 p40 ((up 0 0 1 3 (Line t15)) ∷ []) ([]) None 0 false ([]) e41
unfolding opened
claim41 = refl

abbrev p41 : List Entry
p41 = e41 ∷ p40

idle42_2 : IsIdle s2 p41 ([])
unfolding opened
idle42_2 = refl

idle42_3 : IsIdle s3 p41 ([])
unfolding opened
idle42_3 = refl

idle42_4 : IsIdle s4 p41 ([])
unfolding opened
idle42_4 = refl

abbrev e42 : Entry
e42 = entry 0 43 (Some 0) (kinds.Order 1 1 (Some 600) (need 3 1) t0) (Some (down 1 0 1 3 (Line t16))) ((up 1 0 1 4 (Line t17)) ∷ []) ([])

claim42 : Makes s0 p41 ((down 1 0 1 3 (Line t16)) ∷ []) ([]) None 0 false ([]) e42
unfolding opened
claim42 = refl

abbrev p42 : List Entry
p42 = e42 ∷ p41

abbrev e43 : Entry
e43 = entry 0 44 (Some 1) (kinds.Gone (by.Peer 0 0) t0) (Some (up 0 0 1 4 (Line t17))) ((down 0 0 1 4 (Line t9)) ∷ []) ([])

claim43 : Makes s1 p42 ((up 0 0 1 4 (Line t17)) ∷ []) ([]) None 0 false ([]) e43
unfolding opened
claim43 = refl

abbrev p43 : List Entry
p43 = e43 ∷ p42

idle44_2 : IsIdle s2 p43 ([])
unfolding opened
idle44_2 = refl

idle44_3 : IsIdle s3 p43 ([])
unfolding opened
idle44_3 = refl

idle44_4 : IsIdle s4 p43 ([])
unfolding opened
idle44_4 = refl

abbrev e44 : Entry
e44 = entry 0 45 (Some 0) (kinds.Talk (Some 1)) (Some (down 1 0 1 4 (Line t9))) ([]) ([])

claim44 : Makes s0 p43 ((down 1 0 1 4 (Line t9)) ∷ []) ([]) None 0 false ([]) e44
unfolding opened
claim44 = refl

abbrev p44 : List Entry
p44 = e44 ∷ p43

abbrev e45 : Entry
e45 = entry 0 46 (Some 1) (kinds.Log (Location t0)) None ([]) (t18 ∷ [])

claim45 : Makes s1 p44 ([]) ([]) None 0 false ([]) e45
unfolding opened
claim45 = refl

abbrev p45 : List Entry
p45 = e45 ∷ p44

idle46_2 : IsIdle s2 p45 ([])
unfolding opened
idle46_2 = refl

idle46_3 : IsIdle s3 p45 ([])
unfolding opened
idle46_3 = refl

idle46_4 : IsIdle s4 p45 ([])
unfolding opened
idle46_4 = refl

abbrev e46 : Entry
e46 = entry 0 47 (Some 0) (kinds.Log (Location t0)) None ([]) (t19 ∷ [])

claim46 : Makes s0 p45 ([]) ([]) None 0 false ([]) e46
unfolding opened
claim46 = refl

abbrev p46 : List Entry
p46 = e46 ∷ p45

idle47_1 : IsIdle s1 p46 ([])
unfolding opened
idle47_1 = refl

idle47_2 : IsIdle s2 p46 ([])
unfolding opened
idle47_2 = refl

idle47_3 : IsIdle s3 p46 ([])
unfolding opened
idle47_3 = refl

idle47_4 : IsIdle s4 p46 ([])
unfolding opened
idle47_4 = refl

abbrev e47 : Entry
e47 = entry 0 48 (Some 0) (kinds.End 1 (outcomes.Dropped (proof (need 3 1) (2 ∷ []) ([]) (3 ∷ 4 ∷ [])))) None ((up 1 0 1 5 Closing) ∷ (up 2 0 1 4 (Line t20)) ∷ (up 2 0 1 5 Closing) ∷ (up 3 0 1 5 Closing) ∷ (up 4 0 1 5 Closing) ∷ []) ([])

claim47 : Makes s0 p46 ([]) ([]) None 0 false ([]) e47
unfolding opened
claim47 = refl

abbrev p47 : List Entry
p47 = e47 ∷ p46

abbrev e48 : Entry
e48 = entry 0 49 (Some 1) (kinds.Close 0 0 false) (Some (up 0 0 1 5 Closing)) ([]) ([])

claim48 : Makes s1 p47 ((up 0 0 1 5 Closing) ∷ []) ([]) None 0 false ([]) e48
unfolding opened
claim48 = refl

abbrev p48 : List Entry
p48 = e48 ∷ p47

abbrev e49 : Entry
e49 = entry 0 50 (Some 2) (kinds.Release 5 t0) (Some (up 0 0 1 4 (Line t20))) ([]) ([])

claim49 : Makes s2 p48 ((up 0 0 1 4 (Line t20)) ∷ []) ([]) None 0 false ([]) e49
unfolding opened
claim49 = refl

abbrev p49 : List Entry
p49 = e49 ∷ p48

abbrev e50 : Entry
e50 = entry 0 51 (Some 3) (kinds.Close 0 0 false) (Some (up 0 0 1 5 Closing)) ([]) ([])

claim50 : Makes s3 p49 ((up 0 0 1 5 Closing) ∷ []) ([]) None 0 false ([]) e50
unfolding opened
claim50 = refl

abbrev p50 : List Entry
p50 = e50 ∷ p49

abbrev e51 : Entry
e51 = entry 0 52 (Some 4) (kinds.Close 0 0 false) (Some (up 0 0 1 5 Closing)) ([]) ([])

claim51 : Makes s4 p50 ((up 0 0 1 5 Closing) ∷ []) ([]) None 0 false ([]) e51
unfolding opened
claim51 = refl

abbrev p51 : List Entry
p51 = e51 ∷ p50

idle52_0 : IsIdle s0 p51 ([])
unfolding opened
idle52_0 = refl

idle52_1 : IsIdle s1 p51 ([])
unfolding opened
idle52_1 = refl

abbrev e52 : Entry
e52 = entry 0 53 (Some 2) (kinds.Close 0 0 false) (Some (up 0 0 1 5 Closing)) ([]) ([])

claim52 : Makes s2 p51 ((up 0 0 1 5 Closing) ∷ []) ([]) None 0 false ([]) e52
unfolding opened
claim52 = refl

abbrev p52 : List Entry
p52 = e52 ∷ p51

idle53_0 : IsIdle s0 p52 ([])
unfolding opened
idle53_0 = refl

idle53_1 : IsIdle s1 p52 ([])
unfolding opened
idle53_1 = refl

idle53_2 : IsIdle s2 p52 ([])
unfolding opened
idle53_2 = refl

idle53_3 : IsIdle s3 p52 ([])
unfolding opened
idle53_3 = refl

idle53_4 : IsIdle s4 p52 ([])
unfolding opened
idle53_4 = refl
