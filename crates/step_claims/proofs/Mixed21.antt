-- The run of the script mixed-21: each entry that a turn made is what the step makes (written by tools/journal_claims.py).
use Rattle.std.specs.Prelude.{refl, ℕ, true, false, List, [], ◌∷◌, Some, None, codes}
use Rattle.annex_base.specs.declared.kinds.Call.TheVariants as calls
use Rattle.annex_base.specs.declared.kinds.Found.TheVariants as found
use Rattle.annex_base.specs.declared.kinds.Word.TheVariants as words
use Rattle.log_lines.specs.declared.entry.LogKind.TheVariants as logs
use Rattle.run_data.specs.declared.entry.Entry.{Entry}
use Rattle.run_data.specs.declared.entry.EntryKind.TheVariants as kinds
use Rattle.run_data.specs.declared.entry.By.TheVariants as by
use Rattle.run_data.specs.declared.entry.FrameText.TheVariants.{Opening, Closing, Bytes, Line}
use Rattle.run_data.specs.declared.entry.FrameView.{FrameView}
use Rattle.run_data.specs.declared.entry.LogFile.TheVariants.{Location, Of}
use Rattle.run_data.specs.declared.job.JobKind.TheVariants as jobs
use Rattle.run_data.specs.declared.job.Outcome.TheVariants as outcomes
use Rattle.run_data.specs.declared.job.DropRefusal.TheVariants as drops
use Rattle.run_data.specs.declared.job.TransferRefusal.TheVariants as transfers
use Rattle.run_data.specs.declared.job.Cause.TheVariants as causes
use Rattle.run_data.specs.declared.job.SourceCause.TheVariants as sources
use Rattle.run_data.specs.declared.job.Denial.TheVariants as denials
use Rattle.run_data.specs.declared.run.RepoView.{RepoView}
use Rattle.node_model.specs.SetUp.{SetUp}
use Rattle.step_claims.specs.Opened.{opened}
use Rattle.step_claims.specs.Claims.{Closes, Crashes, IsIdle, Makes, down, end, entry, job, need, proof, repository, set_up, up}

abbrev t0 : List ℕ
t0 = codes "WORM-s3-m5--a/b:c%d&e"

abbrev t1 : List ℕ
t1 = codes "1700000000s 1 11111111-1111-4111-8111-111111111100"

abbrev t2 : List ℕ
t2 = codes "1700000000s 1 33333333-1111-4111-8111-111111111102"

abbrev t3 : List ℕ
t3 = codes "1700000000s 1 22222222-1111-4111-8111-111111111101"

abbrev t4 : List ℕ
t4 = codes "AUTH-SUCCESS 22222222-1111-4111-8111-111111111101"

abbrev t5 : List ℕ
t5 = codes "VERSION 3"

abbrev t6 : List ℕ
t6 = codes "GETTIMESTAMP"

abbrev t7 : List ℕ
t7 = codes "TIMESTAMP 0"

abbrev t8 : List ℕ
t8 = codes "REMOVE-BEFORE 600 WORM-s3-m5--a/b:c%d&e"

abbrev t9 : List ℕ
t9 = codes "AUTH-SUCCESS 11111111-1111-4111-8111-111111111100"

abbrev t10 : List ℕ
t10 = codes "LOCKCONTENT WORM-s3-m5--a/b:c%d&e"

abbrev t11 : List ℕ
t11 = codes "SUCCESS"

abbrev t12 : List ℕ
t12 = codes "1700000000.000000001s 0 22222222-1111-4111-8111-111111111101"

abbrev t13 : List ℕ
t13 = codes "UNLOCKCONTENT WORM-s3-m5--a/b:c%d&e"

abbrev t14 : List ℕ
t14 = codes "AUTH-SUCCESS 44444444-1111-4111-8111-111111111103"

abbrev t15 : List ℕ
t15 = codes "GET 0  WORM-s3-m5--a/b:c%d&e"

abbrev t16 : List ℕ
t16 = codes "TIMESTAMP 1200"

abbrev t17 : List ℕ
t17 = codes "DATA 3"

abbrev t18 : List ℕ
t18 = codes "VALID"

abbrev t19 : List ℕ
t19 = codes "1700001200s 1 22222222-1111-4111-8111-111111111101"

abbrev t20 : List ℕ
t20 = codes "1700001200.000000001s 0 22222222-1111-4111-8111-111111111101"

abbrev t21 : List ℕ
t21 = codes "REMOVE-BEFORE 1800 WORM-s3-m5--a/b:c%d&e"

abbrev t22 : List ℕ
t22 = codes "1700001200s 0 44444444-1111-4111-8111-111111111103"

abbrev repos : List RepoView
repos = (repository (codes "a") (17 ∷ 17 ∷ 17 ∷ 17 ∷ 17 ∷ 17 ∷ 65 ∷ 17 ∷ 129 ∷ 17 ∷ 17 ∷ 17 ∷ 17 ∷ 17 ∷ 17 ∷ 0 ∷ []) 0 3 true) ∷ (repository (codes "b") (34 ∷ 34 ∷ 34 ∷ 34 ∷ 17 ∷ 17 ∷ 65 ∷ 17 ∷ 129 ∷ 17 ∷ 17 ∷ 17 ∷ 17 ∷ 17 ∷ 17 ∷ 1 ∷ []) 0 3 false) ∷ (repository (codes "c") (51 ∷ 51 ∷ 51 ∷ 51 ∷ 17 ∷ 17 ∷ 65 ∷ 17 ∷ 129 ∷ 17 ∷ 17 ∷ 17 ∷ 17 ∷ 17 ∷ 17 ∷ 2 ∷ []) 0 1 true) ∷ (repository (codes "d") (68 ∷ 68 ∷ 68 ∷ 68 ∷ 17 ∷ 17 ∷ 65 ∷ 17 ∷ 129 ∷ 17 ∷ 17 ∷ 17 ∷ 17 ∷ 17 ∷ 17 ∷ 3 ∷ []) 0 3 true) ∷ []

abbrev s0 : SetUp
s0 = set_up 0 repos ([])

abbrev s1 : SetUp
s1 = set_up 1 repos ([])

abbrev s2 : SetUp
s2 = set_up 2 repos ([])

abbrev s3 : SetUp
s3 = set_up 3 repos ([])

abbrev e0 : Entry
e0 = entry 0 1 (Some 0) (kinds.Gain by.Script 3 t0) None ([]) ([])

abbrev p0 : List Entry
p0 = e0 ∷ []

abbrev e1 : Entry
e1 = entry 0 2 (Some 0) (kinds.Log (Location t0)) None ([]) (t1 ∷ [])

abbrev p1 : List Entry
p1 = e1 ∷ p0

abbrev e2 : Entry
e2 = entry 0 3 (Some 2) (kinds.Gain by.Script 3 t0) None ([]) ([])

abbrev p2 : List Entry
p2 = e2 ∷ p1

abbrev e3 : Entry
e3 = entry 0 4 (Some 2) (kinds.Log (Location t0)) None ([]) (t2 ∷ [])

abbrev p3 : List Entry
p3 = e3 ∷ p2

abbrev e4 : Entry
e4 = entry 0 5 (Some 1) (kinds.Gain by.Script 3 t0) None ([]) ([])

abbrev p4 : List Entry
p4 = e4 ∷ p3

abbrev e5 : Entry
e5 = entry 0 6 (Some 1) (kinds.Log (Location t0)) None ([]) (t3 ∷ [])

abbrev p5 : List Entry
p5 = e5 ∷ p4

abbrev e6 : Entry
e6 = entry 0 7 (Some 0) (kinds.Begin 1 (job jobs.Drop t0 None (Some 1))) None ([]) ([])

abbrev p6 : List Entry
p6 = e6 ∷ p5

abbrev e7 : Entry
e7 = entry 0 8 (Some 0) (kinds.Share 4 600000 (by.Job 1) t0) None ([]) ([])

claim7 : Makes s0 p6 ([]) ([]) None 0 false ([]) e7
unfolding opened
claim7 = refl

abbrev p7 : List Entry
p7 = e7 ∷ p6

abbrev e8 : Entry
e8 = entry 0 9 (Some 0) (kinds.Talk (Some 1)) None ((up 1 0 1 1 Opening) ∷ []) ([])

claim8 : Makes s0 p7 ([]) ([]) None 0 false ([]) e8
unfolding opened
claim8 = refl

abbrev p8 : List Entry
p8 = e8 ∷ p7

abbrev e9 : Entry
e9 = entry 0 10 (Some 1) (kinds.Talk None) (Some (up 0 0 1 1 Opening)) ((down 0 0 1 1 (Line t4)) ∷ []) ([])

claim9 : Makes s1 p8 ((up 0 0 1 1 Opening) ∷ []) ([]) None 0 false ([]) e9
unfolding opened
claim9 = refl

abbrev p9 : List Entry
p9 = e9 ∷ p8

abbrev e10 : Entry
e10 = entry 0 11 (Some 0) (kinds.Talk (Some 1)) (Some (down 1 0 1 1 (Line t4))) ((up 1 0 1 2 (Line t5)) ∷ []) ([])

claim10 : Makes s0 p9 ((down 1 0 1 1 (Line t4)) ∷ []) ([]) None 0 false ([]) e10
unfolding opened
claim10 = refl

abbrev p10 : List Entry
p10 = e10 ∷ p9

abbrev e11 : Entry
e11 = entry 0 12 (Some 1) (kinds.Talk None) (Some (up 0 0 1 2 (Line t5))) ((down 0 0 1 2 (Line t5)) ∷ []) ([])

claim11 : Makes s1 p10 ((up 0 0 1 2 (Line t5)) ∷ []) ([]) None 0 false ([]) e11
unfolding opened
claim11 = refl

abbrev p11 : List Entry
p11 = e11 ∷ p10

abbrev e12 : Entry
e12 = entry 0 13 (Some 0) (kinds.Talk (Some 1)) (Some (down 1 0 1 2 (Line t5))) ((up 1 0 1 3 (Line t6)) ∷ []) ([])

claim12 : Makes s0 p11 ((down 1 0 1 2 (Line t5)) ∷ []) ([]) None 0 false ([]) e12
unfolding opened
claim12 = refl

abbrev p12 : List Entry
p12 = e12 ∷ p11

abbrev e13 : Entry
e13 = entry 0 14 (Some 1) (kinds.Talk None) (Some (up 0 0 1 3 (Line t6))) ((down 0 0 1 3 (Line t7)) ∷ []) ([])

claim13 : Makes s1 p12 ((up 0 0 1 3 (Line t6)) ∷ []) ([]) None 0 false ([]) e13
unfolding opened
claim13 = refl

abbrev p13 : List Entry
p13 = e13 ∷ p12

abbrev e14 : Entry
e14 = entry 0 15 (Some 0) (kinds.Order 1 1 (Some 600) (need 1 1) t0) (Some (down 1 0 1 3 (Line t7))) ((up 1 0 1 4 (Line t8)) ∷ []) ([])

claim14 : Makes s0 p13 ((down 1 0 1 3 (Line t7)) ∷ []) ([]) None 0 false ([]) e14
unfolding opened
claim14 = refl

abbrev p14 : List Entry
p14 = e14 ∷ p13

abbrev e15 : Entry
e15 = entry 0 16 (Some 1) (kinds.Close 0 0 false) None ((down 0 0 1 4 Closing) ∷ []) ([])

claim15 : Closes s1 p14 e15 (end 0 0 false)
unfolding opened
claim15 = refl

abbrev p15 : List Entry
p15 = e15 ∷ p14

abbrev e16 : Entry
e16 = entry 0 17 (Some 0) (kinds.Talk (Some 1)) (Some (down 1 0 1 4 Closing)) ([]) ([])

claim16 : Makes s0 p15 ((down 1 0 1 4 Closing) ∷ []) ([]) None 0 false ([]) e16
unfolding opened
claim16 = refl

abbrev p16 : List Entry
p16 = e16 ∷ p15

abbrev e17 : Entry
e17 = entry 0 18 (Some 0) (kinds.End 1 (outcomes.Refused (drops.Lost true))) None ([]) ([])

claim17 : Makes s0 p16 ([]) ([]) None 0 false ([]) e17
unfolding opened
claim17 = refl

abbrev p17 : List Entry
p17 = e17 ∷ p16

abbrev e18 : Entry
e18 = entry 0 19 (Some 0) (kinds.Crash 0) None ([]) ([])

claim18 : Crashes s0 p17 e18
unfolding opened
claim18 = refl

abbrev p18 : List Entry
p18 = e18 ∷ p17

abbrev e19 : Entry
e19 = entry 0 20 (Some 1) (kinds.Begin 1 (job jobs.Drop t0 None None)) None ([]) ([])

abbrev p19 : List Entry
p19 = e19 ∷ p18

abbrev e20 : Entry
e20 = entry 0 21 (Some 1) (kinds.Bar 1 (need 1 1) t0) None ([]) ([])

claim20 : Makes s1 p19 ([]) ([]) None 0 false ([]) e20
unfolding opened
claim20 = refl

abbrev p20 : List Entry
p20 = e20 ∷ p19

abbrev e21 : Entry
e21 = entry 0 22 (Some 1) (kinds.Talk (Some 1)) None ((up 0 0 1 1 Opening) ∷ []) ([])

claim21 : Makes s1 p20 ([]) ([]) None 0 false ([]) e21
unfolding opened
claim21 = refl

abbrev p21 : List Entry
p21 = e21 ∷ p20

abbrev e22 : Entry
e22 = entry 0 23 (Some 0) (kinds.Talk None) (Some (up 1 0 1 1 Opening)) ((down 1 0 1 1 (Line t9)) ∷ []) ([])

claim22 : Makes s0 p21 ((up 1 0 1 1 Opening) ∷ []) ([]) None 0 false ([]) e22
unfolding opened
claim22 = refl

abbrev p22 : List Entry
p22 = e22 ∷ p21

abbrev e23 : Entry
e23 = entry 0 24 (Some 1) (kinds.Talk (Some 1)) (Some (down 0 0 1 1 (Line t9))) ((up 0 0 1 2 (Line t5)) ∷ []) ([])

claim23 : Makes s1 p22 ((down 0 0 1 1 (Line t9)) ∷ []) ([]) None 0 false ([]) e23
unfolding opened
claim23 = refl

abbrev p23 : List Entry
p23 = e23 ∷ p22

abbrev e24 : Entry
e24 = entry 0 25 (Some 0) (kinds.Talk None) (Some (up 1 0 1 2 (Line t5))) ((down 1 0 1 2 (Line t5)) ∷ []) ([])

claim24 : Makes s0 p23 ((up 1 0 1 2 (Line t5)) ∷ []) ([]) None 0 false ([]) e24
unfolding opened
claim24 = refl

abbrev p24 : List Entry
p24 = e24 ∷ p23

abbrev e25 : Entry
e25 = entry 0 26 (Some 1) (kinds.Talk (Some 1)) (Some (down 0 0 1 2 (Line t5))) ((up 0 0 1 3 (Line t10)) ∷ []) ([])

claim25 : Makes s1 p24 ((down 0 0 1 2 (Line t5)) ∷ []) ([]) None 0 false ([]) e25
unfolding opened
claim25 = refl

abbrev p25 : List Entry
p25 = e25 ∷ p24

abbrev e26 : Entry
e26 = entry 0 27 (Some 0) (kinds.Share 14 600000 (by.Peer 1 0) t0) (Some (up 1 0 1 3 (Line t10))) ((down 1 0 1 3 (Line t11)) ∷ []) ([])

claim26 : Makes s0 p25 ((up 1 0 1 3 (Line t10)) ∷ []) ([]) None 0 false ([]) e26
unfolding opened
claim26 = refl

abbrev p26 : List Entry
p26 = e26 ∷ p25

abbrev e27 : Entry
e27 = entry 0 28 (Some 1) (kinds.Talk (Some 1)) (Some (down 0 0 1 3 (Line t11))) ([]) ([])

claim27 : Makes s1 p26 ((down 0 0 1 3 (Line t11)) ∷ []) ([]) None 0 false ([]) e27
unfolding opened
claim27 = refl

abbrev p27 : List Entry
p27 = e27 ∷ p26

abbrev e28 : Entry
e28 = entry 0 29 (Some 1) (kinds.Gone (by.Job 1) t0) None ([]) ([])

claim28 : Makes s1 p27 ([]) ([]) None 0 false ([]) e28
unfolding opened
claim28 = refl

abbrev p28 : List Entry
p28 = e28 ∷ p27

abbrev e29 : Entry
e29 = entry 0 30 (Some 1) (kinds.Log (Location t0)) None ([]) (t12 ∷ [])

claim29 : Makes s1 p28 ([]) ([]) None 0 false ([]) e29
unfolding opened
claim29 = refl

abbrev p29 : List Entry
p29 = e29 ∷ p28

abbrev e30 : Entry
e30 = entry 0 31 (Some 1) (kinds.End 1 (outcomes.Dropped (proof (need 1 1) (0 ∷ []) ([]) ([])))) None ((up 0 0 1 4 (Line t13)) ∷ (up 0 0 1 5 Closing) ∷ []) ([])

claim30 : Makes s1 p29 ([]) ([]) None 0 false ([]) e30
unfolding opened
claim30 = refl

abbrev p30 : List Entry
p30 = e30 ∷ p29

abbrev e31 : Entry
e31 = entry 0 32 (Some 0) (kinds.Release 14 t0) (Some (up 1 0 1 4 (Line t13))) ([]) ([])

claim31 : Makes s0 p30 ((up 1 0 1 4 (Line t13)) ∷ []) ([]) None 0 false ([]) e31
unfolding opened
claim31 = refl

abbrev p31 : List Entry
p31 = e31 ∷ p30

abbrev e32 : Entry
e32 = entry 0 33 (Some 0) (kinds.Close 1 0 false) (Some (up 1 0 1 5 Closing)) ([]) ([])

claim32 : Makes s0 p31 ((up 1 0 1 5 Closing) ∷ []) ([]) None 0 false ([]) e32
unfolding opened
claim32 = refl

abbrev p32 : List Entry
p32 = e32 ∷ p31

abbrev e33 : Entry
e33 = entry 599999 34 None (kinds.Wait 599999) None ([]) ([])

abbrev p33 : List Entry
p33 = e33 ∷ p32

abbrev e34 : Entry
e34 = entry 599999 35 (Some 2) (kinds.Begin 1 (job jobs.Drop t0 None (Some 3))) None ([]) ([])

abbrev p34 : List Entry
p34 = e34 ∷ p33

abbrev e35 : Entry
e35 = entry 599999 36 (Some 2) (kinds.Share 4 1199999 (by.Job 1) t0) None ([]) ([])

claim35 : Makes s2 p34 ([]) ([]) None 0 false ([]) e35
unfolding opened
claim35 = refl

abbrev p35 : List Entry
p35 = e35 ∷ p34

abbrev e36 : Entry
e36 = entry 599999 37 (Some 1) (kinds.Begin 2 (job jobs.Get t0 None None)) None ([]) ([])

abbrev p36 : List Entry
p36 = e36 ∷ p35

abbrev e37 : Entry
e37 = entry 599999 38 (Some 0) (kinds.Begin 2 (job jobs.MoveFrom t0 None (Some 3))) None ([]) ([])

abbrev p37 : List Entry
p37 = e37 ∷ p36

abbrev e38 : Entry
e38 = entry 599999 39 (Some 1) (kinds.Log (Location t0)) None ([]) (t2 ∷ [])

abbrev p38 : List Entry
p38 = e38 ∷ p37

abbrev e39 : Entry
e39 = entry 1200000 40 None (kinds.Wait 600001) None ([]) ([])

abbrev p39 : List Entry
p39 = e39 ∷ p38

abbrev e40 : Entry
e40 = entry 1200000 41 (Some 1) (kinds.Begin 3 (job jobs.Drop t0 None None)) None ([]) ([])

abbrev p40 : List Entry
p40 = e40 ∷ p39

abbrev e41 : Entry
e41 = entry 1200000 42 (Some 3) (kinds.Begin 1 (job jobs.MoveTo t0 None (Some 0))) None ([]) ([])

abbrev p41 : List Entry
p41 = e41 ∷ p40

abbrev e42 : Entry
e42 = entry 1200000 43 (Some 0) (kinds.Talk (Some 2)) None ([]) ([])

claim42 : Makes s0 p41 ([]) ([]) None 0 false ([]) e42
unfolding opened
claim42 = refl

abbrev p42 : List Entry
p42 = e42 ∷ p41

abbrev e43 : Entry
e43 = entry 1200000 44 (Some 1) (kinds.Talk (Some 2)) None ((up 0 0 2 1 Opening) ∷ []) ([])

claim43 : Makes s1 p42 ([]) ([]) None 0 false ([]) e43
unfolding opened
claim43 = refl

abbrev p43 : List Entry
p43 = e43 ∷ p42

abbrev e44 : Entry
e44 = entry 1200000 45 (Some 2) (kinds.Talk (Some 1)) None ((up 3 0 1 1 Opening) ∷ []) ([])

claim44 : Makes s2 p43 ([]) ([]) None 0 false ([]) e44
unfolding opened
claim44 = refl

abbrev p44 : List Entry
p44 = e44 ∷ p43

abbrev e45 : Entry
e45 = entry 1200000 46 (Some 3) (kinds.Talk None) (Some (up 2 0 1 1 Opening)) ((down 2 0 1 1 (Line t14)) ∷ []) ([])

claim45 : Makes s3 p44 ((up 2 0 1 1 Opening) ∷ []) ([]) None 0 false ([]) e45
unfolding opened
claim45 = refl

abbrev p45 : List Entry
p45 = e45 ∷ p44

abbrev e46 : Entry
e46 = entry 1200000 47 (Some 0) (kinds.Talk None) (Some (up 1 0 2 1 Opening)) ((down 1 0 2 1 (Line t9)) ∷ []) ([])

claim46 : Makes s0 p45 ((up 1 0 2 1 Opening) ∷ []) ([]) None 0 false ([]) e46
unfolding opened
claim46 = refl

abbrev p46 : List Entry
p46 = e46 ∷ p45

abbrev e47 : Entry
e47 = entry 1200000 48 (Some 1) (kinds.Talk (Some 2)) (Some (down 0 0 2 1 (Line t9))) ((up 0 0 2 2 (Line t5)) ∷ []) ([])

claim47 : Makes s1 p46 ((down 0 0 2 1 (Line t9)) ∷ []) ([]) None 0 false ([]) e47
unfolding opened
claim47 = refl

abbrev p47 : List Entry
p47 = e47 ∷ p46

abbrev e48 : Entry
e48 = entry 1200000 49 (Some 2) (kinds.Talk (Some 1)) (Some (down 3 0 1 1 (Line t14))) ((up 3 0 1 2 (Line t5)) ∷ []) ([])

claim48 : Makes s2 p47 ((down 3 0 1 1 (Line t14)) ∷ []) ([]) None 0 false ([]) e48
unfolding opened
claim48 = refl

abbrev p48 : List Entry
p48 = e48 ∷ p47

abbrev e49 : Entry
e49 = entry 1200000 50 (Some 3) (kinds.Talk None) (Some (up 2 0 1 2 (Line t5))) ((down 2 0 1 2 (Line t5)) ∷ []) ([])

claim49 : Makes s3 p48 ((up 2 0 1 2 (Line t5)) ∷ []) ([]) None 0 false ([]) e49
unfolding opened
claim49 = refl

abbrev p49 : List Entry
p49 = e49 ∷ p48

abbrev e50 : Entry
e50 = entry 1200000 51 (Some 0) (kinds.Talk None) (Some (up 1 0 2 2 (Line t5))) ((down 1 0 2 2 (Line t5)) ∷ []) ([])

claim50 : Makes s0 p49 ((up 1 0 2 2 (Line t5)) ∷ []) ([]) None 0 false ([]) e50
unfolding opened
claim50 = refl

abbrev p50 : List Entry
p50 = e50 ∷ p49

abbrev e51 : Entry
e51 = entry 1200000 52 (Some 1) (kinds.Talk (Some 2)) (Some (down 0 0 2 2 (Line t5))) ((up 0 0 2 3 (Line t15)) ∷ []) ([])

claim51 : Makes s1 p50 ((down 0 0 2 2 (Line t5)) ∷ []) ([]) None 0 false ([]) e51
unfolding opened
claim51 = refl

abbrev p51 : List Entry
p51 = e51 ∷ p50

abbrev e52 : Entry
e52 = entry 1200000 53 (Some 2) (kinds.Talk (Some 1)) (Some (down 3 0 1 2 (Line t5))) ((up 3 0 1 3 (Line t6)) ∷ []) ([])

claim52 : Makes s2 p51 ((down 3 0 1 2 (Line t5)) ∷ []) ([]) None 0 false ([]) e52
unfolding opened
claim52 = refl

abbrev p52 : List Entry
p52 = e52 ∷ p51

abbrev e53 : Entry
e53 = entry 1200000 54 (Some 3) (kinds.Talk None) (Some (up 2 0 1 3 (Line t6))) ((down 2 0 1 3 (Line t16)) ∷ []) ([])

claim53 : Makes s3 p52 ((up 2 0 1 3 (Line t6)) ∷ []) ([]) None 0 false ([]) e53
unfolding opened
claim53 = refl

abbrev p53 : List Entry
p53 = e53 ∷ p52

abbrev e54 : Entry
e54 = entry 1200000 55 (Some 0) (kinds.Talk None) (Some (up 1 0 2 3 (Line t15))) ((down 1 0 2 3 (Line t17)) ∷ []) ([])

claim54 : Makes s0 p53 ((up 1 0 2 3 (Line t15)) ∷ []) ([]) None 0 false ([]) e54
unfolding opened
claim54 = refl

abbrev p54 : List Entry
p54 = e54 ∷ p53

abbrev e55 : Entry
e55 = entry 1200000 56 (Some 1) (kinds.Talk (Some 2)) (Some (down 0 0 2 3 (Line t17))) ([]) ([])

claim55 : Makes s1 p54 ((down 0 0 2 3 (Line t17)) ∷ []) ([]) None 0 false ([]) e55
unfolding opened
claim55 = refl

abbrev p55 : List Entry
p55 = e55 ∷ p54

abbrev e56 : Entry
e56 = entry 1200000 57 (Some 2) (kinds.End 1 (outcomes.Refused (drops.Expired 1199999 1200000))) (Some (down 3 0 1 3 (Line t16))) ((up 3 0 1 4 Closing) ∷ []) ([])

claim56 : Makes s2 p55 ((down 3 0 1 3 (Line t16)) ∷ []) ([]) None 0 false ([]) e56
unfolding opened
claim56 = refl

abbrev p56 : List Entry
p56 = e56 ∷ p55

abbrev e57 : Entry
e57 = entry 1200000 58 (Some 3) (kinds.Close 2 0 false) (Some (up 2 0 1 4 Closing)) ([]) ([])

claim57 : Makes s3 p56 ((up 2 0 1 4 Closing) ∷ []) ([]) None 0 false ([]) e57
unfolding opened
claim57 = refl

abbrev p57 : List Entry
p57 = e57 ∷ p56

abbrev e58 : Entry
e58 = entry 1200000 59 (Some 0) (kinds.Talk None) None ((down 1 0 2 4 (Bytes 3)) ∷ []) ([])

claim58 : Makes s0 p57 ([]) ([]) None 0 false ([]) e58
unfolding opened
claim58 = refl

abbrev p58 : List Entry
p58 = e58 ∷ p57

abbrev e59 : Entry
e59 = entry 1200000 60 (Some 1) (kinds.Talk (Some 2)) (Some (down 0 0 2 4 (Bytes 3))) ([]) ([])

claim59 : Makes s1 p58 ((down 0 0 2 4 (Bytes 3)) ∷ []) ([]) None 0 false ([]) e59
unfolding opened
claim59 = refl

abbrev p59 : List Entry
p59 = e59 ∷ p58

abbrev e60 : Entry
e60 = entry 1200000 61 (Some 3) (kinds.End 1 (outcomes.TransferRefused transfers.NotHere)) None ([]) ([])

claim60 : Makes s3 p59 ([]) ([]) None 0 false ([]) e60
unfolding opened
claim60 = refl

abbrev p60 : List Entry
p60 = e60 ∷ p59

abbrev e61 : Entry
e61 = entry 1200000 62 (Some 0) (kinds.Talk None) None ((down 1 0 2 5 (Line t18)) ∷ []) ([])

claim61 : Makes s0 p60 ([]) ([]) None 0 false ([]) e61
unfolding opened
claim61 = refl

abbrev p61 : List Entry
p61 = e61 ∷ p60

abbrev e62 : Entry
e62 = entry 1200000 63 (Some 1) (kinds.Gain (by.Job 2) 3 t0) (Some (down 0 0 2 5 (Line t18))) ((up 0 0 2 4 (Line t11)) ∷ []) ([])

claim62 : Makes s1 p61 ((down 0 0 2 5 (Line t18)) ∷ []) ([]) None 0 true ([]) e62
unfolding opened
claim62 = refl

abbrev p62 : List Entry
p62 = e62 ∷ p61

abbrev e63 : Entry
e63 = entry 1200000 64 (Some 0) (kinds.Talk None) (Some (up 1 0 2 4 (Line t11))) ([]) ([])

claim63 : Makes s0 p62 ((up 1 0 2 4 (Line t11)) ∷ []) ([]) None 0 false ([]) e63
unfolding opened
claim63 = refl

abbrev p63 : List Entry
p63 = e63 ∷ p62

abbrev e64 : Entry
e64 = entry 1200000 65 (Some 1) (kinds.Log (Location t0)) None ([]) (t19 ∷ [])

claim64 : Makes s1 p63 ([]) ([]) None 0 false ([]) e64
unfolding opened
claim64 = refl

abbrev p64 : List Entry
p64 = e64 ∷ p63

abbrev e65 : Entry
e65 = entry 1200000 66 (Some 0) (kinds.Share 25 1800000 (by.Job 2) t0) None ([]) ([])

claim65 : Makes s0 p64 ([]) ([]) None 0 false ([]) e65
unfolding opened
claim65 = refl

abbrev p65 : List Entry
p65 = e65 ∷ p64

abbrev e66 : Entry
e66 = entry 1200000 67 (Some 1) (kinds.End 2 (outcomes.Got (Some 0) (Some 0))) None ((up 0 0 2 5 Closing) ∷ []) ([])

claim66 : Makes s1 p65 ([]) ([]) None 0 false ([]) e66
unfolding opened
claim66 = refl

abbrev p66 : List Entry
p66 = e66 ∷ p65

abbrev e67 : Entry
e67 = entry 1200000 68 (Some 0) (kinds.Close 1 0 false) (Some (up 1 0 2 5 Closing)) ([]) ([])

claim67 : Makes s0 p66 ((up 1 0 2 5 Closing) ∷ []) ([]) None 0 false ([]) e67
unfolding opened
claim67 = refl

abbrev p67 : List Entry
p67 = e67 ∷ p66

abbrev e68 : Entry
e68 = entry 1200000 69 (Some 1) (kinds.Bar 3 (need 1 1) t0) None ([]) ([])

claim68 : Makes s1 p67 ([]) ([]) None 0 false ([]) e68
unfolding opened
claim68 = refl

abbrev p68 : List Entry
p68 = e68 ∷ p67

abbrev e69 : Entry
e69 = entry 1200000 70 (Some 0) (kinds.Talk (Some 2)) None ((up 3 0 1 1 Opening) ∷ []) ([])

claim69 : Makes s0 p68 ([]) ([]) None 0 false ([]) e69
unfolding opened
claim69 = refl

abbrev p69 : List Entry
p69 = e69 ∷ p68

abbrev e70 : Entry
e70 = entry 1200000 71 (Some 1) (kinds.Talk (Some 3)) None ((up 0 1 1 1 Opening) ∷ []) ([])

claim70 : Makes s1 p69 ([]) ([]) None 0 false ([]) e70
unfolding opened
claim70 = refl

abbrev p70 : List Entry
p70 = e70 ∷ p69

abbrev e71 : Entry
e71 = entry 1200000 72 (Some 3) (kinds.Talk None) (Some (up 0 0 1 1 Opening)) ((down 0 0 1 1 (Line t14)) ∷ []) ([])

claim71 : Makes s3 p70 ((up 0 0 1 1 Opening) ∷ []) ([]) None 0 false ([]) e71
unfolding opened
claim71 = refl

abbrev p71 : List Entry
p71 = e71 ∷ p70

abbrev e72 : Entry
e72 = entry 1200000 73 (Some 0) (kinds.Talk None) (Some (up 1 1 1 1 Opening)) ((down 1 1 1 1 (Line t9)) ∷ []) ([])

claim72 : Makes s0 p71 ((up 1 1 1 1 Opening) ∷ (down 3 0 1 1 (Line t14)) ∷ []) ([]) None 0 false ([]) e72
unfolding opened
claim72 = refl

abbrev p72 : List Entry
p72 = e72 ∷ p71

abbrev e73 : Entry
e73 = entry 1200000 74 (Some 1) (kinds.Talk (Some 3)) (Some (down 0 1 1 1 (Line t9))) ((up 0 1 1 2 (Line t5)) ∷ []) ([])

claim73 : Makes s1 p72 ((down 0 1 1 1 (Line t9)) ∷ []) ([]) None 0 false ([]) e73
unfolding opened
claim73 = refl

abbrev p73 : List Entry
p73 = e73 ∷ p72

abbrev e74 : Entry
e74 = entry 1200000 75 (Some 0) (kinds.Talk None) (Some (up 1 1 1 2 (Line t5))) ((down 1 1 1 2 (Line t5)) ∷ []) ([])

claim74 : Makes s0 p73 ((up 1 1 1 2 (Line t5)) ∷ (down 3 0 1 1 (Line t14)) ∷ []) ([]) None 0 false ([]) e74
unfolding opened
claim74 = refl

abbrev p74 : List Entry
p74 = e74 ∷ p73

abbrev e75 : Entry
e75 = entry 1200000 76 (Some 1) (kinds.Talk (Some 3)) (Some (down 0 1 1 2 (Line t5))) ((up 0 1 1 3 (Line t10)) ∷ []) ([])

claim75 : Makes s1 p74 ((down 0 1 1 2 (Line t5)) ∷ []) ([]) None 0 false ([]) e75
unfolding opened
claim75 = refl

abbrev p75 : List Entry
p75 = e75 ∷ p74

abbrev e76 : Entry
e76 = entry 1200000 77 (Some 0) (kinds.Share 30 1800000 (by.Peer 1 1) t0) (Some (up 1 1 1 3 (Line t10))) ((down 1 1 1 3 (Line t11)) ∷ []) ([])

claim76 : Makes s0 p75 ((up 1 1 1 3 (Line t10)) ∷ (down 3 0 1 1 (Line t14)) ∷ []) ([]) None 0 false ([]) e76
unfolding opened
claim76 = refl

abbrev p76 : List Entry
p76 = e76 ∷ p75

abbrev e77 : Entry
e77 = entry 1200000 78 (Some 1) (kinds.Talk (Some 3)) (Some (down 0 1 1 3 (Line t11))) ([]) ([])

claim77 : Makes s1 p76 ((down 0 1 1 3 (Line t11)) ∷ []) ([]) None 0 false ([]) e77
unfolding opened
claim77 = refl

abbrev p77 : List Entry
p77 = e77 ∷ p76

abbrev e78 : Entry
e78 = entry 1200000 79 (Some 0) (kinds.Talk (Some 2)) (Some (down 3 0 1 1 (Line t14))) ((up 3 0 1 2 (Line t5)) ∷ []) ([])

claim78 : Makes s0 p77 ((down 3 0 1 1 (Line t14)) ∷ []) ([]) None 0 false ([]) e78
unfolding opened
claim78 = refl

abbrev p78 : List Entry
p78 = e78 ∷ p77

abbrev e79 : Entry
e79 = entry 1200000 80 (Some 1) (kinds.Gone (by.Job 3) t0) None ([]) ([])

claim79 : Makes s1 p78 ([]) ([]) None 0 false ([]) e79
unfolding opened
claim79 = refl

abbrev p79 : List Entry
p79 = e79 ∷ p78

abbrev e80 : Entry
e80 = entry 1200000 81 (Some 3) (kinds.Talk None) (Some (up 0 0 1 2 (Line t5))) ((down 0 0 1 2 (Line t5)) ∷ []) ([])

claim80 : Makes s3 p79 ((up 0 0 1 2 (Line t5)) ∷ []) ([]) None 0 false ([]) e80
unfolding opened
claim80 = refl

abbrev p80 : List Entry
p80 = e80 ∷ p79

abbrev e81 : Entry
e81 = entry 1200000 82 (Some 0) (kinds.Talk (Some 2)) (Some (down 3 0 1 2 (Line t5))) ((up 3 0 1 3 (Line t6)) ∷ []) ([])

claim81 : Makes s0 p80 ((down 3 0 1 2 (Line t5)) ∷ []) ([]) None 0 false ([]) e81
unfolding opened
claim81 = refl

abbrev p81 : List Entry
p81 = e81 ∷ p80

abbrev e82 : Entry
e82 = entry 1200000 83 (Some 1) (kinds.Log (Location t0)) None ([]) (t20 ∷ [])

claim82 : Makes s1 p81 ([]) ([]) None 0 false ([]) e82
unfolding opened
claim82 = refl

abbrev p82 : List Entry
p82 = e82 ∷ p81

abbrev e83 : Entry
e83 = entry 1200000 84 (Some 3) (kinds.Talk None) (Some (up 0 0 1 3 (Line t6))) ((down 0 0 1 3 (Line t16)) ∷ []) ([])

claim83 : Makes s3 p82 ((up 0 0 1 3 (Line t6)) ∷ []) ([]) None 0 false ([]) e83
unfolding opened
claim83 = refl

abbrev p83 : List Entry
p83 = e83 ∷ p82

abbrev e84 : Entry
e84 = entry 1200000 85 (Some 0) (kinds.Order 2 3 (Some 1800) (need 1 1) t0) (Some (down 3 0 1 3 (Line t16))) ((up 3 0 1 4 (Line t21)) ∷ []) ([])

claim84 : Makes s0 p83 ((down 3 0 1 3 (Line t16)) ∷ []) ([]) None 0 false ([]) e84
unfolding opened
claim84 = refl

abbrev p84 : List Entry
p84 = e84 ∷ p83

abbrev e85 : Entry
e85 = entry 1200000 86 (Some 1) (kinds.End 3 (outcomes.Dropped (proof (need 1 1) (0 ∷ []) ([]) ([])))) None ((up 0 1 1 4 (Line t13)) ∷ (up 0 1 1 5 Closing) ∷ []) ([])

claim85 : Makes s1 p84 ([]) ([]) None 0 false ([]) e85
unfolding opened
claim85 = refl

abbrev p85 : List Entry
p85 = e85 ∷ p84

abbrev e86 : Entry
e86 = entry 1200000 87 (Some 3) (kinds.Check found.Absent t0) (Some (up 0 0 1 4 (Line t21))) ((down 0 0 1 4 (Line t11)) ∷ []) ([])

claim86 : Makes s3 p85 ((up 0 0 1 4 (Line t21)) ∷ []) ([]) None 0 false ([]) e86
unfolding opened
claim86 = refl

abbrev p86 : List Entry
p86 = e86 ∷ p85

abbrev e87 : Entry
e87 = entry 1200000 88 (Some 0) (kinds.Release 30 t0) (Some (up 1 1 1 4 (Line t13))) ([]) ([])

claim87 : Makes s0 p86 ((up 1 1 1 4 (Line t13)) ∷ (down 3 0 1 4 (Line t11)) ∷ []) ([]) None 0 false ([]) e87
unfolding opened
claim87 = refl

abbrev p87 : List Entry
p87 = e87 ∷ p86

abbrev e88 : Entry
e88 = entry 1200000 89 (Some 0) (kinds.Close 1 1 false) (Some (up 1 1 1 5 Closing)) ([]) ([])

claim88 : Makes s0 p87 ((up 1 1 1 5 Closing) ∷ (down 3 0 1 4 (Line t11)) ∷ []) ([]) None 0 false ([]) e88
unfolding opened
claim88 = refl

abbrev p88 : List Entry
p88 = e88 ∷ p87

abbrev e89 : Entry
e89 = entry 1200000 90 (Some 0) (kinds.Talk (Some 2)) (Some (down 3 0 1 4 (Line t11))) ([]) ([])

claim89 : Makes s0 p88 ((down 3 0 1 4 (Line t11)) ∷ []) ([]) None 0 false ([]) e89
unfolding opened
claim89 = refl

abbrev p89 : List Entry
p89 = e89 ∷ p88

abbrev e90 : Entry
e90 = entry 1200000 91 (Some 0) (kinds.Log (Location t0)) None ([]) (t22 ∷ [])

claim90 : Makes s0 p89 ([]) ([]) None 0 false ([]) e90
unfolding opened
claim90 = refl

abbrev p90 : List Entry
p90 = e90 ∷ p89

abbrev e91 : Entry
e91 = entry 1200000 92 (Some 0) (kinds.End 2 (outcomes.DroppedAbsent (proof (need 1 1) (0 ∷ []) ([]) ([])))) None ((up 3 0 1 5 Closing) ∷ []) ([])

claim91 : Makes s0 p90 ([]) ([]) None 0 false ((3, words.Absent) ∷ []) e91
unfolding opened
claim91 = refl

abbrev p91 : List Entry
p91 = e91 ∷ p90

abbrev e92 : Entry
e92 = entry 1200000 93 (Some 3) (kinds.Close 0 0 false) (Some (up 0 0 1 5 Closing)) ([]) ([])

claim92 : Makes s3 p91 ((up 0 0 1 5 Closing) ∷ []) ([]) None 0 false ([]) e92
unfolding opened
claim92 = refl

abbrev p92 : List Entry
p92 = e92 ∷ p91
