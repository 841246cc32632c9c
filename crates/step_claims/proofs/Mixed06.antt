-- The run of the script mixed-06: each entry that a turn made is what the step makes (written by tools/journal_claims.py).
use Rattle.std.specs.Prelude.{refl, ℕ, true, false, List, [], ◌∷◌, Some, None, codes}
use Rattle.annex_base.specs.declared.kinds.Call.TheVariants as calls
use Rattle.annex_base.specs.declared.kinds.Found.TheVariants as found
use Rattle.annex_base.specs.declared.kinds.Word.TheVariants as words
use Rattle.log_lines.specs.declared.entry.LogKind.TheVariants as logs
use Rattle.run_data.specs.declared.entry.Entry.{Entry}
use Rattle.run_data.specs.declared.entry.EntryKind.TheVariants as kinds
use Rattle.run_data.specs.declared.entry.By.TheVariants as by
use Rattle.run_data.specs.declared.entry.FrameText.TheVariants.{Opening, Closing, Bytes, Line}
use Rattle.run_data.specs.declared.entry.FrameView.{FrameView}
use Rattle.run_data.specs.declared.entry.LogFile.TheVariants.{Location, Of}
use Rattle.run_data.specs.declared.job.JobKind.TheVariants as jobs
use Rattle.run_data.specs.declared.job.Outcome.TheVariants as outcomes
use Rattle.run_data.specs.declared.job.DropRefusal.TheVariants as drops
use Rattle.run_data.specs.declared.job.TransferRefusal.TheVariants as transfers
use Rattle.run_data.specs.declared.job.Cause.TheVariants as causes
use Rattle.run_data.specs.declared.job.SourceCause.TheVariants as sources
use Rattle.run_data.specs.declared.job.Denial.TheVariants as denials
use Rattle.run_data.specs.declared.run.RepoView.{RepoView}
use Rattle.node_model.specs.SetUp.{SetUp}
use Rattle.step_claims.specs.Opened.{opened}
use Rattle.step_claims.specs.Claims.{Closes, Crashes, IsIdle, Makes, down, end, entry, job, need, proof, repository, set_up, up}

abbrev t0 : List ℕ
t0 = codes "WORM-s3--k1"

abbrev t1 : List ℕ
t1 = codes "1700000000s 1 11111111-1111-4111-8111-111111111100"

abbrev t2 : List ℕ
t2 = codes "1700000000s 1 22222222-1111-4111-8111-111111111101"

abbrev t3 : List ℕ
t3 = codes "1700000000s 1 33333333-1111-4111-8111-111111111102"

abbrev t4 : List ℕ
t4 = codes "1700000000s 1 44444444-1111-4111-8111-111111111103"

abbrev t5 : List ℕ
t5 = codes "WORM-s3--k0"

abbrev t6 : List ℕ
t6 = codes "WORM-s40000--forty"

abbrev t7 : List ℕ
t7 = codes "11111111-1111-4111-8111-111111111100"

abbrev t8 : List ℕ
t8 = codes "11111111-1111-4111-8111-111111111100 x timestamp=1s timestamp=1700000001s"

abbrev t9 : List ℕ
t9 = codes "AUTH-SUCCESS 22222222-1111-4111-8111-111111111101"

abbrev t10 : List ℕ
t10 = codes "VERSION 3"

abbrev t11 : List ℕ
t11 = codes "VERSION 2"

abbrev t12 : List ℕ
t12 = codes "PUT  WORM-s3--k1"

abbrev t13 : List ℕ
t13 = codes "ALREADY-HAVE"

abbrev t14 : List ℕ
t14 = codes "1700000001s 1 22222222-1111-4111-8111-111111111101"

abbrev t15 : List ℕ
t15 = codes "LOCKCONTENT WORM-s3--k1"

abbrev t16 : List ℕ
t16 = codes "SUCCESS"

abbrev t17 : List ℕ
t17 = codes "1700000001s 0 11111111-1111-4111-8111-111111111100"

abbrev t18 : List ℕ
t18 = codes "UNLOCKCONTENT WORM-s3--k1"

abbrev t19 : List ℕ
t19 = codes "44444444-1111-4111-8111-111111111103 ? timestamp=1700000001s"

abbrev t20 : List ℕ
t20 = codes "SHA256E-s1000--5d7e0e8852b5c18059cf7a5cda80b3dd9608b93607da06d63e060df5c4a9cd9a.txt"

abbrev t21 : List ℕ
t21 = codes "1700000301s 1 22222222-1111-4111-8111-111111111101"

abbrev t22 : List ℕ
t22 = codes "AUTH-SUCCESS 44444444-1111-4111-8111-111111111103"

abbrev t23 : List ℕ
t23 = codes "PUT  WORM-s3--k0"

abbrev t24 : List ℕ
t24 = codes "1700000301s 1 44444444-1111-4111-8111-111111111103"

abbrev t25 : List ℕ
t25 = codes "AUTH-SUCCESS 11111111-1111-4111-8111-111111111100"

abbrev t26 : List ℕ
t26 = codes "LOCKCONTENT WORM-s3--k0"

abbrev t27 : List ℕ
t27 = codes "FAILURE"

abbrev t28 : List ℕ
t28 = codes "CHECKPRESENT WORM-s3--k0"

abbrev t29 : List ℕ
t29 = codes "AUTH-SUCCESS 33333333-1111-4111-8111-111111111102"

abbrev t30 : List ℕ
t30 = codes "1700000301s 0 22222222-1111-4111-8111-111111111101"

abbrev t31 : List ℕ
t31 = codes "UNLOCKCONTENT WORM-s3--k0"

abbrev repos : List RepoView
repos = (repository (codes "a") (17 ∷ 17 ∷ 17 ∷ 17 ∷ 17 ∷ 17 ∷ 65 ∷ 17 ∷ 129 ∷ 17 ∷ 17 ∷ 17 ∷ 17 ∷ 17 ∷ 17 ∷ 0 ∷ []) 0 3 true) ∷ (repository (codes "b") (34 ∷ 34 ∷ 34 ∷ 34 ∷ 17 ∷ 17 ∷ 65 ∷ 17 ∷ 129 ∷ 17 ∷ 17 ∷ 17 ∷ 17 ∷ 17 ∷ 17 ∷ 1 ∷ []) 0 2 true) ∷ (repository (codes "c") (51 ∷ 51 ∷ 51 ∷ 51 ∷ 17 ∷ 17 ∷ 65 ∷ 17 ∷ 129 ∷ 17 ∷ 17 ∷ 17 ∷ 17 ∷ 17 ∷ 17 ∷ 2 ∷ []) 0 3 true) ∷ (repository (codes "d") (68 ∷ 68 ∷ 68 ∷ 68 ∷ 17 ∷ 17 ∷ 65 ∷ 17 ∷ 129 ∷ 17 ∷ 17 ∷ 17 ∷ 17 ∷ 17 ∷ 17 ∷ 3 ∷ []) 0 3 true) ∷ []

abbrev s0 : SetUp
s0 = set_up 0 repos ([])

abbrev s1 : SetUp
s1 = set_up 1 repos ([])

abbrev s2 : SetUp
s2 = set_up 2 repos ([])

abbrev s3 : SetUp
s3 = set_up 3 repos ([])

abbrev e0 : Entry
e0 = entry 0 1 (Some 0) (kinds.Gain by.Script 3 t0) None ([]) ([])

abbrev p0 : List Entry
p0 = e0 ∷ []

abbrev e1 : Entry
e1 = entry 0 2 (Some 0) (kinds.Log (Location t0)) None ([]) (t1 ∷ [])

abbrev p1 : List Entry
p1 = e1 ∷ p0

abbrev e2 : Entry
e2 = entry 0 3 (Some 1) (kinds.Gain by.Script 3 t0) None ([]) ([])

abbrev p2 : List Entry
p2 = e2 ∷ p1

abbrev e3 : Entry
e3 = entry 0 4 (Some 1) (kinds.Log (Location t0)) None ([]) (t2 ∷ [])

abbrev p3 : List Entry
p3 = e3 ∷ p2

abbrev e4 : Entry
e4 = entry 0 5 (Some 2) (kinds.Gain by.Script 3 t0) None ([]) ([])

abbrev p4 : List Entry
p4 = e4 ∷ p3

abbrev e5 : Entry
e5 = entry 0 6 (Some 2) (kinds.Log (Location t0)) None ([]) (t3 ∷ [])

abbrev p5 : List Entry
p5 = e5 ∷ p4

abbrev e6 : Entry
e6 = entry 0 7 (Some 3) (kinds.Gain by.Script 3 t0) None ([]) ([])

abbrev p6 : List Entry
p6 = e6 ∷ p5

abbrev e7 : Entry
e7 = entry 0 8 (Some 3) (kinds.Log (Location t0)) None ([]) (t4 ∷ [])

abbrev p7 : List Entry
p7 = e7 ∷ p6

abbrev e8 : Entry
e8 = entry 0 9 (Some 1) (kinds.Gain by.Script 3 t5) None ([]) ([])

abbrev p8 : List Entry
p8 = e8 ∷ p7

abbrev e9 : Entry
e9 = entry 0 10 (Some 1) (kinds.Log (Location t5)) None ([]) (t2 ∷ [])

abbrev p9 : List Entry
p9 = e9 ∷ p8

abbrev e10 : Entry
e10 = entry 0 11 (Some 3) (kinds.Gain by.Script 3 t5) None ([]) ([])

abbrev p10 : List Entry
p10 = e10 ∷ p9

abbrev e11 : Entry
e11 = entry 0 12 (Some 3) (kinds.Log (Location t5)) None ([]) (t4 ∷ [])

abbrev p11 : List Entry
p11 = e11 ∷ p10

abbrev e12 : Entry
e12 = entry 0 13 (Some 1) (kinds.Gain by.Script 40000 t6) None ([]) ([])

abbrev p12 : List Entry
p12 = e12 ∷ p11

abbrev e13 : Entry
e13 = entry 0 14 (Some 1) (kinds.Log (Location t6)) None ([]) (t2 ∷ [])

abbrev p13 : List Entry
p13 = e13 ∷ p12

abbrev e14 : Entry
e14 = entry 0 15 (Some 2) (kinds.Gain by.Script 40000 t6) None ([]) ([])

abbrev p14 : List Entry
p14 = e14 ∷ p13

abbrev e15 : Entry
e15 = entry 0 16 (Some 2) (kinds.Log (Location t6)) None ([]) (t3 ∷ [])

abbrev p15 : List Entry
p15 = e15 ∷ p14

abbrev e16 : Entry
e16 = entry 0 17 (Some 0) (kinds.Begin 1 (job jobs.Copy t5 None (Some 1))) None ([]) ([])

abbrev p16 : List Entry
p16 = e16 ∷ p15

abbrev e17 : Entry
e17 = entry 0 18 (Some 0) (kinds.Log (Of logs.Uuid)) None ([]) (t7 ∷ [])

abbrev p17 : List Entry
p17 = e17 ∷ p16

abbrev e18 : Entry
e18 = entry 0 19 (Some 0) (kinds.Begin 2 (job jobs.MoveTo t0 None (Some 1))) None ([]) ([])

abbrev p18 : List Entry
p18 = e18 ∷ p17

abbrev e19 : Entry
e19 = entry 1000 20 None (kinds.Wait 1000) None ([]) ([])

abbrev p19 : List Entry
p19 = e19 ∷ p18

abbrev e20 : Entry
e20 = entry 1000 21 (Some 2) (kinds.Begin 1 (job jobs.Get t0 None None)) None ([]) ([])

abbrev p20 : List Entry
p20 = e20 ∷ p19

abbrev e21 : Entry
e21 = entry 1000 22 (Some 1) (kinds.Begin 1 (job jobs.Get t0 None (Some 2))) None ([]) ([])

abbrev p21 : List Entry
p21 = e21 ∷ p20

abbrev e22 : Entry
e22 = entry 1000 23 (Some 3) (kinds.Log (Of logs.Uuid)) None ([]) (t8 ∷ [])

abbrev p22 : List Entry
p22 = e22 ∷ p21

abbrev e23 : Entry
e23 = entry 1000 24 (Some 2) (kinds.Begin 2 (job jobs.Get t6 None None)) None ([]) ([])

abbrev p23 : List Entry
p23 = e23 ∷ p22

abbrev e24 : Entry
e24 = entry 1000 25 (Some 0) (kinds.End 1 (outcomes.TransferRefused transfers.NotHere)) None ([]) ([])

claim24 : Makes s0 p23 ([]) ([]) None 0 false ([]) e24
unfolding opened
claim24 = refl

abbrev p24 : List Entry
p24 = e24 ∷ p23

abbrev e25 : Entry
e25 = entry 1000 26 (Some 1) (kinds.End 1 (outcomes.Got None None)) None ([]) ([])

claim25 : Makes s1 p24 ([]) ([]) None 0 false ([]) e25
unfolding opened
claim25 = refl

abbrev p25 : List Entry
p25 = e25 ∷ p24

abbrev e26 : Entry
e26 = entry 1000 27 (Some 2) (kinds.End 1 (outcomes.Got None None)) None ([]) ([])

claim26 : Makes s2 p25 ([]) ([]) None 0 false ([]) e26
unfolding opened
claim26 = refl

abbrev p26 : List Entry
p26 = e26 ∷ p25

abbrev e27 : Entry
e27 = entry 1000 28 (Some 0) (kinds.Talk (Some 2)) None ((up 1 1 1 1 Opening) ∷ []) ([])

claim27 : Makes s0 p26 ([]) ([]) None 0 false ([]) e27
unfolding opened
claim27 = refl

abbrev p27 : List Entry
p27 = e27 ∷ p26

abbrev e28 : Entry
e28 = entry 1000 29 (Some 1) (kinds.Talk None) (Some (up 0 1 1 1 Opening)) ((down 0 1 1 1 (Line t9)) ∷ []) ([])

claim28 : Makes s1 p27 ((up 0 1 1 1 Opening) ∷ []) ([]) None 0 false ([]) e28
unfolding opened
claim28 = refl

abbrev p28 : List Entry
p28 = e28 ∷ p27

abbrev e29 : Entry
e29 = entry 1000 30 (Some 2) (kinds.End 2 (outcomes.Got None None)) None ([]) ([])

claim29 : Makes s2 p28 ([]) ([]) None 0 false ([]) e29
unfolding opened
claim29 = refl

abbrev p29 : List Entry
p29 = e29 ∷ p28

abbrev e30 : Entry
e30 = entry 1000 31 (Some 0) (kinds.Talk (Some 2)) (Some (down 1 1 1 1 (Line t9))) ((up 1 1 1 2 (Line t10)) ∷ []) ([])

claim30 : Makes s0 p29 ((down 1 1 1 1 (Line t9)) ∷ []) ([]) None 0 false ([]) e30
unfolding opened
claim30 = refl

abbrev p30 : List Entry
p30 = e30 ∷ p29

abbrev e31 : Entry
e31 = entry 1000 32 (Some 1) (kinds.Talk None) (Some (up 0 1 1 2 (Line t10))) ((down 0 1 1 2 (Line t11)) ∷ []) ([])

claim31 : Makes s1 p30 ((up 0 1 1 2 (Line t10)) ∷ []) ([]) None 0 false ([]) e31
unfolding opened
claim31 = refl

abbrev p31 : List Entry
p31 = e31 ∷ p30

abbrev e32 : Entry
e32 = entry 1000 33 (Some 0) (kinds.Talk (Some 2)) (Some (down 1 1 1 2 (Line t11))) ((up 1 1 1 3 (Line t12)) ∷ []) ([])

claim32 : Makes s0 p31 ((down 1 1 1 2 (Line t11)) ∷ []) ([]) None 0 false ([]) e32
unfolding opened
claim32 = refl

abbrev p32 : List Entry
p32 = e32 ∷ p31

abbrev e33 : Entry
e33 = entry 1000 34 (Some 1) (kinds.Talk None) (Some (up 0 1 1 3 (Line t12))) ((down 0 1 1 3 (Line t13)) ∷ []) ([])

claim33 : Makes s1 p32 ((up 0 1 1 3 (Line t12)) ∷ []) ([]) None 0 false ([]) e33
unfolding opened
claim33 = refl

abbrev p33 : List Entry
p33 = e33 ∷ p32

abbrev e34 : Entry
e34 = entry 1000 35 (Some 0) (kinds.Talk (Some 2)) (Some (down 1 1 1 3 (Line t13))) ([]) ([])

claim34 : Makes s0 p33 ((down 1 1 1 3 (Line t13)) ∷ []) ([]) None 0 false ([]) e34
unfolding opened
claim34 = refl

abbrev p34 : List Entry
p34 = e34 ∷ p33

abbrev e35 : Entry
e35 = entry 1000 36 (Some 0) (kinds.Log (Location t0)) None ([]) (t14 ∷ [])

claim35 : Makes s0 p34 ([]) ([]) None 0 false ([]) e35
unfolding opened
claim35 = refl

abbrev p35 : List Entry
p35 = e35 ∷ p34

abbrev e36 : Entry
e36 = entry 1000 37 (Some 0) (kinds.Bar 2 (need 1 1) t0) None ([]) ([])

claim36 : Makes s0 p35 ([]) ([]) None 0 false ([]) e36
unfolding opened
claim36 = refl

abbrev p36 : List Entry
p36 = e36 ∷ p35

abbrev e37 : Entry
e37 = entry 1000 38 (Some 0) (kinds.Talk (Some 2)) None ((up 1 1 1 4 (Line t15)) ∷ []) ([])

claim37 : Makes s0 p36 ([]) ([]) None 0 false ([]) e37
unfolding opened
claim37 = refl

abbrev p37 : List Entry
p37 = e37 ∷ p36

abbrev e38 : Entry
e38 = entry 1000 39 (Some 1) (kinds.Share 12 601000 (by.Peer 0 1) t0) (Some (up 0 1 1 4 (Line t15))) ((down 0 1 1 4 (Line t16)) ∷ []) ([])

claim38 : Makes s1 p37 ((up 0 1 1 4 (Line t15)) ∷ []) ([]) None 0 false ([]) e38
unfolding opened
claim38 = refl

abbrev p38 : List Entry
p38 = e38 ∷ p37

abbrev e39 : Entry
e39 = entry 1000 40 (Some 0) (kinds.Talk (Some 2)) (Some (down 1 1 1 4 (Line t16))) ([]) ([])

claim39 : Makes s0 p38 ((down 1 1 1 4 (Line t16)) ∷ []) ([]) None 0 false ([]) e39
unfolding opened
claim39 = refl

abbrev p39 : List Entry
p39 = e39 ∷ p38

abbrev e40 : Entry
e40 = entry 1000 41 (Some 0) (kinds.Gone (by.Job 2) t0) None ([]) ([])

claim40 : Makes s0 p39 ([]) ([]) None 0 false ([]) e40
unfolding opened
claim40 = refl

abbrev p40 : List Entry
p40 = e40 ∷ p39

abbrev e41 : Entry
e41 = entry 1000 42 (Some 0) (kinds.Log (Location t0)) None ([]) (t17 ∷ [])

claim41 : Makes s0 p40 ([]) ([]) None 0 false ([]) e41
unfolding opened
claim41 = refl

abbrev p41 : List Entry
p41 = e41 ∷ p40

abbrev e42 : Entry
e42 = entry 1000 43 (Some 0) (kinds.End 2 (outcomes.Dropped (proof (need 1 1) (1 ∷ []) ([]) ([])))) None ((up 1 1 1 5 (Line t18)) ∷ (up 1 1 1 6 Closing) ∷ []) ([])

claim42 : Makes s0 p41 ([]) ([]) None 0 false ([]) e42
unfolding opened
claim42 = refl

abbrev p42 : List Entry
p42 = e42 ∷ p41

abbrev e43 : Entry
e43 = entry 1000 44 (Some 1) (kinds.Release 12 t0) (Some (up 0 1 1 5 (Line t18))) ([]) ([])

claim43 : Makes s1 p42 ((up 0 1 1 5 (Line t18)) ∷ []) ([]) None 0 false ([]) e43
unfolding opened
claim43 = refl

abbrev p43 : List Entry
p43 = e43 ∷ p42

abbrev e44 : Entry
e44 = entry 1000 45 (Some 1) (kinds.Close 0 1 false) (Some (up 0 1 1 6 Closing)) ([]) ([])

claim44 : Makes s1 p43 ((up 0 1 1 6 Closing) ∷ []) ([]) None 0 false ([]) e44
unfolding opened
claim44 = refl

abbrev p44 : List Entry
p44 = e44 ∷ p43

abbrev e45 : Entry
e45 = entry 1000 46 (Some 1) (kinds.Log (Of logs.Trust)) None ([]) (t19 ∷ [])

abbrev p45 : List Entry
p45 = e45 ∷ p44

abbrev e46 : Entry
e46 = entry 301000 47 None (kinds.Wait 300000) None ([]) ([])

abbrev p46 : List Entry
p46 = e46 ∷ p45

abbrev e47 : Entry
e47 = entry 301000 48 (Some 3) (kinds.Begin 1 (job jobs.MoveFrom t5 None (Some 1))) None ([]) ([])

abbrev p47 : List Entry
p47 = e47 ∷ p46

abbrev e48 : Entry
e48 = entry 301000 49 (Some 1) (kinds.Gain by.Script 1000 t20) None ([]) ([])

abbrev p48 : List Entry
p48 = e48 ∷ p47

abbrev e49 : Entry
e49 = entry 301000 50 (Some 1) (kinds.Log (Location t20)) None ([]) (t21 ∷ [])

abbrev p49 : List Entry
p49 = e49 ∷ p48

abbrev e50 : Entry
e50 = entry 301000 51 (Some 3) (kinds.Talk (Some 1)) None ([]) ([])

claim50 : Makes s3 p49 ([]) ([]) None 0 false ([]) e50
unfolding opened
claim50 = refl

abbrev p50 : List Entry
p50 = e50 ∷ p49

abbrev e51 : Entry
e51 = entry 301000 52 (Some 1) (kinds.Begin 2 (job jobs.MoveTo t5 None (Some 3))) None ([]) ([])

abbrev p51 : List Entry
p51 = e51 ∷ p50

abbrev e52 : Entry
e52 = entry 301000 53 (Some 1) (kinds.Talk (Some 2)) None ((up 3 0 1 1 Opening) ∷ []) ([])

claim52 : Makes s1 p51 ([]) ([]) None 0 false ([]) e52
unfolding opened
claim52 = refl

abbrev p52 : List Entry
p52 = e52 ∷ p51

abbrev e53 : Entry
e53 = entry 301000 54 (Some 3) (kinds.Talk None) (Some (up 1 0 1 1 Opening)) ((down 1 0 1 1 (Line t22)) ∷ []) ([])

claim53 : Makes s3 p52 ((up 1 0 1 1 Opening) ∷ []) ([]) None 0 false ([]) e53
unfolding opened
claim53 = refl

abbrev p53 : List Entry
p53 = e53 ∷ p52

abbrev e54 : Entry
e54 = entry 301000 55 (Some 1) (kinds.Talk (Some 2)) (Some (down 3 0 1 1 (Line t22))) ((up 3 0 1 2 (Line t10)) ∷ []) ([])

claim54 : Makes s1 p53 ((down 3 0 1 1 (Line t22)) ∷ []) ([]) None 0 false ([]) e54
unfolding opened
claim54 = refl

abbrev p54 : List Entry
p54 = e54 ∷ p53

abbrev e55 : Entry
e55 = entry 301000 56 (Some 3) (kinds.Talk None) (Some (up 1 0 1 2 (Line t10))) ((down 1 0 1 2 (Line t10)) ∷ []) ([])

claim55 : Makes s3 p54 ((up 1 0 1 2 (Line t10)) ∷ []) ([]) None 0 false ([]) e55
unfolding opened
claim55 = refl

abbrev p55 : List Entry
p55 = e55 ∷ p54

abbrev e56 : Entry
e56 = entry 301000 57 (Some 1) (kinds.Talk (Some 2)) (Some (down 3 0 1 2 (Line t10))) ((up 3 0 1 3 (Line t23)) ∷ []) ([])

claim56 : Makes s1 p55 ((down 3 0 1 2 (Line t10)) ∷ []) ([]) None 0 false ([]) e56
unfolding opened
claim56 = refl

abbrev p56 : List Entry
p56 = e56 ∷ p55

abbrev e57 : Entry
e57 = entry 301000 58 (Some 3) (kinds.Talk None) (Some (up 1 0 1 3 (Line t23))) ((down 1 0 1 3 (Line t13)) ∷ []) ([])

claim57 : Makes s3 p56 ((up 1 0 1 3 (Line t23)) ∷ []) ([]) None 0 false ([]) e57
unfolding opened
claim57 = refl

abbrev p57 : List Entry
p57 = e57 ∷ p56

abbrev e58 : Entry
e58 = entry 301000 59 (Some 1) (kinds.Talk (Some 2)) (Some (down 3 0 1 3 (Line t13))) ([]) ([])

claim58 : Makes s1 p57 ((down 3 0 1 3 (Line t13)) ∷ []) ([]) None 0 false ([]) e58
unfolding opened
claim58 = refl

abbrev p58 : List Entry
p58 = e58 ∷ p57

abbrev e59 : Entry
e59 = entry 301000 60 (Some 3) (kinds.Share 11 901000 (by.Job 1) t5) None ([]) ([])

claim59 : Makes s3 p58 ([]) ([]) None 0 false ([]) e59
unfolding opened
claim59 = refl

abbrev p59 : List Entry
p59 = e59 ∷ p58

abbrev e60 : Entry
e60 = entry 301000 61 (Some 1) (kinds.Log (Location t5)) None ([]) (t24 ∷ [])

claim60 : Makes s1 p59 ([]) ([]) None 0 false ([]) e60
unfolding opened
claim60 = refl

abbrev p60 : List Entry
p60 = e60 ∷ p59

abbrev e61 : Entry
e61 = entry 301000 62 (Some 3) (kinds.Talk (Some 1)) None ((up 1 0 1 1 Opening) ∷ []) ([])

claim61 : Makes s3 p60 ([]) ([]) None 0 false ([]) e61
unfolding opened
claim61 = refl

abbrev p61 : List Entry
p61 = e61 ∷ p60

abbrev e62 : Entry
e62 = entry 301000 63 (Some 1) (kinds.Talk None) (Some (up 3 0 1 1 Opening)) ((down 3 0 1 1 (Line t9)) ∷ []) ([])

claim62 : Makes s1 p61 ((up 3 0 1 1 Opening) ∷ []) ([]) None 0 false ([]) e62
unfolding opened
claim62 = refl

abbrev p62 : List Entry
p62 = e62 ∷ p61

abbrev e63 : Entry
e63 = entry 301000 64 (Some 3) (kinds.Talk (Some 1)) (Some (down 1 0 1 1 (Line t9))) ((up 1 0 1 2 (Line t10)) ∷ []) ([])

claim63 : Makes s3 p62 ((down 1 0 1 1 (Line t9)) ∷ []) ([]) None 0 false ([]) e63
unfolding opened
claim63 = refl

abbrev p63 : List Entry
p63 = e63 ∷ p62

abbrev e64 : Entry
e64 = entry 301000 65 (Some 1) (kinds.Talk None) (Some (up 3 0 1 2 (Line t10))) ((down 3 0 1 2 (Line t11)) ∷ []) ([])

claim64 : Makes s1 p63 ((up 3 0 1 2 (Line t10)) ∷ []) ([]) None 0 false ([]) e64
unfolding opened
claim64 = refl

abbrev p64 : List Entry
p64 = e64 ∷ p63

abbrev e65 : Entry
e65 = entry 301000 66 (Some 3) (kinds.Talk (Some 1)) (Some (down 1 0 1 2 (Line t11))) ([]) ([])

claim65 : Makes s3 p64 ((down 1 0 1 2 (Line t11)) ∷ []) ([]) None 0 false ([]) e65
unfolding opened
claim65 = refl

abbrev p65 : List Entry
p65 = e65 ∷ p64

abbrev e66 : Entry
e66 = entry 301000 67 (Some 1) (kinds.Bar 2 (need 1 1) t5) None ([]) ([])

claim66 : Makes s1 p65 ([]) ([]) None 0 false ([]) e66
unfolding opened
claim66 = refl

abbrev p66 : List Entry
p66 = e66 ∷ p65

abbrev e67 : Entry
e67 = entry 301000 68 (Some 3) (kinds.End 1 (outcomes.Refused (drops.OldProtocol 2))) None ((up 1 0 1 3 Closing) ∷ []) ([])

claim67 : Makes s3 p66 ([]) ([]) None 0 false ([]) e67
unfolding opened
claim67 = refl

abbrev p67 : List Entry
p67 = e67 ∷ p66

abbrev e68 : Entry
e68 = entry 301000 69 (Some 1) (kinds.Close 3 0 false) (Some (up 3 0 1 3 Closing)) ([]) ([])

claim68 : Makes s1 p67 ((up 3 0 1 3 Closing) ∷ []) ([]) None 0 false ([]) e68
unfolding opened
claim68 = refl

abbrev p68 : List Entry
p68 = e68 ∷ p67

abbrev e69 : Entry
e69 = entry 301000 70 (Some 1) (kinds.Talk (Some 2)) None ((up 0 0 1 1 Opening) ∷ []) ([])

claim69 : Makes s1 p68 ([]) ([]) None 0 false ([]) e69
unfolding opened
claim69 = refl

abbrev p69 : List Entry
p69 = e69 ∷ p68

abbrev e70 : Entry
e70 = entry 301000 71 (Some 0) (kinds.Talk None) (Some (up 1 0 1 1 Opening)) ((down 1 0 1 1 (Line t25)) ∷ []) ([])

claim70 : Makes s0 p69 ((up 1 0 1 1 Opening) ∷ []) ([]) None 0 false ([]) e70
unfolding opened
claim70 = refl

abbrev p70 : List Entry
p70 = e70 ∷ p69

abbrev e71 : Entry
e71 = entry 301000 72 (Some 1) (kinds.Talk (Some 2)) (Some (down 0 0 1 1 (Line t25))) ((up 0 0 1 2 (Line t10)) ∷ []) ([])

claim71 : Makes s1 p70 ((down 0 0 1 1 (Line t25)) ∷ []) ([]) None 0 false ([]) e71
unfolding opened
claim71 = refl

abbrev p71 : List Entry
p71 = e71 ∷ p70

abbrev e72 : Entry
e72 = entry 301000 73 (Some 0) (kinds.Talk None) (Some (up 1 0 1 2 (Line t10))) ((down 1 0 1 2 (Line t10)) ∷ []) ([])

claim72 : Makes s0 p71 ((up 1 0 1 2 (Line t10)) ∷ []) ([]) None 0 false ([]) e72
unfolding opened
claim72 = refl

abbrev p72 : List Entry
p72 = e72 ∷ p71

abbrev e73 : Entry
e73 = entry 301000 74 (Some 1) (kinds.Talk (Some 2)) (Some (down 0 0 1 2 (Line t10))) ((up 0 0 1 3 (Line t26)) ∷ []) ([])

claim73 : Makes s1 p72 ((down 0 0 1 2 (Line t10)) ∷ []) ([]) None 0 false ([]) e73
unfolding opened
claim73 = refl

abbrev p73 : List Entry
p73 = e73 ∷ p72

abbrev e74 : Entry
e74 = entry 301000 75 (Some 0) (kinds.Check found.Absent t5) (Some (up 1 0 1 3 (Line t26))) ((down 1 0 1 3 (Line t27)) ∷ []) ([])

claim74 : Makes s0 p73 ((up 1 0 1 3 (Line t26)) ∷ []) ([]) None 0 false ([]) e74
unfolding opened
claim74 = refl

abbrev p74 : List Entry
p74 = e74 ∷ p73

abbrev e75 : Entry
e75 = entry 301000 76 (Some 1) (kinds.Talk (Some 2)) (Some (down 0 0 1 3 (Line t27))) ((up 0 0 1 4 (Line t28)) ∷ []) ([])

claim75 : Makes s1 p74 ((down 0 0 1 3 (Line t27)) ∷ []) ([]) None 0 false ([]) e75
unfolding opened
claim75 = refl

abbrev p75 : List Entry
p75 = e75 ∷ p74

abbrev e76 : Entry
e76 = entry 301000 77 (Some 0) (kinds.Check found.Absent t5) (Some (up 1 0 1 4 (Line t28))) ((down 1 0 1 4 (Line t27)) ∷ []) ([])

claim76 : Makes s0 p75 ((up 1 0 1 4 (Line t28)) ∷ []) ([]) None 0 false ([]) e76
unfolding opened
claim76 = refl

abbrev p76 : List Entry
p76 = e76 ∷ p75

abbrev e77 : Entry
e77 = entry 301000 78 (Some 1) (kinds.Talk (Some 2)) (Some (down 0 0 1 4 (Line t27))) ([]) ([])

claim77 : Makes s1 p76 ((down 0 0 1 4 (Line t27)) ∷ []) ([]) None 0 false ([]) e77
unfolding opened
claim77 = refl

abbrev p77 : List Entry
p77 = e77 ∷ p76

abbrev e78 : Entry
e78 = entry 301000 79 (Some 1) (kinds.Talk (Some 2)) None ((up 2 0 1 1 Opening) ∷ []) ([])

claim78 : Makes s1 p77 ([]) ([]) None 0 false ([]) e78
unfolding opened
claim78 = refl

abbrev p78 : List Entry
p78 = e78 ∷ p77

abbrev e79 : Entry
e79 = entry 301000 80 (Some 2) (kinds.Talk None) (Some (up 1 0 1 1 Opening)) ((down 1 0 1 1 (Line t29)) ∷ []) ([])

claim79 : Makes s2 p78 ((up 1 0 1 1 Opening) ∷ []) ([]) None 0 false ([]) e79
unfolding opened
claim79 = refl

abbrev p79 : List Entry
p79 = e79 ∷ p78

abbrev e80 : Entry
e80 = entry 301000 81 (Some 1) (kinds.Talk (Some 2)) (Some (down 2 0 1 1 (Line t29))) ((up 2 0 1 2 (Line t10)) ∷ []) ([])

claim80 : Makes s1 p79 ((down 2 0 1 1 (Line t29)) ∷ []) ([]) None 0 false ([]) e80
unfolding opened
claim80 = refl

abbrev p80 : List Entry
p80 = e80 ∷ p79

abbrev e81 : Entry
e81 = entry 301000 82 (Some 2) (kinds.Talk None) (Some (up 1 0 1 2 (Line t10))) ((down 1 0 1 2 (Line t10)) ∷ []) ([])

claim81 : Makes s2 p80 ((up 1 0 1 2 (Line t10)) ∷ []) ([]) None 0 false ([]) e81
unfolding opened
claim81 = refl

abbrev p81 : List Entry
p81 = e81 ∷ p80

abbrev e82 : Entry
e82 = entry 301000 83 (Some 1) (kinds.Talk (Some 2)) (Some (down 2 0 1 2 (Line t10))) ((up 2 0 1 3 (Line t26)) ∷ []) ([])

claim82 : Makes s1 p81 ((down 2 0 1 2 (Line t10)) ∷ []) ([]) None 0 false ([]) e82
unfolding opened
claim82 = refl

abbrev p82 : List Entry
p82 = e82 ∷ p81

abbrev e83 : Entry
e83 = entry 301000 84 (Some 2) (kinds.Check found.Absent t5) (Some (up 1 0 1 3 (Line t26))) ((down 1 0 1 3 (Line t27)) ∷ []) ([])

claim83 : Makes s2 p82 ((up 1 0 1 3 (Line t26)) ∷ []) ([]) None 0 false ([]) e83
unfolding opened
claim83 = refl

abbrev p83 : List Entry
p83 = e83 ∷ p82

abbrev e84 : Entry
e84 = entry 301000 85 (Some 1) (kinds.Talk (Some 2)) (Some (down 2 0 1 3 (Line t27))) ((up 2 0 1 4 (Line t28)) ∷ []) ([])

claim84 : Makes s1 p83 ((down 2 0 1 3 (Line t27)) ∷ []) ([]) None 0 false ([]) e84
unfolding opened
claim84 = refl

abbrev p84 : List Entry
p84 = e84 ∷ p83

abbrev e85 : Entry
e85 = entry 301000 86 (Some 2) (kinds.Check found.Absent t5) (Some (up 1 0 1 4 (Line t28))) ((down 1 0 1 4 (Line t27)) ∷ []) ([])

claim85 : Makes s2 p84 ((up 1 0 1 4 (Line t28)) ∷ []) ([]) None 0 false ([]) e85
unfolding opened
claim85 = refl

abbrev p85 : List Entry
p85 = e85 ∷ p84

abbrev e86 : Entry
e86 = entry 301000 87 (Some 1) (kinds.Talk (Some 2)) (Some (down 2 0 1 4 (Line t27))) ([]) ([])

claim86 : Makes s1 p85 ((down 2 0 1 4 (Line t27)) ∷ []) ([]) None 0 false ([]) e86
unfolding opened
claim86 = refl

abbrev p86 : List Entry
p86 = e86 ∷ p85

abbrev e87 : Entry
e87 = entry 301000 88 (Some 1) (kinds.Talk (Some 2)) None ((up 3 0 1 4 (Line t26)) ∷ []) ([])

claim87 : Makes s1 p86 ([]) ([]) None 0 false ([]) e87
unfolding opened
claim87 = refl

abbrev p87 : List Entry
p87 = e87 ∷ p86

abbrev e88 : Entry
e88 = entry 301000 89 (Some 3) (kinds.Share 16 901000 (by.Peer 1 0) t5) (Some (up 1 0 1 4 (Line t26))) ((down 1 0 1 4 (Line t16)) ∷ []) ([])

claim88 : Makes s3 p87 ((up 1 0 1 4 (Line t26)) ∷ []) ([]) None 0 false ([]) e88
unfolding opened
claim88 = refl

abbrev p88 : List Entry
p88 = e88 ∷ p87

abbrev e89 : Entry
e89 = entry 301000 90 (Some 1) (kinds.Talk (Some 2)) (Some (down 3 0 1 4 (Line t16))) ([]) ([])

claim89 : Makes s1 p88 ((down 3 0 1 4 (Line t16)) ∷ []) ([]) None 0 false ([]) e89
unfolding opened
claim89 = refl

abbrev p89 : List Entry
p89 = e89 ∷ p88

abbrev e90 : Entry
e90 = entry 301000 91 (Some 1) (kinds.Gone (by.Job 2) t5) None ([]) ([])

claim90 : Makes s1 p89 ([]) ([]) None 0 false ([]) e90
unfolding opened
claim90 = refl

abbrev p90 : List Entry
p90 = e90 ∷ p89

abbrev e91 : Entry
e91 = entry 301000 92 (Some 1) (kinds.Log (Location t5)) None ([]) (t30 ∷ [])

claim91 : Makes s1 p90 ([]) ([]) None 0 false ([]) e91
unfolding opened
claim91 = refl

abbrev p91 : List Entry
p91 = e91 ∷ p90

abbrev e92 : Entry
e92 = entry 301000 93 (Some 1) (kinds.End 2 (outcomes.Dropped (proof (need 1 1) (3 ∷ []) ([]) ([])))) None ((up 0 0 1 5 Closing) ∷ (up 2 0 1 5 Closing) ∷ (up 3 0 1 5 (Line t31)) ∷ (up 3 0 1 6 Closing) ∷ []) ([])

claim92 : Makes s1 p91 ([]) ([]) None 0 false ((0, words.Absent) ∷ (2, words.Absent) ∷ []) e92
unfolding opened
claim92 = refl

abbrev p92 : List Entry
p92 = e92 ∷ p91

abbrev e93 : Entry
e93 = entry 301000 94 (Some 2) (kinds.Close 1 0 false) (Some (up 1 0 1 5 Closing)) ([]) ([])

claim93 : Makes s2 p92 ((up 1 0 1 5 Closing) ∷ []) ([]) None 0 false ([]) e93
unfolding opened
claim93 = refl

abbrev p93 : List Entry
p93 = e93 ∷ p92

abbrev e94 : Entry
e94 = entry 301000 95 (Some 3) (kinds.Release 16 t5) (Some (up 1 0 1 5 (Line t31))) ([]) ([])

claim94 : Makes s3 p93 ((up 1 0 1 5 (Line t31)) ∷ []) ([]) None 0 false ([]) e94
unfolding opened
claim94 = refl

abbrev p94 : List Entry
p94 = e94 ∷ p93

abbrev e95 : Entry
e95 = entry 301000 96 (Some 0) (kinds.Close 1 0 false) (Some (up 1 0 1 5 Closing)) ([]) ([])

claim95 : Makes s0 p94 ((up 1 0 1 5 Closing) ∷ []) ([]) None 0 false ([]) e95
unfolding opened
claim95 = refl

abbrev p95 : List Entry
p95 = e95 ∷ p94

abbrev e96 : Entry
e96 = entry 301000 97 (Some 3) (kinds.Close 1 0 false) (Some (up 1 0 1 6 Closing)) ([]) ([])

claim96 : Makes s3 p95 ((up 1 0 1 6 Closing) ∷ []) ([]) None 0 false ([]) e96
unfolding opened
claim96 = refl

abbrev p96 : List Entry
p96 = e96 ∷ p95

abbrev e97 : Entry
e97 = entry 301000 98 (Some 2) (kinds.Begin 3 (job jobs.Get t6 None None)) None ([]) ([])

abbrev p97 : List Entry
p97 = e97 ∷ p96

abbrev e98 : Entry
e98 = entry 301000 99 (Some 2) (kinds.End 3 (outcomes.Got None None)) None ([]) ([])

claim98 : Makes s2 p97 ([]) ([]) None 0 false ([]) e98
unfolding opened
claim98 = refl

abbrev p98 : List Entry
p98 = e98 ∷ p97
