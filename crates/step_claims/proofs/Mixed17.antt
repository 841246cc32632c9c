-- The run of the script mixed-17: each entry that a turn made is what the step makes (written by tools/journal_claims.py).
use Rattle.std.specs.Prelude.{refl, ℕ, true, false, List, [], ◌∷◌, Some, None, codes}
use Rattle.annex_base.specs.declared.kinds.Call.TheVariants as calls
use Rattle.annex_base.specs.declared.kinds.Found.TheVariants as found
use Rattle.annex_base.specs.declared.kinds.Word.TheVariants as words
use Rattle.log_lines.specs.declared.entry.LogKind.TheVariants as logs
use Rattle.run_data.specs.declared.entry.Entry.{Entry}
use Rattle.run_data.specs.declared.entry.EntryKind.TheVariants as kinds
use Rattle.run_data.specs.declared.entry.By.TheVariants as by
use Rattle.run_data.specs.declared.entry.FrameText.TheVariants.{Opening, Closing, Bytes, Line}
use Rattle.run_data.specs.declared.entry.FrameView.{FrameView}
use Rattle.run_data.specs.declared.entry.LogFile.TheVariants.{Location, Of}
use Rattle.run_data.specs.declared.job.JobKind.TheVariants as jobs
use Rattle.run_data.specs.declared.job.Outcome.TheVariants as outcomes
use Rattle.run_data.specs.declared.job.DropRefusal.TheVariants as drops
use Rattle.run_data.specs.declared.job.TransferRefusal.TheVariants as transfers
use Rattle.run_data.specs.declared.job.Cause.TheVariants as causes
use Rattle.run_data.specs.declared.job.SourceCause.TheVariants as sources
use Rattle.run_data.specs.declared.job.Denial.TheVariants as denials
use Rattle.run_data.specs.declared.run.RepoView.{RepoView}
use Rattle.node_model.specs.SetUp.{SetUp}
use Rattle.step_claims.specs.Opened.{opened}
use Rattle.step_claims.specs.Claims.{Closes, Crashes, IsIdle, Makes, down, end, entry, job, need, proof, repository, set_up, up}

abbrev t0 : List ℕ
t0 = codes "WORM-s3--k2"

abbrev t1 : List ℕ
t1 = codes "1700000000s 1 11111111-1111-4111-8111-111111111100"

abbrev t2 : List ℕ
t2 = codes "1700000000s 1 22222222-1111-4111-8111-111111111101"

abbrev t3 : List ℕ
t3 = codes "WORM-s3--k0"

abbrev t4 : List ℕ
t4 = codes "AUTH-SUCCESS 22222222-1111-4111-8111-111111111101"

abbrev t5 : List ℕ
t5 = codes "VERSION 3"

abbrev t6 : List ℕ
t6 = codes "AUTH-SUCCESS 11111111-1111-4111-8111-111111111100"

abbrev t7 : List ℕ
t7 = codes "GETTIMESTAMP"

abbrev t8 : List ℕ
t8 = codes "TIMESTAMP 1"

abbrev t9 : List ℕ
t9 = codes "REMOVE-BEFORE 601 WORM-s3--k2"

abbrev t10 : List ℕ
t10 = codes "SUCCESS"

abbrev t11 : List ℕ
t11 = codes "1700000601.001s 0 22222222-1111-4111-8111-111111111101"

abbrev t12 : List ℕ
t12 = codes "LOCKCONTENT WORM-s3--k2"

abbrev t13 : List ℕ
t13 = codes "FAILURE"

abbrev t14 : List ℕ
t14 = codes "CHECKPRESENT WORM-s3--k2"

abbrev t15 : List ℕ
t15 = codes "GET 0  WORM-s3--k2"

abbrev t16 : List ℕ
t16 = codes "DATA 3"

abbrev t17 : List ℕ
t17 = codes "VALID"

abbrev t18 : List ℕ
t18 = codes "1700000601.001000001s 1 22222222-1111-4111-8111-111111111101"

abbrev t19 : List ℕ
t19 = codes "TIMESTAMP 601"

abbrev t20 : List ℕ
t20 = codes "REMOVE-BEFORE 1201 WORM-s3--k2"

abbrev t21 : List ℕ
t21 = codes "1700000601.001s 0 11111111-1111-4111-8111-111111111100"

abbrev t22 : List ℕ
t22 = codes "PUT  WORM-s3--k2"

abbrev t23 : List ℕ
t23 = codes "PUT-FROM 0"

abbrev t24 : List ℕ
t24 = codes "1700000601.001000001s 1 11111111-1111-4111-8111-111111111100"

abbrev t25 : List ℕ
t25 = codes "1700000601.001000002s 0 22222222-1111-4111-8111-111111111101"

abbrev t26 : List ℕ
t26 = codes "UNLOCKCONTENT WORM-s3--k2"

abbrev repos : List RepoView
repos = (repository (codes "a") (17 ∷ 17 ∷ 17 ∷ 17 ∷ 17 ∷ 17 ∷ 65 ∷ 17 ∷ 129 ∷ 17 ∷ 17 ∷ 17 ∷ 17 ∷ 17 ∷ 17 ∷ 0 ∷ []) 0 3 true) ∷ (repository (codes "r1_x") (34 ∷ 34 ∷ 34 ∷ 34 ∷ 17 ∷ 17 ∷ 65 ∷ 17 ∷ 129 ∷ 17 ∷ 17 ∷ 17 ∷ 17 ∷ 17 ∷ 17 ∷ 1 ∷ []) 0 3 true) ∷ []

abbrev s0 : SetUp
s0 = set_up 0 repos ([])

abbrev s1 : SetUp
s1 = set_up 1 repos ([])

abbrev e0 : Entry
e0 = entry 0 1 (Some 0) (kinds.Gain by.Script 3 t0) None ([]) ([])

abbrev p0 : List Entry
p0 = e0 ∷ []

abbrev e1 : Entry
e1 = entry 0 2 (Some 0) (kinds.Log (Location t0)) None ([]) (t1 ∷ [])

abbrev p1 : List Entry
p1 = e1 ∷ p0

abbrev e2 : Entry
e2 = entry 0 3 (Some 1) (kinds.Gain by.Script 3 t0) None ([]) ([])

abbrev p2 : List Entry
p2 = e2 ∷ p1

abbrev e3 : Entry
e3 = entry 0 4 (Some 1) (kinds.Log (Location t0)) None ([]) (t2 ∷ [])

abbrev p3 : List Entry
p3 = e3 ∷ p2

abbrev e4 : Entry
e4 = entry 0 5 (Some 0) (kinds.Gain by.Script 3 t3) None ([]) ([])

abbrev p4 : List Entry
p4 = e4 ∷ p3

abbrev e5 : Entry
e5 = entry 0 6 (Some 0) (kinds.Log (Location t3)) None ([]) (t1 ∷ [])

abbrev p5 : List Entry
p5 = e5 ∷ p4

abbrev e6 : Entry
e6 = entry 0 7 (Some 0) (kinds.Begin 1 (job jobs.Drop t0 None (Some 1))) None ([]) ([])

abbrev p6 : List Entry
p6 = e6 ∷ p5

abbrev e7 : Entry
e7 = entry 0 8 (Some 0) (kinds.Share 6 600000 (by.Job 1) t0) None ([]) ([])

claim7 : Makes s0 p6 ([]) ([]) None 0 false ([]) e7
unfolding opened
claim7 = refl

abbrev p7 : List Entry
p7 = e7 ∷ p6

abbrev e8 : Entry
e8 = entry 0 9 (Some 0) (kinds.Talk (Some 1)) None ((up 1 0 1 1 Opening) ∷ []) ([])

claim8 : Makes s0 p7 ([]) ([]) None 0 false ([]) e8
unfolding opened
claim8 = refl

abbrev p8 : List Entry
p8 = e8 ∷ p7

abbrev e9 : Entry
e9 = entry 0 10 (Some 1) (kinds.Talk None) (Some (up 0 0 1 1 Opening)) ((down 0 0 1 1 (Line t4)) ∷ []) ([])

claim9 : Makes s1 p8 ((up 0 0 1 1 Opening) ∷ []) ([]) None 0 false ([]) e9
unfolding opened
claim9 = refl

abbrev p9 : List Entry
p9 = e9 ∷ p8

abbrev e10 : Entry
e10 = entry 0 11 (Some 1) (kinds.Begin 1 (job jobs.Copy t0 None (Some 0))) None ([]) ([])

abbrev p10 : List Entry
p10 = e10 ∷ p9

abbrev e11 : Entry
e11 = entry 0 12 (Some 0) (kinds.Talk (Some 1)) (Some (down 1 0 1 1 (Line t4))) ((up 1 0 1 2 (Line t5)) ∷ []) ([])

claim11 : Makes s0 p10 ((down 1 0 1 1 (Line t4)) ∷ []) ([]) None 0 false ([]) e11
unfolding opened
claim11 = refl

abbrev p11 : List Entry
p11 = e11 ∷ p10

abbrev e12 : Entry
e12 = entry 600001 13 None (kinds.Wait 600001) None ([]) ([])

abbrev p12 : List Entry
p12 = e12 ∷ p11

abbrev e13 : Entry
e13 = entry 600001 14 (Some 1) (kinds.Talk None) (Some (up 0 0 1 2 (Line t5))) ((down 0 0 1 2 (Line t5)) ∷ []) ([])

claim13 : Makes s1 p12 ((up 0 0 1 2 (Line t5)) ∷ []) ([]) None 0 false ([]) e13
unfolding opened
claim13 = refl

abbrev p13 : List Entry
p13 = e13 ∷ p12

abbrev e14 : Entry
e14 = entry 600001 15 (Some 1) (kinds.Talk (Some 1)) None ((up 0 0 1 1 Opening) ∷ []) ([])

claim14 : Makes s1 p13 ([]) ([]) None 0 false ([]) e14
unfolding opened
claim14 = refl

abbrev p14 : List Entry
p14 = e14 ∷ p13

abbrev e15 : Entry
e15 = entry 600001 16 (Some 1) (kinds.Crash 0) None ((up 0 0 1 2 Closing) ∷ (down 0 0 1 3 Closing) ∷ []) ([])

claim15 : Crashes s1 p14 e15
unfolding opened
claim15 = refl

abbrev p15 : List Entry
p15 = e15 ∷ p14

abbrev e16 : Entry
e16 = entry 600001 17 (Some 1) (kinds.Begin 2 (job jobs.MoveTo t3 None (Some 0))) None ([]) ([])

abbrev p16 : List Entry
p16 = e16 ∷ p15

abbrev e17 : Entry
e17 = entry 600001 18 (Some 0) (kinds.Talk None) (Some (up 1 0 1 1 Opening)) ((down 1 0 1 1 (Line t6)) ∷ []) ([])

claim17 : Makes s0 p16 ((down 1 0 1 2 (Line t5)) ∷ (up 1 0 1 1 Opening) ∷ []) ([]) None 0 false ([]) e17
unfolding opened
claim17 = refl

abbrev p17 : List Entry
p17 = e17 ∷ p16

abbrev e18 : Entry
e18 = entry 600001 19 (Some 1) (kinds.End 2 (outcomes.TransferRefused transfers.NotHere)) None ([]) ([])

claim18 : Makes s1 p17 ([]) ([]) None 0 false ([]) e18
unfolding opened
claim18 = refl

abbrev p18 : List Entry
p18 = e18 ∷ p17

abbrev e19 : Entry
e19 = entry 600001 20 (Some 0) (kinds.Close 1 0 false) (Some (up 1 0 1 2 Closing)) ([]) ([])

claim19 : Makes s0 p18 ((down 1 0 1 2 (Line t5)) ∷ (up 1 0 1 2 Closing) ∷ []) ([]) None 0 false ([]) e19
unfolding opened
claim19 = refl

abbrev p19 : List Entry
p19 = e19 ∷ p18

abbrev e20 : Entry
e20 = entry 600001 21 (Some 0) (kinds.Talk (Some 1)) (Some (down 1 0 1 2 (Line t5))) ((up 1 0 1 3 (Line t7)) ∷ []) ([])

claim20 : Makes s0 p19 ((down 1 0 1 2 (Line t5)) ∷ []) ([]) None 0 false ([]) e20
unfolding opened
claim20 = refl

abbrev p20 : List Entry
p20 = e20 ∷ p19

abbrev e21 : Entry
e21 = entry 600001 22 (Some 0) (kinds.Talk (Some 1)) (Some (down 1 0 1 3 Closing)) ([]) ([])

claim21 : Makes s0 p20 ((down 1 0 1 3 Closing) ∷ []) ([]) None 0 false ([]) e21
unfolding opened
claim21 = refl

abbrev p21 : List Entry
p21 = e21 ∷ p20

abbrev e22 : Entry
e22 = entry 600001 23 (Some 0) (kinds.End 1 (outcomes.Refused (drops.Lost false))) None ([]) ([])

claim22 : Makes s0 p21 ([]) ([]) None 0 false ([]) e22
unfolding opened
claim22 = refl

abbrev p22 : List Entry
p22 = e22 ∷ p21

abbrev e23 : Entry
e23 = entry 601001 24 None (kinds.Wait 1000) None ([]) ([])

abbrev p23 : List Entry
p23 = e23 ∷ p22

abbrev e24 : Entry
e24 = entry 601001 25 (Some 1) (kinds.Log (Location t0)) None ([]) (t1 ∷ [])

abbrev p24 : List Entry
p24 = e24 ∷ p23

abbrev e25 : Entry
e25 = entry 601001 26 (Some 1) (kinds.Log (Location t3)) None ([]) (t1 ∷ [])

abbrev p25 : List Entry
p25 = e25 ∷ p24

abbrev e26 : Entry
e26 = entry 601001 27 (Some 1) (kinds.Begin 3 (job jobs.Get t0 None None)) None ([]) ([])

abbrev p26 : List Entry
p26 = e26 ∷ p25

abbrev e27 : Entry
e27 = entry 601001 28 (Some 1) (kinds.End 3 (outcomes.Got None None)) None ([]) ([])

claim27 : Makes s1 p26 ([]) ([]) None 0 false ([]) e27
unfolding opened
claim27 = refl

abbrev p27 : List Entry
p27 = e27 ∷ p26

abbrev e28 : Entry
e28 = entry 601001 29 (Some 0) (kinds.Begin 2 (job jobs.Drop t0 None (Some 1))) None ([]) ([])

abbrev p28 : List Entry
p28 = e28 ∷ p27

abbrev e29 : Entry
e29 = entry 601001 30 (Some 0) (kinds.Begin 3 (job jobs.Drop t0 None None)) None ([]) ([])

abbrev p29 : List Entry
p29 = e29 ∷ p28

abbrev e30 : Entry
e30 = entry 601001 31 (Some 0) (kinds.Share 16 1201001 (by.Job 2) t0) None ([]) ([])

claim30 : Makes s0 p29 ([]) ([]) None 0 false ([]) e30
unfolding opened
claim30 = refl

abbrev p30 : List Entry
p30 = e30 ∷ p29

abbrev e31 : Entry
e31 = entry 601001 32 (Some 0) (kinds.Talk (Some 2)) None ((up 1 0 2 1 Opening) ∷ []) ([])

claim31 : Makes s0 p30 ([]) ([]) None 0 false ([]) e31
unfolding opened
claim31 = refl

abbrev p31 : List Entry
p31 = e31 ∷ p30

abbrev e32 : Entry
e32 = entry 601001 33 (Some 1) (kinds.Talk None) (Some (up 0 0 2 1 Opening)) ((down 0 0 2 1 (Line t4)) ∷ []) ([])

claim32 : Makes s1 p31 ((up 0 0 2 1 Opening) ∷ []) ([]) None 0 false ([]) e32
unfolding opened
claim32 = refl

abbrev p32 : List Entry
p32 = e32 ∷ p31

abbrev e33 : Entry
e33 = entry 601001 34 (Some 0) (kinds.Talk (Some 2)) (Some (down 1 0 2 1 (Line t4))) ((up 1 0 2 2 (Line t5)) ∷ []) ([])

claim33 : Makes s0 p32 ((down 1 0 2 1 (Line t4)) ∷ []) ([]) None 0 false ([]) e33
unfolding opened
claim33 = refl

abbrev p33 : List Entry
p33 = e33 ∷ p32

abbrev e34 : Entry
e34 = entry 601001 35 (Some 1) (kinds.Talk None) (Some (up 0 0 2 2 (Line t5))) ((down 0 0 2 2 (Line t5)) ∷ []) ([])

claim34 : Makes s1 p33 ((up 0 0 2 2 (Line t5)) ∷ []) ([]) None 0 false ([]) e34
unfolding opened
claim34 = refl

abbrev p34 : List Entry
p34 = e34 ∷ p33

abbrev e35 : Entry
e35 = entry 601001 36 (Some 0) (kinds.Talk (Some 2)) (Some (down 1 0 2 2 (Line t5))) ((up 1 0 2 3 (Line t7)) ∷ []) ([])

claim35 : Makes s0 p34 ((down 1 0 2 2 (Line t5)) ∷ []) ([]) None 0 false ([]) e35
unfolding opened
claim35 = refl

abbrev p35 : List Entry
p35 = e35 ∷ p34

abbrev e36 : Entry
e36 = entry 601001 37 (Some 1) (kinds.Talk None) (Some (up 0 0 2 3 (Line t7))) ((down 0 0 2 3 (Line t8)) ∷ []) ([])

claim36 : Makes s1 p35 ((up 0 0 2 3 (Line t7)) ∷ []) ([]) None 0 false ([]) e36
unfolding opened
claim36 = refl

abbrev p36 : List Entry
p36 = e36 ∷ p35

abbrev e37 : Entry
e37 = entry 601001 38 (Some 0) (kinds.Order 2 1 (Some 601) (need 1 1) t0) (Some (down 1 0 2 3 (Line t8))) ((up 1 0 2 4 (Line t9)) ∷ []) ([])

claim37 : Makes s0 p36 ((down 1 0 2 3 (Line t8)) ∷ []) ([]) None 0 false ([]) e37
unfolding opened
claim37 = refl

abbrev p37 : List Entry
p37 = e37 ∷ p36

abbrev e38 : Entry
e38 = entry 601001 39 (Some 1) (kinds.Gone (by.Peer 0 0) t0) (Some (up 0 0 2 4 (Line t9))) ((down 0 0 2 4 (Line t10)) ∷ []) ([])

claim38 : Makes s1 p37 ((up 0 0 2 4 (Line t9)) ∷ []) ([]) None 0 false ([]) e38
unfolding opened
claim38 = refl

abbrev p38 : List Entry
p38 = e38 ∷ p37

abbrev e39 : Entry
e39 = entry 601001 40 (Some 0) (kinds.Talk (Some 2)) (Some (down 1 0 2 4 (Line t10))) ([]) ([])

claim39 : Makes s0 p38 ((down 1 0 2 4 (Line t10)) ∷ []) ([]) None 0 false ([]) e39
unfolding opened
claim39 = refl

abbrev p39 : List Entry
p39 = e39 ∷ p38

abbrev e40 : Entry
e40 = entry 601001 41 (Some 1) (kinds.Log (Location t0)) None ([]) (t11 ∷ [])

claim40 : Makes s1 p39 ([]) ([]) None 0 false ([]) e40
unfolding opened
claim40 = refl

abbrev p40 : List Entry
p40 = e40 ∷ p39

abbrev e41 : Entry
e41 = entry 601001 42 (Some 0) (kinds.Log (Location t0)) None ([]) (t11 ∷ [])

claim41 : Makes s0 p40 ([]) ([]) None 0 false ([]) e41
unfolding opened
claim41 = refl

abbrev p41 : List Entry
p41 = e41 ∷ p40

abbrev e42 : Entry
e42 = entry 601001 43 (Some 0) (kinds.End 2 (outcomes.Dropped (proof (need 1 1) (0 ∷ []) ([]) ([])))) None ((up 1 0 2 5 Closing) ∷ []) ([])

claim42 : Makes s0 p41 ([]) ([]) None 0 false ([]) e42
unfolding opened
claim42 = refl

abbrev p42 : List Entry
p42 = e42 ∷ p41

abbrev e43 : Entry
e43 = entry 601001 44 (Some 1) (kinds.Close 0 0 false) (Some (up 0 0 2 5 Closing)) ([]) ([])

claim43 : Makes s1 p42 ((up 0 0 2 5 Closing) ∷ []) ([]) None 0 false ([]) e43
unfolding opened
claim43 = refl

abbrev p43 : List Entry
p43 = e43 ∷ p42

abbrev e44 : Entry
e44 = entry 601001 45 (Some 0) (kinds.Bar 3 (need 1 1) t0) None ([]) ([])

claim44 : Makes s0 p43 ([]) ([]) None 0 false ([]) e44
unfolding opened
claim44 = refl

abbrev p44 : List Entry
p44 = e44 ∷ p43

abbrev e45 : Entry
e45 = entry 601001 46 (Some 0) (kinds.Talk (Some 3)) None ((up 1 1 1 1 Opening) ∷ []) ([])

claim45 : Makes s0 p44 ([]) ([]) None 0 false ([]) e45
unfolding opened
claim45 = refl

abbrev p45 : List Entry
p45 = e45 ∷ p44

abbrev e46 : Entry
e46 = entry 601001 47 (Some 1) (kinds.Talk None) (Some (up 0 1 1 1 Opening)) ((down 0 1 1 1 (Line t4)) ∷ []) ([])

claim46 : Makes s1 p45 ((up 0 1 1 1 Opening) ∷ []) ([]) None 0 false ([]) e46
unfolding opened
claim46 = refl

abbrev p46 : List Entry
p46 = e46 ∷ p45

abbrev e47 : Entry
e47 = entry 601001 48 (Some 0) (kinds.Talk (Some 3)) (Some (down 1 1 1 1 (Line t4))) ((up 1 1 1 2 (Line t5)) ∷ []) ([])

claim47 : Makes s0 p46 ((down 1 1 1 1 (Line t4)) ∷ []) ([]) None 0 false ([]) e47
unfolding opened
claim47 = refl

abbrev p47 : List Entry
p47 = e47 ∷ p46

abbrev e48 : Entry
e48 = entry 601001 49 (Some 1) (kinds.Talk None) (Some (up 0 1 1 2 (Line t5))) ((down 0 1 1 2 (Line t5)) ∷ []) ([])

claim48 : Makes s1 p47 ((up 0 1 1 2 (Line t5)) ∷ []) ([]) None 0 false ([]) e48
unfolding opened
claim48 = refl

abbrev p48 : List Entry
p48 = e48 ∷ p47

abbrev e49 : Entry
e49 = entry 601001 50 (Some 0) (kinds.Talk (Some 3)) (Some (down 1 1 1 2 (Line t5))) ((up 1 1 1 3 (Line t12)) ∷ []) ([])

claim49 : Makes s0 p48 ((down 1 1 1 2 (Line t5)) ∷ []) ([]) None 0 false ([]) e49
unfolding opened
claim49 = refl

abbrev p49 : List Entry
p49 = e49 ∷ p48

abbrev e50 : Entry
e50 = entry 601001 51 (Some 1) (kinds.Check found.Absent t0) (Some (up 0 1 1 3 (Line t12))) ((down 0 1 1 3 (Line t13)) ∷ []) ([])

claim50 : Makes s1 p49 ((up 0 1 1 3 (Line t12)) ∷ []) ([]) None 0 false ([]) e50
unfolding opened
claim50 = refl

abbrev p50 : List Entry
p50 = e50 ∷ p49

abbrev e51 : Entry
e51 = entry 601001 52 (Some 0) (kinds.Talk (Some 3)) (Some (down 1 1 1 3 (Line t13))) ((up 1 1 1 4 (Line t14)) ∷ []) ([])

claim51 : Makes s0 p50 ((down 1 1 1 3 (Line t13)) ∷ []) ([]) None 0 false ([]) e51
unfolding opened
claim51 = refl

abbrev p51 : List Entry
p51 = e51 ∷ p50

abbrev e52 : Entry
e52 = entry 601001 53 (Some 1) (kinds.Check found.Absent t0) (Some (up 0 1 1 4 (Line t14))) ((down 0 1 1 4 (Line t13)) ∷ []) ([])

claim52 : Makes s1 p51 ((up 0 1 1 4 (Line t14)) ∷ []) ([]) None 0 false ([]) e52
unfolding opened
claim52 = refl

abbrev p52 : List Entry
p52 = e52 ∷ p51

abbrev e53 : Entry
e53 = entry 601001 54 (Some 0) (kinds.Talk (Some 3)) (Some (down 1 1 1 4 (Line t13))) ([]) ([])

claim53 : Makes s0 p52 ((down 1 1 1 4 (Line t13)) ∷ []) ([]) None 0 false ([]) e53
unfolding opened
claim53 = refl

abbrev p53 : List Entry
p53 = e53 ∷ p52

abbrev e54 : Entry
e54 = entry 601001 55 (Some 0) (kinds.End 3 (outcomes.Refused (drops.Lacking (proof (need 1 1) ([]) ([]) ([])) ((record { repo = 1; cause = causes.Absent }) ∷ [])))) None ((up 1 1 1 5 Closing) ∷ []) ([])

claim54 : Makes s0 p53 ([]) ([]) None 0 false ((1, words.Absent) ∷ []) e54
unfolding opened
claim54 = refl

abbrev p54 : List Entry
p54 = e54 ∷ p53

abbrev e55 : Entry
e55 = entry 601001 56 (Some 1) (kinds.Close 0 1 false) (Some (up 0 1 1 5 Closing)) ([]) ([])

claim55 : Makes s1 p54 ((up 0 1 1 5 Closing) ∷ []) ([]) None 0 false ([]) e55
unfolding opened
claim55 = refl

abbrev p55 : List Entry
p55 = e55 ∷ p54

abbrev e56 : Entry
e56 = entry 601001 57 (Some 0) (kinds.Begin 4 (job jobs.Get t0 None (Some 1))) None ([]) ([])

abbrev p56 : List Entry
p56 = e56 ∷ p55

abbrev e57 : Entry
e57 = entry 601001 58 (Some 1) (kinds.Begin 4 (job jobs.MoveFrom t0 None (Some 0))) None ([]) ([])

abbrev p57 : List Entry
p57 = e57 ∷ p56

abbrev e58 : Entry
e58 = entry 601001 59 (Some 1) (kinds.Begin 5 (job jobs.MoveTo t0 None (Some 0))) None ([]) ([])

abbrev p58 : List Entry
p58 = e58 ∷ p57

abbrev e59 : Entry
e59 = entry 601001 60 (Some 0) (kinds.End 4 (outcomes.Got None None)) None ([]) ([])

claim59 : Makes s0 p58 ([]) ([]) None 0 false ([]) e59
unfolding opened
claim59 = refl

abbrev p59 : List Entry
p59 = e59 ∷ p58

abbrev e60 : Entry
e60 = entry 601001 61 (Some 1) (kinds.Talk (Some 4)) None ((up 0 0 2 1 Opening) ∷ []) ([])

claim60 : Makes s1 p59 ([]) ([]) None 0 false ([]) e60
unfolding opened
claim60 = refl

abbrev p60 : List Entry
p60 = e60 ∷ p59

abbrev e61 : Entry
e61 = entry 601001 62 (Some 0) (kinds.Talk None) (Some (up 1 0 2 1 Opening)) ((down 1 0 2 1 (Line t6)) ∷ []) ([])

claim61 : Makes s0 p60 ((up 1 0 2 1 Opening) ∷ []) ([]) None 0 false ([]) e61
unfolding opened
claim61 = refl

abbrev p61 : List Entry
p61 = e61 ∷ p60

abbrev e62 : Entry
e62 = entry 601001 63 (Some 1) (kinds.Talk (Some 4)) (Some (down 0 0 2 1 (Line t6))) ((up 0 0 2 2 (Line t5)) ∷ []) ([])

claim62 : Makes s1 p61 ((down 0 0 2 1 (Line t6)) ∷ []) ([]) None 0 false ([]) e62
unfolding opened
claim62 = refl

abbrev p62 : List Entry
p62 = e62 ∷ p61

abbrev e63 : Entry
e63 = entry 601001 64 (Some 0) (kinds.Talk None) (Some (up 1 0 2 2 (Line t5))) ((down 1 0 2 2 (Line t5)) ∷ []) ([])

claim63 : Makes s0 p62 ((up 1 0 2 2 (Line t5)) ∷ []) ([]) None 0 false ([]) e63
unfolding opened
claim63 = refl

abbrev p63 : List Entry
p63 = e63 ∷ p62

abbrev e64 : Entry
e64 = entry 601001 65 (Some 1) (kinds.Talk (Some 4)) (Some (down 0 0 2 2 (Line t5))) ((up 0 0 2 3 (Line t15)) ∷ []) ([])

claim64 : Makes s1 p63 ((down 0 0 2 2 (Line t5)) ∷ []) ([]) None 0 false ([]) e64
unfolding opened
claim64 = refl

abbrev p64 : List Entry
p64 = e64 ∷ p63

abbrev e65 : Entry
e65 = entry 601001 66 (Some 0) (kinds.Talk None) (Some (up 1 0 2 3 (Line t15))) ((down 1 0 2 3 (Line t16)) ∷ []) ([])

claim65 : Makes s0 p64 ((up 1 0 2 3 (Line t15)) ∷ []) ([]) None 0 false ([]) e65
unfolding opened
claim65 = refl

abbrev p65 : List Entry
p65 = e65 ∷ p64

abbrev e66 : Entry
e66 = entry 601001 67 (Some 1) (kinds.Talk (Some 4)) (Some (down 0 0 2 3 (Line t16))) ([]) ([])

claim66 : Makes s1 p65 ((down 0 0 2 3 (Line t16)) ∷ []) ([]) None 0 false ([]) e66
unfolding opened
claim66 = refl

abbrev p66 : List Entry
p66 = e66 ∷ p65

abbrev e67 : Entry
e67 = entry 601001 68 (Some 0) (kinds.Talk None) None ((down 1 0 2 4 (Bytes 3)) ∷ []) ([])

claim67 : Makes s0 p66 ([]) ([]) None 0 false ([]) e67
unfolding opened
claim67 = refl

abbrev p67 : List Entry
p67 = e67 ∷ p66

abbrev e68 : Entry
e68 = entry 601001 69 (Some 1) (kinds.Talk (Some 4)) (Some (down 0 0 2 4 (Bytes 3))) ([]) ([])

claim68 : Makes s1 p67 ((down 0 0 2 4 (Bytes 3)) ∷ []) ([]) None 0 false ([]) e68
unfolding opened
claim68 = refl

abbrev p68 : List Entry
p68 = e68 ∷ p67

abbrev e69 : Entry
e69 = entry 601001 70 (Some 0) (kinds.Talk None) None ((down 1 0 2 5 (Line t17)) ∷ []) ([])

claim69 : Makes s0 p68 ([]) ([]) None 0 false ([]) e69
unfolding opened
claim69 = refl

abbrev p69 : List Entry
p69 = e69 ∷ p68

abbrev e70 : Entry
e70 = entry 601001 71 (Some 1) (kinds.Gain (by.Job 4) 3 t0) (Some (down 0 0 2 5 (Line t17))) ((up 0 0 2 4 (Line t10)) ∷ []) ([])

claim70 : Makes s1 p69 ((down 0 0 2 5 (Line t17)) ∷ []) ([]) None 0 true ([]) e70
unfolding opened
claim70 = refl

abbrev p70 : List Entry
p70 = e70 ∷ p69

abbrev e71 : Entry
e71 = entry 601001 72 (Some 0) (kinds.Talk None) (Some (up 1 0 2 4 (Line t10))) ([]) ([])

claim71 : Makes s0 p70 ((up 1 0 2 4 (Line t10)) ∷ []) ([]) None 0 false ([]) e71
unfolding opened
claim71 = refl

abbrev p71 : List Entry
p71 = e71 ∷ p70

abbrev e72 : Entry
e72 = entry 601001 73 (Some 1) (kinds.Log (Location t0)) None ([]) (t18 ∷ [])

claim72 : Makes s1 p71 ([]) ([]) None 0 false ([]) e72
unfolding opened
claim72 = refl

abbrev p72 : List Entry
p72 = e72 ∷ p71

abbrev e73 : Entry
e73 = entry 601001 74 (Some 1) (kinds.Share 34 601000 (by.Job 4) t0) None ([]) ([])

claim73 : Makes s1 p72 ([]) ([]) None 0 false ([]) e73
unfolding opened
claim73 = refl

abbrev p73 : List Entry
p73 = e73 ∷ p72

abbrev e74 : Entry
e74 = entry 601001 75 (Some 1) (kinds.Talk (Some 4)) None ((up 0 0 2 5 (Line t7)) ∷ []) ([])

claim74 : Makes s1 p73 ([]) ([]) None 0 false ([]) e74
unfolding opened
claim74 = refl

abbrev p74 : List Entry
p74 = e74 ∷ p73

abbrev e75 : Entry
e75 = entry 601001 76 (Some 0) (kinds.Talk None) (Some (up 1 0 2 5 (Line t7))) ((down 1 0 2 6 (Line t19)) ∷ []) ([])

claim75 : Makes s0 p74 ((up 1 0 2 5 (Line t7)) ∷ []) ([]) None 0 false ([]) e75
unfolding opened
claim75 = refl

abbrev p75 : List Entry
p75 = e75 ∷ p74

abbrev e76 : Entry
e76 = entry 601001 77 (Some 1) (kinds.Order 4 0 (Some 1201) (need 1 1) t0) (Some (down 0 0 2 6 (Line t19))) ((up 0 0 2 6 (Line t20)) ∷ []) ([])

claim76 : Makes s1 p75 ((down 0 0 2 6 (Line t19)) ∷ []) ([]) None 0 false ([]) e76
unfolding opened
claim76 = refl

abbrev p76 : List Entry
p76 = e76 ∷ p75

abbrev e77 : Entry
e77 = entry 601001 78 (Some 0) (kinds.Gone (by.Peer 1 0) t0) (Some (up 1 0 2 6 (Line t20))) ((down 1 0 2 7 (Line t10)) ∷ []) ([])

claim77 : Makes s0 p76 ((up 1 0 2 6 (Line t20)) ∷ []) ([]) None 0 false ([]) e77
unfolding opened
claim77 = refl

abbrev p77 : List Entry
p77 = e77 ∷ p76

abbrev e78 : Entry
e78 = entry 601001 79 (Some 1) (kinds.Talk (Some 4)) (Some (down 0 0 2 7 (Line t10))) ([]) ([])

claim78 : Makes s1 p77 ((down 0 0 2 7 (Line t10)) ∷ []) ([]) None 0 false ([]) e78
unfolding opened
claim78 = refl

abbrev p78 : List Entry
p78 = e78 ∷ p77

abbrev e79 : Entry
e79 = entry 601001 80 (Some 0) (kinds.Log (Location t0)) None ([]) (t21 ∷ [])

claim79 : Makes s0 p78 ([]) ([]) None 0 false ([]) e79
unfolding opened
claim79 = refl

abbrev p79 : List Entry
p79 = e79 ∷ p78

abbrev e80 : Entry
e80 = entry 601001 81 (Some 1) (kinds.Log (Location t0)) None ([]) (t21 ∷ [])

claim80 : Makes s1 p79 ([]) ([]) None 0 false ([]) e80
unfolding opened
claim80 = refl

abbrev p80 : List Entry
p80 = e80 ∷ p79

abbrev e81 : Entry
e81 = entry 601001 82 (Some 1) (kinds.End 4 (outcomes.Dropped (proof (need 1 1) (1 ∷ []) ([]) ([])))) None ((up 0 0 2 7 Closing) ∷ []) ([])

claim81 : Makes s1 p80 ([]) ([]) None 0 false ([]) e81
unfolding opened
claim81 = refl

abbrev p81 : List Entry
p81 = e81 ∷ p80

abbrev e82 : Entry
e82 = entry 601001 83 (Some 0) (kinds.Close 1 0 false) (Some (up 1 0 2 7 Closing)) ([]) ([])

claim82 : Makes s0 p81 ((up 1 0 2 7 Closing) ∷ []) ([]) None 0 false ([]) e82
unfolding opened
claim82 = refl

abbrev p82 : List Entry
p82 = e82 ∷ p81

abbrev e83 : Entry
e83 = entry 601001 84 (Some 1) (kinds.Talk (Some 5)) None ((up 0 1 1 1 Opening) ∷ []) ([])

claim83 : Makes s1 p82 ([]) ([]) None 0 false ([]) e83
unfolding opened
claim83 = refl

abbrev p83 : List Entry
p83 = e83 ∷ p82

abbrev e84 : Entry
e84 = entry 601001 85 (Some 0) (kinds.Talk None) (Some (up 1 1 1 1 Opening)) ((down 1 1 1 1 (Line t6)) ∷ []) ([])

claim84 : Makes s0 p83 ((up 1 1 1 1 Opening) ∷ []) ([]) None 0 false ([]) e84
unfolding opened
claim84 = refl

abbrev p84 : List Entry
p84 = e84 ∷ p83

abbrev e85 : Entry
e85 = entry 601001 86 (Some 1) (kinds.Talk (Some 5)) (Some (down 0 1 1 1 (Line t6))) ((up 0 1 1 2 (Line t5)) ∷ []) ([])

claim85 : Makes s1 p84 ((down 0 1 1 1 (Line t6)) ∷ []) ([]) None 0 false ([]) e85
unfolding opened
claim85 = refl

abbrev p85 : List Entry
p85 = e85 ∷ p84

abbrev e86 : Entry
e86 = entry 601001 87 (Some 0) (kinds.Talk None) (Some (up 1 1 1 2 (Line t5))) ((down 1 1 1 2 (Line t5)) ∷ []) ([])

claim86 : Makes s0 p85 ((up 1 1 1 2 (Line t5)) ∷ []) ([]) None 0 false ([]) e86
unfolding opened
claim86 = refl

abbrev p86 : List Entry
p86 = e86 ∷ p85

abbrev e87 : Entry
e87 = entry 601001 88 (Some 1) (kinds.Talk (Some 5)) (Some (down 0 1 1 2 (Line t5))) ((up 0 1 1 3 (Line t22)) ∷ []) ([])

claim87 : Makes s1 p86 ((down 0 1 1 2 (Line t5)) ∷ []) ([]) None 0 false ([]) e87
unfolding opened
claim87 = refl

abbrev p87 : List Entry
p87 = e87 ∷ p86

abbrev e88 : Entry
e88 = entry 601001 89 (Some 0) (kinds.Talk None) (Some (up 1 1 1 3 (Line t22))) ((down 1 1 1 3 (Line t23)) ∷ []) ([])

claim88 : Makes s0 p87 ((up 1 1 1 3 (Line t22)) ∷ []) ([]) None 0 false ([]) e88
unfolding opened
claim88 = refl

abbrev p88 : List Entry
p88 = e88 ∷ p87

abbrev e89 : Entry
e89 = entry 601001 90 (Some 1) (kinds.Talk (Some 5)) (Some (down 0 1 1 3 (Line t23))) ((up 0 1 1 4 (Line t16)) ∷ []) ([])

claim89 : Makes s1 p88 ((down 0 1 1 3 (Line t23)) ∷ []) ([]) None 0 false ([]) e89
unfolding opened
claim89 = refl

abbrev p89 : List Entry
p89 = e89 ∷ p88

abbrev e90 : Entry
e90 = entry 601001 91 (Some 0) (kinds.Talk None) (Some (up 1 1 1 4 (Line t16))) ([]) ([])

claim90 : Makes s0 p89 ((up 1 1 1 4 (Line t16)) ∷ []) ([]) None 0 false ([]) e90
unfolding opened
claim90 = refl

abbrev p90 : List Entry
p90 = e90 ∷ p89

abbrev e91 : Entry
e91 = entry 601001 92 (Some 1) (kinds.Talk (Some 5)) None ((up 0 1 1 5 (Bytes 3)) ∷ []) ([])

claim91 : Makes s1 p90 ([]) ([]) None 0 false ([]) e91
unfolding opened
claim91 = refl

abbrev p91 : List Entry
p91 = e91 ∷ p90

abbrev e92 : Entry
e92 = entry 601001 93 (Some 0) (kinds.Talk None) (Some (up 1 1 1 5 (Bytes 3))) ([]) ([])

claim92 : Makes s0 p91 ((up 1 1 1 5 (Bytes 3)) ∷ []) ([]) None 0 false ([]) e92
unfolding opened
claim92 = refl

abbrev p92 : List Entry
p92 = e92 ∷ p91

abbrev e93 : Entry
e93 = entry 601001 94 (Some 1) (kinds.Talk (Some 5)) None ((up 0 1 1 6 (Line t17)) ∷ []) ([])

claim93 : Makes s1 p92 ([]) ([]) None 0 false ([]) e93
unfolding opened
claim93 = refl

abbrev p93 : List Entry
p93 = e93 ∷ p92

abbrev e94 : Entry
e94 = entry 601001 95 (Some 0) (kinds.Gain (by.Peer 1 1) 3 t0) (Some (up 1 1 1 6 (Line t17))) ((down 1 1 1 4 (Line t10)) ∷ []) ([])

claim94 : Makes s0 p93 ((up 1 1 1 6 (Line t17)) ∷ []) ([]) None 0 true ([]) e94
unfolding opened
claim94 = refl

abbrev p94 : List Entry
p94 = e94 ∷ p93

abbrev e95 : Entry
e95 = entry 601001 96 (Some 1) (kinds.Talk (Some 5)) (Some (down 0 1 1 4 (Line t10))) ([]) ([])

claim95 : Makes s1 p94 ((down 0 1 1 4 (Line t10)) ∷ []) ([]) None 0 false ([]) e95
unfolding opened
claim95 = refl

abbrev p95 : List Entry
p95 = e95 ∷ p94

abbrev e96 : Entry
e96 = entry 601001 97 (Some 0) (kinds.Log (Location t0)) None ([]) (t24 ∷ [])

claim96 : Makes s0 p95 ([]) ([]) None 0 false ([]) e96
unfolding opened
claim96 = refl

abbrev p96 : List Entry
p96 = e96 ∷ p95

abbrev e97 : Entry
e97 = entry 601001 98 (Some 1) (kinds.Log (Location t0)) None ([]) (t24 ∷ [])

claim97 : Makes s1 p96 ([]) ([]) None 0 false ([]) e97
unfolding opened
claim97 = refl

abbrev p97 : List Entry
p97 = e97 ∷ p96

abbrev e98 : Entry
e98 = entry 601001 99 (Some 1) (kinds.Bar 5 (need 1 1) t0) None ([]) ([])

claim98 : Makes s1 p97 ([]) ([]) None 0 false ([]) e98
unfolding opened
claim98 = refl

abbrev p98 : List Entry
p98 = e98 ∷ p97

abbrev e99 : Entry
e99 = entry 601001 100 (Some 1) (kinds.Talk (Some 5)) None ((up 0 1 1 7 (Line t12)) ∷ []) ([])

claim99 : Makes s1 p98 ([]) ([]) None 0 false ([]) e99
unfolding opened
claim99 = refl

abbrev p99 : List Entry
p99 = e99 ∷ p98

abbrev e100 : Entry
e100 = entry 601001 101 (Some 0) (kinds.Share 50 1201001 (by.Peer 1 1) t0) (Some (up 1 1 1 7 (Line t12))) ((down 1 1 1 5 (Line t10)) ∷ []) ([])

claim100 : Makes s0 p99 ((up 1 1 1 7 (Line t12)) ∷ []) ([]) None 0 false ([]) e100
unfolding opened
claim100 = refl

abbrev p100 : List Entry
p100 = e100 ∷ p99

abbrev e101 : Entry
e101 = entry 601001 102 (Some 1) (kinds.Talk (Some 5)) (Some (down 0 1 1 5 (Line t10))) ([]) ([])

claim101 : Makes s1 p100 ((down 0 1 1 5 (Line t10)) ∷ []) ([]) None 0 false ([]) e101
unfolding opened
claim101 = refl

abbrev p101 : List Entry
p101 = e101 ∷ p100

abbrev e102 : Entry
e102 = entry 601001 103 (Some 1) (kinds.Gone (by.Job 5) t0) None ([]) ([])

claim102 : Makes s1 p101 ([]) ([]) None 0 false ([]) e102
unfolding opened
claim102 = refl

abbrev p102 : List Entry
p102 = e102 ∷ p101

abbrev e103 : Entry
e103 = entry 601001 104 (Some 1) (kinds.Log (Location t0)) None ([]) (t25 ∷ [])

claim103 : Makes s1 p102 ([]) ([]) None 0 false ([]) e103
unfolding opened
claim103 = refl

abbrev p103 : List Entry
p103 = e103 ∷ p102

abbrev e104 : Entry
e104 = entry 601001 105 (Some 1) (kinds.End 5 (outcomes.Dropped (proof (need 1 1) (0 ∷ []) ([]) ([])))) None ((up 0 1 1 8 (Line t26)) ∷ (up 0 1 1 9 Closing) ∷ []) ([])

claim104 : Makes s1 p103 ([]) ([]) None 0 false ([]) e104
unfolding opened
claim104 = refl

abbrev p104 : List Entry
p104 = e104 ∷ p103

abbrev e105 : Entry
e105 = entry 601001 106 (Some 0) (kinds.Release 50 t0) (Some (up 1 1 1 8 (Line t26))) ([]) ([])

claim105 : Makes s0 p104 ((up 1 1 1 8 (Line t26)) ∷ []) ([]) None 0 false ([]) e105
unfolding opened
claim105 = refl

abbrev p105 : List Entry
p105 = e105 ∷ p104

abbrev e106 : Entry
e106 = entry 601001 107 (Some 0) (kinds.Close 1 1 false) (Some (up 1 1 1 9 Closing)) ([]) ([])

claim106 : Makes s0 p105 ((up 1 1 1 9 Closing) ∷ []) ([]) None 0 false ([]) e106
unfolding opened
claim106 = refl

abbrev p106 : List Entry
p106 = e106 ∷ p105
