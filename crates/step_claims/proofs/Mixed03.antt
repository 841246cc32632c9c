-- The run of the script mixed-03: each entry that a turn made is what the step makes (written by tools/journal_claims.py).
use Rattle.std.specs.Prelude.{refl, ℕ, true, false, List, [], ◌∷◌, Some, None, codes}
use Rattle.annex_base.specs.declared.kinds.Call.TheVariants as calls
use Rattle.annex_base.specs.declared.kinds.Found.TheVariants as found
use Rattle.annex_base.specs.declared.kinds.Word.TheVariants as words
use Rattle.log_lines.specs.declared.entry.LogKind.TheVariants as logs
use Rattle.run_data.specs.declared.entry.Entry.{Entry}
use Rattle.run_data.specs.declared.entry.EntryKind.TheVariants as kinds
use Rattle.run_data.specs.declared.entry.By.TheVariants as by
use Rattle.run_data.specs.declared.entry.FrameText.TheVariants.{Opening, Closing, Bytes, Line}
use Rattle.run_data.specs.declared.entry.FrameView.{FrameView}
use Rattle.run_data.specs.declared.entry.LogFile.TheVariants.{Location, Of}
use Rattle.run_data.specs.declared.job.JobKind.TheVariants as jobs
use Rattle.run_data.specs.declared.job.Outcome.TheVariants as outcomes
use Rattle.run_data.specs.declared.job.DropRefusal.TheVariants as drops
use Rattle.run_data.specs.declared.job.TransferRefusal.TheVariants as transfers
use Rattle.run_data.specs.declared.job.Cause.TheVariants as causes
use Rattle.run_data.specs.declared.job.SourceCause.TheVariants as sources
use Rattle.run_data.specs.declared.job.Denial.TheVariants as denials
use Rattle.run_data.specs.declared.run.RepoView.{RepoView}
use Rattle.node_model.specs.SetUp.{SetUp}
use Rattle.step_claims.specs.Opened.{opened}
use Rattle.step_claims.specs.Claims.{Closes, Crashes, IsIdle, Makes, down, end, entry, job, need, proof, repository, set_up, up}

abbrev t0 : List ℕ
t0 = codes "WORM-s3--k2"

abbrev t1 : List ℕ
t1 = codes "1700000000.001s 1 11111111-1111-4111-8111-111111111100"

abbrev t2 : List ℕ
t2 = codes "1700000600s 1 22222222-1111-4111-8111-111111111101"

abbrev t3 : List ℕ
t3 = codes "1700000000s 1 44444444-1111-4111-8111-111111111103"

abbrev t4 : List ℕ
t4 = codes "1700000000s 1 77777777-1111-4111-8111-111111111106"

abbrev t5 : List ℕ
t5 = codes "1700000000s 1 88888888-1111-4111-8111-111111111107"

abbrev t6 : List ℕ
t6 = codes "44444444-1111-4111-8111-111111111103 text here  timestamp=1700000000s"

abbrev t7 : List ℕ
t7 = codes "1700000000s 1 33333333-1111-4111-8111-111111111102"

abbrev t8 : List ℕ
t8 = codes "AUTH-SUCCESS 88888888-1111-4111-8111-111111111107"

abbrev t9 : List ℕ
t9 = codes "VERSION 3"

abbrev t10 : List ℕ
t10 = codes "GETTIMESTAMP"

abbrev t11 : List ℕ
t11 = codes "TIMESTAMP 0"

abbrev t12 : List ℕ
t12 = codes "REMOVE-BEFORE 600 WORM-s3--k2"

abbrev t13 : List ℕ
t13 = codes "SUCCESS"

abbrev t14 : List ℕ
t14 = codes "1700000001.001s 0 88888888-1111-4111-8111-111111111107"

abbrev t15 : List ℕ
t15 = codes "1700000001.002s 1 55555555-1111-4111-8111-111111111104"

abbrev t16 : List ℕ
t16 = codes "55555555-1111-4111-8111-111111111104 0 timestamp=1700000001.001s"

abbrev t17 : List ℕ
t17 = codes "55555555-1111-4111-8111-111111111104 X timestamp=1700000001.002s"

abbrev t18 : List ℕ
t18 = codes "AUTH-SUCCESS 11111111-1111-4111-8111-111111111100"

abbrev t19 : List ℕ
t19 = codes "1700000601.001s 0 88888888-1111-4111-8111-111111111107"

abbrev t20 : List ℕ
t20 = codes "AUTH-SUCCESS 22222222-1111-4111-8111-111111111101"

abbrev t21 : List ℕ
t21 = codes "LOCKCONTENT WORM-s3--k2"

abbrev t22 : List ℕ
t22 = codes "PUT  WORM-s3--k2"

abbrev t23 : List ℕ
t23 = codes "ALREADY-HAVE"

abbrev t24 : List ℕ
t24 = codes "1700000001.001s 0 33333333-1111-4111-8111-111111111102"

abbrev t25 : List ℕ
t25 = codes "1700000001.001s 1 22222222-1111-4111-8111-111111111101"

abbrev t26 : List ℕ
t26 = codes "UNLOCKCONTENT WORM-s3--k2"

abbrev t27 : List ℕ
t27 = codes "1700000001.001s 0 77777777-1111-4111-8111-111111111106"

abbrev repos : List RepoView
repos = (repository (codes "a") (17 ∷ 17 ∷ 17 ∷ 17 ∷ 17 ∷ 17 ∷ 65 ∷ 17 ∷ 129 ∷ 17 ∷ 17 ∷ 17 ∷ 17 ∷ 17 ∷ 17 ∷ 0 ∷ []) 1 3 true) ∷ (repository (codes "b") (34 ∷ 34 ∷ 34 ∷ 34 ∷ 17 ∷ 17 ∷ 65 ∷ 17 ∷ 129 ∷ 17 ∷ 17 ∷ 17 ∷ 17 ∷ 17 ∷ 17 ∷ 1 ∷ []) 600000 3 true) ∷ (repository (codes "c") (51 ∷ 51 ∷ 51 ∷ 51 ∷ 17 ∷ 17 ∷ 65 ∷ 17 ∷ 129 ∷ 17 ∷ 17 ∷ 17 ∷ 17 ∷ 17 ∷ 17 ∷ 2 ∷ []) 0 3 true) ∷ (repository (codes "d") (68 ∷ 68 ∷ 68 ∷ 68 ∷ 17 ∷ 17 ∷ 65 ∷ 17 ∷ 129 ∷ 17 ∷ 17 ∷ 17 ∷ 17 ∷ 17 ∷ 17 ∷ 3 ∷ []) 0 3 true) ∷ (repository (codes "e") (85 ∷ 85 ∷ 85 ∷ 85 ∷ 17 ∷ 17 ∷ 65 ∷ 17 ∷ 129 ∷ 17 ∷ 17 ∷ 17 ∷ 17 ∷ 17 ∷ 17 ∷ 4 ∷ []) 1 3 true) ∷ (repository (codes "f") (102 ∷ 102 ∷ 102 ∷ 102 ∷ 17 ∷ 17 ∷ 65 ∷ 17 ∷ 129 ∷ 17 ∷ 17 ∷ 17 ∷ 17 ∷ 17 ∷ 17 ∷ 5 ∷ []) 1 3 true) ∷ (repository (codes "g") (119 ∷ 119 ∷ 119 ∷ 119 ∷ 17 ∷ 17 ∷ 65 ∷ 17 ∷ 129 ∷ 17 ∷ 17 ∷ 17 ∷ 17 ∷ 17 ∷ 17 ∷ 6 ∷ []) 0 3 true) ∷ (repository (codes "h") (136 ∷ 136 ∷ 136 ∷ 136 ∷ 17 ∷ 17 ∷ 65 ∷ 17 ∷ 129 ∷ 17 ∷ 17 ∷ 17 ∷ 17 ∷ 17 ∷ 17 ∷ 7 ∷ []) 0 3 true) ∷ []

abbrev s0 : SetUp
s0 = set_up 0 repos ([])

abbrev s1 : SetUp
s1 = set_up 1 repos ([])

abbrev s2 : SetUp
s2 = set_up 2 repos ([])

abbrev s3 : SetUp
s3 = set_up 3 repos ([])

abbrev s4 : SetUp
s4 = set_up 4 repos ([])

abbrev s5 : SetUp
s5 = set_up 5 repos ([])

abbrev s6 : SetUp
s6 = set_up 6 repos ([])

abbrev s7 : SetUp
s7 = set_up 7 repos ([])

abbrev e0 : Entry
e0 = entry 0 1 (Some 0) (kinds.Gain by.Script 3 t0) None ([]) ([])

abbrev p0 : List Entry
p0 = e0 ∷ []

abbrev e1 : Entry
e1 = entry 0 2 (Some 0) (kinds.Log (Location t0)) None ([]) (t1 ∷ [])

abbrev p1 : List Entry
p1 = e1 ∷ p0

abbrev e2 : Entry
e2 = entry 0 3 (Some 1) (kinds.Gain by.Script 3 t0) None ([]) ([])

abbrev p2 : List Entry
p2 = e2 ∷ p1

abbrev e3 : Entry
e3 = entry 0 4 (Some 1) (kinds.Log (Location t0)) None ([]) (t2 ∷ [])

abbrev p3 : List Entry
p3 = e3 ∷ p2

abbrev e4 : Entry
e4 = entry 0 5 (Some 3) (kinds.Gain by.Script 3 t0) None ([]) ([])

abbrev p4 : List Entry
p4 = e4 ∷ p3

abbrev e5 : Entry
e5 = entry 0 6 (Some 3) (kinds.Log (Location t0)) None ([]) (t3 ∷ [])

abbrev p5 : List Entry
p5 = e5 ∷ p4

abbrev e6 : Entry
e6 = entry 0 7 (Some 6) (kinds.Gain by.Script 3 t0) None ([]) ([])

abbrev p6 : List Entry
p6 = e6 ∷ p5

abbrev e7 : Entry
e7 = entry 0 8 (Some 6) (kinds.Log (Location t0)) None ([]) (t4 ∷ [])

abbrev p7 : List Entry
p7 = e7 ∷ p6

abbrev e8 : Entry
e8 = entry 0 9 (Some 7) (kinds.Gain by.Script 3 t0) None ([]) ([])

abbrev p8 : List Entry
p8 = e8 ∷ p7

abbrev e9 : Entry
e9 = entry 0 10 (Some 7) (kinds.Log (Location t0)) None ([]) (t5 ∷ [])

abbrev p9 : List Entry
p9 = e9 ∷ p8

abbrev e10 : Entry
e10 = entry 0 11 (Some 3) (kinds.Log (Of logs.Uuid)) None ([]) (t6 ∷ [])

abbrev p10 : List Entry
p10 = e10 ∷ p9

abbrev e11 : Entry
e11 = entry 0 12 (Some 2) (kinds.Gain by.Script 3 t0) None ([]) ([])

abbrev p11 : List Entry
p11 = e11 ∷ p10

abbrev e12 : Entry
e12 = entry 0 13 (Some 2) (kinds.Log (Location t0)) None ([]) (t7 ∷ [])

abbrev p12 : List Entry
p12 = e12 ∷ p11

abbrev e13 : Entry
e13 = entry 0 14 (Some 1) (kinds.Begin 1 (job jobs.Drop t0 None (Some 7))) None ([]) ([])

abbrev p13 : List Entry
p13 = e13 ∷ p12

abbrev e14 : Entry
e14 = entry 0 15 (Some 1) (kinds.Share 4 1200000 (by.Job 1) t0) None ([]) ([])

claim14 : Makes s1 p13 ([]) ([]) None 0 false ([]) e14
unfolding opened
claim14 = refl

abbrev p14 : List Entry
p14 = e14 ∷ p13

abbrev e15 : Entry
e15 = entry 0 16 (Some 1) (kinds.Talk (Some 1)) None ((up 7 0 1 1 Opening) ∷ []) ([])

claim15 : Makes s1 p14 ([]) ([]) None 0 false ([]) e15
unfolding opened
claim15 = refl

abbrev p15 : List Entry
p15 = e15 ∷ p14

abbrev e16 : Entry
e16 = entry 0 17 (Some 7) (kinds.Talk None) (Some (up 1 0 1 1 Opening)) ((down 1 0 1 1 (Line t8)) ∷ []) ([])

claim16 : Makes s7 p15 ((up 1 0 1 1 Opening) ∷ []) ([]) None 0 false ([]) e16
unfolding opened
claim16 = refl

abbrev p16 : List Entry
p16 = e16 ∷ p15

abbrev e17 : Entry
e17 = entry 0 18 (Some 1) (kinds.Talk (Some 1)) (Some (down 7 0 1 1 (Line t8))) ((up 7 0 1 2 (Line t9)) ∷ []) ([])

claim17 : Makes s1 p16 ((down 7 0 1 1 (Line t8)) ∷ []) ([]) None 0 false ([]) e17
unfolding opened
claim17 = refl

abbrev p17 : List Entry
p17 = e17 ∷ p16

abbrev e18 : Entry
e18 = entry 0 19 (Some 7) (kinds.Talk None) (Some (up 1 0 1 2 (Line t9))) ((down 1 0 1 2 (Line t9)) ∷ []) ([])

claim18 : Makes s7 p17 ((up 1 0 1 2 (Line t9)) ∷ []) ([]) None 0 false ([]) e18
unfolding opened
claim18 = refl

abbrev p18 : List Entry
p18 = e18 ∷ p17

abbrev e19 : Entry
e19 = entry 0 20 (Some 1) (kinds.Talk (Some 1)) (Some (down 7 0 1 2 (Line t9))) ((up 7 0 1 3 (Line t10)) ∷ []) ([])

claim19 : Makes s1 p18 ((down 7 0 1 2 (Line t9)) ∷ []) ([]) None 0 false ([]) e19
unfolding opened
claim19 = refl

abbrev p19 : List Entry
p19 = e19 ∷ p18

abbrev e20 : Entry
e20 = entry 0 21 (Some 7) (kinds.Talk None) (Some (up 1 0 1 3 (Line t10))) ((down 1 0 1 3 (Line t11)) ∷ []) ([])

claim20 : Makes s7 p19 ((up 1 0 1 3 (Line t10)) ∷ []) ([]) None 0 false ([]) e20
unfolding opened
claim20 = refl

abbrev p20 : List Entry
p20 = e20 ∷ p19

abbrev e21 : Entry
e21 = entry 0 22 (Some 1) (kinds.Order 1 7 (Some 600) (need 1 1) t0) (Some (down 7 0 1 3 (Line t11))) ((up 7 0 1 4 (Line t12)) ∷ []) ([])

claim21 : Makes s1 p20 ((down 7 0 1 3 (Line t11)) ∷ []) ([]) None 0 false ([]) e21
unfolding opened
claim21 = refl

abbrev p21 : List Entry
p21 = e21 ∷ p20

abbrev e22 : Entry
e22 = entry 0 23 (Some 2) (kinds.Begin 1 (job jobs.Drop t0 None None)) None ([]) ([])

abbrev p22 : List Entry
p22 = e22 ∷ p21

abbrev e23 : Entry
e23 = entry 0 24 (Some 2) (kinds.Bar 1 (need 1 1) t0) None ([]) ([])

claim23 : Makes s2 p22 ([]) ([]) None 0 false ([]) e23
unfolding opened
claim23 = refl

abbrev p23 : List Entry
p23 = e23 ∷ p22

abbrev e24 : Entry
e24 = entry 0 25 (Some 2) (kinds.Talk (Some 1)) None ((up 0 0 1 1 Opening) ∷ []) ([])

claim24 : Makes s2 p23 ([]) ([]) None 0 false ([]) e24
unfolding opened
claim24 = refl

abbrev p24 : List Entry
p24 = e24 ∷ p23

abbrev e25 : Entry
e25 = entry 1001 26 None (kinds.Wait 1001) None ([]) ([])

abbrev p25 : List Entry
p25 = e25 ∷ p24

abbrev e26 : Entry
e26 = entry 1001 27 (Some 7) (kinds.Gone (by.Peer 1 0) t0) (Some (up 1 0 1 4 (Line t12))) ((down 1 0 1 4 (Line t13)) ∷ []) ([])

claim26 : Makes s7 p25 ((up 1 0 1 4 (Line t12)) ∷ []) ([]) None 0 false ([]) e26
unfolding opened
claim26 = refl

abbrev p26 : List Entry
p26 = e26 ∷ p25

abbrev e27 : Entry
e27 = entry 1001 28 (Some 7) (kinds.Log (Location t0)) None ([]) (t14 ∷ [])

claim27 : Makes s7 p26 ([]) ([]) None 0 false ([]) e27
unfolding opened
claim27 = refl

abbrev p27 : List Entry
p27 = e27 ∷ p26

abbrev e28 : Entry
e28 = entry 1001 29 (Some 4) (kinds.Gain by.Script 3 t0) None ([]) ([])

abbrev p28 : List Entry
p28 = e28 ∷ p27

abbrev e29 : Entry
e29 = entry 1001 30 (Some 4) (kinds.Log (Location t0)) None ([]) (t15 ∷ [])

abbrev p29 : List Entry
p29 = e29 ∷ p28

abbrev e30 : Entry
e30 = entry 1001 31 (Some 2) (kinds.Begin 2 (job jobs.Drop t0 None None)) None ([]) ([])

abbrev p30 : List Entry
p30 = e30 ∷ p29

abbrev e31 : Entry
e31 = entry 1001 32 (Some 2) (kinds.End 2 (outcomes.Refused (drops.Barred 1))) None ([]) ([])

claim31 : Makes s2 p30 ([]) ([]) None 0 false ([]) e31
unfolding opened
claim31 = refl

abbrev p31 : List Entry
p31 = e31 ∷ p30

abbrev e32 : Entry
e32 = entry 1001 33 (Some 1) (kinds.Talk (Some 1)) (Some (down 7 0 1 4 (Line t13))) ([]) ([])

claim32 : Makes s1 p31 ((down 7 0 1 4 (Line t13)) ∷ []) ([]) None 0 false ([]) e32
unfolding opened
claim32 = refl

abbrev p32 : List Entry
p32 = e32 ∷ p31

abbrev e33 : Entry
e33 = entry 1001 34 (Some 2) (kinds.Log (Of logs.Trust)) None ([]) (t16 ∷ [])

abbrev p33 : List Entry
p33 = e33 ∷ p32

abbrev e34 : Entry
e34 = entry 1001 35 (Some 6) (kinds.Begin 1 (job jobs.MoveTo t0 None (Some 1))) None ([]) ([])

abbrev p34 : List Entry
p34 = e34 ∷ p33

abbrev e35 : Entry
e35 = entry 1001 36 (Some 5) (kinds.Begin 1 (job jobs.Copy t0 None (Some 7))) None ([]) ([])

abbrev p35 : List Entry
p35 = e35 ∷ p34

abbrev e36 : Entry
e36 = entry 1001 37 (Some 4) (kinds.Log (Of logs.Trust)) None ([]) (t17 ∷ [])

abbrev p36 : List Entry
p36 = e36 ∷ p35

abbrev e37 : Entry
e37 = entry 1001 38 (Some 4) (kinds.Crash 0) None ([]) ([])

claim37 : Crashes s4 p36 e37
unfolding opened
claim37 = refl

abbrev p37 : List Entry
p37 = e37 ∷ p36

abbrev e38 : Entry
e38 = entry 1001 39 (Some 5) (kinds.End 1 (outcomes.TransferRefused transfers.NotHere)) None ([]) ([])

claim38 : Makes s5 p37 ([]) ([]) None 0 false ([]) e38
unfolding opened
claim38 = refl

abbrev p38 : List Entry
p38 = e38 ∷ p37

abbrev e39 : Entry
e39 = entry 1001 40 (Some 6) (kinds.Talk (Some 1)) None ((up 1 0 1 1 Opening) ∷ []) ([])

claim39 : Makes s6 p38 ([]) ([]) None 0 false ([]) e39
unfolding opened
claim39 = refl

abbrev p39 : List Entry
p39 = e39 ∷ p38

abbrev e40 : Entry
e40 = entry 1001 41 (Some 0) (kinds.Talk None) (Some (up 2 0 1 1 Opening)) ((down 2 0 1 1 (Line t18)) ∷ []) ([])

claim40 : Makes s0 p39 ((up 2 0 1 1 Opening) ∷ []) ([]) None 0 false ([]) e40
unfolding opened
claim40 = refl

abbrev p40 : List Entry
p40 = e40 ∷ p39

abbrev e41 : Entry
e41 = entry 1001 42 (Some 1) (kinds.Log (Location t0)) None ([]) (t19 ∷ [])

claim41 : Makes s1 p40 ((up 6 0 1 1 Opening) ∷ []) ([]) None 0 false ([]) e41
unfolding opened
claim41 = refl

abbrev p41 : List Entry
p41 = e41 ∷ p40

abbrev e42 : Entry
e42 = entry 1001 43 (Some 2) (kinds.Talk (Some 1)) (Some (down 0 0 1 1 (Line t18))) ((up 0 0 1 2 (Line t9)) ∷ []) ([])

claim42 : Makes s2 p41 ((down 0 0 1 1 (Line t18)) ∷ []) ([]) None 0 false ([]) e42
unfolding opened
claim42 = refl

abbrev p42 : List Entry
p42 = e42 ∷ p41

abbrev e43 : Entry
e43 = entry 1001 44 (Some 0) (kinds.Talk None) (Some (up 2 0 1 2 (Line t9))) ((down 2 0 1 2 (Line t9)) ∷ []) ([])

claim43 : Makes s0 p42 ((up 2 0 1 2 (Line t9)) ∷ []) ([]) None 0 false ([]) e43
unfolding opened
claim43 = refl

abbrev p43 : List Entry
p43 = e43 ∷ p42

abbrev e44 : Entry
e44 = entry 1001 45 (Some 1) (kinds.Talk None) (Some (up 6 0 1 1 Opening)) ((down 6 0 1 1 (Line t20)) ∷ []) ([])

claim44 : Makes s1 p43 ((up 6 0 1 1 Opening) ∷ []) ([]) None 0 false ([]) e44
unfolding opened
claim44 = refl

abbrev p44 : List Entry
p44 = e44 ∷ p43

abbrev e45 : Entry
e45 = entry 1001 46 (Some 2) (kinds.Talk (Some 1)) (Some (down 0 0 1 2 (Line t9))) ((up 0 0 1 3 (Line t21)) ∷ []) ([])

claim45 : Makes s2 p44 ((down 0 0 1 2 (Line t9)) ∷ []) ([]) None 0 false ([]) e45
unfolding opened
claim45 = refl

abbrev p45 : List Entry
p45 = e45 ∷ p44

abbrev e46 : Entry
e46 = entry 1001 47 (Some 6) (kinds.Talk (Some 1)) (Some (down 1 0 1 1 (Line t20))) ((up 1 0 1 2 (Line t9)) ∷ []) ([])

claim46 : Makes s6 p45 ((down 1 0 1 1 (Line t20)) ∷ []) ([]) None 0 false ([]) e46
unfolding opened
claim46 = refl

abbrev p46 : List Entry
p46 = e46 ∷ p45

abbrev e47 : Entry
e47 = entry 1001 48 (Some 0) (kinds.Share 5 601002 (by.Peer 2 0) t0) (Some (up 2 0 1 3 (Line t21))) ((down 2 0 1 3 (Line t13)) ∷ []) ([])

claim47 : Makes s0 p46 ((up 2 0 1 3 (Line t21)) ∷ []) ([]) None 0 false ([]) e47
unfolding opened
claim47 = refl

abbrev p47 : List Entry
p47 = e47 ∷ p46

abbrev e48 : Entry
e48 = entry 1001 49 (Some 1) (kinds.Talk None) (Some (up 6 0 1 2 (Line t9))) ((down 6 0 1 2 (Line t9)) ∷ []) ([])

claim48 : Makes s1 p47 ((up 6 0 1 2 (Line t9)) ∷ []) ([]) None 0 false ([]) e48
unfolding opened
claim48 = refl

abbrev p48 : List Entry
p48 = e48 ∷ p47

abbrev e49 : Entry
e49 = entry 1001 50 (Some 2) (kinds.Talk (Some 1)) (Some (down 0 0 1 3 (Line t13))) ([]) ([])

claim49 : Makes s2 p48 ((down 0 0 1 3 (Line t13)) ∷ []) ([]) None 0 false ([]) e49
unfolding opened
claim49 = refl

abbrev p49 : List Entry
p49 = e49 ∷ p48

abbrev e50 : Entry
e50 = entry 1001 51 (Some 6) (kinds.Talk (Some 1)) (Some (down 1 0 1 2 (Line t9))) ((up 1 0 1 3 (Line t22)) ∷ []) ([])

claim50 : Makes s6 p49 ((down 1 0 1 2 (Line t9)) ∷ []) ([]) None 0 false ([]) e50
unfolding opened
claim50 = refl

abbrev p50 : List Entry
p50 = e50 ∷ p49

abbrev e51 : Entry
e51 = entry 1001 52 (Some 1) (kinds.Talk None) (Some (up 6 0 1 3 (Line t22))) ((down 6 0 1 3 (Line t23)) ∷ []) ([])

claim51 : Makes s1 p50 ((up 6 0 1 3 (Line t22)) ∷ []) ([]) None 0 false ([]) e51
unfolding opened
claim51 = refl

abbrev p51 : List Entry
p51 = e51 ∷ p50

abbrev e52 : Entry
e52 = entry 1001 53 (Some 2) (kinds.Gone (by.Job 1) t0) None ([]) ([])

claim52 : Makes s2 p51 ([]) ([]) None 0 false ([]) e52
unfolding opened
claim52 = refl

abbrev p52 : List Entry
p52 = e52 ∷ p51

abbrev e53 : Entry
e53 = entry 1001 54 (Some 6) (kinds.Talk (Some 1)) (Some (down 1 0 1 3 (Line t23))) ([]) ([])

claim53 : Makes s6 p52 ((down 1 0 1 3 (Line t23)) ∷ []) ([]) None 0 false ([]) e53
unfolding opened
claim53 = refl

abbrev p53 : List Entry
p53 = e53 ∷ p52

abbrev e54 : Entry
e54 = entry 1001 55 (Some 1) (kinds.End 1 (outcomes.Dropped (proof (need 1 1) (1 ∷ []) ([]) ([])))) None ((up 7 0 1 5 Closing) ∷ []) ([])

claim54 : Makes s1 p53 ([]) ([]) None 0 false ([]) e54
unfolding opened
claim54 = refl

abbrev p54 : List Entry
p54 = e54 ∷ p53

abbrev e55 : Entry
e55 = entry 1001 56 (Some 2) (kinds.Log (Location t0)) None ([]) (t24 ∷ [])

claim55 : Makes s2 p54 ([]) ([]) None 0 false ([]) e55
unfolding opened
claim55 = refl

abbrev p55 : List Entry
p55 = e55 ∷ p54

abbrev e56 : Entry
e56 = entry 1001 57 (Some 6) (kinds.Log (Location t0)) None ([]) (t25 ∷ [])

claim56 : Makes s6 p55 ([]) ([]) None 0 false ([]) e56
unfolding opened
claim56 = refl

abbrev p56 : List Entry
p56 = e56 ∷ p55

abbrev e57 : Entry
e57 = entry 1001 58 (Some 7) (kinds.Close 1 0 false) (Some (up 1 0 1 5 Closing)) ([]) ([])

claim57 : Makes s7 p56 ((up 1 0 1 5 Closing) ∷ []) ([]) None 0 false ([]) e57
unfolding opened
claim57 = refl

abbrev p57 : List Entry
p57 = e57 ∷ p56

abbrev e58 : Entry
e58 = entry 1001 59 (Some 2) (kinds.End 1 (outcomes.Dropped (proof (need 1 1) (0 ∷ []) ([]) ([])))) None ((up 0 0 1 4 (Line t26)) ∷ (up 0 0 1 5 Closing) ∷ []) ([])

claim58 : Makes s2 p57 ([]) ([]) None 0 false ([]) e58
unfolding opened
claim58 = refl

abbrev p58 : List Entry
p58 = e58 ∷ p57

abbrev e59 : Entry
e59 = entry 1001 60 (Some 6) (kinds.Bar 1 (need 1 1) t0) None ([]) ([])

claim59 : Makes s6 p58 ([]) ([]) None 0 false ([]) e59
unfolding opened
claim59 = refl

abbrev p59 : List Entry
p59 = e59 ∷ p58

abbrev e60 : Entry
e60 = entry 1001 61 (Some 0) (kinds.Release 5 t0) (Some (up 2 0 1 4 (Line t26))) ([]) ([])

claim60 : Makes s0 p59 ((up 2 0 1 4 (Line t26)) ∷ []) ([]) None 0 false ([]) e60
unfolding opened
claim60 = refl

abbrev p60 : List Entry
p60 = e60 ∷ p59

abbrev e61 : Entry
e61 = entry 1001 62 (Some 6) (kinds.Talk (Some 1)) None ((up 0 0 1 1 Opening) ∷ []) ([])

claim61 : Makes s6 p60 ([]) ([]) None 0 false ([]) e61
unfolding opened
claim61 = refl

abbrev p61 : List Entry
p61 = e61 ∷ p60

abbrev e62 : Entry
e62 = entry 1001 63 (Some 0) (kinds.Close 2 0 false) (Some (up 2 0 1 5 Closing)) ([]) ([])

claim62 : Makes s0 p61 ((up 2 0 1 5 Closing) ∷ (up 6 0 1 1 Opening) ∷ []) ([]) None 0 false ([]) e62
unfolding opened
claim62 = refl

abbrev p62 : List Entry
p62 = e62 ∷ p61

abbrev e63 : Entry
e63 = entry 1001 64 (Some 0) (kinds.Talk None) (Some (up 6 0 1 1 Opening)) ((down 6 0 1 1 (Line t18)) ∷ []) ([])

claim63 : Makes s0 p62 ((up 6 0 1 1 Opening) ∷ []) ([]) None 0 false ([]) e63
unfolding opened
claim63 = refl

abbrev p63 : List Entry
p63 = e63 ∷ p62

abbrev e64 : Entry
e64 = entry 1001 65 (Some 6) (kinds.Talk (Some 1)) (Some (down 0 0 1 1 (Line t18))) ((up 0 0 1 2 (Line t9)) ∷ []) ([])

claim64 : Makes s6 p63 ((down 0 0 1 1 (Line t18)) ∷ []) ([]) None 0 false ([]) e64
unfolding opened
claim64 = refl

abbrev p64 : List Entry
p64 = e64 ∷ p63

abbrev e65 : Entry
e65 = entry 1001 66 (Some 0) (kinds.Talk None) (Some (up 6 0 1 2 (Line t9))) ((down 6 0 1 2 (Line t9)) ∷ []) ([])

claim65 : Makes s0 p64 ((up 6 0 1 2 (Line t9)) ∷ []) ([]) None 0 false ([]) e65
unfolding opened
claim65 = refl

abbrev p65 : List Entry
p65 = e65 ∷ p64

abbrev e66 : Entry
e66 = entry 1001 67 (Some 6) (kinds.Talk (Some 1)) (Some (down 0 0 1 2 (Line t9))) ((up 0 0 1 3 (Line t21)) ∷ []) ([])

claim66 : Makes s6 p65 ((down 0 0 1 2 (Line t9)) ∷ []) ([]) None 0 false ([]) e66
unfolding opened
claim66 = refl

abbrev p66 : List Entry
p66 = e66 ∷ p65

abbrev e67 : Entry
e67 = entry 1001 68 (Some 0) (kinds.Share 10 601002 (by.Peer 6 0) t0) (Some (up 6 0 1 3 (Line t21))) ((down 6 0 1 3 (Line t13)) ∷ []) ([])

claim67 : Makes s0 p66 ((up 6 0 1 3 (Line t21)) ∷ []) ([]) None 0 false ([]) e67
unfolding opened
claim67 = refl

abbrev p67 : List Entry
p67 = e67 ∷ p66

abbrev e68 : Entry
e68 = entry 1001 69 (Some 6) (kinds.Talk (Some 1)) (Some (down 0 0 1 3 (Line t13))) ([]) ([])

claim68 : Makes s6 p67 ((down 0 0 1 3 (Line t13)) ∷ []) ([]) None 0 false ([]) e68
unfolding opened
claim68 = refl

abbrev p68 : List Entry
p68 = e68 ∷ p67

abbrev e69 : Entry
e69 = entry 1001 70 (Some 6) (kinds.Gone (by.Job 1) t0) None ([]) ([])

claim69 : Makes s6 p68 ([]) ([]) None 0 false ([]) e69
unfolding opened
claim69 = refl

abbrev p69 : List Entry
p69 = e69 ∷ p68

abbrev e70 : Entry
e70 = entry 1001 71 (Some 6) (kinds.Log (Location t0)) None ([]) (t27 ∷ [])

claim70 : Makes s6 p69 ([]) ([]) None 0 false ([]) e70
unfolding opened
claim70 = refl

abbrev p70 : List Entry
p70 = e70 ∷ p69

abbrev e71 : Entry
e71 = entry 1001 72 (Some 6) (kinds.End 1 (outcomes.Dropped (proof (need 1 1) (0 ∷ []) ([]) ([])))) None ((up 0 0 1 4 (Line t26)) ∷ (up 0 0 1 5 Closing) ∷ (up 1 0 1 4 Closing) ∷ []) ([])

claim71 : Makes s6 p70 ([]) ([]) None 0 false ([]) e71
unfolding opened
claim71 = refl

abbrev p71 : List Entry
p71 = e71 ∷ p70

abbrev e72 : Entry
e72 = entry 1001 73 (Some 0) (kinds.Release 10 t0) (Some (up 6 0 1 4 (Line t26))) ([]) ([])

claim72 : Makes s0 p71 ((up 6 0 1 4 (Line t26)) ∷ []) ([]) None 0 false ([]) e72
unfolding opened
claim72 = refl

abbrev p72 : List Entry
p72 = e72 ∷ p71

abbrev e73 : Entry
e73 = entry 1001 74 (Some 1) (kinds.Close 6 0 false) (Some (up 6 0 1 4 Closing)) ([]) ([])

claim73 : Makes s1 p72 ((up 6 0 1 4 Closing) ∷ []) ([]) None 0 false ([]) e73
unfolding opened
claim73 = refl

abbrev p73 : List Entry
p73 = e73 ∷ p72

abbrev e74 : Entry
e74 = entry 1001 75 (Some 0) (kinds.Close 6 0 false) (Some (up 6 0 1 5 Closing)) ([]) ([])

claim74 : Makes s0 p73 ((up 6 0 1 5 Closing) ∷ []) ([]) None 0 false ([]) e74
unfolding opened
claim74 = refl

abbrev p74 : List Entry
p74 = e74 ∷ p73
