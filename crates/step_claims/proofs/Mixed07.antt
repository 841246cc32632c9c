-- The run of the script mixed-07: each entry that a turn made is what the step makes (written by tools/journal_claims.py).
use Rattle.std.specs.Prelude.{refl, ℕ, true, false, List, [], ◌∷◌, Some, None, codes}
use Rattle.annex_base.specs.declared.kinds.Call.TheVariants as calls
use Rattle.annex_base.specs.declared.kinds.Found.TheVariants as found
use Rattle.annex_base.specs.declared.kinds.Word.TheVariants as words
use Rattle.log_lines.specs.declared.entry.LogKind.TheVariants as logs
use Rattle.run_data.specs.declared.entry.Entry.{Entry}
use Rattle.run_data.specs.declared.entry.EntryKind.TheVariants as kinds
use Rattle.run_data.specs.declared.entry.By.TheVariants as by
use Rattle.run_data.specs.declared.entry.FrameText.TheVariants.{Opening, Closing, Bytes, Line}
use Rattle.run_data.specs.declared.entry.FrameView.{FrameView}
use Rattle.run_data.specs.declared.entry.LogFile.TheVariants.{Location, Of}
use Rattle.run_data.specs.declared.job.JobKind.TheVariants as jobs
use Rattle.run_data.specs.declared.job.Outcome.TheVariants as outcomes
use Rattle.run_data.specs.declared.job.DropRefusal.TheVariants as drops
use Rattle.run_data.specs.declared.job.TransferRefusal.TheVariants as transfers
use Rattle.run_data.specs.declared.job.Cause.TheVariants as causes
use Rattle.run_data.specs.declared.job.SourceCause.TheVariants as sources
use Rattle.run_data.specs.declared.job.Denial.TheVariants as denials
use Rattle.run_data.specs.declared.run.RepoView.{RepoView}
use Rattle.node_model.specs.SetUp.{SetUp}
use Rattle.step_claims.specs.Opened.{opened}
use Rattle.step_claims.specs.Claims.{Closes, Crashes, IsIdle, Makes, down, end, entry, job, need, proof, repository, set_up, up}

abbrev t0 : List ℕ
t0 = codes "SHA512E-s3--ddaf35a193617abacc417349ae20413112e6fa4e89a97ea20a9eeee64b55d39a2192992a274fc1a836ba3c23a3feebbd454d4423643ce80e2a9ac94fa54ca49f.tar.gz"

abbrev t1 : List ℕ
t1 = codes "1700000000s 1 11111111-1111-4111-8111-111111111100"

abbrev t2 : List ℕ
t2 = codes "WORM-s3--with space"

abbrev t3 : List ℕ
t3 = codes "1700000600s 1 33333333-1111-4111-8111-111111111102"

abbrev t4 : List ℕ
t4 = codes "1700000000s 1 44444444-1111-4111-8111-111111111103"

abbrev t5 : List ℕ
t5 = codes "1700000000s 2"

abbrev t6 : List ℕ
t6 = codes "5s 1 "

abbrev t7 : List ℕ
t7 = codes "33333333-1111-4111-8111-111111111102 text here  timestamp=1700000000s"

abbrev t8 : List ℕ
t8 = codes "SHA256E-s1000--4e4c294b331f7a2099a379bec34b9f9fc03dc46ab465d998f4d683da53487e6d.txt"

abbrev t9 : List ℕ
t9 = codes "AUTH-SUCCESS 11111111-1111-4111-8111-111111111100"

abbrev t10 : List ℕ
t10 = codes "VERSION 3"

abbrev t11 : List ℕ
t11 = codes "LOCKCONTENT WORM-s3--with space"

abbrev t12 : List ℕ
t12 = codes "SUCCESS"

abbrev t13 : List ℕ
t13 = codes "1700000600.000000001s 0 33333333-1111-4111-8111-111111111102"

abbrev t14 : List ℕ
t14 = codes "GETTIMESTAMP"

abbrev t15 : List ℕ
t15 = codes "TIMESTAMP 0"

abbrev t16 : List ℕ
t16 = codes "UNLOCKCONTENT WORM-s3--with space"

abbrev t17 : List ℕ
t17 = codes "REMOVE-BEFORE 600 WORM-s3--with space"

abbrev t18 : List ℕ
t18 = codes "FAILURE"

abbrev t19 : List ℕ
t19 = codes "AUTH-SUCCESS 22222222-1111-4111-8111-111111111101"

abbrev t20 : List ℕ
t20 = codes "VERSION 1"

abbrev repos : List RepoView
repos = (repository (codes "a") (17 ∷ 17 ∷ 17 ∷ 17 ∷ 17 ∷ 17 ∷ 65 ∷ 17 ∷ 129 ∷ 17 ∷ 17 ∷ 17 ∷ 17 ∷ 17 ∷ 17 ∷ 0 ∷ []) 0 3 true) ∷ (repository (codes "b") (34 ∷ 34 ∷ 34 ∷ 34 ∷ 17 ∷ 17 ∷ 65 ∷ 17 ∷ 129 ∷ 17 ∷ 17 ∷ 17 ∷ 17 ∷ 17 ∷ 17 ∷ 1 ∷ []) 0 1 true) ∷ (repository (codes "c") (51 ∷ 51 ∷ 51 ∷ 51 ∷ 17 ∷ 17 ∷ 65 ∷ 17 ∷ 129 ∷ 17 ∷ 17 ∷ 17 ∷ 17 ∷ 17 ∷ 17 ∷ 2 ∷ []) 600000 3 true) ∷ (repository (codes "d") (68 ∷ 68 ∷ 68 ∷ 68 ∷ 17 ∷ 17 ∷ 65 ∷ 17 ∷ 129 ∷ 17 ∷ 17 ∷ 17 ∷ 17 ∷ 17 ∷ 17 ∷ 3 ∷ []) 0 3 false) ∷ []

abbrev s0 : SetUp
s0 = set_up 0 repos ([])

abbrev s1 : SetUp
s1 = set_up 1 repos ([])

abbrev s2 : SetUp
s2 = set_up 2 repos ([])

abbrev s3 : SetUp
s3 = set_up 3 repos ([])

abbrev e0 : Entry
e0 = entry 0 1 (Some 0) (kinds.Gain by.Script 3 t0) None ([]) ([])

abbrev p0 : List Entry
p0 = e0 ∷ []

abbrev e1 : Entry
e1 = entry 0 2 (Some 0) (kinds.Log (Location t0)) None ([]) (t1 ∷ [])

abbrev p1 : List Entry
p1 = e1 ∷ p0

abbrev e2 : Entry
e2 = entry 0 3 (Some 0) (kinds.Gain by.Script 3 t2) None ([]) ([])

abbrev p2 : List Entry
p2 = e2 ∷ p1

abbrev e3 : Entry
e3 = entry 0 4 (Some 0) (kinds.Log (Location t2)) None ([]) (t1 ∷ [])

abbrev p3 : List Entry
p3 = e3 ∷ p2

abbrev e4 : Entry
e4 = entry 0 5 (Some 2) (kinds.Gain by.Script 3 t2) None ([]) ([])

abbrev p4 : List Entry
p4 = e4 ∷ p3

abbrev e5 : Entry
e5 = entry 0 6 (Some 2) (kinds.Log (Location t2)) None ([]) (t3 ∷ [])

abbrev p5 : List Entry
p5 = e5 ∷ p4

abbrev e6 : Entry
e6 = entry 0 7 (Some 3) (kinds.Gain by.Script 3 t2) None ([]) ([])

abbrev p6 : List Entry
p6 = e6 ∷ p5

abbrev e7 : Entry
e7 = entry 0 8 (Some 3) (kinds.Log (Location t2)) None ([]) (t4 ∷ [])

abbrev p7 : List Entry
p7 = e7 ∷ p6

abbrev e8 : Entry
e8 = entry 0 9 (Some 1) (kinds.Log (Of logs.Numcopies)) None ([]) (t5 ∷ [])

abbrev p8 : List Entry
p8 = e8 ∷ p7

abbrev e9 : Entry
e9 = entry 0 10 (Some 1) (kinds.Log (Location t2)) None ([]) (t6 ∷ [])

abbrev p9 : List Entry
p9 = e9 ∷ p8

abbrev e10 : Entry
e10 = entry 0 11 (Some 3) (kinds.Log (Location t2)) None ([]) (t1 ∷ [])

abbrev p10 : List Entry
p10 = e10 ∷ p9

abbrev e11 : Entry
e11 = entry 0 12 (Some 3) (kinds.Log (Location t0)) None ([]) (t1 ∷ [])

abbrev p11 : List Entry
p11 = e11 ∷ p10

abbrev e12 : Entry
e12 = entry 0 13 (Some 3) (kinds.Log (Of logs.Uuid)) None ([]) (t7 ∷ [])

abbrev p12 : List Entry
p12 = e12 ∷ p11

abbrev e13 : Entry
e13 = entry 0 14 (Some 3) (kinds.Begin 1 (job jobs.Drop t0 None None)) None ([]) ([])

abbrev p13 : List Entry
p13 = e13 ∷ p12

abbrev e14 : Entry
e14 = entry 0 15 (Some 1) (kinds.Begin 1 (job jobs.Copy t0 None (Some 3))) None ([]) ([])

abbrev p14 : List Entry
p14 = e14 ∷ p13

abbrev e15 : Entry
e15 = entry 0 16 (Some 2) (kinds.Begin 1 (job jobs.Drop t2 None None)) None ([]) ([])

abbrev p15 : List Entry
p15 = e15 ∷ p14

abbrev e16 : Entry
e16 = entry 0 17 (Some 2) (kinds.Begin 2 (job jobs.MoveFrom t2 None (Some 1))) None ([]) ([])

abbrev p16 : List Entry
p16 = e16 ∷ p15

abbrev e17 : Entry
e17 = entry 0 18 (Some 1) (kinds.End 1 (outcomes.TransferRefused transfers.NotHere)) None ([]) ([])

claim17 : Makes s1 p16 ([]) ([]) None 0 false ([]) e17
unfolding opened
claim17 = refl

abbrev p17 : List Entry
p17 = e17 ∷ p16

abbrev e18 : Entry
e18 = entry 0 19 (Some 0) (kinds.Gain by.Script 1000 t8) None ([]) ([])

abbrev p18 : List Entry
p18 = e18 ∷ p17

abbrev e19 : Entry
e19 = entry 0 20 (Some 0) (kinds.Log (Location t8)) None ([]) (t1 ∷ [])

abbrev p19 : List Entry
p19 = e19 ∷ p18

abbrev e20 : Entry
e20 = entry 0 21 (Some 3) (kinds.End 1 (outcomes.Refused drops.NotPresent)) None ([]) ([])

claim20 : Makes s3 p19 ([]) ([]) None 0 false ([]) e20
unfolding opened
claim20 = refl

abbrev p20 : List Entry
p20 = e20 ∷ p19

abbrev e21 : Entry
e21 = entry 0 22 (Some 2) (kinds.Bar 1 (need 1 1) t2) None ([]) ([])

claim21 : Makes s2 p20 ([]) ([]) None 0 false ([]) e21
unfolding opened
claim21 = refl

abbrev p21 : List Entry
p21 = e21 ∷ p20

abbrev e22 : Entry
e22 = entry 0 23 (Some 2) (kinds.Talk (Some 1)) None ((up 0 0 1 1 Opening) ∷ []) ([])

claim22 : Makes s2 p21 ([]) ([]) None 0 false ([]) e22
unfolding opened
claim22 = refl

abbrev p22 : List Entry
p22 = e22 ∷ p21

abbrev e23 : Entry
e23 = entry 0 24 (Some 2) (kinds.Talk (Some 2)) None ([]) ([])

claim23 : Makes s2 p22 ([]) ([]) None 0 false ([]) e23
unfolding opened
claim23 = refl

abbrev p23 : List Entry
p23 = e23 ∷ p22

abbrev e24 : Entry
e24 = entry 0 25 (Some 0) (kinds.Begin 1 (job jobs.Get t0 None (Some 3))) None ([]) ([])

abbrev p24 : List Entry
p24 = e24 ∷ p23

abbrev e25 : Entry
e25 = entry 0 26 (Some 3) (kinds.Begin 2 (job jobs.Drop t2 None (Some 0))) None ([]) ([])

abbrev p25 : List Entry
p25 = e25 ∷ p24

abbrev e26 : Entry
e26 = entry 0 27 (Some 0) (kinds.Talk None) (Some (up 2 0 1 1 Opening)) ((down 2 0 1 1 (Line t9)) ∷ []) ([])

claim26 : Makes s0 p25 ((up 2 0 1 1 Opening) ∷ []) ([]) None 0 false ([]) e26
unfolding opened
claim26 = refl

abbrev p26 : List Entry
p26 = e26 ∷ p25

abbrev e27 : Entry
e27 = entry 0 28 (Some 2) (kinds.Talk (Some 1)) (Some (down 0 0 1 1 (Line t9))) ((up 0 0 1 2 (Line t10)) ∷ []) ([])

claim27 : Makes s2 p26 ((down 0 0 1 1 (Line t9)) ∷ []) ([]) None 0 false ([]) e27
unfolding opened
claim27 = refl

abbrev p27 : List Entry
p27 = e27 ∷ p26

abbrev e28 : Entry
e28 = entry 0 29 (Some 3) (kinds.Share 9 600000 (by.Job 2) t2) None ([]) ([])

claim28 : Makes s3 p27 ([]) ([]) None 0 false ([]) e28
unfolding opened
claim28 = refl

abbrev p28 : List Entry
p28 = e28 ∷ p27

abbrev e29 : Entry
e29 = entry 0 30 (Some 0) (kinds.Talk None) (Some (up 2 0 1 2 (Line t10))) ((down 2 0 1 2 (Line t10)) ∷ []) ([])

claim29 : Makes s0 p28 ((up 2 0 1 2 (Line t10)) ∷ []) ([]) None 0 false ([]) e29
unfolding opened
claim29 = refl

abbrev p29 : List Entry
p29 = e29 ∷ p28

abbrev e30 : Entry
e30 = entry 0 31 (Some 2) (kinds.Talk (Some 1)) (Some (down 0 0 1 2 (Line t10))) ((up 0 0 1 3 (Line t11)) ∷ []) ([])

claim30 : Makes s2 p29 ((down 0 0 1 2 (Line t10)) ∷ []) ([]) None 0 false ([]) e30
unfolding opened
claim30 = refl

abbrev p30 : List Entry
p30 = e30 ∷ p29

abbrev e31 : Entry
e31 = entry 0 32 (Some 3) (kinds.Talk (Some 2)) None ((up 0 0 1 1 Opening) ∷ []) ([])

claim31 : Makes s3 p30 ([]) ([]) None 0 false ([]) e31
unfolding opened
claim31 = refl

abbrev p31 : List Entry
p31 = e31 ∷ p30

abbrev e32 : Entry
e32 = entry 0 33 (Some 0) (kinds.Share 10 600000 (by.Peer 2 0) t2) (Some (up 2 0 1 3 (Line t11))) ((down 2 0 1 3 (Line t12)) ∷ []) ([])

claim32 : Makes s0 p31 ((up 2 0 1 3 (Line t11)) ∷ (up 3 0 1 1 Opening) ∷ []) ([]) None 0 false ([]) e32
unfolding opened
claim32 = refl

abbrev p32 : List Entry
p32 = e32 ∷ p31

abbrev e33 : Entry
e33 = entry 0 34 (Some 2) (kinds.Talk (Some 1)) (Some (down 0 0 1 3 (Line t12))) ([]) ([])

claim33 : Makes s2 p32 ((down 0 0 1 3 (Line t12)) ∷ []) ([]) None 0 false ([]) e33
unfolding opened
claim33 = refl

abbrev p33 : List Entry
p33 = e33 ∷ p32

abbrev e34 : Entry
e34 = entry 0 35 (Some 0) (kinds.Talk None) (Some (up 3 0 1 1 Opening)) ((down 3 0 1 1 (Line t9)) ∷ []) ([])

claim34 : Makes s0 p33 ((up 3 0 1 1 Opening) ∷ []) ([]) None 0 false ([]) e34
unfolding opened
claim34 = refl

abbrev p34 : List Entry
p34 = e34 ∷ p33

abbrev e35 : Entry
e35 = entry 0 36 (Some 2) (kinds.Gone (by.Job 1) t2) None ([]) ([])

claim35 : Makes s2 p34 ([]) ([]) None 0 false ([]) e35
unfolding opened
claim35 = refl

abbrev p35 : List Entry
p35 = e35 ∷ p34

abbrev e36 : Entry
e36 = entry 0 37 (Some 3) (kinds.Talk (Some 2)) (Some (down 0 0 1 1 (Line t9))) ((up 0 0 1 2 (Line t10)) ∷ []) ([])

claim36 : Makes s3 p35 ((down 0 0 1 1 (Line t9)) ∷ []) ([]) None 0 false ([]) e36
unfolding opened
claim36 = refl

abbrev p36 : List Entry
p36 = e36 ∷ p35

abbrev e37 : Entry
e37 = entry 0 38 (Some 0) (kinds.Talk None) (Some (up 3 0 1 2 (Line t10))) ((down 3 0 1 2 (Line t10)) ∷ []) ([])

claim37 : Makes s0 p36 ((up 3 0 1 2 (Line t10)) ∷ []) ([]) None 0 false ([]) e37
unfolding opened
claim37 = refl

abbrev p37 : List Entry
p37 = e37 ∷ p36

abbrev e38 : Entry
e38 = entry 0 39 (Some 2) (kinds.Log (Location t2)) None ([]) (t13 ∷ [])

claim38 : Makes s2 p37 ([]) ([]) None 0 false ([]) e38
unfolding opened
claim38 = refl

abbrev p38 : List Entry
p38 = e38 ∷ p37

abbrev e39 : Entry
e39 = entry 0 40 (Some 3) (kinds.Talk (Some 2)) (Some (down 0 0 1 2 (Line t10))) ((up 0 0 1 3 (Line t14)) ∷ []) ([])

claim39 : Makes s3 p38 ((down 0 0 1 2 (Line t10)) ∷ []) ([]) None 0 false ([]) e39
unfolding opened
claim39 = refl

abbrev p39 : List Entry
p39 = e39 ∷ p38

abbrev e40 : Entry
e40 = entry 0 41 (Some 0) (kinds.Talk None) (Some (up 3 0 1 3 (Line t14))) ((down 3 0 1 3 (Line t15)) ∷ []) ([])

claim40 : Makes s0 p39 ((up 3 0 1 3 (Line t14)) ∷ []) ([]) None 0 false ([]) e40
unfolding opened
claim40 = refl

abbrev p40 : List Entry
p40 = e40 ∷ p39

abbrev e41 : Entry
e41 = entry 0 42 (Some 2) (kinds.End 1 (outcomes.Dropped (proof (need 1 1) (0 ∷ []) ([]) ([])))) None ((up 0 0 1 4 (Line t16)) ∷ (up 0 0 1 5 Closing) ∷ []) ([])

claim41 : Makes s2 p40 ([]) ([]) None 0 false ([]) e41
unfolding opened
claim41 = refl

abbrev p41 : List Entry
p41 = e41 ∷ p40

abbrev e42 : Entry
e42 = entry 0 43 (Some 3) (kinds.Order 2 0 (Some 600) (need 1 1) t2) (Some (down 0 0 1 3 (Line t15))) ((up 0 0 1 4 (Line t17)) ∷ []) ([])

claim42 : Makes s3 p41 ((down 0 0 1 3 (Line t15)) ∷ []) ([]) None 0 false ([]) e42
unfolding opened
claim42 = refl

abbrev p42 : List Entry
p42 = e42 ∷ p41

abbrev e43 : Entry
e43 = entry 0 44 (Some 0) (kinds.Release 10 t2) (Some (up 2 0 1 4 (Line t16))) ([]) ([])

claim43 : Makes s0 p42 ((up 2 0 1 4 (Line t16)) ∷ (up 3 0 1 4 (Line t17)) ∷ []) ([]) None 0 false ([]) e43
unfolding opened
claim43 = refl

abbrev p43 : List Entry
p43 = e43 ∷ p42

abbrev e44 : Entry
e44 = entry 0 45 (Some 2) (kinds.Talk (Some 2)) None ([]) ([])

claim44 : Makes s2 p43 ([]) ([]) None 0 false ([]) e44
unfolding opened
claim44 = refl

abbrev p44 : List Entry
p44 = e44 ∷ p43

abbrev e45 : Entry
e45 = entry 0 46 (Some 0) (kinds.Close 2 0 false) (Some (up 2 0 1 5 Closing)) ([]) ([])

claim45 : Makes s0 p44 ((up 2 0 1 5 Closing) ∷ (up 3 0 1 4 (Line t17)) ∷ []) ([]) None 0 false ([]) e45
unfolding opened
claim45 = refl

abbrev p45 : List Entry
p45 = e45 ∷ p44

abbrev e46 : Entry
e46 = entry 0 47 (Some 2) (kinds.Talk (Some 2)) None ((up 0 1 1 1 Opening) ∷ []) ([])

claim46 : Makes s2 p45 ([]) ([]) None 0 false ([]) e46
unfolding opened
claim46 = refl

abbrev p46 : List Entry
p46 = e46 ∷ p45

abbrev e47 : Entry
e47 = entry 0 48 (Some 0) (kinds.Talk None) (Some (up 2 1 1 1 Opening)) ((down 2 1 1 1 (Line t9)) ∷ []) ([])

claim47 : Makes s0 p46 ((up 2 1 1 1 Opening) ∷ (up 3 0 1 4 (Line t17)) ∷ []) ([]) None 0 false ([]) e47
unfolding opened
claim47 = refl

abbrev p47 : List Entry
p47 = e47 ∷ p46

abbrev e48 : Entry
e48 = entry 0 49 (Some 2) (kinds.Talk (Some 2)) (Some (down 0 1 1 1 (Line t9))) ((up 0 1 1 2 (Line t10)) ∷ []) ([])

claim48 : Makes s2 p47 ((down 0 1 1 1 (Line t9)) ∷ []) ([]) None 0 false ([]) e48
unfolding opened
claim48 = refl

abbrev p48 : List Entry
p48 = e48 ∷ p47

abbrev e49 : Entry
e49 = entry 0 50 (Some 0) (kinds.Talk None) (Some (up 2 1 1 2 (Line t10))) ((down 2 1 1 2 (Line t10)) ∷ []) ([])

claim49 : Makes s0 p48 ((up 2 1 1 2 (Line t10)) ∷ (up 3 0 1 4 (Line t17)) ∷ []) ([]) None 0 false ([]) e49
unfolding opened
claim49 = refl

abbrev p49 : List Entry
p49 = e49 ∷ p48

abbrev e50 : Entry
e50 = entry 0 51 (Some 2) (kinds.Talk (Some 2)) (Some (down 0 1 1 2 (Line t10))) ((up 0 1 1 3 (Line t11)) ∷ []) ([])

claim50 : Makes s2 p49 ((down 0 1 1 2 (Line t10)) ∷ []) ([]) None 0 false ([]) e50
unfolding opened
claim50 = refl

abbrev p50 : List Entry
p50 = e50 ∷ p49

abbrev e51 : Entry
e51 = entry 0 52 (Some 0) (kinds.Share 18 600000 (by.Peer 2 1) t2) (Some (up 2 1 1 3 (Line t11))) ((down 2 1 1 3 (Line t12)) ∷ []) ([])

claim51 : Makes s0 p50 ((up 2 1 1 3 (Line t11)) ∷ (up 3 0 1 4 (Line t17)) ∷ []) ([]) None 0 false ([]) e51
unfolding opened
claim51 = refl

abbrev p51 : List Entry
p51 = e51 ∷ p50

abbrev e52 : Entry
e52 = entry 0 53 (Some 2) (kinds.Talk (Some 2)) (Some (down 0 1 1 3 (Line t12))) ([]) ([])

claim52 : Makes s2 p51 ((down 0 1 1 3 (Line t12)) ∷ []) ([]) None 0 false ([]) e52
unfolding opened
claim52 = refl

abbrev p52 : List Entry
p52 = e52 ∷ p51

abbrev e53 : Entry
e53 = entry 0 54 (Some 0) (kinds.Check found.Held t2) (Some (up 3 0 1 4 (Line t17))) ((down 3 0 1 4 (Line t18)) ∷ []) ([])

claim53 : Makes s0 p52 ((up 3 0 1 4 (Line t17)) ∷ []) ([]) None 0 false ([]) e53
unfolding opened
claim53 = refl

abbrev p53 : List Entry
p53 = e53 ∷ p52

abbrev e54 : Entry
e54 = entry 0 55 (Some 2) (kinds.Talk (Some 2)) None ((up 1 1 1 1 Opening) ∷ []) ([])

claim54 : Makes s2 p53 ([]) ([]) None 0 false ([]) e54
unfolding opened
claim54 = refl

abbrev p54 : List Entry
p54 = e54 ∷ p53

abbrev e55 : Entry
e55 = entry 0 56 (Some 3) (kinds.Talk (Some 2)) (Some (down 0 0 1 4 (Line t18))) ([]) ([])

claim55 : Makes s3 p54 ((down 0 0 1 4 (Line t18)) ∷ []) ([]) None 0 false ([]) e55
unfolding opened
claim55 = refl

abbrev p55 : List Entry
p55 = e55 ∷ p54

abbrev e56 : Entry
e56 = entry 0 57 (Some 0) (kinds.End 1 (outcomes.Got None None)) None ([]) ([])

claim56 : Makes s0 p55 ([]) ([]) None 0 false ([]) e56
unfolding opened
claim56 = refl

abbrev p56 : List Entry
p56 = e56 ∷ p55

abbrev e57 : Entry
e57 = entry 0 58 (Some 1) (kinds.Talk None) (Some (up 2 1 1 1 Opening)) ((down 2 1 1 1 (Line t19)) ∷ []) ([])

claim57 : Makes s1 p56 ((up 2 1 1 1 Opening) ∷ []) ([]) None 0 false ([]) e57
unfolding opened
claim57 = refl

abbrev p57 : List Entry
p57 = e57 ∷ p56

abbrev e58 : Entry
e58 = entry 0 59 (Some 2) (kinds.Talk (Some 2)) (Some (down 1 1 1 1 (Line t19))) ((up 1 1 1 2 (Line t10)) ∷ []) ([])

claim58 : Makes s2 p57 ((down 1 1 1 1 (Line t19)) ∷ []) ([]) None 0 false ([]) e58
unfolding opened
claim58 = refl

abbrev p58 : List Entry
p58 = e58 ∷ p57

abbrev e59 : Entry
e59 = entry 0 60 (Some 3) (kinds.End 2 (outcomes.Refused (drops.Denied denials.Held))) None ((up 0 0 1 5 Closing) ∷ []) ([])

claim59 : Makes s3 p58 ([]) ([]) None 0 false ((0, words.Held) ∷ []) e59
unfolding opened
claim59 = refl

abbrev p59 : List Entry
p59 = e59 ∷ p58

abbrev e60 : Entry
e60 = entry 0 61 (Some 0) (kinds.Close 3 0 false) (Some (up 3 0 1 5 Closing)) ([]) ([])

claim60 : Makes s0 p59 ((up 3 0 1 5 Closing) ∷ []) ([]) None 0 false ([]) e60
unfolding opened
claim60 = refl

abbrev p60 : List Entry
p60 = e60 ∷ p59

abbrev e61 : Entry
e61 = entry 0 62 (Some 1) (kinds.Talk None) (Some (up 2 1 1 2 (Line t10))) ((down 2 1 1 2 (Line t20)) ∷ []) ([])

claim61 : Makes s1 p60 ((up 2 1 1 2 (Line t10)) ∷ []) ([]) None 0 false ([]) e61
unfolding opened
claim61 = refl

abbrev p61 : List Entry
p61 = e61 ∷ p60

abbrev e62 : Entry
e62 = entry 0 63 (Some 2) (kinds.Talk (Some 2)) (Some (down 1 1 1 2 (Line t20))) ([]) ([])

claim62 : Makes s2 p61 ((down 1 1 1 2 (Line t20)) ∷ []) ([]) None 0 false ([]) e62
unfolding opened
claim62 = refl

abbrev p62 : List Entry
p62 = e62 ∷ p61

abbrev e63 : Entry
e63 = entry 0 64 (Some 2) (kinds.End 2 (outcomes.Refused (drops.OldProtocol 1))) None ((up 0 1 1 4 (Line t16)) ∷ (up 0 1 1 5 Closing) ∷ (up 1 1 1 3 Closing) ∷ []) ([])

claim63 : Makes s2 p62 ([]) ([]) None 0 false ([]) e63
unfolding opened
claim63 = refl

abbrev p63 : List Entry
p63 = e63 ∷ p62

abbrev e64 : Entry
e64 = entry 0 65 (Some 0) (kinds.Release 18 t2) (Some (up 2 1 1 4 (Line t16))) ([]) ([])

claim64 : Makes s0 p63 ((up 2 1 1 4 (Line t16)) ∷ []) ([]) None 0 false ([]) e64
unfolding opened
claim64 = refl

abbrev p64 : List Entry
p64 = e64 ∷ p63

abbrev e65 : Entry
e65 = entry 0 66 (Some 1) (kinds.Close 2 1 false) (Some (up 2 1 1 3 Closing)) ([]) ([])

claim65 : Makes s1 p64 ((up 2 1 1 3 Closing) ∷ []) ([]) None 0 false ([]) e65
unfolding opened
claim65 = refl

abbrev p65 : List Entry
p65 = e65 ∷ p64

abbrev e66 : Entry
e66 = entry 0 67 (Some 0) (kinds.Close 2 1 false) (Some (up 2 1 1 5 Closing)) ([]) ([])

claim66 : Makes s0 p65 ((up 2 1 1 5 Closing) ∷ []) ([]) None 0 false ([]) e66
unfolding opened
claim66 = refl

abbrev p66 : List Entry
p66 = e66 ∷ p65

abbrev e67 : Entry
e67 = entry 0 68 (Some 2) (kinds.Begin 3 (job jobs.Drop t2 None None)) None ([]) ([])

abbrev p67 : List Entry
p67 = e67 ∷ p66

abbrev e68 : Entry
e68 = entry 0 69 (Some 2) (kinds.End 3 (outcomes.Refused drops.NotPresent)) None ([]) ([])

claim68 : Makes s2 p67 ([]) ([]) None 0 false ([]) e68
unfolding opened
claim68 = refl

abbrev p68 : List Entry
p68 = e68 ∷ p67

abbrev e69 : Entry
e69 = entry 0 70 (Some 2) (kinds.Begin 4 (job jobs.Copy t2 None (Some 0))) None ([]) ([])

abbrev p69 : List Entry
p69 = e69 ∷ p68

abbrev e70 : Entry
e70 = entry 0 71 (Some 2) (kinds.End 4 (outcomes.TransferRefused transfers.NotHere)) None ([]) ([])

claim70 : Makes s2 p69 ([]) ([]) None 0 false ([]) e70
unfolding opened
claim70 = refl

abbrev p70 : List Entry
p70 = e70 ∷ p69
