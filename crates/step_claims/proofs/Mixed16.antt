-- The run of the script mixed-16: each entry that a turn made is what the step makes (written by tools/journal_claims.py).
use Rattle.std.specs.Prelude.{refl, ℕ, true, false, List, [], ◌∷◌, Some, None, codes}
use Rattle.annex_base.specs.declared.kinds.Call.TheVariants as calls
use Rattle.annex_base.specs.declared.kinds.Found.TheVariants as found
use Rattle.annex_base.specs.declared.kinds.Word.TheVariants as words
use Rattle.log_lines.specs.declared.entry.LogKind.TheVariants as logs
use Rattle.run_data.specs.declared.entry.Entry.{Entry}
use Rattle.run_data.specs.declared.entry.EntryKind.TheVariants as kinds
use Rattle.run_data.specs.declared.entry.By.TheVariants as by
use Rattle.run_data.specs.declared.entry.FrameText.TheVariants.{Opening, Closing, Bytes, Line}
use Rattle.run_data.specs.declared.entry.FrameView.{FrameView}
use Rattle.run_data.specs.declared.entry.LogFile.TheVariants.{Location, Of}
use Rattle.run_data.specs.declared.job.JobKind.TheVariants as jobs
use Rattle.run_data.specs.declared.job.Outcome.TheVariants as outcomes
use Rattle.run_data.specs.declared.job.DropRefusal.TheVariants as drops
use Rattle.run_data.specs.declared.job.TransferRefusal.TheVariants as transfers
use Rattle.run_data.specs.declared.job.Cause.TheVariants as causes
use Rattle.run_data.specs.declared.job.SourceCause.TheVariants as sources
use Rattle.run_data.specs.declared.job.Denial.TheVariants as denials
use Rattle.run_data.specs.declared.run.RepoView.{RepoView}
use Rattle.node_model.specs.SetUp.{SetUp}
use Rattle.step_claims.specs.Opened.{opened}
use Rattle.step_claims.specs.Claims.{Closes, Crashes, IsIdle, Makes, down, end, entry, job, need, proof, repository, set_up, up}

abbrev t0 : List ℕ
t0 = codes "SHA512E-s3--ddaf35a193617abacc417349ae20413112e6fa4e89a97ea20a9eeee64b55d39a2192992a274fc1a836ba3c23a3feebbd454d4423643ce80e2a9ac94fa54ca49f.tar.gz"

abbrev t1 : List ℕ
t1 = codes "1700000000s 1 11111111-1111-4111-8111-111111111100"

abbrev t2 : List ℕ
t2 = codes "1700000000s 1 33333333-1111-4111-8111-111111111102"

abbrev t3 : List ℕ
t3 = codes "SHA256-s3--ba7816bf8f01cfea414140de5dae2223b00361a396177a9cb410ff61f20015ad"

abbrev t4 : List ℕ
t4 = codes "1700000000s 1 22222222-1111-4111-8111-111111111101"

abbrev t5 : List ℕ
t5 = codes "WORM-s3--k0"

abbrev t6 : List ℕ
t6 = codes "22222222-1111-4111-8111-111111111101  timestamp=1700000000s"

abbrev t7 : List ℕ
t7 = codes "AUTH-SUCCESS 33333333-1111-4111-8111-111111111102"

abbrev t8 : List ℕ
t8 = codes "VERSION 3"

abbrev t9 : List ℕ
t9 = codes "GETTIMESTAMP"

abbrev t10 : List ℕ
t10 = codes "TIMESTAMP 0"

abbrev t11 : List ℕ
t11 = codes "REMOVE-BEFORE 600 WORM-s3--k0"

abbrev t12 : List ℕ
t12 = codes "SUCCESS"

abbrev t13 : List ℕ
t13 = codes "1700000000s 0 33333333-1111-4111-8111-111111111102"

abbrev t14 : List ℕ
t14 = codes "AUTH-SUCCESS 22222222-1111-4111-8111-111111111101"

abbrev t15 : List ℕ
t15 = codes "1700000600.001s 0 33333333-1111-4111-8111-111111111102"

abbrev t16 : List ℕ
t16 = codes "TIMESTAMP 600"

abbrev t17 : List ℕ
t17 = codes "SHA256E-s1000--4e4c294b331f7a2099a379bec34b9f9fc03dc46ab465d998f4d683da53487e6d.txt"

abbrev t18 : List ℕ
t18 = codes "1700000600.001s 1 11111111-1111-4111-8111-111111111100"

abbrev t19 : List ℕ
t19 = codes "AUTH-SUCCESS 11111111-1111-4111-8111-111111111100"

abbrev t20 : List ℕ
t20 = codes "PUT  WORM-s3--k0"

abbrev t21 : List ℕ
t21 = codes "ALREADY-HAVE"

abbrev repos : List RepoView
repos = (repository (codes "a") (17 ∷ 17 ∷ 17 ∷ 17 ∷ 17 ∷ 17 ∷ 65 ∷ 17 ∷ 129 ∷ 17 ∷ 17 ∷ 17 ∷ 17 ∷ 17 ∷ 17 ∷ 0 ∷ []) 0 3 true) ∷ (repository (codes "b") (34 ∷ 34 ∷ 34 ∷ 34 ∷ 17 ∷ 17 ∷ 65 ∷ 17 ∷ 129 ∷ 17 ∷ 17 ∷ 17 ∷ 17 ∷ 17 ∷ 17 ∷ 1 ∷ []) 0 3 true) ∷ (repository (codes "c") (51 ∷ 51 ∷ 51 ∷ 51 ∷ 17 ∷ 17 ∷ 65 ∷ 17 ∷ 129 ∷ 17 ∷ 17 ∷ 17 ∷ 17 ∷ 17 ∷ 17 ∷ 2 ∷ []) 0 3 true) ∷ []

abbrev s0 : SetUp
s0 = set_up 0 repos ([])

abbrev s1 : SetUp
s1 = set_up 1 repos ([])

abbrev s2 : SetUp
s2 = set_up 2 repos ([])

abbrev e0 : Entry
e0 = entry 0 1 (Some 0) (kinds.Gain by.Script 3 t0) None ([]) ([])

abbrev p0 : List Entry
p0 = e0 ∷ []

abbrev e1 : Entry
e1 = entry 0 2 (Some 0) (kinds.Log (Location t0)) None ([]) (t1 ∷ [])

abbrev p1 : List Entry
p1 = e1 ∷ p0

abbrev e2 : Entry
e2 = entry 0 3 (Some 2) (kinds.Gain by.Script 3 t0) None ([]) ([])

abbrev p2 : List Entry
p2 = e2 ∷ p1

abbrev e3 : Entry
e3 = entry 0 4 (Some 2) (kinds.Log (Location t0)) None ([]) (t2 ∷ [])

abbrev p3 : List Entry
p3 = e3 ∷ p2

abbrev e4 : Entry
e4 = entry 0 5 (Some 1) (kinds.Gain by.Script 3 t3) None ([]) ([])

abbrev p4 : List Entry
p4 = e4 ∷ p3

abbrev e5 : Entry
e5 = entry 0 6 (Some 1) (kinds.Log (Location t3)) None ([]) (t4 ∷ [])

abbrev p5 : List Entry
p5 = e5 ∷ p4

abbrev e6 : Entry
e6 = entry 0 7 (Some 0) (kinds.Gain by.Script 3 t5) None ([]) ([])

abbrev p6 : List Entry
p6 = e6 ∷ p5

abbrev e7 : Entry
e7 = entry 0 8 (Some 0) (kinds.Log (Location t5)) None ([]) (t1 ∷ [])

abbrev p7 : List Entry
p7 = e7 ∷ p6

abbrev e8 : Entry
e8 = entry 0 9 (Some 1) (kinds.Gain by.Script 3 t5) None ([]) ([])

abbrev p8 : List Entry
p8 = e8 ∷ p7

abbrev e9 : Entry
e9 = entry 0 10 (Some 1) (kinds.Log (Location t5)) None ([]) (t4 ∷ [])

abbrev p9 : List Entry
p9 = e9 ∷ p8

abbrev e10 : Entry
e10 = entry 0 11 (Some 2) (kinds.Gain by.Script 3 t5) None ([]) ([])

abbrev p10 : List Entry
p10 = e10 ∷ p9

abbrev e11 : Entry
e11 = entry 0 12 (Some 2) (kinds.Log (Location t5)) None ([]) (t2 ∷ [])

abbrev p11 : List Entry
p11 = e11 ∷ p10

abbrev e12 : Entry
e12 = entry 0 13 (Some 2) (kinds.Log (Of logs.Uuid)) None ([]) (t6 ∷ [])

abbrev p12 : List Entry
p12 = e12 ∷ p11

abbrev e13 : Entry
e13 = entry 0 14 (Some 0) (kinds.Begin 1 (job jobs.Drop t5 None (Some 2))) None ([]) ([])

abbrev p13 : List Entry
p13 = e13 ∷ p12

abbrev e14 : Entry
e14 = entry 0 15 (Some 0) (kinds.Share 6 600000 (by.Job 1) t5) None ([]) ([])

claim14 : Makes s0 p13 ([]) ([]) None 0 false ([]) e14
unfolding opened
claim14 = refl

abbrev p14 : List Entry
p14 = e14 ∷ p13

abbrev e15 : Entry
e15 = entry 0 16 (Some 0) (kinds.Talk (Some 1)) None ((up 2 0 1 1 Opening) ∷ []) ([])

claim15 : Makes s0 p14 ([]) ([]) None 0 false ([]) e15
unfolding opened
claim15 = refl

abbrev p15 : List Entry
p15 = e15 ∷ p14

abbrev e16 : Entry
e16 = entry 0 17 (Some 2) (kinds.Talk None) (Some (up 0 0 1 1 Opening)) ((down 0 0 1 1 (Line t7)) ∷ []) ([])

claim16 : Makes s2 p15 ((up 0 0 1 1 Opening) ∷ []) ([]) None 0 false ([]) e16
unfolding opened
claim16 = refl

abbrev p16 : List Entry
p16 = e16 ∷ p15

abbrev e17 : Entry
e17 = entry 0 18 (Some 0) (kinds.Talk (Some 1)) (Some (down 2 0 1 1 (Line t7))) ((up 2 0 1 2 (Line t8)) ∷ []) ([])

claim17 : Makes s0 p16 ((down 2 0 1 1 (Line t7)) ∷ []) ([]) None 0 false ([]) e17
unfolding opened
claim17 = refl

abbrev p17 : List Entry
p17 = e17 ∷ p16

abbrev e18 : Entry
e18 = entry 0 19 (Some 2) (kinds.Talk None) (Some (up 0 0 1 2 (Line t8))) ((down 0 0 1 2 (Line t8)) ∷ []) ([])

claim18 : Makes s2 p17 ((up 0 0 1 2 (Line t8)) ∷ []) ([]) None 0 false ([]) e18
unfolding opened
claim18 = refl

abbrev p18 : List Entry
p18 = e18 ∷ p17

abbrev e19 : Entry
e19 = entry 0 20 (Some 0) (kinds.Talk (Some 1)) (Some (down 2 0 1 2 (Line t8))) ((up 2 0 1 3 (Line t9)) ∷ []) ([])

claim19 : Makes s0 p18 ((down 2 0 1 2 (Line t8)) ∷ []) ([]) None 0 false ([]) e19
unfolding opened
claim19 = refl

abbrev p19 : List Entry
p19 = e19 ∷ p18

abbrev e20 : Entry
e20 = entry 0 21 (Some 2) (kinds.Talk None) (Some (up 0 0 1 3 (Line t9))) ((down 0 0 1 3 (Line t10)) ∷ []) ([])

claim20 : Makes s2 p19 ((up 0 0 1 3 (Line t9)) ∷ []) ([]) None 0 false ([]) e20
unfolding opened
claim20 = refl

abbrev p20 : List Entry
p20 = e20 ∷ p19

abbrev e21 : Entry
e21 = entry 0 22 (Some 0) (kinds.Order 1 2 (Some 600) (need 1 1) t5) (Some (down 2 0 1 3 (Line t10))) ((up 2 0 1 4 (Line t11)) ∷ []) ([])

claim21 : Makes s0 p20 ((down 2 0 1 3 (Line t10)) ∷ []) ([]) None 0 false ([]) e21
unfolding opened
claim21 = refl

abbrev p21 : List Entry
p21 = e21 ∷ p20

abbrev e22 : Entry
e22 = entry 0 23 (Some 2) (kinds.Gone (by.Peer 0 0) t5) (Some (up 0 0 1 4 (Line t11))) ((down 0 0 1 4 (Line t12)) ∷ []) ([])

claim22 : Makes s2 p21 ((up 0 0 1 4 (Line t11)) ∷ []) ([]) None 0 false ([]) e22
unfolding opened
claim22 = refl

abbrev p22 : List Entry
p22 = e22 ∷ p21

abbrev e23 : Entry
e23 = entry 0 24 (Some 0) (kinds.Talk (Some 1)) (Some (down 2 0 1 4 (Line t12))) ([]) ([])

claim23 : Makes s0 p22 ((down 2 0 1 4 (Line t12)) ∷ []) ([]) None 0 false ([]) e23
unfolding opened
claim23 = refl

abbrev p23 : List Entry
p23 = e23 ∷ p22

abbrev e24 : Entry
e24 = entry 0 25 (Some 0) (kinds.Close 2 0 true) None ((up 2 0 1 5 Closing) ∷ []) ([])

claim24 : Closes s0 p23 e24 (end 2 0 true)
unfolding opened
claim24 = refl

abbrev p24 : List Entry
p24 = e24 ∷ p23

abbrev e25 : Entry
e25 = entry 0 26 (Some 0) (kinds.Log (Location t5)) None ([]) (t13 ∷ [])

claim25 : Makes s0 p24 ([]) ([]) None 0 false ([]) e25
unfolding opened
claim25 = refl

abbrev p25 : List Entry
p25 = e25 ∷ p24

abbrev e26 : Entry
e26 = entry 0 27 (Some 0) (kinds.End 1 (outcomes.Dropped (proof (need 1 1) (0 ∷ []) ([]) ([])))) None ([]) ([])

claim26 : Makes s0 p25 ([]) ([]) None 0 false ([]) e26
unfolding opened
claim26 = refl

abbrev p26 : List Entry
p26 = e26 ∷ p25

abbrev e27 : Entry
e27 = entry 0 28 (Some 0) (kinds.Begin 2 (job jobs.Drop t5 None (Some 1))) None ([]) ([])

abbrev p27 : List Entry
p27 = e27 ∷ p26

abbrev e28 : Entry
e28 = entry 0 29 (Some 0) (kinds.Share 16 600000 (by.Job 2) t5) None ([]) ([])

claim28 : Makes s0 p27 ([]) ([]) None 0 false ([]) e28
unfolding opened
claim28 = refl

abbrev p28 : List Entry
p28 = e28 ∷ p27

abbrev e29 : Entry
e29 = entry 0 30 (Some 0) (kinds.Talk (Some 2)) None ((up 1 0 1 1 Opening) ∷ []) ([])

claim29 : Makes s0 p28 ([]) ([]) None 0 false ([]) e29
unfolding opened
claim29 = refl

abbrev p29 : List Entry
p29 = e29 ∷ p28

abbrev e30 : Entry
e30 = entry 0 31 (Some 1) (kinds.Talk None) (Some (up 0 0 1 1 Opening)) ((down 0 0 1 1 (Line t14)) ∷ []) ([])

claim30 : Makes s1 p29 ((up 0 0 1 1 Opening) ∷ []) ([]) None 0 false ([]) e30
unfolding opened
claim30 = refl

abbrev p30 : List Entry
p30 = e30 ∷ p29

abbrev e31 : Entry
e31 = entry 600001 32 None (kinds.Wait 600001) None ([]) ([])

abbrev p31 : List Entry
p31 = e31 ∷ p30

abbrev e32 : Entry
e32 = entry 600001 33 (Some 0) (kinds.Talk (Some 2)) (Some (down 1 0 1 1 (Line t14))) ((up 1 0 1 2 (Line t8)) ∷ []) ([])

claim32 : Makes s0 p31 ((down 1 0 1 1 (Line t14)) ∷ []) ([]) None 0 false ([]) e32
unfolding opened
claim32 = refl

abbrev p32 : List Entry
p32 = e32 ∷ p31

abbrev e33 : Entry
e33 = entry 600001 34 (Some 1) (kinds.Talk None) (Some (up 0 0 1 2 (Line t8))) ((down 0 0 1 2 (Line t8)) ∷ []) ([])

claim33 : Makes s1 p32 ((up 0 0 1 2 (Line t8)) ∷ []) ([]) None 0 false ([]) e33
unfolding opened
claim33 = refl

abbrev p33 : List Entry
p33 = e33 ∷ p32

abbrev e34 : Entry
e34 = entry 600001 35 (Some 2) (kinds.Log (Location t5)) None ([]) (t15 ∷ [])

claim34 : Makes s2 p33 ((up 0 0 1 5 Closing) ∷ []) ([]) None 0 false ([]) e34
unfolding opened
claim34 = refl

abbrev p34 : List Entry
p34 = e34 ∷ p33

abbrev e35 : Entry
e35 = entry 600001 36 (Some 0) (kinds.Talk (Some 2)) (Some (down 1 0 1 2 (Line t8))) ((up 1 0 1 3 (Line t9)) ∷ []) ([])

claim35 : Makes s0 p34 ((down 1 0 1 2 (Line t8)) ∷ []) ([]) None 0 false ([]) e35
unfolding opened
claim35 = refl

abbrev p35 : List Entry
p35 = e35 ∷ p34

abbrev e36 : Entry
e36 = entry 600001 37 (Some 1) (kinds.Talk None) (Some (up 0 0 1 3 (Line t9))) ((down 0 0 1 3 (Line t16)) ∷ []) ([])

claim36 : Makes s1 p35 ((up 0 0 1 3 (Line t9)) ∷ []) ([]) None 0 false ([]) e36
unfolding opened
claim36 = refl

abbrev p36 : List Entry
p36 = e36 ∷ p35

abbrev e37 : Entry
e37 = entry 600001 38 (Some 2) (kinds.Close 0 0 false) (Some (up 0 0 1 5 Closing)) ([]) ([])

claim37 : Makes s2 p36 ((up 0 0 1 5 Closing) ∷ []) ([]) None 0 false ([]) e37
unfolding opened
claim37 = refl

abbrev p37 : List Entry
p37 = e37 ∷ p36

abbrev e38 : Entry
e38 = entry 600001 39 (Some 0) (kinds.End 2 (outcomes.Refused (drops.Expired 600000 600001))) (Some (down 1 0 1 3 (Line t16))) ((up 1 0 1 4 Closing) ∷ []) ([])

claim38 : Makes s0 p37 ((down 1 0 1 3 (Line t16)) ∷ []) ([]) None 0 false ([]) e38
unfolding opened
claim38 = refl

abbrev p38 : List Entry
p38 = e38 ∷ p37

abbrev e39 : Entry
e39 = entry 600001 40 (Some 1) (kinds.Close 0 0 false) (Some (up 0 0 1 4 Closing)) ([]) ([])

claim39 : Makes s1 p38 ((up 0 0 1 4 Closing) ∷ []) ([]) None 0 false ([]) e39
unfolding opened
claim39 = refl

abbrev p39 : List Entry
p39 = e39 ∷ p38

abbrev e40 : Entry
e40 = entry 600001 41 (Some 1) (kinds.Begin 1 (job jobs.Copy t5 None (Some 0))) None ([]) ([])

abbrev p40 : List Entry
p40 = e40 ∷ p39

abbrev e41 : Entry
e41 = entry 600001 42 (Some 0) (kinds.Gain by.Script 1000 t17) None ([]) ([])

abbrev p41 : List Entry
p41 = e41 ∷ p40

abbrev e42 : Entry
e42 = entry 600001 43 (Some 0) (kinds.Log (Location t17)) None ([]) (t18 ∷ [])

abbrev p42 : List Entry
p42 = e42 ∷ p41

abbrev e43 : Entry
e43 = entry 600001 44 (Some 1) (kinds.Talk (Some 1)) None ((up 0 0 1 1 Opening) ∷ []) ([])

claim43 : Makes s1 p42 ([]) ([]) None 0 false ([]) e43
unfolding opened
claim43 = refl

abbrev p43 : List Entry
p43 = e43 ∷ p42

abbrev e44 : Entry
e44 = entry 600001 45 (Some 0) (kinds.Talk None) (Some (up 1 0 1 1 Opening)) ((down 1 0 1 1 (Line t19)) ∷ []) ([])

claim44 : Makes s0 p43 ((up 1 0 1 1 Opening) ∷ []) ([]) None 0 false ([]) e44
unfolding opened
claim44 = refl

abbrev p44 : List Entry
p44 = e44 ∷ p43

abbrev e45 : Entry
e45 = entry 600001 46 (Some 1) (kinds.Talk (Some 1)) (Some (down 0 0 1 1 (Line t19))) ((up 0 0 1 2 (Line t8)) ∷ []) ([])

claim45 : Makes s1 p44 ((down 0 0 1 1 (Line t19)) ∷ []) ([]) None 0 false ([]) e45
unfolding opened
claim45 = refl

abbrev p45 : List Entry
p45 = e45 ∷ p44

abbrev e46 : Entry
e46 = entry 600001 47 (Some 0) (kinds.Talk None) (Some (up 1 0 1 2 (Line t8))) ((down 1 0 1 2 (Line t8)) ∷ []) ([])

claim46 : Makes s0 p45 ((up 1 0 1 2 (Line t8)) ∷ []) ([]) None 0 false ([]) e46
unfolding opened
claim46 = refl

abbrev p46 : List Entry
p46 = e46 ∷ p45

abbrev e47 : Entry
e47 = entry 600001 48 (Some 1) (kinds.Talk (Some 1)) (Some (down 0 0 1 2 (Line t8))) ((up 0 0 1 3 (Line t20)) ∷ []) ([])

claim47 : Makes s1 p46 ((down 0 0 1 2 (Line t8)) ∷ []) ([]) None 0 false ([]) e47
unfolding opened
claim47 = refl

abbrev p47 : List Entry
p47 = e47 ∷ p46

abbrev e48 : Entry
e48 = entry 600001 49 (Some 0) (kinds.Talk None) (Some (up 1 0 1 3 (Line t20))) ((down 1 0 1 3 (Line t21)) ∷ []) ([])

claim48 : Makes s0 p47 ((up 1 0 1 3 (Line t20)) ∷ []) ([]) None 0 false ([]) e48
unfolding opened
claim48 = refl

abbrev p48 : List Entry
p48 = e48 ∷ p47

abbrev e49 : Entry
e49 = entry 600001 50 (Some 1) (kinds.Talk (Some 1)) (Some (down 0 0 1 3 (Line t21))) ([]) ([])

claim49 : Makes s1 p48 ((down 0 0 1 3 (Line t21)) ∷ []) ([]) None 0 false ([]) e49
unfolding opened
claim49 = refl

abbrev p49 : List Entry
p49 = e49 ∷ p48

abbrev e50 : Entry
e50 = entry 600001 51 (Some 1) (kinds.Fault calls.PutFile (by.Job 1)) None ([]) ([])

claim50 : Makes s1 p49 ([]) ([]) (Some calls.PutFile) 0 false ([]) e50
unfolding opened
claim50 = refl

abbrev p50 : List Entry
p50 = e50 ∷ p49

abbrev e51 : Entry
e51 = entry 600001 52 (Some 1) (kinds.End 1 (outcomes.Copied None)) None ((up 0 0 1 4 Closing) ∷ []) ([])

claim51 : Makes s1 p50 ([]) ([]) None 0 false ([]) e51
unfolding opened
claim51 = refl

abbrev p51 : List Entry
p51 = e51 ∷ p50

abbrev e52 : Entry
e52 = entry 600001 53 (Some 0) (kinds.Close 1 0 false) (Some (up 1 0 1 4 Closing)) ([]) ([])

claim52 : Makes s0 p51 ((up 1 0 1 4 Closing) ∷ []) ([]) None 0 false ([]) e52
unfolding opened
claim52 = refl

abbrev p52 : List Entry
p52 = e52 ∷ p51
