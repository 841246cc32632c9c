-- The run of the script mixed-12: each entry that a turn made is what the step makes (written by tools/journal_claims.py).
use Rattle.std.specs.Prelude.{refl, ℕ, true, false, List, [], ◌∷◌, Some, None, codes}
use Rattle.annex_base.specs.declared.kinds.Call.TheVariants as calls
use Rattle.annex_base.specs.declared.kinds.Found.TheVariants as found
use Rattle.annex_base.specs.declared.kinds.Word.TheVariants as words
use Rattle.log_lines.specs.declared.entry.LogKind.TheVariants as logs
use Rattle.run_data.specs.declared.entry.Entry.{Entry}
use Rattle.run_data.specs.declared.entry.EntryKind.TheVariants as kinds
use Rattle.run_data.specs.declared.entry.By.TheVariants as by
use Rattle.run_data.specs.declared.entry.FrameText.TheVariants.{Opening, Closing, Bytes, Line}
use Rattle.run_data.specs.declared.entry.FrameView.{FrameView}
use Rattle.run_data.specs.declared.entry.LogFile.TheVariants.{Location, Of}
use Rattle.run_data.specs.declared.job.JobKind.TheVariants as jobs
use Rattle.run_data.specs.declared.job.Outcome.TheVariants as outcomes
use Rattle.run_data.specs.declared.job.DropRefusal.TheVariants as drops
use Rattle.run_data.specs.declared.job.TransferRefusal.TheVariants as transfers
use Rattle.run_data.specs.declared.job.Cause.TheVariants as causes
use Rattle.run_data.specs.declared.job.SourceCause.TheVariants as sources
use Rattle.run_data.specs.declared.job.Denial.TheVariants as denials
use Rattle.run_data.specs.declared.run.RepoView.{RepoView}
use Rattle.node_model.specs.SetUp.{SetUp}
use Rattle.step_claims.specs.Opened.{opened}
use Rattle.step_claims.specs.Claims.{Closes, Crashes, IsIdle, Makes, down, end, entry, job, need, proof, repository, set_up, up}

abbrev t0 : List ℕ
t0 = codes "WORM-s40000--forty"

abbrev t1 : List ℕ
t1 = codes "1700000000s 1 11111111-1111-4111-8111-111111111100"

abbrev t2 : List ℕ
t2 = codes "1700000000s 1 33333333-1111-4111-8111-111111111102"

abbrev t3 : List ℕ
t3 = codes "WORM-s3-m5--a/b:c%d&e"

abbrev t4 : List ℕ
t4 = codes "SHA512E-s3--ddaf35a193617abacc417349ae20413112e6fa4e89a97ea20a9eeee64b55d39a2192992a274fc1a836ba3c23a3feebbd454d4423643ce80e2a9ac94fa54ca49f.tar.gz"

abbrev t5 : List ℕ
t5 = codes "1700000000s 1 22222222-1111-4111-8111-111111111101"

abbrev t6 : List ℕ
t6 = codes "1600000000s 0 11111111-1111-4111-8111-111111111100"

abbrev t7 : List ℕ
t7 = codes "AUTH-SUCCESS 11111111-1111-4111-8111-111111111100"

abbrev t8 : List ℕ
t8 = codes "VERSION 3"

abbrev t9 : List ℕ
t9 = codes "PUT  SHA512E-s3--ddaf35a193617abacc417349ae20413112e6fa4e89a97ea20a9eeee64b55d39a2192992a274fc1a836ba3c23a3feebbd454d4423643ce80e2a9ac94fa54ca49f.tar.gz"

abbrev t10 : List ℕ
t10 = codes "ALREADY-HAVE"

abbrev t11 : List ℕ
t11 = codes "AUTH-SUCCESS 22222222-1111-4111-8111-111111111101"

abbrev t12 : List ℕ
t12 = codes "LOCKCONTENT WORM-s40000--forty"

abbrev t13 : List ℕ
t13 = codes "FAILURE"

abbrev t14 : List ℕ
t14 = codes "CHECKPRESENT WORM-s40000--forty"

abbrev t15 : List ℕ
t15 = codes "AUTH-SUCCESS 33333333-1111-4111-8111-111111111102"

abbrev t16 : List ℕ
t16 = codes "SUCCESS"

abbrev t17 : List ℕ
t17 = codes "GET 0  WORM-s3-m5--a/b:c%d&e"

abbrev t18 : List ℕ
t18 = codes "DATA 0"

abbrev t19 : List ℕ
t19 = codes "1700000250s 0 11111111-1111-4111-8111-111111111100"

abbrev t20 : List ℕ
t20 = codes "INVALID"

abbrev t21 : List ℕ
t21 = codes "UNLOCKCONTENT WORM-s40000--forty"

abbrev t22 : List ℕ
t22 = codes "SHA256E-s1000--5be6c29a64460242727d25072ecd2498726ef2d49187005df03d3109bb2c2289.txt"

abbrev t23 : List ℕ
t23 = codes "1700000250s 1 11111111-1111-4111-8111-111111111100"

abbrev t24 : List ℕ
t24 = codes "y.txt"

abbrev t25 : List ℕ
t25 = codes "GET 0  SHA256E-s1000--5be6c29a64460242727d25072ecd2498726ef2d49187005df03d3109bb2c2289.txt"

abbrev t26 : List ℕ
t26 = codes "DATA 1000"

abbrev t27 : List ℕ
t27 = codes "VALID"

abbrev repos : List RepoView
repos = (repository (codes "a") (17 ∷ 17 ∷ 17 ∷ 17 ∷ 17 ∷ 17 ∷ 65 ∷ 17 ∷ 129 ∷ 17 ∷ 17 ∷ 17 ∷ 17 ∷ 17 ∷ 17 ∷ 0 ∷ []) 0 3 true) ∷ (repository (codes "b") (34 ∷ 34 ∷ 34 ∷ 34 ∷ 17 ∷ 17 ∷ 65 ∷ 17 ∷ 129 ∷ 17 ∷ 17 ∷ 17 ∷ 17 ∷ 17 ∷ 17 ∷ 1 ∷ []) 0 3 true) ∷ (repository (codes "c") (51 ∷ 51 ∷ 51 ∷ 51 ∷ 17 ∷ 17 ∷ 65 ∷ 17 ∷ 129 ∷ 17 ∷ 17 ∷ 17 ∷ 17 ∷ 17 ∷ 17 ∷ 2 ∷ []) 0 3 true) ∷ []

abbrev s0 : SetUp
s0 = set_up 0 repos ([])

abbrev s1 : SetUp
s1 = set_up 1 repos ((1, t24 ∷ []) ∷ [])

abbrev s2 : SetUp
s2 = set_up 2 repos ([])

abbrev e0 : Entry
e0 = entry 0 1 (Some 0) (kinds.Gain by.Script 40000 t0) None ([]) ([])

abbrev p0 : List Entry
p0 = e0 ∷ []

abbrev e1 : Entry
e1 = entry 0 2 (Some 0) (kinds.Log (Location t0)) None ([]) (t1 ∷ [])

abbrev p1 : List Entry
p1 = e1 ∷ p0

abbrev e2 : Entry
e2 = entry 0 3 (Some 2) (kinds.Gain by.Script 40000 t0) None ([]) ([])

abbrev p2 : List Entry
p2 = e2 ∷ p1

abbrev e3 : Entry
e3 = entry 0 4 (Some 2) (kinds.Log (Location t0)) None ([]) (t2 ∷ [])

abbrev p3 : List Entry
p3 = e3 ∷ p2

abbrev e4 : Entry
e4 = entry 0 5 (Some 0) (kinds.Gain by.Script 3 t3) None ([]) ([])

abbrev p4 : List Entry
p4 = e4 ∷ p3

abbrev e5 : Entry
e5 = entry 0 6 (Some 0) (kinds.Log (Location t3)) None ([]) (t1 ∷ [])

abbrev p5 : List Entry
p5 = e5 ∷ p4

abbrev e6 : Entry
e6 = entry 0 7 (Some 0) (kinds.Gain by.Script 3 t4) None ([]) ([])

abbrev p6 : List Entry
p6 = e6 ∷ p5

abbrev e7 : Entry
e7 = entry 0 8 (Some 0) (kinds.Log (Location t4)) None ([]) (t1 ∷ [])

abbrev p7 : List Entry
p7 = e7 ∷ p6

abbrev e8 : Entry
e8 = entry 0 9 (Some 1) (kinds.Gain by.Script 3 t4) None ([]) ([])

abbrev p8 : List Entry
p8 = e8 ∷ p7

abbrev e9 : Entry
e9 = entry 0 10 (Some 1) (kinds.Log (Location t4)) None ([]) (t5 ∷ [])

abbrev p9 : List Entry
p9 = e9 ∷ p8

abbrev e10 : Entry
e10 = entry 0 11 (Some 2) (kinds.Gain by.Script 3 t4) None ([]) ([])

abbrev p10 : List Entry
p10 = e10 ∷ p9

abbrev e11 : Entry
e11 = entry 0 12 (Some 2) (kinds.Log (Location t4)) None ([]) (t2 ∷ [])

abbrev p11 : List Entry
p11 = e11 ∷ p10

abbrev e12 : Entry
e12 = entry 0 13 (Some 0) (kinds.Log (Location t3)) None ([]) (t6 ∷ [])

abbrev p12 : List Entry
p12 = e12 ∷ p11

abbrev e13 : Entry
e13 = entry 0 14 (Some 2) (kinds.Begin 1 (job jobs.Copy t4 None (Some 0))) None ([]) ([])

abbrev p13 : List Entry
p13 = e13 ∷ p12

abbrev e14 : Entry
e14 = entry 0 15 (Some 2) (kinds.Talk (Some 1)) None ((up 0 0 1 1 Opening) ∷ []) ([])

claim14 : Makes s2 p13 ([]) ([]) None 0 false ([]) e14
unfolding opened
claim14 = refl

abbrev p14 : List Entry
p14 = e14 ∷ p13

abbrev e15 : Entry
e15 = entry 0 16 (Some 0) (kinds.Talk None) (Some (up 2 0 1 1 Opening)) ((down 2 0 1 1 (Line t7)) ∷ []) ([])

claim15 : Makes s0 p14 ((up 2 0 1 1 Opening) ∷ []) ([]) None 0 false ([]) e15
unfolding opened
claim15 = refl

abbrev p15 : List Entry
p15 = e15 ∷ p14

abbrev e16 : Entry
e16 = entry 0 17 (Some 2) (kinds.Talk (Some 1)) (Some (down 0 0 1 1 (Line t7))) ((up 0 0 1 2 (Line t8)) ∷ []) ([])

claim16 : Makes s2 p15 ((down 0 0 1 1 (Line t7)) ∷ []) ([]) None 0 false ([]) e16
unfolding opened
claim16 = refl

abbrev p16 : List Entry
p16 = e16 ∷ p15

abbrev e17 : Entry
e17 = entry 0 18 (Some 0) (kinds.Talk None) (Some (up 2 0 1 2 (Line t8))) ((down 2 0 1 2 (Line t8)) ∷ []) ([])

claim17 : Makes s0 p16 ((up 2 0 1 2 (Line t8)) ∷ []) ([]) None 0 false ([]) e17
unfolding opened
claim17 = refl

abbrev p17 : List Entry
p17 = e17 ∷ p16

abbrev e18 : Entry
e18 = entry 0 19 (Some 2) (kinds.Talk (Some 1)) (Some (down 0 0 1 2 (Line t8))) ((up 0 0 1 3 (Line t9)) ∷ []) ([])

claim18 : Makes s2 p17 ((down 0 0 1 2 (Line t8)) ∷ []) ([]) None 0 false ([]) e18
unfolding opened
claim18 = refl

abbrev p18 : List Entry
p18 = e18 ∷ p17

abbrev e19 : Entry
e19 = entry 0 20 (Some 0) (kinds.Talk None) (Some (up 2 0 1 3 (Line t9))) ((down 2 0 1 3 (Line t10)) ∷ []) ([])

claim19 : Makes s0 p18 ((up 2 0 1 3 (Line t9)) ∷ []) ([]) None 0 false ([]) e19
unfolding opened
claim19 = refl

abbrev p19 : List Entry
p19 = e19 ∷ p18

abbrev e20 : Entry
e20 = entry 0 21 (Some 2) (kinds.Talk (Some 1)) (Some (down 0 0 1 3 (Line t10))) ([]) ([])

claim20 : Makes s2 p19 ((down 0 0 1 3 (Line t10)) ∷ []) ([]) None 0 false ([]) e20
unfolding opened
claim20 = refl

abbrev p20 : List Entry
p20 = e20 ∷ p19

abbrev e21 : Entry
e21 = entry 0 22 (Some 2) (kinds.Log (Location t4)) None ([]) (t1 ∷ [])

claim21 : Makes s2 p20 ([]) ([]) None 0 false ([]) e21
unfolding opened
claim21 = refl

abbrev p21 : List Entry
p21 = e21 ∷ p20

abbrev e22 : Entry
e22 = entry 0 23 (Some 2) (kinds.End 1 (outcomes.Copied None)) None ((up 0 0 1 4 Closing) ∷ []) ([])

claim22 : Makes s2 p21 ([]) ([]) None 0 false ([]) e22
unfolding opened
claim22 = refl

abbrev p22 : List Entry
p22 = e22 ∷ p21

abbrev e23 : Entry
e23 = entry 0 24 (Some 0) (kinds.Close 2 0 false) (Some (up 2 0 1 4 Closing)) ([]) ([])

claim23 : Makes s0 p22 ((up 2 0 1 4 Closing) ∷ []) ([]) None 0 false ([]) e23
unfolding opened
claim23 = refl

abbrev p23 : List Entry
p23 = e23 ∷ p22

abbrev e24 : Entry
e24 = entry 250000 25 None (kinds.Wait 250000) None ([]) ([])

abbrev p24 : List Entry
p24 = e24 ∷ p23

abbrev e25 : Entry
e25 = entry 250000 26 (Some 0) (kinds.Begin 1 (job jobs.Drop t0 None None)) None ([]) ([])

abbrev p25 : List Entry
p25 = e25 ∷ p24

abbrev e26 : Entry
e26 = entry 250000 27 (Some 2) (kinds.Begin 2 (job jobs.Get t3 None (Some 1))) None ([]) ([])

abbrev p26 : List Entry
p26 = e26 ∷ p25

abbrev e27 : Entry
e27 = entry 250000 28 (Some 0) (kinds.Bar 1 (need 1 1) t0) None ([]) ([])

claim27 : Makes s0 p26 ([]) ([]) None 0 false ([]) e27
unfolding opened
claim27 = refl

abbrev p27 : List Entry
p27 = e27 ∷ p26

abbrev e28 : Entry
e28 = entry 250000 29 (Some 2) (kinds.Talk (Some 2)) None ((up 1 0 1 1 Opening) ∷ []) ([])

claim28 : Makes s2 p27 ([]) ([]) None 0 false ([]) e28
unfolding opened
claim28 = refl

abbrev p28 : List Entry
p28 = e28 ∷ p27

abbrev e29 : Entry
e29 = entry 250000 30 (Some 0) (kinds.Talk (Some 1)) None ((up 1 0 1 1 Opening) ∷ []) ([])

claim29 : Makes s0 p28 ([]) ([]) None 0 false ([]) e29
unfolding opened
claim29 = refl

abbrev p29 : List Entry
p29 = e29 ∷ p28

abbrev e30 : Entry
e30 = entry 250000 31 (Some 1) (kinds.Talk None) (Some (up 0 0 1 1 Opening)) ((down 0 0 1 1 (Line t11)) ∷ []) ([])

claim30 : Makes s1 p29 ((up 0 0 1 1 Opening) ∷ (up 2 0 1 1 Opening) ∷ []) ([]) None 0 false ([]) e30
unfolding opened
claim30 = refl

abbrev p30 : List Entry
p30 = e30 ∷ p29

abbrev e31 : Entry
e31 = entry 250000 32 (Some 0) (kinds.Talk (Some 1)) (Some (down 1 0 1 1 (Line t11))) ((up 1 0 1 2 (Line t8)) ∷ []) ([])

claim31 : Makes s0 p30 ((down 1 0 1 1 (Line t11)) ∷ []) ([]) None 0 false ([]) e31
unfolding opened
claim31 = refl

abbrev p31 : List Entry
p31 = e31 ∷ p30

abbrev e32 : Entry
e32 = entry 250000 33 (Some 1) (kinds.Talk None) (Some (up 0 0 1 2 (Line t8))) ((down 0 0 1 2 (Line t8)) ∷ []) ([])

claim32 : Makes s1 p31 ((up 0 0 1 2 (Line t8)) ∷ (up 2 0 1 1 Opening) ∷ []) ([]) None 0 false ([]) e32
unfolding opened
claim32 = refl

abbrev p32 : List Entry
p32 = e32 ∷ p31

abbrev e33 : Entry
e33 = entry 250000 34 (Some 0) (kinds.Talk (Some 1)) (Some (down 1 0 1 2 (Line t8))) ((up 1 0 1 3 (Line t12)) ∷ []) ([])

claim33 : Makes s0 p32 ((down 1 0 1 2 (Line t8)) ∷ []) ([]) None 0 false ([]) e33
unfolding opened
claim33 = refl

abbrev p33 : List Entry
p33 = e33 ∷ p32

abbrev e34 : Entry
e34 = entry 250000 35 (Some 1) (kinds.Check found.Absent t0) (Some (up 0 0 1 3 (Line t12))) ((down 0 0 1 3 (Line t13)) ∷ []) ([])

claim34 : Makes s1 p33 ((up 0 0 1 3 (Line t12)) ∷ (up 2 0 1 1 Opening) ∷ []) ([]) None 0 false ([]) e34
unfolding opened
claim34 = refl

abbrev p34 : List Entry
p34 = e34 ∷ p33

abbrev e35 : Entry
e35 = entry 250000 36 (Some 0) (kinds.Talk (Some 1)) (Some (down 1 0 1 3 (Line t13))) ((up 1 0 1 4 (Line t14)) ∷ []) ([])

claim35 : Makes s0 p34 ((down 1 0 1 3 (Line t13)) ∷ []) ([]) None 0 false ([]) e35
unfolding opened
claim35 = refl

abbrev p35 : List Entry
p35 = e35 ∷ p34

abbrev e36 : Entry
e36 = entry 250000 37 (Some 1) (kinds.Check found.Absent t0) (Some (up 0 0 1 4 (Line t14))) ((down 0 0 1 4 (Line t13)) ∷ []) ([])

claim36 : Makes s1 p35 ((up 0 0 1 4 (Line t14)) ∷ (up 2 0 1 1 Opening) ∷ []) ([]) None 0 false ([]) e36
unfolding opened
claim36 = refl

abbrev p36 : List Entry
p36 = e36 ∷ p35

abbrev e37 : Entry
e37 = entry 250000 38 (Some 0) (kinds.Talk (Some 1)) (Some (down 1 0 1 4 (Line t13))) ([]) ([])

claim37 : Makes s0 p36 ((down 1 0 1 4 (Line t13)) ∷ []) ([]) None 0 false ([]) e37
unfolding opened
claim37 = refl

abbrev p37 : List Entry
p37 = e37 ∷ p36

abbrev e38 : Entry
e38 = entry 250000 39 (Some 1) (kinds.Talk None) (Some (up 2 0 1 1 Opening)) ((down 2 0 1 1 (Line t11)) ∷ []) ([])

claim38 : Makes s1 p37 ((up 2 0 1 1 Opening) ∷ []) ([]) None 0 false ([]) e38
unfolding opened
claim38 = refl

abbrev p38 : List Entry
p38 = e38 ∷ p37

abbrev e39 : Entry
e39 = entry 250000 40 (Some 2) (kinds.Talk (Some 2)) (Some (down 1 0 1 1 (Line t11))) ((up 1 0 1 2 (Line t8)) ∷ []) ([])

claim39 : Makes s2 p38 ((down 1 0 1 1 (Line t11)) ∷ []) ([]) None 0 false ([]) e39
unfolding opened
claim39 = refl

abbrev p39 : List Entry
p39 = e39 ∷ p38

abbrev e40 : Entry
e40 = entry 250000 41 (Some 0) (kinds.Talk (Some 1)) None ((up 2 0 1 1 Opening) ∷ []) ([])

claim40 : Makes s0 p39 ([]) ([]) None 0 false ([]) e40
unfolding opened
claim40 = refl

abbrev p40 : List Entry
p40 = e40 ∷ p39

abbrev e41 : Entry
e41 = entry 250000 42 (Some 1) (kinds.Talk None) (Some (up 2 0 1 2 (Line t8))) ((down 2 0 1 2 (Line t8)) ∷ []) ([])

claim41 : Makes s1 p40 ((up 2 0 1 2 (Line t8)) ∷ []) ([]) None 0 false ([]) e41
unfolding opened
claim41 = refl

abbrev p41 : List Entry
p41 = e41 ∷ p40

abbrev e42 : Entry
e42 = entry 250000 43 (Some 2) (kinds.Talk None) (Some (up 0 0 1 1 Opening)) ((down 0 0 1 1 (Line t15)) ∷ []) ([])

claim42 : Makes s2 p41 ((up 0 0 1 1 Opening) ∷ (down 1 0 1 2 (Line t8)) ∷ []) ([]) None 0 false ([]) e42
unfolding opened
claim42 = refl

abbrev p42 : List Entry
p42 = e42 ∷ p41

abbrev e43 : Entry
e43 = entry 250000 44 (Some 0) (kinds.Talk (Some 1)) (Some (down 2 0 1 1 (Line t15))) ((up 2 0 1 2 (Line t8)) ∷ []) ([])

claim43 : Makes s0 p42 ((down 2 0 1 1 (Line t15)) ∷ []) ([]) None 0 false ([]) e43
unfolding opened
claim43 = refl

abbrev p43 : List Entry
p43 = e43 ∷ p42

abbrev e44 : Entry
e44 = entry 250000 45 (Some 2) (kinds.Talk None) (Some (up 0 0 1 2 (Line t8))) ((down 0 0 1 2 (Line t8)) ∷ []) ([])

claim44 : Makes s2 p43 ((up 0 0 1 2 (Line t8)) ∷ (down 1 0 1 2 (Line t8)) ∷ []) ([]) None 0 false ([]) e44
unfolding opened
claim44 = refl

abbrev p44 : List Entry
p44 = e44 ∷ p43

abbrev e45 : Entry
e45 = entry 250000 46 (Some 0) (kinds.Talk (Some 1)) (Some (down 2 0 1 2 (Line t8))) ((up 2 0 1 3 (Line t12)) ∷ []) ([])

claim45 : Makes s0 p44 ((down 2 0 1 2 (Line t8)) ∷ []) ([]) None 0 false ([]) e45
unfolding opened
claim45 = refl

abbrev p45 : List Entry
p45 = e45 ∷ p44

abbrev e46 : Entry
e46 = entry 250000 47 (Some 2) (kinds.Share 17 850000 (by.Peer 0 0) t0) (Some (up 0 0 1 3 (Line t12))) ((down 0 0 1 3 (Line t16)) ∷ []) ([])

claim46 : Makes s2 p45 ((up 0 0 1 3 (Line t12)) ∷ (down 1 0 1 2 (Line t8)) ∷ []) ([]) None 0 false ([]) e46
unfolding opened
claim46 = refl

abbrev p46 : List Entry
p46 = e46 ∷ p45

abbrev e47 : Entry
e47 = entry 250000 48 (Some 0) (kinds.Talk (Some 1)) (Some (down 2 0 1 3 (Line t16))) ([]) ([])

claim47 : Makes s0 p46 ((down 2 0 1 3 (Line t16)) ∷ []) ([]) None 0 false ([]) e47
unfolding opened
claim47 = refl

abbrev p47 : List Entry
p47 = e47 ∷ p46

abbrev e48 : Entry
e48 = entry 250000 49 (Some 2) (kinds.Talk (Some 2)) (Some (down 1 0 1 2 (Line t8))) ((up 1 0 1 3 (Line t17)) ∷ []) ([])

claim48 : Makes s2 p47 ((down 1 0 1 2 (Line t8)) ∷ []) ([]) None 0 false ([]) e48
unfolding opened
claim48 = refl

abbrev p48 : List Entry
p48 = e48 ∷ p47

abbrev e49 : Entry
e49 = entry 250000 50 (Some 0) (kinds.Gone (by.Job 1) t0) None ([]) ([])

claim49 : Makes s0 p48 ([]) ([]) None 0 false ([]) e49
unfolding opened
claim49 = refl

abbrev p49 : List Entry
p49 = e49 ∷ p48

abbrev e50 : Entry
e50 = entry 250000 51 (Some 1) (kinds.Talk None) (Some (up 2 0 1 3 (Line t17))) ((down 2 0 1 3 (Line t18)) ∷ []) ([])

claim50 : Makes s1 p49 ((up 2 0 1 3 (Line t17)) ∷ []) ([]) None 0 false ([]) e50
unfolding opened
claim50 = refl

abbrev p50 : List Entry
p50 = e50 ∷ p49

abbrev e51 : Entry
e51 = entry 250000 52 (Some 2) (kinds.Talk (Some 2)) (Some (down 1 0 1 3 (Line t18))) ([]) ([])

claim51 : Makes s2 p50 ((down 1 0 1 3 (Line t18)) ∷ []) ([]) None 0 false ([]) e51
unfolding opened
claim51 = refl

abbrev p51 : List Entry
p51 = e51 ∷ p50

abbrev e52 : Entry
e52 = entry 250000 53 (Some 0) (kinds.Log (Location t0)) None ([]) (t19 ∷ [])

claim52 : Makes s0 p51 ([]) ([]) None 0 false ([]) e52
unfolding opened
claim52 = refl

abbrev p52 : List Entry
p52 = e52 ∷ p51

abbrev e53 : Entry
e53 = entry 250000 54 (Some 1) (kinds.Talk None) None ((down 2 0 1 4 (Line t20)) ∷ []) ([])

claim53 : Makes s1 p52 ([]) ([]) None 0 false ([]) e53
unfolding opened
claim53 = refl

abbrev p53 : List Entry
p53 = e53 ∷ p52

abbrev e54 : Entry
e54 = entry 250000 55 (Some 2) (kinds.Talk (Some 2)) (Some (down 1 0 1 4 (Line t20))) ((up 1 0 1 4 (Line t13)) ∷ []) ([])

claim54 : Makes s2 p53 ((down 1 0 1 4 (Line t20)) ∷ []) ([]) None 0 false ([]) e54
unfolding opened
claim54 = refl

abbrev p54 : List Entry
p54 = e54 ∷ p53

abbrev e55 : Entry
e55 = entry 250000 56 (Some 0) (kinds.End 1 (outcomes.Dropped (proof (need 1 1) (2 ∷ []) ([]) ([])))) None ((up 1 0 1 5 Closing) ∷ (up 2 0 1 4 (Line t21)) ∷ (up 2 0 1 5 Closing) ∷ []) ([])

claim55 : Makes s0 p54 ([]) ([]) None 0 false ((1, words.Absent) ∷ []) e55
unfolding opened
claim55 = refl

abbrev p55 : List Entry
p55 = e55 ∷ p54

abbrev e56 : Entry
e56 = entry 250000 57 (Some 1) (kinds.Close 0 0 false) (Some (up 0 0 1 5 Closing)) ([]) ([])

claim56 : Makes s1 p55 ((up 0 0 1 5 Closing) ∷ (up 2 0 1 4 (Line t13)) ∷ []) ([]) None 0 false ([]) e56
unfolding opened
claim56 = refl

abbrev p56 : List Entry
p56 = e56 ∷ p55

abbrev e57 : Entry
e57 = entry 250000 58 (Some 2) (kinds.Release 17 t0) (Some (up 0 0 1 4 (Line t21))) ([]) ([])

claim57 : Makes s2 p56 ((up 0 0 1 4 (Line t21)) ∷ []) ([]) None 0 false ([]) e57
unfolding opened
claim57 = refl

abbrev p57 : List Entry
p57 = e57 ∷ p56

abbrev e58 : Entry
e58 = entry 250000 59 (Some 1) (kinds.Talk None) (Some (up 2 0 1 4 (Line t13))) ([]) ([])

claim58 : Makes s1 p57 ((up 2 0 1 4 (Line t13)) ∷ []) ([]) None 0 false ([]) e58
unfolding opened
claim58 = refl

abbrev p58 : List Entry
p58 = e58 ∷ p57

abbrev e59 : Entry
e59 = entry 250000 60 (Some 2) (kinds.Close 0 0 false) (Some (up 0 0 1 5 Closing)) ([]) ([])

claim59 : Makes s2 p58 ((up 0 0 1 5 Closing) ∷ []) ([]) None 0 false ([]) e59
unfolding opened
claim59 = refl

abbrev p59 : List Entry
p59 = e59 ∷ p58

abbrev e60 : Entry
e60 = entry 250000 61 (Some 2) (kinds.End 2 (outcomes.TransferRefused (transfers.NoSource ((record { repo = 1; cause = sources.Absent }) ∷ [])))) None ((up 1 0 1 5 Closing) ∷ []) ([])

claim60 : Makes s2 p59 ([]) ([]) None 0 false ([]) e60
unfolding opened
claim60 = refl

abbrev p60 : List Entry
p60 = e60 ∷ p59

abbrev e61 : Entry
e61 = entry 250000 62 (Some 1) (kinds.Close 2 0 false) (Some (up 2 0 1 5 Closing)) ([]) ([])

claim61 : Makes s1 p60 ((up 2 0 1 5 Closing) ∷ []) ([]) None 0 false ([]) e61
unfolding opened
claim61 = refl

abbrev p61 : List Entry
p61 = e61 ∷ p60

abbrev e62 : Entry
e62 = entry 250000 63 (Some 0) (kinds.Gain by.Script 1000 t22) None ([]) ([])

abbrev p62 : List Entry
p62 = e62 ∷ p61

abbrev e63 : Entry
e63 = entry 250000 64 (Some 0) (kinds.Log (Location t22)) None ([]) (t23 ∷ [])

abbrev p63 : List Entry
p63 = e63 ∷ p62

abbrev e64 : Entry
e64 = entry 250000 65 (Some 1) (kinds.Begin 1 (job jobs.Get t22 (Some t24) (Some 0))) None ([]) ([])

abbrev p64 : List Entry
p64 = e64 ∷ p63

abbrev e65 : Entry
e65 = entry 250000 66 (Some 1) (kinds.Talk (Some 1)) None ((up 0 0 1 1 Opening) ∷ []) ([])

claim65 : Makes s1 p64 ([]) ([]) None 0 false ([]) e65
unfolding opened
claim65 = refl

abbrev p65 : List Entry
p65 = e65 ∷ p64

abbrev e66 : Entry
e66 = entry 250000 67 (Some 0) (kinds.Talk None) (Some (up 1 0 1 1 Opening)) ((down 1 0 1 1 (Line t7)) ∷ []) ([])

claim66 : Makes s0 p65 ((up 1 0 1 1 Opening) ∷ []) ([]) None 0 false ([]) e66
unfolding opened
claim66 = refl

abbrev p66 : List Entry
p66 = e66 ∷ p65

abbrev e67 : Entry
e67 = entry 250000 68 (Some 1) (kinds.Talk (Some 1)) (Some (down 0 0 1 1 (Line t7))) ((up 0 0 1 2 (Line t8)) ∷ []) ([])

claim67 : Makes s1 p66 ((down 0 0 1 1 (Line t7)) ∷ []) ([]) None 0 false ([]) e67
unfolding opened
claim67 = refl

abbrev p67 : List Entry
p67 = e67 ∷ p66

abbrev e68 : Entry
e68 = entry 250000 69 (Some 0) (kinds.Talk None) (Some (up 1 0 1 2 (Line t8))) ((down 1 0 1 2 (Line t8)) ∷ []) ([])

claim68 : Makes s0 p67 ((up 1 0 1 2 (Line t8)) ∷ []) ([]) None 0 false ([]) e68
unfolding opened
claim68 = refl

abbrev p68 : List Entry
p68 = e68 ∷ p67

abbrev e69 : Entry
e69 = entry 250000 70 (Some 1) (kinds.Talk (Some 1)) (Some (down 0 0 1 2 (Line t8))) ((up 0 0 1 3 (Line t25)) ∷ []) ([])

claim69 : Makes s1 p68 ((down 0 0 1 2 (Line t8)) ∷ []) ([]) None 0 false ([]) e69
unfolding opened
claim69 = refl

abbrev p69 : List Entry
p69 = e69 ∷ p68

abbrev e70 : Entry
e70 = entry 250000 71 (Some 0) (kinds.Talk None) (Some (up 1 0 1 3 (Line t25))) ((down 1 0 1 3 (Line t26)) ∷ []) ([])

claim70 : Makes s0 p69 ((up 1 0 1 3 (Line t25)) ∷ []) ([]) None 0 false ([]) e70
unfolding opened
claim70 = refl

abbrev p70 : List Entry
p70 = e70 ∷ p69

abbrev e71 : Entry
e71 = entry 250000 72 (Some 1) (kinds.Talk (Some 1)) (Some (down 0 0 1 3 (Line t26))) ([]) ([])

claim71 : Makes s1 p70 ((down 0 0 1 3 (Line t26)) ∷ []) ([]) None 0 false ([]) e71
unfolding opened
claim71 = refl

abbrev p71 : List Entry
p71 = e71 ∷ p70

abbrev e72 : Entry
e72 = entry 250000 73 (Some 0) (kinds.Talk None) None ((down 1 0 1 4 (Bytes 1000)) ∷ []) ([])

claim72 : Makes s0 p71 ([]) ([]) None 0 false ([]) e72
unfolding opened
claim72 = refl

abbrev p72 : List Entry
p72 = e72 ∷ p71

abbrev e73 : Entry
e73 = entry 250000 74 (Some 1) (kinds.Talk (Some 1)) (Some (down 0 0 1 4 (Bytes 1000))) ([]) ([])

claim73 : Makes s1 p72 ((down 0 0 1 4 (Bytes 1000)) ∷ []) ([]) None 0 false ([]) e73
unfolding opened
claim73 = refl

abbrev p73 : List Entry
p73 = e73 ∷ p72

abbrev e74 : Entry
e74 = entry 250000 75 (Some 0) (kinds.Talk None) None ((down 1 0 1 5 (Line t27)) ∷ []) ([])

claim74 : Makes s0 p73 ([]) ([]) None 0 false ([]) e74
unfolding opened
claim74 = refl

abbrev p74 : List Entry
p74 = e74 ∷ p73

abbrev e75 : Entry
e75 = entry 250000 76 (Some 1) (kinds.Gain (by.Job 1) 1000 t22) (Some (down 0 0 1 5 (Line t27))) ((up 0 0 1 4 (Line t16)) ∷ []) ([])

claim75 : Makes s1 p74 ((down 0 0 1 5 (Line t27)) ∷ []) ([]) None 0 true ([]) e75
unfolding opened
claim75 = refl

abbrev p75 : List Entry
p75 = e75 ∷ p74

abbrev e76 : Entry
e76 = entry 250000 77 (Some 0) (kinds.Talk None) (Some (up 1 0 1 4 (Line t16))) ([]) ([])

claim76 : Makes s0 p75 ((up 1 0 1 4 (Line t16)) ∷ []) ([]) None 0 false ([]) e76
unfolding opened
claim76 = refl

abbrev p76 : List Entry
p76 = e76 ∷ p75

abbrev e77 : Entry
e77 = entry 250000 78 (Some 1) (kinds.Fault calls.PutFile (by.Job 1)) None ([]) ([])

claim77 : Makes s1 p76 ([]) ([]) (Some calls.PutFile) 0 false ([]) e77
unfolding opened
claim77 = refl

abbrev p77 : List Entry
p77 = e77 ∷ p76

abbrev e78 : Entry
e78 = entry 250000 79 (Some 1) (kinds.End 1 (outcomes.Got (Some 0) (Some 0))) None ((up 0 0 1 5 Closing) ∷ []) ([])

claim78 : Makes s1 p77 ([]) ([]) None 0 false ([]) e78
unfolding opened
claim78 = refl

abbrev p78 : List Entry
p78 = e78 ∷ p77

abbrev e79 : Entry
e79 = entry 250000 80 (Some 0) (kinds.Close 1 0 false) (Some (up 1 0 1 5 Closing)) ([]) ([])

claim79 : Makes s0 p78 ((up 1 0 1 5 Closing) ∷ []) ([]) None 0 false ([]) e79
unfolding opened
claim79 = refl

abbrev p79 : List Entry
p79 = e79 ∷ p78
