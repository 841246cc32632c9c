-- The run of the script mixed-10: each entry that a turn made is what the step makes (written by tools/journal_claims.py).
use Rattle.std.specs.Prelude.{refl, ℕ, true, false, List, [], ◌∷◌, Some, None, codes}
use Rattle.annex_base.specs.declared.kinds.Call.TheVariants as calls
use Rattle.annex_base.specs.declared.kinds.Found.TheVariants as found
use Rattle.annex_base.specs.declared.kinds.Word.TheVariants as words
use Rattle.log_lines.specs.declared.entry.LogKind.TheVariants as logs
use Rattle.run_data.specs.declared.entry.Entry.{Entry}
use Rattle.run_data.specs.declared.entry.EntryKind.TheVariants as kinds
use Rattle.run_data.specs.declared.entry.By.TheVariants as by
use Rattle.run_data.specs.declared.entry.FrameText.TheVariants.{Opening, Closing, Bytes, Line}
use Rattle.run_data.specs.declared.entry.FrameView.{FrameView}
use Rattle.run_data.specs.declared.entry.LogFile.TheVariants.{Location, Of}
use Rattle.run_data.specs.declared.job.JobKind.TheVariants as jobs
use Rattle.run_data.specs.declared.job.Outcome.TheVariants as outcomes
use Rattle.run_data.specs.declared.job.DropRefusal.TheVariants as drops
use Rattle.run_data.specs.declared.job.TransferRefusal.TheVariants as transfers
use Rattle.run_data.specs.declared.job.Cause.TheVariants as causes
use Rattle.run_data.specs.declared.job.SourceCause.TheVariants as sources
use Rattle.run_data.specs.declared.job.Denial.TheVariants as denials
use Rattle.run_data.specs.declared.run.RepoView.{RepoView}
use Rattle.node_model.specs.SetUp.{SetUp}
use Rattle.step_claims.specs.Opened.{opened}
use Rattle.step_claims.specs.Claims.{Closes, Crashes, IsIdle, Makes, down, end, entry, job, need, proof, repository, set_up, up}

abbrev t0 : List ℕ
t0 = codes "WORM-s3--k2"

abbrev t1 : List ℕ
t1 = codes "1700000000.999s 1 22222222-1111-4111-8111-111111111101"

abbrev t2 : List ℕ
t2 = codes "WORM-s3--k0"

abbrev t3 : List ℕ
t3 = codes "1700000000s 1 11111111-1111-4111-8111-111111111100"

abbrev t4 : List ℕ
t4 = codes "WORM-s3-m5--a/b:c%d&e"

abbrev t5 : List ℕ
t5 = codes "11111111-1111-4111-8111-111111111100"

abbrev t6 : List ℕ
t6 = codes "11111111-1111-4111-8111-111111111100 1 timestamp=1700000599.999s"

abbrev t7 : List ℕ
t7 = codes "AUTH-SUCCESS 22222222-1111-4111-8111-111111111101"

abbrev t8 : List ℕ
t8 = codes "VERSION 3"

abbrev t9 : List ℕ
t9 = codes "GET 0  WORM-s3--k2"

abbrev t10 : List ℕ
t10 = codes "DATA 3"

abbrev t11 : List ℕ
t11 = codes "VALID"

abbrev t12 : List ℕ
t12 = codes "SUCCESS"

abbrev t13 : List ℕ
t13 = codes "1700000599.999s 1 11111111-1111-4111-8111-111111111100"

abbrev t14 : List ℕ
t14 = codes "REMOVE WORM-s3--k2"

abbrev t15 : List ℕ
t15 = codes "1700000600.998s 0 22222222-1111-4111-8111-111111111101"

abbrev t16 : List ℕ
t16 = codes "1700000599.999s 0 22222222-1111-4111-8111-111111111101"

abbrev t17 : List ℕ
t17 = codes "AUTH-SUCCESS 11111111-1111-4111-8111-111111111100"

abbrev t18 : List ℕ
t18 = codes "GETTIMESTAMP"

abbrev t19 : List ℕ
t19 = codes "TIMESTAMP 599"

abbrev t20 : List ℕ
t20 = codes "REMOVE-BEFORE 1199 WORM-s3-m5--a/b:c%d&e"

abbrev t21 : List ℕ
t21 = codes "1700000599.999s 0 11111111-1111-4111-8111-111111111100"

abbrev t22 : List ℕ
t22 = codes "1700000600.998s 0 11111111-1111-4111-8111-111111111100"

abbrev t23 : List ℕ
t23 = codes "1700000600.998s 2"

abbrev repos : List RepoView
repos = (repository (codes "a") (17 ∷ 17 ∷ 17 ∷ 17 ∷ 17 ∷ 17 ∷ 65 ∷ 17 ∷ 129 ∷ 17 ∷ 17 ∷ 17 ∷ 17 ∷ 17 ∷ 17 ∷ 0 ∷ []) 0 3 true) ∷ (repository (codes "b") (34 ∷ 34 ∷ 34 ∷ 34 ∷ 17 ∷ 17 ∷ 65 ∷ 17 ∷ 129 ∷ 17 ∷ 17 ∷ 17 ∷ 17 ∷ 17 ∷ 17 ∷ 1 ∷ []) 999 3 true) ∷ []

abbrev s0 : SetUp
s0 = set_up 0 repos ([])

abbrev s1 : SetUp
s1 = set_up 1 repos ([])

abbrev e0 : Entry
e0 = entry 0 1 (Some 1) (kinds.Gain by.Script 3 t0) None ([]) ([])

abbrev p0 : List Entry
p0 = e0 ∷ []

abbrev e1 : Entry
e1 = entry 0 2 (Some 1) (kinds.Log (Location t0)) None ([]) (t1 ∷ [])

abbrev p1 : List Entry
p1 = e1 ∷ p0

abbrev e2 : Entry
e2 = entry 0 3 (Some 0) (kinds.Gain by.Script 3 t2) None ([]) ([])

abbrev p2 : List Entry
p2 = e2 ∷ p1

abbrev e3 : Entry
e3 = entry 0 4 (Some 0) (kinds.Log (Location t2)) None ([]) (t3 ∷ [])

abbrev p3 : List Entry
p3 = e3 ∷ p2

abbrev e4 : Entry
e4 = entry 0 5 (Some 1) (kinds.Gain by.Script 3 t2) None ([]) ([])

abbrev p4 : List Entry
p4 = e4 ∷ p3

abbrev e5 : Entry
e5 = entry 0 6 (Some 1) (kinds.Log (Location t2)) None ([]) (t1 ∷ [])

abbrev p5 : List Entry
p5 = e5 ∷ p4

abbrev e6 : Entry
e6 = entry 0 7 (Some 1) (kinds.Gain by.Script 3 t4) None ([]) ([])

abbrev p6 : List Entry
p6 = e6 ∷ p5

abbrev e7 : Entry
e7 = entry 0 8 (Some 1) (kinds.Log (Location t4)) None ([]) (t1 ∷ [])

abbrev p7 : List Entry
p7 = e7 ∷ p6

abbrev e8 : Entry
e8 = entry 0 9 (Some 1) (kinds.Log (Of logs.Uuid)) None ([]) (t5 ∷ [])

abbrev p8 : List Entry
p8 = e8 ∷ p7

abbrev e9 : Entry
e9 = entry 0 10 (Some 1) (kinds.Log (Location t2)) None ([]) (t3 ∷ [])

abbrev p9 : List Entry
p9 = e9 ∷ p8

abbrev e10 : Entry
e10 = entry 0 11 (Some 0) (kinds.Log (Location t4)) None ([]) (t1 ∷ [])

abbrev p10 : List Entry
p10 = e10 ∷ p9

abbrev e11 : Entry
e11 = entry 0 12 (Some 0) (kinds.Log (Location t0)) None ([]) (t1 ∷ [])

abbrev p11 : List Entry
p11 = e11 ∷ p10

abbrev e12 : Entry
e12 = entry 0 13 (Some 0) (kinds.Log (Location t2)) None ([]) (t1 ∷ [])

abbrev p12 : List Entry
p12 = e12 ∷ p11

abbrev e13 : Entry
e13 = entry 0 14 (Some 0) (kinds.Log (Of logs.Uuid)) None ([]) (t5 ∷ [])

abbrev p13 : List Entry
p13 = e13 ∷ p12

abbrev e14 : Entry
e14 = entry 0 15 (Some 0) (kinds.Crash 0) None ([]) ([])

claim14 : Crashes s0 p13 e14
unfolding opened
claim14 = refl

abbrev p14 : List Entry
p14 = e14 ∷ p13

abbrev e15 : Entry
e15 = entry 0 16 (Some 0) (kinds.Gain by.Script 3 t4) None ([]) ([])

abbrev p15 : List Entry
p15 = e15 ∷ p14

abbrev e16 : Entry
e16 = entry 0 17 (Some 0) (kinds.Log (Location t4)) None ([]) (t3 ∷ [])

abbrev p16 : List Entry
p16 = e16 ∷ p15

abbrev e17 : Entry
e17 = entry 599999 18 None (kinds.Wait 599999) None ([]) ([])

abbrev p17 : List Entry
p17 = e17 ∷ p16

abbrev e18 : Entry
e18 = entry 599999 19 (Some 0) (kinds.Log (Of logs.Trust)) None ([]) (t6 ∷ [])

abbrev p18 : List Entry
p18 = e18 ∷ p17

abbrev e19 : Entry
e19 = entry 599999 20 (Some 0) (kinds.Begin 1 (job jobs.Copy t0 None (Some 1))) None ([]) ([])

abbrev p19 : List Entry
p19 = e19 ∷ p18

abbrev e20 : Entry
e20 = entry 599999 21 (Some 0) (kinds.Begin 2 (job jobs.MoveFrom t0 None (Some 1))) None ([]) ([])

abbrev p20 : List Entry
p20 = e20 ∷ p19

abbrev e21 : Entry
e21 = entry 599999 22 (Some 0) (kinds.End 1 (outcomes.TransferRefused transfers.NotHere)) None ([]) ([])

claim21 : Makes s0 p20 ([]) ([]) None 0 false ([]) e21
unfolding opened
claim21 = refl

abbrev p21 : List Entry
p21 = e21 ∷ p20

abbrev e22 : Entry
e22 = entry 599999 23 (Some 0) (kinds.Talk (Some 2)) None ((up 1 1 1 1 Opening) ∷ []) ([])

claim22 : Makes s0 p21 ([]) ([]) None 0 false ([]) e22
unfolding opened
claim22 = refl

abbrev p22 : List Entry
p22 = e22 ∷ p21

abbrev e23 : Entry
e23 = entry 599999 24 (Some 1) (kinds.Talk None) (Some (up 0 1 1 1 Opening)) ((down 0 1 1 1 (Line t7)) ∷ []) ([])

claim23 : Makes s1 p22 ((up 0 1 1 1 Opening) ∷ []) ([]) None 0 false ([]) e23
unfolding opened
claim23 = refl

abbrev p23 : List Entry
p23 = e23 ∷ p22

abbrev e24 : Entry
e24 = entry 599999 25 (Some 0) (kinds.Talk (Some 2)) (Some (down 1 1 1 1 (Line t7))) ((up 1 1 1 2 (Line t8)) ∷ []) ([])

claim24 : Makes s0 p23 ((down 1 1 1 1 (Line t7)) ∷ []) ([]) None 0 false ([]) e24
unfolding opened
claim24 = refl

abbrev p24 : List Entry
p24 = e24 ∷ p23

abbrev e25 : Entry
e25 = entry 599999 26 (Some 1) (kinds.Talk None) (Some (up 0 1 1 2 (Line t8))) ((down 0 1 1 2 (Line t8)) ∷ []) ([])

claim25 : Makes s1 p24 ((up 0 1 1 2 (Line t8)) ∷ []) ([]) None 0 false ([]) e25
unfolding opened
claim25 = refl

abbrev p25 : List Entry
p25 = e25 ∷ p24

abbrev e26 : Entry
e26 = entry 599999 27 (Some 0) (kinds.Talk (Some 2)) (Some (down 1 1 1 2 (Line t8))) ((up 1 1 1 3 (Line t9)) ∷ []) ([])

claim26 : Makes s0 p25 ((down 1 1 1 2 (Line t8)) ∷ []) ([]) None 0 false ([]) e26
unfolding opened
claim26 = refl

abbrev p26 : List Entry
p26 = e26 ∷ p25

abbrev e27 : Entry
e27 = entry 599999 28 (Some 1) (kinds.Talk None) (Some (up 0 1 1 3 (Line t9))) ((down 0 1 1 3 (Line t10)) ∷ []) ([])

claim27 : Makes s1 p26 ((up 0 1 1 3 (Line t9)) ∷ []) ([]) None 0 false ([]) e27
unfolding opened
claim27 = refl

abbrev p27 : List Entry
p27 = e27 ∷ p26

abbrev e28 : Entry
e28 = entry 599999 29 (Some 0) (kinds.Talk (Some 2)) (Some (down 1 1 1 3 (Line t10))) ([]) ([])

claim28 : Makes s0 p27 ((down 1 1 1 3 (Line t10)) ∷ []) ([]) None 0 false ([]) e28
unfolding opened
claim28 = refl

abbrev p28 : List Entry
p28 = e28 ∷ p27

abbrev e29 : Entry
e29 = entry 599999 30 (Some 1) (kinds.Talk None) None ((down 0 1 1 4 (Bytes 3)) ∷ []) ([])

claim29 : Makes s1 p28 ([]) ([]) None 0 false ([]) e29
unfolding opened
claim29 = refl

abbrev p29 : List Entry
p29 = e29 ∷ p28

abbrev e30 : Entry
e30 = entry 599999 31 (Some 0) (kinds.Talk (Some 2)) (Some (down 1 1 1 4 (Bytes 3))) ([]) ([])

claim30 : Makes s0 p29 ((down 1 1 1 4 (Bytes 3)) ∷ []) ([]) None 0 false ([]) e30
unfolding opened
claim30 = refl

abbrev p30 : List Entry
p30 = e30 ∷ p29

abbrev e31 : Entry
e31 = entry 599999 32 (Some 1) (kinds.Talk None) None ((down 0 1 1 5 (Line t11)) ∷ []) ([])

claim31 : Makes s1 p30 ([]) ([]) None 0 false ([]) e31
unfolding opened
claim31 = refl

abbrev p31 : List Entry
p31 = e31 ∷ p30

abbrev e32 : Entry
e32 = entry 599999 33 (Some 0) (kinds.Gain (by.Job 2) 3 t0) (Some (down 1 1 1 5 (Line t11))) ((up 1 1 1 4 (Line t12)) ∷ []) ([])

claim32 : Makes s0 p31 ((down 1 1 1 5 (Line t11)) ∷ []) ([]) None 0 true ([]) e32
unfolding opened
claim32 = refl

abbrev p32 : List Entry
p32 = e32 ∷ p31

abbrev e33 : Entry
e33 = entry 599999 34 (Some 1) (kinds.Talk None) (Some (up 0 1 1 4 (Line t12))) ([]) ([])

claim33 : Makes s1 p32 ((up 0 1 1 4 (Line t12)) ∷ []) ([]) None 0 false ([]) e33
unfolding opened
claim33 = refl

abbrev p33 : List Entry
p33 = e33 ∷ p32

abbrev e34 : Entry
e34 = entry 599999 35 (Some 0) (kinds.Log (Location t0)) None ([]) (t13 ∷ [])

claim34 : Makes s0 p33 ([]) ([]) None 0 false ([]) e34
unfolding opened
claim34 = refl

abbrev p34 : List Entry
p34 = e34 ∷ p33

abbrev e35 : Entry
e35 = entry 599999 36 (Some 0) (kinds.Talk (Some 2)) None ([]) ([])

claim35 : Makes s0 p34 ([]) ([]) None 0 false ([]) e35
unfolding opened
claim35 = refl

abbrev p35 : List Entry
p35 = e35 ∷ p34

abbrev e36 : Entry
e36 = entry 599999 37 (Some 0) (kinds.Order 2 1 None (need 1 1) t0) None ((up 1 1 1 5 (Line t14)) ∷ []) ([])

claim36 : Makes s0 p35 ([]) ([]) None 0 false ([]) e36
unfolding opened
claim36 = refl

abbrev p36 : List Entry
p36 = e36 ∷ p35

abbrev e37 : Entry
e37 = entry 599999 38 (Some 1) (kinds.Gone (by.Peer 0 1) t0) (Some (up 0 1 1 5 (Line t14))) ((down 0 1 1 6 (Line t12)) ∷ []) ([])

claim37 : Makes s1 p36 ((up 0 1 1 5 (Line t14)) ∷ []) ([]) None 0 false ([]) e37
unfolding opened
claim37 = refl

abbrev p37 : List Entry
p37 = e37 ∷ p36

abbrev e38 : Entry
e38 = entry 599999 39 (Some 0) (kinds.Talk (Some 2)) (Some (down 1 1 1 6 (Line t12))) ([]) ([])

claim38 : Makes s0 p37 ((down 1 1 1 6 (Line t12)) ∷ []) ([]) None 0 false ([]) e38
unfolding opened
claim38 = refl

abbrev p38 : List Entry
p38 = e38 ∷ p37

abbrev e39 : Entry
e39 = entry 599999 40 (Some 1) (kinds.Log (Location t0)) None ([]) (t15 ∷ [])

claim39 : Makes s1 p38 ([]) ([]) None 0 false ([]) e39
unfolding opened
claim39 = refl

abbrev p39 : List Entry
p39 = e39 ∷ p38

abbrev e40 : Entry
e40 = entry 599999 41 (Some 0) (kinds.Log (Location t0)) None ([]) (t16 ∷ [])

claim40 : Makes s0 p39 ([]) ([]) None 0 false ([]) e40
unfolding opened
claim40 = refl

abbrev p40 : List Entry
p40 = e40 ∷ p39

abbrev e41 : Entry
e41 = entry 599999 42 (Some 0) (kinds.End 2 (outcomes.Dropped (proof (need 1 1) ([]) (0 ∷ []) ([])))) None ((up 1 1 1 6 Closing) ∷ []) ([])

claim41 : Makes s0 p40 ([]) ([]) None 0 false ([]) e41
unfolding opened
claim41 = refl

abbrev p41 : List Entry
p41 = e41 ∷ p40

abbrev e42 : Entry
e42 = entry 599999 43 (Some 1) (kinds.Close 0 1 false) (Some (up 0 1 1 6 Closing)) ([]) ([])

claim42 : Makes s1 p41 ((up 0 1 1 6 Closing) ∷ []) ([]) None 0 false ([]) e42
unfolding opened
claim42 = refl

abbrev p42 : List Entry
p42 = e42 ∷ p41

abbrev e43 : Entry
e43 = entry 599999 44 (Some 1) (kinds.Compact (Location t0)) None ([]) ([])

abbrev p43 : List Entry
p43 = e43 ∷ p42

abbrev e44 : Entry
e44 = entry 599999 45 (Some 0) (kinds.Begin 3 (job jobs.Get t4 None None)) None ([]) ([])

abbrev p44 : List Entry
p44 = e44 ∷ p43

abbrev e45 : Entry
e45 = entry 599999 46 (Some 1) (kinds.Begin 1 (job jobs.Drop t4 None (Some 0))) None ([]) ([])

abbrev p45 : List Entry
p45 = e45 ∷ p44

abbrev e46 : Entry
e46 = entry 599999 47 (Some 0) (kinds.End 3 (outcomes.Got None None)) None ([]) ([])

claim46 : Makes s0 p45 ([]) ([]) None 0 false ([]) e46
unfolding opened
claim46 = refl

abbrev p46 : List Entry
p46 = e46 ∷ p45

abbrev e47 : Entry
e47 = entry 599999 48 (Some 1) (kinds.Share 20 1200998 (by.Job 1) t4) None ([]) ([])

claim47 : Makes s1 p46 ([]) ([]) None 0 false ([]) e47
unfolding opened
claim47 = refl

abbrev p47 : List Entry
p47 = e47 ∷ p46

abbrev e48 : Entry
e48 = entry 599999 49 (Some 1) (kinds.Talk (Some 1)) None ((up 0 0 1 1 Opening) ∷ []) ([])

claim48 : Makes s1 p47 ([]) ([]) None 0 false ([]) e48
unfolding opened
claim48 = refl

abbrev p48 : List Entry
p48 = e48 ∷ p47

abbrev e49 : Entry
e49 = entry 599999 50 (Some 0) (kinds.Talk None) (Some (up 1 0 1 1 Opening)) ((down 1 0 1 1 (Line t17)) ∷ []) ([])

claim49 : Makes s0 p48 ((up 1 0 1 1 Opening) ∷ []) ([]) None 0 false ([]) e49
unfolding opened
claim49 = refl

abbrev p49 : List Entry
p49 = e49 ∷ p48

abbrev e50 : Entry
e50 = entry 599999 51 (Some 1) (kinds.Talk (Some 1)) (Some (down 0 0 1 1 (Line t17))) ((up 0 0 1 2 (Line t8)) ∷ []) ([])

claim50 : Makes s1 p49 ((down 0 0 1 1 (Line t17)) ∷ []) ([]) None 0 false ([]) e50
unfolding opened
claim50 = refl

abbrev p50 : List Entry
p50 = e50 ∷ p49

abbrev e51 : Entry
e51 = entry 599999 52 (Some 0) (kinds.Talk None) (Some (up 1 0 1 2 (Line t8))) ((down 1 0 1 2 (Line t8)) ∷ []) ([])

claim51 : Makes s0 p50 ((up 1 0 1 2 (Line t8)) ∷ []) ([]) None 0 false ([]) e51
unfolding opened
claim51 = refl

abbrev p51 : List Entry
p51 = e51 ∷ p50

abbrev e52 : Entry
e52 = entry 599999 53 (Some 1) (kinds.Talk (Some 1)) (Some (down 0 0 1 2 (Line t8))) ((up 0 0 1 3 (Line t18)) ∷ []) ([])

claim52 : Makes s1 p51 ((down 0 0 1 2 (Line t8)) ∷ []) ([]) None 0 false ([]) e52
unfolding opened
claim52 = refl

abbrev p52 : List Entry
p52 = e52 ∷ p51

abbrev e53 : Entry
e53 = entry 599999 54 (Some 0) (kinds.Talk None) (Some (up 1 0 1 3 (Line t18))) ((down 1 0 1 3 (Line t19)) ∷ []) ([])

claim53 : Makes s0 p52 ((up 1 0 1 3 (Line t18)) ∷ []) ([]) None 0 false ([]) e53
unfolding opened
claim53 = refl

abbrev p53 : List Entry
p53 = e53 ∷ p52

abbrev e54 : Entry
e54 = entry 599999 55 (Some 1) (kinds.Order 1 0 (Some 1199) (need 1 1) t4) (Some (down 0 0 1 3 (Line t19))) ((up 0 0 1 4 (Line t20)) ∷ []) ([])

claim54 : Makes s1 p53 ((down 0 0 1 3 (Line t19)) ∷ []) ([]) None 0 false ([]) e54
unfolding opened
claim54 = refl

abbrev p54 : List Entry
p54 = e54 ∷ p53

abbrev e55 : Entry
e55 = entry 599999 56 (Some 0) (kinds.Gone (by.Peer 1 0) t4) (Some (up 1 0 1 4 (Line t20))) ((down 1 0 1 4 (Line t12)) ∷ []) ([])

claim55 : Makes s0 p54 ((up 1 0 1 4 (Line t20)) ∷ []) ([]) None 0 false ([]) e55
unfolding opened
claim55 = refl

abbrev p55 : List Entry
p55 = e55 ∷ p54

abbrev e56 : Entry
e56 = entry 599999 57 (Some 1) (kinds.Talk (Some 1)) (Some (down 0 0 1 4 (Line t12))) ([]) ([])

claim56 : Makes s1 p55 ((down 0 0 1 4 (Line t12)) ∷ []) ([]) None 0 false ([]) e56
unfolding opened
claim56 = refl

abbrev p56 : List Entry
p56 = e56 ∷ p55

abbrev e57 : Entry
e57 = entry 599999 58 (Some 0) (kinds.Log (Location t4)) None ([]) (t21 ∷ [])

claim57 : Makes s0 p56 ([]) ([]) None 0 false ([]) e57
unfolding opened
claim57 = refl

abbrev p57 : List Entry
p57 = e57 ∷ p56

abbrev e58 : Entry
e58 = entry 599999 59 (Some 1) (kinds.Log (Location t4)) None ([]) (t22 ∷ [])

claim58 : Makes s1 p57 ([]) ([]) None 0 false ([]) e58
unfolding opened
claim58 = refl

abbrev p58 : List Entry
p58 = e58 ∷ p57

abbrev e59 : Entry
e59 = entry 599999 60 (Some 1) (kinds.End 1 (outcomes.Dropped (proof (need 1 1) (1 ∷ []) ([]) ([])))) None ((up 0 0 1 5 Closing) ∷ []) ([])

claim59 : Makes s1 p58 ([]) ([]) None 0 false ([]) e59
unfolding opened
claim59 = refl

abbrev p59 : List Entry
p59 = e59 ∷ p58

abbrev e60 : Entry
e60 = entry 599999 61 (Some 0) (kinds.Close 1 0 false) (Some (up 1 0 1 5 Closing)) ([]) ([])

claim60 : Makes s0 p59 ((up 1 0 1 5 Closing) ∷ []) ([]) None 0 false ([]) e60
unfolding opened
claim60 = refl

abbrev p60 : List Entry
p60 = e60 ∷ p59

abbrev e61 : Entry
e61 = entry 599999 62 (Some 1) (kinds.Log (Of logs.Mincopies)) None ([]) (t23 ∷ [])

abbrev p61 : List Entry
p61 = e61 ∷ p60

abbrev e62 : Entry
e62 = entry 599999 63 (Some 1) (kinds.Begin 2 (job jobs.Drop t0 None (Some 0))) None ([]) ([])

abbrev p62 : List Entry
p62 = e62 ∷ p61

abbrev e63 : Entry
e63 = entry 599999 64 (Some 1) (kinds.Talk (Some 2)) None ([]) ([])

claim63 : Makes s1 p62 ([]) ([]) None 0 false ([]) e63
unfolding opened
claim63 = refl

abbrev p63 : List Entry
p63 = e63 ∷ p62

abbrev e64 : Entry
e64 = entry 599999 65 (Some 1) (kinds.End 2 (outcomes.Refused (drops.Lacking (proof (need 1 2) ([]) ([]) ([])) ((record { repo = 1; cause = causes.Absent }) ∷ [])))) None ([]) ([])

claim64 : Makes s1 p63 ([]) ([]) None 0 false ([]) e64
unfolding opened
claim64 = refl

abbrev p64 : List Entry
p64 = e64 ∷ p63
