-- The run of the script copy-and-move: each entry that a turn made is what the step makes (written by tools/journal_claims.py).
use Rattle.std.specs.Prelude.{refl, ℕ, true, false, List, [], ◌∷◌, Some, None, codes}
use Rattle.annex_base.specs.declared.kinds.Call.TheVariants as calls
use Rattle.annex_base.specs.declared.kinds.Found.TheVariants as found
use Rattle.annex_base.specs.declared.kinds.Word.TheVariants as words
use Rattle.log_lines.specs.declared.entry.LogKind.TheVariants as logs
use Rattle.run_data.specs.declared.entry.Entry.{Entry}
use Rattle.run_data.specs.declared.entry.EntryKind.TheVariants as kinds
use Rattle.run_data.specs.declared.entry.By.TheVariants as by
use Rattle.run_data.specs.declared.entry.FrameText.TheVariants.{Opening, Closing, Bytes, Line}
use Rattle.run_data.specs.declared.entry.FrameView.{FrameView}
use Rattle.run_data.specs.declared.entry.LogFile.TheVariants.{Location, Of}
use Rattle.run_data.specs.declared.job.JobKind.TheVariants as jobs
use Rattle.run_data.specs.declared.job.Outcome.TheVariants as outcomes
use Rattle.run_data.specs.declared.job.DropRefusal.TheVariants as drops
use Rattle.run_data.specs.declared.job.TransferRefusal.TheVariants as transfers
use Rattle.run_data.specs.declared.job.Cause.TheVariants as causes
use Rattle.run_data.specs.declared.job.SourceCause.TheVariants as sources
use Rattle.run_data.specs.declared.job.Denial.TheVariants as denials
use Rattle.run_data.specs.declared.run.RepoView.{RepoView}
use Rattle.node_model.specs.SetUp.{SetUp}
use Rattle.step_claims.specs.Opened.{opened}
use Rattle.step_claims.specs.Claims.{Closes, Crashes, IsIdle, Makes, down, end, entry, job, need, proof, repository, set_up, up}

abbrev t0 : List ℕ
t0 = codes "WORM-s3--abc"

abbrev t1 : List ℕ
t1 = codes "1700000000s 1 11111111-1111-4111-8111-111111111111"

abbrev t2 : List ℕ
t2 = codes "AUTH-SUCCESS 22222222-2222-4222-8222-222222222222"

abbrev t3 : List ℕ
t3 = codes "VERSION 3"

abbrev t4 : List ℕ
t4 = codes "PUT  WORM-s3--abc"

abbrev t5 : List ℕ
t5 = codes "PUT-FROM 0"

abbrev t6 : List ℕ
t6 = codes "DATA 3"

abbrev t7 : List ℕ
t7 = codes "VALID"

abbrev t8 : List ℕ
t8 = codes "SUCCESS"

abbrev t9 : List ℕ
t9 = codes "1700000000s 1 22222222-2222-4222-8222-222222222222"

abbrev t10 : List ℕ
t10 = codes "ALREADY-HAVE"

abbrev t11 : List ℕ
t11 = codes "1700000000.000000001s 1 22222222-2222-4222-8222-222222222222"

abbrev t12 : List ℕ
t12 = codes "LOCKCONTENT WORM-s3--abc"

abbrev t13 : List ℕ
t13 = codes "1700000000.000000001s 0 11111111-1111-4111-8111-111111111111"

abbrev t14 : List ℕ
t14 = codes "UNLOCKCONTENT WORM-s3--abc"

abbrev repos : List RepoView
repos = (repository (codes "a") (17 ∷ 17 ∷ 17 ∷ 17 ∷ 17 ∷ 17 ∷ 65 ∷ 17 ∷ 129 ∷ 17 ∷ 17 ∷ 17 ∷ 17 ∷ 17 ∷ 17 ∷ 17 ∷ []) 0 3 true) ∷ (repository (codes "b") (34 ∷ 34 ∷ 34 ∷ 34 ∷ 34 ∷ 34 ∷ 66 ∷ 34 ∷ 130 ∷ 34 ∷ 34 ∷ 34 ∷ 34 ∷ 34 ∷ 34 ∷ 34 ∷ []) 0 3 true) ∷ []

abbrev s0 : SetUp
s0 = set_up 0 repos ([])

abbrev s1 : SetUp
s1 = set_up 1 repos ([])

abbrev e0 : Entry
e0 = entry 0 1 (Some 0) (kinds.Gain by.Script 3 t0) None ([]) ([])

abbrev p0 : List Entry
p0 = e0 ∷ []

abbrev e1 : Entry
e1 = entry 0 2 (Some 0) (kinds.Log (Location t0)) None ([]) (t1 ∷ [])

abbrev p1 : List Entry
p1 = e1 ∷ p0

abbrev e2 : Entry
e2 = entry 0 3 (Some 0) (kinds.Begin 1 (job jobs.Copy t0 None (Some 1))) None ([]) ([])

abbrev p2 : List Entry
p2 = e2 ∷ p1

abbrev e3 : Entry
e3 = entry 0 4 (Some 0) (kinds.Talk (Some 1)) None ((up 1 0 1 1 Opening) ∷ []) ([])

claim3 : Makes s0 p2 ([]) ([]) None 0 false ([]) e3
unfolding opened
claim3 = refl

abbrev p3 : List Entry
p3 = e3 ∷ p2

abbrev e4 : Entry
e4 = entry 0 5 (Some 1) (kinds.Talk None) (Some (up 0 0 1 1 Opening)) ((down 0 0 1 1 (Line t2)) ∷ []) ([])

claim4 : Makes s1 p3 ((up 0 0 1 1 Opening) ∷ []) ([]) None 0 false ([]) e4
unfolding opened
claim4 = refl

abbrev p4 : List Entry
p4 = e4 ∷ p3

abbrev e5 : Entry
e5 = entry 0 6 (Some 0) (kinds.Talk (Some 1)) (Some (down 1 0 1 1 (Line t2))) ((up 1 0 1 2 (Line t3)) ∷ []) ([])

claim5 : Makes s0 p4 ((down 1 0 1 1 (Line t2)) ∷ []) ([]) None 0 false ([]) e5
unfolding opened
claim5 = refl

abbrev p5 : List Entry
p5 = e5 ∷ p4

abbrev e6 : Entry
e6 = entry 0 7 (Some 1) (kinds.Talk None) (Some (up 0 0 1 2 (Line t3))) ((down 0 0 1 2 (Line t3)) ∷ []) ([])

claim6 : Makes s1 p5 ((up 0 0 1 2 (Line t3)) ∷ []) ([]) None 0 false ([]) e6
unfolding opened
claim6 = refl

abbrev p6 : List Entry
p6 = e6 ∷ p5

abbrev e7 : Entry
e7 = entry 0 8 (Some 0) (kinds.Talk (Some 1)) (Some (down 1 0 1 2 (Line t3))) ((up 1 0 1 3 (Line t4)) ∷ []) ([])

claim7 : Makes s0 p6 ((down 1 0 1 2 (Line t3)) ∷ []) ([]) None 0 false ([]) e7
unfolding opened
claim7 = refl

abbrev p7 : List Entry
p7 = e7 ∷ p6

abbrev e8 : Entry
e8 = entry 0 9 (Some 1) (kinds.Talk None) (Some (up 0 0 1 3 (Line t4))) ((down 0 0 1 3 (Line t5)) ∷ []) ([])

claim8 : Makes s1 p7 ((up 0 0 1 3 (Line t4)) ∷ []) ([]) None 0 false ([]) e8
unfolding opened
claim8 = refl

abbrev p8 : List Entry
p8 = e8 ∷ p7

abbrev e9 : Entry
e9 = entry 0 10 (Some 0) (kinds.Talk (Some 1)) (Some (down 1 0 1 3 (Line t5))) ((up 1 0 1 4 (Line t6)) ∷ []) ([])

claim9 : Makes s0 p8 ((down 1 0 1 3 (Line t5)) ∷ []) ([]) None 0 false ([]) e9
unfolding opened
claim9 = refl

abbrev p9 : List Entry
p9 = e9 ∷ p8

abbrev e10 : Entry
e10 = entry 0 11 (Some 1) (kinds.Talk None) (Some (up 0 0 1 4 (Line t6))) ([]) ([])

claim10 : Makes s1 p9 ((up 0 0 1 4 (Line t6)) ∷ []) ([]) None 0 false ([]) e10
unfolding opened
claim10 = refl

abbrev p10 : List Entry
p10 = e10 ∷ p9

abbrev e11 : Entry
e11 = entry 0 12 (Some 0) (kinds.Talk (Some 1)) None ((up 1 0 1 5 (Bytes 3)) ∷ []) ([])

claim11 : Makes s0 p10 ([]) ([]) None 0 false ([]) e11
unfolding opened
claim11 = refl

abbrev p11 : List Entry
p11 = e11 ∷ p10

abbrev e12 : Entry
e12 = entry 0 13 (Some 1) (kinds.Talk None) (Some (up 0 0 1 5 (Bytes 3))) ([]) ([])

claim12 : Makes s1 p11 ((up 0 0 1 5 (Bytes 3)) ∷ []) ([]) None 0 false ([]) e12
unfolding opened
claim12 = refl

abbrev p12 : List Entry
p12 = e12 ∷ p11

abbrev e13 : Entry
e13 = entry 0 14 (Some 0) (kinds.Talk (Some 1)) None ((up 1 0 1 6 (Line t7)) ∷ []) ([])

claim13 : Makes s0 p12 ([]) ([]) None 0 false ([]) e13
unfolding opened
claim13 = refl

abbrev p13 : List Entry
p13 = e13 ∷ p12

abbrev e14 : Entry
e14 = entry 0 15 (Some 1) (kinds.Gain (by.Peer 0 0) 3 t0) (Some (up 0 0 1 6 (Line t7))) ((down 0 0 1 4 (Line t8)) ∷ []) ([])

claim14 : Makes s1 p13 ((up 0 0 1 6 (Line t7)) ∷ []) ([]) None 0 true ([]) e14
unfolding opened
claim14 = refl

abbrev p14 : List Entry
p14 = e14 ∷ p13

abbrev e15 : Entry
e15 = entry 0 16 (Some 0) (kinds.Talk (Some 1)) (Some (down 1 0 1 4 (Line t8))) ([]) ([])

claim15 : Makes s0 p14 ((down 1 0 1 4 (Line t8)) ∷ []) ([]) None 0 false ([]) e15
unfolding opened
claim15 = refl

abbrev p15 : List Entry
p15 = e15 ∷ p14

abbrev e16 : Entry
e16 = entry 0 17 (Some 1) (kinds.Log (Location t0)) None ([]) (t9 ∷ [])

claim16 : Makes s1 p15 ([]) ([]) None 0 false ([]) e16
unfolding opened
claim16 = refl

abbrev p16 : List Entry
p16 = e16 ∷ p15

abbrev e17 : Entry
e17 = entry 0 18 (Some 0) (kinds.Log (Location t0)) None ([]) (t9 ∷ [])

claim17 : Makes s0 p16 ([]) ([]) None 0 false ([]) e17
unfolding opened
claim17 = refl

abbrev p17 : List Entry
p17 = e17 ∷ p16

idle18_1 : IsIdle s1 p17 ([])
unfolding opened
idle18_1 = refl

abbrev e18 : Entry
e18 = entry 0 19 (Some 0) (kinds.End 1 (outcomes.Copied (Some 0))) None ((up 1 0 1 7 Closing) ∷ []) ([])

claim18 : Makes s0 p17 ([]) ([]) None 0 false ([]) e18
unfolding opened
claim18 = refl

abbrev p18 : List Entry
p18 = e18 ∷ p17

abbrev e19 : Entry
e19 = entry 0 20 (Some 1) (kinds.Close 0 0 false) (Some (up 0 0 1 7 Closing)) ([]) ([])

claim19 : Makes s1 p18 ((up 0 0 1 7 Closing) ∷ []) ([]) None 0 false ([]) e19
unfolding opened
claim19 = refl

abbrev p19 : List Entry
p19 = e19 ∷ p18

idle20_0 : IsIdle s0 p19 ([])
unfolding opened
idle20_0 = refl

idle20_1 : IsIdle s1 p19 ([])
unfolding opened
idle20_1 = refl

abbrev e20 : Entry
e20 = entry 0 21 (Some 0) (kinds.Begin 2 (job jobs.MoveTo t0 None (Some 1))) None ([]) ([])

abbrev p20 : List Entry
p20 = e20 ∷ p19

abbrev e21 : Entry
e21 = entry 0 22 (Some 0) (kinds.Talk (Some 2)) None ((up 1 0 2 1 Opening) ∷ []) ([])

claim21 : Makes s0 p20 ([]) ([]) None 0 false ([]) e21
unfolding opened
claim21 = refl

abbrev p21 : List Entry
p21 = e21 ∷ p20

abbrev e22 : Entry
e22 = entry 0 23 (Some 1) (kinds.Talk None) (Some (up 0 0 2 1 Opening)) ((down 0 0 2 1 (Line t2)) ∷ []) ([])

claim22 : Makes s1 p21 ((up 0 0 2 1 Opening) ∷ []) ([]) None 0 false ([]) e22
unfolding opened
claim22 = refl

abbrev p22 : List Entry
p22 = e22 ∷ p21

abbrev e23 : Entry
e23 = entry 0 24 (Some 0) (kinds.Talk (Some 2)) (Some (down 1 0 2 1 (Line t2))) ((up 1 0 2 2 (Line t3)) ∷ []) ([])

claim23 : Makes s0 p22 ((down 1 0 2 1 (Line t2)) ∷ []) ([]) None 0 false ([]) e23
unfolding opened
claim23 = refl

abbrev p23 : List Entry
p23 = e23 ∷ p22

abbrev e24 : Entry
e24 = entry 0 25 (Some 1) (kinds.Talk None) (Some (up 0 0 2 2 (Line t3))) ((down 0 0 2 2 (Line t3)) ∷ []) ([])

claim24 : Makes s1 p23 ((up 0 0 2 2 (Line t3)) ∷ []) ([]) None 0 false ([]) e24
unfolding opened
claim24 = refl

abbrev p24 : List Entry
p24 = e24 ∷ p23

abbrev e25 : Entry
e25 = entry 0 26 (Some 0) (kinds.Talk (Some 2)) (Some (down 1 0 2 2 (Line t3))) ((up 1 0 2 3 (Line t4)) ∷ []) ([])

claim25 : Makes s0 p24 ((down 1 0 2 2 (Line t3)) ∷ []) ([]) None 0 false ([]) e25
unfolding opened
claim25 = refl

abbrev p25 : List Entry
p25 = e25 ∷ p24

abbrev e26 : Entry
e26 = entry 0 27 (Some 1) (kinds.Talk None) (Some (up 0 0 2 3 (Line t4))) ((down 0 0 2 3 (Line t10)) ∷ []) ([])

claim26 : Makes s1 p25 ((up 0 0 2 3 (Line t4)) ∷ []) ([]) None 0 false ([]) e26
unfolding opened
claim26 = refl

abbrev p26 : List Entry
p26 = e26 ∷ p25

abbrev e27 : Entry
e27 = entry 0 28 (Some 0) (kinds.Talk (Some 2)) (Some (down 1 0 2 3 (Line t10))) ([]) ([])

claim27 : Makes s0 p26 ((down 1 0 2 3 (Line t10)) ∷ []) ([]) None 0 false ([]) e27
unfolding opened
claim27 = refl

abbrev p27 : List Entry
p27 = e27 ∷ p26

idle28_1 : IsIdle s1 p27 ([])
unfolding opened
idle28_1 = refl

abbrev e28 : Entry
e28 = entry 0 29 (Some 0) (kinds.Log (Location t0)) None ([]) (t11 ∷ [])

claim28 : Makes s0 p27 ([]) ([]) None 0 false ([]) e28
unfolding opened
claim28 = refl

abbrev p28 : List Entry
p28 = e28 ∷ p27

idle29_1 : IsIdle s1 p28 ([])
unfolding opened
idle29_1 = refl

abbrev e29 : Entry
e29 = entry 0 30 (Some 0) (kinds.Bar 2 (need 1 1) t0) None ([]) ([])

claim29 : Makes s0 p28 ([]) ([]) None 0 false ([]) e29
unfolding opened
claim29 = refl

abbrev p29 : List Entry
p29 = e29 ∷ p28

idle30_1 : IsIdle s1 p29 ([])
unfolding opened
idle30_1 = refl

abbrev e30 : Entry
e30 = entry 0 31 (Some 0) (kinds.Talk (Some 2)) None ((up 1 0 2 4 (Line t12)) ∷ []) ([])

claim30 : Makes s0 p29 ([]) ([]) None 0 false ([]) e30
unfolding opened
claim30 = refl

abbrev p30 : List Entry
p30 = e30 ∷ p29

abbrev e31 : Entry
e31 = entry 0 32 (Some 1) (kinds.Share 12 600000 (by.Peer 0 0) t0) (Some (up 0 0 2 4 (Line t12))) ((down 0 0 2 4 (Line t8)) ∷ []) ([])

claim31 : Makes s1 p30 ((up 0 0 2 4 (Line t12)) ∷ []) ([]) None 0 false ([]) e31
unfolding opened
claim31 = refl

abbrev p31 : List Entry
p31 = e31 ∷ p30

abbrev e32 : Entry
e32 = entry 0 33 (Some 0) (kinds.Talk (Some 2)) (Some (down 1 0 2 4 (Line t8))) ([]) ([])

claim32 : Makes s0 p31 ((down 1 0 2 4 (Line t8)) ∷ []) ([]) None 0 false ([]) e32
unfolding opened
claim32 = refl

abbrev p32 : List Entry
p32 = e32 ∷ p31

idle33_1 : IsIdle s1 p32 ([])
unfolding opened
idle33_1 = refl

abbrev e33 : Entry
e33 = entry 0 34 (Some 0) (kinds.Gone (by.Job 2) t0) None ([]) ([])

claim33 : Makes s0 p32 ([]) ([]) None 0 false ([]) e33
unfolding opened
claim33 = refl

abbrev p33 : List Entry
p33 = e33 ∷ p32

idle34_1 : IsIdle s1 p33 ([])
unfolding opened
idle34_1 = refl

abbrev e34 : Entry
e34 = entry 0 35 (Some 0) (kinds.Log (Location t0)) None ([]) (t13 ∷ [])

claim34 : Makes s0 p33 ([]) ([]) None 0 false ([]) e34
unfolding opened
claim34 = refl

abbrev p34 : List Entry
p34 = e34 ∷ p33

idle35_1 : IsIdle s1 p34 ([])
unfolding opened
idle35_1 = refl

abbrev e35 : Entry
e35 = entry 0 36 (Some 0) (kinds.End 2 (outcomes.Dropped (proof (need 1 1) (1 ∷ []) ([]) ([])))) None ((up 1 0 2 5 (Line t14)) ∷ (up 1 0 2 6 Closing) ∷ []) ([])

claim35 : Makes s0 p34 ([]) ([]) None 0 false ([]) e35
unfolding opened
claim35 = refl

abbrev p35 : List Entry
p35 = e35 ∷ p34

abbrev e36 : Entry
e36 = entry 0 37 (Some 1) (kinds.Release 12 t0) (Some (up 0 0 2 5 (Line t14))) ([]) ([])

claim36 : Makes s1 p35 ((up 0 0 2 5 (Line t14)) ∷ []) ([]) None 0 false ([]) e36
unfolding opened
claim36 = refl

abbrev p36 : List Entry
p36 = e36 ∷ p35

idle37_0 : IsIdle s0 p36 ([])
unfolding opened
idle37_0 = refl

abbrev e37 : Entry
e37 = entry 0 38 (Some 1) (kinds.Close 0 0 false) (Some (up 0 0 2 6 Closing)) ([]) ([])

claim37 : Makes s1 p36 ((up 0 0 2 6 Closing) ∷ []) ([]) None 0 false ([]) e37
unfolding opened
claim37 = refl

abbrev p37 : List Entry
p37 = e37 ∷ p36

idle38_0 : IsIdle s0 p37 ([])
unfolding opened
idle38_0 = refl

idle38_1 : IsIdle s1 p37 ([])
unfolding opened
idle38_1 = refl

abbrev e38 : Entry
e38 = entry 0 39 (Some 0) (kinds.Begin 3 (job jobs.Drop t0 None None)) None ([]) ([])

abbrev p38 : List Entry
p38 = e38 ∷ p37

abbrev e39 : Entry
e39 = entry 0 40 (Some 0) (kinds.End 3 (outcomes.Refused drops.NotPresent)) None ([]) ([])

claim39 : Makes s0 p38 ([]) ([]) None 0 false ([]) e39
unfolding opened
claim39 = refl

abbrev p39 : List Entry
p39 = e39 ∷ p38

idle40_0 : IsIdle s0 p39 ([])
unfolding opened
idle40_0 = refl

idle40_1 : IsIdle s1 p39 ([])
unfolding opened
idle40_1 = refl
