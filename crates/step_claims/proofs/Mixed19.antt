-- The run of the script mixed-19: each entry that a turn made is what the step makes (written by tools/journal_claims.py).
use Rattle.std.specs.Prelude.{refl, ℕ, true, false, List, [], ◌∷◌, Some, None, codes}
use Rattle.annex_base.specs.declared.kinds.Call.TheVariants as calls
use Rattle.annex_base.specs.declared.kinds.Found.TheVariants as found
use Rattle.annex_base.specs.declared.kinds.Word.TheVariants as words
use Rattle.log_lines.specs.declared.entry.LogKind.TheVariants as logs
use Rattle.run_data.specs.declared.entry.Entry.{Entry}
use Rattle.run_data.specs.declared.entry.EntryKind.TheVariants as kinds
use Rattle.run_data.specs.declared.entry.By.TheVariants as by
use Rattle.run_data.specs.declared.entry.FrameText.TheVariants.{Opening, Closing, Bytes, Line}
use Rattle.run_data.specs.declared.entry.FrameView.{FrameView}
use Rattle.run_data.specs.declared.entry.LogFile.TheVariants.{Location, Of}
use Rattle.run_data.specs.declared.job.JobKind.TheVariants as jobs
use Rattle.run_data.specs.declared.job.Outcome.TheVariants as outcomes
use Rattle.run_data.specs.declared.job.DropRefusal.TheVariants as drops
use Rattle.run_data.specs.declared.job.TransferRefusal.TheVariants as transfers
use Rattle.run_data.specs.declared.job.Cause.TheVariants as causes
use Rattle.run_data.specs.declared.job.SourceCause.TheVariants as sources
use Rattle.run_data.specs.declared.job.Denial.TheVariants as denials
use Rattle.run_data.specs.declared.run.RepoView.{RepoView}
use Rattle.node_model.specs.SetUp.{SetUp}
use Rattle.step_claims.specs.Opened.{opened}
use Rattle.step_claims.specs.Claims.{Closes, Crashes, IsIdle, Makes, down, end, entry, job, need, proof, repository, set_up, up}

abbrev t0 : List ℕ
t0 = codes "SHA512E-s3--ddaf35a193617abacc417349ae20413112e6fa4e89a97ea20a9eeee64b55d39a2192992a274fc1a836ba3c23a3feebbd454d4423643ce80e2a9ac94fa54ca49f.tar.gz"

abbrev t1 : List ℕ
t1 = codes "1700000000s 1 11111111-1111-4111-8111-111111111100"

abbrev t2 : List ℕ
t2 = codes "1700000000s 1 22222222-1111-4111-8111-111111111101"

abbrev t3 : List ℕ
t3 = codes "1700000000s 1 44444444-1111-4111-8111-111111111103"

abbrev t4 : List ℕ
t4 = codes "WORM-s32768--piece"

abbrev t5 : List ℕ
t5 = codes "1700000000s 1 33333333-1111-4111-8111-111111111102"

abbrev t6 : List ℕ
t6 = codes "WORM--nosize"

abbrev t7 : List ℕ
t7 = codes "AUTH-SUCCESS 11111111-1111-4111-8111-111111111100"

abbrev t8 : List ℕ
t8 = codes "AUTH-SUCCESS 55555555-1111-4111-8111-111111111104"

abbrev t9 : List ℕ
t9 = codes "VERSION 3"

abbrev t10 : List ℕ
t10 = codes "PUT  WORM-s32768--piece"

abbrev t11 : List ℕ
t11 = codes "PUT-FROM 0"

abbrev t12 : List ℕ
t12 = codes "DATA 32768"

abbrev t13 : List ℕ
t13 = codes "VALID"

abbrev t14 : List ℕ
t14 = codes "SUCCESS"

abbrev t15 : List ℕ
t15 = codes "1700000000s 1 55555555-1111-4111-8111-111111111104"

abbrev repos : List RepoView
repos = (repository (codes "a") (17 ∷ 17 ∷ 17 ∷ 17 ∷ 17 ∷ 17 ∷ 65 ∷ 17 ∷ 129 ∷ 17 ∷ 17 ∷ 17 ∷ 17 ∷ 17 ∷ 17 ∷ 0 ∷ []) 0 3 true) ∷ (repository (codes "b") (34 ∷ 34 ∷ 34 ∷ 34 ∷ 17 ∷ 17 ∷ 65 ∷ 17 ∷ 129 ∷ 17 ∷ 17 ∷ 17 ∷ 17 ∷ 17 ∷ 17 ∷ 1 ∷ []) 0 3 true) ∷ (repository (codes "c") (51 ∷ 51 ∷ 51 ∷ 51 ∷ 17 ∷ 17 ∷ 65 ∷ 17 ∷ 129 ∷ 17 ∷ 17 ∷ 17 ∷ 17 ∷ 17 ∷ 17 ∷ 2 ∷ []) 0 3 true) ∷ (repository (codes "d") (68 ∷ 68 ∷ 68 ∷ 68 ∷ 17 ∷ 17 ∷ 65 ∷ 17 ∷ 129 ∷ 17 ∷ 17 ∷ 17 ∷ 17 ∷ 17 ∷ 17 ∷ 3 ∷ []) 0 3 true) ∷ (repository (codes "e") (85 ∷ 85 ∷ 85 ∷ 85 ∷ 17 ∷ 17 ∷ 65 ∷ 17 ∷ 129 ∷ 17 ∷ 17 ∷ 17 ∷ 17 ∷ 17 ∷ 17 ∷ 4 ∷ []) 0 3 true) ∷ []

abbrev s0 : SetUp
s0 = set_up 0 repos ([])

abbrev s1 : SetUp
s1 = set_up 1 repos ([])

abbrev s2 : SetUp
s2 = set_up 2 repos ([])

abbrev s3 : SetUp
s3 = set_up 3 repos ([])

abbrev s4 : SetUp
s4 = set_up 4 repos ([])

abbrev e0 : Entry
e0 = entry 0 1 (Some 0) (kinds.Gain by.Script 3 t0) None ([]) ([])

abbrev p0 : List Entry
p0 = e0 ∷ []

abbrev e1 : Entry
e1 = entry 0 2 (Some 0) (kinds.Log (Location t0)) None ([]) (t1 ∷ [])

abbrev p1 : List Entry
p1 = e1 ∷ p0

abbrev e2 : Entry
e2 = entry 0 3 (Some 1) (kinds.Gain by.Script 3 t0) None ([]) ([])

abbrev p2 : List Entry
p2 = e2 ∷ p1

abbrev e3 : Entry
e3 = entry 0 4 (Some 1) (kinds.Log (Location t0)) None ([]) (t2 ∷ [])

abbrev p3 : List Entry
p3 = e3 ∷ p2

abbrev e4 : Entry
e4 = entry 0 5 (Some 3) (kinds.Gain by.Script 3 t0) None ([]) ([])

abbrev p4 : List Entry
p4 = e4 ∷ p3

abbrev e5 : Entry
e5 = entry 0 6 (Some 3) (kinds.Log (Location t0)) None ([]) (t3 ∷ [])

abbrev p5 : List Entry
p5 = e5 ∷ p4

abbrev e6 : Entry
e6 = entry 0 7 (Some 0) (kinds.Gain by.Script 32768 t4) None ([]) ([])

abbrev p6 : List Entry
p6 = e6 ∷ p5

abbrev e7 : Entry
e7 = entry 0 8 (Some 0) (kinds.Log (Location t4)) None ([]) (t1 ∷ [])

abbrev p7 : List Entry
p7 = e7 ∷ p6

abbrev e8 : Entry
e8 = entry 0 9 (Some 1) (kinds.Gain by.Script 32768 t4) None ([]) ([])

abbrev p8 : List Entry
p8 = e8 ∷ p7

abbrev e9 : Entry
e9 = entry 0 10 (Some 1) (kinds.Log (Location t4)) None ([]) (t2 ∷ [])

abbrev p9 : List Entry
p9 = e9 ∷ p8

abbrev e10 : Entry
e10 = entry 0 11 (Some 2) (kinds.Gain by.Script 32768 t4) None ([]) ([])

abbrev p10 : List Entry
p10 = e10 ∷ p9

abbrev e11 : Entry
e11 = entry 0 12 (Some 2) (kinds.Log (Location t4)) None ([]) (t5 ∷ [])

abbrev p11 : List Entry
p11 = e11 ∷ p10

abbrev e12 : Entry
e12 = entry 0 13 (Some 3) (kinds.Gain by.Script 32768 t4) None ([]) ([])

abbrev p12 : List Entry
p12 = e12 ∷ p11

abbrev e13 : Entry
e13 = entry 0 14 (Some 3) (kinds.Log (Location t4)) None ([]) (t3 ∷ [])

abbrev p13 : List Entry
p13 = e13 ∷ p12

abbrev e14 : Entry
e14 = entry 0 15 (Some 0) (kinds.Gain by.Script 6 t6) None ([]) ([])

abbrev p14 : List Entry
p14 = e14 ∷ p13

abbrev e15 : Entry
e15 = entry 0 16 (Some 0) (kinds.Log (Location t6)) None ([]) (t1 ∷ [])

abbrev p15 : List Entry
p15 = e15 ∷ p14

abbrev e16 : Entry
e16 = entry 0 17 (Some 1) (kinds.Gain by.Script 6 t6) None ([]) ([])

abbrev p16 : List Entry
p16 = e16 ∷ p15

abbrev e17 : Entry
e17 = entry 0 18 (Some 1) (kinds.Log (Location t6)) None ([]) (t2 ∷ [])

abbrev p17 : List Entry
p17 = e17 ∷ p16

abbrev e18 : Entry
e18 = entry 0 19 (Some 3) (kinds.Gain by.Script 6 t6) None ([]) ([])

abbrev p18 : List Entry
p18 = e18 ∷ p17

abbrev e19 : Entry
e19 = entry 0 20 (Some 3) (kinds.Log (Location t6)) None ([]) (t3 ∷ [])

abbrev p19 : List Entry
p19 = e19 ∷ p18

abbrev e20 : Entry
e20 = entry 0 21 (Some 1) (kinds.Begin 1 (job jobs.MoveTo t0 None (Some 0))) None ([]) ([])

abbrev p20 : List Entry
p20 = e20 ∷ p19

abbrev e21 : Entry
e21 = entry 0 22 (Some 3) (kinds.Begin 1 (job jobs.Copy t4 None (Some 4))) None ([]) ([])

abbrev p21 : List Entry
p21 = e21 ∷ p20

abbrev e22 : Entry
e22 = entry 0 23 (Some 1) (kinds.Talk (Some 1)) None ((up 0 0 1 1 Opening) ∷ []) ([])

claim22 : Makes s1 p21 ([]) ([]) None 0 false ([]) e22
unfolding opened
claim22 = refl

abbrev p22 : List Entry
p22 = e22 ∷ p21

abbrev e23 : Entry
e23 = entry 0 24 (Some 1) (kinds.Crash 0) None ((up 0 0 1 2 Closing) ∷ []) ([])

claim23 : Crashes s1 p22 e23
unfolding opened
claim23 = refl

abbrev p23 : List Entry
p23 = e23 ∷ p22

abbrev e24 : Entry
e24 = entry 0 25 (Some 0) (kinds.Crash 0) None ([]) ([])

claim24 : Crashes s0 p23 e24
unfolding opened
claim24 = refl

abbrev p24 : List Entry
p24 = e24 ∷ p23

abbrev e25 : Entry
e25 = entry 0 26 (Some 0) (kinds.Talk None) (Some (up 1 0 1 1 Opening)) ((down 1 0 1 1 (Line t7)) ∷ []) ([])

claim25 : Makes s0 p24 ((up 1 0 1 1 Opening) ∷ []) ([]) None 0 false ([]) e25
unfolding opened
claim25 = refl

abbrev p25 : List Entry
p25 = e25 ∷ p24

abbrev e26 : Entry
e26 = entry 0 27 (Some 3) (kinds.Talk (Some 1)) None ((up 4 0 1 1 Opening) ∷ []) ([])

claim26 : Makes s3 p25 ([]) ([]) None 0 false ([]) e26
unfolding opened
claim26 = refl

abbrev p26 : List Entry
p26 = e26 ∷ p25

abbrev e27 : Entry
e27 = entry 0 28 (Some 4) (kinds.Talk None) (Some (up 3 0 1 1 Opening)) ((down 3 0 1 1 (Line t8)) ∷ []) ([])

claim27 : Makes s4 p26 ((up 3 0 1 1 Opening) ∷ []) ([]) None 0 false ([]) e27
unfolding opened
claim27 = refl

abbrev p27 : List Entry
p27 = e27 ∷ p26

abbrev e28 : Entry
e28 = entry 0 29 (Some 0) (kinds.Close 1 0 false) (Some (up 1 0 1 2 Closing)) ([]) ([])

claim28 : Makes s0 p27 ((up 1 0 1 2 Closing) ∷ []) ([]) None 0 false ([]) e28
unfolding opened
claim28 = refl

abbrev p28 : List Entry
p28 = e28 ∷ p27

abbrev e29 : Entry
e29 = entry 0 30 (Some 3) (kinds.Talk (Some 1)) (Some (down 4 0 1 1 (Line t8))) ((up 4 0 1 2 (Line t9)) ∷ []) ([])

claim29 : Makes s3 p28 ((down 4 0 1 1 (Line t8)) ∷ []) ([]) None 0 false ([]) e29
unfolding opened
claim29 = refl

abbrev p29 : List Entry
p29 = e29 ∷ p28

abbrev e30 : Entry
e30 = entry 0 31 (Some 4) (kinds.Talk None) (Some (up 3 0 1 2 (Line t9))) ((down 3 0 1 2 (Line t9)) ∷ []) ([])

claim30 : Makes s4 p29 ((up 3 0 1 2 (Line t9)) ∷ []) ([]) None 0 false ([]) e30
unfolding opened
claim30 = refl

abbrev p30 : List Entry
p30 = e30 ∷ p29

abbrev e31 : Entry
e31 = entry 0 32 (Some 3) (kinds.Talk (Some 1)) (Some (down 4 0 1 2 (Line t9))) ((up 4 0 1 3 (Line t10)) ∷ []) ([])

claim31 : Makes s3 p30 ((down 4 0 1 2 (Line t9)) ∷ []) ([]) None 0 false ([]) e31
unfolding opened
claim31 = refl

abbrev p31 : List Entry
p31 = e31 ∷ p30

abbrev e32 : Entry
e32 = entry 0 33 (Some 4) (kinds.Talk None) (Some (up 3 0 1 3 (Line t10))) ((down 3 0 1 3 (Line t11)) ∷ []) ([])

claim32 : Makes s4 p31 ((up 3 0 1 3 (Line t10)) ∷ []) ([]) None 0 false ([]) e32
unfolding opened
claim32 = refl

abbrev p32 : List Entry
p32 = e32 ∷ p31

abbrev e33 : Entry
e33 = entry 0 34 (Some 3) (kinds.Talk (Some 1)) (Some (down 4 0 1 3 (Line t11))) ((up 4 0 1 4 (Line t12)) ∷ []) ([])

claim33 : Makes s3 p32 ((down 4 0 1 3 (Line t11)) ∷ []) ([]) None 0 false ([]) e33
unfolding opened
claim33 = refl

abbrev p33 : List Entry
p33 = e33 ∷ p32

abbrev e34 : Entry
e34 = entry 0 35 (Some 4) (kinds.Talk None) (Some (up 3 0 1 4 (Line t12))) ([]) ([])

claim34 : Makes s4 p33 ((up 3 0 1 4 (Line t12)) ∷ []) ([]) None 0 false ([]) e34
unfolding opened
claim34 = refl

abbrev p34 : List Entry
p34 = e34 ∷ p33

abbrev e35 : Entry
e35 = entry 0 36 (Some 3) (kinds.Talk (Some 1)) None ((up 4 0 1 5 (Bytes 32768)) ∷ []) ([])

claim35 : Makes s3 p34 ([]) ([]) None 0 false ([]) e35
unfolding opened
claim35 = refl

abbrev p35 : List Entry
p35 = e35 ∷ p34

abbrev e36 : Entry
e36 = entry 0 37 (Some 4) (kinds.Talk None) (Some (up 3 0 1 5 (Bytes 32768))) ([]) ([])

claim36 : Makes s4 p35 ((up 3 0 1 5 (Bytes 32768)) ∷ []) ([]) None 0 false ([]) e36
unfolding opened
claim36 = refl

abbrev p36 : List Entry
p36 = e36 ∷ p35

abbrev e37 : Entry
e37 = entry 0 38 (Some 3) (kinds.Talk (Some 1)) None ((up 4 0 1 6 (Line t13)) ∷ []) ([])

claim37 : Makes s3 p36 ([]) ([]) None 0 false ([]) e37
unfolding opened
claim37 = refl

abbrev p37 : List Entry
p37 = e37 ∷ p36

abbrev e38 : Entry
e38 = entry 0 39 (Some 4) (kinds.Gain (by.Peer 3 0) 32768 t4) (Some (up 3 0 1 6 (Line t13))) ((down 3 0 1 4 (Line t14)) ∷ []) ([])

claim38 : Makes s4 p37 ((up 3 0 1 6 (Line t13)) ∷ []) ([]) None 0 true ([]) e38
unfolding opened
claim38 = refl

abbrev p38 : List Entry
p38 = e38 ∷ p37

abbrev e39 : Entry
e39 = entry 0 40 (Some 3) (kinds.Talk (Some 1)) (Some (down 4 0 1 4 (Line t14))) ([]) ([])

claim39 : Makes s3 p38 ((down 4 0 1 4 (Line t14)) ∷ []) ([]) None 0 false ([]) e39
unfolding opened
claim39 = refl

abbrev p39 : List Entry
p39 = e39 ∷ p38

abbrev e40 : Entry
e40 = entry 0 41 (Some 4) (kinds.Fault calls.PutFile (by.Peer 3 0)) None ([]) ([])

claim40 : Makes s4 p39 ([]) ([]) (Some calls.PutFile) 0 false ([]) e40
unfolding opened
claim40 = refl

abbrev p40 : List Entry
p40 = e40 ∷ p39

abbrev e41 : Entry
e41 = entry 0 42 (Some 3) (kinds.Log (Location t4)) None ([]) (t15 ∷ [])

claim41 : Makes s3 p40 ([]) ([]) None 0 false ([]) e41
unfolding opened
claim41 = refl

abbrev p41 : List Entry
p41 = e41 ∷ p40

abbrev e42 : Entry
e42 = entry 0 43 (Some 3) (kinds.End 1 (outcomes.Copied (Some 0))) None ((up 4 0 1 7 Closing) ∷ []) ([])

claim42 : Makes s3 p41 ([]) ([]) None 0 false ([]) e42
unfolding opened
claim42 = refl

abbrev p42 : List Entry
p42 = e42 ∷ p41

abbrev e43 : Entry
e43 = entry 0 44 (Some 4) (kinds.Close 3 0 false) (Some (up 3 0 1 7 Closing)) ([]) ([])

claim43 : Makes s4 p42 ((up 3 0 1 7 Closing) ∷ []) ([]) None 0 false ([]) e43
unfolding opened
claim43 = refl

abbrev p43 : List Entry
p43 = e43 ∷ p42
