-- The run of the script mixed-23: each entry that a turn made is what the step makes (written by tools/journal_claims.py).
use Rattle.std.specs.Prelude.{refl, ℕ, true, false, List, [], ◌∷◌, Some, None, codes}
use Rattle.annex_base.specs.declared.kinds.Call.TheVariants as calls
use Rattle.annex_base.specs.declared.kinds.Found.TheVariants as found
use Rattle.annex_base.specs.declared.kinds.Word.TheVariants as words
use Rattle.log_lines.specs.declared.entry.LogKind.TheVariants as logs
use Rattle.run_data.specs.declared.entry.Entry.{Entry}
use Rattle.run_data.specs.declared.entry.EntryKind.TheVariants as kinds
use Rattle.run_data.specs.declared.entry.By.TheVariants as by
use Rattle.run_data.specs.declared.entry.FrameText.TheVariants.{Opening, Closing, Bytes, Line}
use Rattle.run_data.specs.declared.entry.FrameView.{FrameView}
use Rattle.run_data.specs.declared.entry.LogFile.TheVariants.{Location, Of}
use Rattle.run_data.specs.declared.job.JobKind.TheVariants as jobs
use Rattle.run_data.specs.declared.job.Outcome.TheVariants as outcomes
use Rattle.run_data.specs.declared.job.DropRefusal.TheVariants as drops
use Rattle.run_data.specs.declared.job.TransferRefusal.TheVariants as transfers
use Rattle.run_data.specs.declared.job.Cause.TheVariants as causes
use Rattle.run_data.specs.declared.job.SourceCause.TheVariants as sources
use Rattle.run_data.specs.declared.job.Denial.TheVariants as denials
use Rattle.run_data.specs.declared.run.RepoView.{RepoView}
use Rattle.node_model.specs.SetUp.{SetUp}
use Rattle.step_claims.specs.Opened.{opened}
use Rattle.step_claims.specs.Claims.{Closes, Crashes, IsIdle, Makes, down, end, entry, job, need, proof, repository, set_up, up}

abbrev t0 : List ℕ
t0 = codes "WORM-s3--k1"

abbrev t1 : List ℕ
t1 = codes "1700000000s 1 11111111-1111-4111-8111-111111111100"

abbrev t2 : List ℕ
t2 = codes "1700000600s X 22222222-1111-4111-8111-111111111101"

abbrev t3 : List ℕ
t3 = codes "hello"

abbrev t4 : List ℕ
t4 = codes "1700000601.001s 3"

abbrev t5 : List ℕ
t5 = codes "SHA256E-s2--06eb7d6a69ee19e5fbdf749018d3d2abfa04bcbd1365db312eb86dc7169389b8.txt"

abbrev t6 : List ℕ
t6 = codes "1700000601.001s 1 11111111-1111-4111-8111-111111111100"

abbrev t7 : List ℕ
t7 = codes "1700000000.0000000001s 0 11111111-1111-4111-8111-111111111100"

abbrev repos : List RepoView
repos = (repository (codes "a") (17 ∷ 17 ∷ 17 ∷ 17 ∷ 17 ∷ 17 ∷ 65 ∷ 17 ∷ 129 ∷ 17 ∷ 17 ∷ 17 ∷ 17 ∷ 17 ∷ 17 ∷ 0 ∷ []) 0 3 true) ∷ []

abbrev s0 : SetUp
s0 = set_up 0 repos ([])

abbrev e0 : Entry
e0 = entry 0 1 (Some 0) (kinds.Gain by.Script 3 t0) None ([]) ([])

abbrev p0 : List Entry
p0 = e0 ∷ []

abbrev e1 : Entry
e1 = entry 0 2 (Some 0) (kinds.Log (Location t0)) None ([]) (t1 ∷ [])

abbrev p1 : List Entry
p1 = e1 ∷ p0

abbrev e2 : Entry
e2 = entry 0 3 (Some 0) (kinds.Log (Location t0)) None ([]) (t2 ∷ [])

abbrev p2 : List Entry
p2 = e2 ∷ p1

abbrev e3 : Entry
e3 = entry 0 4 (Some 0) (kinds.Begin 1 (job jobs.Drop t0 None None)) None ([]) ([])

abbrev p3 : List Entry
p3 = e3 ∷ p2

abbrev e4 : Entry
e4 = entry 0 5 (Some 0) (kinds.Bar 1 (need 1 1) t0) None ([]) ([])

claim4 : Makes s0 p3 ([]) ([]) None 0 false ([]) e4
unfolding opened
claim4 = refl

abbrev p4 : List Entry
p4 = e4 ∷ p3

abbrev e5 : Entry
e5 = entry 0 6 (Some 0) (kinds.End 1 (outcomes.Refused (drops.Lacking (proof (need 1 1) ([]) ([]) ([])) ([])))) None ([]) ([])

claim5 : Makes s0 p4 ([]) ([]) None 0 false ([]) e5
unfolding opened
claim5 = refl

abbrev p5 : List Entry
p5 = e5 ∷ p4

abbrev e6 : Entry
e6 = entry 0 7 (Some 0) (kinds.Begin 2 (job jobs.Get t0 None None)) None ([]) ([])

abbrev p6 : List Entry
p6 = e6 ∷ p5

abbrev e7 : Entry
e7 = entry 0 8 (Some 0) (kinds.End 2 (outcomes.Got None None)) None ([]) ([])

claim7 : Makes s0 p6 ([]) ([]) None 0 false ([]) e7
unfolding opened
claim7 = refl

abbrev p7 : List Entry
p7 = e7 ∷ p6

abbrev e8 : Entry
e8 = entry 0 9 (Some 0) (kinds.Begin 3 (job jobs.Get t0 None None)) None ([]) ([])

abbrev p8 : List Entry
p8 = e8 ∷ p7

abbrev e9 : Entry
e9 = entry 0 10 (Some 0) (kinds.End 3 (outcomes.Got None None)) None ([]) ([])

claim9 : Makes s0 p8 ([]) ([]) None 0 false ([]) e9
unfolding opened
claim9 = refl

abbrev p9 : List Entry
p9 = e9 ∷ p8

abbrev e10 : Entry
e10 = entry 0 11 (Some 0) (kinds.Log (Location t0)) None ([]) (t3 ∷ [])

abbrev p10 : List Entry
p10 = e10 ∷ p9

abbrev e11 : Entry
e11 = entry 0 12 (Some 0) (kinds.Begin 4 (job jobs.Drop t0 None None)) None ([]) ([])

abbrev p11 : List Entry
p11 = e11 ∷ p10

abbrev e12 : Entry
e12 = entry 0 13 (Some 0) (kinds.Bar 4 (need 1 1) t0) None ([]) ([])

claim12 : Makes s0 p11 ([]) ([]) None 0 false ([]) e12
unfolding opened
claim12 = refl

abbrev p12 : List Entry
p12 = e12 ∷ p11

abbrev e13 : Entry
e13 = entry 0 14 (Some 0) (kinds.End 4 (outcomes.Refused (drops.Lacking (proof (need 1 1) ([]) ([]) ([])) ([])))) None ([]) ([])

claim13 : Makes s0 p12 ([]) ([]) None 0 false ([]) e13
unfolding opened
claim13 = refl

abbrev p13 : List Entry
p13 = e13 ∷ p12

abbrev e14 : Entry
e14 = entry 0 15 (Some 0) (kinds.Begin 5 (job jobs.Drop t0 None None)) None ([]) ([])

abbrev p14 : List Entry
p14 = e14 ∷ p13

abbrev e15 : Entry
e15 = entry 0 16 (Some 0) (kinds.Begin 6 (job jobs.Get t0 None None)) None ([]) ([])

abbrev p15 : List Entry
p15 = e15 ∷ p14

abbrev e16 : Entry
e16 = entry 1000 17 None (kinds.Wait 1000) None ([]) ([])

abbrev p16 : List Entry
p16 = e16 ∷ p15

abbrev e17 : Entry
e17 = entry 1000 18 (Some 0) (kinds.Begin 7 (job jobs.Drop t0 None None)) None ([]) ([])

abbrev p17 : List Entry
p17 = e17 ∷ p16

abbrev e18 : Entry
e18 = entry 1000 19 (Some 0) (kinds.Bar 5 (need 1 1) t0) None ([]) ([])

claim18 : Makes s0 p17 ([]) ([]) None 0 false ([]) e18
unfolding opened
claim18 = refl

abbrev p18 : List Entry
p18 = e18 ∷ p17

abbrev e19 : Entry
e19 = entry 1000 20 (Some 0) (kinds.Begin 8 (job jobs.Drop t0 None None)) None ([]) ([])

abbrev p19 : List Entry
p19 = e19 ∷ p18

abbrev e20 : Entry
e20 = entry 1000 21 (Some 0) (kinds.End 5 (outcomes.Refused (drops.Lacking (proof (need 1 1) ([]) ([]) ([])) ([])))) None ([]) ([])

claim20 : Makes s0 p19 ([]) ([]) None 0 false ([]) e20
unfolding opened
claim20 = refl

abbrev p20 : List Entry
p20 = e20 ∷ p19

abbrev e21 : Entry
e21 = entry 1000 22 (Some 0) (kinds.End 6 (outcomes.Got None None)) None ([]) ([])

claim21 : Makes s0 p20 ([]) ([]) None 0 false ([]) e21
unfolding opened
claim21 = refl

abbrev p21 : List Entry
p21 = e21 ∷ p20

abbrev e22 : Entry
e22 = entry 1000 23 (Some 0) (kinds.Bar 7 (need 1 1) t0) None ([]) ([])

claim22 : Makes s0 p21 ([]) ([]) None 0 false ([]) e22
unfolding opened
claim22 = refl

abbrev p22 : List Entry
p22 = e22 ∷ p21

abbrev e23 : Entry
e23 = entry 1000 24 (Some 0) (kinds.End 7 (outcomes.Refused (drops.Lacking (proof (need 1 1) ([]) ([]) ([])) ([])))) None ([]) ([])

claim23 : Makes s0 p22 ([]) ([]) None 0 false ([]) e23
unfolding opened
claim23 = refl

abbrev p23 : List Entry
p23 = e23 ∷ p22

abbrev e24 : Entry
e24 = entry 1000 25 (Some 0) (kinds.Bar 8 (need 1 1) t0) None ([]) ([])

claim24 : Makes s0 p23 ([]) ([]) None 0 false ([]) e24
unfolding opened
claim24 = refl

abbrev p24 : List Entry
p24 = e24 ∷ p23

abbrev e25 : Entry
e25 = entry 1000 26 (Some 0) (kinds.End 8 (outcomes.Refused (drops.Lacking (proof (need 1 1) ([]) ([]) ([])) ([])))) None ([]) ([])

claim25 : Makes s0 p24 ([]) ([]) None 0 false ([]) e25
unfolding opened
claim25 = refl

abbrev p25 : List Entry
p25 = e25 ∷ p24

abbrev e26 : Entry
e26 = entry 1000 27 (Some 0) (kinds.Begin 9 (job jobs.Drop t0 None None)) None ([]) ([])

abbrev p26 : List Entry
p26 = e26 ∷ p25

abbrev e27 : Entry
e27 = entry 1000 28 (Some 0) (kinds.Begin 10 (job jobs.Drop t0 None None)) None ([]) ([])

abbrev p27 : List Entry
p27 = e27 ∷ p26

abbrev e28 : Entry
e28 = entry 1000 29 (Some 0) (kinds.Crash 0) None ([]) ([])

claim28 : Crashes s0 p27 e28
unfolding opened
claim28 = refl

abbrev p28 : List Entry
p28 = e28 ∷ p27

abbrev e29 : Entry
e29 = entry 1000 30 (Some 0) (kinds.Begin 11 (job jobs.Get t0 None None)) None ([]) ([])

abbrev p29 : List Entry
p29 = e29 ∷ p28

abbrev e30 : Entry
e30 = entry 1000 31 (Some 0) (kinds.Begin 12 (job jobs.Drop t0 None None)) None ([]) ([])

abbrev p30 : List Entry
p30 = e30 ∷ p29

abbrev e31 : Entry
e31 = entry 1000 32 (Some 0) (kinds.End 11 (outcomes.Got None None)) None ([]) ([])

claim31 : Makes s0 p30 ([]) ([]) None 0 false ([]) e31
unfolding opened
claim31 = refl

abbrev p31 : List Entry
p31 = e31 ∷ p30

abbrev e32 : Entry
e32 = entry 1000 33 (Some 0) (kinds.Bar 12 (need 1 1) t0) None ([]) ([])

claim32 : Makes s0 p31 ([]) ([]) None 0 false ([]) e32
unfolding opened
claim32 = refl

abbrev p32 : List Entry
p32 = e32 ∷ p31

abbrev e33 : Entry
e33 = entry 1000 34 (Some 0) (kinds.End 12 (outcomes.Refused (drops.Lacking (proof (need 1 1) ([]) ([]) ([])) ([])))) None ([]) ([])

claim33 : Makes s0 p32 ([]) ([]) None 0 false ([]) e33
unfolding opened
claim33 = refl

abbrev p33 : List Entry
p33 = e33 ∷ p32

abbrev e34 : Entry
e34 = entry 1000 35 (Some 0) (kinds.Begin 13 (job jobs.Drop t0 None None)) None ([]) ([])

abbrev p34 : List Entry
p34 = e34 ∷ p33

abbrev e35 : Entry
e35 = entry 601001 36 None (kinds.Wait 600001) None ([]) ([])

abbrev p35 : List Entry
p35 = e35 ∷ p34

abbrev e36 : Entry
e36 = entry 601001 37 (Some 0) (kinds.Bar 13 (need 1 1) t0) None ([]) ([])

claim36 : Makes s0 p35 ([]) ([]) None 0 false ([]) e36
unfolding opened
claim36 = refl

abbrev p36 : List Entry
p36 = e36 ∷ p35

abbrev e37 : Entry
e37 = entry 601001 38 (Some 0) (kinds.Begin 14 (job jobs.Drop t0 None None)) None ([]) ([])

abbrev p37 : List Entry
p37 = e37 ∷ p36

abbrev e38 : Entry
e38 = entry 601001 39 (Some 0) (kinds.Begin 15 (job jobs.Drop t0 None None)) None ([]) ([])

abbrev p38 : List Entry
p38 = e38 ∷ p37

abbrev e39 : Entry
e39 = entry 601001 40 (Some 0) (kinds.Begin 16 (job jobs.Drop t0 None None)) None ([]) ([])

abbrev p39 : List Entry
p39 = e39 ∷ p38

abbrev e40 : Entry
e40 = entry 601001 41 (Some 0) (kinds.End 13 (outcomes.Refused (drops.Lacking (proof (need 1 1) ([]) ([]) ([])) ([])))) None ([]) ([])

claim40 : Makes s0 p39 ([]) ([]) None 0 false ([]) e40
unfolding opened
claim40 = refl

abbrev p40 : List Entry
p40 = e40 ∷ p39

abbrev e41 : Entry
e41 = entry 601001 42 (Some 0) (kinds.Bar 14 (need 1 1) t0) None ([]) ([])

claim41 : Makes s0 p40 ([]) ([]) None 0 false ([]) e41
unfolding opened
claim41 = refl

abbrev p41 : List Entry
p41 = e41 ∷ p40

abbrev e42 : Entry
e42 = entry 601001 43 (Some 0) (kinds.End 14 (outcomes.Refused (drops.Lacking (proof (need 1 1) ([]) ([]) ([])) ([])))) None ([]) ([])

claim42 : Makes s0 p41 ([]) ([]) None 0 false ([]) e42
unfolding opened
claim42 = refl

abbrev p42 : List Entry
p42 = e42 ∷ p41

abbrev e43 : Entry
e43 = entry 601001 44 (Some 0) (kinds.Bar 15 (need 1 1) t0) None ([]) ([])

claim43 : Makes s0 p42 ([]) ([]) None 0 false ([]) e43
unfolding opened
claim43 = refl

abbrev p43 : List Entry
p43 = e43 ∷ p42

abbrev e44 : Entry
e44 = entry 601001 45 (Some 0) (kinds.End 15 (outcomes.Refused (drops.Lacking (proof (need 1 1) ([]) ([]) ([])) ([])))) None ([]) ([])

claim44 : Makes s0 p43 ([]) ([]) None 0 false ([]) e44
unfolding opened
claim44 = refl

abbrev p44 : List Entry
p44 = e44 ∷ p43

abbrev e45 : Entry
e45 = entry 601001 46 (Some 0) (kinds.Bar 16 (need 1 1) t0) None ([]) ([])

claim45 : Makes s0 p44 ([]) ([]) None 0 false ([]) e45
unfolding opened
claim45 = refl

abbrev p45 : List Entry
p45 = e45 ∷ p44

abbrev e46 : Entry
e46 = entry 601001 47 (Some 0) (kinds.End 16 (outcomes.Refused (drops.Lacking (proof (need 1 1) ([]) ([]) ([])) ([])))) None ([]) ([])

claim46 : Makes s0 p45 ([]) ([]) None 0 false ([]) e46
unfolding opened
claim46 = refl

abbrev p46 : List Entry
p46 = e46 ∷ p45

abbrev e47 : Entry
e47 = entry 601001 48 (Some 0) (kinds.Crash 0) None ([]) ([])

claim47 : Crashes s0 p46 e47
unfolding opened
claim47 = refl

abbrev p47 : List Entry
p47 = e47 ∷ p46

abbrev e48 : Entry
e48 = entry 601001 49 (Some 0) (kinds.Log (Of logs.Numcopies)) None ([]) (t4 ∷ [])

abbrev p48 : List Entry
p48 = e48 ∷ p47

abbrev e49 : Entry
e49 = entry 601001 50 (Some 0) (kinds.Fault calls.Commit by.Script) None ([]) ([])

abbrev p49 : List Entry
p49 = e49 ∷ p48

abbrev e50 : Entry
e50 = entry 601001 51 (Some 0) (kinds.Crash 0) None ([]) ([])

claim50 : Crashes s0 p49 e50
unfolding opened
claim50 = refl

abbrev p50 : List Entry
p50 = e50 ∷ p49

abbrev e51 : Entry
e51 = entry 601001 52 (Some 0) (kinds.Begin 17 (job jobs.Drop t0 None None)) None ([]) ([])

abbrev p51 : List Entry
p51 = e51 ∷ p50

abbrev e52 : Entry
e52 = entry 601001 53 (Some 0) (kinds.Bar 17 (need 3 1) t0) None ([]) ([])

claim52 : Makes s0 p51 ([]) ([]) None 0 false ([]) e52
unfolding opened
claim52 = refl

abbrev p52 : List Entry
p52 = e52 ∷ p51

abbrev e53 : Entry
e53 = entry 601001 54 (Some 0) (kinds.End 17 (outcomes.Refused (drops.Lacking (proof (need 3 1) ([]) ([]) ([])) ([])))) None ([]) ([])

claim53 : Makes s0 p52 ([]) ([]) None 0 false ([]) e53
unfolding opened
claim53 = refl

abbrev p53 : List Entry
p53 = e53 ∷ p52

abbrev e54 : Entry
e54 = entry 601001 55 (Some 0) (kinds.Gain by.Script 2 t5) None ([]) ([])

abbrev p54 : List Entry
p54 = e54 ∷ p53

abbrev e55 : Entry
e55 = entry 601001 56 (Some 0) (kinds.Log (Location t5)) None ([]) (t6 ∷ [])

abbrev p55 : List Entry
p55 = e55 ∷ p54

abbrev e56 : Entry
e56 = entry 601001 57 (Some 0) (kinds.Log (Location t0)) None ([]) (t7 ∷ [])

abbrev p56 : List Entry
p56 = e56 ∷ p55

abbrev e57 : Entry
e57 = entry 601001 58 (Some 0) (kinds.Crash 0) None ([]) ([])

claim57 : Crashes s0 p56 e57
unfolding opened
claim57 = refl

abbrev p57 : List Entry
p57 = e57 ∷ p56

abbrev e58 : Entry
e58 = entry 601001 59 (Some 0) (kinds.Begin 18 (job jobs.Drop t0 None None)) None ([]) ([])

abbrev p58 : List Entry
p58 = e58 ∷ p57

abbrev e59 : Entry
e59 = entry 601001 60 (Some 0) (kinds.Bar 18 (need 3 1) t0) None ([]) ([])

claim59 : Makes s0 p58 ([]) ([]) None 0 false ([]) e59
unfolding opened
claim59 = refl

abbrev p59 : List Entry
p59 = e59 ∷ p58

abbrev e60 : Entry
e60 = entry 601001 61 (Some 0) (kinds.End 18 (outcomes.Refused (drops.Lacking (proof (need 3 1) ([]) ([]) ([])) ([])))) None ([]) ([])

claim60 : Makes s0 p59 ([]) ([]) None 0 false ([]) e60
unfolding opened
claim60 = refl

abbrev p60 : List Entry
p60 = e60 ∷ p59
