-- Texts of jobs and entries of a run of the repositories a, b and c, worked out by hand (by computation).
use Rattle.std.specs.Prelude.{◌≡◌, refl, ℕ, true, false, List, [], ◌∷◌, ◌++◌, Option, Some, None, codes}
use Rattle.uuid.specs.Text.{by_index}
use Rattle.std.specs.Fmt.{digits}
use Rattle.annex_base.specs.declared.kinds.Found.TheVariants as finds
use Rattle.run_data.specs.declared.entry.By.TheVariants as bys
use Rattle.run_data.specs.declared.entry.Entry.{Entry}
use Rattle.run_data.specs.declared.entry.EntryKind.{EntryKind}
use Rattle.run_data.specs.declared.entry.EntryKind.TheVariants as kinds
use Rattle.run_data.specs.declared.job.Cause.TheVariants as causes
use Rattle.run_data.specs.declared.job.Denial.TheVariants as denials
use Rattle.run_data.specs.declared.job.DropRefusal.TheVariants as refusals
use Rattle.run_data.specs.declared.job.Job.{Job}
use Rattle.run_data.specs.declared.job.JobKind.{JobKind}
use Rattle.run_data.specs.declared.job.JobKind.TheVariants as jobs
use Rattle.run_data.specs.declared.job.Outcome.{Outcome}
use Rattle.run_data.specs.declared.job.Outcome.TheVariants as outcomes
use Rattle.run_data.specs.declared.job.Proof.{Proof}
use Rattle.run_data.specs.declared.job.SourceCause.{SourceCause}
use Rattle.run_data.specs.declared.job.SourceCause.TheVariants as sources
use Rattle.run_data.specs.declared.job.SourceFailure.{SourceFailure}
use Rattle.run_data.specs.declared.job.TransferRefusal.TheVariants as transfers
use Rattle.run_data.specs.declared.run.RepoView.{RepoView}
use Rattle.run_text.specs.Jobs.{job_text}
use Rattle.run_text.specs.Outcomes.{outcome_text}
use Rattle.journal_text.specs.Journal.{entry_text, journal_of}

unfoldable opened : Unit {0}
unfolding by_index digits
opened = tt

abbrev repo : List ℕ → ℕ → RepoView
repo name last = record { name = name; id = 0 ∷ 0 ∷ 0 ∷ 0 ∷ 0 ∷ 0 ∷ 64 ∷ 0 ∷ 128 ∷ 0 ∷ 0 ∷ 0 ∷ 0 ∷ 0 ∷ 0 ∷ last ∷ []; offset = 0; version = 3; locks = true }

abbrev repos : List RepoView
repos = repo (codes "a") 10 ∷ repo (codes "b") 11 ∷ repo (codes "c") 12 ∷ []

abbrev key : List ℕ
key = codes "WORM-s3--abc"

-- a job of a, by the path that named its key and by its peer
abbrev job : JobKind → Option (List ℕ) → Option ℕ → Job
job kind path peer = record { kind = kind; key = key; path = path; peer = peer }

abbrev proof : ℕ → ℕ → List ℕ → Proof
proof n m locked = record { need = record { n = n; m = m }; locked = locked; trusted = []; recent = [] }

abbrev failure : ℕ → SourceCause → SourceFailure
failure number cause = record { repo = number; cause = cause }

-- what the report says of it as it ends
abbrev line : Job → Outcome → List ℕ
line what outcome = job_text repos 0 what ++ outcome_text repos (Some what) outcome

abbrev entry : EntryKind → Entry
entry kind = record { time = 0; count = 5; repo = Some 0; kind = kind; taken = None; sent = []; lines = [] }

-- ---- a job that is done says how

dropped : line (job jobs.MoveTo None (Some 2)) (outcomes.Dropped (proof 3 2 (1 ∷ 2 ∷ []))) ≡ codes "move a WORM-s3--abc to c done need=3,2 locked=b,c trusted=- recent=-"
unfolding opened
dropped = refl

dropped_absent : line (job jobs.Drop None (Some 1)) (outcomes.DroppedAbsent (proof 0 1 (2 ∷ []))) ≡ codes "drop a WORM-s3--abc from b done absent need=0,1 locked=c trusted=- recent=-"
unfolding opened
dropped_absent = refl

got : line (job jobs.Get (Some (codes "photo.jpg")) (Some 1)) (outcomes.Got (Some 1) (Some 2)) ≡ codes "get a @photo.jpg from b done source=b start=2"
unfolding opened
got = refl

got_before : line (job jobs.Get (Some (codes "my photo.jpg")) None) (outcomes.Got None None) ≡ codes "get a \"@my photo.jpg\" done source=- start=-"
unfolding opened
got_before = refl

copied : line (job jobs.Copy None (Some 1)) (outcomes.Copied (Some 0)) ≡ codes "copy a WORM-s3--abc to b done start=0"
unfolding opened
copied = refl

copied_before : line (job jobs.Copy None (Some 1)) (outcomes.Copied None) ≡ codes "copy a WORM-s3--abc to b done start=-"
unfolding opened
copied_before = refl

-- ---- a drop that is refused says why

required : line (job jobs.Drop None None) (outcomes.Refused (refusals.Required (codes "include=*.mp3 or x"))) ≡ codes "drop a WORM-s3--abc refused 2 required include=*.mp3 or x"
unfolding opened
required = refl

held : line (job jobs.Drop None None) (outcomes.Refused (refusals.Held (Some 4000))) ≡ codes "drop a WORM-s3--abc refused 3 held until=4000"
unfolding opened
held = refl

lacking : line (job jobs.Drop None None) (outcomes.Refused (refusals.Lacking (proof 1 1 []) (record { repo = 1; cause = causes.Closed } ∷ []))) ≡ codes "drop a WORM-s3--abc refused 5 lacking need=1,1 locked=- trusted=- recent=- causes=b:closed"
unfolding opened
lacking = refl

denied_late : line (job jobs.Drop None None) (outcomes.Refused (refusals.Denied denials.Late)) ≡ codes "drop a WORM-s3--abc refused 7 denied late"
unfolding opened
denied_late = refl

denied_barred : line (job jobs.Drop None None) (outcomes.Refused (refusals.Denied denials.Barred)) ≡ codes "drop a WORM-s3--abc refused 7 denied barred"
unfolding opened
denied_barred = refl

denied_held : line (job jobs.Drop None None) (outcomes.Refused (refusals.Denied denials.Held)) ≡ codes "drop a WORM-s3--abc refused 7 denied held"
unfolding opened
denied_held = refl

denied_fault : line (job jobs.Drop None None) (outcomes.Refused (refusals.Denied denials.Fault)) ≡ codes "drop a WORM-s3--abc refused 7 denied fault"
unfolding opened
denied_fault = refl

lost_ordered : line (job jobs.Drop None None) (outcomes.Refused (refusals.Lost true)) ≡ codes "drop a WORM-s3--abc refused 8 lost ordered"
unfolding opened
lost_ordered = refl

lost_unordered : line (job jobs.Drop None None) (outcomes.Refused (refusals.Lost false)) ≡ codes "drop a WORM-s3--abc refused 8 lost unordered"
unfolding opened
lost_unordered = refl

old_protocol : line (job jobs.Drop None None) (outcomes.Refused (refusals.OldProtocol 2)) ≡ codes "drop a WORM-s3--abc refused 9 oldprotocol 2"
unfolding opened
old_protocol = refl

drop_crashed : line (job jobs.Drop None None) (outcomes.Refused refusals.Crashed) ≡ codes "drop a WORM-s3--abc refused 11 crashed"
unfolding opened
drop_crashed = refl

-- ---- a transfer that is refused says why; that of a move is named

not_here : line (job jobs.Copy None (Some 1)) (outcomes.TransferRefused transfers.NotHere) ≡ codes "copy a WORM-s3--abc to b refused 1 nothere"
unfolding opened
not_here = refl

no_source : line (job jobs.Get None None) (outcomes.TransferRefused (transfers.NoSource (failure 1 sources.Absent ∷ failure 2 sources.Closed ∷ failure 1 sources.Wrong ∷ failure 2 sources.Invalid ∷ []))) ≡ codes "get a WORM-s3--abc refused 2 nosource causes=b:absent,c:closed,b:wrong,c:invalid"
unfolding opened
no_source = refl

none_asked : line (job jobs.Get None (Some 2)) (outcomes.TransferRefused (transfers.NoSource [])) ≡ codes "get a WORM-s3--abc from c refused 2 nosource causes=-"
unfolding opened
none_asked = refl

busy : line (job jobs.MoveTo None (Some 1)) (outcomes.TransferRefused transfers.Busy) ≡ codes "move a WORM-s3--abc to b refused transfer 3 busy"
unfolding opened
busy = refl

closed : line (job jobs.MoveFrom None (Some 1)) (outcomes.TransferRefused transfers.Closed) ≡ codes "move a WORM-s3--abc from b refused transfer 4 closed"
unfolding opened
closed = refl

rejected : line (job jobs.Copy None (Some 2)) (outcomes.TransferRefused transfers.Rejected) ≡ codes "copy a WORM-s3--abc to c refused 5 rejected"
unfolding opened
rejected = refl

store_fault : line (job jobs.Get None (Some 1)) (outcomes.TransferRefused transfers.StoreFault) ≡ codes "get a WORM-s3--abc from b refused 6 storefault"
unfolding opened
store_fault = refl

crashed : line (job jobs.Get None (Some 1)) (outcomes.TransferRefused transfers.Crashed) ≡ codes "get a WORM-s3--abc from b refused 7 crashed"
unfolding opened
crashed = refl

-- ---- entries

begins : entry_text repos [] (entry (kinds.Begin 1 (job jobs.Drop None (Some 1)))) ≡ codes "0.5 a begin 1 drop a WORM-s3--abc from b\n"
unfolding opened
begins = refl

shares : entry_text repos [] (entry (kinds.Share 4 600000 (bys.Job 1) key)) ≡ codes "0.5 a share hold=4 end=600000 for=job:1 key=WORM-s3--abc\n"
unfolding opened
shares = refl

orders : entry_text repos [] (entry (kinds.Order 1 1 (Some 600) (record { n = 1; m = 1 }) key)) ≡ codes "0.5 a order 1 target=b deadline=600 need=1,1 key=WORM-s3--abc\n"
unfolding opened
orders = refl

orders_without_deadline : entry_text repos [] (entry (kinds.Order 1 1 None (record { n = 1; m = 1 }) key)) ≡ codes "0.5 a order 1 target=b deadline=- need=1,1 key=WORM-s3--abc\n"
unfolding opened
orders_without_deadline = refl

checks_late : entry_text repos [] (entry (kinds.Check finds.Late key)) ≡ codes "0.5 a check found=late key=WORM-s3--abc\n"
unfolding opened
checks_late = refl

gone_by_peer : entry_text repos [] (entry (kinds.Gone (bys.Peer 1 0) key)) ≡ codes "0.5 a gone by=peer:b.0 key=WORM-s3--abc\n"
unfolding opened
gone_by_peer = refl

server_closes : entry_text repos [] (entry (kinds.Close 1 0 false)) ≡ codes "0.5 a close peer=b slot=0 side=server\n"
unfolding opened
server_closes = refl

client_closes : entry_text repos [] (entry (kinds.Close 1 0 true)) ≡ codes "0.5 a close peer=b slot=0 side=client\n"
unfolding opened
client_closes = refl

crashes : entry_text repos [] (entry (kinds.Crash 250)) ≡ codes "0.5 a crash clock=250\n"
unfolding opened
crashes = refl

-- ---- a change of the tree

grown : journal_of repos (record { place = 10; path = codes "deep/er/f.jpeg"; key = key } ∷ []) [] ≡ codes "journal 0\nrepo a 00000000-0000-4000-8000-00000000000a offset=0 version=3 locks\nrepo b 00000000-0000-4000-8000-00000000000b offset=0 version=3 locks\nrepo c 00000000-0000-4000-8000-00000000000c offset=0 version=3 locks\npath 10 14 deep/er/f.jpeg WORM-s3--abc\n"
unfolding opened
grown = refl
