-- What a job does is the step of the parts.
use Rattle.std.proofs.Common.{◌≡◌, ◌⊎◌, inl, inr, ℕ, ◌<◌, ◌+◌, ◌*◌, Bool, true, false, List, [], Option, Some, None, is_some, length, refl, sym, ap, subst, ◌∙◌}
use Rattle.std.specs.Prelude.{All, bytes_eq, find, fold, not, ◌&&◌, ◌||◌, ◌==◌, if◌then◌else◌, option_and_then}
use Rattle.std.specs.Option.{ForSome, option_map, option_map_or, option_or, option_to_list}
use Rattle.std.proofs.lemmas.Bool.{cases_Bool, true≢false}
use Rattle.std.proofs.lemmas.Option.{same_Some}
use Rattle.std.proofs.Math.Bool.{and-false, and-true}
use Rattle.annex_base.specs.Lists.{Each}
use Rattle.annex_base.specs.Settings.{Settings}
use Rattle.annex_base.specs.declared.kinds.Call.{Call}
use Rattle.annex_base.specs.declared.kinds.EntryStamp.{EntryStamp}
use Rattle.annex_base.proofs.Lists.{Each-member}
use Rattle.annex_base.proofs.Options.{map_some, some_none}
use Rattle.run_data.specs.declared.entry.By.{By}
use Rattle.run_data.specs.declared.entry.By.TheVariants.{Job as by_job}
use Rattle.run_data.specs.declared.entry.Entry.{Entry}
use Rattle.run_data.specs.declared.entry.EntryKind.{EntryKind}
use Rattle.run_data.specs.declared.entry.EntryKind.TheVariants as kinds
use Rattle.run_data.specs.declared.entry.FrameView.{FrameView}
use Rattle.run_data.specs.declared.row.Hold.{Hold}
use Rattle.object_store.specs.Stores.{Contents, Parts as StoredParts, contents_after_commit, with_at}
use Rattle.trust_groups.specs.Settings.{Lines, settings}
use Rattle.content_lock.specs.Rows.{Rows, bar_at, is_filling}
use Rattle.content_lock.specs.Stored.{without_content}
use Rattle.content_lock.specs.Owners.{IsOwners}
use Rattle.content_lock.specs.Tokens.{Owns, ShareView}
use Rattle.link_ring.specs.Ends.{EndView}
use Rattle.node_model.specs.After.{read_after, state_after}
use Rattle.node_model.specs.Clocks.{ClockSet}
use Rattle.node_model.specs.Ends.{End, EndName, end_sends, end_took, sent_at, taken_at}
use Rattle.node_model.specs.Evidence as drops
use Rattle.node_model.specs.Evidence.{standing_by}
use Rattle.node_model.specs.Look.{Look, Effect, as_told, entry_of, failed_in}
use Rattle.node_model.specs.OwedLines.{told_frame}
use Rattle.node_model.specs.Rows.{bar_after, holds_after, same_owner}
use Rattle.node_model.specs.Sessions.{new_session, session_after}
use Rattle.node_model.specs.SessionStep.{session_step}
use Rattle.node_model.specs.SetUp.{SetUp}
use Rattle.node_model.specs.Slots.{job_by, job_of}
use Rattle.node_model.specs.State.{State}
use Rattle.node_model.specs.Turns.{job_step}
use Rattle.content_lock.specs.CallsMade.{MakesCalls, fewer}
use Rattle.node_ends.specs.Ends.{AreEnds, SeesEnds, end_at, link_at, room_at, wait_at}
use Rattle.node_ends.specs.Going.{AreAfter}
use Rattle.node_ends.specs.Joined.{StayPaired}
use Rattle.p2p_server.specs.declared.session.Session.{Session}
use Rattle.session_state.specs.Answers.{contents_after}
use Rattle.p2p_server.specs.Talking.{session_of, share_of}
use Rattle.node_sessions.specs.Sessions.{AreFilled, AreSessions, HaveEnds, OwnAll, AreAllFed as SessionsFed, fills_in, owner_of}
use Rattle.node_sessions.specs.Serving.{SeesPartAt}
use Rattle.node_sessions.specs.Stored.{parts_after_taken}
use Rattle.drop_phases.specs.Begun.{IsLast}
use Rattle.drop_phases.specs.Sides.{IsNumbered}
use Rattle.drop_phases.specs.Working.{end_in}
use Rattle.running_jobs.specs.Places.{IsPlace, PlaceView}
use Rattle.running_jobs.specs.Waiting.{taken_by}
use Rattle.job_frames.specs.Sending.{IsOwnEntry, SendsWell, TakesNoOpening}
use Rattle.transfer_turns.specs.Steps.{Seen}
use Rattle.running_jobs.specs.States.{HaveState}
use Rattle.running_jobs.specs.Task.{Task}
use Rattle.running_jobs.specs.TaskActing.{IsJudged, IsOnward, frames_in, parts_after}
use Rattle.running_jobs.specs.Tasks.{IsTask, OwnsOf, slot_of, work_now}
use Rattle.running_jobs.specs.Telling.{takes_in}
use Rattle.owed_lines.specs.declared.line.ToldLine.{ToldLine}
use Rattle.owed_lines.specs.Lines.{line_of}
use Rattle.running_jobs.specs.declared.acted.Acted.{Acted}
use Rattle.running_jobs.specs.Acting.{HasLockRoom, HasPart as HasPartActed, IsKindOf, SeesActed, SeesActedOf, SeesJobs, StepsJobs, SeesPartAt as JobSeesPartAt, failed_by as failed_by_acted, made_by, output_of}
use Rattle.running_jobs.specs.Leaving.{ActsOf, Leaves as LeavesJobs}
use Rattle.running_jobs.specs.Running.{AreWorks, Follows, IsOwn, Jobs, OwnAll as JobsOwn, fills_at, job_at, words_at}
use Rattle.node_parts.specs.declared.done.Done.{Done}
use Rattle.node_parts.specs.Jobs.{HearsSo, JobsGoOn}
use Rattle.node_parts.specs.Kinds.{IsQuiet}
use Rattle.node_parts.specs.declared.moment.Moment.{Moment}
use Rattle.node_parts.specs.Parts.{AreAllFed, AreParts, HasContents, HasLockRooms, PartsView}
use Rattle.node_parts.specs.Posting.{PostsPieces, stamp_of}
use Rattle.node_parts.specs.Sending.{PostsOnly, pieces_in}
use Rattle.node_parts.specs.Sound.{AreSound}
use Rattle.node_parts.specs.Steps.{Acts, HasPart, IsPartAsked, LeavesSo, OwesTold, SeesParts, Steps, WhereActed, job_acting, made_of, session_asked, words_heard}
use Rattle.node_parts.specs.Stored.{bytes_taken, contents_then, parts_after_work, parts_by_job, parts_then}
use Rattle.node_parts.proofs.Among.{found_among}
use Rattle.node_parts.proofs.Asked.{clients_ask_none}
use Rattle.node_parts.proofs.Filling.{FedStays, fills_of_sessions, for_jobs, for_sessions, of_no_job, session_among, sessions_fed}
use Rattle.node_parts.proofs.Gains.{FitsGain, IsSizeOf, NamesJob, OwnsEntry, of_task, own_entry, own_step}
use Rattle.node_parts.proofs.Going.{EndsGo, SessionsStay}
use Rattle.node_parts.proofs.Gotten.{parts_told}
use Rattle.node_parts.proofs.Hearing.{task_hears}
use Rattle.node_parts.proofs.Pieces.{job_pieces, own_pieces}
use Rattle.node_parts.proofs.Posts.{posts_at}
use Rattle.node_parts.proofs.Rooms.{RoomAfter, lock_rooms, rooms_acted}
use Rattle.node_parts.proofs.Served.{FillsLaw, table_fills}
use Rattle.node_parts.proofs.Sounding.{there_still}

-- ---- what laws say

abbrev pub NamelessAsked : Type 0
NamelessAsked = (lines : Lines) (key : List ℕ) → standing_by (settings lines) key [] ≡ drops.Asked

abbrev pub RoomThere : Type 0
RoomThere = (s : SetUp) (st : State) (k : Look) (jobs : Jobs) (m : Effect) → AreWorks s st jobs → Each (IsTask jobs.place) jobs.running → Each (HasLockRoom s st k) jobs.running → job_step s st k ≡ Some m
    → SendsWell (λ a. end_took (st.ends a) (taken_at a m.taken)) k.room m.sent

-- each other owner's share stays its own
abbrev pub SharesStay : Type 0
SharesStay = (owner by : By) (share : Option ShareView) (n : ℕ) (kind : EntryKind) (holds : List Hold) → IsOwners owner n kind → same_owner by owner ≡ false → All (λ h. h.number < n) holds → Owns by share holds → Owns by share (holds_after holds kind)

-- the laws that a job's step rests on
pub record Laws : Type 0 where
  pub asked : NamelessAsked
  pub room : RoomThere
  pub owns : OwnsEntry
  pub names : NamesJob
  pub fills : FillsLaw
  pub go : EndsGo
  pub stay : SessionsStay

-- ---- the kinds of its entries

abbrev pub IsOfJob : ℕ → EntryKind → Type 0
IsOfJob job kind = IsOnward job kind ⊎ IsLast job kind

pub kind_of : (a : Acted) → IsKindOf a.job a → IsOfJob a.job a.kind
kind_of a is = elim (cases_Bool a.ended) [
  | inl ended ↦ inr (is.1 ended)
  | inr on ↦ inl (is.0 on)
]

onward_quiet : (job : ℕ) (kind : EntryKind) → IsOnward job kind → IsQuiet kind
onward_quiet job (kinds.Gain source size key) h = record { begins = refl; crashes = λ clock e. subst (IsOnward job) e h; lines = λ path was added. refl }
onward_quiet job (kinds.Share hold end owner key) h = record { begins = refl; crashes = λ clock e. subst (IsOnward job) e h; lines = λ path was added. refl }
onward_quiet job (kinds.Bar j need key) h = record { begins = refl; crashes = λ clock e. subst (IsOnward job) e h; lines = λ path was added. refl }
onward_quiet job (kinds.Order j target deadline need key) h = record { begins = refl; crashes = λ clock e. subst (IsOnward job) e h; lines = λ path was added. refl }
onward_quiet job (kinds.Gone source key) h = record { begins = refl; crashes = λ clock e. subst (IsOnward job) e h; lines = λ path was added. refl }
onward_quiet job (kinds.Talk j) h = record { begins = refl; crashes = λ clock e. subst (IsOnward job) e h; lines = λ path was added. refl }
onward_quiet job (kinds.Fault call source) h = record { begins = refl; crashes = λ clock e. subst (IsOnward job) e h; lines = λ path was added. refl }
onward_quiet job kind h = absurd h

last_quiet : (job : ℕ) (kind : EntryKind) → IsLast job kind → IsQuiet kind
last_quiet job (kinds.End j outcome) h = record { begins = refl; crashes = λ clock e. subst (IsLast job) e h; lines = λ path was added. refl }
last_quiet job kind h = absurd h

pub kind_quiet : (job : ℕ) (kind : EntryKind) → IsOfJob job kind → IsQuiet kind
kind_quiet job kind (inl h) = onward_quiet job kind h
kind_quiet job kind (inr h) = last_quiet job kind h

onward_job : (job : ℕ) (kind : EntryKind) → IsOnward job kind → job_of kind ≡ Some job
onward_job job (kinds.Gain source size key) h = ap job_by h
onward_job job (kinds.Share hold end owner key) h = ap job_by h
onward_job job (kinds.Bar j need key) h = ap (λ (n : ℕ). Some n) h
onward_job job (kinds.Order j target deadline need key) h = ap (λ (n : ℕ). Some n) h
onward_job job (kinds.Gone source key) h = ap job_by h
onward_job job (kinds.Talk j) h = h
onward_job job (kinds.Fault call source) h = ap job_by h
onward_job job kind h = absurd h

last_job : (job : ℕ) (kind : EntryKind) → IsLast job kind → job_of kind ≡ Some job
last_job job (kinds.End j outcome) h = ap (λ (n : ℕ). Some n) h
last_job job kind h = absurd h

-- it is the job that makes it
pub kind_job : (job : ℕ) (kind : EntryKind) → IsOfJob job kind → job_of kind ≡ Some job
kind_job job kind (inl h) = onward_job job kind h
kind_job job kind (inr h) = last_job job kind h

-- ---- the contents after it

module _ (c : Contents) (s : SetUp) (st : State) (e : Entry) (has : HasContents c st) where
  abbrev After : EntryKind → Contents → Type 0
  After kind now = HasContents now (state_after s st (record e { kind = kind }))

  gone_present : (b : Bool) (o : Option (List ℕ)) (was : Bool) → is_some o ≡ was → is_some (if b then None else o) ≡ (was && not b)
  gone_present true o was is = sym (and-false was)
  gone_present false o was is = is ∙ sym (and-true was)

  gone_content : (b : Bool) (o : Option (List ℕ)) (was : Option ℕ) → option_map length o ≡ was → option_map length (if b then None else o) ≡ (if b then None else was)
  gone_content true o was is = refl
  gone_content false o was is = is

  or_true : (b : Bool) → true ≡ (b || true)
  or_true true = refl
  or_true false = refl

  or_false : (b : Bool) → b ≡ (b || false)
  or_false true = refl
  or_false false = refl

  gain_present : (b : Bool) (x : List ℕ) (o : Option (List ℕ)) (was : Bool) → is_some o ≡ was → is_some (if b then Some x else o) ≡ (was || b)
  gain_present true x o was is = or_true was
  gain_present false x o was is = is ∙ or_false was

  gain_content : (b : Bool) (x : List ℕ) (size : ℕ) (o : Option (List ℕ)) (was : Option ℕ) → size ≡ length x → option_map length o ≡ was → option_map length (if b then Some x else o) ≡ (if b then Some size else was)
  gain_content true x size o was fits is = ap (λ (n : ℕ). Some n) (sym fits)
  gain_content false x size o was fits is = is

  told_here : (kind : EntryKind) (now : Contents) → After kind now → ForSome (Some now) (After kind)
  told_here kind now after x is = subst (After kind) (same_Some now x is) after

  gain_contents : (source : By) (size : ℕ) (key : List ℕ) (parts : Option StoredParts) → IsSizeOf parts key size → ForSome (contents_after (Some c) parts (kinds.Gain source size key)) (After (kinds.Gain source size key))
  gain_contents source size key None fits = absurd fits
  gain_contents source size key (Some p) fits = told_here (kinds.Gain source size key) (with_at c key (Some (p key))) (record {
    present = λ other. gain_present (bytes_eq key other) (p key) (c other) (st.present other) (has.present other);
    content = λ other. gain_content (bytes_eq key other) (p key) size (c other) (st.content other) fits (has.content other);
  })

  onward_contents : (parts : Option StoredParts) (job : ℕ) (kind : EntryKind) → IsOnward job kind → FitsGain kind parts → ForSome (contents_after (Some c) parts kind) (After kind)
  onward_contents parts job (kinds.Gain source size key) h fits = gain_contents source size key parts fits
  onward_contents parts job (kinds.Share hold end owner key) h fits = told_here (kinds.Share hold end owner key) c (record { present = has.present; content = has.content })
  onward_contents parts job (kinds.Bar j need key) h fits = told_here (kinds.Bar j need key) c (record { present = has.present; content = has.content })
  onward_contents parts job (kinds.Order j target deadline need key) h fits = told_here (kinds.Order j target deadline need key) c (record { present = has.present; content = has.content })
  onward_contents parts job (kinds.Gone source place) h fits = told_here (kinds.Gone source place) (with_at c place None) (record {
    present = λ key. gone_present (bytes_eq place key) (c key) (st.present key) (has.present key);
    content = λ key. gone_content (bytes_eq place key) (c key) (st.content key) (has.content key);
  })
  onward_contents parts job (kinds.Talk j) h fits = told_here (kinds.Talk j) c (record { present = has.present; content = has.content })
  onward_contents parts job (kinds.Fault call source) h fits = told_here (kinds.Fault call source) c (record { present = has.present; content = has.content })
  onward_contents parts job kind h fits = absurd h

  last_contents : (parts : Option StoredParts) (job : ℕ) (kind : EntryKind) → IsLast job kind → ForSome (contents_after (Some c) parts kind) (After kind)
  last_contents parts job (kinds.End j outcome) h = told_here (kinds.End j outcome) c (record { present = has.present; content = has.content })
  last_contents parts job kind h = absurd h

  job_contents : (parts : Option StoredParts) (job : ℕ) (kind : EntryKind) → IsOfJob job kind → FitsGain kind parts → ForSome (contents_after (Some c) parts kind) (After kind)
  job_contents parts job kind (inl h) fits = onward_contents parts job kind h fits
  job_contents parts job kind (inr h) fits = last_contents parts job kind h

-- ---- a job's step

-- what is made of what a job does
pub record IsActed (was now : List EndView) (a : Acted) (d : Done) : Type 0 where
  pub kind : d.kind ≡ a.kind
  pub taken : d.taken ≡ taken_by was a.slot a.takes
  pub sent : TakesNoOpening d.taken → SendsWell (λ b. end_took (end_at was b) (taken_at b d.taken)) (room_at was) (frames_in was a.slot a.sent) → d.sent ≡ frames_in was a.slot a.sent
  pub after : AreAfter was now d.taken d.sent
  pub room : RoomAfter was now d.taken d.sent
  pub owes : d.owes ≡ a.owes

-- what the step of the jobs ensures, over a store with these contents
abbrev pub StepsThere : PartsView → Jobs → ClockSet → Settings → ℕ → ℕ → Option StoredParts → Contents → Option Acted → Type 0
StepsThere was now clock view time number known c o = (s : SetUp) (st : State) (k : Look) → SeesJobs was.links clock view was.jobs number time s st k → HaveState was.table c s st → SeesActed known was.links was.jobs k o
    → StepsJobs s st k was.links was.jobs now o

-- the job that acts
pub acting_is : (was : PartsView) (a : Acted) (d : Done) → d.kind ≡ a.kind → IsOfJob a.job a.kind → job_acting was d.kind ≡ job_at was.jobs.running a.job
acting_is was a d same kind = ap (option_and_then (job_at was.jobs.running)) (ap job_of same ∙ kind_job a.job a.kind kind)

-- a look that finds what a step's entry tells, what its job heard, and the part that it asks for
pub acted_seen : (known : Option StoredParts) (was : PartsView) (a : Acted) (d : Done) (k : Look) → d.kind ≡ a.kind → d.taken ≡ taken_by was.links a.slot a.takes → IsOfJob a.job a.kind → k.fails ≡ failed_in d.kind
    → IsPartAsked known was d.kind d.taken k.part k.right → k.words ≡ words_heard was (Some d) → SeesActedOf known was.links was.jobs k a
acted_seen known was a d k same taken kind fails asks words = record {
  fails = fails ∙ ap failed_in same;
  words = sym (words ∙ ap (λ (o : Option ℕ). option_map_or (words_at was.jobs.running) o (λ x. None)) (ap job_of same ∙ kind_job a.job a.kind kind));
  part = λ t at. subst (λ (o : Option FrameView). JobSeesPartAt known t o k.part k.right) taken (asks.acting t (acting_is was a d same kind ∙ at));
}

-- what an entry tells of an effect that is a job's own is its own
own_told : (m n : Effect) → as_told m ≡ n → IsOwnEntry m → IsOwnEntry n
own_told m n told own = subst IsOwnEntry told (record { kind = own.kind; lines = own.lines; opening = own.opening; clients = own.clients })

module _ (laws : Laws) (was now : PartsView) (clock : ClockSet) (view : Settings) (time number : ℕ) (c : Contents) (known : Option StoredParts) (sound : AreSound was)
    (s : SetUp) (st : State) (k : Look) (logs : st.logs ≡ view) (sees : SeesParts was c clock time number s st k) where
  sees_jobs : (room : EndName → Bool) → ((a : EndName) → is_some (link_at was.links a) ≡ true → room a ≡ room_at was.links a) → SeesJobs was.links clock view was.jobs number time s st (record k { room = room })
  sees_jobs room is = record {
    place = sees.parts.place;
    works = sees.parts.works;
    paths = sees.paths;
    count = sees.parts.ends.count;
    ends = sees.parts.each;
    sees = record { at_hand = sees.ends.at_hand; room = is };
    logs = logs;
    nameless = λ key. ap (λ (l : Settings). standing_by l key []) (sym logs ∙ sees.parts.logs) ∙ laws.asked st.lines key;
    ticks = sees.ticks;
    counts = sees.number;
    at = sym sees.time;
  }

  keeps : HaveState was.table c s st
  keeps = record {
    present = sees.stored.present;
    sizes = sees.stored.content;
    bar = sees.parts.bars;
    holds = sees.parts.holds;
    filled = λ key. table_fills laws.fills s st was key sound sees.parts;
  }

  pub steps_none : (contents : Option Contents) → StepsThere was now.jobs clock view time number known c None → now ≡ was → contents ≡ Some c → Steps job_step now contents s st k None
  steps_none contents step same told = record {
    made = (step s st k (sees_jobs k.room sees.ends.room) keeps (λ a is. absurd (some_none a (sym is)))).made;
    parts = subst (AreParts s st) (sym same) sees.parts;
    stored = subst (λ (o : Option Contents). ForSome o (λ x. HasContents x st)) (sym told) (λ x is. subst (λ (y : Contents). HasContents y st) (same_Some c x is) sees.stored);
  }

  -- what is so wherever the jobs see such a state is so where the parts do
  pub where_jobs : (P : Type 0) (o : Option Acted) → SeesActed known was.links was.jobs k o → (SeesJobs was.links clock view was.jobs number time s st k → HaveState was.table c s st → SeesActed known was.links was.jobs k o → P) → P
  where_jobs P o seen there = there (sees_jobs k.room sees.ends.room) keeps seen

  module _ (a : Acted) (d : Done) (step : StepsThere was now.jobs clock view time number known c (Some a)) (acted : IsActed was.links now.links a d) (kind : IsOfJob a.job a.kind)
      (k0 k1 : Seen) (tells : k0.contents ≡ Some c) (tells_parts : k0.parts ≡ known) (leaves : LeavesJobs was.links was.jobs now.jobs was.table now.table k0 k1 a) (still : now.sessions ≡ was.sessions) (owns_now : JobsOwn now.jobs now.table)
      (fails : k.fails ≡ failed_in d.kind) (asks : IsPartAsked known was d.kind d.taken k.part k.right) (words : k.words ≡ words_heard was (Some d)) where
    abbrev acts : ActsOf was.links was.jobs was.table now.table k0 k1 a
    acts = leaves.acts

    seen : SeesActed known was.links was.jobs k (Some a)
    seen x is = subst (SeesActedOf known was.links was.jobs k) (same_Some a x is) (acted_seen known was a d k acted.kind acted.taken kind fails asks words)

    -- at a look that finds just the room that there is, the same is seen
    seen_there : SeesActed known was.links was.jobs (record k { room = room_at was.links }) (Some a)
    seen_there x is = let it = seen x is in record { fails = it.fails; words = it.words; part = it.part }

    steps : StepsJobs s st k was.links was.jobs now.jobs (Some a)
    steps = step s st k (sees_jobs k.room sees.ends.room) keeps seen

    own : IsOwnEntry (made_by was.links a)
    own =
        let real = map_some (job_step s st k) as_told (made_by was.links a) steps.made in
        own_told real.0 (made_by was.links a) real.2 (own_entry laws.owns s st k real.0 real.1)

    there : SendsWell (λ b. end_took (st.ends b) (taken_at b (taken_by was.links a.slot a.takes))) (room_at was.links) (frames_in was.links a.slot a.sent)
    there =
        let roomy : Look = record k { room = room_at was.links } in
        let real = map_some (job_step s st roomy) as_told (made_by was.links a) (step s st roomy (sees_jobs (room_at was.links) (λ b is. refl)) keeps seen_there).made in
        subst (λ (m : Effect). SendsWell (λ b. end_took (st.ends b) (taken_at b m.taken)) (room_at was.links) m.sent) real.2
        (laws.room s st roomy was.jobs real.0 sees.parts.works sound.acting.tasks
        (lock_rooms s st k was.jobs.place was.links was.jobs.running sees.parts.place sees.parts.each sound.acting.tasks sees.parts.rooms) real.1)

    well : SendsWell (λ b. end_took (end_at was.links b) (taken_at b d.taken)) (room_at was.links) (frames_in was.links a.slot a.sent)
    well =
        subst (λ (ends : EndName → End). SendsWell (λ b. end_took (ends b) (taken_at b d.taken)) (room_at was.links) (frames_in was.links a.slot a.sent)) (λ i. λ b. sees.parts.each b i)
        (subst (λ (o : Option FrameView). SendsWell (λ b. end_took (st.ends b) (taken_at b o)) (room_at was.links) (frames_in was.links a.slot a.sent)) (sym acted.taken) there)

    sent : d.sent ≡ frames_in was.links a.slot a.sent
    sent = acted.sent (subst TakesNoOpening (sym acted.taken) own.opening) well

    same : made_of d ≡ made_by was.links a
    same = λ i. record { kind = acted.kind i; taken = acted.taken i; sent = sent i; lines = []; calls = [] }

    made : option_map as_told (job_step s st k) ≡ Some (made_of d)
    made = steps.made ∙ ap (λ (m : Effect). Some m) (sym same)

    abbrev e : Entry
    e = entry_of s.number k (made_of d)

    of_job : IsOfJob a.job d.kind
    of_job = subst (IsOfJob a.job) (sym acted.kind) kind

    -- what it adds to the logs
    logs_stay : (state_after s st e).logs ≡ st.logs
    logs_stay = (λ i. settings (λ path. (kind_quiet a.job d.kind of_job).lines path (st.lines path) [] i)) ∙ sym sees.parts.logs

    follows : Follows s st e (state_after s st e)
    follows = record {
      works = refl;
      begun = refl;
      logs = logs_stay;
      read = λ job. ap (λ (l : Settings). read_after l (st.read job) (find (λ w. w.number == job) st.works)) logs_stay;
    }

    works : AreWorks s (state_after s st e) now.jobs
    works = steps.works (state_after s st e) (subst (λ (m : Effect). Follows s st (entry_of s.number k m) (state_after s st e)) same follows)

    -- nothing comes or goes at a server's end
    clients : (b : EndName) → b.client ≡ false → (taken_at b d.taken ≡ None) × (sent_at b d.sent ≡ [])
    clients b server = subst (λ (m : Effect). (taken_at b m.taken ≡ None) × (sent_at b m.sent ≡ [])) (sym same) (own.clients b server)

    closed : (b : EndName) → b.client ≡ false → ((state_after s st e).ends b).opened ≡ false → (state_after s st e).sessions b ≡ new_session
    closed b server shut =
        let moves = clients b server in
        let session : (state_after s st e).sessions b ≡ st.sessions b = (λ i. session_after st.content d.kind (st.sessions b) (moves.1 i) (moves.0 i)) in
        let end : (state_after s st e).ends b ≡ st.ends b = (λ i. fold (λ (x : End) (f : FrameView). end_sends x f.body) (end_took (st.ends b) (moves.0 i)) (moves.1 i)) in
        session ∙ sees.parts.closed b server (ap (λ (x : End). x.opened) (sym end) ∙ shut)

    rooms : Each (HasLockRooms now.links was.jobs.place.number) now.jobs.running
    rooms = rooms_acted was.jobs.place was.links now.links was.jobs.running now.jobs.running a.job acts.job acts.next acts.told (output_of a) d.taken d.sent acted.after acted.room
        (subst TakesNoOpening (sym acted.taken) own.opening) (sent ∙ ap (λ (n : ℕ). frames_in was.links n a.sent) acts.slot) sound.acting.apart owns_now.apart acts.found leaves.jobs.onward leaves.jobs.off leaves.jobs.apart
        acts.hears acts.leaves.heard acts.leaves.locks acts.leaves.slot acts.leaves.what sees.parts.rooms

    parts : AreParts s (state_after s st e) now
    parts = record {
      place = subst (λ (p : PlaceView). IsPlace p s) (sym leaves.place) sees.parts.place;
      holds = leaves.table.after ∙ (λ i. holds_after (sees.parts.holds i) (sym acted.kind i));
      bars = λ key. leaves.table.bars key ∙ (λ i. bar_after key (sees.parts.bars key i) (sym acted.kind i));
      ends = laws.go was.links now.links s st e sees.parts.ends acted.after;
      each = λ b. ap (λ (x : End). fold (λ (y : End) (f : FrameView). end_sends y f.body) (end_took x (taken_at b d.taken)) (sent_at b d.sent)) (sees.parts.each b) ∙ sym (acted.after.ends b);
      sessions = subst (AreSessions s (state_after s st e).sessions) (sym still) (laws.stay s st e was.sessions sees.parts.sessions clients);
      closed = closed;
      works = works;
      rooms = subst (λ (p : PlaceView). Each (HasLockRooms now.links p.number) now.jobs.running) (sym leaves.place) rooms;
      logs = refl;
    }

    -- where a content came, its part has the size that the entry tells
    owns_it : OwnsOf was.table acts.job
    owns_it = (Each-member (IsOwn was.jobs.begun was.table) was.jobs.running acts.job sound.acting.owns (found_among was.jobs.running a.job acts.job acts.found)).owns

    fits : FitsGain a.kind known
    fits = go a.kind refl
      where
        real : (m : Effect) × (job_step s st k ≡ Some m) × (as_told m ≡ made_by was.links a)
        real = map_some (job_step s st k) as_told (made_by was.links a) steps.made

        kind_real : real.0.kind ≡ a.kind
        kind_real = ap (λ (m : Effect). m.kind) real.2

        part_seen : (f : FrameView) → real.0.taken ≡ Some f → JobSeesPartAt known acts.job (Some f) k.part k.right
        part_seen f takes =
            subst (λ (o : Option FrameView). JobSeesPartAt known acts.job o k.part k.right) (sym (ap (λ (m : Effect). m.taken) real.2) ∙ takes) ((seen a refl).part acts.job acts.found)

        go : (x : EntryKind) → a.kind ≡ x → FitsGain x known
        go (kinds.Gain by size key) is =
            of_task s st k was.table known by size key real.0 (kind_real ∙ is) acts.job (subst (λ (y : EntryKind). IsJudged y acts.job) is acts.leaves.judged) owns_it
            (own_step laws.names s st k was.jobs.running real.0 a.job acts.job sound.acting.apart sees.parts.works.works real.1 (ap job_of kind_real ∙ kind_job a.job a.kind kind) acts.found)
            part_seen
        go x is = tt

    contents_are : k1.contents ≡ contents_after (Some c) known d.kind
    contents_are = acts.leaves.contents ∙ (λ i. contents_after (tells i) (tells_parts i) (sym acted.kind i))

    stored : ForSome k1.contents (λ x. HasContents x (state_after s st e))
    stored = subst (λ (o : Option Contents). ForSome o (λ x. HasContents x (state_after s st e))) (sym contents_are)
        (job_contents c s st e sees.stored known a.job d.kind of_job (subst (λ (x : EntryKind). FitsGain x known) (sym acted.kind) fits))

    pub steps_some : Steps job_step now k1.contents s st k (Some d)
    steps_some = record { made = made; parts = parts; stored = stored }

-- ---- the step, of each state

pub acts_none : Laws → (was now : PartsView) (clock : ClockSet) (view : Settings) (time number : ℕ) (known : Option StoredParts) (told contents : Option Contents) → AreSound was
    → ForSome told (λ c. StepsThere was now.jobs clock view time number known c None) → now ≡ was → contents ≡ told → ForSome told (λ c. Acts was now c known contents clock view time number None)
acts_none laws was now clock view time number known told contents sound step stays same = λ c is s st k logs sees fails asks words.
    steps_none laws was now clock view time number c known sound s st k logs sees contents (step c is) stays (same ∙ is)

pub acts_some : Laws → (was now : PartsView) (clock : ClockSet) (view : Settings) (time number : ℕ) (k0 k1 : Seen) → AreSound was
    → (a : Acted) (d : Done) → ForSome k0.contents (λ c. StepsThere was now.jobs clock view time number k0.parts c (Some a)) → IsActed was.links now.links a d → IsOfJob a.job a.kind → LeavesJobs was.links was.jobs now.jobs was.table now.table k0 k1 a
    → now.sessions ≡ was.sessions → JobsOwn now.jobs now.table → ForSome k0.contents (λ c. Acts was now c k0.parts k1.contents clock view time number (Some d))
acts_some laws was now clock view time number k0 k1 sound a d step acted kind leaves still owns_now = λ c is s st k logs sees fails asks words.
    steps_some laws was now clock view time number c k0.parts sound s st k logs sees a d (step c is) acted kind k0 k1 is refl leaves still owns_now (fails d refl) (asks d refl) (words d refl)

-- ---- the calls of it

-- what a step of the jobs tells of its calls, over a store with these contents
abbrev pub CallsThere : PartsView → ClockSet → Settings → ℕ → ℕ → Option StoredParts → Contents → Option Acted → Option (Call → ℕ) → Option (Call → ℕ) → Type 0
CallsThere was clock view time number known c o before after = (s : SetUp) (st : State) (k : Look) → SeesJobs was.links clock view was.jobs number time s st k → HaveState was.table c s st → SeesActed known was.links was.jobs k o
    → ForSome (job_step s st k) (λ (m : Effect). MakesCalls m.calls (failed_by_acted o) before after)

pub calls_none : Laws → (was : PartsView) (clock : ClockSet) (view : Settings) (time number : ℕ) (known : Option StoredParts) (told : Option Contents) (before after : Option (Call → ℕ)) → AreSound was
    → ForSome told (λ c. CallsThere was clock view time number known c None before after)
    → ForSome told (λ c. WhereActed was c known clock view time number None (λ s st k. ForSome (job_step s st k) (λ (m : Effect). MakesCalls m.calls None before after)))
calls_none laws was clock view time number known told before after sound calls = λ c is s st k logs sees fails asks words.
    where_jobs laws was was clock view time number c known sound s st k logs sees (ForSome (job_step s st k) (λ (m : Effect). MakesCalls m.calls None before after)) None (λ a none. absurd (some_none a (sym none)))
    (λ there keeps seen. calls c is s st k there keeps seen)

pub calls_some : Laws → (was : PartsView) (clock : ClockSet) (view : Settings) (time number : ℕ) (known : Option StoredParts) (told : Option Contents) (before after : Option (Call → ℕ)) → AreSound was
    → (a : Acted) (d : Done) → d.kind ≡ a.kind → d.taken ≡ taken_by was.links a.slot a.takes → IsOfJob a.job a.kind → ForSome told (λ c. CallsThere was clock view time number known c (Some a) before after)
    → ForSome told (λ c. WhereActed was c known clock view time number (Some d) (λ s st k. ForSome (job_step s st k) (λ (m : Effect). MakesCalls m.calls (failed_in d.kind) before after)))
calls_some laws was clock view time number known told before after sound a d same taken kind calls = λ c is s st k logs sees fails asks words.
    where_jobs laws was was clock view time number c known sound s st k logs sees (ForSome (job_step s st k) (λ (m : Effect). MakesCalls m.calls (failed_in d.kind) before after)) (Some a)
    (λ x one. subst (SeesActedOf known was.links was.jobs k) (same_Some a x one) (acted_seen known was a d k same taken kind (fails d refl) (asks d refl) (words d refl)))
    (λ there keeps seen. subst (λ (x : EntryKind). ForSome (job_step s st k) (λ (m : Effect). MakesCalls m.calls (failed_in x) before after)) (sym same) (calls c is s st k there keeps seen))

-- ---- the part that it asks for

-- a frame that a job takes is that of the peer
took_there : (links : List EndView) (slot : ℕ) (takes : Option ℕ) (f : FrameView) → taken_by links slot takes ≡ Some f → (peer : ℕ) × (takes ≡ Some peer) × (wait_at links (end_in slot peer) ≡ Some f)
took_there links slot None f is = absurd cc
took_there links slot (Some peer) f is = (peer, refl, is)

-- a job takes frames at clients' ends alone
pub acted_asks : (links : List EndView) (xs : List Session) (slot : ℕ) (takes : Option ℕ) (taken : Option FrameView) → taken ≡ taken_by links slot takes → session_asked xs taken ≡ None
acted_asks links xs slot takes None is = refl
acted_asks links xs slot takes (Some f) is = let took = took_there links slot takes f (sym is) in clients_ask_none links xs (end_in slot took.0) f refl took.2

-- so there is an answer to what it asks
pub has_acted : (q : StoredParts) (was : PartsView) (a : Acted) (d : Done) → d.kind ≡ a.kind → d.taken ≡ taken_by was.links a.slot a.takes → IsOfJob a.job a.kind → HasPartActed (Some q) was.jobs was.links a → HasPart (Some q) was d.kind d.taken
has_acted q was a d same taken kind has = record {
  part = has.part;
  right = has.right;
  asked = record {
    serving = serves d.taken (acted_asks was.links was.sessions a.slot a.takes d.taken taken);
    acting = λ t at. subst (λ (o : Option FrameView). JobSeesPartAt (Some q) t o has.part has.right) (sym taken) (has.asked t (sym (acting_is was a d same kind) ∙ at));
  };
}
  where
    serves : (o : Option FrameView) → session_asked was.sessions o ≡ None → SeesPartAt (Some q) (session_asked was.sessions o) o has.part has.right
    serves o none = subst (λ (x : Option Session). SeesPartAt (Some q) x o has.part has.right) (sym none) tt

-- ---- what is left of the store

pub contents_acted : (was now : PartsView) (k0 k1 : Seen) (a : Acted) (d : Done) → d.kind ≡ a.kind → LeavesJobs was.links was.jobs now.jobs was.table now.table k0 k1 a → k1.contents ≡ contents_then k0.contents k0.parts (Some d)
contents_acted was now k0 k1 a d same leaves = leaves.acts.leaves.contents ∙ ap (contents_after k0.contents k0.parts) (sym same)

pub parts_acted : (was now : PartsView) (k0 k1 : Seen) (a : Acted) (d : Done) → AreSound was → IsActed was.links now.links a d → IsOfJob a.job a.kind → LeavesJobs was.links was.jobs now.jobs was.table now.table k0 k1 a → k1.parts ≡ parts_then was k0.parts (Some d)
parts_acted was now k0 k1 a d sound acted kind leaves =
    acts.leaves.parts
    ∙ (ap (λ (x : EntryKind). parts_after acts.job acts.told x k0.parts) (sym acted.kind)
    ∙ (parts_told was.links was.table acts.job acts.told d.kind k0.parts d.taken owns acts.hears taken
    ∙ (ap (λ (o : Option Task). option_map_or (λ (t : Task). parts_after_work (work_now t) d.taken (bytes_taken was.links d.taken) d.kind k0.parts) o k0.parts) (sym (acting_is was a d acted.kind kind ∙ acts.found))
    ∙ ap (parts_by_job was d) (sym by_session))))
  where
    acts : ActsOf was.links was.jobs was.table now.table k0 k1 a
    acts = leaves.acts

    owns : OwnsOf was.table acts.job
    owns = (Each-member (IsOwn was.jobs.begun was.table) was.jobs.running acts.job sound.acting.owns (found_among was.jobs.running a.job acts.job acts.found)).owns

    taken : d.taken ≡ taken_by was.links (slot_of acts.job) (takes_in acts.told)
    taken = acted.taken ∙ (λ i. taken_by was.links (acts.slot i) (acts.takes i))

    by_session : option_map_or (λ (y : Session). parts_after_taken (session_of y).doing d.taken (bytes_taken was.links d.taken) d.kind k0.parts) (session_asked was.sessions d.taken) k0.parts ≡ k0.parts
    by_session = ap (λ (x : Option Session). option_map_or (λ (y : Session). parts_after_taken (session_of y).doing d.taken (bytes_taken was.links d.taken) d.kind k0.parts) x k0.parts)
        (acted_asks was.links was.sessions a.slot a.takes d.taken acted.taken)

-- ---- what is left

pub leaves_acted : (number : ℕ) (was now : PartsView) (k0 k1 : Seen) (a : Acted) (d : Done) → IsActed was.links now.links a d → LeavesJobs was.links was.jobs now.jobs was.table now.table k0 k1 a
    → All (λ h. h.number < number + 1) now.table.holds → LeavesSo number was now (Some d)
leaves_acted number was now k0 k1 a d acted leaves numbers = record {
  holds = leaves.table.after ∙ ap (holds_after was.table.holds) (sym acted.kind);
  bars = λ key. leaves.table.bars key ∙ ap (bar_after key (bar_at was.table key)) (sym acted.kind);
  numbers = numbers;
  ends = acted.after;
}

pub quiet_acted : (was now : List EndView) (a : Acted) (d : Done) → IsActed was now a d → IsKindOf a.job a → IsQuiet d.kind
quiet_acted was now a d acted is = subst IsQuiet (sym acted.kind) (kind_quiet a.job a.kind (kind_of a is))

-- ---- what the jobs have heard

module _ (was now : PartsView) (k0 k1 : Seen) (a : Acted) (d : Done) (sound : AreSound was) (acted : IsActed was.links now.links a d) (kind : IsOfJob a.job a.kind)
    (leaves : LeavesJobs was.links was.jobs now.jobs was.table now.table k0 k1 a) where
  goes_on : is_some (job_at now.jobs.running a.job) ≡ true → job_at now.jobs.running a.job ≡ Some leaves.acts.next
  goes_on runs = elim (cases_Bool a.ended) [
    | inl ended ↦ absurd (true≢false (sym runs ∙ ap is_some (leaves.jobs.off ended)))
    | inr on ↦ leaves.jobs.onward on
  ]

  takes : d.taken ≡ taken_by was.links (slot_of leaves.acts.job) (takes_in leaves.acts.told)
  takes = acted.taken ∙ (λ i. taken_by was.links (leaves.acts.slot i) (leaves.acts.takes i))

  stands : IsTask was.jobs.place leaves.acts.job
  stands = Each-member (IsTask was.jobs.place) was.jobs.running leaves.acts.job sound.acting.tasks (found_among was.jobs.running a.job leaves.acts.job leaves.acts.found)

  hears : ForSome (job_at now.jobs.running a.job) (λ t'. ForSome (job_at was.jobs.running a.job) (λ t. HearsSo was.links d t t'))
  hears t' now_is t was_is =
      let one : leaves.acts.job ≡ t = same_Some leaves.acts.job t (sym leaves.acts.found ∙ was_is) in
      let other : leaves.acts.next ≡ t' = same_Some leaves.acts.next t' (sym (goes_on (ap is_some now_is)) ∙ now_is) in
      subst (λ (x : Task). HearsSo was.links d x t') one (subst (HearsSo was.links d leaves.acts.job) other
      (task_hears was.jobs.place was.links d leaves.acts.job leaves.acts.next leaves.acts.told stands leaves.acts.hears leaves.acts.leaves.heard takes leaves.acts.leaves.what))

  pub jobs_go_on : JobsGoOn was now d
  jobs_go_on = record {
    job = a.job;
    made = ap job_of acted.kind ∙ kind_job a.job a.kind kind;
    hears = hears;
    apart = leaves.jobs.apart;
    given = leaves.jobs.given;
  }

-- ---- what it sends

-- each piece that it sends is of the content that it is sending
pub posts_acted : (m : Moment) (own : ℕ) (stamp : EntryStamp) (was now : PartsView) (mid : List EndView) (k0 k1 : Seen) (a : Acted) (d : Done) (leaves : LeavesJobs was.links was.jobs now.jobs was.table now.table k0 k1 a) → AreSound was
    → stamp ≡ stamp_of m own → own ≡ was.jobs.place.number → mid ≡ was.links → PostsOnly (pieces_in a.slot a.sent) stamp d.kind mid now.links d.taken d.sent
    → PostsPieces (stamp_of m was.jobs.place.number) d.kind was k0.contents now.links d.taken d.sent
posts_acted m own stamp was now mid k0 k1 a d leaves sound is numbered same posts =
    job_pieces (stamp_of m was.jobs.place.number) d.kind was k0.contents now.links d.taken d.sent a.sent leaves.acts.job
    (subst (λ (slot : ℕ). PostsOnly (pieces_in slot a.sent) (stamp_of m was.jobs.place.number) d.kind was.links now.links d.taken d.sent) leaves.acts.slot
    (posts_at (pieces_in a.slot a.sent) m own was.jobs.place.number stamp was.links mid now.links d is numbered same posts))
    sound.acting.apart (found_among was.jobs.running a.job leaves.acts.job leaves.acts.found) (own_pieces k0.contents leaves.acts.job a.sent leaves.acts.leaves.pieces)

-- ---- what is owed since

pub owes_acted : (was now : PartsView) (k0 k1 : Seen) (a : Acted) (d : Done) → IsActed was.links now.links a d → IsOfJob a.job a.kind → LeavesJobs was.links was.jobs now.jobs was.table now.table k0 k1 a → OwesTold was d
owes_acted was now k0 k1 a d acted kind leaves =
    ap (λ (o : Option ToldLine). option_to_list (option_map line_of o)) acted.owes
    ∙ (leaves.acts.owes
    ∙ (ap (told_frame (Some (work_now leaves.acts.job))) (sym acted.taken)
    ∙ ap (λ (o : Option Task). told_frame (option_map work_now o) d.taken) (sym (acting_is was a d acted.kind kind ∙ leaves.acts.found))))

-- of a repository of the run
pub among_acted : (was now : PartsView) (k0 k1 : Seen) (a : Acted) (d : Done) → d.owes ≡ a.owes → LeavesJobs was.links was.jobs now.jobs was.table now.table k0 k1 a → ForSome d.owes (λ t. t.repo < length was.jobs.place.ids)
among_acted was now k0 k1 a d same leaves = subst (λ (o : Option ToldLine). ForSome o (λ t. t.repo < length was.jobs.place.ids)) (sym same) leaves.acts.among

-- ---- what is had of the table

-- an entry of the job's is one of this owner's
onward_owners : (job n : ℕ) (kind : EntryKind) → IsOnward job kind → IsNumbered n kind → IsOwners (by_job job) n kind
onward_owners job n (kinds.Share hold end owner key) h numbered = (h, numbered)
onward_owners job n (kinds.Fault call source) h numbered = h
onward_owners job n (kinds.Gain source size key) h numbered = tt
onward_owners job n (kinds.Bar j need key) h numbered = tt
onward_owners job n (kinds.Order j target deadline need key) h numbered = tt
onward_owners job n (kinds.Gone source key) h numbered = tt
onward_owners job n (kinds.Talk j) h numbered = tt
onward_owners job n kind h numbered = absurd h

last_owners : (job n : ℕ) (kind : EntryKind) → IsLast job kind → IsOwners (by_job job) n kind
last_owners job n (kinds.End j outcome) h = ap by_job h
last_owners job n kind h = absurd h

owners_of : (job n : ℕ) (kind : EntryKind) → IsOfJob job kind → IsNumbered n kind → IsOwners (by_job job) n kind
owners_of job n kind (inl h) numbered = onward_owners job n kind h numbered
owners_of job n kind (inr h) numbered = last_owners job n kind h

-- what each session has stays its own, by an entry of a job's, where the table fills their keys
serving_stay : SharesStay → (job n : ℕ) (kind : EntryKind) (was now : Rows) (xs : List Session) → IsOfJob job kind → IsNumbered n kind → All (λ h. h.number < n) was.holds → now.holds ≡ holds_after was.holds kind
    → ((key : List ℕ) → fills_in xs key ≡ true → is_filling now key ≡ true) → OwnAll was xs → OwnAll now xs
serving_stay law job n kind was now xs is numbered fresh holds fills own = record {
  shares = λ i x at. subst (Owns (owner_of x) (share_of x)) (sym holds) (law (by_job job) (owner_of x) (share_of x) n kind was.holds (owners_of job n kind is numbered) refl fresh (own.shares i x at));
  fills = λ i x at key is. fills key (session_among key xs i x at is);
  apart = own.apart;
}

pub sound_acted : SharesStay → (n : ℕ) (was now : PartsView) (k0 k1 : Seen) (a : Acted) → AreSound was → length now.links ≡ length was.links → StayPaired was.links now.links → now.sessions ≡ was.sessions → LeavesJobs was.links was.jobs now.jobs was.table now.table k0 k1 a
    → IsNumbered n a.kind → All (λ h. h.number < n) was.table.holds → JobsOwn now.jobs now.table → AreSound now
sound_acted law n was now k0 k1 a sound count paired still leaves numbered fresh own = record {
  count = count ∙ (sound.count ∙ ap (λ (p : PlaceView). length p.ids * 8) (sym leaves.place));
  there = subst (HaveEnds now.links) (sym still) (there_still was.links now.links was.sessions paired sound.there);
  serving = subst (OwnAll now.table) (sym still) (serving_stay law a.job n a.kind was.table now.table was.sessions (kind_of a leaves.kind) numbered fresh leaves.table.after (fills_of_sessions now.table was.sessions now.jobs.running filled) sound.serving);
  acting = own;
  filled = subst (λ (xs : List Session). AreFilled now.table xs (fills_at now.jobs.running)) (sym still) filled;
}
  where
    filled : AreFilled now.table was.sessions (fills_at now.jobs.running)
    filled = for_sessions now.table was.sessions now.jobs.running (leaves.table.filled (fills_in was.sessions) (for_jobs was.table was.sessions was.jobs.running sound.filled))

-- what the sessions and the jobs have taken is the store's still
pub fed_acted : FedStays → (was now : PartsView) (k0 k1 : Seen) (a : Acted) → AreSound was → now.sessions ≡ was.sessions → LeavesJobs was.links was.jobs now.jobs was.table now.table k0 k1 a
    → ForSome k0.parts (λ q. AreAllFed q was → ForSome k1.parts (λ q'. AreAllFed q' now))
fed_acted law was now k0 k1 a sound still leaves = λ q told fed q' told'. record {
  serving = subst (λ (xs : List Session). SessionsFed q' xs) (sym still) (sessions_fed law q q' was.sessions (λ key is. leaves.parts.same q told q' told' key (of_no_job was.table was.sessions was.jobs.running sound.filled key is)) fed.serving);
  acting = leaves.parts.fed q told fed.acting q' told';
}

-- ---- whether there is a step

module _ (p : PartsView) (c : Contents) (clock : ClockSet) (time number : ℕ) (s : SetUp) (st : State) (k : Look) (sees : SeesParts p c clock time number s st k) where
  first_some : (o other : Option Effect) → is_some o ≡ true → is_some (option_or o other) ≡ true
  first_some None other is = absurd (true≢false (sym is))
  first_some (Some m) other is = refl

  second_some : (o other : Option Effect) → is_some o ≡ false → is_some (option_or o other) ≡ is_some other
  second_some None other is = refl
  second_some (Some m) other is = absurd (true≢false is)

  pub session_ready : (AreEnds p.links s st → SeesEnds p.links s k → AreSessions s st.sessions p.sessions → is_some (session_step s st k) ≡ true) → is_some (option_or (session_step s st k) (job_step s st k)) ≡ true
  session_ready session = first_some (session_step s st k) (job_step s st k) (session sees.parts.ends sees.ends sees.parts.sessions)

  pub job_ready : NamelessAsked → FillsLaw → AreSound p → (ready : Bool) → (AreEnds p.links s st → SeesEnds p.links s k → AreSessions s st.sessions p.sessions → is_some (session_step s st k) ≡ false)
      → ((view : Settings) → SeesJobs p.links clock view p.jobs number time s st k → HaveState p.table c s st → is_some (job_step s st k) ≡ ready) → is_some (option_or (session_step s st k) (job_step s st k)) ≡ ready
  job_ready asked fills sound ready session job =
      second_some (session_step s st k) (job_step s st k) (session sees.parts.ends sees.ends sees.parts.sessions)
      ∙ job st.logs (record {
        place = sees.parts.place;
        works = sees.parts.works;
        paths = sees.paths;
        count = sees.parts.ends.count;
        ends = sees.parts.each;
        sees = sees.ends;
        logs = refl;
        nameless = λ key. ap (λ (l : Settings). standing_by l key []) sees.parts.logs ∙ asked st.lines key;
        ticks = sees.ticks;
        counts = sees.number;
        at = sym sees.time;
      }) (record {
        present = sees.stored.present;
        sizes = sees.stored.content;
        bar = sees.parts.bars;
        holds = sees.parts.holds;
        filled = λ key. table_fills fills s st p key sound sees.parts;
      })

-- ---- a store that tells

commit_told : (known : Option Contents) (parts : Option StoredParts) (key : List ℕ) → is_some parts ≡ true → is_some (contents_after_commit known parts key) ≡ is_some known
commit_told known None key told = absurd (true≢false (sym told))
commit_told None (Some p) key told = refl
commit_told (Some c) (Some p) key told = refl

removal_told : (known : Option Contents) (key : List ℕ) → is_some (without_content known key) ≡ is_some known
removal_told None key = refl
removal_told (Some c) key = refl

-- one that tells its parts goes on to tell its contents
told_after : (known : Option Contents) (parts : Option StoredParts) (kind : EntryKind) → is_some parts ≡ true → is_some (contents_after known parts kind) ≡ is_some known
told_after known known_parts (kinds.Gone source key) told = removal_told known key
told_after known known_parts (kinds.Gain source size key) told = commit_told known known_parts key told
told_after known known_parts kind told = refl

pub told_acted : (was now : PartsView) (k0 k1 : Seen) (a : Acted) → LeavesJobs was.links was.jobs now.jobs was.table now.table k0 k1 a → is_some k0.parts ≡ true → is_some k1.contents ≡ is_some k0.contents
told_acted was now k0 k1 a leaves told = ap is_some leaves.acts.leaves.contents ∙ told_after k0.contents k0.parts a.kind told

-- ---- where no job has a step

pub none_fails : (o : Option (Call → ℕ)) → o ≡ option_map (fewer None) o
none_fails None = refl
none_fails (Some f) = refl

pub fed_idle : (was now : PartsView) (known known' : Option StoredParts) → now ≡ was → known' ≡ known → ForSome known (λ q. AreAllFed q was → ForSome known' (λ q'. AreAllFed q' now))
fed_idle was now known known' same parts = λ q told fed q' told'.
    let one : q ≡ q' = same_Some q q' (sym told ∙ (sym parts ∙ told')) in subst (λ (p : PartsView). AreAllFed q' p) (sym same) (subst (λ (x : StoredParts). AreAllFed x was) one fed)
