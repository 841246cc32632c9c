-- What a step leaves of its repository's store is what the driver says of it.
use Rattle.std.proofs.Common.{◌≡◌, ◌≢◌, inl, inr, ℕ, Bool, true, false, List, [], ◌∷◌, ◌++◌, length, Option, Some, None, refl, sym, ap, ◌∙◌, subst}
use Rattle.std.specs.Prelude.{◌==◌, ◌&&◌, find, if◌then◌else◌, nat_le, nat_lt}
use Rattle.std.specs.Option.{option_and_then, option_map, option_map_or, option_or}
use Rattle.annex_base.specs.Lists.{Each, Member}
use Rattle.annex_base.specs.declared.kinds.Call.{Call}
use Rattle.run_data.specs.declared.entry.By.{By}
use Rattle.run_data.specs.declared.entry.EntryKind.{EntryKind}
use Rattle.run_data.specs.declared.entry.EntryKind.TheVariants.{Fault, Gain, Gone, Talk}
use Rattle.run_data.specs.declared.entry.FrameText.{FrameText}
use Rattle.run_data.specs.declared.entry.FrameText.TheVariants.{Bytes, Line}
use Rattle.run_data.specs.declared.entry.FrameView.{FrameView}
use Rattle.p2p_wire.specs.declared.message.Message.{Message}
use Rattle.p2p_wire.specs.declared.message.Message.TheVariants.{Valid}
use Rattle.p2p_wire.specs.Messages.{message_of}
use Rattle.object_store.specs.Stores.{Parts, with_at}
use Rattle.node_model.specs.Ends.{end_takes, frames}
use Rattle.node_model.specs.Found.{StepFound}
use Rattle.node_model.specs.Jobs.{GetsBytes, GetsWord, Phase, Work}
use Rattle.node_model.specs.Look.{Look, Effect, failed_in}
use Rattle.node_model.specs.Sessions.{Doing, Takes, Took, line_in, message_said}
use Rattle.node_model.specs.SessionStep.{Reply, here, on_frame}
use Rattle.node_model.specs.SetUp.{SetUp}
use Rattle.node_model.specs.Slots.{job_of}
use Rattle.node_model.specs.State.{State}
use Rattle.node_model.specs.Step.{step}
use Rattle.driver_model.specs.Driver.{Driver, drops_part, end_to, part_at, puts_part}
use Rattle.driver_model.specs.Turning.{asked_key, filled_key, is_failure, is_valid, put_key, session_key, step_key, store_after, takes_frame, takes_into, work_key}
use Rattle.content_lock.specs.CallsMade.{fewer}
use Rattle.p2p_server.specs.Answers.{contents_after}
use Rattle.node_sessions.specs.Stored.{is_verdict, parts_after_frame}
use Rattle.p2p_server.specs.Talking.{parts_after_valid}
use Rattle.run_laws.specs.Jobs.{AreJobs}
use Rattle.joined_nodes.specs.PartStored.{parts_after_got, parts_after_line, parts_after_work}
use Rattle.fleet_model.specs.StepStored.{parts_of_job, parts_of_session, parts_of_step, work_making}
use Rattle.fleet_model.specs.Stores.{IsStoreOf, IsTold}
use Rattle.joined_nodes.specs.Stored.{StoreView}
use Rattle.fleet_model.proofs.AnswersStored.{Appends, Fits, Leaves, Refuses, ReplyFits, Stays, Talks, frame_fits}
use Rattle.fleet_model.proofs.Failing.{answered, unanswered}
use Rattle.fleet_model.proofs.JobsStored.{Grows, HasSize, JobFits, JobTalks, Keeps, LeavesParts, Spends, StaysAt}
use Rattle.fleet_model.proofs.JobTakes.{IsHeard}
use Rattle.fleet_model.proofs.Logging.{none_fewer, same_store}
use Rattle.fleet_model.proofs.StepFinds.{Finds, IsGain, IsGot, gain_found, serves_no_job}
use Rattle.fleet_model.proofs.StepOrigins.{Answers, Hears, IsAnswer, Origin, TakesNone, origin_of}
use Rattle.fleet_model.proofs.StoreSteps.{committed_elsewhere, content_removed, dropped_elsewhere, part_committed, part_dropped, part_put, put_elsewhere, removed_elsewhere}
use Rattle.fleet_model.proofs.Working.{IsFit, found_by_number, making_is}

-- ---- the parts of a step

-- without a frame a job changes none, and no frame is one of a session
untaken : (o : Option Work) (bytes : List ℕ) (kind : EntryKind) (known : Option Parts) → option_map_or (λ (u : Work). parts_after_work u None bytes kind known) o known ≡ known
untaken None bytes kind known = refl
untaken (Some u) bytes kind known = refl

none_parts : (st : State) (m : Effect) (bytes : List ℕ) (kind : EntryKind) (known : Option Parts) → m.taken ≡ None → parts_of_step st m.taken bytes kind known ≡ known
none_parts st m bytes kind known taken = ap (λ (o : Option FrameView). parts_of_step st o bytes kind known) taken ∙ untaken (work_making st kind) bytes kind known

taken_parts : (st : State) (m : Effect) (f : FrameView) (bytes : List ℕ) (kind : EntryKind) (known : Option Parts) → m.taken ≡ Some f
    → parts_of_step st m.taken bytes kind known ≡ parts_of_step st (Some f) bytes kind known
taken_parts st m f bytes kind known taken = ap (λ (o : Option FrameView). parts_of_step st o bytes kind known) taken

-- a frame that came to a server, by an entry of no job
server_parts : (st : State) (f : FrameView) (bytes : List ℕ) (kind : EntryKind) (known : Option Parts) → f.up ≡ true → job_of kind ≡ None
    → parts_of_step st (Some f) bytes kind known ≡ parts_after_frame (st.sessions (end_to f)).doing f.body bytes kind known
server_parts st f bytes kind known up none =
    ap (λ (o : Option ℕ). option_map_or (λ (u : Work). parts_after_work u (Some f) bytes kind (parts_of_session st (Some f) bytes kind known))
    (option_and_then (λ (job : ℕ). find (λ (u : Work). u.number == job) st.works) o) (parts_of_session st (Some f) bytes kind known)) none
    ∙ ap (λ (b : Bool). if b then parts_after_frame (st.sessions (end_to f)).doing f.body bytes kind known else known) up

-- a frame that came to a client, by an entry of the job of this work
client_parts : (st : State) (u : Work) (f : FrameView) (bytes : List ℕ) (kind : EntryKind) (known : Option Parts) → f.up ≡ false → work_making st kind ≡ Some u
    → parts_of_step st (Some f) bytes kind known ≡ parts_after_got u.what.key u.phase f.body bytes kind known
client_parts st u f bytes kind known down making =
    ap (λ (b : Bool). parts_of_job st (Some f) bytes kind (if b then parts_after_frame (st.sessions (end_to f)).doing f.body bytes kind known else known)) down
    ∙ ap (λ (o : Option Work). option_map_or (λ (x : Work). parts_after_work x (Some f) bytes kind known) o known) making

-- a call that failed changed none
fault_stays : (doing : Doing) (body : FrameText) (call : Call) (by : By) → Stays doing body (Fault call by)
fault_stays (Takes key size left) (Bytes n) call by bytes known = refl
fault_stays (Took key size) (Line text) call by bytes known = go (is_verdict (message_of text))
  where
    go : (b : Bool) → (if b then known else known) ≡ known
    go true = refl
    go false = refl
fault_stays (Takes key size left) body call by bytes known = refl
fault_stays (Took key size) body call by bytes known = refl
fault_stays doing body call by bytes known = refl

fault_session : (st : State) (taken : Option FrameView) (bytes : List ℕ) (call : Call) (by : By) (known : Option Parts) → parts_of_session st taken bytes (Fault call by) known ≡ known
fault_session st None bytes call by known = refl
fault_session st (Some f) bytes call by known = go f.up
  where
    go : (b : Bool) → (if b then parts_after_frame (st.sessions (end_to f)).doing f.body bytes (Fault call by) known else known) ≡ known
    go true = fault_stays (st.sessions (end_to f)).doing f.body call by bytes known
    go false = refl

fault_line : (key : List ℕ) (body : FrameText) (call : Call) (by : By) (known : Option Parts) → parts_after_line key body (Fault call by) known ≡ known
fault_line key (Line text) call by known = go (is_verdict (message_of text))
  where
    go : (b : Bool) → (if b then known else known) ≡ known
    go true = refl
    go false = refl
fault_line key body call by known = refl

fault_got : (key : List ℕ) (phase : Phase) (body : FrameText) (bytes : List ℕ) (call : Call) (by : By) (known : Option Parts) → parts_after_got key phase body bytes (Fault call by) known ≡ known
fault_got key (GetsBytes peer start size left) (Bytes n) bytes call by known = refl
fault_got key (GetsBytes peer start size left) body bytes call by known = refl
fault_got key (GetsWord peer start size) body bytes call by known = fault_line key body call by known
fault_got key phase body bytes call by known = refl

fault_work : (o : Option Work) (taken : Option FrameView) (bytes : List ℕ) (call : Call) (by : By) (known : Option Parts) → option_map_or (λ (u : Work). parts_after_work u taken bytes (Fault call by) known) o known ≡ known
fault_work None taken bytes call by known = refl
fault_work (Some u) None bytes call by known = refl
fault_work (Some u) (Some f) bytes call by known = fault_got u.what.key u.phase f.body bytes call by known

fault_parts : (st : State) (taken : Option FrameView) (bytes : List ℕ) (call : Call) (by : By) (known : Option Parts) → parts_of_step st taken bytes (Fault call by) known ≡ known
fault_parts st taken bytes call by known =
    fault_work (work_making st (Fault call by)) taken bytes call by (parts_of_session st taken bytes (Fault call by) known) ∙ fault_session st taken bytes call by known

-- ---- what a session answered

answer_fits : (s : SetUp) (st : State) (k : Look) (f : FrameView) → ReplyFits (st.sessions (end_to f)).doing f.body (on_frame (here s st k (end_to f)) (st.sessions (end_to f)) f.body)
answer_fits s st k f = frame_fits (here s st k (end_to f)) (st.sessions (end_to f)) f.body

answer_taken : (s : SetUp) (st : State) (k : Look) (m : Effect) (f : FrameView) → IsAnswer s st k m f → m.taken ≡ Some f
answer_taken s st k m f x = ap (λ (y : Effect). y.taken) x.made

-- a kind by which the parts stay
abbrev IsQuiet : EntryKind → Type 0
IsQuiet (Talk job) = ⊥
IsQuiet (Gain by size key) = ⊥
IsQuiet (Fault call by) = ⊥
IsQuiet kind = Unit {0}

quiet_stays : (doing : Doing) (body : FrameText) (says : List FrameText) (kind : EntryKind) → IsQuiet kind → Fits doing body says kind → Stays doing body kind
quiet_stays doing body says (Talk job) quiet fits = absurd quiet
quiet_stays doing body says (Gain by size key) quiet fits = absurd quiet
quiet_stays doing body says (Fault call by) quiet fits = absurd quiet
quiet_stays doing body says kind quiet fits = fits

quiet_got : (u : Work) (body : FrameText) (sent : List FrameView) (kind : EntryKind) → IsQuiet kind → JobFits u body sent kind → StaysAt u body kind
quiet_got u body sent (Talk job) quiet fits = absurd quiet
quiet_got u body sent (Gain by size key) quiet fits = absurd quiet
quiet_got u body sent (Fault call by) quiet fits = absurd quiet
quiet_got u body sent kind quiet fits = fits

-- what a step took is of the size that its frame tells
abbrev IsSized : Effect → List ℕ → Type 0
IsSized m bytes = (f : FrameView) (n : ℕ) → m.taken ≡ Some f → f.body ≡ Bytes n → length bytes ≡ n

-- an entry by which a session answered is no job's
answers_no_job : (s : SetUp) (st : State) (k : Look) (m : Effect) (f : FrameView) (kind : EntryKind) → StepFound s st k m → IsAnswer s st k m f → m.kind ≡ kind → job_of kind ≡ None
answers_no_job s st k m f kind found x is = sym (ap job_of is) ∙ serves_no_job s st k m f found (answer_taken s st k m f x) x.up

quiet_parts : (s : SetUp) (st : State) (k : Look) (m : Effect) (kind : EntryKind) (bytes : List ℕ) (known : Option Parts) → StepFound s st k m → AreJobs st.works → IsSized m bytes → Origin s st k m → m.kind ≡ kind → IsQuiet kind
    → parts_of_step st m.taken bytes kind known ≡ known
quiet_parts s st k m kind bytes known found jobs sized (TakesNone none) is quiet = none_parts st m bytes kind known none
quiet_parts s st k m kind bytes known found jobs sized (Hears u f among x) is quiet =
    taken_parts st m f bytes kind known x.taken
    ∙ (client_parts st u f bytes kind known x.down (making_is st kind u jobs among (sym (ap job_of is) ∙ x.made))
    ∙ quiet_got u f.body m.sent kind quiet (subst (JobFits u f.body m.sent) is x.fits) bytes known (λ n body. sized f n x.taken body))
quiet_parts s st k m kind bytes known found jobs sized (Answers f x) is quiet =
    let doing : Doing = (st.sessions (end_to f)).doing in
    let reply : Reply = on_frame (here s st k (end_to f)) (st.sessions (end_to f)) f.body in
    let same : reply.kind ≡ kind = sym (ap (λ (y : Effect). y.kind) x.made) ∙ is in
    taken_parts st m f bytes kind known (answer_taken s st k m f x)
    ∙ (server_parts st f bytes kind known x.up (answers_no_job s st k m f kind found x is)
    ∙ quiet_stays doing f.body reply.says kind quiet (subst (Fits doing f.body reply.says) same (answer_fits s st k f)) bytes known)

-- ---- a talk

none_taken : (r : ℕ) (bytes : List ℕ) (key : Option (List ℕ)) (sent : List FrameView) (d : Driver) → takes_frame r bytes key None sent d ≡ d
none_taken r bytes None sent d = refl
none_taken r bytes (Some key) sent d = refl

left_taken : (r : ℕ) (bytes : List ℕ) (key : Option (List ℕ)) (f : FrameView) (sent : List FrameView) (d : Driver) → LeavesParts f.body sent → takes_frame r bytes key (Some f) sent d ≡ d
left_taken r bytes None f sent d leaves = refl
left_taken r bytes (Some key) f sent d leaves = leaves r key bytes d

-- the session's key is asked for
session_asks : (st : State) (m : Effect) (f : FrameView) (job : Option ℕ) (o : Option Message) (doing : Doing) → m.kind ≡ Talk job → job ≡ None → m.taken ≡ Some f
    → line_in f.body ≡ o → (st.sessions (end_to f)).doing ≡ doing → asked_key st m ≡ option_or (put_key o) (filled_key doing)
session_asks st m f job o doing kind no_job taken told does =
    ap (λ (y : Option ℕ). step_key st y m.taken) (ap job_of kind ∙ no_job)
    ∙ (ap (λ (y : Option FrameView). session_key st y) taken
    ∙ (ap (λ (y : Option Message). option_or (put_key y) (filled_key (st.sessions (end_to f)).doing)) told ∙ ap (λ (y : Doing). option_or (put_key o) (filled_key y)) does))

-- the part that the store tells is the driver's, and grows with it
told_more : (known : Option Parts) (d : Driver) (r : ℕ) (key bytes : List ℕ) → IsTold known (λ p. (k : List ℕ) → p k ≡ part_at d r k)
    → option_map (λ p. with_at p key (p key ++ bytes)) known ≡ option_map (λ p. with_at p key (part_at d r key ++ bytes)) known
told_more None d r key bytes told = absurd told
told_more (Some p) d r key bytes told = ap (λ (x : List ℕ). Some (with_at p key (x ++ bytes))) (told key)

-- an entry by which the driver's store stays, and the store too
stays_stored : (d d' : Driver) (r : ℕ) (v w : StoreView) → IsStoreOf d r v → d' ≡ d → w.contents ≡ v.contents → w.parts ≡ v.parts → w.failing ≡ v.failing → IsStoreOf d' r w
stays_stored d d' r v w is same contents parts failing =
    subst (λ (x : Driver). IsStoreOf x r w) (sym same) (same_store d r v w is (record { contents = contents; parts = parts }) failing)

module _ (s : SetUp) (st : State) (k : Look) (m : Effect) (d : Driver) (r : ℕ) (bytes : List ℕ) (v w : StoreView) (is : IsStoreOf d r v) where
  answered_talk : (f : FrameView) (x : IsAnswer s st k m f) (says : List FrameText) (job : Option ℕ) → m.kind ≡ Talk job
      → m.sent ≡ frames (end_to f) (end_takes (st.ends (end_to f)) f.epoch f.body) says → Talks (st.sessions (end_to f)).doing f.body says job
      → w.contents ≡ v.contents → w.parts ≡ parts_after_frame (st.sessions (end_to f)).doing f.body bytes (Talk job) v.parts → w.failing ≡ v.failing
      → IsStoreOf (takes_frame r bytes (asked_key st m) m.taken m.sent d) r w
  answered_talk f x says job kind sent (Leaves stays leaves) contents parts failing =
      stays_stored d (takes_frame r bytes (asked_key st m) m.taken m.sent d) r v w is
      (ap (λ (o : Option FrameView). takes_frame r bytes (asked_key st m) o m.sent d) (answer_taken s st k m f x) ∙ left_taken r bytes (asked_key st m) f m.sent d (leaves m.sent))
      contents (parts ∙ stays bytes v.parts) failing
  answered_talk f x says job kind sent (Appends key size left n no_job does body none) contents parts failing =
      let taken : m.taken ≡ Some f = answer_taken s st k m f x in
      let asks : asked_key st m ≡ Some key = session_asks st m f job None (Takes key size left) kind no_job taken (ap line_in body) does in
      let silent : m.sent ≡ [] = sent ∙ ap (frames (end_to f) (end_takes (st.ends (end_to f)) f.epoch f.body)) none in
      let puts : takes_frame r bytes (asked_key st m) m.taken m.sent d ≡ puts_part r key (part_at d r key ++ bytes) d =
      ap (λ (o : Option (List ℕ)). takes_frame r bytes o m.taken m.sent d) asks
      ∙ (ap (λ (o : Option FrameView). takes_frame r bytes (Some key) o m.sent d) taken
      ∙ (ap (λ (fs : List FrameView). takes_into r key bytes f.body fs d) silent ∙ ap (λ (b : FrameText). takes_into r key bytes b [] d) body)) in
      let grows : w.parts ≡ option_map (λ p. with_at p key (part_at d r key ++ bytes)) v.parts =
      parts ∙ (ap (λ (x : Doing). parts_after_frame x f.body bytes (Talk job) v.parts) does
      ∙ (ap (λ (b : FrameText). parts_after_frame (Takes key size left) b bytes (Talk job) v.parts) body ∙ told_more v.parts d r key bytes is.parts)) in
      subst (λ (y : Driver). IsStoreOf y r w) (sym puts) (part_put d r key (part_at d r key ++ bytes) v w is contents grows failing)
  answered_talk f x says job kind sent (Refuses key size text no_job does body told says_is) contents parts failing =
      let taken : m.taken ≡ Some f = answer_taken s st k m f x in
      let word : line_in f.body ≡ Some Valid = ap line_in body ∙ told in
      let asks : asked_key st m ≡ Some key = session_asks st m f job (Some Valid) (Took key size) kind no_job taken word does in
      let refused : is_failure (message_said m.sent) ≡ true =
      ap (λ (fs : List FrameView). is_failure (message_said fs)) (sent ∙ ap (frames (end_to f) (end_takes (st.ends (end_to f)) f.epoch f.body)) says_is) in
      let drops : takes_frame r bytes (asked_key st m) m.taken m.sent d ≡ drops_part r key d =
      ap (λ (o : Option (List ℕ)). takes_frame r bytes o m.taken m.sent d) asks
      ∙ (ap (λ (o : Option FrameView). takes_frame r bytes (Some key) o m.sent d) taken
      ∙ (ap (λ (b : FrameText). takes_into r key bytes b m.sent d) body
      ∙ (ap (λ (o : Option Message). if is_valid o then (if is_failure (message_said m.sent) then drops_part r key d else d) else d) told
      ∙ ap (λ (b : Bool). if b then drops_part r key d else d) refused))) in
      let empties : w.parts ≡ option_map (λ p. with_at p key []) v.parts =
      parts ∙ (ap (λ (x : Doing). parts_after_frame x f.body bytes (Talk job) v.parts) does
      ∙ (ap (λ (b : FrameText). parts_after_frame (Took key size) b bytes (Talk job) v.parts) body
      ∙ ap (λ (o : Option Message). if is_verdict o then parts_after_valid key (Talk job) v.parts else v.parts) told)) in
      subst (λ (y : Driver). IsStoreOf y r w) (sym drops) (part_dropped d r key v w is contents empties failing)

  -- the job's key is asked for
  job_asks : (u : Work) → AreJobs st.works → Member u st.works → job_of m.kind ≡ Some u.number → asked_key st m ≡ Some u.what.key
  job_asks u jobs among made = ap (λ (o : Option ℕ). step_key st o m.taken) made ∙ ap work_key (found_by_number st.works u jobs among)

  heard_talk : (u : Work) (f : FrameView) (x : IsHeard u m f) (job : Option ℕ) → asked_key st m ≡ Some u.what.key → HasSize f.body bytes → JobTalks u f.body m.sent job
      → w.contents ≡ v.contents → w.parts ≡ parts_after_got u.what.key u.phase f.body bytes (Talk job) v.parts → w.failing ≡ v.failing
      → IsStoreOf (takes_frame r bytes (asked_key st m) m.taken m.sent d) r w
  heard_talk u f x job asks sized (Keeps stays leaves) contents parts failing =
      stays_stored d (takes_frame r bytes (asked_key st m) m.taken m.sent d) r v w is
      (ap (λ (o : Option FrameView). takes_frame r bytes (asked_key st m) o m.sent d) x.taken ∙ left_taken r bytes (asked_key st m) f m.sent d leaves)
      contents (parts ∙ stays bytes v.parts sized) failing
  heard_talk u f x job asks sized (Grows peer start size left n phase body awaited none) contents parts failing =
      let key : List ℕ = u.what.key in
      let puts : takes_frame r bytes (asked_key st m) m.taken m.sent d ≡ puts_part r key (part_at d r key ++ bytes) d =
      ap (λ (o : Option (List ℕ)). takes_frame r bytes o m.taken m.sent d) asks
      ∙ (ap (λ (o : Option FrameView). takes_frame r bytes (Some key) o m.sent d) x.taken
      ∙ (ap (λ (fs : List FrameView). takes_into r key bytes f.body fs d) none ∙ ap (λ (b : FrameText). takes_into r key bytes b [] d) body)) in
      let grown : Option Parts = option_map (λ (p : Parts). with_at p key (p key ++ bytes)) v.parts in
      let grows : w.parts ≡ option_map (λ p. with_at p key (part_at d r key ++ bytes)) v.parts =
      parts ∙ (ap (λ (y : Phase). parts_after_got key y f.body bytes (Talk job) v.parts) phase
      ∙ (ap (λ (b : FrameText). parts_after_got key (GetsBytes peer start size left) b bytes (Talk job) v.parts) body
      ∙ (ap (λ (count : ℕ). if nat_lt 0 count && nat_le count left then grown else v.parts) (sized n body)
      ∙ (ap (λ (b : Bool). if b then grown else v.parts) awaited ∙ told_more v.parts d r key bytes is.parts)))) in
      subst (λ (y : Driver). IsStoreOf y r w) (sym puts) (part_put d r key (part_at d r key ++ bytes) v w is contents grows failing)
  heard_talk u f x job asks sized (Spends peer start size text phase body told refused) contents parts failing =
      let key : List ℕ = u.what.key in
      let drops : takes_frame r bytes (asked_key st m) m.taken m.sent d ≡ drops_part r key d =
      ap (λ (o : Option (List ℕ)). takes_frame r bytes o m.taken m.sent d) asks
      ∙ (ap (λ (o : Option FrameView). takes_frame r bytes (Some key) o m.sent d) x.taken
      ∙ (ap (λ (b : FrameText). takes_into r key bytes b m.sent d) body
      ∙ (ap (λ (o : Option Message). if is_valid o then (if is_failure (message_said m.sent) then drops_part r key d else d) else d) told
      ∙ ap (λ (b : Bool). if b then drops_part r key d else d) refused))) in
      let empties : w.parts ≡ option_map (λ p. with_at p key []) v.parts =
      parts ∙ (ap (λ (y : Phase). parts_after_got key y f.body bytes (Talk job) v.parts) phase
      ∙ (ap (λ (b : FrameText). parts_after_got key (GetsWord peer start size) b bytes (Talk job) v.parts) body
      ∙ ap (λ (o : Option Message). if is_verdict o then parts_after_valid key (Talk job) v.parts else v.parts) told)) in
      subst (λ (y : Driver). IsStoreOf y r w) (sym drops) (part_dropped d r key v w is contents empties failing)

  talk_stored : (job : Option ℕ) → StepFound s st k m → AreJobs st.works → IsSized m bytes → Origin s st k m → m.kind ≡ Talk job → w.contents ≡ v.contents → w.parts ≡ parts_of_step st m.taken bytes (Talk job) v.parts → w.failing ≡ v.failing
      → IsStoreOf (takes_frame r bytes (asked_key st m) m.taken m.sent d) r w
  talk_stored job found jobs sized (TakesNone none) kind contents parts failing =
      stays_stored d (takes_frame r bytes (asked_key st m) m.taken m.sent d) r v w is
      (ap (λ (o : Option FrameView). takes_frame r bytes (asked_key st m) o m.sent d) none ∙ none_taken r bytes (asked_key st m) m.sent d)
      contents (parts ∙ none_parts st m bytes (Talk job) v.parts none) failing
  talk_stored job found jobs sized (Hears u f among x) kind contents parts failing =
      heard_talk u f x job (job_asks u jobs among x.made) (λ n body. sized f n x.taken body) (subst (JobFits u f.body m.sent) kind x.fits) contents
      (parts ∙ (taken_parts st m f bytes (Talk job) v.parts x.taken
      ∙ client_parts st u f bytes (Talk job) v.parts x.down (making_is st (Talk job) u jobs among (sym (ap job_of kind) ∙ x.made)))) failing
  talk_stored job found jobs sized (Answers f x) kind contents parts failing =
      let doing : Doing = (st.sessions (end_to f)).doing in
      let reply : Reply = on_frame (here s st k (end_to f)) (st.sessions (end_to f)) f.body in
      let same : reply.kind ≡ Talk job = sym (ap (λ (y : Effect). y.kind) x.made) ∙ kind in
      answered_talk f x reply.says job kind (ap (λ (y : Effect). y.sent) x.made) (subst (Fits doing f.body reply.says) same (answer_fits s st k f))
      contents (parts ∙ (taken_parts st m f bytes (Talk job) v.parts (answer_taken s st k m f x)
      ∙ server_parts st f bytes (Talk job) v.parts x.up (answers_no_job s st k m f (Talk job) found x kind))) failing

  -- ---- a gain

  served_parts : (by : By) (size : ℕ) (key : List ℕ) → StepFound s st k m → m.kind ≡ Gain by size key → IsGain st m size key → parts_of_step st m.taken bytes (Gain by size key) v.parts ≡ option_map (λ p. with_at p key []) v.parts
  served_parts by size key found same g =
      let kind : EntryKind = Gain by size key in
      taken_parts st m g.f bytes kind v.parts g.taken
      ∙ (server_parts st g.f bytes kind v.parts g.up (sym (ap job_of same) ∙ serves_no_job s st k m g.f found g.taken g.up)
      ∙ (ap (λ (x : Doing). parts_after_frame x g.f.body bytes kind v.parts) g.doing ∙ at g.f.body g.word))
    where
      at : (body : FrameText) → line_in body ≡ Some Valid → parts_after_frame (Took key size) body bytes (Gain by size key) v.parts ≡ option_map (λ p. with_at p key []) v.parts
      at (Line text) told = ap (λ (o : Option Message). if is_verdict o then parts_after_valid key (Gain by size key) v.parts else v.parts) told
      at body told = absurd (cc)

  got_parts : (by : By) (size : ℕ) (key : List ℕ) → AreJobs st.works → m.kind ≡ Gain by size key → IsGot st m key → parts_of_step st m.taken bytes (Gain by size key) v.parts ≡ option_map (λ p. with_at p key []) v.parts
  got_parts by size key jobs same g =
      let kind : EntryKind = Gain by size key in
      taken_parts st m g.f bytes kind v.parts g.taken
      ∙ (client_parts st g.w g.f bytes kind v.parts g.down (making_is st kind g.w jobs g.among (sym (ap job_of same) ∙ g.made))
      ∙ (ap (λ (x : Phase). parts_after_got g.w.what.key x g.f.body bytes kind v.parts) g.phase
      ∙ (at g.f.body g.word ∙ ap (λ (x : List ℕ). option_map (λ (p : Parts). with_at p x []) v.parts) g.key_is)))
    where
      at : (body : FrameText) → line_in body ≡ Some Valid → parts_after_line g.w.what.key body (Gain by size key) v.parts ≡ option_map (λ (p : Parts). with_at p g.w.what.key []) v.parts
      at (Line text) told = ap (λ (o : Option Message). if is_verdict o then parts_after_valid g.w.what.key (Gain by size key) v.parts else v.parts) told
      at body told = absurd (cc)

  gain_parts : (by : By) (size : ℕ) (key : List ℕ) → StepFound s st k m → AreJobs st.works → m.kind ≡ Gain by size key → parts_of_step st m.taken bytes (Gain by size key) v.parts ≡ option_map (λ p. with_at p key []) v.parts
  gain_parts by size key found jobs same = elim (gain_found s st k m by size key found same) [
    | inl g ↦ served_parts by size key found same g
    | inr g ↦ got_parts by size key jobs same g
  ]

-- ---- the step

pub step_stored : Finds → (s : SetUp) (st : State) (k : Look) (m : Effect) (d : Driver) (r : ℕ) (bytes : List ℕ) (v w : StoreView)
    → step s st k ≡ Some m → AreJobs st.works → Each IsFit st.works → ((f : FrameView) (n : ℕ) → m.taken ≡ Some f → f.body ≡ Bytes n → length bytes ≡ n) → IsStoreOf d r v
    → w.contents ≡ contents_after v.contents v.parts m.kind → w.parts ≡ parts_of_step st m.taken bytes m.kind v.parts → w.failing ≡ option_map (fewer (failed_in m.kind)) v.failing
    → IsStoreOf (store_after st r m bytes m.kind d) r w
step_stored laws s st k m d r bytes v w e jobs fit sized is = go m.kind refl
  where
    from : Origin s st k m
    from = origin_of s st k m fit e

    found : StepFound s st k m
    found = laws.found s st k m e

    go : (kind : EntryKind) → m.kind ≡ kind
        → w.contents ≡ contents_after v.contents v.parts kind → w.parts ≡ parts_of_step st m.taken bytes kind v.parts → w.failing ≡ option_map (fewer (failed_in kind)) v.failing
        → IsStoreOf (store_after st r m bytes kind d) r w
    go (Gain by size key) same contents parts failing =
        part_committed d r key v w is contents (parts ∙ gain_parts s st k m d r bytes v w is by size key found jobs same) (failing ∙ none_fewer v.failing)
    go (Gone by key) same contents parts failing =
        content_removed d r key v w is contents (parts ∙ quiet_parts s st k m (Gone by key) bytes v.parts found jobs sized from same tt) (failing ∙ none_fewer v.failing)
    go (Talk job) same contents parts failing = talk_stored s st k m d r bytes v w is job found jobs sized from same contents parts (failing ∙ none_fewer v.failing)
    go (Fault call by) same contents parts failing = answered d r call v w is contents (parts ∙ fault_parts st m.taken bytes call by v.parts) failing
    go kind same contents parts failing =
        same_store d r v w is (record { contents = contents; parts = parts ∙ quiet_parts s st k m kind bytes v.parts found jobs sized from same tt }) (failing ∙ none_fewer v.failing)

-- ---- the stores of others, and all else

-- the store of r alone may have changed: past, flights, tree and marks are as they were, and so are the stores of others
pub record ChangesStore (r : ℕ) (d d' : Driver) : Type 0 where
  pub past : d'.past ≡ d.past
  pub flights : d'.flights ≡ d.flights
  pub tree : d'.tree ≡ d.tree
  pub marks : d'.marks ≡ d.marks
  pub stores : (q : ℕ) (v : StoreView) → q ≢ r → IsStoreOf d q v → IsStoreOf d' q v

no_change : (r : ℕ) (d : Driver) → ChangesStore r d d
no_change r d = record { past = refl; flights = refl; tree = refl; marks = refl; stores = λ q v apart is. is }

either_changes : (r : ℕ) (b : Bool) (d x : Driver) → ChangesStore r d x → ChangesStore r d (if b then x else d)
either_changes r true d x change = change
either_changes r false d x change = no_change r d

drop_changes : (r : ℕ) (key : List ℕ) (d : Driver) → ChangesStore r d (drops_part r key d)
drop_changes r key d = record { past = refl; flights = refl; tree = refl; marks = refl; stores = λ q v apart is. dropped_elsewhere d r q key v apart is }

into_changes : (r : ℕ) (key bytes : List ℕ) (body : FrameText) (sent : List FrameView) (d : Driver) → ChangesStore r d (takes_into r key bytes body sent d)
into_changes r key bytes (Bytes n) [] d =
    record { past = refl; flights = refl; tree = refl; marks = refl; stores = λ q v apart is. put_elsewhere d r q key (part_at d r key ++ bytes) v apart is }
into_changes r key bytes (Bytes n) (f ∷ fs) d = no_change r d
into_changes r key bytes (Line text) sent d =
    either_changes r (is_valid (message_of text)) d (if is_failure (message_said sent) then drops_part r key d else d)
    (either_changes r (is_failure (message_said sent)) d (drops_part r key d) (drop_changes r key d))
into_changes r key bytes body sent d = no_change r d

frame_changes : (r : ℕ) (bytes : List ℕ) (key : Option (List ℕ)) (taken : Option FrameView) (sent : List FrameView) (d : Driver) → ChangesStore r d (takes_frame r bytes key taken sent d)
frame_changes r bytes (Some key) (Some f) sent d = into_changes r key bytes f.body sent d
frame_changes r bytes (Some key) None sent d = no_change r d
frame_changes r bytes None taken sent d = no_change r d

pub store_changes : (st : State) (r : ℕ) (m : Effect) (bytes : List ℕ) (kind : EntryKind) (d : Driver) → ChangesStore r d (store_after st r m bytes kind d)
store_changes st r m bytes (Gain by size key) d =
    record { past = refl; flights = refl; tree = refl; marks = refl; stores = λ q v apart is. committed_elsewhere d r q key v apart is }
store_changes st r m bytes (Gone by key) d =
    record { past = refl; flights = refl; tree = refl; marks = refl; stores = λ q v apart is. removed_elsewhere d r q key v apart is }
store_changes st r m bytes (Talk job) d = frame_changes r bytes (asked_key st m) m.taken m.sent d
store_changes st r m bytes (Fault call by) d =
    record { past = refl; flights = refl; tree = refl; marks = refl; stores = λ q v apart is. unanswered d r q call v apart is }
store_changes st r m bytes kind d = no_change r d
