-- The part that a step of a session or of a job asks for is the driver's.
use Rattle.std.proofs.Common.{◌≡◌, ◌↔◌, ℕ, Bool, true, List, Option, Some, None, length, refl, sym, ap, ◌∙◌, subst}
use Rattle.std.specs.Prelude.{◌==◌, IfSome, find, map}
use Rattle.std.specs.Option.{option_map, option_or}
use Rattle.run_data.specs.declared.entry.FrameText.{FrameText}
use Rattle.run_data.specs.declared.entry.FrameText.TheVariants.{Bytes, Closing, Line, Opening}
use Rattle.run_data.specs.declared.entry.FrameView.{FrameView}
use Rattle.p2p_wire.specs.declared.message.Message.{Message}
use Rattle.p2p_wire.specs.declared.message.Message.TheVariants.{Put, Valid}
use Rattle.p2p_wire.specs.Messages.{message_of}
use Rattle.object_store.specs.Stores.{Parts}
use Rattle.key_verify.specs.Matching.{MatchesKey}
use Rattle.content_lock.specs.Rows.{Rows, is_filling}
use Rattle.node_model.specs.Jobs.{Work}
use Rattle.node_model.specs.Look.{Look, Effect}
use Rattle.node_model.specs.Sessions as sessions
use Rattle.node_model.specs.Sessions.{line_in}
use Rattle.node_model.specs.SetUp.{SetUp}
use Rattle.node_model.specs.Slots.{job_of}
use Rattle.node_model.specs.State.{State}
use Rattle.node_model.specs.Step.{step}
use Rattle.p2p_server.specs.declared.Doing.{Doing}
use Rattle.p2p_server.specs.declared.Doing.TheVariants as doings
use Rattle.p2p_server.specs.declared.Taken.{Taken}
use Rattle.p2p_server.specs.declared.Incoming.{Incoming}
use Rattle.p2p_server.specs.declared.Incoming.TheVariants as incoming
use Rattle.p2p_server.specs.declared.session.Session.{Session}
use Rattle.p2p_server.specs.Talking.{Brings, heard_line, SeesPart, SeesPartOf, SeesTaken, Tells, doing_of, session_of}
use Rattle.node_sessions.specs.Serving.{SeesPartAt}
use Rattle.get_phases.specs.Gets as gets
use Rattle.get_phases.specs.declared.getting.Phase.{Phase}
use Rattle.get_phases.specs.declared.getting.Phase.TheVariants as phases
use Rattle.joined_nodes.specs.Worker.{Worker}
use Rattle.joined_nodes.specs.Worker.TheVariants as workers
use Rattle.joined_nodes.specs.Workers.{HasFill, work_of}
use Rattle.joined_nodes.specs.Task.{Task}
use Rattle.joined_nodes.specs.Task.TheVariants as tasks
use Rattle.joined_nodes.specs.Tasks.{OwnsOf, work_now}
use Rattle.joined_nodes.specs.Acting.{SeesPartAt as JobSeesPartAt}
use Rattle.joined_nodes.specs.Running.{job_at}
use Rattle.driver_model.specs.Driver.{Driver, DriverInput, end_to, part_at}
use Rattle.driver_model.specs.Turning.{asked_key, filled_key, part_right, part_size, put_key, session_key, step_key, work_key}
use Rattle.fleet_model.specs.Matches.{DecidesMatches}
use Rattle.fleet_model.specs.Stores.{IsTold}
use Rattle.fleet_model.proofs.StepFinds.{Finds, serves_no_job}
use Rattle.fleet_model.proofs.Working.{task_of_work}

-- ---- a session

-- the key that a session's step asks for, by what it does and what it is told
abbrev key_asked : sessions.Doing → Option Message → Option (List ℕ)
key_asked doing told = option_or (put_key told) (filled_key doing)

session_key_is : (st : State) (m : Effect) (x : Session) (f : FrameView) → session_of x ≡ st.sessions (end_to f) → job_of m.kind ≡ None → m.taken ≡ Some f
    → asked_key st m ≡ key_asked (doing_of x.state.doing) (line_in f.body)
session_key_is st m x f same no_job taken =
    ap (λ (o : Option ℕ). step_key st o m.taken) no_job
    ∙ (ap (λ (o : Option FrameView). session_key st o) taken ∙ ap (λ (y : sessions.Session). key_asked y.doing (line_in f.body)) (sym same))

-- what the store tells of the part that has come is the driver's
taken_right : (g : DriverInput) (d : Driver) (r : ℕ) (known : Option Parts) (t : Taken) (right : Bool) → DecidesMatches g → IsTold known (λ p. (key : List ℕ) → p key ≡ part_at d r key)
    → SeesTaken known t right → SeesTaken known t (g.matches t.fill (part_at d r t.fill))
taken_right g d r None t right decides told sees = absurd sees
taken_right g d r (Some p) t right decides told sees =
    (sees.0, subst (λ (bytes : List ℕ). (g.matches t.fill bytes ≡ true) ↔ MatchesKey t.fill (p t.fill)) (told t.fill) (decides.decides t.fill (p t.fill)))

told_size : (d : Driver) (r : ℕ) (known : Option Parts) (key : List ℕ) → IsTold known (λ p. (key : List ℕ) → p key ≡ part_at d r key) → Tells known (λ p. length (part_at d r key) ≡ length (p key))
told_size d r None key told = absurd told
told_size d r (Some p) key told = ap length (sym (told key))

-- where a message comes
message_sees : (g : DriverInput) (d : Driver) (r : ℕ) (known : Option Parts) (doing : Doing) (m : Message) (part : ℕ) (right : Bool) → DecidesMatches g
    → IsTold known (λ p. (key : List ℕ) → p key ≡ part_at d r key) → SeesPart known doing (incoming.Message m) part right
    → SeesPart known doing (incoming.Message m) (part_size d r (key_asked (doing_of doing) (Some m))) (part_right g d r (key_asked (doing_of doing) (Some m)))
message_sees g d r known (doings.Took t) Valid part right decides told sees = taken_right g d r known t right decides told sees
message_sees g d r known doing (Put file key) part right decides told sees = told_size d r known key told
message_sees g d r known doing m part right decides told sees = tt

-- what is no message asks for no part
abbrev IsNoMessage : Incoming → Type 0
IsNoMessage (incoming.Message m) = ⊥
IsNoMessage i = Unit {0}

unasked : (known : Option Parts) (doing : Doing) (i : Incoming) (part : ℕ) (right : Bool) → IsNoMessage i → SeesPart known doing i part right
unasked known doing (incoming.Message m) part right none = absurd none
unasked known (doings.Took t) i part right none = tt
unasked known doing i part right none = tt

-- where a frame comes
frame_sees : (g : DriverInput) (d : Driver) (r : ℕ) (known : Option Parts) (doing : Doing) (body : FrameText) (i : Incoming) (part : ℕ) (right : Bool) → DecidesMatches g
    → IsTold known (λ p. (key : List ℕ) → p key ≡ part_at d r key) → Brings body i → SeesPart known doing i part right
    → SeesPart known doing i (part_size d r (key_asked (doing_of doing) (line_in body))) (part_right g d r (key_asked (doing_of doing) (line_in body)))
frame_sees g d r known doing body (incoming.Message m) part right decides told brings sees = go body brings
  where
    line : (text : List ℕ) (o : Option Message) → message_of text ≡ o → heard_line o (incoming.Message m) → line_in (Line text) ≡ Some m
    line text None is heard = absurd (cc)
    line text (Some n) is heard = let same : m ≡ n = cc in is ∙ ap Some (sym same)

    go : (body : FrameText) → Brings body (incoming.Message m)
        → SeesPart known doing (incoming.Message m) (part_size d r (key_asked (doing_of doing) (line_in body))) (part_right g d r (key_asked (doing_of doing) (line_in body)))
    go Opening brings = absurd (cc)
    go Closing brings = absurd (cc)
    go (Bytes n) brings = absurd brings
    go (Line text) brings =
        subst (λ (o : Option Message). SeesPart known doing (incoming.Message m) (part_size d r (key_asked (doing_of doing) o)) (part_right g d r (key_asked (doing_of doing) o)))
        (sym (line text (message_of text) refl brings))
        (message_sees g d r known doing m part right decides told sees)
frame_sees g d r known doing body i part right decides told brings sees =
    unasked known doing i (part_size d r (key_asked (doing_of doing) (line_in body))) (part_right g d r (key_asked (doing_of doing) (line_in body))) tt

-- what the store's part is, the driver says
pub part_asked : (g : DriverInput) (d : Driver) (r : ℕ) (st : State) (m : Effect) (known : Option Parts) (x : Session) (f : FrameView) (part : ℕ) (right : Bool) → DecidesMatches g
    → session_of x ≡ st.sessions (end_to f) → job_of m.kind ≡ None → m.taken ≡ Some f → IsTold known (λ p. (key : List ℕ) → p key ≡ part_at d r key)
    → SeesPartAt known (Some x) (Some f) part right → SeesPartAt known (Some x) (Some f) (part_size d r (asked_key st m)) (part_right g d r (asked_key st m))
part_asked g d r st m known x f part right decides same no_job taken told sees =
    λ i brings. subst (λ (key : Option (List ℕ)). SeesPartOf known x i (part_size d r key) (part_right g d r key)) (sym (session_key_is st m x f same no_job taken))
    (frame_sees g d r known x.state.doing f.body i part right decides told brings (sees i brings))

-- ---- a job

-- a get asks for its own key's part: at VALID whether it matches, else its size
get_asked : (g : DriverInput) (d : Driver) (r : ℕ) (known : Option Parts) (rows : Rows) (key : List ℕ) (phase : Phase) (i : Option Incoming) (part : ℕ) (right : Bool) → DecidesMatches g
    → IsTold known (λ p. (key : List ℕ) → p key ≡ part_at d r key) → IfSome (gets.fill_in phase) (λ (fill : List ℕ). (fill ≡ key) × (is_filling rows fill ≡ true))
    → gets.SeesPart known key phase i part right → gets.SeesPart known key phase i (length (part_at d r key)) (g.matches key (part_at d r key))
get_asked g d r known rows key (phases.Word peer start taken) (Some (incoming.Message Valid)) part right decides told fills sees =
    subst (λ (fill : List ℕ). SeesTaken known taken (g.matches fill (part_at d r fill))) fills.0 (taken_right g d r known taken right decides told sees)
get_asked g d r known rows key phase i part right decides told fills sees = told_size d r known key told

worker_asked : (g : DriverInput) (d : Driver) (r : ℕ) (known : Option Parts) (rows : Rows) (v : Worker) (paths : List (List ℕ)) (taken : Option FrameView) (part : ℕ) (right : Bool) → DecidesMatches g
    → IsTold known (λ p. (key : List ℕ) → p key ≡ part_at d r key) → HasFill rows (record { worker = v; paths = paths }) → JobSeesPartAt known (tasks.Transfers (record { worker = v; paths = paths })) taken part right
    → JobSeesPartAt known (tasks.Transfers (record { worker = v; paths = paths })) taken (part_size d r (Some (work_of (record { worker = v; paths = paths })).what.key)) (part_right g d r (Some (work_of (record { worker = v; paths = paths })).what.key))
worker_asked g d r known rows (workers.Gets w) paths None part right decides told has sees = get_asked g d r known rows w.job.key w.phase None part right decides told has sees
worker_asked g d r known rows (workers.Gets w) paths (Some f) part right decides told has sees =
    λ i brings. get_asked g d r known rows w.job.key w.phase (Some i) part right decides told has (sees i brings)
worker_asked g d r known rows (workers.Puts w) paths None part right decides told has sees = tt
worker_asked g d r known rows (workers.Puts w) paths (Some f) part right decides told has sees = λ i brings. tt

pub job_asked : (g : DriverInput) (d : Driver) (r : ℕ) (known : Option Parts) (rows : Rows) (t : Task) (taken : Option FrameView) (part : ℕ) (right : Bool) → DecidesMatches g
    → IsTold known (λ p. (key : List ℕ) → p key ≡ part_at d r key) → OwnsOf rows t → JobSeesPartAt known t taken part right
    → JobSeesPartAt known t taken (part_size d r (Some (work_now t).what.key)) (part_right g d r (Some (work_now t).what.key))
job_asked g d r known rows (tasks.Drops j) taken part right decides told owns sees = tt
job_asked g d r known rows (tasks.Transfers w) taken part right decides told owns sees = worker_asked g d r known rows w.worker w.paths taken part right decides told owns.1 sees

-- the key of a job's step is its own
pub job_key_is : (st : State) (m : Effect) (ts : List Task) (job : ℕ) (t : Task) → st.works ≡ map work_now ts → job_of m.kind ≡ Some job → job_at ts job ≡ Some t → asked_key st m ≡ Some (work_now t).what.key
job_key_is st m ts job t are made there =
    ap (λ (o : Option ℕ). step_key st o m.taken) made
    ∙ ap work_key (ap (λ (ws : List Work). find (λ w. w.number == job) ws) are ∙ (task_of_work ts job ∙ ap (option_map work_now) there))

-- ---- by a frame

-- a step that took a frame which came to a server is no job's
pub asks_no_job : Finds → (s : SetUp) (st : State) (k : Look) (m : Effect) (f : FrameView) → step s st k ≡ Some m → m.taken ≡ Some f → f.up ≡ true → job_of m.kind ≡ None
asks_no_job laws s st k m f e taken up = serves_no_job s st k m f (laws.found s st k m e) taken up
