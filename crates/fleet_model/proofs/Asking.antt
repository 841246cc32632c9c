-- The part that a node's turn asks for, at the driver's look.
use Rattle.std.proofs.Common.{◌≡◌, ℕ, Bool, true, false, List, Option, Some, None, refl, sym, ap, ◌∙◌, subst, arith}
use Rattle.std.specs.Prelude.{◌==◌, ◌&&◌, find, if◌then◌else◌, map, option_and_then}
use Rattle.std.specs.List.{position_or_len}
use Rattle.std.proofs.lemmas.Bool.Decides.{nat_tests}
use Rattle.std.proofs.lemmas.List.Folds.{find_at}
use Rattle.annex_base.proofs.Lists.{Each-member, find_member}
use Rattle.run_data.specs.declared.entry.By.TheVariants.{Peer}
use Rattle.run_data.specs.declared.entry.EntryKind.{EntryKind}
use Rattle.run_data.specs.declared.entry.FrameView.{FrameView}
use Rattle.object_store.specs.Stores.{Parts}
use Rattle.node_model.specs.Ends.{EndName, server_end}
use Rattle.node_model.specs.Look.{Effect}
use Rattle.node_model.specs.Rows.{same_owner}
use Rattle.node_model.specs.Sessions as sessions
use Rattle.node_model.specs.SetUp.{SetUp}
use Rattle.node_model.specs.Slots.{job_of}
use Rattle.node_model.specs.State.{State}
use Rattle.p2p_server.specs.declared.session.Session.{Session}
use Rattle.p2p_server.specs.Talking.{place_of, session_of}
use Rattle.node_sessions.specs.Serving.{SeesPartAt}
use Rattle.node_sessions.specs.Sessions.{AreSessions, end_of, owner_of}
use Rattle.joined_nodes.specs.Task.{Task}
use Rattle.joined_nodes.specs.Tasks.{number_of, work_now}
use Rattle.joined_nodes.specs.Acting.{SeesPartAt as JobSeesPartAt}
use Rattle.joined_nodes.specs.Running.{IsOwn, job_at}
use Rattle.joined_nodes.specs.Parts.{PartsView}
use Rattle.joined_nodes.specs.Sound.{AreSound}
use Rattle.joined_nodes.specs.Steps.{HasPart, IsPartAsked, job_acting, session_asked}
use Rattle.driver_model.specs.Driver.{Driver, DriverInput, end_to, part_at}
use Rattle.driver_model.specs.Turning.{asked_key, part_right, part_size}
use Rattle.fleet_model.specs.Matches.{DecidesMatches}
use Rattle.fleet_model.specs.Stores.{IsTold}
use Rattle.fleet_model.proofs.PartAsked.{job_asked, job_key_is, part_asked}

-- ---- the session that is asked

same_ends : (a b c d : ℕ) → ((a == c) && (b == d)) ≡ true → server_end a b ≡ server_end c d
same_ends a b c d e = λ i. server_end (first i) (second i)
  where
    first : a ≡ c
    first = grind (arith, nat_tests)

    second : b ≡ d
    second = grind (arith, nat_tests)

pub asked_is : (s : SetUp) (now : EndName → sessions.Session) (xs : List Session) (f : FrameView) (x : Session) → AreSessions s now xs → f.up ≡ true
    → find (λ x. same_owner (owner_of x) (Peer f.peer f.slot)) xs ≡ Some x → session_of x ≡ now (end_to f)
asked_is s now xs f x are up found =
    sym (are.each (position_or_len (λ x. same_owner (owner_of x) (Peer f.peer f.slot)) xs) x (sym (find_at (λ x. same_owner (owner_of x) (Peer f.peer f.slot)) xs) ∙ found)).session ∙ ap now there
  where
    there : end_of x ≡ end_to f
    there = same_ends (place_of x).peer (place_of x).slot f.peer f.slot (find_member (λ x. same_owner (owner_of x) (Peer f.peer f.slot)) xs x found).1
        ∙ (λ i. record { peer = f.peer; slot = f.slot; client = if sym up i then false else true })

-- ---- the part

asked_of : (g : DriverInput) (d : Driver) (r : ℕ) (s : SetUp) (st : State) (m : Effect) (known : Option Parts) (xs : List Session) (f : FrameView) (part : ℕ) (right : Bool) → DecidesMatches g
    → AreSessions s st.sessions xs → IsTold known (λ p. (key : List ℕ) → p key ≡ part_at d r key) → m.taken ≡ Some f → (f.up ≡ true → job_of m.kind ≡ None)
    → SeesPartAt known (session_asked xs (Some f)) (Some f) part right
    → SeesPartAt known (session_asked xs (Some f)) (Some f) (part_size d r (asked_key st m)) (part_right g d r (asked_key st m))
asked_of g d r s st m known xs f part right decides are told taken no_job sees = go f.up refl
  where
    P : Option Session → Type 0
    P o = SeesPartAt known o (Some f) (part_size d r (asked_key st m)) (part_right g d r (asked_key st m))

    by_session : (o : Option Session) → find (λ x. same_owner (owner_of x) (Peer f.peer f.slot)) xs ≡ o → f.up ≡ true → SeesPartAt known o (Some f) part right
        → SeesPartAt known o (Some f) (part_size d r (asked_key st m)) (part_right g d r (asked_key st m))
    by_session None e up sees = tt
    by_session (Some x) e up sees = part_asked g d r st m known x f part right decides (asked_is s st.sessions xs f x are up e) (no_job up) taken told sees

    go : (b : Bool) → f.up ≡ b → SeesPartAt known (session_asked xs (Some f)) (Some f) (part_size d r (asked_key st m)) (part_right g d r (asked_key st m))
    go false e = rw e tt
    go true e =
        subst (λ (b : Bool). SeesPartAt known (if b then find (λ x. same_owner (owner_of x) (Peer f.peer f.slot)) xs else None) (Some f) (part_size d r (asked_key st m)) (part_right g d r (asked_key st m))) (sym e)
        (by_session (find (λ x. same_owner (owner_of x) (Peer f.peer f.slot)) xs) refl e
        (subst (λ (b : Bool). SeesPartAt known (if b then find (λ x. same_owner (owner_of x) (Peer f.peer f.slot)) xs else None) (Some f) part right) e sees))

pub asks_the_drivers : (g : DriverInput) (d : Driver) (r : ℕ) (s : SetUp) (st : State) (m : Effect) (known : Option Parts) (p : PartsView) (kind : EntryKind) (taken : Option FrameView) → DecidesMatches g
    → AreSessions s st.sessions p.sessions → st.works ≡ map work_now p.jobs.running → AreSound p → IsTold known (λ q. (key : List ℕ) → q key ≡ part_at d r key) → m.kind ≡ kind → m.taken ≡ taken
    → ((f : FrameView) → taken ≡ Some f → f.up ≡ true → job_of m.kind ≡ None) → HasPart known p kind taken → IsPartAsked known p kind taken (part_size d r (asked_key st m)) (part_right g d r (asked_key st m))
asks_the_drivers g d r s st m known p kind taken decides are works sound told is takes no_job has = record { serving = by_frame taken refl; acting = λ t acts. by_job (job_of kind) refl t acts } where
  by_frame : (o : Option FrameView) → taken ≡ o → SeesPartAt known (session_asked p.sessions o) o (part_size d r (asked_key st m)) (part_right g d r (asked_key st m))
  by_frame None e = tt
  by_frame (Some f) e =
      asked_of g d r s st m known p.sessions f has.part has.right decides are told (takes ∙ e) (no_job f e)
      (subst (λ (o : Option FrameView). SeesPartAt known (session_asked p.sessions o) o has.part has.right) e has.asked.serving)

  by_job : (o : Option ℕ) → job_of kind ≡ o → (t : Task) → job_acting p kind ≡ Some t → JobSeesPartAt known t taken (part_size d r (asked_key st m)) (part_right g d r (asked_key st m))
  by_job None e t acts = absurd (let none : None ≡ Some t = sym (ap (option_and_then (job_at p.jobs.running)) e) ∙ acts in cc)
  by_job (Some job) e t acts =
      let there : job_at p.jobs.running job ≡ Some t = sym (ap (option_and_then (job_at p.jobs.running)) e) ∙ acts in
      let own : IsOwn p.jobs.begun p.table t = Each-member (IsOwn p.jobs.begun p.table) p.jobs.running t sound.acting.owns (find_member (λ (t : Task). number_of t == job) p.jobs.running t there).0 in
      subst (λ (key : Option (List ℕ)). JobSeesPartAt known t taken (part_size d r key) (part_right g d r key)) (sym (job_key_is st m p.jobs.running job t works (ap job_of is ∙ e) there))
      (job_asked g d r known p.table t taken has.part has.right decides told own.owns (has.asked.acting t acts))
