-- The part that a step asks for, and what the step leaves of the store.
use Rattle.std.proofs.Common.{◌≡◌, ℕ, Bool, true, false, List, Option, Some, None, refl, sym, ap, subst, ◌∙◌}
use Rattle.std.specs.Prelude.{find, if◌then◌else◌, not}
use Rattle.std.specs.Option.{ForSome, option_and_then, option_map, option_map_or}
use Rattle.std.proofs.lemmas.Option.{same_Some}
use Rattle.annex_base.proofs.Options.{map_some, some_none, where_some}
use Rattle.run_data.specs.declared.entry.By.TheVariants.{Peer}
use Rattle.run_data.specs.declared.entry.EntryKind.{EntryKind}
use Rattle.run_data.specs.declared.entry.FrameView.{FrameView}
use Rattle.object_store.specs.Stores.{Contents, Parts as StoredParts}
use Rattle.link_ring.specs.Ends.{EndView, next_frame}
use Rattle.node_model.specs.Ends.{EndName, may_take}
use Rattle.node_model.specs.Look.{Effect}
use Rattle.node_model.specs.Rows.{same_owner}
use Rattle.node_ends.specs.Ends.{end_at, frame_at, hand_at, if_may, link_at, wait_at}
use Rattle.p2p_server.specs.declared.session.Session.{Session}
use Rattle.p2p_server.specs.Talking.{session_of}
use Rattle.node_sessions.specs.declared.served.Served.{Served}
use Rattle.node_sessions.specs.Serving.{HasPart as HasPartServed, SeesPartAt, SeesPartBy, end_by, made_by, server_in, taken_by}
use Rattle.node_sessions.specs.Sessions.{owner_of}
use Rattle.p2p_server.specs.Answers.{contents_after}
use Rattle.node_sessions.specs.Stored.{bytes_at, contents_left, parts_after_taken, parts_left}
use Rattle.node_parts.specs.declared.done.Done.{Done}
use Rattle.node_parts.specs.Parts.{PartsView}
use Rattle.node_model.specs.Slots.{job_of}
use Rattle.running_jobs.specs.Task.{Task}
use Rattle.running_jobs.specs.Tasks.{work_now}
use Rattle.running_jobs.specs.Acting.{SeesPartAt as JobSeesPartAt}
use Rattle.running_jobs.specs.Running.{job_at}
use Rattle.node_parts.specs.Steps.{HasPart, IsPartAsked, job_acting, made_of, session_asked}
use Rattle.node_parts.specs.Stored.{bytes_taken, contents_then, end_of_frame, parts_after_work, parts_by_job, parts_by_session, parts_then}

-- ---- a frame that waits

-- it is the end's
pub waits_there : (links : List EndView) (b : EndName) (f : FrameView) → wait_at links b ≡ Some f → (f.peer ≡ b.peer) × (f.slot ≡ b.slot) × (f.up ≡ not b.client)
waits_there links b f waits = go (hand_at links b) refl waits
  where
    go : (o : Option FrameView) → hand_at links b ≡ o → option_and_then (if_may (end_at links b)) o ≡ Some f → (f.peer ≡ b.peer) × (f.slot ≡ b.slot) × (f.up ≡ not b.client)
    go None at is = absurd cc
    go (Some g) at is =
        let hand = map_some (option_and_then next_frame (link_at links b)) (frame_at b) g at in
        let same : f ≡ frame_at b hand.0 = sym (same_Some g f (where_some (may_take (end_at links b) g) (Some g) f is).1) ∙ sym hand.2 in
        (ap (λ (x : FrameView). x.peer) same, ap (λ (x : FrameView). x.slot) same, ap (λ (x : FrameView). x.up) same)

pub took_waits : (takes : Bool) (o : Option FrameView) (f : FrameView) → (if takes then o else None) ≡ Some f → o ≡ Some f
took_waits true o f is = is
took_waits false o f is = absurd cc

-- ---- the session that serves is the one that is asked

sees_none : (known : Option StoredParts) (x : Option Session) (part : ℕ) (right : Bool) → SeesPartAt known x None part right
sees_none known None part right = tt
sees_none known (Some x) part right = tt

module _ (links : List EndView) (xs : List Session) (v : Served) where
  asked_same : (f : FrameView) → taken_by links v ≡ Some f → session_asked xs (Some f) ≡ server_in xs v
  asked_same f is =
      let at = waits_there links (end_by v) f (took_waits v.takes (wait_at links (end_by v)) f is) in
      λ i. if at.2 i then find (λ (x : Session). same_owner (owner_of x) (Peer (at.0 i) (at.1 i))) xs else None

  end_same : (f : FrameView) → taken_by links v ≡ Some f → end_of_frame f ≡ end_by v
  end_same f is =
      let at = waits_there links (end_by v) f (took_waits v.takes (wait_at links (end_by v)) f is) in
      λ i. record { peer = at.0 i; slot = at.1 i; client = not (at.2 i) }

  module _ (known : Option StoredParts) (part : ℕ) (right : Bool) where
    to_server : (taken : Option FrameView) → taken_by links v ≡ taken → SeesPartAt known (session_asked xs taken) taken part right → SeesPartAt known (server_in xs v) taken part right
    to_server None is sees = sees_none known (server_in xs v) part right
    to_server (Some f) is sees = subst (λ (x : Option Session). SeesPartAt known x (Some f) part right) (asked_same f is) sees

    from_server : (taken : Option FrameView) → taken_by links v ≡ taken → SeesPartAt known (server_in xs v) taken part right → SeesPartAt known (session_asked xs taken) taken part right
    from_server None is sees = tt
    from_server (Some f) is sees = subst (λ (x : Option Session). SeesPartAt known x (Some f) part right) (sym (asked_same f is)) sees

  constant : (known : Option StoredParts) (o : Option Session) → option_map_or (λ (x : Session). known) o known ≡ known
  constant known None = refl
  constant known (Some x) = refl

  -- the parts after it, by what it took
  parts_here : (known : Option StoredParts) (kind : EntryKind) (taken : Option FrameView) → taken_by links v ≡ taken
      → option_map_or (λ (x : Session). parts_after_taken (session_of x).doing taken (bytes_at links (end_by v)) kind known) (server_in xs v) known
      ≡ option_map_or (λ (x : Session). parts_after_taken (session_of x).doing taken (bytes_taken links taken) kind known) (session_asked xs taken) known
  parts_here known kind None is = constant known (server_in xs v)
  parts_here known kind (Some f) is =
      let asked = sym (asked_same f is) in
      let end = sym (end_same f is) in
      λ i. option_map_or (λ (x : Session). parts_after_taken (session_of x).doing (Some f) (bytes_at links (end i)) kind known) (asked i) known

-- ---- what was made is what was served

made_same : (links : List EndView) (v : Served) (d : Done) → option_map made_of (Some d) ≡ option_map (made_by links) (Some v) → made_of d ≡ made_by links v
made_same links v d same = same_Some (made_of d) (made_by links v) same

taken_same : (links : List EndView) (v : Served) (d : Done) → option_map made_of (Some d) ≡ option_map (made_by links) (Some v) → d.taken ≡ taken_by links v
taken_same links v d same = ap (λ (m : Effect). m.taken) (made_same links v d same)

pub kind_same : (links : List EndView) (v : Served) (d : Done) → option_map made_of (Some d) ≡ option_map (made_by links) (Some v) → d.kind ≡ v.kind
kind_same links v d same = ap (λ (m : Effect). m.kind) (made_same links v d same)

-- ---- an entry of no job

module _ (p : PartsView) (kind : EntryKind) (none : job_of kind ≡ None) where
  no_job_acts : job_acting p kind ≡ None
  no_job_acts = ap (option_and_then (job_at p.jobs.running)) none

  pub no_job_asks : (known : Option StoredParts) (taken : Option FrameView) (part : ℕ) (right : Bool) → ForSome (job_acting p kind) (λ (t : Task). JobSeesPartAt known t taken part right)
  no_job_asks known taken part right = λ t at. absurd (some_none t (sym at ∙ no_job_acts))

pub no_job_takes : (p : PartsView) (d : Done) (known : Option StoredParts) → job_of d.kind ≡ None → parts_by_job p d known ≡ known
no_job_takes p d known none = ap (λ (o : Option Task). option_map_or (λ (t : Task). parts_after_work (work_now t) d.taken (bytes_taken p.links d.taken) d.kind known) o known) (no_job_acts p d.kind none)

-- what was done is an entry of no job
abbrev pub IsOfNoJob : Option Done → Type 0
IsOfNoJob o = ForSome o (λ d. job_of d.kind ≡ None)

module _ (p : PartsView) where
  -- a look finds the part that the sessions ask for
  pub asks_of : (known : Option StoredParts) (o : Option Served) (d : Option Done) → option_map made_of d ≡ option_map (made_by p.links) o → (part : ℕ) (right : Bool)
      → ForSome d (λ x. IsPartAsked known p x.kind x.taken part right) → SeesPartBy known p.sessions p.links o part right
  asks_of known None d same part right asks = λ v is. absurd (some_none v (sym is))
  asks_of known (Some v) None same part right asks = absurd (some_none (made_by p.links v) (sym same))
  asks_of known (Some v) (Some d) same part right asks = λ w is.
      subst (λ (y : Served). SeesPartAt known (server_in p.sessions y) (taken_by p.links y) part right) (same_Some v w is)
      (to_server p.links p.sessions v known part right (taken_by p.links v) refl
      (subst (λ (taken : Option FrameView). SeesPartAt known (session_asked p.sessions taken) taken part right) (taken_same p.links v d same) (asks d refl).serving))

  -- there is such a part
  pub has_of : (known : Option StoredParts) (o : Option Served) (d : Option Done) → option_map made_of d ≡ option_map (made_by p.links) o → IsOfNoJob d → HasPartServed known p.sessions p.links o → ForSome d (λ x. HasPart known p x.kind x.taken)
  has_of known None d same none has x is = absurd (some_none (made_of x) (sym (ap (option_map made_of) is) ∙ same))
  has_of known (Some v) d same none has x is = record {
    part = has.part;
    right = has.right;
    asked = record {
      serving = subst (λ (taken : Option FrameView). SeesPartAt known (session_asked p.sessions taken) taken has.part has.right) (sym (taken_same p.links v x (sym (ap (option_map made_of) is) ∙ same)))
          (from_server p.links p.sessions v known has.part has.right (taken_by p.links v) refl (has.sees v refl));
      acting = no_job_asks p x.kind (none x is) known x.taken has.part has.right;
    };
  }

  -- what is left of the contents and the parts
  pub contents_served : (known : Option Contents) (parts : Option StoredParts) (o : Option Served) (d : Option Done) → option_map made_of d ≡ option_map (made_by p.links) o → contents_left known parts o ≡ contents_then known parts d
  contents_served known parts None None same = refl
  contents_served known parts None (Some d) same = absurd (some_none (made_of d) same)
  contents_served known parts (Some v) None same = absurd (some_none (made_by p.links v) (sym same))
  contents_served known parts (Some v) (Some d) same = ap (contents_after known parts) (sym (kind_same p.links v d same))

  pub parts_served : (known : Option StoredParts) (o : Option Served) (d : Option Done) → option_map made_of d ≡ option_map (made_by p.links) o → IsOfNoJob d → parts_left p.sessions p.links o known ≡ parts_then p known d
  parts_served known None None same none = refl
  parts_served known None (Some d) same none = absurd (some_none (made_of d) same)
  parts_served known (Some v) None same none = absurd (some_none (made_by p.links v) (sym same))
  parts_served known (Some v) (Some d) same none =
      let taken = sym (taken_same p.links v d same) in
      let kind = sym (kind_same p.links v d same) in
      parts_here p.links p.sessions v known v.kind (taken_by p.links v) refl
      ∙ ((λ i. option_map_or (λ (x : Session). parts_after_taken (session_of x).doing (taken i) (bytes_taken p.links (taken i)) (kind i) known) (session_asked p.sessions (taken i)) known)
      ∙ sym (no_job_takes p d (parts_by_session p d known) (none d refl)))

-- ---- a client's frame asks no session

pub clients_ask_none : (links : List EndView) (xs : List Session) (b : EndName) (f : FrameView) → b.client ≡ true → wait_at links b ≡ Some f → session_asked xs (Some f) ≡ None
clients_ask_none links xs b f client waits =
    let at = waits_there links b f waits in
    let up : f.up ≡ false = at.2 ∙ ap not client in
    ap (λ (up : Bool). if up then find (λ (x : Session). same_owner (owner_of x) (Peer f.peer f.slot)) xs else None) up
