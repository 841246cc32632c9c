-- **Where a sound driver is settled and no job runs, the run is at rest**: nothing flies down, so each server has room, and nothing comes up.
use Rattle.std.proofs.Common.{◌≡◌, ◌≢◌, ℕ, ◌<◌, Bool, true, false, List, [], ◌∷◌, Option, None, refl, sym, ap, ◌∙◌, subst, true≢false}
use Rattle.std.specs.Prelude.{◌==◌, find, length, map}
use Rattle.std.specs.Option.{option_or}
use Rattle.annex_base.specs.Lists.{Each, Member}
use Rattle.annex_base.specs.OptionSteps.{first_some}
use Rattle.annex_base.proofs.Lists.{Each-from_members}
use Rattle.run_data.specs.declared.entry.FrameView.{FrameView}
use Rattle.run_data.specs.declared.run.RepoView.{RepoView}
use Rattle.run_data.specs.declared.run.Run.{Run}
use Rattle.node_model.specs.Ends.{EndName, is_opening, server_end}
use Rattle.node_model.specs.Jobs.{Work, running_job}
use Rattle.node_model.specs.Look.{Look}
use Rattle.node_model.specs.OwedStep.{pays_first}
use Rattle.node_model.specs.SessionStep.{session_at, session_step}
use Rattle.node_model.specs.SetUp.{SetUp, served_connections, slots}
use Rattle.node_model.specs.Step.{step}
use Rattle.node_model.specs.Turns.{job_step, slot_step}
use Rattle.run_model.specs.Frames.{MayTake, Way, way_of}
use Rattle.run_model.specs.Past.{jobs}
use Rattle.run_model.specs.Run.{RunPast, set_up}
use Rattle.run_model.specs.States.{end_at, state_of, works}
use Rattle.step_facts.proofs.Below.{SentAreRead}
use Rattle.step_facts.proofs.EndMoves.{may_epoch}
use Rattle.step_facts.proofs.JobKept.{jobs_are}
use Rattle.past_facts.proofs.OwnRuns.{own_past}
use Rattle.job_facts.proofs.OpenEnds.{open_runs}
use Rattle.job_facts.proofs.OwnTried.{other_apart}
use Rattle.run_laws.proofs.SessionOwn.{served_other, way_at}
use Rattle.cause_laws.proofs.Epochs.{client_end}
use Rattle.driver_model.specs.Driver.{Driver, DriverInput, has_room, set_up_of}
use Rattle.driver_model.specs.Driving.{run_with}
use Rattle.driver_model.specs.Sound.{IsSound}
use Rattle.driver_model.specs.Turning.{plain_look}
use Rattle.driver_model.proofs.Scripted.{other_is}
use Rattle.alone_drops.specs.Alone.{FindsAll, IsAtEnd, IsAtRest}
use Rattle.rest_laws.specs.Settled.{IsSettled}
use Rattle.rest_laws.proofs.Comes.{none_down, nothing_comes}
use Rattle.rest_laws.proofs.Flown.{steps_of_it}
use Rattle.rest_laws.proofs.Found.{idle, owes_none}
use Rattle.rest_laws.proofs.Leaving.{room_there}
use Rattle.rest_laws.proofs.Openings.{down_plain}
use Rattle.rest_laws.proofs.Places.{Placed, client_place, other_known, served_by}
use Rattle.rest_laws.proofs.Unturned.{IdleTurns, none}

all_none : {X Y : Type 0} (f : X → Option Y) (xs : List X) → Each (λ x. f x ≡ None) xs → first_some f xs ≡ None
all_none f [] all = refl
all_none f (x ∷ xs) all = ap (λ o. option_or o (first_some f xs)) all.0 ∙ all_none f xs all.1

module _ (reads_back : SentAreRead) (turns : IdleTurns) (g : DriverInput) (d : Driver) (sound : IsSound g d) (settled : IsSettled g d) (no_jobs : (r : ℕ) → works d.past r ≡ []) where
  h : RunPast (set_up (run_with g d)) d.past
  h = steps_of_it g d sound

  -- no client has an open end
  shut : (c v q : ℕ) → (end_at d.past c (client_end v q)).opened ≡ false
  shut c v q = go (end_at d.past c (client_end v q)).opened refl
    where
      none_runs : jobs d.past c ≡ []
      none_runs = sym (jobs_are d.past c) ∙ ap (map running_job) (no_jobs c)

      go : (t : Bool) → (end_at d.past c (client_end v q)).opened ≡ t → t ≡ false
      go false o = refl
      go true o =
          let x = open_runs reads_back (set_up (run_with g d) c) d.past (own_past (run_with g d) sound.run.repos c d.past h).run (client_end v q) refl o in
          absurd (subst (Member x.job) none_runs x.runs)

  -- so each server has room
  room : (v c q : ℕ) → c ≢ v → c < length g.repos → has_room v d.flights (server_end c q) ≡ true
  room v c q apart known = room_there v (server_end c q) d.flights (none_down reads_back turns g d sound settled c v q apart known (shut c v q))

  -- ---- no frame may be taken

  client_none : (r v q : ℕ) (f : FrameView) → IsAtEnd d.past r (client_end v q) f → ⊥
  client_none r v q f x = go (is_opening f.body) refl
    where
      m : MayTake d.past (way_of r f) f
      m = x.next

      plain : is_opening f.body ≡ false
      plain = down_plain reads_back (run_with g d) sound.run.repos r v q d.past h f.epoch f (subst (λ (w : Way). MayTake d.past w f) (way_at r (client_end v q) f x.of_end) x.next)

      go : (t : Bool) → is_opening f.body ≡ t → ⊥
      go true opens = true≢false (sym opens ∙ plain)
      go false p = true≢false (sym (may_epoch (end_at d.past r (client_end v q)) f p x.may).0 ∙ shut r v q)

  server_none : (r c q : ℕ) → r < length g.repos → (f : FrameView) → IsAtEnd d.past r (server_end c q) f → ⊥
  server_none r c q known f x =
      let m = subst (λ (w : Way). MayTake d.past w f) (way_at r (server_end c q) f x.of_end) x.next in
      let at : Placed (run_with g d) c r q = client_place reads_back (run_with g d) sound.run.repos d.past h c r q f.epoch f m in
      let apart : c ≢ r = (λ same. other_apart (set_up (run_with g d) c) r at.server (sym same)) in
      nothing_comes reads_back turns g d sound settled c r q known (other_is (set_up_of g d r) c at.client apart) at.slot (room r c q apart at.client) f m x.may

  end_none : (r : ℕ) → r < length g.repos → (n : EndName) (f : FrameView) → IsAtEnd d.past r n f → ⊥
  end_none r known n f x = go n.client refl
    where
      named : (t : Bool) → n.client ≡ t → n ≡ record { peer = n.peer; slot = n.slot; client = t }
      named t is i = record { peer = n.peer; slot = n.slot; client = is i }

      go : (t : Bool) → n.client ≡ t → ⊥
      go true is = client_none r n.peer n.slot f (subst (λ (z : EndName). IsAtEnd d.past r z f) (named true is) x)
      go false is = server_none r n.peer n.slot known f (subst (λ (z : EndName). IsAtEnd d.past r z f) (named false is) x)

  -- ---- so none has a step

  module _ (r : ℕ) (known : r < length g.repos) (paths : ℕ → List (List ℕ)) where
    abbrev s : SetUp
    s = record { number = r; repos = g.repos; paths = paths }

    abbrev own : SetUp
    own = set_up_of g d r

    abbrev k : Look
    k = record (plain_look (set_up_of g d r) d) { room = λ a. true }

    session_none : (x q : ℕ) → Member (x, q) (served_connections own) → session_at s (state_of s d.past) k (server_end x q) ≡ None
    session_none x q serves = idle (set_up_of g d r) d.past (plain_look (set_up_of g d r) d) (none turns g d settled r known) x q serves
        (room r x q (served_other (set_up_of g d r) x q serves) (other_known (set_up_of g d r) x (served_by (set_up_of g d r) x q serves)))

    rests : step s (state_of s d.past) k ≡ None
    rests = ap (λ os. option_or (pays_first s (state_of s d.past) k os) (option_or (session_step s (state_of s d.past) k) (job_step s (state_of s d.past) k)))
        (owes_none (set_up_of g d r) d.past (plain_look (set_up_of g d r) d) (none turns g d settled r known))
        ∙ (ap (λ o. option_or o (job_step s (state_of s d.past) k))
        (all_none (λ (c : ℕ × ℕ). session_at s (state_of s d.past) k (server_end c.0 c.1)) (served_connections s) (Each-from_members (λ (c : ℕ × ℕ). session_at s (state_of s d.past) k (server_end c.0 c.1) ≡ None) (served_connections s) (λ c m. session_none c.0 c.1 m)))
        ∙ ap (λ (ws : List Work). first_some (λ slot. slot_step s (state_of s d.past) k (find (λ w. w.slot == slot) ws)) slots) (no_jobs r))

    at_rest : (k : Look) × FindsAll d.past r k × (step s (state_of s d.past) k ≡ None)
    at_rest = (k, record { frames = λ n f x. absurd (end_none r known n f x); room = λ n. refl }, rests)

  pub rests_alone : (run : Run) → run.repos ≡ g.repos → IsAtRest run d.past
  rests_alone run same r known = subst (λ (rs : List RepoView). (k : Look) × FindsAll d.past r k × (step (record { number = r; repos = rs; paths = (set_up run r).paths }) (state_of (record { number = r; repos = rs; paths = (set_up run r).paths }) d.past) k ≡ None)) (sym same)
      (at_rest r (subst (λ (rs : List RepoView). r < length rs) same known) (set_up run r).paths)
