-- Where a repository has no step at a look, it owes no line, no session of it finds a frame or has a piece to give, and no job goes on.
use Rattle.std.proofs.Common.{◌≡◌, ℕ, Bool, true, false, List, [], ◌∷◌, Option, Some, None, inl, inr, refl, sym, ap, ◌∙◌, subst, true≢false}
use Rattle.std.specs.Prelude.{if◌then◌else◌, ◌&&◌, ◌==◌, find}
use Rattle.std.specs.Option.{option_or}
use Rattle.std.proofs.lemmas.Bool.{and_from, eqb-true}
use Rattle.annex_base.specs.Lists.{Member}
use Rattle.annex_base.specs.OptionSteps.{first_some}
use Rattle.annex_base.proofs.Conditions.{eqb_refl}
use Rattle.annex_base.proofs.Lists.{Each-member, find_member, find_nowhere}
use Rattle.run_data.specs.declared.entry.Entry.{Entry}
use Rattle.run_data.specs.declared.entry.FrameView.{FrameView}
use Rattle.node_model.specs.Ends.{EndName, may_take, server_end, takes_at}
use Rattle.node_model.specs.Jobs.{Work, partner}
use Rattle.node_model.specs.JobStep.{turn_of}
use Rattle.node_model.specs.Look.{Look, waiting_frame}
use Rattle.node_model.specs.OwedLines.{OwedLine}
use Rattle.node_model.specs.OwedStep.{owed_step, pays_first}
use Rattle.node_model.specs.Sessions.{Doing, Gives}
use Rattle.node_model.specs.SessionStep.{Here, Reply, gives_made, gives_next, here, reply_made, session_at, session_makes, session_step}
use Rattle.node_model.specs.SetUp.{SetUp, served_connections, slots}
use Rattle.node_model.specs.State.{State}
use Rattle.node_model.specs.Step.{step}
use Rattle.node_model.specs.Turns.{by_partner, job_step, slot_step}
use Rattle.run_model.specs.Run.{OwnRun}
use Rattle.run_model.specs.States.{end_at, session, state_of, works}
use Rattle.step_facts.proofs.WorkNumbers.{same_slot_same_work}

-- ---- options

or_none : {X : Type 0} (x y : Option X) → option_or x y ≡ None → (x ≡ None) × (y ≡ None)
or_none None y e = (refl, e)
or_none (Some x) y e = absurd (cc)

first_none : {X Y : Type 0} (f : X → Option Y) (xs : List X) (x : X) → first_some f xs ≡ None → Member x xs → f x ≡ None
first_none f [] x e m = absurd m
first_none f (y ∷ ys) x e (inl m) = ap f m ∙ (or_none (f y) (first_some f ys) e).0
first_none f (y ∷ ys) x e (inr m) = first_none f ys x (or_none (f y) (first_some f ys) e).1 m

-- a test that one element passes finds one
pub found_some : {X : Type 0} (p : X → Bool) (xs : List X) (x : X) → Member x xs → p x ≡ true → find p xs ≡ None → ⊥
found_some p xs x m hit none = true≢false (sym hit ∙ Each-member (λ y. p y ≡ false) xs x (find_nowhere p xs none) m)

-- and where none but this passes it finds this
found_one : {X : Type 0} (p : X → Bool) (xs : List X) (x : X) → Member x xs → p x ≡ true → ((y : X) → Member y xs → p y ≡ true → y ≡ x) → find p xs ≡ Some x
found_one p xs x m hit alone = go (find p xs) refl
  where
    go : (o : _) → find p xs ≡ o → o ≡ Some x
    go None is = absurd (found_some p xs x m hit is)
    go (Some y) is = let z = find_member p xs y is in ap (λ v. Some v) (alone y z.0 z.1)

-- ---- the step

module _ (s : SetUp) (past : List Entry) (k : Look) (none : step s (state_of s past) k ≡ None) where
  abbrev st : State
  st = state_of s past

  two : (owed_step s (state_of s past) k ≡ None) × (option_or (session_step s (state_of s past) k) (job_step s (state_of s past) k) ≡ None)
  two = or_none (owed_step s (state_of s past) k) (option_or (session_step s (state_of s past) k) (job_step s (state_of s past) k)) none

  three : (session_step s (state_of s past) k ≡ None) × (job_step s (state_of s past) k ≡ None)
  three = or_none (session_step s (state_of s past) k) (job_step s (state_of s past) k) two.1

  -- no line is owed
  pub owes_none : (state_of s past).owed ≡ []
  owes_none = go (state_of s past).owed two.0
    where
      go : (os : List OwedLine) → pays_first s (state_of s past) k os ≡ None → os ≡ []
      go [] e = refl
      go (o ∷ os) e = absurd (cc)

  pub found_work : OwnRun s past → (w : Work) → Member w (works past s.number) → find (λ (v : Work). v.slot == w.slot) (works past s.number) ≡ Some w
  found_work run w m = found_one (λ (v : Work). v.slot == w.slot) (works past s.number) w m (eqb_refl w.slot) (λ v n same. same_slot_same_work s past run v w n m (eqb-true v.slot w.slot same))

  -- no job goes on
  pub job_none : OwnRun s past → (w : Work) → Member w (works past s.number) → Member w.slot slots → by_partner (turn_of s (state_of s past) k w) (partner w.what.peer w.phase) ≡ None
  job_none run w m slot =
      let at = first_none (λ n. slot_step s (state_of s past) k (find (λ v. v.slot == n) (works past s.number))) slots w.slot three.1 slot in
      subst (λ (o : Option Work). slot_step s (state_of s past) k o ≡ None) (found_work run w m) at

  -- ---- a session with room

  module _ (x q : ℕ) (serves : Member (x, q) (served_connections s)) (room : k.room (server_end x q) ≡ true) where
    abbrev b : EndName
    b = server_end x q

    pub idle : session_makes (here s (state_of s past) k (server_end x q)) (end_at past s.number (server_end x q)) (session past s.number (server_end x q)) (waiting_frame (end_at past s.number (server_end x q)) k (server_end x q)) ≡ None
    idle =
        let at = first_none (λ (n : ℕ × ℕ). session_at s (state_of s past) k (server_end n.0 n.1)) (served_connections s) (x, q) three.0 serves in
        ap (λ (c : Bool). if c then session_makes (here s (state_of s past) k b) (end_at past s.number b) (session past s.number b) (waiting_frame (end_at past s.number b) k b) else None) (sym room) ∙ at

    none_waits : (o : Option FrameView) → session_makes (here s (state_of s past) k b) (end_at past s.number b) (session past s.number b) o ≡ None → o ≡ None
    none_waits None e = refl
    none_waits (Some f) e = absurd (cc)

    -- no frame that waits there may be taken
    pub waits_none : waiting_frame (end_at past s.number (server_end x q)) k (server_end x q) ≡ None
    waits_none = none_waits (waiting_frame (end_at past s.number b) k b) idle

    pub hand_none : (f : FrameView) → Member f k.at_hand → takes_at (server_end x q) f ≡ true → may_take (end_at past s.number (server_end x q)) f ≡ true → ⊥
    hand_none f m at may = found_some (λ g. takes_at b g && may_take (end_at past s.number b) g) k.at_hand f m (and_from (takes_at b f) (may_take (end_at past s.number b) f) at may) waits_none

    gives_also : (h h' : Here) (doing : Doing) (y : Reply) → gives_next h doing ≡ Some y → (y' : Reply) × (gives_next h' doing ≡ Some y')
    gives_also h h' (Gives key at left good) y e = (_, refl)
    gives_also h h' doing y e = absurd (cc)

    -- and nothing is to be given
    pub gives_none : (h : Here) (y : Reply) → (end_at past s.number (server_end x q)).opened ≡ true → gives_next h (session past s.number (server_end x q)).doing ≡ Some y → ⊥
    gives_none h y o gives =
        let more = gives_also h (here s (state_of s past) k b) (session past s.number b).doing y gives in
        let opened : session_makes (here s (state_of s past) k b) (end_at past s.number b) (session past s.number b) None ≡ gives_made b (end_at past s.number b) (gives_next (here s (state_of s past) k b) (session past s.number b).doing) = rw o refl in
        let made : session_makes (here s (state_of s past) k b) (end_at past s.number b) (session past s.number b) (waiting_frame (end_at past s.number b) k b) ≡ gives_made b (end_at past s.number b) (Some more.0)
        = ap (session_makes (here s (state_of s past) k b) (end_at past s.number b) (session past s.number b)) waits_none ∙ (opened ∙ ap (gives_made b (end_at past s.number b)) more.1) in
        absurd (let both : None ≡ Some (reply_made b (end_at past s.number b) None more.0) = sym idle ∙ made in cc)
