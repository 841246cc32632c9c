-- What goes up since a drop began that runs alone: its own steps send it, orders go to its target, and locks don't.
use Rattle.std.specs.Prelude.{◌==◌}
use Rattle.std.proofs.Common.{◌≡◌, ◌≢◌, ℕ, true, List, [], ◌∷◌, ◌++◌, Option, Some, ◌⊎◌, inl, inr, refl, sym, ap, ◌∙◌, subst}
use Rattle.std.proofs.lemmas.Bool.{true≢false}
use Rattle.annex_base.specs.Lists.{Each, Member}
use Rattle.annex_base.proofs.Conditions.{eqb_refl}
use Rattle.drop_proof.specs.declared.rule.Side.{Side}
use Rattle.drop_proof.specs.declared.rule.Side.TheVariants.{Remote}
use Rattle.run_data.specs.declared.entry.Entry.{Entry}
use Rattle.run_data.specs.declared.entry.EntryKind.{EntryKind}
use Rattle.run_data.specs.declared.entry.EntryKind.TheVariants.{Gain, Share, Bar, Order, Gone, Talk, Fault, End as ends_job}
use Rattle.run_data.specs.declared.entry.FrameView.{FrameView}
use Rattle.run_data.specs.declared.job.Job.{Job}
use Rattle.run_data.specs.declared.run.Run.{Run}
use Rattle.run_data.specs.Repos.{IsSetUp}
use Rattle.p2p_wire.specs.declared.message.Message.{Message}
use Rattle.p2p_wire.specs.declared.message.Message.TheVariants.{LockContent, Valid, Version}
use Rattle.p2p_wire.specs.Messages.{order_of}
use Rattle.node_model.specs.Ends.{server_end}
use Rattle.node_model.specs.Jobs.{Drops, drop_side, or_own, side_of, running_job}
use Rattle.node_model.specs.JobStep.{Turn}
use Rattle.node_model.specs.DropStep.{target}
use Rattle.node_model.specs.Sessions.{line_in}
use Rattle.run_model.specs.Frames.{FlyingFrame, taker_of}
use Rattle.run_model.specs.Past.{is_of}
use Rattle.run_model.specs.Run.{RunPast, set_up}
use Rattle.run_model.specs.Said.{Says, message_in}
use Rattle.run_model.specs.States.{state_of}
use Rattle.step_facts.proofs.Below.{SentAreRead}
use Rattle.step_facts.proofs.JobSteps.{Stepped, stepped_runs, turn_at}
use Rattle.step_facts.proofs.ServerEnds.{GivesHere, TakesHere}
use Rattle.past_facts.proofs.OwnRuns.{Part as PartOf, own_past, part_of}
use Rattle.past_facts.proofs.Told.{on_parts, sends_member, sends_on}
use Rattle.job_facts.proofs.ReadAs.{SameHead}
use Rattle.job_facts.proofs.TalkFacts.{TalkKind, slot_talks}
use Rattle.job_facts.proofs.WorkFits.{works_fit}
use Rattle.dialogue_facts.proofs.FreshSteps.{of_kind}
use Rattle.run_laws.proofs.Decisions.{kind_of}
use Rattle.run_laws.proofs.FromStep.{meets}
use Rattle.run_laws.proofs.JobLines.{job_said, said_head}
use Rattle.run_laws.proofs.SaidDown.{is_said, said_is}
use Rattle.run_laws.proofs.WayCounts.{in_sender-is, in_taker-is, way_in}
use Rattle.alone_drops.proofs.Since.{Beginning, IsIt, Later, Since, calm_who, stepped_since, is_calm}
use Rattle.alone_drops.proofs.Frames.{NewFrame, down_sent}
use Rattle.alone_drops.proofs.Sides.{Aims}
use Rattle.alone_drops.proofs.Asking.{Asked, body_asked, drop_job, opens_three, order_asked}

module _ (reads_back : SentAreRead) (run : Run) (repos : Each IsSetUp run.repos) (past : List Entry) (b : Entry) (a j : ℕ) (what : Job) (z : Beginning run past b a j what) (h0 : RunPast (set_up run) (b ∷ past)) (side : Side) (to : ℕ) (aims : Aims a what side to) where
  abbrev base : List Entry
  base = b ∷ past

  -- each job's step is in its drop
  pub in_drops : (ys : List Entry) → RunPast (set_up run) (ys ++ base) → Since run base ys → (x : ℕ) (e : Entry) (g : Stepped (set_up run x) (ys ++ base) e) → g.w.part ≡ Drops
  in_drops ys h t x e g = drop_job g.w (ap (λ (y : Job). y.kind) (stepped_since run past b a j what z ys t x e g).what_is ∙ aims.drops) (of_kind (set_up run x) (ys ++ base) (own_past run repos x (ys ++ base) h).run g.w (stepped_runs (set_up run x) (ys ++ base) e g))

  -- ---- a new frame that goes up

  module _ (c x q k : ℕ) (it : FlyingFrame) (n : NewFrame run base (way_in c (server_end x q) k) it) where
    abbrev l : Later run base it.entry it.before
    l = n.later

    abbrev p : List Entry
    p = l.ys ++ base

    own : is_of x it.entry ≡ true
    own = subst (λ m. is_of m it.entry ≡ true) (in_sender-is c (server_end x q) k) n.by

    abbrev part : PartOf (set_up run) p x it.entry
    part = part_of (set_up run) p it.entry x l.step own

    among : Member it.frame it.entry.sent
    among = sends_member (way_in c (server_end x q) k) it.entry it.frame n.on

    parts : (it.frame.peer ≡ c) × (it.frame.up ≡ true)
    parts = let y = on_parts (way_in c (server_end x q) k) (taker_of (way_in c (server_end x q) k)) it.frame (sends_on (way_in c (server_end x q) k) it.entry it.frame n.on) in (y.peer_is ∙ in_taker-is c (server_end x q) k, y.up_is)

    up_down : (p' r : ℕ) → TakesHere (set_up run x) p (server_end p' r) it.entry ⊎ GivesHere (set_up run x) p (server_end p' r) it.entry → ⊥
    up_down p' r (inl y) = true≢false (sym parts.1 ∙ down_sent (server_end p' r) _ _ it.frame refl (subst (Member it.frame) y.sent_is among))
    up_down p' r (inr y) = true≢false (sym parts.1 ∙ down_sent (server_end p' r) _ _ it.frame refl (subst (Member it.frame) y.sent_is among))

    -- the job sent it
    pub by_job : Stepped (set_up run x) p it.entry
    by_job = elim (calm_who (set_up run x) p part.words it.entry part.own l.calm.kind) [
      | inl y ↦ absurd (subst (Member it.frame) y.sends_none among)
      | inr y ↦ elim y [ inl g ↦ absurd (up_down g.0 g.1 g.3) | inr g ↦ g ]
    ]

    abbrev g : Stepped (set_up run x) p it.entry
    g = by_job

    abbrev turn : Turn
    turn = turn_at (set_up run x) p it.entry g

    is_it : IsIt run past b a j what z x (running_job g.w)
    is_it = stepped_since run past b a j what z l.ys l.since x it.entry g

    job_side : side_of g.w ≡ side
    job_side = ap (λ (y : Job). drop_side y.kind y.peer) is_it.what_is ∙ aims.side_is

    target_is : target turn ≡ to
    target_is = (λ i. or_own (is_it.at i) (job_side i) (is_it.what_is i).peer) ∙ aims.target_is

    drops : g.w.part ≡ Drops
    drops = in_drops l.ys l.steps l.since x it.entry g

    sent : Member it.frame g.made.sent
    sent = subst (Member it.frame) (ap (λ (y : Entry). y.sent) g.is) among

    -- what its message tells of where the job stands
    tells : (m : Message) → line_in it.frame.body ≡ Some m → Asked turn it.frame.peer turn.w.phase m
    tells m told = by it.entry.kind refl
      where
        talks : (i : ℕ) → it.entry.kind ≡ Talk (Some i) → TalkKind turn g.made (Talk (Some i))
        talks i is = subst (TalkKind turn g.made) (sym (ap (λ (y : Entry). y.kind) g.is) ∙ is)
            (slot_talks (set_up run x) (state_of (set_up run x) p) g.look g.made g.w (works_fit (set_up run x) p (own_past run repos x p l.steps).run g.w (stepped_runs (set_up run x) p it.entry g)) g.does)

        none : g.made.sent ≡ [] → Asked turn it.frame.peer turn.w.phase m
        none is = absurd (subst (Member it.frame) is sent)

        by : (kind : EntryKind) → it.entry.kind ≡ kind → Asked turn it.frame.peer turn.w.phase m
        by (Share hold end who key') is = none (kind_of (set_up run x) p it.entry g (Share hold end who key') is).sends_none
        by (Bar i need key') is = none (kind_of (set_up run x) p it.entry g (Bar i need key') is).sends_none
        by (Gone who key') is = none (kind_of (set_up run x) p it.entry g (Gone who key') is).sends_none
        by (Order i peer deadline need key') is =
            let y = said_head turn (Order i peer deadline need key') it.frame m (job_said turn g.made (Order i peer deadline need key') (kind_of (set_up run x) p it.entry g (Order i peer deadline need key') is) it.frame sent) (said_is it.frame.body m told) in
            order_asked turn it.frame.peer turn.w.phase deadline key' m (subst (λ v. SameHead v m) y.1 y.2)
        by (Gain who size key') is = absurd (true≢false (sym l.calm.kind ∙ ap is_calm is))
        by (ends_job i outcome) is = absurd (true≢false (sym l.calm.kind ∙ ap is_calm is))
        by (Fault call who) is = absurd (true≢false (sym l.calm.kind ∙ ap is_calm is))
        by (Talk (Some i)) is = elim ((talks i is).says) [
          | inl silent ↦ none silent
          | inr y ↦ elim (subst (Member it.frame) y.sent_is sent) [
            | inl same ↦ subst (λ r. Asked turn r turn.w.phase m) (sym (ap (λ (f : FrameView). f.peer) same)) (body_asked turn y.peer y.body m drops y.says (ap line_in (sym (ap (λ (f : FrameView). f.body) same)) ∙ told))
            | inr off ↦ absurd off
          ]
        ]
        by kind is = absurd (kind_of (set_up run x) p it.entry g kind is)

    -- an order goes to the target
    pub order_to : (deadline : Option ℕ) (key : List ℕ) → message_in it.frame.body ≡ Says (order_of deadline key) → c ≡ to
    order_to deadline key says =
        let o = (((meets reads_back run repos p it.entry l.steps l.step).own x own).sends it.frame among).order deadline key says in
        let y = kind_of (set_up run x) p it.entry g (Order o.0 it.frame.peer deadline o.1 key) o.2 in
        sym parts.0 ∙ (y.target_is ∙ target_is)

    -- LOCKCONTENT of a remote drop doesn't
    pub lock_to : side ≡ Remote → (key : List ℕ) → message_in it.frame.body ≡ Says (LockContent key) → c ≢ to
    lock_to remote key says at =
        let off = tells (LockContent key) (is_said it.frame.body (LockContent key) says) (job_side ∙ remote) in
        let at_peer : it.frame.peer ≡ to = parts.0 ∙ at in
        true≢false (sym (eqb_refl to) ∙ (sym (λ i. target_is i == at_peer i) ∙ off))

    -- VERSION says 3
    pub version_said : (v : ℕ) → line_in it.frame.body ≡ Some (Version v) → v ≡ 3
    version_said v told = let at = tells (Version v) told in opens_three reads_back turn v at.0 at.1 drops g.made g.does it.frame sent told

    -- and none says VALID
    pub no_valid : line_in it.frame.body ≡ Some Valid → ⊥
    no_valid told = tells Valid told
