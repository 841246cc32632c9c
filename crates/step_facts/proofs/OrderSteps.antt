-- What a job does that has ordered: it takes the answer, or loses its connection; and then it ends.
use Rattle.std.proofs.Common.{◌≡◌, ℕ, Bool, true, false, List, [], ◌∷◌, Option, Some, None, ◌⊎◌, inl, inr, refl, sym, ap, ◌∙◌, subst}
use Rattle.std.specs.Prelude.{◌++◌, ◌==◌, if◌then◌else◌, ◌&&◌, fold, not}
use Rattle.std.specs.List.{list_all}
use Rattle.std.proofs.lemmas.Bool.{and_parts}
use Rattle.annex_base.specs.declared.kinds.Call.{Call}
use Rattle.annex_base.specs.declared.kinds.Call.TheVariants.{Unhold}
use Rattle.annex_base.proofs.Conditions.{eqb_refl}
use Rattle.annex_base.proofs.Lists.{find_member}
use Rattle.drop_proof.specs.declared.rule.Side.TheVariants.{Remote}
use Rattle.run_data.specs.declared.entry.EntryKind.TheVariants.{Fault, End as ends_job}
use Rattle.run_data.specs.declared.entry.FrameView.{FrameView}
use Rattle.run_data.specs.declared.entry.FrameText.{FrameText}
use Rattle.run_data.specs.declared.entry.FrameText.TheVariants.{Opening, Closing, Bytes, Line}
use Rattle.run_data.specs.declared.job.Outcome.TheVariants.{Refused}
use Rattle.run_data.specs.declared.job.DropRefusal.TheVariants as refusals
use Rattle.node_model.specs.Rows.{is_lost_ordered}
use Rattle.p2p_wire.specs.declared.message.Message.{Message}
use Rattle.p2p_wire.specs.declared.message.Message.TheVariants.{Failure, Success}
use Rattle.p2p_wire.specs.Messages.{message_of}
use Rattle.run_model.specs.Said.{Says, message_in, said_line}
use Rattle.step_facts.proofs.Ways.{is_answer}
use Rattle.node_model.specs.Ends.{End, EndName, end_after, end_sends, end_takes, end_took, may_take, taken_at, takes_at}
use Rattle.node_model.specs.Jobs
use Rattle.node_model.specs.Jobs.{Denied, Drops, Ends, Orders, Phase, Removed, job_end, partner, side_of}
use Rattle.node_model.specs.Calls.{to_release}
use Rattle.node_model.specs.Look.{Effect, waiting_frame}
use Rattle.node_model.specs.JobStep.{Turn, by_me, end_with, ends, farewells, hears, me, owns_share, quietly, talk, wrong_message}
use Rattle.node_model.specs.Turns.{awaits, by_partner, goes, has_room, needs, outcome_of, takes_frame, takes_text, with_partner}
use Rattle.node_model.specs.DropStep.{takes_drop}
use Rattle.step_facts.proofs.ServerEnds.{sent_same}
use Rattle.step_facts.proofs.ClientTurns.{made_entry, moved}
use Rattle.step_facts.proofs.ClientSteps.{attempts_even, release_is}

abbrev pub lost : Phase
lost = Ends (Refused (refusals.Lost true))

-- ---- the steps of a job that has nothing left but its end

abbrev pub Rested : Phase → Type 0
Rested Removed = Unit {0}
Rested Denied = Unit {0}
Rested (Ends outcome) = Unit {0}
Rested phase = ⊥

-- its share couldn't be released, or it ends
abbrev pub RestedMakes : Turn → Phase → Effect → Type 0
RestedMakes t phase m = (m ≡ record (quietly (Fault Unhold (by_me t)) None) { calls = m.calls }) ⊎ (m.kind ≡ ends_job t.w.number (outcome_of t phase))

ends_makes : (t : Turn) (phase : Phase) → RestedMakes t phase (ends t None (outcome_of t phase))
ends_makes t phase =
    let outcome = outcome_of t phase in
    let released = to_release (owns_share t && not (is_lost_ordered outcome)) in
    let rest : Effect = record { kind = ends_job t.w.number outcome; taken = None; sent = farewells t (is_lost_ordered outcome); lines = []; calls = [] } in
    attempts_even (RestedMakes t phase) t released None rest
    (λ call e. inl (ap (λ (c : Call). record (quietly (Fault c (by_me t)) None) { calls = released ++ [] }) (release_is (owns_share t && not (is_lost_ordered outcome)) call e))) (inr refl)

rested_goes : (t : Turn) (phase : Phase) → Rested phase → (partner t.w.what.peer phase ≡ None) × (goes t phase ≡ ends t None (outcome_of t phase))
rested_goes t Removed r = (refl, refl)
rested_goes t Denied r = (refl, refl)
rested_goes t (Ends outcome) r = (refl, refl)
rested_goes t phase r = absurd r

pub rested_makes : (t : Turn) (phase : Phase) → t.w.phase ≡ phase → Rested phase → (m : Effect) → by_partner t (partner t.w.what.peer t.w.phase) ≡ Some m → RestedMakes t phase m
rested_makes t phase is rested m e = go (list_all (has_room t) (needs t t.w.phase)) (subst (λ (p : Option ℕ). by_partner t p ≡ Some m) (ap (partner t.w.what.peer) is ∙ (rested_goes t phase rested).0) e)
  where
    go : (b : Bool) → (if b then Some (goes t t.w.phase) else None) ≡ Some m → RestedMakes t phase m
    go false g = absurd (cc)
    go true g =
        let same : goes t t.w.phase ≡ m = cc in
        let made : ends t None (outcome_of t phase) ≡ m = sym (rested_goes t phase rested).1 ∙ sym (ap (goes t) is) ∙ same in
        subst (RestedMakes t phase) made (ends_makes t phase)

-- ---- the steps of a job that awaits the answer to its order

-- it took the answer, and goes to this phase
pub record AnswersOrder (t : Turn) (m : Effect) : Type 0 where
  pub f : FrameView
  pub made : m ≡ hears t f
  pub answer : is_answer (message_in f.body) ≡ true
  pub phase : ((moved t m (talk t)).phase ≡ Removed) ⊎ ((moved t m (talk t)).phase ≡ Denied)

abbrev pub OrdersMake : Turn → Effect → Type 0
OrdersMake t m = (m.kind ≡ talk t) × (((moved t m (talk t)).phase ≡ lost) ⊎ AnswersOrder t m)

line_answers : (text : List ℕ) (m : Message) → message_of text ≡ Some m → is_answer (Says m) ≡ true → is_answer (message_in (Line text)) ≡ true
unfolding message_in
line_answers text m e is = ap (λ o. is_answer (said_line o)) e ∙ is

module _ (before : Turn) (peer : ℕ) where
  abbrev t : Turn
  t = record before { w = record before.w { part = Drops; phase = Orders; what = record before.w.what { peer = Some peer } } }

  abbrev a : EndName
  a = job_end t.w peer

  module _ (side : side_of t.w ≡ Remote) where
    target_is : (Jobs.target_of (me t) t.w == peer) ≡ true
    target_is = ap (λ d. Jobs.or_own (me t) d (Some peer) == peer) side ∙ eqb_refl peer

    -- the connection is closed
    closed : (m : Effect) → (end_after a (end_with t peer) (made_entry t m)).opened ≡ false → (moved t m (talk t)).phase ≡ lost
    closed m shut = rw shut (rw target_is refl)

    wrong_makes : (f : FrameView) → OrdersMake t (wrong_message t f peer)
    wrong_makes f =
        let c = end_took (end_with t peer) (taken_at a (Some f)) in
        let shut : (end_after a (end_with t peer) (made_entry t (wrong_message t f peer))).opened ≡ false = ap (λ (fs : List FrameView). (fold (λ (d : End) (g : FrameView). end_sends d g.body) c fs).opened) (sent_same a (end_with t peer) (Closing ∷ [])) in
        (refl, inl (closed (wrong_message t f peer) shut))

    module _ (f : FrameView) (of_end : takes_at a f ≡ true) (opened : (end_with t peer).opened ≡ true) where
      took_is : (end_after a (end_with t peer) (made_entry t (hears t f))) ≡ end_takes (end_with t peer) f.epoch f.body
      took_is = rw of_end refl

      heard : (text : List ℕ) (m : Message) (to : Phase) → f.body ≡ Line text → message_of text ≡ Some m → (Jobs.listens t.w Orders m).phase ≡ to → (moved t (hears t f) (talk t)).phase ≡ to
      heard text m to body reads goes =
          let still : (end_after a (end_with t peer) (made_entry t (hears t f))).opened ≡ true = ap (λ (c : End). c.opened) took_is ∙ ap (λ (b : FrameText). (end_takes (end_with t peer) f.epoch b).opened) body ∙ opened in
          rw still (ap (λ (b : FrameText). (Jobs.after_frame t.w b).phase) body ∙ ap (λ (o : Option Message). (Jobs.after_line t.w o).phase) reads ∙ goes)

      drop_makes : (text : List ℕ) (m : Message) → f.body ≡ Line text → message_of text ≡ Some m → OrdersMake t (takes_drop t f peer Orders m)
      drop_makes text Success body reads = (refl, inr (record { f = f; made = refl; answer = ap (λ b. is_answer (message_in b)) body ∙ line_answers text Success reads refl; phase = inl (heard text Success Removed body reads refl) }))
      drop_makes text Failure body reads = (refl, inr (record { f = f; made = refl; answer = ap (λ b. is_answer (message_in b)) body ∙ line_answers text Failure reads refl; phase = inr (heard text Failure Denied body reads refl) }))
      drop_makes text m body reads = wrong_makes f

      frame_makes : (body : FrameText) → f.body ≡ body → OrdersMake t (takes_frame t peer f body)
      frame_makes Opening is = wrong_makes f
      frame_makes Closing is = (refl, inl (closed (hears t f) (ap (λ (c : End). c.opened) took_is ∙ ap (λ (b : FrameText). (end_takes (end_with t peer) f.epoch b).opened) is)))
      frame_makes (Bytes n) is = wrong_makes f
      frame_makes (Line text) is = go (message_of text) refl
        where
          go : (o : Option Message) → message_of text ≡ o → OrdersMake t (takes_text t f peer o)
          go None e = wrong_makes f
          go (Some m) e = drop_makes text m is e

    orders_make : (m : Effect) → by_partner t (Some peer) ≡ Some m → OrdersMake t m
    orders_make m e = go (end_with t peer).opened refl e
      where
        by_frame : (end_with t peer).opened ≡ true → (o : Option FrameView) → waiting_frame (end_with t peer) t.look a ≡ o → awaits t peer o ≡ Some m → OrdersMake t m
        by_frame opened None is g = absurd (cc)
        by_frame opened (Some f) is g = room (has_room t peer) g
          where
            room : (b : Bool) → (if b then Some (takes_frame t peer f f.body) else None) ≡ Some m → OrdersMake t m
            room false h = absurd (cc)
            room true h =
                let same : takes_frame t peer f f.body ≡ m = cc in
                let was = find_member (λ g. takes_at a g && may_take (end_with t peer) g) t.look.at_hand f is in
                let both = and_parts (takes_at a f) (may_take (end_with t peer) f) was.1 in
                subst (OrdersMake t) same (frame_makes f both.0 opened f.body refl)

        go : (b : Bool) → (end_with t peer).opened ≡ b → with_partner t peer b ≡ Some m → OrdersMake t m
        go false shut g = let same : quietly (talk t) None ≡ m = cc in subst (OrdersMake t) same (refl, inl (closed (quietly (talk t) None) shut))
        go true opened g = by_frame opened (waiting_frame (end_with t peer) t.look a) refl g

-- of any job that stands so
pub orders_at : (t : Turn) (peer : ℕ) → t.w.part ≡ Drops → t.w.phase ≡ Orders → t.w.what.peer ≡ Some peer → side_of t.w ≡ Remote → (m : Effect) → by_partner t (partner t.w.what.peer t.w.phase) ≡ Some m → OrdersMake t m
orders_at t' peer part phase on side m e =
    subst (λ (y : Turn). OrdersMake y m) (sym same)
    (orders_make t' peer (subst (λ (q : Option ℕ). Jobs.drop_side t'.w.what.kind q ≡ Remote) on side) m (subst (λ (y : Turn). by_partner y (partner y.w.what.peer y.w.phase) ≡ Some m) same e))
  where
    same : t' ≡ t t' peer
    same i = record t' { w = record t'.w { part = part i; phase = phase i; what = record t'.w.what { peer = on i } } }
