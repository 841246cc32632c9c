-- What a drop asks where it stands, and what it does with an answer.
use Rattle.std.specs.Prelude.{if◌then◌else◌, ◌==◌}
use Rattle.std.proofs.Common.{◌≡◌, ℕ, Bool, true, false, List, [], ◌∷◌, Option, Some, None, inl, inr, refl, sym, ap, ◌∙◌, subst, arith}
use Rattle.std.proofs.lemmas.Option.{same_Some}
use Rattle.annex_base.specs.Lists.{Member}
use Rattle.drop_proof.specs.declared.rule.Side.TheVariants.{Remote}
use Rattle.run_data.specs.declared.entry.FrameView.{FrameView}
use Rattle.run_data.specs.declared.entry.FrameText.{FrameText}
use Rattle.run_data.specs.declared.entry.FrameText.TheVariants.{Opening, Closing, Bytes, Line}
use Rattle.run_data.specs.declared.job.JobKind.TheVariants as kinds
use Rattle.p2p_wire.specs.declared.message.Message.{Message}
use Rattle.p2p_wire.specs.declared.message.Message.TheVariants.{AuthSuccess, CheckPresent, Failure, GetTimestamp, LockContent, Remove, RemoveBefore, Success, Valid, Version}
use Rattle.p2p_wire.specs.Messages.{message_of, order_of, text_of}
use Rattle.node_model.specs.Jobs.{Part, Gets, Puts, Drops, Phase, Opens, Greets, Next, AsksLock, Work, partner, job_end, side_of}
use Rattle.node_model.specs.JobStep.{Turn, end_with, quietly, talk, wrong_message}
use Rattle.node_model.specs.Look.{Effect, waiting_frame}
use Rattle.node_model.specs.Sessions.{line_in}
use Rattle.node_model.specs.DropStep.{takes_drop, target}
use Rattle.node_model.specs.TransferStep.{takes_bytes}
use Rattle.node_model.specs.Turns.{awaits, by_partner, goes_on, has_room, is_awaiting, takes, takes_answer, takes_frame, takes_text, with_partner}
use Rattle.run_model.specs.Causes.{is_get, is_put}
use Rattle.step_facts.proofs.Below.{SentAreRead}
use Rattle.job_facts.proofs.ReadAs.{SameHead}
use Rattle.job_facts.proofs.TalkFacts.{DropAsks, PartSays}
use Rattle.job_facts.proofs.WorkFits.{drop_is, drop_jobs, head_of}
use Rattle.alone_drops.proofs.Frames.{frame_body}

-- a job of a drop is in its drop
pub drop_job : (w : Work) → w.what.kind ≡ kinds.Drop → (w.part ≡ Gets → is_get w.what.kind ≡ true) × (w.part ≡ Puts → is_put w.what.kind ≡ true) → w.part ≡ Drops
drop_job w is of = go w.part refl
  where
    go : (part : Part) → w.part ≡ part → part ≡ Drops
    go Drops at = refl
    go Gets at = absurd (let yes' : is_get kinds.Drop ≡ true = subst (λ k. is_get k ≡ true) is (of.0 at) in cc)
    go Puts at = absurd (let yes' : is_put kinds.Drop ≡ true = subst (λ k. is_put k ≡ true) is (of.1 at) in cc)

-- ---- what it asks

-- what a message of a drop to a peer tells of where the drop stands: VERSION that it has just opened the connection, LOCKCONTENT of a remote drop that the
-- peer is a candidate, and CHECKPRESENT that it has asked for a lock; VALID doesn't come
abbrev pub Asked : Turn → ℕ → Phase → Message → Type 0
Asked t peer phase (Version n) = (p : ℕ) × (phase ≡ Opens p)
Asked t peer phase (LockContent key) = side_of t.w ≡ Remote → (target t == peer) ≡ false
Asked t peer phase (CheckPresent key) = (since : ℕ) × (phase ≡ AsksLock peer since)
Asked t peer phase Valid = ⊥
Asked t peer phase m = Unit {0}

asked : (t : Turn) (peer : ℕ) (phase : Phase) (x m : Message) → DropAsks t peer phase x → SameHead x m → Asked t peer phase m
asked t peer (Opens p) (Version n) (Version k) a h = (p, refl)
asked t peer (Opens p) (Version n) m a h = absurd h
asked t peer (Greets p) (LockContent k) (LockContent key) a h = a.2
asked t peer (Greets p) (LockContent k) m a h = absurd h
asked t peer (Greets p) GetTimestamp GetTimestamp a h = tt
asked t peer (Greets p) GetTimestamp m a h = absurd h
asked t peer Next (LockContent k) (LockContent key) a h = a.2
asked t peer Next (LockContent k) m a h = absurd h
asked t peer Next GetTimestamp GetTimestamp a h = tt
asked t peer Next GetTimestamp m a h = absurd h
asked t peer (AsksLock p since) (CheckPresent k) (CheckPresent key) a h = (since, ap (λ n. AsksLock n since) a.0)
asked t peer (AsksLock p since) (CheckPresent k) m a h = absurd h
asked t peer phase x m a h = absurd a

pub order_asked : (t : Turn) (peer : ℕ) (phase : Phase) (deadline : Option ℕ) (key : List ℕ) (m : Message) → SameHead (order_of deadline key) m → Asked t peer phase m
order_asked t peer phase None key (Remove k) h = tt
order_asked t peer phase None key m h = absurd h
order_asked t peer phase (Some n) key (RemoveBefore d k) h = tt
order_asked t peer phase (Some n) key m h = absurd h

pub body_asked : (t : Turn) (peer : ℕ) (body : FrameText) (m : Message) → t.w.part ≡ Drops → PartSays t peer t.w.part body → line_in body ≡ Some m → Asked t peer t.w.phase m
body_asked t peer body m part says told = go body (subst (λ q. PartSays t peer q body) part says) told
  where
    go : (body : FrameText) → PartSays t peer Drops body → line_in body ≡ Some m → Asked t peer t.w.phase m
    go (Line text) x told = asked t peer t.w.phase x.0 m x.2 (head_of x.0 m (drop_jobs x.0 (drop_is t peer t.w.phase x.0 x.2)) (ap message_of (sym x.1) ∙ told))
    go Opening x told = absurd (cc)
    go Closing x told = absurd (cc)
    go (Bytes n) x told = absurd (cc)

-- ---- what it does with an answer

-- a step that awaits an answer does something of the frame that it takes: by what it does with a line
module _ (P : Effect → Type 0) (t : Turn) (p : ℕ) (phase : Phase) (at : t.w.phase ≡ phase) (on : partner t.w.what.peer phase ≡ Some p) (waits : is_awaiting phase ≡ true) (quiet : (taken : Option FrameView) → P (quietly (talk t) taken))
    (wrong : (f : FrameView) → P (wrong_message t f p)) (bytes : (f : FrameView) (n : ℕ) → P (takes_bytes t f p n phase)) (says : (f : FrameView) (m : Message) → line_in f.body ≡ Some m → P (takes t f p phase m)) where
  text_does : (f : FrameView) (o : Option Message) → line_in f.body ≡ o → P (takes_text t f p o)
  text_does f None told = wrong f
  text_does f (Some m) told = subst (λ (q : Phase). P (takes t f p q m)) (sym at) (says f m told)

  frame_does : (f : FrameView) (body : FrameText) → f.body ≡ body → P (takes_frame t p f body)
  frame_does f Opening is = wrong f
  frame_does f Closing is = quiet (Some f)
  frame_does f (Bytes n) is = subst (λ (q : Phase). P (takes_bytes t f p n q)) (sym at) (bytes f n)
  frame_does f (Line text) is = text_does f (message_of text) (ap line_in is)

  answer_does : (m : Effect) → by_partner t (partner t.w.what.peer t.w.phase) ≡ Some m → P m
  answer_does m e = go (end_with t p).opened (subst (λ (o : Option ℕ). by_partner t o ≡ Some m) (ap (partner t.w.what.peer) at ∙ on) e)
    where
      room : (f : FrameView) (d : Bool) → (if d then Some (takes_frame t p f f.body) else None) ≡ Some m → P m
      room f true h = subst P (same_Some (takes_frame t p f f.body) m h) (frame_does f f.body refl)
      room f false h = absurd (cc)

      taken : (o : Option FrameView) → awaits t p o ≡ Some m → P m
      taken None h = absurd (cc)
      taken (Some f) h = room f (has_room t p) h

      go : (d : Bool) → with_partner t p d ≡ Some m → P m
      go false h = subst P (same_Some (quietly (talk t) None) m h) (quiet None)
      go true h = taken (waiting_frame (end_with t p) t.look (job_end t.w p)) (subst (λ (d : Bool). (if d then awaits t p (waiting_frame (end_with t p) t.look (job_end t.w p)) else goes_on t) ≡ Some m) (ap is_awaiting at ∙ waits) h)

-- a Close says no message
closing_says : (t : Turn) (p : ℕ) (f g : FrameView) (m : Message) → Member g (wrong_message t f p).sent → line_in g.body ≡ Some m → ⊥
closing_says t p f g m among told = elim (frame_body (job_end t.w p) (end_with t p) (Closing ∷ []) g among) [
  | inl is ↦ (let bad : None ≡ Some m = sym (ap line_in is) ∙ told in cc)
  | inr none ↦ none
]

-- where it has opened the connection, it says version 3
abbrev SaysThree : ℕ → Effect → Type 0
SaysThree k m = (g : FrameView) → Member g m.sent → line_in g.body ≡ Some (Version k) → k ≡ 3

pub opens_three : SentAreRead → (t : Turn) (k p : ℕ) → t.w.phase ≡ Opens p → t.w.part ≡ Drops → (m : Effect) → by_partner t (partner t.w.what.peer t.w.phase) ≡ Some m → SaysThree k m
opens_three reads_back t k p at part = answer_does (SaysThree k) t p (Opens p) at refl refl (λ taken g m told. absurd m) wrong (λ f n. wrong f) says
  where
    wrong : (f : FrameView) → SaysThree k (wrong_message t f p)
    wrong f g m told = absurd (closing_says t p f g (Version k) m told)

    number : Some (Version 3) ≡ Some (Version k) → k ≡ 3
    number e = cc

    says : (f : FrameView) (m : Message) → line_in f.body ≡ Some m → SaysThree k (takes t f p (Opens p) m)
    says f (AuthSuccess id) is = λ g m told. elim (frame_body (job_end t.w p) (end_with t p) (Line (text_of (Version 3)) ∷ []) g m) [
      | inl same ↦ number (sym (reads_back (Version 3) (omega arith) tt) ∙ (sym (ap line_in same) ∙ told))
      | inr none ↦ absurd none
    ]
    says f m is = subst (λ (d : Part). SaysThree k (takes_answer t f p d (Opens p) m)) (sym part) (wrong f)

-- where it has asked for a lock, it looks where it took FAILURE
pub record TookFailure (m : Effect) : Type 0 where
  pub f : FrameView
  pub taken_is : m.taken ≡ Some f
  pub told : line_in f.body ≡ Some Failure

abbrev LooksSo : Effect → Type 0
LooksSo m = (g : FrameView) (key : List ℕ) → Member g m.sent → line_in g.body ≡ Some (CheckPresent key) → TookFailure m

pub lock_looks : (t : Turn) (p since : ℕ) → t.w.phase ≡ AsksLock p since → t.w.part ≡ Drops → (m : Effect) → by_partner t (partner t.w.what.peer t.w.phase) ≡ Some m → LooksSo m
lock_looks t p since at part = answer_does LooksSo t p (AsksLock p since) at refl refl (λ taken g key m told. absurd m) wrong (λ f n. wrong f)
    (λ f m is. subst (λ (d : Part). LooksSo (takes_answer t f p d (AsksLock p since) m)) (sym part) (says f m is))
  where
    wrong : (f : FrameView) → LooksSo (wrong_message t f p)
    wrong f g key m told = absurd (closing_says t p f g (CheckPresent key) m told)

    says : (f : FrameView) (m : Message) → line_in f.body ≡ Some m → LooksSo (takes_drop t f p (AsksLock p since) m)
    says f Failure is = λ g key n told. record { f = f; taken_is = refl; told = is }
    says f Success is = λ g key n told. absurd n
    says f m is = wrong f
