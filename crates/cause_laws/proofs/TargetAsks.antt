-- Only a remote drop asks for a time, or orders.
use Rattle.std.proofs.Common.{◌≡◌, ◌≢◌, ℕ, List, [], ◌∷◌, Option, Some, None, inl, inr, refl, sym, ap, ◌∙◌, subst}
use Rattle.annex_base.specs.Lists.{Member}
use Rattle.annex_base.specs.declared.kinds.Word.{Word}
use Rattle.step_facts.proofs.Below.{SentAreRead}
use Rattle.drop_proof.specs.declared.rule.Side.{Side}
use Rattle.drop_proof.specs.declared.rule.Side.TheVariants.{Local, Remote}
use Rattle.run_data.specs.declared.entry.Entry.{Entry}
use Rattle.run_data.specs.declared.entry.EntryKind.{EntryKind}
use Rattle.run_data.specs.declared.entry.EntryKind.TheVariants.{Gain, Share, Bar, Order, Gone, Talk, Fault, End as ends_job}
use Rattle.run_data.specs.declared.entry.FrameView.{FrameView}
use Rattle.run_data.specs.declared.entry.FrameText.{FrameText}
use Rattle.run_data.specs.declared.entry.FrameText.TheVariants.{Opening, Closing, Bytes, Line}
use Rattle.run_data.specs.declared.job.Outcome.{Outcome}
use Rattle.p2p_wire.specs.declared.message.Message.{Message}
use Rattle.p2p_wire.specs.declared.message.Message.TheVariants.{CheckPresent, Data, Failure, Get, GetTimestamp, LockContent, Put, Success, Valid, Version}
use Rattle.p2p_wire.specs.Messages.{order_of, message_of, text_of}
use Rattle.node_model.specs.SetUp.{SetUp}
use Rattle.node_model.specs.Sessions.{line_in}
use Rattle.node_model.specs.Ends.{End, EndName, frames}
use Rattle.node_model.specs.Jobs
use Rattle.node_model.specs.Jobs.{AsksLock, Drops, Gets, Greets, Next, Opens, Part, Phase, Puts, Work, job_end, side_of, target_of}
use Rattle.node_model.specs.Look.{Effect}
use Rattle.node_model.specs.JobStep.{Turn, end_with}
use Rattle.node_model.specs.DropStep.{target}
use Rattle.node_model.specs.Found.{IsJobEntry}
use Rattle.run_model.specs.Run.{OwnPart, OwnRun}
use Rattle.job_facts.proofs.ReadAs.{IsJobs, SameHead}
use Rattle.step_facts.proofs.JobSteps.{Steps, turn_at}
use Rattle.job_facts.proofs.TalkFacts.{DropAsks, Fits, GetAsks, PartAsks, PartSays, PutAsks, TalkKind}
use Rattle.job_facts.proofs.WorkFits.{drop_is, drop_jobs, get_jobs, head_of, put_jobs, step_kind, step_sent, step_talk}
use Rattle.run_laws.proofs.JobLines.{job_said, orders_order, order_jobs}
use Rattle.job_facts.proofs.OpenEnds.{job_sends_to}
use Rattle.job_facts.proofs.OwnTried.{other_apart}
use Rattle.dialogue_facts.proofs.EndReasons.{SaysFirst}
use Rattle.run_laws.proofs.SaidDown.{said_is}

-- a drop with another target is remote
remote_by : (s : SetUp) (w : Work) → target_of s.number w ≢ s.number → side_of w ≡ Remote
remote_by s w apart = go (side_of w) refl
  where
    go : (d : Side) → side_of w ≡ d → side_of w ≡ Remote
    go Remote is = is
    go Local is = absurd (apart (ap (λ (d : Side). Jobs.or_own s.number d w.what.peer) is))

-- the first frame of one
first_of : (e : Entry) (m : Message) (fs : List FrameView) (a : EndName) (c : End) (body : FrameText) (x : SaysFirst e m) → e.sent ≡ fs → fs ≡ frames a c (body ∷ []) → (line_in body ≡ Some m) × (x.f.peer ≡ a.peer)
first_of e m fs a c body x sent is =
    let both : x.f ∷ x.rest ≡ frames a c (body ∷ []) = sym x.sent_is ∙ sent ∙ is in
    let head : Some x.f ≡ first (frames a c (body ∷ [])) = ap first both in
    (sym (same (λ (f : FrameView). line_in f.body) head) ∙ x.told, same (λ (f : FrameView). f.peer) head)
  where
    first : List FrameView → Option FrameView
    first [] = None
    first (f ∷ fs) = Some f

    same : {X : Type 0} (p : FrameView → X) {f g : FrameView} → Some f ≡ Some g → p f ≡ p g
    same p is = ap p (cc)

first_none : (e : Entry) (m : Message) (fs : List FrameView) → SaysFirst e m → e.sent ≡ fs → fs ≡ [] → ⊥
first_none e m fs x sent none = let both : x.f ∷ x.rest ≡ [] = sym x.sent_is ∙ sent ∙ none in cc

line_head : (m x : Message) (body : FrameText) → body ≡ Line (text_of m) → IsJobs m → line_in body ≡ Some x → SameHead m x
line_head m x body is jobs told = head_of m x jobs (sym (ap line_in is) ∙ told)

get_time : (m : Message) → GetAsks m → SameHead m GetTimestamp → ⊥
get_time (Version n) a h = h
get_time (Get n file key) a h = h
get_time Failure a h = h
get_time m a h = a

put_time : (m : Message) → PutAsks m → SameHead m GetTimestamp → ⊥
put_time (Version n) a h = h
put_time (Put file key) a h = h
put_time (Data n) a h = h
put_time Valid a h = h
put_time m a h = a

drop_time : (t : Turn) (peer : ℕ) (phase : Phase) (m : Message) → DropAsks t peer phase m → SameHead m GetTimestamp → peer ≡ target t
drop_time t peer (Opens p) (Version n) a h = absurd h
drop_time t peer (Greets p) (LockContent key) a h = absurd h
drop_time t peer (Greets p) GetTimestamp a h = a.1
drop_time t peer Next (LockContent key) a h = absurd h
drop_time t peer Next GetTimestamp a h = a.1
drop_time t peer (AsksLock p since) (CheckPresent key) a h = absurd h
drop_time t peer phase m a h = absurd a

part_time : (t : Turn) (peer : ℕ) (part : Part) (m : Message) → PartAsks t peer part m → message_of (text_of m) ≡ Some GetTimestamp → peer ≡ target t
part_time t peer Gets m a e = absurd (get_time m a (head_of m GetTimestamp (get_jobs m a) e))
part_time t peer Puts m a e = absurd (put_time m a (head_of m GetTimestamp (put_jobs m a) e))
part_time t peer Drops m a e = drop_time t peer t.w.phase m a (head_of m GetTimestamp (drop_jobs m (drop_is t peer t.w.phase m a)) e)

body_time : (t : Turn) (peer : ℕ) (body : FrameText) → PartSays t peer t.w.part body → line_in body ≡ Some GetTimestamp → peer ≡ target t
body_time t peer (Line text) says told = part_time t peer t.w.part says.0 says.2 (ap message_of (sym says.1) ∙ told)
body_time t peer Opening says told = absurd (cc)
body_time t peer Closing says told = absurd (cc)
body_time t peer (Bytes n) says told = absurd (cc)

order_time : (deadline : Option ℕ) (key : List ℕ) → SameHead (order_of deadline key) GetTimestamp → ⊥
order_time None key h = h
order_time (Some n) key h = h

-- GETTIMESTAMP goes to the target, which is another repository
to_target : (t : Turn) (m : Effect) (e : Entry) (kind : EntryKind) → IsJobEntry t m kind → TalkKind t m kind → e.sent ≡ m.sent → ((j : ℕ) (outcome : Outcome) → kind ≢ ends_job j outcome) → (x : SaysFirst e GetTimestamp) → x.f.peer ≡ target t
to_target t m e (Share hold end by key) k talk sent goes_on x = absurd (first_none e GetTimestamp m.sent x sent k.sends_none)
to_target t m e (Bar j need key) k talk sent goes_on x = absurd (first_none e GetTimestamp m.sent x sent k.sends_none)
to_target t m e (Gone by key) k talk sent goes_on x = absurd (first_none e GetTimestamp m.sent x sent k.sends_none)
to_target t m e (Order j peer deadline need key) k talk sent goes_on x =
    let z = first_of e GetTimestamp m.sent (job_end t.w peer) (end_with t peer) (Line (text_of (order_of deadline key))) x sent k.sent_is in
    absurd (order_time deadline key (line_head (order_of deadline key) GetTimestamp _ refl (order_jobs deadline key) z.0))
to_target t m e (Gain by size key) k talk sent goes_on x =
    let z = first_of e GetTimestamp m.sent (job_end t.w k.peer) (end_with t k.peer) (Line (text_of Success)) x sent k.sent_is in
    absurd (line_head Success GetTimestamp _ refl tt z.0)
to_target t m e (ends_job j outcome) k talk sent goes_on x = absurd (goes_on j outcome refl)
to_target t m e (Talk (Some j)) k talk sent goes_on x = elim (talk.says) [
  | inl none ↦ absurd (first_none e GetTimestamp m.sent x sent none)
  | inr one ↦ (let z = first_of e GetTimestamp m.sent (job_end t.w one.peer) (end_with t one.peer) one.body x sent one.sent_is in z.1 ∙ body_time t one.peer one.body one.says z.0)
]
to_target t m e (Fault call by) k talk sent goes_on x = absurd (first_none e GetTimestamp m.sent x sent k.1)
to_target t m e kind k talk sent goes_on x = absurd k

first_member : (e : Entry) (m : Message) (x : SaysFirst e m) → Member x.f e.sent
first_member e m x = subst (Member x.f) (sym x.sent_is) (inl refl)

module _ (reads_back : SentAreRead) (s : SetUp) (past : List Entry) (words : ℕ → Option Word) (e : Entry) (run : OwnRun s past) (own : OwnPart s past words e) (w : Work) (b : Steps s past e w) (fits : Fits b.by.w.part b.by.w.phase) where
  pub time_remote : SaysFirst e GetTimestamp → side_of b.by.w ≡ Remote
  time_remote x =
      let t = turn_at s past e b.by in
      let at = to_target t b.by.made e e.kind (step_kind s past e w b) (step_talk s past e w b fits) (step_sent s past e w b) b.goes_on x in
      remote_by s b.by.w (λ same. other_apart s x.f.peer (job_sends_to reads_back s past words e run own b.by x.f (first_member e GetTimestamp x)) (at ∙ same))

  pub order_remote : (deadline : Option ℕ) (key : List ℕ) → SaysFirst e (order_of deadline key) → side_of b.by.w ≡ Remote
  order_remote deadline key x =
      let t = turn_at s past e b.by in
      let k = step_kind s past e w b in
      let sent : Member x.f b.by.made.sent = subst (Member x.f) (step_sent s past e w b) (first_member e (order_of deadline key) x) in
      let o = orders_order t e.kind x.f deadline key (job_said t b.by.made e.kind k x.f sent) (said_is x.f.body (order_of deadline key) x.told) in
      (subst (IsJobEntry t b.by.made) o.5 k).side
