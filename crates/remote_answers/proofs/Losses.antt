-- The steps of a remote drop that take a message, or find the connection closed.
use Rattle.std.proofs.Common.{inl, inr, ◌≡◌, ℕ, Bool, true, false, List, [], ◌∷◌, Some, None, Result, Ok, Err, refl, sym, ap, ◌∙◌, subst}
use Rattle.std.specs.Prelude.{IfOk, ◌==◌, if◌then◌else◌}
use Rattle.run_data.specs.declared.entry.EntryKind.{EntryKind}
use Rattle.run_data.specs.declared.entry.EntryKind.TheVariants.{Talk}
use Rattle.run_data.specs.declared.entry.FrameView.{FrameView}
use Rattle.p2p_wire.specs.declared.message.Message.{Message}
use Rattle.p2p_wire.specs.declared.message.Message.TheVariants as messages
use Rattle.node_model.specs.DropStep.{takes_drop}
use Rattle.node_model.specs.Jobs as Jobs
use Rattle.node_model.specs.Jobs.{learns, partner}
use Rattle.node_model.specs.JobStep.{Turn, wrong_message}
use Rattle.node_model.specs.Turns.{takes, takes_frame}
use Rattle.node_model.specs.Look.{as_told, failed_in}
use Rattle.annex_base.specs.declared.memory.NoMemory.{NoMemory}
use Rattle.content_lock.specs.Rows.{AreAfter, Rows}
use Rattle.drop_phases.specs.declared.phase.Phase.{Phase}
use Rattle.drop_phases.specs.declared.phase.Phase.TheVariants as phases
use Rattle.drop_phases.specs.declared.phase.Ending.TheVariants as endings
use Rattle.drop_phases.specs.declared.phase.Heard.{Heard}
use Rattle.drop_phases.specs.declared.phase.Heard.TheVariants as heards
use Rattle.run_data.specs.declared.job.Cause.TheVariants as causes
use Rattle.drop_phases.specs.declared.phase.Token.{Token}
use Rattle.drop_phases.specs.declared.turn.Output.{Output}
use Rattle.drop_phases.specs.declared.turn.Taken.TheVariants as takens
use Rattle.drop_phases.specs.Worker.{Worker}
use Rattle.drop_phases.specs.Working.{Rest, Sight, phase_as, turn_in, work_of}
use Rattle.drop_phases.specs.Doing.{Comes, DoesAsAsked, Grows, contents_after, next_work}
use Rattle.drop_phases.specs.Feeding.{FitsRemote, HasNoBar}
use Rattle.remote_requests.specs.Remote.{IsRemote, ShutsRemote, Speaks, is_ordering, without_peer}
use Rattle.remote_requests.proofs.Losing.{closed_remote}
use Rattle.drop_phases.proofs.Takings.{close_parcel, line_takes, lined, moved_shut, talk_does}

-- a message that isn't expected
pub lost_does : (x : Sight) (rows : Rows) (p : List ℕ → Bool) (w w' : Worker) (f : FrameView) (target peer : ℕ) (took : Message) (out : Output) → IsRemote target w → ShutsRemote target peer w w' out
    → Comes x w.slot peer f (takens.Message took) → ((rest : Rest) → learns (work_of rest w) (phase_as w.phase) (Some f) ≡ work_of rest w) → partner w.job.peer (phase_as w.phase) ≡ Some peer
    → ((rest : Rest) → wrong_message (turn_in x rows p None rest w) f peer ≡ takes (turn_in x rows p None rest w) f peer (phase_as w.phase) took) → DoesAsAsked x rows rows p w w' (Some f) (λ t. takes_frame t peer f f.body) out
lost_does x rows p w w' f target peer took out remote shuts comes learn with_peer makes =
    let line = lined f.body took comes.is in
    let is : (rest : Rest) → wrong_message (turn_in x rows p None rest w) f peer ≡ takes_frame (turn_in x rows p None rest w) peer f f.body = (λ rest. makes rest ∙ line_takes (turn_in x rows p None rest w) f peer took line) in
    talk_does x rows p w w' (Some f) (λ t. takes_frame t peer f f.body) _ out shuts.kind shuts.sends
    (λ rest. (λ i. record { kind = Talk (Some w.number); taken = Some f; sent = close_parcel x w.slot peer i; lines = []; calls = [] }) ∙ ap as_told (is rest))
    (λ rest. ap (work_of rest) shuts.next ∙ (sym (closed_remote rest w target x.read.repo peer remote)
    ∙ (sym (moved_shut (turn_in x rows p None rest w) f peer took w.version refl (learn rest) with_peer line comes.live) ∙ ap (next_work (turn_in x rows p None rest w)) (is rest))))

-- what isn't expected as the answer to an order
pub orders_else : (t : Turn) (f : FrameView) (peer : ℕ) (m : Message) → (m ≡ messages.Success → ⊥) → (m ≡ messages.Failure → ⊥) → takes_drop t f peer Jobs.Orders m ≡ wrong_message t f peer
orders_else t f peer (messages.AuthSuccess id) a b = refl
orders_else t f peer (messages.Version n) a b = refl
orders_else t f peer (messages.CheckPresent k) a b = refl
orders_else t f peer (messages.LockContent k) a b = refl
orders_else t f peer (messages.UnlockContent k) a b = refl
orders_else t f peer (messages.Remove k) a b = refl
orders_else t f peer (messages.RemoveBefore n k) a b = refl
orders_else t f peer messages.GetTimestamp a b = refl
orders_else t f peer (messages.Timestamp n) a b = refl
orders_else t f peer (messages.Get n file k) a b = refl
orders_else t f peer (messages.Put file k) a b = refl
orders_else t f peer (messages.PutFrom n) a b = refl
orders_else t f peer messages.AlreadyHave a b = refl
orders_else t f peer (messages.Data n) a b = refl
orders_else t f peer messages.Valid a b = refl
orders_else t f peer messages.Invalid a b = refl
orders_else t f peer messages.Success a b = absurd (a refl)
orders_else t f peer messages.Failure a b = absurd (b refl)
orders_else t f peer (messages.Error text) a b = refl

-- ---- what stays of a worker that talks

no_bar_fits : (ph : Phase) (token : Token) → HasNoBar token → (ph ≡ phases.Fresh → ⊥) → FitsRemote ph token
no_bar_fits phases.Fresh token bare fresh = absurd (fresh refl)
no_bar_fits phases.Next token bare fresh = bare
no_bar_fits (phases.Opens peer) token bare fresh = bare
no_bar_fits (phases.Greets peer) token bare fresh = bare
no_bar_fits (phases.AsksLock peer since) token bare fresh = bare
no_bar_fits (phases.AsksLook peer) token bare fresh = bare
no_bar_fits phases.AsksTime token bare fresh = bare
no_bar_fits phases.Orders token bare fresh = bare
no_bar_fits phases.Removed token bare fresh = bare
no_bar_fits phases.Denied token bare fresh = bare
no_bar_fits (phases.Late time) token bare fresh = bare
no_bar_fits (phases.Ends why) token bare fresh = bare

pub speaks_as : (w v w' : Worker) (out : Output) → out.kind ≡ Talk (Some w.number) → out.ended ≡ false → w' ≡ v → v.number ≡ w.number → v.job ≡ w.job → v.token ≡ w.token → Grows w.heard v.heard
    → (v.phase ≡ phases.Fresh → ⊥) → Speaks w w' out
speaks_as w v w' out kind ended is number job token heard fresh =
    subst (λ (u : Worker). Speaks w u out) (sym is) (record {
      faultless = ap failed_in kind;
      still = λ known. ap (contents_after known) kind;
      after = λ rows. subst (λ (e : EntryKind). AreAfter e rows rows) (sym kind) (record { holds = refl; bars = λ k. refl; fills = refl });
      goes_on = ended;
      number = number;
      job = job;
      token = token;
      heard = heard;
      fits = λ bare. no_bar_fits v.phase v.token (subst (λ (t : Token). HasNoBar t) (sym token) bare) fresh;
    })

pub heard_speaks : (w w' : Worker) (peer : ℕ) (h : Heard) (out : Output) → out.kind ≡ Talk (Some w.number) → out.ended ≡ false
    → w' ≡ record w { heard = (peer, h) ∷ w.heard; phase = phases.Next } → Speaks w w' out
heard_speaks w w' peer h out kind ended is = speaks_as w (record w { heard = (peer, h) ∷ w.heard; phase = phases.Next }) w' out kind ended is refl refl refl (inr ((peer, h), refl)) (λ e. absurd (cc))

pub parted_speaks : (w w' : Worker) (target peer : ℕ) (out : Output) → out.kind ≡ Talk (Some w.number) → out.ended ≡ false → w' ≡ without_peer w target peer → Speaks w w' out
parted_speaks w w' target peer out kind ended is = go (target == peer) is
  where
    go : (b : Bool) → w' ≡ (if b then record w { phase = phases.Ends (endings.Lost (is_ordering w.phase)) } else record w { heard = (peer, heards.Lacks causes.Closed) ∷ w.heard; phase = phases.Next }) → Speaks w w' out
    go true e = speaks_as w (record w { phase = phases.Ends (endings.Lost (is_ordering w.phase)) }) w' out kind ended e refl refl refl (inl refl) (λ e. absurd (cc))
    go false e = heard_speaks w w' peer (heards.Lacks causes.Closed) out kind ended e

pub shuts_speaks : (w w' : Worker) (target peer : ℕ) (r : Result Output NoMemory) → IfOk r (ShutsRemote target peer w w') → IfOk r (Speaks w w')
shuts_speaks w w' target peer (Ok out) s = parted_speaks w w' target peer out s.kind s.goes_on s.next
shuts_speaks w w' target peer (Err e) s = tt
