-- A remote drop that is told what came at its partner's end: what its step does and leaves.
use Rattle.std.proofs.Common.{◌≡◌, ℕ, Bool, List, Option, Some, None, Result, Ok, Err, refl, sym, ap, ◌∙◌, subst, arith}
use Rattle.std.specs.Prelude.{IfOk, IfSome, OnErr}
use Rattle.annex_base.specs.Causes.{Rose}
use Rattle.annex_base.specs.declared.kinds.Call.{Call}
use Rattle.annex_base.specs.declared.memory.NoMemory.{NoMemory}
use Rattle.run_data.specs.declared.entry.FrameView.{FrameView}
use Rattle.p2p_wire.specs.declared.message.Message.{Message}
use Rattle.p2p_wire.specs.declared.message.Message.TheVariants as messages
use Rattle.node_model.specs.Ends.{End, EndName}
use Rattle.node_model.specs.Jobs as Jobs
use Rattle.node_model.specs.Jobs.{learns, partner}
use Rattle.node_model.specs.JobStep.{Turn, wrong_message}
use Rattle.node_model.specs.DropStep.{takes_drop}
use Rattle.node_model.specs.Knows.{Reading}
use Rattle.node_model.specs.Turns.{takes}
use Rattle.content_lock.specs.Rows.{Rows}
use Rattle.drop_phases.specs.declared.phase.Phase.{Phase}
use Rattle.drop_phases.specs.declared.phase.Phase.TheVariants as phases
use Rattle.drop_phases.specs.declared.phase.Token.{Token}
use Rattle.drop_phases.specs.declared.phase.Token.TheVariants as tokens
use Rattle.drop_phases.specs.declared.turn.Output.{Output}
use Rattle.drop_phases.specs.declared.turn.Taken.{Taken}
use Rattle.drop_phases.specs.declared.turn.Taken.TheVariants as takens
use Rattle.drop_phases.specs.Worker.{Worker}
use Rattle.drop_phases.specs.Working.{Rest, Sight, phase_as, sight, turn_in, work_of}
use Rattle.drop_phases.specs.Doing.{Takes}
use Rattle.drop_phases.specs.Feeding.{FindsClosed, FitsRemote, HasNoBar, TakesClose, TakesFed, TakesOther}
use Rattle.drop_phases.specs.Leaving.{Stays, Store, stands_on}
use Rattle.remote_requests.specs.Remote.{DidRemote, IsRemote, LeavesRemote, ShutsRemote, Speaks, StandsRemote, TakesRemote}
use Rattle.drop_phases.proofs.Doings.{fed_closed, fed_message, fed_other}
use Rattle.drop_phases.proofs.Leavings.{stays_same}
use Rattle.remote_answers.proofs.Losses.{lost_does}
use Rattle.drop_phases.proofs.Takings.{Lined, lined}
use Rattle.drop_phases.proofs.Tokens.{others_same}

-- ---- what it leaves

pub fits_barless : (ph : Phase) (token : Token) → FitsRemote ph token → HasNoBar token
fits_barless phases.Fresh tokens.Nothing fits = tt
fits_barless phases.Fresh (tokens.Bar bar) fits = absurd fits
fits_barless phases.Fresh (tokens.Share share) fits = absurd fits
fits_barless phases.Next token fits = fits
fits_barless (phases.Opens peer) token fits = fits
fits_barless (phases.Greets peer) token fits = fits
fits_barless (phases.AsksLock peer since) token fits = fits
fits_barless (phases.AsksLook peer) token fits = fits
fits_barless phases.AsksTime token fits = fits
fits_barless phases.Orders token fits = fits
fits_barless phases.Removed token fits = fits
fits_barless phases.Denied token fits = fits
fits_barless (phases.Late time) token fits = fits
fits_barless (phases.Ends why) token fits = fits

pub speaks_leaves : (target : ℕ) (rows : Rows) (k : Store) (w w' : Worker) (out : Output) → StandsRemote target k.records rows w → Speaks w w' out → LeavesRemote rows rows k k w w' out
speaks_leaves target rows k w w' out stands s =
    record {
      after = s.after rows;
      contents = sym (s.still k.contents);
      agrees = stands.agrees;
      later = omega arith;
      cause = subst (λ (o : Option Call). IfSome o (λ call. Rose k.faults k.faults)) (sym s.faultless) tt;
      owns = rw (s.number, s.job, s.token) stands.owns;
      fits = λ going. s.fits (fits_barless w.phase w.token stands.fits);
      heard = s.heard;
      number = s.number;
      job = s.job;
      others = others_same w.number rows rows refl;
    }

pub speaks_did : (target : ℕ) (rows : Rows) (k : Store) (w w' : Worker) (does : Output → Type 0) (r : Result Output NoMemory) → StandsRemote target k.records rows w
    → IfOk r does → IfOk r (Speaks w w') → OnErr r (w' ≡ w) → DidRemote rows rows k k w w' does r
speaks_did target rows k w w' does (Ok out) stands d s same = (d, speaks_leaves target rows k w w' out stands s)
speaks_did target rows k w w' does (Err e) stands d s same = subst (λ (u : Worker). Stays rows rows k k w u) (sym same) (stays_same rows k w)

-- ---- what it does

pub takes_fed : (read : Reading) (ends_at : EndName → End) (time : ℕ) (rows : Rows) (peer : ℕ) (taken : Taken) (w w' : Worker) (out : Output) → TakesFed time peer taken w w' out → TakesRemote read ends_at time rows rows peer taken w w' out
takes_fed read ends_at time rows peer taken w w' out t = λ number p f fed. t (sight read ends_at time number) rows p f refl fed

pub takes_so : (read : Reading) (ends_at : EndName → End) (time : ℕ) (rows : Rows) (peer : ℕ) (m : Message) (w w' : Worker) (r : Result Output NoMemory) → IfOk r (Takes time peer m w w') → IfOk r (TakesRemote read ends_at time rows rows peer (takens.Message m) w w')
takes_so read ends_at time rows peer m w w' (Ok out) t = takes_fed read ends_at time rows peer (takens.Message m) w w' out (fed_message time peer m w w' out (takens.Message m) refl t)
takes_so read ends_at time rows peer m w w' (Err e) t = tt

pub other_so : (read : Reading) (ends_at : EndName → End) (time : ℕ) (rows : Rows) (peer : ℕ) (w w' : Worker) (r : Result Output NoMemory) → IfOk r (TakesOther peer w w') → IfOk r (TakesRemote read ends_at time rows rows peer takens.Other w w')
other_so read ends_at time rows peer w w' (Ok out) t = takes_fed read ends_at time rows peer takens.Other w w' out (fed_other time peer w w' out takens.Other refl t)
other_so read ends_at time rows peer w w' (Err e) t = tt

pub closed_so : (read : Reading) (ends_at : EndName → End) (time : ℕ) (rows : Rows) (peer : ℕ) (w w' : Worker) (r : Result Output NoMemory) → IfOk r (TakesClose peer w w') → IfOk r (FindsClosed peer w w')
    → IfOk r (TakesRemote read ends_at time rows rows peer takens.Closed w w')
closed_so read ends_at time rows peer w w' (Ok out) t here = takes_fed read ends_at time rows peer takens.Closed w w' out (fed_closed time peer w w' out takens.Closed refl t here)
closed_so read ends_at time rows peer w w' (Err e) t here = tt

-- a message that isn't expected
pub lost_takes : (read : Reading) (ends_at : EndName → End) (time : ℕ) (w w' : Worker) (target peer : ℕ) (took : Message) (r : Result Output NoMemory) → IsRemote target w → IfOk r (ShutsRemote target peer w w')
    → ((rest : Rest) (f : FrameView) → Lined f.body took → learns (work_of rest w) (phase_as w.phase) (Some f) ≡ work_of rest w) → partner w.job.peer (phase_as w.phase) ≡ Some peer
    → ((x : Sight) (rows : Rows) (p : List ℕ → Bool) (rest : Rest) (f : FrameView) → wrong_message (turn_in x rows p None rest w) f peer ≡ takes (turn_in x rows p None rest w) f peer (phase_as w.phase) took)
    → IfOk r (λ out. (rows : Rows) → TakesRemote read ends_at time rows rows peer (takens.Message took) w w' out)
lost_takes read ends_at time w w' target peer took (Err e) remote shuts learn with_peer makes = tt
lost_takes read ends_at time w w' target peer took (Ok out) remote shuts learn with_peer makes = λ rows number p f fed. go rows number p f fed
  where
    go : (rows : Rows) → TakesRemote read ends_at time rows rows peer (takens.Message took) w w' out
    go rows number p None fed = absurd (let both : takens.Message took ≡ takens.Closed = fed.0 in cc)
    go rows number p (Some f) comes =
        let x = sight read ends_at time number in
        lost_does x rows p w w' f target peer took out remote shuts comes (λ rest. learn rest f (lined f.body took comes.is)) with_peer (λ rest. makes x rows p rest f)

-- over the rows that are there
pub at_rows : (read : Reading) (ends_at : EndName → End) (time : ℕ) (rows : Rows) (peer : ℕ) (taken : Taken) (w w' : Worker) (r : Result Output NoMemory)
    → IfOk r (λ out. (rs : Rows) → TakesRemote read ends_at time rs rs peer taken w w' out) → IfOk r (TakesRemote read ends_at time rows rows peer taken w w')
at_rows read ends_at time rows peer taken w w' (Ok out) all = all rows
at_rows read ends_at time rows peer taken w w' (Err e) all = tt

-- where an order was sent, the peer is the target
pub ordered_peer : (w : Worker) (target peer : ℕ) → w.job.peer ≡ Some target → w.phase ≡ phases.Orders → stands_on w ≡ Some peer → target ≡ peer
ordered_peer w target peer there at stands = some_same target peer (sym there ∙ (sym (ap (λ (ph : Phase). partner w.job.peer (phase_as ph)) at) ∙ stands))
  where
    some_same : (m n : ℕ) → Some m ≡ Some n → m ≡ n
    some_same m n e = cc

pub asked_peer : (w : Worker) (target peer : ℕ) → w.job.peer ≡ Some target → w.phase ≡ phases.AsksTime → stands_on w ≡ Some peer → target ≡ peer
asked_peer w target peer there at stands = some_same target peer (sym there ∙ (sym (ap (λ (ph : Phase). partner w.job.peer (phase_as ph)) at) ∙ stands))
  where
    some_same : (m n : ℕ) → Some m ≡ Some n → m ≡ n
    some_same m n e = cc

-- ---- the words

-- what isn't expected as the target's time
pub time_else : (t : Turn) (f : FrameView) (peer : ℕ) (m : Message) → ((n : ℕ) → m ≡ messages.Timestamp n → ⊥) → wrong_message t f peer ≡ takes_drop t f peer Jobs.AsksTime m
time_else t f peer (messages.AuthSuccess id) a = refl
time_else t f peer (messages.Version n) a = refl
time_else t f peer (messages.CheckPresent k) a = refl
time_else t f peer (messages.LockContent k) a = refl
time_else t f peer (messages.UnlockContent k) a = refl
time_else t f peer (messages.Remove k) a = refl
time_else t f peer (messages.RemoveBefore n k) a = refl
time_else t f peer messages.GetTimestamp a = refl
time_else t f peer (messages.Timestamp n) a = absurd (a n refl)
time_else t f peer (messages.Get n file k) a = refl
time_else t f peer (messages.Put file k) a = refl
time_else t f peer (messages.PutFrom n) a = refl
time_else t f peer messages.AlreadyHave a = refl
time_else t f peer (messages.Data n) a = refl
time_else t f peer messages.Valid a = refl
time_else t f peer messages.Invalid a = refl
time_else t f peer messages.Success a = refl
time_else t f peer messages.Failure a = refl
time_else t f peer (messages.Error text) a = refl
