-- What a get or a copy doesn't permit where it stands.
use Rattle.std.proofs.Common.{◌≡◌, ℕ, List, refl}
use Rattle.run_data.specs.declared.entry.FrameView.{FrameView}
use Rattle.p2p_wire.specs.declared.message.Message.{Message}
use Rattle.p2p_wire.specs.declared.message.Message.TheVariants.{AlreadyHave, Data, Error, Failure, Invalid, PutFrom, Success, Valid}
use Rattle.node_model.specs.JobStep.{Turn, wrong_message}
use Rattle.node_model.specs.Jobs as jobs
use Rattle.node_model.specs.TransferStep.{takes_bytes, takes_get, takes_put}
use Rattle.state_jobs.specs.Phases.{phase_of}
use Rattle.state_jobs.specs.declared.phase.Phase.{Phase}
use Rattle.state_jobs.specs.declared.phase.Phase.TheVariants.{GetsBytes, GetsData, GetsWord, PutsAnswer, PutsOffer}

-- ---- by the message

pub data_refused : (t : Turn) (f : FrameView) (peer p start : ℕ) (m : Message) → ((n : ℕ) → m ≡ Data n → ⊥) → wrong_message t f peer ≡ takes_get t f peer (jobs.GetsData p start) m
data_refused t f peer p start (Data n) counts = absurd (counts n refl)
data_refused t f peer p start m counts = refl

pub word_refused : (t : Turn) (f : FrameView) (peer p start size : ℕ) (m : Message) → (m ≡ Valid → ⊥) → (m ≡ Invalid → ⊥) → wrong_message t f peer ≡ takes_get t f peer (jobs.GetsWord p start size) m
word_refused t f peer p start size Valid good bad = absurd (good refl)
word_refused t f peer p start size Invalid good bad = absurd (bad refl)
word_refused t f peer p start size m good bad = refl

pub offer_refused : (t : Turn) (f : FrameView) (peer p : ℕ) (m : Message) → (m ≡ AlreadyHave → ⊥) → (m ≡ Failure → ⊥) → ((text : List ℕ) → m ≡ Error text → ⊥) → ((n : ℕ) → m ≡ PutFrom n → ⊥)
    → wrong_message t f peer ≡ takes_put t f peer (jobs.PutsOffer p) m
offer_refused t f peer p AlreadyHave has fails errs asks = absurd (has refl)
offer_refused t f peer p Failure has fails errs asks = absurd (fails refl)
offer_refused t f peer p (Error text) has fails errs asks = absurd (errs text refl)
offer_refused t f peer p (PutFrom n) has fails errs asks = absurd (asks n refl)
offer_refused t f peer p m has fails errs asks = refl

pub verdict_refused : (t : Turn) (f : FrameView) (peer p start : ℕ) (m : Message) → (m ≡ Success → ⊥) → (m ≡ Failure → ⊥) → wrong_message t f peer ≡ takes_put t f peer (jobs.PutsAnswer p start) m
verdict_refused t f peer p start Success good bad = absurd (good refl)
verdict_refused t f peer p start Failure good bad = absurd (bad refl)
verdict_refused t f peer p start m good bad = refl

-- ---- by where the job stands

pub bytes_refused : (t : Turn) (f : FrameView) (peer n : ℕ) (phase : Phase) → ((p start size left : ℕ) → phase ≡ GetsBytes p start size left → ⊥) → wrong_message t f peer ≡ takes_bytes t f peer n (phase_of phase)
bytes_refused t f peer n (GetsBytes p start size left) gets = absurd (gets p start size left refl)
bytes_refused t f peer n phase gets = refl

pub get_refused : (t : Turn) (f : FrameView) (peer : ℕ) (phase : Phase) (m : Message) → ((p start : ℕ) → phase ≡ GetsData p start → ⊥) → ((p start size : ℕ) → phase ≡ GetsWord p start size → ⊥)
    → wrong_message t f peer ≡ takes_get t f peer (phase_of phase) m
get_refused t f peer (GetsData p start) m counts words = absurd (counts p start refl)
get_refused t f peer (GetsWord p start size) m counts words = absurd (words p start size refl)
get_refused t f peer phase m counts words = refl

pub put_refused : (t : Turn) (f : FrameView) (peer : ℕ) (phase : Phase) (m : Message) → ((p : ℕ) → phase ≡ PutsOffer p → ⊥) → ((p start : ℕ) → phase ≡ PutsAnswer p start → ⊥)
    → wrong_message t f peer ≡ takes_put t f peer (phase_of phase) m
put_refused t f peer (PutsOffer p) m offers answers = absurd (offers p refl)
put_refused t f peer (PutsAnswer p start) m offers answers = absurd (answers p start refl)
put_refused t f peer phase m offers answers = refl
