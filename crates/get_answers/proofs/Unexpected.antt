-- What a get doesn't expect closes the connection.
use Rattle.std.proofs.Common.{◌≡◌, ℕ, false, List, refl}
use Rattle.std.specs.Prelude.{◌&&◌, nat_le, nat_lt}
use Rattle.run_data.specs.declared.entry.FrameView.{FrameView}
use Rattle.p2p_wire.specs.declared.message.Message.{Message}
use Rattle.p2p_wire.specs.declared.message.Message.TheVariants as messages
use Rattle.node_model.specs.Jobs.{Gets, GetsBytes, GetsData, GetsWord, Greets, Opens}
use Rattle.node_model.specs.JobStep.{Turn, wrong_message}
use Rattle.node_model.specs.TransferStep.{takes_bytes}
use Rattle.node_model.specs.Turns.{takes}
use Rattle.session_state.specs.declared.doing.Taking.{Taking}
use Rattle.get_phases.specs.declared.getting.Phase.{Phase}
use Rattle.get_phases.specs.declared.getting.Phase.TheVariants as phases
use Rattle.get_phases.specs.Gets.{phase_of}

pub opens_else : (t : Turn) (f : FrameView) (peer p : ℕ) (m : Message) → t.w.part ≡ Gets → ((id : List ℕ) → m ≡ messages.AuthSuccess id → ⊥) → takes t f peer (Opens p) m ≡ wrong_message t f peer
opens_else t f peer p (messages.AuthSuccess id) e a = absurd (a id refl)
opens_else t f peer p (messages.Version n) e a = rw e refl
opens_else t f peer p (messages.CheckPresent k) e a = rw e refl
opens_else t f peer p (messages.LockContent k) e a = rw e refl
opens_else t f peer p (messages.UnlockContent k) e a = rw e refl
opens_else t f peer p (messages.Remove k) e a = rw e refl
opens_else t f peer p (messages.RemoveBefore n k) e a = rw e refl
opens_else t f peer p messages.GetTimestamp e a = rw e refl
opens_else t f peer p (messages.Timestamp n) e a = rw e refl
opens_else t f peer p (messages.Get n file k) e a = rw e refl
opens_else t f peer p (messages.Put file k) e a = rw e refl
opens_else t f peer p (messages.PutFrom n) e a = rw e refl
opens_else t f peer p messages.AlreadyHave e a = rw e refl
opens_else t f peer p (messages.Data n) e a = rw e refl
opens_else t f peer p messages.Valid e a = rw e refl
opens_else t f peer p messages.Invalid e a = rw e refl
opens_else t f peer p messages.Success e a = rw e refl
opens_else t f peer p messages.Failure e a = rw e refl
opens_else t f peer p (messages.Error text) e a = rw e refl

pub greets_else : (t : Turn) (f : FrameView) (peer p : ℕ) (m : Message) → t.w.part ≡ Gets → ((n : ℕ) → m ≡ messages.Version n → ⊥) → takes t f peer (Greets p) m ≡ wrong_message t f peer
greets_else t f peer p (messages.AuthSuccess id) e a = rw e refl
greets_else t f peer p (messages.Version n) e a = absurd (a n refl)
greets_else t f peer p (messages.CheckPresent k) e a = rw e refl
greets_else t f peer p (messages.LockContent k) e a = rw e refl
greets_else t f peer p (messages.UnlockContent k) e a = rw e refl
greets_else t f peer p (messages.Remove k) e a = rw e refl
greets_else t f peer p (messages.RemoveBefore n k) e a = rw e refl
greets_else t f peer p messages.GetTimestamp e a = rw e refl
greets_else t f peer p (messages.Timestamp n) e a = rw e refl
greets_else t f peer p (messages.Get n file k) e a = rw e refl
greets_else t f peer p (messages.Put file k) e a = rw e refl
greets_else t f peer p (messages.PutFrom n) e a = rw e refl
greets_else t f peer p messages.AlreadyHave e a = rw e refl
greets_else t f peer p (messages.Data n) e a = rw e refl
greets_else t f peer p messages.Valid e a = rw e refl
greets_else t f peer p messages.Invalid e a = rw e refl
greets_else t f peer p messages.Success e a = rw e refl
greets_else t f peer p messages.Failure e a = rw e refl
greets_else t f peer p (messages.Error text) e a = rw e refl

pub data_else : (t : Turn) (f : FrameView) (peer p start : ℕ) (m : Message) → t.w.part ≡ Gets → ((n : ℕ) → m ≡ messages.Data n → ⊥) → takes t f peer (GetsData p start) m ≡ wrong_message t f peer
data_else t f peer p start (messages.AuthSuccess id) e a = rw e refl
data_else t f peer p start (messages.Version n) e a = rw e refl
data_else t f peer p start (messages.CheckPresent k) e a = rw e refl
data_else t f peer p start (messages.LockContent k) e a = rw e refl
data_else t f peer p start (messages.UnlockContent k) e a = rw e refl
data_else t f peer p start (messages.Remove k) e a = rw e refl
data_else t f peer p start (messages.RemoveBefore n k) e a = rw e refl
data_else t f peer p start messages.GetTimestamp e a = rw e refl
data_else t f peer p start (messages.Timestamp n) e a = rw e refl
data_else t f peer p start (messages.Get n file k) e a = rw e refl
data_else t f peer p start (messages.Put file k) e a = rw e refl
data_else t f peer p start (messages.PutFrom n) e a = rw e refl
data_else t f peer p start messages.AlreadyHave e a = rw e refl
data_else t f peer p start (messages.Data n) e a = absurd (a n refl)
data_else t f peer p start messages.Valid e a = rw e refl
data_else t f peer p start messages.Invalid e a = rw e refl
data_else t f peer p start messages.Success e a = rw e refl
data_else t f peer p start messages.Failure e a = rw e refl
data_else t f peer p start (messages.Error text) e a = rw e refl

pub word_else : (t : Turn) (f : FrameView) (peer p start size : ℕ) (m : Message) → t.w.part ≡ Gets → (m ≡ messages.Valid → ⊥) → (m ≡ messages.Invalid → ⊥) → takes t f peer (GetsWord p start size) m ≡ wrong_message t f peer
word_else t f peer p start size (messages.AuthSuccess id) e a b = rw e refl
word_else t f peer p start size (messages.Version n) e a b = rw e refl
word_else t f peer p start size (messages.CheckPresent k) e a b = rw e refl
word_else t f peer p start size (messages.LockContent k) e a b = rw e refl
word_else t f peer p start size (messages.UnlockContent k) e a b = rw e refl
word_else t f peer p start size (messages.Remove k) e a b = rw e refl
word_else t f peer p start size (messages.RemoveBefore n k) e a b = rw e refl
word_else t f peer p start size messages.GetTimestamp e a b = rw e refl
word_else t f peer p start size (messages.Timestamp n) e a b = rw e refl
word_else t f peer p start size (messages.Get n file k) e a b = rw e refl
word_else t f peer p start size (messages.Put file k) e a b = rw e refl
word_else t f peer p start size (messages.PutFrom n) e a b = rw e refl
word_else t f peer p start size messages.AlreadyHave e a b = rw e refl
word_else t f peer p start size (messages.Data n) e a b = rw e refl
word_else t f peer p start size messages.Valid e a b = absurd (a refl)
word_else t f peer p start size messages.Invalid e a b = absurd (b refl)
word_else t f peer p start size messages.Success e a b = rw e refl
word_else t f peer p start size messages.Failure e a b = rw e refl
word_else t f peer p start size (messages.Error text) e a b = rw e refl

pub bytes_else : (t : Turn) (f : FrameView) (peer p start size left : ℕ) (m : Message) → t.w.part ≡ Gets → takes t f peer (GetsBytes p start size left) m ≡ wrong_message t f peer
bytes_else t f peer p start size left (messages.AuthSuccess id) e = rw e refl
bytes_else t f peer p start size left (messages.Version n) e = rw e refl
bytes_else t f peer p start size left (messages.CheckPresent k) e = rw e refl
bytes_else t f peer p start size left (messages.LockContent k) e = rw e refl
bytes_else t f peer p start size left (messages.UnlockContent k) e = rw e refl
bytes_else t f peer p start size left (messages.Remove k) e = rw e refl
bytes_else t f peer p start size left (messages.RemoveBefore n k) e = rw e refl
bytes_else t f peer p start size left messages.GetTimestamp e = rw e refl
bytes_else t f peer p start size left (messages.Timestamp n) e = rw e refl
bytes_else t f peer p start size left (messages.Get n file k) e = rw e refl
bytes_else t f peer p start size left (messages.Put file k) e = rw e refl
bytes_else t f peer p start size left (messages.PutFrom n) e = rw e refl
bytes_else t f peer p start size left messages.AlreadyHave e = rw e refl
bytes_else t f peer p start size left (messages.Data n) e = rw e refl
bytes_else t f peer p start size left messages.Valid e = rw e refl
bytes_else t f peer p start size left messages.Invalid e = rw e refl
bytes_else t f peer p start size left messages.Success e = rw e refl
bytes_else t f peer p start size left messages.Failure e = rw e refl
bytes_else t f peer p start size left (messages.Error text) e = rw e refl

-- bytes that are none of a part
pub no_bytes : (t : Turn) (f : FrameView) (peer n : ℕ) (ph : Phase) → ((p start : ℕ) (taking : Taking) → ph ≡ phases.Bytes p start taking → ⊥) → takes_bytes t f peer n (phase_of ph) ≡ wrong_message t f peer
no_bytes t f peer n phases.Fresh a = refl
no_bytes t f peer n (phases.Next fill) a = refl
no_bytes t f peer n (phases.Opens p fill) a = refl
no_bytes t f peer n (phases.Greets p fill) a = refl
no_bytes t f peer n (phases.Data p wanting) a = refl
no_bytes t f peer n (phases.Bytes p start taking) a = absurd (a p start taking refl)
no_bytes t f peer n (phases.Word p start taken) a = refl
no_bytes t f peer n (phases.Ends why) a = refl
no_bytes t f peer n phases.Done a = refl

-- or no bytes at all, or more than are to come
pub bytes_past : (t : Turn) (f : FrameView) (peer n p start size left : ℕ) → (nat_lt 0 n && nat_le n left) ≡ false → takes_bytes t f peer n (GetsBytes p start size left) ≡ wrong_message t f peer
bytes_past t f peer n p start size left e = rw e refl
