-- What a drop doesn't expect closes the connection.
use Rattle.std.proofs.Common.{◌≡◌, ℕ, List, refl}
use Rattle.run_data.specs.declared.entry.FrameView.{FrameView}
use Rattle.p2p_wire.specs.declared.message.Message.{Message}
use Rattle.p2p_wire.specs.declared.message.Message.TheVariants as messages
use Rattle.node_model.specs.Jobs.{AsksLock, AsksLook, Drops, Greets, Opens}
use Rattle.node_model.specs.JobStep.{Turn, wrong_message}
use Rattle.node_model.specs.DropStep.{takes_drop}
use Rattle.node_model.specs.TransferStep.{takes_bytes}
use Rattle.node_model.specs.Turns.{takes}
use Rattle.drop_phases.specs.declared.phase.Phase.{Phase}
use Rattle.drop_phases.specs.declared.phase.Phase.TheVariants as phases
use Rattle.drop_phases.specs.Working.{phase_as}

pub lock_else : (t : Turn) (f : FrameView) (peer p since : ℕ) (m : Message) → (m ≡ messages.Success → ⊥) → (m ≡ messages.Failure → ⊥) → takes_drop t f peer (AsksLock p since) m ≡ wrong_message t f peer
lock_else t f peer p since (messages.AuthSuccess id) a b = refl
lock_else t f peer p since (messages.Version n) a b = refl
lock_else t f peer p since (messages.CheckPresent k) a b = refl
lock_else t f peer p since (messages.LockContent k) a b = refl
lock_else t f peer p since (messages.UnlockContent k) a b = refl
lock_else t f peer p since (messages.Remove k) a b = refl
lock_else t f peer p since (messages.RemoveBefore n k) a b = refl
lock_else t f peer p since messages.GetTimestamp a b = refl
lock_else t f peer p since (messages.Timestamp n) a b = refl
lock_else t f peer p since (messages.Get n file k) a b = refl
lock_else t f peer p since (messages.Put file k) a b = refl
lock_else t f peer p since (messages.PutFrom n) a b = refl
lock_else t f peer p since messages.AlreadyHave a b = refl
lock_else t f peer p since (messages.Data n) a b = refl
lock_else t f peer p since messages.Valid a b = refl
lock_else t f peer p since messages.Invalid a b = refl
lock_else t f peer p since messages.Success a b = absurd (a refl)
lock_else t f peer p since messages.Failure a b = absurd (b refl)
lock_else t f peer p since (messages.Error text) a b = refl

pub look_else : (t : Turn) (f : FrameView) (peer p : ℕ) (m : Message) → (m ≡ messages.Success → ⊥) → (m ≡ messages.Failure → ⊥) → takes_drop t f peer (AsksLook p) m ≡ wrong_message t f peer
look_else t f peer p (messages.AuthSuccess id) a b = refl
look_else t f peer p (messages.Version n) a b = refl
look_else t f peer p (messages.CheckPresent k) a b = refl
look_else t f peer p (messages.LockContent k) a b = refl
look_else t f peer p (messages.UnlockContent k) a b = refl
look_else t f peer p (messages.Remove k) a b = refl
look_else t f peer p (messages.RemoveBefore n k) a b = refl
look_else t f peer p messages.GetTimestamp a b = refl
look_else t f peer p (messages.Timestamp n) a b = refl
look_else t f peer p (messages.Get n file k) a b = refl
look_else t f peer p (messages.Put file k) a b = refl
look_else t f peer p (messages.PutFrom n) a b = refl
look_else t f peer p messages.AlreadyHave a b = refl
look_else t f peer p (messages.Data n) a b = refl
look_else t f peer p messages.Valid a b = refl
look_else t f peer p messages.Invalid a b = refl
look_else t f peer p messages.Success a b = absurd (a refl)
look_else t f peer p messages.Failure a b = absurd (b refl)
look_else t f peer p (messages.Error text) a b = refl

pub opens_else : (t : Turn) (f : FrameView) (peer p : ℕ) (m : Message) → t.w.part ≡ Drops → ((x : List ℕ) → m ≡ messages.AuthSuccess x → ⊥) → takes t f peer (Opens p) m ≡ wrong_message t f peer
opens_else t f peer p (messages.AuthSuccess id) e b = absurd (b id refl)
opens_else t f peer p (messages.Version n) e b = rw e refl
opens_else t f peer p (messages.CheckPresent k) e b = rw e refl
opens_else t f peer p (messages.LockContent k) e b = rw e refl
opens_else t f peer p (messages.UnlockContent k) e b = rw e refl
opens_else t f peer p (messages.Remove k) e b = rw e refl
opens_else t f peer p (messages.RemoveBefore n k) e b = rw e refl
opens_else t f peer p messages.GetTimestamp e b = rw e refl
opens_else t f peer p (messages.Timestamp n) e b = rw e refl
opens_else t f peer p (messages.Get n file k) e b = rw e refl
opens_else t f peer p (messages.Put file k) e b = rw e refl
opens_else t f peer p (messages.PutFrom n) e b = rw e refl
opens_else t f peer p messages.AlreadyHave e b = rw e refl
opens_else t f peer p (messages.Data n) e b = rw e refl
opens_else t f peer p messages.Valid e b = rw e refl
opens_else t f peer p messages.Invalid e b = rw e refl
opens_else t f peer p messages.Success e b = rw e refl
opens_else t f peer p messages.Failure e b = rw e refl
opens_else t f peer p (messages.Error text) e b = rw e refl

pub greets_else : (t : Turn) (f : FrameView) (peer p : ℕ) (m : Message) → t.w.part ≡ Drops → ((x : ℕ) → m ≡ messages.Version x → ⊥) → takes t f peer (Greets p) m ≡ wrong_message t f peer
greets_else t f peer p (messages.AuthSuccess id) e b = rw e refl
greets_else t f peer p (messages.Version n) e b = absurd (b n refl)
greets_else t f peer p (messages.CheckPresent k) e b = rw e refl
greets_else t f peer p (messages.LockContent k) e b = rw e refl
greets_else t f peer p (messages.UnlockContent k) e b = rw e refl
greets_else t f peer p (messages.Remove k) e b = rw e refl
greets_else t f peer p (messages.RemoveBefore n k) e b = rw e refl
greets_else t f peer p messages.GetTimestamp e b = rw e refl
greets_else t f peer p (messages.Timestamp n) e b = rw e refl
greets_else t f peer p (messages.Get n file k) e b = rw e refl
greets_else t f peer p (messages.Put file k) e b = rw e refl
greets_else t f peer p (messages.PutFrom n) e b = rw e refl
greets_else t f peer p messages.AlreadyHave e b = rw e refl
greets_else t f peer p (messages.Data n) e b = rw e refl
greets_else t f peer p messages.Valid e b = rw e refl
greets_else t f peer p messages.Invalid e b = rw e refl
greets_else t f peer p messages.Success e b = rw e refl
greets_else t f peer p messages.Failure e b = rw e refl
greets_else t f peer p (messages.Error text) e b = rw e refl

pub bytes_else : (t : Turn) (f : FrameView) (peer n : ℕ) (ph : Phase) → takes_bytes t f peer n (phase_as ph) ≡ wrong_message t f peer
bytes_else t f peer n phases.Fresh = refl
bytes_else t f peer n phases.Next = refl
bytes_else t f peer n (phases.Opens p) = refl
bytes_else t f peer n (phases.Greets p) = refl
bytes_else t f peer n (phases.AsksLock p since) = refl
bytes_else t f peer n (phases.AsksLook p) = refl
bytes_else t f peer n phases.AsksTime = refl
bytes_else t f peer n phases.Orders = refl
bytes_else t f peer n phases.Removed = refl
bytes_else t f peer n phases.Denied = refl
bytes_else t f peer n (phases.Late time) = refl
bytes_else t f peer n (phases.Ends why) = refl
