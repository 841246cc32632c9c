-- What isn't permitted closes the connection, case by case.
use Rattle.std.proofs.Common.{◌≡◌, ℕ, List, refl}
use Rattle.run_data.specs.declared.entry.FrameView.{FrameView}
use Rattle.p2p_wire.specs.declared.message.Message.{Message}
use Rattle.p2p_wire.specs.declared.message.Message.TheVariants as messages
use Rattle.node_model.specs.Jobs.{Greets, Opens, Puts, PutsAnswer, PutsOffer}
use Rattle.node_model.specs.JobStep.{Turn, wrong_message}
use Rattle.node_model.specs.TransferStep.{takes_put}
use Rattle.node_model.specs.Turns.{takes}

pub opens_else : (t : Turn) (f : FrameView) (peer p : ℕ) (m : Message) → t.w.part ≡ Puts → ((x : List ℕ) → m ≡ messages.AuthSuccess x → ⊥) → takes t f peer (Opens p) m ≡ wrong_message t f peer
opens_else t f peer p (messages.AuthSuccess id) e a = absurd (a id refl)
opens_else t f peer p (messages.Version n) e a = rw e refl
opens_else t f peer p (messages.CheckPresent k) e a = rw e refl
opens_else t f peer p (messages.LockContent k) e a = rw e refl
opens_else t f peer p (messages.UnlockContent k) e a = rw e refl
opens_else t f peer p (messages.Remove k) e a = rw e refl
opens_else t f peer p (messages.RemoveBefore n k) e a = rw e refl
opens_else t f peer p messages.GetTimestamp e a = rw e refl
opens_else t f peer p (messages.Timestamp n) e a = rw e refl
opens_else t f peer p (messages.Get n file k) e a = rw e refl
opens_else t f peer p (messages.Put file k) e a = rw e refl
opens_else t f peer p (messages.PutFrom n) e a = rw e refl
opens_else t f peer p messages.AlreadyHave e a = rw e refl
opens_else t f peer p (messages.Data n) e a = rw e refl
opens_else t f peer p messages.Valid e a = rw e refl
opens_else t f peer p messages.Invalid e a = rw e refl
opens_else t f peer p messages.Success e a = rw e refl
opens_else t f peer p messages.Failure e a = rw e refl
opens_else t f peer p (messages.Error text) e a = rw e refl

pub greets_else : (t : Turn) (f : FrameView) (peer p : ℕ) (m : Message) → t.w.part ≡ Puts → ((x : ℕ) → m ≡ messages.Version x → ⊥) → takes t f peer (Greets p) m ≡ wrong_message t f peer
greets_else t f peer p (messages.AuthSuccess id) e a = rw e refl
greets_else t f peer p (messages.Version n) e a = absurd (a n refl)
greets_else t f peer p (messages.CheckPresent k) e a = rw e refl
greets_else t f peer p (messages.LockContent k) e a = rw e refl
greets_else t f peer p (messages.UnlockContent k) e a = rw e refl
greets_else t f peer p (messages.Remove k) e a = rw e refl
greets_else t f peer p (messages.RemoveBefore n k) e a = rw e refl
greets_else t f peer p messages.GetTimestamp e a = rw e refl
greets_else t f peer p (messages.Timestamp n) e a = rw e refl
greets_else t f peer p (messages.Get n file k) e a = rw e refl
greets_else t f peer p (messages.Put file k) e a = rw e refl
greets_else t f peer p (messages.PutFrom n) e a = rw e refl
greets_else t f peer p messages.AlreadyHave e a = rw e refl
greets_else t f peer p (messages.Data n) e a = rw e refl
greets_else t f peer p messages.Valid e a = rw e refl
greets_else t f peer p messages.Invalid e a = rw e refl
greets_else t f peer p messages.Success e a = rw e refl
greets_else t f peer p messages.Failure e a = rw e refl
greets_else t f peer p (messages.Error text) e a = rw e refl

pub offer_else : (t : Turn) (f : FrameView) (peer p : ℕ) (m : Message) → (m ≡ messages.AlreadyHave → ⊥) → (m ≡ messages.Failure → ⊥) → ((x : List ℕ) → m ≡ messages.Error x → ⊥) → ((x : ℕ) → m ≡ messages.PutFrom x → ⊥) → takes_put t f peer (PutsOffer p) m ≡ wrong_message t f peer
offer_else t f peer p (messages.AuthSuccess id) a b c d = refl
offer_else t f peer p (messages.Version n) a b c d = refl
offer_else t f peer p (messages.CheckPresent k) a b c d = refl
offer_else t f peer p (messages.LockContent k) a b c d = refl
offer_else t f peer p (messages.UnlockContent k) a b c d = refl
offer_else t f peer p (messages.Remove k) a b c d = refl
offer_else t f peer p (messages.RemoveBefore n k) a b c d = refl
offer_else t f peer p messages.GetTimestamp a b c d = refl
offer_else t f peer p (messages.Timestamp n) a b c d = refl
offer_else t f peer p (messages.Get n file k) a b c d = refl
offer_else t f peer p (messages.Put file k) a b c d = refl
offer_else t f peer p (messages.PutFrom n) a b c d = absurd (d n refl)
offer_else t f peer p messages.AlreadyHave a b c d = absurd (a refl)
offer_else t f peer p (messages.Data n) a b c d = refl
offer_else t f peer p messages.Valid a b c d = refl
offer_else t f peer p messages.Invalid a b c d = refl
offer_else t f peer p messages.Success a b c d = refl
offer_else t f peer p messages.Failure a b c d = absurd (b refl)
offer_else t f peer p (messages.Error text) a b c d = absurd (c text refl)

pub answer_else : (t : Turn) (f : FrameView) (peer p start : ℕ) (m : Message) → (m ≡ messages.Success → ⊥) → (m ≡ messages.Failure → ⊥) → takes_put t f peer (PutsAnswer p start) m ≡ wrong_message t f peer
answer_else t f peer p start (messages.AuthSuccess id) a b = refl
answer_else t f peer p start (messages.Version n) a b = refl
answer_else t f peer p start (messages.CheckPresent k) a b = refl
answer_else t f peer p start (messages.LockContent k) a b = refl
answer_else t f peer p start (messages.UnlockContent k) a b = refl
answer_else t f peer p start (messages.Remove k) a b = refl
answer_else t f peer p start (messages.RemoveBefore n k) a b = refl
answer_else t f peer p start messages.GetTimestamp a b = refl
answer_else t f peer p start (messages.Timestamp n) a b = refl
answer_else t f peer p start (messages.Get n file k) a b = refl
answer_else t f peer p start (messages.Put file k) a b = refl
answer_else t f peer p start (messages.PutFrom n) a b = refl
answer_else t f peer p start messages.AlreadyHave a b = refl
answer_else t f peer p start (messages.Data n) a b = refl
answer_else t f peer p start messages.Valid a b = refl
answer_else t f peer p start messages.Invalid a b = refl
answer_else t f peer p start messages.Success a b = absurd (a refl)
answer_else t f peer p start messages.Failure a b = absurd (b refl)
answer_else t f peer p start (messages.Error text) a b = refl
