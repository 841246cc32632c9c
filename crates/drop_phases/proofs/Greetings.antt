-- A local drop that is told a version.
use Rattle.std.proofs.Common.{◌≡◌, ℕ, ◌≤◌, ◌<◌, Bool, true, false, Some, refl, ◌∙◌, arith}
use Rattle.std.specs.Prelude.{if◌then◌else◌, nat_le}
use Rattle.std.proofs.lemmas.Bool.Decides.{nat_tests}
use Rattle.drop_proof.specs.declared.rule.Side.TheVariants.{Local}
use Rattle.run_data.specs.declared.entry.FrameView.{FrameView}
use Rattle.p2p_wire.specs.declared.message.Message.{Message}
use Rattle.p2p_wire.specs.declared.message.Message.TheVariants as messages
use Rattle.node_model.specs.Rows.{option_is}
use Rattle.node_model.specs.Sessions.{line_in}
use Rattle.node_model.specs.Jobs
use Rattle.node_model.specs.Jobs.{Drops, Work, learns, side_of, version_said}
use Rattle.node_model.specs.JobStep.{Turn, key_of, says_to, talk, wrong_message}
use Rattle.node_model.specs.Turns.{takes}
use Rattle.drop_phases.proofs.Takings.{Lined}

said : (f : FrameView) (m : Message) → Lined f.body m → line_in f.body ≡ Some m
said f m l = rw (l.is, l.reads) refl

chosen : (v : Work) (n : ℕ) (b : Bool) → (if b then record v { version = n } else v) ≡ record v { version = (if b then n else v.version) }
chosen v n true = refl
chosen v n false = refl

pub learns_version : (v : Work) (f : FrameView) (peer n : ℕ) → Lined f.body (messages.Version n)
    → learns v (Jobs.Greets peer) (Some f) ≡ record v { version = (if option_is v.what.peer peer then n else v.version) }
learns_version v f peer n l =
    (λ i. if option_is v.what.peer peer then record v { version = version_said v.version (said f (messages.Version n) l i) } else v) ∙ chosen v n (option_is v.what.peer peer)

said_else : (was : ℕ) (m : Message) → ((x : ℕ) → m ≡ messages.Version x → ⊥) → version_said was (Some m) ≡ was
said_else was (messages.AuthSuccess id) b = refl
said_else was (messages.Version n) b = absurd (b n refl)
said_else was (messages.CheckPresent k) b = refl
said_else was (messages.LockContent k) b = refl
said_else was (messages.UnlockContent k) b = refl
said_else was (messages.Remove k) b = refl
said_else was (messages.RemoveBefore n k) b = refl
said_else was messages.GetTimestamp b = refl
said_else was (messages.Timestamp n) b = refl
said_else was (messages.Get n file k) b = refl
said_else was (messages.Put file k) b = refl
said_else was (messages.PutFrom n) b = refl
said_else was messages.AlreadyHave b = refl
said_else was (messages.Data n) b = refl
said_else was messages.Valid b = refl
said_else was messages.Invalid b = refl
said_else was messages.Success b = refl
said_else was messages.Failure b = refl
said_else was (messages.Error text) b = refl

pub kept : (v : Work) (b : Bool) → (if b then record v { version = v.version } else v) ≡ v
kept v true = refl
kept v false = refl

-- any other message teaches nothing
pub learns_else : (v : Work) (f : FrameView) (peer : ℕ) (m : Message) → Lined f.body m → ((x : ℕ) → m ≡ messages.Version x → ⊥) → learns v (Jobs.Greets peer) (Some f) ≡ v
learns_else v f peer m l other =
    (λ i. if option_is v.what.peer peer then record v { version = version_said v.version (said f m l i) } else v)
    ∙ ((λ i. if option_is v.what.peer peer then record v { version = said_else v.version m other i } else v) ∙ kept v (option_is v.what.peer peer))

pub greets_low : (t : Turn) (f : FrameView) (peer n : ℕ) → n ≤ 3 → t.w.part ≡ Drops → side_of t.w ≡ Local
    → says_to t (talk t) (Some f) peer (messages.LockContent (key_of t)) ≡ takes t f peer (Jobs.Greets peer) (messages.Version n)
greets_low t f peer n low part side =
    let e : nat_le n 3 ≡ true = grind (arith, nat_tests) in
    rw (e, part, side) refl

pub greets_high : (t : Turn) (f : FrameView) (peer n : ℕ) → 3 < n → wrong_message t f peer ≡ takes t f peer (Jobs.Greets peer) (messages.Version n)
greets_high t f peer n high =
    let e : nat_le n 3 ≡ false = grind (arith, nat_tests) in
    rw e refl
