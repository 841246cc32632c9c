-- What is said are lines of the protocol.
use Rattle.std.proofs.Common.{ℕ, List, sym, subst}
use Rattle.p2p_wire.specs.declared.message.Message.{Message}
use Rattle.p2p_wire.specs.declared.message.Message.TheVariants as messages
use Rattle.p2p_wire.specs.Streams.{IsLine}
use Rattle.transfer_turns.specs.Lines.{AreTransferLines}
use Rattle.get_phases.specs.Losing.{IsToldBy}
use Rattle.get_phases.proofs.saying.say.Goals as goal

told_line : (key : List ℕ) (m : Message) → AreTransferLines key → IsToldBy m → IsLine m
told_line key (messages.AuthSuccess id) lines is = absurd is
told_line key (messages.Version n) lines is = subst (λ (v : ℕ). IsLine (messages.Version v)) (sym is) lines.version
told_line key (messages.CheckPresent k) lines is = absurd is
told_line key (messages.LockContent k) lines is = absurd is
told_line key (messages.UnlockContent k) lines is = absurd is
told_line key (messages.Remove k) lines is = absurd is
told_line key (messages.RemoveBefore n k) lines is = absurd is
told_line key messages.GetTimestamp lines is = absurd is
told_line key (messages.Timestamp n) lines is = absurd is
told_line key (messages.Get n file k) lines is = absurd is
told_line key (messages.Put file k) lines is = absurd is
told_line key (messages.PutFrom n) lines is = absurd is
told_line key messages.AlreadyHave lines is = absurd is
told_line key (messages.Data n) lines is = absurd is
told_line key messages.Valid lines is = absurd is
told_line key messages.Invalid lines is = absurd is
told_line key messages.Success lines is = lines.success
told_line key messages.Failure lines is = lines.failure
told_line key (messages.Error text) lines is = absurd is

pub new-requires : goal.new-requires
new-requires c = told_line c.args.key.now c.args.message c.reads.ensures c.requires.told

pub returns-in_err-said-clause-line : goal.returns-in_err-said-clause-line
returns-in_err-said-clause-line c = told_line c.args.key.now c.args.message c.reads.ensures c.requires.told

pub returns-clause-line : goal.returns-clause-line
returns-clause-line c = told_line c.args.key.now c.args.message c.reads.ensures c.requires.told
