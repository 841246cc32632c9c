-- What a copy says are lines of the protocol.
use Rattle.std.proofs.Common.{ℕ, List, [], sym, subst}
use Rattle.p2p_wire.specs.declared.message.Message.{Message}
use Rattle.p2p_wire.specs.declared.message.Message.TheVariants.{Data, Put, Valid, Version}
use Rattle.p2p_wire.specs.Streams.{IsLine}
use Rattle.transfer_turns.specs.Lines.{AreTransferLines}
use Rattle.put_steps.specs.Stepping.{IsSaid}

pub said_line : (key : List ℕ) (m : Message) → AreTransferLines key → IsSaid key m → IsLine m
said_line key (Version n) lines s = subst (λ (k : ℕ). IsLine (Version k)) (sym s) lines.version
said_line key (Put file k) lines s = subst (λ (l : List ℕ). IsLine (Put l k)) (sym s.0) (subst (λ (l : List ℕ). IsLine (Put [] l)) (sym s.1) lines.put)
said_line key (Data n) lines s = lines.bytes n s
said_line key Valid lines s = lines.valid
said_line key m lines s = absurd s
