-- That what is said is a line.
use Rattle.std.proofs.Common.{ℕ, List, sym, ◌∙◌, subst}
use Rattle.p2p_wire.specs.declared.message.Message.TheVariants.{LockContent}
use Rattle.p2p_wire.specs.Streams.{IsLine}
use Rattle.local_drops.proofs.acting.ask.Goals as goal

pub new-requires : goal.new-requires
new-requires g c = subst (λ (k : List ℕ). IsLine (LockContent k)) (c.key.ensures ∙ sym (c.in_ok-copy.ensures ∙ c.key-2.ensures)) c.reads.ensures.lock
