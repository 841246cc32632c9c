-- That what is said is a line.
use Rattle.std.proofs.Common.{ℕ, List, sym, ◌∙◌, subst}
use Rattle.p2p_wire.specs.declared.message.Message.TheVariants.{UnlockContent}
use Rattle.p2p_wire.specs.Streams.{IsLine}
use Rattle.drop_phases.proofs.worker.Worker.parting.Goals as goal

pub new-requires : goal.new-requires
new-requires c = subst (λ (k : List ℕ). IsLine (UnlockContent k)) (c.key.ensures ∙ sym (c.in_ok-key.ensures ∙ c.key-then-not-lost.ensures)) c.reads.ensures.unlock
