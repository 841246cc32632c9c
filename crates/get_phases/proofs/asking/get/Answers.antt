-- Its line.
use Rattle.std.proofs.Common.{ℕ, List, [], sym, subst, arith}
use Rattle.p2p_wire.specs.declared.message.Message.TheVariants.{Get}
use Rattle.p2p_wire.specs.Streams.{IsLine}
use Rattle.get_phases.proofs.asking.get.Goals as goal

pub new-requires-2 : goal.new-requires-2
new-requires-2 c =
    subst (λ (file : List ℕ). IsLine (Get c.args.start file c.in_ok-copy.field-0)) (sym c.in_ok-file.ensures)
    (subst (λ (key : List ℕ). IsLine (Get c.args.start [] key)) (sym c.in_ok-copy.ensures) (c.reads.ensures.get c.args.start (omega arith)))
