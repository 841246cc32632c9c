-- The word beside a refused look.
use Rattle.std.proofs.Common.{◌≡◌, Result, Ok, Err}
use Rattle.std.specs.Prelude.{IfOk}
use Rattle.p2p_wire.specs.declared.message.Message.{Message}
use Rattle.drop_phases.specs.declared.turn.Taken.TheVariants as takens

pub same_message : (m n : Message) → takens.Message m ≡ takens.Message n → m ≡ n
same_message m n e = cc

pub if_all : {T E : Type 0} (r : Result T E) (P : Type 0) → P → IfOk r (λ y. P)
if_all (Ok y) P p = p
if_all (Err e) P p = tt
