-- That the order is a line.
use Rattle.std.proofs.Common.{◌<◌, ◌^◌, ℕ, List, Option, Some, None, refl, sym, ◌∙◌, subst}
use Rattle.std.specs.Option.{ForSome}
use Rattle.p2p_wire.specs.declared.message.Message.{Message}
use Rattle.p2p_wire.specs.Streams.{IsLine}
use Rattle.remote_requests.specs.Remote.{AreRemoteProtocolLines, order_message}
use Rattle.remote_requests.proofs.asking.order.Goals as goal

order_line : (key : List ℕ) (deadline : Option ℕ) → AreRemoteProtocolLines key → ForSome deadline (λ n. n < 2 ^ 63) → IsLine (order_message key deadline)
order_line key None reads early = reads.order
order_line key (Some n) reads early = reads.timed n (early n refl)

pub saying-requires : goal.saying-requires
saying-requires g c =
    subst (λ (m : Message). IsLine m) (sym c.order_message-said.ensures) (subst (λ (k : List ℕ). IsLine (order_message k c.args.deadline)) (c.key.ensures ∙ sym (c.in_ok-copy.ensures ∙ c.key-3.ensures))
    (order_line c.key.result.now c.args.deadline c.reads_all.ensures c.requires.early))
