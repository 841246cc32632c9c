-- The first request, or a Close.
use Rattle.std.proofs.Common.{ℕ, List, Some, None, refl, sym, ap, ◌∙◌, subst, arith}
use Rattle.std.specs.Prelude.{if◌then◌else◌}
use Rattle.p2p_wire.specs.declared.message.Message.TheVariants as messages
use Rattle.p2p_wire.specs.Streams.{IsLine}
use Rattle.node_model.specs.Jobs.{learns}
use Rattle.node_model.specs.Rows.{option_is}
use Rattle.drop_phases.specs.declared.phase.Phase.{Phase}
use Rattle.drop_phases.specs.Working.{phase_as, turn_in, work_of}
use Rattle.drop_phases.proofs.Greetings.{greets_high, greets_low, learns_version}
use Rattle.drop_phases.proofs.Takings.{lined, say_does, shut_does}
use Rattle.local_drops.proofs.taking.greet.Goals as goal

pub returns-then-version-gt3-clause-does : goal.returns-then-version-gt3-clause-does
returns-then-version-gt3-clause-does c = λ x rows p f time comes.
    let w = c.args.worker.now in
    shut_does x rows p w _ f c.args.peer (messages.Version c.args.version) (if option_is w.job.peer c.args.peer then c.args.version else w.version) c.in_ok-out.out c.in_ok-out.ensures.shuts.kind comes
    (λ rest. ap (λ (ph : Phase). learns (work_of rest w) (phase_as ph) (Some f)) c.requires.at ∙ learns_version (work_of rest w) f c.args.peer c.args.version (lined f.body (messages.Version c.args.version) comes.is)) (rw c.requires.at refl)
    c.requires.local c.in_ok-out.ensures.shuts.sends (rw (c.learn.ensures, c.in_ok-out.ensures.shuts.next) refl)
    (λ rest. rw c.requires.at (greets_high (turn_in x rows p None rest w) f c.args.peer c.args.version (omega (arith, c.if-version-gt3.true))))

pub returns-clause-does : goal.returns-clause-does
returns-clause-does c = λ x rows p f time comes.
    let w = c.args.worker.now in
    say_does x rows p w _ f c.args.peer (messages.Version c.args.version) (if option_is w.job.peer c.args.peer then c.args.version else w.version) c.in_ok-out-2.out
    (rw c.number.ensures at c.in_ok-out-2.ensures.0) comes
    (λ rest. ap (λ (ph : Phase). learns (work_of rest w) (phase_as ph) (Some f)) c.requires.at ∙ learns_version (work_of rest w) f c.args.peer c.args.version (lined f.body (messages.Version c.args.version) comes.is)) (rw c.requires.at refl)
    (messages.LockContent w.job.key) (rw (c.in_ok-said.ensures, c.in_ok-copy.ensures, c.key-2.ensures) at c.in_ok-out-2.ensures.1) (rw c.key.ensures at c.reads.ensures.lock.0)
    (λ rest. rw c.requires.at (greets_low (turn_in x rows p None rest w) f c.args.peer c.args.version (omega (arith, c.if-version-gt3.false)) refl c.requires.local))
    (λ rest. rw (c.go_to.ensures, c.learn-2.ensures, time) refl)

pub new-requires : goal.new-requires
new-requires c = subst (λ (k : List ℕ). IsLine (messages.LockContent k)) (c.key.ensures ∙ sym (c.in_ok-copy.ensures ∙ c.key-2.ensures)) c.reads.ensures.lock
