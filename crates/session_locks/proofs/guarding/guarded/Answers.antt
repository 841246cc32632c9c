-- By the message.
use Rattle.std.proofs.Common.{sym, ◌∙◌}
use Rattle.session_state.proofs.Unexpected.{none_guards, other_key}
use Rattle.session_state.proofs.Leaving.{contents_left}
use Rattle.std.proofs.Common.{◌∙◌}
use Rattle.session_locks.proofs.guarding.guarded.Goals as goal

pub returns-in-Error-clause-goes : goal.returns-in-Error-clause-goes
returns-in-Error-clause-goes g c = rw c.in-Error.is (c.give_up.ensures.goes c.args.scene _ _ _ _ _ c.requires.at.here c.requires.agrees)

pub returns-then-not-guards-clause-goes : goal.returns-then-not-guards-clause-goes
returns-then-not-guards-clause-goes g c = rw c.in-UnlockContent.is (
    c.refuse.ensures.goes c.args.scene _ _ _ _ _ c.requires.at.here (other_key c.args.session.now _ c.requires.phase (sym c.guards.ensures ∙ c.if-not-guards.true)) c.requires.agrees)

pub returns-in_ok-key-in-UnlockContent-clause-goes : goal.returns-in_ok-key-in-UnlockContent-clause-goes
returns-in_ok-key-in-UnlockContent-clause-goes g c = rw (c.in-UnlockContent.is, ← c.in_ok-key-in-UnlockContent.ensures) c.unlock.ensures.goes

pub returns-in_default-clause-goes : goal.returns-in_default-clause-goes
returns-in_default-clause-goes g c =
    c.refuse-in_default.ensures.goes c.args.scene _ _ _ _ _ c.requires.at.here (none_guards c.args.session.now c.args.message.now c.requires.phase c.in_default.not-Error c.in_default.not-UnlockContent) c.requires.agrees

pub returns-in-Error-clause-calls : goal.returns-in-Error-clause-calls
returns-in-Error-clause-calls g c = rw c.in-Error.is (c.give_up.ensures.calls c.args.scene _ _ _ _)

pub returns-then-not-guards-clause-calls : goal.returns-then-not-guards-clause-calls
returns-then-not-guards-clause-calls g c = rw c.in-UnlockContent.is (c.refuse.ensures.calls c.args.scene _ _ _ _ (other_key c.args.session.now _ c.requires.phase (sym c.guards.ensures ∙ c.if-not-guards.true)))

pub returns-in_ok-key-in-UnlockContent-clause-calls : goal.returns-in_ok-key-in-UnlockContent-clause-calls
returns-in_ok-key-in-UnlockContent-clause-calls g c = rw (c.in-UnlockContent.is, ← c.in_ok-key-in-UnlockContent.ensures) c.unlock.ensures.calls

pub returns-in_default-clause-calls : goal.returns-in_default-clause-calls
returns-in_default-clause-calls g c = c.refuse-in_default.ensures.calls c.args.scene _ _ _ _ (none_guards c.args.session.now c.args.message.now c.requires.phase c.in_default.not-Error c.in_default.not-UnlockContent)

pub returns-in-Error-clause-contents : goal.returns-in-Error-clause-contents
returns-in-Error-clause-contents g c = sym (c.give_up.ensures.leaves _ _)

pub returns-then-not-guards-clause-contents : goal.returns-then-not-guards-clause-contents
returns-then-not-guards-clause-contents g c = contents_left _ _ c.refuse.result c.refuse.ensures.leaves

pub returns-in_ok-key-in-UnlockContent-clause-contents : goal.returns-in_ok-key-in-UnlockContent-clause-contents
returns-in_ok-key-in-UnlockContent-clause-contents g c = c.unlock.ensures.contents ∙ sym (c.unlock.ensures.leaves _ _)

pub returns-in_default-clause-contents : goal.returns-in_default-clause-contents
returns-in_default-clause-contents g c = contents_left _ _ c.refuse-in_default.result c.refuse-in_default.ensures.leaves
