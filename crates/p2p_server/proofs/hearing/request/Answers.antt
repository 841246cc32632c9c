-- By the message.
use Rattle.std.proofs.Common.{◌≡◌, true, refl}
use Rattle.std.specs.Prelude.{nat_le}
use Rattle.std.proofs.lemmas.Bool.{le-leb}
use Rattle.session_state.proofs.Stepping.{answered, speaks_remove, version_so}
use Rattle.session_state.proofs.Unexpected.{low_get, low_put, low_remove, low_time, none_waits}
use Rattle.annex_base.specs.declared.kinds.Call.TheVariants as calls
use Rattle.std.proofs.Common.{[], ◌∷◌}
use Rattle.node_model.specs.SessionStep.{now_of}
use Rattle.session_state.specs.SessionCalls.{to_remove_here}
use Rattle.std.specs.Prelude.{if◌then◌else◌, nat_lt, ◌*◌}
use Rattle.session_state.proofs.Making.{before_calls, request_makes, request_quiet, time_calls}
use Rattle.session_state.proofs.Leaving.{contents_left}
use Rattle.std.proofs.Common.{sym}
use Rattle.p2p_server.proofs.hearing.request.Goals as goal

pub returns-in-Error-clause-goes : goal.returns-in-Error-clause-goes
returns-in-Error-clause-goes g c = rw c.in-Error.is (c.give_up.ensures.goes c.args.scene _ _ _ _ _ c.requires.at.here c.requires.agrees)

pub returns-in-Version-clause-goes : goal.returns-in-Version-clause-goes
returns-in-Version-clause-goes g c = rw c.in-Version.is (
    version_so c.args.scene _ c.args.session.now c.agree.new.session c.args.table.now _ _ _ _ _ c.requires.waits c.requires.at c.requires.agrees c.agree.ensures.says c.agree.ensures.session (c.agree.ensures.fits _))

pub returns-in_ok-key-in-CheckPresent-clause-goes : goal.returns-in_ok-key-in-CheckPresent-clause-goes
returns-in_ok-key-in-CheckPresent-clause-goes g c =
    let r = c.check_present.ensures in
    rw (c.in-CheckPresent.is, ← c.in_ok-key-in-CheckPresent.ensures) (
    answered c.args.scene _ c.args.session.now c.args.table.now _ _ _ _ _ _ _ _ _ c.check_present.result c.requires.waits c.requires.at (λ h. refl) (λ size kind told. refl)
    r.does r.plain r.still r.after r.fits r.parts (rw r.records c.requires.agrees) r.later r.cause)

pub returns-in-LockContent-clause-goes : goal.returns-in-LockContent-clause-goes
returns-in-LockContent-clause-goes g c = rw c.in-LockContent.is c.lock.ensures.goes

pub returns-in_ok-key-in-Remove-clause-goes : goal.returns-in_ok-key-in-Remove-clause-goes
returns-in_ok-key-in-Remove-clause-goes g c =
    let r = c.remove.ensures in
    rw (c.in-Remove.is, ← c.in_ok-key-in-Remove.ensures) (
    answered c.args.scene _ c.args.session.now c.args.table.now _ _ _ _ _ _ _ _ _ c.remove.result c.requires.waits c.requires.at (λ h. refl) (λ size kind told. refl)
    r.does r.plain r.still r.after r.fits r.parts (rw r.records c.requires.agrees) r.later r.cause)

pub returns-then-session-lt3-clause-goes : goal.returns-then-session-lt3-clause-goes
returns-then-session-lt3-clause-goes g c = rw c.in-RemoveBefore.is (
    c.refuse.ensures.goes c.args.scene _ _ _ _ _ c.requires.at.here (low_remove c.args.session.now _ _ c.requires.waits c.if-session-lt3.true) c.requires.agrees)

pub returns-in_ok-key-in-RemoveBefore-clause-goes : goal.returns-in_ok-key-in-RemoveBefore-clause-goes
returns-in_ok-key-in-RemoveBefore-clause-goes g c =
    let r = c.remove_before.ensures in
    let speaks : nat_le 3 c.args.session.now.spoken ≡ true = le-leb 3 c.args.session.now.spoken c.if-session-lt3.false in
    rw (c.in-RemoveBefore.is, ← c.in_ok-key-in-RemoveBefore.ensures) (
    answered c.args.scene _ c.args.session.now c.args.table.now _ _ _ _ _ _ _ _ _ c.remove_before.result c.requires.waits c.requires.at (speaks_remove _ _ _ speaks)
    (λ size kind told. refl) r.does r.plain r.still r.after r.fits r.parts (rw r.records c.requires.agrees) r.later r.cause)

pub returns-then-session-lt3-2-clause-goes : goal.returns-then-session-lt3-2-clause-goes
returns-then-session-lt3-2-clause-goes g c = rw c.in-GetTimestamp.is (
    c.refuse-then-session-lt3-2.ensures.goes c.args.scene _ _ _ _ _ c.requires.at.here (low_time c.args.session.now c.requires.waits c.if-session-lt3-2.true) c.requires.agrees)

pub returns-then-session-lt1-clause-goes : goal.returns-then-session-lt1-clause-goes
returns-then-session-lt1-clause-goes g c = rw c.in-Get.is (
    c.refuse-then-session-lt1.ensures.goes c.args.scene _ _ _ _ _ c.requires.at.here (low_get c.args.session.now _ _ _ c.requires.waits c.if-session-lt1.true) c.requires.agrees)

pub returns-else-session-lt1-clause-goes : goal.returns-else-session-lt1-clause-goes
returns-else-session-lt1-clause-goes g c = rw c.in-Get.is (c.get.ensures.goes _)

pub returns-then-session-lt1-2-clause-goes : goal.returns-then-session-lt1-2-clause-goes
returns-then-session-lt1-2-clause-goes g c = rw c.in-Put.is (
    c.refuse-then-session-lt1-2.ensures.goes c.args.scene _ _ _ _ _ c.requires.at.here (low_put c.args.session.now _ _ c.requires.waits c.if-session-lt1-2.true) c.requires.agrees)

pub returns-else-session-lt1-2-clause-goes : goal.returns-else-session-lt1-2-clause-goes
returns-else-session-lt1-2-clause-goes g c = rw c.in-Put.is (c.put.ensures.goes _)

pub returns-in_default-clause-goes : goal.returns-in_default-clause-goes
returns-in_default-clause-goes g c =
    c.refuse-in_default.ensures.goes c.args.scene _ _ _ _ _ c.requires.at.here
    (none_waits c.args.session.now c.args.message.now c.requires.waits c.in_default.not-Error c.in_default.not-Version c.in_default.not-CheckPresent c.in_default.not-LockContent c.in_default.not-Remove
    c.in_default.not-RemoveBefore c.in_default.not-GetTimestamp c.in_default.not-Get c.in_default.not-Put)
    c.requires.agrees

pub returns-in-Error-clause-calls : goal.returns-in-Error-clause-calls
returns-in-Error-clause-calls g c = rw c.in-Error.is (c.give_up.ensures.calls c.args.scene _ _ _ _)

pub returns-in-Version-clause-calls : goal.returns-in-Version-clause-calls
returns-in-Version-clause-calls g c = rw c.in-Version.is (request_quiet c.args.scene _ c.args.session.now c.args.table.now _ _ _ _ c.requires.waits (λ h. refl) (rw c.agree.ensures.says refl))

pub returns-in_ok-key-in-CheckPresent-clause-calls : goal.returns-in_ok-key-in-CheckPresent-clause-calls
returns-in_ok-key-in-CheckPresent-clause-calls g c =
    let r = c.check_present.ensures in
    rw (c.in-CheckPresent.is, ← c.in_ok-key-in-CheckPresent.ensures) (
    request_makes c.args.scene _ c.args.session.now c.args.table.now _ _ _ _ c.check_present.result (λ h. calls.Has ∷ []) c.requires.waits (λ h. refl) (λ k is part right sees. r.calls) r.calls.left)

pub returns-in-LockContent-clause-calls : goal.returns-in-LockContent-clause-calls
returns-in-LockContent-clause-calls g c = rw c.in-LockContent.is c.lock.ensures.calls

pub returns-in_ok-key-in-Remove-clause-calls : goal.returns-in_ok-key-in-Remove-clause-calls
returns-in_ok-key-in-Remove-clause-calls g c =
    let r = c.remove.ensures in
    rw (c.in-Remove.is, ← c.in_ok-key-in-Remove.ensures) (
    request_makes c.args.scene _ c.args.session.now c.args.table.now _ _ _ _ c.remove.result (λ h. to_remove_here h c.in_ok-key-in-Remove.key) c.requires.waits (λ h. refl) (λ k is part right sees. r.calls k is) r.left)

pub returns-then-session-lt3-clause-calls : goal.returns-then-session-lt3-clause-calls
returns-then-session-lt3-clause-calls g c = rw c.in-RemoveBefore.is (c.refuse.ensures.calls c.args.scene _ _ _ _ (low_remove c.args.session.now _ _ c.requires.waits c.if-session-lt3.true))

pub returns-in_ok-key-in-RemoveBefore-clause-calls : goal.returns-in_ok-key-in-RemoveBefore-clause-calls
returns-in_ok-key-in-RemoveBefore-clause-calls g c =
    let r = c.remove_before.ensures in
    let speaks : nat_le 3 c.args.session.now.spoken ≡ true = le-leb 3 c.args.session.now.spoken c.if-session-lt3.false in
    rw (c.in-RemoveBefore.is, ← c.in_ok-key-in-RemoveBefore.ensures) (
    request_makes c.args.scene _ c.args.session.now c.args.table.now _ _ _ _ c.remove_before.result
    (λ h. if nat_lt (now_of h) (1000 * c.in-RemoveBefore.before) then to_remove_here h c.in_ok-key-in-RemoveBefore.key else []) c.requires.waits (before_calls _ _ _ speaks) (λ k is part right sees. r.calls k is) r.left)

pub returns-then-session-lt3-2-clause-calls : goal.returns-then-session-lt3-2-clause-calls
returns-then-session-lt3-2-clause-calls g c = rw c.in-GetTimestamp.is (c.refuse-then-session-lt3-2.ensures.calls c.args.scene _ _ _ _ (low_time c.args.session.now c.requires.waits c.if-session-lt3-2.true))

pub returns-else-session-lt3-2-clause-calls : goal.returns-else-session-lt3-2-clause-calls
returns-else-session-lt3-2-clause-calls g c = rw c.in-GetTimestamp.is (request_quiet c.args.scene _ c.args.session.now c.args.table.now _ _ _ _ c.requires.waits (λ h. time_calls h c.args.session.now.spoken) (rw c.time.ensures.says refl))

pub returns-then-session-lt1-clause-calls : goal.returns-then-session-lt1-clause-calls
returns-then-session-lt1-clause-calls g c = rw c.in-Get.is (c.refuse-then-session-lt1.ensures.calls c.args.scene _ _ _ _ (low_get c.args.session.now _ _ _ c.requires.waits c.if-session-lt1.true))

pub returns-else-session-lt1-clause-calls : goal.returns-else-session-lt1-clause-calls
returns-else-session-lt1-clause-calls g c = rw c.in-Get.is (c.get.ensures.calls _)

pub returns-then-session-lt1-2-clause-calls : goal.returns-then-session-lt1-2-clause-calls
returns-then-session-lt1-2-clause-calls g c = rw c.in-Put.is (c.refuse-then-session-lt1-2.ensures.calls c.args.scene _ _ _ _ (low_put c.args.session.now _ _ c.requires.waits c.if-session-lt1-2.true))

pub returns-else-session-lt1-2-clause-calls : goal.returns-else-session-lt1-2-clause-calls
returns-else-session-lt1-2-clause-calls g c = rw c.in-Put.is (c.put.ensures.calls _)

pub returns-in_default-clause-calls : goal.returns-in_default-clause-calls
returns-in_default-clause-calls g c =
    c.refuse-in_default.ensures.calls c.args.scene _ _ _ _
    (none_waits c.args.session.now c.args.message.now c.requires.waits c.in_default.not-Error c.in_default.not-Version c.in_default.not-CheckPresent c.in_default.not-LockContent c.in_default.not-Remove
    c.in_default.not-RemoveBefore c.in_default.not-GetTimestamp c.in_default.not-Get c.in_default.not-Put)

pub returns-in-Error-clause-contents : goal.returns-in-Error-clause-contents
returns-in-Error-clause-contents g c = sym (c.give_up.ensures.leaves _ _)

pub returns-then-session-lt3-clause-contents : goal.returns-then-session-lt3-clause-contents
returns-then-session-lt3-clause-contents g c = contents_left _ _ c.refuse.result c.refuse.ensures.leaves

pub returns-then-session-lt3-2-clause-contents : goal.returns-then-session-lt3-2-clause-contents
returns-then-session-lt3-2-clause-contents g c = contents_left _ _ c.refuse-then-session-lt3-2.result c.refuse-then-session-lt3-2.ensures.leaves

pub returns-then-session-lt1-clause-contents : goal.returns-then-session-lt1-clause-contents
returns-then-session-lt1-clause-contents g c = contents_left _ _ c.refuse-then-session-lt1.result c.refuse-then-session-lt1.ensures.leaves

pub returns-then-session-lt1-2-clause-contents : goal.returns-then-session-lt1-2-clause-contents
returns-then-session-lt1-2-clause-contents g c = contents_left _ _ c.refuse-then-session-lt1-2.result c.refuse-then-session-lt1-2.ensures.leaves

pub returns-in_default-clause-contents : goal.returns-in_default-clause-contents
returns-in_default-clause-contents g c = contents_left _ _ c.refuse-in_default.result c.refuse-in_default.ensures.leaves
