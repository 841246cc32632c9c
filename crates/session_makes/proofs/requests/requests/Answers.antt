-- What the proof of `requests::requests` needs beside the tactics.
use Rattle.std.proofs.Common.{sym, ap, ◌∙◌}
use Rattle.p2p_wire.specs.declared.message.Message.{Message}
use Rattle.node_model.specs.SessionStep.{is_filled, on_request}
use Rattle.session_makes.specs.Scenes.{here_in, is_reply}
use Rattle.session_makes.proofs.ExpectingLemmas.{no_request}
use Rattle.session_makes.proofs.requests.requests.Goals as goal

pub returns-in-Version : goal.returns-in-Version
returns-in-Version c = λ s st same is.
    let filled = is_filled s st in
    c.agrees.ensures filled c.args.version ∙ ap (λ (m : Message). is_reply c.args.scene.now (on_request (here_in c.args.scene.now filled) c.args.version m)) (sym c.in-Version.is)

pub returns-in-CheckPresent : goal.returns-in-CheckPresent
returns-in-CheckPresent c = λ s st same is.
    let filled = is_filled s st in
    c.checks.ensures filled c.args.version ∙ ap (λ (m : Message). is_reply c.args.scene.now (on_request (here_in c.args.scene.now filled) c.args.version m)) (sym c.in-CheckPresent.is)

pub returns-in-LockContent : goal.returns-in-LockContent
returns-in-LockContent c = λ s st same is.
    let filled = is_filled s st in
    c.locks.ensures filled ∙ ap (λ (m : Message). is_reply c.args.scene.now (on_request (here_in c.args.scene.now filled) c.args.version m)) (sym c.in-LockContent.is)

pub returns-in-Remove : goal.returns-in-Remove
returns-in-Remove c = λ s st same is.
    let filled = is_filled s st in
    c.removes.ensures filled ∙ ap (λ (m : Message). is_reply c.args.scene.now (on_request (here_in c.args.scene.now filled) c.args.version m)) (sym c.in-Remove.is)

pub returns-in-RemoveBefore : goal.returns-in-RemoveBefore
returns-in-RemoveBefore c = λ s st same is.
    let filled = is_filled s st in
    c.orders.ensures filled ∙ ap (λ (m : Message). is_reply c.args.scene.now (on_request (here_in c.args.scene.now filled) c.args.version m)) (sym c.in-RemoveBefore.is)

pub returns-in-GetTimestamp : goal.returns-in-GetTimestamp
returns-in-GetTimestamp c = λ s st same is.
    let filled = is_filled s st in
    c.times.ensures filled ∙ ap (λ (m : Message). is_reply c.args.scene.now (on_request (here_in c.args.scene.now filled) c.args.version m)) (sym c.in-GetTimestamp.is)

pub returns-in-Get : goal.returns-in-Get
returns-in-Get c = λ s st same is.
    let filled = is_filled s st in
    c.gives.ensures filled c.in-Get.file ∙ ap (λ (m : Message). is_reply c.args.scene.now (on_request (here_in c.args.scene.now filled) c.args.version m)) (sym c.in-Get.is)

pub returns-in-Put : goal.returns-in-Put
returns-in-Put c = λ s st same is.
    let filled = is_filled s st in
    c.puts.ensures s st c.in-Put.file same is ∙ ap (λ (m : Message). is_reply c.args.scene.now (on_request (here_in c.args.scene.now filled) c.args.version m)) (sym c.in-Put.is)

pub returns-in_default : goal.returns-in_default
returns-in_default c = λ s st same is.
    let filled = is_filled s st in
    let d = c.in_default in
    c.is_unexpected.ensures filled
    ∙ ap (is_reply c.args.scene.now) (sym (no_request (here_in c.args.scene.now filled) c.args.version c.args.message.now d.not-Version d.not-CheckPresent d.not-LockContent d.not-Remove d.not-RemoveBefore d.not-GetTimestamp d.not-Get d.not-Put))
