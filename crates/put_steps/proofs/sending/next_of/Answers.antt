-- A read of a piece, whole or short.
use Rattle.std.proofs.Common.{◌≡◌, ℕ, ◌+◌, ◌<◌, false, min, length, ap, ◌∙◌, arith}
use Rattle.annex_base.specs.declared.kinds.Call.TheVariants as calls
use Rattle.object_store.specs.Stores.{bytes_of, read_length}
use Rattle.node_model.specs.Sessions.{reaches}
use Rattle.session_state.specs.Answers.{size_in}
use Rattle.session_state.proofs.Calling.{makes_one, memory_left}
use Rattle.put_steps.proofs.Reading.{reads_off, reads_on}
use Rattle.put_steps.proofs.sending.next_of.Goals as goal

pub returns-in-Ok-clause-next : goal.returns-in-Ok-clause-next
returns-in-Ok-clause-next g c = λ k is.
    let s = c.args.sending in
    let key = c.args.key.now in
    let n = c.min-count.result in
    let same : min 32768 s.left ≡ n = omega arith in
    let some : 0 < n = omega (arith, s.some) in
    let room : length c.deref_mut.result.now ≡ n = omega (arith, c.in_ok-room.ensures.len) in
    ap (λ (m : ℕ). reaches (size_in k key) (s.at + m)) same ∙ reads_on (k key) s.at n c.in-Ok.read (c.in-Ok.ensures.ok k is ∙ ap (read_length (bytes_of k key) s.at) room) c.if-read-count.true some

pub returns-in-Ok-clause-leaves : goal.returns-in-Ok-clause-leaves
returns-in-Ok-clause-leaves g c =
    let e = c.in-Ok.ensures in
    record { contents = e.contents; parts = e.parts; records = e.records; files = e.files; later = e.later; cause = tt; left = (makes_one calls.Read false _ _ e.failing).left }

pub returns-in-Ok-clause-calls : goal.returns-in-Ok-clause-calls
returns-in-Ok-clause-calls g c = makes_one calls.Read false _ _ c.in-Ok.ensures.failing

pub returns-in-Ok-2-clause-next : goal.returns-in-Ok-2-clause-next
returns-in-Ok-2-clause-next g c = λ k is.
    let s = c.args.sending in
    let key = c.args.key.now in
    let n = c.min-count.result in
    let same : min 32768 s.left ≡ n = omega arith in
    let room : length c.deref_mut.result.now ≡ n = omega (arith, c.in_ok-room.ensures.len) in
    ap (λ (m : ℕ). reaches (size_in k key) (s.at + m)) same
    ∙ reads_off (k key) s.at n c.in-Ok-2.field-0 (c.in-Ok-2.ensures.ok k is ∙ ap (read_length (bytes_of k key) s.at) room) (λ e. c.if-read-count.false (cc (c.in-Ok.is, c.in-Ok-2.is)))

pub returns-in-Ok-2-clause-leaves : goal.returns-in-Ok-2-clause-leaves
returns-in-Ok-2-clause-leaves g c =
    let e = c.in-Ok-2.ensures in
    record { contents = e.contents; parts = e.parts; records = e.records; files = e.files; later = e.later; cause = tt; left = (makes_one calls.Read false _ _ e.failing).left }

pub returns-in-Ok-2-clause-calls : goal.returns-in-Ok-2-clause-calls
returns-in-Ok-2-clause-calls g c = makes_one calls.Read false _ _ c.in-Ok-2.ensures.failing

pub returns-clause-err : goal.returns-clause-err
returns-clause-err g c =
    let e = c.in-Err-NoMemory.ensures in
    record { contents = e.contents; parts = e.parts; records = e.records; files = e.files; later = e.later; failing = memory_left ℕ calls.Read _ _ _ c.in-Err-NoMemory.field-0-is e.failing }
