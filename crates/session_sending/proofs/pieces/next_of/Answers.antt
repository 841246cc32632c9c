-- A read of a piece, whole or short.
use Rattle.std.proofs.Common.{◌≡◌, ℕ, ◌<◌, ◌+◌, ◌-◌, true, false, ◌∙◌, ap, arith, length}
use Rattle.std.proofs.lemmas.List.{length-append, length-drop, length-take}
use Rattle.object_store.specs.Stores.{bytes_of, read_length}
use Rattle.node_model.specs.Sessions.{reaches}
use Rattle.annex_base.specs.declared.kinds.Call.TheVariants as calls
use Rattle.session_state.proofs.Calling.{makes_one, memory_left}
use Rattle.session_sending.proofs.Sending.{piece_is, gone_is, reads_on, reads_off, some_left}
use Rattle.session_sending.proofs.pieces.next_of.Goals as goal

pub returns-in-Ok-clause-does : goal.returns-in-Ok-clause-does
returns-in-Ok-clause-does g c = λ k is h at content fails.
    let giving = c.args.giving.now in
    let n = c.min-count.result in
    let room : length c.deref_mut.result.now ≡ n = omega (arith, c.in_ok-room.ensures.len) in
    let told = c.in-Ok.ensures.ok k is ∙ ap (read_length (bytes_of k giving.key) giving.at) room in
    let here : reaches (h.content giving.key) (giving.at + n) ≡ true = rw content (reads_on (k giving.key) giving.at n c.in-Ok.read told c.if-read-count.true (omega arith)) in
    piece_is h giving.key giving.at (giving.end - giving.at) n _ giving.good (omega arith) (omega arith)
    (simp (length-take, length-append, length-drop) (omega (arith, c.in_ok-room.ensures.len))) fails here

pub returns-in-Ok-2-clause-does : goal.returns-in-Ok-2-clause-does
returns-in-Ok-2-clause-does g c = λ k is h at content fails.
    let giving = c.args.giving.now in
    let n = c.min-count.result in
    let room : length c.deref_mut.result.now ≡ n = omega (arith, c.in_ok-room.ensures.len) in
    let told = c.in-Ok-2.ensures.ok k is ∙ ap (read_length (bytes_of k giving.key) giving.at) room in
    gone_is h c.args.place giving.key giving.at (giving.end - giving.at) n giving.good at (omega arith) (omega arith) fails
    (rw content (reads_off (k giving.key) giving.at n c.in-Ok-2.field-0 told (λ e. c.if-read-count.false (cc (c.in-Ok.is, c.in-Ok-2.is)))))

pub returns-in-Ok-clause-calls : goal.returns-in-Ok-clause-calls
returns-in-Ok-clause-calls g c =
    let giving = c.args.giving.now in
    let some : 0 < giving.end - giving.at = omega (arith, c.if-left-eq0.false) in
    rw (some_left (giving.end - giving.at) some) (makes_one calls.Read false _ _ c.in-Ok.ensures.failing)

pub returns-in-Ok-2-clause-calls : goal.returns-in-Ok-2-clause-calls
returns-in-Ok-2-clause-calls g c =
    let giving = c.args.giving.now in
    let some : 0 < giving.end - giving.at = omega (arith, c.if-left-eq0.false) in
    rw (some_left (giving.end - giving.at) some) (makes_one calls.Read false _ _ c.in-Ok-2.ensures.failing)

pub returns-clause-err_failing : goal.returns-clause-err_failing
returns-clause-err_failing g c = memory_left ℕ calls.Read _ _ _ c.in-Err-NoMemory.field-0-is c.in-Err-NoMemory.ensures.failing
