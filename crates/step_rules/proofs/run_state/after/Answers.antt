-- What the proof of `run_state::after` needs beside the tactics.
use Rattle.std.proofs.Common.{subst, ◌+◌, ◌<◌}
use Rattle.step_rules.specs.Members.{IsBounded}
use Rattle.step_rules.proofs.Accepted.{bounded_later}
use Rattle.step_rules.proofs.Changing.{changes_at, on_err, on_ok}
use Rattle.step_rules.proofs.Places.{at_of, each_at, each_set}
use Rattle.step_rules.proofs.run_state.after.Goals as goal

pub returns-clause-ok : goal.returns-clause-ok
returns-clause-ok c =
    let ms = c.args.members.now.items in
    let m = c.index_mut-member.result.now in
    let low = subst (λ n. c.args.repo < n) c.args.members.now.ok.0 c.requires.within in
    on_ok c.take_note.result (changes_at _ ms c.args.repo m c.take_note.new.member (at_of ms c.args.repo m low c.index_mut-member.ensures.value)) c.take_note.ensures.ok

pub returns-clause-err : goal.returns-clause-err
returns-clause-err c =
    let ms = c.args.members.now.items in
    let m = c.index_mut-member.result.now in
    let low = subst (λ n. c.args.repo < n) c.args.members.now.ok.0 c.requires.within in
    on_err c.take_note.result (changes_at _ ms c.args.repo m c.take_note.new.member (at_of ms c.args.repo m low c.index_mut-member.ensures.value)) c.take_note.ensures.err

pub returns-clause-bounded : goal.returns-clause-bounded
returns-clause-bounded c = λ count made each.
    let ms = c.args.members.now.items in
    let m = c.index_mut-member.result.now in
    let low = subst (λ n. c.args.repo < n) c.args.members.now.ok.0 c.requires.within in
    each_set (IsBounded count (made + 1)) ms c.args.repo c.take_note.new.member (bounded_later count made ms each)
    (c.take_note.ensures.bounded count made (each_at (IsBounded count made) ms c.args.repo m each (at_of ms c.args.repo m low c.index_mut-member.ensures.value)))

pub returns-clause-err_bounded : goal.returns-clause-err_bounded
returns-clause-err_bounded c =
    let ms = c.args.members.now.items in
    let m = c.index_mut-member.result.now in
    let low = subst (λ n. c.args.repo < n) c.args.members.now.ok.0 c.requires.within in
    on_err c.take_note.result (λ then. λ count made each.
    each_set (IsBounded count made) ms c.args.repo c.take_note.new.member each
    (then count made (each_at (IsBounded count made) ms c.args.repo m each (at_of ms c.args.repo m low c.index_mut-member.ensures.value)))) c.take_note.ensures.err_bounded
