-- What the proof of `closing::close` needs beside the tactics.
use Rattle.std.proofs.Common.{ℕ, ◌<◌, All, inl, inr, refl, sym, ap, subst}
use Rattle.node_parts.specs.declared.moment.Moment.{Moment}
use Rattle.node_parts.specs.Posting.{PostsPieces, stamp_of}
use Rattle.node_parts.specs.Steps.{Leaves, LeavesSo}
use Rattle.node_steps.proofs.closing.close.Goals as goal

pub close_end-done-requires-clause-fresh : goal.close_end-done-requires-clause-fresh
close_end-done-requires-clause-fresh c = subst (λ (n : ℕ). All (λ h. h.number < n) c.args.parts.now.table.holds) (sym (ap (λ (m : Moment). m.number) c.moment_of-moment.ensures)) c.requires.numbers

pub enter-requires : goal.enter-requires
enter-requires c = c.requires.ready (c.close_end-done.ensures.opened c.in-Some.done c.in-Some.is)

pub returns-in-None-clause-shuts : goal.returns-in-None-clause-shuts
returns-in-None-clause-shuts c =
    let e = c.close_end-done.ensures in
    inr (record {
      parts = subst (LeavesSo c.moment_of-moment.result.number c.args.parts.now c.close_end-done.new.self) c.in-None.is e.leaves;
      past = refl;
      shut = e.shut c.in-None.is;
    })

pub returns-in-Some-clause-shuts : goal.returns-in-Some-clause-shuts
returns-in-Some-clause-shuts c =
    let e = c.close_end-done.ensures in
    let d = c.in-Some.done in
    let is = c.in-Some.is in
    let was = c.args.parts.now in
    let now = c.close_end-done.new.self in
    let m = c.moment_of-moment in
    inl (record {
      done = d;
      opened = e.opened d is;
      made = e.made d is;
      enters = c.enter.ensures.entry;
      parts = e.parts d is;
      leaves = subst (λ (n : ℕ). Leaves n was now d) (ap (λ (x : Moment). x.number) m.ensures) (subst (LeavesSo m.result.number was now) is e.leaves);
      posts = λ known. subst (λ (x : Moment). PostsPieces (stamp_of x was.jobs.place.number) d.kind was known now.links d.taken d.sent) m.ensures (e.posts d is known);
      fed = e.fed;
      agrees = e.agrees;
      jobs = e.jobs;
      sound = c.table.ensures.sound;
      opens = e.opens;
      paired = e.paired;
    })
