-- What the crash of the parts leaves, beside the entry that tells it.
use Rattle.std.proofs.Common.{ℕ, ◌<◌, ◌++◌, sym, ap, subst, ◌∙◌}
use Rattle.std.specs.Prelude.{All}
use Rattle.std.proofs.lemmas.List.{append-nil}
use Rattle.node_parts.specs.declared.moment.Moment.{Moment}
use Rattle.node_parts.specs.Posting.{PostsPieces, stamp_of}
use Rattle.node_parts.specs.Steps.{Leaves}
use Rattle.node_steps.specs.Crashing.{all_ended}
use Rattle.node_steps.proofs.crashing.fall.Goals as goal

pub crash-done-requires-clause-fresh : goal.crash-done-requires-clause-fresh
crash-done-requires-clause-fresh c = subst (λ (m : Moment). All (λ h. h.number < m.number) c.args.parts.now.table.holds) (sym c.moment_of-moment.ensures) c.requires.numbers

pub returns : goal.returns
returns c =
    let d = c.crash-done.ensures in
    let done = c.crash-done.result in
    let p = c.args.parts.now in
    let p' = c.crash-done.new.self in
    let e = c.crash.ensures.entry in record {
      done = done;
      kind = d.kind;
      taken = d.taken;
      crashes = record {
        setup = e.setup;
        time = e.time;
        clock = e.clock;
        count = e.count;
        history = e.history;
        outcomes = e.outcomes ∙ (append-nil c.note_all_ended.new.outcomes.items
            ∙ (c.note_all_ended.ensures ∙ ap (λ (n : ℕ). c.args.past.now.outcomes.items ++ all_ended p.jobs.running n) c.len-place.ensures));
      };
      sent = d.sent;
      parts = d.parts;
      leaves = subst (λ (m : Moment). Leaves m.number p p' done) c.moment_of-moment.ensures d.leaves;
      posts = λ known. subst (λ (m : Moment). PostsPieces (stamp_of m p.jobs.place.number) done.kind p known p'.links done.taken done.sent) c.moment_of-moment.ensures (d.posts known);
      fed = d.fed;
      agrees = d.agrees;
      jobs = d.jobs;
      sound = c.table.ensures.sound;
      paired = d.paired;
    }
