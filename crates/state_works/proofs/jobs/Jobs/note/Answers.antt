-- What the proof of `jobs::Jobs::note` needs beside the tactics.
use Rattle.std.proofs.Common.{◌≡◌, ℕ, ◌+◌, ◌<◌, ◌^◌, ◌==◌, Bool, not, if◌then◌else◌, ◌∷◌, filter, map, sym, ap, subst, ◌∙◌, arith}
use Rattle.annex_base.specs.Lists.{Each}
use Rattle.annex_base.proofs.Lists.{Each-filter, Each-weaker}
use Rattle.node_model.specs.Around.{around}
use Rattle.node_model.specs.Jobs as jobs
use Rattle.node_model.specs.Jobs.{work_after}
use Rattle.state_jobs.specs.Around.{AreRows}
use Rattle.state_jobs.specs.Phases.{IsBelow}
use Rattle.state_jobs.specs.Works.{work_of}
use Rattle.state_jobs.specs.declared.work.Work.{Work}
use Rattle.state_works.specs.Jobs.{works_of}
use Rattle.state_works.proofs.WorkLemmas.{all_moved, begun_below, below_more, others_of}
use Rattle.state_works.proofs.jobs.Jobs.note.Goals as goal

pub returns-in-Begin-clause-below : goal.returns-in-Begin-clause-below
returns-in-Begin-clause-below c = λ limit le all.
    let P : Work → Type 0 = λ w. IsBelow limit w.phase in
    let Q : Work → Type 0 = λ w. IsBelow (limit + 2 ^ 64) w.phase in
    let some : 0 < limit + 2 ^ 64 = omega (arith, le) in
    let was = c.args.self.now.running.items in
    let new : c.insert.new.self.items ≡ c.unwrap.result ∷ was = c.insert.ensures.items ∙ ap (λ (b : Bool). if b then c.unwrap.result ∷ was else was) (c.insert.ensures.succeeds c.requires.room.jobs) in
    subst (Each Q) (sym new) (
      begun_below (works_of c.args.self.now) c.args.entry.now.kind c.in-Begin.job c.in-Begin.what c.args.change.begun c.unwrap.result (limit + 2 ^ 64) c.requires.change.begun c.in-Begin.is c.unwrap.ensures some,
      Each-weaker P Q (λ w. below_more limit (limit + 2 ^ 64) w.phase (omega arith)) was all,
    )

pub returns-in-End-clause-works : goal.returns-in-End-clause-works
returns-in-End-clause-works c = λ s st number rows ended are. record {
  works = rw c.in-End.is
      (ap (filter (λ (w : jobs.Work). not (w.number == c.in-End.job))) are.works ∙ sym (others_of c.in-End.job c.args.self.now.running.items) ∙ ap (map work_of) (sym c.end.ensures));
}

pub returns-in-End-clause-below : goal.returns-in-End-clause-below
returns-in-End-clause-below c = λ limit le all.
    let P : Work → Type 0 = λ w. IsBelow limit w.phase in
    let Q : Work → Type 0 = λ w. IsBelow (limit + 2 ^ 64) w.phase in
    let was = c.args.self.now.running.items in
    subst (Each Q) (sym c.end.ensures)
    (Each-filter Q (λ (w : Work). not (w.number == c.in-End.job)) was (Each-weaker P Q (λ w. below_more limit (limit + 2 ^ 64) w.phase (omega arith)) was all))

pub returns-in_default-clause-works : goal.returns-in_default-clause-works
returns-in_default-clause-works c = λ s st number rows ended are.
    let x = around s st in
    let e = c.args.entry.now in
    let is : AreRows x c.args.rows.now = record { present = rows.present; bar = rows.bar } in
    record {
      works = all_moved x s.number st.works e e.kind c.in_default.not-Begin c.in_default.not-End c.in_default.not-Crash
          ∙ ap (map (work_after x s.number e)) are.works
          ∙ ap (λ (r : ℕ). map (work_after x r e) (works_of c.args.self.now)) number
          ∙ sym (c.move_all.ensures.works x is ended);
    }
