-- One job after the other.
use Rattle.std.proofs.Common.{[], ◌∷◌, ◌++◌, List, refl, sym, ap, subst, ◌∙◌}
use Rattle.std.specs.Prelude.{◌&&◌, not}
use Rattle.annex_base.specs.Lists.{Each, Member}
use Rattle.annex_base.proofs.Lists.{Each-from_members, Each-left, Each-right}
use Rattle.content_lock.specs.Rows.{is_filling}
use Rattle.node_tasks.specs.declared.task.Task.{Task}
use Rattle.running_jobs.specs.Ending.{CanEnd}
use Rattle.running_jobs.specs.Running.{fills_at}
use Rattle.running_jobs.proofs.Ends.{last_owns, others_keep, rest_can, rest_filled}
use Rattle.running_jobs.proofs.listing.end_all.Goals as goal

pub ending-init : goal.ending-init
ending-init c =
    record {
      left = c.requires;
      among = Each-from_members (λ (t : Task). Member t c.args.running.now.items) c.args.running.now.items (λ y here. here);
      labels = refl;
      crash = λ clock. refl;
      fills = λ key. refl;
      others = λ job key token apart mine. mine;
    }

pub end-requires : goal.end-requires
end-requires c =
    let front = c.pop.new.self.items in
    let can = subst (CanEnd c.ending.table) c.in-Some.ensures.items c.ending.invariant.left in
    record { owns = last_owns c.ending.table front c.in-Some.task can }

pub ending-preserved : goal.ending-preserved
ending-preserved c =
    let all = c.args.running.now.items in
    let front = c.pop.new.self.items in
    let x : Task = c.in-Some.task in
    let was = c.in-Some.ensures.items in
    let can : CanEnd c.ending.table (front ++ x ∷ []) = subst (CanEnd c.ending.table) was c.ending.invariant.left in
    let among : Each (λ (t : Task). Member t all) (front ++ x ∷ []) = subst (Each (λ (t : Task). Member t all)) was c.ending.invariant.among in
    record {
      left = rest_can c.ending.table c.end.new.table front x can c.end.ensures.others c.end.ensures.fills;
      among = Each-left (λ (t : Task). Member t all) front (x ∷ []) among;
      labels = c.end.ensures.labels ∙ c.ending.invariant.labels;
      crash = λ clock. c.end.ensures.crash clock ∙ c.ending.invariant.crash clock;
      fills = λ key. rest_filled c.ending.table c.end.new.table front x can c.end.ensures.others c.end.ensures.fills key
          ∙ (ap (λ (ts : List Task). not (fills_at ts key) && is_filling c.ending.table key) (sym was) ∙ c.ending.invariant.fills key);
      others = others_keep all c.args.table.now c.ending.table c.end.new.table x (Each-right (λ (t : Task). Member t all) front (x ∷ []) among).0 c.ending.invariant.others c.end.ensures.others;
    }
