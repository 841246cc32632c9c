-- A step that was not made leaves the jobs as they were.
use Rattle.std.proofs.Common.{◌≡◌, List, Option, refl, sym, ap, subst, arith}
use Rattle.object_store.specs.declared.keeper.HoldRecord.{HoldRecord}
use Rattle.content_lock.specs.Rows.{Rows}
use Rattle.content_lock.specs.Stored.{Agrees}
use Rattle.transfer_turns.specs.Steps.{Seen}
use Rattle.node_tasks.specs.declared.task.Task.{Task}
use Rattle.running_jobs.specs.Leaving.{Stays}
use Rattle.running_jobs.specs.Running.{Jobs, OwnAll}

pub stays_as : (jobs was : Jobs) (list : List Task) (rows rows' : Rows) (k k' : Seen) → jobs ≡ was → Stays jobs.running list rows rows' k k' → Stays was (record jobs { running = list }) rows rows' k k'
stays_as jobs was list rows rows' k k' same s =
    subst (λ (js : Jobs). Stays js (record jobs { running = list }) rows rows' k k') same
    (record {
      jobs = ap (λ (ts : List Task). record jobs { running = ts }) s.jobs;
      table = s.table;
      contents = s.contents;
      parts = s.parts;
      records = s.records;
      files = s.files;
      later = s.later;
      failing = s.failing;
    })

pub stays_here : {X : Type 0} (jobs : X) (rows : Rows) (k : Seen) → Stays jobs jobs rows rows k k
stays_here jobs rows k = record { jobs = refl; table = refl; contents = refl; parts = refl; records = refl; files = refl; later = omega arith; failing = refl }

pub owns_still : (jobs was : Jobs) (list : List Task) (rows rows' : Rows) (k k' : Seen) → jobs ≡ was → Stays jobs.running list rows rows' k k' → OwnAll was rows → OwnAll (record jobs { running = list }) rows'
owns_still jobs was list rows rows' k k' same s own =
    subst (λ (r : Rows). OwnAll (record jobs { running = list }) r) (sym s.table)
    (subst (λ (ts : List Task). OwnAll (record jobs { running = ts }) rows) (sym s.jobs) (subst (λ (js : Jobs). OwnAll js rows) (sym same) own))

-- the store has the records of its holds
pub agrees_still : {X : Type 0} (was now : X) (rows rows' : Rows) (k k' : Seen) → Stays was now rows rows' k k' → Agrees k.records rows.holds → Agrees k'.records rows'.holds
agrees_still was now rows rows' k k' s agrees = subst (λ (rs : Option (List HoldRecord)). Agrees rs rows'.holds) (sym s.records) (subst (λ (r : Rows). Agrees k.records r.holds) (sym s.table) agrees)
