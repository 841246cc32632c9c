-- What the sessions and the jobs had is given up, and a crash changes the rows.
use Rattle.std.proofs.Common.{Bool, false, refl, sym, ap, ◌∙◌}
use Rattle.std.specs.Prelude.{◌&&◌, ◌||◌}
use Rattle.run_data.specs.declared.entry.By.TheVariants.{Job as by_job}
use Rattle.content_lock.specs.Rows.{Rows, bar_at, is_filling}
use Rattle.node_model.specs.Rows.{option_is}
use Rattle.running_jobs.specs.Running.{fills_at}
use Rattle.node_crash.proofs.Jobs.{fills_of_jobs, jobs_keep, no_jobs}
use Rattle.node_crash.proofs.restarting.restart.Goals as goal

pub end_all-requires : goal.end_all-requires
end_all-requires c =
    let e = c.all_closed.ensures in
    let jobs = c.args.jobs.now in
    let table = c.all_closed.new.table in
    record {
      owns =
          jobs_keep jobs c.args.table.now table e.bars (λ job share owns. e.others (by_job job) share (no_jobs c.args.sessions.now job) owns)
          (fills_of_jobs table c.all_closed.new.self jobs.running (e.filled (fills_at jobs.running) c.requires.filled)) c.requires.acting;
    }

pub returns-clause-restarts : goal.returns-clause-restarts
returns-clause-restarts c =
    let e = c.all_closed.ensures in
    let table = c.all_closed.new.table in
    let r = c.restart.ensures in record {
      sessions = e.sessions;
      holds = ap (λ (rows : Rows). rows.holds) r.after ∙ (c.end_all.ensures.crash c.args.clock ∙ e.crash c.args.clock);
      bars = λ key. ap (λ (rows : Rows). bar_at rows key) r.after;
      serving = e.bare c.restart.new.self r.nobody;
      acting = record {
        tasks = tt;
        owns = tt;
        apart = tt;
        later = λ job key beyond. record { of_key = refl; of_job = refl; bars = λ k. ap (λ (rows : Rows). option_is (bar_at rows k) job) r.after; holds = r.nobody (by_job job) };
      };
      filled = record {
        filled = λ key. ap (λ (rows : Rows). is_filling rows key) r.after ∙ sym (ap (λ (b : Bool). b || false) (e.fills key));
        apart = λ key. ap (λ (b : Bool). b && false) (e.fills key);
      };
      there = e.there;
      fed = e.fed;
      agrees = λ known agrees. λ records told. e.agrees known agrees records told ∙ sym (r.stored ∙ c.end_all.ensures.labels);
    }
