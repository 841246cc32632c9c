-- The jobs that are left can end, and those that have ended were among them all.
use Rattle.std.proofs.Common.{◌≡◌, ℕ, List, vec_len}
use Rattle.std.specs.Prelude.{◌&&◌, map, not}
use Rattle.annex_base.specs.Lists.{Each, Member}
use Rattle.run_data.specs.declared.entry.EntryKind.TheVariants.{Crash}
use Rattle.node_model.specs.Rows.{holds_after}
use Rattle.content_lock.specs.Rows.{is_filling}
use Rattle.content_lock.specs.Stored.{label_of}
use Rattle.running_jobs.specs.Ending.{CanEnd, OthersKeep}
use Rattle.running_jobs.specs.Running.{fills_at}
use Rattle.running_jobs.proofs.listing.end_all.Given as goal

abbrev pub invariant-ending : goal.invariant-ending
invariant-ending l =
    record {
      left : CanEnd l.table l.running.items;
      among : Each (λ t. Member t l.initial.running.items) l.running.items;
      labels : map label_of l.table.holds ≡ map label_of l.initial.table.holds;
      crash : (clock : ℕ) → holds_after l.table.holds (Crash clock) ≡ holds_after l.initial.table.holds (Crash clock);
      fills : (key : List ℕ) → (not (fills_at l.running.items key) && is_filling l.table key) ≡ (not (fills_at l.initial.running.items key) && is_filling l.initial.table key);
      others : OthersKeep l.initial.running.items l.initial.table l.table;
    }

abbrev pub decreases-ending : goal.decreases-ending
decreases-ending l = vec_len l.running
