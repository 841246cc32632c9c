-- A local drop that removes the content, and one whose store fails to.
use Rattle.std.proofs.Common.{◌≡◌, ◌≤◌, ℕ, List, [], Ok, refl, ap, ◌∙◌, subst}
use Rattle.drop_proof.specs.declared.rule.Side.TheVariants.{Local}
use Rattle.run_data.specs.declared.entry.By.{By}
use Rattle.run_data.specs.declared.entry.By.TheVariants.{Job as by_job}
use Rattle.run_data.specs.declared.entry.EntryKind.TheVariants.{Gone}
use Rattle.node_model.specs.Jobs as Jobs
use Rattle.node_model.specs.Jobs.{fault_phase, stores_fault, to_phase, Drops, Work}
use Rattle.content_lock.specs.Rows.{AreAfter, Rows}
use Rattle.content_lock.specs.Stored.{without_content}
use Rattle.content_lock.specs.Tokens.{BarView}
use Rattle.drop_phases.specs.declared.phase.Phase.TheVariants as phases
use Rattle.drop_phases.specs.declared.phase.Token.{Token}
use Rattle.drop_phases.specs.declared.phase.Token.TheVariants as tokens
use Rattle.drop_phases.specs.declared.turn.Output.{Output}
use Rattle.drop_phases.specs.Worker.{Worker}
use Rattle.drop_phases.specs.Working.{Sight, present_in, work_of}
use Rattle.drop_phases.specs.Doing.{HasToken, removes_now}
use Rattle.drop_phases.specs.Leaving.{ActsOver, Did, Store}
use Rattle.drop_phases.proofs.Leavings.{leaves_so, quiet_does}
use Rattle.drop_phases.proofs.Tokens.{others_off, owns_none}

-- a call that fails ends a local drop next, wherever it stands
pub fault_ends : (r : ℕ) (v : Work) (ph : Jobs.Phase) → fault_phase r v Drops Local ph ≡ to_phase v (Jobs.Ends (stores_fault v.part))
fault_ends r v Jobs.Fresh = refl
fault_ends r v ph = refl

module _ (x : Sight) (rows rows' : Rows) (k k' : Store) (w w' : Worker) (bar : BarView) (out : Output) (has : w.token ≡ tokens.Bar bar) (own : HasToken w.number w.job.key w.token rows)
    (sends : out.sends.items ≡ []) (holds : rows'.holds ≡ rows.holds) (records : k'.records ≡ k.records) (later : k.faults ≤ k'.faults) where
  mine : HasToken w.number w.job.key (tokens.Bar bar) rows
  mine = subst (λ (t : Token). HasToken w.number w.job.key t rows) has own

  pub removed_did : out.kind ≡ Gone (by_job w.number) w.job.key → w' ≡ record w { phase = phases.Removed; token = tokens.Nothing } → ((by : By) → AreAfter (Gone by bar.key) rows rows')
      → k'.contents ≡ without_content k.contents bar.key → Did rows rows' k k' w w' (ActsOver x k.contents rows rows' w w' removes_now) (Ok out)
  removed_did kind next after gone = (
    λ c is. quiet_does x rows rows' (present_in c) w w' removes_now (Gone (by_job w.number) w.job.key) out kind sends (λ rest. refl) (λ rest. ap (work_of rest) next) then refl,
    leaves_so rows rows' k k' w (record w { phase = phases.Removed; token = tokens.Nothing }) w' (Gone (by_job w.number) w.job.key) out kind next then
        (gone ∙ ap (without_content k.contents) mine.of_key) records later tt
        (owns_none w.number bar w.job.key rows rows' (after (by_job w.number)).bars holds mine) (λ going. tt) refl refl refl (others_off w.number bar w.job.key rows rows' (after (by_job w.number)).bars mine holds) holds,
  )
    where
      then : AreAfter (Gone (by_job w.number) w.job.key) rows rows'
      then = subst (λ (key : List ℕ). AreAfter (Gone (by_job w.number) key) rows rows') mine.of_key (after (by_job w.number))
