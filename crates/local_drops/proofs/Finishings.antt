-- The ends of a local drop, and what they leave.
use Rattle.std.proofs.Common.{◌≡◌, ℕ, true, false, List, None, Result, Ok, refl, sym, ap, ◌∙◌, arith}
use Rattle.std.specs.Prelude.{if◌then◌else◌}
use Rattle.annex_base.specs.declared.memory.NoMemory.{NoMemory}
use Rattle.run_data.specs.declared.entry.EntryKind.TheVariants.{End as ends_job}
use Rattle.run_data.specs.declared.job.Outcome.{Outcome}
use Rattle.node_model.specs.Rows.{is_lost_ordered}
use Rattle.node_model.specs.JobStep.{ends}
use Rattle.content_lock.specs.Rows.{AreAfter, Rows, bar_at}
use Rattle.drop_phases.specs.declared.phase.Ending.{Ending}
use Rattle.drop_phases.specs.declared.phase.Phase.TheVariants as phases
use Rattle.drop_phases.specs.declared.phase.Token.TheVariants as tokens
use Rattle.drop_phases.specs.declared.turn.Output.{Output}
use Rattle.drop_phases.specs.Sends.{SendsView}
use Rattle.drop_phases.specs.Worker.{Worker}
use Rattle.drop_phases.specs.Working.{Sight, frames_of, outcome_as, partings, present_in}
use Rattle.drop_phases.specs.Doing.{HasToken, OthersStay, is_barring}
use Rattle.drop_phases.specs.Feeding.{IsOfLocal}
use Rattle.drop_phases.specs.Leaving.{ActsOver, Did, GoesSo, Store}
use Rattle.drop_phases.proofs.Doings.{local_shares}
use Rattle.drop_phases.proofs.Endings.{ends_does, ends_rows}
use Rattle.drop_phases.proofs.Leavings.{goes_did, leaves_so}

pub finish_did : (x : Sight) (rows rows' : Rows) (k : Store) (w w' : Worker) (outcome : Outcome) (sends : SendsView) (out : Output) → is_lost_ordered outcome ≡ false → IsOfLocal w.token
    → HasToken w.number w.job.key w.token rows → w' ≡ record w { token = tokens.Nothing } → ((key : List ℕ) → bar_at rows' key ≡ (if is_barring w.token key then None else bar_at rows key))
    → rows'.holds ≡ rows.holds → rows'.fills ≡ rows.fills → HasToken w.number w.job.key tokens.Nothing rows' → OthersStay w.number rows rows'
    → out ≡ record { kind = ends_job w.number outcome; sends = sends; ended = true } → frames_of x.ends w.slot sends.items ≡ partings x.read x.ends w false
    → Did rows rows' k k w w' (ActsOver x k.contents rows rows' w w' (λ t. ends t None outcome)) (Ok out)
finish_did x rows rows' k w w' outcome sends out plain local own next off same fills bare others is sent = (
  λ c told. ends_does x rows rows' (present_in c) w w' None (λ t. ends t None outcome) outcome sends out is (sent ∙ ap (partings x.read x.ends w) (sym plain)) after (λ rest. refl),
  leaves_so rows rows' k k w (record w { token = tokens.Nothing }) w' (ends_job w.number outcome) out (ap (λ (o : Output). o.kind) is) next after refl refl (omega arith) tt bare
      (λ going. absurd (let both : true ≡ false = sym (ap (λ (o : Output). o.ended) is) ∙ going in cc)) refl refl refl others same,
)
  where
    after : AreAfter (ends_job w.number outcome) rows rows'
    after = ends_rows w.number w.job.key w.token rows rows' outcome plain (local_shares w.token local) own off same fills

-- an end that was known before
pub so_did : (x : Sight) (rows rows' : Rows) (k : Store) (w w' : Worker) (why : Ending) (r : Result Output NoMemory) → w.phase ≡ phases.Ends why
    → Did rows rows' k k w w' (ActsOver x k.contents rows rows' w w' (λ t. ends t None (outcome_as why))) r → Did rows rows' k k w w' (GoesSo x k.contents rows rows' w w') r
so_did x rows rows' k w w' why r at d = goes_did x rows rows' k k w w' (phases.Ends why) (λ t. ends t None (outcome_as why)) r at (λ p fails rest. refl) d
