-- The calls of the end of a remote drop.
use Rattle.std.proofs.Common.{◌≡◌, Bool, true, false, not, [], ◌∷◌, Some, None, Ok, refl}
use Rattle.std.specs.Prelude.{◌&&◌}
use Rattle.annex_base.specs.declared.kinds.Call.TheVariants as calls
use Rattle.annex_base.proofs.Conditions.{eqb_refl}
use Rattle.run_data.specs.declared.entry.By.TheVariants.{Job as by_job}
use Rattle.run_data.specs.declared.job.Outcome.{Outcome}
use Rattle.object_store.specs.Calls.{FailsAsTold}
use Rattle.node_model.specs.Calls.{to_release}
use Rattle.node_model.specs.Rows.{is_lost_ordered}
use Rattle.node_model.specs.Look.{failed_in}
use Rattle.content_lock.specs.Rows.{Rows}
use Rattle.content_lock.specs.Tokens.{ShareView}
use Rattle.drop_phases.specs.declared.phase.Token.TheVariants as tokens
use Rattle.drop_phases.specs.declared.turn.Output.{Output}
use Rattle.drop_phases.specs.Calling.{Failing, MakesEnd, has_open}
use Rattle.drop_phases.specs.Doing.{HasToken}
use Rattle.drop_phases.specs.Worker.{Worker}
use Rattle.drop_phases.proofs.Callings.{makes_as, makes_failed, makes_last, makes_none, no_release, shareless}
use Rattle.remote_requests.proofs.RemoteEndings.{open_there}

none_lost : (b lost : Bool) → lost ≡ true → to_release (b && not lost) ≡ []
none_lost true lost e = rw e refl
none_lost false lost e = refl

release_there : (b lost : Bool) → b ≡ true → lost ≡ false → to_release (b && not lost) ≡ calls.Unhold ∷ []
release_there b lost there plain = rw (there, plain) refl

module _ (rows : Rows) (w : Worker) (outcome : Outcome) (out : Output) where
  -- it had nothing to release
  pub bare_makes : (before : Failing) → HasToken w.number w.job.key tokens.Nothing rows → failed_in out.kind ≡ None → MakesEnd rows w outcome before before (Ok out)
  bare_makes before own well =
      makes_none (to_release (has_open rows w && not (is_lost_ordered outcome))) (failed_in out.kind) before (no_release (has_open rows w) _ (shareless w rows tokens.Nothing refl own)) well

  -- it lost an order
  pub lost_makes : (before : Failing) → is_lost_ordered outcome ≡ true → failed_in out.kind ≡ None → MakesEnd rows w outcome before before (Ok out)
  lost_makes before lost well =
      makes_none (to_release (has_open rows w && not (is_lost_ordered outcome))) (failed_in out.kind) before (none_lost (has_open rows w) (is_lost_ordered outcome) lost) well

  module _ (before after : Failing) (share : ShareView) (own : HasToken w.number w.job.key (tokens.Share share) rows) (plain : is_lost_ordered outcome ≡ false) where
    releases : to_release (has_open rows w && not (is_lost_ordered outcome)) ≡ calls.Unhold ∷ []
    releases = release_there (has_open rows w) (is_lost_ordered outcome) (open_there rows.holds share (by_job w.number) own.holds.given own.holds.owner (eqb_refl w.number)) plain

    pub released_makes : failed_in out.kind ≡ None → FailsAsTold calls.Unhold before after false → MakesEnd rows w outcome before after (Ok out)
    released_makes well it =
        makes_as (to_release (has_open rows w && not (is_lost_ordered outcome))) (calls.Unhold ∷ []) (failed_in out.kind) None before after releases well (makes_last calls.Unhold before after it)

    pub unreleased_makes : failed_in out.kind ≡ Some calls.Unhold → FailsAsTold calls.Unhold before after true → MakesEnd rows w outcome before after (Ok out)
    unreleased_makes failed it =
        makes_as (to_release (has_open rows w && not (is_lost_ordered outcome))) (calls.Unhold ∷ []) (failed_in out.kind) (Some calls.Unhold) before after releases failed (makes_failed calls.Unhold [] before after it)
