-- The laws of drivers that meet a full history.
use Rattle.std.proofs.Common.{◌≡◌, ℕ, ◌<◌, ◌≤◌, false, List, ◌++◌, length, None}
use Rattle.run_data.specs.Histories.{most_entries}
use Rattle.run_model.specs.Logs.{branch}
use Rattle.union_merge.specs.Branch.{Files}
use Rattle.node_model.specs.Step.{step}
use Rattle.driver_model.specs.Driver.{Driver, DriverInput, drops_part, puts_part, set_up_of, state_at}
use Rattle.driver_model.specs.Finding.{driver_at_turn}
use Rattle.driver_model.specs.Limits.{AddsOwn, count_of, within_limit}
use Rattle.driver_model.specs.Scripts.{IsContent, IsKnown}
use Rattle.driver_model.specs.ScriptSteps.{compacts_files, gets_content, has, is_busy, merges_files, sets_part}
use Rattle.driver_model.specs.Sound.{StaysSound}
use Rattle.driver_model.specs.Turning.{plain_look, turn}

pub record StopLaws : Type 0 where
  pub turn_adds : (g : DriverInput) (r : ℕ) (d : Driver) → AddsOwn r d (turn g r d)
  pub content_adds : (g : DriverInput) (r : ℕ) (key bytes : List ℕ) (d : Driver) → AddsOwn r d (has g r key bytes d)
  pub part_adds : (g : DriverInput) (r : ℕ) (key bytes : List ℕ) (d : Driver) → AddsOwn r d (sets_part g r key bytes d)
  pub merges_add : (r : ℕ) (files : Files) (d : Driver) → AddsOwn r d (merges_files r files d)
  pub compacts_add : (r : ℕ) (files : Files) (d : Driver) → AddsOwn r d (compacts_files r files d)
  pub merges_start : (g : DriverInput) (r other : ℕ) (done left : Files) (d : Driver) → IsKnown g r → branch d.past other ≡ done ++ left → StaysSound g d (merges_files r done d)
  pub compacts_start : (g : DriverInput) (r : ℕ) (done left : Files) (d : Driver) → IsKnown g r → branch d.past r ≡ done ++ left → StaysSound g d (compacts_files r done d)
  pub content_start : (g : DriverInput) (r : ℕ) (key bytes : List ℕ) (d : Driver) → IsKnown g r → IsContent key bytes → is_busy g d r key ≡ false
      → StaysSound g d (gets_content r key bytes (puts_part r key bytes (drops_part r key d)))
  pub asks : (g : DriverInput) (r : ℕ) (d after : Driver) → r < length g.repos → AddsOwn r d after → count_of d.past r ≡ most_entries → ((q : ℕ) → count_of d.past q ≤ most_entries) → within_limit g after.past ≡ d.past
  pub idle : (g : DriverInput) (r : ℕ) (d : Driver) → length (turn g r d).past ≡ length d.past → step (set_up_of g d r) (state_at g d r) (plain_look (set_up_of g d r) (driver_at_turn g r d)) ≡ None
