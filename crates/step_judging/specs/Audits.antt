-- What an audit keeps of a key over the entries of a run: its removals, the fewest copies and claims since the first of them, and the
-- least m that their drops read.
use Rattle.std.specs.Prelude.{◌≡◌, ◌≢◌, ◌⊎◌, ℕ, ◌+◌, ◌≤◌, if◌then◌else◌, ◌==◌, List, [], ◌∷◌, length, Option, Some, None}
use Rattle.run_data.specs.declared.entry.Entry.{Entry}
use Rattle.run_data.specs.declared.run.RepoView.{RepoView}
use Rattle.run_model.specs.Safety.{Removal, count, least_need, removal, removals, smaller}

pub record KeyAudit : Type 0 where
  pub removals : ℕ
  pub least : Option ℕ
  pub need : Option ℕ

abbrev pub new_audit : KeyAudit
new_audit = record { removals = 0; least = None; need = None }

abbrev pub with_removal : Option Removal → KeyAudit → KeyAudit
with_removal None was = was
with_removal (Some x) was = record { removals = was.removals + 1; least = was.least; need = Some (smaller x.need.m was.need) }

-- once there is a removal, the count after each entry counts
abbrev pub with_count : ℕ → KeyAudit → KeyAudit
with_count c was = if was.removals == 0 then was else record { removals = was.removals; least = Some (smaller c was.least); need = was.need }

-- entry by entry
abbrev pub audit : List RepoView → List Entry → List ℕ → KeyAudit
audit repos [] key = new_audit
audit repos (e ∷ past) key = with_count (count repos (e ∷ past) key) (with_removal (removal repos past key e) (audit repos past key))

-- ---- what it is

-- these entries were all, at some time
abbrev pub WereAll : List Entry → List Entry → Type 0
WereAll [] before = before ≡ []
WereAll (e ∷ past) before = (before ≡ e ∷ past) ⊎ WereAll past before

-- the least count of those times at which there was a removal of the key
pub record IsLeastCount (repos : List RepoView) (past : List Entry) (key : List ℕ) (least : Option ℕ) : Type 0 where
  pub none : least ≡ None → removals repos past key ≡ []
  pub reached : (n : ℕ) → least ≡ Some n → (before : List Entry) × WereAll past before × (removals repos before key ≢ []) × (count repos before key ≡ n)
  pub below : (n : ℕ) → least ≡ Some n → (before : List Entry) → WereAll past before → removals repos before key ≢ [] → n ≤ count repos before key

pub record IsAudit (repos : List RepoView) (past : List Entry) (key : List ℕ) (a : KeyAudit) : Type 0 where
  pub removals_are : a.removals ≡ length (removals repos past key)
  pub need_is : a.need ≡ least_need (removals repos past key)
  pub least_is : IsLeastCount repos past key a.least
