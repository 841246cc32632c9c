-- The repositories that have a key, or whose claims of it count, as data (own).
use Rattle.std.specs.Prelude.{◌≡◌, ℕ, Bool, false, ◌||◌, List, get_or, length}
use Rattle.run_data.specs.declared.entry.Entry.{Entry}
use Rattle.run_data.specs.declared.run.RepoView.{RepoView}
use Rattle.run_model.specs.Past.{present}
use Rattle.run_model.specs.Safety.{claim}
use Rattle.run_audit.specs.declared.holders.Holder.{Holder}
use Rattle.run_audit.specs.declared.holders.Holders.{Holders}

-- a repository without a copy and without a claim
abbrev pub no_holder : Holder
no_holder = record { copy = false; claim = false }

abbrev pub is_held : Holder → Bool
is_held h = h.copy || h.claim

abbrev pub holder_at : List Holder → ℕ → Holder
holder_at xs r = get_or xs r no_holder

-- what the entries say of the key and a repository
abbrev pub holder_of : List RepoView → List Entry → List ℕ → ℕ → Holder
holder_of repos past key r = record { copy = present past r key; claim = claim repos past r key }

-- so many repositories have none; for private contracts
pub record AreNone (count : ℕ) (x : Holders) : Type 0 where
  pub long : length x.each.items ≡ count
  pub none : (r : ℕ) → holder_at x.each.items r ≡ no_holder
