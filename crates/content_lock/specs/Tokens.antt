-- Tokens of a table: whose hold stands open there, and what an owner's share says of the owner's other holds (own).
use Rattle.std.specs.Prelude.{◌≡◌, ℕ, not, ◌&&◌, ◌||◌, ◌==◌, List, filter, find, map, Option, Some, None}
use Rattle.std.specs.Option.{option_map}
use Rattle.run_data.specs.declared.entry.By.{By}
use Rattle.run_data.specs.declared.row.Hold.{Hold}
use Rattle.node_model.specs.Rows.{keep_of, same_owner}
use Rattle.content_lock.specs.Rows.{Rows, bar_at}

-- a share: the number of its hold, its key, and for whom it is
pub record ShareView : Type 0 where
  pub number : ℕ
  pub key : List ℕ
  pub owner : By

-- a bar: its key, and the job that put it
pub record BarView : Type 0 where
  pub key : List ℕ
  pub job : ℕ

abbrev pub share_of : Hold → ShareView
share_of h = record { number = h.number; key = h.key; owner = h.owner }

-- the open hold of this number, as a share
abbrev pub open_share : List Hold → ℕ → Option ShareView
open_share holds number = option_map share_of (find (λ h. (h.number == number) && not h.kept) holds)

-- the table gave the share: its hold stands there and is open
abbrev pub HasShare : List Hold → ShareView → Type 0
HasShare holds share = open_share holds share.number ≡ Some share

-- the table gave the bar: it stands there
abbrev pub HasBar : Rows → BarView → Type 0
HasBar rows bar = bar_at rows bar.key ≡ Some bar.job

-- the holds of other numbers
abbrev pub others_of : ℕ → List Hold → List Hold
others_of number holds = filter (λ h. not (h.number == number)) holds

-- the holds but those of this owner that are open
abbrev pub without_open : By → List Hold → List Hold
without_open owner holds = filter (λ h. h.kept || not (same_owner h.owner owner)) holds

-- the hold is kept from now on, where it has this number
abbrev pub keep_numbered : ℕ → Hold → Hold
keep_numbered number h = record h { kept = h.kept || (h.number == number) }

abbrev pub owner_in : By → Option ShareView → By
owner_in by None = by
owner_in by (Some share) = share.owner

abbrev pub given_in : List Hold → Option ShareView → Option ShareView
given_in holds None = None
given_in holds (Some share) = open_share holds share.number

abbrev pub others_in : Option ShareView → List Hold → List Hold
others_in None holds = holds
others_in (Some share) holds = others_of share.number holds

-- the owner has this share of the table, or none, and each other hold of the owner's is kept
pub record Owns (by : By) (share : Option ShareView) (holds : List Hold) : Type 0 where
  pub owner : owner_in by share ≡ by
  pub given : given_in holds share ≡ share
  pub kept : map (keep_of by) (others_in share holds) ≡ others_in share holds
