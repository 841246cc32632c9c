-- What holds of the state of a repository in every run (own).
use Rattle.std.specs.Prelude.{◌≡◌, ℕ, Bool, true, not, ◌&&◌, ◌==◌, List, find, Some, bytes_eq}
use Rattle.std.specs.List.{list_any}
use Rattle.annex_base.specs.Lists.{Member}
use Rattle.drop_proof.specs.declared.rule.Side.TheVariants.{Local}
use Rattle.run_data.specs.declared.entry.By.{By}
use Rattle.run_data.specs.declared.entry.By.TheVariants.{Peer}
use Rattle.run_data.specs.declared.row.Hold.{Hold}
use Rattle.node_model.specs.Ends.{server_end}
use Rattle.node_model.specs.Jobs.{Drops, Next, Work, side_of}
use Rattle.node_model.specs.Rows.{same_owner}
use Rattle.node_model.specs.Sessions.{Guards}
use Rattle.node_model.specs.State.{State}

-- a hold of this number on the key is open
abbrev pub is_open_hold : ℕ → List ℕ → Hold → Bool
is_open_hold number key h = (h.number == number) && bytes_eq h.key key && not h.kept

-- a hold of this owner is open
abbrev pub is_open_for : By → Hold → Bool
is_open_for owner h = same_owner h.owner owner && not h.kept

-- jobs of one number are in one slot
abbrev pub HasOneSlotEach : State → Type 0
HasOneSlotEach st = (v w : Work) → Member v st.works → Member w st.works → v.number ≡ w.number → v.slot ≡ w.slot

-- Jobs of one number are in one slot; while a session guards a hold, it is open; and a
-- local drop that is under way has its bar.
pub record IsSound (st : State) : Type 0 where
  pub slots : HasOneSlotEach st
  pub guards : (peer slot hold : ℕ) (key : List ℕ) → (st.sessions (server_end peer slot)).doing ≡ Guards hold key
      → list_any (λ h. is_open_hold hold key h && is_open_for (Peer peer slot) h) st.holds ≡ true
  pub bars : (w : Work) → Member w st.works → w.part ≡ Drops → side_of w ≡ Local → w.phase ≡ Next → st.bar w.what.key ≡ Some w.number

-- jobs of one number are in one slot, and each is the one in its slot
pub record IsSeated (st : State) : Type 0 where
  pub slots : HasOneSlotEach st
  pub seats : (w : Work) → Member w st.works → find (λ v. v.slot == w.slot) st.works ≡ Some w
