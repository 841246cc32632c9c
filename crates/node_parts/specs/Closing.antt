-- What the close of a connection leaves of the sessions and of the table; for private contracts.
use Rattle.std.specs.Prelude.{◌≡◌, ℕ, ◌<◌, Bool, List, [], ◌∷◌, All, Option, None}
use Rattle.run_data.specs.declared.entry.By.{By}
use Rattle.run_data.specs.declared.entry.Entry.{Entry}
use Rattle.run_data.specs.declared.entry.EntryKind.TheVariants.{Close}
use Rattle.run_data.specs.declared.entry.FrameText.TheVariants.{Closing}
use Rattle.object_store.specs.Stores.{Parts}
use Rattle.object_store.specs.declared.keeper.HoldRecord.{HoldRecord}
use Rattle.content_lock.specs.Rows.{Rows}
use Rattle.content_lock.specs.Stored.{Agrees}
use Rattle.content_lock.specs.Tokens.{Owns, ShareView}
use Rattle.link_ring.specs.Ends.{EndView}
use Rattle.node_model.specs.After.{state_after}
use Rattle.node_model.specs.Ends.{End, EndName, frames}
use Rattle.node_model.specs.SetUp.{SetUp}
use Rattle.node_model.specs.State.{State}
use Rattle.p2p_server.specs.declared.session.Session.{Session}
use Rattle.p2p_server.specs.Talking.{AreAfterStep}
use Rattle.node_sessions.specs.Sessions.{AreAllFed, AreFilled, AreSessions, HaveEnds, IsOther, OwnAll}

-- The session of this end, where it is a server's, lets go of what it has and is as new: the sessions are those of the state after the
-- entry of the close, the rows those that it leaves, and what others have stays theirs.
pub record Shuts (a : EndName) (xs xs' : List Session) (rows rows' : Rows) : Type 0 where
  pub sessions : (s : SetUp) (st : State) (e : Entry) (c : End) → AreSessions s st.sessions xs → e.kind ≡ Close a.peer a.slot a.client → e.taken ≡ None → e.sent ≡ frames a c (Closing ∷ []) → AreSessions s (state_after s st e).sessions xs'
  pub after : AreAfterStep (Close a.peer a.slot a.client) rows rows'
  pub numbers : (n : ℕ) → All (λ h. h.number < n) rows.holds → All (λ h. h.number < n) rows'.holds
  pub owns : OwnAll rows' xs'
  pub there : (links : List EndView) → HaveEnds links xs → HaveEnds links xs'
  pub others : (by : By) (share : Option ShareView) → IsOther by xs → Owns by share rows.holds → Owns by share rows'.holds
  pub filled : (others : List ℕ → Bool) → AreFilled rows xs others → AreFilled rows' xs' others
  pub fed : (q : Parts) → AreAllFed q xs → AreAllFed q xs'
  pub agrees : (known : Option (List HoldRecord)) → Agrees known rows.holds → Agrees known rows'.holds
