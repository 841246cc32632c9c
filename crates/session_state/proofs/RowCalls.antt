-- The calls of answers by the row of a key: a removal and a hold.
use Rattle.std.proofs.Common.{◌≡◌, ℕ, Bool, true, false, List, [], ◌∷◌, Option, Some, None}
use Rattle.std.specs.Prelude.{Err}
use Rattle.std.specs.Option.{option_map}
use Rattle.annex_base.specs.declared.kinds.Call.{Call}
use Rattle.annex_base.specs.declared.kinds.Call.TheVariants as calls
use Rattle.run_data.specs.declared.row.Hold.{Hold}
use Rattle.object_store.specs.Calls.{FailsAsTold}
use Rattle.object_store.specs.Stores.{Contents}
use Rattle.node_model.specs.Calls.{to_hold, to_remove}
use Rattle.content_lock.specs.Looks.{NotRemoved, NotShared}
use Rattle.content_lock.specs.Stored.{HasContent}
use Rattle.content_lock.specs.Tokens.{ShareView}
use Rattle.content_lock.specs.Turns.{FailInTurn, removal_turns, share_turns}
use Rattle.content_lock.specs.declared.refusals.RemoveRefused.TheVariants as removes
use Rattle.content_lock.specs.declared.refusals.ShareRefused.TheVariants as shares
use Rattle.session_state.specs.Answers.{is_in}
use Rattle.content_lock.specs.CallsMade.{MakesCalls, fewer}
use Rattle.session_state.proofs.Calling.{makes_failed, makes_turns, turn_one}

-- ---- a removal

remove_look : (here : Bool) (bar : Option ℕ) (held : Bool) (before after : Option (Call → ℕ)) → FailsAsTold calls.Has before after true → MakesCalls (to_remove here bar held) (Some calls.Has) before after
remove_look true None true before after only = makes_failed calls.Has [] before after only
remove_look true None false before after only = makes_failed calls.Has (calls.Remove ∷ []) before after only
remove_look true (Some j) held before after only = makes_failed calls.Has [] before after only
remove_look false bar held before after only = makes_failed calls.Has [] before after only

pub remove_fails : (call : Call) (known : Option Contents) (c : Contents) (key : List ℕ) (bar : Option ℕ) (held : Bool) (blocking : List Hold) (before after : Option (Call → ℕ))
    → NotRemoved (removes.StoreFault call) (HasContent known key) bar held blocking → FailInTurn (removal_turns (Err (removes.StoreFault call))) before after → known ≡ Some c
    → MakesCalls (to_remove (is_in c key) bar held) (Some call) before after
remove_fails calls.Has known c key bar held blocking before after why turns is = remove_look (is_in c key) bar held before after (turn_one calls.Has true before after turns)
remove_fails calls.Remove known c key bar held blocking before after why turns is = rw (why.0 c is, why.1, why.2) (makes_turns calls.Has calls.Remove true before after turns)
remove_fails call known c key bar held blocking before after why turns is = absurd why

pub remove_left : (call : Call) (known : Option Contents) (key : List ℕ) (bar : Option ℕ) (held : Bool) (blocking : List Hold) (before after : Option (Call → ℕ))
    → NotRemoved (removes.StoreFault call) (HasContent known key) bar held blocking → FailInTurn (removal_turns (Err (removes.StoreFault call))) before after
    → after ≡ option_map (fewer (Some call)) before
remove_left calls.Has known key bar held blocking before after why turns = turns.1
remove_left calls.Remove known key bar held blocking before after why turns = (makes_turns calls.Has calls.Remove true before after turns).left
remove_left call known key bar held blocking before after why turns = absurd why

-- ---- a hold

hold_look : (here : Bool) (bar : Option ℕ) (before after : Option (Call → ℕ)) → FailsAsTold calls.Has before after true → MakesCalls (to_hold here bar) (Some calls.Has) before after
hold_look true None before after only = makes_failed calls.Has (calls.Hold ∷ []) before after only
hold_look true (Some j) before after only = makes_failed calls.Has [] before after only
hold_look false bar before after only = makes_failed calls.Has [] before after only

pub hold_fails : (call : Call) (known : Option Contents) (c : Contents) (key : List ℕ) (bar : Option ℕ) (before after : Option (Call → ℕ))
    → NotShared (shares.StoreFault call) (HasContent known key) bar → FailInTurn (share_turns {T = ShareView} (Err (shares.StoreFault call))) before after → known ≡ Some c
    → MakesCalls (to_hold (is_in c key) bar) (Some call) before after
hold_fails calls.Has known c key bar before after why turns is = hold_look (is_in c key) bar before after (turn_one calls.Has true before after turns)
hold_fails calls.Hold known c key bar before after why turns is = rw (why.0 c is, why.1) (makes_turns calls.Has calls.Hold true before after turns)
hold_fails call known c key bar before after why turns is = absurd why

pub hold_left : (call : Call) (known : Option Contents) (key : List ℕ) (bar : Option ℕ) (before after : Option (Call → ℕ))
    → NotShared (shares.StoreFault call) (HasContent known key) bar → FailInTurn (share_turns {T = ShareView} (Err (shares.StoreFault call))) before after
    → after ≡ option_map (fewer (Some call)) before
hold_left calls.Has known key bar before after why turns = turns.1
hold_left calls.Hold known key bar before after why turns = (makes_turns calls.Has calls.Hold true before after turns).left
hold_left call known key bar before after why turns = absurd why
