-- What is answered, by what was found.
use Rattle.std.proofs.Common.{◌≡◌, ℕ, Bool, true, false, List, [], ◌∷◌, Option, Some, None, refl}
use Rattle.std.specs.Prelude.{is_some}
use Rattle.annex_base.specs.declared.kinds.Call.{Call}
use Rattle.annex_base.specs.declared.kinds.Call.TheVariants as calls
use Rattle.annex_base.specs.declared.kinds.Found.TheVariants as found
use Rattle.run_data.specs.declared.entry.EntryKind.TheVariants.{Check, Fault, Gone}
use Rattle.p2p_wire.specs.declared.message.Message.TheVariants.{Success, Failure}
use Rattle.run_data.specs.declared.entry.By.{By}
use Rattle.run_data.specs.declared.row.Hold.{Hold}
use Rattle.object_store.specs.Stores.{Contents}
use Rattle.content_lock.specs.Looks.{NotRemoved, NotShared}
use Rattle.content_lock.specs.Rows.{AreAfter, Rows, bar_at}
use Rattle.content_lock.specs.Stored.{HasContent}
use Rattle.content_lock.specs.declared.refusals.ShareRefused.TheVariants as shares
use Rattle.content_lock.specs.declared.refusals.RemoveRefused.TheVariants as removes
use Rattle.node_model.specs.Look.{failing_call}
use Rattle.node_model.specs.Calls.{to_hold, to_remove}
use Rattle.session_state.specs.Answers.{as_said}
use Rattle.node_model.specs.SessionStep.{Here, Reply, bar_on, by_of, check_answer, is_held, is_here, on_lock, on_remove, failure_line, reply, tries}

abbrev pub on_check : List ℕ → Here → Reply
on_check key h = tries h (calls.Has ∷ []) failure_line (check_answer key (is_here h key) (bar_on h key))

pub check_there : (h : Here) (key : List ℕ) → h.fails ≡ None → h.present key ≡ true → h.bar key ≡ None → reply (Check found.Present key) Success ≡ as_said (on_check key h)
check_there h key f p b = rw (f, p, b) refl

pub check_gone : (h : Here) (key : List ℕ) → h.fails ≡ None → h.present key ≡ false → reply (Check found.Absent key) Failure ≡ as_said (on_check key h)
check_gone h key f p = rw (f, p) refl

pub check_barred : (h : Here) (key : List ℕ) (job : ℕ) → h.fails ≡ None → h.present key ≡ true → h.bar key ≡ Some job → reply (Check found.Barred key) Failure ≡ as_said (on_check key h)
check_barred h key job f p b = rw (f, p, b) refl

pub lock_gone : (h : Here) (key : List ℕ) → h.fails ≡ None → h.locks ≡ true → h.present key ≡ false → reply (Check found.Absent key) Failure ≡ as_said (on_lock h key)
lock_gone h key f l p = rw (f, l, p) refl

pub lock_barred : (h : Here) (key : List ℕ) (job : ℕ) → h.fails ≡ None → h.locks ≡ true → h.present key ≡ true → h.bar key ≡ Some job → reply (Check found.Barred key) Failure ≡ as_said (on_lock h key)
lock_barred h key job f l p b = rw (f, l, p, b) refl

failing_hold : (b : Bool) (bar : Option ℕ) → failing_call (Some calls.Has) (to_hold b bar) ≡ Some calls.Has
failing_hold true None = refl
failing_hold true (Some j) = refl
failing_hold false bar = refl

failing_remove : (b : Bool) (bar : Option ℕ) (held : Bool) → failing_call (Some calls.Has) (to_remove b bar held) ≡ Some calls.Has
failing_remove true None true = refl
failing_remove true None false = refl
failing_remove true (Some j) held = refl
failing_remove false bar held = refl

lock_fails : (h : Here) (key : List ℕ) (call : Call) → h.fails ≡ Some call → h.locks ≡ true → failing_call (Some call) (to_hold (h.present key) (h.bar key)) ≡ Some call
    → reply (Fault call (by_of h)) Failure ≡ as_said (on_lock h key)
lock_fails h key call f l is = rw (f, l, is) refl

pub lock_failed : (h : Here) (key : List ℕ) (known : Option Contents) (c : Contents) (call : Call) → known ≡ Some c → h.present key ≡ is_some (c key) → h.fails ≡ Some call → h.locks ≡ true
    → NotShared (shares.StoreFault call) (HasContent known key) (h.bar key) → reply (Fault call (by_of h)) Failure ≡ as_said (on_lock h key)
lock_failed h key known c calls.Has is p f l why = lock_fails h key calls.Has f l (failing_hold (h.present key) (h.bar key))
lock_failed h key known c calls.Hold is p f l why = lock_fails h key calls.Hold f l (rw (p, why.0 c is, why.1) refl)
lock_failed h key known c call is p f l why = absurd why

pub share_leaves : (call : Call) (by : By) (rows : Rows) (known : Option Contents) (key : List ℕ) → NotShared (shares.StoreFault call) (HasContent known key) (bar_at rows key) → AreAfter (Fault call by) rows rows
share_leaves calls.Has by rows known key why = record { holds = refl; bars = λ k. refl; fills = refl }
share_leaves calls.Hold by rows known key why = record { holds = refl; bars = λ k. refl; fills = refl }
share_leaves call by rows known key why = absurd why

pub remove_there : (h : Here) (key : List ℕ) → h.fails ≡ None → h.present key ≡ true → h.bar key ≡ None → is_held h key ≡ false → reply (Gone (by_of h) key) Success ≡ as_said (on_remove h key)
remove_there h key f p b k = rw (f, p, b, k) refl

pub remove_gone : (h : Here) (key : List ℕ) → h.fails ≡ None → h.present key ≡ false → reply (Check found.Absent key) Success ≡ as_said (on_remove h key)
remove_gone h key f p = rw (f, p) refl

pub remove_barred : (h : Here) (key : List ℕ) (job : ℕ) → h.fails ≡ None → h.present key ≡ true → h.bar key ≡ Some job → reply (Check found.Barred key) Failure ≡ as_said (on_remove h key)
remove_barred h key job f p b = rw (f, p, b) refl

pub remove_held : (h : Here) (key : List ℕ) → h.fails ≡ None → h.present key ≡ true → h.bar key ≡ None → is_held h key ≡ true → reply (Check found.Held key) Failure ≡ as_said (on_remove h key)
remove_held h key f p b k = rw (f, p, b, k) refl

remove_fails : (h : Here) (key : List ℕ) (call : Call) → h.fails ≡ Some call → failing_call (Some call) (to_remove (h.present key) (h.bar key) (is_held h key)) ≡ Some call
    → reply (Fault call (by_of h)) Failure ≡ as_said (on_remove h key)
remove_fails h key call f is = rw (f, is) refl

pub remove_failed : (h : Here) (key : List ℕ) (known : Option Contents) (c : Contents) (call : Call) (blocking : List Hold) → known ≡ Some c → h.present key ≡ is_some (c key) → h.fails ≡ Some call
    → NotRemoved (removes.StoreFault call) (HasContent known key) (h.bar key) (is_held h key) blocking → reply (Fault call (by_of h)) Failure ≡ as_said (on_remove h key)
remove_failed h key known c calls.Has blocking is p f why = remove_fails h key calls.Has f (failing_remove (h.present key) (h.bar key) (is_held h key))
remove_failed h key known c calls.Remove blocking is p f why = remove_fails h key calls.Remove f (rw (p, why.0 c is, why.1, why.2) refl)
remove_failed h key known c call blocking is p f why = absurd why

pub remove_leaves : (call : Call) (by : By) (rows : Rows) (known : Option Contents) (key : List ℕ) (held : Bool) (blocking : List Hold) → NotRemoved (removes.StoreFault call) (HasContent known key) (bar_at rows key) held blocking → AreAfter (Fault call by) rows rows
remove_leaves calls.Has by rows known key held blocking why = record { holds = refl; bars = λ k. refl; fills = refl }
remove_leaves calls.Remove by rows known key held blocking why = record { holds = refl; bars = λ k. refl; fills = refl }
remove_leaves call by rows known key held blocking why = absurd why
