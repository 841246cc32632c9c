-- What a step of a transfer leaves.
use Rattle.std.proofs.Common.{◌≡◌, ℕ, Bool, true, false, List, Some, None, refl, sym, ap, ◌∙◌, arith}
use Rattle.std.specs.Prelude.{bytes_eq, not, ◌&&◌, if◌then◌else◌}
use Rattle.annex_base.proofs.Conditions.{bytes_eq-true}
use Rattle.node_model.specs.Jobs.{Work}
use Rattle.node_model.specs.Look.{failed_in}
use Rattle.node_model.specs.Slots.{job_of}
use Rattle.content_lock.specs.Rows.{Rows, is_filling}
use Rattle.session_state.specs.Answers.{contents_after}
use Rattle.session_state.proofs.Calling.{as_it_was}
use Rattle.transfer_turns.specs.declared.parcels.Output.{Output}
use Rattle.transfer_turns.specs.Steps.{FillsSo, IsOfTransfer, Leaves, LeavesAll, LeavesBut, Seen, fills_key}

-- a job that fills no key, before and after, fills none
pub none_filled : (v v' : Work) (was : List ℕ → Bool) → v.fills ≡ false → v'.fills ≡ false → FillsSo v v' was was
none_filled v v' was before after = record { after = λ key. rw (before, after) refl; free = λ key. rw after refl }

-- one that goes on to fill its key, which the table says is filled
pub still_filled : (v v' : Work) (was : List ℕ → Bool) → v'.what ≡ v.what → v'.fills ≡ v.fills → (v.fills ≡ true → was v.what.key ≡ true) → FillsSo v v' was was
still_filled v v' was what fills has = record { after = λ key. go key v.fills (bytes_eq v.what.key key) refl refl; free = λ key. free key v.fills (bytes_eq v.what.key key) refl refl }
  where
    is_it : (key : List ℕ) → v.fills ≡ true → bytes_eq v.what.key key ≡ true → was key ≡ true
    is_it key on same = ap was (sym (bytes_eq-true v.what.key key same)) ∙ has on

    go : (key : List ℕ) (b c : Bool) → v.fills ≡ b → bytes_eq v.what.key key ≡ c → was key ≡ (if fills_key v' key then true else (if fills_key v key then false else was key))
    go key true true on same = is_it key on same ∙ (rw (what, fills, on, same) refl)
    go key true false on same = rw (what, fills, on, same) refl
    go key false c on same = rw (fills, on) refl

    free : (key : List ℕ) (b c : Bool) → v.fills ≡ b → bytes_eq v.what.key key ≡ c → (fills_key v' key && not (fills_key v key) && was key) ≡ false
    free key true true on same = rw (what, fills, on, same) refl
    free key true false on same = rw (what, fills, on, same) refl
    free key false c on same = rw (fills, on) refl

-- the store stays as it was
pub all_stays : (k : Seen) → LeavesAll k k
all_stays k = record { contents = refl; parts = refl; records = refl; files = refl; later = omega arith; failing = refl }

pub but_none : (k k' : Seen) → LeavesAll k k' → LeavesBut None k k'
but_none k k' all = record {
  contents = all.contents;
  parts = all.parts;
  records = all.records;
  files = all.files;
  later = all.later;
  cause = tt;
  left = all.failing ∙ as_it_was k.failing;
}

-- the entry changes no content
pub leaves_but : (rows rows' : Rows) (k k' : Seen) (v v' : Work) (out : Output) → IsOfTransfer out.kind → job_of out.kind ≡ Some v.number → v'.number ≡ v.number → v'.slot ≡ v.slot → v'.what ≡ v.what
    → rows'.holds ≡ rows.holds → rows'.bars ≡ rows.bars → FillsSo v v' (is_filling rows) (is_filling rows') → contents_after k.contents k.parts out.kind ≡ k.contents → LeavesBut (failed_in out.kind) k k'
    → Leaves rows rows' k k' v v' out
leaves_but rows rows' k k' v v' out kind whose number slot what holds bars filled still but = record {
  kind = kind;
  whose = whose;
  number = number;
  slot = slot;
  what = what;
  holds = holds;
  bars = bars;
  filled = filled;
  contents = but.contents ∙ sym still;
  records = but.records;
  files = but.files;
  later = but.later;
  cause = but.cause;
  left = but.left;
}
