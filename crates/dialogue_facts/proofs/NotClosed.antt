-- A job that is to begin, or to go on to its next peer, doesn't end as one whose connection was closed.
use Rattle.node_model.specs.Clocks.{hold_time}
use Rattle.std.proofs.Common.{◌≡◌, ℕ, ◌+◌, Bool, true, false, List, [], ◌∷◌, Option, Some, None, refl, subst}
use Rattle.std.specs.Prelude.{if◌then◌else◌, ◌==◌, nat_lt}
use Rattle.std.specs.List.{list_all}
use Rattle.annex_base.specs.declared.kinds.Call.{Call}
use Rattle.annex_base.proofs.Conditions.{if_either}
use Rattle.annex_base.specs.declared.kinds.Call.TheVariants as calls
use Rattle.drop_proof.specs.declared.rule.Side.{Side}
use Rattle.drop_proof.specs.declared.rule.Side.TheVariants.{Local, Remote}
use Rattle.run_data.specs.declared.entry.EntryKind.{EntryKind}
use Rattle.run_data.specs.declared.entry.EntryKind.TheVariants.{End as ends_job}
use Rattle.run_data.specs.declared.entry.FrameView.{FrameView}
use Rattle.run_data.specs.declared.entry.FrameText.TheVariants.{Opening}
use Rattle.run_data.specs.declared.job.DropRefusal.{DropRefusal}
use Rattle.run_data.specs.declared.job.DropRefusal.TheVariants as refusals
use Rattle.run_data.specs.declared.job.Outcome.{Outcome}
use Rattle.run_data.specs.declared.job.Outcome.TheVariants.{Got, Refused, TransferRefused}
use Rattle.run_data.specs.declared.job.TransferRefusal.TheVariants as failures
use Rattle.node_model.specs.Rows.{is_lost_ordered}
use Rattle.node_model.specs.Evidence.{Standing, Asked}
use Rattle.p2p_wire.specs.declared.message.Message.TheVariants.{Get, GetTimestamp}
use Rattle.node_model.specs.Jobs.{Drops, Fresh, Gets, Next, Part, Phase, Puts, is_move, partner, side_of}
use Rattle.node_model.specs.Calls.{to_hold, to_resume}
use Rattle.node_model.specs.Look.{Effect}
use Rattle.node_model.specs.Knows.{enough_by, next_by}
use Rattle.node_model.specs.JobStep.{Turn, attempts, bar_there, by_me, clock_of, end_with, ends, farewells, is_there, key_of, me, quietly, says_to, sends_to, talk}
use Rattle.node_model.specs.DropStep.{asks_copy, asks_lock, asks_target, bars, expiry, first_drop, first_end, first_remote, held_until, in_time, lacking_outcome, own_share, required_there, row_refusal, shares, target, tries_own}
use Rattle.node_model.specs.Requests.{asks, goes_to}
use Rattle.node_model.specs.TransferStep.{first_get, first_put, next_get, next_source}
use Rattle.node_model.specs.Turns.{by_partner, first_step, goes, has_room, judges, needs, next_step}
use Rattle.step_facts.proofs.ClientSteps.{attempts_even}

abbrev NotOf : Outcome → Type 0
NotOf (TransferRefused failures.Closed) = ⊥
NotOf o = Unit {0}

abbrev pub NotKind : EntryKind → Type 0
NotKind (ends_job j o) = NotOf o
NotKind kind = Unit {0}

abbrev Not : Effect → Type 0
Not m = NotKind m.kind

attempts_not : (t : Turn) (cs : List Call) (taken : Option FrameView) (m : Effect) → Not m → Not (attempts t cs taken m)
attempts_not t cs taken m good = attempts_even Not t cs taken m (λ call e. tt) good

ends_not : (t : Turn) (o : Outcome) → NotOf o → Not (ends t None o)
ends_not t o good = attempts_not t _ None (record { kind = ends_job t.w.number o; taken = None; sent = farewells t (is_lost_ordered o); lines = []; calls = [] }) good

target_not : (t : Turn) (version : ℕ) (taken : Option FrameView) (end : Option ℕ) → Not (asks_target t version taken end)
target_not t version taken None = tt
target_not t version taken (Some end) = if_either Not (nat_lt version 3) (quietly (talk t) taken) (says_to t (talk t) taken (target t) GetTimestamp) (λ e. tt) (λ e. tt)

copy_not : (t : Turn) (version : ℕ) (taken : Option FrameView) (peer : ℕ) (side : Side) → Not (asks_copy t version taken peer side)
copy_not t version taken peer Local = tt
copy_not t version taken peer Remote = if_either Not (target t == peer) (asks_target t version taken (first_end t)) (asks_lock t taken peer) (λ e. target_not t version taken (first_end t)) (λ e. tt)

asks_not : (t : Turn) (version : ℕ) (taken : Option FrameView) (peer : ℕ) (part : Part) → Not (asks t version taken peer part)
asks_not t version taken peer Gets = attempts_not t (to_resume t.look.part) taken (says_to t (talk t) taken peer (Get t.look.part [] (key_of t))) tt
asks_not t version taken peer Puts = tt
asks_not t version taken peer Drops = copy_not t version taken peer (side_of t.w)

goes_not : (t : Turn) (peer : ℕ) → Not (goes_to t peer)
goes_not t peer = if_either Not (end_with t peer).opened (asks t t.w.version None peer t.w.part) (sends_to t (talk t) None peer (Opening ∷ [])) (λ e. asks_not t t.w.version None peer t.w.part) (λ e. tt)

expired_not : (t : Turn) (clk : ℕ) (end : Option ℕ) → Not (ends t None (expiry clk end))
expired_not t clk None = ends_not t (expiry clk None) tt
expired_not t clk (Some end) = ends_not t (expiry clk (Some end)) tt

judges_not : (t : Turn) (enough : Bool) (next : Option ℕ) (side : Side) → Not (judges t enough next side)
judges_not t false (Some peer) side = goes_not t peer
judges_not t false None side = ends_not t (lacking_outcome t) tt
judges_not t true next Local = if_either Not (in_time (clock_of t) (first_end t)) (attempts t (calls.Remove ∷ []) None (quietly _ None)) (ends t None (expiry (clock_of t) (first_end t)))
    (λ e. attempts_not t (calls.Remove ∷ []) None (quietly _ None) tt) (λ e. expired_not t (clock_of t) (first_end t))
judges_not t true next Remote = goes_not t (target t)

source_not : (t : Turn) (source : Option ℕ) → Not (next_get t source)
source_not t None = ends_not t (TransferRefused (failures.NoSource t.w.causes)) tt
source_not t (Some peer) = goes_not t peer

next_not : (t : Turn) (part : Part) → Not (next_step t part)
next_not t Drops = judges_not t (enough_by t.read t.w) (next_by t.read t.w) (side_of t.w)
next_not t Gets = source_not t (next_source t)
next_not t Puts = source_not t (next_source t)

get_not : (t : Turn) (here filled : Bool) (source : Option ℕ) → Not (first_get t here filled source)
get_not t true filled source = if_either Not (is_move t.w.what.kind) (quietly (talk t) None) (ends t None (Got None None)) (λ e. tt) (λ e. ends_not t (Got None None) tt)
get_not t false true source = ends_not t (TransferRefused failures.Busy) tt
get_not t false false None = tt
get_not t false false (Some peer) = goes_not t peer

put_not : (t : Turn) (here : Bool) (peer : Option ℕ) → Not (first_put t here peer)
put_not t true (Some peer) = goes_not t peer
put_not t true None = ends_not t (TransferRefused failures.NotHere) tt
put_not t false peer = ends_not t (TransferRefused failures.NotHere) tt

bars_not : (t : Turn) (refusal : Option DropRefusal) → Not (bars t refusal)
bars_not t (Some refusal) = ends_not t (Refused refusal) tt
bars_not t None = tt

shares_not : (t : Turn) → Not (shares t)
shares_not t = attempts_not t (to_hold (is_there t) (bar_there t)) None (quietly (own_share (t.number) (clock_of t + hold_time) t.w.number (key_of t) (talk t) (by_me t) (is_there t) (bar_there t)) None) (go (is_there t) (bar_there t))
  where
    go : (here : Bool) (bar : Option ℕ) → NotKind (own_share (t.number) (clock_of t + hold_time) t.w.number (key_of t) (talk t) (by_me t) here bar)
    go false bar = tt
    go true (Some i) = tt
    go true None = tt

own_not : (t : Turn) (standing : Standing) → Not (tries_own t standing)
own_not t Asked = shares_not t
own_not t standing = tt

remote_not : (t : Turn) (required : Option (List ℕ)) → Not (first_remote t required)
remote_not t (Some text) = ends_not t (Refused (refusals.Required text)) tt
remote_not t None = own_not t (t.read.standing (me t))

drop_not : (t : Turn) (side : Side) → Not (first_drop t side)
drop_not t Local = attempts_not t (calls.Has ∷ []) None (bars t (row_refusal (is_there t) (required_there t) (bar_there t) (held_until t))) (bars_not t (row_refusal (is_there t) (required_there t) (bar_there t) (held_until t)))
drop_not t Remote = remote_not t (required_there t)

first_not : (t : Turn) (part : Part) → Not (first_step t part)
first_not t Gets = attempts_not t (calls.Has ∷ []) None (first_get t (is_there t) (t.filled (key_of t)) (next_source t)) (get_not t (is_there t) (t.filled (key_of t)) (next_source t))
first_not t Puts = attempts_not t (calls.Has ∷ []) None (first_put t (is_there t) t.w.what.peer) (put_not t (is_there t) t.w.what.peer)
first_not t Drops = drop_not t (side_of t.w)

abbrev pub AtRest : Phase → Type 0
AtRest Fresh = Unit {0}
AtRest Next = Unit {0}
AtRest phase = ⊥

goes_rest : (t : Turn) (phase : Phase) → AtRest phase → Not (goes t phase)
goes_rest t Fresh rest = first_not t t.w.part
goes_rest t Next rest = next_not t t.w.part
goes_rest t phase rest = absurd rest

rest_alone : (target : Option ℕ) (phase : Phase) → AtRest phase → partner target phase ≡ None
rest_alone target Fresh rest = refl
rest_alone target Next rest = refl
rest_alone target phase rest = absurd rest

pub rest_not : (t : Turn) (m : Effect) → AtRest t.w.phase → by_partner t (partner t.w.what.peer t.w.phase) ≡ Some m → NotKind m.kind
rest_not t m rest e = go (list_all (has_room t) (needs t t.w.phase)) (subst (λ (p : Option ℕ). by_partner t p ≡ Some m) (rest_alone t.w.what.peer t.w.phase rest) e)
  where
    go : (b : Bool) → (if b then Some (goes t t.w.phase) else None) ≡ Some m → NotKind m.kind
    go true g = let made : goes t t.w.phase ≡ m = cc in subst Not made (goes_rest t t.w.phase rest)
    go false g = absurd (cc)
