-- From what a store tells of each call to the calls of a step.
use Rattle.std.proofs.Common.{◌≡◌, ℕ, ◌-◌, Bool, true, false, not, List, [], ◌∷◌, ◌++◌, map, Option, Some, None, Result, Ok, Err, refl, sym, ap, ◌∙◌, subst, arith}
use Rattle.std.specs.Prelude.{◌&&◌, find, nat_lt, if◌then◌else◌, IfOk}
use Rattle.std.specs.List.{list_any}
use Rattle.std.specs.Option.{option_map}
use Rattle.std.proofs.lemmas.List.{append-nil}
use Rattle.annex_base.specs.Calls.{same_call}
use Rattle.annex_base.specs.declared.kinds.Call.{Call}
use Rattle.annex_base.specs.declared.memory.NoMemory.{NoMemory}
use Rattle.annex_base.proofs.Calls.{same_call-is}
use Rattle.annex_base.proofs.Functions.{funext}
use Rattle.run_data.specs.declared.entry.By.{By}
use Rattle.run_data.specs.declared.entry.By.TheVariants.{Job as by_job}
use Rattle.run_data.specs.declared.entry.EntryKind.{EntryKind}
use Rattle.run_data.specs.declared.entry.EntryKind.TheVariants.{End}
use Rattle.run_data.specs.declared.entry.FrameView.{FrameView}
use Rattle.run_data.specs.declared.job.Outcome.{Outcome}
use Rattle.run_data.specs.declared.row.Hold.{Hold}
use Rattle.object_store.specs.Calls.{FailsAsTold, one_fewer}
use Rattle.object_store.specs.Stores.{Contents}
use Rattle.node_model.specs.Calls.{to_release}
use Rattle.node_model.specs.JobStep.{Turn, ends, owns_share}
use Rattle.node_model.specs.Look.{Effect, failed_in}
use Rattle.node_model.specs.Rows.{is_lost_ordered, keep_of, same_owner}
use Rattle.content_lock.specs.Rows.{Rows}
use Rattle.content_lock.specs.Tokens.{Owns, ShareView}
use Rattle.content_lock.specs.Turns.{FailInTurn, CallOutcome}
use Rattle.drop_phases.specs.declared.phase.Token.{Token}
use Rattle.drop_phases.specs.declared.turn.Output.{Output}
use Rattle.drop_phases.specs.Begun.{HasEnded, IsLast}
use Rattle.content_lock.specs.CallsMade.{MakesCalls, fewer}
use Rattle.drop_phases.specs.Calling.{AreLeft, Failing, MakesOver, has_open}
use Rattle.drop_phases.specs.Doing.{HasToken, Talks, share_in}
use Rattle.drop_phases.specs.Feeding.{IsOfLocal}
use Rattle.drop_phases.specs.Worker.{Worker}
use Rattle.drop_phases.specs.Working.{Rest, Sight, present_in, turn_in}
use Rattle.drop_phases.proofs.Doings.{local_shares}

-- ---- a call that didn't fail

-- where none was to fail, the numbers stay
stays : (call : Call) (failing : Call → ℕ) → false ≡ nat_lt 0 (failing call) → one_fewer call failing ≡ failing
stays call failing none = funext (one_fewer call failing) failing (λ c. go c (same_call call c) refl)
  where
    zero : (n : ℕ) → false ≡ nat_lt 0 n → n - 1 ≡ n
    zero n e = grind arith

    go : (c : Call) (b : Bool) → same_call call c ≡ b → (if b then failing c - 1 else failing c) ≡ failing c
    go c true same = zero (failing c) (none ∙ ap (λ (x : Call). nat_lt 0 (failing x)) (same_call-is call c same))
    go c false same = refl

pub unfailed : (call : Call) (before after : Failing) → FailsAsTold call before after false → after ≡ before
unfailed call None after it = it.count
unfailed call (Some failing) after it = it.count ∙ ap (λ (f : Call → ℕ). Some f) (stays call failing (it.told failing refl))

-- ---- calls one after the other

found : (p : Call → Bool) (call : Call) (behind : List Call) → p call ≡ true → find p (call ∷ behind) ≡ Some call
found p call behind e = rw e refl

passed : (p : Call → Bool) (call : Call) (behind : List Call) → p call ≡ false → find p (call ∷ behind) ≡ find p behind
passed p call behind e = rw e refl

same_all : (before : Failing) → before ≡ option_map (fewer None) before
same_all None = refl
same_all (Some failing) = refl

pub makes_none : (cs : List Call) (failed : Option Call) (before : Failing) → cs ≡ [] → failed ≡ None → MakesCalls cs failed before before
makes_none cs failed before none well =
    record {
      first = λ failing told. well ∙ ap (find (λ call. nat_lt 0 (failing call))) (sym none);
      left = same_all before ∙ ap (λ (o : Option Call). option_map (fewer o) before) (sym well);
    }

-- the first call fails
pub makes_failed : (call : Call) (behind : List Call) (before after : Failing) → FailsAsTold call before after true → MakesCalls (call ∷ behind) (Some call) before after
makes_failed call behind before after it =
    record { first = λ failing told. sym (found (λ c. nat_lt 0 (failing c)) call behind (sym (it.told failing told))); left = it.count }

-- the first call doesn't fail, and then these are made
pub makes_then : (call : Call) (behind : List Call) (failed : Option Call) (before mid after : Failing) → FailsAsTold call before mid false → MakesCalls behind failed mid after → MakesCalls (call ∷ behind) failed before after
makes_then call behind failed before mid after it rest =
    let same = unfailed call before mid it in
    record {
      first = λ failing told. rest.first failing (same ∙ told) ∙ sym (passed (λ c. nat_lt 0 (failing c)) call behind (sym (it.told failing told)));
      left = rest.left ∙ ap (option_map (fewer failed)) same;
    }

pub makes_last : (call : Call) (before after : Failing) → FailsAsTold call before after false → MakesCalls (call ∷ []) None before after
makes_last call before after it = makes_then call [] None before after after it (makes_none [] None after refl refl)

pub makes_as : (cs ds : List Call) (failed gone : Option Call) (before after : Failing) → cs ≡ ds → failed ≡ gone → MakesCalls ds gone before after → MakesCalls cs failed before after
makes_as cs ds failed gone before after same is m = subst (λ (o : Option Call). MakesCalls cs o before after) (sym is) (subst (λ (l : List Call). MakesCalls l gone before after) (sym same) m)

-- as many as before are left, where none failed
pub all_left : (failed : Option Call) (before : Failing) → failed ≡ None → AreLeft failed before before
all_left failed before well = (makes_none [] failed before refl well).left

-- what is left behind these calls
pub left_as : (ds : List Call) (gone failed : Option Call) (before after : Failing) → failed ≡ gone → MakesCalls ds gone before after → AreLeft failed before after
left_as ds gone failed before after same m = (makes_as ds ds failed gone before after refl same m).left

-- the first of calls in turn
pub first_told : (call : Call) (failed : Bool) (turns : List CallOutcome) (before after : Failing) → FailInTurn ((call, failed) ∷ turns) before after → FailsAsTold call before (option_map (one_fewer call) before) failed
first_told call failed turns before after it = record { told = it.0; count = refl }

-- ---- holds of its own

-- none is open where the job has none of the table
none_open : (by : By) (hs : List Hold) → map (keep_of by) hs ≡ hs → list_any (λ h. same_owner h.owner by && not h.kept) hs ≡ false
none_open by [] e = refl
none_open by (h ∷ hs) e =
    let head : keep_of by h ≡ h = cc in
    let tail : map (keep_of by) hs ≡ hs = cc in
    rw (closed (same_owner h.owner by) h.kept refl refl head) (none_open by hs tail)
  where
    closed : (same kept : Bool) → same_owner h.owner by ≡ same → h.kept ≡ kept → keep_of by h ≡ h → (same_owner h.owner by && not h.kept) ≡ false
    closed true true s k head = rw (k, s) refl
    closed true false s k head =
        let one : (if true then record h { kept = true } else h) ≡ h = rw s at head in
        let two : true ≡ h.kept = ap (λ (x : Hold). x.kept) one in
        absurd (let both : true ≡ false = two ∙ k in cc)
    closed false true s k head = rw s refl
    closed false false s k head = rw s refl

pub shareless : (w : Worker) (rows : Rows) (token : Token) → share_in token ≡ None → HasToken w.number w.job.key token rows → has_open rows w ≡ false
shareless w rows token none own = none_open (by_job w.number) rows.holds (subst (λ (o : Option ShareView). Owns (by_job w.number) o rows.holds) none own.holds).kept

pub local_closed : (w : Worker) (rows : Rows) → IsOfLocal w.token → HasToken w.number w.job.key w.token rows → has_open rows w ≡ false
local_closed w rows local own = shareless w rows w.token (local_shares w.token local) own

pub no_release : (b c : Bool) → b ≡ false → to_release (b && c) ≡ []
no_release b c e = rw e refl

-- ---- an end

pub ends_calls : (t : Turn) (taken : Option FrameView) (outcome : Outcome) → (ends t taken outcome).calls ≡ to_release (owns_share t && not (is_lost_ordered outcome))
ends_calls t taken outcome = append-nil (to_release (owns_share t && not (is_lost_ordered outcome)))

-- the job has no share
pub ends_none : (t : Turn) (taken : Option FrameView) (outcome : Outcome) → owns_share t ≡ false → (ends t taken outcome).calls ≡ []
ends_none t taken outcome closed = ap (λ (l : List Call). l ++ []) (no_release (owns_share t) (not (is_lost_ordered outcome)) closed)

-- ---- what no call failed of

pub last_well : (number : ℕ) (kind : EntryKind) → IsLast number kind → failed_in kind ≡ None
last_well number (End job outcome) last = refl
last_well number kind last = absurd last

pub ended_well : (w w' : Worker) (r : Result Output NoMemory) → IfOk r (HasEnded w w') → IfOk r (λ out. failed_in out.kind ≡ None)
ended_well w w' (Ok out) h = last_well w.number out.kind h.last
ended_well w w' (Err e) h = tt

pub talked_well : (w w' : Worker) (r : Result Output NoMemory) → IfOk r (Talks w w') → IfOk r (λ out. failed_in out.kind ≡ None)
talked_well w w' (Ok out) t = ap failed_in t.kind
talked_well w w' (Err e) t = tt

-- ---- over a turn

-- no call is made
pub over_none : (x : Sight) (known : Option Contents) (rows : Rows) (w : Worker) (asked : Turn → Effect) (before : Failing) (r : Result Output NoMemory) → IfOk r (λ out. failed_in out.kind ≡ None)
    → ((p : List ℕ → Bool) (fails : Option Call) (rest : Rest) → (asked (turn_in x rows p fails rest w)).calls ≡ []) → MakesOver x known rows w asked before before r
over_none x known rows w asked before (Ok out) well none =
    (all_left (failed_in out.kind) before well, λ c told rest. makes_none (asked (turn_in x rows (present_in c) (failed_in out.kind) rest w)).calls (failed_in out.kind) before (none (present_in c) (failed_in out.kind) rest) well)
over_none x known rows w asked before (Err e) well none = refl

-- the same calls
pub over_as : (x : Sight) (known : Option Contents) (rows : Rows) (w : Worker) (a b : Turn → Effect) (before after : Failing) (r : Result Output NoMemory)
    → ((p : List ℕ → Bool) (fails : Option Call) (rest : Rest) → (a (turn_in x rows p fails rest w)).calls ≡ (b (turn_in x rows p fails rest w)).calls) → MakesOver x known rows w b before after r → MakesOver x known rows w a before after r
over_as x known rows w a b before after (Ok out) same m = (
  m.0,
  λ c told rest.
      makes_as (a (turn_in x rows (present_in c) (failed_in out.kind) rest w)).calls (b (turn_in x rows (present_in c) (failed_in out.kind) rest w)).calls (failed_in out.kind) (failed_in out.kind) before after (same (present_in c) (failed_in out.kind) rest) refl (m.1 c told rest),
)
over_as x known rows w a b before after (Err e) same m = m

-- these are made, and this one failed
pub over_is : (x : Sight) (known : Option Contents) (rows : Rows) (w : Worker) (asked : Turn → Effect) (cs : List Call) (failed : Option Call) (before after : Failing) (out : Output)
    → ((c : Contents) → known ≡ Some c → (rest : Rest) → (asked (turn_in x rows (present_in c) (failed_in out.kind) rest w)).calls ≡ cs) → failed_in out.kind ≡ failed → MakesCalls cs failed before after
    → MakesOver x known rows w asked before after (Ok out)
over_is x known rows w asked cs failed before after out same is m =
    (left_as cs failed (failed_in out.kind) before after is m, λ c told rest. makes_as (asked (turn_in x rows (present_in c) (failed_in out.kind) rest w)).calls cs (failed_in out.kind) failed before after (same c told rest) is m)
