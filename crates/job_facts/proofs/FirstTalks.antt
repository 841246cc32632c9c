-- A drop whose first step talks doesn't ask its own repository, or finds its content absent or barred.
use Rattle.std.proofs.Common.{◌≡◌, ℕ, ◌+◌, Bool, true, false, List, [], ◌∷◌, Option, Some, None, ◌⊎◌, inl, inr, refl, sym, ap, ◌∙◌, subst}
use Rattle.std.specs.Prelude.{◌&&◌, not, if◌then◌else◌}
use Rattle.std.specs.List.{list_all}
use Rattle.annex_base.specs.declared.kinds.Call.{Call}
use Rattle.annex_base.specs.declared.kinds.Call.TheVariants as calls
use Rattle.drop_proof.specs.declared.rule.Side.{Side}
use Rattle.drop_proof.specs.declared.rule.Side.TheVariants.{Local, Remote}
use Rattle.run_data.specs.declared.entry.EntryKind.{EntryKind}
use Rattle.run_data.specs.declared.entry.EntryKind.TheVariants.{Fault, Talk, End as ends_job}
use Rattle.run_data.specs.declared.entry.FrameView.{FrameView}
use Rattle.run_data.specs.declared.job.DropRefusal.{DropRefusal}
use Rattle.run_data.specs.declared.job.DropRefusal.TheVariants as refusals
use Rattle.run_data.specs.declared.job.Outcome.{Outcome}
use Rattle.run_data.specs.declared.job.Outcome.TheVariants.{Refused}
use Rattle.node_model.specs.Calls.{to_hold, to_release}
use Rattle.node_model.specs.Clocks.{hold_time}
use Rattle.node_model.specs.DropStep.{bars, first_drop, first_remote, held_until, own_share, required_there, row_refusal, shares, tries_own}
use Rattle.node_model.specs.Evidence.{Asked, Claimed, Ignored, Standing}
use Rattle.node_model.specs.Jobs.{Drops, Fresh, partner, side_of}
use Rattle.node_model.specs.JobStep.{Turn, attempts, bar_there, by_me, clock_of, ends, farewells, is_there, key_of, me, owns_share, quietly, talk}
use Rattle.node_model.specs.Look.{Effect, failing_call}
use Rattle.node_model.specs.Rows.{is_lost_ordered}
use Rattle.node_model.specs.Turns.{by_partner, first_step, goes, has_room, needs}
use Rattle.step_facts.proofs.Cases.{unless_found}

-- its own repository isn't asked, or its content is absent or barred
abbrev pub Untold : Turn → Type 0
Untold t = (t.read.standing (me t) ≡ Asked → ⊥) ⊎ ((is_there t ≡ false) ⊎ ((j : ℕ) × (bar_there t ≡ Some j)))

abbrev pub FirstSays : Turn → EntryKind → Type 0
FirstSays t (Talk j) = Untold t
FirstSays t kind = Unit {0}

attempts_first : (t : Turn) (cs : List Call) (taken : Option FrameView) (m : Effect) → FirstSays t m.kind → FirstSays t (attempts t cs taken m).kind
attempts_first t cs taken m g = unless_found (λ (x : Effect). FirstSays t x.kind) (failing_call t.look.fails cs) (λ call. quietly (Fault call (by_me t)) taken) m (λ call. tt) g

shares_first : (t : Turn) → FirstSays t (shares t).kind
shares_first t =
    attempts_first t (to_hold (is_there t) (bar_there t)) None (quietly (own_share (t.number) (clock_of t + hold_time) t.w.number (key_of t) (talk t) (by_me t) (is_there t) (bar_there t)) None)
    (go (is_there t) (bar_there t) refl refl)
  where
    go : (here : Bool) (bar : Option ℕ) → is_there t ≡ here → bar_there t ≡ bar → FirstSays t (own_share (t.number) (clock_of t + hold_time) t.w.number (key_of t) (talk t) (by_me t) here bar)
    go false bar there free = inr (inl there)
    go true (Some j) there free = inr (inr (j, free))
    go true None there free = tt

own_first : (t : Turn) (standing : Standing) → t.read.standing (me t) ≡ standing → FirstSays t (tries_own t standing).kind
own_first t Asked is = shares_first t
own_first t Claimed is = inl (λ e. let no' : Claimed ≡ Asked = sym is ∙ e in cc)
own_first t (Ignored cause) is = inl (λ e. let no' : Ignored cause ≡ Asked = sym is ∙ e in cc)

ends_first : (t : Turn) (outcome : Outcome) → FirstSays t (ends t None outcome).kind
ends_first t outcome =
    attempts_first t (to_release (owns_share t && not (is_lost_ordered outcome))) None (record { kind = ends_job t.w.number outcome; taken = None; sent = farewells t (is_lost_ordered outcome); lines = []; calls = [] }) tt

bars_first : (t : Turn) (refusal : Option DropRefusal) → FirstSays t (bars t refusal).kind
bars_first t (Some refusal) = ends_first t (Refused refusal)
bars_first t None = tt

drop_first : (t : Turn) (side : Side) → FirstSays t (first_drop t side).kind
drop_first t Local = let refusal = row_refusal (is_there t) (required_there t) (bar_there t) (held_until t) in
    attempts_first t (calls.Has ∷ []) None (bars t refusal) (bars_first t refusal)
drop_first t Remote = remote_first (required_there t)
  where
    remote_first : (text : Option (List ℕ)) → FirstSays t (first_remote t text).kind
    remote_first (Some text) = ends_first t (Refused (refusals.Required text))
    remote_first None = own_first t (t.read.standing (me t)) refl

-- **a first step that talks**
pub step_first : (t : Turn) (m : Effect) → t.w.part ≡ Drops → t.w.phase ≡ Fresh → by_partner t (partner t.w.what.peer t.w.phase) ≡ Some m → FirstSays t m.kind
step_first t m part phase e = go (list_all (has_room t) (needs t t.w.phase)) (subst (λ p. by_partner t (partner t.w.what.peer p) ≡ Some m) phase e)
  where
    goes_is : goes t t.w.phase ≡ first_drop t (side_of t.w)
    goes_is = ap (goes t) phase ∙ ap (first_step t) part

    go : (b : Bool) → (if b then Some (goes t t.w.phase) else None) ≡ Some m → FirstSays t m.kind
    go true g = let same : goes t t.w.phase ≡ m = cc in subst (λ (x : Effect). FirstSays t x.kind) (sym goes_is ∙ same) (drop_first t (side_of t.w))
    go false g = absurd (cc)
