-- A table after what was had in a phase was let go of.
use Rattle.std.specs.Prelude.{Result, Ok, Err, IfOk}
use Rattle.object_store.specs.Stores.{Contents, Parts}
use Rattle.session_state.specs.declared.step.Step.{Step}
use Rattle.session_state.specs.Answers.{LeavesContents, contents_after}
use Rattle.std.proofs.Common.{◌≡◌, ℕ, false, List, Option, Some, None, map, refl, sym, ap, subst, ◌∙◌}
use Rattle.std.specs.Prelude.{bytes_eq, not, ◌&&◌}
use Rattle.std.specs.Map.{lookup}
use Rattle.annex_base.specs.declared.kinds.Call.TheVariants.{Unhold}
use Rattle.run_data.specs.declared.entry.By.{By}
use Rattle.run_data.specs.declared.entry.EntryKind.TheVariants.{Fault}
use Rattle.run_data.specs.declared.row.Hold.{Hold}
use Rattle.node_model.specs.Rows.{keep_of, same_owner}
use Rattle.node_model.specs.Sessions as sessions
use Rattle.content_lock.specs.Rows.{AreAfter, Rows, is_filling}
use Rattle.content_lock.specs.Stored.{Agrees, record_of}
use Rattle.content_lock.specs.Tokens.{Owns, ShareView}
use Rattle.session_state.specs.declared.doing.Doing.{Doing}
use Rattle.session_state.specs.declared.doing.Doing.TheVariants as doings
use Rattle.session_state.specs.declared.place.Place.{Place}
use Rattle.session_state.specs.Answers.{owner_at}
use Rattle.session_state.specs.Stepping.{IsLetGo, LeavesOthers}
use Rattle.session_state.specs.Talking.{FillsSo, doing_of, share_in}
use Rattle.session_state.proofs.Agreeing.{agrees_on}
use Rattle.session_state.proofs.Holding.{gave_back, none_filled, same_filled}

-- no hold was guarded
free_goes : (place : Place) (d : Doing) (was now : Rows) → Owns (owner_at place) None was.holds → now.holds ≡ was.holds → now.bars ≡ was.bars
    → FillsSo (doing_of d) sessions.Waits (is_filling was) (is_filling now) → IsLetGo place d was now
free_goes place d was now own same bars filled = record {
  after = record { holds = same ∙ sym own.kept; bars = λ k. ap (λ (bs : List (List ℕ × ℕ)). lookup (bytes_eq k) bs) bars };
  filled = filled;
  owns = subst (λ (hs : List Hold). Owns (owner_at place) None hs) (sym same) own;
  others = λ other share apart o. subst (λ (hs : List Hold). Owns other share hs) (sym same) o;
  agrees = λ known a. subst (λ (hs : List Hold). Agrees known hs) (sym same) a;
}

share_goes : (place : Place) (share : ShareView) (was now : Rows) → Owns (owner_at place) (Some share) was.holds
    → (Owns share.owner (Some share) was.holds → AreAfter (Fault Unhold share.owner) was now) → (Owns share.owner (Some share) was.holds → Owns share.owner None now.holds)
    → LeavesOthers share.owner was now → map record_of now.holds ≡ map record_of was.holds → IsLetGo place (doings.Guards share) was now
share_goes place share was now own after owns others stored =
    let mine : Owns share.owner (Some share) was.holds = subst (λ (b : By). Owns b (Some share) was.holds) (sym own.owner) own in
    let kept : AreAfter (Fault Unhold share.owner) was now = after mine in
    record {
      after = record { holds = kept.holds ∙ ap (λ (b : By). map (keep_of b) was.holds) own.owner; bars = kept.bars };
      filled = none_filled (sessions.Guards share.number share.key) sessions.Waits (is_filling was) (is_filling now) (λ k. refl) (λ k. refl) (same_filled was.fills now.fills kept.fills);
      owns = subst (λ (b : By). Owns b None now.holds) own.owner (owns mine);
      others = λ other s apart o. others other s (subst (λ (b : By). same_owner b other ≡ false) (sym own.owner) apart) o;
      agrees = λ known a. agrees_on was.holds now.holds known stored a;
    }

pub fill_goes : (place : Place) (d : Doing) (fill : List ℕ) (was now : Rows) → share_in d ≡ None → ((k : List ℕ) → sessions.is_filling k (doing_of d) ≡ bytes_eq fill k)
    → ((k : List ℕ) → is_filling now k ≡ (not (bytes_eq fill k) && is_filling was k)) → now.holds ≡ was.holds → now.bars ≡ was.bars
    → Owns (owner_at place) (share_in d) was.holds → IsLetGo place d was now
fill_goes place d fill was now none had off holds bars own =
    free_goes place d was now (subst (λ (s : Option ShareView). Owns (owner_at place) s was.holds) none own) holds bars (gave_back (doing_of d) fill (is_filling was) (is_filling now) had off)

pub guarded_goes : (place : Place) (d : Doing) (share : ShareView) (was now : Rows) → d ≡ doings.Guards share → Owns (owner_at place) (share_in d) was.holds
    → (Owns share.owner (Some share) was.holds → AreAfter (Fault Unhold share.owner) was now) → (Owns share.owner (Some share) was.holds → Owns share.owner None now.holds)
    → LeavesOthers share.owner was now → map record_of now.holds ≡ map record_of was.holds → IsLetGo place d was now
guarded_goes place d share was now is own after owns others stored =
    subst (λ (w : Doing). IsLetGo place w was now) (sym is)
    (share_goes place share was now (subst (λ (w : Doing). Owns (owner_at place) (share_in w) was.holds) is own) after owns others stored)

-- what stands in a phase is that of another which it was put from
pub same_goes : (place : Place) (d d' : Doing) (was now : Rows) → d' ≡ d → (Owns (owner_at place) (share_in d') was.holds → IsLetGo place d' was now) → Owns (owner_at place) (share_in d) was.holds → IsLetGo place d was now
same_goes place d d' was now is goes own =
    subst (λ (w : Doing). IsLetGo place w was now) is (goes (subst (λ (w : Doing). Owns (owner_at place) (share_in w) was.holds) (sym is) own))

-- an answer that leaves the contents
pub contents_left : {E : Type 0} (known : Option Contents) (parts : Option Parts) (r : Result Step E) → IfOk r (λ step. LeavesContents step.kind) → IfOk r (λ step. known ≡ contents_after known parts step.kind)
contents_left known parts (Ok step) leaves = sym (leaves known parts)
contents_left known parts (Err e) leaves = tt
