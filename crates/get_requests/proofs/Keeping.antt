-- What a step of a get that takes no frame leaves.
use Rattle.std.proofs.Common.{◌≡◌, ℕ, Bool, true, false, not, List, Option, Some, None, refl, sym, ap, subst, ◌∙◌}
use Rattle.std.specs.Prelude.{◌&&◌, ◌||◌, IfSome, bytes_eq, if◌then◌else◌, is_some}
use Rattle.std.specs.Option.{ForSome}
use Rattle.std.proofs.lemmas.Option.{same_Some}
use Rattle.annex_base.specs.declared.kinds.Call.{Call}
use Rattle.annex_base.proofs.Conditions.{bytes_eq-refl, bytes_eq-true}
use Rattle.run_data.specs.declared.entry.EntryKind.{EntryKind}
use Rattle.run_data.specs.declared.job.Outcome.{Outcome}
use Rattle.object_store.specs.Stores.{AreSmallParts, Parts}
use Rattle.node_model.specs.Jobs.{is_move, partner}
use Rattle.node_model.specs.Look.{failed_in}
use Rattle.content_lock.specs.Rows.{Rows, is_filling}
use Rattle.transfer_turns.specs.declared.parcels.Output.{Output}
use Rattle.transfer_turns.specs.Parcels.{AreNoPieces}
use Rattle.transfer_turns.specs.Partners.{StaysApart}
use Rattle.transfer_turns.specs.Steps.{FillsSo, LeavesAll, LeavesBut, Seen, fills_key, is_end}
use Rattle.transfer_turns.proofs.Leavings.{but_none, leaves_but}
use Rattle.transfer_turns.proofs.Partners.{apart_same}
use Rattle.get_phases.specs.declared.getting.Getting.{Getting}
use Rattle.get_phases.specs.declared.getting.Phase.{Phase}
use Rattle.get_phases.specs.declared.getting.Phase.TheVariants as phases
use Rattle.get_phases.specs.Getting.{Keeps}
use Rattle.get_phases.specs.Gets.{HasFill, IsFed, fill_in, is_done, parts_after, phase_of, work_of}
use Rattle.get_phases.proofs.Keeping.{IsPlain, fills_same, has_still, plain_contents, plain_judged, plain_transfer, plain_whose}
use Rattle.transfer_turns.specs.Turns.{Sight}
use Rattle.get_requests.specs.Requesting.{FillsToo, IsEnding}

-- ---- what is filled

-- it fills its key from now on, or nothing, and filled nothing before
pub fills_too : (w w' : Getting) (rows rows' : Rows) → fill_in w.phase ≡ None → w'.job ≡ w.job → is_filling rows w.job.key ≡ false → FillsToo w' rows rows' → FillsSo (work_of w) (work_of w') (is_filling rows) (is_filling rows')
fills_too w w' rows rows' bare job free too =
    record {
      after = λ key. too.filled key ∙ chosen (fills_key (work_of w') key) (is_filling rows key)
          ∙ ap (λ (o : Option (List ℕ)). if fills_key (work_of w') key then true else (if is_some o && bytes_eq w.job.key key then false else is_filling rows key)) (sym bare);
      free = λ key. free_at key (is_some (fill_in w'.phase)) (bytes_eq w'.job.key key) (is_some (fill_in w.phase) && bytes_eq w.job.key key) refl;
    }
  where
    chosen : (a b : Bool) → (a || b) ≡ (if a then true else b)
    chosen true b = refl
    chosen false b = refl

    free_at : (key : List ℕ) (a b c : Bool) → bytes_eq w'.job.key key ≡ b → (a && b && not c && is_filling rows key) ≡ false
    free_at key false b c e = refl
    free_at key true false c e = refl
    free_at key true true true e = refl
    free_at key true true false e = ap (is_filling rows) (sym (bytes_eq-true w'.job.key key e) ∙ (λ i. (job i).key)) ∙ free

-- ---- the step

untold_parts : (ph : Phase) (kind : EntryKind) (known : Option Parts) → known ≡ parts_after ph None kind known
untold_parts (phases.Bytes peer start taking) kind known = refl
untold_parts (phases.Word peer start taken) kind known = refl
untold_parts ph kind known = refl

pub keeps : (x : Sight) (rows rows' : Rows) (k k' : Seen) (w w' : Getting) (out : Output) → IsPlain w.number out.kind → w'.number ≡ w.number → w'.slot ≡ w.slot → w'.job ≡ w.job → rows'.holds ≡ rows.holds → rows'.bars ≡ rows.bars
    → FillsSo (work_of w) (work_of w') (is_filling rows) (is_filling rows') → LeavesBut (failed_in out.kind) k k' → HasFill rows' w' → ForSome k.parts (λ p. IsFed p w.phase → IsFed p w'.phase) → out.ended ≡ (is_end out.kind || is_done w'.phase)
    → AreNoPieces out.sends.items → StaysApart x (work_of w) (work_of w') → (is_move w.job.kind ≡ false → is_done w.phase ≡ false → is_done w'.phase ≡ false) → Keeps x None rows rows' k k' w w' out
keeps x rows rows' k k' w w' out plain number slot job holds bars filled l has fed ended pieces apart undone =
    record {
      leaves = leaves_but rows rows' k k' (work_of w) (work_of w') out (plain_transfer w.number out.kind plain) (plain_whose w.number out.kind plain) number slot job holds bars filled (plain_contents w.number out.kind k.contents k.parts plain) l;
      parts = l.parts ∙ untold_parts w.phase out.kind k.parts;
      has = has;
      fed = λ p is was p' is'. fed p' (sym l.parts ∙ is') (subst (λ (q : Parts). IsFed q w.phase) (same_Some p p' (sym is ∙ (sym l.parts ∙ is'))) was);
      small = subst AreSmallParts (sym l.parts);
      judged = plain_judged w.number out.kind w.phase plain;
      pieces = pieces;
      ended = ended;
      apart = apart;
      undone = undone;
    }

-- the job ends, and the table stays as it was
pub ended_kept : (x : Sight) (rows : Rows) (k k' : Seen) (w w' : Getting) (outcome : Outcome) (out : Output) → IsEnding x w.number w.slot outcome out → w'.number ≡ w.number → w'.slot ≡ w.slot → w'.job ≡ w.job → w'.phase ≡ w.phase → LeavesAll k k' → HasFill rows w
    → Keeps x None rows rows k k' w w' out
ended_kept x rows k k' w w' outcome out is number slot job phase l has =
    keeps x rows rows k k' w w' out (subst (λ (kind : EntryKind). IsPlain w.number kind) (sym is.kind) refl) number slot job refl refl (fills_same w w' rows has (ap fill_in phase) job)
    (subst (λ (o : Option Call). LeavesBut o k k') (sym (ap failed_in is.kind)) (but_none k k' l))
    (has_still rows w w' has (ap fill_in phase) job)
    (λ p told fed. subst (λ (ph : Phase). IsFed p ph) (sym phase) fed) (is.ended ∙ sym (ap (λ (kind : EntryKind). is_end kind || is_done w'.phase) is.kind)) is.sends.pieces
    (apart_same x (work_of w) (work_of w') (λ i. partner (job i).peer (phase_of (phase i)))) (λ stays was. ap is_done phase ∙ was)

-- what it fills is its own key
pub has_too : (w' : Getting) (rows rows' : Rows) → IfSome (fill_in w'.phase) (λ (key : List ℕ). key ≡ w'.job.key) → FillsToo w' rows rows' → HasFill rows' w'
has_too w' rows rows' own too = go (fill_in w'.phase) refl own
  where
    go : (o : Option (List ℕ)) → fill_in w'.phase ≡ o → IfSome o (λ (key : List ℕ). key ≡ w'.job.key) → IfSome o (λ (key : List ℕ). (key ≡ w'.job.key) × (is_filling rows' key ≡ true))
    go None e own = tt
    go (Some key) e own = (
      own,
      too.filled key ∙ ap (λ (b : Bool). b || is_filling rows key) ((λ i. is_some (e i) && bytes_eq (sym own i) key) ∙ bytes_eq-refl key),
    )
