-- A step of a transfer, in the words of a turn, is that of the job's slot, at each look that finds what it found.
use Rattle.std.proofs.Common.{◌≡◌, ℕ, Bool, true, Option, Some, None, sym, ap, subst, ◌∙◌, arith}
use Rattle.std.specs.Prelude.{◌==◌, if◌then◌else◌}
use Rattle.std.specs.Option.{ForSome, option_map}
use Rattle.std.proofs.lemmas.Bool.Decides.{nat_tests}
use Rattle.run_data.specs.declared.entry.FrameView.{FrameView}
use Rattle.object_store.specs.Stores.{Contents}
use Rattle.node_model.specs.Around.{around}
use Rattle.node_model.specs.Ends.{EndName, End}
use Rattle.node_model.specs.Jobs.{RowsAndEnds, Work, work_after, work_kind}
use Rattle.node_model.specs.JobStep.{Turn, end_with, turn_of}
use Rattle.node_model.specs.Look.{Effect, Look, as_told, entry_of, failed_in}
use Rattle.node_model.specs.Rows.{option_is}
use Rattle.node_model.specs.SetUp.{SetUp}
use Rattle.node_model.specs.Slots.{job_of}
use Rattle.node_model.specs.State.{State}
use Rattle.node_model.specs.Turns.{slot_step}
use Rattle.content_lock.specs.CallsMade.{MakesCalls}
use Rattle.content_lock.specs.Rows.{Rows}
use Rattle.session_state.specs.declared.incoming.Incoming.{Incoming}
use Rattle.transfer_turns.specs.declared.parcels.Output.{Output}
use Rattle.transfer_turns.specs.Parcels.{end_in}
use Rattle.transfer_turns.specs.Steps.{Makes, Seen, StepsIn}
use Rattle.transfer_turns.specs.Turns.{Comes, ComesFrom, Sight, awaited, made_of, step_at, turn_in}
use Rattle.transfer_worker.specs.States.{Sees, StepsSo}
use Rattle.transfer_worker.proofs.Slots.{slot_is, turn_same}

-- a frame comes on a connection that is open
comes_live : (x : Sight) (slot peer : ℕ) (g : FrameView) (i : Option Incoming) → ComesFrom x slot peer (Some g) i → (x.ends (end_in slot peer)).opened ≡ true
comes_live x slot peer g None comes = absurd comes
comes_live x slot peer g (Some m) comes = comes.1

live_at : (x : Sight) (slot peer : ℕ) (g : FrameView) (o : Option ℕ) (f : Option FrameView) (i : Option Incoming) → o ≡ Some peer → f ≡ Some g → Comes x slot o f i → (x.ends (end_in slot peer)).opened ≡ true
live_at x slot peer g o f i at is comes =
    comes_live x slot peer g i (subst (λ (h : Option FrameView). Comes x slot (Some peer) h i) is (subst (λ (q : Option ℕ). Comes x slot q f i) at comes))

own_number : (n : ℕ) → (n == n) ≡ true
own_number n = grind (arith, nat_tests)

-- an entry of the job moves it
moved : (rows : RowsAndEnds) (r : ℕ) (k : Look) (m : Effect) (v : Work) → job_of m.kind ≡ Some v.number → work_kind rows r v (entry_of r k m) m.kind ≡ work_after rows r (entry_of r k m) v
moved rows r k m v whose =
    sym (ap (λ (o : Option ℕ). if option_is o v.number then work_kind rows r v (entry_of r k m) m.kind else v) whose
    ∙ ap (λ (b : Bool). if b then work_kind rows r v (entry_of r k m) m.kind else v) (own_number v.number))

module _ (x : Sight) (rows : Rows) (before after : Seen) (v v' : Work) (i : Option Incoming) (sees : ℕ → Bool → Type 0) (out : Output) (steps : StepsIn x rows before after v v' i sees out)
    (whose : job_of out.kind ≡ Some v.number) (c : Contents) (told : before.contents ≡ Some c) (s : SetUp) (st : State) (k : Look) (f : Option FrameView)
    (z : Sees x rows c v i (failed_in out.kind) sees s st k f) where
  abbrev turn : Turn
  turn = turn_of s st k v

  abbrev step : Turn → Effect
  step t = step_at (awaited v) f t

  same : turn_in x rows c k.part k.right (failed_in out.kind) turn v ≡ turn
  same = turn_same x rows c v i (failed_in out.kind) sees s st k f z

  makes : Makes x before after v v' f turn (step turn) out
  makes = subst (λ (t : Turn). Makes x before after v v' f t (step t) out) same (steps f z.comes c told k.part k.right turn z.part)

  live : (peer : ℕ) (g : FrameView) → awaited v ≡ Some peer → f ≡ Some g → (end_with turn peer).opened ≡ true
  live peer g at is = ap (λ (ends : EndName → End). (ends (end_in v.slot peer)).opened) (sym z.sight.ends) ∙ live_at x v.slot peer g (awaited v) f i at is z.comes

  slot : slot_step s st k (Some v) ≡ Some (step turn)
  slot = slot_is turn f z.finds live

  is_made : made_of x v.slot f out ≡ as_told (step turn)
  is_made = makes.effect

  pub meets : StepsSo x v v' out s st k f
  meets =
      record {
        made = ap (option_map as_told) slot ∙ ap (λ (m : Effect). Some m) (sym is_made);
        next = λ going.
            makes.next going
            ∙ (ap (λ (m : Effect). work_kind (around s st) s.number v (entry_of s.number k m) m.kind) (sym is_made) ∙ moved (around s st) s.number k (made_of x v.slot f out) v whose);
      }

  pub calls_met : ForSome (slot_step s st k (Some v)) (λ (m : Effect). MakesCalls m.calls (failed_in out.kind) before.failing after.failing)
  calls_met m is =
      let same_step : step turn ≡ m = (let both : Some (step turn) ≡ Some m = sym slot ∙ is in cc) in
      subst (λ (n : Effect). MakesCalls n.calls (failed_in out.kind) before.failing after.failing) same_step makes.calls
