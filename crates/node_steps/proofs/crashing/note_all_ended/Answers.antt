-- One slot after the other.
use Rattle.std.proofs.Common.{◌++◌, ℕ, List, refl, sym, ap, ◌∙◌, append_assoc, arith}
use Rattle.std.specs.Prelude.{flat_map}
use Rattle.std.specs.List.{range_with_len}
use Rattle.std.proofs.lemmas.List.{append-nil}
use Rattle.node_past.specs.declared.setup.Ended.{Ended}
use Rattle.node_steps.specs.Crashing.{ended_in}
use Rattle.node_steps.proofs.CrashLemmas.{flat_more}
use Rattle.node_steps.proofs.crashing.note_all_ended.Goals as goal

pub loop-slot-init : goal.loop-slot-init
loop-slot-init c = record { noted = sym (append-nil c.args.outcomes.now.items); len = omega arith; capacity = refl }

pub loop-slot-preserved : goal.loop-slot-preserved
loop-slot-preserved c =
    let h = c.loop-slot.invariant in
    let e = c.note_ended.ensures in
    let all = c.args.outcomes.now.items in
    let each : ℕ → List Ended = ended_in c.args.parts.now.jobs.running c.args.place in
    let before : List Ended = flat_map each (range_with_len 0 c.loop-slot.slot) in record {
      noted = e.noted
          ∙ (ap (λ (xs : List Ended). c.loop-slot.outcomes.items ++ xs) c.ended_in.ensures
          ∙ (ap (λ (xs : List Ended). xs ++ each c.loop-slot.slot) h.noted
          ∙ (append_assoc all before (each c.loop-slot.slot) ∙ ap (λ (xs : List Ended). all ++ xs) (sym (flat_more each c.loop-slot.slot)))));
      len = omega (arith, e.len, h.len);
      capacity = e.capacity ∙ h.capacity;
    }
