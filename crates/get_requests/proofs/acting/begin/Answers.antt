-- By what it finds.
use Rattle.std.proofs.Common.{false, [], sym, ap, subst, ◌∙◌}
use Rattle.std.specs.Prelude.{is_some}
use Rattle.annex_base.specs.declared.kinds.Call.TheVariants as calls
use Rattle.session_state.proofs.Calling.{unfailed}
use Rattle.run_data.specs.declared.entry.By.TheVariants.{Job as by_job}
use Rattle.run_data.specs.declared.entry.EntryKind.TheVariants.{Fault}
use Rattle.content_lock.specs.Rows.{is_filling}
use Rattle.transfer_turns.specs.declared.parcels.Output.{Output}
use Rattle.transfer_turns.specs.Steps.{seen}
use Rattle.transfer_turns.specs.Turns.{ArePartings, output_of}
use Rattle.get_requests.proofs.Firsts.{begin_busy, begin_failed, begin_found}
use Rattle.get_requests.proofs.Results.{claims_does}
use Rattle.get_requests.proofs.acting.begin.Goals as goal

pub returns-in-Ok-true : goal.returns-in-Ok-true
returns-in-Ok-true g c =
    let h = c.in-Ok-true.ensures in
    let w = c.args.getting.now in
    record {
      does = begin_found (g.H.Here.sight c.args.here.now) c.args.table.now (seen (g.K.Keeper.contents c.args.keeper.now) (g.K.Keeper.parts c.args.keeper.now) (g.K.Keeper.records c.args.keeper.now) (g.K.Keeper.files c.args.keeper.now) (g.K.Keeper.faults c.args.keeper.now) (g.K.Keeper.failing c.args.keeper.now)) (seen (g.K.Keeper.contents c.has.new.self) (g.K.Keeper.parts c.has.new.self) (g.K.Keeper.records c.has.new.self) (g.K.Keeper.files c.has.new.self) (g.K.Keeper.faults c.has.new.self) (g.K.Keeper.failing c.has.new.self)) w c.find_here.new.getting c.in_ok-parting.parting c.find_here.result c.requires.fresh c.requires.bare h.failing
          (record { contents = h.contents; parts = h.parts; records = h.records; files = h.files; later = h.later; failing = unfailed calls.Has _ _ h.failing })
          c.in_ok-parting.ensures c.find_here.ensures (λ k is. sym c.in-Ok-true.field-0-test ∙ (h.ok k is ∙ ap (λ key. is_some (k key)) c.key.ensures));
    }

pub returns-then-is_filling : goal.returns-then-is_filling
returns-then-is_filling g c =
    let h = c.in-Ok-false.ensures in
    let w = c.args.getting.now in
    record {
      does = begin_busy (g.H.Here.sight c.args.here.now) c.args.table.now (seen (g.K.Keeper.contents c.args.keeper.now) (g.K.Keeper.parts c.args.keeper.now) (g.K.Keeper.records c.args.keeper.now) (g.K.Keeper.files c.args.keeper.now) (g.K.Keeper.faults c.args.keeper.now) (g.K.Keeper.failing c.args.keeper.now)) (seen (g.K.Keeper.contents c.has.new.self) (g.K.Keeper.parts c.has.new.self) (g.K.Keeper.records c.has.new.self) (g.K.Keeper.files c.has.new.self) (g.K.Keeper.faults c.has.new.self) (g.K.Keeper.failing c.has.new.self)) w c.ending.result c.requires.fresh c.requires.bare h.failing
          (record { contents = h.contents; parts = h.parts; records = h.records; files = h.files; later = h.later; failing = unfailed calls.Has _ _ h.failing })
          (record { kind = ap (λ o. o.kind) c.ending.ensures; sends = subst (λ (o : Output). ArePartings (g.H.Here.sight c.args.here.now) w.slot o.sends.items) (sym c.ending.ensures) c.in_ok-parting.ensures; ended = ap (λ o. o.ended) c.ending.ensures })
          (λ k is. sym c.in-Ok-false.field-0-test ∙ (h.ok k is ∙ ap (λ key. is_some (k key)) c.key.ensures)) (ap (is_filling c.args.table.now) (sym c.key-in-Ok-false.ensures) ∙ (sym c.is_filling.ensures ∙ c.if-is_filling.true));
    }

pub claim-requires-clause-free : goal.claim-requires-clause-free
claim-requires-clause-free g c = ap (is_filling c.args.table.now) (sym c.key-in-Ok-false.ensures) ∙ (sym c.is_filling.ensures ∙ c.if-is_filling.false)

pub returns-else-is_filling : goal.returns-else-is_filling
returns-else-is_filling g c =
    let h = c.in-Ok-false.ensures in
    let w = c.args.getting.now in
    record {
      does = claims_does (g.H.Here.sight c.args.here.now) c.args.table.now c.claim.new.table (seen (g.K.Keeper.contents c.args.keeper.now) (g.K.Keeper.parts c.args.keeper.now) (g.K.Keeper.records c.args.keeper.now) (g.K.Keeper.files c.args.keeper.now) (g.K.Keeper.faults c.args.keeper.now) (g.K.Keeper.failing c.args.keeper.now)) (seen (g.K.Keeper.contents c.has.new.self) (g.K.Keeper.parts c.has.new.self) (g.K.Keeper.records c.has.new.self) (g.K.Keeper.files c.has.new.self) (g.K.Keeper.faults c.has.new.self) (g.K.Keeper.failing c.has.new.self)) (seen (g.K.Keeper.contents c.claim.new.keeper) (g.K.Keeper.parts c.claim.new.keeper) (g.K.Keeper.records c.claim.new.keeper) (g.K.Keeper.files c.claim.new.keeper) (g.K.Keeper.faults c.claim.new.keeper) (g.K.Keeper.failing c.claim.new.keeper)) w c.claim.new.getting c.claim.result c.requires.fresh
          (ap (is_filling c.args.table.now) (sym c.key-in-Ok-false.ensures) ∙ (sym c.is_filling.ensures ∙ c.if-is_filling.false)) h.failing
          (record { contents = h.contents; parts = h.parts; records = h.records; files = h.files; later = h.later; failing = unfailed calls.Has _ _ h.failing })
          (λ k is. sym c.in-Ok-false.field-0-test ∙ (h.ok k is ∙ ap (λ key. is_some (k key)) c.key.ensures)) c.claim.ensures.claims;
    }

pub returns-in-Err : goal.returns-in-Err
returns-in-Err g c =
    let h = c.in-Err.ensures in
    record {
      does = begin_failed (g.H.Here.sight c.args.here.now) c.args.table.now (seen (g.K.Keeper.contents c.args.keeper.now) (g.K.Keeper.parts c.args.keeper.now) (g.K.Keeper.records c.args.keeper.now) (g.K.Keeper.files c.args.keeper.now) (g.K.Keeper.faults c.args.keeper.now) (g.K.Keeper.failing c.args.keeper.now)) (seen (g.K.Keeper.contents c.has.new.self) (g.K.Keeper.parts c.has.new.self) (g.K.Keeper.records c.has.new.self) (g.K.Keeper.files c.has.new.self) (g.K.Keeper.faults c.has.new.self) (g.K.Keeper.failing c.has.new.self)) c.args.getting.now c.go_to.new.self c.failing.result c.requires.fresh h.failing
          (record { contents = h.contents; parts = h.parts; records = h.records; files = h.files; later = h.later; cause = h.cause; left = h.failing.count })
          (c.failing.ensures ∙ (λ i. output_of (Fault calls.Has (by_job (c.go_to.ensures i).number)) [] false)) c.go_to.ensures;
    }
