-- What the proof of `hold_list::records` needs beside the tactics.
use Rattle.std.proofs.Common.{◌≡◌, [], ◌∷◌, ◌++◌, ap, sym, ◌∙◌, subst, append_assoc, append-nil}
use Rattle.std.proofs.lemmas.List.Elements.{All-push}
use Rattle.std.specs.Prelude.{◌<◌, ◌^◌}
use Rattle.object_store.specs.HoldList.{record_of, records_of}
use Rattle.object_store.specs.Stores.{AreDistinct, AreEarly}
use Rattle.object_store.specs.declared.keeper.HoldRecord.{HoldRecord}
use Rattle.object_store.proofs.RecordLemmas.{distinct, falling}
use Rattle.object_store.proofs.hold_list.records.Goals as goal

pub loop-number-preserved : goal.loop-number-preserved
loop-number-preserved c =
    let out = c.loop-number.out.items in
    let rest = records_of c.next.new.self in
    let pushed : HoldRecord = record { number = c.in-Some.number.now.0; key = c.in_ok-key.key; end = c.in-Some.hold.now.end } in
    let same : pushed ≡ record_of (c.in-Some.number.now, c.in-Some.hold.now) =
    ap (λ k. record { number = c.in-Some.number.now.0; key = k; end = c.in-Some.hold.now.end }) c.in_ok-key.ensures in
    record {
      value = ap (λ l. l ++ rest) c.in_ok-push.ensures.items ∙ append_assoc out (pushed ∷ []) rest ∙ ap (λ r. out ++ r ∷ rest) same
          ∙ ap (λ l. out ++ records_of l) (sym c.in-Some.ensures.steps) ∙ c.loop-number.invariant.value;
      early = subst AreEarly (sym c.in_ok-push.ensures.items) (All-push (λ r. r.end < 2 ^ 62) out pushed c.loop-number.invariant.early c.in-Some.hold.now.early);
    }

pub returns-clause-distinct : goal.returns-clause-distinct
returns-clause-distinct c =
    let all = records_of c.args.holds.now.entries in
    let out = c.loop-number.out.items in
    let whole : out ≡ all = sym (append-nil out) ∙ ap (λ l. out ++ records_of l) (sym c.in-None.ensures.steps.0) ∙ c.loop-number.invariant.value in
    subst AreDistinct (sym whole) (distinct all (falling c.args.holds.now.entries c.iter-number-items.ensures.ordered))

pub returns-clause-falling : goal.returns-clause-falling
returns-clause-falling c = falling c.args.holds.now.entries c.iter-number-items.ensures.ordered
