-- What the proof of `holds::recovered` needs beside the tactics.
use Rattle.std.proofs.Common.{◌≡◌, List, [], ◌∷◌, map, refl, sym, ap, subst, ◌∙◌}
use Rattle.std.specs.BTreeMap.{insert_entry}
use Rattle.std.specs.Ordering.{nat_cmp}
use Rattle.std.proofs.lemmas.Iterator.Adapters.{YieldsList-from_vec}
use Rattle.std.proofs.lemmas.Iterator.Consumers.{YieldsList-end}
use Rattle.run_data.specs.declared.row.Hold.{Hold}
use Rattle.object_store.specs.declared.keeper.HoldRecord.{HoldRecord}
use Rattle.content_lock.specs.Indexed.{IsRecovered}
use Rattle.content_lock.proofs.RecoveredLemmas.{recovered_more}
use Rattle.content_lock.proofs.holds.recovered.Goals as goal

pub loop-stored-preserved : goal.loop-stored-preserved
loop-stored-preserved c =
    let es = c.loop-stored.by_number.entries in
    recovered_more c.args.now c.loop-stored.yielded c.in-Some.stored es c.insert.new.self.entries c.loop-stored.invariant
    (c.in_ok-insert.ensures.entries ∙ ap (λ (h : Hold). insert_entry nat_cmp es c.in-Some.stored.number h) c.kept_hold.ensures)

pub loop-stored-preserved-in_ok-insert : goal.loop-stored-preserved-in_ok-insert
loop-stored-preserved-in_ok-insert c =
    let es = c.loop-stored.by_number.entries in
    recovered_more c.args.now c.loop-stored.yielded c.in-Some.stored es c.insert.new.self.entries c.loop-stored.invariant
    (c.in_ok-insert.ensures.entries ∙ ap (λ (h : Hold). insert_entry nat_cmp es c.in-Some.stored.number h) c.kept_hold.ensures)

same_list : (rs : List HoldRecord) → map (λ (r : HoldRecord). r) rs ≡ rs
same_list [] = refl
same_list (r ∷ rs) = ap (λ (l : List HoldRecord). r ∷ l) (same_list rs)

pub returns : goal.returns
returns c =
    let b = c.into_iter-stored-iterator.ensures.into_iter_gives in
    let all = YieldsList-end (YieldsList-from_vec {s = c.into_iter-stored-iterator.result} c.args.records.items b.0 (b.1 ∙ c.args.records.ok.0))
    c.loop-stored.yielded c.loop-stored.stored-iterator c.loop-stored.yielded_by c.next.result c.next.new.self c.in-None.is c.next.ensures.steps in
    subst (λ (rs : List HoldRecord). IsRecovered c.args.now rs c.loop-stored.by_number.entries) (sym (same_list c.loop-stored.yielded) ∙ all.0) c.loop-stored.invariant
