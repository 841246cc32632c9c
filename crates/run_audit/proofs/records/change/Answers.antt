-- What the proof of `records::change` needs beside the tactics.
use Rattle.std.proofs.Common.{◌≡◌, None, Some, ap, sym, subst, is_some, ◌∙◌, Option}
use Rattle.std.specs.Option.{option_copied_mut}
use Rattle.run_audit.specs.Changes.{IsChangedAt, record_in}
use Rattle.run_audit.specs.declared.record.KeyRecord.{KeyRecord}
use Rattle.run_audit.proofs.Placing.{set_here, set_others}
use Rattle.run_audit.proofs.records.change.Goals as goal

pub change-requires-clause-few : goal.change-requires-clause-few
change-requires-clause-few c = (c.requires.few c.args.key.now c.in-Some.record.now (sym c.get_mut.ensures.value ∙ ap option_copied_mut c.in-Some.is)).0

pub change-requires-clause-many : goal.change-requires-clause-many
change-requires-clause-many c = (c.requires.few c.args.key.now c.in-Some.record.now (sym c.get_mut.ensures.value ∙ ap option_copied_mut c.in-Some.is)).1

pub unreachable-requires : goal.unreachable-requires
unreachable-requires c =
    let place = c.requires.place in
    let both : None ≡ Some place.0 = sym (ap option_copied_mut c.in-None.is) ∙ c.get_mut.ensures.value ∙ place.1 in
    absurd (cc)

pub returns-clause-here : goal.returns-clause-here
returns-clause-here c =
    let old = c.args.kept.now.entries in
    let key = c.args.key.now in
    let w = c.change.new.self in
    let new = (c.get_mut.follows.lender w).entries in
    let found = sym c.get_mut.ensures.value ∙ ap option_copied_mut c.in-Some.is in
    let sets = ((c.get_mut.follows.holds w).3 (ap is_some found)).0 in
    subst (λ (o : Option KeyRecord). IsChangedAt c.args.repo c.args.copy c.args.proof.now o (record_in new key)) (sym found)
    (subst (λ (o : Option KeyRecord). IsChangedAt c.args.repo c.args.copy c.args.proof.now (Some c.in-Some.record.now) o) (sym (set_here old new key (Some w) sets)) c.change.ensures)

pub returns-clause-others : goal.returns-clause-others
returns-clause-others c =
    let old = c.args.kept.now.entries in
    let w = c.change.new.self in
    let new = (c.get_mut.follows.lender w).entries in
    let found = sym c.get_mut.ensures.value ∙ ap option_copied_mut c.in-Some.is in
    let sets = ((c.get_mut.follows.holds w).3 (ap is_some found)).0 in
    set_others old new c.args.key.now (Some w) sets
