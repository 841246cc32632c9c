-- The judgement, case by case.
use Rattle.std.proofs.Common.{◌≡◌, Some, None, [], refl, sym, ap, subst, ◌∙◌}
use Rattle.std.specs.Prelude.{find}
use Rattle.std.proofs.lemmas.Bool.{le-ltb, lt-ltb}
use Rattle.drop_proof.specs.declared.rule.Side.TheVariants.{Local}
use Rattle.drop_phases.specs.Working.{sight}
use Rattle.drop_judging.specs.Judging.{asks_of, evidence_of}
use Rattle.drop_phases.specs.Begun.{IsOther}
use Rattle.drop_judging.proofs.Chosen.{found_other}
use Rattle.drop_judging.proofs.Verdicts.{asks_by', end_was, lacks_by, late_by, removes_by}
use Rattle.drop_judging.proofs.judging.judge.Goals as goal

pub returns-in-Enough-None : goal.returns-in-Enough-None
returns-in-Enough-None g c =
    let r = g.H.Here.reading c.args.here.now in
    let w = c.args.worker.now in
    let is = c.requires.known ∙ ap (λ l. evidence_of Local r w l []) c.requires.all in
    let told = rw c.in-Enough-None.end-is at c.in-Enough-None.is in
    let enough = c.judge.ensures.enough None told in
    record {
      step = λ number rows p fails rest. (removes_by (sight r (g.H.Here.ends c.args.here.now) c.args.time number) rows p fails rest w c.need.result _ c.requires.local c.need.ensures is None enough (end_was c.need.result c.args.items.now None _ told c.judge.ensures.when_enough enough) refl).0;
      needs = λ number rows p fails rest. (removes_by (sight r (g.H.Here.ends c.args.here.now) c.args.time number) rows p fails rest w c.need.result _ c.requires.local c.need.ensures is None enough (end_was c.need.result c.args.items.now None _ told c.judge.ensures.when_enough enough) refl).1;
      other = λ peer same. absurd (let none : ⊥ = cc in none);
    }

pub returns-in-Some : goal.returns-in-Some
returns-in-Some g c =
    let r = g.H.Here.reading c.args.here.now in
    let w = c.args.worker.now in
    let is = c.requires.known ∙ ap (λ l. evidence_of Local r w l []) c.requires.all in
    record {
      step = λ number rows p fails rest. (asks_by' (sight r (g.H.Here.ends c.args.here.now) c.args.time number) rows p fails rest w c.need.result _ c.requires.local c.need.ensures is c.in-Some.peer (c.judge.ensures.lacking _ _ _ _ c.in-Lacking.is).0 (ap (λ l. find (asks_of r w) l) (sym c.requires.all) ∙ (sym c.next.ensures ∙ c.in-Some.is))).0;
      needs = λ number rows p fails rest. (asks_by' (sight r (g.H.Here.ends c.args.here.now) c.args.time number) rows p fails rest w c.need.result _ c.requires.local c.need.ensures is c.in-Some.peer (c.judge.ensures.lacking _ _ _ _ c.in-Lacking.is).0 (ap (λ l. find (asks_of r w) l) (sym c.requires.all) ∙ (sym c.next.ensures ∙ c.in-Some.is))).1;
      other = λ peer same. subst (IsOther r) (let it : c.in-Some.peer ≡ peer = cc in it) (found_other r w c.in-Some.peer (ap (λ l. find (asks_of r w) l) (sym c.requires.all) ∙ (sym c.next.ensures ∙ c.in-Some.is)));
    }

pub returns-in-None : goal.returns-in-None
returns-in-None g c =
    let r = g.H.Here.reading c.args.here.now in
    let w = c.args.worker.now in
    let is = c.requires.known ∙ ap (λ l. evidence_of Local r w l []) c.requires.all in
    record {
      step = λ number rows p fails rest. (lacks_by (sight r (g.H.Here.ends c.args.here.now) c.args.time number) rows p fails rest w c.need.result _ c.requires.local c.need.ensures is (c.judge.ensures.lacking _ _ _ _ c.in-Lacking.is).0 (ap (λ l. find (asks_of r w) l) (sym c.requires.all) ∙ (sym c.next.ensures ∙ c.in-None.is))).0;
      needs = λ number rows p fails rest. (lacks_by (sight r (g.H.Here.ends c.args.here.now) c.args.time number) rows p fails rest w c.need.result _ c.requires.local c.need.ensures is (c.judge.ensures.lacking _ _ _ _ c.in-Lacking.is).0 (ap (λ l. find (asks_of r w) l) (sym c.requires.all) ∙ (sym c.next.ensures ∙ c.in-None.is))).1;
      other = λ peer same. absurd (let none : ⊥ = cc in none);
    }

pub returns-then-clock-end : goal.returns-then-clock-end
returns-then-clock-end g c =
    let r = g.H.Here.reading c.args.here.now in
    let w = c.args.worker.now in
    let is = c.requires.known ∙ ap (λ l. evidence_of Local r w l []) c.requires.all in
    let told = rw c.in-Enough-Some.end-is at c.in-Enough-Some.is in
    let end = c.in-Enough-Some.end in
    let enough = c.judge.ensures.enough (Some end) told in
    record {
      step = λ number rows p fails rest. (removes_by (sight r (g.H.Here.ends c.args.here.now) c.args.time number) rows p fails rest w c.need.result _ c.requires.local c.need.ensures is (Some end) enough (end_was c.need.result c.args.items.now (Some end) _ told c.judge.ensures.when_enough enough) (lt-ltb (r.clock c.args.time) end (rw c.clock-clock.ensures.same at c.if-clock-end.true))).0;
      needs = λ number rows p fails rest. (removes_by (sight r (g.H.Here.ends c.args.here.now) c.args.time number) rows p fails rest w c.need.result _ c.requires.local c.need.ensures is (Some end) enough (end_was c.need.result c.args.items.now (Some end) _ told c.judge.ensures.when_enough enough) (lt-ltb (r.clock c.args.time) end (rw c.clock-clock.ensures.same at c.if-clock-end.true))).1;
      other = λ peer same. absurd (let none : ⊥ = cc in none);
    }

pub returns-else-clock-end : goal.returns-else-clock-end
returns-else-clock-end g c =
    let r = g.H.Here.reading c.args.here.now in
    let w = c.args.worker.now in
    let is = c.requires.known ∙ ap (λ l. evidence_of Local r w l []) c.requires.all in
    let told = rw c.in-Enough-Some.end-is at c.in-Enough-Some.is in
    let end = c.in-Enough-Some.end in
    let enough = c.judge.ensures.enough (Some end) told in
    record {
      step = λ number rows p fails rest. (late_by (sight r (g.H.Here.ends c.args.here.now) c.args.time number) rows p fails rest w c.need.result _ c.requires.local c.need.ensures is end c.clock-clock.result enough (end_was c.need.result c.args.items.now (Some end) _ told c.judge.ensures.when_enough enough) (sym c.clock-clock.ensures.same) (le-ltb c.clock-clock.result end c.if-clock-end.false)).0;
      needs = λ number rows p fails rest. (late_by (sight r (g.H.Here.ends c.args.here.now) c.args.time number) rows p fails rest w c.need.result _ c.requires.local c.need.ensures is end c.clock-clock.result enough (end_was c.need.result c.args.items.now (Some end) _ told c.judge.ensures.when_enough enough) (sym c.clock-clock.ensures.same) (le-ltb c.clock-clock.result end c.if-clock-end.false)).1;
      other = λ peer same. absurd (let none : ⊥ = cc in none);
    }
