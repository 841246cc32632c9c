-- What the proof of `ledger::Ledger::merge` needs beside the tactics.
use Rattle.std.proofs.Common.{List, ℕ, None, Err, arith, sym, ap, subst, ◌∙◌}
use Rattle.annex_base.specs.Lists.{Each}
use Rattle.union_merge.specs.Branch.{Files}
use Rattle.union_merge.specs.FileView.{files_of}
use Rattle.union_merge.specs.LineSet.{IsLine, IsLineSet}
use Rattle.node_ledger.specs.Walks.{merge_file, over}
use Rattle.node_ledger.proofs.WalkLemmas.{Went, merge_over, went_on, went_stops}
use Rattle.annex_base.specs.declared.kinds.Call.TheVariants.{PutFile}
use Rattle.node_past.specs.declared.refused.NodeRefused.TheVariants.{Full, StoreFault}
use Rattle.node_past.specs.Calls.{StopsIn, to_write}
use Rattle.node_ledger.specs.Calls.{lacks_of}
use Rattle.content_lock.specs.CallsMade.{MakesCalls}
use Rattle.node_past.proofs.CallLemmas.{same_refusal}
use Rattle.node_ledger.proofs.FullLemmas.{meets}
use Rattle.node_ledger.proofs.WalkCallLemmas.{Wrote, lacks_blind, not_merged, wrote_alone, wrote_more, wrote_stops}
use Rattle.node_ledger.proofs.ledger.Ledger.merge.Goals as goal

pub merge_file-requires : goal.merge_file-requires
merge_file-requires g c =
    let each = subst (λ (fs : Files). Each (λ f. IsLine f.0 × IsLineSet f.1) fs) (ap files_of c.in-Some.ensures.steps) c.loop-path.invariant.each in
    subst (λ (p : List ℕ). IsLine p) (sym c.deref.ensures.value) each.0.0

pub returns-in-Err-clause-err : goal.returns-in-Err-clause-err
returns-in-Err-clause-err g c =
    went_stops merge_file c.args.self.now c.loop-path.self c.merge_file.new.self c.args.other.now _ c.in-Err.refused c.loop-path.invariant.went c.in-Err.ensures.err

pub loop-path-preserved : goal.loop-path-preserved
loop-path-preserved g c =
    let i = c.loop-path.invariant in
    let start = c.args.self.now in
    let now = c.loop-path.self in
    let next = c.merge_file.new.self in
    let other = c.args.other.now in
    let rest = files_of c.next.new.self in
    let file : List ℕ × List (List ℕ) = (c.in-Some.path.now.items, c.in-Some.lines.now) in
    let steps = ap files_of c.in-Some.ensures.steps in
    let went = subst (λ (fs : Files). Went merge_file start now other fs) steps i.went in
    let each = subst (λ (fs : Files). Each (λ f. IsLine f.0 × IsLineSet f.1) fs) steps i.each in
    let does = c.in_default.ensures.ok ∙ ap (λ (p : List ℕ). over next.keeper (merge_file now (p, c.in-Some.lines.now))) c.deref.ensures.value in
    record {
      went = went_on merge_file merge_over start now next other file rest went
          does;
      wrote = wrote_more lacks_of start now next other file rest (g.K.Keeper.failing start.keeper) (g.K.Keeper.failing now.keeper) (g.K.Keeper.failing next.keeper) lacks_blind
          (subst (λ (fs : Files). Wrote lacks_of start now other fs (g.K.Keeper.failing start.keeper) (g.K.Keeper.failing now.keeper)) steps i.wrote)
          (subst (λ (p : List ℕ). MakesCalls (to_write (lacks_of now (p, c.in-Some.lines.now))) None (g.K.Keeper.failing now.keeper) (g.K.Keeper.failing next.keeper)) c.deref.ensures.value c.in_default.ensures.calls)
          (λ none. does ∙ ap (λ m. over next.keeper m) (not_merged now file none));
      each = each.1;
      contents = c.merge_file.ensures.contents ∙ i.contents;
      parts = c.merge_file.ensures.parts ∙ i.parts;
      records = c.merge_file.ensures.records ∙ i.records;
      later = omega (arith, i.later, c.merge_file.ensures.later);
    }

pub returns-in-Err-clause-calls : goal.returns-in-Err-clause-calls
returns-in-Err-clause-calls g c =
    let start = c.args.self.now in
    let now = c.loop-path.self in
    let next = c.merge_file.new.self in
    let other = c.args.other.now in
    let rest = files_of c.next.new.self in
    let file : List ℕ × List (List ℕ) = (c.in-Some.path.now.items, c.in-Some.lines.now) in
    let wrote = subst (λ (fs : Files). Wrote lacks_of start now other fs (g.K.Keeper.failing c.args.self.now.keeper) (g.K.Keeper.failing c.loop-path.self.keeper)) (ap files_of c.in-Some.ensures.steps) c.loop-path.invariant.wrote in
    let stops = subst (λ (p : List ℕ). StopsIn (to_write (lacks_of now (p, c.in-Some.lines.now))) PutFile c.in-Err.refused (g.K.Keeper.failing c.loop-path.self.keeper) (g.K.Keeper.failing next.keeper)) c.deref.ensures.value c.in-Err.ensures.calls in
    wrote_stops lacks_of start now other file rest c.in-Err.refused (g.K.Keeper.failing c.args.self.now.keeper) (g.K.Keeper.failing c.loop-path.self.keeper) (g.K.Keeper.failing next.keeper) lacks_blind wrote stops

pub returns-in-Err-clause-alone : goal.returns-in-Err-clause-alone
returns-in-Err-clause-alone g c =
    let start = c.args.self.now in
    let now = c.loop-path.self in
    let next = c.merge_file.new.self in
    let other = c.args.other.now in
    let rest = files_of c.next.new.self in
    let file : List ℕ × List (List ℕ) = (c.in-Some.path.now.items, c.in-Some.lines.now) in
    let wrote = subst (λ (fs : Files). Wrote lacks_of start now other fs (g.K.Keeper.failing c.args.self.now.keeper) (g.K.Keeper.failing c.loop-path.self.keeper)) (ap files_of c.in-Some.ensures.steps) c.loop-path.invariant.wrote in
    let stops = subst (λ (p : List ℕ). StopsIn (to_write (lacks_of now (p, c.in-Some.lines.now))) PutFile c.in-Err.refused (g.K.Keeper.failing c.loop-path.self.keeper) (g.K.Keeper.failing next.keeper)) c.deref.ensures.value c.in-Err.ensures.calls in
    λ is. wrote_alone lacks_of start now next other file rest c.in-Err.refused (g.K.Keeper.failing c.args.self.now.keeper) (g.K.Keeper.failing c.loop-path.self.keeper) (g.K.Keeper.failing next.keeper) lacks_blind wrote stops c.in-Err.ensures.err (same_refusal c.in-Err.refused StoreFault is)

pub returns-in-Err-clause-full : goal.returns-in-Err-clause-full
returns-in-Err-clause-full g c =
    let start = c.args.self.now in
    let now = c.loop-path.self in
    let next = c.merge_file.new.self in
    let other = c.args.other.now in
    let rest = files_of c.next.new.self in
    let file : List ℕ × List (List ℕ) = (c.in-Some.path.now.items, c.in-Some.lines.now) in
    let steps = ap files_of c.in-Some.ensures.steps in
    let went = subst (λ (fs : Files). Went merge_file start now other fs) steps c.loop-path.invariant.went in
    let wrote = subst (λ (fs : Files). Wrote lacks_of start now other fs (g.K.Keeper.failing start.keeper) (g.K.Keeper.failing now.keeper)) steps c.loop-path.invariant.wrote in
    let stops = subst (λ (p : List ℕ). StopsIn (to_write (lacks_of now (p, c.in-Some.lines.now))) PutFile c.in-Err.refused (g.K.Keeper.failing now.keeper) (g.K.Keeper.failing next.keeper)) c.deref.ensures.value c.in-Err.ensures.calls in
    λ full. meets merge_file lacks_of start now next other file rest c.in-Err.refused (g.K.Keeper.failing start.keeper) (g.K.Keeper.failing now.keeper) (g.K.Keeper.failing next.keeper) lacks_blind went wrote stops c.in-Err.ensures.err
    (λ same. ap (λ (p : List ℕ). lacks_of now (p, c.in-Some.lines.now)) (sym c.deref.ensures.value) ∙ c.in-Err.ensures.full (ap Err same)) (same_refusal c.in-Err.refused Full full)
