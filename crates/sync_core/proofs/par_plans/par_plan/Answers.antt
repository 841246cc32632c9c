-- What the proof of `par_plans::par_plan` needs beside the tactics.
use Rattle.std.proofs.Common.{◌≡◌, ℕ, List, Vec, Global, flat_map, map, max, ap, ◌∙◌, arith, rules}
use Rattle.std.specs.Borrow.{Bor}
use Rattle.std.proofs.lemmas.Result.{IfOk-weaker}
use Rattle.annex_base.specs.declared.memory.NoMemory.{NoMemory}
use Rattle.annex_key.specs.Tree.{paths_of}
use Rattle.trust_groups.specs.View.{settings_of}
use Rattle.wanted_rules.specs.declared.action.Action.{Action}
use Rattle.wanted_rules.specs.Plan.{plan, plan_of}
use Rattle.rayon.specs.Lists.{chunks_of}
use Rattle.rayon.proofs.ListFacts.{AllZip-weaken}
use Rattle.rayon.proofs.ToStd.{chunks_of-concat, slice-AllZip}
use Rattle.sync_core.specs.KeyPlans.{plan_of_keys}
use Rattle.sync_core.proofs.PartLemmas.{IsMade, flat_map-flat_map, flat_map-gathered}
use Rattle.sync_core.proofs.par_plans.par_plan.Goals as goal

pub returns : goal.returns
unfolding plan
returns g c =
    let planned = plan_of_keys c.args.settings.now c.args.tree.now c.args.here c.args.repos.now in
    let called = c.map.result.f in
    let made = plan_of_keys called.1.now called.2.now called.3.now called.4.now in
    let is_planned : made ≡ planned = ap (λ f. plan_of_keys f.1.now f.2.now f.3.now f.4.now) c.map.ensures.f in
    let items = λ (actions : Vec Action Global). actions.items in
    let parts = chunks_of 64 c.deref.result.now in
    let all = c.in_ok-parts.ensures in
    let chain = all.1 in
    let shown : map (λ (z : Bor (List (List ℕ))). z.now) chain.0 ≡ parts =
    chain.1 ∙ ap (λ m. chunks_of (max m.base.size 1) m.base.slice.now) c.map.ensures.base ∙ ap (λ it. chunks_of (max it.size 1) it.slice.now) c.with_min_len.ensures.base
    ∙ (λ i. chunks_of (max (c.par_chunks.ensures.size i) 1) (c.par_chunks.ensures.slice i)) in
    let each = AllZip-weaken _ (λ (z : Bor (List (List ℕ))) r. IsMade NoMemory made items z.now r) (λ z r told. search rules) chain.0 all.0 chain.2 in
    let gathered = flat_map-gathered NoMemory made items parts all.0 (slice-AllZip chain.0 parts shown (IsMade NoMemory made items) all.0 each) c.in_ok-parts.parts c.in_ok-parts-2.field-0 c.in_ok-parts-2.was all.2 in
    IfOk-weaker c.joined.result _ _ (λ actions is.
    is ∙ gathered
    ∙ ap (λ (plans : List (List ℕ) → List Action). flat_map plans parts) is_planned
    ∙ flat_map-flat_map (λ (key : List ℕ). plan_of (settings_of c.args.settings.now) c.args.repos.now c.args.here key (paths_of c.args.tree.now key)) parts
    ∙ ap planned (chunks_of-concat 64 c.deref.result.now (omega arith) ∙ c.deref.ensures.value ∙ c.in_ok-keys.ensures.value)) c.joined.ensures
