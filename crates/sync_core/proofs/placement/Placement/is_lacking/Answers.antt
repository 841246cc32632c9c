-- What the proof of `placement::Placement::is_lacking` needs beside the tactics.
use Rattle.std.proofs.Common.{◌≡◌, ℕ, ◌<◌, false, List, get_or, length, ap, sym, subst, ◌∙◌}
use Rattle.std.specs.Prelude.{IfOk}
use Rattle.std.proofs.lemmas.Result.{IfOk-weaker}
use Rattle.trust_groups.specs.View.{settings_of}
use Rattle.wanted_expr.specs.Wanted.{wants}
use Rattle.wanted_rules.specs.Plan.{repo_at}
use Rattle.wanted_rules.specs.Reads.{Wishing}
use Rattle.sync_core.specs.Placement.{Placed, lacks_at}
use Rattle.sync_core.proofs.PlanLemmas.{claimed_is, lacks_wanted, wishes_are}
use Rattle.sync_core.proofs.placement.Placement.is_lacking.Goals as goal

pub returns : goal.returns
returns c =
    let p = c.self.inside in
    let n = c.args.repo in
    let within : n < length p.repos.now = subst (λ (q : Placed). n < length q.repos) (sym c.self.view_is) c.requires in
    let w = get_or p.wishes.now n c.index-self-place-2.result in
    let absent = sym (claimed_is p.settings.now p.repos.now p.wishes.now p.key.now p.claimed.items c.self.invariant n within c.index-self-place.result c.deref.result.now c.deref.ensures.value)
    ∙ sym c.is_among.ensures ∙ c.if-is_among.false in
    let wish = wishes_are p.settings.now p.repos.now p.wishes.now p.key.now p.claimed.items c.self.invariant n within c.index-self-place-2.result in
    subst (λ (q : Placed). IfOk c.wants.result (λ b. b ≡ lacks_at q n)) c.self.view_is
    (IfOk-weaker c.wants.result _ _ (λ b is.
    is
    ∙ ap (λ (ps : List (List ℕ)). wants (settings_of w.indices) w.repo p.key.now ps false) c.deref-2.ensures.value
    ∙ ap (λ (v : Wishing). wants (settings_of v.indices) v.repo p.key.now p.paths.items false) wish
    ∙ lacks_wanted (settings_of p.settings.now) p.key.now p.paths.items (repo_at p.repos.now n) absent) c.wants.ensures)
