-- What the proof of `placement::Placement::is_spare` needs beside the tactics.
use Rattle.std.proofs.Common.{ℕ, ◌<◌, true, not, Option, List, get_or, length, ap, sym, subst, ◌∙◌}
use Rattle.std.specs.Prelude.{is_some}
use Rattle.trust_groups.specs.View.{settings_of}
use Rattle.wanted_expr.specs.Wanted.{required, wants}
use Rattle.wanted_rules.specs.Plan.{repo_at}
use Rattle.wanted_rules.specs.Reads.{Wishing}
use Rattle.sync_core.specs.Placement.{Placed, spares_at}
use Rattle.sync_core.proofs.PlanLemmas.{claimed_is, none_required, spares_none, spares_unrequired, wishes_are}
use Rattle.sync_core.proofs.placement.Placement.is_spare.Goals as goal

pub returns-then-branch : goal.returns-then-branch
returns-then-branch c =
    let p = c.self.inside in
    let n = c.args.repo in
    let within : n < length p.repos.now = subst (λ (q : Placed). n < length q.repos) (sym c.self.view_is) c.requires in
    let w = get_or p.wishes.now n c.index-self-place-2.result in
    let there = sym (claimed_is p.settings.now p.repos.now p.wishes.now p.key.now p.claimed.items c.self.invariant n within c.index-self-place.result c.deref.result.now c.deref.ensures.value)
    ∙ sym c.is_among.ensures ∙ c.if-not-is_among.false in
    let wish = wishes_are p.settings.now p.repos.now p.wishes.now p.key.now p.claimed.items c.self.invariant n within c.index-self-place-2.result in
    let wanted = sym (c.in_ok-wants.ensures
    ∙ ap (λ (ps : List (List ℕ)). wants (settings_of w.indices) w.repo p.key.now ps true) c.deref-2.ensures.value
    ∙ ap (λ (v : Wishing). wants (settings_of v.indices) v.repo p.key.now p.paths.items true) wish) ∙ c.if-branch.true in
    spares_none (settings_of p.settings.now) p.key.now p.paths.items (repo_at p.repos.now n) there wanted ∙ ap (λ (q : Placed). spares_at q n) c.self.view_is

pub returns : goal.returns
returns c =
    let p = c.self.inside in
    let n = c.args.repo in
    let within : n < length p.repos.now = subst (λ (q : Placed). n < length q.repos) (sym c.self.view_is) c.requires in
    let w = get_or p.wishes.now n c.index-self-place-2.result in
    let there = sym (claimed_is p.settings.now p.repos.now p.wishes.now p.key.now p.claimed.items c.self.invariant n within c.index-self-place.result c.deref.result.now c.deref.ensures.value)
    ∙ sym c.is_among.ensures ∙ c.if-not-is_among.false in
    let wish = wishes_are p.settings.now p.repos.now p.wishes.now p.key.now p.claimed.items c.self.invariant n within c.index-self-place-2.result in
    let unwanted = sym (c.in_ok-wants.ensures
    ∙ ap (λ (ps : List (List ℕ)). wants (settings_of w.indices) w.repo p.key.now ps true) c.deref-2.ensures.value
    ∙ ap (λ (v : Wishing). wants (settings_of v.indices) v.repo p.key.now p.paths.items true) wish) ∙ c.if-branch.false in
    let required_here = c.in_ok-required.ensures
    ∙ ap (λ (ps : List (List ℕ)). required (settings_of w.indices) w.repo p.key.now ps) c.deref-3.ensures.value
    ∙ ap (λ (v : Wishing). required (settings_of v.indices) v.repo p.key.now p.paths.items) wish in
    none_required (λ t. t.now) c.in_ok-required.required c.is_none.result c.is_none.ensures
    ∙ ap (λ (o : Option (List ℕ)). not (is_some o)) required_here
    ∙ spares_unrequired (settings_of p.settings.now) p.key.now p.paths.items (repo_at p.repos.now n) there unwanted
    ∙ ap (λ (q : Placed). spares_at q n) c.self.view_is
