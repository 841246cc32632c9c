-- What the proof of `wishes::Wishes::required` needs beside the tactics.
use Rattle.std.proofs.Common.{Bool, Some, None, if◌then◌else◌, sym, ap, ◌∙◌}
use Rattle.std.specs.Option.{option_copied}
use Rattle.trust_groups.specs.View.{settings_of, text_read}
use Rattle.wanted_expr.specs.Wanted.{formula_read}
use Rattle.wanted_rules.specs.Reads.{Wishing}
use Rattle.wanted_rules.proofs.WishLemmas.{requires_by, requires_none}
use Rattle.wanted_rules.proofs.wishes.Wishes.required.Goals as goal

pub returns-in_default : goal.returns-in_default
returns-in_default c =
    let w = c.args.self.now in
    let none = sym (ap option_copied c.in_default.is) ∙ c.self.invariant.is_required ∙ ap (λ (w : Wishing). text_read formula_read ((settings_of w.indices).required w.repo)) c.self.view_is in
    requires_none (settings_of w.indices) w.repo c.args.key.now c.args.paths.now none

pub returns-then-branch : goal.returns-then-branch
returns-then-branch c =
    let w = c.args.self.now in
    let text = (settings_of w.indices).required w.repo in
    let some = sym (ap option_copied c.in-Some.is) ∙ c.self.invariant.is_required ∙ ap (λ (w : Wishing). text_read formula_read ((settings_of w.indices).required w.repo)) c.self.view_is in
    ap Some (c.required.ensures ∙ ap (λ (w : Wishing). (settings_of w.indices).required w.repo) c.self.view_is)
    ∙ ap (λ (t : Bool). if t then Some text else None) (sym c.if-branch.true)
    ∙ requires_by (settings_of w.indices) w.repo c.args.key.now c.args.paths.now c.in-Some.expr.now c.in_ok-is_true.field-0 some c.in_ok-is_true.ensures

pub returns : goal.returns
returns c =
    let w = c.args.self.now in
    let text = (settings_of w.indices).required w.repo in
    let some = sym (ap option_copied c.in-Some.is) ∙ c.self.invariant.is_required ∙ ap (λ (w : Wishing). text_read formula_read ((settings_of w.indices).required w.repo)) c.self.view_is in
    ap (λ (t : Bool). if t then Some text else None) (sym c.if-branch.false)
    ∙ requires_by (settings_of w.indices) w.repo c.args.key.now c.args.paths.now c.in-Some.expr.now c.in_ok-is_true.field-0 some c.in_ok-is_true.ensures
