-- What the proof of `holds::delist` needs beside the tactics.
use Rattle.std.proofs.Common.{ℕ, List, Some, None, not, filter, ap, sym, ◌∙◌, is_some, rules, ◌≡◌, length, arith}
use Rattle.std.specs.Prelude.{◌==◌}
use Rattle.std.specs.Option.{option_copied_mut}
use Rattle.std.proofs.lemmas.Fn.{filter_same}
use Rattle.std.proofs.lemmas.List.{nil_from_length}
use Rattle.content_lock.specs.Indexed.{items_in}
use Rattle.content_lock.proofs.IndexedLemmas.{listed_to, sets_gone}
use Rattle.content_lock.proofs.holds.delist.Goals as goal

pub returns-then-is_last : goal.returns-then-is_last
returns-then-is_last c =
    let off : List ℕ → List ℕ = filter (λ n. not (n == c.args.number)) in
    let found = sym c.get_mut.ensures.value ∙ ap option_copied_mut c.in-Some.is in
    let now = c.get_mut.follows.lender c.retain.new.self in
    let sets = ((c.get_mut.follows.holds c.retain.new.self).3 (ap is_some found)).0 in
    let left : c.retain.new.self.items ≡ off c.in-Some.listed.now.items = filter_same _ _ _ (λ x b f' k. search rules) _ _ c.retain.ensures.filtered in
    let none : length c.retain.new.self.items ≡ 0 = grind arith in
    listed_to off c.args.numbers.now.entries c.swap_remove.new.self.entries c.args.key.now None
    (sets_gone c.args.numbers.now.entries now.entries c.swap_remove.new.self.entries c.args.key.now (Some c.retain.new.self) sets c.swap_remove.ensures.updates.0)
    (sym (nil_from_length c.retain.new.self.items none) ∙ left ∙ ap (λ o. off (items_in o)) (sym found))

pub returns-else-is_last : goal.returns-else-is_last
returns-else-is_last c =
    let off : List ℕ → List ℕ = filter (λ n. not (n == c.args.number)) in
    let found = sym c.get_mut.ensures.value ∙ ap option_copied_mut c.in-Some.is in
    let now = c.get_mut.follows.lender c.retain.new.self in
    let sets = ((c.get_mut.follows.holds c.retain.new.self).3 (ap is_some found)).0 in
    let left : c.retain.new.self.items ≡ off c.in-Some.listed.now.items = filter_same _ _ _ (λ x b f' k. search rules) _ _ c.retain.ensures.filtered in
    listed_to off c.args.numbers.now.entries now.entries c.args.key.now (Some c.retain.new.self) sets (left ∙ ap (λ o. off (items_in o)) (sym found))
