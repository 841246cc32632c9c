-- What the proof of `holds::Holds::blocker` needs beside the tactics.
use Rattle.std.proofs.Common.{None, ap, sym, subst, ◌∙◌}
use Rattle.std.specs.Option.{option_copied}
use Rattle.std.specs.Map.{values_of}
use Rattle.std.specs.Prelude.{fold}
use Rattle.content_lock.specs.Indexed.{AreFalling, after_hold, hold_at, items_in}
use Rattle.content_lock.proofs.BlockerLemmas.{blocker_seen, none_named, some_named}
use Rattle.content_lock.proofs.NumberedLemmas.{falling-reverse}
use Rattle.content_lock.proofs.holds.Holds.blocker.Goals as goal

pub returns-in-Some-clause-none : goal.returns-in-Some-clause-none
returns-in-Some-clause-none c =
    let es = c.self.inside.by_number.entries in
    let listed = c.deref.ensures.value ∙ ap items_in (sym (ap option_copied c.in-Some.is) ∙ c.get.ensures.value) in
    none_named c.args.key.now c.args.now c.args.self.now c.first_blocker.result
    (blocker_seen c.args.key.now c.args.now es c.self.inside.numbers.entries c.args.self.now c.first_blocker.result c.self.invariant c.self.view_is
    (c.first_blocker.ensures ∙ ap (fold (λ found n. after_hold c.args.key.now c.args.now (hold_at es n) found) None) listed))

pub returns-in-Some-clause-some : goal.returns-in-Some-clause-some
returns-in-Some-clause-some c =
    let es = c.self.inside.by_number.entries in
    let listed = c.deref.ensures.value ∙ ap items_in (sym (ap option_copied c.in-Some.is) ∙ c.get.ensures.value) in
    some_named c.args.key.now c.args.now c.args.self.now c.first_blocker.result (subst AreFalling c.self.view_is (falling-reverse (values_of es) c.self.invariant.rising))
    (blocker_seen c.args.key.now c.args.now es c.self.inside.numbers.entries c.args.self.now c.first_blocker.result c.self.invariant c.self.view_is
    (c.first_blocker.ensures ∙ ap (fold (λ found n. after_hold c.args.key.now c.args.now (hold_at es n) found) None) listed))

pub returns-in-None-clause-none : goal.returns-in-None-clause-none
returns-in-None-clause-none c =
    let es = c.self.inside.by_number.entries in
    let listed = ap items_in (sym (ap option_copied c.in-None.is) ∙ c.get.ensures.value) in
    none_named c.args.key.now c.args.now c.args.self.now None
    (blocker_seen c.args.key.now c.args.now es c.self.inside.numbers.entries c.args.self.now None c.self.invariant c.self.view_is
    (ap (fold (λ found n. after_hold c.args.key.now c.args.now (hold_at es n) found) None) listed))
