-- What the proof of `holds::keep` needs beside the tactics.
use Rattle.std.proofs.Common.{true, sym, ap, ◌∙◌}
use Rattle.std.specs.Option.{option_copied_mut}
use Rattle.content_lock.proofs.NumberedLemmas.{kept_none, kept_one}
use Rattle.content_lock.proofs.holds.keep.Goals as goal

pub returns-in-Some : goal.returns-in-Some
returns-in-Some c =
    let found = sym (ap option_copied_mut c.in-Some.is) ∙ c.get_mut.ensures.value in
    let w = record c.in-Some.hold.now { kept = true } in
    kept_one c.args.by_number.now.entries (c.get_mut.follows.lender w).entries c.args.number c.in-Some.hold.now c.requires.named c.requires.rising found (c.get_mut.follows.holds w).0

pub returns-in_default : goal.returns-in_default
returns-in_default c =
    let found = sym (ap option_copied_mut c.in_default.is) ∙ c.get_mut.ensures.value in
    kept_none c.args.by_number.now.entries c.get_mut.follows.lender-at-none.entries c.args.number c.requires.named found (ap (λ m. m.entries) c.get_mut.follows.holds-at-none)
