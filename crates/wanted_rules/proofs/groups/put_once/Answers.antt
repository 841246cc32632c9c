-- What the proof of `groups::put_once` needs beside the tactics.
use Rattle.std.proofs.Common.{List, ℕ, Bor, bytes_eq, sym, ap, ◌∙◌}
use Rattle.std.specs.List.{list_any}
use Rattle.wanted_rules.proofs.GroupLemmas.{once_known, once_put}
use Rattle.wanted_rules.proofs.groups.put_once.Goals as goal

pub returns-in_ok-push : goal.returns-in_ok-push
returns-in_ok-push c =
    once_put c.args.once.now.items c.push.new.self.items c.args.name c.in_ok-push.ensures.items
    (ap (list_any (λ (w : Bor (List ℕ)). bytes_eq c.args.name.now w.now)) (sym c.as_slice.ensures.value) ∙ sym c.is_one_of.ensures ∙ c.if-not-is_one_of.true)

pub returns-else-not-is_one_of : goal.returns-else-not-is_one_of
returns-else-not-is_one_of c =
    once_known c.args.once.now.items c.args.name.now (ap (list_any (λ (w : Bor (List ℕ)). bytes_eq c.args.name.now w.now)) (sym c.as_slice.ensures.value) ∙ sym c.is_one_of.ensures ∙ c.if-not-is_one_of.false)
