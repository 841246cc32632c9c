-- What the proof of `groups::split_groups` needs beside the tactics.
use Rattle.std.proofs.Common.{sym, ap, map, ◌∙◌}
use Rattle.log_grammar.proofs.GroupLemmas.{groups_some, groups_none}
use Rattle.log_grammar.proofs.groups.split_groups.Goals as goal

pub returns-then-all_are_groups : goal.returns-then-all_are_groups
returns-then-all_are_groups c =
    groups_some c.as_slice-words.result.now _ c.in_ok-names.field-0 (ap (map (λ w. w.now)) c.as_slice-words.ensures.value ∙ c.in_ok-words.ensures) (sym c.all_are_groups.ensures ∙ c.if-all_are_groups.true) c.in_ok-names.ensures

pub returns : goal.returns
returns c =
    groups_none c.as_slice-words.result.now _ (ap (map (λ w. w.now)) c.as_slice-words.ensures.value ∙ c.in_ok-words.ensures) (sym c.all_are_groups.ensures ∙ c.if-all_are_groups.false)
