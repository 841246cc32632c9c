-- What the groups so far and the words that are left say is what all words said.
use Rattle.std.proofs.Common.{◌≡◌, ◌+◌, ◌-◌, length, []}
use Rattle.script_forms.specs.Steps as spec
use Rattle.script_steps.proofs.rests.group_words.Given as goal

abbrev pub invariant-loop : goal.invariant-loop
invariant-loop l = (spec.groups_in (l.end - l.counter) l.groups l.words ≡ spec.groups_in (length l.fn.words.line + 1) [] l.fn.words) × (l.words.line ≡ l.fn.words.line)
