-- What the proof of `key::Key::name` needs beside the tactics.
use Rattle.std.proofs.Common.{ap, ◌∙◌}
use Rattle.annex_key.specs.View.{name_part}
use Rattle.annex_key.proofs.AnswerLemmas.{name_part-key}
use Rattle.annex_key.proofs.ChunkLemmas.{keyed_short, keyed_never, keyed_name}
use Rattle.annex_key.proofs.key.Key.name.Goals as goal

pub around_chunk-requires : goal.around_chunk-requires
around_chunk-requires c = keyed_short c.self.inside.text.items c.as_slice-text.result.now c.self.inside.size c.self.invariant c.as_slice-text.ensures.value

pub unreachable-requires : goal.unreachable-requires
unreachable-requires c = keyed_never c.self.inside.text.items c.as_slice-text.result.now c.self.inside.size c.in_default.field-0 c.self.invariant c.as_slice-text.ensures.value c.in_default.ensures

pub split_at-requires : goal.split_at-requires
split_at-requires c = (keyed_name c.self.inside.text.items c.as_slice-text.result.now c.self.inside.size (c.in-Ok._front.now, c.in-Ok.end.now) c.self.invariant c.as_slice-text.ensures.value c.in-Ok.ensures).0

pub returns-clause-value : goal.returns-clause-value
returns-clause-value c =
    c.split_at.ensures.back ∙ (keyed_name c.self.inside.text.items c.as_slice-text.result.now c.self.inside.size (c.in-Ok._front.now, c.in-Ok.end.now) c.self.invariant c.as_slice-text.ensures.value c.in-Ok.ensures).1
    ∙ ap name_part c.self.view_is

pub returns-clause-spelled : goal.returns-clause-spelled
returns-clause-spelled c = λ k is spelled. returns-clause-value c ∙ name_part-key k c.args.self.now is spelled
