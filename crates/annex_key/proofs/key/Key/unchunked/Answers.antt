-- What the proof of `key::Key::unchunked` needs beside the tactics.
use Rattle.std.proofs.Common.{◌∙◌, ap, sym, subst}
use Rattle.annex_key.specs.View.{IsKeyed, unchunked_text}
use Rattle.annex_key.proofs.ChunkLemmas.{keyed_short, keyed_never, keyed_joins, unchunked_keyed, unchunked_text-key}
use Rattle.annex_key.proofs.key.Key.unchunked.Goals as goal

pub around_chunk-requires : goal.around_chunk-requires
around_chunk-requires c = keyed_short c.self.inside.text.items c.as_slice-text.result.now c.self.inside.size c.self.invariant c.as_slice-text.ensures.value

pub unreachable-requires : goal.unreachable-requires
unreachable-requires c = keyed_never c.self.inside.text.items c.as_slice-text.result.now c.self.inside.size c.in_default.field-0 c.self.invariant c.as_slice-text.ensures.value c.in_default.ensures

pub invariant_of-result : goal.invariant_of-result
invariant_of-result c =
    let whole = keyed_joins c.self.inside.text.items c.as_slice-text.result.now c.self.inside.size (c.in-Ok.front.now, c.in-Ok.end.now) c.in_ok-joined.field-0.items c.self.invariant c.as_slice-text.ensures.value c.in-Ok.ensures c.in_ok-joined.ensures in
    subst (λ w. IsKeyed w c.self.inside.size) (sym whole) (unchunked_keyed c.self.inside.text.items c.self.inside.size c.self.invariant)

pub returns-clause-value : goal.returns-clause-value
returns-clause-value c =
    keyed_joins c.self.inside.text.items c.as_slice-text.result.now c.self.inside.size (c.in-Ok.front.now, c.in-Ok.end.now) c.in_ok-joined.field-0.items c.self.invariant c.as_slice-text.ensures.value c.in-Ok.ensures c.in_ok-joined.ensures
    ∙ ap unchunked_text c.self.view_is

pub returns-clause-spelled : goal.returns-clause-spelled
returns-clause-spelled c = λ k is spelled.
    keyed_joins c.self.inside.text.items c.as_slice-text.result.now c.self.inside.size (c.in-Ok.front.now, c.in-Ok.end.now) c.in_ok-joined.field-0.items c.self.invariant c.as_slice-text.ensures.value c.in-Ok.ensures c.in_ok-joined.ensures
    ∙ unchunked_text-key k c.self.inside.text.items is (c.self.view_is ∙ spelled)
