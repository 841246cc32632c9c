-- What the proof of `rows::Rows::note` needs beside the tactics.
use Rattle.std.proofs.Common.{is_some, sym, ap, ◌∙◌}
use Rattle.node_model.specs.Rows.{bar_after, content_after, holds_after, present_after}
use Rattle.state_rows.specs.Rows.{size_of}
use Rattle.state_rows.proofs.RowLemmas.{present_is}
use Rattle.state_rows.proofs.rows.Rows.note.Goals as goal

pub returns : goal.returns
returns c = λ s st are.
    let kind = c.args.entry.now.kind in
    record {
      present = λ key.
          ap (λ b. present_after key b kind) (are.present key) ∙ sym (present_is key (size_of c.args.self.now key) kind)
          ∙ ap is_some (sym (c.change_contents.ensures key));
      content = λ key. ap (λ o. content_after key o kind) (are.content key) ∙ sym (c.change_contents.ensures key);
      bar = λ key. ap (λ o. bar_after key o kind) (are.bar key) ∙ sym (c.change_bars.ensures key);
      holds = ap (λ hs. holds_after hs kind) are.holds ∙ sym c.change_holds.ensures;
    }
