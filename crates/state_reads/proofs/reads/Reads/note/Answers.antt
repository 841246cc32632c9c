-- What the proof of `reads::Reads::note` needs beside the tactics.
use Rattle.std.proofs.Common.{◌==◌, ◌++◌, List, filter, find, option_to_list, sym, ap, ◌∙◌}
use Rattle.node_model.specs.Jobs.{Work}
use Rattle.state_reads.specs.Begun.{drop_has_read}
use Rattle.state_reads.specs.declared.kept.Kept.{Kept}
use Rattle.state_reads.proofs.Noting.{noted}
use Rattle.state_reads.proofs.reads.Reads.note.Goals as goal

pub returns : goal.returns
returns c = λ s st e are adds have. record {
  each = noted s st e c.args.self.now.kept.items c.add.new.kept.items c.args.change
      (c.add.ensures
      ∙ ap (λ (ks : List Kept). ks ++ option_to_list c.args.change)
      (c.keep_read.ensures.items ∙ ap (λ (ws : List Work). filter (λ (k : Kept). drop_has_read (find (λ (w : Work). w.number == k.job) ws)) c.args.self.now.kept.items) (sym are.works)))
      adds have.each;
}
