-- What the proof of `reads::Reads::ready` needs beside the tactics.
use Rattle.std.proofs.Common.{List, Option, None, sym, ap, subst, ◌∙◌}
use Rattle.std.specs.Option.{option_copied, option_map}
use Rattle.trust_groups.specs.Settings.{settings}
use Rattle.node_model.specs.Jobs.{Work}
use Rattle.state_jobs.specs.Works.{work_of}
use Rattle.state_reads.specs.Begun.{begun_drop}
use Rattle.state_reads.specs.Reads.{IsReadFor}
use Rattle.state_reads.proofs.Noting.{read_by_files}
use Rattle.state_reads.proofs.reads.Reads.ready.Goals as goal

pub returns-in-None-clause-change : goal.returns-in-None-clause-change
returns-in-None-clause-change c = λ s st number listed had works files.
    let none = ap (λ (ws : List Work). begun_drop ws c.args.kind.now) works.works ∙ sym c.begun_drop.ensures ∙ ap (λ o. option_map work_of (option_copied o)) c.in-None.is in
    subst (λ (o : Option Work). IsReadFor (settings st.lines) s o None) (sym none) tt

pub returns-in_ok-read_for-in-Some-clause-change : goal.returns-in_ok-read_for-in-Some-clause-change
returns-in_ok-read_for-in-Some-clause-change c = λ s st number listed had works files.
    let some = ap (λ (ws : List Work). begun_drop ws c.args.kind.now) works.works ∙ sym c.begun_drop.ensures ∙ ap (λ o. option_map work_of (option_copied o)) c.in-Some.is in
    read_by_files s st c.args.kind.now c.args.repo c.args.ids.now c.args.paths.now _ _ _ some number listed had files.lines c.in_ok-read_for-in-Some.ensures.kept
