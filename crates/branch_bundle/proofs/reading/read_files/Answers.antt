-- What the proof of `reading::read_files` needs beside the tactics.
use Rattle.branch_bundle.proofs.ReadLemmas.{reads_on-more, reads_on-all}
use Rattle.branch_bundle.proofs.reading.read_files.Goals as goal

pub loop-file-preserved : goal.loop-file-preserved
loop-file-preserved c =
    reads_on-more c.texts_of_sets_read_back.ensures c.loop-file.branch c.replace_file.new.self c.args.text.now c.loop-file.rest.now c.in-Some.file.path.now c.in-Some.file.lines.now c.in-Some.file.rest.now c.in_ok-lines.lines
    c.loop-file.invariant c.in-Some.ensures.0 c.in-Some.ensures.1 c.in_ok-lines.ensures c.in_ok-replace_file.ensures.ok

pub returns : goal.returns
returns c = λ files is spelled. reads_on-all c.loop-file.branch files c.args.text.now c.loop-file.rest.now c.loop-file.invariant c.in_default.ensures is spelled
