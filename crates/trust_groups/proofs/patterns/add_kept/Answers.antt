-- What the proof of `patterns::add_kept` needs beside the tactics.
use Rattle.std.proofs.Common.{refl}
use Rattle.trust_groups.specs.Reads.{view_of}
use Rattle.trust_groups.proofs.GlobLemmas.{line_kept, still_kept}
use Rattle.trust_groups.proofs.patterns.add_kept.Goals as goal

pub returns-in_err-keep_glob-clause-kept : goal.returns-in_err-keep_glob-clause-kept
returns-in_err-keep_glob-clause-kept c = λ kept.
    still_kept c.args.globs.now.entries c.keep_glob.new.globs.entries (view_of c.args.files.now.entries) (view_of c.args.files.now.entries) kept c.keep_glob.ensures.keeps refl

pub returns-clause-kept : goal.returns-clause-kept
returns-clause-kept c = λ kept.
    line_kept c.add_line.result c.args.globs.now.entries c.keep_glob.new.globs.entries (view_of c.args.files.now.entries) (view_of c.add_line.new.files.entries) c.args.path.now c.args.line.now kept
    c.keep_glob.ensures.keeps c.in_ok-keep_glob.ensures.has c.add_line.ensures.reads c.add_line.ensures.err
