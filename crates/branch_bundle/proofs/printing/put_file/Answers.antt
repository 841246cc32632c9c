-- What the proof of `printing::put_file` needs beside the tactics.
use Rattle.std.proofs.Common.{◌∙◌, ◌++◌, ap, rules}
use Rattle.branch_bundle.proofs.TextLemmas.{put_file_is}
use Rattle.branch_bundle.proofs.printing.put_file.Goals as goal

pub returns : goal.returns
returns c =
    put_file_is c.args.out.now.items c.extend_from_slice.new.self.items c.put_number.new.out.items c.push.new.self.items c.extend_from_slice-2.new.self.items c.push-2.new.self.items c.extend_from_slice-3.new.self.items
    c.args.path.now c.in_ok-text.text.items c.args.lines.now c.len.result
    c.in_ok-extend_from_slice.ensures.items c.in_ok-put_number.ensures.ok c.in_ok-push.ensures.items c.in_ok-extend_from_slice-2.ensures.items c.in_ok-push-2.ensures.items
    (c.in_ok-extend_from_slice-3.ensures.items ∙ ap (λ w. c.push-2.new.self.items ++ w) c.deref.ensures.value)
    (c.len.ensures ∙ c.in_ok-text.text.ok.0) (search rules) c.in_ok-text.ensures
