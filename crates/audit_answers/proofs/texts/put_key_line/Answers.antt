-- What the proof of `texts::put_key_line` needs beside the tactics.
use Rattle.std.proofs.Common.{◌++◌, ap, ◌∙◌}
use Rattle.std.specs.Prelude.{None, codes}
use Rattle.std.specs.Fmt.{decimal}
use Rattle.run_text.specs.Jobs.{key_text}
use Rattle.audit_answers.proofs.Written.{key_parts}
use Rattle.audit_answers.proofs.texts.put_key_line.Goals as goal

pub returns : goal.returns
returns c =
    let x = c.args.key.now in
    key_parts c.args.out.now.items c.extend_from_slice.new.self.items c.put_key.new.out.items c.put_field.new.out.items c.put_field-2.new.out.items c.put_field-3.new.out.items
    c.push.new.self.items (codes "key ") (key_text x.key None) (codes " removals=") (decimal x.removals) (codes " least=") (decimal x.least) (codes " mincopies=")
    (decimal x.mincopies) (codes "\n") c.in_ok-extend_from_slice.ensures.items c.in_ok-put_key.ensures.ok
    (c.in_ok-put_field.ensures ∙ ap (λ n. c.put_key.new.out.items ++ codes " removals=" ++ decimal n) c.from.ensures)
    (c.in_ok-put_field-2.ensures ∙ ap (λ n. c.put_field.new.out.items ++ codes " least=" ++ decimal n) c.from-2.ensures)
    (c.in_ok-put_field-3.ensures ∙ ap (λ n. c.put_field-2.new.out.items ++ codes " mincopies=" ++ decimal n) c.from-3.ensures) c.in_ok-push.ensures.items
