-- What the proof of `refusal::put_refusal` needs beside the tactics.
use Rattle.std.proofs.Common.{List, ℕ, ◌++◌, ap, ◌∙◌, append_assoc}
use Rattle.std.specs.Fmt.{decimal}
use Rattle.run_text.proofs.refusal.put_refusal.Goals as goal

pub returns-in_ok-put_number-in-OldProtocol : goal.returns-in_ok-put_number-in-OldProtocol
returns-in_ok-put_number-in-OldProtocol c =
    rw c.in-OldProtocol.is (c.in_ok-put_number-in-OldProtocol.ensures.ok ∙ ap (λ (l : List ℕ). l ++ decimal c.in-OldProtocol.version) c.in_ok-extend_from_slice-in-OldProtocol.ensures.items ∙ append_assoc c.args.out.now.items _ _)
