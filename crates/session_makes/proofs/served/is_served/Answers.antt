-- What the proof of `served::is_served` needs beside the tactics.
use Rattle.std.proofs.Common.{ℕ, not, ◌&&◌, ◌==◌, length, sym, ap, ◌∙◌}
use Rattle.std.specs.Prelude.{nat_lt}
use Rattle.session_makes.proofs.ServedLemmas.{served_so}
use Rattle.session_makes.proofs.served.is_served.Goals as goal

pub returns : goal.returns
returns c = λ s same number.
    let p = c.args.peer in
    let q = c.args.slot in
    c.is_other.ensures
    ∙ ap (λ (n : ℕ). nat_lt p n && not (p == c.args.own) && nat_lt q 4) (ap length (sym same))
    ∙ ap (λ (n : ℕ). nat_lt p (length s.repos) && not (p == n) && nat_lt q 4) (sym number)
    ∙ sym (served_so s p q)
