-- A text that is too long for a script passes its limit.
use Rattle.std.proofs.Common.{List, ℕ, inl, subst, arith, refl}
use Rattle.script_answers.specs.Top.{IsLong}
use Rattle.script_answers.proofs.StormLemmas.{answered_by, limit_answers}
use Rattle.annex_cli.proofs.storms.text_due.Goals as goal

pub returns-then-bytes-gt-SCRIPT_LIMIT : goal.returns-then-bytes-gt-SCRIPT_LIMIT
returns-then-bytes-gt-SCRIPT_LIMIT g c =
    let n = c.args.storm.number in
    let m = c.args.storm.jobs in
    let long : IsLong c.args.bytes.now _ = record { long = omega arith; text_is = refl } in
    answered_by c.limit_due.result n m _ _ c.limit_due.ensures (limit_answers n m _ (inl (subst (λ (b : List ℕ). IsLong b _) c.requires long)))
