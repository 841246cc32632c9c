-- The calls by which a part is read on.
use Rattle.std.proofs.Common.{◌≡◌, ◌≢◌, ℕ, Bool, true, false, [], ◌∷◌, Option, sym, ap, ◌∙◌, arith}
use Rattle.std.specs.Prelude.{nat_lt}
use Rattle.std.proofs.lemmas.Bool.Decides.{nat_tests}
use Rattle.annex_base.specs.declared.kinds.Call.{Call}
use Rattle.annex_base.specs.declared.kinds.Call.TheVariants.{PartSize, ReadPart}
use Rattle.node_model.specs.Calls.{to_read, to_resume}
use Rattle.node_model.specs.Look.{failing_call}

pub begun_anew : (o fails : Option Call) (n m : ℕ) → n ≡ m → n ≡ 0 → o ≡ failing_call fails (PartSize ∷ []) → o ≡ failing_call fails (to_resume m)
begun_anew o fails n m same none is =
    let low : nat_lt 0 m ≡ false = grind (arith, nat_tests) in
    is ∙ ap (λ (b : Bool). failing_call fails (PartSize ∷ to_read b)) (sym low)

pub resumed : (o fails : Option Call) (n m : ℕ) → n ≡ m → n ≢ 0 → o ≡ failing_call fails (PartSize ∷ ReadPart ∷ []) → o ≡ failing_call fails (to_resume m)
resumed o fails n m same some is =
    let more : nat_lt 0 m ≡ true = grind (arith, nat_tests) in
    is ∙ ap (λ (b : Bool). failing_call fails (PartSize ∷ to_read b)) (sym more)
