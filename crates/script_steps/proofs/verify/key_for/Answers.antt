-- The sum of a content for a made key is that of a key with the backend SHA256.
use Rattle.std.proofs.Common.{◌≡◌, ℕ, List, refl, subst, codes}
use Rattle.std.specs.Prelude.{IfOk}
use Rattle.annex_key.specs.KeyText.{key_text}
use Rattle.key_verify.specs.Digests.{key_method}
use Rattle.key_verify.specs.MakingKeys as making
use Rattle.key_verify.specs.declared.method.Method.TheVariants as methods
use Rattle.script_forms.specs.Verify.{made_key}
use Rattle.script_steps.proofs.verify.key_for.Goals as goal

abbrev some_key : List ℕ
some_key = codes "SHA256--a"

some_method : key_method some_key ≡ methods.Sha256
some_method = refl

pub make_key_of_sum-requires : goal.make_key_of_sum-requires
make_key_of_sum-requires c = (c.args.content.now, c.content_sum-sum.ensures some_key (c.for_made_key.ensures.taken some_key some_method))

pub returns : goal.returns
unfolding made_key
returns c =
    subst (λ (path : List ℕ). IfOk c.make_key_of_sum.result (λ k. k ≡ key_text (making.made_key path c.args.content.now))) c.bytes.ensures
    (c.make_key_of_sum.ensures.text c.args.content.now (c.content_sum-sum.ensures some_key (c.for_made_key.ensures.taken some_key some_method)))
