-- The evidence of a drop as the Rust values say it; for private contracts (own).
use Rattle.std.specs.Prelude.{Bool, Option, Some, None}
use Rattle.drop_proof.specs.declared.evidence.Kind.{Kind}
use Rattle.drop_proof.specs.declared.evidence.Kind.TheVariants as kinds
use Rattle.node_model.specs.Evidence.{Offer, Gives, Fails, is_locked, is_recent, is_trusted}
use Rattle.drop_makes.specs.declared.item.Given.{Given}
use Rattle.drop_makes.specs.declared.item.Given.TheVariants as given
use Rattle.drop_makes.specs.declared.outcome.Sort.{Sort}
use Rattle.drop_makes.specs.declared.outcome.Sort.TheVariants as sorts

abbrev pub kind_of : Given → Kind
kind_of (given.Locked end) = kinds.Locked end
kind_of given.Trusted = kinds.Trusted
kind_of given.Recent = kinds.Recent

abbrev pub offer_as : Option Given → Offer
offer_as (Some g) = Gives (kind_of g)
offer_as None = Fails

abbrev pub test_of : Sort → Kind → Bool
test_of sorts.Locked = is_locked
test_of sorts.Trusted = is_trusted
test_of sorts.Recent = is_recent
