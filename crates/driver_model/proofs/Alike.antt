-- What two looks find of a step: where it is ready for the one it is ready for the other, and what is made is related.
use Rattle.std.proofs.Common.{◌≡◌, Bool, true, false, List, [], ◌∷◌, Option, Some, None, refl, subst}
use Rattle.std.specs.Prelude.{if◌then◌else◌}
use Rattle.std.specs.Option.{option_or}
use Rattle.annex_base.specs.OptionSteps.{first_some}
use Rattle.node_model.specs.Look.{Effect}

abbrev pub Alike : (Effect → Effect → Type 0) → Option Effect → Option Effect → Type 0
Alike E None None = Unit {0}
Alike E (Some m) (Some m') = E m m'
Alike E o p = ⊥

module _ (E : Effect → Effect → Type 0) where
  pub if_alike : (b : Bool) (x x' y y' : Effect) → E x x' → E y y' → E (if b then x else y) (if b then x' else y')
  if_alike true x x' y y' e f = e
  if_alike false x x' y y' e f = f

  pub some_alike : (b : Bool) (x x' : Effect) → E x x' → Alike E (if b then Some x else None) (if b then Some x' else None)
  some_alike true x x' e = e
  some_alike false x x' e = tt

  pub first_alike : (x x' y y' : Option Effect) → Alike E x x' → Alike E y y' → Alike E (option_or x y) (option_or x' y')
  first_alike None None y y' a b = b
  first_alike (Some m) (Some m') y y' a b = a
  first_alike None (Some m') y y' a b = absurd a
  first_alike (Some m) None y y' a b = absurd a

  pub list_alike : {X : Type 0} (f g : X → Option Effect) → ((x : X) → Alike E (f x) (g x)) → (xs : List X) → Alike E (first_some f xs) (first_some g xs)
  list_alike f g all [] = tt
  list_alike f g all (x ∷ xs) = first_alike (f x) (g x) (first_some f xs) (first_some g xs) (all x) (list_alike f g all xs)

  -- the same is related, where each made is related to itself
  pub alike_same : ((m : Effect) → E m m) → (o p : Option Effect) → o ≡ p → Alike E o p
  alike_same self o p e = subst (λ (q : Option Effect). Alike E o q) e (go o)
    where
      go : (o : Option Effect) → Alike E o o
      go None = tt
      go (Some m) = self m

  -- what the other look finds of a step that is ready for the one
  pub other_ready : (o p : Option Effect) (m : Effect) → o ≡ Some m → Alike E o p → (m' : Effect) × (p ≡ Some m') × E m m'
  other_ready o p m e a = go p (subst (λ (q : Option Effect). Alike E q p) e a)
    where
      go : (p : Option Effect) → Alike E (Some m) p → (m' : Effect) × (p ≡ Some m') × E m m'
      go None a = absurd a
      go (Some m') a = (m', refl, a)
