-- The connection on which a transfer talks stays one with another repository.
use Rattle.std.proofs.Common.{◌≡◌, ℕ, Bool, true, false, Option, Some, None, refl, sym, subst}
use Rattle.std.specs.Prelude.{◌==◌, if◌then◌else◌}
use Rattle.node_model.specs.Jobs
use Rattle.node_model.specs.Jobs.{Work, gets_more, partner, puts_more}
use Rattle.transfer_turns.specs.Partners.{IsOther, NamesOther, StaysApart}
use Rattle.transfer_turns.specs.Turns.{Sight}

-- it talks on none
pub apart_none : (x : Sight) (v v' : Work) → partner v'.what.peer v'.phase ≡ None → StaysApart x v v'
apart_none x v v' none = λ named was. subst (λ (o : Option ℕ). IsOther x o) (sym none) tt

-- it talks on the one on which it talked
pub apart_same : (x : Sight) (v v' : Work) → partner v'.what.peer v'.phase ≡ partner v.what.peer v.phase → StaysApart x v v'
apart_same x v v' same = λ named was. subst (λ (o : Option ℕ). IsOther x o) (sym same) was

-- it talks on the one with this peer
pub apart_with : (x : Sight) (v v' : Work) (peer : ℕ) → partner v'.what.peer v'.phase ≡ Some peer → (NamesOther x v → (x.repo == peer) ≡ false) → StaysApart x v v'
apart_with x v v' peer is other = λ named was. subst (λ (o : Option ℕ). IsOther x o) (sym is) (other named)

-- as more bytes come, or are sent
pub gets_with : (target : Option ℕ) (peer start size left : ℕ) → partner target (gets_more peer start size left) ≡ Some peer
gets_with target peer start size left = go (left == 0)
  where
    go : (b : Bool) → partner target (if b then Jobs.GetsWord peer start size else Jobs.GetsBytes peer start size left) ≡ Some peer
    go true = refl
    go false = refl

pub puts_with : (target : Option ℕ) (peer start at left : ℕ) → partner target (puts_more peer start at left) ≡ Some peer
puts_with target peer start at left = go (left == 0)
  where
    go : (b : Bool) → partner target (if b then Jobs.PutsWord peer start else Jobs.PutsBytes peer start at left) ≡ Some peer
    go true = refl
    go false = refl
