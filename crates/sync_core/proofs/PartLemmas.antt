-- What is made of a list part by part.
use Rattle.std.proofs.Common.{◌≡◌, ◌++◌, List, [], ◌∷◌, Vec, Global, flat_map, map, refl, sym, ap, subst, ◌∙◌}
use Rattle.std.specs.Prelude.{Contains, Err, IfOk, MatchResult, Ok}
use Rattle.std.specs.List.{AllZip}
use Rattle.std.specs.declared.result.Result.{Result}
use Rattle.std.proofs.lemmas.Grind.{flat_map-append}

-- of each part, and then side by side, is as of the parts side by side
pub flat_map-flat_map : {X Y : Type 0} (f : X → List Y) (parts : List (List X)) → flat_map (λ part. flat_map f part) parts ≡ flat_map f (flat_map (λ part. part) parts)
flat_map-flat_map f [] = refl
flat_map-flat_map f (part ∷ parts) = ap (λ ys. flat_map f part ++ ys) (flat_map-flat_map f parts) ∙ sym (flat_map-append f part (flat_map (λ p. p) parts))

module _ {X Y V : Type 0} (E : Type 0) (f : X → List Y) (items : V → List Y) where
  -- what comes of a part, unless it is refused, is what f makes of it
  abbrev pub IsMade : X → Result V E → Type 0
  IsMade part result = IfOk result (λ v. items v ≡ f part)

  -- then so is all that comes, side by side
  flat_map-made : (parts : List X) (made : List V) → AllZip IsMade parts (map (λ v. Ok v) made) → flat_map items made ≡ flat_map f parts
  flat_map-made [] [] each = refl
  flat_map-made [] (v ∷ made) each = absurd each
  flat_map-made (part ∷ parts) [] each = absurd each
  flat_map-made (part ∷ parts) (v ∷ made) each = λ i. each.0 i ++ flat_map-made parts made each.1 i

  -- the same of what was gathered, where nothing was refused
  pub flat_map-gathered : (parts : List X) (results : List (Result V E)) → AllZip IsMade parts results → (all : Result (Vec V Global) E) (made : Vec V Global) → all ≡ Ok made
      → MatchResult all (λ v. (vs : List V) × (results ≡ map Ok vs) × (v.items ≡ vs)) (λ e. Contains results (Err e)) → flat_map items made.items ≡ flat_map f parts
  flat_map-gathered parts results each all made is gathered =
      let found = subst (λ r. MatchResult r (λ v. (vs : List V) × (results ≡ map Ok vs) × (v.items ≡ vs)) (λ e. Contains results (Err e))) is gathered in
      ap (flat_map items) found.2 ∙ flat_map-made parts found.0 (subst (AllZip IsMade parts) found.1 each)
