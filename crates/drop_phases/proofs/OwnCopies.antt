-- A remote drop asks its own repository no more, once it has heard of it.
use Rattle.std.proofs.Common.{◌≡◌, inl, inr, ℕ, Bool, true, false, List, ◌∷◌, map, Option, Some, None, refl, ap, ◌∙◌}
use Rattle.std.specs.Prelude.{◌==◌, if◌then◌else◌, find, is_some, option_map}
use Rattle.annex_base.proofs.Conditions.{eqb_refl}
use Rattle.node_model.specs.Evidence.{Standing, Claimed, Ignored, Asked}
use Rattle.node_model.specs.Jobs as Jobs
use Rattle.node_model.specs.Knows.{is_unasked}
use Rattle.drop_phases.specs.declared.phase.Heard.{Heard}
use Rattle.drop_phases.specs.Doing.{Grows}
use Rattle.drop_phases.specs.Working.{heard_as, heard_in}

pub heard_unasked : (s : Standing) (o : Option Jobs.Heard) → is_some o ≡ true → is_unasked s o ≡ false
heard_unasked s None e = absurd (cc)
heard_unasked Claimed (Some h) e = refl
heard_unasked (Ignored cause) (Some h) e = refl
heard_unasked Asked (Some h) e = refl

abbrev found : ℕ → (ℕ × Heard) → List (ℕ × Heard) → Bool → Bool
found repo x heard b = is_some (option_map (λ (y : ℕ × Jobs.Heard). y.1) (if b then Some (x.0, heard_as x.1) else find (λ y. y.0 == repo) (map (λ (y : ℕ × Heard). (y.0, heard_as y.1)) heard)))

pub own_told : (repo : ℕ) (h : Heard) (heard heard' : List (ℕ × Heard)) → heard' ≡ (repo, h) ∷ heard → is_some (heard_in heard' repo) ≡ true
own_told repo h heard heard' is = ap (λ (hs : List (ℕ × Heard)). is_some (heard_in hs repo)) is ∙ ap (found repo (repo, h) heard) (eqb_refl repo)

-- what was heard stays
pub own_grows : (repo : ℕ) (heard heard' : List (ℕ × Heard)) → Grows heard heard' → is_some (heard_in heard repo) ≡ true → is_some (heard_in heard' repo) ≡ true
own_grows repo heard heard' (inl same) e = ap (λ (hs : List (ℕ × Heard)). is_some (heard_in hs repo)) same ∙ e
own_grows repo heard heard' (inr (x, more)) e = ap (λ (hs : List (ℕ × Heard)). is_some (heard_in hs repo)) more ∙ go (x.0 == repo)
  where
    go : (b : Bool) → found repo x heard b ≡ true
    go true = refl
    go false = e
