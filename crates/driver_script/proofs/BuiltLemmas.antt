-- Of the commands all are built, or there is a first that isn't.
use Rattle.std.proofs.Common.{◌≡◌, ◌⊎◌, inl, inr, ℕ, suc, ◌+◌, ◌<◌, ◌≤◌, Bool, true, false, nat_lt, List, [], ◌∷◌, length, Some, None, refl, sym, ap, ◌∙◌, arith}
use Rattle.std.specs.Prelude.{cond, not}
use Rattle.std.specs.List.{position_or_len}
use Rattle.std.proofs.lemmas.Bool.{ltb-false, ltb-true}
use Rattle.annex_base.specs.Lists.{Each}
use Rattle.script_commands.specs.declared.command.Command.{Command}
use Rattle.driver_script.specs.Lines.{first_unbuilt, is_built}

abbrev pub IsBuilt : Command → Type 0
IsBuilt c = is_built c ≡ true

abbrev place : List Command → ℕ
place all = position_or_len (λ c. not (is_built c)) all

before_none : (all : List Command) → length all ≤ place all → Each IsBuilt all
before_none [] le = tt
before_none (c ∷ cs) le = go (λ short. before_none cs short) (is_built c) refl le
  where
    go : (length cs ≤ place cs → Each IsBuilt cs) → (b : Bool) → is_built c ≡ b → suc (length cs) ≤ cond (not (not b)) (1 + place cs) 0 → IsBuilt c × Each IsBuilt cs
    go others true is le = (is, others (omega (arith, le)))
    go others false is le = absurd (omega (arith, le))

abbrev pub IsEither : List Command → Type 0
IsEither all = ((first_unbuilt all ≡ None) × Each IsBuilt all) ⊎ ((n : ℕ) × (first_unbuilt all ≡ Some n) × (n < length all))

pub built_or_first : (all : List Command) → IsEither all
built_or_first all = go (nat_lt (place all) (length all)) refl
  where
    go : (b : Bool) → nat_lt (place all) (length all) ≡ b → IsEither all
    go true is = inr (place all, ap (λ b. cond b (Some (place all)) None) is, ltb-true (place all) (length all) is)
    go false is = inl (ap (λ b. cond b (Some (place all)) None) is, before_none all (ltb-false (place all) (length all) is))

pub all_built : (all : List Command) → first_unbuilt all ≡ None → Each IsBuilt all
all_built all none = go (built_or_first all)
  where
    go : IsEither all → Each IsBuilt all
    go (inl built) = built.1
    go (inr first) = absurd (let no : None ≡ Some first.0 = sym none ∙ first.1 in cc)
