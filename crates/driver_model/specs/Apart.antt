-- Ends of connections that are apart (own).
use Rattle.std.specs.Prelude.{◌≢◌, List, [], ◌∷◌}
use Rattle.annex_base.specs.Lists.{Each}
use Rattle.node_model.specs.Ends.{EndName}

-- no two of them are the same
abbrev pub AreApart : List EndName → Type 0
AreApart [] = Unit {0}
AreApart (a ∷ rest) = Each (λ b. b ≢ a) rest × AreApart rest
