-- When two truth values are the same.
use Rattle.std.specs.Prelude.{Bool, true, false}

-- the two are both true or both false
abbrev pub same_bool : Bool → Bool → Bool
same_bool true b = b
same_bool false true = false
same_bool false false = true
