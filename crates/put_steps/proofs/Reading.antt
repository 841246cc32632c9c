-- A read of a piece, whole or short.
use Rattle.std.proofs.Common.{◌≡◌, ◌≢◌, ℕ, ◌+◌, ◌-◌, ◌<◌, true, false, min, List, [], length, Option, Some, None, refl, sym, ◌∙◌, arith}
use Rattle.std.specs.Prelude.{nat_le}
use Rattle.std.specs.Option.{option_map, unwrap_or}
use Rattle.object_store.specs.Stores.{read_length}
use Rattle.node_model.specs.Sessions.{reaches}

read_whole : (xs : List ℕ) (at n : ℕ) → min (length xs - at) n ≡ n → 0 < n → nat_le (at + n) (length xs) ≡ true
read_whole xs at n e some = grind arith

read_short : (xs : List ℕ) (at n m : ℕ) → min (length xs - at) n ≡ m → m ≢ n → nat_le (at + n) (length xs) ≡ false
read_short xs at n m e other = grind arith

-- a read of as many bytes as were asked for is one of a content that reaches so far
pub reads_on : (o : Option (List ℕ)) (at n m : ℕ) → m ≡ read_length (unwrap_or o []) at n → m ≡ n → 0 < n → reaches (option_map length o) (at + n) ≡ true
reads_on None at n m e same some = absurd (omega (arith, e, same, some))
reads_on (Some xs) at n m e same some = read_whole xs at n (sym e ∙ same) some

pub reads_off : (o : Option (List ℕ)) (at n m : ℕ) → m ≡ read_length (unwrap_or o []) at n → m ≢ n → reaches (option_map length o) (at + n) ≡ false
reads_off None at n m e other = refl
reads_off (Some xs) at n m e other = read_short xs at n m (sym e) other
