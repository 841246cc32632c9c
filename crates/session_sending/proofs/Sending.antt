-- What is sent next of a content.
use Rattle.annex_base.specs.declared.kinds.Call.TheVariants.{Read}
use Rattle.std.proofs.Common.{◌≡◌, ◌≢◌, ℕ, ◌+◌, ◌-◌, ◌<◌, Bool, true, false, min, List, [], ◌∷◌, length, Option, Some, None, refl, sym, ◌∙◌, arith}
use Rattle.std.specs.Prelude.{nat_le, ◌==◌}
use Rattle.std.specs.Option.{option_map, unwrap_or}
use Rattle.run_data.specs.declared.entry.EntryKind.TheVariants.{Talk}
use Rattle.run_data.specs.declared.entry.FrameText.TheVariants.{Bytes}
use Rattle.object_store.specs.Stores.{read_length}
use Rattle.node_model.specs.Ends.{server_end}
use Rattle.node_model.specs.Sessions.{Gives, reaches}
use Rattle.node_model.specs.SessionStep.{Here, gives_next}
use Rattle.session_state.specs.declared.more.More.TheVariants as more
use Rattle.session_state.specs.declared.place.Place.{Place}
use Rattle.session_state.specs.Giving.{reply_more}

pub some_left : (left : ℕ) → 0 < left → (left == 0) ≡ false
some_left left some = grind arith

pub piece_is : (h : Here) (key : List ℕ) (at left n m : ℕ) (good : Bool) → 0 < left → min 32768 left ≡ n → m ≡ n → h.fails ≡ None → reaches (h.content key) (at + n) ≡ true
    → gives_next h (Gives key at left good) ≡ Some (record { kind = Talk None; says = Bytes m ∷ []; calls = Read ∷ [] })
piece_is h key at left n m good some is whole f r = rw (some_left left some, is, f, r, whole) refl

pub gone_is : (h : Here) (place : Place) (key : List ℕ) (at left n : ℕ) (good : Bool) → h.at ≡ server_end place.peer place.slot → 0 < left → min 32768 left ≡ n → h.fails ≡ None → reaches (h.content key) (at + n) ≡ false
    → gives_next h (Gives key at left good) ≡ reply_more place more.Gone
gone_is h place key at left n good a some is f r = rw (some_left left some, is, f, r, a) refl

read_whole : (xs : List ℕ) (at n : ℕ) → min (length xs - at) n ≡ n → 0 < n → nat_le (at + n) (length xs) ≡ true
read_whole xs at n e some = grind arith

read_short : (xs : List ℕ) (at n m : ℕ) → min (length xs - at) n ≡ m → m ≢ n → nat_le (at + n) (length xs) ≡ false
read_short xs at n m e other = grind arith

-- a read of as many bytes as were asked for is one of a content that reaches so far
pub reads_on : (o : Option (List ℕ)) (at n m : ℕ) → m ≡ read_length (unwrap_or o []) at n → m ≡ n → 0 < n → reaches (option_map length o) (at + n) ≡ true
reads_on None at n m e same some = absurd (omega (arith, e, same, some))
reads_on (Some xs) at n m e same some = read_whole xs at n (sym e ∙ same) some

pub reads_off : (o : Option (List ℕ)) (at n m : ℕ) → m ≡ read_length (unwrap_or o []) at n → m ≢ n → reaches (option_map length o) (at + n) ≡ false
reads_off None at n m e other = refl
reads_off (Some xs) at n m e other = read_short xs at n m (sym e) other
