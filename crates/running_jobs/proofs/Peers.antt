-- A line that a job owes is of one of the repositories: of that from whose end its step takes the frame.
use Rattle.std.proofs.Common.{◌≡◌, ℕ, ◌*◌, ◌<◌, Bool, true, false, if◌then◌else◌, List, length, Option, Some, None, refl, sym, true≢false, arith}
use Rattle.std.specs.Prelude.{is_some, nat_lt, option_and_then, slice_get}
use Rattle.std.specs.Option.{option_map}
use Rattle.std.proofs.lemmas.Option.{slice_get_within}
use Rattle.link_ring.specs.Ends.{EndView, next_frame}
use Rattle.link_ring.specs.Places.{end_place}
use Rattle.node_model.specs.Ends.{End, EndName}
use Rattle.node_ends.specs.Ends.{end_at, frame_at, if_may, link_at, wait_at}

link_waits : (c : End) (a : EndName) (o : Option EndView) → is_some (option_and_then (if_may c) (option_map (frame_at a) (option_and_then next_frame o))) ≡ true → is_some o ≡ true
link_waits c a None waits = waits
link_waits c a (Some v) waits = refl

-- a frame waits only at an end that is there
pub peer_among : (links : List EndView) (count : ℕ) (a : EndName) → length links ≡ count * 8 → is_some (wait_at links a) ≡ true → a.peer < count
peer_among links count a size waits = by_slot (nat_lt a.slot 4) (link_waits (end_at links a) a (link_at links a) waits)
  where
    within : (o : Option EndView) → slice_get links (end_place a.peer a.slot a.client) ≡ o → is_some o ≡ true → a.peer < count
    within None at is = absurd (true≢false (sym is))
    within (Some v) at is =
        let low : end_place a.peer a.slot a.client < length links = slice_get_within links (end_place a.peer a.slot a.client) v at in
        omega (arith, low, size)

    by_slot : (b : Bool) → is_some (if b then slice_get links (end_place a.peer a.slot a.client) else None) ≡ true → a.peer < count
    by_slot true is = within (slice_get links (end_place a.peer a.slot a.client)) refl is
    by_slot false is = absurd (true≢false (sym is))
