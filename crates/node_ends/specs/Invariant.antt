-- What each end of a repository keeps: while it is open a Close has its place and its number; for private contracts.
use Rattle.std.specs.Prelude.{ℕ, ◌^◌, Bool, true, nat_le, nat_lt, ◌&&◌, List}
use Rattle.std.specs.List.{list_all}
use Rattle.link_ring.specs.declared.end.Phase.{Phase}
use Rattle.link_ring.specs.declared.end.Phase.TheVariants.{Closed, Opening, Open}
use Rattle.link_ring.specs.Ends.{EndView, free}

abbrev pub has_place : Phase → ℕ → Bool
has_place Closed places = true
has_place Opening places = nat_le 1 places
has_place Open places = true

abbrev pub has_number : Phase → ℕ → Bool
has_number Closed sent = true
has_number Opening sent = nat_lt sent (2 ^ 62)
has_number Open sent = nat_lt sent (2 ^ 62)

abbrev pub may_close : EndView → Bool
may_close v = has_place v.phase (free v) && has_number v.phase v.sent

abbrev pub each_may_close : List EndView → Bool
each_may_close links = list_all may_close links
