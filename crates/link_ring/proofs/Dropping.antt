-- An end after it dropped the frames that are passed over.
use Rattle.std.proofs.Common.{◌≡◌, arith}
use Rattle.annex_base.proofs.Lists.{filter_shorter, find-filter}
use Rattle.link_ring.specs.Ends.{EndView, ArePaired, after_drop, is_taken, next_frame}

pub first_stays : (e : EndView) → next_frame (after_drop e) ≡ next_frame e
first_stays e = find-filter (is_taken e) e.at_hand

pub paired_drop : (a b : EndView) → ArePaired a b → ArePaired (after_drop a) b
paired_drop a b pair = record {
  first = pair.first;
  second = omega (arith, pair.second, filter_shorter (is_taken a) a.at_hand);
}
