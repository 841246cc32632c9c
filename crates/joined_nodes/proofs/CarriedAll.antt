-- Frames are carried between one node and each other one.
use Rattle.std.proofs.Common.{◌≡◌, ◌≢◌, ◌<◌, ◌+◌, ◌⊎◌, inl, inr, append-nil, arith, ℕ, not, List, Option, ◌++◌, Some, length, take, drop, get_or, sym, ap, subst, ◌∙◌}
use Rattle.std.specs.Prelude.{slice_get, ◌==◌}
use Rattle.std.proofs.Math.Seq.{drop-length, take-length}
use Rattle.std.proofs.lemmas.Bool.{cases_Bool}
use Rattle.std.proofs.lemmas.Bool.Decides.{nat_tests}
use Rattle.std.proofs.lemmas.Option.{same_Some, slice_get-get_or, slice_get_within}
use Rattle.link_ring.specs.Ends.{EndView}
use Rattle.node_ends.specs.Ends.{link_at}
use Rattle.node_ends.specs.Joined.{AreCarried, end_with, link_carried}
use Rattle.repo_node.specs.Nodes.{NodeView}
use Rattle.joined_nodes.specs.Carrying.{AreCarriedTo, AreCarriedTwo, AreCarriedWith, IsCarried, LinksCarriedTo}
use Rattle.joined_nodes.specs.Joined.{AreAllCarried, with_links}

pub two_turned : {K : Type 0} (i j : ℕ) (was now : List (NodeView K)) → AreCarriedTwo i j was now → AreCarriedTwo j i was now
two_turned i j was now so = record {
  count = so.count;
  others = λ k not_j not_i. so.others k not_i not_j;
  first = λ a b x at_a at_b at. so.second b a x at_b at_a at;
  second = λ a b y at_a at_b at. so.first b a y at_b at_a at;
}

same_or_other : (m n : ℕ) → (m ≡ n) ⊎ (m ≢ n)
same_or_other m n = elim (cases_Bool (m == n)) [
  | inl is ↦ inl (grind (arith, nat_tests))
  | inr isn't ↦ inr (grind (arith, nat_tests))
]

-- ---- one more is done

below_next : (i n : ℕ) → i < n + 1 → i ≢ n → i < n
below_next i n below other = omega (arith, below, other)

pub one_more : {K : Type 0} (n repo : ℕ) (was mid now : List (NodeView K)) → repo < length was → n < length was → AreCarriedTo n repo was mid → AreCarriedWith repo n mid now → AreCarriedTo (n + 1) repo was now
one_more {K} n repo was mid now in_repo in_n so with = elim (same_or_other n repo) [
  | inl is ↦ subst (λ (ns : List (NodeView K)). AreCarriedTo (n + 1) repo was ns) (sym (with.0.0 is)) (passed is)
  | inr isn't ↦ more isn't (with.0.1 isn't)
] where
  passed : n ≡ repo → AreCarriedTo (n + 1) repo was mid
  passed is = record {
    count = so.count;
    rest = so.rest;
    links = λ a x at_a at_x.
        let links = so.links a x at_a at_x in
        record {
          count = links.count;
          carried = λ i z below other. links.carried i z (below_next i n below (λ e. other (e ∙ is))) other;
          others = λ z h. links.others z (elim h [
            | inl at ↦ inl at
            | inr from ↦ inr (omega (arith, from))
          ]);
        };
    done = λ i a b y below other. so.done i a b y (below_next i n below (λ e. other (e ∙ is))) other;
    later = λ i from other. so.later i (omega (arith, from)) other;
    nodes = so.nodes;
  }

  more : n ≢ repo → AreCarriedTwo repo n mid now → AreCarriedTo (n + 1) repo was now
  more isn't two = record {
    count = two.count ∙ so.count;
    rest = λ a x at_a at_x.
        let m = get_or mid repo a in
        let step = two.first m (get_or was n a) x (mid_at a) (mid_next a) at_x in
        step.rest ∙ ap (λ z. with_links z x.parts.links) (so.rest a m at_a (mid_at a));
    links = λ a x at_a at_x.
        let m = get_or mid repo a in
        links_more a m x (get_or was n a) (so.links a m at_a (mid_at a)) (slice_get-get_or was n a in_n) (two.first m (get_or was n a) x (mid_at a) (mid_next a) at_x).links;
    done = λ i a b y below other at_a at_b at_y. elim (same_or_other i n) [
      | inl is ↦
          let m = get_or mid repo a in
          let was_b : slice_get was n ≡ Some b = ap (λ k. slice_get was k) (sym is) ∙ at_b in
          let mid_b : slice_get mid n ≡ Some b = so.later n (omega arith) isn't ∙ was_b in
          let now_y : slice_get now n ≡ Some y = ap (λ k. slice_get now k) (sym is) ∙ at_y in
          rw is (done_now a b m y (so.links a m at_a (mid_at a)) (two.second m b y (mid_at a) mid_b now_y))
      | inr apart ↦ so.done i a b y (below_next i n below apart) other at_a at_b (sym (two.others i other apart) ∙ at_y)
    ];
    later = λ i from other. two.others i other (λ e. omega (arith, from, e)) ∙ so.later i (omega (arith, from)) other;
    nodes = with.1;
  } where
    mid_at : (d : NodeView K) → slice_get mid repo ≡ Some (get_or mid repo d)
    mid_at d = slice_get-get_or mid repo d (omega (arith, in_repo, so.count))

    mid_next : (d : NodeView K) → slice_get mid n ≡ Some (get_or was n d)
    mid_next d = so.later n (omega arith) isn't ∙ slice_get-get_or was n d in_n

    links_more : (a m x z : NodeView K) → LinksCarriedTo n repo was a.parts.links m.parts.links → slice_get was n ≡ Some z → AreCarried repo n m.parts.links x.parts.links z.parts.links → LinksCarriedTo (n + 1) repo was a.parts.links x.parts.links
    links_more a m x z before at_z step = record {
      count = step.count ∙ before.count;
      carried = λ i y below other at_y slot client low. elim (same_or_other i n) [
        | inl is ↦
            let same : z ≡ y = same_Some z y (sym at_z ∙ (ap (λ k. slice_get was k) (sym is) ∙ at_y)) in
            rw is (step.carried slot client low
            ∙ (ap (λ (o : Option EndView). link_carried o (link_at z.parts.links (end_with repo slot (not client)))) (before.others (end_with n slot client) (inr (omega arith)))
            ∙ ap (λ (w : NodeView K). link_carried (link_at a.parts.links (end_with n slot client)) (link_at w.parts.links (end_with repo slot (not client)))) same))
        | inr apart ↦ step.others (end_with i slot client) apart ∙ before.carried i y (below_next i n below apart) other at_y slot client low
      ];
      others = λ w h. elim h [
        | inl at ↦ step.others w (λ e. isn't (sym e ∙ at)) ∙ before.others w (inl at)
        | inr from ↦ step.others w (λ e. omega (arith, from, e)) ∙ before.others w (inr (omega (arith, from)))
      ];
    }

    done_now : (a b m y : NodeView K) → LinksCarriedTo n repo was a.parts.links m.parts.links → IsCarried n repo m b y → IsCarried n repo a b y
    done_now a b m y before step = record {
      rest = step.rest;
      links = record {
        count = step.links.count;
        carried = λ slot client low. step.links.carried slot client low
            ∙ ap (λ (o : Option EndView). link_carried (link_at b.parts.links (end_with repo slot client)) o) (before.others (end_with n slot (not client)) (inr (omega arith)));
        others = step.links.others;
      };
    }

-- ---- all are done

-- what was carried, as the slice of a list is written back
pub written : {X : Type 0} (xs ys : List X) (n : ℕ) → n ≡ length xs → length ys ≡ length xs → take n (ys ++ drop (length ys) xs) ≡ ys
written xs ys n count same =
    ap (λ k. take n (ys ++ drop k xs)) same ∙ (ap (λ zs. take n (ys ++ zs)) (drop-length xs) ∙ (ap (take n) (append-nil ys) ∙ (ap (λ k. take k ys) (count ∙ sym same) ∙ take-length ys)))

pub other_carried : {K : Type 0} (repo : ℕ) (was now : List (NodeView K)) → repo < length was → AreCarriedTo (length was) repo was now → (i : ℕ) (n m : NodeView K) → i ≢ repo → slice_get was i ≡ Some n → slice_get now i ≡ Some m → m ≡ with_links n m.parts.links
other_carried repo was now there so i n m other at_n at_m =
    (so.done i (get_or was repo n) n m (slice_get_within was i n at_n) other (slice_get-get_or was repo n there) at_n at_m).rest

pub other_links : {K : Type 0} (repo : ℕ) (was now : List (NodeView K)) → AreCarriedTo (length was) repo was now → (i : ℕ) (node n m : NodeView K) → i ≢ repo → slice_get was repo ≡ Some node → slice_get was i ≡ Some n → slice_get now i ≡ Some m → AreCarried i repo n.parts.links m.parts.links node.parts.links
other_links repo was now so i node n m other at at_n at_m = (so.done i node n m (slice_get_within was i n at_n) other at at_n at_m).links

-- the links of the one node, by all others
pub all_carried : {K : Type 0} (repo : ℕ) (was now : List (NodeView K)) → AreCarriedTo (length was) repo was now → (n m : NodeView K) → slice_get was repo ≡ Some n → slice_get now repo ≡ Some m → AreAllCarried repo was n.parts.links m.parts.links
all_carried repo was now so n m at_n at_m =
    let links = so.links n m at_n at_m in
    record { count = links.count; carried = λ i x apart at. links.carried i x (slice_get_within was i x at) apart at; others = links.others }
