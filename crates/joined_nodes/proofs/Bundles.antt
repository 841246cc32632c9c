-- Whether a text is a bundle or not, the nodes stay joined.
use Rattle.std.proofs.Common.{◌≡◌, ◌≤◌, ◌+◌, ◌⊎◌, inl, inr, arith, ℕ, zero, suc, not, List, [], Option, Some, None, length, take}
use Rattle.std.specs.Prelude.{◌==◌, nat_le}
use Rattle.std.proofs.lemmas.Bool.{cases_Bool}
use Rattle.std.proofs.lemmas.Bool.Decides.{nat_tests}
use Rattle.std.specs.List.Sorted.{IsStrictlySortedBy}
use Rattle.link_ring.specs.Ends.{EndView}
use Rattle.node_ends.specs.Ends.{link_at}
use Rattle.node_ends.specs.Joined.{BothPaired, end_with}
use Rattle.repo_node.specs.Nodes.{NodeView}
use Rattle.joined_nodes.specs.Joined.{AreNodes}
use Rattle.union_merge.specs.Branch.{Files, IsBranch}
use Rattle.branch_bundle.specs.Bundle.{BeginsBundle, IsBundle, IsFirstWrong, bundle_text}

-- ---- a text is a bundle, or goes wrong somewhere: it can't be that neither holds

-- the law that each branch has a bundle
abbrev pub HasBundle : Type 0
HasBundle = (files : Files) → IsBranch files → IsBundle (bundle_text files) files

no_files : IsBranch []
unfolding IsStrictlySortedBy
no_files = record { sorted = tt; each = tt }

nothing_begins : HasBundle → BeginsBundle []
nothing_begins law = record { files = []; rest = bundle_text []; bytes = (omega arith, (omega arith, (omega arith, (omega arith, (omega arith, (omega arith, (omega arith, (omega arith, (omega arith, (omega arith, (omega arith, (omega arith, (omega arith, (omega arith, (omega arith, tt))))))))))))))); bundle = law [] no_files }

-- none goes wrong at a place from this one on
goes_on : (n : ℕ) (text : List ℕ) (place : ℕ) → n + place ≡ length text → BeginsBundle (take place text) → ((files : Files) → IsBundle text files → ⊥) → ((at : ℕ) → IsFirstWrong text at → ⊥) → ⊥
goes_on zero text place at begins none right =
    right place (record { inside = omega arith; none = none; before = begins; wrong = λ low. absurd (omega (arith, low, at)) })
goes_on (suc n) text place at begins none right =
    right place (record { inside = omega (arith, at); none = none; before = begins; wrong = λ low next. goes_on n text (place + 1) (omega (arith, at)) next none right })

pub told : HasBundle → (text : List ℕ) → ((((files : Files) × IsBundle text files) ⊎ ((at : ℕ) × IsFirstWrong text at)) → ⊥) → ⊥
told law text neither = goes_on (length text) text 0 (omega arith) (nothing_begins law) (λ files is. neither (inl (files, is))) (λ at wrong. neither (inr (at, wrong)))

-- ---- what can't fail to hold of nodes holds

eq_stable : (m n : ℕ) → ((m ≡ n → ⊥) → ⊥) → m ≡ n
eq_stable m n h = elim (cases_Bool (m == n)) [
  | inl is ↦ grind (arith, nat_tests)
  | inr isn't ↦ absurd (h (λ e. grind (arith, nat_tests)))
]

le_stable : (m n : ℕ) → ((m ≤ n → ⊥) → ⊥) → m ≤ n
le_stable m n h = elim (cases_Bool (nat_le m n)) [
  | inl is ↦ grind (arith, nat_tests)
  | inr isn't ↦ absurd (h (λ e. grind (arith, nat_tests)))
]

pair_stable : (o p : Option EndView) → ((BothPaired o p → ⊥) → ⊥) → BothPaired o p
pair_stable None p h = h (λ x. x)
pair_stable (Some a) None h = h (λ x. x)
pair_stable (Some a) (Some b) h = record {
  first = le_stable (length b.at_hand + length a.on_way) a.used (λ no. h (λ pair. no pair.first));
  second = le_stable (length a.at_hand + length b.on_way) b.used (λ no. h (λ pair. no pair.second));
}

pub nodes_stable : {K : Type 0} (nodes : List (NodeView K)) → ((AreNodes nodes → ⊥) → ⊥) → AreNodes nodes
nodes_stable nodes h = record {
  numbers = λ i n at. eq_stable n.setup.number i (λ no. h (λ all. no (all.numbers i n at)));
  counts = λ i n at. eq_stable (length n.setup.repos) (length nodes) (λ no. h (λ all. no (all.counts i n at)));
  joined = λ i j a b apart at_a at_b slot client low.
      pair_stable (link_at a.parts.links (end_with j slot client)) (link_at b.parts.links (end_with i slot (not client))) (λ no. h (λ all. no (all.joined i j a b apart at_a at_b slot client low)));
}
