-- The peers that a drop chooses are other repositories.
use Rattle.std.proofs.Common.{◌≡◌, ℕ, ◌<◌, Bool, true, List, filter, Some, Result, Ok, Err, Vec, Global, sym, ap, subst, ◌∙◌, arith}
use Rattle.std.specs.Prelude.{IfOk, ◌==◌, not, find}
use Rattle.std.specs.List.{range_with_len}
use Rattle.annex_base.specs.Lists.{Each}
use Rattle.annex_base.proofs.Lists.{Each-both, Each-filter, Each-member, Each-passes, find_member}
use Rattle.annex_base.proofs.Numbers.{range_below}
use Rattle.annex_base.specs.declared.memory.NoMemory.{NoMemory}
use Rattle.annex_base.proofs.Conditions.{eqb_apart}
use Rattle.node_model.specs.Knows.{Reading}
use Rattle.drop_phases.specs.Worker.{Worker}
use Rattle.drop_phases.specs.Begun.{IsOther}
use Rattle.drop_judging.specs.Judging.{asks_of, others_in}

pub others_there : (r : Reading) → Each (IsOther r) (others_in r)
others_there r =
    Each-both (λ x. x < r.count) (λ x. not (x == r.repo) ≡ true) (IsOther r) (λ x there apart. (there, eqb_apart x r.repo apart)) (others_in r)
    (Each-filter (λ x. x < r.count) (λ x. not (x == r.repo)) (range_with_len 0 r.count) (range_below 0 r.count r.count (omega arith))) (Each-passes (λ x. not (x == r.repo)) (range_with_len 0 r.count))

pub found_other : (r : Reading) (w : Worker) (peer : ℕ) → find (asks_of r w) (others_in r) ≡ Some peer → IsOther r peer
found_other r w peer found = Each-member (IsOther r) (others_in r) peer (others_there r) (find_member (asks_of r w) (others_in r) peer found).0

-- ---- the peers that are told something at the end

pub chosen_others : (r : Reading) (p : ℕ → Bool) (cs : List ℕ) (result : Result (Vec ℕ Global) NoMemory) → cs ≡ others_in r → IfOk result (λ peers. peers.items ≡ filter p cs) → IfOk result (λ peers. Each (IsOther r) peers.items)
chosen_others r p cs (Ok peers) all is = subst (Each (IsOther r)) (sym (is ∙ ap (filter p) all)) (Each-filter (IsOther r) p (others_in r) (others_there r))
chosen_others r p cs (Err e) all is = tt
