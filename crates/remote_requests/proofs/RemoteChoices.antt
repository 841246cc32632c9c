-- The peers that a remote drop chooses are other repositories.
use Rattle.std.proofs.Common.{◌≡◌, ℕ, Bool, true, false, not, List, [], ◌∷◌, filter, Option, Some, None, Result, Ok, Err, Vec, Global, sym, ap, subst, ◌∙◌}
use Rattle.std.specs.Prelude.{IfOk, ◌==◌, ◌&&◌, find, if◌then◌else◌, nat_lt}
use Rattle.annex_base.specs.Lists.{Each}
use Rattle.annex_base.specs.declared.memory.NoMemory.{NoMemory}
use Rattle.annex_base.proofs.Lists.{Each-filter, Each-member, find_member}
use Rattle.drop_proof.specs.declared.rule.Side.TheVariants.{Remote}
use Rattle.node_model.specs.Ends.{End, EndName}
use Rattle.node_model.specs.Evidence.{but}
use Rattle.node_model.specs.Knows.{Reading}
use Rattle.drop_phases.specs.declared.phase.Ending.TheVariants as endings
use Rattle.drop_phases.specs.declared.phase.Phase.{Phase}
use Rattle.drop_phases.specs.declared.phase.Phase.TheVariants as phases
use Rattle.drop_phases.specs.Begun.{IsOther}
use Rattle.drop_phases.specs.Worker.{Worker}
use Rattle.drop_phases.specs.Sides.{HearsOwn}
use Rattle.drop_phases.specs.Working.{end_in, heard_in}
use Rattle.drop_phases.proofs.OwnCopies.{heard_unasked}
use Rattle.drop_judging.specs.Judging.{asks_of, is_owing, others_in}
use Rattle.drop_judging.proofs.Chosen.{others_there}
use Rattle.remote_requests.specs.Remote.{owed_at_end, owed_by, remote_candidates, target_room}

-- the next candidate, of a job that has heard of its own repository
pub found_remotely : (r : Reading) (w : Worker) (target peer : ℕ) → HearsOwn Remote r w → find (asks_of r w) (remote_candidates r target) ≡ Some peer → IsOther r peer
found_remotely r w target peer own found =
    let past : find (asks_of r w) (but target (others_in r)) ≡ Some peer = sym (ap (λ (b : Bool). if b then Some r.repo else find (asks_of r w) (but target (others_in r))) (heard_unasked (r.standing r.repo) (heard_in w.heard r.repo) own)) ∙ found in
    Each-member (IsOther r) (but target (others_in r)) peer (Each-filter (IsOther r) (λ x. not (x == target)) (others_in r) (others_there r)) (find_member (asks_of r w) (but target (others_in r)) peer past).0

-- ---- to which its next step may send more than a Close

pub one_other : (r : Reading) (peer : ℕ) (result : Result (Vec ℕ Global) NoMemory) → IsOther r peer → IfOk result (λ peers. peers.items ≡ peer ∷ []) → IfOk result (λ peers. Each (IsOther r) peers.items)
one_other r peer (Ok peers) other is = subst (Each (IsOther r)) (sym is) (other, tt)
one_other r peer (Err e) other is = tt

pub room_others : (r : Reading) (ends_at : EndName → End) (w : Worker) (target : ℕ) (end : Option ℕ) (result : Result (Vec ℕ Global) NoMemory) → IsOther r target → IfOk result (λ peers. peers.items ≡ target_room ends_at w target end)
    → IfOk result (λ peers. Each (IsOther r) peers.items)
room_others r ends_at w target end (Ok peers) other is = subst (Each (IsOther r)) (sym is) (go end)
  where
    room : (b : Bool) → Each (IsOther r) (if b then [] else target ∷ [])
    room true = tt
    room false = (other, tt)

    go : (end : Option ℕ) → Each (IsOther r) (target_room ends_at w target end)
    go None = (other, tt)
    go (Some end) = room ((ends_at (end_in w.slot target)).opened && nat_lt w.version 3)
room_others r ends_at w target end (Err e) other is = tt

owed_each : (r : Reading) (ph : Phase) (locked : List ℕ) → Each (IsOther r) locked → Each (IsOther r) (owed_by ph locked)
owed_each r (phases.Ends (endings.Lost true)) locked all = tt
owed_each r (phases.Ends (endings.Lost false)) locked all = all
owed_each r (phases.Ends (endings.OldProtocol version)) locked all = all
owed_each r (phases.Ends endings.StoreFault) locked all = all
owed_each r phases.Fresh locked all = all
owed_each r phases.Next locked all = all
owed_each r (phases.Opens peer) locked all = all
owed_each r (phases.Greets peer) locked all = all
owed_each r (phases.AsksLock peer since) locked all = all
owed_each r (phases.AsksLook peer) locked all = all
owed_each r phases.AsksTime locked all = all
owed_each r phases.Orders locked all = all
owed_each r phases.Removed locked all = all
owed_each r phases.Denied locked all = all
owed_each r (phases.Late time) locked all = all

pub owed_others : (r : Reading) (ends_at : EndName → End) (w : Worker) (result : Result (Vec ℕ Global) NoMemory) → IfOk result (λ peers. peers.items ≡ owed_at_end r ends_at w) → IfOk result (λ peers. Each (IsOther r) peers.items)
owed_others r ends_at w (Ok peers) is = subst (Each (IsOther r)) (sym is) (owed_each r w.phase (filter (is_owing ends_at w) (others_in r)) (Each-filter (IsOther r) (is_owing ends_at w) (others_in r) (others_there r)))
owed_others r ends_at w (Err e) is = tt
