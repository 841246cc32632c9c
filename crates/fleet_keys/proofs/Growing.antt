-- No call that places a content or a part or begins a job takes an entry of a node away.
use Rattle.std.proofs.Common.{◌≡◌, ℕ, Bool, true, false, List, [], Result, Ok, Err, length, refl, sym, subst}
use Rattle.std.specs.Prelude.{if◌then◌else◌}
use Rattle.annex_base.specs.declared.kinds.Call.{Call}
use Rattle.run_data.specs.declared.job.Job.{Job}
use Rattle.fleet_entries.specs.Calls.{node_at}
use Rattle.fleet_entries.specs.Nodes.{NodeView}
use Rattle.fleet_entries.specs.Placing.{with_gain, with_placed}
use Rattle.fleet_entries.specs.Stored.{StoreView}
use Rattle.fleet_entries.specs.Walks.{over}
use Rattle.fleet_entries.specs.declared.BeginRefused.{BeginRefused}
use Rattle.annex_base.specs.declared.kinds.Call.TheVariants as calls
use Rattle.fleet_entries.proofs.Ended.{Answer}
use Rattle.fleet_keys.proofs.Beginning.{BeginsJob}
use Rattle.fleet_entries.proofs.Growing.{Grows, entry_grows, grows_as, grows_on, longer, refusal_grows}
use Rattle.fleet_keys.proofs.PartPlacing.{PlacesPart}
use Rattle.fleet_keys.proofs.Placing.{PlacesContent}

-- ---- contents, parts and jobs

placed_grow : {K : Type 0} (n : NodeView K) (keeper : K) (key : List ℕ) (size : ℕ) → Grows n (with_placed n keeper key size)
placed_grow n keeper key size = grows_on n (with_gain n keeper key size) (with_placed n keeper key size) (entry_grows n keeper n.branch _ []) (longer (with_gain n keeper key size).history _)

pub come_grows : {K : Type 0} (call : Call) (key bytes : List ℕ) (n : NodeView K) → Grows n (node_at call key bytes n)
come_grows calls.PutFile key bytes n = entry_grows n n.keeper n.branch _ []
come_grows call key bytes n = grows_as n n refl

pub place_grows : {K : Type 0} (tells : K → StoreView) (key bytes : List ℕ) (done : Answer) (n m : NodeView K) → PlacesContent tells key bytes done n m → Grows n m
place_grows tells key bytes (Ok x) n m is = go is.placed.taken is.placed.node
  where
    go : (taken : Bool) → m ≡ (if taken then over m.keeper n else with_placed n m.keeper key (length bytes)) → Grows n m
    go true e = subst (λ x. Grows n x) (sym e) (grows_as n n refl)
    go false e = subst (λ x. Grows n x) (sym e) (placed_grow n m.keeper key (length bytes))
place_grows tells key bytes (Err e) n m is =
    grows_on n (node_at is.stops.call key bytes n) m (come_grows is.stops.call key bytes n) (refusal_grows e is.stops.call (node_at is.stops.call key bytes n) m is.stops.refused)

pub part_grows : {K : Type 0} (tells : K → StoreView) (key bytes : List ℕ) (done : Answer) (n m : NodeView K) → PlacesPart tells key bytes done n m → Grows n m
part_grows tells key bytes (Ok x) n m is = subst (λ x. Grows n x) (sym is.node) (grows_as n n refl)
part_grows tells key bytes (Err e) n m is = refusal_grows e is.before.call n m is.before.refused

pub begin_grows : {K : Type 0} (job : Job) (paths : List (List ℕ)) (done : Result ℕ BeginRefused) (n m : NodeView K) → BeginsJob job paths done n m → Grows n m
begin_grows job paths (Ok number) n m is = subst (λ x. Grows n x) (sym is.ok) (entry_grows n n.keeper n.branch _ [])
begin_grows job paths (Err e) n m is = grows_as n m is.err
