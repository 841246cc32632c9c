-- The plan of a repository, as a fleet makes it: it is that of each driver that the fleet has come to, and each of its jobs may begin.
use Rattle.std.proofs.Common.{◌≡◌, ℕ, ◌+◌, ◌<◌, ◌≤◌, ◌^◌, Bool, true, false, List, [], ◌++◌, Some, get_or, length, map, filter, sym, ap, ◌∙◌, subst, arith}
use Rattle.std.specs.Prelude.{◌==◌, not, slice_get}
use Rattle.std.specs.List.{range_with_len}
use Rattle.std.proofs.lemmas.List.{length-map}
use Rattle.annex_base.specs.Lists.{Each}
use Rattle.annex_base.specs.Settings.{Settings}
use Rattle.annex_base.proofs.Conditions.{eqb_apart}
use Rattle.annex_base.proofs.Lists.{Each-always, Each-append, Each-both, Each-filter, Each-flat_map, Each-get_or, Each-map, Each-passes, Each-weaker}
use Rattle.annex_base.proofs.Numbers.{range_below}
use Rattle.annex_key.specs.Tree.{Entries, distinct_keys, paths_of}
use Rattle.union_merge.specs.Branch.{Files, lines_at}
use Rattle.trust_groups.specs.Settings.{settings}
use Rattle.run_data.specs.declared.entry.Entry.{Entry}
use Rattle.run_data.specs.declared.job.JobKind.{JobKind}
use Rattle.run_data.specs.declared.job.JobKind.TheVariants as kinds
use Rattle.run_data.specs.declared.run.RepoView.{RepoView}
use Rattle.run_data.specs.declared.run.Run.{Run}
use Rattle.run_model.specs.Logs.{lines_of_file, settings_of}
use Rattle.run_model.specs.Run.{tree_at}
use Rattle.run_data.specs.declared.run.TreeMark.{TreeMark}
use Rattle.run_paths.specs.Paths.{IndexView, with_marks}
use Rattle.wanted_rules.specs.declared.action.Action.{Action}
use Rattle.wanted_rules.specs.declared.action.Action.TheVariants.{Get, Put, DropHere, DropFrom}
use Rattle.wanted_rules.specs.Plan.{lacks, only_if, peers, plan, plan_of, repo_at, spares}
use Rattle.driver_model.specs.Driver.{Driver, DriverInput}
use Rattle.driver_model.specs.Syncs.{carries_out, job_for, plan_at}
use Rattle.fleet_entries.specs.Beginning.{MayBegin}
use Rattle.fleet_entries.specs.Nodes.{NodeView}
use Rattle.fleet_entries.specs.Paths.{HasPaths}
use Rattle.fleet_entries.specs.Stored.{StoreView}
use Rattle.fleet_entries.specs.Fleets.{FleetView}
use Rattle.fleet_entries.specs.AtDriver.{GoesOn, IsAtDriver, IsDriven}
use Rattle.fleet_entries.proofs.Driving.{entries_are}
use Rattle.fleet_entries.proofs.Ending.{Ends}
use Rattle.fleet_keys.specs.Jobs.{MayBeginAmong}

-- ---- jobs of a plan

-- the job of an action may begin at the repository of this number, among so many
abbrev pub MayCarry : ℕ → ℕ → Action → Type 0
MayCarry count r action = MayBeginAmong count r (job_for action)

-- a peer of the repository is another one of so many
abbrev IsPeer : ℕ → ℕ → ℕ → Type 0
IsPeer count r peer = (peer < count) × ((r == peer) ≡ false)

below_count : (count : ℕ) → Each (λ n. n < count) (range_with_len 0 count)
below_count count = let same : 0 + count ≡ count = omega arith in range_below 0 count count same

peers_are : (repos : List (List ℕ)) (r : ℕ) → Each (IsPeer (length repos) r) (peers repos r)
peers_are repos r =
    Each-both (λ n. n < length repos) (λ n. not (n == r) ≡ true) (IsPeer (length repos) r) (λ n below other. (below, eqb_apart n r other)) (peers repos r)
    (Each-filter (λ n. n < length repos) (λ n. not (n == r)) (range_with_len 0 (length repos)) (below_count (length repos)))
    (Each-passes (λ n. not (n == r)) (range_with_len 0 (length repos)))

peer_may : (count r peer : ℕ) (kind : JobKind) → IsPeer count r peer → (ids : List (List ℕ)) → length ids ≡ count → MayBegin (record { number = r; ids = ids }) kind (Some peer)
peer_may count r peer kind is ids many = (subst (λ (n : ℕ). peer < n) (sym many) is.0, is.1)

only_may : (P : Action → Type 0) (b : Bool) (action : Action) → P action → Each P (only_if b action)
only_may P true action may = (may, tt)
only_may P false action may = tt

-- those that a test picks among the actions for peers
peers_may : (repos : List (List ℕ)) (r : ℕ) (action : ℕ → Action) (passes : ℕ → Bool) → ((peer : ℕ) → IsPeer (length repos) r peer → MayCarry (length repos) r (action peer))
    → Each (MayCarry (length repos) r) (map action (filter passes (peers repos r)))
peers_may repos r action passes may =
    Each-map (MayCarry (length repos) r) action (filter passes (peers repos r))
    (Each-filter (λ peer. MayCarry (length repos) r (action peer)) passes (peers repos r)
    (Each-weaker (IsPeer (length repos) r) (λ peer. MayCarry (length repos) r (action peer)) may (peers repos r) (peers_are repos r)))

key_may : (s : Settings) (repos : List (List ℕ)) (r : ℕ) (key : List ℕ) (paths : List (List ℕ)) → Each (MayCarry (length repos) r) (plan_of s repos r key paths)
key_may s repos r key paths =
    Each-append (MayCarry (length repos) r) (gets ++ puts ++ drops) drops_from
    (Each-append (MayCarry (length repos) r) (gets ++ puts) drops
    (Each-append (MayCarry (length repos) r) gets puts (only_may (MayCarry (length repos) r) (lacks s key paths (repo_at repos r)) (Get key) (λ ids many. tt))
    (peers_may repos r (λ peer. Put key peer) (λ peer. lacks s key paths (repo_at repos peer)) (λ peer is. peer_may (length repos) r peer kinds.Copy is)))
    (only_may (MayCarry (length repos) r) (spares s key paths (repo_at repos r)) (DropHere key) (λ ids many. tt)))
    (peers_may repos r (λ peer. DropFrom key peer) (λ peer. spares s key paths (repo_at repos peer)) (λ peer is. peer_may (length repos) r peer kinds.Drop is))
  where
    gets : List Action
    gets = only_if (lacks s key paths (repo_at repos r)) (Get key)

    puts : List Action
    puts = map (λ peer. Put key peer) (filter (λ peer. lacks s key paths (repo_at repos peer)) (peers repos r))

    drops : List Action
    drops = only_if (spares s key paths (repo_at repos r)) (DropHere key)

    drops_from : List Action
    drops_from = map (λ peer. DropFrom key peer) (filter (λ peer. spares s key paths (repo_at repos peer)) (peers repos r))

plan_may : (s : Settings) (tree : Entries) (r : ℕ) (repos : List (List ℕ)) → Each (MayCarry (length repos) r) (plan s tree r repos)
unfolding plan
plan_may s tree r repos =
    Each-flat_map (MayCarry (length repos) r) (λ key. plan_of s repos r key (paths_of tree key)) (distinct_keys tree)
    (Each-always (λ key. Each (MayCarry (length repos) r) (plan_of s repos r key (paths_of tree key))) (λ key. key_may s repos r key (paths_of tree key)) (distinct_keys tree))

-- ---- the plan that a fleet makes

abbrev pub ids_of : Run → List (List ℕ)
ids_of run = map (λ (repo : RepoView). repo.id) run.repos

-- there are as many identifiers as nodes
pub ids_count : {K : Type 0} (tells : K → StoreView) (f : FleetView K) (ids : List (List ℕ)) → IsDriven tells f → ids ≡ ids_of f.run → length ids ≡ length f.nodes
ids_count tells f ids driven are =
    ap length are ∙ (length-map f.run.repos (λ (repo : RepoView). repo.id) ∙ (ap (λ (run : Run). length run.repos) driven.stands.come.run ∙ sym driven.stands.come.count))

pub ids_few : {K : Type 0} (tells : K → StoreView) (f : FleetView K) (ids : List (List ℕ)) → IsDriven tells f → ids ≡ ids_of f.run → length ids < 2 ^ 32
ids_few tells f ids driven are = small (length ids) (length driven.given.repos) (ids_count tells f ids driven are ∙ driven.stands.come.count) driven.repos
  where
    small : (n k : ℕ) → n ≡ k → k ≤ 16 → n < 2 ^ 32
    small n k same few = omega (arith, same, few)

-- each of its jobs may begin
pub may_begin_all : {K : Type 0} (tells : K → StoreView) (r : ℕ) (f : FleetView K) (s : Settings) (tree : Entries) (ids : List (List ℕ)) (actions : List Action) → IsDriven tells f → ids ≡ ids_of f.run → actions ≡ plan s tree r ids
    → Each (MayCarry (length f.nodes) r) actions
may_begin_all tells r f s tree ids actions driven are is =
    subst (Each (MayCarry (length f.nodes) r)) (sym is) (subst (λ (n : ℕ). Each (MayCarry n r) (plan s tree r ids)) (ids_count tells f ids driven are) (plan_may s tree r ids))

-- the tree of an index that has taken in all marks of the run
pub tree_taken : (run : Run) (index followed : IndexView) (marks : List TreeMark) (tree : Entries) → ((marks : List TreeMark) (place : ℕ) → Each (λ mark. mark.place ≤ place) marks → tree_at marks place ≡ with_marks [] marks)
    → HasPaths run index → marks ≡ run.tree → followed.tree ≡ with_marks [] marks → tree ≡ followed.tree → tree ≡ tree_at run.tree (length run.entries)
tree_taken run index followed marks tree law has are taken is = is ∙ (taken ∙ (ap (λ (ms : List TreeMark). with_marks [] ms) are ∙ sym (law run.tree (length run.entries) has.places)))

-- it is that of each driver that the fleet has come to
pub plan_is : {K : Type 0} (tells : K → StoreView) (r : ℕ) (f : FleetView K) (n : NodeView K) (s : Settings) (tree : Entries) (ids : List (List ℕ)) (actions : List Action)
    → ((past : List Entry) (r : ℕ) → settings (lines_of_file past r) ≡ settings_of past r) → slice_get f.nodes r ≡ Some n → s ≡ settings (lines_at n.branch) → tree ≡ tree_at f.run.tree (length f.run.entries)
    → ids ≡ ids_of f.run → actions ≡ plan s tree r ids → (g : DriverInput) (d : Driver) → IsAtDriver tells g d f → actions ≡ plan_at g r d
plan_is tells r f n s tree ids actions law at read taken are is g d stands = is ∙ (λ i. plan (settings_are i) (tree_is i) r (ids_are i))
  where
    settings_are : s ≡ settings_of d.past r
    settings_are = read ∙ (ap (λ (files : Files). settings (lines_at files)) (stands.come.each r n at).branch ∙ law d.past r)

    tree_is : tree ≡ tree_at d.tree (length d.past)
    tree_is = taken ∙ (ap (λ (run : Run). tree_at run.tree (length f.run.entries)) stands.come.run ∙ ap (tree_at d.tree) (entries_are tells g d f stands.come))

    ids_are : ids ≡ map (λ (repo : RepoView). repo.id) g.repos
    ids_are = are ∙ ap ids_of stands.come.run

-- ---- some actions of it are carried out

-- the fleet has made a plan, of which these were picked
pub record HasPlanned {K : Type 0} (tells : K → StoreView) (r : ℕ) (picks : Action → Bool) (was mid : FleetView K) (actions : List Action) : Type 0 where
  pub same : mid ≡ was
  pub are : (g : DriverInput) (d : Driver) → IsAtDriver tells g d was → actions ≡ filter picks (plan_at g r d)

pub planned_goes : {K : Type 0} (tells : K → StoreView) (r : ℕ) (picks : Action → Bool) (was mid after : FleetView K) (actions : List Action) → HasPlanned tells r picks was mid actions → GoesOn tells (λ g d. carries_out g r actions d) mid after
    → GoesOn tells (λ g d. carries_out g r (filter picks (plan_at g r d)) d) was after
planned_goes tells r picks was mid after actions has goes g d stands =
    subst (λ (xs : List Action). IsAtDriver tells g (carries_out g r xs d) after) (has.are g d stands) (goes g d (subst (IsAtDriver tells g d) (sym has.same) stands))

pub planned_ends : {K : Type 0} (tells : K → StoreView) (P : DriverInput → Driver → Run → Type 0) (r : ℕ) (picks : Action → Bool) (was mid after : FleetView K) (actions : List Action) → HasPlanned tells r picks was mid actions
    → Ends tells P (λ g d. carries_out g r actions d) mid after → Ends tells P (λ g d. carries_out g r (filter picks (plan_at g r d)) d) was after
planned_ends tells P r picks was mid after actions has ends g d stands =
    subst (λ (xs : List Action). P g (carries_out g r xs d) after.run) (has.are g d stands) (ends g d (subst (IsAtDriver tells g d) (sym has.same) stands))

-- those that are picked may begin
pub picked_may : (count r : ℕ) (picks : Action → Bool) (actions picked : List Action) → picked ≡ filter picks actions → Each (MayCarry count r) actions → Each (MayCarry count r) picked
picked_may count r picks actions picked is may = subst (Each (MayCarry count r)) (sym is) (Each-filter (MayCarry count r) picks actions may)

-- those of a plan still may
pub still_may : {K : Type 0} (r : ℕ) (was mid : FleetView K) (actions : List Action) → mid ≡ was → Each (MayCarry (length was.nodes) r) actions → Each (MayCarry (length mid.nodes) r) actions
still_may {K} r was mid actions same may = subst (λ (f : FleetView K). Each (MayCarry (length f.nodes) r) actions) (sym same) may

-- the job of each may begin, among as many repositories as there still are
pub may_carry_at : (count now r i : ℕ) (actions : List Action) (action : Action) → now ≡ count → i < length actions → action ≡ get_or actions i action → Each (MayCarry count r) actions → MayCarry now r action
may_carry_at count now r i actions action same within at may =
    subst (λ (n : ℕ). MayCarry n r action) (sym same) (subst (MayCarry count r) (sym at) (Each-get_or (MayCarry count r) actions i action within may))
