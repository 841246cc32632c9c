-- One more entry of a repository that takes and sends nothing, in its node and in the driver.
use Rattle.std.proofs.Common.{◌≡◌, ℕ, ◌+◌, Bool, true, false, List, [], ◌∷◌, ◌++◌, Some, None, sym, ap, ◌∙◌, subst, le_of_eq}
use Rattle.std.specs.Prelude.{cond, filter, if◌then◌else◌, reverse}
use Rattle.std.proofs.lemmas.Grind.{reverse_onto}
use Rattle.annex_base.specs.Lists.{Each}
use Rattle.annex_base.proofs.Conditions.{eqb_refl}
use Rattle.run_data.specs.declared.entry.Entry.{Entry}
use Rattle.run_data.specs.declared.entry.EntryKind.{EntryKind}
use Rattle.union_merge.specs.Branch.{Files}
use Rattle.run_model.specs.Logs.{branch, branch_after}
use Rattle.run_model.specs.Past.{is_of, now}
use Rattle.driver_model.specs.Driver.{Driver, DriverInput, entry, newest_count, notes, set_up_of}
use Rattle.joined_nodes.specs.Running.{given_of, words_at}
use Rattle.link_flights.specs.Heard.{HeardSo}
use Rattle.joined_nodes.specs.Nodes as nodes
use Rattle.joined_nodes.specs.Nodes.{NodeView, next_entry, with_entry}
use Rattle.joined_nodes.specs.Walks.{over}
use Rattle.fleet_model.specs.Fleets.{HasGiven, IsNodeOf}
use Rattle.fleet_model.specs.Stores.{IsStoreOf}
use Rattle.joined_nodes.specs.Stored.{StoreView}

-- ---- the entries of a repository

pub own_more : (r : ℕ) (e : Entry) (past : List Entry) → is_of r e ≡ true → reverse (filter (is_of r) (e ∷ past)) ≡ reverse (filter (is_of r) past) ++ e ∷ []
own_more r e past own =
    ap (λ (b : Bool). reverse (cond b (e ∷ filter (is_of r) past) (filter (is_of r) past))) own ∙ reverse_onto (filter (is_of r) past) e []

pub others_stay : (q : ℕ) (e : Entry) (past : List Entry) → is_of q e ≡ false → filter (is_of q) (e ∷ past) ≡ filter (is_of q) past
others_stay q e past other = ap (λ (b : Bool). cond b (e ∷ filter (is_of q) past) (filter (is_of q) past)) other

-- ---- the node that makes it

same_entry : {K : Type 0} (d : Driver) (r : ℕ) (n : NodeView K) (kind : EntryKind) (lines : List (List ℕ)) → r ≡ n.setup.number → n.time ≡ now d.past → n.count ≡ newest_count d.past
    → next_entry n kind lines ≡ entry d r kind lines
same_entry d r n kind lines number time count =
    λ i. record { time = time i; count = count i + 1; repo = Some (sym number i); kind = kind; taken = None; sent = []; lines = lines }

-- the node is what the driver says of r, but for its store, and knows the time and the count of the newest entry
pub record HasEntriesOf {K : Type 0} (g : DriverInput) (d : Driver) (r : ℕ) (n : NodeView K) : Type 0 where
  pub setup : nodes.MatchesSetup n.setup (set_up_of g d r)
  pub history : n.history ≡ reverse (filter (is_of r) d.past)
  pub branch : n.branch ≡ branch d.past r
  pub time : n.time ≡ now d.past
  pub count : n.count ≡ newest_count d.past

-- so, with its store
pub record IsRaised {K : Type 0} (tells : K → StoreView) (g : DriverInput) (d : Driver) (r : ℕ) (n : NodeView K) : Type 0 where
  pub entries : HasEntriesOf g d r n
  pub store : IsStoreOf d r (tells n.keeper)

pub is_node : {K : Type 0} (tells : K → StoreView) (g : DriverInput) (d : Driver) (r : ℕ) (n : NodeView K) → IsRaised tells g d r n → HeardSo d.past r (words_at n.parts.jobs.running)
    → Each (λ j. HasGiven d r (given_of j)) n.parts.jobs.running → IsNodeOf tells g d r n
is_node tells g d r n raised heard paths = record {
  setup = raised.entries.setup;
  history = raised.entries.history;
  branch = raised.entries.branch;
  store = raised.store;
  time = le_of_eq raised.entries.time;
  count = le_of_eq raised.entries.count;
  heard = heard;
  paths = paths;
}

-- the driver may have changed beside its entries before
pub noted_entry : {K : Type 0} (g : DriverInput) (d d0 : Driver) (r : ℕ) (n : NodeView K) (keeper : K) (files : Files) (kind : EntryKind) (lines : List (List ℕ))
    → HasEntriesOf g d r n → d0.past ≡ d.past → files ≡ branch_after n.branch kind lines → HasEntriesOf g (notes r kind lines d0) r (with_entry n keeper files kind lines)
noted_entry g d d0 r n keeper files kind lines node same file =
    let e : Entry = entry d0 r kind lines in
    let own : is_of r e ≡ true = eqb_refl r in
    let time0 : n.time ≡ now d0.past = node.time ∙ ap now (sym same) in
    let count0 : n.count ≡ newest_count d0.past = node.count ∙ ap newest_count (sym same) in
    let is_entry : next_entry n kind lines ≡ e = same_entry d0 r n kind lines node.setup.number time0 count0 in
    record {
      setup = record { number = node.setup.number; ids = node.setup.ids; offset = node.setup.offset; version = node.setup.version; locks = node.setup.locks };
      history = ap (λ (x : Entry). n.history ++ x ∷ []) is_entry
          ∙ (ap (λ (xs : List Entry). xs ++ e ∷ []) (node.history ∙ ap (λ (past : List Entry). reverse (filter (is_of r) past)) (sym same)) ∙ sym (own_more r e d0.past own));
      branch = file ∙ (ap (λ (f : Files). branch_after f kind lines) (node.branch ∙ ap (λ (past : List Entry). branch past r) (sym same))
          ∙ sym (ap (λ (b : Bool). if b then branch_after (branch d0.past r) kind lines else branch d0.past r) own));
      time = time0;
      count = ap (λ (c : ℕ). c + 1) count0;
    }

pub noted : {K : Type 0} (tells : K → StoreView) (g : DriverInput) (d d0 : Driver) (r : ℕ) (n : NodeView K) (keeper : K) (files : Files) (kind : EntryKind) (lines : List (List ℕ))
    → IsRaised tells g d r n → d0.past ≡ d.past → files ≡ branch_after n.branch kind lines → IsStoreOf (notes r kind lines d0) r (tells keeper)
    → IsRaised tells g (notes r kind lines d0) r (with_entry n keeper files kind lines)
noted tells g d d0 r n keeper files kind lines raised same file store = record { entries = noted_entry g d d0 r n keeper files kind lines raised.entries same file; store = store }

-- the node over another store
pub over_store : {K : Type 0} (tells : K → StoreView) (g : DriverInput) (d d' : Driver) (r : ℕ) (n : NodeView K) (keeper : K) → IsRaised tells g d r n → IsStoreOf d' r (tells keeper)
    → d' ≡ record d { contents = d'.contents; parts = d'.parts; largest = d'.largest } → IsRaised tells g d' r (over keeper n)
over_store {K} tells g d d' r n keeper is store but =
    subst (λ (x : Driver). IsRaised tells g x r (over keeper n)) (sym but)
    (record {
      entries = record {
        setup = record { number = is.entries.setup.number; ids = is.entries.setup.ids; offset = is.entries.setup.offset; version = is.entries.setup.version; locks = is.entries.setup.locks };
        history = is.entries.history;
        branch = is.entries.branch;
        time = is.entries.time;
        count = is.entries.count;
      };
      store = subst (λ (x : Driver). IsStoreOf x r (tells keeper)) but store;
    })
