-- A content that the script gives a repository, in its node and in the driver.
use Rattle.std.proofs.Common.{◌≡◌, ◌⊎◌, inl, inr, ℕ, zero, suc, ◌+◌, Bool, true, false, List, [], ◌∷◌, length, Option, Some, None, refl, sym, ap, ◌∙◌, subst}
use Rattle.std.specs.Prelude.{bytes_eq, find, if◌then◌else◌, map, slice_get}
use Rattle.std.specs.Option.{option_map, unwrap_or}
use Rattle.std.proofs.lemmas.Option.{same_Some}
use Rattle.std.proofs.lemmas.Iterator.Adapters.{option_map_id}
use Rattle.annex_base.specs.declared.kinds.Call.{Call}
use Rattle.annex_base.specs.declared.kinds.Call.TheVariants as calls
use Rattle.annex_base.proofs.Conditions.{bytes_eq-refl}
use Rattle.object_store.specs.Calls.{one_fewer}
use Rattle.object_store.specs.Stores.{Contents, Parts, with_at}
use Rattle.run_data.specs.declared.entry.By.TheVariants.{Script}
use Rattle.run_data.specs.declared.entry.EntryKind.TheVariants as kinds
use Rattle.run_data.specs.declared.run.RepoView.{RepoView}
use Rattle.run_data.specs.Repos.{id_of}
use Rattle.driver_model.specs.Driver.{Driver, DriverInput, answers, commits, drops_part, fails_at, notes, part_at, puts_part}
use Rattle.hash_dirs.specs.LogPath.{location_path}
use Rattle.run_data.specs.declared.entry.LogFile.TheVariants.{Location}
use Rattle.union_merge.specs.Branch.{lines_at, merged_file}
use Rattle.node_model.specs.OwedLines.{if_new, status_line}
use Rattle.driver_model.specs.ScriptSteps.{faults, has, is_busy, lines_of, logs_status, wall_of}
use Rattle.content_lock.specs.CallsMade.{MakesCalls}
use Rattle.joined_nodes.specs.Calls.{IsDoneBy, StopsAt, contents_at, node_at, parts_at, to_place}
use Rattle.joined_nodes.specs.Debts.{with_status}
use Rattle.joined_nodes.specs.Nodes.{NodeView, due_by, id_known, with_entry}
use Rattle.joined_nodes.specs.Placing.{IsPlaced, IsTaken, with_content, with_gain, with_placed}
use Rattle.joined_nodes.specs.Refusals.{RefusesSo}
use Rattle.joined_nodes.specs.Walks.{over}
use Rattle.node_past.specs.declared.refused.NodeRefused.TheVariants as refusals
use Rattle.fleet_model.specs.Stores.{IsStoreOf, IsTold, content_in}
use Rattle.joined_nodes.specs.Stored.{StoreView}
use Rattle.fleet_model.proofs.Failing.{answered, first_of_calls}
use Rattle.fleet_model.proofs.Noting.{HasEntriesOf, IsRaised, noted, noted_entry, over_store}
use Rattle.fleet_model.proofs.Storing.{kept_with, stored_with, stored_without}
use Rattle.fleet_model.proofs.StoreSteps.{part_dropped, told_at}

-- ---- stores

-- a part that was dropped and put anew
pub part_replaced : (d : Driver) (r : ℕ) (key bytes : List ℕ) (v w : StoreView) → IsStoreOf d r v → w.contents ≡ v.contents → w.parts ≡ option_map (λ p. with_at p key bytes) v.parts → w.failing ≡ v.failing
    → IsStoreOf (puts_part r key bytes (drops_part r key d)) r w
part_replaced d r key bytes v w is contents parts failing = record {
  contents = rw contents is.contents;
  parts = told_at v.parts w.parts key bytes (part_at d r) (part_at (puts_part r key bytes (drops_part r key d)) r) parts is.parts (λ k. go k (bytes_eq key k) refl);
  failing = rw failing is.failing;
} where
  put : (k : List ℕ) → part_at (puts_part r key bytes (drops_part r key d)) r k ≡ (if bytes_eq key k then bytes else part_at (drops_part r key d) r k)
  put k = stored_with (drops_part r key d).parts r key bytes k

  go : (k : List ℕ) (b : Bool) → bytes_eq key k ≡ b → (if bytes_eq key k then bytes else part_at d r k) ≡ part_at (puts_part r key bytes (drops_part r key d)) r k
  go k true e = ap (λ (b : Bool). if b then bytes else part_at d r k) e ∙ sym (put k ∙ ap (λ (b : Bool). if b then bytes else part_at (drops_part r key d) r k) e)
  go k false e =
      ap (λ (b : Bool). if b then bytes else part_at d r k) e
      ∙ sym (put k ∙ (ap (λ (b : Bool). if b then bytes else part_at (drops_part r key d) r k) e ∙ (stored_without d.parts r key k ∙ ap (λ (b : Bool). if b then [] else part_at d r k) e)))

-- the part holds these bytes, and is the content then
pub part_of_put : (d : Driver) (r : ℕ) (key bytes : List ℕ) → part_at (puts_part r key bytes d) r key ≡ bytes
part_of_put d r key bytes = stored_with d.parts r key bytes key ∙ ap (λ (b : Bool). if b then bytes else part_at d r key) (bytes_eq-refl key)

told_placed : (known known' : Option Contents) (parts : Option Parts) (key bytes : List ℕ) (f g : List ℕ → Option (List ℕ)) → known' ≡ with_content known parts key bytes
    → IsTold known (λ c. (k : List ℕ) → c k ≡ f k) → IsTold parts (λ p. (k : List ℕ) → p k ≡ p k) → ((k : List ℕ) → (if bytes_eq key k then Some bytes else f k) ≡ g k)
    → IsTold known' (λ c. (k : List ℕ) → c k ≡ g k)
told_placed None known' parts key bytes f g is told has same = absurd told
told_placed (Some c) known' None key bytes f g is told has same = absurd has
told_placed (Some c) known' (Some p) key bytes f g is told has same =
    subst (λ (o : Option Contents). IsTold o (λ c. (k : List ℕ) → c k ≡ g k)) (sym is)
    (λ k. ap (λ (y : Option (List ℕ)). if bytes_eq key k then Some bytes else y) (told k) ∙ same k)

there : (o : Option Parts) (f : List ℕ → List ℕ) → IsTold o (λ p. (k : List ℕ) → p k ≡ f k) → IsTold o (λ p. (k : List ℕ) → p k ≡ p k)
there None f told = told
there (Some p) f told = λ k. refl

pub content_placed : (d : Driver) (r : ℕ) (key bytes : List ℕ) (v w : StoreView) → IsStoreOf d r v → w.contents ≡ with_content v.contents v.parts key bytes → w.parts ≡ option_map (λ p. with_at p key []) v.parts
    → w.failing ≡ v.failing → IsStoreOf (commits r key (puts_part r key bytes (drops_part r key d))) r w
content_placed d r key bytes v w is contents parts failing = record {
  contents = told_placed v.contents w.contents v.parts key bytes (content_in d r) (content_in (commits r key put) r) contents is.contents (there v.parts (part_at d r) is.parts)
      (λ k. sym (kept_with d.contents r key (part_at put r key) k ∙ ap (λ (y : List ℕ). if bytes_eq key k then Some y else content_in d r k) (part_of_put (drops_part r key d) r key bytes)));
  parts = told_at v.parts w.parts key [] (part_at d r) (part_at (commits r key put) r) parts is.parts (λ k. go k (bytes_eq key k) refl);
  failing = rw failing is.failing;
} where
  put : Driver
  put = puts_part r key bytes (drops_part r key d)

  go : (k : List ℕ) (b : Bool) → bytes_eq key k ≡ b → (if bytes_eq key k then [] else part_at d r k) ≡ part_at (commits r key put) r k
  go k true e = ap (λ (b : Bool). if b then [] else part_at d r k) e ∙ sym (stored_without put.parts r key k ∙ ap (λ (b : Bool). if b then [] else part_at put r k) e)
  go k false e =
      ap (λ (b : Bool). if b then [] else part_at d r k) e
      ∙ sym (stored_without put.parts r key k ∙ (ap (λ (b : Bool). if b then [] else part_at put r k) e
      ∙ (stored_with (drops_part r key d).parts r key bytes k ∙ (ap (λ (b : Bool). if b then bytes else part_at (drops_part r key d) r k) e
      ∙ (stored_without d.parts r key k ∙ ap (λ (b : Bool). if b then [] else part_at d r k) e)))))

-- ---- the line that the log gets

id_is : (repos : List RepoView) (r : ℕ) → unwrap_or (slice_get (map (λ repo. repo.id) repos) r) [] ≡ id_of repos r
id_is [] r = refl
id_is (x ∷ xs) zero = refl
id_is (x ∷ xs) (suc r) = id_is xs r

known_id : {K : Type 0} (g : DriverInput) (d : Driver) (r : ℕ) (n : NodeView K) → HasEntriesOf g d r n → id_known n n.setup.number ≡ id_of g.repos r
known_id g d r n is =
    ap (λ (ids : List (List ℕ)). unwrap_or (slice_get ids n.setup.number) []) (sym is.setup.ids)
    ∙ (ap (λ (m : ℕ). unwrap_or (slice_get (map (λ repo. repo.id) g.repos) m) []) (sym is.setup.number) ∙ id_is g.repos r)

line_is : {K : Type 0} (tells : K → StoreView) (g : DriverInput) (d : Driver) (r : ℕ) (n : NodeView K) (key : List ℕ) → IsRaised tells g d r n
    → due_by n key n.setup.number true ≡ if_new (lines_of d r (Location key)) (status_line (lines_of d r (Location key)) (id_of g.repos r) true (wall_of g d r))
line_is {K} tells g d r n key raised =
    λ i. if_new (lines_at (raised.entries.branch i) (location_path key)) (status_line (lines_at (raised.entries.branch i) (location_path key)) (known_id g d r n raised.entries i) true (wall_is i))
  where
    wall_is : n.time + n.setup.offset ≡ wall_of g d r
    wall_is = λ i. raised.entries.time i + sym raised.entries.setup.offset i

logged_there : {K : Type 0} (tells : K → StoreView) (g : DriverInput) (d : Driver) (r : ℕ) (n : NodeView K) (key : List ℕ) (keeper : K) → IsRaised tells g d r n → fails_at d r calls.PutFile ≡ false
    → IsStoreOf d r (tells keeper) → IsRaised tells g (logs_status g r key d) r (with_status n keeper key n.setup.number true)
logged_there {K} tells g d r n key keeper raised calm store =
    subst (λ (b : Bool). IsRaised tells g (if b then faults r calls.PutFile d else noting new) r (with_status n keeper key n.setup.number true)) (sym calm)
    (subst (λ (lines : List (List ℕ)). IsRaised tells g (noting lines) r (with_status n keeper key n.setup.number true)) (line_is tells g d r n key raised)
    (noted tells g d d r n keeper (merged_file n.branch (location_path key) (due_by n key n.setup.number true)) (kinds.Log (Location key)) (due_by n key n.setup.number true) raised refl refl
    (record { contents = store.contents; parts = store.parts; failing = store.failing })))
  where
    new : List (List ℕ)
    new = if_new (lines_of d r (Location key)) (status_line (lines_of d r (Location key)) (id_of g.repos r) true (wall_of g d r))

    noting : List (List ℕ) → Driver
    noting lines = notes r (kinds.Log (Location key)) lines d

-- ---- all calls go well

-- none of these calls fails
pub none_first : (p : Call → Bool) (c : Call) (cs : List Call) → None ≡ find p (c ∷ cs) → (p c ≡ false) × (None ≡ find p cs)
none_first p c cs none = go (p c) refl
  where
    some : (x : Call) → None ≡ Some x → ⊥
    some x e = cc

    go : (b : Bool) → p c ≡ b → (p c ≡ false) × (None ≡ find p cs)
    go true e = absurd (some c (none ∙ ap (λ (b : Bool). if b then Some c else find p cs) e))
    go false e = (e, none ∙ ap (λ (b : Bool). if b then Some c else find p cs) e)

pub calm_left : (o o' : Option (Call → ℕ)) (cs : List Call) → MakesCalls cs None o o' → o' ≡ o
calm_left None o' cs made = made.left
calm_left (Some n) o' cs made = made.left

pub placed_well : {K : Type 0} (tells : K → StoreView) (g : DriverInput) (d : Driver) (r : ℕ) (n m : NodeView K) (key bytes : List ℕ) → IsRaised tells g d r n
    → ((taken : Bool) → IsTaken taken (tells n.keeper).contents n.parts.table key → taken ≡ is_busy g d r key)
    → IsPlaced key bytes (tells n.keeper).contents (tells n.keeper).parts (tells m.keeper).contents n m
    → IsDoneBy to_place key [] n.parts.table (tells n.keeper).contents (tells n.keeper).parts (tells m.keeper).parts (tells n.keeper).failing (tells m.keeper).failing
    → IsRaised tells g (has g r key bytes d) r m
placed_well {K} tells g d r n m key bytes raised busy placed done = go (is_busy g d r key) refl
  where
    v : StoreView
    v = tells n.keeper

    w : StoreView
    w = tells m.keeper

    calm : (b : Bool) → is_busy g d r key ≡ b → None ≡ find (fails_at d r) (to_place b)
    calm b e = first_of_calls d r (to_place b) v None w.failing raised.store (subst (λ (t : Bool). MakesCalls (to_place t) None v.failing w.failing) (busy done.taken done.told ∙ e) done.calls)

    left : w.failing ≡ v.failing
    left = calm_left v.failing w.failing (to_place done.taken) done.calls

    go : (b : Bool) → is_busy g d r key ≡ b → IsRaised tells g (has g r key bytes d) r m
    go true e =
        let has_well = (none_first (fails_at d r) calls.Has [] (calm true e)).0 in
        rw has_well (rw e (rw (placed.node ∙ ap (λ (t : Bool). if t then over m.keeper n else with_placed n m.keeper key (length bytes)) (busy placed.taken placed.told ∙ e))
        (over_store tells g d d r n m.keeper raised (record {
          contents = rw (placed.contents ∙ ap (λ (t : Bool). if t then v.contents else with_content v.contents v.parts key bytes) (busy placed.taken placed.told ∙ e)) raised.store.contents;
          parts = rw (done.parts ∙ ap (λ (t : Bool). if t then v.parts else option_map (λ p. with_at p key []) v.parts) (busy done.taken done.told ∙ e)) raised.store.parts;
          failing = rw left raised.store.failing;
        }) refl)))
    go false e =
        let c1 = none_first (fails_at d r) calls.Has (calls.DropPart ∷ calls.Append ∷ calls.Commit ∷ calls.PutFile ∷ []) (calm false e) in
        let c2 = none_first (fails_at d r) calls.DropPart (calls.Append ∷ calls.Commit ∷ calls.PutFile ∷ []) c1.1 in
        let c3 = none_first (fails_at d r) calls.Append (calls.Commit ∷ calls.PutFile ∷ []) c2.1 in
        let c4 = none_first (fails_at d r) calls.Commit (calls.PutFile ∷ []) c3.1 in
        let c5 = none_first (fails_at d r) calls.PutFile [] c4.1 in
        rw c1.0 (rw e (rw c2.0 (rw c3.0 (rw c4.0
        (rw (placed.node ∙ ap (λ (t : Bool). if t then over m.keeper n else with_placed n m.keeper key (length bytes)) (busy placed.taken placed.told ∙ e))
        (logged_there tells g gained r (with_gain n m.keeper key (length bytes)) key m.keeper
        (noted tells g d come r n m.keeper n.branch (kinds.Gain Script (length bytes) key) [] raised refl refl (record { contents = store.contents; parts = store.parts; failing = store.failing }))
        c5.0 (record { contents = store.contents; parts = store.parts; failing = store.failing })))))))
      where
        come : Driver
        come = commits r key (puts_part r key bytes (drops_part r key d))

        gained : Driver
        gained = notes r (kinds.Gain Script (length bytes) key) [] come

        store : IsStoreOf come r w
        store = content_placed d r key bytes v w raised.store
            (placed.contents ∙ ap (λ (t : Bool). if t then v.contents else with_content v.contents v.parts key bytes) (busy placed.taken placed.told ∙ e))
            (done.parts ∙ ap (λ (t : Bool). if t then v.parts else option_map (λ p. with_at p key []) v.parts) (busy done.taken done.told ∙ e)) left

-- ---- a call fails

pub some_first : (p : Call → Bool) (c : Call) (cs : List Call) (call : Call) → Some call ≡ find p (c ∷ cs) → ((p c ≡ true) × (call ≡ c)) ⊎ ((p c ≡ false) × (Some call ≡ find p cs))
some_first p c cs call some = go (p c) refl
  where
    go : (b : Bool) → p c ≡ b → ((p c ≡ true) × (call ≡ c)) ⊎ ((p c ≡ false) × (Some call ≡ find p cs))
    go true e = inl (e, same_Some call c (some ∙ ap (λ (b : Bool). if b then Some c else find p cs) e))
    go false e = inr (e, some ∙ ap (λ (b : Bool). if b then Some c else find p cs) e)

pub none_left : (p : Call → Bool) (call : Call) → Some call ≡ find p [] → ⊥
none_left p call e = cc

-- what a step that stopped at this call has done
pub record Stopped {K : Type 0} (key bytes : List ℕ) (v w : StoreView) (n m : NodeView K) (call : Call) : Type 0 where
  pub node : RefusesSo refusals.StoreFault call (node_at call key bytes n) m
  pub contents : w.contents ≡ contents_at call key bytes v.contents v.parts
  pub parts : w.parts ≡ option_map (parts_at call key bytes) v.parts
  pub left : w.failing ≡ option_map (one_fewer call) v.failing

-- the fault is the next entry of a driver that has changed beside its entries, over this store
pub fault_noted : {K : Type 0} (tells : K → StoreView) (g : DriverInput) (d d0 : Driver) (r : ℕ) (n m : NodeView K) (call : Call) (w : StoreView) (failing : Option (Call → ℕ)) → IsRaised tells g d r n → d0.past ≡ d.past
    → m ≡ with_entry n m.keeper n.branch (kinds.Fault call Script) [] → tells m.keeper ≡ w → w.failing ≡ option_map (one_fewer call) failing
    → IsStoreOf d0 r (record w { failing = failing }) → IsRaised tells g (faults r call d0) r m
fault_noted {K} tells g d d0 r n m call w failing raised same node told left store =
    subst (λ (x : NodeView K). IsRaised tells g (faults r call d0) r x) (sym node)
    (noted tells g d (answers r call d0) r n m.keeper n.branch (kinds.Fault call Script) [] raised same refl
    (subst (IsStoreOf (faults r call d0) r) (sym told) (record { contents = is.contents; parts = is.parts; failing = is.failing })))
  where
    is : IsStoreOf (answers r call d0) r w
    is = answered d0 r call (record w { failing = failing }) w store refl refl left

-- the same behind the entry that the content has come
fault_after : {K : Type 0} (tells : K → StoreView) (g : DriverInput) (d : Driver) (r : ℕ) (n m : NodeView K) (key bytes : List ℕ) (w : StoreView) (failing : Option (Call → ℕ)) → IsRaised tells g d r n
    → m ≡ with_entry (with_gain n n.keeper key (length bytes)) m.keeper n.branch (kinds.Fault calls.PutFile Script) [] → tells m.keeper ≡ w → w.failing ≡ option_map (one_fewer calls.PutFile) failing
    → IsStoreOf (commits r key (puts_part r key bytes (drops_part r key d))) r (record w { failing = failing })
    → IsRaised tells g (faults r calls.PutFile (notes r (kinds.Gain Script (length bytes) key) [] (commits r key (puts_part r key bytes (drops_part r key d))))) r m
fault_after {K} tells g d r n m key bytes w failing raised node told left store =
    subst (λ (x : NodeView K). IsRaised tells g (faults r calls.PutFile gained) r x) (sym node)
    (record {
      entries = noted_entry g gained (answers r calls.PutFile gained) r (with_gain n n.keeper key (length bytes)) m.keeper n.branch (kinds.Fault calls.PutFile Script) []
          (noted_entry g d come r n n.keeper n.branch (kinds.Gain Script (length bytes) key) [] raised.entries refl refl) refl refl;
      store = subst (IsStoreOf (faults r calls.PutFile gained) r) (sym told) (record { contents = is.contents; parts = is.parts; failing = is.failing });
    })
  where
    come : Driver
    come = commits r key (puts_part r key bytes (drops_part r key d))

    is : IsStoreOf (answers r calls.PutFile come) r w
    is = answered come r calls.PutFile (record w { failing = failing }) w store refl refl left

    gained : Driver
    gained = notes r (kinds.Gain Script (length bytes) key) [] (commits r key (puts_part r key bytes (drops_part r key d)))

pub placed_stopped : {K : Type 0} (tells : K → StoreView) (g : DriverInput) (d : Driver) (r : ℕ) (n m : NodeView K) (key bytes : List ℕ) → IsRaised tells g d r n
    → ((taken : Bool) → IsTaken taken (tells n.keeper).contents n.parts.table key → taken ≡ is_busy g d r key)
    → StopsAt to_place key bytes (tells n.keeper).contents (tells m.keeper).contents (tells n.keeper).parts (tells m.keeper).parts (tells n.keeper).failing (tells m.keeper).failing refusals.StoreFault n m
    → IsRaised tells g (has g r key bytes d) r m
placed_stopped {K} tells g d r n m key bytes raised busy stops = go (is_busy g d r key) refl
  where
    v : StoreView
    v = tells n.keeper

    w : StoreView
    w = tells m.keeper

    p : Call → Bool
    p = fails_at d r

    which : (b : Bool) → is_busy g d r key ≡ b → Some stops.call ≡ find p (to_place b)
    which b e = first_of_calls d r (to_place b) v (Some stops.call) w.failing raised.store (subst (λ (t : Bool). MakesCalls (to_place t) (Some stops.call) v.failing w.failing) (busy stops.taken stops.told ∙ e) stops.calls)

    at : (c : Call) → stops.call ≡ c → Stopped key bytes v w n m c
    at c e = subst (λ (c : Call). Stopped key bytes v w n m c) e (record { node = stops.refused; contents = stops.contents; parts = stops.parts; left = stops.calls.left })

    at_first : Stopped key bytes v w n m calls.Has → IsRaised tells g (faults r calls.Has d) r m
    at_first s = fault_noted tells g d d r n m calls.Has w v.failing raised refl s.node refl s.left
        (record { contents = rw s.contents raised.store.contents; parts = rw (s.parts ∙ option_map_id v.parts) raised.store.parts; failing = raised.store.failing })

    at_drop : Stopped key bytes v w n m calls.DropPart → IsRaised tells g (faults r calls.DropPart d) r m
    at_drop s = fault_noted tells g d d r n m calls.DropPart w v.failing raised refl s.node refl s.left
        (record { contents = rw s.contents raised.store.contents; parts = rw (s.parts ∙ option_map_id v.parts) raised.store.parts; failing = raised.store.failing })

    at_append : Stopped key bytes v w n m calls.Append → IsRaised tells g (faults r calls.Append (drops_part r key d)) r m
    at_append s = fault_noted tells g d (drops_part r key d) r n m calls.Append w v.failing raised refl s.node refl s.left
        (part_dropped d r key v (record w { failing = v.failing }) raised.store s.contents s.parts refl)

    at_commit : Stopped key bytes v w n m calls.Commit → IsRaised tells g (faults r calls.Commit (puts_part r key bytes (drops_part r key d))) r m
    at_commit s = fault_noted tells g d (puts_part r key bytes (drops_part r key d)) r n m calls.Commit w v.failing raised refl s.node refl s.left
        (part_replaced d r key bytes v (record w { failing = v.failing }) raised.store s.contents s.parts refl)

    come : Driver
    come = commits r key (puts_part r key bytes (drops_part r key d))

    gained : Driver
    gained = notes r (kinds.Gain Script (length bytes) key) [] come

    at_file : Stopped key bytes v w n m calls.PutFile → IsRaised tells g (faults r calls.PutFile gained) r m
    at_file s = fault_after tells g d r n m key bytes w v.failing raised s.node refl s.left
        (content_placed d r key bytes v (record w { failing = v.failing }) raised.store s.contents s.parts refl)

    go : (b : Bool) → is_busy g d r key ≡ b → IsRaised tells g (has g r key bytes d) r m
    go true e = elim (some_first p calls.Has [] stops.call (which true e)) [
      | inl h ↦ rw h.0 (at_first (at calls.Has h.1))
      | inr h ↦ absurd (none_left p stops.call h.1)
    ]
    go false e = elim (some_first p calls.Has (calls.DropPart ∷ calls.Append ∷ calls.Commit ∷ calls.PutFile ∷ []) stops.call (which false e)) [
      | inl h ↦ rw h.0 (at_first (at calls.Has h.1))
      | inr h ↦ elim (some_first p calls.DropPart (calls.Append ∷ calls.Commit ∷ calls.PutFile ∷ []) stops.call h.1) [
        | inl i ↦ rw h.0 (rw e (rw i.0 (at_drop (at calls.DropPart i.1))))
        | inr i ↦ elim (some_first p calls.Append (calls.Commit ∷ calls.PutFile ∷ []) stops.call i.1) [
          | inl j ↦ rw h.0 (rw e (rw i.0 (rw j.0 (at_append (at calls.Append j.1)))))
          | inr j ↦ elim (some_first p calls.Commit (calls.PutFile ∷ []) stops.call j.1) [
            | inl k ↦ rw h.0 (rw e (rw i.0 (rw j.0 (rw k.0 (at_commit (at calls.Commit k.1))))))
            | inr k ↦ elim (some_first p calls.PutFile [] stops.call k.1) [
              | inl l ↦ rw h.0 (rw e (rw i.0 (rw j.0 (rw k.0 (rw l.0 (at_file (at calls.PutFile l.1)))))))
              | inr l ↦ absurd (none_left p stops.call l.1)
            ]
          ]
        ]
      ]
    ]
