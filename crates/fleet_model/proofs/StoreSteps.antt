-- What a call of a store makes of contents and parts, in the store and in the driver.
use Rattle.std.proofs.Common.{◌≡◌, ◌≢◌, ℕ, List, [], Option, Some, None, sym, ap, ◌∙◌, subst}
use Rattle.std.specs.Prelude.{bytes_eq, if◌then◌else◌}
use Rattle.std.specs.Option.{option_map}
use Rattle.object_store.specs.Stores.{Contents, Parts, contents_after_commit, with_at}
use Rattle.content_lock.specs.Stored.{without_content}
use Rattle.driver_model.specs.Driver.{Driver, commits, drops_part, part_at, puts_part, removes_content}
use Rattle.fleet_model.specs.Stores.{IsStoreOf, IsTold, content_in}
use Rattle.joined_nodes.specs.Stored.{StoreView}
use Rattle.fleet_model.proofs.Storing.{kept_by_others, kept_by_others_without, kept_with, kept_without, stored_by_others, stored_by_others_without, stored_with, stored_without}

-- ---- told functions

pub told_at : {X : Type 0} (o o' : Option (List ℕ → X)) (key : List ℕ) (x : X) (f g : List ℕ → X) → o' ≡ option_map (λ p. with_at p key x) o → IsTold o (λ p. (k : List ℕ) → p k ≡ f k)
    → ((k : List ℕ) → (if bytes_eq key k then x else f k) ≡ g k) → IsTold o' (λ p. (k : List ℕ) → p k ≡ g k)
told_at None o' key x f g is told same = absurd told
told_at {X} (Some p) o' key x f g is told same =
    subst (λ (o : Option (List ℕ → X)). IsTold o (λ p. (k : List ℕ) → p k ≡ g k)) (sym is)
    (λ k. ap (λ (y : X). if bytes_eq key k then x else y) (told k) ∙ same k)

told_same : {X : Type 0} (o : Option (List ℕ → X)) (f g : List ℕ → X) → IsTold o (λ p. (k : List ℕ) → p k ≡ f k) → ((k : List ℕ) → f k ≡ g k) → IsTold o (λ p. (k : List ℕ) → p k ≡ g k)
told_same None f g told same = told
told_same (Some p) f g told same = λ k. told k ∙ same k

-- ---- parts

pub part_put : (d : Driver) (r : ℕ) (key bytes : List ℕ) (v w : StoreView) → IsStoreOf d r v → w.contents ≡ v.contents → w.parts ≡ option_map (λ p. with_at p key bytes) v.parts → w.failing ≡ v.failing
    → IsStoreOf (puts_part r key bytes d) r w
part_put d r key bytes v w is contents parts failing = record {
  contents = rw contents is.contents;
  parts = told_at v.parts w.parts key bytes (part_at d r) (part_at (puts_part r key bytes d) r) parts is.parts (λ k. sym (stored_with d.parts r key bytes k));
  failing = rw failing is.failing;
}

pub part_dropped : (d : Driver) (r : ℕ) (key : List ℕ) (v w : StoreView) → IsStoreOf d r v → w.contents ≡ v.contents → w.parts ≡ option_map (λ p. with_at p key []) v.parts → w.failing ≡ v.failing
    → IsStoreOf (drops_part r key d) r w
part_dropped d r key v w is contents parts failing = record {
  contents = rw contents is.contents;
  parts = told_at v.parts w.parts key [] (part_at d r) (part_at (drops_part r key d) r) parts is.parts (λ k. sym (stored_without d.parts r key k));
  failing = rw failing is.failing;
}

-- ---- contents

committed : (known known' : Option Contents) (parts : Option Parts) (key : List ℕ) (f g : List ℕ → Option (List ℕ)) (h : List ℕ → List ℕ) → known' ≡ contents_after_commit known parts key
    → IsTold known (λ c. (k : List ℕ) → c k ≡ f k) → IsTold parts (λ p. (k : List ℕ) → p k ≡ h k) → ((k : List ℕ) → (if bytes_eq key k then Some (h key) else f k) ≡ g k)
    → IsTold known' (λ c. (k : List ℕ) → c k ≡ g k)
committed None known' parts key f g h is told has same = absurd told
committed (Some c) known' None key f g h is told has same = absurd has
committed (Some c) known' (Some p) key f g h is told has same =
    subst (λ (o : Option Contents). IsTold o (λ c. (k : List ℕ) → c k ≡ g k)) (sym is)
    (λ k. ap (λ (y : Option (List ℕ)). if bytes_eq key k then Some (p key) else y) (told k) ∙ (ap (λ (y : List ℕ). if bytes_eq key k then Some y else f k) (has key) ∙ same k))

pub part_committed : (d : Driver) (r : ℕ) (key : List ℕ) (v w : StoreView) → IsStoreOf d r v → w.contents ≡ contents_after_commit v.contents v.parts key → w.parts ≡ option_map (λ p. with_at p key []) v.parts
    → w.failing ≡ v.failing → IsStoreOf (commits r key d) r w
part_committed d r key v w is contents parts failing = record {
  contents = committed v.contents w.contents v.parts key (content_in d r) (content_in (commits r key d) r) (part_at d r) contents is.contents is.parts (λ k. sym (kept_with d.contents r key (part_at d r key) k));
  parts = told_at v.parts w.parts key [] (part_at d r) (part_at (commits r key d) r) parts is.parts (λ k. sym (stored_without d.parts r key k));
  failing = rw failing is.failing;
}

pub content_removed : (d : Driver) (r : ℕ) (key : List ℕ) (v w : StoreView) → IsStoreOf d r v → w.contents ≡ without_content v.contents key → w.parts ≡ v.parts → w.failing ≡ v.failing
    → IsStoreOf (removes_content r key d) r w
content_removed d r key v w is contents parts failing = record {
  contents = told_at v.contents w.contents key None (content_in d r) (content_in (removes_content r key d) r) contents is.contents (λ k. sym (kept_without d.contents r key k));
  parts = rw parts is.parts;
  failing = rw failing is.failing;
}

-- ---- the stores of others

pub put_elsewhere : (d : Driver) (r q : ℕ) (key bytes : List ℕ) (v : StoreView) → q ≢ r → IsStoreOf d q v → IsStoreOf (puts_part r key bytes d) q v
put_elsewhere d r q key bytes v apart is = record {
  contents = is.contents;
  parts = told_same v.parts (part_at d q) (part_at (puts_part r key bytes d) q) is.parts (λ k. sym (stored_by_others d.parts r q key bytes k apart));
  failing = is.failing;
}

pub dropped_elsewhere : (d : Driver) (r q : ℕ) (key : List ℕ) (v : StoreView) → q ≢ r → IsStoreOf d q v → IsStoreOf (drops_part r key d) q v
dropped_elsewhere d r q key v apart is = record {
  contents = is.contents;
  parts = told_same v.parts (part_at d q) (part_at (drops_part r key d) q) is.parts (λ k. sym (stored_by_others_without d.parts r q key k apart));
  failing = is.failing;
}

pub committed_elsewhere : (d : Driver) (r q : ℕ) (key : List ℕ) (v : StoreView) → q ≢ r → IsStoreOf d q v → IsStoreOf (commits r key d) q v
committed_elsewhere d r q key v apart is = record {
  contents = told_same v.contents (content_in d q) (content_in (commits r key d) q) is.contents (λ k. sym (kept_by_others d.contents r q key (part_at d r key) k apart));
  parts = told_same v.parts (part_at d q) (part_at (commits r key d) q) is.parts (λ k. sym (stored_by_others_without d.parts r q key k apart));
  failing = is.failing;
}

pub removed_elsewhere : (d : Driver) (r q : ℕ) (key : List ℕ) (v : StoreView) → q ≢ r → IsStoreOf d q v → IsStoreOf (removes_content r key d) q v
removed_elsewhere d r q key v apart is = record {
  contents = told_same v.contents (content_in d q) (content_in (removes_content r key d) q) is.contents (λ k. sym (kept_by_others_without d.contents r q key k apart));
  parts = is.parts;
  failing = is.failing;
}
