-- What an auditor tells of an entry that may come is what the entry's drop knew.
use Rattle.std.proofs.Common.{◌≡◌, ℕ, ◌+◌, Bool, true, false, List, ◌∷◌, Option, Some, None, refl, sym, ap, subst, ◌∙◌}
use Rattle.std.specs.Prelude.{bytes_eq, if◌then◌else◌, option_map, reverse, slice_get}
use Rattle.annex_base.proofs.Conditions.{bytes_eq-true}
use Rattle.drop_proof.specs.declared.rule.Need.{Need}
use Rattle.run_data.specs.declared.entry.By.{By}
use Rattle.run_data.specs.declared.entry.By.TheVariants.{Script, Job as by_job, Peer}
use Rattle.run_data.specs.declared.entry.Entry.{Entry}
use Rattle.run_data.specs.declared.entry.EntryKind.{EntryKind}
use Rattle.run_data.specs.declared.entry.EntryKind.TheVariants.{Gone, Order}
use Rattle.run_data.specs.declared.run.Run.{Run}
use Rattle.run_model.specs.Frames.{taken_count, way_of}
use Rattle.run_model.specs.Run.{IsRun, RunStep, set_up}
use Rattle.run_model.specs.Safety.{removal_by}
use Rattle.audit_laws.specs.Proofs.{IsOrderFrame, TakesItsOrder, order_proof, proof_after, removal_proof, removed_proof}
use Rattle.run_audit.specs.Orders.{AreOrdersOf, IsKeptOf, after_order, name_on, name_sent, name_taken, proof_at}
use Rattle.run_audit.specs.Telling.{ordered_by, ordered_on, removed_by, taken_proof}
use Rattle.run_audit.specs.declared.orders.OrderName.{OrderName}
use Rattle.run_audit.specs.declared.orders.Ordered.{Ordered}
use Rattle.run_audit.specs.declared.orders.Orders.{Orders}
use Rattle.run_audit.proofs.Kept.{kept_order, kept_plain}
use Rattle.run_audit.proofs.Noted.{proof_for}

-- ---- the laws

-- the laws of the drops of a run's next entry
pub record DropLaws : Type 0 where
  pub removes : (run : Run) (e : Entry) (r j : ℕ) (key : List ℕ) → IsRun run → RunStep (set_up run) (reverse run.entries) e → e.repo ≡ Some r → e.kind ≡ Gone (by_job j) key
      → removed_proof run.repos (reverse run.entries) key e ≡ proof_after run r j
  pub obeys : (run : Run) (e : Entry) (r p slot : ℕ) (key : List ℕ) → IsRun run → RunStep (set_up run) (reverse run.entries) e → e.repo ≡ Some r → e.kind ≡ Gone (Peer p slot) key
      → TakesItsOrder run.repos (reverse run.entries) r key e
  pub orders : (run : Run) (e : Entry) (a j target : ℕ) (deadline : Option ℕ) (need : Need) (key : List ℕ) → IsRun run → RunStep (set_up run) (reverse run.entries) e → e.repo ≡ Some a
      → e.kind ≡ Order j target deadline need key → proof_after run a j ≡ Some (order_proof run.repos (reverse run.entries) a j target need)
  pub frames : (run : Run) (e : Entry) (a j target : ℕ) (deadline : Option ℕ) (need : Need) (key : List ℕ) → IsRun run → RunStep (set_up run) (reverse run.entries) e → e.repo ≡ Some a
      → e.kind ≡ Order j target deadline need key → IsOrderFrame (reverse run.entries) a e

module _ (laws : DropLaws) (run : Run) (lawful : IsRun run) (e : Entry) (step : RunStep (set_up run) (reverse run.entries) e) (repo : ℕ) (own : e.repo ≡ Some repo) (x : Orders)
    (kept : AreOrdersOf run.repos (reverse run.entries) x) where
  -- ---- removals

  -- an order's removal
  taken_is : (p slot : ℕ) (key : List ℕ) → e.kind ≡ Gone (Peer p slot) key → taken_proof x repo e.taken ≡ removed_proof run.repos (reverse run.entries) key e
  taken_is p slot key kind =
      let past = reverse run.entries in
      let t = laws.obeys run e repo p slot key lawful step own kind in
      let f = t.frame in
      let w = way_of repo f in
      let n = taken_count past w in
      let client : w.client ≡ f.peer = ap (λ (b : Bool). if b then f.peer else repo) t.goes_up in
      let server : w.server ≡ repo = ap (λ (b : Bool). if b then repo else f.peer) t.goes_up in
      let named : name_taken repo f ≡ name_on w (n + 1) = (λ i. record { client = sym client i; server = sym server i; slot = f.slot; epoch = f.epoch; seq = t.number_is i }) in
      let there : proof_at x (name_on w (n + 1)) ≡ Some (order_proof run.repos t.it.before w.client t.job repo t.need) =
      subst (λ (k : EntryKind). IsKeptOf run.repos w.client t.it.before k (proof_at x (name_on w (n + 1)))) t.order_is (kept w n t.it t.goes_up t.next) in
      ap (taken_proof x repo) t.takes ∙ ap (proof_at x) named ∙ there ∙ ap (λ m. Some (order_proof run.repos t.it.before m t.job repo t.need)) client ∙ sym t.proof_is

  -- of one key that it removes, by whom it may
  removal_is : (by : By) (k : List ℕ) → e.kind ≡ Gone by k → removed_by run x repo e (Gone by k) ≡ removed_proof run.repos (reverse run.entries) k e
  removal_is (by_job j) k kind = sym (laws.removes run e repo j k lawful step own kind)
  removal_is (Peer p slot) k kind = taken_is p slot k kind
  removal_is Script k kind = sym (ap (option_map (removal_proof run.repos)) (λ i. removal_by run.repos (reverse run.entries) k (own i) e.taken (kind i)))

  gone_other : (by : By) (k key : List ℕ) → e.kind ≡ Gone by k → bytes_eq k key ≡ false → None ≡ removed_proof run.repos (reverse run.entries) key e
  gone_other by k key kind off = sym (ap (option_map (removal_proof run.repos)) ((λ i. removal_by run.repos (reverse run.entries) key (own i) e.taken (kind i)) ∙ none by))
    where
      none : (by : By) → removal_by run.repos (reverse run.entries) key (Some repo) e.taken (Gone by k) ≡ None
      none (by_job j) = rw off refl
      none (Peer p slot) = rw off refl
      none Script = refl

  -- **the proof that is told is the removal's**
  pub proof_told : (key : List ℕ) → proof_for key e.kind (removed_by run x repo e e.kind) ≡ removed_proof run.repos (reverse run.entries) key e
  proof_told key = go e.kind refl
    where
      gone : (by : By) (k : List ℕ) → e.kind ≡ Gone by k → (b : Bool) → bytes_eq k key ≡ b → (if b then removed_by run x repo e (Gone by k) else None) ≡ removed_proof run.repos (reverse run.entries) key e
      gone by k kind true same = removal_is by k kind ∙ ap (λ (q : List ℕ). removed_proof run.repos (reverse run.entries) q e) (bytes_eq-true k key same)
      gone by k kind false off = gone_other by k key kind off

      go : (kind : EntryKind) → e.kind ≡ kind → proof_for key kind (removed_by run x repo e kind) ≡ removed_proof run.repos (reverse run.entries) key e
      go (Gone by k) is = gone by k is (bytes_eq k key) refl
      go kind is = sym (ap (option_map (removal_proof run.repos)) (λ i. removal_by run.repos (reverse run.entries) key (own i) e.taken (is i)))

  -- ---- orders

  no_order : (kind : EntryKind) → Type 0
  no_order kind = (j target : ℕ) (deadline : Option ℕ) (need : Need) (key : List ℕ) → kind ≡ Order j target deadline need key → ⊥

  plain : (y : Orders) (kind : EntryKind) → e.kind ≡ kind → ((j target : ℕ) (deadline : Option ℕ) (need : Need) (key : List ℕ) → kind ≡ Order j target deadline need key → ⊥)
      → ((name : OrderName) → proof_at y name ≡ proof_at x name) → AreOrdersOf run.repos (e ∷ reverse run.entries) y
  plain y kind is none same = kept_plain run.repos (reverse run.entries) e x kept (λ j target deadline need key it. none j target deadline need key (sym is ∙ it)) y same

  -- **what is kept after the entry**
  pub orders_after : (y : Orders) → ((name : OrderName) → proof_at y name ≡ after_order (ordered_by run repo e e.kind) name (proof_at x name)) → AreOrdersOf run.repos (e ∷ reverse run.entries) y
  orders_after y puts = go e.kind refl puts
    where
      order : (j target : ℕ) (deadline : Option ℕ) (need : Need) (key : List ℕ) → e.kind ≡ Order j target deadline need key
          → ((name : OrderName) → proof_at y name ≡ after_order (ordered_on repo (slice_get e.sent 0) (proof_after run repo j)) name (proof_at x name)) → AreOrdersOf run.repos (e ∷ reverse run.entries) y
      order j target deadline need key is has =
          let f = laws.frames run e repo j target deadline need key lawful step own is in
          let it : ordered_on repo (slice_get e.sent 0) (proof_after run repo j) ≡ Some (record { name = name_sent repo f.frame; proof = order_proof run.repos (reverse run.entries) repo j target need }) =
          (λ i. ordered_on repo (slice_get (f.alone i) 0) (laws.orders run e repo j target deadline need key lawful step own is i)) in
          kept_order run.repos (reverse run.entries) e x kept repo own f j target deadline need key is y (λ name. has name ∙ ap (λ (o : Option Ordered). after_order o name (proof_at x name)) it)

      go : (kind : EntryKind) → e.kind ≡ kind → ((name : OrderName) → proof_at y name ≡ after_order (ordered_by run repo e kind) name (proof_at x name)) → AreOrdersOf run.repos (e ∷ reverse run.entries) y
      go (Order j target deadline need key) is has = order j target deadline need key is has
      go kind is has = plain y kind is (λ j target deadline need key it. cc) has

-- an entry of another kind sends no order
pub no_order_by : (run : Run) (r : ℕ) (e : Entry) (kind : EntryKind) → ((j target : ℕ) (deadline : Option ℕ) (need : Need) (key : List ℕ) → kind ≡ Order j target deadline need key → ⊥) → None ≡ ordered_by run r e kind
no_order_by run r e (Order j target deadline need key) none = absurd (none j target deadline need key refl)
no_order_by run r e kind none = refl

-- and removes nothing
pub none_removed : (run : Run) (x : Orders) (r : ℕ) (e : Entry) (kind : EntryKind) → ((by : By) (key : List ℕ) → kind ≡ Gone by key → ⊥) → None ≡ removed_by run x r e kind
none_removed run x r e (Gone by key) none = absurd (none by key refl)
none_removed run x r e kind none = refl
