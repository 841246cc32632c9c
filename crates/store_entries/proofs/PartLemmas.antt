-- The parts of a store after a step of the script.
use Rattle.std.proofs.Common.{◌≡◌, ℕ, Bool, false, List, [], ◌++◌, Option, Some, None, Result, Ok, Err, OnOk, OnErr, IfErr, option_map, is_some, bytes_eq, refl, sym, subst, ◌∙◌, if◌then◌else◌, ap}
use Rattle.std.proofs.lemmas.Bool.{false≢true}
use Rattle.std.proofs.lemmas.Option.{none-some, same_Some}
use Rattle.annex_base.proofs.Conditions.{by_test, bytes_eq-refl, bytes_eq-true}
use Rattle.object_store.specs.Stores.{Parts, with_at}
use Rattle.run_data.specs.declared.entry.By.{By}
use Rattle.run_data.specs.declared.entry.By.TheVariants.{Script}
use Rattle.annex_base.specs.declared.kinds.Call.{Call}
use Rattle.annex_base.specs.declared.kinds.Call.TheVariants.{Commit}
use Rattle.content_lock.specs.Rows.{Rows, is_filling}
use Rattle.node_past.specs.declared.past.Past.{Past}
use Rattle.node_past.specs.declared.refused.NodeRefused.{NodeRefused}
use Rattle.node_past.specs.Pasts.{FailsAtScripts, FailsFor, SamePast}
use Rattle.store_entries.specs.Placing.{HasPart, LeavesFilled, LeavesOthers}
use Rattle.node_past.proofs.PastLemmas.{fails_after, same_after}

-- ---- the key's part

absent_part : (key bytes : List ℕ) (p : Option Parts) → p ≡ None → HasPart key bytes None p
absent_part key bytes p none = record { tells = ap is_some none; bytes_are = λ now told. absurd (none-some now (sym none ∙ told)); others = λ was told. absurd (none-some was told) }

there_part : (key bytes : List ℕ) (f g : Parts) (p : Option Parts) → p ≡ Some (with_at g key (g key ++ bytes)) → g ≡ with_at f key [] → HasPart key bytes (Some f) p
there_part key bytes f g p is from = record {
  tells = ap is_some is;
  bytes_are = λ now told.
      ap (λ (x : Parts). x key) (sym (same_Some _ now (sym is ∙ told))) ∙ ap (λ (t : Bool). if t then (g key ++ bytes) else g key) (bytes_eq-refl key)
      ∙ ap (λ (x : Parts). x key ++ bytes) from ∙ ap (λ (t : Bool). (if t then [] else f key) ++ bytes) (bytes_eq-refl key);
  others = λ was known now told k other.
      ap (λ (x : Parts). x k) (sym (same_Some _ now (sym is ∙ told))) ∙ ap (λ (t : Bool). if t then (g key ++ bytes) else g k) other
      ∙ ap (λ (x : Parts). x k) from ∙ ap (λ (t : Bool). if t then [] else f k) other ∙ ap (λ (x : Parts). x k) (same_Some f was known);
}

pub part_brought : (key bytes : List ℕ) (p p1 p2 : Option Parts) → p1 ≡ option_map (λ (f : Parts). with_at f key []) p → p2 ≡ option_map (λ (f : Parts). with_at f key (f key ++ bytes)) p1 → HasPart key bytes p p2
part_brought key bytes None p1 p2 first second = absent_part key bytes p2 (second ∙ ap (option_map (λ (f : Parts). with_at f key (f key ++ bytes))) first)
part_brought key bytes (Some f) p1 p2 first second =
    there_part key bytes f (with_at f key []) p2 (second ∙ ap (option_map (λ (f : Parts). with_at f key (f key ++ bytes))) first) refl

-- ---- the parts of other keys

pub others_same : (key : List ℕ) (p q : Option Parts) → q ≡ p → LeavesOthers key p q
others_same key p q same = record { tells = ap is_some same; others = λ f known g told k other. ap (λ (x : Parts). x k) (same_Some g f (sym told ∙ same ∙ known)) }

pub others_at : (key : List ℕ) (new : Parts → List ℕ) (p q : Option Parts) → q ≡ option_map (λ (f : Parts). with_at f key (new f)) p → LeavesOthers key p q
others_at key new None q is = record { tells = ap is_some is; others = λ f known. absurd (none-some f known) }
others_at key new (Some f) q is = record {
  tells = ap is_some is;
  others = λ f' known g told k other.
      ap (λ (x : Parts). x k) (sym (same_Some _ g (sym is ∙ told))) ∙ ap (λ (t : Bool). if t then new f else f k) other ∙ ap (λ (x : Parts). x k) (same_Some f f' known);
}

pub others_changed : {X E : Type 0} (r : Result X E) (key : List ℕ) (new : Parts → List ℕ) (p q : Option Parts) → OnOk r (q ≡ option_map (λ (f : Parts). with_at f key (new f)) p) → OnErr r (q ≡ p) → LeavesOthers key p q
others_changed (Ok x) key new p q ok err = others_at key new p q ok
others_changed (Err e) key new p q ok err = others_same key p q err

-- a key that isn't filled is none of those that are
pub filled_left : (rows : Rows) (key : List ℕ) (p q : Option Parts) → is_filling rows key ≡ false → LeavesOthers key p q → LeavesFilled rows p q
filled_left rows key p q free leaves = record {
  tells = leaves.tells;
  filled = λ f known g told k fills. by_test (bytes_eq key k)
      (λ b. absurd (false≢true (sym free ∙ ap (is_filling rows) (bytes_eq-true key k b) ∙ fills)))
      (λ b. leaves.others f known g told k b);
}

pub filled_brought : (rows : Rows) (key : List ℕ) (p p' q : Option Parts) → p' ≡ p → is_filling rows key ≡ false → LeavesOthers key p' q → LeavesFilled rows p q
filled_brought rows key p p' q same free leaves = subst (λ (x : Option Parts). LeavesFilled rows x q) same (filled_left rows key p' q free leaves)

-- ---- a node is kept

pub on_err : {X E : Type 0} {P : Type 0} (r : Result X E) → P → OnErr r P
on_err (Ok x) p = tt
on_err (Err e) p = p

-- ---- refusals one after another

pub ready_stops : (r : Result (Unit {0}) NodeRefused) (was now : Past) → IfErr r (λ e. (by : By) (call : Call) → FailsFor by e call was now) → IfErr r (λ e. FailsAtScripts e was now)
ready_stops (Ok x) was now fails = tt
ready_stops (Err e) was now fails = record { call = Commit; scripts = refl; fails = fails Script Commit }

pub stops_later : {X : Type 0} (r : Result X NodeRefused) (was mid now : Past) → SamePast was mid → IfErr r (λ e. FailsAtScripts e mid now) → IfErr r (λ e. FailsAtScripts e was now)
stops_later (Ok x) was mid now same fails = tt
stops_later (Err e) was mid now same fails = record { call = fails.call; scripts = fails.scripts; fails = fails_after Script e fails.call was mid now same fails.fails }

pub same_later : {X : Type 0} (r : Result X NodeRefused) (was mid now : Past) → SamePast was mid → OnOk r (SamePast mid now) → OnOk r (SamePast was now)
same_later (Ok x) was mid now first second = same_after was mid now first second
same_later (Err e) was mid now first second = tt

pub part_later : {X : Type 0} (r : Result X NodeRefused) (key bytes : List ℕ) (p p1 p2 : Option Parts) → p1 ≡ option_map (λ (f : Parts). with_at f key []) p → OnOk r (p2 ≡ option_map (λ (f : Parts). with_at f key (f key ++ bytes)) p1) → OnOk r (HasPart key bytes p p2)
part_later (Ok x) key bytes p p1 p2 first second = part_brought key bytes p p1 p2 first second
part_later (Err e) key bytes p p1 p2 first second = tt
